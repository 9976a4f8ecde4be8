-- Bytes that are told, through one call after another: what two calls append or take is one list.
use Rattle.std.proofs.Common.{ℕ, ◌+◌, ◌≤◌, List, [], ◌++◌, length, take, Option, Some, None, append_assoc, append-nil, length-append, arith, sym, ap, subst, ◌∙◌, refl}
use Rattle.std.proofs.lemmas.List.{take-append-le}
use Rattle.std.proofs.Math.Seq.{take-append-add}
use Rattle.std.specs.Io.KnownBytes.{Appends, Consumes, Keeps}
use Rattle.outside_io.specs.Sink.{AppendsFront}

-- nothing was appended where the bytes stayed
pub Appends-none : (old : Option (List ℕ)) → Appends old old []
Appends-none None = tt
Appends-none (Some held) = sym (append-nil held)

pub Appends-keeps : (old new : Option (List ℕ)) → Keeps old new → Appends old new []
Appends-keeps None new kept = tt
Appends-keeps (Some held) None kept = absurd kept
Appends-keeps (Some held) (Some after) kept = kept ∙ sym (append-nil held)

pub Appends-append : (old between new : Option (List ℕ)) (front rest : List ℕ) → Appends old between front → Appends between new rest → Appends old new (front ++ rest)
Appends-append None between new front rest first second = tt
Appends-append (Some held) None new front rest first second = absurd first
Appends-append (Some held) (Some more) None front rest first second = absurd second
Appends-append (Some held) (Some more) (Some all) front rest first second =
    second ∙ ap (λ xs. xs ++ rest) first ∙ append_assoc held front rest

-- a front of a text is a front of the longer text
pub AppendsFront-longer : (old new : Option (List ℕ)) (text more : List ℕ) → AppendsFront old new text → AppendsFront old new (text ++ more)
AppendsFront-longer old new text more front =
    let inside : front.count ≤ length text = front.within in
    record {
      count = front.count;
      within = omega (arith, length-append text more);
      appended = subst (Appends old new) (sym (take-append-le front.count text more inside)) front.appended;
    }

-- a whole text, and then a front of another
pub AppendsFront-after : (old between new : Option (List ℕ)) (text more : List ℕ) → Appends old between text → AppendsFront between new more → AppendsFront old new (text ++ more)
AppendsFront-after old between new text more first front = record {
  count = length text + front.count;
  within = (let inside : front.count ≤ length more = front.within in omega (arith, length-append text more));
  appended = subst (Appends old new) (sym (take-append-add text more front.count)) (Appends-append old between new text (take front.count more) first front.appended);
}

-- nothing was taken where the bytes stayed
pub Consumes-none : (old : Option (List ℕ)) → Consumes old old []
Consumes-none None = tt
Consumes-none (Some left) = refl

pub Consumes-keeps : (old new : Option (List ℕ)) → Keeps old new → Consumes old new []
Consumes-keeps None new kept = tt
Consumes-keeps (Some left) None kept = absurd kept
Consumes-keeps (Some left) (Some after) kept = sym kept

pub Consumes-append : (old between new : Option (List ℕ)) (front rest : List ℕ) → Consumes old between front → Consumes between new rest → Consumes old new (front ++ rest)
Consumes-append None between new front rest first second = tt
Consumes-append (Some left) None new front rest first second = absurd first
Consumes-append (Some left) (Some less) None front rest first second = absurd second
Consumes-append (Some left) (Some less) (Some least) front rest first second =
    first ∙ ap (λ xs. front ++ xs) second ∙ sym (append_assoc front rest least)
