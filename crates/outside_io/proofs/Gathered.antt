-- Output that is gathered, through one call after another: what two calls put is one text, and what a flush
-- writes is what waited.
use Rattle.std.proofs.Common.{◌≡◌, ℕ, List, [], ◌++◌, Option, Result, Ok, Err, OnOk, OnErr, append_assoc, append-nil, sym, ap, subst, ◌∙◌}
use Rattle.std.specs.Io.KnownBytes.{Appends}
use Rattle.outside_io.specs.Sink.{AppendsFront}
use Rattle.outside_io.specs.Outbox.{Output, Puts, PutsFront, output, flushed}
use Rattle.outside_io.proofs.Told.{Appends-none, Appends-append, AppendsFront-longer, AppendsFront-after}

-- nothing was put
pub Puts-none : (out : Output) → Puts out out []
Puts-none out = record { written = []; cut = append-nil out.waiting; appended = Appends-none out.held }

-- one text, and then another
pub Puts-append : (old between new : Output) (text more : List ℕ) → Puts old between text → Puts between new more → Puts old new (text ++ more)
Puts-append old between new text more first second = record {
  written = first.written ++ second.written;
  cut = sym (append_assoc old.waiting text more)
      ∙ ap (λ xs. xs ++ more) first.cut
      ∙ append_assoc first.written between.waiting more
      ∙ ap (λ xs. first.written ++ xs) second.cut
      ∙ sym (append_assoc first.written second.written new.waiting);
  appended = Appends-append old.held between.held new.held first.written second.written first.appended second.appended;
}

-- a front of what waited and a text is a front of the longer text
pub PutsFront-longer : (old new : Output) (text more : List ℕ) → PutsFront old new text → PutsFront old new (text ++ more)
PutsFront-longer old new text more front =
    subst (AppendsFront old.held new.held) (append_assoc old.waiting text more) (AppendsFront-longer old.held new.held (old.waiting ++ text) more front)

-- a text was put, and the writing broke off in what waited then and another
pub PutsFront-after : (old between new : Output) (text more : List ℕ) → Puts old between text → PutsFront between new more → PutsFront old new (text ++ more)
PutsFront-after old between new text more first front =
    subst (AppendsFront old.held new.held)
    (sym (append_assoc first.written between.waiting more) ∙ ap (λ xs. xs ++ more) (sym first.cut) ∙ append_assoc old.waiting text more)
    (AppendsFront-after old.held between.held new.held first.written (between.waiting ++ more) first.appended front)

-- a text was put, and all that waited then was written
pub Puts-flushed : (old between : Output) (held : Option (List ℕ)) (text : List ℕ) → Puts old between text → Appends between.held held between.waiting → Puts old (flushed held) text
Puts-flushed old between held text first wrote = record {
  written = first.written ++ between.waiting;
  cut = first.cut ∙ sym (append-nil (first.written ++ between.waiting));
  appended = Appends-append old.held between.held held first.written between.waiting first.appended wrote;
}

-- a text was put, and the writing broke off in what waited then
pub PutsFront-flushed : (old between new : Output) (text : List ℕ) → Puts old between text → AppendsFront between.held new.held between.waiting → PutsFront old new text
PutsFront-flushed old between new text first front =
    subst (AppendsFront old.held new.held) (sym first.cut) (AppendsFront-after old.held between.held new.held first.written between.waiting first.appended front)

-- where nothing waits before and after, the sink has gained what was put
pub Appends-put : (old new : Option (List ℕ)) (text : List ℕ) → Puts (flushed old) (flushed new) text → Appends old new text
Appends-put old new text put = subst (Appends old new) (sym (put.cut ∙ append-nil put.written)) put.appended

-- what waited was written, and then the bytes themselves, or a front of them
pub put_through : {T E : Type 0} (wrote : Result T E) (old between new : Option (List ℕ)) (waited left bytes : List ℕ) → Appends old between waited → left ≡ [] → OnOk wrote (Appends between new bytes) → OnOk wrote (Puts (output old waited) (output new left) bytes)
put_through (Ok x) old between new waited left bytes first none second = record {
  written = waited ++ bytes;
  cut = sym (append-nil (waited ++ bytes)) ∙ ap (λ xs. (waited ++ bytes) ++ xs) (sym none);
  appended = Appends-append old between new waited bytes first second;
}
put_through (Err e) old between new waited left bytes first none second = tt

pub put_through_in_part : {T E : Type 0} (wrote : Result T E) (old between new : Option (List ℕ)) (waited left bytes : List ℕ) → Appends old between waited → OnErr wrote (AppendsFront between new bytes) → OnErr wrote (PutsFront (output old waited) (output new left) bytes)
put_through_in_part (Ok x) old between new waited left bytes first front = tt
put_through_in_part (Err e) old between new waited left bytes first front = AppendsFront-after old between new waited bytes first front
