-- What the reading of a line says of the grammar.
use Rattle.std.proofs.Common.{◌≡◌, ◌⊎◌, inl, inr, ℕ, ◌-◌, ◌≤◌, List, ◌++◌, length, take, drop, Result, Ok, Err, refl, sym, ap, subst, ◌∙◌, arith, length-append, length-drop, take-append-drop}
use Rattle.std.proofs.Math.Seq.{take-append_seam}
use Rattle.cmd_words.specs.declared.commands.Command.{Command}
use Rattle.cmd_words.specs.Grammar.{command_line, Begins, IsPlace}
use Rattle.cmd_text.specs.ReadingLines.{line_at}
use Rattle.cmd_text.specs.Misread.{IsMisread}
use Rattle.cmd_text.specs.Laws.{EachLineIsTold, OnePlace}
use Rattle.cmd_text.proofs.Settling.{Stuck, Settles, left_le}
use Rattle.cmd_text.proofs.Lines.{line_reads}

settled : (xs : List ℕ) (r : Result Command ℕ) → r ≡ line_at xs → Settles command_line xs r
settled xs r e = let P : Result Command ℕ → Type 0 = λ z. Settles command_line xs z in subst P (sym e) (line_reads.settles xs)

pub found_line : (xs : List ℕ) (c : Command) → Ok c ≡ line_at xs → command_line xs c
found_line xs c e = (settled xs (Ok c) e).0

pub only_line : (xs : List ℕ) (c d : Command) → Ok c ≡ line_at xs → command_line xs d → c ≡ d
only_line xs c d e h = sym ((settled xs (Ok c) e).1 d h)

pub no_line : (xs : List ℕ) (left : ℕ) (d : Command) → Err left ≡ line_at xs → command_line xs d → ⊥
no_line xs left d e h = (settled xs (Err left) e).none d h

pub left_within : (xs : List ℕ) (left : ℕ) → Err left ≡ line_at xs → left ≤ length xs
left_within xs left e = left_le command_line xs left (settled xs (Err left) e)

front_taken : (xs front after : List ℕ) → xs ≡ front ++ after → take (length xs - length after) xs ≡ front
front_taken xs front after e =
    let n : length xs - length after ≡ length front = omega (arith, ap length e, length-append front after) in
    ap (λ k. take k xs) n ∙ ap (λ (ys : List ℕ). take (length front) ys) e ∙ take-append_seam front after

pub place_is : (xs : List ℕ) (left : ℕ) → Err left ≡ line_at xs → IsPlace xs (length xs - left)
place_is xs left e =
    let s : Stuck command_line xs left = settled xs (Err left) e in
    let P : List ℕ → Type 0 = λ u. Begins u in
    let n : take (length xs - left) xs ≡ s.front = ap (λ k. take (length xs - k) xs) (sym s.count) ∙ front_taken xs s.front s.after s.split in
    record {
      within = omega arith;
      begins = subst P (sym n) (s.more, s.of, s.begins);
      longest = λ q l b. let k : left ≤ length (drop q xs) = s.longest (take q xs) (drop q xs) b.0 b.1 (sym (take-append-drop q xs)) b.2 in omega (arith, k, length-drop q xs, left_le command_line xs left s);
    }

-- each line stands for a command or is misread at a place
pub each_line_is_told : EachLineIsTold
each_line_is_told xs = by (line_at xs) refl
  where
    by : (r : Result Command ℕ) → r ≡ line_at xs → ((c : Command) × command_line xs c) ⊎ ((p : ℕ) × IsMisread xs p)
    by (Ok c) e = inl (c, found_line xs c e)
    by (Err left) e = inr (length xs - left, record { none = λ c h. no_line xs left c e h; place = place_is xs left e })

-- a line has at most one place
pub one_place : OnePlace
one_place xs p q a b =
    let up : p ≤ q = b.longest p a.within a.begins in
    let down : q ≤ p = a.longest q b.within b.begins in
    omega arith
