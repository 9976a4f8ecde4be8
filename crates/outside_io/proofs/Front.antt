-- A buffer whose front was filled with the first of what is left.
use Rattle.std.proofs.Common.{◌≡◌, ℕ, ◌+◌, ◌≤◌, List, ◌++◌, length, take, drop, sym, ap, ◌∙◌, arith}
use Rattle.std.proofs.lemmas.Grind.{common_steps}
use Rattle.std.proofs.lemmas.List.{take-append-drop, take-take, drop-take, drop-drop}

-- what was given stands in front of what is left then
pub take-filled : (left room : List ℕ) (n : ℕ) → n ≤ length left → take n (take n left ++ drop n room) ≡ take n left
take-filled left room n h = grind (arith, common_steps)

pub front_and_rest : (bytes room new : List ℕ) (taken n : ℕ) → n ≤ length (drop taken bytes) → new ≡ take n (drop taken bytes) ++ drop n room → drop taken bytes ≡ take n new ++ drop (taken + n) bytes
front_and_rest bytes room new taken n fits copied =
    rw (copied, take-filled _ room n fits, ← drop-drop) (sym (take-append-drop n (drop taken bytes)))

-- two pieces that follow each other are one piece
pub take-append-take : (n m : ℕ) (xs : List ℕ) → take n xs ++ take m (drop n xs) ≡ take (n + m) xs
take-append-take n m xs =
    ap (λ l. l ++ take m (drop n xs)) (sym (take-take n (n + m) xs (omega arith))) ∙ ap (λ l. take n (take (n + m) xs) ++ l) (sym (drop-take n m xs)) ∙ take-append-drop n (take (n + m) xs)
