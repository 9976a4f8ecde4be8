-- What a run of bytes is, for the functions that read it.
use Rattle.std.proofs.Common.{◌≡◌, ℕ, zero, suc, ◌+◌, ◌≤◌, Bool, true, false, cond, List, [], ◌∷◌, length, take, drop, get_or, ◌-◌, refl, ap, ◌∙◌, arith}
use Rattle.std.proofs.Math.Seq.{take-length}
use Rattle.std.specs.List.{list_all}
use Rattle.std.proofs.lemmas.Bool.{and_from, le-leb}
use Rattle.kind_core.specs.Bytes.{is_letter, is_name, is_name_byte}
use Rattle.cmd_text.specs.Reading.{run_len}

run_passes : (test : ℕ → Bool) (k : ℕ) (xs : List ℕ) → list_all test (take (run_len test k xs) xs) ≡ true
run_passes test zero xs = refl
run_passes test (suc k) [] = refl
run_passes test (suc k) (x ∷ xs) = by (test x) refl (run_passes test k xs)
  where
    by : (b : Bool) → test x ≡ b → list_all test (take (run_len test k xs) xs) ≡ true → list_all test (take (cond b (suc (run_len test k xs)) 0) (x ∷ xs)) ≡ true
    by true e h = and_from _ _ e h
    by false e h = refl

run_short : (test : ℕ → Bool) (k : ℕ) (xs : List ℕ) → length (take (run_len test k xs) xs) ≤ k
run_short test zero xs = omega arith
run_short test (suc k) [] = omega arith
run_short test (suc k) (x ∷ xs) = by (test x) (run_short test k xs)
  where
    by : (b : Bool) → length (take (run_len test k xs) xs) ≤ k → length (take (cond b (suc (run_len test k xs)) 0) (x ∷ xs)) ≤ suc k
    by true h = omega arith
    by false h = omega arith

-- what is behind the first byte, as a slice pattern shows it
abbrev pub behind : List ℕ → List ℕ
behind bytes = take (length bytes - 1) (drop 1 bytes)

behind_cons : (x : ℕ) (xs : List ℕ) → behind (x ∷ xs) ≡ xs
behind_cons x xs = ap (λ n. take n xs) (omega arith) ∙ take-length xs

-- the bytes of a name that was read make one
pub name_run : (bytes : List ℕ) (len : ℕ) → 1 ≤ length bytes → is_letter (get_or bytes 0 0) ≡ true → len ≡ run_len is_name_byte 15 (behind bytes) → is_name (take (len + 1) bytes) ≡ true
name_run [] len l e r = absurd (omega (arith, l))
name_run (x ∷ xs) len l e r =
    let same : len ≡ run_len is_name_byte 15 xs = r ∙ ap (run_len is_name_byte 15) (behind_cons x xs) in
    let n = run_len is_name_byte 15 xs in
    let more : len + 1 ≡ suc n = omega arith in
    ap (λ k. is_name (take k (x ∷ xs))) more ∙ and_from _ _ (and_from _ _ e (le-leb (length (take n xs)) 15 (run_short is_name_byte 15 xs))) (run_passes is_name_byte 15 xs)
