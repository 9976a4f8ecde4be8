-- The first element that passes a test.
use Rattle.std.proofs.Common.{◌≡◌, ℕ, zero, suc, Bool, true, false, cond, nat_eq, List, [], ◌∷◌, Some, refl, ap, ◌∙◌, slice_get}
use Rattle.std.proofs.lemmas.Bool.{and_parts, eqb-true}
use Rattle.std.proofs.lemmas.Slice.Eq.{bytes_eq-Decides}
use Rattle.std.specs.Str.{bytes_eq}
use Rattle.std.specs.List.{find}
use Rattle.std.specs.Option.{option_map}
use Rattle.widget_model.specs.Rows.{Row}
use Rattle.widget_model.specs.Keys.{key_of, same_key}

-- all that pass have one key
pub find-only : (p : Row → Bool) (rows : List Row) (i : ℕ) (row : Row) → slice_get rows i ≡ Some row → p row ≡ true
    → ((j : ℕ) (other : Row) → slice_get rows j ≡ Some other → p other ≡ true → key_of other ≡ key_of row) → option_map key_of (find p rows) ≡ Some (key_of row)
find-only p [] i row there passes only = absurd (cc)
find-only p (first ∷ rows) zero row there passes only =
    let same : first ≡ row = cc in
    ap (λ (b : Bool). option_map key_of (cond b (Some first) (find p rows))) (ap p same ∙ passes) ∙ ap (λ (r : Row). Some (key_of r)) same
find-only p (first ∷ rows) (suc i) row there passes only = by (find-only p rows i row there passes (λ j other at. only (suc j) other at)) (p first) refl
  where
    by : option_map key_of (find p rows) ≡ Some (key_of row) → (b : Bool) → p first ≡ b → option_map key_of (cond b (Some first) (find p rows)) ≡ Some (key_of row)
    by rest true is = ap Some (only zero first refl is)
    by rest false is = rest

-- equal keys
pub same_key-true : (a b : ℕ × List ℕ) → same_key a b ≡ true → a ≡ b
same_key-true a b same =
    let parts = and_parts (nat_eq a.0 b.0) (bytes_eq a.1 b.1) same in
    let client : a.0 ≡ b.0 = eqb-true a.0 b.0 parts.0 in
    let name : a.1 ≡ b.1 = (bytes_eq-Decides a.1 b.1).0 parts.1 in
    ap (λ (n : ℕ). let key : ℕ × List ℕ = (n, a.1) in key) client ∙ ap (λ (ns : List ℕ). let key : ℕ × List ℕ = (b.0, ns) in key) name
