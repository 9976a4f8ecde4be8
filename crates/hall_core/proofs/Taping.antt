-- The one step of a tape's table keeps its rule.
use Rattle.std.proofs.Common.{◌≡◌, ℕ, zero, suc, ◌+◌, ◌%◌, ◌^◌, [], ◌∷◌, ◌++◌, length, refl, sym, ap, ◌∙◌, subst, arith, length-append}
use Rattle.std.specs.Prelude.{slice_index, slice_set}
use mathlib.Core.Option.{some, some-ne-none, some-injective}
use lib.ListN.{get_elem?}
use Rattle.atomic_table.specs.Table.{Me, keeps, Allows}
use Rattle.hall_core.specs.declared.entry.Entry.{Entry}
use Rattle.hall_core.specs.declared.tape.Written.{Written}
use Rattle.hall_core.specs.Tape.{IsCounted, Appended}

-- of a list of one, what stands at a place is that one
alone : {X : Type 0} (x y : X) (k : ℕ) → get_elem? (x ∷ []) k ≡ some y → (k ≡ 0) × (x ≡ y)
alone x y zero e = (refl, some-injective _ _ e)
alone x y (suc k) e = absurd (some-ne-none y (sym e))

one_more : (n : ℕ) → (n % 2 ^ 64 + 1) % 2 ^ 64 ≡ (n + 1) % 2 ^ 64
one_more n = omega arith

pub appends : (entry : Entry) (slots id : ℕ) (me : Me ℕ Written) → me.1 ≡ [] → Allows IsCounted slots id me 0 (λ n. (n + 1) % 2 ^ 64) (Appended entry me)
appends entry slots id me free s counted size at small =
    let written = counted.written in
    let here = alone written me.0 id (subst (λ views. get_elem? views id ≡ some me.0) counted.views at) in
    let now : Written = record { entries = me.0.entries ++ entry ∷ [] } in
    let many : length now.entries ≡ length me.0.entries + 1 = length-append me.0.entries (entry ∷ []) in
    let found : slice_index s.words 0 ≡ length me.0.entries % 2 ^ 64 = ap (λ ws. slice_index ws 0) counted.words ∙ ap (λ (v : Written). length v.entries % 2 ^ 64) here.1 in
    let word : (slice_index s.words 0 + 1) % 2 ^ 64 ≡ length now.entries % 2 ^ 64 = ap (λ n. (n + 1) % 2 ^ 64) found ∙ one_more (length me.0.entries) ∙ ap (λ n. n % 2 ^ 64) (sym many) in (
      now,
      keeps,
      tt,
      record {
        written = now;
        views = ap (λ k. slice_set s.views k now) here.0 ∙ ap (λ views. slice_set views 0 now) counted.views;
        words = ap (λ ws. slice_set ws 0 ((slice_index s.words 0 + 1) % 2 ^ 64)) counted.words ∙ ap (λ n. n ∷ []) word;
      },
      record { entries = refl; number = found; slots = refl },
    )
