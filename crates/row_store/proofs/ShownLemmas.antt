-- What the numbered rows are after a row is put under a new key, changed, or taken out.
use Rattle.std.proofs.Common.{◌≡◌, ◌≢◌, ℕ, zero, suc, true, false, cond, nat_eq, List, [], ◌∷◌, ◌++◌, length, Option, Some, None, is_some, refl, sym, ap, ◌∙◌, inl, inr, slice_get, arith}
use Rattle.std.proofs.lemmas.Bool.{true≢false, eqb-true, eq-eqb, ne_eqb, eqb-false, cases_Bool}
use Rattle.std.specs.Option.{option_and_then}
use Rattle.std.specs.Map.{lookup, remove_entry}
use Rattle.slab.specs.Slab.{Slab, get as slab_get, with_value}
use Rattle.slab.proofs.SlabLemmas.{Updates-with_value}
use Rattle.widget_model.specs.Rows.{Row}
use Rattle.widget_model.specs.Widgets.{row_at, with_row, without_row}
use Rattle.row_store.specs.Shown.{shown, IsApart, IsShown}
use Rattle.row_store.proofs.Options.{none_or_some}

nat_eq_refl : (a : ℕ) → nat_eq a a ≡ true
nat_eq_refl a = eq-eqb a a refl

nat_eq_symm : (a b : ℕ) → nat_eq a b ≡ false → nat_eq b a ≡ false
nat_eq_symm a b h = ne_eqb b a (λ e. eqb-false a b h (sym e))

module _ (at : ℕ → Option Row) where
  pub length-shown : (es : List (ℕ × ℕ)) → IsShown at es → length (shown at es) ≡ length es
  length-shown [] h = refl
  length-shown (e ∷ es) h = let rest = length-shown es h.2 in let there = h.0 in grind (arith, rest, there)

  -- a number finds what its key has
  pub row_at-shown : (es : List (ℕ × ℕ)) (id : ℕ) → IsShown at es → row_at (shown at es) id ≡ option_and_then at (lookup (nat_eq id) es)
  row_at-shown [] id h = refl
  row_at-shown (e ∷ es) id h = let rest = row_at-shown es id h.2 in let there = h.0 in grind (arith, rest, there)

  -- the key at an index has a row
  pub slice_get-live : (es : List (ℕ × ℕ)) (i id key : ℕ) → IsShown at es → slice_get es i ≡ Some (id, key) → is_some (at key) ≡ true
  slice_get-live [] i id key h there = absurd (cc)
  slice_get-live (e ∷ es) zero id key h there = let same : e ≡ (id, key) = cc in rw same at h.0
  slice_get-live (e ∷ es) (suc i) id key h there = slice_get-live es i id key h.2 there

  -- the row at an index is the one under the key there
  pub slice_get-shown : (es : List (ℕ × ℕ)) (i id key : ℕ) (row : Row) → IsShown at es → slice_get es i ≡ Some (id, key) → at key ≡ Some row → slice_get (shown at es) i ≡ Some (id, row)
  slice_get-shown [] i id key row h there found = absurd (cc)
  slice_get-shown (e ∷ es) zero id key row h there found =
      let same : e ≡ (id, key) = cc in
      rw (same, found) refl
  slice_get-shown (e ∷ es) (suc i) id key row h there found = let rest = slice_get-shown es i id key row h.2 there found in let some = h.0 in grind (arith, rest, some)

  -- the key of a listed number has a row
  pub lookup-live : (es : List (ℕ × ℕ)) (id key : ℕ) → IsShown at es → lookup (nat_eq id) es ≡ Some key → is_some (at key) ≡ true
  lookup-live [] id key h found = absurd (cc)
  lookup-live (e ∷ es) id key h found = let here = h.0 in grind (arith, here, lookup-live es id key h.2)

  -- a number with a row is listed, and one without isn't
  pub listed : (es : List (ℕ × ℕ)) (id : ℕ) → IsShown at es → is_some (row_at (shown at es) id) ≡ true → is_some (lookup (nat_eq id) es) ≡ true
  listed es id h there = by (lookup (nat_eq id) es) (sym (ap is_some (row_at-shown es id h)) ∙ there)
    where
      by : (o : Option ℕ) → is_some (option_and_then at o) ≡ true → is_some o ≡ true
      by None p = p
      by (Some key) p = refl

  pub unlisted : (es : List (ℕ × ℕ)) (id : ℕ) → IsShown at es → row_at (shown at es) id ≡ None → lookup (nat_eq id) es ≡ None
  unlisted es id h absent = by (lookup (nat_eq id) es) refl
    where
      by : (o : Option ℕ) → lookup (nat_eq id) es ≡ o → lookup (nat_eq id) es ≡ None
      by None p = p
      by (Some key) p = absurd (true≢false (sym (lookup-live es id key h p) ∙ ap is_some (sym (row_at-shown es id h ∙ ap (option_and_then at) p) ∙ absent)))

module _ (at at' : ℕ → Option Row) (key : ℕ) (others : (other : ℕ) → other ≢ key → at' other ≡ at other) where
  -- a list without the key is shown as before
  pub shown_others : (es : List (ℕ × ℕ)) (id : ℕ) → IsShown at es → IsApart (id, key) es → (shown at' es ≡ shown at es) × IsShown at' es
  shown_others [] id h apart = (refl, tt)
  shown_others (e ∷ es) id h apart =
      let rest = shown_others es id h.2 apart.2 in
      let same : at' e.1 ≡ at e.1 = others e.1 (λ q. eqb-false key e.1 apart.1 (sym q)) in
      (rw (same, rest.0) refl, (rw same h.0, h.1, rest.1))

  -- a vacant key is apart from all listed ones
  vacant_apart : (es : List (ℕ × ℕ)) (id : ℕ) → IsShown at es → at key ≡ None → lookup (nat_eq id) es ≡ None → IsApart (id, key) es
  vacant_apart [] id h vacant absent = tt
  vacant_apart (e ∷ es) id h vacant absent =
      elim (cases_Bool (nat_eq id e.0)) [
        | inl hit ↦ absurd (no_such hit absent)
        | inr miss ↦ (miss, ne_eqb key e.1 (λ q. true≢false (sym h.0 ∙ ap is_some (ap at (sym q) ∙ vacant))), vacant_apart es id h.2 vacant (rw miss at absent))
      ]
    where
      no_such : nat_eq id e.0 ≡ true → cond (nat_eq id e.0) (Some e.1) (lookup (nat_eq id) es) ≡ None → ⊥
      no_such hit absent = let g = rw hit at absent in cc

  apart_last : (es : List (ℕ × ℕ)) (e : ℕ × ℕ) (id : ℕ) → IsApart e es → nat_eq e.0 id ≡ false → nat_eq e.1 key ≡ false → IsApart e (es ++ (id, key) ∷ [])
  apart_last [] e id apart p q = (p, q, tt)
  apart_last (f ∷ fs) e id apart p q = (apart.0, apart.1, apart_last fs e id apart.2 p q)

  -- a row under a new key is shown last
  pub shown-push : (es : List (ℕ × ℕ)) (id : ℕ) (row : Row) → IsShown at es → IsApart (id, key) es → at' key ≡ Some row → (shown at' (es ++ (id, key) ∷ []) ≡ shown at es ++ (id, row) ∷ []) × IsShown at' (es ++ (id, key) ∷ [])
  shown-push [] id row h apart there = (rw there refl, (rw there refl, tt, tt))
  shown-push (e ∷ es) id row h apart there =
      let rest = shown-push es id row h.2 apart.2 there in
      let p = none_or_some (at e.1) h.0 in
      let same : at' e.1 ≡ at e.1 = others e.1 (λ q. eqb-false key e.1 apart.1 (sym q)) in
      (rw (same, p.1, rest.0) refl, (rw same h.0, apart_last es e id h.1 (nat_eq_symm id e.0 apart.0) (nat_eq_symm key e.1 apart.1), rest.1))

  pub shown-insert : (es : List (ℕ × ℕ)) (id : ℕ) (row : Row) → IsShown at es → at key ≡ None → lookup (nat_eq id) es ≡ None → at' key ≡ Some row → (shown at' (es ++ (id, key) ∷ []) ≡ shown at es ++ (id, row) ∷ []) × IsShown at' (es ++ (id, key) ∷ [])
  shown-insert es id row h vacant absent there = shown-push es id row h (vacant_apart es id h vacant absent) there

  -- a list without the number is changed nowhere
  with_row_absent : (es : List (ℕ × ℕ)) (id : ℕ) (change : Row → Row) → IsShown at es → IsApart (id, key) es → with_row id change (shown at es) ≡ shown at es
  with_row_absent [] id change h apart = refl
  with_row_absent (e ∷ es) id change h apart = let rest = with_row_absent es id change h.2 apart.2 in let there = h.0 in let other = apart.0 in grind (arith, rest, there, other)

  without_row_absent : (es : List (ℕ × ℕ)) (id : ℕ) → IsShown at es → IsApart (id, key) es → without_row id (shown at es) ≡ shown at es
  without_row_absent [] id h apart = refl
  without_row_absent (e ∷ es) id h apart = let rest = without_row_absent es id h.2 apart.2 in let there = h.0 in let other = apart.0 in grind (arith, rest, there, other)

  -- an entry that is apart from a list has another key than a number of the list
  apart_key : (es : List (ℕ × ℕ)) (e : ℕ × ℕ) (id : ℕ) → IsApart e es → lookup (nat_eq id) es ≡ Some key → nat_eq e.1 key ≡ false
  apart_key [] e id apart found = absurd (cc)
  apart_key (f ∷ fs) e id apart found = let other = apart.1 in grind (arith, other, apart_key fs e id apart.2)

  -- the first entry with the number is the one that was found
  first_found : (e : ℕ × ℕ) (es : List (ℕ × ℕ)) (id : ℕ) → nat_eq id e.0 ≡ true → lookup (nat_eq id) (e ∷ es) ≡ Some key → e ≡ (id, key)
  first_found e es id hit found =
      let g = rw hit at found in
      let number : e.1 ≡ key = cc in
      λ i. (sym (eqb-true id e.0 hit) i, number i)

  -- the row under a listed key is shown changed, where its number stands
  pub shown-change : (es : List (ℕ × ℕ)) (id : ℕ) (row : Row) (change : Row → Row) → IsShown at es → lookup (nat_eq id) es ≡ Some key → at key ≡ Some row → at' key ≡ Some (change row) → (shown at' es ≡ with_row id change (shown at es)) × IsShown at' es
  shown-change [] id row change h found was is = absurd (cc)
  shown-change (e ∷ es) id row change h found was is =
      elim (cases_Bool (nat_eq id e.0)) [
        | inl hit ↦
            let same = first_found e es id hit found in
            let apart : IsApart (id, key) es = rw (← same) h.1 in
            let rest = shown_others es id h.2 apart in
            let here : at e.1 ≡ Some row = rw same was in
            let there : at' e.1 ≡ Some (change row) = rw same is in
            (rw (there, here, hit, rest.0, with_row_absent es id change h.2 apart) refl, (rw there refl, h.1, rest.1))
        | inr miss ↦
            let later : lookup (nat_eq id) es ≡ Some key = rw miss at found in
            let rest = shown-change es id row change h.2 later was is in
            let p = none_or_some (at e.1) h.0 in
            let same : at' e.1 ≡ at e.1 = others e.1 (eqb-false e.1 key (apart_key es e id h.1 later)) in
            (rw (same, p.1, miss, rest.0) refl, (rw same h.0, h.1, rest.1))
      ]

  -- an entry that is apart from a list is apart from a part of it
  apart_part : (es : List (ℕ × ℕ)) (e : ℕ × ℕ) (id : ℕ) → IsApart e es → IsApart e (remove_entry (nat_eq id) es)
  apart_part [] e id apart = tt
  apart_part (f ∷ fs) e id apart =
      elim (cases_Bool (nat_eq id f.0)) [
        | inl hit ↦ rw hit apart.2
        | inr miss ↦ rw miss (apart.0, apart.1, apart_part fs e id apart.2)
      ]

  -- the row under a listed key is gone
  pub shown-remove : (es : List (ℕ × ℕ)) (id : ℕ) → IsShown at es → lookup (nat_eq id) es ≡ Some key → (shown at' (remove_entry (nat_eq id) es) ≡ without_row id (shown at es)) × IsShown at' (remove_entry (nat_eq id) es)
  shown-remove [] id h found = absurd (cc)
  shown-remove (e ∷ es) id h found =
      elim (cases_Bool (nat_eq id e.0)) [
        | inl hit ↦
            let same = first_found e es id hit found in
            let apart : IsApart (id, key) es = rw (← same) h.1 in
            let rest = shown_others es id h.2 apart in
            let p = none_or_some (at e.1) h.0 in
            (rw (hit, p.1, hit, rest.0, without_row_absent es id h.2 apart) refl, rw hit rest.1)
        | inr miss ↦
            let later : lookup (nat_eq id) es ≡ Some key = rw miss at found in
            let rest = shown-remove es id h.2 later in
            let p = none_or_some (at e.1) h.0 in
            let same : at' e.1 ≡ at e.1 = others e.1 (eqb-false e.1 key (apart_key es e id h.1 later)) in
            (rw (miss, same, p.1, miss, rest.0) refl, rw miss (rw same h.0, apart_part es e id h.1, rest.1))
      ]

-- the rows that are seen once the one under a number has changed in the slab
pub shown-changed : (rows : Slab Row) (keys : List (ℕ × ℕ)) (id key : ℕ) (old new : Row) (change : Row → Row) → IsShown (slab_get rows) keys → lookup (nat_eq id) keys ≡ Some key → slab_get rows key ≡ Some old → new ≡ change old → (shown (slab_get (with_value rows key new)) keys ≡ with_row id change (shown (slab_get rows) keys)) × IsShown (slab_get (with_value rows key new)) keys
shown-changed rows keys id key old new change kept found there same =
    let u = Updates-with_value rows key new (lookup-live (slab_get rows) keys id key kept found) in
    shown-change (slab_get rows) (slab_get (with_value rows key new)) key u.others keys id old change kept found there (u.changed ∙ ap Some same)
