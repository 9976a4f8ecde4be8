-- One Window more is laid out and open.
use Rattle.std.proofs.Common.{◌≡◌, ◌≢◌, ℕ, zero, suc, ◌<◌, Bool, true, false, nat_eq, List, ◌∷◌, length, get_or, refl, sym, ap, subst, ◌∙◌, arith}
use Rattle.std.specs.Prelude.{Some}
use Rattle.std.specs.List.{All, Contains}
use Rattle.std.specs.Option.{option_map}
use Rattle.std.proofs.lemmas.Bool.{eqb-true, eq-eqb, true≢false}
use Rattle.std.proofs.lemmas.List.Elements.{All-cons}
use Rattle.kind_core.specs.declared.kinds.Kind.TheVariants.{Window}
use Rattle.widget_model.specs.Rows.{Row}
use Rattle.widget_model.specs.Widgets.{Widgets, rows_of, row_at, row_kind, place_at}
use Rattle.widget_model.specs.Relatives.{root_id}
use Rattle.scene_model.specs.Placing.{place_in}
use Rattle.scene_core.specs.View.{AreWindows, KeepsPlaces}
use Rattle.scene_core.specs.Places.{HasPlaces}
use Rattle.stack_core.specs.Stack.{IsStack}

abbrev with_entries : Widgets → List (ℕ × Row) → Widgets
with_entries widgets entries = record widgets { entries = entries }

root_same : (old new : Widgets) (id : ℕ) → new.entries ≡ old.entries → root_id new id ≡ root_id old id
root_same old new id same = ap (λ (es : List (ℕ × Row)). root_id (with_entries old es) id) same

place_same : (old new : Widgets) (id : ℕ) → new.entries ≡ old.entries → option_map (place_in (rows_of new)) (row_at new.entries id) ≡ option_map (place_in (rows_of old)) (row_at old.entries id)
place_same old new id same = ap (λ (es : List (ℕ × Row)). option_map (place_in (rows_of (with_entries old es))) (row_at es id)) same

contains_later : (id window : ℕ) (ids : List ℕ) → Contains (id ∷ ids) window → id ≢ window → Contains ids window
contains_later id window ids at other = by at.0 at.1 at.2
  where
    by : (k : ℕ) → k < length (id ∷ ids) → get_or (id ∷ ids) k window ≡ window → Contains ids window
    by zero within is = absurd (other is)
    by (suc k) within is = (k, omega (arith, within), is)

pub KeepsPlaces-more : (old new : Widgets) (ids : List ℕ) (id : ℕ) → KeepsPlaces old ids → HasPlaces new id → ((other : ℕ) → root_id old other ≢ Some id → place_at new other ≡ place_at old other) → new.entries ≡ old.entries → KeepsPlaces new (id ∷ ids)
KeepsPlaces-more old new ids id kept placed others same = record { each = each }
  where
    by : (b : Bool) → (other window : ℕ) → nat_eq id window ≡ b → Contains (id ∷ ids) window → root_id new other ≡ Some window → place_at new other ≡ option_map (place_in (rows_of new)) (row_at new.entries other)
    by true other window e among root = placed.each other (root ∙ ap Some (sym (eqb-true id window e)))
    by false other window e among root =
        let apart : id ≢ window = λ q. true≢false (sym (eq-eqb id window q) ∙ e) in
        let above : root_id old other ≡ Some window = sym (root_same old new other same) ∙ root in
        let elsewhere : root_id old other ≢ Some id = λ q. apart (let one : Some id ≡ Some window = sym q ∙ above in cc) in
        others other elsewhere
        ∙ kept.each other window (contains_later id window ids among apart) above
        ∙ sym (place_same old new other same)

    each : (other window : ℕ) → Contains (id ∷ ids) window → root_id new other ≡ Some window → place_at new other ≡ option_map (place_in (rows_of new)) (row_at new.entries other)
    each other window among root = by (nat_eq id window) other window refl among root

pub AreWindows-more : (old new : Widgets) (ids : List ℕ) (id : ℕ) → AreWindows old ids → row_kind old.entries id ≡ Some Window → new.entries ≡ old.entries → IsStack (id ∷ ids) → AreWindows new (id ∷ ids)
AreWindows-more old new ids id windows kind same once =
    let P = λ (es : List (ℕ × Row)) (n : ℕ). row_kind es n ≡ Some Window in
    record {
      each = subst (λ (es : List (ℕ × Row)). All (P es) (id ∷ ids)) (sym same) (All-cons (P old.entries) id ids kind windows.each);
      once = once;
    }
