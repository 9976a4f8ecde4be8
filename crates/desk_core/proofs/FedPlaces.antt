-- Which kept places are the ones due after an input gave its values, and after the widgets of a client are laid out.
use Rattle.std.proofs.Common.{◌≡◌, ◌≤◌, ℕ, Bool, true, false, ◌||◌, nat_eq, List, Option, Some, None, refl, sym, ap, ◌∙◌, subst}
use Rattle.std.proofs.lemmas.Bool.{true≢false, or_parts, eqb-true, eq-eqb}
use Rattle.std.specs.Prelude.{ℤ}
use Rattle.std.specs.Option.{option_map, option_map_or}
use Rattle.geom_core.specs.declared.rectangle.Rect.{Rect}
use Rattle.widget_model.specs.Rows.{Row}
use Rattle.widget_model.specs.Keys.{key_of}
use Rattle.widget_model.specs.Named.{own_rows, row_named}
use Rattle.widget_model.specs.Widgets.{Widgets, IsLive, rows_of, row_at, place_at}
use Rattle.widget_model.specs.Forest.{IsWidgets}
use Rattle.widget_model.proofs.OwnRows.{row_named-agree}
use Rattle.tree_core.specs.declared.id.Id.{Id}
use Rattle.tree_core.proofs.Listed.{row_named-row}
use Rattle.tree_core.proofs.ForestLemmas.{number-client}
use Rattle.tree_core.proofs.TreeKept.{row-owned}
use Rattle.scene_model.specs.DuePlaces.{due_place}
use Rattle.scene_model.proofs.DuePlaces.{due_place-agree}
use Rattle.scene_core.specs.Laid.{with_places}
use Rattle.input_core.specs.declared.effects.Effects.{Effects}
use Rattle.input_core.specs.Seen.{key_seen, effects_seen}
use Rattle.desk_model.specs.Feeding.{rows_after}
use Rattle.desk_model.proofs.FedRows.{AsksOthers, own_rows-fed}
use Rattle.desk_layout.specs.Placed.{HaveDuePlaces}
use Rattle.desk_layout.specs.Settled.{IsSettled}
use Rattle.desk_layout.proofs.KeyNumbers.{number-named}
use Rattle.desk_inputs.specs.Carried.{HasRows}
use Rattle.desk_inputs.proofs.FedParts.{numbers-kept, owner-key}
use Rattle.desk_inputs.proofs.GivenValues.{key_seen-kept}
use Rattle.desk_core.specs.Feeding.{is_named, is_asked, HavePlacesBut, ChangesPlaces}

pub places-then : (a b c : Widgets) → ChangesPlaces a b → ChangesPlaces b c → ChangesPlaces a c
places-then a b c one two = record { same = two.same ∙ ap (with_places c.places) one.same; valid = two.valid }

-- what is due, by the same entries
pub due-entries : (a b : Widgets) (named : Option Id) (rest : ℕ → Bool) → ChangesPlaces a b → HavePlacesBut (λ client. is_named a.entries named client || rest client) b → HavePlacesBut (λ client. is_named b.entries named client || rest client) b
due-entries a b named rest is due =
    let same : b.entries ≡ a.entries = ap (λ (w : Widgets). w.entries) is.same in
    subst (λ (es : List (ℕ × Row)). HavePlacesBut (λ client. is_named es named client || rest client) b) (sym same) due

pub due-last : (w : Widgets) (test : ℕ → Bool) → HavePlacesBut test w → HavePlacesBut (λ client. test client || false) w
due-last w test due = record { each = λ id row there apart. due.each id row there (or_parts (test row.client) false apart).0 }

pub due-all : (w : Widgets) → HavePlacesBut (λ client. false) w → HaveDuePlaces w
due-all w due = record { each = λ id row there. due.each id row there refl }

other_way : (a b : ℕ) → nat_eq a b ≡ false → nat_eq b a ≡ false
other_way a b none = by (nat_eq b a) refl
  where
    by : (t : Bool) → nat_eq b a ≡ t → nat_eq b a ≡ false
    by false e = e
    by true e = absurd (true≢false (sym (eq-eqb a b (sym (eqb-true b a e))) ∙ none))

-- whose widget a number is, is 1 to 16
pub owner-range : (w : Widgets) (id client : ℕ) → IsWidgets w → option_map (λ (row : Row). row.client) (row_at w.entries id) ≡ Some client → (1 ≤ client) × (client ≤ 16)
owner-range w id client valid owner = by (row_at w.entries id) refl owner
  where
    by : (o : Option Row) → row_at w.entries id ≡ o → option_map (λ (row : Row). row.client) o ≡ Some client → (1 ≤ client) × (client ≤ 16)
    by None there h = absurd (cc)
    by (Some row) there h =
        let own = row-owned w id row valid there in
        let same : row.client ≡ client = cc in
        (subst (λ (n : ℕ). 1 ≤ n) same own.low, subst (λ (n : ℕ). n ≤ 16) same own.high)

pub owner-live : (w : Widgets) (id client : ℕ) → option_map (λ (row : Row). row.client) (row_at w.entries id) ≡ Some client → IsLive w id
owner-live w id client owner = by (row_at w.entries id) refl owner
  where
    by : (o : Option Row) → row_at w.entries id ≡ o → option_map (λ (row : Row). row.client) o ≡ Some client → IsLive w id
    by None there h = absurd (cc)
    by (Some row) there h = rw there refl

-- one client's widgets are laid out
pub due-laid : (client : ℕ) (id : Id) (old new : Widgets) (rest : ℕ → Bool) → option_map (λ (row : Row). row.client) (row_at old.entries id.key) ≡ Some client → 1 ≤ client → IsWidgets old → IsSettled client true old new
    → HavePlacesBut (λ c. is_named old.entries (Some id) c || rest c) old → HavePlacesBut rest new
due-laid client id old new rest owner low valid is due = record {
  each = λ n row there apart. by n row (ap (λ (w : Widgets). row_at w.entries n) (sym is.changed.same) ∙ there) apart (nat_eq client row.client) refl ∙ ap (λ (w : Widgets). due_place (rows_of w) row) (sym is.changed.same);
}
  where
    by : (n : ℕ) (row : Row) → row_at old.entries n ≡ Some row → rest row.client ≡ false → (b : Bool) → nat_eq client row.client ≡ b → place_at new n ≡ due_place (rows_of old) row
    by n row there apart true q = (is.laid refl).own n row there (sym (eqb-true client row.client q))
    by n row there apart false q =
        is.changed.others n (number-client client row.client n low (row-owned old n row valid there).own ∙ q)
        ∙ due.each n row there
        (ap (λ (b : Bool). b || rest row.client) (ap (nat_eq row.client) (owner-key old id client (owner-live old id.key client owner) owner) ∙ other_way client row.client q) ∙ apart)

-- of which clients no value is asked
asks-none : {X : Type 0} (es : List (ℕ × Row)) (client : ℕ) (o : Option (Id × X)) → is_named es (option_map (λ (set : Id × X). set.0) o) client ≡ false
    → option_map_or (λ (ask : (ℕ × List ℕ) × X). nat_eq client ask.0.0) (option_map (λ (set : Id × X). (key_seen es set.0, set.1)) o) false ≡ false
asks-none es client None none = refl
asks-none es client (Some set) none = none

moves-none : (es : List (ℕ × Row)) (client : ℕ) (o : Option (Id × ℤ × ℤ)) → is_named es (option_map (λ set. set.0) o) client ≡ false
    → option_map_or (λ (ask : (ℕ × List ℕ) × ℤ × ℤ). nat_eq client ask.0.0) (option_map (λ (set : Id × ℤ × ℤ). (key_seen es set.0, set.1, set.2)) o) false ≡ false
moves-none es client None none = refl
moves-none es client (Some set) none = none

asks-others : (es : List (ℕ × Row)) (effects : Effects) (client : ℕ) → is_asked es effects client ≡ false → AsksOthers client (effects_seen es effects)
asks-others es effects client none =
    let value = is_named es (option_map (λ set. set.0) effects.value) client in
    let text = is_named es (option_map (λ set. set.0) effects.text) client in
    let caret = is_named es (option_map (λ set. set.0) effects.caret) client in
    let moved = is_named es (option_map (λ set. set.0) effects.moved) client in
    let one = or_parts value (text || (caret || moved)) none in
    let two = or_parts text (caret || moved) one.1 in
    let three = or_parts caret moved two.1 in
    record {
      value = asks-none es client effects.value one.0;
      text = asks-none es client effects.text two.0;
      caret = asks-none es client effects.caret three.0;
      moved = moves-none es client effects.moved three.1;
    }

-- the values are given: the places of the clients of whom none is asked are due still
pub due-given : (w w' : Widgets) (effects : Effects) → IsWidgets w → IsWidgets w' → HaveDuePlaces w → HasRows w w' (rows_after (effects_seen w.entries effects) (rows_of w)) → HavePlacesBut (is_asked w'.entries effects) w'
due-given w w' effects valid sound due has = record { each = each }
  where
    named : (o : Option Id) (client : ℕ) → is_named w'.entries o client ≡ is_named w.entries o client
    named None client = refl
    named (Some id) client = ap (λ (key : ℕ × List ℕ). nat_eq client key.0) (key_seen-kept w.entries w'.entries id has.nodes)

    asked : (client : ℕ) → is_asked w'.entries effects client ≡ is_asked w.entries effects client
    asked client =
        let value = named (option_map (λ set. set.0) effects.value) client in
        let text = named (option_map (λ set. set.0) effects.text) client in
        let caret = named (option_map (λ set. set.0) effects.caret) client in
        let moved = named (option_map (λ set. set.0) effects.moved) client in
        λ i. value i || (text i || (caret i || moved i))

    each : (id : ℕ) (row : Row) → row_at w'.entries id ≡ Some row → is_asked w'.entries effects row.client ≡ false → place_at w' id ≡ due_place (rows_of w') row
    each id row there apart =
        ap (λ (places : List (Option Rect)). place_at (record w { places = places }) id) has.places
        ∙ due.each id row before
        ∙ sym (due_place-agree (rows_of w') (rows_of w) row rows)
      where
        rows : own_rows row.client (rows_of w') ≡ own_rows row.client (rows_of w)
        rows = ap (own_rows row.client) has.rows ∙ own_rows-fed row.client (effects_seen w.entries effects) (rows_of w) (asks-others w.entries effects row.client (sym (asked row.client) ∙ apart))

        was : row_named (rows_of w) row.client row.name ≡ Some row
        was = sym (row_named-agree row.client row.name (rows_of w') (rows_of w) rows) ∙ row_named-row w'.entries id row sound.numbered.own_numbers sound.rows.names there

        number : (n : ℕ) × (row_at w.entries n ≡ Some row)
        number = number-named w row valid was

        before : row_at w.entries id ≡ Some row
        before =
            ap (row_at w.entries) (sym ((numbers-kept w w' (rows_after (effects_seen w.entries effects) (rows_of w)) valid has).numbers (key_of row) number.0 id (ap (option_map key_of) number.1) (ap (option_map key_of) there)))
            ∙ number.1
