-- The numbers that are watched around an input are those of all widgets that it may change.
use Rattle.std.proofs.Common.{◌≡◌, ℕ, ℤ, Bool, true, false, ◌||◌, nat_eq, List, [], ◌++◌, Option, Some, None, is_some, refl, sym, ap, ◌∙◌}
use Rattle.std.proofs.lemmas.Bool.{true≢false, eqb-true}
use Rattle.std.proofs.lemmas.List.Folds.{list_any-append}
use Rattle.std.specs.Prelude.{IfSome, unwrap_or}
use Rattle.std.specs.List.{list_any}
use Rattle.std.specs.Option.{option_map, option_and_then}
use Rattle.widget_model.specs.Rows.{Row}
use Rattle.widget_model.specs.Keys.{key_of, same_key}
use Rattle.widget_model.specs.Widgets.{Widgets, IsLive, row_at, key_at}
use Rattle.widget_model.specs.Forest.{IsWidgets}
use Rattle.tree_core.specs.declared.id.Id.{Id}
use Rattle.tree_core.specs.declared.pointer.Pointer.{Pointer}
use Rattle.tree_core.specs.Holds.{pointer_seen}
use Rattle.scene_model.specs.Scene.{Scene}
use Rattle.desk_model.specs.Scope.{is_among, keys_in, held_keys, given_keys, effects_scope}
use Rattle.input_core.specs.declared.effects.Effects.{Effects}
use Rattle.input_core.specs.Live.{AreLive}
use Rattle.input_core.specs.Seen.{key_seen, effects_seen}
use Rattle.touch_rules.specs.Laws.{WatchesScope}
use Rattle.touch_rules.specs.Telling.{numbers_in, held_numbers}
use Rattle.touch_rules.proofs.KeyNumbers.{number-among, among-either, held-among}
use Rattle.desk_core.specs.Watching.{given_numbers, effects_numbers, value_number}

module _ (w : Widgets) (valid : IsWidgets w) where
  -- the numbers of all widgets with these keys are among these
  record Cover (keys : List (ℕ × List ℕ)) (numbers : List ℕ) : Type 0 where
    each : (id : ℕ) (row : Row) → row_at w.entries id ≡ Some row → is_among keys (key_of row) ≡ true → list_any (nat_eq id) numbers ≡ true

  or_true : (b : Bool) → (b || true) ≡ true
  or_true true = refl
  or_true false = refl

  more-right : (keys : List (ℕ × List ℕ)) (numbers more : List ℕ) → Cover keys numbers → Cover keys (numbers ++ more)
  more-right keys numbers more cover = record {
    each = λ id row at among. list_any-append (nat_eq id) numbers more ∙ ap (λ (b : Bool). b || list_any (nat_eq id) more) (cover.each id row at among);
  }

  more-left : (keys : List (ℕ × List ℕ)) (numbers more : List ℕ) → Cover keys more → Cover keys (numbers ++ more)
  more-left keys numbers more cover = record {
    each = λ id row at among.
        list_any-append (nat_eq id) numbers more ∙ ap (λ (b : Bool). list_any (nat_eq id) numbers || b) (cover.each id row at among) ∙ or_true (list_any (nat_eq id) numbers);
  }

  both-covered : (first second : List (ℕ × List ℕ)) (numbers more : List ℕ) → Cover first numbers → Cover second more → Cover (first ++ second) (numbers ++ more)
  both-covered first second numbers more one two = record {
    each = λ id row at among. among-either (same_key (key_of row)) (nat_eq id) first second numbers more (one.each id row at) (two.each id row at) among;
  }

  -- the widget that gets a value
  asked-covered : (o : Option Id) → IfSome o (λ id. IsLive w id.key) → Cover (keys_in (option_map (key_seen w.entries) o)) (numbers_in (option_map (λ (id : Id). id.key) o))
  asked-covered o live = record {
    each = λ id row at among.
        number-among w.entries (option_map (λ (one : Id). one.key) o) id row valid.rows.names at (ap (λ (keys : Option (ℕ × List ℕ)). is_among (keys_in keys) (key_of row)) (seen o live) ∙ among);
  }
    where
      some : (r : Option Row) → is_some r ≡ true → option_map key_of r ≡ Some (unwrap_or (option_map key_of r) (0, []))
      some None there = absurd (true≢false (sym there))
      some (Some row) there = refl

      seen : (o : Option Id) → IfSome o (λ id. IsLive w id.key) → option_and_then (key_at w.entries) (option_map (λ (one : Id). one.key) o) ≡ option_map (key_seen w.entries) o
      seen None there = refl
      seen (Some id) there = some (row_at w.entries id.key) there

  value-covered : {X : Type 0} (o : Option (Id × X)) → IfSome o (λ set. IsLive w set.0.key)
      → Cover (keys_in (option_map (λ (set : (ℕ × List ℕ) × X). set.0) (option_map (λ (set : Id × X). (key_seen w.entries set.0, set.1)) o))) (numbers_in (option_map (λ (id : Id). id.key) (option_map (λ (set : Id × X). set.0) o)))
  value-covered None live = asked-covered None live
  value-covered (Some set) live = asked-covered (Some set.0) live

  moved-covered : (o : Option (Id × ℤ × ℤ)) → IfSome o (λ set. IsLive w set.0.key)
      → Cover (keys_in (option_map (λ (set : (ℕ × List ℕ) × ℤ × ℤ). set.0) (option_map (λ (set : Id × ℤ × ℤ). (key_seen w.entries set.0, set.1, set.2)) o))) (numbers_in (option_map (λ (id : Id). id.key) (option_map (λ (set : Id × ℤ × ℤ). set.0) o)))
  moved-covered None live = asked-covered None live
  moved-covered (Some set) live = asked-covered (Some set.0) live

  given-covered : (effects : Effects) → AreLive w effects → Cover (given_keys (effects_seen w.entries effects)) (given_numbers effects)
  given-covered effects live =
      both-covered _ _ _ _
      (both-covered _ _ _ _
      (both-covered _ _ _ _ (value-covered {X = ℤ} effects.value live.value) (value-covered {X = List ℕ} effects.text live.text))
      (value-covered {X = ℤ} effects.caret live.caret))
      (moved-covered effects.moved live.moved)

  -- what the pointer holds
  held-covered : (pointer : Pointer) → Cover (held_keys (pointer_seen w.entries pointer)) (held_numbers pointer)
  held-covered pointer = record { each = λ id row at among. held-among w.entries pointer id row valid.rows.names at among }

  one-number : (o : Option ℕ) (id : ℕ) → list_any (nat_eq id) (numbers_in o) ≡ true → o ≡ Some id
  one-number None id among = absurd (true≢false (sym among))
  one-number (Some number) id among = by (nat_eq id number) refl among
    where
      by : (b : Bool) → nat_eq id number ≡ b → (b || false) ≡ true → Some number ≡ Some id
      by true e h = ap Some (sym (eqb-true id number e))
      by false e h = absurd (true≢false (sym h))

  pub watches-scope : (pointer : Pointer) (effects : Effects) (windows : List ℕ) (scene : Scene) → AreLive w effects
      → WatchesScope (effects_scope (pointer_seen w.entries pointer) (effects_seen w.entries effects)) (effects_numbers pointer effects) (value_number effects) (record { widgets = w; windows = windows; scene = scene })
  watches-scope pointer effects windows scene live = record {
    rows = λ id row at among. (more-right _ (given_numbers effects) (held_numbers pointer ++ held_numbers effects.pointer) (given-covered effects live)).each id row at among;
    held = λ id row at among. (more-left _ (given_numbers effects) (held_numbers pointer ++ held_numbers effects.pointer) (both-covered _ _ _ _ (held-covered pointer) (held-covered effects.pointer))).each id row at among;
    values = λ id row at among. one-number (value_number effects) id ((value-covered {X = ℤ} effects.value live.value).each id row at among);
  }
