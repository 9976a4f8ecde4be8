-- The rows, and what the pointer holds, under a key that isn't among those that a change names.
use Rattle.std.proofs.Common.{◌≡◌, ℕ, ℤ, Bool, true, false, cond, ◌&&◌, not, nat_eq, List, [], ◌∷◌, ◌++◌, Option, Some, None, refl, sym, ap, ◌∙◌, arith}
use Rattle.std.proofs.lemmas.Bool.{cond-false, or_parts}
use Rattle.std.proofs.lemmas.List.{get_or-set_other}
use Rattle.std.proofs.lemmas.List.Folds.{find-append, list_any-append}
use Rattle.std.specs.Cmp.{nat_eq_equiv}
use Rattle.std.specs.Cmp.Lexicographic.{nat_list_eq_equiv}
use Rattle.std.specs.Option.{option_map, option_map_or, option_or}
use Rattle.std.specs.Str.{bytes_eq}
use Rattle.kind_core.specs.declared.kinds.Attr.{Attr}
use Rattle.kind_core.specs.declared.kinds.Attr.TheVariants.{X, Y, Text, Caret, Value}
use Rattle.kind_core.specs.declared.values.Value as value
use Rattle.widget_model.specs.Rows.{Row, attr_slot, with_attr}
use Rattle.widget_model.specs.Named.{has_name, with_named, without_named}
use Rattle.widget_model.specs.Keys.{key_of, same_key, row_of}
use Rattle.widget_model.specs.Pointer.{Grab, no_grab, on_widget, drags}
use Rattle.widget_model.proofs.Hanging.{IsNamed, IsNamed-row_named, LeavesNames, row_named-changed_other, row_named-filter}
use Rattle.scene_model.specs.Values.{number_in, number_of}
use Rattle.scene_model.specs.LookOf.{grabs}
use Rattle.desk_model.specs.InputEffects.{Effects}
use Rattle.desk_model.specs.LetGo.{grab_left, focus_left}
use Rattle.desk_model.specs.Feeding.{grabbed, rows_after}
use Rattle.desk_model.specs.Scope.{is_among, keys_in, given_keys}
use Rattle.desk_model.proofs.FedRows.{valued_at, numbered, texted, shifted, fed_row, row_named-fed}

same_key-turned : (a b : ℕ × List ℕ) → same_key a b ≡ same_key b a
same_key-turned a b = rw (nat_eq_equiv.symm a.0 b.0, nat_list_eq_equiv.symm a.1 b.1) refl

-- a key that isn't among two lists of keys is in neither
pub is_among-parts : (keys more : List (ℕ × List ℕ)) (key : ℕ × List ℕ) → is_among (keys ++ more) key ≡ false → (is_among keys key ≡ false) × (is_among more key ≡ false)
is_among-parts keys more key apart = or_parts (is_among keys key) (is_among more key) (sym (list_any-append (same_key key) keys more) ∙ apart)

-- a key that isn't the named one
pub not_named : (client : ℕ) (name : List ℕ) (key : ℕ × List ℕ) → is_among ((client, name) ∷ []) key ≡ false → same_key (client, name) key ≡ false
not_named client name key apart = same_key-turned (client, name) key ∙ (or_parts (same_key key (client, name)) false apart).0

-- A change of the named row leaves all others.
pub row_of-named : (rows : List Row) (client : ℕ) (name : List ℕ) (change : Row → Row) (key : ℕ × List ℕ) → LeavesNames change → is_among ((client, name) ∷ []) key ≡ false → row_of (with_named client name change rows) key ≡ row_of rows key
row_of-named rows client name change key leaves apart = row_named-changed_other rows client name change key.0 key.1 leaves (not_named client name key apart)

-- A row put last leaves all others.
pub row_of-push : (rows : List Row) (row : Row) (key : ℕ × List ℕ) → is_among (key_of row ∷ []) key ≡ false → row_of (rows ++ row ∷ []) key ≡ row_of rows key
row_of-push rows row key apart = find-append (has_name key.0 key.1) rows (row ∷ []) ∙ ap (option_or (row_of rows key)) last ∙ by (row_of rows key)
  where
    last : row_of (row ∷ []) key ≡ None
    last = cond-false (has_name key.0 key.1 row) (Some row) None (or_parts (same_key key (key_of row)) false apart).0

    by : (found : Option Row) → option_or found None ≡ found
    by None = refl
    by (Some other) = refl

-- Where the named row is left out, all others stay.
pub row_of-without : (rows : List Row) (client : ℕ) (name : List ℕ) (key : ℕ × List ℕ) → is_among ((client, name) ∷ []) key ≡ false → row_of (without_named client name rows) key ≡ row_of rows key
row_of-without rows client name key apart =
    row_named-filter (λ (owner : ℕ) (other : List ℕ). not (nat_eq client owner && bytes_eq name other)) rows key.0 key.1 (ap not (not_named client name key apart))

-- what an input makes of the row under a key
module _ (key : ℕ × List ℕ) (row : Row) (named : IsNamed key.0 key.1 row) where
  valued_at-kept : (asked : ℕ × List ℕ) (attr : Attr) (v : value.Value) → is_among (asked ∷ []) key ≡ false → valued_at asked attr v row ≡ row
  valued_at-kept asked attr v apart = cond-false (has_name asked.0 asked.1 row) (with_attr attr v row) row out
    where
      out : has_name asked.0 asked.1 row ≡ false
      out = rw (named.client_is, named.name_is) (not_named asked.0 asked.1 key apart)

  numbered-kept : (attr : Attr) (asked : Option ((ℕ × List ℕ) × ℤ)) → is_among (keys_in (option_map (λ set. set.0) asked)) key ≡ false → numbered attr asked row ≡ row
  numbered-kept attr None apart = refl
  numbered-kept attr (Some ask) apart = valued_at-kept ask.0 attr (value.TheVariants.Number ask.1) apart

  texted-kept : (asked : Option ((ℕ × List ℕ) × List ℕ)) → is_among (keys_in (option_map (λ set. set.0) asked)) key ≡ false → texted asked row ≡ row
  texted-kept None apart = refl
  texted-kept (Some ask) apart = valued_at-kept ask.0 Text (value.TheVariants.Words ask.1) apart

  shifted-kept : (asked : Option ((ℕ × List ℕ) × ℤ × ℤ)) → is_among (keys_in (option_map (λ set. set.0) asked)) key ≡ false → shifted asked row ≡ row
  shifted-kept None apart = refl
  shifted-kept (Some ask) apart = ap (valued_at ask.0 Y (value.TheVariants.Number ask.2)) (valued_at-kept ask.0 X (value.TheVariants.Number ask.1) apart) ∙ valued_at-kept ask.0 Y (value.TheVariants.Number ask.2) apart

  fed_row-kept : (effects : Effects) → is_among (given_keys effects) key ≡ false → fed_row effects row ≡ row
  fed_row-kept effects apart =
      let value_keys : List (ℕ × List ℕ) = keys_in (option_map (λ set. set.0) effects.value) in
      let text_keys : List (ℕ × List ℕ) = keys_in (option_map (λ set. set.0) effects.text) in
      let caret_keys : List (ℕ × List ℕ) = keys_in (option_map (λ set. set.0) effects.caret) in
      let moved_keys : List (ℕ × List ℕ) = keys_in (option_map (λ set. set.0) effects.moved) in
      let three = is_among-parts (value_keys ++ text_keys ++ caret_keys) moved_keys key apart in
      let two = is_among-parts (value_keys ++ text_keys) caret_keys key three.0 in
      let one = is_among-parts value_keys text_keys key two.0 in
      ap (λ (r : Row). shifted effects.moved (numbered Caret effects.caret (texted effects.text r))) (numbered-kept Value effects.value one.0)
      ∙ ap (λ (r : Row). shifted effects.moved (numbered Caret effects.caret r)) (texted-kept effects.text one.1)
      ∙ ap (λ (r : Row). shifted effects.moved r) (numbered-kept Caret effects.caret two.1)
      ∙ shifted-kept effects.moved three.1

-- An input leaves the row of each widget to which it gives no value.
pub row_of-fed : (effects : Effects) (rows : List Row) (key : ℕ × List ℕ) → is_among (given_keys effects) key ≡ false → row_of (rows_after effects rows) key ≡ row_of rows key
row_of-fed effects rows key apart = row_named-fed effects rows key.0 key.1 ∙ by (row_of rows key) refl
  where
    by : (found : Option Row) → row_of rows key ≡ found → option_map (fed_row effects) found ≡ found
    by None there = refl
    by (Some row) there = ap Some (fed_row-kept key row (IsNamed-row_named rows key.0 key.1 row there) effects apart)

-- a value of another attribute leaves the attribute `value`
value-left : (asked : ℕ × List ℕ) (attr : Attr) (v : value.Value) (row : Row) → (attr_slot Value ≡ attr_slot attr → ⊥) → number_of Value (valued_at asked attr v row) ≡ number_of Value row
value-left asked attr v row apart = by (has_name asked.0 asked.1 row)
  where
    by : (b : Bool) → number_of Value (cond b (with_attr attr v row) row) ≡ number_of Value row
    by true = ap number_in (get_or-set_other row.values (attr_slot attr) (attr_slot Value) (Some v) None apart)
    by false = refl

texted-left : (asked : Option ((ℕ × List ℕ) × List ℕ)) (row : Row) → number_of Value (texted asked row) ≡ number_of Value row
texted-left None row = refl
texted-left (Some ask) row = value-left ask.0 Text (value.TheVariants.Words ask.1) row (λ same. omega arith)

caret-left : (asked : Option ((ℕ × List ℕ) × ℤ)) (row : Row) → number_of Value (numbered Caret asked row) ≡ number_of Value row
caret-left None row = refl
caret-left (Some ask) row = value-left ask.0 Caret (value.TheVariants.Number ask.1) row (λ same. omega arith)

shifted-left : (asked : Option ((ℕ × List ℕ) × ℤ × ℤ)) (row : Row) → number_of Value (shifted asked row) ≡ number_of Value row
shifted-left None row = refl
shifted-left (Some ask) row =
    value-left ask.0 Y (value.TheVariants.Number ask.2) (valued_at ask.0 X (value.TheVariants.Number ask.1) row) (λ same. omega arith)
    ∙ value-left ask.0 X (value.TheVariants.Number ask.1) row (λ same. omega arith)

-- An input leaves the own value of each widget but the one whose `value` it gives.
pub value_of-fed : (effects : Effects) (rows : List Row) (key : ℕ × List ℕ) → is_among (keys_in (option_map (λ set. set.0) effects.value)) key ≡ false → option_map (number_of Value) (row_of (rows_after effects rows) key) ≡ option_map (number_of Value) (row_of rows key)
value_of-fed effects rows key apart = ap (option_map (number_of Value)) (row_named-fed effects rows key.0 key.1) ∙ by (row_of rows key) refl
  where
    by : (found : Option Row) → row_of rows key ≡ found → option_map (number_of Value) (option_map (fed_row effects) found) ≡ option_map (number_of Value) found
    by None there = refl
    by (Some row) there =
        let one : Row = numbered Value effects.value row in
        let two : Row = texted effects.text one in
        ap Some (
        shifted-left effects.moved (numbered Caret effects.caret two)
        ∙ caret-left effects.caret two
        ∙ texted-left effects.text one
        ∙ ap (number_of Value) (numbered-kept key row (IsNamed-row_named rows key.0 key.1 row there) Value effects.value apart))

-- The pointer neither holds a widget that it hasn't grabbed, nor comes to hold one by letting go.
pub grabs-none : (grab : Grab) (key : ℕ × List ℕ) → is_among (keys_in (grabbed grab)) key ≡ false → grabs grab key ≡ false
grabs-none no_grab key apart = refl
grabs-none (on_widget widget) key apart = (or_parts (same_key key widget) false apart).0
grabs-none (drags window dx dy) key apart = refl

pub grabs-left : (stays : ℕ × List ℕ → Bool) (grab : Grab) (key : ℕ × List ℕ) → is_among (keys_in (grabbed grab)) key ≡ false → grabs (grab_left stays grab) key ≡ false
grabs-left stays no_grab key apart = refl
grabs-left stays (on_widget widget) key apart = by (stays widget)
  where
    by : (b : Bool) → grabs (cond b (on_widget widget) no_grab) key ≡ false
    by true = grabs-none (on_widget widget) key apart
    by false = refl
grabs-left stays (drags window dx dy) key apart = by (stays window)
  where
    by : (b : Bool) → grabs (cond b (drags window dx dy) no_grab) key ≡ false
    by true = refl
    by false = refl

-- The same of the focus.
pub focus-none : (focus : Option (ℕ × List ℕ)) (key : ℕ × List ℕ) → is_among (keys_in focus) key ≡ false → option_map_or (same_key key) focus false ≡ false
focus-none None key apart = refl
focus-none (Some widget) key apart = (or_parts (same_key key widget) false apart).0

pub focus-left : (stays : ℕ × List ℕ → Bool) (focus : Option (ℕ × List ℕ)) (key : ℕ × List ℕ) → is_among (keys_in focus) key ≡ false → option_map_or (same_key key) (focus_left stays focus) false ≡ false
focus-left stays None key apart = refl
focus-left stays (Some widget) key apart = by (stays widget)
  where
    by : (b : Bool) → option_map_or (same_key key) (cond b (Some widget) None) false ≡ false
    by true = focus-none (Some widget) key apart
    by false = refl
