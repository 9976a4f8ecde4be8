-- Inputs that move nothing: they give text to an Entry and set its caret, of which layout reads neither, or a value that
-- needs no other room.
use Rattle.std.proofs.Common.{◌≡◌, ℕ, ℤ, Bool, true, false, not, ◌&&◌, ◌||◌, List, [], ◌∷◌, cond, Option, Some, None, is_some, refl, sym, ap, ap₂, ◌∙◌}
use Rattle.std.proofs.lemmas.Bool.{true≢false, or_parts}
use Rattle.std.proofs.lemmas.List.Folds.{list_all-map}
use Rattle.std.specs.Prelude.{IfSome}
use Rattle.std.specs.List.{list_all, list_any}
use Rattle.std.specs.Option.{option_map, option_map_or, option_and_then}
use Rattle.kind_core.specs.declared.kinds.Attr.{Attr}
use Rattle.kind_core.specs.declared.kinds.Attr.TheVariants.{Text, Caret, Value}
use Rattle.kind_core.specs.declared.values.Value as value
use Rattle.kind_core.specs.declared.values.Value.TheVariants.{Number, Words}
use Rattle.cmd_words.specs.declared.inputs.Input.{Input}
use Rattle.widget_model.specs.RowFacts.{links_right}
use Rattle.widget_model.specs.Rows.{Row, with_attr}
use Rattle.widget_model.specs.Named.{has_name, row_named, is_kind_of, AreNamedApart}
use Rattle.widget_model.specs.Keys.{row_of}
use Rattle.widget_model.specs.Kinds.{is_variable_kind}
use Rattle.widget_model.proofs.Hanging.{LeavesNames, changed, all_at, all_from, row_named-map}
use Rattle.widget_model.proofs.ChangedRows.{AreNamedApart-map, links_right-map, is_kind_of-map}
use Rattle.widget_model.proofs.Leaves.{LeavesNode, LeavesNode-changed}
use Rattle.scene_model.specs.DuePlaces.{due_place}
use Rattle.widget_model.specs.Widgets.{Widgets, IsLive, rows_of, row_at}
use Rattle.widget_model.specs.Forest.{IsWidgets}
use Rattle.tree_core.specs.declared.id.Id.{Id}
use Rattle.input_core.specs.Numbered.{numbered}
use Rattle.input_core.specs.Seen.{key_seen}
use Rattle.input_core.proofs.Numbers.{numbered_row}
use Rattle.input_core.proofs.Keys.{key_seen-numbered, row_of-numbered}
use Rattle.desk_moves.proofs.Frames.{read-of}
use Rattle.desk_model.specs.Desk.{Desk}
use Rattle.desk_model.specs.DeskFacts.{IsDesk}
use Rattle.desk_model.specs.InPlace.{due_of}
use Rattle.desk_model.specs.InputEffects.{Effects}
use Rattle.desk_model.specs.Feeding.{hit_of, held_place, with_value_at, with_number, with_text, with_moved, rows_after, effects_on}
use Rattle.desk_moves.specs.Stays.{MoveNothing, is_entry, needs_the_same, value_moves, effects_move}
use Rattle.desk_moves.proofs.SetStays.{set-unmoved}
use Rattle.desk_moves.proofs.Unmoved.{unmoved-same}
use Rattle.desk_inputs.proofs.EntryTexts.{text-to-entries}

-- Rows of one name each, whose links lead to Variables.
pub record AreLinked (rows : List Row) : Type 0 where
  pub names : AreNamedApart rows
  pub links : list_all (links_right rows) rows ≡ true

-- Text goes to Entries alone.
abbrev pub GivesTextToEntries : List Row → Effects → Type 0
GivesTextToEntries rows effects = IfSome effects.text (λ ask. is_kind_of is_entry (row_of rows ask.0) ≡ true)

-- rows with the keys of those before
abbrev HaveKeysOf : List Row → List Row → Type 0
HaveKeysOf before after = (key : ℕ × List ℕ) → is_some (row_of after key) ≡ is_some (row_of before key)

unmoved-then : (one two three : List Row) → HaveKeysOf two three → MoveNothing one two → MoveNothing two three → MoveNothing one three
unmoved-then one two three keys first second = record { each = λ key row there. by key row there (row_of two key) refl }
  where
    by : (key : ℕ × List ℕ) (row : Row) → row_of three key ≡ Some row → (o : Option Row) → row_of two key ≡ o → due_place three row ≡ due_of one key
    by key row there None p = absurd (true≢false (sym (ap is_some there) ∙ keys key ∙ ap is_some p))
    by key row there (Some before) p =
        second.each key row there ∙ ap (option_and_then (due_place two)) p ∙ first.each key before p

module _ (rows : List Row) (key : ℕ × List ℕ) (attr : Attr) (v : value.Value) where
  abbrev one : Row → Row
  one = changed key.0 key.1 (with_attr attr v)

  pub leaves-one : LeavesNode one
  leaves-one = LeavesNode-changed key.0 key.1 (with_attr attr v) (record { client = λ row. refl; name = λ row. refl; kind = λ row. refl })

  keys-one : HaveKeysOf rows (with_value_at key attr v rows)
  keys-one other =
      let names : LeavesNames one = record { client = leaves-one.client; name = leaves-one.name } in
      ap is_some (row_named-map rows one other.0 other.1 names) ∙ by (row_named rows other.0 other.1)
    where
      by : (o : Option Row) → is_some (option_map one o) ≡ is_some o
      by None = refl
      by (Some row) = refl

  links-one : (row : Row) → (one row).link ≡ row.link
  links-one row = by (has_name key.0 key.1 row)
    where
      by : (b : Bool) → (cond b (with_attr attr v row) row).link ≡ row.link
      by true = refl
      by false = refl

  linked-one : AreLinked rows → AreLinked (with_value_at key attr v rows)
  linked-one are = record {
    names = AreNamedApart-map rows one leaves-one are.names;
    links =
        list_all-map (links_right (with_value_at key attr v rows)) one rows
        ∙ all_from (λ (row : Row). links_right (with_value_at key attr v rows) (one row)) rows (λ i row there. right row ∙ all_at (links_right rows) rows i row are.links there);
  }
    where
      right : (row : Row) → links_right (with_value_at key attr v rows) (one row) ≡ links_right rows row
      right row =
          ap₂ (λ (client : ℕ) (link : Option (List ℕ)). option_map_or (λ (name : List ℕ). is_kind_of is_variable_kind (row_named (with_value_at key attr v rows) client name)) link true) (leaves-one.client row) (links-one row)
          ∙ links_right-map rows one row leaves-one

  unmoved-one : AreLinked rows → option_map_or (λ (row : Row). value_moves rows row attr v) (row_of rows key) false ≡ false → MoveNothing rows (with_value_at key attr v rows)
  unmoved-one are still = set-unmoved rows key.0 key.1 ((attr, v) ∷ []) are.names are.links (row_of rows key) refl (by (row_of rows key) still)
    where
      alone : (b : Bool) → (b || false) ≡ b
      alone true = refl
      alone false = refl

      by : (o : Option Row) → option_map_or (λ (row : Row). value_moves rows row attr v) o false ≡ false → option_map_or (λ (row : Row). list_any (λ (option : Attr × value.Value). value_moves rows row option.0 option.1) ((attr, v) ∷ [])) o false ≡ false
      by None h = refl
      by (Some row) h = alone (value_moves rows row attr v) ∙ h

-- the values that an input gives, one after the other
module _ (rows : List Row) (are : AreLinked rows) where
  value-unmoved : (asked : Option ((ℕ × List ℕ) × ℤ)) → option_map_or (λ (set : (ℕ × List ℕ) × ℤ). option_map_or (λ (row : Row). value_moves rows row Value (Number set.1)) (row_of rows set.0) false) asked false ≡ false → MoveNothing rows (with_number Value asked rows)
  value-unmoved None still = unmoved-same rows
  value-unmoved (Some set) still = unmoved-one rows set.0 Value (Number set.1) are still

  value-linked : (asked : Option ((ℕ × List ℕ) × ℤ)) → AreLinked (with_number Value asked rows)
  value-linked None = are
  value-linked (Some set) = linked-one rows set.0 Value (Number set.1) are

  text-unmoved : (asked : Option ((ℕ × List ℕ) × List ℕ)) → IfSome asked (λ set. is_kind_of is_entry (row_of rows set.0) ≡ true) → MoveNothing rows (with_text asked rows)
  text-unmoved None entries = unmoved-same rows
  text-unmoved (Some set) entries = unmoved-one rows set.0 Text (Words set.1) are (by (row_of rows set.0) entries)
    where
      by : (o : Option Row) → is_kind_of is_entry o ≡ true → option_map_or (λ (row : Row). value_moves rows row Text (Words set.1)) o false ≡ false
      by None h = refl
      by (Some row) h = ap (λ (b : Bool). not b && not (needs_the_same rows row Text (Words set.1))) h

  text-linked : (asked : Option ((ℕ × List ℕ) × List ℕ)) → AreLinked (with_text asked rows)
  text-linked None = are
  text-linked (Some set) = linked-one rows set.0 Text (Words set.1) are

  text-keys : (asked : Option ((ℕ × List ℕ) × List ℕ)) → HaveKeysOf rows (with_text asked rows)
  text-keys None key = refl
  text-keys (Some set) key = keys-one rows set.0 Text (Words set.1) key

  caret-unmoved : (asked : Option ((ℕ × List ℕ) × ℤ)) → MoveNothing rows (with_number Caret asked rows)
  caret-unmoved None = unmoved-same rows
  caret-unmoved (Some set) = unmoved-one rows set.0 Caret (Number set.1) are (by (row_of rows set.0))
    where
      by : (o : Option Row) → option_map_or (λ (row : Row). value_moves rows row Caret (Number set.1)) o false ≡ false
      by None = refl
      by (Some row) = refl

  caret-keys : (asked : Option ((ℕ × List ℕ) × ℤ)) → HaveKeysOf rows (with_number Caret asked rows)
  caret-keys None key = refl
  caret-keys (Some set) key = keys-one rows set.0 Caret (Number set.1) key

-- the same kinds
entries-valued : (rows : List Row) (value : Option ((ℕ × List ℕ) × ℤ)) (text : Option ((ℕ × List ℕ) × List ℕ)) → IfSome text (λ set. is_kind_of is_entry (row_of rows set.0) ≡ true) → IfSome text (λ set. is_kind_of is_entry (row_of (with_number Value value rows) set.0) ≡ true)
entries-valued rows value None entries = tt
entries-valued rows None (Some set) entries = entries
entries-valued rows (Some given) (Some set) entries =
    is_kind_of-map rows (changed given.0.0 given.0.1 (with_attr Value (Number given.1))) is_entry set.0.0 set.0.1 (leaves-one rows given.0 Value (Number given.1)) ∙ entries

pub unmoved-fed : (effects : Effects) (rows : List Row) → AreLinked rows → GivesTextToEntries rows effects → effects_move rows effects ≡ false → MoveNothing rows (rows_after effects rows)
unmoved-fed effects rows are entries still = moved effects.moved parts.0
  where
    parts : (is_some effects.moved ≡ false) × (option_map_or (λ (set : (ℕ × List ℕ) × ℤ). option_map_or (λ (row : Row). value_moves rows row Value (Number set.1)) (row_of rows set.0) false) effects.value false ≡ false)
    parts = or_parts (is_some effects.moved) (option_map_or (λ (set : (ℕ × List ℕ) × ℤ). option_map_or (λ (row : Row). value_moves rows row Value (Number set.1)) (row_of rows set.0) false) effects.value false) still

    valued : List Row
    valued = with_number Value effects.value rows

    texted : List Row
    texted = with_text effects.text valued

    careted : List Row
    careted = with_number Caret effects.caret texted

    valued-linked : AreLinked valued
    valued-linked = value-linked rows are effects.value

    texted-unmoved : MoveNothing rows texted
    texted-unmoved = unmoved-then rows valued texted (text-keys valued valued-linked effects.text) (value-unmoved rows are effects.value parts.1) (text-unmoved valued valued-linked effects.text (entries-valued rows effects.value effects.text entries))

    texted-linked : AreLinked texted
    texted-linked = text-linked valued valued-linked effects.text

    careted-unmoved : MoveNothing rows careted
    careted-unmoved = unmoved-then rows texted careted (caret-keys texted texted-linked effects.caret) texted-unmoved (caret-unmoved texted texted-linked effects.caret)

    moved : (o : Option ((ℕ × List ℕ) × ℤ × ℤ)) → is_some o ≡ false → MoveNothing rows (with_moved o careted)
    moved None h = careted-unmoved
    moved (Some ask) h = absurd (true≢false h)

-- So does what an input asks for on a valid desk.
pub unmoved-input : (desk : Desk) (input : Input) → IsDesk desk → effects_move desk.rows (effects_on desk input) ≡ false → MoveNothing desk.rows (rows_after (effects_on desk input) desk.rows)
unmoved-input desk input kept still =
    unmoved-fed (effects_on desk input) desk.rows (record { names = kept.rows.names; links = kept.rows.linked })
    (text-to-entries desk.rows desk.pointer (hit_of desk) (held_place desk) desk.shape.width desk.shape.height input) still

-- what the value that is asked for by number moves
pub given-read : (w : Widgets) (id : Id) (attr : Attr) (v : value.Value) (moves : Bool) → IsWidgets w → IsLive w id.key → option_map (λ (row : Row). value_moves (rows_of w) row attr v) (row_at w.entries id.key) ≡ Some moves
    → moves ≡ option_map_or (λ (row : Row). value_moves (rows_of w) row attr v) (row_of (rows_of w) (key_seen w.entries id)) false
given-read w id attr v moves kept live read =
    let row = numbered w.entries id.key in
    let named : row_of (rows_of w) (key_seen w.entries id) ≡ Some row = ap (row_of (rows_of w)) (key_seen-numbered w.entries id live) ∙ row_of-numbered w id.key kept live in
    sym (read-of (λ (r : Row). value_moves (rows_of w) r attr v) moves (row_at w.entries id.key) row read (numbered_row w.entries id.key live))
    ∙ sym (ap (λ (o : Option Row). option_map_or (λ (r : Row). value_moves (rows_of w) r attr v) o false) named)
