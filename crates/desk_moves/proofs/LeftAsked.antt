-- Changes that leave what layout asks of each row: the numbers that place and size it, how long its text is, how many
-- letters a linked value takes, and for a Frame that value itself.
use Rattle.std.proofs.Common.{◌≡◌, ◌+◌, ◌*◌, ℕ, ℤ, pos, Bool, true, false, int_lt, unsigned_abs, length, length-append, List, map, slice_get, Option, Some, None, refl, sym, ap, ap₂, ◌∙◌, arith}
use Rattle.std.specs.Option.{option_map, option_map_or, option_and_then}
use Rattle.std.specs.Fmt.{signed_decimal}
use Rattle.kind_core.specs.declared.kinds.Kind.{Kind}
use Rattle.kind_core.specs.declared.kinds.Kind.TheVariants.{Window, Grid, Frame, Button, Label, Entry, Scale, Scrollbar, Variable, VScreen}
use Rattle.kind_core.specs.declared.kinds.Attr.{Attr}
use Rattle.kind_core.specs.declared.kinds.Attr.TheVariants.{X, Y, W, H, Text, Cols, Value, Vert}
use Rattle.kind_core.specs.Effective.{label_text, frame_offset}
use Rattle.vscreen_core.specs.FilmState.{FilmState}
use Rattle.widget_model.specs.Rows.{Row, attr_of}
use Rattle.widget_model.specs.Named.{row_named}
use Rattle.widget_model.proofs.Hanging.{LeavesNames, row_named-map}
use Rattle.scene_model.specs.declared.axis.Axis.{Axis}
use Rattle.scene_model.specs.declared.axis.Axis.TheVariants.{Across, Down}
use Rattle.scene_model.specs.declared.axis.Span.{Span}
use Rattle.scene_model.specs.Values.{number_in, number_of, text_of, linked_value, offset_of}
use Rattle.scene_model.specs.Tracks.{rules_of}
use Rattle.scene_model.specs.Least.{bar_size, own_size}
use Rattle.scene_model.specs.Placing.{window_span}
use Rattle.scene_model.specs.Still.{AsksTheSame, MovesNothing}
use Rattle.desk_moves.specs.Stays.{is_asked, letters_of}

-- the size of a film
abbrev pub film_size : FilmState → ℕ × ℕ
film_size film = (film.width, film.height)

-- the attributes of which layout reads the number
abbrev pub is_measure : Attr → Bool
is_measure X = true
is_measure Y = true
is_measure W = true
is_measure H = true
is_measure Cols = true
is_measure Vert = true
is_measure _ = false

-- how many letters a linked value takes
abbrev pub letters_in : Option ℤ → ℕ
letters_in value = option_map_or letters_of value 0

pub record LeavesAsked (change : Row → Row) (rows : List Row) : Type 0 where
  pub client : (row : Row) → (change row).client ≡ row.client
  pub name : (row : Row) → (change row).name ≡ row.name
  pub kind : (row : Row) → (change row).kind ≡ row.kind
  pub attached : (row : Row) → (change row).attached ≡ row.attached
  pub column_rules : (row : Row) → (change row).column_rules ≡ row.column_rules
  pub row_rules : (row : Row) → (change row).row_rules ≡ row.row_rules
  pub film : (row : Row) → option_map film_size (change row).film ≡ option_map film_size row.film
  pub measures : (i : ℕ) (row : Row) → slice_get rows i ≡ Some row → (attr : Attr) → is_measure attr ≡ true → attr_of (change row) attr ≡ attr_of row attr
  pub texts : (i : ℕ) (row : Row) → slice_get rows i ≡ Some row → is_asked row.kind Text ≡ true → length (text_of Text (change row)) ≡ length (text_of Text row)
  pub letters : (i : ℕ) (row : Row) → slice_get rows i ≡ Some row → letters_in (linked_value (map change rows) (change row)) ≡ letters_in (linked_value rows row)
  pub framed : (i : ℕ) (row : Row) → slice_get rows i ≡ Some row → row.kind ≡ Frame → linked_value (map change rows) (change row) ≡ linked_value rows row

-- what is read of the linked row's value, where that keeps it
pub linked-by : {X : Type 0} (f : ℤ → X) (change : Row → Row) (rows : List Row) (row : Row) → LeavesNames change → (change row).client ≡ row.client → (change row).link ≡ row.link
    → ((name : List ℕ) (other : Row) → row.link ≡ Some name → row_named rows row.client name ≡ Some other → f (number_of Value (change other)) ≡ f (number_of Value other))
    → option_map f (linked_value (map change rows) (change row)) ≡ option_map f (linked_value rows row)
unfolding linked_value
linked-by f change rows row leaves client link values =
    ap₂ (λ (owner : ℕ) (to : Option (List ℕ)). option_map f (option_map (number_of Value) (option_and_then (row_named (map change rows) owner) to))) client link
    ∙ by row.link refl
  where
    one : (name : List ℕ) → row.link ≡ Some name → (o : Option Row) → row_named rows row.client name ≡ o → option_map f (option_map (number_of Value) (option_map change o)) ≡ option_map f (option_map (number_of Value) o)
    one name q None p = refl
    one name q (Some other) p = ap Some (values name other q p)

    by : (o : Option (List ℕ)) → row.link ≡ o → option_map f (option_map (number_of Value) (option_and_then (row_named (map change rows) row.client) o)) ≡ option_map f (option_map (number_of Value) (option_and_then (row_named rows row.client) o))
    by None q = refl
    by (Some name) q = ap (λ (o : Option Row). option_map f (option_map (number_of Value) o)) (row_named-map rows change row.client name leaves) ∙ one name q (row_named rows row.client name) refl

own-value : (o : Option ℤ) → option_map (λ (n : ℤ). n) o ≡ o
own-value None = refl
own-value (Some n) = refl

pub linked-kept : (change : Row → Row) (rows : List Row) (row : Row) → LeavesNames change → (change row).client ≡ row.client → (change row).link ≡ row.link
    → ((name : List ℕ) (other : Row) → row.link ≡ Some name → row_named rows row.client name ≡ Some other → number_of Value (change other) ≡ number_of Value other)
    → linked_value (map change rows) (change row) ≡ linked_value rows row
linked-kept change rows row leaves client link values =
    sym (own-value (linked_value (map change rows) (change row))) ∙ linked-by (λ (n : ℤ). n) change rows row leaves client link values ∙ own-value (linked_value rows row)

pub letters-kept : (change : Row → Row) (rows : List Row) (row : Row) → LeavesNames change → (change row).client ≡ row.client → (change row).link ≡ row.link
    → ((name : List ℕ) (other : Row) → row.link ≡ Some name → row_named rows row.client name ≡ Some other → letters_of (number_of Value (change other)) ≡ letters_of (number_of Value other))
    → letters_in (linked_value (map change rows) (change row)) ≡ letters_in (linked_value rows row)
letters-kept change rows row leaves client link values =
    read (linked_value (map change rows) (change row))
    ∙ ap (λ (o : Option ℕ). option_map_or (λ (n : ℕ). n) o 0) (linked-by letters_of change rows row leaves client link values)
    ∙ sym (read (linked_value rows row))
  where
    read : (o : Option ℤ) → letters_in o ≡ option_map_or (λ (n : ℕ). n) (option_map letters_of o) 0
    read None = refl
    read (Some n) = refl

-- how long a Label's text is
label-length : (text : List ℕ) (linked : Option ℤ) → length (label_text text linked) ≡ length text + letters_in linked
label-length text None = sym (plus-none (length text))
  where
    plus-none : (n : ℕ) → n + 0 ≡ n
    plus-none n = omega arith
label-length text (Some n) = length-append text (signed_decimal n)

module _ (change : Row → Row) (rows : List Row) (leaves : LeavesAsked change rows) (i : ℕ) (row : Row) (there : slice_get rows i ≡ Some row) where
  number-same : (attr : Attr) → is_measure attr ≡ true → number_of attr (change row) ≡ number_of attr row
  number-same attr measure = ap number_in (leaves.measures i row there attr measure)

  text-same : (kind : Kind) → row.kind ≡ kind → is_asked kind Text ≡ true → length (text_of Text (change row)) ≡ length (text_of Text row)
  text-same kind q asked = leaves.texts i row there (ap (λ (k : Kind). is_asked k Text) q ∙ asked)

  size-same : (kind : Kind) → row.kind ≡ kind → own_size kind (map change rows) (change row) ≡ own_size kind rows row
  size-same Label q =
      ap (λ (n : ℕ). (6 * n + 4, 12))
      (label-length (text_of Text (change row)) (linked_value (map change rows) (change row))
      ∙ ap₂ (λ (text letters : ℕ). text + letters) (text-same Label q refl) (leaves.letters i row there)
      ∙ sym (label-length (text_of Text row) (linked_value rows row)))
  size-same Button q = ap (λ (n : ℕ). (6 * n + 8, 16)) (text-same Button q refl)
  size-same Entry q = ap (λ (n : ℤ). (6 * unsigned_abs n + 4, 12)) (number-same Cols refl)
  size-same Scale q = ap (λ (n : ℤ). bar_size (int_lt (pos 0) n)) (number-same Vert refl)
  size-same Scrollbar q = ap (λ (n : ℤ). bar_size (int_lt (pos 0) n)) (number-same Vert refl)
  size-same VScreen q = or_none (change row).film ∙ ap (λ (o : Option (ℕ × ℕ)). option_map_or (λ (size : ℕ × ℕ). size) o (16, 16)) (leaves.film row) ∙ sym (or_none row.film)
    where
      or_none : (o : Option FilmState) → option_map_or (λ (f : FilmState). (f.width, f.height)) o (16, 16) ≡ option_map_or (λ (size : ℕ × ℕ). size) (option_map film_size o) (16, 16)
      or_none None = refl
      or_none (Some film) = refl
  size-same Frame q = refl
  size-same Window q = ap₂ (λ (w h : ℤ). (unsigned_abs w, unsigned_abs h)) (number-same W refl) (number-same H refl)
  size-same Grid q = refl
  size-same Variable q = refl

  rules-same : (axis : Axis) → rules_of axis (change row) ≡ rules_of axis row
  rules-same Across = leaves.column_rules row
  rules-same Down = leaves.row_rules row

  offset-same : (axis : Axis) → row.kind ≡ Frame → offset_of axis (map change rows) (change row) ≡ offset_of axis rows row
  offset-same Across frame = number-same X refl
  offset-same Down frame = ap₂ frame_offset (leaves.framed i row there frame) (number-same Y refl)

  span-same : (axis : Axis) → window_span axis (change row) ≡ window_span axis row
  span-same Across = ap₂ (λ (x w : ℤ). let s : Span = record { from = x; len = unsigned_abs w } in s) (number-same X refl) (number-same W refl)
  span-same Down = ap₂ (λ (y h : ℤ). let s : Span = record { from = y; len = unsigned_abs h } in s) (number-same Y refl) (number-same H refl)

  asks-same : AsksTheSame rows (map change rows) row (change row)
  asks-same = record { size = size-same row.kind refl; rules = rules-same; offset = offset-same; span = span-same }

pub moves-nothing : (change : Row → Row) (rows : List Row) → LeavesAsked change rows → MovesNothing change rows
moves-nothing change rows leaves = record {
  client = leaves.client;
  name = leaves.name;
  kind = leaves.kind;
  attached = leaves.attached;
  asks = asks-same change rows leaves;
}
