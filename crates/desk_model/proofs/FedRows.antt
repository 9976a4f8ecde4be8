-- What an input leaves of the rows: each keeps all but its values, and only the rows that it names change.
use Rattle.std.proofs.Common.{◌≡◌, ℕ, ℤ, Bool, true, false, cond, nat_eq, List, [], ◌∷◌, map, Option, Some, None, refl, sym, ap, ◌∙◌}
use Rattle.std.proofs.lemmas.Bool.{true≢false}
use Rattle.std.specs.Option.{option_map, option_map_or}
use Rattle.kind_core.specs.declared.kinds.Attr.{Attr}
use Rattle.kind_core.specs.declared.kinds.Attr.TheVariants.{X, Y, Text, Caret, Value}
use Rattle.kind_core.specs.declared.values.Value as value
use Rattle.widget_model.specs.Rows.{Row, with_attr}
use Rattle.widget_model.specs.Named.{has_name, row_named, own_rows}
use Rattle.widget_model.specs.Trees.{parent_of}
use Rattle.widget_model.proofs.Hanging.{IsNamed-from, LeavesNames, changed, parent_in, parent_in-same, row_named-map}
use Rattle.widget_model.proofs.Leaves.{LeavesNode}
use Rattle.desk_model.specs.InputEffects.{Effects}
use Rattle.desk_model.specs.Screens.{film_named}
use Rattle.desk_model.specs.Feeding.{with_value_at, with_number, with_text, with_moved, rows_after}
use Rattle.desk_model.proofs.Rosters.{film_in}
use Rattle.desk_model.proofs.BeatSteps.{map-twice}

-- a row that differs from another in its values alone
pub record SameButValues (row next : Row) : Type 0 where
  pub client : next.client ≡ row.client
  pub name : next.name ≡ row.name
  pub kind : next.kind ≡ row.kind
  pub attached : next.attached ≡ row.attached
  pub column_rules : next.column_rules ≡ row.column_rules
  pub row_rules : next.row_rules ≡ row.row_rules
  pub link : next.link ≡ row.link
  pub bindings : next.bindings ≡ row.bindings
  pub film : next.film ≡ row.film

SameButValues-own : (row : Row) → SameButValues row row
SameButValues-own row = record { client = refl; name = refl; kind = refl; attached = refl; column_rules = refl; row_rules = refl; link = refl; bindings = refl; film = refl }

SameButValues-then : (row next last : Row) → SameButValues row next → SameButValues next last → SameButValues row last
SameButValues-then row next last one two =
    record {
      client = two.client ∙ one.client;
      name = two.name ∙ one.name;
      kind = two.kind ∙ one.kind;
      attached = two.attached ∙ one.attached;
      column_rules = two.column_rules ∙ one.column_rules;
      row_rules = two.row_rules ∙ one.row_rules;
      link = two.link ∙ one.link;
      bindings = two.bindings ∙ one.bindings;
      film = two.film ∙ one.film;
    }

map-own : (rows : List Row) → map (λ row. row) rows ≡ rows
map-own [] = refl
map-own (row ∷ rows) = ap (λ (rs : List Row). row ∷ rs) (map-own rows)

-- what each part of an input makes of a row
abbrev pub valued_at : (ℕ × List ℕ) → Attr → value.Value → Row → Row
valued_at key attr v row = changed key.0 key.1 (with_attr attr v) row

abbrev pub numbered : Attr → Option ((ℕ × List ℕ) × ℤ) → Row → Row
numbered attr asked row = option_map_or (λ ask. valued_at ask.0 attr (value.TheVariants.Number ask.1) row) asked row

abbrev pub texted : Option ((ℕ × List ℕ) × List ℕ) → Row → Row
texted asked row = option_map_or (λ ask. valued_at ask.0 Text (value.TheVariants.Words ask.1) row) asked row

abbrev pub shifted : Option ((ℕ × List ℕ) × ℤ × ℤ) → Row → Row
shifted asked row = option_map_or (λ ask. valued_at ask.0 Y (value.TheVariants.Number ask.2) (valued_at ask.0 X (value.TheVariants.Number ask.1) row)) asked row

-- the row after the input
abbrev pub fed_row : Effects → Row → Row
fed_row effects row = shifted effects.moved (numbered Caret effects.caret (texted effects.text (numbered Value effects.value row)))

valued_at-same : (key : ℕ × List ℕ) (attr : Attr) (v : value.Value) (row : Row) → SameButValues row (valued_at key attr v row)
valued_at-same key attr v row = by (has_name key.0 key.1 row)
  where
    by : (b : Bool) → SameButValues row (cond b (with_attr attr v row) row)
    by true = record { client = refl; name = refl; kind = refl; attached = refl; column_rules = refl; row_rules = refl; link = refl; bindings = refl; film = refl }
    by false = SameButValues-own row

numbered-same : (attr : Attr) (asked : Option ((ℕ × List ℕ) × ℤ)) (row : Row) → SameButValues row (numbered attr asked row)
numbered-same attr None row = SameButValues-own row
numbered-same attr (Some ask) row = valued_at-same ask.0 attr (value.TheVariants.Number ask.1) row

texted-same : (asked : Option ((ℕ × List ℕ) × List ℕ)) (row : Row) → SameButValues row (texted asked row)
texted-same None row = SameButValues-own row
texted-same (Some ask) row = valued_at-same ask.0 Text (value.TheVariants.Words ask.1) row

shifted-same : (asked : Option ((ℕ × List ℕ) × ℤ × ℤ)) (row : Row) → SameButValues row (shifted asked row)
shifted-same None row = SameButValues-own row
shifted-same (Some ask) row =
    let across : Row = valued_at ask.0 X (value.TheVariants.Number ask.1) row in
    SameButValues-then row across (valued_at ask.0 Y (value.TheVariants.Number ask.2) across) (valued_at-same ask.0 X (value.TheVariants.Number ask.1) row) (valued_at-same ask.0 Y (value.TheVariants.Number ask.2) across)

-- An input leaves all but the values of each row.
pub fed_row-same : (effects : Effects) (row : Row) → SameButValues row (fed_row effects row)
fed_row-same effects row =
    let one : Row = numbered Value effects.value row in
    let two : Row = texted effects.text one in
    let three : Row = numbered Caret effects.caret two in
    SameButValues-then row three (shifted effects.moved three)
    (SameButValues-then row two three (SameButValues-then row one two (numbered-same Value effects.value row) (texted-same effects.text one)) (numbered-same Caret effects.caret two))
    (shifted-same effects.moved three)

numbered-map : (attr : Attr) (asked : Option ((ℕ × List ℕ) × ℤ)) (rows : List Row) → with_number attr asked rows ≡ map (numbered attr asked) rows
numbered-map attr None rows = sym (map-own rows)
numbered-map attr (Some ask) rows = refl

texted-map : (asked : Option ((ℕ × List ℕ) × List ℕ)) (rows : List Row) → with_text asked rows ≡ map (texted asked) rows
texted-map None rows = sym (map-own rows)
texted-map (Some ask) rows = refl

shifted-map : (asked : Option ((ℕ × List ℕ) × ℤ × ℤ)) (rows : List Row) → with_moved asked rows ≡ map (shifted asked) rows
shifted-map None rows = sym (map-own rows)
shifted-map (Some ask) rows = map-twice (valued_at ask.0 Y (value.TheVariants.Number ask.2)) (valued_at ask.0 X (value.TheVariants.Number ask.1)) rows

-- so the rows are changed one by one
pub rows_after-map : (effects : Effects) (rows : List Row) → rows_after effects rows ≡ map (fed_row effects) rows
rows_after-map effects rows =
    ap (λ (rs : List Row). with_moved effects.moved (with_number Caret effects.caret (with_text effects.text rs))) (numbered-map Value effects.value rows)
    ∙ ap (λ (rs : List Row). with_moved effects.moved (with_number Caret effects.caret rs)) (texted-map effects.text (map (numbered Value effects.value) rows) ∙ map-twice (texted effects.text) (numbered Value effects.value) rows)
    ∙ ap (λ (rs : List Row). with_moved effects.moved rs) (numbered-map Caret effects.caret (map two rows) ∙ map-twice (numbered Caret effects.caret) two rows)
    ∙ shifted-map effects.moved (map three rows) ∙ map-twice (shifted effects.moved) three rows
  where
    two : Row → Row
    two row = texted effects.text (numbered Value effects.value row)

    three : Row → Row
    three row = numbered Caret effects.caret (two row)

pub LeavesNode-fed : (effects : Effects) → LeavesNode (fed_row effects)
LeavesNode-fed effects = record { client = λ row. (fed_row-same effects row).client; name = λ row. (fed_row-same effects row).name; kind = λ row. (fed_row-same effects row).kind }

pub LeavesNames-fed : (effects : Effects) → LeavesNames (fed_row effects)
LeavesNames-fed effects = record { client = λ row. (fed_row-same effects row).client; name = λ row. (fed_row-same effects row).name }

-- each name has its row, with its parent and its film
pub row_named-fed : (effects : Effects) (rows : List Row) (client : ℕ) (name : List ℕ) → row_named (rows_after effects rows) client name ≡ option_map (fed_row effects) (row_named rows client name)
row_named-fed effects rows client name = ap (λ (rs : List Row). row_named rs client name) (rows_after-map effects rows) ∙ row_named-map rows (fed_row effects) client name (LeavesNames-fed effects)

pub parent_of-fed : (effects : Effects) (rows : List Row) (client : ℕ) (name : List ℕ) → parent_of (rows_after effects rows) client name ≡ parent_of rows client name
parent_of-fed effects rows client name = ap parent_in (row_named-fed effects rows client name) ∙ by (row_named rows client name)
  where
    by : (o : Option Row) → parent_in (option_map (fed_row effects) o) ≡ parent_in o
    by None = refl
    by (Some row) = parent_in-same (fed_row effects row) row (fed_row-same effects row).attached

pub film_named-fed : (effects : Effects) (rows : List Row) (client : ℕ) (name : List ℕ) → film_named (rows_after effects rows) client name ≡ film_named rows client name
film_named-fed effects rows client name = ap film_in (row_named-fed effects rows client name) ∙ by (row_named rows client name)
  where
    by : (o : Option Row) → film_in (option_map (fed_row effects) o) ≡ film_in o
    by None = refl
    by (Some row) = (fed_row-same effects row).film

-- a value of one client's widget leaves the rows of another
own_rows-valued : (client : ℕ) (key : ℕ × List ℕ) (attr : Attr) (v : value.Value) (rows : List Row) → nat_eq client key.0 ≡ false → own_rows client (with_value_at key attr v rows) ≡ own_rows client rows
own_rows-valued client key attr v [] other = refl
own_rows-valued client key attr v (row ∷ rows) other = by (own_rows-valued client key attr v rows other) (nat_eq client row.client) refl (has_name key.0 key.1 row) refl
  where
    by : own_rows client (with_value_at key attr v rows) ≡ own_rows client rows → (own : Bool) → nat_eq client row.client ≡ own → (named : Bool) → has_name key.0 key.1 row ≡ named
        → own_rows client (cond named (with_attr attr v row) row ∷ with_value_at key attr v rows) ≡ cond own (row ∷ own_rows client rows) (own_rows client rows)
    by rest false e true is = rw (e, rest) refl
    by rest false e false is = rw (e, rest) refl
    by rest true e false is = rw (e, rest) refl
    by rest true e true is =
        let named = IsNamed-from key.0 key.1 row is in
        absurd (true≢false (sym e ∙ ap (nat_eq client) named.client_is ∙ other))

-- an input of whose values none is the client's
pub record AsksOthers (client : ℕ) (effects : Effects) : Type 0 where
  pub value : option_map_or (λ ask. nat_eq client ask.0.0) effects.value false ≡ false
  pub text : option_map_or (λ ask. nat_eq client ask.0.0) effects.text false ≡ false
  pub caret : option_map_or (λ ask. nat_eq client ask.0.0) effects.caret false ≡ false
  pub moved : option_map_or (λ ask. nat_eq client ask.0.0) effects.moved false ≡ false

own_rows-numbered : (client : ℕ) (attr : Attr) (asked : Option ((ℕ × List ℕ) × ℤ)) (rows : List Row) → option_map_or (λ ask. nat_eq client ask.0.0) asked false ≡ false → own_rows client (with_number attr asked rows) ≡ own_rows client rows
own_rows-numbered client attr None rows other = refl
own_rows-numbered client attr (Some ask) rows other = own_rows-valued client ask.0 attr (value.TheVariants.Number ask.1) rows other

own_rows-texted : (client : ℕ) (asked : Option ((ℕ × List ℕ) × List ℕ)) (rows : List Row) → option_map_or (λ ask. nat_eq client ask.0.0) asked false ≡ false → own_rows client (with_text asked rows) ≡ own_rows client rows
own_rows-texted client None rows other = refl
own_rows-texted client (Some ask) rows other = own_rows-valued client ask.0 Text (value.TheVariants.Words ask.1) rows other

own_rows-shifted : (client : ℕ) (asked : Option ((ℕ × List ℕ) × ℤ × ℤ)) (rows : List Row) → option_map_or (λ ask. nat_eq client ask.0.0) asked false ≡ false → own_rows client (with_moved asked rows) ≡ own_rows client rows
own_rows-shifted client None rows other = refl
own_rows-shifted client (Some ask) rows other =
    own_rows-valued client ask.0 Y (value.TheVariants.Number ask.2) (with_value_at ask.0 X (value.TheVariants.Number ask.1) rows) other
    ∙ own_rows-valued client ask.0 X (value.TheVariants.Number ask.1) rows other

-- It leaves the client's rows.
pub own_rows-fed : (client : ℕ) (effects : Effects) (rows : List Row) → AsksOthers client effects → own_rows client (rows_after effects rows) ≡ own_rows client rows
own_rows-fed client effects rows asks =
    let one : List Row = with_number Value effects.value rows in
    let two : List Row = with_text effects.text one in
    let three : List Row = with_number Caret effects.caret two in
    own_rows-shifted client effects.moved three asks.moved ∙ own_rows-numbered client Caret effects.caret two asks.caret ∙ own_rows-texted client effects.text one asks.text ∙ own_rows-numbered client Value effects.value rows asks.value
