-- `set` of options of which each needs the same room as before moves nothing, however many give one attribute.
use Rattle.std.proofs.Common.{◌≡◌, ◌⊎◌, ℕ, zero, suc, Bool, true, false, cond, not, ◌&&◌, nat_eq, length, get_or, set, List, [], ◌∷◌, slice_get, Option, Some, None, refl, sym, ap, ap₂, ◌∙◌, subst, inl, inr}
use Rattle.std.proofs.lemmas.Bool.{true≢false, cases_eq, eqb-true, eq-eqb, and_parts, and_from, or_parts}
use Rattle.std.proofs.lemmas.List.{get_or-set_other}
use Rattle.std.specs.Cmp.Lexicographic.{nat_list_eq_equiv}
use Rattle.std.specs.List.{list_any, list_all}
use Rattle.std.specs.Option.{option_map, option_map_or}
use Rattle.std.specs.Str.{bytes_eq}
use Rattle.kind_core.specs.declared.kinds.Kind.{Kind}
use Rattle.kind_core.specs.declared.kinds.Kind.TheVariants.{Frame}
use Rattle.kind_core.specs.declared.kinds.Attr.{Attr}
use Rattle.kind_core.specs.declared.kinds.Attr.TheVariants.{X, Y, W, H, Title, Text, Caret, Cols, Value, Max, Real, View, Vert}
use Rattle.kind_core.specs.declared.values.Value as value
use Rattle.kind_core.specs.declared.values.Value.TheVariants.{Number, Words}
use Rattle.widget_model.specs.RowFacts.{links_right}
use Rattle.widget_model.specs.Rows.{Row, all_attrs, attr_of, attr_slot, with_attr}
use Rattle.widget_model.specs.Kinds.{is_variable_kind}
use Rattle.widget_model.specs.Named.{has_name, row_named, with_named, AreNamedApart}
use Rattle.widget_model.proofs.Naming.{row_named-parts, with_named-absent}
use Rattle.widget_model.proofs.Hanging.{LeavesNames, changed, row_named-only, all_at, find-element}
use Rattle.tree_core.proofs.Listed.{any_at}
use Rattle.scene_model.specs.Values.{number_in, text_in, number_of, text_of}
use Rattle.desk_model.specs.AttrOptions.{with_attrs}
use Rattle.desk_moves.specs.Stays.{MoveNothing, is_asked, letters_of, is_frame, is_frame_of, needs_the_same, value_moves}
use Rattle.desk_commands.proofs.LinkChanges.{leads_right}
use Rattle.desk_commands.proofs.AttrChanges.{same_but_values}
use Rattle.desk_moves.proofs.LeftAsked.{film_size, is_measure, LeavesAsked, linked-kept, letters-kept, moves-nothing}
use Rattle.desk_moves.proofs.Unmoved.{unmoved-same, unmoved-map}

-- what a change of the named row leaves of each row
pub of-changed : {X : Type 0} (f : Row → X) (client : ℕ) (name : List ℕ) (change : Row → Row) → ((row : Row) → f (change row) ≡ f row) → (row : Row) → f (changed client name change row) ≡ f row
of-changed f client name change same row = by (has_name client name row)
  where
    by : (b : Bool) → f (cond b (change row) row) ≡ f row
    by true = same row
    by false = refl

-- each slot is one attribute's
slot-attr : (attr : Attr) → get_or all_attrs (attr_slot attr) X ≡ attr
slot-attr X = refl
slot-attr Y = refl
slot-attr W = refl
slot-attr H = refl
slot-attr Title = refl
slot-attr Text = refl
slot-attr Caret = refl
slot-attr Cols = refl
slot-attr Value = refl
slot-attr Max = refl
slot-attr Real = refl
slot-attr View = refl
slot-attr Vert = refl

set-at : (values : List (Option value.Value)) (k : ℕ) (v : value.Value) → (get_or (set values k (Some v)) k None ≡ get_or values k None) ⊎ (get_or (set values k (Some v)) k None ≡ Some v)
set-at [] k v = inl refl
set-at (x ∷ xs) zero v = inr refl
set-at (x ∷ xs) (suc k) v = set-at xs k v

-- A set value is the one that is set, where there is a slot for it, and those of other attributes stay.
attr-set : (attr other : Attr) (v : value.Value) (row : Row) → (attr_of (with_attr attr v row) other ≡ attr_of row other) ⊎ ((attr ≡ other) × (attr_of (with_attr attr v row) other ≡ Some v))
attr-set attr other v row = elim (cases_eq (attr_slot other) (attr_slot attr)) [
  | inl e ↦ own e (set-at row.values (attr_slot attr) v)
  | inr apart ↦ inl (get_or-set_other row.values (attr_slot attr) (attr_slot other) (Some v) None apart)
]
  where
    own : attr_slot other ≡ attr_slot attr → (get_or (set row.values (attr_slot attr) (Some v)) (attr_slot attr) None ≡ get_or row.values (attr_slot attr) None) ⊎ (get_or (set row.values (attr_slot attr) (Some v)) (attr_slot attr) None ≡ Some v)
        → (attr_of (with_attr attr v row) other ≡ attr_of row other) ⊎ ((attr ≡ other) × (attr_of (with_attr attr v row) other ≡ Some v))
    own e (inl kept) = inl (ap (λ (k : ℕ). get_or (set row.values (attr_slot attr) (Some v)) k None) e ∙ kept ∙ ap (λ (k : ℕ). get_or row.values k None) (sym e))
    own e (inr new) = inr (sym (slot-attr attr) ∙ ap (λ (k : ℕ). get_or all_attrs k X) (sym e) ∙ slot-attr other, ap (λ (k : ℕ). get_or (set row.values (attr_slot attr) (Some v)) k None) e ∙ new)

-- what layout needs of a row, the same of another
record NeedsAlike (rows : List Row) (before after : Row) : Type 0 where
  measures : (attr : Attr) → is_measure attr ≡ true → attr_of after attr ≡ attr_of before attr
  texts : is_asked before.kind Text ≡ true → length (text_of Text after) ≡ length (text_of Text before)
  letters : is_asked before.kind Value ≡ true → letters_of (number_of Value after) ≡ letters_of (number_of Value before)
  framed : is_asked before.kind Value ≡ true → list_any (is_frame_of before) rows ≡ true → number_of Value after ≡ number_of Value before

needs-own : (rows : List Row) (row : Row) → NeedsAlike rows row row
needs-own rows row = record { measures = λ attr measure. refl; texts = λ asked. refl; letters = λ asked. refl; framed = λ asked any. refl }

-- a value that moves nothing where layout reads it
needs-asked : (rows : List Row) (row : Row) (attr : Attr) (v : value.Value) → value_moves rows row attr v ≡ false → is_asked row.kind attr ≡ true → needs_the_same rows row attr v ≡ true
needs-asked rows row attr v still asked = by (needs_the_same rows row attr v) refl
  where
    by : (b : Bool) → needs_the_same rows row attr v ≡ b → b ≡ true
    by true q = refl
    by false q = absurd (true≢false (sym (ap₂ (λ (a b : Bool). a && not b) asked q) ∙ still))

measure-asked : (kind : Kind) (attr : Attr) → is_measure attr ≡ true → is_asked kind attr ≡ true
measure-asked kind X h = refl
measure-asked kind Y h = refl
measure-asked kind W h = refl
measure-asked kind H h = refl
measure-asked kind Cols h = refl
measure-asked kind Vert h = refl
measure-asked kind _ h = absurd (true≢false (sym h))

measure-moves : (rows : List Row) (row : Row) (attr : Attr) (v : value.Value) → is_measure attr ≡ true → needs_the_same rows row attr v ≡ false
measure-moves rows row X v h = refl
measure-moves rows row Y v h = refl
measure-moves rows row W v h = refl
measure-moves rows row H v h = refl
measure-moves rows row Cols v h = refl
measure-moves rows row Vert v h = refl
measure-moves rows row _ v h = absurd (true≢false (sym h))

module _ (rows : List Row) (base row : Row) (attr : Attr) (v : value.Value) (alike : NeedsAlike rows base row) (still : value_moves rows base attr v ≡ false) where
  abbrev next : Row
  next = with_attr attr v row

  needs : (other : Attr) → attr ≡ other → is_asked base.kind other ≡ true → needs_the_same rows base other v ≡ true
  needs other same asked = sym (ap (λ (a : Attr). needs_the_same rows base a v) same) ∙ needs-asked rows base attr v still (ap (is_asked base.kind) same ∙ asked)

  measure-alike : (other : Attr) → is_measure other ≡ true → (attr_of next other ≡ attr_of row other) ⊎ ((attr ≡ other) × (attr_of next other ≡ Some v)) → attr_of next other ≡ attr_of base other
  measure-alike other measure (inl kept) = kept ∙ alike.measures other measure
  measure-alike other measure (inr new) = absurd (true≢false (sym (needs other new.0 (measure-asked base.kind other measure)) ∙ measure-moves rows base other v measure))

  text-alike : is_asked base.kind Text ≡ true → (attr_of next Text ≡ attr_of row Text) ⊎ ((attr ≡ Text) × (attr_of next Text ≡ Some v)) → length (text_of Text next) ≡ length (text_of Text base)
  text-alike asked (inl kept) = ap (λ (o : Option value.Value). length (text_in o)) kept ∙ alike.texts asked
  text-alike asked (inr new) = by v (needs Text new.0 asked) new.1
    where
      by : (u : value.Value) → needs_the_same rows base Text u ≡ true → attr_of next Text ≡ Some u → length (text_of Text next) ≡ length (text_of Text base)
      by (Number n) h is = absurd (true≢false (sym h))
      by (Words text) h is = ap (λ (o : Option value.Value). length (text_in o)) is ∙ eqb-true (length text) (length (text_of Text base)) h

  letters-alike : is_asked base.kind Value ≡ true → (attr_of next Value ≡ attr_of row Value) ⊎ ((attr ≡ Value) × (attr_of next Value ≡ Some v)) → letters_of (number_of Value next) ≡ letters_of (number_of Value base)
  letters-alike asked (inl kept) = ap (λ (o : Option value.Value). letters_of (number_in o)) kept ∙ alike.letters asked
  letters-alike asked (inr new) = by v (needs Value new.0 asked) new.1
    where
      by : (u : value.Value) → needs_the_same rows base Value u ≡ true → attr_of next Value ≡ Some u → letters_of (number_of Value next) ≡ letters_of (number_of Value base)
      by (Words text) h is = absurd (true≢false (sym h))
      by (Number n) h is =
          ap (λ (o : Option value.Value). letters_of (number_in o)) is
          ∙ eqb-true (letters_of n) (letters_of (number_of Value base)) (and_parts (nat_eq (letters_of n) (letters_of (number_of Value base))) (not (list_any (is_frame_of base) rows)) h).0

  framed-alike : is_asked base.kind Value ≡ true → list_any (is_frame_of base) rows ≡ true → (attr_of next Value ≡ attr_of row Value) ⊎ ((attr ≡ Value) × (attr_of next Value ≡ Some v)) → number_of Value next ≡ number_of Value base
  framed-alike asked any (inl kept) = ap number_in kept ∙ alike.framed asked any
  framed-alike asked any (inr new) = by v (needs Value new.0 asked)
    where
      by : (u : value.Value) → needs_the_same rows base Value u ≡ true → number_of Value next ≡ number_of Value base
      by (Words text) h = absurd (true≢false (sym h))
      by (Number n) h =
          let none = (and_parts (nat_eq (letters_of n) (letters_of (number_of Value base))) (not (list_any (is_frame_of base) rows)) h).1 in
          absurd (true≢false (sym none ∙ ap not any))

  needs-set : NeedsAlike rows base next
  needs-set = record {
    measures = λ other measure. measure-alike other measure (attr-set attr other v row);
    texts = λ asked. text-alike asked (attr-set attr Text v row);
    letters = λ asked. letters-alike asked (attr-set attr Value v row);
    framed = λ asked any. framed-alike asked any (attr-set attr Value v row);
  }

-- Of several options each one is measured by the first row.
needs-options : (rows : List Row) (base row : Row) (options : List (Attr × value.Value)) → NeedsAlike rows base row → list_any (λ (option : Attr × value.Value). value_moves rows base option.0 option.1) options ≡ false → NeedsAlike rows base (with_attrs options row)
needs-options rows base row [] alike still = alike
needs-options rows base row (option ∷ options) alike still =
    let parts = or_parts (value_moves rows base option.0 option.1) (list_any (λ (o : Attr × value.Value). value_moves rows base o.0 o.1) options) still in
    needs-options rows base (with_attr option.0 option.1 row) options (needs-set rows base row option.0 option.1 alike parts.0) parts.1

module _ (rows : List Row) (client : ℕ) (name : List ℕ) (options : List (Attr × value.Value)) (apart : AreNamedApart rows) (linked : list_all (links_right rows) rows ≡ true) where
  abbrev change : Row → Row
  change = changed client name (with_attrs options)

  kept-by : {X : Type 0} (f : Row → X) → ((row : Row) (values : List (Option value.Value)) → f (record row { values = values }) ≡ f row) → (row : Row) → f (change row) ≡ f row
  kept-by f same = of-changed f client name (with_attrs options) (λ row. ap f (same_but_values options row) ∙ same row (with_attrs options row).values)

  names : LeavesNames change
  names = record { client = kept-by (λ (r : Row). r.client) (λ row values. refl); name = kept-by (λ (r : Row). r.name) (λ row values. refl) }

  link-kept : (row : Row) → (change row).link ≡ row.link
  link-kept = kept-by (λ (r : Row). r.link) (λ row values. refl)

  module _ (row : Row) (found : row_named rows client name ≡ Some row) (still : list_any (λ (option : Attr × value.Value). value_moves rows row option.0 option.1) options ≡ false) where
    alike-at : (i : ℕ) (other : Row) → slice_get rows i ≡ Some other → NeedsAlike rows other (change other)
    alike-at i other there = by (has_name client name other) refl
      where
        by : (b : Bool) → has_name client name other ≡ b → NeedsAlike rows other (cond b (with_attrs options other) other)
        by false q = needs-own rows other
        by true q =
            let same : other ≡ row = row_named-only rows i other row client name apart found there q in
            needs-options rows other other options (needs-own rows other) (ap (λ (r : Row). list_any (λ (o : Attr × value.Value). value_moves rows r o.0 o.1) options) same ∙ still)

    -- a linked row is a Variable, of which the value is read
    led-variable : (i : ℕ) (other : Row) → slice_get rows i ≡ Some other → (to : List ℕ) (led : Row) → other.link ≡ Some to → row_named rows other.client to ≡ Some led → is_variable_kind led.kind ≡ true
    led-variable i other there to led q p =
        sym (ap (λ (o : Option Row). option_map_or (λ (r : Row). is_variable_kind r.kind) o false) p) ∙ leads_right rows other to (all_at (links_right rows) rows i other linked there) q

    led-letters : (i : ℕ) (other : Row) → slice_get rows i ≡ Some other → (to : List ℕ) (led : Row) → other.link ≡ Some to → row_named rows other.client to ≡ Some led → letters_of (number_of Value (change led)) ≡ letters_of (number_of Value led)
    led-letters i other there to led q p =
        let at = find-element (has_name other.client to) rows led p in
        (alike-at at.0 led at.1).letters (led-variable i other there to led q p)

    led-frame : (other : Row) → other.kind ≡ Frame → (to : List ℕ) (led : Row) → other.link ≡ Some to → row_named rows other.client to ≡ Some led → is_frame_of led other ≡ true
    led-frame other frame to led q p =
        let parts = row_named-parts rows other.client to led p in
        and_from (is_frame other.kind) (nat_eq led.client other.client && option_map_or (bytes_eq led.name) other.link false) (ap is_frame frame)
        (and_from (nat_eq led.client other.client) (option_map_or (bytes_eq led.name) other.link false) (eq-eqb led.client other.client parts.0)
        (ap (λ (o : Option (List ℕ)). option_map_or (bytes_eq led.name) o false) q ∙ ap (bytes_eq led.name) (sym parts.1) ∙ nat_list_eq_equiv.refl led.name))

    led-value : (i : ℕ) (other : Row) → slice_get rows i ≡ Some other → other.kind ≡ Frame → (to : List ℕ) (led : Row) → other.link ≡ Some to → row_named rows other.client to ≡ Some led → number_of Value (change led) ≡ number_of Value led
    led-value i other there frame to led q p =
        let at = find-element (has_name other.client to) rows led p in
        (alike-at at.0 led at.1).framed (led-variable i other there to led q p) (any_at (is_frame_of led) rows i other there (led-frame other frame to led q p))

    set-leaves : LeavesAsked change rows
    set-leaves = record {
      client = names.client;
      name = names.name;
      kind = kept-by (λ (r : Row). r.kind) (λ row values. refl);
      attached = kept-by (λ (r : Row). r.attached) (λ row values. refl);
      column_rules = kept-by (λ (r : Row). r.column_rules) (λ row values. refl);
      row_rules = kept-by (λ (r : Row). r.row_rules) (λ row values. refl);
      film = kept-by (λ (r : Row). option_map film_size r.film) (λ row values. refl);
      measures = λ i other there. (alike-at i other there).measures;
      texts = λ i other there. (alike-at i other there).texts;
      letters = λ i other there. letters-kept change rows other names (names.client other) (link-kept other) (led-letters i other there);
      framed = λ i other there frame. linked-kept change rows other names (names.client other) (link-kept other) (led-value i other there frame);
    }

  pub set-unmoved : (o : Option Row) → row_named rows client name ≡ o → option_map_or (λ (row : Row). list_any (λ (option : Attr × value.Value). value_moves rows row option.0 option.1) options) o false ≡ false → MoveNothing rows (with_named client name (with_attrs options) rows)
  set-unmoved None found still = subst (λ (left : List Row). MoveNothing rows left) (sym (with_named-absent rows client name (with_attrs options) found)) (unmoved-same rows)
  set-unmoved (Some row) found still = unmoved-map change rows (moves-nothing change rows (set-leaves row found still))
