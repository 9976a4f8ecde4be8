-- Numbered rows that hang alike: where numbers stay with their widgets, the same keys in the same order have the same
-- numbers, and each number has the same parent and root.
use Rattle.std.proofs.Common.{◌≡◌, ℕ, Bool, true, false, cond, nat_eq, List, [], ◌∷◌, map, Option, Some, None, refl, sym, ap, ◌∙◌}
use Rattle.std.specs.List.{All}
use Rattle.std.specs.Option.{option_map, option_map_or, option_and_then}
use Rattle.std.proofs.lemmas.Bool.{eq-eqb, eqb-true}
use Rattle.std.proofs.lemmas.List.Elements.{All-head, All-tail}
use Rattle.kind_core.specs.declared.kinds.Kind.TheVariants.{Window}
use Rattle.kind_core.specs.declared.shapes.Cell.{Cell}
use Rattle.widget_model.specs.Rows.{Row}
use Rattle.widget_model.specs.Nodes.{id_named, node_at}
use Rattle.widget_model.specs.Keys.{key_of}
use Rattle.widget_model.specs.Trees.{root_of}
use Rattle.widget_model.specs.Widgets.{Widgets, nodes, rows_in, rows_of, row_at, row_kind, key_at}
use Rattle.widget_model.specs.Relatives.{parent_id, root_id}
use Rattle.widget_model.specs.Forest.{HaveOwnNumbers}
use Rattle.row_store.proofs.UnderNumbers.{row_at-absent}
use Rattle.scene_core.specs.View.{keys_of}
use Rattle.desk_layout.specs.Numbers.{KeepsNumbers}
use Rattle.desk_model.specs.InPlace.{hung_of}
use Rattle.server_core.proofs.RowsAlike.{Hung, is_hung, root_of-alike}

abbrev pub hung_entry : ℕ × Row → ℕ × Hung
hung_entry entry = (entry.0, hung_of entry.1)

-- each of the entries is found under its number
abbrev AreKeyed : List (ℕ × Row) → List (ℕ × Row) → Type 0
AreKeyed all [] = Unit {0}
AreKeyed all (entry ∷ entries) = (row_at all entry.0 ≡ Some entry.1) × AreKeyed all entries

keyed-more : (first : ℕ × Row) (all entries : List (ℕ × Row)) → node_at (nodes all) first.0 ≡ None → AreKeyed all entries → AreKeyed (first ∷ all) entries
keyed-more first all [] none keyed = tt
keyed-more first all (entry ∷ entries) none keyed = (by (nat_eq entry.0 first.0) refl, keyed-more first all entries none keyed.1)
  where
    by : (b : Bool) → nat_eq entry.0 first.0 ≡ b → cond b (Some first.1) (row_at all entry.0) ≡ Some entry.1
    by true same =
        let lost : Some entry.1 ≡ None = sym keyed.0 ∙ ap (row_at all) (eqb-true entry.0 first.0 same) ∙ row_at-absent all first.0 none in
        absurd (cc)
    by false other = keyed.0

keyed-own : (entries : List (ℕ × Row)) → HaveOwnNumbers (nodes entries) → AreKeyed entries entries
keyed-own [] own = tt
keyed-own (entry ∷ entries) own =
    (ap {B = Option Row} (λ (b : Bool). cond b (Some entry.1) (row_at entries entry.0)) (eq-eqb entry.0 entry.0 refl), keyed-more entry entries entries own.0 (keyed-own entries own.1))

-- the same keys have the same numbers
entries-in : (old new xs ys : List (ℕ × Row)) → KeepsNumbers old new → AreKeyed old xs → AreKeyed new ys → map hung_of (rows_in ys) ≡ map hung_of (rows_in xs) → map hung_entry ys ≡ map hung_entry xs
entries-in old new [] [] keeps keyed keyed' same = refl
entries-in old new [] (y ∷ ys) keeps keyed keyed' same = absurd (cc)
entries-in old new (x ∷ xs) [] keeps keyed keyed' same = absurd (cc)
entries-in old new (x ∷ xs) (y ∷ ys) keeps keyed keyed' same =
    let hung : hung_of y.1 ≡ hung_of x.1 = cc in
    let rows : map hung_of (rows_in ys) ≡ map hung_of (rows_in xs) = cc in
    let rest = entries-in old new xs ys keeps keyed.1 keyed'.1 rows in
    let id : x.0 ≡ y.0 = keeps.numbers (key_of x.1) x.0 y.0 (ap (option_map key_of) keyed.0) (ap (option_map key_of) keyed'.0 ∙ ap (λ (h : Hung). Some h.0) hung) in
    λ i. (sym id i, hung i) ∷ rest i

pub entries-alike : (old new : List (ℕ × Row)) → KeepsNumbers old new → HaveOwnNumbers (nodes old) → HaveOwnNumbers (nodes new) → map hung_of (rows_in new) ≡ map hung_of (rows_in old) → map hung_entry new ≡ map hung_entry old
entries-alike old new keeps own own' same = entries-in old new old new keeps (keyed-own old own) (keyed-own new own') same

-- what hangs under a number, and the number of a key
hung_at : List (ℕ × Hung) → ℕ → Option Hung
hung_at [] id = None
hung_at (entry ∷ entries) id = cond (nat_eq id entry.0) (Some entry.1) (hung_at entries id)

id_hung : List (ℕ × Hung) → ℕ → List ℕ → Option ℕ
id_hung [] client name = None
id_hung (entry ∷ entries) client name = cond (is_hung client name entry.1) (Some entry.0) (id_hung entries client name)

hung_at-read : (entries : List (ℕ × Row)) (id : ℕ) → option_map hung_of (row_at entries id) ≡ hung_at (map hung_entry entries) id
unfolding hung_at
hung_at-read [] id = refl
hung_at-read (entry ∷ entries) id = by (hung_at-read entries id) (nat_eq id entry.0)
  where
    by : option_map hung_of (row_at entries id) ≡ hung_at (map hung_entry entries) id → (b : Bool) → option_map hung_of (cond b (Some entry.1) (row_at entries id)) ≡ cond b (Some (hung_of entry.1)) (hung_at (map hung_entry entries) id)
    by rest true = refl
    by rest false = rest

id_hung-read : (entries : List (ℕ × Row)) (client : ℕ) (name : List ℕ) → id_named (nodes entries) client name ≡ id_hung (map hung_entry entries) client name
unfolding id_hung
id_hung-read [] client name = refl
id_hung-read (entry ∷ entries) client name = ap (cond (is_hung client name (hung_of entry.1)) (Some entry.0)) (id_hung-read entries client name)

key_at-read : (entries : List (ℕ × Row)) (id : ℕ) → key_at entries id ≡ option_map (λ (hung : Hung). hung.0) (hung_at (map hung_entry entries) id)
key_at-read entries id = by (row_at entries id) ∙ ap (option_map (λ (hung : Hung). hung.0)) (hung_at-read entries id)
  where
    by : (o : Option Row) → option_map key_of o ≡ option_map (λ (hung : Hung). hung.0) (option_map hung_of o)
    by None = refl
    by (Some row) = refl

parent_id-read : (widgets : Widgets) (id : ℕ) → parent_id widgets id ≡ option_and_then (λ (hung : Hung). option_and_then (id_hung (map hung_entry widgets.entries) hung.0.0) hung.1) (hung_at (map hung_entry widgets.entries) id)
parent_id-read widgets id =
    by (row_at widgets.entries id)
    ∙ ap (option_and_then (λ (hung : Hung). option_and_then (id_named (nodes widgets.entries) hung.0.0) hung.1)) (hung_at-read widgets.entries id)
    ∙ (λ i. option_and_then (λ (hung : Hung). option_and_then (λ name. id_hung-read widgets.entries hung.0.0 name i) hung.1) (hung_at (map hung_entry widgets.entries) id))
  where
    above : (row : Row) (o : Option (List ℕ × Cell)) → option_and_then (λ (attached : List ℕ × Cell). id_named (nodes widgets.entries) row.client attached.0) o ≡ option_and_then (id_named (nodes widgets.entries) row.client) (option_map (λ (attached : List ℕ × Cell). attached.0) o)
    above row None = refl
    above row (Some attached) = refl

    by : (o : Option Row) → option_and_then (λ (row : Row). option_and_then (λ (attached : List ℕ × Cell). id_named (nodes widgets.entries) row.client attached.0) row.attached) o ≡ option_and_then (λ (hung : Hung). option_and_then (id_named (nodes widgets.entries) hung.0.0) hung.1) (option_map hung_of o)
    by None = refl
    by (Some row) = above row row.attached

root_id-read : (widgets : Widgets) (id : ℕ) → root_id widgets id ≡ option_and_then (λ (hung : Hung). id_hung (map hung_entry widgets.entries) hung.0.0 (root_of (rows_of widgets) hung.0.0 hung.0.1)) (hung_at (map hung_entry widgets.entries) id)
root_id-read widgets id =
    by (row_at widgets.entries id)
    ∙ ap (option_and_then (λ (hung : Hung). id_named (nodes widgets.entries) hung.0.0 (root_of (rows_of widgets) hung.0.0 hung.0.1))) (hung_at-read widgets.entries id)
    ∙ (λ i. option_and_then (λ (hung : Hung). id_hung-read widgets.entries hung.0.0 (root_of (rows_of widgets) hung.0.0 hung.0.1) i) (hung_at (map hung_entry widgets.entries) id))
  where
    by : (o : Option Row) → option_and_then (λ (row : Row). id_named (nodes widgets.entries) row.client (root_of (rows_of widgets) row.client row.name)) o ≡ option_and_then (λ (hung : Hung). id_named (nodes widgets.entries) hung.0.0 (root_of (rows_of widgets) hung.0.0 hung.0.1)) (option_map hung_of o)
    by None = refl
    by (Some row) = refl

module _ (old new : Widgets) (entries : map hung_entry new.entries ≡ map hung_entry old.entries) where
  pub key_at-alike : (id : ℕ) → key_at new.entries id ≡ key_at old.entries id
  key_at-alike id = key_at-read new.entries id ∙ ap (λ (es : List (ℕ × Hung)). option_map (λ (hung : Hung). hung.0) (hung_at es id)) entries ∙ sym (key_at-read old.entries id)

  pub parent_id-alike : (id : ℕ) → parent_id new id ≡ parent_id old id
  parent_id-alike id =
      parent_id-read new id
      ∙ ap (λ (es : List (ℕ × Hung)). option_and_then (λ (hung : Hung). option_and_then (id_hung es hung.0.0) hung.1) (hung_at es id)) entries
      ∙ sym (parent_id-read old id)

  pub root_id-alike : map hung_of (rows_of new) ≡ map hung_of (rows_of old) → (id : ℕ) → root_id new id ≡ root_id old id
  root_id-alike rows id =
      root_id-read new id
      ∙ (λ i. option_and_then (λ (hung : Hung). id_hung (entries i) hung.0.0 (root_of-alike (rows_of old) (rows_of new) rows hung.0.0 hung.0.1 i)) (hung_at (entries i) id))
      ∙ sym (root_id-read old id)

-- the row of a live window, whose key is the first of the list's keys
record IsFirst (entries : List (ℕ × Row)) (id : ℕ) (ids : List ℕ) : Type 0 where
  pub row : Row
  pub there : row_at entries id ≡ Some row
  pub keys : keys_of entries (id ∷ ids) ≡ key_of row ∷ keys_of entries ids

first-live : (entries : List (ℕ × Row)) (id : ℕ) (ids : List ℕ) → row_kind entries id ≡ Some Window → IsFirst entries id ids
first-live entries id ids live = by (row_at entries id) refl live
  where
    by : (o : Option Row) → row_at entries id ≡ o → option_map (λ (row : Row). row.kind) o ≡ Some Window → IsFirst entries id ids
    by None at is = absurd (cc)
    by (Some row) at is = record {
      row = row;
      there = at;
      keys = ap (λ (o : Option Row). option_map_or (λ (key : ℕ × List ℕ). key ∷ keys_of entries ids) (option_map key_of o) (keys_of entries ids)) at;
    }

-- live windows with the same keys have the same numbers
pub windows-alike : (old new : List (ℕ × Row)) (xs ys : List ℕ) → KeepsNumbers old new → All (λ (id : ℕ). row_kind old id ≡ Some Window) xs → All (λ (id : ℕ). row_kind new id ≡ Some Window) ys → keys_of new ys ≡ keys_of old xs → ys ≡ xs
windows-alike old new [] [] keeps live live' same = refl
windows-alike old new [] (y ∷ ys) keeps live live' same =
    let first = first-live new y ys (All-head (λ (id : ℕ). row_kind new id ≡ Some Window) y ys live') in
    let none : key_of first.row ∷ keys_of new ys ≡ [] = sym first.keys ∙ same in
    absurd (cc)
windows-alike old new (x ∷ xs) [] keeps live live' same =
    let first = first-live old x xs (All-head (λ (id : ℕ). row_kind old id ≡ Some Window) x xs live) in
    let none : [] ≡ key_of first.row ∷ keys_of old xs = same ∙ first.keys in
    absurd (cc)
windows-alike old new (x ∷ xs) (y ∷ ys) keeps live live' same =
    let P : ℕ → Type 0 = λ id. row_kind old id ≡ Some Window in
    let P' : ℕ → Type 0 = λ id. row_kind new id ≡ Some Window in
    let first = first-live old x xs (All-head P x xs live) in
    let first' = first-live new y ys (All-head P' y ys live') in
    let lists : key_of first'.row ∷ keys_of new ys ≡ key_of first.row ∷ keys_of old xs = sym first'.keys ∙ same ∙ first.keys in
    let key : key_of first'.row ≡ key_of first.row = cc in
    let keys : keys_of new ys ≡ keys_of old xs = cc in
    let id : x ≡ y = keeps.numbers (key_of first.row) x y (ap (option_map key_of) first.there) (ap (option_map key_of) first'.there ∙ ap (λ (k : ℕ × List ℕ). Some k) key) in
    let rest = windows-alike old new xs ys keeps (All-tail P x xs live) (All-tail P' y ys live') keys in
    λ i. sym id i ∷ rest i
