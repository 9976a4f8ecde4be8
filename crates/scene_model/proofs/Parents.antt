-- The row in which a row hangs, and going up from it.
use Rattle.std.proofs.Common.{◌≡◌, ℕ, suc, true, false, nat_eq, List, Option, Some, None, refl, sym, ap, ◌∙◌}
use Rattle.std.proofs.lemmas.Bool.{true≢false, eqb-true, and_parts}
use Rattle.std.proofs.lemmas.Slice.Eq.{bytes_eq-Decides}
use Rattle.std.specs.Option.{option_map, option_map_or, option_and_then}
use Rattle.std.specs.Str.{bytes_eq}
use Rattle.kind_core.specs.declared.shapes.Cell.{Cell}
use Rattle.widget_model.specs.Rows.{Row}
use Rattle.widget_model.specs.Named.{row_named}
use Rattle.widget_model.specs.Keys.{key_of, row_of}
use Rattle.widget_model.specs.Trees.{parent_of, is_child, ends_within}
use Rattle.widget_model.proofs.Hanging.{IsNamed-row_named}
use Rattle.scene_model.specs.Placing.{parent_row}

-- the row is the one that its own name finds
pub record IsFound (rows : List Row) (row : Row) : Type 0 where
  pub named : row_named rows row.client row.name ≡ Some row

-- the row hangs in the parent, in that cell
pub record HangsFrom (rows : List Row) (row parent : Row) : Type 0 where
  pub cell : Cell
  pub attached : row.attached ≡ Some (parent.name, cell)
  pub found : row_named rows row.client parent.name ≡ Some parent
  pub client : parent.client ≡ row.client

pub HangsFrom-parent_row : (rows : List Row) (row parent : Row) → parent_row rows row ≡ Some parent → HangsFrom rows row parent
HangsFrom-parent_row rows row parent is = by row.attached refl is
  where
    by : (o : Option (List ℕ × Cell)) → row.attached ≡ o → option_and_then (λ (attached : List ℕ × Cell). row_named rows row.client attached.0) o ≡ Some parent → HangsFrom rows row parent
    by None attached found = absurd (cc)
    by (Some hung) attached found =
        let named = IsNamed-row_named rows row.client hung.0 parent found in
        record {
          cell = hung.1;
          attached = attached ∙ ap (λ (name : List ℕ). Some (name, hung.1)) (sym named.name_is);
          found = ap (row_named rows row.client) named.name_is ∙ found;
          client = named.client_is;
        }

pub IsFound-parent : (rows : List Row) (row parent : Row) → HangsFrom rows row parent → IsFound rows parent
IsFound-parent rows row parent hangs = record { named = ap (λ (client : ℕ). row_named rows client parent.name) hangs.client ∙ hangs.found }

pub parent_row-found : (rows : List Row) (row parent : Row) → HangsFrom rows row parent → parent_row rows row ≡ Some parent
parent_row-found rows row parent hangs =
    ap (option_and_then (λ (attached : List ℕ × Cell). row_named rows row.client attached.0)) hangs.attached ∙ hangs.found

-- the name of the parent of a row that its name finds
pub parent_of-found : (rows : List Row) (client : ℕ) (name : List ℕ) (row : Row) → row_named rows client name ≡ Some row → parent_of rows client name ≡ option_map (λ (attached : List ℕ × Cell). attached.0) row.attached
parent_of-found rows client name row found = ap (option_and_then (λ (r : Row). option_map (λ (attached : List ℕ × Cell). attached.0) r.attached)) found

pub parent_of-hangs : (rows : List Row) (row parent : Row) → IsFound rows row → HangsFrom rows row parent → parent_of rows row.client row.name ≡ Some parent.name
parent_of-hangs rows row parent found hangs =
    parent_of-found rows row.client row.name row found.named ∙ ap (option_map (λ (attached : List ℕ × Cell). attached.0)) hangs.attached

-- one level up
pub ends_within-parent : (most : ℕ) (rows : List Row) (row parent : Row) → IsFound rows row → HangsFrom rows row parent → ends_within (suc most) rows row.client row.name ≡ ends_within most rows parent.client parent.name
ends_within-parent most rows row parent found hangs =
    ap (λ (o : Option (List ℕ)). option_map_or (ends_within most rows row.client) o true) (parent_of-hangs rows row parent found hangs)
    ∙ ap (λ (client : ℕ). ends_within most rows client parent.name) (sym hangs.client)

-- the row is a child of the named widget
pub record IsChildOf (client : ℕ) (name : List ℕ) (child : Row) : Type 0 where
  pub cell : Cell
  pub owner : child.client ≡ client
  pub attached : child.attached ≡ Some (name, cell)

pub IsChildOf-is_child : (client : ℕ) (name : List ℕ) (child : Row) → is_child client name child ≡ true → IsChildOf client name child
IsChildOf-is_child client name child is = by child.attached refl (and_parts (nat_eq client child.client) (option_map_or (λ (attached : List ℕ × Cell). bytes_eq name attached.0) child.attached false) is)
  where
    by : (o : Option (List ℕ × Cell)) → child.attached ≡ o → (nat_eq client child.client ≡ true) × (option_map_or (λ (attached : List ℕ × Cell). bytes_eq name attached.0) o false ≡ true) → IsChildOf client name child
    by None attached parts = absurd (true≢false (sym parts.1))
    by (Some hung) attached parts =
        record {
          cell = hung.1;
          owner = sym (eqb-true client child.client parts.0);
          attached = attached ∙ ap (λ (above : List ℕ). Some (above, hung.1)) (sym ((bytes_eq-Decides name hung.0).0 parts.1));
        }

pub ends_within-child : (most : ℕ) (rows : List Row) (client : ℕ) (name : List ℕ) (child : Row) → IsFound rows child → IsChildOf client name child → ends_within (suc most) rows child.client child.name ≡ ends_within most rows client name
ends_within-child most rows client name child found is =
    ap (λ (o : Option (List ℕ)). option_map_or (ends_within most rows child.client) o true)
    (parent_of-found rows child.client child.name child found.named ∙ ap (option_map (λ (attached : List ℕ × Cell). attached.0)) is.attached)
    ∙ ap (λ (owner : ℕ). ends_within most rows owner name) is.owner

-- the row with a key has that key
pub key_of-found : (rows : List Row) (key : ℕ × List ℕ) (row : Row) → row_of rows key ≡ Some row → key_of row ≡ key
key_of-found rows key row found =
    let named = IsNamed-row_named rows key.0 key.1 row found in
    ap (λ (client : ℕ). (client, row.name)) named.client_is ∙ ap (λ (name : List ℕ). (key.0, name)) named.name_is

pub row_of-own : (rows : List Row) (key : ℕ × List ℕ) (row : Row) → row_of rows key ≡ Some row → row_of rows (key_of row) ≡ Some row
row_of-own rows key row found = ap (row_of rows) (key_of-found rows key row found) ∙ found
