-- That rows stand apart and hang right in one another, after a change of one of them.
use Rattle.std.proofs.Common.{◌≡◌, ℕ, ◌+◌, Bool, true, false, cond, not, ◌&&◌, nat_lt, List, Option, Some, None, is_some, refl, sym, ap, ◌∙◌, subst}
use Rattle.std.proofs.lemmas.Bool.{and_parts, and_from}
use Rattle.std.specs.Option.{option_map, option_map_or, option_and_then}
use Rattle.kind_core.specs.declared.kinds.Kind.{Kind}
use Rattle.kind_core.specs.declared.shapes.Cell.{Cell}
use Rattle.widget_model.specs.Rows.{Row, with_attached}
use Rattle.widget_model.specs.Nodes.{Node, node_of}
use Rattle.widget_model.specs.Named.{row_named, with_named, without_named, AreNamedApart}
use Rattle.widget_model.specs.Trees.{hangs, has_children, can_be_child, child_in, depth_of, height_of, is_above, most_levels}
use Rattle.widget_model.specs.Planted.{takes_cell, IsPlanted}
use Rattle.widget_model.specs.Widgets.{row_at, with_row, without_row}
use Rattle.widget_model.specs.Forest.{HaveOwnNumbers}
use Rattle.widget_model.proofs.Naming.{rows-with_row, rows-without_row, id_named-row}
use Rattle.tree_core.specs.declared.refusal.AttachRefusal.TheVariants.{WrongKind, HasParent, Cycle, TooDeep, CellTaken}
use Rattle.widget_model.specs.Widgets.{rows_in}
use Rattle.tree_core.specs.Children.{widgets_in}
use Rattle.tree_core.specs.Kept.{IsGrove}
use Rattle.tree_core.specs.Refusals.{attach_refusal, attach_answer}
use Rattle.tree_core.proofs.Listed.{row_named-row}
use Rattle.row_store.proofs.UnderNumbers.{nodes-with_row}
use Rattle.row_store.proofs.Options.{is_none_of}
use Rattle.widget_model.proofs.Leaves.{LeavesNode-node, LeavesNode-changed}
use Rattle.widget_model.proofs.ChangedRows.{AreNamedApart-map}
use Rattle.widget_model.proofs.Hanging.{changed}
use Rattle.widget_model.proofs.Planting.{IsPlanted-attach, IsPlanted-detach}
use Rattle.widget_model.proofs.Cells.{CanHang}

-- a change of the numbered row is a change of the row so named
pub rows_in-with_row : (es : List (ℕ × Row)) (id : ℕ) (change : Row → Row) (row : Row) → IsGrove es → row_at es id ≡ Some row → rows_in (with_row id change es) ≡ with_named row.client row.name change (rows_in es)
rows_in-with_row es id change row grove there = rows-with_row es row.client row.name id change grove.own_numbers grove.own_names (id_named-row es id row grove.own_names there)

-- and the rows without it are those without the row so named
pub rows_in-without_row : (es : List (ℕ × Row)) (id : ℕ) (row : Row) → IsGrove es → row_at es id ≡ Some row → rows_in (without_row id es) ≡ without_named row.client row.name (rows_in es)
rows_in-without_row es id row grove there = rows-without_row es row.client row.name id grove.own_numbers grove.own_names (id_named-row es id row grove.own_names there)

-- a change that leaves the nodes
pub IsGrove-with_row : (es : List (ℕ × Row)) (id : ℕ) (change : Row → Row) (row : Row) → ((row : Row) → node_of (change row) ≡ node_of row) → IsGrove es → row_at es id ≡ Some row → IsPlanted (with_named row.client row.name change (rows_in es)) → IsGrove (with_row id change es)
IsGrove-with_row es id change row same grove there planted =
    let nodes_same = nodes-with_row es id change same in
    let N : List (ℕ × Node) → Type 0 = λ ns. HaveOwnNumbers ns in
    let rows_same = rows_in-with_row es id change row grove there in
    let M : List Row → Type 0 = λ rows. AreNamedApart rows in
    let P : List Row → Type 0 = λ rows. IsPlanted rows in
    record {
      own_numbers = subst N (sym nodes_same) grove.own_numbers;
      own_names = subst M (sym rows_same) (AreNamedApart-map (rows_in es) (changed row.client row.name change) (LeavesNode-changed row.client row.name change (LeavesNode-node change same)) grove.own_names);
      planted = subst P (sym rows_same) planted;
    }

pub IsGrove-unhang : (es : List (ℕ × Row)) (id : ℕ) (row : Row) → IsGrove es → row_at es id ≡ Some row → IsGrove (with_row id (with_attached None) es)
IsGrove-unhang es id row grove there = IsGrove-with_row es id (with_attached None) row (λ row. refl) grove there (IsPlanted-detach (rows_in es) row.client row.name grove.planted)

-- the tests behind a refusal, where there is none
pub no_attach_refusal : (rows : List Row) (upper lower : Row) (cell : Cell) → lower.client ≡ upper.client → takes_cell upper.kind cell ≡ true → row_named rows upper.client upper.name ≡ Some upper → row_named rows lower.client lower.name ≡ Some lower → attach_refusal rows upper lower cell ≡ None → CanHang rows upper.client upper.name lower.name cell upper lower
no_attach_refusal rows upper lower cell owner takes upper_there lower_there h =
    by (has_children upper.kind && can_be_child lower.kind) refl (hangs lower) refl (is_above rows upper.client lower.name upper.name) refl (nat_lt most_levels (depth_of rows upper.client upper.name + height_of rows lower.client lower.name)) refl (is_some (child_in rows upper.client upper.name cell.column cell.row)) refl h
  where
    by : (a : Bool) → (has_children upper.kind && can_be_child lower.kind) ≡ a → (b : Bool) → hangs lower ≡ b → (d : Bool) → is_above rows upper.client lower.name upper.name ≡ d → (e : Bool) → nat_lt most_levels (depth_of rows upper.client upper.name + height_of rows lower.client lower.name) ≡ e → (f : Bool) → is_some (child_in rows upper.client upper.name cell.column cell.row) ≡ f → cond (not a) (Some WrongKind) (cond b (Some HasParent) (cond d (Some Cycle) (cond e (Some TooDeep) (cond f (Some CellTaken) None)))) ≡ None → CanHang rows upper.client upper.name lower.name cell upper lower
    by false p b q d r e s f t k = absurd (cc)
    by true p true q d r e s f t k = absurd (cc)
    by true p false q true r e s f t k = absurd (cc)
    by true p false q false r true s f t k = absurd (cc)
    by true p false q false r false s true t k = absurd (cc)
    by true p false q false r false s false t k =
        let kinds = and_parts (has_children upper.kind) (can_be_child lower.kind) p in
        record {
          upper_there = upper_there;
          lower_there = ap (λ (client : ℕ). row_named rows client lower.name) (sym owner) ∙ lower_there;
          has_children = kinds.0;
          can_be_child = kinds.1;
          has_cell = and_from (has_children upper.kind) (takes_cell upper.kind cell) kinds.0 takes;
          stands_alone = q;
          no_cycle = r;
          not_deep = ap (λ (client : ℕ). nat_lt most_levels (depth_of rows upper.client upper.name + height_of rows client lower.name)) (sym owner) ∙ s;
          cell_free = is_none_of (child_in rows upper.client upper.name cell.column cell.row) t;
        }

-- no refusal is the answer where all tests are passed
pub attach_answer-none : (es : List (ℕ × Row)) (parent child : ℕ) (cell : Cell) (upper lower : Row) → row_at es parent ≡ Some upper → row_at es child ≡ Some lower → (has_children upper.kind && can_be_child lower.kind) ≡ true → hangs lower ≡ false → is_above (rows_in es) upper.client lower.name upper.name ≡ false → nat_lt most_levels (depth_of (rows_in es) upper.client upper.name + height_of (rows_in es) lower.client lower.name) ≡ false → child_in (rows_in es) upper.client upper.name cell.column cell.row ≡ None → attach_answer (widgets_in es) parent child cell ≡ Some None
attach_answer-none es parent child cell upper lower upper_there lower_there kinds alone above deep free = rw (upper_there, lower_there, kinds, alone, above, deep, free) refl

-- what the numbered rows are where a child can be hung in a parent
pub record MayHang (es : List (ℕ × Row)) (parent child : ℕ) (cell : Cell) (upper lower : Row) : Type 0 where
  pub upper_there : row_at es parent ≡ Some upper
  pub lower_there : row_at es child ≡ Some lower
  pub owner : lower.client ≡ upper.client
  pub takes : takes_cell upper.kind cell ≡ true
  pub allowed : attach_refusal (rows_in es) upper lower cell ≡ None

pub MayHang-answer : (es : List (ℕ × Row)) (parent child : ℕ) (cell : Cell) (upper lower : Row) → row_at es parent ≡ Some upper → row_at es child ≡ Some lower → option_map (λ (row : Row). row.client) (row_at es parent) ≡ option_map (λ (row : Row). row.client) (row_at es child) → option_map_or (λ (kind : Kind). takes_cell kind cell) (option_map (λ (row : Row). row.kind) (row_at es parent)) false ≡ true → attach_answer (widgets_in es) parent child cell ≡ Some None → MayHang es parent child cell upper lower
MayHang-answer es parent child cell upper lower upper_there lower_there owner takes answer =
    let clients : Some upper.client ≡ Some lower.client = ap (option_map (λ (row : Row). row.client)) (sym upper_there) ∙ owner ∙ ap (option_map (λ (row : Row). row.client)) lower_there in
    let O : Option Row → Type 0 = λ o. option_and_then (λ (u : Row). option_map (λ (l : Row). attach_refusal (rows_in es) u l cell) (row_at es child)) o ≡ Some None in
    let Q : Option Row → Type 0 = λ o. option_map (λ (l : Row). attach_refusal (rows_in es) upper l cell) o ≡ Some None in
    let allowed : Some (attach_refusal (rows_in es) upper lower cell) ≡ Some None = subst Q lower_there (subst O upper_there answer) in
    record {
      upper_there = upper_there;
      lower_there = lower_there;
      owner = let same : upper.client ≡ lower.client = cc in sym same;
      takes = ap (λ (o : Option Row). option_map_or (λ (kind : Kind). takes_cell kind cell) (option_map (λ (row : Row). row.kind) o) false) (sym upper_there) ∙ takes;
      allowed = cc;
    }

pub MayHang-CanHang : (es : List (ℕ × Row)) (parent child : ℕ) (cell : Cell) (upper lower : Row) → IsGrove es → MayHang es parent child cell upper lower → CanHang (rows_in es) upper.client upper.name lower.name cell upper lower
MayHang-CanHang es parent child cell upper lower grove may =
    no_attach_refusal (rows_in es) upper lower cell may.owner may.takes
    (row_named-row es parent upper grove.own_numbers grove.own_names may.upper_there)
    (row_named-row es child lower grove.own_numbers grove.own_names may.lower_there)
    may.allowed

pub IsGrove-hang : (es : List (ℕ × Row)) (parent child : ℕ) (cell : Cell) (upper lower : Row) → IsGrove es → MayHang es parent child cell upper lower → IsGrove (with_row child (with_attached (Some (upper.name, cell))) es)
IsGrove-hang es parent child cell upper lower grove may =
    let can = MayHang-CanHang es parent child cell upper lower grove may in
    let P : ℕ → Type 0 = λ client. IsPlanted (with_named client lower.name (with_attached (Some (upper.name, cell))) (rows_in es)) in
    IsGrove-with_row es child (with_attached (Some (upper.name, cell))) lower (λ row. refl) grove may.lower_there
    (subst P (sym may.owner) (IsPlanted-attach (rows_in es) upper.client upper.name lower.name cell upper lower grove.own_names can grove.planted))
