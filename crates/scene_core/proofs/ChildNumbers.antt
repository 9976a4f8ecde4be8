-- The numbers of a widget's children: what its cells have is what hangs in it.
use Rattle.std.proofs.Common.{◌≡◌, ℕ, ◌+◌, ◌-◌, ◌*◌, ◌/◌, ◌%◌, ◌<◌, ◌≤◌, List, [], ◌∷◌, ◌++◌, length, All, Option, Some, None, refl, sym, ap, ◌∙◌, arith, inl, inr, ◌⊎◌, length-append}
use Rattle.std.proofs.lemmas.Bool.{cases_lt}
use Rattle.std.proofs.lemmas.List.{append-nil, get_or_append_left}
use Rattle.std.specs.List.{Contains}
use Rattle.std.specs.Option.{option_map, option_and_then}
use Rattle.std.proofs.lemmas.List.Elements.{All-nil, All-push, Contains-push}
use Rattle.kind_core.specs.declared.kinds.Kind.{Kind}
use Rattle.kind_core.specs.declared.shapes.Cell.{Cell}
use Rattle.widget_model.specs.Rows.{Row, IsIndex}
use Rattle.widget_model.specs.Nodes.{id_named}
use Rattle.widget_model.specs.Widgets.{Widgets, row_at, nodes}
use Rattle.widget_model.specs.Forest.{IsWidgets}
use Rattle.widget_model.specs.Relatives.{parent_id, child_id}
use Rattle.widget_model.proofs.Naming.{id_named-row}
use Rattle.tree_core.specs.Children.{cells_of}
use Rattle.tree_core.specs.Kept.{IsGrove}
use Rattle.tree_core.proofs.Children.{child_id-hangs, hangs-child_id, attached-hangs, HangsUnder-HangsAt, IsCellOf}
use Rattle.scene_core.specs.Children.{one_or_none, AreChildren}

pub grove_of : (widgets : Widgets) → IsWidgets widgets → IsGrove widgets.entries
grove_of widgets valid = record { own_numbers = valid.numbered.own_numbers; own_names = valid.rows.names; planted = valid.rows.planted }

-- what is found in a cell of a widget hangs in it
pub child_id-parent : (widgets : Widgets) (above column line below : ℕ) → IsWidgets widgets → child_id widgets above column line ≡ Some below → parent_id widgets below ≡ Some above
child_id-parent widgets above column line below valid found =
    let h = child_id-hangs widgets.entries below above column line (grove_of widgets valid) found in
    let number : id_named (nodes widgets.entries) h.upper.client h.upper.name ≡ Some above = id_named-row widgets.entries above h.upper valid.rows.names h.upper_there in
    ap (option_and_then (λ (row : Row). option_and_then (λ (attached : List ℕ × Cell). id_named (nodes widgets.entries) row.client attached.0) row.attached)) h.lower_there
    ∙ ap (option_and_then (λ (attached : List ℕ × Cell). id_named (nodes widgets.entries) h.lower.client attached.0)) h.attached
    ∙ ap (λ (client : ℕ). id_named (nodes widgets.entries) client h.upper.name) h.owner
    ∙ number

-- a widget that hangs in another is found in one of its cells
pub record IsFound (widgets : Widgets) (above below : ℕ) : Type 0 where
  pub lower : Row
  pub upper : Row
  pub cell : Cell
  pub lower_there : row_at widgets.entries below ≡ Some lower
  pub upper_there : row_at widgets.entries above ≡ Some upper
  pub attached : lower.attached ≡ Some (upper.name, cell)
  pub owner : lower.client ≡ upper.client
  pub cell_is : IsCellOf upper.kind cell
  pub found : child_id widgets above cell.column cell.row ≡ Some below

pub parent_id-found : (widgets : Widgets) (above below : ℕ) → IsWidgets widgets → parent_id widgets below ≡ Some above → IsFound widgets above below
parent_id-found widgets above below valid h = by (row_at widgets.entries below) refl h
  where
    under : (lower : Row) (name : List ℕ) (cell : Cell) → row_at widgets.entries below ≡ Some lower → lower.attached ≡ Some (name, cell) → id_named (nodes widgets.entries) lower.client name ≡ Some above → IsFound widgets above below
    under lower name cell there attached number =
        let grove = grove_of widgets valid in
        let u = attached-hangs widgets.entries below lower name cell grove there attached in
        let at = HangsUnder-HangsAt widgets.entries below lower name cell there attached u in
        let same : u.number ≡ above = let e = sym u.numbered ∙ number in cc in
        record {
          lower = lower;
          upper = u.upper;
          cell = cell;
          lower_there = there;
          upper_there = ap (row_at widgets.entries) (sym same) ∙ u.upper_there;
          attached = attached ∙ ap (λ (n : List ℕ). Some (n, cell)) (sym u.named);
          owner = u.owner;
          cell_is = u.cell_is;
          found = ap (λ (n : ℕ). child_id widgets n cell.column cell.row) (sym same) ∙ hangs-child_id widgets.entries below u.number cell.column cell.row grove at;
        }

    at : (lower : Row) → row_at widgets.entries below ≡ Some lower → (o : Option (List ℕ × Cell)) → lower.attached ≡ o → option_and_then (λ (attached : List ℕ × Cell). id_named (nodes widgets.entries) lower.client attached.0) o ≡ Some above → IsFound widgets above below
    at lower there None q k = absurd (cc)
    at lower there (Some (name, cell)) q k = under lower name cell there q k

    by : (o : Option Row) → row_at widgets.entries below ≡ o → option_and_then (λ (row : Row). option_and_then (λ (attached : List ℕ × Cell). id_named (nodes widgets.entries) row.client attached.0) row.attached) o ≡ Some above → IsFound widgets above below
    by None q k = absurd (cc)
    by (Some lower) q k = at lower q lower.attached refl k

-- what was found in the first cells
pub record AreFound (widgets : Widgets) (id index : ℕ) (keys : List ℕ) : Type 0 where
  pub few : length keys ≤ index
  pub each : All (λ kid. parent_id widgets kid ≡ Some id) keys
  pub all : (kid column line : ℕ) → IsIndex column → IsIndex line → (column - 1) * 16 + (line - 1) < index → child_id widgets id column line ≡ Some kid → Contains keys kid

pub found_none : (widgets : Widgets) (id : ℕ) → AreFound widgets id 0 []
found_none widgets id = record { few = omega arith; each = All-nil (λ kid. parent_id widgets kid ≡ Some id); all = λ kid column line c l h found. absurd (omega arith) }

Contains-left : (xs ys : List ℕ) (x : ℕ) → Contains xs x → Contains (xs ++ ys) x
Contains-left xs ys x h = (h.0, omega (arith, h.1, length-append xs ys), get_or_append_left xs ys x h.0 h.1 ∙ h.2)

-- the column and row of a cell, from its index
cell_index : (index column line : ℕ) → IsIndex column → IsIndex line → (column - 1) * 16 + (line - 1) ≡ index → (column ≡ index / 16 + 1) × (line ≡ index % 16 + 1)
cell_index index column line c l h = (omega (arith, c.0, c.1, l.0, l.1, h), omega (arith, c.0, c.1, l.0, l.1, h))

pub found_more : (widgets : Widgets) (id index : ℕ) (keys : List ℕ) → IsWidgets widgets → AreFound widgets id index keys
    → AreFound widgets id (index + 1) (keys ++ one_or_none (child_id widgets id (index / 16 + 1) (index % 16 + 1)))
found_more widgets id index keys valid h = by (child_id widgets id (index / 16 + 1) (index % 16 + 1)) refl
  where
    P : ℕ → Type 0
    P kid = parent_id widgets kid ≡ Some id

    here : (o : Option ℕ) → child_id widgets id (index / 16 + 1) (index % 16 + 1) ≡ o → (kid column line : ℕ) → IsIndex column → IsIndex line → (column - 1) * 16 + (line - 1) ≡ index → child_id widgets id column line ≡ Some kid → o ≡ Some kid
    here o q kid column line c l at found =
        let e = cell_index index column line c l at in
        sym q ∙ ap (λ (n : ℕ). child_id widgets id n (index % 16 + 1)) (sym e.0) ∙ ap (λ (n : ℕ). child_id widgets id column n) (sym e.1) ∙ found

    split : (a b : ℕ) → a < b + 1 → (a < b) ⊎ (a ≡ b)
    split a b lt = elim (cases_lt a b) [ inl less ↦ inl less | inr more ↦ inr (omega arith) ]

    by : (o : Option ℕ) → child_id widgets id (index / 16 + 1) (index % 16 + 1) ≡ o → AreFound widgets id (index + 1) (keys ++ one_or_none o)
    by None q = record {
      few = omega (arith, h.few, length-append keys (one_or_none None));
      each = rw append-nil h.each;
      all = λ kid column line c l within found.
          elim (split ((column - 1) * 16 + (line - 1)) index within) [ inl less ↦ Contains-left keys [] kid (h.all kid column line c l less found) | inr at ↦ absurd (let e = here None q kid column line c l at found in cc) ];
    }
    by (Some kid) q = record {
      few = omega (arith, h.few, length-append keys (kid ∷ []));
      each = All-push P keys kid h.each (child_id-parent widgets id (index / 16 + 1) (index % 16 + 1) kid valid q);
      all = λ other column line c l within found.
          elim (split ((column - 1) * 16 + (line - 1)) index within) [ inl less ↦ Contains-left keys (kid ∷ []) other (h.all other column line c l less found) | inr at ↦ (let e = here (Some kid) q other column line c l at found in let same : kid ≡ other = cc in rw (← same) (Contains-push keys kid)) ];
    }

-- all cells of the widget have its children
pub found_all : (widgets : Widgets) (id : ℕ) (kind : Kind) (keys : List ℕ) → IsWidgets widgets → option_map (λ (row : Row). row.kind) (row_at widgets.entries id) ≡ Some kind
    → AreFound widgets id (cells_of kind) keys → AreChildren widgets id keys
found_all widgets id kind keys valid is h = record {
  each = h.each;
  all = λ kid parent.
      let f = parent_id-found widgets id kid valid parent in
      let same : f.upper.kind ≡ kind = let e = ap (option_map (λ (row : Row). row.kind)) (sym f.upper_there) ∙ is in cc in
      h.all kid f.cell.column f.cell.row f.cell_is.column f.cell_is.line (rw (← same) f.cell_is.within) f.found;
}
