-- What is kept of a number: nothing where it is dead or hidden, else its look.
use Rattle.std.proofs.Common.{◌≡◌, ℕ, Bool, true, false, cond, Option, Some, None, is_some, refl, sym, ap, ◌∙◌}
use Rattle.std.proofs.lemmas.Bool.{true≢false}
use Rattle.std.specs.Option.{option_map, option_map_or, option_and_then}
use Rattle.look_core.specs.Seen.{Seen}
use Rattle.stack_core.specs.Stack.{holds_key}
use Rattle.widget_model.specs.Rows.{Row}
use Rattle.widget_model.specs.Nodes.{id_named}
use Rattle.widget_model.specs.Trees.{root_of}
use Rattle.widget_model.specs.Widgets.{nodes, rows_of, row_at}
use Rattle.scene_model.specs.LookOf.{look_of}
use Rattle.scene_core.specs.View.{scene_of}
use Rattle.scene_core.specs.declared.view.View.{View}
use Rattle.look_data.specs.Data.{but_bytes}
use Rattle.look_data.specs.Kept.{is_shown_at, kept_look, kept_in}

-- what is kept of a number, by whether it is live and shown
abbrev kept_row : View → Option Row → Option Seen
kept_row view row = option_map (λ (r : Row). but_bytes (look_of (scene_of view) r)) row

pub kept-dead : (view : View) (id : ℕ) → false ≡ is_some (row_at view.tree.now.entries id) → None ≡ kept_in view id
unfolding kept_look
kept-dead view id dead = by (row_at view.tree.now.entries id) refl dead
  where
    by : (o : Option Row) → row_at view.tree.now.entries id ≡ o → false ≡ is_some o → None ≡ kept_in view id
    by None e dead = sym (ap (λ (o : Option Row). cond (option_map_or (holds_key view.stack.now) (option_and_then (λ (row : Row). id_named (nodes view.tree.now.entries) row.client (root_of (rows_of view.tree.now) row.client row.name)) o) false) (kept_row view o) None) e)
    by (Some row) e dead = absurd (true≢false (sym dead))

pub kept-hidden : (view : View) (id : ℕ) → false ≡ is_shown_at view.tree.now view.stack.now id → None ≡ kept_in view id
unfolding kept_look
kept-hidden view id hidden = ap (λ (b : Bool). cond b (kept_row view (row_at view.tree.now.entries id)) None) hidden

pub kept-shown : (view : View) (id : ℕ) (look : Seen) → true ≡ is_shown_at view.tree.now view.stack.now id → option_map (λ (row : Row). but_bytes (look_of (scene_of view) row)) (row_at view.tree.now.entries id) ≡ Some look → Some look ≡ kept_in view id
unfolding kept_look
kept-shown view id look shown read = sym read ∙ ap (λ (b : Bool). cond b (kept_row view (row_at view.tree.now.entries id)) None) shown
