-- The looks that a call touched are those that its clause names.
use Rattle.std.proofs.Common.{◌≡◌, ◌≤◌, ℕ, Bool, true, false, cond, not, nat_eq, List, [], ◌∷◌, Option, Some, None, refl, sym, ap, ap₂, subst, ◌∙◌}
use Rattle.std.proofs.lemmas.Bool.{true≢false}
use Rattle.std.specs.List.{list_any, filter}
use Rattle.std.specs.Option.{option_map}
use Rattle.look_core.specs.Seen.{Seen}
use Rattle.widget_model.specs.Rows.{Row}
use Rattle.widget_model.specs.Keys.{key_of}
use Rattle.widget_model.specs.Nodes.{is_number_of}
use Rattle.widget_model.specs.Widgets.{rows_of, row_at}
use Rattle.widget_model.specs.Forest.{IsWidgets}
use Rattle.tree_core.proofs.ForestLemmas.{number-client}
use Rattle.desk_model.specs.Seen as seen
use Rattle.cmd_words.specs.declared.commands.Command.{Command}
use Rattle.cmd_words.specs.declared.replies.Reply.{Reply}
use Rattle.desk_model.specs.Desk.{Desk}
use Rattle.desk_model.specs.Commands.{step}
use Rattle.desk_model.specs.Feeding.{effects_on, step_feed}
use Rattle.desk_model.specs.Scope.{effects_scope}
use Rattle.cmd_words.specs.declared.inputs.Input.{Input}
use Rattle.tree_core.specs.declared.pointer.Pointer.{Pointer}
use Rattle.tree_core.specs.Holds.{pointer_seen}
use Rattle.look_data.specs.Watched.{AreWatched, has_changed}
use Rattle.touch_rules.specs.Films.{unless_refused}
use Rattle.touch_rules.specs.Telling.{is_told, number_anew, number_named, command_numbers, where_shown}
use Rattle.desk_model.specs.OwnPart.{LeavesOthers}
use Rattle.touch_rules.specs.Touched.{TellsLooks}
use Rattle.touch_rules.specs.Laws.{IsOwnEvent, KeepsKeys, WatchesScope}
use Rattle.touch_rules.proofs.OthersLooks.{number-of-row, leaving_touches_nothing, staying_touches_nothing}
use Rattle.touch_rules.proofs.StepLooks.{steps_tell_looks}
use Rattle.touch_rules.proofs.InputLooks.{inputs_tell_looks}
use Rattle.desk_layout.specs.Numbers.{KeepsNumbers}
use Rattle.desk_core.specs.View.{DeskView}
use Rattle.desk_core.specs.Touching.{numbered_of, TellsTouched}

-- a call that leaves the others, from one whole desk to another
pub record IsCall (client : ℕ) (old new : DeskView) : Type 0 where
  pub some : 1 ≤ client
  pub before : IsWidgets old.widgets
  pub after : IsWidgets new.widgets
  pub rows : old.desk.rows ≡ rows_of old.widgets
  pub rows_after : new.desk.rows ≡ rows_of new.widgets
  pub numbers : KeepsNumbers old.widgets.entries new.widgets.entries
  pub others : LeavesOthers client old.desk new.desk

event-call : (client : ℕ) (old new : DeskView) → IsCall client old new → IsOwnEvent client (numbered_of old) (numbered_of new)
event-call client old new call = record {
  some = call.some;
  keys = λ id a b at_a at_b. call.numbers.keys id (key_of a) (key_of b) (ap (option_map key_of) at_a) (ap (option_map key_of) at_b);
  rows = call.others.rows;
  pointer = call.others.pointer;
}

keeps-keys : (old new : DeskView) → KeepsNumbers old.widgets.entries new.widgets.entries → KeepsKeys (numbered_of old) (numbered_of new)
keeps-keys old new numbers = record { each = λ id a b at_a at_b. numbers.keys id (key_of a) (key_of b) (ap (option_map key_of) at_a) (ap (option_map key_of) at_b) }

-- a command, by what was kept and told
pub stepped-touched : (client : ℕ) (old new : DeskView) (pointer : Pointer) (command : Command) (payload : List ℕ) (short : Bool) (looks : List (ℕ × Seen)) (anew : Option ℕ) (reply : Reply) → IsCall client old new → pointer_seen old.widgets.entries pointer ≡ old.desk.pointer
    → (reply, new.desk) ≡ step old.desk client command payload short
    → AreWatched (command_numbers old.widgets client command pointer) (number_named old.widgets client command) old.widgets old.windows (seen.scene_of old.desk) looks
    → anew ≡ where_shown old.widgets old.windows (number_anew old.widgets client command payload)
    → ((id : ℕ) → list_any (nat_eq id) new.touched ≡ is_told looks (unless_refused reply anew) new.widgets new.windows (seen.scene_of new.desk) id)
    → TellsTouched old new
stepped-touched client old new pointer command payload short looks anew reply call held stepped watched is told =
    steps_tell_looks old.desk client command payload short (numbered_of old) (numbered_of new) pointer looks new.touched
    (record { widgets = call.before; rows = call.rows })
    (record { widgets = call.after; rows = call.rows_after })
    (keeps-keys old new call.numbers)
    (record { scene = refl; held = held })
    watched
    (ap (λ (done : Reply × Desk). seen.scene_of done.1) stepped)
    (λ id.
    told id
    ∙ ap₂ (λ (r : Reply) (a : Option ℕ). is_told looks (unless_refused r a) new.widgets new.windows (seen.scene_of new.desk) id) (ap (λ (done : Reply × Desk). done.0) stepped) is)

-- an input, by the same
pub fed-touched : (old new : DeskView) (event : Input) (named : List ℕ) (variable : Option ℕ) (looks : List (ℕ × Seen)) → IsWidgets old.widgets → IsWidgets new.widgets → old.desk.rows ≡ rows_of old.widgets → new.desk.rows ≡ rows_of new.widgets
    → KeepsNumbers old.widgets.entries new.widgets.entries → new.desk ≡ step_feed old.desk event
    → WatchesScope (effects_scope old.desk.pointer (effects_on old.desk event)) named variable (numbered_of old)
    → AreWatched named variable old.widgets old.windows (seen.scene_of old.desk) looks
    → ((id : ℕ) → list_any (nat_eq id) new.touched ≡ has_changed looks new.widgets new.windows (seen.scene_of new.desk) id)
    → TellsTouched old new
fed-touched old new event named variable looks before after rows rows' numbers fed watches watched told =
    inputs_tell_looks old.desk event (numbered_of old) (numbered_of new) named variable looks new.touched
    (record { widgets = before; rows = rows })
    (record { widgets = after; rows = rows' })
    (keeps-keys old new numbers)
    refl watches watched (ap seen.scene_of fed) told

-- a client that has left has no number
row_at-left : (es : List (ℕ × Row)) (client id : ℕ) (row : Row) → row_at (filter (λ (e : ℕ × Row). not (nat_eq client e.1.client)) es) id ≡ Some row → nat_eq client row.client ≡ false
row_at-left [] client id row there = absurd (cc)
row_at-left (e ∷ es) client id row there = by (row_at-left es client id row) (nat_eq client e.1.client) refl there
  where
    first : (row_at (filter (λ (e : ℕ × Row). not (nat_eq client e.1.client)) es) id ≡ Some row → nat_eq client row.client ≡ false) → nat_eq client e.1.client ≡ false → (b : Bool) → cond b (Some e.1) (row_at (filter (λ (e : ℕ × Row). not (nat_eq client e.1.client)) es) id) ≡ Some row → nat_eq client row.client ≡ false
    first rest other true found = let same : e.1 ≡ row = cc in ap (λ (r : Row). nat_eq client r.client) (sym same) ∙ other
    first rest other false found = rest found

    by : (row_at (filter (λ (e : ℕ × Row). not (nat_eq client e.1.client)) es) id ≡ Some row → nat_eq client row.client ≡ false) → (b : Bool) → nat_eq client e.1.client ≡ b → row_at (cond (not b) (e ∷ filter (λ (e : ℕ × Row). not (nat_eq client e.1.client)) es) (filter (λ (e : ℕ × Row). not (nat_eq client e.1.client)) es)) id ≡ Some row → nat_eq client row.client ≡ false
    by rest true own found = rest found
    by rest false other found = first rest other (nat_eq id e.0) found

pub left-touched : (client : ℕ) (old new : DeskView) → IsCall client old new → new.widgets.entries ≡ filter (λ (e : ℕ × Row). not (nat_eq client e.1.client)) old.widgets.entries → new.touched ≡ [] → TellsTouched old new
left-touched client old new call left none =
    let T : List ℕ → Type 0 = λ xs. TellsLooks (numbered_of old) (numbered_of new) xs in
    subst T (sym none)
    (leaving_touches_nothing client (numbered_of old) (numbered_of new)
    (record { widgets = call.before; rows = call.rows })
    (record { widgets = call.after; rows = call.rows_after })
    (event-call client old new call)
    gone)
  where
    gone : (id : ℕ) → is_number_of client id ≡ true → row_at new.widgets.entries id ≡ None
    gone id own = by (row_at new.widgets.entries id) refl
      where
        by : (o : Option Row) → row_at new.widgets.entries id ≡ o → row_at new.widgets.entries id ≡ None
        by None at = at
        by (Some row) at =
            let other = row_at-left old.widgets.entries client id row (sym (ap (λ (es : List (ℕ × Row)). row_at es id) left) ∙ at) in
            let number = number-of-row new.widgets.entries id row call.after.numbered.numbers at in
            absurd (true≢false (sym own ∙ number-client client row.client id call.some number ∙ other))

pub stayed-touched : (old new : DeskView) → new.widgets.entries ≡ old.widgets.entries → seen.scene_of new.desk ≡ seen.scene_of old.desk → new.touched ≡ [] → TellsTouched old new
stayed-touched old new entries scene none =
    let T : List ℕ → Type 0 = λ xs. TellsLooks (numbered_of old) (numbered_of new) xs in
    subst T (sym none) (staying_touches_nothing (numbered_of old) (numbered_of new) entries scene)
