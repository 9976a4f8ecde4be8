-- What each call of the desk makes of its parts: the desk of its event's step, and parts that keep what they kept.
use Rattle.std.proofs.Common.{◌≡◌, ◌≤◌, ◌<◌, ℕ, ◌-◌, Bool, true, false, ◌&&◌, List, [], refl, sym, ap, ap₂, ◌∙◌, subst}
use Rattle.admit_core.specs.Roster.{RosterState, IsRoster, empty_roster}
use Rattle.cmd_words.specs.declared.commands.Command.{Command}
use Rattle.cmd_words.specs.declared.replies.Reply.{Reply}
use Rattle.stack_core.specs.Stack.{IsStack}
use Rattle.scene_model.specs.Shapes.{IsShape}
use Rattle.widget_model.specs.Rows.{Row}
use Rattle.widget_model.specs.Named.{rows_of_others}
use Rattle.widget_model.specs.Widgets.{Widgets, nodes, no_widgets, rows_of}
use Rattle.widget_model.specs.Forest.{IsWidgets}
use Rattle.desk_model.specs.Desk.{Desk, Ring, opening_desk, is_connected}
use Rattle.desk_model.specs.DeskFacts.{IsDesk}
use Rattle.desk_model.specs.Refusals.{is_memory}
use Rattle.desk_model.specs.LetGo.{let_go}
use Rattle.desk_model.specs.Commands.{row_of, step}
use Rattle.desk_model.proofs.Desks.{IsDesk-opening, IsDesk-command}
use Rattle.desk_commands.specs.Parts.{Stage, stage_of, windows_at, admissions_at, desk_of, AreParts, AreListed}
use Rattle.desk_core.specs.Kept.{IsKept}
use Rattle.desk_core.specs.ClientList.{clients_of}
use Rattle.desk_core.proofs.Rosters.{lists-admitted}
use Rattle.desk_commands.specs.Pointer.{HoldsLive}
use Rattle.desk_layout.specs.Placed.{HaveDuePlaces}
use Rattle.desk_layout.specs.Numbers.{KeepsNumbers}
use Rattle.desk_layout.specs.Settled.{IsSettled}
use Rattle.desk_moves.specs.Stays.{MoveNothing, may_move}
use Rattle.desk_commands.specs.Effects.{DidWhole, TellsAll}
use Rattle.kind_core.specs.declared.shapes.Shape.{Shape}
use Rattle.widget_model.specs.Pointer as model
use Rattle.tree_core.specs.declared.pointer.Pointer.{Pointer}
use Rattle.desk_model.proofs.OwnPart.{commands_leave_others}
use Rattle.desk_layout.proofs.KeyNumbers.{others-due}
use Rattle.desk_layout.proofs.Layouts.{laid-due}
use Rattle.desk_moves.proofs.Unmoved.{unmoved-untold, unmoved-due}
use Rattle.desk_moves.proofs.StillCommands.{unmoved-command}
use Rattle.scene_model.specs.WindowRows.{AreHung}
use Rattle.desk_commands.proofs.PointerKept.{Holds, pointer-holds}
use Rattle.bind_core.specs.Polling.{poll_answer, after_poll}
use Rattle.desk_model.specs.Polling.{ring_of, with_ring, poll_reply}
use Rattle.cmd_words.specs.declared.commands.Command.TheVariants.{Poll}
use Rattle.desk_core.proofs.ClientLists.{clients-with_ring}
use Rattle.desk_core.proofs.CallSteps.{step-obeyed, polled-step}

-- the pointer stays where it is as it lets go
pub let_go-stays : (shape : Shape) (roster : RosterState) (rings : List Ring) (w : Widgets) (keys : List ℕ) (pointer after : Pointer) → desk_of (stage_of shape roster rings w after) w keys ≡ let_go (desk_of (stage_of shape roster rings w pointer) w keys) → (after.x ≡ pointer.x) × (after.y ≡ pointer.y)
unfolding let_go
let_go-stays shape roster rings w keys pointer after end = (ap (λ (d : Desk). d.pointer.x) end, ap (λ (d : Desk). d.pointer.y) end)

-- the parts of a desk at opening
pub IsKept-opening : (shape : Shape) (pointer : Pointer) (rings : List Ring) (w : Widgets) (keys : List ℕ) (roster : RosterState) → IsShape shape → desk_of (stage_of shape (empty_roster (shape.budget - shape.spare)) [] no_widgets pointer) no_widgets [] ≡ opening_desk shape → HoldsLive [] pointer → pointer.x < shape.width → pointer.y < shape.height → rings ≡ [] → w ≡ no_widgets → keys ≡ [] → roster ≡ empty_roster (shape.budget - shape.spare) → IsWidgets w → IsStack keys → IsRoster roster → IsKept shape pointer rings w keys roster
unfolding empty_roster
IsKept-opening shape pointer rings w keys roster is opening held across down none_connected none none_open none_admitted tree stack valid =
    let P : List Ring → Widgets → List ℕ → RosterState → Type 0 = λ rs v ks r. IsWidgets v → IsStack ks → IsRoster r → IsKept shape pointer rs v ks r in
    subst (λ rs. P rs w keys roster) (sym none_connected) (subst (λ v. P [] v keys roster) (sym none) (subst (λ ks. P [] no_widgets ks roster) (sym none_open) (subst (λ r. P [] no_widgets [] r) (sym none_admitted)
    (λ tree stack valid. record {
      parts = record { clients = refl; tree = tree; stack = stack; windows = refl };
      held = held;
      limit = refl;
      listed = record { valid = valid; admitted = refl };
      desk = subst IsDesk (sym opening) (IsDesk-opening shape is);
      placed = record { each = λ id row there. absurd (cc) };
      across = across;
      down = down;
    })))) tree stack valid

-- a command, after which the client's widgets are laid out and the pointer lets go
module _ (shape : Shape) (pointer : Pointer) (rings : List Ring) (w new : Widgets) (keys keys' : List ℕ) (roster roster' : RosterState) (client : ℕ) (command : Command) (payload : List ℕ) (reply : Reply) (kept : IsKept shape pointer rings w keys roster) (did : DidWhole (λ desk. row_of command payload desk client (is_memory reply)) w new keys keys' roster roster' reply) where
  abbrev stage : Stage
  stage = stage_of shape roster rings w pointer

  abbrev was : Desk
  was = desk_of stage w keys

  -- the desk that the row gives
  abbrev mid : Desk
  mid = desk_of (record stage { roster = admissions_at (nodes new.entries) roster'.entries }) new keys'

  obeyed-row : (reply, mid) ≡ row_of command payload was client (is_memory reply)
  obeyed-row = did.answer stage kept.limit

  holds : Holds w.entries new.entries pointer
  holds = pointer-holds w.entries new.entries was pointer refl kept.desk.held kept.held (did.names stage)

  pub obeyed-tree : IsWidgets new
  obeyed-tree = did.kept.tree

  -- where nothing is laid out, nothing has moved
  obeyed-still : (changed : Bool) → TellsAll w new keys keys' changed → (changed && may_move (rows_of w) client command) ≡ false → MoveNothing (rows_of w) (rows_of new)
  obeyed-still changed tells still = told changed refl
    where
      after : AreHung (rows_of new)
      after = record { names = obeyed-tree.rows.names; planted = obeyed-tree.rows.planted }

      rows : rows_of new ≡ (row_of command payload was client (is_memory reply)).1.rows
      rows = ap (λ (done : Reply × Desk). done.1.rows) obeyed-row

      told : (b : Bool) → changed ≡ b → MoveNothing (rows_of w) (rows_of new)
      told true q =
          subst (λ (rs : List Row). MoveNothing (rows_of w) rs) (sym rows)
          (unmoved-command command payload was client (is_memory reply) kept.desk (subst AreHung rows after) (ap (λ (b : Bool). b && may_move (rows_of w) client command) (sym q) ∙ still))
      told false q = unmoved-untold (rows_of w) (rows_of new) (windows_at (nodes new.entries) keys' ≡ windows_at (nodes w.entries) keys) changed tells q

  module _ (moves : Bool) (laid : Widgets) (is : IsSettled client moves new laid) where
    pub obeyed-parts : AreParts laid.clients laid keys'
    obeyed-parts =
        let P : Widgets → Type 0 = λ v. IsWidgets v → AreParts v.clients v keys' in
        subst P (sym is.changed.same) (λ tree. record { clients = refl; tree = tree; stack = did.kept.stack; windows = did.kept.windows }) is.changed.valid

    pub obeyed-held : HoldsLive laid.entries pointer
    obeyed-held = subst (λ (v : Widgets). HoldsLive v.entries pointer) (sym is.changed.same) holds.live

    pub obeyed-numbers : KeepsNumbers w.entries laid.entries
    obeyed-numbers = subst (λ (v : Widgets). KeepsNumbers w.entries v.entries) (sym is.changed.same) did.numbers

    module _ (there : is_connected was client ≡ true) (after : Pointer) (end : desk_of (stage_of shape roster' rings laid after) laid keys' ≡ let_go (desk_of (stage_of shape roster' rings laid pointer) laid keys')) where
      -- the desk has no word on places
      end_new : desk_of (stage_of shape roster' rings new after) new keys' ≡ let_go (desk_of (stage_of shape roster' rings new pointer) new keys')
      end_new = subst (λ (v : Widgets). desk_of (stage_of shape roster' rings v after) v keys' ≡ let_go (desk_of (stage_of shape roster' rings v pointer) v keys')) is.changed.same end

      pub obeyed-step : (reply, desk_of (stage_of shape roster' rings laid after) laid keys') ≡ step was client command payload (is_memory reply)
      obeyed-step =
          ap (λ (v : Widgets). (reply, desk_of (stage_of shape roster' rings v after) v keys')) is.changed.same
          ∙ step-obeyed was client command payload (is_memory reply) reply mid (desk_of (stage_of shape roster' rings new after) new keys') there obeyed-row
          (end_new ∙ ap (λ (p : model.Pointer). let_go (record mid { pointer = p })) holds.same)

      stepped : desk_of (stage_of shape roster' rings laid after) laid keys' ≡ (step was client command payload (is_memory reply)).1
      stepped = ap (λ (done : Reply × Desk). done.1) obeyed-step

      kept_desk : IsDesk (desk_of (stage_of shape roster' rings laid after) laid keys')
      kept_desk = subst IsDesk (sym stepped) (IsDesk-command was client command payload (is_memory reply) kept.desk)

      -- the others' rows
      others_rows : rows_of_others client (rows_of new) ≡ rows_of_others client (rows_of w)
      others_rows =
          ap (λ (v : Widgets). rows_of_others client (rows_of v)) (sym is.changed.same)
          ∙ ap (λ (d : Desk). rows_of_others client d.rows) stepped
          ∙ (commands_leave_others was client command payload (is_memory reply) kept.desk).rows

      placed-by : 1 ≤ client → (moves ≡ false → MoveNothing (rows_of w) (rows_of new)) → (b : Bool) → moves ≡ b → HaveDuePlaces laid
      placed-by low unmoved true q = laid-due client new laid low (is.laid q) (others-due client w new kept.parts.tree obeyed-tree kept.placed did.numbers did.places others_rows)
      placed-by low unmoved false q = subst HaveDuePlaces (sym (is.still q)) (unmoved-due w new kept.parts.tree obeyed-tree kept.placed did.numbers did.places (unmoved q))

      pub obeyed-kept : (changed : Bool) → TellsAll w new keys keys' changed → moves ≡ (changed && may_move (rows_of w) client command) → 1 ≤ client → HoldsLive laid.entries after → IsKept shape after rings laid keys' roster'
      obeyed-kept changed tells moved low held =
          record {
            parts = subst (λ (cs : List ℕ). AreParts cs laid keys') (ap (λ (v : Widgets). v.clients) is.changed.same ∙ did.clients ∙ sym kept.parts.clients) obeyed-parts;
            held = held;
            limit = did.limit ∙ kept.limit;
            listed = lists-admitted laid roster' is.changed.valid (subst (λ (v : Widgets). AreListed v.entries roster') (sym is.changed.same) did.listed) kept_desk.roster.shares;
            desk = kept_desk;
            placed = placed-by low (λ h. obeyed-still changed tells (sym moved ∙ h)) moves refl;
            across = subst (λ (x : ℕ). x < shape.width) (sym (let_go-stays shape roster' rings laid keys' pointer after end).0) kept.across;
            down = subst (λ (y : ℕ). y < shape.height) (sym (let_go-stays shape roster' rings laid keys' pointer after end).1) kept.down;
          }

-- `poll`: the client's ring changes, and nothing else
pub polled-kept : (shape : Shape) (pointer : Pointer) (rings now : List Ring) (w : Widgets) (keys : List ℕ) (roster : RosterState) (client : ℕ) → IsKept shape pointer rings w keys roster → is_connected (desk_of (stage_of shape roster rings w pointer) w keys) client ≡ true → now ≡ with_ring client after_poll rings → IsKept shape pointer now w keys roster
polled-kept shape pointer rings now w keys roster client kept there changed =
    let old = desk_of (stage_of shape roster rings w pointer) w keys in
    let stepped = polled-step old (desk_of (stage_of shape roster now w pointer) w keys) client Poll [] false (poll_reply (poll_answer (ring_of rings client))) kept.desk.held there refl refl (ap (λ (rs : List Ring). record old { rings = rs }) changed) in
    record {
      parts = subst (λ (clients : List ℕ). AreParts clients w keys) (sym (ap clients_of changed ∙ clients-with_ring client after_poll rings)) kept.parts;
      held = kept.held;
      limit = kept.limit;
      listed = kept.listed;
      desk = subst IsDesk (sym (ap (λ (done : Reply × Desk). done.1) stepped)) (IsDesk-command old client Poll [] false kept.desk);
      placed = kept.placed;
      across = kept.across;
      down = kept.down;
    }
