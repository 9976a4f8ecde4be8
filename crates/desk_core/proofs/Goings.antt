-- A client goes: the step of its `bye`, and what the parts of a desk keep then.
use Rattle.std.proofs.Common.{◌≡◌, ◌≤◌, ◌<◌, ℕ, Bool, true, false, cond, not, nat_eq, List, [], ◌∷◌, Some, refl, sym, ap, ap₂, ◌∙◌, subst}
use Rattle.std.specs.List.{filter, list_all}
use Rattle.admit_core.specs.Roster.{RosterState, IsRoster}
use Rattle.cmd_words.specs.declared.replies.Reply.{Reply}
use Rattle.cmd_words.specs.declared.replies.Reply.TheVariants.{Done}
use Rattle.stack_core.specs.Stack.{IsStack}
use Rattle.widget_model.specs.Widgets.{Widgets, nodes, departed, key_at}
use Rattle.widget_model.specs.Forest.{IsWidgets}
use Rattle.desk_model.specs.Desk.{Desk, Admission, Ring, is_connected}
use Rattle.desk_model.specs.DeskFacts.{IsDesk}
use Rattle.desk_model.specs.LetGo.{is_in_window, let_go}
use Rattle.desk_model.specs.Clients.{step_bye, without_client}
use Rattle.desk_model.proofs.Desks.{IsDesk-bye}
use Rattle.desk_commands.specs.Parts.{Stage, stage_of, windows_at, admissions_at, desk_of, names_window, is_others, is_live_entry, AreParts, AreListed}
use Rattle.desk_core.specs.Kept.{IsKept}
use Rattle.desk_core.specs.ClientList.{clients_of}
use Rattle.desk_commands.proofs.Admissions.{admitted-live}
use Rattle.desk_core.proofs.Rosters.{lists-admitted, admissions-departed, live-departed}
use Rattle.desk_commands.specs.Pointer.{HoldsLive}
use Rattle.desk_layout.specs.Placed.{HaveDuePlaces}
use Rattle.kind_core.specs.declared.shapes.Shape.{Shape}
use Rattle.widget_model.specs.Pointer as model
use Rattle.tree_core.specs.declared.pointer.Pointer.{Pointer}
use Rattle.desk_model.proofs.Sound.{let_go-again}
use Rattle.desk_model.proofs.ByePointer.{closed, others-inside, let_go-closed}
use Rattle.desk_commands.proofs.OthersLists.{list_all-filter, windows_at-filter, key_at-others}
use Rattle.desk_layout.proofs.LeftPlaces.{departed-due}
use Rattle.desk_commands.proofs.PointerKept.{Holds, pointer-holds}
use Rattle.desk_core.proofs.Departures.{stage_without, desk_of-departed, AreParts-departed}
use Rattle.desk_core.proofs.CallSteps.{bye-gone}
use Rattle.desk_core.proofs.Calls.{let_go-stays}

-- `bye`: the client's windows close, the pointer lets go, and then the client's widgets go
pub closed-parts : (clients : List ℕ) (w : Widgets) (keys keys' : List ℕ) (client : ℕ) → AreParts clients w keys → keys' ≡ filter (is_others (nodes w.entries) client) keys → IsStack keys' → AreParts w.clients w keys'
closed-parts clients w keys keys' client kept closes stack =
    record { clients = refl; tree = kept.tree; stack = stack; windows = rw closes (list_all-filter (names_window (nodes w.entries)) (is_others (nodes w.entries) client) keys kept.windows) }

pub gone-parts : (clients now : List ℕ) (w new : Widgets) (keys keys' : List ℕ) (client : ℕ) → AreParts clients w keys → new ≡ departed client w → keys' ≡ filter (is_others (nodes w.entries) client) keys → now ≡ filter (λ other. not (nat_eq client other)) clients → IsWidgets new → IsStack keys' → AreParts now new keys'
gone-parts clients now w new keys keys' client kept left closes gone tree stack =
    let P : List ℕ → Widgets → List ℕ → Type 0 = λ cs v ks. IsWidgets v → IsStack ks → AreParts cs v ks in
    subst (λ cs. P cs new keys') (sym gone) (subst (λ v. P (filter (λ other. not (nat_eq client other)) clients) v keys') (sym left) (subst (λ ks. P (filter (λ other. not (nat_eq client other)) clients) (departed client w) ks) (sym closes)
    (λ tree stack. AreParts-departed clients w client keys kept tree stack))) tree stack

pub gone-desk : (stage : Stage) (clients : List ℕ) (w new : Widgets) (keys keys' : List ℕ) (client : ℕ) → AreParts clients w keys → new ≡ departed client w → keys' ≡ filter (is_others (nodes w.entries) client) keys → desk_of (stage_without client stage) new keys' ≡ without_client client (desk_of stage w keys)
gone-desk stage clients w new keys keys' client kept left closes =
    ap₂ (λ (v : Widgets) (ks : List ℕ). desk_of (stage_without client stage) v ks) left closes ∙ desk_of-departed stage w client keys kept.windows

module _ (shape : Shape) (pointer after : Pointer) (rings now : List Ring) (w new : Widgets) (keys keys' : List ℕ) (roster roster' : RosterState) (client : ℕ) (kept : IsKept shape pointer rings w keys roster) (there : is_connected (desk_of (stage_of shape roster rings w pointer) w keys) client ≡ true) (left : new ≡ departed client w) (closes : keys' ≡ filter (is_others (nodes w.entries) client) keys) (end : desk_of (stage_of shape roster rings w after) w keys' ≡ let_go (desk_of (stage_of shape roster rings w pointer) w keys')) (held : HoldsLive w.entries after) (gone : now ≡ filter (λ ring. not (nat_eq client ring.client)) rings) (dismissed : roster'.entries ≡ filter (λ entry. is_others (nodes w.entries) client entry.0) roster.entries) where
  abbrev desk : Desk
  desk = desk_of (stage_of shape roster rings w pointer) w keys

  abbrev closing : Desk
  closing = desk_of (stage_of shape roster rings w after) w keys'

  -- the desk with the windows closed
  closed_is : desk_of (stage_of shape roster rings w pointer) w keys' ≡ closed client desk
  closed_is = ap (λ (ws : List (ℕ × List ℕ)). record desk { windows = ws }) (ap (windows_at (nodes w.entries)) closes ∙ windows_at-filter (nodes w.entries) client keys)

  end_is : closing ≡ let_go (closed client desk)
  end_is = end ∙ ap let_go closed_is

  -- what is in a window then is another's, and keeps its number
  named_still : (id : ℕ) (key : ℕ × List ℕ) → key_at w.entries id ≡ Some key → is_in_window closing key ≡ true → key_at new.entries id ≡ Some key
  named_still id key named inside =
      let windows : closing.windows ≡ (closed client desk).windows = ap (λ (d : Desk). d.windows) closed_is in
      let other = others-inside client desk key (sym (ap (λ (ws : List (ℕ × List ℕ)). is_in_window (record closing { windows = ws }) key) windows) ∙ inside) in
      ap (λ (v : Widgets). key_at v.entries id) left ∙ key_at-others w.entries client id key named other

  held_still : Holds w.entries new.entries after
  held_still = pointer-holds w.entries new.entries closing after refl (ap let_go end_is ∙ let_go-again (closed client desk) ∙ sym end_is) held named_still

  live : list_all (is_live_entry w.entries) roster.entries ≡ true
  live = admitted-live w.entries roster.entries kept.listed.admitted

  -- the others' admissions
  admissions : admissions_at (nodes new.entries) roster'.entries ≡ filter (λ admission. not (nat_eq client admission.client)) (admissions_at (nodes w.entries) roster.entries)
  admissions =
      ap₂ (λ (v : Widgets) (entries : List (ℕ × ℕ)). admissions_at (nodes v.entries) entries) left dismissed ∙ admissions-departed w.entries client roster.entries live

  abbrev shown : model.Pointer → List Admission → List Ring → Desk
  shown pointer roster rings = desk_of (record { shape = shape; pointer = pointer; roster = roster; rings = rings }) new keys'

  pub gone-step : (Done, desk_of (stage_of shape roster' now new after) new keys') ≡ step_bye desk client
  gone-step =
      ap (λ (p : model.Pointer). (Done, shown p (admissions_at (nodes new.entries) roster'.entries) now)) (held_still.same ∙ ap (λ (d : Desk). d.pointer) end_is)
      ∙ ap₂ (λ (listed : List Admission) (rs : List Ring). (Done, shown (let_go (closed client desk)).pointer listed rs)) admissions gone
      ∙ ap (λ (d : Desk). (Done, record d { pointer = (let_go (closed client desk)).pointer })) (gone-desk (stage_of shape roster rings w pointer) (clients_of rings) w new keys keys' client kept.parts left closes)
      ∙ ap (λ (d : Desk). (Done, d)) (sym (let_go-closed client desk))
      ∙ bye-gone desk client there

  clients-gone : (rs : List Ring) → clients_of (filter (λ ring. not (nat_eq client ring.client)) rs) ≡ filter (λ other. not (nat_eq client other)) (clients_of rs)
  clients-gone [] = refl
  clients-gone (r ∷ rs) = by (clients-gone rs) (nat_eq client r.client)
    where
      by : clients_of (filter (λ ring. not (nat_eq client ring.client)) rs) ≡ filter (λ other. not (nat_eq client other)) (clients_of rs) → (b : Bool) → clients_of (cond (not b) (r ∷ filter (λ ring. not (nat_eq client ring.client)) rs) (filter (λ ring. not (nat_eq client ring.client)) rs)) ≡ cond (not b) (r.client ∷ filter (λ other. not (nat_eq client other)) (clients_of rs)) (filter (λ other. not (nat_eq client other)) (clients_of rs))
      by rest true = rest
      by rest false = ap (λ (cs : List ℕ). r.client ∷ cs) rest

  pub gone-kept : 1 ≤ client → IsWidgets new → IsStack keys' → roster'.limit ≡ roster.limit → IsRoster roster' → IsKept shape after now new keys' roster'
  gone-kept low tree stack limit valid =
      let kept_desk = subst IsDesk (sym (ap (λ (done : Reply × Desk). done.1) gone-step)) (IsDesk-bye desk client kept.desk) in
      let listed : AreListed new.entries roster' = record {
        valid = valid;
        live = ap₂ (λ (v : Widgets) (entries : List (ℕ × ℕ)). list_all (is_live_entry v.entries) entries) left dismissed ∙ live-departed w.entries client roster.entries live;
      } in
      record {
        parts = gone-parts (clients_of rings) (clients_of now) w new keys keys' client kept.parts left closes (ap clients_of gone ∙ clients-gone rings) tree stack;
        held = held_still.live;
        limit = limit ∙ kept.limit;
        listed = lists-admitted new roster' tree listed kept_desk.roster.shares;
        desk = kept_desk;
        placed = subst HaveDuePlaces (sym left) (departed-due w client kept.parts.tree low (subst IsWidgets left tree) kept.placed);
        across = subst (λ (x : ℕ). x < shape.width) (sym (let_go-stays shape roster rings w keys' pointer after end).0) kept.across;
        down = subst (λ (y : ℕ). y < shape.height) (sym (let_go-stays shape roster rings w keys' pointer after end).1) kept.down;
      }
