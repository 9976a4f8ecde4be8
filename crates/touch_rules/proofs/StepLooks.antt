-- What is kept before a command and told after it is what it touched.
use Rattle.std.proofs.Common.{◌≡◌, ℕ, Bool, true, false, cond, ◌&&◌, ◌||◌, not, nat_eq, List, Option, Some, None, refl, sym, ap, ◌∙◌}
use Rattle.std.proofs.Math.Bool.{and-false}
use Rattle.std.proofs.lemmas.Bool.{eqb-true, eq-eqb}
use Rattle.std.specs.Option.{option_map_or, option_and_then}
use Rattle.std.specs.Str.{bytes_eq}
use Rattle.cmd_words.specs.declared.replies.Reply.{Reply}
use Rattle.cmd_words.specs.declared.replies.Reply.TheVariants.{Refused}
use Rattle.widget_model.specs.Rows.{Row}
use Rattle.widget_model.specs.Keys.{key_of}
use Rattle.widget_model.specs.Named.{has_name, row_named}
use Rattle.widget_model.specs.Nodes.{id_named}
use Rattle.widget_model.specs.Widgets.{Widgets, nodes, rows_of, row_at}
use Rattle.widget_model.specs.Forest.{IsWidgets}
use Rattle.widget_model.proofs.Naming.{has_name-parts, has_name-own, row_named-found, row_named-parts, id_named-row}
use Rattle.scene_model.specs.Scene.{Scene}
use Rattle.desk_model.specs.Desk.{Desk}
use Rattle.desk_model.specs.Commands.{step}
use Rattle.desk_model.specs.Scope.{command_scope}
use Rattle.look_data.specs.Kept.{is_shown_at}
use Rattle.look_data.specs.Watched.{has_changed}
use Rattle.touch_rules.specs.Touched.{Numbered, is_shown}
use Rattle.touch_rules.specs.Films.{looks_alike, shown_film, shown_anew, unless_refused}
use Rattle.touch_rules.specs.Laws.{IsNumbered, is_number}
use Rattle.touch_rules.specs.Telling.{number_anew, number_named, command_numbers, StepsTellLooks}
use Rattle.touch_rules.proofs.CommandNumbers.{watches-command}
use Rattle.touch_rules.proofs.SameLooks.{named-row}
use Rattle.desk_model.proofs.Scopes.{commands_keep_to_their_scope}
use Rattle.touch_rules.proofs.ShownAnew.{commands_show_anew}
use Rattle.touch_rules.proofs.UnwatchedLooks.{stays-between}
use Rattle.touch_rules.proofs.WatchedLooks.{watched_looks_are_enough}

-- a name and the number that has it name one widget
number-name : (widgets : Widgets) (client id : ℕ) (row : Row) (anew : Option (List ℕ)) → IsWidgets widgets → row_at widgets.entries id ≡ Some row → (nat_eq client row.client && option_map_or (λ one. bytes_eq one row.name) anew false) ≡ is_number (option_and_then (id_named (nodes widgets.entries) client) anew) id
number-name widgets client id row None valid there = and-false (nat_eq client row.client)
number-name widgets client id row (Some name) valid there = by (nat_eq client row.client && bytes_eq name row.name) refl
  where
    by : (b : Bool) → (nat_eq client row.client && bytes_eq name row.name) ≡ b → b ≡ is_number (id_named (nodes widgets.entries) client name) id
    by true e =
        let parts = has_name-parts client name row e in
        let found : id_named (nodes widgets.entries) client name ≡ Some id = sym (λ i. id_named (nodes widgets.entries) (parts.0 i) (parts.1 i)) ∙ id_named-row widgets.entries id row valid.rows.names there in
        sym (ap (λ (o : Option ℕ). is_number o id) found ∙ eq-eqb id id refl)
    by false e = at (id_named (nodes widgets.entries) client name) refl
      where
        other : (key : ℕ) → id_named (nodes widgets.entries) client name ≡ Some key → (b : Bool) → nat_eq id key ≡ b → false ≡ b
        other key found false same = refl
        other key found true same =
            let here : id_named (nodes widgets.entries) client name ≡ Some id = found ∙ ap Some (sym (eqb-true id key same)) in
            let is : row_named (rows_of widgets) client name ≡ Some row = row_named-found widgets.entries client name id valid.numbered.own_numbers here ∙ there in
            let parts = row_named-parts (rows_of widgets) client name row is in
            sym e ∙ sym (λ i. has_name (parts.0 i) (parts.1 i) row) ∙ has_name-own row

        at : (o : Option ℕ) → id_named (nodes widgets.entries) client name ≡ o → false ≡ is_number o id
        at None found = refl
        at (Some key) found = other key found (nat_eq id key) refl

refused-then : {X Y : Type 0} (reply : Reply) (f : X → Option Y) (o : Option X) → option_and_then f (unless_refused reply o) ≡ unless_refused reply (option_and_then f o)
refused-then (Refused refusal) f o = refl
refused-then _ f o = refl

-- the number of a VScreen that was shown before is told where it is shown after
shown-then : (shown : ℕ → Bool) (reply : Reply) (o : Option ℕ) (id : ℕ) (after : Bool)
    → (is_number (unless_refused reply (option_and_then (λ n. cond (shown n) (Some n) None) o)) id && after) ≡ (is_number (unless_refused reply o) id && (shown id && after))
shown-then shown reply o id after =
    ap (λ (p : Option ℕ). is_number p id && after) (sym (refused-then reply (λ n. cond (shown n) (Some n) None) o)) ∙ by (unless_refused reply o)
  where
    one : (n : ℕ) (b : Bool) → shown n ≡ b → (c : Bool) → nat_eq id n ≡ c → (is_number (cond b (Some n) None) id && after) ≡ (c && (shown id && after))
    one n true s true e = ap (λ (b : Bool). b && after) (e ∙ sym s ∙ ap shown (sym (eqb-true id n e)))
    one n true s false e = ap (λ (b : Bool). b && after) e
    one n false s true e = ap (λ (b : Bool). b && after) (sym s ∙ ap shown (sym (eqb-true id n e)))
    one n false s false e = refl

    by : (p : Option ℕ) → (is_number (option_and_then (λ n. cond (shown n) (Some n) None) p) id && after) ≡ (is_number p id && (shown id && after))
    by None = refl
    by (Some n) = one n (shown n) refl (nat_eq id n) refl

pub steps_tell_looks : StepsTellLooks
steps_tell_looks desk client command payload short before after pointer looks touched valid valid' keys shows watched scene told =
    watched_looks_are_enough (command_scope client command desk.pointer) (command_numbers before.widgets client command pointer) (number_named before.widgets client command) (unless_refused reply (number_anew before.widgets client command payload)) before after looks touched
    valid valid' keys
    (stays-between (command_scope client command desk.pointer) desk next before.scene after.scene shows.scene scene (commands_keep_to_their_scope desk client command payload short))
    (watches-command desk client command pointer before valid shows)
    (record { each = films })
    watched
    (λ id. told id ∙ ap (λ (b : Bool). has_changed looks after.widgets after.windows after.scene id || b) (shown-then (is_shown_at before.widgets before.windows) reply (number_anew before.widgets client command payload) id (is_shown after id)))
  where
    reply : Reply
    reply = (step desk client command payload short).0

    next : Desk
    next = (step desk client command payload short).1

    anew : Option (List ℕ)
    anew = shown_anew (rows_of before.widgets) client command payload

    rows : before.scene.rows ≡ desk.rows
    rows = ap (λ (s : Scene). s.rows) shows.scene

    found : (numbered : Numbered) (rows : List Row) (id : ℕ) (row : Row) → IsNumbered numbered → numbered.scene.rows ≡ rows → row_at numbered.widgets.entries id ≡ Some row → row_named rows row.client row.name ≡ Some row
    found numbered rows id row valid is there = ap (λ (rs : List Row). row_named rs row.client row.name) (sym is) ∙ named-row numbered id row valid there

    films : (id : ℕ) (a b : Row) → row_at before.widgets.entries id ≡ Some a → row_at after.widgets.entries id ≡ Some b → not (looks_alike (shown_film a) (shown_film b)) ≡ is_number (unless_refused reply (number_anew before.widgets client command payload)) id
    films id a b at_a at_b =
        let key : key_of a ≡ key_of b = keys.each id a b at_a at_b in
        let there : row_named next.rows a.client a.name ≡ Some b = ap (λ (k : ℕ × List ℕ). row_named next.rows k.0 k.1) key ∙ found after next.rows id b valid' (ap (λ (s : Scene). s.rows) scene) at_b in
        (commands_show_anew desk client command payload short).each a.client a.name a b (found before desk.rows id a valid rows at_a) there
        ∙ ap (λ (rs : List Row). nat_eq client a.client && option_map_or (λ one. bytes_eq one a.name) (unless_refused reply (shown_anew rs client command payload)) false) (sym rows ∙ valid.rows)
        ∙ number-name before.widgets client id a (unless_refused reply anew) valid.widgets at_a
        ∙ ap (λ (o : Option ℕ). is_number o id) (refused-then reply (id_named (nodes before.widgets.entries) client) anew)
