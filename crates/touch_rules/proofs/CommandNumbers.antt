-- The numbers that are watched around a command have all widgets that it may change.
use Rattle.std.proofs.Common.{◌≡◌, ℕ, true, nat_eq, List, Option, Some, None, ap, ◌∙◌}
use Rattle.std.specs.List.{list_any}
use Rattle.std.specs.Option.{option_map, option_and_then}
use Rattle.cmd_words.specs.declared.commands.Command.{Command}
use Rattle.widget_model.specs.Named.{AreNamedApart}
use Rattle.widget_model.specs.Rows.{Row}
use Rattle.widget_model.specs.Keys.{key_of}
use Rattle.widget_model.specs.Nodes.{id_named}
use Rattle.widget_model.specs.Pointer as model
use Rattle.widget_model.specs.Widgets.{Widgets, nodes, row_at, rows_in}
use Rattle.widget_model.proofs.Naming.{id_named-row}
use Rattle.tree_core.specs.declared.pointer.Pointer.{Pointer}
use Rattle.desk_model.specs.Desk.{Desk}
use Rattle.desk_model.specs.Scope.{is_among, keys_in, held_keys, named_in, command_scope}
use Rattle.touch_rules.specs.Touched.{Numbered}
use Rattle.touch_rules.specs.Laws.{IsNumbered, WatchesScope}
use Rattle.touch_rules.specs.Telling.{numbers_in, held_numbers, number_named, command_numbers, NumbersDesk}
use Rattle.touch_rules.proofs.KeyNumbers.{among-one, number-one, any-first, any-second, held-among}

-- that of the widget that it names
named-among : (widgets : Widgets) (client : ℕ) (command : Command) (id : ℕ) (row : Row) → AreNamedApart (rows_in widgets.entries) → row_at widgets.entries id ≡ Some row → is_among (keys_in (option_map (λ name. (client, name)) (named_in command))) (key_of row) ≡ true → number_named widgets client command ≡ Some id
named-among widgets client command id row names there among = by (named_in command) (among-one (option_map (λ name. (client, name)) (named_in command)) (key_of row) among)
  where
    by : (o : Option (List ℕ)) → option_map (λ (name : List ℕ). (client, name)) o ≡ Some (key_of row) → option_and_then (id_named (nodes widgets.entries) client) o ≡ Some id
    by None is = absurd (cc)
    by (Some name) is =
        let key : (client, name) ≡ key_of row = cc in
        ap (λ (k : ℕ × List ℕ). id_named (nodes widgets.entries) k.0 k.1) key ∙ id_named-row widgets.entries id row names there

pub watches-command : (desk : Desk) (client : ℕ) (command : Command) (pointer : Pointer) (before : Numbered) → IsNumbered before → NumbersDesk desk pointer before → WatchesScope (command_scope client command desk.pointer) (command_numbers before.widgets client command pointer) (number_named before.widgets client command) before
watches-command desk client command pointer before valid shows = record { rows = rows; held = held; values = values }
  where
    named : List ℕ
    named = numbers_in (number_named before.widgets client command)

    values : (id : ℕ) (row : Row) → row_at before.widgets.entries id ≡ Some row → is_among (keys_in (option_map (λ name. (client, name)) (named_in command))) (key_of row) ≡ true → number_named before.widgets client command ≡ Some id
    values id row there among = named-among before.widgets client command id row valid.widgets.rows.names there among

    rows : (id : ℕ) (row : Row) → row_at before.widgets.entries id ≡ Some row → is_among (keys_in (option_map (λ name. (client, name)) (named_in command))) (key_of row) ≡ true → list_any (nat_eq id) (command_numbers before.widgets client command pointer) ≡ true
    rows id row there among = any-first (nat_eq id) named (held_numbers pointer) (number-one (number_named before.widgets client command) id (values id row there among))

    held : (id : ℕ) (row : Row) → row_at before.widgets.entries id ≡ Some row → is_among (held_keys desk.pointer) (key_of row) ≡ true → list_any (nat_eq id) (command_numbers before.widgets client command pointer) ≡ true
    held id row there among =
        any-second (nat_eq id) named (held_numbers pointer)
        (held-among before.widgets.entries pointer id row valid.widgets.rows.names there (ap (λ (p : model.Pointer). is_among (held_keys p) (key_of row)) shows.held ∙ among))
