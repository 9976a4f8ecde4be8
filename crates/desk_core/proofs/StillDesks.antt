-- What stays in place around a call that moves nothing.
use Rattle.std.proofs.Common.{◌≡◌, ℕ, Bool, true, false, cond, ◌&&◌, not, nat_eq, List, [], ◌∷◌, map, Option, Some, None, refl, sym, ap, ◌∙◌, subst}
use Rattle.std.proofs.lemmas.Bool.{true≢false, or_parts}
use Rattle.std.specs.Option.{option_and_then}
use Rattle.std.specs.Str.{bytes_eq}
use Rattle.cmd_words.specs.declared.commands.Command.{Command}
use Rattle.cmd_words.specs.declared.commands.Command.TheVariants.{Get, Poll}
use Rattle.cmd_words.specs.declared.replies.Reply.{Reply}
use Rattle.cmd_words.specs.declared.replies.Reply.TheVariants.{Refused}
use Rattle.widget_model.specs.Rows.{Row}
use Rattle.widget_model.specs.Keys.{row_of, key_of}
use Rattle.scene_model.specs.DuePlaces.{due_place}
use Rattle.scene_model.specs.WindowRows.{AreHung}
use Rattle.desk_model.specs.Desk.{Desk, is_connected}
use Rattle.desk_model.specs.DeskFacts.{IsDesk}
use Rattle.desk_model.specs.LetGo.{let_go}
use Rattle.desk_model.specs.Commands as commands
use Rattle.desk_model.specs.Commands.{step}
use Rattle.desk_model.specs.InPlace.{hung_of, due_of, StaysInPlace, HangsAlike, leaves_hung}
use Rattle.desk_model.proofs.Refused.{refused_commands_change_nothing}
use Rattle.desk_commands.specs.Effects.{is_poll}
use Rattle.desk_moves.specs.Stays.{MoveNothing, may_move, moves}
use Rattle.desk_core.specs.View.{is_refused}
use Rattle.desk_core.specs.Asking.{only_asks}
use Rattle.desk_model.proofs.InPlace.{commands_leave_hung}
use Rattle.desk_moves.proofs.StillCommands.{unmoved-command}

-- where the same widgets hang alike, a key that none has here none has there
hung-none : (a b : List Row) (key : ℕ × List ℕ) → map hung_of a ≡ map hung_of b → row_of a key ≡ None → row_of b key ≡ None
hung-none [] [] key same none = refl
hung-none [] (y ∷ ys) key same none = absurd (cc)
hung-none (x ∷ xs) [] key same none = absurd (cc)
hung-none (x ∷ xs) (y ∷ ys) key same none =
    let first : hung_of x ≡ hung_of y = cc in
    let rest : map hung_of xs ≡ map hung_of ys = cc in
    by (ap (λ (h : (ℕ × List ℕ) × Option (List ℕ)). h.0) first) (hung-none xs ys key rest) (nat_eq key.0 x.client && bytes_eq key.1 x.name) refl none
  where
    by : key_of x ≡ key_of y → (row_of xs key ≡ None → row_of ys key ≡ None) → (b : Bool) → (nat_eq key.0 x.client && bytes_eq key.1 x.name) ≡ b → cond b (Some x) (row_of xs key) ≡ None
        → cond (nat_eq key.0 y.client && bytes_eq key.1 y.name) (Some y) (row_of ys key) ≡ None
    by keys rest true e h = absurd (cc)
    by keys rest false e h =
        let other : (nat_eq key.0 y.client && bytes_eq key.1 y.name) ≡ false = ap (λ (k : ℕ × List ℕ). nat_eq key.0 k.0 && bytes_eq key.1 k.1) (sym keys) ∙ e in
        ap (λ (b : Bool). cond b (Some y) (row_of ys key)) other ∙ rest h

pub stays-in-place : (old new : Desk) → map hung_of new.rows ≡ map hung_of old.rows → new.windows ≡ old.windows → MoveNothing old.rows new.rows → StaysInPlace old new
stays-in-place old new hung windows still = record { hung = hung; windows = windows; places = λ key. by key (row_of new.rows key) refl }
  where
    by : (key : ℕ × List ℕ) (o : Option Row) → row_of new.rows key ≡ o → due_of new.rows key ≡ due_of old.rows key
    by key None there = ap (option_and_then (due_place new.rows)) there ∙ sym (ap (option_and_then (due_place old.rows)) (hung-none new.rows old.rows key hung there))
    by key (Some row) there = ap (option_and_then (due_place new.rows)) there ∙ still.each key row there

pub stays-same : (old new : Desk) → new.rows ≡ old.rows → new.windows ≡ old.windows → StaysInPlace old new
stays-same old new rows windows = record { hung = ap (map hung_of) rows; windows = windows; places = λ key. ap (λ (rs : List Row). due_of rs key) rows }

-- what only asks moves nothing, nor does `poll`
and_false : (b : Bool) → (b && false) ≡ false
and_false true = refl
and_false false = refl

asks-moves : (rows : List Row) (client : ℕ) (command : Command) → only_asks command ≡ true → moves rows client command ≡ false
asks-moves rows client (Get name attr) asks = refl
asks-moves rows client _ asks = absurd (cc)

polls-moves : (rows : List Row) (client : ℕ) (command : Command) → is_poll command ≡ true → moves rows client command ≡ false
polls-moves rows client Poll asks = refl
polls-moves rows client _ asks = absurd (cc)

pub asked-unmoved : (rows : List Row) (client : ℕ) (command : Command) (reply : Reply) → only_asks command ≡ true → false ≡ (not (is_refused reply) && moves rows client command)
asked-unmoved rows client command reply asks = sym (ap (λ (b : Bool). not (is_refused reply) && b) (asks-moves rows client command asks) ∙ and_false (not (is_refused reply)))

pub polled-unmoved : (rows : List Row) (client : ℕ) (command : Command) (reply : Reply) → is_poll command ≡ true → false ≡ (not (is_refused reply) && moves rows client command)
polled-unmoved rows client command reply asks = sym (ap (λ (b : Bool). not (is_refused reply) && b) (polls-moves rows client command asks) ∙ and_false (not (is_refused reply)))

not-false : (b : Bool) → not b ≡ false → b ≡ true
not-false true h = refl
not-false false h = absurd (true≢false h)

-- a step of a connected client has the rows that its command's row gives
stepped-rows : (desk : Desk) (client : ℕ) (command : Command) (payload : List ℕ) (short : Bool) → is_connected desk client ≡ true → (step desk client command payload short).1.rows ≡ (commands.row_of command payload desk client short).1.rows
unfolding step let_go
stepped-rows desk client command payload short there = rw there refl

-- a step that is refused, or whose command moves nothing
pub stepped-still : (old new : Desk) (client : ℕ) (command : Command) (payload : List ℕ) (short : Bool) (reply : Reply) → IsDesk old → IsDesk new → is_connected old client ≡ true → (reply, new) ≡ step old client command payload short
    → (not (is_refused reply) && moves old.rows client command) ≡ false → StaysInPlace old new
stepped-still old new client command payload short reply kept sound there stepped told = by reply refl told
  where
    next : new ≡ (step old client command payload short).1
    next = ap (λ (done : Reply × Desk). done.1) stepped

    rows : new.rows ≡ (commands.row_of command payload old client short).1.rows
    rows = ap (λ (d : Desk). d.rows) next ∙ stepped-rows old client command payload short there

    done : moves old.rows client command ≡ false → StaysInPlace old new
    done none =
        let parts = or_parts (may_move old.rows client command) (not (leaves_hung command)) none in
        let hangs : HangsAlike old new = subst (HangsAlike old) (sym next) (commands_leave_hung old client command payload short (not-false (leaves_hung command) parts.1)) in
        let hung : AreHung new.rows = record { names = sound.rows.names; planted = sound.rows.planted } in
        stays-in-place old new hangs.hung hangs.windows
        (subst (λ (rs : List Row). MoveNothing old.rows rs) (sym rows) (unmoved-command command payload old client short kept (subst AreHung rows hung) parts.0))

    by : (r : Reply) → reply ≡ r → (not (is_refused r) && moves old.rows client command) ≡ false → StaysInPlace old new
    by (Refused refusal) q none =
        let same : new ≡ old = next ∙ refused_commands_change_nothing old client command payload short refusal kept (sym (ap (λ (answer : Reply × Desk). answer.0) stepped) ∙ q) in
        stays-same old new (ap (λ (d : Desk). d.rows) same) (ap (λ (d : Desk). d.windows) same)
    by _ q none = done none
