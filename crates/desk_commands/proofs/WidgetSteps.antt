-- The steps of making, stage and reading a widget.
use Rattle.std.proofs.Common.{◌≡◌, ℕ, Bool, true, false, cond, nat_le, List, [], ◌∷◌, ◌++◌, Option, Some, None, is_some, is_none, refl, sym, ap, ap₂, ◌∙◌, subst, arith}
use Rattle.std.proofs.lemmas.Bool.{true≢false}
use Rattle.std.specs.Option.{option_and_then}
use Rattle.kind_core.specs.declared.kinds.Kind.{Kind}
use Rattle.kind_core.specs.declared.kinds.Attr.{Attr}
use Rattle.kind_core.specs.declared.values.Value as value
use Rattle.cmd_words.specs.declared.replies.Reply.{Reply}
use Rattle.cmd_words.specs.declared.replies.Reply.TheVariants.{Done, Refused}
use Rattle.cmd_words.specs.declared.replies.Refusal.{Refusal}
use Rattle.cmd_words.specs.declared.replies.Refusal.TheVariants.{Memory, NameTaken, WrongKind, Full}
use Rattle.tree_core.specs.declared.refusal.AddRefusal.{AddRefusal}
use Rattle.tree_core.specs.declared.refusal.AddRefusal.TheVariants as add
use Rattle.tree_core.specs.Refusals.{add_refusal, AnswersRefusal}
use Rattle.widget_model.specs.Rows.{Row, new_row, attr_of}
use Rattle.widget_model.specs.Nodes.{node_at}
use Rattle.widget_model.specs.Kinds.{any_kind, counts_with}
use Rattle.widget_model.specs.Named.{row_named, rows_counted}
use Rattle.widget_model.specs.Widgets.{Widgets, nodes, rows_of, with_new}
use Rattle.desk_model.specs.Desk.{Desk}
use Rattle.desk_model.specs.Refusals.{when, first_refusal, outcome, unless_there}
use Rattle.desk_model.specs.AttrOptions.{attrs_refusal}
use Rattle.desk_model.specs.WidgetCommands.{reply_with, set_effect, new_refusal, new_effect, step_new, step_set, step_get}
use Rattle.widget_model.proofs.Naming.{rows-push}
use Rattle.desk_model.specs.Refusals.{is_memory}
use Rattle.desk_commands.specs.Effects.{Did, with_rows}
use Rattle.desk_commands.specs.TreeRefusals.{refusal_of_add}
use Rattle.desk_commands.proofs.Effects.{refused_did}

pub step_set-by : (desk : Desk) (client : ℕ) (name : List ℕ) (options : List (Attr × value.Value)) (row : Option Row) → row_named desk.rows client name ≡ row → step_set desk client name options ≡ outcome desk (first_refusal (unless_there row ∷ option_and_then (λ row. attrs_refusal row.kind options) row ∷ [])) (set_effect desk client name options)
unfolding step_set
step_set-by desk client name options row h = rw h refl

pub step_get-by : (desk : Desk) (client : ℕ) (name : List ℕ) (attr : Attr) (row : Option Row) → row_named desk.rows client name ≡ row → step_get desk client name attr ≡ outcome desk (first_refusal (unless_there row ∷ when (is_none (option_and_then (λ row. attr_of row attr) row)) WrongKind ∷ [])) (reply_with (option_and_then (λ row. attr_of row attr) row), desk)
unfolding step_get
step_get-by desk client name attr row h = rw h refl

-- want of memory comes where the tree refuses nothing
refusal_with : Option AddRefusal → Bool → Option Refusal
refusal_with None short = when short Memory
refusal_with (Some refusal) short = Some (refusal_of_add refusal)

new_refusal-by : (desk : Desk) (client : ℕ) (name : List ℕ) (kind : Kind) (short : Bool) → new_refusal desk client name kind short ≡ refusal_with (add_refusal desk.rows client name kind) short
unfolding refusal_with
new_refusal-by desk client name kind short = by (is_some (row_named desk.rows client name)) (nat_le 128 (rows_counted client any_kind desk.rows)) (nat_le 8 (rows_counted client (counts_with kind) desk.rows)) short
  where
    by : (a b d short : Bool) → first_refusal (when a NameTaken ∷ when b (Full 128) ∷ when d (Full 8) ∷ when short Memory ∷ []) ≡ refusal_with (cond a (Some add.NameTaken) (cond b (Some (add.Full 128)) (cond d (Some (add.Full 8)) None))) short
    by true b d short = refl
    by false true d short = refl
    by false false true short = refl
    by false false false true = refl
    by false false false false = refl

step_new-by : (desk : Desk) (client : ℕ) (name : List ℕ) (kind : Kind) (short : Bool) → step_new desk client name kind short ≡ outcome desk (refusal_with (add_refusal desk.rows client name kind) short) (new_effect desk client name kind)
unfolding step_new
step_new-by desk client name kind short = ap (λ (refusal : Option Refusal). outcome desk refusal (new_effect desk client name kind)) (new_refusal-by desk client name kind short)

-- a new entry leaves the nodes that were there
node_at-push : (es : List (ℕ × Row)) (id : ℕ) (row : Row) (other : ℕ) → is_some (node_at (nodes es) other) ≡ true → node_at (nodes (es ++ (id, row) ∷ [])) other ≡ node_at (nodes es) other
node_at-push [] id row other there = absurd (true≢false (sym there))
node_at-push (e ∷ es) id row other there = grind (arith, node_at-push es id row other)

pub make_did : (w new : Widgets) (client : ℕ) (name : List ℕ) (kind : Kind) (id : ℕ) (reply : Reply) → reply ≡ Done → new ≡ with_new id (new_row client name kind) w → add_refusal (rows_of w) client name kind ≡ None → Did (λ desk. step_new desk client name kind (is_memory reply)) w new reply
unfolding refusal_with
make_did w new client name kind id reply replied left allowed =
    let P : Widgets → Type 0 = λ v. Did (λ desk. step_new desk client name kind (is_memory reply)) w v reply in
    let row : Row = new_row client name kind in
    let effect : (desk : Desk) → step_new (with_rows (rows_of w) desk) client name kind (is_memory reply) ≡ (Done, with_rows (rows_of w ++ row ∷ []) desk) = λ desk. step_new-by (with_rows (rows_of w) desk) client name kind (is_memory reply) ∙ rw (allowed, replied) refl in
    subst P (sym left)
    (record {
      answer = λ desk. ap₂ (λ (r : Reply) (rs : List Row). (r, with_rows rs desk)) replied (rows-push w.entries id row) ∙ sym (effect desk);
      clients = refl;
      kept = λ other there. node_at-push w.entries id row other there;
      places = refl;
    })

pub make_refused : (w new : Widgets) (client : ℕ) (name : List ℕ) (kind : Kind) (refusal : AddRefusal) (reply : Reply) → reply ≡ Refused (refusal_of_add refusal) → new ≡ w → AnswersRefusal (add_refusal (rows_of w) client name kind) refusal → Did (λ desk. step_new desk client name kind (is_memory reply)) w new reply
unfolding refusal_with
make_refused w new client name kind refusal reply replied left why =
    let P : Widgets → Type 0 = λ v. Did (λ desk. step_new desk client name kind (is_memory reply)) w v reply in
    subst P (sym left)
    (refused_did (λ desk. step_new desk client name kind (is_memory reply)) w reply (refusal_of_add refusal) replied
    (λ desk. step_new-by (with_rows (rows_of w) desk) client name kind (is_memory reply) ∙ ap (λ (r : Reply). outcome (with_rows (rows_of w) desk) (refusal_with (add_refusal (rows_of w) client name kind) (is_memory r)) (new_effect (with_rows (rows_of w) desk) client name kind)) replied ∙ by refusal desk why))
  where
    by : (refusal : AddRefusal) (desk : Desk) → AnswersRefusal (add_refusal (rows_of w) client name kind) refusal → outcome (with_rows (rows_of w) desk) (refusal_with (add_refusal (rows_of w) client name kind) (is_memory (Refused (refusal_of_add refusal)))) (new_effect (with_rows (rows_of w) desk) client name kind) ≡ (Refused (refusal_of_add refusal), with_rows (rows_of w) desk)
    by add.NameTaken desk h = rw h refl
    by (add.Full limit) desk h = rw h refl
    by add.NoMemory desk h = rw h refl
