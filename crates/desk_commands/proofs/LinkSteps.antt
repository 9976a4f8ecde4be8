-- The steps of linking and binding, by the rows that were found.
use Rattle.std.proofs.Common.{◌≡◌, ℕ, true, not, ◌&&◌, List, [], ◌∷◌, Option, refl}
use Rattle.kind_core.specs.declared.kinds.Kind.{Kind}
use Rattle.kind_core.specs.declared.kinds.Kind.TheVariants.{Variable}
use Rattle.kind_core.specs.declared.kinds.EventKind.{EventKind}
use Rattle.kind_core.specs.Events.{gives_event}
use Rattle.cmd_words.specs.declared.replies.Refusal.TheVariants.{WrongKind}
use Rattle.widget_model.specs.Rows.{Row}
use Rattle.widget_model.specs.Named.{row_named, is_kind_of}
use Rattle.desk_model.specs.Desk.{Desk}
use Rattle.desk_model.specs.Refusals.{when, first_refusal, outcome, unless_there, unless_kind}
use Rattle.desk_model.specs.Links.{link_effect, unlink_effect, step_link, step_unlink}
use Rattle.desk_model.specs.Bindings.{bind_effect, step_bind}
use Rattle.widget_model.specs.Kinds.{can_link, is_variable_kind}

pub variable_kind : (kind : Kind) → is_variable_kind kind ≡ true → kind ≡ Variable
variable_kind Variable h = refl
variable_kind _ h = absurd (cc)

pub step_link-by : (desk : Desk) (client : ℕ) (name variable : List ℕ) (row other : Option Row) → row_named desk.rows client name ≡ row → row_named desk.rows client variable ≡ other → step_link desk client name variable ≡ outcome desk (first_refusal (unless_there row ∷ unless_there other ∷ when (not (is_kind_of can_link row && is_kind_of is_variable_kind other)) WrongKind ∷ [])) (link_effect desk client name variable)
unfolding step_link
step_link-by desk client name variable row other h k = rw (h, k) refl

pub step_unlink-by : (desk : Desk) (client : ℕ) (name : List ℕ) (row : Option Row) → row_named desk.rows client name ≡ row → step_unlink desk client name ≡ outcome desk (first_refusal (unless_there row ∷ unless_kind can_link row ∷ [])) (unlink_effect desk client name)
unfolding step_unlink
step_unlink-by desk client name row h = rw h refl

pub step_bind-by : (desk : Desk) (client : ℕ) (name : List ℕ) (event : EventKind) (tag : Option (List ℕ)) (row : Option Row) → row_named desk.rows client name ≡ row → step_bind desk client name event tag ≡ outcome desk (first_refusal (unless_there row ∷ unless_kind (λ kind. gives_event kind event) row ∷ [])) (bind_effect desk client name event tag)
unfolding step_bind
step_bind-by desk client name event tag row h = rw h refl
