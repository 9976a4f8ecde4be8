-- Linking a widget to a Variable and binding its events leave a sound desk.
use Rattle.std.proofs.Common.{◌≡◌, ℕ, Bool, true, not, ◌&&◌, List, [], ◌∷◌, Option, Some, None, refl, sym, ap, ◌∙◌}
use Rattle.std.proofs.lemmas.Bool.{and_parts, not-false}
use Rattle.kind_core.specs.declared.kinds.EventKind.{EventKind}
use Rattle.cmd_words.specs.declared.replies.Refusal.TheVariants.{WrongKind}
use Rattle.widget_model.specs.RowFacts.{links_right}
use Rattle.widget_model.specs.Rows.{Row, with_link, with_binding}
use Rattle.widget_model.specs.Named.{row_named, is_kind_of}
use Rattle.widget_model.specs.Planted.{IsPlanted}
use Rattle.desk_model.specs.Desk.{Desk}
use Rattle.desk_model.specs.Refusals.{when, unless_there}
use Rattle.desk_model.specs.Links.{link_refusal, link_effect, unlink_refusal, unlink_effect, step_link, step_unlink}
use Rattle.desk_model.specs.Bindings.{bind_refusal, bind_effect, step_bind}
use Rattle.widget_model.specs.Kinds.{can_link, is_variable_kind}
use Rattle.desk_model.specs.DeskFacts.{links_by_kind}
use Rattle.widget_model.proofs.Hanging.{IsNamed-row_named}
use Rattle.widget_model.proofs.Planting.{IsPlanted-change}
use Rattle.desk_model.proofs.Sound.{IsSound, IsSound-outcome}
use Rattle.widget_model.proofs.Fit.{is_fit-with_binding}
use Rattle.widget_model.proofs.ChangedRows.{Suits, Suits-change}
use Rattle.desk_model.proofs.KeptRows.{IsSound-with_named}
use Rattle.desk_model.proofs.Refusals.{passed, when-none, unless_there-none}

Suits-with_link : (rows : List Row) (client : ℕ) (name : List ℕ) (row : Row) (link : Option (List ℕ)) → IsPlanted rows → links_right rows (with_link link row) ≡ true → Suits rows client name row (with_link link)
Suits-with_link rows client name row link planted leads =
    record {
      leaves = record { client = λ row. refl; name = λ row. refl; kind = λ row. refl };
      planted = IsPlanted-change rows client name (with_link link) (record { leaves = record { client = λ row. refl; name = λ row. refl; kind = λ row. refl }; attached = λ row. refl }) planted;
      linked = λ h. leads;
      fitting = λ h. h;
      films = λ h. h;
    }

pub IsSound-link : (desk : Desk) (client : ℕ) (name variable : List ℕ) → IsSound desk → IsSound (step_link desk client name variable).1
unfolding step_link
IsSound-link desk client name variable sound = IsSound-outcome desk (link_refusal desk client name variable) (link_effect desk client name variable) sound done
  where
    suit : Bool
    suit = is_kind_of can_link (row_named desk.rows client name) && is_kind_of is_variable_kind (row_named desk.rows client variable)

    done : link_refusal desk client name variable ≡ None → IsSound (link_effect desk client name variable).1
    done none =
        let one = passed (unless_there (row_named desk.rows client name)) (unless_there (row_named desk.rows client variable) ∷ when (not suit) WrongKind ∷ []) none in
        let two = passed (unless_there (row_named desk.rows client variable)) (when (not suit) WrongKind ∷ []) one.1 in
        let three = passed (when (not suit) WrongKind) [] two.1 in
        let found = unless_there-none (row_named desk.rows client name) one.0 in
        let kinds = and_parts (is_kind_of can_link (row_named desk.rows client name)) (is_kind_of is_variable_kind (row_named desk.rows client variable)) (not-false suit (when-none (not suit) WrongKind three.0)) in
        let named = IsNamed-row_named desk.rows client name found.0 found.1 in
        let leads : links_right desk.rows (with_link (Some variable) found.0) ≡ true = rw named.client_is kinds.1 in
        let suits : links_by_kind (with_link (Some variable) found.0) ≡ true = sym (ap (is_kind_of can_link) found.1) ∙ kinds.0 in
        IsSound-with_named desk client name found.0 (with_link (Some variable)) sound found.1 (Suits-with_link desk.rows client name found.0 (Some variable) sound.rows.planted leads) (λ h. suits) refl

pub IsSound-unlink : (desk : Desk) (client : ℕ) (name : List ℕ) → IsSound desk → IsSound (step_unlink desk client name).1
unfolding step_unlink
IsSound-unlink desk client name sound = IsSound-outcome desk (unlink_refusal desk client name) (unlink_effect desk client name) sound done
  where
    done : unlink_refusal desk client name ≡ None → IsSound (unlink_effect desk client name).1
    done none =
        let one = passed _ _ none in
        let found = unless_there-none (row_named desk.rows client name) one.0 in
        IsSound-with_named desk client name found.0 (with_link None) sound found.1 (Suits-with_link desk.rows client name found.0 None sound.rows.planted refl) (λ h. refl) refl

pub IsSound-bind : (desk : Desk) (client : ℕ) (name : List ℕ) (event : EventKind) (tag : Option (List ℕ)) → IsSound desk → IsSound (step_bind desk client name event tag).1
unfolding step_bind
IsSound-bind desk client name event tag sound = IsSound-outcome desk (bind_refusal desk client name event) (bind_effect desk client name event tag) sound done
  where
    done : bind_refusal desk client name event ≡ None → IsSound (bind_effect desk client name event tag).1
    done none =
        let one = passed _ _ none in
        let found = unless_there-none (row_named desk.rows client name) one.0 in
        IsSound-with_named desk client name found.0 (with_binding event tag) sound found.1
        (Suits-change desk.rows client name found.0 (with_binding event tag) (record { leaves = record { client = λ row. refl; name = λ row. refl; kind = λ row. refl }; attached = λ row. refl }) (λ row. refl) (λ row. refl) sound.rows.planted
        (is_fit-with_binding found.0 event tag)) (λ h. h) refl
