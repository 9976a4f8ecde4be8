-- Making, setting, reading and removing a widget leave a sound desk.
use Rattle.std.proofs.Common.{◌≡◌, ℕ, Bool, true, false, nat_le, List, Option, None, is_some, refl, sym, ap, ◌∙◌}
use Rattle.std.proofs.lemmas.Bool.{or_parts, leb-false}
use Rattle.std.specs.Option.{option_map_or, option_and_then}
use Rattle.kind_core.specs.declared.kinds.Kind.{Kind}
use Rattle.kind_core.specs.declared.kinds.Attr.{Attr}
use Rattle.kind_core.specs.declared.values.Value as value
use Rattle.vscreen_core.specs.FilmState.{FilmState}
use Rattle.widget_model.specs.Rows.{Row, new_row}
use Rattle.widget_model.specs.Kinds.{any_kind, counts_with}
use Rattle.widget_model.specs.Named.{row_named, rows_counted}
use Rattle.widget_model.specs.Trees.{is_used}
use Rattle.widget_model.specs.Planted.{IsPlanted}
use Rattle.widget_model.specs.Clients.{is_joined}
use Rattle.desk_model.specs.Desk.{Desk, is_connected, is_open}
use Rattle.desk_model.specs.AttrOptions.{attrs_refusal, with_attrs}
use Rattle.desk_model.specs.DeskFacts.{links_by_kind}
use Rattle.desk_model.specs.WidgetCommands.{new_refusal, new_effect, set_refusal, set_effect, get_refusal, get_effect, drop_refusal, drop_effect, step_new, step_set, step_get, step_drop}
use Rattle.desk_model.proofs.Sound.{IsSound, IsSound-outcome}
use Rattle.desk_model.proofs.Rosters.{set_aside}
use Rattle.desk_model.proofs.KeptRows.{IsSound-with_named}
use Rattle.desk_model.proofs.KeptNew.{IsSound-push}
use Rattle.desk_model.proofs.KeptOut.{IsSound-remove}
use Rattle.desk_model.proofs.Refusals.{passed, when-none, unless_there-none, is_some-none}
use Rattle.widget_model.proofs.Fit.{is_fit-new}
use Rattle.widget_model.proofs.ChangedRows.{Suits, Suits-change}
use Rattle.widget_model.proofs.NewRows.{IsNew}
use Rattle.desk_model.proofs.AttrOptions.{is_fit-with_attrs, same-with_attrs}

IsNew-new_row : (clients : List ℕ) (rows : List Row) (client : ℕ) (name : List ℕ) (kind : Kind) → is_joined clients client ≡ true → row_named rows client name ≡ None → nat_le 128 (rows_counted client any_kind rows) ≡ false → nat_le 8 (rows_counted client (counts_with kind) rows) ≡ false → IsNew clients rows (new_row client name kind)
unfolding new_row
IsNew-new_row clients rows client name kind joined free few few_alike =
    record {
      owner = joined;
      free = free;
      few = leb-false 128 (rows_counted client any_kind rows) few;
      few_alike = leb-false 8 (rows_counted client (counts_with kind) rows) few_alike;
      loose = refl;
      unlinked = refl;
      fitting = is_fit-new client name kind;
      no_film = refl;
    }

pub IsSound-new : (desk : Desk) (client : ℕ) (name : List ℕ) (kind : Kind) (short : Bool) → IsSound desk → is_connected desk client ≡ true → IsSound (step_new desk client name kind short).1
unfolding step_new
IsSound-new desk client name kind short sound joined = IsSound-outcome desk (new_refusal desk client name kind short) (new_effect desk client name kind) sound done
  where
    done : new_refusal desk client name kind short ≡ None → IsSound (new_effect desk client name kind).1
    done none =
        let one = passed _ _ none in
        let two = passed _ _ one.1 in
        let three = passed _ _ two.1 in
        let free = is_some-none (row_named desk.rows client name) (when-none (is_some (row_named desk.rows client name)) _ one.0) in
        let few = when-none (nat_le 128 (rows_counted client any_kind desk.rows)) _ two.0 in
        let few_alike = when-none (nat_le 8 (rows_counted client (counts_with kind) desk.rows)) _ three.0 in
        IsSound-push desk (new_row client name kind) sound (IsNew-new_row desk.clients desk.rows client name kind joined free few few_alike)

Suits-with_attrs : (rows : List Row) (client : ℕ) (name : List ℕ) (options : List (Attr × value.Value)) (row : Row) → IsPlanted rows → attrs_refusal row.kind options ≡ None → Suits rows client name row (with_attrs options)
Suits-with_attrs rows client name options row planted none =
    Suits-change rows client name row (with_attrs options)
    (record {
      leaves = record { client = λ row. same-with_attrs (λ (row : Row). row.client) (λ attr v row. refl) options row; name = λ row. same-with_attrs (λ (row : Row). row.name) (λ attr v row. refl) options row; kind = λ row. same-with_attrs (λ (row : Row). row.kind) (λ attr v row. refl) options row };
      attached = λ row. same-with_attrs (λ (row : Row). row.attached) (λ attr v row. refl) options row;
    })
    (same-with_attrs (λ (row : Row). row.link) (λ attr v row. refl) options) (same-with_attrs (λ (row : Row). row.film) (λ attr v row. refl) options) planted (is_fit-with_attrs options row none)

pub IsSound-set : (desk : Desk) (client : ℕ) (name : List ℕ) (options : List (Attr × value.Value)) → IsSound desk → IsSound (step_set desk client name options).1
unfolding step_set
IsSound-set desk client name options sound = IsSound-outcome desk (set_refusal desk client name options) (set_effect desk client name options) sound done
  where
    done : set_refusal desk client name options ≡ None → IsSound (set_effect desk client name options).1
    done none =
        let one = passed _ _ none in
        let two = passed _ _ one.1 in
        let found = unless_there-none (row_named desk.rows client name) one.0 in
        let taken : attrs_refusal found.0.kind options ≡ None = sym (ap (λ (o : Option Row). option_and_then (λ (row : Row). attrs_refusal row.kind options) o) found.1) ∙ two.0 in
        IsSound-with_named desk client name found.0 (with_attrs options) sound found.1 (Suits-with_attrs desk.rows client name options found.0 sound.rows.planted taken) (λ h. same-with_attrs links_by_kind (λ attr v row. refl) options found.0 ∙ h)
        (ap (λ (film : Option FilmState). option_and_then set_aside film) (same-with_attrs (λ (row : Row). row.film) (λ attr v row. refl) options found.0))

pub IsSound-get : (desk : Desk) (client : ℕ) (name : List ℕ) (attr : Attr) → IsSound desk → IsSound (step_get desk client name attr).1
unfolding step_get
IsSound-get desk client name attr sound = IsSound-outcome desk (get_refusal desk client name attr) (get_effect desk client name attr) sound (λ none. sound)

pub IsSound-drop : (desk : Desk) (client : ℕ) (name : List ℕ) → IsSound desk → IsSound (step_drop desk client name).1
unfolding step_drop
IsSound-drop desk client name sound = IsSound-outcome desk (drop_refusal desk client name) (drop_effect desk client name) sound done
  where
    done : drop_refusal desk client name ≡ None → IsSound (drop_effect desk client name).1
    done none =
        let one = passed _ _ none in
        let two = passed _ _ one.1 in
        let found = unless_there-none (row_named desk.rows client name) one.0 in
        let parts = or_parts (option_map_or (is_used desk.rows) (row_named desk.rows client name) false) (is_open desk client name) (when-none _ _ two.0) in
        let unused : is_used desk.rows found.0 ≡ false = sym (ap (λ (o : Option Row). option_map_or (is_used desk.rows) o false) found.1) ∙ parts.0 in
        IsSound-remove desk client name found.0 sound found.1 unused parts.1
