-- Hanging a widget in a cell of another and taking it out leave a sound desk.
use Rattle.std.proofs.Common.{◌≡◌, ℕ, ◌+◌, ℤ, true, false, not, nat_lt, List, [], ◌∷◌, Option, Some, None, refl, sym, ap, ◌∙◌}
use Rattle.std.proofs.lemmas.Bool.{and_parts, and_from, not-false}
use Rattle.std.specs.Option.{option_map_or, option_and_then}
use Rattle.std.specs.Str.{bytes_eq}
use Rattle.cmd_words.specs.declared.commands.PlaceOption.{PlaceOption}
use Rattle.cmd_words.specs.declared.replies.Refusal.{Refusal}
use Rattle.cmd_words.specs.declared.replies.Refusal.TheVariants.{NotHere}
use Rattle.kind_core.specs.declared.shapes.Cell.{Cell}
use Rattle.widget_model.specs.Rows.{Row, with_attached}
use Rattle.widget_model.specs.Named.{row_named, with_named, is_kind_of}
use Rattle.widget_model.specs.Trees.{hangs, has_children, can_be_child, parent_of, child_in, depth_of, height_of, is_above, most_levels}
use Rattle.widget_model.specs.Planted.{IsPlanted}
use Rattle.desk_model.specs.Desk.{Desk}
use Rattle.desk_model.specs.Refusals.{when, unless_there}
use Rattle.desk_model.specs.PlaceOptions.{cell_options_refusal, cell_given}
use Rattle.desk_model.specs.Placement.{place_refusal, place_effect, lift_refusal, lift_effect, step_place, step_lift}
use Rattle.widget_model.proofs.Cells.{CanHang}
use Rattle.widget_model.proofs.Planting.{IsPlanted-detach, IsPlanted-attach}
use Rattle.desk_model.proofs.Sound.{IsSound, IsSound-outcome}
use Rattle.widget_model.proofs.ChangedRows.{Suits}
use Rattle.desk_model.proofs.KeptRows.{IsSound-with_named}
use Rattle.desk_model.proofs.Refusals.{passed, when-none, unless_there-none, is_some-none}
use Rattle.desk_model.proofs.PlaceOptions.{takes_cell-given}

Suits-with_attached : (rows : List Row) (client : ℕ) (name : List ℕ) (row : Row) (attached : Option (List ℕ × Cell)) → IsPlanted (with_named client name (with_attached attached) rows) → Suits rows client name row (with_attached attached)
Suits-with_attached rows client name row attached planted =
    record {
      leaves = record { client = λ row. refl; name = λ row. refl; kind = λ row. refl };
      planted = planted;
      linked = λ h. h;
      fitting = λ h. h;
      films = λ h. h;
    }

-- what `place` asks, where it refuses nothing
record IsPlace (desk : Desk) (client : ℕ) (parent child : List ℕ) (options : List (PlaceOption × ℤ)) : Type 0 where
  upper : Row
  lower : Row
  can : CanHang desk.rows client parent child (cell_given options) upper lower

IsPlace-from : (desk : Desk) (client : ℕ) (parent child : List ℕ) (options : List (PlaceOption × ℤ)) → place_refusal desk client parent child options ≡ None → IsPlace desk client parent child options
IsPlace-from desk client parent child options none =
    let one = passed _ _ none in
    let two = passed _ _ one.1 in
    let three = passed _ _ two.1 in
    let four = passed _ _ three.1 in
    let five = passed _ _ four.1 in
    let six = passed _ _ five.1 in
    let seven = passed _ _ six.1 in
    let eight = passed _ _ seven.1 in
    let cell = cell_given options in
    let upper = unless_there-none (row_named desk.rows client parent) one.0 in
    let lower = unless_there-none (row_named desk.rows client child) two.0 in
    let kinds = and_parts (is_kind_of has_children (row_named desk.rows client parent)) (is_kind_of can_be_child (row_named desk.rows client child)) (not-false _ (when-none _ _ three.0)) in
    let holds : has_children upper.0.kind ≡ true = sym (ap (is_kind_of has_children) upper.1) ∙ kinds.0 in
    let within : cell_options_refusal upper.0.kind options ≡ None = sym (ap (λ (o : Option Row). option_and_then (λ (row : Row). cell_options_refusal row.kind options) o) upper.1) ∙ four.0 in
    record {
      upper = upper.0;
      lower = lower.0;
      can = record {
        upper_there = upper.1;
        lower_there = lower.1;
        has_children = holds;
        can_be_child = sym (ap (is_kind_of can_be_child) lower.1) ∙ kinds.1;
        has_cell = and_from _ _ holds (takes_cell-given upper.0.kind options within);
        stands_alone = sym (ap (λ (o : Option Row). option_map_or hangs o false) lower.1) ∙ when-none _ _ five.0;
        no_cycle = when-none (is_above desk.rows client child parent) _ six.0;
        not_deep = when-none (nat_lt most_levels (depth_of desk.rows client parent + height_of desk.rows client child)) _ seven.0;
        cell_free = is_some-none (child_in desk.rows client parent cell.column cell.row) (when-none _ _ eight.0);
      };
    }

pub IsSound-place : (desk : Desk) (client : ℕ) (parent child : List ℕ) (options : List (PlaceOption × ℤ)) → IsSound desk → IsSound (step_place desk client parent child options).1
unfolding step_place
IsSound-place desk client parent child options sound = IsSound-outcome desk (place_refusal desk client parent child options) (place_effect desk client parent child options) sound done
  where
    done : place_refusal desk client parent child options ≡ None → IsSound (place_effect desk client parent child options).1
    done none =
        let place = IsPlace-from desk client parent child options none in
        let planted = IsPlanted-attach desk.rows client parent child (cell_given options) place.upper place.lower sound.rows.names place.can sound.rows.planted in
        IsSound-with_named desk client child place.lower (with_attached (Some (parent, cell_given options))) sound place.can.lower_there (Suits-with_attached desk.rows client child place.lower (Some (parent, cell_given options)) planted) (λ h. h) refl

pub IsSound-lift : (desk : Desk) (client : ℕ) (parent child : List ℕ) → IsSound desk → IsSound (step_lift desk client parent child).1
unfolding step_lift
IsSound-lift desk client parent child sound = IsSound-outcome desk (lift_refusal desk client parent child) (lift_effect desk client child) sound done
  where
    done : lift_refusal desk client parent child ≡ None → IsSound (lift_effect desk client child).1
    done none =
        let last : Option Refusal = when (not (option_map_or (bytes_eq parent) (parent_of desk.rows client child) false)) NotHere in
        let one = passed (unless_there (row_named desk.rows client parent)) (unless_there (row_named desk.rows client child) ∷ last ∷ []) none in
        let two = passed (unless_there (row_named desk.rows client child)) (last ∷ []) one.1 in
        let found = unless_there-none (row_named desk.rows client child) two.0 in
        IsSound-with_named desk client child found.0 (with_attached None) sound found.1 (Suits-with_attached desk.rows client child found.0 None (IsPlanted-detach desk.rows client child sound.rows.planted)) (λ h. h) refl
