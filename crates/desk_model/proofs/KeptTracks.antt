-- Ruling the tracks of a Grid leaves a sound desk.
use Rattle.std.proofs.Common.{◌≡◌, ℕ, ℤ, pos, unsigned_abs, List, [], ◌∷◌, Option, None, refl, ap}
use Rattle.std.specs.Option.{option_and_then}
use Rattle.cmd_words.specs.declared.commands.ConfigOption.{ConfigOption}
use Rattle.vscreen_core.specs.FilmState.{FilmState}
use Rattle.scene_model.specs.declared.axis.Axis.{Axis}
use Rattle.scene_model.specs.declared.axis.Axis.TheVariants.{Across, Down}
use Rattle.widget_model.specs.Rows.{Row}
use Rattle.widget_model.specs.Named.{row_named}
use Rattle.desk_model.specs.Desk.{Desk}
use Rattle.desk_model.specs.Refusals.{unless_kind}
use Rattle.desk_model.specs.PlaceOptions.{unless_within}
use Rattle.desk_model.specs.ConfigOptions.{rule_options_refusal}
use Rattle.desk_model.specs.Tracks.{is_grid, with_track, track_refusal, track_effect, step_track}
use Rattle.widget_model.proofs.Planting.{LeavesPlace}
use Rattle.desk_model.proofs.Sound.{IsSound, IsSound-outcome}
use Rattle.desk_model.proofs.Rosters.{set_aside}
use Rattle.widget_model.proofs.ChangedRows.{Suits-change}
use Rattle.desk_model.proofs.KeptRows.{IsSound-with_named}
use Rattle.desk_model.proofs.Refusals.{passed, unless_there-none}
use Rattle.desk_model.proofs.Tracks.{is_fit-with_track}

LeavesPlace-with_track : (axis : Axis) (track : ℕ) (options : List (ConfigOption × ℤ)) → LeavesPlace (with_track axis track options)
LeavesPlace-with_track Across track options = record { leaves = record { client = λ row. refl; name = λ row. refl; kind = λ row. refl }; attached = λ row. refl }
LeavesPlace-with_track Down track options = record { leaves = record { client = λ row. refl; name = λ row. refl; kind = λ row. refl }; attached = λ row. refl }

link-with_track : (axis : Axis) (track : ℕ) (options : List (ConfigOption × ℤ)) (row : Row) → (with_track axis track options row).link ≡ row.link
link-with_track Across track options row = refl
link-with_track Down track options row = refl

film-with_track : (axis : Axis) (track : ℕ) (options : List (ConfigOption × ℤ)) (row : Row) → (with_track axis track options row).film ≡ row.film
film-with_track Across track options row = refl
film-with_track Down track options row = refl

pub IsSound-track : (axis : Axis) (desk : Desk) (client : ℕ) (name : List ℕ) (index : ℤ) (options : List (ConfigOption × ℤ)) → IsSound desk → IsSound (step_track axis desk client name index options).1
unfolding step_track
IsSound-track axis desk client name index options sound = IsSound-outcome desk (track_refusal desk client name index options) (track_effect axis desk client name index options) sound done
  where
    track : ℕ
    track = unsigned_abs index

    done : track_refusal desk client name index options ≡ None → IsSound (track_effect axis desk client name index options).1
    done none =
        let one = passed _ _ none in
        let two = passed (unless_kind is_grid (row_named desk.rows client name)) (unless_within (pos 1) (pos 16) index ∷ rule_options_refusal options ∷ []) one.1 in
        let three = passed (unless_within (pos 1) (pos 16) index) (rule_options_refusal options ∷ []) two.1 in
        let four = passed (rule_options_refusal options) [] three.1 in
        let found = unless_there-none (row_named desk.rows client name) one.0 in
        IsSound-with_named desk client name found.0 (with_track axis track options) sound found.1
        (Suits-change desk.rows client name found.0 (with_track axis track options) (LeavesPlace-with_track axis track options) (link-with_track axis track options) (film-with_track axis track options) sound.rows.planted
        (is_fit-with_track axis options track found.0 four.0))
        (λ h. rw ((LeavesPlace-with_track axis track options).leaves.kind found.0, link-with_track axis track options found.0) h)
        (ap (λ (film : Option FilmState). option_and_then set_aside film) (film-with_track axis track options found.0))
