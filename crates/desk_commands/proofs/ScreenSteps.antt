-- The steps of `mode`, `frame`, `admit` and `leave`, by what is found.
use Rattle.std.proofs.Common.{◌≡◌, ℕ, ℤ, Bool, false, not, List, [], ◌∷◌, Option, refl, ap}
use Rattle.std.specs.Prelude.{pos}
use Rattle.std.specs.Option.{option_map_or, option_and_then}
use Rattle.cmd_words.specs.declared.replies.Refusal.{Refusal}
use Rattle.cmd_words.specs.declared.replies.Refusal.TheVariants.{Memory, Admitted, NotAdmitted}
use Rattle.widget_model.specs.Rows.{Row}
use Rattle.widget_model.specs.Named.{row_named}
use Rattle.widget_model.specs.Trees.{is_admitted}
use Rattle.desk_model.specs.Desk.{Desk}
use Rattle.desk_model.specs.Refusals.{when, first_refusal, outcome, unless_there, unless_kind}
use Rattle.desk_model.specs.PlaceOptions.{unless_within}
use Rattle.desk_model.specs.Screens.{is_screen, unless_film, mode_refusal, mode_effect, step_mode, unless_share_fits, share_wanted, admit_refusal, admit_effect, step_admit, leave_effect, step_leave, unless_size_fits, frame_refusal, frame_effect, step_frame}

pub mode_refusal-by : (desk : Desk) (client : ℕ) (name : List ℕ) (w h : ℤ) (short : Bool) (row : Option Row) → row_named desk.rows client name ≡ row → mode_refusal desk client name w h short ≡ first_refusal (unless_there row ∷ unless_kind is_screen row ∷ unless_within (pos 1) (pos 256) w ∷ unless_within (pos 1) (pos 256) h ∷ when (option_map_or is_admitted row false) Admitted ∷ when short Memory ∷ [])
mode_refusal-by desk client name w h short row is = rw is refl

pub step_mode-by : (desk : Desk) (client : ℕ) (name : List ℕ) (w h : ℤ) (short : Bool) (refusal : Option Refusal) → mode_refusal desk client name w h short ≡ refusal → step_mode desk client name w h short ≡ outcome desk refusal (mode_effect desk client name w h)
unfolding step_mode
step_mode-by desk client name w h short refusal is = ap (λ (r : Option Refusal). outcome desk r (mode_effect desk client name w h)) is

pub frame_refusal-by : (desk : Desk) (client : ℕ) (name frame : List ℕ) (row : Option Row) → row_named desk.rows client name ≡ row → frame_refusal desk client name frame ≡ first_refusal (unless_there row ∷ unless_kind is_screen row ∷ unless_film (option_and_then (λ r. r.film) row) ∷ option_and_then (unless_size_fits frame) (option_and_then (λ r. r.film) row) ∷ [])
frame_refusal-by desk client name frame row is = rw is refl

pub step_frame-by : (desk : Desk) (client : ℕ) (name frame : List ℕ) (refusal : Option Refusal) → frame_refusal desk client name frame ≡ refusal → step_frame desk client name frame ≡ outcome desk refusal (frame_effect desk client name frame)
unfolding step_frame
step_frame-by desk client name frame refusal is = ap (λ (r : Option Refusal). outcome desk r (frame_effect desk client name frame)) is

pub admit_refusal-by : (desk : Desk) (client : ℕ) (name : List ℕ) (period : ℤ) (row : Option Row) → row_named desk.rows client name ≡ row → admit_refusal desk client name period ≡ first_refusal (unless_there row ∷ unless_kind is_screen row ∷ unless_within (pos 1) (pos 64) period ∷ unless_film (option_and_then (λ r. r.film) row) ∷ option_and_then (λ film. unless_share_fits desk client name (share_wanted film period)) (option_and_then (λ r. r.film) row) ∷ [])
admit_refusal-by desk client name period row is = rw is refl

pub step_admit-by : (desk : Desk) (client : ℕ) (name : List ℕ) (period : ℤ) (refusal : Option Refusal) → admit_refusal desk client name period ≡ refusal → step_admit desk client name period ≡ outcome desk refusal (admit_effect desk client name period)
unfolding step_admit
step_admit-by desk client name period refusal is = ap (λ (r : Option Refusal). outcome desk r (admit_effect desk client name period)) is

pub step_leave-by : (desk : Desk) (client : ℕ) (name : List ℕ) (row : Option Row) → row_named desk.rows client name ≡ row → step_leave desk client name ≡ outcome desk (first_refusal (unless_there row ∷ unless_kind is_screen row ∷ when (not (option_map_or is_admitted row false)) NotAdmitted ∷ [])) (leave_effect desk client name)
unfolding step_leave
step_leave-by desk client name row is = rw is refl
