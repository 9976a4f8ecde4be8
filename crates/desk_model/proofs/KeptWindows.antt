-- Opening, closing and raising a window leave a sound desk.
use Rattle.std.proofs.Common.{◌≡◌, ℕ, Bool, true, false, cond, not, List, [], ◌∷◌, Option, None, refl}
use Rattle.std.proofs.lemmas.Bool.{and_from, or_from}
use Rattle.std.specs.List.{filter, list_any}
use Rattle.cmd_words.specs.declared.replies.Refusal.{Refusal}
use Rattle.cmd_words.specs.declared.replies.Refusal.TheVariants.{AlreadyOpen, NotOpen}
use Rattle.widget_model.specs.Kinds.{is_window_kind}
use Rattle.widget_model.specs.Named.{row_named}
use Rattle.desk_model.specs.Desk.{Desk, is_open, is_window}
use Rattle.desk_model.specs.Refusals.{when, unless_there, unless_kind}
use Rattle.desk_model.specs.Windows.{open_refusal, open_effect, step_open, unless_open, close_effect, step_close, top_effect, step_top}
use Rattle.desk_model.proofs.Sound.{IsSound, IsSound-outcome}
use Rattle.widget_model.proofs.LeftRows.{all-kept}
use Rattle.desk_model.proofs.KeptOut.{AreOpenOnce-filter}
use Rattle.desk_model.proofs.Refusals.{passed, when-none, unless_kind-none}

pub IsSound-open : (desk : Desk) (client : ℕ) (name : List ℕ) → IsSound desk → IsSound (step_open desk client name).1
unfolding step_open
IsSound-open desk client name sound = IsSound-outcome desk (open_refusal desk client name) (open_effect desk client name) sound done
  where
    done : open_refusal desk client name ≡ None → IsSound (open_effect desk client name).1
    done none =
        let last : Option Refusal = when (is_open desk client name) AlreadyOpen in
        let one = passed (unless_there (row_named desk.rows client name)) (unless_kind is_window_kind (row_named desk.rows client name) ∷ last ∷ []) none in
        let two = passed (unless_kind is_window_kind (row_named desk.rows client name)) (last ∷ []) one.1 in
        let three = passed last [] two.1 in
        record {
          shape = sound.shape;
          clients = sound.clients;
          connected_once = sound.connected_once;
          rows = sound.rows;
          by_kind = sound.by_kind;
          roster = sound.roster;
          rings = sound.rings;
          windows = record {
            there = and_from _ _ (unless_kind-none is_window_kind (row_named desk.rows client name) two.0) sound.windows.there;
            once = (when-none (is_open desk client name) AlreadyOpen three.0, sound.windows.once);
          };
        }

-- what a test leaves out isn't left
pub none-left : {X : Type 0} (p : X → Bool) (xs : List X) → list_any p (filter (λ x. not (p x)) xs) ≡ false
none-left p [] = refl
none-left p (x ∷ xs) = by (none-left p xs) (p x) refl
  where
    by : list_any p (filter (λ x. not (p x)) xs) ≡ false → (b : Bool) → p x ≡ b → list_any p (cond (not b) (x ∷ filter (λ x. not (p x)) xs) (filter (λ x. not (p x)) xs)) ≡ false
    by rest true is = rest
    by rest false is = or_from _ _ is rest

pub IsSound-close : (desk : Desk) (client : ℕ) (name : List ℕ) → IsSound desk → IsSound (step_close desk client name).1
unfolding step_close
IsSound-close desk client name sound = IsSound-outcome desk (unless_open desk client name) (close_effect desk client name) sound done
  where
    done : unless_open desk client name ≡ None → IsSound (close_effect desk client name).1
    done none =
        record {
          shape = sound.shape;
          clients = sound.clients;
          connected_once = sound.connected_once;
          rows = sound.rows;
          by_kind = sound.by_kind;
          roster = sound.roster;
          rings = sound.rings;
          windows = record {
            there = all-kept _ (λ window. not (is_window client name window)) desk.windows sound.windows.there;
            once = AreOpenOnce-filter (λ window. not (is_window client name window)) desk.windows sound.windows.once;
          };
        }

pub IsSound-top : (desk : Desk) (client : ℕ) (name : List ℕ) → IsSound desk → IsSound (step_top desk client name).1
unfolding step_top
IsSound-top desk client name sound = IsSound-outcome desk (unless_open desk client name) (top_effect desk client name) sound done
  where
    done : unless_open desk client name ≡ None → IsSound (top_effect desk client name).1
    done none =
        let last : Option Refusal = when (not (is_open desk client name)) NotOpen in
        let one = passed (unless_there (row_named desk.rows client name)) (unless_kind is_window_kind (row_named desk.rows client name) ∷ last ∷ []) none in
        let two = passed (unless_kind is_window_kind (row_named desk.rows client name)) (last ∷ []) one.1 in
        record {
          shape = sound.shape;
          clients = sound.clients;
          connected_once = sound.connected_once;
          rows = sound.rows;
          by_kind = sound.by_kind;
          roster = sound.roster;
          rings = sound.rings;
          windows = record {
            there = and_from _ _ (unless_kind-none is_window_kind (row_named desk.rows client name) two.0) (all-kept _ (λ window. not (is_window client name window)) desk.windows sound.windows.there);
            once = (none-left (is_window client name) desk.windows, AreOpenOnce-filter (λ window. not (is_window client name window)) desk.windows sound.windows.once);
          };
        }
