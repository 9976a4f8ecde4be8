-- A tick with its choice named: the set of dirty pixels that it cleans, as a map of truth values.
use Rattle.std.specs.Prelude.{◌≡◌, ℕ, ◌-◌, min, Bool, true, false, not, ◌&&◌, ◌||◌, if◌then◌else◌, List, [], ◌∷◌, length, slice_index_or}
use Rattle.cmd_words.specs.declared.inputs.Drew.{Drew}
use Rattle.desk_model.specs.Seen.{colour}
use Rattle.desk_model.specs.Beat.{beat, in_band, band_count}
use Rattle.machine_model.specs.State.{State, index_of, byte_at, is_dirty, count_true, dirty_count, EachPixel}

-- the marks that are in the old map and not in the new one
abbrev pub lost_marks : List Bool → List Bool → List Bool
lost_marks (before ∷ old) (after ∷ new) = (before && not after) ∷ lost_marks old new
lost_marks _ _ = []

-- whether the pixel is in a set that is laid out as the state's dirt map is
abbrev pub is_chosen : List Bool → State → ℕ → ℕ → Bool
is_chosen chosen state x y = slice_index_or chosen (index_of state x y) false

-- The chosen pixels are dirty, and they are as many as the budget has left beside the bands, or all dirty
-- ones. They and the bands' pixels get their colours, the chosen ones become clean, and nothing else changes.
pub record TickedWith (chosen : List Bool) (old : State) (drew : Drew) (new : State) : Type 0 where
  pub size : length chosen ≡ length old.dirt
  pub dirty : EachPixel old.desk.shape (λ x y. is_chosen chosen old x y ≡ true → is_dirty old x y ≡ true)
  pub many : count_true chosen ≡ min (dirty_count old) (old.desk.shape.budget - band_count new.desk)
  pub desk : new.desk ≡ beat old.desk
  pub screen : EachPixel old.desk.shape (λ x y. byte_at new x y ≡ (if is_chosen chosen old x y || in_band new.desk x y then colour new.desk x y else byte_at old x y))
  pub dirt : EachPixel old.desk.shape (λ x y. is_dirty new x y ≡ (is_dirty old x y && not (is_chosen chosen old x y)))
  pub answer : drew ≡ record { bands = band_count new.desk; queue = count_true chosen; left = dirty_count new }
