-- What a tick from a valid state does: it writes at most the budget, it leaves fewer dirty pixels by at least
-- the spare, and it cleans a set of dirty pixels. Where nothing is dirty the screen is the picture.
use Rattle.std.proofs.Common.{◌≡◌, ℕ, pos, ◌+◌, ◌-◌, ◌*◌, ◌/◌, ◌%◌, ◌≤◌, inl, inr, min, Bool, true, false, not, ◌&&◌, ◌||◌, cond, get_or, refl, sym, ap, ◌∙◌, arith}
use Rattle.std.proofs.lemmas.Bool.{and_parts, cases_lt, false≢true}
use Rattle.std.proofs.lemmas.List.{get_or_past}
use Rattle.std.proofs.lemmas.List.FromFn.{fill_by_all}
use Rattle.cmd_words.specs.declared.inputs.Drew.{Drew}
use Rattle.kind_core.specs.declared.shapes.Shape.{Shape}
use Rattle.scene_model.specs.Shapes.{area}
use Rattle.desk_model.specs.Desk.{Desk}
use Rattle.scene_model.specs.Colours.{colour_at, picture_of}
use Rattle.desk_model.specs.Seen.{scene_of, colour, picture}
use Rattle.desk_model.specs.Beat.{beat, in_band, band_count}
use Rattle.machine_model.specs.State.{State, IsState, byte_at, is_dirty, index_of, dirty_count, count_true}
use Rattle.machine_model.specs.Step.{Ticked, was_cleaned}
use Rattle.machine_model.specs.Chosen.{lost_marks, is_chosen, TickedWith}
use Rattle.machine_model.proofs.Beat.{shape-beat, bands_fit}
use Rattle.machine_model.proofs.Marks.{all_false, length-lost_marks, get_or-lost_marks, count_true-lost_marks}
use Rattle.machine_model.proofs.Pixels.{at_place, place_of_pixel}

-- the bands of a tick leave the spare
bands_of_tick : (old : State) (drew : Drew) (new : State) → IsState old → Ticked old drew new → drew.bands + old.desk.shape.spare ≤ old.desk.shape.budget
bands_of_tick old drew new is t =
    let same : drew.bands ≡ band_count (beat old.desk) = t.bands ∙ ap band_count t.desk in
    omega (arith, bands_fit old.desk is.desk)

pub ticked-within_budget : (old : State) (drew : Drew) (new : State) → IsState old → Ticked old drew new → drew.bands + drew.queue ≤ old.desk.shape.budget
ticked-within_budget old drew new is t =
    omega (arith, bands_of_tick old drew new is t, t.queue)

pub ticked-fewer : (old : State) (drew : Drew) (new : State) → IsState old → Ticked old drew new → dirty_count new ≤ dirty_count old - old.desk.shape.spare
ticked-fewer old drew new is t =
    omega (arith, bands_of_tick old drew new is t, t.queue, t.cleaned)

pub clean-is_picture : (s : State) → IsState s → dirty_count s ≡ 0 → s.screen ≡ picture s.desk
unfolding picture picture_of colour
clean-is_picture s is none =
    let w = s.desk.shape.width in
    fill_by_all (λ k. colour_at (scene_of s.desk) (pos (k % w)) (pos (k / w))) s.screen (area s.desk.shape) 0 is.screen (λ k within.
    let here = at_place s.desk.shape (λ x y. is_dirty s x y ≡ false → byte_at s x y ≡ colour s.desk x y) k within (omega (arith, is.desk.shape.width_least)) is.current in
    ap (λ m. get_or s.screen m 0) (sym (place_of_pixel w k)) ∙ here (all_false s.dirt (k / w * w + k % w) none))

-- what was dirty and is clean, and what is dirty, by what was
cleaned_mark : (was is : Bool) → (is ≡ true → was ≡ true) → is ≡ (was && not (was && not is))
cleaned_mark true true sub = refl
cleaned_mark true false sub = refl
cleaned_mark false true sub = absurd (false≢true (sub refl))
cleaned_mark false false sub = refl

drew-is : (drew : Drew) (bands queue left : ℕ) → drew.bands ≡ bands → drew.queue ≡ queue → drew.left ≡ left → drew ≡ record { bands = bands; queue = queue; left = left }
drew-is drew bands queue left p q r =
    let made : ℕ → ℕ → ℕ → Drew = λ b c l. record { bands = b; queue = c; left = l } in
    ap (λ b. made b drew.queue drew.left) p ∙ ap (λ c. made bands c drew.left) q ∙ ap (λ l. made bands queue l) r

-- a tick of the machine is one with a chosen set: what the dirt map lost
pub TickedWith-lost_marks : (old : State) (drew : Drew) (new : State) → IsState old → Ticked old drew new → TickedWith (lost_marks old.dirt new.dirt) old drew new
TickedWith-lost_marks old drew new is t =
    let shape : new.desk.shape ≡ old.desk.shape = ap (λ (d : Desk). d.shape) t.desk ∙ shape-beat old.desk in
    let width : new.desk.shape.width ≡ old.desk.shape.width = ap (λ (s : Shape). s.width) shape in
    let lost = lost_marks old.dirt new.dirt in
    let moved : (x y : ℕ) → is_dirty new x y ≡ get_or new.dirt (index_of old x y) false = λ x y. ap (λ w. get_or new.dirt (y * w + x) false) width in
    let chosen_is : (x y : ℕ) → is_chosen lost old x y ≡ was_cleaned old new x y = λ x y.
    get_or-lost_marks old.dirt new.dirt (index_of old x y) t.dirt_size ∙ ap (λ b. is_dirty old x y && not b) (sym (moved x y)) in
    let sub : (k : ℕ) → get_or new.dirt k false ≡ true → get_or old.dirt k false ≡ true = λ k on.
    let w = old.desk.shape.width in
    elim (cases_lt k (area old.desk.shape)) [
      | inl within ↦
          let place = place_of_pixel w k in
          let here = at_place old.desk.shape (λ x y. is_dirty new x y ≡ true → is_dirty old x y ≡ true) k within (omega (arith, is.desk.shape.width_least)) t.dirt in
          ap (λ m. get_or old.dirt m false) (sym place) ∙ here (moved (k % w) (k / w) ∙ ap (λ m. get_or new.dirt m false) place ∙ on)
      | inr past ↦ absurd (false≢true (sym (get_or_past new.dirt k false (omega (arith, t.dirt_size, is.dirt))) ∙ on))
    ] in
    let count = count_true-lost_marks old.dirt new.dirt t.dirt_size sub in
    let many : count_true lost ≡ drew.queue = omega (arith, count, t.cleaned) in
    record {
      size = length-lost_marks old.dirt new.dirt t.dirt_size;
      dirty = λ x y hx hy on. (and_parts (is_dirty old x y) (not (is_dirty new x y)) (sym (chosen_is x y) ∙ on)).0;
      many = many ∙ t.queue ∙ ap (λ b. min (dirty_count old) (old.desk.shape.budget - b)) t.bands;
      desk = t.desk;
      screen = λ x y hx hy. t.screen x y hx hy ∙ ap (λ c. cond (c || in_band new.desk x y) (colour new.desk x y) (byte_at old x y)) (sym (chosen_is x y));
      dirt = λ x y hx hy. cleaned_mark (is_dirty old x y) (is_dirty new x y) (t.dirt x y hx hy) ∙ ap (λ c. is_dirty old x y && not c) (sym (chosen_is x y));
      answer = drew-is drew (band_count new.desk) (count_true lost) (dirty_count new) t.bands (sym many) t.left;
    }
