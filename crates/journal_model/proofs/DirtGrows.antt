-- How many pixels are dirty after a change, by what it reaches.
use Rattle.std.proofs.Common.{◌≡◌, ℕ, suc, ◌+◌, ◌*◌, ◌/◌, ◌%◌, ◌<◌, ◌≤◌, Bool, true, false, ◌||◌, cond, List, [], ◌∷◌, length, get_or, sym, ap, ◌∙◌, subst, arith}
use Rattle.std.specs.List.{count_by, range_with_len}
use Rattle.scene_model.specs.Shapes.{area}
use Rattle.kind_core.specs.declared.shapes.Shape.{Shape}
use Rattle.desk_model.specs.Desk.{Desk}
use Rattle.machine_model.specs.State.{State, IsState, is_dirty, dirty_count, count_true}
use Rattle.machine_model.specs.Reach.{is_reached}
use Rattle.machine_model.specs.Step.{Changed}
use Rattle.machine_model.proofs.Marks.{count_true-cons}
use Rattle.machine_model.proofs.Counting.{count_by-cons}
use Rattle.machine_model.proofs.Pixels.{at_place, place_of_pixel}
use Rattle.journal_model.specs.Journals.{is_reached_at, reach_size}

-- a map after which each mark is the one before or one that was hit
pub record Grows (old new : List Bool) (hit : ℕ → Bool) (start : ℕ) : Type 0 where
  pub at_least : count_true old ≤ count_true new
  pub at_most : count_true new ≤ count_true old + count_by hit (range_with_len start (length old))

one_hit : (was hit : Bool) → (cond was 1 0 ≤ cond (was || hit) 1 0) × (cond (was || hit) 1 0 ≤ cond was 1 0 + cond hit 1 0)
one_hit true true = (omega arith, omega arith)
one_hit true false = (omega arith, omega arith)
one_hit false true = (omega arith, omega arith)
one_hit false false = (omega arith, omega arith)

one_more : (was is hit : Bool) → is ≡ (was || hit) → (cond was 1 0 ≤ cond is 1 0) × (cond is 1 0 ≤ cond was 1 0 + cond hit 1 0)
one_more was is hit e =
    subst (λ (b : Bool). (cond was 1 0 ≤ cond b 1 0) × (cond b 1 0 ≤ cond was 1 0 + cond hit 1 0)) (sym e) (one_hit was hit)

pub grows : (old new : List Bool) (hit : ℕ → Bool) (start : ℕ) → length new ≡ length old → ((k : ℕ) → k < length old → get_or new k false ≡ (get_or old k false || hit (start + k))) → Grows old new hit start
grows [] [] hit start size each = record { at_least = omega arith; at_most = omega arith }
grows [] (is ∷ new) hit start size each = absurd (omega arith)
grows (was ∷ old) [] hit start size each = absurd (omega arith)
grows (was ∷ old) (is ∷ new) hit start size each =
    let rest = grows old new hit (start + 1) (omega arith) (λ k within. each (suc k) (omega arith) ∙ ap (λ n. get_or old k false || hit n) (next start k)) in
    let here = one_more was is (hit start) (each 0 (omega arith) ∙ ap (λ n. was || hit n) (omega arith)) in
    let before = count_true-cons was old in
    let now = count_true-cons is new in
    let hits = count_by-cons hit start (range_with_len (start + 1) (length old)) in
    record {
      at_least = omega (arith, rest.at_least, here.0, before, now);
      at_most = omega (arith, rest.at_most, here.1, before, now, hits);
    }
  where
    next : (a k : ℕ) → a + suc k ≡ a + 1 + k
    next a k = omega arith

-- After a change at least as many pixels are dirty as before, and at most so many more as it reaches.
pub dirty-changed : (old : State) (next : Desk) (new : State) → IsState old → next.shape ≡ old.desk.shape → Changed old next new → (dirty_count old ≤ dirty_count new) × (dirty_count new ≤ dirty_count old + reach_size old.desk next)
unfolding reach_size
dirty-changed old next new is same ch =
    let w = old.desk.shape.width in
    let shape : new.desk.shape ≡ old.desk.shape = ap (λ (d : Desk). d.shape) ch.desk ∙ same in
    let width : new.desk.shape.width ≡ w = ap (λ (s : Shape). s.width) shape in
    let each : (k : ℕ) → k < length old.dirt → get_or new.dirt k false ≡ (get_or old.dirt k false || is_reached_at old.desk next k) =
    λ k within.
    let inside : k < area old.desk.shape = omega (arith, is.dirt) in
    let marks = subst (λ (s : Shape). (x y : ℕ) → x < s.width → y < s.height → is_dirty new x y ≡ (is_dirty old x y || is_reached old.desk next x y)) same ch.dirt in
    let here = at_place old.desk.shape (λ x y. is_dirty new x y ≡ (is_dirty old x y || is_reached old.desk next x y)) k inside (omega (arith, is.desk.shape.width_least)) marks in
    let place = place_of_pixel w k in
    ap (λ m. get_or new.dirt m false) (sym (ap (λ v. k / w * v + k % w) width ∙ place))
    ∙ here
    ∙ ap (λ m. get_or old.dirt m false || is_reached_at old.desk next k) place in
    let grown = grows old.dirt new.dirt (is_reached_at old.desk next) 0 ch.size (λ k within. each k within ∙ ap (λ n. get_or old.dirt k false || is_reached_at old.desk next n) (from_none k)) in
    (grown.at_least, subst (λ n. dirty_count new ≤ dirty_count old + count_by (is_reached_at old.desk next) (range_with_len 0 n)) is.dirt grown.at_most)
  where
    from_none : (k : ℕ) → k ≡ 0 + k
    from_none k = omega arith
