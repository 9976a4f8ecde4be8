-- Shares by weight: their bounds and their sums.
use Rattle.std.proofs.Common.{◌≡◌, ℕ, zero, suc, ◌+◌, ◌-◌, ◌*◌, ◌/◌, ◌<◌, ◌≤◌, max, Bool, true, false, cond, eqb, List, [], ◌∷◌, sum, take, map, length, get_or, refl, ap, ◌∙◌, arith}
use Rattle.std.proofs.lemmas.Bool.{eqb-false, ne_eqb, cond-false}
use Rattle.std.proofs.lemmas.Bool.Decides.{nat_tests}
use Rattle.std.proofs.lemmas.List.{take_all}
use Rattle.std.proofs.lemmas.List.Sums.{sum_by-take-le, sum_by_more, sum_by-le, get_or-le-sum_by}
use Rattle.std.proofs.lemmas.List.FromFn.{sum_by-map-range_with_len_more, take-map-range_with_len}
use Rattle.std.proofs.Math.Nat.{div-mul-le_self, le-div_iff_mul-le, mul-div_cancel, zero-div, mul-le-mul_left}
use Rattle.std.proofs.lemmas.Nat.{mul-le}
use Rattle.std.specs.List.{range_with_len, All}
use Rattle.grid_layout.specs.Spread.{left_over, part_before, share_of, shares_of, width_of, widths_of}

-- division keeps the order
div-le-div : (a b k : ℕ) → 0 < k → a ≤ b → a / k ≤ b / k
div-le-div a b k some h = (le-div_iff_mul-le some).1 (let m = div-mul-le_self a k in omega arith)

-- more columns get no less
pub part_before-more : (weights : List ℕ) (extra k : ℕ) → 0 < sum weights → k < length weights → part_before weights extra k ≤ part_before weights extra (k + 1)
part_before-more weights extra k some h =
    let more = sum_by_more (λ x. x) weights k 0 h in
    let step : sum (take k weights) ≤ sum (take (k + 1) weights) = omega arith in
    div-le-div (extra * sum (take k weights)) (extra * sum (take (k + 1) weights)) (sum weights) some (mul-le-mul_left extra step)

-- the first columns get no more than all
pub part_before-le : (weights : List ℕ) (extra k : ℕ) → 0 < sum weights → part_before weights extra k ≤ extra
part_before-le weights extra k some =
    let part = mul-le-mul_left extra (sum_by-take-le (λ x. x) weights k) in
    let whole = mul-div_cancel extra some in
    let most = div-le-div (extra * sum (take k weights)) (extra * sum weights) (sum weights) some part in
    omega arith

-- all columns get all
pub part_before-all : (weights : List ℕ) (extra k : ℕ) → 0 < sum weights → length weights ≤ k → part_before weights extra k ≡ extra
part_before-all weights extra k some h = ap (λ (ws : List ℕ). extra * sum ws / sum weights) (take_all k weights h) ∙ mul-div_cancel extra some

-- no column gets nothing
pub part_before-none : (weights : List ℕ) (extra : ℕ) → part_before weights extra 0 ≡ 0
part_before-none weights extra = let z : extra * 0 ≡ 0 = omega arith in ap (λ n. n / sum weights) z ∙ zero-div (sum weights)

-- where each term is the step of p, the terms add up to p
telescope : (p f : ℕ → ℕ) (n : ℕ) → ((i : ℕ) → i < n → f i + p i ≡ p (i + 1)) → (k : ℕ) → k ≤ n → sum (map f (range_with_len 0 k)) + p 0 ≡ p k
telescope p f n step zero h = omega arith
telescope p f n step (suc k) h =
    let next : k + 1 ≡ suc k = omega arith in
    let more = sum_by-map-range_with_len_more (λ x. x) f 0 k k (omega arith) in
    omega (arith, more, ap (λ m. sum (map f (range_with_len 0 m))) next, ap p next, step k (omega arith), telescope p f n step k (omega arith))

-- what the first columns get: their part, or all for all of them where no column has a weight
abbrev given_before : List ℕ → ℕ → ℕ → ℕ
given_before weights extra k = cond (eqb (sum weights) 0) (cond (eqb k (length weights)) extra 0) (part_before weights extra k)

step_last : (extra n i : ℕ) → i < n → cond (eqb (i + 1) n) extra 0 + cond (eqb i n) extra 0 ≡ cond (eqb (i + 1) n) extra 0
step_last extra n i h = grind (arith, nat_tests)

-- a share is the step of what the first columns get
share_step : (weights : List ℕ) (extra i : ℕ) → i < length weights → share_of weights extra i + given_before weights extra i ≡ given_before weights extra (i + 1)
share_step weights extra i h = by (eqb (sum weights) 0) refl
  where
    by : (t : Bool) → eqb (sum weights) 0 ≡ t
        → cond t (cond (eqb (i + 1) (length weights)) extra 0) (part_before weights extra (i + 1) - part_before weights extra i) + cond t (cond (eqb i (length weights)) extra 0) (part_before weights extra i) ≡ cond t (cond (eqb (i + 1) (length weights)) extra 0) (part_before weights extra (i + 1))
    by true e = step_last extra (length weights) i h
    by false e = let some = eqb-false (sum weights) 0 e in let positive : 0 < sum weights = grind arith in omega (arith, part_before-more weights extra i positive h)

given_none : (weights : List ℕ) (extra : ℕ) → 0 < length weights → given_before weights extra 0 ≡ 0
given_none weights extra h = by (eqb (sum weights) 0)
  where
    by : (t : Bool) → cond t (cond (eqb 0 (length weights)) extra 0) (part_before weights extra 0) ≡ 0
    by true = grind (arith, nat_tests)
    by false = part_before-none weights extra

given_all : (weights : List ℕ) (extra : ℕ) → given_before weights extra (length weights) ≡ extra
given_all weights extra = by (eqb (sum weights) 0) refl
  where
    by : (t : Bool) → eqb (sum weights) 0 ≡ t → cond t (cond (eqb (length weights) (length weights)) extra 0) (part_before weights extra (length weights)) ≡ extra
    by true e = grind (arith, nat_tests)
    by false e = let some = eqb-false (sum weights) 0 e in let positive : 0 < sum weights = grind arith in part_before-all weights extra (length weights) positive (omega arith)

-- the shares add up to what is left
pub sum-shares_of : (weights : List ℕ) (extra : ℕ) → 0 < length weights → sum (shares_of weights extra) ≡ extra
sum-shares_of weights extra h =
    let sums = telescope (given_before weights extra) (share_of weights extra) (length weights) (λ i l. share_step weights extra i l) (length weights) (omega arith) in
    omega (arith, sums, given_none weights extra h, given_all weights extra)

width_step : (least weights : List ℕ) (room i : ℕ) → length weights ≡ length least → i < length least → width_of least weights room i + (sum (take i least) + given_before weights (left_over least room) i) ≡ sum (take (i + 1) least) + given_before weights (left_over least room) (i + 1)
width_step least weights room i same l =
    let s = share_step weights (left_over least room) i (omega arith) in
    let m = sum_by_more (λ x. x) least i 0 l in
    omega arith

-- what the first columns have together
pub sum-first_widths : (least weights : List ℕ) (room k : ℕ) → length weights ≡ length least → 0 < length least → k ≤ length least → sum (map (width_of least weights room) (range_with_len 0 k)) ≡ sum (take k least) + given_before weights (left_over least room) k
sum-first_widths least weights room k same some h =
    let extra = left_over least room in
    let p = λ (i : ℕ). sum (take i least) + given_before weights extra i in
    let sums = telescope p (width_of least weights room) (length least) (λ i l. width_step least weights room i same l) k h in
    omega (arith, sums, given_none weights extra (omega arith))

-- the widths fill the room, or take what the least widths need
pub sum-widths_of : (least weights : List ℕ) (room : ℕ) → length weights ≡ length least → 0 < length least → sum (widths_of least weights room) ≡ max room (sum least)
sum-widths_of least weights room same some =
    let extra = left_over least room in
    let sums = sum-first_widths least weights room (length least) same some (omega arith) in
    let all = given_all weights extra in
    let at_all = ap (given_before weights extra) same in
    let whole = ap sum (take_all (length least) least (omega arith)) in
    omega (arith, sums, all, at_all, whole)

some_weight : (weights : List ℕ) → 0 < sum weights → 0 < length weights
some_weight [] h = absurd (omega arith)
some_weight (w ∷ ws) h = omega arith

-- where a column has a weight, the first columns have their least widths and their part of what is left
pub sum-take-widths_of : (least weights : List ℕ) (room count : ℕ) → length weights ≡ length least → 0 < sum weights → count ≤ length least → sum (take count (widths_of least weights room)) ≡ sum (take count least) + part_before weights (left_over least room) count
sum-take-widths_of least weights room count same some h =
    let extra = left_over least room in
    let positive : 0 < length weights = some_weight weights some in
    ap sum (take-map-range_with_len (width_of least weights room) 0 (length least) count h)
    ∙ sum-first_widths least weights room count same (omega arith) h
    ∙ ap (λ n. sum (take count least) + n) (cond-false (eqb (sum weights) 0) _ (part_before weights extra count) (ne_eqb (sum weights) 0 (λ e. omega arith)))

-- bounds on the way
pub weights_sum_small : (weights : List ℕ) → length weights ≤ 16 → All (λ n. n ≤ 1000) weights → sum weights ≤ 16000
weights_sum_small weights few small = let whole = sum_by-le (λ x. x) 1000 weights small in omega arith

pub first_weights_small : (weights : List ℕ) (k : ℕ) → length weights ≤ 16 → All (λ n. n ≤ 1000) weights → sum (take k weights) ≤ 16000
first_weights_small weights k few small = omega (arith, sum_by-take-le (λ x. x) weights k, weights_sum_small weights few small)

pub least_sum_small : (least : List ℕ) → length least ≤ 16 → All (λ n. n ≤ 4128) least → sum least ≤ 66048
least_sum_small least few small = let whole = sum_by-le (λ x. x) 4128 least small in omega arith

-- a product on the way to a share
pub product_small : (extra passed : ℕ) → extra ≤ 4128 → passed ≤ 16000 → extra * passed ≤ 66048000
product_small extra passed e p = mul-le extra passed 4128 16000 e p

-- one more width, from the sums of weights that the loop has
pub width_written : (extra least passed next all : ℕ) (weights : List ℕ) (i : ℕ) → passed ≡ sum (take i weights) → next ≡ sum (take (i + 1) weights) → all ≡ sum weights → least + (extra * next / all - extra * passed / all) ≡ least + (part_before weights extra (i + 1) - part_before weights extra i)
width_written extra least passed next all weights i p n a = cc

-- a column gets no more than what is left
share_of-le : (weights : List ℕ) (extra i : ℕ) → i < length weights → share_of weights extra i ≤ extra
share_of-le weights extra i h = by (eqb (sum weights) 0) refl
  where
    by : (t : Bool) → eqb (sum weights) 0 ≡ t → cond t (cond (eqb (i + 1) (length weights)) extra 0) (part_before weights extra (i + 1) - part_before weights extra i) ≤ extra
    by true e = grind (arith, nat_tests)
    by false e = let some = eqb-false (sum weights) 0 e in let positive : 0 < sum weights = grind arith in omega (arith, part_before-le weights extra (i + 1) positive)

-- a column is no wider than the room or than its least width
pub width_of-le : (least weights : List ℕ) (room i : ℕ) → length weights ≡ length least → i < length least → width_of least weights room i ≤ max room (get_or least i 0)
width_of-le least weights room i same h =
    let own = get_or-le-sum_by (λ x. x) least i 0 h in
    let share = share_of-le weights (left_over least room) i (omega arith) in
    omega arith
