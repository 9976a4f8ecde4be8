-- Trails: at a widget whose place holds the pixel, past one that doesn't, at the end, and what heads one.
use Rattle.std.proofs.Common.{◌≡◌, ℕ, zero, suc, ◌+◌, ◌-◌, ◌<◌, ◌≤◌, ℤ, Bool, true, false, cond, List, [], ◌∷◌, length, drop, get_or, refl, sym, ap, ◌∙◌, ◌⊎◌, inl, inr, arith}
use Rattle.std.specs.Prelude.{Option, Some, None}
use Rattle.std.proofs.lemmas.List.{drop_more, drop_all}
use Rattle.geom_core.specs.declared.rectangle.Rect.{Rect}
use Rattle.geom_core.specs.Rect.{in_rect}
use Rattle.painter_core.specs.Layers.{Layers}
use Rattle.painter_core.specs.Trail.{first_holding, trail}

pub trail-none : (layers : Layers) (slots : List (Option ℕ)) (x y : ℤ) → trail 0 layers slots x y ≡ []
unfolding trail
trail-none layers slots x y = refl

no_slots : (depth : ℕ) (layers : Layers) (x y : ℤ) → trail depth layers [] x y ≡ []
unfolding trail
no_slots zero layers x y = refl
no_slots (suc depth) layers x y = refl

-- past the last slot
pub trail-end : (depth : ℕ) (layers : Layers) (slots : List (Option ℕ)) (i : ℕ) (x y : ℤ) → length slots ≤ i → trail depth layers (drop i slots) x y ≡ []
trail-end depth layers slots i x y past = ap (λ ss. trail depth layers ss x y) (drop_all i slots past) ∙ no_slots depth layers x y

here_first : (depth : ℕ) (layers : Layers) (slots : List (Option ℕ)) (id : ℕ) (x y : ℤ) → 0 < depth → in_rect (layers.rect id) x y ≡ true → trail depth layers (Some id ∷ slots) x y ≡ id ∷ trail (depth - 1) layers (layers.below (Some id)) x y
unfolding trail
here_first zero layers slots id x y some e = absurd (omega arith)
here_first (suc depth) layers slots id x y some e =
    let deeper : ℕ → List ℕ = λ k. trail depth layers (layers.below (Some k)) x y in
    let less : depth ≡ suc depth - 1 = omega arith in
    ap (λ (b : Bool). cond b (id ∷ deeper id) (first_holding layers.rect deeper slots x y)) e
    ∙ ap (λ n. id ∷ trail n layers (layers.below (Some id)) x y) less

past_first : (depth : ℕ) (layers : Layers) (slots : List (Option ℕ)) (id : ℕ) (x y : ℤ) → in_rect (layers.rect id) x y ≡ false → trail depth layers (Some id ∷ slots) x y ≡ trail depth layers slots x y
unfolding trail
past_first zero layers slots id x y e = refl
past_first (suc depth) layers slots id x y e =
    let deeper : ℕ → List ℕ = λ k. trail depth layers (layers.below (Some k)) x y in
    ap (λ (b : Bool). cond b (id ∷ deeper id) (first_holding layers.rect deeper slots x y)) e

past_empty : (depth : ℕ) (layers : Layers) (slots : List (Option ℕ)) (x y : ℤ) → trail depth layers (None ∷ slots) x y ≡ trail depth layers slots x y
unfolding trail
past_empty zero layers slots x y = refl
past_empty (suc depth) layers slots x y = refl

at_slot : (depth : ℕ) (layers : Layers) (slots : List (Option ℕ)) (i : ℕ) (x y : ℤ) (slot : Option ℕ) → i < length slots → get_or slots i None ≡ slot → trail depth layers (drop i slots) x y ≡ trail depth layers (slot ∷ drop (i + 1) slots) x y
at_slot depth layers slots i x y slot within is =
    ap (λ ss. trail depth layers ss x y) (drop_more slots i None within)
    ∙ ap (λ s. trail depth layers (s ∷ drop (i + 1) slots) x y) is

-- at a slot whose widget's place holds the pixel
pub trail-here : (depth : ℕ) (layers : Layers) (slots : List (Option ℕ)) (i id : ℕ) (x y : ℤ) → 0 < depth → i < length slots → get_or slots i None ≡ Some id → in_rect (layers.rect id) x y ≡ true → trail depth layers (drop i slots) x y ≡ id ∷ trail (depth - 1) layers (layers.below (Some id)) x y
trail-here depth layers slots i id x y some within slot e =
    at_slot depth layers slots i x y (Some id) within slot ∙ here_first depth layers (drop (i + 1) slots) id x y some e

-- at one whose widget's place doesn't hold it
pub trail-past : (depth : ℕ) (layers : Layers) (slots : List (Option ℕ)) (i id : ℕ) (x y : ℤ) → i < length slots → get_or slots i None ≡ Some id → in_rect (layers.rect id) x y ≡ false → trail depth layers (drop i slots) x y ≡ trail depth layers (drop (i + 1) slots) x y
trail-past depth layers slots i id x y within slot e =
    at_slot depth layers slots i x y (Some id) within slot ∙ past_first depth layers (drop (i + 1) slots) id x y e

-- at an empty slot
pub trail-past_empty : (depth : ℕ) (layers : Layers) (slots : List (Option ℕ)) (i : ℕ) (x y : ℤ) → i < length slots → get_or slots i None ≡ None → trail depth layers (drop i slots) x y ≡ trail depth layers (drop (i + 1) slots) x y
trail-past_empty depth layers slots i x y within slot =
    at_slot depth layers slots i x y None within slot ∙ past_empty depth layers (drop (i + 1) slots) x y

head_by : (rect : ℕ → Rect) (k id : ℕ) (below rest others : List ℕ) (x y : ℤ) (b : Bool) → in_rect (rect k) x y ≡ b → cond b (k ∷ below) others ≡ id ∷ rest → (others ≡ id ∷ rest → in_rect (rect id) x y ≡ true) → in_rect (rect id) x y ≡ true
head_by rect k id below rest others x y true p e ih = let same : k ≡ id = cc in ap (λ n. in_rect (rect n) x y) (sym same) ∙ p
head_by rect k id below rest others x y false p e ih = ih e

head_in : (rect : ℕ → Rect) (deeper : ℕ → List ℕ) (slots : List (Option ℕ)) (x y : ℤ) (id : ℕ) (rest : List ℕ) → first_holding rect deeper slots x y ≡ id ∷ rest → in_rect (rect id) x y ≡ true
head_in rect deeper [] x y id rest e = cc
head_in rect deeper (None ∷ slots) x y id rest e = head_in rect deeper slots x y id rest e
head_in rect deeper (Some k ∷ slots) x y id rest e =
    head_by rect k id (deeper k) rest (first_holding rect deeper slots x y) x y (in_rect (rect k) x y) refl e (λ r. head_in rect deeper slots x y id rest r)

-- a trail begins with a widget whose place holds the pixel
pub trail-head : (depth : ℕ) (layers : Layers) (slots : List (Option ℕ)) (x y : ℤ) (id : ℕ) (rest : List ℕ) → trail depth layers slots x y ≡ id ∷ rest → in_rect (layers.rect id) x y ≡ true
unfolding trail
trail-head zero layers slots x y id rest e = cc
trail-head (suc depth) layers slots x y id rest e = head_in layers.rect (λ k. trail depth layers (layers.below (Some k)) x y) slots x y id rest e

-- The trail enters the widget of this slot, the only one that decides; or no slot's widget holds the pixel.
pub record Enters (layers : Layers) (depth : ℕ) (slots : List (Option ℕ)) (x y : ℤ) : Type 0 where
  pub slot : ℕ
  pub id : ℕ
  pub within : slot < length slots
  pub is : get_or slots slot None ≡ Some id
  pub inside : in_rect (layers.rect id) x y ≡ true
  pub way : trail (suc depth) layers slots x y ≡ id ∷ trail depth layers (layers.below (Some id)) x y

pub record Misses (layers : Layers) (depth : ℕ) (slots : List (Option ℕ)) (x y : ℤ) : Type 0 where
  pub each : (slot id : ℕ) → slot < length slots → get_or slots slot None ≡ Some id → in_rect (layers.rect id) x y ≡ false
  pub way : trail (suc depth) layers slots x y ≡ []

enters_later : (layers : Layers) (depth : ℕ) (first : Option ℕ) (slots : List (Option ℕ)) (x y : ℤ) → trail (suc depth) layers (first ∷ slots) x y ≡ trail (suc depth) layers slots x y → Enters layers depth slots x y → Enters layers depth (first ∷ slots) x y
enters_later layers depth first slots x y same h = record { slot = suc h.slot; id = h.id; within = omega (arith, h.within); is = h.is; inside = h.inside; way = same ∙ h.way }

misses_later : (layers : Layers) (depth : ℕ) (first : Option ℕ) (slots : List (Option ℕ)) (x y : ℤ) → trail (suc depth) layers (first ∷ slots) x y ≡ trail (suc depth) layers slots x y → ((id : ℕ) → first ≡ Some id → in_rect (layers.rect id) x y ≡ false) → Misses layers depth slots x y → Misses layers depth (first ∷ slots) x y
misses_later layers depth first slots x y same out h = record { each = each; way = same ∙ h.way }
  where
    each : (slot id : ℕ) → slot < length (first ∷ slots) → get_or (first ∷ slots) slot None ≡ Some id → in_rect (layers.rect id) x y ≡ false
    each zero id within is = out id is
    each (suc slot) id within is = h.each slot id (omega (arith, within)) is

later_cases : (layers : Layers) (depth : ℕ) (first : Option ℕ) (slots : List (Option ℕ)) (x y : ℤ) → trail (suc depth) layers (first ∷ slots) x y ≡ trail (suc depth) layers slots x y → ((id : ℕ) → first ≡ Some id → in_rect (layers.rect id) x y ≡ false) → Enters layers depth slots x y ⊎ Misses layers depth slots x y → Enters layers depth (first ∷ slots) x y ⊎ Misses layers depth (first ∷ slots) x y
later_cases layers depth first slots x y same out (inl h) = inl (enters_later layers depth first slots x y same h)
later_cases layers depth first slots x y same out (inr h) = inr (misses_later layers depth first slots x y same out h)

some_cases : (layers : Layers) (depth id : ℕ) (slots : List (Option ℕ)) (x y : ℤ) (b : Bool) → in_rect (layers.rect id) x y ≡ b → Enters layers depth slots x y ⊎ Misses layers depth slots x y → Enters layers depth (Some id ∷ slots) x y ⊎ Misses layers depth (Some id ∷ slots) x y
some_cases layers depth id slots x y true e rest = let less : suc depth - 1 ≡ depth = omega arith in inl (record { slot = 0; id = id; within = omega arith; is = refl; inside = e; way = here_first (suc depth) layers slots id x y (omega arith) e ∙ ap (λ n. id ∷ trail n layers (layers.below (Some id)) x y) less })
some_cases layers depth id slots x y false e rest = later_cases layers depth (Some id) slots x y (past_first (suc depth) layers slots id x y e) (λ k is. let same : id ≡ k = cc in ap (λ n. in_rect (layers.rect n) x y) (sym same) ∙ e) rest

pub trail-cases : (layers : Layers) (depth : ℕ) (slots : List (Option ℕ)) (x y : ℤ) → Enters layers depth slots x y ⊎ Misses layers depth slots x y
trail-cases layers depth [] x y = inr (record { each = λ slot id within is. absurd (omega (arith, within)); way = no_slots (suc depth) layers x y })
trail-cases layers depth (None ∷ slots) x y = later_cases layers depth None slots x y (past_empty (suc depth) layers slots x y) (λ id is. absurd (cc)) (trail-cases layers depth slots x y)
trail-cases layers depth (Some id ∷ slots) x y = some_cases layers depth id slots x y (in_rect (layers.rect id) x y) refl (trail-cases layers depth slots x y)
