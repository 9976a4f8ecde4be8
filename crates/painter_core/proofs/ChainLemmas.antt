-- Trails are chains of parents and children, so a trail is known by where it ends.
use Rattle.std.proofs.Common.{◌≡◌, ℕ, zero, suc, ◌+◌, ◌<◌, ℤ, List, [], ◌∷◌, ◌++◌, length, get_or, refl, sym, ap, subst, ◌∙◌, append_assoc, ◌⊎◌, inl, inr, arith}
use Rattle.std.specs.Prelude.{Option, Some, None}
use Rattle.painter_core.specs.Layers.{Layers}
use Rattle.painter_core.specs.Trail.{trail, last_of}
use Rattle.painter_core.proofs.TrailLemmas.{Enters, Misses, trail-cases, trail-none}

-- each one's parent is the one before it, and the first one's is `under`
abbrev pub IsChain : (ℕ → Option ℕ) → Option ℕ → List ℕ → Type 0
IsChain parent under [] = Unit {0}
IsChain parent under (id ∷ ids) = (parent id ≡ under) × IsChain parent (Some id) ids

chain_from : (parent : ℕ → Option ℕ) (under : Option ℕ) (ids more : List ℕ) → ids ≡ more → IsChain parent under more → IsChain parent under ids
chain_from parent under ids more same chain = subst (IsChain parent under) (sym same) chain

-- a trail is a chain
pub trail-chain : (depth : ℕ) (layers : Layers) (parent : ℕ → Option ℕ) (x y : ℤ) → ((under : Option ℕ) (slot id : ℕ) → slot < length (layers.below under) → get_or (layers.below under) slot None ≡ Some id → parent id ≡ under) → (under : Option ℕ) → IsChain parent under (trail depth layers (layers.below under) x y)
trail-chain zero layers parent x y above under = chain_from parent under (trail 0 layers (layers.below under) x y) [] (trail-none layers (layers.below under) x y) tt
trail-chain (suc depth) layers parent x y above under = by (λ id. trail-chain depth layers parent x y above (Some id)) (trail-cases layers depth (layers.below under) x y)
  where
    by : ((id : ℕ) → IsChain parent (Some id) (trail depth layers (layers.below (Some id)) x y)) → Enters layers depth (layers.below under) x y ⊎ Misses layers depth (layers.below under) x y → IsChain parent under (trail (suc depth) layers (layers.below under) x y)
    by deeper (inl e) = chain_from parent under (trail (suc depth) layers (layers.below under) x y) (e.id ∷ trail depth layers (layers.below (Some e.id)) x y) e.way (above under e.slot e.id e.within e.is, deeper e.id)
    by deeper (inr m) = chain_from parent under (trail (suc depth) layers (layers.below under) x y) [] m.way tt

-- the chain that goes so many levels up
abbrev pub chain_up : (ℕ → Option ℕ) → ℕ → Option ℕ → List ℕ
chain_up parent zero last = []
chain_up parent (suc n) None = []
chain_up parent (suc n) (Some id) = chain_up parent n (parent id) ++ id ∷ []

nothing_up : (parent : ℕ → Option ℕ) (n : ℕ) → chain_up parent n None ≡ []
nothing_up parent zero = refl
nothing_up parent (suc n) = refl

nil_right : (ids : List ℕ) → ids ≡ ids ++ []
nil_right [] = refl
nil_right (id ∷ ids) = ap (λ (more : List ℕ). id ∷ more) (nil_right ids)

up_from : (parent : ℕ → Option ℕ) (n : ℕ) (under : Option ℕ) (ids : List ℕ) → IsChain parent under ids → chain_up parent (n + length ids) (last_of under ids) ≡ chain_up parent n under ++ ids
up_from parent n under [] chain = let same : n + 0 ≡ n = omega arith in ap (λ (m : ℕ). chain_up parent m under) same ∙ nil_right (chain_up parent n under)
up_from parent n under (id ∷ ids) chain =
    let same : n + length (id ∷ ids) ≡ suc n + length ids = omega arith in
    ap (λ (m : ℕ). chain_up parent m (last_of (Some id) ids)) same
    ∙ up_from parent (suc n) (Some id) ids chain.1
    ∙ ap (λ (last : Option ℕ). (chain_up parent n last ++ id ∷ []) ++ ids) chain.0
    ∙ append_assoc (chain_up parent n under) (id ∷ []) ids

whole_up : (parent : ℕ → Option ℕ) (n : ℕ) (ids : List ℕ) → IsChain parent None ids → chain_up parent (n + length ids) (last_of None ids) ≡ ids
whole_up parent n ids chain = up_from parent n None ids chain ∙ ap (λ (more : List ℕ). more ++ ids) (nothing_up parent n)

-- two chains from the top that end alike are the same
pub chains_same : (parent : ℕ → Option ℕ) (a b : List ℕ) → IsChain parent None a → IsChain parent None b → last_of None a ≡ last_of None b → a ≡ b
chains_same parent a b chain_a chain_b ends =
    let count : length b + length a ≡ length a + length b = omega arith in
    sym (whole_up parent (length b) a chain_a)
    ∙ ap (λ (n : ℕ). chain_up parent n (last_of None a)) count
    ∙ ap (chain_up parent (length a + length b)) ends
    ∙ whole_up parent (length a) b chain_b
