-- Facts on the font: each glyph has five columns.
use Rattle.std.proofs.Common.{◌≡◌, ℕ, ◌-◌, ◌&&◌, false, zero, suc, Bool, true, ◌==◌, List, [], ◌∷◌, length, get_or, refl, eqb-true}
use Rattle.std.specs.List.{list_all}
use Rattle.look_core.specs.declared.font.TheConstants.{FONT, BLANK}
use Rattle.look_core.specs.Font.{columns_of}

-- both parts of a test that holds
pub parts : (a b : Bool) → (a && b) ≡ true → (a ≡ true) × (b ≡ true)
parts true b both = (refl, both)
parts false b both = absurd (cc)

-- where all lists have five members, and the default too, so has the one at a place
five_at : (lists : List (List ℕ)) (default : List ℕ) (i : ℕ) → list_all (λ columns. length columns == 5) lists ≡ true → length default ≡ 5 → length (get_or lists i default) ≡ 5
five_at [] default i all short = short
five_at (columns ∷ lists) default zero all short = eqb-true (length columns) 5 (parts (length columns == 5) (list_all (λ other. length other == 5) lists) all).0
five_at (columns ∷ lists) default (suc i) all short = five_at lists default i (parts (length columns == 5) (list_all (λ other. length other == 5) lists) all).1 short

pub five : (byte : ℕ) → length (columns_of byte) ≡ 5
unfolding columns_of
five byte = five_at FONT BLANK (byte - 32) refl refl
