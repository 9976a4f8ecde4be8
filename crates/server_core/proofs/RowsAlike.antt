-- Rows that hang alike: the same keys in the same order, each in the same widget. Then each name leads to a row of the same
-- key, parent and root.
use Rattle.std.proofs.Common.{◌≡◌, ℕ, zero, suc, Bool, ◌&&◌, nat_eq, List, map, Option, Some, None, refl, sym, ap, ◌∙◌}
use Rattle.std.specs.List.{find}
use Rattle.std.specs.Option.{option_map, option_map_or, option_and_then}
use Rattle.std.specs.Str.{bytes_eq}
use Rattle.kind_core.specs.declared.shapes.Cell.{Cell}
use Rattle.widget_model.specs.Rows.{Row}
use Rattle.widget_model.specs.Named.{row_named}
use Rattle.widget_model.specs.Keys.{parent_key, root_key}
use Rattle.widget_model.specs.Trees.{parent_of, root_in, root_of, most_levels}
use Rattle.widget_model.proofs.Hanging.{find-map}
use Rattle.desk_model.specs.InPlace.{hung_of}

-- a key, and the name of the widget that it hangs in
abbrev pub Hung : Type 0
Hung = (ℕ × List ℕ) × Option (List ℕ)

abbrev pub is_hung : ℕ → List ℕ → Hung → Bool
is_hung client name hung = nat_eq client hung.0.0 && bytes_eq name hung.0.1

-- what the widget hangs in, by its row and by what it hangs in
parent-read : (o : Option Row) → option_and_then (λ (row : Row). option_map (λ (attached : List ℕ × Cell). attached.0) row.attached) o ≡ option_and_then (λ (hung : Hung). hung.1) (option_map hung_of o)
parent-read None = refl
parent-read (Some row) = refl

module _ (old new : List Row) (alike : map hung_of new ≡ map hung_of old) where
  named-alike : (client : ℕ) (name : List ℕ) → option_map hung_of (row_named new client name) ≡ option_map hung_of (row_named old client name)
  named-alike client name = sym (find-map (is_hung client name) hung_of new) ∙ ap (find (is_hung client name)) alike ∙ find-map (is_hung client name) hung_of old

  parent_of-alike : (client : ℕ) (name : List ℕ) → parent_of new client name ≡ parent_of old client name
  parent_of-alike client name =
      parent-read (row_named new client name)
      ∙ ap (option_and_then (λ (hung : Hung). hung.1)) (named-alike client name)
      ∙ sym (parent-read (row_named old client name))

  pub parent_key-alike : (key : ℕ × List ℕ) → parent_key new key ≡ parent_key old key
  parent_key-alike key = ap (option_map (λ (name : List ℕ). (key.0, name))) (parent_of-alike key.0 key.1)

  root_in-alike : (most client : ℕ) (name : List ℕ) → root_in most new client name ≡ root_in most old client name
  root_in-alike zero client name = refl
  root_in-alike (suc most) client name =
      ap (λ (o : Option (List ℕ)). option_map_or (root_in most new client) o name) (parent_of-alike client name)
      ∙ (λ i. option_map_or (λ upper. root_in-alike most client upper i) (parent_of old client name) name)

  pub root_of-alike : (client : ℕ) (name : List ℕ) → root_of new client name ≡ root_of old client name
  root_of-alike client name = root_in-alike most_levels client name

  pub root_key-alike : (key : ℕ × List ℕ) → root_key new key ≡ root_key old key
  root_key-alike key = ap (λ (name : List ℕ). (key.0, name)) (root_of-alike key.0 key.1)
