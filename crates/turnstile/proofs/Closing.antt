-- When all passes are joined into one, the value is at home, and what it keeps is what they know.
use Rattle.std.proofs.Common.{◌≡◌, ℕ, ◌≤◌, List, ◌∷◌, length, refl, sym, ap, ◌∙◌, subst}
use Rattle.std.specs.Prelude.{Option, Some, None}
use Rattle.std.specs.List.{All}
use mathlib.Core.Option.{none, some}
use mathlib.Core.Option as maybe
use lib.ListN.{get_elem?}
use Rattle.atomic_table.specs.Table.{Final, Seen}
use Rattle.turnstile.specs.declared.view.View.{View}
use Rattle.turnstile.specs.declared.view.Stage.TheVariants.{Out}
use Rattle.turnstile.specs.Entries.{Tallies, HaveAll}
use Rattle.turnstile.specs.Views.{at_stage}
use Rattle.turnstile.specs.Rule.{Fits, Stands}
use Rattle.turnstile.specs.Steps.{Learns}
use Rattle.turnstile.proofs.Totals.{all_at}
use Rattle.turnstile.proofs.TurnSteps.{at_home}
use Rattle.turnstile.proofs.Whole.{have_all, others_out}

-- the value that lies in the slot, and what the pass learns of it
pub record Closes {A E : Type 0} (entries : A → List E) (number : E → ℕ) (v : View E) (slots : List (Option A)) : Type 0 where
  pub value : A
  pub there : get_elem? slots 0 ≡ some (Some value)
  pub learns : Learns number v (entries value)

module _ {A E : Type 0} (entries : A → List E) (number : E → ℕ) (made opening : ℕ) where
  pub closes : (id : ℕ) (v : View E) (words : List ℕ) (slots : List (Option A)) → v.stage ≡ Out → made ≤ length (v.own ∷ v.joined)
      → Final (Seen (Stands entries number made opening) id v) words slots → Closes entries number v slots
  closes id v words slots out whole final =
      let s = final.0 in let r = final.1.0 in
      let at : get_elem? s.views id ≡ some (at_stage Out v) = final.1.1 ∙ ap (λ z. some (at_stage z v)) out in
      let f = all_at (Fits number made opening r.turn r.history) s.views id (at_stage Out v) r.fits at in
      let h = at_home entries r.history s.homes s.views (others_out number made opening r.history s.views id (at_stage Out v) at r.numbers whole refl) r.turns in record {
        value = h.value;
        there = final.4 0 (Some h.value) (ap (λ hs. get_elem? hs 0) h.home);
        learns = record {
          tallies = subst (λ (z : ℕ × List E). All (Tallies number z.0 z.1) (v.own ∷ v.joined)) (λ k. (sym f.knows.1 k, sym h.has k)) f.tallies;
          whole = λ (le : v.made ≤ length (v.own ∷ v.joined)). subst (λ (z : ℕ × List E). HaveAll z.0 z.1 (v.own ∷ v.joined)) (λ k. (sym f.knows.1 k, sym h.has k))
              (have_all number made opening r.history s.views id (at_stage Out v) at r.numbers whole f.tallies);
        };
      }

  -- the same, where the pass's view goes by two names
  pub closes_as : (id : ℕ) (v u : View E) (words : List ℕ) (slots : List (Option A)) → v ≡ u → u.stage ≡ Out → made ≤ length (u.own ∷ u.joined)
      → Final (Seen (Stands entries number made opening) id v) words slots → Closes entries number u slots
  closes_as id v u words slots same out whole final = closes id u words slots out whole (subst (λ (z : View E). Final (Seen (Stands entries number made opening) id z) words slots) same final)

abbrev value_of : {A : Type 0} → A → maybe.Option (Option A) → A
value_of d none = d
value_of d (some None) = d
value_of d (some (Some x)) = x

module _ {A E : Type 0} (entries : A → List E) (number : E → ℕ) (v : View E) (slots : List (Option A)) (c : Closes entries number v slots) where
  pub learns_of : (x : A) → get_elem? slots 0 ≡ some (Some x) → Learns number v (entries x)
  learns_of x at = subst (λ (z : A). Learns number v (entries z)) (ap (value_of x) (sym c.there ∙ at)) c.learns

  pub is_there : get_elem? slots 0 ≡ some None → ⊥
  is_there at = let e : some (Some c.value) ≡ some None = sym c.there ∙ at in cc
