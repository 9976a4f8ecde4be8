use Rattle.std.proofs.Common.{rules, arith, ◌≡◌, ◌-◌, List, [], ◌∷◌, length, sym, subst, Option, Some}
use Rattle.std.proofs.lemmas.Grind.{common_steps}
use Rattle.atomic_table.specs.Table.{opening}
use Rattle.turnstile.specs.Rule.{Stands}
use Rattle.turnstile.specs.Views.{beginning}
use Rattle.turnstile.proofs.Opening.{opens}
use Rattle.turnstile.proofs.turnstile.Turnstile.first_pass.Goals as goal

pub new-requires : goal.new-requires
new-requires g c =
    let items : c.push.new.self.items ≡ Some c.args.value ∷ [] = first_of (search rules, grind (arith, common_steps)) in
    let same : c.of.result.value ≡ c.args.value = search rules in
    subst (λ (z : List (Option g.row.V.Denot) × g.row.V.Denot).
    Stands g.V.Kept.entries g.V.Kept.number c.args.passes (length (g.V.Kept.entries z.1)) (opening (0 ∷ 0 ∷ c.len.result ∷ []) z.0 (beginning c.args.passes (g.V.Kept.entries z.1) 0 (c.args.passes - 1))))
    (λ k. (sym items k, sym same k)) (opens g.V.Kept.entries g.V.Kept.number c.args.value c.args.passes c.len.result c.requires.some c.len.ensures)
