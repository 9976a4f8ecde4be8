use Rattle.std.proofs.Common.{◌≡◌, ℕ, [], length, drop, subst}
use Rattle.std.proofs.lemmas.List.Elements.{All-head}
use Rattle.turnstile.specs.Entries.{carrying, Tallies}
use Rattle.turnstile.proofs.Growth.{none_between}
use Rattle.turnstile.proofs.turnstile.Turnstile.enter.Goals as goal

pub returns-clause-none_between : goal.returns-clause-none_between
returns-clause-none_between g c =
    let v = c.args.pass.now.seat.me.0 in
    subst (λ (n : ℕ). carrying g.V.Kept.number n (drop (length c.args.pass.now.seat.me.0.own.seen) (g.V.Kept.entries c.come_in-value.result)) ≡ []) c.requires.own.number
    (none_between g.V.Kept.number c.args.pass.now.seat.me.0.opening (g.V.Kept.entries c.come_in-value.result) c.args.pass.now.seat.me.0.own
    (All-head (Tallies g.V.Kept.number c.args.pass.now.seat.me.0.opening (g.V.Kept.entries c.come_in-value.result)) c.args.pass.now.seat.me.0.own c.args.pass.now.seat.me.0.joined c.come_in-value.ensures.learns.tallies))
