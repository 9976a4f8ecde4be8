use Rattle.std.proofs.Common.{rules, arith, ◌≡◌, suc, ◌+◌, ◌-◌, [], ap, ◌∙◌}
use Rattle.turnstile.specs.declared.view.View.{View}
use Rattle.turnstile.specs.Views.{kept_back, beginning}
use Rattle.turnstile.specs.Steps.{Holder}
use Rattle.turnstile.proofs.Making.{more_fresh, made_next}
use Rattle.turnstile.proofs.turnstile.Turnstile.split_one.Goals as goal

pub split-seat-requires-clause-second : goal.split-seat-requires-clause-second
split-seat-requires-clause-second g c = (
  _,
  _,
  ap (λ (m : Holder g.row.V.Denot g.row.V-Entry.Denot). m.0.joined) c.requires.maker.holds
      ∙ more_fresh c.args.maker.now.seat.me.0.own.seen (suc c.args.maker.now.number) (c.args.self.now.made - 1 - c.args.maker.now.number) (let m = c.requires.more in omega arith),
)

pub returns-clause-maker : goal.returns-clause-maker
returns-clause-maker g c =
    let made = c.args.self.now.made in let k = c.args.maker.now.number in let es = c.args.maker.now.seat.me.0.own.seen in
    let now : c.split-seat.new.seat.me ≡ (beginning c.args.self.now.made c.args.maker.now.seat.me.0.own.seen (c.args.maker.now.number + 1) (c.args.self.now.made - 1 - (c.args.maker.now.number + 1)), []) =
    c.split-seat.ensures.kept ∙ (ap (λ (m : Holder g.row.V.Denot g.row.V-Entry.Denot). (kept_back m.0, m.1)) c.requires.maker.holds
    ∙ ap (λ (v : View g.row.V-Entry.Denot). (v, [])) (made_next c.args.self.now.made c.args.maker.now.seat.me.0.own.seen c.args.maker.now.number c.requires.more)) in record {
      own = record {
        table = search rules;
        made = ap (λ (m : Holder g.row.V.Denot g.row.V-Entry.Denot). m.0.made) now;
        opening = ap (λ (m : Holder g.row.V.Denot g.row.V-Entry.Denot). m.0.opening) c.split-seat.ensures.kept ∙ c.requires.maker.own.opening;
        number = ap (λ (m : Holder g.row.V.Denot g.row.V-Entry.Denot). m.0.own.number) now;
      };
      holds = now;
    }
