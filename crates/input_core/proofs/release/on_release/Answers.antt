use Rattle.std.proofs.Common.{◌≡◌, sym, ◌∙◌, subst, true}
use Rattle.std.specs.Option.{option_map}
use Rattle.widget_model.specs.Widgets.{IsLive}
use Rattle.input_core.specs.Live.{IsLiveGrab}
use Rattle.input_core.specs.Seen.{hit_seen}
use Rattle.input_core.proofs.Steps.{on_release-widget}
use Rattle.input_core.proofs.release.on_release.Goals as goal

pub returns-in-Some-clause-seen : goal.returns-in-Some-clause-seen
returns-in-Some-clause-seen c =
    let w = c.args.tree.now in
    let live : IsLive w c.in-Widget.id.key = subst (IsLiveGrab w) c.in-Widget.is c.requires.holds.grab in
    let down : c.args.pointer.now.down ≡ true = c.if-not-pointer.false in
    c.release_on.ensures.seen ∙ sym (on_release-widget w c.args.pointer.now c.in-Widget.id c.in-Some.place (option_map (hit_seen w.entries) c.args.hit) c.args.held c.requires.widgets live down c.in-Widget.is c.in-Some.is)
