use Rattle.std.proofs.Common.{◌≡◌, ◌<◌, ◌++◌, ◌∷◌, [], ◌+◌, take, length, false, refl, sym, ◌∙◌, arith}
use Rattle.std.proofs.lemmas.List.Folds.{list_any-append}
use Rattle.widget_model.specs.Trees.{links_to}
use Rattle.widget_model.specs.Widgets.{rows_in}
use Rattle.tree_core.proofs.Listed.{any_at, rows_in-at, rows_in-take_more}
use Rattle.tree_core.proofs.removing.is_linked.Goals as goal

pub loop-i-preserved : goal.loop-i-preserved
loop-i-preserved c =
    let within : c.loop-i.i < length c.args.store.now = omega arith in
    let apart : links_to c.args.client c.args.name.now c.at.result.1.now ≡ false = sym c.links_to.ensures ∙ c.if-links_to.false in
    let more : rows_in (take (c.loop-i.i + 1) c.args.store.now) ≡ rows_in (take c.loop-i.i c.args.store.now) ++ c.at.result.1.now ∷ [] = rows_in-take_more c.args.store.now c.loop-i.i c.at.result.0 c.at.result.1.now within c.at.ensures in
    rw (more, list_any-append) (rw (c.loop-i.invariant, apart) refl)

pub returns-then-links_to : goal.returns-then-links_to
returns-then-links_to c =
    sym (any_at (links_to c.args.client c.args.name.now) (rows_in c.args.store.now) c.loop-i.i c.at.result.1.now (rows_in-at c.args.store.now c.loop-i.i c.at.result.0 c.at.result.1.now c.at.ensures) (sym c.links_to.ensures ∙ c.if-links_to.true))
