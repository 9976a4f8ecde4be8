use Rattle.std.proofs.Common.{◌≡◌, ◌++◌, ◌∷◌, [], Some, ap, ◌∙◌, arith}
use Rattle.widget_model.specs.Rows.{new_row}
use Rattle.widget_model.specs.Widgets.{rows_in}
use Rattle.widget_model.proofs.Naming.{rows-push}
use Rattle.row_store.specs.Counts.{gained, AreCounts}
use Rattle.row_store.proofs.CountsLemmas.{AreCounts-gain, number_alike-rows_counted}
use Rattle.tree_core.proofs.add.put_counted.Goals as goal

pub gain-requires-clause-alike : goal.gain-requires-clause-alike
gain-requires-clause-alike c =
    omega (arith, number_alike-rows_counted c.args.counts.now (rows_in c.args.store.now) c.args.client (Some c.args.kind) c.requires.client c.requires.counted, c.requires.alike)

pub returns-clause-counted : goal.returns-clause-counted
unfolding new_row
returns-clause-counted c =
    let row = new_row c.args.client c.args.name c.args.kind in
    let longer : rows_in c.put_new.new.store ≡ rows_in c.args.store.now ++ row ∷ [] = ap rows_in c.in_ok-put_new.ensures.rows ∙ rows-push c.args.store.now c.args.id row in
    let right : AreCounts (gained c.args.client c.args.kind c.args.counts.now) (rows_in c.args.store.now ++ row ∷ []) = AreCounts-gain c.args.counts.now (rows_in c.args.store.now) row c.requires.client c.requires.counted in
    rw (c.gain.ensures, longer) right
