use Rattle.std.proofs.Common.{sym, ap, ◌∙◌}
use Rattle.std.specs.Option.{option_and_then}
use Rattle.slab.specs.Slab.{get as slab_get}
use Rattle.row_store.proofs.ShownLemmas.{row_at-shown}
use Rattle.row_store.proofs.store.row_under.Goals as goal

pub returns-in-Some : goal.returns-in-Some
returns-in-Some c =
    let at = slab_get c.args.rows.now in
    c.get-in-Some.ensures ∙ sym (row_at-shown at c.args.keys.now.entries c.args.id c.requires ∙ ap (option_and_then at) (sym c.in-Some.ensures.value))

pub returns-in-None : goal.returns-in-None
returns-in-None c =
    let at = slab_get c.args.rows.now in
    sym (row_at-shown at c.args.keys.now.entries c.args.id c.requires ∙ ap (option_and_then at) (sym c.in-None.ensures.value))
