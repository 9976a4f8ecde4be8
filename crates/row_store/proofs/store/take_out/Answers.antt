use Rattle.std.proofs.Common.{is_some, sym, ap, ◌∙◌}
use Rattle.slab.specs.Slab.{get as slab_get}
use Rattle.row_store.specs.Shown.{shown}
use Rattle.row_store.proofs.ShownLemmas.{listed, lookup-live, shown-remove}
use Rattle.row_store.proofs.store.take_out.Goals as goal

pub unwrap-key-requires : goal.unwrap-key-requires
unwrap-key-requires c =
    ap is_some c.shift_remove.ensures.value ∙ listed (slab_get c.args.rows.now) c.args.keys.now.entries c.args.id c.requires.kept c.requires.live

pub remove-requires : goal.remove-requires
remove-requires c =
    lookup-live (slab_get c.args.rows.now) c.args.keys.now.entries c.args.id _ c.requires.kept (sym c.shift_remove.ensures.value ∙ c.unwrap-key.ensures)

pub returns-clause-kept : goal.returns-clause-kept
returns-clause-kept c =
    rw c.shift_remove.ensures.entries (shown-remove (slab_get c.args.rows.now) (slab_get c.remove.new.self) c.unwrap-key.result c.remove.ensures.updates.others c.args.keys.now.entries c.args.id c.requires.kept (sym c.shift_remove.ensures.value ∙ c.unwrap-key.ensures)).1

pub returns-clause-gone : goal.returns-clause-gone
returns-clause-gone c =
    ap (shown (slab_get c.remove.new.self)) c.shift_remove.ensures.entries ∙ (shown-remove (slab_get c.args.rows.now) (slab_get c.remove.new.self) c.unwrap-key.result c.remove.ensures.updates.others c.args.keys.now.entries c.args.id c.requires.kept (sym c.shift_remove.ensures.value ∙ c.unwrap-key.ensures)).0
