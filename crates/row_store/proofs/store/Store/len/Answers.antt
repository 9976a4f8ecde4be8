use Rattle.std.proofs.Common.{length, sym, ap, ◌∙◌}
use Rattle.slab.specs.Slab.{get as slab_get}
use Rattle.row_store.proofs.ShownLemmas.{length-shown}
use Rattle.row_store.proofs.store.Store.len.Goals as goal

pub returns : goal.returns
returns c = c.len.ensures.len ∙ sym (length-shown (slab_get c.self.inside.rows) c.self.inside.keys.entries c.self.invariant) ∙ ap length c.self.view_is
