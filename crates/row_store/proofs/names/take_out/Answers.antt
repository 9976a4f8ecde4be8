use Rattle.std.proofs.Common.{refl, ◌∙◌}
use Rattle.row_store.proofs.UnderNames.{IsIndexed-without_row}
use Rattle.row_store.proofs.names.take_out.Goals as goal

pub returns-clause-indexed : goal.returns-clause-indexed
returns-clause-indexed c =
    rw c.remove.ensures (IsIndexed-without_row c.args.names.now c.shift_remove.new.self.entries c.args.store.now c.args.id c.row-row.result.now c.requires.indexed c.requires.own_numbers c.requires.own_names c.row-row.ensures (λ key. c.shift_remove.ensures.updates.0 key ∙ rw (c.client.ensures, c.name.ensures, c.names.view_is) refl))
