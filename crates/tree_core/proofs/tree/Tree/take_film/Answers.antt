use Rattle.std.proofs.Common.{None}
use Rattle.tree_core.proofs.TreeKept.{live_row, live_edited, film_whole, IsTree-film}
use Rattle.tree_core.proofs.tree.Tree.take_film.Goals as goal

pub invariant_of-self : goal.invariant_of-self
invariant_of-self c =
    let found = live_row c.self.view_is c.args.id.key c.requires in
    rw c.swap_film.ensures.film (IsTree-film c.self.invariant c.args.id.key found.0 found.1 None tt)

pub returns-clause-valid : goal.returns-clause-valid
returns-clause-valid c =
    let found = live_row c.self.view_is c.args.id.key c.requires in
    rw c.swap_film.ensures.film (IsTree-film c.self.invariant c.args.id.key found.0 found.1 None tt).widgets

pub returns-clause-kept : goal.returns-clause-kept
returns-clause-kept c = λ other live. rw c.swap_film.ensures.film (live_edited c.self.view_is c.args.id.key _ other live)

pub returns-clause-whole : goal.returns-clause-whole
returns-clause-whole c = film_whole c.self.invariant c.args.id.key c.swap_film.result c.swap_film.ensures.was
