use Rattle.std.proofs.Common.{◌≡◌, length, rules, ap}
use Rattle.std.specs.Vec.{with_items}
use Rattle.std.proofs.lemmas.List.{with_items_is}
use Rattle.geom_core.specs.Rect.{in_rect}
use Rattle.redraw_core.proofs.OverflowLemmas.{IsWithin-from_enclosed, pixels_erased}
use Rattle.redraw_core.proofs.overflow.Overflow.erase.Goals as goal

pub erase_rows-requires-clause-within : goal.erase_rows-requires-clause-within
erase_rows-requires-clause-within c =
    let old = c.self.inside in
    IsWithin-from_enclosed c.args.self.now old.width old.height (length c.deref_mut.result.now) old.cells.items c.args.rect c.self.view_is c.requires c.self.invariant.valid.size (ap length c.deref_mut.ensures.value)

pub returns-clause-pixels : goal.returns-clause-pixels
returns-clause-pixels c =
    let old = c.self.inside in
    let new = c.erase_rows.new.cells in
    let same : (with_items old.cells new).items ≡ new = with_items_is old.cells new (search rules) in
    let m = rw c.deref_mut.ensures.value at c.erase_rows.ensures in
    pixels_erased c.args.self.now old.width old.height c.erase_rows.result old.cells.items new (with_items old.cells new).items (in_rect c.args.rect) c.self.view_is same c.self.invariant.valid.size m
