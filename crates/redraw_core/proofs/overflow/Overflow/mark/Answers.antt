use Rattle.std.proofs.Common.{◌≡◌, length, rules, ap}
use Rattle.std.specs.Vec.{with_items}
use Rattle.std.proofs.lemmas.List.{with_items_is}
use Rattle.geom_core.specs.Rect.{in_rect}
use Rattle.redraw_core.proofs.OverflowLemmas.{IsWithin-from_enclosed, pixels_marked, IsOverflow-mark}
use Rattle.redraw_core.proofs.overflow.Overflow.mark.Goals as goal

pub mark_rows-requires-clause-within : goal.mark_rows-requires-clause-within
mark_rows-requires-clause-within c =
    let old = c.self.inside in
    IsWithin-from_enclosed c.args.self.now old.width old.height (length c.deref_mut.result.now) old.cells.items c.args.rect c.self.view_is c.requires c.self.invariant.valid.size (ap length c.deref_mut.ensures.value)

pub invariant_of-self : goal.invariant_of-self
invariant_of-self c =
    let old = c.self.inside in
    let new = c.mark_rows.new.cells in
    let same : (with_items old.cells new).items ≡ new = with_items_is old.cells new (search rules) in
    let m = rw c.deref_mut.ensures.value at c.mark_rows.ensures in
    let within = IsWithin-from_enclosed c.args.self.now old.width old.height (length old.cells.items) old.cells.items c.args.rect c.self.view_is c.requires c.self.invariant.valid.size (search rules) in
    rw c.min-self-inside.ensures (IsOverflow-mark old.width old.height old.count old.first c.mark_rows.result c.corner_of-y.result.1 old.cells.items new (with_items old.cells new).items c.args.rect _ c.self.invariant within m same c.corner_of-y.ensures.row)

pub returns-clause-pixels : goal.returns-clause-pixels
returns-clause-pixels c =
    let old = c.self.inside in
    let new = c.mark_rows.new.cells in
    let same : (with_items old.cells new).items ≡ new = with_items_is old.cells new (search rules) in
    let m = rw c.deref_mut.ensures.value at c.mark_rows.ensures in
    pixels_marked c.args.self.now old.width old.height c.mark_rows.result old.cells.items new (with_items old.cells new).items (in_rect c.args.rect) c.self.view_is same c.self.invariant.valid.size m
