use Rattle.std.proofs.Common.{rules, ◌≡◌, ◌<◌, ◌+◌, ◌-◌, ℕ, suc, Some, is_some, sym, ap, ◌∙◌, subst, arith}
use Rattle.std.specs.Option.{option_map}
use Rattle.widget_model.specs.Rows.{Row}
use Rattle.widget_model.specs.Trees.{height_in}
use Rattle.widget_model.specs.Widgets.{rows_in}
use Rattle.tree_core.specs.Children.{cells_of}
use Rattle.tree_core.proofs.Downward.{IsGreatest, cell-child, IsGreatest-empty, IsGreatest-child, IsGreatest-height, ord_max-nat}
use Rattle.tree_core.proofs.going_down.+height_in.Goals as goal
use Rattle.tree_core.proofs.going_down.+height_in.Goals.{in-Some, in-None}

pub height_in-requires : goal.height_in-requires
height_in-requires t c =
    let less : c.loop-index.index < 256 = omega (arith, c.cells_of-index-end.ensures.within) in
    let child = cell-child c.args.store.now c.args.cells.now c.args.id c.loop-index.index c.in-Some.child c.row.result.now c.requires.grove c.requires.children c.row.ensures less (sym c.nth.ensures ∙ c.in-Some.is) in
    (search rules, (c.requires.grove, (c.requires.children, ap is_some child.lower_there)))

pub loop-index-preserved : goal.loop-index-preserved
loop-index-preserved t c =
    let less : c.loop-index.index < 256 = omega (arith, c.cells_of-index-end.ensures.within) in
    let G : ℕ → Type 0 = λ n. IsGreatest c.args.store.now c.args.cells.now (c.args.most - 1) c.args.id (c.loop-index.index + 1) n in
    elim c.match-nth.branch [
      | in-Some w ↦ subst G (sym (w.greatest-is ∙ w.max-greatest.ensures ∙ ord_max-nat c.loop-index.greatest w.height_in.result)) (IsGreatest-child c.args.store.now c.args.cells.now (c.args.most - 1) c.args.id c.loop-index.index c.loop-index.greatest c.loop-index.invariant w.in-Some.child w.height_in.result c.requires.grove c.requires.children less (sym c.nth.ensures ∙ w.in-Some.is) w.height_in.ensures.height w.height_in.ensures.within)
      | in-None w ↦ subst G (sym w.greatest-is) (IsGreatest-empty c.args.store.now c.args.cells.now (c.args.most - 1) c.args.id c.loop-index.index c.loop-index.greatest c.loop-index.invariant (sym c.nth.ensures ∙ w.in-None.is))
    ]

pub returns-clause-height : goal.returns-clause-height
returns-clause-height t c =
    let count : c.loop-index.index ≡ cells_of c.row.result.now.kind = omega (arith, c.cells_of-index-end.ensures.count ∙ ap cells_of c.kind.ensures) in
    let I : ℕ → Type 0 = λ n. IsGreatest c.args.store.now c.args.cells.now (c.args.most - 1) c.args.id n c.loop-index.greatest in
    let all : I (cells_of c.row.result.now.kind) = subst I count c.loop-index.invariant in
    let most : suc (c.args.most - 1) ≡ c.args.most = omega arith in
    let one : height_in c.args.most (rows_in c.args.store.now) c.row.result.now.client c.row.result.now.name ≡ 1 + c.loop-index.greatest = ap (λ (n : ℕ). height_in n (rows_in c.args.store.now) c.row.result.now.client c.row.result.now.name) (sym most) ∙ IsGreatest-height c.args.store.now c.args.cells.now (c.args.most - 1) c.args.id c.loop-index.greatest c.row.result.now c.requires.grove c.requires.children c.row.ensures all in
    ap (option_map (λ (row : Row). height_in c.args.most (rows_in c.args.store.now) row.client row.name)) c.row.ensures ∙ ap Some one
