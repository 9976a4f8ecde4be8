use Rattle.std.proofs.Common.{◌≡◌, Bool, false, ◌||◌, take_all, sym, ap, ap₂, ◌∙◌, arith}
use Rattle.std.proofs.lemmas.List.Folds.{list_any_more}
use Rattle.std.specs.List.{list_any}
use Rattle.kind_core.specs.declared.kinds.Attr.{Attr}
use Rattle.kind_core.specs.declared.values.Value as value
use Rattle.widget_model.specs.Rows.{Row}
use Rattle.widget_model.specs.Widgets.{rows_of, row_at}
use Rattle.desk_moves.specs.Stays.{value_moves}
use Rattle.desk_moves.proofs.Frames.{read-there, read-of}
use Rattle.desk_moves.proofs.moving.any_moves.Goals as goal

pub loop-option-preserved : goal.loop-option-preserved
loop-option-preserved c = λ row there.
    let tests : Attr × value.Value → Bool = λ option. value_moves (rows_of c.args.tree.now) row option.0 option.1 in
    let still : tests c.option-item.result ≡ false =
    read-of (λ (r : Row). value_moves (rows_of c.args.tree.now) r c.option-item.result.0 c.option-item.result.1) c.value_moves.result (row_at c.args.tree.now.entries c.args.id.key) row c.value_moves.ensures.moves there ∙ c.if-value_moves.false in
    list_any_more tests c.args.options.now c.loop-option.option-index c.option-item.result c.loop-option-test.true
    ∙ ap₂ (λ (a b : Bool). a || b) (c.loop-option.invariant row there) (ap tests (sym c.option-item.is) ∙ still)

pub returns : goal.returns
returns c =
    read-there (λ (row : Row). list_any (λ (option : Attr × value.Value). value_moves (rows_of c.args.tree.now) row option.0 option.1) c.args.options.now) false (row_at c.args.tree.now.entries c.args.id.key) c.requires
    (λ row there.
    ap (list_any (λ (option : Attr × value.Value). value_moves (rows_of c.args.tree.now) row option.0 option.1)) (sym (take_all c.loop-option.option-index c.args.options.now (omega (arith, c.loop-option-test.false))))
    ∙ c.loop-option.invariant row there)
