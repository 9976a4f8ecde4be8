use Rattle.std.proofs.Common.{◌≡◌, Bool, false, Option, Some, None, sym, ap, ◌∙◌}
use Rattle.std.specs.List.{list_any}
use Rattle.std.specs.Option.{option_map, option_map_or}
use Rattle.kind_core.specs.declared.kinds.Attr.{Attr}
use Rattle.kind_core.specs.declared.values.Value as value
use Rattle.widget_model.specs.Rows.{Row}
use Rattle.widget_model.specs.Widgets.{rows_of, row_at}
use Rattle.widget_model.proofs.Naming.{row_named-found, row_named-none}
use Rattle.desk_moves.specs.Stays.{value_moves}
use Rattle.desk_moves.proofs.moving.set_moves.Goals as goal

answered : (test : Row → Bool) (o : Option Row) (b : Bool) → option_map test o ≡ Some b → b ≡ option_map_or test o false
answered test None b h = absurd (cc)
answered test (Some row) b h = let same : test row ≡ b = cc in sym same

pub returns-in-Some : goal.returns-in-Some
returns-in-Some c =
    let w = c.args.tree.now in
    let test : Row → Bool = λ row. list_any (λ (option : Attr × value.Value). value_moves (rows_of w) row option.0 option.1) c.args.options.now in
    answered test (row_at w.entries c.in-Some.id.key) c.any_moves.result c.any_moves.ensures
    ∙ sym (ap (λ (o : Option Row). option_map_or test o false) (row_named-found w.entries c.args.client c.args.name.now c.in-Some.id.key c.in-Some.ensures.valid.numbered.own_numbers (sym c.in-Some.ensures.found)))

pub returns-in-None : goal.returns-in-None
returns-in-None c =
    let w = c.args.tree.now in
    let test : Row → Bool = λ row. list_any (λ (option : Attr × value.Value). value_moves (rows_of w) row option.0 option.1) c.args.options.now in
    sym (ap (λ (o : Option Row). option_map_or test o false) (row_named-none w.entries c.args.client c.args.name.now (sym c.in-None.ensures.found)))
