use Rattle.std.proofs.Common.{ℕ, ℤ, List, ap, ap₂, ◌∙◌, w32, to_z, of_z, subst}
use Rattle.std.proofs.lemmas.Int.{to_z-of_z}
use Rattle.kind_core.specs.declared.kinds.Attr.TheVariants.{X, Y}
use Rattle.kind_core.specs.declared.values.Value.TheVariants.{Number}
use Rattle.widget_model.specs.Rows.{Row}
use Rattle.widget_model.specs.Widgets.{rows_of}
use Rattle.desk_model.specs.Feeding.{with_value_at}
use Rattle.desk_model.specs.InputFacts.{takes}
use Rattle.input_core.specs.Seen.{key_seen}
use Rattle.desk_inputs.specs.Carried.{HasRows}
use Rattle.desk_inputs.proofs.GivenValues.{HasRows-then, live-kept, taken-kept, key_seen-kept}
use Rattle.desk_inputs.proofs.values.move_to.Goals as goal

pub set_value-requires-2-clause-live : goal.set_value-requires-2-clause-live
set_value-requires-2-clause-live c = live-kept c.args.tree.now.entries c.set_value.new.tree.entries c.args.id.key c.set_value.ensures.rows.nodes c.requires.live

pub set_value-requires-2-clause-taken : goal.set_value-requires-2-clause-taken
set_value-requires-2-clause-taken c =
    let w = c.set_value.new.tree in
    ap (λ (z : ℤ). takes (rows_of w) (key_seen w.entries c.args.id) Y (Number z)) (to_z-of_z w32 c.args.y c.ranges.y) ∙ taken-kept c.args.tree.now w c.args.id Y (Number c.args.y) c.requires.valid c.set_value.ensures.valid c.requires.live c.set_value.ensures.rows.nodes c.requires.y

pub returns-clause-rows : goal.returns-clause-rows
returns-clause-rows c =
    let w = c.args.tree.now in
    let a = c.set_value.new.tree in
    let id = c.args.id in
    let at_x : ℤ → List Row = λ x. with_value_at (key_seen w.entries id) X (Number x) (rows_of w) in
    let at_y : ℕ × List ℕ → ℤ → List Row → List Row = λ key y rows. with_value_at key Y (Number y) rows in
    let one : HasRows w a (at_x c.args.x) = subst (λ (x : ℤ). HasRows w a (at_x x)) (to_z-of_z w32 c.args.x c.ranges.x) c.set_value.ensures.rows in
    HasRows-then w a c.set_value-2.new.tree (at_x c.args.x) (at_y (key_seen w.entries id) c.args.y) (at_y (key_seen a.entries id) (to_z w32 (of_z w32 c.args.y)) (rows_of a)) one c.set_value-2.ensures.rows
    (ap₂ (λ (key : ℕ × List ℕ) (y : ℤ). at_y key y (rows_of a)) (key_seen-kept w.entries a.entries id c.set_value.ensures.rows.nodes) (to_z-of_z w32 c.args.y c.ranges.y))
