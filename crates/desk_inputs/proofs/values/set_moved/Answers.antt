use Rattle.std.proofs.Common.{◌≡◌, ℤ, true, Option, Some, ap, sym, subst, ◌∙◌, w32, SFits, to_z, of_z, rules}
use Rattle.std.specs.Prelude.{IfSome}
use Rattle.std.specs.Option.{option_map}
use Rattle.std.proofs.lemmas.Int.{to_z-of_z}
use Rattle.kind_core.specs.declared.kinds.Attr.TheVariants.{X, Y}
use Rattle.kind_core.specs.declared.values.Value.TheVariants.{Number}
use Rattle.widget_model.specs.Widgets.{Widgets, rows_of}
use Rattle.tree_core.specs.declared.id.Id.{Id}
use Rattle.desk_model.specs.Feeding.{with_value_at, with_moved}
use Rattle.desk_model.specs.InputFacts.{takes}
use Rattle.input_core.specs.Seen.{key_seen}
use Rattle.desk_inputs.specs.Carried.{HasRows}
use Rattle.desk_inputs.proofs.GivenValues.{moved_seen}
use Rattle.desk_inputs.proofs.values.set_moved.Goals as goal

-- the Window takes the x and the y that are asked for
taken-at : (w : Widgets) (o : Option (Id × ℤ × ℤ)) (id : Id) (x y : ℤ) → o ≡ Some (id, x, y) → IfSome o (λ set. (takes (rows_of w) (key_seen w.entries set.0) X (Number set.1) ≡ true) × (takes (rows_of w) (key_seen w.entries set.0) Y (Number set.2) ≡ true)) → (takes (rows_of w) (key_seen w.entries id) X (Number x) ≡ true) × (takes (rows_of w) (key_seen w.entries id) Y (Number y) ≡ true)
taken-at w o id x y is taken =
    let P : Option (Id × ℤ × ℤ) → Type 0 = λ o. IfSome o (λ set. (takes (rows_of w) (key_seen w.entries set.0) X (Number set.1) ≡ true) × (takes (rows_of w) (key_seen w.entries set.0) Y (Number set.2) ≡ true)) in
    subst P is taken

pub move_to-requires-clause-x : goal.move_to-requires-clause-x
move_to-requires-clause-x c =
    let w = c.args.tree.now in
    let n : SFits w32 c.in-Some.x = search rules in
    ap (λ (z : ℤ). takes (rows_of w) (key_seen w.entries c.in-Some.id) X (Number z)) (to_z-of_z w32 c.in-Some.x n) ∙ (taken-at w c.args.asked c.in-Some.id c.in-Some.x c.in-Some.y c.in-Some.is c.requires.taken).0

pub move_to-requires-clause-y : goal.move_to-requires-clause-y
move_to-requires-clause-y c =
    let w = c.args.tree.now in
    let n : SFits w32 c.in-Some.y = search rules in
    ap (λ (z : ℤ). takes (rows_of w) (key_seen w.entries c.in-Some.id) Y (Number z)) (to_z-of_z w32 c.in-Some.y n) ∙ (taken-at w c.args.asked c.in-Some.id c.in-Some.x c.in-Some.y c.in-Some.is c.requires.taken).1

pub returns-in-Some-clause-rows : goal.returns-in-Some-clause-rows
returns-in-Some-clause-rows c =
    let w = c.args.tree.now in
    let key = key_seen w.entries c.in-Some.id in
    let m : SFits w32 c.in-Some.x = search rules in
    let n : SFits w32 c.in-Some.y = search rules in
    let P : Option (Id × ℤ × ℤ) → Type 0 = λ o. HasRows w c.move_to.new.tree (with_moved (option_map (moved_seen w.entries) o) (rows_of w)) in
    let at_x : HasRows w c.move_to.new.tree (with_value_at key Y (Number (to_z w32 (of_z w32 c.in-Some.y))) (with_value_at key X (Number c.in-Some.x) (rows_of w))) =
    subst (λ (z : ℤ). HasRows w c.move_to.new.tree (with_value_at key Y (Number (to_z w32 (of_z w32 c.in-Some.y))) (with_value_at key X (Number z) (rows_of w)))) (to_z-of_z w32 c.in-Some.x m) c.move_to.ensures.rows in
    let here : HasRows w c.move_to.new.tree (with_value_at key Y (Number c.in-Some.y) (with_value_at key X (Number c.in-Some.x) (rows_of w))) =
    subst (λ (z : ℤ). HasRows w c.move_to.new.tree (with_value_at key Y (Number z) (with_value_at key X (Number c.in-Some.x) (rows_of w)))) (to_z-of_z w32 c.in-Some.y n) at_x in
    subst P (sym c.in-Some.is) here
