use Rattle.std.proofs.Common.{◌≡◌, ℤ, true, Option, ap, sym, subst, ◌∙◌, w32, SFits, rules}
use Rattle.std.specs.Prelude.{IfSome}
use Rattle.std.specs.Option.{option_map}
use Rattle.std.proofs.lemmas.Int.{to_z-of_z}
use Rattle.kind_core.specs.declared.values.Value.TheVariants.{Number}
use Rattle.widget_model.specs.Widgets.{rows_of}
use Rattle.tree_core.specs.declared.id.Id.{Id}
use Rattle.desk_model.specs.Feeding.{with_value_at, with_number}
use Rattle.desk_model.specs.InputFacts.{takes}
use Rattle.input_core.specs.Seen.{key_seen}
use Rattle.desk_inputs.specs.Carried.{HasRows}
use Rattle.desk_inputs.proofs.GivenValues.{asked_seen}
use Rattle.desk_inputs.proofs.values.set_number.Goals as goal

pub set_value-requires-clause-taken : goal.set_value-requires-clause-taken
set_value-requires-clause-taken c =
    let w = c.args.tree.now in
    let n : SFits w32 c.in-Some.number = search rules in
    let P : Option (Id × ℤ) → Type 0 = λ o. IfSome o (λ set. takes (rows_of w) (key_seen w.entries set.0) c.args.attr (Number set.1) ≡ true) in
    let taken : takes (rows_of w) (key_seen w.entries c.in-Some.id) c.args.attr (Number c.in-Some.number) ≡ true = subst P c.in-Some.is c.requires.taken in
    ap (λ (z : ℤ). takes (rows_of w) (key_seen w.entries c.in-Some.id) c.args.attr (Number z)) (to_z-of_z w32 c.in-Some.number n) ∙ taken

pub returns-in-Some-clause-rows : goal.returns-in-Some-clause-rows
returns-in-Some-clause-rows c =
    let w = c.args.tree.now in
    let n : SFits w32 c.in-Some.number = search rules in
    let P : Option (Id × ℤ) → Type 0 = λ o. HasRows w c.set_value.new.tree (with_number c.args.attr (option_map (asked_seen w.entries) o) (rows_of w)) in
    let here : HasRows w c.set_value.new.tree (with_value_at (key_seen w.entries c.in-Some.id) c.args.attr (Number c.in-Some.number) (rows_of w)) = subst (λ (z : ℤ). HasRows w c.set_value.new.tree (with_value_at (key_seen w.entries c.in-Some.id) c.args.attr (Number z) (rows_of w))) (to_z-of_z w32 c.in-Some.number n) c.set_value.ensures.rows in
    subst P (sym c.in-Some.is) here
