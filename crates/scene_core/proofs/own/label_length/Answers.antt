use Rattle.std.proofs.Common.{◌≡◌, ◌∙◌, ◌+◌, sym, ap, arith, rules, w32, length, ℤ}
use Rattle.std.proofs.lemmas.Int.{to_z-of_z}
use Rattle.std.specs.Fmt.{signed_decimal}
use Rattle.widget_model.specs.Widgets.{rows_of}
use Rattle.scene_model.specs.Values.{label_of}
use Rattle.scene_core.specs.Children.{row_for}
use Rattle.scene_core.proofs.OwnSizes.{label_parts, label_plain, label_small}
use Rattle.scene_core.proofs.own.label_length.Goals as goal

shown : (c : goal.After-digits) → c.text_length-own.result + c.digits.result ≡ length (label_of (rows_of c.args.tree.now) (row_for c.args.tree.now c.args.id.key))
shown c = label_parts (rows_of c.args.tree.now) (row_for c.args.tree.now c.args.id.key) c.text_length-own.result c.digits.result c.in-Some.value
    (sym c.in-Some.ensures) c.text_length-own.ensures (c.digits.ensures.count ∙ ap (λ (z : ℤ). length (signed_decimal z)) (to_z-of_z w32 c.in-Some.value (search rules)))

pub overflow_add-result : goal.overflow_add-result
overflow_add-result c = omega (arith, shown c, label_small c.args.tree.now c.args.id.key c.requires.valid c.requires.live)

pub returns-in-Some-clause-count : goal.returns-in-Some-clause-count
returns-in-Some-clause-count c = shown c

pub returns-in-Some-clause-few : goal.returns-in-Some-clause-few
returns-in-Some-clause-few c = omega (arith, shown c, label_small c.args.tree.now c.args.id.key c.requires.valid c.requires.live)

pub returns-in-None-clause-few : goal.returns-in-None-clause-few
returns-in-None-clause-few c = omega (
  arith,
  label_plain (rows_of c.args.tree.now) (row_for c.args.tree.now c.args.id.key) c.text_length-own.result (sym c.in-None.ensures) c.text_length-own.ensures,
  label_small c.args.tree.now c.args.id.key c.requires.valid c.requires.live,
)
