use Rattle.std.proofs.Common.{◌∙◌, sym, arith}
use Rattle.kind_core.specs.declared.kinds.Kind.TheVariants.{Button, Entry}
use Rattle.scene_core.proofs.OwnSizes.{own_small}
use Rattle.scene_core.proofs.own.own_size.Goals as goal

pub overflow_cast-result-in-Button : goal.overflow_cast-result-in-Button
overflow_cast-result-in-Button c = let small = own_small c.args.tree.now c.args.id.key Button c.requires.valid c.requires.live (sym c.in-Button.is ∙ c.requires.kind) in omega (arith, small.width, c.text_length.ensures)

pub overflow_mul-result-in-Button : goal.overflow_mul-result-in-Button
overflow_mul-result-in-Button c = let small = own_small c.args.tree.now c.args.id.key Button c.requires.valid c.requires.live (sym c.in-Button.is ∙ c.requires.kind) in omega (arith, small.width, c.text_length.ensures)

pub overflow_add-result-in-Button : goal.overflow_add-result-in-Button
overflow_add-result-in-Button c = let small = own_small c.args.tree.now c.args.id.key Button c.requires.valid c.requires.live (sym c.in-Button.is ∙ c.requires.kind) in omega (arith, small.width, c.text_length.ensures)

pub overflow_mul-result-in-Entry : goal.overflow_mul-result-in-Entry
overflow_mul-result-in-Entry c = let small = own_small c.args.tree.now c.args.id.key Entry c.requires.valid c.requires.live (sym c.in-Entry.is ∙ c.requires.kind) in omega (arith, small.width, c.count_of.ensures)

pub overflow_add-result-in-Entry : goal.overflow_add-result-in-Entry
overflow_add-result-in-Entry c = let small = own_small c.args.tree.now c.args.id.key Entry c.requires.valid c.requires.live (sym c.in-Entry.is ∙ c.requires.kind) in omega (arith, small.width, c.count_of.ensures)
