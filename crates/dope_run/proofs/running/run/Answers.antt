use Rattle.std.proofs.Common.{map, string_bytes}
use Rattle.kind_core.specs.declared.shapes.Shape.{Shape}
use Rattle.command_line.specs.declared.order.Order.TheVariants.{Play}
use Rattle.command_line.proofs.Readings.{plain_spells, spelled_orders}
use Rattle.command_line.specs.Law.{Orders}
use Rattle.dope_run.proofs.running.run.Given.{Over}
use Rattle.dope_run.proofs.running.run.Goals.{In-Err-Usage}
use Rattle.dope_run.proofs.running.run.Goals as goal

refused : (g : Over) (c : In-Err-Usage g) (shape : Shape) → Orders (map string_bytes c.args.words.now) (Play shape) → ⊥
refused g c = c.in-Err-Usage.ensures.usage c.in-Err-Usage.field-0-is

pub returns-in-Err-Usage-clause-usage : goal.returns-in-Err-Usage-clause-usage
returns-in-Err-Usage-clause-usage g c = λ is. refused g c

pub returns-in-Err-Usage-clause-plain : goal.returns-in-Err-Usage-clause-plain
returns-in-Err-Usage-clause-plain g c = λ shape plain is. let words = map string_bytes c.args.words.now in refused g c shape (spelled_orders words (Play shape) (plain_spells words (Play shape) plain))

pub returns-in-Err-Usage-clause-spelled : goal.returns-in-Err-Usage-clause-spelled
returns-in-Err-Usage-clause-spelled g c = λ shape spells is. refused g c shape (spelled_orders (map string_bytes c.args.words.now) (Play shape) spells)
