use Rattle.std.proofs.Common.{◌≡◌, ◌∙◌, [], inr, ap, map, rules, string_bytes, subst, sym, Some, None, option_and_then}
use Rattle.clap.specs.Words.{fault_of}
use Rattle.command_line.specs.declared.unread.Unread.TheVariants.{NoMemory}
use Rattle.command_line.specs.Table.{dope_verbs}
use Rattle.command_line.specs.Program.{AreTaken, program}
use Rattle.command_line.specs.Rows.{verb_of}
use Rattle.command_line.specs.Matched.{Called, called}
use Rattle.command_line.specs.Orders.{order_of, ordered}
use Rattle.command_line.proofs.Readings.{OnlyMemory, plain_spells, spelled_memory, spelled_same, spelled_orders, usage_refuses}
use Rattle.command_line.proofs.Ranges.{ordered_within}
use Rattle.command_line.proofs.Tests.{none_some}
use Rattle.command_line.proofs.reading.read.Goals.{In-Err, In-Some, In-None}
use Rattle.command_line.proofs.reading.read.Goals as goal

only_memory : (c : In-Err) → OnlyMemory (map string_bytes c.args.words.now) c.in-Err.error
only_memory c =
    let table : map verb_of c.as_slice.result.now ≡ dope_verbs = search rules in
    let words = map string_bytes c.args.words.now in
    subst (λ verbs. AreTaken verbs words → (call : Called) → called verbs words ≡ Some call → c.in-Err.error ≡ NoMemory) table c.in-Err.ensures.err

pub returns-in-Err-clause-plain : goal.returns-in-Err-clause-plain
returns-in-Err-clause-plain c = λ order plain. spelled_memory (map string_bytes c.args.words.now) order c.in-Err.error (only_memory c) (plain_spells (map string_bytes c.args.words.now) order plain)

pub returns-in-Err-clause-spelled : goal.returns-in-Err-clause-spelled
returns-in-Err-clause-spelled c = λ order spells. spelled_memory (map string_bytes c.args.words.now) order c.in-Err.error (only_memory c) spells

pub returns-in-Err-clause-usage : goal.returns-in-Err-clause-usage
returns-in-Err-clause-usage c = usage_refuses (map string_bytes c.args.words.now) c.in-Err.error (only_memory c)

-- ---- an order

is_ordered : (c : In-Some) → ordered (map string_bytes c.args.words.now) ≡ Some c.in-Some.order
is_ordered c =
    let table : map verb_of c.as_slice.result.now ≡ dope_verbs = search rules in
    let words = map string_bytes c.args.words.now in
    ap (option_and_then order_of) (ap (λ verbs. called verbs words) (sym table) ∙ c.in-Ok.ensures.ok) ∙ sym c.in-Some.ensures

pub returns-in-Some-clause-ordered : goal.returns-in-Some-clause-ordered
returns-in-Some-clause-ordered c =
    let table : map verb_of c.as_slice.result.now ≡ dope_verbs = search rules in
    (inr (subst (λ verbs. fault_of (program verbs) (map string_bytes c.args.words.now) ≡ []) table c.in-Ok.ensures.faultless), is_ordered c)

pub returns-in-Some-clause-plain : goal.returns-in-Some-clause-plain
returns-in-Some-clause-plain c = λ order plain. let words = map string_bytes c.args.words.now in spelled_same words order c.in-Some.order (is_ordered c) (plain_spells words order plain)

pub returns-in-Some-clause-spelled : goal.returns-in-Some-clause-spelled
returns-in-Some-clause-spelled c = λ order spells. spelled_same (map string_bytes c.args.words.now) order c.in-Some.order (is_ordered c) spells

pub returns-in-Some-clause-within : goal.returns-in-Some-clause-within
returns-in-Some-clause-within c = ordered_within (map string_bytes c.args.words.now) c.in-Some.order (is_ordered c)

-- ---- no order

not_ordered : (c : In-None) → ordered (map string_bytes c.args.words.now) ≡ None
not_ordered c =
    let table : map verb_of c.as_slice.result.now ≡ dope_verbs = search rules in
    let words = map string_bytes c.args.words.now in
    ap (option_and_then order_of) (ap (λ verbs. called verbs words) (sym table) ∙ c.in-Ok.ensures.ok) ∙ sym c.in-None.ensures

pub returns-in-None-clause-plain : goal.returns-in-None-clause-plain
returns-in-None-clause-plain c = λ order plain. let words = map string_bytes c.args.words.now in
    absurd (none_some order (sym (not_ordered c) ∙ (spelled_orders words order (plain_spells words order plain)).1))

pub returns-in-None-clause-spelled : goal.returns-in-None-clause-spelled
returns-in-None-clause-spelled c = λ order spells. absurd (none_some order (sym (not_ordered c) ∙ (spelled_orders (map string_bytes c.args.words.now) order spells).1))

pub returns-in-None-clause-usage : goal.returns-in-None-clause-usage
returns-in-None-clause-usage c = λ is order orders. none_some order (sym (not_ordered c) ∙ orders.1)
