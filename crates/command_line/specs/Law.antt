-- The reading law: which words order what.
use Rattle.std.specs.Prelude.{◌≡◌, List, Some}
use Rattle.clap.specs.Words.{Text}
use Rattle.command_line.specs.declared.order.Order.{Order}
use Rattle.command_line.specs.Table.{dope_verbs}
use Rattle.command_line.specs.Program.{AreTaken}
use Rattle.command_line.specs.Matched.{Called}
use Rattle.command_line.specs.Given.{IsCall}
use Rattle.command_line.specs.Plain.{IsPlain}
use Rattle.command_line.specs.Orders.{IsOrder, order_of, ordered}

-- The words are the plain form of the order.
pub record SpellsPlainly (words : List Text) (order : Order) : Type 0 where
  pub call : Called
  pub plain : IsPlain dope_verbs words call
  pub is : order_of call ≡ Some order

-- The words are the order's command with each of its options once, in any order.
pub record Spells (words : List Text) (order : Order) : Type 0 where
  pub call : Called
  pub given : IsCall dope_verbs words call
  pub is : order_of call ≡ Some order

-- Words order this: `clap` takes them for the program's command, and its matches are this order.
abbrev pub Orders : List Text → Order → Type 0
Orders words order = AreTaken dope_verbs words × (ordered words ≡ Some order)

-- ---- laws

-- The plain form gives each option once.
abbrev pub PlainFormsSpell : Type 0
PlainFormsSpell = (words : List Text) (order : Order) → SpellsPlainly words order → Spells words order

-- A command with each of its options once orders what it spells.
abbrev pub SpelledWordsOrder : Type 0
SpelledWordsOrder = (words : List Text) (order : Order) → Spells words order → Orders words order

-- The numbers of what is ordered are in their ranges.
abbrev pub OrdersAreWithin : Type 0
OrdersAreWithin = (words : List Text) (order : Order) → Orders words order → IsOrder order
