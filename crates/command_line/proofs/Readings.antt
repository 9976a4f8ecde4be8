-- The laws of words, and what follows from them where words aren't read.
use Rattle.std.proofs.Common.{◌≡◌, ◌∙◌, List, Some, None, Option, inl, refl, sym, ap, option_and_then}
use Rattle.clap.specs.Words.{Text}
use Rattle.command_line.specs.declared.order.Order.{Order}
use Rattle.command_line.specs.declared.unread.Unread.{Unread}
use Rattle.command_line.specs.declared.unread.Unread.TheVariants.{Usage, NoMemory}
use Rattle.command_line.specs.Table.{dope_verbs}
use Rattle.command_line.specs.Program.{AreTaken}
use Rattle.command_line.specs.Matched.{Called, called}
use Rattle.command_line.specs.Orders.{order_of, ordered}
use Rattle.command_line.specs.Law.{Orders, PlainFormsSpell, SpelledWordsOrder, Spells}
use Rattle.command_line.proofs.Tests.{none_some, some_same}
use Rattle.command_line.proofs.Taken.{call_matched, call_taken}
use Rattle.command_line.proofs.Plains.{plain_given}

pub plain_spells : PlainFormsSpell
plain_spells words order p = record { call = p.call; given = plain_given dope_verbs words p.call refl p.plain; is = p.is }

pub spelled_orders : SpelledWordsOrder
spelled_orders words order s = (
  inl (call_taken dope_verbs words s.call refl s.given),
  ap (option_and_then order_of) (call_matched dope_verbs words s.call refl s.given) ∙ s.is,
)

-- words that are taken, and whose matches are a call, aren't read only without memory
abbrev pub OnlyMemory : List Text → Unread → Type 0
OnlyMemory words e = AreTaken dope_verbs words → (call : Called) → called dope_verbs words ≡ Some call → e ≡ NoMemory

pub spelled_memory : (words : List Text) (order : Order) (e : Unread) → OnlyMemory words e → Spells words order → e ≡ NoMemory
spelled_memory words order e only s = only (spelled_orders words order s).0 s.call (call_matched dope_verbs words s.call refl s.given)

other : Usage ≡ NoMemory → ⊥
other e = cc

pub usage_refuses : (words : List Text) (e : Unread) → OnlyMemory words e → e ≡ Usage → (order : Order) → Orders words order → ⊥
usage_refuses words e only is order orders = go (called dope_verbs words) refl orders.1
  where
    go : (o : Option Called) → called dope_verbs words ≡ o → option_and_then order_of o ≡ Some order → ⊥
    go None has f = none_some order f
    go (Some call) has f = other (sym is ∙ only orders.0 call has)

pub spelled_same : (words : List Text) (order read : Order) → ordered words ≡ Some read → Spells words order → read ≡ order
spelled_same words order read is s = some_same read order (sym is ∙ (spelled_orders words order s).1)
