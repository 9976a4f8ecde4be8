-- A line asks for at most one thing, and whether it asks for something is told of each.
use Rattle.std.proofs.Common.{◌≡◌, ◌⊎◌, inl, inr, ℕ, ◌≤◌, ◌<◌, lit≤, List, [], ◌∷◌, Option, Some, None, refl, sym, ap, ◌∙◌, arith}
use Rattle.std.specs.Prelude.{IfSome}
use Rattle.cmd_text.proofs.Places.{each_line_is_told as command_or_place}
use Rattle.script_lines.specs.declared.order.Order.{Order}
use Rattle.script_lines.specs.declared.order.Order.TheVariants.{Nothing, Connect, Bye, Ask, Misread, Feed, Ticks, Dirty, Pixel, Dump}
use Rattle.desk_model.specs.Commands.{payload_size}
use Rattle.script_lines.specs.Suits.{Suits}
use Rattle.script_lines.specs.Sayings.{said_by, frame_limit}
use Rattle.script_lines.specs.Payloads.{payload_of}
use Rattle.script_lines.specs.Lines.{asks, ticks, IsOff}
use Rattle.script_lines.specs.Reading.{plain_order, said_at}
use Rattle.script_lines.specs.Saying.{IsSaying, saying}
use Rattle.script_lines.specs.Laws.{OneOrder, EachLineIsTold, CommentsAskForNothing, CommandsAreAsked, OthersAreMisread, AskedWasSaid, MisreadWasSaid, IsBadFrameLine, BadFrameLinesAreOff, OnePayload, PayloadsAreSmall}
use Rattle.script_lines.proofs.PlainLines.{IsRead, plain_back, plain_all, heard_none}
use Rattle.script_lines.proofs.SaidLines.{said_at-said, said_at-on, said_at-back, one_saying, saying-asks, asks-saying, asks-this, asks-none, told}

-- ---- what suits

ticks-suit : (line : List ℕ) (count : ℕ) → ticks line count → (1 ≤ count) × (count ≤ 1000)
ticks-suit line count (inl one) = let is : count ≡ 1 = one.goes_on.1 in (omega arith, omega arith)
ticks-suit line count (inr more) = (more.goes_on.1, more.goes_on.2)

pub asks-suits : (line : List ℕ) (order : Order) → asks line order → Suits order
unfolding asks
asks-suits line Nothing on = tt
asks-suits line (Connect client) on = on.goes_on.1
asks-suits line (Bye client) on = on.goes_on.1
asks-suits line (Ask client command) on = (on.1.is_client, on.1.sayable.few command on.2)
asks-suits line (Misread client place) on = on.1.is_client
asks-suits line (Feed input) on = tt
asks-suits line (Ticks count) on = ticks-suit line count on
asks-suits line Dirty on = tt
asks-suits line (Pixel x y) on = tt
asks-suits line Dump on = tt

pub found-suits : (line : List ℕ) (result : Option Order) → IfSome result (asks line) → IfSome result Suits
found-suits line None found = tt
found-suits line (Some order) found = asks-suits line order found

-- ---- one order

one_read : (line : List ℕ) (a b : Order) → asks line a → asks line b → IsRead line a → IsRead line b → a ≡ b
one_read line a b p q (inl x) (inl y) = let same : Some a ≡ Some b = sym x ∙ y in cc
one_read line a b p q (inl x) (inr y) = absurd (let none : plain_order line ≡ None = y.0 in cc)
one_read line a b p q (inr x) (inl y) = absurd (let none : plain_order line ≡ None = x.0 in cc)
one_read line a b p q (inr x) (inr y) =
    let h = asks-saying line a x.1 p in
    one_saying h.client h.said a b h.gives (asks-this line h.client h.said b (said_at-on line h.client h.said h.says) y.1 q)

pub one_order : OneOrder
one_order line a b p q = one_read line a b p q (plain_all line a p) (plain_all line b q)

-- what is read is all that the line asks for
pub plain_alone : (line : List ℕ) (made : Order) → plain_order line ≡ Some made → (order : Order) → asks line order → Some made ≡ Some order
plain_alone line made e order on = ap (λ (o : Order). Some o) (one_order line made order (plain_back line made e) on)

-- what a client says in it is
pub said_alone : (line : List ℕ) (result : Option Order) → plain_order line ≡ None → ((order : Order) → IsSaying order → asks line order → result ≡ Some order) → (order : Order) → asks line order → result ≡ Some order
said_alone line result none all order on = elim (plain_all line order on) [ inl x ↦ absurd (let some : plain_order line ≡ Some order = x in cc) | inr y ↦ all order y.1 on ]

-- ---- told apart

-- all that a line asks for is what a client says in it
abbrev Unsaid : List ℕ → Type 0
Unsaid line = (order : Order) → IsSaying order → ¬ asks line order

off : (line : List ℕ) → plain_order line ≡ None → Unsaid line → IsOff line
off line none unsaid order on = elim (plain_all line order on) [ inl x ↦ (cc) | inr y ↦ unsaid order y.1 on ]

pub each_line_is_told : EachLineIsTold
each_line_is_told line = by (plain_order line) refl
  where
    heard : plain_order line ≡ None → (read : Option (ℕ × List ℕ)) → said_at line ≡ read → ((order : Order) × asks line order) ⊎ IsOff line
    heard none None at = inr (off line none (λ order is on. asks-none line order at is on))
    heard none (Some (client, said)) at = elim (told client said) [
      | inl g ↦ inl (g.0, saying-asks line client said g.0 (said_at-back line client said at) g.1)
      | inr n ↦ inr (off line none (λ order is on. n order (asks-this line client said order at is on)))
    ]

    by : (read : Option Order) → plain_order line ≡ read → ((order : Order) × asks line order) ⊎ IsOff line
    by (Some order) e = inl (order, plain_back line order e)
    by None e = heard e (said_at line) refl

-- ---- the other laws

pub comments_ask_for_nothing : CommentsAskForNothing
unfolding asks
comments_ask_for_nothing = record { empty = inl refl; comment = λ words. inr (record { front = 35 ∷ []; after = words; split = refl; word = refl; goes_on = tt }) }

pub commands_are_asked : CommandsAreAsked
unfolding asks
commands_are_asked client said command is sayable on = (said, record { is_client = is; spelled = refl; sayable = sayable }, on)

pub others_are_misread : OthersAreMisread
unfolding asks
others_are_misread client said is sayable none = elim (command_or_place said) [
  | inl on ↦ absurd (none on.0 on.1)
  | inr place ↦ record { place = place.0; order = (said, record { is_client = is; spelled = refl; sayable = sayable }, place.1); is_place = place.1.place }
]

pub asked_was_said : AskedWasSaid
unfolding asks
asked_was_said line client command on = record { said = on.0; is_line = on.1.spelled; sayable = on.1.sayable; stands = on.2 }

pub misread_was_said : MisreadWasSaid
unfolding asks
misread_was_said line client place on = record { said = on.0; is_line = on.1.spelled; sayable = on.1.sayable; none = on.2.none; is_place = on.2.place }

-- ---- raw bytes

pub one_payload : OnePayload
one_payload line first second p q = ap payload_of (one_order line first second p q)

pub payloads_are_small : PayloadsAreSmall
payloads_are_small line Nothing on = lit≤ tt
payloads_are_small line (Connect client) on = lit≤ tt
payloads_are_small line (Bye client) on = lit≤ tt
payloads_are_small line (Ask client command) on = (asks-suits line (Ask client command) on).1
payloads_are_small line (Misread client place) on = lit≤ tt
payloads_are_small line (Feed input) on = lit≤ tt
payloads_are_small line (Ticks count) on = lit≤ tt
payloads_are_small line Dirty on = lit≤ tt
payloads_are_small line (Pixel x y) on = lit≤ tt
payloads_are_small line Dump on = lit≤ tt

-- a bad frame line asks for nothing
not_said : (client : ℕ) (said : List ℕ) (order : Order) → IsBadFrameLine said → saying client said order → ⊥
not_said client said order bad (inl p) = (let few : payload_size p.0 ≤ frame_limit = p.2.few p.0 p.3 in let many : frame_limit < payload_size p.0 = bad.large p.0 p.3 in omega arith)
not_said client said order bad (inr q) = (let is = q.2.framed bad.frame in q.3.none is.0 is.1)

pub bad_frame_lines_are_off : BadFrameLinesAreOff
bad_frame_lines_are_off client said is bad order on = by (plain_all (said_by client said) order on)
  where
    by : IsRead (said_by client said) order → ⊥
    by (inl read) = (let none : plain_order (said_by client said) ≡ None = heard_none client said is in cc)
    by (inr heard) = not_said client said order bad (asks-this (said_by client said) client said order (said_at-said client said is) heard.1 on)
