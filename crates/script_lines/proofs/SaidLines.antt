-- Lines in which a client says something.
use Rattle.std.proofs.Common.{◌≡◌, ◌⊎◌, inl, inr, ℕ, ◌≤◌, ◌<◌, Bool, true, false, List, ◌∷◌, ◌++◌, length, Option, Some, None, refl, sym, ap, subst, ◌∙◌, arith, leb}
use Rattle.std.specs.Prelude.{decimal, IfSome}
use Rattle.std.proofs.lemmas.Bool.Decides.{nat_tests}
use Rattle.cmd_words.specs.declared.commands.Command.{Command}
use Rattle.cmd_words.specs.Grammar.{command_line, IsPlace}
use Rattle.cmd_text.specs.FrameLine.{IsFrameLine}
use Rattle.cmd_text.specs.Misread.{IsMisread}
use Rattle.cmd_text.proofs.Lines.{one_command}
use Rattle.cmd_text.proofs.Places.{each_line_is_told, one_place}
use Rattle.cmd_text.proofs.FrameFronts.{frame_lines_are_told}
use Rattle.desk_model.specs.Commands.{payload_size}
use Rattle.script_lines.specs.declared.order.Order.{Order}
use Rattle.script_lines.specs.declared.order.Order.TheVariants.{Nothing, Connect, Bye, Ask, Misread, Feed, Ticks, Dirty, Pixel, Dump}
use Rattle.script_lines.specs.Numbers.{IsClient}
use Rattle.script_lines.specs.Sayings.{said_by, command_limit, frame_limit, IsSayable, Says}
use Rattle.script_lines.specs.Lines.{asks}
use Rattle.script_lines.specs.Reading.{client_at, parted, said_at}
use Rattle.script_lines.specs.Saying.{IsSaying, saying}
use Rattle.script_lines.proofs.Numerals.{client_at-back, IsNumberOf, printed_client}
use Rattle.script_lines.proofs.Parting.{parted-back, parted-on}
use Rattle.script_lines.proofs.PlainLines.{both_answer}

-- ---- the client and what it says

pub said_at-said : (client : ℕ) (said : List ℕ) → IsClient client → said_at (said_by client said) ≡ Some (client, said)
unfolding said_at
said_at-said client said is =
    let n : IsNumberOf client (decimal client) = printed_client client is in
    rw (parted-on (decimal client) said n.all, n.reads) refl

pub said_at-on : (line : List ℕ) (client : ℕ) (said : List ℕ) → Says line client said → said_at line ≡ Some (client, said)
said_at-on line client said says = ap said_at says.spelled ∙ said_at-said client said says.is_client

-- the line is one in which this client says this
abbrev pub IsHeard : List ℕ → ℕ → List ℕ → Type 0
IsHeard line client said = (line ≡ said_by client said) × IsClient client

pub said_at-back : (line : List ℕ) (client : ℕ) (said : List ℕ) → said_at line ≡ Some (client, said) → IsHeard line client said
unfolding said_at
said_at-back line client said e =
    let parts = both_answer (parted line) _ (client, said) e in
    let who = both_answer (client_at parts.middle.0) _ (client, said) parts.behind in
    let same : (who.middle, parts.middle.1) ≡ (client, said) = cc in
    let read = client_at-back parts.middle.0 who.middle who.before in
    let P : ℕ × List ℕ → Type 0 = λ p. IsHeard line p.0 p.1 in
    subst P same (parted-back line parts.middle parts.before ∙ ap (λ ds. ds ++ 32 ∷ parts.middle.1) read.0, read.1)

-- ---- what is said

-- what a client says asks for one thing
pub one_saying : (client : ℕ) (said : List ℕ) (a b : Order) → saying client said a → saying client said b → a ≡ b
one_saying client said a b (inl p) (inl q) = p.1 ∙ ap (λ c. Ask client c) (one_command said p.0 q.0 p.3 q.3) ∙ sym q.1
one_saying client said a b (inl p) (inr q) = absurd (q.3.none p.0 p.3)
one_saying client said a b (inr p) (inl q) = absurd (p.3.none q.0 q.3)
one_saying client said a b (inr p) (inr q) = p.1 ∙ ap (λ (n : ℕ). Misread client n) (one_place said p.0 q.0 p.3.place q.3.place) ∙ sym q.1

-- where it says no command, it is misread at its place
pub misread_alone : (client : ℕ) (said : List ℕ) (place : ℕ) → ((command : Command) → ¬ command_line said command) → IsPlace said place → (order : Order) → saying client said order → Some (Misread client place) ≡ Some order
misread_alone client said place none at order (inl p) = absurd (none p.0 p.3)
misread_alone client said place none at order (inr q) = ap (λ (n : ℕ). Some (Misread client n)) (one_place said place q.0 at q.3.place) ∙ ap (λ (o : Order). Some o) (sym q.1)

-- a command may be said where not too many bytes come with it, and what is no command where it is no frame line
pub command_sayable : (said : List ℕ) (command : Command) → length said ≤ command_limit → command_line said command → payload_size command ≤ frame_limit → IsSayable said
command_sayable said command short on few = record {
  short = short;
  framed = λ frame. (command, on);
  few = λ other is. subst (λ c. payload_size c ≤ frame_limit) (one_command said command other on is) few;
}

pub misread_sayable : (said : List ℕ) (place : ℕ) → length said ≤ command_limit → IsMisread said place → ¬ IsFrameLine said → IsSayable said
misread_sayable said place short off no_frame = record {
  short = short;
  framed = λ frame. absurd (no_frame frame);
  few = λ other is. absurd (off.none other is);
}

-- the command is all that is asked for by saying it
pub command_alone : (client : ℕ) (said : List ℕ) (command : Command) → command_line said command → (order : Order) → saying client said order → Some (Ask client command) ≡ Some order
command_alone client said command on order (inl p) = ap (λ c. Some (Ask client c)) (one_command said command p.0 on p.3) ∙ ap (λ (o : Order). Some o) (sym p.1)
command_alone client said command on order (inr q) = absurd (q.3.none command on)

-- too many bytes, a bad frame line: nothing is asked for
pub too_many_none : (client : ℕ) (said : List ℕ) (command : Command) → command_line said command → frame_limit < payload_size command → (order : Order) → saying client said order → ⊥
too_many_none client said command on many order (inl p) = (let few : payload_size command ≤ frame_limit = p.2.few command on in omega arith)
too_many_none client said command on many order (inr q) = q.3.none command on

pub bad_frame_none : (client : ℕ) (said : List ℕ) (place : ℕ) → IsMisread said place → IsFrameLine said → (order : Order) → saying client said order → ⊥
bad_frame_none client said place off frame order (inl p) = off.none p.0 p.3
bad_frame_none client said place off frame order (inr q) = (let is = q.2.framed frame in off.none is.0 is.1)

pub saying-sayable : (client : ℕ) (said : List ℕ) (order : Order) → saying client said order → IsSayable said
saying-sayable client said order (inl p) = p.2
saying-sayable client said order (inr q) = q.2

-- what a client asks for by what it says is what its line asks for
pub saying-asks : (line : List ℕ) (client : ℕ) (said : List ℕ) (order : Order) → IsHeard line client said → saying client said order → asks line order
unfolding asks
saying-asks line client said order heard (inl p) =
    let says : Says line client said = record { is_client = heard.1; spelled = heard.0; sayable = p.2 } in
    subst (asks line) (sym p.1) (said, says, p.3)
saying-asks line client said order heard (inr q) =
    let says : Says line client said = record { is_client = heard.1; spelled = heard.0; sayable = q.2 } in
    subst (asks line) (sym q.1) (said, says, q.3)

pub found-asks : (line : List ℕ) (client : ℕ) (said : List ℕ) (result : Option Order) → IsHeard line client said → IfSome result (saying client said) → IfSome result (asks line)
found-asks line client said None heard found = tt
found-asks line client said (Some order) heard found = saying-asks line client said order heard found

-- and the other way round
pub record WhatIsSaid (line : List ℕ) (order : Order) : Type 0 where
  pub client : ℕ
  pub said : List ℕ
  pub says : Says line client said
  pub gives : saying client said order

pub asks-saying : (line : List ℕ) (order : Order) → IsSaying order → asks line order → WhatIsSaid line order
unfolding asks
asks-saying line Nothing is on = absurd is
asks-saying line (Connect client) is on = absurd is
asks-saying line (Bye client) is on = absurd is
asks-saying line (Ask client command) is on = record { client = client; said = on.0; says = on.1; gives = inl (command, refl, on.1.sayable, on.2) }
asks-saying line (Misread client place) is on = record { client = client; said = on.0; says = on.1; gives = inr (place, refl, on.1.sayable, on.2) }
asks-saying line (Feed input) is on = absurd is
asks-saying line (Ticks count) is on = absurd is
asks-saying line Dirty is on = absurd is
asks-saying line (Pixel x y) is on = absurd is
asks-saying line Dump is on = absurd is

-- where a client is known to say this
pub asks-this : (line : List ℕ) (client : ℕ) (said : List ℕ) (order : Order) → said_at line ≡ Some (client, said) → IsSaying order → asks line order → saying client said order
asks-this line client said order at is on =
    let h : WhatIsSaid line order = asks-saying line order is on in
    let same : (h.client, h.said) ≡ (client, said) = cc (said_at-on line h.client h.said h.says, at) in
    let P : ℕ × List ℕ → Type 0 = λ p. saying p.0 p.1 order in
    subst P same h.gives

pub asks-none : (line : List ℕ) (order : Order) → said_at line ≡ None → IsSaying order → asks line order → ⊥
asks-none line order at is on =
    let h : WhatIsSaid line order = asks-saying line order is on in
    let here : said_at line ≡ Some (h.client, h.said) = said_at-on line h.client h.said h.says in
    cc

-- ---- what a client says is told apart

abbrev IsTold : ℕ → List ℕ → Type 0
IsTold client said = ((order : Order) × saying client said order) ⊎ ((order : Order) → ¬ saying client said order)

not_sayable : (client : ℕ) (said : List ℕ) → ((order : Order) → saying client said order → ⊥) → IsTold client said
not_sayable client said none = inr none

told_command : (client : ℕ) (said : List ℕ) (command : Command) → length said ≤ command_limit → command_line said command → (few : Bool) → leb (payload_size command) frame_limit ≡ few → IsTold client said
told_command client said command short on true is =
    let few : payload_size command ≤ frame_limit = grind (arith, nat_tests) in
    inl (Ask client command, inl (command, refl, command_sayable said command short on few, on))
told_command client said command short on false is =
    let many : frame_limit < payload_size command = grind (arith, nat_tests) in
    not_sayable client said (too_many_none client said command on many)

told_misread : (client : ℕ) (said : List ℕ) (place : ℕ) → length said ≤ command_limit → IsMisread said place → IsFrameLine said ⊎ (¬ IsFrameLine said) → IsTold client said
told_misread client said place short off (inl frame) = not_sayable client said (bad_frame_none client said place off frame)
told_misread client said place short off (inr no_frame) = inl (Misread client place, inr (place, refl, misread_sayable said place short off no_frame, off))

told_short : (client : ℕ) (said : List ℕ) → length said ≤ command_limit → IsTold client said
told_short client said short = elim (each_line_is_told said) [
  | inl on ↦ told_command client said on.0 short on.1 (leb (payload_size on.0) frame_limit) refl
  | inr off ↦ told_misread client said off.0 short off.1 (frame_lines_are_told said)
]

pub told : (client : ℕ) (said : List ℕ) → IsTold client said
told client said = by (leb (length said) command_limit) refl
  where
    by : (short : Bool) → leb (length said) command_limit ≡ short → IsTold client said
    by false is = not_sayable client said (λ order s. let few : length said ≤ command_limit = (saying-sayable client said order s).short in grind (arith, nat_tests))
    by true is = told_short client said (let short : length said ≤ command_limit = grind (arith, nat_tests) in short)
