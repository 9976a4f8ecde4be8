-- The numbers of what is ordered are in their ranges.
use Rattle.std.proofs.Common.{◌≡◌, ℕ, Bool, true, false, cond, List, [], ◌∷◌, Some, None, refl, subst, bytes_eq, codes, option_map, nat_le, leb-true}
use Rattle.clap.specs.Words.{Text, first_of, subcommand_of}
use Rattle.kind_core.specs.declared.shapes.Shape.{Shape}
use Rattle.scene_model.specs.Shapes.{IsShape}
use Rattle.command_line.specs.declared.order.Order.{Order}
use Rattle.command_line.specs.declared.order.Order.TheVariants.{Play, Gen, Serve, Stream, View, Record, Check, Render}
use Rattle.command_line.specs.Table.{Verb, dope_verbs, gen_options, render_options, serve_options, shape_options, verb_named}
use Rattle.command_line.specs.Program.{program}
use Rattle.command_line.specs.Matched.{Called, called, called_in, numbers_from}
use Rattle.command_line.specs.Plain.{AreWithin}
use Rattle.command_line.specs.Orders.{IsOrder, order_of, ordered, shape_of}
use Rattle.command_line.specs.Law.{OrdersAreWithin}
use Rattle.command_line.proofs.Tests.{chained_some, mapped_some, none_some, some_same}
use Rattle.command_line.proofs.Plains.{are_within}

shape_within : (ns : List ℕ) → AreWithin shape_options ns → (shape : Shape) → shape_of ns ≡ Some shape → IsShape shape
shape_within [] within shape e = absurd within
shape_within (w ∷ []) within shape e = absurd within.2
shape_within (w ∷ h ∷ []) within shape e = absurd within.2.2
shape_within (w ∷ h ∷ b ∷ []) within shape e = absurd within.2.2.2
shape_within (w ∷ h ∷ b ∷ s ∷ []) within shape e = go (nat_le s b) refl e
  where
    go : (t : Bool) → nat_le s b ≡ t → cond t (Some (record { width = w; height = h; budget = b; spare = s })) None ≡ Some shape → IsShape shape
    go false is f = absurd (none_some shape f)
    go true is f =
        let made : Shape = record { width = w; height = h; budget = b; spare = s } in
        let whole : IsShape made = record {
          width_least = within.0;
          width_most = within.1;
          height_least = within.2.0;
          height_most = within.2.1;
          budget_least = within.2.2.0;
          budget_most = within.2.2.1;
          spare_least = within.2.2.2.0;
          spare_most = leb-true s b is;
        } in
        subst (λ x. IsShape x) (some_same made shape f) whole
shape_within (w ∷ h ∷ b ∷ s ∷ n ∷ ns) within shape e = absurd within.2.2.2.2

-- what a command orders with numbers in the ranges of its options
abbrev OrdersWithin : Verb → Type 0
OrdersWithin v = (ns : List ℕ) → AreWithin v.options ns → (order : Order) → order_of (record { name = v.name; numbers = ns }) ≡ Some order → IsOrder order

play_within : OrdersWithin (record { name = codes "play"; options = shape_options })
play_within ns within order e = mapped_some (λ s. Play s) (shape_of ns) order (λ s is same. subst (λ o. IsOrder o) same (shape_within ns within s is)) e

stream_within : OrdersWithin (record { name = codes "stream"; options = shape_options })
stream_within ns within order e = mapped_some (λ s. Stream s) (shape_of ns) order (λ s is same. subst (λ o. IsOrder o) same (shape_within ns within s is)) e

record_within : OrdersWithin (record { name = codes "record"; options = shape_options })
record_within ns within order e = mapped_some (λ s. Record s) (shape_of ns) order (λ s is same. subst (λ o. IsOrder o) same (shape_within ns within s is)) e

view_within : OrdersWithin (record { name = codes "view"; options = [] })
view_within ns within order e = subst (λ o. IsOrder o) (some_same View order e) tt

check_within : OrdersWithin (record { name = codes "check"; options = [] })
check_within ns within order e = subst (λ o. IsOrder o) (some_same Check order e) tt

gen_within : OrdersWithin (record { name = codes "gen"; options = gen_options })
gen_within [] within order e = absurd within
gen_within (n ∷ []) within order e = absurd within.2
gen_within (n ∷ r ∷ []) within order e =
    let whole : IsOrder (Gen n r) = (within.1, within.2.1) in
    subst (λ o. IsOrder o) (some_same (Gen n r) order e) whole
gen_within (n ∷ r ∷ x ∷ xs) within order e = absurd within.2.2

serve_within : OrdersWithin (record { name = codes "serve"; options = serve_options })
serve_within [] within order e = absurd within
serve_within (p ∷ []) within order e = absurd within.2
serve_within (p ∷ k ∷ rest) within order e = mapped_some (λ s. Serve p k s) (shape_of rest) order (λ s is same.
    let whole : IsOrder (Serve p k s) = (within.0, within.1, within.2.0, within.2.1, shape_within rest within.2.2 s is) in
    subst (λ o. IsOrder o) same whole) e

render_within : OrdersWithin (record { name = codes "render"; options = render_options })
render_within [] within order e = absurd within
render_within (k ∷ rest) within order e = mapped_some (λ s. Render k s) (shape_of rest) order (λ s is same.
    let whole : IsOrder (Render k s) = (within.0, within.1, shape_within rest within.2 s is) in
    subst (λ o. IsOrder o) same whole) e

-- ---- of each command of the table

abbrev Each : (Verb → Type 0) → List Verb → Type 0
Each P [] = Unit {0}
Each P (v ∷ vs) = P v × Each P vs

found_one : (P : Verb → Type 0) (verbs : List Verb) (word : Text) (v : Verb) → verb_named verbs word ≡ Some v → Each P verbs → P v
found_one P [] word v e each = absurd (none_some v e)
found_one P (x ∷ xs) word v e each = go (λ h. found_one P xs word v h each.1) (bytes_eq x.name word) e
  where
    go : (verb_named xs word ≡ Some v → P v) → (t : Bool) → cond t (Some x) (verb_named xs word) ≡ Some v → P v
    go ih true h = subst (λ y. P y) (some_same x v h) each.0
    go ih false h = ih h

each_within : Each OrdersWithin dope_verbs
each_within = (play_within, (gen_within, (serve_within, (stream_within, (view_within, (record_within, (check_within, (render_within, tt))))))))

call_within : (words : List Text) (call : Called) → called dope_verbs words ≡ Some call → (order : Order) → order_of call ≡ Some order → IsOrder order
call_within words call e =
    chained_some (called_in dope_verbs) (subcommand_of (program dope_verbs) words) call (λ met is more.
    chained_some (λ (v : Verb). option_map (λ ns. record { name = v.name; numbers = ns }) (numbers_from (λ name. first_of name met.1) v.options)) (verb_named dope_verbs met.0) call (λ v named rest.
    mapped_some (λ ns. record { name = v.name; numbers = ns }) (numbers_from (λ name. first_of name met.1) v.options) call (λ ns had same.
    let within = are_within (λ name. first_of name met.1) v.options ns had in
    subst (λ (c : Called). (order : Order) → order_of c ≡ Some order → IsOrder order) same (found_one OrdersWithin dope_verbs met.0 v named each_within ns within)) rest) more) e

pub ordered_within : (words : List Text) (order : Order) → ordered words ≡ Some order → IsOrder order
ordered_within words order e = chained_some order_of (called dope_verbs words) order (λ call is more. call_within words call is order more) e

pub orders_within : OrdersAreWithin
orders_within words order orders = ordered_within words order orders.1
