-- Lines in which no client says something: what is read is what the grammar says.
use Rattle.std.proofs.Common.{◌≡◌, ◌≢◌, ◌⊎◌, inl, inr, ℕ, ◌≤◌, Bool, true, false, cond, List, [], ◌∷◌, ◌++◌, codes, Option, Some, None, refl, sym, ap, subst, ◌∙◌, arith, append-nil}
use Rattle.std.specs.Prelude.{◌==◌, decimal}
use Rattle.std.specs.Str.{bytes_eq}
use Rattle.std.proofs.lemmas.Bool.Decides.{nat_tests}
use Rattle.script_lines.specs.declared.order.Order.{Order}
use Rattle.cmd_words.specs.declared.inputs.Input.{Input}
use Rattle.cmd_words.specs.declared.inputs.Input.TheVariants.{Motion, Press, Release, Key}
use Rattle.script_lines.specs.declared.order.Order.TheVariants.{Nothing, Connect, Bye, Ask, Misread, Feed, Ticks, Dirty, Pixel, Dump}
use Rattle.cmd_words.specs.Language.{Language, ◌▹◌}
use Rattle.script_lines.specs.Numbers.{IsClient, number_from, client_number}
use Rattle.script_lines.specs.Sayings.{said_by, Says}
use Rattle.script_lines.specs.Lines.{asks, ticks, x_and_y, input_line}
use Rattle.script_lines.specs.Reading.{◌>>=◌, first_some, number_at, client_at, after, parted, is_silent, word_order, tick_order, place_at, pixel_order, button_order, motion_order, key_order, connect_order, bye_order, screen_order, input_order, coming_order, plain_order}
use Rattle.script_lines.specs.Saying.{IsSaying}
use Rattle.cmd_text.proofs.Numerals.{digits-back}
use Rattle.script_lines.proofs.Numerals.{number_at-back, number_at-on, client_at-back, client_at-on, IsNumberOf, printed_client}
use Rattle.script_lines.proofs.Parting.{same_as, same_bytes, after-back, parted-back, parted-on}

-- ---- steps backwards

-- both steps had an answer
pub record BothAnswer {A B : Type 0} (first : Option A) (next : A → Option B) (answer : B) : Type 0 where
  pub middle : A
  pub before : first ≡ Some middle
  pub behind : next middle ≡ Some answer

pub both_answer : {A B : Type 0} (first : Option A) (next : A → Option B) (answer : B) → (first >>= next) ≡ Some answer → BothAnswer first next answer
both_answer (Some x) next answer e = record { middle = x; before = refl; behind = e }
both_answer None next answer e = absurd (cc)

-- each that has an answer has one of which P is true
abbrev Each : {A : Type 0} → (A → Type 0) → List (Option A) → Type 0
Each P [] = Unit {0}
Each {A} P (o ∷ others) = ((answer : A) → o ≡ Some answer → P answer) × Each P others

first_back : {A : Type 0} (P : A → Type 0) (all : List (Option A)) → Each P all → (answer : A) → first_some all ≡ Some answer → P answer
first_back P [] each answer e = absurd (cc)
first_back P (Some x ∷ others) each answer e = each.0 answer e
first_back P (None ∷ others) each answer e = first_back P others each.1 answer e

-- ---- what is read is on the grammar

as_made : (line : List ℕ) (made order : Order) → Some made ≡ Some order → asks line made → asks line order
as_made line made order e on = let same : made ≡ order = cc in subst (asks line) same on

-- a word at the front, and what is read behind it
step_back : {A : Type 0} (start : List ℕ) (reader : List ℕ → Option A) (L : Language A) (make : A → Order) → ((text : List ℕ) (value : A) → reader text ≡ Some value → L text value)
    → (line : List ℕ) → ((value : A) → ((λ front. front ≡ start) ▹ L) line value → asks line (make value)) → (order : Order) → (after start line >>= λ text. reader text >>= λ value. Some (make value)) ≡ Some order → asks line order
step_back start reader L make back line on order e =
    let text = both_answer (after start line) _ order e in
    let value = both_answer (reader text.middle) _ order text.behind in
    as_made line (make value.middle) order value.behind
    (on value.middle (record { front = start; after = text.middle; split = after-back start line text.middle text.before; word = refl; goes_on = back text.middle value.middle value.before }))

silent_back : (line : List ℕ) → is_silent line ≡ true → asks line Nothing
unfolding is_silent asks
silent_back [] e = inl refl
silent_back (first ∷ rest) e = inr (record { front = codes "#"; after = rest; split = ap (λ (k : ℕ). k ∷ rest) (same_as first 35 e); word = refl; goes_on = tt })

words_back : (line : List ℕ) (tick dirty dump : Bool) (order : Order) → (tick ≡ true → asks line (Ticks 1)) → (dirty ≡ true → asks line Dirty) → (dump ≡ true → asks line Dump) → cond tick (Some (Ticks 1)) (cond dirty (Some Dirty) (cond dump (Some Dump) None)) ≡ Some order → asks line order
words_back line true dirty dump order t d p e = as_made line (Ticks 1) order e (t refl)
words_back line false true dump order t d p e = as_made line Dirty order e (d refl)
words_back line false false true order t d p e = as_made line Dump order e (p refl)
words_back line false false false order t d p e = absurd (cc)

word_back : (line : List ℕ) (order : Order) → word_order line ≡ Some order → asks line order
unfolding word_order asks
word_back line order e =
    words_back line (bytes_eq line (codes "tick")) (bytes_eq line (codes "dirty")) (bytes_eq line (codes "dump")) order
    (λ tick. inl (record { front = codes "tick"; after = []; split = same_bytes line (codes "tick") tick; word = refl; goes_on = (refl, refl) }))
    (same_bytes line (codes "dirty"))
    (same_bytes line (codes "dump"))
    e

tick_back : (line : List ℕ) (order : Order) → tick_order line ≡ Some order → asks line order
unfolding tick_order asks
tick_back line = step_back (codes "tick ") (number_at 1 1000) (number_from 1 1000) Ticks (number_at-back 1 1000) line (λ count on. inr on)

-- the two numbers of a pixel
place_back : (text : List ℕ) (pair : ℕ × ℕ) → place_at text ≡ Some pair → x_and_y text pair
unfolding place_at
place_back text pair e =
    let sides = both_answer (parted text) _ pair e in
    let x = both_answer (number_at 0 9999 sides.middle.0) _ pair sides.behind in
    let y = both_answer (number_at 0 9999 sides.middle.1) _ pair x.behind in
    let same : (x.middle, y.middle) ≡ pair = cc in
    let found : x_and_y text (x.middle, y.middle) = record {
      front = sides.middle.0;
      after = 32 ∷ sides.middle.1;
      value = x.middle;
      split = parted-back text sides.middle sides.before;
      stands = number_at-back 0 9999 sides.middle.0 x.middle x.before;
      goes_on = record {
        front = codes " ";
        after = sides.middle.1;
        split = refl;
        word = refl;
        goes_on = record {
          front = sides.middle.1;
          after = [];
          value = y.middle;
          split = sym (append-nil sides.middle.1);
          stands = number_at-back 0 9999 sides.middle.1 y.middle y.before;
          goes_on = (refl, refl);
        };
      };
    } in
    let P : ℕ × ℕ → Type 0 = λ p. x_and_y text p in
    subst P same found

pixel_back : (line : List ℕ) (order : Order) → pixel_order line ≡ Some order → asks line order
unfolding pixel_order asks
pixel_back line = step_back (codes "pixel ") place_at x_and_y (λ place. Pixel place.0 place.1) place_back line (λ place on. on)

buttons_back : (line : List ℕ) (press release : Bool) (order : Order) → (press ≡ true → asks line (Feed Press)) → (release ≡ true → asks line (Feed Release)) → cond press (Some (Feed Press)) (cond release (Some (Feed Release)) None) ≡ Some order → asks line order
buttons_back line true release order p r e = as_made line (Feed Press) order e (p refl)
buttons_back line false true order p r e = as_made line (Feed Release) order e (r refl)
buttons_back line false false order p r e = absurd (cc)

button_back : (line : List ℕ) (order : Order) → button_order line ≡ Some order → asks line order
unfolding button_order asks
button_back line order e =
    buttons_back line (bytes_eq line (codes "press")) (bytes_eq line (codes "release")) order
    (same_bytes line (codes "press"))
    (same_bytes line (codes "release"))
    e

motion_back : (line : List ℕ) (order : Order) → motion_order line ≡ Some order → asks line order
unfolding motion_order asks
motion_back line = step_back (codes "motion ") place_at x_and_y (λ place. Feed (Motion place.0 place.1)) place_back line (λ place on. on)

key_back : (line : List ℕ) (order : Order) → key_order line ≡ Some order → asks line order
unfolding key_order asks
key_back line = step_back (codes "key ") (number_at 0 255) (number_from 0 255) (λ byte. Feed (Key byte)) (number_at-back 0 255) line (λ byte on. on)

connect_back : (line : List ℕ) (order : Order) → connect_order line ≡ Some order → asks line order
unfolding connect_order asks
connect_back line = step_back (codes "connect ") client_at client_number Connect client_at-back line (λ client on. on)

bye_back : (line : List ℕ) (order : Order) → bye_order line ≡ Some order → asks line order
unfolding bye_order asks
bye_back line = step_back (codes "bye ") client_at client_number Bye client_at-back line (λ client on. on)

screen_back : (line : List ℕ) (order : Order) → screen_order line ≡ Some order → asks line order
unfolding screen_order
screen_back line = first_back (asks line) (word_order line ∷ tick_order line ∷ pixel_order line ∷ []) (word_back line, (tick_back line, (pixel_back line, tt)))

input_back : (line : List ℕ) (order : Order) → input_order line ≡ Some order → asks line order
unfolding input_order
input_back line = first_back (asks line) (button_order line ∷ motion_order line ∷ key_order line ∷ []) (button_back line, (motion_back line, (key_back line, tt)))

coming_back : (line : List ℕ) (order : Order) → coming_order line ≡ Some order → asks line order
unfolding coming_order
coming_back line = first_back (asks line) (connect_order line ∷ bye_order line ∷ []) (connect_back line, (bye_back line, tt))

pub plain_back : (line : List ℕ) (order : Order) → plain_order line ≡ Some order → asks line order
unfolding plain_order
plain_back line order = by (is_silent line) refl
  where
    by : (quiet : Bool) → is_silent line ≡ quiet → cond quiet (Some Nothing) (first_some (screen_order line ∷ input_order line ∷ coming_order line ∷ [])) ≡ Some order → asks line order
    by true is e = as_made line Nothing order e (silent_back line is)
    by false is e = first_back (asks line) (screen_order line ∷ input_order line ∷ coming_order line ∷ []) (screen_back line, (input_back line, (coming_back line, tt))) order e

-- ---- what is on the grammar is read

nothing_on : plain_order [] ≡ Some Nothing
unfolding plain_order is_silent
nothing_on = refl

comment_on : (rest : List ℕ) → plain_order (codes "#" ++ rest) ≡ Some Nothing
unfolding plain_order is_silent
comment_on rest = refl

tick_on : plain_order (codes "tick") ≡ Some (Ticks 1)
unfolding plain_order is_silent screen_order word_order
tick_on = refl

ticks_on : (digits : List ℕ) (count : ℕ) → number_at 1 1000 digits ≡ Some count → plain_order (codes "tick " ++ digits) ≡ Some (Ticks count)
unfolding plain_order is_silent screen_order word_order tick_order after
ticks_on digits count reads = rw reads refl

dirty_on : plain_order (codes "dirty") ≡ Some Dirty
unfolding plain_order is_silent screen_order word_order
dirty_on = refl

dump_on : plain_order (codes "dump") ≡ Some Dump
unfolding plain_order is_silent screen_order word_order
dump_on = refl

place_on : (a b : List ℕ) (x y : ℕ) → parted (a ++ 32 ∷ b) ≡ Some (a, b) → number_at 0 9999 a ≡ Some x → number_at 0 9999 b ≡ Some y → place_at (a ++ 32 ∷ b) ≡ Some (x, y)
unfolding place_at
place_on a b x y parts left top = rw (parts, left, top) refl

pixel_on : (text : List ℕ) (x y : ℕ) → place_at text ≡ Some (x, y) → plain_order (codes "pixel " ++ text) ≡ Some (Pixel x y)
unfolding plain_order is_silent screen_order word_order tick_order pixel_order after
pixel_on text x y reads = rw reads refl

press_on : plain_order (codes "press") ≡ Some (Feed Press)
unfolding plain_order is_silent screen_order word_order tick_order pixel_order input_order button_order after
press_on = refl

release_on : plain_order (codes "release") ≡ Some (Feed Release)
unfolding plain_order is_silent screen_order word_order tick_order pixel_order input_order button_order after
release_on = refl

motion_on : (text : List ℕ) (x y : ℕ) → place_at text ≡ Some (x, y) → plain_order (codes "motion " ++ text) ≡ Some (Feed (Motion x y))
unfolding plain_order is_silent screen_order word_order tick_order pixel_order input_order button_order motion_order after
motion_on text x y reads = rw reads refl

key_on : (digits : List ℕ) (byte : ℕ) → number_at 0 255 digits ≡ Some byte → plain_order (codes "key " ++ digits) ≡ Some (Feed (Key byte))
unfolding plain_order is_silent screen_order word_order tick_order pixel_order input_order button_order motion_order key_order after
key_on digits byte reads = rw reads refl

connect_on : (digits : List ℕ) (client : ℕ) → client_at digits ≡ Some client → plain_order (codes "connect " ++ digits) ≡ Some (Connect client)
unfolding plain_order is_silent screen_order word_order tick_order pixel_order input_order button_order motion_order key_order coming_order connect_order after
connect_on digits client reads = rw reads refl

bye_on : (digits : List ℕ) (client : ℕ) → client_at digits ≡ Some client → plain_order (codes "bye " ++ digits) ≡ Some (Bye client)
unfolding plain_order is_silent screen_order word_order tick_order pixel_order input_order button_order motion_order key_order coming_order connect_order bye_order after
bye_on digits client reads = rw reads refl

-- ---- lines that begin with a digit

other_byte : (first byte : ℕ) → first ≢ byte → (first == byte) ≡ false
other_byte first byte e = grind (arith, nat_tests)

after-other : (first byte : ℕ) (start rest : List ℕ) → first ≢ byte → after (byte ∷ start) (first ∷ rest) ≡ None
unfolding after
after-other first byte start rest e = rw (other_byte first byte e) refl

digit_none : (first : ℕ) (rest : List ℕ) → 48 ≤ first → first ≤ 57 → plain_order (first ∷ rest) ≡ None
unfolding plain_order is_silent screen_order word_order tick_order pixel_order input_order button_order motion_order key_order coming_order connect_order bye_order
digit_none first rest l u =
    let no_t : first ≢ 116 = omega arith in
    let no_d : first ≢ 100 = omega arith in
    let no_comment : first ≢ 35 = omega arith in
    let no_p : first ≢ 112 = omega arith in
    let no_r : first ≢ 114 = omega arith in
    rw (other_byte first 35 no_comment, other_byte first 116 no_t, other_byte first 100 no_d, other_byte first 112 no_p, other_byte first 114 no_r, after-other first 116 (codes "ick ") rest no_t, after-other first 112 (codes "ixel ") rest no_p, after-other first 109 (codes "otion ") rest (omega arith), after-other first 107 (codes "ey ") rest (omega arith), after-other first 99 (codes "onnect ") rest (omega arith), after-other first 98 (codes "ye ") rest (omega arith)) refl

-- the line of a client is none of these
pub heard_none : (client : ℕ) (said : List ℕ) → IsClient client → plain_order (said_by client said) ≡ None
heard_none client said is =
    let n : IsNumberOf client (decimal client) = printed_client client is in
    ap plain_order (ap (λ ds. ds ++ 32 ∷ said) n.split) ∙ digit_none n.first (n.others ++ 32 ∷ said) n.from n.upto

pub said_none : (line : List ℕ) (client : ℕ) (said : List ℕ) → Says line client said → plain_order line ≡ None
said_none line client said says = ap plain_order says.spelled ∙ heard_none client said says.is_client

-- ---- all of them

begins : (line front start behind : List ℕ) → line ≡ front ++ behind → front ≡ start → line ≡ start ++ behind
begins line front start behind split is = split ∙ ap (λ xs. xs ++ behind) is

-- the line is read so, or its order is what a client says
abbrev pub IsRead : List ℕ → Order → Type 0
IsRead line order = (plain_order line ≡ Some order) ⊎ ((plain_order line ≡ None) × IsSaying order)

ticks_read : (line : List ℕ) (count : ℕ) → ticks line count → plain_order line ≡ Some (Ticks count)
ticks_read line count (inl one) =
    ap plain_order (begins line one.front (codes "tick") one.after one.split one.word ∙ ap (λ xs. codes "tick" ++ xs) one.goes_on.0) ∙ tick_on ∙ ap (λ (n : ℕ). Some (Ticks n)) (sym one.goes_on.1)
ticks_read line count (inr more) =
    ap plain_order (begins line more.front (codes "tick ") more.after more.split more.word) ∙ ticks_on more.after count (number_at-on 1 1000 more.after count more.goes_on)

place_read : (text : List ℕ) (x y : ℕ) → x_and_y text (x, y) → place_at text ≡ Some (x, y)
place_read text x y on =
    let space = on.goes_on in
    let second = space.goes_on in
    let left : number_at 0 9999 on.front ≡ Some on.value = number_at-on 0 9999 on.front on.value on.stands in
    let top : number_at 0 9999 second.front ≡ Some second.value = number_at-on 0 9999 second.front second.value second.stands in
    let rest : space.after ≡ second.front = second.split ∙ ap (λ xs. second.front ++ xs) second.goes_on.0 ∙ append-nil second.front in
    let behind : on.after ≡ 32 ∷ second.front = space.split ∙ ap (λ xs. xs ++ space.after) space.word ∙ ap (λ xs. codes " " ++ xs) rest in
    let whole : text ≡ on.front ++ 32 ∷ second.front = on.split ∙ ap (λ xs. on.front ++ xs) behind in
    let same : (x, y) ≡ (on.value, second.value) = second.goes_on.1 in
    ap place_at whole ∙ place_on on.front second.front on.value second.value (parted-on on.front second.front (digits-back on.front on.stands.0.0).all) left top ∙ ap (λ (p : ℕ × ℕ). Some p) (sym same)

input_read : (line : List ℕ) (input : Input) → input_line line input → plain_order line ≡ Some (Feed input)
input_read line (Motion x y) on = ap plain_order (begins line on.front (codes "motion ") on.after on.split on.word) ∙ motion_on on.after x y (place_read on.after x y on.goes_on)
input_read line Press on = ap plain_order on ∙ press_on
input_read line Release on = ap plain_order on ∙ release_on
input_read line (Key byte) on = ap plain_order (begins line on.front (codes "key ") on.after on.split on.word) ∙ key_on on.after byte (number_at-on 0 255 on.after byte on.goes_on)

pub plain_all : (line : List ℕ) (order : Order) → asks line order → IsRead line order
unfolding asks
plain_all line Nothing (inl empty) = inl (ap plain_order empty ∙ nothing_on)
plain_all line Nothing (inr comment) = inl (ap plain_order (begins line comment.front (codes "#") comment.after comment.split comment.word) ∙ comment_on comment.after)
plain_all line (Connect client) on = inl (ap plain_order (begins line on.front (codes "connect ") on.after on.split on.word) ∙ connect_on on.after client (client_at-on on.after client on.goes_on))
plain_all line (Bye client) on = inl (ap plain_order (begins line on.front (codes "bye ") on.after on.split on.word) ∙ bye_on on.after client (client_at-on on.after client on.goes_on))
plain_all line (Ask client command) on = inr (said_none line client on.0 on.1, tt)
plain_all line (Misread client place) on = inr (said_none line client on.0 on.1, tt)
plain_all line (Feed input) on = inl (input_read line input on)
plain_all line (Ticks count) on = inl (ticks_read line count on)
plain_all line Dirty on = inl (ap plain_order on ∙ dirty_on)
plain_all line (Pixel x y) on = inl (ap plain_order (begins line on.front (codes "pixel ") on.after on.split on.word) ∙ pixel_on on.after x y (place_read on.after x y on.goes_on))
plain_all line Dump on = inl (ap plain_order on ∙ dump_on)
