-- Reading of a whole line.
use Rattle.std.proofs.Common.{◌≡◌, ℕ, ℤ, Bool, true, false, cond, ◌&&◌, ◌==◌, List, [], ◌∷◌, codes, Result, Ok, Err, refl, sym, ap, subst, ◌∙◌, inl, inr}
use Rattle.std.specs.Str.{bytes_eq}
use Rattle.std.proofs.lemmas.Slice.Eq.{bytes_eq-Decides}
use Rattle.std.proofs.lemmas.Bool.{false≢true}
use Rattle.kind_core.specs.Bytes.{is_digit, is_name, is_name_byte}
use Rattle.kind_core.specs.declared.kinds.Kind.{Kind}
use Rattle.kind_core.specs.declared.kinds.Attr.{Attr}
use Rattle.kind_core.specs.declared.kinds.EventKind.{EventKind}
use Rattle.kind_core.specs.declared.values.Value as value_type
use Rattle.cmd_words.specs.declared.commands.PlaceOption.{PlaceOption}
use Rattle.cmd_words.specs.declared.commands.ConfigOption.{ConfigOption}
use Rattle.cmd_words.specs.declared.commands.Command.{Command}
use Rattle.cmd_words.specs.declared.commands.Command.TheVariants.{New, Set, Get, Place, Lift, ColumnConfig, RowConfig, Link, Unlink, Bind, Unbind, OpenWindow, CloseWindow, TopWindow, Mode, Admit, Leave, SendFrame, DropWidget, Poll}
use Rattle.cmd_words.specs.declared.methods.Method.{Method}
use Rattle.cmd_words.specs.declared.methods.Method.TheVariants as method
use Rattle.cmd_words.specs.Words.{kind_word, attr_word, event_word, place_word, config_word}
use Rattle.cmd_words.specs.Language.{Language, ◌▹◌, ◌▸◌, ◌⊕◌, any, only, stands_for, word}
use Rattle.cmd_words.specs.Productions.{is_space, sp, sp1, name, number, count, kind, attr, event, place_option, config_option, value, sopt, popt, copt, options}
use Rattle.cmd_words.specs.Grammar.{opens, closes, empty, comma, call, body, command_line}
use Rattle.cmd_text.specs.Reading.{◌>>=◌, expect_at, skip_at, skip_some_at, begins_with, name_at, number_at}
use Rattle.cmd_text.specs.ReadingWords.{all_methods, all_kinds, all_attrs, all_events, all_place_options, all_config_options, kind_at, attr_at, event_at, place_option_at, config_option_at, method_at}
use Rattle.cmd_text.specs.ReadingOptions.{value_at, sopt_at, popt_at, copt_at, options_at}
use Rattle.cmd_text.specs.ReadingLines.{open_at, comma_at, nothing_at, end_at, finish_at, close_at, place_rest_at, arguments_at, called_at, made_at, body_at, line_at}
use Rattle.cmd_words.specs.Words.{method_word}
use Rattle.cmd_text.proofs.Settling.{Settles, Reads, Within, Same, Apart, stop, reads_same}
use Rattle.cmd_text.proofs.Joins.{same_sym, same_then, same_with, then_or}
use Rattle.cmd_text.proofs.Parts.{Lit, lit_reads, lit_apart, lit_begins, or_reads, or_apart, sp_reads, sp_apart, sp1_reads, name_reads, name_apart, count_reads, count_apart, number_reads, number_apart}
use Rattle.cmd_text.proofs.Texts.{value_reads, value_apart}
use Rattle.cmd_text.proofs.Picks.{pick_reads, pick_apart}
use Rattle.cmd_text.proofs.WordTables.{method_words, kind_words, attr_words, event_words, place_words, config_words}
use Rattle.cmd_text.proofs.OptionLists.{IsReader, IsListed, option_of, option_reads, option_begins, option_apart, options_reads, options_apart}

-- what follows a command
abbrev pub ending : Command → Language Command
ending c = sp ▹ stands_for c

-- ---- the end of a line

module _ {C : Type 0} where
  pub nothing_apart : (test : ℕ → Bool) (c : C) → Apart test (stands_for c)
  nothing_apart test c x t xs d h = let e : x ∷ xs ≡ [] = h.0 in cc

  nothing_settles : (c : C) (xs : List ℕ) → Settles (stands_for c) xs (nothing_at c xs)
  nothing_settles c [] = ((refl, refl), λ d h. h.1)
  nothing_settles c (x ∷ xs) = stop x (stands_for c) ([], c, (refl, refl)) (λ ys d h. let e : x ∷ ys ≡ [] = h.0 in cc) xs

  pub nothing_reads : (c : C) → Reads (stands_for c) (nothing_at c)
  nothing_reads c = record { live = ([], c, (refl, refl)); settles = nothing_settles c }

  pub ending_reads : (c : C) → Reads (sp ▹ stands_for c) (end_at c)
  unfolding end_at
  ending_reads c = sp_reads (stands_for c) (nothing_at c) (nothing_apart is_space c) (nothing_reads c)

-- `)` and the end
abbrev pub finishing : Command → Language Command
finishing c = word ")" ▹ ending c

finish_reads : (c : Command) → Reads (finishing c) (finish_at c)
unfolding finish_at
finish_reads c = lit_reads (codes ")") (ending c) (end_at c) (ending_reads c)

finish_apart : (test : ℕ → Bool) (c : Command) → test 41 ≡ false → Apart test (finishing c)
finish_apart test c e = lit_apart test 41 [] (ending c) e

close_reads : (c : Command) → Reads (closes (ending c)) (close_at c)
unfolding close_at
close_reads c = sp_reads (finishing c) (finish_at c) (finish_apart is_space c refl) (finish_reads c)

close_apart : (test : ℕ → Bool) (c : Command) → test 32 ≡ false → test 41 ≡ false → Apart test (closes (ending c))
close_apart test c e f = sp_apart test (finishing c) e (finish_apart test c f)

skipped : (r : Result (List ℕ) ℕ) (f : List ℕ → Result Command ℕ) → ((r >>= λ rest. Ok (skip_at rest)) >>= f) ≡ (r >>= λ rest. f (skip_at rest))
skipped (Ok x) f = refl
skipped (Err e) f = refl

open_reads : (K : Language Command) (f : List ℕ → Result Command ℕ) → Apart is_space K → Reads K f → Reads (opens K) (λ xs. open_at xs >>= f)
unfolding open_at
open_reads K f a r =
    let g : List ℕ → Result Command ℕ = λ xs. f (skip_at xs) in
    let l : Reads (opens K) (λ xs. expect_at (codes "(") (skip_at xs) >>= g) =
    sp_reads (word "(" ▹ sp ▹ K) (λ xs. expect_at (codes "(") xs >>= g) (lit_apart is_space 40 [] (sp ▹ K) refl) (lit_reads (codes "(") (sp ▹ K) g (sp_reads K f a r)) in
    record { live = l.live; settles = λ xs. let P : Result Command ℕ → Type 0 = λ z. Settles (opens K) xs z in subst P (sym (skipped (expect_at (codes "(") (skip_at xs)) f)) (l.settles xs) }

comma_reads : (K : Language Command) (f : List ℕ → Result Command ℕ) → Apart is_space K → Reads K f → Reads (comma K) (λ xs. comma_at xs >>= f)
unfolding comma_at
comma_reads K f a r =
    let g : List ℕ → Result Command ℕ = λ xs. f (skip_at xs) in
    let l : Reads (comma K) (λ xs. expect_at (codes ",") (skip_at xs) >>= g) =
    sp_reads (word "," ▹ sp ▹ K) (λ xs. expect_at (codes ",") xs >>= g) (lit_apart is_space 44 [] (sp ▹ K) refl) (lit_reads (codes ",") (sp ▹ K) g (sp_reads K f a r)) in
    record { live = l.live; settles = λ xs. let P : Result Command ℕ → Type 0 = λ z. Settles (comma K) xs z in subst P (sym (skipped (expect_at (codes ",") (skip_at xs)) f)) (l.settles xs) }

comma_apart : (test : ℕ → Bool) (K : Language Command) → test 32 ≡ false → test 44 ≡ false → Apart test (comma K)
comma_apart test K e f = sp_apart test (word "," ▹ sp ▹ K) e (lit_apart test 44 [] (sp ▹ K) f)

-- ---- words

kind_reads : (K : Kind → Language Command) (f : Kind → List ℕ → Result Command ℕ) → ((k : Kind) → Reads (K k) (f k)) → Reads (kind ▸ K) (λ xs. kind_at xs >>= λ k. f k.0 k.1)
unfolding kind_at
kind_reads K f r = pick_reads kind_word all_kinds kind_words K f r

attr_reads : (K : Attr → Language Command) (f : Attr → List ℕ → Result Command ℕ) → ((a : Attr) → Reads (K a) (f a)) → Reads (attr ▸ K) (λ xs. attr_at xs >>= λ a. f a.0 a.1)
unfolding attr_at
attr_reads K f r = pick_reads attr_word all_attrs attr_words K f r

event_reads : (K : EventKind → Language Command) (f : EventKind → List ℕ → Result Command ℕ) → ((e : EventKind) → Reads (K e) (f e)) → Reads (event ▸ K) (λ xs. event_at xs >>= λ e. f e.0 e.1)
unfolding event_at
event_reads K f r = pick_reads event_word all_events event_words K f r

place_option_reads : (K : PlaceOption → Language Command) (f : PlaceOption → List ℕ → Result Command ℕ) → ((a : PlaceOption) → Reads (K a) (f a)) → Reads (place_option ▸ K) (λ xs. place_option_at xs >>= λ a. f a.0 a.1)
unfolding place_option_at
place_option_reads K f r = pick_reads place_word all_place_options place_words K f r

config_option_reads : (K : ConfigOption → Language Command) (f : ConfigOption → List ℕ → Result Command ℕ) → ((a : ConfigOption) → Reads (K a) (f a)) → Reads (config_option ▸ K) (λ xs. config_option_at xs >>= λ a. f a.0 a.1)
unfolding config_option_at
config_option_reads K f r = pick_reads config_word all_config_options config_words K f r

method_reads : (K : Method → Language Command) (f : Method → List ℕ → Result Command ℕ) → ((m : Method) → Reads (K m) (f m)) → Reads ((λ u m. u ≡ method_word m) ▸ K) (λ xs. method_at xs >>= λ m. f m.0 m.1)
unfolding method_at
method_reads K f r = pick_reads method_word all_methods method_words K f r

-- ---- options

sopt_reads : IsReader (Attr × value_type.Value) Command sopt sopt_at is_digit
unfolding sopt_at
sopt_reads = option_reads attr attr_at value value_at attr_reads value_reads value_apart

popt_reads : IsReader (PlaceOption × ℤ) Command popt popt_at is_digit
unfolding popt_at
popt_reads = option_reads place_option place_option_at number number_at place_option_reads number_reads number_apart

copt_reads : IsReader (ConfigOption × ℤ) Command copt copt_at is_digit
unfolding copt_at
copt_reads = option_reads config_option config_option_at number number_at config_option_reads number_reads number_apart

-- options, `)` and the end
listed : {A V : Type 0} (P : Language A) (Q : Language V) (make : List (A × V) → Command) → IsListed (option_of P Q) (λ os. finishing (make os))
listed P Q make = record {
  begins = option_begins P Q;
  solid = option_apart P Q;
  no_space = λ os. finish_apart is_space (make os) refl;
  no_dash = λ os. finish_apart (λ b. b == 45) (make os) refl;
  no_digit = λ os. finish_apart is_digit (make os) refl;
}

set_options : (make : List (Attr × value_type.Value) → Command) → Reads (options sopt (λ os. closes (ending (make os)))) (λ xs. options_at sopt_at xs >>= λ os. finish_at (make os.0) os.1)
set_options make = options_reads sopt sopt_at sopt_reads (λ os. finishing (make os)) (listed attr value make) (λ os. finish_at (make os)) (λ os. finish_reads (make os))

place_options : (make : List (PlaceOption × ℤ) → Command) → Reads (options popt (λ os. closes (ending (make os)))) (λ xs. options_at popt_at xs >>= λ os. finish_at (make os.0) os.1)
place_options make = options_reads popt popt_at popt_reads (λ os. finishing (make os)) (listed place_option number make) (λ os. finish_at (make os)) (λ os. finish_reads (make os))

config_options : (make : List (ConfigOption × ℤ) → Command) → Reads (options copt (λ os. closes (ending (make os)))) (λ xs. options_at copt_at xs >>= λ os. finish_at (make os.0) os.1)
config_options make = options_reads copt copt_at copt_reads (λ os. finishing (make os)) (listed config_option number make) (λ os. finish_at (make os)) (λ os. finish_reads (make os))

-- an index, a comma and options
config_arguments : (make : ℤ → List (ConfigOption × ℤ) → Command) → Reads (number ▸ λ i. comma (options copt (λ os. closes (ending (make i os))))) (λ xs. number_at xs >>= λ i. (comma_at i.1 >>= λ rest. (options_at copt_at rest >>= λ os. finish_at (make i.0 os.0) os.1)))
config_arguments make =
    number_reads (λ i. comma (options copt (λ os. closes (ending (make i os))))) (λ i ys. comma_at ys >>= λ rest. (options_at copt_at rest >>= λ os. finish_at (make i os.0) os.1))
    (λ i. comma_apart is_digit (options copt (λ os. closes (ending (make i os)))) refl refl)
    (λ i. comma_reads (options copt (λ os. closes (ending (make i os)))) (λ rest. options_at copt_at rest >>= λ os. finish_at (make i os.0) os.1) (options_apart copt (λ os. finishing (make i os)) (listed config_option number (make i))) (config_options (make i)))

-- ---- one name, one event

name_argument : (make : List ℕ → Command) → Reads (name ▸ λ n. closes (ending (make n))) (λ xs. name_at xs >>= λ n. close_at (make n.0) n.1)
name_argument make = name_reads (λ n. closes (ending (make n))) (λ n. close_at (make n)) (λ n. close_apart is_name_byte (make n) refl refl) (λ n. close_reads (make n))

number_argument : (make : ℤ → Command) → Reads (number ▸ λ n. closes (ending (make n))) (λ xs. number_at xs >>= λ n. close_at (make n.0) n.1)
number_argument make = number_reads (λ n. closes (ending (make n))) (λ n. close_at (make n)) (λ n. close_apart is_digit (make n) refl refl) (λ n. close_reads (make n))

-- ---- place

place_rest : (n c : List ℕ) → Language Command
place_rest n c = (word "," ▹ sp ▹ options popt (λ os. closes (ending (Place n c os)))) ⊕ finishing (Place n c [])

place_rest_reads : (n c : List ℕ) → Reads (place_rest n c) (place_rest_at n c)
unfolding place_rest place_rest_at
place_rest_reads n c =
    or_reads (λ b. b == 44) (word "," ▹ sp ▹ options popt (λ os. closes (ending (Place n c os)))) (finishing (Place n c []))
    (λ xs. expect_at (codes ",") xs >>= λ rest. (options_at popt_at (skip_at rest) >>= λ os. finish_at (Place n c os.0) os.1)) (finish_at (Place n c []))
    (lit_begins 44 [] (sp ▹ options popt (λ os. closes (ending (Place n c os))))) (finish_apart (λ b. b == 44) (Place n c []) refl)
    (lit_reads (codes ",") (sp ▹ options popt (λ os. closes (ending (Place n c os)))) (λ rest. options_at popt_at (skip_at rest) >>= λ os. finish_at (Place n c os.0) os.1)
    (sp_reads (options popt (λ os. closes (ending (Place n c os)))) (λ rest. options_at popt_at rest >>= λ os. finish_at (Place n c os.0) os.1) (options_apart popt (λ os. finishing (Place n c os)) (listed place_option number (Place n c))) (place_options (Place n c))))
    (finish_reads (Place n c []))

place_rest_apart : (test : ℕ → Bool) (n c : List ℕ) → test 44 ≡ false → test 41 ≡ false → Apart test (place_rest n c)
unfolding place_rest
place_rest_apart test n c e f = or_apart test (word "," ▹ sp ▹ options popt (λ os. closes (ending (Place n c os)))) (finishing (Place n c [])) (lit_apart test 44 [] (sp ▹ options popt (λ os. closes (ending (Place n c os)))) e) (finish_apart test (Place n c []) f)

abbrev pub place_after : List ℕ → List ℕ → Language Command
place_after n c = comma (options popt (λ os. closes (ending (Place n c os)))) ⊕ closes (ending (Place n c []))

place_same : (n c : List ℕ) → Same (sp ▹ place_rest n c) (place_after n c)
unfolding place_rest
place_same n c = same_sym (place_after n c) (sp ▹ ((word "," ▹ sp ▹ options popt (λ os. closes (ending (Place n c os)))) ⊕ finishing (Place n c []))) (then_or sp (word "," ▹ sp ▹ options popt (λ os. closes (ending (Place n c os)))) (finishing (Place n c [])))

place_reads : (n : List ℕ) → Reads (name ▸ place_after n) (λ xs. name_at xs >>= λ c. place_rest_at n c.0 (skip_at c.1))
place_reads n =
    reads_same (name ▸ λ c. sp ▹ place_rest n c) (name ▸ place_after n) (same_with name (λ c. sp ▹ place_rest n c) (place_after n) (place_same n)) (λ xs. name_at xs >>= λ c. place_rest_at n c.0 (skip_at c.1))
    (name_reads (λ c. sp ▹ place_rest n c) (λ c xs. place_rest_at n c (skip_at xs)) (λ c. sp_apart is_name_byte (place_rest n c) refl (place_rest_apart is_name_byte n c refl refl))
    (λ c. sp_reads (place_rest n c) (place_rest_at n c) (place_rest_apart is_space n c refl refl) (place_rest_reads n c)))

-- ---- calls

-- what is between the `(` of a method and the end
abbrev pub arguments : List ℕ → Method → Language Command
arguments n method.Set = options sopt (λ os. closes (ending (Set n os)))
arguments n method.Get = attr ▸ λ a. closes (ending (Get n a))
arguments n method.Place = name ▸ place_after n
arguments n method.Lift = name ▸ λ c. closes (ending (Lift n c))
arguments n method.ColumnConfig = number ▸ λ i. comma (options copt (λ os. closes (ending (ColumnConfig n i os))))
arguments n method.RowConfig = number ▸ λ i. comma (options copt (λ os. closes (ending (RowConfig n i os))))
arguments n method.Link = name ▸ λ v. closes (ending (Link n v))
arguments n method.Unlink = finishing (Unlink n)
arguments n method.Bind = event ▸ λ e. comma (name ▸ λ t. closes (ending (Bind n e t)))
arguments n method.Unbind = event ▸ λ e. closes (ending (Unbind n e))
arguments n method.Open = finishing (OpenWindow n)
arguments n method.Close = finishing (CloseWindow n)
arguments n method.Top = finishing (TopWindow n)
arguments n method.Mode = number ▸ λ w. comma (number ▸ λ h. closes (ending (Mode n w h)))
arguments n method.Admit = number ▸ λ p. closes (ending (Admit n p))
arguments n method.Leave = finishing (Leave n)
arguments n method.Frame = count ▸ λ s. closes (ending (SendFrame n s))
arguments n method.Drop = finishing (DropWidget n)

arguments_reads : (n : List ℕ) (m : Method) → Reads (arguments n m) (arguments_at n m)
unfolding arguments_at
arguments_reads n method.Set = set_options (Set n)
arguments_reads n method.Get = attr_reads (λ a. closes (ending (Get n a))) (λ a. close_at (Get n a)) (λ a. close_reads (Get n a))
arguments_reads n method.Place = place_reads n
arguments_reads n method.Lift = name_argument (Lift n)
arguments_reads n method.ColumnConfig = config_arguments (ColumnConfig n)
arguments_reads n method.RowConfig = config_arguments (RowConfig n)
arguments_reads n method.Link = name_argument (Link n)
arguments_reads n method.Unlink = finish_reads (Unlink n)
arguments_reads n method.Bind =
    event_reads (λ e. comma (name ▸ λ t. closes (ending (Bind n e t)))) (λ e ys. comma_at ys >>= λ rest. (name_at rest >>= λ t. close_at (Bind n e t.0) t.1))
    (λ e. comma_reads (name ▸ λ t. closes (ending (Bind n e t))) (λ rest. name_at rest >>= λ t. close_at (Bind n e t.0) t.1) (name_apart (λ t. closes (ending (Bind n e t)))) (name_argument (Bind n e)))
arguments_reads n method.Unbind = event_reads (λ e. closes (ending (Unbind n e))) (λ e. close_at (Unbind n e)) (λ e. close_reads (Unbind n e))
arguments_reads n method.Open = finish_reads (OpenWindow n)
arguments_reads n method.Close = finish_reads (CloseWindow n)
arguments_reads n method.Top = finish_reads (TopWindow n)
arguments_reads n method.Mode =
    number_reads (λ w. comma (number ▸ λ h. closes (ending (Mode n w h)))) (λ w ys. comma_at ys >>= λ rest. (number_at rest >>= λ h. close_at (Mode n w h.0) h.1))
    (λ w. comma_apart is_digit (number ▸ λ h. closes (ending (Mode n w h))) refl refl)
    (λ w. comma_reads (number ▸ λ h. closes (ending (Mode n w h))) (λ rest. number_at rest >>= λ h. close_at (Mode n w h.0) h.1) (number_apart (λ h. closes (ending (Mode n w h)))) (number_argument (Mode n w)))
arguments_reads n method.Admit = number_argument (Admit n)
arguments_reads n method.Leave = finish_reads (Leave n)
arguments_reads n method.Frame = count_reads (λ s. closes (ending (SendFrame n s))) (λ s. close_at (SendFrame n s)) (λ s. close_apart is_digit (SendFrame n s) refl refl) (λ s. close_reads (SendFrame n s))
arguments_reads n method.Drop = finish_reads (DropWidget n)

arguments_apart : (n : List ℕ) (m : Method) → Apart is_space (arguments n m)
arguments_apart n method.Set = options_apart sopt (λ os. finishing (Set n os)) (listed attr value (Set n))
arguments_apart n method.Get = pick_apart attr_word all_attrs attr_words (λ a. closes (ending (Get n a)))
arguments_apart n method.Place = name_apart (place_after n)
arguments_apart n method.Lift = name_apart (λ c. closes (ending (Lift n c)))
arguments_apart n method.ColumnConfig = number_apart (λ i. comma (options copt (λ os. closes (ending (ColumnConfig n i os)))))
arguments_apart n method.RowConfig = number_apart (λ i. comma (options copt (λ os. closes (ending (RowConfig n i os)))))
arguments_apart n method.Link = name_apart (λ v. closes (ending (Link n v)))
arguments_apart n method.Unlink = finish_apart is_space (Unlink n) refl
arguments_apart n method.Bind = pick_apart event_word all_events event_words (λ e. comma (name ▸ λ t. closes (ending (Bind n e t))))
arguments_apart n method.Unbind = pick_apart event_word all_events event_words (λ e. closes (ending (Unbind n e)))
arguments_apart n method.Open = finish_apart is_space (OpenWindow n) refl
arguments_apart n method.Close = finish_apart is_space (CloseWindow n) refl
arguments_apart n method.Top = finish_apart is_space (TopWindow n) refl
arguments_apart n method.Mode = number_apart (λ w. comma (number ▸ λ h. closes (ending (Mode n w h))))
arguments_apart n method.Admit = number_apart (λ p. closes (ending (Admit n p)))
arguments_apart n method.Leave = finish_apart is_space (Leave n) refl
arguments_apart n method.Frame = count_apart (λ s. closes (ending (SendFrame n s)))
arguments_apart n method.Drop = finish_apart is_space (DropWidget n) refl

-- a call is the method's word, and what is in its parentheses
abbrev methods : List ℕ → Language Command
methods n = (λ u m. u ≡ method_word m) ▸ λ m. opens (arguments n m)

pub call_lit : (n : List ℕ) (m : Method) → Within (call ending n m) (Lit (method_word m) (opens (arguments n m)))
call_lit n method.Set xs c h = h
call_lit n method.Get xs c h = h
call_lit n method.Place xs c h = h
call_lit n method.Lift xs c h = h
call_lit n method.ColumnConfig xs c h = h
call_lit n method.RowConfig xs c h = h
call_lit n method.Link xs c h = h
call_lit n method.Unlink xs c h = h
call_lit n method.Bind xs c h = h
call_lit n method.Unbind xs c h = h
call_lit n method.Open xs c h = h
call_lit n method.Close xs c h = h
call_lit n method.Top xs c h = h
call_lit n method.Mode xs c h = h
call_lit n method.Admit xs c h = h
call_lit n method.Leave xs c h = h
call_lit n method.Frame xs c h = h
call_lit n method.Drop xs c h = h

pub lit_call : (n : List ℕ) (m : Method) → Within (Lit (method_word m) (opens (arguments n m))) (call ending n m)
lit_call n method.Set xs c h = h
lit_call n method.Get xs c h = h
lit_call n method.Place xs c h = h
lit_call n method.Lift xs c h = h
lit_call n method.ColumnConfig xs c h = h
lit_call n method.RowConfig xs c h = h
lit_call n method.Link xs c h = h
lit_call n method.Unlink xs c h = h
lit_call n method.Bind xs c h = h
lit_call n method.Unbind xs c h = h
lit_call n method.Open xs c h = h
lit_call n method.Close xs c h = h
lit_call n method.Top xs c h = h
lit_call n method.Mode xs c h = h
lit_call n method.Admit xs c h = h
lit_call n method.Leave xs c h = h
lit_call n method.Frame xs c h = h
lit_call n method.Drop xs c h = h

calls_same : (n : List ℕ) → Same (methods n) (any (call ending n))
calls_same n = (
  λ xs c h. (h.value, lit_call n h.value xs c (record { front = h.front; after = h.after; split = h.split; word = h.stands; goes_on = h.goes_on })),
  λ xs c h. let l = call_lit n h.0 xs c h.1 in record { front = l.front; after = l.after; value = h.0; split = l.split; stands = l.word; goes_on = l.goes_on },
)

methods_apart : (n : List ℕ) → Apart is_space (methods n)
methods_apart n = pick_apart method_word all_methods method_words (λ m. opens (arguments n m))

called_reads : (n : List ℕ) → Reads (sp ▹ any (call ending n)) (called_at n)
unfolding called_at
called_reads n =
    reads_same (sp ▹ methods n) (sp ▹ any (call ending n)) (same_then sp (methods n) (any (call ending n)) (calls_same n)) (λ xs. method_at (skip_at xs) >>= λ m. (open_at m.1 >>= λ rest. arguments_at n m.0 rest))
    (sp_reads (methods n) (λ xs. method_at xs >>= λ m. (open_at m.1 >>= λ rest. arguments_at n m.0 rest)) (methods_apart n)
    (method_reads (λ m. opens (arguments n m)) (λ m ys. open_at ys >>= λ rest. arguments_at n m rest) (λ m. open_reads (arguments n m) (arguments_at n m) (arguments_apart n m) (arguments_reads n m))))

-- ---- a widget is made

abbrev makes : List ℕ → Language Command
makes n = sp ▹ word "new" ▹ sp1 ▹ kind ▸ λ k. empty (ending (New n k))

made_reads : (n : List ℕ) → Reads (makes n) (made_at n)
unfolding made_at
made_reads n =
    let last : (k : Kind) → Reads (empty (ending (New n k))) (λ ys. open_at ys >>= λ rest. finish_at (New n k) rest) =
    λ k. open_reads (finishing (New n k)) (finish_at (New n k)) (finish_apart is_space (New n k) refl) (finish_reads (New n k)) in
    let kinds : Reads (kind ▸ λ k. empty (ending (New n k))) (λ ys. kind_at ys >>= λ k. (open_at k.1 >>= λ rest. finish_at (New n k.0) rest)) =
    kind_reads (λ k. empty (ending (New n k))) (λ k ys. open_at ys >>= λ rest. finish_at (New n k) rest) last in
    sp_reads (word "new" ▹ sp1 ▹ kind ▸ λ k. empty (ending (New n k))) (λ ys. expect_at (codes "new") ys >>= λ rest. (skip_some_at rest >>= λ rest. (kind_at rest >>= λ k. (open_at k.1 >>= λ rest. finish_at (New n k.0) rest))))
    (lit_apart is_space 110 (codes "ew") (sp1 ▹ kind ▸ λ k. empty (ending (New n k))) refl)
    (lit_reads (codes "new") (sp1 ▹ kind ▸ λ k. empty (ending (New n k))) (λ rest. skip_some_at rest >>= λ rest. (kind_at rest >>= λ k. (open_at k.1 >>= λ rest. finish_at (New n k.0) rest)))
    (sp1_reads (kind ▸ λ k. empty (ending (New n k))) (λ rest. kind_at rest >>= λ k. (open_at k.1 >>= λ rest. finish_at (New n k.0) rest)) (pick_apart kind_word all_kinds kind_words (λ k. empty (ending (New n k)))) kinds))

-- ---- after the first name

abbrev polls : Language Command
polls = word "(" ▹ sp ▹ finishing Poll

polls_reads : Reads polls (λ xs. expect_at (codes "(") xs >>= λ rest. finish_at Poll (skip_at rest))
polls_reads = lit_reads (codes "(") (sp ▹ finishing Poll) (λ rest. finish_at Poll (skip_at rest)) (sp_reads (finishing Poll) (finish_at Poll) (finish_apart is_space Poll refl) (finish_reads Poll))

abbrev dotted : List ℕ → Language Command
dotted n = word "." ▹ sp ▹ any (call ending n)

dotted_reads : (n : List ℕ) → Reads (dotted n) (λ xs. expect_at (codes ".") xs >>= called_at n)
dotted_reads n = lit_reads (codes ".") (sp ▹ any (call ending n)) (called_at n) (called_reads n)

abbrev other : Bool → List ℕ → Language Command
other b n = only b polls ⊕ dotted n

other_apart : (test : ℕ → Bool) (b : Bool) (n : List ℕ) → test 40 ≡ false → test 46 ≡ false → Apart test (other b n)
other_apart test b n e f x t xs c h = elim h [
  | inl p ↦ lit_apart test 40 [] (sp ▹ finishing Poll) e x t xs c p.1
  | inr d ↦ lit_apart test 46 [] (sp ▹ any (call ending n)) f x t xs c d
]

other_reads : (b : Bool) (n : List ℕ) → Reads (other b n) (λ xs. cond (b && begins_with (λ x. x == 40) xs) (expect_at (codes "(") xs >>= λ rest. finish_at Poll (skip_at rest)) (expect_at (codes ".") xs >>= called_at n))
other_reads true n =
    reads_same (polls ⊕ dotted n) (other true n) (λ xs c h. elim h [ inl p ↦ inl (refl, p) | inr d ↦ inr d ], λ xs c h. elim h [ inl p ↦ inl p.1 | inr d ↦ inr d ])
    (λ xs. cond (begins_with (λ x. x == 40) xs) (expect_at (codes "(") xs >>= λ rest. finish_at Poll (skip_at rest)) (expect_at (codes ".") xs >>= called_at n))
    (or_reads (λ x. x == 40) polls (dotted n) (λ xs. expect_at (codes "(") xs >>= λ rest. finish_at Poll (skip_at rest)) (λ xs. expect_at (codes ".") xs >>= called_at n)
    (lit_begins 40 [] (sp ▹ finishing Poll)) (lit_apart (λ x. x == 40) 46 [] (sp ▹ any (call ending n)) refl) polls_reads (dotted_reads n))
other_reads false n =
    reads_same (dotted n) (other false n) (λ xs c h. inr h, λ xs c h. elim h [ inl p ↦ absurd (false≢true p.0) | inr d ↦ d ]) (λ xs. expect_at (codes ".") xs >>= called_at n) (dotted_reads n)

abbrev is_poll : List ℕ → Bool
is_poll n = bytes_eq n (codes "poll")

abbrev after_name : List ℕ → Language Command
after_name n = (word "=" ▹ makes n) ⊕ other (is_poll n) n

after_name_reads : (n : List ℕ) → Reads (after_name n) (body_at n)
unfolding body_at
after_name_reads n =
    or_reads (λ x. x == 61) (word "=" ▹ makes n) (other (is_poll n) n) (λ xs. expect_at (codes "=") xs >>= made_at n)
    (λ xs. cond (is_poll n && begins_with (λ x. x == 40) xs) (expect_at (codes "(") xs >>= λ rest. finish_at Poll (skip_at rest)) (expect_at (codes ".") xs >>= called_at n))
    (lit_begins 61 [] (makes n)) (other_apart (λ x. x == 61) (is_poll n) n refl refl) (lit_reads (codes "=") (makes n) (made_at n) (made_reads n)) (other_reads (is_poll n) n)

after_name_apart : (test : ℕ → Bool) (n : List ℕ) → test 61 ≡ false → test 40 ≡ false → test 46 ≡ false → Apart test (after_name n)
after_name_apart test n e f g = or_apart test (word "=" ▹ makes n) (other (is_poll n) n) (lit_apart test 61 [] (makes n) e) (other_apart test (is_poll n) n f g)

-- ---- the line

abbrev named : Language Command
named = name ▸ λ n. sp ▹ after_name n

body_into : Within (body ending) named
body_into xs c h = elim h [
  | inl m ↦ record {
    front = m.front;
    after = m.after;
    value = m.value;
    split = m.split;
    stands = m.stands;
    goes_on = record { front = m.goes_on.front; after = m.goes_on.after; split = m.goes_on.split; word = m.goes_on.word; goes_on = inl m.goes_on.goes_on };
  }
  | inr k ↦ elim k [
    | inl p ↦ record {
      front = p.front;
      after = p.after;
      value = codes "poll";
      split = p.split;
      stands = (p.word, ap is_name p.word);
      goes_on = record { front = p.goes_on.front; after = p.goes_on.after; split = p.goes_on.split; word = p.goes_on.word; goes_on = inr (inl (refl, p.goes_on.goes_on)) };
    }
    | inr d ↦ record {
      front = d.front;
      after = d.after;
      value = d.value;
      split = d.split;
      stands = d.stands;
      goes_on = record { front = d.goes_on.front; after = d.goes_on.after; split = d.goes_on.split; word = d.goes_on.word; goes_on = inr (inr d.goes_on.goes_on) };
    }
  ]
]

body_back : Within named (body ending)
body_back xs c h =
    let g = h.goes_on in
    elim g.goes_on [
      | inl m ↦ inl (record { front = h.front; after = h.after; value = h.value; split = h.split; stands = h.stands; goes_on = record { front = g.front; after = g.after; split = g.split; word = g.word; goes_on = m } })
      | inr k ↦ elim k [
        | inl p ↦ inr (inl (record {
          front = h.front;
          after = h.after;
          split = h.split;
          word = h.stands.0 ∙ (bytes_eq-Decides h.value (codes "poll")).0 p.0;
          goes_on = record { front = g.front; after = g.after; split = g.split; word = g.word; goes_on = p.1 };
        }))
        | inr d ↦ inr (inr (record { front = h.front; after = h.after; value = h.value; split = h.split; stands = h.stands; goes_on = record { front = g.front; after = g.after; split = g.split; word = g.word; goes_on = d } }))
      ]
    ]

named_reads : Reads named (λ xs. name_at xs >>= λ n. body_at n.0 (skip_at n.1))
named_reads =
    name_reads (λ n. sp ▹ after_name n) (λ n xs. body_at n (skip_at xs)) (λ n. sp_apart is_name_byte (after_name n) refl (after_name_apart is_name_byte n refl refl refl))
    (λ n. sp_reads (after_name n) (body_at n) (after_name_apart is_space n refl refl refl) (after_name_reads n))

pub line_reads : Reads command_line line_at
unfolding command_line line_at
line_reads =
    reads_same (sp ▹ named) (sp ▹ body ending) (same_then sp named (body ending) (body_back, body_into)) (λ xs. name_at (skip_at xs) >>= λ n. body_at n.0 (skip_at n.1))
    (sp_reads named (λ xs. name_at xs >>= λ n. body_at n.0 (skip_at n.1)) (name_apart (λ n. sp ▹ after_name n)) named_reads)

-- a line stands for at most one command
pub one_command : (xs : List ℕ) (c d : Command) → command_line xs c → command_line xs d → c ≡ d
one_command xs c d h k = by (line_at xs) (line_reads.settles xs)
  where
    by : (r : Result Command ℕ) → Settles command_line xs r → c ≡ d
    by (Ok e) s = s.1 c h ∙ sym (s.1 d k)
    by (Err left) s = absurd (s.none c h)
