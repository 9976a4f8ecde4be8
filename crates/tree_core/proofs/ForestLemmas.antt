-- What holds of the numbers of all widgets after a row is put last or changed, after rows are taken out, and after a
-- client joins or leaves.
use Rattle.std.proofs.Common.{◌≡◌, ℕ, zero, suc, ◌+◌, ◌<◌, ◌≤◌, Bool, true, false, cond, not, ◌&&◌, ◌||◌, nat_eq, nat_le, nat_lt, List, [], ◌∷◌, ◌++◌, Option, Some, None, is_some, refl, sym, ap, ◌∙◌, subst, arith}
use Rattle.std.proofs.lemmas.Bool.{true≢false, and_parts, leb-false}
use Rattle.std.proofs.lemmas.Bool.Decides.{nat_tests}
use Rattle.std.specs.Cmp.{nat_eq_equiv}
use Rattle.std.specs.List.{filter, list_all}
use Rattle.std.specs.Option.{option_map}
use Rattle.kind_core.specs.declared.kinds.Kind.{Kind}
use Rattle.widget_model.specs.Rows.{Row}
use Rattle.widget_model.specs.Nodes.{Node, node_of, node_at, first_number, is_number_of}
use Rattle.widget_model.specs.Named.{row_named, rows_counted}
use Rattle.widget_model.specs.Kinds.{any_kind, counts_with}
use Rattle.widget_model.specs.Widgets.{row_at, with_row, nodes, rows_in}
use Rattle.widget_model.specs.Clients.{is_joined, is_client}
use Rattle.widget_model.specs.Forest.{HaveOwnNumbers, AreNumbered}
use Rattle.widget_model.proofs.NewRows.{all-push}
pub use Rattle.row_store.proofs.UnderNumbers.{node_at-nodes, nodes-with_row}
use Rattle.row_store.proofs.UnderNumbers.{nodes-push, rows_counted-cons, own_numbers-filter, row_at-with_row}
use Rattle.tree_core.specs.Refusals.{add_refusal}
use Rattle.tree_core.specs.declared.refusal.AddRefusal.TheVariants.{NameTaken, Full}

-- one more node has a number of its own
node_at-push : (es : List (ℕ × Node)) (e : ℕ × Node) (id : ℕ) → nat_eq id e.0 ≡ false → node_at es id ≡ None → node_at (es ++ e ∷ []) id ≡ None
node_at-push [] e id other absent = rw other refl
node_at-push (f ∷ fs) e id other absent = grind (arith, node_at-push fs e id other)

HaveOwnNumbers-push : (es : List (ℕ × Node)) (id : ℕ) (node : Node) → HaveOwnNumbers es → node_at es id ≡ None → HaveOwnNumbers (es ++ (id, node) ∷ [])
HaveOwnNumbers-push [] id node own absent = (refl, tt)
HaveOwnNumbers-push (e ∷ es) id node own absent =
    let other : nat_eq e.0 id ≡ false = grind (arith, nat_tests) in
    let rest : node_at es id ≡ None = grind arith in
    (node_at-push es (id, node) e.0 other own.0, HaveOwnNumbers-push es id node own.1 rest)

pub AreNumbered-push : (es : List (ℕ × Row)) (id : ℕ) (row : Row) → AreNumbered (nodes es) → row_at es id ≡ None → is_number_of row.client id ≡ true → AreNumbered (nodes (es ++ (id, row) ∷ []))
AreNumbered-push es id row old absent own =
    let N : List (ℕ × Node) → Type 0 = λ ns. AreNumbered ns in
    subst N (sym (nodes-push es id row))
    (record {
      own_numbers = HaveOwnNumbers-push (nodes es) id (node_of row) old.own_numbers (node_at-nodes es id ∙ ap (option_map node_of) absent);
      numbers = all-push (λ (e : ℕ × Node). is_number_of e.1.client e.0) (nodes es) (id, node_of row) old.numbers own;
    })

-- who has joined, with one client more
pub was_joined : (clients : List ℕ) (client other : ℕ) → is_joined (clients ++ client ∷ []) other ≡ true → nat_eq other client ≡ false → is_joined clients other ≡ true
was_joined [] client other h apart = absurd (true≢false (sym h ∙ ap (λ (b : Bool). b || false) apart))
was_joined (c ∷ cs) client other h apart = grind (arith, was_joined cs client other)

-- rows are taken out
nodes_all-filter : (test : ℕ × Node → Bool) (p : ℕ × Row → Bool) (es : List (ℕ × Row)) → list_all test (nodes es) ≡ true → list_all test (nodes (filter p es)) ≡ true
nodes_all-filter test p [] h = refl
nodes_all-filter test p (e ∷ es) h = grind (arith, nodes_all-filter test p es)

pub AreNumbered-filter : (p : ℕ × Row → Bool) (es : List (ℕ × Row)) → AreNumbered (nodes es) → AreNumbered (nodes (filter p es))
AreNumbered-filter p es old = record { own_numbers = own_numbers-filter p es old.own_numbers; numbers = nodes_all-filter (λ (e : ℕ × Node). is_number_of e.1.client e.0) p es old.numbers }

-- a client leaves: the clients that are left, their rows, and the client's rows by their numbers
abbrev pub clients_but : ℕ → List ℕ → List ℕ
clients_but gone clients = filter (λ (c : ℕ). not (nat_eq gone c)) clients

abbrev pub rows_but : ℕ → List (ℕ × Row) → List (ℕ × Row)
rows_but gone es = filter (λ (e : ℕ × Row). not (nat_eq gone e.1.client)) es

pub joined-before : (clients : List ℕ) (gone other : ℕ) → is_joined (clients_but gone clients) other ≡ true → is_joined clients other ≡ true
joined-before [] gone other there = there
joined-before (c ∷ cs) gone other there = grind (arith, nat_tests, joined-before cs gone other)

pub number-client : (client other id : ℕ) → 1 ≤ client → is_number_of other id ≡ true → is_number_of client id ≡ nat_eq client other
number-client client other id low own = grind (arith, nat_tests)

pub rows-departed : (es : List (ℕ × Row)) (gone : ℕ) → 1 ≤ gone → list_all (λ (e : ℕ × Node). is_number_of e.1.client e.0) (nodes es) ≡ true → filter (λ (e : ℕ × Row). not (is_number_of gone e.0)) es ≡ rows_but gone es
rows-departed [] gone low numbers = refl
rows-departed (e ∷ es) gone low numbers =
    let parts = and_parts (is_number_of e.1.client e.0) (list_all (λ (e : ℕ × Node). is_number_of e.1.client e.0) (nodes es)) numbers in
    rw (number-client gone e.1.client e.0 low parts.0, rows-departed es gone low parts.1) refl

-- A client's 128 numbers can't all be live where it has fewer than 128 rows: how many of `n` numbers from the first on
-- are live.
abbrev live_from : ℕ → ℕ → List (ℕ × Row) → ℕ
live_from zero first es = 0
live_from (suc n) first es = live_from n first es + cond (is_some (row_at es (first + n))) 1 0

live_from-all : (n first : ℕ) (es : List (ℕ × Row)) → ((k : ℕ) → first ≤ k → k < first + n → is_some (row_at es k) ≡ true) → live_from n first es ≡ n
live_from-all zero first es there = refl
live_from-all (suc n) first es there =
    let rest = live_from-all n first es (λ k low high. there k low (omega arith)) in
    rw (there (first + n) (omega arith) (omega arith)) (omega (arith, rest))

live_from-none : (n first : ℕ) → live_from n first [] ≡ 0
live_from-none zero first = refl
live_from-none (suc n) first = omega (arith, live_from-none n first)

live_from-cons : (n first : ℕ) (e : ℕ × Row) (es : List (ℕ × Row)) → live_from n first (e ∷ es) ≤ cond (nat_le first e.0 && nat_lt e.0 (first + n)) 1 0 + live_from n first es
live_from-cons zero first e es = omega arith
live_from-cons (suc n) first e es = grind (arith, nat_tests, live_from-cons n first e es)

live_from-own : (n client : ℕ) (es : List (ℕ × Row)) → n ≡ 128 → 1 ≤ client → list_all (λ (e : ℕ × Node). is_number_of e.1.client e.0) (nodes es) ≡ true → live_from n (first_number client) es ≤ rows_counted client any_kind (rows_in es)
live_from-own n client [] is low numbers = omega (arith, live_from-none n (first_number client))
live_from-own n client (e ∷ es) is low numbers =
    let parts = and_parts (is_number_of e.1.client e.0) (list_all (λ (e : ℕ × Node). is_number_of e.1.client e.0) (nodes es)) numbers in
    let own : cond (nat_le (first_number client) e.0 && nat_lt e.0 (first_number client + n)) 1 0 ≤ cond (nat_eq client e.1.client && any_kind e.1.kind) 1 0 = one n client e.1.client e.0 is low parts.0 in
    omega (arith, own, live_from-cons n (first_number client) e es, live_from-own n client es is low parts.1, rows_counted-cons client any_kind e.1 (rows_in es))
  where
    one : (n client other id : ℕ) → n ≡ 128 → 1 ≤ client → is_number_of other id ≡ true → cond (nat_le (first_number client) id && nat_lt id (first_number client + n)) 1 0 ≤ cond (nat_eq client other && true) 1 0
    one n client other id is low own = grind (arith, nat_tests)

pub one_is_free : (client : ℕ) (es : List (ℕ × Row)) → 1 ≤ client → list_all (λ (e : ℕ × Node). is_number_of e.1.client e.0) (nodes es) ≡ true → rows_counted client any_kind (rows_in es) < 128 → ((k : ℕ) → first_number client ≤ k → k < first_number client + 128 → is_some (row_at es k) ≡ true) → ⊥
one_is_free client es low numbers room there = by 128 refl there
  where
    by : (n : ℕ) → n ≡ 128 → ((k : ℕ) → first_number client ≤ k → k < first_number client + n → is_some (row_at es k) ≡ true) → ⊥
    by n is all = omega (arith, live_from-own n client es is low numbers, live_from-all n (first_number client) es all, is)

-- a joined client is 1 to 16
pub joined_in_range : (clients : List ℕ) (client : ℕ) → is_joined clients client ≡ true → list_all is_client clients ≡ true → (1 ≤ client) × (client ≤ 16)
joined_in_range [] client there ranges = absurd (true≢false (sym there))
joined_in_range (c ∷ cs) client there ranges = by (joined_in_range cs client) (nat_eq client c) refl there (and_parts (is_client c) (list_all is_client cs) ranges)
  where
    by : (is_joined cs client ≡ true → list_all is_client cs ≡ true → (1 ≤ client) × (client ≤ 16)) → (b : Bool) → nat_eq client c ≡ b → (b || is_joined cs client) ≡ true → (is_client c ≡ true) × (list_all is_client cs ≡ true) → (1 ≤ client) × (client ≤ 16)
    by rest true q h parts = (low client c q parts.0, high client c q parts.0)
      where
        low : (client c : ℕ) → nat_eq client c ≡ true → is_client c ≡ true → 1 ≤ client
        low client c q in_range = grind (arith, nat_tests)

        high : (client c : ℕ) → nat_eq client c ≡ true → is_client c ≡ true → client ≤ 16
        high client c q in_range = grind (arith, nat_tests)
    by rest false q h parts = rest h parts.1

-- the tests behind a refusal, where there is none
pub no_refusal : (rows : List Row) (client : ℕ) (name : List ℕ) (kind : Kind) → add_refusal rows client name kind ≡ None → (row_named rows client name ≡ None) × (rows_counted client any_kind rows < 128) × (rows_counted client (counts_with kind) rows < 8)
no_refusal rows client name kind h = by (row_named rows client name) (nat_le 128 (rows_counted client any_kind rows)) refl (nat_le 8 (rows_counted client (counts_with kind) rows)) refl h
  where
    by : (o : Option Row) (a : Bool) → nat_le 128 (rows_counted client any_kind rows) ≡ a → (b : Bool) → nat_le 8 (rows_counted client (counts_with kind) rows) ≡ b → cond (is_some o) (Some NameTaken) (cond a (Some (Full 128)) (cond b (Some (Full 8)) None)) ≡ None → (o ≡ None) × (rows_counted client any_kind rows < 128) × (rows_counted client (counts_with kind) rows < 8)
    by (Some x) a p b q h = absurd (cc)
    by None true p b q h = absurd (cc)
    by None false p true q h = absurd (cc)
    by None false p false q h = (refl, leb-false 128 _ p, leb-false 8 _ q)

-- numbers stay live through a change and through a new row, whose own number is live too
pub live-with_row : (es : List (ℕ × Row)) (id : ℕ) (change : Row → Row) (other : ℕ) → is_some (row_at es other) ≡ true → is_some (row_at (with_row id change es) other) ≡ true
live-with_row es id change other h = ap is_some (row_at-with_row es id change other) ∙ by (row_at es other) h
  where
    by : (o : Option Row) → is_some o ≡ true → is_some (option_map (λ (row : Row). cond (nat_eq id other) (change row) row) o) ≡ true
    by None k = k
    by (Some row) k = refl

live-push : (es : List (ℕ × Row)) (id : ℕ) (row : Row) (other : ℕ) → is_some (row_at es other) ≡ true → is_some (row_at (es ++ (id, row) ∷ []) other) ≡ true
live-push [] id row other h = absurd (true≢false (sym h))
live-push (e ∷ es) id row other h = grind (arith, live-push es id row other)

pub live-last : (es : List (ℕ × Row)) (id : ℕ) (row : Row) → is_some (row_at (es ++ (id, row) ∷ []) id) ≡ true
live-last [] id row = rw (nat_eq_equiv.refl id) refl
live-last (e ∷ es) id row = grind (arith, live-last es id row)

pub live-maybe_push : (b : Bool) (es : List (ℕ × Row)) (id : ℕ) (row : Row) (other : ℕ) → is_some (row_at es other) ≡ true → is_some (row_at (cond b (es ++ (id, row) ∷ []) es) other) ≡ true
live-maybe_push true es id row other h = live-push es id row other h
live-maybe_push false es id row other h = h
