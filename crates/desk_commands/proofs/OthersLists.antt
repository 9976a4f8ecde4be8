-- What is left where a client leaves.
use Rattle.std.proofs.Common.{◌≡◌, ℕ, zero, suc, ◌+◌, Bool, true, false, cond, not, ◌&&◌, nat_eq, List, [], ◌∷◌, drop, slice_get, Option, Some, None, is_some, MatchOption, refl, sym, ap, ◌∙◌, add-one}
use Rattle.std.proofs.lemmas.Bool.{true≢false, false≢true, eqb-true, and_parts}
use Rattle.std.specs.Cmp.{nat_eq_equiv}
use Rattle.std.specs.List.{list_all, filter}
use Rattle.std.specs.Option.{option_map}
use Rattle.stack_core.specs.Stack.{without}
use Rattle.widget_model.specs.Rows.{Row}
use Rattle.widget_model.specs.Nodes.{Node, node_of, node_at}
use Rattle.widget_model.specs.Widgets.{nodes, row_at, key_at}
use Rattle.tree_core.proofs.ForestLemmas.{node_at-nodes}
use Rattle.widget_model.proofs.LeftRows.{all-kept}
use Rattle.desk_model.proofs.OthersRows.{filter-within}
use Rattle.std.proofs.lemmas.Option.{same_Some}
use Rattle.desk_layout.proofs.KeyNumbers.{key_at-node, key_at-kept}
use Rattle.desk_commands.specs.Parts.{title_at, windows_at, is_others}

-- without one key, as a filter
pub without-filter : (ks : List ℕ) (key : ℕ) → without ks key ≡ filter (λ other. not (nat_eq key other)) ks
without-filter [] key = refl
without-filter (k ∷ ks) key = rw (nat_eq_equiv.symm key k) (by (without-filter ks key) (nat_eq k key))
  where
    by : without ks key ≡ filter (λ other. not (nat_eq key other)) ks → (b : Bool) → cond b (without ks key) (k ∷ without ks key) ≡ cond (not b) (k ∷ filter (λ other. not (nat_eq key other)) ks) (filter (λ other. not (nat_eq key other)) ks)
    by rest true = rest
    by rest false = rw rest refl

pub list_all-without : (p : ℕ → Bool) (ks : List ℕ) (key : ℕ) → list_all p ks ≡ true → list_all p (without ks key) ≡ true
list_all-without p ks key h = ap (list_all p) (without-filter ks key) ∙ all-kept p (λ other. not (nat_eq key other)) ks h

-- a key that doesn't pass is left out anyway
pub filter-without : (p : ℕ → Bool) (ks : List ℕ) (key : ℕ) → p key ≡ false → filter p (without ks key) ≡ filter p ks
filter-without p ks key fails = ap (filter p) (without-filter ks key) ∙ filter-within (λ other. not (nat_eq key other)) p (λ other passes. by other passes (nat_eq key other) refl) ks
  where
    by : (other : ℕ) → p other ≡ true → (b : Bool) → nat_eq key other ≡ b → not b ≡ true
    by other passes false q = refl
    by other passes true q = absurd (true≢false (sym passes ∙ ap p (sym (eqb-true key other q)) ∙ fails))

-- where all pass, all are left
pub filter-all : {X : Type 0} (p : X → Bool) (xs : List X) → list_all p xs ≡ true → filter p xs ≡ xs
filter-all p [] h = refl
filter-all p (x ∷ xs) h =
    let parts = and_parts (p x) (list_all p xs) h in
    rw (parts.0, filter-all p xs parts.1) refl

pub list_all-further : {X : Type 0} (p : X → Bool) (xs : List X) (i : ℕ) (x : X) → slice_get xs i ≡ Some x → list_all p (drop i xs) ≡ (p x && list_all p (drop (i + 1) xs))
list_all-further p [] i x there = absurd (cc)
list_all-further p (y ∷ ys) zero x there = let same : y ≡ x = cc in rw same refl
list_all-further p (y ∷ ys) (suc i) x there = rw (add-one (suc i)) (list_all-further p ys i x there ∙ rw (add-one i) refl)

pub list_all-past : {X : Type 0} (p : X → Bool) (xs : List X) (i : ℕ) → slice_get xs i ≡ None → list_all p (drop i xs) ≡ list_all p (drop (i + 1) xs)
list_all-past p [] zero past = refl
list_all-past p [] (suc i) past = rw (add-one (suc i)) refl
list_all-past p (y ∷ ys) zero past = absurd (cc)
list_all-past p (y ∷ ys) (suc i) past = rw (add-one (suc i)) (list_all-past p ys i past ∙ rw (add-one i) refl)

-- the owner of the numbered row is the client of its title
pub owner_title : (es : List (ℕ × Row)) (key owner : ℕ) → option_map (λ (row : Row). row.client) (row_at es key) ≡ Some owner → (title_at (nodes es) key).0 ≡ owner
owner_title es key owner h = by (row_at es key) refl (node_at-nodes es key) h
  where
    by : (o : Option Row) → row_at es key ≡ o → node_at (nodes es) key ≡ option_map node_of (row_at es key) → option_map (λ (row : Row). row.client) o ≡ Some owner → (title_at (nodes es) key).0 ≡ owner
    by None p q h = absurd (cc)
    by (Some row) p q h =
        let there : node_at (nodes es) key ≡ Some (node_of row) = q ∙ ap (option_map node_of) p in
        let same : row.client ≡ owner = cc in
        rw there same

-- the titles of the others' windows
pub windows_at-filter : (ns : List (ℕ × Node)) (client : ℕ) (keys : List ℕ) → windows_at ns (filter (is_others ns client) keys) ≡ filter (λ (window : ℕ × List ℕ). not (nat_eq client window.0)) (windows_at ns keys)
windows_at-filter ns client [] = refl
windows_at-filter ns client (k ∷ ks) = by (windows_at-filter ns client ks) (is_others ns client k)
  where
    by : windows_at ns (filter (is_others ns client) ks) ≡ filter (λ (window : ℕ × List ℕ). not (nat_eq client window.0)) (windows_at ns ks) → (b : Bool) → windows_at ns (cond b (k ∷ filter (is_others ns client) ks) (filter (is_others ns client) ks)) ≡ cond b (title_at ns k ∷ filter (λ (window : ℕ × List ℕ). not (nat_eq client window.0)) (windows_at ns ks)) (filter (λ (window : ℕ × List ℕ). not (nat_eq client window.0)) (windows_at ns ks))
    by rest true = rw rest refl
    by rest false = rest

-- a node of another client stays where the client's entries go
pub node_at-others : (es : List (ℕ × Row)) (client key : ℕ) (node : Node) → node_at (nodes es) key ≡ Some node → nat_eq client node.client ≡ false → node_at (nodes (filter (λ (e : ℕ × Row). not (nat_eq client e.1.client)) es)) key ≡ Some node
node_at-others [] client key node there other = absurd (cc)
node_at-others (e ∷ es) client key node there other = by (node_at-others es client key node) (nat_eq key e.0) refl (nat_eq client e.1.client) refl there
  where
    by : (node_at (nodes es) key ≡ Some node → nat_eq client node.client ≡ false → node_at (nodes (filter (λ (e : ℕ × Row). not (nat_eq client e.1.client)) es)) key ≡ Some node) → (b : Bool) → nat_eq key e.0 ≡ b → (d : Bool) → nat_eq client e.1.client ≡ d → cond b (Some (node_of e.1)) (node_at (nodes es) key) ≡ Some node → node_at (nodes (cond (not d) (e ∷ filter (λ (e : ℕ × Row). not (nat_eq client e.1.client)) es) (filter (λ (e : ℕ × Row). not (nat_eq client e.1.client)) es))) key ≡ Some node
    by rest true q true r h =
        let same : node_of e.1 ≡ node = cc in
        let client_is : e.1.client ≡ node.client = ap (λ (n : Node). n.client) same in
        absurd (true≢false (sym r ∙ ap (nat_eq client) client_is ∙ other))
    by rest true q false r h = rw q h
    by rest false q true r h = rest h other
    by rest false q false r h = rw q (rest h other)

-- and so does its key
pub key_at-others : (es : List (ℕ × Row)) (client id : ℕ) (key : ℕ × List ℕ) → key_at es id ≡ Some key → nat_eq client key.0 ≡ false → key_at (filter (λ (e : ℕ × Row). not (nat_eq client e.1.client)) es) id ≡ Some key
key_at-others es client id key named other =
    key_at-kept es (filter (λ (e : ℕ × Row). not (nat_eq client e.1.client)) es) id key (λ there. by (node_at (nodes es) id) refl there (sym (key_at-node es id) ∙ named)) named
  where
    by : (o : Option Node) → node_at (nodes es) id ≡ o → is_some o ≡ true → option_map (λ (node : Node). (node.client, node.name)) o ≡ Some key → node_at (nodes (filter (λ (e : ℕ × Row). not (nat_eq client e.1.client)) es)) id ≡ o
    by None p h k = absurd (false≢true h)
    by (Some node) p h k =
        let same : node.client ≡ key.0 = ap (λ (key : ℕ × List ℕ). key.0) (same_Some (node.client, node.name) key k) in
        node_at-others es client id node p (ap (nat_eq client) same ∙ other)

pub list_all-filter : {X : Type 0} (p q : X → Bool) (xs : List X) → list_all p xs ≡ true → list_all p (filter q xs) ≡ true
list_all-filter p q xs all = all-kept p q xs all

-- what holds of None, where there is no other answer
pub none_given : {X : Type 0} (o : Option X) (P : Type 0) (Q : X → Type 0) → MatchOption o P Q → ((x : X) → o ≡ Some x → ⊥) → P
none_given None P Q h none = h
none_given (Some x) P Q h none = absurd (none x refl)
