-- When rows change: where the row that was found isn't left as it was.
use Rattle.std.proofs.Common.{◌≡◌, ℕ, zero, suc, Bool, true, false, not, ◌&&◌, nat_eq, List, [], ◌∷◌, Option, Some, None, is_some, slice_index_or, slice_set, refl, sym, ap, ◌∙◌}
use Rattle.std.proofs.lemmas.Bool.{true≢false, eqb-true, eq-eqb, and_parts, and_from}
use Rattle.std.specs.Cmp.{nat_eq_equiv}
use Rattle.std.specs.List.{list_all}
use Rattle.std.specs.Option.{option_map, option_eq}
use Rattle.kind_core.specs.declared.kinds.Kind.{Kind}
use Rattle.cmd_words.specs.declared.replies.Reply.{Reply}
use Rattle.widget_model.specs.Rows.{Row}
use Rattle.widget_model.specs.Named.{with_named}
use Rattle.widget_model.specs.Widgets.{Widgets, nodes, rows_of, row_at, with_row, edited}
use Rattle.widget_model.specs.Forest.{IsWidgets}
use Rattle.row_store.proofs.UnderNumbers.{row_at-with_row}
use Rattle.desk_model.specs.Desk.{Desk}
use Rattle.widget_model.proofs.Naming.{rows-with_row, with_named-kept, with_named-same}
use Rattle.desk_commands.specs.Parts.{names_window}
use Rattle.admit_core.specs.Roster.{RosterState}
use Rattle.desk_commands.specs.Effects.{Did, DidListed, TellsRows, TellsAll}
use Rattle.desk_commands.specs.Lookup.{IsFound}
use Rattle.desk_commands.proofs.Effects.{titles_kept}

-- a change is seen in the rows where it is one of the row that was found
pub tells_edit : (w new : Widgets) (client : ℕ) (name : List ℕ) (key : ℕ) (kind : Kind) (change : Row → Row) (changed : Bool) → IsWidgets w → (found : IsFound w client name key kind) → new ≡ edited key change w → (changed ≡ true → change found.row ≡ found.row → ⊥) → (changed ≡ false → change found.row ≡ found.row) → TellsRows w new changed
tells_edit w new client name key kind change changed kept found left differs same =
    (λ h r. differs h (with_named-kept (rows_of w) client name change found.row found.named (sym is ∙ r)), by changed refl)
  where
    is : rows_of new ≡ with_named client name change (rows_of w)
    is = ap rows_of left ∙ rows-with_row w.entries client name key change kept.numbered.own_numbers kept.rows.names found.id

    by : (b : Bool) → changed ≡ b → (rows_of new ≡ rows_of w → ⊥) → changed ≡ true
    by true p n = p
    by false p n = absurd (n (is ∙ with_named-same w.entries client name change found.row kept.rows.names found.named (same p)))

changed_at : (es : List (ℕ × Row)) (id : ℕ) (change : Row → Row) (row : Row) → row_at es id ≡ Some row → row_at (with_row id change es) id ≡ Some (change row)
changed_at es id change row there = row_at-with_row es id change id ∙ rw (there, nat_eq_equiv.refl id) refl

-- what is read of the row before and after tells it, where a change that leaves what is read is none
pub tells_read : {V : Type 0} (obs : Row → V) (w new : Widgets) (client : ℕ) (name : List ℕ) (key : ℕ) (kind : Kind) (change : Row → Row) (before after : V) (same changed : Bool) → IsWidgets w → IsFound w client name key kind → new ≡ edited key change w → option_map obs (row_at w.entries key) ≡ Some before → option_map obs (row_at new.entries key) ≡ Some after → changed ≡ not same → (same ≡ true → before ≡ after) → (same ≡ false → before ≡ after → ⊥) → ((row : Row) → obs (change row) ≡ obs row → change row ≡ row) → TellsRows w new changed
tells_read {V} obs w new client name key kind change before after same changed kept found left first last is equal other none =
    tells_edit w new client name key kind change changed kept found left (λ h k. by same is h refl k) (λ h. none found.row (sym then ∙ sym (by_false same is h refl) ∙ now))
  where
    now : before ≡ obs found.row
    now = let one : Some before ≡ Some (obs found.row) = sym first ∙ ap (option_map obs) found.there in cc

    then : after ≡ obs (change found.row)
    then =
        let one : Some after ≡ Some (obs (change found.row)) = sym last ∙ ap (λ (v : Widgets). option_map obs (row_at v.entries key)) left ∙ ap (option_map obs) (changed_at w.entries key change found.row found.there) in
        cc

    by : (b : Bool) → changed ≡ not b → changed ≡ true → same ≡ b → change found.row ≡ found.row → ⊥
    by true p h q k = true≢false (sym h ∙ p)
    by false p h q k = other q (now ∙ ap obs (sym k) ∙ sym then)

    by_false : (b : Bool) → changed ≡ not b → changed ≡ false → same ≡ b → before ≡ after
    by_false true p h q = equal q
    by_false false p h q = absurd (true≢false (sym p ∙ h))

-- what is written is what was there, where the same is read
pub slice_set-same : {X : Type 0} (xs : List X) (i : ℕ) (v d : X) → slice_index_or (slice_set xs i v) i d ≡ slice_index_or xs i d → slice_set xs i v ≡ xs
slice_set-same [] i v d h = refl
slice_set-same (x ∷ xs) zero v d h = ap (λ (y : _). y ∷ xs) h
slice_set-same (x ∷ xs) (suc i) v d h = ap (λ (ys : List _). x ∷ ys) (slice_set-same xs i v d h)

pub option_eq-true : {X : Type 0} (eq : X → X → Bool) → ((a b : X) → eq a b ≡ true → a ≡ b) → (o p : Option X) → option_eq eq o p ≡ true → o ≡ p
option_eq-true eq each None None h = refl
option_eq-true eq each None (Some b) h = absurd (true≢false (sym h))
option_eq-true eq each (Some a) None h = absurd (true≢false (sym h))
option_eq-true eq each (Some a) (Some b) h = ap Some (each a b h)

pub option_eq-false : {X : Type 0} (eq : X → X → Bool) → ((a : X) → eq a a ≡ true) → (o p : Option X) → option_eq eq o p ≡ false → o ≡ p → ⊥
option_eq-false eq each o p h same = by p (rw same at h)
  where
    by : (p : Option _) → option_eq eq p p ≡ false → ⊥
    by None h = true≢false h
    by (Some a) h = true≢false (sym (each a) ∙ h)

pub is_some-map : {X Y : Type 0} (f : X → Y) (o : Option X) → is_some (option_map f o) ≡ is_some o
is_some-map f None = refl
is_some-map f (Some x) = refl

pub is_some-none : {X : Type 0} (o : Option X) → is_some o ≡ false → o ≡ None
is_some-none None h = refl
is_some-none (Some x) h = absurd (true≢false h)

pub rule_eq-true : (a b : ℕ × ℕ) → (nat_eq a.0 b.0 && nat_eq a.1 b.1) ≡ true → a ≡ b
rule_eq-true a b h =
    let parts = and_parts (nat_eq a.0 b.0) (nat_eq a.1 b.1) h in
    let first = eqb-true a.0 b.0 parts.0 in
    let second = eqb-true a.1 b.1 parts.1 in
    λ i. (first i, second i)

pub rule_eq-false : (a b : ℕ × ℕ) → (nat_eq a.0 b.0 && nat_eq a.1 b.1) ≡ false → a ≡ b → ⊥
rule_eq-false a b h same =
    let own : (nat_eq a.0 b.0 && nat_eq a.1 b.1) ≡ true = and_from _ _ (eq-eqb a.0 b.0 (ap (λ (r : ℕ × ℕ). r.0) same)) (eq-eqb a.1 b.1 (ap (λ (r : ℕ × ℕ). r.1) same)) in
    true≢false (sym own ∙ h)

-- the open windows stay
pub tells_all : (step : Desk → Reply × Desk) (old new : Widgets) (keys : List ℕ) (reply : Reply) (changed : Bool) → Did step old new reply → list_all (names_window (nodes old.entries)) keys ≡ true → TellsRows old new changed → TellsAll old new keys keys changed
tells_all step old new keys reply changed did windows tells =
    let titles = titles_kept (nodes old.entries) (nodes new.entries) keys did.kept windows in
    (λ h both. tells.0 h both.0, λ n. tells.1 (λ r. n (r, titles)))

-- the same where the roster may change
pub tells_listed : (step : Desk → Reply × Desk) (old new : Widgets) (keys : List ℕ) (roster roster' : RosterState) (reply : Reply) (changed : Bool) → DidListed step old new roster roster' reply → list_all (names_window (nodes old.entries)) keys ≡ true → TellsRows old new changed → TellsAll old new keys keys changed
tells_listed step old new keys roster roster' reply changed did windows tells =
    let titles = titles_kept (nodes old.entries) (nodes new.entries) keys did.kept windows in
    (λ h both. tells.0 h both.0, λ n. tells.1 (λ r. n (r, titles)))
