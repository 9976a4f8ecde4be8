-- Values that are given one after the other: what one leaves for the next.
use Rattle.std.proofs.Common.{◌≡◌, ℕ, ℤ, true, List, [], Option, Some, None, Err, is_ok, is_some, unwrap_or, refl, sym, ap, ◌∙◌, subst}
use Rattle.std.specs.Prelude.{IfSome}
use Rattle.std.specs.Option.{option_map, option_map_or}
use Rattle.kind_core.specs.declared.kinds.Kind.{Kind}
use Rattle.kind_core.specs.declared.kinds.Kind.TheVariants.{Window}
use Rattle.kind_core.specs.declared.kinds.Attr.{Attr}
use Rattle.kind_core.specs.declared.kinds.Attr.TheVariants.{X, Y}
use Rattle.kind_core.specs.declared.values.Value as value
use Rattle.kind_core.specs.declared.values.Value.TheVariants.{Number}
use Rattle.widget_model.specs.Rows.{Row, new_row, with_attr}
use Rattle.widget_model.specs.Nodes.{Node, node_of, node_at}
use Rattle.kind_core.specs.declared.values.AttrRefusal.{AttrRefusal}
use Rattle.kind_core.specs.Attributes.{domain_of, judged}
use Rattle.widget_model.specs.Keys.{key_of, row_of}
use Rattle.widget_model.specs.Named.{is_kind_of}
use Rattle.widget_model.specs.Widgets.{Widgets, IsLive, nodes, row_at, key_at, rows_of, edited}
use Rattle.widget_model.specs.Forest.{IsWidgets}
use Rattle.desk_model.specs.Feeding.{with_value_at}
use Rattle.desk_model.specs.InputFacts.{takes}
use Rattle.tree_core.specs.declared.id.Id.{Id}
use Rattle.input_core.specs.Numbered.{numbered}
use Rattle.input_core.specs.Seen.{key_seen}
use Rattle.widget_model.proofs.Naming.{id_named-row, rows-with_row}
use Rattle.tree_core.proofs.ForestLemmas.{node_at-nodes, nodes-with_row}
use Rattle.std.proofs.lemmas.Bool.{true≢false}
use Rattle.input_core.proofs.Numbers.{numbered_row, numbered_by}
use Rattle.input_core.proofs.Keys.{key_seen-numbered, row_of-numbered}
use Rattle.desk_layout.proofs.KeyNumbers.{key_at-node}
use Rattle.desk_inputs.specs.Carried.{HasRows}

pub HasRows-same : (w : Widgets) → HasRows w w (rows_of w)
HasRows-same w = record { rows = refl; nodes = refl; clients = refl; places = refl }

-- a value that was set
pub HasRows-set : (w new : Widgets) (id : Id) (attr : Attr) (v : value.Value) → IsWidgets w → IsLive w id.key → new ≡ edited id.key (with_attr attr v) w → HasRows w new (with_value_at (key_seen w.entries id) attr v (rows_of w))
HasRows-set w new id attr v kept live is =
    let row = numbered w.entries id.key in
    let named = id_named-row w.entries id.key row kept.rows.names (numbered_row w.entries id.key live) in
    let P : Widgets → Type 0 = λ n. HasRows w n (with_value_at (key_seen w.entries id) attr v (rows_of w)) in
    subst P (sym is)
    (record {
      rows =
          rows-with_row w.entries row.client row.name id.key (with_attr attr v) kept.numbered.own_numbers kept.rows.names named
          ∙ ap (λ (key : ℕ × List ℕ). with_value_at key attr v (rows_of w)) (sym (key_seen-numbered w.entries id live));
      nodes = nodes-with_row w.entries id.key (with_attr attr v) (λ row. refl);
      clients = refl;
      places = refl;
    })

-- the same nodes have the same keys
pub key_at-kept : (old new : List (ℕ × Row)) (id : ℕ) → nodes new ≡ nodes old → key_at new id ≡ key_at old id
key_at-kept old new id same = key_at-node new id ∙ ap (λ (ns : List (ℕ × Node)). option_map (λ (node : Node). (node.client, node.name)) (node_at ns id)) same ∙ sym (key_at-node old id)

pub key_seen-kept : (old new : List (ℕ × Row)) (id : Id) → nodes new ≡ nodes old → key_seen new id ≡ key_seen old id
key_seen-kept old new id same = ap (λ (key : Option (ℕ × List ℕ)). unwrap_or key (0, [])) (key_at-kept old new id.key same)

-- and the same numbers are live
live-key : (es : List (ℕ × Row)) (id : ℕ) → is_some (row_at es id) ≡ is_some (key_at es id)
live-key es id = by (row_at es id)
  where
    by : (o : Option Row) → is_some o ≡ is_some (option_map key_of o)
    by None = refl
    by (Some row) = refl

pub live-kept : (old new : List (ℕ × Row)) (id : ℕ) → nodes new ≡ nodes old → is_some (row_at old id) ≡ true → is_some (row_at new id) ≡ true
live-kept old new id same live = live-key new id ∙ ap is_some (key_at-kept old new id same) ∙ sym (live-key old id) ∙ live

-- what was done first, and then
pub HasRows-then : (a b c : Widgets) (first : List Row) (more : List Row → List Row) (next : List Row) → HasRows a b first → HasRows b c next → next ≡ more (rows_of b) → HasRows a c (more first)
HasRows-then a b c first more next one two is =
    record {
      rows = two.rows ∙ is ∙ ap more one.rows;
      nodes = two.nodes ∙ one.nodes;
      clients = two.clients ∙ one.clients;
      places = two.places ∙ one.places;
    }

-- what a live number's widget takes, by its row
takes-numbered : (w : Widgets) (id : Id) (attr : Attr) (v : value.Value) → IsWidgets w → IsLive w id.key → takes (rows_of w) (key_seen w.entries id) attr v ≡ is_ok (judged (domain_of (numbered w.entries id.key).kind attr) v)
takes-numbered w id attr v kept live =
    ap (is_kind_of (λ (kind : Kind). is_ok (judged (domain_of kind attr) v))) (ap (row_of (rows_of w)) (key_seen-numbered w.entries id live) ∙ row_of-numbered w id.key kept live)

-- A value that the kind takes is never refused.
pub never-refused : (w : Widgets) (id : Id) (attr : Attr) (v : value.Value) (refusal : AttrRefusal) → IsWidgets w → IsLive w id.key → takes (rows_of w) (key_seen w.entries id) attr v ≡ true → option_map (λ (row : Row). judged (domain_of row.kind attr) v) (row_at w.entries id.key) ≡ Some (Err refusal) → ⊥
never-refused w id attr v refusal kept live taken answer =
    let err = numbered_by (λ (row : Row). judged (domain_of row.kind attr) v) w.entries id.key (Err refusal) answer in
    true≢false (sym taken ∙ takes-numbered w id attr v kept live ∙ ap is_ok err)

-- A kind stays with its node, and so does what it takes.
kind-node : (es : List (ℕ × Row)) (id : ℕ) → (numbered es id).kind ≡ option_map_or (λ (node : Node). node.kind) (node_at (nodes es) id) Window
unfolding numbered new_row
kind-node es id = by (row_at es id) ∙ sym (ap (λ (o : Option Node). option_map_or (λ (node : Node). node.kind) o Window) (node_at-nodes es id))
  where
    by : (o : Option Row) → (unwrap_or o (new_row 0 [] Window)).kind ≡ option_map_or (λ (node : Node). node.kind) (option_map node_of o) Window
    by None = refl
    by (Some row) = refl

pub taken-kept : (old new : Widgets) (id : Id) (attr : Attr) (v : value.Value) → IsWidgets old → IsWidgets new → IsLive old id.key → nodes new.entries ≡ nodes old.entries → takes (rows_of old) (key_seen old.entries id) attr v ≡ true → takes (rows_of new) (key_seen new.entries id) attr v ≡ true
taken-kept old new id attr v valid sound live same taken =
    let kind = kind-node new.entries id.key ∙ ap (λ (ns : List (ℕ × Node)). option_map_or (λ (node : Node). node.kind) (node_at ns id.key) Window) same ∙ sym (kind-node old.entries id.key) in
    takes-numbered new id attr v sound (live-kept old.entries new.entries id.key same live)
    ∙ ap (λ (k : Kind). is_ok (judged (domain_of k attr) v)) kind
    ∙ sym (takes-numbered old id attr v valid live)
    ∙ taken

-- What is asked for, by keys.
abbrev pub asked_seen : {T : Type 0} → List (ℕ × Row) → Id × T → (ℕ × List ℕ) × T
asked_seen es set = (key_seen es set.0, set.1)

abbrev pub moved_seen : List (ℕ × Row) → Id × ℤ × ℤ → (ℕ × List ℕ) × ℤ × ℤ
moved_seen es set = (key_seen es set.0, set.1, set.2)

-- What is asked for next can be done after what was done, and is the same then.
module _ (old new : Widgets) (same : nodes new.entries ≡ nodes old.entries) where
  pub asked-live : {T : Type 0} (o : Option (Id × T)) → IfSome o (λ set. IsLive old set.0.key) → IfSome o (λ set. IsLive new set.0.key)
  asked-live None live = tt
  asked-live (Some set) live = live-kept old.entries new.entries set.0.key same live

  pub moved-live : (o : Option (Id × ℤ × ℤ)) → IfSome o (λ set. IsLive old set.0.key) → IfSome o (λ set. IsLive new set.0.key)
  moved-live None live = tt
  moved-live (Some set) live = live-kept old.entries new.entries set.0.key same live

  pub asked-same : {T : Type 0} (o : Option (Id × T)) → option_map (asked_seen new.entries) o ≡ option_map (asked_seen old.entries) o
  asked-same None = refl
  asked-same (Some set) = ap (λ (key : ℕ × List ℕ). Some (key, set.1)) (key_seen-kept old.entries new.entries set.0 same)

  pub moved-same : (o : Option (Id × ℤ × ℤ)) → option_map (moved_seen new.entries) o ≡ option_map (moved_seen old.entries) o
  moved-same None = refl
  moved-same (Some set) = ap (λ (key : ℕ × List ℕ). Some (key, set.1, set.2)) (key_seen-kept old.entries new.entries set.0 same)

  module _ (valid : IsWidgets old) (sound : IsWidgets new) where
    pub asked-taken : {T : Type 0} (attr : Attr) (given : T → value.Value) (o : Option (Id × T)) → IfSome o (λ set. IsLive old set.0.key) → IfSome (option_map (asked_seen old.entries) o) (λ ask. takes (rows_of old) ask.0 attr (given ask.1) ≡ true) → IfSome o (λ set. takes (rows_of new) (key_seen new.entries set.0) attr (given set.1) ≡ true)
    asked-taken attr given None live taken = tt
    asked-taken attr given (Some set) live taken = taken-kept old new set.0 attr (given set.1) valid sound live same taken

    pub moved-taken : (o : Option (Id × ℤ × ℤ)) → IfSome o (λ set. IsLive old set.0.key) → IfSome (option_map (moved_seen old.entries) o) (λ ask. (takes (rows_of old) ask.0 X (Number ask.1) ≡ true) × (takes (rows_of old) ask.0 Y (Number ask.2) ≡ true)) → IfSome o (λ set. (takes (rows_of new) (key_seen new.entries set.0) X (Number set.1) ≡ true) × (takes (rows_of new) (key_seen new.entries set.0) Y (Number set.2) ≡ true))
    moved-taken None live taken = tt
    moved-taken (Some set) live taken = (taken-kept old new set.0 X (Number set.1) valid sound live same taken.0, taken-kept old new set.0 Y (Number set.2) valid sound live same taken.1)
