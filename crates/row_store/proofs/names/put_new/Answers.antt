use Rattle.std.proofs.Common.{◌≡◌, ◌∷◌, ◌++◌, [], ℕ, List, Result, Ok, Err, None, is_ok, true, OnOk, sym, ap, ◌∙◌, subst}
use Rattle.std.proofs.lemmas.Bool.{true≢false}
use Rattle.std.specs.Map.{lookup}
use Rattle.indexmap.proofs.CallerLemmas.{insert_entry-new}
use Rattle.widget_model.specs.Rows.{Row, new_row}
use Rattle.widget_model.specs.Keys.{same_key}
use Rattle.widget_model.specs.Nodes.{Node, node_of}
use Rattle.widget_model.specs.Widgets.{nodes}
use Rattle.row_store.specs.Index.{IsIndexed}
use Rattle.row_store.proofs.UnderNumbers.{nodes-push}
use Rattle.row_store.proofs.UnderNames.{IsIndexed-push}
use Rattle.row_store.proofs.names.put_new.Goals as goal

on_ok : {T E : Type 0} (r : Result T E) (P : Type 0) → is_ok r ≡ true → OnOk r P → P
on_ok (Ok x) P k h = h
on_ok (Err e) P k h = absurd (true≢false (sym k))

pub returns-clause-indexed : goal.returns-clause-indexed
unfolding new_row
returns-clause-indexed c =
    let key : ℕ × List ℕ = (c.args.client, c.args.name) in
    let absent : lookup (same_key key) c.reserve.new.self.entries ≡ None = ap (lookup (same_key key)) (c.reserve.ensures.entries ∙ c.names.view_is) ∙ c.requires.indexed.finds c.args.client c.args.name ∙ c.requires.new_name in
    let listing : c.insert.new.self.entries ≡ c.args.names.now ++ (key, c.args.id) ∷ [] =
    on_ok c.insert.result _ (c.insert.ensures.succeeds c.in_ok-reserve.ensures.ok) c.insert.ensures.entries
    ∙ insert_entry-new same_key c.reserve.new.self key c.args.id absent
    ∙ ap (λ (es : List ((ℕ × List ℕ) × ℕ)). es ++ (key, c.args.id) ∷ []) (c.reserve.ensures.entries ∙ c.names.view_is) in
    let rows : c.push.new.self ≡ c.args.store.now ++ (c.args.id, new_row c.args.client c.args.name c.args.kind) ∷ [] =
    c.in_ok-push.ensures.ok ∙ ap (λ (row : Row). c.args.store.now ++ (c.args.id, row) ∷ []) c.new.ensures in
    let shown = ap nodes rows ∙ nodes-push c.args.store.now c.args.id (new_row c.args.client c.args.name c.args.kind) in
    let P : List ((ℕ × List ℕ) × ℕ) → Type 0 = λ names. IsIndexed names (nodes c.push.new.self) in
    let Q : List (ℕ × Node) → Type 0 = λ ns. IsIndexed (c.args.names.now ++ (key, c.args.id) ∷ []) ns in
    subst P (sym listing) (subst Q (sym shown) (IsIndexed-push c.args.names.now (nodes c.args.store.now) c.args.id (node_of (new_row c.args.client c.args.name c.args.kind)) c.requires.indexed))
