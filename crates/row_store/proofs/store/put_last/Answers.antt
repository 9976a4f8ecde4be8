use Rattle.std.proofs.Common.{◌≡◌, ℕ, [], ◌∷◌, ◌++◌, Option, nat_eq, sym, ap, ◌∙◌, subst}
use Rattle.slab.specs.Slab.{get as slab_get}
use Rattle.indexmap.proofs.CallerLemmas.{insert_entry-new}
use Rattle.widget_model.specs.Rows.{Row}
use Rattle.row_store.specs.Shown.{shown, IsShown}
use Rattle.row_store.proofs.ShownLemmas.{unlisted, shown-insert}
use Rattle.row_store.proofs.store.put_last.Goals as goal

pub returns-in_err-reserve-clause-kept : goal.returns-in_err-reserve-clause-kept
returns-in_err-reserve-clause-kept c =
    let P : (ℕ → Option Row) → Type 0 = λ at. IsShown at c.args.keys.now.entries in
    subst P (sym (ap slab_get c.reserve.ensures.rest_kept)) c.requires.kept

pub returns-in_err-insert-clause-kept : goal.returns-in_err-insert-clause-kept
returns-in_err-insert-clause-kept c =
    let P : (ℕ → Option Row) → Type 0 = λ at. IsShown at c.args.keys.now.entries in
    rw c.in_err-insert.ensures.err (subst P (sym (ap slab_get c.reserve.ensures.rest_kept)) c.requires.kept)

pub returns-clause-kept : goal.returns-clause-kept
returns-clause-kept c =
    let es = c.args.keys.now.entries in
    let at = slab_get c.reserve.new.self in
    let P : (ℕ → Option Row) → Type 0 = λ at. IsShown at es in
    let kept : IsShown at es = subst P (sym (ap slab_get c.reserve.ensures.rest_kept)) c.requires.kept in
    let absent = unlisted (slab_get c.args.rows.now) es c.args.id c.requires.kept c.requires.absent in
    let same : c.vacant_key-key.result ≡ c.insert_reserved.result = cc in
    let listing : c.insert.new.self.entries ≡ es ++ (c.args.id, c.insert_reserved.result) ∷ [] = c.in_ok-insert.ensures.entries ∙ insert_entry-new nat_eq c.args.keys.now c.args.id c.vacant_key-key.result absent ∙ ap (λ (k : ℕ). es ++ (c.args.id, k) ∷ []) same in
    rw listing (shown-insert at (slab_get c.insert_reserved.new.self) c.insert_reserved.result c.insert_reserved.ensures.updates.others es c.args.id c.args.row kept c.insert_reserved.ensures.was_vacant absent c.insert_reserved.ensures.updates.changed).1

pub returns-clause-ok : goal.returns-clause-ok
returns-clause-ok c =
    let es = c.args.keys.now.entries in
    let at = slab_get c.reserve.new.self in
    let P : (ℕ → Option Row) → Type 0 = λ at. IsShown at es in
    let as_before = ap slab_get c.reserve.ensures.rest_kept in
    let kept : IsShown at es = subst P (sym as_before) c.requires.kept in
    let absent = unlisted (slab_get c.args.rows.now) es c.args.id c.requires.kept c.requires.absent in
    let same : c.vacant_key-key.result ≡ c.insert_reserved.result = cc in
    let listing : c.insert.new.self.entries ≡ es ++ (c.args.id, c.insert_reserved.result) ∷ [] = c.in_ok-insert.ensures.entries ∙ insert_entry-new nat_eq c.args.keys.now c.args.id c.vacant_key-key.result absent ∙ ap (λ (k : ℕ). es ++ (c.args.id, k) ∷ []) same in
    ap (shown (slab_get c.insert_reserved.new.self)) listing ∙ (shown-insert at (slab_get c.insert_reserved.new.self) c.insert_reserved.result c.insert_reserved.ensures.updates.others es c.args.id c.args.row kept c.insert_reserved.ensures.was_vacant absent c.insert_reserved.ensures.updates.changed).0 ∙ ap (λ (at : ℕ → Option Row). shown at es ++ (c.args.id, c.args.row) ∷ []) as_before
