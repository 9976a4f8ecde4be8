use Rattle.std.proofs.Common.{ℕ, ℤ, pos, ◌≡◌, ◌++◌, ◌∙◌, ap, ap₂, sym, w32, to_z, of_z, map, length, List, [], Option, Some, None, arith}
use Rattle.std.specs.Option.{option_map, option_map_or}
use Rattle.std.proofs.lemmas.Int.{to_z-of_z, to_z_pos}
use Rattle.kind_core.specs.declared.kinds.Attr.TheVariants.{Text}
use Rattle.kind_core.specs.declared.kinds.EventKind.{EventKind}
use Rattle.kind_core.specs.declared.kinds.EventKind.TheVariants.{Key, Change}
use Rattle.widget_model.specs.Keys.{key_of}
use Rattle.scene_model.specs.Values.{text_of, caret_of}
use Rattle.tree_core.specs.Holds.{pointer_seen}
use Rattle.desk_model.specs.InputEffects.{only_pointer, posted}
use Rattle.desk_model.specs.InputEdits.{edit_of}
use Rattle.input_core.specs.declared.effects.Effects.{Effects}
use Rattle.input_core.specs.Edited.{edit_seen}
use Rattle.input_core.specs.Numbered.{numbered}
use Rattle.input_core.specs.Seen.{effects_seen, post_seen}
use Rattle.input_core.proofs.Keys.{key_seen-numbered}
use Rattle.input_core.proofs.Effected.{two_posts, key_on_entry-edit}
use Rattle.input_core.proofs.key.key_on_entry.Goals as goal

pub returns-in-None-text-clause-seen : goal.returns-in-None-text-clause-seen
returns-in-None-text-clause-seen c =
    let es = c.args.tree.now.entries in
    let row = numbered es c.args.id.key in
    let pointer = pointer_seen es c.args.pointer in
    let n = c.in-Some.edit.caret in
    let edit : Some (edit_seen c.in-Some.edit) ≡ edit_of c.args.byte (text_of Text row) (caret_of row) = c.in-Some.ensures.edit ∙ ap₂ (edit_of c.args.byte) c.text-old.ensures c.caret.ensures.caret in
    let caret : to_z w32 n ≡ pos n = to_z_pos w32 n (omega (arith, c.in-Some.ensures.small)) in
    let byte : to_z w32 (of_z w32 c.from.result) ≡ pos c.args.byte = to_z-of_z w32 c.from.result (record { sfits = c.from.type_inv }) ∙ c.from.ensures in
    let key = key_seen-numbered es c.args.id c.requires.live in
    let posts : map (post_seen es) c.of-effects-in-None-text.result ≡ posted Key (pos c.args.byte) (pos 0) row ++ [] = ap (map (post_seen es)) c.of-effects-in-None-text.ensures ∙ two_posts es c.posted-key.result None ∙ ap (λ (xs : List ((ℕ × List ℕ) × EventKind × ℤ × ℤ)). xs ++ []) c.posted-key.ensures.posted ∙ ap (λ (k : ℤ). posted Key k (pos 0) row ++ []) byte in
    ap (λ (e : Effects). effects_seen es (record e { caret = Some (c.args.id, to_z w32 n); posts = c.of-effects-in-None-text.result })) c.only_pointer-effects.ensures
    ∙ (λ i. record (only_pointer pointer) { caret = Some (key i, caret i); posts = posts i })
    ∙ sym (key_on_entry-edit pointer c.args.byte row (Some (edit_seen c.in-Some.edit)) edit ∙ ap (λ (text : Option (List ℕ)). record (only_pointer pointer) { text = option_map (λ (t : List ℕ). (key_of row, t)) text; caret = Some (key_of row, pos n); posts = posted Key (pos c.args.byte) (pos 0) row ++ option_map_or (λ (t : List ℕ). posted Change (pos (length t)) (pos 0) row) text [] }) c.in-None-text.is)

pub returns-clause-seen : goal.returns-clause-seen
returns-clause-seen c =
    let es = c.args.tree.now.entries in
    let row = numbered es c.args.id.key in
    let pointer = pointer_seen es c.args.pointer in
    let n = c.in-Some.edit.caret in
    let text = c.in-Some-text.text in
    let edit : Some (edit_seen c.in-Some.edit) ≡ edit_of c.args.byte (text_of Text row) (caret_of row) = c.in-Some.ensures.edit ∙ ap₂ (edit_of c.args.byte) c.text-old.ensures c.caret.ensures.caret in
    let caret : to_z w32 n ≡ pos n = to_z_pos w32 n (omega (arith, c.in-Some.ensures.small)) in
    let byte : to_z w32 (of_z w32 c.from.result) ≡ pos c.args.byte = to_z-of_z w32 c.from.result (record { sfits = c.from.type_inv }) ∙ c.from.ensures in
    let size : to_z w32 (length c.as_slice.result.now) ≡ pos (length text) = to_z_pos w32 (length c.as_slice.result.now) (omega (arith, c.as_slice.ensures.short)) ∙ ap (λ (t : List ℕ). pos (length t)) c.as_slice.ensures.bytes in
    let key = key_seen-numbered es c.args.id c.requires.live in
    let posts : map (post_seen es) c.of-effects-2.result ≡ posted Key (pos c.args.byte) (pos 0) row ++ posted Change (pos (length text)) (pos 0) row = ap (map (post_seen es)) c.of-effects-2.ensures ∙ two_posts es c.posted-key.result c.posted.result ∙ ap₂ (λ (xs ys : List ((ℕ × List ℕ) × EventKind × ℤ × ℤ)). xs ++ ys) (c.posted-key.ensures.posted ∙ ap (λ (k : ℤ). posted Key k (pos 0) row) byte) (c.posted.ensures.posted ∙ ap (λ (k : ℤ). posted Change k (pos 0) row) size) in
    ap (λ (e : Effects). effects_seen es (record e { text = Some (c.args.id, text); caret = Some (c.args.id, to_z w32 n); posts = c.of-effects-2.result })) c.only_pointer-effects.ensures
    ∙ (λ i. record (only_pointer pointer) { text = Some (key i, text); caret = Some (key i, caret i); posts = posts i })
    ∙ sym (key_on_entry-edit pointer c.args.byte row (Some (edit_seen c.in-Some.edit)) edit ∙ ap (λ (text : Option (List ℕ)). record (only_pointer pointer) { text = option_map (λ (t : List ℕ). (key_of row, t)) text; caret = Some (key_of row, pos n); posts = posted Key (pos c.args.byte) (pos 0) row ++ option_map_or (λ (t : List ℕ). posted Change (pos (length t)) (pos 0) row) text [] }) c.in-Some-text.is)
