use Rattle.std.proofs.Common.{pos, ◌≡◌, ◌∙◌, ap, ap₂, sym, w32, to_z, of_z, length, Some, arith}
use Rattle.std.proofs.lemmas.Int.{to_z_pos, to_z-of_z}
use Rattle.kind_core.specs.declared.kinds.Attr.TheVariants.{Text}
use Rattle.widget_model.specs.Widgets.{rows_of}
use Rattle.scene_model.specs.Values.{text_of}
use Rattle.tree_core.specs.Holds.{pointer_seen}
use Rattle.desk_model.specs.InputEffects.{local_x}
use Rattle.desk_model.specs.InputEdits.{caret_at}
use Rattle.input_core.specs.Numbered.{numbered}
use Rattle.input_core.specs.Seen.{effects_seen}
use Rattle.input_core.proofs.Keys.{key_seen-numbered}
use Rattle.input_core.proofs.Effected.{press_on-entry}
use Rattle.input_core.proofs.press.press_on.Goals as goal

pub returns-in-Entry-clause-seen : goal.returns-in-Entry-clause-seen
returns-in-Entry-clause-seen c =
    let es = c.args.tree.now.entries in
    let row = numbered es c.args.id.key in
    let pointer = pointer_seen es c.args.pointer.now in
    let u : to_z w32 (of_z w32 c.local_x.result) ≡ local_x pointer c.args.place = to_z-of_z w32 c.local_x.result (record { sfits = c.local_x.type_inv }) ∙ c.local_x.ensures in
    let n : c.caret_at-caret.result ≡ caret_at (local_x pointer c.args.place) (length (text_of Text row)) = c.caret_at-caret.ensures.caret ∙ ap₂ caret_at u (ap length (c.as_slice.ensures.bytes ∙ c.text.ensures)) in
    let caret : to_z w32 c.caret_at-caret.result ≡ pos (caret_at (local_x pointer c.args.place) (length (text_of Text row))) = to_z_pos w32 c.caret_at-caret.result (omega (arith, c.caret_at-caret.ensures.within, c.as_slice.ensures.short)) ∙ ap pos n in
    let key = key_seen-numbered es c.args.id c.requires.live in
    (λ i. record (effects_seen es c.args.effects) { caret = Some (key i, caret i) })
    ∙ sym (press_on-entry row.kind (rows_of c.args.tree.now) pointer c.args.place row (effects_seen es c.args.effects) (sym c.kind.ensures ∙ c.in-Entry.is))
