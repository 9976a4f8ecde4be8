use Rattle.std.proofs.Common.{◌≡◌, true, ap, ◌∙◌, List, ℕ, refl}
use Rattle.std.specs.List.{insert}
use Rattle.kind_core.specs.Bytes.{is_text}
use Rattle.desk_model.proofs.Texts.{is_text-insert}
use Rattle.input_core.proofs.edits.typed.Goals as goal

pub unwrap-requires : goal.unwrap-requires
unwrap-requires c =
    let bytes : c.as_slice.result.now ≡ insert c.args.text.now c.args.caret c.args.byte = c.as_slice.ensures.value ∙ c.insert.ensures.items ∙ ap (λ (xs : List ℕ). insert xs c.args.caret c.args.byte) c.bytes_of-bytes.ensures.bytes in
    let was : is_text c.args.text.now ≡ true = rw c.bytes_of-bytes.ensures.bytes at c.bytes_of-bytes.ensures.text in
    let is : is_text c.as_slice.result.now ≡ true = ap is_text bytes ∙ is_text-insert c.args.text.now c.args.caret c.args.byte c.requires.prints c.requires.room c.requires.caret was in
    rw (c.text_from.ensures, is) refl
