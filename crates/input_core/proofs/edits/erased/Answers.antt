use Rattle.std.proofs.Common.{◌≡◌, ◌-◌, true, ap, ◌∙◌, List, ℕ, refl}
use Rattle.std.specs.List.{remove}
use Rattle.kind_core.specs.Bytes.{is_text}
use Rattle.desk_model.proofs.Texts.{is_text-remove}
use Rattle.input_core.proofs.edits.erased.Goals as goal

pub unwrap-requires : goal.unwrap-requires
unwrap-requires c =
    let bytes : c.as_slice.result.now ≡ remove c.args.text.now (c.args.caret - 1) = c.as_slice.ensures.value ∙ c.remove-byte.ensures.items ∙ ap (λ (xs : List ℕ). remove xs (c.args.caret - 1)) c.bytes_of-bytes.ensures.bytes in
    let was : is_text c.args.text.now ≡ true = rw c.bytes_of-bytes.ensures.bytes at c.bytes_of-bytes.ensures.text in
    let is : is_text c.as_slice.result.now ≡ true = ap is_text bytes ∙ is_text-remove c.args.text.now (c.args.caret - 1) was in
    rw (c.text_from.ensures, is) refl
