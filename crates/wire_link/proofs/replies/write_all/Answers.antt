use Rattle.std.proofs.Common.{rules, ◌++◌, ◌∙◌, ap, take, subst}
use Rattle.std.specs.Io.KnownBytes.{Appends}
use Rattle.std.proofs.lemmas.List.{take_rest}
use Rattle.outside_io.proofs.Front.{take-append-take}
use Rattle.outside_io.proofs.Told.{Appends-append}
use Rattle.wire_link.proofs.replies.write_all.Goals as goal

pub loop-written-preserved : goal.loop-written-preserved
loop-written-preserved g c =
    let bytes = c.args.bytes.now in
    let written = c.loop-written.written in
    let count = c.in-Ok.count in
    let one = ap (λ xs. take written bytes ++ take count xs) (take_rest bytes written) ∙ take-append-take written count bytes in
    record {
      within = search rules;
      appended = subst (Appends _ _) one (Appends-append _ _ _ _ _ c.loop-written.invariant.appended c.in-Ok.ensures.bytes);
      still = search rules;
      steady = search rules;
    }
