use Rattle.std.proofs.Common.{◌≡◌, ℤ, ◌∙◌, w32, to_z, of_z, ap₂, ◌∷◌, []}
use Rattle.std.proofs.lemmas.Int.{to_z-of_z}
use Rattle.input_core.specs.Seen.{key_seen}
use Rattle.input_core.proofs.Posting.{posted-bound, posted-unbound}
use Rattle.input_core.proofs.reading.posted.Goals as goal

pub returns-in-Some-clause-posted : goal.returns-in-Some-clause-posted
returns-in-Some-clause-posted c =
    let es = c.args.tree.now.entries in
    let a : to_z w32 (of_z w32 c.args.a) ≡ c.args.a = to_z-of_z w32 c.args.a c.ranges.a in
    let b : to_z w32 (of_z w32 c.args.b) ≡ c.args.b = to_z-of_z w32 c.args.b c.ranges.b in
    ap₂ (λ (a b : ℤ). (key_seen es c.args.id, c.args.event, a, b) ∷ []) a b ∙ posted-bound es c.args.id c.args.event c.args.a c.args.b c.in-Some.field-0 c.requires c.in-Some.ensures.tag

pub returns-in-None-clause-posted : goal.returns-in-None-clause-posted
returns-in-None-clause-posted c = posted-unbound c.args.tree.now.entries c.args.id.key c.args.event c.args.a c.args.b c.in-None.ensures.tag
