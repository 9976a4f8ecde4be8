use Rattle.std.proofs.Common.{rules, ℕ, ℤ, List, Option, Some, w32, SFits, sym, ap, ap₂, ◌∙◌}
use Rattle.std.specs.Option.{option_map}
use Rattle.std.proofs.lemmas.Int.{to_z-of_z}
use Rattle.bind_core.specs.Ring.{Event}
use Rattle.desk_inputs.proofs.Tags.{tag_of-live}
use Rattle.desk_inputs.proofs.posting.posted_of.Goals as goal

pub returns-in-Some : goal.returns-in-Some
returns-in-Some c =
    let post = c.args.post in
    let tag_is = tag_of-live c.args.tree.now post.id post.event c.binding.result c.binding.ensures.valid c.requires c.binding.ensures.tag in
    let told : List ℕ → Event = λ tag. (tag, post.event, post.a, post.b) in
    let a : SFits w32 post.a = search rules in
    let b : SFits w32 post.b = search rules in
    let some_at : ℤ → ℤ → Option Event = λ m n. Some (c.in-Some.tag, post.event, m, n) in
    ap₂ some_at (to_z-of_z w32 post.a a) (to_z-of_z w32 post.b b)
    ∙ sym (ap (option_map told) (tag_is ∙ c.in-Some.is))

pub returns-in-None : goal.returns-in-None
returns-in-None c =
    let post = c.args.post in
    let tag_is = tag_of-live c.args.tree.now post.id post.event c.binding.result c.binding.ensures.valid c.requires c.binding.ensures.tag in
    let told : List ℕ → Event = λ tag. (tag, post.event, post.a, post.b) in
    sym (ap (option_map told) (tag_is ∙ c.in-None.is))
