use Rattle.std.proofs.Common.{ℤ, ◌≡◌, ◌&&◌, ◌∙◌, ap, ap₂, sym, subst, w32, to_z, of_z, map, false, Some, None}
use Rattle.std.specs.Ordering.{int_eq}
use Rattle.std.proofs.lemmas.Int.{to_z-of_z}
use Rattle.kind_core.specs.declared.kinds.Attr.TheVariants.{X, Y}
use Rattle.kind_core.specs.declared.kinds.EventKind.TheVariants.{Move}
use Rattle.scene_model.specs.Values.{number_of}
use Rattle.tree_core.specs.Holds.{pointer_seen}
use Rattle.desk_model.specs.InputEffects.{only_pointer, posted}
use Rattle.input_core.specs.declared.effects.Effects.{Effects}
use Rattle.input_core.specs.Numbered.{numbered}
use Rattle.input_core.specs.Live.{AreLive}
use Rattle.input_core.specs.Seen.{effects_seen, post_seen}
use Rattle.input_core.proofs.Keys.{key_seen-numbered}
use Rattle.input_core.proofs.Effected.{one_post, dragged-moves, live_posts}
use Rattle.input_core.proofs.motion.dragged.Goals as goal

pub returns-clause-seen : goal.returns-clause-seen
returns-clause-seen c =
    let es = c.args.tree.now.entries in
    let row = numbered es c.args.id.key in
    let pointer = pointer_seen es c.args.pointer in
    let a = c.dragged_to-x.result in
    let b = c.dragged_to-y.result in
    let x : to_z w32 (of_z w32 a) ≡ a = to_z-of_z w32 a (record { sfits = c.dragged_to-x.type_inv }) in
    let y : to_z w32 (of_z w32 b) ≡ b = to_z-of_z w32 b (record { sfits = c.dragged_to-y.type_inv }) in
    let apart : (int_eq a (number_of X row) && int_eq b (number_of Y row)) ≡ false = sym (ap₂ (λ (m n : ℤ). int_eq m (number_of X row) && int_eq n (number_of Y row)) x y) ∙ sym c.is_at.ensures ∙ c.if-is_at.false in
    let key = key_seen-numbered es c.args.id c.requires.live in
    let posts : map (post_seen es) c.of-effects.result ≡ posted Move a b row = ap (map (post_seen es)) c.of-effects.ensures ∙ one_post es c.posted.result ∙ c.posted.ensures.posted ∙ ap₂ (λ (m n : ℤ). posted Move m n row) x y in
    ap (λ (e : Effects). effects_seen es (record e { moved = Some (c.args.id, to_z w32 (of_z w32 a), to_z w32 (of_z w32 b)); posts = c.of-effects.result })) c.only_pointer-effects.ensures
    ∙ (λ i. record (only_pointer pointer) { moved = Some (key i, x i, y i); posts = posts i })
    ∙ sym (dragged-moves pointer c.args.dx c.args.dy row a b c.dragged_to-x.ensures c.dragged_to-y.ensures apart)

pub returns-clause-live : goal.returns-clause-live
returns-clause-live c =
    subst (λ (e : Effects). AreLive c.args.tree.now (record e { moved = Some (c.args.id, to_z w32 (of_z w32 c.dragged_to-x.result), to_z w32 (of_z w32 c.dragged_to-y.result)); posts = c.of-effects.result })) (sym c.only_pointer-effects.ensures)
    (record { pointer = c.requires.holds; raise = tt; value = tt; text = tt; caret = tt; moved = c.requires.live; posts = live_posts c.args.tree.now c.posted.result None c.of-effects.result c.of-effects.ensures c.posted.ensures.live tt })
