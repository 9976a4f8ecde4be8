use Rattle.std.proofs.Common.{ℤ, pos, ◌≡◌, ◌∙◌, ap, sym, w32, true, unsigned_abs, int_lt, arith}
use Rattle.std.proofs.lemmas.Int.{to_z-of_z, ints}
use Rattle.std.proofs.lemmas.Grind.{common_steps}
use Rattle.widget_model.specs.Keys.{key_of}
use Rattle.widget_model.specs.Pointer.{Grab, drags}
use Rattle.tree_core.specs.Holds.{pointer_seen}
use Rattle.desk_model.specs.InputEffects.{local_x, local_y}
use Rattle.input_core.specs.Numbered.{numbered}
use Rattle.input_core.specs.Seen.{effects_seen}
use Rattle.input_core.proofs.Steps.{grab-drag}
use Rattle.input_core.proofs.Effected.{grabbed_title-there}
use Rattle.input_core.proofs.press.grabbed_title.Goals as goal

pub returns-clause-seen : goal.returns-clause-seen
returns-clause-seen c =
    let es = c.args.tree.now.entries in
    let row = numbered es c.args.id.key in
    let pointer = pointer_seen es c.args.pointer.now in
    let seen = effects_seen es c.args.effects in
    let dx : c.unsigned_abs.result ≡ unsigned_abs (local_x pointer c.args.place) = c.unsigned_abs.ensures.value ∙ ap unsigned_abs (to_z-of_z w32 c.local_x.result (record { sfits = c.local_x.type_inv }) ∙ c.local_x.ensures) in
    let dy : c.unsigned_abs-2.result ≡ unsigned_abs (local_y pointer c.args.place) = c.unsigned_abs-2.ensures.value ∙ ap unsigned_abs (to_z-of_z w32 c.local_y-v.result (record { sfits = c.local_y-v.type_inv }) ∙ c.local_y-v.ensures) in
    let v = c.if-v-ge12.false in
    let there : int_lt (local_y pointer c.args.place) (pos 12) ≡ true = ap (λ (z : ℤ). int_lt z (pos 12)) (sym (to_z-of_z w32 c.local_y-v.result (record { sfits = c.local_y-v.type_inv }) ∙ c.local_y-v.ensures)) ∙ grind (arith, ints, common_steps, v) in
    ap (λ (grab : Grab). record seen { pointer = record seen.pointer { grab = grab } }) (grab-drag es c.args.id c.unsigned_abs.result c.unsigned_abs-2.result c.requires.live)
    ∙ (λ i. record seen { pointer = record seen.pointer { grab = drags (key_of row) (dx i) (dy i) } })
    ∙ sym (grabbed_title-there pointer c.args.place row seen there)
