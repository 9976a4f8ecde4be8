use Rattle.std.proofs.Common.{List, sym, ap, ◌∙◌, subst}
use Rattle.std.specs.Prelude.{map}
use Rattle.std.specs.List.{fold}
use Rattle.widget_model.specs.Widgets.{Widgets, rows_of}
use Rattle.input_core.specs.Seen.{post_seen, effects_seen}
use Rattle.input_core.specs.declared.posts.Post.{Post}
use Rattle.desk_model.specs.Feeding.{with_post, rows_after}
use Rattle.desk_commands.specs.Pointer.{HoldsLive}
use Rattle.desk_inputs.proofs.FedParts.{holds-kept}
use Rattle.desk_inputs.proofs.GivenValues.{asked-live, moved-live}
use Rattle.desk_core.proofs.FedPlaces.{due-given}
use Rattle.desk_core.proofs.CarriedParts.{carried-all, given-due}
use Rattle.desk_core.proofs.feeding.carry_out.Goals as goal

pub lay_moved-requires-clause-value : goal.lay_moved-requires-clause-value
lay_moved-requires-clause-value c = asked-live c.args.tree.now c.set_values.new.tree c.set_values.ensures.rows.nodes c.args.effects.now.value c.requires.live.value

pub lay_moved-requires-clause-text : goal.lay_moved-requires-clause-text
lay_moved-requires-clause-text c = asked-live c.args.tree.now c.set_values.new.tree c.set_values.ensures.rows.nodes c.args.effects.now.text c.requires.live.text

pub lay_moved-requires-clause-caret : goal.lay_moved-requires-clause-caret
lay_moved-requires-clause-caret c = asked-live c.args.tree.now c.set_values.new.tree c.set_values.ensures.rows.nodes c.args.effects.now.caret c.requires.live.caret

pub lay_moved-requires-clause-moved : goal.lay_moved-requires-clause-moved
lay_moved-requires-clause-moved c = moved-live c.args.tree.now c.set_values.new.tree c.set_values.ensures.rows.nodes c.args.effects.now.moved c.requires.live.moved

pub let_go-requires-clause-live : goal.let_go-requires-clause-live
let_go-requires-clause-live c =
    let w = c.args.tree.now in
    let effects = c.args.effects.now in
    let H : Widgets → Type 0 = λ v. HoldsLive v.entries effects.pointer in
    subst H (sym c.lay_moved.ensures.changed.same)
    (holds-kept w c.set_values.new.tree (rows_after (effects_seen w.entries effects) (rows_of w)) effects.pointer c.set_values.ensures.rows c.requires.live.pointer)

pub lay_moved-requires-clause-due : goal.lay_moved-requires-clause-due
lay_moved-requires-clause-due c = due-given c.args.tree.now c.set_values.new.tree c.args.effects.now c.requires.parts.tree c.set_values.ensures.valid c.requires.placed c.set_values.ensures.rows

pub lay_moved-requires-clause-still : goal.lay_moved-requires-clause-still
lay_moved-requires-clause-still c = λ none.
    given-due c.args.tree.now c.set_values.new.tree c.args.effects.now c.requires.parts.tree c.set_values.ensures.valid c.set_values.ensures.rows c.requires.placed
    (c.requires.still (sym c.effects_move-moves.ensures ∙ none))

pub returns : goal.returns
returns c =
    let w = c.args.tree.now in
    let effects = c.args.effects.now in
    carried-all effects w c.set_values.new.tree c.lay_moved.new.tree c.args.windows.now c.raise-raised.new.windows c.args.clients.now c.post_all.new.clients c.let_go.new.pointer c.raise-raised.result
    c.raise-raised.ensures.parts c.raise-raised.ensures.windows c.raise-raised.ensures.tells (c.post_all.ensures ∙ ap (λ (posts : List Post). fold (with_post (rows_of w)) c.args.clients.now (map (post_seen w.entries) posts)) c.as_slice.ensures.items) c.set_values.ensures.rows c.set_values.ensures.valid c.lay_moved.ensures.changed
    c.gives_values.result c.effects_move-moves.result c.gives_values.ensures c.effects_move-moves.ensures
    c.told_by.result c.told_by.ensures.changed c.told_by.ensures.moved
    c.lay_moved.ensures.due c.let_go.ensures.live c.let_go.ensures.left
