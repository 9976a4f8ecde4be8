use Rattle.std.proofs.Common.{ℕ, ℤ, List, Option, ap, ◌∙◌}
use Rattle.std.specs.Option.{option_map}
use Rattle.kind_core.specs.declared.kinds.Attr.TheVariants.{Caret, Text, Value}
use Rattle.kind_core.specs.declared.values.Value.TheVariants.{Number, Words}
use Rattle.widget_model.specs.Widgets.{rows_of}
use Rattle.desk_model.specs.Feeding.{with_number, with_text, with_moved}
use Rattle.desk_inputs.specs.Carried.{HasRows}
use Rattle.desk_inputs.proofs.GivenValues.{HasRows-then, asked_seen, moved_seen, asked-live, moved-live, asked-taken, moved-taken, asked-same, moved-same}
use Rattle.desk_inputs.proofs.values.set_values.Goals as goal

pub set_text-requires-clause-live : goal.set_text-requires-clause-live
set_text-requires-clause-live c = asked-live c.args.tree.now c.set_number.new.tree c.set_number.ensures.rows.nodes c.args.effects.now.text c.requires.live.text

pub set_text-requires-clause-taken : goal.set_text-requires-clause-taken
set_text-requires-clause-taken c =
    asked-taken c.args.tree.now c.set_number.new.tree c.set_number.ensures.rows.nodes c.requires.valid c.set_number.ensures.valid Text Words c.args.effects.now.text c.requires.live.text c.requires.taken.text

pub set_number-requires-2-clause-live : goal.set_number-requires-2-clause-live
set_number-requires-2-clause-live c =
    asked-live c.args.tree.now c.set_text.new.tree (c.set_text.ensures.rows.nodes ∙ c.set_number.ensures.rows.nodes) c.args.effects.now.caret c.requires.live.caret

pub set_number-requires-2-clause-taken : goal.set_number-requires-2-clause-taken
set_number-requires-2-clause-taken c =
    asked-taken c.args.tree.now c.set_text.new.tree (c.set_text.ensures.rows.nodes ∙ c.set_number.ensures.rows.nodes) c.requires.valid c.set_text.ensures.valid Caret Number c.args.effects.now.caret c.requires.live.caret c.requires.taken.caret

pub set_moved-requires-clause-live : goal.set_moved-requires-clause-live
set_moved-requires-clause-live c =
    moved-live c.args.tree.now c.set_number-2.new.tree (c.set_number-2.ensures.rows.nodes ∙ c.set_text.ensures.rows.nodes ∙ c.set_number.ensures.rows.nodes) c.args.effects.now.moved c.requires.live.moved

pub set_moved-requires-clause-taken : goal.set_moved-requires-clause-taken
set_moved-requires-clause-taken c =
    moved-taken c.args.tree.now c.set_number-2.new.tree (c.set_number-2.ensures.rows.nodes ∙ c.set_text.ensures.rows.nodes ∙ c.set_number.ensures.rows.nodes) c.requires.valid c.set_number-2.ensures.valid c.args.effects.now.moved c.requires.live.moved c.requires.taken.moved

pub returns-clause-rows : goal.returns-clause-rows
returns-clause-rows c =
    let w = c.args.tree.now in
    let e = c.args.effects.now in
    let a = c.set_number.new.tree in
    let b = c.set_text.new.tree in
    let d = c.set_number-2.new.tree in
    let rows_a = with_number Value (option_map (asked_seen w.entries) e.value) (rows_of w) in
    let rows_b = with_text (option_map (asked_seen w.entries) e.text) rows_a in
    let rows_d = with_number Caret (option_map (asked_seen w.entries) e.caret) rows_b in
    let nodes_b = c.set_text.ensures.rows.nodes ∙ c.set_number.ensures.rows.nodes in
    let nodes_d = c.set_number-2.ensures.rows.nodes ∙ nodes_b in
    let to_b : HasRows w b rows_b =
    HasRows-then w a b rows_a (with_text (option_map (asked_seen w.entries) e.text)) (with_text (option_map (asked_seen a.entries) e.text) (rows_of a)) c.set_number.ensures.rows c.set_text.ensures.rows
    (ap (λ (o : Option ((ℕ × List ℕ) × List ℕ)). with_text o (rows_of a)) (asked-same w a c.set_number.ensures.rows.nodes e.text)) in
    let to_d : HasRows w d rows_d =
    HasRows-then w b d rows_b (with_number Caret (option_map (asked_seen w.entries) e.caret)) (with_number Caret (option_map (asked_seen b.entries) e.caret) (rows_of b)) to_b c.set_number-2.ensures.rows
    (ap (λ (o : Option ((ℕ × List ℕ) × ℤ)). with_number Caret o (rows_of b)) (asked-same w b nodes_b e.caret)) in
    HasRows-then w d c.set_moved.new.tree rows_d (with_moved (option_map (moved_seen w.entries) e.moved)) (with_moved (option_map (moved_seen d.entries) e.moved) (rows_of d)) to_d c.set_moved.ensures.rows
    (ap (λ (o : Option ((ℕ × List ℕ) × ℤ × ℤ)). with_moved o (rows_of d)) (moved-same w d nodes_d e.moved))
