use Rattle.std.proofs.Common.{◌≡◌, ◌-◌, ◌∙◌, Some, get_or, sym, arith, subst}
use Rattle.widget_model.specs.Relatives.{parent_id}
use Rattle.scene_model.specs.declared.axis.Axis.TheVariants.{Across, Down}
use Rattle.scene_core.specs.Measured.{IsMeasured}
use Rattle.scene_core.proofs.Numbered.{kind-grid}
use Rattle.scene_core.proofs.AskedSteps.{asked-more, asked-all}
use Rattle.scene_core.proofs.LeastSteps.{deep-child, child-live, child-measured, known-sized, known-tracked, tracks-kept}
use Rattle.scene_core.proofs.Measures.{deep-some, deep-suc, child-same, size-own, size-both, length-grid}
use Rattle.scene_core.proofs.least.+least.Goals as goal

pub as_child-returns : goal.as_child-returns
as_child-returns t c = record {
  child = child-same c.args.tree.now c.args.id.key c.cell_of-cell.result c.least-least.result c.cell_of-cell.ensures c.least-least.ensures.size;
  known = c.least-least.ensures.known;
}

pub asked_by-overflow_sub-most : goal.asked_by-overflow_sub-most
asked_by-overflow_sub-most t c = deep-some c.args.tree.now c.args.most c.args.id.key c.requires.valid c.requires.live c.requires.deep

pub asked_by-as_child-child-requires : goal.asked_by-as_child-child-requires
asked_by-as_child-child-requires t c =
    let w = c.args.tree.now in
    let some_more = deep-some w c.args.most c.args.id.key c.requires.valid c.requires.live c.requires.deep in
    let kid = get_or c.args.keys.now c.loop-key.key-index 0 in
    let parent : parent_id w kid ≡ Some c.args.id.key = c.requires.children.each c.loop-key.key-index 0 c.loop-key-test.true in
    let live = child-live w c.args.id.key kid c.requires.valid parent in
    let deep = deep-child w (c.args.most - 1) c.args.id.key kid c.requires.valid (deep-suc w c.args.most c.args.id.key some_more c.requires.deep) live parent in
    (omega (arith, some_more), (c.requires.valid, (live, (deep, c.loop-key.invariant.known))))

pub asked_by-raise-requires : goal.asked_by-raise-requires
asked_by-raise-requires t c =
    let kid = get_or c.args.keys.now c.loop-key.key-index 0 in
    subst IsMeasured (sym c.as_child-child.ensures.child) (child-measured c.args.tree.now c.args.id.key kid c.requires.valid (c.requires.children.each c.loop-key.key-index 0 c.loop-key-test.true))

pub asked_by-raise-requires-in-loop-key : goal.asked_by-raise-requires-in-loop-key
asked_by-raise-requires-in-loop-key t c =
    let kid = get_or c.args.keys.now c.loop-key.key-index 0 in
    subst IsMeasured (sym c.as_child-child.ensures.child) (child-measured c.args.tree.now c.args.id.key kid c.requires.valid (c.requires.children.each c.loop-key.key-index 0 c.loop-key-test.true))

pub asked_by-loop-key-preserved : goal.asked_by-loop-key-preserved
asked_by-loop-key-preserved t c =
    let i = c.loop-key.key-index in
    let less = c.loop-key-test.true in
    record {
      across = asked-more Across c.args.tree.now c.args.keys.now i c.as_child-child.result c.loop-key.across c.raise.new.asked less c.as_child-child.ensures.child c.raise.ensures.rooms c.raise.ensures.last c.loop-key.invariant.across;
      down = asked-more Down c.args.tree.now c.args.keys.now i c.as_child-child.result c.loop-key.down c.raise-in-loop-key.new.asked less c.as_child-child.ensures.child c.raise-in-loop-key.ensures.rooms c.raise-in-loop-key.ensures.last c.loop-key.invariant.down;
      known = c.as_child-child.ensures.known;
    }

pub asked_by-returns : goal.asked_by-returns
asked_by-returns t c = record {
  across = asked-all Across c.args.tree.now c.args.id.key c.args.keys.now c.loop-key.key-index c.loop-key.across c.requires.valid c.requires.live c.requires.children c.loop-key-test.false c.loop-key.invariant.across;
  down = asked-all Down c.args.tree.now c.args.id.key c.args.keys.now c.loop-key.key-index c.loop-key.down c.requires.valid c.requires.live c.requires.children c.loop-key-test.false c.loop-key.invariant.down;
  known = c.loop-key.invariant.known;
}

pub least-returns : goal.least-returns
least-returns t c = record {
  size = c.fresh-size.ensures.size;
  known = known-sized c.args.tree.now c.fresh-size.new.known c.put.new.self c.args.id.key c.fresh-size.result c.put.ensures.sizes c.put.ensures.tracks c.fresh-size.ensures.known c.fresh-size.ensures.size;
}

pub grid_size-returns : goal.grid_size-returns
grid_size-returns t c = record {
  size = size-both c.args.tree.now c.args.id.key (record { w = c.least_length-w.result; h = c.least_length-h.result })
      (length-grid Across c.args.tree.now c.args.id.key c.grid_tracks-tracks.result.across c.least_length-w.result c.requires.valid c.requires.grid c.grid_tracks-tracks.ensures.tracks.across c.least_length-w.ensures)
      (length-grid Down c.args.tree.now c.args.id.key c.grid_tracks-tracks.result.down c.least_length-h.result c.requires.valid c.requires.grid c.grid_tracks-tracks.ensures.tracks.down c.least_length-h.ensures);
  known = c.grid_tracks-tracks.ensures.known;
}

pub grid_tracks-returns-in-Some : goal.grid_tracks-returns-in-Some
grid_tracks-returns-in-Some t c = record {
  tracks = tracks-kept c.args.tree.now c.args.known.now c.args.id.key c.in-Some.kept c.requires.known c.in-Some.ensures.0 c.in-Some.ensures.1;
  known = c.requires.known;
}

pub grid_tracks-returns : goal.grid_tracks-returns
grid_tracks-returns t c = record {
  tracks = c.fresh_tracks-tracks.ensures.tracks;
  known = known-tracked c.args.tree.now c.fresh_tracks-tracks.new.known c.put_tracks.new.self c.args.id.key (record { key = c.args.id.key; tracks = c.fresh_tracks-tracks.result }) c.put_tracks.ensures.sizes c.put_tracks.ensures.tracks c.fresh_tracks-tracks.ensures.known c.fresh_tracks-tracks.ensures.tracks;
}

pub fresh_tracks-returns : goal.fresh_tracks-returns
fresh_tracks-returns t c = record {
  tracks = record { across = c.tracks_of-across.ensures; down = c.tracks_of-down.ensures };
  known = c.asked_by-asked.ensures.known;
}

pub fresh-grid_size-requires : goal.fresh-grid_size-requires
fresh-grid_size-requires t c =
    let grid = kind-grid c.args.tree.now c.args.id.key c.requires.live (sym c.kind_of-kind.ensures ∙ c.in-Grid.is) in
    (omega arith, (c.requires.valid, (grid, (c.requires.live, (c.requires.deep, c.requires.known)))))

pub fresh-returns-in_default : goal.fresh-returns-in_default
fresh-returns-in_default t c = record {
  size = size-own c.args.tree.now c.args.id.key c.kind_of-kind.result c.own_size.result c.requires.valid c.requires.live c.kind_of-kind.ensures c.in_default.not-Grid c.own_size.ensures.w c.own_size.ensures.h;
  known = c.requires.known;
}
