use Rattle.widget_model.specs.Trees.{has_children}
use Rattle.std.proofs.Common.{◌≡◌, false, ◌∙◌, ◌-◌, ℕ, List, Some, get_or, sym, ap, arith, subst}
use Rattle.geom_core.specs.declared.rectangle.Rect.{Rect}
use Rattle.widget_model.specs.Widgets.{place_at, rows_of}
use Rattle.widget_model.specs.Relatives.{parent_id}
use Rattle.scene_model.specs.declared.axis.Axis.TheVariants.{Across, Down}
use Rattle.scene_model.specs.Placing.{place_in}
use Rattle.scene_core.specs.declared.child.Child.{Child}
use Rattle.scene_core.specs.Children.{row_for, child_for, AreChildren}
use Rattle.scene_core.specs.Laid.{due, IsBelow}
use Rattle.scene_core.proofs.LeastSteps.{child-live, deep-child}
use Rattle.scene_core.proofs.Measures.{deep-some, deep-suc}
use Rattle.scene_core.proofs.LaySteps.{live-same, deep-same, known-same, known-back, side-same, side-back, parent-same, parent-back, due-same, set-same, replaced-set, replaced-then, kept-then, under-then, laid-under, laid-alone, under-more, at-most, kind-back}
use Rattle.scene_core.proofs.laying.+lay.Goals as goal

pub tracks_for-tracks-requires-clause-deep : goal.tracks_for-tracks-requires-clause-deep
tracks_for-tracks-requires-clause-deep t c =
    let s0 = set-same c.args.tree.now c.set_place.new.self c.args.id.key (Some c.args.place) c.set_place.ensures.place in
    deep-same c.args.tree.now c.set_place.new.self c.args.most c.args.id.key s0 c.requires.deep

pub tracks_for-tracks-requires-clause-known : goal.tracks_for-tracks-requires-clause-known
tracks_for-tracks-requires-clause-known t c =
    let s0 = set-same c.args.tree.now c.set_place.new.self c.args.id.key (Some c.args.place) c.set_place.ensures.place in
    known-same c.args.tree.now c.set_place.new.self c.args.known.now s0 c.requires.known

pub sides_of-sides-requires-clause-place : goal.sides_of-sides-requires-clause-place
sides_of-sides-requires-clause-place t c =
    let s0 = set-same c.args.tree.now c.set_place.new.self c.args.id.key (Some c.args.place) c.set_place.ensures.place in
    c.requires.place ∙ due-same c.args.tree.now c.set_place.new.self c.args.id.key s0

pub loop-key-init : goal.loop-key-init
loop-key-init t c =
    let s0 = set-same c.args.tree.now c.set_place.new.self c.args.id.key (Some c.args.place) c.set_place.ensures.place in
    record {
      replaced = replaced-set c.args.tree.now c.set_place.new.self c.args.id.key c.args.place s0 c.set_place.ensures.valid c.requires.place c.set_place.ensures.now c.set_place.ensures.others;
      own = c.set_place.ensures.now ∙ ap (λ (place : Rect). Some place) c.requires.place;
      known = known-back c.args.tree.now c.set_place.new.self c.tracks_for-tracks.new.known s0 c.tracks_for-tracks.ensures.known;
      under = λ i kid less. absurd (omega (arith, less));
    }

pub overflow_sub-most : goal.overflow_sub-most
overflow_sub-most t c =
    deep-some c.args.tree.now c.args.most c.args.id.key c.requires.valid c.requires.live c.requires.deep

pub overflow_sub-most-in-loop-key : goal.overflow_sub-most-in-loop-key
overflow_sub-most-in-loop-key t c =
    deep-some c.args.tree.now c.args.most c.args.id.key c.requires.valid c.requires.live c.requires.deep

pub as_child-child-requires-clause-live : goal.as_child-child-requires-clause-live
as_child-child-requires-clause-live t c =
    let s0 = set-same c.args.tree.now c.set_place.new.self c.args.id.key (Some c.args.place) c.set_place.ensures.place in
    let are : AreChildren c.set_place.new.self c.args.id.key c.as_slice-key-items.result.now = subst (λ (xs : List ℕ). AreChildren c.set_place.new.self c.args.id.key xs) (sym c.as_slice-key-items.ensures.value) c.child_keys-keys.ensures.children in
    let kid = get_or c.as_slice-key-items.result.now c.loop-key.key-index 0 in
    let parent = parent-back c.args.tree.now c.set_place.new.self kid c.args.id.key s0 (are.each c.loop-key.key-index 0 c.loop-key-test.true) in
    let same = c.loop-key.invariant.replaced.same in
    live-same c.args.tree.now c.loop-key.tree kid same (child-live c.args.tree.now c.args.id.key kid c.requires.valid parent)

pub as_child-child-requires-clause-deep : goal.as_child-child-requires-clause-deep
as_child-child-requires-clause-deep t c =
    let s0 = set-same c.args.tree.now c.set_place.new.self c.args.id.key (Some c.args.place) c.set_place.ensures.place in
    let are : AreChildren c.set_place.new.self c.args.id.key c.as_slice-key-items.result.now = subst (λ (xs : List ℕ). AreChildren c.set_place.new.self c.args.id.key xs) (sym c.as_slice-key-items.ensures.value) c.child_keys-keys.ensures.children in
    let kid = get_or c.as_slice-key-items.result.now c.loop-key.key-index 0 in
    let parent = parent-back c.args.tree.now c.set_place.new.self kid c.args.id.key s0 (are.each c.loop-key.key-index 0 c.loop-key-test.true) in
    let same = c.loop-key.invariant.replaced.same in
    let more = deep-some c.args.tree.now c.args.most c.args.id.key c.requires.valid c.requires.live c.requires.deep in
    let live = child-live c.args.tree.now c.args.id.key kid c.requires.valid parent in
    let deep = deep-child c.args.tree.now (c.args.most - 1) c.args.id.key kid c.requires.valid (deep-suc c.args.tree.now c.args.most c.args.id.key more c.requires.deep) live parent in
    deep-same c.args.tree.now c.loop-key.tree (c.args.most - 1) kid same deep

pub as_child-child-requires-clause-known : goal.as_child-child-requires-clause-known
as_child-child-requires-clause-known t c = known-same c.args.tree.now c.loop-key.tree c.loop-key.known c.loop-key.invariant.replaced.same c.loop-key.invariant.known

pub child_place-place-requires-clause-across : goal.child_place-place-requires-clause-across
child_place-place-requires-clause-across t c =
    let s0 = set-same c.args.tree.now c.set_place.new.self c.args.id.key (Some c.args.place) c.set_place.ensures.place in
    side-same c.args.tree.now c.loop-key.tree Across c.args.id.key c.sides_of-sides.result.across c.loop-key.invariant.replaced.same (side-back c.args.tree.now c.set_place.new.self Across c.args.id.key c.sides_of-sides.result.across s0 c.sides_of-sides.ensures.across)

pub child_place-place-requires-clause-down : goal.child_place-place-requires-clause-down
child_place-place-requires-clause-down t c =
    let s0 = set-same c.args.tree.now c.set_place.new.self c.args.id.key (Some c.args.place) c.set_place.ensures.place in
    side-same c.args.tree.now c.loop-key.tree Down c.args.id.key c.sides_of-sides.result.down c.loop-key.invariant.replaced.same (side-back c.args.tree.now c.set_place.new.self Down c.args.id.key c.sides_of-sides.result.down s0 c.sides_of-sides.ensures.down)

pub child_place-place-requires-clause-parent : goal.child_place-place-requires-clause-parent
child_place-place-requires-clause-parent t c =
    let s0 = set-same c.args.tree.now c.set_place.new.self c.args.id.key (Some c.args.place) c.set_place.ensures.place in
    let are : AreChildren c.set_place.new.self c.args.id.key c.as_slice-key-items.result.now = subst (λ (xs : List ℕ). AreChildren c.set_place.new.self c.args.id.key xs) (sym c.as_slice-key-items.ensures.value) c.child_keys-keys.ensures.children in
    let kid = get_or c.as_slice-key-items.result.now c.loop-key.key-index 0 in
    let parent = parent-back c.args.tree.now c.set_place.new.self kid c.args.id.key s0 (are.each c.loop-key.key-index 0 c.loop-key-test.true) in
    let same = c.loop-key.invariant.replaced.same in
    subst (λ (n : ℕ). parent_id c.loop-key.tree n ≡ Some c.args.id.key) (sym (ap (λ (child : Child). child.key) c.as_child-child.ensures.child)) (parent-same c.args.tree.now c.loop-key.tree kid c.args.id.key same parent)

pub child_place-place-requires-clause-child : goal.child_place-place-requires-clause-child
child_place-place-requires-clause-child t c = c.as_child-child.ensures.child ∙ ap (child_for c.loop-key.tree) (sym (ap (λ (child : Child). child.key) c.as_child-child.ensures.child))

pub lay-requires : goal.lay-requires
lay-requires t c =
    let s0 = set-same c.args.tree.now c.set_place.new.self c.args.id.key (Some c.args.place) c.set_place.ensures.place in
    let are : AreChildren c.set_place.new.self c.args.id.key c.as_slice-key-items.result.now = subst (λ (xs : List ℕ). AreChildren c.set_place.new.self c.args.id.key xs) (sym c.as_slice-key-items.ensures.value) c.child_keys-keys.ensures.children in
    let kid = get_or c.as_slice-key-items.result.now c.loop-key.key-index 0 in
    let parent = parent-back c.args.tree.now c.set_place.new.self kid c.args.id.key s0 (are.each c.loop-key.key-index 0 c.loop-key-test.true) in
    let same = c.loop-key.invariant.replaced.same in
    let more = deep-some c.args.tree.now c.args.most c.args.id.key c.requires.valid c.requires.live c.requires.deep in
    let live = child-live c.args.tree.now c.args.id.key kid c.requires.valid parent in
    let deep = deep-child c.args.tree.now (c.args.most - 1) c.args.id.key kid c.requires.valid (deep-suc c.args.tree.now c.args.most c.args.id.key more c.requires.deep) live parent in
    (omega (arith, more), (c.loop-key.invariant.replaced.valid, (live-same c.args.tree.now c.loop-key.tree kid same live, (deep-same c.args.tree.now c.loop-key.tree (c.args.most - 1) kid same deep, (c.as_child-child.ensures.known, c.child_place-place.ensures ∙ ap (λ (n : ℕ). place_in (rows_of c.loop-key.tree) (row_for c.loop-key.tree n)) (ap (λ (child : Child). child.key) c.as_child-child.ensures.child))))))

pub loop-key-preserved : goal.loop-key-preserved
loop-key-preserved t c =
    let s0 = set-same c.args.tree.now c.set_place.new.self c.args.id.key (Some c.args.place) c.set_place.ensures.place in
    let are : AreChildren c.set_place.new.self c.args.id.key c.as_slice-key-items.result.now = subst (λ (xs : List ℕ). AreChildren c.set_place.new.self c.args.id.key xs) (sym c.as_slice-key-items.ensures.value) c.child_keys-keys.ensures.children in
    let kid = get_or c.as_slice-key-items.result.now c.loop-key.key-index 0 in
    let parent = parent-back c.args.tree.now c.set_place.new.self kid c.args.id.key s0 (are.each c.loop-key.key-index 0 c.loop-key-test.true) in
    let same = c.loop-key.invariant.replaced.same in
    let laid = c.lay.ensures.laid in
    let first = c.loop-key.invariant.replaced in
    record {
      replaced = replaced-then c.args.tree.now c.loop-key.tree c.lay.new.tree c.args.id.key kid c.requires.live c.requires.valid first parent laid.replaced;
      own = kept-then c.args.tree.now c.loop-key.tree c.lay.new.tree c.args.id.key kid c.requires.live c.requires.valid first parent c.args.id.key laid.replaced c.loop-key.invariant.own;
      known = known-back c.args.tree.now c.loop-key.tree c.lay.new.known same c.lay.ensures.known;
      under = under-more c.as_slice-key-items.result.now c.loop-key.key-index (λ (n : ℕ). (other : ℕ) → IsBelow (c.args.most - 1) c.args.tree.now n other → place_at c.lay.new.tree other ≡ due c.args.tree.now other)
          (λ i n less at other below. kept-then c.args.tree.now c.loop-key.tree c.lay.new.tree c.args.id.key kid c.requires.live c.requires.valid first parent other laid.replaced (c.loop-key.invariant.under i n less at other below))
          c.loop-key-test.true
          (λ other below. under-then c.args.tree.now c.loop-key.tree c.lay.new.tree c.args.id.key kid c.requires.live c.requires.valid first parent (c.args.most - 1) other laid below);
    }

pub returns-clause-laid : goal.returns-clause-laid
returns-clause-laid t c =
    let s0 = set-same c.args.tree.now c.set_place.new.self c.args.id.key (Some c.args.place) c.set_place.ensures.place in
    let are : AreChildren c.set_place.new.self c.args.id.key c.as_slice-key-items.result.now = subst (λ (xs : List ℕ). AreChildren c.set_place.new.self c.args.id.key xs) (sym c.as_slice-key-items.ensures.value) c.child_keys-keys.ensures.children in
    record {
      replaced = c.loop-key.invariant.replaced;
      under = laid-under c.args.most c.args.tree.now c.set_place.new.self c.loop-key.tree c.args.id.key c.as_slice-key-items.result.now s0 are c.loop-key.invariant.own
          (λ i kid there. c.loop-key.invariant.under i kid (at-most c.as_slice-key-items.result.now i kid c.loop-key.key-index c.loop-key-test.false there) there);
    }

pub returns-then-not-has_children-clause-laid : goal.returns-then-not-has_children-clause-laid
returns-then-not-has_children-clause-laid t c =
    let s0 = set-same c.args.tree.now c.set_place.new.self c.args.id.key (Some c.args.place) c.set_place.ensures.place in
    let none : has_children (row_for c.set_place.new.self c.args.id.key).kind ≡ false = sym (c.has_children.ensures ∙ ap has_children c.kind_of.ensures) ∙ c.if-not-has_children.true in
    laid-alone c.args.most c.args.tree.now c.set_place.new.self c.args.id.key c.requires.valid
    (replaced-set c.args.tree.now c.set_place.new.self c.args.id.key c.args.place s0 c.set_place.ensures.valid c.requires.place c.set_place.ensures.now c.set_place.ensures.others)
    (c.set_place.ensures.now ∙ ap (λ (place : Rect). Some place) c.requires.place)
    (kind-back c.args.tree.now c.set_place.new.self c.args.id.key s0 none)
