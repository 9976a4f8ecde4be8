-- Kept places change as widgets are laid out; their rows stay.
use Rattle.std.proofs.Common.{◌≡◌, ℕ, zero, suc, ◌+◌, ◌-◌, ◌<◌, ◌≤◌, true, false, List, [], ◌∷◌, length, get_or, slice_get, Option, Some, None, IfSome, nat_eq, refl, sym, ap, ◌∙◌, arith, subst, inl, inr}
use Rattle.std.proofs.lemmas.Bool.{cases_eq, cases_lt, ne_eqb, true≢false}
use Rattle.std.proofs.lemmas.List.Elements.{All-nil}
use Rattle.std.specs.Option.{option_map}
use Rattle.geom_core.specs.declared.rectangle.Rect.{Rect}
use Rattle.kind_core.specs.declared.kinds.Kind.{Kind}
use Rattle.kind_core.specs.declared.kinds.Kind.TheVariants.{Window, Grid, Frame, Button, Label, Entry, Scale, Scrollbar, Variable, VScreen}
use Rattle.tree_core.specs.Children.{cells_of}
use Rattle.widget_model.specs.Rows.{Row}
use Rattle.widget_model.specs.Trees.{ends_within, has_children, most_levels}
use Rattle.widget_model.specs.Relatives.{parent_id, root_id}
use Rattle.widget_model.specs.Widgets.{Widgets, rows_of, row_at, place_at, with_place, IsLive}
use Rattle.widget_model.specs.Forest.{IsWidgets}
use Rattle.scene_model.specs.declared.axis.Axis.{Axis}
use Rattle.scene_model.specs.Placing.{place_in}
use Rattle.scene_core.specs.declared.sides.Side.{Side}
use Rattle.scene_core.specs.declared.known.Known.{Known}
use Rattle.scene_core.specs.declared.tracks.BothTracks.{BothTracks}
use Rattle.scene_core.specs.Children.{row_for, child_for, AreChildren, IsDeep}
use Rattle.scene_core.specs.Known.{AreKnown, AreBothTracks}
use Rattle.scene_core.specs.Places.{HasPlaces}
use Rattle.scene_core.specs.Sides.{IsSide}
use Rattle.scene_core.specs.Laid.{with_places, due, IsBelow, AreReplaced, AreLaid}
use Rattle.scene_core.proofs.Numbered.{live-there, row_for-there}
use Rattle.scene_core.proofs.ChildNumbers.{parent_id-found}
use Rattle.scene_core.proofs.Tops.{root-child}
use Rattle.scene_core.proofs.Roots.{root-alone, ends-some, ends-up, ends-live, parent-live, rooted-live}

if-some : {X : Type 0} {P Q : X → Type 0} → ((x : X) → P x → Q x) → (o : Option X) → IfSome o P → IfSome o Q
if-some f None h = tt
if-some f (Some x) h = f x h

-- What rows alone say holds whatever places are kept.
module _ (places : List (Option Rect)) (widgets : Widgets) where
  deep-places : (most id : ℕ) → IsDeep widgets most id → IsDeep (with_places places widgets) most id
  unfolding row_for
  deep-places most id deep = record { upper = deep.upper; within = deep.within }

  both-places : (id : ℕ) (tracks : BothTracks) → AreBothTracks widgets id tracks → AreBothTracks (with_places places widgets) id tracks
  unfolding row_for
  both-places id tracks are = record { across = are.across; down = are.down }

  both-kept : (id : ℕ) (tracks : BothTracks) → AreBothTracks (with_places places widgets) id tracks → AreBothTracks widgets id tracks
  unfolding row_for
  both-kept id tracks are = record { across = are.across; down = are.down }

  known-places : (known : Known) → AreKnown widgets known → AreKnown (with_places places widgets) known
  unfolding row_for
  known-places known are = record { sizes = λ id. are.sizes id; tracks = λ slot. if-some (λ kept. both-places kept.key kept.tracks) (get_or known.tracks slot None) (are.tracks slot) }

  known-kept : (known : Known) → AreKnown (with_places places widgets) known → AreKnown widgets known
  unfolding row_for
  known-kept known are = record { sizes = λ id. are.sizes id; tracks = λ slot. if-some (λ kept. both-kept kept.key kept.tracks) (get_or known.tracks slot None) (are.tracks slot) }

  side-places : (axis : Axis) (id : ℕ) (side : Side) → IsSide axis widgets id side → IsSide axis (with_places places widgets) id side
  unfolding row_for
  side-places axis id side is = record {
    kind = is.kind;
    span = is.span;
    offset = is.offset;
    tracks = λ grid. record { few = (is.tracks grid).few; used = (is.tracks grid).used; lengths = (is.tracks grid).lengths };
  }

  side-kept : (axis : Axis) (id : ℕ) (side : Side) → IsSide axis (with_places places widgets) id side → IsSide axis widgets id side
  unfolding row_for
  side-kept axis id side is = record {
    kind = is.kind;
    span = is.span;
    offset = is.offset;
    tracks = λ grid. record { few = (is.tracks grid).few; used = (is.tracks grid).used; lengths = (is.tracks grid).lengths };
  }

  child-places : (key : ℕ) → child_for widgets key ≡ child_for (with_places places widgets) key
  unfolding row_for
  child-places key = refl

  row-places : (id : ℕ) → place_in (rows_of widgets) (row_for widgets id) ≡ place_in (rows_of (with_places places widgets)) (row_for (with_places places widgets) id)
  unfolding row_for
  row-places id = refl

  below-places : (most id other : ℕ) → IsBelow most widgets id other → IsBelow most (with_places places widgets) id other
  below-places zero id other below = below
  below-places (suc most) id other below = elim below [ inl same ↦ inl same | inr down ↦ inr (down.0, down.1, below-places most down.0 other down.2) ]

-- the same where the rows are known to be the same
pub live-same : (old new : Widgets) (id : ℕ) → new ≡ with_places new.places old → IsLive old id → IsLive new id
live-same old new id same live = subst (λ (w : Widgets). IsLive w id) (sym same) live

pub deep-same : (old new : Widgets) (most id : ℕ) → new ≡ with_places new.places old → IsDeep old most id → IsDeep new most id
deep-same old new most id same deep = subst (λ (w : Widgets). IsDeep w most id) (sym same) (deep-places new.places old most id deep)

pub known-same : (old new : Widgets) (known : Known) → new ≡ with_places new.places old → AreKnown old known → AreKnown new known
known-same old new known same are = subst (λ (w : Widgets). AreKnown w known) (sym same) (known-places new.places old known are)

pub known-back : (old new : Widgets) (known : Known) → new ≡ with_places new.places old → AreKnown new known → AreKnown old known
known-back old new known same are = known-kept new.places old known (subst (λ (w : Widgets). AreKnown w known) same are)

pub side-same : (old new : Widgets) (axis : Axis) (id : ℕ) (side : Side) → new ≡ with_places new.places old → IsSide axis old id side → IsSide axis new id side
side-same old new axis id side same is = subst (λ (w : Widgets). IsSide axis w id side) (sym same) (side-places new.places old axis id side is)

pub side-back : (old new : Widgets) (axis : Axis) (id : ℕ) (side : Side) → new ≡ with_places new.places old → IsSide axis new id side → IsSide axis old id side
side-back old new axis id side same is = side-kept new.places old axis id side (subst (λ (w : Widgets). IsSide axis w id side) same is)

pub child-same-rows : (old new : Widgets) (key : ℕ) → new ≡ with_places new.places old → child_for old key ≡ child_for new key
child-same-rows old new key same = subst (λ (w : Widgets). child_for old key ≡ child_for w key) (sym same) (child-places new.places old key)

pub parent-same : (old new : Widgets) (key id : ℕ) → new ≡ with_places new.places old → parent_id old key ≡ Some id → parent_id new key ≡ Some id
parent-same old new key id same parent = subst (λ (w : Widgets). parent_id w key ≡ Some id) (sym same) parent

pub parent-back : (old new : Widgets) (key id : ℕ) → new ≡ with_places new.places old → parent_id new key ≡ Some id → parent_id old key ≡ Some id
parent-back old new key id same parent = subst (λ (w : Widgets). parent_id w key ≡ Some id) same parent

pub due-same : (old new : Widgets) (id : ℕ) → new ≡ with_places new.places old → place_in (rows_of old) (row_for old id) ≡ place_in (rows_of new) (row_for new id)
due-same old new id same = subst (λ (w : Widgets). place_in (rows_of old) (row_for old id) ≡ place_in (rows_of w) (row_for w id)) (sym same) (row-places new.places old id)

-- one place is set
pub set-same : (old new : Widgets) (id : ℕ) (place : Option Rect) → new ≡ with_place id place old → new ≡ with_places new.places old
set-same old new id place is = is ∙ ap (λ (places : List (Option Rect)). with_places places old) (sym (ap (λ (w : Widgets). w.places) is))

pub replaced-set : (old new : Widgets) (id : ℕ) (place : Rect) → new ≡ with_places new.places old → IsWidgets new → place ≡ place_in (rows_of old) (row_for old id) → place_at new id ≡ Some place
    → ((other : ℕ) → nat_eq other id ≡ false → place_at new other ≡ place_at old other) → AreReplaced old id new
replaced-set old new id place same valid is now others = record {
  same = same;
  valid = valid;
  others = λ other apart. others other (ne_eqb other id (λ e. apart (ap (root_id old) e)));
  kept = λ other kept. elim (cases_eq other id) [
    | inl e ↦ ap (place_at new) e ∙ now ∙ ap Some is ∙ ap (due old) (sym e)
    | inr apart ↦ others other (ne_eqb other id apart) ∙ kept
  ];
}

-- a child is laid out after that
module _ (old mid new : Widgets) (id kid : ℕ) (live : IsLive old id) (valid : IsWidgets old) (first : AreReplaced old id mid) (parent : parent_id old kid ≡ Some id) where
  pub replaced-then : AreReplaced mid kid new → AreReplaced old id new
  unfolding row_for
  replaced-then second = by (subst (λ (w : Widgets). AreReplaced w kid new) first.same second)
    where
      by : AreReplaced (with_places mid.places old) kid new → AreReplaced old id new
      by then = record {
        same = then.same;
        valid = then.valid;
        others = λ other apart. then.others other (λ e. apart (e ∙ root-child old id kid valid live parent)) ∙ first.others other apart;
        kept = λ other is. then.kept other (first.kept other is);
      }

  pub kept-then : (other : ℕ) → AreReplaced mid kid new → place_at mid other ≡ due old other → place_at new other ≡ due old other
  unfolding row_for
  kept-then other second is = by (subst (λ (w : Widgets). AreReplaced w kid new) first.same second)
    where
      by : AreReplaced (with_places mid.places old) kid new → place_at new other ≡ due old other
      by then = then.kept other is

  pub under-then : (most other : ℕ) → AreLaid most mid kid new → IsBelow most old kid other → place_at new other ≡ due old other
  unfolding row_for
  under-then most other second below = by (subst (λ (w : Widgets). AreLaid most w kid new) first.same second)
    where
      by : AreLaid most (with_places mid.places old) kid new → place_at new other ≡ due old other
      by then = then.under other (below-places mid.places old most kid other below)

-- each child is among the numbers of the children
pub kid-among : (old new : Widgets) (id kid : ℕ) (keys : List ℕ) → new ≡ with_places new.places old → AreChildren new id keys → parent_id old kid ≡ Some id → (i : ℕ) × (slice_get keys i ≡ Some kid)
kid-among old new id kid keys same are parent =
    let among = are.all kid (parent-same old new kid id same parent) in
    (among.0, at keys among.0 among.1 among.2)
  where
    at : (keys : List ℕ) (i : ℕ) → i < length keys → get_or keys i kid ≡ kid → slice_get keys i ≡ Some kid
    at [] i less is = absurd (omega arith)
    at (key ∷ keys) zero less is = ap (λ (k : ℕ). Some k) is
    at (key ∷ keys) (suc i) less is = at keys i (omega arith) is

-- the widget itself, and those below its children
pub laid-under : (most : ℕ) (old base new : Widgets) (id : ℕ) (keys : List ℕ) → base ≡ with_places base.places old → AreChildren base id keys → place_at new id ≡ due old id
    → ((i : ℕ) (kid : ℕ) → slice_get keys i ≡ Some kid → (other : ℕ) → IsBelow (most - 1) old kid other → place_at new other ≡ due old other)
    → (other : ℕ) → IsBelow most old id other → place_at new other ≡ due old other
laid-under zero old base new id keys same are own each other below = subst (λ (n : ℕ). place_at new n ≡ due old n) below own
laid-under (suc most) old base new id keys same are own each other below = elim below [ inl e ↦ subst (λ (n : ℕ). place_at new n ≡ due old n) e own | inr down ↦ under down.0 down.1 down.2 ]
  where
    under : (kid : ℕ) → parent_id old kid ≡ Some id → IsBelow most old kid other → place_at new other ≡ due old other
    under kid parent rest =
        let at = kid-among old base id kid keys same are parent in
        let e : suc most - 1 ≡ most = omega arith in
        each at.0 kid at.1 other (subst (λ (n : ℕ). IsBelow n old kid other) (sym e) rest)

-- going down so many times at the most, or more
below-more : (few more : ℕ) (widgets : Widgets) (id other : ℕ) → IsBelow few widgets id other → IsBelow (few + more) widgets id other
below-more zero zero widgets id other below = below
below-more zero (suc more) widgets id other below = here (zero + suc more) (let e : suc more ≡ zero + suc more = omega arith in e)
  where
    here : (n : ℕ) → suc more ≡ n → IsBelow n widgets id other
    here n e = subst (λ (k : ℕ). IsBelow k widgets id other) e (inl below)
below-more (suc few) more widgets id other below = deeper (suc few + more) (let e : suc (few + more) ≡ suc few + more = omega arith in e) (λ kid rest. below-more few more widgets kid other rest)
  where
    deeper : (n : ℕ) → suc (few + more) ≡ n → ((kid : ℕ) → IsBelow few widgets kid other → IsBelow (few + more) widgets kid other) → IsBelow n widgets id other
    deeper n e each = subst (λ (k : ℕ). IsBelow k widgets id other) e (elim below [ inl same ↦ inl same | inr down ↦ inr (down.0, down.1, each down.0 down.2) ])

-- a widget under a root is below it
below-up : (most few : ℕ) (widgets : Widgets) (top id other : ℕ) → IsWidgets widgets → IsLive widgets id → ends_within most (rows_of widgets) (row_for widgets id).client (row_for widgets id).name ≡ true
    → IsBelow few widgets id other → root_id widgets id ≡ Some top → IsBelow (few + most) widgets top other
below-up zero few widgets top id other valid live ends below root = let more = ends-some widgets zero id ends in absurd (omega (arith, more))
below-up (suc most) few widgets top id other valid live ends below root = by (λ upper above up kid rooted. below-up most (suc few) widgets top upper other valid above up kid rooted) (parent_id widgets id) refl
  where
    by : ((upper : ℕ) → IsLive widgets upper → ends_within most (rows_of widgets) (row_for widgets upper).client (row_for widgets upper).name ≡ true → IsBelow (suc few) widgets upper other → root_id widgets upper ≡ Some top → IsBelow (suc few + most) widgets top other)
        → (o : Option ℕ) → parent_id widgets id ≡ o → IsBelow (few + suc most) widgets top other
    by rest None none =
        let same : Some id ≡ Some top = sym (root-alone widgets id valid live none) ∙ root in
        let e : id ≡ top = cc in
        subst (λ (n : ℕ). IsBelow (few + suc most) widgets n other) e (below-more few (suc most) widgets id other below)
    by rest (Some upper) parent =
        let above = parent-live widgets upper id valid parent in
        let e : suc few + most ≡ few + suc most = omega arith in
        let less : suc most - 1 ≡ most = omega arith in
        let ends_above : ends_within most (rows_of widgets) (row_for widgets upper).client (row_for widgets upper).name ≡ true = rw (← less) (ends-up widgets (suc most) upper id valid parent ends) in
        subst (λ (n : ℕ). IsBelow n widgets top other) e
        (rest upper above ends_above (inr (id, parent, below)) (sym (root-child widgets upper id valid above parent) ∙ root))

pub below-root : (widgets : Widgets) (top other : ℕ) → IsWidgets widgets → IsLive widgets other → root_id widgets other ≡ Some top → IsBelow most_levels widgets top other
unfolding most_levels
below-root widgets top other valid live root = below-up most_levels zero widgets top other other valid live (ends-live widgets other valid live) refl root

-- a number at an index
there-at : (keys : List ℕ) (i : ℕ) → i < length keys → slice_get keys i ≡ Some (get_or keys i 0)
there-at [] i less = absurd (omega arith)
there-at (key ∷ keys) zero less = refl
there-at (key ∷ keys) (suc i) less = there-at keys i (omega arith)

-- the children before the next index, with one more laid out
pub under-more : (keys : List ℕ) (index : ℕ) (P : ℕ → Type 0) → ((i : ℕ) (kid : ℕ) → i < index → slice_get keys i ≡ Some kid → P kid) → index < length keys → P (get_or keys index 0)
    → (i : ℕ) (kid : ℕ) → i < index + 1 → slice_get keys i ≡ Some kid → P kid
under-more keys index P before less here i kid lower there = elim (cases_lt i index) [ inl early ↦ before i kid early there | inr late ↦ last (omega arith) ]
  where
    last : i ≡ index → P kid
    last same =
        let both : Some (get_or keys index 0) ≡ Some kid = sym (there-at keys index less) ∙ ap (slice_get keys) (sym same) ∙ there in
        let e : get_or keys index 0 ≡ kid = cc in
        subst P e here

-- an index of an element is below any that is past the end
pub at-most : (keys : List ℕ) (i : ℕ) (kid : ℕ) (end : ℕ) → length keys ≤ end → slice_get keys i ≡ Some kid → i < end
at-most [] i kid end past there = absurd (cc)
at-most (key ∷ keys) zero kid end past there = omega (arith, past)
at-most (key ∷ keys) (suc i) kid end past there = let rest = at-most keys i kid (end - 1) (omega (arith, past)) there in omega (arith, rest)

-- all that hang under the Window have their places
pub has-places : (old new : Widgets) (window : ℕ) → IsWidgets old → AreLaid most_levels old window new → HasPlaces new window
has-places old new window valid laid = record { each = λ id root. by id (subst (λ (w : Widgets). root_id w id ≡ Some window) same root) }
  where
    same : new ≡ with_places new.places old
    same = laid.replaced.same

    by : (id : ℕ) → root_id old id ≡ Some window → place_at new id ≡ option_map (place_in (rows_of new)) (row_at new.entries id)
    by id root =
        let live = rooted-live old id window root in
        laid.under id (below-root old window id valid live root)
        ∙ ap Some (due-same old new id same)
        ∙ sym (ap (option_map (place_in (rows_of new))) (live-there new id (live-same old new id same live)))

-- a widget of a kind without children has none
no-cells : (kind : Kind) → has_children kind ≡ false → cells_of kind ≡ 0
no-cells Window none = absurd (true≢false none)
no-cells Grid none = absurd (true≢false none)
no-cells Frame none = absurd (true≢false none)
no-cells Button none = refl
no-cells Label none = refl
no-cells Entry none = refl
no-cells Scale none = refl
no-cells Scrollbar none = refl
no-cells Variable none = refl
no-cells VScreen none = refl

pub childless : (widgets : Widgets) (id : ℕ) → IsWidgets widgets → has_children (row_for widgets id).kind ≡ false → AreChildren widgets id []
childless widgets id valid none = record {
  each = All-nil (λ kid. parent_id widgets kid ≡ Some id);
  all = λ kid parent.
      let found = parent_id-found widgets id kid valid parent in
      let upper = row_for-there widgets id found.upper found.upper_there in
      let empty = no-cells found.upper.kind (ap (λ (row : Row). has_children row.kind) (sym upper) ∙ none) in
      absurd (let within = found.cell_is.within in omega (arith, within, empty));
}

-- so it alone is laid out
pub laid-alone : (most : ℕ) (old new : Widgets) (id : ℕ) → IsWidgets old → AreReplaced old id new → place_at new id ≡ due old id → has_children (row_for old id).kind ≡ false → AreLaid most old id new
laid-alone most old new id valid replaced own none = record {
  replaced = replaced;
  under = laid-under most old old new id [] refl (childless old id valid none) own (λ i kid there. absurd (cc));
}

-- kinds stay
pub kind-back : (old new : Widgets) (id : ℕ) → new ≡ with_places new.places old → has_children (row_for new id).kind ≡ false → has_children (row_for old id).kind ≡ false
unfolding row_for
kind-back old new id same none = subst (λ (w : Widgets). has_children (row_for w id).kind ≡ false) same none
