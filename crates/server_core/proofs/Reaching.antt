-- What a change of the desk reaches, from the views before and after.
use Rattle.std.proofs.Common.{◌≡◌, ℕ, pos, arith, Bool, false, ◌&&◌, ◌||◌, not, List, [], ◌∷◌, Option, Some, None, nat_eq, refl, sym, ap, ◌∙◌, subst}
use Rattle.std.specs.List.{list_any}
use Rattle.std.proofs.Math.Bool.{or-false}
use Rattle.std.specs.Cmp.{nat_eq_equiv}
use Rattle.std.specs.Option.{option_map, option_map_or}
use Rattle.kind_core.specs.declared.shapes.Shape.{Shape}
use Rattle.look_core.specs.Seen as looks
use Rattle.look_core.specs.Same.{same_look}
use Rattle.stack_core.specs.Stack.{holds_key}
use Rattle.widget_model.specs.Rows.{Row}
use Rattle.widget_model.specs.Keys.{key_of}
use Rattle.widget_model.specs.Widgets.{Widgets, row_at}
use Rattle.widget_model.specs.Relatives.{root_id}
use Rattle.scene_model.specs.Scene.{Scene}
use Rattle.scene_model.specs.LookOf.{look_of}
use Rattle.scene_model.specs.Colours.{look_at}
use Rattle.desk_model.specs.Desk.{Desk}
use Rattle.desk_model.specs.Seen.{scene_of}
use Rattle.machine_model.specs.Damage.{in_reach}
use Rattle.scene_core.specs.declared.view.View.{View}
use Rattle.scene_core.specs.View as views
use Rattle.view_shots.specs.Shots.{is_shown_id}
use Rattle.shot_core.specs.Shot.{Seen}
use Rattle.redraw_core.specs.Dirt.{Dirt}
use Rattle.look_data.specs.Kept.{is_shown_at}
use Rattle.touch_rules.specs.Touched.{is_touched}
use Rattle.damage_rules.specs.Views.{Sight, IsSight, IsShotIn, scene_in, look_by, has_other_look}
use Rattle.damage_rules.specs.Views as sights
use Rattle.damage_rules.proofs.ViewNumbers.{row-same}
use Rattle.drawing_core.specs.Following.{Precedes, sight_of}
use Rattle.drawing_core.specs.Marking.{Marked}
use Rattle.desk_core.specs.View.{DeskView}
use Rattle.desk_layout.specs.Numbers as desks
use Rattle.desk_core.specs.Touching.{TellsTouched, numbered_of}
use Rattle.desk_model.specs.DeskFacts.{IsDesk}
use Rattle.redraw_core.specs.Dirt.{IsDirt, is_dirty}
use Rattle.machine_model.proofs.Still.{still_unreached}
use Rattle.desk_core.specs.Asking.{StaysAsItWas}
use Rattle.server_core.specs.Serving.{ShowsDesk}
use Rattle.server_core.specs.Calls.{MarkedReach}

-- a view of the desk, whose shot was taken, shows the desk
pub shows_of_desk : (desk : DeskView) (view : View) (shot : Seen) → views.scene_of view ≡ scene_of desk.desk → view.tree.now ≡ desk.widgets → view.stack.now ≡ desk.windows → views.IsView view → IsShotIn (sight_of view) view.width view.height shot → ShowsDesk desk shot
shows_of_desk desk view shot scene tree stack is shows = record {
  sight = sight_of view;
  width = view.width;
  height = view.height;
  is = record { valid = is.valid; windows = is.windows };
  widgets = tree;
  windows = stack;
  scene = scene;
  is_shot = shows;
}

holds-any : (windows : List ℕ) (key : ℕ) → holds_key windows key ≡ list_any (nat_eq key) windows
holds-any [] key = refl
holds-any (window ∷ windows) key = λ i. nat_eq_equiv.symm window key i || holds-any windows key i

-- the numbered widget is shown, said in two ways
shown-same : (widgets : Widgets) (windows : List ℕ) (id : ℕ) → is_shown_at widgets windows id ≡ is_shown_id widgets windows id
unfolding is_shown_id
shown-same widgets windows id = by (root_id widgets id)
  where
    by : (root : Option ℕ) → option_map_or (holds_key windows) root false ≡ option_map_or (λ key. list_any (nat_eq key) windows) root false
    by None = refl
    by (Some root) = holds-any windows root

-- the look of the numbered widget, by its row and by its key
look-same : (sight : Sight) (width height id : ℕ) → IsSight sight → option_map_or (look_of (scene_in sight width height)) (row_at sight.widgets.entries id) looks.no_film ≡ look_by sight width height id
unfolding look_at
look-same sight width height id is = by (row_at sight.widgets.entries id) refl
  where
    by : (row : Option Row) → row_at sight.widgets.entries id ≡ row → option_map_or (look_of (scene_in sight width height)) row looks.no_film ≡ option_map_or (look_at (scene_in sight width height)) (option_map key_of row) looks.no_film
    by None at = refl
    by (Some row) at =
        ap (λ (o : Option Row). option_map_or (look_of (scene_in sight width height)) o looks.no_film)
        (sym (row-same sight.widgets id (key_of row) is.valid (ap (option_map key_of) at) ∙ at))

-- the same of the desk that the view shows
shown-desk : (desk : DeskView) (sight : Sight) (id : ℕ) → sight.widgets ≡ desk.widgets → sight.windows ≡ desk.windows → is_shown_at desk.widgets desk.windows id ≡ is_shown_id sight.widgets sight.windows id
shown-desk desk sight id tree stack =
    ap (λ (w : Widgets). is_shown_at w desk.windows id) (sym tree) ∙ ap (λ (ws : List ℕ). is_shown_at sight.widgets ws id) (sym stack) ∙ shown-same sight.widgets sight.windows id

look-desk : (desk : DeskView) (sight : Sight) (width height id : ℕ) → IsSight sight → sight.widgets ≡ desk.widgets → scene_in sight width height ≡ scene_of desk.desk → option_map_or (look_of (scene_of desk.desk)) (row_at desk.widgets.entries id) looks.no_film ≡ look_by sight width height id
look-desk desk sight width height id is tree scene =
    ap (λ (s : Scene). option_map_or (look_of s) (row_at desk.widgets.entries id) looks.no_film) (sym scene)
    ∙ ap (λ (w : Widgets). option_map_or (look_of (scene_in sight width height)) (row_at w.entries id) looks.no_film) (sym tree)
    ∙ look-same sight width height id is

-- the looks that a call touched are those that differ between the views before and after it
touched-same : (before after : DeskView) (b a : Sight) (width height id : ℕ) → IsSight b → IsSight a → b.widgets ≡ before.widgets → b.windows ≡ before.windows → a.widgets ≡ after.widgets → a.windows ≡ after.windows → scene_in b width height ≡ scene_of before.desk → scene_in a width height ≡ scene_of after.desk
    → is_touched (numbered_of before) (numbered_of after) id ≡ has_other_look b a width height id
unfolding has_other_look
touched-same before after b a width height id is is' tree stack tree' stack' scene scene' =
    let shown = shown-desk before b id tree stack in
    let shown' = shown-desk after a id tree' stack' in
    let look = look-desk before b width height id is tree scene in
    let look' = look-desk after a width height id is' tree' scene' in
    λ i. shown i && (shown' i && not (same_look (look i) (look' i)))

-- What became dirty is what the change from one desk to the other reaches.
pub marked_of_desks : (before after : DeskView) (view : View) (shot : Seen) (touched : List ℕ) (old new : Dirt) → after.desk.shape ≡ before.desk.shape → ShowsDesk before shot → views.scene_of view ≡ scene_of after.desk → view.tree.now ≡ after.widgets → view.stack.now ≡ after.windows → views.IsView view
    → desks.KeepsNumbers before.widgets.entries after.widgets.entries → TellsTouched before after → touched ≡ after.touched
    → ((b : Sight) → Precedes b view shot touched → Marked (in_reach (scene_in b view.width view.height) (views.scene_of view)) old new)
    → MarkedReach before.desk after.desk old new
marked_of_desks before after view shot touched old new same shows scene tree stack is numbers told are marked =
    let wide : view.width ≡ shows.width = ap (λ (s : Scene). s.width) scene ∙ ap (λ (s : Shape). s.width) same ∙ sym (ap (λ (s : Scene). s.width) shows.scene) in
    let high : view.height ≡ shows.height = ap (λ (s : Scene). s.height) scene ∙ ap (λ (s : Shape). s.height) same ∙ sym (ap (λ (s : Scene). s.height) shows.scene) in
    let was : scene_in shows.sight view.width view.height ≡ scene_of before.desk =
    ap (λ w. scene_in shows.sight w view.height) wide ∙ ap (λ h. scene_in shows.sight shows.width h) high ∙ shows.scene in
    let sized : IsShotIn shows.sight view.width view.height shot =
    subst (λ w. IsShotIn shows.sight w view.height shot) (sym wide) (subst (λ h. IsShotIn shows.sight shows.width h shot) (sym high) shows.is_shot) in
    let kept : sights.KeepsNumbers before.widgets.entries after.widgets.entries = record { one_key = numbers.keys; one_number = numbers.numbers } in
    let kept_here : sights.KeepsNumbers shows.sight.widgets.entries view.tree.now.entries =
    subst (λ (w : Widgets). sights.KeepsNumbers shows.sight.widgets.entries w.entries) (sym tree) (subst (λ (w : Widgets). sights.KeepsNumbers w.entries after.widgets.entries) (sym shows.widgets) kept) in
    let is_now : IsSight (sight_of view) = record { valid = is.valid; windows = is.windows } in
    let precedes : Precedes shows.sight view shot touched = record {
      is = shows.is;
      numbers = kept_here;
      shot_is = sized;
      looks_differ = λ id.
          ap (λ (ids : List ℕ). list_any (nat_eq id) ids) are ∙ told.each id
          ∙ touched-same before after shows.sight (sight_of view) view.width view.height id shows.is is_now shows.widgets shows.windows tree stack was scene;
    } in
    subst (λ (s : Scene). Marked (in_reach (scene_of before.desk) s) old new) scene
    (subst (λ (s : Scene). Marked (in_reach s (views.scene_of view)) old new) was (marked shows.sight precedes))

-- the screen's sides, as a view of the desk has them
pub view-width : (view : View) (desk : Desk) (shape : Shape) → views.scene_of view ≡ scene_of desk → desk.shape ≡ shape → shape.width ≡ view.width
view-width view desk shape scene same = ap (λ (s : Shape). s.width) (sym same) ∙ sym (ap (λ (s : Scene). s.width) scene)

pub view-height : (view : View) (desk : Desk) (shape : Shape) → views.scene_of view ≡ scene_of desk → desk.shape ≡ shape → shape.height ≡ view.height
view-height view desk shape scene same = ap (λ (s : Shape). s.height) (sym same) ∙ sym (ap (λ (s : Scene). s.height) scene)

-- a desk that stays as it was shows what it showed
pub shows_still : (before after : DeskView) (shot : Seen) → StaysAsItWas before after → ShowsDesk before shot → ShowsDesk after shot
shows_still before after shot stays shows = record {
  sight = shows.sight;
  width = shows.width;
  height = shows.height;
  is = shows.is;
  widgets = shows.widgets ∙ sym stays.widgets;
  windows = shows.windows ∙ sym stays.windows;
  scene = shows.scene ∙ ap scene_of (sym stays.desk);
  is_shot = shows.is_shot;
}

-- and dirties nothing
pub marked_still : (before after : Desk) (dirt : Dirt) → IsDesk before → IsDirt dirt → after ≡ before → MarkedReach before after dirt dirt
marked_still before after dirt fine is same = record {
  pixels = λ x y hx hy. sym (ap (λ (reached : Bool). is_dirty dirt x y || reached) (ap (λ (d : Desk). in_reach (scene_of before) (scene_of d) (pos x) (pos y)) same ∙ still_unreached (scene_of before) fine.once (pos x) (pos y)) ∙ or-false (is_dirty dirt x y));
  width = refl;
  height = refl;
  valid = is;
}
