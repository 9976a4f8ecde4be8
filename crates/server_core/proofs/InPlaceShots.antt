-- Where all stays in place between two desks, the shot from before is that of what the desk shows after it: each number has
-- the parent and the root that it had, and what is shown its place and its pixels.
use Rattle.std.proofs.Common.{◌≡◌, ℕ, ℤ, pos, true, false, List, map, Option, Some, None, refl, sym, ap, ◌∙◌, subst}
use Rattle.std.specs.Option.{option_map, option_map_or}
use Rattle.std.proofs.lemmas.List.Elements.{All-contains}
use Rattle.kind_core.specs.declared.kinds.Kind.TheVariants.{Window}
use Rattle.kind_core.specs.declared.shapes.Shape.{Shape}
use Rattle.shot_core.specs.Shot.{Seen}
use Rattle.widget_model.specs.Rows.{Row}
use Rattle.widget_model.specs.Named.{is_kind_of}
use Rattle.widget_model.specs.Nodes.{id_named}
use Rattle.widget_model.specs.Kinds.{is_window_kind}
use Rattle.widget_model.specs.Keys.{root_key}
use Rattle.widget_model.specs.Widgets.{Widgets, nodes, rows_of, row_at, row_kind, key_at}
use Rattle.widget_model.specs.Relatives.{root_id}
use Rattle.widget_model.proofs.Naming.{row_named-found}
use Rattle.scene_model.specs.Scene.{Scene}
use Rattle.scene_model.specs.Placing.{place_in}
use Rattle.scene_model.specs.Showing.{place_of, shows_at}
use Rattle.scene_core.specs.declared.view.View.{View}
use Rattle.scene_core.specs.View as views
use Rattle.view_shots.specs.Shots.{is_shown_id, place_by, shows_by}
use Rattle.view_shots.proofs.ShotSteps.{shown-under}
use Rattle.desk_model.specs.InPlace.{hung_of, due_of, StaysInPlace}
use Rattle.desk_model.specs.Seen.{scene_of}
use Rattle.desk_layout.specs.Numbers.{KeepsNumbers}
use Rattle.damage_rules.specs.Views.{Sight, IsSight, IsShotIn, scene_in}
use Rattle.damage_rules.proofs.ViewNumbers.{row-same, root-named, shown-live}
use Rattle.drawing_core.specs.Following.{sight_of}
use Rattle.desk_core.specs.View.{DeskView}
use Rattle.server_core.specs.Serving.{ShowsDesk}
use Rattle.server_core.proofs.NumbersAlike.{hung_entry, entries-alike, key_at-alike, parent_id-alike, root_id-alike, windows-alike}
use Rattle.server_core.proofs.PlacesAlike.{IsUnderWindow, place-alike, shows_at-alike}
use Rattle.server_core.proofs.StillShots.{StandsStill, shown-still, shot-still}

-- the root of what is shown is a Window
shown-window : (sight : Sight) (id : ℕ) (key : ℕ × List ℕ) → IsSight sight → is_shown_id sight.widgets sight.windows id ≡ true → key_at sight.widgets.entries id ≡ Some key → IsUnderWindow (rows_of sight.widgets) key
shown-window sight id key is shown at =
    let under = shown-under sight.widgets sight.windows id shown in
    let root = root_key (rows_of sight.widgets) key in
    let named : id_named (nodes sight.widgets.entries) root.0 root.1 ≡ Some under.window = sym (root-named sight.widgets id key at) ∙ under.root in
    ap (is_kind_of is_window_kind) (row_named-found sight.widgets.entries root.0 root.1 under.window is.valid.numbered.own_numbers named)
    ∙ of-kind (row_at sight.widgets.entries under.window) (All-contains (λ (n : ℕ). row_kind sight.widgets.entries n ≡ Some Window) sight.windows under.window is.windows.each under.among)
  where
    of-kind : (o : Option Row) → option_map (λ (row : Row). row.kind) o ≡ Some Window → is_kind_of is_window_kind o ≡ true
    of-kind None live = absurd (cc)
    of-kind (Some row) live = let kind : row.kind ≡ Window = cc in ap is_window_kind kind

-- the place and the pixels of a number are those of its key
place-number : (sight : Sight) (width height id : ℕ) (key : ℕ × List ℕ) → IsSight sight → key_at sight.widgets.entries id ≡ Some key → place_by sight.widgets id ≡ place_of (scene_in sight width height) key
unfolding place_of
place-number sight width height id key is at =
    ap (λ (o : Option Row). option_map_or (place_in (rows_of sight.widgets)) o (record { x = pos 0; y = pos 0; w = 0; h = 0 })) (sym (row-same sight.widgets id key is.valid at))

shows-number : (sight : Sight) (width height id : ℕ) (key : ℕ × List ℕ) (x y : ℤ) → key_at sight.widgets.entries id ≡ Some key → shows_by sight.widgets (scene_in sight width height) id x y ≡ shows_at (scene_in sight width height) key x y
shows-number sight width height id key x y at = ap (λ (o : Option (ℕ × List ℕ)). option_map_or (λ (k : ℕ × List ℕ). shows_at (scene_in sight width height) k x y) o false) at

-- two sights between which all stays in place
record AreInPlace (old new : Sight) : Type 0 where
  is : IsSight old
  is' : IsSight new
  numbers : KeepsNumbers old.widgets.entries new.widgets.entries
  hung : map hung_of (rows_of new.widgets) ≡ map hung_of (rows_of old.widgets)
  windows : views.keys_of new.widgets.entries new.windows ≡ views.keys_of old.widgets.entries old.windows
  places : (key : ℕ × List ℕ) → due_of (rows_of new.widgets) key ≡ due_of (rows_of old.widgets) key

module _ (old new : Sight) (width height : ℕ) (still : AreInPlace old new) where
  entries : map hung_entry new.widgets.entries ≡ map hung_entry old.widgets.entries
  entries = entries-alike old.widgets.entries new.widgets.entries still.numbers still.is.valid.numbered.own_numbers still.is'.valid.numbered.own_numbers still.hung

  windows : new.windows ≡ old.windows
  windows = windows-alike old.widgets.entries new.widgets.entries old.windows new.windows still.numbers still.is.windows.each still.is'.windows.each still.windows

  root : (id : ℕ) → root_id new.widgets id ≡ root_id old.widgets id
  root id = root_id-alike old.widgets new.widgets entries still.hung id

  -- a number that is shown, under a Window before and after
  record IsSeen (id : ℕ) : Type 0 where
    key : ℕ × List ℕ
    at : key_at old.widgets.entries id ≡ Some key
    at' : key_at new.widgets.entries id ≡ Some key
    under : IsUnderWindow (rows_of old.widgets) key
    under' : IsUnderWindow (rows_of new.widgets) key

  seen : (id : ℕ) → is_shown_id old.widgets old.windows id ≡ true → IsSeen id
  seen id shown =
      let live = shown-live old.widgets old.windows id shown in
      let at' : key_at new.widgets.entries id ≡ Some live.0 = key_at-alike old.widgets new.widgets entries id ∙ live.1 in
      record {
        key = live.0;
        at = live.1;
        at' = at';
        under = shown-window old id live.0 still.is shown live.1;
        under' = shown-window new id live.0 still.is' (shown-still old new id windows (root id) ∙ shown) at';
      }

  stands : StandsStill old new width height width height
  stands = record {
    windows = windows;
    parents = parent_id-alike old.widgets new.widgets entries;
    roots = root;
    places = λ id shown.
        let one = seen id shown in
        place-number new width height id one.key still.is' one.at'
        ∙ place-alike (scene_in old width height) (scene_in new width height) still.hung still.places one.key one.under one.under'
        ∙ sym (place-number old width height id one.key still.is one.at);
    shows = λ id x y shown.
        let one = seen id shown in
        shows-number new width height id one.key x y one.at'
        ∙ shows_at-alike (scene_in old width height) (scene_in new width height) still.hung still.places one.key x y refl refl still.is.valid.rows.planted one.under one.under'
        ∙ sym (shows-number old width height id one.key x y one.at);
  }

-- Where a call left all in place, the shot from before is that of a view of the desk after it.
pub shot_in_place : (before after : DeskView) (view : View) (shot : Seen) → after.desk.shape ≡ before.desk.shape → StaysInPlace before.desk after.desk → KeepsNumbers before.widgets.entries after.widgets.entries
    → views.scene_of view ≡ scene_of after.desk → view.tree.now ≡ after.widgets → view.stack.now ≡ after.windows → views.IsView view → ShowsDesk before shot → IsShotIn (sight_of view) view.width view.height shot
shot_in_place before after view shot shape stays numbers scene tree stack is shows =
    let old = shows.sight in
    let new = sight_of view in
    let was = ap (λ (s : Scene). s.rows) shows.scene in
    let now = ap (λ (s : Scene). s.rows) scene in
    let width : view.width ≡ shows.width = ap (λ (s : Scene). s.width) scene ∙ ap (λ (s : Shape). s.width) shape ∙ sym (ap (λ (s : Scene). s.width) shows.scene) in
    let height : view.height ≡ shows.height = ap (λ (s : Scene). s.height) scene ∙ ap (λ (s : Shape). s.height) shape ∙ sym (ap (λ (s : Scene). s.height) shows.scene) in
    let sized : IsShotIn old view.width view.height shot =
    subst (λ w. IsShotIn old w view.height shot) (sym width) (subst (λ h. IsShotIn old shows.width h shot) (sym height) shows.is_shot) in
    let still : AreInPlace old new = record {
      is = shows.is;
      is' = record { valid = is.valid; windows = is.windows };
      numbers = subst (λ (w : Widgets). KeepsNumbers old.widgets.entries w.entries) (sym tree) (subst (λ (w : Widgets). KeepsNumbers w.entries after.widgets.entries) (sym shows.widgets) numbers);
      hung = ap (map hung_of) now ∙ stays.hung ∙ sym (ap (map hung_of) was);
      windows = ap (λ (s : Scene). s.windows) scene ∙ stays.windows ∙ sym (ap (λ (s : Scene). s.windows) shows.scene);
      places = λ key. ap (λ (rows : List Row). due_of rows key) now ∙ stays.places key ∙ sym (ap (λ (rows : List Row). due_of rows key) was);
    } in
    shot-still old new view.width view.height view.width view.height shot shows.is (stands old new view.width view.height still) sized
