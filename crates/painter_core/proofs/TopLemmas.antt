-- A trail ends at the widget on top: the window that shows the pixel first, and from there down the children that show
-- it.
use Rattle.std.proofs.Common.{◌≡◌, ℕ, zero, suc, ℤ, pos, Bool, true, false, cond, ◌&&◌, List, [], ◌∷◌, map, refl, sym, ap, ◌∙◌, arith, ◌⊎◌, inl, inr}
use Rattle.std.specs.Prelude.{Option, Some, None}
use Rattle.std.specs.List.{find, All}
use Rattle.std.specs.Option.{option_map, option_map_or}
use Rattle.std.proofs.lemmas.List.Elements.{All-head, All-tail}
use Rattle.kind_core.specs.declared.kinds.Kind.TheVariants.{Window}
use Rattle.geom_core.specs.declared.rectangle.Rect.{Rect}
use Rattle.geom_core.specs.Rect.{in_rect}
use Rattle.look_core.specs.Seen.{no_film}
use Rattle.widget_model.specs.Rows.{Row}
use Rattle.widget_model.specs.Keys.{key_of}
use Rattle.widget_model.specs.Trees.{most_levels}
use Rattle.widget_model.specs.Widgets.{Widgets, rows_of, row_at, row_kind, IsLive}
use Rattle.widget_model.specs.Forest.{IsWidgets}
use Rattle.widget_model.specs.Relatives.{parent_id}
use Rattle.scene_model.specs.Placing.{place_in}
use Rattle.scene_model.specs.Showing.{place_of, shows_at, on_screen, lowest_in, top_of}
use Rattle.scene_model.specs.LookOf.{look_of}
use Rattle.scene_model.specs.Colours.{look_at, colour_in, colour_at}
use Rattle.scene_core.specs.declared.view.View.{View}
use Rattle.scene_core.specs.View.{scene_of, keys_of, IsView}
use Rattle.scene_core.specs.Children.{row_for}
use Rattle.scene_core.proofs.Numbered.{live-there}
use Rattle.scene_core.proofs.LeastSteps.{child-live}
use Rattle.scene_core.proofs.Tops.{IsOpenWindow, window-open, shows-window, child-found, child-shown, child-missed}
use Rattle.painter_core.specs.Trail.{first_holding, trail, last_of}
use Rattle.painter_core.specs.Stage.{rect_at, child_in_slot, slots_below, colour_below, layers_of}
use Rattle.painter_core.proofs.StageLemmas.{length-children, child-slot}
use Rattle.painter_core.proofs.TrailLemmas.{Enters, Misses, trail-cases, trail-none}
use Rattle.painter_core.proofs.KeyLemmas.{row_of-number, HasSlot-child}
use Rattle.painter_core.proofs.RootLemmas.{parent-child}

-- whether the rectangle of a live number holds a pixel, by its place
rect-place : (view : View) (id : ℕ) (x y : ℤ) → IsLive view.tree.now id → in_rect ((layers_of view).rect id) x y ≡ in_rect (place_in (rows_of view.tree.now) (row_for view.tree.now id)) x y
unfolding layers_of rect_at
rect-place view id x y live = ap (λ (o : Option Row). in_rect (option_map_or (place_in (rows_of view.tree.now)) o (record { x = pos 0; y = pos 0; w = 0; h = 0 })) x y) (live-there view.tree.now id live)

and_true : (a : Bool) → (a && true) ≡ a
and_true true = refl
and_true false = refl

-- a Window shows the pixels of its place that are on the screen
shows_at-window : (view : View) (id : ℕ) (x y : ℤ) → IsWidgets view.tree.now → IsOpenWindow view.tree.now id → on_screen (scene_of view) x y ≡ true → shows_at (scene_of view) (key_of (row_for view.tree.now id)) x y ≡ in_rect ((layers_of view).rect id) x y
shows_at-window view id x y valid window on =
    let place = place_in (rows_of view.tree.now) (row_for view.tree.now id) in
    shows-window (scene_of view) view.tree.now id x y refl valid window
    ∙ ap (λ (b : Bool). in_rect place x y && b) on
    ∙ and_true (in_rect place x y)
    ∙ sym (rect-place view id x y window.live)

-- the first window that shows the pixel, by numbers and by keys
pub record IsFront (view : View) (x y : ℤ) (ids : List ℕ) (deeper : ℕ → List ℕ) (way : List ℕ) : Type 0 where
  pub id : ℕ
  pub live : IsLive view.tree.now id
  pub is : way ≡ id ∷ deeper id
  pub found : find (λ w. shows_at (scene_of view) w x y) (keys_of view.tree.now.entries ids) ≡ Some (key_of (row_for view.tree.now id))
  pub shown : shows_at (scene_of view) (key_of (row_for view.tree.now id)) x y ≡ true

pub record HasNoFront (view : View) (x y : ℤ) (ids : List ℕ) (way : List ℕ) : Type 0 where
  pub is : way ≡ []
  pub found : find (λ w. shows_at (scene_of view) w x y) (keys_of view.tree.now.entries ids) ≡ None

fronts : (view : View) (x y : ℤ) (deeper : ℕ → List ℕ) (ids : List ℕ) → IsWidgets view.tree.now → on_screen (scene_of view) x y ≡ true → All (λ id. row_kind view.tree.now.entries id ≡ Some Window) ids
    → IsFront view x y ids deeper (first_holding (layers_of view).rect deeper (map Some ids) x y) ⊎ HasNoFront view x y ids (first_holding (layers_of view).rect deeper (map Some ids) x y)
fronts view x y deeper [] valid on each = inr (record { is = refl; found = refl })
fronts view x y deeper (id ∷ ids) valid on each = by (in_rect ((layers_of view).rect id) x y) refl (fronts view x y deeper ids valid on (All-tail (λ (n : ℕ). row_kind view.tree.now.entries n ≡ Some Window) id ids each))
  where
    window : IsOpenWindow view.tree.now id
    window = window-open view.tree.now id (All-head (λ (n : ℕ). row_kind view.tree.now.entries n ≡ Some Window) id ids each)

    key : ℕ × List ℕ
    key = key_of (row_for view.tree.now id)

    behind : List (ℕ × List ℕ)
    behind = keys_of view.tree.now.entries ids

    first : (b : Bool) → in_rect ((layers_of view).rect id) x y ≡ b → find (λ w. shows_at (scene_of view) w x y) (keys_of view.tree.now.entries (id ∷ ids)) ≡ cond b (Some key) (find (λ w. shows_at (scene_of view) w x y) behind)
    first b e =
        ap (λ (o : Option Row). find (λ w. shows_at (scene_of view) w x y) (option_map_or (λ (key : ℕ × List ℕ). key ∷ behind) (option_map key_of o) behind)) (live-there view.tree.now id window.live)
        ∙ ap (λ (c : Bool). cond c (Some key) (find (λ w. shows_at (scene_of view) w x y) behind)) (shows_at-window view id x y valid window on ∙ e)

    way : (b : Bool) → in_rect ((layers_of view).rect id) x y ≡ b → first_holding (layers_of view).rect deeper (map Some (id ∷ ids)) x y ≡ cond b (id ∷ deeper id) (first_holding (layers_of view).rect deeper (map Some ids) x y)
    way b e = ap (λ (c : Bool). cond c (id ∷ deeper id) (first_holding (layers_of view).rect deeper (map Some ids) x y)) e

    by : (b : Bool) → in_rect ((layers_of view).rect id) x y ≡ b
        → IsFront view x y ids deeper (first_holding (layers_of view).rect deeper (map Some ids) x y) ⊎ HasNoFront view x y ids (first_holding (layers_of view).rect deeper (map Some ids) x y)
        → IsFront view x y (id ∷ ids) deeper (first_holding (layers_of view).rect deeper (map Some (id ∷ ids)) x y) ⊎ HasNoFront view x y (id ∷ ids) (first_holding (layers_of view).rect deeper (map Some (id ∷ ids)) x y)
    by true e rest = inl (record { id = id; live = window.live; is = way true e; found = first true e; shown = shows_at-window view id x y valid window on ∙ e })
    by false e (inl f) = inl (record { id = f.id; live = f.live; is = way false e ∙ f.is; found = first false e ∙ f.found; shown = f.shown })
    by false e (inr f) = inr (record { is = way false e ∙ f.is; found = first false e ∙ f.found })

trail-windows : (view : View) (depth : ℕ) (x y : ℤ) → trail (suc depth) (layers_of view) ((layers_of view).below None) x y ≡ first_holding (layers_of view).rect (λ id. trail depth (layers_of view) ((layers_of view).below (Some id)) x y) (map Some view.stack.now) x y
unfolding trail layers_of slots_below
trail-windows view depth x y = refl

-- the lowest widget that shows the pixel, by numbers and by keys
pub record IsLowest (view : View) (depth id : ℕ) (x y : ℤ) : Type 0 where
  pub top : ℕ
  pub live : IsLive view.tree.now top
  pub ends : last_of (Some id) (trail depth (layers_of view) ((layers_of view).below (Some id)) x y) ≡ Some top
  pub lowest : lowest_in depth (scene_of view) x y (key_of (row_for view.tree.now id)) ≡ key_of (row_for view.tree.now top)

lowest : (depth : ℕ) (view : View) (id : ℕ) (x y : ℤ) → IsWidgets view.tree.now → IsLive view.tree.now id → shows_at (scene_of view) (key_of (row_for view.tree.now id)) x y ≡ true → IsLowest view depth id x y
lowest zero view id x y valid live shown = record { top = id; live = live; ends = ap (λ (ids : List ℕ). last_of (Some id) ids) (trail-none (layers_of view) ((layers_of view).below (Some id)) x y); lowest = refl }
lowest (suc depth) view id x y valid live shown = by (λ kid at seen. lowest depth view kid x y valid at seen) (trail-cases (layers_of view) depth ((layers_of view).below (Some id)) x y)
  where
    widgets : Widgets
    widgets = view.tree.now

    enters : (e : Enters (layers_of view) depth ((layers_of view).below (Some id)) x y) → parent_id widgets e.id ≡ Some id → shows_at (scene_of view) (key_of (row_for widgets e.id)) x y ≡ true → IsLowest view depth e.id x y → IsLowest view (suc depth) id x y
    enters e parent seen low = record {
      top = low.top;
      live = low.live;
      ends = ap (λ (ids : List ℕ). last_of (Some id) ids) e.way ∙ low.ends;
      lowest = ap (λ (o : Option (ℕ × List ℕ)). option_map_or (lowest_in depth (scene_of view) x y) o (key_of (row_for widgets id))) (child-found (scene_of view) widgets id e.id x y refl valid live parent seen) ∙ low.lowest;
    }

    by : ((kid : ℕ) → IsLive widgets kid → shows_at (scene_of view) (key_of (row_for widgets kid)) x y ≡ true → IsLowest view depth kid x y) → Enters (layers_of view) depth ((layers_of view).below (Some id)) x y ⊎ Misses (layers_of view) depth ((layers_of view).below (Some id)) x y → IsLowest view (suc depth) id x y
    by deeper (inl e) =
        let found : child_in_slot widgets id e.slot ≡ Some e.id = sym (child-slot view id e.slot (omega (arith, e.within, length-children view id))) ∙ e.is in
        let parent = parent-child widgets id e.slot e.id valid found in
        let at = child-live widgets id e.id valid parent in
        let seen = child-shown (scene_of view) widgets id e.id x y refl valid parent shown (sym (rect-place view e.id x y at) ∙ e.inside) in
        enters e parent seen (deeper e.id at seen)
    by deeper (inr m) =
        let none = child-missed (scene_of view) widgets id x y refl valid live
        (λ kid parent.
        let slot = HasSlot-child widgets id kid valid parent in
        sym (rect-place view kid x y (child-live widgets id kid valid parent))
        ∙ m.each slot.slot kid (omega (arith, slot.within, length-children view id)) (child-slot view id slot.slot slot.within ∙ slot.found)) in
        record {
          top = id;
          live = live;
          ends = ap (λ (ids : List ℕ). last_of (Some id) ids) m.way;
          lowest = ap (λ (o : Option (ℕ × List ℕ)). option_map_or (lowest_in depth (scene_of view) x y) o (key_of (row_for widgets id))) none;
        }

-- the whole trail of a pixel
abbrev pub trail_of : View → ℤ → ℤ → List ℕ
trail_of view = trail (suc most_levels) (layers_of view) ((layers_of view).below None)

-- it ends at the widget on top
pub record IsTop (view : View) (x y : ℤ) : Type 0 where
  pub id : ℕ
  pub row : Row
  pub there : row_at view.tree.now.entries id ≡ Some row
  pub ends : last_of None (trail_of view x y) ≡ Some id
  pub top : top_of (scene_of view) x y ≡ Some (key_of row)

pub record HasNoTop (view : View) (x y : ℤ) : Type 0 where
  pub ends : last_of None (trail_of view x y) ≡ None
  pub top : top_of (scene_of view) x y ≡ None

pub tops : (view : View) (x y : ℤ) → IsWidgets view.tree.now → IsView view → on_screen (scene_of view) x y ≡ true → IsTop view x y ⊎ HasNoTop view x y
unfolding top_of
tops view x y valid is on = by (fronts view x y deeper view.stack.now valid on is.windows.each)
  where
    deeper : ℕ → List ℕ
    deeper id = trail most_levels (layers_of view) ((layers_of view).below (Some id)) x y

    by : IsFront view x y view.stack.now deeper (first_holding (layers_of view).rect deeper (map Some view.stack.now) x y) ⊎ HasNoFront view x y view.stack.now (first_holding (layers_of view).rect deeper (map Some view.stack.now) x y) → IsTop view x y ⊎ HasNoTop view x y
    by (inl f) =
        let low = lowest most_levels view f.id x y valid f.live f.shown in
        inl (record {
          id = low.top;
          row = row_for view.tree.now low.top;
          there = live-there view.tree.now low.top low.live;
          ends = ap (λ (ids : List ℕ). last_of None ids) (trail-windows view most_levels x y ∙ f.is) ∙ low.ends;
          top = ap (option_map (lowest_in most_levels (scene_of view) x y)) f.found ∙ ap Some low.lowest;
        })
    by (inr f) = inr (record {
      ends = ap (λ (ids : List ℕ). last_of None ids) (trail-windows view most_levels x y ∙ f.is);
      top = ap (option_map (lowest_in most_levels (scene_of view) x y)) f.found;
    })

colour-top : (view : View) (id : ℕ) (row : Row) (x y : ℤ) → IsWidgets view.tree.now → row_at view.tree.now.entries id ≡ Some row → (layers_of view).colour (Some id) x y ≡ colour_in (look_at (scene_of view) (key_of row)) (place_of (scene_of view) (key_of row)) x y
unfolding layers_of colour_below look_at place_of
colour-top view id row x y valid there =
    let rows = rows_of view.tree.now in
    let scene = scene_of view in
    let none : Rect = record { x = pos 0; y = pos 0; w = 0; h = 0 } in
    let found = row_of-number view.tree.now id row valid there in
    ap (λ (o : Option Row). option_map_or (λ (r : Row). colour_in (look_of scene r) (place_in rows r) x y) o 2) there
    ∙ sym (ap (λ (o : Option Row). colour_in (option_map_or (look_of scene) o no_film) (option_map_or (place_in rows) o none) x y) found)

colour-none : (view : View) (x y : ℤ) → (layers_of view).colour None x y ≡ 2
unfolding layers_of colour_below
colour-none view x y = refl

-- the colour by trails is the scene's
pub colour-same : (view : View) (x y : ℤ) → IsWidgets view.tree.now → IsView view → on_screen (scene_of view) x y ≡ true → colour_at (scene_of view) x y ≡ (layers_of view).colour (last_of None (trail_of view x y)) x y
unfolding colour_at
colour-same view x y valid is on = by (tops view x y valid is on)
  where
    by : IsTop view x y ⊎ HasNoTop view x y → colour_at (scene_of view) x y ≡ (layers_of view).colour (last_of None (trail_of view x y)) x y
    by (inl t) =
        ap (λ (o : Option (ℕ × List ℕ)). option_map_or (λ (key : ℕ × List ℕ). colour_in (look_at (scene_of view) key) (place_of (scene_of view) key) x y) o 2) t.top
        ∙ sym (colour-top view t.id t.row x y valid t.there)
        ∙ sym (ap (λ (top : Option ℕ). (layers_of view).colour top x y) t.ends)
    by (inr t) =
        ap (λ (o : Option (ℕ × List ℕ)). option_map_or (λ (key : ℕ × List ℕ). colour_in (look_at (scene_of view) key) (place_of (scene_of view) key) x y) o 2) t.top
        ∙ sym (colour-none view x y)
        ∙ sym (ap (λ (top : Option ℕ). (layers_of view).colour top x y) t.ends)
