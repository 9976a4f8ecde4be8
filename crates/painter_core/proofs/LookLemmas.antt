-- The look of a row of each kind, as a row of it is drawn.
use Rattle.std.proofs.Common.{◌≡◌, ℕ, zero, suc, ◌+◌, ◌-◌, ◌*◌, ◌<◌, ◌≤◌, ℤ, pos, ◌+ℤ◌, ◌-ℤ◌, Bool, List, [], length, take, refl, sym, ap, subst, ◌∙◌, arith}
use Rattle.std.specs.Prelude.{Option, Some, None, unsigned_abs, slice_index, slice_range}
use Rattle.std.specs.Option.{option_map_or}
use Rattle.kind_core.specs.declared.kinds.Kind.{Kind}
use Rattle.kind_core.specs.declared.kinds.Kind.TheVariants.{Window, Grid, Frame, Button, Label, Entry, Scale, Scrollbar, Variable, VScreen}
use Rattle.kind_core.specs.declared.kinds.Attr.TheVariants.{Title, Text, Max, Real, View}
use Rattle.look_core.specs.Seen as seen
use Rattle.look_core.specs.Seen.{Seen, in_row}
use Rattle.look_core.specs.Colour.{colour_of}
use Rattle.look_core.specs.Drawable.{IsDrawable}
use Rattle.widget_model.specs.Rows.{Row}
use Rattle.widget_model.specs.Keys.{key_of, row_of}
use Rattle.widget_model.specs.Widgets.{rows_of, row_at}
use Rattle.scene_model.specs.Scene.{Scene}
use Rattle.scene_model.specs.Fit.{AreFit}
use Rattle.scene_model.specs.LookOf.{look_by, look_of, is_held, has_focus}
use Rattle.scene_model.specs.Values.{text_of, label_of, count_of, scale_of, scrollbar_of, caret_of, is_vertical}
use Rattle.scene_model.proofs.Looks.{looks_are_fit}
use Rattle.painter_core.specs.declared.line.Line.{Line}
use Rattle.painter_core.specs.Lines.{IsLine, ShowsLook}
use Rattle.std.proofs.lemmas.Int.{ints}
use Rattle.std.proofs.lemmas.List.{drop_all}
use Rattle.std.proofs.Math.Nat.{mul-le-mul_right}
use Rattle.geom_core.specs.declared.rectangle.Rect.{Rect}
use Rattle.scene_model.specs.Placing.{place_in}
use Rattle.scene_model.specs.Colours.{colour_in}
use Rattle.scene_model.proofs.Ranges.{places_are_in_range}
use Rattle.scene_core.specs.declared.view.View as screen_view
use Rattle.scene_core.specs.View.{scene_of}
use Rattle.painter_core.specs.Stage.{layers_of, colour_below, rect_at}

look_in : (scene : Scene) (row : Row) (y : ℕ) (kind : Kind) → row.kind ≡ kind → in_row y (look_of scene row) ≡ in_row y (look_by kind scene row)
unfolding look_of
look_in scene row y kind e = ap (λ (k : Kind). in_row y (look_by k scene row)) e

pub look-window : (scene : Scene) (row : Row) (y : ℕ) (title : List ℕ) → row.kind ≡ Window → title ≡ text_of Title row → in_row y (look_of scene row) ≡ seen.window title
unfolding in_row
look-window scene row y title kind is = look_in scene row y Window kind ∙ ap seen.window (sym is)

pub look-grid : (scene : Scene) (row : Row) (y : ℕ) → row.kind ≡ Grid → in_row y (look_of scene row) ≡ seen.grid
unfolding in_row
look-grid scene row y kind = look_in scene row y Grid kind

pub look-frame : (scene : Scene) (row : Row) (y : ℕ) → row.kind ≡ Frame → in_row y (look_of scene row) ≡ seen.frame
unfolding in_row
look-frame scene row y kind = look_in scene row y Frame kind

pub look-variable : (scene : Scene) (row : Row) (y : ℕ) → row.kind ≡ Variable → in_row y (look_of scene row) ≡ seen.no_film
unfolding in_row
look-variable scene row y kind = look_in scene row y Variable kind

pub look-button : (scene : Scene) (row : Row) (y : ℕ) (text : List ℕ) (held : Bool) → row.kind ≡ Button → text ≡ text_of Text row → held ≡ is_held scene row → in_row y (look_of scene row) ≡ seen.button text held
unfolding in_row
look-button scene row y text held kind is holds = look_in scene row y Button kind ∙ ap (λ (t : List ℕ). seen.button t (is_held scene row)) (sym is) ∙ ap (seen.button text) (sym holds)

pub look-label : (scene : Scene) (row : Row) (y : ℕ) (shown : List ℕ) → row.kind ≡ Label → shown ≡ label_of scene.rows row → in_row y (look_of scene row) ≡ seen.label shown
unfolding in_row
look-label scene row y shown kind is = look_in scene row y Label kind ∙ ap seen.label (sym is)

pub look-entry : (scene : Scene) (row : Row) (y : ℕ) (text : List ℕ) (caret : ℕ) (focus : Bool) → row.kind ≡ Entry → text ≡ text_of Text row → caret ≡ caret_of row → focus ≡ has_focus scene row → in_row y (look_of scene row) ≡ seen.entry text caret focus
unfolding in_row
look-entry scene row y text caret focus kind is at has =
    look_in scene row y Entry kind ∙ ap (λ (t : List ℕ). seen.entry t (caret_of row) (has_focus scene row)) (sym is) ∙ ap (λ (n : ℕ). seen.entry text n (has_focus scene row)) (sym at) ∙ ap (seen.entry text caret) (sym has)

pub look-scale : (scene : Scene) (row : Row) (y value max : ℕ) (vert held : Bool) → row.kind ≡ Scale → value ≡ unsigned_abs (scale_of scene.rows row) → max ≡ count_of Max row → vert ≡ is_vertical row → held ≡ is_held scene row → in_row y (look_of scene row) ≡ seen.scale value max vert held
unfolding in_row
look-scale scene row y value max vert held kind v m d h =
    look_in scene row y Scale kind
    ∙ ap (λ (n : ℕ). seen.scale n (count_of Max row) (is_vertical row) (is_held scene row)) (sym v)
    ∙ ap (λ (n : ℕ). seen.scale value n (is_vertical row) (is_held scene row)) (sym m)
    ∙ ap (λ (b : Bool). seen.scale value max b (is_held scene row)) (sym d)
    ∙ ap (seen.scale value max vert) (sym h)

pub look-scrollbar : (scene : Scene) (row : Row) (y value real view : ℕ) (vert held : Bool) → row.kind ≡ Scrollbar → value ≡ unsigned_abs (scrollbar_of scene.rows row) → real ≡ count_of Real row → view ≡ count_of View row → vert ≡ is_vertical row → held ≡ is_held scene row → in_row y (look_of scene row) ≡ seen.scrollbar value real view vert held
unfolding in_row
look-scrollbar scene row y value real view vert held kind v r w d h =
    look_in scene row y Scrollbar kind
    ∙ ap (λ (n : ℕ). seen.scrollbar n (count_of Real row) (count_of View row) (is_vertical row) (is_held scene row)) (sym v)
    ∙ ap (λ (n : ℕ). seen.scrollbar value n (count_of View row) (is_vertical row) (is_held scene row)) (sym r)
    ∙ ap (λ (n : ℕ). seen.scrollbar value real n (is_vertical row) (is_held scene row)) (sym w)
    ∙ ap (λ (b : Bool). seen.scrollbar value real view b (is_held scene row)) (sym d)
    ∙ ap (seen.scrollbar value real view vert) (sym h)

pub look-vscreen : (scene : Scene) (row : Row) → row.kind ≡ VScreen → look_of scene row ≡ option_map_or (λ film. seen.film film.width film.height film.shown) row.film seen.no_film
unfolding look_of
look-vscreen scene row kind = ap (λ (k : Kind). look_by k scene row) kind

pub look-no_film : (y : ℕ) → in_row y seen.no_film ≡ seen.no_film
unfolding in_row
look-no_film y = refl

pub look-film : (y w h : ℕ) (bytes row : List ℕ) → row ≡ slice_range bytes (y * w) ((y + 1) * w) → in_row y (seen.film w h bytes) ≡ seen.film w h row
unfolding in_row
look-film y w h bytes row is = ap (seen.film w h) (sym is)

-- what a span drawn from a row of the look shows
pub ShowsLook-drawn : (look shown : Seen) (at : Line) (old new : List ℕ) → IsLine at (length old) → length new ≡ length old → in_row at.y look ≡ shown → ((s : Seen) → in_row at.y s ≡ shown → (i : ℕ) → i < at.to - at.from → slice_index new i ≡ colour_of s at.w at.h (at.from + i) at.y) → ShowsLook look at new
ShowsLook-drawn look shown at old new line same is whole i less = whole look is i (omega (arith, less, same, line.room))

-- such a row can be drawn
pub drawable : (scene : Scene) (row : Row) (y : ℕ) (shown : Seen) → AreFit scene.rows → row_of scene.rows (key_of row) ≡ Some row → in_row y (look_of scene row) ≡ shown → IsDrawable y shown
drawable scene row y shown fit found is = subst (IsDrawable y) is ((looks_are_fit scene row fit found).drawable y)

take_none : (n : ℕ) → take {A = ℕ} n [] ≡ []
take_none zero = refl
take_none (suc n) = refl

-- below a film there are no bytes
pub no_row : (w h y : ℕ) (bytes : List ℕ) → length bytes ≡ w * h → h ≤ y → [] ≡ slice_range bytes (y * w) ((y + 1) * w)
no_row w h y bytes size below =
    let past : length bytes ≤ y * w = omega (arith, size, mul-le-mul_right w below) in
    sym (ap (λ (rest : List ℕ). take ((y + 1) * w - y * w) rest) (drop_all (y * w) bytes past) ∙ take_none ((y + 1) * w - y * w))

local : (start p : ℤ) (from i : ℕ) → start +ℤ pos from ≡ p → (p +ℤ pos i) -ℤ start ≡ pos (from + i)
local start p from i e = omega (arith, ints)

local_row : (start p : ℤ) (y : ℕ) → start +ℤ pos y ≡ p → p -ℤ start ≡ pos y
local_row start p y e = omega (arith, ints)

-- the colour of a pixel of the screen is that of the look at its local pixel
pub colour-local : (view : screen_view.View) (id i : ℕ) (row : Row) (at : Line) (line : Rect) → row_at view.tree.now.entries id ≡ Some row → at.w ≡ ((layers_of view).rect id).w → at.h ≡ ((layers_of view).rect id).h → ((layers_of view).rect id).x +ℤ pos at.from ≡ line.x → ((layers_of view).rect id).y +ℤ pos at.y ≡ line.y → (layers_of view).colour (Some id) (line.x +ℤ pos i) line.y ≡ colour_of (look_of (scene_of view) row) at.w at.h (at.from + i) at.y
unfolding layers_of colour_below colour_in rect_at
colour-local view id i row at line there w h from y =
    let rows = rows_of view.tree.now in
    let place = place_in rows row in
    let look = look_of (scene_of view) row in
    let none : Rect = record { x = pos 0; y = pos 0; w = 0; h = 0 } in
    let is = ap (λ (o : Option Row). option_map_or (place_in rows) o none) there in
    let column : place.x +ℤ pos at.from ≡ line.x = ap (λ (r : Rect). r.x +ℤ pos at.from) (sym is) ∙ from in
    let line_row : place.y +ℤ pos at.y ≡ line.y = ap (λ (r : Rect). r.y +ℤ pos at.y) (sym is) ∙ y in
    let width : place.w ≡ at.w = ap (λ (r : Rect). r.w) (sym is) ∙ sym w in
    let height : place.h ≡ at.h = ap (λ (r : Rect). r.h) (sym is) ∙ sym h in
    ap (λ (o : Option Row). option_map_or (λ (r : Row). colour_of (look_of (scene_of view) r) (place_in rows r).w (place_in rows r).h (unsigned_abs ((line.x +ℤ pos i) -ℤ (place_in rows r).x)) (unsigned_abs (line.y -ℤ (place_in rows r).y))) o 2) there
    ∙ ap (λ (n : ℕ). colour_of look n place.h (unsigned_abs ((line.x +ℤ pos i) -ℤ place.x)) (unsigned_abs (line.y -ℤ place.y))) width
    ∙ ap (λ (n : ℕ). colour_of look at.w n (unsigned_abs ((line.x +ℤ pos i) -ℤ place.x)) (unsigned_abs (line.y -ℤ place.y))) height
    ∙ ap (λ (p : ℤ). colour_of look at.w at.h (unsigned_abs p) (unsigned_abs (line.y -ℤ place.y))) (local place.x line.x at.from i column)
    ∙ ap (λ (p : ℤ). colour_of look at.w at.h (at.from + i) (unsigned_abs p)) (local_row place.y line.y at.y line_row)

-- a place is small
pub small_place : (view : screen_view.View) (id : ℕ) (row : Row) → AreFit (rows_of view.tree.now) → row_of (rows_of view.tree.now) (key_of row) ≡ Some row → row_at view.tree.now.entries id ≡ Some row → (((layers_of view).rect id).w ≤ 4128) × (((layers_of view).rect id).h ≤ 4128)
unfolding layers_of rect_at
small_place view id row fit found there =
    let rows = rows_of view.tree.now in
    let none : Rect = record { x = pos 0; y = pos 0; w = 0; h = 0 } in
    let is = ap (λ (o : Option Row). option_map_or (place_in rows) o none) there in
    let small = places_are_in_range rows row fit found in
    (omega (arith, small.width, ap (λ (r : Rect). r.w) is), omega (arith, small.height, ap (λ (r : Rect). r.h) is))

pub colour-desk : (view : screen_view.View) (x y : ℤ) → (layers_of view).colour None x y ≡ 2
unfolding layers_of colour_below
colour-desk view x y = refl
