-- From what a server's parts do to a step of the machine.
use Rattle.std.proofs.Common.{◌≡◌, ℕ, ◌+◌, ◌-◌, ◌*◌, ◌≤◌, min, pos, Bool, true, false, not, ◌&&◌, ◌||◌, cond, List, length, get_or, replicate, refl, sym, ap, ◌∙◌, subst, arith}
use Rattle.cmd_words.specs.declared.inputs.Drew.{Drew}
use Rattle.cmd_words.specs.declared.replies.Reply.{Reply}
use Rattle.kind_core.specs.declared.shapes.Shape.{Shape}
use Rattle.canvas_core.specs.Screen.{Screen, IsScreen, pixel_of}
use Rattle.vscreen_core.specs.declared.band.Band.{Band}
use Rattle.tree_core.specs.declared.id.Id.{Id}
use Rattle.redraw_core.specs.Dirt.{Dirt, IsDirt, dirty_count}
use Rattle.scene_model.specs.Shapes.{area}
use Rattle.scene_model.specs.Colours.{colour_at}
use Rattle.scene_model.specs.Scene.{Scene}
use Rattle.desk_model.specs.Desk.{Desk, opening_desk}
use Rattle.desk_model.specs.DeskFacts.{IsDesk}
use Rattle.desk_model.specs.Seen.{scene_of, colour}
use Rattle.desk_model.specs.Refusals.{is_memory}
use Rattle.desk_model.specs.Beat.{beat, in_band, band_count}
use Rattle.machine_model.specs.Damage.{in_reach}
use Rattle.machine_model.specs.Reach.{is_reached}
use Rattle.machine_model.specs.State.{opening}
use Rattle.machine_model.specs.Step.{Changed, Answered, Ticked}
use Rattle.machine_model.proofs.Beat.{shape-beat, bands_fit}
use Rattle.machine_model.proofs.Steps.{IsState-changed, IsState-ticked}
use Rattle.scene_core.specs.declared.view.View.{View}
use Rattle.scene_core.specs.View as views
use Rattle.drawing_core.specs.Banding.{BandsDrawn}
use Rattle.drawing_core.specs.Drawing.{Drawn}
use Rattle.server_core.specs.Serving.{state_of, IsServing}
use Rattle.server_core.specs.Calls.{MarkedReach}
use Rattle.server_core.proofs.BandPixels.{IsHanded, shown_is_banded, bands-counted}

width-shape : (a b : Shape) → a ≡ b → a.width ≡ b.width
width-shape a b same = ap (λ (s : Shape). s.width) same

height-shape : (a b : Shape) → a ≡ b → a.height ≡ b.height
height-shape a b same = ap (λ (s : Shape). s.height) same

-- a mark for each pixel of the screen
marks-size : (shape : Shape) (dirt : Dirt) → IsDirt dirt → dirt.width ≡ shape.width → dirt.height ≡ shape.height → length dirt.marks ≡ area shape
marks-size shape dirt is width height = is.size ∙ ap (λ w. w * dirt.height) width ∙ ap (λ h. shape.width * h) height

-- a byte for each pixel of the screen
bytes-size : (shape : Shape) (canvas : Screen) → IsScreen canvas → canvas.width ≡ shape.width → canvas.height ≡ shape.height → length canvas.bytes ≡ area shape
bytes-size shape canvas is width height = is.area ∙ ap (λ w. w * canvas.height) width ∙ ap (λ h. shape.width * h) height

-- marking what a change reaches is a change of the state
Changed-marked : (before after : Desk) (bytes : List ℕ) (old new : Dirt) → after.shape ≡ before.shape → IsDirt old → old.width ≡ before.shape.width → old.height ≡ before.shape.height → MarkedReach before after old new → Changed (state_of before bytes old.marks) after (state_of after bytes new.marks)
unfolding is_reached
Changed-marked before after bytes old new same is width height marked =
    let wide : after.shape.width ≡ before.shape.width = width-shape after.shape before.shape same in
    let high : after.shape.height ≡ before.shape.height = height-shape after.shape before.shape same in
    record {
      desk = refl;
      screen = refl;
      size = marks-size before.shape new marked.valid (marked.width ∙ width) (marked.height ∙ height) ∙ sym (marks-size before.shape old is width height);
      dirt = λ x y hx hy.
          ap (λ w. get_or new.marks (y * w + x) false) (wide ∙ sym width ∙ sym marked.width)
          ∙ marked.pixels x y (omega arith) (omega arith)
          ∙ ap (λ w. get_or old.marks (y * w + x) false || in_reach (scene_of before) (scene_of after) (pos x) (pos y)) width;
    }

-- What a call on the desk, and marking what it reaches, make of the parts: a change of the state, and parts that serve on.
pub change_of_parts : {shape : Shape} {canvas : Screen} {old new : Dirt} (before after : Desk) → after.shape ≡ before.shape → IsDesk after → IsServing shape before canvas old → MarkedReach before after old new → Changed (state_of before canvas.bytes old.marks) after (state_of after canvas.bytes new.marks) × IsServing shape after canvas new
change_of_parts {shape} {canvas} {old} {new} before after same fine is marked =
    let was = state_of before canvas.bytes old.marks in
    let now = state_of after canvas.bytes new.marks in
    let width : old.width ≡ before.shape.width = is.dirt_width ∙ sym (width-shape before.shape shape is.shape_is) in
    let height : old.height ≡ before.shape.height = is.dirt_height ∙ sym (height-shape before.shape shape is.shape_is) in
    let ch : Changed was after now = Changed-marked before after canvas.bytes old new same is.dirt width height marked in (
      ch,
      record {
        state = IsState-changed was after now is.state fine same ch;
        shape_is = same ∙ is.shape_is;
        screen = is.screen;
        width = is.width;
        height = is.height;
        dirt = marked.valid;
        dirt_width = marked.width ∙ is.dirt_width;
        dirt_height = marked.height ∙ is.dirt_height;
      },
    )

-- a step keeps the desk's shape
pub shape_of_step : (before after : Desk) (stepped : Bool → Reply × Desk) (reply : Reply) → ((short : Bool) → (stepped short).1.shape ≡ before.shape) → (reply, after) ≡ stepped (is_memory reply) → after.shape ≡ before.shape
shape_of_step before after stepped reply keeps step = ap (λ (s : Reply × Desk). s.1.shape) step ∙ keeps (is_memory reply)

-- The same as a step of the machine.
pub step_of_parts : {shape : Shape} {canvas : Screen} {old new : Dirt} (before after : Desk) (stepped : Bool → Reply × Desk) (reply : Reply) → after.shape ≡ before.shape → IsDesk after → IsServing shape before canvas old → (reply, after) ≡ stepped (is_memory reply) → MarkedReach before after old new
    → Answered (state_of before canvas.bytes old.marks) stepped reply (state_of after canvas.bytes new.marks) × IsServing shape after canvas new
step_of_parts {shape} {canvas} {old} {new} before after stepped reply same fine is step marked =
    let was = state_of before canvas.bytes old.marks in
    let now = state_of after canvas.bytes new.marks in
    let desk : after ≡ (stepped (is_memory reply)).1 = ap (λ (s : Reply × Desk). s.1) step in
    let made = change_of_parts before after same fine is marked in (
      record { reply_is = ap (λ (s : Reply × Desk). s.0) step; change = subst (λ (d : Desk). Changed was d now) desk made.0 },
      made.1,
    )

-- The same of an input, which is answered by nothing else.
pub fed_of_parts : {shape : Shape} {canvas : Screen} {old new : Dirt} (before after next : Desk) → after.shape ≡ before.shape → IsDesk after → IsServing shape before canvas old → after ≡ next → MarkedReach before after old new
    → Changed (state_of before canvas.bytes old.marks) next (state_of after canvas.bytes new.marks) × IsServing shape after canvas new
fed_of_parts {shape} {canvas} {old} {new} before after next same fine is fed marked =
    let made = change_of_parts before after same fine is marked in
    (subst (λ (d : Desk). Changed (state_of before canvas.bytes old.marks) d (state_of after canvas.bytes new.marks)) fed made.0, made.1)

-- what was drawn twice, the second time over the first
drawn_over : (cleaned band : Bool) (now between before drawn : ℕ) → now ≡ cond cleaned drawn between → between ≡ cond band drawn before → now ≡ cond (cleaned || band) drawn before
drawn_over true band now between before drawn e f = e
drawn_over false band now between before drawn e f = e ∙ f

-- What a tick does to the desk and to the canvas: the beat, the count of writes begun anew, the bands that the beat handed
-- out drawn, and then a part of the dirt.
pub record Beats (desk next : Desk) (canvas : Screen) (old : Dirt) (view : View) (items : List (Id × Band)) (screen banded drawn : Screen) (new : Dirt) (bands queue left : ℕ) : Type 0 where
  pub beats : next ≡ beat desk
  pub shown : views.scene_of view ≡ scene_of next
  pub handed : IsHanded view.tree.now.entries items desk
  pub begun : IsScreen screen
  pub width : screen.width ≡ canvas.width
  pub height : screen.height ≡ canvas.height
  pub bytes : screen.bytes ≡ canvas.bytes
  pub bands_drawn : BandsDrawn view items bands screen banded
  pub dirt_drawn : Drawn (views.scene_of view) old banded queue new drawn
  pub many : queue ≡ min (dirty_count old) (desk.shape.budget - bands)
  pub rest : left ≡ dirty_count new

-- It is a tick.
Ticked-drawn : {shape : Shape} (desk next : Desk) (canvas : Screen) (old : Dirt) (view : View) (items : List (Id × Band)) (screen banded drawn : Screen) (new : Dirt) (bands queue left : ℕ) → IsServing shape desk canvas old → Beats desk next canvas old view items screen banded drawn new bands queue left
    → Ticked (state_of desk canvas.bytes old.marks) (record { bands = bands; queue = queue; left = left }) (state_of next drawn.bytes new.marks)
unfolding colour
Ticked-drawn {shape} desk next canvas old view items screen banded drawn new bands queue left is b =
    let same : next.shape ≡ desk.shape = ap (λ (d : Desk). d.shape) b.beats ∙ shape-beat desk in
    let wide : old.width ≡ desk.shape.width = is.dirt_width ∙ sym (width-shape desk.shape shape is.shape_is) in
    let high : old.height ≡ desk.shape.height = is.dirt_height ∙ sym (height-shape desk.shape shape is.shape_is) in
    let wide_screen : screen.width ≡ desk.shape.width = b.width ∙ is.width ∙ sym (width-shape desk.shape shape is.shape_is) in
    let high_screen : screen.height ≡ desk.shape.height = b.height ∙ is.height ∙ sym (height-shape desk.shape shape is.shape_is) in
    let wide_next : next.shape.width ≡ desk.shape.width = width-shape next.shape desk.shape same in
    let wide_new : new.width ≡ desk.shape.width = b.dirt_drawn.dirt_width ∙ wide in
    let high_new : new.height ≡ desk.shape.height = b.dirt_drawn.dirt_height ∙ high in
    let wide_drawn : drawn.width ≡ desk.shape.width = b.dirt_drawn.canvas_width ∙ b.bands_drawn.width ∙ wide_screen in
    let high_drawn : drawn.height ≡ desk.shape.height = b.dirt_drawn.canvas_height ∙ b.bands_drawn.height ∙ high_screen in
    let shows = shown_is_banded desk next view items is.state.desk b.beats b.shown b.handed in
    record {
      desk = b.beats;
      screen_size = bytes-size desk.shape drawn b.dirt_drawn.canvas wide_drawn high_drawn ∙ sym (bytes-size desk.shape screen b.begun wide_screen high_screen) ∙ ap length b.bytes;
      dirt_size = marks-size desk.shape new b.dirt_drawn.dirt wide_new high_new ∙ sym (marks-size desk.shape old is.dirt wide high);
      screen = λ x y hx hy.
          let here = colour_at (scene_of next) (pos x) (pos y) in
          let cleaned = get_or old.marks (y * desk.shape.width + x) false && not (get_or new.marks (y * next.shape.width + x) false) in
          let after : get_or drawn.bytes (y * next.shape.width + x) 0 ≡ cond cleaned here (pixel_of banded x y) =
          ap (λ w. get_or drawn.bytes (y * w + x) 0) (wide_next ∙ sym wide_drawn)
          ∙ b.dirt_drawn.pixels x y (omega arith) (omega arith)
          ∙ ap (λ w. cond (get_or old.marks (y * w + x) false && not (get_or new.marks (y * new.width + x) false)) (colour_at (views.scene_of view) (pos x) (pos y)) (pixel_of banded x y)) wide
          ∙ ap (λ w. cond (get_or old.marks (y * desk.shape.width + x) false && not (get_or new.marks (y * w + x) false)) (colour_at (views.scene_of view) (pos x) (pos y)) (pixel_of banded x y)) (wide_new ∙ sym wide_next)
          ∙ ap (λ (s : Scene). cond cleaned (colour_at s (pos x) (pos y)) (pixel_of banded x y)) b.shown in
          let before : pixel_of banded x y ≡ cond (in_band next x y) here (get_or canvas.bytes (y * desk.shape.width + x) 0) =
          b.bands_drawn.pixels x y (omega arith) (omega arith)
          ∙ ap (λ t. cond t (colour_at (views.scene_of view) (pos x) (pos y)) (pixel_of screen x y)) (shows x y)
          ∙ ap (λ (s : Scene). cond (in_band next x y) (colour_at s (pos x) (pos y)) (pixel_of screen x y)) b.shown
          ∙ ap (λ w. cond (in_band next x y) here (get_or screen.bytes (y * w + x) 0)) wide_screen
          ∙ ap (λ (bytes : List ℕ). cond (in_band next x y) here (get_or bytes (y * desk.shape.width + x) 0)) b.bytes in
          drawn_over cleaned (in_band next x y) (get_or drawn.bytes (y * next.shape.width + x) 0) (pixel_of banded x y) (get_or canvas.bytes (y * desk.shape.width + x) 0) here after before;
      dirt = λ x y hx hy on.
          ap (λ w. get_or old.marks (y * w + x) false) (sym wide)
          ∙ b.dirt_drawn.cleans x y (omega arith) (omega arith) (ap (λ w. get_or new.marks (y * w + x) false) (wide_new ∙ sym wide_next) ∙ on);
      bands = b.bands_drawn.counted ∙ bands-counted next view items shows (ap (λ (s : Scene). s.width) b.shown) (ap (λ (s : Scene). s.height) b.shown);
      queue = b.many;
      left = b.rest;
      cleaned = b.dirt_drawn.cleaned;
    }

-- What a tick makes of the parts: a tick of the machine, and parts that serve on.
pub tick_of_parts : {shape : Shape} {desk next : Desk} {canvas : Screen} {old : Dirt} {view : View} {items : List (Id × Band)} {screen banded drawn : Screen} {new : Dirt} {bands queue left : ℕ} → IsServing shape desk canvas old → Beats desk next canvas old view items screen banded drawn new bands queue left
    → Ticked (state_of desk canvas.bytes old.marks) (record { bands = bands; queue = queue; left = left }) (state_of next drawn.bytes new.marks) × IsServing shape next drawn new
tick_of_parts {shape} {desk} {next} {canvas} {old} {view} {items} {screen} {banded} {drawn} {new} {bands} {queue} {left} is b =
    let drew : Drew = record { bands = bands; queue = queue; left = left } in
    let t = Ticked-drawn desk next canvas old view items screen banded drawn new bands queue left is b in (
      t,
      record {
        state = IsState-ticked (state_of desk canvas.bytes old.marks) drew (state_of next drawn.bytes new.marks) is.state t;
        shape_is = ap (λ (d : Desk). d.shape) b.beats ∙ shape-beat desk ∙ is.shape_is;
        screen = b.dirt_drawn.canvas;
        width = b.dirt_drawn.canvas_width ∙ b.bands_drawn.width ∙ b.width ∙ is.width;
        height = b.dirt_drawn.canvas_height ∙ b.bands_drawn.height ∙ b.height ∙ is.height;
        dirt = b.dirt_drawn.dirt;
        dirt_width = b.dirt_drawn.dirt_width ∙ is.dirt_width;
        dirt_height = b.dirt_drawn.dirt_height ∙ is.dirt_height;
      },
    )

-- the bands leave room in the budget
pub bands_in_budget : {shape : Shape} (desk next : Desk) (canvas : Screen) (old : Dirt) (view : View) (items : List (Id × Band)) (screen banded : Screen) (bands : ℕ) → IsServing shape desk canvas old → next ≡ beat desk → views.scene_of view ≡ scene_of next
    → IsHanded view.tree.now.entries items desk → BandsDrawn view items bands screen banded → bands ≤ shape.budget
bands_in_budget {shape} desk next canvas old view items screen banded bands is beats shown handed b =
    let counted : bands ≡ band_count (beat desk) = b.counted ∙ bands-counted next view items (shown_is_banded desk next view items is.state.desk beats shown handed) (ap (λ (s : Scene). s.width) shown) (ap (λ (s : Scene). s.height) shown) ∙ ap band_count beats in
    omega (arith, counted, bands_fit desk is.state.desk, ap (λ (s : Shape). s.budget) is.shape_is)

-- what a new server's parts make up
pub opened : (shape : Shape) (desk : Desk) (bytes : List ℕ) (dirt : List Bool) → desk ≡ opening_desk shape → bytes ≡ replicate (area shape) 2 → dirt ≡ replicate (area shape) false → state_of desk bytes dirt ≡ opening shape
unfolding opening
opened shape desk bytes dirt d e f =
    ap (λ (desk : Desk). state_of desk bytes dirt) d ∙ ap (λ b. state_of (opening_desk shape) b dirt) e ∙ ap (λ m. state_of (opening_desk shape) (replicate (area shape) 2) m) f
