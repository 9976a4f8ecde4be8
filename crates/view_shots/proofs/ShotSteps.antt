-- The spots of a shot as they are put in, from the open windows down.
use Rattle.std.proofs.Common.{◌≡◌, ◌≢◌, ℕ, zero, suc, ◌+◌, ◌-◌, ◌<◌, ◌≤◌, ℤ, pos, Bool, true, false, ◌&&◌, ◌||◌, nat_eq, List, [], ◌∷◌, ◌++◌, map, length, get_or, set, take, Option, Some, None, IfSome, IsSome, IsSomeAnd, ◌⊎◌, inl, inr, refl, sym, ap, ◌∙◌, arith, subst, get_or-set_same, get_or-set_other}
use Rattle.std.proofs.lemmas.Bool.{true≢false, cases_eq, cases_lt, or_left, or_right, or_from, or_parts, eq-eqb, eqb-true}
use Rattle.std.proofs.lemmas.List.{take_more, map-append}
use Rattle.std.specs.List.{Contains, list_any}
use Rattle.std.specs.Option.{option_map, option_map_or, option_and_then}
use Rattle.geom_core.specs.declared.rectangle.Rect.{Rect}
use Rattle.geom_core.specs.Rect.{in_rect}
use Rattle.kind_core.specs.declared.shapes.Cell.{Cell}
use Rattle.widget_model.specs.Rows.{Row}
use Rattle.widget_model.specs.Nodes.{id_named}
use Rattle.widget_model.specs.Keys.{key_of}
use Rattle.widget_model.specs.Widgets.{Widgets, rows_of, nodes, IsLive}
use Rattle.widget_model.specs.Forest.{IsWidgets}
use Rattle.widget_model.specs.Relatives.{parent_id, root_id}
use Rattle.widget_model.specs.Trees.{most_levels}
use Rattle.tree_core.specs.declared.pointer.Pointer.{Pointer}
use Rattle.tree_core.proofs.TreeKept.{row-owned}
use Rattle.scene_model.specs.Scene.{Scene}
use Rattle.scene_model.specs.Placing.{place_in}
use Rattle.scene_model.specs.Showing.{shows_at, on_screen}
use Rattle.stack_core.specs.Stack.{holds_key, AreDistinct}
use Rattle.shot_core.specs.Shot as shots
use Rattle.shot_core.specs.Shot.{Seen, IsShot, IsBare, spot_at, windows_in}
use Rattle.shot_core.specs.declared.spot.Spot.{Spot}
use Rattle.scene_core.specs.Children.{row_for, AreChildren}
use Rattle.scene_core.specs.View.{IsUnderOpen, scene_from}
use Rattle.scene_core.specs.Laid.{IsBelow}
use Rattle.view_shots.specs.Shots.{place_by, shows_by, is_shown_id, IsSpotBy, IsShotBy}
use Rattle.view_shots.specs.Spots.{IsShownSpot, AreSpots, HasBelow, ArePut, ArePartlyPut, AreShot}
use Rattle.scene_core.proofs.Numbered.{live-there}
use Rattle.scene_core.proofs.LeastSteps.{child-live}
use Rattle.scene_core.proofs.Tops.{window-alone, root-window, root-child, shows-window, shows-child, IsOpenWindow}
use Rattle.scene_core.proofs.Roots.{rooted-live}
use Rattle.scene_core.proofs.LaySteps.{below-root}

most_numbers-is : shots.most_numbers ≡ 2048
unfolding shots.most_numbers
most_numbers-is = refl

-- the number of a widget is below that of all numbers
pub number-low : (widgets : Widgets) (id : ℕ) → IsWidgets widgets → IsLive widgets id → id < shots.most_numbers
number-low widgets id valid live =
    let own = row-owned widgets id (row_for widgets id) valid (live-there widgets id live) in
    omega (arith, own.to, own.high, most_numbers-is)

-- a number that stands in a list passes the test for it
pub among-any : (ids : List ℕ) (id : ℕ) → Contains ids id → list_any (nat_eq id) ids ≡ true
among-any ids id among = at ids among.0 among.1 among.2
  where
    at : (ns : List ℕ) (k : ℕ) → k < length ns → get_or ns k id ≡ id → list_any (nat_eq id) ns ≡ true
    at [] k less is = absurd (omega arith)
    at (n ∷ ns) zero less is = or_left _ _ (eq-eqb id n (sym is))
    at (n ∷ ns) (suc k) less is = or_right _ _ (at ns k (omega arith) is)

pub any-among : (ids : List ℕ) (id : ℕ) → list_any (nat_eq id) ids ≡ true → Contains ids id
any-among [] id any = absurd (true≢false (sym any))
any-among (n ∷ ns) id any = by (any-among ns id) (nat_eq id n) refl any
  where
    by : (list_any (nat_eq id) ns ≡ true → Contains ns id) → (b : Bool) → nat_eq id n ≡ b → (b || list_any (nat_eq id) ns) ≡ true → Contains (n ∷ ns) id
    by rest true same h = (0, omega arith, sym (eqb-true id n same))
    by rest false differ h = let later = rest h in (suc later.0, omega (arith, later.1), later.2)

-- a widget under an open window is shown, and the other way round
pub under-shown : (widgets : Widgets) (windows : List ℕ) (id : ℕ) → IsUnderOpen widgets windows id → is_shown_id widgets windows id ≡ true
unfolding is_shown_id
under-shown widgets windows id under = ap (λ (o : Option ℕ). option_map_or (λ (root : ℕ). list_any (nat_eq root) windows) o false) under.root ∙ among-any windows under.window under.among

pub shown-under : (widgets : Widgets) (windows : List ℕ) (id : ℕ) → is_shown_id widgets windows id ≡ true → IsUnderOpen widgets windows id
unfolding is_shown_id
shown-under widgets windows id shown = by (root_id widgets id) refl shown
  where
    by : (o : Option ℕ) → root_id widgets id ≡ o → option_map_or (λ (root : ℕ). list_any (nat_eq root) windows) o false ≡ true → IsUnderOpen widgets windows id
    by None root h = absurd (true≢false (sym h))
    by (Some window) root h = record { window = window; among = any-among windows window h; root = root }

-- what is said of a live number is said of its row
pub place-there : (widgets : Widgets) (id : ℕ) → IsLive widgets id → place_by widgets id ≡ place_in (rows_of widgets) (row_for widgets id)
place-there widgets id live = ap (λ (o : Option Row). option_map_or (place_in (rows_of widgets)) o (record { x = pos 0; y = pos 0; w = 0; h = 0 })) (live-there widgets id live)

pub shows-there : (widgets : Widgets) (scene : Scene) (id : ℕ) (x y : ℤ) → IsLive widgets id → shows_by widgets scene id x y ≡ shows_at scene (key_of (row_for widgets id)) x y
shows-there widgets scene id x y live = ap (λ (o : Option Row). option_map_or (λ (key : ℕ × List ℕ). shows_at scene key x y) (option_map key_of o) false) (live-there widgets id live)

parent-none : (widgets : Widgets) (id : ℕ) → IsLive widgets id → (row_for widgets id).attached ≡ None → parent_id widgets id ≡ None
parent-none widgets id live alone =
    ap (option_and_then (λ (row : Row). option_and_then (λ (attached : List ℕ × Cell). id_named (nodes widgets.entries) row.client attached.0) row.attached)) (live-there widgets id live)
    ∙ ap (option_and_then (λ (attached : List ℕ × Cell). id_named (nodes widgets.entries) (row_for widgets id).client attached.0)) alone

-- the spot of a window, and that of a child
pub window-spot : (scene : Scene) (widgets : Widgets) (id : ℕ) (place shown : Rect) → scene.rows ≡ rows_of widgets → IsWidgets widgets → IsOpenWindow widgets id → place ≡ place_in (rows_of widgets) (row_for widgets id)
    → ((x y : ℤ) → in_rect shown x y ≡ (in_rect place x y && on_screen scene x y)) → IsSpotBy widgets scene id (record { parent = None; window = id; place = place; shown = shown })
window-spot scene widgets id place shown rows valid window is pixels = record {
  parent = sym (parent-none widgets id window.live (window-alone widgets id valid window.live window.kind));
  window = root-window widgets id valid window;
  place = is ∙ sym (place-there widgets id window.live);
  shown = λ x y. pixels x y ∙ ap (λ (r : Rect). in_rect r x y && on_screen scene x y) is ∙ sym (shows-window scene widgets id x y rows valid window) ∙ sym (shows-there widgets scene id x y window.live);
}

pub child-spot : (scene : Scene) (widgets : Widgets) (id kid : ℕ) (spot : Spot) (place shown : Rect) → scene.rows ≡ rows_of widgets → IsWidgets widgets → parent_id widgets kid ≡ Some id → IsSpotBy widgets scene id spot → place ≡ place_in (rows_of widgets) (row_for widgets kid)
    → ((x y : ℤ) → in_rect shown x y ≡ (in_rect place x y && in_rect spot.shown x y)) → IsSpotBy widgets scene kid (record { parent = Some id; window = spot.window; place = place; shown = shown })
child-spot scene widgets id kid spot place shown rows valid parent above is pixels =
    let upper = rooted-live widgets id spot.window above.window in
    let live = child-live widgets id kid valid parent in
    record {
      parent = sym parent;
      window = root-child widgets id kid valid upper parent ∙ above.window;
      place = is ∙ sym (place-there widgets kid live);
      shown = λ x y. pixels x y ∙ ap (λ (r : Rect). in_rect r x y && in_rect spot.shown x y) is
          ∙ ap (λ (b : Bool). in_rect (place_in (rows_of widgets) (row_for widgets kid)) x y && b) (above.shown x y ∙ shows-there widgets scene id x y upper)
          ∙ sym (shows-child scene widgets id kid x y rows valid parent) ∙ sym (shows-there widgets scene kid x y live);
    }

-- a window with its place
abbrev pub entry_of : Widgets → ℕ → ℕ × Rect
entry_of widgets id = (id, place_by widgets id)

module _ (widgets : Widgets) (windows : List ℕ) (scene : Scene) where
  -- the widget's own spot
  pub put-own : (most id : ℕ) (keys : List ℕ) (old new : Seen) (spot : Spot) → IsShownSpot widgets windows scene id spot → AreSpots widgets windows scene old → id < shots.most_numbers
      → new.spots ≡ set old.spots id (Some spot) → new.windows ≡ old.windows → IsShot new → ArePartlyPut most widgets windows scene id 0 keys old new
  put-own most id keys old new spot is spots low put same valid = record {
    spots = record { valid = valid; each = λ k. each k (cases_eq k id) };
    keeps = record { windows = same; spots = λ k there. kept k there (cases_eq k id) };
    own = subst IsSome (sym here) refl;
    under = λ k less. absurd (omega (arith, less));
  }
    where
      here : spot_at new id ≡ Some spot
      here = ap (λ (xs : List (Option Spot)). get_or xs id None) put ∙ get_or-set_same old.spots id (Some spot) None (subst (λ (n : ℕ). id < n) (sym spots.valid.spots) low)

      there : (k : ℕ) → k ≢ id → spot_at new k ≡ spot_at old k
      there k differ = ap (λ (xs : List (Option Spot)). get_or xs k None) put ∙ get_or-set_other old.spots id k (Some spot) None differ

      each : (k : ℕ) → (k ≡ id) ⊎ (k ≢ id) → IfSome (spot_at new k) (IsShownSpot widgets windows scene k)
      each k (inl same) = subst (λ (n : ℕ). IfSome (spot_at new n) (IsShownSpot widgets windows scene n)) (sym same) (subst (λ (o : Option Spot). IfSome o (IsShownSpot widgets windows scene id)) (sym here) is)
      each k (inr differ) = subst (λ (o : Option Spot). IfSome o (IsShownSpot widgets windows scene k)) (sym (there k differ)) (spots.each k)

      kept : (k : ℕ) → IsSome (spot_at old k) → (k ≡ id) ⊎ (k ≢ id) → IsSome (spot_at new k)
      kept k was (inl same) = subst (λ (n : ℕ). IsSome (spot_at new n)) (sym same) (subst IsSome (sym here) refl)
      kept k was (inr differ) = subst IsSome (sym (there k differ)) was

  -- one more child
  pub put-child : (most id index : ℕ) (keys : List ℕ) (old mid new : Seen) → ArePartlyPut most widgets windows scene id index keys old mid → ArePut (most - 1) widgets windows scene (get_or keys index 0) mid new
      → ArePartlyPut most widgets windows scene id (index + 1) keys old new
  put-child most id index keys old mid new before put = record {
    spots = put.spots;
    keeps = record { windows = put.keeps.windows ∙ before.keeps.windows; spots = λ k was. put.keeps.spots k (before.keeps.spots k was) };
    own = put.keeps.spots id before.own;
    under = λ k less. under k (cases_lt k index) less;
  }
    where
      under : (k : ℕ) → (k < index) ⊎ (index ≤ k) → k < index + 1 → HasBelow (most - 1) widgets (get_or keys k 0) new
      under k (inl early) less = λ other below. put.keeps.spots other (before.under k early other below)
      under k (inr late) less = let same : k ≡ index = omega arith in subst (λ (n : ℕ). HasBelow (most - 1) widgets (get_or keys n 0) new) (sym same) put.under

  -- all children
  pub put-all : (most id index : ℕ) (keys : List ℕ) (old new : Seen) → AreChildren widgets id keys → ArePartlyPut most widgets windows scene id index keys old new → length keys ≤ index → ArePut most widgets windows scene id old new
  put-all most id index keys old new are partly past = record { spots = partly.spots; keeps = partly.keeps; under = λ other below. under most other partly.under below }
    where
      default : (xs : List ℕ) (k d e : ℕ) → k < length xs → get_or xs k d ≡ get_or xs k e
      default [] k d e less = absurd (omega arith)
      default (x ∷ xs) zero d e less = refl
      default (x ∷ xs) (suc k) d e less = default xs k d e (omega arith)

      under : (n other : ℕ) → ((k : ℕ) → k < index → HasBelow (n - 1) widgets (get_or keys k 0) new) → IsBelow n widgets id other → IsSome (spot_at new other)
      under zero other each below = subst (λ (k : ℕ). IsSome (spot_at new k)) below partly.own
      under (suc n) other each below = elim below [
        | inl same ↦ subst (λ (k : ℕ). IsSome (spot_at new k)) same partly.own
        | inr down ↦
            (let among = are.all down.0 down.1 in
            let less : among.0 < index = omega (arith, among.1, past) in
            let e : n ≡ suc n - 1 = omega arith in
            let kid : down.0 ≡ get_or keys among.0 0 = sym among.2 ∙ default keys among.0 down.0 0 among.1 in
            each among.0 less other (subst (λ (m : ℕ). IsBelow m widgets (get_or keys among.0 0) other) e (subst (λ (m : ℕ). IsBelow n widgets m other) kid down.2)))
      ]

  -- no window
  pub shot-none : (shot : Seen) → IsBare shot → IsShot shot → AreShot most_levels widgets windows scene 0 shot
  shot-none shot bare valid = record {
    order = bare.windows;
    spots = record { valid = valid; each = λ id. subst (λ (o : Option Spot). IfSome o (IsShownSpot widgets windows scene id)) (sym (bare.spots id)) tt };
    under = λ k less. absurd (omega (arith, less));
  }

  -- one more window
  pub shot-more : (index id : ℕ) (place : Rect) (old mid new : Seen) → index < length windows → get_or windows index 0 ≡ id → place ≡ place_by widgets id → AreShot most_levels widgets windows scene index old
      → mid.windows ≡ old.windows ++ (id, place) ∷ [] → mid.spots ≡ old.spots → ArePut most_levels widgets windows scene id mid new → AreShot most_levels widgets windows scene (index + 1) new
  shot-more index id place old mid new less at is before added same put = record {
    order = put.keeps.windows ∙ added ∙ (λ i. before.order i ++ (id, is i) ∷ []) ∙ sym (ap (map (entry_of widgets)) (take_more windows index 0 less ∙ ap (λ (n : ℕ). take index windows ++ n ∷ []) at) ∙ map-append (entry_of widgets) (take index windows) (id ∷ []));
    spots = put.spots;
    under = λ k lower. under k (cases_lt k index) lower;
  }
    where
      kept : (other : ℕ) → IsSome (spot_at old other) → IsSome (spot_at new other)
      kept other was = put.keeps.spots other (subst (λ (xs : List (Option Spot)). IsSome (get_or xs other None)) (sym same) was)

      under : (k : ℕ) → (k < index) ⊎ (index ≤ k) → k < index + 1 → HasBelow most_levels widgets (get_or windows k 0) new
      under k (inl early) lower = λ other below. kept other (before.under k early other below)
      under k (inr late) lower = let e : k ≡ index = omega arith in subst (λ (n : ℕ). HasBelow most_levels widgets n new) (sym (ap (λ (n : ℕ). get_or windows n 0) e ∙ at)) put.under

  -- the spots of the shot with the window put in
  pub spots-window : (old mid : Seen) → AreSpots widgets windows scene old → mid.spots ≡ old.spots → IsShot mid → AreSpots widgets windows scene mid
  spots-window old mid spots same valid = record { valid = valid; each = λ id. subst (λ (xs : List (Option Spot)). IfSome (get_or xs id None) (IsShownSpot widgets windows scene id)) (sym same) (spots.each id) }

-- all windows
pub shot-all : (widgets : Widgets) (windows : List ℕ) (pointer : Pointer) (width height index : ℕ) (shot : Seen) → IsWidgets widgets → AreShot most_levels widgets windows (scene_from widgets windows pointer width height) index shot → length windows ≤ index
    → IsShotBy widgets windows pointer width height shot
shot-all widgets windows pointer width height index shot valid are past = record {
  order = are.order ∙ ap (map (entry_of widgets)) (whole index windows past);
  shown = λ id shown. found id (shown-under widgets windows id shown);
  unshown = λ id hidden. none id hidden (spot_at shot id) refl (are.spots.each id);
}
  where
    whole : (n : ℕ) (ns : List ℕ) → length ns ≤ n → take n ns ≡ ns
    whole zero [] less = refl
    whole zero (m ∷ ns) less = absurd (omega arith)
    whole (suc n) [] less = refl
    whole (suc n) (m ∷ ns) less = ap (λ (ms : List ℕ). m ∷ ms) (whole n ns (omega arith))

    default : (xs : List ℕ) (k d e : ℕ) → k < length xs → get_or xs k d ≡ get_or xs k e
    default [] k d e less = absurd (omega arith)
    default (x ∷ xs) zero d e less = refl
    default (x ∷ xs) (suc k) d e less = default xs k d e (omega arith)

    spotted : (id : ℕ) (o : Option Spot) → IsSome o → IfSome o (IsShownSpot widgets windows (scene_from widgets windows pointer width height) id) → IsSomeAnd o (IsSpotBy widgets (scene_from widgets windows pointer width height) id)
    spotted id None there is = absurd (true≢false (sym there))
    spotted id (Some spot) there is = is.is

    found : (id : ℕ) → IsUnderOpen widgets windows id → IsSomeAnd (spot_at shot id) (IsSpotBy widgets (scene_from widgets windows pointer width height) id)
    found id under =
        let among = under.among in
        let live = rooted-live widgets id under.window under.root in
        let below = below-root widgets under.window id valid live under.root in
        let at : under.window ≡ get_or windows among.0 0 = sym among.2 ∙ default windows among.0 under.window 0 among.1 in
        spotted id (spot_at shot id) (are.under among.0 (omega (arith, among.1, past)) id (subst (λ (n : ℕ). IsBelow most_levels widgets n id) at below)) (are.spots.each id)

    none : (id : ℕ) → is_shown_id widgets windows id ≡ false → (o : Option Spot) → spot_at shot id ≡ o → IfSome o (IsShownSpot widgets windows (scene_from widgets windows pointer width height) id) → spot_at shot id ≡ None
    none id hidden None q is = q
    none id hidden (Some spot) q is = absurd (true≢false (sym is.shown ∙ hidden))

-- a window of the order isn't among those before it
pub not-before : (windows : List ℕ) (index : ℕ) → AreDistinct windows → index < length windows → list_any (nat_eq (get_or windows index 0)) (take index windows) ≡ false
not-before [] index once less = absurd (omega arith)
not-before (w ∷ ws) zero once less = refl
not-before (w ∷ ws) (suc index) once less = or_from _ _ (apart w ws index once.0 (omega arith)) (not-before ws index once.1 (omega arith))
  where
    apart : (w : ℕ) (ws : List ℕ) (index : ℕ) → holds_key ws w ≡ false → index < length ws → nat_eq (get_or ws index 0) w ≡ false
    apart w [] index none less = absurd (omega arith)
    apart w (v ∷ vs) zero none less = (or_parts (nat_eq v w) (holds_key vs w) none).0
    apart w (v ∷ vs) (suc index) none less = apart w vs index (or_parts (nat_eq v w) (holds_key vs w) none).1 (omega arith)

pub numbers-shot : (widgets : Widgets) (windows : List ℕ) (index : ℕ) (shot : Seen) → shot.windows ≡ map (entry_of widgets) (take index windows) → windows_in shot ≡ take index windows
numbers-shot widgets windows index shot order = ap (map (λ (window : ℕ × Rect). window.0)) order ∙ twice (take index windows)
  where
    twice : (ns : List ℕ) → map (λ (window : ℕ × Rect). window.0) (map (entry_of widgets) ns) ≡ ns
    twice [] = refl
    twice (n ∷ ns) = ap (λ (ms : List ℕ). n ∷ ms) (twice ns)
