-- The widget on top at a pixel: the only one below the first window which shows it and has no child that does.
use Rattle.std.proofs.Common.{◌≡◌, ◌+◌, ℕ, zero, suc, ℤ, pos, Bool, true, false, cond, ◌&&◌, nat_eq, List, [], ◌∷◌, Option, Some, None, refl, sym, ap, ◌∙◌, arith, slice_get}
use Rattle.std.proofs.lemmas.Bool.{true≢false, and_parts, and_from, eqb-true, false_from_ne_true}
use Rattle.std.proofs.lemmas.List.Elements.{All-nil, All-cons}
use Rattle.std.proofs.lemmas.Slice.Eq.{bytes_eq-Decides}
use Rattle.std.specs.List.{All, find}
use Rattle.std.specs.Option.{option_map, option_map_or}
use Rattle.std.specs.Str.{bytes_eq}
use Rattle.geom_core.specs.Rect.{in_rect}
use Rattle.geom_core.proofs.RectLemmas.{in_rect-empty}
use Rattle.kind_core.specs.declared.shapes.Cell.{Cell}
use Rattle.widget_model.specs.Rows.{Row}
use Rattle.widget_model.specs.Named.{AreNamedApart}
use Rattle.widget_model.specs.Keys.{key_of, same_key, row_of, parent_key, root_key}
use Rattle.widget_model.specs.Trees.{parent_of, is_child, root_in, ends_within, most_levels}
use Rattle.widget_model.specs.Planted.{IsPlanted}
use Rattle.widget_model.proofs.Hanging.{find-passes, find_none_at, row_named-own, HangsIn-from, HangsIn-child}
use Rattle.scene_model.specs.Placing.{place_in}
use Rattle.scene_model.specs.Scene.{Scene}
use Rattle.scene_model.specs.Showing.{place_of, parent_in, shows_at, window_at, child_at, lowest_in, top_of}
use Rattle.scene_model.specs.TopLaws.{ShowingChildIsFound, FoundChildShows, TopIsOnTop, OnTopIsTop, NoTopShowsNothing}
use Rattle.scene_model.proofs.Parents.{IsChildOf-is_child, parent_of-found, key_of-found, row_of-own}
use Rattle.scene_model.proofs.LevelsDown.{IsChildAt-child_at, deeper, lowest_in-child}
use Rattle.scene_model.proofs.LevelLaws.{ends-found, IsParentKey-parent_in, children_have_their_parents_root}
use Rattle.scene_model.proofs.Apart.{children_share_no_pixel, shown_lies_in_parents, shown_lies_in_place}

-- equal keys
same_key-equal : (a b : ℕ × List ℕ) → same_key a b ≡ true → a ≡ b
same_key-equal a b same =
    let parts = and_parts (nat_eq a.0 b.0) (bytes_eq a.1 b.1) same in
    ap (λ (client : ℕ). (client, a.1)) (eqb-true a.0 b.0 parts.0) ∙ ap (λ (name : List ℕ). (b.0, name)) ((bytes_eq-Decides a.1 b.1).0 parts.1)

-- going up from a key that has a row ends
ends-key : (rows : List Row) (key : ℕ × List ℕ) (row : Row) → IsPlanted rows → row_of rows key ≡ Some row → ends_within most_levels rows key.0 key.1 ≡ true
ends-key rows key row planted found =
    ap (λ (k : ℕ × List ℕ). ends_within most_levels rows k.0 k.1) (sym (key_of-found rows key row found)) ∙ ends-found rows row planted (row_of-own rows key row found)

-- what shows a pixel has a row
shown-found : (scene : Scene) (key : ℕ × List ℕ) (x y : ℤ) → shows_at scene key x y ≡ true → (row : Row) × (row_of scene.rows key ≡ Some row)
unfolding place_of
shown-found scene key x y shown = by (row_of scene.rows key) refl (shown_lies_in_place scene key x y shown)
  where
    by : (o : Option Row) → row_of scene.rows key ≡ o → in_rect (option_map_or (place_in scene.rows) o (record { x = pos 0; y = pos 0; w = 0; h = 0 })) x y ≡ true → (row : Row) × (row_of scene.rows key ≡ Some row)
    by None is held = absurd (true≢false (sym held ∙ in_rect-empty (record { x = pos 0; y = pos 0; w = 0; h = 0 }) x y refl))
    by (Some row) is held = (row, is)

-- the parent's key and name
parent_key-parent_in : (scene : Scene) (key parent : ℕ × List ℕ) → parent_in scene key ≡ Some parent → parent_key scene.rows key ≡ Some parent
unfolding parent_in
parent_key-parent_in scene key parent above = above

parent_in-parent_of : (scene : Scene) (key : ℕ × List ℕ) (name : List ℕ) → parent_of scene.rows key.0 key.1 ≡ Some name → parent_in scene key ≡ Some (key.0, name)
unfolding parent_in
parent_in-parent_of scene key name hung = ap (option_map (λ (above : List ℕ). (key.0, above))) hung

-- a widget that hangs in no other is its own root
root_alone : (most : ℕ) (scene : Scene) (key : ℕ × List ℕ) → parent_in scene key ≡ None → ends_within most scene.rows key.0 key.1 ≡ true → root_in most scene.rows key.0 key.1 ≡ key.1
unfolding parent_in
root_alone zero scene key alone ends = refl
root_alone (suc most) scene key alone ends = by (parent_of scene.rows key.0 key.1) alone
  where
    by : (o : Option (List ℕ)) → option_map {U = ℕ × List ℕ} (λ (name : List ℕ). (key.0, name)) o ≡ None → option_map_or (root_in most scene.rows key.0) o key.1 ≡ key.1
    by None h = refl
    by (Some name) h = absurd (cc)

-- the child that is found
parent_in-child : (scene : Scene) (key : ℕ × List ℕ) (i : ℕ) (row : Row) → AreNamedApart scene.rows → slice_get scene.rows i ≡ Some row → is_child key.0 key.1 row ≡ true → parent_in scene (key_of row) ≡ Some key
unfolding parent_in
parent_in-child scene key i row apart there is =
    let child = IsChildOf-is_child key.0 key.1 row is in
    let hung : parent_of scene.rows row.client row.name ≡ Some key.1 = parent_of-found scene.rows row.client row.name row (row_named-own scene.rows i row apart there) ∙ ap (option_map (λ (attached : List ℕ × Cell). attached.0)) child.attached in
    ap (option_map (λ (name : List ℕ). (row.client, name))) hung ∙ ap (λ (client : ℕ). Some (client, key.1)) child.owner

pub found_child_shows : FoundChildShows
found_child_shows scene key child x y apart at =
    let is = IsChildAt-child_at scene key x y child at in
    record {
      parent = ap (parent_in scene) (sym is.keyed) ∙ parent_in-child scene key is.i is.row apart is.there is.is;
      shown = ap (λ (k : ℕ × List ℕ). shows_at scene k x y) (sym is.keyed) ∙ is.shown;
    }

pub showing_child_is_found : ShowingChildIsFound
showing_child_is_found scene key child x y planted apart above shown = by (child_at scene key x y) refl
  where
    missing : child_at scene key x y ≡ None → ⊥
    missing none = inside (find test scene.rows) refl none
      where
        test : Row → Bool
        test = λ (row : Row). is_child key.0 key.1 row && shows_at scene (key_of row) x y

        inside : (o : Option Row) → find (λ (row : Row). is_child key.0 key.1 row && shows_at scene (key_of row) x y) scene.rows ≡ o → option_map key_of o ≡ None → ⊥
        inside (Some row) is h = absurd (cc)
        inside None is h =
            let upper = IsParentKey-parent_in scene child key above in
            let hung = HangsIn-from scene.rows child.0 child.1 upper.name upper.hung in
            let keyed = key_of-found scene.rows child hung.row hung.found in
            let fails = find_none_at (λ (row : Row). is_child key.0 key.1 row && shows_at scene (key_of row) x y) scene.rows hung.i hung.row is hung.there in
            let child_is : is_child key.0 key.1 hung.row ≡ true = ap (λ (k : ℕ × List ℕ). is_child k.0 k.1 hung.row) (sym upper.keyed) ∙ HangsIn-child scene.rows child.0 child.1 upper.name hung in
            let shows : shows_at scene (key_of hung.row) x y ≡ true = ap (λ (k : ℕ × List ℕ). shows_at scene k x y) keyed ∙ shown in
            true≢false (sym (and_from (is_child key.0 key.1 hung.row) (shows_at scene (key_of hung.row) x y) child_is shows) ∙ fails)

    by : (o : Option (ℕ × List ℕ)) → child_at scene key x y ≡ o → o ≡ Some child
    by None at = absurd (missing at)
    by (Some other) at = equal (same_key other child) refl
      where
        equal : (b : Bool) → same_key other child ≡ b → Some other ≡ Some child
        equal true same = ap Some (same_key-equal other child same)
        equal false differ =
            let is = found_child_shows scene key other x y apart at in
            let none = children_share_no_pixel scene other child key x y planted is.parent above differ in
            absurd (true≢false (sym (and_from (shows_at scene other x y) (shows_at scene child x y) is.shown shown) ∙ none))

-- where the way down ends
record EndsAt (scene : Scene) (x y : ℤ) (start key : ℕ × List ℕ) : Type 0 where
  shown : shows_at scene key x y ≡ true
  childless : child_at scene key x y ≡ None
  root : root_key scene.rows key ≡ root_key scene.rows start

way-down : (above few : ℕ) (scene : Scene) (x y : ℤ) (key : ℕ × List ℕ) → above + few ≡ most_levels → IsPlanted scene.rows → AreNamedApart scene.rows → ends_within above scene.rows key.0 key.1 ≡ false → shows_at scene key x y ≡ true → EndsAt scene x y key (lowest_in few scene x y key)
way-down above zero scene x y key sum planted apart deep shown =
    let row = shown-found scene key x y shown in
    let whole : above ≡ most_levels = omega arith in
    absurd (true≢false (sym (ap (λ (n : ℕ). ends_within n scene.rows key.0 key.1) whole ∙ ends-key scene.rows key row.0 planted row.1) ∙ deep))
way-down above (suc few) scene x y key sum planted apart deep shown =
    by (λ child low seen. way-down (suc above) few scene x y child (omega arith) planted apart low seen) (child_at scene key x y) refl
  where
    by : ((child : ℕ × List ℕ) → ends_within (suc above) scene.rows child.0 child.1 ≡ false → shows_at scene child x y ≡ true → EndsAt scene x y child (lowest_in few scene x y child)) → (o : Option (ℕ × List ℕ)) → child_at scene key x y ≡ o
        → EndsAt scene x y key (option_map_or (lowest_in few scene x y) o key)
    by rest None at = record { shown = shown; childless = at; root = refl }
    by rest (Some child) at =
        let row = IsChildAt-child_at scene key x y child at in
        let is = found_child_shows scene key child x y apart at in
        let below = rest child (ap (λ (k : ℕ × List ℕ). ends_within (suc above) scene.rows k.0 k.1) (sym row.keyed) ∙ deeper above scene.rows key.0 key.1 row.i row.row apart row.there row.is deep) is.shown in
        record { shown = below.shown; childless = below.childless; root = below.root ∙ children_have_their_parents_root scene.rows child key planted (parent_key-parent_in scene child key is.parent) }

-- the first window, and where the way down from it ends
record TopFrom (scene : Scene) (x y : ℤ) (key : ℕ × List ℕ) : Type 0 where
  window : ℕ × List ℕ
  first : window_at scene x y ≡ Some window
  end : lowest_in most_levels scene x y window ≡ key

TopFrom-top_of : (scene : Scene) (x y : ℤ) (key : ℕ × List ℕ) → top_of scene x y ≡ Some key → TopFrom scene x y key
unfolding top_of
TopFrom-top_of scene x y key top = by (window_at scene x y) refl top
  where
    by : (o : Option (ℕ × List ℕ)) → window_at scene x y ≡ o → option_map (lowest_in most_levels scene x y) o ≡ Some key → TopFrom scene x y key
    by None first h = absurd (cc)
    by (Some window) first h = record { window = window; first = first; end = cc }

pub top_is_on_top : TopIsOnTop
top_is_on_top scene key x y planted apart top =
    let from = TopFrom-top_of scene x y key top in
    let seen = find-passes (λ (window : ℕ × List ℕ). shows_at scene window x y) scene.windows from.window from.first in
    let ends = way-down 0 most_levels scene x y from.window (omega arith) planted apart refl seen in (
      from.window,
      record {
        first = from.first;
        under = ap (root_key scene.rows) (sym from.end) ∙ ends.root;
        shown = ap (λ (k : ℕ × List ℕ). shows_at scene k x y) (sym from.end) ∙ ends.shown;
        lowest = λ child above. false_from_ne_true (shows_at scene child x y) (λ shown. none_from (ap (λ (k : ℕ × List ℕ). child_at scene k x y) (sym from.end) ∙ ends.childless) (showing_child_is_found scene key child x y planted apart above shown));
      },
    )
  where
    none_from : {child : ℕ × List ℕ} → child_at scene key x y ≡ None → child_at scene key x y ≡ Some child → ⊥
    none_from none one = cc

-- the way down from its root comes by each widget that shows the pixel
by-each : (most : ℕ) (scene : Scene) (x y : ℤ) (key : ℕ × List ℕ) → IsPlanted scene.rows → AreNamedApart scene.rows → ends_within most scene.rows key.0 key.1 ≡ true → shows_at scene key x y ≡ true
    → lowest_in most_levels scene x y (key.0, root_in most scene.rows key.0 key.1) ≡ lowest_in most_levels scene x y key
by-each zero scene x y key planted apart ends shown = absurd (true≢false (sym ends))
by-each (suc most) scene x y key planted apart ends shown = by (λ name end seen. by-each most scene x y (key.0, name) planted apart end seen) (parent_of scene.rows key.0 key.1) refl ends
  where
    by : ((name : List ℕ) → ends_within most scene.rows key.0 name ≡ true → shows_at scene (key.0, name) x y ≡ true → lowest_in most_levels scene x y (key.0, root_in most scene.rows key.0 name) ≡ lowest_in most_levels scene x y (key.0, name))
        → (o : Option (List ℕ)) → parent_of scene.rows key.0 key.1 ≡ o → option_map_or (ends_within most scene.rows key.0) o true ≡ true
        → lowest_in most_levels scene x y (key.0, option_map_or (root_in most scene.rows key.0) o key.1) ≡ lowest_in most_levels scene x y key
    by rest None hung end = refl
    by rest (Some name) hung end =
        let above = parent_in-parent_of scene key name hung in
        let seen = shown_lies_in_parents scene key (key.0, name) x y planted above shown in
        let row = shown-found scene (key.0, name) x y seen in
        rest name end seen
        ∙ lowest_in-child scene x y (key.0, name) planted apart (ends-key scene.rows (key.0, name) row.0 planted row.1)
        ∙ ap (λ (o : Option (ℕ × List ℕ)). option_map_or (lowest_in most_levels scene x y) o (key.0, name)) (showing_child_is_found scene (key.0, name) key x y planted apart above shown)

pub on_top_is_top : OnTopIsTop
unfolding top_of
on_top_is_top scene window key x y planted apart alone on =
    ap (option_map (lowest_in most_levels scene x y)) on.first ∙ ap Some (down ∙ ends)
  where
    seen : shows_at scene window x y ≡ true
    seen = find-passes (λ (other : ℕ × List ℕ). shows_at scene other x y) scene.windows window on.first

    root_is : root_key scene.rows key ≡ window
    root_is =
        let row = shown-found scene window x y seen in
        on.under ∙ ap (λ (name : List ℕ). (window.0, name)) (root_alone most_levels scene window alone (ends-key scene.rows window row.0 planted row.1))

    down : lowest_in most_levels scene x y window ≡ lowest_in most_levels scene x y key
    down =
        let row = shown-found scene key x y on.shown in
        ap (lowest_in most_levels scene x y) (sym root_is) ∙ by-each most_levels scene x y key planted apart (ends-key scene.rows key row.0 planted row.1) on.shown

    childless : (o : Option (ℕ × List ℕ)) → child_at scene key x y ≡ o → o ≡ None
    childless None at = refl
    childless (Some child) at = let is = found_child_shows scene key child x y apart at in absurd (true≢false (sym is.shown ∙ on.lowest child is.parent))

    ends : lowest_in most_levels scene x y key ≡ key
    ends =
        let row = shown-found scene key x y on.shown in
        lowest_in-child scene x y key planted apart (ends-key scene.rows key row.0 planted row.1)
        ∙ ap (λ (o : Option (ℕ × List ℕ)). option_map_or (lowest_in most_levels scene x y) o key) (childless (child_at scene key x y) refl)

none-found : {X : Type 0} (p : X → Bool) (xs : List X) → find p xs ≡ None → All (λ x. p x ≡ false) xs
none-found p [] none = All-nil (λ x. p x ≡ false)
none-found p (x ∷ xs) none = by (none-found p xs) (p x) refl none
  where
    by : (find p xs ≡ None → All (λ y. p y ≡ false) xs) → (b : Bool) → p x ≡ b → cond b (Some x) (find p xs) ≡ None → All (λ y. p y ≡ false) (x ∷ xs)
    by rest true is h = absurd (cc)
    by rest false is h = All-cons (λ y. p y ≡ false) x xs is (rest h)

pub no_top_shows_nothing : NoTopShowsNothing
unfolding top_of
no_top_shows_nothing scene x y none = by (window_at scene x y) refl none
  where
    by : (o : Option (ℕ × List ℕ)) → window_at scene x y ≡ o → option_map (lowest_in most_levels scene x y) o ≡ None → All (λ window. shows_at scene window x y ≡ false) scene.windows
    by (Some window) first h = absurd (cc)
    by None first h = none-found (λ (window : ℕ × List ℕ). shows_at scene window x y) scene.windows first
