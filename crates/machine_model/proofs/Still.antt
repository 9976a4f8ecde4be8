-- Where a scene stays as it is, nothing is reached.
use Rattle.std.proofs.Common.{◌≡◌, ℕ, ℤ, pos, Bool, true, false, not, cond, ◌&&◌, ◌||◌, nat_eq, List, [], ◌∷◌, ◌++◌, Option, Some, None, refl, sym, ap, ◌∙◌}
use Rattle.std.specs.List.{list_any}
use Rattle.std.specs.Ordering.{int_eq}
use Rattle.std.proofs.lemmas.Bool.{true≢false, eq-eqb, and_from, cond-false}
use Rattle.std.proofs.lemmas.Bool.Decides.{Decides-int_eq}
use Rattle.std.proofs.lemmas.List.Folds.{list_any-append}
use Rattle.geom_core.specs.declared.rectangle.Rect.{Rect}
use Rattle.look_core.specs.Same.{same_look}
use Rattle.look_core.proofs.SameLemmas.{same_are_equal}
use Rattle.widget_model.specs.Keys.{same_key}
use Rattle.scene_model.specs.Scene.{Scene}
use Rattle.scene_model.specs.Showing.{place_of, parent_in, shows_at, is_open_in, is_under}
use Rattle.scene_model.specs.Colours.{look_at}
use Rattle.desk_model.specs.Desk.{Desk}
use Rattle.desk_model.specs.DeskFacts.{IsDesk, AreOpenOnce}
use Rattle.desk_model.specs.Seen.{scene_of}
use Rattle.machine_model.specs.Damage.{same_place, same_parent, is_over, is_put_higher, is_shifted, is_altered, keys_in, in_widget, in_window, in_reach_of, in_reach}
use Rattle.machine_model.specs.Reach.{is_reached}
use Rattle.machine_model.proofs.DamageKeys.{same_key-own, same_key-is}

same_place-own : (a : Rect) → same_place a a ≡ true
same_place-own a =
    and_from (int_eq a.x a.x && int_eq a.y a.y) (nat_eq a.w a.w && nat_eq a.h a.h)
    (and_from (int_eq a.x a.x) (int_eq a.y a.y) ((Decides-int_eq a.x a.x).1 refl) ((Decides-int_eq a.y a.y).1 refl))
    (and_from (nat_eq a.w a.w) (nat_eq a.h a.h) (eq-eqb a.w a.w refl) (eq-eqb a.h a.h refl))

same_parent-own : (a : Option (ℕ × List ℕ)) → same_parent a a ≡ true
same_parent-own None = refl
same_parent-own (Some a) = same_key-own a

or_more : (c d : Bool) → d ≡ true → (c || d) ≡ true
or_more true d h = refl
or_more false d h = h

or_none : (c d : Bool) → c ≡ false → d ≡ false → (c || d) ≡ false
or_none true d h k = absurd (true≢false h)
or_none false d h k = k

or_twice : (c : Bool) → (c || c) ≡ true → c ≡ true
or_twice true h = refl
or_twice false h = h

-- a test that no key of the list passes
none_if : (test : ℕ × List ℕ → Bool) (keys : List (ℕ × List ℕ)) → ((key : ℕ × List ℕ) → list_any (same_key key) keys ≡ true → test key ≡ false) → list_any test keys ≡ false
none_if test [] none = refl
none_if test (first ∷ keys) none =
    or_none (test first) (list_any test keys)
    (none first (ap (λ b. b || list_any (same_key first) keys) (same_key-own first)))
    (none_if test keys (λ key there. none key (or_more (same_key key first) (list_any (same_key key) keys) there)))

-- a window below another one stands in the order
lower_stands : (windows : List (ℕ × List ℕ)) (upper lower : ℕ × List ℕ) → is_over same_key windows upper lower ≡ true → list_any (same_key lower) windows ≡ true
lower_stands [] upper lower over = absurd (true≢false (sym over))
lower_stands (window ∷ windows) upper lower over = or_more (same_key lower window) (list_any (same_key lower) windows) (by (lower_stands windows upper lower) (same_key upper window) over)
  where
    by : (is_over same_key windows upper lower ≡ true → list_any (same_key lower) windows ≡ true) → (b : Bool) → cond b (list_any (same_key lower) windows) (is_over same_key windows upper lower) ≡ true → list_any (same_key lower) windows ≡ true
    by rest true over = over
    by rest false over = rest over

-- of two windows, each open once, not each is over the other
one_way : (windows : List (ℕ × List ℕ)) (a b : ℕ × List ℕ) → AreOpenOnce windows → is_over same_key windows a b ≡ true → is_over same_key windows b a ≡ true → ⊥
one_way [] a b once h k = true≢false (sym h)
one_way (window ∷ windows) a b once h k = by (one_way windows a b once.1) (same_key a window) refl (same_key b window) refl h k
  where
    absent : (key : ℕ × List ℕ) → same_key key window ≡ true → list_any (same_key key) windows ≡ true → ⊥
    absent key is there = true≢false (sym there ∙ ap (λ (w : ℕ × List ℕ). list_any (same_key w) windows) (same_key-is key window is) ∙ once.0)

    by : (is_over same_key windows a b ≡ true → is_over same_key windows b a ≡ true → ⊥) → (p : Bool) → same_key a window ≡ p → (q : Bool) → same_key b window ≡ q → cond p (list_any (same_key b) windows) (is_over same_key windows a b) ≡ true → cond q (list_any (same_key a) windows) (is_over same_key windows b a) ≡ true → ⊥
    by rest true e true f h k = absent b f h
    by rest true e false f h k = absent a e (lower_stands windows b a k)
    by rest false e true f h k = absent b f (lower_stands windows a b h)
    by rest false e false f h k = rest h k

not_higher : (scene : Scene) (window : ℕ × List ℕ) → AreOpenOnce scene.windows → is_put_higher scene scene window ≡ false
unfolding is_put_higher
not_higher scene window once =
    none_if (λ other. is_over same_key scene.windows other window && is_over same_key scene.windows window other) scene.windows (λ other there. by other (is_over same_key scene.windows other window) refl (is_over same_key scene.windows window other) refl)
  where
    by : (other : ℕ × List ℕ) (p : Bool) → is_over same_key scene.windows other window ≡ p → (q : Bool) → is_over same_key scene.windows window other ≡ q → (p && q) ≡ false
    by other true e true f = absurd (one_way scene.windows other window once e f)
    by other true e false f = refl
    by other false e q f = refl

still_shift : (is_there same higher : Bool) → is_there ≡ true → same ≡ true → higher ≡ false → (not (is_there && is_there) || (not same || higher)) ≡ false
still_shift true true false p q r = refl
still_shift false same higher p q r = absurd (true≢false (sym p))
still_shift true false higher p q r = absurd (true≢false (sym q))
still_shift true true true p q r = absurd (true≢false r)

not_shifted : (scene : Scene) (window : ℕ × List ℕ) → AreOpenOnce scene.windows → is_open_in scene window ≡ true → is_shifted scene scene window ≡ false
unfolding is_shifted
not_shifted scene window once there =
    still_shift (is_open_in scene window) (same_place (place_of scene window) (place_of scene window)) (is_put_higher scene scene window) there (same_place-own (place_of scene window)) (not_higher scene window once)

still_widget : (under parent place look shows : Bool) → parent ≡ true → place ≡ true → look ≡ true → ((not (under && under) || (not parent || (not place || not look))) && ((under && shows) || (under && shows))) ≡ false
still_widget true true true true shows p q r = refl
still_widget false parent place look shows p q r = refl
still_widget true false place look shows p q r = absurd (true≢false (sym p))
still_widget true true false look shows p q r = absurd (true≢false (sym q))
still_widget true true true false shows p q r = absurd (true≢false (sym r))

not_in_widget : (scene : Scene) (window : ℕ × List ℕ) (x y : ℤ) (key : ℕ × List ℕ) → in_widget scene scene window x y key ≡ false
unfolding is_altered
not_in_widget scene window x y key =
    still_widget (is_under scene window key) (same_parent (parent_in scene key) (parent_in scene key)) (same_place (place_of scene key) (place_of scene key)) (same_look (look_at scene key) (look_at scene key)) (shows_at scene key x y)
    (same_parent-own (parent_in scene key)) (same_place-own (place_of scene key)) ((same_are_equal (look_at scene key) (look_at scene key)).1 refl)

not_in_window : (scene : Scene) (x y : ℤ) (window : ℕ × List ℕ) → AreOpenOnce scene.windows → is_open_in scene window ≡ true → in_reach_of scene scene x y window ≡ false
unfolding in_reach_of
not_in_window scene x y window once there =
    let keys = keys_in scene ++ keys_in scene in
    cond-false (is_shifted scene scene window) (in_window scene scene window x y) (list_any (in_widget scene scene window x y) keys) (not_shifted scene window once there)
    ∙ none_if (in_widget scene scene window x y) keys (λ key among. not_in_widget scene window x y key)

pub still_unreached : (scene : Scene) → AreOpenOnce scene.windows → (x y : ℤ) → in_reach scene scene x y ≡ false
unfolding in_reach
still_unreached scene once x y =
    none_if (in_reach_of scene scene x y) (scene.windows ++ scene.windows) (λ window there.
    not_in_window scene x y window once (or_twice (is_open_in scene window) (sym (list_any-append (same_key window) scene.windows scene.windows) ∙ there)))

-- the same of a desk
pub unreached_still : (desk : Desk) → IsDesk desk → (x y : ℕ) → is_reached desk desk x y ≡ false
unfolding is_reached
unreached_still desk is x y = still_unreached (scene_of desk) is.once (pos x) (pos y)
