-- The numbers that the pointer holds where widgets change: each that is in a window names what it named.
use Rattle.std.proofs.Common.{◌≡◌, ℕ, Bool, true, false, cond, List, Option, Some, None, IsSome, refl, sym, ap, ap₂, ◌∙◌}
use Rattle.std.proofs.lemmas.Bool.{false≢true}
use Rattle.std.specs.Prelude.{IfSome}
use Rattle.std.specs.Option.{option_map, option_map_or, option_and_then}
use Rattle.widget_model.specs.Rows.{Row}
use Rattle.widget_model.specs.Keys.{key_of}
use Rattle.widget_model.specs.Widgets.{key_at, row_at}
use Rattle.widget_model.specs.Pointer as model
use Rattle.widget_model.specs.Pointer.{no_grab, on_widget, drags}
use Rattle.tree_core.specs.declared.id.Id.{Id}
use Rattle.tree_core.specs.declared.pointer.Grab.{Grab}
use Rattle.tree_core.specs.declared.pointer.Grab.TheVariants.{Nothing, Widget, Drag}
use Rattle.tree_core.specs.declared.pointer.Pointer.{Pointer}
use Rattle.tree_core.specs.Holds.{grab_seen, pointer_seen}
use Rattle.desk_model.specs.Desk.{Desk}
use Rattle.desk_model.specs.LetGo.{is_in_window, grab_left, focus_left, let_go}
use Rattle.desk_commands.specs.Pointer.{IsGrabLive, HoldsLive}

-- the pointer holds live numbers of what it held
pub record Holds (old new : List (ℕ × Row)) (pointer : Pointer) : Type 0 where
  pub live : HoldsLive new pointer
  pub same : pointer_seen new pointer ≡ pointer_seen old pointer

module _ (old new : List (ℕ × Row)) (stays : ℕ × List ℕ → Bool) (names : (id : ℕ) (key : ℕ × List ℕ) → key_at old id ≡ Some key → stays key ≡ true → key_at new id ≡ Some key) where
  -- a live number whose key stays
  stays-named : (id : ℕ) → IsSome (row_at old id) → ((key : ℕ × List ℕ) → key_at old id ≡ Some key → stays key ≡ true) → IsSome (row_at new id) × (key_at new id ≡ key_at old id)
  stays-named id live inside = by (row_at old id) refl live
    where
      live_now : (key : ℕ × List ℕ) (o : Option Row) → option_map key_of o ≡ Some key → IsSome o
      live_now key None h = absurd (cc)
      live_now key (Some row) h = refl

      by : (o : Option Row) → row_at old id ≡ o → IsSome o → IsSome (row_at new id) × (key_at new id ≡ key_at old id)
      by None p h = absurd (false≢true h)
      by (Some row) p h =
          let named : key_at old id ≡ Some (key_of row) = ap (option_map key_of) p in
          let now : key_at new id ≡ Some (key_of row) = names id (key_of row) named (inside (key_of row) named) in
          (live_now (key_of row) (row_at new id) now, now ∙ sym named)

  widget-stays : (key : ℕ × List ℕ) → grab_left stays (on_widget key) ≡ on_widget key → stays key ≡ true
  widget-stays key h = by (stays key) h
    where
      by : (b : Bool) → cond b (on_widget key) no_grab ≡ on_widget key → b ≡ true
      by true h = refl
      by false h = absurd (cc)

  drag-stays : (key : ℕ × List ℕ) (dx dy : ℕ) → grab_left stays (drags key dx dy) ≡ drags key dx dy → stays key ≡ true
  drag-stays key dx dy h = by (stays key) h
    where
      by : (b : Bool) → cond b (drags key dx dy) no_grab ≡ drags key dx dy → b ≡ true
      by true h = refl
      by false h = absurd (cc)

  focus-stays : (key : ℕ × List ℕ) → focus_left stays (Some key) ≡ Some key → stays key ≡ true
  focus-stays key h = by (stays key) h
    where
      by : (b : Bool) → cond b (Some key) None ≡ Some key → b ≡ true
      by true h = refl
      by false h = absurd (cc)

  grab-holds : (grab : Grab) → IsGrabLive old grab → grab_left stays (grab_seen old grab) ≡ grab_seen old grab → IsGrabLive new grab × (grab_seen new grab ≡ grab_seen old grab)
  grab-holds Nothing live held = (tt, refl)
  grab-holds (Widget id) live held =
      let kept = stays-named id.key live (λ key named. widget-stays key (ap (λ (o : Option (ℕ × List ℕ)). grab_left stays (option_map_or on_widget o no_grab)) (sym named) ∙ held ∙ ap (λ (o : Option (ℕ × List ℕ)). option_map_or on_widget o no_grab) named)) in
      (kept.0, ap (λ (o : Option (ℕ × List ℕ)). option_map_or on_widget o no_grab) kept.1)
  grab-holds (Drag id dx dy) live held =
      let seen : Option (ℕ × List ℕ) → model.Grab = λ o. option_map_or (λ key. drags key dx dy) o no_grab in
      let kept = stays-named id.key live (λ key named. drag-stays key dx dy (ap (λ (o : Option (ℕ × List ℕ)). grab_left stays (seen o)) (sym named) ∙ held ∙ ap seen named)) in
      (kept.0, ap seen kept.1)

  focus-holds : (focus : Option Id) → IfSome focus (λ id. IsSome (row_at old id.key)) → focus_left stays (option_and_then (λ id. key_at old id.key) focus) ≡ option_and_then (λ id. key_at old id.key) focus → IfSome focus (λ id. IsSome (row_at new id.key)) × (option_and_then (λ id. key_at new id.key) focus ≡ option_and_then (λ id. key_at old id.key) focus)
  focus-holds None live held = (tt, refl)
  focus-holds (Some id) live held = stays-named id.key live (λ key named. focus-stays key (ap (focus_left stays) (sym named) ∙ held ∙ named))

-- A pointer that holds nothing that is let go of holds the same, where what is in a window keeps its number.
pub pointer-holds : (old new : List (ℕ × Row)) (desk : Desk) (pointer : Pointer) → desk.pointer ≡ pointer_seen old pointer → let_go desk ≡ desk → HoldsLive old pointer → ((id : ℕ) (key : ℕ × List ℕ) → key_at old id ≡ Some key → is_in_window desk key ≡ true → key_at new id ≡ Some key) → Holds old new pointer
unfolding let_go
pointer-holds old new desk pointer seen held live names =
    let grab_held = ap (λ (p : model.Pointer). grab_left (is_in_window desk) p.grab) (sym seen) ∙ ap (λ (d : Desk). d.pointer.grab) held ∙ ap (λ (p : model.Pointer). p.grab) seen in
    let focus_held = ap (λ (p : model.Pointer). focus_left (is_in_window desk) p.focus) (sym seen) ∙ ap (λ (d : Desk). d.pointer.focus) held ∙ ap (λ (p : model.Pointer). p.focus) seen in
    let grab = grab-holds old new (is_in_window desk) names pointer.grab live.grab grab_held in
    let focus = focus-holds old new (is_in_window desk) names pointer.focus live.focus focus_held in
    record {
      live = record { grab = grab.0; focus = focus.0 };
      same = ap₂ (λ (g : model.Grab) (f : Option (ℕ × List ℕ)). record (pointer_seen old pointer) { grab = g; focus = f }) grab.1 focus.1;
    }
