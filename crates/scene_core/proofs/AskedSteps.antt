-- What children ask for, told of their numbers one after the other.
use Rattle.std.proofs.Common.{◌≡◌, ℕ, zero, suc, ◌+◌, ◌<◌, ◌≤◌, ◌==◌, max, List, [], ◌∷◌, ◌++◌, length, map, take, get_or, replicate, refl, sym, ap, ◌∙◌, subst, if◌then◌else◌}
use Rattle.std.proofs.lemmas.List.{map_more, take_all}
use Rattle.widget_model.specs.Widgets.{Widgets, IsLive}
use Rattle.widget_model.specs.Forest.{IsWidgets}
use Rattle.scene_model.specs.declared.axis.Axis.{Axis}
use Rattle.scene_model.specs.Tracks.{Need, asked_in, last_asked}
use Rattle.scene_core.specs.declared.asked.Asked.{Asked}
use Rattle.scene_core.specs.declared.child.Child.{Child}
use Rattle.scene_core.specs.Children.{child_for, needs_for, AreChildren}
use Rattle.scene_core.specs.Measured.{AreAsked, need_seen, needs_seen}
use Rattle.scene_core.proofs.Needs.{asked_in-last, last_asked-last}
use Rattle.scene_core.proofs.ChildNeeds.{map-twice, asked-children, last-children}

zeros : (n i : ℕ) → get_or {A = ℕ} (replicate n 0) i 0 ≡ 0
zeros zero i = refl
zeros (suc n) zero = refl
zeros (suc n) (suc i) = zeros n i

pub asked-none : AreAsked [] (record { rooms = replicate 16 0; last = 0 })
asked-none = record { rooms = λ index less. zeros 16 index; last = refl }

needs-more : (axis : Axis) (widgets : Widgets) (keys : List ℕ) (i : ℕ) (child : Child) → i < length keys → child ≡ child_for widgets (get_or keys i 0)
    → needs_seen axis (map (child_for widgets) (take (i + 1) keys)) ≡ needs_seen axis (map (child_for widgets) (take i keys)) ++ need_seen axis child ∷ []
needs-more axis widgets keys i child less is =
    map-twice (need_seen axis) (child_for widgets) (take (i + 1) keys)
    ∙ map_more (λ (key : ℕ). need_seen axis (child_for widgets key)) keys i 0 less
    ∙ ap (λ (needs : List Need). needs ++ need_seen axis (child_for widgets (get_or keys i 0)) ∷ []) (sym (map-twice (need_seen axis) (child_for widgets) (take i keys)))
    ∙ ap (λ (c : Child). needs_seen axis (map (child_for widgets) (take i keys)) ++ need_seen axis c ∷ []) (sym is)

-- with one child more
pub asked-more : (axis : Axis) (widgets : Widgets) (keys : List ℕ) (i : ℕ) (child : Child) (old new : Asked) → i < length keys → child ≡ child_for widgets (get_or keys i 0)
    → ((index : ℕ) → index < 16 → get_or new.rooms index 0 ≡ max (get_or old.rooms index 0) (if (need_seen axis child).track == index + 1 then (need_seen axis child).room else 0))
    → new.last ≡ max old.last (need_seen axis child).track
    → AreAsked (needs_seen axis (map (child_for widgets) (take i keys))) old → AreAsked (needs_seen axis (map (child_for widgets) (take (i + 1) keys))) new
asked-more axis widgets keys i child old new less is rooms last are = subst (λ (needs : List Need). AreAsked needs new) (sym (needs-more axis widgets keys i child less is)) (record {
  rooms = λ index low.
      rooms index low
      ∙ ap (λ (n : ℕ). max n (if (need_seen axis child).track == index + 1 then (need_seen axis child).room else 0)) (are.rooms index low)
      ∙ sym (asked_in-last (needs_seen axis (map (child_for widgets) (take i keys))) (need_seen axis child) (index + 1));
  last = last ∙ ap (λ (n : ℕ). max n (need_seen axis child).track) are.last ∙ sym (last_asked-last (needs_seen axis (map (child_for widgets) (take i keys))) (need_seen axis child));
})

-- all children ask for what the definitions say
pub asked-all : (axis : Axis) (widgets : Widgets) (id : ℕ) (keys : List ℕ) (i : ℕ) (asked : Asked) → IsWidgets widgets → IsLive widgets id → AreChildren widgets id keys → length keys ≤ i
    → AreAsked (needs_seen axis (map (child_for widgets) (take i keys))) asked → AreAsked (needs_for axis widgets id) asked
asked-all axis widgets id keys i asked valid live kids past are =
    let all = ap (λ (ks : List ℕ). needs_seen axis (map (child_for widgets) ks)) (take_all i keys past) in
    record {
      rooms = λ index low. are.rooms index low ∙ ap (λ (needs : List Need). asked_in needs (index + 1)) all ∙ asked-children axis widgets id keys (index + 1) valid live kids;
      last = are.last ∙ ap last_asked all ∙ last-children axis widgets id keys valid live kids;
    }
