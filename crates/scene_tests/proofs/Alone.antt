-- A view in which one Window is open.
use Rattle.std.proofs.Common.{◌≡◌, ℕ, zero, suc, ◌<◌, List, [], ◌∷◌, Some, get_or, sym, ap, ◌∙◌, arith, subst}
use Rattle.std.specs.List.{All, Contains}
use Rattle.std.proofs.lemmas.List.Elements.{All-nil, All-push}
use Rattle.kind_core.specs.declared.kinds.Kind.TheVariants.{Window}
use Rattle.stack_core.specs.Stack.{IsStack}
use Rattle.widget_model.specs.Widgets.{Widgets, row_kind}
use Rattle.scene_core.specs.Places.{HasPlaces}
use Rattle.scene_core.specs.View.{AreWindows, KeepsPlaces}

pub windows-alone : (widgets : Widgets) (stack : List ℕ) (window : ℕ) → row_kind widgets.entries window ≡ Some Window → stack ≡ window ∷ [] → IsStack stack → AreWindows widgets stack
windows-alone widgets stack window is alone once = record {
  each = subst (λ (xs : List ℕ). All (λ id. row_kind widgets.entries id ≡ Some Window) xs) (sym alone) (All-push (λ (id : ℕ). row_kind widgets.entries id ≡ Some Window) [] window (All-nil (λ (id : ℕ). row_kind widgets.entries id ≡ Some Window)) is);
  once = once;
}

pub kept-alone : (widgets : Widgets) (stack : List ℕ) (window : ℕ) → stack ≡ window ∷ [] → HasPlaces widgets window → KeepsPlaces widgets stack
kept-alone widgets stack window alone placed = record { each = λ id other among root. placed.each id (root ∙ ap (λ (n : ℕ). Some n) (sym (only other (subst (λ (xs : List ℕ). Contains xs other) alone among)))) }
  where
    by : (other i : ℕ) → i < 1 → get_or (window ∷ []) i other ≡ other → window ≡ other
    by other zero less e = e
    by other (suc i) less e = absurd (omega arith)

    only : (other : ℕ) → Contains (window ∷ []) other → window ≡ other
    only other h = by other h.0 h.1 h.2
