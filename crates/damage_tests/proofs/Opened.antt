-- One more window, laid out and put on top.
use Rattle.std.proofs.Common.{◌≡◌, ◌≢◌, ℕ, zero, suc, ◌<◌, Bool, true, false, cond, nat_eq, List, [], ◌∷◌, map, length, get_or, All, Some, inl, inr, ◌⊎◌, refl, sym, ap, ◌∙◌, arith, subst}
use Rattle.std.proofs.lemmas.Bool.{cases_eq, or_from}
use Rattle.std.proofs.lemmas.List.Elements.{All-nil, All-cons, All-head, All-tail}
use Rattle.std.specs.List.{Contains}
use Rattle.std.specs.Option.{option_map}
use Rattle.kind_core.specs.declared.kinds.Kind.TheVariants.{Window}
use Rattle.stack_core.specs.Stack.{holds_key, without, IsStack}
use Rattle.widget_model.specs.Rows.{Row}
use Rattle.widget_model.specs.Widgets.{Widgets, rows_of, row_at, row_kind, place_at}
use Rattle.widget_model.specs.Relatives.{root_id}
use Rattle.scene_model.specs.Placing.{place_in}
use Rattle.scene_core.specs.Places.{HasPlaces}
use Rattle.damage_tests.specs.Shown.{IsShown}

pub holds-without : (keys : List ℕ) (key : ℕ) → holds_key (without keys key) key ≡ false
holds-without [] key = refl
holds-without (first ∷ keys) key = by (nat_eq first key) refl (holds-without keys key)
  where
    by : (b : Bool) → nat_eq first key ≡ b → holds_key (without keys key) key ≡ false → holds_key (cond b (without keys key) (first ∷ without keys key)) key ≡ false
    by true q rest = rest
    by false q rest = or_from _ _ q rest

contains-without : (keys : List ℕ) (key n : ℕ) → Contains (without keys key) n → Contains keys n
contains-without [] key n among = among
contains-without (first ∷ keys) key n among = by (contains-without keys key n) (nat_eq first key) among
  where
    later : Contains keys n → Contains (first ∷ keys) n
    later at = (suc at.0, omega (arith, at.1), at.2)

    at : (Contains (without keys key) n → Contains keys n) → (i : ℕ) → i < length (first ∷ without keys key) → get_or (first ∷ without keys key) i n ≡ n → Contains (first ∷ keys) n
    at rest zero less is = (0, omega arith, is)
    at rest (suc i) less is = later (rest (i, omega (arith, less), is))

    by : (Contains (without keys key) n → Contains keys n) → (b : Bool) → Contains (cond b (without keys key) (first ∷ without keys key)) n → Contains (first ∷ keys) n
    by rest true h = later (rest h)
    by rest false h = at rest h.0 h.1 h.2

all-without : (P : ℕ → Type 0) (keys : List ℕ) (key : ℕ) → All P keys → All P (without keys key)
all-without P [] key each = each
all-without P (first ∷ keys) key each = by (all-without P keys key (All-tail P first keys each)) (nat_eq first key)
  where
    by : All P (without keys key) → (b : Bool) → All P (cond b (without keys key) (first ∷ without keys key))
    by rest true = rest
    by rest false = All-cons P first (without keys key) (All-head P first keys each) rest

pub shown-opened : (old new : Widgets) (windows now : List ℕ) (window : ℕ) → new.entries ≡ old.entries → HasPlaces new window → ((other : ℕ) → root_id old other ≢ Some window → place_at new other ≡ place_at old other)
    → row_kind old.entries window ≡ Some Window → IsShown old windows → now ≡ window ∷ without windows window → IsStack now → IsShown new now
shown-opened old new windows now window rows placed others is shown put stack = record {
  windows_are = record { each = subst (λ (ws : List ℕ). All (λ (id : ℕ). row_kind new.entries id ≡ Some Window) ws) (sym put) each; once = stack };
  kept = record { each = λ id top among root. kept id top (subst (λ (ws : List ℕ). Contains ws top) put among) root (cases_eq top window) };
}
  where
    P : ℕ → Type 0
    P id = row_kind new.entries id ≡ Some Window

    each : All (λ (id : ℕ). row_kind new.entries id ≡ Some Window) (window ∷ without windows window)
    each = subst (λ (es : List (ℕ × Row)). All (λ (id : ℕ). row_kind es id ≡ Some Window) (window ∷ without windows window)) (sym rows)
        (All-cons (λ (id : ℕ). row_kind old.entries id ≡ Some Window) window (without windows window) is (all-without (λ (id : ℕ). row_kind old.entries id ≡ Some Window) windows window shown.windows_are.each))

    root-same : (id : ℕ) → root_id old id ≡ root_id new id
    root-same id = ap (λ (es : List (ℕ × Row)). root_id (record { clients = []; entries = es; places = [] }) id) (sym rows)

    due-same : (id : ℕ) → option_map (place_in (rows_of old)) (row_at old.entries id) ≡ option_map (place_in (rows_of new)) (row_at new.entries id)
    due-same id = ap (λ (es : List (ℕ × Row)). option_map (place_in (map (λ (entry : ℕ × Row). entry.1) es)) (row_at es id)) (sym rows)

    some-same : (a b : ℕ) → Some a ≡ Some b → a ≡ b
    some-same a b e = cc

    older : (top : ℕ) → top ≢ window → Contains (window ∷ without windows window) top → Contains windows top
    older top apart among = at among.0 among.1 among.2
      where
        at : (i : ℕ) → i < length (window ∷ without windows window) → get_or (window ∷ without windows window) i top ≡ top → Contains windows top
        at zero less same = absurd (apart (sym same))
        at (suc i) less same = contains-without windows window top (i, omega arith, same)

    kept : (id top : ℕ) → Contains (window ∷ without windows window) top → root_id new id ≡ Some top → (top ≡ window) ⊎ (top ≢ window) → place_at new id ≡ option_map (place_in (rows_of new)) (row_at new.entries id)
    kept id top among root (inl same) = placed.each id (root ∙ ap (λ (n : ℕ). Some n) same)
    kept id top among root (inr apart) =
        others id (λ e. apart (some-same top window (sym (root-same id ∙ root) ∙ e))) ∙ shown.kept.each id top (older top apart among) (root-same id ∙ root) ∙ due-same id

-- nothing is open at first
pub shown-none : (widgets : Widgets) (windows : List ℕ) → windows ≡ [] → IsStack windows → IsShown widgets windows
shown-none widgets windows none stack = record {
  windows_are = record { each = subst (λ (ws : List ℕ). All (λ (id : ℕ). row_kind widgets.entries id ≡ Some Window) ws) (sym none) (All-nil (λ (id : ℕ). row_kind widgets.entries id ≡ Some Window)); once = stack };
  kept = record { each = λ id top among root. absurd (empty top (subst (λ (ws : List ℕ). Contains ws top) none among)) };
}
  where
    empty : (top : ℕ) → Contains [] top → ⊥
    empty top among = omega (arith, among.1)
