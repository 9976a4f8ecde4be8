-- Comparing the watched looks tells the touched ones.
use Rattle.std.proofs.Common.{◌≡◌, ℕ, Bool, true, false, cond, ◌&&◌, ◌||◌, not, nat_eq, List, [], ◌∷◌, Option, Some, None, IsSome, is_some, refl, sym, ap, ◌∙◌}
use Rattle.std.proofs.Math.Bool.{and-false, and-true}
use Rattle.std.proofs.lemmas.Bool.{eqb-true, or_parts}
use Rattle.std.proofs.lemmas.List.Elements.{All-head, All-tail}
use Rattle.std.specs.List.{All, list_any}
use Rattle.std.specs.Option.{option_map, option_map_or}
use Rattle.look_core.specs.Seen.{Seen, no_film}
use Rattle.look_core.specs.Same.{same_look}
use Rattle.widget_model.specs.Rows.{Row}
use Rattle.widget_model.specs.Widgets.{Widgets, row_at}
use Rattle.scene_model.specs.Scene.{Scene}
use Rattle.scene_model.specs.LookOf.{look_of}
use Rattle.look_data.specs.Data.{but_bytes}
use Rattle.look_data.specs.Kept.{kept_look, differ}
use Rattle.look_data.specs.Watched.{is_watched, AreWatched, has_changed}
use Rattle.touch_rules.specs.Touched.{is_shown, is_touched}
use Rattle.touch_rules.specs.Films.{looks_alike, shown_film}
use Rattle.touch_rules.specs.Laws.{is_number, is_seen_anew, WatchedLooksAreEnough}
use Rattle.touch_rules.proofs.LooksDiffer.{differs-but_bytes}
use Rattle.touch_rules.proofs.SameLooks.{shown-live, not_some, own_look}
use Rattle.touch_rules.proofs.UnwatchedLooks.{look-unwatched}

-- what is kept, by whether it is shown and by the row
abbrev kept : Scene → Bool → Option Row → Option Seen
kept scene shown row = cond shown (option_map (λ (row : Row). but_bytes (look_of scene row)) row) None

abbrev look : Scene → Option Row → Seen
look scene row = option_map_or (look_of scene) row no_film

differ-none : (before : Option Seen) → differ before None ≡ false
differ-none None = refl
differ-none (Some seen) = refl

record Compared (watched one : Bool) (s s' : Scene) (o p : Option Row) : Type 0 where
  films : (a b : Row) → o ≡ Some a → p ≡ Some b → not (looks_alike (shown_film a) (shown_film b)) ≡ one
  unwatched : watched ≡ false → (a b : Row) → o ≡ Some a → p ≡ Some b → look_of s' b ≡ look_of s a

nothing : (a b : Bool) → ((a && false) || (b && false)) ≡ false
nothing a b = rw (and-false a, and-false b) refl

compared : (watched one shown shown' : Bool) (s s' : Scene) (o p : Option Row) → (shown ≡ true → IsSome o) → (shown' ≡ true → IsSome p) → Compared watched one s s' o p
    → ((watched && differ (kept s shown o) (kept s' shown' p)) || (one && (shown && shown'))) ≡ (shown && (shown' && not (same_look (look s o) (look s' p))))
compared watched one false shown' s s' o p there there' c = nothing watched one
compared watched one true false s s' o p there there' c = ap (λ (b : Bool). (watched && b) || (one && false)) (differ-none (option_map (λ (row : Row). but_bytes (look_of s row)) o)) ∙ nothing watched one
compared watched one true true s s' None p there there' c = absurd (not_some None (there refl) refl)
compared watched one true true s s' (Some a) None there there' c = absurd (not_some None (there' refl) refl)
compared true one true true s s' (Some a) (Some b) there there' c =
    ap (λ (t : Bool). not (same_look (but_bytes (look_of s a)) (but_bytes (look_of s' b))) || t) (and-true one ∙ sym (c.films a b refl refl))
    ∙ sym (differs-but_bytes s s' a b)
compared false one true true s s' (Some a) (Some b) there there' c =
    let same : not (same_look (look_of s a) (look_of s' b)) ≡ false = ap not (ap (same_look (look_of s a)) (c.unwatched refl a b refl refl) ∙ own_look (look_of s a)) in
    let parts = or_parts (not (same_look (but_bytes (look_of s a)) (but_bytes (look_of s' b)))) (not (looks_alike (shown_film a) (shown_film b))) (sym (differs-but_bytes s s' a b) ∙ same) in
    and-true one ∙ sym (c.films a b refl refl) ∙ parts.1 ∙ sym same

-- a list with the look that each of its numbers had tells which of those differ
changed-listed : (before : ℕ → Option Seen) (after : Option Seen) (id : ℕ) (looks : List (ℕ × Seen)) → All (λ (one : ℕ × Seen). before one.0 ≡ Some one.1) looks
    → list_any (λ (one : ℕ × Seen). nat_eq id one.0 && differ (Some one.1) after) looks ≡ (list_any (λ (one : ℕ × Seen). nat_eq id one.0) looks && differ (before id) after)
changed-listed before after id [] all = refl
changed-listed before after id (one ∷ looks) all = by (changed-listed before after id looks (All-tail IsKept one looks all)) (nat_eq id one.0) refl
  where
    IsKept : ℕ × Seen → Type 0
    IsKept one = before one.0 ≡ Some one.1

    again : (d any : Bool) → (d || (any && d)) ≡ d
    again true any = refl
    again false any = and-false any

    by : list_any (λ (one : ℕ × Seen). nat_eq id one.0 && differ (Some one.1) after) looks ≡ (list_any (λ (one : ℕ × Seen). nat_eq id one.0) looks && differ (before id) after) → (b : Bool) → nat_eq id one.0 ≡ b
        → ((b && differ (Some one.1) after) || list_any (λ (one : ℕ × Seen). nat_eq id one.0 && differ (Some one.1) after) looks) ≡ ((b || list_any (λ (one : ℕ × Seen). nat_eq id one.0) looks) && differ (before id) after)
    by rest false e = rest
    by rest true e =
        let here : before id ≡ Some one.1 = ap before (eqb-true id one.0 e) ∙ All-head IsKept one looks all in
        ap (λ (b : Bool). differ (Some one.1) after || b) (rest ∙ ap (λ (o : Option Seen). list_any (λ (one : ℕ × Seen). nat_eq id one.0) looks && differ o after) here)
        ∙ again (differ (Some one.1) after) (list_any (λ (one : ℕ × Seen). nat_eq id one.0) looks)
        ∙ ap (λ (o : Option Seen). differ o after) (sym here)

changed-watched : (named : List ℕ) (variable : Option ℕ) (widgets : Widgets) (windows : List ℕ) (scene : Scene) (looks : List (ℕ × Seen)) → AreWatched named variable widgets windows scene looks → (widgets' : Widgets) (windows' : List ℕ) (scene' : Scene) (id : ℕ)
    → has_changed looks widgets' windows' scene' id ≡ (is_watched widgets named variable id && differ (kept_look widgets windows scene id) (kept_look widgets' windows' scene' id))
changed-watched named variable widgets windows scene looks watched widgets' windows' scene' id =
    changed-listed (kept_look widgets windows scene) (kept_look widgets' windows' scene' id) id looks watched.each
    ∙ ap (λ (b : Bool). b && differ (kept_look widgets windows scene id) (kept_look widgets' windows' scene' id)) (watched.numbers id)
    ∙ some (is_watched widgets named variable id) (kept_look widgets windows scene id) (kept_look widgets' windows' scene' id)
  where
    some : (b : Bool) (before after : Option Seen) → ((b && is_some before) && differ before after) ≡ (b && differ before after)
    some false before after = refl
    some true None after = refl
    some true (Some seen) after = refl

pub watched_looks_are_enough : WatchedLooksAreEnough
unfolding kept_look
watched_looks_are_enough scope named variable anew before after looks touched valid valid' keys stays watches shows watched told = record { each = each }
  where
    each : (id : ℕ) → list_any (nat_eq id) touched ≡ is_touched before after id
    each id =
        told id
        ∙ ap (λ (b : Bool). b || is_seen_anew anew before after id) (changed-watched named variable before.widgets before.windows before.scene looks watched after.widgets after.windows after.scene id)
        ∙ compared (is_watched before.widgets named variable id) (is_number anew id) (is_shown before id) (is_shown after id) before.scene after.scene (row_at before.widgets.entries id) (row_at after.widgets.entries id)
        (shown-live before.widgets before.windows id) (shown-live after.widgets after.windows id)
        (record {
          films = λ a b. shows.each id a b;
          unwatched = λ none a b. look-unwatched scope named variable before after valid valid' keys stays watches id a b none;
        })
