-- What is put into a shot leaves it one.
use Rattle.std.proofs.Common.{◌≡◌, ◌≤◌, ℕ, length, List, [], Option, None, IfSome, ◌<◌, arith, sym, subst, map, ◌∷◌, ◌++◌, ◌≢◌, ◌⊎◌, inl, inr, false, nat_eq, is_some, ap, ◌∙◌, Some, get_or, set, length-append, length-set, get_or-set_same, get_or-set_other}
use Rattle.std.specs.List.{list_any}
use Rattle.std.proofs.lemmas.Bool.{cases_eq}
use Rattle.std.proofs.lemmas.List.{map-append}
use Rattle.geom_core.specs.declared.rectangle.Rect.{Rect}
use Rattle.shot_core.specs.Shot.{Seen, IsShot, AreListed, AreOnce, windows_in, spot_at, most_numbers}
use Rattle.shot_core.proofs.Listed.{AreOnce-put, AreListed-more, read-bare}
use Rattle.shot_core.specs.declared.spot.Spot.{Spot}

pub IsShot-bare : (shot : Seen) → shot.windows ≡ [] → shot.numbers ≡ [] → length shot.spots ≡ 2048 → ((key : ℕ) → spot_at shot key ≡ None) → IsShot shot
unfolding most_numbers
IsShot-bare shot none no_numbers len bare =
    record {
      few = subst (λ (windows : List (ℕ × Rect)). length windows ≤ 128) (sym none) (omega arith);
      once = subst (λ (windows : List (ℕ × Rect)). AreOnce (map (λ (window : ℕ × Rect). window.0) windows)) (sym none) tt;
      spots = len;
      within = λ key. subst (λ (o : Option Spot). IfSome o (λ spot. spot.window < most_numbers)) (sym (bare key)) tt;
      listed = λ key. ap (list_any (nat_eq key)) no_numbers ∙ sym (ap is_some (bare key));
      listed_once = subst AreOnce (sym no_numbers) tt;
    }

-- a window that isn't there yet, put below the others
pub IsShot-window : (shot now : Seen) (window : ℕ) (place : Rect) (windows : List (ℕ × Rect)) → shot ≡ now → windows ≡ shot.windows ++ (window, place) ∷ [] → length now.windows < 128 → list_any (nat_eq window) (windows_in now) ≡ false → IsShot shot → IsShot (record { windows = windows; spots = shot.spots; numbers = shot.numbers })
IsShot-window shot now window place windows same put few absent is =
    let room : length shot.windows < 128 = subst (λ (s : Seen). length s.windows < 128) (sym same) few in
    let apart : list_any (nat_eq window) (windows_in shot) ≡ false = ap (λ (s : Seen). list_any (nat_eq window) (windows_in s)) same ∙ absent in
    let put_is : IsShot (record { windows = shot.windows ++ (window, place) ∷ []; spots = shot.spots; numbers = shot.numbers }) = record {
      few = rw length-append (omega arith);
      once = subst AreOnce (sym (map-append (λ (w : ℕ × Rect). w.0) shot.windows ((window, place) ∷ []))) (AreOnce-put (windows_in shot) window is.once apart);
      spots = is.spots;
      within = is.within;
      listed = is.listed;
      listed_once = is.listed_once;
    } in
    subst (λ (ws : List (ℕ × Rect)). IsShot (record { windows = ws; spots = shot.spots; numbers = shot.numbers })) (sym put) put_is

-- a spot, with the list of the numbers that then have one
pub IsShot-spot : (shot : Seen) (numbers : List ℕ) (key : ℕ) (spot : Spot) → key < most_numbers → spot.window < most_numbers → IsShot shot → AreListed (set shot.spots key (Some spot)) numbers → AreOnce numbers → IsShot (record { windows = shot.windows; spots = set shot.spots key (Some spot); numbers = numbers })
IsShot-spot shot numbers key spot low window is listed once =
    record {
      few = is.few;
      once = is.once;
      spots = rw length-set is.spots;
      within = λ k. by k (cases_eq k key);
      listed = listed;
      listed_once = once;
    }
  where
    by : (k : ℕ) → (k ≡ key) ⊎ (k ≢ key) → IfSome (get_or (set shot.spots key (Some spot)) k None) (λ s. s.window < most_numbers)
    by k (inl same) =
        subst (λ (o : Option Spot). IfSome o (λ s. s.window < most_numbers)) (sym (ap (λ (j : ℕ). get_or (set shot.spots key (Some spot)) j None) same ∙ get_or-set_same shot.spots key (Some spot) None (subst (λ (n : ℕ). key < n) (sym is.spots) low))) window
    by k (inr differ) = subst (λ (o : Option Spot). IfSome o (λ s. s.window < most_numbers)) (sym (get_or-set_other shot.spots key k (Some spot) None differ)) (is.within k)

-- a number that had none gets a spot
pub IsShot-new : (shot : Seen) (numbers : List ℕ) (key : ℕ) (spot : Spot) (read : Option Spot) → key < most_numbers → spot.window < most_numbers → IsShot shot → read ≡ get_or shot.spots key read → is_some read ≡ false → numbers ≡ shot.numbers ++ key ∷ []
    → IsShot (record { windows = shot.windows; spots = set shot.spots key (Some spot); numbers = numbers })
IsShot-new shot numbers key spot read low window is at none put =
    let inside : key < length shot.spots = subst (λ (n : ℕ). key < n) (sym is.spots) low in
    let bare = read-bare shot.spots key read inside at none in
    subst (λ (ns : List ℕ). IsShot (record { windows = shot.windows; spots = set shot.spots key (Some spot); numbers = ns })) (sym put)
    (IsShot-spot shot (shot.numbers ++ key ∷ []) key spot low window is (AreListed-more shot.spots shot.numbers key spot inside is.listed) (AreOnce-put shot.numbers key is.listed_once (is.listed key ∙ bare)))
