-- What a desk keeps when a new row is put last.
use Rattle.std.proofs.Common.{◌≡◌, ℕ, true, List, [], ◌∷◌, ◌++◌, Option, Some, None, refl, sym, ap, ◌∙◌}
use Rattle.std.proofs.lemmas.Bool.{true≢false}
use Rattle.std.proofs.lemmas.List.Folds.{find-append}
use Rattle.widget_model.specs.Rows.{Row}
use Rattle.widget_model.specs.Kinds.{is_window_kind}
use Rattle.widget_model.specs.Named.{has_name, row_named}
use Rattle.widget_model.proofs.Hanging.{all_at, all_from}
use Rattle.widget_model.proofs.NewRows.{IsNew, all-push, is_kind_of-push, AreRows-push}
use Rattle.desk_model.specs.Desk.{Desk, Admission}
use Rattle.desk_model.specs.Screens.{roster_limit}
use Rattle.desk_model.specs.DeskFacts.{links_by_kind, has_its_share, is_listed, IsRosterOf}
use Rattle.desk_model.proofs.Sound.{names_window, AreWindows, IsSound}
use Rattle.desk_model.proofs.Rosters.{has_share, film_in}

pub AreWindows-push : (rows : List Row) (row : Row) (windows : List (ℕ × List ℕ)) → AreWindows rows windows → AreWindows (rows ++ row ∷ []) windows
AreWindows-push rows row windows kept =
    record {
      there = all_from (names_window (rows ++ row ∷ [])) windows (λ i window there. is_kind_of-push rows row is_window_kind window.0 window.1 (all_at (names_window rows) windows i window kept.there there));
      once = kept.once;
    }

-- a row without a film isn't admitted
IsRosterOf-push : (limit : ℕ) (rows : List Row) (roster : List Admission) (row : Row) → row.film ≡ None → IsRosterOf limit rows roster → IsRosterOf limit (rows ++ row ∷ []) roster
IsRosterOf-push limit rows roster row none kept =
    record {
      shares = all_from (has_its_share (rows ++ row ∷ [])) roster (λ i admission there. by admission (row_named rows admission.client admission.name) refl (all_at (has_its_share rows) roster i admission kept.shares there));
      once = kept.once;
      all = all-push (is_listed roster) rows row kept.all (rw none refl);
      within = kept.within;
    }
  where
    by : (admission : Admission) (o : Option Row) → row_named rows admission.client admission.name ≡ o → has_share admission.share (film_in o) ≡ true → has_its_share (rows ++ row ∷ []) admission ≡ true
    by admission None found h = absurd (true≢false (sym h))
    by admission (Some other) found h =
        let still : row_named (rows ++ row ∷ []) admission.client admission.name ≡ Some other = find-append (has_name admission.client admission.name) rows (row ∷ []) ∙ rw found refl in
        ap (λ (o : Option Row). has_share admission.share (film_in o)) still ∙ h

pub IsSound-push : (desk : Desk) (row : Row) → IsSound desk → IsNew desk.clients desk.rows row → IsSound (record desk { rows = desk.rows ++ row ∷ [] })
IsSound-push desk row sound new =
    record {
      shape = sound.shape;
      clients = sound.clients;
      connected_once = sound.connected_once;
      rows = AreRows-push desk.clients desk.rows row sound.rows new;
      by_kind = all-push links_by_kind desk.rows row sound.by_kind (rw new.unlinked refl);
      roster = IsRosterOf-push (roster_limit desk) desk.rows desk.roster row new.no_film sound.roster;
      rings = sound.rings;
      windows = AreWindows-push desk.rows row desk.windows sound.windows;
    }
