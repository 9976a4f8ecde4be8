-- A beat keeps what holds of a desk.
use Rattle.std.proofs.Common.{◌≡◌, ℕ, Bool, true, cond, nat_lt, List, map, Option, Some, None, refl, sym, ap, ap₂, ◌∙◌, subst, inr}
use Rattle.std.proofs.lemmas.List.Folds.{list_all-map}
use Rattle.std.specs.List.{list_all}
use Rattle.vscreen_core.specs.FilmState.{FilmState}
use Rattle.vscreen_core.specs.Band.{share_of}
use Rattle.widget_model.specs.RowFacts.{links_right}
use Rattle.widget_model.specs.Rows.{Row}
use Rattle.widget_model.specs.Kinds.{any_kind, counts_with, is_window_kind}
use Rattle.widget_model.specs.Named.{row_named, is_kind_of}
use Rattle.widget_model.specs.Pointer.{Pointer, Grab, no_grab, on_widget, drags}
use Rattle.widget_model.specs.Clients.{is_joined}
use Rattle.widget_model.specs.Fitting.{is_fit, IsFitFilm}
use Rattle.widget_model.proofs.Hanging.{all_at, all_from}
use Rattle.widget_model.proofs.Planting.{IsPlanted-map}
use Rattle.scene_model.proofs.StillTops.{root_of-still}
use Rattle.desk_model.specs.Desk.{Desk, is_open}
use Rattle.desk_model.specs.DeskFacts.{links_by_kind}
use Rattle.desk_model.specs.DeskLaws.{BeatsKeepDesks}
use Rattle.desk_model.specs.LetGo.{is_in_window, grab_left, focus_left, let_go}
use Rattle.desk_model.specs.Screens.{roster_limit}
use Rattle.desk_model.specs.Beat.{row_beaten, beat}
use Rattle.widget_model.proofs.ChangedRows.{AreNamedApart-map, rows_counted-map, is_kind_of-map, links_right-map, HaveFitFilms-map}
use Rattle.desk_model.proofs.Rosters.{set_aside, share_in, IsRosterOf-map}
use Rattle.desk_model.proofs.KeptScreens.{IsFitFilm-changed, share_in-changed}
use Rattle.desk_model.proofs.BeatRows.{film_beaten, film_beaten-keeps, IsFilm-film_beaten, row_beaten-is, client-beaten, attached-beaten, LeavesNode-beaten, LeavesNames-beaten, MovesNothing-beaten}

-- a test that a row passes as it did
all-beaten : (p q : Row → Bool) (rows : List Row) → ((row : Row) → q (row_beaten row) ≡ p row) → list_all p rows ≡ true → list_all q (map row_beaten rows) ≡ true
all-beaten p q rows same all =
    list_all-map q row_beaten rows ∙ all_from (λ (row : Row). q (row_beaten row)) rows (λ i row there. same row ∙ all_at p rows i row all there)

-- the films stay whole
IsFitFilm-beaten : (row : Row) → IsFitFilm row → IsFitFilm (row_beaten row)
IsFitFilm-beaten row fit = subst (λ (r : Row). IsFitFilm r) (sym (row_beaten-is row)) (IsFitFilm-changed film_beaten row IsFilm-film_beaten fit)

-- and as much is set aside for them
set_aside-beaten : (film : FilmState) → set_aside (film_beaten film) ≡ set_aside film
set_aside-beaten film =
    let keeps = film_beaten-keeps film in
    ap₂ (λ (width height : ℕ). aside width height (film_beaten film).period) keeps.width keeps.height ∙ ap (λ (period : ℕ). aside film.width film.height period) keeps.period
  where
    aside : ℕ → ℕ → ℕ → Option ℕ
    aside width height period = cond (nat_lt 0 period) (Some (share_of width height period)) None

share_in-beaten : (row : Row) → share_in (row_beaten row) ≡ share_in row
share_in-beaten row = ap (λ (r : Row). share_in r) (row_beaten-is row) ∙ share_in-changed film_beaten row set_aside-beaten

-- the pointer lets go of nothing more
grab_left-same : (p q : ℕ × List ℕ → Bool) → ((key : ℕ × List ℕ) → p key ≡ q key) → (grab : Grab) → grab_left p grab ≡ grab_left q grab
grab_left-same p q same no_grab = refl
grab_left-same p q same (on_widget key) = rw (same key) refl
grab_left-same p q same (drags window dx dy) = rw (same window) refl

focus_left-same : (p q : ℕ × List ℕ → Bool) → ((key : ℕ × List ℕ) → p key ≡ q key) → (focus : Option (ℕ × List ℕ)) → focus_left p focus ≡ focus_left q focus
focus_left-same p q same None = refl
focus_left-same p q same (Some key) = rw (same key) refl

held-beaten : (desk : Desk) → let_go desk ≡ desk → let_go (record desk { rows = map row_beaten desk.rows }) ≡ record desk { rows = map row_beaten desk.rows }
unfolding let_go
held-beaten desk held =
    ap₂ (λ (grab : Grab) (focus : Option (ℕ × List ℕ)). record beaten { pointer = record desk.pointer { grab = grab; focus = focus } })
    (grab_left-same (is_in_window beaten) (is_in_window desk) same desk.pointer.grab) (focus_left-same (is_in_window beaten) (is_in_window desk) same desk.pointer.focus)
    ∙ ap (λ (pointer : Pointer). record beaten { pointer = pointer }) (ap (λ (d : Desk). d.pointer) held)
  where
    beaten : Desk
    beaten = record desk { rows = map row_beaten desk.rows }

    same : (key : ℕ × List ℕ) → is_in_window (record desk { rows = map row_beaten desk.rows }) key ≡ is_in_window desk key
    same key = ap (λ (name : List ℕ). is_open desk key.0 name) (root_of-still row_beaten desk.rows (MovesNothing-beaten desk.rows) key.0 key.1)

links_right-film : (rows : List Row) (row : Row) → links_right rows (row_beaten row) ≡ links_right rows row
links_right-film rows row = ap (λ (r : Row). links_right rows r) (row_beaten-is row)

pub beats_keep : BeatsKeepDesks
unfolding beat
beats_keep desk is =
    record {
      shape = is.shape;
      clients = is.clients;
      connected_once = is.connected_once;
      rows = record {
        owners = all-beaten owned owned desk.rows (λ row. ap (λ (client : ℕ). is_joined desk.clients client) (client-beaten row)) is.rows.owners;
        names = AreNamedApart-map desk.rows row_beaten LeavesNode-beaten is.rows.names;
        most = λ client. rw (rows_counted-map client any_kind desk.rows row_beaten LeavesNode-beaten) (is.rows.most client);
        most_alike = λ client kind. rw (rows_counted-map client (counts_with kind) desk.rows row_beaten LeavesNode-beaten) (is.rows.most_alike client kind);
        planted = IsPlanted-map desk.rows row_beaten (record { leaves = LeavesNode-beaten; attached = λ row. inr (attached-beaten row) }) is.rows.planted;
        linked = all-beaten (links_right desk.rows) (links_right (map row_beaten desk.rows)) desk.rows (λ row. links_right-map desk.rows row_beaten (row_beaten row) LeavesNode-beaten ∙ links_right-film desk.rows row) is.rows.linked;
        fitting = all-beaten is_fit is_fit desk.rows (λ row. ap (λ (r : Row). is_fit r) (row_beaten-is row)) is.rows.fitting;
        films = HaveFitFilms-map desk.rows row_beaten (λ i row there fit. IsFitFilm-beaten row fit) is.rows.films;
      };
      linked_by_kind = all-beaten links_by_kind links_by_kind desk.rows (λ row. ap (λ (r : Row). links_by_kind r) (row_beaten-is row)) is.linked_by_kind;
      roster = IsRosterOf-map (roster_limit desk) desk.rows desk.roster row_beaten LeavesNames-beaten (λ i row there. share_in-beaten row) is.roster;
      rings = is.rings;
      windows = all_from (λ (window : ℕ × List ℕ). is_kind_of is_window_kind (row_named (map row_beaten desk.rows) window.0 window.1)) desk.windows (λ i window there. is_kind_of-map desk.rows row_beaten is_window_kind window.0 window.1 LeavesNode-beaten ∙ all_at (λ (window : ℕ × List ℕ). is_kind_of is_window_kind (row_named desk.rows window.0 window.1)) desk.windows i window is.windows there);
      once = is.once;
      held = held-beaten desk is.held;
    }
  where
    owned : Row → Bool
    owned row = is_joined desk.clients row.client
