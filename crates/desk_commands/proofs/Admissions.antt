-- Admissions by number as by name: the others' ones, their shares, and that there is room for one more.
use Rattle.std.proofs.Common.{◌≡◌, ◌≢◌, ℕ, suc, ◌+◌, ◌<◌, Bool, true, false, cond, not, ◌||◌, ◌==◌, nat_eq, nat_lt, List, [], ◌∷◌, ◌++◌, map, length, Option, Some, None, is_some, AllPairs, refl, sym, ap, ◌∙◌, arith}
use Rattle.std.proofs.lemmas.Bool.{true≢false, and_parts, and_from, eqb-true, eq-eqb, ne_eqb, or_from}
use Rattle.std.proofs.lemmas.List.{length-map}
use Rattle.std.proofs.lemmas.List.Folds.{list_all-map}
use Rattle.std.proofs.lemmas.List.Sums.{sum_by-cons}
use Rattle.std.specs.List.{list_all, filter}
use Rattle.std.specs.Option.{option_map_or}
use Rattle.kind_core.specs.declared.kinds.Kind.{Kind}
use Rattle.kind_core.specs.declared.kinds.Kind.TheVariants.{VScreen}
use Rattle.admit_core.specs.Roster.{RosterState, IsRoster, has_key, others, total}
use Rattle.widget_model.specs.Named.{AreNamedApart}
use Rattle.widget_model.specs.Rows.{Row}
use Rattle.widget_model.specs.Nodes.{Node}
use Rattle.widget_model.specs.Widgets.{Widgets, nodes, row_at, rows_in}
use Rattle.widget_model.specs.Trees.{is_admitted}
use Rattle.desk_model.specs.Desk.{Admission, is_admission}
use Rattle.desk_model.specs.Screens.{other_admissions, shares_of}
use Rattle.desk_commands.specs.Parts.{admission_at, admissions_at, names_admitted, is_live_entry, is_others, is_others_entry}
use Rattle.desk_commands.specs.Lookup.{IsFound}
use Rattle.desk_commands.proofs.WindowSteps.{same_title}
use Rattle.desk_commands.proofs.KindRoom.{IsAlike, room_for_one}
use Rattle.stack_core.specs.Stack.{holds_key, AreDistinct}
use Rattle.std.specs.Prelude.{slice_index_or, slice_get, IfSome, IsSome}
use Rattle.vscreen_core.specs.FilmState.{FilmState, IsFilm}
use Rattle.widget_model.specs.Widgets.{rows_of}
use Rattle.widget_model.specs.Forest.{IsWidgets}
use Rattle.widget_model.specs.Fitting.{IsFitFilm}
use Rattle.widget_model.specs.Kinds.{counts_with}
use Rattle.tree_core.proofs.Listed.{All-at, any_at, numbered_place}
use Rattle.widget_model.proofs.Hanging.{all_at}
use Rattle.desk_model.proofs.OthersRows.{filter-within}

-- an admission has the client and name of the VScreen that was found exactly where it has its number
module _ (w : Widgets) (client : ℕ) (name : List ℕ) (key : ℕ) (kind : Kind) (own : AreNamedApart (rows_in w.entries)) (found : IsFound w client name key kind) where
  same_admission : (entry : ℕ × ℕ) → is_live_entry w.entries entry ≡ true → is_admission client name (admission_at (nodes w.entries) entry) ≡ nat_eq entry.0 key
  same_admission entry live = same_title w client name key kind entry.0 own found live

  -- the others by number are the others by name
  pub admissions-others : (entries : List (ℕ × ℕ)) → list_all (is_live_entry w.entries) entries ≡ true → admissions_at (nodes w.entries) (others key entries) ≡ other_admissions client name (admissions_at (nodes w.entries) entries)
  unfolding others
  admissions-others [] live = refl
  admissions-others (entry ∷ entries) live = by (admissions-others entries parts.1) (nat_eq entry.0 key) (same_admission entry parts.0)
    where
      parts : (is_live_entry w.entries entry ≡ true) × (list_all (is_live_entry w.entries) entries ≡ true)
      parts = and_parts (is_live_entry w.entries entry) (list_all (is_live_entry w.entries) entries) live

      by : admissions_at (nodes w.entries) (others key entries) ≡ other_admissions client name (admissions_at (nodes w.entries) entries) → (b : Bool) → is_admission client name (admission_at (nodes w.entries) entry) ≡ b → admissions_at (nodes w.entries) (cond (not b) (entry ∷ others key entries) (others key entries)) ≡ other_admissions client name (admissions_at (nodes w.entries) (entry ∷ entries))
      by rest true q = rest ∙ sym (rw q refl)
      by rest false q = ap (λ (rest : List Admission). admission_at (nodes w.entries) entry ∷ rest) rest ∙ sym (rw q refl)

-- their shares are the same
pub shares-total : (ns : List (ℕ × Node)) (entries : List (ℕ × ℕ)) → shares_of (admissions_at ns entries) ≡ total entries
unfolding total
shares-total ns [] = refl
shares-total ns (entry ∷ entries) =
    sum_by-cons (λ (a : Admission). a.share) (admission_at ns entry) (admissions_at ns entries)
    ∙ ap (λ (n : ℕ). entry.1 + n) (shares-total ns entries)
    ∙ sym (sum_by-cons (λ (e : ℕ × ℕ). e.1) entry entries)

pub admissions-push : (ns : List (ℕ × Node)) (entries : List (ℕ × ℕ)) (entry : ℕ × ℕ) → admissions_at ns (entries ++ entry ∷ []) ≡ admissions_at ns entries ++ admission_at ns entry ∷ []
admissions-push ns [] entry = refl
admissions-push ns (e ∷ es) entry = ap (λ (rest : List Admission). admission_at ns e ∷ rest) (admissions-push ns es entry)

-- what is listed stays so among the others, and with one more
pub live-others : (es : List (ℕ × Row)) (key : ℕ) (entries : List (ℕ × ℕ)) → list_all (is_live_entry es) entries ≡ true → list_all (is_live_entry es) (others key entries) ≡ true
unfolding others
live-others es key [] live = refl
live-others es key (entry ∷ entries) live = by (live-others es key entries parts.1) (nat_eq entry.0 key)
  where
    parts : (is_live_entry es entry ≡ true) × (list_all (is_live_entry es) entries ≡ true)
    parts = and_parts (is_live_entry es entry) (list_all (is_live_entry es) entries) live

    by : list_all (is_live_entry es) (others key entries) ≡ true → (b : Bool) → list_all (is_live_entry es) (cond (not b) (entry ∷ others key entries) (others key entries)) ≡ true
    by rest true = rest
    by rest false = and_from _ _ parts.0 rest

-- a number that is live is a widget's
pub live_at : (es : List (ℕ × Row)) (entries : List (ℕ × ℕ)) (i : ℕ) (entry : ℕ × ℕ) → list_all (is_live_entry es) entries ≡ true → slice_get entries i ≡ Some entry → IsSome (row_at es entry.0)
live_at es entries i entry live there = all_at (is_live_entry es) entries i entry live there

pub key-there : (entries : List (ℕ × ℕ)) (i : ℕ) (entry : ℕ × ℕ) → slice_get entries i ≡ Some entry → has_key entry.0 entries ≡ true
unfolding has_key
key-there entries i entry there = any_at (λ (e : ℕ × ℕ). e.0 == entry.0) entries i entry there (eq-eqb entry.0 entry.0 refl)

-- those that are another's are among the others of a number that isn't
pub filter-others : (ns : List (ℕ × Node)) (client key : ℕ) (entries : List (ℕ × ℕ)) → is_others ns client key ≡ false → filter (is_others_entry ns client) (others key entries) ≡ filter (is_others_entry ns client) entries
unfolding others
filter-others ns client key entries own = filter-within (λ (e : ℕ × ℕ). not (e.0 == key)) (is_others_entry ns client) wider entries
  where
    wider : (entry : ℕ × ℕ) → is_others_entry ns client entry ≡ true → not (entry.0 == key) ≡ true
    wider entry other = by (nat_eq entry.0 key) refl
      where
        by : (b : Bool) → nat_eq entry.0 key ≡ b → not b ≡ true
        by false q = refl
        by true q = absurd (true≢false (sym other ∙ ap (is_others ns client) (eqb-true entry.0 key q) ∙ own))

pub live-push : (es : List (ℕ × Row)) (entries : List (ℕ × ℕ)) (entry : ℕ × ℕ) → list_all (is_live_entry es) entries ≡ true → is_live_entry es entry ≡ true → list_all (is_live_entry es) (entries ++ entry ∷ []) ≡ true
live-push es [] entry live one = and_from _ _ one refl
live-push es (e ∷ rest) entry live one =
    let parts = and_parts (is_live_entry es e) (list_all (is_live_entry es) rest) live in
    and_from _ _ parts.0 (live-push es rest entry parts.1 one)

pub admitted-live : (es : List (ℕ × Row)) (entries : List (ℕ × ℕ)) → list_all (names_admitted es) entries ≡ true → list_all (is_live_entry es) entries ≡ true
admitted-live es [] all = refl
admitted-live es (entry ∷ entries) all =
    let parts = and_parts (names_admitted es entry) (list_all (names_admitted es) entries) all in
    and_from _ _ (by (row_at es entry.0) parts.0) (admitted-live es entries parts.1)
  where
    by : (o : Option Row) → option_map_or is_admitted o false ≡ true → is_some o ≡ true
    by None h = absurd (true≢false (sym h))
    by (Some row) h = refl

-- another number isn't there twice, nor is one that is put last
pub live-changed : (es fs : List (ℕ × Row)) (entries : List (ℕ × ℕ)) → ((id : ℕ) → is_some (row_at es id) ≡ true → is_some (row_at fs id) ≡ true) → list_all (is_live_entry es) entries ≡ true → list_all (is_live_entry fs) entries ≡ true
live-changed es fs [] stay live = refl
live-changed es fs (entry ∷ entries) stay live =
    let parts = and_parts (is_live_entry es entry) (list_all (is_live_entry es) entries) live in
    and_from _ _ (stay entry.0 parts.0) (live-changed es fs entries stay parts.1)

-- the numbers of the entries
abbrev keys_in : List (ℕ × ℕ) → List ℕ
keys_in entries = map (λ (entry : ℕ × ℕ). entry.0) entries

holds-keys_in : (entries : List (ℕ × ℕ)) (key : ℕ) → holds_key (keys_in entries) key ≡ has_key key entries
unfolding has_key
holds-keys_in [] key = refl
holds-keys_in (entry ∷ entries) key = ap (λ (b : Bool). nat_eq entry.0 key || b) (holds-keys_in entries key)

-- none of them is there twice
apart-absent : (key : ℕ) (entries : List (ℕ × ℕ)) (d : ℕ × ℕ) → ((j : ℕ) → j < length entries → key ≢ (slice_index_or entries j d).0) → holds_key (keys_in entries) key ≡ false
apart-absent key [] d apart = refl
apart-absent key (entry ∷ entries) d apart =
    or_from _ _ (ne_eqb entry.0 key (λ e. apart 0 (omega arith) (sym e))) (apart-absent key entries d (λ j short. apart (suc j) (omega (arith, short))))

keys-distinct : (entries : List (ℕ × ℕ)) → AllPairs (λ (first second : ℕ × ℕ). first.0 ≢ second.0) entries → AreDistinct (keys_in entries)
keys-distinct [] apart = tt
keys-distinct (entry ∷ entries) apart = (
  apart-absent entry.0 entries entry (λ j short. apart 0 (suc j) entry (omega arith) (omega (arith, short))),
  keys-distinct entries (λ i j d low high. apart (suc i) (suc j) d (omega (arith, low)) (omega (arith, high))),
)

-- each is a VScreen's
pub film-screen : (row : Row) → IsFitFilm row → is_admitted row ≡ true → row.kind ≡ VScreen
film-screen row fit admitted = by row.film fit admitted
  where
    by : (o : Option FilmState) → IfSome o (λ film. (row.kind ≡ VScreen) × IsFilm film) → option_map_or (λ (film : FilmState). nat_lt 0 film.period) o false ≡ true → row.kind ≡ VScreen
    by None fit h = absurd (true≢false (sym h))
    by (Some film) fit h = fit.0

screen_at : (w : Widgets) (key : ℕ) → IsWidgets w → names_admitted w.entries (key, 0) ≡ true → IsAlike VScreen w key
screen_at w key valid admitted = by (row_at w.entries key) refl admitted
  where
    by : (o : Option Row) → row_at w.entries key ≡ o → option_map_or is_admitted o false ≡ true → IsAlike VScreen w key
    by None p h = absurd (true≢false (sym h))
    by (Some row) p h =
        let place = numbered_place w.entries key row p in
        let kind = film-screen row (All-at IsFitFilm (rows_of w) place.0 row valid.rows.films place.1) h in
        record { row = row; there = p; counts = ap (counts_with VScreen) kind }

-- There are at most 8 VScreens of each of 16 clients, and one that isn't admitted is one more than those that are.
pub room_to_admit : (w : Widgets) (roster : RosterState) (key : ℕ) (row : Row) → IsWidgets w → IsRoster roster → list_all (names_admitted w.entries) roster.entries ≡ true → row_at w.entries key ≡ Some row → row.kind ≡ VScreen → has_key key roster.entries ≡ false → length roster.entries < 128
room_to_admit w roster key row valid sound all there kind new =
    let names : ℕ → Bool = λ k. names_admitted w.entries (k, 0) in
    let one : IsAlike VScreen w key = record { row = row; there = there; counts = ap (counts_with VScreen) kind } in
    let each = list_all-map names (λ (entry : ℕ × ℕ). entry.0) roster.entries ∙ all in
    let room = room_for_one VScreen w (keys_in roster.entries) key names valid (keys-distinct roster.entries sound.own_keys) each (λ k. screen_at w k valid) one (holds-keys_in roster.entries key ∙ new) in
    omega (arith, room, length-map roster.entries (λ (entry : ℕ × ℕ). entry.0))
