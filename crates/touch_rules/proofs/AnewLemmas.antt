-- The films that look different after a command, and the number of the VScreen that it shows anew.
use Rattle.std.proofs.Common.{◌≡◌, ◌≢◌, ℕ, ◌*◌, Bool, true, false, cond, ◌&&◌, nat_eq, length, replicate, List, [], ◌∷◌, Option, Some, None, refl, sym, ap, ◌∙◌}
use Rattle.std.proofs.lemmas.Bool.{true≢false, eq-eqb, ne_eqb}
use Rattle.std.specs.List.{list_all}
use Rattle.std.specs.Option.{option_map, option_and_then}
use Rattle.std.specs.Str.{bytes_eq}
use Rattle.vscreen_core.specs.FilmState.{FilmState, IsFilm}
use Rattle.cmd_words.specs.declared.commands.Command.{Command}
use Rattle.widget_model.specs.Rows.{Row}
use Rattle.widget_model.specs.Nodes.{id_named}
use Rattle.widget_model.specs.Widgets.{Widgets, nodes, rows_of, row_at}
use Rattle.widget_model.specs.Forest.{IsWidgets}
use Rattle.widget_model.proofs.Naming.{row_named-found}
use Rattle.desk_model.specs.Screens.{film_named}
use Rattle.look_data.specs.Kept.{is_shown_at}
use Rattle.touch_rules.specs.Films.{screen_named, film_differs}
use Rattle.touch_rules.specs.Telling.{number_anew, where_shown}

-- bytes that are all 0
blank-bytes : (bytes : List ℕ) → list_all (λ byte. nat_eq byte 0) bytes ≡ bytes_eq bytes (replicate (length bytes) 0)
blank-bytes [] = refl
blank-bytes (byte ∷ bytes) = ap (λ (b : Bool). nat_eq byte 0 && b) (blank-bytes bytes)

-- whether it looks like a blank film of that size
abbrev IsBlank : FilmState → ℕ → ℕ → Bool
IsBlank film w h = nat_eq film.width w && (nat_eq film.height h && bytes_eq film.shown (replicate (w * h) 0))

pub blank-same : (film : FilmState) (w h : ℕ) → IsFilm film → film.width ≡ w → film.height ≡ h → list_all (λ byte. nat_eq byte 0) film.shown ≡ IsBlank film w h
blank-same film w h valid wide high =
    blank-bytes film.shown
    ∙ ap (λ (n : ℕ). bytes_eq film.shown (replicate n 0)) (valid.shown_size ∙ ap (λ (n : ℕ). n * film.height) wide ∙ ap (λ (n : ℕ). w * n) high)
    ∙ sym (two (nat_eq film.width w) (nat_eq film.height h) (bytes_eq film.shown (replicate (w * h) 0)) (eq-eqb film.width w wide) (eq-eqb film.height h high))
  where
    two : (a b c : Bool) → a ≡ true → b ≡ true → (a && (b && c)) ≡ c
    two true true c p q = refl
    two true false c p q = absurd (true≢false (sym q))
    two false b c p q = absurd (true≢false (sym p))

pub blank-high : (film : FilmState) (w h : ℕ) → film.width ≡ w → film.height ≢ h → nat_eq film.height h ≡ IsBlank film w h
blank-high film w h wide high = rw (eq-eqb film.width w wide, ne_eqb film.height h high) refl

pub blank-wide : (film : FilmState) (w h : ℕ) → film.width ≢ w → nat_eq film.width w ≡ IsBlank film w h
blank-wide film w h wide = rw (ne_eqb film.width w wide) refl

-- where the command may show none anew
pub anew-unnamed : (widgets : Widgets) (client : ℕ) (command : Command) (payload : List ℕ) → None ≡ screen_named command → None ≡ number_anew widgets client command payload
anew-unnamed widgets client command payload none =
    ap (λ (o : Option (List ℕ)). option_and_then (id_named (nodes widgets.entries) client) (option_and_then (λ name. cond (film_differs command payload (film_named (rows_of widgets) client name)) (Some name) None) o)) none

-- where it names a widget
anew-named : (widgets : Widgets) (client : ℕ) (command : Command) (payload name : List ℕ) → Some name ≡ screen_named command → cond (film_differs command payload (film_named (rows_of widgets) client name)) (id_named (nodes widgets.entries) client name) None ≡ number_anew widgets client command payload
anew-named widgets client command payload name named =
    by (film_differs command payload (film_named (rows_of widgets) client name))
    ∙ ap (λ (o : Option (List ℕ)). option_and_then (id_named (nodes widgets.entries) client) (option_and_then (λ name. cond (film_differs command payload (film_named (rows_of widgets) client name)) (Some name) None) o)) named
  where
    by : (b : Bool) → cond b (id_named (nodes widgets.entries) client name) None ≡ option_and_then (id_named (nodes widgets.entries) client) (cond b (Some name) None)
    by true = refl
    by false = refl

pub anew-absent : (widgets : Widgets) (client : ℕ) (command : Command) (payload name : List ℕ) → Some name ≡ screen_named command → None ≡ id_named (nodes widgets.entries) client name → None ≡ number_anew widgets client command payload
anew-absent widgets client command payload name named none =
    by (film_differs command payload (film_named (rows_of widgets) client name)) ∙ anew-named widgets client command payload name named
  where
    by : (b : Bool) → None ≡ cond b (id_named (nodes widgets.entries) client name) None
    by true = none
    by false = refl

-- where it names one, by whether its film looks different
pub anew-there : (widgets : Widgets) (client : ℕ) (command : Command) (payload name : List ℕ) (id : ℕ) (film : Option FilmState) (differs : Bool) → IsWidgets widgets → Some name ≡ screen_named command → Some id ≡ id_named (nodes widgets.entries) client name → option_map (λ (row : Row). row.film) (row_at widgets.entries id) ≡ Some film → differs ≡ film_differs command payload film
    → cond differs (Some id) None ≡ number_anew widgets client command payload
anew-there widgets client command payload name id film differs valid named found there is =
    ap (λ (b : Bool). cond b (Some id) None) (is ∙ sym (ap (film_differs command payload) film_is))
    ∙ ap (λ (o : Option ℕ). cond (film_differs command payload (film_named (rows_of widgets) client name)) o None) found
    ∙ anew-named widgets client command payload name named
  where
    joined : (o : Option Row) → option_map (λ (row : Row). row.film) o ≡ Some film → option_and_then (λ (row : Row). row.film) o ≡ film
    joined None p = absurd (cc)
    joined (Some row) p = cc

    film_is : film_named (rows_of widgets) client name ≡ film
    film_is = ap (option_and_then (λ (row : Row). row.film)) (row_named-found widgets.entries client name id valid.numbered.own_numbers (sym found)) ∙ joined (row_at widgets.entries id) there

-- the number of a widget, where it is shown
pub shown-where : (widgets : Widgets) (windows : List ℕ) (id : ℕ) (number : Option ℕ) (shown : Bool) → Some id ≡ number → shown ≡ is_shown_at widgets windows id → cond shown (Some id) None ≡ where_shown widgets windows number
shown-where widgets windows id number shown found is = ap (λ (b : Bool). cond b (Some id) None) is ∙ ap (where_shown widgets windows) found
