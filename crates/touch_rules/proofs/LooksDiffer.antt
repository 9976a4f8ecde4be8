-- Two looks differ where they do without their films' bytes, or the films that the widgets show do.
use Rattle.std.proofs.Common.{◌≡◌, Bool, true, false, ◌&&◌, ◌||◌, not, Option, Some, None, refl, sym}
use Rattle.std.proofs.Math.Bool.{or-false}
use Rattle.std.proofs.lemmas.Bool.{true≢false}
use Rattle.std.specs.Option.{option_map_or}
use Rattle.std.specs.Str.{bytes_eq}
use Rattle.std.specs.Prelude.{nat_eq, if◌then◌else◌}
use Rattle.kind_core.specs.declared.kinds.Kind.{Kind}
use Rattle.kind_core.specs.declared.kinds.Kind.TheVariants.{VScreen}
use Rattle.look_core.specs.Seen as seen
use Rattle.look_core.specs.Seen.{Seen}
use Rattle.look_core.specs.Same.{same_look}
use Rattle.look_data.specs.Data.{but_bytes}
use Rattle.vscreen_core.specs.FilmState.{FilmState}
use Rattle.widget_model.specs.Rows.{Row}
use Rattle.scene_model.specs.Scene.{Scene}
use Rattle.scene_model.specs.LookOf.{look_by, look_of}
use Rattle.desk_model.specs.Screens.{is_screen}
use Rattle.touch_rules.specs.Films.{looks_alike, shown_film}

sides : (w h b : Bool) → not (w && (h && b)) ≡ (not (w && (h && true)) || not (w && (h && b)))
sides true true true = refl
sides true true false = refl
sides true false b = refl
sides false h b = refl

abbrev film_look : Option FilmState → Seen
film_look o = option_map_or (λ (film : FilmState). seen.film film.width film.height film.shown) o seen.no_film

-- whether the looks differ, where these films are shown
abbrev Differ : Seen → Seen → Option FilmState → Option FilmState → Type 0
Differ x y o p = not (same_look x y) ≡ (not (same_look (but_bytes x) (but_bytes y)) || not (looks_alike o p))

screens : (o p : Option FilmState) → Differ (film_look o) (film_look p) o p
unfolding same_look
screens None None = refl
screens None (Some g) = refl
screens (Some f) None = refl
screens (Some f) (Some g) = sides (nat_eq f.width g.width) (nat_eq f.height g.height) (bytes_eq f.shown g.shown)

screen-other : (o : Option FilmState) (k : Kind) (s : Scene) (b : Row) → is_screen k ≡ false → Differ (film_look o) (look_by k s b) o None
unfolding same_look
screen-other o VScreen s b other = absurd (true≢false other)
screen-other None k s b other = refl
screen-other (Some f) k s b other = refl

other-screen : (p : Option FilmState) (j : Kind) (s : Scene) (a : Row) → is_screen j ≡ false → Differ (look_by j s a) (film_look p) None p
unfolding same_look
other-screen p VScreen s a other = absurd (true≢false other)
other-screen None j s a other = refl
other-screen (Some f) j s a other = refl

looks-differ : (j k : Kind) (s s' : Scene) (a b : Row) → Differ (look_by j s a) (look_by k s' b) (if is_screen j then a.film else None) (if is_screen k then b.film else None)
unfolding same_look
looks-differ VScreen VScreen s s' a b = screens a.film b.film
looks-differ VScreen k s s' a b = screen-other a.film k s' b refl
looks-differ j VScreen s s' a b = other-screen b.film j s a refl
looks-differ j k s s' a b = sym (or-false (not (same_look (look_by j s a) (look_by k s' b))))

pub differs-but_bytes : (s s' : Scene) (a b : Row) → not (same_look (look_of s a) (look_of s' b)) ≡ (not (same_look (but_bytes (look_of s a)) (but_bytes (look_of s' b))) || not (looks_alike (shown_film a) (shown_film b)))
unfolding look_of
differs-but_bytes s s' a b = looks-differ a.kind b.kind s s' a b
