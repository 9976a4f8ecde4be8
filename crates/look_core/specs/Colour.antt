-- Colour: what a look shows at the pixel (u, v) of a widget of w by h.
use Rattle.std.specs.Prelude.{ℕ}
use Rattle.look_core.specs.declared.palette.TheConstants.{GROUND, FILM_GROUND}
use Rattle.look_core.specs.Seen.{Seen, window, grid, frame, button, label, entry, scale, scrollbar, film, no_film, in_row}
use Rattle.look_core.specs.Cases.{window_colour, label_colour, button_colour, entry_colour, scale_colour, scrollbar_colour, film_colour}

-- The colour in a row, from the look that row is drawn from (of a film it has that row's bytes alone).
unfoldable pub colour_in_row : Seen → ℕ → ℕ → ℕ → ℕ → ℕ
colour_in_row (window title) w h u v = window_colour title w h u v
colour_in_row grid w h u v = GROUND
colour_in_row frame w h u v = GROUND
colour_in_row (button text held) w h u v = button_colour text held w h u v
colour_in_row (label shown) w h u v = label_colour shown u v
colour_in_row (entry text caret focus) w h u v = entry_colour text caret focus w h u v
colour_in_row (scale value max vert held) w h u v = scale_colour value max vert held w h u v
colour_in_row (scrollbar value real view vert held) w h u v = scrollbar_colour value real view vert held w h u v
colour_in_row (film width height row) w h u v = film_colour width height row u v
colour_in_row no_film w h u v = FILM_GROUND

-- The colour of a whole look.
unfoldable pub colour_of : Seen → ℕ → ℕ → ℕ → ℕ → ℕ
colour_of look w h u v = colour_in_row (in_row v look) w h u v
