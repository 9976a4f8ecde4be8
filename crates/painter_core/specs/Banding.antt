-- Which pixels of a view's screen show a band of a widget's film.
use Rattle.std.specs.Prelude.{ℕ, ℤ, Bool, false}
use Rattle.std.specs.Option.{option_map_or}
use Rattle.widget_model.specs.Widgets.{key_at}
use Rattle.vscreen_core.specs.declared.band.Band.{Band}
use Rattle.scene_model.specs.Bands.{shows_band}
use Rattle.scene_core.specs.declared.view.View.{View}
use Rattle.scene_core.specs.View.{scene_of}

-- whether the screen shows a pixel of the band there, of the numbered widget of the view
abbrev pub view_shows_band : View → ℕ → Band → ℤ → ℤ → Bool
view_shows_band view id band x y =
    option_map_or (λ key. shows_band (scene_of view) key band x y) (key_at view.tree.now.entries id) false
