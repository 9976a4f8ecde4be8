-- An inner word of the proofs: what is known while widgets are measured and laid out is what the definitions say.
use Rattle.std.specs.Prelude.{ℕ, ◌≡◌, List, IfSome, slice_index_or, Option, None}
use Rattle.widget_model.specs.Widgets.{Widgets}
use Rattle.scene_model.specs.declared.axis.Axis.TheVariants.{Across, Down}
use Rattle.scene_model.specs.Tracks.{rules_of}
use Rattle.scene_core.specs.declared.known.Known.{Known}
use Rattle.scene_core.specs.declared.known.KeptTracks.{KeptTracks}
use Rattle.scene_core.specs.declared.size.Size.{Size}
use Rattle.scene_core.specs.declared.tracks.BothTracks.{BothTracks}
use Rattle.scene_core.specs.Children.{row_for, size_for, needs_for}
use Rattle.scene_core.specs.Measured.{AreTracks}

-- a size that is known is the number's least size
abbrev pub AreSizes : Widgets → List (Option Size) → Type 0
AreSizes widgets sizes = (id : ℕ) → IfSome (slice_index_or sizes id None) (λ size. size ≡ size_for widgets id)

-- these are the tracks of the numbered Grid along both axes
pub record AreBothTracks (widgets : Widgets) (id : ℕ) (tracks : BothTracks) : Type 0 where
  pub across : AreTracks (needs_for Across widgets id) (rules_of Across (row_for widgets id)) tracks.across
  pub down : AreTracks (needs_for Down widgets id) (rules_of Down (row_for widgets id)) tracks.down

-- tracks that are kept are those of the Grid with the number beside them
abbrev pub AreKept : Widgets → List (Option KeptTracks) → Type 0
AreKept widgets slots = (slot : ℕ) → IfSome (slice_index_or slots slot None) (λ kept. AreBothTracks widgets kept.key kept.tracks)

pub record AreKnown (widgets : Widgets) (known : Known) : Type 0 where
  pub sizes : AreSizes widgets known.sizes
  pub tracks : AreKept widgets known.tracks
