-- An inner word of the proofs: what the code has of a widget's children and of a Grid's tracks is what the definitions of
-- layout have.
use Rattle.std.specs.Prelude.{ℕ, ◌≡◌, ◌≤◌, ◌<◌, ◌+◌, ◌*◌, List, map, take, slice_index_or}
use Rattle.std.specs.List.{All}
use Rattle.scene_model.specs.declared.axis.Axis.{Axis}
use Rattle.scene_model.specs.Spans.{along}
use Rattle.scene_model.specs.Tracks.{Need, track_in, asked_in, last_asked, tracks_used, track_leasts, track_weights}
use Rattle.widget_model.specs.Rows.{IsIndex}
use Rattle.scene_core.specs.declared.asked.Asked.{Asked}
use Rattle.scene_core.specs.declared.child.Child.{Child}
use Rattle.scene_core.specs.declared.size.Size.{Size}
use Rattle.scene_core.specs.declared.tracks.Tracks.{Tracks}

-- the length of a size along the axis
abbrev pub side : Axis → Size → ℕ
side axis size = along axis size.w size.h

-- what a measured child asks for along the axis
abbrev pub need_seen : Axis → Child → Need
need_seen axis child = record { track = track_in axis child.cell; room = side axis child.least + 2 * child.cell.pad }

abbrev pub needs_seen : Axis → List Child → List Need
needs_seen axis children = map (need_seen axis) children

-- a child's cell and least size are in range
pub record IsMeasured (child : Child) : Type 0 where
  pub column : IsIndex child.cell.column
  pub line : IsIndex child.cell.row
  pub pad : child.cell.pad ≤ 16
  pub width : child.least.w ≤ 4096
  pub height : child.least.h ≤ 4096

-- this is what children with these needs ask for: the most room in each track, and the last track with a child
pub record AreAsked (needs : List Need) (asked : Asked) : Type 0 where
  pub rooms : (index : ℕ) → index < 16 → slice_index_or asked.rooms index 0 ≡ asked_in needs (index + 1)
  pub last : asked.last ≡ last_asked needs

-- the tracks in use, where the children have these needs and the tracks these rules
pub record AreTracks (needs : List Need) (rules : List (ℕ × ℕ)) (tracks : Tracks) : Type 0 where
  pub few : tracks.used ≤ 16
  pub used : tracks.used ≡ tracks_used needs rules
  pub least : take tracks.used tracks.least ≡ track_leasts needs rules
  pub weights : take tracks.used tracks.weights ≡ track_weights needs rules
  pub least_small : All (λ n. n ≤ 4128) tracks.least
  pub weights_small : All (λ n. n ≤ 1000) tracks.weights
