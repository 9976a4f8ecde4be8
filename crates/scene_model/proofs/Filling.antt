-- A Grid's tracks fill its side.
use Rattle.std.proofs.Common.{◌<◌, ℕ, List, [], ◌∷◌, length, sum, sym, ◌∙◌, arith}
use Rattle.grid_layout.proofs.Shares.{sum-widths_of}
use Rattle.scene_model.specs.Tracks.{tracks_used, track_leasts, track_weights, track_lengths}
use Rattle.scene_model.specs.FillLaws.{TracksFillTheRoom, WeighedTracksFillTheRoom}
use Rattle.scene_model.proofs.Leasts.{length-track_leasts, length-track_weights}

pub tracks_fill_the_room : TracksFillTheRoom
unfolding track_lengths
tracks_fill_the_room needs rules room used =
    sum-widths_of (track_leasts needs rules) (track_weights needs rules) room (length-track_weights needs rules ∙ sym (length-track_leasts needs rules)) (omega (arith, length-track_leasts needs rules))

-- a list with a sum above 0 has an element
some-summed : (ns : List ℕ) → 0 < sum ns → 0 < length ns
some-summed [] some = some
some-summed (n ∷ ns) some = omega arith

pub weighed_tracks_fill_the_room : WeighedTracksFillTheRoom
weighed_tracks_fill_the_room needs rules room weighed enough =
    let used : 0 < tracks_used needs rules = omega (arith, some-summed (track_weights needs rules) weighed, length-track_weights needs rules) in
    let filled = tracks_fill_the_room needs rules room used in
    omega (arith, filled, enough)
