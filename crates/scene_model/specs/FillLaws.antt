-- What is proved of a Grid's tracks: they fill its side, or take what they need.
use Rattle.std.specs.Prelude.{◌≡◌, ◌<◌, ◌≤◌, ℕ, max, List, sum}
use Rattle.scene_model.specs.Tracks.{Need, tracks_used, track_leasts, track_weights, track_lengths}

-- where a track is in use, all together are as long as the room, or as the sum of what they need
abbrev pub TracksFillTheRoom : Type 0
TracksFillTheRoom =
    (needs : List Need) (rules : List (ℕ × ℕ)) (room : ℕ) → 0 < tracks_used needs rules
    → sum (track_lengths needs rules room) ≡ max room (sum (track_leasts needs rules))

-- so they fill a side that has room for what they need, where a weight is above 0
abbrev pub WeighedTracksFillTheRoom : Type 0
WeighedTracksFillTheRoom =
    (needs : List Need) (rules : List (ℕ × ℕ)) (room : ℕ) → 0 < sum (track_weights needs rules) → sum (track_leasts needs rules) ≤ room
    → sum (track_lengths needs rules room) ≡ room
