-- Which looks can be drawn: their numbers are in step with one another, as effective numbers are.
use Rattle.std.specs.Prelude.{ℕ, ◌-◌, ◌≤◌, ◌<◌, length}
use Rattle.look_core.specs.Seen.{Seen, entry, scale, scrollbar, film}

-- The look can be drawn in row y. An Entry's caret is at most at its text's end. A Scale's max is 1 to 10,000,
-- and its value at most that. A Scrollbar's real length is at most 10,000, and its value at most what the view
-- leaves of it, so 0 where the view shows all. Of a film that has row y the bytes of that row are there.
abbrev pub IsDrawable : ℕ → Seen → Type 0
IsDrawable y (entry text caret focus) = caret ≤ length text
IsDrawable y (scale value max vert held) = (1 ≤ max) × (max ≤ 10000) × (value ≤ max)
IsDrawable y (scrollbar value real view vert held) = (real ≤ 10000) × (value ≤ real - view)
IsDrawable y (film width height row) = y < height → width ≤ length row
IsDrawable y look = Unit {0}
