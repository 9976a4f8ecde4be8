-- A part of a row that is lent for writing: what the screen is once it has been written.
use Rattle.std.specs.Prelude.{ℕ, List, ◌++◌, length, take, drop}
use Rattle.std.specs.Borrow.{Fml, MutBor, Array, Lends, u8}
use Rattle.canvas_core.specs.contracts.canvas.Canvas.{the_row}
use Rattle.canvas_core.specs.Screen.{Screen, counted}

-- The bytes with `row` written over those from the place `at` on. Where all of it has room there, that is `with_span`;
-- what has no room is left out.
abbrev pub written : List ℕ → ℕ → List ℕ → List ℕ
written bytes at row = take (length bytes) (take at bytes ++ row ++ drop (length row) (drop at bytes))

-- the screen with `row` written from the place `at` on, and so many bytes counted
abbrev pub with_row : Screen → ℕ → ℕ → List ℕ → Screen
with_row s at len row = record (counted s len) { bytes = written s.bytes at row }

-- the screen ends with the last bytes behind r written from the place `at` on
abbrev pub LendsRow : MutBor Screen → ℕ → ℕ → MutBor (List ℕ) → Fml
LendsRow s at len r = Lends the_row (Array u8 0) s r (with_row s.now at len)
