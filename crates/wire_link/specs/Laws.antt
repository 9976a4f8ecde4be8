-- The laws of how bytes are cut: one cut at most comes next, and bytes that come behind don't change it.
use Rattle.std.specs.Prelude.{◌≡◌, List, ℕ, ◌++◌}
use Rattle.wire_link.specs.declared.cut.Cut.{Cut}
use Rattle.wire_link.specs.declared.cut.Cut.TheVariants.{More}
use Rattle.wire_link.specs.Framing.{Framed, Gives}

-- two answers to the same bytes are one
pub record SameCut (a b : Cut) (first second : Framed) : Type 0 where
  pub cut : a ≡ b
  pub framed : first ≡ second

abbrev pub OneCut : Type 0
OneCut = (old first second : Framed) (a b : Cut) → Gives old a first → Gives old b second → SameCut a b first second

-- the same with more bytes behind those that wait
abbrev pub longer : List ℕ → Framed → Framed
longer more framed = record { waiting = framed.waiting ++ more; line = framed.line; payload = framed.payload }

-- What comes next, where it isn't that more is needed, is the same whatever bytes come in behind.
abbrev pub CutsStay : Type 0
CutsStay = (old new : Framed) (cut : Cut) (more : List ℕ) → (cut ≡ More → ⊥) → Gives old cut new → Gives (longer more old) cut (longer more new)
