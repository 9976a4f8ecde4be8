-- Inner words of the proofs: what a framer keeps of the bytes that wait.
use Rattle.std.specs.Prelude.{◌≡◌, ℕ, ◌+◌, ◌<◌, ◌≤◌, false, List, [], ◌∷◌, ◌++◌, length, take}
use Rattle.cmd_text.specs.FrameLine.{IsFrameLine}
use Rattle.script_lines.specs.Sayings.{command_limit}
use Rattle.wire_link.specs.declared.stage.Stage.{Stage}
use Rattle.wire_link.specs.declared.stage.Stage.TheVariants.{Open, Whole, Filling, Bad}
use Rattle.wire_link.specs.Framing.{Framed, IsLine, IsFrame, IsBadFrame, has_feed}

-- the bytes that wait
abbrev pub waiting_of : Stage → List ℕ → List ℕ → List ℕ
waiting_of Open line payload = line
waiting_of Whole line payload = line ++ 10 ∷ payload
waiting_of (Filling size) line payload = line ++ 10 ∷ payload
waiting_of (Bad place) line payload = line ++ 10 ∷ payload

pub record FitsOpen (line payload : List ℕ) : Type 0 where
  pub no_feed : has_feed line ≡ false
  pub short : length line ≤ command_limit + 1
  pub none : payload ≡ []

pub record FitsWhole (line payload : List ℕ) : Type 0 where
  pub is_line : IsLine line
  pub plain : IsFrameLine line → ⊥
  pub none : payload ≡ []

pub record FitsFilling (line payload : List ℕ) (size : ℕ) : Type 0 where
  pub is_line : IsLine line
  pub frame : IsFrame line size
  pub within : length payload ≤ size

pub record FitsBad (line payload : List ℕ) (place : ℕ) : Type 0 where
  pub is_line : IsLine line
  pub bad : IsBadFrame line place
  pub none : payload ≡ []

-- the line and the payload so far suit the stage
abbrev pub Fits : Stage → List ℕ → List ℕ → Type 0
Fits Open line payload = FitsOpen line payload
Fits Whole line payload = FitsWhole line payload
Fits (Filling size) line payload = FitsFilling line payload size
Fits (Bad place) line payload = FitsBad line payload place

-- what a framer holds
abbrev pub framed : Stage → List ℕ → List ℕ → List ℕ → List ℕ → Framed
framed stage line payload last_line last_payload = record { waiting = waiting_of stage line payload; line = last_line; payload = last_payload }

-- The first line feed among the bytes stands at this index.
pub record IsFirstFeed (bytes : List ℕ) (index : ℕ) : Type 0 where
  pub inside : index < length bytes
  pub before : has_feed (take index bytes) ≡ false
  pub spelled : take (index + 1) bytes ≡ take index bytes ++ 10 ∷ []
