-- Which lines send a frame, so that its bytes follow them.
use Rattle.std.specs.Prelude.{ℕ, List}
use Rattle.cmd_words.specs.Language.{Language, ◌▹◌, ◌▸◌, word}
use Rattle.cmd_words.specs.Productions.{sp, name}

-- any bytes at all
abbrev pub anything : Language (Unit {0})
anything xs _ = Unit {0}

-- sp name sp "." sp "frame" sp "(", and then anything
unfoldable pub frame_front : Language (Unit {0})
frame_front = sp ▹ name ▸ λ n. sp ▹ word "." ▹ sp ▹ word "frame" ▹ sp ▹ word "(" ▹ anything

abbrev pub IsFrameLine : List ℕ → Type 0
IsFrameLine xs = frame_front xs tt
