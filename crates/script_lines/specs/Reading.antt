-- Inner words of the proofs: how the code reads a line, from left to right, up to what a client says.
use Rattle.std.specs.Prelude.{ℕ, ◌+◌, Bool, true, false, ◌&&◌, ◌==◌, nat_le, if◌then◌else◌, List, [], ◌∷◌, length, take, drop, codes, Option, Some, None, option_map}
use Rattle.std.specs.Str.{bytes_eq}
use Rattle.std.specs.List.{position}
use Rattle.cmd_words.specs.declared.inputs.Input.TheVariants.{Motion, Press, Release, Key}
use Rattle.cmd_words.specs.Productions.{are_digits, number_of}
use Rattle.script_lines.specs.declared.order.Order.{Order}
use Rattle.script_lines.specs.declared.order.Order.TheVariants.{Nothing, Connect, Bye, Feed, Ticks, Dirty, Pixel, Dump}

-- steps of which each has an answer, or the whole has none
infixl 10 ◌>>=◌
abbrev pub ◌>>=◌ : {A B : Type 0} → Option A → (A → Option B) → Option B
(Some x) >>= f = f x
None >>= f = None

-- the first that has an answer
abbrev pub first_some : {A : Type 0} → List (Option A) → Option A
first_some [] = None
first_some (Some x ∷ others) = Some x
first_some (None ∷ others) = first_some others

-- digits, where what they write is in the range
unfoldable pub number_at : ℕ → ℕ → List ℕ → Option ℕ
number_at least most digits =
    if are_digits digits && nat_le least (number_of digits) && nat_le (number_of digits) most then Some (number_of digits) else None

abbrev pub begins_with_zero : List ℕ → Bool
begins_with_zero [] = false
begins_with_zero (first ∷ rest) = first == 48

unfoldable pub client_at : List ℕ → Option ℕ
client_at digits = if begins_with_zero digits then None else number_at 1 16 digits

-- what follows these bytes, where the line begins with them
unfoldable pub after : List ℕ → List ℕ → Option (List ℕ)
after start line = if bytes_eq (take (length start) line) start then Some (drop (length start) line) else None

-- the index of the first space
abbrev pub space_in : List ℕ → Option ℕ
space_in text = position (λ byte. byte == 32) text

-- what stands before the first space, and what stands behind it
unfoldable pub parted : List ℕ → Option (List ℕ × List ℕ)
parted text = option_map (λ at. (take at text, drop (at + 1) text)) (space_in text)

unfoldable pub is_silent : List ℕ → Bool
is_silent [] = true
is_silent (first ∷ rest) = first == 35

unfoldable pub word_order : List ℕ → Option Order
word_order line =
    if bytes_eq line (codes "tick") then Some (Ticks 1)
    else (if bytes_eq line (codes "dirty") then Some Dirty
    else (if bytes_eq line (codes "dump") then Some Dump else None))

unfoldable pub tick_order : List ℕ → Option Order
tick_order line = do
  digits ← after (codes "tick ") line
  count ← number_at 1 1000 digits
  Some (Ticks count)

-- a pixel, in two numbers
unfoldable pub place_at : List ℕ → Option (ℕ × ℕ)
place_at text = do
  sides ← parted text
  x ← number_at 0 9999 sides.0
  y ← number_at 0 9999 sides.1
  Some (x, y)

unfoldable pub pixel_order : List ℕ → Option Order
pixel_order line = do
  text ← after (codes "pixel ") line
  place ← place_at text
  Some (Pixel place.0 place.1)

unfoldable pub button_order : List ℕ → Option Order
button_order line =
    if bytes_eq line (codes "press") then Some (Feed Press)
    else (if bytes_eq line (codes "release") then Some (Feed Release) else None)

unfoldable pub motion_order : List ℕ → Option Order
motion_order line = do
  text ← after (codes "motion ") line
  place ← place_at text
  Some (Feed (Motion place.0 place.1))

unfoldable pub key_order : List ℕ → Option Order
key_order line = do
  digits ← after (codes "key ") line
  byte ← number_at 0 255 digits
  Some (Feed (Key byte))

unfoldable pub connect_order : List ℕ → Option Order
connect_order line = do
  digits ← after (codes "connect ") line
  client ← client_at digits
  Some (Connect client)

unfoldable pub bye_order : List ℕ → Option Order
bye_order line = do
  digits ← after (codes "bye ") line
  client ← client_at digits
  Some (Bye client)

-- a line of the screen
unfoldable pub screen_order : List ℕ → Option Order
screen_order line = first_some (word_order line ∷ tick_order line ∷ pixel_order line ∷ [])

-- a line of the pointer or the keyboard
unfoldable pub input_order : List ℕ → Option Order
input_order line = first_some (button_order line ∷ motion_order line ∷ key_order line ∷ [])

-- a line that comes or goes
unfoldable pub coming_order : List ℕ → Option Order
coming_order line = first_some (connect_order line ∷ bye_order line ∷ [])

-- every line but that in which a client says something
unfoldable pub plain_order : List ℕ → Option Order
plain_order line =
    if is_silent line then Some Nothing
    else first_some (screen_order line ∷ input_order line ∷ coming_order line ∷ [])

-- the client, and what it says
unfoldable pub said_at : List ℕ → Option (ℕ × List ℕ)
said_at line = do
  parts ← parted line
  client ← client_at parts.0
  Some (client, parts.1)
