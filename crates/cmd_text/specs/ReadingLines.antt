-- Inner words of the proofs: how commands and whole lines are read, and the front of a frame line.
use Rattle.std.specs.Prelude.{ℕ, ◌&&◌, ◌==◌, if◌then◌else◌, List, [], ◌∷◌, length, codes, Result, Ok, Err}
use Rattle.std.specs.Str.{bytes_eq}
use Rattle.cmd_words.specs.declared.commands.Command.{Command}
use Rattle.cmd_words.specs.declared.commands.Command.TheVariants.{New, Set, Get, Place, Lift, ColumnConfig, RowConfig, Link, Unlink, Bind, Unbind, OpenWindow, CloseWindow, TopWindow, Mode, Admit, Leave, SendFrame, DropWidget, Poll}
use Rattle.cmd_words.specs.declared.methods.Method.{Method}
use Rattle.cmd_words.specs.declared.methods.Method.TheVariants as method
use Rattle.cmd_text.specs.Reading.{◌>>=◌, expect_at, skip_at, skip_some_at, begins_with, name_at, count_at, number_at}
use Rattle.cmd_text.specs.ReadingWords.{kind_at, attr_at, event_at, method_at}
use Rattle.cmd_text.specs.ReadingOptions.{sopt_at, popt_at, copt_at, options_at}

-- a byte of a list, with the spaces before and after it
unfoldable pub open_at : List ℕ → Result (List ℕ) ℕ
open_at xs = expect_at (codes "(") (skip_at xs) >>= λ rest. Ok (skip_at rest)

unfoldable pub comma_at : List ℕ → Result (List ℕ) ℕ
comma_at xs = expect_at (codes ",") (skip_at xs) >>= λ rest. Ok (skip_at rest)

-- c at the end of the line
abbrev pub nothing_at : {A : Type 0} → A → List ℕ → Result A ℕ
nothing_at c [] = Ok c
nothing_at c (x ∷ xs) = Err (length (x ∷ xs))

-- nothing but spaces up to the end, then c
unfoldable pub end_at : {A : Type 0} → A → List ℕ → Result A ℕ
end_at c xs = nothing_at c (skip_at xs)

-- `)` and the end of the line, then c
unfoldable pub finish_at : Command → List ℕ → Result Command ℕ
finish_at c xs = expect_at (codes ")") xs >>= end_at c

-- the same with spaces before it
unfoldable pub close_at : Command → List ℕ → Result Command ℕ
close_at c xs = finish_at c (skip_at xs)

unfoldable pub place_rest_at : List ℕ → List ℕ → List ℕ → Result Command ℕ
place_rest_at n c xs =
    if begins_with (λ b. b == 44) xs
    then (expect_at (codes ",") xs >>= λ rest. options_at popt_at (skip_at rest) >>= λ os. finish_at (Place n c os.0) os.1)
    else finish_at (Place n c []) xs

-- what is between a method's `(` and the end
unfoldable pub arguments_at : List ℕ → Method → List ℕ → Result Command ℕ
arguments_at n method.Set xs = options_at sopt_at xs >>= λ os. finish_at (Set n os.0) os.1
arguments_at n method.Get xs = attr_at xs >>= λ a. close_at (Get n a.0) a.1
arguments_at n method.Place xs = name_at xs >>= λ c. place_rest_at n c.0 (skip_at c.1)
arguments_at n method.Lift xs = name_at xs >>= λ c. close_at (Lift n c.0) c.1
arguments_at n method.ColumnConfig xs = number_at xs >>= λ i. comma_at i.1 >>= λ rest. options_at copt_at rest >>= λ os. finish_at (ColumnConfig n i.0 os.0) os.1
arguments_at n method.RowConfig xs = number_at xs >>= λ i. comma_at i.1 >>= λ rest. options_at copt_at rest >>= λ os. finish_at (RowConfig n i.0 os.0) os.1
arguments_at n method.Link xs = name_at xs >>= λ v. close_at (Link n v.0) v.1
arguments_at n method.Unlink xs = finish_at (Unlink n) xs
arguments_at n method.Bind xs = event_at xs >>= λ e. comma_at e.1 >>= λ rest. name_at rest >>= λ t. close_at (Bind n e.0 t.0) t.1
arguments_at n method.Unbind xs = event_at xs >>= λ e. close_at (Unbind n e.0) e.1
arguments_at n method.Open xs = finish_at (OpenWindow n) xs
arguments_at n method.Close xs = finish_at (CloseWindow n) xs
arguments_at n method.Top xs = finish_at (TopWindow n) xs
arguments_at n method.Mode xs = number_at xs >>= λ w. comma_at w.1 >>= λ rest. number_at rest >>= λ h. close_at (Mode n w.0 h.0) h.1
arguments_at n method.Admit xs = number_at xs >>= λ p. close_at (Admit n p.0) p.1
arguments_at n method.Leave xs = finish_at (Leave n) xs
arguments_at n method.Frame xs = count_at xs >>= λ s. close_at (SendFrame n s.0) s.1
arguments_at n method.Drop xs = finish_at (DropWidget n) xs

unfoldable pub called_at : List ℕ → List ℕ → Result Command ℕ
called_at n xs = method_at (skip_at xs) >>= λ m. open_at m.1 >>= λ rest. arguments_at n m.0 rest

unfoldable pub made_at : List ℕ → List ℕ → Result Command ℕ
made_at n xs = expect_at (codes "new") (skip_at xs) >>= λ rest. skip_some_at rest >>= λ rest. kind_at rest >>= λ k. open_at k.1 >>= λ rest. finish_at (New n k.0) rest

-- what is after the first name and its spaces
unfoldable pub body_at : List ℕ → List ℕ → Result Command ℕ
body_at n xs =
    if begins_with (λ b. b == 61) xs
    then (expect_at (codes "=") xs >>= λ rest. made_at n rest)
    else (if bytes_eq n (codes "poll") && begins_with (λ b. b == 40) xs
    then (expect_at (codes "(") xs >>= λ rest. finish_at Poll (skip_at rest))
    else (expect_at (codes ".") xs >>= λ rest. called_at n rest))

unfoldable pub line_at : List ℕ → Result Command ℕ
line_at xs = name_at (skip_at xs) >>= λ n. body_at n.0 (skip_at n.1)

-- the front of a frame line
unfoldable pub frame_front_at : List ℕ → Result (Unit {0}) ℕ
frame_front_at xs = name_at (skip_at xs) >>= λ n. expect_at (codes ".") (skip_at n.1) >>= λ rest. expect_at (codes "frame") (skip_at rest) >>= λ rest. expect_at (codes "(") (skip_at rest) >>= λ _. Ok tt
