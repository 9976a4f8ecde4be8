-- The command grammar: which line stands for which command.
use Rattle.std.specs.Prelude.{ℕ, ◌≤◌, List, [], ◌++◌, length, take}
use Rattle.cmd_words.specs.declared.commands.Command.{Command}
use Rattle.cmd_words.specs.declared.commands.Command.TheVariants.{New, Set, Get, Place, Lift, ColumnConfig, RowConfig, Link, Unlink, Bind, Unbind, OpenWindow, CloseWindow, TopWindow, Mode, Admit, Leave, SendFrame, DropWidget, Poll}
use Rattle.cmd_words.specs.declared.methods.Method.{Method}
use Rattle.cmd_words.specs.declared.methods.Method.TheVariants as method
use Rattle.cmd_words.specs.Language.{Language, ◌▹◌, ◌▸◌, ◌⊕◌, any, stands_for, word}
use Rattle.cmd_words.specs.Productions.{sp, sp1, name, number, count, kind, attr, event, sopt, popt, copt, options}

-- `(` and `)` with the spaces round them: sp "(" sp, and sp ")"
abbrev pub opens : Language Command → Language Command
opens rest = sp ▹ word "(" ▹ sp ▹ rest

abbrev pub closes : Language Command → Language Command
closes rest = sp ▹ word ")" ▹ rest

-- sp "(" sp ")"
abbrev pub empty : Language Command → Language Command
empty rest = opens (word ")" ▹ rest)

-- sp "," sp
abbrev pub comma : Language Command → Language Command
comma rest = sp ▹ word "," ▹ sp ▹ rest

-- call: what may follow a widget's name n and the dot. `end c` is what follows the whole call.
abbrev pub call : (Command → Language Command) → List ℕ → Method → Language Command
call end n method.Set = word "set" ▹ opens (options sopt (λ os. closes (end (Set n os))))
call end n method.Get = word "get" ▹ opens (attr ▸ λ a. closes (end (Get n a)))
call end n method.Place = word "place" ▹ opens (name ▸ λ c. comma (options popt (λ os. closes (end (Place n c os)))) ⊕ closes (end (Place n c [])))
call end n method.Lift = word "lift" ▹ opens (name ▸ λ c. closes (end (Lift n c)))
call end n method.ColumnConfig = word "columnconfig" ▹ opens (number ▸ λ i. comma (options copt (λ os. closes (end (ColumnConfig n i os)))))
call end n method.RowConfig = word "rowconfig" ▹ opens (number ▸ λ i. comma (options copt (λ os. closes (end (RowConfig n i os)))))
call end n method.Link = word "link" ▹ opens (name ▸ λ v. closes (end (Link n v)))
call end n method.Unlink = word "unlink" ▹ empty (end (Unlink n))
call end n method.Bind = word "bind" ▹ opens (event ▸ λ e. comma (name ▸ λ t. closes (end (Bind n e t))))
call end n method.Unbind = word "unbind" ▹ opens (event ▸ λ e. closes (end (Unbind n e)))
call end n method.Open = word "open" ▹ empty (end (OpenWindow n))
call end n method.Close = word "close" ▹ empty (end (CloseWindow n))
call end n method.Top = word "top" ▹ empty (end (TopWindow n))
call end n method.Mode = word "mode" ▹ opens (number ▸ λ w. comma (number ▸ λ h. closes (end (Mode n w h))))
call end n method.Admit = word "admit" ▹ opens (number ▸ λ p. closes (end (Admit n p)))
call end n method.Leave = word "leave" ▹ empty (end (Leave n))
call end n method.Frame = word "frame" ▹ opens (count ▸ λ s. closes (end (SendFrame n s)))
call end n method.Drop = word "drop" ▹ empty (end (DropWidget n))

-- body: a widget is made, the client asks for an event, or a widget is called
abbrev pub body : (Command → Language Command) → Language Command
body end =
    (name ▸ λ n. sp ▹ word "=" ▹ sp ▹ word "new" ▹ sp1 ▹ kind ▸ λ k. empty (end (New n k)))
    ⊕ (word "poll" ▹ empty (end Poll))
    ⊕ (name ▸ λ n. sp ▹ word "." ▹ sp ▹ any (call end n))

-- line: sp body sp
unfoldable pub command_line : Language Command
command_line = sp ▹ body (λ c. sp ▹ stands_for c)

-- the bytes are the front of some line
abbrev pub Begins : List ℕ → Type 0
Begins u = (more : List ℕ) × (c : Command) × command_line (u ++ more) c

-- p is how many bytes the longest front of xs has that is the front of some line
pub record IsPlace (xs : List ℕ) (p : ℕ) : Type 0 where
  pub within : p ≤ length xs
  pub begins : Begins (take p xs)
  pub longest : (q : ℕ) → q ≤ length xs → Begins (take q xs) → q ≤ p
