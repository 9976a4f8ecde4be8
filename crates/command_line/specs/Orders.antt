-- What a command with its numbers orders.
use Rattle.std.specs.Prelude.{◌≤◌, ℕ, List, [], ◌∷◌, Option, Some, None, option_map, option_and_then, codes, bytes_eq, nat_le, if◌then◌else◌}
use Rattle.clap.specs.Words.{Text}
use Rattle.kind_core.specs.declared.shapes.Shape.{Shape}
use Rattle.scene_model.specs.Shapes.{IsShape}
use Rattle.command_line.specs.declared.order.Order.{Order}
use Rattle.command_line.specs.declared.order.Order.TheVariants.{Play, Gen, Serve, Stream, View, Record, Check, Render}
use Rattle.command_line.specs.Table.{dope_verbs}
use Rattle.command_line.specs.Matched.{Called, called}

-- A shape is four numbers, of which the spare is at most the budget.
abbrev pub shape_of : List ℕ → Option Shape
shape_of (w ∷ h ∷ b ∷ s ∷ []) = if nat_le s b then Some (record { width = w; height = h; budget = b; spare = s }) else None
shape_of _ = None

abbrev pub gen_of : List ℕ → Option Order
gen_of (number ∷ rounds ∷ []) = Some (Gen number rounds)
gen_of _ = None

abbrev pub serve_of : List ℕ → Option Order
serve_of (port ∷ sessions ∷ rest) = option_map (λ shape. Serve port sessions shape) (shape_of rest)
serve_of _ = None

abbrev pub render_of : List ℕ → Option Order
render_of (workers ∷ rest) = option_map (λ shape. Render workers shape) (shape_of rest)
render_of [] = None

abbrev pub order_of : Called → Option Order
order_of call = if bytes_eq call.name (codes "play") then option_map (λ s. Play s) (shape_of call.numbers)
    else if bytes_eq call.name (codes "gen") then gen_of call.numbers
    else if bytes_eq call.name (codes "serve") then serve_of call.numbers
    else if bytes_eq call.name (codes "stream") then option_map (λ s. Stream s) (shape_of call.numbers)
    else if bytes_eq call.name (codes "view") then Some View
    else if bytes_eq call.name (codes "record") then option_map (λ s. Record s) (shape_of call.numbers)
    else if bytes_eq call.name (codes "check") then Some Check
    else if bytes_eq call.name (codes "render") then render_of call.numbers else None

-- The order that `clap`'s matches on these words are; None where they have no number in its range for an option, or the
-- spare is above the budget.
abbrev pub ordered : List Text → Option Order
ordered words = option_and_then order_of (called dope_verbs words)

-- The numbers of an order are in their ranges.
abbrev pub IsOrder : Order → Type 0
IsOrder (Play shape) = IsShape shape
IsOrder (Gen number rounds) = (number ≤ 1000000) × (rounds ≤ 2000)
IsOrder (Serve port sessions shape) = (1024 ≤ port) × (port ≤ 65535) × (1 ≤ sessions) × (sessions ≤ 64) × IsShape shape
IsOrder (Stream shape) = IsShape shape
IsOrder View = Unit {0}
IsOrder (Record shape) = IsShape shape
IsOrder Check = Unit {0}
IsOrder (Render workers shape) = (1 ≤ workers) × (workers ≤ 16) × IsShape shape
