use Rattle.std.proofs.Common.{◌≡◌, ℤ, false, Some, Option, sym, ap, subst, ◌∙◌, w32, SFits, rules}
use Rattle.std.proofs.lemmas.Int.{to_z-of_z}
use Rattle.std.specs.Option.{option_map, option_map_or}
use Rattle.kind_core.specs.declared.kinds.Attr.TheVariants.{Value}
use Rattle.kind_core.specs.declared.values.Value.TheVariants.{Number}
use Rattle.widget_model.specs.Keys.{row_of}
use Rattle.widget_model.specs.Rows.{Row}
use Rattle.widget_model.specs.Widgets.{IsLive, rows_of, row_at}
use Rattle.tree_core.specs.declared.id.Id.{Id}
use Rattle.std.specs.Prelude.{IfSome}
use Rattle.input_core.specs.Seen.{key_seen}
use Rattle.desk_moves.specs.Stays.{value_moves}
use Rattle.desk_inputs.proofs.StillInputs.{given-read}
use Rattle.desk_inputs.proofs.moving.given_moves.Goals as goal

pub returns-in-Some : goal.returns-in-Some
returns-in-Some c =
    let w = c.args.tree.now in
    let n : SFits w32 c.in-Some.number = search rules in
    let live : IsLive w c.in-Some.id.key = subst (λ (o : Option (Id × ℤ)). IfSome o (λ set. IsLive w set.0.key)) c.in-Some.is c.requires.live in
    let read : option_map (λ (row : Row). value_moves (rows_of w) row Value (Number c.in-Some.number)) (row_at w.entries c.in-Some.id.key) ≡ Some c.value_moves.result =
    subst (λ (z : ℤ). option_map (λ (row : Row). value_moves (rows_of w) row Value (Number z)) (row_at w.entries c.in-Some.id.key) ≡ Some c.value_moves.result) (to_z-of_z w32 c.in-Some.number n) c.value_moves.ensures.moves in
    given-read w c.in-Some.id Value (Number c.in-Some.number) c.value_moves.result c.value_moves.ensures.valid live read
    ∙ sym (ap (λ (o : Option (Id × ℤ)). option_map_or (λ (set : Id × ℤ). option_map_or (λ (row : Row). value_moves (rows_of w) row Value (Number set.1)) (row_of (rows_of w) (key_seen w.entries set.0)) false) o false) c.in-Some.is)
