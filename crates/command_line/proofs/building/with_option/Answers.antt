use Rattle.std.proofs.Common.{rules, ◌≡◌, ◌∙◌, ◌||◌, ap, false, true, Bool, refl}
use Rattle.std.proofs.lemmas.Result.{IfOk-weaker}
use Rattle.clap.specs.declared.builder.command.Command.TheViews.{out-Command as fields_of}
use Rattle.command_line.proofs.building.with_option.Goals as goal

or_nothing : (b : Bool) → (b || false) ≡ b
or_nothing true = refl
or_nothing false = refl

pub returns-clause-local : goal.returns-clause-local
returns-clause-local c =
    let local : c.required-required.result.global ≡ false = search rules in
    IfOk-weaker c.arg.result _ _ (λ r h. h.globals ∙ ap (λ b. (fields_of c.args.command).has_globals || b) local ∙ or_nothing _) c.arg.ensures
