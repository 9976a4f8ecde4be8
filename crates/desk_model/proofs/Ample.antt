-- Where there is memory, no step answers that there is none.
use Rattle.std.proofs.Common.{◌≡◌, ℕ, false, List}
use Rattle.cmd_words.specs.declared.commands.Command.{Command}
use Rattle.desk_model.specs.Desk.{Desk}
use Rattle.desk_model.specs.Refusals.{is_memory}
use Rattle.desk_model.specs.Clients.{step_connect, step_hello, step_bye}
use Rattle.desk_model.specs.Commands.{step}
use Rattle.desk_model.proofs.Outcomes.{ends-asked, ends-connect, ends-hello, ends-bye, ample-end}

pub ample-command : (desk : Desk) (client : ℕ) (command : Command) (payload : List ℕ) → is_memory (step desk client command payload false).0 ≡ false
unfolding step
ample-command desk client command payload = ample-end desk _ (ends-asked desk client command payload false)

pub ample-connect : (desk : Desk) (client : ℕ) → is_memory (step_connect desk client false).0 ≡ false
unfolding step_connect
ample-connect desk client = ample-end desk _ (ends-connect desk client false)

pub ample-hello : (desk : Desk) → is_memory (step_hello desk false).0 ≡ false
unfolding step_hello
ample-hello desk = ample-end desk _ (ends-hello desk false)

pub ample-bye : (desk : Desk) (client : ℕ) → is_memory (step_bye desk client).0 ≡ false
unfolding step_bye
ample-bye desk client = ample-end desk _ (ends-bye desk client false)
