-- How each status ends the program: its exit status and its line on standard error.
use Rattle.std.specs.Prelude.{ℕ, List, [], ◌++◌, codes, decimal}
use Rattle.dope_run.specs.declared.status.Status.{Status}
use Rattle.dope_run.specs.declared.status.Status.TheVariants.{Done, ReadFault, WriteFault, Usage, BadScript, NoMemory, TooMuch}

unfoldable pub exit_of : Status → ℕ
exit_of Done = 0
exit_of ReadFault = 1
exit_of WriteFault = 2
exit_of Usage = 3
exit_of (BadScript line) = 4
exit_of NoMemory = 5
exit_of TooMuch = 6

unfoldable pub message_of : Status → List ℕ
message_of Done = []
message_of ReadFault = codes "dope: read fault\n"
message_of WriteFault = codes "dope: write fault\n"
message_of Usage = codes "dope: usage\n"
message_of (BadScript line) = codes "dope: bad script at line " ++ decimal line ++ codes "\n"
message_of NoMemory = codes "dope: no memory\n"
message_of TooMuch = codes "dope: script too long\n"
