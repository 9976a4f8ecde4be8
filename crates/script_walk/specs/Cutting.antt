-- Inner words of the proofs: how a walk ends that was cut off at a line, or was not.
use Rattle.std.specs.Prelude.{Result, Ok, Err}
use Rattle.script_walk.specs.declared.cut.Cut.{Cut}
use Rattle.script_walk.specs.declared.cut.Cut.TheVariants.{Unread, Unwritten}
use Rattle.script_walk.specs.declared.end.End.{End}
use Rattle.script_walk.specs.declared.end.End.TheVariants.{Done, WriteFault, BadLine}

abbrev pub end_of : Cut → End
end_of (Unread line) = BadLine line
end_of Unwritten = WriteFault

abbrev pub ending : {T : Type 0} → Result T Cut → End
ending (Ok x) = Done
ending (Err cut) = end_of cut
