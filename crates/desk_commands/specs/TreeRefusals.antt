-- Inner words of the proofs: How a client is told what the tree of widgets refuses.
use Rattle.cmd_words.specs.declared.replies.Refusal.{Refusal}
use Rattle.cmd_words.specs.declared.replies.Refusal.TheVariants.{Memory, NameTaken, WrongKind, Full, HasParent, Cycle, TooDeep, CellTaken}
use Rattle.tree_core.specs.declared.refusal.AddRefusal.{AddRefusal}
use Rattle.tree_core.specs.declared.refusal.AddRefusal.TheVariants as add
use Rattle.tree_core.specs.declared.refusal.AttachRefusal.{AttachRefusal}
use Rattle.tree_core.specs.declared.refusal.AttachRefusal.TheVariants as attach

abbrev pub refusal_of_add : AddRefusal → Refusal
refusal_of_add add.NameTaken = NameTaken
refusal_of_add (add.Full limit) = Full limit
refusal_of_add add.NoMemory = Memory

abbrev pub refusal_of_attach : AttachRefusal → Refusal
refusal_of_attach attach.WrongKind = WrongKind
refusal_of_attach attach.HasParent = HasParent
refusal_of_attach attach.Cycle = Cycle
refusal_of_attach attach.TooDeep = TooDeep
refusal_of_attach attach.CellTaken = CellTaken
