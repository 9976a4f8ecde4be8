-- the clients that were looked at are others
use Rattle.std.proofs.Common.{◌≡◌, ℕ, ◌<◌, get_or}
use Rattle.desk_core.specs.declared.member.Member.{Member}
use Rattle.desk_core.proofs.clients.index_of.Given as goal

abbrev pub invariant-loop-index : goal.invariant-loop-index
invariant-loop-index l = (k : ℕ) (d : Member) → k < l.index → (get_or l.members k d).client ≡ l.client → ⊥
