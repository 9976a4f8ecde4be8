-- An order that was carried out is one that was performed, as the walk has it; and a walk from opening on is a run.
use Rattle.std.proofs.Common.{◌≡◌, ℕ, Result, Ok, Err, MatchResult, List, length, Option, subst}
use Rattle.kind_core.specs.declared.shapes.Shape.{Shape}
use Rattle.machine_model.specs.State.{State, IsState, opening}
use Rattle.machine_model.proofs.Runs.{KeepsLaws-run}
use Rattle.script_lines.specs.declared.order.Order.{Order}
use Rattle.script_lines.specs.Lines.{asks}
use Rattle.script_lines.specs.Payloads.{payload_of}
use Rattle.script_walk.specs.declared.end.End.{End}
use Rattle.script_walk.specs.declared.end.End.TheVariants.{Done, ReadFault, WriteFault, BadLine, TooMuch}
use Rattle.script_walk.specs.Framing.{Item, IsItem}
use Rattle.script_walk.specs.Performing.{Performed}
use Rattle.script_walk.proofs.Keeping.{Wants-order}
use Rattle.script_walk.specs.Walked.{Walked}
use Rattle.dope_run.specs.declared.status.Status.{Status}
use Rattle.dope_run.specs.Lawfully.{run_of_plays}
use Rattle.dope_run.specs.Transcript.{Ended, IsRefused, status_of}
use Rattle.dope_run.specs.Script.{events_of_order}
use Rattle.dope_run.specs.Playing.{playing}
use Rattle.dope_run.specs.Obeying.{At, Obeyed, wrote}

performed : (end : End) (order : Order) (item : Item) (old new : At) → Obeyed end (events_of_order order item.payload) old new → Performed playing end old.state order item new.state old.out new.out
performed end order item old new obeyed = record {
  moments = obeyed.moments;
  runs = record { events = obeyed.answers; run = obeyed.run };
  says = obeyed.says;
  leaves = obeyed.leaves;
}

-- by how the writing went
pub performed_by_writing : {T E : Type 0} (result : Result T E) (order : Order) (item : Item) (old new : At) → Obeyed (wrote result) (events_of_order order item.payload) old new → MatchResult result (λ _. Performed playing Done old.state order item new.state old.out new.out) (λ _. Performed playing WriteFault old.state order item new.state old.out new.out)
performed_by_writing (Ok x) order item old new obeyed = performed Done order item old new obeyed
performed_by_writing (Err e) order item old new obeyed = performed WriteFault order item old new obeyed

-- as many raw bytes come with an item as its order has
pub payload_size : (item : Item) (order : Order) → IsItem item → asks item.line order → length item.payload ≡ payload_of order
payload_size item order is asked = Wants-order item.line (length item.payload) order asked is.payload

-- a walk from opening on keeps the laws
pub ended : (shape : Shape) (status : Status) (end : End) (from now : State) (s0 s1 k0 k1 : Option (List ℕ)) → from ≡ opening shape → IsState from → status ≡ status_of end → Walked playing end from now s0 s1 k0 k1 → Ended shape status s0 s1 k0 k1 now
ended shape status end from now s0 s1 k0 k1 opens valid is first =
    let walked : Walked playing end (opening shape) now s0 s1 k0 k1 = subst (λ s. Walked playing end s now s0 s1 k0 k1) opens first in
    let run = run_of_plays (opening shape) walked.items walked.moments walked.plays in
    record {
      end = end;
      ended = is;
      walked = walked;
      run = run;
      laws = KeepsLaws-run (opening shape) walked.moments (subst IsState opens valid) run;
    }

-- and wasn't refused
not_refused_end : (end : End) → IsRefused (status_of end) → ⊥
not_refused_end Done refused = refused
not_refused_end ReadFault refused = refused
not_refused_end WriteFault refused = refused
not_refused_end (BadLine line) refused = refused
not_refused_end TooMuch refused = refused

pub not_refused : (status : Status) (end : End) → status ≡ status_of end → IsRefused status → ⊥
not_refused status end is refused = not_refused_end end (subst IsRefused is refused)
