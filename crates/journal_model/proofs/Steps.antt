-- Each step of the machine has a legal answer.
use Rattle.std.proofs.Common.{◌≡◌, ◌+◌, ◌-◌, min, Bool, true, refl, sym, ap, ◌∙◌, subst, arith}
use Rattle.std.proofs.lemmas.Bool.{false≢true}
use Rattle.cmd_words.specs.declared.inputs.Drew.{Drew}
use Rattle.cmd_words.specs.declared.replies.Reply.{Reply}
use Rattle.desk_model.specs.Desk.{Desk}
use Rattle.desk_model.specs.Refusals.{is_memory}
use Rattle.desk_model.specs.Feeding.{step_feed}
use Rattle.desk_model.specs.Beat.{beat, band_count}
use Rattle.machine_model.specs.State.{State, IsState, dirty_count}
use Rattle.machine_model.specs.Events.{Event, Answer}
use Rattle.machine_model.specs.Events.Event.{Connect, Hello, Bye, Ask, Feed, Misread, Tick, CountDirty, LookAt, Dump}
use Rattle.machine_model.specs.Events.Answer.{Replied, Drawn, Counted, Seen, Dumped}
use Rattle.machine_model.specs.Step.{Step, Changed, Answered, Ticked}
use Rattle.machine_model.proofs.Steps.{shape-step_connect, shape-step_hello, shape-step_bye, shape-step_command, shape-step_feed}
use Rattle.journal_model.specs.Journals.{Point, desk_step, changed_to, reach_size, is_kept, is_call, IsLegalTick, IsLegalAnswer, answered, Allows}
use Rattle.journal_model.proofs.DirtGrows.{dirty-changed}

-- a change of the desk
allows-changed : (point : Point) (old : State) (next : Desk) (new : State) → IsState old → Allows point old → next.shape ≡ old.desk.shape → Changed old next new → Allows (changed_to point next) new
allows-changed point old next new is allowed same ch =
    let grown = dirty-changed old next new is same ch in
    let size : reach_size old.desk next ≡ reach_size point.desk next = ap (λ d. reach_size d next) allowed.desk in
    record {
      desk = ch.desk;
      least = omega (arith, grown.0, allowed.least);
      most = omega (arith, grown.1, allowed.most, size);
    }

-- a reply of the desk
legal-reply : (point : Point) (old : State) (event : Event) (reply : Reply) (new : State) → IsState old → Allows point old → is_call event ≡ true → ((short : Bool) → (desk_step old.desk event short).1.shape ≡ old.desk.shape) → Answered old (desk_step old.desk event) reply new → IsLegalAnswer point event (Replied reply) × Allows (answered point event (Replied reply)) new
legal-reply point old event reply new is allowed call same so =
    let stepped : Desk → Reply × Desk = λ d. desk_step d event (is_memory reply) in
    let next : (stepped old.desk).1 ≡ (stepped point.desk).1 = ap (λ d. (stepped d).1) allowed.desk in (
      (call, so.reply_is ∙ ap (λ d. (stepped d).0) allowed.desk),
      subst (λ d. Allows (changed_to point d) new) next (allows-changed point old (stepped old.desk).1 new is allowed (same (is_memory reply)) so.change),
    )

-- a tick
legal-tick : (point : Point) (old : State) (drew : Drew) (new : State) → Allows point old → Ticked old drew new → IsLegalTick point drew × Allows (answered point Tick (Drawn drew)) new
legal-tick point old drew new allowed t =
    let beaten : new.desk ≡ beat point.desk = t.desk ∙ ap beat allowed.desk in
    let budget : old.desk.shape.budget ≡ point.desk.shape.budget = ap (λ (d : Desk). d.shape.budget) allowed.desk in
    let whole : drew.queue + drew.left ≡ dirty_count old = omega (arith, t.cleaned, t.left) in (
      record {
        bands = t.bands ∙ ap band_count beaten;
        queue = t.queue ∙ ap (λ n. min n (old.desk.shape.budget - drew.bands)) (sym whole) ∙ ap (λ b. min (drew.queue + drew.left) (b - drew.bands)) budget;
        least = omega (arith, whole, allowed.least);
        most = omega (arith, whole, allowed.most);
      },
      record { desk = beaten; least = omega (arith, t.left); most = omega (arith, t.left) },
    )

pub legal-step : (point : Point) (old : State) (event : Event) (answer : Answer) (new : State) → IsState old → Allows point old → is_kept event ≡ true → Step old event answer new → IsLegalAnswer point event answer × Allows (answered point event answer) new
legal-step point old (Connect client) (Replied reply) new is allowed kept s =
    legal-reply point old (Connect client) reply new is allowed refl (shape-step_connect old.desk client) s.1
legal-step point old Hello (Replied reply) new is allowed kept s =
    legal-reply point old Hello reply new is allowed refl (shape-step_hello old.desk) s
legal-step point old (Bye client) (Replied reply) new is allowed kept s =
    legal-reply point old (Bye client) reply new is allowed refl (λ short. shape-step_bye old.desk client) s
legal-step point old (Ask client command payload) (Replied reply) new is allowed kept s =
    legal-reply point old (Ask client command payload) reply new is allowed refl (shape-step_command old.desk client command payload) s
legal-step point old (Feed input) (Replied reply) new is allowed kept s =
    let changed = allows-changed point old (step_feed old.desk input) new is allowed (shape-step_feed old.desk input) s.1 in
    ((refl, s.0), subst (λ d. Allows (changed_to point (step_feed d input)) new) allowed.desk changed)
legal-step point old Tick (Drawn drew) new is allowed kept s =
    let t = legal-tick point old drew new allowed s in
    ((refl, t.0), t.1)
legal-step point old (Connect client) (Drawn drew) new is allowed kept s = elim s [ ]
legal-step point old (Connect client) (Counted n) new is allowed kept s = elim s [ ]
legal-step point old (Connect client) (Seen byte) new is allowed kept s = elim s [ ]
legal-step point old (Connect client) (Dumped bytes) new is allowed kept s = elim s [ ]
legal-step point old Hello (Drawn drew) new is allowed kept s = elim s [ ]
legal-step point old Hello (Counted n) new is allowed kept s = elim s [ ]
legal-step point old Hello (Seen byte) new is allowed kept s = elim s [ ]
legal-step point old Hello (Dumped bytes) new is allowed kept s = elim s [ ]
legal-step point old (Bye client) (Drawn drew) new is allowed kept s = elim s [ ]
legal-step point old (Bye client) (Counted n) new is allowed kept s = elim s [ ]
legal-step point old (Bye client) (Seen byte) new is allowed kept s = elim s [ ]
legal-step point old (Bye client) (Dumped bytes) new is allowed kept s = elim s [ ]
legal-step point old (Ask client command payload) (Drawn drew) new is allowed kept s = elim s [ ]
legal-step point old (Ask client command payload) (Counted n) new is allowed kept s = elim s [ ]
legal-step point old (Ask client command payload) (Seen byte) new is allowed kept s = elim s [ ]
legal-step point old (Ask client command payload) (Dumped bytes) new is allowed kept s = elim s [ ]
legal-step point old (Feed input) (Drawn drew) new is allowed kept s = elim s [ ]
legal-step point old (Feed input) (Counted n) new is allowed kept s = elim s [ ]
legal-step point old (Feed input) (Seen byte) new is allowed kept s = elim s [ ]
legal-step point old (Feed input) (Dumped bytes) new is allowed kept s = elim s [ ]
legal-step point old Tick (Replied reply) new is allowed kept s = elim s [ ]
legal-step point old Tick (Counted n) new is allowed kept s = elim s [ ]
legal-step point old Tick (Seen byte) new is allowed kept s = elim s [ ]
legal-step point old Tick (Dumped bytes) new is allowed kept s = elim s [ ]
legal-step point old (Misread client place) answer new is allowed kept s = absurd (false≢true kept)
legal-step point old CountDirty answer new is allowed kept s = absurd (false≢true kept)
legal-step point old (LookAt x y) answer new is allowed kept s = absurd (false≢true kept)
legal-step point old Dump answer new is allowed kept s = absurd (false≢true kept)
