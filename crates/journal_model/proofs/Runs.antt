-- The journals of runs are legal; journals join and part.
use Rattle.std.proofs.Common.{◌≡◌, Bool, true, false, cond, List, [], ◌∷◌, ◌++◌, refl, sym, subst, arith}
use Rattle.std.proofs.lemmas.Bool.{true≢false}
use Rattle.kind_core.specs.declared.shapes.Shape.{Shape}
use Rattle.scene_model.specs.Shapes.{IsShape}
use Rattle.machine_model.specs.State.{State, IsState, opening}
use Rattle.machine_model.specs.Events.{Event, Answer}
use Rattle.machine_model.specs.Events.Event.{Connect, Hello, Bye, Ask, Feed, Misread, Tick, CountDirty, LookAt, Dump}
use Rattle.machine_model.specs.Events.Answer.{Replied, Drawn, Counted, Seen, Dumped}
use Rattle.machine_model.specs.Step.{Step}
use Rattle.machine_model.specs.Run.{Moment, Run, state_after}
use Rattle.machine_model.proofs.Opening.{IsState-opening, dirty_count-opening}
use Rattle.machine_model.proofs.Steps.{IsState-step}
use Rattle.journal_model.specs.Journals.{Entry, Point, opening_point, is_kept, journal_of, IsLegalFrom, IsLegal, answered, replay, Allows}
use Rattle.journal_model.proofs.Steps.{legal-step}

pub join : (point : Point) (first second : List Entry) → IsLegalFrom point first → IsLegalFrom (replay point first) second → IsLegalFrom point (first ++ second) × (replay point (first ++ second) ≡ replay (replay point first) second)
join point [] second here there = (there, refl)
join point (entry ∷ first) second here there =
    let rest = join (answered point entry.event entry.answer) first second here.1 there in
    ((here.0, rest.0), rest.1)

pub parts : (point : Point) (first second : List Entry) → IsLegalFrom point (first ++ second) → IsLegalFrom point first × IsLegalFrom (replay point first) second
parts point [] second whole = (tt, whole)
parts point (entry ∷ first) second whole =
    let rest = parts (answered point entry.event entry.answer) first second whole.1 in
    ((whole.0, rest.0), rest.1)

-- what only asks for the screen leaves the state
same-unkept : (old : State) (event : Event) (answer : Answer) (new : State) → is_kept event ≡ false → Step old event answer new → new ≡ old
same-unkept old (Misread client place) (Replied reply) new unkept s = s.0
same-unkept old (Misread client place) (Drawn drew) new unkept s = elim s [ ]
same-unkept old (Misread client place) (Counted n) new unkept s = elim s [ ]
same-unkept old (Misread client place) (Seen byte) new unkept s = elim s [ ]
same-unkept old (Misread client place) (Dumped bytes) new unkept s = elim s [ ]
same-unkept old CountDirty (Replied reply) new unkept s = elim s [ ]
same-unkept old CountDirty (Drawn drew) new unkept s = elim s [ ]
same-unkept old CountDirty (Counted n) new unkept s = s.0
same-unkept old CountDirty (Seen byte) new unkept s = elim s [ ]
same-unkept old CountDirty (Dumped bytes) new unkept s = elim s [ ]
same-unkept old (LookAt x y) (Replied reply) new unkept s = elim s [ ]
same-unkept old (LookAt x y) (Drawn drew) new unkept s = elim s [ ]
same-unkept old (LookAt x y) (Counted n) new unkept s = elim s [ ]
same-unkept old (LookAt x y) (Seen byte) new unkept s = s.0
same-unkept old (LookAt x y) (Dumped bytes) new unkept s = elim s [ ]
same-unkept old Dump (Replied reply) new unkept s = elim s [ ]
same-unkept old Dump (Drawn drew) new unkept s = elim s [ ]
same-unkept old Dump (Counted n) new unkept s = elim s [ ]
same-unkept old Dump (Seen byte) new unkept s = elim s [ ]
same-unkept old Dump (Dumped bytes) new unkept s = s.0
same-unkept old (Connect client) answer new unkept s = absurd (true≢false unkept)
same-unkept old Hello answer new unkept s = absurd (true≢false unkept)
same-unkept old (Bye client) answer new unkept s = absurd (true≢false unkept)
same-unkept old (Ask client command payload) answer new unkept s = absurd (true≢false unkept)
same-unkept old (Feed input) answer new unkept s = absurd (true≢false unkept)
same-unkept old Tick answer new unkept s = absurd (true≢false unkept)

-- from any state that the point allows
pub legal-run : (point : Point) (from : State) (moments : List Moment) → IsState from → Allows point from → Run from moments → IsLegalFrom point (journal_of moments) × Allows (replay point (journal_of moments)) (state_after from moments)
legal-run point from [] is allowed run = (tt, allowed)
legal-run point from (m ∷ moments) is allowed run =
    by (λ next later. legal-run next m.after moments (IsState-step from m.event m.answer m.after is run.0) later run.1) (is_kept m.event) refl
  where
    by : ((next : Point) → Allows next m.after → IsLegalFrom next (journal_of moments) × Allows (replay next (journal_of moments)) (state_after m.after moments)) → (kept : Bool) → is_kept m.event ≡ kept → IsLegalFrom point (cond kept (record { event = m.event; answer = m.answer } ∷ journal_of moments) (journal_of moments)) × Allows (replay point (cond kept (record { event = m.event; answer = m.answer } ∷ journal_of moments) (journal_of moments))) (state_after m.after moments)
    by rest true kept =
        let here = legal-step point from m.event m.answer m.after is allowed kept run.0 in
        let then = rest (answered point m.event m.answer) here.1 in
        ((here.0, then.0), then.1)
    by rest false unkept =
        rest point (subst (Allows point) (sym (same-unkept from m.event m.answer m.after unkept run.0)) allowed)

pub legal-runs : (shape : Shape) (moments : List Moment) → IsShape shape → Run (opening shape) moments → IsLegal shape (journal_of moments) × Allows (replay (opening_point shape) (journal_of moments)) (state_after (opening shape) moments)
unfolding opening
legal-runs shape moments fits run =
    let none = dirty_count-opening shape in
    legal-run (opening_point shape) (opening shape) moments (IsState-opening shape fits) (record { desk = refl; least = omega arith; most = omega (arith, none) }) run
