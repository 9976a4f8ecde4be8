-- What one part of a walk said and left, and the next part after it: together they are the parts of the whole.
use Rattle.std.proofs.Common.{◌≡◌, ℕ, ◌+◌, ◌≤◌, List, [], ◌∷◌, ◌++◌, length, take, Option, refl, sym, ap, subst, ◌∙◌, arith, length-append}
use Rattle.std.proofs.lemmas.List.{take_all, take-append-le}
use Rattle.std.proofs.Math.Seq.{take-append-add, take-append_seam}
use Rattle.std.specs.Io.KnownBytes.{Appends}
use Rattle.outside_io.specs.Sink.{AppendsFront}
use Rattle.outside_io.proofs.Told.{Appends-append}
use Rattle.std.proofs.lemmas.Grind.{flat_map-append}
use Rattle.outside_io.specs.Outbox.{Output, Puts, flushed}
use Rattle.outside_io.proofs.Gathered.{Puts-none, Puts-append, PutsFront-after, Appends-put}
use Rattle.script_walk.specs.declared.end.End.{End}
use Rattle.script_walk.specs.declared.end.End.TheVariants.{Done, ReadFault, WriteFault, BadLine, TooMuch}
use Rattle.script_walk.specs.Rules.{Rules, state_after, text_of}
use Rattle.script_walk.specs.Walked.{Gains, GainsFront, IsPast, IsLeft}
use Rattle.script_walk.specs.Performing.{Says, Leaves, IsReached}

pub text_of-append : (r : Rules) (a b : List r.Moment) → text_of r (a ++ b) ≡ text_of r a ++ text_of r b
text_of-append r a b = flat_map-append r.text a b

pub state_after-append : (r : Rules) (from : r.State) (a b : List r.Moment) → state_after r from (a ++ b) ≡ state_after r (state_after r from a) b
state_after-append r from [] b = refl
state_after-append r from (moment ∷ a) b = state_after-append r (r.after from moment) a b

-- nothing was said
pub Says-none : (out : Output) → Says Done out out []
Says-none out = Puts-none out

-- one text was put out, and then the next, or a part of it
pub Says-after : (end : End) (old between new : Output) (text more : List ℕ) → Puts old between text → Says end between new more → Says end old new (text ++ more)
Says-after WriteFault = PutsFront-after
Says-after Done = Puts-append
Says-after ReadFault = Puts-append
Says-after (BadLine line) = Puts-append
Says-after TooMuch = Puts-append

-- a text was written, and then a front of another
gains_front : (old between new : Option (List ℕ)) (text more : List ℕ) → Appends old between text → AppendsFront between new more → GainsFront old new text (text ++ more)
gains_front old between new text more first front = record {
  count = length text + front.count;
  enough = omega arith;
  within = (let inside : front.count ≤ length more = front.within in omega (arith, length-append text more));
  appended = subst (Appends old new) (sym (take-append-add text more front.count)) (Appends-append old between new text (take front.count more) first front.appended);
}

all_put : (old between new : Option (List ℕ)) (text more : List ℕ) → Puts (flushed old) (flushed between) text → Puts (flushed between) (flushed new) more → Appends old new (text ++ more)
all_put old between new text more first second = Appends-put old new (text ++ more) (Puts-append (flushed old) (flushed between) (flushed new) text more first second)

-- where nothing waits before, between and after, the sink has gained what was put out
gains_after : (end : End) (old between new : Option (List ℕ)) (text more : List ℕ) → Puts (flushed old) (flushed between) text → Says end (flushed between) (flushed new) more → Gains end old new text (text ++ more)
gains_after WriteFault old between new text more first second = gains_front old between new text more (Appends-put old between text first) second
gains_after Done old between new text more first second = all_put old between new text more first second
gains_after ReadFault old between new text more first second = all_put old between new text more first second
gains_after (BadLine line) old between new text more first second = all_put old between new text more first second
gains_after TooMuch old between new text more first second = all_put old between new text more first second

-- the same of the text of moments, of which the first were before the last read
pub Gains-after : (r : Rules) (end : End) (old between new : Option (List ℕ)) (moments more : List r.Moment) → Puts (flushed old) (flushed between) (text_of r moments) → Says end (flushed between) (flushed new) (text_of r more) → Gains end old new (text_of r (take (length moments) (moments ++ more))) (text_of r (moments ++ more))
Gains-after r end old between new moments more first second =
    subst (λ text. Gains end old new text (text_of r (moments ++ more))) (ap (text_of r) (sym (take-append_seam moments more)))
    (subst (Gains end old new (text_of r moments)) (sym (text_of-append r moments more)) (gains_after end old between new (text_of r moments) (text_of r more) first second))

-- a state of a run is a state of the longer run
pub IsReached-longer : (r : Rules) (state from : r.State) (moments more : List r.Moment) → IsReached r state from moments → IsReached r state from (moments ++ more)
IsReached-longer r state from moments more reached =
    let inside : reached.count ≤ length moments = reached.within in
    record {
      count = reached.count;
      within = omega (arith, length-append moments more);
      reached = reached.reached ∙ ap (state_after r from) (sym (take-append-le reached.count moments more inside));
    }

-- the last state of a run is a state of it
pub IsReached-last : (r : Rules) (state from : r.State) (moments : List r.Moment) → state ≡ state_after r from moments → IsReached r state from moments
IsReached-last r state from moments last = record {
  count = length moments;
  within = omega arith;
  reached = last ∙ ap (state_after r from) (sym (take_all (length moments) moments (omega arith)));
}

-- a part that was carried out whole, and then the next
past_after : (r : Rules) (state between from : r.State) (moments more : List r.Moment) → between ≡ state_after r from moments → IsReached r state between more → IsPast r state from (length moments) (moments ++ more)
past_after r state between from moments more is reached = record {
  count = length moments + reached.count;
  enough = omega arith;
  within = (let inside : reached.count ≤ length more = reached.within in omega (arith, length-append moments more));
  reached = reached.reached ∙ ap (λ s. state_after r s (take reached.count more)) is
      ∙ sym (state_after-append r from moments (take reached.count more))
      ∙ ap (state_after r from) (sym (take-append-add moments more reached.count));
}

reached_after : (r : Rules) (state between from : r.State) (moments more : List r.Moment) → between ≡ state_after r from moments → IsReached r state between more → IsReached r state from (moments ++ more)
reached_after r state between from moments more is reached =
    let past = past_after r state between from moments more is reached in
    record { count = past.count; within = past.within; reached = past.reached }

-- the state after one part and then the next
state_after-after : (r : Rules) (state between from : r.State) (moments more : List r.Moment) → between ≡ state_after r from moments → state ≡ state_after r between more → state ≡ state_after r from (moments ++ more)
state_after-after r state between from moments more is after =
    after ∙ ap (λ s. state_after r s more) is ∙ sym (state_after-append r from moments more)

pub Leaves-after : (r : Rules) (end : End) (state between from : r.State) (moments more : List r.Moment) → between ≡ state_after r from moments → Leaves r end state between more → Leaves r end state from (moments ++ more)
Leaves-after r WriteFault = reached_after r
Leaves-after r Done = state_after-after r
Leaves-after r ReadFault = state_after-after r
Leaves-after r (BadLine line) = state_after-after r
Leaves-after r TooMuch = state_after-after r

pub IsLeft-after : (r : Rules) (end : End) (state between from : r.State) (moments more : List r.Moment) → between ≡ state_after r from moments → Leaves r end state between more → IsLeft r end state from (length moments) (moments ++ more)
IsLeft-after r WriteFault = past_after r
IsLeft-after r Done = state_after-after r
IsLeft-after r ReadFault = state_after-after r
IsLeft-after r (BadLine line) = state_after-after r
IsLeft-after r TooMuch = state_after-after r
