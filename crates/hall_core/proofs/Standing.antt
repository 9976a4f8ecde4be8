-- A book stands at first, after a fold, and after each entry.
use Rattle.std.proofs.Common.{◌≡◌, ℕ, ◌+◌, ◌%◌, ◌^◌, ◌≤◌, true, List, [], ◌∷◌, ◌++◌, length, map, refl, sym, ap, ◌∙◌, subst, arith, append_assoc}
use Rattle.std.proofs.lemmas.List.{map-append}
use Rattle.kind_core.specs.declared.shapes.Shape.{Shape}
use Rattle.scene_model.specs.Shapes.{IsShape}
use Rattle.desk_model.specs.Desk.{Desk, opening_desk}
use Rattle.machine_model.specs.State.{State, IsState, opening, dirty_count}
use Rattle.machine_model.specs.Step.{Step}
use Rattle.machine_model.proofs.Opening.{IsState-opening, dirty_count-opening}
use Rattle.machine_model.proofs.Steps.{IsState-step, shape-step}
use Rattle.server_core.specs.Serving.{Serving}
use Rattle.journal_model.specs.Journals.{opening_point, replay, is_kept, IsLegal, IsLegalFrom, Allows}
use Rattle.journal_model.proofs.Steps.{legal-step}
use Rattle.journal_model.proofs.Runs.{join}
use Rattle.hall_core.specs.declared.entry.Entry.{Entry}
use Rattle.hall_core.specs.declared.entry.Event.{Event}
use Rattle.hall_core.specs.declared.entry.Event.TheVariants.{Hello, Ask, Bye, Feed, Tick}
use Rattle.hall_core.specs.declared.entry.Answer.{Answer}
use Rattle.hall_core.specs.Entries.{event_of, answer_of, entry_of, entries_of}
use Rattle.hall_core.specs.Books.{BookState, Stands, Unfolded, folded_of, shape_of}

kept_event : (event : Event) → is_kept (event_of event) ≡ true
kept_event Hello = refl
kept_event (Ask client command payload) = refl
kept_event (Bye client) = refl
kept_event (Feed input) = refl
kept_event Tick = refl

pub stands_first : (shape : Shape) (book : BookState) → IsShape shape → book.server.state ≡ opening shape → book.journal ≡ [] → book.start ≡ opening_desk shape → book.base ≡ 0 → book.kept ≡ [] → Stands book
unfolding opening
stands_first shape book fits state journal start base kept =
    let same : shape_of book ≡ shape = ap (λ (s : State). s.desk.shape) state in
    let none = dirty_count-opening shape in
    let first : Allows (opening_point shape) (opening shape) = record { desk = refl; least = omega arith; most = omega (arith, none) } in
    record {
      valid = subst IsState (sym state) (IsState-opening shape fits);
      legal = subst (λ entries. IsLegal (shape_of book) (entries_of entries)) (sym journal) tt;
      allowed = subst (λ entries. Allows (replay (opening_point (shape_of book)) (entries_of entries)) book.server.state) (sym journal)
          (subst (λ s. Allows (opening_point s) book.server.state) (sym same) (subst (Allows (opening_point shape)) (sym state) first));
      folded = [];
      whole = journal ∙ sym kept;
      base = base;
      start = start ∙ ap opening_desk (sym same);
    }

pub stands_folded : (book : BookState) → Stands book → Stands (folded_of book)
stands_folded book is =
    record {
      valid = is.valid;
      legal = is.legal;
      allowed = is.allowed;
      folded = book.journal;
      whole = sym (append-nil book.journal);
      base = refl;
      start = is.allowed.desk;
    }
  where
    append-nil : (xs : List Entry) → xs ++ [] ≡ xs
    append-nil [] = refl
    append-nil (x ∷ xs) = ap (λ ys. x ∷ ys) (append-nil xs)

-- a step of the server, with its entry behind the others
pub stands_entry : (book new : BookState) (entry : Entry) → Stands book → Step book.server.state (event_of entry.event) (answer_of entry.answer) new.server.state → new.journal ≡ book.journal ++ entry ∷ [] → Unfolded book entry new → Stands new
stands_entry book new entry is step journal kept =
    let shape = shape_of book in
    let event = event_of entry.event in
    let answer = answer_of entry.answer in
    let point = replay (opening_point shape) (entries_of book.journal) in
    let same : shape_of new ≡ shape = shape-step book.server.state event answer new.server.state step in
    let here = legal-step point book.server.state event answer new.server.state is.valid is.allowed (kept_event entry.event) step in
    let joined = join (opening_point shape) (entries_of book.journal) (entry_of entry ∷ []) is.legal (here.0, tt) in
    let entries : entries_of new.journal ≡ entries_of book.journal ++ entry_of entry ∷ [] = ap entries_of journal ∙ map-append entry_of book.journal (entry ∷ []) in
    let now : replay (opening_point shape) (entries_of new.journal) ≡ replay point (entry_of entry ∷ []) = ap (replay (opening_point shape)) entries ∙ joined.1 in
    record {
      valid = IsState-step book.server.state event answer new.server.state is.valid step;
      legal = subst (λ s. IsLegal s (entries_of new.journal)) (sym same) (subst (IsLegal shape) (sym entries) joined.0);
      allowed = subst (λ s. Allows (replay (opening_point s) (entries_of new.journal)) new.server.state) (sym same)
          (subst (λ p. Allows p new.server.state) (sym now) here.1);
      folded = is.folded;
      whole = journal ∙ ap (λ xs. xs ++ entry ∷ []) is.whole ∙ append_assoc is.folded book.kept (entry ∷ []) ∙ ap (λ xs. is.folded ++ xs) (sym kept.kept);
      base = kept.base ∙ is.base;
      start = kept.start ∙ is.start ∙ ap (λ s. (replay (opening_point s) (entries_of is.folded)).desk) (sym same);
    }
