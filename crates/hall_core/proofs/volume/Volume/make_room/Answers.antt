use Rattle.std.proofs.Common.{◌⊎◌, inl, inr, ap, ◌∙◌, sym}
use Rattle.hall_core.specs.Books.{BookState, must_fold}
use Rattle.hall_core.proofs.Rooms.{fits_folded, few_bytes}
use Rattle.hall_core.proofs.volume.Volume.make_room.Goals as goal

pub returns-then-folds-clause-room : goal.returns-then-folds-clause-room
returns-then-folds-clause-room c =
    inl (ap (λ (b : BookState). must_fold b c.args.event.now) (c.folds.ensures.folded c.if-folds.true) ∙ fits_folded c.args.self.now c.args.event.now (few_bytes c.args.event.now c.requires.asked))
