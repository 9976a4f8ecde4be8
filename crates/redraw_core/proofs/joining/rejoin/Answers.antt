use Rattle.std.proofs.Common.{◌∷◌, []}
use Rattle.geom_core.specs.Rect.{in_rect}
use Rattle.geom_core.specs.Pieces.{covers}
use Rattle.redraw_core.proofs.GrownLemmas.{Grown-push, Grown-then}
use Rattle.redraw_core.proofs.JoinLemmas.{IsPiece-in_range, IsPiece-joined, IsFresh-joined, IsFresh-after, Grown-same, two_cover, or_false}
use Rattle.redraw_core.proofs.joining.rejoin.Goals as goal

pub joined-requires-clause-first : goal.joined-requires-clause-first
joined-requires-clause-first c = IsPiece-in_range c.args.before c.args.store.now.map c.requires.valid.valid c.requires.first

pub joined-requires-clause-second : goal.joined-requires-clause-second
joined-requires-clause-second c = IsPiece-in_range c.args.last c.args.store.now.map c.requires.valid.valid c.requires.second

pub push-requires-clause-piece : goal.push-requires-clause-piece
push-requires-clause-piece c = IsPiece-joined c.in-Some.whole c.args.before c.args.last c.args.store.now.map c.in-Some.ensures c.requires.first c.requires.second

pub push-requires-clause-fresh : goal.push-requires-clause-fresh
push-requires-clause-fresh c = IsFresh-joined c.in-Some.whole c.args.before c.args.last c.args.store.now.kept.items c.args.store.now.map c.in-Some.ensures c.requires.clean c.requires.clean_too

pub returns-in-Some-clause-grown : goal.returns-in-Some-clause-grown
returns-in-Some-clause-grown c =
    let store = c.args.store.now in
    let new = c.push.new.store in
    let whole = c.in-Some.whole in
    Grown-same (in_rect whole) (covers (c.args.before ∷ c.args.last ∷ [])) store.kept.items store.map new.kept.items new.area new.map
    (Grown-push store.kept.items store.map new.kept.items new.area new.map whole c.push.ensures.valid c.push.ensures.kept c.push.ensures.map)
    (λ x y. two_cover (in_rect c.args.before x y) (in_rect c.args.last x y) (in_rect whole x y) (c.in-Some.ensures.pixels x y))

pub push-requires-3-clause-fresh : goal.push-requires-3-clause-fresh
push-requires-3-clause-fresh c =
    let store = c.args.store.now in
    let mid = c.push-2.new.store in
    IsFresh-after c.args.before c.args.last store.kept.items store.map mid.kept.items mid.map c.requires.clean_too c.requires.disjoint c.push-2.ensures.kept c.push-2.ensures.map

pub returns-clause-grown : goal.returns-clause-grown
returns-clause-grown c =
    let store = c.args.store.now in
    let mid = c.push-2.new.store in
    let new = c.push-3.new.store in
    Grown-then (in_rect c.args.before) (in_rect c.args.last) (covers (c.args.before ∷ c.args.last ∷ [])) store.kept.items store.map mid.kept.items mid.area mid.map new.kept.items new.area new.map
    (Grown-push store.kept.items store.map mid.kept.items mid.area mid.map c.args.before c.push-2.ensures.valid c.push-2.ensures.kept c.push-2.ensures.map)
    (Grown-push mid.kept.items mid.map new.kept.items new.area new.map c.args.last c.push-3.ensures.valid c.push-3.ensures.kept c.push-3.ensures.map)
    (λ x y. or_false (in_rect c.args.before x y) (in_rect c.args.last x y))
