use Rattle.std.proofs.Common.{◌≡◌, ◌∙◌, sym, ap, arith}
use Rattle.kind_core.specs.declared.kinds.Kind.TheVariants.{Frame}
use Rattle.scene_model.specs.declared.axis.Span.{Span}
use Rattle.scene_core.proofs.SideSteps.{span-near, lengths-read}
use Rattle.scene_core.proofs.sides.side_of.Goals as goal

pub lengths_in-requires-clause-few : goal.lengths_in-requires-clause-few
lengths_in-requires-clause-few c = (c.requires.tracks (sym c.kind_of-kind.ensures ∙ c.in-Grid.is)).few

pub lengths_in-requires-clause-least_small : goal.lengths_in-requires-clause-least_small
lengths_in-requires-clause-least_small c = (c.requires.tracks (sym c.kind_of-kind.ensures ∙ c.in-Grid.is)).least_small

pub lengths_in-requires-clause-weights_small : goal.lengths_in-requires-clause-weights_small
lengths_in-requires-clause-weights_small c = (c.requires.tracks (sym c.kind_of-kind.ensures ∙ c.in-Grid.is)).weights_small

pub lengths_in-requires-clause-room_small : goal.lengths_in-requires-clause-room_small
lengths_in-requires-clause-room_small c =
    let near = span-near c.args.tree.now c.args.id.key c.args.axis c.requires.valid c.requires.live in
    omega (arith, near.len, ap (λ (span : Span). span.len) c.requires.span)

pub returns-in-Grid : goal.returns-in-Grid
returns-in-Grid c = record {
  kind = c.kind_of-kind.ensures;
  span = c.requires.span;
  offset = λ frame. let other : c.kind_of-kind.result ≡ Frame = c.kind_of-kind.ensures ∙ frame in absurd (let grid = c.in-Grid.is in cc);
  tracks = λ grid. record {
    few = (c.requires.tracks grid).few;
    used = (c.requires.tracks grid).used;
    lengths = lengths-read _ _ c.args.tracks.now c.lengths_in.result c.args.span.len (c.requires.tracks grid) c.lengths_in.ensures;
  };
}
