use Rattle.std.proofs.Common.{◌≡◌, ℕ, ◌*◌, ◌<◌, ◌&&◌, List, [], sym, ap, subst, ◌∙◌, arith}
use Rattle.geom_core.specs.declared.rectangle.Rect.{Rect}
use Rattle.geom_core.specs.Count.{screen_of}
use Rattle.geom_core.specs.Rect.{in_rect, area_of}
use Rattle.geom_core.proofs.RectLemmas.{area_some}
use Rattle.scene_model.specs.Bands.{in_band}
use Rattle.painter_core.specs.Runs.{AreParts, IsPut}
use Rattle.painter_core.proofs.PartLemmas.{AreParts-none, AreParts-runs, IsInRange-seen}
use Rattle.painter_core.proofs.runs.band_parts.Goals as goal
use Rattle.painter_core.proofs.runs.band_parts.Goals.{then-seen-eq0-via-then-seen-eq0, then-seen-eq0-via-else-seen-eq0+then-seen-eq0-2}

no_width : (w h : ℕ) → w ≡ 0 → w * h ≡ 0
no_width w h e = ap (λ n. n * h) e ∙ none
  where
    none : 0 * h ≡ 0
    none = omega arith

no_height : (w h : ℕ) → h ≡ 0 → w * h ≡ 0
no_height w h e = ap (λ n. w * n) e ∙ none
  where
    none : w * 0 ≡ 0
    none = omega arith

pub returns-then-seen-eq0 : goal.returns-then-seen-eq0
returns-then-seen-eq0 c =
    let film = c.args.film in
    let screen = screen_of c.args.width c.args.height in
    let seen = c.meet-seen.result in
    let none : area_of seen ≡ 0 = elim c.then-seen-eq0.branch [
      | then-seen-eq0-via-then-seen-eq0 w ↦ no_width seen.w seen.h (omega (arith, w.if-seen-eq0.true))
      | then-seen-eq0-via-else-seen-eq0+then-seen-eq0-2 w ↦ no_height seen.w seen.h (omega (arith, w.if-seen-eq0-2.true))
    ] in
    subst (λ (rs : List Rect). AreParts (λ x y. in_rect screen x y && in_band film c.args.band x y) rs) (sym c.new-parts.ensures)
    (AreParts-none film screen seen c.args.band c.meet-seen.ensures.pixels none)

pub runs_of-runs-requires-clause-in_range : goal.runs_of-runs-requires-clause-in_range
runs_of-runs-requires-clause-in_range c =
    let seen = c.meet-seen.result in
    let across : 0 < seen.w = omega (arith, c.if-seen-eq0.false) in
    let down : 0 < seen.h = omega (arith, c.if-seen-eq0-2.false) in
    IsInRange-seen c.args.film seen c.args.width c.args.height c.requires.wide c.requires.high c.requires.width c.requires.height c.meet-seen.ensures.pixels (area_some seen.w seen.h across down)

pub returns : goal.returns
returns c =
    let screen = screen_of c.args.width c.args.height in
    let runs = c.runs_of-runs.result in
    let first : IsPut runs.first screen [] c.put_seen.new.parts.items = subst (λ (rs : List Rect). IsPut runs.first screen rs c.put_seen.new.parts.items) c.new-parts.ensures c.put_seen.ensures in
    AreParts-runs c.args.film screen c.args.band c.clipped.result runs.first runs.middle runs.last c.put_seen.new.parts.items c.put_seen-2.new.parts.items c.put_seen-3.new.parts.items
    c.runs_of-runs.ensures c.clipped.ensures.same first c.put_seen-2.ensures c.put_seen-3.ensures
