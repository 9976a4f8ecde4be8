use Rattle.desk_model.specs.PlaceOptions.{unless_within}
use Rattle.std.proofs.lemmas.Int.{to_z-of_z}
use Rattle.std.proofs.Common.{◌≡◌, ℕ, pos, unsigned_abs, to_z, of_z, w32, sym, ap, ap₂, ◌∙◌}
use Rattle.vscreen_core.specs.Band.{share_of}
use Rattle.desk_model.specs.Screens.{is_screen}
use Rattle.desk_commands.specs.Screens.{begins}
use Rattle.desk_commands.proofs.Films.{read-row, screen-kind}
use Rattle.desk_commands.proofs.admission.screen_wanted.Goals as goal

pub returns-in-Err-clause-wanted : goal.returns-in-Err-clause-wanted
returns-in-Err-clause-wanted c = λ desk. c.in-Err.ensures.found is_screen _ screen-kind

pub returns-in-Some-film-clause-wanted : goal.returns-in-Some-film-clause-wanted
returns-in-Some-film-clause-wanted c =
    let tree = c.args.tree.now in
    let film = c.in-Some-film.film.now in
    let plain : to_z w32 (of_z w32 c.args.period) ≡ c.args.period = to_z-of_z w32 c.args.period c.ranges.period in
    let found = c.in-Ok.ensures.found in
    record {
      found = found;
      film = film;
      has = read-row (λ row. row.film) tree c.in-Ok.id.key found.row _ found.there c.in-Some-film.ensures.film;
      within = ap (unless_within (pos 1) (pos 64)) (sym plain) ∙ sym c.in-None.ensures;
      share_is = c.share.ensures.share ∙ ap₂ (λ (w h : ℕ). share_of w h c.unsigned_abs.result) c.width.ensures.width c.height.ensures.height ∙ ap (share_of film.width film.height) (c.unsigned_abs.ensures.value ∙ ap unsigned_abs plain);
      tells = c.begins.ensures ∙ ap (begins film) (c.unsigned_abs-in-Some-film.ensures.value ∙ ap unsigned_abs plain);
    }
