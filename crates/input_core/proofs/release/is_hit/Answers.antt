use Rattle.std.proofs.Common.{sym, ap, ◌∙◌, subst, Option}
use Rattle.std.specs.Prelude.{IfSome}
use Rattle.std.specs.Option.{option_map}
use Rattle.widget_model.specs.Keys.{key_of, same_key}
use Rattle.widget_model.specs.Widgets.{IsLive}
use Rattle.desk_model.specs.InputTable.{is_hit}
use Rattle.input_core.specs.declared.hit.Hit.{Hit}
use Rattle.input_core.specs.Numbered.{numbered}
use Rattle.input_core.specs.Seen.{hit_seen}
use Rattle.input_core.proofs.Keys.{key_seen-numbered, same_key-numbered}
use Rattle.input_core.proofs.release.is_hit.Goals as goal

pub returns-in-Some : goal.returns-in-Some
returns-in-Some c =
    let w = c.args.tree.now in
    let es = w.entries in
    let row = numbered es c.args.id.key in
    let live : IsLive w c.in-Some.hit.id.key = subst (λ (hit : Option Hit). IfSome hit (λ (h : Hit). IsLive w h.id.key)) c.in-Some.is c.requires.hit in
    sym (ap (λ (hit : Option Hit). is_hit (option_map (hit_seen es) hit) row) c.in-Some.is
    ∙ ap (same_key (key_of row)) (key_seen-numbered es c.in-Some.hit.id live)
    ∙ same_key-numbered w c.args.id.key c.in-Some.hit.id.key c.requires.widgets c.requires.live live)
