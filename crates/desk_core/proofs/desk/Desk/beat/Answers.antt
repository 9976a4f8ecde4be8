use Rattle.std.proofs.Common.{ℕ, map, ap, ◌∙◌, subst}
use Rattle.widget_model.specs.Rows.{Row}
use Rattle.desk_model.specs.Beat.{beat, bands_next}
use Rattle.desk_layout.specs.Numbers.{KeepsNumbers}
use Rattle.desk_commands.specs.Parts.{stage_of}
use Rattle.desk_commands.specs.Beating.{bands_keyed}
use Rattle.desk_core.specs.View.{DeskView}
use Rattle.desk_core.proofs.Beats.{lists-each, beaten-desk, beaten-kept}
use Rattle.desk_core.proofs.desk.Desk.beat.Goals as goal

pub beat-requires-clause-valid : goal.beat-requires-clause-valid
beat-requires-clause-valid c = c.self.invariant.parts.tree

pub beat-requires-clause-listed : goal.beat-requires-clause-listed
beat-requires-clause-listed c = c.self.invariant.listed

pub beat-requires-clause-each : goal.beat-requires-clause-each
beat-requires-clause-each c =
    let i = c.self.inside in
    lists-each i.shape i.pointer i.clients i.tree i.windows i.roster c.self.invariant

pub invariant_of-self : goal.invariant_of-self
invariant_of-self c =
    let i = c.self.inside in
    let did = c.beat.ensures in
    beaten-kept i.shape i.pointer i.clients i.tree i.windows i.roster c.self.invariant c.beat.new.tree did.beat did.nodes did.valid did.listed did.numbered did.clients did.places

pub returns-clause-beat : goal.returns-clause-beat
returns-clause-beat c =
    let i = c.self.inside in
    beaten-desk i.shape i.pointer i.clients i.tree i.windows i.roster c.self.invariant c.beat.new.tree c.beat.ensures.beat c.beat.ensures.nodes
    ∙ ap (λ (s : DeskView). beat s.desk) c.self.view_is

pub returns-clause-bands : goal.returns-clause-bands
returns-clause-bands c =
    let i = c.self.inside in
    c.beat.ensures.bands (stage_of i.shape i.roster i.clients i.tree i.pointer) i.windows
    ∙ ap (λ (s : DeskView). bands_keyed (bands_next s.desk)) c.self.view_is

pub returns-clause-valid : goal.returns-clause-valid
returns-clause-valid c = (invariant_of-self c).desk

pub returns-clause-numbered : goal.returns-clause-numbered
returns-clause-numbered c =
    let N : DeskView → Type 0 = λ s. KeepsNumbers s.widgets.entries c.beat.new.tree.entries in
    subst N c.self.view_is c.beat.ensures.numbered

pub returns-clause-numbers : goal.returns-clause-numbers
returns-clause-numbers c =
    c.beat.ensures.numbers ∙ ap (λ (s : DeskView). map (λ (entry : ℕ × Row). entry.0) s.widgets.entries) c.self.view_is

pub returns-clause-places : goal.returns-clause-places
returns-clause-places c = c.beat.ensures.places ∙ ap (λ (s : DeskView). s.widgets.places) c.self.view_is
