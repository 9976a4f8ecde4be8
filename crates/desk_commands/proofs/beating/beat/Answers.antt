use Rattle.std.proofs.Common.{◌≡◌, ℕ, ◌+◌, ◌<◌, ◌≤◌, List, length, slice_get, None, refl, sym, ap, subst, arith}
use Rattle.std.proofs.lemmas.Option.{slice_get-get_or}
use Rattle.vscreen_core.specs.declared.band.Band.{Band}
use Rattle.widget_model.specs.Nodes.{Node, node_at}
use Rattle.widget_model.proofs.Hanging.{all_at}
use Rattle.tree_core.specs.declared.id.Id.{Id}
use Rattle.desk_layout.proofs.KeyNumbers.{numbers-more}
use Rattle.desk_commands.specs.Parts.{names_admitted}
use Rattle.desk_commands.proofs.Beats.{BeatenTo, has_period, beaten_one_more, desk_beaten, bands_drawn, bands_live, numbers-kept}
use Rattle.desk_commands.proofs.beating.beat.Goals as goal

pub beat_film-band-requires-clause-film : goal.beat_film-band-requires-clause-film
beat_film-band-requires-clause-film c =
    has_period c.loop-i.tree c.in-Some.entry c.loop-i.invariant.valid
    (all_at (names_admitted c.loop-i.tree.entries) c.args.roster.now.entries c.loop-i.i c.in-Some.entry c.loop-i.invariant.admitted (sym c.in-Some.ensures.entry))

pub unreachable-requires : goal.unreachable-requires
unreachable-requires c =
    let within : c.loop-i.i < length c.args.roster.now.entries = omega (arith, c.loop-i-test.true, c.len-i-end.ensures.count) in
    let there = slice_get-get_or c.args.roster.now.entries c.loop-i.i (0, 0) within in
    let none : slice_get c.args.roster.now.entries c.loop-i.i ≡ None = sym c.in-None.ensures.entry in
    absurd (cc)

pub loop-i-preserved : goal.loop-i-preserved
loop-i-preserved c =
    let entry = c.in-Some.entry in
    let id : Id = record { key = entry.0 } in
    subst (λ (items : List (Id × Band)). BeatenTo c.args.tree.now c.beat_film-band.new.tree c.args.roster.now.entries (c.loop-i.i + 1) items) (sym c.push.ensures.items)
    (beaten_one_more c.args.tree.now c.loop-i.tree c.beat_film-band.new.tree c.args.roster.now.entries c.loop-i.i entry id c.beat_film-band.result c.loop-i.bands.items
    c.requires.valid c.requires.listed.valid.own_keys c.requires.listed.admitted c.loop-i.invariant (sym c.in-Some.ensures.entry) refl
    c.beat_film-band.ensures.film c.beat_film-band.ensures.band c.beat_film-band.ensures.valid)

at_end : (i n m : ℕ) → n ≤ i → n ≡ m → m ≤ i
at_end i n m past same = omega (arith, past, same)

pub returns-clause-beat : goal.returns-clause-beat
returns-clause-beat c =
    desk_beaten c.args.tree.now c.loop-i.tree c.args.roster.now c.loop-i.i c.loop-i.bands.items c.requires.valid c.requires.each
    (at_end c.loop-i.i c.len-i-end.result (length c.args.roster.now.entries) c.loop-i-test.false c.len-i-end.ensures.count) c.loop-i.invariant

pub returns-clause-bands : goal.returns-clause-bands
returns-clause-bands c =
    bands_drawn c.args.tree.now c.loop-i.tree c.args.roster.now c.loop-i.i c.loop-i.bands.items c.requires.valid c.requires.each
    (at_end c.loop-i.i c.len-i-end.result (length c.args.roster.now.entries) c.loop-i-test.false c.len-i-end.ensures.count) c.loop-i.invariant

pub returns-clause-live : goal.returns-clause-live
returns-clause-live c =
    bands_live c.args.tree.now c.loop-i.tree c.args.roster.now c.loop-i.i c.loop-i.bands.items c.requires.valid c.requires.each
    (at_end c.loop-i.i c.len-i-end.result (length c.args.roster.now.entries) c.loop-i-test.false c.len-i-end.ensures.count) c.loop-i.invariant

pub returns-clause-numbers : goal.returns-clause-numbers
returns-clause-numbers c = numbers-kept c.args.tree.now.entries c.loop-i.tree.entries c.loop-i.invariant.same

pub returns-clause-numbered : goal.returns-clause-numbered
returns-clause-numbered c =
    numbers-more c.args.tree.now.entries c.loop-i.tree.entries c.loop-i.invariant.valid.rows.names (λ id there. ap (λ (ns : List (ℕ × Node)). node_at ns id) c.loop-i.invariant.same)
