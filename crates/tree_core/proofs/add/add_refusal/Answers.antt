use Rattle.std.proofs.Common.{◌≡◌, ◌<◌, ◌≤◌, false, None, Some, is_some, refl, sym, ap, ◌∙◌, arith}
use Rattle.std.proofs.lemmas.Bool.{lt-leb, le-leb}
use Rattle.widget_model.specs.Named.{row_named, rows_counted}
use Rattle.widget_model.specs.Kinds.{any_kind, counts_with}
use Rattle.widget_model.specs.Widgets.{rows_in}
use Rattle.row_store.proofs.CountsLemmas.{number_alike-rows_counted}
use Rattle.tree_core.proofs.Listed.{named_live}
use Rattle.tree_core.proofs.add.add_refusal.Goals as goal

pub returns-then-has-ge8 : goal.returns-then-has-ge8
returns-then-has-ge8 c =
    let rows = rows_in c.args.store.now in
    let unnamed : is_some (row_named rows c.args.client c.args.name.now) ≡ false = sym (c.if-is_some.ensures ∙ ap is_some c.number_of.ensures ∙ named_live c.args.store.now c.args.client c.args.name.now) in
    let few : rows_counted c.args.client any_kind rows < 128 = omega (arith, number_alike-rows_counted c.args.counts.now rows c.args.client None c.requires.client c.requires.counted) in
    let many : 8 ≤ rows_counted c.args.client (counts_with c.args.kind) rows = omega (arith, number_alike-rows_counted c.args.counts.now rows c.args.client (Some c.args.kind) c.requires.client c.requires.counted) in
    rw (unnamed, lt-leb 128 (rows_counted c.args.client any_kind rows) few, le-leb 8 (rows_counted c.args.client (counts_with c.args.kind) rows) many) refl

pub returns : goal.returns
returns c =
    let rows = rows_in c.args.store.now in
    let unnamed : is_some (row_named rows c.args.client c.args.name.now) ≡ false = sym (c.if-is_some.ensures ∙ ap is_some c.number_of.ensures ∙ named_live c.args.store.now c.args.client c.args.name.now) in
    let few : rows_counted c.args.client any_kind rows < 128 = omega (arith, number_alike-rows_counted c.args.counts.now rows c.args.client None c.requires.client c.requires.counted) in
    let few_alike : rows_counted c.args.client (counts_with c.args.kind) rows < 8 = omega (arith, number_alike-rows_counted c.args.counts.now rows c.args.client (Some c.args.kind) c.requires.client c.requires.counted) in
    rw (unnamed, lt-leb 128 (rows_counted c.args.client any_kind rows) few, lt-leb 8 (rows_counted c.args.client (counts_with c.args.kind) rows) few_alike) refl
