use Rattle.std.proofs.Common.{◌≡◌, not, true, refl, sym, ap, ◌∙◌}
use Rattle.std.proofs.lemmas.Bool.{eq-eqb, ne_eqb}
use Rattle.widget_model.specs.Widgets.{nodes}
use Rattle.desk_commands.specs.Parts.{is_others_entry}
use Rattle.desk_commands.proofs.OthersLists.{list_all-further, list_all-past, owner_title}
use Rattle.desk_commands.proofs.Admissions.{live_at, key-there}
use Rattle.desk_commands.proofs.admission.admitted_of.Goals as goal
use Rattle.desk_commands.proofs.admission.admitted_of.Goals.{in-Some+else-owner-client, in-None}

pub owner-requires : goal.owner-requires
owner-requires c = live_at c.args.tree.now.entries c.args.roster.now.entries c.loop-i.i c.in-Some.entry c.requires (sym c.in-Some.ensures.entry)

pub returns-then-owner-client : goal.returns-then-owner-client
returns-then-owner-client c =
    let title = owner_title c.args.tree.now.entries c.in-Some.entry.0 c.owner.result c.owner.ensures.owner ∙ c.if-owner-client.true in
    (key-there c.args.roster.now.entries c.loop-i.i c.in-Some.entry (sym c.in-Some.ensures.entry), ap not (eq-eqb c.args.client _ (sym title)))

pub loop-i-preserved : goal.loop-i-preserved
loop-i-preserved c =
    elim c.match-at.branch [
      | in-Some+else-owner-client w ↦
          let title = owner_title c.args.tree.now.entries w.in-Some.entry.0 w.owner.result w.owner.ensures.owner in
          let other : is_others_entry (nodes c.args.tree.now.entries) c.args.client w.in-Some.entry ≡ true = ap not (ne_eqb c.args.client _ (λ e. w.if-owner-client.false (sym title ∙ sym e))) in
          c.loop-i.invariant ∙ list_all-further (is_others_entry (nodes c.args.tree.now.entries) c.args.client) c.args.roster.now.entries c.loop-i.i w.in-Some.entry (sym w.in-Some.ensures.entry) ∙ rw other refl
      | in-None w ↦ c.loop-i.invariant ∙ list_all-past (is_others_entry (nodes c.args.tree.now.entries) c.args.client) c.args.roster.now.entries c.loop-i.i (sym w.in-None.ensures.entry)
    ]
