use Rattle.std.proofs.Common.{◌≡◌, not, true, refl, sym, ap, ◌∙◌}
use Rattle.std.proofs.lemmas.Bool.{eq-eqb, ne_eqb}
use Rattle.stack_core.proofs.Keys.{holds_key-at}
use Rattle.widget_model.specs.Widgets.{nodes}
use Rattle.desk_commands.specs.Parts.{is_others}
use Rattle.desk_commands.proofs.WindowPlaces.{window_live}
use Rattle.desk_commands.proofs.OthersLists.{list_all-further, list_all-past, owner_title}
use Rattle.desk_commands.proofs.windows.window_of.Goals as goal
use Rattle.desk_commands.proofs.windows.window_of.Goals.{in-Some+else-owner-client, in-None}

pub owner-requires : goal.owner-requires
owner-requires c = window_live c.args.tree.now c.args.windows.now c.loop-i.i c.in-Some.key c.requires (sym c.in-Some.ensures.key)

pub returns-then-owner-client : goal.returns-then-owner-client
returns-then-owner-client c =
    let title = owner_title c.args.tree.now.entries c.in-Some.key c.owner.result c.owner.ensures.owner ∙ c.if-owner-client.true in
    (holds_key-at c.args.windows.now c.loop-i.i c.in-Some.key (sym c.in-Some.ensures.key), ap not (eq-eqb c.args.client _ (sym title)))

pub loop-i-preserved : goal.loop-i-preserved
loop-i-preserved c =
    elim c.match-at.branch [
      | in-Some+else-owner-client w ↦
          let title = owner_title c.args.tree.now.entries w.in-Some.key w.owner.result w.owner.ensures.owner in
          let other : is_others (nodes c.args.tree.now.entries) c.args.client w.in-Some.key ≡ true = ap not (ne_eqb c.args.client _ (λ e. w.if-owner-client.false (sym title ∙ sym e))) in
          c.loop-i.invariant ∙ list_all-further (is_others (nodes c.args.tree.now.entries) c.args.client) c.args.windows.now c.loop-i.i w.in-Some.key (sym w.in-Some.ensures.key) ∙ rw other refl
      | in-None w ↦ c.loop-i.invariant ∙ list_all-past (is_others (nodes c.args.tree.now.entries) c.args.client) c.args.windows.now c.loop-i.i (sym w.in-None.ensures.key)
    ]
