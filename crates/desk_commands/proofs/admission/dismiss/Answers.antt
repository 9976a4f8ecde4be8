use Rattle.std.proofs.Common.{◌≡◌, ℕ, length, refl, sym, ap, ◌∙◌, arith}
use Rattle.std.specs.List.{list_all, filter}
use Rattle.admit_core.specs.Roster.{RosterState, others}
use Rattle.admit_core.specs.Admission.{dismissed}
use Rattle.admit_core.proofs.Rosters.{length-others-lt}
use Rattle.widget_model.specs.Widgets.{nodes}
use Rattle.desk_commands.specs.Parts.{is_others_entry, is_live_entry}
use Rattle.desk_commands.proofs.Admissions.{filter-others, live-others}
use Rattle.desk_commands.proofs.OthersLists.{filter-all, none_given}
use Rattle.desk_commands.proofs.admission.dismiss.Goals as goal

gone : (roster : RosterState) (key : ℕ) → ((dismissed roster key).entries ≡ others key roster.entries) × ((dismissed roster key).limit ≡ roster.limit)
unfolding dismissed
gone roster key = (refl, refl)

pub loop-key-smaller : goal.loop-key-smaller
loop-key-smaller c =
    let left = ap (λ (r : RosterState). r.entries) c.leave.ensures.roster ∙ (gone c.loop-key.roster c.in-Some.key).0 in
    omega (arith, length-others-lt c.in-Some.key c.loop-key.roster.entries c.in-Some.ensures.0, ap length left)

pub loop-key-preserved : goal.loop-key-preserved
loop-key-preserved c =
    let ns = nodes c.args.tree.now.entries in
    let left = ap (λ (r : RosterState). r.entries) c.leave.ensures.roster ∙ (gone c.loop-key.roster c.in-Some.key).0 in
    record {
      others = ap (filter (is_others_entry ns c.args.client)) left ∙ filter-others ns c.args.client c.in-Some.key c.loop-key.roster.entries c.in-Some.ensures.1 ∙ c.loop-key.invariant.others;
      limit = ap (λ (r : RosterState). r.limit) c.leave.ensures.roster ∙ (gone c.loop-key.roster c.in-Some.key).1 ∙ c.loop-key.invariant.limit;
      listed = record { valid = c.leave.ensures.valid; live = ap (list_all (is_live_entry c.args.tree.now.entries)) left ∙ live-others c.args.tree.now.entries c.in-Some.key c.loop-key.roster.entries c.loop-key.invariant.listed.live };
    }

pub returns-clause-dismissed : goal.returns-clause-dismissed
returns-clause-dismissed c =
    let ns = nodes c.args.tree.now.entries in
    sym (filter-all (is_others_entry ns c.args.client) c.loop-key.roster.entries (none_given c.admitted_of.result _ _ c.admitted_of.ensures c.in_default.not-Some)) ∙ c.loop-key.invariant.others
