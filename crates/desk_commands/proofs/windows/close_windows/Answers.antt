use Rattle.std.proofs.Common.{length, sym, ap, ◌∙◌, arith}
use Rattle.std.specs.List.{list_all, filter}
use Rattle.stack_core.proofs.Keys.{length-without}
use Rattle.widget_model.specs.Widgets.{nodes}
use Rattle.desk_commands.specs.Parts.{names_window, is_others}
use Rattle.desk_commands.proofs.OthersLists.{filter-without, filter-all, list_all-without, none_given}
use Rattle.desk_commands.proofs.windows.close_windows.Goals as goal

pub loop-key-smaller : goal.loop-key-smaller
loop-key-smaller c =
    let less = length-without c.loop-key.windows c.in-Some.key c.loop-key.invariant.stack.distinct c.in-Some.ensures.0 in
    let left = ap length c.remove.ensures.others in
    omega (arith, less, left)

pub loop-key-preserved : goal.loop-key-preserved
loop-key-preserved c =
    let ns = nodes c.args.tree.now.entries in
    record {
      others = ap (filter (is_others ns c.args.client)) c.remove.ensures.others ∙ filter-without (is_others ns c.args.client) c.loop-key.windows c.in-Some.key c.in-Some.ensures.1 ∙ c.loop-key.invariant.others;
      stack = c.remove.ensures.valid;
      windows = ap (list_all (names_window ns)) c.remove.ensures.others ∙ list_all-without (names_window ns) c.loop-key.windows c.in-Some.key c.loop-key.invariant.windows;
    }

pub returns-clause-closed : goal.returns-clause-closed
returns-clause-closed c =
    let ns = nodes c.args.tree.now.entries in
    sym (filter-all (is_others ns c.args.client) c.loop-key.windows (none_given c.window_of.result _ _ c.window_of.ensures c.in_default.not-Some)) ∙ c.loop-key.invariant.others
