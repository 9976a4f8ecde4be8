-- the events so far are told
use Rattle.std.proofs.Common.{◌≡◌, take, map}
use Rattle.std.specs.List.{fold}
use Rattle.widget_model.specs.Widgets.{rows_of}
use Rattle.desk_model.specs.Feeding.{with_post}
use Rattle.input_core.specs.Seen.{post_seen}
use Rattle.desk_core.proofs.feeding.post_all.Given as goal

abbrev pub invariant-loop-post : goal.invariant-loop-post
invariant-loop-post l = l.clients ≡ fold (with_post (rows_of l.tree)) l.initial.clients (map (post_seen l.tree.entries) (take l.post-index l.posts))
