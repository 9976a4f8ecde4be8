use Rattle.std.proofs.Common.{ℕ, false, [], map, refl, sym, ap, ◌∙◌}
use Rattle.std.specs.Prelude.{Option}
use Rattle.std.specs.Option.{option_map, option_map_or}
use Rattle.tree_core.specs.declared.id.Id.{Id}
use Rattle.look_data.specs.Kept.{kept_in}
use Rattle.look_data.specs.Looks.{seen_one}
use Rattle.look_data.specs.Watched.{is_linked_to}
use Rattle.look_data.proofs.LooksLemmas.{looks-none, watched-from}
use Rattle.look_data.proofs.watched_looks.WatchedLooks.keep.Goals as goal

pub returns-in-Some : goal.returns-in-Some
returns-in-Some c =
    watched-from c.args.view.now (map (λ (one : Id). one.key) c.args.named.now) (option_map (λ (one : Id). one.key) c.args.variable) (is_linked_to c.args.view.now.tree.now c.in-Some.variable.key) (map seen_one c.named_looks.result.items) (map seen_one c.linked_looks.result.items) c.named_looks.ensures c.linked_looks.ensures
    (λ id. sym (ap (λ (o : Option Id). option_map_or (λ (one : Id). is_linked_to c.args.view.now.tree.now one.key id) o false) c.in-Some.is) ∙ c.linkable.ensures.same id)

pub returns-in-None : goal.returns-in-None
returns-in-None c =
    watched-from c.args.view.now (map (λ (one : Id). one.key) c.args.named.now) (option_map (λ (one : Id). one.key) c.args.variable) (λ (id : ℕ). false) (map seen_one c.named_looks-in-None.result.items) [] c.named_looks-in-None.ensures (looks-none (λ (id : ℕ). false) (kept_in c.args.view.now) (λ id. refl))
    (λ id. sym (ap (λ (o : Option Id). option_map_or (λ (one : Id). is_linked_to c.args.view.now.tree.now one.key id) o false) c.in-None.is) ∙ c.linkable.ensures.same id)
