-- What contracts see of a hit and of effects: widgets are named by their keys in place of their numbers.
use Rattle.std.specs.Prelude.{ℕ, ℤ, List, [], map, unwrap_or}
use Rattle.std.specs.Option.{option_map}
use Rattle.kind_core.specs.declared.kinds.EventKind.{EventKind}
use Rattle.widget_model.specs.Rows.{Row}
use Rattle.widget_model.specs.Widgets.{key_at}
use Rattle.tree_core.specs.declared.id.Id.{Id}
use Rattle.tree_core.specs.Holds.{pointer_seen}
use Rattle.desk_model.specs.InputEffects as model
use Rattle.input_core.specs.declared.hit.Hit.{Hit}
use Rattle.input_core.specs.declared.posts.Post.{Post}
use Rattle.input_core.specs.declared.effects.Effects.{Effects}

-- the key of the widget with the number; (0, []), which is no widget's, where the number names none
abbrev pub key_seen : List (ℕ × Row) → Id → ℕ × List ℕ
key_seen entries id = unwrap_or (key_at entries id.key) (0, [])

abbrev pub hit_seen : List (ℕ × Row) → Hit → model.Hit
hit_seen entries hit = record { key = key_seen entries hit.id; place = hit.place }

abbrev pub post_seen : List (ℕ × Row) → Post → (ℕ × List ℕ) × EventKind × ℤ × ℤ
post_seen entries post = (key_seen entries post.id, post.event, post.a, post.b)

abbrev pub effects_seen : List (ℕ × Row) → Effects → model.Effects
effects_seen entries effects =
    record {
      pointer = pointer_seen entries effects.pointer;
      raise = option_map (key_seen entries) effects.raise;
      value = option_map (λ set. (key_seen entries set.0, set.1)) effects.value;
      text = option_map (λ set. (key_seen entries set.0, set.1)) effects.text;
      caret = option_map (λ set. (key_seen entries set.0, set.1)) effects.caret;
      moved = option_map (λ set. (key_seen entries set.0, set.1, set.2)) effects.moved;
      posts = map (post_seen entries) effects.posts;
    }
