-- What the parts of a desk keep together after an input, and the rings after one of its events.
use Rattle.std.proofs.Common.{◌≡◌, ℕ, true, List, Option, Some, None, is_some, refl, sym, ap, ◌∙◌}
use Rattle.std.specs.Prelude.{IfSome}
use Rattle.std.specs.List.{list_all}
use Rattle.std.specs.Option.{option_map, option_map_or}
use Rattle.bind_core.specs.declared.posted.Posted.{Posted}
use Rattle.bind_core.specs.Ring.{Event, event_of}
use Rattle.bind_core.specs.Posting.{after_post}
use Rattle.widget_model.specs.Rows.{Row}
use Rattle.widget_model.specs.Nodes.{Node}
use Rattle.widget_model.specs.Widgets.{Widgets, IsLive, row_at, rows_of}
use Rattle.widget_model.specs.Forest.{IsWidgets}
use Rattle.tree_core.specs.declared.id.Id.{Id}
use Rattle.tree_core.specs.declared.pointer.Pointer.{Pointer}
use Rattle.tree_core.specs.declared.pointer.Grab.{Grab}
use Rattle.tree_core.specs.declared.pointer.Grab.TheVariants.{Nothing, Widget, Drag}
use Rattle.desk_model.specs.Desk.{Ring}
use Rattle.desk_model.specs.Polling.{with_ring}
use Rattle.desk_model.specs.Feeding.{tag_of, with_post}
use Rattle.input_core.specs.declared.posts.Post.{Post}
use Rattle.input_core.specs.Seen.{key_seen, post_seen}
use Rattle.input_core.specs.Live as input
use Rattle.input_core.proofs.Numbers.{numbered_by}
use Rattle.input_core.proofs.Keys.{key_seen-numbered}
use Rattle.desk_layout.specs.Numbers.{KeepsNumbers}
use Rattle.desk_layout.proofs.KeyNumbers.{numbers-same}
use Rattle.desk_commands.specs.Parts.{names_window, AreParts}
use Rattle.desk_commands.specs.Pointer.{IsGrabLive, HoldsLive}
use Rattle.desk_inputs.specs.Carried.{HasRows}
use Rattle.desk_inputs.proofs.GivenValues.{key_at-kept, live-kept}

-- The parts keep what they kept.
pub parts-kept : (clients : List ℕ) (w w' : Widgets) (keys : List ℕ) (left : List Row) → AreParts clients w keys → IsWidgets w' → HasRows w w' left → AreParts clients w' keys
parts-kept clients w w' keys left parts tree has =
    record {
      clients = parts.clients ∙ sym has.clients;
      tree = tree;
      stack = parts.stack;
      windows = ap (λ (ns : List (ℕ × Node)). list_all (names_window ns) keys) has.nodes ∙ parts.windows;
    }

-- Numbers stay with their widgets.
pub numbers-kept : (w w' : Widgets) (left : List Row) → IsWidgets w → HasRows w w' left → KeepsNumbers w.entries w'.entries
numbers-kept w w' left kept has =
    let same = numbers-same w.entries kept.rows.names in
    record {
      keys = λ id before after at_before at_after. same.keys id before after at_before (sym (key_at-kept w.entries w'.entries id has.nodes) ∙ at_after);
      numbers = λ key before after at_before at_after. same.numbers key before after at_before (sym (key_at-kept w.entries w'.entries after has.nodes) ∙ at_after);
    }

-- The pointer's numbers are live still.
grab-live : (w w' : Widgets) (left : List Row) (grab : Grab) → HasRows w w' left → input.IsLiveGrab w grab → IsGrabLive w'.entries grab
grab-live w w' left Nothing has live = tt
grab-live w w' left (Widget id) has live = live-kept w.entries w'.entries id.key has.nodes live
grab-live w w' left (Drag id dx dy) has live = live-kept w.entries w'.entries id.key has.nodes live

focus-live : (w w' : Widgets) (left : List Row) (focus : Option Id) → HasRows w w' left → IfSome focus (λ id. IsLive w id.key) → IfSome focus (λ id. is_some (row_at w'.entries id.key) ≡ true)
focus-live w w' left None has live = tt
focus-live w w' left (Some id) has live = live-kept w.entries w'.entries id.key has.nodes live

pub holds-kept : (w w' : Widgets) (left : List Row) (pointer : Pointer) → HasRows w w' left → input.HoldsLive w pointer → HoldsLive w'.entries pointer
holds-kept w w' left pointer has holds = record { grab = grab-live w w' left pointer.grab has holds.grab; focus = focus-live w w' left pointer.focus has holds.focus }

-- The client of a live number.
pub owner-key : (w : Widgets) (id : Id) (client : ℕ) → IsLive w id.key → option_map (λ (row : Row). row.client) (row_at w.entries id.key) ≡ Some client → (key_seen w.entries id).0 ≡ client
owner-key w id client live has = ap (λ (key : ℕ × List ℕ). key.0) (key_seen-numbered w.entries id live) ∙ numbered_by (λ (row : Row). row.client) w.entries id.key client has

-- An event that isn't bound is posted to nobody, and one that is bound to its widget's client.
abbrev told_as : Post → List ℕ → Event
told_as post tag = (tag, post.event, post.a, post.b)

pub post-none : (w : Widgets) (rings : List Ring) (post : Post) → option_map event_of None ≡ option_map (told_as post) (tag_of (rows_of w) (key_seen w.entries post.id) post.event) → with_post (rows_of w) rings (post_seen w.entries post) ≡ rings
post-none w rings post told = by (tag_of (rows_of w) (key_seen w.entries post.id) post.event) told
  where
    by : (o : Option (List ℕ)) → option_map event_of None ≡ option_map (told_as post) o → option_map_or (λ (tag : List ℕ). with_ring (key_seen w.entries post.id).0 (λ ring. after_post ring (told_as post tag)) rings) o rings ≡ rings
    by None h = refl
    by (Some tag) h = absurd (cc)

pub post-some : (w : Widgets) (rings : List Ring) (post : Post) (posted : Posted) (client : ℕ) → (key_seen w.entries post.id).0 ≡ client → option_map event_of (Some posted) ≡ option_map (told_as post) (tag_of (rows_of w) (key_seen w.entries post.id) post.event) → with_post (rows_of w) rings (post_seen w.entries post) ≡ with_ring client (λ ring. after_post ring (event_of posted)) rings
post-some w rings post posted client owner told = by (tag_of (rows_of w) (key_seen w.entries post.id) post.event) told
  where
    post_to : ℕ → Event → List Ring
    post_to c e = with_ring c (λ ring. after_post ring e) rings

    by : (o : Option (List ℕ)) → option_map event_of (Some posted) ≡ option_map (told_as post) o → option_map_or (λ (tag : List ℕ). post_to (key_seen w.entries post.id).0 (told_as post tag)) o rings ≡ post_to client (event_of posted)
    by None h = absurd (cc)
    by (Some tag) h =
        let same : event_of posted ≡ told_as post tag = cc in
        ap (λ (c : ℕ). post_to c (told_as post tag)) owner ∙ ap (post_to client) (sym same)
