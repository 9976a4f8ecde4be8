-- The rows of the table once their case is known, and what contracts see of the events that are posted.
use Rattle.std.proofs.Common.{ℕ, ℤ, pos, ◌-ℤ◌, ◌≡◌, Bool, true, false, cond, ◌&&◌, int_lt, List, [], ◌++◌, map, length, Option, Some, None, unsigned_abs, IfSome, subst, refl, sym, ap, ap₂, ◌∙◌}
use Rattle.std.specs.Option.{option_map, option_and_then, option_map_or, option_to_list}
use Rattle.std.specs.List.{All}
use Rattle.std.specs.Ordering.{int_eq}
use Rattle.std.proofs.lemmas.List.Elements.{All-nil, All-cons}
use Rattle.kind_core.specs.declared.kinds.Kind.{Kind}
use Rattle.kind_core.specs.declared.kinds.Kind.TheVariants.{Entry}
use Rattle.kind_core.specs.declared.kinds.Attr.TheVariants.{X, Y, Text}
use Rattle.kind_core.specs.declared.kinds.EventKind.TheVariants.{Key, Change, Move}
use Rattle.kind_core.specs.Attributes.{minus}
use Rattle.kind_core.specs.Effective.{clamp}
use Rattle.geom_core.specs.declared.rectangle.Rect.{Rect}
use Rattle.widget_model.specs.Rows.{Row}
use Rattle.widget_model.specs.Widgets.{Widgets, IsLive}
use Rattle.widget_model.specs.Keys.{key_of}
use Rattle.widget_model.specs.Pointer.{Pointer, drags}
use Rattle.scene_model.specs.Values.{number_of, text_of, caret_of}
use Rattle.desk_model.specs.InputEffects.{Effects, only_pointer, posted, local_x, local_y}
use Rattle.desk_model.specs.InputEdits.{Edit, edit_of, caret_at}
use Rattle.desk_model.specs.InputTable.{dragged, grabbed_title, press_on, key_on_entry}
use Rattle.input_core.specs.declared.posts.Post.{Post}
use Rattle.input_core.specs.Seen.{post_seen}

-- one event, and two
pub one_post : (es : List (ℕ × Row)) (first : Option Post) → map (post_seen es) (option_to_list first ++ []) ≡ map (post_seen es) (option_to_list first)
one_post es None = refl
one_post es (Some post) = refl

pub two_posts : (es : List (ℕ × Row)) (first second : Option Post) → map (post_seen es) (option_to_list first ++ option_to_list second) ≡ map (post_seen es) (option_to_list first) ++ map (post_seen es) (option_to_list second)
two_posts es None second = refl
two_posts es (Some post) second = refl

-- a Window that moves
pub dragged-moves : (pointer : Pointer) (dx dy : ℕ) (row : Row) (x y : ℤ) → x ≡ clamp (pos pointer.x -ℤ pos dx) (minus 1024) (pos 1024) → y ≡ clamp (pos pointer.y -ℤ pos dy) (minus 1024) (pos 1024) → (int_eq x (number_of X row) && int_eq y (number_of Y row)) ≡ false → dragged pointer dx dy row ≡ record (only_pointer pointer) { moved = Some (key_of row, x, y); posts = posted Move x y row }
unfolding dragged
dragged-moves pointer dx dy row x y x_is y_is apart =
    ap (λ (b : Bool). cond b (only_pointer pointer) (goes (clamp (pos pointer.x -ℤ pos dx) (minus 1024) (pos 1024)) (clamp (pos pointer.y -ℤ pos dy) (minus 1024) (pos 1024)))) (ap₂ (λ (a b : ℤ). int_eq a (number_of X row) && int_eq b (number_of Y row)) (sym x_is) (sym y_is) ∙ apart)
    ∙ ap₂ goes (sym x_is) (sym y_is)
  where
    goes : ℤ → ℤ → Effects
    goes x y = record (only_pointer pointer) { moved = Some (key_of row, x, y); posts = posted Move x y row }

-- a press on a title
pub grabbed_title-there : (pointer : Pointer) (place : Rect) (row : Row) (effects : Effects) → int_lt (local_y pointer place) (pos 12) ≡ true → grabbed_title pointer place row effects ≡ record effects { pointer = record effects.pointer { grab = drags (key_of row) (unsigned_abs (local_x pointer place)) (unsigned_abs (local_y pointer place)) } }
unfolding grabbed_title
grabbed_title-there pointer place row effects there =
    ap (λ (b : Bool). cond b (record effects { pointer = record effects.pointer { grab = drags (key_of row) (unsigned_abs (local_x pointer place)) (unsigned_abs (local_y pointer place)) } }) effects) there

-- a press on an Entry
pub press_on-entry : (kind : Kind) (rows : List Row) (pointer : Pointer) (place : Rect) (row : Row) (effects : Effects) → kind ≡ Entry → press_on kind rows pointer place row effects ≡ record effects { caret = Some (key_of row, pos (caret_at (local_x pointer place) (length (text_of Text row)))) }
unfolding press_on
press_on-entry kind rows pointer place row effects is = ap (λ (k : Kind). press_on k rows pointer place row effects) is

-- a key in an Entry, by its edit
pub key_on_entry-edit : (pointer : Pointer) (byte : ℕ) (row : Row) (edit : Option Edit) → edit ≡ edit_of byte (text_of Text row) (caret_of row) → key_on_entry pointer byte row ≡ record (only_pointer pointer) { text = option_map (λ (text : List ℕ). (key_of row, text)) (option_and_then (λ (e : Edit). e.text) edit); caret = option_map (λ (e : Edit). (key_of row, pos e.caret)) edit; posts = posted Key (pos byte) (pos 0) row ++ option_map_or (λ (text : List ℕ). posted Change (pos (length text)) (pos 0) row) (option_and_then (λ (e : Edit). e.text) edit) [] }
unfolding key_on_entry
key_on_entry-edit pointer byte row edit is = ap by (sym is)
  where
    by : Option Edit → Effects
    by edit = record (only_pointer pointer) { text = option_map (λ (text : List ℕ). (key_of row, text)) (option_and_then (λ (e : Edit). e.text) edit); caret = option_map (λ (e : Edit). (key_of row, pos e.caret)) edit; posts = posted Key (pos byte) (pos 0) row ++ option_map_or (λ (text : List ℕ). posted Change (pos (length text)) (pos 0) row) (option_and_then (λ (e : Edit). e.text) edit) [] }

-- each number among one or two posts is live
pub live_posts : (w : Widgets) (first second : Option Post) (posts : List Post) → posts ≡ option_to_list first ++ option_to_list second → IfSome first (λ (post : Post). IsLive w post.id.key) → IfSome second (λ (post : Post). IsLive w post.id.key) → All (λ (post : Post). IsLive w post.id.key) posts
live_posts w first second posts is h k = subst (All (λ (post : Post). IsLive w post.id.key)) (sym is) (by first second h k)
  where
    one : (o : Option Post) → IfSome o (λ (post : Post). IsLive w post.id.key) → All (λ (post : Post). IsLive w post.id.key) (option_to_list o)
    one None h = All-nil (λ (post : Post). IsLive w post.id.key)
    one (Some post) h = All-cons (λ (post : Post). IsLive w post.id.key) post [] h (All-nil (λ (post : Post). IsLive w post.id.key))

    by : (first second : Option Post) → IfSome first (λ (post : Post). IsLive w post.id.key) → IfSome second (λ (post : Post). IsLive w post.id.key) → All (λ (post : Post). IsLive w post.id.key) (option_to_list first ++ option_to_list second)
    by None second h k = one second k
    by (Some post) second h k = All-cons (λ (post : Post). IsLive w post.id.key) post (option_to_list second) h (one second k)
