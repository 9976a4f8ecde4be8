-- The look of a widget stays where its row, its linked value and the pointer's hold and focus stay, and then it isn't
-- touched.
use Rattle.std.proofs.Common.{◌≡◌, ℕ, ℤ, Bool, true, false, ◌&&◌, not, List, Option, Some, None, IsSome, refl, sym, ap, ◌∙◌}
use Rattle.std.proofs.lemmas.Bool.{true≢false}
use Rattle.std.specs.Prelude.{unsigned_abs}
use Rattle.std.specs.Option.{option_map_or, option_and_then}
use Rattle.kind_core.specs.declared.kinds.Kind.{Kind}
use Rattle.kind_core.specs.declared.kinds.Kind.TheVariants.{Window, Grid, Frame, Button, Label, Entry, Scale, Scrollbar, Variable, VScreen}
use Rattle.kind_core.specs.declared.kinds.Attr.TheVariants.{Text, Value, Max, Real, View}
use Rattle.kind_core.specs.Effective.{raw_value, scale_value, scrollbar_value, label_text}
use Rattle.look_core.specs.Seen as seen
use Rattle.look_core.specs.Seen.{Seen, no_film}
use Rattle.look_core.specs.Same.{same_look}
use Rattle.look_core.proofs.SameLemmas.{same_are_equal}
use Rattle.stack_core.specs.Stack.{holds_key}
use Rattle.widget_model.specs.Rows.{Row}
use Rattle.widget_model.specs.Named.{row_named}
use Rattle.widget_model.specs.Nodes.{id_named}
use Rattle.widget_model.specs.Trees.{root_of}
use Rattle.widget_model.specs.Widgets.{Widgets, nodes, rows_of, row_at}
use Rattle.tree_core.proofs.Listed.{row_named-row}
use Rattle.scene_model.specs.Scene.{Scene}
use Rattle.scene_model.specs.LookOf.{look_by, look_of, is_held, has_focus}
use Rattle.scene_model.specs.Values.{number_of, text_of, count_of, caret_of, is_vertical, linked_value}
use Rattle.look_data.specs.Kept.{is_shown_at}
use Rattle.touch_rules.specs.Touched.{Numbered, is_shown, is_touched}
use Rattle.touch_rules.specs.Laws.{IsNumbered}

-- a look is made from the row, the linked value, and the pointer's hold and focus
look_by-same : (s s' : Scene) (row : Row) (kind : Kind) → linked_value s'.rows row ≡ linked_value s.rows row → is_held s' row ≡ is_held s row → has_focus s' row ≡ has_focus s row → look_by kind s' row ≡ look_by kind s row
look_by-same s s' row Window value held focus = refl
look_by-same s s' row Grid value held focus = refl
look_by-same s s' row Frame value held focus = refl
look_by-same s s' row Button value held focus = ap (seen.button (text_of Text row)) held
look_by-same s s' row Label value held focus = ap (λ (v : Option ℤ). seen.label (label_text (text_of Text row) v)) value
look_by-same s s' row Entry value held focus = ap (seen.entry (text_of Text row) (caret_of row)) focus
look_by-same s s' row Scale value held focus =
    ap (λ (v : Option ℤ). seen.scale (unsigned_abs (scale_value (raw_value v (number_of Value row)) (number_of Max row))) (count_of Max row) (is_vertical row) (is_held s' row)) value
    ∙ ap (seen.scale (unsigned_abs (scale_value (raw_value (linked_value s.rows row) (number_of Value row)) (number_of Max row))) (count_of Max row) (is_vertical row)) held
look_by-same s s' row Scrollbar value held focus =
    ap (λ (v : Option ℤ). seen.scrollbar (unsigned_abs (scrollbar_value (raw_value v (number_of Value row)) (number_of Real row) (number_of View row))) (count_of Real row) (count_of View row) (is_vertical row) (is_held s' row)) value
    ∙ ap (seen.scrollbar (unsigned_abs (scrollbar_value (raw_value (linked_value s.rows row) (number_of Value row)) (number_of Real row) (number_of View row))) (count_of Real row) (count_of View row) (is_vertical row)) held
look_by-same s s' row VScreen value held focus = refl
look_by-same s s' row Variable value held focus = refl

pub look_of-same : (s s' : Scene) (a b : Row) → b ≡ a → linked_value s'.rows a ≡ linked_value s.rows a → is_held s' a ≡ is_held s a → has_focus s' a ≡ has_focus s a → look_of s' b ≡ look_of s a
unfolding look_of
look_of-same s s' a b same value held focus = ap (λ (row : Row). look_by row.kind s' row) same ∙ look_by-same s s' a a.kind value held focus

-- a numbered row is the one of its name in the scene
pub named-row : (numbered : Numbered) (id : ℕ) (row : Row) → IsNumbered numbered → row_at numbered.widgets.entries id ≡ Some row → row_named numbered.scene.rows row.client row.name ≡ Some row
named-row numbered id row valid there =
    ap (λ (rows : List Row). row_named rows row.client row.name) valid.rows
    ∙ row_named-row numbered.widgets.entries id row valid.widgets.numbered.own_numbers valid.widgets.rows.names there

-- a shown widget is live
pub shown-live : (widgets : Widgets) (windows : List ℕ) (id : ℕ) → is_shown_at widgets windows id ≡ true → IsSome (row_at widgets.entries id)
shown-live widgets windows id shown = by (row_at widgets.entries id) refl
  where
    by : (o : Option Row) → row_at widgets.entries id ≡ o → IsSome (row_at widgets.entries id)
    by None e = absurd (true≢false (sym shown ∙ ap (λ (o : Option Row). option_map_or (holds_key windows) (option_and_then (λ (row : Row). id_named (nodes widgets.entries) row.client (root_of (rows_of widgets) row.client row.name)) o) false) e))
    by (Some row) e = rw e refl

pub not_some : (o : Option Row) → IsSome o → o ≡ None → ⊥
not_some None some none = cc
not_some (Some row) some none = cc

pub own_look : (look : Seen) → same_look look look ≡ true
own_look look = (same_are_equal look look).1 refl

-- a number whose look is the same while it names a widget isn't touched
pub untouched : (before after : Numbered) (id : ℕ) → ((a b : Row) → row_at before.widgets.entries id ≡ Some a → row_at after.widgets.entries id ≡ Some b → look_of after.scene b ≡ look_of before.scene a) → is_touched before after id ≡ false
untouched before after id same =
    by (is_shown before id) (is_shown after id) (row_at before.widgets.entries id) (row_at after.widgets.entries id) (shown-live before.widgets before.windows id) (shown-live after.widgets after.windows id) same
  where
    by : (shown shown' : Bool) (o p : Option Row) → (shown ≡ true → IsSome o) → (shown' ≡ true → IsSome p) → ((a b : Row) → o ≡ Some a → p ≡ Some b → look_of after.scene b ≡ look_of before.scene a)
        → (shown && (shown' && not (same_look (option_map_or (look_of before.scene) o no_film) (option_map_or (look_of after.scene) p no_film)))) ≡ false
    by false shown' o p there there' same = refl
    by true false o p there there' same = refl
    by true true None p there there' same = absurd (not_some None (there refl) refl)
    by true true (Some a) None there there' same = absurd (not_some None (there' refl) refl)
    by true true (Some a) (Some b) there there' same = ap (λ (look : Seen). not (same_look (look_of before.scene a) look)) (same a b refl refl) ∙ ap not (own_look (look_of before.scene a))
