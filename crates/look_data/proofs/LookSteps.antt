-- What a row's numbers make up, and the look of a row by its kind.
use Rattle.std.proofs.Common.{◌≡◌, ℕ, ℤ, List, ap, sym, ◌∙◌}
use Rattle.std.specs.Prelude.{Some, unsigned_abs}
use Rattle.std.specs.Option.{option_map}
use Rattle.kind_core.specs.declared.kinds.Kind.{Kind}
use Rattle.kind_core.specs.declared.kinds.Attr.TheVariants.{Value, Max, Real, View}
use Rattle.kind_core.specs.Effective.{raw_value, scale_value, scrollbar_value}
use Rattle.look_core.specs.Seen.{Seen}
use Rattle.look_data.specs.Data.{but_bytes}
use Rattle.widget_model.specs.Rows.{Row}
use Rattle.widget_model.specs.Widgets.{Widgets, row_at, IsLive}
use Rattle.scene_model.specs.Scene.{Scene}
use Rattle.scene_model.specs.LookOf.{look_by, look_of}
use Rattle.scene_model.specs.Values.{number_of, linked_value, scale_of, scrollbar_of}
use Rattle.scene_core.specs.Children.{row_for}
use Rattle.scene_core.proofs.Numbered.{live-there}

-- the value that a Scale or Scrollbar shows, from what its row says
pub scaled : (rows : List Row) (row : Row) (value : ℕ) (a b s raw max shown : ℤ) → a ≡ raw → b ≡ max → s ≡ shown → shown ≡ scale_value a b → value ≡ unsigned_abs s → raw ≡ raw_value (linked_value rows row) (number_of Value row) → max ≡ number_of Max row → value ≡ unsigned_abs (scale_of rows row)
scaled rows row value a b s raw max shown ea eb es is v r m =
    v ∙ ap unsigned_abs (es ∙ is ∙ ap (λ (p : ℤ). scale_value p b) (ea ∙ r) ∙ ap (λ (p : ℤ). scale_value (raw_value (linked_value rows row) (number_of Value row)) p) (eb ∙ m))

pub scrolled : (rows : List Row) (row : Row) (value : ℕ) (a b d s raw real view shown : ℤ) → a ≡ raw → b ≡ real → d ≡ view → s ≡ shown → shown ≡ scrollbar_value a b d → value ≡ unsigned_abs s → raw ≡ raw_value (linked_value rows row) (number_of Value row) → real ≡ number_of Real row → view ≡ number_of View row → value ≡ unsigned_abs (scrollbar_of rows row)
scrolled rows row value a b d s raw real view shown ea eb ed es is v r m w =
    v ∙ ap unsigned_abs (es ∙ is ∙ ap (λ (p : ℤ). scrollbar_value p b d) (ea ∙ r) ∙ ap (λ (p : ℤ). scrollbar_value (raw_value (linked_value rows row) (number_of Value row)) p d) (eb ∙ m) ∙ ap (λ (p : ℤ). scrollbar_value (raw_value (linked_value rows row) (number_of Value row)) (number_of Real row) p) (ed ∙ w))

-- the look of a live row, from that of its kind
pub look-kind : (widgets : Widgets) (scene : Scene) (id : ℕ) (kind : Kind) (shown : Seen) → IsLive widgets id → (row_for widgets id).kind ≡ kind → shown ≡ but_bytes (look_by kind scene (row_for widgets id)) → option_map (λ (row : Row). but_bytes (look_of scene row)) (row_at widgets.entries id) ≡ Some shown
unfolding look_of
look-kind widgets scene id kind shown live is look =
    let row = row_for widgets id in
    ap (option_map (λ (row : Row). but_bytes (look_of scene row))) (live-there widgets id live)
    ∙ ap (λ (k : Kind). Some (but_bytes (look_by k scene row))) is
    ∙ ap Some (sym look)
