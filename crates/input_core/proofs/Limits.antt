-- The limits of a live row's numbers, from its kind's table.
use Rattle.std.proofs.Common.{ℕ, slice_get, ◌≡◌, ◌≤◌, true, Some, is_some, refl, sym, ap, ◌∙◌}
use Rattle.kind_core.specs.declared.kinds.Kind.{Kind}
use Rattle.kind_core.specs.declared.kinds.Kind.TheVariants.{Scrollbar}
use Rattle.kind_core.specs.declared.kinds.Attr.{Attr}
use Rattle.kind_core.specs.declared.kinds.Attr.TheVariants.{Max, Real, View}
use Rattle.widget_model.specs.Rows.{all_attrs, attr_of, attr_slot}
use Rattle.widget_model.specs.Fitting.{is_fit, fits_attr}
use Rattle.widget_model.specs.Widgets.{Widgets, row_at}
use Rattle.widget_model.specs.Forest.{IsWidgets}
use Rattle.scene_model.specs.Values.{count_of}
use Rattle.widget_model.proofs.Fit.{IsFit-is_fit}
use Rattle.desk_model.proofs.Limits.{max_fits, real_fits, view_fits, real_starts}
use Rattle.desk_model.proofs.Limits as limits
use Rattle.input_core.specs.Numbered.{numbered}
use Rattle.input_core.proofs.Numbers.{all_numbered}

-- the attribute of a live row fits the table
attr_fits : (w : Widgets) (id : ℕ) (attr : Attr) → slice_get all_attrs (attr_slot attr) ≡ Some attr → IsWidgets w → is_some (row_at w.entries id) ≡ true → fits_attr (numbered w.entries id).kind attr (attr_of (numbered w.entries id) attr) ≡ true
attr_fits w id attr there kept live =
    let row = numbered w.entries id in
    limits.attr_fits row attr there (IsFit-is_fit row (all_numbered is_fit w id kept.rows.fitting live)).table

pub max_most : (w : Widgets) (id : ℕ) → IsWidgets w → is_some (row_at w.entries id) ≡ true → count_of Max (numbered w.entries id) ≤ 10000
max_most w id kept live = max_fits (numbered w.entries id).kind (attr_of (numbered w.entries id) Max) (attr_fits w id Max refl kept live)

pub real_most : (w : Widgets) (id : ℕ) → IsWidgets w → is_some (row_at w.entries id) ≡ true → count_of Real (numbered w.entries id) ≤ 10000
real_most w id kept live = real_fits (numbered w.entries id).kind (attr_of (numbered w.entries id) Real) (attr_fits w id Real refl kept live)

pub view_most : (w : Widgets) (id : ℕ) → IsWidgets w → is_some (row_at w.entries id) ≡ true → count_of View (numbered w.entries id) ≤ 10000
view_most w id kept live = view_fits (numbered w.entries id).kind (attr_of (numbered w.entries id) View) (attr_fits w id View refl kept live)

pub real_least : (w : Widgets) (id : ℕ) → IsWidgets w → is_some (row_at w.entries id) ≡ true → (numbered w.entries id).kind ≡ Scrollbar → 1 ≤ count_of Real (numbered w.entries id)
real_least w id kept live is = real_starts (attr_of (numbered w.entries id) Real) (ap (λ (kind : Kind). fits_attr kind Real (attr_of (numbered w.entries id) Real)) (sym is) ∙ attr_fits w id Real refl kept live)
