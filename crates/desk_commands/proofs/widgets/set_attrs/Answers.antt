use Rattle.std.proofs.Common.{◌≡◌, [], None, take, refl, sym, ap, ◌∙◌}
use Rattle.kind_core.specs.declared.kinds.Attr.{Attr}
use Rattle.kind_core.specs.declared.values.Value as value
use Rattle.widget_model.specs.Rows.{Row, with_attr}
use Rattle.desk_model.specs.AttrOptions.{attr_refusal, with_attrs}
use Rattle.widget_model.specs.Widgets.{Widgets, row_at, row_kind, edited}
use Rattle.desk_commands.proofs.Edits.{edited-same, row_kind-with_row}
use Rattle.desk_commands.proofs.AttrSteps.{first_refusal-none, never_refused, edited-with_attrs_more}
use Rattle.desk_commands.proofs.widgets.set_attrs.Goals as goal

pub loop-option-init : goal.loop-option-init
loop-option-init c = record { set = sym (edited-same c.args.tree.now c.args.id.key (with_attrs []) (λ row. refl)); valid = c.requires.valid; kind = c.requires.kind }

pub unreachable-requires : goal.unreachable-requires
unreachable-requires c =
    let allowed : attr_refusal c.args.kind c.option-item.result ≡ None = ap (attr_refusal c.args.kind) c.option-item.is ∙ first_refusal-none (attr_refusal c.args.kind) c.args.options.now c.loop-option.option-index c.option-item.result c.loop-option-test.true c.requires.allowed in
    never_refused (row_at c.loop-option.tree.entries c.args.id.key) c.args.kind c.option-item.result c.in-Err.field-0 c.loop-option.invariant.kind c.in-Err.ensures.answer allowed

pub loop-option-preserved : goal.loop-option-preserved
loop-option-preserved c =
    let option = c.option-item.result in
    let at = c.loop-option.option-index in
    let xs = c.args.options.now in
    let change : Attr × value.Value → Row → Row = λ o. with_attr o.0 o.1 in
    let left : c.set_attr.new.self ≡ edited c.args.id.key (with_attr option.0 option.1) c.loop-option.tree = c.in-Ok.ensures.ok in
    record {
      set =
          left
          ∙ ap (edited c.args.id.key (with_attr option.0 option.1)) c.loop-option.invariant.set
          ∙ ap (λ (o : Attr × value.Value). edited c.args.id.key (with_attr o.0 o.1) (edited c.args.id.key (with_attrs (take at xs)) c.args.tree.now)) c.option-item.is
          ∙ edited-with_attrs_more c.args.tree.now c.args.id.key xs at option c.loop-option-test.true;
      valid = c.in-Ok.ensures.valid;
      kind = ap (λ (w : Widgets). row_kind w.entries c.args.id.key) left ∙ row_kind-with_row c.loop-option.tree.entries c.args.id.key (with_attr option.0 option.1) c.args.id.key (λ row. refl) ∙ c.loop-option.invariant.kind;
    }
