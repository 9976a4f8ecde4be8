use Rattle.std.proofs.Common.{◌≡◌, ℤ, List, Some, None, refl, ap, subst, rules, to_z, of_z, SFits, w32}
use Rattle.std.proofs.lemmas.Int.{to_z-of_z}
use Rattle.kind_core.specs.declared.kinds.Attr.{Attr}
use Rattle.kind_core.specs.declared.values.Value as value
use Rattle.cmd_words.specs.declared.commands.ConfigOption.{ConfigOption}
use Rattle.cmd_words.specs.declared.commands.PlaceOption.{PlaceOption}
use Rattle.cmd_words.specs.declared.commands.Command.TheVariants.{New, Set, Get, Place, Lift, ColumnConfig, RowConfig, Link, Unlink, Bind, Unbind, OpenWindow, CloseWindow, TopWindow, Mode, Admit, Leave, SendFrame, DropWidget}
use Rattle.desk_model.specs.WidgetCommands.{step_new, step_set, step_get, step_drop}
use Rattle.desk_model.specs.Placement.{step_place, step_lift}
use Rattle.scene_model.specs.declared.axis.Axis.TheVariants.{Across, Down}
use Rattle.desk_model.specs.Tracks.{step_track}
use Rattle.desk_model.specs.Links.{step_link, step_unlink}
use Rattle.desk_model.specs.Bindings.{step_bind}
use Rattle.desk_model.specs.Windows.{step_open, step_close, step_top}
use Rattle.desk_model.specs.Screens.{step_mode, step_admit, step_leave, step_frame}
use Rattle.desk_model.specs.Refusals.{is_memory}
use Rattle.desk_commands.specs.Effects.{Did, DidListed}
use Rattle.desk_commands.proofs.CommandSteps.{row_did, obeyed, obeyed_roster}
use Rattle.desk_commands.proofs.Changes.{tells_all, tells_listed}
use Rattle.desk_commands.proofs.commands.obey.Goals as goal

pub returns-in-New-clause-did : goal.returns-in-New-clause-did
returns-in-New-clause-did c =
    obeyed c.args.client c.args.payload.now c.args.command.now (New c.in-New.name c.in-New.kind) (λ desk. step_new desk c.args.client c.in-New.name c.in-New.kind (is_memory c.make.result.reply)) c.args.tree.now c.make.new.tree c.args.windows.now c.args.roster.now c.make.result.reply
    c.in-New.is (λ desk. refl)
    c.make.ensures.did c.requires.parts c.make.ensures.valid c.requires.listed

pub returns-in-Set-clause-did : goal.returns-in-Set-clause-did
returns-in-Set-clause-did c =
    obeyed c.args.client c.args.payload.now c.args.command.now (Set c.in-Set.name c.in-Set.options) (λ desk. step_set desk c.args.client c.in-Set.name c.as_slice.result.now) c.args.tree.now c.set.new.tree c.args.windows.now c.args.roster.now c.set.result.reply
    c.in-Set.is (λ desk. ap (λ (options : List (Attr × value.Value)). step_set desk c.args.client c.in-Set.name options) c.as_slice.ensures.items)
    c.set.ensures.did c.requires.parts c.set.ensures.valid c.requires.listed

pub returns-in-Get-clause-did : goal.returns-in-Get-clause-did
returns-in-Get-clause-did c =
    obeyed c.args.client c.args.payload.now c.args.command.now (Get c.in-Get.name c.in-Get.attr) (λ desk. step_get desk c.args.client c.in-Get.name c.in-Get.attr) c.args.tree.now c.args.tree.now c.args.windows.now c.args.roster.now c.get.result.reply
    c.in-Get.is (λ desk. refl)
    c.get.ensures.did c.requires.parts c.get.ensures.valid c.requires.listed

pub returns-in-Place-clause-did : goal.returns-in-Place-clause-did
returns-in-Place-clause-did c =
    obeyed c.args.client c.args.payload.now c.args.command.now (Place c.in-Place.parent c.in-Place.child c.in-Place.options) (λ desk. step_place desk c.args.client c.in-Place.parent c.in-Place.child c.as_slice-in-Place.result.now) c.args.tree.now c.place.new.tree c.args.windows.now c.args.roster.now c.place.result.reply
    c.in-Place.is (λ desk. ap (λ (options : List (PlaceOption × ℤ)). step_place desk c.args.client c.in-Place.parent c.in-Place.child options) c.as_slice-in-Place.ensures.items)
    c.place.ensures.did c.requires.parts c.place.ensures.valid c.requires.listed

pub returns-in-Lift-clause-did : goal.returns-in-Lift-clause-did
returns-in-Lift-clause-did c =
    obeyed c.args.client c.args.payload.now c.args.command.now (Lift c.in-Lift.parent c.in-Lift.child) (λ desk. step_lift desk c.args.client c.in-Lift.parent c.in-Lift.child) c.args.tree.now c.lift.new.tree c.args.windows.now c.args.roster.now c.lift.result.reply
    c.in-Lift.is (λ desk. refl)
    c.lift.ensures.did c.requires.parts c.lift.ensures.valid c.requires.listed

pub returns-in-ColumnConfig-clause-did : goal.returns-in-ColumnConfig-clause-did
returns-in-ColumnConfig-clause-did c =
    let fits : SFits w32 c.in-ColumnConfig.index = search rules in
    let plain : to_z w32 (of_z w32 c.in-ColumnConfig.index) ≡ c.in-ColumnConfig.index = to_z-of_z w32 c.in-ColumnConfig.index fits in
    let P : ℤ → Type 0 = λ index. Did (λ desk. step_track Across desk c.args.client c.in-ColumnConfig.name index c.as_slice-in-ColumnConfig.result.now) c.args.tree.now c.rule_track.new.tree c.rule_track.result.reply in
    obeyed c.args.client c.args.payload.now c.args.command.now (ColumnConfig c.in-ColumnConfig.name c.in-ColumnConfig.index c.in-ColumnConfig.options) (λ desk. step_track Across desk c.args.client c.in-ColumnConfig.name c.in-ColumnConfig.index c.as_slice-in-ColumnConfig.result.now) c.args.tree.now c.rule_track.new.tree c.args.windows.now c.args.roster.now c.rule_track.result.reply
    c.in-ColumnConfig.is (λ desk. ap (λ (options : List (ConfigOption × ℤ)). step_track Across desk c.args.client c.in-ColumnConfig.name c.in-ColumnConfig.index options) c.as_slice-in-ColumnConfig.ensures.items)
    (subst P plain c.rule_track.ensures.did) c.requires.parts c.rule_track.ensures.valid c.requires.listed

pub returns-in-RowConfig-clause-did : goal.returns-in-RowConfig-clause-did
returns-in-RowConfig-clause-did c =
    let fits : SFits w32 c.in-RowConfig.index = search rules in
    let plain : to_z w32 (of_z w32 c.in-RowConfig.index) ≡ c.in-RowConfig.index = to_z-of_z w32 c.in-RowConfig.index fits in
    let P : ℤ → Type 0 = λ index. Did (λ desk. step_track Down desk c.args.client c.in-RowConfig.name index c.as_slice-in-RowConfig.result.now) c.args.tree.now c.rule_track-in-RowConfig.new.tree c.rule_track-in-RowConfig.result.reply in
    obeyed c.args.client c.args.payload.now c.args.command.now (RowConfig c.in-RowConfig.name c.in-RowConfig.index c.in-RowConfig.options) (λ desk. step_track Down desk c.args.client c.in-RowConfig.name c.in-RowConfig.index c.as_slice-in-RowConfig.result.now) c.args.tree.now c.rule_track-in-RowConfig.new.tree c.args.windows.now c.args.roster.now c.rule_track-in-RowConfig.result.reply
    c.in-RowConfig.is (λ desk. ap (λ (options : List (ConfigOption × ℤ)). step_track Down desk c.args.client c.in-RowConfig.name c.in-RowConfig.index options) c.as_slice-in-RowConfig.ensures.items)
    (subst P plain c.rule_track-in-RowConfig.ensures.did) c.requires.parts c.rule_track-in-RowConfig.ensures.valid c.requires.listed

pub returns-in-Link-clause-did : goal.returns-in-Link-clause-did
returns-in-Link-clause-did c =
    obeyed c.args.client c.args.payload.now c.args.command.now (Link c.in-Link.name c.in-Link.variable) (λ desk. step_link desk c.args.client c.in-Link.name c.in-Link.variable) c.args.tree.now c.link.new.tree c.args.windows.now c.args.roster.now c.link.result.reply
    c.in-Link.is (λ desk. refl)
    c.link.ensures.did c.requires.parts c.link.ensures.valid c.requires.listed

pub returns-in-Unlink-clause-did : goal.returns-in-Unlink-clause-did
returns-in-Unlink-clause-did c =
    obeyed c.args.client c.args.payload.now c.args.command.now (Unlink c.in-Unlink.name) (λ desk. step_unlink desk c.args.client c.in-Unlink.name) c.args.tree.now c.unlink.new.tree c.args.windows.now c.args.roster.now c.unlink.result.reply
    c.in-Unlink.is (λ desk. refl)
    c.unlink.ensures.did c.requires.parts c.unlink.ensures.valid c.requires.listed

pub returns-in-Bind-clause-did : goal.returns-in-Bind-clause-did
returns-in-Bind-clause-did c =
    obeyed c.args.client c.args.payload.now c.args.command.now (Bind c.in-Bind.name c.in-Bind.event c.in-Bind.tag) (λ desk. step_bind desk c.args.client c.in-Bind.name c.in-Bind.event (Some c.in-Bind.tag)) c.args.tree.now c.bind.new.tree c.args.windows.now c.args.roster.now c.bind.result.reply
    c.in-Bind.is (λ desk. refl)
    c.bind.ensures.did c.requires.parts c.bind.ensures.valid c.requires.listed

pub returns-in-Unbind-clause-did : goal.returns-in-Unbind-clause-did
returns-in-Unbind-clause-did c =
    obeyed c.args.client c.args.payload.now c.args.command.now (Unbind c.in-Unbind.name c.in-Unbind.event) (λ desk. step_bind desk c.args.client c.in-Unbind.name c.in-Unbind.event None) c.args.tree.now c.bind-in-Unbind.new.tree c.args.windows.now c.args.roster.now c.bind-in-Unbind.result.reply
    c.in-Unbind.is (λ desk. refl)
    c.bind-in-Unbind.ensures.did c.requires.parts c.bind-in-Unbind.ensures.valid c.requires.listed

pub returns-in-OpenWindow-clause-did : goal.returns-in-OpenWindow-clause-did
returns-in-OpenWindow-clause-did c =
    row_did c.args.client c.args.payload.now c.args.command.now (OpenWindow c.in-OpenWindow.name) (λ desk. step_open desk c.args.client c.in-OpenWindow.name) c.args.tree.now c.args.tree.now c.args.windows.now c.open_window.new.windows c.args.roster.now c.open_window.result.reply
    c.in-OpenWindow.is (λ desk. refl)
    c.open_window.ensures.did c.requires.listed

pub returns-in-CloseWindow-clause-did : goal.returns-in-CloseWindow-clause-did
returns-in-CloseWindow-clause-did c =
    row_did c.args.client c.args.payload.now c.args.command.now (CloseWindow c.in-CloseWindow.name) (λ desk. step_close desk c.args.client c.in-CloseWindow.name) c.args.tree.now c.args.tree.now c.args.windows.now c.close_window.new.windows c.args.roster.now c.close_window.result.reply
    c.in-CloseWindow.is (λ desk. refl)
    c.close_window.ensures.did c.requires.listed

pub returns-in-TopWindow-clause-did : goal.returns-in-TopWindow-clause-did
returns-in-TopWindow-clause-did c =
    row_did c.args.client c.args.payload.now c.args.command.now (TopWindow c.in-TopWindow.name) (λ desk. step_top desk c.args.client c.in-TopWindow.name) c.args.tree.now c.args.tree.now c.args.windows.now c.top_window.new.windows c.args.roster.now c.top_window.result.reply
    c.in-TopWindow.is (λ desk. refl)
    c.top_window.ensures.did c.requires.listed

pub returns-in-DropWidget-clause-did : goal.returns-in-DropWidget-clause-did
returns-in-DropWidget-clause-did c =
    row_did c.args.client c.args.payload.now c.args.command.now (DropWidget c.in-DropWidget.name) (λ desk. step_drop desk c.args.client c.in-DropWidget.name) c.args.tree.now c.drop_widget.new.tree c.args.windows.now c.args.windows.now c.args.roster.now c.drop_widget.result.reply
    c.in-DropWidget.is (λ desk. refl)
    c.drop_widget.ensures.did c.requires.listed

pub returns-in-New-clause-tells : goal.returns-in-New-clause-tells
returns-in-New-clause-tells c =
    tells_all _ c.args.tree.now c.make.new.tree c.args.windows.now c.make.result.reply c.make.result.changed c.make.ensures.did c.requires.parts.windows c.make.ensures.tells

pub returns-in-Set-clause-tells : goal.returns-in-Set-clause-tells
returns-in-Set-clause-tells c =
    tells_all _ c.args.tree.now c.set.new.tree c.args.windows.now c.set.result.reply c.set.result.changed c.set.ensures.did c.requires.parts.windows c.set.ensures.tells

pub returns-in-Place-clause-tells : goal.returns-in-Place-clause-tells
returns-in-Place-clause-tells c =
    tells_all _ c.args.tree.now c.place.new.tree c.args.windows.now c.place.result.reply c.place.result.changed c.place.ensures.did c.requires.parts.windows c.place.ensures.tells

pub returns-in-Lift-clause-tells : goal.returns-in-Lift-clause-tells
returns-in-Lift-clause-tells c =
    tells_all _ c.args.tree.now c.lift.new.tree c.args.windows.now c.lift.result.reply c.lift.result.changed c.lift.ensures.did c.requires.parts.windows c.lift.ensures.tells

pub returns-in-ColumnConfig-clause-tells : goal.returns-in-ColumnConfig-clause-tells
returns-in-ColumnConfig-clause-tells c =
    tells_all _ c.args.tree.now c.rule_track.new.tree c.args.windows.now c.rule_track.result.reply c.rule_track.result.changed c.rule_track.ensures.did c.requires.parts.windows c.rule_track.ensures.tells

pub returns-in-RowConfig-clause-tells : goal.returns-in-RowConfig-clause-tells
returns-in-RowConfig-clause-tells c =
    tells_all _ c.args.tree.now c.rule_track-in-RowConfig.new.tree c.args.windows.now c.rule_track-in-RowConfig.result.reply c.rule_track-in-RowConfig.result.changed c.rule_track-in-RowConfig.ensures.did c.requires.parts.windows c.rule_track-in-RowConfig.ensures.tells

pub returns-in-Link-clause-tells : goal.returns-in-Link-clause-tells
returns-in-Link-clause-tells c =
    tells_all _ c.args.tree.now c.link.new.tree c.args.windows.now c.link.result.reply c.link.result.changed c.link.ensures.did c.requires.parts.windows c.link.ensures.tells

pub returns-in-Unlink-clause-tells : goal.returns-in-Unlink-clause-tells
returns-in-Unlink-clause-tells c =
    tells_all _ c.args.tree.now c.unlink.new.tree c.args.windows.now c.unlink.result.reply c.unlink.result.changed c.unlink.ensures.did c.requires.parts.windows c.unlink.ensures.tells

pub returns-in-Bind-clause-tells : goal.returns-in-Bind-clause-tells
returns-in-Bind-clause-tells c =
    tells_all _ c.args.tree.now c.bind.new.tree c.args.windows.now c.bind.result.reply c.bind.result.changed c.bind.ensures.did c.requires.parts.windows c.bind.ensures.tells

pub returns-in-Unbind-clause-tells : goal.returns-in-Unbind-clause-tells
returns-in-Unbind-clause-tells c =
    tells_all _ c.args.tree.now c.bind-in-Unbind.new.tree c.args.windows.now c.bind-in-Unbind.result.reply c.bind-in-Unbind.result.changed c.bind-in-Unbind.ensures.did c.requires.parts.windows c.bind-in-Unbind.ensures.tells

pub returns-in-Mode-clause-did : goal.returns-in-Mode-clause-did
returns-in-Mode-clause-did c =
    let fits : SFits w32 c.in-Mode.w = search rules in
    let fits_h : SFits w32 c.in-Mode.h = search rules in
    let plain : to_z w32 (of_z w32 c.in-Mode.w) ≡ c.in-Mode.w = to_z-of_z w32 c.in-Mode.w fits in
    let plain_h : to_z w32 (of_z w32 c.in-Mode.h) ≡ c.in-Mode.h = to_z-of_z w32 c.in-Mode.h fits_h in
    let reply = c.set_mode.result.reply in
    let P : ℤ → ℤ → Type 0 = λ w h. Did (λ desk. step_mode desk c.args.client c.in-Mode.name w h (is_memory reply)) c.args.tree.now c.set_mode.new.tree reply in
    obeyed c.args.client c.args.payload.now c.args.command.now (Mode c.in-Mode.name c.in-Mode.w c.in-Mode.h) (λ desk. step_mode desk c.args.client c.in-Mode.name c.in-Mode.w c.in-Mode.h (is_memory reply)) c.args.tree.now c.set_mode.new.tree c.args.windows.now c.args.roster.now reply
    c.in-Mode.is (λ desk. refl)
    (subst (P c.in-Mode.w) plain_h (subst (λ (w : ℤ). P w (to_z w32 (of_z w32 c.in-Mode.h))) plain c.set_mode.ensures.did)) c.requires.parts c.set_mode.ensures.valid c.requires.listed

pub returns-in-Admit-clause-did : goal.returns-in-Admit-clause-did
returns-in-Admit-clause-did c =
    let fits : SFits w32 c.in-Admit.period = search rules in
    let plain : to_z w32 (of_z w32 c.in-Admit.period) ≡ c.in-Admit.period = to_z-of_z w32 c.in-Admit.period fits in
    let P : ℤ → Type 0 = λ period. DidListed (λ desk. step_admit desk c.args.client c.in-Admit.name period) c.args.tree.now c.admit.new.tree c.args.roster.now c.admit.new.roster c.admit.result.reply in
    obeyed_roster c.args.client c.args.payload.now c.args.command.now (Admit c.in-Admit.name c.in-Admit.period) (λ desk. step_admit desk c.args.client c.in-Admit.name c.in-Admit.period) c.args.tree.now c.admit.new.tree c.args.windows.now c.args.roster.now c.admit.new.roster c.admit.result.reply
    c.in-Admit.is (λ desk. refl)
    (subst P plain c.admit.ensures.did) c.requires.parts c.admit.ensures.valid

pub returns-in-Leave-clause-did : goal.returns-in-Leave-clause-did
returns-in-Leave-clause-did c =
    obeyed_roster c.args.client c.args.payload.now c.args.command.now (Leave c.in-Leave.name) (λ desk. step_leave desk c.args.client c.in-Leave.name) c.args.tree.now c.leave.new.tree c.args.windows.now c.args.roster.now c.leave.new.roster c.leave.result.reply
    c.in-Leave.is (λ desk. refl)
    c.leave.ensures.did c.requires.parts c.leave.ensures.valid

pub returns-in-SendFrame-clause-did : goal.returns-in-SendFrame-clause-did
returns-in-SendFrame-clause-did c =
    obeyed c.args.client c.args.payload.now c.args.command.now (SendFrame c.in-SendFrame.name c.in-SendFrame.size) (λ desk. step_frame desk c.args.client c.in-SendFrame.name c.args.payload.now) c.args.tree.now c.take_frame.new.tree c.args.windows.now c.args.roster.now c.take_frame.result.reply
    c.in-SendFrame.is (λ desk. refl)
    c.take_frame.ensures.did c.requires.parts c.take_frame.ensures.valid c.requires.listed

pub returns-in-Mode-clause-tells : goal.returns-in-Mode-clause-tells
returns-in-Mode-clause-tells c =
    tells_all _ c.args.tree.now c.set_mode.new.tree c.args.windows.now c.set_mode.result.reply c.set_mode.result.changed c.set_mode.ensures.did c.requires.parts.windows c.set_mode.ensures.tells

pub returns-in-Admit-clause-tells : goal.returns-in-Admit-clause-tells
returns-in-Admit-clause-tells c =
    tells_listed _ c.args.tree.now c.admit.new.tree c.args.windows.now c.args.roster.now c.admit.new.roster c.admit.result.reply c.admit.result.changed c.admit.ensures.did c.requires.parts.windows c.admit.ensures.tells

pub returns-in-Leave-clause-tells : goal.returns-in-Leave-clause-tells
returns-in-Leave-clause-tells c =
    tells_listed _ c.args.tree.now c.leave.new.tree c.args.windows.now c.args.roster.now c.leave.new.roster c.leave.result.reply c.leave.result.changed c.leave.ensures.did c.requires.parts.windows c.leave.ensures.tells

pub returns-in-SendFrame-clause-tells : goal.returns-in-SendFrame-clause-tells
returns-in-SendFrame-clause-tells c =
    tells_all _ c.args.tree.now c.take_frame.new.tree c.args.windows.now c.take_frame.result.reply c.take_frame.result.changed c.take_frame.ensures.did c.requires.parts.windows c.take_frame.ensures.tells
