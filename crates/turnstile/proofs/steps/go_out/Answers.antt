use Rattle.std.proofs.Common.{rules, ◌≡◌, ℕ, ◌+◌, ◌%◌, ◌^◌, List, [], ◌∷◌, drop, length, sym, ap, ◌∙◌, subst, Option, Some}
use Rattle.atomic_table.specs.Table.{rest, step}
use mathlib.Core.Option.{none}
use Rattle.turnstile.specs.declared.view.View.{View}
use Rattle.turnstile.specs.Entries.{StartsWith, AllCarry}
use Rattle.turnstile.specs.Views.{gained}
use Rattle.turnstile.specs.Steps.{Holder}
use Rattle.turnstile.proofs.Publishing.{publishes}
use Rattle.turnstile.proofs.Passing.{passes_on}
use Rattle.turnstile.proofs.steps.go_out.Goals as goal

pub fetch_add-requires : goal.fetch_add-requires
fetch_add-requires g c =
    let now : c.exchange-empty.new.seat.me ≡ (c.args.seat.now.me.0, (0, Some c.args.value) ∷ []) =
    c.exchange-empty.ensures.3 ∙ ap (λ (cs : List (ℕ × Option g.row.V.Denot)). (c.args.seat.now.me.0, (0, Some c.args.value) ∷ rest cs)) c.requires.empty in (
      search rules,
      search rules,
      publishes g.V.Kept.entries g.V.Kept.number _ _ _ _ c.args.new (step 1 2 0 0 none) c.exchange-empty.new.seat.me c.requires.inside.0 c.args.value
          (ap (λ (m : Holder g.row.V.Denot g.row.V-Entry.Denot). m.0.stage) now ∙ c.requires.inside.1)
          (ap (λ (m : Holder g.row.V.Denot g.row.V-Entry.Denot). m.1) now)
          (subst (λ (v : View g.row.V-Entry.Denot). StartsWith (g.V.Kept.entries c.args.value) v.own.seen) (sym (ap (λ (m : Holder g.row.V.Denot g.row.V-Entry.Denot). m.0) now)) c.requires.starts)
          (subst (λ (v : View g.row.V-Entry.Denot). AllCarry g.V.Kept.number v.own.number (drop (length v.own.seen) (g.V.Kept.entries c.args.value))) (sym (ap (λ (m : Holder g.row.V.Denot g.row.V-Entry.Denot). m.0) now)) c.requires.carry)
          (ap (λ (m : Holder g.row.V.Denot g.row.V-Entry.Denot). (length m.0.own.seen % 2 ^ 64 + c.args.new) % 2 ^ 64) now ∙ c.requires.counts),
    )

pub fetch_add-turn-requires : goal.fetch_add-turn-requires
fetch_add-turn-requires g c =
    let now : c.exchange-empty.new.seat.me ≡ (c.args.seat.now.me.0, (0, Some c.args.value) ∷ []) =
    c.exchange-empty.ensures.3 ∙ ap (λ (cs : List (ℕ × Option g.row.V.Denot)). (c.args.seat.now.me.0, (0, Some c.args.value) ∷ rest cs)) c.requires.empty in
    let out : c.fetch_add.new.seat.me ≡ (gained (g.V.Kept.entries c.args.value) c.args.seat.now.me.0, (0, Some c.args.value) ∷ []) =
    c.fetch_add.ensures.2 c.args.value (ap (λ (m : Holder g.row.V.Denot g.row.V-Entry.Denot). m.1) now)
    ∙ ap (λ (m : Holder g.row.V.Denot g.row.V-Entry.Denot). (gained (g.V.Kept.entries c.args.value) m.0, m.1)) now in (
      search rules,
      search rules,
      passes_on g.V.Kept.entries g.V.Kept.number _ _ _ _ (step 1 1 0 0 none) c.fetch_add.new.seat.me c.requires.inside.0 c.args.value
          (ap (λ (m : Holder g.row.V.Denot g.row.V-Entry.Denot). m.0.stage) out ∙ c.requires.inside.1)
          (ap (λ (m : Holder g.row.V.Denot g.row.V-Entry.Denot). m.1) out)
          (ap (λ (m : Holder g.row.V.Denot g.row.V-Entry.Denot). m.0.own.seen) out),
    )
