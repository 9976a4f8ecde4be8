use Rattle.std.proofs.Common.{◌||◌, ℕ, Bool, false, Option, sym, subst}
use Rattle.std.specs.Option.{option_map}
use Rattle.tree_core.specs.declared.id.Id.{Id}
use Rattle.desk_core.specs.Feeding.{is_named, HavePlacesBut}
use Rattle.desk_core.proofs.FedPlaces.{places-then, due-entries, due-last, due-all}
use Rattle.desk_core.proofs.feeding.lay_asked.Goals as goal

pub returns-clause-due : goal.returns-clause-due
returns-clause-due c = λ due.
    let w = c.args.tree.now in
    let effects = c.args.effects.now in
    let a = c.lay_named.new.tree in
    let b = c.lay_named-2.new.tree in
    let d = c.lay_named-3.new.tree in
    let text : Option Id = option_map (λ set. set.0) effects.text in
    let caret : Option Id = option_map (λ set. set.0) effects.caret in
    let moved : Option Id = option_map (λ set. set.0) effects.moved in
    let N : (Option Id → (ℕ → Bool)) = λ named client. is_named w.entries named client in
    let P1 : Option Id → Type 0 = λ o. HavePlacesBut (λ client. N o client || (N text client || (N caret client || N moved client))) w in
    let P2 : Option Id → Type 0 = λ o. HavePlacesBut (λ client. is_named a.entries o client || (N caret client || N moved client)) a in
    let P3 : Option Id → Type 0 = λ o. HavePlacesBut (λ client. is_named b.entries o client || N moved client) b in
    let P4 : Option Id → Type 0 = λ o. HavePlacesBut (λ client. is_named d.entries o client || false) d in
    let first = c.lay_named.ensures.changed in
    let second = places-then w a b first c.lay_named-2.ensures.changed in
    let third = places-then w b d second c.lay_named-3.ensures.changed in
    let one = c.lay_named.ensures.due (λ client. N text client || (N caret client || N moved client)) (subst P1 (sym c.numbered.ensures) due) in
    let two = c.lay_named-2.ensures.due (λ client. N caret client || N moved client) (subst P2 (sym c.written.ensures) (due-entries w a text (λ client. N caret client || N moved client) first one)) in
    let three = c.lay_named-3.ensures.due (N moved) (subst P3 (sym c.numbered-2.ensures) (due-entries w b caret (N moved) second two)) in
    let last = c.lay_named-4.ensures.due (λ client. false) (subst P4 (sym c.moved.ensures) (due-entries w d moved (λ client. false) third (due-last d (N moved) three))) in
    due-all c.lay_named-4.new.tree last
