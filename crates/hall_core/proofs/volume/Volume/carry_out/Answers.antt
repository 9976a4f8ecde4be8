use Rattle.std.proofs.Common.{rules, ◌≡◌, ◌+◌, ◌<◌, length, refl, sym, ap, ◌∙◌, subst, arith}
use Rattle.hall_core.specs.declared.entry.Entry.{Entry}
use Rattle.hall_core.specs.Entries.{payload_of}
use Rattle.hall_core.specs.Books.{BookState, Stands, HasRoom, HasRoomFor, Unfolded, payloads_of}
use Rattle.hall_core.proofs.Standing.{stands_entry}
use Rattle.hall_core.proofs.Rooms.{room_entry, room_for_one, payloads_push}
use Rattle.hall_core.proofs.volume.Volume.carry_out.Goals as goal

pub put-requires : goal.put-requires
put-requires c =
    let room = subst (λ (b : BookState). HasRoomFor b c.args.event) (sym c.self.view_is) c.requires.few in
    let few = room_for_one _ c.args.event c.self.invariant.room room in
    record { room = omega (arith, few, c.self.invariant.reserved) }

abbrev entry_in : goal.After-put → Entry
entry_in c = record { seat = c.args.seat; event = c.args.event; answer = c.ask-answer.result }

abbrev before : goal.After-put → BookState
before c = record { server = c.self.inside.server; journal = c.self.inside.tape; start = c.self.inside.start.desk; base = c.self.inside.base; kept = c.self.inside.kept.items }

abbrev after : goal.After-put → BookState
after c = record { server = c.ask-answer.new.server; journal = c.append.new.self; start = c.self.inside.start.desk; base = c.self.inside.base; kept = c.put.new.kept.items }

kept_so : (c : goal.After-put) → Unfolded (before c) (entry_in c) (after c)
kept_so c = record { start = refl; base = refl; kept = c.put.ensures.entries }

pub invariant_of-self : goal.invariant_of-self
invariant_of-self c =
    let room = subst (λ (b : BookState). HasRoomFor b c.args.event) (sym c.self.view_is) c.requires.few in
    let bytes : payloads_of c.put.new.kept.items ≡ payloads_of c.self.inside.kept.items + payload_of c.args.event = ap payloads_of c.put.ensures.entries ∙ payloads_push c.self.inside.kept.items (entry_in c) in
    record {
      stands = stands_entry (before c) (after c) (entry_in c) c.self.invariant.stands c.ask-answer.ensures.step c.append.ensures.entries (kept_so c);
      room = room_entry (before c) (after c) (entry_in c) c.self.invariant.room c.ask-answer.ensures.valid room c.ask-answer.ensures.step (kept_so c);
      reserved = omega (arith, c.self.invariant.reserved, c.put.ensures.reserved);
      counted = omega (arith, bytes, c.self.invariant.counted, c.bytes_of.ensures.bytes);
    }

pub returns-clause-kept : goal.returns-clause-kept
returns-clause-kept c = subst (λ (b : BookState). Unfolded b (entry_in c) (after c)) c.self.view_is (kept_so c)

pub returns-clause-stands : goal.returns-clause-stands
returns-clause-stands c = (invariant_of-self c).stands
