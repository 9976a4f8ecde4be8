use Rattle.std.proofs.Common.{rules, ◌≡◌, ◌≤◌, [], length, refl, sym, ap, arith}
use Rattle.desk_model.specs.Desk.{opening_desk}
use Rattle.hall_core.specs.Books.{BookState, Stands, payloads_of}
use Rattle.hall_core.proofs.Standing.{stands_first}
use Rattle.hall_core.proofs.Rooms.{few_clients}
use Rattle.hall_core.proofs.volume.Volume.new.Goals as goal

pub invariant_of-result : goal.invariant_of-result
invariant_of-result c =
    let none : c.in-Ok-with_capacity.kept.items ≡ [] = c.in-Ok-with_capacity.ensures.items in
    let book : BookState = record { server = c.in-Ok.server; journal = c.in_ok-tape.tape; start = c.new-3.result.desk; base = 0; kept = c.in-Ok-with_capacity.kept.items } in
    let stands : Stands book = stands_first c.args.shape book c.requires c.in-Ok.ensures.opens c.in_ok-tape.ensures.empty c.new-3.ensures.opening refl none in
    let clients = few_clients book.server.state.desk stands.valid.desk in
    record {
      stands = stands;
      room = record { few = omega (arith, ap length none, clients); light = omega (arith, ap payloads_of none) };
      reserved = c.in-Ok-with_capacity.ensures.capacity;
      counted = sym (ap payloads_of none);
    }

pub returns-clause-stands : goal.returns-clause-stands
returns-clause-stands c = (invariant_of-result c).stands
