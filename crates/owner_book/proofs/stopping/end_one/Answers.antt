use Rattle.std.proofs.Common.{ℕ, ◌<◌, List, [], ◌∷◌, ◌++◌, sym, ap, ◌∙◌, arith}
use Rattle.call_log.specs.declared.entry.Entry.TheVariants as entries
use Rattle.owner_machine.specs.State.{failure}
use Rattle.owner_machine.specs.Packets.{out_of}
use Rattle.owner_machine.specs.Handlers.{outstanding}
use Rattle.owner_rules.specs.State.{owner_of}
use Rattle.owner_book.proofs.Admits.{no_packet, passes_at}
use Rattle.owner_book.proofs.TailSteps.{packet_left, loan_left, request_left, ends_packet, ends_loan, ends_request}
use Rattle.owner_book.proofs.stopping.end_one.Goals as goal

pub end_packet-requires-clause-out : goal.end_packet-requires-clause-out
end_packet-requires-clause-out c = passes_at (out_of c.args.adapter.0) c.args.ledger.now.packets no_packet c.in-Some.k (sym c.in-Some.ensures)

pub append-requires-clause-spare : goal.append-requires-clause-spare
append-requires-clause-spare c = let some : 0 < outstanding (owner_of c.args.ledger.now) c.args.adapter.0 = packet_left (owner_of c.args.ledger.now) c.args.adapter.0 c.in-Some.k c.stop_laws.ensures (sym c.in-Some.ensures) in let room = c.requires.spare in omega (arith, some, room)

pub returns-in-Some-clause-one : goal.returns-in-Some-clause-one
returns-in-Some-clause-one c = ends_packet (owner_of c.args.ledger.now) (owner_of c.end_packet.new.ledger) c.args.adapter c.in-Some.k c.args.log.now c.append.new.self c.stop_laws.ensures c.requires.spare c.requires.next (sym c.in-Some.ensures) c.end_packet.ensures c.append.ensures.entries c.append.ensures.spare

pub append-requires-in-Some-first-clause-spare : goal.append-requires-in-Some-first-clause-spare
append-requires-in-Some-first-clause-spare c = let some : 0 < outstanding (owner_of c.args.ledger.now) c.args.adapter.0 = loan_left (owner_of c.args.ledger.now) c.args.adapter.0 c.in-Some-first.j c.stop_laws.ensures (sym c.first.ensures ∙ c.in_default.is) (sym c.in-Some-first.ensures) in let room = c.requires.spare in omega (arith, some, room)

pub returns-in-Some-first-clause-one : goal.returns-in-Some-first-clause-one
returns-in-Some-first-clause-one c = ends_loan (owner_of c.args.ledger.now) (owner_of c.send_home.new.ledger) c.args.adapter c.in-Some-first.j c.args.log.now c.append-in-Some-first.new.self c.stop_laws.ensures c.requires.spare c.requires.next (sym c.first.ensures ∙ c.in_default.is) (sym c.in-Some-first.ensures) c.send_home.ensures c.append-in-Some-first.ensures.entries c.append-in-Some-first.ensures.spare

pub append-requires-in-Some-first-2-clause-spare : goal.append-requires-in-Some-first-2-clause-spare
append-requires-in-Some-first-2-clause-spare c = let some : 0 < outstanding (owner_of c.args.ledger.now) c.args.adapter.0 = request_left (owner_of c.args.ledger.now) c.args.adapter.0 c.in-Some-first-2.r c.stop_laws.ensures (sym c.first.ensures ∙ c.in_default.is) (sym c.first-2.ensures ∙ c.in_default-first.is) (sym c.in-Some-first-2.ensures) in let room = c.requires.spare in omega (arith, some, room)

pub returns-in-Some-first-2-clause-one : goal.returns-in-Some-first-2-clause-one
returns-in-Some-first-2-clause-one c = ends_request (owner_of c.args.ledger.now) (owner_of c.end_request.new.ledger) c.args.adapter c.in-Some-first-2.r c.args.log.now c.append-in-Some-first-2.new.self c.stop_laws.ensures c.requires.spare c.requires.next (sym c.first.ensures ∙ c.in_default.is) (sym c.first-2.ensures ∙ c.in_default-first.is) (sym c.in-Some-first-2.ensures) c.end_request.ensures (c.append-in-Some-first-2.ensures.entries ∙ ap (λ (bytes : List ℕ). c.args.log.now.entries ++ entries.Answer (record { 0 = c.in-Some-first-2.r }) (record { 0 = failure }) bytes ∷ []) c.new.ensures) c.append-in-Some-first-2.ensures.spare
