use Rattle.std.proofs.Common.{sym}
use Rattle.owner_rules.specs.State.{owner_of}
use Rattle.owner_book.proofs.Admits.{complete_after}
use Rattle.owner_book.proofs.packet_moves.complete.Goals as goal

pub returns : goal.returns
returns c = complete_after (owner_of c.args.ledger.now) c.args.packet c.in-Some.p.now c.completed_place-place.result c.set_place.new.self c.behind_complete-next.result (sym c.in-Some.ensures) c.completed_place-place.ensures c.set_place.ensures c.behind_complete-next.ensures
