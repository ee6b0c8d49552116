use Rattle.owner_rules.specs.State.{owner_of}
use Rattle.owner_book.proofs.Admits.{tail_completes}
use Rattle.owner_book.proofs.packet_moves.end_packet.Goals as goal

pub returns : goal.returns
returns c = tail_completes c.args.adapter (owner_of c.args.ledger.now) c.args.packet c.set_place.new.self c.set_place.ensures c.requires.next c.requires.out
