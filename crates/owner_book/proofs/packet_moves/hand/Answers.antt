use Rattle.owner_rules.specs.State.{owner_of}
use Rattle.owner_book.proofs.Admits.{hand_in_slot}
use Rattle.owner_book.proofs.packet_moves.hand.Goals as goal

pub hand-requires : goal.hand-requires
hand-requires c = hand_in_slot (owner_of c.args.ledger.now) c.args.packet c.requires
