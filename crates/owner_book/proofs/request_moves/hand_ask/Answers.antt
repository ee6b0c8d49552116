use Rattle.owner_rules.specs.State.{owner_of}
use Rattle.owner_book.proofs.Admits.{hand_ask_open}
use Rattle.owner_book.proofs.request_moves.hand_ask.Goals as goal

pub hand-requires : goal.hand-requires
hand-requires c = hand_ask_open (owner_of c.args.ledger.now) c.args.request c.requires
