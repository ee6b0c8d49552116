use Rattle.handler_words.proofs.Entered.{laws}
use Rattle.handler_words.proofs.laws.enter_laws.Goals as goal

pub returns : goal.returns
returns c = laws
