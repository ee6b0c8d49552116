use Rattle.packet_chain.proofs.Steps.{chain_gives_one}
use Rattle.packet_chain.proofs.chain_gives_one.Goals as goal

pub returns : goal.returns
returns c = chain_gives_one
