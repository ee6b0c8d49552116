use Rattle.guest_writes.proofs.Steps.{placed}
use Rattle.guest_writes.proofs.puts.put_byte.Goals as goal

pub returns : goal.returns
returns c = placed c.args.memory.now c.place.new.self c.args.at.0 c.args.byte c.place.result c.place.ensures.answer c.place.ensures.ok c.place.ensures.err
