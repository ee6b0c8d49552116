use Rattle.frame_wire.proofs.Returns.{returns as law}
use Rattle.frame_wire.proofs.writing.round_trip.Goals as goal

pub returns : goal.returns
returns c = law
