use Rattle.run_stops.proofs.Several.{room_for_one, room_stopped}
use Rattle.run_stops.proofs.laws.stops_take_room.Goals as goal

pub returns : goal.returns
returns c = record { one = room_for_one; left = room_stopped }
