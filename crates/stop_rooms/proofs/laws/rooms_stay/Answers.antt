use Rattle.stop_rooms.proofs.Behind.{grows_behind, stays_behind}
use Rattle.stop_rooms.proofs.laws.rooms_stay.Goals as goal

pub returns : goal.returns
returns c = record {
  stays = λ inputs log e run meets plain. stays_behind c.stops_may_stand.ensures inputs log e run meets plain;
  grows = λ inputs log e run meets. grows_behind c.stops_may_stand.ensures inputs log e run meets;
}
