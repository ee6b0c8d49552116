use Rattle.packet_pool.proofs.Places.{free_tells}
use Rattle.packet_pool.proofs.LawLemmas.{sound, apart_of, free_where, first_is_free, none_before, none_at_all}
use Rattle.packet_pool.proofs.pool_laws.room_laws.Goals as goal

pub returns : goal.returns
returns _ = record {
  apart = λ s r o t free is. apart_of r t ((free_tells s r free).apart o t is);
  inside = λ s r free. let w = free_tells s r free in record { from = w.from; to = w.to };
  multiple = λ s r free. (free_tells s r free).at;
  free = λ s r reached some inside at apart. free_where s r (sound s reached) some inside at apart;
  first = first_is_free;
  before = none_before;
  none = none_at_all;
}
