use Rattle.std.proofs.Common.{ℕ, arith}
use Rattle.packet_pool.proofs.LawLemmas.{sound, apart_of, lies_in_pool, apart_descriptors, handles_rise, handle_next}
use Rattle.packet_pool.proofs.pool_laws.live_laws.Goals as goal

pub returns : goal.returns
returns _ = record {
  apart = λ s o q r t reached is_r is_t ne. apart_of r t ((sound s reached).apart o q r t is_r is_t ne);
  inside = λ s o r reached is. let w = (sound s reached).placed o r is in let at = w.at in record { from = omega (arith, at); to = w.inside };
  multiple = λ s o r reached is. let at = ((sound s reached).placed o r is).at in omega (arith, at);
  in_pool = λ s a d reached found. lies_in_pool s (sound s reached) a d found;
  descriptors = λ s a b d e reached found found' ne. apart_of _ _ (apart_descriptors s (sound s reached) a b d e found found' ne);
  above = λ s handle p reached found. ((sound s reached).known handle p found).old;
  rises = handles_rise;
  next_handle = handle_next;
}
