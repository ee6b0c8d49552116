use Rattle.packet_pool.proofs.Changed.{remove_here}
use Rattle.packet_pool.proofs.LawLemmas.{lent_stays, out_stays}
use Rattle.packet_pool.proofs.pool_laws.free_laws.Goals as goal

pub returns : goal.returns
returns _ = record {
  block = λ s a. remove_here s.blocks a;
  pool = λ s handle. remove_here s.pools handle;
  descriptor = λ s kind a. remove_here s.descriptors a;
  lent = lent_stays;
  out = out_stays;
}
