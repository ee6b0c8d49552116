use Rattle.std.proofs.Common.{◌≡◌, ◌≤◌, ◌*◌, ◌^◌}
use Rattle.std.specs.FinMap as map
use Rattle.packet_chain.specs.Chain.{buffer_of, joined, Reaches}
use Rattle.packet_chain.specs.Gathering.{Holds}
use Rattle.packet_chain.proofs.chain_bytes.Given as goal

abbrev pub invariant-loop-taken : goal.invariant-loop-taken
invariant-loop-taken l = record {
  reaches : Reaches l.layout (map.get l.memory) l.fn.packet.0 l._taken;
  here : l.buffer ≡ buffer_of l.layout (map.get l.memory) l.fn.packet.0 l._taken;
  holds : Holds l.gathering (joined l.layout (map.get l.memory) l.fn.packet.0 l._taken);
  small : l.gathering.count ≤ l._taken * 2 ^ 32;
}
