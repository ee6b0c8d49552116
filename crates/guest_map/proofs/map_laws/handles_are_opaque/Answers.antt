use Rattle.std.proofs.Common.{arith, ◌+◌, lit≤, lit<}
use Rattle.guest_map.proofs.Places.{opaque}
use Rattle.guest_map.proofs.map_laws.handles_are_opaque.Goals as goal

pub returns : goal.returns
returns c = record {
  driver_object = opaque 0xE0000000 (lit≤ tt) (lit< tt);
  registry_path = opaque 0xE0000008 (lit≤ tt) (lit< tt);
  wrapper = opaque 0xE0000010 (lit≤ tt) (lit< tt);
  configuration_context = λ adapter less. opaque (0xE0001000 + adapter) (omega arith) (omega arith);
  configuration_handle = λ adapter less. opaque (0xE0002000 + adapter) (omega arith) (omega arith);
  pool_handle = λ number less. opaque (0xE0010000 + number) (omega arith) (omega arith);
}
