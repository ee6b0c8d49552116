use Rattle.std.proofs.Common.{arith}
use Rattle.guest_writes.proofs.Steps.{none_put, first_wrapped, next_wrapped, byte_put, all_put}
use Rattle.guest_writes.proofs.puts.put_each.Goals as goal

pub loop-byte-init : goal.loop-byte-init
loop-byte-init c = record { next = first_wrapped c.args.at.0 (omega arith); memory = none_put c.args.memory.now c.args.at.0 }

pub loop-byte-preserved : goal.loop-byte-preserved
loop-byte-preserved c = record {
  next = next_wrapped c.loop-byte.next c.args.at.0 c.loop-byte.byte-index c.loop-byte.invariant.next;
  memory = byte_put c.write_laws.ensures c.args.memory.now c.loop-byte.memory c.put_byte.new.memory c.args.at.0 c.loop-byte.byte-index c.loop-byte.next c.args.bytes.now c.loop-byte-test.true c.loop-byte.invariant.memory c.loop-byte.invariant.next c.put_byte.ensures;
}

pub returns : goal.returns
returns c = all_put c.args.memory.now c.loop-byte.memory c.args.at.0 c.loop-byte.byte-index c.args.bytes.now c.loop-byte.auto.byte-index-end c.loop-byte-test.false c.loop-byte.invariant.memory
