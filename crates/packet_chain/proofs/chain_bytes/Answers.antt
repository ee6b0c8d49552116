use Rattle.std.proofs.Common.{ℕ, ◌++◌, List, sym, ap, ◌∙◌, subst, arith}
use Rattle.std.specs.FinMap as map
use Rattle.packet_chain.specs.Chain.{joined, bytes_of}
use Rattle.packet_chain.specs.Gathering.{Holds}
use Rattle.packet_chain.proofs.Steps.{value_told, next_told, buffer_of-first, joined-none, joined-next, reaches_none, reaches_more}
use Rattle.packet_chain.proofs.chain_bytes.Goals as goal

pub loop-taken-init : goal.loop-taken-init
loop-taken-init c =
    let layout = c.args.layout.now in
    let cells = map.get c.args.memory.now in
    let told = value_told _ _ _ c.in-Ok.ensures in
    record {
      reaches = reaches_none layout cells c.args.packet.0 told.0;
      here = told.1 ∙ sym (buffer_of-first layout cells c.args.packet.0);
      holds = subst (λ (xs : List ℕ). Holds c.new-gathering.result xs) (sym (joined-none layout cells c.args.packet.0)) c.new-gathering.ensures;
      small = omega (arith, c.new-gathering.ensures.count);
    }

pub loop-taken-preserved : goal.loop-taken-preserved
loop-taken-preserved c =
    let layout = c.args.layout.now in
    let cells = map.get c.args.memory.now in
    let k = c.loop-taken._taken in
    let here = c.loop-taken.invariant.here in
    let told = next_told layout cells c.args.packet.0 k c.loop-taken.buffer c.in-Ok-add_buffer.next here c.in-Ok-add_buffer.ensures.answer in
    record {
      reaches = reaches_more layout cells c.args.packet.0 k c.loop-taken.invariant.reaches (λ e. c.if-buffer-eq0.false (here ∙ e)) told.0;
      here = told.1;
      holds = subst (λ (xs : List ℕ). Holds c.add_buffer.new.self xs) (ap (λ b. joined layout cells c.args.packet.0 k ++ bytes_of layout cells b) here ∙ sym (joined-next layout cells c.args.packet.0 k)) (c.in-Ok-add_buffer.ensures.ok _ c.loop-taken.invariant.holds);
      small = omega (arith, c.loop-taken.invariant.small, c.in-Ok-add_buffer.ensures.small);
    }
