use Rattle.std.proofs.Common.{◌≡◌, Some, rules, arith}
use Rattle.std.specs.FinMap as map
use Rattle.std.proofs.lemmas.Grind.{common_steps}
use Rattle.nd_mem.specs.Space.{first_fault, Reading}
use Rattle.packet_chain.proofs.Steps.{refused_piece, taken_piece}
use Rattle.packet_chain.proofs.gathering.look_over.Goals as goal

pub returns-in_err-read : goal.returns-in_err-read
returns-in_err-read c =
    let e : first_fault Reading (map.get c.args.memory.now) c.args.at.0 c.args.count ≡ Some c.in_err-read.field-0.0 = refused_piece c.fault_laws.ensures (map.get c.args.memory.now) c.args.at.0 c.loop-done.done c.min-next.result c.args.count _ _ c.in_err-read.field-0.0 (omega arith) c.loop-done.invariant.left c.in_err-read.ensures.answer (search rules) (grind (arith, common_steps)) in
    rw e (search rules)

pub loop-done-preserved : goal.loop-done-preserved
loop-done-preserved c = record {
  inside = omega arith;
  left = taken_piece c.fault_laws.ensures (map.get c.args.memory.now) c.args.at.0 c.loop-done.done c.min-next.result c.args.count _ _ (omega arith) c.loop-done.invariant.left c.in_ok-read.ensures.answer (search rules) (grind (arith, common_steps));
}
