use Rattle.std.proofs.Common.{length, ap, arith, ◌+◌}
use Rattle.std.specs.Str.Lines.{lines}
use Rattle.sys_forge.specs.Moved.{IsMovedLine}
use Rattle.sys_forge.proofs.Emission.{begun, more}
use Rattle.sys_forge.proofs.Settling.{made_at, made_behind}
use Rattle.sys_forge.proofs.moved.put_further.Goals as goal

pub loop-rest-init : goal.loop-rest-init
loop-rest-init c = record {
  room = omega (arith, ap length c.new-out.ensures);
  labels = omega arith;
  number = 1;
  are = c.requires.made;
  so_far = begun (IsMovedLine c.args.tables.now c.args.moved.now) (lines c.args.text.now) c.new-out.result c.new-out.ensures;
}

pub loop-rest-preserved : goal.loop-rest-preserved
loop-rest-preserved c =
    let adds = c.in_ok-met.ensures.ok in
    record {
      room = c.in_ok-met.ensures.room;
      labels = omega (arith, c.next_line.ensures.shorter, c.loop-rest.invariant.labels, c.in_ok-met.ensures.labels);
      number = c.loop-rest.invariant.number + 1;
      are = made_behind (lines c.loop-rest.rest.now) (lines c.next_line.result.1.now) c.next_line.result.0.now c.in-Some.made.now c.loop-rest.left.now c.in-Some.behind.now c.loop-rest.invariant.are c.next_line.ensures.lines c.in-Some.ensures.cases.0;
      so_far = more (IsMovedLine c.args.tables.now c.args.moved.now) (lines c.args.text.now) (lines c.loop-rest.rest.now) (lines c.next_line.result.1.now) c.next_line.result.0.now c.loop-rest.out c.put_moved_line.new.out adds.piece c.loop-rest.met c.in_ok-met.met c.loop-rest.invariant.number
          c.loop-rest.invariant.so_far c.next_line.ensures.lines adds.parts adds.is;
    }

pub put_moved_line-requires-clause-made : goal.put_moved_line-requires-clause-made
put_moved_line-requires-clause-made c =
    made_at (lines c.loop-rest.rest.now) (lines c.next_line.result.1.now) c.next_line.result.0.now c.in-Some.made.now c.loop-rest.left.now c.in-Some.behind.now c.loop-rest.invariant.are c.next_line.ensures.lines c.in-Some.ensures.cases.0
