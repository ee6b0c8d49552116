use Rattle.std.proofs.Common.{ℕ, List, Option, length, sym, ap, subst, arith}
use Rattle.std.specs.Str.Lines.{lines}
use Rattle.line_bytes.specs.declared.made.Made.{Made}
use Rattle.sys_forge.specs.Assembly.{none_met, IsRefusedText}
use Rattle.sys_forge.specs.declared.refusal.ForgeRefusal.{ForgeRefusal}
use Rattle.sys_forge.proofs.Planning.{empty-lines}
use Rattle.sys_forge.proofs.Settling.{IsStandingSoFar, begun-standing, more-standing, whole-standing, made_next, at-line, refused-here, refused-text}
use Rattle.sys_forge.proofs.assembly.emitted.Goals as goal

pub loop-rest-init : goal.loop-rest-init
loop-rest-init c = record {
  room = omega (arith, ap length c.new-out.ensures);
  short = omega arith;
  labels = omega arith;
  so_far = subst (λ (ms : List (Option Made)). IsStandingSoFar c.args.plan.now.tables (lines c.args.text.now) (lines c.args.text.now) ms c.new-out.result none_met 1) (sym c.as_slice-left.ensures.value) (begun-standing c.args.plan.now.tables (lines c.args.text.now) c.args.plan.now.made.items c.new-out.result c.new-out.ensures c.requires.made c.requires.laid);
}

pub loop-rest-preserved : goal.loop-rest-preserved
loop-rest-preserved c =
    let i = c.loop-rest.invariant in
    let adds = c.in-Ok.ensures.ok in
    let t = c.args.plan.now.tables in
    let s = at-line t (lines c.args.text.now) (lines c.loop-rest.rest.now) (lines c.next_line.result.1.now) c.next_line.result.0.now c.in-Some.made.now c.loop-rest.left.now c.in-Some.behind.now c.loop-rest.out c.loop-rest.met c.loop-rest.number
    i.so_far c.next_line.ensures.lines c.in-Some.ensures.cases.0 in
    record {
      room = c.in-Ok.ensures.room;
      short = omega (arith, c.next_line.ensures.shorter, i.short);
      labels = omega (arith, c.in-Ok.ensures.labels, i.labels);
      so_far = more-standing t (lines c.args.text.now) (lines c.next_line.result.1.now) c.next_line.result.0.now c.in-Some.made.now c.in-Some.behind.now c.loop-rest.out c.put_line.new.out adds.piece c.loop-rest.met c.in-Ok.next c.loop-rest.number
          s adds.parts adds.is c.in-Ok.ensures.size (omega (arith, c.in-Ok.ensures.room));
    }

pub returns-clause-ok : goal.returns-clause-ok
returns-clause-ok c =
    let i = c.loop-rest.invariant in
    let t = c.args.plan.now.tables in
    let none = empty-lines c.loop-rest.rest.now c.loop-rest-test.ensures in
    let s = subst (λ (ls : List (List ℕ)). IsStandingSoFar t (lines c.args.text.now) ls c.loop-rest.left.now c.loop-rest.out c.loop-rest.met c.loop-rest.number) none i.so_far in
    let w = whole-standing t (lines c.args.text.now) c.loop-rest.left.now c.loop-rest.out c.loop-rest.met c.loop-rest.number s in
    record { met = c.loop-rest.met; put = w.0; whole = w.1; room = omega (arith, i.room, w.1.imports) }

pub returns-in-Err : goal.returns-in-Err
returns-in-Err c =
    let i = c.loop-rest.invariant in
    let t = c.args.plan.now.tables in
    let s = at-line t (lines c.args.text.now) (lines c.loop-rest.rest.now) (lines c.next_line.result.1.now) c.next_line.result.0.now c.in-Some.made.now c.loop-rest.left.now c.in-Some.behind.now c.loop-rest.out c.loop-rest.met c.loop-rest.number
    i.so_far c.next_line.ensures.lines c.in-Some.ensures.cases.0 in
    let at = refused-here c.args.text.now t (lines c.next_line.result.1.now) c.next_line.result.0.now c.in-Some.made.now c.in-Some.behind.now c.loop-rest.out c.loop-rest.met c.loop-rest.number c.in-Err.refused
    (record { made = c.args.plan.now.made.items; are = c.requires.made; is = c.requires.laid }) s c.requires.low i.room c.in-Err.ensures.err in
    record { ok = tt; err = subst (λ (w : ForgeRefusal). IsRefusedText c.args.text.now w) (sym c.refusal_at.ensures) (refused-text c.args.text.now c.loop-rest.number c.in-Err.refused at) }

pub put_line-requires-clause-made : goal.put_line-requires-clause-made
put_line-requires-clause-made c =
    made_next c.args.plan.now.tables (lines c.args.text.now) (lines c.loop-rest.rest.now) (lines c.next_line.result.1.now) c.next_line.result.0.now c.in-Some.made.now c.loop-rest.left.now c.in-Some.behind.now c.loop-rest.out c.loop-rest.met c.loop-rest.number
    c.loop-rest.invariant.so_far c.next_line.ensures.lines c.in-Some.ensures.cases.0
