use Rattle.std.proofs.Common.{◌≡◌, ◌+◌, length, Some, sym, subst}
use Rattle.asm_lines.specs.Statements.{statement_seen}
use Rattle.asm_lines.specs.Lines.{Instruction}
use Rattle.line_bytes.specs.Made.{IsMadeIn, made_size_in}
use Rattle.line_bytes.proofs.PutLaws.{on_ok, if_err, stated_with, long_with, bad_with, line_bad, wanting_bad}
use Rattle.line_bytes.proofs.piece.put_instruction.Goals as goal

pub returns-in_default-clause-err : goal.returns-in_default-clause-err
returns-in_default-clause-err c = line_bad c.args.labels.now (statement_seen c.args.statement.now) c.args.at c.in_default.ensures.none

pub returns-in-Some-made-clause-size : goal.returns-in-Some-made-clause-size
returns-in-Some-made-clause-size c =
    let s = statement_seen c.args.statement.now in
    let made = subst (λ k. IsMadeIn (Some (Instruction s)) k) c.in-Some-made.is c.requires.made in
    on_ok c.put_made.result (λ h. subst (λ k. length c.put_made.new.out ≡ length c.args.out.now + made_size_in k) (sym c.in-Some-made.is) (long_with s c.args.out.now c.put_made.new.out c.in-Some-made.made c.in-Some.value c.in-Some.offset c.args.at made h)) c.put_made.ensures.ok

pub returns-in-Some-made-clause-ok : goal.returns-in-Some-made-clause-ok
returns-in-Some-made-clause-ok c =
    let s = statement_seen c.args.statement.now in
    let made = subst (λ k. IsMadeIn (Some (Instruction s)) k) c.in-Some-made.is c.requires.made in
    on_ok c.put_made.result (stated_with c.jump_laws.ensures c.args.labels.now s c.args.out.now c.put_made.new.out c.in-Some-made.made c.in-Some.value c.in-Some.offset c.args.at c.in-Some.ensures.some c.requires.wide made) c.put_made.ensures.ok

pub returns-in-Some-made-clause-err : goal.returns-in-Some-made-clause-err
returns-in-Some-made-clause-err c =
    let s = statement_seen c.args.statement.now in
    let made = subst (λ k. IsMadeIn (Some (Instruction s)) k) c.in-Some-made.is c.requires.made in
    if_err c.put_made.result (λ why h. bad_with c.args.labels.now s c.in-Some-made.made c.in-Some.value c.in-Some.offset c.args.at why c.in-Some.ensures.some c.requires.wide made h) c.put_made.ensures.err

pub returns-in-None-clause-err : goal.returns-in-None-clause-err
returns-in-None-clause-err c = wanting_bad c.args.labels.now (statement_seen c.args.statement.now) c.args.at
