use Rattle.std.proofs.Common.{sym}
use Rattle.asm_lines.specs.Statements.{statement_seen}
use Rattle.line_bytes.specs.Numbers.{numbered_seen}
use Rattle.line_bytes.proofs.PutLaws.{unnumbered, unvalued, unplaced}
use Rattle.line_bytes.proofs.piece.numbers_of.Goals as goal

pub returns-in_err-numbered-clause-none : goal.returns-in_err-numbered-clause-none
returns-in_err-numbered-clause-none c = rw c.from_residual.ensures (unnumbered c.args.labels.now (statement_seen c.args.statement.now) (sym c.in_err-numbered.ensures))

pub returns-in_err-value-clause-none : goal.returns-in_err-value-clause-none
returns-in_err-value-clause-none c = rw c.from_residual-in_err-value.ensures (unvalued c.args.labels.now (statement_seen c.args.statement.now) (numbered_seen c.in_ok-numbered.numbered) (sym c.in_ok-numbered.ensures) (sym c.in_err-value.ensures))

pub returns-in_err-offset-clause-none : goal.returns-in_err-offset-clause-none
returns-in_err-offset-clause-none c = rw c.from_residual-in_err-offset.ensures (unplaced c.args.labels.now (statement_seen c.args.statement.now) (numbered_seen c.in_ok-numbered.numbered) (sym c.in_ok-numbered.ensures) (sym c.in_err-offset.ensures))
