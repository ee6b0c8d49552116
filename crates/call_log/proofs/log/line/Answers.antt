use Rattle.std.proofs.Common.{rules}
use Rattle.call_log.specs.Lines.{line_of}
use Rattle.call_log.proofs.Whole.{line_told}
use Rattle.call_log.proofs.log.line.Goals as goal

pub returns-in-Some : goal.returns-in-Some
returns-in-Some c = line_told c.args.bytes.now c.in_ok-entry.next.now c.in-Some.after.now (line_of c.in_ok-entry.entry) (search rules) (search rules)
