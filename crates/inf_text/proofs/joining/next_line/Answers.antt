use Rattle.inf_text.proofs.LineLoops.{line_some, line_none}
use Rattle.inf_text.proofs.joining.next_line.Goals as goal

pub returns-in-Some-clause-lines : goal.returns-in-Some-clause-lines
returns-in-Some-clause-lines c = line_some c.args.text.now c.in-Some.line.now _ c.in-Some.behind.now c.in-Some.ensures.cases c.without_return.ensures

pub returns-in-None-clause-lines : goal.returns-in-None-clause-lines
returns-in-None-clause-lines c = line_none c.args.text.now c.requires c.in-None.ensures.cases
