use Rattle.std.proofs.Common.{Some, ap, arith, length}
use Rattle.inf_text.specs.Reading.{IsWithin}
use Rattle.inf_text.proofs.SectionLaws.{length-with_line}
use Rattle.inf_text.proofs.sections.Inf.take_entry.Goals as goal

pub returns-clause-within : goal.returns-clause-within
returns-clause-within c =
    let inside : IsWithin (Some c.in-Some.at) c.args.self.now = rw c.in-Some.is at c.requires in
    omega (arith, inside, ap length c.in_ok-add_line.ensures, length-with_line c.in-Some.at c.args.line c.args.self.now)
