use Rattle.std.proofs.Common.{◌≡◌}
use Rattle.inf_text.specs.Sections.{lines_named}
use Rattle.inf_text.specs.Entries.{sections_in}
use Rattle.inf_text.proofs.sections.Inf.lines_named.Given as goal

abbrev pub invariant-loop-own : goal.invariant-loop-own
invariant-loop-own l = lines_named l.name (sections_in l.own-iterator) ≡ lines_named l.name l.self
