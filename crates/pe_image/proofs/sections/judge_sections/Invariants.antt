use Rattle.std.proofs.Common.{◌≡◌, [], take, drop}
use Rattle.pe_image.specs.Sections.{sections_judged}
use Rattle.pe_image.proofs.sections.judge_sections.Given as goal

abbrev pub invariant-loop-number : goal.invariant-loop-number
invariant-loop-number l = sections_judged l.image l.file_size (take l.number l.headers) (drop l.number l.headers) ≡ sections_judged l.image l.file_size [] l.headers
