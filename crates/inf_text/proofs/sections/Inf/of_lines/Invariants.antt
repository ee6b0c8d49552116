use Rattle.std.proofs.Common.{◌≡◌, drop, [], None}
use Rattle.inf_text.specs.Reading.{with_all, IsWithin}
use Rattle.inf_text.proofs.sections.Inf.of_lines.Given as goal

abbrev pub invariant-loop-line : goal.invariant-loop-line
invariant-loop-line l = record {
  so_far : with_all (record { sections = l.inf; place = l.place }) (drop l.line-index l.lines) ≡ with_all (record { sections = []; place = None }) l.lines;
  within : IsWithin l.place l.inf;
}
