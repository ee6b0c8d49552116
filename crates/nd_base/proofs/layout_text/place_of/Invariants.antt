use Rattle.std.proofs.Common.{◌≡◌, ◌-◌}
use Rattle.std.specs.Str.{bytes_eq}
use Rattle.nd_base.specs.Layout.{row}
use Rattle.nd_base.specs.LayoutText.{first_from}
use Rattle.nd_base.proofs.layout_text.place_of.Given as goal

abbrev pub invariant-loop-place : goal.invariant-loop-place
invariant-loop-place l = first_from (λ i. bytes_eq (row i).name l.name) l.place (31 - l.place) ≡ first_from (λ i. bytes_eq (row i).name l.name) 0 31
