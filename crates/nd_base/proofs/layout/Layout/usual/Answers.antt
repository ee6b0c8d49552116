use Rattle.std.proofs.Common.{subst, sym}
use Rattle.nd_base.specs.Layout.{usual}
use Rattle.nd_base.specs.LayoutFile.{AreSound, usual_text}
use Rattle.nd_base.proofs.Sound.{layout_sound}
use Rattle.nd_base.proofs.Usual.{usual_is_layout}
use Rattle.nd_base.proofs.layout.Layout.usual.Goals as goal

pub invariant_of-result : goal.invariant_of-result
invariant_of-result c = subst AreSound (sym c.usual_offsets.ensures) (layout_sound usual_text usual usual_is_layout)
