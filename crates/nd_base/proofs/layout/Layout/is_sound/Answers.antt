use Rattle.std.proofs.Common.{subst}
use Rattle.nd_base.specs.Layout.{IsSound}
use Rattle.nd_base.proofs.Sound.{is_sound}
use Rattle.nd_base.proofs.layout.Layout.is_sound.Goals as goal

pub returns : goal.returns
returns c = subst IsSound c.self.view_is (is_sound c.self.inside.offsets c.self.invariant)
