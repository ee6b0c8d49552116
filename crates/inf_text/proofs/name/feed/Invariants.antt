use Rattle.std.proofs.Common.{◌≡◌, take, fold, flat_map}
use Rattle.std.specs.Hash as fed
use Rattle.inf_text.specs.Names.{folded}
use Rattle.inf_text.proofs.name.feed.Given as goal

abbrev pub invariant-loop-unit : goal.invariant-loop-unit
invariant-loop-unit g l = l.state ≡ fold g.H.Hasher.write l.initial.state (flat_map fed.u16 (folded (take l.unit-index l.units)))
