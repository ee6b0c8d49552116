use Rattle.std.proofs.Common.{◌≡◌, take}
use Rattle.frame_wire.specs.Captures.{written}
use Rattle.frame_wire.proofs.writing.write_frames.Given as goal

abbrev pub invariant-loop-frame : goal.invariant-loop-frame
invariant-loop-frame l = l.out ≡ written (take l.frame-index l.frames)
