use Rattle.std.proofs.Common.{◌≡◌, ◌++◌, drop, map}
use Rattle.call_log.specs.declared.entry.Entry.TheVariants as kinds
use Rattle.call_verdicts.proofs.ports.put_sent.Given as goal

-- what stands so far, and the frames that are still to come
abbrev pub invariant-loop-frame : goal.invariant-loop-frame
invariant-loop-frame l = l.entries.items ++ map (λ frame. kinds.WireOut l.a frame) (drop l.frame-index l.frames) ≡ l.initial.entries.items ++ map (λ frame. kinds.WireOut l.a frame) l.frames
