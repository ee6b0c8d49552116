use Rattle.std.proofs.Common.{◌≡◌, drop}
use Rattle.legal_run.specs.Calls.{verdicts}
use Rattle.leave_verdicts.specs.Judged.{in_front, status_by}
use Rattle.leave_verdicts.proofs.packets.packet_verdicts.Given as goal

abbrev pub ghost-status_by : goal.ghost-status_by
ghost-status_by g a = g.s

abbrev pub ghost-give_back : goal.ghost-give_back
ghost-give_back g a = g.s

-- what stands so far, in front of what is drawn from the rest
abbrev pub invariant-loop-i : goal.invariant-loop-i
invariant-loop-i g l = in_front l.entries.items (verdicts g.s (status_by g.s l.by) l.serial (drop l.i l.packets)) ≡ verdicts g.s (status_by g.s l.by) l.serial l.packets
