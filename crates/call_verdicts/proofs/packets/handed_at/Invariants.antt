use Rattle.std.proofs.Common.{◌≡◌, drop}
use Rattle.std.specs.Prelude.{filter}
use Rattle.owner_machine.specs.State.{numbers_from}
use Rattle.legal_run.specs.Owed.{first}
use Rattle.legal_run.specs.Calls.{handed_at, is_at, slot_address, was_handed}
use Rattle.call_verdicts.proofs.packets.handed_at.Given as goal

abbrev pub ghost-is_handed_at : goal.ghost-is_handed_at
ghost-is_handed_at g a = g.s

abbrev pub invariant-loop-k : goal.invariant-loop-k
invariant-loop-k g l = first (filter (λ k. is_at l.packet (slot_address g.s k)) (numbers_from l.k (was_handed l.a.0) (drop l.k g.s.owner.packets))) ≡ handed_at g.s l.a.0 l.packet
