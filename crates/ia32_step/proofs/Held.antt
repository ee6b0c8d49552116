-- A step where an instruction is kept of EIP.
use Rattle.std.proofs.Common.{◌≡◌, length, Result, Ok, Err, refl, sym, ap, ◌∙◌}
use Rattle.nd_mem.specs.declared.MemFault.TheVariants as fault
use Rattle.ia32_step.specs.declared.decodings.Decodings.{Decodings}
use Rattle.ia32_step.specs.declared.effects.Stop.{Stop}
use Rattle.ia32_step.specs.declared.effects.Stop.TheVariants as stop
use Rattle.ia32_step.specs.Operands as operands
use Rattle.ia32_step.specs.State.{Machine}
use Rattle.ia32_step.specs.Machine.{outcome, done_by, fetched, read_as, code_of, after, ended, moved}
use Rattle.ia32_step.specs.Meaning.{meaning}
use Rattle.ia32_step.specs.Decodings.{IsHeld, place_of}
use Rattle.ia32_step.proofs.Steps.{at_no_slot}

-- it is the one that is done
pub done_held : (d : Decodings) (m : Machine) → IsHeld d m.registers.eip m.memory → outcome m ≡ done_by (place_of d m.registers.eip).instruction (place_of d m.registers.eip).length m
done_held d m held = at_no_slot m held.0 ∙ ap (λ f. fetched f m) held.1.runs ∙ ap (λ read. read_as read (length (code_of m)) m) held.1.reads

after_ended : (x : Result Machine Stop) (m : Machine) → operands.after x m ≡ after (ended x m.registers.eip) m
after_ended (Ok n) m = refl
after_ended (Err stop.DivideError) m = refl
after_ended (Err (stop.Memory (fault.Unmapped a))) m = refl
after_ended (Err (stop.Memory (fault.NotReadable a))) m = refl
after_ended (Err (stop.Memory (fault.NotWritable a))) m = refl
after_ended (Err (stop.Memory (fault.NotExecutable a))) m = refl

pub moved_held : (d : Decodings) (m : Machine) (held : IsHeld d m.registers.eip m.memory) → operands.after (meaning (place_of d m.registers.eip).instruction (place_of d m.registers.eip).length m) m ≡ moved m
moved_held d m held = after_ended (meaning (place_of d m.registers.eip).instruction (place_of d m.registers.eip).length m) m ∙ ap (λ o. after o m) (sym (done_held d m held))
