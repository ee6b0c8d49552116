-- One step of a machine: the instruction at EIP is fetched, read and done, or there is a fault.
-- (Intel SDM volume 1, "Instruction Pointer"; volume 3, "Exception and Interrupt Reference".)
use Rattle.std.specs.Prelude.{ℕ, ◌≡◌, ◌+◌, List, ◌++◌, length, Option, None, Some, Result, Ok, Err}
use Rattle.nd_base.specs.declared.numbers.Slot.{Slot}
use Rattle.nd_mem.specs.declared.MemFault.{MemFault}
use Rattle.nd_mem.specs.declared.MemFault.TheVariants as fault
use Rattle.nd_mem.specs.Space.{Cells, Executing, fault_at, executable_run, bytes_from, address}
use Rattle.guest_map.specs.Slots.{slot_at}
use Rattle.codes.specs.Exact.{AreBytes}
use Rattle.codes.specs.Readings.{IsOutsideAt, IsUnfinished}
use Rattle.ia32_decode.specs.Prefixes.{instruction}
use Rattle.ia32_decode.specs.Decoding.{Spells, decoded}
use Rattle.ia32_decode.specs.declared.instruction.Instr.{Instr}
use Rattle.ia32_decode.specs.declared.decoding.Decoded.{Decoded}
use Rattle.ia32_decode.specs.declared.decoding.Decoded.TheVariants as read
use Rattle.ia32_step.specs.declared.effects.Stop.{Stop}
use Rattle.ia32_step.specs.declared.effects.Stop.TheVariants as stop
use Rattle.ia32_step.specs.declared.FaultKind.TheVariants as kind
use Rattle.ia32_step.specs.declared.Stepped.{Stepped}
use Rattle.ia32_step.specs.declared.Stepped.TheVariants.{Trap, Went, Fault}
pub use Rattle.ia32_step.specs.State.{Machine, machine, Outcome, Trapped, Moved, Faulted}
use Rattle.ia32_step.specs.State.{cells_of}
use Rattle.ia32_step.specs.Meaning.{meaning}

-- ---- one step

-- a fault of memory is the instruction's
abbrev pub faulted : MemFault → Outcome
faulted (fault.Unmapped a) = Faulted kind.Unmapped a
faulted (fault.NotReadable a) = Faulted kind.NotReadable a
faulted (fault.NotWritable a) = Faulted kind.NotWritable a
faulted (fault.NotExecutable a) = Faulted kind.NotExecutable a

-- an instruction at this EIP has no result
abbrev pub stopped : Stop → ℕ → Outcome
stopped stop.DivideError eip = Faulted kind.DivideError (address eip)
stopped (stop.Memory f) eip = faulted f

abbrev pub ended : Result Machine Stop → ℕ → Outcome
ended (Ok n) eip = Moved n
ended (Err s) eip = stopped s eip

-- an instruction that so many bytes spell
abbrev pub done_by : Instr → ℕ → Machine → Outcome
done_by i n m = ended (meaning i n m) m.registers.eip

-- no instruction is read at EIP
abbrev pub outside : Machine → Outcome
outside m = Faulted kind.Outside (address m.registers.eip)

-- the bytes end before an instruction does: the next one faults (it always does, since no instruction has more than 15 bytes: `StepsAsSpelled`)
abbrev pub cut_off : Option MemFault → Machine → Outcome
cut_off (Some fault) m = faulted fault
cut_off None m = outside m

abbrev pub read_as : Decoded → ℕ → Machine → Outcome
read_as (read.One i n) k m = done_by i n m
read_as (read.Outside _) k m = outside m
read_as read.More k m = cut_off (fault_at Executing (cells_of m) (m.registers.eip + k)) m

-- these bytes stand at EIP
abbrev pub run_of : List ℕ → Machine → Outcome
run_of code m = read_as (decoded code) (length code) m

-- the bytes at EIP that can be executed, 15 at most
abbrev pub code_of : Machine → List ℕ
code_of m = let cells = cells_of m in bytes_from cells m.registers.eip (executable_run cells m.registers.eip 15)

abbrev pub fetched : Option MemFault → Machine → Outcome
fetched (Some fault) m = faulted fault
fetched None m = run_of (code_of m) m

-- the bytes that can be executed there, 15 at most, begin with so many that spell the instruction
pub record IsReadAt (cells : Cells) (eip : ℕ) (i : Instr) (n : ℕ) : Type 0 where
  pub runs : fault_at Executing cells eip ≡ None
  pub reads : decoded (bytes_from cells eip (executable_run cells eip 15)) ≡ read.One i n

abbrev pub trapped : Option Slot → Machine → Outcome
trapped (Some slot) m = Trapped slot
trapped None m = fetched (fault_at Executing (cells_of m) m.registers.eip) m

unfoldable pub outcome : Machine → Outcome
outcome m = trapped (slot_at m.registers.eip) m

-- ---- what a caller sees of it

abbrev pub answer_to : Outcome → Stepped
answer_to (Trapped slot) = Trap slot
answer_to (Moved _) = Went
answer_to (Faulted k a) = Fault k a

-- without a result the machine is as it was
abbrev pub after : Outcome → Machine → Machine
after (Trapped _) m = m
after (Moved n) m = n
after (Faulted _ _) m = m

abbrev pub moved : Machine → Machine
moved m = after (outcome m) m

-- ---- the same by the spellings alone

-- What stands at an EIP that is no slot's address:
pub record StepsAsSpelled (m : Machine) : Type 0 where
  -- an instruction is done
  pub done : (i : Instr) (spelling rest : List ℕ) → Spells spelling i → spelling ++ rest ≡ code_of m → outcome m ≡ done_by i (length spelling) m
  -- bytes that begin no instruction are outside
  pub outside : (k : ℕ) → AreBytes (code_of m) → IsOutsideAt instruction (code_of m) k → outcome m ≡ Faulted kind.Outside (address m.registers.eip)
  -- where the bytes that can be executed end before an instruction does, the next byte faults
  pub cut_off : AreBytes (code_of m) → IsUnfinished instruction (code_of m) → (fault : MemFault) × (fault_at Executing (cells_of m) (m.registers.eip + length (code_of m)) ≡ Some fault) × (outcome m ≡ faulted fault)

abbrev pub EachStepIsAsSpelled : Type 0
EachStepIsAsSpelled = (m : Machine) → slot_at m.registers.eip ≡ None → StepsAsSpelled m
