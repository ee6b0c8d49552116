-- A program's registers and its memory, and what a step comes to.
use Rattle.std.specs.FinMap as map
use Rattle.nd_base.specs.declared.numbers.Addr.{Addr}
use Rattle.nd_base.specs.declared.numbers.Slot.{Slot}
use Rattle.nd_mem.specs.Space.{Space, Cells}
use Rattle.ia32_step.specs.declared.FaultKind.{FaultKind}
use Rattle.ia32_step.specs.declared.effects.Write.{Write}
use Rattle.ia32_step.specs.Registers.{Registers}

pub record Machine : Type 0 where
  pub registers : Registers
  pub memory : Space

abbrev pub machine : Registers → Space → Machine
machine r m = record { registers = r; memory = m }

-- what stands at each address
abbrev pub cells_of : Machine → Cells
cells_of m = map.get m.memory

-- what an instruction leaves: new registers, and at most one write
pub record Effect : Type 0 where
  pub registers : Registers
  pub write : Write

abbrev pub left : Registers → Write → Effect
left r w = record { registers = r; write = w }

-- EIP is a slot's address; the instruction's result; the instruction has no result
pub data Outcome : Type 0 where
  Trapped : Slot → Outcome
  Moved : Machine → Outcome
  Faulted : FaultKind → Addr → Outcome
