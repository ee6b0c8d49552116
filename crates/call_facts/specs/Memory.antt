-- Which bytes of guest memory may be read, written and executed: those that could be before the first entry. (IMAGE_SCN_MEM_READ, IMAGE_SCN_MEM_WRITE
-- and IMAGE_SCN_MEM_EXECUTE of the Microsoft PE/COFF specification, "Section Flags"; what is mapped: docs/MEMORY.md.)
use Rattle.std.specs.Prelude.{◌≡◌, ℕ}
use Rattle.nd_mem.specs.Space.{Access, first_fault}
use Rattle.legal_run.specs.State.{Inputs, State, cells, start}
use Rattle.run_facts.specs.Facts.{IsOfRun}

-- in every state of a run an access has the fault that it had at the start, or none
abbrev pub MemoryStaysReadable : Type 0
MemoryStaysReadable = (c : Inputs) (s : State) (access : Access) (at n : ℕ) → IsOfRun c s → first_fault access (cells s) at n ≡ first_fault access (cells (start c)) at n
