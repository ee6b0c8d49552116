-- How a line of a command is printed. Here and below a count of faults that stands at its last value is one that rose.
use Rattle.std.specs.Prelude.{◌≡◌, ℕ, List, [], codes}
use Rattle.nd_base.specs.Files.{Rose}
use Rattle.ndis_run.specs.Devices.{Output}
use Rattle.ndis_run.specs.Printed.{memory_line, write_line}
use Rattle.ndis_run.specs.Transfer.{Adds, AddsFront, AddsFronts}

-- How a line is printed that comes with a status: whole, with that status; or not whole. Then a front of it was printed, and a front of a last
-- line, which is `memory` with 10, and with 4, where a write failed, the one that is tried there.
pub data Prints (line tried : List ℕ) (wanted status : ℕ) (old new : Output) : Type 0 where
  whole : status ≡ wanted → Adds old.printed new.printed line → new.print_faults ≡ old.print_faults → Prints line tried wanted status old new
  failed : status ≡ 4 → Rose old.print_faults new.print_faults → AddsFronts old.printed new.printed line tried → Prints line tried wanted status old new
  no_memory : status ≡ 10 → AddsFronts old.printed new.printed line memory_line → Prints line tried wanted status old new

-- a line of which `write -` is tried behind a write that failed
abbrev pub Tells : List ℕ → ℕ → ℕ → Output → Output → Type 0
Tells line wanted status old new = Prints line (write_line (codes "-")) wanted status old new

-- `write LOG`, behind which nothing is tried where its own write failed
abbrev pub TellsUnwritten : List ℕ → ℕ → Output → Output → Type 0
TellsUnwritten log status old new = Prints (write_line log) [] 4 status old new

-- want of memory: a front of `memory`, with 10
pub record TellsMemory (status : ℕ) (old new : Output) : Type 0 where
  pub is_status : status ≡ 10
  pub front : AddsFront old.printed new.printed memory_line
