-- What the program prints of a run of DriverEntry, and of files that are not read or written. (The project's own texts: docs/PRINTED.md.)
use Rattle.std.specs.Prelude.{ℕ, List, [], ◌∷◌, ◌++◌, codes}
use Rattle.std.specs.Fmt.{decimal}
use Rattle.nd_base.specs.Text.{line, hex_word}
use Rattle.entry_session.specs.declared.session.Ending.{Ending}
use Rattle.entry_session.specs.declared.session.Ending.TheVariants.{Left, Faulting, Spent}

-- how DriverEntry ended: its status, or what stopped it
abbrev pub ending_text : Ending → List ℕ
ending_text (Left status) = hex_word status.0
ending_text Faulting = codes "fault"
ending_text Spent = codes "budget"

-- the line of a run, with what it was charged: its turns and replies
abbrev pub driver_entry_line : Ending → ℕ → List ℕ
driver_entry_line ending charged = line (codes "driverentry" ∷ ending_text ending ∷ codes "charged" ∷ decimal charged ∷ [])

abbrev pub read_line : List ℕ → List ℕ
read_line name = line (codes "read" ∷ name ∷ [])

abbrev pub write_line : List ℕ → List ℕ
write_line name = line (codes "write" ∷ name ∷ [])

-- the line that is tried where memory is wanted
abbrev pub memory_line : List ℕ
memory_line = codes "memory\n"

-- what `--help` prints: a line for each form of words
abbrev pub help_text : List ℕ
help_text = codes "run0 SYS LOG        run the DriverEntry of the driver image SYS alone, and write its log to LOG\n"
    ++ codes "show-image SYS      show the headers, sections, imports and relocations of the driver image SYS\n"
    ++ codes "show-inf INF ID     show the parameters that the INF file INF gives the hardware id ID\n"
    ++ codes "forge KIND SYS INF  write the image SYS and the INF file INF of a test miniport: idle, double, scarce, mute or deserial\n"
    ++ codes "--help              list the commands\n"
    ++ codes "--version           print the version\n"

-- what `--version` prints: the program and its version
abbrev pub version_line : List ℕ
version_line = line (codes "hedzvaki" ∷ codes "0.1.0" ∷ [])
