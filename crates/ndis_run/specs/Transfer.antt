-- Whole files and whole lines, moved by calls that may each move a part.
use Rattle.std.specs.Prelude.{◌≡◌, ℕ, ◌≤◌, ◌++◌, ◌⊎◌, List, Option, Some, length, take}
use Rattle.std.specs.FinMap.{insert}
use Rattle.nd_base.specs.Files.{Kept}
use Rattle.nd_base.specs.declared.fault.IoFault.{IoFault}
use Rattle.nd_base.specs.declared.fault.IoFault.TheVariants as io
use Rattle.ndis_run.specs.declared.transfer.ReadFailure.{ReadFailure}
use Rattle.ndis_run.specs.declared.transfer.ReadFailure.TheVariants.{Failed, Memory}

-- where what was written is told, these bytes were added
abbrev pub Adds : Option (List ℕ) → Option (List ℕ) → List ℕ → Type 0
Adds old new bytes = (before : List ℕ) → old ≡ Some before → new ≡ Some (before ++ bytes)

-- where what was written is told, the first of these bytes were added
abbrev pub AddsFront : Option (List ℕ) → Option (List ℕ) → List ℕ → Type 0
AddsFront old new bytes = (before : List ℕ) → old ≡ Some before → (n : ℕ) × (n ≤ length bytes) × (new ≡ Some (before ++ take n bytes))

-- where what was written is told, a front of a line was added, and then a front of a last one
abbrev pub AddsFronts : Option (List ℕ) → Option (List ℕ) → List ℕ → List ℕ → Type 0
AddsFronts old new line last = (before : List ℕ) → old ≡ Some before
    → (n : ℕ) × (k : ℕ) × (n ≤ length line) × (k ≤ length last) × (new ≡ Some (before ++ take n line ++ take k last))

-- where the files are told, and one name was set to some bytes, these bytes stand behind them now, and no other file changed
abbrev pub Appends : Option Kept → Option Kept → List ℕ → List ℕ → Type 0
Appends old new name bytes = (m : Kept) (before : List ℕ) → old ≡ Some (insert m name before) → new ≡ Some (insert m name (before ++ bytes))

-- the same of the first of these bytes
abbrev pub AppendsFront : Option Kept → Option Kept → List ℕ → List ℕ → Type 0
AppendsFront old new name bytes = (m : Kept) (before : List ℕ) → old ≡ Some (insert m name before) → (n : ℕ) × (n ≤ length bytes) × (new ≡ Some (insert m name (before ++ take n bytes)))

-- where the files are told, one name now has these bytes, and no other changed
abbrev pub Writes : Option Kept → Option Kept → List ℕ → List ℕ → Type 0
Writes old new name bytes = (m : Kept) → old ≡ Some m → new ≡ Some (insert m name bytes)

-- where the files are told, nothing changed, or one name now has the first of these bytes
abbrev pub WritesFront : Option Kept → Option Kept → List ℕ → List ℕ → Type 0
WritesFront old new name bytes = (m : Kept) → old ≡ Some m → (new ≡ Some m) ⊎ ((n : ℕ) × (n ≤ length bytes) × (new ≡ Some (insert m name (take n bytes))))

-- a fault of a size or a read, as a failure to read the file
abbrev pub read_failure : IoFault → ReadFailure
read_failure io.Failed = Failed
read_failure io.Memory = Memory
