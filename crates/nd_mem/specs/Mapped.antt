-- The map of a look-up: what is found at each address of the 32-bit address space, as a finite map.
use Rattle.std.specs.Prelude.{ℕ, zero, suc, ◌^◌, Option, None, Some}
use Rattle.std.specs.FinMap as map
use Rattle.nd_mem.specs.Cell.{Cell}
use Rattle.nd_mem.specs.Space.{Space, Cells}

abbrev pub insert_found : Space → ℕ → Option Cell → Space
insert_found space a None = space
insert_found space a (Some cell) = map.insert space a cell

-- what is found below a bound
unfoldable pub tabulated : Cells → ℕ → Space
tabulated cells zero = map.empty
tabulated cells (suc n) = insert_found (tabulated cells n) n (cells n)

-- The map of a look-up that finds nothing above the last address. (It is the one map that has this look-up: Laws.antt, `LookUpLaws`.)
unfoldable pub mapped : Cells → Space
mapped cells = tabulated cells (2 ^ 32)
