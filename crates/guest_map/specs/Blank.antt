-- What the regions beside the image have before anything runs: zeros that may be read and written. (The project's own: docs/MEMORY.md.)
use Rattle.std.specs.Prelude.{◌≡◌, ℕ, if◌then◌else◌, List, [], ◌∷◌, take, None, Some, true, false}
use Rattle.std.specs.Option.{option_or}
use Rattle.nd_mem.specs.declared.Rights.{Rights}
use Rattle.nd_mem.specs.Cell.{Cell, zero_cell}
use Rattle.nd_mem.specs.Space.{Cells}
use Rattle.guest_map.specs.declared.regions.Region.{Region}
use Rattle.guest_map.specs.Regions.{lies_in, regions}

abbrev pub read_write : Rights
read_write = record { read = true; write = true; execute = false }

-- a zero byte that may be read and written
abbrev pub blank : Cell
blank = zero_cell read_write

-- what new regions have at an address
abbrev pub blank_in : List Region → Cells
blank_in [] a = None
blank_in (r ∷ rs) a = if lies_in r a then Some blank else blank_in rs a

-- what the regions beside the image have at an address
unfoldable pub blank_cells : Cells
blank_cells a = blank_in regions a

-- some first regions were added
pub record HasFirstRegions (rs : List Region) (before after : Cells) : Type 0 where
  pub count : ℕ
  pub added : (a : ℕ) → after a ≡ option_or (before a) (blank_in (take count rs) a)
