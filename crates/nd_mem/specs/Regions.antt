-- A list of regions as guest memory: what it has at each address.
use Rattle.std.specs.Prelude.{◌≡◌, ℕ, ◌+◌, ◌-◌, ◌≤◌, ◌<◌, Bool, true, false, ◌&&◌, nat_le, nat_lt, if◌then◌else◌, List, [], ◌∷◌, map, length, slice_index, None, Some, Result, Ok, Err}
use Rattle.std.specs.List.{All, HoldsAt}
use Rattle.nd_base.specs.declared.numbers.Addr.{Addr}
use Rattle.nd_mem.specs.declared.Rights.{Rights}
use Rattle.nd_mem.specs.declared.MemFault.{MemFault}
use Rattle.nd_mem.specs.declared.regions.Region.{Region}
use Rattle.nd_mem.specs.declared.regions.Spot.{Spot}
use Rattle.nd_mem.specs.declared.regions.Purpose.{Purpose}
use Rattle.nd_mem.specs.declared.regions.Purpose.TheVariants.{Place, Read, Write, Execute}
use Rattle.nd_mem.specs.Cell.{Cell, cell_with}
use Rattle.nd_mem.specs.Space.{Cells, Access, allows, denied, Any, Reading, Writing, Executing, fault_at, byte_in}

-- whether an address is one of a region's
abbrev pub holds : Region → ℕ → Bool
holds region a = nat_le region.first.0 a && nat_lt (a - region.first.0) (length region.bytes.items)

-- what a region has at an address of its own
abbrev pub cell_in : Region → ℕ → Cell
cell_in region a = record { byte = slice_index region.bytes.items (a - region.first.0); rights = region.rights }

-- what the first region with an address has there
abbrev pub cells_of : List Region → Cells
cells_of [] a = None
cells_of (region ∷ regions) a = if holds region a then Some (cell_in region a) else cells_of regions a

-- the first address behind a region
abbrev pub end_of : Region → ℕ
end_of region = region.first.0 + length region.bytes.items

-- a region with a byte that ends before each of the others begins, and below 0xF0000000
pub record Joins (region : Region) (others : List Region) : Type 0 where
  pub some : 0 < length region.bytes.items
  pub ends : All (λ (other : Region). end_of region ≤ other.first.0) others
  pub low : end_of region ≤ 0xF0000000

-- regions by rising addresses, no two of which share one
abbrev pub AreLaidOut : List Region → Type 0
AreLaidOut [] = Unit {0}
AreLaidOut (region ∷ regions) = Joins region regions × AreLaidOut regions

-- what a write leaves as it is
abbrev pub shape : Region → ℕ × ℕ × Rights
shape region = (region.first.0, length region.bytes.items, region.rights)

abbrev pub shapes : List Region → List (ℕ × ℕ × Rights)
shapes regions = map shape regions

abbrev pub access_of : Purpose → Access
access_of Place = Any
access_of Read = Reading
access_of Write = Writing
access_of Execute = Executing

-- the answer for an address that is mapped
abbrev pub allowed_or : Access → Addr → Bool → Result (Unit {0}) MemFault
allowed_or access at true = Ok (tt {0})
allowed_or access at false = Err (denied access at)

-- an address stands in the region at this index, as far behind its first address, and the access may have its byte
pub record IsSpot (access : Access) (regions : List Region) (a : ℕ) (spot : Spot) : Type 0 where
  pub inside : spot.region < length regions
  pub first : HoldsAt (λ region. region.first.0 + spot.offset ≡ a) regions spot.region
  pub within : HoldsAt (λ region. spot.offset < length region.bytes.items) regions spot.region
  pub allowed : HoldsAt (λ region. allows access region.rights ≡ true) regions spot.region

-- bytes of one region from an address on, each of which the access may have
pub record IsRun (access : Access) (cells : Cells) (a : ℕ) (bytes : List ℕ) : Type 0 where
  pub some : 0 < length bytes
  pub low : a + length bytes ≤ 0xF0000000
  pub allowed : (k : ℕ) → k < length bytes → fault_at access cells (a + k) ≡ None
  pub found : (k : ℕ) → k < length bytes → byte_in (cells (a + k)) ≡ slice_index bytes k

-- the bytes are written from an address on, and nothing else changes
pub record PutsBytes (before after : Cells) (a : ℕ) (bytes : List ℕ) : Type 0 where
  pub inside : (x : ℕ) → a ≤ x → x < a + length bytes → after x ≡ cell_with (slice_index bytes (x - a)) (before x)
  pub outside : (x : ℕ) → (a ≤ x → a + length bytes ≤ x) → after x ≡ before x
