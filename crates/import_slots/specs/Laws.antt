-- Laws of the slots of an image's imports: the contract of a function of src/laws.rt that does nothing.
use Rattle.std.specs.Prelude.{◌≡◌, ◌<◌, ℕ, List, length, slice_index, slice_index_or, None, Some}
use Rattle.nd_base.specs.declared.numbers.Slot.TheVariants.{Import}
use Rattle.guest_map.specs.Slots.{IsSlot, slot_address}
use Rattle.pe_image.specs.Image.{ImportParts}
use Rattle.import_table.specs.Table.{number_of}
use Rattle.import_slots.specs.Slots.{first_unknown, addresses_of}

-- the import at a place has a name
abbrev pub HasName : List ImportParts → ℕ → List ℕ → Type 0
HasName imports k name = (k < length imports) × ((d : ImportParts) → (slice_index_or imports k d).name ≡ name)

-- a name is that of import n, and its slot's address is at place k
pub record IsServed (imports : List ImportParts) (k : ℕ) (name : List ℕ) : Type 0 where
  pub import : ℕ
  pub number : number_of name ≡ Some import
  pub slot : IsSlot (Import import)
  pub address : slice_index (addresses_of imports) k ≡ slot_address (Import import)

-- an import whose name is not in the table, while all before are
pub record IsFirstUnknown (imports : List ImportParts) (name : List ℕ) : Type 0 where
  pub place : ℕ
  pub here : HasName imports place name
  pub unknown : number_of name ≡ None
  pub before : (j : ℕ) (other : List ℕ) → j < place → HasName imports j other → (n : ℕ) × (number_of other ≡ Some n)

pub record SlotLaws : Type 0 where
  pub count : (imports : List ImportParts) → length (addresses_of imports) ≡ length imports
  -- where no name is unknown, each import has the slot of the function that it names
  pub served : (imports : List ImportParts) (k : ℕ) (name : List ℕ) → first_unknown imports ≡ None → HasName imports k name → IsServed imports k name
  -- a name that is told is the first unknown one
  pub told : (imports : List ImportParts) (name : List ℕ) → first_unknown imports ≡ Some name → IsFirstUnknown imports name
