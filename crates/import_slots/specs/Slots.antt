-- The slots of an image's imports: the address that each import's word in the image gets. (PE/COFF specification, "Import Address Table"; the addresses are the project's own:
-- docs/MEMORY.md.) A function is known by its name; which DLL it is imported from is not judged.
use Rattle.std.specs.Prelude.{◌≡◌, ℕ, Bool, List, map, Option, None, Some, is_none, unwrap_or}
use Rattle.std.specs.List.{find}
use Rattle.std.specs.Option.{option_map}
use Rattle.nd_base.specs.declared.numbers.Slot.TheVariants.{Import}
use Rattle.guest_map.specs.Slots.{slot_address}
use Rattle.pe_image.specs.Image.{ImportParts}
use Rattle.import_slots.specs.declared.image_slots.SlotRefusal.{SlotRefusal}
use Rattle.import_slots.specs.declared.image_slots.SlotRefusal.TheVariants.{OutOfMemory, UnknownImport}
use Rattle.import_table.specs.Table.{number_of}

abbrev pub is_unknown : ImportParts → Bool
is_unknown i = is_none (number_of i.name)

-- the name of the first import that is not in the table
unfoldable pub first_unknown : List ImportParts → Option (List ℕ)
first_unknown imports = option_map (λ i. i.name) (find is_unknown imports)

abbrev pub slot_of : ImportParts → ℕ
slot_of i = slot_address (Import (unwrap_or (number_of i.name) 0))

abbrev pub addresses_of : List ImportParts → List ℕ
addresses_of imports = map slot_of imports

-- why a call gave no slots, where this is the first unknown name
abbrev pub RefusedFor : SlotRefusal → Option (List ℕ) → Type 0
RefusedFor OutOfMemory unknown = unknown ≡ None
RefusedFor (UnknownImport name) unknown = unknown ≡ Some name.now
