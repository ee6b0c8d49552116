-- What a handler finds in memory when it is entered: the mapped image, the regions beside it with the blocks of the adapters, and its stack. (The
-- project's own memory map: docs/MEMORY.md. How a handler finds its arguments: the stdcall convention of Windows DDK miniport handlers. The handlers
-- in a block: NDIS_MINIPORT_BLOCK of ndis.h, through which a driver's macros complete and indicate.)
use Rattle.std.specs.Prelude.{ℕ, ◌+◌, ◌-◌, ◌*◌, List, [], ◌∷◌, ◌++◌, length, replicate}
use Rattle.std.specs.List.{flat_map}
use Rattle.std.specs.Option.{option_or}
use Rattle.std.specs.Int.{to_le_bytes, w32}
use Rattle.nd_base.specs.declared.layout_field.Field.{Field}
use Rattle.nd_base.specs.declared.layout_field.Field.TheVariants as field
use Rattle.nd_base.specs.declared.numbers.Slot.TheVariants.{Import, Leave}
use Rattle.nd_base.specs.Layout.{offset_of}
use Rattle.nd_mem.specs.Mapped.{mapped}
use Rattle.nd_mem.specs.Space.{Space, Cells, address, put_from}
use Rattle.guest_map.specs.Blank.{blank_cells}
use Rattle.guest_map.specs.Handles.{driver_object, registry_path}
use Rattle.guest_map.specs.Regions.{image_base, stack, adapter_block, end_of}
use Rattle.guest_map.specs.Slots.{slot_address}
use Rattle.pe_image.specs.Image.{ImageParts, image_cells}
use Rattle.ia32_step.specs.Registers.{Registers, at_reset, with_general, ESP}
use Rattle.log_fields.specs.declared.write.Write.{Write}

-- bytes that are written where each write says, one write after the other
abbrev pub with_writes : Space → List Write → Space
with_writes memory [] = memory
with_writes memory (write ∷ writes) = with_writes (put_from memory write.at.0 write.bytes) writes

abbrev pub put : ℕ → List ℕ → Write
put a bytes = record { at = address a; bytes = bytes }

abbrev pub word : ℕ → ℕ → Write
word a value = put a (to_le_bytes w32 value)

-- ---- before the driver runs

-- what stands at an address: the image, with the address of each import in its slot, and zeros
abbrev pub start_cell : ImageParts → List ℕ → Cells
start_cell image slots a = option_or (image_cells image image_base slots a) (blank_cells a)

-- a block has the addresses of the functions that a driver's macros call, and that of itself in place of the filter's
abbrev pub served : ℕ → List ℕ → Field → ℕ → Write
served block layout f import = word (block + offset_of layout f) (slot_address (Import import))

abbrev pub block_writes : List ℕ → ℕ → List Write
block_writes layout adapter =
    let block = (adapter_block adapter).first.0 in
    served block layout field.BlockPacketIndicate 41
    ∷ served block layout field.BlockSendComplete 39
    ∷ served block layout field.BlockSendResources 40
    ∷ served block layout field.BlockResetComplete 42
    ∷ served block layout field.BlockStatus 45
    ∷ served block layout field.BlockStatusComplete 46
    ∷ served block layout field.BlockQueryComplete 43
    ∷ served block layout field.BlockSetComplete 44
    ∷ served block layout field.BlockEthIndicate 47
    ∷ served block layout field.BlockEthComplete 48
    ∷ word (block + offset_of layout field.BlockEthDb) block
    ∷ []

-- memory before the first entry, for adapters of these numbers
abbrev pub start_space : ImageParts → List ℕ → List ℕ → List ℕ → Space
start_space image slots layout adapters = with_writes (mapped (start_cell image slots)) (flat_map (block_writes layout) adapters)

abbrev pub entry_point : ImageParts → ℕ
entry_point image = image_base + image.entry

-- DriverEntry's argument words
abbrev pub driver_entry_words : List ℕ
driver_entry_words = driver_object ∷ registry_path ∷ []

-- ---- a handler's beginning

-- what it finds at ESP: the address that it returns to, and its argument words
abbrev pub frame_bytes : List ℕ → List ℕ
frame_bytes words = flat_map (to_le_bytes w32) (slot_address Leave ∷ words)

abbrev pub stack_pointer : ℕ → List ℕ → ℕ
stack_pointer context words = end_of (stack context) - 4 * (1 + length words)

-- a context's whole stack as a handler finds it: in front of that, zeros
unfoldable pub stack_bytes : ℕ → List ℕ → List ℕ
stack_bytes context words = replicate ((stack context).length - 4 * (1 + length words)) 0 ++ frame_bytes words

-- memory when it is entered: its stack, and what is written beside it
abbrev pub entered_memory : Space → ℕ → List ℕ → List Write → Space
entered_memory memory context words writes = with_writes (put_from memory (stack context).first.0 (stack_bytes context words)) writes

-- the registers that it begins with: ESP and EIP, and zeros
abbrev pub entered_registers : ℕ → ℕ → Registers
entered_registers esp eip = record (with_general ESP esp at_reset) { eip = eip }
