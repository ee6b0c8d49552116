-- Where the library's objects have their fields. The objects and fields are those of ndis.h and, for buffers, of the MDL of wdm.h in
-- the Windows DDK; their names, usual offsets and widths are this project's table. specs/LayoutFile.antt says what a layout file is.
use Rattle.std.specs.Prelude.{codes, ◌≡◌, ◌≢◌, ℕ, ◌+◌, ◌≤◌, ◌⊎◌, List, [], ◌∷◌, map, slice_index, slice_index_or}
use Rattle.nd_base.specs.declared.layout_field.Field.{Field}
use Rattle.nd_base.specs.declared.layout_field.Field.TheVariants.{PacketPhysicalCount, PacketTotalLength, PacketHead, PacketTail, PacketPool, PacketCount, PacketFlags, PacketValidCounts, PacketNdisFlags, PacketOobOffset, PacketMiniportReserved, OobHeaderSize, OobStatus, BufferNext, BufferSize, BufferFlags, BufferMapped, BufferStart, BufferCount, BufferOffset, BlockPacketIndicate, BlockSendComplete, BlockSendResources, BlockResetComplete, BlockStatus, BlockStatusComplete, BlockQueryComplete, BlockSetComplete, BlockEthIndicate, BlockEthComplete, BlockEthDb}
use Rattle.nd_base.specs.declared.layout_field.Object.{Object}
use Rattle.nd_base.specs.declared.layout_field.Object.TheVariants.{Packet, OutOfBand, Buffer, Block}
use Rattle.nd_base.specs.declared.layout_field.Row as code

-- where the fields of an object end
abbrev pub limit : Object → ℕ
limit Packet = 72
limit OutOfBand = 40
limit Buffer = 32
limit Block = 4096

-- a field with its name, its object, its usual offset and its width in bytes
pub record Row : Type 0 where
  pub field : Field
  pub name : List ℕ
  pub object : Object
  pub offset : ℕ
  pub width : ℕ

unfoldable pub seen : code.Row → Row
seen r = record { field = r.field; name = r.name.now; object = r.object; offset = r.offset; width = r.width }

unfoldable pub rows : List Row
rows =
    record { field = PacketPhysicalCount; name = codes "packet_physical_count"; object = Packet; offset = 0; width = 4 } ∷
    record { field = PacketTotalLength; name = codes "packet_total_length"; object = Packet; offset = 4; width = 4 } ∷
    record { field = PacketHead; name = codes "packet_head"; object = Packet; offset = 8; width = 4 } ∷
    record { field = PacketTail; name = codes "packet_tail"; object = Packet; offset = 12; width = 4 } ∷
    record { field = PacketPool; name = codes "packet_pool"; object = Packet; offset = 16; width = 4 } ∷
    record { field = PacketCount; name = codes "packet_count"; object = Packet; offset = 20; width = 4 } ∷
    record { field = PacketFlags; name = codes "packet_flags"; object = Packet; offset = 24; width = 4 } ∷
    record { field = PacketValidCounts; name = codes "packet_valid_counts"; object = Packet; offset = 28; width = 1 } ∷
    record { field = PacketNdisFlags; name = codes "packet_ndis_flags"; object = Packet; offset = 29; width = 1 } ∷
    record { field = PacketOobOffset; name = codes "packet_oob_offset"; object = Packet; offset = 30; width = 2 } ∷
    record { field = PacketMiniportReserved; name = codes "packet_miniport_reserved"; object = Packet; offset = 32; width = 16 } ∷
    record { field = OobHeaderSize; name = codes "oob_header_size"; object = OutOfBand; offset = 24; width = 4 } ∷
    record { field = OobStatus; name = codes "oob_status"; object = OutOfBand; offset = 36; width = 4 } ∷
    record { field = BufferNext; name = codes "buffer_next"; object = Buffer; offset = 0; width = 4 } ∷
    record { field = BufferSize; name = codes "buffer_size"; object = Buffer; offset = 4; width = 2 } ∷
    record { field = BufferFlags; name = codes "buffer_flags"; object = Buffer; offset = 6; width = 2 } ∷
    record { field = BufferMapped; name = codes "buffer_mapped"; object = Buffer; offset = 12; width = 4 } ∷
    record { field = BufferStart; name = codes "buffer_start"; object = Buffer; offset = 16; width = 4 } ∷
    record { field = BufferCount; name = codes "buffer_count"; object = Buffer; offset = 20; width = 4 } ∷
    record { field = BufferOffset; name = codes "buffer_offset"; object = Buffer; offset = 24; width = 4 } ∷
    record { field = BlockPacketIndicate; name = codes "block_packet_indicate"; object = Block; offset = 64; width = 4 } ∷
    record { field = BlockSendComplete; name = codes "block_send_complete"; object = Block; offset = 68; width = 4 } ∷
    record { field = BlockSendResources; name = codes "block_send_resources"; object = Block; offset = 72; width = 4 } ∷
    record { field = BlockResetComplete; name = codes "block_reset_complete"; object = Block; offset = 76; width = 4 } ∷
    record { field = BlockStatus; name = codes "block_status"; object = Block; offset = 80; width = 4 } ∷
    record { field = BlockStatusComplete; name = codes "block_status_complete"; object = Block; offset = 84; width = 4 } ∷
    record { field = BlockQueryComplete; name = codes "block_query_complete"; object = Block; offset = 88; width = 4 } ∷
    record { field = BlockSetComplete; name = codes "block_set_complete"; object = Block; offset = 92; width = 4 } ∷
    record { field = BlockEthIndicate; name = codes "block_eth_indicate"; object = Block; offset = 96; width = 4 } ∷
    record { field = BlockEthComplete; name = codes "block_eth_complete"; object = Block; offset = 100; width = 4 } ∷
    record { field = BlockEthDb; name = codes "block_eth_db"; object = Block; offset = 104; width = 4 } ∷
    []

abbrev pub no_row : Row
no_row = record { field = BlockEthDb; name = []; object = Packet; offset = 0; width = 0 }

-- what is said of the field at a place in the order of the fields
unfoldable pub row : ℕ → Row
row i = slice_index_or rows i no_row

abbrev pub number : Field → ℕ
number PacketPhysicalCount = 0
number PacketTotalLength = 1
number PacketHead = 2
number PacketTail = 3
number PacketPool = 4
number PacketCount = 5
number PacketFlags = 6
number PacketValidCounts = 7
number PacketNdisFlags = 8
number PacketOobOffset = 9
number PacketMiniportReserved = 10
number OobHeaderSize = 11
number OobStatus = 12
number BufferNext = 13
number BufferSize = 14
number BufferFlags = 15
number BufferMapped = 16
number BufferStart = 17
number BufferCount = 18
number BufferOffset = 19
number BlockPacketIndicate = 20
number BlockSendComplete = 21
number BlockSendResources = 22
number BlockResetComplete = 23
number BlockStatus = 24
number BlockStatusComplete = 25
number BlockQueryComplete = 26
number BlockSetComplete = 27
number BlockEthIndicate = 28
number BlockEthComplete = 29
number BlockEthDb = 30

-- the usual offsets, in the order of the fields
unfoldable pub usual : List ℕ
usual = map (λ (r : Row). r.offset) rows

-- a field's object, and its width in bytes
abbrev pub object_of : Field → Object
object_of field = (row (number field)).object

abbrev pub width_of : Field → ℕ
width_of field = (row (number field)).width

-- where a field begins, in bytes from its object's start
abbrev pub offset_of : List ℕ → Field → ℕ
offset_of offsets field = slice_index offsets (number field)

-- What is true of every layout: each field ends inside its object, no object has more than 4,096 bytes of fields, and of two fields of one
-- object one ends before the other begins.
pub record IsSound (offsets : List ℕ) : Type 0 where
  pub inside : (field : Field) → offset_of offsets field + width_of field ≤ limit (object_of field)
  pub small : (field : Field) → limit (object_of field) ≤ 4096
  pub apart : (field other : Field) → field ≢ other → object_of field ≡ object_of other
      → (offset_of offsets field + width_of field ≤ offset_of offsets other) ⊎ (offset_of offsets other + width_of other ≤ offset_of offsets field)
