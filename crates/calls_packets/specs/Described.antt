-- What NdisGetFirstBufferFromPacket tells of a chain, and NdisQueryBuffer of a buffer's address. (Windows DDK, ndis.h.)
use Rattle.std.specs.Prelude.{ℕ, zero, suc, ◌%◌, ◌^◌, if◌then◌else◌, Option, None, Some}
use Rattle.nd_base.specs.declared.layout_field.Field.TheVariants.{BufferMapped}
use Rattle.guest_world.specs.declared.world.World.{World}
use Rattle.import_answers.specs.Descriptors.{can_read_field, mapped_of, count_of, total_from, gives_address}
use Rattle.calls_packets.specs.declared.buffers.FirstBuffer.{FirstBuffer}

abbrev pub described : World → ℕ → Option ℕ → Option FirstBuffer
described w head None = None
described w head (Some total) =
    if can_read_field w BufferMapped head then Some (record { mapped = mapped_of w head; count = count_of w head; total = total % 2 ^ 32 }) else None

-- of a chain without buffers, zeros
abbrev pub described_from : World → ℕ → Option FirstBuffer
described_from w zero = Some (record { mapped = 0; count = 0; total = 0 })
described_from w (suc head) = described w (suc head) (total_from w (suc head) 64)

-- the address of a buffer's bytes, where it is asked for
abbrev pub address_for : World → ℕ → ℕ → ℕ
address_for w zero buffer = 0
address_for w (suc place) buffer = mapped_of w buffer

abbrev pub address_asked : World → ℕ → ℕ → Option ℕ
address_asked w place buffer = if gives_address w place buffer then Some (address_for w place buffer) else None
