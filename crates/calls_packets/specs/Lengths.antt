-- How many words the calls have that take a descriptor from its pool. (Windows DDK, ndis.h: NdisAllocatePacket, NdisAllocateBuffer.)
use Rattle.std.specs.Prelude.{ℕ}
use Rattle.packet_pool.specs.declared.states.Kind.{Kind}
use Rattle.packet_pool.specs.declared.states.Kind.TheVariants.{Packet, Buffer}

abbrev pub descriptor_words : Kind → ℕ
descriptor_words Packet = 3
descriptor_words Buffer = 5
