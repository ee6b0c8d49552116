-- Imports 23 to 32 and 52: pools of packets and buffers, and what stands in their descriptors. (Windows DDK, ndis.h: NdisAllocatePacketPool,
-- NdisFreePacketPool, NdisAllocatePacket, NdisFreePacket, NdisAllocateBufferPool, NdisFreeBufferPool, NdisAllocateBuffer, NdisFreeBuffer,
-- NdisUnchainBufferAtFront, NdisQueryBuffer, NdisGetFirstBufferFromPacket; fields of NDIS_PACKET and of the MDL by docs/LAYOUT.md.)
use Rattle.std.specs.Prelude.{ℕ, zero, suc, ◌+◌, ◌-◌, ◌%◌, ◌^◌, Bool, true, false, ◌&&◌, ◌||◌, ◌==◌, if◌then◌else◌, List, [], ◌∷◌, ◌++◌, Option, None, Some}
use Rattle.std.specs.Option.{option_map}
use Rattle.nd_base.specs.declared.layout_field.Field.{Field}
use Rattle.nd_base.specs.declared.layout_field.Field.TheVariants.{PacketHead, PacketValidCounts, BufferNext, BufferMapped, BufferCount}
use Rattle.guest_map.specs.Regions.{send_slots, lies_in}
use Rattle.log_fields.specs.declared.write.Write.{Write}
use Rattle.packet_pool.specs.declared.states.Kind.{Kind}
use Rattle.packet_pool.specs.declared.states.Kind.TheVariants.{Packet, Buffer}
use Rattle.packet_pool.specs.declared.states.PoolRefusal.{PoolRefusal}
use Rattle.packet_pool.specs.LiveSet.{LiveSet, pool_of, is_out}
use Rattle.packet_pool.specs.LiveMoves.{LiveMove, MakePool, FreePool, Allocate, Free, may, after, pool_refusal, new_handle, is_pool_of, is_full_pool}
use Rattle.packet_pool.specs.DescriptorBytes.{packet_bytes, buffer_bytes}
use Rattle.import_answers.specs.Statuses.{success, resources}
use Rattle.guest_world.specs.declared.world.World.{World}
use Rattle.import_answers.specs.World.{word}
use Rattle.import_answers.specs.Outcomes.{Outcome, PicksDescriptor, arguments_rule, live_rule, asks, can_read, can_write, word_of, field_of, written, word_written, plain, done, writes}

abbrev pub with_live : World → LiveSet → World
with_live w live = record w { pools = live }

-- a move that frees: it may be made, or what is named is not live
abbrev pub frees : World → LiveMove → Outcome
frees w m = asks (may w.pools m) live_rule (done (with_live w (after w.pools m)))

-- a status at the first word, and a number at the second
abbrev pub status_and : List ℕ → ℕ → ℕ → List Write
status_and words status value = word_written (word words 1) status ∷ word_written (word words 2) value ∷ []

-- ---- NdisAllocatePacketPool(status, handle, count, bytes reserved), NdisAllocateBufferPool(status, handle, count)

abbrev pub given_pool : World → Kind → List ℕ → Option PoolRefusal → Outcome
given_pool w kind words (Some refusal) = writes w (status_and words resources 0)
given_pool w kind words None = writes (with_live w (after w.pools (MakePool kind (word words 3)))) (status_and words success (new_handle w.pools))

abbrev pub allocate_pool : World → Kind → List ℕ → Outcome
allocate_pool w kind words =
    asks (can_write w (word words 1) 4 && can_write w (word words 2) 4) arguments_rule (given_pool w kind words (pool_refusal w.pools kind (word words 3)))

-- ---- NdisFreePacketPool(handle), NdisFreeBufferPool(handle): each frees a pool of either kind
abbrev pub free_pool : World → List ℕ → Outcome
free_pool w words = frees w (FreePool (word words 1))

-- ---- NdisAllocatePacket(status, packet, pool), NdisAllocateBuffer(status, buffer, pool, address, length)

abbrev pub descriptor_bytes : World → Kind → List ℕ → List ℕ
descriptor_bytes w Packet words = packet_bytes w.layout
descriptor_bytes w Buffer words = buffer_bytes w.layout (word words 4) (word words 5)

abbrev pub allocate_descriptor : World → Kind → List ℕ → Outcome
allocate_descriptor w kind words =
    asks (can_write w (word words 1) 4 && can_write w (word words 2) 4) arguments_rule
    (asks (is_pool_of kind (pool_of w.pools (word words 3))) live_rule
    (if is_full_pool w.pools (pool_of w.pools (word words 3)) then writes w (status_and words resources 0)
    else PicksDescriptor kind (word words 3)
    (λ a. plain 0 (written a (descriptor_bytes w kind words) ∷ status_and words success a))
    (λ a. with_live w (after w.pools (Allocate kind (word words 3) a)))))

-- ---- NdisFreePacket(packet), NdisFreeBuffer(buffer)
abbrev pub free_descriptor : World → Kind → List ℕ → Outcome
free_descriptor w kind words = frees w (Free kind (word words 1))

-- ---- what counts as live: what is out of a pool, and the packet and the buffer of each send slot

abbrev pub slot_offset : Kind → ℕ
slot_offset Packet = 0
slot_offset Buffer = 128

abbrev pub is_in_slot : Kind → ℕ → Bool
is_in_slot kind a = lies_in send_slots a && (((a - send_slots.first.0) % 0x800) == slot_offset kind)

abbrev pub is_live : World → Kind → ℕ → Bool
is_live w kind a = is_out w.pools kind a || is_in_slot kind a

-- ---- a packet's first buffer, and what a buffer says of itself

abbrev pub head_of : World → ℕ → ℕ
head_of w packet = word_of w (field_of w PacketHead packet)

abbrev pub next_of : World → ℕ → ℕ
next_of w buffer = word_of w (field_of w BufferNext buffer)

abbrev pub mapped_of : World → ℕ → ℕ
mapped_of w buffer = word_of w (field_of w BufferMapped buffer)

abbrev pub count_of : World → ℕ → ℕ
count_of w buffer = word_of w (field_of w BufferCount buffer)

abbrev pub can_read_field : World → Field → ℕ → Bool
can_read_field w field object = can_read w (field_of w field object) 4

-- ---- NdisUnchainBufferAtFront(packet, buffer): a packet without buffers stays as it is

abbrev pub unchained : World → List ℕ → ℕ → Outcome
unchained w words zero = asks (is_live w Packet (word words 1)) live_rule (writes w (word_written (word words 2) 0 ∷ []))
unchained w words (suc h) =
    let head = suc h in
    asks (can_read_field w BufferNext head && (can_write w (field_of w PacketHead (word words 1)) 4 && can_write w (field_of w PacketValidCounts (word words 1)) 1)) arguments_rule
    (asks (is_live w Packet (word words 1)) live_rule
    (writes w (word_written (field_of w PacketHead (word words 1)) (next_of w head)
    ∷ written (field_of w PacketValidCounts (word words 1)) (0 ∷ [])
    ∷ word_written (word words 2) head ∷ [])))

abbrev pub unchain_buffer : World → List ℕ → Outcome
unchain_buffer w words =
    asks (can_read_field w PacketHead (word words 1) && can_write w (word words 2) 4) arguments_rule (unchained w words (head_of w (word words 1)))

-- ---- NdisQueryBuffer(buffer, address, length): the address of its bytes is given where it is asked for

abbrev pub gives_address : World → ℕ → ℕ → Bool
gives_address w zero buffer = true
gives_address w (suc place) buffer = can_write w (suc place) 4 && can_read_field w BufferMapped buffer

abbrev pub address_given : World → ℕ → ℕ → List Write
address_given w zero buffer = []
address_given w (suc place) buffer = word_written (suc place) (mapped_of w buffer) ∷ []

abbrev pub query_buffer : World → List ℕ → Outcome
query_buffer w words =
    asks (gives_address w (word words 2) (word words 1) && (can_write w (word words 3) 4 && can_read_field w BufferCount (word words 1))) arguments_rule
    (asks (is_live w Buffer (word words 1)) live_rule
    (writes w (address_given w (word words 2) (word words 1) ++ word_written (word words 3) (count_of w (word words 1)) ∷ [])))

-- ---- NdisGetFirstBufferFromPacket(packet, buffer, address, length of the first, length of all)

-- the counts of a chain of n buffers at most, summed; None where a buffer can't be read, or there are more
unfoldable pub total_from : World → ℕ → ℕ → Option ℕ
total_from w zero n = Some 0
total_from w (suc b) zero = None
total_from w (suc b) (suc n) =
    if can_read_field w BufferCount (suc b) && can_read_field w BufferNext (suc b)
    then option_map (λ more. count_of w (suc b) + more) (total_from w (next_of w (suc b)) n)
    else None

abbrev pub four_written : List ℕ → ℕ → ℕ → ℕ → ℕ → List Write
four_written words buffer mapped first total =
    word_written (word words 2) buffer ∷ word_written (word words 3) mapped ∷ word_written (word words 4) first ∷ word_written (word words 5) total ∷ []

abbrev pub can_write_four : World → List ℕ → Bool
can_write_four w words = can_write w (word words 2) 4 && (can_write w (word words 3) 4 && (can_write w (word words 4) 4 && can_write w (word words 5) 4))

abbrev pub totalled : World → List ℕ → ℕ → Option ℕ → Outcome
totalled w words head None = asks false arguments_rule (done w)
totalled w words head (Some total) =
    asks (can_read_field w BufferMapped head) arguments_rule
    (asks (is_live w Packet (word words 1)) live_rule (writes w (four_written words head (mapped_of w head) (count_of w head) (total % 2 ^ 32))))

abbrev pub first_buffer : World → List ℕ → ℕ → Outcome
first_buffer w words zero = asks (is_live w Packet (word words 1)) live_rule (writes w (four_written words 0 0 0 0))
first_buffer w words (suc head) = totalled w words (suc head) (total_from w (suc head) 64)

abbrev pub get_first_buffer : World → List ℕ → Outcome
get_first_buffer w words =
    asks (can_read_field w PacketHead (word words 1) && can_write_four w words) arguments_rule (first_buffer w words (head_of w (word words 1)))
