-- The frame of an indicated packet, as a chain of buffers gives it, and the rule that a chain breaks. (Windows DDK, NDIS_PACKET and NDIS_BUFFER; the walk
-- itself: `packet_chain`, whose `Gives` this is as a function.)
use Rattle.std.specs.Prelude.{ℕ, zero, suc, ◌&&◌, ◌==◌, nat_le, if◌then◌else◌, List, length, Option, Some, None, is_none}
use Rattle.nd_mem.specs.Space.{Cells}
use Rattle.packet_chain.specs.Chain.{buffer_of, buffer_fault, head_fault, joined}

-- how many buffers a chain has, looked for from buffer k on in n of them: None where one can't be read, or there are more
unfoldable pub chain_from : List ℕ → Cells → ℕ → ℕ → ℕ → Option ℕ
chain_from layout cells packet k zero = if buffer_of layout cells packet k == 0 then Some k else None
chain_from layout cells packet k (suc n) =
    if buffer_of layout cells packet k == 0 then Some k
    else if is_none (buffer_fault layout cells (buffer_of layout cells packet k)) then chain_from layout cells packet (suc k) n
    else None

abbrev pub most_buffers : ℕ
most_buffers = 64

abbrev pub of_length : List ℕ → Option (List ℕ)
of_length bytes = if nat_le 14 (length bytes) && nat_le (length bytes) 1514 then Some bytes else None

abbrev pub frame_of : List ℕ → Cells → ℕ → Option ℕ → Option (List ℕ)
frame_of layout cells packet None = None
frame_of layout cells packet (Some n) = of_length (joined layout cells packet n)

-- the frame, of 14 to 1,514 bytes, that can be read whole
abbrev pub frame_at : List ℕ → Cells → ℕ → Option (List ℕ)
frame_at layout cells packet =
    if is_none (head_fault layout cells packet) then frame_of layout cells packet (chain_from layout cells packet 0 most_buffers) else None
