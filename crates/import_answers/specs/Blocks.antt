-- Imports 21, 22, 62 and 63: blocks of the guest pool, and bytes that are copied or set. (Windows DDK: NdisAllocateMemoryWithTag, NdisFreeMemory. ISO C: memcpy,
-- memset; memcpy here copies from the first byte on, so that where the ranges overlap, bytes that were copied are copied again.)
use Rattle.std.specs.Prelude.{ℕ, zero, suc, ◌+◌, ◌/◌, ◌%◌, max, Bool, ◌&&◌, if◌then◌else◌, List, [], ◌∷◌, ◌++◌, replicate, is_some}
use Rattle.nd_mem.specs.Space.{Space, bytes_from, byte_in, wrapped, with_byte}
use Rattle.std.specs.FinMap as table
use Rattle.log_fields.specs.declared.write.Write.{Write}
use Rattle.packet_pool.specs.LiveSet.{first_free}
use Rattle.packet_pool.specs.LiveMoves.{MakeBlock, FreeBlock, may, after}
use Rattle.import_answers.specs.Statuses.{success, failure}
use Rattle.guest_world.specs.declared.world.World.{World}
use Rattle.import_answers.specs.World.{word}
use Rattle.import_answers.specs.Outcomes.{Outcome, Picks, Replies, arguments_rule, live_rule, asks, can_read, can_write, written, word_written, plain, done}

-- whether a block of so many bytes has room in the guest pool; one of no bytes takes one
abbrev pub has_room : World → ℕ → Bool
has_room w length = is_some (first_free w.pools (max length 1))

abbrev pub with_block : World → ℕ → ℕ → World
with_block w length a = record w { pools = after w.pools (MakeBlock length a) }

-- ---- NdisAllocateMemoryWithTag(address, length, tag)
abbrev pub zeros : ℕ → List ℕ
zeros n = replicate n 0

-- what has no bytes makes no write
abbrev pub zeros_written : ℕ → ℕ → List Write
zeros_written a zero = []
zeros_written a n = written a (zeros n) ∷ []

abbrev pub allocate_memory : World → List ℕ → Outcome
allocate_memory w words =
    asks (can_write w (word words 1) 4) arguments_rule
    (if has_room w (word words 2)
    then Picks (word words 2) (λ a. plain success (zeros_written a (word words 2) ++ word_written (word words 1) a ∷ [])) (λ a. with_block w (word words 2) a)
    else Replies (plain failure (word_written (word words 1) 0 ∷ [])) w)

-- ---- NdisFreeMemory(address, length, flags)
abbrev pub free_memory : World → List ℕ → Outcome
free_memory w words = asks (may w.pools (FreeBlock (word words 1))) live_rule (done (record w { pools = after w.pools (FreeBlock (word words 1)) }))

-- ---- memcpy(to, from, n) and memset(to, byte, n)

-- a call that moves n bytes
abbrev pub moves : ℕ → ℕ
moves n = 1 + n / 16

abbrev pub bytes_written : ℕ → List ℕ → List Write
bytes_written a [] = []
bytes_written a bytes = written a bytes ∷ []

abbrev pub moved : World → ℕ → ℕ → List ℕ → Outcome
moved w to n bytes = Replies (record { eax = to; writes = bytes_written to bytes; cost = moves n; sent = [] }) w

-- guest memory after n bytes were copied, the first of them first
unfoldable pub copied : Space → ℕ → ℕ → ℕ → Space
copied space to from zero = space
copied space to from (suc n) =
    copied (with_byte space (wrapped to) (byte_in (table.get space (wrapped from))) (table.get space (wrapped to))) (to + 1) (from + 1) n

abbrev pub copy_memory : World → List ℕ → Outcome
copy_memory w words =
    let n = word words 3 in
    asks (can_write w (word words 1) n && can_read w (word words 2) n) arguments_rule
    (moved w (word words 1) n (bytes_from (table.get (copied w.memory (word words 1) (word words 2) n)) (word words 1) n))

abbrev pub set_memory : World → List ℕ → Outcome
set_memory w words =
    let n = word words 3 in
    asks (can_write w (word words 1) n) arguments_rule (moved w (word words 1) n (replicate n (word words 2 % 256)))
