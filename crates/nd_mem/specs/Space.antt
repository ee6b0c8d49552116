-- Guest memory: a finite map from addresses to a byte and its rights. What a clause asks of it takes its look-up, so that it serves any
-- way of keeping it. Addresses go on by one and are wrapped, from 0xFFFFFFFF to 0, only where they are looked up.
use Rattle.std.specs.Prelude.{◌≡◌, ◌≤◌, ◌<◌, ℕ, zero, suc, ◌+◌, ◌%◌, ◌^◌, Bool, true, nat_lt, if◌then◌else◌, List, [], ◌∷◌, length, take, Option, None, Some, Result, Ok, Err, is_some}
use Rattle.std.specs.Ordering.{nat_cmp}
use Rattle.std.specs.Option.{option_or}
use Rattle.std.specs.FinMap as map
use Rattle.nd_base.specs.declared.numbers.Addr.{Addr}
use Rattle.nd_mem.specs.declared.Rights.{Rights}
use Rattle.nd_mem.specs.declared.MemFault.{MemFault}
use Rattle.nd_mem.specs.declared.MemFault.TheVariants.{Unmapped, NotReadable, NotWritable, NotExecutable}
use Rattle.nd_mem.specs.declared.RegionRefusal.{RegionRefusal}
use Rattle.nd_mem.specs.declared.RegionRefusal.TheVariants.{High, Overlaps}
use Rattle.nd_mem.specs.Cell.{Cell}

abbrev pub Space : Type 0
Space = map.FinMap nat_cmp Cell

-- what a look-up finds at an address
abbrev pub Cells : Type 0
Cells = ℕ → Option Cell

-- nothing is mapped from 0xF0000000 on
abbrev pub IsLow : Cells → Type 0
IsLow cells = (a : ℕ) → 0xF0000000 ≤ a → cells a ≡ None

abbrev pub address : ℕ → Addr
address a = record { 0 = a }

abbrev pub wrapped : ℕ → ℕ
wrapped a = a % 2 ^ 32

-- what an access wants of each byte
pub data Access : Type 0 where
  Any : Access
  Reading : Access
  Writing : Access
  Executing : Access

abbrev pub allows : Access → Rights → Bool
allows Any rights = true
allows Reading rights = rights.read
allows Writing rights = rights.write
allows Executing rights = rights.execute

-- the fault of a byte that is there and lacks the right
abbrev pub denied : Access → Addr → MemFault
denied Any a = Unmapped a
denied Reading a = NotReadable a
denied Writing a = NotWritable a
denied Executing a = NotExecutable a

-- the fault of an access to what is found at an address
abbrev pub fault_in : Access → Addr → Option Cell → Option MemFault
fault_in access a None = Some (Unmapped a)
fault_in access a (Some cell) = if allows access cell.rights then None else Some (denied access a)

abbrev pub fault_at : Access → Cells → ℕ → Option MemFault
fault_at access cells a = fault_in access (address (wrapped a)) (cells (wrapped a))

-- the fault at the first of n addresses that is not mapped or lacks the right
unfoldable pub first_fault : Access → Cells → ℕ → ℕ → Option MemFault
first_fault access cells a zero = None
first_fault access cells a (suc n) = option_or (fault_at access cells a) (first_fault access cells (a + 1) n)

-- the answer of an access that nothing but a fault refuses
abbrev pub answer_of : {A : Type 0} → A → Option MemFault → Result A MemFault
answer_of value None = Ok value
answer_of value (Some fault) = Err fault

abbrev pub byte_in : Option Cell → ℕ
byte_in None = 0
byte_in (Some cell) = cell.byte

-- the bytes at n addresses
unfoldable pub bytes_from : Cells → ℕ → ℕ → List ℕ
bytes_from cells a zero = []
bytes_from cells a (suc n) = byte_in (cells (wrapped a)) ∷ bytes_from cells (a + 1) n

-- an address that is mapped gets the byte and keeps its rights
abbrev pub with_byte : Space → ℕ → ℕ → Option Cell → Space
with_byte space a byte None = space
with_byte space a byte (Some cell) = map.insert space a (record cell { byte = byte })

-- these bytes from an address on, where rights stay
unfoldable pub put_from : Space → ℕ → List ℕ → Space
put_from space a [] = space
put_from space a (byte ∷ bytes) = put_from (with_byte space (wrapped a) byte (map.get space (wrapped a))) (a + 1) bytes

-- n new zero bytes from an address on
unfoldable pub zeros_from : Space → ℕ → ℕ → Rights → Space
zeros_from space a zero rights = space
zeros_from space a (suc n) rights = zeros_from (map.insert space a (record { byte = 0; rights = rights })) (a + 1) n rights

-- one more than the run behind a byte without a fault, and none before a fault
abbrev pub run_after : Option MemFault → ℕ → ℕ
run_after None n = suc n
run_after (Some fault) n = 0

-- bytes that stand from an address on, and can all be executed
pub record IsCode (cells : Cells) (a : ℕ) (run : List ℕ) : Type 0 where
  pub some : 0 < length run
  pub allowed : (k : ℕ) → k < length run → fault_at Executing cells (a + k) ≡ None
  pub bytes : (n : ℕ) → n ≤ length run → bytes_from cells a n ≡ take n run

-- how many of the n bytes from an address on can be executed, up to the first that can't
unfoldable pub executable_run : Cells → ℕ → ℕ → ℕ
executable_run cells a zero = 0
executable_run cells a (suc n) = run_after (fault_at Executing cells a) (executable_run cells (a + 1) n)

-- the first of n addresses that is mapped
unfoldable pub first_mapped : Cells → ℕ → ℕ → Option ℕ
first_mapped cells a zero = None
first_mapped cells a (suc n) = if is_some (cells a) then Some a else first_mapped cells (a + 1) n

abbrev pub overlap_at : Option ℕ → Option RegionRefusal
overlap_at None = None
overlap_at (Some a) = Some (Overlaps (address a))

-- why a region can't be added: it passes 0xEFFFFFFF, or else an address of it is mapped already
abbrev pub region_refusal : Cells → ℕ → ℕ → Option RegionRefusal
region_refusal cells a n = if nat_lt 0xF0000000 (a + n) then Some High else overlap_at (first_mapped cells a n)
