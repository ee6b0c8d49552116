-- Laws of guest memory: what a caller may take of the words of Space.antt and Mapped.antt, whatever keeps the memory. Each record is the
-- contract of a function of src/space_laws.rt that does nothing. (The project's own; addresses go on from 0xFFFFFFFF at 0, as in the flat model of
-- the Intel SDM volume 1, "Memory Organization".)
use Rattle.std.specs.Prelude.{◌≡◌, ◌≢◌, ◌≤◌, ◌<◌, ℕ, ◌+◌, ◌-◌, ◌^◌, true, ◌&&◌, nat_le, nat_lt, if◌then◌else◌, List, ◌++◌, length, replicate, slice_index, None, Some, is_some}
use Rattle.std.specs.FinMap as map
use Rattle.std.specs.Option.{option_or}
use Rattle.nd_mem.specs.declared.Rights.{Rights}
use Rattle.nd_mem.specs.declared.MemFault.{MemFault}
use Rattle.nd_mem.specs.declared.RegionRefusal.TheVariants.{Overlaps}
use Rattle.nd_mem.specs.Cell.{zero_cell, cell_with, rights_in}
use Rattle.nd_mem.specs.Space.{Space, Cells, IsLow, address, wrapped, Access, Any, Executing, allows, fault_at, first_fault, byte_in, bytes_from, put_from, zeros_from, executable_run, first_mapped, region_refusal}
use Rattle.nd_mem.specs.Mapped.{mapped}

-- what is found at each address is all that there is of a map
pub record LookUpLaws : Type 0 where
  -- two maps with one look-up are one
  pub same : (s t : Space) → ((x : ℕ) → map.get s x ≡ map.get t x) → s ≡ t
  -- the map of a look-up has that look-up
  pub mapped : (cells : Cells) → ((x : ℕ) → 2 ^ 32 ≤ x → cells x ≡ None) → (x : ℕ) → map.get (mapped cells) x ≡ cells x

-- what a write leaves
pub record WriteLaws : Type 0 where
  -- byte k stands k addresses on, and the rights there stay
  pub written : (s : Space) (a : ℕ) (bytes : List ℕ) (k : ℕ) → k < length bytes → length bytes ≤ 2 ^ 32 → map.get (put_from s a bytes) (wrapped (a + k)) ≡ cell_with (slice_index bytes k) (map.get s (wrapped (a + k)))
  -- an address that none of the bytes goes to keeps what it has
  pub others : (s : Space) (a : ℕ) (bytes : List ℕ) (x : ℕ) → ((k : ℕ) → k < length bytes → wrapped (a + k) ≢ x) → map.get (put_from s a bytes) x ≡ map.get s x
  -- the same where no address wraps
  pub written_at : (s : Space) (a : ℕ) (bytes : List ℕ) (x : ℕ) → a + length bytes ≤ 2 ^ 32 → a ≤ x → x < a + length bytes → map.get (put_from s a bytes) x ≡ cell_with (slice_index bytes (x - a)) (map.get s x)
  pub others_at : (s : Space) (a : ℕ) (bytes : List ℕ) (x : ℕ) → a + length bytes ≤ 2 ^ 32 → (a ≤ x → a + length bytes ≤ x) → map.get (put_from s a bytes) x ≡ map.get s x
  -- rights stay at every address, and what is not mapped stays so
  pub rights : (s : Space) (a : ℕ) (bytes : List ℕ) (x : ℕ) → rights_in (map.get (put_from s a bytes) x) ≡ rights_in (map.get s x)
  -- two writes, the second where the first ends, are one
  pub append : (s : Space) (a : ℕ) (xs ys : List ℕ) → put_from s a (xs ++ ys) ≡ put_from (put_from s a xs) (a + length xs) ys
  pub wraps : (s : Space) (a : ℕ) (bytes : List ℕ) → put_from s (wrapped a) bytes ≡ put_from s a bytes

-- what a read gives
pub record ReadLaws : Type 0 where
  -- there are n bytes, and byte k is the one k addresses on
  pub count : (cells : Cells) (a n : ℕ) → length (bytes_from cells a n) ≡ n
  pub byte : (cells : Cells) (a n k : ℕ) → k < n → slice_index (bytes_from cells a n) k ≡ byte_in (cells (wrapped (a + k)))
  -- two reads, the second where the first ends, are one
  pub split : (cells : Cells) (a m n : ℕ) → bytes_from cells a (m + n) ≡ bytes_from cells a m ++ bytes_from cells (a + m) n
  pub wraps : (cells : Cells) (a n : ℕ) → bytes_from cells (wrapped a) n ≡ bytes_from cells a n
  -- look-ups that find the same at the addresses that are read
  pub same : (f g : Cells) (a n : ℕ) → ((k : ℕ) → k < n → f (wrapped (a + k)) ≡ g (wrapped (a + k))) → bytes_from f a n ≡ bytes_from g a n
  -- what was written is read
  pub written : (s : Space) (a : ℕ) (bytes : List ℕ) → length bytes ≤ 2 ^ 32 → first_fault Any (map.get s) a (length bytes) ≡ None → bytes_from (map.get (put_from s a bytes)) a (length bytes) ≡ bytes
  -- where nothing was written is read what was read before
  pub others : (s : Space) (a : ℕ) (bytes : List ℕ) (b n : ℕ) → ((j k : ℕ) → j < length bytes → k < n → wrapped (a + j) ≢ wrapped (b + k)) → bytes_from (map.get (put_from s a bytes)) b n ≡ bytes_from (map.get s) b n

-- an access has this fault at the first of n addresses that have one
pub record HasFirstFault (access : Access) (cells : Cells) (a n : ℕ) (fault : MemFault) : Type 0 where
  pub distance : ℕ
  pub inside : distance < n
  pub before : (j : ℕ) → j < distance → fault_at access cells (a + j) ≡ None
  pub here : fault_at access cells (a + distance) ≡ Some fault

-- the first bad address
pub record FaultLaws : Type 0 where
  -- there is no fault where no address has one
  pub none : (access : Access) (cells : Cells) (a n : ℕ) → ((k : ℕ) → k < n → fault_at access cells (a + k) ≡ None) → first_fault access cells a n ≡ None
  pub none_at : (access : Access) (cells : Cells) (a n k : ℕ) → first_fault access cells a n ≡ None → k < n → fault_at access cells (a + k) ≡ None
  -- a fault is that of the first address that has one
  pub first : (access : Access) (cells : Cells) (a n : ℕ) (fault : MemFault) → HasFirstFault access cells a n fault → first_fault access cells a n ≡ Some fault
  pub first_at : (access : Access) (cells : Cells) (a n : ℕ) (fault : MemFault) → first_fault access cells a n ≡ Some fault → HasFirstFault access cells a n fault
  -- of two accesses, the second where the first ends, the first fault counts
  pub split : (access : Access) (cells : Cells) (a m n : ℕ) → first_fault access cells a (m + n) ≡ option_or (first_fault access cells a m) (first_fault access cells (a + m) n)
  pub wraps : (access : Access) (cells : Cells) (a n : ℕ) → first_fault access cells (wrapped a) n ≡ first_fault access cells a n
  -- a write leaves all faults as they were
  pub written : (access : Access) (s : Space) (a : ℕ) (bytes : List ℕ) (b n : ℕ) → first_fault access (map.get (put_from s a bytes)) b n ≡ first_fault access (map.get s) b n
  pub written_at : (access : Access) (s : Space) (a : ℕ) (bytes : List ℕ) (b : ℕ) → fault_at access (map.get (put_from s a bytes)) b ≡ fault_at access (map.get s) b
  -- what may be read, written or executed is mapped
  pub mapped : (access : Access) (cells : Cells) (a n : ℕ) → first_fault access cells a n ≡ None → first_fault Any cells a n ≡ None
  -- an access without a fault ends below the address from which on nothing is mapped
  pub low : (access : Access) (cells : Cells) (a n : ℕ) → IsLow cells → a < 2 ^ 32 → first_fault access cells a n ≡ None → 0 < n → a + n ≤ 0xF0000000

-- the longest front of n bytes that can be executed
pub record FetchLaws : Type 0 where
  pub most : (cells : Cells) (a n : ℕ) → executable_run cells a n ≤ n
  -- each byte of the run can be executed
  pub each : (cells : Cells) (a n k : ℕ) → k < executable_run cells a n → fault_at Executing cells (a + k) ≡ None
  -- and no longer run can
  pub longest : (cells : Cells) (a n : ℕ) → executable_run cells a n < n → (fault : MemFault) × (fault_at Executing cells (a + executable_run cells a n) ≡ Some fault)
  -- a write leaves it as long as it was
  pub written : (s : Space) (a : ℕ) (bytes : List ℕ) (b n : ℕ) → executable_run (map.get (put_from s a bytes)) b n ≡ executable_run (map.get s) b n

-- regions that are added
pub record RegionLaws : Type 0 where
  -- zeros with their rights stand at the new addresses, and what was there elsewhere
  pub found : (s : Space) (a n : ℕ) (rights : Rights) (x : ℕ) → map.get (zeros_from s a n rights) x ≡ (if nat_le a x && nat_lt x (a + n) then Some (zero_cell rights) else map.get s x)
  -- inside the region zeros are read, and what its rights allow has no fault
  pub zeros : (s : Space) (a n : ℕ) (rights : Rights) (b m : ℕ) → a + n ≤ 2 ^ 32 → a ≤ b → b + m ≤ a + n → bytes_from (map.get (zeros_from s a n rights)) b m ≡ replicate m 0
  pub allowed : (access : Access) (s : Space) (a n : ℕ) (rights : Rights) (b m : ℕ) → allows access rights ≡ true → a + n ≤ 2 ^ 32 → a ≤ b → b + m ≤ a + n → first_fault access (map.get (zeros_from s a n rights)) b m ≡ None
  -- outside it bytes and faults are what they were
  pub others : (s : Space) (a n : ℕ) (rights : Rights) (b m : ℕ) → b + m ≤ 2 ^ 32 → (a < b + m → a + n ≤ b) → bytes_from (map.get (zeros_from s a n rights)) b m ≡ bytes_from (map.get s) b m
  pub faults : (access : Access) (s : Space) (a n : ℕ) (rights : Rights) (b m : ℕ) → b + m ≤ 2 ^ 32 → (a < b + m → a + n ≤ b) → first_fault access (map.get (zeros_from s a n rights)) b m ≡ first_fault access (map.get s) b m
  -- a region is taken where it ends in time and nothing of it is mapped, and nowhere else
  pub taken : (cells : Cells) (a n : ℕ) → a + n ≤ 0xF0000000 → ((k : ℕ) → k < n → cells (a + k) ≡ None) → region_refusal cells a n ≡ None
  pub taken_at : (cells : Cells) (a n : ℕ) → region_refusal cells a n ≡ None → (a + n ≤ 0xF0000000) × ((k : ℕ) → k < n → cells (a + k) ≡ None)
  -- or else it is refused with its first address that is mapped
  pub overlaps : (cells : Cells) (a n k : ℕ) → a + n ≤ 0xF0000000 → k < n → ((j : ℕ) → j < k → cells (a + j) ≡ None) → is_some (cells (a + k)) ≡ true → region_refusal cells a n ≡ Some (Overlaps (address (a + k)))
  pub free : (cells : Cells) (a n : ℕ) → ((k : ℕ) → k < n → cells (a + k) ≡ None) → first_mapped cells a n ≡ None
  pub free_at : (cells : Cells) (a n k : ℕ) → first_mapped cells a n ≡ None → k < n → cells (a + k) ≡ None
  -- a write leaves the refusals as they were
  pub written : (s : Space) (a : ℕ) (bytes : List ℕ) (b n : ℕ) → region_refusal (map.get (put_from s a bytes)) b n ≡ region_refusal (map.get s) b n
