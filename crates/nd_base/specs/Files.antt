-- Named files and sinks as values: what an implementation tells of its bytes, how its counts of faults move, and what a call leaves as
-- it was. A call gives or takes a count of bytes as POSIX read() and write() do (IEEE Std 1003.1): from a place on, and maybe fewer than asked.
use Rattle.std.specs.Prelude.{◌≡◌, ℕ, ◌-◌, ◌<◌, ◌≤◌, ◌^◌, ◌⊎◌, Bool, List, [], length, take, drop, Option}
use Rattle.std.specs.Option.{unwrap_or}
use Rattle.std.specs.Ordering.{nat_cmp}
use Rattle.std.specs.Cmp.Lexicographic.{slice_cmp}
use Rattle.std.specs.FinMap as map

-- the files that are kept: from a name, as the bytes of its text, to the file's bytes
abbrev pub Kept : Type 0
Kept = map.FinMap (slice_cmp nat_cmp) (List ℕ)

-- the bytes of a name: none where there is no file
abbrev pub bytes_at : Kept → List ℕ → List ℕ
bytes_at files name = unwrap_or (map.get files name) []

-- the greatest count that 64 bits hold
abbrev pub last_count : ℕ
last_count = 2 ^ 64 - 1

-- a count that rose, or that stands at its last value
abbrev pub Rose : ℕ → ℕ → Type 0
Rose before now = (before < now) ⊎ (now ≡ last_count)

-- what a call that looks at files may change: the count of its faults, which doesn't fall
pub record OnlyReads {S : Type 0} (kept : S → Option Kept) (read_faults write_faults : S → ℕ) (may_read may_write : S → List ℕ → Bool) (old new : S) : Type 0 where
  pub later : read_faults old ≤ read_faults new
  pub same_files : kept new ≡ kept old
  pub same_write_faults : write_faults new ≡ write_faults old
  pub same_readable : may_read new ≡ may_read old
  pub same_writable : may_write new ≡ may_write old

-- what a call that writes a file may change beside the files: the count of its faults, which doesn't fall
pub record OnlyWrites {S : Type 0} (read_faults write_faults : S → ℕ) (may_read may_write : S → List ℕ → Bool) (old new : S) : Type 0 where
  pub later : write_faults old ≤ write_faults new
  pub same_read_faults : read_faults new ≡ read_faults old
  pub same_readable : may_read new ≡ may_read old
  pub same_writable : may_write new ≡ may_write old

-- n bytes of a file from a place on stand at the front of a buffer: none only at the file's end, or where the buffer has no room
pub record ReadsFrom (file : List ℕ) (at n room : ℕ) (buffer : List ℕ) : Type 0 where
  pub within : n ≤ length (drop at file)
  pub bytes : take n buffer ≡ take n (drop at file)
  pub ends : n ≡ 0 → 0 < room → length file ≤ at
