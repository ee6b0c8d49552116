-- The characters of a file. Text that begins with the byte order mark FF FE is UTF-16, the low byte of each unit first
-- (The Unicode Standard, chapter 3, "Unicode Encoding Forms"); of other text each byte is the character of that number.
use Rattle.std.specs.Prelude.{ℕ, suc, ◌+◌, ◌*◌, ◌%◌, ◌≡◌, ◌≤◌, Bool, false, ◌&&◌, ◌||◌, ◌==◌, not, List, [], ◌∷◌, length, drop, Option, Some, None, Result, Ok, Err, slice_index, if◌then◌else◌}
use Rattle.std.specs.Char.Utf16.{is_high_surrogate, is_low_surrogate, has_unpaired_surrogate}
use Rattle.std.specs.List.{position, list_any}
use Rattle.inf_text.specs.declared.refusal.InfRefusal.{InfRefusal}
use Rattle.inf_text.specs.declared.refusal.InfRefusal.TheVariants.{BadText}

-- the 16-bit units of two bytes each; a last byte without its partner is none
unfoldable pub units : List ℕ → List ℕ
units [] = []
units (low ∷ []) = []
units (low ∷ high ∷ bytes) = (low + 256 * high) ∷ units bytes

-- a unit that no text has between these two: zero, or half of a pair without the other
abbrev pub is_bad : ℕ → ℕ → ℕ → Bool
is_bad before u after = (u == 0) || ((is_high_surrogate u && not (is_low_surrogate after)) || (is_low_surrogate u && not (is_high_surrogate before)))

abbrev pub one_on : Option ℕ → Option ℕ
one_on None = None
one_on (Some i) = Some (suc i)

-- the place of the first bad unit behind a unit before; in front of the first one and behind the last one stands none
unfoldable pub first_bad : ℕ → List ℕ → Option ℕ
first_bad before [] = None
first_bad before (u ∷ us) = if is_bad before u (slice_index us 0) then Some 0 else one_on (first_bad u us)

-- two bytes FF FE stand in front
abbrev pub has_mark : List ℕ → Bool
has_mark bytes = (slice_index bytes 0 == 0xff) && (slice_index bytes 1 == 0xfe)

-- the byte of the file at which a bad unit stands, or half of one at the end, where these bytes stand behind the mark
abbrev pub bad_behind : Option ℕ → List ℕ → Option ℕ
bad_behind (Some i) bytes = Some (2 + 2 * i)
bad_behind None bytes = if length bytes % 2 == 0 then None else Some (1 + length bytes)

-- the first byte of a file at which no text stands
abbrev pub bad_byte : List ℕ → Option ℕ
bad_byte bytes = if has_mark bytes then bad_behind (first_bad 0 (units (drop 2 bytes))) (drop 2 bytes) else position (λ b. b == 0) bytes

abbrev pub text_of : List ℕ → List ℕ
text_of bytes = if has_mark bytes then units (drop 2 bytes) else bytes

abbrev pub unless_bad : Option ℕ → List ℕ → Result (List ℕ) InfRefusal
unless_bad (Some at) text = Err (BadText at)
unless_bad None text = Ok text

abbrev pub characters : List ℕ → Result (List ℕ) InfRefusal
characters bytes = unless_bad (bad_byte bytes) (text_of bytes)

-- at most 1 MiB of text
pub record IsTextFile (bytes : List ℕ) : Type 0 where
  pub short : length bytes ≤ 1048576
  pub good : bad_byte bytes ≡ None

-- UTF-16 behind the mark: whole units of two bytes, of which none is zero and no surrogate stands without its partner
pub record IsUtf16 (bytes : List ℕ) : Type 0 where
  pub whole : length bytes % 2 ≡ 0
  pub some : list_any (λ u. u == 0) (units bytes) ≡ false
  pub paired : has_unpaired_surrogate (units bytes) ≡ false
