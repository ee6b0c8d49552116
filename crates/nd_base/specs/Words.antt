-- Texts that are read line by line: their words, their decimal numbers, and the lines that say nothing. (The project's own formats: layout
-- files, scripts and hosts files. Lines are those of Rust's `str::lines`: they end with LF or CRLF.)
use Rattle.std.specs.Prelude.{◌≡◌, ℕ, ◌+◌, ◌-◌, ◌*◌, ◌^◌, min, Bool, true, false, not, ◌||◌, ◌==◌, List, [], ◌∷◌, length, slice_index, Option, Some, None, ◌⊎◌, if◌then◌else◌}
use Rattle.std.specs.List.{filter, slice_split}
use Rattle.std.specs.Char.{is_digit, digit_value}
use Rattle.std.specs.Str.Parse.{IsNumeral, digits_value}

-- a space or a tab
abbrev pub is_blank : ℕ → Bool
is_blank byte = (byte == 32) || (byte == 9)

abbrev pub has_bytes : List ℕ → Bool
has_bytes [] = false
has_bytes (b ∷ bs) = true

-- the parts of a line between blanks that are not empty
unfoldable pub words : List ℕ → List (List ℕ)
words line = filter has_bytes (slice_split is_blank line)

-- a part in front of words: it is one of them where it is not empty
abbrev pub with_word : List ℕ → List (List ℕ) → List (List ℕ)
with_word [] ws = ws
with_word (b ∷ bs) ws = (b ∷ bs) ∷ ws

-- a line that begins with #
abbrev pub IsComment : List ℕ → Type 0
IsComment line = (text : List ℕ) × (line ≡ 35 ∷ text)

abbrev pub SaysNothing : List ℕ → Type 0
SaysNothing line = IsComment line ⊎ (words line ≡ [])

-- a decimal number: digits without a sign, and a leading 0 only where it is alone
pub record IsDecimal (word : List ℕ) : Type 0 where
  pub numeral : IsNumeral 10 word
  pub leading : slice_index word 0 ≡ 48 → length word ≡ 1

abbrev pub decimal_value : List ℕ → ℕ
decimal_value word = digits_value 10 word

-- the number that decimal digits stand for, behind the digits of n
unfoldable pub digits_after : ℕ → List ℕ → Option ℕ
digits_after n [] = Some n
digits_after n (c ∷ cs) = if is_digit c 10 then digits_after (n * 10 + digit_value c) cs else None

-- a byte, and a first 0 only where it is alone
abbrev pub may_be_decimal : List ℕ → Bool
may_be_decimal [] = false
may_be_decimal (c ∷ cs) = not (c == 48) || not (has_bytes cs)

-- the value of a word that is a decimal number
abbrev pub decimal_of : List ℕ → Option ℕ
decimal_of word = if may_be_decimal word then digits_after 0 word else None

-- 2^64 - 1 for a number that is greater
abbrev pub saturated : Option ℕ → Option ℕ
saturated None = None
saturated (Some n) = Some (min n (2 ^ 64 - 1))
