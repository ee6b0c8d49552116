-- Numbers and names in source. The project's own (docs/ASSEMBLER.md).
use Rattle.std.specs.Prelude.{ℕ, ◌+◌, ◌-◌, ◌*◌, ◌^◌, min, Bool, true, false, ◌&&◌, ◌||◌, ◌==◌, nat_le, is_none, is_some, unwrap_or, List, [], ◌∷◌, Option, Some, None, if◌then◌else◌}
use Rattle.nd_base.specs.Words.{decimal_of, saturated, has_bytes}
use Rattle.asm_lines.specs.declared.value.Value as code
use Rattle.asm_lines.specs.declared.value.Value.TheVariants as codes
use Rattle.asm_lines.specs.Registers.{register_of}

-- a number, or the address of the label of a name
pub data Value : Type 0 where
  Number : ℕ → Value
  Address : List ℕ → Value

abbrev pub value_seen : code.Value → Value
value_seen (codes.Number n) = Number n
value_seen (codes.Address name) = Address name.now

-- ---- numbers: digits that stand for 2^64 - 1 and more count as 2^64 - 1

abbrev pub hex_digit : ℕ → Option ℕ
hex_digit b =
    if nat_le 48 b && nat_le b 57 then Some (b - 48)
    else (if nat_le 97 b && nat_le b 102 then Some (b - 97 + 10)
    else (if nat_le 65 b && nat_le b 70 then Some (b - 65 + 10) else None))

abbrev pub more_digits : ℕ → Option ℕ → (ℕ → Option ℕ) → Option ℕ
more_digits n None next = None
more_digits n (Some digit) next = next (min (min (n * 16) (2 ^ 64 - 1) + digit) (2 ^ 64 - 1))

-- the number that hexadecimal digits stand for, behind the digits of n
unfoldable pub hex_after : ℕ → List ℕ → Option ℕ
hex_after n [] = Some n
hex_after n (b ∷ bs) = more_digits n (hex_digit b) (λ m. hex_after m bs)

-- the digits behind 0x
abbrev pub hex_digits : List ℕ → Option (List ℕ)
hex_digits [] = None
hex_digits (b ∷ []) = None
hex_digits (b ∷ c ∷ digits) = if (b == 48) && ((c == 120) && has_bytes digits) then Some digits else None

abbrev pub or_decimal : Option (List ℕ) → List ℕ → Option ℕ
or_decimal (Some digits) word = hex_after 0 digits
or_decimal None word = saturated (decimal_of word)

-- decimal digits without a leading 0, or 0x and hexadecimal digits in either case
unfoldable pub number_of : List ℕ → Option ℕ
number_of word = or_decimal (hex_digits word) word

-- ---- names

abbrev pub is_letter : ℕ → Bool
is_letter b = (nat_le 97 b && nat_le b 122) || (nat_le 65 b && nat_le b 90) || (b == 95)

abbrev pub is_name_byte : ℕ → Bool
is_name_byte b = is_letter b || (nat_le 48 b && nat_le b 57)

unfoldable pub is_name_rest : List ℕ → Bool
is_name_rest [] = true
is_name_rest (b ∷ bs) = is_name_byte b && is_name_rest bs

-- a letter or `_`, and then letters, digits and `_`
unfoldable pub is_name : List ℕ → Bool
is_name [] = false
is_name (b ∷ bs) = is_letter b && is_name_rest bs

-- and no register's name
abbrev pub is_label : List ℕ → Bool
is_label word = is_name word && is_none (register_of word)

-- ---- values

abbrev pub or_label : Option ℕ → List ℕ → Option Value
or_label (Some n) word = Some (Number n)
or_label None word = if is_label word then Some (Address word) else None

unfoldable pub value_of : List ℕ → Option Value
value_of word = or_label (number_of word) word

-- ---- bytes in hexadecimal

-- two digits for each byte
unfoldable pub are_octets : List ℕ → Bool
are_octets [] = true
are_octets (b ∷ []) = false
are_octets (b ∷ c ∷ bs) = is_some (hex_digit b) && (is_some (hex_digit c) && are_octets bs)

abbrev pub digit_or_0 : ℕ → ℕ
digit_or_0 b = unwrap_or (hex_digit b) 0

-- the bytes that they stand for
unfoldable pub octets_of : List ℕ → List ℕ
octets_of [] = []
octets_of (b ∷ []) = []
octets_of (b ∷ c ∷ bs) = (digit_or_0 b * 16 + digit_or_0 c) ∷ octets_of bs
