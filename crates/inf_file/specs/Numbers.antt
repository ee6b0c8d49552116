-- Numbers below 2^32 in decimal or behind `0x` in hexadecimal, with leading zeros or without. The words for digits, in either case, and
-- for the number that they write are std's.
use Rattle.std.specs.Prelude.{codes, ℕ, Bool, ◌^◌, ◌&&◌, ◌==◌, not, nat_lt, List, length, take, drop, Option, Some, None, if◌then◌else◌}
use Rattle.std.specs.List.{list_all}
use Rattle.std.specs.Char.{is_digit}
use Rattle.std.specs.Str.{bytes_eq}
use Rattle.std.specs.Str.Parse.{digits_value}

-- one digit of the base or more, and nothing else
abbrev pub is_numeral : ℕ → List ℕ → Bool
is_numeral base text = not (length text == 0) && list_all (λ c. is_digit c base) text

-- the number below 2^32 that the digits write
unfoldable pub digits : ℕ → List ℕ → Option ℕ
digits base text = if is_numeral base text && nat_lt (digits_value base text) (2 ^ 32) then Some (digits_value base text) else None

unfoldable pub number_of : List ℕ → Option ℕ
number_of text = if bytes_eq (take 2 text) (codes "0x") then digits 16 (drop 2 text) else digits 10 text
