-- Words and lines of the texts that are written: logs and printed lines. (The project's own formats: docs/LOG.md, docs/PRINTED.md.)
use Rattle.std.specs.Prelude.{ℕ, ◌-◌, List, [], ◌∷◌, ◌++◌, false, length, replicate, codes}
use Rattle.std.specs.Fmt.{digits, decimal}

-- a number's hexadecimal digits, in lower case, with zeros in front of them up to a width
abbrev pub hex_digits : ℕ → ℕ → List ℕ
hex_digits width n = replicate (width - length (digits 16 false n)) 48 ++ digits 16 false n

-- a word's eight hexadecimal digits
abbrev pub hex_word : ℕ → List ℕ
hex_word n = hex_digits 8 n

-- the four of a 16-bit unit
abbrev pub hex_unit : ℕ → List ℕ
hex_unit n = hex_digits 4 n

-- the two of a byte
abbrev pub hex_byte : ℕ → List ℕ
hex_byte n = hex_digits 2 n

-- a line of these fields, parted by one space and ended by LF
abbrev pub line : List (List ℕ) → List ℕ
line [] = codes "\n"
line (field ∷ []) = field ++ codes "\n"
line (field ∷ next ∷ fields) = field ++ 32 ∷ line (next ∷ fields)

-- a line of two words and a decimal number
abbrev pub numbered : List ℕ → List ℕ → ℕ → List ℕ
numbered first second n = line (first ∷ second ∷ decimal n ∷ [])
