-- What bytes decode to: Intel SDM volume 2, chapter 2.
use Rattle.std.specs.Prelude.{ℕ, ◌≡◌, ◌-◌, List, ◌++◌, length, Ok, Err}
use Rattle.codes.specs.Codes.{Read}
use Rattle.codes.specs.Exact.{AreBytes}
use Rattle.codes.specs.declared.Stop.TheVariants as stops
use Rattle.codes.specs.Readings.{Reading, Found, OutsideAt, Unfinished, IsOnlyReading}
use Rattle.ia32_decode.specs.Prefixes.{instruction}
use Rattle.ia32_decode.specs.declared.instruction.Instr.{Instr}
use Rattle.ia32_decode.specs.declared.decoding.Decoded.{Decoded}
use Rattle.ia32_decode.specs.declared.decoding.Decoded.TheVariants.{One, Outside, More}

-- the bytes, all of them, spell the instruction
abbrev pub Spells : List ℕ → Instr → Type 0
Spells = instruction.spells

-- One: so many bytes at the front spell the instruction. Outside: no instruction begins with the bytes up to the index, and one does with
-- those before it. More: an instruction begins with all of the bytes and is longer.
abbrev pub told : Decoded → Reading Instr
told (One v size) = Found v size
told (Outside index) = OutsideAt index
told More = Unfinished

-- by spelling alone the bytes decode to this, and to nothing else
abbrev pub IsOnlyDecoding : List ℕ → Decoded → Type 0
IsOnlyDecoding bytes decoded = IsOnlyReading instruction bytes (told decoded)

-- ---- the same as a function

abbrev pub answer_to : List ℕ → Read Instr → Decoded
answer_to bytes (Ok x) = One x.0 (length bytes - length x.1)
answer_to bytes (Err (stops.Outside left)) = Outside (length bytes - left)
answer_to bytes (Err stops.More) = More

unfoldable pub decoded : List ℕ → Decoded
decoded bytes = answer_to bytes (instruction.read bytes)

-- ---- laws

-- what the function says is what the spelling says
abbrev pub DecodingIsExact : Type 0
DecodingIsExact = (bytes : List ℕ) → AreBytes bytes → IsOnlyDecoding bytes (decoded bytes)

-- what spells an instruction decodes to it, whatever is behind it
abbrev pub SpelledIsDecoded : Type 0
SpelledIsDecoded = (bytes rest : List ℕ) (v : Instr) → Spells bytes v → decoded (bytes ++ rest) ≡ One v (length bytes)
