-- What the reader says, as the answer of `decode`.
use Rattle.std.proofs.Common.{◌≡◌, ℕ, List, ◌++◌, length, Ok, Err, refl, ap, ◌∙◌, length-append, arith}
use Rattle.codes.specs.Codes.{Read}
use Rattle.codes.specs.Exact.{AreBytes}
use Rattle.codes.specs.Readings.{reading_of}
use Rattle.codes.specs.ReadingLaws.{only_reading}
use Rattle.codes.specs.declared.Stop.TheVariants.{Outside, More}
use Rattle.ia32_decode.specs.Prefixes.{instruction}
use Rattle.ia32_decode.specs.Decoding.{Spells, told, answer_to, decoded, IsOnlyDecoding}
use Rattle.ia32_decode.specs.declared.decoding.Decoded.TheVariants.{One}
use Rattle.ia32_decode.specs.declared.instruction.Instr.{Instr}
use Rattle.ia32_decode.proofs.PrefixLaws.{instruction_exact}

pub told-answer_to : (bytes : List ℕ) (read : Read Instr) → told (answer_to bytes read) ≡ reading_of bytes read
told-answer_to bytes (Ok x) = refl
told-answer_to bytes (Err (Outside left)) = refl
told-answer_to bytes (Err More) = refl

pub decoding_is_only : (bytes : List ℕ) → AreBytes bytes → IsOnlyDecoding bytes (decoded bytes)
unfolding decoded
decoding_is_only bytes low = only_reading instruction instruction_exact bytes low _ (told-answer_to bytes (instruction.read bytes))

pub spelled_decoded : (bytes rest : List ℕ) (v : Instr) → Spells bytes v → decoded (bytes ++ rest) ≡ One v (length bytes)
unfolding decoded
spelled_decoded bytes rest v h = ap (answer_to (bytes ++ rest)) (instruction_exact.whole bytes v rest h) ∙ ap (One v) (omega (arith, length-append bytes rest))
