-- Prefixes before an instruction: Intel SDM volume 2, section 2.1.1 (66, F0, F2 and F3; those of segments and of the address size are
-- left out).
use Rattle.std.specs.Prelude.{ℕ, suc, ◌≡◌, ◌&&◌, ◌||◌, not, ◌==◌, Bool, true, false, List, [], ◌∷◌, ◌++◌, length, Err, if◌then◌else◌}
use Rattle.std.specs.List.{AllByRecursion, list_any}
use Rattle.codes.specs.Codes.{Code, Read}
use Rattle.codes.specs.declared.Stop.TheVariants.{Outside, More}
use Rattle.ia32_decode.specs.Rows.{is_absent}
use Rattle.ia32_decode.specs.Opcodes.{body}
use Rattle.ia32_decode.specs.declared.prefixes.Prefixes.{Prefixes}
use Rattle.ia32_decode.specs.declared.instruction.Instr.{Instr}
use Rattle.ia32_decode.specs.declared.instruction.Repeat.{Repeat}
use Rattle.ia32_decode.specs.declared.instruction.Repeat.TheVariants as repeats

abbrev pub is_repeat : ℕ → Bool
is_repeat b = (b == 0xF2) || (b == 0xF3)

abbrev pub is_prefix : ℕ → Bool
is_prefix b = (b == 0x66) || (b == 0xF0) || is_repeat b

abbrev pub repeat_of : ℕ → Repeat
repeat_of b = if b == 0xF2 then repeats.F2 else (if b == 0xF3 then repeats.F3 else repeats.Absent)

abbrev pub merged : Repeat → Repeat → Repeat
merged repeat other = if is_absent repeat then other else repeat

-- ---- prefixes in any order, each once, and what stands behind them

abbrev pub repeat_among : List ℕ → Repeat
repeat_among [] = repeats.Absent
repeat_among (b ∷ bytes) = merged (repeat_of b) (repeat_among bytes)

-- these prefixes
abbrev pub set_of : List ℕ → Prefixes
set_of prefixes = record { operand_size = list_any (λ b. b == 0x66) prefixes; lock = list_any (λ b. b == 0xF0) prefixes; repeat = repeat_among prefixes }

-- the same prefix; F2 and F3 do not stand together either
abbrev pub clashes : ℕ → ℕ → Bool
clashes b c = (b == c) || (is_repeat b && is_repeat c)

abbrev pub AreOnce : List ℕ → Type 0
AreOnce [] = Unit {0}
AreOnce (b ∷ bytes) = (list_any (λ c. clashes c b) bytes ≡ false) × AreOnce bytes

pub record IsPrefixed (bytes : List ℕ) (v : Instr) : Type 0 where
  pub prefixes : List ℕ
  pub rest : List ℕ
  pub parts : bytes ≡ prefixes ++ rest
  pub each : AllByRecursion (λ b. is_prefix b ≡ true) prefixes
  pub once : AreOnce prefixes
  pub spelled : (body (set_of prefixes)).spells rest v

-- ---- reading them, by cases on the bytes

abbrev pub none : Prefixes
none = record { operand_size = false; lock = false; repeat = repeats.Absent }

-- the prefix, or the other one that repeats, is among these
unfoldable pub has : Prefixes → ℕ → Bool
has prefixes b = if b == 0x66 then prefixes.operand_size else (if b == 0xF0 then prefixes.lock else not (is_absent prefixes.repeat))

unfoldable pub with_prefix : Prefixes → ℕ → Prefixes
with_prefix prefixes b = record { operand_size = prefixes.operand_size || (b == 0x66); lock = prefixes.lock || (b == 0xF0); repeat = merged prefixes.repeat (repeat_of b) }

-- no row permits these together
abbrev pub is_dead : Prefixes → Bool
is_dead prefixes = prefixes.lock && not (is_absent prefixes.repeat)

-- the prefix may stand behind these
abbrev pub takes : Prefixes → ℕ → Bool
takes prefixes b = not (has prefixes b) && not (is_dead (with_prefix prefixes b))

unfoldable pub read_behind : Prefixes → List ℕ → Read Instr
read_behind prefixes [] = Err More
read_behind prefixes (b ∷ bytes) =
    if is_prefix b then (if takes prefixes b then read_behind (with_prefix prefixes b) bytes else Err (Outside (suc (length bytes))))
    else (body prefixes).read (b ∷ bytes)

-- ---- instructions

abbrev pub instruction : Code Instr
instruction = record { spells = IsPrefixed; read = read_behind none }
