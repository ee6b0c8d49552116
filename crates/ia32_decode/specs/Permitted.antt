-- Where prefixes stand, and what is left out, whatever the maps' rows say: Intel SDM volume 2, section 2.1.1, "LOCK" and "REP/REPE/REPZ/
-- REPNE/REPNZ" (66 before a form of four bytes, and floating point, are left out by this project).
use Rattle.std.specs.Prelude.{ℕ, ◌≡◌, ◌≤◌, ◌<◌, ◌⊎◌, ◌==◌, Bool, true, false, List, ◌∷◌}
use Rattle.std.specs.List.{list_any}
use Rattle.ia32_decode.specs.Prefixes.{IsPrefixed}
use Rattle.ia32_decode.specs.declared.instruction.Instr.{Instr}
use Rattle.ia32_decode.specs.declared.instruction.Op.{Op}
use Rattle.ia32_decode.specs.declared.instruction.Op.TheVariants as op
use Rattle.ia32_decode.specs.declared.instruction.Operand.{Operand}
use Rattle.ia32_decode.specs.declared.instruction.Operand.TheVariants as operands
use Rattle.ia32_decode.specs.declared.instruction.Repeat.TheVariants as repeats

abbrev pub is_lockable : Op → Bool
is_lockable op.Adc = true
is_lockable op.Add = true
is_lockable op.And = true
is_lockable op.Btc = true
is_lockable op.Btr = true
is_lockable op.Bts = true
is_lockable op.Cmpxchg = true
is_lockable op.Dec = true
is_lockable op.Inc = true
is_lockable op.Neg = true
is_lockable op.Not = true
is_lockable op.Or = true
is_lockable op.Sbb = true
is_lockable op.Sub = true
is_lockable op.Xadd = true
is_lockable op.Xchg = true
is_lockable op.Xor = true
is_lockable _ = false

abbrev pub is_string : Op → Bool
is_string op.Cmps = true
is_string op.Lods = true
is_string op.Movs = true
is_string op.Scas = true
is_string op.Stos = true
is_string _ = false

-- jumps, calls, returns and other forms that have four bytes alone
abbrev pub has_four_bytes : Op → Bool
has_four_bytes op.Bswap = true
has_four_bytes op.Call = true
has_four_bytes (op.Jcc _) = true
has_four_bytes op.Jecxz = true
has_four_bytes op.Jmp = true
has_four_bytes op.Leave = true
has_four_bytes op.Loop = true
has_four_bytes op.Loope = true
has_four_bytes op.Loopne = true
has_four_bytes op.Popad = true
has_four_bytes op.Popfd = true
has_four_bytes op.Pushad = true
has_four_bytes op.Pushfd = true
has_four_bytes op.Ret = true
has_four_bytes _ = false

abbrev pub IsMemory : Operand → Type 0
IsMemory (operands.Place _ _ _ _) = Unit {0}
IsMemory operands.Absent = ⊥
IsMemory (operands.Reg _) = ⊥
IsMemory operands.Imm = ⊥

-- short: 66 is among the prefixes
pub record IsPermitted (short : Bool) (v : Instr) : Type 0 where
  -- F0 stands before these alone, with a destination in memory
  pub lock : v.lock ≡ true → (is_lockable v.op ≡ true) × IsMemory v.first
  -- F2 and F3 stand before string instructions alone, F3 before NOP too
  pub repeat : (v.repeat ≡ repeats.Absent) ⊎ (is_string v.op ≡ true) ⊎ ((v.op ≡ op.Nop) × (v.repeat ≡ repeats.F3))
  -- 66 stands not before a form of four bytes
  pub size : has_four_bytes v.op ≡ true → short ≡ false

abbrev pub PrefixesArePermitted : Type 0
PrefixesArePermitted = (bytes : List ℕ) (v : Instr) (h : IsPrefixed bytes v) → IsPermitted (list_any (λ b. b == 0x66) h.prefixes) v

-- no instruction has an opcode of floating point, D8 to DF
abbrev pub FloatingPointIsOutside : Type 0
FloatingPointIsOutside = (bytes : List ℕ) (v : Instr) (h : IsPrefixed bytes v) (opcode : ℕ) (rest : List ℕ) → h.rest ≡ opcode ∷ rest → (opcode < 0xD8) ⊎ (0xE0 ≤ opcode)
