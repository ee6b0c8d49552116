-- Jumps, calls, returns and loops: Intel SDM volume 2, the page of each instruction. EIP is already that of the next instruction.
use Rattle.std.specs.Prelude.{ℕ, ◌+◌, ◌-◌, ◌%◌, ◌^◌, Bool, not, ◌&&◌, ◌==◌, Result, Ok, if◌then◌else◌}
use Rattle.ia32_arithmetic.specs.declared.widths.Width.TheVariants.{Doubleword}
use Rattle.ia32_decode.specs.declared.instruction.Instr.{Instr}
use Rattle.ia32_decode.specs.declared.instruction.Operand.{Operand}
use Rattle.ia32_decode.specs.declared.instruction.Operand.TheVariants.{Imm}
use Rattle.ia32_step.specs.declared.effects.Stop.{Stop}
use Rattle.ia32_step.specs.Registers.{Registers, ECX, ESP, EBP, general_of, with_general}
use Rattle.ia32_step.specs.State.{Machine, Effect}
use Rattle.ia32_step.specs.Operands.{and_then, read, load, settled}
use Rattle.ia32_step.specs.Stack.{push}

-- EIP goes on by so much
abbrev pub advanced : ℕ → Registers → Registers
advanced n r = record r { eip = (r.eip + n) % 2 ^ 32 }

abbrev pub target_by : Operand → Instr → Machine → Result ℕ Stop
target_by Imm i m = Ok (advanced i.imm m.registers).eip
target_by _ i m = load Doubleword i.first i.imm m

-- a displacement counts from the next instruction
unfoldable pub target_of : Instr → Machine → Result ℕ Stop
target_of i m = target_by i.first i m

-- JMP
unfoldable pub gone : Instr → Machine → Result Effect Stop
gone i m = and_then (target_of i m) (λ t. Ok (settled (record m.registers { eip = t }) m.registers.flags))

-- Jcc
unfoldable pub gone_if : Bool → Instr → Registers → Result Effect Stop
gone_if c i r = Ok (settled (if c then advanced i.imm r else r) r.flags)

-- CALL
unfoldable pub called : Instr → Machine → Result Effect Stop
called i m = and_then (target_of i m) (λ t. Ok (push Doubleword m.registers.eip (record m.registers { eip = t })))

-- RET, which pops so many bytes more
unfoldable pub returned : Instr → Machine → Result Effect Stop
returned i m =
    let top = general_of m.registers ESP in
    and_then (read Doubleword top m.memory) (λ v. Ok (settled (with_general ESP ((top + 4 + i.imm) % 2 ^ 32) (record m.registers { eip = v })) m.registers.flags))

-- LEAVE
unfoldable pub left : Machine → Result Effect Stop
left m =
    let top = general_of m.registers EBP in
    and_then (read Doubleword top m.memory) (λ v. Ok (settled (with_general EBP v (with_general ESP ((top + 4) % 2 ^ 32) m.registers)) m.registers.flags))

-- LOOP, LOOPE, LOOPNE
unfoldable pub looped : Bool → Instr → Registers → Result Effect Stop
looped c i r =
    let count = (general_of r ECX + 2 ^ 32 - 1) % 2 ^ 32 in
    let next = with_general ECX count r in
    Ok (settled (if not (count == 0) && c then advanced i.imm next else next) r.flags)
