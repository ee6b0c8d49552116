use Rattle.std.proofs.Common.{sym, subst}
use Rattle.std.proofs.lemmas.Bool.{false≢true}
use Rattle.ia32_decode.specs.Decoding.{Spells}
use Rattle.ia32_decode.specs.declared.instruction.Instr.{Instr}
use Rattle.asm_encode.proofs.templates.zero_fault.Goals as goal

pub returns-in-None : goal.returns-in-None
returns-in-None c = λ bytes h. false≢true (c.in-None.ensures.none bytes (subst (λ (i : Instr). Spells bytes i) (sym c.instruction_of.ensures) h))
