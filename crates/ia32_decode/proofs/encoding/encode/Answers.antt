use Rattle.std.proofs.Common.{sym, subst}
use Rattle.std.proofs.lemmas.Bool.{false≢true}
use Rattle.ia32_decode.specs.Decoding.{Spells}
use Rattle.ia32_decode.proofs.Encoded.{format_spelled, nothing_spelled}
use Rattle.ia32_decode.proofs.encoding.encode.Goals as goal

pub returns-in-Some-clause-spelled : goal.returns-in-Some-clause-spelled
returns-in-Some-clause-spelled c = subst (λ bytes. Spells bytes c.args.instruction.now) (sym c.bytes_of.ensures.bytes) (format_spelled c.in-Some.format c.args.instruction.now c.bytes_of.ensures.low c.in-Some.ensures.found)

pub returns-in-None-clause-none : goal.returns-in-None-clause-none
returns-in-None-clause-none c bytes h = absurd (nothing_spelled bytes c.args.instruction.now h (λ short opcode tail p t. false≢true (c.in-None.ensures.first short opcode tail p t)) (λ short opcode tail p t. false≢true (c.in-None.ensures.second short opcode tail p t)))
