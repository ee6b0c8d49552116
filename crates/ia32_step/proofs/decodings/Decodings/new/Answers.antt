use Rattle.std.proofs.Common.{◌^◌, ◌-◌, refl, arith}
use Rattle.std.specs.FinMap as map
use Rattle.std.proofs.lemmas.List.Elements.{All-replicate}
use Rattle.ia32_step.specs.Decodings.{IsKeptOrNothing, nothing}
use Rattle.ia32_step.proofs.decodings.Decodings.new.Goals as goal

pub returns : goal.returns
returns c = λ s. (omega arith, All-replicate (IsKeptOrNothing (map.get s) (2 ^ 32 - 1) 0) 32 nothing (λ some. absurd (some refl)))
