use Rattle.std.proofs.Common.{ℕ, ◌<◌, None}
use Rattle.std.specs.Prelude.{slice_index_or}
use Rattle.ia32_decode.specs.declared.encoding.Tail.{Tail}
use Rattle.ia32_decode.specs.Encoding.{IsTailOf}
use Rattle.ia32_decode.proofs.encoding.group_tail.Given as goal

-- no row so far has a tail
abbrev pub invariant-loop-reg : goal.invariant-loop-reg
invariant-loop-reg l = (k : ℕ) → k < l.reg → (tail : Tail) → IsTailOf l.prefixes l.opcode (slice_index_or l.rows k None) k l.instruction tail → ⊥
