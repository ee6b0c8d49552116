use Rattle.std.proofs.Common.{ℕ, ◌<◌}
use Rattle.std.specs.Prelude.{slice_index_or}
use Rattle.ia32_decode.specs.declared.encoding.Tail.{Tail}
use Rattle.ia32_decode.specs.declared.rows.Entry.TheVariants as entry
use Rattle.ia32_decode.specs.Encoding.{IsEntryTail}
use Rattle.ia32_decode.proofs.encoding.find.Given as goal

-- no opcode so far has a tail
abbrev pub invariant-loop-opcode : goal.invariant-loop-opcode
invariant-loop-opcode l = (k : ℕ) → k < l.opcode → (tail : Tail) → IsEntryTail l.prefixes k (slice_index_or l.entries k entry.Outside) l.instruction tail → ⊥
