-- What is kept stays as memory spells it, behind a write elsewhere.
use Rattle.std.proofs.Common.{◌≡◌, ℕ, ◌+◌, ◌^◌, ◌≤◌, ◌<◌, List, length, Option, None, Some, Ok, ap, ◌∙◌, subst, arith, inl, inr}
use Rattle.std.specs.FinMap as map
use Rattle.std.proofs.lemmas.Bool.{cases_lt}
use Rattle.nd_mem.specs.declared.MemFault.{MemFault}
use Rattle.nd_mem.specs.Space.{Space, Executing, wrapped, bytes_from, executable_run, put_from}
use Rattle.nd_mem.specs.Laws.{FaultLaws, FetchLaws, ReadLaws}
use Rattle.ia32_arithmetic.specs.declared.widths.Width.{Width}
use Rattle.ia32_arithmetic.specs.declared.widths.Width.TheVariants.{Byte, Word, Doubleword}
use Rattle.ia32_decode.specs.Decoding.{decoded}
use Rattle.ia32_step.specs.declared.decodings.Decoding.{Decoding}
use Rattle.ia32_step.specs.declared.decodings.Decodings.{Decodings}
use Rattle.ia32_step.specs.declared.effects.Write.{Write}
use Rattle.ia32_step.specs.declared.effects.Write.TheVariants as write
use Rattle.ia32_step.specs.Registers.{Registers}
use Rattle.ia32_step.specs.Operands.{written, unless, bytes_of, bytes_of_all}
use Rattle.ia32_step.specs.Decodings.{IsKept, Keeps, Misses}

-- no byte of the write is one of the 15 from the address on
apart : (a at j k low past : ℕ) → j < 32 → k < 15 → a < 2 ^ 32 → (low ≤ a → past ≤ a) → past < 2 ^ 32 → low + 31 ≤ at → at + 15 ≤ past → wrapped (a + j) ≡ wrapped (at + k) → ⊥
apart a at j k low past few near small misses wide above below e = elim (cases_lt a low) [
  | inl less ↦ omega (arith, less, few, near, small, wide, above, below, e)
  | inr more ↦ let behind = misses more in omega (arith, behind, few, near, small, wide, above, below, e)
]

kept_behind : FaultLaws → FetchLaws → ReadLaws → (s : Space) (a : ℕ) (bytes : List ℕ) (low past : ℕ) (d : Decoding) → length bytes ≤ 32 → a < 2 ^ 32 → (low ≤ a → past ≤ a) → past < 2 ^ 32
    → IsKept (map.get s) low past d → IsKept (map.get (put_from s a bytes)) low past d
kept_behind faults fetches reads s a bytes low past d few small misses wide kept =
    let most = fetches.most (map.get s) d.at 15 in
    record {
      at_no_slot = kept.at_no_slot;
      read = record {
        runs = faults.written_at Executing s a bytes d.at ∙ kept.read.runs;
        reads =
            ap decoded (ap (bytes_from (map.get (put_from s a bytes)) d.at) (fetches.written s a bytes d.at 15)
            ∙ reads.others s a bytes d.at (executable_run (map.get s) d.at 15) (λ j k less near. apart a d.at j k low past (omega (arith, less, few)) (omega (arith, near, most)) small misses wide kept.above kept.below))
            ∙ kept.read.reads;
      };
      above = kept.above;
      below = kept.below;
    }

few_of : (w : Width) (v : ℕ) → length (bytes_of w v) ≤ 32
few_of Byte v = omega arith
few_of Word v = omega arith
few_of Doubleword v = omega arith

few_of_all : (r : Registers) → length (bytes_of_all r) ≤ 32
unfolding bytes_of_all
few_of_all r = omega arith

made : (found : Option MemFault) (s t : Space) → unless found s ≡ Ok t → s ≡ t
made None s t e = cc
made (Some fault) s t e = cc

all_behind : FaultLaws → FetchLaws → ReadLaws → (d : Decodings) (s : Space) (a : ℕ) (bytes : List ℕ) → length bytes ≤ 32 → a < 2 ^ 32 → (d.low ≤ a → d.past ≤ a) → Keeps d s → Keeps d (put_from s a bytes)
all_behind faults fetches reads d s a bytes few small misses keeps =
    (keeps.0, λ k x less some. kept_behind faults fetches reads s a bytes d.low d.past _ few small misses keeps.0 (keeps.1 k x less some))

pub keeps_behind : FaultLaws → FetchLaws → ReadLaws → (d : Decodings) (w : Write) (r : Registers) (s t : Space) → Misses w d.low d.past → written w r s ≡ Ok t → Keeps d s → Keeps d t
keeps_behind faults fetches reads d write.Absent r s t misses e keeps = let same : s ≡ t = cc in subst (Keeps d) same keeps
keeps_behind faults fetches reads d (write.Number w a v) r s t misses e keeps =
    subst (Keeps d) (made _ _ t e) (all_behind faults fetches reads d s a (bytes_of w v) (few_of w v) misses.0 misses.1 keeps)
keeps_behind faults fetches reads d (write.Registers a) r s t misses e keeps =
    subst (Keeps d) (made _ _ t e) (all_behind faults fetches reads d s a (bytes_of_all r) (few_of_all r) misses.0 misses.1 keeps)
