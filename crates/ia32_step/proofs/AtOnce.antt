-- An instruction whose bytes stand in one region is the one that is fetched.
use Rattle.std.proofs.Common.{◌≡◌, ℕ, ◌+◌, ◌-◌, ◌≤◌, List, ◌++◌, length, take, Option, None, Some, refl, sym, ap, ◌∙◌, arith, inl, inr}
use Rattle.std.proofs.lemmas.Bool.{cases_lt}
use Rattle.std.proofs.lemmas.List.{append_assoc}
use Rattle.codes.specs.Readings.{Found}
use Rattle.nd_mem.specs.Space.{Cells, Executing, IsCode, bytes_from, executable_run, fault_at}
use Rattle.nd_mem.specs.Laws.{FetchLaws, ReadLaws}
use Rattle.ia32_decode.specs.declared.instruction.Instr.{Instr}
use Rattle.ia32_decode.specs.declared.decoding.Decoded.TheVariants as read
use Rattle.ia32_decode.specs.Decoding.{decoded, IsOnlyDecoding, SpelledIsDecoded}
use Rattle.ia32_step.specs.Machine.{IsReadAt}

-- as many of the run as are fetched at most
reaches : FetchLaws → (cells : Cells) (a n : ℕ) (run : List ℕ) → IsCode cells a run → n ≤ length run → n ≤ 15 → n ≤ executable_run cells a 15
reaches laws cells a n run code inside few = elim (cases_lt (executable_run cells a 15) n) [
  | inl short ↦ let fault = laws.longest cells a 15 (omega (arith, short)) in absurd (none_some (sym (code.allowed (executable_run cells a 15) (omega (arith, short))) ∙ fault.1))
  | inr long ↦ long
]
  where
    none_some : {A : Type 0} {x : A} → ◌≡◌ {A = Option A} None (Some x) → ⊥
    none_some h = cc

-- they are the front of what is fetched
front : FetchLaws → ReadLaws → (cells : Cells) (a n : ℕ) (run : List ℕ) → IsCode cells a run → n ≤ length run → n ≤ 15
    → bytes_from cells a (executable_run cells a 15) ≡ take n run ++ bytes_from cells (a + n) (executable_run cells a 15 - n)
front fetches reads cells a n run code inside few =
    let long = reaches fetches cells a n run code inside few in
    let whole : executable_run cells a 15 ≡ n + (executable_run cells a 15 - n) = omega (arith, long) in
    ap (bytes_from cells a) whole ∙ reads.split cells a n (executable_run cells a 15 - n) ∙ ap (λ bytes. bytes ++ bytes_from cells (a + n) (executable_run cells a 15 - n)) (code.bytes n inside)

pub read_there : FetchLaws → ReadLaws → SpelledIsDecoded → (cells : Cells) (a n k : ℕ) (run : List ℕ) (i : Instr) → IsCode cells a run → n ≤ length run → n ≤ 15
    → IsOnlyDecoding (take n run) (read.One i k) → IsReadAt cells a i k
read_there fetches reads spelled cells a n k run i code inside few only =
    let found = (only (Found i k)).0 refl in
    let more = bytes_from cells (a + n) (executable_run cells a 15 - n) in
    record {
      runs = ap (fault_at Executing cells) (omega arith) ∙ code.allowed 0 code.some;
      reads =
          ap decoded (front fetches reads cells a n run code inside few ∙ ap (λ bytes. bytes ++ more) (sym found.parts) ∙ append_assoc found.front found.rest more)
          ∙ spelled found.front (found.rest ++ more) i found.spelled ∙ ap (read.One i) (sym found.long);
    }
