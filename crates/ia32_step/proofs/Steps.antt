-- A step does what is spelled at EIP.
use Rattle.std.proofs.Common.{◌≡◌, ℕ, ◌+◌, ◌<◌, List, [], ◌∷◌, ◌++◌, length, length-append, refl, sym, ap, ◌∙◌, arith, Option, None, Some}
use Rattle.nd_mem.specs.declared.MemFault.{MemFault}
use Rattle.nd_mem.specs.Laws.{ReadLaws, FetchLaws}
use Rattle.nd_mem.specs.Space.{Cells, Executing, address, fault_at, executable_run, run_after}
use Rattle.guest_map.specs.Slots.{slot_at}
use Rattle.codes.specs.Exact.{AreBytes, IsAtMost}
use Rattle.codes.specs.Readings.{OutsideAt, Unfinished, IsOutsideAt, IsUnfinished}
use Rattle.ia32_decode.specs.Prefixes.{instruction, read_behind}
use Rattle.ia32_decode.specs.Decoding.{Spells, decoded, told, DecodingIsExact, SpelledIsDecoded}
use Rattle.ia32_decode.specs.declared.instruction.Instr.{Instr}
use Rattle.ia32_decode.specs.declared.decoding.Decoded.{Decoded}
use Rattle.ia32_decode.specs.declared.decoding.Decoded.TheVariants.{One, Outside, More}
use Rattle.ia32_step.specs.declared.FaultKind.TheVariants as kind
use Rattle.ia32_step.specs.State.{Machine, cells_of, Faulted}
use Rattle.ia32_step.specs.Machine.{outcome, code_of, fetched, trapped, run_of, read_as, cut_off, faulted, done_by, EachStepIsAsSpelled}

-- what the decoder's laws say
record DecodeLaws : Type 0 where
  exact : DecodingIsExact
  whole : SpelledIsDecoded
  bound : IsAtMost instruction 15

-- no bytes at all spell no instruction
nothing_read : decoded [] ≡ More
unfolding decoded read_behind
nothing_read = refl

spelled_some : DecodeLaws → (i : Instr) (spelling : List ℕ) → Spells spelling i → 0 < length spelling
spelled_some laws i [] h = let e : More ≡ One i 0 = sym nothing_read ∙ laws.whole [] [] i h in cc
spelled_some laws i (b ∷ bytes) h = omega arith

as_outside : (d : Decoded) (k : ℕ) → told d ≡ OutsideAt k → d ≡ Outside k
as_outside (One i n) k e = cc
as_outside (Outside n) k e = let same : n ≡ k = cc in ap Outside same
as_outside More k e = cc

as_more : (d : Decoded) → told d ≡ Unfinished → d ≡ More
as_more (One i n) e = cc
as_more (Outside n) e = cc
as_more More e = refl

unfinished_below : DecodeLaws → (bytes : List ℕ) → IsUnfinished instruction bytes → length bytes < 15
unfinished_below laws bytes u = omega (arith, laws.bound.bound (bytes ++ u.0) u.1 u.3, length-append bytes u.0, u.2)

-- with a fault at once nothing can be executed
run_none : (cells : Cells) (a : ℕ) (fault : MemFault) → fault_at Executing cells a ≡ Some fault → executable_run cells a 15 ≡ 0
unfolding executable_run
run_none cells a fault e = ap (λ f. run_after f (executable_run cells (a + 1) 14)) e

-- a step at no slot
pub at_no_slot : (m : Machine) → slot_at m.registers.eip ≡ None → outcome m ≡ fetched (fault_at Executing (cells_of m) m.registers.eip) m
unfolding outcome
at_no_slot m e = ap (λ s. trapped s m) e

length-code_of : ReadLaws → (m : Machine) → length (code_of m) ≡ executable_run (cells_of m) m.registers.eip 15
length-code_of reads m = reads.count (cells_of m) m.registers.eip _

-- a step where there is a byte to execute
at_code : ReadLaws → (m : Machine) (found : Option MemFault) → fault_at Executing (cells_of m) m.registers.eip ≡ found → 0 < length (code_of m) → fetched found m ≡ run_of (code_of m) m
at_code reads m None e h = refl
at_code reads m (Some fault) e h = let none : executable_run (cells_of m) m.registers.eip 15 ≡ 0 = run_none (cells_of m) m.registers.eip fault e in absurd (omega (arith, length-code_of reads m))

runs : ReadLaws → (m : Machine) → slot_at m.registers.eip ≡ None → 0 < length (code_of m) → outcome m ≡ run_of (code_of m) m
runs reads m e h = at_no_slot m e ∙ at_code reads m _ refl h

done_as_spelled : DecodeLaws → ReadLaws → (m : Machine) → slot_at m.registers.eip ≡ None → (i : Instr) (spelling rest : List ℕ) → Spells spelling i → spelling ++ rest ≡ code_of m → outcome m ≡ done_by i (length spelling) m
done_as_spelled laws reads m e i spelling rest h stands =
    let some : 0 < length (code_of m) = omega (arith, spelled_some laws i spelling h, length-append spelling rest, ap length stands) in
    runs reads m e some ∙ ap (λ d. read_as d (length (code_of m)) m) (ap decoded (sym stands) ∙ laws.whole spelling rest i h)

outside_as_spelled : DecodeLaws → ReadLaws → (m : Machine) → slot_at m.registers.eip ≡ None → (k : ℕ) → AreBytes (code_of m) → IsOutsideAt instruction (code_of m) k → outcome m ≡ Faulted kind.Outside (address m.registers.eip)
outside_as_spelled laws reads m e k bytes out =
    let within = out.within in
    let is : decoded (code_of m) ≡ Outside k = as_outside _ k ((laws.exact (code_of m) bytes (OutsideAt k)).1 out) in
    runs reads m e (omega arith) ∙ ap (λ d. read_as d (length (code_of m)) m) is

-- the same fault, fetched at once or behind the bytes
cut_off_at : ReadLaws → (m : Machine) (found : Option MemFault) (fault : MemFault) → fault_at Executing (cells_of m) m.registers.eip ≡ found → fault_at Executing (cells_of m) (m.registers.eip + length (code_of m)) ≡ Some fault → decoded (code_of m) ≡ More → fetched found m ≡ faulted fault
cut_off_at reads m None fault e f more =
    ap (λ d. read_as d (length (code_of m)) m) more ∙ ap (λ o. cut_off o m) f
cut_off_at reads m (Some other) fault e f more =
    let none : executable_run (cells_of m) m.registers.eip 15 ≡ 0 = run_none (cells_of m) m.registers.eip other e in
    let here : m.registers.eip + length (code_of m) ≡ m.registers.eip = omega (arith, length-code_of reads m) in
    let same : Some other ≡ Some fault = sym e ∙ ap (fault_at Executing (cells_of m)) (sym here) ∙ f in
    let one : other ≡ fault = cc in
    ap faulted one

cut_off_as_spelled : DecodeLaws → ReadLaws → FetchLaws → (m : Machine) → slot_at m.registers.eip ≡ None → AreBytes (code_of m) → IsUnfinished instruction (code_of m) → (fault : MemFault) × (fault_at Executing (cells_of m) (m.registers.eip + length (code_of m)) ≡ Some fault) × (outcome m ≡ faulted fault)
cut_off_as_spelled laws reads fetches m e bytes u =
    let below = unfinished_below laws (code_of m) u in
    let more : decoded (code_of m) ≡ More = as_more _ ((laws.exact (code_of m) bytes Unfinished).1 u) in
    let ends = fetches.longest (cells_of m) m.registers.eip 15 (omega (arith, length-code_of reads m)) in
    let f : fault_at Executing (cells_of m) (m.registers.eip + length (code_of m)) ≡ Some ends.0 = ap (λ n. fault_at Executing (cells_of m) (m.registers.eip + n)) (length-code_of reads m) ∙ ends.1 in
    (ends.0, f, at_no_slot m e ∙ cut_off_at reads m _ ends.0 refl f more)

pub each_step_is_as_spelled : DecodingIsExact → SpelledIsDecoded → IsAtMost instruction 15 → ReadLaws → FetchLaws → EachStepIsAsSpelled
each_step_is_as_spelled exact whole bound reads fetches m e =
    let laws : DecodeLaws = record { exact = exact; whole = whole; bound = bound } in
    record {
      done = done_as_spelled laws reads m e;
      outside = outside_as_spelled laws reads m e;
      cut_off = cut_off_as_spelled laws reads fetches m e;
    }
