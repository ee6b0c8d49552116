-- A push and then a pop.
use Rattle.std.proofs.Common.{◌≡◌, ℕ, ◌+◌, ◌-◌, ◌%◌, ◌^◌, ◌<◌, ◌≤◌, List, [], ◌∷◌, length, refl, sym, ap, ◌∙◌, arith, Option, None, Some, Ok}
use Rattle.std.specs.Prelude.{slice_set, slice_index}
use Rattle.std.specs.FinMap as map
use Rattle.std.proofs.lemmas.Nat.{from_le_bytes-to_le_bytes_2, from_le_bytes-to_le_bytes_4}
use Rattle.nd_mem.specs.declared.MemFault.{MemFault}
use Rattle.nd_mem.specs.Laws.{ReadLaws, FaultLaws}
use Rattle.nd_mem.specs.Space.{Space, Reading, Writing, Any, first_fault, bytes_from, put_from}
use Rattle.ia32_arithmetic.specs.declared.widths.Width.{Width}
use Rattle.ia32_arithmetic.specs.declared.widths.Width.TheVariants.{Byte, Word, Doubleword}
use Rattle.ia32_arithmetic.specs.Widths.{size, bytes}
use Rattle.ia32_decode.specs.declared.instruction.Instr.{Instr}
use Rattle.ia32_step.specs.Registers.{Registers, ESP, general_of, with_general}
use Rattle.ia32_step.specs.State.{Machine, machine}
use Rattle.ia32_step.specs.Operands.{committed, read, number, bytes_of, unless, and_then}
use Rattle.ia32_step.specs.Stack.{push, popped}
use Rattle.ia32_step.specs.Moves.{into_first}
use Rattle.ia32_laws.specs.Programs.{AreRegisters, pushed_to, StackLaws}

-- ---- numbers as bytes

length-bytes_of : (w : Width) (v : ℕ) → length (bytes_of w v) ≡ bytes w
length-bytes_of Byte v = refl
length-bytes_of Word v = refl
length-bytes_of Doubleword v = refl

number-bytes_of : (w : Width) (v : ℕ) → v < size w → number w (bytes_of w v) ≡ v
number-bytes_of Byte v h = omega arith
number-bytes_of Word v h = from_le_bytes-to_le_bytes_2 v h
number-bytes_of Doubleword v h = from_le_bytes-to_le_bytes_4 v h

few_bytes : (w : Width) → bytes w ≤ 4
few_bytes Byte = omega arith
few_bytes Word = omega arith
few_bytes Doubleword = omega arith

-- ---- what is read where it was written

read-put : ReadLaws → FaultLaws → (w : Width) (v : ℕ) (s : Space) (a : ℕ) → v < size w → first_fault Reading (map.get s) a (bytes w) ≡ None → read w a (put_from s a (bytes_of w v)) ≡ Ok v
unfolding read
read-put reads faults w v s a h readable =
    let long = length-bytes_of w v in
    let fault : first_fault Reading (map.get (put_from s a (bytes_of w v))) a (bytes w) ≡ None = faults.written Reading s a (bytes_of w v) a (bytes w) ∙ readable in
    let mapped : first_fault Any (map.get s) a (length (bytes_of w v)) ≡ None = ap (first_fault Any (map.get s) a) long ∙ faults.mapped Reading (map.get s) a (bytes w) readable in
    let got : bytes_from (map.get (put_from s a (bytes_of w v))) a (bytes w) ≡ bytes_of w v = ap (bytes_from (map.get (put_from s a (bytes_of w v))) a) (sym long) ∙ reads.written s a (bytes_of w v) (omega (arith, long, few_bytes w)) mapped in
    ap (λ (f : Option MemFault). unless f (number w (bytes_from (map.get (put_from s a (bytes_of w v))) a (bytes w)))) fault
    ∙ ap (λ (xs : List ℕ). Ok (number w xs)) got ∙ ap (λ (n : ℕ). Ok n) (number-bytes_of w v h)

-- ---- the stack pointer, there and back

back_again : (w : Width) (r : Registers) → AreRegisters r → (pushed_to w r + bytes w) % 2 ^ 32 ≡ general_of r ESP
back_again Byte r h = let below = h.stack in omega arith
back_again Word r h = let below = h.stack in omega arith
back_again Doubleword r h = let below = h.stack in omega arith

set_twice : (xs : List ℕ) (v : ℕ) → length xs ≡ 8 → (slice_index (slice_set xs 4 v) 4 ≡ v) × (slice_set (slice_set xs 4 v) 4 (slice_index xs 4) ≡ xs)
set_twice (a ∷ b ∷ c ∷ d ∷ e ∷ f ∷ g ∷ h ∷ []) v long = (refl, refl)
set_twice [] v long = absurd (omega arith)
set_twice (a ∷ []) v long = absurd (omega arith)
set_twice (a ∷ b ∷ []) v long = absurd (omega arith)
set_twice (a ∷ b ∷ c ∷ []) v long = absurd (omega arith)
set_twice (a ∷ b ∷ c ∷ d ∷ []) v long = absurd (omega arith)
set_twice (a ∷ b ∷ c ∷ d ∷ e ∷ []) v long = absurd (omega arith)
set_twice (a ∷ b ∷ c ∷ d ∷ e ∷ f ∷ []) v long = absurd (omega arith)
set_twice (a ∷ b ∷ c ∷ d ∷ e ∷ f ∷ g ∷ []) v long = absurd (omega arith)
set_twice (a ∷ b ∷ c ∷ d ∷ e ∷ f ∷ g ∷ h ∷ x ∷ xs) v long = absurd (omega arith)

-- ---- the machine behind a push

abbrev behind : Width → ℕ → Registers → Space → Machine
behind w v r s = machine (with_general ESP (pushed_to w r) r) (put_from s (pushed_to w r) (bytes_of w v))

committed_push : (w : Width) (v : ℕ) (r : Registers) (s : Space) (m : Machine) (f : Option MemFault) → first_fault Writing (map.get s) (pushed_to w r) (bytes w) ≡ f → committed (push w v r) (machine r s) ≡ Ok m → m ≡ behind w v r s
unfolding committed push
committed_push w v r s m None e is =
    let now : Ok (behind w v r s) ≡ Ok m = sym (ap (λ (f : Option MemFault). and_then (unless f (put_from s (pushed_to w r) (bytes_of w v))) (λ t. Ok (machine (with_general ESP (pushed_to w r) r) t))) e) ∙ is in
    let one : behind w v r s ≡ m = cc in sym one
committed_push w v r s m (Some fault) e is =
    let now : and_then (unless (Some fault) (put_from s (pushed_to w r) (bytes_of w v))) (λ t. Ok (machine (with_general ESP (pushed_to w r) r) t)) ≡ Ok m = sym (ap (λ (f : Option MemFault). and_then (unless f (put_from s (pushed_to w r) (bytes_of w v))) (λ t. Ok (machine (with_general ESP (pushed_to w r) r) t))) e) ∙ is in
    absurd (cc)

-- a pop of what is read, at this stack pointer and to this one
popped_by : (i : Instr) (w : Width) (r : Registers) (s : Space) (top v : ℕ) (next : Registers) → general_of r ESP ≡ top → with_general ESP ((top + bytes w) % 2 ^ 32) r ≡ next → read w top s ≡ Ok v → popped i w (machine r s) ≡ Ok (into_first i w v next)
unfolding popped
popped_by i w r s top v next at is found = rw (at, is, found) refl

pub stack_laws : ReadLaws → FaultLaws → StackLaws
stack_laws reads faults = record {
  popped = λ w v i r s m h whole readable is.
      let twice = set_twice r.general (pushed_to w r) whole.count in
      let same = committed_push w v r s m _ refl is in
      let next : with_general ESP ((pushed_to w r + bytes w) % 2 ^ 32) (with_general ESP (pushed_to w r) r) ≡ r =
      ap (λ (n : ℕ). with_general ESP n (with_general ESP (pushed_to w r) r)) (back_again w r whole) ∙ ap (λ (g : List ℕ). record r { general = g }) twice.1 in
      ap (popped i w) same ∙ popped_by i w _ _ (pushed_to w r) v r twice.0 next (read-put reads faults w v s (pushed_to w r) h readable);
}
