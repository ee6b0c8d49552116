-- A repeated MOVS copies, number by number.
use Rattle.std.proofs.Common.{◌≡◌, ℕ, zero, suc, ◌+◌, ◌-◌, ◌*◌, ◌%◌, ◌^◌, ◌<◌, ◌≤◌, Bool, true, false, List, [], ◌∷◌, ◌++◌, length, refl, sym, ap, ap₂, subst, ◌∙◌, arith, Option, None, Some, Ok, take, get_or}
use Rattle.std.specs.Prelude.{◌≢◌, ◌==◌, ◌&&◌, not, slice_set, slice_index, if◌then◌else◌}
use Rattle.std.specs.FinMap as map
use Rattle.std.specs.Option.{option_or}
use Rattle.std.proofs.lemmas.List.{take_at, length-append}
use Rattle.std.proofs.lemmas.Bool.{ne_eqb}
use Rattle.std.proofs.lemmas.Nat.{le_bytes_2, le_bytes_4}
use Rattle.std.proofs.Math.Nat.{suc-mul}
use Rattle.nd_mem.specs.declared.MemFault.{MemFault}
use Rattle.nd_mem.specs.Laws.{ReadLaws, WriteLaws, FaultLaws, FetchLaws}
use Rattle.nd_mem.specs.Space.{Space, Access, Reading, Writing, wrapped, first_fault, bytes_from, put_from, executable_run}
use Rattle.codes.specs.Exact.{AreBytes}
use Rattle.codes.specs.ExactLaws.{AreBytes-back}
use Rattle.ia32_arithmetic.specs.declared.widths.Width.{Width}
use Rattle.ia32_arithmetic.specs.declared.widths.Width.TheVariants.{Byte, Word, Doubleword}
use Rattle.ia32_arithmetic.specs.declared.flags.Flags.{Flags}
use Rattle.ia32_arithmetic.specs.Widths.{size, bytes}
use Rattle.ia32_decode.specs.declared.instruction.Instr.{Instr}
use Rattle.ia32_step.specs.Registers.{Registers, ECX, ESI, EDI, general_of}
use Rattle.ia32_step.specs.State.{Machine, machine, cells_of, Effect, Moved}
use Rattle.ia32_step.specs.Machine.{outcome, moved, after, code_of, done_by, ended, EachStepIsAsSpelled}
use Rattle.ia32_step.specs.Meaning.{meaning, effect_of}
use Rattle.ia32_step.specs.Operands.{committed, read, number, bytes_of, unless, and_then}
use Rattle.ia32_step.specs.Control.{advanced}
use Rattle.ia32_step.specs.Strings.{string_done, once, copied, goes_on, counted_down, next_of, source_moved, destination_moved}
use Rattle.ia32_step.specs.declared.effects.Write.TheVariants as write
use Rattle.ia32_laws.specs.Copies.{stepped, AreApart, IsRepeatedMove, CopiesUp, source, destination, copied_registers, CopyLaws}

-- the laws that this stands on
record Given : Type 0 where
  reads : ReadLaws
  writes : WriteLaws
  faults : FaultLaws
  fetches : FetchLaws
  spelled : EachStepIsAsSpelled

-- ---- numbers and lists

some : (c : ℕ) → (suc c == 0) ≡ false
some c = ne_eqb (suc c) 0 (omega arith)

-- the bytes of a number, and of c more
cut : (w : Width) (c : ℕ) → suc c * bytes w ≡ bytes w + c * bytes w
cut w c = suc-mul c (bytes w) ∙ omega arith

AreBytes-front : (front back : List ℕ) → AreBytes (front ++ back) → AreBytes front
AreBytes-front [] back h = tt
AreBytes-front (b ∷ front) back h = (h.0, AreBytes-front front back h.1)

same_front : (xs ys us vs : List ℕ) → length xs ≡ length us → xs ++ ys ≡ us ++ vs → xs ≡ us
same_front xs ys us vs long e = sym (take_at xs ys (length us) long) ∙ ap (take (length us)) e ∙ take_at us vs (length us) refl

below : (xs : List ℕ) → AreBytes xs → (i : ℕ) → get_or xs i 0 < 256
below [] h i = omega arith
below (b ∷ xs) h zero = h.0
below (b ∷ xs) h (suc i) = below xs h.1 i

bytes-number : (w : Width) (xs : List ℕ) → length xs ≡ bytes w → AreBytes xs → bytes_of w (number w xs) ≡ xs
bytes-number Byte [] long h = absurd (omega arith)
bytes-number Byte (a ∷ []) long h = let low = h.0 in ap (λ n. n ∷ []) (omega arith)
bytes-number Byte (a ∷ b ∷ xs) long h = absurd (omega arith)
bytes-number Word xs long h = le_bytes_2 xs (number Word xs) long (below xs h) refl
bytes-number Doubleword xs long h = le_bytes_4 xs (number Doubleword xs) long (below xs h) refl

-- ESI, EDI and ECX of eight registers
abbrev three : List ℕ → ℕ → ℕ → ℕ → List ℕ
three g s t c = slice_set (slice_set (slice_set g ESI s) EDI t) ECX c

record AreThree (g : List ℕ) (s t c : ℕ) : Type 0 where
  from : slice_index (three g s t c) ESI ≡ s
  to : slice_index (three g s t c) EDI ≡ t
  left : slice_index (three g s t c) ECX ≡ c
  long : length (three g s t c) ≡ 8
  again : (x y n : ℕ) → three (three g s t c) x y n ≡ three g x y n
  kept_to : slice_index (slice_set g ESI s) EDI ≡ slice_index g EDI
  kept_left : slice_index (slice_set (slice_set g ESI s) EDI t) ECX ≡ slice_index g ECX

are_three : (g : List ℕ) (s t c : ℕ) → length g ≡ 8 → AreThree g s t c
are_three (x0 ∷ x1 ∷ x2 ∷ x3 ∷ x4 ∷ x5 ∷ x6 ∷ x7 ∷ []) s t c long = record { from = refl; to = refl; left = refl; long = refl; again = λ x y n. refl; kept_to = refl; kept_left = refl }
are_three [] s t c long = absurd (omega arith)
are_three (x0 ∷ []) s t c long = absurd (omega arith)
are_three (x0 ∷ x1 ∷ []) s t c long = absurd (omega arith)
are_three (x0 ∷ x1 ∷ x2 ∷ []) s t c long = absurd (omega arith)
are_three (x0 ∷ x1 ∷ x2 ∷ x3 ∷ []) s t c long = absurd (omega arith)
are_three (x0 ∷ x1 ∷ x2 ∷ x3 ∷ x4 ∷ []) s t c long = absurd (omega arith)
are_three (x0 ∷ x1 ∷ x2 ∷ x3 ∷ x4 ∷ x5 ∷ []) s t c long = absurd (omega arith)
are_three (x0 ∷ x1 ∷ x2 ∷ x3 ∷ x4 ∷ x5 ∷ x6 ∷ []) s t c long = absurd (omega arith)
are_three (x0 ∷ x1 ∷ x2 ∷ x3 ∷ x4 ∷ x5 ∷ x6 ∷ x7 ∷ x8 ∷ xs) s t c long = absurd (omega arith)

-- ---- one iteration

-- ECX is 0
abbrev three_of : List ℕ → ℕ → ℕ → List ℕ
three_of g s t = three g s t 0

abbrev eip_behind : ℕ → ℕ → ℕ → ℕ
eip_behind zero eip long = wrapped (eip + long)
eip_behind (suc c) eip long = eip

-- the registers behind an iteration that leaves c, of an instruction of so many bytes
abbrev registers_behind : Width → ℕ → ℕ → Registers → Registers
registers_behind w c long r = record r {
  general = three r.general (wrapped (general_of r ESI + bytes w)) (wrapped (general_of r EDI + bytes w)) c;
  eip = eip_behind c r.eip long;
}

abbrev moved_number : Width → Machine → List ℕ
moved_number w m = bytes_from (cells_of m) (source m) (bytes w)

abbrev behind : Width → ℕ → ℕ → Machine → Machine
behind w c long m = machine (registers_behind w c long m.registers) (put_from m.memory (destination m) (moved_number w m))

next_up : (w : Width) (a : ℕ) (f : Flags) → f.direction ≡ false → next_of w a f ≡ wrapped (a + bytes w)
unfolding next_of
next_up w a f e = rw e refl

one_less : (c : ℕ) → suc c < 2 ^ 32 → (suc c + 2 ^ 32 - 1) % 2 ^ 32 ≡ c
one_less c h = omega arith

-- the registers with new ESI and EDI
abbrev both : ℕ → Registers → ℕ → ℕ → Registers
both long r s t = record (advanced long r) { general = slice_set (slice_set r.general ESI s) EDI t }

both_moved : (w : Width) (long : ℕ) (r : Registers) → r.flags.direction ≡ false → length r.general ≡ 8
    → destination_moved w (source_moved w (advanced long r)) ≡ both long r (wrapped (general_of r ESI + bytes w)) (wrapped (general_of r EDI + bytes w))
both_moved w long r up eight =
    ap₂ (both long r) (next_up w (general_of r ESI) r.flags up)
    (ap (λ n. next_of w n r.flags) (are_three r.general (next_of w (general_of r ESI) r.flags) 0 0 eight).kept_to ∙ next_up w (general_of r EDI) r.flags up)

-- what is left of the count, and EIP by it
abbrev counted_to : ℕ → Registers → ℕ → Registers
counted_to start r c = let next = record r { general = slice_set r.general ECX c } in if not (c == 0) && true then (record next { eip = start }) else next

counted : (w : Width) (c long : ℕ) (r : Registers) → r.flags.direction ≡ false → length r.general ≡ 8 → general_of r ECX ≡ suc c → suc c < 2 ^ 32
    → counted_down r.eip true (destination_moved w (source_moved w (advanced long r))) ≡ registers_behind w c long r
unfolding counted_down
counted w c long r up eight count few =
    let s = wrapped (general_of r ESI + bytes w) in
    let t = wrapped (general_of r EDI + bytes w) in
    ap (counted_down r.eip true) (both_moved w long r up eight) ∙ left_is c (both long r s t) ((are_three r.general s t 0 eight).kept_left ∙ count) few ∙ at_left c s t
  where
    left_is : (c : ℕ) (q : Registers) → general_of q ECX ≡ suc c → suc c < 2 ^ 32 → counted_down r.eip true q ≡ counted_to r.eip q c
    left_is c q e few = ap (λ n. counted_to r.eip q ((n + 2 ^ 32 - 1) % 2 ^ 32)) e ∙ ap (counted_to r.eip q) (one_less c few)

    at_left : (c s t : ℕ) → counted_to r.eip (both long r s t) c ≡ record r { general = three r.general s t c; eip = eip_behind c r.eip long }
    at_left zero s t = refl
    at_left (suc c) s t = ap (λ (b : Bool). let next = record r { general = three r.general s t (suc c); eip = wrapped (r.eip + long) } in if not b && true then (record next { eip = r.eip }) else next) (some c)

effect_is : (w : Width) (i : Instr) (start : ℕ) (r : Registers) (s : Space) (v c : ℕ) → IsRepeatedMove w i → general_of r ECX ≡ suc c → read w (general_of r ESI) s ≡ Ok v
    → effect_of i start (machine r s) ≡ Ok (record { registers = counted_down start true (destination_moved w (source_moved w r)); write = write.Number w (general_of r EDI) v })
unfolding effect_of string_done once copied goes_on
effect_is w i start r s v c h count found = rw (h.operation, h.width, h.repeat, count, some c, found) refl

read_is : (w : Width) (s : Space) (a : ℕ) → first_fault Reading (map.get s) a (bytes w) ≡ None → read w a s ≡ Ok (number w (bytes_from (map.get s) a (bytes w)))
unfolding read
read_is w s a e = ap (λ (f : Option MemFault). unless f (number w (bytes_from (map.get s) a (bytes w)))) e

committed_is : (w : Width) (q : Registers) (v : ℕ) (xs : List ℕ) (m : Machine) (a : ℕ) → first_fault Writing (cells_of m) a (bytes w) ≡ None → bytes_of w v ≡ xs
    → committed (record { registers = q; write = write.Number w a v }) m ≡ Ok (machine q (put_from m.memory a xs))
unfolding committed
committed_is w q v xs m a e is =
    ap (λ (f : Option MemFault). and_then (unless f (put_from m.memory a (bytes_of w v))) (λ s. Ok (machine q s))) e
    ∙ ap (λ (ys : List ℕ). Ok (machine q (put_from m.memory a ys))) is

meaning_is : ReadLaws → (w : Width) (c long : ℕ) (i : Instr) (m : Machine) → IsRepeatedMove w i → m.registers.flags.direction ≡ false → length m.registers.general ≡ 8
    → general_of m.registers ECX ≡ suc c → suc c < 2 ^ 32
    → first_fault Reading (cells_of m) (source m) (bytes w) ≡ None → first_fault Writing (cells_of m) (destination m) (bytes w) ≡ None → AreBytes (moved_number w m)
    → meaning i long m ≡ Ok (behind w c long m)
unfolding meaning
meaning_is reads w c long i m h up eight count few readable writable low =
    let v = number w (moved_number w m) in
    let r = m.registers in
    ap (λ x. and_then x (λ e. committed e m)) (effect_is w i r.eip (advanced long r) m.memory v c h count (read_is w m.memory (source m) readable))
    ∙ committed_is w _ v (moved_number w m) m (destination m) writable (bytes-number w (moved_number w m) (reads.count (cells_of m) (source m) (bytes w)) low)
    ∙ ap (λ (q : Registers). Ok (machine q (put_from m.memory (destination m) (moved_number w m)))) (counted w c long r up eight count few)

-- ---- what is left to copy behind it

or_none : (x y : Option MemFault) → option_or x y ≡ None → (x ≡ None) × (y ≡ None)
or_none None y e = (refl, e)
or_none (Some f) y e = absurd (cc)

-- the first number of more, and the others
first_and_rest : FaultLaws → (access : Access) (s : Space) (a m n : ℕ) → first_fault access (map.get s) a (m + n) ≡ None
    → (first_fault access (map.get s) a m ≡ None) × (first_fault access (map.get s) (a + m) n ≡ None)
first_and_rest faults access s a m n e = or_none _ _ (sym (faults.split access (map.get s) a m n) ∙ e)

wrap-add : (a b j : ℕ) → wrapped (wrapped (a + b) + j) ≡ wrapped (a + (b + j))
wrap-add a b j = omega arith

-- the parts behind the first m bytes of ranges that are apart
apart_behind : (a m n b x y : ℕ) → AreApart a (m + n) b (x + y) → AreApart (wrapped (a + m)) n (wrapped (b + x)) y
apart_behind a m n b x y apart j k p q e = apart (m + j) (x + k) (omega (arith, p)) (omega (arith, q)) (sym (wrap-add a m j) ∙ e ∙ wrap-add b x k)

apart_from : (a m n b y : ℕ) → AreApart a (m + n) b y → AreApart (wrapped (a + m)) n b y
apart_from a m n b y apart j k p q e = apart (m + j) k (omega (arith, p)) q (sym (wrap-add a m j) ∙ e)

apart_first : (a m n b y : ℕ) → AreApart a (m + n) b y → AreApart a m b y
apart_first a m n b y apart j k p q e = apart j k (omega (arith, p)) q e

-- ---- all steps

module _ (given : Given) (w : Width) (i : Instr) (spelling : List ℕ) where
  -- the ranges as those of a number and of c more
  readable_parts : (c : ℕ) (m : Machine) → CopiesUp w (suc c) i spelling m → first_fault Reading (cells_of m) (source m) (bytes w + c * bytes w) ≡ None
  readable_parts c m h = subst (λ n. first_fault Reading (cells_of m) (source m) n ≡ None) (cut w c) h.readable

  writable_parts : (c : ℕ) (m : Machine) → CopiesUp w (suc c) i spelling m → first_fault Writing (cells_of m) (destination m) (bytes w + c * bytes w) ≡ None
  writable_parts c m h = subst (λ n. first_fault Writing (cells_of m) (destination m) n ≡ None) (cut w c) h.writable

  apart_parts : (c : ℕ) (m : Machine) → CopiesUp w (suc c) i spelling m → AreApart (destination m) (bytes w + c * bytes w) (source m) (bytes w + c * bytes w)
  apart_parts c m h = subst (λ n. AreApart (destination m) n (source m) n) (cut w c) h.apart

  beside_parts : (c : ℕ) (m : Machine) → CopiesUp w (suc c) i spelling m → AreApart (destination m) (bytes w + c * bytes w) m.registers.eip (length spelling)
  beside_parts c m h = subst (λ n. AreApart (destination m) n m.registers.eip (length spelling)) (cut w c) h.beside

  first_readable : (c : ℕ) (m : Machine) → CopiesUp w (suc c) i spelling m → first_fault Reading (cells_of m) (source m) (bytes w) ≡ None
  first_readable c m h = (first_and_rest given.faults Reading m.memory (source m) (bytes w) (c * bytes w) (readable_parts c m h)).0

  first_writable : (c : ℕ) (m : Machine) → CopiesUp w (suc c) i spelling m → first_fault Writing (cells_of m) (destination m) (bytes w) ≡ None
  first_writable c m h = (first_and_rest given.faults Writing m.memory (destination m) (bytes w) (c * bytes w) (writable_parts c m h)).0

  parts : (m : Machine) (c : ℕ) → bytes_from (cells_of m) (source m) (suc c * bytes w) ≡ moved_number w m ++ bytes_from (cells_of m) (source m + bytes w) (c * bytes w)
  parts m c = ap (bytes_from (cells_of m) (source m)) (cut w c) ∙ given.reads.split (cells_of m) (source m) (bytes w) (c * bytes w)

  are_low : (c : ℕ) (m : Machine) → CopiesUp w (suc c) i spelling m → AreBytes (moved_number w m ++ bytes_from (cells_of m) (source m + bytes w) (c * bytes w))
  are_low c m h = subst AreBytes (parts m c) h.are_bytes

  one_step : (c : ℕ) (m : Machine) → CopiesUp w (suc c) i spelling m → outcome m ≡ Moved (behind w c (length spelling) m)
  one_step c m h =
      (given.spelled m h.no_slot).done i spelling h.rest h.spelled h.stands
      ∙ ap (λ x. ended x m.registers.eip) (meaning_is given.reads w c (length spelling) i m h.repeated h.upwards h.registers h.count h.few (first_readable c m h) (first_writable c m h)
      (AreBytes-front (moved_number w m) (bytes_from (cells_of m) (source m + bytes w) (c * bytes w)) (are_low c m h)))

  one_moved : (c : ℕ) (m : Machine) → CopiesUp w (suc c) i spelling m → moved m ≡ behind w c (length spelling) m
  one_moved c m h = ap (λ o. after o m) (one_step c m h)

  long_number : (m : Machine) → length (moved_number w m) ≡ bytes w
  long_number m = given.reads.count (cells_of m) (source m) (bytes w)

  -- the bytes of the instruction are still there
  still_stands : (c : ℕ) (m : Machine) → CopiesUp w (suc (suc c)) i spelling m → (rest : List ℕ) × (spelling ++ rest ≡ code_of (behind w (suc c) (length spelling) m))
  still_stands c m h =
      let next = behind w (suc c) (length spelling) m in
      let long = length spelling in
      let run = executable_run (cells_of m) m.registers.eip 15 in
      let behind_it = bytes_from (cells_of next) (m.registers.eip + long) (length h.rest) in
      let whole : long + length h.rest ≡ run = sym (length-append spelling h.rest) ∙ ap length h.stands ∙ given.reads.count (cells_of m) m.registers.eip run in
      let before : bytes_from (cells_of m) m.registers.eip long ≡ spelling =
      same_front _ (bytes_from (cells_of m) (m.registers.eip + long) (length h.rest)) spelling h.rest (given.reads.count (cells_of m) m.registers.eip long)
      (sym (given.reads.split (cells_of m) m.registers.eip long (length h.rest)) ∙ ap (bytes_from (cells_of m) m.registers.eip) whole ∙ sym h.stands) in
      let kept : bytes_from (cells_of next) m.registers.eip long ≡ bytes_from (cells_of m) m.registers.eip long =
      given.reads.others m.memory (destination m) (moved_number w m) m.registers.eip long (λ j k p q. apart_first (destination m) (bytes w) (suc c * bytes w) m.registers.eip long (beside_parts (suc c) m h) j k (omega (arith, p, long_number m)) q) in
      let same_run : executable_run (cells_of next) m.registers.eip 15 ≡ run = given.fetches.written m.memory (destination m) (moved_number w m) m.registers.eip 15 in (
        behind_it,
        ap (λ (xs : List ℕ). xs ++ behind_it) (sym (kept ∙ before)) ∙ sym (given.reads.split (cells_of next) m.registers.eip long (length h.rest))
            ∙ ap (bytes_from (cells_of next) m.registers.eip) (whole ∙ sym same_run),
      )

  -- what is still to be copied is what it was
  rest_kept : (c : ℕ) (m : Machine) → CopiesUp w (suc c) i spelling m
      → bytes_from (cells_of (behind w c (length spelling) m)) (wrapped (source m + bytes w)) (c * bytes w) ≡ bytes_from (cells_of m) (source m + bytes w) (c * bytes w)
  rest_kept c m h =
      given.reads.wraps (cells_of (behind w c (length spelling) m)) (source m + bytes w) (c * bytes w)
      ∙ given.reads.others m.memory (destination m) (moved_number w m) (source m + bytes w) (c * bytes w)
      (λ j k p q e. apart_parts c m h j (bytes w + k) (omega (arith, p, long_number m)) (omega (arith, q)) (e ∙ ap wrapped (omega arith)))

  still_copies : (c : ℕ) (m : Machine) → CopiesUp w (suc (suc c)) i spelling m → CopiesUp w (suc c) i spelling (behind w (suc c) (length spelling) m)
  still_copies c m h =
      let s = wrapped (source m + bytes w) in
      let t = wrapped (destination m + bytes w) in
      let next = behind w (suc c) (length spelling) m in
      let three = are_three m.registers.general s t (suc c) h.registers in
      let code = still_stands c m h in
      let n = suc c * bytes w in
      record {
        repeated = h.repeated;
        spelled = h.spelled;
        rest = code.0;
        stands = code.1;
        no_slot = h.no_slot;
        registers = three.long;
        count = three.left;
        few = omega (arith, h.few);
        upwards = h.upwards;
        readable = ap (λ a. first_fault Reading (cells_of next) a n) three.from ∙ given.faults.wraps Reading (cells_of next) (source m + bytes w) n
            ∙ given.faults.written Reading m.memory (destination m) (moved_number w m) (source m + bytes w) n ∙ (first_and_rest given.faults Reading m.memory (source m) (bytes w) n (readable_parts (suc c) m h)).1;
        are_bytes = subst AreBytes (sym (ap (λ a. bytes_from (cells_of next) a n) three.from ∙ rest_kept (suc c) m h))
            (AreBytes-back (moved_number w m) (bytes_from (cells_of m) (source m + bytes w) n) (are_low (suc c) m h));
        writable = ap (λ a. first_fault Writing (cells_of next) a n) three.to ∙ given.faults.wraps Writing (cells_of next) (destination m + bytes w) n
            ∙ given.faults.written Writing m.memory (destination m) (moved_number w m) (destination m + bytes w) n ∙ (first_and_rest given.faults Writing m.memory (destination m) (bytes w) n (writable_parts (suc c) m h)).1;
        apart = subst (λ a. AreApart a n (source next) n) (sym three.to) (subst (λ b. AreApart t n b n) (sym three.from) (apart_behind (destination m) (bytes w) n (source m) (bytes w) n (apart_parts (suc c) m h)));
        beside = subst (λ a. AreApart a n m.registers.eip (length spelling)) (sym three.to) (apart_from (destination m) (bytes w) n m.registers.eip (length spelling) (beside_parts (suc c) m h));
      }

  goes_on_at : (n k : ℕ) (m : Machine) → CopiesUp w n i spelling m → k < n → outcome (stepped k m) ≡ Moved (stepped (suc k) m)
  unfolding stepped
  goes_on_at zero k m h p = absurd (omega arith)
  goes_on_at (suc c) zero m h p = one_step c m h ∙ ap Moved (sym (one_moved c m h))
  goes_on_at (suc zero) (suc k) m h p = absurd (omega arith)
  goes_on_at (suc (suc c)) (suc k) m h p =
      let is = one_moved (suc c) m h in
      goes_on_at (suc c) k (moved m) (subst (CopiesUp w (suc c) i spelling) (sym is) (still_copies c m h)) (omega (arith, p))

  -- so many numbers are copied
  abbrev all_copied : ℕ → Machine → Machine
  all_copied n m = machine (copied_registers w n (length spelling) m.registers) (put_from m.memory (destination m) (bytes_from (cells_of m) (source m) (n * bytes w)))

  once_more : (c : ℕ) (m : Machine) → CopiesUp w (suc (suc c)) i spelling m → all_copied (suc c) (behind w (suc c) (length spelling) m) ≡ all_copied (suc (suc c)) m
  once_more c m h =
      let s = wrapped (source m + bytes w) in
      let t = wrapped (destination m + bytes w) in
      let next = behind w (suc c) (length spelling) m in
      let n = suc c * bytes w in
      let three = are_three m.registers.general s t (suc c) h.registers in
      let from : wrapped (source next + n) ≡ wrapped (source m + suc (suc c) * bytes w) = ap (λ a. wrapped (a + n)) three.from ∙ wrap-add (source m) (bytes w) n ∙ ap (λ k. wrapped (source m + k)) (sym (cut w (suc c))) in
      let to : wrapped (destination next + n) ≡ wrapped (destination m + suc (suc c) * bytes w) = ap (λ a. wrapped (a + n)) three.to ∙ wrap-add (destination m) (bytes w) n ∙ ap (λ k. wrapped (destination m + k)) (sym (cut w (suc c))) in
      let others : bytes_from (cells_of next) (source next) n ≡ bytes_from (cells_of m) (source m + bytes w) n = ap (λ a. bytes_from (cells_of next) a n) three.from ∙ rest_kept (suc c) m h in
      let registers : copied_registers w (suc c) (length spelling) next.registers ≡ copied_registers w (suc (suc c)) (length spelling) m.registers =
      ap (λ (g : List ℕ). record m.registers { general = g; eip = wrapped (m.registers.eip + length spelling) })
      (three.again (wrapped (source next + n)) (wrapped (destination next + n)) 0 ∙ ap₂ (λ x y. three_of m.registers.general x y) from to) in
      let memory : put_from next.memory (destination next) (bytes_from (cells_of next) (source next) n) ≡ put_from m.memory (destination m) (bytes_from (cells_of m) (source m) (suc (suc c) * bytes w)) =
      ap₂ (put_from next.memory) three.to others
      ∙ given.writes.wraps next.memory (destination m + bytes w) (bytes_from (cells_of m) (source m + bytes w) n)
      ∙ ap (λ k. put_from next.memory (destination m + k) (bytes_from (cells_of m) (source m + bytes w) n)) (sym (long_number m))
      ∙ sym (given.writes.append m.memory (destination m) (moved_number w m) (bytes_from (cells_of m) (source m + bytes w) n))
      ∙ ap (put_from m.memory (destination m)) (sym (parts m (suc c))) in
      ap₂ machine registers memory

  -- bytes of so many are copied
  abbrev copied_by : ℕ → Machine → Machine
  copied_by k m = machine (record m.registers { general = three_of m.registers.general (wrapped (source m + k)) (wrapped (destination m + k)); eip = wrapped (m.registers.eip + length spelling) })
      (put_from m.memory (destination m) (bytes_from (cells_of m) (source m) k))

  copied_all : (n : ℕ) (m : Machine) → CopiesUp w (suc n) i spelling m → stepped (suc n) m ≡ all_copied (suc n) m
  unfolding stepped
  copied_all zero m h = let once : bytes w ≡ 1 * bytes w = omega arith in one_moved 0 m h ∙ ap (λ k. copied_by k m) once
  copied_all (suc c) m h =
      let is = one_moved (suc c) m h in
      ap (stepped (suc c)) is ∙ copied_all c (behind w (suc c) (length spelling) m) (still_copies c m h) ∙ once_more c m h

pub copy_laws : ReadLaws → WriteLaws → FaultLaws → FetchLaws → EachStepIsAsSpelled → CopyLaws
copy_laws reads writes faults fetches spelled =
    let given : Given = record { reads = reads; writes = writes; faults = faults; fetches = fetches; spelled = spelled } in
    record {
      copied = λ w n i spelling m h. copied_all given w i spelling n m h;
      goes_on = λ w n k i spelling m h p. goes_on_at given w i spelling n k m h p;
    }
