-- Where open numbers stand in the bytes.
use Rattle.std.proofs.Common.{◌≡◌, ℕ, ◌+◌, ◌-◌, ◌<◌, ◌≤◌, ◌^◌, ◌⊎◌, inl, inr, Bool, true, false, List, [], ◌∷◌, ◌++◌, length, take, drop, Option, Some, None, IsSome, refl, sym, ap, ◌∙◌, subst, append_assoc, length-append, ltb, arith}
use Rattle.std.proofs.Math.Seq.{take-append_seam, drop-append_seam, drop-append-add}
use Rattle.std.specs.Int.{w32, to_le_bytes}
use Rattle.std.proofs.lemmas.Option.{cond_some}
use Rattle.std.proofs.lemmas.Bool.{false≢true, ltb-true}
use Rattle.ia32_decode.specs.Decoding.{Spells}
use Rattle.ia32_fields.specs.Fields.{IsWide, WideImmediates, WideOffsets}
use Rattle.asm_encode.specs.Operations.{has_memory, instruction_of}
use Rattle.asm_encode.specs.Templates.{AreWords, IsNumberOf, word_of, IsPlaced, IsOpenOffset, is_put_in, filled, IsTemplate}
use Rattle.asm_encode.specs.declared.operation.Operation.{Operation}
use Rattle.asm_encode.specs.declared.forms.Form.{Form}
use Rattle.asm_encode.specs.declared.templates.Term.{Term}
use Rattle.asm_encode.specs.declared.templates.Term.TheVariants.{Known, Open}
use Rattle.asm_encode.specs.declared.templates.Template.TheVariants.{Fixed, WithValue, WithOffset, WithBoth}
use Rattle.asm_encode.proofs.Moved.{moved, imm_is, valued_is, memory_at, same}

-- ---- lists

long_word : (n : ℕ) → length (to_le_bytes w32 n) ≡ 4
long_word n = refl

-- what stands in front of the last so many
take_front : (front back : List ℕ) (n : ℕ) → n ≡ length back → take (length (front ++ back) - n) (front ++ back) ≡ front
take_front front back n e =
    let l : length (front ++ back) - n ≡ length front = omega (arith, length-append front back) in
    ap (λ k. take k (front ++ back)) l ∙ take-append_seam front back

drop_front : (front back : List ℕ) (n : ℕ) → n ≡ length back → drop (length (front ++ back) - n) (front ++ back) ≡ back
drop_front front back n e =
    let l : length (front ++ back) - n ≡ length front = omega (arith, length-append front back) in
    ap (λ k. drop k (front ++ back)) l ∙ drop-append_seam front back

-- fronts are one where they are followed by as many
front_is : (front other : List ℕ) (m n : ℕ) → front ++ to_le_bytes w32 m ≡ other ++ to_le_bytes w32 n → front ≡ other
front_is front other m n e =
    sym (take_front front (to_le_bytes w32 m) 4 refl) ∙ ap (λ (bytes : List ℕ). take (length bytes - 4) bytes) e ∙ take_front other (to_le_bytes w32 n) 4 refl

-- ---- words of terms

known_is : (k filler n : ℕ) → word_of (Known k) filler ≡ Some n → k ≡ n
known_is k filler n e = (cond_some (ltb k (2 ^ 32)) k n e).1

open_is : (filler n : ℕ) → word_of Open filler ≡ Some n → filler ≡ n
open_is filler n e = cc

pub wide_open : (n : ℕ) → IsOpenOffset n → IsWide n
wide_open n (inl e) = record { low = omega arith; high = omega arith }
wide_open n (inr e) = record { low = omega arith; high = omega arith }

pub wide_value : IsWide 0x44332211
wide_value = record { low = omega arith; high = omega arith }

some_word : (t : Term) (filler : ℕ) → IsSome (word_of t filler) → (n : ℕ) × (word_of t filler ≡ Some n)
some_word t filler = by (word_of t filler)
  where
    by : (o : Option ℕ) → IsSome o → (n : ℕ) × (o ≡ Some n)
    by None h = absurd (false≢true h)
    by (Some n) h = (n, refl)

-- what is known of the bytes
pub record IsSpelled (o : Operation) (form : Form) (value offset : Term) (bytes : List ℕ) (filler : ℕ) : Type 0 where
  pub known : IsOpenOffset filler
  pub other : (n : ℕ) → word_of value 0x44332211 ≡ Some n → n ≡ filler → ⊥
  pub spelled : (n m : ℕ) → word_of value 0x44332211 ≡ Some n → word_of offset filler ≡ Some m → Spells bytes (instruction_of o form n m)
  pub has_value : IsSome (word_of value 0x44332211)
  pub has_offset : IsSome (word_of offset filler)

number_small : (t : Term) (filler n : ℕ) → IsSome (word_of t filler) → IsNumberOf t n → n < 2 ^ 32
number_small (Known k) filler n h is =
    let a = some_word (Known k) filler h in
    subst (λ n. n < 2 ^ 32) (sym is) (ltb-true k (2 ^ 32) (cond_some (ltb k (2 ^ 32)) k a.0 a.1).0)
number_small Open filler n h is = is

both_small : (o : Operation) (form : Form) (value offset : Term) (bytes : List ℕ) (filler : ℕ) → IsSpelled o form value offset bytes filler → (v m : ℕ) → IsNumberOf value v → IsNumberOf offset m → AreWords v m
both_small o form value offset bytes filler h v m p q = (number_small value 0x44332211 v h.has_value p, number_small offset filler m h.has_offset q)

-- the offset is known, or nothing is in memory
abbrev IsSettled : Operation → Term → Type 0
IsSettled o offset = is_put_in o offset ≡ false

-- with its own number or with another, that is the instruction
settled : (o : Operation) (form : Form) (offset : Term) (filler word v m : ℕ) → IsSettled o offset → word_of offset filler ≡ Some word → IsNumberOf offset m → instruction_of o form v word ≡ instruction_of o form v m
settled o form (Known k) filler word v m s e is = ap (instruction_of o form v) (sym (known_is k filler word e) ∙ sym is)
settled o form Open filler word v m s e is = same o form v word m s

module _ (values : WideImmediates) (offsets : WideOffsets) (o : Operation) (form : Form) where
  pub fixed : (k : ℕ) (offset : Term) (bytes : List ℕ) (filler : ℕ) → IsSettled o offset → IsSpelled o form (Known k) offset bytes filler → IsTemplate o form (Known k) offset (Fixed bytes)
  fixed k offset bytes filler s h = record {
    each = λ v m p q.
        let a = some_word (Known k) 0x44332211 h.has_value in
        let b = some_word offset filler h.has_offset in
        let own : a.0 ≡ v = sym (known_is k 0x44332211 a.0 a.1) ∙ sym p in
        subst (λ i. Spells bytes i) (ap (λ n. instruction_of o form n b.0) own ∙ settled o form offset filler b.0 v m s b.1 q) (h.spelled a.0 b.0 a.1 b.1);
    long = λ v m. refl;
    small = both_small o form (Known k) offset bytes filler h;
  }

  pub with_value : (offset : Term) (bytes : List ℕ) (filler : ℕ) → IsSettled o offset → IsSpelled o form Open offset bytes filler → IsTemplate o form Open offset (WithValue bytes)
  with_value offset bytes filler s h =
      let b = some_word offset filler h.has_offset in
      let spelled = h.spelled 0x44332211 b.0 refl b.1 in
      let f = values bytes (instruction_of o form 0x44332211 b.0) spelled (subst IsWide (sym (imm_is o form 0x44332211 b.0)) wide_value) in
      let n = (instruction_of o form 0x44332211 b.0).imm in
      let front : take (length bytes - 4) bytes ≡ f.front = ap (λ (bs : List ℕ). take (length bs - 4) bs) f.parts ∙ take_front f.front (to_le_bytes w32 n) 4 refl in
      record {
        each = λ v m p q.
            subst (λ (bs : List ℕ). Spells bs (instruction_of o form v m)) (ap (λ (bs : List ℕ). bs ++ to_le_bytes w32 v) (sym front))
            (subst (λ i. Spells (f.front ++ to_le_bytes w32 v) i) (valued_is o form 0x44332211 b.0 v ∙ settled o form offset filler b.0 v m s b.1 q) (f.each v p));
        long = λ v m. omega (arith, ap length front, ap length f.parts, length-append f.front (to_le_bytes w32 n), length-append (take (length bytes - 4) bytes) (to_le_bytes w32 v));
        small = both_small o form Open offset bytes filler h;
      }

  pub placed : (k : ℕ) (bytes : List ℕ) (filler : ℕ) → has_memory o ≡ true → IsSpelled o form (Known k) Open bytes filler → k < 2 ^ 32 → (front : List ℕ) × (back : List ℕ) × IsPlaced bytes filler k front back × ((m : ℕ) → m < 2 ^ 32 → Spells (front ++ (to_le_bytes w32 m ++ back)) (instruction_of o form k m))
  placed k bytes filler memory h low =
      let a = some_word (Known k) 0x44332211 h.has_value in
      let own = known_is k 0x44332211 a.0 a.1 in
      let spelled = subst (λ n. Spells bytes (instruction_of o form n filler)) (sym own) (h.spelled a.0 filler a.1 refl) in
      let f = offsets bytes (instruction_of o form k filler) filler spelled (memory_at o form k filler memory) (wide_open filler h.known) in (
        f.front,
        f.back,
        record {
          parts = f.parts;
          behind = subst (λ n. (length f.back ≤ 2) ⊎ (f.back ≡ to_le_bytes w32 n)) (imm_is o form k filler) f.behind;
          low = low;
          other = λ e. h.other a.0 a.1 (sym own ∙ e);
        },
        λ m small. subst (λ i. Spells (f.front ++ (to_le_bytes w32 m ++ f.back)) i) (moved o form k filler m) (f.each m small),
      )

  pub with_offset : (k : ℕ) (bytes : List ℕ) (filler behind : ℕ) → has_memory o ≡ true → IsSpelled o form (Known k) Open bytes filler → ((front back : List ℕ) (imm : ℕ) → IsPlaced bytes filler imm front back → behind ≡ length back) → IsTemplate o form (Known k) Open (WithOffset bytes behind)
  with_offset k bytes filler behind memory h found =
      let low : k < 2 ^ 32 = number_small (Known k) 0x44332211 k h.has_value refl in
      let p = placed k bytes filler memory h low in
      let front = p.0 in
      let back = p.1 in
      let is : behind ≡ length back = found front back k p.2 in
      let parts = p.2.parts in
      let middle : bytes ≡ (front ++ to_le_bytes w32 filler) ++ back = parts ∙ sym (append_assoc front (to_le_bytes w32 filler) back) in
      let long_back : behind + 4 ≡ length (to_le_bytes w32 filler ++ back) = omega (arith, is, length-append (to_le_bytes w32 filler) back) in
      let first : take (length bytes - (behind + 4)) bytes ≡ front = ap (λ (bs : List ℕ). take (length bs - (behind + 4)) bs) parts ∙ take_front front (to_le_bytes w32 filler ++ back) (behind + 4) long_back in
      let last : drop (length bytes - behind) bytes ≡ back = ap (λ (bs : List ℕ). drop (length bs - behind) bs) middle ∙ drop_front (front ++ to_le_bytes w32 filler) back behind is in
      let whole : (m : ℕ) → filled (WithOffset bytes behind) k m ≡ front ++ (to_le_bytes w32 m ++ back) = λ m. ap (λ (bs : List ℕ). bs ++ (to_le_bytes w32 m ++ drop (length bytes - behind) bytes)) first ∙ ap (λ (bs : List ℕ). front ++ (to_le_bytes w32 m ++ bs)) last in
      record {
        each = λ v m p2 q. subst (λ n. Spells (filled (WithOffset bytes behind) v m) (instruction_of o form n m)) (sym p2) (subst (λ (bs : List ℕ). Spells bs (instruction_of o form k m)) (sym (whole m)) (p.3 m q));
        long = λ v m. ap length (whole m) ∙ same_long front back m filler ∙ sym (ap length parts);
        small = both_small o form (Known k) Open bytes filler h;
      }
    where
      same_long : (front back : List ℕ) (m n : ℕ) → length (front ++ (to_le_bytes w32 m ++ back)) ≡ length (front ++ (to_le_bytes w32 n ++ back))
      same_long front back m n = omega (arith, length-append front (to_le_bytes w32 m ++ back), length-append front (to_le_bytes w32 n ++ back), length-append (to_le_bytes w32 m) back, length-append (to_le_bytes w32 n) back)

  pub with_both : (bytes : List ℕ) (filler : ℕ) → has_memory o ≡ true → IsSpelled o form Open Open bytes filler → IsTemplate o form Open Open (WithBoth bytes)
  with_both bytes filler memory h =
      let start = instruction_of o form 0x44332211 filler in
      let f = offsets bytes start filler (h.spelled 0x44332211 filler refl refl) (memory_at o form 0x44332211 filler memory) (wide_open filler h.known) in
      let imm = imm_is o form 0x44332211 filler in
      let four : f.back ≡ to_le_bytes w32 0x44332211 = f.wide (subst IsWide (sym imm) wide_value) ∙ ap (to_le_bytes w32) imm in
      let parts : bytes ≡ f.front ++ (to_le_bytes w32 filler ++ to_le_bytes w32 0x44332211) = f.parts ∙ ap (λ (back : List ℕ). f.front ++ (to_le_bytes w32 filler ++ back)) four in
      let first : take (length bytes - 8) bytes ≡ f.front = ap (λ (bs : List ℕ). take (length bs - 8) bs) parts ∙ take_front f.front (to_le_bytes w32 filler ++ to_le_bytes w32 0x44332211) 8 refl in
      let each : (v m : ℕ) → v < 2 ^ 32 → m < 2 ^ 32 → Spells (f.front ++ (to_le_bytes w32 m ++ to_le_bytes w32 v)) (instruction_of o form v m) = λ v m p q.
      let behind : (n : ℕ) → f.front ++ (to_le_bytes w32 m ++ to_le_bytes w32 n) ≡ (f.front ++ to_le_bytes w32 m) ++ to_le_bytes w32 n = λ n. sym (append_assoc f.front (to_le_bytes w32 m) (to_le_bytes w32 n)) in
      let there = subst (λ i. Spells (f.front ++ (to_le_bytes w32 m ++ f.back)) i) (moved o form 0x44332211 filler m) (f.each m q) in
      let here = subst (λ (bs : List ℕ). Spells bs (instruction_of o form 0x44332211 m)) (ap (λ (back : List ℕ). f.front ++ (to_le_bytes w32 m ++ back)) four ∙ behind 0x44332211) there in
      let g = values ((f.front ++ to_le_bytes w32 m) ++ to_le_bytes w32 0x44332211) (instruction_of o form 0x44332211 m) here (subst IsWide (sym (imm_is o form 0x44332211 m)) wide_value) in
      let own : g.front ≡ f.front ++ to_le_bytes w32 m = sym (front_is (f.front ++ to_le_bytes w32 m) g.front 0x44332211 (instruction_of o form 0x44332211 m).imm g.parts) in
      subst (λ (bs : List ℕ). Spells bs (instruction_of o form v m)) (ap (λ (bs : List ℕ). bs ++ to_le_bytes w32 v) own ∙ sym (behind v))
      (subst (λ i. Spells (g.front ++ to_le_bytes w32 v) i) (valued_is o form 0x44332211 m v) (g.each v p)) in
      record {
        each = λ v m p q. subst (λ (bs : List ℕ). Spells bs (instruction_of o form v m)) (ap (λ (bs : List ℕ). bs ++ (to_le_bytes w32 m ++ to_le_bytes w32 v)) (sym first)) (each v m p q);
        long = λ v m. omega (arith, ap length first, ap length parts, length-append f.front (to_le_bytes w32 filler ++ to_le_bytes w32 0x44332211), length-append (take (length bytes - 8) bytes) (to_le_bytes w32 m ++ to_le_bytes w32 v));
        small = both_small o form Open Open bytes filler h;
      }

  -- ---- by what the terms are

  pub both_at : (value offset : Term) (bytes : List ℕ) (filler : ℕ) → value ≡ Open → is_put_in o offset ≡ true → IsSpelled o form value offset bytes filler → IsTemplate o form value offset (WithBoth bytes)
  both_at (Known k) offset bytes filler e p h = absurd (cc)
  both_at Open (Known k) bytes filler e p h = absurd (false≢true p)
  both_at Open Open bytes filler e p h = with_both bytes filler p h

  pub value_at : (value offset : Term) (bytes : List ℕ) (filler : ℕ) → value ≡ Open → is_put_in o offset ≡ false → IsSpelled o form value offset bytes filler → IsTemplate o form value offset (WithValue bytes)
  value_at (Known k) offset bytes filler e p h = absurd (cc)
  value_at Open offset bytes filler e p h = with_value offset bytes filler p h

  pub offset_at : (value offset : Term) (k : ℕ) (bytes : List ℕ) (filler behind : ℕ) → value ≡ Known k → is_put_in o offset ≡ true → IsSpelled o form value offset bytes filler → ((front back : List ℕ) (imm : ℕ) → IsPlaced bytes filler imm front back → behind ≡ length back) → IsTemplate o form value offset (WithOffset bytes behind)
  offset_at Open offset k bytes filler behind e p h found = absurd (cc)
  offset_at (Known n) (Known m) k bytes filler behind e p h found = absurd (false≢true p)
  offset_at (Known n) Open k bytes filler behind e p h found = with_offset n bytes filler behind p h found

  pub fixed_at : (value offset : Term) (k : ℕ) (bytes : List ℕ) (filler : ℕ) → value ≡ Known k → is_put_in o offset ≡ false → IsSpelled o form value offset bytes filler → IsTemplate o form value offset (Fixed bytes)
  fixed_at Open offset k bytes filler e p h = absurd (cc)
  fixed_at (Known n) offset k bytes filler e p h = fixed n offset bytes filler p h
