-- The parts that are chosen for an immediate and for an operand spell it, and there are some where anything spells it.
use Rattle.std.proofs.Common.{◌≡◌, ℕ, zero, suc, ◌+◌, ◌*◌, ◌-◌, ◌/◌, ◌%◌, ◌^◌, ◌<◌, ◌≤◌, ◌⊎◌, inl, inr, Bool, true, false, cond, not, ◌&&◌, List, [], ◌∷◌, ◌++◌, Option, Some, None, refl, sym, ap, ◌∙◌, subst, ⊎_elim, append-nil, eqb, ltb, arith}
use Rattle.std.specs.Prelude.{option_to_list}
use Rattle.std.specs.Int.{w32, to_le_bytes}
use Rattle.std.proofs.lemmas.Bool.{false≢true, cond-true, cond-false, eq-eqb, eqb-true, eqb-false, lt-ltb, ltb-true, and_parts, and_from, not-true, cases_Bool, false_from_ne_true}
use Rattle.std.proofs.lemmas.Option.{cond_some}
use Rattle.codes.specs.NumberLaws.{octet_spells, octet_fits, little_endian_2_spells, little_endian_2_fits, little_endian_4_spells}
use Rattle.ia32_decode.specs.Operands.{sign_extended, signed_byte, displacement, based, index_of, scale_of, place, offset_alone, immediate}
use Rattle.ia32_decode.specs.Encoding.{number_bytes, immediate_number, scale_field, index_field, mode_of, base_field, is_none, joined, both_fields, place_fields, offset_fields, IsLowNumber}
use Rattle.ia32_decode.specs.declared.instruction.Operand.{Operand}
use Rattle.ia32_decode.specs.declared.instruction.Operand.TheVariants as operands
use Rattle.ia32_decode.specs.declared.forms.Immediate.{Immediate}
use Rattle.ia32_decode.specs.declared.forms.Immediate.TheVariants as immediates
use Rattle.ia32_decode.specs.declared.encoding.Number.{Number}
use Rattle.ia32_decode.specs.declared.encoding.Number.TheVariants as numbers
use Rattle.ia32_decode.specs.declared.encoding.Fields.{Fields}
use Rattle.ia32_decode.specs.declared.encoding.Based.{Based}

-- ---- immediates

signed_byte_spells : (n : ℕ) → eqb (sign_extended (n % 2 ^ 8)) n ≡ true → signed_byte.spells (n % 2 ^ 8 ∷ []) n
unfolding signed_byte
signed_byte_spells n h = (n % 2 ^ 8 ∷ [], n % 2 ^ 8, [], octet_spells (n % 2 ^ 8) (omega arith), (refl, sym (eqb-true (sign_extended (n % 2 ^ 8)) n h)), refl)

sign_extended-low : (x : ℕ) → x < 2 ^ 8 → sign_extended x % 2 ^ 8 ≡ x
sign_extended-low x h = elim (cases_Bool (ltb x (2 ^ 7))) [
  | inl e ↦ ap (λ n. n % 2 ^ 8) (cond-true (ltb x (2 ^ 7)) x (x + (2 ^ 32 - 2 ^ 8)) e) ∙ omega arith
  | inr e ↦ ap (λ n. n % 2 ^ 8) (cond-false (ltb x (2 ^ 7)) x (x + (2 ^ 32 - 2 ^ 8)) e) ∙ omega arith
]

signed_byte_is : (bytes : List ℕ) (n : ℕ) → signed_byte.spells bytes n → eqb (sign_extended (n % 2 ^ 8)) n ≡ true
unfolding signed_byte
signed_byte_is bytes n h =
    let low = octet_fits h.0 h.1 h.3 in
    eq-eqb (sign_extended (n % 2 ^ 8)) n (ap (λ m. sign_extended (m % 2 ^ 8)) h.4.1 ∙ ap sign_extended (sign_extended-low h.1 low) ∙ sym h.4.1)

-- a number that a test lets through
along : (P : Number → Type 0) (b : Bool) (x y : Number) → cond b (Some x) None ≡ Some y → (b ≡ true → P x) → P y
along P b x y e h = let s = cond_some b x y e in subst P s.1 (h s.0)

some_is : (P : Number → Type 0) (x y : Number) → ◌≡◌ {A = Option Number} (Some x) (Some y) → P x → P y
some_is P x y e h = let same : x ≡ y = cc in subst P same h

pub immediate_spelled : (kind : Immediate) (short : Bool) (n : ℕ) (m : Number) → immediate_number kind short n ≡ Some m → IsLowNumber m → (immediate kind short).spells (number_bytes m) n
unfolding immediate immediate_number
immediate_spelled immediates.Absent short n m e = along (λ m. IsLowNumber m → (immediate immediates.Absent short).spells (number_bytes m) n) (eqb n 0) numbers.Absent m e (λ h low. (refl, eqb-true n 0 h))
immediate_spelled immediates.One short n m e = along (λ m. IsLowNumber m → (immediate immediates.One short).spells (number_bytes m) n) (eqb n 1) numbers.Absent m e (λ h low. (refl, eqb-true n 1 h))
immediate_spelled immediates.Byte short n m e = along (λ m. IsLowNumber m → (immediate immediates.Byte short).spells (number_bytes m) n) (ltb n (2 ^ 8)) (numbers.Byte n) m e (λ h low. octet_spells n low)
immediate_spelled immediates.SignedByte short n m e = along (λ m. IsLowNumber m → (immediate immediates.SignedByte short).spells (number_bytes m) n) (eqb (sign_extended (n % 2 ^ 8)) n) (numbers.Byte (n % 2 ^ 8)) m e (λ h low. signed_byte_spells n h)
immediate_spelled immediates.Word short n m e = along (λ m. IsLowNumber m → (immediate immediates.Word short).spells (number_bytes m) n) (ltb n (2 ^ 16)) (numbers.Word n) m e (λ h low. little_endian_2_spells n low)
immediate_spelled immediates.OperandSize true n m e = along (λ m. IsLowNumber m → (immediate immediates.OperandSize true).spells (number_bytes m) n) (ltb n (2 ^ 16)) (numbers.Word n) m e (λ h low. inl (refl, little_endian_2_spells n low))
immediate_spelled immediates.OperandSize false n m e = some_is (λ m. IsLowNumber m → (immediate immediates.OperandSize false).spells (number_bytes m) n) (numbers.Doubleword n) m e (λ low. inr (refl, little_endian_4_spells n low))
immediate_spelled immediates.Doubleword short n m e = some_is (λ m. IsLowNumber m → (immediate immediates.Doubleword short).spells (number_bytes m) n) (numbers.Doubleword n) m e (λ low. little_endian_4_spells n low)

pub immediate_found : (kind : Immediate) (short : Bool) (bytes : List ℕ) (n : ℕ) → (immediate kind short).spells bytes n → (m : Number) × (immediate_number kind short n ≡ Some m)
unfolding immediate immediate_number
immediate_found immediates.Absent short bytes n h = (numbers.Absent, cond-true (eqb n 0) _ _ (eq-eqb n 0 h.1))
immediate_found immediates.One short bytes n h = (numbers.Absent, cond-true (eqb n 1) _ _ (eq-eqb n 1 h.1))
immediate_found immediates.Byte short bytes n h = (numbers.Byte n, cond-true (ltb n (2 ^ 8)) _ _ (lt-ltb n (2 ^ 8) (octet_fits bytes n h)))
immediate_found immediates.SignedByte short bytes n h = (numbers.Byte (n % 2 ^ 8), cond-true (eqb (sign_extended (n % 2 ^ 8)) n) _ _ (signed_byte_is bytes n h))
immediate_found immediates.Word short bytes n h = (numbers.Word n, cond-true (ltb n (2 ^ 16)) _ _ (lt-ltb n (2 ^ 16) (little_endian_2_fits bytes n h)))
immediate_found immediates.OperandSize true bytes n h = (numbers.Word n, cond-true (ltb n (2 ^ 16)) _ _ (lt-ltb n (2 ^ 16) (⊎_elim (λ s. little_endian_2_fits bytes n s.1) (λ s. absurd (false≢true (sym s.0))) h)))
immediate_found immediates.OperandSize false bytes n h = (numbers.Doubleword n, refl)
immediate_found immediates.Doubleword short bytes n h = (numbers.Doubleword n, refl)

-- ---- an index

record IsIndex (index : Option ℕ) (scale field : ℕ) : Type 0 where
  low : field < 32
  index_is : (base : ℕ) → base < 8 → index_of (8 * field + base) ≡ index
  scale_is : (base : ℕ) → base < 8 → scale_of (8 * field + base) ≡ scale
  plain : is_none index ≡ true → scale ≡ 1

plain_index : IsIndex None 1 4
plain_index = record {
  low = omega arith;
  index_is = λ base h. cond-true (eqb ((8 * 4 + base) / 8 % 8) 4) _ _ (eq-eqb _ _ (omega arith));
  scale_is = λ base h. cond-true (eqb ((8 * 4 + base) / 8 % 8) 4) _ _ (eq-eqb _ _ (omega arith));
  plain = λ e. refl;
}

eqb-apart : (a b : ℕ) → (a ≡ b → ⊥) → eqb a b ≡ false
eqb-apart a b h = false_from_ne_true (eqb a b) (λ e. h (eqb-true a b e))

some_index : (k index : ℕ) → k < 4 → index < 8 → (index ≡ 4 → ⊥) → IsIndex (Some index) (2 ^ k) (8 * k + index)
some_index k index p q r = record {
  low = omega arith;
  index_is = λ base h.
      let field : (8 * (8 * k + index) + base) / 8 % 8 ≡ index = omega arith in
      ap (λ n. cond (eqb n 4) None (Some n)) field ∙ cond-false (eqb index 4) _ _ (eqb-apart index 4 r);
  scale_is = λ base h.
      let field : (8 * (8 * k + index) + base) / 8 % 8 ≡ index = omega arith in
      let power : (8 * (8 * k + index) + base) / 64 ≡ k = omega arith in
      ap (λ n. cond (eqb n 4) 1 (2 ^ ((8 * (8 * k + index) + base) / 64))) field ∙ cond-false (eqb index 4) _ _ (eqb-apart index 4 r) ∙ ap (λ n. 2 ^ n) power;
  plain = λ e. absurd (false≢true e);
}

power_index : (k index scale field : ℕ) → k < 4 → index < 8 → (index ≡ 4 → ⊥) → scale ≡ 2 ^ k → field ≡ 8 * k + index → IsIndex (Some index) scale field
power_index k index scale field p q r s t = rw (s, t) (some_index k index p q r)

cond_or : {A : Type 0} (b : Bool) (x z : A) (y : Option A) → cond b (Some x) y ≡ Some z → ((b ≡ true) × (x ≡ z)) ⊎ ((b ≡ false) × (y ≡ Some z))
cond_or true x z y e = inl (refl, cc)
cond_or false x z y e = inr (refl, e)

cond_none : {A : Type 0} (b : Bool) (x : Option A) (z : A) → cond b x None ≡ Some z → (b ≡ true) × (x ≡ Some z)
cond_none true x z e = (refl, e)
cond_none false x z e = cc

scaled : (index scale field : ℕ) → index < 8 → (index ≡ 4 → ⊥) → scale_field index scale ≡ Some field → IsIndex (Some index) scale field
scaled index scale field p q e = ⊎_elim
    (λ s. power_index 0 index scale field (omega arith) p q (eqb-true scale 1 s.0) (let f = s.1 in omega arith))
    (λ s. ⊎_elim
    (λ s. power_index 1 index scale field (omega arith) p q (eqb-true scale 2 s.0) (let f = s.1 in omega arith))
    (λ s. ⊎_elim
    (λ s. power_index 2 index scale field (omega arith) p q (eqb-true scale 4 s.0) (let f = s.1 in omega arith))
    (λ s. let t = cond_some (eqb scale 8) (24 + index) field s.1 in power_index 3 index scale field (omega arith) p q (eqb-true scale 8 t.0) (let f = t.1 in omega arith))
    (cond_or (eqb scale 4) (16 + index) field _ s.1))
    (cond_or (eqb scale 2) (8 + index) field _ s.1))
    (cond_or (eqb scale 1) index field _ e)

index_spelled : (index : Option ℕ) (scale field : ℕ) → index_field index scale ≡ Some field → IsIndex index scale field
unfolding index_field
index_spelled None scale field e =
    let s = cond_some (eqb scale 1) 4 field e in
    let one : scale ≡ 1 = eqb-true scale 1 s.0 in
    rw (one, ← s.1) plain_index
index_spelled (Some index) scale field e =
    let s = cond_none (ltb index 8 && not (eqb index 4)) (scale_field index scale) field e in
    let tests = and_parts (ltb index 8) (not (eqb index 4)) s.0 in
    scaled index scale field (ltb-true index 8 tests.0) (eqb-false index 4 (not-true (eqb index 4) tests.1)) s.1

power_found : (index power : ℕ) → power < 4 → (field : ℕ) × (scale_field index (2 ^ power) ≡ Some field)
power_found index zero h = (index, refl)
power_found index (suc zero) h = (8 + index, refl)
power_found index (suc (suc zero)) h = (16 + index, refl)
power_found index (suc (suc (suc zero))) h = (24 + index, refl)
power_found index (suc (suc (suc (suc n)))) h = absurd (omega arith)

index_found : (sib : ℕ) → sib < 2 ^ 8 → (field : ℕ) × (index_field (index_of sib) (scale_of sib) ≡ Some field)
unfolding index_field
index_found sib h = elim (cases_Bool (eqb (sib / 8 % 8) 4)) [
  | inl e ↦ (4, ap (λ i. index_field i (scale_of sib)) (cond-true (eqb (sib / 8 % 8) 4) None (Some (sib / 8 % 8)) e) ∙ cond-true (eqb (scale_of sib) 1) _ _ (eq-eqb (scale_of sib) 1 (cond-true (eqb (sib / 8 % 8) 4) 1 (2 ^ (sib / 64)) e)))
  | inr e ↦
      let f = power_found (sib / 8 % 8) (sib / 64) (omega arith) in
      let low : ltb (sib / 8 % 8) 8 ≡ true = lt-ltb (sib / 8 % 8) 8 (omega arith) in
      let tests : (ltb (sib / 8 % 8) 8 && not (eqb (sib / 8 % 8) 4)) ≡ true = and_from _ _ low (ap not e) in
      (f.0, ap (λ i. index_field i (scale_of sib)) (cond-false (eqb (sib / 8 % 8) 4) None (Some (sib / 8 % 8)) e) ∙ cond-true (ltb (sib / 8 % 8) 8 && not (eqb (sib / 8 % 8) 4)) _ _ tests ∙ ap (scale_field (sib / 8 % 8)) (cond-false (eqb (sib / 8 % 8) 4) 1 (2 ^ (sib / 64)) e) ∙ f.1)
]

plain_field : index_field None 1 ≡ Some 4
unfolding index_field
plain_field = refl

-- ---- a base

record IsBased (base : Option ℕ) (offset : ℕ) (b : Based) : Type 0 where
  mode : b.mode < 3
  low : b.base < 8
  spelled : IsLowNumber b.displacement → (index : Option ℕ) (scale : ℕ) → (based b.mode b.base index scale).spells (number_bytes b.displacement) (operands.Place base index scale offset)

mode_based : (base offset : ℕ) → base < 8 → IsBased (Some base) offset (mode_of base offset)
unfolding based displacement
mode_based base offset p = elim (cases_Bool (eqb offset 0 && not (eqb base 5))) [
  | inl e ↦
      let tests = and_parts (eqb offset 0) (not (eqb base 5)) e in
      let apart : eqb base 5 ≡ false = not-true (eqb base 5) tests.1 in
      rw (cond-true (eqb offset 0 && not (eqb base 5)) _ _ e) (record {
        mode = omega arith;
        low = p;
        spelled = λ low index scale. inr (apart, ([], offset, [], inl (refl, (refl, eqb-true offset 0 tests.0)), (refl, refl), refl));
      })
  | inr e ↦ elim (cases_Bool (eqb (sign_extended (offset % 2 ^ 8)) offset)) [
    | inl f ↦ rw (cond-false (eqb offset 0 && not (eqb base 5)) _ _ e, cond-true (eqb (sign_extended (offset % 2 ^ 8)) offset) _ _ f) (record {
      mode = omega arith;
      low = p;
      spelled = λ low index scale. inr (refl, (offset % 2 ^ 8 ∷ [], offset, [], inr (refl, inl (refl, signed_byte_spells offset f)), (refl, refl), refl));
    })
    | inr f ↦ rw (cond-false (eqb offset 0 && not (eqb base 5)) _ _ e, cond-false (eqb (sign_extended (offset % 2 ^ 8)) offset) _ _ f) (record {
      mode = omega arith;
      low = p;
      spelled = λ low index scale. inr (refl, (to_le_bytes w32 offset, offset, [], inr (refl, inr (refl, little_endian_4_spells offset low)), (refl, refl), sym (append-nil (to_le_bytes w32 offset))));
    })
  ]
]

base_spelled : (base : Option ℕ) (offset : ℕ) (b : Based) → base_field base offset ≡ Some b → IsBased base offset b
unfolding base_field based
base_spelled None offset b e =
    let same : record { mode = 0; base = 5; displacement = numbers.Doubleword offset } ≡ b = cc in
    subst (IsBased None offset) same (record {
      mode = omega arith;
      low = omega arith;
      spelled = λ low index scale. inl (refl, (to_le_bytes w32 offset, offset, [], little_endian_4_spells offset low, (refl, refl), sym (append-nil (to_le_bytes w32 offset))));
    })
base_spelled (Some base) offset b e =
    let s = cond_some (ltb base 8) (mode_of base offset) b e in
    subst (IsBased (Some base) offset) s.1 (mode_based base offset (ltb-true base 8 s.0))

-- ---- a register or memory

-- the fields name the operand, with this reg field
pub record IsPlace (rm : Operand) (reg : ℕ) (f : Fields) : Type 0 where
  pub modrm : ℕ
  pub is : f.modrm ≡ Some modrm
  pub reg_is : modrm / 8 % 8 ≡ reg
  pub spelled : IsLowNumber f.displacement → (place modrm).spells (option_to_list f.sib ++ number_bytes f.displacement) rm
  pub memory : (modrm < 0xC0) ⊎ ((r : ℕ) × (rm ≡ operands.Reg r))

plain_place : (m mode base : ℕ) (bytes : List ℕ) (rm : Operand) → m / 64 ≡ mode → m % 8 ≡ base → (mode ≡ 3 → ⊥) → (base ≡ 4 → ⊥) → (based mode base None 1).spells bytes rm → (place m).spells bytes rm
unfolding place
plain_place m mode base bytes rm p q r s h = inr (eqb-apart (m / 64) 3 (λ e. r (sym p ∙ e)), inr (eqb-apart (m % 8) 4 (λ e. s (sym q ∙ e)), rw (p, q) h))

sib_place : (m mode sib base : ℕ) (index : Option ℕ) (scale : ℕ) (bytes : List ℕ) (rm : Operand) → m / 64 ≡ mode → m % 8 ≡ 4 → (mode ≡ 3 → ⊥) → sib < 2 ^ 8 → sib % 8 ≡ base → index_of sib ≡ index → scale_of sib ≡ scale → (based mode base index scale).spells bytes rm → (place m).spells (sib ∷ bytes) rm
unfolding place
sib_place m mode sib base index scale bytes rm p q r low s t u h = inr (eqb-apart (m / 64) 3 (λ e. r (sym p ∙ e)), inl (eq-eqb (m % 8) 4 q, (sib ∷ [], sib, bytes, octet_spells sib low, along_sib, refl)))
  where
    along_sib : (based (m / 64) (sib % 8) (index_of sib) (scale_of sib)).spells bytes rm
    along_sib = rw (p, s, t, u) h

none_is : (index : Option ℕ) → is_none index ≡ true → index ≡ None
none_is None e = refl
none_is (Some index) e = absurd (false≢true e)

joined_spelled : (reg : ℕ) (base index : Option ℕ) (scale offset field : ℕ) (b : Based) → reg < 8 → IsIndex index scale field → IsBased base offset b → IsPlace (operands.Place base index scale offset) reg (joined reg (is_none index) field b)
unfolding joined
joined_spelled reg base index scale offset field b p i d =
    let mode = d.mode in
    let base_low = d.low in
    elim (cases_Bool (is_none index && not (eqb b.base 4))) [
      | inl e ↦
          let tests = and_parts (is_none index) (not (eqb b.base 4)) e in
          let apart : b.base ≡ 4 → ⊥ = eqb-false b.base 4 (not-true (eqb b.base 4) tests.1) in
          let none = none_is index tests.0 in
          let one = i.plain tests.0 in
          rw (cond-true (is_none index && not (eqb b.base 4)) _ _ e) (record {
            modrm = 64 * b.mode + 8 * reg + b.base;
            is = refl;
            reg_is = omega arith;
            spelled = λ low. plain_place (64 * b.mode + 8 * reg + b.base) b.mode b.base (number_bytes b.displacement) _ (omega arith) (omega arith) (λ e. omega arith) apart (rw (none, one) (d.spelled low None 1));
            memory = inl (omega arith);
          })
      | inr e ↦
          let field_low = i.low in
          rw (cond-false (is_none index && not (eqb b.base 4)) _ _ e) (record {
            modrm = 64 * b.mode + 8 * reg + 4;
            is = refl;
            reg_is = omega arith;
            spelled = λ low. sib_place (64 * b.mode + 8 * reg + 4) b.mode (8 * field + b.base) b.base index scale (number_bytes b.displacement) _ (omega arith) (omega arith) (λ e. omega arith) (omega arith) (omega arith) (i.index_is b.base base_low) (i.scale_is b.base base_low) (d.spelled low index scale);
            memory = inl (omega arith);
          })
    ]

both_are : (reg : ℕ) (plain : Bool) (field : Option ℕ) (b : Option Based) (f : Fields) → both_fields reg plain field b ≡ Some f → (i : ℕ) × (d : Based) × (field ≡ Some i) × (b ≡ Some d) × (joined reg plain i d ≡ f)
both_are reg plain None b f e = cc
both_are reg plain (Some i) None f e = cc
both_are reg plain (Some i) (Some d) f e = (i, d, refl, refl, cc)

register_place : (r reg : ℕ) → reg < 8 → r < 8 → IsPlace (operands.Reg r) reg (record { modrm = Some (192 + 8 * reg + r); sib = None; displacement = numbers.Absent })
unfolding place
register_place r reg p q = record {
  modrm = 192 + 8 * reg + r;
  is = refl;
  reg_is = omega arith;
  spelled = λ low. inl (eq-eqb ((192 + 8 * reg + r) / 64) 3 (omega arith), (refl, ap operands.Reg (omega arith)));
  memory = inr (r, refl);
}

pub place_spelled : (rm : Operand) (reg : ℕ) (f : Fields) → reg < 8 → place_fields rm reg ≡ Some f → IsPlace rm reg f
unfolding place_fields
place_spelled operands.Absent reg f p e = cc
place_spelled operands.Imm reg f p e = cc
place_spelled (operands.Reg r) reg f p e =
    let s = cond_some (ltb r 8) (record { modrm = Some (192 + 8 * reg + r); sib = None; displacement = numbers.Absent }) f e in
    subst (IsPlace (operands.Reg r) reg) s.1 (register_place r reg p (ltb-true r 8 s.0))
place_spelled (operands.Place base index scale offset) reg f p e =
    let s = both_are reg (is_none index) (index_field index scale) (base_field base offset) f e in
    subst (IsPlace (operands.Place base index scale offset) reg) s.4 (joined_spelled reg base index scale offset s.0 s.1 p (index_spelled index scale s.0 s.2) (base_spelled base offset s.1 s.3))

-- ---- there are some fields where anything spells the operand

both_some : (reg : ℕ) (plain : Bool) (field : Option ℕ) (b : Option Based) (i : ℕ) (d : Based) → field ≡ Some i → b ≡ Some d → both_fields reg plain field b ≡ Some (joined reg plain i d)
both_some reg plain field b i d p q = rw (p, q) refl

pub record IsNamed (modrm : ℕ) (rm : Operand) (reg : ℕ) : Type 0 where
  pub fields : Fields
  pub found : place_fields rm reg ≡ Some fields
  pub memory : (r : ℕ) → rm ≡ operands.Reg r → 0xC0 ≤ modrm

based_named : (modrm mode base reg : ℕ) (index : Option ℕ) (scale field : ℕ) (bytes : List ℕ) (rm : Operand) → base < 8 → index_field index scale ≡ Some field → (based mode base index scale).spells bytes rm → IsNamed modrm rm reg
unfolding based place_fields base_field
based_named modrm mode base reg index scale field bytes rm low e (inl h) = record {
  fields = joined reg (is_none index) field (record { mode = 0; base = 5; displacement = numbers.Doubleword h.1.1 });
  found = rw h.1.4.1 (both_some reg (is_none index) _ _ field _ e refl);
  memory = λ r same. absurd (let other = h.1.4.1 in cc);
}
based_named modrm mode base reg index scale field bytes rm low e (inr h) = record {
  fields = joined reg (is_none index) field (mode_of base h.1.1);
  found = rw h.1.4.1 (both_some reg (is_none index) _ _ field _ e (cond-true (ltb base 8) _ _ (lt-ltb base 8 low)));
  memory = λ r same. absurd (let other = h.1.4.1 in cc);
}

pub place_named : (modrm reg : ℕ) (bytes : List ℕ) (rm : Operand) → (place modrm).spells bytes rm → IsNamed modrm rm reg
unfolding place place_fields
place_named modrm reg bytes rm (inl h) = record {
  fields = record { modrm = Some (192 + 8 * reg + modrm % 8); sib = None; displacement = numbers.Absent };
  found = rw h.1.1 (cond-true (ltb (modrm % 8) 8) _ _ (lt-ltb (modrm % 8) 8 (omega arith)));
  memory = λ r same. let mode = eqb-true (modrm / 64) 3 h.0 in omega arith;
}
place_named modrm reg bytes rm (inr (apart, inl h)) =
    let sib = h.1.1 in
    let low = octet_fits h.1.0 sib h.1.3 in
    let f = index_found sib low in
    based_named modrm (modrm / 64) (sib % 8) reg (index_of sib) (scale_of sib) f.0 h.1.2 rm (omega arith) f.1 h.1.4
place_named modrm reg bytes rm (inr (apart, inr h)) = based_named modrm (modrm / 64) (modrm % 8) reg None 1 4 bytes rm (omega arith) plain_field h.1

-- ---- an offset alone

pub offset_spelled : (rm : Operand) (f : Fields) → offset_fields rm ≡ Some f → IsLowNumber f.displacement → (f.modrm ≡ None) × (f.sib ≡ None) × offset_alone.spells (number_bytes f.displacement) rm
unfolding offset_fields offset_alone
offset_spelled operands.Absent f e low = cc
offset_spelled operands.Imm f e low = cc
offset_spelled (operands.Reg r) f e low = cc
offset_spelled (operands.Place (Some base) index scale offset) f e low = cc
offset_spelled (operands.Place None (Some index) scale offset) f e low = cc
offset_spelled (operands.Place None None scale offset) f e low =
    let s = cond_some (eqb scale 1) (record { modrm = None; sib = None; displacement = numbers.Doubleword offset }) f e in
    let fits : offset < 2 ^ 32 = subst (λ (f : Fields). IsLowNumber f.displacement) (sym s.1) low in
    subst (λ (f : Fields). (f.modrm ≡ None) × (f.sib ≡ None) × offset_alone.spells (number_bytes f.displacement) (operands.Place None None scale offset)) s.1 (refl, refl, (to_le_bytes w32 offset, offset, [], little_endian_4_spells offset fits, (refl, ap (λ n. operands.Place None None n offset) (eqb-true scale 1 s.0)), sym (append-nil (to_le_bytes w32 offset))))

pub offset_found : (offset : ℕ) → offset_fields (operands.Place None None 1 offset) ≡ Some (record { modrm = None; sib = None; displacement = numbers.Doubleword offset })
unfolding offset_fields
offset_found offset = refl

-- memory at 0
pub default_named : (modrm reg : ℕ) → IsNamed modrm (operands.Place None None 1 0) reg
unfolding place_fields base_field
default_named modrm reg = record {
  fields = joined reg true 4 (record { mode = 0; base = 5; displacement = numbers.Doubleword 0 });
  found = both_some reg true _ _ 4 _ plain_field refl;
  memory = λ r same. cc;
}
