-- Why an operation has no bytes, wherever labels stand.
use Rattle.std.proofs.Common.{◌≡◌, ℕ, ◌<◌, ◌≤◌, ◌^◌, ◌%◌, ◌⊎◌, inl, inr, Bool, true, false, cond, List, Option, Some, None, refl, sym, ap, ◌∙◌, subst, ltb, arith}
use Rattle.std.proofs.lemmas.Bool.{false≢true, cases_Bool, ltb-false, lt-ltb}
use Rattle.std.proofs.lemmas.Option.{cond_some}
use Rattle.ia32_decode.specs.Decoding.{Spells}
use Rattle.ia32_fields.specs.Fields.{IsWide, WideImmediates, WideOffsets}
use Rattle.asm_encode.specs.Operations.{low, instruction_of}
use Rattle.asm_encode.specs.Templates.{NoBytes, AreWords, IsAddressOf, word_of, low_of, IsZeroFault, IsNoForm, IsTooGreat, IsFaultWith, IsFault}
use Rattle.asm_encode.specs.declared.operation.Operation.{Operation}
use Rattle.asm_encode.specs.declared.forms.Form.{Form}
use Rattle.asm_encode.specs.declared.templates.Term.{Term}
use Rattle.asm_encode.specs.declared.templates.Term.TheVariants.{Known, Open}
use Rattle.asm_encode.specs.declared.templates.Fault.{Fault}
use Rattle.asm_encode.specs.declared.templates.Fault.TheVariants.{NoForm, Range}
use Rattle.asm_encode.proofs.Moved.{with_other_offset, with_other_value}

-- two numbers are the same, or both are wide
abbrev pub AreAlike : ℕ → ℕ → Type 0
AreAlike m n = (m ≡ n) ⊎ (IsWide m × IsWide n)

wide_low : (n : ℕ) → IsWide n → n < 2 ^ 32
wide_low n w = let h = w.high in omega arith

offset_alike : WideOffsets → (o : Operation) (form : Form) (v m n : ℕ) (bytes : List ℕ) → AreAlike m n → Spells bytes (instruction_of o form v m) → (other : List ℕ) × Spells other (instruction_of o form v n)
offset_alike law o form v m n bytes (inl e) h = (bytes, subst (λ k. Spells bytes (instruction_of o form v k)) e h)
offset_alike law o form v m n bytes (inr w) h = with_other_offset law o form v m n bytes h w.0 (wide_low n w.1)

value_alike : WideImmediates → (o : Operation) (form : Form) (v w m : ℕ) (bytes : List ℕ) → AreAlike v w → Spells bytes (instruction_of o form v m) → (other : List ℕ) × Spells other (instruction_of o form w m)
value_alike law o form v w m bytes (inl e) h = (bytes, subst (λ k. Spells bytes (instruction_of o form k m)) e h)
value_alike law o form v w m bytes (inr wide) h = with_other_value law o form v m w bytes h wide.0 (wide_low w wide.1)

pub both_alike : WideImmediates → WideOffsets → (o : Operation) (form : Form) (v w m n : ℕ) (bytes : List ℕ) → AreAlike v w → AreAlike m n → Spells bytes (instruction_of o form v m) → (other : List ℕ) × Spells other (instruction_of o form w n)
both_alike values offsets o form v w m n bytes p q h =
    let a = value_alike values o form v w m bytes p h in
    offset_alike offsets o form w m n a.0 q a.1

pub none_alike : WideImmediates → WideOffsets → (o : Operation) (form : Form) (v w m n : ℕ) → AreAlike w v → AreAlike n m → NoBytes (instruction_of o form v m) → NoBytes (instruction_of o form w n)
none_alike values offsets o form v w m n p q none bytes h = let a = both_alike values offsets o form w v n m bytes p q h in none a.0 a.1

-- the number that is spelled for a term is like any address that it may be
low_alike : (t : Term) (filler n : ℕ) → IsWide filler → IsAddressOf t n → AreAlike (low n) (low_of t filler)
low_alike (Known k) filler n wide is = inl (ap low is)
low_alike Open filler n wide is = inr (subst IsWide (let h = wide_low n is in omega arith) is, wide)

word_alike : (t : Term) (filler word n : ℕ) → IsWide filler → word_of t filler ≡ Some word → IsAddressOf t n → AreAlike n word
word_alike (Known k) filler word n wide e is = let s = cond_some (ltb k (2 ^ 32)) k word e in inl (is ∙ s.1)
word_alike Open filler word n wide e is = let same : filler ≡ word = cc in inr (is, subst IsWide same wide)

-- a term without a word is no number of four bytes
great : (t : Term) (filler n : ℕ) → word_of t filler ≡ None → IsAddressOf t n → n < 2 ^ 32 → ⊥
great (Known k) filler n e is h = by (ltb k (2 ^ 32)) (lt-ltb k (2 ^ 32) (subst (λ n. n < 2 ^ 32) is h)) e
  where
    by : (b : Bool) → b ≡ true → cond b (Some k) None ≡ None → ⊥
    by true p e = absurd (cc)
    by false p e = false≢true p
great Open filler n e is h = absurd (cc)

fault_from : WideImmediates → WideOffsets → (o : Operation) (form : Form) (value offset : Term) (filler : ℕ) (fault : Fault) → IsWide filler → IsZeroFault o form (low_of offset filler) fault → ((v m : ℕ) → IsAddressOf value v → IsAddressOf offset m → AreWords v m → NoBytes (instruction_of o form v m)) → IsFault o form value offset fault
fault_from values offsets o form value offset filler NoForm wide zero own v m p q = record {
  zero = none_alike values offsets o form 0 0 (low_of offset filler) (low m) (inl refl) (low_alike offset filler m wide q) zero;
  own = own v m p q;
}
fault_from values offsets o form value offset filler Range wide zero own v m p q =
    let a = both_alike values offsets o form 0 0 (low_of offset filler) (low m) zero.0 (inl refl) (flip (low_alike offset filler m wide q)) zero.1 in
    record { front = a.0; zero = a.1; own = own v m p q }
  where
    flip : {m n : ℕ} → AreAlike m n → AreAlike n m
    flip (inl e) = inl (sym e)
    flip (inr w) = inr (w.1, w.0)

-- the value has no word
pub great_value : WideImmediates → WideOffsets → (o : Operation) (form : Form) (value offset : Term) (value_filler filler : ℕ) (fault : Fault) → IsWide filler → word_of value value_filler ≡ None → IsZeroFault o form (low_of offset filler) fault → IsFault o form value offset fault
great_value values offsets o form value offset value_filler filler fault wide none zero = fault_from values offsets o form value offset filler fault wide zero (λ v m p q words. absurd (great value value_filler v none p words.0))

-- the offset has none
pub great_offset : WideImmediates → WideOffsets → (o : Operation) (form : Form) (value offset : Term) (filler : ℕ) (fault : Fault) → IsWide filler → word_of offset filler ≡ None → IsZeroFault o form (low_of offset filler) fault → IsFault o form value offset fault
great_offset values offsets o form value offset filler fault wide none zero = fault_from values offsets o form value offset filler fault wide zero (λ v m p q words. absurd (great offset filler m none q words.1))

-- no bytes spell it with the words
pub no_bytes : WideImmediates → WideOffsets → (o : Operation) (form : Form) (value offset : Term) (value_filler filler v_word m_word : ℕ) (fault : Fault) → IsWide value_filler → IsWide filler → word_of value value_filler ≡ Some v_word → word_of offset filler ≡ Some m_word → NoBytes (instruction_of o form v_word m_word) → IsZeroFault o form (low_of offset filler) fault → IsFault o form value offset fault
no_bytes values offsets o form value offset value_filler filler v_word m_word fault wide_value wide e f none zero = fault_from values offsets o form value offset filler fault wide zero
    (λ v m p q words. none_alike values offsets o form v_word v m_word m (word_alike value value_filler v_word v wide_value e p) (word_alike offset filler m_word m wide f q) none)
