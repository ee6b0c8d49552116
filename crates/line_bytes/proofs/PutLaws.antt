-- Instructions that were put, by what they are wherever labels stand.
use Rattle.std.proofs.Common.{◌≡◌, ℕ, ◌+◌, ◌-◌, ◌%◌, ◌^◌, ◌<◌, ◌≤◌, ◌⊎◌, inl, inr, Bool, true, false, cond, ◌||◌, List, [], ◌∷◌, ◌++◌, length, Option, None, Some, refl, sym, ap, subst, ◌∙◌, length-append, arith}
use Rattle.std.specs.Prelude.{MatchBool, IfSome, OnOk, IfErr, Result, Ok, Err, nat_lt, nat_le}
use Rattle.std.specs.Str.{bytes_eq}
use Rattle.std.specs.Map.{lookup}
use Rattle.std.proofs.lemmas.Bool.{cond_both}
use Rattle.asm_lines.specs.Values.{Value, Number, Address}
use Rattle.asm_lines.specs.Statements.{Statement}
use Rattle.asm_lines.specs.Lines.{Instruction}
use Rattle.ia32_decode.specs.Decoding.{Spells}
use Rattle.ia32_decode.specs.Operands.{sign_extended}
use Rattle.ia32_decode.specs.declared.instruction.Op.{Op}
use Rattle.ia32_decode.specs.declared.instruction.Op.TheVariants as ops
use Rattle.ia32_fields.specs.Fields.{IsWide}
use Rattle.ia32_fields.specs.Jumps.{JumpsAreSpelled, jump as jump_to}
use Rattle.asm_encode.specs.Operations.{form_of}
use Rattle.asm_encode.specs.Jumps.{jump_of, jump_length, displacement, fits_in, jump_bytes}
use Rattle.asm_encode.specs.Templates.{filled, IsNumberOf, IsAddressOf, AreWords}
use Rattle.asm_encode.specs.declared.forms.Form.{Form}
use Rattle.asm_encode.specs.declared.jumps.Jump.{Jump}
use Rattle.asm_encode.specs.declared.jumps.Jump.TheVariants as jumps
use Rattle.asm_encode.specs.declared.templates.Term.{Term}
use Rattle.asm_encode.specs.declared.templates.Term.TheVariants as terms
use Rattle.asm_encode.specs.declared.templates.Fault.TheVariants as faults
use Rattle.line_bytes.specs.Tables.{Rows, row_of, as_row, place_of}
use Rattle.line_bytes.specs.Numbers.{Numbered, numbered, number_in, number_or_0, term_of}
use Rattle.line_bytes.specs.Made.{has_prefix, jump_in, jump_made, made_size, IsPlain, IsMadeAs, IsMade, IsMadeIn}
use Rattle.line_bytes.specs.Pieces.{Adds, IsJumped, IsSpelled, IsFilled, IsStated}
use Rattle.line_bytes.specs.Refusals.{IsBadJump, plain_jump, IsBadPlain, IsBadForm, IsBadNumbers, IsBadNumbered}
use Rattle.line_bytes.specs.Putting.{AreWide, JumpLaws, AreNumbers, IsUnnumbered, IsLed, IsPutMade, IsBadMade}
use Rattle.line_bytes.specs.Reasons.{refused_of}
use Rattle.line_bytes.specs.declared.made.Made.{Made}
use Rattle.line_bytes.specs.declared.made.Made.TheVariants as made
use Rattle.line_bytes.specs.declared.refused.Refused.{Refused}
use Rattle.line_bytes.specs.declared.refused.Refused.TheVariants as refused

-- ---- addresses

wide-lookup : (rows : Rows) (name : List ℕ) → AreWide rows → IfSome (lookup (bytes_eq name) rows) IsWide
unfolding AreWide
wide-lookup [] name h = tt
wide-lookup (row ∷ rows) name h = cond_both (bytes_eq name row.0) (Some row.1) (lookup (bytes_eq name) rows) (λ o. IfSome o IsWide) (λ e. h.0) (λ e. wide-lookup rows name h.1)

wide-row : (place number : Option ℕ) → IfSome number IsWide → IfSome (number_in (as_row place number)) IsWide
wide-row None number h = tt
wide-row (Some p) None h = tt
wide-row (Some p) (Some n) h = h

addressed : (labels : Rows) (v : Option Value) → AreWide labels → IfSome (number_or_0 labels v) (IsAddressOf (term_of v))
unfolding row_of
addressed labels None h = refl
addressed labels (Some (Number k)) h = refl
addressed labels (Some (Address name)) h = wide-row (place_of labels name) (lookup (bytes_eq name) labels) (wide-lookup labels name h)

pub address_is : (labels : Rows) (v : Option Value) (n : ℕ) → AreWide labels → number_or_0 labels v ≡ Some n → IsAddressOf (term_of v) n
address_is labels v n h e = subst (λ o. IfSome o (IsAddressOf (term_of v))) e (addressed labels v h)

number_is : (t : Term) (n : ℕ) → IsAddressOf t n → IsNumberOf t n
number_is (terms.Known k) n h = h
number_is terms.Open n h = omega (arith, h.high)

-- ---- jumps

short_is : (n : ℕ) → n < 2 ^ 32 → (nat_lt n (2 ^ 7) || nat_le (2 ^ 32 - 2 ^ 7) n) ≡ true → sign_extended (n % 2 ^ 8) ≡ n
short_is n low f = grind arith

pub jump_spelled : JumpsAreSpelled → (op : Op) (n : ℕ) → n < 2 ^ 32 → IfSome (jump_of op) (λ j. fits_in j n ≡ true → Spells (jump_bytes j n) (jump_to op n))
jump_spelled laws ops.Call n low = λ f. laws.call n low
jump_spelled laws ops.Jmp n low = λ f. laws.jmp n low
jump_spelled laws (ops.Jcc condition) n low = λ f. laws.jcc condition n low
jump_spelled laws ops.Loopne n low = λ f. subst (λ k. Spells (0xE0 ∷ n % 2 ^ 8 ∷ []) (jump_to ops.Loopne k)) (short_is n low f) (laws.loopne (n % 2 ^ 8) (omega arith))
jump_spelled laws ops.Loope n low = λ f. subst (λ k. Spells (0xE1 ∷ n % 2 ^ 8 ∷ []) (jump_to ops.Loope k)) (short_is n low f) (laws.loope (n % 2 ^ 8) (omega arith))
jump_spelled laws ops.Loop n low = λ f. subst (λ k. Spells (0xE2 ∷ n % 2 ^ 8 ∷ []) (jump_to ops.Loop k)) (short_is n low f) (laws.loop (n % 2 ^ 8) (omega arith))
jump_spelled laws ops.Jecxz n low = λ f. subst (λ k. Spells (0xE3 ∷ n % 2 ^ 8 ∷ []) (jump_to ops.Jecxz k)) (short_is n low f) (laws.jecxz (n % 2 ^ 8) (omega arith))
jump_spelled laws _ n low = tt

jump_long : (j : Jump) (n : ℕ) → length (jump_bytes j n) ≡ jump_length j
jump_long (jumps.Near opcode) n = refl
jump_long (jumps.Conditional opcode) n = refl
jump_long (jumps.Short opcode) n = refl

displacement_low : (target end : ℕ) → displacement target end < 2 ^ 32
displacement_low target end = omega arith

-- ---- what was put

-- something that is such was put
pub record IsPutAs (old new : List ℕ) (Is : List ℕ → Type 0) : Type 0 where
  pub piece : List ℕ
  pub parts : new ≡ old ++ piece
  pub is : Is piece

led : JumpsAreSpelled → (old new : List ℕ) (n : Numbered) (form : Form) (j : Jump) (target at : ℕ) → jump_of form.op ≡ Some j → has_prefix n.operation.prefix ≡ false → IsLed old new j target at → IsPutAs old new (IsJumped n.operation form target at)
led laws old new n form j target at e plain h =
    let d : ℕ = displacement target (at + jump_length j) in
    record {
      piece = jump_bytes j d;
      parts = h.parts;
      is = record {
        jump = j;
        is = e;
        plain = plain;
        small = h.small;
        fits = h.fits;
        bytes = refl;
        spelled = subst (λ k. Spells (jump_bytes j d) (jump_to form.op (displacement target (at + k)))) (sym (jump_long j d))
            (subst (λ o. IfSome o (λ i. fits_in i d ≡ true → Spells (jump_bytes i d) (jump_to form.op d))) e (jump_spelled laws form.op d (displacement_low target (at + jump_length j))) h.fits);
      };
    }

jump_put : JumpsAreSpelled → (old new : List ℕ) (n : Numbered) (form : Form) (target offset at : ℕ) (b : Bool) (o : Option Jump) → has_prefix n.operation.prefix ≡ b → jump_of form.op ≡ o → IsPutMade old new (cond b (made.Faulty faults.NoForm) (jump_in o)) target offset at → IsPutAs old new (IsJumped n.operation form target at)
unfolding IsPutMade IsBadMade IsMade IsBadNumbered
jump_put laws old new n form target offset at true o p e h = absurd h
jump_put laws old new n form target offset at false None p e h = absurd h
jump_put laws old new n form target offset at false (Some j) p e h = led laws old new n form j target at e p h

plain_put : (old new : List ℕ) (n : Numbered) (form : Form) (m : Made) (value offset at : ℕ) → IsAddressOf (term_of n.value) value → IsAddressOf (term_of n.offset) offset → IsPlain n form m → IsPutMade old new m value offset at → IsPutAs old new (λ piece. IsSpelled n.operation form value offset piece × IsFilled n form value offset piece)
unfolding IsPutMade IsBadMade IsMade IsBadNumbered
plain_put old new n form (made.Faulty fault) value offset at v o i h = absurd h
plain_put old new n form (made.Jump j) value offset at v o i h = absurd i
plain_put old new n form (made.Plain t) value offset at v o i h = record { piece = filled t value offset; parts = h; is = (record { small = i.0.small value offset (number_is (term_of n.value) value v) (number_is (term_of n.offset) offset o); spelled = i.0.each value offset (number_is (term_of n.value) value v) (number_is (term_of n.offset) offset o) }, record { template = t; chosen = i.1; bytes = refl }) }

formed : JumpsAreSpelled → (old new : List ℕ) (n : Numbered) (form : Form) (m : Made) (value offset at : ℕ) (b : Bool) → IsAddressOf (term_of n.value) value → IsAddressOf (term_of n.offset) offset → MatchBool b (m ≡ jump_made n.operation.prefix form.op) (IsPlain n form m) → IsPutMade old new m value offset at → IsPutAs old new (λ piece. MatchBool b (IsJumped n.operation form value at piece) (IsSpelled n.operation form value offset piece) × MatchBool b (Unit {0}) (IsFilled n form value offset piece))
unfolding IsPutMade IsBadMade IsMade IsBadNumbered
formed laws old new n form m value offset at true v o i h =
    let p = jump_put laws old new n form value offset at (has_prefix n.operation.prefix) (jump_of form.op) refl refl (subst (λ k. IsPutMade old new k value offset at) i h) in
    record { piece = p.piece; parts = p.parts; is = (p.is, tt) }
formed laws old new n form m value offset at false v o i h = plain_put old new n form m value offset at v o i h

stated_as : JumpsAreSpelled → (labels : Rows) (s : Statement) (old new : List ℕ) (n : Numbered) (fo : Option Form) (m : Made) (value offset at : ℕ) → numbered s ≡ Some n → number_or_0 labels n.value ≡ Some value → number_or_0 labels n.offset ≡ Some offset → AreWide labels → form_of n.operation ≡ fo → IsMadeAs n fo m → IsPutMade old new m value offset at → Adds old new (IsStated labels s at)
unfolding IsPutMade IsBadMade IsMade IsBadNumbered
stated_as laws labels s old new n None m value offset at e v o w f i h = absurd (subst (λ k. IsPutMade old new k value offset at) i h)
stated_as laws labels s old new n (Some form) m value offset at e v o w f i h =
    let p = formed laws old new n form m value offset at form.is_jump (address_is labels n.value value w v) (address_is labels n.offset offset w o) i h in
    record { piece = p.piece; parts = p.parts; is = record { numbers = n; is = e; value = value; value_is = v; offset = offset; offset_is = o; form = form; form_is = f; formed = p.is.0; filled = p.is.1 } }

pub stated : JumpsAreSpelled → (labels : Rows) (s : Statement) (old new : List ℕ) (n : Numbered) (m : Made) (value offset at : ℕ) → numbered s ≡ Some n → number_or_0 labels n.value ≡ Some value → number_or_0 labels n.offset ≡ Some offset → AreWide labels → IsMade (numbered s) m → IsPutMade old new m value offset at → Adds old new (IsStated labels s at)
unfolding IsPutMade IsBadMade IsMade IsBadNumbered
stated laws labels s old new n m value offset at e v o w i h = stated_as laws labels s old new n (form_of n.operation) m value offset at e v o w refl (subst (λ k. IsMade k m) e i) h

-- ---- how many bytes

long_plain : (old new : List ℕ) (n : Numbered) (form : Form) (m : Made) (value offset at : ℕ) → IsPlain n form m → IsPutMade old new m value offset at → length new ≡ length old + made_size m
unfolding IsPutMade IsBadMade IsMade IsBadNumbered
long_plain old new n form (made.Faulty fault) value offset at i h = absurd h
long_plain old new n form (made.Jump j) value offset at i h = absurd i
long_plain old new n form (made.Plain t) value offset at i h = ap length h ∙ length-append old (filled t value offset) ∙ ap (λ k. length old + k) (i.0.long value offset)

long_jump : (old new : List ℕ) (b : Bool) (o : Option Jump) (value offset at : ℕ) → IsPutMade old new (cond b (made.Faulty faults.NoForm) (jump_in o)) value offset at → length new ≡ length old + made_size (cond b (made.Faulty faults.NoForm) (jump_in o))
unfolding IsPutMade IsBadMade IsMade IsBadNumbered
long_jump old new true o value offset at h = absurd h
long_jump old new false None value offset at h = absurd h
long_jump old new false (Some j) value offset at h =
    let d : ℕ = displacement value (at + jump_length j) in
    ap length h.parts ∙ length-append old (jump_bytes j d) ∙ ap (λ k. length old + k) (jump_long j d)

long_form : (old new : List ℕ) (n : Numbered) (form : Form) (m : Made) (value offset at : ℕ) (b : Bool) → MatchBool b (m ≡ jump_made n.operation.prefix form.op) (IsPlain n form m) → IsPutMade old new m value offset at → length new ≡ length old + made_size m
unfolding IsPutMade IsBadMade IsMade IsBadNumbered
long_form old new n form m value offset at true i h = subst (λ k. length new ≡ length old + made_size k) (sym i) (long_jump old new (has_prefix n.operation.prefix) (jump_of form.op) value offset at (subst (λ k. IsPutMade old new k value offset at) i h))
long_form old new n form m value offset at false i h = long_plain old new n form m value offset at i h

long_as : (old new : List ℕ) (n : Numbered) (fo : Option Form) (m : Made) (value offset at : ℕ) → IsMadeAs n fo m → IsPutMade old new m value offset at → length new ≡ length old + made_size m
unfolding IsPutMade IsBadMade IsMade IsBadNumbered
long_as old new n None m value offset at i h = absurd (subst (λ k. IsPutMade old new k value offset at) i h)
long_as old new n (Some form) m value offset at i h = long_form old new n form m value offset at form.is_jump i h

pub put_long : (old new : List ℕ) (n : Option Numbered) (m : Made) (value offset at : ℕ) → IsMade n m → IsPutMade old new m value offset at → length new ≡ length old + made_size m
unfolding IsPutMade IsBadMade IsMade IsBadNumbered
put_long old new None m value offset at i h = absurd (subst (λ k. IsPutMade old new k value offset at) i h)
put_long old new (Some n) m value offset at i h = long_as old new n (form_of n.operation) m value offset at i h

-- ---- why nothing was put

bad_jump : (b : Bool) (o : Option Jump) (value offset at : ℕ) (why : Refused) → IsBadMade (cond b (made.Faulty faults.NoForm) (jump_in o)) value offset at why → IsBadJump (cond b None o) value at why
unfolding IsPutMade IsBadMade IsMade IsBadNumbered
bad_jump true o value offset at refused.OutOfMemory h = tt
bad_jump true o value offset at refused.Line h = tt
bad_jump true o value offset at refused.Range h = absurd (cc)
bad_jump false None value offset at refused.OutOfMemory h = tt
bad_jump false None value offset at refused.Line h = tt
bad_jump false None value offset at refused.Range h = absurd (cc)
bad_jump false (Some j) value offset at why h = h

too_great : {v o : ℕ} → AreWords v o → (2 ^ 32 ≤ v) ⊎ (2 ^ 32 ≤ o) → ⊥
too_great h (inl g) = omega (arith, h.0, g)
too_great h (inr g) = omega (arith, h.1, g)

bad_plain : (n : Numbered) (form : Form) (m : Made) (value offset at : ℕ) (why : Refused) → IsAddressOf (term_of n.value) value → IsAddressOf (term_of n.offset) offset → IsPlain n form m → IsBadMade m value offset at why → IsBadPlain n.operation form value offset why
unfolding IsPutMade IsBadMade IsMade IsBadNumbered
bad_plain n form m value offset at refused.OutOfMemory v o i h = tt
bad_plain n form (made.Faulty faults.NoForm) value offset at refused.Line v o i h = i value offset v o
bad_plain n form (made.Faulty faults.NoForm) value offset at refused.Range v o i h = absurd (cc)
bad_plain n form (made.Faulty faults.Range) value offset at refused.Line v o i h = absurd (cc)
bad_plain n form (made.Faulty faults.Range) value offset at refused.Range v o i h = i value offset v o
bad_plain n form (made.Jump j) value offset at why v o i h = absurd i
bad_plain n form (made.Plain t) value offset at refused.Line v o i h = absurd (too_great (i.0.small value offset (number_is (term_of n.value) value v) (number_is (term_of n.offset) offset o)) h)
bad_plain n form (made.Plain t) value offset at refused.Range v o i h = absurd (too_great (i.0.small value offset (number_is (term_of n.value) value v) (number_is (term_of n.offset) offset o)) h)

bad_form : (n : Numbered) (form : Form) (m : Made) (value offset at : ℕ) (why : Refused) (b : Bool) → IsAddressOf (term_of n.value) value → IsAddressOf (term_of n.offset) offset → MatchBool b (m ≡ jump_made n.operation.prefix form.op) (IsPlain n form m) → IsBadMade m value offset at why → MatchBool b (IsBadJump (plain_jump n.operation form) value at why) (IsBadPlain n.operation form value offset why)
unfolding IsPutMade IsBadMade IsMade IsBadNumbered
bad_form n form m value offset at why true v o i h = bad_jump (has_prefix n.operation.prefix) (jump_of form.op) value offset at why (subst (λ k. IsBadMade k value offset at why) i h)
bad_form n form m value offset at why false v o i h = bad_plain n form m value offset at why v o i h

bad_as : (n : Numbered) (fo : Option Form) (m : Made) (value offset at : ℕ) (why : Refused) → IsAddressOf (term_of n.value) value → IsAddressOf (term_of n.offset) offset → IsMadeAs n fo m → IsBadMade m value offset at why → IsBadForm n.operation fo value offset at why
unfolding IsPutMade IsBadMade IsMade IsBadNumbered
bad_as n fo m value offset at refused.OutOfMemory v o i h = tt
bad_as n None m value offset at refused.Line v o i h = tt
bad_as n None m value offset at refused.Range v o i h = let no : refused.Range ≡ refused_of faults.NoForm = subst (λ k. IsBadMade k value offset at refused.Range) i h in absurd (cc)
bad_as n (Some form) m value offset at refused.Line v o i h = bad_form n form m value offset at refused.Line form.is_jump v o i h
bad_as n (Some form) m value offset at refused.Range v o i h = bad_form n form m value offset at refused.Range form.is_jump v o i h

bad_numbers : (n : Numbered) (m : Made) (value offset at : ℕ) (why : Refused) → IsAddressOf (term_of n.value) value → IsAddressOf (term_of n.offset) offset → IsMadeAs n (form_of n.operation) m → IsBadMade m value offset at why → IsBadNumbers n.operation (Some value) (Some offset) at why
unfolding IsPutMade IsBadMade IsMade IsBadNumbered
bad_numbers n m value offset at refused.OutOfMemory v o i h = tt
bad_numbers n m value offset at refused.Line v o i h = bad_as n (form_of n.operation) m value offset at refused.Line v o i h
bad_numbers n m value offset at refused.Range v o i h = bad_as n (form_of n.operation) m value offset at refused.Range v o i h

numbers_bad : (labels : Rows) (n : Numbered) (at : ℕ) (why : Refused) → IsBadNumbers n.operation (number_or_0 labels n.value) (number_or_0 labels n.offset) at why → IsBadNumbered labels at (Some n) why
unfolding IsPutMade IsBadMade IsMade IsBadNumbered
numbers_bad labels n at refused.OutOfMemory h = tt
numbers_bad labels n at refused.Line h = h
numbers_bad labels n at refused.Range h = h

pub bad : (labels : Rows) (s : Statement) (n : Numbered) (m : Made) (value offset at : ℕ) (why : Refused) → numbered s ≡ Some n → number_or_0 labels n.value ≡ Some value → number_or_0 labels n.offset ≡ Some offset → AreWide labels → IsMade (numbered s) m → IsBadMade m value offset at why → IsBadNumbered labels at (numbered s) why
unfolding IsPutMade IsBadMade IsMade IsBadNumbered
bad labels s n m value offset at why e v o w i h =
    let both : IsBadNumbers n.operation (number_or_0 labels n.value) (number_or_0 labels n.offset) at why = rw (v, o) (bad_numbers n m value offset at why (address_is labels n.value value w v) (address_is labels n.offset offset w o) (subst (λ k. IsMade k m) e i) h) in
    subst (λ k. IsBadNumbered labels at k why) (sym e) (numbers_bad labels n at why both)

-- a label that there is not
offset_unknown : (v : Option ℕ) (n : Numbered) (at : ℕ) → IsBadNumbers n.operation v None at refused.Line
offset_unknown None n at = tt
offset_unknown (Some v) n at = tt

pub bad_value : (labels : Rows) (s : Statement) (n : Numbered) (at : ℕ) → numbered s ≡ Some n → number_or_0 labels n.value ≡ None → IsBadNumbered labels at (numbered s) refused.Line
unfolding IsPutMade IsBadMade IsMade IsBadNumbered
bad_value labels s n at e v = subst (λ k. IsBadNumbered labels at k refused.Line) (sym e) (subst (λ k. IsBadNumbers n.operation k (number_or_0 labels n.offset) at refused.Line) (sym v) tt)

pub bad_offset : (labels : Rows) (s : Statement) (n : Numbered) (at : ℕ) → numbered s ≡ Some n → number_or_0 labels n.offset ≡ None → IsBadNumbered labels at (numbered s) refused.Line
unfolding IsPutMade IsBadMade IsMade IsBadNumbered
bad_offset labels s n at e v = subst (λ k. IsBadNumbered labels at k refused.Line) (sym e) (subst (λ k. IsBadNumbers n.operation (number_or_0 labels n.value) k at refused.Line) (sym v) (offset_unknown (number_or_0 labels n.value) n at))

-- ---- by the records of what is put

pub made_is : (s : Statement) (m : Made) → IsMadeIn (Some (Instruction s)) (Some m) → IsMade (numbered s) m
unfolding IsMadeIn
made_is s m h = h

pub made_none : (s : Statement) → IsMadeIn (Some (Instruction s)) None → ⊥
unfolding IsMadeIn
made_none s h = h

pub stated_with : JumpLaws → (labels : Rows) (s : Statement) (old new : List ℕ) (m : Made) (value offset at : ℕ) → AreNumbers labels s value offset → AreWide labels → IsMadeIn (Some (Instruction s)) (Some m) → IsPutMade old new m value offset at → Adds old new (IsStated labels s at)
unfolding JumpLaws
stated_with laws labels s old new m value offset at n w i h = stated laws labels s old new n.numbers m value offset at n.is n.value_is n.offset_is w (made_is s m i) h

pub long_with : (s : Statement) (old new : List ℕ) (m : Made) (value offset at : ℕ) → IsMadeIn (Some (Instruction s)) (Some m) → IsPutMade old new m value offset at → length new ≡ length old + made_size m
long_with s old new m value offset at i h = put_long old new (numbered s) m value offset at (made_is s m i) h

pub bad_with : (labels : Rows) (s : Statement) (m : Made) (value offset at : ℕ) (why : Refused) → AreNumbers labels s value offset → AreWide labels → IsMadeIn (Some (Instruction s)) (Some m) → IsBadMade m value offset at why → IsBadNumbered labels at (numbered s) why
bad_with labels s m value offset at why n w i h = bad labels s n.numbers m value offset at why n.is n.value_is n.offset_is w (made_is s m i) h

no_numbers : (labels : Rows) (s : Statement) (at : ℕ) → numbered s ≡ None → IsBadNumbered labels at (numbered s) refused.Line
unfolding IsBadNumbered
no_numbers labels s at e = subst (λ k. IsBadNumbered labels at k refused.Line) (sym e) tt

pub unnumbered : (labels : Rows) (s : Statement) → numbered s ≡ None → IsUnnumbered labels s
unfolding IsUnnumbered
unnumbered labels s e at = no_numbers labels s at e

pub unvalued : (labels : Rows) (s : Statement) (n : Numbered) → numbered s ≡ Some n → number_or_0 labels n.value ≡ None → IsUnnumbered labels s
unfolding IsUnnumbered
unvalued labels s n e v at = bad_value labels s n at e v

pub unplaced : (labels : Rows) (s : Statement) (n : Numbered) → numbered s ≡ Some n → number_or_0 labels n.offset ≡ None → IsUnnumbered labels s
unfolding IsUnnumbered
unplaced labels s n e v at = bad_offset labels s n at e v

pub line_bad : (labels : Rows) (s : Statement) (at : ℕ) → IsUnnumbered labels s → IsBadNumbered labels at (numbered s) refused.Line
unfolding IsUnnumbered
line_bad labels s at h = h at

pub wanting_bad : (labels : Rows) (s : Statement) (at : ℕ) → IsBadNumbered labels at (numbered s) refused.OutOfMemory
unfolding IsBadNumbered
wanting_bad labels s at = tt

-- ---- results

pub on_ok : {A E P Q : Type 0} (r : Result A E) → (P → Q) → OnOk r P → OnOk r Q
on_ok (Ok x) f h = f h
on_ok (Err e) f h = tt

pub if_err : {A E : Type 0} {P Q : E → Type 0} (r : Result A E) → ((e : E) → P e → Q e) → IfErr r P → IfErr r Q
if_err (Ok x) f h = tt
if_err (Err e) f h = f e h
