-- What has bytes is not refused.
use Rattle.std.proofs.Common.{◌≡◌, ℕ, ◌+◌, ◌<◌, ◌^◌, inl, inr, Bool, true, false, cond, List, Option, None, Some, refl, sym, ap, subst, ◌∙◌, arith}
use Rattle.std.specs.Prelude.{MatchBool}
use Rattle.std.proofs.lemmas.Bool.{false≢true}
use Rattle.asm_lines.specs.Lines.{Content, Nothing, Label, Octets, Word, Import, Instruction}
use Rattle.asm_encode.specs.Operations.{form_of}
use Rattle.asm_encode.specs.Jumps.{jump_of, jump_length, displacement, fits_in}
use Rattle.asm_encode.specs.declared.operation.Operation.{Operation}
use Rattle.asm_encode.specs.declared.forms.Form.{Form}
use Rattle.asm_encode.specs.declared.jumps.Jump.{Jump}
use Rattle.line_bytes.specs.Tables.{Rows}
use Rattle.line_bytes.specs.Numbers.{Numbered, number_of, number_or_0}
use Rattle.line_bytes.specs.Made.{has_prefix}
use Rattle.line_bytes.specs.Pieces.{IsJumped, IsSpelled, IsFormed, IsPiece}
use Rattle.line_bytes.specs.Refusals.{IsBadNumber, IsBadJump, plain_jump, IsBadPlain, IsBadForm, IsBadNumbers, IsBadNumbered, IsBadContent}
use Rattle.line_bytes.specs.Excluding.{Never}
use Rattle.line_bytes.specs.declared.piece.Tables.{Tables}
use Rattle.line_bytes.specs.declared.piece.Met.{Met}
use Rattle.line_bytes.specs.declared.refused.Refused.{Refused}
use Rattle.line_bytes.specs.declared.refused.Refused.TheVariants as refused

word-not : (o : Option ℕ) (n : ℕ) (why : Refused) → o ≡ Some n → n < 2 ^ 32 → IsBadNumber o why → why ≡ refused.OutOfMemory
word-not o n refused.OutOfMemory e low h = refl
word-not None n refused.Line e low h = absurd (cc)
word-not None n refused.Range e low h = absurd h
word-not (Some k) n refused.Line e low h = absurd h
word-not (Some k) n refused.Range e low h = let same : k ≡ n = cc in absurd (omega (arith, same, low, h))

fits-not : (i j : Jump) (target at : ℕ) → i ≡ j → fits_in j (displacement target (at + jump_length j)) ≡ true → fits_in i (displacement target (at + jump_length i)) ≡ false → ⊥
fits-not i j target at e f g = false≢true (sym g ∙ ap (λ k. fits_in k (displacement target (at + jump_length k))) e ∙ f)

jump-not : (o : Option Jump) (j : Jump) (target at : ℕ) (why : Refused) → o ≡ Some j → target < 2 ^ 32 → fits_in j (displacement target (at + jump_length j)) ≡ true → IsBadJump o target at why → why ≡ refused.OutOfMemory
jump-not o j target at refused.OutOfMemory e low f h = refl
jump-not None j target at refused.Line e low f h = absurd (cc)
jump-not None j target at refused.Range e low f h = absurd h
jump-not (Some i) j target at refused.Line e low f h = absurd h
jump-not (Some i) j target at refused.Range e low f (inl g) = absurd (omega (arith, low, g))
jump-not (Some i) j target at refused.Range e low f (inr g) = let same : i ≡ j = cc in absurd (fits-not i j target at same f g)

plain-jump : (b : Bool) (o : Option Jump) (j : Jump) → b ≡ false → o ≡ Some j → cond b None o ≡ Some j
plain-jump true o j p e = absurd (false≢true (sym p))
plain-jump false o j p e = e

jumped-not : (o : Operation) (form : Form) (target at : ℕ) (piece : List ℕ) (why : Refused) → IsJumped o form target at piece → IsBadJump (plain_jump o form) target at why → why ≡ refused.OutOfMemory
jumped-not o form target at piece why s h = jump-not (plain_jump o form) s.jump target at why (plain-jump (has_prefix o.prefix) (jump_of form.op) s.jump s.plain s.is) s.small s.fits h

plain-not : (o : Operation) (form : Form) (value offset : ℕ) (piece : List ℕ) (why : Refused) → IsSpelled o form value offset piece → IsBadPlain o form value offset why → why ≡ refused.OutOfMemory
plain-not o form value offset piece refused.OutOfMemory s h = refl
plain-not o form value offset piece refused.Line s h = absurd (h.own s.small piece s.spelled)
plain-not o form value offset piece refused.Range s h = absurd (h.own s.small piece s.spelled)

form-not : (o : Operation) (form : Form) (value offset at : ℕ) (piece : List ℕ) (why : Refused) (b : Bool) → MatchBool b (IsJumped o form value at piece) (IsSpelled o form value offset piece) → MatchBool b (IsBadJump (plain_jump o form) value at why) (IsBadPlain o form value offset why) → why ≡ refused.OutOfMemory
form-not o form value offset at piece why true s h = jumped-not o form value at piece why s h
form-not o form value offset at piece why false s h = plain-not o form value offset piece why s h

formed-not : (o : Operation) (form : Form) (value offset at : ℕ) (piece : List ℕ) (why : Refused) → IsFormed o form value offset at piece → IsBadForm o (Some form) value offset at why → why ≡ refused.OutOfMemory
formed-not o form value offset at piece refused.OutOfMemory s h = refl
formed-not o form value offset at piece refused.Line s h = form-not o form value offset at piece refused.Line form.is_jump s h
formed-not o form value offset at piece refused.Range s h = form-not o form value offset at piece refused.Range form.is_jump s h

numbers-not : (o : Operation) (form : Form) (value offset at : ℕ) (piece : List ℕ) (why : Refused) → form_of o ≡ Some form → IsFormed o form value offset at piece → IsBadNumbers o (Some value) (Some offset) at why → why ≡ refused.OutOfMemory
numbers-not o form value offset at piece refused.OutOfMemory e s h = refl
numbers-not o form value offset at piece refused.Line e s h = formed-not o form value offset at piece refused.Line s (subst (λ fo. IsBadForm o fo value offset at refused.Line) e h)
numbers-not o form value offset at piece refused.Range e s h = formed-not o form value offset at piece refused.Range s (subst (λ fo. IsBadForm o fo value offset at refused.Range) e h)

known-not : (n : Numbered) (v m : Option ℕ) (form : Form) (value offset at : ℕ) (piece : List ℕ) (why : Refused) → v ≡ Some value → m ≡ Some offset → form_of n.operation ≡ Some form → IsFormed n.operation form value offset at piece → IsBadNumbers n.operation v m at why → why ≡ refused.OutOfMemory
known-not n v m form value offset at piece why e g f s h = numbers-not n.operation form value offset at piece why f s (subst (λ k. IsBadNumbers n.operation (Some value) k at why) g (subst (λ k. IsBadNumbers n.operation k m at why) e h))

numbered-not : (labels : Rows) (n : Numbered) (form : Form) (value offset at : ℕ) (piece : List ℕ) (why : Refused) → number_or_0 labels n.value ≡ Some value → number_or_0 labels n.offset ≡ Some offset → form_of n.operation ≡ Some form → IsFormed n.operation form value offset at piece → IsBadNumbered labels at (Some n) why → why ≡ refused.OutOfMemory
unfolding IsBadNumbered
numbered-not labels n form value offset at piece refused.OutOfMemory e g f s h = refl
numbered-not labels n form value offset at piece refused.Line e g f s h = known-not n (number_or_0 labels n.value) (number_or_0 labels n.offset) form value offset at piece refused.Line e g f s h
numbered-not labels n form value offset at piece refused.Range e g f s h = known-not n (number_or_0 labels n.value) (number_or_0 labels n.offset) form value offset at piece refused.Range e g f s h

pub bytes_exclude : (t : Tables) (met : Met) (at : ℕ) (content : Content) (piece : List ℕ) (next : Met) (why : Refused) → IsPiece t met at content piece next → IsBadContent Never Never t at content why → why ≡ refused.OutOfMemory
bytes_exclude t met at Nothing piece next refused.OutOfMemory is h = refl
bytes_exclude t met at Nothing piece next refused.Line is h = absurd h
bytes_exclude t met at Nothing piece next refused.Range is h = absurd h
bytes_exclude t met at (Octets bytes) piece next refused.OutOfMemory is h = refl
bytes_exclude t met at (Octets bytes) piece next refused.Line is h = absurd h
bytes_exclude t met at (Octets bytes) piece next refused.Range is h = absurd h
bytes_exclude t met at (Label name) piece next refused.OutOfMemory is h = refl
bytes_exclude t met at (Label name) piece next refused.Line is h = absurd h
bytes_exclude t met at (Label name) piece next refused.Range is h = absurd h
bytes_exclude t met at (Import name) piece next refused.OutOfMemory is h = refl
bytes_exclude t met at (Import name) piece next refused.Line is h = absurd h
bytes_exclude t met at (Import name) piece next refused.Range is h = absurd h
bytes_exclude t met at (Word value) piece next why is h = word-not (number_of t.labels value) is.0.number why is.0.is is.0.fits h
bytes_exclude t met at (Instruction s) piece next why is h =
    let n = is.0 in
    numbered-not t.labels n.numbers n.form n.value n.offset at piece why n.value_is n.offset_is n.form_is n.formed (subst (λ k. IsBadNumbered t.labels at k why) n.is h)
