-- What a line says has one made instruction, one piece of bytes and one reason to be refused.
use Rattle.std.proofs.Common.{◌≡◌, ℕ, ◌+◌, ◌*◌, ◌∷◌, List, Bool, true, false, Option, None, Some, refl, sym, ap, subst, ◌∙◌, arith}
use Rattle.std.specs.Prelude.{MatchBool, ◌==◌, if◌then◌else◌}
use Rattle.std.specs.Int.{w32, to_le_bytes}
use Rattle.asm_lines.specs.Values.{Value}
use Rattle.asm_lines.specs.Statements.{Statement}
use Rattle.asm_lines.specs.Lines.{Content, Nothing, Label, Octets, Word, Import, Instruction}
use Rattle.asm_encode.specs.Operations.{form_of}
use Rattle.asm_encode.specs.Jumps.{jump_length, displacement, jump_bytes}
use Rattle.asm_encode.specs.Templates.{filled, IsNumberOf, IsAddressOf, IsFault, IsFaultWith, IsTemplate, TemplateIsOne}
use Rattle.asm_encode.specs.declared.operation.Operation.{Operation}
use Rattle.asm_encode.specs.declared.forms.Form.{Form}
use Rattle.asm_encode.specs.declared.jumps.Jump.{Jump}
use Rattle.asm_encode.specs.declared.templates.Term.{Term}
use Rattle.asm_encode.specs.declared.templates.Term.TheVariants as terms
use Rattle.asm_encode.specs.declared.templates.Template.{Template}
use Rattle.asm_encode.specs.declared.templates.Fault.{Fault}
use Rattle.asm_encode.specs.declared.templates.Fault.TheVariants as faults
use Rattle.line_bytes.specs.Tables.{Rows}
use Rattle.line_bytes.specs.Numbers.{Numbered, numbered, number_of, number_or_0, term_of}
use Rattle.line_bytes.specs.Made.{jump_made, IsPlain, IsMadeAs, IsMade, IsMadeIn}
use Rattle.line_bytes.specs.Pieces.{IsWord, IsJumped, IsSpelled, IsFilled, IsStated, IsCall, IsPiece}
use Rattle.line_bytes.specs.Refusals.{IsBadNumber, IsBadJump, plain_jump, IsBadPlain, IsBadForm, IsBadNumbers, IsBadNumbered, IsBadContent}
use Rattle.line_bytes.specs.Excluding.{Never}
use Rattle.line_bytes.specs.declared.made.Made.{Made}
use Rattle.line_bytes.specs.declared.made.Made.TheVariants as made
use Rattle.line_bytes.specs.declared.piece.Tables.{Tables}
use Rattle.line_bytes.specs.declared.piece.Met.{Met}
use Rattle.line_bytes.specs.declared.refused.Refused.TheVariants as refused

number_is : (m n : ℕ) → ◌≡◌ {A = Option ℕ} (Some m) (Some n) → m ≡ n
number_is m n e = cc

numbered_is : (m n : Numbered) → ◌≡◌ {A = Option Numbered} (Some m) (Some n) → m ≡ n
numbered_is m n e = cc

form_is : (f g : Form) → ◌≡◌ {A = Option Form} (Some f) (Some g) → f ≡ g
form_is f g e = cc

jump_is : (i j : Jump) → ◌≡◌ {A = Option Jump} (Some i) (Some j) → i ≡ j
jump_is i j e = cc

row_is : (p q : ℕ × ℕ) → ◌≡◌ {A = Option (ℕ × ℕ)} (Some p) (Some q) → p ≡ q
row_is p q e = cc

-- ---- what is made

-- a number that a label may have
abbrev example : Term → ℕ
example (terms.Known k) = k
example terms.Open = 0x44332211

example_is : (t : Term) → IsAddressOf t (example t)
example_is (terms.Known k) = refl
example_is terms.Open = record { low = omega arith; high = omega arith }

number_of_address : (t : Term) (n : ℕ) → IsAddressOf t n → IsNumberOf t n
number_of_address (terms.Known k) n h = h
number_of_address terms.Open n h = omega (arith, h.high)

module _ (o : Operation) (form : Form) (value offset : Term) where
  faults-not : IsFault o form value offset faults.NoForm → IsFault o form value offset faults.Range → ⊥
  faults-not f g =
      let a = f (example value) (example offset) (example_is value) (example_is offset) in
      let b = g (example value) (example offset) (example_is value) (example_is offset) in
      a.zero b.front b.zero

  fault_one : (f g : Fault) → IsFault o form value offset f → IsFault o form value offset g → f ≡ g
  fault_one faults.NoForm faults.NoForm p q = refl
  fault_one faults.NoForm faults.Range p q = absurd (faults-not p q)
  fault_one faults.Range faults.NoForm p q = absurd (faults-not q p)
  fault_one faults.Range faults.Range p q = refl

  spelled-not : (f : Fault) (t : Template) → IsFaultWith o form (example value) (example offset) f → IsTemplate o form value offset t → ⊥
  spelled-not faults.NoForm t p q =
      let v = number_of_address value (example value) (example_is value) in
      let m = number_of_address offset (example offset) (example_is offset) in
      p.own (q.small (example value) (example offset) v m) (filled t (example value) (example offset)) (q.each (example value) (example offset) v m)
  spelled-not faults.Range t p q =
      let v = number_of_address value (example value) (example_is value) in
      let m = number_of_address offset (example offset) (example_is offset) in
      p.own (q.small (example value) (example offset) v m) (filled t (example value) (example offset)) (q.each (example value) (example offset) v m)

  template-not : (f : Fault) (t : Template) → IsFault o form value offset f → IsTemplate o form value offset t → ⊥
  template-not f t p q = spelled-not f t (p (example value) (example offset) (example_is value) (example_is offset)) q

plain_one : TemplateIsOne → (n : Numbered) (form : Form) (m other : Made) → IsPlain n form m → IsPlain n form other → m ≡ other
plain_one law n form (made.Faulty f) (made.Faulty g) p q = ap made.Faulty (fault_one n.operation form (term_of n.value) (term_of n.offset) f g p q)
plain_one law n form (made.Faulty f) (made.Jump j) p q = absurd q
plain_one law n form (made.Faulty f) (made.Plain t) p q = absurd (template-not n.operation form (term_of n.value) (term_of n.offset) f t p q.0)
plain_one law n form (made.Jump j) other p q = absurd p
plain_one law n form (made.Plain t) (made.Faulty f) p q = absurd (template-not n.operation form (term_of n.value) (term_of n.offset) f t q p.0)
plain_one law n form (made.Plain t) (made.Jump j) p q = absurd q
plain_one law n form (made.Plain t) (made.Plain u) p q = ap made.Plain (law n.operation form (term_of n.value) (term_of n.offset) t u p.1 q.1)

made_by : TemplateIsOne → (n : Numbered) (form : Form) (m other : Made) (b : Bool) → MatchBool b (m ≡ jump_made n.operation.prefix form.op) (IsPlain n form m) → MatchBool b (other ≡ jump_made n.operation.prefix form.op) (IsPlain n form other) → m ≡ other
made_by law n form m other true p q = p ∙ sym q
made_by law n form m other false p q = plain_one law n form m other p q

made_as : TemplateIsOne → (n : Numbered) (fo : Option Form) (m other : Made) → IsMadeAs n fo m → IsMadeAs n fo other → m ≡ other
made_as law n None m other p q = p ∙ sym q
made_as law n (Some form) m other p q = made_by law n form m other form.is_jump p q

made_of : TemplateIsOne → (n : Option Numbered) (m other : Made) → IsMade n m → IsMade n other → m ≡ other
unfolding IsMade
made_of law None m other p q = p ∙ sym q
made_of law (Some n) m other p q = made_as law n (form_of n.operation) m other p q

pub made_one : TemplateIsOne → (content : Option Content) (m other : Option Made) → IsMadeIn content m → IsMadeIn content other → m ≡ other
unfolding IsMadeIn
made_one law None m other p q = p ∙ sym q
made_one law (Some Nothing) m other p q = p ∙ sym q
made_one law (Some (Label name)) m other p q = p ∙ sym q
made_one law (Some (Octets bytes)) m other p q = p ∙ sym q
made_one law (Some (Word value)) m other p q = p ∙ sym q
made_one law (Some (Import name)) m other p q = p ∙ sym q
made_one law (Some (Instruction s)) None other p q = absurd p
made_one law (Some (Instruction s)) (Some m) None p q = absurd q
made_one law (Some (Instruction s)) (Some m) (Some other) p q = ap Some (made_of law (numbered s) m other p q)

-- ---- bytes

jumped_one : (o : Operation) (form : Form) (target at : ℕ) (piece other : List ℕ) → IsJumped o form target at piece → IsJumped o form target at other → piece ≡ other
jumped_one o form target at piece other p q =
    p.bytes ∙ ap (λ j. jump_bytes j (displacement target (at + jump_length j))) (jump_is p.jump q.jump (sym p.is ∙ q.is)) ∙ sym q.bytes

filled_one : TemplateIsOne → (n : Numbered) (form : Form) (value offset : ℕ) (piece other : List ℕ) → IsFilled n form value offset piece → IsFilled n form value offset other → piece ≡ other
filled_one law n form value offset piece other p q =
    p.bytes ∙ ap (λ t. filled t value offset) (law n.operation form (term_of n.value) (term_of n.offset) p.template q.template p.chosen q.chosen) ∙ sym q.bytes

-- the bytes of an instruction, by its parts
abbrev AreBytesBy : Numbered → Form → ℕ → ℕ → ℕ → List ℕ → Bool → Type 0
AreBytesBy n form value offset at piece b = MatchBool b (IsJumped n.operation form value at piece) (IsFilled n form value offset piece)

by_one : TemplateIsOne → (n : Numbered) (form : Form) (value offset at : ℕ) (piece other : List ℕ) (b : Bool) → AreBytesBy n form value offset at piece b → AreBytesBy n form value offset at other b → piece ≡ other
by_one law n form value offset at piece other true p q = jumped_one n.operation form value at piece other p q
by_one law n form value offset at piece other false p q = filled_one law n form value offset piece other p q

by_parts : (n : Numbered) (form : Form) (value offset at : ℕ) (piece : List ℕ) (b : Bool) → MatchBool b (IsJumped n.operation form value at piece) (IsSpelled n.operation form value offset piece) → MatchBool b (Unit {0}) (IsFilled n form value offset piece) → AreBytesBy n form value offset at piece b
by_parts n form value offset at piece true p q = p
by_parts n form value offset at piece false p q = q

stated_one : TemplateIsOne → (labels : Rows) (s : Statement) (at : ℕ) (piece other : List ℕ) → IsStated labels s at piece → IsStated labels s at other → piece ≡ other
stated_one law labels s at piece other p q =
    let n : p.numbers ≡ q.numbers = numbered_is p.numbers q.numbers (sym p.is ∙ q.is) in
    let value : p.value ≡ q.value = number_is p.value q.value (sym p.value_is ∙ ap (λ (n : Numbered). number_or_0 labels n.value) n ∙ q.value_is) in
    let offset : p.offset ≡ q.offset = number_is p.offset q.offset (sym p.offset_is ∙ ap (λ (n : Numbered). number_or_0 labels n.offset) n ∙ q.offset_is) in
    let form : p.form ≡ q.form = form_is p.form q.form (sym p.form_is ∙ ap (λ (n : Numbered). form_of n.operation) n ∙ q.form_is) in
    let one = by_parts p.numbers p.form p.value p.offset at piece p.form.is_jump p.formed p.filled in
    let two = by_parts q.numbers q.form q.value q.offset at other q.form.is_jump q.formed q.filled in
    let two_n : AreBytesBy p.numbers q.form q.value q.offset at other q.form.is_jump = subst (λ (n : Numbered). AreBytesBy n q.form q.value q.offset at other q.form.is_jump) (sym n) two in
    let two_form : AreBytesBy p.numbers p.form q.value q.offset at other p.form.is_jump = subst (λ (form : Form). AreBytesBy p.numbers form q.value q.offset at other form.is_jump) (sym form) two_n in
    let two_value : AreBytesBy p.numbers p.form p.value q.offset at other p.form.is_jump = subst (λ (value : ℕ). AreBytesBy p.numbers p.form value q.offset at other p.form.is_jump) (sym value) two_form in
    let two_offset : AreBytesBy p.numbers p.form p.value p.offset at other p.form.is_jump = subst (λ (offset : ℕ). AreBytesBy p.numbers p.form p.value offset at other p.form.is_jump) (sym offset) two_value in
    by_one law p.numbers p.form p.value p.offset at piece other p.form.is_jump one two_offset

word_one : (labels : Rows) (value : Value) (piece other : List ℕ) → IsWord labels value piece → IsWord labels value other → piece ≡ other
word_one labels value piece other p q = p.bytes ∙ ap (to_le_bytes w32) (number_is p.number q.number (sym p.is ∙ q.is)) ∙ sym q.bytes

place_is : (t : Tables) (met : ℕ) (name piece other : List ℕ) (next last : ℕ) (p : IsCall t met name piece next) (q : IsCall t met name other last) → p.place ≡ q.place
place_is t met name piece other next last p q = ap (λ (r : ℕ × ℕ). r.0) (row_is (p.place, p.number) (q.place, q.number) (sym p.row ∙ q.row))

call_one : (t : Tables) (met : ℕ) (name piece other : List ℕ) (next last : ℕ) → IsCall t met name piece next → IsCall t met name other last → (piece ≡ other) × (next ≡ last)
call_one t met name piece other next last p q =
    let place = place_is t met name piece other next last p q in (
      p.bytes ∙ ap (λ k. 0xFF ∷ 0x15 ∷ to_le_bytes w32 (t.words + 4 * k)) place ∙ sym q.bytes,
      p.count ∙ ap (λ k. if k == met then met + 1 else met) place ∙ sym q.count,
    )

met_is : (a b c d : ℕ) → a ≡ b → c ≡ d → ◌≡◌ {A = Met} (record { labels = a; imports = c }) (record { labels = b; imports = d })
met_is a b c d p q = cc

pub piece_one : TemplateIsOne → (t : Tables) (met : Met) (at : ℕ) (content : Content) (piece other : List ℕ) (next last : Met) → IsPiece t met at content piece next → IsPiece t met at content other last → (piece ≡ other) × (next ≡ last)
piece_one law t met at Nothing piece other next last p q = (p.0 ∙ sym q.0, p.1 ∙ sym q.1)
piece_one law t met at (Label name) piece other next last p q = (p.none ∙ sym q.none, met_is next.labels last.labels next.imports last.imports (p.labels ∙ sym q.labels) (p.imports ∙ sym q.imports))
piece_one law t met at (Octets bytes) piece other next last p q = (p.0 ∙ sym q.0, p.1 ∙ sym q.1)
piece_one law t met at (Word value) piece other next last p q = (word_one t.labels value piece other p.0 q.0, p.1 ∙ sym q.1)
piece_one law t met at (Import name) piece other next last p q =
    let c = call_one t met.imports name piece other next.imports last.imports p.0 q.0 in
    (c.0, met_is next.labels last.labels next.imports last.imports (p.1 ∙ sym q.1) c.1)
piece_one law t met at (Instruction s) piece other next last p q = (stated_one law t.labels s at piece other p.0 q.0, p.1 ∙ sym q.1)

-- ---- refusals

number-two : (o : Option ℕ) → IsBadNumber o refused.Line → IsBadNumber o refused.Range → ⊥
number-two None p q = q
number-two (Some n) p q = p

jump-two : (o : Option Jump) (target at : ℕ) → IsBadJump o target at refused.Line → IsBadJump o target at refused.Range → ⊥
jump-two None target at p q = q
jump-two (Some j) target at p q = p

form-two : (o : Operation) (form : Form) (value offset at : ℕ) (b : Bool) → MatchBool b (IsBadJump (plain_jump o form) value at refused.Line) (IsBadPlain o form value offset refused.Line) → MatchBool b (IsBadJump (plain_jump o form) value at refused.Range) (IsBadPlain o form value offset refused.Range) → ⊥
form-two o form value offset at true p q = jump-two (plain_jump o form) value at p q
form-two o form value offset at false p q = p.zero q.front q.zero

formed-two : (o : Operation) (fo : Option Form) (value offset at : ℕ) → IsBadForm o fo value offset at refused.Line → IsBadForm o fo value offset at refused.Range → ⊥
formed-two o None value offset at p q = q
formed-two o (Some form) value offset at p q = form-two o form value offset at form.is_jump p q

numbers-two : (o : Operation) (value offset : Option ℕ) (at : ℕ) → IsBadNumbers o value offset at refused.Line → IsBadNumbers o value offset at refused.Range → ⊥
numbers-two o None offset at p q = q
numbers-two o (Some value) None at p q = q
numbers-two o (Some value) (Some offset) at p q = formed-two o (form_of o) value offset at p q

numbered-two : (labels : Rows) (at : ℕ) (n : Option Numbered) → IsBadNumbered labels at n refused.Line → IsBadNumbered labels at n refused.Range → ⊥
unfolding IsBadNumbered
numbered-two labels at None p q = q
numbered-two labels at (Some n) p q = numbers-two n.operation (number_or_0 labels n.value) (number_or_0 labels n.offset) at p q

pub reason_one : (t : Tables) (at : ℕ) (content : Content) → IsBadContent Never Never t at content refused.Line → IsBadContent Never Never t at content refused.Range → ⊥
reason_one t at Nothing p q = p
reason_one t at (Label name) p q = p
reason_one t at (Octets bytes) p q = p
reason_one t at (Word value) p q = number-two (number_of t.labels value) p q
reason_one t at (Import name) p q = p
reason_one t at (Instruction s) p q = numbered-two t.labels at (numbered s) p q
