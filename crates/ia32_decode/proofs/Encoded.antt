-- What `encode` chooses spells the instruction, and it chooses something where anything does.
use Rattle.std.proofs.Common.{◌≡◌, ℕ, ◌/◌, ◌%◌, ◌^◌, ◌<◌, ◌⊎◌, inl, inr, Bool, true, false, cond, List, [], ◌∷◌, ◌++◌, Option, Some, None, refl, sym, ap, ◌∙◌, subst, ⊎_elim, append-nil, arith}
use Rattle.std.specs.Prelude.{option_to_list, unwrap_or, slice_index_or}
use Rattle.std.specs.List.{AllByRecursion}
use Rattle.std.proofs.lemmas.Bool.{false≢true, cond-true, cond-false, lt-ltb, ltb-true, and_parts, and_from, or_cases, or_left, or_right, cases_Bool, agree_below_at}
use Rattle.ia32_decode.specs.Operands.{place, offset_alone, immediate}
use Rattle.ia32_decode.specs.Rows.{operand_of, built, allows, fits, may_fit, ending, after_modrm, by_modrm, at_offset, addressed}
use Rattle.ia32_decode.specs.Opcodes.{rows_of, row_of, first_of, second_of, behind_opcode, extended, after_first, body}
use Rattle.ia32_decode.specs.Prefixes.{is_prefix, set_of, AreOnce, IsPrefixed}
use Rattle.ia32_decode.specs.Decoding.{Spells}
use Rattle.ia32_decode.specs.Encoding.{number_bytes, prefix_bytes, one_if, tail_bytes, bytes_of, immediate_number, place_fields, offset_fields, fields_of, is_rm, is_reg, rm_among, rm_at, rm_of, register_of, reg_of, IsTail, IsTailOf, IsGroupTail, IsEntryTail, IsFormat, entry_of, prefixes_of, IsLowNumber, IsLowByte, IsLow}
use Rattle.ia32_decode.specs.declared.prefixes.Prefixes.{Prefixes}
use Rattle.ia32_decode.specs.declared.instruction.Instr.{Instr}
use Rattle.ia32_decode.specs.declared.instruction.Operand.{Operand}
use Rattle.ia32_decode.specs.declared.instruction.Operand.TheVariants as operands
use Rattle.ia32_decode.specs.declared.instruction.Repeat.{Repeat}
use Rattle.ia32_decode.specs.declared.instruction.Repeat.TheVariants as repeats
use Rattle.ia32_decode.specs.declared.forms.Addressing.{Addressing}
use Rattle.ia32_decode.specs.declared.forms.Addressing.TheVariants as addressings
use Rattle.ia32_decode.specs.declared.forms.Source.{Source}
use Rattle.ia32_decode.specs.declared.forms.Source.TheVariants as sources
use Rattle.ia32_decode.specs.declared.forms.Form.{Form}
use Rattle.ia32_decode.specs.declared.rows.Row.{Row}
use Rattle.ia32_decode.specs.declared.rows.Group.{Group}
use Rattle.ia32_decode.specs.declared.rows.Group.TheVariants as groups
use Rattle.ia32_decode.specs.declared.rows.Entry.{Entry}
use Rattle.ia32_decode.specs.declared.rows.Entry.TheVariants as entries
use Rattle.ia32_decode.specs.declared.encoding.Number.{Number}
use Rattle.ia32_decode.specs.declared.encoding.Number.TheVariants as numbers
use Rattle.ia32_decode.specs.declared.encoding.Fields.{Fields}
use Rattle.ia32_decode.specs.declared.encoding.Tail.{Tail}
use Rattle.ia32_decode.specs.declared.encoding.Format.{Format}
use Rattle.ia32_decode.proofs.Parts.{allows_fits, fits_memory}
use Rattle.ia32_decode.proofs.EncodedParts.{immediate_spelled, immediate_found, place_spelled, IsNamed, place_named, default_named, offset_spelled, offset_found}

-- ---- what is chosen spells it

ending_spelled : (prefixes : Prefixes) (opcode : ℕ) (row : Row) (m : ℕ) (rm : Operand) (v : Instr) (bytes : List ℕ) → (immediate row.form.immediate prefixes.operand_size).spells bytes v.imm → built prefixes opcode row m rm v.imm ≡ v → (ending prefixes opcode row m rm).spells bytes v
unfolding ending
ending_spelled prefixes opcode row m rm v bytes h is = (bytes, v.imm, [], h, (refl, sym is), sym (append-nil bytes))

modrm_spelled : (prefixes : Prefixes) (opcode : ℕ) (row : Row) (m : ℕ) (rm : Operand) (v : Instr) (row_at : ℕ → Option Row) (front back : List ℕ) → m < 2 ^ 8 → row_at m ≡ Some row → fits prefixes row m ≡ true → (place m).spells front rm → (immediate row.form.immediate prefixes.operand_size).spells back v.imm → built prefixes opcode row m rm v.imm ≡ v → (by_modrm prefixes opcode row_at).spells (m ∷ (front ++ back)) v
unfolding by_modrm
modrm_spelled prefixes opcode row m rm v row_at front back low at fit h i is = (m ∷ [], m, front ++ back, (low, ap (λ r. may_fit prefixes r m) at ∙ fit, refl), subst (λ r. (after_modrm prefixes opcode m r).spells (front ++ back) v) (sym at) (front, rm, back, h, ending_spelled prefixes opcode row m rm v back i is, refl), refl)

record IsLowTail (tail : Tail) : Type 0 where
  modrm : IsLowByte tail.fields.modrm
  displacement : IsLowNumber tail.fields.displacement
  immediate : IsLowNumber tail.immediate

named_spelled : (prefixes : Prefixes) (opcode : ℕ) (row : Row) (reg : ℕ) (v : Instr) (tail : Tail) (row_at : ℕ → Option Row) → reg < 8 → IsLowTail tail → IsTail prefixes opcode row reg v tail → place_fields (rm_of row.form v) reg ≡ Some tail.fields → ((m : ℕ) → m / 8 % 8 ≡ reg → row_at m ≡ Some row) → (by_modrm prefixes opcode row_at).spells (tail_bytes tail) v
named_spelled prefixes opcode row reg v tail row_at p low t e at =
    let s = place_spelled (rm_of row.form v) reg tail.fields p e in
    let m = s.modrm in
    let fit : fits prefixes row m ≡ true = subst (λ o. fits prefixes row (unwrap_or o 0) ≡ true) s.is t.fits in
    let is : built prefixes opcode row m (rm_of row.form v) v.imm ≡ v = subst (λ o. built prefixes opcode row (unwrap_or o 0) (rm_of row.form v) v.imm ≡ v) s.is t.is in
    let byte : m < 2 ^ 8 = subst IsLowByte s.is low.modrm in
    subst (λ o. (by_modrm prefixes opcode row_at).spells (option_to_list o ++ option_to_list tail.fields.sib ++ number_bytes tail.fields.displacement ++ number_bytes tail.immediate) v) (sym s.is)
    (modrm_spelled prefixes opcode row m (rm_of row.form v) v row_at (option_to_list tail.fields.sib ++ number_bytes tail.fields.displacement) (number_bytes tail.immediate) byte (at m s.reg_is) fit (s.spelled low.displacement) (immediate_spelled row.form.immediate prefixes.operand_size v.imm tail.immediate t.number low.immediate) is)

bare_is : (f : Fields) → ◌≡◌ {A = Option Fields} (Some (record { modrm = None; sib = None; displacement = numbers.Absent })) (Some f) → record { modrm = None; sib = None; displacement = numbers.Absent } ≡ f
bare_is f e = cc

addressed_spelled : (prefixes : Prefixes) (opcode : ℕ) (row : Row) (reg : ℕ) (v : Instr) (tail : Tail) (kind : Addressing) → row.form.addressing ≡ kind → reg < 8 → IsLowTail tail → IsTail prefixes opcode row reg v tail → fields_of kind (rm_at kind row.form v) reg ≡ Some tail.fields → rm_of row.form v ≡ rm_at kind row.form v → (addressed prefixes opcode row kind).spells (tail_bytes tail) v
unfolding at_offset
addressed_spelled prefixes opcode row reg v tail addressings.Any k p low t e r = named_spelled prefixes opcode row reg v tail (λ _. Some row) p low t (ap (λ rm. place_fields rm reg) r ∙ e) (λ m h. refl)
addressed_spelled prefixes opcode row reg v tail addressings.Memory k p low t e r = named_spelled prefixes opcode row reg v tail (λ _. Some row) p low t (ap (λ rm. place_fields rm reg) r ∙ e) (λ m h. refl)
addressed_spelled prefixes opcode row reg v tail addressings.Absent k p low t e r =
    let f = bare_is tail.fields e in
    let is : built prefixes opcode row 0 operands.Absent v.imm ≡ v = subst (λ (f : Fields). built prefixes opcode row (unwrap_or f.modrm 0) operands.Absent v.imm ≡ v) (sym f) (subst (λ rm. built prefixes opcode row (unwrap_or tail.fields.modrm 0) rm v.imm ≡ v) r t.is) in
    let i = immediate_spelled row.form.immediate prefixes.operand_size v.imm tail.immediate t.number low.immediate in
    subst (λ (f : Fields). (addressed prefixes opcode row addressings.Absent).spells (option_to_list f.modrm ++ option_to_list f.sib ++ number_bytes f.displacement ++ number_bytes tail.immediate) v) f
    (inl (allows_fits prefixes row _ t.fits, ending_spelled prefixes opcode row 0 operands.Absent v (number_bytes tail.immediate) i is))
addressed_spelled prefixes opcode row reg v tail addressings.Offset k p low t e r =
    let rm = rm_at addressings.Offset row.form v in
    let s = offset_spelled rm tail.fields e low.displacement in
    let is : built prefixes opcode row 0 rm v.imm ≡ v = subst (λ o. built prefixes opcode row (unwrap_or o 0) rm v.imm ≡ v) s.0 (subst (λ rm. built prefixes opcode row (unwrap_or tail.fields.modrm 0) rm v.imm ≡ v) r t.is) in
    let i = immediate_spelled row.form.immediate prefixes.operand_size v.imm tail.immediate t.number low.immediate in
    subst (λ o. (addressed prefixes opcode row addressings.Offset).spells (option_to_list o ++ option_to_list tail.fields.sib ++ number_bytes tail.fields.displacement ++ number_bytes tail.immediate) v) (sym s.0)
    (subst (λ (o : Option ℕ). (addressed prefixes opcode row addressings.Offset).spells (option_to_list o ++ number_bytes tail.fields.displacement ++ number_bytes tail.immediate) v) (sym s.1)
    (inl (allows_fits prefixes row _ t.fits, (number_bytes tail.fields.displacement, rm, number_bytes tail.immediate, s.2, ending_spelled prefixes opcode row 0 rm v (number_bytes tail.immediate) i is, refl))))

rm_of-is : (form : Form) (v : Instr) → rm_of form v ≡ rm_at form.addressing form v
unfolding rm_of
rm_of-is form v = refl

pub tail_of_row : (prefixes : Prefixes) (opcode : ℕ) (group_row : Option Row) (reg : ℕ) (v : Instr) (tail : Tail) → IsTailOf prefixes opcode group_row reg v tail → (row : Row) × (group_row ≡ Some row) × IsTail prefixes opcode row reg v tail
tail_of_row prefixes opcode None reg v tail h = absurd h
tail_of_row prefixes opcode (Some row) reg v tail h = (row, refl, h)

-- ---- every row of a group has a ModRM byte

abbrev pub uses_modrm : Addressing → Bool
uses_modrm addressings.Any = true
uses_modrm addressings.Memory = true
uses_modrm addressings.Absent = false
uses_modrm addressings.Offset = false

abbrev has_modrm : Option Row → Bool
has_modrm None = true
has_modrm (Some row) = uses_modrm row.form.addressing

abbrev has_modrm_at : Group → ℕ → Bool
has_modrm_at group reg = has_modrm (slice_index_or (rows_of group) reg None)

group_has_modrm : (group : Group) (reg : ℕ) → reg < 8 → has_modrm_at group reg ≡ true
unfolding rows_of
group_has_modrm groups.At80 reg h = agree_below_at (has_modrm_at groups.At80) (λ _. true) 8 reg refl h
group_has_modrm groups.At81 reg h = agree_below_at (has_modrm_at groups.At81) (λ _. true) 8 reg refl h
group_has_modrm groups.At83 reg h = agree_below_at (has_modrm_at groups.At83) (λ _. true) 8 reg refl h
group_has_modrm groups.At8F reg h = agree_below_at (has_modrm_at groups.At8F) (λ _. true) 8 reg refl h
group_has_modrm groups.AtC0 reg h = agree_below_at (has_modrm_at groups.AtC0) (λ _. true) 8 reg refl h
group_has_modrm groups.AtC1 reg h = agree_below_at (has_modrm_at groups.AtC1) (λ _. true) 8 reg refl h
group_has_modrm groups.AtC6 reg h = agree_below_at (has_modrm_at groups.AtC6) (λ _. true) 8 reg refl h
group_has_modrm groups.AtC7 reg h = agree_below_at (has_modrm_at groups.AtC7) (λ _. true) 8 reg refl h
group_has_modrm groups.AtD0 reg h = agree_below_at (has_modrm_at groups.AtD0) (λ _. true) 8 reg refl h
group_has_modrm groups.AtD1 reg h = agree_below_at (has_modrm_at groups.AtD1) (λ _. true) 8 reg refl h
group_has_modrm groups.AtD2 reg h = agree_below_at (has_modrm_at groups.AtD2) (λ _. true) 8 reg refl h
group_has_modrm groups.AtD3 reg h = agree_below_at (has_modrm_at groups.AtD3) (λ _. true) 8 reg refl h
group_has_modrm groups.AtF6 reg h = agree_below_at (has_modrm_at groups.AtF6) (λ _. true) 8 reg refl h
group_has_modrm groups.AtF7 reg h = agree_below_at (has_modrm_at groups.AtF7) (λ _. true) 8 reg refl h
group_has_modrm groups.AtFE reg h = agree_below_at (has_modrm_at groups.AtFE) (λ _. true) 8 reg refl h
group_has_modrm groups.AtFF reg h = agree_below_at (has_modrm_at groups.AtFF) (λ _. true) 8 reg refl h
group_has_modrm groups.At0FBA reg h = agree_below_at (has_modrm_at groups.At0FBA) (λ _. true) 8 reg refl h

pub modrm_fields : (kind : Addressing) (rm : Operand) (reg : ℕ) → uses_modrm kind ≡ true → fields_of kind rm reg ≡ place_fields rm reg
modrm_fields addressings.Any rm reg h = refl
modrm_fields addressings.Memory rm reg h = refl
modrm_fields addressings.Absent rm reg h = absurd (false≢true h)
modrm_fields addressings.Offset rm reg h = absurd (false≢true h)

modrm_rm : (kind : Addressing) (form : Form) (v : Instr) → uses_modrm kind ≡ true → rm_at kind form v ≡ rm_among form v.first v.second
modrm_rm addressings.Any form v h = refl
modrm_rm addressings.Memory form v h = refl
modrm_rm addressings.Absent form v h = absurd (false≢true h)
modrm_rm addressings.Offset form v h = absurd (false≢true h)

-- ---- entries

group_spelled : (prefixes : Prefixes) (opcode : ℕ) (group : Group) (v : Instr) (tail : Tail) → IsLowTail tail → IsGroupTail prefixes opcode (rows_of group) v tail → (by_modrm prefixes opcode (row_of group)).spells (tail_bytes tail) v
group_spelled prefixes opcode group v tail low g =
    let r = tail_of_row prefixes opcode (slice_index_or (rows_of group) g.reg None) g.reg v tail g.at in
    let uses : uses_modrm r.0.form.addressing ≡ true = subst (λ row. has_modrm row ≡ true) r.1 (group_has_modrm group g.reg g.within) in
    named_spelled prefixes opcode r.0 g.reg v tail (row_of group) g.within low r.2 (sym (modrm_fields r.0.form.addressing (rm_of r.0.form v) g.reg uses) ∙ r.2.fields) (λ m h. ap (λ k. slice_index_or (rows_of group) k None) h ∙ r.1)

register_low : (o : Operand) → register_of o < 8
register_low (operands.Reg r) = omega arith
register_low operands.Absent = omega arith
register_low (operands.Place base index scale offset) = omega arith
register_low operands.Imm = omega arith

cond_low : (b : Bool) (x y : ℕ) → x < 8 → y < 8 → cond b x y < 8
cond_low true x y p q = p
cond_low false x y p q = q

pub reg_low : (form : Form) (v : Instr) → reg_of form v < 8
unfolding reg_of
reg_low form v = cond_low (is_reg form.first) _ _ (register_low v.first) (cond_low (is_reg form.second) _ _ (register_low v.second) (omega arith))

entry_spelled : (prefixes : Prefixes) (opcode : ℕ) (entry : Entry) (v : Instr) (tail : Tail) → IsLowTail tail → IsEntryTail prefixes opcode entry v tail → (behind_opcode prefixes opcode entry).spells (tail_bytes tail) v
unfolding behind_opcode
entry_spelled prefixes opcode entries.Outside v tail low t = absurd t
entry_spelled prefixes opcode entries.Escape v tail low t = absurd t
entry_spelled prefixes opcode (entries.One row) v tail low t = addressed_spelled prefixes opcode row (reg_of row.form v) v tail row.form.addressing refl (reg_low row.form v) low t (ap (λ rm. fields_of row.form.addressing rm (reg_of row.form v)) (sym (rm_of-is row.form v)) ∙ t.fields) (rm_of-is row.form v)
entry_spelled prefixes opcode (entries.Group group) v tail low t = group_spelled prefixes opcode group v tail low t

after_first_spelled : (prefixes : Prefixes) (opcode : ℕ) (entry : Entry) (v : Instr) (tail : Tail) → IsLowTail tail → IsEntryTail prefixes opcode entry v tail → (after_first prefixes opcode entry).spells (tail_bytes tail) v
after_first_spelled prefixes opcode entries.Outside v tail low t = absurd t
after_first_spelled prefixes opcode entries.Escape v tail low t = absurd t
after_first_spelled prefixes opcode (entries.One row) v tail low t = entry_spelled prefixes opcode (entries.One row) v tail low t
after_first_spelled prefixes opcode (entries.Group group) v tail low t = entry_spelled prefixes opcode (entries.Group group) v tail low t

-- ---- opcodes and prefixes

escape_is : first_of 0x0F ≡ entries.Escape
unfolding first_of
escape_is = refl

body_spelled : (prefixes : Prefixes) (second : Bool) (opcode : ℕ) (v : Instr) (tail : Tail) → opcode < 2 ^ 8 → IsLowTail tail → IsEntryTail prefixes opcode (entry_of second opcode) v tail → (body prefixes).spells (one_if second 0x0F ++ (opcode ∷ tail_bytes tail)) v
unfolding body extended
body_spelled prefixes true opcode v tail p low t = (omega arith, subst (λ entry. (after_first prefixes 0x0F entry).spells (opcode ∷ tail_bytes tail) v) (sym escape_is) (p, entry_spelled prefixes opcode (second_of opcode) v tail low t))
body_spelled prefixes false opcode v tail p low t = (p, after_first_spelled prefixes opcode (first_of opcode) v tail low t)

abbrev set : Bool → Bool → Repeat → Prefixes
set short lock repeat = record { operand_size = short; lock = lock; repeat = repeat }

record AreAll (prefixes : Prefixes) : Type 0 where
  each : AllByRecursion (λ b. is_prefix b ≡ true) (prefix_bytes prefixes)
  once : AreOnce (prefix_bytes prefixes)
  is : set_of (prefix_bytes prefixes) ≡ prefixes

all_prefixes : (short lock : Bool) (repeat : Repeat) → AreAll (set short lock repeat)
all_prefixes true true repeats.Absent = record { each = (refl, (refl, tt)); once = (refl, (refl, tt)); is = refl }
all_prefixes true true repeats.F2 = record { each = (refl, (refl, (refl, tt))); once = (refl, (refl, (refl, tt))); is = refl }
all_prefixes true true repeats.F3 = record { each = (refl, (refl, (refl, tt))); once = (refl, (refl, (refl, tt))); is = refl }
all_prefixes true false repeats.Absent = record { each = (refl, tt); once = (refl, tt); is = refl }
all_prefixes true false repeats.F2 = record { each = (refl, (refl, tt)); once = (refl, (refl, tt)); is = refl }
all_prefixes true false repeats.F3 = record { each = (refl, (refl, tt)); once = (refl, (refl, tt)); is = refl }
all_prefixes false true repeats.Absent = record { each = (refl, tt); once = (refl, tt); is = refl }
all_prefixes false true repeats.F2 = record { each = (refl, (refl, tt)); once = (refl, (refl, tt)); is = refl }
all_prefixes false true repeats.F3 = record { each = (refl, (refl, tt)); once = (refl, (refl, tt)); is = refl }
all_prefixes false false repeats.Absent = record { each = tt; once = tt; is = refl }
all_prefixes false false repeats.F2 = record { each = (refl, tt); once = (refl, tt); is = refl }
all_prefixes false false repeats.F3 = record { each = (refl, tt); once = (refl, tt); is = refl }

pub format_spelled : (format : Format) (v : Instr) → IsLow format → IsFormat v format → Spells (bytes_of format) v
format_spelled format v low t =
    let p = format.prefixes in
    let a = all_prefixes p.operand_size p.lock p.repeat in
    let b = body_spelled p format.second format.opcode v format.tail low.opcode (record { modrm = low.modrm; displacement = low.displacement; immediate = low.immediate }) t in
    record {
      prefixes = prefix_bytes p;
      rest = one_if format.second 0x0F ++ (format.opcode ∷ tail_bytes format.tail);
      parts = refl;
      each = a.each;
      once = a.once;
      spelled = subst (λ prefixes. (body prefixes).spells (one_if format.second 0x0F ++ (format.opcode ∷ tail_bytes format.tail)) v) (sym a.is) b;
    }

-- ---- where anything spells the instruction, something is chosen

operand_same : (s : Source) (opcode m n : ℕ) (rm other : Operand) → (is_rm s ≡ true → rm ≡ other) → (is_reg s ≡ true → m / 8 % 8 ≡ n / 8 % 8) → operand_of s opcode m rm ≡ operand_of s opcode n other
operand_same sources.Absent opcode m n rm other p q = refl
operand_same sources.Rm opcode m n rm other p q = p refl
operand_same sources.Reg opcode m n rm other p q = ap operands.Reg (q refl)
operand_same sources.Opcode opcode m n rm other p q = refl
operand_same sources.Accumulator opcode m n rm other p q = refl
operand_same sources.Counter opcode m n rm other p q = refl
operand_same sources.Immediate opcode m n rm other p q = refl

pub rm_operand : (s : Source) (opcode m : ℕ) (rm : Operand) → is_rm s ≡ true → operand_of s opcode m rm ≡ rm
rm_operand sources.Absent opcode m rm h = absurd (false≢true h)
rm_operand sources.Rm opcode m rm h = refl
rm_operand sources.Reg opcode m rm h = absurd (false≢true h)
rm_operand sources.Opcode opcode m rm h = absurd (false≢true h)
rm_operand sources.Accumulator opcode m rm h = absurd (false≢true h)
rm_operand sources.Counter opcode m rm h = absurd (false≢true h)
rm_operand sources.Immediate opcode m rm h = absurd (false≢true h)

reg_operand : (s : Source) (opcode m : ℕ) (rm : Operand) → is_reg s ≡ true → register_of (operand_of s opcode m rm) ≡ m / 8 % 8
reg_operand sources.Absent opcode m rm h = absurd (false≢true h)
reg_operand sources.Rm opcode m rm h = absurd (false≢true h)
reg_operand sources.Reg opcode m rm h = omega arith
reg_operand sources.Opcode opcode m rm h = absurd (false≢true h)
reg_operand sources.Accumulator opcode m rm h = absurd (false≢true h)
reg_operand sources.Counter opcode m rm h = absurd (false≢true h)
reg_operand sources.Immediate opcode m rm h = absurd (false≢true h)

-- the instruction was built from a row, with some ModRM byte and what it names
record IsBuilt (prefixes : Prefixes) (opcode : ℕ) (row : Row) (modrm : ℕ) (rm : Operand) (v : Instr) : Type 0 where
  is : v ≡ built prefixes opcode row modrm rm v.imm
  first : v.first ≡ operand_of row.form.first opcode modrm rm
  second : v.second ≡ operand_of row.form.second opcode modrm rm
  number : Number
  numbered : immediate_number row.form.immediate prefixes.operand_size v.imm ≡ Some number

ending_built : (prefixes : Prefixes) (opcode : ℕ) (row : Row) (modrm : ℕ) (rm : Operand) (v : Instr) (bytes : List ℕ) → (ending prefixes opcode row modrm rm).spells bytes v → IsBuilt prefixes opcode row modrm rm v
unfolding ending built
ending_built prefixes opcode row modrm rm v bytes h =
    let e = h.4.1 in
    let imm : v.imm ≡ h.1 = ap (λ (v : Instr). v.imm) e in
    let f = immediate_found row.form.immediate prefixes.operand_size h.0 h.1 h.3 in
    record {
      is = e ∙ ap (λ n. built prefixes opcode row modrm rm n) (sym imm);
      first = ap (λ (v : Instr). v.first) e;
      second = ap (λ (v : Instr). v.second) e;
      number = f.0;
      numbered = ap (immediate_number row.form.immediate prefixes.operand_size) imm ∙ f.1;
    }

built_again : (prefixes : Prefixes) (opcode : ℕ) (row : Row) (m n : ℕ) (rm other : Operand) (v : Instr) → IsBuilt prefixes opcode row n other v → operand_of row.form.first opcode m rm ≡ operand_of row.form.first opcode n other → operand_of row.form.second opcode m rm ≡ operand_of row.form.second opcode n other → built prefixes opcode row m rm v.imm ≡ v
unfolding built
built_again prefixes opcode row m n rm other v b p q = rw (p, q) (sym b.is)

module _ (prefixes : Prefixes) (opcode : ℕ) (row : Row) (modrm : ℕ) (other : Operand) (v : Instr) (b : IsBuilt prefixes opcode row modrm other v) where
  rm_first : is_rm row.form.first ≡ true → rm_among row.form v.first v.second ≡ other
  rm_first h = cond-true (is_rm row.form.first) _ _ h ∙ b.first ∙ rm_operand row.form.first opcode modrm other h

  rm_second : is_rm row.form.second ≡ true → rm_among row.form v.first v.second ≡ other
  rm_second h = elim (cases_Bool (is_rm row.form.first)) [
    | inl e ↦ rm_first e
    | inr e ↦ cond-false (is_rm row.form.first) _ _ e ∙ cond-true (is_rm row.form.second) _ _ h ∙ b.second ∙ rm_operand row.form.second opcode modrm other h
  ]

  rm_or_default : (rm_among row.form v.first v.second ≡ other) ⊎ (rm_among row.form v.first v.second ≡ operands.Place None None 1 0)
  rm_or_default = elim (cases_Bool (is_rm row.form.first)) [
    | inl e ↦ inl (rm_first e)
    | inr e ↦ elim (cases_Bool (is_rm row.form.second)) [
      | inl f ↦ inl (rm_second f)
      | inr f ↦ inr (cond-false (is_rm row.form.first) _ _ e ∙ cond-false (is_rm row.form.second) _ _ f)
    ]
  ]

  reg_first : is_reg row.form.first ≡ true → reg_of row.form v ≡ modrm / 8 % 8
  unfolding reg_of
  reg_first h = cond-true (is_reg row.form.first) _ _ h ∙ ap register_of b.first ∙ reg_operand row.form.first opcode modrm other h

  reg_second : is_reg row.form.second ≡ true → reg_of row.form v ≡ modrm / 8 % 8
  unfolding reg_of
  reg_second h = elim (cases_Bool (is_reg row.form.first)) [
    | inl e ↦ reg_first e
    | inr e ↦ cond-false (is_reg row.form.first) _ _ e ∙ cond-true (is_reg row.form.second) _ _ h ∙ ap register_of b.second ∙ reg_operand row.form.second opcode modrm other h
  ]

fits_again : (prefixes : Prefixes) (row : Row) (n m : ℕ) → (n < 0xC0 → m < 0xC0) → fits prefixes row n ≡ true → fits prefixes row m ≡ true
unfolding fits
fits_again prefixes row n m h e =
    let parts = and_parts (allows prefixes row) _ e in
    and_from _ _ parts.0 (⊎_elim (λ e. or_left _ _ e) (λ e. or_right _ _ (lt-ltb m 0xC0 (h (ltb-true n 0xC0 e)))) (or_cases _ _ parts.1))

tail_at : (prefixes : Prefixes) (opcode : ℕ) (row : Row) (reg modrm : ℕ) (front back : List ℕ) (other : Operand) (v : Instr) → reg < 8 → uses_modrm row.form.addressing ≡ true → fits prefixes row modrm ≡ true → (place modrm).spells front other → IsBuilt prefixes opcode row modrm other v → (is_reg row.form.first ≡ true → reg ≡ modrm / 8 % 8) → (is_reg row.form.second ≡ true → reg ≡ modrm / 8 % 8) → (tail : Tail) × IsTail prefixes opcode row reg v tail
tail_at prefixes opcode row reg modrm front back other v p uses fit h b q r =
    let rm = rm_among row.form v.first v.second in
    let same : rm_of row.form v ≡ rm = rm_of-is row.form v ∙ modrm_rm row.form.addressing row.form v uses in
    let named : IsNamed modrm rm reg = ⊎_elim (λ e. subst (λ rm. IsNamed modrm rm reg) (sym e) (place_named modrm reg front other h)) (λ e. subst (λ rm. IsNamed modrm rm reg) (sym e) (default_named modrm reg)) (rm_or_default prefixes opcode row modrm other v b) in
    let s = place_spelled rm reg named.fields p named.found in
    let below : modrm < 0xC0 → s.modrm < 0xC0 = λ low. ⊎_elim (λ m. m) (λ e. absurd (let high = named.memory e.0 e.1 in omega arith)) s.memory in
    let first = operand_same row.form.first opcode s.modrm modrm rm other (rm_first prefixes opcode row modrm other v b) (λ e. s.reg_is ∙ q e) in
    let second = operand_same row.form.second opcode s.modrm modrm rm other (rm_second prefixes opcode row modrm other v b) (λ e. s.reg_is ∙ r e) in (
      record { fields = named.fields; immediate = b.number },
      record {
        fields = ap (λ rm. fields_of row.form.addressing rm reg) same ∙ modrm_fields row.form.addressing rm reg uses ∙ named.found;
        number = b.numbered;
        fits = subst (λ o. fits prefixes row (unwrap_or o 0) ≡ true) (sym s.is) (fits_again prefixes row modrm s.modrm below fit);
        is = subst (λ o. built prefixes opcode row (unwrap_or o 0) (rm_of row.form v) v.imm ≡ v) (sym s.is) (ap (λ rm. built prefixes opcode row s.modrm rm v.imm) same ∙ built_again prefixes opcode row s.modrm modrm rm other v b first second);
      },
    )

modrm_found : (prefixes : Prefixes) (opcode : ℕ) (row : Row) (bytes : List ℕ) (v : Instr) → uses_modrm row.form.addressing ≡ true → (by_modrm prefixes opcode (λ _. Some row)).spells bytes v → (tail : Tail) × IsTail prefixes opcode row (reg_of row.form v) v tail
unfolding by_modrm
modrm_found prefixes opcode row bytes v uses h =
    let b = ending_built prefixes opcode row h.1 h.4.1 v h.4.2 h.4.4 in
    tail_at prefixes opcode row (reg_of row.form v) h.1 h.4.0 h.4.2 h.4.1 v (reg_low row.form v) uses h.3.1 h.4.3 b (reg_first prefixes opcode row h.1 h.4.1 v b) (reg_second prefixes opcode row h.1 h.4.1 v b)

bare_found : (prefixes : Prefixes) (opcode : ℕ) (row : Row) (reg : ℕ) (bytes : List ℕ) (v : Instr) → row.form.addressing ≡ addressings.Absent → allows prefixes row ≡ true → (ending prefixes opcode row 0 operands.Absent).spells bytes v → (tail : Tail) × IsTail prefixes opcode row reg v tail
bare_found prefixes opcode row reg bytes v k a h =
    let b = ending_built prefixes opcode row 0 operands.Absent v bytes h in
    let rm : rm_of row.form v ≡ operands.Absent = rm_of-is row.form v ∙ ap (λ k. rm_at k row.form v) k in (
      record { fields = record { modrm = None; sib = None; displacement = numbers.Absent }; immediate = b.number },
      record {
        fields = ap (λ k. fields_of k (rm_of row.form v) reg) k;
        number = b.numbered;
        fits = fits_memory prefixes row 0 (omega arith) a;
        is = ap (λ rm. built prefixes opcode row 0 rm v.imm) rm ∙ sym b.is;
      },
    )

offset_is : (bytes : List ℕ) (rm : Operand) → offset_alone.spells bytes rm → (offset : ℕ) × (rm ≡ operands.Place None None 1 offset)
unfolding offset_alone
offset_is bytes rm h = (h.1, h.4.1)

offset_tail : (prefixes : Prefixes) (opcode : ℕ) (row : Row) (reg : ℕ) (bytes : List ℕ) (v : Instr) → row.form.addressing ≡ addressings.Offset → allows prefixes row ≡ true → (at_offset prefixes opcode row).spells bytes v → (tail : Tail) × IsTail prefixes opcode row reg v tail
unfolding at_offset
offset_tail prefixes opcode row reg bytes v k a h =
    let other = h.1 in
    let b = ending_built prefixes opcode row 0 other v h.2 h.4 in
    let rm = rm_among row.form v.first v.second in
    let same : rm_of row.form v ≡ rm = rm_of-is row.form v ∙ ap (λ k. rm_at k row.form v) k in
    let at : (offset : ℕ) × (rm ≡ operands.Place None None 1 offset) = ⊎_elim (λ e. let o = offset_is h.0 other h.3 in (o.0, e ∙ o.1)) (λ e. (0, e)) (rm_or_default prefixes opcode row 0 other v b) in
    let first = operand_same row.form.first opcode 0 0 rm other (rm_first prefixes opcode row 0 other v b) (λ e. refl) in
    let second = operand_same row.form.second opcode 0 0 rm other (rm_second prefixes opcode row 0 other v b) (λ e. refl) in (
      record { fields = record { modrm = None; sib = None; displacement = numbers.Doubleword at.0 }; immediate = b.number },
      record {
        fields = ap (λ k. fields_of k (rm_of row.form v) reg) k ∙ ap offset_fields (same ∙ at.1) ∙ offset_found at.0;
        number = b.numbered;
        fits = fits_memory prefixes row 0 (omega arith) a;
        is = ap (λ rm. built prefixes opcode row 0 rm v.imm) same ∙ built_again prefixes opcode row 0 0 rm other v b first second;
      },
    )

addressed_found : (prefixes : Prefixes) (opcode : ℕ) (row : Row) (kind : Addressing) (bytes : List ℕ) (v : Instr) → row.form.addressing ≡ kind → (addressed prefixes opcode row kind).spells bytes v → (tail : Tail) × IsTail prefixes opcode row (reg_of row.form v) v tail
addressed_found prefixes opcode row addressings.Any bytes v k h = modrm_found prefixes opcode row bytes v (ap uses_modrm k) h
addressed_found prefixes opcode row addressings.Memory bytes v k h = modrm_found prefixes opcode row bytes v (ap uses_modrm k) h
addressed_found prefixes opcode row addressings.Absent bytes v k h = ⊎_elim (λ s. bare_found prefixes opcode row (reg_of row.form v) bytes v k s.0 s.1) (λ s. absurd s.1) h
addressed_found prefixes opcode row addressings.Offset bytes v k h = ⊎_elim (λ s. offset_tail prefixes opcode row (reg_of row.form v) bytes v k s.0 s.1) (λ s. absurd s.1) h

member_found : (prefixes : Prefixes) (opcode modrm : ℕ) (group : Group) (member : Option Row) (bytes : List ℕ) (v : Instr) → row_of group modrm ≡ member → may_fit prefixes member modrm ≡ true → (after_modrm prefixes opcode modrm member).spells bytes v → (tail : Tail) × IsGroupTail prefixes opcode (rows_of group) v tail
member_found prefixes opcode modrm group None bytes v e fit h = absurd h
member_found prefixes opcode modrm group (Some row) bytes v e fit h =
    let b = ending_built prefixes opcode row modrm h.1 v h.2 h.4 in
    let uses : uses_modrm row.form.addressing ≡ true = subst (λ row. has_modrm row ≡ true) e (group_has_modrm group (modrm / 8 % 8) (omega arith)) in
    let t = tail_at prefixes opcode row (modrm / 8 % 8) modrm h.0 h.2 h.1 v (omega arith) uses fit h.3 b (λ _. refl) (λ _. refl) in
    (t.0, record { reg = modrm / 8 % 8; within = omega arith; at = subst (λ member. IsTailOf prefixes opcode member (modrm / 8 % 8) v t.0) (sym e) t.1 })

group_found : (prefixes : Prefixes) (opcode : ℕ) (group : Group) (bytes : List ℕ) (v : Instr) → (by_modrm prefixes opcode (row_of group)).spells bytes v → (tail : Tail) × IsGroupTail prefixes opcode (rows_of group) v tail
unfolding by_modrm
group_found prefixes opcode group bytes v h = member_found prefixes opcode h.1 group (row_of group h.1) h.2 v refl h.3.1 h.4

entry_found : (prefixes : Prefixes) (opcode : ℕ) (entry : Entry) (bytes : List ℕ) (v : Instr) → (behind_opcode prefixes opcode entry).spells bytes v → (tail : Tail) × IsEntryTail prefixes opcode entry v tail
unfolding behind_opcode
entry_found prefixes opcode entries.Outside bytes v h = absurd h
entry_found prefixes opcode entries.Escape bytes v h = absurd h
entry_found prefixes opcode (entries.One row) bytes v h = addressed_found prefixes opcode row row.form.addressing bytes v refl h
entry_found prefixes opcode (entries.Group group) bytes v h = group_found prefixes opcode group bytes v h

-- the prefixes are those of the instruction
tail_prefixes : (prefixes : Prefixes) (opcode : ℕ) (row : Row) (reg : ℕ) (v : Instr) (tail : Tail) → IsTail prefixes opcode row reg v tail → prefixes ≡ prefixes_of v prefixes.operand_size
unfolding built
tail_prefixes prefixes opcode row reg v tail t =
    let lock : prefixes.lock ≡ v.lock = ap (λ (v : Instr). v.lock) t.is in
    let repeat : prefixes.repeat ≡ v.repeat = ap (λ (v : Instr). v.repeat) t.is in
    ap (λ l. set prefixes.operand_size l prefixes.repeat) lock ∙ ap (λ r. set prefixes.operand_size v.lock r) repeat

entry_prefixes : (prefixes : Prefixes) (opcode : ℕ) (entry : Entry) (v : Instr) (tail : Tail) → IsEntryTail prefixes opcode entry v tail → prefixes ≡ prefixes_of v prefixes.operand_size
entry_prefixes prefixes opcode entries.Outside v tail t = absurd t
entry_prefixes prefixes opcode entries.Escape v tail t = absurd t
entry_prefixes prefixes opcode (entries.One row) v tail t = tail_prefixes prefixes opcode row (reg_of row.form v) v tail t
entry_prefixes prefixes opcode (entries.Group group) v tail t =
    let r = tail_of_row prefixes opcode (slice_index_or (rows_of group) t.reg None) t.reg v tail t.at in
    tail_prefixes prefixes opcode r.0 t.reg v tail r.2

-- what follows of a tail of an opcode of a map, with 66 or without
abbrev pub Follows : (Bool → Type 0) → Instr → (ℕ → Entry) → Type 0
Follows G v entry_at = (short : Bool) (opcode : ℕ) (tail : Tail) → opcode < 256 → IsEntryTail (prefixes_of v short) opcode (entry_at opcode) v tail → G short

entry_follows : (G : Bool → Type 0) (prefixes : Prefixes) (opcode : ℕ) (entry_at : ℕ → Entry) (bytes : List ℕ) (v : Instr) → opcode < 2 ^ 8 → (behind_opcode prefixes opcode (entry_at opcode)).spells bytes v → Follows G v entry_at → G prefixes.operand_size
entry_follows G prefixes opcode entry_at bytes v p h f =
    let t = entry_found prefixes opcode (entry_at opcode) bytes v h in
    let same = entry_prefixes prefixes opcode (entry_at opcode) v t.0 t.1 in
    f prefixes.operand_size opcode t.0 p (subst (λ prefixes. IsEntryTail prefixes opcode (entry_at opcode) v t.0) same t.1)

after_follows : (G : Bool → Type 0) (prefixes : Prefixes) (opcode : ℕ) (entry : Entry) (bytes : List ℕ) (v : Instr) → opcode < 2 ^ 8 → first_of opcode ≡ entry → (after_first prefixes opcode entry).spells bytes v → Follows G v first_of → Follows G v second_of → G prefixes.operand_size
unfolding extended
after_follows G prefixes opcode entries.Outside bytes v p e h f g = entry_follows G prefixes opcode first_of bytes v p (subst (λ entry. (behind_opcode prefixes opcode entry).spells bytes v) (sym e) h) f
after_follows G prefixes opcode entries.Escape [] v p e h f g = absurd h
after_follows G prefixes opcode entries.Escape (b ∷ bytes) v p e h f g = entry_follows G prefixes b second_of bytes v h.0 h.1 g
after_follows G prefixes opcode (entries.One row) bytes v p e h f g = entry_follows G prefixes opcode first_of bytes v p (subst (λ entry. (behind_opcode prefixes opcode entry).spells bytes v) (sym e) h) f
after_follows G prefixes opcode (entries.Group group) bytes v p e h f g = entry_follows G prefixes opcode first_of bytes v p (subst (λ entry. (behind_opcode prefixes opcode entry).spells bytes v) (sym e) h) f

body_follows : (G : Bool → Type 0) (prefixes : Prefixes) (bytes : List ℕ) (v : Instr) → (body prefixes).spells bytes v → Follows G v first_of → Follows G v second_of → G prefixes.operand_size
unfolding body
body_follows G prefixes [] v h f g = absurd h
body_follows G prefixes (b ∷ bytes) v h f g = after_follows G prefixes b (first_of b) bytes v h.0 refl h.1 f g

pub spelled_follows : (G : Bool → Type 0) (bytes : List ℕ) (v : Instr) (h : IsPrefixed bytes v) → Follows G v first_of → Follows G v second_of → G (set_of h.prefixes).operand_size
spelled_follows G bytes v h f g = body_follows G (set_of h.prefixes) h.rest v h.spelled f g

pub nothing_spelled : (bytes : List ℕ) (v : Instr) → Spells bytes v → Follows (λ _. ⊥) v first_of → Follows (λ _. ⊥) v second_of → ⊥
nothing_spelled bytes v h f g = spelled_follows (λ _. ⊥) bytes v h f g
