-- The grammar is exact, part by part. No lemma here names a row of the table, but `body_opens`, `extended_opens` and those of what is dead.
use Rattle.std.proofs.Common.{◌≡◌, ℕ, ◌*◌, ◌/◌, ◌%◌, ◌^◌, ◌<◌, Bool, true, false, not, ◌||◌, List, [], ◌∷◌, length, get_or, Option, Some, None, refl, sym, ap, ◌∙◌, ⊎_elim, arith}
use Rattle.std.specs.List.{list_any}
use Rattle.std.proofs.lemmas.Bool.{false≢true, and_parts, and_from, or_right, lt-ltb, both_ways, agree_below_at, false_from_ne_true, true_from_ne_false}
use Rattle.std.proofs.lemmas.List.{get_or_default}
use Rattle.std.proofs.lemmas.List.Folds.{Any-from_list_any, list_any_at}
use Rattle.codes.specs.Exact.{Exact, IsLonger}
use Rattle.codes.specs.ExactLaws.{done_exact, byte_exact, either_exact, then_exact, branch_exact}
use Rattle.codes.specs.NumberLaws.{octet_exact, little_endian_2_exact, little_endian_4_exact}
use Rattle.ia32_decode.specs.Operands.{sign_extended, signed_byte, displacement, based, place, offset_alone, immediate}
use Rattle.ia32_decode.specs.Rows.{is_absent, allows, fits, ending, after_modrm, may_fit, by_modrm, at_offset, addressed}
use Rattle.ia32_decode.specs.Opcodes.{rows_of, row_of, may_allow, opens, behind_opcode, first_of, second_of, extended, opens_first, after_first, body}
use Rattle.ia32_decode.specs.Prefixes.{is_prefix, is_dead}
use Rattle.ia32_decode.specs.declared.prefixes.Prefixes.{Prefixes}
use Rattle.ia32_decode.specs.declared.instruction.Instr.{Instr}
use Rattle.ia32_decode.specs.declared.instruction.Operand.{Operand}
use Rattle.ia32_decode.specs.declared.instruction.Operand.TheVariants as operands
use Rattle.ia32_decode.specs.declared.instruction.Repeat.{Repeat}
use Rattle.ia32_decode.specs.declared.instruction.Repeat.TheVariants as repeats
use Rattle.ia32_decode.specs.declared.rows.Row.{Row}
use Rattle.ia32_decode.specs.declared.rows.Entry.{Entry}
use Rattle.ia32_decode.specs.declared.rows.Entry.TheVariants as entries
use Rattle.ia32_decode.specs.declared.rows.Group.{Group}
use Rattle.ia32_decode.specs.declared.rows.Group.TheVariants as groups
use Rattle.ia32_decode.specs.declared.forms.Addressing.{Addressing}
use Rattle.ia32_decode.specs.declared.forms.Addressing.TheVariants as addressings
use Rattle.ia32_decode.specs.declared.forms.Immediate.{Immediate}
use Rattle.ia32_decode.specs.declared.forms.Immediate.TheVariants as immediates

absent_is : (repeat : Repeat) → is_absent repeat ≡ true → repeat ≡ repeats.Absent
absent_is repeats.Absent h = refl
absent_is repeats.F2 h = absurd (false≢true h)
absent_is repeats.F3 h = absurd (false≢true h)

or_at : (a b : Bool) → a ≡ true → not a || b ≡ true → b ≡ true
or_at true b h e = e
or_at false b h e = absurd (false≢true h)

-- ---- operands

signed_byte_exact : Exact signed_byte
unfolding signed_byte
signed_byte_exact = then_exact _ _ octet_exact (λ _ b _. done_exact (sign_extended b))

displacement_exact : (mode : ℕ) → Exact (displacement mode)
unfolding displacement
displacement_exact mode = either_exact _ _ _ (λ _. done_exact 0) (λ _. either_exact _ _ _ (λ _. signed_byte_exact) (λ _. little_endian_4_exact))

based_exact : (mode base : ℕ) (index : Option ℕ) (scale : ℕ) → Exact (based mode base index scale)
unfolding based
based_exact mode base index scale = either_exact _ _ _ (λ _. then_exact _ _ little_endian_4_exact (λ _ _ _. done_exact _)) (λ _. then_exact _ _ (displacement_exact mode) (λ _ _ _. done_exact _))

place_exact : (modrm : ℕ) → Exact (place modrm)
unfolding place
place_exact modrm = either_exact _ _ _ (λ _. done_exact _) (λ _. either_exact _ _ _ (λ _. then_exact _ _ octet_exact (λ _ sib _. based_exact _ _ _ _)) (λ _. based_exact _ _ _ _))

offset_alone_exact : Exact offset_alone
unfolding offset_alone
offset_alone_exact = then_exact _ _ little_endian_4_exact (λ _ _ _. done_exact _)

immediate_exact : (kind : Immediate) (short : Bool) → Exact (immediate kind short)
unfolding immediate
immediate_exact immediates.Absent short = done_exact 0
immediate_exact immediates.One short = done_exact 1
immediate_exact immediates.Byte short = octet_exact
immediate_exact immediates.SignedByte short = signed_byte_exact
immediate_exact immediates.Word short = little_endian_2_exact
immediate_exact immediates.OperandSize short = either_exact _ _ _ (λ _. little_endian_2_exact) (λ _. little_endian_4_exact)
immediate_exact immediates.Doubleword short = little_endian_4_exact

-- ---- rows

ending_exact : (prefixes : Prefixes) (opcode : ℕ) (row : Row) (modrm : ℕ) (rm : Operand) → Exact (ending prefixes opcode row modrm rm)
unfolding ending
ending_exact prefixes opcode row modrm rm = then_exact _ _ (immediate_exact row.form.immediate prefixes.operand_size) (λ _ _ _. done_exact _)

after_modrm_exact : (prefixes : Prefixes) (opcode modrm : ℕ) (row : Option Row) → may_fit prefixes row modrm ≡ true → Exact (after_modrm prefixes opcode modrm row)
after_modrm_exact prefixes opcode modrm None h = absurd (false≢true h)
after_modrm_exact prefixes opcode modrm (Some row) h = then_exact _ _ (place_exact modrm) (λ _ rm _. ending_exact prefixes opcode row modrm rm)

by_modrm_exact : (prefixes : Prefixes) (opcode : ℕ) (row_at : ℕ → Option Row) (witness : ℕ) → witness < 2 ^ 8 → may_fit prefixes (row_at witness) witness ≡ true → Exact (by_modrm prefixes opcode row_at)
unfolding by_modrm
by_modrm_exact prefixes opcode row_at witness p q = then_exact _ _ (byte_exact (λ modrm. may_fit prefixes (row_at modrm) modrm) witness p q) (λ _ modrm h. after_modrm_exact prefixes opcode modrm (row_at modrm) h.1)

-- memory always fits
pub fits_memory : (prefixes : Prefixes) (row : Row) (modrm : ℕ) → modrm < 0xC0 → allows prefixes row ≡ true → fits prefixes row modrm ≡ true
unfolding fits
fits_memory prefixes row modrm p h = and_from _ _ h (or_right _ _ (lt-ltb modrm 0xC0 p))

pub allows_fits : (prefixes : Prefixes) (row : Row) (modrm : ℕ) → fits prefixes row modrm ≡ true → allows prefixes row ≡ true
unfolding fits
allows_fits prefixes row modrm h = (and_parts _ _ h).0

at_offset_exact : (prefixes : Prefixes) (opcode : ℕ) (row : Row) → Exact (at_offset prefixes opcode row)
unfolding at_offset
at_offset_exact prefixes opcode row = then_exact _ _ offset_alone_exact (λ _ rm _. ending_exact prefixes opcode row 0 rm)

addressed_exact : (prefixes : Prefixes) (opcode : ℕ) (row : Row) (kind : Addressing) → allows prefixes row ≡ true → Exact (addressed prefixes opcode row kind)
addressed_exact prefixes opcode row addressings.Absent h = either_exact _ _ _ (λ _. ending_exact prefixes opcode row 0 operands.Absent) (λ e. absurd (both_ways _ e h))
addressed_exact prefixes opcode row addressings.Offset h = either_exact _ _ _ (λ _. at_offset_exact prefixes opcode row) (λ e. absurd (both_ways _ e h))
addressed_exact prefixes opcode row addressings.Any h = by_modrm_exact prefixes opcode (λ _. Some row) 0 (omega arith) (fits_memory prefixes row 0 (omega arith) h)
addressed_exact prefixes opcode row addressings.Memory h = by_modrm_exact prefixes opcode (λ _. Some row) 0 (omega arith) (fits_memory prefixes row 0 (omega arith) h)

may_fit-allows : (prefixes : Prefixes) (row : Option Row) (modrm : ℕ) → may_fit prefixes row modrm ≡ true → may_allow prefixes row ≡ true
may_fit-allows prefixes None modrm h = h
may_fit-allows prefixes (Some row) modrm h = allows_fits prefixes row modrm h

-- what is spelled from a ModRM byte on has a row that the prefixes may stand before
by_modrm_allows : (prefixes : Prefixes) (opcode : ℕ) (row_at : ℕ → Option Row) (bytes : List ℕ) (v : Instr) → (by_modrm prefixes opcode row_at).spells bytes v → (modrm : ℕ) × (may_allow prefixes (row_at modrm) ≡ true)
unfolding by_modrm
by_modrm_allows prefixes opcode row_at bytes v h = (h.1, may_fit-allows prefixes (row_at h.1) h.1 h.3.1)

addressed_allows : (prefixes : Prefixes) (opcode : ℕ) (row : Row) (kind : Addressing) (bytes : List ℕ) (v : Instr) → (addressed prefixes opcode row kind).spells bytes v → allows prefixes row ≡ true
addressed_allows prefixes opcode row addressings.Absent bytes v h = ⊎_elim (λ s. s.0) (λ s. absurd s.1) h
addressed_allows prefixes opcode row addressings.Offset bytes v h = ⊎_elim (λ s. s.0) (λ s. absurd s.1) h
addressed_allows prefixes opcode row addressings.Any bytes v h = (by_modrm_allows prefixes opcode (λ _. Some row) bytes v h).1
addressed_allows prefixes opcode row addressings.Memory bytes v h = (by_modrm_allows prefixes opcode (λ _. Some row) bytes v h).1

-- ---- groups

pub rows_of_eight : (group : Group) → length (rows_of group) ≡ 8
unfolding rows_of
rows_of_eight groups.At80 = refl
rows_of_eight groups.At81 = refl
rows_of_eight groups.At83 = refl
rows_of_eight groups.At8F = refl
rows_of_eight groups.AtC0 = refl
rows_of_eight groups.AtC1 = refl
rows_of_eight groups.AtC6 = refl
rows_of_eight groups.AtC7 = refl
rows_of_eight groups.AtD0 = refl
rows_of_eight groups.AtD1 = refl
rows_of_eight groups.AtD2 = refl
rows_of_eight groups.AtD3 = refl
rows_of_eight groups.AtF6 = refl
rows_of_eight groups.AtF7 = refl
rows_of_eight groups.AtFE = refl
rows_of_eight groups.AtFF = refl
rows_of_eight groups.At0FBA = refl

-- memory at [eax] fits a row that the prefixes may stand before
may_allow-fits : (prefixes : Prefixes) (row : Option Row) (modrm : ℕ) → modrm < 0xC0 → may_allow prefixes row ≡ true → may_fit prefixes row modrm ≡ true
may_allow-fits prefixes None modrm p h = h
may_allow-fits prefixes (Some row) modrm p h = fits_memory prefixes row modrm p h

group_exact : (prefixes : Prefixes) (opcode : ℕ) (group : Group) → list_any (may_allow prefixes) (rows_of group) ≡ true → Exact (by_modrm prefixes opcode (row_of group))
group_exact prefixes opcode group h =
    let w = Any-from_list_any (may_allow prefixes) (rows_of group) h in
    let eight = rows_of_eight group in
    let below : w.0 < 8 = omega arith in
    let place : 8 * w.0 / 8 % 8 ≡ w.0 = omega arith in
    let here : row_of group (8 * w.0) ≡ w.1 = ap (λ k. get_or (rows_of group) k None) place ∙ get_or_default (rows_of group) w.0 None w.1 w.2 ∙ w.3 in
    by_modrm_exact prefixes opcode (row_of group) (8 * w.0) (omega arith) (may_allow-fits prefixes (row_of group (8 * w.0)) (8 * w.0) (omega arith) (ap (may_allow prefixes) here ∙ w.4))

group_allows : (prefixes : Prefixes) (group : Group) (modrm : ℕ) → may_allow prefixes (row_of group modrm) ≡ true → list_any (may_allow prefixes) (rows_of group) ≡ true
group_allows prefixes group modrm h = list_any_at (may_allow prefixes) (rows_of group) (modrm / 8 % 8) None (let e = rows_of_eight group in omega arith) h

-- ---- opcodes

behind_opcode_exact : (prefixes : Prefixes) (opcode : ℕ) (entry : Entry) → opens prefixes entry ≡ true → Exact (behind_opcode prefixes opcode entry)
unfolding behind_opcode
behind_opcode_exact prefixes opcode entries.Outside h = absurd (false≢true h)
behind_opcode_exact prefixes opcode entries.Escape h = absurd (false≢true h)
behind_opcode_exact prefixes opcode (entries.One row) h = addressed_exact prefixes opcode row row.form.addressing h
behind_opcode_exact prefixes opcode (entries.Group group) h = group_exact prefixes opcode group h

behind_opcode_opens : (prefixes : Prefixes) (opcode : ℕ) (entry : Entry) (bytes : List ℕ) (v : Instr) → (behind_opcode prefixes opcode entry).spells bytes v → opens prefixes entry ≡ true
unfolding behind_opcode
behind_opcode_opens prefixes opcode entries.Outside bytes v h = absurd h
behind_opcode_opens prefixes opcode entries.Escape bytes v h = absurd h
behind_opcode_opens prefixes opcode (entries.One row) bytes v h = addressed_allows prefixes opcode row row.form.addressing bytes v h
behind_opcode_opens prefixes opcode (entries.Group group) bytes v h =
    let w = by_modrm_allows prefixes opcode (row_of group) bytes v h in
    group_allows prefixes group w.0 w.1

-- ---- what the table is asked: behind 0F there is an opcode for each set of prefixes without F2 and F3, and none with them; an opcode
-- stands behind all sets without both of F0 and a repeat, and none behind those; and no opcode is a prefix

abbrev set : Bool → Bool → Repeat → Prefixes
set short lock repeat = record { operand_size = short; lock = lock; repeat = repeat }

extended_opens : (short lock : Bool) → opens (set short lock repeats.Absent) (second_of 0xC1) ≡ true
unfolding second_of allows
extended_opens true true = refl
extended_opens true false = refl
extended_opens false true = refl
extended_opens false false = refl

extended_dead : (short lock : Bool) (repeat : Repeat) → is_absent repeat ≡ false → (b : ℕ) → b < 2 ^ 8 → opens (set short lock repeat) (second_of b) ≡ false
unfolding second_of allows rows_of
extended_dead short lock repeats.Absent e b h = absurd (false≢true (sym e))
extended_dead true true repeats.F2 e b h = agree_below_at (λ b. opens (set true true repeats.F2) (second_of b)) (λ b. false) 256 b refl h
extended_dead true true repeats.F3 e b h = agree_below_at (λ b. opens (set true true repeats.F3) (second_of b)) (λ b. false) 256 b refl h
extended_dead true false repeats.F2 e b h = agree_below_at (λ b. opens (set true false repeats.F2) (second_of b)) (λ b. false) 256 b refl h
extended_dead true false repeats.F3 e b h = agree_below_at (λ b. opens (set true false repeats.F3) (second_of b)) (λ b. false) 256 b refl h
extended_dead false true repeats.F2 e b h = agree_below_at (λ b. opens (set false true repeats.F2) (second_of b)) (λ b. false) 256 b refl h
extended_dead false true repeats.F3 e b h = agree_below_at (λ b. opens (set false true repeats.F3) (second_of b)) (λ b. false) 256 b refl h
extended_dead false false repeats.F2 e b h = agree_below_at (λ b. opens (set false false repeats.F2) (second_of b)) (λ b. false) 256 b refl h
extended_dead false false repeats.F3 e b h = agree_below_at (λ b. opens (set false false repeats.F3) (second_of b)) (λ b. false) 256 b refl h

-- an opcode behind such prefixes
abbrev start : Repeat → ℕ
start repeats.Absent = 0x01
start repeats.F2 = 0xA4
start repeats.F3 = 0xA4

start_below : (repeat : Repeat) → start repeat < 2 ^ 8
start_below repeats.Absent = omega arith
start_below repeats.F2 = omega arith
start_below repeats.F3 = omega arith

body_opens : (short lock : Bool) (repeat : Repeat) → is_dead (set short lock repeat) ≡ false → opens_first (set short lock repeat) (first_of (start repeat)) ≡ true
unfolding first_of opens_first allows
body_opens true true repeats.Absent h = refl
body_opens true false repeats.Absent h = refl
body_opens false true repeats.Absent h = refl
body_opens false false repeats.Absent h = refl
body_opens short true repeats.F2 h = absurd (false≢true (sym h))
body_opens short true repeats.F3 h = absurd (false≢true (sym h))
body_opens true false repeats.F2 h = refl
body_opens true false repeats.F3 h = refl
body_opens false false repeats.F2 h = refl
body_opens false false repeats.F3 h = refl

body_dead : (short lock : Bool) (repeat : Repeat) → is_dead (set short lock repeat) ≡ true → (b : ℕ) → b < 2 ^ 8 → opens_first (set short lock repeat) (first_of b) ≡ false
unfolding first_of opens_first allows rows_of
body_dead short false repeat e b h = absurd (false≢true e)
body_dead short true repeats.Absent e b h = absurd (false≢true e)
body_dead true true repeats.F2 e b h = agree_below_at (λ b. opens_first (set true true repeats.F2) (first_of b)) (λ b. false) 256 b refl h
body_dead true true repeats.F3 e b h = agree_below_at (λ b. opens_first (set true true repeats.F3) (first_of b)) (λ b. false) 256 b refl h
body_dead false true repeats.F2 e b h = agree_below_at (λ b. opens_first (set false true repeats.F2) (first_of b)) (λ b. false) 256 b refl h
body_dead false true repeats.F3 e b h = agree_below_at (λ b. opens_first (set false true repeats.F3) (first_of b)) (λ b. false) 256 b refl h

is_outside : Entry → Bool
is_outside entries.Outside = true
is_outside entries.Escape = false
is_outside (entries.One row) = false
is_outside (entries.Group group) = false

outside_at : (entry : Entry) → is_outside entry ≡ true → entry ≡ entries.Outside
unfolding is_outside
outside_at entries.Outside h = refl
outside_at entries.Escape h = absurd (false≢true h)
outside_at (entries.One row) h = absurd (false≢true h)
outside_at (entries.Group group) h = absurd (false≢true h)

prefix_outside : (b : ℕ) → b < 2 ^ 8 → is_prefix b ≡ true → first_of b ≡ entries.Outside
unfolding first_of is_outside
prefix_outside b p h = outside_at (first_of b) (or_at (is_prefix b) (is_outside (first_of b)) h (agree_below_at (λ b. not (is_prefix b) || is_outside (first_of b)) (λ b. true) 256 b refl p))

-- ---- all opcodes

extended_exact : (prefixes : Prefixes) → is_absent prefixes.repeat ≡ true → Exact (extended prefixes)
unfolding extended
extended_exact prefixes h = branch_exact _ _ 0xC1 (omega arith) (ap (λ repeat. opens (set prefixes.operand_size prefixes.lock repeat) (second_of 0xC1)) (absent_is prefixes.repeat h) ∙ extended_opens prefixes.operand_size prefixes.lock)
    (λ b p e. behind_opcode_exact prefixes b (second_of b) e)
    (λ b p e bytes v s. both_ways _ e (behind_opcode_opens prefixes b (second_of b) bytes v s))

extended_open : (prefixes : Prefixes) (bytes : List ℕ) (v : Instr) → (extended prefixes).spells bytes v → is_absent prefixes.repeat ≡ true
unfolding extended
extended_open prefixes [] v h = absurd h
extended_open prefixes (b ∷ bytes) v h = true_from_ne_false (is_absent prefixes.repeat) (λ e. both_ways _ (extended_dead prefixes.operand_size prefixes.lock prefixes.repeat e b h.0) (behind_opcode_opens prefixes b (second_of b) bytes v h.1))

after_first_exact : (prefixes : Prefixes) (opcode : ℕ) (entry : Entry) → opens_first prefixes entry ≡ true → Exact (after_first prefixes opcode entry)
unfolding opens_first
after_first_exact prefixes opcode entries.Outside h = absurd (false≢true h)
after_first_exact prefixes opcode entries.Escape h = extended_exact prefixes h
after_first_exact prefixes opcode (entries.One row) h = behind_opcode_exact prefixes opcode (entries.One row) h
after_first_exact prefixes opcode (entries.Group group) h = behind_opcode_exact prefixes opcode (entries.Group group) h

after_first_opens : (prefixes : Prefixes) (opcode : ℕ) (entry : Entry) (bytes : List ℕ) (v : Instr) → (after_first prefixes opcode entry).spells bytes v → opens_first prefixes entry ≡ true
unfolding opens_first
after_first_opens prefixes opcode entries.Outside bytes v h = behind_opcode_opens prefixes opcode entries.Outside bytes v h
after_first_opens prefixes opcode entries.Escape bytes v h = extended_open prefixes bytes v h
after_first_opens prefixes opcode (entries.One row) bytes v h = behind_opcode_opens prefixes opcode (entries.One row) bytes v h
after_first_opens prefixes opcode (entries.Group group) bytes v h = behind_opcode_opens prefixes opcode (entries.Group group) bytes v h

pub body_exact : (prefixes : Prefixes) → is_dead prefixes ≡ false → Exact (body prefixes)
unfolding body
body_exact prefixes h = branch_exact _ _ (start prefixes.repeat) (start_below prefixes.repeat) (body_opens prefixes.operand_size prefixes.lock prefixes.repeat h)
    (λ b p e. after_first_exact prefixes b (first_of b) e)
    (λ b p e bytes v s. both_ways _ e (after_first_opens prefixes b (first_of b) bytes v s))

pub body_alive : (prefixes : Prefixes) (bytes : List ℕ) (v : Instr) → (body prefixes).spells bytes v → is_dead prefixes ≡ false
unfolding body
body_alive prefixes [] v h = absurd h
body_alive prefixes (b ∷ bytes) v h = false_from_ne_true (is_dead prefixes) (λ e. both_ways _ (body_dead prefixes.operand_size prefixes.lock prefixes.repeat e b h.0) (after_first_opens prefixes b (first_of b) bytes v h.1))

-- no opcode is a prefix
pub body_apart : (prefixes : Prefixes) (b : ℕ) (bytes : List ℕ) (v : Instr) → (body prefixes).spells (b ∷ bytes) v → is_prefix b ≡ false
unfolding body opens_first
body_apart prefixes b bytes v h = false_from_ne_true (is_prefix b) (λ e. false≢true (sym (ap (opens_first prefixes) (prefix_outside b h.0 e)) ∙ after_first_opens prefixes b (first_of b) bytes v h.1))

pub body_some : (prefixes : Prefixes) (v : Instr) → (body prefixes).spells [] v → ⊥
unfolding body
body_some prefixes v h = h

pub body_longer : (prefixes : Prefixes) → is_dead prefixes ≡ false → IsLonger (body prefixes) []
unfolding body
body_longer prefixes h = (body_exact prefixes h).tells [] tt
