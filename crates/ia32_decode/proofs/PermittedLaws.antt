-- Where prefixes stand: what a scan of the tables says of each row, and so of each instruction.
use Rattle.std.proofs.Common.{◌≡◌, ℕ, ◌+◌, ◌*◌, ◌<◌, ◌≤◌, ◌⊎◌, inl, inr, Bool, true, false, not, ◌&&◌, ◌||◌, List, ◌∷◌, Option, Some, None, refl, sym, ap, ◌∙◌, subst, ⊎_elim, ltb, leb, arith}
use Rattle.std.specs.Prelude.{unwrap_or, slice_index_or}
use Rattle.std.proofs.lemmas.Bool.{false≢true, and_parts, and_from, or_cases, cases_Bool, cases_lt, agree_below_at, ltb-true, lt-ltb, le-leb, both_ways}
use Rattle.std.proofs.lemmas.Option.{cond_some}
use Rattle.ia32_decode.specs.Rows.{built, allows, fits, permits, is_memory_only}
use Rattle.ia32_decode.specs.Opcodes.{rows_of, first_of, second_of, after_first, behind_opcode, body}
use Rattle.ia32_decode.specs.Prefixes.{set_of}
use Rattle.ia32_decode.specs.Encoding.{place_fields, is_rm, rm_of, reg_of, IsTail, IsEntryTail, prefixes_of}
use Rattle.ia32_decode.specs.Permitted.{is_lockable, is_string, has_four_bytes, IsMemory, IsPermitted, PrefixesArePermitted, FloatingPointIsOutside}
use Rattle.ia32_decode.specs.declared.prefixes.Prefixes.{Prefixes}
use Rattle.ia32_decode.specs.declared.instruction.Instr.{Instr}
use Rattle.ia32_decode.specs.declared.instruction.Op.{Op}
use Rattle.ia32_decode.specs.declared.instruction.Op.TheVariants as op
use Rattle.ia32_decode.specs.declared.instruction.Operand.{Operand}
use Rattle.ia32_decode.specs.declared.instruction.Operand.TheVariants as operands
use Rattle.ia32_decode.specs.declared.instruction.Repeat.{Repeat}
use Rattle.ia32_decode.specs.declared.instruction.Repeat.TheVariants as repeats
use Rattle.ia32_decode.specs.declared.rows.Repeats.{Repeats}
use Rattle.ia32_decode.specs.declared.rows.Repeats.TheVariants as permitted
use Rattle.ia32_decode.specs.declared.rows.Row.{Row}
use Rattle.ia32_decode.specs.declared.rows.Group.{Group}
use Rattle.ia32_decode.specs.declared.rows.Group.TheVariants as groups
use Rattle.ia32_decode.specs.declared.rows.Entry.{Entry}
use Rattle.ia32_decode.specs.declared.rows.Entry.TheVariants as entries
use Rattle.ia32_decode.specs.declared.encoding.Number.TheVariants as numbers
use Rattle.ia32_decode.specs.declared.encoding.Fields.{Fields}
use Rattle.ia32_decode.specs.declared.encoding.Tail.{Tail}
use Rattle.ia32_decode.proofs.Encoded.{uses_modrm, modrm_fields, tail_of_row, rm_operand, spelled_follows}

-- ---- what each row of the tables passes

abbrev is_nop : Op → Bool
is_nop op.Nop = true
is_nop _ = false

nop_is : (o : Op) → is_nop o ≡ true → o ≡ op.Nop
nop_is op.Nop h = refl
nop_is _ h = absurd (false≢true h)

abbrev repeats_well : Repeats → Op → Bool
repeats_well permitted.Neither o = true
repeats_well permitted.Three o = is_string o || is_nop o
repeats_well permitted.Either o = is_string o

abbrev row_passes : Row → Bool
row_passes row = (not row.permits.lock || (is_lockable row.op && (is_rm row.form.first && uses_modrm row.form.addressing))) && (repeats_well row.permits.repeat row.op && (not (has_four_bytes row.op) || not row.permits.operand_size))

abbrev member_passes : Option Row → Bool
member_passes None = true
member_passes (Some row) = row_passes row

abbrev entry_passes : Entry → Bool
entry_passes entries.Outside = true
entry_passes entries.Escape = true
entry_passes (entries.One row) = row_passes row
entry_passes (entries.Group group) = true

first_passes : (opcode : ℕ) → opcode < 256 → entry_passes (first_of opcode) ≡ true
unfolding first_of
first_passes opcode h = agree_below_at (λ opcode. entry_passes (first_of opcode)) (λ _. true) 256 opcode refl h

second_passes : (opcode : ℕ) → opcode < 256 → entry_passes (second_of opcode) ≡ true
unfolding second_of
second_passes opcode h = agree_below_at (λ opcode. entry_passes (second_of opcode)) (λ _. true) 256 opcode refl h

abbrev passes_at : Group → ℕ → Bool
passes_at group reg = member_passes (slice_index_or (rows_of group) reg None)

group_passes : (group : Group) (reg : ℕ) → reg < 8 → passes_at group reg ≡ true
unfolding rows_of
group_passes groups.At80 reg h = agree_below_at (passes_at groups.At80) (λ _. true) 8 reg refl h
group_passes groups.At81 reg h = agree_below_at (passes_at groups.At81) (λ _. true) 8 reg refl h
group_passes groups.At83 reg h = agree_below_at (passes_at groups.At83) (λ _. true) 8 reg refl h
group_passes groups.At8F reg h = agree_below_at (passes_at groups.At8F) (λ _. true) 8 reg refl h
group_passes groups.AtC0 reg h = agree_below_at (passes_at groups.AtC0) (λ _. true) 8 reg refl h
group_passes groups.AtC1 reg h = agree_below_at (passes_at groups.AtC1) (λ _. true) 8 reg refl h
group_passes groups.AtC6 reg h = agree_below_at (passes_at groups.AtC6) (λ _. true) 8 reg refl h
group_passes groups.AtC7 reg h = agree_below_at (passes_at groups.AtC7) (λ _. true) 8 reg refl h
group_passes groups.AtD0 reg h = agree_below_at (passes_at groups.AtD0) (λ _. true) 8 reg refl h
group_passes groups.AtD1 reg h = agree_below_at (passes_at groups.AtD1) (λ _. true) 8 reg refl h
group_passes groups.AtD2 reg h = agree_below_at (passes_at groups.AtD2) (λ _. true) 8 reg refl h
group_passes groups.AtD3 reg h = agree_below_at (passes_at groups.AtD3) (λ _. true) 8 reg refl h
group_passes groups.AtF6 reg h = agree_below_at (passes_at groups.AtF6) (λ _. true) 8 reg refl h
group_passes groups.AtF7 reg h = agree_below_at (passes_at groups.AtF7) (λ _. true) 8 reg refl h
group_passes groups.AtFE reg h = agree_below_at (passes_at groups.AtFE) (λ _. true) 8 reg refl h
group_passes groups.AtFF reg h = agree_below_at (passes_at groups.AtFF) (λ _. true) 8 reg refl h
group_passes groups.At0FBA reg h = agree_below_at (passes_at groups.At0FBA) (λ _. true) 8 reg refl h

-- ---- so each instruction does

or_at : (a b : Bool) → a ≡ true → (not a || b) ≡ true → b ≡ true
or_at true b h e = e
or_at false b h e = absurd (false≢true h)

not_both : (a : Bool) → not a ≡ true → a ≡ false
not_both true h = sym h
not_both false h = refl

memory_named : (rm : Operand) (reg : ℕ) (f : Fields) → place_fields rm reg ≡ Some f → unwrap_or f.modrm 0 < 0xC0 → IsMemory rm
unfolding place_fields
memory_named operands.Absent reg f e h = cc
memory_named operands.Imm reg f e h = cc
memory_named (operands.Place base index scale offset) reg f e h = tt
memory_named (operands.Reg r) reg f e h =
    let s = cond_some (ltb r 8) (record { modrm = Some (192 + 8 * reg + r); sib = None; displacement = numbers.Absent }) f e in
    let high : 192 + 8 * reg + r < 0xC0 = subst (λ (f : Fields). unwrap_or f.modrm 0 < 0xC0) (sym s.1) h in
    omega arith

repeat_stands : (row_repeat : Repeats) (o : Op) (repeat : Repeat) → permits row_repeat repeat ≡ true → repeats_well row_repeat o ≡ true → (repeat ≡ repeats.Absent) ⊎ (is_string o ≡ true) ⊎ ((o ≡ op.Nop) × (repeat ≡ repeats.F3))
repeat_stands permitted.Neither o repeats.Absent p w = inl refl
repeat_stands permitted.Neither o repeats.F2 p w = absurd (false≢true p)
repeat_stands permitted.Neither o repeats.F3 p w = absurd (false≢true p)
repeat_stands permitted.Three o repeats.Absent p w = inl refl
repeat_stands permitted.Three o repeats.F2 p w = absurd (false≢true p)
repeat_stands permitted.Three o repeats.F3 p w = inr (⊎_elim (λ s. inl s) (λ s. inr (nop_is o s, refl)) (or_cases _ _ w))
repeat_stands permitted.Either o repeat p w = inr (inl w)

row_permits : (opcode : ℕ) (row : Row) (reg : ℕ) (v : Instr) (tail : Tail) (short : Bool) → row_passes row ≡ true → IsTail (prefixes_of v short) opcode row reg v tail → IsPermitted short v
unfolding built allows fits
row_permits opcode row reg v tail short w t =
    let m = unwrap_or tail.fields.modrm 0 in
    let o : row.op ≡ v.op = ap (λ (v : Instr). v.op) t.is in
    let lock_check = (and_parts (not row.permits.lock || (is_lockable row.op && (is_rm row.form.first && uses_modrm row.form.addressing))) _ w).0 in
    let rest = and_parts (repeats_well row.permits.repeat row.op) _ (and_parts (not row.permits.lock || (is_lockable row.op && (is_rm row.form.first && uses_modrm row.form.addressing))) _ w).1 in
    let fit = and_parts (allows (prefixes_of v short) row) _ t.fits in
    let a = and_parts ((not short || row.permits.operand_size) && (not v.lock || row.permits.lock)) (permits row.permits.repeat v.repeat) fit.0 in
    let b = and_parts (not short || row.permits.operand_size) (not v.lock || row.permits.lock) a.0 in
    record {
      lock = λ h.
          let c = and_parts (is_lockable row.op) _ (or_at row.permits.lock _ (or_at v.lock row.permits.lock h b.1) lock_check) in
          let d = and_parts (is_rm row.form.first) (uses_modrm row.form.addressing) c.1 in
          let first : v.first ≡ rm_of row.form v = sym (ap (λ (v : Instr). v.first) t.is) ∙ rm_operand row.form.first opcode m (rm_of row.form v) d.0 in
          let below : m < 0xC0 = ⊎_elim (λ e. absurd (let n = (and_parts (not v.lock) (not (is_memory_only row.form.addressing)) e).0 in both_ways v.lock (not_both v.lock n) h)) (λ e. ltb-true m 0xC0 e) (or_cases _ _ fit.1) in
          (subst (λ o. is_lockable o ≡ true) o c.0, subst IsMemory (sym first) (memory_named (rm_of row.form v) reg tail.fields (sym (modrm_fields row.form.addressing (rm_of row.form v) reg d.1) ∙ t.fields) below));
      repeat = subst (λ o. (v.repeat ≡ repeats.Absent) ⊎ (is_string o ≡ true) ⊎ ((o ≡ op.Nop) × (v.repeat ≡ repeats.F3))) o (repeat_stands row.permits.repeat row.op v.repeat a.1 rest.0);
      size = λ h.
          let four : has_four_bytes row.op ≡ true = subst (λ o. has_four_bytes o ≡ true) (sym o) h in
          let none : row.permits.operand_size ≡ false = not_both row.permits.operand_size (or_at (has_four_bytes row.op) _ four rest.1) in
          elim (cases_Bool short) [ inl e ↦ absurd (both_ways row.permits.operand_size none (or_at short row.permits.operand_size e b.0)) | inr e ↦ e ];
    }

entry_permits : (opcode : ℕ) (entry : Entry) (v : Instr) (tail : Tail) (short : Bool) → entry_passes entry ≡ true → IsEntryTail (prefixes_of v short) opcode entry v tail → IsPermitted short v
entry_permits opcode entries.Outside v tail short w t = absurd t
entry_permits opcode entries.Escape v tail short w t = absurd t
entry_permits opcode (entries.One row) v tail short w t = row_permits opcode row (reg_of row.form v) v tail short w t
entry_permits opcode (entries.Group group) v tail short w t =
    let r = tail_of_row (prefixes_of v short) opcode (slice_index_or (rows_of group) t.reg None) t.reg v tail t.at in
    row_permits opcode r.0 t.reg v tail short (subst (λ row. member_passes row ≡ true) r.1 (group_passes group t.reg t.within)) r.2

pub prefixes_permitted : PrefixesArePermitted
prefixes_permitted bytes v h = spelled_follows (λ short. IsPermitted short v) bytes v h
    (λ short opcode tail p t. entry_permits opcode (first_of opcode) v tail short (first_passes opcode p) t)
    (λ short opcode tail p t. entry_permits opcode (second_of opcode) v tail short (second_passes opcode p) t)

-- ---- floating point

abbrev is_floating : ℕ → Bool
is_floating opcode = leb 0xD8 opcode && ltb opcode 0xE0

abbrev is_outside : Entry → Bool
is_outside entries.Outside = true
is_outside entries.Escape = false
is_outside (entries.One row) = false
is_outside (entries.Group group) = false

outside_spells : (prefixes : Prefixes) (opcode : ℕ) (entry : Entry) (bytes : List ℕ) (v : Instr) → is_outside entry ≡ true → (after_first prefixes opcode entry).spells bytes v → ⊥
unfolding behind_opcode
outside_spells prefixes opcode entries.Outside bytes v e h = h
outside_spells prefixes opcode entries.Escape bytes v e h = absurd (false≢true e)
outside_spells prefixes opcode (entries.One row) bytes v e h = absurd (false≢true e)
outside_spells prefixes opcode (entries.Group group) bytes v e h = absurd (false≢true e)

floating_outside : (opcode : ℕ) → opcode < 256 → is_floating opcode ≡ true → is_outside (first_of opcode) ≡ true
unfolding first_of
floating_outside opcode p h = or_at (is_floating opcode) (is_outside (first_of opcode)) h (agree_below_at (λ opcode. not (is_floating opcode) || is_outside (first_of opcode)) (λ _. true) 256 opcode refl p)

body_apart : (prefixes : Prefixes) (opcode : ℕ) (rest : List ℕ) (v : Instr) → (body prefixes).spells (opcode ∷ rest) v → is_floating opcode ≡ true → ⊥
unfolding body
body_apart prefixes opcode rest v h e = outside_spells prefixes opcode (first_of opcode) rest v (floating_outside opcode h.0 e) h.1

apart_is : (opcode : ℕ) → (is_floating opcode ≡ true → ⊥) → (opcode < 0xD8) ⊎ (0xE0 ≤ opcode)
apart_is opcode h = ⊎_elim (λ p. inl p) (λ p. ⊎_elim (λ q. absurd (h (and_both opcode p q))) (λ q. inr q) (cases_lt opcode 0xE0)) (cases_lt opcode 0xD8)
  where
    and_both : (opcode : ℕ) → 0xD8 ≤ opcode → opcode < 0xE0 → is_floating opcode ≡ true
    and_both opcode p q = and_from _ _ (le-leb 0xD8 opcode p) (lt-ltb opcode 0xE0 q)

pub floating_is_outside : FloatingPointIsOutside
floating_is_outside bytes v h opcode rest e = apart_is opcode (body_apart (set_of h.prefixes) opcode rest v (subst (λ bytes. (body (set_of h.prefixes)).spells bytes v) e h.spelled))
