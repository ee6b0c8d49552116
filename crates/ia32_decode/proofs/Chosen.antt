-- No instruction has two chosen spellings.
use Rattle.std.proofs.Common.{◌≡◌, ℕ, ◌<◌, ◌⊎◌, inl, inr, Bool, true, false, List, Option, Some, None, refl, sym, ap, ◌∙◌, subst, ⊎_elim}
use Rattle.std.specs.Prelude.{slice_index_or}
use Rattle.std.proofs.lemmas.Bool.{false≢true, cases_order}
use Rattle.ia32_decode.specs.Opcodes.{rows_of, second_of}
use Rattle.ia32_decode.specs.Encoding.{bytes_of, reg_of, IsTail, IsTailOf, IsEntryTail, entry_of, prefixes_of, IsFirstGroupTail, IsFirstTail, IsFirstIn, HasNone, IsChosenFormat, IsChosen}
use Rattle.ia32_decode.specs.declared.prefixes.Prefixes.{Prefixes}
use Rattle.ia32_decode.specs.declared.instruction.Instr.{Instr}
use Rattle.ia32_decode.specs.declared.rows.Row.{Row}
use Rattle.ia32_decode.specs.declared.rows.Entry.{Entry}
use Rattle.ia32_decode.specs.declared.rows.Entry.TheVariants as entries
use Rattle.ia32_decode.specs.declared.encoding.Number.{Number}
use Rattle.ia32_decode.specs.declared.encoding.Fields.{Fields}
use Rattle.ia32_decode.specs.declared.encoding.Tail.{Tail}
use Rattle.ia32_decode.specs.declared.encoding.Format.{Format}

fields_is : (f g : Fields) → ◌≡◌ {A = Option Fields} (Some f) (Some g) → f ≡ g
fields_is f g e = cc

number_is : (m n : Number) → ◌≡◌ {A = Option Number} (Some m) (Some n) → m ≡ n
number_is m n e = cc

tail_is : (f g : Fields) (m n : Number) → f ≡ g → m ≡ n → ◌≡◌ {A = Tail} (record { fields = f; immediate = m }) (record { fields = g; immediate = n })
tail_is f g m n p q = cc

tail_is_one : (prefixes : Prefixes) (opcode : ℕ) (row : Row) (reg : ℕ) (v : Instr) (t u : Tail) → IsTail prefixes opcode row reg v t → IsTail prefixes opcode row reg v u → t ≡ u
tail_is_one prefixes opcode row reg v t u p q = tail_is t.fields u.fields t.immediate u.immediate (fields_is _ _ (sym p.fields ∙ q.fields)) (number_is _ _ (sym p.number ∙ q.number))

member_is_one : (prefixes : Prefixes) (opcode : ℕ) (member : Option Row) (reg : ℕ) (v : Instr) (t u : Tail) → IsTailOf prefixes opcode member reg v t → IsTailOf prefixes opcode member reg v u → t ≡ u
member_is_one prefixes opcode None reg v t u p q = absurd p
member_is_one prefixes opcode (Some row) reg v t u p q = tail_is_one prefixes opcode row reg v t u p q

group_is_one : (prefixes : Prefixes) (opcode : ℕ) (rows : List (Option Row)) (v : Instr) (t u : Tail) → IsFirstGroupTail prefixes opcode rows v t → IsFirstGroupTail prefixes opcode rows v u → t ≡ u
group_is_one prefixes opcode rows v t u p q = elim (cases_order p.reg q.reg) [
  | inl e ↦ member_is_one prefixes opcode (slice_index_or rows p.reg None) p.reg v t u p.at (subst (λ k. IsTailOf prefixes opcode (slice_index_or rows k None) k v u) (sym e) q.at)
  | inr h ↦ absurd (⊎_elim (λ l. q.before p.reg l t p.at) (λ l. p.before q.reg l u q.at) h)
]

first_tail_is_one : (prefixes : Prefixes) (opcode : ℕ) (entry : Entry) (v : Instr) (t u : Tail) → IsFirstTail prefixes opcode entry v t → IsFirstTail prefixes opcode entry v u → t ≡ u
first_tail_is_one prefixes opcode entries.Outside v t u p q = absurd p
first_tail_is_one prefixes opcode entries.Escape v t u p q = absurd p
first_tail_is_one prefixes opcode (entries.One row) v t u p q = tail_is_one prefixes opcode row (reg_of row.form v) v t u p q
first_tail_is_one prefixes opcode (entries.Group group) v t u p q = group_is_one prefixes opcode (rows_of group) v t u p q

entry_tail : (prefixes : Prefixes) (opcode : ℕ) (entry : Entry) (v : Instr) (t : Tail) → IsFirstTail prefixes opcode entry v t → IsEntryTail prefixes opcode entry v t
entry_tail prefixes opcode entries.Outside v t p = absurd p
entry_tail prefixes opcode entries.Escape v t p = absurd p
entry_tail prefixes opcode (entries.One row) v t p = p
entry_tail prefixes opcode (entries.Group group) v t p = record { reg = p.reg; within = p.within; at = p.at }

first_is_one : (entry_at : ℕ → Entry) (prefixes : Prefixes) (v : Instr) (k l : ℕ) (t u : Tail) → IsFirstIn entry_at prefixes v k t → IsFirstIn entry_at prefixes v l u → (k ≡ l) × (t ≡ u)
first_is_one entry_at prefixes v k l t u p q = elim (cases_order k l) [
  | inl e ↦ (e, first_tail_is_one prefixes k (entry_at k) v t u p.at (subst (λ o. IsFirstTail prefixes o (entry_at o) v u) (sym e) q.at))
  | inr h ↦ absurd (⊎_elim (λ s. q.before k s t (entry_tail prefixes k (entry_at k) v t p.at)) (λ s. p.before l s u (entry_tail prefixes l (entry_at l) v u q.at)) h)
]

has_not_none : (entry_at : ℕ → Entry) (prefixes : Prefixes) (v : Instr) (k : ℕ) (t : Tail) → IsFirstIn entry_at prefixes v k t → HasNone entry_at prefixes v → ⊥
has_not_none entry_at prefixes v k t p none = none k p.low t (entry_tail prefixes k (entry_at k) v t p.at)

same_unless : (a b : Bool) → (a ≡ true → b ≡ false → ⊥) → (b ≡ true → a ≡ false → ⊥) → a ≡ b
same_unless true true f g = refl
same_unless true false f g = absurd (f refl refl)
same_unless false true f g = absurd (g refl refl)
same_unless false false f g = refl

-- 66 stands before neither or both
not_plain : (v : Instr) (f g : Format) → IsChosenFormat v f → IsChosenFormat v g → f.prefixes.operand_size ≡ true → g.prefixes.operand_size ≡ false → ⊥
not_plain v f g p q e h =
    let same : g.prefixes ≡ prefixes_of v false = q.prefixes ∙ ap (prefixes_of v) h in
    has_not_none (entry_of g.second) (prefixes_of v false) v g.opcode g.tail (subst (λ prefixes. IsFirstIn (entry_of g.second) prefixes v g.opcode g.tail) same q.first) (p.no_plain e g.second)

same_prefixes : (v : Instr) (f g : Format) → IsChosenFormat v f → IsChosenFormat v g → f.prefixes ≡ g.prefixes
same_prefixes v f g p q = p.prefixes ∙ ap (prefixes_of v) (same_unless _ _ (not_plain v f g p q) (not_plain v g f q p)) ∙ sym q.prefixes

-- both are of one map
not_second : (v : Instr) (f g : Format) → IsChosenFormat v f → IsChosenFormat v g → f.second ≡ true → g.second ≡ false → ⊥
not_second v f g p q e h =
    let at : IsFirstIn (entry_of true) f.prefixes v f.opcode f.tail = subst (λ second. IsFirstIn (entry_of second) f.prefixes v f.opcode f.tail) e p.first in
    has_not_none (entry_of true) g.prefixes v f.opcode f.tail (subst (λ prefixes. IsFirstIn (entry_of true) prefixes v f.opcode f.tail) (same_prefixes v f g p q) at) (q.no_second h)

format_is : (p q : Prefixes) (a b : Bool) (k l : ℕ) (t u : Tail) → p ≡ q → a ≡ b → k ≡ l → t ≡ u → ◌≡◌ {A = Format} (record { prefixes = p; second = a; opcode = k; tail = t }) (record { prefixes = q; second = b; opcode = l; tail = u })
format_is p q a b k l t u e f g h = cc

format_is_one : (v : Instr) (f g : Format) → IsChosenFormat v f → IsChosenFormat v g → f ≡ g
format_is_one v f g p q =
    let prefixes = same_prefixes v f g p q in
    let second : f.second ≡ g.second = same_unless _ _ (not_second v f g p q) (not_second v g f q p) in
    let first : IsFirstIn (entry_of f.second) f.prefixes v g.opcode g.tail = subst (λ prefixes. IsFirstIn (entry_of f.second) prefixes v g.opcode g.tail) (sym prefixes) (subst (λ second. IsFirstIn (entry_of second) g.prefixes v g.opcode g.tail) (sym second) q.first) in
    let one = first_is_one (entry_of f.second) f.prefixes v f.opcode g.opcode f.tail g.tail p.first first in
    format_is f.prefixes g.prefixes f.second g.second f.opcode g.opcode f.tail g.tail prefixes second one.0 one.1

pub chosen_one : (v : Instr) (bytes others : List ℕ) → IsChosen v bytes → IsChosen v others → bytes ≡ others
chosen_one v bytes others p q = p.written ∙ ap bytes_of (format_is_one v p.format q.format p.chosen q.chosen) ∙ sym q.written
