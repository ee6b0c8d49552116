-- The words of a call, where it returns to, and what becomes of it.
use Rattle.std.proofs.Common.{◌≡◌, ℕ, zero, suc, ◌+◌, ◌-◌, ◌/◌, ◌%◌, ◌<◌, ◌≤◌, min, Bool, true, false, ◌&&◌, ◌==◌, List, [], length, take, refl, sym, ap, ◌∙◌, subst, arith, Option, Some, None, Result, Ok, Err, inl, inr}
use Rattle.std.specs.Prelude.{nat_le, nat_lt, if◌then◌else◌}
use Rattle.std.specs.Int.{w32, from_le_bytes}
use Rattle.std.specs.FinMap as table
use Rattle.std.proofs.lemmas.Bool.{cases_lt}
use Rattle.std.proofs.lemmas.Bool.Decides.{nat_tests}
use Rattle.nd_base.specs.declared.numbers.Slot.{Slot}
use Rattle.nd_base.specs.declared.numbers.Slot.TheVariants.{Import, Leave}
use Rattle.nd_base.specs.declared.numbers.Breach.{Breach}
use Rattle.nd_mem.specs.declared.MemFault.{MemFault}
use Rattle.nd_mem.specs.declared.MemFault.TheVariants as fault
use Rattle.nd_mem.specs.Space.{Cells, first_fault, fault_at, Reading, Executing, answer_of, bytes_from}
use Rattle.irql_lock.specs.LockState.{level_of}
use Rattle.guest_map.specs.Slots.{slot_at}
use Rattle.ia32_step.specs.Registers.{Registers, general_of, ESP}
use Rattle.ia32_decode.specs.Decoding.{decoded}
use Rattle.ia32_decode.specs.declared.decoding.Decoded.{Decoded}
use Rattle.ia32_decode.specs.declared.decoding.Decoded.TheVariants as read
use Rattle.ia32_step.specs.declared.effects.Stop.{Stop}
use Rattle.ia32_step.specs.declared.effects.Stop.TheVariants as stop
use Rattle.ia32_step.specs.Meaning.{meaning}
use Rattle.ia32_step.specs.Machine.{Machine, Trapped, outcome, trapped, fetched, faulted, stopped, ended, cut_off, read_as, code_of}
use Rattle.import_table.specs.declared.calls.Call.{Call}
use Rattle.import_table.specs.declared.calls.CutCall.{CutCall}
use Rattle.import_table.specs.Table.{Row, row_of, rows}
use Rattle.import_table.specs.Arguments.{arguments, argument, value, most_words, call_with, return_address, word_at, Cut, made_of, cut_of}
use Rattle.import_table.specs.Laws.{CallLaws, call_of}
use Rattle.guest_world.specs.declared.world.World.{World}
use Rattle.guest_world.specs.declared.answer.Answer.{Answer}
use Rattle.guest_world.specs.declared.answer.Answer.TheVariants.{Sleep}
use Rattle.guest_world.specs.declared.answer.Caller.{Caller}
use Rattle.guest_world.specs.declared.answer.CallRefusal.TheVariants.{Broken}
use Rattle.import_answers.specs.Outcomes.{Outcome as CallOutcome, Breaks, Replies, Picks, PicksDescriptor, Spins, Sleeps, Synchronizes, Comes, asks, arguments_rule}
use Rattle.import_answers.specs.Answers.{eight, level_rule, outcome as call_outcome}
use Rattle.guest_calls.specs.Rows.{IsCall}
use Rattle.legal_run.specs.Run.{words_read, all_below}

-- ---- the number of an import whose slot traps

in_order : (a n : ℕ) → (p q r : Bool) → (q ≡ true → a < 0xF0000400) → (if p then Some Leave else (if q && r then Some (Import ((a - 0xF0000000) / 16 + 1)) else None)) ≡ Some (Import n) → (1 ≤ n) × (n ≤ 64)
in_order a n true q r low e = cc
in_order a n false true true low e =
    let is : (a - 0xF0000000) / 16 + 1 ≡ n = some_import _ n e in
    let less : a < 0xF0000400 = low refl in
    (omega arith, omega arith)
  where
    some_import : (m n : ℕ) → ◌≡◌ {A = Option Slot} (Some (Import m)) (Some (Import n)) → m ≡ n
    some_import m n h = cc
in_order a n false true false low e = cc
in_order a n false false r low e = cc

pub numbered : (a n : ℕ) → slot_at a ≡ Some (Import n) → (1 ≤ n) × (n ≤ 64)
unfolding slot_at
numbered a n e = in_order a n (a == 0xF0001000) (nat_le 0xF0000000 a && nat_lt a 0xF0000400) ((a % 16) == 0) (λ h. grind (arith, nat_tests)) e

-- nothing but a slot traps
not_a_fault : (f : MemFault) (slot : Slot) → faulted f ≡ Trapped slot → ⊥
not_a_fault (fault.Unmapped a) slot e = cc
not_a_fault (fault.NotReadable a) slot e = cc
not_a_fault (fault.NotWritable a) slot e = cc
not_a_fault (fault.NotExecutable a) slot e = cc

not_stopped : (s : Stop) (eip : ℕ) (slot : Slot) → stopped s eip ≡ Trapped slot → ⊥
not_stopped stop.DivideError eip slot e = cc
not_stopped (stop.Memory f) eip slot e = not_a_fault f slot e

not_done : (r : Result Machine Stop) (eip : ℕ) (slot : Slot) → ended r eip ≡ Trapped slot → ⊥
not_done (Ok n) eip slot e = cc
not_done (Err s) eip slot e = not_stopped s eip slot e

not_cut : (f : Option MemFault) (m : Machine) (slot : Slot) → cut_off f m ≡ Trapped slot → ⊥
not_cut (Some f) m slot e = not_a_fault f slot e
not_cut None m slot e = cc

not_read : (d : Decoded) (k : ℕ) (m : Machine) (slot : Slot) → read_as d k m ≡ Trapped slot → ⊥
not_read (read.One i n) k m slot e = not_done (meaning i n m) m.registers.eip slot e
not_read (read.Outside n) k m slot e = cc
not_read read.More k m slot e = not_cut (fault_at Executing (table.get m.memory) (m.registers.eip + k)) m slot e

unfetched : (m : Machine) (slot : Slot) (f : Option MemFault) → fetched f m ≡ Trapped slot → ⊥
unfetched m slot (Some f) e = not_a_fault f slot e
unfetched m slot None e = not_read (decoded (code_of m)) (length (code_of m)) m slot e

pub trapped_at : (m : Machine) (slot : Slot) → outcome m ≡ Trapped slot → slot_at m.registers.eip ≡ Some slot
unfolding outcome
trapped_at m slot e = found (slot_at m.registers.eip) refl
  where
    found : (s : Option Slot) → slot_at m.registers.eip ≡ s → s ≡ Some slot
    found (Some other) is = let same : Trapped other ≡ Trapped slot = sym (ap (λ (s : Option Slot). trapped s m) is) ∙ e in cc
    found None is = absurd (unfetched m slot (fault_at Executing (table.get m.memory) m.registers.eip) (sym (ap (λ (s : Option Slot). trapped s m) is) ∙ e))

-- ---- the words of a call

eight_of : (import : ℕ) (word : ℕ → ℕ) (n : ℕ) → eight (take n (call_with import word n).words) ≡ (call_with import word n).words
unfolding call_with
eight_of import word zero = refl
eight_of import word (suc zero) = refl
eight_of import word (suc (suc zero)) = refl
eight_of import word (suc (suc (suc zero))) = refl
eight_of import word (suc (suc (suc (suc zero)))) = refl
eight_of import word (suc (suc (suc (suc (suc zero))))) = refl
eight_of import word (suc (suc (suc (suc (suc (suc zero)))))) = refl
eight_of import word (suc (suc (suc (suc (suc (suc (suc zero))))))) = refl
eight_of import word (suc (suc (suc (suc (suc (suc (suc (suc n)))))))) = refl

-- as much of a call as can be read, with so many words
abbrev pub IsFrom : Row → Registers → Cells → Call → Type 0
IsFrom row r cells call = (n : ℕ) × (call ≡ call_with row.import (λ k. value (argument row.convention r cells k)) n)

whole_made : (f : ℕ → Call) (n : ℕ) (cut : Option Cut) (call : Call) → made_of f n cut ≡ Ok call → call ≡ f n
whole_made f n None call e = cc
whole_made f n (Some cut) call e = cc

cut_made : (f : ℕ → Call) (n : ℕ) (cut : Option Cut) (c : CutCall) → made_of f n cut ≡ Err c → (k : ℕ) × (c.call ≡ f k)
cut_made f n None c e = cc
cut_made f n (Some cut) c e =
    let same : record { call = f cut.0; fault = cut.1 } ≡ c = err_is _ _ e in
    (cut.0, ap (λ (x : CutCall). x.call) (sym same))
  where
    err_is : (x y : CutCall) → ◌≡◌ {A = Result Call CutCall} (Err x) (Err y) → x ≡ y
    err_is x y h = cc

pub whole_from : (row : Row) (r : Registers) (cells : Cells) (call : Call) → arguments row r cells ≡ Ok call → IsFrom row r cells call
unfolding arguments
whole_from row r cells call e = (min row.words most_words, whole_made (call_with row.import (λ k. value (argument row.convention r cells k))) (min row.words most_words) (cut_of row r cells) call e)

pub cut_from : (row : Row) (r : Registers) (cells : Cells) (c : CutCall) → arguments row r cells ≡ Err c → IsFrom row r cells c.call
unfolding arguments
cut_from row r cells c e = cut_made (call_with row.import (λ k. value (argument row.convention r cells k))) (min row.words most_words) (cut_of row r cells) c e

import_made : (import : ℕ) (word : ℕ → ℕ) (n : ℕ) → (call_with import word n).import ≡ import
unfolding call_with
import_made import word n = refl

count_made : (import : ℕ) (word : ℕ → ℕ) (n : ℕ) → (call_with import word n).count ≡ n
unfolding call_with
count_made import word n = refl

pub import_of : (row : Row) (r : Registers) (cells : Cells) (call : Call) → IsFrom row r cells call → call.import ≡ row.import
import_of row r cells call (n, is) = ap (λ (c : Call). c.import) is ∙ import_made row.import _ n

pub is_call : (row : Row) (r : Registers) (cells : Cells) (call : Call) → 1 ≤ row.import → row.import ≤ 64 → IsFrom row r cells call → IsCall call
is_call row r cells call low high (n, is) =
    let number : call.import ≡ row.import = import_of row r cells call (n, is) in
    let word : ℕ → ℕ = λ k. value (argument row.convention r cells k) in
    let counted : call.count ≡ n = ap (λ (c : Call). c.count) is ∙ count_made row.import word n in
    record {
      from = omega (arith, number);
      to = omega (arith, number);
      zeros = ap (λ (k : ℕ). eight (take k call.words)) counted ∙ ap (λ (c : Call). eight (take n c.words)) is ∙ eight_of row.import word n ∙ sym (ap (λ (c : Call). c.words) is);
    }

-- ---- each import takes a word at least

takes_words : all_below (λ k. nat_le 1 (row_of (suc k)).words) 64 ≡ true
unfolding all_below rows row_of
takes_words = refl

at_each : (test : ℕ → Bool) (n k : ℕ) → all_below test n ≡ true → k < n → test k ≡ true
unfolding all_below
at_each test zero k h less = absurd (omega arith)
at_each test (suc n) k h less = elim (cases_lt k n) [
  | inl below ↦ at_each test n k (one (all_below test n) (test n) h) below
  | inr above ↦ let last : k ≡ n = omega arith in ap test last ∙ other (all_below test n) (test n) h
]
  where
    one : (x y : Bool) → (x && y) ≡ true → x ≡ true
    one true y h = refl
    one false y h = h

    other : (x y : Bool) → (x && y) ≡ true → y ≡ true
    other true y h = h
    other false y h = cc

at_least : (a b : ℕ) → nat_le a b ≡ true → a ≤ b
at_least a b h = grind (arith, nat_tests)

pub has_words : (n : ℕ) → 1 ≤ n → n ≤ 64 → 1 ≤ (row_of n).words
has_words zero low high = absurd (omega arith)
has_words (suc k) low high = at_least 1 (row_of (suc k)).words (at_each (λ k. nat_le 1 (row_of (suc k)).words) 64 k takes_words (omega arith))

-- ---- what becomes of it

unread : (r : Registers) (cells : Cells) (f : MemFault) → first_fault Reading cells (general_of r ESP) 4 ≡ Some f → return_address r cells ≡ Err f
unfolding word_at
unread r cells f is = ap (answer_of (from_le_bytes w32 (bytes_from cells (general_of r ESP) 4))) is

more : (n : ℕ) → 1 ≤ n → nat_le n 0 ≡ false
more n h = grind (arith, nat_tests)

always_breaks : (b c : Bool) (o : CallOutcome) (w : World) (answer : Answer) (v : World) → c ≡ false → Comes (asks b level_rule (asks c arguments_rule o)) w (Ok answer) v → ⊥
always_breaks true true o w answer v e h = cc
always_breaks true false o w answer v e h = h
always_breaks false c o w answer v e h = h

-- a call that breaks no rule had all its words, and where it returns to can be read
pub returns_to : CallLaws → (w : World) (x : Caller) (row : Row) (r : Registers) (cells : Cells) (answer : Answer) (v : World) → 1 ≤ row.words
    → Comes (call_outcome w x row (words_read (arguments row r cells))) w (Ok answer) v → first_fault Reading cells (general_of r ESP) 4 ≡ None
returns_to laws w x row r cells answer v some comes = here (first_fault Reading cells (general_of r ESP) 4) refl
  where
    here : (f : Option MemFault) → first_fault Reading cells (general_of r ESP) 4 ≡ f → first_fault Reading cells (general_of r ESP) 4 ≡ None
    here None is = is
    here (Some f) is =
        let no_words : words_read (arguments row r cells) ≡ [] = ap words_read (laws.unreturned row r cells f (unread r cells f is)) ∙ ap (λ (n : ℕ). take n (call_of row r cells 0).words) (count_made row.import _ 0) in
        absurd (always_breaks (nat_le row.low (level_of w.levels x.context) && nat_le (level_of w.levels x.context) row.high) (nat_le row.words 0) _ w answer v (more row.words some)
        (subst (λ (ws : List ℕ). Comes (call_outcome w x row ws) w (Ok answer) v) no_words comes))

pub sleeps : (o : CallOutcome) (w v : World) (wake : ℕ) → Comes o w (Ok (Sleep wake)) v → (o ≡ Sleeps wake) × (v ≡ w)
sleeps (Sleeps moment) w v wake h = (ap Sleeps (sym h.0), h.1)
sleeps (Breaks rule) w v wake h = absurd h
sleeps (Replies reply after) w v wake h = absurd h
sleeps (Picks n reply after) w v wake h = absurd h
sleeps (PicksDescriptor kind handle reply after) w v wake h = absurd h
sleeps (Spins holder after) w v wake h = absurd h
sleeps Synchronizes w v wake h = absurd h

pub breaks : (o : CallOutcome) (w v : World) (b : Breach) → Comes o w (Err (Broken b)) v → (o ≡ Breaks b.0) × (v ≡ w)
breaks (Breaks rule) w v b h = (ap Breaks (sym h.0), h.1)
breaks (Sleeps moment) w v b h = absurd h
breaks (Replies reply after) w v b h = absurd h
breaks (Picks n reply after) w v b h = absurd h
breaks (PicksDescriptor kind handle reply after) w v b h = absurd h
breaks (Spins holder after) w v b h = absurd h
breaks Synchronizes w v b h = absurd h
