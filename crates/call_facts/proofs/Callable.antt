-- A call that breaks no rule had all its words, so the address that it returns to can be read.
use Rattle.std.proofs.Common.{◌≡◌, ℕ, zero, suc, ◌+◌, ◌-◌, ◌/◌, ◌%◌, ◌<◌, ◌≤◌, Bool, true, false, ◌&&◌, ◌==◌, List, [], length, take, refl, sym, ap, ◌∙◌, subst, arith, rules, Option, Some, None, Result, Ok, Err, inl, inr}
use Rattle.std.specs.Prelude.{nat_le, nat_lt, if◌then◌else◌}
use Rattle.std.specs.Int.{w32, from_le_bytes}
use Rattle.std.specs.FinMap as table
use Rattle.std.specs.Str.{bytes_eq}
use Rattle.std.proofs.lemmas.Bool.{cases_lt, eqb-true}
use Rattle.std.proofs.lemmas.Bool.Decides.{nat_tests}
use Rattle.std.proofs.lemmas.Slice.Eq.{bytes_eq-Decides}
use Rattle.nd_base.specs.declared.numbers.AdapterNo.{AdapterNo}
use Rattle.nd_base.specs.declared.numbers.CtxNo.{CtxNo}
use Rattle.nd_base.specs.declared.numbers.Slot.{Slot}
use Rattle.nd_base.specs.declared.numbers.Slot.TheVariants.{Import, Leave}
use Rattle.nd_mem.specs.declared.MemFault.{MemFault}
use Rattle.nd_mem.specs.declared.MemFault.TheVariants as fault
use Rattle.nd_mem.specs.Space.{Cells, first_fault, fault_at, Reading, Executing, answer_of, bytes_from}
use Rattle.irql_lock.specs.LockState.{level_of}
use Rattle.guest_map.specs.Slots.{slot_at}
use Rattle.ia32_step.specs.Registers.{Registers, general_of, ESP}
use Rattle.ia32_decode.specs.Decoding.{decoded}
use Rattle.ia32_decode.specs.declared.decoding.Decoded.{Decoded}
use Rattle.ia32_decode.specs.declared.decoding.Decoded.TheVariants as read
use Rattle.ia32_step.specs.declared.effects.Stop.{Stop}
use Rattle.ia32_step.specs.declared.effects.Stop.TheVariants as stop
use Rattle.ia32_step.specs.Meaning.{meaning}
use Rattle.ia32_step.specs.Machine.{Machine, Outcome, Trapped, Moved, Faulted, outcome, trapped, fetched, faulted, stopped, ended, cut_off, read_as, code_of}
use Rattle.import_table.specs.Table.{row_of, rows}
use Rattle.import_table.specs.Arguments.{call_with, return_address, word_at}
use Rattle.import_table.specs.Laws.{CallLaws, call_of}
use Rattle.import_answers.specs.Outcomes.{Outcome as CallOutcome, asks, arguments_rule}
use Rattle.import_answers.specs.Answers.{level_rule}
use Rattle.legal_run.specs.Calls.{Did, Broken, Waits, Made, by_outcome, did}
use Rattle.legal_run.specs.Run.{all_below, call_words, is_at_import, words_read}
use Rattle.legal_run.specs.State.{State, adapter_of, cells, context_at}
use Rattle.legal_run.specs.After.{machine_of}

-- ---- the number of an import whose slot traps

in_order : (a n : ℕ) → (p q r : Bool) → (q ≡ true → a < 0xF0000400) → (if p then Some Leave else (if q && r then Some (Import ((a - 0xF0000000) / 16 + 1)) else None)) ≡ Some (Import n) → (1 ≤ n) × (n ≤ 64)
in_order a n true q r low e = cc
in_order a n false true true low e =
    let is : (a - 0xF0000000) / 16 + 1 ≡ n = some_import _ n e in
    let less : a < 0xF0000400 = low refl in
    (omega arith, omega arith)
  where
    some_import : (m n : ℕ) → ◌≡◌ {A = Option Slot} (Some (Import m)) (Some (Import n)) → m ≡ n
    some_import m n h = cc
in_order a n false true false low e = cc
in_order a n false false r low e = cc

pub numbered : (a n : ℕ) → slot_at a ≡ Some (Import n) → (1 ≤ n) × (n ≤ 64)
unfolding slot_at
numbered a n e = in_order a n (a == 0xF0001000) (nat_le 0xF0000000 a && nat_lt a 0xF0000400) ((a % 16) == 0) (λ h. grind (arith, nat_tests)) e

-- nothing but a slot traps
not_a_fault : (f : MemFault) (slot : Slot) → faulted f ≡ Trapped slot → ⊥
not_a_fault (fault.Unmapped a) slot e = cc
not_a_fault (fault.NotReadable a) slot e = cc
not_a_fault (fault.NotWritable a) slot e = cc
not_a_fault (fault.NotExecutable a) slot e = cc

not_stopped : (s : Stop) (eip : ℕ) (slot : Slot) → stopped s eip ≡ Trapped slot → ⊥
not_stopped stop.DivideError eip slot e = cc
not_stopped (stop.Memory f) eip slot e = not_a_fault f slot e

not_done : (r : Result Machine Stop) (eip : ℕ) (slot : Slot) → ended r eip ≡ Trapped slot → ⊥
not_done (Ok n) eip slot e = cc
not_done (Err s) eip slot e = not_stopped s eip slot e

not_cut : (f : Option MemFault) (m : Machine) (slot : Slot) → cut_off f m ≡ Trapped slot → ⊥
not_cut (Some f) m slot e = not_a_fault f slot e
not_cut None m slot e = cc

not_read : (d : Decoded) (k : ℕ) (m : Machine) (slot : Slot) → read_as d k m ≡ Trapped slot → ⊥
not_read (read.One i n) k m slot e = not_done (meaning i n m) m.registers.eip slot e
not_read (read.Outside n) k m slot e = cc
not_read read.More k m slot e = not_cut (fault_at Executing (table.get m.memory) (m.registers.eip + k)) m slot e

unfetched : (m : Machine) (slot : Slot) (f : Option MemFault) → fetched f m ≡ Trapped slot → ⊥
unfetched m slot (Some f) e = not_a_fault f slot e
unfetched m slot None e = not_read (decoded (code_of m)) (length (code_of m)) m slot e

pub trapped_at : (m : Machine) (slot : Slot) → outcome m ≡ Trapped slot → slot_at m.registers.eip ≡ Some slot
unfolding outcome
trapped_at m slot e = found (slot_at m.registers.eip) refl
  where
    found : (s : Option Slot) → slot_at m.registers.eip ≡ s → s ≡ Some slot
    found (Some other) is = let same : Trapped other ≡ Trapped slot = sym (ap (λ (s : Option Slot). trapped s m) is) ∙ e in cc
    found None is = absurd (unfetched m slot (fault_at Executing (table.get m.memory) m.registers.eip) (sym (ap (λ (s : Option Slot). trapped s m) is) ∙ e))

count_made : (import : ℕ) (word : ℕ → ℕ) (n : ℕ) → (call_with import word n).count ≡ n
unfolding call_with
count_made import word n = refl

-- ---- each import takes a word at least

takes_words : all_below (λ k. nat_le 1 (row_of (suc k)).words) 64 ≡ true
unfolding all_below rows row_of
takes_words = refl

at_each : (test : ℕ → Bool) (n k : ℕ) → all_below test n ≡ true → k < n → test k ≡ true
unfolding all_below
at_each test zero k h less = absurd (omega arith)
at_each test (suc n) k h less = elim (cases_lt k n) [
  | inl below ↦ at_each test n k (one (all_below test n) (test n) h) below
  | inr above ↦ let last : k ≡ n = omega arith in ap test last ∙ other (all_below test n) (test n) h
]
  where
    one : (x y : Bool) → (x && y) ≡ true → x ≡ true
    one true y h = refl
    one false y h = h

    other : (x y : Bool) → (x && y) ≡ true → y ≡ true
    other true y h = h
    other false y h = cc

at_least : (a b : ℕ) → nat_le a b ≡ true → a ≤ b
at_least a b h = grind (arith, nat_tests)

pub has_words : (n : ℕ) → 1 ≤ n → n ≤ 64 → 1 ≤ (row_of n).words
has_words zero low high = absurd (omega arith)
has_words (suc k) low high = at_least 1 (row_of (suc k)).words (at_each (λ k. nat_le 1 (row_of (suc k)).words) 64 k takes_words (omega arith))

-- ---- what it needs

unread : (r : Registers) (cells : Cells) (f : MemFault) → first_fault Reading cells (general_of r ESP) 4 ≡ Some f → return_address r cells ≡ Err f
unfolding word_at
unread r cells f is = ap (answer_of (from_le_bytes w32 (bytes_from cells (general_of r ESP) 4))) is

more : (n : ℕ) → 1 ≤ n → nat_le n 0 ≡ false
more n h = grind (arith, nat_tests)

abbrev pub is_broken : Did → Bool
is_broken (Broken rule) = true
is_broken (Waits wait) = false
is_broken (Made es lent writes) = false

always_broken : (s : State) (a : Option AdapterNo) (import : ℕ) (words : List ℕ) (b c : Bool) (o : CallOutcome) → c ≡ false → is_broken (by_outcome s a import words (asks b level_rule (asks c arguments_rule o))) ≡ true
always_broken s a import words true true o e = cc
always_broken s a import words true false o e = refl
always_broken s a import words false c o e = refl

-- where it can't be read, the call has no words, and breaks a rule
no_words : CallLaws → (s : State) (x : CtxNo) (import : ℕ) (f : MemFault) → first_fault Reading (cells s) (general_of (context_at s x.0).registers ESP) 4 ≡ Some f → call_words s x import ≡ []
no_words laws s x import f is =
    let r = (context_at s x.0).registers in
    ap words_read (laws.unreturned (row_of import) r (cells s) f (unread r (cells s) f is)) ∙ ap (λ (n : ℕ). take n (call_of (row_of import) r (cells s) 0).words) (count_made (row_of import).import _ 0)

unread_breaks : CallLaws → (s : State) (x : CtxNo) (import : ℕ) (f : MemFault) → 1 ≤ (row_of import).words → first_fault Reading (cells s) (general_of (context_at s x.0).registers ESP) 4 ≡ Some f
    → is_broken (did s x import (call_words s x import)) ≡ true
unread_breaks laws s x import f some is =
    subst (λ (words : List ℕ). is_broken (did s x import words) ≡ true) (sym (no_words laws s x import f is))
    (always_broken s (adapter_of s x.0) import [] (nat_le (row_of import).low (level_of s.world.levels x) && nat_le (level_of s.world.levels x) (row_of import).high) (nat_le (row_of import).words 0) _
    (more (row_of import).words some))

import_at : (o : Outcome) (n : ℕ) → is_at_import o n ≡ true → o ≡ Trapped (Import n)
import_at (Trapped (Import m)) n h = ap (λ (k : ℕ). Trapped (Import k)) (eqb-true m n h)
import_at (Trapped Leave) n h = absurd (cc)
import_at (Moved m) n h = absurd (cc)
import_at (Faulted kind at) n h = absurd (cc)

same_words : (xs ys : List ℕ) → bytes_eq xs ys ≡ true → xs ≡ ys
same_words xs ys h = search (rules, bytes_eq-Decides)

pub returns_there : CallLaws → (s : State) (x : CtxNo) (import : ℕ) (words : List ℕ) → is_at_import (outcome (machine_of s x)) import ≡ true → bytes_eq words (call_words s x import) ≡ true
    → is_broken (did s x import words) ≡ false → first_fault Reading (cells s) (general_of (context_at s x.0).registers ESP) 4 ≡ None
returns_there laws s x import words at carried kept = by_fault (first_fault Reading (cells s) (general_of (context_at s x.0).registers ESP) 4) refl
  where
    by_fault : (f : Option MemFault) → first_fault Reading (cells s) (general_of (context_at s x.0).registers ESP) 4 ≡ f → first_fault Reading (cells s) (general_of (context_at s x.0).registers ESP) 4 ≡ None
    by_fault None is = is
    by_fault (Some f) is =
        let range = numbered (machine_of s x).registers.eip import (trapped_at (machine_of s x) (Import import) (import_at (outcome (machine_of s x)) import at)) in
        let same = same_words words (call_words s x import) carried in
        let broken : is_broken (did s x import words) ≡ true =
        subst (λ (ws : List ℕ). is_broken (did s x import ws) ≡ true) (sym same) (unread_breaks laws s x import f (has_words import range.0 range.1) is) in
        absurd (cc)

-- where a call has all its words the address can be read
pub whole_returns : CallLaws → (s : State) (x : CtxNo) (import : ℕ) (words : List ℕ) → is_at_import (outcome (machine_of s x)) import ≡ true → bytes_eq words (call_words s x import) ≡ true
    → nat_le (row_of import).words (length words) ≡ true → first_fault Reading (cells s) (general_of (context_at s x.0).registers ESP) 4 ≡ None
whole_returns laws s x import words at carried whole = by_fault (first_fault Reading (cells s) (general_of (context_at s x.0).registers ESP) 4) refl
  where
    by_fault : (f : Option MemFault) → first_fault Reading (cells s) (general_of (context_at s x.0).registers ESP) 4 ≡ f → first_fault Reading (cells s) (general_of (context_at s x.0).registers ESP) 4 ≡ None
    by_fault None is = is
    by_fault (Some f) is =
        let range = numbered (machine_of s x).registers.eip import (trapped_at (machine_of s x) (Import import) (import_at (outcome (machine_of s x)) import at)) in
        let none : words ≡ [] = same_words words (call_words s x import) carried ∙ no_words laws s x import f is in
        let few : nat_le (row_of import).words (length words) ≡ false = ap (λ (ws : List ℕ). nat_le (row_of import).words (length ws)) none ∙ more (row_of import).words (has_words import range.0 range.1) in
        absurd (cc)
