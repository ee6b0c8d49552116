-- Neither writes nor instructions change which bytes may be read, written or executed.
use Rattle.std.proofs.Common.{rules, ◌≡◌, ℕ, zero, suc, ◌+◌, cond, List, [], ◌∷◌, Option, Some, None, Result, Ok, Err, refl, ap, ◌∙◌}
use Rattle.std.specs.Prelude.{⊤}
use Rattle.std.specs.Option.{option_or}
use Rattle.std.specs.FinMap as table
use Rattle.nd_base.specs.declared.numbers.Addr.{Addr}
use Rattle.nd_base.specs.declared.numbers.Slot.{Slot}
use Rattle.nd_mem.specs.declared.MemFault.{MemFault}
use Rattle.nd_mem.specs.declared.Rights.{Rights}
use Rattle.nd_mem.specs.Cell.{Cell, rights_in}
use Rattle.nd_mem.specs.Laws.{WriteLaws}
use Rattle.nd_mem.specs.Space.{Space, Cells, Access, Executing, address, allows, denied, wrapped, fault_at, fault_in, first_fault, put_from}
use Rattle.guest_map.specs.Regions.{stack}
use Rattle.guest_map.specs.Slots.{slot_at}
use Rattle.ia32_decode.specs.Decoding.{decoded}
use Rattle.ia32_decode.specs.declared.decoding.Decoded.{Decoded}
use Rattle.ia32_decode.specs.declared.decoding.Decoded.TheVariants as read
use Rattle.ia32_decode.specs.declared.instruction.Instr.{Instr}
use Rattle.ia32_step.specs.declared.effects.Stop.{Stop}
use Rattle.ia32_step.specs.declared.effects.Write.{Write as Stored}
use Rattle.ia32_step.specs.declared.effects.Write.TheVariants as stores
use Rattle.ia32_step.specs.Registers.{Registers}
use Rattle.ia32_step.specs.State.{Machine, machine, Effect, Outcome, Trapped, Moved, Faulted, cells_of}
use Rattle.ia32_step.specs.Operands.{and_then, unless, written, committed}
use Rattle.ia32_step.specs.Control.{advanced}
use Rattle.ia32_step.specs.Meaning.{effect_of, meaning}
use Rattle.ia32_step.specs.Machine.{after as behind, code_of, cut_off, ended, fetched, outcome, read_as, trapped}
use Rattle.log_fields.specs.declared.write.Write.{Write}
use Rattle.legal_run.specs.Guest.{with_writes, entered_memory, stack_bytes}
use Rattle.legal_run.specs.After.{turned}

-- every address has the same rights in both, and what is not mapped in one is not in the other
abbrev pub SameRights : Cells → Cells → Type 0
SameRights f g = (a : ℕ) → rights_in (f a) ≡ rights_in (g a)

-- ---- faults go by rights

pub fault_in_same : (access : Access) (a : Addr) (p q : Option Cell) → rights_in p ≡ rights_in q → fault_in access a p ≡ fault_in access a q
fault_in_same access a None None is = refl
fault_in_same access a (Some p) (Some q) is =
    let same : p.rights ≡ q.rights = cc in
    ap (λ (r : Rights). cond (allows access r) None (Some (denied access a))) same
fault_in_same access a None (Some q) is = absurd (cc)
fault_in_same access a (Some p) None is = absurd (cc)

pub faults_same : (access : Access) (f g : Cells) (a n : ℕ) → SameRights f g → first_fault access f a n ≡ first_fault access g a n
unfolding first_fault
faults_same access f g a zero same = refl
faults_same access f g a (suc n) same =
    ap (λ (o : Option MemFault). option_or o (first_fault access f (a + 1) n)) (fault_in_same access (address (wrapped a)) (f (wrapped a)) (g (wrapped a)) (same (wrapped a)))
    ∙ ap (option_or (fault_at access g a)) (faults_same access f g (a + 1) n same)

-- ---- writes

abbrev pub SpaceRights : Space → Space → Type 0
SpaceRights m n = SameRights (table.get m) (table.get n)

pub writes_keep : WriteLaws → (m : Space) (writes : List Write) → SpaceRights (with_writes m writes) m
writes_keep laws m [] a = refl
writes_keep laws m (write ∷ writes) a = writes_keep laws (put_from m write.at.0 write.bytes) writes a ∙ laws.rights m write.at.0 write.bytes a

pub entered_keeps : WriteLaws → (m : Space) (x : ℕ) (words : List ℕ) (writes : List Write) → SpaceRights (entered_memory m x words writes) m
entered_keeps laws m x words writes a =
    writes_keep laws (put_from m (stack x).first.0 (stack_bytes x words)) writes a ∙ laws.rights m (stack x).first.0 (stack_bytes x words) a

-- ---- steps

abbrev SpaceIn : Space → Result Space Stop → Type 0
SpaceIn m (Ok n) = SpaceRights n m
SpaceIn m (Err stop) = ⊤

abbrev MachineIn : Machine → Result Machine Stop → Type 0
MachineIn m (Ok n) = SpaceRights n.memory m.memory
MachineIn m (Err stop) = ⊤

unless_keeps : (m n : Space) (fault : Option MemFault) → SpaceRights n m → SpaceIn m (unless fault n)
unless_keeps m n None h = h
unless_keeps m n (Some fault) h = tt

written_keeps : WriteLaws → (w : Stored) (r : Registers) (m : Space) → SpaceIn m (written w r m)
written_keeps laws stores.Absent r m = λ a. refl
written_keeps laws (stores.Number w at v) r m = unless_keeps m _ _ (laws.rights m at _)
written_keeps laws (stores.Registers at) r m = unless_keeps m _ _ (laws.rights m at _)

then_keeps : (m : Machine) (r : Registers) (n : Result Space Stop) → SpaceIn m.memory n → MachineIn m (and_then n (λ s. Ok (machine r s)))
then_keeps m r (Ok n) h = h
then_keeps m r (Err stop) h = tt

committed_keeps : WriteLaws → (e : Effect) (m : Machine) → MachineIn m (committed e m)
unfolding committed
committed_keeps laws e m = then_keeps m e.registers (written e.write m.registers m.memory) (written_keeps laws e.write m.registers m.memory)

meaning_keeps : WriteLaws → (i : Instr) (n : ℕ) (m : Machine) → MachineIn m (meaning i n m)
unfolding meaning
meaning_keeps laws i n m = by_effect (effect_of i m.registers.eip (machine (advanced n m.registers) m.memory))
  where
    by_effect : (e : Result Effect Stop) → MachineIn m (and_then e (λ e. committed e m))
    by_effect (Ok e) = committed_keeps laws e m
    by_effect (Err stop) = tt

abbrev OutcomeIn : Machine → Outcome → Type 0
OutcomeIn m (Moved n) = SpaceRights n.memory m.memory
OutcomeIn m _ = ⊤

stopped_keeps : (m : Machine) (stop : Stop) (eip : ℕ) → OutcomeIn m (ended (Err stop) eip)
stopped_keeps m stop eip = search (rules)

ended_keeps : (m : Machine) (r : Result Machine Stop) (eip : ℕ) → MachineIn m r → OutcomeIn m (ended r eip)
ended_keeps m (Ok n) eip h = h
ended_keeps m (Err stop) eip h = stopped_keeps m stop eip

read_keeps : WriteLaws → (m : Machine) (d : Decoded) (k : ℕ) → OutcomeIn m (read_as d k m)
read_keeps laws m (read.One i n) k = ended_keeps m (meaning i n m) m.registers.eip (meaning_keeps laws i n m)
read_keeps laws m (read.Outside at) k = tt
read_keeps laws m read.More k = cut_keeps (fault_at Executing (cells_of m) (m.registers.eip + k))
  where
    cut_keeps : (f : Option MemFault) → OutcomeIn m (cut_off f m)
    cut_keeps None = tt
    cut_keeps (Some fault) = search (rules)

fetched_keeps : WriteLaws → (m : Machine) (f : Option MemFault) → OutcomeIn m (fetched f m)
fetched_keeps laws m None = read_keeps laws m (decoded (code_of m)) _
fetched_keeps laws m (Some fault) = search (rules)

outcome_keeps : WriteLaws → (m : Machine) → OutcomeIn m (outcome m)
unfolding outcome
outcome_keeps laws m = by_slot (slot_at m.registers.eip)
  where
    by_slot : (slot : Option Slot) → OutcomeIn m (trapped slot m)
    by_slot None = fetched_keeps laws m _
    by_slot (Some slot) = tt

behind_keeps : (m : Machine) (o : Outcome) → OutcomeIn m o → SpaceRights (behind o m).memory m.memory
behind_keeps m (Moved n) h = h
behind_keeps m (Trapped slot) h = λ a. refl
behind_keeps m (Faulted kind at) h = λ a. refl

pub turned_keeps : WriteLaws → (n : ℕ) (m : Machine) → SpaceRights (turned n m).memory m.memory
unfolding turned
turned_keeps laws zero m a = refl
turned_keeps laws (suc n) m a = behind_keeps (turned n m) (outcome (turned n m)) (outcome_keeps laws (turned n m)) a ∙ turned_keeps laws n m a
