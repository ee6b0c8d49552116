-- What stands behind each kind of entry of a run, from what the entry needs.
use Rattle.std.proofs.Common.{rules, ◌≡◌, ℕ, zero, suc, ◌+◌, ◌<◌, Bool, true, false, not, List, [], ◌∷◌, ◌++◌, length, refl, ap, ◌∙◌, Option, Some, None, inl, inr, arith}
use Rattle.std.specs.Prelude.{⊤, get_or}
use Rattle.std.specs.List.{list_any, list_all}
use Rattle.std.specs.Option.{option_map, option_or}
use Rattle.std.proofs.lemmas.Bool.{cases_Bool}
use Rattle.std.proofs.lemmas.List.Folds.{list_any_at, list_all_at}
use Rattle.nd_base.specs.declared.numbers.CtxNo.{CtxNo}
use Rattle.log_fields.specs.declared.field_values.Cause.{Cause}
use Rattle.call_log.specs.declared.entry.Entry.{Entry}
use Rattle.call_log.specs.declared.entry.Entry.TheVariants as entries
use Rattle.owner_machine.specs.Must.{Due as OwnerDue, owner_must}
use Rattle.legal_run.specs.State.{Inputs, State, Next, Free, Takes, Verdicts, Spinning, Makes, Stops, adapter, numbers, all_contexts}
use Rattle.legal_run.specs.Must.{Due, Owes, Exactly, first_of, made_next, first_stop, next_must, taken_first, must}
use Rattle.legal_run.specs.Run.{Run, now, Meets, freely, breaks_in}
use Rattle.legal_run.specs.Laws.{is_piecemeal}
use Rattle.legal_run.proofs.Between.{must_forced, free_turn, forced_now}
use Rattle.legal_run.proofs.Forced.{AreForced, IsForced, is_made}
use Rattle.legal_run.proofs.Runs.{run_less}

-- ---- an entry that stands by itself

pub met : (c : Inputs) (log : List Entry) (e : Entry) → Run c (log ++ e ∷ []) → Meets c (now c log) e
met c log e run = (run_less c _ log e run).1

-- of a kind that never stands where something must, and does not break in
pub stands_freely : (c : Inputs) (log : List Entry) (e : Entry) → is_piecemeal e ≡ false → breaks_in c (now c log) e ≡ false → Run c (log ++ e ∷ []) → freely c (now c log) e ≡ true
stands_freely c log e not breaks run = elim (met c log e run).turn [
  | inl h ↦ free_turn c (now c log) e (must (now c log)) not (must_forced (now c log) (forced_now c log)) h
  | inr h ↦ absurd (cc)
]

-- ---- where an entry that is named exactly comes from

-- it is of a kind that calls and leaves make, a spin, or a stop that is due
pub data Named (n : Next) (e : Entry) : Type 0 where
  OfCall : is_made e ≡ true → Named n e
  OfSpin : (x : CtxNo) (lock : Rattle.nd_base.specs.declared.numbers.Addr.Addr) → e ≡ entries.Spin x lock → Named n e
  OfStop : (why : Cause) (a : ℕ) (ats : List ℕ) → n ≡ Stops why (a ∷ ats) → e ≡ entries.Stop (adapter a) why → Named n e

abbrev pub NamedDue : Next → Due → Type 0
NamedDue n (Exactly e) = Named n e
NamedDue n _ = ⊤

abbrev pub NamedIn : Next → Option Due → Type 0
NamedIn n None = ⊤
NamedIn n (Some due) = NamedDue n due

either_named : (n : Next) (d f : Option Due) → NamedIn n d → NamedIn n f → NamedIn n (option_or d f)
either_named n None f one other = other
either_named n (Some due) f one other = one

owes_named : (n : Next) (d : Option OwnerDue) → NamedIn n (option_map Owes d)
owes_named n None = tt
owes_named n (Some d) = tt

list_named : (n : Next) (es : List Entry) → AreForced es → NamedIn n (first_of es)
list_named n [] h = tt
list_named n (e ∷ es) h = OfCall h.0

made_named : (n : Next) (x : CtxNo) (es : List Entry) → AreForced es → NamedIn n (made_next x es)
made_named n x [] h = tt
made_named n x (e ∷ es) h = OfCall h.0

stop_named : (n : Next) (why : Cause) (ats : List ℕ) → n ≡ Stops why ats → NamedIn n (first_stop ats (λ a. entries.Stop (adapter a) why))
stop_named n why [] h = tt
stop_named n why (a ∷ ats) h = OfStop why a ats h refl

next_named : (n : Next) → IsForced n → NamedIn n (next_must n)
next_named Free h = tt
next_named (Takes e) h = OfCall h
next_named (Verdicts es) h = list_named _ es h
next_named (Spinning x lock) h = OfSpin x _ refl
next_named (Makes x es lent) h = made_named _ x es h
next_named (Stops why ats) h = stop_named _ why ats refl

taken_named : (n : Next) → IsForced n → NamedIn n (taken_first n)
taken_named (Takes e) h = OfCall h
taken_named Free h = tt
taken_named (Verdicts es) h = tt
taken_named (Spinning x lock) h = tt
taken_named (Makes x es lent) h = tt
taken_named (Stops why ats) h = tt

pub must_named : (s : State) → IsForced s.next → NamedIn s.next (must s)
unfolding must
must_named s h = either_named s.next _ _ (taken_named s.next h) (either_named s.next _ _ (owes_named s.next (owner_must s.owner)) (next_named s.next h))

-- what the owner machine asks for, where that is what must stand
pub owed_by_owner : (s : State) (d : OwnerDue) → must s ≡ Some (Owes d) → owner_must s.owner ≡ Some d
unfolding must
owed_by_owner s d h = by_next s.next (owner_must s.owner) h
  where
    none_of : (n : Next) → next_must n ≡ Some (Owes d) → None ≡ Some d
    none_of Free h = absurd (cc)
    none_of (Takes e) h = absurd (cc)
    none_of (Verdicts []) h = absurd (cc)
    none_of (Verdicts (e ∷ es)) h = absurd (cc)
    none_of (Spinning x lock) h = absurd (cc)
    none_of (Makes x [] lent) h = absurd (cc)
    none_of (Makes x (e ∷ es) lent) h = absurd (cc)
    none_of (Stops why []) h = absurd (cc)
    none_of (Stops why (a ∷ ats)) h = absurd (cc)

    by_owner : (n : Next) (o : Option OwnerDue) → option_or (option_map Owes o) (next_must n) ≡ Some (Owes d) → o ≡ Some d
    by_owner n None h = none_of n h
    by_owner n (Some e) h = search rules

    by_next : (n : Next) (o : Option OwnerDue) → option_or (taken_first n) (option_or (option_map Owes o) (next_must n)) ≡ Some (Owes d) → o ≡ Some d
    by_next (Takes e) o h = absurd (cc)
    by_next Free o h = by_owner Free o h
    by_next (Verdicts es) o h = by_owner (Verdicts es) o h
    by_next (Spinning x lock) o h = by_owner (Spinning x lock) o h
    by_next (Makes x es lent) o h = by_owner (Makes x es lent) o h
    by_next (Stops why ats) o h = by_owner (Stops why ats) o h

-- ---- lists of numbers

length_numbers : {A : Type 0} (n : ℕ) (xs : List A) → length (numbers n xs) ≡ length xs
length_numbers n [] = refl
length_numbers n (x ∷ xs) = ap suc (length_numbers (suc n) xs)

number_at : {A : Type 0} (n i : ℕ) (xs : List A) → i < length xs → get_or (numbers n xs) i 0 ≡ n + i
number_at n i [] h = absurd (omega arith)
number_at n zero (x ∷ xs) h = omega arith
number_at n (suc i) (x ∷ xs) h = let rest = number_at (suc n) i xs (omega arith) in rest ∙ omega arith

first_number : {A : Type 0} (i : ℕ) (xs : List A) → i < length xs → get_or (numbers 0 xs) i 0 ≡ i
first_number i xs h = let is = number_at 0 i xs h in is ∙ omega arith

pub none_numbered : {A : Type 0} (p : ℕ → Bool) (xs : List A) (i : ℕ) → i < length xs → list_any p (numbers 0 xs) ≡ false → p i ≡ false
none_numbered p xs i h none = elim (cases_Bool (p i)) [
  | inl here ↦ let some : list_any p (numbers 0 xs) ≡ true = list_any_at p (numbers 0 xs) i 0 (rw (length_numbers 0 xs) h) (rw (first_number i xs h) here) in absurd (cc)
  | inr elsewhere ↦ elsewhere
]

pub all_numbered : {A : Type 0} (p : ℕ → Bool) (xs : List A) (i : ℕ) → i < length xs → list_all p (numbers 0 xs) ≡ true → p i ≡ true
all_numbered p xs i h all = elim (cases_Bool (p i)) [
  | inl here ↦ here
  | inr elsewhere ↦ let some : list_all p (numbers 0 xs) ≡ false = list_all_at p (numbers 0 xs) i 0 (rw (length_numbers 0 xs) h) (rw (first_number i xs h) elsewhere) in absurd (cc)
]

context_number : (i : ℕ) → i < 16 → get_or all_contexts i 0 ≡ i
context_number i h = first_number i all_contexts h

pub no_context_is : (p : ℕ → Bool) (i : ℕ) → i < 16 → list_any p all_contexts ≡ false → p i ≡ false
no_context_is p i h none = elim (cases_Bool (p i)) [
  | inl here ↦ let some : list_any p all_contexts ≡ true = list_any_at p all_contexts i 0 h (rw (context_number i h) here) in absurd (cc)
  | inr elsewhere ↦ elsewhere
]
