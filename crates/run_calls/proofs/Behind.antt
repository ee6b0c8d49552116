-- What a call's entry leaves: its context's call is open, and who calls, its registers and the phases of the adapters are as they were.
use Rattle.std.proofs.Common.{◌≡◌, ℕ, zero, suc, ◌<◌, not, List, [], ◌∷◌, length, Option, Some, None, refl, ap, ◌∙◌, arith, slice_get, slice_set, slice_index_or, filter}
use Rattle.nd_base.specs.declared.numbers.AdapterNo.{AdapterNo}
use Rattle.nd_base.specs.declared.numbers.CtxNo.{CtxNo}
use Rattle.log_fields.specs.declared.field_values.Handler.{Handler}
use Rattle.call_log.specs.declared.entry.Entry.TheVariants as entries
use Rattle.owner_machine.specs.declared.rows.Context.{Context as OwnerContext}
use Rattle.owner_machine.specs.declared.rows.Context.TheVariants as kept
use Rattle.owner_machine.specs.declared.rows.Adapter.{Adapter as OwnerAdapter}
use Rattle.owner_machine.specs.State.{change, phase_is, is_stopped}
use Rattle.owner_machine.specs.Contexts as contexts
use Rattle.owner_machine.specs.Handlers.{adapters_called, adapters_answered}
use Rattle.legal_run.specs.State.{Inputs, State, adapter_in, adapter_of, adapters_of, caller, context_at, handler_in, handler_of, no_context}
use Rattle.legal_run.specs.Calls.{did}
use Rattle.legal_run.specs.After.{after, adapters_stopped, calling}

-- ---- lists

pub set_at : {A : Type 0} (xs : List A) (n : ℕ) (y d : A) → n < length xs → slice_index_or (slice_set xs n y) n d ≡ y
set_at [] n y d less = absurd (omega (arith, less))
set_at (x ∷ xs) zero y d less = refl
set_at (x ∷ xs) (suc n) y d less = set_at xs n y d (omega (arith, less))

-- a part of a place that the change keeps
pub kept_part : {A B : Type 0} (part : Option A → B) (f : A → A) → ((x : A) → part (Some (f x)) ≡ part (Some x)) → (xs : List A) (n : ℕ) → part (slice_get (change f xs n) n) ≡ part (slice_get xs n)
kept_part part f same [] n = refl
kept_part part f same (x ∷ xs) zero = same x
kept_part part f same (x ∷ xs) (suc n) = kept_part part f same xs n

-- ---- who calls

called_adapter : (import : ℕ) (words : List ℕ) (x : OwnerContext) → adapter_in (Some (contexts.calling import words x)) ≡ adapter_in (Some x)
called_adapter import words (kept.Open a h enter call) = refl
called_adapter import words kept.Free = refl

called_handler : (import : ℕ) (words : List ℕ) (x : OwnerContext) → handler_in (Some (contexts.calling import words x)) ≡ handler_in (Some x)
called_handler import words (kept.Open a h enter call) = refl
called_handler import words kept.Free = refl

pub same_adapter : (c : Inputs) (s : State) (x : CtxNo) (import : ℕ) (words : List ℕ) → adapter_of (after c s (entries.Call x import words)) x.0 ≡ adapter_of s x.0
same_adapter c s x import words = kept_part adapter_in (contexts.calling import words) (called_adapter import words) s.owner.contexts x.0

same_handler : (c : Inputs) (s : State) (x : CtxNo) (import : ℕ) (words : List ℕ) → handler_of (after c s (entries.Call x import words)) x.0 ≡ handler_of s x.0
same_handler c s x import words = kept_part handler_in (contexts.calling import words) (called_handler import words) s.owner.contexts x.0

pub same_caller : (c : Inputs) (s : State) (x : CtxNo) (import : ℕ) (words : List ℕ) → caller (after c s (entries.Call x import words)) x ≡ caller s x
same_caller c s x import words =
    ap (λ (a : Option AdapterNo). record { context = x; adapter = a; handler = handler_of (after c s (entries.Call x import words)) x.0 }) (same_adapter c s x import words)
    ∙ ap (λ (h : Handler). record { context = x; adapter = adapter_of s x.0; handler = h }) (same_handler c s x import words)

-- ---- the context

pub called : (c : Inputs) (s : State) (x : CtxNo) (import : ℕ) (words : List ℕ) → x.0 < length s.contexts
    → context_at (after c s (entries.Call x import words)) x.0 ≡ record (context_at s x.0) { call = Some (calling import words (did s x import words)) }
called c s x import words less = set_at s.contexts x.0 (record (context_at s x.0) { call = Some (calling import words (did s x import words)) }) no_context less

-- ---- adapters that are to be stopped

rows_called : (rows : List OwnerAdapter) (x : Option OwnerContext) (import : ℕ) → adapter_in x ≡ None → adapters_called rows x import ≡ rows
rows_called rows None import is = refl
rows_called rows (Some kept.Free) import is = refl
rows_called rows (Some (kept.Open None h enter call)) import is = refl
rows_called rows (Some (kept.Open (Some a) h enter call)) import is = absurd (cc)

rows_answered : (rows : List OwnerAdapter) (x : Option OwnerContext) → adapter_in x ≡ None → adapters_answered rows x ≡ rows
rows_answered rows None is = refl
rows_answered rows (Some kept.Free) is = refl
rows_answered rows (Some (kept.Open None h enter call)) is = refl
rows_answered rows (Some (kept.Open (Some a) h enter call)) is = absurd (cc)

-- the same are to be stopped where the rows of DriverEntry's call are the same
pub same_stopped : (c : Inputs) (s t : State) (a : Option AdapterNo) → (a ≡ None → t.owner.adapters ≡ s.owner.adapters) → adapters_stopped c t a ≡ adapters_stopped c s a
same_stopped c s t (Some a) same = refl
same_stopped c s t None same = ap (λ (rows : List OwnerAdapter). filter (λ a. not (phase_is is_stopped (record s.owner { adapters = rows }) a)) (adapters_of c)) (same refl)

pub call_stops : (c : Inputs) (s : State) (x : CtxNo) (import : ℕ) (words : List ℕ) → adapters_stopped c (after c s (entries.Call x import words)) (adapter_of s x.0) ≡ adapters_stopped c s (adapter_of s x.0)
call_stops c s x import words = same_stopped c s (after c s (entries.Call x import words)) (adapter_of s x.0) (λ none. rows_called s.owner.adapters (slice_get s.owner.contexts x.0) import none)
