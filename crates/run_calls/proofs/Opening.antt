-- What must stand behind a call.
use Rattle.std.proofs.Common.{◌≡◌, ℕ, true, List, None, refl, sym, ap, ◌∙◌}
use Rattle.nd_base.specs.declared.numbers.CtxNo.{CtxNo}
use Rattle.nd_base.specs.declared.numbers.Breach.{Breach}
use Rattle.log_fields.specs.declared.field_values.Cause.TheVariants as cause
use Rattle.call_log.specs.declared.entry.Entry.TheVariants as entries
use Rattle.legal_run.specs.State.{Inputs, State, Free, Stops, Wait, OnLock, OnClock, OnSync, Nothing, adapter_of}
use Rattle.legal_run.specs.Calls.{Broken, Waits, did}
use Rattle.legal_run.specs.After.{after, adapters_stopped, call_next}
use Rattle.legal_run.specs.Must.{must}
use Rattle.run_stops.specs.Standing.{StatesAreFree}
use Rattle.run_calls.specs.Answering.{does_not_spin}
use Rattle.run_calls.proofs.Behind.{call_stops}

-- of one that breaks a rule, the stops of its adapter
pub broken_stops : (c : Inputs) (s : State) (x : CtxNo) (import : ℕ) (words : List ℕ) (rule : Breach) → did s x import words ≡ Broken rule.0
    → (after c s (entries.Call x import words)).next ≡ Stops (cause.Breach rule) (adapters_stopped c (after c s (entries.Call x import words)) (adapter_of s x.0))
broken_stops c s x import words rule is =
    ap (call_next c s x words) is ∙ ap (λ (ats : List ℕ). Stops (cause.Breach rule) ats) (sym (call_stops c s x import words))

free_next : (c : Inputs) (s : State) (x : CtxNo) (words : List ℕ) (wait : Wait) → does_not_spin wait ≡ true → call_next c s x words (Waits wait) ≡ Free
free_next c s x words (OnClock wake) plain = refl
free_next c s x words (OnSync stage) plain = refl
free_next c s x words (OnLock lock) plain = absurd (cc)
free_next c s x words Nothing plain = absurd (cc)

-- of one that waits, and not for a lock, nothing
pub waiting_free : StatesAreFree → (c : Inputs) (s : State) (x : CtxNo) (import : ℕ) (words : List ℕ) (wait : Wait) → did s x import words ≡ Waits wait → does_not_spin wait ≡ true
    → must (after c s (entries.Call x import words)) ≡ None
waiting_free free c s x import words wait is plain = free _ (ap (call_next c s x words) is ∙ free_next c s x words wait plain) refl
