-- A stop has its cause, and what makes one due is its reason.
use Rattle.std.proofs.Common.{◌≡◌, ℕ, Bool, true, false, List, [], ◌∷◌, ◌++◌, refl, sym, ap, ◌∙◌, subst, Option, Some, None, inl, inr}
use Rattle.std.specs.Option.{MatchOption}
use Rattle.std.proofs.lemmas.Bool.{eqb-true}
use Rattle.nd_base.specs.declared.numbers.AdapterNo.{AdapterNo}
use Rattle.nd_base.specs.declared.numbers.CtxNo.{CtxNo}
use Rattle.log_fields.specs.declared.field_values.Cause.{Cause}
use Rattle.log_fields.specs.declared.field_values.Cause.TheVariants as cause
use Rattle.log_fields.specs.declared.field_values.Handler.{Handler}
use Rattle.log_fields.specs.declared.field_values.Handler.TheVariants as handler
use Rattle.call_log.specs.declared.entry.Entry.{Entry}
use Rattle.call_log.specs.declared.entry.Entry.TheVariants as entries
use Rattle.legal_run.specs.State.{Inputs, State, Next, Free, Takes, Verdicts, Spinning, Makes, Stops, Nothing, OnLock, OnClock, OnSync, adapter}
use Rattle.legal_run.specs.Owed.{first, is_moment, silent_one}
use Rattle.legal_run.specs.Calls.{Did, Broken, Waits, Made, did, Drawn, Breaking, Draws, leaves}
use Rattle.legal_run.specs.After.{next_after, popped, call_next, leave_next, enter_next, takes, spent, breach, reaches, unfinished, number_in}
use Rattle.legal_run.specs.Must.{Due, Owes, Exactly, ReplyOf, must, Serves}
use Rattle.legal_run.specs.Run.{Run, now, freely, breaks_in}
use Rattle.legal_run.specs.EntryLaws.{HasCause, Follows, Silent, Wants, IsReason}
use Rattle.legal_run.proofs.Between.{true_both, forced_now}
use Rattle.owner_machine.specs.Must.{Due as OwnerDue, Completes, serves}
use Rattle.legal_run.proofs.Named.{NamedIn, Named, OfCall, OfSpin, OfStop, must_named, met}

-- ---- a stop

moment_is : (a : ℕ) (o : Option ℕ) → is_moment a o ≡ true → o ≡ Some a
moment_is a None h = absurd (cc)
moment_is a (Some n) h = ap Some (eqb-true n a h)

same_stop : (a b : AdapterNo) (why cause : Cause) → entries.Stop a why ≡ entries.Stop b cause → (a.0 ≡ b.0) × (why ≡ cause)
same_stop a b why cause h = (cc, cc)

named_cause : (c : Inputs) (s : State) (a : AdapterNo) (why : Cause) → Named s.next (entries.Stop a why) → HasCause c s a.0 why
named_cause c s a why (OfCall h) = absurd (cc)
named_cause c s a why (OfSpin x lock h) = absurd (cc)
named_cause c s a why (OfStop other b ats next is) =
    let same = same_stop a (adapter b) why other is in
    Follows ats (next ∙ ap (λ k. Stops k (b ∷ ats)) (sym same.1) ∙ ap (λ k. Stops why (k ∷ ats)) (sym same.0))

free_cause : (c : Inputs) (s : State) (a : AdapterNo) (why : Cause) → freely c s (entries.Stop a why) ≡ true → HasCause c s a.0 why
free_cause c s a (cause.Breach rule) h =
    let both = true_both _ _ h in
    let may = true_both _ _ both.1 in
    let is : rule.0 ≡ 13 = eqb-true rule.0 13 both.0 in
    Silent (ap breach is) may.0 (moment_is a.0 (silent_one c s) may.1)
free_cause c s a cause.Budget h = absurd (cc)
free_cause c s a cause.Memory h = absurd (cc)

breaking_cause : (c : Inputs) (s : State) (a : AdapterNo) (why : Cause) → breaks_in c s (entries.Stop a why) ≡ true → HasCause c s a.0 why
breaking_cause c s a cause.Memory h = Wants refl (moment_is a.0 (first (unfinished c s)) h)
breaking_cause c s a (cause.Breach rule) h = absurd (cc)
breaking_cause c s a cause.Budget h = absurd (cc)

due_cause : (c : Inputs) (s : State) (a : AdapterNo) (why : Cause) (due : Due) → NamedIn s.next (Some due) → Serves c s due (entries.Stop a why) → HasCause c s a.0 why
due_cause c s a why (Exactly e) named is = named_cause c s a why (subst (Named s.next) (sym is) named)
due_cause c s a why (Owes due) named is = let no_owner = true_both _ _ is in absurd (no_stop due no_owner.0)
  where
    no_stop : (d : OwnerDue) → serves s.owner d (entries.Stop a why) ≡ true → ⊥
    no_stop (Completes fresh k status) h = absurd (cc)
    no_stop _ h = absurd (cc)
due_cause c s a why (ReplyOf x) named is = absurd (cc)

turn_cause : (c : Inputs) (s : State) (a : AdapterNo) (why : Cause) (d : Option Due) → NamedIn s.next d
    → MatchOption d (freely c s (entries.Stop a why) ≡ true) (λ x. Serves c s x (entries.Stop a why)) → HasCause c s a.0 why
turn_cause c s a why None named h = free_cause c s a why h
turn_cause c s a why (Some due) named h = due_cause c s a why due named h

pub stop_cause : (c : Inputs) (log : List Entry) (a : AdapterNo) (why : Cause) → Run c (log ++ entries.Stop a why ∷ []) → HasCause c (now c log) a.0 why
stop_cause c log a why run = elim (met c log (entries.Stop a why) run).turn [
  | inl h ↦ turn_cause c (now c log) a why (must (now c log)) (must_named (now c log) (forced_now c log)) h
  | inr h ↦ breaking_cause c (now c log) a why h
]

-- ---- reasons

same_stops : (a b : Cause) (xs ys : List ℕ) → Stops a xs ≡ Stops b ys → a ≡ b
same_stops a b xs ys h = cc

call_reason : (c : Inputs) (s : State) (x : CtxNo) (words : List ℕ) (d : Did) (why : Cause) (ats : List ℕ) → call_next c s x words d ≡ Stops why ats
    → (rule : ℕ) × (d ≡ Broken rule) × (why ≡ breach rule)
call_reason c s x words (Broken rule) why ats h = (rule, refl, sym (same_stops _ _ _ _ h))
call_reason c s x words (Waits (OnLock lock)) why ats h = absurd (cc)
call_reason c s x words (Waits (OnClock wake)) why ats h = absurd (cc)
call_reason c s x words (Waits (OnSync stage)) why ats h = absurd (cc)
call_reason c s x words (Waits Nothing) why ats h = absurd (cc)
call_reason c s x words (Made es lent writes) why ats h = absurd (cc)

leave_reason : (c : Inputs) (s : State) (x : CtxNo) (d : Drawn) (why : Cause) (ats : List ℕ) → leave_next c s x d ≡ Stops why ats
    → (rule : ℕ) × (d ≡ Breaking rule) × (why ≡ breach rule)
leave_reason c s x (Breaking rule) why ats h = (rule, refl, sym (same_stops _ _ _ _ h))
leave_reason c s x (Draws es) why ats h = absurd (cc)

spent_reason : (c : Inputs) (s : State) (x : CtxNo) (b : Bool) (why : Cause) (ats : List ℕ) → spent c s x b ≡ Stops why ats → (b ≡ true) × (why ≡ cause.Budget)
spent_reason c s x true why ats h = (refl, sym (same_stops _ _ _ _ h))
spent_reason c s x false why ats h = absurd (cc)

takes_none : (j : Option ℕ) (why : Cause) (ats : List ℕ) → takes j ≡ Stops why ats → ⊥
takes_none None why ats h = absurd (cc)
takes_none (Some j) why ats h = absurd (cc)

enter_none : (s : State) (a : ℕ) (h : Handler) (words : List ℕ) (why : Cause) (ats : List ℕ) → enter_next s a h words ≡ Stops why ats → ⊥
enter_none s a handler.ReturnPacket words why ats h = takes_none _ why ats h
enter_none s a _ words why ats h = absurd (cc)

popped_reason : (n : Next) (why : Cause) (ats : List ℕ) → popped n ≡ Stops why ats → (more : List ℕ) × (n ≡ Stops why more)
popped_reason (Stops other xs) why ats h = (xs, ap (λ k. Stops k xs) (same_stops _ _ _ _ h))
popped_reason Free why ats h = absurd (cc)
popped_reason (Takes e) why ats h = absurd (cc)
popped_reason (Verdicts es) why ats h = absurd (cc)
popped_reason (Spinning x lock) why ats h = absurd (cc)
popped_reason (Makes x es lent) why ats h = absurd (cc)

pub reason : (c : Inputs) (s : State) (e : Entry) (why : Cause) (ats : List ℕ) → next_after c s e ≡ Stops why ats → IsReason c s e why
reason c s (entries.Call x import words) why ats h = call_reason c s x words (did s x import words) why ats h
reason c s (entries.Leave x eax) why ats h = leave_reason c s x (leaves c s x eax) why ats h
reason c s (entries.Fault x kind address) why ats h = sym (same_stops _ _ _ _ h)
reason c s (entries.Turn x n) why ats h = spent_reason c s x (reaches c s x n) why ats h
reason c s (entries.Reply x eax writes) why ats h = spent_reason c s x _ why ats h
reason c s (entries.Stop a before) why ats h = same_stops _ _ _ _ h
reason c s (entries.Enter a x k words writes) why ats h = absurd (enter_none s (number_in c a) k words why ats h)
reason c s _ why ats h = popped_reason s.next why ats h
