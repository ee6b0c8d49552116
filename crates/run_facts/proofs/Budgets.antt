-- An adapter that has spent its budget, and is not stopped, is due to be stopped: where memory never ran out.
use Rattle.std.proofs.Common.{◌≡◌, ◌⊎◌, inl, inr, ℕ, zero, suc, ◌+◌, ◌<◌, Bool, true, false, cond, not, ◌&&◌, ◌||◌, ◌==◌, List, [], ◌∷◌, ◌++◌, Option, Some, None, refl, sym, ap, ◌∙◌, subst, length, slice_get, slice_index_or, arith}
use Rattle.std.specs.Prelude.{⊤, nat_le, position, replicate}
use Rattle.std.specs.Option.{MatchOption, option_map, option_or}
use Rattle.std.specs.List.{list_any}
use Rattle.std.proofs.lemmas.Bool.{eqb-true}
use Rattle.std.proofs.lemmas.Bool.Decides.{nat_tests}
use Rattle.nd_base.specs.declared.numbers.AdapterNo.{AdapterNo}
use Rattle.nd_base.specs.declared.numbers.CtxNo.{CtxNo}
use Rattle.nd_base.specs.declared.numbers.Phase.{Phase}
use Rattle.nd_base.specs.declared.numbers.Phase.TheVariants as phases
use Rattle.log_fields.specs.declared.field_values.Cause.{Cause}
use Rattle.log_fields.specs.declared.field_values.Cause.TheVariants as cause
use Rattle.log_fields.specs.declared.field_values.Handler.{Handler}
use Rattle.log_fields.specs.declared.field_values.Handler.TheVariants as handlers
use Rattle.call_log.specs.declared.entry.Entry.{Entry}
use Rattle.call_log.specs.declared.entry.Entry.TheVariants as entries
use Rattle.owner_machine.specs.declared.rows.Adapter.{Adapter}
use Rattle.owner_machine.specs.declared.rows.Context.{Context}
use Rattle.owner_machine.specs.declared.rows.Context.TheVariants.{Free, Open}
use Rattle.owner_machine.specs.declared.rows.Next.{Next as OwnerNext}
use Rattle.owner_machine.specs.declared.rows.Next.TheVariants as nexts
use Rattle.owner_machine.specs.State.{Owner, at, change, is_stopped, is_running, is_resetting, phase_is, stands, adapter_of as driver_adapter}
use Rattle.owner_machine.specs.Packets.{packet_adapter, out_of, behind_verdict}
use Rattle.owner_machine.specs.Loans.{away_of}
use Rattle.owner_machine.specs.Requests.{open_of}
use Rattle.owner_machine.specs.Handlers.{may_enter, adapters_entered, adapters_left, entry_left, off_unless_stopped, adapters_called, adapters_answered}
use Rattle.owner_machine.specs.Must.{Due as OwnerDue, Completes, BacksFailed, Answers, first_due, must_behind, owner_must, serves}
use Rattle.owner_machine.specs.Machine.{rule_against}
use Rattle.owner_machine.specs.Machine as owners
use Rattle.legal_run.specs.State.{Inputs, State, Next, Stops, adapter, adapter_in, adapter_of, adapters_of, numbers, start}
use Rattle.legal_run.specs.Calls.{Drawn, Breaking, Draws, leaves}
use Rattle.legal_run.specs.After.{after, charges_of, owner_left, is_breaking, reaches, reaches_for, spent, adapters_stopped, cost_of, popped, next_after, leave_next, enter_next, takes, stops_behind, stops_left}
use Rattle.legal_run.specs.Must.{Due, Owes, Exactly, next_must, taken_first, must, Serves}
use Rattle.legal_run.specs.Run.{RunFrom, Meets, now_from, cost, costs, is_charged, freely, breaks_in, is_memory_stop}
use Rattle.run_facts.specs.Facts.{IsOfRun, IsFed, stops_due}
use Rattle.run_facts.proofs.Runs.{case_of, true_both, goes, begins}
use Rattle.run_facts.proofs.Counts.{AdaptersGiven, sized}
use Rattle.run_facts.proofs.Inside.{HandlersStand, handlers_stand, inside}
use Rattle.run_facts.proofs.Levels.{filtered}

abbrev pub standing : Adapter → Bool
standing row = not (is_stopped row.phase)

-- ---- what stands behind an entry stood before it

back_kept : (f : Adapter → Adapter) (rows : List Adapter) (b a : ℕ) → ((row : Adapter) → standing (f row) ≡ true → standing row ≡ true) → at standing (change f rows b) a ≡ true → at standing rows a ≡ true
back_kept f [] b a w h = h
back_kept f (row ∷ rows) zero zero w h = w row h
back_kept f (row ∷ rows) zero (suc a) w h = h
back_kept f (row ∷ rows) (suc b) zero w h = h
back_kept f (row ∷ rows) (suc b) (suc a) w h = back_kept f rows b a w h

-- where the row that changes stands
back_where : (f : Adapter → Adapter) (rows : List Adapter) (b a : ℕ) → at standing rows b ≡ true → at standing (change f rows b) a ≡ true → at standing rows a ≡ true
back_where f [] b a is h = h
back_where f (row ∷ rows) zero zero is h = is
back_where f (row ∷ rows) zero (suc a) is h = h
back_where f (row ∷ rows) (suc b) zero is h = h
back_where f (row ∷ rows) (suc b) (suc a) is h = back_where f rows b a is h

left_back : (eax : ℕ) (rows : List Adapter) (a : ℕ) → at standing (entry_left eax rows) a ≡ true → at standing rows a ≡ true
left_back zero rows a h = h
left_back (suc eax) [] a h = h
left_back (suc eax) (row ∷ rows) zero h = by_phase row.phase h
  where
    by_phase : (p : Phase) → not (is_stopped (off_unless_stopped p)) ≡ true → not (is_stopped p) ≡ true
    by_phase phases.Stopped h = absurd (cc)
    by_phase _ h = refl
left_back (suc eax) (row ∷ rows) (suc a) h = left_back (suc eax) rows a h

-- the adapter of that context stands, if it has one
abbrev ItsStands : Owner → Option Context → Type 0
ItsStands o (Some (Open (Some b) h enter call)) = stands o b.0 ≡ true
ItsStands o _ = ⊤

leave_back : (o : Owner) (x : Option Context) (eax a : ℕ) → ItsStands o x → at standing (adapters_left o.adapters x eax) a ≡ true → at standing o.adapters a ≡ true
leave_back o (Some (Open (Some b) h enter call)) eax a is there = back_where _ o.adapters b.0 a is there
leave_back o (Some (Open None h enter call)) eax a is there = left_back eax o.adapters a there
leave_back o (Some Free) eax a is there = there
leave_back o None eax a is there = there

called_back : (rows : List Adapter) (x : Option Context) (import a : ℕ) → at standing (adapters_called rows x import) a ≡ true → at standing rows a ≡ true
called_back rows (Some (Open (Some b) h enter call)) import a is = back_kept _ rows b.0 a (λ row s. s) is
called_back rows (Some (Open None h enter call)) import a is = is
called_back rows (Some Free) import a is = is
called_back rows None import a is = is

answered_back : (rows : List Adapter) (x : Option Context) (a : ℕ) → at standing (adapters_answered rows x) a ≡ true → at standing rows a ≡ true
answered_back rows (Some (Open (Some b) h enter (Some call))) a is = back_kept _ rows b.0 a (λ row s. s) is
answered_back rows (Some (Open (Some b) h enter None)) a is = is
answered_back rows (Some (Open None h enter (Some call))) a is = is
answered_back rows (Some (Open None h enter None)) a is = is
answered_back rows (Some Free) a is = is
answered_back rows None a is = is

entered_back : (o : Owner) (b : Option AdapterNo) (x : ℕ) (h : Handler) (a : ℕ) → may_enter o b x h ≡ true → at standing (adapters_entered o.adapters b h) a ≡ true → at standing o.adapters a ≡ true
entered_back o (Some b) x h a may is = back_where _ o.adapters b.0 a (true_both (stands o b.0) _ (true_both _ _ (true_both _ _ may).1).1).0 is
entered_back o None x h a may is = is

row_stands : (test : Phase → Bool) (rows : List Adapter) (b : ℕ) → ((p : Phase) → test p ≡ true → not (is_stopped p) ≡ true) → at (λ row. test row.phase) rows b ≡ true → at standing rows b ≡ true
row_stands test [] b w h = h
row_stands test (row ∷ rows) zero w h = w row.phase h
row_stands test (row ∷ rows) (suc b) w h = row_stands test rows b w h

resetting_stands : (p : Phase) → is_resetting p ≡ true → not (is_stopped p) ≡ true
resetting_stands phases.Stopped h = absurd (cc)
resetting_stands _ h = refl

owes_stands : (rows : List Adapter) (b : ℕ) → at (λ row. is_running row.phase && row.owes_reset) rows b ≡ true → at standing rows b ≡ true
owes_stands [] b h = h
owes_stands (row ∷ rows) zero h = by_phase row.phase (true_both (is_running row.phase) row.owes_reset h).0
  where
    by_phase : (p : Phase) → is_running p ≡ true → not (is_stopped p) ≡ true
    by_phase phases.Stopped h = absurd (cc)
    by_phase _ h = refl
owes_stands (row ∷ rows) (suc b) h = owes_stands rows b h

stop_back : (row : Adapter) → standing (Rattle.owner_machine.specs.Adapters.stopped row) ≡ true → standing row ≡ true
stop_back row h = absurd (cc)

stood : (o : Owner) (e : Entry) (a : ℕ) → rule_against o e ≡ None → ((x : ℕ) → ItsStands o (slice_get o.contexts x)) → at standing (owners.after o e).adapters a ≡ true → at standing o.adapters a ≡ true
stood o (entries.Cancel driver id) a none its is = back_kept _ o.adapters (driver_adapter o driver.0) a (λ row s. s) is
stood o (entries.Event driver number bytes taken) a none its is = back_kept _ o.adapters (driver_adapter o driver.0) a (λ row s. s) is
stood o (entries.Requeue packet) a none its is = back_kept _ o.adapters (packet_adapter o packet.0) a (λ row s. s) is
stood o (entries.ResetBegin b) a none its is = back_where _ o.adapters b.0 a (owes_stands o.adapters b.0 (true_both _ _ (case_of o (entries.ResetBegin b) none)).0) is
stood o (entries.ResetEnd b status) a none its is = back_where _ o.adapters b.0 a (row_stands is_resetting o.adapters b.0 resetting_stands (true_both _ _ (case_of o (entries.ResetEnd b status) none)).0) is
stood o (entries.Enter b x h words writes) a none its is = entered_back o b x.0 h a (case_of o (entries.Enter b x h words writes) none) is
stood o (entries.Leave x eax) a none its is = leave_back o (slice_get o.contexts x.0) eax a (its x.0) is
stood o (entries.Call x import words) a none its is = called_back o.adapters (slice_get o.contexts x.0) import a is
stood o (entries.Reply x eax writes) a none its is = answered_back o.adapters (slice_get o.contexts x.0) a is
stood o (entries.Stop b why) a none its is = back_kept _ o.adapters b.0 a stop_back is
stood o _ a none its is = is

left_stood : (o : Owner) (x : CtxNo) (eax : ℕ) (breaks : Bool) (a : ℕ) → rule_against o (entries.Leave x eax) ≡ None → ((x : ℕ) → ItsStands o (slice_get o.contexts x))
    → at standing (owner_left o (entries.Leave x eax) breaks).adapters a ≡ true → at standing o.adapters a ≡ true
left_stood o x eax true a none its is = is
left_stood o x eax false a none its is = stood o (entries.Leave x eax) a none its is

run_stood : (c : Inputs) (s : State) (e : Entry) (a : ℕ) → Meets c s e → ((x : ℕ) → ItsStands s.owner (slice_get s.owner.contexts x)) → at standing (after c s e).owner.adapters a ≡ true → at standing s.owner.adapters a ≡ true
run_stood c s (entries.Leave x eax) a meets its is = left_stood s.owner x eax (is_breaking (leaves c s x eax)) a meets.owner its is
run_stood c s (entries.Reply x eax writes) a meets its is = stood s.owner (entries.Reply x eax writes) a meets.owner its is
run_stood c s e a meets its is = stood s.owner e a meets.owner its is

-- ---- what may stand where stops are due

abbrev pub due_in : Next → ℕ → Bool
due_in n a = list_any (λ b. b == a) (stops_due n)

abbrev pub is_calm : OwnerNext → Bool
is_calm nexts.Free = true
is_calm (nexts.Tail a) = true
is_calm _ = false

abbrev pub is_tail : OwnerNext → Bool
is_tail (nexts.Tail a) = true
is_tail _ = false

abbrev pub ends : Entry → Bool
ends (entries.Complete _ _) = true
ends (entries.Back _ _) = true
ends (entries.Answer _ _ _) = true
ends _ = false

completes_end : (o : Owner) (k status : ℕ) (e : Entry) → serves o (Completes false k status) e ≡ true → ends e ≡ true
completes_end o k status (entries.Complete packet other) h = refl
completes_end o k status (entries.Tag packet id) h = absurd (cc)
completes_end o k status _ h = absurd (cc)

backs_end : (o : Owner) (j : ℕ) (e : Entry) → serves o (BacksFailed j) e ≡ true → ends e ≡ true
backs_end o j (entries.Back loan failed) h = refl
backs_end o j _ h = absurd (cc)

answers_end : (o : Owner) (r status : ℕ) (e : Entry) → serves o (Answers r status) e ≡ true → ends e ≡ true
answers_end o r status (entries.Answer request other bytes) h = refl
answers_end o r status _ h = absurd (cc)

tail_ends : (o : Owner) (p q r : Option ℕ) (d : OwnerDue) (e : Entry)
    → first_due (option_map (λ k. Completes false k Rattle.owner_machine.specs.State.failure) p)
    (first_due (option_map (λ j. BacksFailed j) q) (option_map (λ n. Answers n Rattle.owner_machine.specs.State.failure) r)) ≡ Some d
    → serves o d e ≡ true → ends e ≡ true
tail_ends o (Some k) q r d e is h = let same : Completes false k Rattle.owner_machine.specs.State.failure ≡ d = cc in completes_end o k _ e (subst (λ (f : OwnerDue). serves o f e ≡ true) (sym same) h)
tail_ends o None (Some j) r d e is h = let same : BacksFailed j ≡ d = cc in backs_end o j e (subst (λ (f : OwnerDue). serves o f e ≡ true) (sym same) h)
tail_ends o None None (Some n) d e is h = let same : Answers n Rattle.owner_machine.specs.State.failure ≡ d = cc in answers_end o n _ e (subst (λ (f : OwnerDue). serves o f e ≡ true) (sym same) h)
tail_ends o None None None d e is h = absurd (cc)

calm_ends : (o : Owner) (n : OwnerNext) (d : OwnerDue) (e : Entry) → is_calm n ≡ true → must_behind o n ≡ Some d → serves o d e ≡ true → (ends e ≡ true) × (is_tail n ≡ true)
calm_ends o nexts.Free d e calm is h = absurd (cc)
calm_ends o (nexts.Tail a) d e calm is h = (tail_ends o (position (out_of a.0) o.packets) (position (away_of a.0) o.loans) (position (open_of a.0) o.requests) d e is h, refl)
calm_ends o _ d e calm is h = absurd (cc)

abbrev pub Among : State → Entry → ℕ → Cause → Type 0
Among s e b why = ((ends e ≡ true) × (is_tail s.owner.next ≡ true)) ⊎ (e ≡ entries.Stop (adapter b) why)

no_break : (c : Inputs) (s : State) (e : Entry) → is_memory_stop e ≡ false → breaks_in c s e ≡ true → ⊥
no_break c s (entries.Stop a cause.Memory) fed h = absurd (cc)
no_break c s (entries.Stop a cause.Budget) fed h = absurd (cc)
no_break c s (entries.Stop a (cause.Breach rule)) fed h = absurd (cc)
no_break c s _ fed h = absurd (cc)

must_stops : (s : State) (why : Cause) (b : ℕ) (ats : List ℕ) → s.next ≡ Stops why (b ∷ ats) → must s ≡ option_or (option_map Owes (owner_must s.owner)) (Some (Exactly (entries.Stop (adapter b) why)))
unfolding must
must_stops s why b ats is = ap (λ n. option_or (taken_first n) (option_or (option_map Owes (owner_must s.owner)) (next_must n))) is

pub among : (c : Inputs) (s : State) (e : Entry) (why : Cause) (b : ℕ) (ats : List ℕ) → s.next ≡ Stops why (b ∷ ats) → is_calm s.owner.next ≡ true → is_memory_stop e ≡ false → Meets c s e → Among s e b why
among c s e why b ats is calm fed meets = elim meets.turn [
  | inl h ↦ by_owner (owner_must s.owner) refl (subst (λ (d : Option Due). MatchOption d (freely c s e ≡ true) (λ due. Serves c s due e)) (must_stops s why b ats is) h)
  | inr h ↦ absurd (no_break c s e fed h)
]
  where
    by_owner : (m : Option OwnerDue) → owner_must s.owner ≡ m
        → MatchOption (option_or (option_map Owes m) (Some (Exactly (entries.Stop (adapter b) why)))) (freely c s e ≡ true) (λ due. Serves c s due e) → Among s e b why
    by_owner None owes h = inr h
    by_owner (Some d) owes h = inl (calm_ends s.owner s.owner.next d e calm owes (true_both (serves s.owner d e) _ h).0)

-- ---- adapters that are due

pub record IsDueIn (n : Next) (a : ℕ) : Type 0 where
  pub why : Cause
  pub first : ℕ
  pub ats : List ℕ
  pub next : n ≡ Stops why (first ∷ ats)
  pub among : list_any (λ b. b == a) (first ∷ ats) ≡ true

pub found : (n : Next) (a : ℕ) → due_in n a ≡ true → IsDueIn n a
found (Stops why []) a h = absurd (cc)
found (Stops why (b ∷ ats)) a h = record { why = why; first = b; ats = ats; next = refl; among = h }
found _ a h = absurd (cc)

popped_due : (n : Next) (a : ℕ) → due_in n a ≡ true → due_in (popped n) a ≡ true
popped_due (Stops why ats) a h = h
popped_due _ a h = absurd (cc)

popped_back : (n : Next) (a : ℕ) → due_in (popped n) a ≡ true → due_in n a ≡ true
popped_back (Stops why ats) a h = h
popped_back _ a h = absurd (cc)

ended_due : (c : Inputs) (s : State) (e : Entry) (a : ℕ) → ends e ≡ true → due_in s.next a ≡ true → due_in (next_after c s e) a ≡ true
ended_due c s (entries.Complete packet status) a is h = popped_due s.next a h
ended_due c s (entries.Back loan failed) a is h = popped_due s.next a h
ended_due c s (entries.Answer request status bytes) a is h = popped_due s.next a h
ended_due c s _ a is h = absurd (cc)

gone : (rows : List Adapter) (b : ℕ) → at standing (change Rattle.owner_machine.specs.Adapters.stopped rows b) b ≡ true → ⊥
gone [] b h = absurd (cc)
gone (row ∷ rows) zero h = absurd (cc)
gone (row ∷ rows) (suc b) h = gone rows b h

rest_due : (b a : ℕ) (ats : List ℕ) → (b == a) ≡ false → list_any (λ k. k == a) (b ∷ ats) ≡ true → list_any (λ k. k == a) ats ≡ true
rest_due b a ats other h = by_test (b == a) other h
  where
    by_test : (t : Bool) → t ≡ false → (t || list_any (λ k. k == a) ats) ≡ true → list_any (λ k. k == a) ats ≡ true
    by_test false is h = h
    by_test true is h = absurd (cc)

behind_stop : (c : Inputs) (s : State) (b : ℕ) (why : Cause) (ats : List ℕ) → is_memory_stop (entries.Stop (adapter b) why) ≡ false → s.next ≡ Stops why (b ∷ ats) → stops_behind c s b why ≡ ats
behind_stop c s b cause.Memory ats fed is = absurd (cc)
behind_stop c s b cause.Budget ats fed is = ap (λ n. stops_left n) is
behind_stop c s b (cause.Breach rule) ats fed is = ap (λ n. stops_left n) is

stopped_due : (c : Inputs) (s : State) (b : ℕ) (why : Cause) (ats : List ℕ) (a : ℕ) → is_memory_stop (entries.Stop (adapter b) why) ≡ false → s.next ≡ Stops why (b ∷ ats)
    → list_any (λ k. k == a) (b ∷ ats) ≡ true → at standing (after c s (entries.Stop (adapter b) why)).owner.adapters a ≡ true → due_in (next_after c s (entries.Stop (adapter b) why)) a ≡ true
stopped_due c s b why ats a fed is here there = by_test (b == a) refl
  where
    by_test : (t : Bool) → (b == a) ≡ t → list_any (λ k. k == a) (stops_behind c s b why) ≡ true
    by_test true same = absurd (gone s.owner.adapters b (subst (λ (n : ℕ). at standing (change Rattle.owner_machine.specs.Adapters.stopped s.owner.adapters b) n ≡ true) (sym (eqb-true b a same)) there))
    by_test false other = ap (λ l. list_any (λ k. k == a) l) (behind_stop c s b why ats fed is) ∙ rest_due b a ats other here

kept_due : (c : Inputs) (s : State) (e : Entry) (a : ℕ) → is_calm s.owner.next ≡ true → due_in s.next a ≡ true → is_memory_stop e ≡ false → Meets c s e
    → at standing (after c s e).owner.adapters a ≡ true → due_in (next_after c s e) a ≡ true
kept_due c s e a calm h fed meets there =
    let d = found s.next a h in
    elim (among c s e d.why d.first d.ats d.next calm fed meets) [
      | inl end ↦ ended_due c s e a end.0 h
      | inr stop ↦
          let its : is_memory_stop (entries.Stop (adapter d.first) d.why) ≡ false = subst (λ (f : Entry). is_memory_stop f ≡ false) stop fed in
          let row = subst (λ (f : Entry). at standing (after c s f).owner.adapters a ≡ true) stop there in
          subst (λ (f : Entry). due_in (next_after c s f) a ≡ true) (sym stop) (stopped_due c s d.first d.why d.ats a its d.next d.among row)
    ]

-- ---- what a turn or a reply brings

any_number : {A : Type 0} (p : ℕ → Bool) (xs : List A) (n a : ℕ) → a < length xs → p (n + a) ≡ true → list_any p (numbers n xs) ≡ true
any_number p [] n a less h = absurd (omega (arith, less))
any_number p (x ∷ xs) n zero less h = let here : p n ≡ true = ap p (plus n) ∙ h in rw here refl
  where
    plus : (n : ℕ) → n ≡ n + 0
    plus n = omega arith
any_number p (x ∷ xs) n (suc a) less h = by_test (p n) (any_number p xs (suc n) a (omega (arith, less)) (ap p (plus n a) ∙ h))
  where
    plus : (n a : ℕ) → suc n + a ≡ n + suc a
    plus n a = omega arith

    by_test : (t : Bool) → list_any p (numbers (suc n) xs) ≡ true → (t || list_any p (numbers (suc n) xs)) ≡ true
    by_test true more = refl
    by_test false more = more

same_number : (a : ℕ) → (a == a) ≡ true
same_number a = grind arith

not_stopped : (rows : List Adapter) (a : ℕ) → at standing rows a ≡ true → not (at (λ row. is_stopped row.phase) rows a) ≡ true
not_stopped [] a h = refl
not_stopped (row ∷ rows) zero h = h
not_stopped (row ∷ rows) (suc a) h = not_stopped rows a h

or_right : (p q : Bool) → q ≡ true → (p || q) ≡ true
or_right true q h = refl
or_right false q h = h

brought : (c : Inputs) (s : State) (n a : ℕ) (who : Option AdapterNo) → a < length c.adapters → stands s.owner a ≡ true → is_charged who a ≡ true → nat_le c.budget (charges_of s a + n) ≡ true
    → (reaches_for c s who n ≡ true) × (list_any (λ b. b == a) (adapters_stopped c s who) ≡ true)
brought c s n a (Some y) less there is h =
    let same : y.0 ≡ a = eqb-true y.0 a is in
    (subst (λ (k : ℕ). nat_le c.budget (charges_of s k + n) ≡ true) (sym same) h, rw is refl)
brought c s n a None less there is h =
    let all : list_any (λ b. nat_le c.budget (charges_of s b + n)) (adapters_of c) ≡ true = any_number (λ b. nat_le c.budget (charges_of s b + n)) c.adapters 0 a less (ap (λ (k : ℕ). nat_le c.budget (charges_of s k + n)) (zero_plus a) ∙ h) in
    let its : list_any (λ b. b == a) (adapters_of c) ≡ true = any_number (λ b. b == a) c.adapters 0 a less (ap (λ (k : ℕ). k == a) (zero_plus a) ∙ same_number a) in
    (or_right (nat_le c.budget (s.charged + n)) _ all, filtered (λ b. not (phase_is is_stopped s.owner b)) (adapters_of c) a ∙ rw (not_stopped s.owner.adapters a there) its)
  where
    zero_plus : (k : ℕ) → 0 + k ≡ k
    zero_plus k = omega arith

spent_due : (c : Inputs) (s : State) (x : CtxNo) (n a : ℕ) → a < length c.adapters → stands s.owner a ≡ true → is_charged (adapter_of s x.0) a ≡ true → nat_le c.budget (charges_of s a + n) ≡ true
    → due_in (spent c s x (reaches c s x n)) a ≡ true
spent_due c s x n a less there is h =
    let both = brought c s n a (adapter_of s x.0) less there is h in
    subst (λ (b : Bool). due_in (spent c s x b) a ≡ true) (sym both.0) both.1

-- ---- one entry

-- what an adapter is charged is the sum of what entries cost (a law of crates/legal_run)
abbrev pub Sums : Type 0
Sums = (c : Inputs) (s : State) (log : List Entry) (a : ℕ) → a < length s.charges → charges_of (now_from c s log) a ≡ charges_of s a + costs c s a log

one_cost : Sums → (c : Inputs) (s : State) (e : Entry) (a : ℕ) → a < length s.charges → charges_of (after c s e) a ≡ charges_of s a + cost s a e
unfolding now_from costs
one_cost sums c s e a less = let h = sums c s (e ∷ []) a less in omega (arith, h)

pub record Spends (c : Inputs) (s : State) : Type 0 where
  pub due : (a : ℕ) → a < length c.adapters → stands s.owner a ≡ true → nat_le c.budget (charges_of s a) ≡ true → due_in s.next a ≡ true
  pub calm : (a : ℕ) → due_in s.next a ≡ true → is_calm s.owner.next ≡ true

pub plus_none : (k : ℕ) → k + 0 ≡ k
plus_none k = omega arith

free_due : (c : Inputs) (s : State) (e : Entry) (a : ℕ) → Spends c s → is_memory_stop e ≡ false → Meets c s e → a < length c.adapters → stands s.owner a ≡ true
    → at standing (after c s e).owner.adapters a ≡ true → nat_le c.budget (charges_of s a + 0) ≡ true → due_in (next_after c s e) a ≡ true
free_due c s e a h fed meets less stood there is =
    let was = h.due a less stood (subst (λ (k : ℕ). nat_le c.budget k ≡ true) (plus_none (charges_of s a)) is) in
    kept_due c s e a (h.calm a was) was fed meets there

charged_due : (c : Inputs) (s : State) (x : CtxNo) (n : ℕ) (e : Entry) (a : ℕ) → next_after c s e ≡ spent c s x (reaches c s x n) → Spends c s → is_memory_stop e ≡ false → Meets c s e
    → a < length c.adapters → stands s.owner a ≡ true → at standing (after c s e).owner.adapters a ≡ true → (t : Bool) → is_charged (adapter_of s x.0) a ≡ t
    → nat_le c.budget (charges_of s a + cond t n 0) ≡ true → due_in (next_after c s e) a ≡ true
charged_due c s x n e a next h fed meets less stood there true its is = subst (λ (m : Next). due_in m a ≡ true) (sym next) (spent_due c s x n a less stood its is)
charged_due c s x n e a next h fed meets less stood there false its is = free_due c s e a h fed meets less stood there is

step_due : (c : Inputs) (s : State) (e : Entry) (a : ℕ) → Spends c s → is_memory_stop e ≡ false → Meets c s e → a < length c.adapters → stands s.owner a ≡ true
    → at standing (after c s e).owner.adapters a ≡ true → nat_le c.budget (charges_of s a + cost s a e) ≡ true → due_in (next_after c s e) a ≡ true
step_due c s (entries.Turn x n) a h fed meets less stood there is =
    charged_due c s x n (entries.Turn x n) a refl h fed meets less stood there (is_charged (adapter_of s x.0) a) refl is
step_due c s (entries.Reply x eax writes) a h fed meets less stood there is =
    charged_due c s x (cost_of s x (record { eax = eax; writes = writes })) (entries.Reply x eax writes) a refl h fed meets less stood there (is_charged (adapter_of s x.0) a) refl is
step_due c s e a h fed meets less stood there is = free_due c s e a h fed meets less stood there is

complete_calm : (b : Bool) (n : OwnerNext) (k : ℕ) → is_tail n ≡ true → is_calm (cond b (behind_verdict n k) nexts.Free) ≡ true
complete_calm true (nexts.Tail a) k h = refl
complete_calm true _ k h = absurd (cc)
complete_calm false n k h = refl

ended_calm : (o : Owner) (e : Entry) → ends e ≡ true → is_tail o.next ≡ true → is_calm (owners.after o e).next ≡ true
ended_calm o (entries.Complete packet status) is h = complete_calm _ o.next packet.0 h
ended_calm o (entries.Back loan failed) is h = back_calm o.next h
  where
    back_calm : (n : OwnerNext) → is_tail n ≡ true → is_calm (Rattle.owner_machine.specs.Loans.behind_back n) ≡ true
    back_calm (nexts.Tail a) h = refl
    back_calm _ h = absurd (cc)
ended_calm o (entries.Answer request status bytes) is h = answer_calm o.next h
  where
    answer_calm : (n : OwnerNext) → is_tail n ≡ true → is_calm (Rattle.owner_machine.specs.Requests.behind_answer n) ≡ true
    answer_calm (nexts.Tail a) h = refl
    answer_calm _ h = absurd (cc)
ended_calm o _ is h = absurd (cc)

abbrev is_other : Entry → Bool
is_other (entries.Enter _ _ _ _ _) = false
is_other (entries.Leave _ _) = false
is_other (entries.Fault _ _ _) = false
is_other (entries.Turn _ _) = false
is_other (entries.Call _ _ _) = false
is_other (entries.Reply _ _ _) = false
is_other (entries.Stop _ _) = false
is_other _ = true

other_calm : (c : Inputs) (s : State) (e : Entry) (a : ℕ) → Spends c s → is_other e ≡ true → is_memory_stop e ≡ false → Meets c s e → due_in (popped s.next) a ≡ true
    → is_calm (owners.after s.owner e).next ≡ true
other_calm c s e a h other fed meets is =
    let was = popped_back s.next a is in
    let d = found s.next a was in
    elim (among c s e d.why d.first d.ats d.next (h.calm a was) fed meets) [
      | inl end ↦ ended_calm s.owner e end.0 end.1
      | inr stop ↦ absurd (no_stop (subst (λ (f : Entry). is_other f ≡ true) stop other))
    ]
  where
    no_stop : false ≡ true → ⊥
    no_stop h = absurd (cc)

leave_calm : (c : Inputs) (s : State) (x : CtxNo) (eax : ℕ) (d : Drawn) (a : ℕ) → due_in (leave_next c s x d) a ≡ true → is_calm (owner_left s.owner (entries.Leave x eax) (is_breaking d)).next ≡ true
leave_calm c s x eax (Breaking rule) a h = refl
leave_calm c s x eax (Draws es) a h = absurd (cc)

takes_none : (j : Option ℕ) (a : ℕ) → due_in (takes j) a ≡ true → ⊥
takes_none None a h = absurd (cc)
takes_none (Some j) a h = absurd (cc)

enter_none : (s : State) (n : ℕ) (h : Handler) (words : List ℕ) (a : ℕ) → due_in (enter_next s n h words) a ≡ true → ⊥
enter_none s n handlers.ReturnPacket words a is = takes_none _ a is
enter_none s n _ words a is = absurd (cc)

step_calm : (c : Inputs) (s : State) (e : Entry) (a : ℕ) → Spends c s → is_memory_stop e ≡ false → Meets c s e → due_in (next_after c s e) a ≡ true → is_calm (after c s e).owner.next ≡ true
step_calm c s (entries.Enter b x h words writes) a spends fed meets is = absurd (enter_none s _ h words a is)
step_calm c s (entries.Leave x eax) a spends fed meets is = leave_calm c s x eax (leaves c s x eax) a is
step_calm c s (entries.Fault x kind address) a spends fed meets is = refl
step_calm c s (entries.Turn x n) a spends fed meets is = refl
step_calm c s (entries.Call x import words) a spends fed meets is = refl
step_calm c s (entries.Reply x eax writes) a spends fed meets is = refl
step_calm c s (entries.Stop b why) a spends fed meets is = refl
step_calm c s e a spends fed meets is = other_calm c s e a spends refl fed meets is

-- ---- over a run

pub its_stands : HandlersStand → (c : Inputs) (s : State) → IsOfRun c s → (x : ℕ) → ItsStands s.owner (slice_get s.owner.contexts x)
its_stands stand c s is x = by_row (slice_get s.owner.contexts x) refl
  where
    by_row : (m : Option Context) → slice_get s.owner.contexts x ≡ m → ItsStands s.owner m
    by_row (Some (Open (Some b) h enter call)) there = handlers_stand stand c s x b is (ap (λ m. adapter_in m) there)
    by_row (Some (Open None h enter call)) there = tt
    by_row (Some Free) there = tt
    by_row None there = tt

step : Sums → HandlersStand → (c : Inputs) (s : State) (e : Entry) → IsOfRun c s → Spends c s → is_memory_stop e ≡ false → Meets c s e → Spends c (after c s e)
step sums stand c s e is h fed meets = record {
  due = λ a less there spent.
      let count = (sized c s is).charges in
      let cost = one_cost sums c s e a (omega (arith, less, count)) in
      step_due c s e a h fed meets less (run_stood c s e a meets (its_stands stand c s is) there) there (subst (λ (k : ℕ). nat_le c.budget k ≡ true) cost spent);
  calm = λ a due. step_calm c s e a h fed meets due;
}

fed_parts : (p q : Bool) → (p || q) ≡ false → (p ≡ false) × (q ≡ false)
fed_parts false q h = (refl, h)
fed_parts true q h = absurd (cc)

fed_from : Sums → HandlersStand → (c : Inputs) (s : State) (log : List Entry) → IsOfRun c s → Spends c s → RunFrom c s log → list_any is_memory_stop log ≡ false → Spends c (now_from c s log)
unfolding RunFrom now_from
fed_from sums stand c s [] is h run fed = h
fed_from sums stand c s (e ∷ log) is h run fed =
    let parts = fed_parts (is_memory_stop e) (list_any is_memory_stop log) fed in
    fed_from sums stand c (after c s e) log (goes c s e is run.0) (step sums stand c s e is h parts.0 run.0) run.1 parts.1

pub zero_at : (n a : ℕ) → slice_index_or {A = ℕ} (replicate n 0) a 0 ≡ zero
zero_at zero a = refl
zero_at (suc n) zero = refl
zero_at (suc n) (suc a) = zero_at n a

no_charge : (budget k : ℕ) → 0 < budget → k ≡ 0 → nat_le budget (0 + k) ≡ true → ⊥
no_charge budget k some none h = grind (arith, nat_tests)

begun : (c : Inputs) → 0 < c.budget → Spends c (start c)
begun c some = record {
  due = λ a less there spent. absurd (no_charge c.budget _ some (zero_at (length c.adapters) a) spent);
  calm = λ a due. refl;
}

pub spends : Sums → HandlersStand → (c : Inputs) (s : State) → 0 < c.budget → IsFed c s → Spends c s
spends sums stand c s some fed = subst (Spends c) fed.is.reaches.state (fed_from sums stand c (start c) fed.is.log (begins c) (begun c some) fed.is.reaches.run fed.fed)

pub due : Sums → HandlersStand → (c : Inputs) (s : State) (a : ℕ) → 0 < c.budget → IsFed c s → a < length c.adapters → stands s.owner a ≡ true → nat_le c.budget (charges_of s a) ≡ true
    → list_any (λ b. b == a) (stops_due s.next) ≡ true
due sums stand c s a some fed less there spent = (spends sums stand c s some fed).due a less there spent

pub none_due : (s : State) (a : ℕ) → must s ≡ None → due_in s.next a ≡ true → ⊥
none_due s a none h =
    let d = found s.next a h in
    by_owner d.why d.first (owner_must s.owner) (sym (must_stops s d.why d.first d.ats d.next) ∙ none)
  where
    by_owner : (why : Cause) (b : ℕ) (m : Option OwnerDue) → option_or (option_map Owes m) (Some (Exactly (entries.Stop (adapter b) why))) ≡ None → ⊥
    by_owner why b None h = absurd (cc)
    by_owner why b (Some due) h = absurd (cc)

pub unspent : Sums → AdaptersGiven → HandlersStand → (c : Inputs) (s : State) (x : CtxNo) (a : AdapterNo) → 0 < c.budget → IsFed c s → must s ≡ None → adapter_of s x.0 ≡ Some a → reaches c s x 0 ≡ false
unspent sums given stand c s x a some fed none its =
    ap (λ (who : Option AdapterNo). reaches_for c s who 0) its ∙ by_test (nat_le c.budget (charges_of s a.0 + 0)) refl
  where
    by_test : (t : Bool) → nat_le c.budget (charges_of s a.0 + 0) ≡ t → t ≡ false
    by_test false is = refl
    by_test true is =
        let there = handlers_stand stand c s x.0 a fed.is its in
        let less = inside given stand c s x.0 a fed.is its in
        absurd (none_due s a.0 none (due sums stand c s a.0 some fed less there (subst (λ (k : ℕ). nat_le c.budget k ≡ true) (plus_none (charges_of s a.0)) is)))

-- ---- runs in which memory never ran out

neither : (p q : Bool) → p ≡ false → q ≡ false → (p || q) ≡ false
neither false q one other = other
neither true q one other = absurd (cc)

no_memory : (log : List Entry) (e : Entry) → list_any is_memory_stop log ≡ false → is_memory_stop e ≡ false → list_any is_memory_stop (log ++ e ∷ []) ≡ false
no_memory [] e fed is = neither (is_memory_stop e) false is refl
no_memory (f ∷ log) e fed is =
    let parts = fed_parts (is_memory_stop f) (list_any is_memory_stop log) fed in
    neither (is_memory_stop f) (list_any is_memory_stop (log ++ e ∷ [])) parts.0 (no_memory log e parts.1 is)

pub fed_begins : (c : Inputs) → IsFed c (start c)
unfolding begins
fed_begins c = record { is = begins c; fed = refl }

pub fed_goes : (c : Inputs) (s : State) (e : Entry) → IsFed c s → is_memory_stop e ≡ false → Meets c s e → IsFed c (after c s e)
unfolding goes
fed_goes c s e fed other meets = record { is = goes c s e fed.is meets; fed = no_memory fed.is.log e fed.fed other }
