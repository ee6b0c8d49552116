-- A stop that is due may stand.
use Rattle.std.proofs.Common.{◌≡◌, ℕ, zero, suc, ◌+◌, ◌<◌, ◌≤◌, Bool, true, false, cond, not, ◌||◌, ◌==◌, List, [], ◌∷◌, Option, Some, None, refl, sym, ap, ◌∙◌, subst, length, inl, inr, arith}
use Rattle.std.specs.Prelude.{⊤, filter, nat_lt}
use Rattle.std.specs.Option.{MatchOption, option_map, option_or}
use Rattle.std.proofs.lemmas.Bool.Decides.{nat_tests}
use Rattle.nd_base.specs.declared.numbers.AdapterNo.{AdapterNo}
use Rattle.nd_base.specs.declared.numbers.CtxNo.{CtxNo}
use Rattle.log_fields.specs.declared.field_values.Cause.{Cause}
use Rattle.log_fields.specs.declared.field_values.Cause.TheVariants as cause
use Rattle.log_fields.specs.declared.field_values.Handler.{Handler}
use Rattle.log_fields.specs.declared.field_values.Handler.TheVariants as handler
use Rattle.call_log.specs.declared.entry.Entry.{Entry}
use Rattle.call_log.specs.declared.entry.Entry.TheVariants as entries
use Rattle.owner_machine.specs.declared.rows.Adapter.{Adapter}
use Rattle.owner_machine.specs.State.{Owner, at, change, is_stopped, stands, phase_is}
use Rattle.owner_machine.specs.Adapters.{stopped}
use Rattle.owner_machine.specs.Must.{Due as OwnerDue, Completes, owner_must, serves}
use Rattle.owner_machine.specs.Machine.{rule_against}
use Rattle.legal_run.specs.State.{Inputs, State, Next, Free, Takes, Verdicts, Spinning, Makes, Stops, Nothing, OnLock, OnClock, OnSync, numbers, adapter_of, start}
use Rattle.legal_run.specs.Owed.{is_finished}
use Rattle.legal_run.specs.Calls.{Did, Broken, Waits, Made, did, Drawn, Breaking, Draws, leaves}
use Rattle.legal_run.specs.After.{after, next_after, popped, call_next, leave_next, enter_next, takes, spent, stops_left, stops_behind, reaches, unfinished, adapters_stopped, number_in, cost_of}
use Rattle.legal_run.specs.Must.{Due, Owes, Exactly, ReplyOf, next_must, taken_first, must, Serves}
use Rattle.legal_run.specs.Run.{now, Run, Meets, freely, breaks_in}
use Rattle.legal_run.specs.EntryLaws.{GoesOn}
use Rattle.run_duties.proofs.Standing.{standing, is_stop, fit_at}
use Rattle.run_duties.proofs.Rows.{true_both, other_row, due_meets, goes_by, kept_from}
use Rattle.run_duties.proofs.Ones.{StandOnes, ones_after, ones_start, run_stays, served_alone}
use Rattle.run_duties.proofs.Listed.{IsListed, next_listed, stopping}

-- ---- the adapters of stops that are due: in rising order from n on, and each stands

abbrev pub StopsFrom : List Adapter → ℕ → List ℕ → Type 0
StopsFrom rows n [] = ⊤
StopsFrom rows n (a ∷ ats) = (n ≤ a) × (at standing rows a ≡ true) × StopsFrom rows (suc a) ats

stops_more : (rows new : List Adapter) (n : ℕ) (ats : List ℕ) → ((a : ℕ) → n ≤ a → at standing rows a ≡ true → at standing new a ≡ true) → StopsFrom rows n ats → StopsFrom new n ats
stops_more rows new n [] w h = tt
stops_more rows new n (a ∷ ats) w h = (h.0, w a h.0 h.1, stops_more rows new (suc a) ats (λ b less is. w b (omega (arith, less, h.0)) is) h.2)

stops_lower : (rows : List Adapter) (m n : ℕ) (ats : List ℕ) → m ≤ n → StopsFrom rows n ats → StopsFrom rows m ats
stops_lower rows m n [] less h = tt
stops_lower rows m n (a ∷ ats) less h = (omega (arith, less, h.0), h.1, h.2)

stops_filter : (rows : List Adapter) (p : ℕ → Bool) (n : ℕ) (ats : List ℕ) → StopsFrom rows n ats → StopsFrom rows n (filter p ats)
stops_filter rows p n [] h = tt
stops_filter rows p n (a ∷ ats) h = by_test (p a) (stops_filter rows p (suc a) ats h.2)
  where
    by_test : (b : Bool) → StopsFrom rows (suc a) (filter p ats) → StopsFrom rows n (cond b (a ∷ filter p ats) (filter p ats))
    by_test true more = (h.0, h.1, more)
    by_test false more = stops_lower rows n (suc a) (filter p ats) (omega (arith, h.0)) more

stops_above : (rows : List Adapter) (k n : ℕ) (ats : List ℕ) → StopsFrom rows n ats → StopsFrom rows (suc k) (filter (λ b. nat_lt k b) ats)
stops_above rows k n [] h = tt
stops_above rows k n (a ∷ ats) h = by_test (nat_lt k a) refl (stops_filter rows (λ b. nat_lt k b) (suc a) ats h.2) (stops_above rows k (suc a) ats h.2)
  where
    by_test : (b : Bool) → nat_lt k a ≡ b → StopsFrom rows (suc a) (filter (λ b. nat_lt k b) ats) → StopsFrom rows (suc k) (filter (λ b. nat_lt k b) ats)
        → StopsFrom rows (suc k) (cond b (a ∷ filter (λ b. nat_lt k b) ats) (filter (λ b. nat_lt k b) ats))
    by_test true is here more = (grind (arith, nat_tests), h.1, here)
    by_test false is here more = more

-- those of the numbers that pass, where what passes stands
stops_numbers : {A : Type 0} (rows : List Adapter) (p : ℕ → Bool) (n : ℕ) (xs : List A) → ((a : ℕ) → a < n + length xs → p a ≡ true → at standing rows a ≡ true) → StopsFrom rows n (filter p (numbers n xs))
stops_numbers rows p n [] w = tt
stops_numbers rows p n (x ∷ xs) w = by_test (p n) refl (stops_numbers rows p (suc n) xs (λ a less is. w a (omega (arith, less)) is))
  where
    by_test : (b : Bool) → p n ≡ b → StopsFrom rows (suc n) (filter p (numbers (suc n) xs)) → StopsFrom rows n (cond b (n ∷ filter p (numbers (suc n) xs)) (filter p (numbers (suc n) xs)))
    by_test true is more = (omega arith, w n (omega arith) is, more)
    by_test false is more = stops_lower rows n (suc n) _ (omega arith) more

-- one that is there, and not stopped
not_stopped : (rows : List Adapter) (a : ℕ) → a < length rows → not (at (λ row. is_stopped row.phase) rows a) ≡ true → at standing rows a ≡ true
not_stopped [] a less other = absurd (omega (arith, less))
not_stopped (row ∷ rows) zero less other = other
not_stopped (row ∷ rows) (suc a) less other = not_stopped rows a (omega (arith, less)) other

unfinished_stand : (b rest : Bool) → not (b || rest) ≡ true → not b ≡ true
unfinished_stand true rest h = h
unfinished_stand false rest h = refl

pub all_unfinished : (c : Inputs) (s : State) → StandOnes c s.owner → StopsFrom s.owner.adapters 0 (unfinished c s)
all_unfinished c s ones =
    stops_numbers s.owner.adapters (λ a. not (is_finished s a)) 0 c.adapters
    (λ a less is. not_stopped s.owner.adapters a (omega (arith, less, ones.count)) (unfinished_stand (phase_is is_stopped s.owner a) _ is))

-- the stops that a context brings
stops_brought : (c : Inputs) (s : State) (x : CtxNo) → StandOnes c s.owner → StopsFrom s.owner.adapters 0 (adapters_stopped c s (adapter_of s x.0))
stops_brought c s x ones = by_adapter (adapter_of s x.0) refl
  where
    by_adapter : (a : Option AdapterNo) → adapter_of s x.0 ≡ a → StopsFrom s.owner.adapters 0 (adapters_stopped c s a)
    by_adapter (Some a) is = (omega arith, fit_at s.owner.adapters s.owner.contexts x.0 a ones.fit is, tt)
    by_adapter None is =
        stops_numbers s.owner.adapters (λ a. not (phase_is is_stopped s.owner a)) 0 c.adapters
        (λ a less other. not_stopped s.owner.adapters a (omega (arith, less, ones.count)) other)

-- ---- what is due next

abbrev pub NextStands : List Adapter → Next → Type 0
NextStands rows (Stops why ats) = StopsFrom rows 0 ats
NextStands rows _ = ⊤

next_more : (rows new : List Adapter) (n : Next) → ((a : ℕ) → at standing rows a ≡ true → at standing new a ≡ true) → NextStands rows n → NextStands new n
next_more rows new (Stops why ats) w h = stops_more rows new 0 ats (λ a less is. w a is) h
next_more rows new Free w h = tt
next_more rows new (Takes e) w h = tt
next_more rows new (Verdicts es) w h = tt
next_more rows new (Spinning x lock) w h = tt
next_more rows new (Makes x es lent) w h = tt

call_stands : (c : Inputs) (s : State) (x : CtxNo) (words : List ℕ) (d : Did) → StandOnes c s.owner → NextStands s.owner.adapters (call_next c s x words d)
call_stands c s x words (Broken rule) ones = stops_brought c s x ones
call_stands c s x words (Waits (OnLock lock)) ones = tt
call_stands c s x words (Waits (OnClock wake)) ones = tt
call_stands c s x words (Waits (OnSync stage)) ones = tt
call_stands c s x words (Waits Nothing) ones = tt
call_stands c s x words (Made es lent writes) ones = tt

leave_stands : (c : Inputs) (s : State) (x : CtxNo) (d : Drawn) → StandOnes c s.owner → NextStands s.owner.adapters (leave_next c s x d)
leave_stands c s x (Breaking rule) ones = stops_brought c s x ones
leave_stands c s x (Draws es) ones = tt

spent_stands : (c : Inputs) (s : State) (x : CtxNo) (b : Bool) → StandOnes c s.owner → NextStands s.owner.adapters (spent c s x b)
spent_stands c s x true ones = stops_brought c s x ones
spent_stands c s x false ones = tt

takes_stands : (rows : List Adapter) (j : Option ℕ) → NextStands rows (takes j)
takes_stands rows None = tt
takes_stands rows (Some j) = tt

enter_stands : (s : State) (a : ℕ) (h : Handler) (words : List ℕ) → NextStands s.owner.adapters (enter_next s a h words)
enter_stands s a handler.ReturnPacket words = takes_stands s.owner.adapters _
enter_stands s a _ words = tt

popped_stands : (rows : List Adapter) (n : Next) → NextStands rows n → NextStands rows (popped n)
popped_stands rows (Stops why ats) h = h
popped_stands rows Free h = tt
popped_stands rows (Takes e) h = tt
popped_stands rows (Verdicts es) h = tt
popped_stands rows (Spinning x lock) h = tt
popped_stands rows (Makes x es lent) h = tt

next_stands : (c : Inputs) (s : State) (e : Entry) → is_stop e ≡ false → StandOnes c s.owner → NextStands s.owner.adapters s.next → NextStands s.owner.adapters (next_after c s e)
next_stands c s (entries.Enter a x h words writes) other ones is = enter_stands s (number_in c a) h words
next_stands c s (entries.Leave x eax) other ones is = leave_stands c s x (leaves c s x eax) ones
next_stands c s (entries.Fault x kind address) other ones is = stops_brought c s x ones
next_stands c s (entries.Turn x n) other ones is = spent_stands c s x (reaches c s x n) ones
next_stands c s (entries.Call x import words) other ones is = call_stands c s x words (did s x import words) ones
next_stands c s (entries.Reply x eax writes) other ones is = spent_stands c s x (reaches c s x (cost_of s x (record { eax = eax; writes = writes }))) ones
next_stands c s (entries.Stop a why) other ones is = absurd (cc)
next_stands c s _ other ones is = popped_stands s.owner.adapters s.next is

-- ---- a stop among others

due_above : (c : Inputs) (s : State) (a : AdapterNo) (why : Cause) (due : Due) → IsListed s.next → must s ≡ Some due → Serves c s due (entries.Stop a why)
    → NextStands s.owner.adapters s.next → StopsFrom s.owner.adapters (suc a.0) (stops_left s.next)
due_above c s a why (Exactly e) listed due is h =
    let stop = stopping s a why listed (due ∙ ap (λ (f : Entry). Some (Exactly f)) (sym is)) in
    let all : StopsFrom s.owner.adapters 0 (a.0 ∷ stop.ats) = subst (NextStands s.owner.adapters) stop.next h in
    subst (λ (n : Next). StopsFrom s.owner.adapters (suc a.0) (stops_left n)) (sym stop.next) all.2
due_above c s a why (Owes due) listed is_due is h = absurd (no_stop due (true_both (serves s.owner due (entries.Stop a why)) _ is).0)
  where
    no_stop : (d : OwnerDue) → serves s.owner d (entries.Stop a why) ≡ true → ⊥
    no_stop (Completes fresh k status) h = absurd (cc)
    no_stop _ h = absurd (cc)
due_above c s a why (ReplyOf x) listed due is h = absurd (cc)

-- where nothing must stand no stop is due
none_left : (rows : List Adapter) (k : ℕ) (s : State) → must s ≡ None → StopsFrom rows k (stops_left s.next)
unfolding must
none_left rows k s h = by_next s.next (option_map Owes (owner_must s.owner)) h
  where
    by_owner : (n : Next) (o : Option Due) → option_or o (next_must n) ≡ None → next_must n ≡ None
    by_owner n None h = h
    by_owner n (Some due) h = absurd (cc)

    by_next : (n : Next) (o : Option Due) → option_or (taken_first n) (option_or o (next_must n)) ≡ None → StopsFrom rows k (stops_left n)
    by_next (Stops why []) o h = tt
    by_next (Stops why (a ∷ ats)) o h = let none : next_must (Stops why (a ∷ ats)) ≡ None = by_owner (Stops why (a ∷ ats)) o h in absurd (cc)
    by_next Free o h = tt
    by_next (Takes e) o h = tt
    by_next (Verdicts es) o h = tt
    by_next (Spinning x lock) o h = tt
    by_next (Makes x es lent) o h = tt

turn_above : (c : Inputs) (s : State) (a : AdapterNo) (why : Cause) (d : Option Due) → must s ≡ d → IsListed s.next
    → MatchOption d (freely c s (entries.Stop a why) ≡ true) (λ x. Serves c s x (entries.Stop a why)) → NextStands s.owner.adapters s.next
    → StopsFrom s.owner.adapters (suc a.0) (stops_left s.next)
turn_above c s a why None is listed h next = none_left s.owner.adapters (suc a.0) s is
turn_above c s a why (Some due) is listed h next = due_above c s a why due listed is h next

left_by_turn : (c : Inputs) (s : State) (a : AdapterNo) (why : Cause) → breaks_in c s (entries.Stop a why) ≡ false → Meets c s (entries.Stop a why) → IsListed s.next
    → NextStands s.owner.adapters s.next → StopsFrom s.owner.adapters (suc a.0) (stops_left s.next)
left_by_turn c s a why other meets listed next = elim meets.turn [
  | inl h ↦ turn_above c s a why (must s) refl listed h next
  | inr h ↦ absurd (cc)
]

stops_stand : (c : Inputs) (s : State) (a : AdapterNo) (why : Cause) → Meets c s (entries.Stop a why) → IsListed s.next → StandOnes c s.owner
    → NextStands s.owner.adapters s.next → StopsFrom s.owner.adapters (suc a.0) (stops_behind c s a.0 why)
stops_stand c s a cause.Memory meets listed ones next = stops_above s.owner.adapters a.0 0 (unfinished c s) (all_unfinished c s ones)
stops_stand c s a (cause.Breach rule) meets listed ones next = left_by_turn c s a (cause.Breach rule) refl meets listed next
stops_stand c s a cause.Budget meets listed ones next = left_by_turn c s a cause.Budget refl meets listed next

-- behind it those above it stand still
behind_stop : (rows : List Adapter) (a : ℕ) (ats : List ℕ) → StopsFrom rows (suc a) ats → StopsFrom (change stopped rows a) 0 ats
behind_stop rows a ats h = stops_lower (change stopped rows a) 0 (suc a) ats (omega arith) (stops_more rows (change stopped rows a) (suc a) ats (λ b less is. other_row standing stopped rows a b (other b less) ∙ is) h)
  where
    other : (b : ℕ) → suc a ≤ b → (a == b) ≡ false
    other b less = grind arith

-- ---- over a run

pub record Standing (c : Inputs) (s : State) : Type 0 where
  pub ones : StandOnes c s.owner
  pub listed : IsListed s.next
  pub next : NextStands s.owner.adapters s.next

next_after_stands : (c : Inputs) (s : State) (e : Entry) (stop : Bool) → is_stop e ≡ stop → Meets c s e → Standing c s → NextStands (after c s e).owner.adapters (next_after c s e)
next_after_stands c s (entries.Stop a why) stop is meets h = behind_stop s.owner.adapters a.0 (stops_behind c s a.0 why) (stops_stand c s a why meets h.listed h.ones h.next)
next_after_stands c s e false is meets h = next_more s.owner.adapters (after c s e).owner.adapters (next_after c s e) (λ a is_there. run_stays c s e a is is_there) (next_stands c s e is h.ones h.next)
next_after_stands c s e true is meets h = absurd (cc)

pub step : (c : Inputs) (s : State) (e : Entry) → Standing c s → Meets c s e → Standing c (after c s e)
step c s e h meets = record {
  ones = ones_after c s e meets.owner h.ones;
  listed = next_listed c s e h.listed;
  next = next_after_stands c s e (is_stop e) refl meets h;
}

pub begun : (c : Inputs) → Standing c (start c)
begun c = record { ones = ones_start c; listed = tt; next = tt }

pub standing_now : (c : Inputs) (log : List Entry) → Run c log → Standing c (now c log)
standing_now c log run = kept_from c (Standing c) (step c) (start c) log (record { ones = ones_start c; listed = tt; next = tt }) run

-- ---- a stop that is due

stop_unruled : (o : Owner) (a : AdapterNo) (why : Cause) → owner_must o ≡ None → stands o a.0 ≡ true → rule_against o (entries.Stop a why) ≡ None
stop_unruled o a why none is = rw (served_alone o (entries.Stop a why) none) (rw is refl)

pub stop_stands : (c : Inputs) (log : List Entry) (a : AdapterNo) (why : Cause) → Run c log → must (now c log) ≡ Some (Exactly (entries.Stop a why)) → Meets c (now c log) (entries.Stop a why)
stop_stands c log a why run is =
    let s : State = now c log in
    let h = standing_now c log run in
    let stop = stopping s a why h.listed is in
    let all : StopsFrom s.owner.adapters 0 (a.0 ∷ stop.ats) = subst (NextStands s.owner.adapters) stop.next h.next in
    due_meets c s (Exactly (entries.Stop a why)) (entries.Stop a why) is refl (stop_unruled s.owner a why stop.nothing all.1)

pub stop_goes_on : (c : Inputs) (log : List Entry) (a : AdapterNo) (why : Cause) → Run c log → must (now c log) ≡ Some (Exactly (entries.Stop a why)) → GoesOn c (now c log)
stop_goes_on c log a why run is = goes_by c (now c log) (Exactly (entries.Stop a why)) (entries.Stop a why) is refl (stop_stands c log a why run is)

pub adapters_now : (c : Inputs) (log : List Entry) → Run c log → length (now c log).owner.adapters ≡ length c.adapters
adapters_now c log run = (standing_now c log run).ones.count

pub handlers_now : (c : Inputs) (log : List Entry) (x : ℕ) (a : AdapterNo) → Run c log → adapter_of (now c log) x ≡ Some a → stands (now c log).owner a.0 ≡ true
handlers_now c log x a run is = fit_at (now c log).owner.adapters (now c log).owner.contexts x a (standing_now c log run).ones.fit is
