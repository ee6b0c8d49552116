-- An open call that waits, that has all its words, or whose entries or reply are due, returns to an address that can be read.
use Rattle.std.proofs.Common.{◌≡◌, ℕ, zero, suc, Bool, true, false, ◌&&◌, ◌==◌, List, [], ◌∷◌, length, Option, Some, None, refl, sym, ap, ◌∙◌, subst, nat_le, slice_set}
use Rattle.std.specs.Prelude.{is_none, not, replicate}
use Rattle.std.specs.Option.{option_map, option_or, option_and_then}
use Rattle.std.specs.Str.{bytes_eq}
use Rattle.std.proofs.lemmas.Bool.{eqb-true}
use Rattle.nd_base.specs.declared.numbers.CtxNo.{CtxNo}
use Rattle.nd_mem.specs.Laws.{WriteLaws}
use Rattle.nd_mem.specs.Space.{first_fault, Reading}
use Rattle.irql_lock.specs.LockState.{level_of}
use Rattle.ia32_step.specs.Registers.{general_of, ESP}
use Rattle.ia32_step.specs.Machine.{outcome}
use Rattle.log_fields.specs.declared.field_values.Handler.{Handler}
use Rattle.log_fields.specs.declared.field_values.Handler.TheVariants as handler
use Rattle.log_fields.specs.declared.write.Write.{Write}
use Rattle.call_log.specs.declared.entry.Entry.{Entry}
use Rattle.call_log.specs.declared.entry.Entry.TheVariants as entries
use Rattle.import_table.specs.Laws.{CallLaws}
use Rattle.import_table.specs.Table.{row_of}
use Rattle.import_answers.specs.Outcomes.{Outcome, asks, arguments_rule}
use Rattle.import_answers.specs.Answers.{level_rule}
use Rattle.guest_world.specs.declared.world.World.{World}
use Rattle.owner_machine.specs.Must.{Due as OwnerDue, owner_must}
use Rattle.legal_run.specs.Laws.{CallsKeep}
use Rattle.legal_run.specs.State.{Inputs, State, Context, Calling, Wait, Nothing, OnLock, OnClock, OnSync, Needed, Entered, Next, Free, Takes, Verdicts, Spinning, Makes, Stops, call_at, cells, context_at, is_open, no_context, no_contexts, start}
use Rattle.legal_run.specs.Calls.{Did, Broken, Waits, Made, Drawn, Breaking, Draws, did, leaves}
use Rattle.legal_run.specs.Enters.{loan_named}
use Rattle.legal_run.specs.Must.{Owes, ReplyOf, must, next_must, taken_first}
use Rattle.legal_run.specs.Replies.{Answered, Told, answered, answered_by, by_outcome}
use Rattle.legal_run.specs.After.{after, call_next, calling, cost_of, enter_next, leave_next, machine_of, next_after, number_in, popped, reaches, spent, takes}
use Rattle.legal_run.specs.Run.{Meets, call_words, is_at_import, is_going, is_over}
use Rattle.run_facts.specs.Facts.{IsOfRun}
use Rattle.call_facts.specs.Returns.{CanReturn, waits}
use Rattle.call_facts.proofs.Induction.{of_run}
use Rattle.call_facts.proofs.Moments.{own, stands_freely, true_both}
use Rattle.call_facts.proofs.Kept.{stays}
use Rattle.call_facts.proofs.Callable.{is_broken, returns_there, whole_returns}
use Rattle.call_facts.proofs.Activities.{acts, as_was, entered_has, left_has, place, replied_has, same_contexts, set_has, turn_contexts, turned_context}
use Rattle.call_facts.proofs.Syncs.{Laws, all_sync, called_for, reply_found, turns_going, wait_in}

-- what the proofs take of other crates
pub record Grounds : Type 0 where
  pub laws : Laws
  pub calls : CallLaws
  pub writes : WriteLaws
  pub keep : CallsKeep

-- where its registers say that it returns to could be read at the start
abbrev Readable : Inputs → Context → Type 0
Readable c v = first_fault Reading (cells (start c)) (general_of v.registers ESP) 4 ≡ None

-- it has all its words
abbrev is_whole : Calling → Bool
is_whole call = nat_le (row_of call.import).words (length call.words)

-- entries of the context's call, or its reply, are due
abbrev makes_for : Next → ℕ → Bool
makes_for (Makes x es lent) y = x.0 == y
makes_for _ y = false

record Returns (c : Inputs) (n : Next) (y : ℕ) (v : Context) : Type 0 where
  pub waiting : (call : Calling) → v.call ≡ Some call → waits call.wait ≡ true → Readable c v
  pub whole : (call : Calling) → v.call ≡ Some call → is_whole call ≡ true → Readable c v
  pub made : makes_for n y ≡ true → Readable c v

by_place : (c : Inputs) (n : Next) (y : ℕ) (v : Context) → Readable c v → Returns c n y v
by_place c n y v h = record { waiting = λ call is waits. h; whole = λ call is whole. h; made = λ makes. h }

without : (c : Inputs) (n : Next) (y : ℕ) (v : Context) → v.call ≡ None → makes_for n y ≡ false → Returns c n y v
without c n y v none makes = record { waiting = λ call is waits. absurd (cc); whole = λ call is whole. absurd (cc); made = λ m. absurd (cc) }

less : (c : Inputs) (n m : Next) (y : ℕ) (v : Context) → (makes_for m y ≡ true → makes_for n y ≡ true) → Returns c n y v → Returns c m y v
less c n m y v fewer h = record { waiting = h.waiting; whole = h.whole; made = λ makes. h.made (fewer makes) }

none_made : (c : Inputs) (n m : Next) (y : ℕ) (v : Context) → makes_for m y ≡ false → Returns c n y v → Returns c m y v
none_made c n m y v none h = less c n m y v (λ makes. absurd (cc)) h

-- ---- what is due behind an entry

takes_none : (m : Option ℕ) (y : ℕ) → makes_for (takes m) y ≡ false
takes_none None y = refl
takes_none (Some j) y = refl

enter_none : (s : State) (a : ℕ) (h : Handler) (words : List ℕ) (y : ℕ) → makes_for (enter_next s a h words) y ≡ false
enter_none s a handler.ReturnPacket words y = takes_none (loan_named s a words) y
enter_none s a _ words y = refl

leave_none : (c : Inputs) (s : State) (x : CtxNo) (d : Drawn) (y : ℕ) → makes_for (leave_next c s x d) y ≡ false
leave_none c s x (Breaking rule) y = refl
leave_none c s x (Draws es) y = refl

spent_none : (c : Inputs) (s : State) (x : CtxNo) (b : Bool) (y : ℕ) → makes_for (spent c s x b) y ≡ false
spent_none c s x true y = refl
spent_none c s x false y = refl

popped_fewer : (n : Next) (y : ℕ) → makes_for (popped n) y ≡ true → makes_for n y ≡ true
popped_fewer (Makes x es lent) y h = h
popped_fewer Free y h = h
popped_fewer (Takes e) y h = absurd (cc)
popped_fewer (Verdicts es) y h = absurd (cc)
popped_fewer (Spinning x lock) y h = absurd (cc)
popped_fewer (Stops why ats) y h = absurd (cc)

next_fewer : (c : Inputs) (s : State) (e : Entry) (y : ℕ) → acts e ≡ false → makes_for (next_after c s e) y ≡ true → makes_for s.next y ≡ true
next_fewer c s (entries.Enter a x h words writes) y is makes = absurd (cc)
next_fewer c s (entries.Leave x eax) y is makes = absurd (cc)
next_fewer c s (entries.Turn x n) y is makes = absurd (cc)
next_fewer c s (entries.Call x import words) y is makes = absurd (cc)
next_fewer c s (entries.Reply x eax writes) y is makes = absurd (cc)
next_fewer c s (entries.Fault x kind at) y is makes = absurd (cc)
next_fewer c s (entries.Stop a why) y is makes = absurd (cc)
next_fewer c s _ y is makes = popped_fewer s.next y makes

-- ---- one entry

waits_there : (c : Inputs) (n : Next) (y : ℕ) (v : Context) (w : Wait) → Returns c n y v → wait_in v.call ≡ Some w → waits w ≡ true → Readable c v
waits_there c n y v w h is waiting = by_call v.call refl is
  where
    by_call : (m : Option Calling) → v.call ≡ m → wait_in m ≡ Some w → Readable c v
    by_call None its one = absurd (cc)
    by_call (Some call) its one = let same : w ≡ call.wait = cc in h.waiting call its (subst (λ (k : Wait). waits k ≡ true) same waiting)

no_call : (m : Option Calling) → is_none m ≡ true → m ≡ None
no_call None h = refl
no_call (Some call) h = absurd (cc)

going_calls : (c : Inputs) (s : State) (z : CtxNo) → is_going c s z ≡ true → call_at s z.0 ≡ None
going_calls c s z going = no_call (call_at s z.0) (true_both (is_none (call_at s z.0)) (not (is_over c s)) (true_both (is_open s z.0) _ going).1).0

at_start : Grounds → (c : Inputs) (s : State) (x : CtxNo) → IsOfRun c s → CanReturn s x → Readable c (context_at s x.0)
at_start g c s x is h = sym (stays g.writes g.keep g.laws.on c s Reading (general_of (context_at s x.0).registers ESP) 4 is) ∙ h

-- a new call
new_call : Grounds → (c : Inputs) (s : State) (x : CtxNo) (import : ℕ) (words : List ℕ) (d : Did) → IsOfRun c s → is_at_import (outcome (machine_of s x)) import ≡ true → bytes_eq words (call_words s x import) ≡ true
    → did s x import words ≡ d → Returns c (call_next c s x words d) x.0 (record (context_at s x.0) { call = Some (calling import words d) })
new_call g c s x import words (Broken rule) is at carried judged = record {
  waiting = λ call its waiting. let same : record { import = import; words = words; wait = Nothing; writes = [] } ≡ call = cc in let none : waits call.wait ≡ false = ap (λ (k : Calling). waits k.wait) (sym same) in absurd (cc);
  whole = λ call its whole.
      let same : record { import = import; words = words; wait = Nothing; writes = [] } ≡ call = cc in
      at_start g c s x is (whole_returns g.calls s x import words at carried (ap is_whole same ∙ whole));
  made = λ makes. absurd (cc);
}
new_call g c s x import words (Waits wait) is at carried judged =
    by_place c _ x.0 _ (at_start g c s x is (returns_there g.calls s x import words at carried (ap is_broken judged)))
new_call g c s x import words (Made es lent writes) is at carried judged =
    by_place c _ x.0 _ (at_start g c s x is (returns_there g.calls s x import words at carried (ap is_broken judged)))

call_other : (c : Inputs) (s : State) (x : CtxNo) (words : List ℕ) (d : Did) (y : ℕ) → (x.0 == y) ≡ false → makes_for (call_next c s x words d) y ≡ false
call_other c s x words (Broken rule) y other = refl
call_other c s x words (Waits Nothing) y other = refl
call_other c s x words (Waits (OnLock lock)) y other = refl
call_other c s x words (Waits (OnClock wake)) y other = refl
call_other c s x words (Waits (OnSync stage)) y other = refl
call_other c s x words (Made es lent writes) y other = other

without_call : (c : Inputs) (n : Next) (y : ℕ) (v : Context) → v.call ≡ None → (makes_for n y ≡ true → Readable c v) → Returns c n y v
without_call c n y v none made = record { waiting = λ call is waits. absurd (cc); whole = λ call is whole. absurd (cc); made = made }

call_step : Grounds → (c : Inputs) (s : State) (x : CtxNo) (import : ℕ) (words : List ℕ) (y : ℕ) → IsOfRun c s → Meets c s (entries.Call x import words) → Returns c s.next y (context_at s y)
    → Returns c (call_next c s x words (did s x import words)) y (context_at (after c s (entries.Call x import words)) y)
call_step g c s x import words y is meets h =
    let parts = true_both (is_going c s x) _ (stands_freely g.laws.runs g.laws.between c s (entries.Call x import words) is meets refl refl) in
    let words_are = true_both (is_at_import (outcome (machine_of s x)) import) (bytes_eq words (call_words s x import)) parts.1 in
    let new = new_call g c s x import words (did s x import words) is words_are.0 words_are.1 refl in
    set_has (Returns c (call_next c s x words (did s x import words)) y) s.contexts x.0 y (record (context_at s x.0) { call = Some (calling import words (did s x import words)) })
    (λ same. subst (λ (k : ℕ). Returns c (call_next c s x words (did s x import words)) k (record (context_at s x.0) { call = Some (calling import words (did s x import words)) })) same new)
    (by_test (x.0 == y) refl (going_calls c s x parts.0) new.made)
  where
    by_test : (b : Bool) → (x.0 == y) ≡ b → call_at s x.0 ≡ None → (makes_for (call_next c s x words (did s x import words)) x.0 ≡ true → Readable c (context_at s x.0))
        → Returns c (call_next c s x words (did s x import words)) y (context_at s y)
    by_test true same none made =
        subst (λ (k : ℕ). Returns c (call_next c s x words (did s x import words)) k (context_at s k)) (eqb-true x.0 y same)
        (without_call c (call_next c s x words (did s x import words)) x.0 (context_at s x.0) none made)
    by_test false other none made = none_made c s.next _ y (context_at s y) (call_other c s x words (did s x import words) y other) h

step : Grounds → (c : Inputs) (s : State) (e : Entry) (y : ℕ) → IsOfRun c s → Meets c s e → Returns c s.next y (context_at s y) → Returns c (next_after c s e) y (context_at (after c s e) y)
step g c s (entries.Enter a x h words writes) y is meets before =
    let none = enter_none s (number_in c a) h words y in
    let n = enter_next s (number_in c a) h words in
    entered_has (Returns c n y) c s a x h words writes y
    (λ same. without c n y _ refl none)
    (λ sync found. by_place c n y _ (waits_there c s.next y (context_at s y) (OnSync Needed) before (called_for s (record { 0 = number_in c a }) y found).needs refl))
    (none_made c s.next n y (context_at s y) none before)
step g c s (entries.Leave x eax) y is meets before =
    let none = leave_none c s x (leaves c s x eax) y in
    let n = leave_next c s x (leaves c s x eax) in
    left_has (Returns c n y) c s x eax y
    (λ kept sync found. by_place c n y _ (waits_there c s.next y (context_at s y) (OnSync Entered) before ((all_sync g.laws c s is).asked x.0 y sync found).waits refl))
    (none_made c s.next n y (context_at s y) none before)
step g c s (entries.Turn x n) y is meets before =
    let none = spent_none c s x (reaches c s x n) y in
    let m = spent c s x (reaches c s x n) in
    as_was (Returns c m y) (slice_set s.contexts x.0 (turned_context s x n)) _ y (turn_contexts c s x n)
    (set_has (Returns c m y) s.contexts x.0 y (turned_context s x n) (λ same. without c m y _ (going_calls c s x (turns_going g.laws c s x n is meets)) none) (none_made c s.next m y (context_at s y) none before))
step g c s (entries.Call x import words) y is meets before = call_step g c s x import words y is meets before
step g c s (entries.Reply x eax writes) y is meets before =
    let told : Told = record { eax = eax; writes = writes } in
    let none = spent_none c s x (reaches c s x (cost_of s x told)) y in
    let n = spent c s x (reaches c s x (cost_of s x told)) in
    replied_has (Returns c n y) s x told (answered s x told) y (λ same. without c n y _ refl none) (none_made c s.next n y (context_at s y) none before)
step g c s e y is meets before =
    as_was (Returns c (next_after c s e) y) s.contexts _ y (same_contexts c s e refl) (less c s.next (next_after c s e) y (context_at s y) (next_fewer c s e y refl) before)

-- ---- over a run

idle_place : (n y : ℕ) → (place (replicate n no_context) y).call ≡ None
idle_place zero y = refl
idle_place (suc n) zero = refl
idle_place (suc n) (suc y) = idle_place n y

begins : (c : Inputs) (y : ℕ) → Returns c (start c).next y (context_at (start c) y)
unfolding no_contexts
begins c y = without c Free y _ (idle_place 16 y) refl

all_return : Grounds → (c : Inputs) (s : State) (y : ℕ) → IsOfRun c s → Returns c s.next y (context_at s y)
all_return g c s y is = of_run g.laws.on c (λ t. (y : ℕ) → Returns c t.next y (context_at t y)) (λ t e of h meets y. step g c t e y of meets (h y)) (begins c) s is y

now_there : Grounds → (c : Inputs) (s : State) (x : CtxNo) → IsOfRun c s → Readable c (context_at s x.0) → CanReturn s x
now_there g c s x is h = stays g.writes g.keep g.laws.on c s Reading (general_of (context_at s x.0).registers ESP) 4 is ∙ h

pub made : Grounds → (c : Inputs) (s : State) (x : CtxNo) (es : List Entry) (lent : List ℕ) → IsOfRun c s → s.next ≡ Makes x es lent → CanReturn s x
made g c s x es lent is there = now_there g c s x is ((all_return g c s x.0 is).made (ap (λ (n : Next). makes_for n x.0) there ∙ own x.0))

pub waiting : Grounds → (c : Inputs) (s : State) (x : CtxNo) (call : Calling) → IsOfRun c s → call_at s x.0 ≡ Some call → waits call.wait ≡ true → CanReturn s x
waiting g c s x call is its waits = now_there g c s x is ((all_return g c s x.0 is).waiting call its waits)

-- ---- where a reply is due

reply_next : (n : Next) (x : CtxNo) → next_must n ≡ Some (ReplyOf x) → makes_for n x.0 ≡ true
reply_next Free x h = absurd (cc)
reply_next (Takes e) x h = absurd (cc)
reply_next (Verdicts []) x h = absurd (cc)
reply_next (Verdicts (e ∷ es)) x h = absurd (cc)
reply_next (Spinning y lock) x h = absurd (cc)
reply_next (Makes y [] lent) x h = let same : y ≡ x = cc in ap (λ (z : CtxNo). z.0 == x.0) same ∙ own x.0
reply_next (Makes y (e ∷ es) lent) x h = absurd (cc)
reply_next (Stops why []) x h = absurd (cc)
reply_next (Stops why (a ∷ ats)) x h = absurd (cc)

reply_must : (n : Next) (d : Option OwnerDue) (x : CtxNo) → option_or (taken_first n) (option_or (option_map Owes d) (next_must n)) ≡ Some (ReplyOf x) → makes_for n x.0 ≡ true
reply_must (Takes e) d x h = absurd (cc)
reply_must Free None x h = reply_next Free x h
reply_must (Verdicts es) None x h = reply_next (Verdicts es) x h
reply_must (Spinning y lock) None x h = reply_next (Spinning y lock) x h
reply_must (Makes y es lent) None x h = reply_next (Makes y es lent) x h
reply_must (Stops why ats) None x h = reply_next (Stops why ats) x h
reply_must Free (Some d) x h = absurd (cc)
reply_must (Verdicts es) (Some d) x h = absurd (cc)
reply_must (Spinning y lock) (Some d) x h = absurd (cc)
reply_must (Makes y es lent) (Some d) x h = absurd (cc)
reply_must (Stops why ats) (Some d) x h = absurd (cc)

must_make : (s : State) (x : CtxNo) → must s ≡ Some (ReplyOf x) → makes_for s.next x.0 ≡ true
unfolding must
must_make s x h = reply_must s.next (owner_must s.owner) x h

pub due : Grounds → (c : Inputs) (s : State) (x : CtxNo) → IsOfRun c s → must s ≡ Some (ReplyOf x) → CanReturn s x
due g c s x is h = now_there g c s x is ((all_return g c s x.0 is).made (must_make s x h))

-- ---- where a reply stands

always_none : (w : World) (told : Told) (more : List Write) (b d : Bool) (o : Outcome) (given : Answered) → by_outcome w told more (asks b level_rule (asks d arguments_rule o)) ≡ Some given → d ≡ true
always_none w told more true true o given h = refl
always_none w told more true false o given h = absurd (cc)
always_none w told more false d o given h = absurd (cc)

whole_there : (s : State) (x : CtxNo) (told : Told) (call : Calling) (given : Answered) → answered_by s x told call Nothing ≡ Some given → is_whole call ≡ true
whole_there s x told call given h =
    always_none s.world told call.writes (nat_le (row_of call.import).low (level_of s.world.levels x) && nat_le (level_of s.world.levels x) (row_of call.import).high)
    (nat_le (row_of call.import).words (length call.words)) _ given h

pub replies : Grounds → (c : Inputs) (s : State) (x : CtxNo) (eax : ℕ) (writes : List Write) → IsOfRun c s → Meets c s (entries.Reply x eax writes) → CanReturn s x
replies g c s x eax writes is meets =
    let found = reply_found g.laws c s x eax writes is meets in
    now_there g c s x is (by_call (call_at s x.0) refl (all_return g c s x.0 is) found.0 found.1)
  where
    told : Told
    told = record { eax = eax; writes = writes }

    by_wait : (call : Calling) (w : Wait) → call_at s x.0 ≡ Some call → call.wait ≡ w → Returns c s.next x.0 (context_at s x.0) → (given : Answered) → answered_by s x told call w ≡ Some given → Readable c (context_at s x.0)
    by_wait call Nothing its at h given found = h.whole call its (whole_there s x told call given found)
    by_wait call (OnLock lock) its at h given found = h.waiting call its (ap waits at)
    by_wait call (OnClock wake) its at h given found = h.waiting call its (ap waits at)
    by_wait call (OnSync stage) its at h given found = h.waiting call its (ap waits at)

    by_call : (m : Option Calling) → call_at s x.0 ≡ m → Returns c s.next x.0 (context_at s x.0) → (given : Answered) → option_and_then (λ call. answered_by s x told call call.wait) m ≡ Some given → Readable c (context_at s x.0)
    by_call None its h given found = absurd (cc)
    by_call (Some call) its h given found = by_wait call call.wait its refl h given found
