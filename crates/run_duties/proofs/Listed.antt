-- What must stand, by what is due next: lists of calls and leaves hold neither stops nor spins.
use Rattle.std.proofs.Common.{rules, ◌≡◌, ℕ, Bool, true, false, List, [], ◌∷◌, Option, Some, None, refl, ap, ◌∙◌}
use Rattle.std.specs.Prelude.{⊤, drop}
use Rattle.std.specs.Option.{option_map, option_or}
use Rattle.nd_base.specs.declared.numbers.AdapterNo.{AdapterNo}
use Rattle.nd_base.specs.declared.numbers.CtxNo.{CtxNo}
use Rattle.log_fields.specs.declared.field_values.Cause.{Cause}
use Rattle.log_fields.specs.declared.field_values.Handler.{Handler}
use Rattle.log_fields.specs.declared.field_values.Handler.TheVariants as handler
use Rattle.call_log.specs.declared.entry.Entry.{Entry}
use Rattle.call_log.specs.declared.entry.Entry.TheVariants as entries
use Rattle.owner_machine.specs.declared.rows.Request.{Request}
use Rattle.owner_machine.specs.Must.{Due as OwnerDue, owner_must}
use Rattle.legal_run.specs.State.{Inputs, State, Next, Free, Takes, Verdicts, Spinning, Makes, Stops, Nothing, OnLock, OnClock, OnSync, adapter_of, context_at, handler_of, start}
use Rattle.legal_run.specs.Calls.{Did, Broken, Waits, Made, did, outcome_of, Drawn, Breaking, Draws, leaves, asks, draws_first, given_back, verdicts, slot_status, request_verdict, drawn_from, drawn, leaves_even}
use Rattle.legal_run.specs.After.{next_after, popped, call_next, leave_next, enter_next, takes, spent, reaches, number_in, cost_of}
use Rattle.legal_run.specs.Must.{Owes, Exactly, next_must, taken_first, must}
use Rattle.legal_run.specs.Run.{Run, now}
use Rattle.run_duties.proofs.Rows.{kept_from}
use Rattle.run_duties.proofs.Calls.{AreOf, is_of, did_of, DidOf}

-- ---- lists of calls and leaves

abbrev pub is_listed : Entry → Bool
is_listed (entries.Spin _ _) = false
is_listed (entries.Stop _ _) = false
is_listed _ = true

abbrev pub AreListed : List Entry → Type 0
AreListed [] = ⊤
AreListed (e ∷ es) = (is_listed e ≡ true) × AreListed es

abbrev pub IsListed : Next → Type 0
IsListed (Takes e) = is_listed e ≡ true
IsListed (Verdicts es) = AreListed es
IsListed (Makes x es lent) = AreListed es
IsListed _ = ⊤

abbrev DrawnListed : Drawn → Type 0
DrawnListed (Draws es) = AreListed es
DrawnListed _ = ⊤

of_listed : (import : ℕ) (e : Entry) → is_of import e ≡ true → is_listed e ≡ true
of_listed import (entries.Spin x lock) h = absurd (cc)
of_listed import (entries.Stop a why) h = absurd (cc)
of_listed import _ h = refl

all_listed : (import : ℕ) (es : List Entry) → AreOf import es → AreListed es
all_listed import [] h = tt
all_listed import (e ∷ es) h = (of_listed import e h.0, all_listed import es h.1)

asked : (b : Bool) (rule : ℕ) (d : Drawn) → DrawnListed d → DrawnListed (asks b rule d)
asked true rule d h = h
asked false rule d h = tt

first_listed : (e : Entry) (d : Drawn) → is_listed e ≡ true → DrawnListed d → DrawnListed (draws_first e d)
first_listed e (Breaking rule) is h = tt
first_listed e (Draws es) is h = (is, h)

back_listed : (s : State) (ks : List ℕ) → AreListed (given_back s ks)
unfolding given_back
back_listed s [] = tt
back_listed s (k ∷ ks) = let rest = back_listed s ks in search rules

verdicts_listed : (s : State) (status_of : ℕ → ℕ) (serial : Bool) (ks : List ℕ) → DrawnListed (verdicts s status_of serial ks)
unfolding verdicts
verdicts_listed s status_of serial [] = tt
verdicts_listed s status_of serial (k ∷ ks) = let rest = verdicts_listed s status_of serial ks in let back = back_listed s ks in search (rules, first_listed)

request_listed : (s : State) (a status : ℕ) (r : Option ℕ) (row : Option Request) → DrawnListed (request_verdict s a status r row)
request_listed s a status (Some r) (Some row) = search rules
request_listed s a status None row = tt
request_listed s a status (Some r) None = tt

from_listed : (s : State) (a eax : ℕ) (subject : List ℕ) (h : Handler) → DrawnListed (drawn_from s a eax subject h)
from_listed s a eax subject handler.Send = verdicts_listed s (λ k. eax) _ subject
from_listed s a eax subject handler.SendPackets = let verdict = verdicts_listed s (slot_status s) true subject in search rules
from_listed s a eax subject handler.Query = request_listed s a eax _ _
from_listed s a eax subject handler.Set = request_listed s a eax _ _
from_listed s a eax subject handler.Reset = search rules
from_listed s a eax subject handler.Initialize = search rules
from_listed s a eax subject _ = tt

drawn_listed : (c : Inputs) (s : State) (a : Option AdapterNo) (eax : ℕ) (subject : List ℕ) (h : Handler) → DrawnListed (drawn c s a eax subject h)
drawn_listed c s None eax subject h = search rules
drawn_listed c s (Some a) eax subject h = from_listed s a.0 eax subject h

-- ---- over a run

call_listed : (c : Inputs) (s : State) (x : CtxNo) (import : ℕ) (words : List ℕ) (d : Did) → DidOf import d → IsListed (call_next c s x words d)
call_listed c s x import words (Broken rule) h = tt
call_listed c s x import words (Waits (OnLock lock)) h = tt
call_listed c s x import words (Waits (OnClock wake)) h = tt
call_listed c s x import words (Waits (OnSync stage)) h = tt
call_listed c s x import words (Waits Nothing) h = tt
call_listed c s x import words (Made es lent writes) h = all_listed import es h

leave_listed : (c : Inputs) (s : State) (x : CtxNo) (d : Drawn) → DrawnListed d → IsListed (leave_next c s x d)
leave_listed c s x (Breaking rule) h = tt
leave_listed c s x (Draws es) h = h

takes_listed : (j : Option ℕ) → IsListed (takes j)
takes_listed None = tt
takes_listed (Some j) = refl

enter_listed : (s : State) (a : ℕ) (h : Handler) (words : List ℕ) → IsListed (enter_next s a h words)
enter_listed s a handler.ReturnPacket words = takes_listed _
enter_listed s a _ words = tt

spent_listed : (c : Inputs) (s : State) (x : CtxNo) (b : Bool) → IsListed (spent c s x b)
spent_listed c s x true = tt
spent_listed c s x false = tt

rest_listed : (es : List Entry) → AreListed es → AreListed (drop 1 es)
rest_listed [] h = tt
rest_listed (e ∷ es) h = h.1

popped_listed : (n : Next) → IsListed n → IsListed (popped n)
popped_listed (Verdicts es) h = rest_listed es h
popped_listed (Makes x es lent) h = rest_listed es h
popped_listed (Stops why ats) h = tt
popped_listed Free h = tt
popped_listed (Takes e) h = tt
popped_listed (Spinning x lock) h = tt

pub next_listed : (c : Inputs) (s : State) (e : Entry) → IsListed s.next → IsListed (next_after c s e)
next_listed c s (entries.Enter a x h words writes) is = enter_listed s (number_in c a) h words
next_listed c s (entries.Leave x eax) is =
    leave_listed c s x (leaves c s x eax)
    (asked (leaves_even s x) 7 (drawn c s (adapter_of s x.0) eax (context_at s x.0).subject (handler_of s x.0)) (drawn_listed c s (adapter_of s x.0) eax (context_at s x.0).subject (handler_of s x.0)))
next_listed c s (entries.Fault x kind address) is = tt
next_listed c s (entries.Turn x n) is = spent_listed c s x (reaches c s x n)
next_listed c s (entries.Call x import words) is = call_listed c s x import words (did s x import words) (did_of s (adapter_of s x.0) import words (outcome_of s x import words))
next_listed c s (entries.Reply x eax writes) is = spent_listed c s x (reaches c s x (cost_of s x (record { eax = eax; writes = writes })))
next_listed c s (entries.Stop a why) is = tt
next_listed c s _ is = popped_listed s.next is

pub listed_now : (c : Inputs) (log : List Entry) → Run c log → IsListed (now c log).next
listed_now c log run = kept_from c (λ s. IsListed s.next) (λ s e h meets. next_listed c s e h) (start c) log tt run

-- ---- a stop that must stand is due

pub record IsStopping (s : State) (a : ℕ) (why : Cause) : Type 0 where
  pub ats : List ℕ
  pub next : s.next ≡ Stops why (a ∷ ats)
  pub nothing : owner_must s.owner ≡ None

pub stopping : (s : State) (a : AdapterNo) (why : Cause) → IsListed s.next → must s ≡ Some (Exactly (entries.Stop a why)) → IsStopping s a.0 why
unfolding must
stopping s a why listed h = by_next s.next refl listed (owner_must s.owner) refl h
  where
    by_next : (n : Next) → s.next ≡ n → IsListed n → (m : Option OwnerDue) → owner_must s.owner ≡ m
        → option_or (taken_first n) (option_or (option_map Owes m) (next_must n)) ≡ Some (Exactly (entries.Stop a why)) → IsStopping s a.0 why
    by_next (Takes e) is listed m owes h = let same : e ≡ entries.Stop a why = cc in absurd (cc)
    by_next Free is listed None owes h = absurd (cc)
    by_next (Verdicts []) is listed None owes h = absurd (cc)
    by_next (Verdicts (e ∷ es)) is listed None owes h = let same : e ≡ entries.Stop a why = cc in let made = listed.0 in absurd (cc)
    by_next (Spinning y l) is listed None owes h = absurd (cc)
    by_next (Makes y [] lent) is listed None owes h = absurd (cc)
    by_next (Makes y (e ∷ es) lent) is listed None owes h = let same : e ≡ entries.Stop a why = cc in let made = listed.0 in absurd (cc)
    by_next (Stops other []) is listed None owes h = absurd (cc)
    by_next (Stops other (b ∷ ats)) is listed None owes h =
        let cause : other ≡ why = cc in
        let number : b ≡ a.0 = cc in
        record { ats = ats; next = is ∙ ap (λ w. Stops w (b ∷ ats)) cause ∙ ap (λ (k : ℕ). Stops why (k ∷ ats)) number; nothing = owes }
    by_next Free is listed (Some d) owes h = absurd (cc)
    by_next (Verdicts es) is listed (Some d) owes h = absurd (cc)
    by_next (Spinning y l) is listed (Some d) owes h = absurd (cc)
    by_next (Makes y es lent) is listed (Some d) owes h = absurd (cc)
    by_next (Stops other ats) is listed (Some d) owes h = absurd (cc)
