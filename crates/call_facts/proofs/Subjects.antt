-- A handler of a query or set was entered for a request that asks for no more bytes than a request's buffer has.
use Rattle.std.proofs.Common.{◌≡◌, ℕ, zero, suc, Bool, true, false, List, [], ◌∷◌, ◌++◌, Option, Some, None, refl, sym, ap, ◌∙◌, subst, slice_get, slice_set}
use Rattle.std.proofs.lemmas.Bool.{eqb-true}
use Rattle.std.specs.List.{position}
use Rattle.nd_base.specs.declared.numbers.AdapterNo.{AdapterNo}
use Rattle.nd_base.specs.declared.numbers.CtxNo.{CtxNo}
use Rattle.log_fields.specs.declared.field_values.Handler.{Handler}
use Rattle.log_fields.specs.declared.field_values.Handler.TheVariants as handler
use Rattle.log_fields.specs.declared.write.Write.{Write}
use Rattle.call_log.specs.declared.entry.Entry.{Entry}
use Rattle.call_log.specs.declared.entry.Entry.TheVariants as entries
use Rattle.owner_machine.specs.declared.rows.Request.{Request}
use Rattle.owner_machine.specs.State.{Owner, change}
use Rattle.owner_machine.specs.Contexts.{is_entry}
use Rattle.owner_machine.specs.Handlers.{contexts_entered}
use Rattle.owner_machine.specs.Requests.{answered, ask_enter, asked_of, first_asked, handed_ask}
use Rattle.owner_machine.specs.Machine as owners
use Rattle.legal_run.specs.State.{Inputs, State, Context, context_at, handler_in, handler_of, no_context, start}
use Rattle.legal_run.specs.EntryLaws.{is_ask}
use Rattle.legal_run.specs.Owed.{first}
use Rattle.legal_run.specs.Calls.{leaves}
use Rattle.legal_run.specs.After.{after, begun, in_list, is_breaking, number_in, owner_left, subject_of, taken}
use Rattle.run_facts.specs.Facts.{IsOfRun, GoesOn}
use Rattle.call_facts.proofs.Induction.{of_run}
use Rattle.call_facts.proofs.Moments.{position_there}
use Rattle.call_facts.proofs.Questions.{AllFit, IsShort, asked_is_short, requests_fit}
use Rattle.call_facts.proofs.Handlers.{enters, entered_there, none_open, rows_stay, was_open}
use Rattle.call_facts.proofs.Activities.{Holds, place, subjects_stay}

-- that request is there, and is short
abbrev pub ShortAt : List Request → ℕ → Type 0
ShortAt rows k = (row : Request) × (slice_get rows k ≡ Some row) × IsShort row.question

appended : (rows : List Request) (new : Request) (k : ℕ) (row : Request) → slice_get rows k ≡ Some row → slice_get (rows ++ new ∷ []) k ≡ Some row
appended [] new k row h = absurd (cc)
appended (r ∷ rs) new zero row h = h
appended (r ∷ rs) new (suc k) row h = appended rs new k row h

changed : (f : Request → Request) → ((r : Request) → (f r).question ≡ r.question) → (rows : List Request) (j k : ℕ) → ShortAt rows k → ShortAt (change f rows j) k
changed f keeps [] j k h = h
changed f keeps (r ∷ rs) zero zero h =
    let same : r ≡ h.0 = cc in
    (f r, refl, subst IsShort (sym (keeps r ∙ ap (λ (q : Request). q.question) same)) h.2)
changed f keeps (r ∷ rs) zero (suc k) h = h
changed f keeps (r ∷ rs) (suc j) zero h = h
changed f keeps (r ∷ rs) (suc j) (suc k) h = changed f keeps rs j k h

owner_short : (o : Owner) (e : Entry) (k : ℕ) → ShortAt o.requests k → ShortAt (owners.after o e).requests k
owner_short o (entries.Ask driver request question) k h = (h.0, appended o.requests _ k h.0 h.1, h.2)
owner_short o (entries.HandAsk request) k h = changed (handed_ask (ask_enter o.next)) (λ r. refl) o.requests request.0 k h
owner_short o (entries.Answer request status bytes) k h = changed answered (λ r. refl) o.requests request.0 k h
owner_short o _ k h = h

short_stays : (c : Inputs) (s : State) (e : Entry) (k : ℕ) → ShortAt s.owner.requests k → ShortAt (after c s e).owner.requests k
short_stays c s (entries.Leave x eax) k h = by_test (is_breaking (leaves c s x eax))
  where
    by_test : (b : Bool) → ShortAt (owner_left s.owner (entries.Leave x eax) b).requests k
    by_test true = h
    by_test false = h
short_stays c s e k h = owner_short s.owner e k h

-- ---- over a run

abbrev SubjectsFit : State → Type 0
SubjectsFit s = (x k : ℕ) → is_ask (handler_of s x) ≡ true → first (context_at s x).subject ≡ Some k → ShortAt s.owner.requests k

no_entry : (h : Handler) → is_ask h ≡ true → is_entry h ≡ false
no_entry handler.DriverEntry is = absurd (cc)
no_entry handler.Query is = refl
no_entry handler.Set is = refl
no_entry _ is = absurd (cc)

pub in_front : (m : Option ℕ) (k : ℕ) → first (in_list m) ≡ Some k → m ≡ Some k
in_front None k h = absurd (cc)
in_front (Some n) k h = h

first_short : (s : State) (a k : ℕ) → AllFit s.owner.requests → first (in_list (first_asked s.owner a)) ≡ Some k → ShortAt s.owner.requests k
first_short s a k all h =
    let found : position (asked_of a) s.owner.requests ≡ Some k = in_front (first_asked s.owner a) k h in
    let there = position_there (asked_of a) s.owner.requests k found in
    (there.0, there.1, asked_is_short a s.owner.requests k there.0 found there.1 all)

subject_short : (s : State) (a k : ℕ) (h : Handler) (words : List ℕ) → AllFit s.owner.requests → is_ask h ≡ true → first (subject_of s a h words) ≡ Some k → ShortAt s.owner.requests k
subject_short s a k handler.Query words all is h = first_short s a k all h
subject_short s a k handler.Set words all is h = first_short s a k all h
subject_short s a k _ words all is h = absurd (cc)

pub set_new : (P : Holds) (cs : List Context) (y : ℕ) (v : Context) → P v → P no_context → P (place (slice_set cs y v) y)
set_new P [] y v new none = none
set_new P (c ∷ cs) zero v new none = new
set_new P (c ∷ cs) (suc y) v new none = set_new P cs y v new none

entered_short : (c : Inputs) (s : State) (a : Option AdapterNo) (y : CtxNo) (h : Handler) (words : List ℕ) (writes : List Write) (k : ℕ) → AllFit s.owner.requests
    → is_ask (handler_of (after c s (entries.Enter a y h words writes)) y.0) ≡ true → first (context_at (after c s (entries.Enter a y h words writes)) y.0).subject ≡ Some k
    → ShortAt s.owner.requests k
entered_short c s a y h words writes k all asks about =
    let there = entered_there (contexts_entered a h s.owner.enters s.owner.contexts) y.0 a h s.owner.enters (no_entry _ asks) in
    let is : is_ask h ≡ true = ap (λ o. is_ask (handler_in o)) (sym there) ∙ asks in
    set_new (λ v. first v.subject ≡ Some k → ShortAt s.owner.requests k) (taken s (number_in c a) h words writes).contexts y.0 (begun c s (number_in c a) y h words)
    (λ h1. subject_short s (number_in c a) k h words all is h1) (λ h1. absurd (cc)) about

at_enter : (c : Inputs) (s : State) (e : Entry) (x k : ℕ) → enters e x ≡ true → AllFit s.owner.requests → is_ask (handler_of (after c s e) x) ≡ true → first (context_at (after c s e) x).subject ≡ Some k
    → ShortAt s.owner.requests k
at_enter c s (entries.Enter a y h words writes) x k is all asks about =
    let same = eqb-true y.0 x is in
    entered_short c s a y h words writes k all
    (subst (λ (n : ℕ). is_ask (handler_of (after c s (entries.Enter a y h words writes)) n) ≡ true) (sym same) asks)
    (subst (λ (n : ℕ). first (context_at (after c s (entries.Enter a y h words writes)) n).subject ≡ Some k) (sym same) about)
at_enter c s _ x k is all asks about = absurd (cc)

step : (c : Inputs) (s : State) (e : Entry) → AllFit s.owner.requests → SubjectsFit s → SubjectsFit (after c s e)
step c s e all fit x k asks about = by_test (enters e x) refl
  where
    by_test : (b : Bool) → enters e x ≡ b → ShortAt (after c s e).owner.requests k
    by_test true is = short_stays c s e k (at_enter c s e x k is all asks about)
    by_test false is =
        let same = was_open (slice_get s.owner.contexts x) (slice_get (after c s e).owner.contexts x) (rows_stay c s e x is) (no_entry (handler_of (after c s e) x) asks) in
        short_stays c s e k (fit x k (ap is_ask same.0 ∙ asks) (ap first (sym (subjects_stay c s e x is)) ∙ about))

begins : (c : Inputs) → SubjectsFit (start c)
begins c x k asks about =
    let none : is_ask (handler_of (start c) x) ≡ false = ap is_ask (none_open 16 x) in
    absurd (cc)

pub subjects_fit : GoesOn → (c : Inputs) (s : State) → IsOfRun c s → SubjectsFit s
subjects_fit on c s is = of_run on c SubjectsFit (λ t e of h meets. step c t e (requests_fit on c t of) h) (begins c) s is
