-- While a function runs that a call of NdisMSynchronizeWithInterrupt waits for, that call waits: of an open context of the same adapter, and for no other function.
use Rattle.std.proofs.Common.{◌≡◌, ℕ, zero, suc, Bool, true, false, cond, ◌&&◌, ◌==◌, List, [], ◌∷◌, Option, Some, None, refl, sym, ap, ◌∙◌, subst, slice_get, slice_set}
use Rattle.std.specs.Prelude.{is_none, not}
use Rattle.std.specs.Option.{option_map, option_and_then}
use Rattle.std.proofs.lemmas.Bool.{eqb-true}
use Rattle.nd_base.specs.declared.numbers.AdapterNo.{AdapterNo}
use Rattle.nd_base.specs.declared.numbers.CtxNo.{CtxNo}
use Rattle.log_fields.specs.declared.field_values.Handler.{Handler}
use Rattle.log_fields.specs.declared.field_values.Handler.TheVariants as handler
use Rattle.log_fields.specs.declared.write.Write.{Write}
use Rattle.call_log.specs.declared.entry.Entry.{Entry}
use Rattle.call_log.specs.declared.entry.Entry.TheVariants as entries
use Rattle.owner_machine.specs.declared.rows.Context.{Context as Row}
use Rattle.owner_machine.specs.declared.rows.Context.TheVariants.{Free, Open}
use Rattle.owner_machine.specs.State.{Owner, at, change}
use Rattle.owner_machine.specs.Contexts.{any_handler, runs, calling, answered_call, freed, entry_freed, is_entry, is_free, transfer_begun, wants_transfer, with_transfer}
use Rattle.owner_machine.specs.Handlers.{contexts_entered, may_enter}
use Rattle.owner_machine.specs.Adapters.{contexts_stopped, all_stopped, stopped}
use Rattle.legal_run.specs.Laws.{RunLaws, NothingStandsBetween}
use Rattle.legal_run.specs.EntryLaws.{EntryLaws}
use Rattle.legal_run.specs.State.{Inputs, State, Context, Calling, Wait, Nothing, OnLock, OnClock, OnSync, Needed, Entered, Left, adapter_in, adapter_of, all_contexts, call_at, context_at, handler_in, handler_of, is_adapter, is_context_of, is_open, start}
use Rattle.legal_run.specs.Owed.{first, sync_caller, wants_sync}
use Rattle.legal_run.specs.Calls.{leaves}
use Rattle.legal_run.specs.Replies.{Answered, Told, answered, answered_by}
use Rattle.legal_run.specs.After.{after, begun, is_breaking, number_in, owner_left, subject_of, taken, with_wait}
use Rattle.legal_run.specs.Run.{Meets, is_going, is_over}
use Rattle.run_facts.specs.Facts.{IsOfRun, GoesOn}
use Rattle.call_facts.proofs.Induction.{of_run}
use Rattle.call_facts.proofs.Moments.{case_of, run_more, stands_freely, true_both}
use Rattle.call_facts.proofs.Ground.{first_passes}
use Rattle.call_facts.proofs.Handlers.{enters, entered_there, none_open, rows_stay, set_other, was_open}
use Rattle.call_facts.proofs.Subjects.{in_front, set_new}
use Rattle.call_facts.proofs.Activities.{Holds, as_was, entered_has, is_sync, left_has, place, replied_has, same_contexts, set_has, subjects_stay, turn_contexts, turned_context, waited}

-- what the proofs take of other crates
pub record Laws : Type 0 where
  pub runs : RunLaws
  pub between : NothingStandsBetween
  pub entries : EntryLaws
  pub on : GoesOn

-- ---- adapters of open contexts

begun_keeps : (a n : ℕ) (os : List Row) (y : ℕ) → adapter_in (slice_get (transfer_begun a n os) y) ≡ adapter_in (slice_get os y)
begun_keeps a n [] y = refl
begun_keeps a n (o ∷ os) y = by_test (wants_transfer a o) y (begun_keeps a n os)
  where
    transferred : (o : Row) → adapter_in (Some (with_transfer n o)) ≡ adapter_in (Some o)
    transferred Free = refl
    transferred (Open b h m None) = refl
    transferred (Open b h m (Some call)) = refl

    by_test : (t : Bool) (y : ℕ) → ((z : ℕ) → adapter_in (slice_get (transfer_begun a n os) z) ≡ adapter_in (slice_get os z))
        → adapter_in (slice_get (cond t (with_transfer n o ∷ os) (o ∷ transfer_begun a n os)) y) ≡ adapter_in (slice_get (o ∷ os) y)
    by_test true zero more = transferred o
    by_test true (suc y) more = refl
    by_test false zero more = refl
    by_test false (suc y) more = more y

opened_keeps : (b : Option AdapterNo) (h : Handler) (n : ℕ) (os : List Row) (y : ℕ) → adapter_in (slice_get (contexts_entered b h n os) y) ≡ adapter_in (slice_get os y)
opened_keeps (Some b) handler.TransferData n os y = begun_keeps b.0 n os y
opened_keeps None handler.TransferData n os y = refl
opened_keeps (Some b) _ n os y = refl
opened_keeps None _ n os y = refl

changed_keeps : (f : Row → Row) → ((o : Row) → adapter_in (Some (f o)) ≡ adapter_in (Some o)) → (os : List Row) (z y : ℕ) → adapter_in (slice_get (change f os z) y) ≡ adapter_in (slice_get os y)
changed_keeps f keeps [] z y = refl
changed_keeps f keeps (o ∷ os) zero zero = keeps o
changed_keeps f keeps (o ∷ os) zero (suc y) = refl
changed_keeps f keeps (o ∷ os) (suc z) zero = refl
changed_keeps f keeps (o ∷ os) (suc z) (suc y) = changed_keeps f keeps os z y

called_keeps : (import : ℕ) (words : List ℕ) (o : Row) → adapter_in (Some (calling import words o)) ≡ adapter_in (Some o)
called_keeps import words Free = refl
called_keeps import words (Open a h n call) = refl

answered_keeps : (o : Row) → adapter_in (Some (answered_call o)) ≡ adapter_in (Some o)
answered_keeps Free = refl
answered_keeps (Open a h n call) = refl

-- a stop ends every context of its adapter, and so either both of two, or none

one_apart : (b : ℕ) (a : AdapterNo) (o : Row) → adapter_in (Some (cond (runs any_handler b o) Free o)) ≡ Some a → (a.0 == b) ≡ false
one_apart b a Free h = absurd (cc)
one_apart b a (Open None k n call) h = absurd (cc)
one_apart b a (Open (Some d) k n call) h = by_test (d.0 == b) refl h
  where
    by_test : (t : Bool) → (d.0 == b) ≡ t → adapter_in (Some (cond t Free (Open (Some d) k n call))) ≡ Some a → (a.0 == b) ≡ false
    by_test true is h = absurd (cc)
    by_test false is h = let same : d ≡ a = cc in subst (λ (e : AdapterNo). (e.0 == b) ≡ false) same is

freed_apart : (b : ℕ) (a : AdapterNo) (os : List Row) (x : ℕ) → adapter_in (slice_get (freed b os) x) ≡ Some a → (a.0 == b) ≡ false
freed_apart b a [] x h = absurd (cc)
freed_apart b a (o ∷ os) zero h = one_apart b a o h
freed_apart b a (o ∷ os) (suc x) h = freed_apart b a os x h

one_kept : (b : ℕ) (a : AdapterNo) (o : Row) → (a.0 == b) ≡ false → adapter_in (Some o) ≡ Some a → adapter_in (Some (cond (runs any_handler b o) Free o)) ≡ Some a
one_kept b a Free other h = absurd (cc)
one_kept b a (Open None k n call) other h = absurd (cc)
one_kept b a (Open (Some d) k n call) other h =
    let same : d ≡ a = cc in
    let is : (d.0 == b) ≡ false = subst (λ (e : AdapterNo). (e.0 == b) ≡ false) (sym same) other in
    ap (λ t. adapter_in (Some (cond t Free (Open (Some d) k n call)))) is ∙ h

freed_keeps : (b : ℕ) (a : AdapterNo) (os : List Row) (y : ℕ) → (a.0 == b) ≡ false → adapter_in (slice_get os y) ≡ Some a → adapter_in (slice_get (freed b os) y) ≡ Some a
freed_keeps b a [] y other h = absurd (cc)
freed_keeps b a (o ∷ os) zero other h = one_kept b a o other h
freed_keeps b a (o ∷ os) (suc y) other h = freed_keeps b a os y other h

entry_keeps : (a : AdapterNo) (os : List Row) (y : ℕ) → adapter_in (slice_get os y) ≡ Some a → adapter_in (slice_get (entry_freed os) y) ≡ Some a
entry_keeps a [] y h = h
entry_keeps a (Open None k n call ∷ os) zero h = absurd (cc)
entry_keeps a (Open (Some d) k n call ∷ os) zero h = h
entry_keeps a (Free ∷ os) zero h = h
entry_keeps a (Open None k n call ∷ os) (suc y) h = entry_keeps a os y h
entry_keeps a (Open (Some d) k n call ∷ os) (suc y) h = entry_keeps a os y h
entry_keeps a (Free ∷ os) (suc y) h = entry_keeps a os y h

entry_was : (a : AdapterNo) (os : List Row) (y : ℕ) → adapter_in (slice_get (entry_freed os) y) ≡ Some a → adapter_in (slice_get os y) ≡ Some a
entry_was a [] y h = h
entry_was a (Open None k n call ∷ os) zero h = absurd (cc)
entry_was a (Open (Some d) k n call ∷ os) zero h = h
entry_was a (Free ∷ os) zero h = h
entry_was a (Open None k n call ∷ os) (suc y) h = entry_was a os y h
entry_was a (Open (Some d) k n call ∷ os) (suc y) h = entry_was a os y h
entry_was a (Free ∷ os) (suc y) h = entry_was a os y h

stopped_both : (b : ℕ) (a : AdapterNo) (os : List Row) (all : Bool) (x y : ℕ) → adapter_in (slice_get (contexts_stopped os b all) x) ≡ Some a → adapter_in (slice_get os y) ≡ Some a
    → adapter_in (slice_get (contexts_stopped os b all) y) ≡ Some a
stopped_both b a os true x y there h = entry_keeps a (freed b os) y (freed_keeps b a os y (freed_apart b a os x (entry_was a (freed b os) x there)) h)
stopped_both b a os false x y there h = freed_keeps b a os y (freed_apart b a os x there) h

-- ---- a call that waits for its function

abbrev pub wait_in : Option Calling → Option Wait
wait_in m = option_map (λ call. call.wait) m

abbrev pub wait_at : State → ℕ → Option Wait
wait_at s y = wait_in (call_at s y)

pub record HasCaller (s : State) (x y : ℕ) : Type 0 where
  pub adapter : AdapterNo
  pub mine : adapter_of s x ≡ Some adapter
  pub callers : adapter_of s y ≡ Some adapter
  pub waits : wait_at s y ≡ Some (OnSync Entered)

pub record Syncs (s : State) : Type 0 where
  pub asked : (x y : ℕ) → is_sync (handler_of s x) ≡ true → first (context_at s x).subject ≡ Some y → HasCaller s x y
  pub one : (x z y : ℕ) → is_sync (handler_of s x) ≡ true → is_sync (handler_of s z) ≡ true → first (context_at s x).subject ≡ Some y → first (context_at s z).subject ≡ Some y → x ≡ z

-- ---- what can't be

free_there : (os : List Row) (x : ℕ) (a : AdapterNo) → at is_free os x ≡ true → adapter_in (slice_get os x) ≡ Some a → ⊥
free_there [] x a h is = cc
free_there (Free ∷ os) zero a h is = cc
free_there (Open b k n call ∷ os) zero a h is = cc
free_there (o ∷ os) (suc x) a h is = free_there os x a h is

enters_free : (o : Owner) (b : Option AdapterNo) (z : ℕ) (h : Handler) → may_enter o b z h ≡ true → at is_free o.contexts z ≡ true
enters_free o None z h may = (true_both (at is_free o.contexts z) _ may).0
enters_free o (Some b) z h may = (true_both (at is_free o.contexts z) _ may).0

none_waits : (m : Option Calling) (w : Wait) → is_none m ≡ true → wait_in m ≡ Some w → ⊥
none_waits None w h is = cc
none_waits (Some call) w h is = cc

going_waits : (c : Inputs) (s : State) (z : CtxNo) (w : Wait) → is_going c s z ≡ true → wait_at s z.0 ≡ Some w → ⊥
going_waits c s z w going is = none_waits (call_at s z.0) w (true_both (is_none (call_at s z.0)) (not (is_over c s)) (true_both (is_open s z.0) _ going).1).0 is

pub leaves_going : Laws → (c : Inputs) (s : State) (z : CtxNo) (eax : ℕ) → IsOfRun c s → Meets c s (entries.Leave z eax) → is_going c s z ≡ true
leaves_going l c s z eax is meets = (true_both (is_going c s z) _ (stands_freely l.runs l.between c s (entries.Leave z eax) is meets refl refl)).0

pub turns_going : Laws → (c : Inputs) (s : State) (z : CtxNo) (n : ℕ) → IsOfRun c s → Meets c s (entries.Turn z n) → is_going c s z ≡ true
turns_going l c s z n is meets = (true_both (is_going c s z) _ (stands_freely l.runs l.between c s (entries.Turn z n) is meets refl refl)).0

pub calls_going : Laws → (c : Inputs) (s : State) (z : CtxNo) (import : ℕ) (words : List ℕ) → IsOfRun c s → Meets c s (entries.Call z import words) → is_going c s z ≡ true
calls_going l c s z import words is meets = (true_both (is_going c s z) _ (stands_freely l.runs l.between c s (entries.Call z import words) is meets refl refl)).0

unanswered : (s : State) (z : CtxNo) (told : Told) (m : Option Calling) (given : Answered) → wait_in m ≡ Some (OnSync Entered) → option_and_then (λ call. answered_by s z told call call.wait) m ≡ Some given → ⊥
unanswered s z told None given is h = cc
unanswered s z told (Some call) given is h =
    let same : call.wait ≡ OnSync Entered = cc in
    let none : answered_by s z told call call.wait ≡ None = ap (answered_by s z told call) same in
    cc

pub reply_found : Laws → (c : Inputs) (s : State) (z : CtxNo) (eax : ℕ) (writes : List Write) → IsOfRun c s → Meets c s (entries.Reply z eax writes)
    → (given : Answered) × (answered s z (record { eax = eax; writes = writes }) ≡ Some given)
reply_found l c s z eax writes is meets =
    let reply = l.entries.reply c is.log z eax writes (run_more l.runs c s (entries.Reply z eax writes) is meets) in
    (reply.given, subst (λ (t : State). answered t z (record { eax = eax; writes = writes }) ≡ Some reply.given) is.reaches.state reply.found)

-- ---- the caller stays

set_both : (os : List Row) (z y : ℕ) (o : Row) → (z ≡ y → ⊥) → adapter_in (slice_get (slice_set os z o) y) ≡ adapter_in (slice_get os y)
set_both os z y o other = ap adapter_in (set_other os z y o other)

-- what the owner machine keeps of two contexts of one adapter
stays_open : Laws → (c : Inputs) (s : State) (e : Entry) (x y : ℕ) (a : AdapterNo) (w : Wait) → IsOfRun c s → Meets c s e → adapter_of s y ≡ Some a → wait_at s y ≡ Some w → adapter_of (after c s e) x ≡ Some a
    → adapter_of (after c s e) y ≡ Some a
stays_open l c s (entries.Enter b z h words writes) x y a w is meets caller waiting there =
    let free = enters_free s.owner b z.0 h (case_of s.owner (entries.Enter b z h words writes) meets.owner) in
    set_both (contexts_entered b h s.owner.enters s.owner.contexts) z.0 y _ (λ same. free_there s.owner.contexts y a (subst (λ (k : ℕ). at is_free s.owner.contexts k ≡ true) same free) caller)
    ∙ opened_keeps b h s.owner.enters s.owner.contexts y ∙ caller
stays_open l c s (entries.Leave z eax) x y a w is meets caller waiting there = by_test (is_breaking (leaves c s z eax))
  where
    by_test : (b : Bool) → adapter_in (slice_get (owner_left s.owner (entries.Leave z eax) b).contexts y) ≡ Some a
    by_test true = caller
    by_test false =
        set_both s.owner.contexts z.0 y Free
        (λ same. going_waits c s z w (leaves_going l c s z eax is meets) (ap (wait_at s) same ∙ waiting))
        ∙ caller
stays_open l c s (entries.Call z import words) x y a w is meets caller waiting there = changed_keeps (calling import words) (called_keeps import words) s.owner.contexts z.0 y ∙ caller
stays_open l c s (entries.Reply z eax writes) x y a w is meets caller waiting there = changed_keeps answered_call answered_keeps s.owner.contexts z.0 y ∙ caller
stays_open l c s (entries.Stop b why) x y a w is meets caller waiting there = stopped_both b.0 a s.owner.contexts (all_stopped (change stopped s.owner.adapters b.0)) x y there caller
stays_open l c s _ x y a w is meets caller waiting there = caller

waited_in : (m : Option Calling) (w v : Wait) → wait_in m ≡ Some v → wait_in (option_map {T = Calling} (λ call. record call { wait = w }) m) ≡ Some w
waited_in None w v h = absurd (cc)
waited_in (Some call) w v h = refl

left_closed : (os : List Row) (x : ℕ) → is_sync (handler_in (slice_get (slice_set os x Free) x)) ≡ false
left_closed [] x = refl
left_closed (o ∷ os) zero = refl
left_closed (o ∷ os) (suc x) = left_closed os x

abbrev Waiting : Holds
Waiting v = wait_in v.call ≡ Some (OnSync Entered)

-- what the run keeps of a caller whose function runs still
stays_waiting : Laws → (c : Inputs) (s : State) (e : Entry) (x y : ℕ) → IsOfRun c s → Meets c s e → Syncs s → is_sync (handler_of s x) ≡ true → first (context_at s x).subject ≡ Some y
    → is_sync (handler_of (after c s e) x) ≡ true → HasCaller s x y → wait_at (after c s e) y ≡ Some (OnSync Entered)
stays_waiting l c s (entries.Enter b z h words writes) x y is meets syncs runs about there has =
    let free = enters_free s.owner b z.0 h (case_of s.owner (entries.Enter b z h words writes) meets.owner) in
    entered_has Waiting c s b z h words writes y
    (λ same. absurd (free_there s.owner.contexts y has.adapter (subst (λ (k : ℕ). at is_free s.owner.contexts k ≡ true) same free) has.callers))
    (λ sync found. waited_in (call_at s y) (OnSync Entered) (OnSync Entered) has.waits) has.waits
stays_waiting l c s (entries.Leave z eax) x y is meets syncs runs about there has =
    left_has Waiting c s z eax y
    (λ kept sync found. absurd (closed kept (syncs.one x z.0 y runs sync about found))) has.waits
  where
    closed : is_breaking (leaves c s z eax) ≡ false → x ≡ z.0 → ⊥
    closed kept same =
        let shut : is_sync (handler_in (slice_get (owner_left s.owner (entries.Leave z eax) false).contexts x)) ≡ false = subst (λ (k : ℕ). is_sync (handler_in (slice_get (slice_set s.owner.contexts k Free) x)) ≡ false) same (left_closed s.owner.contexts x) in
        let still : is_sync (handler_in (slice_get (owner_left s.owner (entries.Leave z eax) false).contexts x)) ≡ true =
        subst (λ (b : Bool). is_sync (handler_in (slice_get (owner_left s.owner (entries.Leave z eax) b).contexts x)) ≡ true) kept there in
        cc
stays_waiting l c s (entries.Turn z n) x y is meets syncs runs about there has =
    as_was Waiting (slice_set s.contexts z.0 (turned_context s z n)) _ y (turn_contexts c s z n)
    (set_has Waiting s.contexts z.0 y (turned_context s z n) (λ same. absurd (going_waits c s z (OnSync Entered) (turns_going l c s z n is meets) (ap (wait_at s) same ∙ has.waits))) has.waits)
stays_waiting l c s (entries.Call z import words) x y is meets syncs runs about there has =
    set_has Waiting s.contexts z.0 y _ (λ same. absurd (going_waits c s z (OnSync Entered) (calls_going l c s z import words is meets) (ap (wait_at s) same ∙ has.waits))) has.waits
stays_waiting l c s (entries.Reply z eax writes) x y is meets syncs runs about there has =
    let told : Told = record { eax = eax; writes = writes } in
    let found = reply_found l c s z eax writes is meets in
    replied_has Waiting s z told (answered s z told) y (λ same. absurd (unanswered s z told (call_at s z.0) found.0 (ap (wait_at s) same ∙ has.waits) found.1)) has.waits
stays_waiting l c s e x y is meets syncs runs about there has = as_was Waiting s.contexts _ y (same_contexts c s e refl) has.waits

-- ---- a function that is entered

no_entry : (h : Handler) → is_sync h ≡ true → is_entry h ≡ false
no_entry handler.Sync is = refl
no_entry handler.DriverEntry is = absurd (cc)
no_entry _ is = absurd (cc)

adapter_is : (m : Option AdapterNo) (a : AdapterNo) → is_adapter a.0 m ≡ true → m ≡ Some a
adapter_is None a h = absurd (cc)
adapter_is (Some other) a h = ap (λ (n : ℕ). Some (record { 0 = n })) (eqb-true other.0 a.0 h)

wants : (import : ℕ) (words : List ℕ) (w : Wait) (writes : List Write) → wants_sync (Some (record { import = import; words = words; wait = w; writes = writes })) ≡ true → w ≡ OnSync Needed
wants import words (OnSync Needed) writes h = refl
wants import words (OnSync Entered) writes h = absurd (cc)
wants import words (OnSync (Left eax)) writes h = absurd (cc)
wants import words Nothing writes h = absurd (cc)
wants import words (OnLock lock) writes h = absurd (cc)
wants import words (OnClock wake) writes h = absurd (cc)

needs : (m : Option Calling) → wants_sync m ≡ true → wait_in m ≡ Some (OnSync Needed)
needs None h = absurd (cc)
needs (Some call) h = ap Some (wants call.import call.words call.wait call.writes h)

-- the context that called for it, and its call
pub record IsCaller (s : State) (a : AdapterNo) (y : ℕ) : Type 0 where
  pub callers : adapter_of s y ≡ Some a
  pub needs : wait_at s y ≡ Some (OnSync Needed)

pub called_for : (s : State) (a : AdapterNo) (y : ℕ) → sync_caller s a.0 ≡ Some y → IsCaller s a y
called_for s a y found =
    let parts = true_both (is_context_of s a.0 y) (wants_sync (call_at s y)) (first_passes (λ x. is_context_of s a.0 x && wants_sync (call_at s x)) all_contexts y found) in
    record { callers = adapter_is (adapter_of s y) a (true_both (is_open s y) (is_adapter a.0 (adapter_of s y)) parts.0).1; needs = needs (call_at s y) parts.1 }

subject_caller : (s : State) (a y : ℕ) (h : Handler) (words : List ℕ) → is_sync h ≡ true → first (subject_of s a h words) ≡ Some y → sync_caller s a ≡ Some y
subject_caller s a y handler.Sync words is about = in_front (sync_caller s a) y about
subject_caller s a y _ words is about = absurd (cc)

in_place : (cs : List Context) (y : ℕ) (v : Context) (w : Wait) → wait_in (place cs y).call ≡ Some w → place (slice_set cs y v) y ≡ v
in_place [] y v w h = absurd (cc)
in_place (d ∷ cs) zero v w h = refl
in_place (d ∷ cs) (suc y) v w h = in_place cs y v w h

other_place : (cs : List Context) (z y : ℕ) (v : Context) → (z ≡ y → ⊥) → place (slice_set cs z v) y ≡ place cs y
other_place cs z y v other = set_has (λ d. d ≡ place cs y) cs z y v (λ same. absurd (other same)) refl

new_waits : (s : State) (a y z : ℕ) (h : Handler) (words : List ℕ) (writes : List Write) (v : Context) → is_sync h ≡ true → sync_caller s a ≡ Some y → (z ≡ y → ⊥) → wait_at s y ≡ Some (OnSync Needed)
    → wait_in (place (slice_set (taken s a h words writes).contexts z v) y).call ≡ Some (OnSync Entered)
new_waits s a y z handler.Sync words writes v is found other waiting =
    ap (λ (d : Context). wait_in d.call) (other_place (with_wait s (sync_caller s a) (OnSync Entered)).contexts z y v other)
    ∙ ap (λ (o : Option ℕ). wait_in (place (with_wait s o (OnSync Entered)).contexts y).call) found
    ∙ ap (λ (d : Context). wait_in d.call) (in_place s.contexts y (waited s y (OnSync Entered)) (OnSync Needed) waiting)
    ∙ waited_in (call_at s y) (OnSync Entered) (OnSync Needed) waiting
new_waits s a y z _ words writes v is found other waiting = absurd (cc)

-- what an enter of such a function finds

entered_is : (c : Inputs) (s : State) (b : Option AdapterNo) (z : CtxNo) (h : Handler) (words : List ℕ) (writes : List Write)
    → is_sync (handler_of (after c s (entries.Enter b z h words writes)) z.0) ≡ true → slice_get (after c s (entries.Enter b z h words writes)).owner.contexts z.0 ≡ Some (Open b h s.owner.enters None)
entered_is c s b z h words writes runs = entered_there (contexts_entered b h s.owner.enters s.owner.contexts) z.0 b h s.owner.enters (no_entry _ runs)

entered_sync : (c : Inputs) (s : State) (b : Option AdapterNo) (z : CtxNo) (h : Handler) (words : List ℕ) (writes : List Write)
    → is_sync (handler_of (after c s (entries.Enter b z h words writes)) z.0) ≡ true → is_sync h ≡ true
entered_sync c s b z h words writes runs = ap (λ o. is_sync (handler_in o)) (sym (entered_is c s b z h words writes runs)) ∙ runs

entered_caller : (c : Inputs) (s : State) (b : Option AdapterNo) (z : CtxNo) (h : Handler) (words : List ℕ) (writes : List Write) (y : ℕ) → is_sync h ≡ true
    → first (context_at (after c s (entries.Enter b z h words writes)) z.0).subject ≡ Some y → sync_caller s (number_in c b) ≡ Some y
entered_caller c s b z h words writes y sync about =
    set_new (λ v. first v.subject ≡ Some y → sync_caller s (number_in c b) ≡ Some y) (taken s (number_in c b) h words writes).contexts z.0 (begun c s (number_in c b) z h words)
    (λ h1. subject_caller s (number_in c b) y h words sync h1) (λ h1. absurd (cc)) about

of_adapter : (o : Owner) (z : ℕ) (h : Handler) → may_enter o None z h ≡ true → is_sync h ≡ true → ⊥
of_adapter o z h may sync = let entry = (true_both (at is_free o.contexts z) (is_entry h) may).1 in let none = no_entry h sync in cc

-- the new function's caller
new_caller : Laws → (c : Inputs) (s : State) (b : Option AdapterNo) (z : CtxNo) (h : Handler) (words : List ℕ) (writes : List Write) (y : ℕ) → IsOfRun c s → Meets c s (entries.Enter b z h words writes)
    → is_sync (handler_of (after c s (entries.Enter b z h words writes)) z.0) ≡ true → first (context_at (after c s (entries.Enter b z h words writes)) z.0).subject ≡ Some y
    → HasCaller (after c s (entries.Enter b z h words writes)) z.0 y × (wait_at s y ≡ Some (OnSync Needed))
new_caller l c s None z h words writes y is meets runs about =
    absurd (of_adapter s.owner z.0 h (case_of s.owner (entries.Enter None z h words writes) meets.owner) (entered_sync c s None z h words writes runs))
new_caller l c s (Some a) z h words writes y is meets runs about =
    let sync = entered_sync c s (Some a) z h words writes runs in
    let found : sync_caller s a.0 ≡ Some y = entered_caller c s (Some a) z h words writes y sync about in
    let caller = called_for s a y found in
    let mine : adapter_of (after c s (entries.Enter (Some a) z h words writes)) z.0 ≡ Some a = ap adapter_in (entered_is c s (Some a) z h words writes runs) in
    let free = enters_free s.owner (Some a) z.0 h (case_of s.owner (entries.Enter (Some a) z h words writes) meets.owner) in
    let other : z.0 ≡ y → ⊥ = λ same. free_there s.owner.contexts y a (subst (λ (k : ℕ). at is_free s.owner.contexts k ≡ true) same free) caller.callers in (
      record {
        adapter = a;
        mine = mine;
        callers = stays_open l c s (entries.Enter (Some a) z h words writes) z.0 y a (OnSync Needed) is meets caller.callers caller.needs mine;
        waits = new_waits s a.0 y z.0 h words writes (begun c s a.0 z h words) sync found other caller.needs;
      },
      caller.needs,
    )

at_enter : Laws → (c : Inputs) (s : State) (e : Entry) (x y : ℕ) → enters e x ≡ true → IsOfRun c s → Meets c s e → is_sync (handler_of (after c s e) x) ≡ true → first (context_at (after c s e) x).subject ≡ Some y
    → HasCaller (after c s e) x y × (wait_at s y ≡ Some (OnSync Needed))
at_enter l c s (entries.Enter b z h words writes) x y at is meets runs about =
    let same = eqb-true z.0 x at in
    let t = after c s (entries.Enter b z h words writes) in
    subst (λ (k : ℕ). HasCaller t k y × (wait_at s y ≡ Some (OnSync Needed))) same
    (new_caller l c s b z h words writes y is meets (subst (λ (k : ℕ). is_sync (handler_of t k) ≡ true) (sym same) runs) (subst (λ (k : ℕ). first (context_at t k).subject ≡ Some y) (sym same) about))
at_enter l c s _ x y at is meets runs about = absurd (cc)

-- ---- one entry

-- a function that runs behind an entry, and was not entered by it, ran before
record Ran (s : State) (x y : ℕ) (a : Option AdapterNo) : Type 0 where
  pub runs : is_sync (handler_of s x) ≡ true
  pub about : first (context_at s x).subject ≡ Some y
  pub same : adapter_of s x ≡ a

ran : (c : Inputs) (s : State) (e : Entry) (x y : ℕ) → enters e x ≡ false → is_sync (handler_of (after c s e) x) ≡ true → first (context_at (after c s e) x).subject ≡ Some y → Ran s x y (adapter_of (after c s e) x)
ran c s e x y other runs about =
    let was = was_open (slice_get s.owner.contexts x) (slice_get (after c s e).owner.contexts x) (rows_stay c s e x other) (no_entry (handler_of (after c s e) x) runs) in
    record { runs = ap is_sync was.0 ∙ runs; about = ap first (sym (subjects_stay c s e x other)) ∙ about; same = was.1 }

kept_caller : Laws → (c : Inputs) (s : State) (e : Entry) (x y : ℕ) → IsOfRun c s → Meets c s e → Syncs s → enters e x ≡ false → is_sync (handler_of (after c s e) x) ≡ true
    → first (context_at (after c s e) x).subject ≡ Some y → HasCaller (after c s e) x y
kept_caller l c s e x y is meets syncs other runs about =
    let before = ran c s e x y other runs about in
    let has = syncs.asked x y before.runs before.about in
    let mine = sym before.same ∙ has.mine in
    record {
      adapter = has.adapter;
      mine = mine;
      callers = stays_open l c s e x y has.adapter (OnSync Entered) is meets has.callers has.waits mine;
      waits = stays_waiting l c s e x y is meets syncs before.runs before.about runs has;
    }

two_waits : (m : Option Calling) → wait_in m ≡ Some (OnSync Needed) → wait_in m ≡ Some (OnSync Entered) → ⊥
two_waits None one other = cc
two_waits (Some call) one other = let both : Some (OnSync Needed) ≡ Some (OnSync Entered) = sym one ∙ other in cc

both_entered : (e : Entry) (x z : ℕ) → enters e x ≡ true → enters e z ≡ true → x ≡ z
both_entered (entries.Enter b w h words writes) x z one other = sym (eqb-true w.0 x one) ∙ eqb-true w.0 z other
both_entered _ x z one other = absurd (cc)

step : Laws → (c : Inputs) (s : State) (e : Entry) → IsOfRun c s → Syncs s → Meets c s e → Syncs (after c s e)
step l c s e is syncs meets = record {
  asked = λ x y runs about. by_enter x y runs about (enters e x) refl;
  one = λ x z y runs other about of. by_both x z y runs other about of (enters e x) (enters e z) refl refl;
}
  where
    by_enter : (x y : ℕ) → is_sync (handler_of (after c s e) x) ≡ true → first (context_at (after c s e) x).subject ≡ Some y → (b : Bool) → enters e x ≡ b → HasCaller (after c s e) x y
    by_enter x y runs about true at = (at_enter l c s e x y at is meets runs about).0
    by_enter x y runs about false at = kept_caller l c s e x y is meets syncs at runs about

    by_both : (x z y : ℕ) → is_sync (handler_of (after c s e) x) ≡ true → is_sync (handler_of (after c s e) z) ≡ true → first (context_at (after c s e) x).subject ≡ Some y
        → first (context_at (after c s e) z).subject ≡ Some y → (b d : Bool) → enters e x ≡ b → enters e z ≡ d → x ≡ z
    by_both x z y runs other about of true true at there = both_entered e x z at there
    by_both x z y runs other about of false false at there =
        let one = ran c s e x y at runs about in
        let two = ran c s e z y there other of in
        syncs.one x z y one.runs two.runs one.about two.about
    by_both x z y runs other about of true false at there =
        let two = ran c s e z y there other of in
        absurd (two_waits (call_at s y) (at_enter l c s e x y at is meets runs about).1 (syncs.asked z y two.runs two.about).waits)
    by_both x z y runs other about of false true at there =
        let one = ran c s e x y at runs about in
        absurd (two_waits (call_at s y) (at_enter l c s e z y there is meets other of).1 (syncs.asked x y one.runs one.about).waits)

begins : (c : Inputs) → Syncs (start c)
begins c = record { asked = λ x y runs about. absurd (none x runs); one = λ x z y runs other about of. absurd (none x runs) }
  where
    none : (x : ℕ) → is_sync (handler_of (start c) x) ≡ true → ⊥
    none x runs = let idle : is_sync (handler_of (start c) x) ≡ false = ap is_sync (none_open 16 x) in cc

pub all_sync : Laws → (c : Inputs) (s : State) → IsOfRun c s → Syncs s
all_sync l c s is = of_run l.on c Syncs (λ t e of h meets. step l c t e of h meets) (begins c) s is
