-- Open handlers that are in a call: the owner machine and the run agree on them.
use Rattle.std.proofs.Common.{◌≡◌, ℕ, zero, suc, Bool, true, false, cond, ◌==◌, List, [], ◌∷◌, ◌++◌, Option, Some, None, refl, sym, ap, ◌∙◌, subst, slice_set, slice_index_or}
use Rattle.std.specs.Prelude.{⊤, replicate, is_none}
use Rattle.std.specs.Option.{option_map}
use Rattle.nd_base.specs.declared.numbers.AdapterNo.{AdapterNo}
use Rattle.nd_base.specs.declared.numbers.BindingNo.{BindingNo}
use Rattle.nd_base.specs.declared.numbers.CtxNo.{CtxNo}
use Rattle.log_fields.specs.declared.write.Write.{Write}
use Rattle.log_fields.specs.declared.field_values.Handler.{Handler}
use Rattle.log_fields.specs.declared.field_values.Handler.TheVariants as handler
use Rattle.call_log.specs.declared.entry.Entry.{Entry}
use Rattle.call_log.specs.declared.entry.Entry.TheVariants as entries
use Rattle.import_answers.specs.Statuses.{success}
use Rattle.owner_machine.specs.declared.rows.Context.{Context as OwnerContext}
use Rattle.owner_machine.specs.declared.rows.Context.TheVariants.{Free, Open}
use Rattle.owner_machine.specs.State.{at, change}
use Rattle.owner_machine.specs.Contexts.{any_handler, runs, is_at_work, is_calling, calling, answered_call, freed, entry_freed, transfer_begun, wants_transfer, with_transfer}
use Rattle.owner_machine.specs.Handlers.{contexts_entered}
use Rattle.owner_machine.specs.Adapters.{contexts_stopped, all_stopped, stopped}
use Rattle.legal_run.specs.State.{Inputs, State, Context, Calling, Wait, call_at, context_at, no_context, adapter_of, has_handler, is_open, is_open_context, start}
use Rattle.legal_run.specs.Calls.{leaves}
use Rattle.legal_run.specs.Replies.{Answered, Told, answered}
use Rattle.legal_run.specs.After.{after, framed, all_spoke, charge_to, with_wait, taken, left_row, replied, spun, is_breaking, recognized, owner_left}
use Rattle.legal_run.specs.EntryLaws.{IsReply}
use Rattle.legal_run.specs.Run.{Run, Meets, now}
use Rattle.run_facts.specs.Facts.{IsOfRun}
use Rattle.run_facts.proofs.Runs.{of_run, run_more}

-- ---- one context, and all

abbrev Agrees : OwnerContext → Context → Type 0
Agrees Free x = ⊤
Agrees (Open a h enter None) x = is_none x.call ≡ true
Agrees (Open a h enter (Some call)) x = is_none x.call ≡ false

abbrev AllAgree : List OwnerContext → List Context → Type 0
AllAgree [] xs = ⊤
AllAgree (o ∷ os) [] = ⊥
AllAgree (o ∷ os) (x ∷ xs) = Agrees o x × AllAgree os xs

abbrev call_in : List Context → ℕ → Option Calling
call_in xs k = (slice_index_or xs k no_context).call

agrees_alike : (o : OwnerContext) (x y : Context) → is_none y.call ≡ is_none x.call → Agrees o x → Agrees o y
agrees_alike Free x y is h = tt
agrees_alike (Open a k enter None) x y is h = is ∙ h
agrees_alike (Open a k enter (Some call)) x y is h = is ∙ h

-- ---- what changes one place

set_both : (os : List OwnerContext) (xs : List Context) (k : ℕ) (o : OwnerContext) (x : Context) → Agrees o x → AllAgree os xs → AllAgree (slice_set os k o) (slice_set xs k x)
set_both [] xs k o x is all = tt
set_both (p ∷ os) [] k o x is all = absurd all
set_both (p ∷ os) (y ∷ xs) zero o x is all = (is, all.1)
set_both (p ∷ os) (y ∷ xs) (suc k) o x is all = (all.0, set_both os xs k o x is all.1)

set_alike : (os : List OwnerContext) (xs : List Context) (k : ℕ) (x : Context) → is_none x.call ≡ is_none (call_in xs k) → AllAgree os xs → AllAgree os (slice_set xs k x)
set_alike [] xs k x is all = tt
set_alike (p ∷ os) [] k x is all = absurd all
set_alike (p ∷ os) (y ∷ xs) zero x is all = (agrees_alike p y x is all.0, all.1)
set_alike (p ∷ os) (y ∷ xs) (suc k) x is all = (all.0, set_alike os xs k x is all.1)

set_free : (os : List OwnerContext) (xs : List Context) (k : ℕ) → AllAgree os xs → AllAgree (slice_set os k Free) xs
set_free [] xs k all = tt
set_free (p ∷ os) [] k all = absurd all
set_free (p ∷ os) (y ∷ xs) zero all = (tt, all.1)
set_free (p ∷ os) (y ∷ xs) (suc k) all = (all.0, set_free os xs k all.1)

changed_both : (f : OwnerContext → OwnerContext) (os : List OwnerContext) (xs : List Context) (k : ℕ) (x : Context) → ((o : OwnerContext) → Agrees (f o) x) → AllAgree os xs
    → AllAgree (change f os k) (slice_set xs k x)
changed_both f [] xs k x is all = tt
changed_both f (p ∷ os) [] k x is all = absurd all
changed_both f (p ∷ os) (y ∷ xs) zero x is all = (is p, all.1)
changed_both f (p ∷ os) (y ∷ xs) (suc k) x is all = (all.0, changed_both f os xs k x is all.1)

called : (import : ℕ) (words : List ℕ) (x : Context) → is_none x.call ≡ false → (o : OwnerContext) → Agrees (calling import words o) x
called import words x is (Open a h enter call) = is
called import words x is Free = tt

returned : (x : Context) → is_none x.call ≡ true → (o : OwnerContext) → Agrees (answered_call o) x
returned x is (Open a h enter call) = is
returned x is Free = tt

-- ---- transfers that begin, contexts that go

transfer_agrees : (n : ℕ) (o : OwnerContext) (x : Context) → Agrees o x → Agrees (with_transfer n o) x
transfer_agrees n (Open a h enter (Some call)) x is = is
transfer_agrees n (Open a h enter None) x is = is
transfer_agrees n Free x is = is

begun_agree : (a n : ℕ) (os : List OwnerContext) (xs : List Context) → AllAgree os xs → AllAgree (transfer_begun a n os) xs
begun_agree a n [] xs all = tt
begun_agree a n (o ∷ os) [] all = absurd all
begun_agree a n (o ∷ os) (x ∷ xs) all = by_test (wants_transfer a o) (begun_agree a n os xs all.1)
  where
    by_test : (t : Bool) → AllAgree (transfer_begun a n os) xs → AllAgree (cond t (with_transfer n o ∷ os) (o ∷ transfer_begun a n os)) (x ∷ xs)
    by_test true more = (transfer_agrees n o x all.0, all.1)
    by_test false more = (all.0, more)

opened_agree : (b : Option AdapterNo) (h : Handler) (n : ℕ) (os : List OwnerContext) (xs : List Context) → AllAgree os xs → AllAgree (contexts_entered b h n os) xs
opened_agree (Some b) handler.TransferData n os xs all = begun_agree b.0 n os xs all
opened_agree None handler.TransferData n os xs all = all
opened_agree (Some b) _ n os xs all = all
opened_agree None _ n os xs all = all

freed_agree : (a : ℕ) (os : List OwnerContext) (xs : List Context) → AllAgree os xs → AllAgree (freed a os) xs
freed_agree a [] xs all = tt
freed_agree a (o ∷ os) [] all = absurd all
freed_agree a (o ∷ os) (x ∷ xs) all = (by_test (runs any_handler a o), freed_agree a os xs all.1)
  where
    by_test : (t : Bool) → Agrees (cond t Free o) x
    by_test true = tt
    by_test false = all.0

entry_freed_agree : (os : List OwnerContext) (xs : List Context) → AllAgree os xs → AllAgree (entry_freed os) xs
entry_freed_agree [] xs all = tt
entry_freed_agree (o ∷ os) [] all = absurd all
entry_freed_agree (Open None h enter call ∷ os) (x ∷ xs) all = (tt, entry_freed_agree os xs all.1)
entry_freed_agree (Open (Some a) h enter call ∷ os) (x ∷ xs) all = (all.0, entry_freed_agree os xs all.1)
entry_freed_agree (Free ∷ os) (x ∷ xs) all = (tt, entry_freed_agree os xs all.1)

stopped_agree : (a : ℕ) (last : Bool) (os : List OwnerContext) (xs : List Context) → AllAgree os xs → AllAgree (contexts_stopped os a last) xs
stopped_agree a true os xs all = entry_freed_agree (freed a os) xs (freed_agree a os xs all)
stopped_agree a false os xs all = freed_agree a os xs all

-- ---- the run's own contexts

framed_contexts : (s : State) (bs : List BindingNo) → (framed s bs).contexts ≡ s.contexts
unfolding framed
framed_contexts s [] = refl
framed_contexts s (b ∷ bs) = framed_contexts _ bs

spoke_contexts : (s : State) (bs : List ℕ) → (all_spoke s bs).contexts ≡ s.contexts
unfolding all_spoke
spoke_contexts s [] = refl
spoke_contexts s (b ∷ bs) = spoke_contexts _ bs

abbrev Same : List OwnerContext → State → State → Type 0
Same os t s = AllAgree os s.contexts → AllAgree os t.contexts

still : (os : List OwnerContext) (ys xs : List Context) → ys ≡ xs → AllAgree os xs → AllAgree os ys
still os ys xs is all = subst (AllAgree os) (sym is) all

mapped_none : (f : Calling → Calling) (call : Option Calling) → is_none (option_map f call) ≡ is_none call
mapped_none f None = refl
mapped_none f (Some call) = refl

wait_same : (os : List OwnerContext) (s : State) (x : Option ℕ) (w : Wait) → Same os (with_wait s x w) s
wait_same os s None w all = all
wait_same os s (Some x) w all = set_alike os s.contexts x _ (mapped_none (λ call. record call { wait = w }) (call_at s x)) all

taken_same : (os : List OwnerContext) (s : State) (a : ℕ) (h : Handler) (words : List ℕ) (writes : List Write) → Same os (taken s a h words writes) s
taken_same os s a handler.Sync words writes all = wait_same os s _ _ all
taken_same os s a _ words writes all = all

either : (os : List OwnerContext) (b : Bool) (t u s : State) → Same os t s → Same os u s → Same os (cond b t u) s
either os true t u s one other all = one all
either os false t u s one other all = other all

left_same : (os : List OwnerContext) (c : Inputs) (s : State) (a : ℕ) (x : CtxNo) (eax : ℕ) (h : Handler) → Same os (left_row c s a x eax h) s
left_same os c s a x eax handler.Initialize all = either os (eax == success) _ _ s (λ h. h) (λ h. h) all
left_same os c s a x eax handler.Isr all = either os (recognized s x) _ _ s (λ h. h) (λ h. h) all
left_same os c s a x eax handler.HandleInterrupt all = either os (has_handler s handler.EnableInterrupt) _ _ s (λ h. h) (λ h. h) all
left_same os c s a x eax handler.Sync all = wait_same os s _ _ all
left_same os c s a x eax _ all = all

charged_contexts : (s : State) (who : Option AdapterNo) (n : ℕ) → (charge_to s who n).contexts ≡ s.contexts
charged_contexts s None n = refl
charged_contexts s (Some a) n = refl

spun_contexts : (s : State) (x : CtxNo) (call : Option Calling) → (spun s x call).contexts ≡ s.contexts
spun_contexts s x None = refl
spun_contexts s x (Some call) = refl

replied_agree : (s : State) (x : CtxNo) (told : Told) (answer : Option Answered) (given : Answered) → answer ≡ Some given → AllAgree s.owner.contexts s.contexts
    → AllAgree (change answered_call s.owner.contexts x.0) (replied s x told answer).contexts
replied_agree s x told None given is all = absurd (cc)
replied_agree s x told (Some found) given is all =
    let old = context_at s x.0 in
    subst (AllAgree (change answered_call s.owner.contexts x.0)) (sym (charged_contexts _ (adapter_of s x.0) found.0.cost))
    (changed_both answered_call s.owner.contexts s.contexts x.0 _ (returned _ refl) all)

-- ---- over a run

-- a reply answers the open call (a law of crates/legal_run)
abbrev pub RepliesAnswer : Type 0
RepliesAnswer = (c : Inputs) (log : List Entry) (x : CtxNo) (eax : ℕ) (writes : List Write) → Run c (log ++ entries.Reply x eax writes ∷ []) → IsReply (now c log) x eax writes

reply_step : RepliesAnswer → (c : Inputs) (s : State) (x : CtxNo) (eax : ℕ) (writes : List Write) → IsOfRun c s → AllAgree s.owner.contexts s.contexts → Meets c s (entries.Reply x eax writes)
    → AllAgree (change answered_call s.owner.contexts x.0) (replied s x (record { eax = eax; writes = writes }) (answered s x (record { eax = eax; writes = writes }))).contexts
reply_step replies c s x eax writes is all meets =
    let told : Told = record { eax = eax; writes = writes } in
    let reply = replies c is.log x eax writes (run_more c s (entries.Reply x eax writes) is meets) in
    replied_agree s x told (answered s x told) reply.given (ap (λ t. answered t x told) (sym is.reaches.state) ∙ reply.found) all

leave_step : (c : Inputs) (s : State) (x : CtxNo) (eax : ℕ) (breaks : Bool) → AllAgree s.owner.contexts s.contexts → (t : State) → Same s.owner.contexts t s
    → AllAgree (owner_left s.owner (entries.Leave x eax) breaks).contexts (cond breaks s t).contexts
leave_step c s x eax true all t same = all
leave_step c s x eax false all t same = set_free s.owner.contexts t.contexts x.0 (same all)

step : RepliesAnswer → (c : Inputs) (s : State) (e : Entry) → IsOfRun c s → AllAgree s.owner.contexts s.contexts → Meets c s e → AllAgree (after c s e).owner.contexts (after c s e).contexts
step replies c s (entries.Indicate a j bytes holders copied) is all meets = still s.owner.contexts _ s.contexts (framed_contexts s holders) all
step replies c s (entries.Enter a x h words writes) is all meets =
    set_both _ _ x.0 _ _ refl (opened_agree a h s.owner.enters s.owner.contexts _ (taken_same s.owner.contexts s _ h words writes all))
step replies c s (entries.Leave x eax) is all meets = leave_step c s x eax (is_breaking (leaves c s x eax)) all _ (λ h. left_same s.owner.contexts c s _ x eax _ h)
step replies c s (entries.Turn x n) is all meets = still s.owner.contexts _ _ (charged_contexts _ (adapter_of s x.0) n) (set_alike s.owner.contexts s.contexts x.0 _ refl all)
step replies c s (entries.Call x import words) is all meets = changed_both (calling import words) s.owner.contexts s.contexts x.0 _ (called import words _ refl) all
step replies c s (entries.Reply x eax writes) is all meets = reply_step replies c s x eax writes is all meets
step replies c s (entries.Spin x lock) is all meets = still s.owner.contexts _ s.contexts (spun_contexts s x _) all
step replies c s (entries.Stop a why) is all meets = stopped_agree a.0 (all_stopped (change stopped s.owner.adapters a.0)) s.owner.contexts _ (still s.owner.contexts _ s.contexts (spoke_contexts s _) all)
step replies c s _ is all meets = all

fresh : (n : ℕ) (x : Context) → AllAgree (replicate n Free) (replicate n x)
fresh zero x = tt
fresh (suc n) x = (tt, fresh n x)

begun : (c : Inputs) → AllAgree (start c).owner.contexts (start c).contexts
unfolding Rattle.legal_run.specs.State.no_contexts
begun c = fresh 16 no_context

all_agree : RepliesAnswer → (c : Inputs) (s : State) → IsOfRun c s → AllAgree s.owner.contexts s.contexts
all_agree replies c s is = of_run c (λ t. AllAgree t.owner.contexts t.contexts) (step replies c) (begun c) s is

-- ---- at one context

at_work : (os : List OwnerContext) (xs : List Context) (k : ℕ) → AllAgree os xs → at is_open_context os k ≡ true → call_in xs k ≡ None → at is_at_work os k ≡ true
at_work [] xs k all is none = is
at_work (o ∷ os) [] k all is none = absurd all
at_work (Free ∷ os) (x ∷ xs) zero all is none = is
at_work (Open a h enter None ∷ os) (x ∷ xs) zero all is none = refl
at_work (Open a h enter (Some call) ∷ os) (x ∷ xs) zero all is none = sym all.0 ∙ ap (λ (m : Option Calling). is_none m) none
at_work (o ∷ os) (x ∷ xs) (suc k) all is none = at_work os xs k all.1 is none

in_call : (os : List OwnerContext) (xs : List Context) (k : ℕ) (call : Calling) → AllAgree os xs → at is_open_context os k ≡ true → call_in xs k ≡ Some call → at is_calling os k ≡ true
in_call [] xs k call all is some = is
in_call (o ∷ os) [] k call all is some = absurd all
in_call (Free ∷ os) (x ∷ xs) zero call all is some = is
in_call (Open a h enter (Some opened) ∷ os) (x ∷ xs) zero call all is some = refl
in_call (Open a h enter None ∷ os) (x ∷ xs) zero call all is some = sym (sym all.0 ∙ ap (λ (m : Option Calling). is_none m) some)
in_call (o ∷ os) (x ∷ xs) (suc k) call all is some = in_call os xs k call all.1 is some

pub works : RepliesAnswer → (c : Inputs) (s : State) (x : ℕ) → IsOfRun c s → is_open s x ≡ true → call_at s x ≡ None → at is_at_work s.owner.contexts x ≡ true
works replies c s x is there none = at_work s.owner.contexts s.contexts x (all_agree replies c s is) there none

pub calls : RepliesAnswer → (c : Inputs) (s : State) (x : ℕ) (call : Calling) → IsOfRun c s → is_open s x ≡ true → call_at s x ≡ Some call → at is_calling s.owner.contexts x ≡ true
calls replies c s x call is there some = in_call s.owner.contexts s.contexts x call (all_agree replies c s is) there some
