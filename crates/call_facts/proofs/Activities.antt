-- What an entry leaves of the run's contexts: registers, what a handler was entered for, and open calls.
use Rattle.std.proofs.Common.{◌≡◌, ℕ, zero, suc, Bool, true, false, cond, ◌==◌, List, [], ◌∷◌, Option, Some, None, refl, sym, ap, subst, slice_set, slice_index_or}
use Rattle.std.specs.Option.{option_map}
use Rattle.nd_base.specs.declared.numbers.AdapterNo.{AdapterNo}
use Rattle.nd_base.specs.declared.numbers.BindingNo.{BindingNo}
use Rattle.nd_base.specs.declared.numbers.CtxNo.{CtxNo}
use Rattle.irql_lock.specs.LockMoves.{Leave as Leaving}
use Rattle.log_fields.specs.declared.write.Write.{Write}
use Rattle.log_fields.specs.declared.field_values.Handler.{Handler}
use Rattle.log_fields.specs.declared.field_values.Handler.TheVariants as handler
use Rattle.call_log.specs.declared.entry.Entry.{Entry}
use Rattle.call_log.specs.declared.entry.Entry.TheVariants as entries
use Rattle.import_table.specs.Table.{row_of}
use Rattle.import_answers.specs.Statuses.{success}
use Rattle.legal_run.specs.State.{Inputs, State, Context, Calling, Wait, OnSync, Entered, Left, adapter_of, call_at, cells, context_at, handler_of, has_handler, no_context}
use Rattle.legal_run.specs.Calls.{leaves}
use Rattle.legal_run.specs.Owed.{first, sync_caller}
use Rattle.legal_run.specs.Replies.{Answered, Told, answered, returned}
use Rattle.legal_run.specs.After.{after, all_spoke, begun, charge_to, framed, import_of, is_breaking, left_row, leveled, machine_of, number_in, recognized, replied, spun, taken, turned, with_wait, with_world}
use Rattle.call_facts.proofs.Moments.{apart}
use Rattle.call_facts.proofs.Handlers.{enters}

abbrev pub Holds : Type 1
Holds = Context → Type 0

abbrev pub place : List Context → ℕ → Context
place cs x = slice_index_or cs x no_context

-- what is put into one place, and what stood there, is all that there is
pub set_has : (P : Holds) (cs : List Context) (y x : ℕ) (v : Context) → (y ≡ x → P v) → P (place cs x) → P (place (slice_set cs y v) x)
set_has P [] y x v new old = old
set_has P (c ∷ cs) zero zero v new old = new refl
set_has P (c ∷ cs) zero (suc x) v new old = old
set_has P (c ∷ cs) (suc y) zero v new old = old
set_has P (c ∷ cs) (suc y) (suc x) v new old = set_has P cs y x v (λ is. new (ap suc is)) old

pub as_was : (P : Holds) (cs ds : List Context) (x : ℕ) → ds ≡ cs → P (place cs x) → P (place ds x)
as_was P cs ds x is h = subst (λ (l : List Context). P (place l x)) (sym is) h

-- ---- entries of no context of their own

framed_same : (s : State) (bs : List BindingNo) → (framed s bs).contexts ≡ s.contexts
unfolding framed
framed_same s [] = refl
framed_same s (b ∷ bs) = framed_same _ bs

spoke_same : (s : State) (bs : List ℕ) → (all_spoke s bs).contexts ≡ s.contexts
unfolding all_spoke
spoke_same s [] = refl
spoke_same s (b ∷ bs) = spoke_same _ bs

spun_same : (s : State) (x : CtxNo) (call : Option Calling) → (spun s x call).contexts ≡ s.contexts
spun_same s x None = refl
spun_same s x (Some call) = refl

abbrev pub acts : Entry → Bool
acts (entries.Enter a x h words writes) = true
acts (entries.Leave x eax) = true
acts (entries.Turn x n) = true
acts (entries.Call x import words) = true
acts (entries.Reply x eax writes) = true
acts e = false

pub same_contexts : (c : Inputs) (s : State) (e : Entry) → acts e ≡ false → (after c s e).contexts ≡ s.contexts
same_contexts c s (entries.Enter a x h words writes) is = absurd (cc)
same_contexts c s (entries.Leave x eax) is = absurd (cc)
same_contexts c s (entries.Turn x n) is = absurd (cc)
same_contexts c s (entries.Call x import words) is = absurd (cc)
same_contexts c s (entries.Reply x eax writes) is = absurd (cc)
same_contexts c s (entries.Indicate a j bytes holders copied) is = framed_same s holders
same_contexts c s (entries.Spin x lock) is = spun_same s x (call_at s x.0)
same_contexts c s (entries.Stop a why) is = spoke_same s _
same_contexts c s _ is = refl

-- ---- turns, replies

charged_same : (s : State) (who : Option AdapterNo) (n : ℕ) → (charge_to s who n).contexts ≡ s.contexts
charged_same s None n = refl
charged_same s (Some a) n = refl

abbrev pub turned_context : State → CtxNo → ℕ → Context
turned_context s x n = record (context_at s x.0) { registers = (turned n (machine_of s x)).registers }

pub turn_contexts : (c : Inputs) (s : State) (x : CtxNo) (n : ℕ) → (after c s (entries.Turn x n)).contexts ≡ slice_set s.contexts x.0 (turned_context s x n)
turn_contexts c s x n = charged_same _ (adapter_of s x.0) n

abbrev pub replied_context : State → CtxNo → ℕ → Context
replied_context s x eax = record (context_at s x.0) { registers = returned (cells s) (context_at s x.0).registers (row_of (import_of s x)) eax; call = None }

pub replied_has : (P : Holds) (s : State) (x : CtxNo) (told : Told) (answer : Option Answered) (y : ℕ) → (x.0 ≡ y → P (replied_context s x told.eax)) → P (context_at s y) → P (context_at (replied s x told answer) y)
replied_has P s x told None y new old = old
replied_has P s x told (Some given) y new old =
    as_was P (slice_set s.contexts x.0 (replied_context s x told.eax)) _ y (charged_same _ (adapter_of s x.0) given.0.cost)
    (set_has P s.contexts x.0 y (replied_context s x told.eax) new old)

-- ---- what is told to the call that waits for a function

abbrev pub waited : State → ℕ → Wait → Context
waited s y w = record (context_at s y) { call = option_map {T = Calling} (λ call. record call { wait = w }) (call_at s y) }

pub wait_has : (P : Holds) (s : State) (o : Option ℕ) (w : Wait) (x : ℕ) → (o ≡ Some x → P (waited s x w)) → P (context_at s x) → P (context_at (with_wait s o w) x)
wait_has P s None w x new old = old
wait_has P s (Some y) w x new old = set_has P s.contexts y x (waited s y w) (λ is. subst (λ (k : ℕ). P (waited s k w)) (sym is) (new (ap Some is))) old

-- ---- leaves, enters

abbrev pub is_sync : Handler → Bool
is_sync handler.Sync = true
is_sync _ = false

either_same : (b : Bool) (t u s : State) → t.contexts ≡ s.contexts → u.contexts ≡ s.contexts → (cond b t u).contexts ≡ s.contexts
either_same true t u s one other = one
either_same false t u s one other = other

left_row_has : (P : Holds) (c : Inputs) (s : State) (a : ℕ) (x : CtxNo) (eax : ℕ) (h : Handler) (y : ℕ)
    → (is_sync h ≡ true → first (context_at s x.0).subject ≡ Some y → P (waited s y (OnSync (Left eax)))) → P (context_at s y) → P (context_at (left_row c s a x eax h) y)
left_row_has P c s a x eax handler.Sync y new old = wait_has P s (first (context_at s x.0).subject) (OnSync (Left eax)) y (new refl) old
left_row_has P c s a x eax handler.Initialize y new old = as_was P s.contexts _ y (either_same (eax == success) _ _ s refl refl) old
left_row_has P c s a x eax handler.Isr y new old = as_was P s.contexts _ y (either_same (recognized s x) _ _ s refl refl) old
left_row_has P c s a x eax handler.HandleInterrupt y new old = as_was P s.contexts _ y (either_same (has_handler s handler.EnableInterrupt) _ _ s refl refl) old
left_row_has P c s a x eax _ y new old = old

pub left_has : (P : Holds) (c : Inputs) (s : State) (x : CtxNo) (eax y : ℕ)
    → (is_breaking (leaves c s x eax) ≡ false → is_sync (handler_of s x.0) ≡ true → first (context_at s x.0).subject ≡ Some y → P (waited s y (OnSync (Left eax)))) → P (context_at s y) → P (context_at (after c s (entries.Leave x eax)) y)
left_has P c s x eax y new old = by_test (is_breaking (leaves c s x eax)) refl
  where
    by_test : (b : Bool) → is_breaking (leaves c s x eax) ≡ b
        → P (place (cond b s (let t = left_row c s (number_in c (adapter_of s x.0)) x eax (handler_of s x.0) in with_world t (leveled t.world (Leaving x)))).contexts y)
    by_test true is = old
    by_test false is = left_row_has P c s (number_in c (adapter_of s x.0)) x eax (handler_of s x.0) y (new is) old

taken_has : (P : Holds) (s : State) (a : ℕ) (h : Handler) (words : List ℕ) (writes : List Write) (y : ℕ)
    → (is_sync h ≡ true → sync_caller s a ≡ Some y → P (waited s y (OnSync Entered))) → P (context_at s y) → P (context_at (taken s a h words writes) y)
taken_has P s a handler.Sync words writes y new old = wait_has P s (sync_caller s a) (OnSync Entered) y (new refl) old
taken_has P s a _ words writes y new old = old

pub entered_has : (P : Holds) (c : Inputs) (s : State) (a : Option AdapterNo) (x : CtxNo) (h : Handler) (words : List ℕ) (writes : List Write) (y : ℕ)
    → (x.0 ≡ y → P (begun c s (number_in c a) x h words)) → (is_sync h ≡ true → sync_caller s (number_in c a) ≡ Some y → P (waited s y (OnSync Entered)))
    → P (context_at s y) → P (context_at (after c s (entries.Enter a x h words writes)) y)
entered_has P c s a x h words writes y new sync old =
    set_has P (taken s (number_in c a) h words writes).contexts x.0 y (begun c s (number_in c a) x h words) new (taken_has P s (number_in c a) h words writes y sync old)

-- ---- what a handler was entered for stays

-- the subject is this
abbrev About : List ℕ → Holds
About subject v = v.subject ≡ subject

pub subjects_stay : (c : Inputs) (s : State) (e : Entry) (x : ℕ) → enters e x ≡ false → (context_at (after c s e) x).subject ≡ (context_at s x).subject
subjects_stay c s (entries.Enter a y h words writes) x other =
    entered_has (About (context_at s x).subject) c s a y h words writes x (λ is. absurd (apart y.0 x other is)) (λ sync is. refl) refl
subjects_stay c s (entries.Leave y eax) x other = left_has (About (context_at s x).subject) c s y eax x (λ kept sync is. refl) refl
subjects_stay c s (entries.Turn y n) x other =
    as_was (About (context_at s x).subject) (slice_set s.contexts y.0 (turned_context s y n)) _ x (turn_contexts c s y n)
    (set_has (About (context_at s x).subject) s.contexts y.0 x (turned_context s y n) (λ is. ap (λ (k : ℕ). (context_at s k).subject) is) refl)
subjects_stay c s (entries.Call y import words) x other =
    set_has (About (context_at s x).subject) s.contexts y.0 x _ (λ is. ap (λ (k : ℕ). (context_at s k).subject) is) refl
subjects_stay c s (entries.Reply y eax writes) x other =
    let told : Told = record { eax = eax; writes = writes } in
    replied_has (About (context_at s x).subject) s y told (answered s y told) x (λ is. ap (λ (k : ℕ). (context_at s k).subject) is) refl
subjects_stay c s e x other = as_was (About (context_at s x).subject) s.contexts _ x (same_contexts c s e refl) refl
