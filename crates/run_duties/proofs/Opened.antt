-- Open handlers of one kind, each by the number of its enter, and what each was entered for: how both stay.
use Rattle.std.proofs.Common.{◌≡◌, ℕ, zero, suc, Bool, true, false, cond, not, ◌&&◌, ◌==◌, List, [], ◌∷◌, Option, Some, None, refl, sym, ap, ◌∙◌, slice_set, slice_index_or, arith}
use Rattle.std.proofs.lemmas.Bool.{eqb-true}
use Rattle.nd_base.specs.declared.numbers.AdapterNo.{AdapterNo}
use Rattle.nd_base.specs.declared.numbers.BindingNo.{BindingNo}
use Rattle.nd_base.specs.declared.numbers.CtxNo.{CtxNo}
use Rattle.log_fields.specs.declared.write.Write.{Write}
use Rattle.log_fields.specs.declared.field_values.Handler.{Handler}
use Rattle.log_fields.specs.declared.field_values.Handler.TheVariants as handler
use Rattle.call_log.specs.declared.entry.Entry.{Entry}
use Rattle.call_log.specs.declared.entry.Entry.TheVariants as entries
use Rattle.import_answers.specs.Statuses.{success}
use Rattle.owner_machine.specs.declared.rows.Context.{Context as OwnerContext}
use Rattle.owner_machine.specs.declared.rows.Context.TheVariants as kept_context
use Rattle.owner_machine.specs.State.{Owner, at, change}
use Rattle.owner_machine.specs.Contexts.{any_handler, runs, calling, answered_call, freed, entry_freed, transfer_begun, wants_transfer, with_transfer}
use Rattle.owner_machine.specs.Handlers.{contexts_entered}
use Rattle.owner_machine.specs.Adapters.{contexts_stopped, all_stopped, stopped}
use Rattle.owner_machine.specs.Machine.{rule_against, has_case}
use Rattle.owner_machine.specs.Machine as owners
use Rattle.legal_run.specs.State.{Inputs, State, Context, Calling, Wait, context_at, no_context, adapter_of, has_handler}
use Rattle.legal_run.specs.Calls.{leaves}
use Rattle.legal_run.specs.Replies.{Answered, Told, answered as answered_to}
use Rattle.legal_run.specs.After.{after, framed, all_spoke, charge_to, with_wait, taken, left_row, replied, spun, is_breaking, recognized, owner_left}
use Rattle.run_duties.proofs.Rows.{true_both, kept}

-- ---- open handlers of one kind

-- it runs such a handler of the adapter, of that enter
abbrev pub runs_as : (kind : Handler → Bool) (a n : ℕ) → OwnerContext → Bool
runs_as kind a n (kept_context.Open (Some b) h m call) = (b.0 == a) && (kind h && (m == n))
runs_as kind a n _ = false

pub set_free : (kind : Handler → Bool) (a n : ℕ) (cs : List OwnerContext) (k y : ℕ) → at (runs_as kind a n) (slice_set cs k kept_context.Free) y ≡ true → at (runs_as kind a n) cs y ≡ true
set_free kind a n [] k y h = h
set_free kind a n (x ∷ cs) zero zero h = absurd (cc)
set_free kind a n (x ∷ cs) zero (suc y) h = h
set_free kind a n (x ∷ cs) (suc k) zero h = h
set_free kind a n (x ∷ cs) (suc k) (suc y) h = set_free kind a n cs k y h

pub set_at : {A : Type 0} (test : A → Bool) (cs : List A) (k : ℕ) (z : A) → at test (slice_set cs k z) k ≡ true → test z ≡ true
set_at test [] k z h = absurd (cc)
set_at test (x ∷ cs) zero z h = h
set_at test (x ∷ cs) (suc k) z h = set_at test cs k z h

set_other : {A : Type 0} (test : A → Bool) (cs : List A) (k y : ℕ) (z : A) → (k == y) ≡ false → at test (slice_set cs k z) y ≡ true → at test cs y ≡ true
set_other test [] k y z not h = h
set_other test (x ∷ cs) zero zero z not h = absurd (cc)
set_other test (x ∷ cs) zero (suc y) z not h = h
set_other test (x ∷ cs) (suc k) zero z not h = h
set_other test (x ∷ cs) (suc k) (suc y) z not h = set_other test cs k y z (less k y not) h
  where
    less : (k y : ℕ) → (suc k == suc y) ≡ false → (k == y) ≡ false
    less k y h = grind arith

transfer_runs : (kind : Handler → Bool) (a n m : ℕ) (x : OwnerContext) → runs_as kind a n (with_transfer m x) ≡ runs_as kind a n x
transfer_runs kind a n m (kept_context.Open (Some b) h enter (Some call)) = refl
transfer_runs kind a n m (kept_context.Open None h enter (Some call)) = refl
transfer_runs kind a n m (kept_context.Open b h enter None) = refl
transfer_runs kind a n m kept_context.Free = refl

begun_runs : (kind : Handler → Bool) (a n b m : ℕ) (cs : List OwnerContext) (y : ℕ) → at (runs_as kind a n) (transfer_begun b m cs) y ≡ true → at (runs_as kind a n) cs y ≡ true
begun_runs kind a n b m [] y h = h
begun_runs kind a n b m (x ∷ cs) y h = by_test (wants_transfer b x) y h (λ z. begun_runs kind a n b m cs z)
  where
    by_test : (t : Bool) (y : ℕ) → at (runs_as kind a n) (cond t (with_transfer m x ∷ cs) (x ∷ transfer_begun b m cs)) y ≡ true
        → ((z : ℕ) → at (runs_as kind a n) (transfer_begun b m cs) z ≡ true → at (runs_as kind a n) cs z ≡ true) → at (runs_as kind a n) (x ∷ cs) y ≡ true
    by_test true zero h more = sym (transfer_runs kind a n m x) ∙ h
    by_test true (suc y) h more = h
    by_test false zero h more = h
    by_test false (suc y) h more = more y h

opened_runs : (kind : Handler → Bool) (a n : ℕ) (b : Option AdapterNo) (h : Handler) (m : ℕ) (cs : List OwnerContext) (y : ℕ) → at (runs_as kind a n) (contexts_entered b h m cs) y ≡ true → at (runs_as kind a n) cs y ≡ true
opened_runs kind a n (Some b) handler.TransferData m cs y is = begun_runs kind a n b.0 m cs y is
opened_runs kind a n None handler.TransferData m cs y is = is
opened_runs kind a n (Some b) _ m cs y is = is
opened_runs kind a n None _ m cs y is = is

freed_runs : (kind : Handler → Bool) (a n b : ℕ) (cs : List OwnerContext) (y : ℕ) → at (runs_as kind a n) (freed b cs) y ≡ true → (at (runs_as kind a n) cs y ≡ true) × ((a == b) ≡ false)
freed_runs kind a n b [] y h = absurd (cc)
freed_runs kind a n b (x ∷ cs) zero h = here x h
  where
    here : (x : OwnerContext) → runs_as kind a n (cond (runs any_handler b x) kept_context.Free x) ≡ true → (runs_as kind a n x ≡ true) × ((a == b) ≡ false)
    here kept_context.Free h = absurd (cc)
    here (kept_context.Open None k enter call) h = absurd (cc)
    here (kept_context.Open (Some d) k enter call) h = by_test (d.0 == b) refl h
      where
        by_test : (t : Bool) → (d.0 == b) ≡ t → runs_as kind a n (cond t kept_context.Free (kept_context.Open (Some d) k enter call)) ≡ true
            → (runs_as kind a n (kept_context.Open (Some d) k enter call) ≡ true) × ((a == b) ≡ false)
        by_test true is h = absurd (cc)
        by_test false is h = (h, ap (λ (m : ℕ). m == b) (sym (eqb-true d.0 a (true_both _ _ h).0)) ∙ is)
freed_runs kind a n b (x ∷ cs) (suc y) h = freed_runs kind a n b cs y h

entry_runs : (kind : Handler → Bool) (a n : ℕ) (cs : List OwnerContext) (y : ℕ) → at (runs_as kind a n) (entry_freed cs) y ≡ true → at (runs_as kind a n) cs y ≡ true
entry_runs kind a n [] y h = h
entry_runs kind a n (kept_context.Open None k enter call ∷ cs) zero h = absurd (cc)
entry_runs kind a n (kept_context.Open (Some b) k enter call ∷ cs) zero h = h
entry_runs kind a n (kept_context.Free ∷ cs) zero h = h
entry_runs kind a n (kept_context.Open None k enter call ∷ cs) (suc y) h = entry_runs kind a n cs y h
entry_runs kind a n (kept_context.Open (Some b) k enter call ∷ cs) (suc y) h = entry_runs kind a n cs y h
entry_runs kind a n (kept_context.Free ∷ cs) (suc y) h = entry_runs kind a n cs y h

stopped_runs : (kind : Handler → Bool) (a n b : ℕ) (cs : List OwnerContext) (y : ℕ) (all : Bool) → at (runs_as kind a n) (contexts_stopped cs b all) y ≡ true → (at (runs_as kind a n) cs y ≡ true) × ((a == b) ≡ false)
stopped_runs kind a n b cs y true h = freed_runs kind a n b cs y (entry_runs kind a n (freed b cs) y h)
stopped_runs kind a n b cs y false h = freed_runs kind a n b cs y h

calling_runs : (kind : Handler → Bool) (a n import : ℕ) (words : List ℕ) (x : OwnerContext) → runs_as kind a n (calling import words x) ≡ runs_as kind a n x
calling_runs kind a n import words (kept_context.Open (Some b) h enter call) = refl
calling_runs kind a n import words (kept_context.Open None h enter call) = refl
calling_runs kind a n import words kept_context.Free = refl

answered_runs : (kind : Handler → Bool) (a n : ℕ) (x : OwnerContext) → runs_as kind a n (answered_call x) ≡ runs_as kind a n x
answered_runs kind a n (kept_context.Open (Some b) h enter call) = refl
answered_runs kind a n (kept_context.Open None h enter call) = refl
answered_runs kind a n kept_context.Free = refl

-- an entry that enters that context, or stops that adapter
abbrev pub enters_at : Entry → ℕ → Bool
enters_at (entries.Enter _ x _ _ _) y = x.0 == y
enters_at _ y = false

abbrev pub stops_it : Entry → ℕ → Bool
stops_it (entries.Stop b _) a = a == b.0
stops_it _ a = false

-- a handler that is open behind an entry, and was not entered by it, was open, and its adapter is not the one that was stopped
runs_back : (o : Owner) (e : Entry) (y : ℕ) (kind : Handler → Bool) (a n : ℕ) → enters_at e y ≡ false → at (runs_as kind a n) (owners.after o e).contexts y ≡ true → (at (runs_as kind a n) o.contexts y ≡ true) × (stops_it e a ≡ false)
runs_back o (entries.Enter b x h words writes) y kind a n not is = (opened_runs kind a n b h o.enters o.contexts y (set_other (runs_as kind a n) (contexts_entered b h o.enters o.contexts) x.0 y _ not is), refl)
runs_back o (entries.Leave x eax) y kind a n not is = (set_free kind a n o.contexts x.0 y is, refl)
runs_back o (entries.Call x import words) y kind a n not is = (sym (kept (runs_as kind a n) (calling import words) o.contexts x.0 y (calling_runs kind a n import words)) ∙ is, refl)
runs_back o (entries.Reply x eax writes) y kind a n not is = (sym (kept (runs_as kind a n) answered_call o.contexts x.0 y (answered_runs kind a n)) ∙ is, refl)
runs_back o (entries.Stop b why) y kind a n not is = stopped_runs kind a n b.0 o.contexts y (all_stopped (change stopped o.adapters b.0)) is
runs_back o _ y kind a n not is = (is, refl)

left_back : (o : Owner) (x : CtxNo) (eax : ℕ) (breaks : Bool) (y : ℕ) (kind : Handler → Bool) (a n : ℕ) → at (runs_as kind a n) (owner_left o (entries.Leave x eax) breaks).contexts y ≡ true → at (runs_as kind a n) o.contexts y ≡ true
left_back o x eax true y kind a n is = is
left_back o x eax false y kind a n is = set_free kind a n o.contexts x.0 y is

pub run_back : (c : Inputs) (s : State) (e : Entry) (y : ℕ) (kind : Handler → Bool) (a n : ℕ) → enters_at e y ≡ false → at (runs_as kind a n) (after c s e).owner.contexts y ≡ true → (at (runs_as kind a n) s.owner.contexts y ≡ true) × (stops_it e a ≡ false)
run_back c s (entries.Leave x eax) y kind a n not is = (left_back s.owner x eax (is_breaking (leaves c s x eax)) y kind a n is, refl)
run_back c s (entries.Reply x eax writes) y kind a n not is = runs_back s.owner (entries.Reply x eax writes) y kind a n refl is
run_back c s e y kind a n not is = runs_back s.owner e y kind a n not is

-- ---- what a handler was entered for stays

abbrev pub subject_at : List Context → ℕ → List ℕ
subject_at cs y = (slice_index_or cs y no_context).subject

set_subject : (cs : List Context) (x y : ℕ) (z : Context) → z.subject ≡ subject_at cs x → subject_at (slice_set cs x z) y ≡ subject_at cs y
set_subject [] x y z h = refl
set_subject (k ∷ cs) zero zero z h = h
set_subject (k ∷ cs) zero (suc y) z h = refl
set_subject (k ∷ cs) (suc x) zero z h = refl
set_subject (k ∷ cs) (suc x) (suc y) z h = set_subject cs x y z h

other_subject : (cs : List Context) (x y : ℕ) (z : Context) → (x == y) ≡ false → subject_at (slice_set cs x z) y ≡ subject_at cs y
other_subject [] x y z not = refl
other_subject (k ∷ cs) zero zero z not = absurd (cc)
other_subject (k ∷ cs) zero (suc y) z not = refl
other_subject (k ∷ cs) (suc x) zero z not = refl
other_subject (k ∷ cs) (suc x) (suc y) z not = other_subject cs x y z (less x y not)
  where
    less : (k y : ℕ) → (suc k == suc y) ≡ false → (k == y) ≡ false
    less k y h = grind arith

framed_subject : (s : State) (bs : List BindingNo) (y : ℕ) → subject_at (framed s bs).contexts y ≡ subject_at s.contexts y
unfolding framed
framed_subject s [] y = refl
framed_subject s (b ∷ bs) y = framed_subject _ bs y

spoke_subject : (s : State) (bs : List ℕ) (y : ℕ) → subject_at (all_spoke s bs).contexts y ≡ subject_at s.contexts y
unfolding all_spoke
spoke_subject s [] y = refl
spoke_subject s (b ∷ bs) y = spoke_subject _ bs y

wait_subject : (s : State) (x : Option ℕ) (w : Wait) (y : ℕ) → subject_at (with_wait s x w).contexts y ≡ subject_at s.contexts y
wait_subject s None w y = refl
wait_subject s (Some x) w y = set_subject s.contexts x y _ refl

taken_subject : (s : State) (a : ℕ) (h : Handler) (words : List ℕ) (writes : List Write) (y : ℕ) → subject_at (taken s a h words writes).contexts y ≡ subject_at s.contexts y
taken_subject s a handler.Sync words writes y = wait_subject s _ _ y
taken_subject s a _ words writes y = refl

either_subject : (b : Bool) (u v : State) (y : ℕ) (ks : List ℕ) → subject_at u.contexts y ≡ ks → subject_at v.contexts y ≡ ks → subject_at (cond b u v).contexts y ≡ ks
either_subject true u v y ks one other = one
either_subject false u v y ks one other = other

left_subject : (c : Inputs) (s : State) (a : ℕ) (x : CtxNo) (eax : ℕ) (h : Handler) (y : ℕ) → subject_at (left_row c s a x eax h).contexts y ≡ subject_at s.contexts y
left_subject c s a x eax handler.Initialize y = either_subject (eax == success) _ _ y _ refl refl
left_subject c s a x eax handler.Isr y = either_subject (recognized s x) _ _ y _ refl refl
left_subject c s a x eax handler.HandleInterrupt y = either_subject (has_handler s handler.EnableInterrupt) _ _ y _ refl refl
left_subject c s a x eax handler.Sync y = wait_subject s _ _ y
left_subject c s a x eax _ y = refl

charge_subject : (s : State) (who : Option AdapterNo) (n y : ℕ) → subject_at (charge_to s who n).contexts y ≡ subject_at s.contexts y
charge_subject s None n y = refl
charge_subject s (Some a) n y = refl

replied_subject : (s : State) (x : CtxNo) (told : Told) (answer : Option Answered) (y : ℕ) → subject_at (replied s x told answer).contexts y ≡ subject_at s.contexts y
replied_subject s x told None y = refl
replied_subject s x told (Some given) y = charge_subject _ (adapter_of s x.0) given.0.cost y ∙ set_subject s.contexts x.0 y _ refl

spun_subject : (s : State) (x : CtxNo) (call : Option Calling) (y : ℕ) → subject_at (spun s x call).contexts y ≡ subject_at s.contexts y
spun_subject s x None y = refl
spun_subject s x (Some call) y = refl

pub subject_kept : (c : Inputs) (s : State) (e : Entry) (y : ℕ) → enters_at e y ≡ false → (context_at (after c s e) y).subject ≡ (context_at s y).subject
subject_kept c s (entries.Indicate a j bytes holders copied) y not = framed_subject s holders y
subject_kept c s (entries.Enter a x h words writes) y not = other_subject _ x.0 y _ not ∙ taken_subject s _ h words writes y
subject_kept c s (entries.Leave x eax) y not = either_subject (is_breaking (leaves c s x eax)) _ _ y _ refl (left_subject c s _ x eax _ y)
subject_kept c s (entries.Turn x n) y not = charge_subject _ (adapter_of s x.0) n y ∙ set_subject s.contexts x.0 y _ refl
subject_kept c s (entries.Call x import words) y not = set_subject s.contexts x.0 y _ refl
subject_kept c s (entries.Reply x eax writes) y not = replied_subject s x (record { eax = eax; writes = writes }) (answered_to s x (record { eax = eax; writes = writes })) y
subject_kept c s (entries.Spin x lock) y not = spun_subject s x _ y
subject_kept c s (entries.Stop a why) y not = spoke_subject s _ y
subject_kept c s _ y not = refl
