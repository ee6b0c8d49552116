-- While DriverEntry has not left, no context of an adapter is open, no adapter runs, and none has charges of its own.
use Rattle.std.proofs.Common.{◌≡◌, ◌⊎◌, inl, inr, ℕ, zero, suc, ◌<◌, Bool, true, false, cond, not, ◌&&◌, ◌||◌, ◌==◌, List, [], ◌∷◌, ◌++◌, map, Option, Some, None, refl, sym, ap, ◌∙◌, subst, length, slice_get, slice_set, slice_index_or, arith}
use Rattle.std.specs.Prelude.{⊤, filter, count_by, is_some, nat_lt, position, replicate}
use Rattle.std.specs.Option.{option_map, option_map_or}
use Rattle.std.specs.List.{list_all}
use Rattle.std.specs.Str.{bytes_eq}
use Rattle.std.proofs.lemmas.Bool.{eqb-true}
use Rattle.nd_base.specs.declared.numbers.AdapterNo.{AdapterNo}
use Rattle.nd_base.specs.declared.numbers.BindingNo.{BindingNo}
use Rattle.nd_base.specs.declared.numbers.CtxNo.{CtxNo}
use Rattle.nd_base.specs.declared.numbers.Phase.{Phase}
use Rattle.nd_base.specs.declared.numbers.Phase.TheVariants as phases
use Rattle.log_fields.specs.declared.write.Write.{Write}
use Rattle.log_fields.specs.declared.field_values.Handler.{Handler}
use Rattle.log_fields.specs.declared.field_values.Handler.TheVariants as handler
use Rattle.call_log.specs.declared.entry.Entry.{Entry}
use Rattle.call_log.specs.declared.entry.Entry.TheVariants as entries
use Rattle.guest_world.specs.declared.adapters.Adapter.{Adapter as Part}
use Rattle.guest_world.specs.declared.world.World.{World}
use Rattle.import_answers.specs.Statuses.{success}
use Rattle.owner_machine.specs.declared.rows.Adapter.{Adapter}
use Rattle.owner_machine.specs.declared.rows.Context.{Context as OwnerContext}
use Rattle.owner_machine.specs.declared.rows.Context.TheVariants.{Free, Open}
use Rattle.owner_machine.specs.declared.rows.Next.{Next as OwnerNext}
use Rattle.owner_machine.specs.declared.rows.Next.TheVariants as nexts
use Rattle.owner_machine.specs.declared.rows.OpenCall.{OpenCall}
use Rattle.owner_machine.specs.declared.rows.Request.{Request}
use Rattle.owner_machine.specs.State.{Owner, at, change, is_running, is_resetting, phase_is, implies, failure, request_aborted, adapter_of as driver_adapter}
use Rattle.owner_machine.specs.Packets.{packet_adapter, handed_one, behind_verdict, is_refused, out_of, held_of, queued_with_id, first_queued}
use Rattle.owner_machine.specs.Loans.{away_of, behind_back, due_of}
use Rattle.owner_machine.specs.Requests.{behind_answer, first_asked, is_turned_away, open_of, refused_with}
use Rattle.owner_machine.specs.Contexts.{any_handler, runs, is_at_work, is_entry, is_halt, in_brackets, calling, answered_call, freed, entry_freed, transfer_begun, wants_transfer, with_transfer}
use Rattle.owner_machine.specs.Handlers.{contexts_entered, adapters_entered, adapter_entered, adapters_left, entry_left, off_unless_stopped, adapters_called, adapters_answered, may_halt, is_none as is_empty}
use Rattle.owner_machine.specs.Adapters.{contexts_stopped, all_stopped, stopped as stopped_row}
use Rattle.owner_machine.specs.Must.{Due as OwnerDue, Completes, BacksFailed, Answers, Hands, BacksDue, HandsAsk, EntersReset, first_due, must_behind, owner_must, refused_ask, send_refusal}
use Rattle.owner_machine.specs.Machine.{rule_against}
use Rattle.owner_machine.specs.Machine as owners
use Rattle.legal_run.specs.State.{Inputs, State, Entrance, Unentered, Inside, Gone, Given, Wait, Calling, adapter_in, adapter_of, handler_of, has_handler, call_at, part_of, placed_in, given_adapter, is_adapter, is_context_of, is_free, is_open, is_serving, alive, adapters_of, all_contexts, start}
use Rattle.legal_run.specs.Owed.{first, frame_due, owed_row, succeeded, is_raised, sync_caller, wants_sync, was_not_entered, owes_entry, is_stopped_adapter}
use Rattle.legal_run.specs.Calls.{leaves, stays_home}
use Rattle.legal_run.specs.Replies.{Answered, Told, answered}
use Rattle.legal_run.specs.After.{after, framed, all_spoke, charge_to, with_wait, with_arrival, taken, left_row, replied, spun, is_breaking, recognized, owner_left, number_in}
use Rattle.legal_run.specs.Enters.{carries, has_subject, handed_to, may_lie, named_in, same_writes, words_of, writes_of}
use Rattle.legal_run.specs.EntryLaws.{IsEnter}
use Rattle.legal_run.specs.Run.{Run, Meets, now}
use Rattle.run_facts.specs.Facts.{IsOfRun}
use Rattle.run_facts.proofs.Runs.{case_of, of_run, run_more, true_both}
use Rattle.run_facts.proofs.Counts.{AdaptersGiven, counts}
use Rattle.run_facts.proofs.Levels.{all_numbers, has_stopped, kept, zero_plus}
use Rattle.run_facts.proofs.Parts.{Places, framed_world, ended_adapters, taken_adapters, either_adapters, left_adapters, charged_adapters, replied_adapters}
use Rattle.run_facts.proofs.Given.{AnswerHas, answer_has, spinning_has}
use Rattle.run_facts.proofs.Starts.{VerdictsStand, start_handler, starts}

-- ---- which contexts are open

-- for an adapter; for DriverEntry
abbrev pub is_adapters : OwnerContext → Bool
is_adapters (Open (Some a) h enter call) = true
is_adapters _ = false

abbrev pub is_entrys : OwnerContext → Bool
is_entrys (Open None h enter call) = true
is_entrys _ = false

-- a test of which handler is open, whatever it calls
record IsSteady (test : OwnerContext → Bool) : Type 0 where
  pub free : test Free ≡ false
  pub calls : (a : Option AdapterNo) (h : Handler) (n m : ℕ) (call other : Option OpenCall) → test (Open a h n call) ≡ test (Open a h m other)

adapters_steady : IsSteady is_adapters
adapters_steady = record { free = refl; calls = λ a h n m call other. by_adapter a h n m call other }
  where
    by_adapter : (a : Option AdapterNo) (h : Handler) (n m : ℕ) (call other : Option OpenCall) → is_adapters (Open a h n call) ≡ is_adapters (Open a h m other)
    by_adapter None h n m call other = refl
    by_adapter (Some a) h n m call other = refl

entrys_steady : IsSteady is_entrys
entrys_steady = record { free = refl; calls = λ a h n m call other. by_adapter a h n m call other }
  where
    by_adapter : (a : Option AdapterNo) (h : Handler) (n m : ℕ) (call other : Option OpenCall) → is_entrys (Open a h n call) ≡ is_entrys (Open a h m other)
    by_adapter None h n m call other = refl
    by_adapter (Some a) h n m call other = refl

calling_alike : (test : OwnerContext → Bool) → IsSteady test → (import : ℕ) (words : List ℕ) (o : OwnerContext) → test (calling import words o) ≡ test o
calling_alike test steady import words (Open a h n call) = steady.calls a h n n _ call
calling_alike test steady import words Free = refl

answered_alike : (test : OwnerContext → Bool) → IsSteady test → (o : OwnerContext) → test (answered_call o) ≡ test o
answered_alike test steady (Open a h n call) = steady.calls a h n n _ call
answered_alike test steady Free = refl

transfer_alike : (test : OwnerContext → Bool) → IsSteady test → (m : ℕ) (o : OwnerContext) → test (with_transfer m o) ≡ test o
transfer_alike test steady m (Open a h n (Some call)) = steady.calls a h n n _ (Some call)
transfer_alike test steady m (Open a h n None) = refl
transfer_alike test steady m Free = refl

begun_alike : (test : OwnerContext → Bool) → IsSteady test → (a n : ℕ) (os : List OwnerContext) (y : ℕ) → at test (transfer_begun a n os) y ≡ at test os y
begun_alike test steady a n [] y = refl
begun_alike test steady a n (o ∷ os) y = by_test (wants_transfer a o) y (λ z. begun_alike test steady a n os z)
  where
    by_test : (t : Bool) (y : ℕ) → ((z : ℕ) → at test (transfer_begun a n os) z ≡ at test os z) → at test (cond t (with_transfer n o ∷ os) (o ∷ transfer_begun a n os)) y ≡ at test (o ∷ os) y
    by_test true zero more = transfer_alike test steady n o
    by_test true (suc y) more = refl
    by_test false zero more = refl
    by_test false (suc y) more = more y

entered_alike : (test : OwnerContext → Bool) → IsSteady test → (b : Option AdapterNo) (h : Handler) (n : ℕ) (os : List OwnerContext) (y : ℕ) → at test (contexts_entered b h n os) y ≡ at test os y
entered_alike test steady (Some b) handler.TransferData n os y = begun_alike test steady b.0 n os y
entered_alike test steady None handler.TransferData n os y = refl
entered_alike test steady (Some b) _ n os y = refl
entered_alike test steady None _ n os y = refl

set_where : (test : OwnerContext → Bool) (os : List OwnerContext) (k y : ℕ) (o : OwnerContext) → at test (slice_set os k o) y ≡ true → (at test os y ≡ true) ⊎ ((k ≡ y) × (test o ≡ true))
set_where test [] k y o h = inl h
set_where test (p ∷ os) zero zero o h = inr (refl, h)
set_where test (p ∷ os) zero (suc y) o h = inl h
set_where test (p ∷ os) (suc k) zero o h = inl h
set_where test (p ∷ os) (suc k) (suc y) o h = elim (set_where test os k y o h) [ inl is ↦ inl is | inr is ↦ inr (ap suc is.0, is.1) ]

set_away : (test : OwnerContext → Bool) (os : List OwnerContext) (k : ℕ) → test Free ≡ false → at test (slice_set os k Free) k ≡ true → ⊥
set_away test [] k none h = absurd (cc)
set_away test (p ∷ os) zero none h = absurd (cc)
set_away test (p ∷ os) (suc k) none h = set_away test os k none h

freed_back : (test : OwnerContext → Bool) → test Free ≡ false → (a : ℕ) (os : List OwnerContext) (y : ℕ) → at test (freed a os) y ≡ true → at test os y ≡ true
freed_back test none a [] y h = h
freed_back test none a (o ∷ os) zero h = by_test (runs any_handler a o) h
  where
    by_test : (t : Bool) → test (cond t Free o) ≡ true → test o ≡ true
    by_test true h = absurd (cc)
    by_test false h = h
freed_back test none a (o ∷ os) (suc y) h = freed_back test none a os y h

entry_back : (test : OwnerContext → Bool) → test Free ≡ false → (os : List OwnerContext) (y : ℕ) → at test (entry_freed os) y ≡ true → at test os y ≡ true
entry_back test none [] y h = h
entry_back test none (Open None k n call ∷ os) zero h = absurd (cc)
entry_back test none (Open (Some a) k n call ∷ os) zero h = h
entry_back test none (Free ∷ os) zero h = h
entry_back test none (Open None k n call ∷ os) (suc y) h = entry_back test none os y h
entry_back test none (Open (Some a) k n call ∷ os) (suc y) h = entry_back test none os y h
entry_back test none (Free ∷ os) (suc y) h = entry_back test none os y h

stopped_back : (test : OwnerContext → Bool) → test Free ≡ false → (a : ℕ) (last : Bool) (os : List OwnerContext) (y : ℕ) → at test (contexts_stopped os a last) y ≡ true → at test os y ≡ true
stopped_back test none a true os y h = freed_back test none a os y (entry_back test none (freed a os) y h)
stopped_back test none a false os y h = freed_back test none a os y h

-- what an enter opens
abbrev Opens : (OwnerContext → Bool) → ℕ → Entry → Type 0
Opens test y (entries.Enter a x h words writes) = (x.0 ≡ y) × (test (Open a h 0 None) ≡ true)
Opens test y _ = ⊥

owner_back : (test : OwnerContext → Bool) → IsSteady test → (o : Owner) (e : Entry) (y : ℕ) → at test (owners.after o e).contexts y ≡ true → (at test o.contexts y ≡ true) ⊎ Opens test y e
owner_back test steady o (entries.Enter a x h words writes) y is =
    elim (set_where test (contexts_entered a h o.enters o.contexts) x.0 y (Open a h o.enters None) is) [
      | inl was ↦ inl (sym (entered_alike test steady a h o.enters o.contexts y) ∙ was)
      | inr new ↦ inr (new.0, steady.calls a h 0 o.enters None None ∙ new.1)
    ]
owner_back test steady o (entries.Leave x eax) y is =
    elim (set_where test o.contexts x.0 y Free is) [ inl was ↦ inl was | inr new ↦ absurd (none _ steady.free new.1) ]
  where
    none : (b : Bool) → b ≡ false → b ≡ true → ⊥
    none b one other = absurd (cc)
owner_back test steady o (entries.Call x import words) y is = inl (sym (kept test (calling import words) o.contexts x.0 y (calling_alike test steady import words)) ∙ is)
owner_back test steady o (entries.Reply x eax writes) y is = inl (sym (kept test answered_call o.contexts x.0 y (answered_alike test steady)) ∙ is)
owner_back test steady o (entries.Stop b why) y is = inl (stopped_back test steady.free b.0 (all_stopped (change stopped_row o.adapters b.0)) o.contexts y is)
owner_back test steady o _ y is = inl is

left_back : (test : OwnerContext → Bool) → IsSteady test → (o : Owner) (x : CtxNo) (eax : ℕ) (breaks : Bool) (y : ℕ) → at test (owner_left o (entries.Leave x eax) breaks).contexts y ≡ true
    → (at test o.contexts y ≡ true) ⊎ ⊥
left_back test steady o x eax true y is = inl is
left_back test steady o x eax false y is = owner_back test steady o (entries.Leave x eax) y is

run_back : (test : OwnerContext → Bool) → IsSteady test → (c : Inputs) (s : State) (e : Entry) (y : ℕ) → at test (after c s e).owner.contexts y ≡ true → (at test s.owner.contexts y ≡ true) ⊎ Opens test y e
run_back test steady c s (entries.Leave x eax) y is = left_back test steady s.owner x eax (is_breaking (leaves c s x eax)) y is
run_back test steady c s (entries.Reply x eax writes) y is = owner_back test steady s.owner (entries.Reply x eax writes) y is
run_back test steady c s e y is = owner_back test steady s.owner e y is

-- ---- phases

abbrev pub serves_row : Adapter → Bool
serves_row row = is_serving row.phase

row_back : (f : Adapter → Adapter) (rows : List Adapter) (b a : ℕ) → ((row : Adapter) → serves_row (f row) ≡ true → serves_row row ≡ true) → at serves_row (change f rows b) a ≡ true → at serves_row rows a ≡ true
row_back f [] b a w h = h
row_back f (row ∷ rows) zero zero w h = w row h
row_back f (row ∷ rows) zero (suc a) w h = h
row_back f (row ∷ rows) (suc b) zero w h = h
row_back f (row ∷ rows) (suc b) (suc a) w h = row_back f rows b a w h

row_where : (f : Adapter → Adapter) (rows : List Adapter) (b a : ℕ) → at serves_row rows b ≡ true → at serves_row (change f rows b) a ≡ true → at serves_row rows a ≡ true
row_where f [] b a is h = h
row_where f (row ∷ rows) zero zero is h = is
row_where f (row ∷ rows) zero (suc a) is h = h
row_where f (row ∷ rows) (suc b) zero is h = h
row_where f (row ∷ rows) (suc b) (suc a) is h = row_where f rows b a is h

at_implies : {A : Type 0} (p q : A → Bool) (rows : List A) (a : ℕ) → ((row : A) → p row ≡ true → q row ≡ true) → at p rows a ≡ true → at q rows a ≡ true
at_implies p q [] a w h = absurd (cc)
at_implies p q (row ∷ rows) zero w h = w row h
at_implies p q (row ∷ rows) (suc a) w h = at_implies p q rows a w h

running_serves : (p : Phase) → is_running p ≡ true → is_serving p ≡ true
running_serves phases.Running h = refl
running_serves _ h = absurd (cc)

resetting_serves : (p : Phase) → is_resetting p ≡ true → is_serving p ≡ true
resetting_serves phases.Resetting h = refl
resetting_serves _ h = absurd (cc)

owes_serves : (row : Adapter) → (is_running row.phase && row.owes_reset) ≡ true → is_serving row.phase ≡ true
owes_serves row h = running_serves row.phase (true_both (is_running row.phase) row.owes_reset h).0

entered_phase : (h : Handler) (row : Adapter) → serves_row (adapter_entered h row) ≡ true → serves_row row ≡ true
entered_phase handler.Halt row is = absurd (cc)
entered_phase handler.Shutdown row is = absurd (cc)
entered_phase handler.CancelSend row is = is
entered_phase handler.PnpEvent row is = is
entered_phase _ row is = is

enter_phases : (rows : List Adapter) (b : Option AdapterNo) (h : Handler) (a : ℕ) → at serves_row (adapters_entered rows b h) a ≡ true → at serves_row rows a ≡ true
enter_phases rows (Some b) h a is = row_back (adapter_entered h) rows b.0 a (entered_phase h) is
enter_phases rows None h a is = is

entry_phases : (eax : ℕ) (rows : List Adapter) (a : ℕ) → at serves_row (entry_left eax rows) a ≡ true → at serves_row rows a ≡ true
entry_phases zero rows a h = h
entry_phases (suc eax) [] a h = h
entry_phases (suc eax) (row ∷ rows) zero h = absurd (none row.phase h)
  where
    none : (p : Phase) → is_serving (off_unless_stopped p) ≡ true → ⊥
    none phases.Stopped h = absurd (cc)
    none _ h = absurd (cc)
entry_phases (suc eax) (row ∷ rows) (suc a) h = entry_phases (suc eax) rows a h

abbrev NotAdapters : Option OwnerContext → Type 0
NotAdapters m = option_map_or is_adapters m false ≡ true → ⊥

leave_phases : (rows : List Adapter) (x : Option OwnerContext) (eax a : ℕ) → NotAdapters x → at serves_row (adapters_left rows x eax) a ≡ true → at serves_row rows a ≡ true
leave_phases rows (Some (Open (Some b) h n call)) eax a not is = absurd (not refl)
leave_phases rows (Some (Open None h n call)) eax a not is = entry_phases eax rows a is
leave_phases rows (Some Free) eax a not is = is
leave_phases rows None eax a not is = is

call_phases : (rows : List Adapter) (x : Option OwnerContext) (import a : ℕ) → at serves_row (adapters_called rows x import) a ≡ true → at serves_row rows a ≡ true
call_phases rows (Some (Open (Some b) h n call)) import a is = row_back _ rows b.0 a (λ row s. s) is
call_phases rows (Some (Open None h n call)) import a is = is
call_phases rows (Some Free) import a is = is
call_phases rows None import a is = is

reply_phases : (rows : List Adapter) (x : Option OwnerContext) (a : ℕ) → at serves_row (adapters_answered rows x) a ≡ true → at serves_row rows a ≡ true
reply_phases rows (Some (Open (Some b) h n (Some call))) a is = row_back _ rows b.0 a (λ row s. s) is
reply_phases rows (Some (Open (Some b) h n None)) a is = is
reply_phases rows (Some (Open None h n (Some call))) a is = is
reply_phases rows (Some (Open None h n None)) a is = is
reply_phases rows (Some Free) a is = is
reply_phases rows None a is = is

owner_phases : (o : Owner) (e : Entry) (a : ℕ) → rule_against o e ≡ None → ((x : ℕ) → at is_adapters o.contexts x ≡ true → ⊥) → at serves_row (owners.after o e).adapters a ≡ true → at serves_row o.adapters a ≡ true
owner_phases o (entries.Cancel driver id) a none not is = row_back _ o.adapters (driver_adapter o driver.0) a (λ row s. s) is
owner_phases o (entries.Event driver number bytes taken) a none not is = row_back _ o.adapters (driver_adapter o driver.0) a (λ row s. s) is
owner_phases o (entries.Requeue packet) a none not is = row_back _ o.adapters (packet_adapter o packet.0) a (λ row s. s) is
owner_phases o (entries.ResetBegin b) a none not is =
    row_where _ o.adapters b.0 a (at_implies (λ (row : Adapter). is_running row.phase && row.owes_reset) serves_row o.adapters b.0 owes_serves (true_both _ _ (case_of o (entries.ResetBegin b) none)).0) is
owner_phases o (entries.ResetEnd b status) a none not is =
    row_where _ o.adapters b.0 a (at_implies (λ (row : Adapter). is_resetting row.phase) serves_row o.adapters b.0 (λ row h. resetting_serves row.phase h) (true_both _ _ (case_of o (entries.ResetEnd b status) none)).0) is
owner_phases o (entries.Enter b x h words writes) a none not is = enter_phases o.adapters b h a is
owner_phases o (entries.Leave x eax) a none not is = leave_phases o.adapters (slice_get o.contexts x.0) eax a (not x.0) is
owner_phases o (entries.Call x import words) a none not is = call_phases o.adapters (slice_get o.contexts x.0) import a is
owner_phases o (entries.Reply x eax writes) a none not is = reply_phases o.adapters (slice_get o.contexts x.0) a is
owner_phases o (entries.Stop b why) a none not is = row_back stopped_row o.adapters b.0 a (λ row h. absurd (cc)) is
owner_phases o _ a none not is = is

left_phases : (o : Owner) (x : CtxNo) (eax : ℕ) (breaks : Bool) (a : ℕ) → rule_against o (entries.Leave x eax) ≡ None → ((x : ℕ) → at is_adapters o.contexts x ≡ true → ⊥)
    → at serves_row (owner_left o (entries.Leave x eax) breaks).adapters a ≡ true → at serves_row o.adapters a ≡ true
left_phases o x eax true a none not is = is
left_phases o x eax false a none not is = owner_phases o (entries.Leave x eax) a none not is

run_phases : (c : Inputs) (s : State) (e : Entry) (a : ℕ) → Meets c s e → ((x : ℕ) → at is_adapters s.owner.contexts x ≡ true → ⊥) → at serves_row (after c s e).owner.adapters a ≡ true → at serves_row s.owner.adapters a ≡ true
run_phases c s (entries.Leave x eax) a meets not is = left_phases s.owner x eax (is_breaking (leaves c s x eax)) a meets.owner not is
run_phases c s (entries.Reply x eax writes) a meets not is = owner_phases s.owner (entries.Reply x eax writes) a meets.owner not is
run_phases c s e a meets not is = owner_phases s.owner e a meets.owner not is

-- ---- resets

abbrev pub no_reset : OwnerNext → Bool
no_reset (nexts.Resetting a) = false
no_reset _ = true

abbrev NoReset : Option OwnerDue → Type 0
NoReset (Some (EntersReset a)) = ⊥
NoReset _ = ⊤

map_no_reset : (f : ℕ → OwnerDue) → ((k : ℕ) → NoReset (Some (f k))) → (m : Option ℕ) → NoReset (option_map f m)
map_no_reset f h None = tt
map_no_reset f h (Some k) = h k

cond_no_reset : (b : Bool) (d f : Option OwnerDue) → NoReset d → NoReset f → NoReset (cond b d f)
cond_no_reset true d f one other = one
cond_no_reset false d f one other = other

first_no_reset : (d f : Option OwnerDue) → NoReset d → NoReset f → NoReset (first_due d f)
first_no_reset None f one other = other
first_no_reset (Some due) f one other = one

ask_no_reset : (o : Owner) (r : ℕ) → NoReset (refused_ask o r)
ask_no_reset o r = by_row (slice_get o.requests r)
  where
    by_row : (m : Option Request) → NoReset (option_map_or (λ q. cond (is_turned_away q.place) (option_map (λ status. Answers r status) (refused_with o q.adapter.0 q.question)) None) m None)
    by_row None = tt
    by_row (Some q) = cond_no_reset (is_turned_away q.place) _ None (map_no_reset (λ status. Answers r status) (λ k. tt) (refused_with o q.adapter.0 q.question)) tt

must_no_reset : (o : Owner) (n : OwnerNext) → no_reset n ≡ true → NoReset (must_behind o n)
must_no_reset o (nexts.Sent packet) is = cond_no_reset (at (λ p. is_refused p.place) o.packets packet.0) (Some (Completes true packet.0 (send_refusal o (packet_adapter o packet.0)))) None tt tt
must_no_reset o (nexts.Tagged packet) is = cond_no_reset (at (λ p. is_refused p.place) o.packets packet.0) (Some (Completes false packet.0 (send_refusal o (packet_adapter o packet.0)))) None tt tt
must_no_reset o (nexts.Asked request) is = ask_no_reset o request.0
must_no_reset o (nexts.Tail a) is =
    first_no_reset _ _ (map_no_reset (λ k. Completes false k failure) (λ k. tt) (position (out_of a.0) o.packets))
    (first_no_reset _ _ (map_no_reset (λ j. BacksFailed j) (λ k. tt) (position (away_of a.0) o.loans)) (map_no_reset (λ r. Answers r failure) (λ k. tt) (position (open_of a.0) o.requests)))
must_no_reset o (nexts.Aborting a) is = map_no_reset (λ k. Completes false k request_aborted) (λ k. tt) (position (held_of a.0) o.packets)
must_no_reset o (nexts.Cancelling driver id) is = map_no_reset (λ k. Completes false k request_aborted) (λ k. tt) (position (queued_with_id driver.0 id) o.packets)
must_no_reset o (nexts.Handing a enter left) is = cond_no_reset (nat_lt 0 left) _ None (map_no_reset (λ k. Hands k) (λ k. tt) (first_queued o a.0)) tt
must_no_reset o (nexts.GoingHome a) is = cond_no_reset (count_by (due_of a.0) o.loans == 0) None (Some (BacksDue a.0)) tt tt
must_no_reset o (nexts.HandingAsk a enter) is = map_no_reset (λ r. HandsAsk r) (λ k. tt) (first_asked o a.0)
must_no_reset o (nexts.Resetting a) is = absurd (cc)
must_no_reset o _ is = tt

handed_no_reset : (n : OwnerNext) → no_reset (handed_one n) ≡ true
handed_no_reset (nexts.Handing a enter left) = refl
handed_no_reset _ = refl

verdict_no_reset : (n : OwnerNext) (k : ℕ) → no_reset n ≡ true → no_reset (behind_verdict n k) ≡ true
verdict_no_reset (nexts.Left a h enter j) k is = refl
verdict_no_reset _ k is = is

either_no_reset : (b : Bool) (n : OwnerNext) → no_reset n ≡ true → no_reset (cond b n nexts.Free) ≡ true
either_no_reset true n is = is
either_no_reset false n is = refl

back_no_reset : (n : OwnerNext) → no_reset (behind_back n) ≡ true
back_no_reset (nexts.Tail a) = refl
back_no_reset _ = refl

answer_no_reset : (n : OwnerNext) → no_reset (behind_answer n) ≡ true
answer_no_reset (nexts.Tail a) = refl
answer_no_reset _ = refl

leave_no_reset : (x : Option OwnerContext) → no_reset (Rattle.owner_machine.specs.Handlers.behind_leave x) ≡ true
leave_no_reset (Some (Open (Some b) h n call)) = refl
leave_no_reset (Some (Open None h n call)) = refl
leave_no_reset (Some Free) = refl
leave_no_reset None = refl

abbrev is_quiet : Entry → Bool
is_quiet (entries.ResetBegin _) = false
is_quiet (entries.Enter (Some _) _ _ _ _) = false
is_quiet _ = true

owner_no_reset : (o : Owner) (e : Entry) → is_quiet e ≡ true → no_reset o.next ≡ true → no_reset (owners.after o e).next ≡ true
owner_no_reset o (entries.Hand packet) quiet is = handed_no_reset o.next
owner_no_reset o (entries.Requeue packet) quiet is = verdict_no_reset o.next packet.0 is
owner_no_reset o (entries.Complete packet status) quiet is = either_no_reset _ _ (verdict_no_reset o.next packet.0 is)
owner_no_reset o (entries.Back loan failed) quiet is = back_no_reset o.next
owner_no_reset o (entries.Answer request status bytes) quiet is = answer_no_reset o.next
owner_no_reset o (entries.ResetBegin a) quiet is = absurd (cc)
owner_no_reset o (entries.Enter (Some a) x h words writes) quiet is = absurd (cc)
owner_no_reset o (entries.Enter None x h words writes) quiet is = refl
owner_no_reset o (entries.Leave x eax) quiet is = leave_no_reset (slice_get o.contexts x.0)
owner_no_reset o _ quiet is = refl

left_no_reset : (o : Owner) (x : CtxNo) (eax : ℕ) (breaks : Bool) → no_reset (owner_left o (entries.Leave x eax) breaks).next ≡ true
left_no_reset o x eax true = refl
left_no_reset o x eax false = leave_no_reset (slice_get o.contexts x.0)

run_no_reset : (c : Inputs) (s : State) (e : Entry) → is_quiet e ≡ true → no_reset s.owner.next ≡ true → no_reset (after c s e).owner.next ≡ true
run_no_reset c s (entries.Leave x eax) quiet is = left_no_reset s.owner x eax (is_breaking (leaves c s x eax))
run_no_reset c s (entries.Reply x eax writes) quiet is = refl
run_no_reset c s e quiet is = owner_no_reset s.owner e quiet is

-- ---- cards

abbrev pub is_wired : Option Part → Bool
is_wired None = false
is_wired (Some part) = is_some part.interrupt

raised_wired : (p : Option Part) → is_raised p ≡ true → is_wired p ≡ true
raised_wired None h = absurd (cc)
raised_wired (Some part) h = (true_both (is_some part.interrupt) _ (true_both _ _ h).1).0

arrived_wired : (frame : List ℕ) (l : Places) (a : ℕ) → is_wired (slice_index_or (map (with_arrival frame) l) a None) ≡ is_wired (slice_index_or l a None)
arrived_wired frame [] a = refl
arrived_wired frame (None ∷ l) zero = refl
arrived_wired frame (Some p ∷ l) zero = refl
arrived_wired frame (p ∷ l) (suc a) = arrived_wired frame l a

abbrev AsBefore : State → World → Type 0
AsBefore s w = w.adapters ≡ s.world.adapters

replied_parts : (s : State) (x : CtxNo) (told : Told) (answer : Option Answered) → AnswerHas (AsBefore s) answer → (replied s x told answer).world.adapters ≡ s.world.adapters
replied_parts s x told None h = refl
replied_parts s x told (Some given) h = replied_adapters s x told given ∙ h

spun_parts : (s : State) (x : CtxNo) (call : Option Calling) → adapter_of s x.0 ≡ None → (spun s x call).world.adapters ≡ s.world.adapters
spun_parts s x None none = refl
spun_parts s x (Some call) none = spinning_has (AsBefore s) s x call (λ v keeps. keeps.parts none) refl

abbrev is_arrival : Entry → Bool
is_arrival (entries.WireIn _) = true
is_arrival _ = false

parts_same : (c : Inputs) (s : State) (e : Entry) → ((x : ℕ) → adapter_of s x ≡ None) → is_arrival e ≡ false → (after c s e).world.adapters ≡ s.world.adapters
parts_same c s (entries.Indicate a j bytes holders copied) none other =
    by_test (stays_home s a.0 (map (λ b. b.0) holders) copied) (framed s holders).world _ refl (ap (λ w. w.adapters) (framed_world s holders))
  where
    by_test : (b : Bool) (w v : World) → v.adapters ≡ w.adapters → w.adapters ≡ s.world.adapters → (cond b w v).adapters ≡ s.world.adapters
    by_test true w v is one = one
    by_test false w v is one = is ∙ one
parts_same c s (entries.Enter a x h words writes) none other = taken_adapters s _ h words writes
parts_same c s (entries.Leave x eax) none other = either_adapters (is_breaking (leaves c s x eax)) _ _ s.world.adapters refl (left_adapters c s _ x eax _)
parts_same c s (entries.Turn x n) none other = charged_adapters _ (adapter_of s x.0) n
parts_same c s (entries.Reply x eax writes) none other =
    let told : Told = record { eax = eax; writes = writes } in
    replied_parts s x told (answered s x told) (answer_has (AsBefore s) s x told (λ v keeps. keeps.parts (none x.0)) refl)
parts_same c s (entries.Spin x lock) none other = spun_parts s x (call_at s x.0) (none x.0)
parts_same c s (entries.WireIn frame) none other = absurd (cc)
parts_same c s (entries.Stop a why) none other = ended_adapters _ _
parts_same c s _ none other = refl

run_wired : (c : Inputs) (s : State) (e : Entry) (a : ℕ) → ((x : ℕ) → adapter_of s x ≡ None) → is_wired (part_of (after c s e) a) ≡ is_wired (part_of s a)
run_wired c s (entries.WireIn frame) a none = by_frame (slice_get c.frames s.come)
  where
    by_frame : (f : Option Rattle.frame_wire.specs.declared.arrival.Arrival.Arrival)
        → is_wired (slice_index_or (option_map_or (λ f. map (with_arrival f.bytes) s.world.adapters) f s.world.adapters) a None) ≡ is_wired (part_of s a)
    by_frame None = refl
    by_frame (Some f) = arrived_wired f.bytes s.world.adapters a
run_wired c s e a none = ap (λ (l : Places). is_wired (slice_index_or l a None)) (parts_same c s e none refl)

-- ---- charges, and where DriverEntry is

record Alike (t s : State) : Type 0 where
  pub charges : t.charges ≡ s.charges
  pub entrance : t.entrance ≡ s.entrance

itself : (s : State) → Alike s s
itself s = record { charges = refl; entrance = refl }

framed_charges : (s : State) (bs : List BindingNo) → (framed s bs).charges ≡ s.charges
unfolding framed
framed_charges s [] = refl
framed_charges s (b ∷ bs) = framed_charges _ bs

framed_entrance : (s : State) (bs : List BindingNo) → (framed s bs).entrance ≡ s.entrance
unfolding framed
framed_entrance s [] = refl
framed_entrance s (b ∷ bs) = framed_entrance _ bs

spoke_charges : (s : State) (bs : List ℕ) → (all_spoke s bs).charges ≡ s.charges
unfolding all_spoke
spoke_charges s [] = refl
spoke_charges s (b ∷ bs) = spoke_charges _ bs

spoke_entrance : (s : State) (bs : List ℕ) → (all_spoke s bs).entrance ≡ s.entrance
unfolding all_spoke
spoke_entrance s [] = refl
spoke_entrance s (b ∷ bs) = spoke_entrance _ bs

wait_alike : (s : State) (x : Option ℕ) (w : Wait) → Alike (with_wait s x w) s
wait_alike s None w = itself s
wait_alike s (Some x) w = record { charges = refl; entrance = refl }

taken_alike : (s : State) (a : ℕ) (h : Handler) (words : List ℕ) (writes : List Write) → is_entry h ≡ false → Alike (taken s a h words writes) s
taken_alike s a handler.DriverEntry words writes other = absurd (cc)
taken_alike s a handler.Sync words writes other = wait_alike s _ _
taken_alike s a _ words writes other = record { charges = refl; entrance = refl }

taken_charges : (s : State) (a : ℕ) (h : Handler) (words : List ℕ) (writes : List Write) → (taken s a h words writes).charges ≡ s.charges
taken_charges s a handler.Sync words writes = (wait_alike s _ _).charges
taken_charges s a _ words writes = refl

either_alike : (b : Bool) (t u s : State) → Alike t s → Alike u s → Alike (cond b t u) s
either_alike true t u s one other = one
either_alike false t u s one other = other

left_alike : (c : Inputs) (s : State) (a : ℕ) (x : CtxNo) (eax : ℕ) (h : Handler) → is_entry h ≡ false → Alike (left_row c s a x eax h) s
left_alike c s a x eax handler.DriverEntry other = absurd (cc)
left_alike c s a x eax handler.Initialize other = either_alike (eax == success) _ _ s (record { charges = refl; entrance = refl }) (record { charges = refl; entrance = refl })
left_alike c s a x eax handler.Isr other = either_alike (recognized s x) _ _ s (record { charges = refl; entrance = refl }) (itself s)
left_alike c s a x eax handler.HandleInterrupt other = either_alike (has_handler s handler.EnableInterrupt) _ _ s (record { charges = refl; entrance = refl }) (itself s)
left_alike c s a x eax handler.Sync other = wait_alike s _ _
left_alike c s a x eax _ other = record { charges = refl; entrance = refl }

left_charges : (c : Inputs) (s : State) (a : ℕ) (x : CtxNo) (eax : ℕ) (h : Handler) → (left_row c s a x eax h).charges ≡ s.charges
left_charges c s a x eax handler.Initialize = (left_alike c s a x eax handler.Initialize refl).charges
left_charges c s a x eax handler.Isr = (left_alike c s a x eax handler.Isr refl).charges
left_charges c s a x eax handler.HandleInterrupt = (left_alike c s a x eax handler.HandleInterrupt refl).charges
left_charges c s a x eax handler.Sync = (left_alike c s a x eax handler.Sync refl).charges
left_charges c s a x eax _ = refl

either_charges : (b : Bool) (t u s : State) → t.charges ≡ s.charges → u.charges ≡ s.charges → (cond b t u).charges ≡ s.charges
either_charges true t u s one other = one
either_charges false t u s one other = other

charged_entrance : (s : State) (who : Option AdapterNo) (n : ℕ) → (charge_to s who n).entrance ≡ s.entrance
charged_entrance s None n = refl
charged_entrance s (Some a) n = refl

charged_none : (s : State) (who : Option AdapterNo) (n : ℕ) → who ≡ None → (charge_to s who n).charges ≡ s.charges
charged_none s None n none = refl
charged_none s (Some a) n none = absurd (cc)

replied_entrance : (s : State) (x : CtxNo) (told : Told) (answer : Option Answered) → (replied s x told answer).entrance ≡ s.entrance
replied_entrance s x told None = refl
replied_entrance s x told (Some given) = charged_entrance _ (adapter_of s x.0) given.0.cost

replied_charges : (s : State) (x : CtxNo) (told : Told) (answer : Option Answered) → adapter_of s x.0 ≡ None → (replied s x told answer).charges ≡ s.charges
replied_charges s x told None none = refl
replied_charges s x told (Some given) none = charged_none _ (adapter_of s x.0) given.0.cost none

spun_alike : (s : State) (x : CtxNo) (call : Option Calling) → Alike (spun s x call) s
spun_alike s x None = itself s
spun_alike s x (Some call) = record { charges = refl; entrance = refl }

run_charges : (c : Inputs) (s : State) (e : Entry) → ((x : ℕ) → adapter_of s x ≡ None) → (after c s e).charges ≡ s.charges
run_charges c s (entries.Indicate a j bytes holders copied) none = framed_charges s holders
run_charges c s (entries.Enter a x h words writes) none = taken_charges s _ h words writes
run_charges c s (entries.Leave x eax) none =
    either_charges (is_breaking (leaves c s x eax)) s _ s refl (left_charges c s (number_in c (adapter_of s x.0)) x eax (handler_of s x.0))
run_charges c s (entries.Turn x n) none = charged_none _ (adapter_of s x.0) n (none x.0)
run_charges c s (entries.Reply x eax writes) none = let told : Told = record { eax = eax; writes = writes } in replied_charges s x told (answered s x told) (none x.0)
run_charges c s (entries.Spin x lock) none = (spun_alike s x (call_at s x.0)).charges
run_charges c s (entries.Stop a why) none = spoke_charges s _
run_charges c s _ none = refl

-- entries that neither enter nor leave
abbrev stays_in : Entry → Bool
stays_in (entries.Enter _ _ _ _ _) = false
stays_in (entries.Leave _ _) = false
stays_in _ = true

run_entrance : (c : Inputs) (s : State) (e : Entry) → stays_in e ≡ true → (after c s e).entrance ≡ s.entrance
run_entrance c s (entries.Indicate a j bytes holders copied) is = framed_entrance s holders
run_entrance c s (entries.Enter a x h words writes) is = absurd (cc)
run_entrance c s (entries.Leave x eax) is = absurd (cc)
run_entrance c s (entries.Turn x n) is = charged_entrance _ (adapter_of s x.0) n
run_entrance c s (entries.Reply x eax writes) is = let told : Told = record { eax = eax; writes = writes } in replied_entrance s x told (answered s x told)
run_entrance c s (entries.Spin x lock) is = (spun_alike s x (call_at s x.0)).entrance
run_entrance c s (entries.Stop a why) is = spoke_entrance s _
run_entrance c s _ is = refl

-- ---- early states

abbrev pub is_before : Entrance → Bool
is_before (Gone eax) = false
is_before _ = true

abbrev pub is_inside : Entrance → Bool
is_inside Inside = true
is_inside _ = false

pub record IsEarly (s : State) : Type 0 where
  pub none : (x : ℕ) → at is_adapters s.owner.contexts x ≡ true → ⊥
  pub idle : (a : ℕ) → at serves_row s.owner.adapters a ≡ true → ⊥
  pub unwired : (a : ℕ) → is_wired (part_of s a) ≡ false
  pub own : (a : ℕ) → slice_index_or s.charges a 0 ≡ 0
  pub calm : no_reset s.owner.next ≡ true

pub record Begins (s : State) : Type 0 where
  pub early : is_before s.entrance ≡ true → IsEarly s
  -- DriverEntry has context 0, and has not left while that is open
  pub ones : (x : ℕ) → at is_entrys s.owner.contexts x ≡ true → (x ≡ 0) × (is_inside s.entrance ≡ true)

pub inside_before : (e : Entrance) → is_inside e ≡ true → is_before e ≡ true
inside_before Inside h = refl
inside_before _ h = absurd (cc)

no_adapter : (s : State) → IsEarly s → (x : ℕ) → adapter_of s x ≡ None
no_adapter s early x = by_row (slice_get s.owner.contexts x) (early.none x)
  where
    by_row : (m : Option OwnerContext) → (option_map_or is_adapters m false ≡ true → ⊥) → adapter_in m ≡ None
    by_row (Some (Open (Some b) h n call)) not = absurd (not refl)
    by_row (Some (Open None h n call)) not = refl
    by_row (Some Free) not = refl
    by_row None not = refl

-- ---- nothing is owed to an adapter there

none_filtered : (p : ℕ → Bool) → ((x : ℕ) → p x ≡ true → ⊥) → (xs : List ℕ) → is_some (first (filter p xs)) ≡ true → ⊥
none_filtered p none [] h = absurd (cc)
none_filtered p none (x ∷ xs) h = by_test (p x) refl h (λ more. none_filtered p none xs more)
  where
    by_test : (t : Bool) → p x ≡ t → is_some (first (cond t (x ∷ filter p xs) (filter p xs))) ≡ true → (is_some (first (filter p xs)) ≡ true → ⊥) → ⊥
    by_test true is h rest = none x is
    by_test false is h rest = rest h

no_sync : (s : State) (a : ℕ) → ((x : ℕ) → adapter_of s x ≡ None) → is_some (sync_caller s a) ≡ true → ⊥
no_sync s a none h =
    none_filtered (λ x. is_context_of s a x && wants_sync (call_at s x))
    (λ x is. of_none (adapter_of s x) (none x) (true_both (is_open s x) (is_adapter a (adapter_of s x)) (true_both (is_context_of s a x) (wants_sync (call_at s x)) is).0).1) all_contexts h
  where
    of_none : (m : Option AdapterNo) → m ≡ None → is_adapter a m ≡ true → ⊥
    of_none None none h = absurd (cc)
    of_none (Some b) none h = absurd (cc)

not_succeeded : (e : Entrance) → is_before e ≡ true → succeeded e ≡ true → ⊥
not_succeeded (Gone eax) before h = absurd (cc)
not_succeeded Inside before h = absurd (cc)
not_succeeded Unentered before h = absurd (cc)

not_both : (b : Bool) → b ≡ false → b ≡ true → ⊥
not_both b one other = absurd (cc)

not_owed : (c : Inputs) (s : State) (a : ℕ) (h : Handler) → is_before s.entrance ≡ true → IsEarly s → owed_row c s a h ≡ true → implies (is_halt h) (may_halt s.owner a) ≡ true → ⊥
not_owed c s a h before early owed may = by_handler h owed may
  where
    of_serving : (b : Bool) → (phase_is is_serving s.owner a && b) ≡ true → ⊥
    of_serving b is = early.idle a (true_both (phase_is is_serving s.owner a) b is).0

    of_running : (b : Bool) → (phase_is is_running s.owner a && b) ≡ true → ⊥
    of_running b is = early.idle a (at_implies (λ (row : Adapter). is_running row.phase) serves_row s.owner.adapters a (λ row r. running_serves row.phase r) (true_both (phase_is is_running s.owner a) b is).0)

    of_raised : (b d : Bool) → ((is_raised (part_of s a) && b) && d) ≡ true → ⊥
    of_raised b d is = not_both _ (early.unwired a) (raised_wired (part_of s a) (true_both _ b (true_both (is_raised (part_of s a) && b) d is).0).0)

    by_handler : (h : Handler) → owed_row c s a h ≡ true → implies (is_halt h) (may_halt s.owner a) ≡ true → ⊥
    by_handler handler.Initialize is may = not_succeeded s.entrance before (true_both (succeeded s.entrance) _ is).0
    by_handler handler.Isr is may = of_raised _ _ is
    by_handler handler.DisableInterrupt is may = of_raised _ _ is
    by_handler handler.Sync is may = no_sync s a (no_adapter s early) is
    by_handler handler.EnableInterrupt is may = of_serving _ is
    by_handler handler.HandleInterrupt is may = of_serving _ is
    by_handler handler.Timer is may = of_serving _ is
    by_handler handler.ReturnPacket is may = of_serving _ is
    by_handler handler.Reset is may = of_running _ is
    by_handler handler.CancelSend is may = of_running _ is
    by_handler handler.Query is may = of_running _ is
    by_handler handler.Set is may = of_running _ is
    by_handler handler.Send is may = of_running _ is
    by_handler handler.SendPackets is may = of_running _ is
    by_handler handler.CheckForHang is may = of_running _ is
    by_handler handler.PnpEvent is may = of_running _ is
    by_handler handler.Shutdown is may = of_running _ may
    by_handler handler.Halt is may = of_running _ may
    by_handler handler.DriverEntry is may = absurd (cc)
    by_handler handler.TransferData is may = absurd (cc)

-- an adapter's handler is entered where it is owed (a law of crates/legal_run)
abbrev pub EntersOwed : Type 0
EntersOwed =
    (c : Inputs) (log : List Entry) (a : AdapterNo) (x : CtxNo) (h : Handler) (words : List ℕ) (writes : List Write) → Run c (log ++ entries.Enter (Some a) x h words writes ∷ [])
    → IsEnter c (now c log) a.0 x.0 h words writes

no_enter : EntersOwed → (c : Inputs) (s : State) (a : AdapterNo) (x : CtxNo) (h : Handler) (words : List ℕ) (writes : List Write) → IsOfRun c s → is_before s.entrance ≡ true → IsEarly s
    → Meets c s (entries.Enter (Some a) x h words writes) → ⊥
no_enter owed c s a x h words writes is before early meets =
    let enter = subst (λ (t : State). IsEnter c t a.0 x.0 h words writes) is.reaches.state (owed c is.log a x h words writes (run_more c s (entries.Enter (Some a) x h words writes) is meets)) in
    elim enter.owed [
      | inl owes ↦ let parts = (true_both (owed_row c s a.0 h) _ (true_both (alive s a.0) _ owes).1) in not_owed c s a.0 h before early parts.0 (true_both (in_brackets s.owner a.0 h) _ parts.1).1
      | inr resets ↦ by_due (owner_must s.owner) resets.0 (must_no_reset s.owner s.owner.next early.calm)
    ]
  where
    by_due : (d : Option OwnerDue) → d ≡ Some (EntersReset a.0) → NoReset d → ⊥
    by_due (Some (EntersReset b)) is none = none
    by_due (Some _) is none = absurd (cc)
    by_due None is none = absurd (cc)

-- ---- one entry

not_two : (e : Entrance) → is_inside e ≡ true → was_not_entered e ≡ true → ⊥
not_two Inside one other = absurd (cc)
not_two Unentered one other = absurd (cc)
not_two (Gone eax) one other = absurd (cc)

unentered_before : (e : Entrance) → was_not_entered e ≡ true → is_before e ≡ true
unentered_before Unentered h = refl
unentered_before Inside h = refl
unentered_before (Gone eax) h = absurd (cc)

fifth : (a b d e f g : Bool) → (a && (b && (d && (e && (f && g))))) ≡ true → f ≡ true
fifth true true true true true g h = refl
fifth true true true true false g h = absurd (cc)
fifth true true true false f g h = absurd (cc)
fifth true true false e f g h = absurd (cc)
fifth true false d e f g h = absurd (cc)
fifth false b d e f g h = absurd (cc)

-- DriverEntry is entered in context 0, where it is owed
pub record StartsThere (c : Inputs) (s : State) (x : CtxNo) (words : List ℕ) : Type 0 where
  pub number : x.0 ≡ 0
  pub owes : owes_entry c s ≡ true
  pub carried : bytes_eq words (words_of s 0 x.0 handler.DriverEntry words) ≡ true

pub starts_there : VerdictsStand → (c : Inputs) (s : State) (x : CtxNo) (h : Handler) (words : List ℕ) (writes : List Write) → IsOfRun c s → Meets c s (entries.Enter None x h words writes)
    → StartsThere c s x words
starts_there stand c s x h words writes is meets =
    let both = true_both (x.0 == 0) (owes_entry c s && carries c s 0 x.0 handler.DriverEntry words writes) (starts stand c s x h words writes is meets) in
    let rest = true_both (owes_entry c s) (carries c s 0 x.0 handler.DriverEntry words writes) both.1 in
    record {
      number = eqb-true x.0 0 both.0;
      owes = rest.0;
      carried = fifth (is_free s x.0) (not (frame_due c s)) (has_subject s 0 handler.DriverEntry words)
          (may_lie s (handed_to s 0 handler.DriverEntry words) (named_in handler.DriverEntry words writes)) (bytes_eq words (words_of s 0 x.0 handler.DriverEntry words))
          (same_writes writes (writes_of s 0 x.0 handler.DriverEntry words writes)) rest.1;
    }

not_entered : (c : Inputs) (s : State) (x : CtxNo) (words : List ℕ) → StartsThere c s x words → was_not_entered s.entrance ≡ true
not_entered c s x words there = (true_both (was_not_entered s.entrance) _ there.owes).0

work_open : (os : List OwnerContext) (x : ℕ) → at is_at_work os x ≡ true → (at is_adapters os x ≡ true) ⊎ (at is_entrys os x ≡ true)
work_open os x h = by_row (slice_get os x) h
  where
    by_row : (m : Option OwnerContext) → option_map_or is_at_work m false ≡ true → (option_map_or is_adapters m false ≡ true) ⊎ (option_map_or is_entrys m false ≡ true)
    by_row (Some (Open (Some b) k n None)) is = inl refl
    by_row (Some (Open None k n None)) is = inr refl
    by_row (Some (Open b k n (Some call))) is = absurd (cc)
    by_row (Some Free) is = absurd (cc)
    by_row None is = absurd (cc)

quiet_there : EntersOwed → (c : Inputs) (s : State) (e : Entry) → IsOfRun c s → is_before s.entrance ≡ true → IsEarly s → Meets c s e → is_quiet e ≡ true
quiet_there owed c s (entries.ResetBegin b) is before early meets =
    absurd (early.idle b.0 (at_implies (λ (row : Adapter). is_running row.phase && row.owes_reset) serves_row s.owner.adapters b.0 owes_serves (true_both _ _ (case_of s.owner (entries.ResetBegin b) meets.owner)).0))
quiet_there owed c s (entries.Enter (Some a) x h words writes) is before early meets = absurd (no_enter owed c s a x h words writes is before early meets)
quiet_there owed c s (entries.Enter None x h words writes) is before early meets = refl
quiet_there owed c s _ is before early meets = refl

no_opens : EntersOwed → (c : Inputs) (s : State) (e : Entry) (x : ℕ) → IsOfRun c s → is_before s.entrance ≡ true → IsEarly s → Meets c s e → Opens is_adapters x e → ⊥
no_opens owed c s (entries.Enter (Some a) y h words writes) x is before early meets new = no_enter owed c s a y h words writes is before early meets
no_opens owed c s (entries.Enter None y h words writes) x is before early meets new = let wrong : false ≡ true = new.1 in absurd (cc)
no_opens owed c s _ x is before early meets new = absurd new

keeps_early : EntersOwed → (c : Inputs) (s : State) (e : Entry) → IsOfRun c s → is_before s.entrance ≡ true → IsEarly s → Meets c s e → IsEarly (after c s e)
keeps_early owed c s e is before early meets = record {
  none = λ x there. elim (run_back is_adapters adapters_steady c s e x there) [ inl was ↦ early.none x was | inr new ↦ no_opens owed c s e x is before early meets new ];
  idle = λ a serves. early.idle a (run_phases c s e a meets early.none serves);
  unwired = λ a. run_wired c s e a (no_adapter s early) ∙ early.unwired a;
  own = λ a. ap (λ (l : List ℕ). slice_index_or l a 0) (run_charges c s e (no_adapter s early)) ∙ early.own a;
  calm = run_no_reset c s e (quiet_there owed c s e is before early meets) early.calm;
}

not_entry : (h : Handler) → not (is_entry h) ≡ true → is_entry h ≡ false
not_entry handler.DriverEntry is = absurd (cc)
not_entry _ is = refl

other_handler : (s : State) (a : AdapterNo) (x : CtxNo) (h : Handler) (words : List ℕ) (writes : List Write) → rule_against s.owner (entries.Enter (Some a) x h words writes) ≡ None → is_entry h ≡ false
other_handler s a x h words writes none =
    not_entry h (true_both (not (is_entry h)) _ (true_both _ _ (case_of s.owner (entries.Enter (Some a) x h words writes) none)).1).0

leave_before : (c : Inputs) (s : State) (n : ℕ) (x : CtxNo) (eax : ℕ) (h : Handler) → is_before (left_row c s n x eax h).entrance ≡ true → is_before s.entrance ≡ true
leave_before c s n x eax h is = by_test (is_entry h) refl
  where
    by_entry : (h : Handler) → is_entry h ≡ true → is_before (left_row c s n x eax h).entrance ≡ true → ⊥
    by_entry handler.DriverEntry its is = absurd (cc)
    by_entry _ its is = absurd (cc)

    by_test : (b : Bool) → is_entry h ≡ b → is_before s.entrance ≡ true
    by_test true its = absurd (by_entry h its is)
    by_test false other = ap is_before (sym (left_alike c s n x eax h other).entrance) ∙ is

was_before : VerdictsStand → (c : Inputs) (s : State) (e : Entry) → IsOfRun c s → Meets c s e → is_before (after c s e).entrance ≡ true → is_before s.entrance ≡ true
was_before stand c s (entries.Enter (Some a) x h words writes) is meets before =
    ap is_before (sym (taken_alike s a.0 h words writes (other_handler s a x h words writes meets.owner)).entrance) ∙ before
was_before stand c s (entries.Enter None x h words writes) is meets before =
    unentered_before s.entrance (not_entered c s x words (starts_there stand c s x h words writes is meets))
was_before stand c s (entries.Leave x eax) is meets before = by_test (is_breaking (leaves c s x eax)) before
  where
    by_test : (b : Bool) → is_before (cond b s (record (left_row c s (number_in c (adapter_of s x.0)) x eax (handler_of s x.0)) { world = Rattle.legal_run.specs.After.leveled (left_row c s (number_in c (adapter_of s x.0)) x eax (handler_of s x.0)).world (Rattle.irql_lock.specs.LockMoves.Leave x) })).entrance ≡ true
        → is_before s.entrance ≡ true
    by_test true before = before
    by_test false before = leave_before c s (number_in c (adapter_of s x.0)) x eax (handler_of s x.0) before
was_before stand c s e is meets before = ap is_before (sym (run_entrance c s e refl)) ∙ before

-- DriverEntry's context is gone behind the leave of a context at work
entry_leaves : (s : State) (x : CtxNo) (eax y : ℕ) → IsEarly s → Begins s → rule_against s.owner (entries.Leave x eax) ≡ None → at is_entrys s.owner.contexts y ≡ true
    → at is_entrys (slice_set s.owner.contexts x.0 Free) y ≡ true → ⊥
entry_leaves s x eax y early begins none was is =
    elim (work_open s.owner.contexts x.0 (case_of s.owner (entries.Leave x eax) none)) [
      | inl its ↦ early.none x.0 its
      | inr its ↦
          let same : y ≡ x.0 = (begins.ones y was).0 ∙ sym (begins.ones x.0 its).0 in
          set_away is_entrys s.owner.contexts x.0 refl (subst (λ (n : ℕ). at is_entrys (slice_set s.owner.contexts x.0 Free) n ≡ true) same is)
    ]

kept_one : EntersOwed → VerdictsStand → (c : Inputs) (s : State) (e : Entry) (y : ℕ) → IsOfRun c s → Begins s → Meets c s e → at is_entrys s.owner.contexts y ≡ true
    → at is_entrys (after c s e).owner.contexts y ≡ true → is_inside (after c s e).entrance ≡ true
kept_one owed stand c s (entries.Enter (Some a) x h words writes) y is begins meets was there =
    let before = inside_before s.entrance (begins.ones y was).1 in absurd (no_enter owed c s a x h words writes is before (begins.early before) meets)
kept_one owed stand c s (entries.Enter None x h words writes) y is begins meets was there =
    absurd (not_two s.entrance (begins.ones y was).1 (not_entered c s x words (starts_there stand c s x h words writes is meets)))
kept_one owed stand c s (entries.Leave x eax) y is begins meets was there = by_test (is_breaking (leaves c s x eax)) _ there
  where
    inside : is_inside s.entrance ≡ true
    inside = (begins.ones y was).1

    by_test : (b : Bool) (t : State) → at is_entrys (owner_left s.owner (entries.Leave x eax) b).contexts y ≡ true → is_inside (cond b s t).entrance ≡ true
    by_test true t there = inside
    by_test false t there = absurd (entry_leaves s x eax y (begins.early (inside_before s.entrance inside)) begins meets.owner was there)
kept_one owed stand c s e y is begins meets was there = ap is_inside (run_entrance c s e refl) ∙ (begins.ones y was).1

new_one : VerdictsStand → (c : Inputs) (s : State) (e : Entry) (y : ℕ) → IsOfRun c s → Meets c s e → Opens is_entrys y e → (y ≡ 0) × (is_inside (after c s e).entrance ≡ true)
new_one stand c s (entries.Enter (Some a) x h words writes) y is meets new = let wrong : false ≡ true = new.1 in absurd (cc)
new_one stand c s (entries.Enter None x h words writes) y is meets new =
    let its = start_handler c s x h words writes meets in (
      sym new.0 ∙ (starts_there stand c s x h words writes is meets).number,
      subst (λ (k : Handler). is_inside (taken s (number_in c None) k words writes).entrance ≡ true) (sym its) refl,
    )
new_one stand c s _ y is meets new = absurd new

step : EntersOwed → VerdictsStand → (c : Inputs) (s : State) (e : Entry) → IsOfRun c s → Begins s → Meets c s e → Begins (after c s e)
step owed stand c s e is begins meets = record {
  early = λ before. let was = was_before stand c s e is meets before in keeps_early owed c s e is was (begins.early was) meets;
  ones = λ y there. elim (run_back is_entrys entrys_steady c s e y there) [
    | inl was ↦ ((begins.ones y was).0, kept_one owed stand c s e y is begins meets was there)
    | inr new ↦ new_one stand c s e y is meets new
  ];
}

-- ---- before the first entry

free_none : (test : OwnerContext → Bool) → test Free ≡ false → (n y : ℕ) → at test (replicate n Free) y ≡ true → ⊥
free_none test none zero y h = absurd (cc)
free_none test none (suc n) zero h = absurd (cc)
free_none test none (suc n) (suc y) h = free_none test none n y h

starting_idle : (n a : ℕ) → at serves_row (replicate n Rattle.owner_machine.specs.Legal.new_adapter) a ≡ true → ⊥
starting_idle zero a h = absurd (cc)
starting_idle (suc n) zero h = absurd (cc)
starting_idle (suc n) (suc a) h = starting_idle n a h

set_unwired : (l : Places) (n k : ℕ) (g : Given) → is_wired (slice_index_or l k None) ≡ false → is_wired (slice_index_or (slice_set l n (given_adapter g)) k None) ≡ false
set_unwired [] n k g h = h
set_unwired (p ∷ l) zero zero g h = refl
set_unwired (p ∷ l) zero (suc k) g h = h
set_unwired (p ∷ l) (suc n) zero g h = h
set_unwired (p ∷ l) (suc n) (suc k) g h = set_unwired l n k g h

placed_unwired : (gs : List Given) (l : Places) (n : ℕ) → ((k : ℕ) → is_wired (slice_index_or l k None) ≡ false) → (a : ℕ) → is_wired (slice_index_or (placed_in l n gs) a None) ≡ false
placed_unwired [] l n h a = h a
placed_unwired (g ∷ gs) l n h a = placed_unwired gs (slice_set l n (given_adapter g)) (suc n) (λ k. set_unwired l n k g (h k)) a

nowhere : (k : ℕ) → is_wired (slice_index_or (None ∷ None ∷ None ∷ None ∷ []) k None) ≡ false
nowhere zero = refl
nowhere (suc zero) = refl
nowhere (suc (suc zero)) = refl
nowhere (suc (suc (suc zero))) = refl
nowhere (suc (suc (suc (suc k)))) = refl

zero_at : (n a : ℕ) → slice_index_or {A = ℕ} (replicate n 0) a 0 ≡ zero
zero_at zero a = refl
zero_at (suc n) zero = refl
zero_at (suc n) (suc a) = zero_at n a

begun : (c : Inputs) → Begins (start c)
begun c = record {
  early = λ before. record {
    none = λ x there. free_none is_adapters refl 16 x there;
    idle = λ a there. starting_idle (length c.adapters) a there;
    unwired = λ a. placed_unwired c.adapters (None ∷ None ∷ None ∷ None ∷ []) 0 nowhere a;
    own = λ a. zero_at (length c.adapters) a;
    calm = refl;
  };
  ones = λ x there. absurd (free_none is_entrys refl 16 x there);
}

pub begins : EntersOwed → VerdictsStand → (c : Inputs) (s : State) → IsOfRun c s → Begins s
begins owed stand c s is = of_run c Begins (step owed stand c) (begun c) s is

-- ---- while DriverEntry is open not every adapter is stopped

all_kept : (f : Adapter → Adapter) (rows : List Adapter) (b : ℕ) → ((row : Adapter) → has_stopped (f row) ≡ has_stopped row) → list_all has_stopped (change f rows b) ≡ list_all has_stopped rows
all_kept f [] b w = refl
all_kept f (row ∷ rows) zero w = ap (λ b. b && list_all has_stopped rows) (w row)
all_kept f (row ∷ rows) (suc b) w = ap (λ b. has_stopped row && b) (all_kept f rows b w)

call_rows : (rows : List Adapter) (x : Option OwnerContext) (import : ℕ) → list_all has_stopped (adapters_called rows x import) ≡ list_all has_stopped rows
call_rows rows (Some (Open (Some b) h n call)) import = all_kept _ rows b.0 (λ row. refl)
call_rows rows (Some (Open None h n call)) import = refl
call_rows rows (Some Free) import = refl
call_rows rows None import = refl

reply_rows : (rows : List Adapter) (x : Option OwnerContext) → list_all has_stopped (adapters_answered rows x) ≡ list_all has_stopped rows
reply_rows rows (Some (Open (Some b) h n (Some call))) = all_kept _ rows b.0 (λ row. refl)
reply_rows rows (Some (Open (Some b) h n None)) = refl
reply_rows rows (Some (Open None h n (Some call))) = refl
reply_rows rows (Some (Open None h n None)) = refl
reply_rows rows (Some Free) = refl
reply_rows rows None = refl

-- entries that neither enter, leave nor stop
abbrev stays_whole : Entry → Bool
stays_whole (entries.Stop _ _) = false
stays_whole e = stays_in e

owner_rows : (o : Owner) (e : Entry) → stays_whole e ≡ true → rule_against o e ≡ None → ((a : ℕ) → at serves_row o.adapters a ≡ true → ⊥) → list_all has_stopped (owners.after o e).adapters ≡ list_all has_stopped o.adapters
owner_rows o (entries.Cancel driver id) other none idle = all_kept _ o.adapters (driver_adapter o driver.0) (λ row. refl)
owner_rows o (entries.Event driver number bytes taken) other none idle = all_kept _ o.adapters (driver_adapter o driver.0) (λ row. refl)
owner_rows o (entries.Requeue packet) other none idle = all_kept _ o.adapters (packet_adapter o packet.0) (λ row. refl)
owner_rows o (entries.ResetBegin b) other none idle = absurd (idle b.0 (at_implies (λ (row : Adapter). is_running row.phase && row.owes_reset) serves_row o.adapters b.0 owes_serves (true_both _ _ (case_of o (entries.ResetBegin b) none)).0))
owner_rows o (entries.ResetEnd b status) other none idle =
    absurd (idle b.0 (at_implies (λ (row : Adapter). is_resetting row.phase) serves_row o.adapters b.0 (λ row h. resetting_serves row.phase h) (true_both _ _ (case_of o (entries.ResetEnd b status) none)).0))
owner_rows o (entries.Call x import words) other none idle = call_rows o.adapters (slice_get o.contexts x.0) import
owner_rows o (entries.Reply x eax writes) other none idle = reply_rows o.adapters (slice_get o.contexts x.0)
owner_rows o (entries.Enter b x h words writes) other none idle = absurd (cc)
owner_rows o (entries.Leave x eax) other none idle = absurd (cc)
owner_rows o (entries.Stop b why) other none idle = absurd (cc)
owner_rows o _ other none idle = refl

run_rows : (c : Inputs) (s : State) (e : Entry) → stays_whole e ≡ true → Meets c s e → ((a : ℕ) → at serves_row s.owner.adapters a ≡ true → ⊥) → list_all has_stopped (after c s e).owner.adapters ≡ list_all has_stopped s.owner.adapters
run_rows c s (entries.Leave x eax) other meets idle = absurd (cc)
run_rows c s (entries.Reply x eax writes) other meets idle = owner_rows s.owner (entries.Reply x eax writes) other meets.owner idle
run_rows c s e other meets idle = owner_rows s.owner e other meets.owner idle

abbrev pub Remains : State → Type 0
Remains s = list_all has_stopped s.owner.adapters ≡ true → (y : ℕ) → at is_entrys s.owner.contexts y ≡ true → ⊥

entry_none : (os : List OwnerContext) (y : ℕ) → at is_entrys (entry_freed os) y ≡ true → ⊥
entry_none [] y h = absurd (cc)
entry_none (Open None k n call ∷ os) zero h = absurd (cc)
entry_none (Open (Some a) k n call ∷ os) zero h = absurd (cc)
entry_none (Free ∷ os) zero h = absurd (cc)
entry_none (Open None k n call ∷ os) (suc y) h = entry_none os y h
entry_none (Open (Some a) k n call ∷ os) (suc y) h = entry_none os y h
entry_none (Free ∷ os) (suc y) h = entry_none os y h

-- the stopped ones by number are those by row
stopped_numbers : (c : Inputs) (s : State) → length s.owner.adapters ≡ length c.adapters → list_all (is_stopped_adapter s) (adapters_of c) ≡ list_all has_stopped s.owner.adapters
stopped_numbers c s long = all_numbers (is_stopped_adapter s) s.owner.adapters c.adapters 0 long (λ k less. ap (is_stopped_adapter s) (zero_plus k))

some_adapter : (c : Inputs) → 0 < length c.adapters → is_empty c.adapters ≡ false
some_adapter c some = by_list c.adapters some
  where
    by_list : (gs : List Given) → 0 < length gs → is_empty gs ≡ false
    by_list [] some = absurd (omega (arith, some))
    by_list (g ∷ gs) some = refl

owes_some : (b d : Bool) → b ≡ false → d ≡ true → (b || not d) ≡ true → ⊥
owes_some true d one other h = absurd (cc)
owes_some false true one other h = absurd (cc)
owes_some false false one other h = absurd (cc)

kept_remains : EntersOwed → VerdictsStand → (c : Inputs) (s : State) (e : Entry) (y : ℕ) → IsOfRun c s → Begins s → Remains s → Meets c s e → at is_entrys s.owner.contexts y ≡ true
    → list_all has_stopped (after c s e).owner.adapters ≡ true → at is_entrys (after c s e).owner.contexts y ≡ true → ⊥
kept_remains owed stand c s (entries.Enter (Some a) x h words writes) y is began remains meets was all there =
    let before = inside_before s.entrance (began.ones y was).1 in no_enter owed c s a x h words writes is before (began.early before) meets
kept_remains owed stand c s (entries.Enter None x h words writes) y is began remains meets was all there =
    not_two s.entrance (began.ones y was).1 (not_entered c s x words (starts_there stand c s x h words writes is meets))
kept_remains owed stand c s (entries.Leave x eax) y is began remains meets was all there = by_test (is_breaking (leaves c s x eax)) all there
  where
    by_test : (b : Bool) → list_all has_stopped (owner_left s.owner (entries.Leave x eax) b).adapters ≡ true → at is_entrys (owner_left s.owner (entries.Leave x eax) b).contexts y ≡ true → ⊥
    by_test true all there = remains all y was
    by_test false all there = entry_leaves s x eax y (began.early (inside_before s.entrance (began.ones y was).1)) began meets.owner was there
kept_remains owed stand c s (entries.Stop b why) y is began remains meets was all there =
    entry_none (freed b.0 s.owner.contexts) y (subst (λ (last : Bool). at is_entrys (contexts_stopped s.owner.contexts b.0 last) y ≡ true) all there)
kept_remains owed stand c s e y is began remains meets was all there =
    let early = began.early (inside_before s.entrance (began.ones y was).1) in
    remains (sym (run_rows c s e refl meets early.idle) ∙ all) y was

new_remains : VerdictsStand → (c : Inputs) (s : State) (e : Entry) (y : ℕ) → IsOfRun c s → 0 < length c.adapters → length s.owner.adapters ≡ length c.adapters → Meets c s e → Opens is_entrys y e
    → list_all has_stopped (after c s e).owner.adapters ≡ true → ⊥
new_remains stand c s (entries.Enter (Some a) x h words writes) y is some long meets new all = let wrong : false ≡ true = new.1 in absurd (cc)
new_remains stand c s (entries.Enter None x h words writes) y is some long meets new all =
    let there = starts_there stand c s x h words writes is meets in
    owes_some _ _ (some_adapter c some) (stopped_numbers c s long ∙ all) (true_both (was_not_entered s.entrance) _ there.owes).1
new_remains stand c s _ y is some long meets new all = absurd new

remain_step : EntersOwed → VerdictsStand → AdaptersGiven → (c : Inputs) → 0 < length c.adapters → (s : State) (e : Entry) → IsOfRun c s → Remains s → Meets c s e → Remains (after c s e)
remain_step owed stand given c some s e is remains meets all y there =
    elim (run_back is_entrys entrys_steady c s e y there) [
      | inl was ↦ kept_remains owed stand c s e y is (begins owed stand c s is) remains meets was all there
      | inr new ↦ new_remains stand c s e y is some (counts given c s is).rows meets new all
    ]

pub remains : EntersOwed → VerdictsStand → AdaptersGiven → (c : Inputs) (s : State) → 0 < length c.adapters → IsOfRun c s → Remains s
remains owed stand given c s some is = of_run c Remains (remain_step owed stand given c some) (λ all y there. free_none is_entrys refl 16 y there) s is
