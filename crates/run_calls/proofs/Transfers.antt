-- No open call of a run waits for a transfer: no handler is entered for one. So each open call may be answered.
use Rattle.std.proofs.Common.{◌≡◌, ℕ, zero, suc, Bool, true, false, cond, ◌&&◌, List, [], ◌∷◌, ◌++◌, Option, Some, None, refl, sym, ap, subst, append_assoc, append-nil, slice_get, slice_set, replicate, inl, inr}
use Rattle.std.specs.Prelude.{⊤}
use Rattle.nd_base.specs.declared.numbers.AdapterNo.{AdapterNo}
use Rattle.nd_base.specs.declared.numbers.CtxNo.{CtxNo}
use Rattle.log_fields.specs.declared.write.Write.{Write}
use Rattle.log_fields.specs.declared.field_values.Handler.{Handler}
use Rattle.log_fields.specs.declared.field_values.Handler.TheVariants as handler
use Rattle.call_log.specs.declared.entry.Entry.{Entry}
use Rattle.call_log.specs.declared.entry.Entry.TheVariants as entries
use Rattle.owner_machine.specs.declared.rows.Context.{Context}
use Rattle.owner_machine.specs.declared.rows.Context.TheVariants.{Free, Open}
use Rattle.owner_machine.specs.State.{at, change}
use Rattle.owner_machine.specs.Contexts.{answered_call, any_handler, calling, entry_freed, freed, has_left, is_calling, is_transfer, may_be_answered, runs}
use Rattle.owner_machine.specs.Adapters.{contexts_stopped}
use Rattle.owner_machine.specs.Handlers.{contexts_entered}
use Rattle.legal_run.specs.State.{Inputs, State, alive}
use Rattle.legal_run.specs.Calls.{leaves}
use Rattle.legal_run.specs.After.{after, is_breaking, owner_left}
use Rattle.legal_run.specs.EntryLaws.{EntryLaws, IsCalledFor}
use Rattle.legal_run.specs.Laws.{RunLaws}
use Rattle.legal_run.specs.Run.{Run, now, now_from}

abbrev pub HasNone : Option Context → Type 0
HasNone (Some (Open a h enter (Some call))) = call.transfer ≡ None
HasNone _ = ⊤

abbrev pub Plain : List Context → Type 0
Plain xs = (n : ℕ) → HasNone (slice_get xs n)

-- ---- lists

set_plain : (xs : List Context) (n : ℕ) (y : Context) → HasNone (Some y) → Plain xs → Plain (slice_set xs n y)
set_plain [] n y new h m = h m
set_plain (x ∷ xs) zero y new h zero = new
set_plain (x ∷ xs) zero y new h (suc m) = h (suc m)
set_plain (x ∷ xs) (suc n) y new h zero = h zero
set_plain (x ∷ xs) (suc n) y new h (suc m) = set_plain xs n y new (λ k. h (suc k)) m

change_plain : (f : Context → Context) → ((x : Context) → HasNone (Some (f x))) → (xs : List Context) (n : ℕ) → Plain xs → Plain (change f xs n)
change_plain f new [] n h m = h m
change_plain f new (x ∷ xs) zero h zero = new x
change_plain f new (x ∷ xs) zero h (suc m) = h (suc m)
change_plain f new (x ∷ xs) (suc n) h zero = h zero
change_plain f new (x ∷ xs) (suc n) h (suc m) = change_plain f new xs n (λ k. h (suc k)) m

called_plain : (import : ℕ) (words : List ℕ) (x : Context) → HasNone (Some (calling import words x))
called_plain import words (Open a h enter call) = refl
called_plain import words Free = tt

answered_plain : (x : Context) → HasNone (Some (answered_call x))
answered_plain (Open a h enter call) = tt
answered_plain Free = tt

either_plain : (b : Bool) (x : Context) → HasNone (Some x) → HasNone (Some (cond b Free x))
either_plain true x h = tt
either_plain false x h = h

freed_plain : (a : ℕ) (xs : List Context) → Plain xs → Plain (freed a xs)
freed_plain a [] h m = h m
freed_plain a (x ∷ xs) h zero = either_plain (runs any_handler a x) x (h zero)
freed_plain a (x ∷ xs) h (suc m) = freed_plain a xs (λ k. h (suc k)) m

entry_plain : (xs : List Context) → Plain xs → Plain (entry_freed xs)
entry_plain [] h m = h m
entry_plain (Open None k enter call ∷ xs) h zero = tt
entry_plain (Open None k enter call ∷ xs) h (suc m) = entry_plain xs (λ k. h (suc k)) m
entry_plain (Open (Some a) k enter call ∷ xs) h zero = h zero
entry_plain (Open (Some a) k enter call ∷ xs) h (suc m) = entry_plain xs (λ k. h (suc k)) m
entry_plain (Free ∷ xs) h zero = tt
entry_plain (Free ∷ xs) h (suc m) = entry_plain xs (λ k. h (suc k)) m

stopped_plain : (xs : List Context) (a : ℕ) (all : Bool) → Plain xs → Plain (contexts_stopped xs a all)
stopped_plain xs a true h = entry_plain (freed a xs) (freed_plain a xs h)
stopped_plain xs a false h = freed_plain a xs h

free_plain : (n : ℕ) → Plain (replicate n Free)
free_plain zero m = tt
free_plain (suc n) zero = tt
free_plain (suc n) (suc m) = free_plain n m

-- ---- enters

false_and : (b : Bool) → b && false ≡ true → ⊥
false_and true h = absurd (cc)
false_and false h = absurd (cc)

never_begins : (c : Inputs) (s : State) (a : ℕ) → IsCalledFor c s a handler.TransferData → ⊥
never_begins c s a (inl owed) = false_and (alive s a) owed
never_begins c s a (inr (asked, is)) = absurd (cc)

entered_same : (a : Option AdapterNo) (h : Handler) (enter : ℕ) (xs : List Context) → is_transfer h ≡ false → contexts_entered a h enter xs ≡ xs
entered_same None h enter xs is = refl
entered_same (Some a) handler.TransferData enter xs is = absurd (cc)
entered_same (Some a) handler.DriverEntry enter xs is = refl
entered_same (Some a) handler.Initialize enter xs is = refl
entered_same (Some a) handler.Halt enter xs is = refl
entered_same (Some a) handler.Reset enter xs is = refl
entered_same (Some a) handler.CheckForHang enter xs is = refl
entered_same (Some a) handler.Isr enter xs is = refl
entered_same (Some a) handler.DisableInterrupt enter xs is = refl
entered_same (Some a) handler.EnableInterrupt enter xs is = refl
entered_same (Some a) handler.HandleInterrupt enter xs is = refl
entered_same (Some a) handler.Timer enter xs is = refl
entered_same (Some a) handler.Sync enter xs is = refl
entered_same (Some a) handler.Send enter xs is = refl
entered_same (Some a) handler.SendPackets enter xs is = refl
entered_same (Some a) handler.ReturnPacket enter xs is = refl
entered_same (Some a) handler.Query enter xs is = refl
entered_same (Some a) handler.Set enter xs is = refl
entered_same (Some a) handler.CancelSend enter xs is = refl
entered_same (Some a) handler.PnpEvent enter xs is = refl
entered_same (Some a) handler.Shutdown enter xs is = refl

no_transfer : EntryLaws → (c : Inputs) (log : List Entry) (a : AdapterNo) (x : CtxNo) (h : Handler) (words : List ℕ) (writes : List Write) → Run c (log ++ entries.Enter (Some a) x h words writes ∷ []) → is_transfer h ≡ false
no_transfer laws c log a x handler.TransferData words writes run = absurd (never_begins c (now c log) a.0 (laws.enter c log a x handler.TransferData words writes run).owed)
no_transfer laws c log a x handler.DriverEntry words writes run = refl
no_transfer laws c log a x handler.Initialize words writes run = refl
no_transfer laws c log a x handler.Halt words writes run = refl
no_transfer laws c log a x handler.Reset words writes run = refl
no_transfer laws c log a x handler.CheckForHang words writes run = refl
no_transfer laws c log a x handler.Isr words writes run = refl
no_transfer laws c log a x handler.DisableInterrupt words writes run = refl
no_transfer laws c log a x handler.EnableInterrupt words writes run = refl
no_transfer laws c log a x handler.HandleInterrupt words writes run = refl
no_transfer laws c log a x handler.Timer words writes run = refl
no_transfer laws c log a x handler.Sync words writes run = refl
no_transfer laws c log a x handler.Send words writes run = refl
no_transfer laws c log a x handler.SendPackets words writes run = refl
no_transfer laws c log a x handler.ReturnPacket words writes run = refl
no_transfer laws c log a x handler.Query words writes run = refl
no_transfer laws c log a x handler.Set words writes run = refl
no_transfer laws c log a x handler.CancelSend words writes run = refl
no_transfer laws c log a x handler.PnpEvent words writes run = refl
no_transfer laws c log a x handler.Shutdown words writes run = refl

entered_plain : EntryLaws → (c : Inputs) (log : List Entry) (a : Option AdapterNo) (x : CtxNo) (h : Handler) (words : List ℕ) (writes : List Write) → Run c (log ++ entries.Enter a x h words writes ∷ []) → Plain (now c log).owner.contexts
    → Plain (contexts_entered a h (now c log).owner.enters (now c log).owner.contexts)
entered_plain laws c log None x h words writes run plain = plain
entered_plain laws c log (Some a) x h words writes run plain = subst Plain (sym (entered_same (Some a) h (now c log).owner.enters (now c log).owner.contexts (no_transfer laws c log a x h words writes run))) plain

left_plain : (c : Inputs) (s : State) (x : CtxNo) (eax : ℕ) (b : Bool) → Plain s.owner.contexts → Plain (owner_left s.owner (entries.Leave x eax) b).contexts
left_plain c s x eax true plain = plain
left_plain c s x eax false plain = set_plain s.owner.contexts x.0 Free tt plain

-- ---- each entry

stays_plain : EntryLaws → (c : Inputs) (log : List Entry) (e : Entry) → Run c (log ++ e ∷ []) → Plain (now c log).owner.contexts → Plain (after c (now c log) e).owner.contexts
stays_plain laws c log (entries.Enter a x h words writes) run plain = set_plain _ x.0 _ tt (entered_plain laws c log a x h words writes run plain)
stays_plain laws c log (entries.Leave x eax) run plain = left_plain c (now c log) x eax (is_breaking (leaves c (now c log) x eax)) plain
stays_plain laws c log (entries.Call x import words) run plain = change_plain (calling import words) (called_plain import words) (now c log).owner.contexts x.0 plain
stays_plain laws c log (entries.Reply x eax writes) run plain = change_plain answered_call answered_plain (now c log).owner.contexts x.0 plain
stays_plain laws c log (entries.Stop a cause) run plain = stopped_plain (now c log).owner.contexts a.0 _ plain
stays_plain laws c log (entries.Bind driver a) run plain = plain
stays_plain laws c log (entries.Unbind driver) run plain = plain
stays_plain laws c log (entries.Quiet driver) run plain = plain
stays_plain laws c log (entries.Done driver) run plain = plain
stays_plain laws c log (entries.Await driver condition) run plain = plain
stays_plain laws c log (entries.Send driver packet bytes) run plain = plain
stays_plain laws c log (entries.Tag packet id) run plain = plain
stays_plain laws c log (entries.Cancel driver id) run plain = plain
stays_plain laws c log (entries.Event driver number bytes taken) run plain = plain
stays_plain laws c log (entries.Hand packet) run plain = plain
stays_plain laws c log (entries.Requeue packet) run plain = plain
stays_plain laws c log (entries.Late packet) run plain = plain
stays_plain laws c log (entries.Complete packet status) run plain = plain
stays_plain laws c log (entries.Indicate a loan bytes holders copied) run plain = plain
stays_plain laws c log (entries.Return driver loan) run plain = plain
stays_plain laws c log (entries.Back loan failed) run plain = plain
stays_plain laws c log (entries.Ask driver request question) run plain = plain
stays_plain laws c log (entries.HandAsk request) run plain = plain
stays_plain laws c log (entries.Answer request status bytes) run plain = plain
stays_plain laws c log (entries.ResetBegin a) run plain = plain
stays_plain laws c log (entries.ResetEnd a status) run plain = plain
stays_plain laws c log (entries.Turn x n) run plain = plain
stays_plain laws c log (entries.Fault x kind address) run plain = plain
stays_plain laws c log (entries.Spin x lock) run plain = plain
stays_plain laws c log (entries.Port a way size port bytes) run plain = plain
stays_plain laws c log (entries.WireIn frame) run plain = plain
stays_plain laws c log (entries.WireOut a bytes) run plain = plain
stays_plain laws c log (entries.Time moment) run plain = plain

goes_on_plain : EntryLaws → RunLaws → (c : Inputs) (before more : List Entry) → Run c (before ++ more) → Plain (now c before).owner.contexts → Plain (now c (before ++ more)).owner.contexts
goes_on_plain laws runs c before [] run plain = subst (λ (es : List Entry). Plain (now c es).owner.contexts) (sym (append-nil before)) plain
goes_on_plain laws runs c before (e ∷ more) run plain =
    let is : (before ++ e ∷ []) ++ more ≡ before ++ e ∷ more = append_assoc before (e ∷ []) more in
    let whole : Run c ((before ++ e ∷ []) ++ more) = subst (Run c) (sym is) run in
    let one : Plain (now c (before ++ e ∷ [])).owner.contexts = subst (λ (s : State). Plain s.owner.contexts) (sym (runs.next c before e)) (stays_plain laws c before e (runs.front c (before ++ e ∷ []) more whole) plain) in
    subst (λ (es : List Entry). Plain (now c es).owner.contexts) is (goes_on_plain laws runs c (before ++ e ∷ []) more whole one)

pub plain_now : EntryLaws → RunLaws → (c : Inputs) (log : List Entry) → Run c log → Plain (now c log).owner.contexts
unfolding now_from
plain_now laws runs c log run = goes_on_plain laws runs c [] log run (free_plain 16)

-- ---- so an open call may be answered

answerable : (contexts : List Context) (x : Context) → HasNone (Some x) → is_calling x ≡ true → may_be_answered contexts x ≡ true
answerable contexts (Open a h enter (Some call)) none calls = ap (has_left contexts) none
answerable contexts (Open a h enter None) none calls = absurd (cc)
answerable contexts Free none calls = absurd (cc)

at_answerable : (contexts xs : List Context) (n : ℕ) → HasNone (slice_get xs n) → at is_calling xs n ≡ true → at (may_be_answered contexts) xs n ≡ true
at_answerable contexts [] n none calls = absurd (cc)
at_answerable contexts (x ∷ xs) zero none calls = answerable contexts x none calls
at_answerable contexts (x ∷ xs) (suc n) none calls = at_answerable contexts xs n none calls

pub may_answer : EntryLaws → RunLaws → (c : Inputs) (log : List Entry) (x : ℕ) → Run c log → at is_calling (now c log).owner.contexts x ≡ true → at (may_be_answered (now c log).owner.contexts) (now c log).owner.contexts x ≡ true
may_answer laws runs c log x run calls = at_answerable (now c log).owner.contexts (now c log).owner.contexts x (plain_now laws runs c log run x) calls
