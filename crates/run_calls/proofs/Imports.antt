-- Each open call of a run is of one of the 64 imports.
use Rattle.std.proofs.Common.{◌≡◌, ◌⊎◌, inl, inr, ℕ, zero, suc, ◌≤◌, Bool, true, false, ◌&&◌, List, [], ◌∷◌, ◌++◌, Option, Some, None, MatchOption, refl, sym, subst, append_assoc, append-nil, slice_set, slice_index_or, replicate}
use Rattle.std.specs.Prelude.{⊤, if◌then◌else◌}
use Rattle.std.specs.Option.{option_map}
use Rattle.nd_base.specs.declared.numbers.AdapterNo.{AdapterNo}
use Rattle.nd_base.specs.declared.numbers.BindingNo.{BindingNo}
use Rattle.nd_base.specs.declared.numbers.CtxNo.{CtxNo}
use Rattle.log_fields.specs.declared.write.Write.{Write}
use Rattle.log_fields.specs.declared.field_values.Handler.{Handler}
use Rattle.log_fields.specs.declared.field_values.Handler.TheVariants as handler
use Rattle.call_log.specs.declared.entry.Entry.{Entry}
use Rattle.call_log.specs.declared.entry.Entry.TheVariants as entries
use Rattle.legal_run.specs.State.{Inputs, State, Context, Calling, Wait, OnSync, Entered, Left, adapter_of, call_at, context_at, handler_of, no_context, no_contexts}
use Rattle.legal_run.specs.Owed.{first, sync_caller}
use Rattle.legal_run.specs.Calls.{Did, Broken, Waits, Made, did, leaves}
use Rattle.legal_run.specs.Replies.{Answered, Told, answered}
use Rattle.legal_run.specs.After.{after, all_spoke, bound_to, calling, charge_to, framed, is_breaking, left_row, left, leveled, number_in, replied, spun, taken, with_wait, with_world}
use Rattle.irql_lock.specs.LockMoves as levels
use Rattle.legal_run.specs.Laws.{NothingStandsBetween, RunLaws}
use Rattle.legal_run.specs.Must.{Due, Serves, must}
use Rattle.legal_run.specs.Run.{IsInTurn, Run, freely, now, now_from}
use Rattle.run_calls.proofs.Judging.{import_number}

abbrev pub IsImport : ℕ → Type 0
IsImport n = (1 ≤ n) × (n ≤ 64)

abbrev pub OfTable : Option Calling → Type 0
OfTable (Some call) = IsImport call.import
OfTable None = ⊤

abbrev pub AreOfTable : List Context → Type 0
AreOfTable xs = (n : ℕ) → OfTable (slice_index_or xs n no_context).call

-- ---- lists

set_of : (xs : List Context) (n : ℕ) (y : Context) → OfTable y.call → AreOfTable xs → AreOfTable (slice_set xs n y)
set_of [] n y new h m = h m
set_of (x ∷ xs) zero y new h zero = new
set_of (x ∷ xs) zero y new h (suc m) = h (suc m)
set_of (x ∷ xs) (suc n) y new h zero = h zero
set_of (x ∷ xs) (suc n) y new h (suc m) = set_of xs n y new (λ k. h (suc k)) m

free_of : (n : ℕ) → AreOfTable (replicate n no_context)
free_of zero m = tt
free_of (suc n) zero = tt
free_of (suc n) (suc m) = free_of n m

-- ---- what changes contexts

charged_contexts : (s : State) (a : Option AdapterNo) (n : ℕ) → (charge_to s a n).contexts ≡ s.contexts
charged_contexts s None n = refl
charged_contexts s (Some a) n = refl

waited_of : (k : Option Calling) (wait : Wait) → OfTable k → OfTable (option_map {T = Calling} (λ call. record call { wait = wait }) k)
waited_of None wait h = tt
waited_of (Some call) wait h = h

with_wait_of : (s : State) (x : Option ℕ) (wait : Wait) → AreOfTable s.contexts → AreOfTable (with_wait s x wait).contexts
with_wait_of s None wait h = h
with_wait_of s (Some x) wait h = set_of s.contexts x _ (waited_of (call_at s x) wait (h x)) h

spoken_contexts : (s : State) (bs : List ℕ) → (all_spoke s bs).contexts ≡ s.contexts
unfolding all_spoke
spoken_contexts s [] = refl
spoken_contexts s (b ∷ bs) = spoken_contexts _ bs

framed_contexts : (s : State) (bs : List BindingNo) → (framed s bs).contexts ≡ s.contexts
unfolding framed
framed_contexts s [] = refl
framed_contexts s (b ∷ bs) = framed_contexts _ bs

taken_of : (s : State) (a : ℕ) (h : Handler) (words : List ℕ) (writes : List Write) → AreOfTable s.contexts → AreOfTable (taken s a h words writes).contexts
taken_of s a handler.Sync words writes k = with_wait_of s (sync_caller s a) (OnSync Entered) k
taken_of s a handler.DriverEntry words writes k = k
taken_of s a handler.Initialize words writes k = k
taken_of s a handler.Halt words writes k = k
taken_of s a handler.Reset words writes k = k
taken_of s a handler.CheckForHang words writes k = k
taken_of s a handler.Isr words writes k = k
taken_of s a handler.DisableInterrupt words writes k = k
taken_of s a handler.EnableInterrupt words writes k = k
taken_of s a handler.HandleInterrupt words writes k = k
taken_of s a handler.Timer words writes k = k
taken_of s a handler.Send words writes k = k
taken_of s a handler.SendPackets words writes k = k
taken_of s a handler.ReturnPacket words writes k = k
taken_of s a handler.Query words writes k = k
taken_of s a handler.Set words writes k = k
taken_of s a handler.TransferData words writes k = k
taken_of s a handler.CancelSend words writes k = k
taken_of s a handler.PnpEvent words writes k = k
taken_of s a handler.Shutdown words writes k = k

either_of : (b : Bool) (t u : State) → AreOfTable t.contexts → AreOfTable u.contexts → AreOfTable (if b then t else u).contexts
either_of true t u one other = one
either_of false t u one other = other

left_row_of : (c : Inputs) (s : State) (a : ℕ) (x : CtxNo) (eax : ℕ) (h : Handler) → AreOfTable s.contexts → AreOfTable (left_row c s a x eax h).contexts
left_row_of c s a x eax handler.Sync k = with_wait_of s (first (context_at s x.0).subject) (OnSync (Left eax)) k
left_row_of c s a x eax handler.DriverEntry k = k
left_row_of c s a x eax handler.Initialize k = either_of _ _ _ k k
left_row_of c s a x eax handler.Halt k = k
left_row_of c s a x eax handler.Reset k = k
left_row_of c s a x eax handler.CheckForHang k = k
left_row_of c s a x eax handler.Isr k = either_of _ _ _ k k
left_row_of c s a x eax handler.DisableInterrupt k = k
left_row_of c s a x eax handler.EnableInterrupt k = k
left_row_of c s a x eax handler.HandleInterrupt k = either_of _ _ _ k k
left_row_of c s a x eax handler.Timer k = k
left_row_of c s a x eax handler.Send k = k
left_row_of c s a x eax handler.SendPackets k = k
left_row_of c s a x eax handler.ReturnPacket k = k
left_row_of c s a x eax handler.Query k = k
left_row_of c s a x eax handler.Set k = k
left_row_of c s a x eax handler.TransferData k = k
left_row_of c s a x eax handler.CancelSend k = k
left_row_of c s a x eax handler.PnpEvent k = k
left_row_of c s a x eax handler.Shutdown k = k

left_of : (c : Inputs) (s : State) (x : CtxNo) (eax : ℕ) → AreOfTable s.contexts → AreOfTable (left c s x eax).contexts
left_of c s x eax k =
    let t : State = left_row c s (number_in c (adapter_of s x.0)) x eax (handler_of s x.0) in
    either_of (is_breaking (leaves c s x eax)) s (with_world t (leveled t.world (levels.Leave x))) k (left_row_of c s (number_in c (adapter_of s x.0)) x eax (handler_of s x.0) k)

replied_of : (s : State) (x : CtxNo) (told : Told) (given : Option Answered) → AreOfTable s.contexts → AreOfTable (replied s x told given).contexts
replied_of s x told None k = k
replied_of s x told (Some given) k = subst AreOfTable (sym (charged_contexts _ _ given.0.cost)) (set_of s.contexts x.0 _ tt k)

spun_of : (s : State) (x : CtxNo) (call : Option Calling) → AreOfTable s.contexts → AreOfTable (spun s x call).contexts
spun_of s x None k = k
spun_of s x (Some call) k = k

called_as : (import : ℕ) (words : List ℕ) (d : Did) → (calling import words d).import ≡ import
called_as import words (Broken rule) = refl
called_as import words (Waits wait) = refl
called_as import words (Made es lent writes) = refl

-- ---- a call stands where its context is at the import

and_second : (a b : Bool) → a && b ≡ true → b ≡ true
and_second true b h = h
and_second false b h = absurd (cc)

and_first : (a b : Bool) → a && b ≡ true → a ≡ true
and_first true b h = refl
and_first false b h = h

turn_free : (c : Inputs) (s : State) (e : Entry) → must s ≡ None → IsInTurn c s e → freely c s e ≡ true
turn_free c s e free turn = subst (λ (m : Option Due). MatchOption m (freely c s e ≡ true) (λ due. Serves c s due e)) free turn

at_import : RunLaws → NothingStandsBetween → (c : Inputs) (log : List Entry) (x : CtxNo) (import : ℕ) (words : List ℕ) → Run c (log ++ entries.Call x import words ∷ []) → IsImport import
at_import laws between c log x import words run = by (must (now c log)) refl ((laws.more c log e).0 run).1.turn
  where
    e : Entry
    e = entries.Call x import words

    by : (m : Option Due) → must (now c log) ≡ m → IsInTurn c (now c log) e ⊎ (false ≡ true) → IsImport import
    by (Some due) is turn = absurd (let wrong : false ≡ true = between c log due e run is in cc)
    by None is (inr wrong) = absurd (cc)
    by None is (inl turn) = import_number (now c log) x import (and_first _ _ (and_second _ _ (turn_free c (now c log) e is turn)))

-- ---- each entry

stays_of : RunLaws → NothingStandsBetween → (c : Inputs) (log : List Entry) (e : Entry) → Run c (log ++ e ∷ []) → AreOfTable (now c log).contexts → AreOfTable (after c (now c log) e).contexts
stays_of laws between c log (entries.Enter a x h words writes) run k = set_of _ x.0 _ tt (taken_of (now c log) (number_in c a) h words writes k)
stays_of laws between c log (entries.Leave x eax) run k = left_of c (now c log) x eax k
stays_of laws between c log (entries.Turn x n) run k = subst AreOfTable (sym (charged_contexts _ _ n)) (set_of (now c log).contexts x.0 _ (k x.0) k)
stays_of laws between c log (entries.Call x import words) run k = set_of (now c log).contexts x.0 _ (subst IsImport (sym (called_as import words (did (now c log) x import words))) (at_import laws between c log x import words run)) k
stays_of laws between c log (entries.Reply x eax writes) run k = replied_of (now c log) x (record { eax = eax; writes = writes }) (answered (now c log) x (record { eax = eax; writes = writes })) k
stays_of laws between c log (entries.Spin x lock) run k = spun_of (now c log) x (call_at (now c log) x.0) k
stays_of laws between c log (entries.Stop a cause) run k = subst AreOfTable (sym (spoken_contexts (now c log) (bound_to (now c log) a.0))) k
stays_of laws between c log (entries.Indicate a loan bytes holders copied) run k = subst AreOfTable (sym (framed_contexts (now c log) holders)) k
stays_of laws between c log (entries.Bind driver a) run k = k
stays_of laws between c log (entries.Unbind driver) run k = k
stays_of laws between c log (entries.Quiet driver) run k = k
stays_of laws between c log (entries.Done driver) run k = k
stays_of laws between c log (entries.Await driver condition) run k = k
stays_of laws between c log (entries.Send driver packet bytes) run k = k
stays_of laws between c log (entries.Tag packet id) run k = k
stays_of laws between c log (entries.Cancel driver id) run k = k
stays_of laws between c log (entries.Event driver number bytes taken) run k = k
stays_of laws between c log (entries.Hand packet) run k = k
stays_of laws between c log (entries.Requeue packet) run k = k
stays_of laws between c log (entries.Late packet) run k = k
stays_of laws between c log (entries.Complete packet status) run k = k
stays_of laws between c log (entries.Return driver loan) run k = k
stays_of laws between c log (entries.Back loan failed) run k = k
stays_of laws between c log (entries.Ask driver request question) run k = k
stays_of laws between c log (entries.HandAsk request) run k = k
stays_of laws between c log (entries.Answer request status bytes) run k = k
stays_of laws between c log (entries.ResetBegin a) run k = k
stays_of laws between c log (entries.ResetEnd a status) run k = k
stays_of laws between c log (entries.Fault x kind address) run k = k
stays_of laws between c log (entries.Port a way size port bytes) run k = k
stays_of laws between c log (entries.WireIn frame) run k = k
stays_of laws between c log (entries.WireOut a bytes) run k = k
stays_of laws between c log (entries.Time moment) run k = k

goes_on_of : RunLaws → NothingStandsBetween → (c : Inputs) (before more : List Entry) → Run c (before ++ more) → AreOfTable (now c before).contexts → AreOfTable (now c (before ++ more)).contexts
goes_on_of laws between c before [] run k = subst (λ (es : List Entry). AreOfTable (now c es).contexts) (sym (append-nil before)) k
goes_on_of laws between c before (e ∷ more) run k =
    let is : (before ++ e ∷ []) ++ more ≡ before ++ e ∷ more = append_assoc before (e ∷ []) more in
    let whole : Run c ((before ++ e ∷ []) ++ more) = subst (Run c) (sym is) run in
    let one : AreOfTable (now c (before ++ e ∷ [])).contexts = subst (λ (s : State). AreOfTable s.contexts) (sym (laws.next c before e)) (stays_of laws between c before e (laws.front c (before ++ e ∷ []) more whole) k) in
    subst (λ (es : List Entry). AreOfTable (now c es).contexts) is (goes_on_of laws between c (before ++ e ∷ []) more whole one)

pub imports_now : RunLaws → NothingStandsBetween → (c : Inputs) (log : List Entry) → Run c log → AreOfTable (now c log).contexts
unfolding now_from no_contexts
imports_now laws between c log run = goes_on_of laws between c [] log run (free_of 16)

pub import_in : RunLaws → NothingStandsBetween → (c : Inputs) (log : List Entry) (x : ℕ) (call : Calling) → Run c log → call_at (now c log) x ≡ Some call → IsImport call.import
import_in laws between c log x call run is = subst OfTable is (imports_now laws between c log run x)
