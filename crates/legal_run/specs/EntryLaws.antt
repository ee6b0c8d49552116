-- What stands behind each kind of entry of a run that comes by itself, and where a stop comes from. Each record is the contract of a function of
-- src/kinds.rt that does nothing. They say once more, of all runs, what the tables of Run.antt and Must.antt ask of one entry.
use Rattle.std.specs.Prelude.{◌≡◌, ◌⊎◌, ℕ, ◌≤◌, ◌<◌, ◌++◌, true, false, List, [], ◌∷◌, length, Some, Option, ⊤, Bool}
use Rattle.nd_base.specs.declared.numbers.Addr.{Addr}
use Rattle.nd_base.specs.declared.numbers.AdapterNo.{AdapterNo}
use Rattle.nd_base.specs.declared.numbers.BindingNo.{BindingNo}
use Rattle.nd_base.specs.declared.numbers.CtxNo.{CtxNo}
use Rattle.log_fields.specs.declared.write.Write.{Write}
use Rattle.log_fields.specs.declared.field_values.Cause.{Cause}
use Rattle.log_fields.specs.declared.field_values.Cause.TheVariants as cause
use Rattle.log_fields.specs.declared.field_values.FaultKind.{FaultKind}
use Rattle.log_fields.specs.declared.field_values.Handler.{Handler}
use Rattle.log_fields.specs.declared.field_values.Handler.TheVariants as handler
use Rattle.call_log.specs.declared.entry.Entry.{Entry}
use Rattle.call_log.specs.declared.entry.Entry.TheVariants as entries
use Rattle.owner_machine.specs.Contexts.{is_reset}
use Rattle.owner_machine.specs.Must.{Due as OwnerDue, HandsAsk, EntersReset, owner_must}
use Rattle.legal_run.specs.State.{Inputs, State, Wait, OnClock, OnSync, Calling, Stops, clock, call_at, is_free, adapter, adapter_of, context_at, cells}
use Rattle.legal_run.specs.Owed.{first, frame_due, can_run, is_owed, owes_entry, waits, waits_or_is_done, next_moment, is_idle, silent_one}
use Rattle.legal_run.specs.Calls.{Broken, Made, did, Breaking, leaves}
use Rattle.legal_run.specs.Enters.{words_of, writes_of, may_lie, handed_to, named_in}
use Rattle.import_table.specs.Table.{row_of}
use Rattle.legal_run.specs.Replies.{Answered, answered, returned}
use Rattle.legal_run.specs.After.{after, turned, machine_of, reaches, breach, unfinished, cost_of, next_after, adapters_stopped, import_of}
use Rattle.legal_run.specs.Must.{Due, Owes, Exactly, ReplyOf, Serves, first_stop, must}
use Rattle.legal_run.specs.Run.{Run, Meets, now, goes_on}

-- ---- rest

-- no frame is due, no context can run, and where a handler is owed that may be entered, no context is free for it
pub record IsAtRest (c : Inputs) (s : State) : Type 0 where
  pub frames : frame_due c s ≡ false
  pub contexts : (x : ℕ) → x < 16 → can_run s x ≡ false
  pub handlers : (a : ℕ) (h : Handler) (x : ℕ) → a < length c.adapters → is_owed c s a h ≡ true → x < 16 → is_free s x ≡ false
  pub entry : (x : ℕ) → owes_entry c s ≡ true → x < 16 → is_free s x ≡ false

-- a jump of the clock: from rest, where no driver has anything to do, to the earliest moment that is to come
pub record Jumps (c : Inputs) (s : State) (moment : ℕ) : Type 0 where
  pub rest : IsAtRest c s
  pub drivers : (b : ℕ) → b < length c.drivers → waits_or_is_done s b ≡ true
  pub later : clock s < moment
  pub earliest : next_moment c s ≡ Some moment

-- a driver hears that it waits in vain
pub record IsQuiet (c : Inputs) (s : State) (b : ℕ) : Type 0 where
  pub rest : IsAtRest c s
  pub waits : waits s b ≡ true

-- ---- code

-- a turn: each of its instructions has a result, the budget is not reached before its end, and it ends no earlier than it must
pub record IsTurn (c : Inputs) (s : State) (x : CtxNo) (n : ℕ) : Type 0 where
  pub some : 0 < n
  pub most : n ≤ 64
  pub steps : (k : ℕ) → k < n → goes_on s x k ≡ true
  pub within : (k : ℕ) → k < n → reaches c s x k ≡ false
  pub ends : (n ≡ 64) ⊎ ((reaches c s x n ≡ true) ⊎ (goes_on s x n ≡ false))
  pub frames : frame_due c s ≡ false

-- what the reply of a call writes behind what its import's row says: nothing where it has slept, or waited for a function
abbrev pub more_written : Calling → Wait → List Write
more_written call (OnSync stage) = []
more_written call (OnClock wake) = []
more_written call _ = call.writes

-- a reply: the answer to the context's open call, with the writes that it says
pub record IsReply (s : State) (x : CtxNo) (eax : ℕ) (writes : List Write) : Type 0 where
  pub call : Calling
  pub called : call_at s x.0 ≡ Some call
  pub given : Answered
  pub found : answered s x (record { eax = eax; writes = writes }) ≡ Some given
  pub answer : given.0.eax ≡ eax
  pub written : writes ≡ given.0.writes ++ more_written call call.wait

-- ---- enters

-- the handler is owed; or its reset has begun just now
abbrev pub IsCalledFor : Inputs → State → ℕ → Handler → Type 0
IsCalledFor c s a h = (is_owed c s a h ≡ true) ⊎ ((owner_must s.owner ≡ Some (EntersReset a)) × (is_reset h ≡ true))

pub record IsEnter (c : Inputs) (s : State) (a x : ℕ) (h : Handler) (words : List ℕ) (writes : List Write) : Type 0 where
  pub owed : IsCalledFor c s a h
  pub free : is_free s x ≡ true
  pub frames : frame_due c s ≡ false
  pub carried : words ≡ words_of s a x h words
  pub written : writes ≡ writes_of s a x h words writes
  pub slots : may_lie s (handed_to s a h words) (named_in h words writes) ≡ true

-- ---- stops

-- a stop is due behind what made it; or nothing can happen any more; or memory ran out
pub data HasCause (c : Inputs) (s : State) (a : ℕ) (why : Cause) : Type 0 where
  Follows : (ats : List ℕ) → s.next ≡ Stops why (a ∷ ats) → HasCause c s a why
  Silent : why ≡ breach 13 → is_idle c s ≡ true → silent_one c s ≡ Some a → HasCause c s a why
  Wants : why ≡ cause.Memory → first (unfinished c s) ≡ Some a → HasCause c s a why

-- what makes a stop due: a call, leave or fault that breaks that rule; a turn or reply that reaches the budget; a stop before it; else it was due already
abbrev pub IsReason : Inputs → State → Entry → Cause → Type 0
IsReason c s (entries.Call x import words) why = (rule : ℕ) × (did s x import words ≡ Broken rule) × (why ≡ breach rule)
IsReason c s (entries.Leave x eax) why = (rule : ℕ) × (leaves c s x eax ≡ Breaking rule) × (why ≡ breach rule)
IsReason c s (entries.Fault x kind address) why = why ≡ breach 8
IsReason c s (entries.Turn x n) why = (reaches c s x n ≡ true) × (why ≡ cause.Budget)
IsReason c s (entries.Reply x eax writes) why = (reaches c s x (cost_of s x (record { eax = eax; writes = writes })) ≡ true) × (why ≡ cause.Budget)
IsReason c s (entries.Stop a before) why = before ≡ why
IsReason c s e why = (ats : List ℕ) × (s.next ≡ Stops why ats)

-- the stops that a context brings: of its adapter; DriverEntry's, of every adapter
abbrev pub stops_of : Inputs → State → CtxNo → Cause → Option Due
stops_of c s x why = first_stop (adapters_stopped c s (adapter_of s x.0)) (λ a. entries.Stop (adapter a) why)

pub record CauseLaws : Type 0 where
  -- a stop has its cause
  pub stops : (c : Inputs) (log : List Entry) (adapter : AdapterNo) (why : Cause) → Run c (log ++ entries.Stop adapter why ∷ []) → HasCause c (now c log) adapter.0 why
  -- and where a stop is due, the entry in front of it is the reason
  pub reasons : (c : Inputs) (s : State) (e : Entry) (why : Cause) (ats : List ℕ) → next_after c s e ≡ Stops why ats → IsReason c s e why
  -- where there is a reason nothing stands behind it but its stops, each with its tail
  pub call : (c : Inputs) (s : State) (x : CtxNo) (import : ℕ) (words : List ℕ) (rule : ℕ)
      → did s x import words ≡ Broken rule → must (after c s (entries.Call x import words)) ≡ stops_of c s x (breach rule)
  pub leave : (c : Inputs) (s : State) (x : CtxNo) (eax rule : ℕ) → leaves c s x eax ≡ Breaking rule → must (after c s (entries.Leave x eax)) ≡ stops_of c s x (breach rule)
  pub fault : (c : Inputs) (s : State) (x : CtxNo) (kind : FaultKind) (address : Addr) → must (after c s (entries.Fault x kind address)) ≡ stops_of c s x (breach 8)
  pub turn : (c : Inputs) (s : State) (x : CtxNo) (n : ℕ) → reaches c s x n ≡ true → must (after c s (entries.Turn x n)) ≡ stops_of c s x cause.Budget
  pub reply : (c : Inputs) (s : State) (x : CtxNo) (eax : ℕ) (writes : List Write)
      → reaches c s x (cost_of s x (record { eax = eax; writes = writes })) ≡ true → must (after c s (entries.Reply x eax writes)) ≡ stops_of c s x cause.Budget

-- ---- kinds that stand only where they must

abbrev pub is_forced : Entry → Bool
is_forced (entries.Hand _) = true
is_forced (entries.Requeue _) = true
is_forced (entries.Complete _ _) = true
is_forced (entries.Late _) = true
is_forced (entries.Indicate _ _ _ _ _) = true
is_forced (entries.Back _ _) = true
is_forced (entries.HandAsk _) = true
is_forced (entries.Answer _ _ _) = true
is_forced (entries.ResetEnd _ _) = true
is_forced (entries.Port _ _ _ _ _) = true
is_forced (entries.WireOut _ _) = true
is_forced (entries.Spin _ _) = true
is_forced _ = false

pub record IsAsked (c : Inputs) (s : State) (e : Entry) : Type 0 where
  pub due : Due
  pub must : must s ≡ Some due
  pub serves : Serves c s due e

-- ---- the laws

pub record EntryLaws : Type 0 where
  pub jump : (c : Inputs) (log : List Entry) (moment : ℕ) → Run c (log ++ entries.Time moment ∷ []) → Jumps c (now c log) moment
  pub quiet : (c : Inputs) (log : List Entry) (driver : BindingNo) → Run c (log ++ entries.Quiet driver ∷ []) → IsQuiet c (now c log) driver.0
  pub turn : (c : Inputs) (log : List Entry) (x : CtxNo) (n : ℕ) → Run c (log ++ entries.Turn x n ∷ []) → IsTurn c (now c log) x n
  pub reply : (c : Inputs) (log : List Entry) (x : CtxNo) (eax : ℕ) (writes : List Write) → Run c (log ++ entries.Reply x eax writes ∷ []) → IsReply (now c log) x eax writes
  pub enter : (c : Inputs) (log : List Entry) (a : AdapterNo) (x : CtxNo) (h : Handler) (words : List ℕ) (writes : List Write)
      → Run c (log ++ entries.Enter (Some a) x h words writes ∷ []) → IsEnter c (now c log) a.0 x.0 h words writes
  -- what is handed, what ends, what a call makes and what the wire gets stands only where it must
  pub asked : (c : Inputs) (log : List Entry) (e : Entry) → is_forced e ≡ true → Run c (log ++ e ∷ []) → IsAsked c (now c log) e
  -- a call that breaks no rule and does not wait: what it makes stands directly behind it, and then its reply
  pub made : (c : Inputs) (s : State) (x : CtxNo) (import : ℕ) (words : List ℕ) (e : Entry) (es : List Entry) (lent : List ℕ) (writes : List Write)
      → did s x import words ≡ Made (e ∷ es) lent writes → must (after c s (entries.Call x import words)) ≡ Some (Exactly e)
  pub answered : (c : Inputs) (s : State) (x : CtxNo) (import : ℕ) (words lent : List ℕ) (writes : List Write)
      → did s x import words ≡ Made [] lent writes → must (after c s (entries.Call x import words)) ≡ Some (ReplyOf x)

-- ---- contexts follow the code

pub record CodeLaws : Type 0 where
  -- there are sixteen contexts
  pub contexts : (c : Inputs) (log : List Entry) → length (now c log).contexts ≡ 16
  -- a turn leaves its context's registers and memory as so many steps do
  pub turn : (c : Inputs) (s : State) (x : CtxNo) (n : ℕ) → x.0 < length s.contexts → machine_of (after c s (entries.Turn x n)) x ≡ turned n (machine_of s x)
  -- a call returns: to the address on its stack, with its words taken from there where its convention says so; and the reply's writes are made
  pub reply : (c : Inputs) (s : State) (x : CtxNo) (eax : ℕ) (writes : List Write) (given : Answered) → x.0 < length s.contexts
      → answered s x (record { eax = eax; writes = writes }) ≡ Some given
      → (context_at (after c s (entries.Reply x eax writes)) x.0).registers ≡ returned (cells s) (context_at s x.0).registers (row_of (import_of s x)) eax

-- ---- duties

-- what the owner machine asks for, but for a question that is handed and a reset that is entered
abbrev pub IsPlain : OwnerDue → Type 0
IsPlain (HandsAsk r) = ⊥
IsPlain (EntersReset a) = ⊥
IsPlain _ = ⊤

-- a run goes on from there: by an entry that may stand, and that serves what must
pub record GoesOn (c : Inputs) (s : State) : Type 0 where
  pub entry : Entry
  pub meets : Meets c s entry
  pub asked : IsAsked c s entry

-- the handlers of a query and of a set
abbrev pub is_ask : Handler → Bool
is_ask handler.Query = true
is_ask handler.Set = true
is_ask _ = false

pub record DutyLaws : Type 0 where
  -- such a duty has an entry that serves it: no run is stuck in a tail, in front of a refusal, or where packets are aborted, cancelled or handed
  pub plain : (c : Inputs) (s : State) (d : OwnerDue) → must s ≡ Some (Owes d) → IsPlain d → GoesOn c s
  -- and where the handler of a query or set was entered, its question is handed
  pub asks : (c : Inputs) (log : List Entry) (a : AdapterNo) (x : CtxNo) (h : Handler) (words : List ℕ) (writes : List Write) → is_ask h ≡ true
      → Run c (log ++ entries.Enter (Some a) x h words writes ∷ []) → GoesOn c (now c (log ++ entries.Enter (Some a) x h words writes ∷ []))
  -- and where a reset began, its handler is entered
  pub reset : (c : Inputs) (log : List Entry) (a : AdapterNo) → Run c (log ++ entries.ResetBegin a ∷ []) → GoesOn c (now c (log ++ entries.ResetBegin a ∷ []))
