-- What holds in every state of a run. Each of the last types is the contract of a function of src/laws.rt that does nothing. (What a run and its states
-- are: crates/legal_run/specs/Run.antt and State.antt; the project's own: docs/LEGAL-RUN.md.)
use Rattle.std.specs.Prelude.{◌≡◌, ◌<◌, ◌≤◌, ℕ, ◌+◌, ◌^◌, ◌==◌, true, false, nat_le, List, [], length, Option, Some, None, IsSome}
use Rattle.std.specs.List.{list_any}
use Rattle.nd_base.specs.declared.numbers.AdapterNo.{AdapterNo}
use Rattle.nd_base.specs.declared.numbers.CtxNo.{CtxNo}
use Rattle.irql_lock.specs.LockState.{IsOpen, context_of}
use Rattle.log_fields.specs.declared.write.Write.{Write}
use Rattle.log_fields.specs.declared.field_values.Handler.{Handler}
use Rattle.call_log.specs.declared.entry.Entry.{Entry}
use Rattle.call_log.specs.declared.entry.Entry.TheVariants as entries
use Rattle.guest_world.specs.Worlds.{CanAnswer, IsIdle, longest_time}
use Rattle.import_answers.specs.World.{IsNumber}
use Rattle.calls_ports.specs.Cards.{HasAdapter}
use Rattle.owner_machine.specs.State.{at, stands}
use Rattle.owner_machine.specs.Contexts.{is_at_work, is_calling}
use Rattle.legal_run.specs.State.{Inputs, State, Calling, Next, Stops, start, adapter_of, call_at, caller, clock, is_free, is_open, part_of}
use Rattle.legal_run.specs.After.{after, charges_of, hang_period, reaches}
use Rattle.legal_run.specs.Must.{ReplyOf, must}
use Rattle.legal_run.specs.Run.{Meets, Reaches, is_going, is_memory_stop}

-- ---- states of runs

-- a run leaves this state
pub record IsOfRun (c : Inputs) (s : State) : Type 0 where
  pub log : List Entry
  pub reaches : Reaches c log s

-- the state before the first entry is one; and so is what an entry leaves of one, where it meets what it needs
pub record GoesOn : Type 0 where
  pub begins : (c : Inputs) → IsOfRun c (start c)
  pub goes : (c : Inputs) (s : State) (e : Entry) → IsOfRun c s → Meets c s e → IsOfRun c (after c s e)

-- ---- lengths

-- there are sixteen contexts, as many adapters and drivers as were given, a frame for each packet, and a descriptor for each loan
pub record Counts (c : Inputs) (s : State) : Type 0 where
  pub contexts : length s.contexts ≡ 16
  pub handlers : length s.owner.contexts ≡ 16
  pub rows : length s.owner.adapters ≡ length c.adapters
  pub progress : length s.adapters ≡ length c.adapters
  pub charges : length s.charges ≡ length c.adapters
  pub bindings : length s.owner.drivers ≡ length c.drivers
  pub hearings : length s.drivers ≡ length c.drivers
  pub frames : length s.packets ≡ length s.owner.packets
  pub lent : length s.lent ≡ length s.owner.loans

abbrev pub CountsHold : Type 0
CountsHold = (c : Inputs) (s : State) → IsOfRun c s → Counts c s

-- ---- open calls

-- the owner machine and the run agree on which open handlers are in a call
pub record CallsAgree : Type 0 where
  pub works : (c : Inputs) (s : State) (x : ℕ) → IsOfRun c s → is_open s x ≡ true → call_at s x ≡ None → at is_at_work s.owner.contexts x ≡ true
  pub calls : (c : Inputs) (s : State) (x : ℕ) (call : Calling) → IsOfRun c s → is_open s x ≡ true → call_at s x ≡ Some call → at is_calling s.owner.contexts x ≡ true

-- ---- levels

-- a context runs at a level exactly where its handler is open; there are sixteen places for levels
pub record LevelsAgree : Type 0 where
  pub sixteen : (c : Inputs) (s : State) → IsOfRun c s → length s.world.levels.contexts ≡ 16
  pub opened : (c : Inputs) (s : State) (x : CtxNo) → IsOfRun c s → is_open s x.0 ≡ true → IsOpen s.world.levels x
  pub closed : (c : Inputs) (s : State) (x : CtxNo) → IsOfRun c s → is_free s x.0 ≡ true → context_of s.world.levels x ≡ None

-- ---- adapters

-- an adapter that is there, and not stopped, is one of those that were given; and so is that of an open handler
pub record AdaptersAreGiven : Type 0 where
  pub standing : (c : Inputs) (s : State) (a : ℕ) → IsOfRun c s → stands s.owner a ≡ true → a < length c.adapters
  pub inside : (c : Inputs) (s : State) (x : ℕ) (a : AdapterNo) → IsOfRun c s → adapter_of s x ≡ Some a → a.0 < length c.adapters

-- ---- what steps find

-- a context that goes on: its handler is open and in no call, and it runs at a level
pub record IsReady (s : State) (x : CtxNo) : Type 0 where
  pub number : x.0 < 16
  pub works : at is_at_work s.owner.contexts x.0 ≡ true
  pub opened : IsOpen s.world.levels x

-- a context that is entered: it has no level, and its adapter is one of those that were given
pub record MayHold (c : Inputs) (s : State) (a : Option AdapterNo) (x : CtxNo) : Type 0 where
  pub number : x.0 < 16
  pub closed : context_of s.world.levels x ≡ None
  pub inside : (n : AdapterNo) → a ≡ Some n → n.0 < length c.adapters

pub record ContextsAreReady : Type 0 where
  pub numbers : (c : Inputs) (s : State) (x : ℕ) → IsOfRun c s → is_open s x ≡ true → x < 16
  pub goes : (c : Inputs) (s : State) (x : CtxNo) → IsOfRun c s → is_going c s x ≡ true → IsReady s x
  pub enters : (c : Inputs) (s : State) (a : Option AdapterNo) (x : CtxNo) (h : Handler) (words : List ℕ) (writes : List Write) → IsOfRun c s
      → Meets c s (entries.Enter a x h words writes) → MayHold c s a x
  -- its handler has sixteen words at most
  pub few : (c : Inputs) (s : State) (a : Option AdapterNo) (x : CtxNo) (h : Handler) (words : List ℕ) (writes : List Write) → IsOfRun c s → Meets c s (entries.Enter a x h words writes) → length words ≤ 16

-- ---- answers

-- what the answer of a call needs (crates/guest_calls); there are four adapters at most
pub record CallsCanBeAnswered : Type 0 where
  -- a context whose reply is due is open
  pub due : (c : Inputs) (s : State) (x : CtxNo) → IsOfRun c s → must s ≡ Some (ReplyOf x) → is_open s x.0 ≡ true
  -- no frame that a card sent waits to be taken, and each adapter that was given has its part of the world
  pub idle : (c : Inputs) (s : State) → IsOfRun c s → IsIdle s.world
  pub parts : (c : Inputs) (s : State) (a : ℕ) → length c.adapters ≤ 4 → IsOfRun c s → a < length c.adapters → IsSome (part_of s a)
  -- a call of an open context can be answered, and so can one of a context that goes on, while the clock has room for the longest time that a call names
  pub can : (c : Inputs) (s : State) (x : CtxNo) → IsOfRun c s → is_open s x.0 ≡ true → clock s + longest_time < 2 ^ 64 → CanAnswer s.world (caller s x)
  pub goes : (c : Inputs) (s : State) (x : CtxNo) → IsOfRun c s → is_going c s x ≡ true → clock s + longest_time < 2 ^ 64 → CanAnswer s.world (caller s x)
  -- its adapter is one of four, and is there
  pub number : (c : Inputs) (s : State) (x : CtxNo) → length c.adapters ≤ 4 → IsOfRun c s → IsNumber (adapter_of s x.0)
  pub there : (c : Inputs) (s : State) (x : CtxNo) → length c.adapters ≤ 4 → IsOfRun c s → HasAdapter s.world (adapter_of s x.0)

-- ---- budgets

abbrev pub stops_due : Next → List ℕ
stops_due (Stops why ats) = ats
stops_due _ = []

-- a run in which memory never ran out
pub record IsFed (c : Inputs) (s : State) : Type 0 where
  pub is : IsOfRun c s
  pub fed : list_any is_memory_stop is.log ≡ false

pub record SpentAreDue : Type 0 where
  -- it goes on with every entry that is no stop for want of memory
  pub begins : (c : Inputs) → IsFed c (start c)
  pub goes : (c : Inputs) (s : State) (e : Entry) → IsFed c s → is_memory_stop e ≡ false → Meets c s e → IsFed c (after c s e)
  -- an adapter that has spent its budget, and is not stopped, is due to be stopped
  pub due : (c : Inputs) (s : State) (a : ℕ) → 0 < c.budget → IsFed c s → a < length c.adapters → stands s.owner a ≡ true → nat_le c.budget (charges_of s a) ≡ true
      → list_any (λ b. b == a) (stops_due s.next) ≡ true
  -- so where nothing must stand, no context of an adapter has reached its budget
  pub unspent : (c : Inputs) (s : State) (x : CtxNo) (a : AdapterNo) → 0 < c.budget → IsFed c s → must s ≡ None → adapter_of s x.0 ≡ Some a → reaches c s x 0 ≡ false
  -- where there is an adapter, no context has that goes on where nothing must stand: DriverEntry's too, which is charged to every adapter
  pub turns : (c : Inputs) (s : State) (x : CtxNo) → 0 < c.budget → 0 < length c.adapters → IsFed c s → must s ≡ None → is_going c s x ≡ true → reaches c s x 0 ≡ false
  -- nor has one whose call is answered
  pub replies : (c : Inputs) (s : State) (x : CtxNo) (eax : ℕ) (writes : List Write) → 0 < c.budget → 0 < length c.adapters → IsFed c s → Meets c s (entries.Reply x eax writes)
      → reaches c s x 0 ≡ false

-- ---- hang checks

-- the period of an adapter's hang checks is no longer than the longest time that a call names
abbrev pub PeriodsAreShort : Type 0
PeriodsAreShort = (c : Inputs) (s : State) (a : ℕ) → IsOfRun c s → hang_period s a ≤ longest_time

-- ---- expirations

-- no more timers and hang checks have expired than there are entries
abbrev pub ExpirationsAreFew : Type 0
ExpirationsAreFew = (c : Inputs) (s : State) (log : List Entry) → Reaches c log s → s.expired ≤ length log
