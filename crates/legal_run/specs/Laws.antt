-- Laws of runs. Each record is the contract of a function of src/laws.rt that does nothing.
use Rattle.std.specs.Prelude.{◌≡◌, ◌↔◌, ℕ, ◌+◌, ◌≤◌, ◌<◌, Bool, true, false, List, [], ◌∷◌, ◌++◌, length, Some, None, Ok, Option, ⊤, slice_index_or}
use Rattle.call_log.specs.declared.entry.Entry.{Entry}
use Rattle.call_log.specs.declared.entry.Entry.TheVariants as entries
use Rattle.owner_machine.specs.Legal as owners
use Rattle.owner_machine.specs.Legal.{Legal}
use Rattle.owner_machine.specs.Machine.{rule_against}
use Rattle.nd_base.specs.declared.numbers.CtxNo.{CtxNo}
use Rattle.irql_lock.specs.LockState.{IsOpen}
use Rattle.import_table.specs.Table.{Row}
use Rattle.guest_world.specs.declared.adapters.Adapter.{Adapter}
use Rattle.guest_world.specs.declared.answer.Answer.{Answer}
use Rattle.guest_world.specs.declared.answer.Caller.{Caller}
use Rattle.import_answers.specs.Answers.{outcome}
use Rattle.guest_world.specs.declared.answer.Answer.TheVariants.{Now}
use Rattle.guest_world.specs.declared.answer.Reply.{Reply}
use Rattle.guest_world.specs.declared.world.World.{World}
use Rattle.import_answers.specs.Outcomes.{Comes}
use Rattle.legal_run.specs.State.{Inputs, State, Wait, Nothing, OnLock, Calling, clock, call_at}
use Rattle.legal_run.specs.Calls.{outcome_of}
use Rattle.legal_run.specs.Replies.{answered}
use Rattle.legal_run.specs.Must.{Due, must, Serves}
use Rattle.legal_run.specs.After.{after, charges_of}
use Rattle.legal_run.specs.Run.{Meets, Run, Reaches, now, now_from, costs, clock_behind}

-- the kinds that may stand where something must
abbrev pub is_piecemeal : Entry → Bool
is_piecemeal (entries.Bind _ _) = false
is_piecemeal (entries.Unbind _) = false
is_piecemeal (entries.Done _) = false
is_piecemeal (entries.Quiet _) = false
is_piecemeal (entries.Await _ _) = false
is_piecemeal (entries.Send _ _ _) = false
is_piecemeal (entries.Cancel _ _) = false
is_piecemeal (entries.Event _ _ _ _) = false
is_piecemeal (entries.Ask _ _ _) = false
is_piecemeal (entries.Return _ _) = false
is_piecemeal (entries.Turn _ _) = false
is_piecemeal (entries.Call _ _ _) = false
is_piecemeal (entries.Leave _ _) = false
is_piecemeal (entries.Fault _ _ _) = false
is_piecemeal (entries.WireIn _) = false
is_piecemeal (entries.Time _) = false
is_piecemeal _ = true

-- how a run goes on
pub record RunLaws : Type 0 where
  -- every front of a run is a run
  pub front : (c : Inputs) (log more : List Entry) → Run c (log ++ more) → Run c log
  -- a log with one more entry is a run exactly where the log is one, and the entry meets what it needs in the state that the log leaves
  pub more : (c : Inputs) (log : List Entry) (e : Entry) → Run c (log ++ e ∷ []) ↔ (Run c log × Meets c (now c log) e)
  -- and leaves what the entry does to that state
  pub next : (c : Inputs) (log : List Entry) (e : Entry) → now c (log ++ e ∷ []) ≡ after c (now c log) e
  -- a log leaves one state
  pub one : (c : Inputs) (log : List Entry) (s t : State) → Reaches c log s → Reaches c log t → s ≡ t
  -- what serves what must stand next may stand next, where the owner machine has a case for it
  pub due : (c : Inputs) (s : State) (d : Due) (e : Entry) → must s ≡ Some d → Serves c s d e → rule_against s.owner e ≡ None → Meets c s e

-- the clock is the last `time` and all charges since
pub record ClockLaws : Type 0 where
  pub sum : (c : Inputs) (s : State) (e : Entry) → clock (after c s e) ≡ clock_behind s e
  -- it does not fall
  pub rises : (c : Inputs) (log more : List Entry) → Run c (log ++ more) → clock (now c log) ≤ clock (now c (log ++ more))

-- where something must stand no command stands, no turn, call, leave or fault, no frame and no jump of the clock
abbrev pub NothingStandsBetween : Type 0
NothingStandsBetween = (c : Inputs) (log : List Entry) (d : Due) (e : Entry) → Run c (log ++ e ∷ []) → must (now c log) ≡ Some d → is_piecemeal e ≡ true

-- what an adapter is charged is the sum of its turns and replies and of those of DriverEntry
abbrev pub ChargesAreSums : Type 0
ChargesAreSums = (c : Inputs) (s : State) (log : List Entry) (a : ℕ) → a < length s.charges → charges_of (now_from c s log) a ≡ charges_of s a + costs c s a log

-- the owner machine takes each run, so that its laws hold of it: packets, loans and requests end once, handlers do not overlap, nothing is outstanding at a
-- halt, and behind a stop stands nothing of its adapter
abbrev pub RunsAreLegal : Type 0
RunsAreLegal = (c : Inputs) (log : List Entry) → Run c log → Legal (owners.start (length c.adapters) c.drivers) log (now c log).owner

-- ---- replies

-- a call is answered by its import's row, at once or once its lock is free
abbrev pub is_by_row : Wait → Bool
is_by_row Nothing = true
is_by_row (OnLock lock) = true
is_by_row _ = false

-- What an import's row answers at once is a reply that the run takes, with the world that the row leaves: whichever address of the guest pool was picked,
-- the reply names it, and no other one.
abbrev pub RepliesAreTaken : Type 0
RepliesAreTaken =
    (s : State) (x : CtxNo) (call : Calling) (reply : Reply) (w : World) → call_at s x.0 ≡ Some call → is_by_row call.wait ≡ true
    → Comes (outcome_of s x call.import call.words) s.world (Ok (Now reply)) w
    → answered s x (record { eax = reply.eax; writes = reply.writes ++ call.writes }) ≡ Some (reply, w)

-- ---- what a call keeps

-- what the machine has for an adapter stays, and no frame waits in its card where none did
abbrev pub KeepsPart : Option Adapter → Option Adapter → Type 0
KeepsPart None None = ⊤
KeepsPart (Some before) (Some after) = (after.hardware ≡ before.hardware) × (after.params ≡ before.params) × (before.card.sent ≡ None → after.card.sent ≡ None)
KeepsPart _ _ = ⊥

-- the world behind an import's answer, but for its writes and its charge: the clock's moment, memory and layout are as they were; a context that is open
-- stays open; the adapters are the same
pub record CallKeeps (before after : World) : Type 0 where
  pub moment : after.clock.clock ≡ before.clock.clock
  pub memory : after.memory ≡ before.memory
  pub layout : after.layout ≡ before.layout
  pub opened : (y : CtxNo) → IsOpen before.levels y → IsOpen after.levels y
  pub parts : (a : ℕ) → KeepsPart (slice_index_or before.adapters a None) (slice_index_or after.adapters a None)

-- whatever an import answers where no rule is broken
abbrev pub CallsKeep : Type 0
CallsKeep =
    (w v : World) (x : Caller) (row : Row) (words : List ℕ) (answer : Answer) → Comes (outcome w x row words) w (Ok answer) v → CallKeeps w v
