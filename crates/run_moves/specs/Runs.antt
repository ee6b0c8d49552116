-- What is kept of a run shows its state, and the log of its entries is a run that leaves that state.
use Rattle.std.specs.Prelude.{◌≡◌, ◌≢◌, ◌⊎◌, ◌+◌, ℕ, suc, Bool, true, false, List, [], ◌∷◌, ◌++◌, Option, Some, None, Result, Ok, Err, slice_index_or}
use Rattle.nd_base.specs.declared.OutOfMemory.{OutOfMemory}
use Rattle.nd_base.specs.declared.numbers.Breach.{Breach}
use Rattle.nd_base.specs.declared.numbers.CtxNo.{CtxNo}
use Rattle.ia32_step.specs.declared.Stepped.{Stepped}
use Rattle.ia32_step.specs.declared.Stepped.TheVariants.{Went}
use Rattle.call_log.specs.declared.entry.Entry.{Entry}
use Rattle.call_log.specs.declared.entry.Entry.TheVariants as entries
use Rattle.log_fields.specs.declared.field_values.Handler.{Handler}
use Rattle.log_fields.specs.declared.field_values.Handler.TheVariants as handler
use Rattle.legal_run.specs.State.{State, handler_of}
use Rattle.legal_run.specs.Calls.{leaves}
use Rattle.legal_run.specs.After.{reaches}
use Rattle.legal_run.specs.Run.{Reaches}
use Rattle.miniport.specs.Steps.{IsKnown}
use Rattle.miniport_state.specs.Seen.{Point, IsAt, Keeps, behind}
use Rattle.handler_entries.specs.declared.enters.Entering.{Entering}
use Rattle.handler_entries.specs.Entries.{entry_of}
use Rattle.handler_leaves.specs.Leaves.{broken, status_of}
use Rattle.run_course.specs.Shown.{Shows}
use Rattle.run_moves.specs.declared.running.Running.{Running}

pub record IsRun (o : Point) (r : Running) : Type 0 where
  pub reaches : Reaches o.inputs r.log.entries o.state
  pub kept : IsAt o r.adapters r.book r.world
  pub shown : Shows o.state r.course

-- one entry more
pub record Grows (o : Point) (e : Entry) (before r : Running) : Type 0 where
  pub run : IsRun (behind o e) r
  pub written : r.log.entries ≡ before.log.entries ++ e ∷ []
  pub spare : r.log.spare + 1 ≡ before.log.spare

-- ---- enters

-- timers and hang checks that expired, behind the enter of a handler
abbrev pub expirations : ℕ → Handler → ℕ
expirations n handler.Timer = suc n
expirations n handler.CheckForHang = suc n
expirations n _ = n

-- the handler was entered; or memory was wanted, and nothing has changed
abbrev pub EntersOr : Point → CtxNo → Entering → Running → Running → Result (Unit {0}) OutOfMemory → Type 0
EntersOr o x e before r (Ok _) = Grows o (entry_of x e) before r
EntersOr o x e before r (Err _) = IsRun o r × (r.log ≡ before.log)

-- ---- loans

-- the descriptor that was lent
abbrev pub lent_at : State → ℕ → ℕ
lent_at s j = slice_index_or s.lent j 0

-- ---- answers, and entries that change the book alone

abbrev pub AnswersOr : Point → Entry → Running → Running → Result (Unit {0}) OutOfMemory → Type 0
AnswersOr o e before r (Ok _) = Grows o e before r
AnswersOr o e before r (Err _) = IsRun o r × (r.log ≡ before.log)

abbrev pub changes_book_alone : Entry → Bool
changes_book_alone (entries.Tag _ _) = true
changes_book_alone (entries.Hand _) = true
changes_book_alone (entries.Requeue _) = true
changes_book_alone (entries.Late _) = true
changes_book_alone (entries.HandAsk _) = true
changes_book_alone (entries.ResetBegin _) = true
changes_book_alone (entries.ResetEnd _ _) = true
changes_book_alone (entries.Port _ _ _ _ _) = true
changes_book_alone (entries.WireOut _ _) = true
changes_book_alone _ = false

-- of these, those that count as something that was done
abbrev pub makes_progress : Entry → Bool
makes_progress (entries.Hand _) = true
makes_progress (entries.WireOut _ _) = true
makes_progress _ = false

abbrev pub progressed : ℕ → Bool → ℕ
progressed n true = 0
progressed n false = n

-- ---- replies

-- the world is the one that the answer of an open call has left; the rest shows the state
pub record IsAnswering (o : Point) (r : Running) : Type 0 where
  pub reaches : Reaches o.inputs r.log.entries o.state
  pub keeps : Keeps o.inputs o.state r.adapters
  pub owner : r.book ≡ o.state.owner
  pub shown : Shows o.state r.course

-- ---- leaves

-- the leave was written; this is the rule that it breaks, or the handler that left with its status
pub record LeavesBy (o : Point) (x : CtxNo) (before r : Running) (rule : Option ℕ) : Type 0 where
  pub grows : Grows o (entries.Leave x (status_of o.state x)) before r
  pub breaks : broken (leaves o.inputs o.state x (status_of o.state x)) ≡ rule

abbrev pub LeavesTo : Point → CtxNo → Running → Running → Result (Handler × ℕ) Breach → Type 0
LeavesTo o x before r (Ok left) = LeavesBy o x before r None × ((left.0 ≡ handler_of o.state x.0) × (left.1 ≡ status_of o.state x))
LeavesTo o x before r (Err rule) = LeavesBy o x before r (Some rule.0)

-- ---- turns

-- no turn was made: the next instruction has no result
pub record StaysAt (o : Point) (x : CtxNo) (before r : Running) (last : Stepped) : Type 0 where
  pub run : IsRun o r
  pub silent : r.log ≡ before.log
  pub ends : last ≢ Went
  pub next : IsKnown o x last

-- a turn of n was made, and the budget is not reached; or it is
pub record GoesTo (o : Point) (x : CtxNo) (n : ℕ) (before r : Running) (last : Stepped) : Type 0 where
  pub grows : Grows o (entries.Turn x n) before r
  pub unspent : reaches o.inputs o.state x n ≡ false
  pub next : IsKnown (behind o (entries.Turn x n)) x last

pub record SpendsAll (o : Point) (x : CtxNo) (n : ℕ) (before r : Running) : Type 0 where
  pub grows : Grows o (entries.Turn x n) before r
  pub spent : reaches o.inputs o.state x n ≡ true

abbrev pub TurnsTo : Point → CtxNo → Running → Running → Option Stepped → Type 0
TurnsTo o x before r None = (n : ℕ) × SpendsAll o x n before r
TurnsTo o x before r (Some last) = StaysAt o x before r last ⊎ ((n : ℕ) × GoesTo o x n before r last)
