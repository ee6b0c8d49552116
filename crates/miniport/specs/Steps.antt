-- What each step of a context needs and comes to.
use Rattle.std.specs.Prelude.{◌≡◌, ◌≢◌, ◌≤◌, ◌<◌, ◌⊎◌, ℕ, true, false, List, Option, None, Some, slice_index_or, slice_set}
use Rattle.nd_base.specs.declared.numbers.CtxNo.{CtxNo}
use Rattle.nd_mem.specs.Space.{Space}
use Rattle.ia32_step.specs.Machine.{machine, outcome, answer_to}
use Rattle.ia32_step.specs.declared.Stepped.{Stepped}
use Rattle.ia32_step.specs.declared.Stepped.TheVariants.{Went}
use Rattle.call_log.specs.declared.entry.Entry.{Entry}
use Rattle.call_log.specs.declared.entry.Entry.TheVariants as entries
use Rattle.call_log.specs.Logs.{State as LogState}
use Rattle.guest_world.specs.declared.world.World.{World}
use Rattle.owner_machine.specs.State.{Owner, at}
use Rattle.owner_machine.specs.Contexts.{is_at_work}
use Rattle.legal_run.specs.State.{Calling, Context, no_context}
use Rattle.legal_run.specs.Calls.{did}
use Rattle.guest_code.specs.declared.turns.Turned.{Turned}
use Rattle.legal_run.specs.Must.{must}
use Rattle.legal_run.specs.Owed.{frame_due}
use Rattle.legal_run.specs.After.{calling, machine_of, reaches, turned as steps}
use Rattle.legal_run.specs.Run.{is_going, is_at_import, call_words, is_moved}
use Rattle.miniport_state.specs.Seen.{Point, IsAt, Logs, behind}
use Rattle.miniport_state.specs.declared.adapters.Adapters.{Adapters}

-- an entry that may stand was written, and what is kept shows the state behind it
pub record IsBehind (o : Point) (e : Entry) (m : Adapters) (book : Owner) (w : World) (before log : LogState) : Type 0 where
  pub logs : Logs o e before log
  pub shown : IsAt (behind o e) m book w

-- an entry that may stand was written, into the book too
pub record IsWritten (o : Point) (e : Entry) (book : Owner) (before log : LogState) : Type 0 where
  pub logs : Logs o e before log
  pub owner : book ≡ (behind o e).state.owner

-- nothing must stand, and the context goes on
pub record Goes (o : Point) (x : CtxNo) : Type 0 where
  pub number : x.0 < 16
  pub free : must o.state ≡ None
  pub going : is_going o.inputs o.state x ≡ true
  -- the book knows it too: its handler is open, and in no call
  pub works : at is_at_work o.state.owner.contexts x.0 ≡ true

-- ---- instructions in a row: each has a result, and the step behind them answers this, where it is known

pub record Makes (x : Context) (memory : Space) (y : Context) (after : Space) (most : ℕ) (turned : Turned) : Type 0 where
  pub count : turned.count ≤ most
  pub moves : (k : ℕ) → k < turned.count → is_moved (outcome (steps k (machine x.registers memory))) ≡ true
  pub state : machine y.registers after ≡ steps turned.count (machine x.registers memory)
  pub others : y ≡ record x { registers = y.registers }
  pub whole : turned.last ≡ Went → turned.count ≡ most
  pub ending : turned.last ≢ Went → answer_to (outcome (machine y.registers after)) ≡ turned.last

-- the context of a number does so, and no other one
pub record MakesIn (x : ℕ) (m : Adapters) (memory : Space) (after : Adapters) (left : Space) (most : ℕ) (turned : Turned) : Type 0 where
  pub context : Context
  pub makes : Makes (slice_index_or m.contexts x no_context) memory context left most turned
  pub contexts : after ≡ record m { contexts = slice_set m.contexts x context }

-- ---- turns

-- no frame is due, and the budget is not reached
pub record MayTurn (o : Point) (x : CtxNo) : Type 0 where
  pub goes : Goes o x
  pub frames : frame_due o.inputs o.state ≡ false
  pub unspent : reaches o.inputs o.state x 0 ≡ false

-- what the next step of the context answers, where that is known
abbrev pub IsKnown : Point → CtxNo → Stepped → Type 0
IsKnown o x last = last ≢ Went → answer_to (outcome (machine_of o.state x)) ≡ last

-- the next instruction has no result: no turn was made
pub record IsStill (o : Point) (x : CtxNo) (m : Adapters) (book : Owner) (w : World) (before log : LogState) (last : Stepped) : Type 0 where
  pub shown : IsAt o m book w
  pub silent : log ≡ before
  pub ends : last ≢ Went
  pub next : IsKnown o x last

-- a turn of n was made, and the budget is not reached
pub record GoesOn (o : Point) (x : CtxNo) (n : ℕ) (m : Adapters) (book : Owner) (w : World) (before log : LogState) (last : Stepped) : Type 0 where
  pub step : IsBehind o (entries.Turn x n) m book w before log
  pub unspent : reaches o.inputs o.state x n ≡ false
  pub next : IsKnown (behind o (entries.Turn x n)) x last

-- a turn of n was made, which reaches the budget
pub record IsSpent (o : Point) (x : CtxNo) (n : ℕ) (m : Adapters) (book : Owner) (w : World) (before log : LogState) : Type 0 where
  pub step : IsBehind o (entries.Turn x n) m book w before log
  pub spent : reaches o.inputs o.state x n ≡ true

abbrev pub Turns : Point → CtxNo → Adapters → Owner → World → LogState → LogState → Option Stepped → Type 0
Turns o x m book w before log None = (n : ℕ) × IsSpent o x n m book w before log
Turns o x m book w before log (Some last) = IsStill o x m book w before log last ⊎ ((n : ℕ) × GoesOn o x n m book w before log last)

-- ---- calls

-- the context is at the slot of the import, with these words; and what is kept open is what the call does
pub record MayCall (o : Point) (x : CtxNo) (call : Calling) (words : List ℕ) : Type 0 where
  pub goes : Goes o x
  pub number : (1 ≤ call.import) × (call.import ≤ 64)
  pub slot : is_at_import (outcome (machine_of o.state x)) call.import ≡ true
  pub said : words ≡ call_words o.state x call.import
  pub kept : call ≡ calling call.import words (did o.state x call.import words)
