-- An open call of DriverEntry, and what may be made of it: its reply, or a sleep up to a moment.
use Rattle.std.specs.Prelude.{◌≡◌, ◌+◌, ◌≤◌, ◌*◌, ◌^◌, ℕ, List, None, Result, Ok, Err}
use Rattle.std.specs.FinMap as table
use Rattle.nd_base.specs.declared.OutOfMemory.{OutOfMemory}
use Rattle.nd_mem.specs.Space.{first_fault, Reading}
use Rattle.ia32_step.specs.Registers.{general_of, ESP}
use Rattle.call_log.specs.declared.entry.Entry.TheVariants as entries
use Rattle.guest_world.specs.declared.answer.Reply.{Reply}
use Rattle.legal_run.specs.Run.{Reaches, Meets}
use Rattle.legal_run.specs.After.{after}
use Rattle.entry_run.specs.Alone.{Kept, shown}
use Rattle.entry_run.specs.Laws.{Going, first, behind_reply, sleeping, row_outcome}
use Rattle.entry_calls.specs.Laws.{IsCost}
use Rattle.entry_session.specs.declared.session.Session.{Session}
use Rattle.entry_session.specs.Session.{Setting, inputs, going_of, HasBudget, HasBrokenOff, Adds, IsAlone, IsInTime}

-- what stands before a call
pub record Before : Type 0 where
  pub setting : Setting
  pub going : Going

-- what stood before the call, its import, and what is kept while it is open
pub record Asked : Type 0 where
  pub setting : Setting
  pub going : Going
  pub import : ℕ
  pub kept : Kept

-- the log leaves the open call; the reply may stand next, and what is kept behind it is what is kept now, with the reply's writes and its cost
pub record MayReply (o : Asked) (s : Session) (reply : Reply) : Type 0 where
  pub reached : Reaches (inputs o.setting) s.log.entries (shown o.kept)
  pub meets : Meets (inputs o.setting) (shown o.kept) (entries.Reply first reply.eax reply.writes)
  pub leaves : after (inputs o.setting) (shown o.kept) (entries.Reply first reply.eax reply.writes) ≡ shown (behind_reply (inputs o.setting) o.going o.kept o.import reply s.world)
  pub memory : s.world.memory ≡ o.going.world.memory
  pub registers : s.regs ≡ o.going.registers
  pub charged : s.charged ≡ o.going.charged
  pub kept : o.kept.charged ≡ o.going.charged
  pub returns : first_fault Reading (table.get s.world.memory) (general_of s.regs ESP) 4 ≡ None
  pub cost : IsCost reply.cost
  pub time : s.world.clock.clock ≤ s.charged * 2 ^ 33 + 2 ^ 32
  pub budget : HasBudget o.setting s
  pub alone : IsAlone s.world

-- a call that sleeps: its import, its words, and the moment at which it wakes
pub record Sleeping : Type 0 where
  pub setting : Setting
  pub import : ℕ
  pub words : List ℕ
  pub wake : ℕ

-- the log leaves the sleeping call, which wakes at a moment that a word of a call can name
pub record MaySleep (o : Sleeping) (s : Session) : Type 0 where
  pub reached : Reaches (inputs o.setting) s.log.entries (shown (sleeping (going_of s) o.import o.words o.wake))
  pub moment : o.wake ≤ s.world.clock.clock + 2 ^ 32
  pub returns : first_fault Reading (table.get s.world.memory) (general_of s.regs ESP) 4 ≡ None
  pub time : IsInTime s.world.clock.clock s.charged
  pub budget : HasBudget o.setting s
  pub alone : IsAlone s.world

-- its moment has come, and nothing else has changed but the clock
pub record IsAwake (o : Sleeping) (before s : Session) : Type 0 where
  pub reached : Reaches (inputs o.setting) s.log.entries (shown (sleeping (going_of s) o.import o.words o.wake))
  pub come : o.wake ≤ s.world.clock.clock
  pub returns : first_fault Reading (table.get s.world.memory) (general_of s.regs ESP) 4 ≡ None
  pub time : s.world.clock.clock ≤ s.charged * 2 ^ 33 + 2 ^ 32
  pub budget : HasBudget o.setting s
  pub alone : IsAlone s.world
  pub charged : s.charged ≡ before.charged
  pub added : Adds before.log.entries s.log.entries

abbrev pub Waits : Sleeping → Session → Session → Result (Unit {0}) OutOfMemory → Type 0
Waits o before after (Ok _) = IsAwake o before after
Waits o before after (Err e) = HasBrokenOff o.setting before after
