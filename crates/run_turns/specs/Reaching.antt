-- What a turn comes to. (Which turns there are: crates/legal_run/specs/Run.antt; the project's own: docs/LEGAL-RUN.md.)
use Rattle.std.specs.Prelude.{◌≡◌, ◌⊎◌, ◌==◌, ℕ, Bool, true, false, [], ◌∷◌}
use Rattle.nd_base.specs.declared.numbers.CtxNo.{CtxNo}
use Rattle.call_log.specs.declared.entry.Entry.{Entry}
use Rattle.call_log.specs.declared.entry.Entry.TheVariants as entries
use Rattle.legal_run.specs.State.{Inputs}
use Rattle.legal_run.specs.After.{machine_of}
use Rattle.legal_run.specs.Run.{is_at_import, is_at_leave, is_going}
use Rattle.ia32_step.specs.Machine.{outcome}
use Rattle.run_moves.specs.declared.running.Running.{Running}
use Rattle.run_stops.specs.Standing.{IsSettled, Lengthens, SettlesBy, state_of}
use Rattle.run_turns.specs.declared.turns.Reached.{Reached}
use Rattle.run_turns.specs.declared.turns.Reached.TheVariants.{Done, Import, Leave}

-- what a context does
abbrev pub is_of : CtxNo → Entry → Bool
is_of x (entries.Turn y n) = y.0 == x.0
is_of x (entries.Call y import words) = y.0 == x.0
is_of x (entries.Reply y eax writes) = y.0 == x.0
is_of x (entries.Leave y eax) = y.0 == x.0
is_of x (entries.Fault y kind address) = y.0 == x.0
is_of x _ = false

-- nothing must stand, and the context goes on, behind one turn of it or none
pub record GoesOn (c : Inputs) (x : CtxNo) (before r : Running) : Type 0 where
  pub settled : IsSettled c r
  pub longer : Lengthens before r
  pub turns : (longer.more ≡ []) ⊎ ((n : ℕ) × (longer.more ≡ entries.Turn x n ∷ []))
  pub going : is_going c (state_of c r) x ≡ true

-- the turn has its end, with the stops that it brings, and the first entry is the context's; or the context is at the slot of an import, or at the leave slot
abbrev pub ReachesTo : Inputs → CtxNo → Running → Running → Reached → Type 0
ReachesTo c x before r Done = (e : Entry) × (is_of x e ≡ true) × SettlesBy c e before r
ReachesTo c x before r (Import n) = GoesOn c x before r × (is_at_import (outcome (machine_of (state_of c r) x)) n ≡ true)
ReachesTo c x before r Leave = GoesOn c x before r × (is_at_leave (outcome (machine_of (state_of c r) x)) ≡ true)
