-- What is done to levels and locks: a machine on plain values, whose moves lead to a state or break a rule. (KeRaiseIrql, KeLowerIrql,
-- KeAcquireSpinLock, KeReleaseSpinLock and the forms at DPC level of the Windows DDK. What breaks a rule is the project's own.)
use Rattle.std.specs.Prelude.{◌≡◌, ◌<◌, ℕ, max, Bool, true, false, ◌&&◌, ◌==◌, not, nat_le, if◌then◌else◌, ⊤, slice_set, Option, None, Some, is_some, is_ok, Result, Ok, Err}
use Rattle.std.specs.Option.{option_map}
use Rattle.std.specs.FinMap as table
use Rattle.nd_base.specs.declared.numbers.Addr.{Addr}
use Rattle.nd_base.specs.declared.numbers.Breach.{Breach}
use Rattle.nd_base.specs.declared.numbers.CtxNo.{CtxNo}
use Rattle.irql_lock.specs.declared.states.Context.{Context}
use Rattle.irql_lock.specs.declared.states.Holding.{Holding}
use Rattle.irql_lock.specs.declared.answers.LockRefusal.{LockRefusal}
use Rattle.irql_lock.specs.declared.answers.LockRefusal.TheVariants.{OutOfMemory, Broken}
use Rattle.irql_lock.specs.declared.answers.Took.{Took}
use Rattle.irql_lock.specs.declared.answers.Took.TheVariants.{Got, Spin}
use Rattle.irql_lock.specs.LockState.{LockState, contexts, context_of, IsOpen, level_of, lock_at, is_busy, holds_any, let_go_all}

-- Begin opens a context at a level; Leave is the end of its handler, and End takes it away with its holds. Acquire and Release say whether they
-- are the forms for code at DPC level.
pub data LockMove : Type 0 where
  Begin : CtxNo → ℕ → LockMove
  Leave : CtxNo → LockMove
  End : CtxNo → LockMove
  Raise : CtxNo → ℕ → LockMove
  Lower : CtxNo → ℕ → LockMove
  Acquire : CtxNo → Addr → Bool → LockMove
  Release : CtxNo → Addr → Bool → LockMove
  Make : Addr → LockMove
  Free : Addr → LockMove

-- ---- the rules, by their numbers

abbrev pub rule : ℕ → Breach
rule number = record { 0 = number }

-- a call at a level outside its range, a raise that goes down, a lower that goes up
abbrev pub level_rule : Breach
level_rule = rule 5

-- a lock that is acquired by its holder, released by a context that does not hold it, made or freed while it is held or spun on, or used while
-- it is not there
abbrev pub lock_rule : Breach
lock_rule = rule 6

-- a handler that leaves with a lock held or at another level than it began at
abbrev pub leave_rule : Breach
leave_rule = rule 7

abbrev pub allow : {A : Type 0} → Bool → Breach → A → Result A Breach
allow true broken x = Ok x
allow false broken x = Err broken

-- ---- what each move does

-- DISPATCH_LEVEL of the DDK
abbrev pub dispatch_level : ℕ
dispatch_level = 2

abbrev pub with_context : LockState → CtxNo → (Context → Context) → LockState
with_context s c change = record s { contexts = slice_set s.contexts c.0 (option_map change (context_of s c)) }

abbrev pub opened : LockState → CtxNo → ℕ → LockState
opened s c level = record s { contexts = slice_set s.contexts c.0 (Some (record { began = level; level = level; spins = None })) }

abbrev pub closed : LockState → CtxNo → LockState
closed s c = record s { contexts = slice_set s.contexts c.0 None }

abbrev pub has_come_back : Option Context → Bool
has_come_back None = true
has_come_back (Some x) = x.level == x.began

abbrev pub ended : LockState → CtxNo → Option Context → LockState
ended s c None = s
ended s c (Some x) = record s { contexts = slice_set s.contexts c.0 None; locks = let_go_all s.locks c }

abbrev pub at_level : LockState → CtxNo → ℕ → LockState
at_level s c level = with_context s c (λ x. record x { level = level })

-- the forms at DPC level leave the level
abbrev pub raised_for_lock : Bool → ℕ → ℕ
raised_for_lock dpr level = if dpr then level else max level dispatch_level

abbrev pub got : LockState → CtxNo → Addr → Bool → LockState
got s c lock dpr =
    record (with_context s c (λ x. record x { level = raised_for_lock dpr x.level; spins = None })) {
      locks = table.insert s.locks lock.0 (Some (record { context = c; before = level_of s c }));
    }

abbrev pub spinning : LockState → CtxNo → Addr → LockState
spinning s c lock = with_context s c (λ x. record x { spins = Some lock })

-- by what is at the lock's address
abbrev pub acquired : LockState → CtxNo → Addr → Bool → Option (Option Holding) → Result LockState Breach
acquired s c lock dpr None = Err lock_rule
acquired s c lock dpr (Some None) = Ok (got s c lock dpr)
acquired s c lock dpr (Some (Some h)) = allow (not (h.context.0 == c.0)) lock_rule (spinning s c lock)

-- the level that the holder was at before it acquired the lock, by whichever form, is put back
abbrev pub put_back : LockState → CtxNo → Addr → Bool → ℕ → LockState
put_back s c lock dpr before =
    record (with_context s c (λ x. record x { level = if dpr then x.level else before })) { locks = table.insert s.locks lock.0 None }

abbrev pub released : LockState → CtxNo → Addr → Bool → Option (Option Holding) → Result LockState Breach
released s c lock dpr (Some (Some h)) = allow (h.context.0 == c.0) lock_rule (put_back s c lock dpr h.before)
released s c lock dpr _ = Err lock_rule

-- the state that a move leads to, or the rule that it breaks
abbrev pub moved : LockState → LockMove → Result LockState Breach
moved s (Begin c level) = Ok (opened s c level)
moved s (Leave c) = allow (has_come_back (context_of s c) && not (holds_any s.locks c)) leave_rule (closed s c)
moved s (End c) = Ok (ended s c (context_of s c))
moved s (Raise c to) = allow (nat_le (level_of s c) to) level_rule (at_level s c to)
moved s (Lower c to) = allow (nat_le to (level_of s c)) level_rule (at_level s c to)
moved s (Acquire c lock dpr) = acquired s c lock dpr (lock_at s lock)
moved s (Release c lock dpr) = released s c lock dpr (lock_at s lock)
moved s (Make lock) = allow (not (is_busy s lock)) lock_rule (record s { locks = table.insert s.locks lock.0 None })
moved s (Free lock) = allow (is_some (lock_at s lock) && not (is_busy s lock)) lock_rule (record s { locks = table.remove s.locks lock.0 })

-- what a move needs: a context begins where it is not open, and whatever else it does it is open, but for its end
abbrev pub CanMove : LockState → LockMove → Type 0
CanMove s (Begin c level) = (c.0 < contexts) × (context_of s c ≡ None)
CanMove s (Leave c) = IsOpen s c
CanMove s (End c) = ⊤
CanMove s (Raise c to) = IsOpen s c
CanMove s (Lower c to) = IsOpen s c
CanMove s (Acquire c lock dpr) = IsOpen s c
CanMove s (Release c lock dpr) = IsOpen s c
CanMove s (Make lock) = ⊤
CanMove s (Free lock) = ⊤

-- ---- what calls answer

-- the call makes the move; or it answers the rule that the move breaks, and changes nothing
abbrev pub Moves : {A : Type 0} → LockState → LockMove → Result A Breach → LockState → Type 0
Moves s m (Ok _) s' = moved s m ≡ Ok s'
Moves s m (Err broken) s' = (moved s m ≡ Err broken) × (s' ≡ s)

-- likewise, where the move may want memory
abbrev pub Makes : LockState → LockMove → Result (Unit {0}) LockRefusal → LockState → Type 0
Makes s m (Ok _) s' = moved s m ≡ Ok s'
Makes s m (Err (Broken broken)) s' = (moved s m ≡ Err broken) × (s' ≡ s)
Makes s m (Err OutOfMemory) s' = (is_ok (moved s m) ≡ true) × (s' ≡ s)

-- what an acquire tells, where it breaks no rule: by the lock's holder before it
abbrev pub took : Option CtxNo → Took
took None = Got
took (Some holder) = Spin holder

-- whether a call at this level is in its range
abbrev pub in_range : ℕ → ℕ → ℕ → Result (Unit {0}) Breach
in_range level low high = allow (nat_le low level && nat_le level high) level_rule (tt {0})
