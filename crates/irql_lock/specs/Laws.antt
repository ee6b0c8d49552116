-- Laws of levels and locks. Each record is the contract of a function of src/machine_laws.rt that does nothing.
use Rattle.std.specs.Prelude.{◌≡◌, ◌≢◌, max, Bool, true, false, ◌&&◌, ◌==◌, not, length, Option, None, Some, IsSome, is_some, Ok}
use Rattle.nd_base.specs.declared.numbers.Addr.{Addr}
use Rattle.nd_base.specs.declared.numbers.CtxNo.{CtxNo}
use Rattle.irql_lock.specs.declared.states.Holding.{Holding}
use Rattle.irql_lock.specs.LockState.{LockState, contexts, nothing, context_of, IsOpen, level_of, spins_on, lock_at, holder_of}
use Rattle.irql_lock.specs.LockMoves.{LockMove, Begin, Leave, End, Raise, Lower, Acquire, Release, moved, CanMove, dispatch_level}

-- the states that moves lead to from the start, each of which was made as it may be
pub data Reached : LockState → Type 0 where
  Start : Reached nothing
  Then : (s s' : LockState) (m : LockMove) → Reached s → CanMove s m → moved s m ≡ Ok s' → Reached s'

abbrev pub Holds : LockState → CtxNo → Addr → Type 0
Holds s c lock = holder_of s lock ≡ Some c

-- the context that makes a move, if one does
abbrev pub mover : LockMove → Option CtxNo
mover (Begin c level) = Some c
mover (Leave c) = Some c
mover (End c) = Some c
mover (Raise c to) = Some c
mover (Lower c to) = Some c
mover (Acquire c lock dpr) = Some c
mover (Release c lock dpr) = Some c
mover _ = None

-- whether a move leaves the lock with the context that holds it
abbrev pub leaves_lock : LockMove → CtxNo → Addr → Bool
leaves_lock (Release c other dpr) holder lock = not (c.0 == holder.0 && other.0 == lock.0)
leaves_lock (End c) holder lock = not (c.0 == holder.0)
leaves_lock _ holder lock = true

-- holders and spinners
pub record LockLaws : Type 0 where
  -- a lock has one holder at most
  pub one : (s : LockState) (c d : CtxNo) (lock : Addr) → Holds s c lock → Holds s d lock → c ≡ d
  -- in each state that is reached the holder is open
  pub open_holder : (s : LockState) (c : CtxNo) (lock : Addr) → Reached s → Holds s c lock → IsOpen s c
  -- a context that spins on a lock does not hold it, and the lock is there
  pub spinner : (s : LockState) (c : CtxNo) (lock : Addr) → Reached s → spins_on s c lock ≡ true → Holds s c lock → ⊥
  pub spun : (s : LockState) (c : CtxNo) (lock : Addr) → Reached s → spins_on s c lock ≡ true → IsSome (lock_at s lock)
  pub room : (s : LockState) → Reached s → length s.contexts ≡ contexts
  -- a held lock keeps its holding until its holder releases it or ends
  pub kept : (s s' : LockState) (m : LockMove) (lock : Addr) (h : Holding) → moved s m ≡ Ok s' → lock_at s lock ≡ Some (Some h) → leaves_lock m h.context lock ≡ true → lock_at s' lock ≡ Some (Some h)

-- the end of a context
pub record EndLaws : Type 0 where
  -- what it held is released
  pub lets_go : (s s' : LockState) (c : CtxNo) (lock : Addr) → IsOpen s c → moved s (End c) ≡ Ok s' → Holds s' c lock → ⊥
  -- other holders keep their locks, and no lock goes or comes
  pub others : (s s' : LockState) (c d : CtxNo) (lock : Addr) → moved s (End c) ≡ Ok s' → d.0 ≢ c.0 → Holds s d lock → Holds s' d lock
  pub locks : (s s' : LockState) (c : CtxNo) (lock : Addr) → moved s (End c) ≡ Ok s' → is_some (lock_at s' lock) ≡ is_some (lock_at s lock)
  -- it is no more open
  pub closed : (s s' : LockState) (c : CtxNo) → moved s (End c) ≡ Ok s' → context_of s' c ≡ None

-- levels
pub record LevelLaws : Type 0 where
  -- who gets a lock is raised to DISPATCH_LEVEL, and by the form at DPC level is not
  pub raised : (s s' : LockState) (c : CtxNo) (lock : Addr) → IsOpen s c → holder_of s lock ≡ None → moved s (Acquire c lock false) ≡ Ok s' → level_of s' c ≡ max (level_of s c) dispatch_level
  pub left : (s s' : LockState) (c : CtxNo) (lock : Addr) → IsOpen s c → holder_of s lock ≡ None → moved s (Acquire c lock true) ≡ Ok s' → level_of s' c ≡ level_of s c
  -- a release puts back the level from before the acquire, by whichever form, whatever came between while the lock was held
  pub put_back : (s s' t t' : LockState) (c : CtxNo) (lock : Addr) (dpr : Bool) → IsOpen s c → holder_of s lock ≡ None → moved s (Acquire c lock dpr) ≡ Ok s' → IsOpen t c → lock_at t lock ≡ lock_at s' lock → moved t (Release c lock false) ≡ Ok t' → level_of t' c ≡ level_of s c
  pub left_at_release : (s s' : LockState) (c : CtxNo) (lock : Addr) → IsOpen s c → moved s (Release c lock true) ≡ Ok s' → level_of s' c ≡ level_of s c
  -- no move changes what another context is at
  pub others : (s s' : LockState) (m : LockMove) (d : CtxNo) → moved s m ≡ Ok s' → mover m ≢ Some d → context_of s' d ≡ context_of s d
