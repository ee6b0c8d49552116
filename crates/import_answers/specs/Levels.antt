-- Imports 4, 5 and 33 to 38: levels and spin locks. (Windows DDK, wdm.h: KfRaiseIrql, KfLowerIrql; ndis.h: NdisAllocateSpinLock, NdisFreeSpinLock,
-- NdisAcquireSpinLock, NdisReleaseSpinLock and the forms at DPC level.)
use Rattle.std.specs.Prelude.{ℕ, ◌%◌, Bool, List, Option, None, Some, Result, Ok, Err}
use Rattle.nd_base.specs.declared.numbers.Addr.{Addr}
use Rattle.nd_base.specs.declared.numbers.Breach.{Breach}
use Rattle.nd_base.specs.declared.numbers.CtxNo.{CtxNo}
use Rattle.nd_mem.specs.Space.{address}
use Rattle.irql_lock.specs.LockState.{LockState, level_of, holder_of}
use Rattle.irql_lock.specs.LockMoves.{Raise, Lower, Acquire, Release, Make, Free, moved}
use Rattle.guest_world.specs.declared.world.World.{World}
use Rattle.guest_world.specs.declared.answer.Caller.{Caller}
use Rattle.import_answers.specs.World.{word}
use Rattle.import_answers.specs.Outcomes.{Outcome, Breaks, Spins, returns}

abbrev pub with_levels : World → LockState → World
with_levels w levels = record w { levels = levels }

-- a move of the levels and locks, and what the call returns
abbrev pub after_move : World → ℕ → Result LockState Breach → Outcome
after_move w eax (Ok levels) = returns (with_levels w levels) eax
after_move w eax (Err broken) = Breaks broken.0

-- the level is in CL
abbrev pub level_in : List ℕ → ℕ
level_in words = word words 1 % 256

-- ---- KfRaiseIrql(level) gives the old level; KfLowerIrql(level)
abbrev pub raise : World → Caller → List ℕ → Outcome
raise w x words = after_move w (level_of w.levels x.context) (moved w.levels (Raise x.context (level_in words)))

abbrev pub lower : World → Caller → List ℕ → Outcome
lower w x words = after_move w 0 (moved w.levels (Lower x.context (level_in words)))

-- ---- NdisAllocateSpinLock(lock), NdisFreeSpinLock(lock)
abbrev pub lock_in : List ℕ → Addr
lock_in words = address (word words 1)

abbrev pub allocate_lock : World → List ℕ → Outcome
allocate_lock w words = after_move w 0 (moved w.levels (Make (lock_in words)))

abbrev pub free_lock : World → List ℕ → Outcome
free_lock w words = after_move w 0 (moved w.levels (Free (lock_in words)))

-- ---- NdisAcquireSpinLock(lock), NdisDprAcquireSpinLock(lock): where another context holds it, the caller spins

abbrev pub got_or_spins : World → Option CtxNo → Result LockState Breach → Outcome
got_or_spins w holder (Err broken) = Breaks broken.0
got_or_spins w None (Ok levels) = returns (with_levels w levels) 0
got_or_spins w (Some holder) (Ok levels) = Spins holder (with_levels w levels)

abbrev pub acquire : World → Caller → List ℕ → Bool → Outcome
acquire w x words dpr = got_or_spins w (holder_of w.levels (lock_in words)) (moved w.levels (Acquire x.context (lock_in words) dpr))

-- ---- NdisReleaseSpinLock(lock), NdisDprReleaseSpinLock(lock)
abbrev pub release : World → Caller → List ℕ → Bool → Outcome
release w x words dpr = after_move w 0 (moved w.levels (Release x.context (lock_in words) dpr))
