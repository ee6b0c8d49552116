-- Levels and locks as plain values. A context runs at an interrupt request level (IRQL). A spin lock is free or held, and a context that can't
-- have it spins. (Windows DDK, "Managing Hardware Priorities", "Introduction to Spin Locks".)
use Rattle.std.specs.Prelude.{ℕ, Bool, false, ◌||◌, ◌==◌, if◌then◌else◌, List, map, replicate, slice_index_or, Option, None, Some, IsSome, is_some, refl}
use Rattle.std.specs.List.{list_any}
use Rattle.std.specs.Ordering.{nat_cmp}
use Rattle.std.specs.FinMap as table
use Rattle.std.specs.Coded.{Coded, code_by, coded×, coded_ℕ, coded_list, coded_option}
use Rattle.nd_base.specs.declared.numbers.Addr.{Addr}
use Rattle.nd_base.specs.declared.numbers.CtxNo.{CtxNo}
use Rattle.irql_lock.specs.declared.states.Context.{Context}
use Rattle.irql_lock.specs.declared.states.Holding.{Holding}

-- the locks that are there, by address, each with its holding where it is held
abbrev pub Locks : Type 0
Locks = table.FinMap nat_cmp (Option Holding)

-- the contexts stand by number
pub record LockState : Type 0 where
  pub contexts : List (Option Context)
  pub locks : Locks

-- how many contexts there are: they are numbered from 0
abbrev pub contexts : ℕ
contexts = 16

-- no context is open, and no lock is there
abbrev pub none_open : List (Option Context)
none_open = replicate contexts None

abbrev pub nothing : LockState
nothing = record { contexts = none_open; locks = table.empty }

-- ---- a context

-- the context, where it is open
abbrev pub context_of : LockState → CtxNo → Option Context
context_of s c = slice_index_or s.contexts c.0 None

abbrev pub IsOpen : LockState → CtxNo → Type 0
IsOpen s c = IsSome (context_of s c)

abbrev pub level_in : Option Context → ℕ
level_in None = 0
level_in (Some x) = x.level

abbrev pub level_of : LockState → CtxNo → ℕ
level_of s c = level_in (context_of s c)

abbrev pub is_at : Addr → Option Addr → Bool
is_at lock None = false
is_at lock (Some spun) = spun.0 == lock.0

-- whether the context spins on the lock
abbrev pub spins_in : Addr → Option Context → Bool
spins_in lock None = false
spins_in lock (Some x) = is_at lock x.spins

abbrev pub spins_on : LockState → CtxNo → Addr → Bool
spins_on s c lock = spins_in lock (context_of s c)

-- ---- a lock

abbrev pub lock_at : LockState → Addr → Option (Option Holding)
lock_at s lock = table.get s.locks lock.0

abbrev pub holder_in : Option (Option Holding) → Option CtxNo
holder_in (Some (Some h)) = Some h.context
holder_in _ = None

-- the context that holds the lock, where one does
abbrev pub holder_of : LockState → Addr → Option CtxNo
holder_of s lock = holder_in (lock_at s lock)

-- whether a context spins on the lock
abbrev pub is_spun : LockState → Addr → Bool
is_spun s lock = list_any (spins_in lock) s.contexts

abbrev pub is_busy : LockState → Addr → Bool
is_busy s lock = is_some (holder_of s lock) || is_spun s lock

abbrev pub is_held_by : CtxNo → Option Holding → Bool
is_held_by c None = false
is_held_by c (Some h) = h.context.0 == c.0

-- whether the context holds a lock
abbrev pub holds_any : Locks → CtxNo → Bool
holds_any locks c = list_any (is_held_by c) (table.values locks)

abbrev pub let_go : CtxNo → Option Holding → Option Holding
let_go c held = if is_held_by c held then None else held

-- the locks, of which those that the context holds become free
abbrev pub let_go_all : Locks → CtxNo → Locks
let_go_all locks c = table.from_entries (map (λ e. (e.0, let_go c e.1)) (table.entries locks))

-- ---- codes, by which a proof tells states apart

abbrev pub holding_code : Coded Holding
holding_code = code_by (ℕ × ℕ) (coded× coded_ℕ coded_ℕ) (λ h. (h.context.0, h.before)) (λ p. record { context = record { 0 = p.0 }; before = p.1 }) (λ _. refl)

abbrev pub locks_code : Coded Locks
locks_code = table.code coded_ℕ (coded_option holding_code)

abbrev pub address_code : Coded Addr
address_code = code_by ℕ coded_ℕ (λ a. a.0) (λ n. record { 0 = n }) (λ _. refl)

abbrev pub context_code : Coded Context
context_code =
    code_by (ℕ × (ℕ × Option Addr)) (coded× coded_ℕ (coded× coded_ℕ (coded_option address_code)))
    (λ x. (x.began, (x.level, x.spins)))
    (λ p. record { began = p.0; level = p.1.0; spins = p.1.1 })
    (λ _. refl)

abbrev pub state_code : Coded LockState
state_code =
    code_by (List (Option Context) × Locks) (coded× (coded_list (coded_option context_code)) locks_code) (λ s. (s.contexts, s.locks)) (λ p. record { contexts = p.0; locks = p.1 }) (λ _. refl)
