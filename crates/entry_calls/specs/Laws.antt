-- What a call of DriverEntry comes to where there is no adapter, and no context but its own holds a lock.
use Rattle.std.specs.Prelude.{◌≡◌, ℕ, ◌+◌, ◌^◌, ◌<◌, ◌≤◌, ⊤, List, slice_index_or, None, Some}
use Rattle.nd_base.specs.declared.numbers.Addr.{Addr}
use Rattle.nd_base.specs.declared.numbers.CtxNo.{CtxNo}
use Rattle.irql_lock.specs.LockState.{LockState, holder_of}
use Rattle.log_fields.specs.declared.field_values.Handler.TheVariants.{DriverEntry}
use Rattle.import_table.specs.Table.{Row}
use Rattle.guest_world.specs.declared.world.World.{World}
use Rattle.guest_world.specs.declared.answer.Caller.{Caller}
use Rattle.guest_world.specs.declared.answer.Reply.{Reply}
use Rattle.import_answers.specs.World.{word}
use Rattle.import_answers.specs.Outcomes.{Outcome, Breaks, Replies, Picks, PicksDescriptor, Spins, Sleeps, Synchronizes}
use Rattle.import_answers.specs.Answers.{eight, outcome}

-- DriverEntry runs in context 0, for no adapter
abbrev pub entry_caller : Caller
entry_caller = record { context = record { 0 = 0 }; adapter = None; handler = DriverEntry }

-- no context but its own holds a lock
abbrev pub HoldsAlone : LockState → Type 0
HoldsAlone s = (lock : Addr) (holder : CtxNo) → holder_of s lock ≡ Some holder → holder.0 ≡ 0

-- what a reply costs: 1 microsecond at least
abbrev pub IsCost : ℕ → Type 0
IsCost n = (1 ≤ n) × (n ≤ 2 ^ 32)

abbrev pub IsAnswer : Reply → World → Type 0
IsAnswer reply after = IsCost reply.cost × HoldsAlone after.levels

-- it does not wait for another context, and sleeps as long as its word says
abbrev pub Serves : World → List ℕ → Outcome → Type 0
Serves w words (Breaks rule) = ⊤
Serves w words (Replies reply after) = IsAnswer reply after
Serves w words (Picks n reply after) = (a : ℕ) → IsAnswer (reply a) (after a)
Serves w words (PicksDescriptor kind handle reply after) = (a : ℕ) → IsAnswer (reply a) (after a)
Serves w words (Spins holder after) = ⊥
Serves w words (Sleeps moment) = moment ≡ w.clock.clock + word words 1
Serves w words Synchronizes = ⊥

-- words of a call have four bytes
abbrev pub AreWords : List ℕ → Type 0
AreWords words = (k : ℕ) → slice_index_or words k 0 < 2 ^ 32

abbrev pub CallsOfDriverEntry : Type 0
CallsOfDriverEntry =
    (w : World) (row : Row) (words : List ℕ) → HoldsAlone w.levels → AreWords (eight words) → Serves w (eight words) (outcome w entry_caller row words)
