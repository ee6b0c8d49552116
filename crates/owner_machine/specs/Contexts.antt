-- Contexts: their open handlers and calls, and which handlers may be open side by side. (DDK: Serialized and Deserialized Drivers.)
use Rattle.std.specs.Prelude.{ℕ, Bool, true, false, ◌&&◌, ◌||◌, ◌==◌, not, List, [], ◌∷◌, cond, Option, Some, None, count_by, get_or}
use Rattle.log_fields.specs.declared.field_values.Handler.{Handler}
use Rattle.log_fields.specs.declared.field_values.Handler.TheVariants.{DriverEntry, Initialize, Halt, Reset, CheckForHang, Isr, DisableInterrupt, HandleInterrupt, Sync, TransferData, Shutdown}
use Rattle.owner_machine.specs.declared.rows.Context.{Context}
use Rattle.owner_machine.specs.declared.rows.Context.TheVariants.{Free, Open}
use Rattle.owner_machine.specs.declared.rows.OpenCall.{OpenCall}
use Rattle.owner_machine.specs.State.{Owner, at, implies}

-- ---- imports, by number

abbrev pub set_attributes : ℕ
set_attributes = 6

abbrev pub send_complete : ℕ
send_complete = 39

abbrev pub send_resources_available : ℕ
send_resources_available = 40

abbrev pub indicate_receive_packet : ℕ
indicate_receive_packet = 41

abbrev pub reset_complete : ℕ
reset_complete = 42

abbrev pub query_complete : ℕ
query_complete = 43

abbrev pub set_complete : ℕ
set_complete = 44

abbrev pub lookahead_indicate : ℕ
lookahead_indicate = 47

-- ---- handlers

-- the interrupt handlers
abbrev pub is_interrupt : Handler → Bool
is_interrupt Isr = true
is_interrupt DisableInterrupt = true
is_interrupt Sync = true
is_interrupt _ = false

abbrev pub is_transfer : Handler → Bool
is_transfer TransferData = true
is_transfer _ = false

abbrev pub is_entry : Handler → Bool
is_entry DriverEntry = true
is_entry _ = false

-- the handlers of which a serialized miniport has one open at a time
abbrev pub is_serial : Handler → Bool
is_serial DriverEntry = false
is_serial Isr = false
is_serial DisableInterrupt = false
is_serial Sync = false
is_serial TransferData = false
is_serial _ = true

-- those that overlap with no other of these, of a deserialized miniport either
abbrev pub is_exclusive : Handler → Bool
is_exclusive Initialize = true
is_exclusive Halt = true
is_exclusive Shutdown = true
is_exclusive Reset = true
is_exclusive _ = false

abbrev pub is_dpc : Handler → Bool
is_dpc HandleInterrupt = true
is_dpc _ = false

abbrev pub is_hang_check : Handler → Bool
is_hang_check CheckForHang = true
is_hang_check _ = false

abbrev pub is_reset : Handler → Bool
is_reset Reset = true
is_reset _ = false

-- MiniportHalt, and MiniportShutdown in its place
abbrev pub is_halt : Handler → Bool
is_halt Halt = true
is_halt Shutdown = true
is_halt _ = false

abbrev pub is_initialize : Handler → Bool
is_initialize Initialize = true
is_initialize _ = false

abbrev pub any_handler : Handler → Bool
any_handler _ = true

-- ---- contexts

abbrev pub is_free : Context → Bool
is_free Free = true
is_free _ = false

-- it runs such a handler of the adapter
abbrev pub runs : (Handler → Bool) → ℕ → Context → Bool
runs test a (Open (Some adapter) handler _ _) = test handler && (adapter.0 == a)
runs test a _ = false

-- its handler is open, and in no call
abbrev pub is_at_work : Context → Bool
is_at_work (Open _ _ _ None) = true
is_at_work _ = false

abbrev pub is_calling : Context → Bool
is_calling (Open _ _ _ (Some _)) = true
is_calling _ = false

-- it has a call of that import open, for the adapter
abbrev pub calls : (a import : ℕ) → Context → Bool
calls a import (Open (Some adapter) _ _ (Some call)) = (adapter.0 == a) && (call.import == import)
calls a import _ = false

abbrev pub in_call : Owner → (a import : ℕ) → Bool
in_call o a import = not (count_by (calls a import) o.contexts == 0)

abbrev pub how_many : Owner → (Handler → Bool) → ℕ → ℕ
how_many o test a = count_by (runs test a) o.contexts

abbrev pub none_runs : Owner → (Handler → Bool) → ℕ → Bool
none_runs o test a = how_many o test a == 0

-- NDIS_ATTRIBUTE_DESERIALIZE was not given
abbrev pub serialized : Owner → ℕ → Bool
serialized o a = at (λ row. not row.deserialized) o.adapters a

-- ---- lookahead: MiniportTransferData inside a call of EthFilterDprIndicateReceive

abbrev pub has_none : Option ℕ → Bool
has_none None = true
has_none (Some _) = false

-- it calls with a lookahead, and no transfer was begun for it
abbrev pub wants_transfer : ℕ → Context → Bool
wants_transfer a (Open (Some adapter) _ _ (Some call)) = (adapter.0 == a) && ((call.import == lookahead_indicate) && has_none call.transfer)
wants_transfer a _ = false

-- it runs the transfer of that enter
abbrev pub transfers : ℕ → Context → Bool
transfers n (Open _ handler enter _) = is_transfer handler && (enter == n)
transfers n Free = false

abbrev pub has_left : List Context → Option ℕ → Bool
has_left contexts None = true
has_left contexts (Some n) = count_by (transfers n) contexts == 0

-- a call may be answered: the transfer that it waits for has left
abbrev pub may_be_answered : List Context → Context → Bool
may_be_answered contexts (Open _ _ _ (Some call)) = has_left contexts call.transfer
may_be_answered contexts _ = false

abbrev pub with_transfer : ℕ → Context → Context
with_transfer n (Open adapter handler enter (Some call)) = Open adapter handler enter (Some (record call { transfer = Some n }))
with_transfer n x = x

-- the call of the lowest context that wants one gets the transfer of that enter
abbrev pub transfer_begun : (a n : ℕ) → List Context → List Context
transfer_begun a n [] = []
transfer_begun a n (x ∷ xs) = cond (wants_transfer a x) (with_transfer n x ∷ xs) (x ∷ transfer_begun a n xs)

-- ---- brackets

-- which handlers may be open beside which
abbrev pub in_brackets : Owner → ℕ → Handler → Bool
in_brackets o a h = implies (is_serial h && (serialized o a || is_exclusive h)) (none_runs o is_serial a)
    && (implies (is_serial h) (none_runs o is_exclusive a)
    && (implies (is_dpc h) (none_runs o is_dpc a)
    && (implies (is_hang_check h) (none_runs o is_hang_check a)
    && (implies (is_interrupt h) (none_runs o is_interrupt a)
    && implies (is_transfer h) (not (count_by (wants_transfer a) o.contexts == 0))))))

-- ---- what becomes of contexts

abbrev pub called : ℕ → List ℕ → OpenCall
called import words = record { import = import; flags = get_or words 3 0; transfer = None }

abbrev pub calling : ℕ → List ℕ → Context → Context
calling import words (Open adapter handler enter _) = Open adapter handler enter (Some (called import words))
calling import words Free = Free

abbrev pub answered_call : Context → Context
answered_call (Open adapter handler enter _) = Open adapter handler enter None
answered_call Free = Free

-- the contexts of an adapter go
abbrev pub freed : ℕ → List Context → List Context
freed a [] = []
freed a (x ∷ xs) = cond (runs any_handler a x) Free x ∷ freed a xs

-- the context of DriverEntry goes
abbrev pub entry_freed : List Context → List Context
entry_freed [] = []
entry_freed (Open None _ _ _ ∷ xs) = Free ∷ entry_freed xs
entry_freed (x ∷ xs) = x ∷ entry_freed xs
