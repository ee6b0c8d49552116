-- What may come by itself: frames, handlers that are owed, contexts that can run, the clock's jumps, the end of a driver's waiting. (Which handler NDIS
-- owes a miniport, and when: Windows DDK, the reference page of each Miniport function. Interrupts: "Registering Interrupts" there. Hang checks, jumps of
-- the clock and silence: the project's own, docs/LEGAL-RUN.md.)
use Rattle.std.specs.Prelude.{ℕ, Bool, true, false, ◌&&◌, ◌||◌, ◌==◌, not, nat_le, nat_lt, if◌then◌else◌, List, [], ◌∷◌, ◌++◌, Option, Some, None, is_some, is_none, min, map, filter, slice_get, count_by}
use Rattle.std.specs.Option.{option_map_or}
use Rattle.std.specs.List.{list_any, list_all, filter_map}
use Rattle.std.specs.FinMap as table
use Rattle.nd_mem.specs.Space.{address}
use Rattle.frame_wire.specs.declared.arrival.Arrival.{Arrival}
use Rattle.log_fields.specs.declared.field_values.Condition.{Condition}
use Rattle.log_fields.specs.declared.field_values.Condition.TheVariants as condition
use Rattle.log_fields.specs.declared.field_values.Handler.{Handler}
use Rattle.log_fields.specs.declared.field_values.Handler.TheVariants as handler
use Rattle.dp8390.specs.Registers.{line_is_up}
use Rattle.dpc_timer.specs.declared.timer.Timer.{Timer}
use Rattle.dpc_timer.specs.ClockState.{is_queued}
use Rattle.irql_lock.specs.LockState.{holder_of}
use Rattle.guest_world.specs.declared.adapters.Adapter.{Adapter}
use Rattle.owner_machine.specs.declared.rows.Request.{Request}
use Rattle.owner_machine.specs.State.{at, implies, is_running, is_resetting, is_stopped, phase_is, adapter_of as driver_adapter}
use Rattle.owner_machine.specs.Contexts.{in_brackets, none_runs, is_halt, is_dpc, any_handler}
use Rattle.owner_machine.specs.Packets.{queued_of, held_of, sent_by, slot_of, first_queued}
use Rattle.owner_machine.specs.Loans.{due_of}
use Rattle.owner_machine.specs.Requests.{is_set, handed_of, open_of, asked_by, first_asked}
use Rattle.owner_machine.specs.Handlers.{may_halt, outstanding, is_none as is_empty}
use Rattle.legal_run.specs.State.{Inputs, State, Calling, Wait, Nothing, OnLock, OnClock, OnSync, Needed, Left, Entrance, Unentered, Gone, adapter, clock, call_at, progress_of, hearing_of, part_of, adapters_of, drivers_of, all_contexts, is_open, is_free, is_context_of, is_starting, is_off, alive, serving, has_handler, is_registered}

-- the first of a list
abbrev pub first : {A : Type 0} → List A → Option A
first xs = slice_get xs 0

-- ---- frames

abbrev pub has_come_due : State → Arrival → Bool
has_come_due s f = nat_le f.stamp (clock s)

-- the next frame's stamp is not above the clock
abbrev pub frame_due : Inputs → State → Bool
frame_due c s = option_map_or (has_come_due s) (slice_get c.frames s.come) false

-- ---- contexts that can run

-- what an open call waits for has come
abbrev pub has_come : State → Wait → Bool
has_come s Nothing = false
has_come s (OnLock lock) = is_none (holder_of s.world.levels (address lock))
has_come s (OnClock wake) = nat_le wake (clock s)
has_come s (OnSync (Left eax)) = true
has_come s (OnSync _) = false

abbrev pub can_go_on : State → Option Calling → Bool
can_go_on s None = true
can_go_on s (Some call) = has_come s call.wait

abbrev pub can_run : State → ℕ → Bool
can_run s x = is_open s x && can_go_on s (call_at s x)

-- ---- interrupts

-- the lowest context of the adapter whose call waits for its function to be entered
abbrev pub wants_sync : Option Calling → Bool
wants_sync (Some call) = wants call.wait
  where
    wants : Wait → Bool
    wants (OnSync Needed) = true
    wants _ = false
wants_sync None = false

abbrev pub sync_caller : State → ℕ → Option ℕ
sync_caller s a = first (filter (λ x. is_context_of s a x && wants_sync (call_at s x)) all_contexts)

-- the card's line is up, its interrupt is registered, and the attributes are set
abbrev pub is_raised : Option Adapter → Bool
is_raised None = false
is_raised (Some part) = line_is_up part.card.registers && (is_some part.interrupt && is_some part.attributes)

-- its line is masked while its handleinterrupt is queued or open
abbrev pub is_masked : State → ℕ → Bool
is_masked s a = is_queued s.world.clock (adapter a) || not (none_runs s.owner is_dpc a)

abbrev pub line_asks : State → ℕ → Bool
line_asks s a = is_raised (part_of s a) && not (is_masked s a)

-- the registration asked for the ISR, or for a shared line
abbrev pub enters_isr : Option Adapter → Bool
enters_isr None = false
enters_isr (Some part) = option_map_or (λ i. i.enters_isr) part.interrupt false

-- ---- timers

-- an armed timer, with its address
abbrev pub Armed : Type 0
Armed = ℕ × Timer

abbrev pub is_timer_of : State → ℕ → Armed → Bool
is_timer_of s a t = option_map_or (λ f. f.adapter.0 == a) (table.get s.world.timers t.0) false

abbrev pub is_earlier : Armed → Armed → Bool
is_earlier t u = nat_lt t.1.moment u.1.moment || ((t.1.moment == u.1.moment) && nat_lt t.0 u.0)

abbrev pub earlier_of : Armed → Option Armed → Armed
earlier_of t None = t
earlier_of t (Some u) = if is_earlier u t then u else t

unfoldable pub earliest : List Armed → Option Armed
earliest [] = None
earliest (t ∷ ts) = Some (earlier_of t (earliest ts))

abbrev pub timers_of : State → ℕ → List Armed
timers_of s a = filter (is_timer_of s a) (table.entries s.world.clock.timers)

-- the adapter's due timer of least moment, of equal moments the one of least address
abbrev pub due_timer : State → ℕ → Option Armed
due_timer s a = earliest (filter (λ t. nat_le t.1.moment (clock s)) (timers_of s a))

-- ---- requests and packets

-- the request that would be handed: the least one asked, where none is handed
abbrev pub request_at : State → Option ℕ → Option Request
request_at s None = None
request_at s (Some r) = slice_get s.owner.requests r

abbrev pub to_hand : State → ℕ → Option Request
to_hand s a = if count_by (handed_of a) s.owner.requests == 0 then request_at s (first_asked s.owner a) else None

abbrev pub hands_set : Bool → Option Request → Bool
hands_set set None = false
hands_set true (Some r) = is_set r.question
hands_set false (Some r) = not (is_set r.question)

-- a packet is in the queue, which is not held back
abbrev pub has_to_send : State → ℕ → Bool
has_to_send s a = is_some (first_queued s.owner a) && at (λ row. not row.held_back) s.owner.adapters a

-- ---- what is owed: a row for each handler

abbrev pub succeeded : Entrance → Bool
succeeded (Gone eax) = eax == 0
succeeded _ = false

abbrev pub running : State → ℕ → Bool
running s a = phase_is is_running s.owner a

abbrev pub shuts_down : Inputs → State → Bool
shuts_down c s = c.shuts_down && has_handler s handler.Shutdown

abbrev pub owed_row : Inputs → State → ℕ → Handler → Bool
owed_row c s a handler.Initialize = succeeded s.entrance && (is_registered s && (phase_is is_starting s.owner a && not (progress_of s a).initialized))
owed_row c s a handler.Isr = line_asks s a && enters_isr (part_of s a)
owed_row c s a handler.DisableInterrupt = line_asks s a && not (enters_isr (part_of s a))
owed_row c s a handler.Sync = is_some (sync_caller s a)
owed_row c s a handler.EnableInterrupt = serving s a && (progress_of s a).enables
owed_row c s a handler.HandleInterrupt = serving s a && is_queued s.world.clock (adapter a)
owed_row c s a handler.Timer = serving s a && is_some (due_timer s a)
owed_row c s a handler.ReturnPacket = serving s a && not (count_by (due_of a) s.owner.loans == 0)
owed_row c s a handler.Reset = running s a && at (λ row. row.owes_reset) s.owner.adapters a
owed_row c s a handler.CancelSend = running s a && at (λ row. not (is_empty row.cancels)) s.owner.adapters a
owed_row c s a handler.Query = running s a && hands_set false (to_hand s a)
owed_row c s a handler.Set = running s a && hands_set true (to_hand s a)
owed_row c s a handler.Send = running s a && (has_to_send s a && not (has_handler s handler.SendPackets))
owed_row c s a handler.SendPackets = running s a && (has_to_send s a && has_handler s handler.SendPackets)
owed_row c s a handler.CheckForHang = running s a && (has_handler s handler.CheckForHang && nat_le (progress_of s a).check (clock s))
owed_row c s a handler.PnpEvent = running s a && at (λ row. not (is_empty row.events)) s.owner.adapters a
owed_row c s a handler.Shutdown = shuts_down c s
owed_row c s a handler.Halt = not (shuts_down c s)
owed_row c s a _ = false

-- it is owed, and may be open beside what is open
abbrev pub is_owed : Inputs → State → ℕ → Handler → Bool
is_owed c s a h = alive s a && (owed_row c s a h && (in_brackets s.owner a h && implies (is_halt h) (may_halt s.owner a)))

abbrev pub was_not_entered : Entrance → Bool
was_not_entered Unentered = true
was_not_entered _ = false

abbrev pub is_stopped_adapter : State → ℕ → Bool
is_stopped_adapter s a = phase_is is_stopped s.owner a

-- DriverEntry is owed where no adapter is, or one is not stopped
abbrev pub owes_entry : Inputs → State → Bool
owes_entry c s = was_not_entered s.entrance && (is_empty c.adapters || not (list_all (is_stopped_adapter s) (adapters_of c)))

abbrev pub handlers : List Handler
handlers =
    handler.Initialize ∷ handler.Halt ∷ handler.Reset ∷ handler.CheckForHang ∷ handler.Isr ∷ handler.DisableInterrupt ∷ handler.EnableInterrupt
    ∷ handler.HandleInterrupt ∷ handler.Timer ∷ handler.Sync ∷ handler.Send ∷ handler.SendPackets ∷ handler.ReturnPacket ∷ handler.Query ∷ handler.Set
    ∷ handler.CancelSend ∷ handler.PnpEvent ∷ handler.Shutdown ∷ []

abbrev pub owes_some : Inputs → State → ℕ → Bool
owes_some c s a = list_any (is_owed c s a) handlers

abbrev pub some_owed : Inputs → State → Bool
some_owed c s = owes_entry c s || list_any (owes_some c s) (adapters_of c)

-- ---- rest, jumps of the clock

-- no frame is due, no owed handler can be entered, no context can run
abbrev pub rests : Inputs → State → Bool
rests c s = not (frame_due c s) && (not (some_owed c s && list_any (is_free s) all_contexts) && not (list_any (can_run s) all_contexts))

abbrev pub wake_in : Option Calling → Option ℕ
wake_in None = None
wake_in (Some call) = wake_of call.wait
  where
    wake_of : Wait → Option ℕ
    wake_of (OnClock wake) = Some wake
    wake_of _ = None

-- the moments that are to come: of sleepers, of hang checks, of armed timers, of the next frame
abbrev pub wakes : State → List ℕ
wakes s = filter_map (λ x. if is_open s x then wake_in (call_at s x) else None) all_contexts

abbrev pub check_of : State → ℕ → Option ℕ
check_of s a = if running s a then Some (progress_of s a).check else None

abbrev pub checks : Inputs → State → List ℕ
checks c s = if has_handler s handler.CheckForHang then filter_map (check_of s) (adapters_of c) else []

abbrev pub is_alive_timer : Inputs → State → Armed → Bool
is_alive_timer c s t = list_any (λ a. alive s a && is_timer_of s a t) (adapters_of c)

abbrev pub alarms : Inputs → State → List ℕ
alarms c s = map (λ t. t.1.moment) (filter (is_alive_timer c s) (table.entries s.world.clock.timers))

abbrev pub stamps : Inputs → State → List ℕ
stamps c s = option_map_or (λ f. f.stamp ∷ []) (slice_get c.frames s.come) []

unfoldable pub least : List ℕ → Option ℕ
least [] = None
least (m ∷ ms) = Some (option_map_or (λ n. min m n) (least ms) m)

-- no frame and no sleeper is left, and 8 timers and hang checks have expired since something was done
abbrev pub most_expirations : ℕ
most_expirations = 8

abbrev pub is_barred : Inputs → State → Bool
is_barred c s = is_empty (stamps c s) && (is_empty (wakes s) && nat_le most_expirations s.expired)

abbrev pub next_moment : Inputs → State → Option ℕ
next_moment c s = if is_barred c s then None else least (filter (λ m. nat_lt (clock s) m) (stamps c s ++ (wakes s ++ (checks c s ++ alarms c s))))

-- ---- which drivers wait

abbrev pub is_up : State → ℕ → Bool
is_up s b = not (phase_is is_starting s.owner (driver_adapter s.owner b))

abbrev pub none_sent : State → ℕ → Bool
none_sent s b = count_by (sent_by b) s.owner.packets == 0

abbrev pub none_asked : State → ℕ → Bool
none_asked s b = count_by (asked_by b) s.owner.requests == 0

-- a driver has 256 send slots
abbrev pub holds : State → ℕ → Condition → Bool
holds s b condition.Up = is_up s b
holds s b condition.Sent = none_sent s b
holds s b condition.Replies = none_asked s b
holds s b (condition.Frames n) = nat_le n (hearing_of s b).frames
holds s b condition.Room = nat_lt (count_by (slot_of b) s.owner.packets) 256
holds s b condition.All = none_sent s b && none_asked s b

abbrev pub waits : State → ℕ → Bool
waits s b = option_map_or (λ what. not (holds s b what)) (hearing_of s b).awaits false

abbrev pub waits_or_is_done : State → ℕ → Bool
waits_or_is_done s b = (hearing_of s b).done || waits s b

abbrev pub all_wait : Inputs → State → Bool
all_wait c s = list_all (waits_or_is_done s) (drivers_of c)

-- ---- what is left to do

-- an adapter is finished where it is stopped, or off with nothing outstanding and no handler open
abbrev pub is_finished : State → ℕ → Bool
is_finished s a = phase_is is_stopped s.owner a || (phase_is is_off s.owner a && ((outstanding s.owner a == 0) && none_runs s.owner any_handler a))

abbrev pub all_finished : Inputs → State → Bool
all_finished c s = list_all (is_finished s) (adapters_of c)

-- what an adapter is stopped for where nothing can happen any more: a packet, a loan that is due, a request, a reset, an open handler
abbrev pub is_kept_busy : State → ℕ → Bool
is_kept_busy s a =
    not (is_stopped_adapter s a)
    && (not (count_by (queued_of a) s.owner.packets == 0)
    || (not (count_by (held_of a) s.owner.packets == 0)
    || (not (count_by (due_of a) s.owner.loans == 0)
    || (not (count_by (open_of a) s.owner.requests == 0)
    || ((running s a && at (λ row. row.owes_reset) s.owner.adapters a) || (phase_is is_resetting s.owner a || not (none_runs s.owner any_handler a)))))))

-- the lowest one
abbrev pub silent_one : Inputs → State → Option ℕ
silent_one c s = first (filter (is_kept_busy s) (adapters_of c))

-- ---- what stands by itself

abbrev pub is_moment : ℕ → Option ℕ → Bool
is_moment m None = false
is_moment m (Some n) = n == m

-- the clock goes on to the earliest moment that is to come
abbrev pub may_jump : Inputs → State → ℕ → Bool
may_jump c s m = nat_lt (clock s) m && (rests c s && (all_wait c s && is_moment m (next_moment c s)))

-- nothing happens any more
abbrev pub is_idle : Inputs → State → Bool
is_idle c s = rests c s && (all_wait c s && is_none (next_moment c s))

abbrev pub may_be_silent : Inputs → State → ℕ → Bool
may_be_silent c s a = is_idle c s && is_moment a (silent_one c s)

-- a driver hears that it waits in vain: nothing can happen before a driver acts
abbrev pub may_be_quiet : Inputs → State → ℕ → Bool
may_be_quiet c s b =
    rests c s && (waits s b && (if all_wait c s then is_none (next_moment c s) && is_none (silent_one c s) else all_finished c s))
