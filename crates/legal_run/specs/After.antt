-- What an entry does: one table for what it changes, one for what must stand behind it. Rows of one subject call that subject's part of this file. (The
-- project's own: docs/LEGAL-RUN.md.)
use Rattle.std.specs.Prelude.{ℕ, zero, suc, ◌+◌, Bool, true, false, ◌&&◌, ◌||◌, ◌==◌, not, nat_le, nat_lt, if◌then◌else◌, List, [], ◌∷◌, ◌++◌, map, drop, filter, length, slice_get, slice_set, slice_index_or, Option, Some, None, is_none, Result, Ok, Err}
use Rattle.std.specs.Option.{option_map, option_map_or}
use Rattle.std.specs.List.{list_any, list_all}
use Rattle.nd_base.specs.declared.numbers.AdapterNo.{AdapterNo}
use Rattle.nd_base.specs.declared.numbers.BindingNo.{BindingNo}
use Rattle.nd_base.specs.declared.numbers.Breach.{Breach}
use Rattle.nd_base.specs.declared.numbers.CtxNo.{CtxNo}
use Rattle.nd_mem.specs.Space.{address, bytes_from}
use Rattle.ia32_step.specs.Machine.{Machine, machine, moved as stepped}
use Rattle.irql_lock.specs.LockState.{LockState}
use Rattle.irql_lock.specs.LockMoves.{LockMove, Begin, End}
use Rattle.irql_lock.specs.LockMoves as levels
use Rattle.dpc_timer.specs.ClockState.{ClockState, ClockMove, Rise, Queue, Unqueue, Cancel, Fire}
use Rattle.dpc_timer.specs.ClockState as clocks
use Rattle.packet_pool.specs.LiveMoves.{LiveMove, Lend, Unlend}
use Rattle.packet_pool.specs.LiveMoves as live
use Rattle.dp8390.specs.Ring.{after_arrival}
use Rattle.log_fields.specs.declared.write.Write.{Write}
use Rattle.log_fields.specs.declared.field_values.Cause.{Cause}
use Rattle.log_fields.specs.declared.field_values.Cause.TheVariants as cause
use Rattle.log_fields.specs.declared.field_values.Condition.{Condition}
use Rattle.log_fields.specs.declared.field_values.Handler.{Handler}
use Rattle.log_fields.specs.declared.field_values.Handler.TheVariants as handler
use Rattle.call_log.specs.declared.entry.Entry.{Entry}
use Rattle.call_log.specs.declared.entry.Entry.TheVariants as entries
use Rattle.import_table.specs.Table.{row_of}
use Rattle.guest_world.specs.declared.adapters.Adapter.{Adapter}
use Rattle.guest_world.specs.declared.world.World.{World}
use Rattle.import_answers.specs.Outcomes.{Outcome, Spins}
use Rattle.import_answers.specs.Statuses.{success}
use Rattle.owner_machine.specs.State.{Owner, is_bound, is_stopped, numbers_from, phase_is}
use Rattle.owner_machine.specs.Legal.{with_handlers, said_nothing}
use Rattle.owner_machine.specs.Machine as owners
use Rattle.owner_machine.specs.Requests.{first_asked}
use Rattle.legal_run.specs.Guest.{with_writes, entered_memory, entered_registers, stack_pointer}
use Rattle.legal_run.specs.State.{Inputs, State, Context, Calling, Wait, Nothing, OnLock, OnSync, Entered, Left, Inside, Gone, Progress, Hearing, Frame, Next, Free, Takes, Verdicts, Spinning, Makes, Stops, adapter, cells, clock, context_at, call_at, progress_of, hearing_of, part_of, adapters_of, all_contexts, is_open, adapter_of, handler_of, is_context_of, alive, has_handler}
use Rattle.legal_run.specs.Owed.{first, due_timer, sync_caller, timers_of, is_finished}
use Rattle.legal_run.specs.Calls.{Did, Broken, Waits, Made, did, Drawn, Breaking, Draws, leaves, stays_home, outcome_of}
use Rattle.legal_run.specs.Enters.{area, level_of, address_of, handed_to, named_in, loan_named, slot_number}
use Rattle.legal_run.specs.Replies.{Answered, Told, answered, returned}

-- ---- drivers: what a driver awaits ends with each command, quiet and notice of it

abbrev pub with_hearing : State → ℕ → (Hearing → Hearing) → State
with_hearing s b change = record s { drivers = slice_set s.drivers b (change (hearing_of s b)) }

abbrev pub spoke : State → ℕ → State
spoke s b = with_hearing s b (λ d. record d { awaits = None })

abbrev pub awaited : State → ℕ → Condition → State
awaited s b what = with_hearing s b (λ d. record d { awaits = Some what })

abbrev pub done : State → ℕ → State
done s b = with_hearing s b (λ d. record d { awaits = None; done = true })

-- each holder of a frame is told of it
unfoldable pub framed : State → List BindingNo → State
framed s [] = s
framed s (b ∷ bs) = framed (with_hearing s b.0 (λ d. record d { awaits = None; frames = suc d.frames })) bs

unfoldable pub all_spoke : State → List ℕ → State
all_spoke s [] = s
all_spoke s (b ∷ bs) = all_spoke (spoke s b) bs

-- the drivers that are bound to an adapter
abbrev pub bound_to : State → ℕ → List ℕ
bound_to s a = numbers_from 0 (λ d. is_bound d.binding && (d.adapter.0 == a)) s.owner.drivers

abbrev pub packet_driver : State → ℕ → ℕ
packet_driver s k = option_map_or (λ p. p.driver.0) (slice_get s.owner.packets k) 0

abbrev pub request_driver : State → ℕ → ℕ
request_driver s r = option_map_or (λ q. q.driver.0) (slice_get s.owner.requests r) 0

-- ---- the world

abbrev pub with_world : State → World → State
with_world s w = record s { world = w }

abbrev pub clocked : World → ClockMove → World
clocked w move = record w { clock = clocks.moved w.clock move }

abbrev pub pooled : World → LiveMove → World
pooled w move = record w { pools = live.after w.pools move }

abbrev pub levels_behind : LockState → Result LockState Breach → LockState
levels_behind before (Ok after) = after
levels_behind before (Err broken) = before

abbrev pub leveled : World → LockMove → World
leveled w move = record w { levels = levels_behind w.levels (levels.moved w.levels move) }

-- the timers of an adapter are disarmed, and its handleinterrupt is queued no more
unfoldable pub cancelled : ClockState → List ℕ → ClockState
cancelled k [] = k
cancelled k (t ∷ ts) = cancelled (clocks.moved k (Cancel (address t))) ts

abbrev pub quieted : State → World → ℕ → World
quieted s w a = record w { clock = clocks.moved (cancelled w.clock (map (λ t. t.0) (timers_of (with_world s w) a))) (Unqueue (adapter a)) }

-- nothing of an adapter that is off is armed
abbrev pub quiet_if_off : State → World → Option AdapterNo → World
quiet_if_off s w None = w
quiet_if_off s w (Some a) = if alive s a.0 then w else quieted s w a.0

-- ---- charges: DriverEntry's count to every adapter, those of any other context to its own

abbrev pub charge_to : State → Option AdapterNo → ℕ → State
charge_to s None n = record s { charged = s.charged + n; world = clocked s.world (Rise n) }
charge_to s (Some a) n = record s { charges = slice_set s.charges a.0 (slice_index_or s.charges a.0 0 + n); world = clocked s.world (Rise n) }

abbrev pub charges_of : State → ℕ → ℕ
charges_of s a = s.charged + slice_index_or s.charges a 0

-- so many more reach the budget: of the context's adapter; of DriverEntry's, that of any adapter, and its own
abbrev pub reaches_for : Inputs → State → Option AdapterNo → ℕ → Bool
reaches_for c s (Some a) n = nat_le c.budget (charges_of s a.0 + n)
reaches_for c s None n = nat_le c.budget (s.charged + n) || list_any (λ a. nat_le c.budget (charges_of s a + n)) (adapters_of c)

abbrev pub reaches : Inputs → State → CtxNo → ℕ → Bool
reaches c s x n = reaches_for c s (adapter_of s x.0) n

-- ---- contexts

abbrev pub with_context : State → ℕ → Context → State
with_context s x y = record s { contexts = slice_set s.contexts x y }

abbrev pub with_call : State → ℕ → Option Calling → State
with_call s x call = with_context s x (record (context_at s x) { call = call })

abbrev pub with_wait : State → Option ℕ → Wait → State
with_wait s None wait = s
with_wait s (Some x) wait = with_call s x (option_map {T = Calling} (λ call. record call { wait = wait }) (call_at s x))

abbrev pub with_progress : State → ℕ → (Progress → Progress) → State
with_progress s a change = record s { adapters = slice_set s.adapters a (change (progress_of s a)) }

-- ---- enters

abbrev pub hang_period : State → ℕ → ℕ
hang_period s a = option_map_or (λ part. option_map_or (λ given. given.hang_period) part.attributes 0) (part_of s a) 0

abbrev pub fired : World → Option ℕ → World
fired w None = w
fired w (Some t) = clocked w (Fire (address t))

abbrev pub slotted : List Frame → ℕ → ℕ → List Frame
slotted frames k n = slice_set frames k (record { bytes = option_map_or (λ f. f.bytes) (slice_get frames k) []; slot = Some n })

-- each packet that is handed lies in the slot that the entry names
unfoldable pub placed : State → List Frame → List ℕ → List ℕ → List Frame
placed s frames [] ats = frames
placed s frames (k ∷ ks) [] = frames
placed s frames (k ∷ ks) (a ∷ ats) = placed s (slotted frames k (slot_number s k a)) ks ats

abbrev pub with_slots : State → ℕ → Handler → List ℕ → List Write → State
with_slots s a h words writes = record s { packets = placed s s.packets (handed_to s a h words) (named_in h words writes) }

-- what an enter takes from what was owed, by handler
abbrev pub taken : State → ℕ → Handler → List ℕ → List Write → State
taken s a handler.DriverEntry words writes = record s { entrance = Inside }
taken s a handler.Initialize words writes = with_progress s a (λ p. record p { initialized = true })
taken s a handler.HandleInterrupt words writes = with_world s (clocked s.world (Unqueue (adapter a)))
taken s a handler.EnableInterrupt words writes = with_progress s a (λ p. record p { enables = false })
taken s a handler.CheckForHang words writes = with_progress s a (λ p. record p { check = clock s + hang_period s a })
taken s a handler.Timer words writes = with_world s (fired s.world (option_map (λ t. t.0) (due_timer s a)))
taken s a handler.Sync words writes = with_wait s (sync_caller s a) (OnSync Entered)
taken s a handler.Send words writes = with_slots s a handler.Send words writes
taken s a handler.SendPackets words writes = with_slots s a handler.SendPackets words writes
taken s a _ words writes = s

abbrev pub in_list : Option ℕ → List ℕ
in_list None = []
in_list (Some n) = n ∷ []

-- what the handler is about: the request, the context that called for it, the packets
abbrev pub subject_of : State → ℕ → Handler → List ℕ → List ℕ
subject_of s a handler.Query words = in_list (first_asked s.owner a)
subject_of s a handler.Set words = in_list (first_asked s.owner a)
subject_of s a handler.Sync words = in_list (sync_caller s a)
subject_of s a h words = handed_to s a h words

abbrev pub begun : Inputs → State → ℕ → CtxNo → Handler → List ℕ → Context
begun c s a x h words = record { registers = entered_registers (stack_pointer x.0 words) (address_of c s a h); subject = subject_of s a h words; call = None }

-- the number of an entry's adapter; that behind the last one for DriverEntry's
abbrev pub number_in : Inputs → Option AdapterNo → ℕ
number_in c None = length c.adapters
number_in c (Some a) = a.0

abbrev pub entered : Inputs → State → Option AdapterNo → CtxNo → Handler → List ℕ → List Write → State
entered c s a x h words writes =
    let n = number_in c a in
    let t = taken s n h words writes in
    with_context (with_world t (record (leveled t.world (Begin x (level_of c n h))) { memory = entered_memory s.world.memory x.0 words writes })) x.0 (begun c s n x h words)

-- ---- leaves

-- the low bytes of the two places that an ISR answers in
abbrev pub is_set : State → ℕ → Bool
is_set s place = not (slice_index_or (bytes_from (cells s) place 1) 0 0 == 0)

-- it recognized the interrupt as its card's, and queues its handleinterrupt
abbrev pub recognized : State → CtxNo → Bool
recognized s x = is_set s (area x.0) && is_set s (area x.0 + 4)

abbrev pub left_row : Inputs → State → ℕ → CtxNo → ℕ → Handler → State
left_row c s a x eax handler.DriverEntry = record s { entrance = Gone eax }
left_row c s a x eax handler.Initialize =
    if eax == success then with_progress s a (λ p. record p { check = clock s + hang_period s a }) else with_world s (quieted s s.world a)
left_row c s a x eax handler.Halt = with_world s (quieted s s.world a)
left_row c s a x eax handler.Shutdown = with_world s (quieted s s.world a)
left_row c s a x eax handler.Isr = if recognized s x then with_world s (clocked s.world (Queue (adapter a))) else s
left_row c s a x eax handler.DisableInterrupt = with_world s (clocked s.world (Queue (adapter a)))
left_row c s a x eax handler.HandleInterrupt = if has_handler s handler.EnableInterrupt then with_progress s a (λ p. record p { enables = true }) else s
left_row c s a x eax handler.Sync = with_wait s (first (context_at s x.0).subject) (OnSync (Left eax))
left_row c s a x eax _ = s

abbrev pub is_breaking : Drawn → Bool
is_breaking (Breaking rule) = true
is_breaking (Draws es) = false

-- a leave that breaks a rule makes nothing but its stop
abbrev pub left : Inputs → State → CtxNo → ℕ → State
left c s x eax =
    if is_breaking (leaves c s x eax) then s
    else let t = left_row c s (number_in c (adapter_of s x.0)) x eax (handler_of s x.0) in with_world t (leveled t.world (levels.Leave x))

-- ---- turns, calls, replies

-- the machine after n steps
unfoldable pub turned : ℕ → Machine → Machine
turned zero m = m
turned (suc n) m = stepped (turned n m)

abbrev pub machine_of : State → CtxNo → Machine
machine_of s x = machine (context_at s x.0).registers s.world.memory

abbrev pub gone_on : State → CtxNo → ℕ → State
gone_on s x n =
    let m = turned n (machine_of s x) in
    charge_to (with_context (with_world s (record s.world { memory = m.memory })) x.0 (record (context_at s x.0) { registers = m.registers })) (adapter_of s x.0) n

abbrev pub calling : ℕ → List ℕ → Did → Calling
calling import words (Broken rule) = record { import = import; words = words; wait = Nothing; writes = [] }
calling import words (Waits wait) = record { import = import; words = words; wait = wait; writes = [] }
calling import words (Made es lent writes) = record { import = import; words = words; wait = Nothing; writes = writes }

abbrev pub import_of : State → CtxNo → ℕ
import_of s x = option_map_or (λ call. call.import) (call_at s x.0) 0

-- what the reply costs
abbrev pub cost_of : State → CtxNo → Told → ℕ
cost_of s x told = option_map_or (λ a. a.0.cost) (answered s x told) 0

abbrev pub replied : State → CtxNo → Told → Option Answered → State
replied s x told None = s
replied s x told (Some (reply, world)) =
    let w = quiet_if_off s (record world { memory = with_writes world.memory told.writes }) (adapter_of s x.0) in
    charge_to
    (with_context (with_world s w) x.0
    (record (context_at s x.0) { registers = returned (cells s) (context_at s x.0).registers (row_of (import_of s x)) told.eax; call = None }))
    (adapter_of s x.0) reply.cost

abbrev pub world_spinning : World → Outcome → World
world_spinning w (Spins holder world) = world
world_spinning w _ = w

abbrev pub spun : State → CtxNo → Option Calling → State
spun s x None = s
spun s x (Some call) = with_world s (world_spinning s.world (outcome_of s x call.import call.words))

-- ---- loans

-- the descriptor that the next `indicate` of the open call lends
abbrev pub lends : Next → ℕ
lends (Makes x es (descriptor ∷ lent)) = descriptor
lends _ = 0

abbrev pub indicated : State → ℕ → List BindingNo → Bool → State
indicated s a holders copied =
    let t = framed s holders in
    record t {
      lent = s.lent ++ lends s.next ∷ [];
      world = if stays_home s a (map (λ b. b.0) holders) copied then t.world else pooled t.world (Lend (lends s.next));
    }

abbrev pub gone_home : State → ℕ → State
gone_home s j = with_world s (pooled s.world (Unlend (slice_index_or s.lent j 0)))

-- ---- the wire: each card gets a frame that arrives

abbrev pub with_arrival : List ℕ → Option Adapter → Option Adapter
with_arrival frame part = option_map {T = Adapter} (λ p. record p { card = after_arrival p.card frame }) part

abbrev pub arrived : Inputs → State → State
arrived c s =
    record s {
      come = suc s.come;
      world = record s.world { adapters = option_map_or (λ f. map (with_arrival f.bytes) s.world.adapters) (slice_get c.frames s.come) s.world.adapters };
    }

-- ---- stops

-- the contexts that it ends: the adapter's; and with the last adapter that of DriverEntry
abbrev pub is_stopped_but : State → ℕ → ℕ → Bool
is_stopped_but s a b = (b == a) || phase_is is_stopped s.owner b

abbrev pub ends_context : Inputs → State → ℕ → ℕ → Bool
ends_context c s a x = is_context_of s a x || (is_open s x && (is_none (adapter_of s x) && list_all (is_stopped_but s a) (adapters_of c)))

unfoldable pub all_ended : World → List ℕ → World
all_ended w [] = w
all_ended w (x ∷ xs) = all_ended (leveled w (End (record { 0 = x }))) xs

abbrev pub stopped : Inputs → State → ℕ → State
stopped c s a = let t = all_spoke s (bound_to s a) in with_world t (all_ended (quieted s s.world a) (filter (ends_context c s a) all_contexts))

-- ---- the table

abbrev pub effect : Inputs → State → Entry → State
effect c s (entries.Bind driver _) = spoke s driver.0
effect c s (entries.Unbind driver) = spoke s driver.0
effect c s (entries.Done driver) = done s driver.0
effect c s (entries.Quiet driver) = spoke s driver.0
effect c s (entries.Await driver condition) = awaited s driver.0 condition
effect c s (entries.Send driver packet bytes) = record (spoke s driver.0) { packets = s.packets ++ record { bytes = bytes; slot = None } ∷ [] }
effect c s (entries.Cancel driver id) = spoke s driver.0
effect c s (entries.Event driver number bytes _) = spoke s driver.0
effect c s (entries.Ask driver request question) = spoke s driver.0
effect c s (entries.Return driver loan) = spoke s driver.0
effect c s (entries.Complete packet status) = spoke s (packet_driver s packet.0)
effect c s (entries.Answer request status bytes) = spoke s (request_driver s request.0)
effect c s (entries.Indicate a loan bytes holders copied) = indicated s a.0 holders copied
effect c s (entries.Back loan failed) = gone_home s loan.0
effect c s (entries.Enter a x h words writes) = entered c s a x h words writes
effect c s (entries.Leave x eax) = left c s x eax
effect c s (entries.Turn x n) = gone_on s x n
effect c s (entries.Call x import words) = with_call s x.0 (Some (calling import words (did s x import words)))
effect c s (entries.Reply x eax writes) = replied s x (record { eax = eax; writes = writes }) (answered s x (record { eax = eax; writes = writes }))
effect c s (entries.Spin x lock) = spun s x (call_at s x.0)
effect c s (entries.WireIn frame) = arrived c s
effect c s (entries.Time moment) = with_world s (record s.world { clock = record s.world.clock { clock = moment } })
effect c s (entries.Stop a cause) = stopped c s a.0
effect c s _ = s

-- ---- timers and hang checks that expired since something was done

abbrev pub expired_after : ℕ → Entry → ℕ
expired_after n (entries.Enter _ _ handler.Timer _ _) = suc n
expired_after n (entries.Enter _ _ handler.CheckForHang _ _) = suc n
expired_after n (entries.Bind _ _) = 0
expired_after n (entries.Unbind _) = 0
expired_after n (entries.Send _ _ _) = 0
expired_after n (entries.Hand _) = 0
expired_after n (entries.Complete _ _) = 0
expired_after n (entries.Indicate _ _ _ _ _) = 0
expired_after n (entries.Return _ _) = 0
expired_after n (entries.Back _ _) = 0
expired_after n (entries.Ask _ _ _) = 0
expired_after n (entries.Answer _ _ _) = 0
expired_after n (entries.WireIn _) = 0
expired_after n (entries.WireOut _ _) = 0
expired_after n _ = n

-- ---- what must stand behind it

-- the stop of the context's adapter; DriverEntry's ends every adapter that is not stopped
abbrev pub adapters_stopped : Inputs → State → Option AdapterNo → List ℕ
adapters_stopped c s (Some a) = a.0 ∷ []
adapters_stopped c s None = filter (λ a. not (phase_is is_stopped s.owner a)) (adapters_of c)

abbrev pub stops : Inputs → State → CtxNo → Cause → Next
stops c s x cause = Stops cause (adapters_stopped c s (adapter_of s x.0))

abbrev pub breach : ℕ → Cause
breach rule = cause.Breach (record { 0 = rule })

abbrev pub unfinished : Inputs → State → List ℕ
unfinished c s = filter (λ a. not (is_finished s a)) (adapters_of c)

abbrev pub stops_left : Next → List ℕ
stops_left (Stops cause adapters) = drop 1 adapters
stops_left _ = []

-- behind a stop for memory every other adapter that is not finished is stopped too
abbrev pub stops_behind : Inputs → State → ℕ → Cause → List ℕ
stops_behind c s a cause.Memory = filter (λ b. nat_lt a b) (unfinished c s)
stops_behind c s a _ = stops_left s.next

abbrev pub call_next : Inputs → State → CtxNo → List ℕ → Did → Next
call_next c s x words (Broken rule) = stops c s x (breach rule)
call_next c s x words (Waits wait) = waiting wait
  where
    waiting : Wait → Next
    waiting (OnLock lock) = Spinning x lock
    waiting _ = Free
call_next c s x words (Made es lent writes) = Makes x es lent

abbrev pub leave_next : Inputs → State → CtxNo → Drawn → Next
leave_next c s x (Breaking rule) = stops c s x (breach rule)
leave_next c s x (Draws es) = Verdicts es

abbrev pub takes : Option ℕ → Next
takes None = Free
takes (Some j) = Takes (entries.Back (record { 0 = j }) false)

abbrev pub enter_next : State → ℕ → Handler → List ℕ → Next
enter_next s a handler.ReturnPacket words = takes (loan_named s a words)
enter_next s a _ words = Free

abbrev pub spent : Inputs → State → CtxNo → Bool → Next
spent c s x true = stops c s x cause.Budget
spent c s x false = Free

-- what was due has come
abbrev pub popped : Next → Next
popped (Verdicts es) = Verdicts (drop 1 es)
popped (Makes x es lent) = Makes x (drop 1 es) (drop 1 lent)
popped (Stops cause adapters) = Stops cause adapters
popped _ = Free

abbrev pub next_after : Inputs → State → Entry → Next
next_after c s (entries.Enter a x h words writes) = enter_next s (number_in c a) h words
next_after c s (entries.Leave x eax) = leave_next c s x (leaves c s x eax)
next_after c s (entries.Fault x kind address) = stops c s x (breach 8)
next_after c s (entries.Turn x n) = spent c s x (reaches c s x n)
next_after c s (entries.Call x import words) = call_next c s x words (did s x import words)
next_after c s (entries.Reply x eax writes) = spent c s x (reaches c s x (cost_of s x (record { eax = eax; writes = writes })))
next_after c s (entries.Stop a cause) = Stops cause (stops_behind c s a.0 cause)
next_after c s _ = popped s.next

-- ---- the owner machine: a leave that breaks a rule says it nothing, and behind a reply it knows which handlers the miniport has

abbrev pub registered : State → Owner → Owner
registered s o = with_handlers (has_handler s handler.CancelSend) (has_handler s handler.PnpEvent) o

abbrev pub owner_left : Owner → Entry → Bool → Owner
owner_left o e true = said_nothing o
owner_left o e false = owners.after o e

abbrev pub owner_after : Inputs → State → State → Entry → Owner
owner_after c s t (entries.Leave x eax) = owner_left s.owner (entries.Leave x eax) (is_breaking (leaves c s x eax))
owner_after c s t (entries.Reply x eax writes) = registered t (owners.after s.owner (entries.Reply x eax writes))
owner_after c s t e = owners.after s.owner e

-- what an entry leaves
abbrev pub after : Inputs → State → Entry → State
after c s e = let t = effect c s e in record t { owner = owner_after c s t e; expired = expired_after s.expired e; next = next_after c s e }
