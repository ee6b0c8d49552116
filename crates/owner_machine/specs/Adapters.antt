-- Adapters and their drivers: bindings, cancels and events, resets, stops.
use Rattle.std.specs.Prelude.{ℕ, ◌+◌, Bool, true, false, ◌&&◌, ◌||◌, ◌==◌, not, cond, List, [], ◌∷◌, ◌++◌, count_by, nat_le}
use Rattle.std.specs.List.{list_all}
use Rattle.nd_base.specs.declared.numbers.Phase.TheVariants.{Running, Resetting, Stopped}
use Rattle.owner_machine.specs.declared.rows.Adapter.{Adapter}
use Rattle.owner_machine.specs.declared.rows.Driver.{Driver}
use Rattle.owner_machine.specs.declared.rows.Context.{Context}
use Rattle.owner_machine.specs.declared.rows.Binding.TheVariants.{Bound, HasBeen}
use Rattle.owner_machine.specs.declared.rows.Next.{Next}
use Rattle.owner_machine.specs.declared.rows.Next.TheVariants.{Left}
use Rattle.owner_machine.specs.State.{Owner, at, is_unbound, is_running, is_resetting, is_stopped, phase_is, bound, adapter_of}
use Rattle.owner_machine.specs.Contexts.{in_call, none_runs, is_serial, is_reset, is_free, freed, entry_freed, reset_complete}
use Rattle.owner_machine.specs.Packets.{sent_by, held_with_id}
use Rattle.owner_machine.specs.Loans.{holds}
use Rattle.owner_machine.specs.Requests.{asked_by}

-- ---- bindings (DDK, NdisOpenAdapter, NdisCloseAdapter)

-- once, and to its own adapter
abbrev pub may_bind : Owner → (b a : ℕ) → Bool
may_bind o b a = at (λ d. is_unbound d.binding && (d.adapter.0 == a)) o.drivers b

-- what a driver waits for or holds still
abbrev pub waits_for : Owner → ℕ → ℕ
waits_for o b = count_by (sent_by b) o.packets + count_by (holds b) o.loans + count_by (asked_by b) o.requests

abbrev pub may_unbind : Owner → ℕ → Bool
may_unbind o b = bound o b && (waits_for o b == 0)

abbrev pub bound_now : Driver → Driver
bound_now d = record d { binding = Bound; filter = 0; list = [] }

abbrev pub unbound_now : Driver → Driver
unbound_now d = record d { binding = HasBeen; filter = 0; list = [] }

-- ---- cancels and events (DDK, NdisCancelSendPackets, MiniportCancelSendPackets, MiniportPnPEventNotify)

abbrev pub lives : Owner → ℕ → Bool
lives o a = phase_is is_running o a || phase_is is_resetting o a

abbrev pub may_cancel : Owner → (b id : ℕ) → Bool
may_cancel o b id = bound o b && not (id == 0)

-- the miniport is to hear of it: it has a handler for it, and holds such a packet
abbrev pub cancel_waits : Owner → (b id : ℕ) → Bool
cancel_waits o b id = lives o (adapter_of o b) && (o.cancelsend && not (count_by (held_with_id b id) o.packets == 0))

abbrev pub with_cancel : Bool → ℕ → Adapter → Adapter
with_cancel waits id row = record row { cancels = cond waits (row.cancels ++ id ∷ []) row.cancels }

abbrev pub same_answer : Bool → Bool → Bool
same_answer true b = b
same_answer false b = not b

-- of at most 256 bytes; taken exactly where the adapter lives and its miniport has a handler for it
abbrev pub may_signal : Owner → (b bytes : ℕ) → Bool → Bool
may_signal o b bytes taken = bound o b && (nat_le bytes 256 && same_answer taken (lives o (adapter_of o b) && o.pnpevent))

abbrev pub with_event : Bool → ℕ → List ℕ → Adapter → Adapter
with_event taken number bytes row = record row { events = cond taken (row.events ++ record { number = number; bytes = bytes } ∷ []) row.events }

-- ---- resets (DDK, MiniportCheckForHang, MiniportReset, NdisMResetComplete)

-- where one is owed, and its handler can be entered
abbrev pub may_begin_reset : Owner → ℕ → Bool
may_begin_reset o a = at (λ row. is_running row.phase && row.owes_reset) o.adapters a && (none_runs o is_serial a && not (count_by is_free o.contexts == 0))

abbrev pub left_reset : Next → ℕ → Bool
left_reset (Left adapter handler _ _) a = (adapter.0 == a) && is_reset handler
left_reset _ a = false

abbrev pub may_end_reset : Owner → ℕ → Bool
may_end_reset o a = phase_is is_resetting o a && (in_call o a reset_complete || left_reset o.next a)

abbrev pub reset_begun : Adapter → Adapter
reset_begun row = record row { phase = Resetting; owes_reset = false }

abbrev pub reset_ended : Adapter → Adapter
reset_ended row = record row { phase = Running }

-- ---- packets that were given back hold back the others until the miniport has resources

abbrev pub held_back_now : Adapter → Adapter
held_back_now row = record row { held_back = true }

-- ---- stops

abbrev pub stopped : Adapter → Adapter
stopped row = record row { phase = Stopped; held_back = false; owes_reset = false; cancels = []; events = [] }

abbrev pub all_stopped : List Adapter → Bool
all_stopped rows = list_all (λ row. is_stopped row.phase) rows

-- its contexts go; with the last adapter that of DriverEntry goes too
abbrev pub contexts_stopped : List Context → ℕ → (all : Bool) → List Context
contexts_stopped contexts a true = entry_freed (freed a contexts)
contexts_stopped contexts a false = freed a contexts
