-- Handlers: what their enters and leaves, and the calls of imports, begin and end.
use Rattle.std.specs.Prelude.{ℕ, zero, ◌+◌, ◌/◌, ◌%◌, Bool, true, false, ◌&&◌, ◌||◌, ◌==◌, not, cond, List, [], ◌∷◌, drop, Option, Some, None, count_by, get_or}
use Rattle.nd_base.specs.declared.numbers.AdapterNo.{AdapterNo}
use Rattle.nd_base.specs.declared.numbers.Phase.{Phase}
use Rattle.nd_base.specs.declared.numbers.Phase.TheVariants.{Running, Halting, Off, Stopped}
use Rattle.log_fields.specs.declared.field_values.Handler.{Handler}
use Rattle.log_fields.specs.declared.field_values.Handler.TheVariants as handlers
use Rattle.owner_machine.specs.declared.rows.Context.{Context}
use Rattle.owner_machine.specs.declared.rows.Context.TheVariants.{Open}
use Rattle.owner_machine.specs.declared.rows.Adapter.{Adapter}
use Rattle.owner_machine.specs.declared.rows.Driver.{Driver}
use Rattle.owner_machine.specs.declared.rows.Next.{Next}
use Rattle.owner_machine.specs.declared.rows.Next.TheVariants.{Free, Handing, GoingHome, HandingAsk, Left}
use Rattle.owner_machine.specs.declared.rows.OpenCall.{OpenCall}
use Rattle.owner_machine.specs.State.{Owner, at, change, has_been, is_running, implies, phase_is, stands, pending}
use Rattle.owner_machine.specs.Contexts.{in_brackets, is_entry, is_free, is_halt, is_initialize, any_handler, none_runs, transfer_begun, set_attributes, send_complete, send_resources_available}
use Rattle.owner_machine.specs.Packets.{out_of}
use Rattle.owner_machine.specs.Loans.{away_of}
use Rattle.owner_machine.specs.Requests.{open_of}

-- ---- the end of an adapter (DDK, MiniportHalt, MiniportShutdown)

-- how much of an adapter is outstanding: packets, loans and requests
abbrev pub outstanding : Owner → ℕ → ℕ
outstanding o a = count_by (out_of a) o.packets + count_by (away_of a) o.loans + count_by (open_of a) o.requests

-- a driver of the adapter that has not unbound
abbrev pub stays_bound : ℕ → Driver → Bool
stays_bound a d = (d.adapter.0 == a) && not (has_been d.binding)

abbrev pub is_none : {A : Type 0} → List A → Bool
is_none [] = true
is_none (_ ∷ _) = false

abbrev pub nothing_waits : Adapter → Bool
nothing_waits row = is_none row.cancels && is_none row.events

-- it runs, every driver of it has unbound, nothing of it is outstanding or waits, and no handler of it is open
abbrev pub may_halt : Owner → ℕ → Bool
may_halt o a = phase_is is_running o a && ((count_by (stays_bound a) o.drivers == 0) && ((outstanding o a == 0) && (at nothing_waits o.adapters a && none_runs o any_handler a)))

-- ---- enters

-- in a free context; DriverEntry for no adapter, every other handler for one that is not stopped
abbrev pub may_enter : Owner → Option AdapterNo → ℕ → Handler → Bool
may_enter o None c h = at is_free o.contexts c && is_entry h
may_enter o (Some adapter) c h = at is_free o.contexts c && (not (is_entry h) && (stands o adapter.0 && (in_brackets o adapter.0 h && implies (is_halt h) (may_halt o adapter.0))))

abbrev pub adapter_entered : Handler → Adapter → Adapter
adapter_entered handlers.Halt row = record row { phase = Halting }
adapter_entered handlers.Shutdown row = record row { phase = Halting }
adapter_entered handlers.CancelSend row = record row { cancels = drop 1 row.cancels }
adapter_entered handlers.PnpEvent row = record row { events = drop 1 row.events }
adapter_entered _ row = row

abbrev pub adapters_entered : List Adapter → Option AdapterNo → Handler → List Adapter
adapters_entered rows (Some adapter) handler = change (adapter_entered handler) rows adapter.0
adapters_entered rows None handler = rows

abbrev pub contexts_entered : Option AdapterNo → Handler → (enter : ℕ) → List Context → List Context
contexts_entered (Some adapter) handlers.TransferData enter contexts = transfer_begun adapter.0 enter contexts
contexts_entered _ _ enter contexts = contexts

-- what stands next; of MiniportSendPackets the third word counts the array
abbrev pub behind_enter : AdapterNo → Handler → (enter : ℕ) → List ℕ → Next
behind_enter adapter handlers.Send enter words = Handing adapter enter 1
behind_enter adapter handlers.SendPackets enter words = Handing adapter enter (get_or words 2 0)
behind_enter adapter handlers.ReturnPacket enter words = GoingHome adapter
behind_enter adapter handlers.Query enter words = HandingAsk adapter enter
behind_enter adapter handlers.Set enter words = HandingAsk adapter enter
behind_enter _ _ _ _ = Free

abbrev pub next_entered : Option AdapterNo → Handler → (enter : ℕ) → List ℕ → Next
next_entered (Some adapter) handler enter words = behind_enter adapter handler enter words
next_entered None handler enter words = Free

-- ---- leaves

-- DDK, MiniportInitialize
abbrev pub initialized : (status : ℕ) → Phase → Phase
initialized status phase = cond (status == 0) Running (cond (status == pending) phase Off)

abbrev pub turned_off : Adapter → Adapter
turned_off row = record row { phase = Off; owes_reset = false }

abbrev pub adapter_left : Handler → (eax : ℕ) → Adapter → Adapter
adapter_left handlers.Initialize eax row = record row { phase = initialized eax row.phase }
adapter_left handlers.Halt _ row = turned_off row
adapter_left handlers.Shutdown _ row = turned_off row
adapter_left handlers.CheckForHang eax row = record row { owes_reset = row.owes_reset || not (eax % 256 == 0) }
adapter_left _ _ row = row

abbrev pub off_unless_stopped : Phase → Phase
off_unless_stopped Stopped = Stopped
off_unless_stopped _ = Off

-- DDK, DriverEntry of NDIS miniport drivers: another status than SUCCESS ends every adapter
abbrev pub entry_left : (eax : ℕ) → List Adapter → List Adapter
entry_left zero rows = rows
entry_left _ [] = []
entry_left eax (row ∷ rows) = record row { phase = off_unless_stopped row.phase } ∷ entry_left eax rows

-- the adapters behind the leave of that context
abbrev pub adapters_left : List Adapter → Option Context → (eax : ℕ) → List Adapter
adapters_left rows (Some (Open (Some adapter) handler _ _)) eax = change (adapter_left handler eax) rows adapter.0
adapters_left rows (Some (Open None _ _ _)) eax = entry_left eax rows
adapters_left rows _ _ = rows

abbrev pub behind_leave : Option Context → Next
behind_leave (Some (Open (Some adapter) handler enter _)) = Left adapter handler enter 0
behind_leave _ = Free

-- ---- calls

-- NdisMSendComplete and NdisMSendResourcesAvailable end the holding back, for the calling context's adapter
abbrev pub resources : ℕ → Adapter → Adapter
resources import row = record row { held_back = row.held_back && not ((import == send_complete) || (import == send_resources_available)) }

abbrev pub adapters_called : List Adapter → Option Context → (import : ℕ) → List Adapter
adapters_called rows (Some (Open (Some adapter) _ _ _)) import = change (resources import) rows adapter.0
adapters_called rows _ _ = rows

-- NdisMSetAttributesEx inside MiniportInitialize makes the adapter deserialized exactly where its flags have NDIS_ATTRIBUTE_DESERIALIZE, 0x20
abbrev pub sets_attributes : Handler → OpenCall → Bool
sets_attributes handler call = is_initialize handler && (call.import == set_attributes)

abbrev pub with_attributes : Bool → ℕ → Adapter → Adapter
with_attributes sets flags row = record row { deserialized = cond sets ((flags / 0x20) % 2 == 1) row.deserialized }

abbrev pub adapters_answered : List Adapter → Option Context → List Adapter
adapters_answered rows (Some (Open (Some adapter) handler _ (Some call))) = change (with_attributes (sets_attributes handler call) call.flags) rows adapter.0
adapters_answered rows _ = rows
