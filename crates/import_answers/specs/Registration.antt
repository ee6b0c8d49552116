-- Imports 1, 2, 3 and 6: the wrapper, the miniport and an adapter's attributes. (Windows DDK, ndis.h: NdisInitializeWrapper, NdisTerminateWrapper,
-- NdisMRegisterMiniport with NDIS_MINIPORT_CHARACTERISTICS, NdisMSetAttributesEx.)
use Rattle.std.specs.Prelude.{ℕ, ◌+◌, ◌*◌, ◌/◌, ◌%◌, max, min, Bool, true, false, ◌&&◌, ◌||◌, ◌==◌, not, nat_le, nat_lt, if◌then◌else◌, List, [], ◌∷◌, map, slice_index, slice_index_or, Option, Some, Result, Ok, Err, is_some}
use Rattle.std.specs.List.{list_all, range_with_len}
use Rattle.nd_base.specs.declared.numbers.Slot.TheVariants.{Leave}
use Rattle.nd_mem.specs.Space.{Cells, bytes_from}
use Rattle.packet_chain.specs.Chain.{word_at}
use Rattle.guest_map.specs.Handles.{wrapper}
use Rattle.guest_map.specs.Slots.{slot_address}
use Rattle.log_fields.specs.declared.field_values.Handler.{Handler}
use Rattle.log_fields.specs.declared.field_values.Handler.TheVariants as handler
use Rattle.import_answers.specs.Statuses.{success, failure, bad_version, bad_characteristics}
use Rattle.nd_base.specs.declared.numbers.AdapterNo.{AdapterNo}
use Rattle.guest_world.specs.declared.adapters.Attributes.{Attributes}
use Rattle.guest_world.specs.declared.miniport.Miniport.{Miniport}
use Rattle.guest_world.specs.declared.world.World.{World}
use Rattle.guest_world.specs.declared.answer.Caller.{Caller}
use Rattle.guest_world.specs.Worlds.{with_adapter, longest_time}
use Rattle.import_answers.specs.World.{cells, word, is_adapter_handle}
use Rattle.import_answers.specs.Outcomes.{Outcome, arguments_rule, asks, can_read, can_write, word_written, done, returns, writes}

-- ---- NdisInitializeWrapper(wrapper handle, three words of the system's)
abbrev pub initialize_wrapper : World → List ℕ → Outcome
initialize_wrapper w words = asks (can_write w (word words 1) 4) arguments_rule (writes w (word_written (word words 1) wrapper ∷ []))

-- ---- NdisTerminateWrapper(wrapper handle, a word of the system's)
abbrev pub terminate_wrapper : World → List ℕ → Outcome
terminate_wrapper w words = done w

-- ---- NdisMRegisterMiniport(wrapper handle, characteristics, their length)

-- where a handler's address stands in the characteristics
abbrev pub offset_of_handler : Handler → ℕ
offset_of_handler handler.CheckForHang = 8
offset_of_handler handler.DisableInterrupt = 12
offset_of_handler handler.EnableInterrupt = 16
offset_of_handler handler.Halt = 20
offset_of_handler handler.HandleInterrupt = 24
offset_of_handler handler.Initialize = 28
offset_of_handler handler.Isr = 32
offset_of_handler handler.Query = 36
offset_of_handler handler.Reset = 44
offset_of_handler handler.Send = 48
offset_of_handler handler.Set = 52
offset_of_handler handler.TransferData = 56
offset_of_handler handler.ReturnPacket = 60
offset_of_handler handler.SendPackets = 64
offset_of_handler handler.CancelSend = 96
offset_of_handler handler.PnpEvent = 100
offset_of_handler handler.Shutdown = 104
offset_of_handler _ = 0

-- how long the characteristics of NDIS 5.0 and of 5.1 are
abbrev pub length_of_version : ℕ → ℕ
length_of_version minor = if minor == 0 then 96 else 108

-- how many words those of 5.1 have
abbrev pub most_words : ℕ
most_words = 27

-- what stands at an address: the versions in the first two bytes, and words, of which those that the version lacks are 0
abbrev pub major_at : Cells → ℕ → ℕ
major_at cells a = slice_index (bytes_from cells a 2) 0

abbrev pub minor_at : Cells → ℕ → ℕ
minor_at cells a = slice_index (bytes_from cells a 2) 1

abbrev pub word_read : Cells → ℕ → ℕ → ℕ → ℕ
word_read cells a minor k = if nat_lt (4 * k) (length_of_version minor) then word_at cells (a + 4 * k) else 0

abbrev pub miniport_at : Cells → ℕ → Miniport
miniport_at cells a = record { minor = minor_at cells a; words = map (word_read cells a (minor_at cells a)) (range_with_len 0 most_words) }

-- a handler's address; 0 where the version has no such handler
abbrev pub handler_of : Miniport → Handler → ℕ
handler_of m h = if offset_of_handler h == 0 then 0 else slice_index_or m.words (offset_of_handler h / 4) 0

abbrev pub has_handler : Miniport → Handler → Bool
has_handler m h = not (handler_of m h == 0)

-- the address that handlers return to is none of a function
abbrev pub is_function : ℕ → Bool
is_function a = not (a == slot_address Leave)

-- the handlers that stand in the characteristics
abbrev pub handlers_read : List Handler
handlers_read =
    handler.CheckForHang
    ∷ handler.DisableInterrupt
    ∷ handler.EnableInterrupt
    ∷ handler.Halt
    ∷ handler.HandleInterrupt
    ∷ handler.Initialize
    ∷ handler.Isr
    ∷ handler.Query
    ∷ handler.Reset
    ∷ handler.Send
    ∷ handler.Set
    ∷ handler.TransferData
    ∷ handler.ReturnPacket
    ∷ handler.SendPackets
    ∷ handler.CancelSend
    ∷ handler.PnpEvent
    ∷ handler.Shutdown
    ∷ []

abbrev pub has_functions : Miniport → Bool
has_functions m = list_all (λ h. is_function (handler_of m h)) handlers_read

-- the handlers that a miniport can't be without
abbrev pub has_needed : Miniport → Bool
has_needed m =
    list_all (has_handler m) (handler.Halt ∷ handler.Initialize ∷ handler.Query ∷ handler.Reset ∷ handler.Set ∷ [])
    && (has_handler m handler.Send || has_handler m handler.SendPackets)

abbrev pub is_driver_entry : Handler → Bool
is_driver_entry handler.DriverEntry = true
is_driver_entry _ = false

-- the miniport that characteristics of a length register, or the status of those that register none
abbrev pub judged : Cells → ℕ → ℕ → Result Miniport ℕ
judged cells a length =
    let m = miniport_at cells a in
    if not ((major_at cells a == 5) && nat_le m.minor 1) then Err bad_version
    else if nat_lt length (length_of_version m.minor) then Err bad_characteristics
    else if has_needed m && has_functions m then Ok m
    else Err bad_characteristics

abbrev pub registers : World → Result Miniport ℕ → Outcome
registers w (Ok m) = returns (record w { miniport = Some m }) success
registers w (Err status) = returns w status

-- the versions are read whatever the length
abbrev pub register_miniport : World → Caller → List ℕ → Outcome
register_miniport w x words =
    if not (is_driver_entry x.handler) || is_some w.miniport then returns w failure
    else asks (can_read w (word words 2) (max 2 (word words 3))) arguments_rule (registers w (judged (cells w) (word words 2) (word words 3)))

-- ---- NdisMSetAttributesEx(adapter handle, context, seconds between hang checks, flags, bus type)

abbrev pub is_initialize : Handler → Bool
is_initialize handler.Initialize = true
is_initialize _ = false

-- 2 seconds, where none are given
abbrev pub hang_period : ℕ → ℕ
hang_period seconds = if seconds == 0 then 2000000 else min (seconds * 1000000) longest_time

-- NDIS_ATTRIBUTE_DESERIALIZE
abbrev pub is_deserialized : ℕ → Bool
is_deserialized flags = nat_lt 0 ((flags / 0x20) % 2)

abbrev pub attributes : List ℕ → Attributes
attributes words = record { context = word words 2; hang_period = hang_period (word words 3); deserialized = is_deserialized (word words 4) }

abbrev pub with_attributes : World → Option AdapterNo → Attributes → World
with_attributes w a given = with_adapter w a (λ adapter. record adapter { attributes = Some given })

abbrev pub set_attributes : World → Caller → List ℕ → Outcome
set_attributes w x words =
    asks (is_adapter_handle x.adapter (word words 1)) arguments_rule
    (done (if is_initialize x.handler then with_attributes w x.adapter (attributes words) else w))
