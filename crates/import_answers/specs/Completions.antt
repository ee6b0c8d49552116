-- Imports 39 to 50: completions, indications and what is only logged. What a completion or an indication does to packets, loans and requests is not
-- judged here, but which words they need. (Windows DDK, ndis.h: NdisMSendComplete, NdisMSendResourcesAvailable, NdisMIndicateReceivePacket,
-- NdisMResetComplete, NdisMQueryInformationComplete, NdisMSetInformationComplete, NdisMIndicateStatus, NdisMIndicateStatusComplete,
-- EthFilterDprIndicateReceive, EthFilterDprIndicateReceiveComplete, NdisReadPciSlotInformation, NdisWriteErrorLogEntry.)
use Rattle.std.specs.Prelude.{ℕ, ◌*◌, ◌&&◌, List}
use Rattle.packet_pool.specs.declared.states.Kind.TheVariants.{Packet}
use Rattle.guest_world.specs.declared.world.World.{World}
use Rattle.guest_world.specs.declared.answer.Caller.{Caller}
use Rattle.import_answers.specs.World.{word, is_adapter_handle}
use Rattle.import_answers.specs.Outcomes.{Outcome, Breaks, arguments_rule, live_rule, limit_rule, asks, can_read, done}
use Rattle.import_answers.specs.Descriptors.{is_live}

-- ---- NdisMSendComplete(handle, packet, status)
abbrev pub send_complete : World → Caller → List ℕ → Outcome
send_complete w x words =
    asks (is_adapter_handle x.adapter (word words 1)) arguments_rule (asks (is_live w Packet (word words 2)) live_rule (done w))

-- ---- NdisMIndicateReceivePacket(handle, array, count)
abbrev pub indicate_receive : World → Caller → List ℕ → Outcome
indicate_receive w x words =
    asks (is_adapter_handle x.adapter (word words 1) && can_read w (word words 2) (4 * word words 3)) arguments_rule (done w)

-- ---- a call that needs an adapter handle as its first word, and no more: NdisMSendResourcesAvailable, NdisMResetComplete,
-- NdisMQueryInformationComplete, NdisMSetInformationComplete, NdisMIndicateStatus, NdisMIndicateStatusComplete, NdisReadPciSlotInformation,
-- NdisWriteErrorLogEntry
abbrev pub of_adapter : World → Caller → List ℕ → Outcome
of_adapter w x words = asks (is_adapter_handle x.adapter (word words 1)) arguments_rule (done w)

-- ---- EthFilterDprIndicateReceive, EthFilterDprIndicateReceiveComplete: they are not served yet
abbrev pub not_served : World → Caller → List ℕ → Outcome
not_served w x words = asks (is_adapter_handle x.adapter (word words 1)) arguments_rule (Breaks limit_rule)
