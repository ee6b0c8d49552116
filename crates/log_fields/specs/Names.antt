-- The names in a log: the project's own; an import's is that of the DDK, ntoskrnl or hal.
use Rattle.std.specs.Prelude.{ℕ, zero, suc, ◌≡◌, ◌+◌, ◌-◌, ◌≤◌, slice_index_or, List, [], ◌∷◌, Some, codes}
use Rattle.log_fields.specs.Codes.{find}
use Rattle.log_fields.specs.declared.field_values.Handler.{Handler}
use Rattle.log_fields.specs.declared.field_values.Handler.TheVariants as handlers
use Rattle.log_fields.specs.declared.field_values.FaultKind.{FaultKind}
use Rattle.log_fields.specs.declared.field_values.FaultKind.TheVariants as faults
use Rattle.log_fields.specs.declared.names.CauseKind.{CauseKind}
use Rattle.log_fields.specs.declared.names.CauseKind.TheVariants as causes
use Rattle.log_fields.specs.declared.names.ConditionKind.{ConditionKind}
use Rattle.log_fields.specs.declared.names.ConditionKind.TheVariants as whats
use Rattle.log_fields.specs.declared.names.TheConstants.{CAUSES, WHATS, HANDLERS, FAULTS}

unfoldable pub handler_name : Handler → List ℕ
handler_name handlers.DriverEntry = codes "driverentry"
handler_name handlers.Initialize = codes "initialize"
handler_name handlers.Halt = codes "halt"
handler_name handlers.Reset = codes "reset"
handler_name handlers.CheckForHang = codes "checkforhang"
handler_name handlers.Isr = codes "isr"
handler_name handlers.DisableInterrupt = codes "disableinterrupt"
handler_name handlers.EnableInterrupt = codes "enableinterrupt"
handler_name handlers.HandleInterrupt = codes "handleinterrupt"
handler_name handlers.Timer = codes "timer"
handler_name handlers.Sync = codes "sync"
handler_name handlers.Send = codes "send"
handler_name handlers.SendPackets = codes "sendpackets"
handler_name handlers.ReturnPacket = codes "returnpacket"
handler_name handlers.Query = codes "query"
handler_name handlers.Set = codes "set"
handler_name handlers.TransferData = codes "transferdata"
handler_name handlers.CancelSend = codes "cancelsend"
handler_name handlers.PnpEvent = codes "pnpevent"
handler_name handlers.Shutdown = codes "shutdown"

unfoldable pub handlers_all : List Handler
handlers_all = HANDLERS

unfoldable pub fault_name : FaultKind → List ℕ
fault_name faults.Divide = codes "divide"
fault_name faults.Outside = codes "outside"
fault_name faults.Unmapped = codes "unmapped"
fault_name faults.NotReadable = codes "notreadable"
fault_name faults.NotWritable = codes "notwritable"
fault_name faults.NotExecutable = codes "notexecutable"

unfoldable pub faults_all : List FaultKind
faults_all = FAULTS

unfoldable pub import_names : List (List ℕ)
import_names = codes "NdisInitializeWrapper" ∷ codes "NdisTerminateWrapper" ∷ codes "NdisMRegisterMiniport" ∷ codes "KfRaiseIrql" ∷ codes "KfLowerIrql" ∷ codes "NdisMSetAttributesEx" ∷ codes "NdisOpenConfiguration" ∷ codes "NdisReadConfiguration" ∷ codes "NdisCloseConfiguration" ∷ codes "NdisReadNetworkAddress" ∷ codes "NdisMRegisterIoPortRange" ∷ codes "NdisMDeregisterIoPortRange" ∷ codes "NdisMRegisterInterrupt" ∷ codes "NdisMDeregisterInterrupt" ∷ codes "NdisMSynchronizeWithInterrupt" ∷ codes "NdisMInitializeTimer" ∷ codes "NdisSetTimer" ∷ codes "NdisMSetPeriodicTimer" ∷ codes "NdisMCancelTimer" ∷ codes "NdisMSleep" ∷ codes "NdisAllocateMemoryWithTag" ∷ codes "NdisFreeMemory" ∷ codes "NdisAllocatePacketPool" ∷ codes "NdisFreePacketPool" ∷ codes "NdisAllocatePacket" ∷ codes "NdisFreePacket" ∷ codes "NdisAllocateBufferPool" ∷ codes "NdisFreeBufferPool" ∷ codes "NdisAllocateBuffer" ∷ codes "NdisFreeBuffer" ∷ codes "NdisUnchainBufferAtFront" ∷ codes "NdisQueryBuffer" ∷ codes "NdisAllocateSpinLock" ∷ codes "NdisFreeSpinLock" ∷ codes "NdisAcquireSpinLock" ∷ codes "NdisReleaseSpinLock" ∷ codes "NdisDprAcquireSpinLock" ∷ codes "NdisDprReleaseSpinLock" ∷ codes "NdisMSendComplete" ∷ codes "NdisMSendResourcesAvailable" ∷ codes "NdisMIndicateReceivePacket" ∷ codes "NdisMResetComplete" ∷ codes "NdisMQueryInformationComplete" ∷ codes "NdisMSetInformationComplete" ∷ codes "NdisMIndicateStatus" ∷ codes "NdisMIndicateStatusComplete" ∷ codes "EthFilterDprIndicateReceive" ∷ codes "EthFilterDprIndicateReceiveComplete" ∷ codes "NdisReadPciSlotInformation" ∷ codes "NdisWriteErrorLogEntry" ∷ codes "NdisMQueryAdapterResources" ∷ codes "NdisGetFirstBufferFromPacket" ∷ codes "READ_PORT_UCHAR" ∷ codes "READ_PORT_USHORT" ∷ codes "WRITE_PORT_UCHAR" ∷ codes "WRITE_PORT_USHORT" ∷ codes "READ_PORT_BUFFER_UCHAR" ∷ codes "READ_PORT_BUFFER_USHORT" ∷ codes "WRITE_PORT_BUFFER_UCHAR" ∷ codes "WRITE_PORT_BUFFER_USHORT" ∷ codes "KeStallExecutionProcessor" ∷ codes "memcpy" ∷ codes "memset" ∷ codes "DbgPrint" ∷ []

unfoldable pub import_name : ℕ → List ℕ
import_name n = slice_index_or import_names (n - 1) []

-- n numbers from k on
unfoldable pub counted : ℕ → ℕ → List ℕ
counted k zero = []
counted k (suc n) = k ∷ counted (k + 1) n

unfoldable pub imports_all : List ℕ
imports_all = counted 1 64

unfoldable pub cause_name : CauseKind → List ℕ
cause_name causes.Breach = codes "breach"
cause_name causes.Budget = codes "budget"
cause_name causes.Memory = codes "memory"

unfoldable pub causes_all : List CauseKind
causes_all = CAUSES

unfoldable pub what_name : ConditionKind → List ℕ
what_name whats.Up = codes "up"
what_name whats.Sent = codes "sent"
what_name whats.Replies = codes "replies"
what_name whats.Frames = codes "frames"
what_name whats.Room = codes "room"
what_name whats.All = codes "all"

unfoldable pub whats_all : List ConditionKind
whats_all = WHATS

-- each name is found in its table, at what it names
pub record NamesAreFound : Type 0 where
  pub handlers : (h : Handler) → find handler_name handlers_all (handler_name h) ≡ Some h
  pub faults : (f : FaultKind) → find fault_name faults_all (fault_name f) ≡ Some f
  pub causes : (c : CauseKind) → find cause_name causes_all (cause_name c) ≡ Some c
  pub conditions : (w : ConditionKind) → find what_name whats_all (what_name w) ≡ Some w
  pub imports : (n : ℕ) → 1 ≤ n → n ≤ 64 → find import_name imports_all (import_name n) ≡ Some n
