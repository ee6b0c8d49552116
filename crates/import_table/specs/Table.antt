-- The functions of NDIS, HAL and the kernel that a miniport image may import: of each its number, how many words of four bytes it takes, its calling
-- convention, and the levels (IRQL) at which it may be called. Names, words and conventions are those of the Windows DDK for x86 (ndis.h, wdm.h); the numbers
-- are those of the log's table of names; levels are the DDK's for each call, where it names PASSIVE_LEVEL, DISPATCH_LEVEL, or any level up to a device's.
use Rattle.std.specs.Prelude.{ℕ, ◌-◌, List, [], ◌∷◌, ◌++◌, slice_index_or, Option}
use Rattle.log_fields.specs.Codes.{find}
use Rattle.log_fields.specs.Names.{import_name, imports_all}
use Rattle.import_table.specs.declared.rows.Convention.{Convention}
use Rattle.import_table.specs.declared.rows.Convention.TheVariants.{Stdcall, Cdecl, Fastcall}
use Rattle.import_table.specs.declared.rows.ImportRow as code

pub record Row : Type 0 where
  pub name : List ℕ
  pub import : ℕ
  pub words : ℕ
  pub convention : Convention
  pub low : ℕ
  pub high : ℕ

-- a row of the code
abbrev pub seen : code.ImportRow → Row
seen r = record { name = r.name.now; import = r.import; words = r.words; convention = r.convention; low = r.low; high = r.high }

-- ---- the levels at which a call may be made: from the lowest to the highest
abbrev pub passive : ℕ × ℕ
passive = (0, 0)

abbrev pub up_to_dispatch : ℕ × ℕ
up_to_dispatch = (0, 2)

abbrev pub at_dispatch : ℕ × ℕ
at_dispatch = (2, 2)

abbrev pub up_to_device : ℕ × ℕ
up_to_device = (0, 26)

-- number, words, convention, levels
abbrev pub row : ℕ → ℕ → Convention → ℕ × ℕ → Row
row n words convention levels = record { name = import_name n; import = n; words = words; convention = convention; low = levels.0; high = levels.1 }

-- ---- the wrapper, and registration of a miniport (ndis.h)
abbrev pub registration : List Row
registration =
    row 1 4 Stdcall passive  -- NdisInitializeWrapper: gives the wrapper handle, to which all that is registered later belongs
    ∷ row 2 2 Stdcall passive  -- NdisTerminateWrapper: gives the wrapper handle back
    ∷ row 3 3 Stdcall passive  -- NdisMRegisterMiniport: registers the miniport's version and handlers
    ∷ []

-- ---- interrupt request levels (wdm.h; HAL)
abbrev pub levels : List Row
levels =
    row 4 1 Fastcall up_to_device  -- KfRaiseIrql: raises the level, and answers the old one
    ∷ row 5 1 Fastcall up_to_device  -- KfLowerIrql: lowers the level
    ∷ []

-- ---- an adapter's attributes and its configuration (ndis.h)
abbrev pub configuration : List Row
configuration =
    row 6 5 Stdcall passive  -- NdisMSetAttributesEx: sets the miniport's context, flags and hang period
    ∷ row 7 3 Stdcall passive  -- NdisOpenConfiguration: opens the adapter's parameters
    ∷ row 8 5 Stdcall passive  -- NdisReadConfiguration: reads a parameter by its keyword
    ∷ row 9 1 Stdcall passive  -- NdisCloseConfiguration: closes the adapter's parameters
    ∷ row 10 4 Stdcall passive  -- NdisReadNetworkAddress: reads the address that the user has set in place of the card's
    ∷ []

-- ---- resources: ports and the interrupt (ndis.h)
abbrev pub resources : List Row
resources =
    row 11 4 Stdcall passive  -- NdisMRegisterIoPortRange: claims I/O ports
    ∷ row 12 4 Stdcall passive  -- NdisMDeregisterIoPortRange: gives I/O ports back
    ∷ row 13 7 Stdcall passive  -- NdisMRegisterInterrupt: claims an interrupt line, and asks for its handlers
    ∷ row 14 1 Stdcall passive  -- NdisMDeregisterInterrupt: gives an interrupt line back
    ∷ row 15 3 Stdcall up_to_dispatch  -- NdisMSynchronizeWithInterrupt: runs a function that no interrupt handler overlaps
    ∷ []

-- ---- timers, and waiting (ndis.h)
abbrev pub timers : List Row
timers =
    row 16 4 Stdcall up_to_dispatch  -- NdisMInitializeTimer: makes a timer with its function
    ∷ row 17 2 Stdcall up_to_dispatch  -- NdisSetTimer: arms a timer, once
    ∷ row 18 2 Stdcall up_to_dispatch  -- NdisMSetPeriodicTimer: arms a timer, again and again
    ∷ row 19 2 Stdcall up_to_dispatch  -- NdisMCancelTimer: disarms a timer, and says whether it was armed
    ∷ row 20 1 Stdcall passive  -- NdisMSleep: waits for some microseconds
    ∷ []

-- ---- memory (ndis.h)
abbrev pub memory : List Row
memory =
    row 21 3 Stdcall up_to_dispatch  -- NdisAllocateMemoryWithTag: allocates a block of memory
    ∷ row 22 3 Stdcall up_to_dispatch  -- NdisFreeMemory: frees a block of memory
    ∷ []

-- ---- packets and buffers (ndis.h)
abbrev pub packets : List Row
packets =
    row 23 4 Stdcall up_to_dispatch  -- NdisAllocatePacketPool: makes a pool of packet descriptors
    ∷ row 24 1 Stdcall up_to_dispatch  -- NdisFreePacketPool: frees a pool of packet descriptors
    ∷ row 25 3 Stdcall up_to_dispatch  -- NdisAllocatePacket: takes a packet descriptor from its pool
    ∷ row 26 1 Stdcall up_to_dispatch  -- NdisFreePacket: puts a packet descriptor back into its pool
    ∷ row 27 3 Stdcall up_to_dispatch  -- NdisAllocateBufferPool: makes a pool of buffer descriptors
    ∷ row 28 1 Stdcall up_to_dispatch  -- NdisFreeBufferPool: frees a pool of buffer descriptors
    ∷ row 29 5 Stdcall up_to_dispatch  -- NdisAllocateBuffer: takes a buffer descriptor from its pool
    ∷ row 30 1 Stdcall up_to_dispatch  -- NdisFreeBuffer: puts a buffer descriptor back into its pool
    ∷ row 31 2 Stdcall up_to_dispatch  -- NdisUnchainBufferAtFront: takes the first buffer off a packet
    ∷ row 32 3 Stdcall up_to_dispatch  -- NdisQueryBuffer: says where a buffer's bytes are, and how many
    ∷ []

-- ---- spin locks (ndis.h)
abbrev pub locks : List Row
locks =
    row 33 1 Stdcall up_to_dispatch  -- NdisAllocateSpinLock: makes a spin lock
    ∷ row 34 1 Stdcall up_to_dispatch  -- NdisFreeSpinLock: ends a spin lock
    ∷ row 35 1 Stdcall up_to_dispatch  -- NdisAcquireSpinLock: acquires a spin lock, and raises to DISPATCH_LEVEL
    ∷ row 36 1 Stdcall up_to_dispatch  -- NdisReleaseSpinLock: releases a spin lock, and puts the level back
    ∷ row 37 1 Stdcall at_dispatch  -- NdisDprAcquireSpinLock: acquires a spin lock at DISPATCH_LEVEL
    ∷ row 38 1 Stdcall at_dispatch  -- NdisDprReleaseSpinLock: releases a spin lock at DISPATCH_LEVEL
    ∷ []

-- ---- completions and indications (ndis.h; the block's handlers)
abbrev pub completions : List Row
completions =
    row 39 3 Stdcall up_to_dispatch  -- NdisMSendComplete: completes a sent packet
    ∷ row 40 1 Stdcall up_to_dispatch  -- NdisMSendResourcesAvailable: says that packets can be sent again
    ∷ row 41 3 Stdcall up_to_dispatch  -- NdisMIndicateReceivePacket: indicates an array of received packets
    ∷ row 42 3 Stdcall up_to_dispatch  -- NdisMResetComplete: completes a reset
    ∷ row 43 2 Stdcall up_to_dispatch  -- NdisMQueryInformationComplete: completes a query
    ∷ row 44 2 Stdcall up_to_dispatch  -- NdisMSetInformationComplete: completes a set
    ∷ row 45 4 Stdcall up_to_dispatch  -- NdisMIndicateStatus: indicates a change of the adapter's status
    ∷ row 46 1 Stdcall up_to_dispatch  -- NdisMIndicateStatusComplete: ends indications of status
    ∷ row 47 8 Stdcall up_to_dispatch  -- EthFilterDprIndicateReceive: indicates the front of a received frame
    ∷ row 48 1 Stdcall up_to_dispatch  -- EthFilterDprIndicateReceiveComplete: ends indications of frames
    ∷ []

-- ---- the bus, the error log, and what else an adapter asks (ndis.h)
abbrev pub queries : List Row
queries =
    row 49 5 Stdcall up_to_dispatch  -- NdisReadPciSlotInformation: reads a PCI device's configuration space
    ∷ row 50 3 Cdecl up_to_dispatch  -- NdisWriteErrorLogEntry: writes an entry of the system's error log
    ∷ row 51 4 Stdcall passive  -- NdisMQueryAdapterResources: lists the resources of the adapter
    ∷ row 52 5 Stdcall up_to_dispatch  -- NdisGetFirstBufferFromPacket: says where a packet's first buffer and its bytes are
    ∷ []

-- ---- i/O ports (wdm.h; HAL)
abbrev pub ports : List Row
ports =
    row 53 1 Stdcall up_to_device  -- READ_PORT_UCHAR: reads a byte
    ∷ row 54 1 Stdcall up_to_device  -- READ_PORT_USHORT: reads a word of two bytes
    ∷ row 55 2 Stdcall up_to_device  -- WRITE_PORT_UCHAR: writes a byte
    ∷ row 56 2 Stdcall up_to_device  -- WRITE_PORT_USHORT: writes a word of two bytes
    ∷ row 57 3 Stdcall up_to_device  -- READ_PORT_BUFFER_UCHAR: reads bytes into a buffer
    ∷ row 58 3 Stdcall up_to_device  -- READ_PORT_BUFFER_USHORT: reads words of two bytes into a buffer
    ∷ row 59 3 Stdcall up_to_device  -- WRITE_PORT_BUFFER_UCHAR: writes the bytes of a buffer
    ∷ row 60 3 Stdcall up_to_device  -- WRITE_PORT_BUFFER_USHORT: writes the words of two bytes of a buffer
    ∷ []

-- ---- the run-time (wdm.h, HAL; ntoskrnl)
abbrev pub run_time : List Row
run_time =
    row 61 1 Stdcall up_to_device  -- KeStallExecutionProcessor: waits without giving the processor up
    ∷ row 62 3 Cdecl up_to_device  -- memcpy: copies bytes
    ∷ row 63 3 Cdecl up_to_device  -- memset: fills bytes
    ∷ row 64 1 Cdecl up_to_device  -- DbgPrint: prints to the debugger
    ∷ []

-- ---- all of them, in the order of their numbers
unfoldable pub rows : List Row
rows = registration ++ levels ++ configuration ++ resources ++ timers ++ memory ++ packets ++ locks ++ completions ++ queries ++ ports ++ run_time

abbrev pub no_row : Row
no_row = row 0 0 Stdcall passive

-- the row of a number, from 1
unfoldable pub row_of : ℕ → Row
row_of n = slice_index_or rows (n - 1) no_row

-- the number of a name
unfoldable pub number_of : List ℕ → Option ℕ
number_of name = find import_name imports_all name
