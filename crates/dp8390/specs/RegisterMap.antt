-- Which register stands at which port (DP8390 data sheet, "Register Address Assignments"). Ports are relative to the card's.
use Rattle.std.specs.Prelude.{ℕ, ◌==◌, if◌then◌else◌, List, [], ◌∷◌, slice_index_or}
use Rattle.dp8390.specs.declared.register_map.Register.{Register}
use Rattle.dp8390.specs.declared.register_map.Register.TheVariants.{Command, PageStart, PageStop, Boundary, TransmitStatus, TransmitPage, Collisions, TransmitCountLow, TransmitCountHigh, InterruptStatus, RemoteAddressLow, RemoteAddressHigh, RemoteCountLow, RemoteCountHigh, ReceiveStatus, ReceiveConfiguration, TransmitConfiguration, DataConfiguration, InterruptMask, AlignmentErrors, ChecksumErrors, MissedPackets, Current, Physical, Multicast, Reserved}
use Rattle.dp8390.specs.declared.register_map.Row.{Row}

abbrev pub row : Register → Register → Register → Row
row read write page_1 = record { read = read; write = write; page_1 = page_1 }

-- the registers at ports 0 to F: where page 0 is read, where page 0 is written, and of page 1
abbrev pub register_map : List Row
register_map =
    row Command Command Command
    ∷ row Reserved PageStart (Physical 0)
    ∷ row Reserved PageStop (Physical 1)
    ∷ row Boundary Boundary (Physical 2)
    ∷ row TransmitStatus TransmitPage (Physical 3)
    ∷ row Collisions TransmitCountLow (Physical 4)
    ∷ row Reserved TransmitCountHigh (Physical 5)
    ∷ row InterruptStatus InterruptStatus Current
    ∷ row RemoteAddressLow RemoteAddressLow (Multicast 0)
    ∷ row RemoteAddressHigh RemoteAddressHigh (Multicast 1)
    ∷ row Reserved RemoteCountLow (Multicast 2)
    ∷ row Reserved RemoteCountHigh (Multicast 3)
    ∷ row ReceiveStatus ReceiveConfiguration (Multicast 4)
    ∷ row AlignmentErrors TransmitConfiguration (Multicast 5)
    ∷ row ChecksumErrors DataConfiguration (Multicast 6)
    ∷ row MissedPackets InterruptMask (Multicast 7)
    ∷ []

abbrev pub row_at : ℕ → Row
row_at port = slice_index_or register_map port (row Reserved Reserved Reserved)

-- the command register stands on every page; pages 2 and 3 have nothing else
abbrev pub read_at : ℕ → ℕ → Register
read_at page port =
    if port == 0 then Command
    else if page == 0 then (row_at port).read
    else if page == 1 then (row_at port).page_1
    else Reserved

abbrev pub write_at : ℕ → ℕ → Register
write_at page port =
    if port == 0 then Command
    else if page == 0 then (row_at port).write
    else if page == 1 then (row_at port).page_1
    else Reserved
