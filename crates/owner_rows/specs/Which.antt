-- Some packets, loans or requests that are not done.
use Rattle.std.specs.Prelude.{Bool}
use Rattle.owner_machine.specs.declared.rows.Packet.{Packet}
use Rattle.owner_machine.specs.declared.rows.Loan.{Loan}
use Rattle.owner_machine.specs.declared.rows.Request.{Request}
use Rattle.owner_machine.specs.Packets.{out_of, queued_of, held_of, sent_by, queued_with_id, held_with_id}
use Rattle.owner_machine.specs.Loans.{away_of, due_of, holds}
use Rattle.owner_machine.specs.Requests.{open_of, asked_of, handed_of, asked_by}
use Rattle.owner_rows.specs.declared.packets.WhichPackets.{WhichPackets}
use Rattle.owner_rows.specs.declared.packets.WhichPackets.TheVariants.{OutOf, QueuedOf, HeldOf, SentBy, QueuedWith, HeldWith}
use Rattle.owner_rows.specs.declared.loans.WhichLoans.{WhichLoans}
use Rattle.owner_rows.specs.declared.loans.WhichLoans.TheVariants.{AwayOf, DueOf, HeldBy}
use Rattle.owner_rows.specs.declared.requests.WhichRequests.{WhichRequests}
use Rattle.owner_rows.specs.declared.requests.WhichRequests.TheVariants.{OpenOf, AskedOf, HandedOf, AskedBy}

abbrev pub which_packets : WhichPackets → Packet → Bool
which_packets (OutOf a) = out_of a
which_packets (QueuedOf a) = queued_of a
which_packets (HeldOf a) = held_of a
which_packets (SentBy b) = sent_by b
which_packets (QueuedWith b id) = queued_with_id b id
which_packets (HeldWith b id) = held_with_id b id

abbrev pub which_loans : WhichLoans → Loan → Bool
which_loans (AwayOf a) = away_of a
which_loans (DueOf a) = due_of a
which_loans (HeldBy b) = holds b

abbrev pub which_requests : WhichRequests → Request → Bool
which_requests (OpenOf a) = open_of a
which_requests (AskedOf a) = asked_of a
which_requests (HandedOf a) = handed_of a
which_requests (AskedBy b) = asked_by b
