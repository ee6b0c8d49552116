-- What is kept beside the rows of packets, loans and requests: the numbers of those that are not done, in rising order, and how many belong to
-- each adapter or driver.
use Rattle.std.specs.Prelude.{◌≡◌, ◌≤◌, ℕ, Bool, List, length}
use Rattle.owner_machine.specs.declared.rows.Packet.{Packet}
use Rattle.owner_machine.specs.declared.rows.Loan.{Loan}
use Rattle.owner_machine.specs.declared.rows.Request.{Request}
use Rattle.owner_machine.specs.State.{numbers_from}
use Rattle.owner_machine.specs.Packets.{is_out, in_slot}
use Rattle.owner_machine.specs.Loans.{is_away}
use Rattle.owner_machine.specs.Requests.{is_open}
use Rattle.owner_rows.specs.Tallies.{IsTally}

-- the most rows of a kind: 2 to the 48th
abbrev pub most_rows : ℕ
most_rows = 281_474_976_710_656

abbrev pub packet_out : Packet → Bool
packet_out p = is_out p.place

abbrev pub packet_in_slot : Packet → Bool
packet_in_slot p = in_slot p.place

abbrev pub packet_adapter : Packet → ℕ
packet_adapter p = p.adapter.0

abbrev pub packet_driver : Packet → ℕ
packet_driver p = p.driver.0

pub record KeepsPackets (rows : List Packet) (live out slots : List ℕ) : Type 0 where
  pub few : length rows ≤ most_rows
  pub numbers : live ≡ numbers_from 0 packet_in_slot rows
  pub by_adapter : IsTally packet_out packet_adapter out rows
  pub by_slot : IsTally packet_in_slot packet_driver slots rows

abbrev pub loan_away : Loan → Bool
loan_away l = is_away l.place

abbrev pub loan_adapter : Loan → ℕ
loan_adapter l = l.adapter.0

pub record KeepsLoans (rows : List Loan) (live away : List ℕ) : Type 0 where
  pub few : length rows ≤ most_rows
  pub numbers : live ≡ numbers_from 0 loan_away rows
  pub by_adapter : IsTally loan_away loan_adapter away rows

abbrev pub request_open : Request → Bool
request_open r = is_open r.place

abbrev pub request_adapter : Request → ℕ
request_adapter r = r.adapter.0

pub record KeepsRequests (rows : List Request) (live unanswered : List ℕ) : Type 0 where
  pub few : length rows ≤ most_rows
  pub numbers : live ≡ numbers_from 0 request_open rows
  pub by_adapter : IsTally request_open request_adapter unanswered rows
