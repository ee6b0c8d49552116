-- What is on loan in the states of a run. Each of the last types is the contract of a function of src/laws.rt that does nothing. (Windows DDK:
-- NdisMIndicateReceivePacket, NdisReturnPackets, MiniportReturnPacket, NdisFreePacket. What a loan and a descriptor of a pool are:
-- crates/owner_machine/specs/Loans.antt, crates/packet_pool/specs/LiveSet.antt.)
use Rattle.std.specs.Prelude.{◌≡◌, ℕ, Bool, true, false, List, slice_index_or}
use Rattle.nd_base.specs.declared.numbers.AdapterNo.{AdapterNo}
use Rattle.nd_base.specs.declared.numbers.BindingNo.{BindingNo}
use Rattle.nd_base.specs.declared.numbers.LoanNo.{LoanNo}
use Rattle.packet_pool.specs.declared.states.Kind.TheVariants.{Packet}
use Rattle.packet_pool.specs.LiveSet.{LiveSet, is_out, is_lent}
use Rattle.call_log.specs.declared.entry.Entry.TheVariants as entries
use Rattle.owner_machine.specs.Loans.{away}
use Rattle.legal_run.specs.State.{Inputs, State}
use Rattle.legal_run.specs.After.{lends}
use Rattle.legal_run.specs.Run.{Meets}
use Rattle.run_facts.specs.Facts.{IsOfRun}

-- the descriptor that a loan lends
abbrev pub descriptor : State → ℕ → ℕ
descriptor s j = slice_index_or s.lent j 0

-- a packet that is out of a pool, and marked as on loan; and one that is on no loan
pub record IsOnLoan (p : LiveSet) (packet : ℕ) : Type 0 where
  pub out : is_out p Packet packet ≡ true
  pub lent : is_lent p packet ≡ true

pub record MayBeLent (p : LiveSet) (packet : ℕ) : Type 0 where
  pub out : is_out p Packet packet ≡ true
  pub kept : is_lent p packet ≡ false

pub record LentLives : Type 0 where
  -- what a loan lends is on loan for as long as the loan is away
  pub lives : (c : Inputs) (s : State) (j : ℕ) → IsOfRun c s → away s.owner j ≡ true → IsOnLoan s.world.pools (descriptor s j)
  -- and no two loans that are away lend the same
  pub apart : (c : Inputs) (s : State) (i j : ℕ) → IsOfRun c s → away s.owner i ≡ true → away s.owner j ≡ true → descriptor s i ≡ descriptor s j → i ≡ j
  -- what is indicated is out of a pool, and on no loan
  pub indicated : (c : Inputs) (s : State) (a : AdapterNo) (loan : LoanNo) (bytes : List ℕ) (holders : List BindingNo) (copied : Bool) → IsOfRun c s
      → Meets c s (entries.Indicate a loan bytes holders copied) → MayBeLent s.world.pools (lends s.next)

-- where a loan may go home its packet is on loan still, so out of its pool
abbrev pub BackIsLive : Type 0
BackIsLive =
    (c : Inputs) (s : State) (loan : LoanNo) (failed : Bool) → IsOfRun c s → Meets c s (entries.Back loan failed) → IsOnLoan s.world.pools (descriptor s loan.0)
