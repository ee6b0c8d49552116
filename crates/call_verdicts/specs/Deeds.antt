-- What a call does, as it is told, and what can be read of memory for it.
use Rattle.std.specs.Prelude.{◌≡◌, ◌*◌, ℕ, ⊤, true, false, if◌then◌else◌, List, [], ◌∷◌, Option, None, Some, Result, Ok, Err, slice_get}
use Rattle.std.specs.Option.{option_and_then}
use Rattle.nd_base.specs.declared.numbers.AdapterNo.{AdapterNo}
use Rattle.nd_base.specs.declared.numbers.Breach.{Breach}
use Rattle.log_fields.specs.declared.write.Write.{Write}
use Rattle.packet_pool.specs.declared.states.Kind.TheVariants.{Packet}
use Rattle.packet_pool.specs.LiveSet.{is_out}
use Rattle.owner_machine.specs.declared.rows.Request.{Request}
use Rattle.owner_machine.specs.Contexts.{indicate_receive_packet, query_complete, set_complete}
use Rattle.guest_world.specs.declared.world.World.{World}
use Rattle.import_answers.specs.World.{word}
use Rattle.import_answers.specs.Outcomes.{can_read}
use Rattle.legal_run.specs.State.{State}
use Rattle.legal_run.specs.Calls.{Did, Broken, Waits, Made, Walked, Fell, onto, handed_request, is_port_call, is_read, moves_buffer, width_of}
use Rattle.legal_run.specs.Laws.{CallKeeps}
use Rattle.miniport_state.specs.Views.{wait_of}
use Rattle.verdict_parts.specs.Places.{CanAnswer, HasStatus}
use Rattle.call_verdicts.specs.declared.lendings.Lending.{Lending}
use Rattle.call_verdicts.specs.declared.deeds.Deed.{Deed}
use Rattle.call_verdicts.specs.declared.deeds.Deed.TheVariants as deeds

abbrev pub did_as : Deed → Did
did_as (deeds.Broken rule) = Broken rule.0
did_as (deeds.Waits wait) = Waits (wait_of wait)
did_as (deeds.Made entries lent writes) = Made entries.items lent.items writes

-- ---- what a packet of an array makes, in front of what those behind it make: where its loan is home at once, and where it goes out

abbrev pub writes_of : Option Write → List Write
writes_of None = []
writes_of (Some write) = write ∷ []

abbrev pub judged_as : Result Lending Breach → ℕ → (home gone : Walked) → Walked
judged_as (Err rule) packet home gone = Fell rule.0
judged_as (Ok told) packet home gone = onto told.entry packet (writes_of told.status) (if told.goes then gone else home)

-- ---- what can be read

-- what answers the adapter's request that is handed can be read
abbrev pub CanEnd : State → ℕ → Type 0
CanEnd s a = (row : Request) → option_and_then (λ r. slice_get s.owner.requests r) (handed_request s a) ≡ Some row → CanAnswer s a row.question

-- the status of each packet of the pools that is out can be read
abbrev pub CanLend : State → Type 0
CanLend s = (packet : ℕ) → is_out s.world.pools Packet packet ≡ true → HasStatus s packet

-- the buffer that is written to a port can be read
abbrev pub CanMove : State → ℕ → List ℕ → Type 0
CanMove s import words =
    is_read import ≡ false → moves_buffer import ≡ true → can_read s.world (word words 2) (width_of import * word words 3) ≡ true

-- The world behind the answer of a call: what it says of memory and of the adapters is as it was; of an indication, and of a completion of a request, it
-- is the state's own. What is read for the call can be read there.
pub record IsBehind (s : State) (import : ℕ) (words : List ℕ) (w : World) : Type 0 where
  pub keeps : CallKeeps s.world w
  pub indicates : import ≡ indicate_receive_packet → w ≡ s.world
  pub queries : import ≡ query_complete → w ≡ s.world
  pub sets : import ≡ set_complete → w ≡ s.world
  pub array : import ≡ indicate_receive_packet → can_read s.world (word words 2) (4 * word words 3) ≡ true
  pub buffer : is_port_call import ≡ true → CanMove s import words

-- what is read for a call of an adapter: for one that ends a request, and for an indication
pub record CanMake (s : State) (a import : ℕ) : Type 0 where
  pub queries : import ≡ query_complete → CanEnd s a
  pub sets : import ≡ set_complete → CanEnd s a
  pub lends : import ≡ indicate_receive_packet → CanLend s

-- what is read for a call of an adapter, or of DriverEntry, can be read
abbrev pub CanServe : State → Option AdapterNo → ℕ → Type 0
CanServe s None import = ⊤
CanServe s (Some a) import = CanMake s a.0 import
