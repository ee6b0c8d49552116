-- The state of a run, as what the library keeps shows it: contexts, progress and charges here; open handlers and calls in the book of owners; memory,
-- levels, clock and cards in the world of calls.
use Rattle.std.specs.Prelude.{◌≡◌, ◌<◌, ℕ, ◌+◌, ◌^◌, List, [], ◌∷◌, ◌++◌, length, slice_index_or}
use Rattle.call_log.specs.declared.entry.Entry.{Entry}
use Rattle.call_log.specs.Logs.{State as LogState}
use Rattle.guest_world.specs.declared.world.World.{World}
use Rattle.owner_machine.specs.State.{Owner}
use Rattle.legal_run.specs.Guest.{entry_point}
use Rattle.legal_run.specs.State.{Inputs, State}
use Rattle.legal_run.specs.Enters.{device_level}
use Rattle.legal_run.specs.After.{after}
use Rattle.legal_run.specs.Run.{Meets}
use Rattle.miniport_state.specs.Views.{entrance_of}
use Rattle.miniport_state.specs.declared.adapters.Adapters.{Adapters}

-- the levels of the adapters' interrupt lines
abbrev pub AreLevels : Inputs → List ℕ → Type 0
AreLevels c lines = (a : ℕ) → a < length c.adapters → slice_index_or lines a 0 ≡ device_level c a

-- a budget is below 2^32, and no charge is as large as 2^34: what reaches the budget is a turn or a reply
pub record AreSmall (budget charged : ℕ) (charges : List ℕ) : Type 0 where
  pub within : budget < 2 ^ 32
  pub own : charged < 2 ^ 34
  pub each : (a : ℕ) → slice_index_or charges a 0 < 2 ^ 34

-- contexts, progress and charges are those of the state, and what was given is that of the run
pub record Keeps (c : Inputs) (s : State) (m : Adapters) : Type 0 where
  pub rows : m.contexts ≡ s.contexts
  pub sixteen : length m.contexts ≡ 16
  pub entry : entrance_of m.entrance ≡ s.entrance
  pub come : m.progress.items ≡ s.adapters
  pub own : m.charged ≡ s.charged
  pub each : m.charges.items ≡ s.charges
  pub count : length m.charges.items ≡ length c.adapters
  pub few : length c.adapters < 256
  pub small : AreSmall m.budget m.charged m.charges.items
  pub levels : AreLevels c m.lines
  pub most : m.budget ≡ c.budget
  pub begins : m.entry.0 ≡ entry_point c.image
  pub ends : m.shuts_down ≡ c.shuts_down

-- a state of a run, and what the run is given
pub record Point : Type 0 where
  pub inputs : Inputs
  pub state : State

-- what is kept shows the state
pub record IsAt (o : Point) (m : Adapters) (book : Owner) (w : World) : Type 0 where
  pub keeps : Keeps o.inputs o.state m
  pub owner : book ≡ o.state.owner
  pub world : w ≡ o.state.world

-- the point behind an entry
abbrev pub behind : Point → Entry → Point
behind o e = record { inputs = o.inputs; state = after o.inputs o.state e }

-- an entry that may stand was written out of the log's spare
pub record Logs (o : Point) (e : Entry) (before log : LogState) : Type 0 where
  pub meets : Meets o.inputs o.state e
  pub written : log.entries ≡ before.entries ++ e ∷ []
  pub spare : log.spare + 1 ≡ before.spare
