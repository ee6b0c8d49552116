-- The turns of a driver's loop, each an event with its outcome. They are kept with the newest first. (The project's own.)
use Rattle.std.specs.Prelude.{◌≡◌, ℕ, Bool, true, false, List, [], ◌∷◌, map, Some}
use Rattle.binding.specs.declared.events.Command.TheVariants as commands
use Rattle.binding.specs.declared.events.Event.{Event}
use Rattle.binding.specs.declared.events.Event.TheVariants as events
use Rattle.binding.specs.declared.events.Outcome.{Outcome}
use Rattle.binding.specs.declared.events.Outcome.TheVariants as outcomes
use Rattle.binding.specs.Meaning.{Meaning, MayAnswer}
use Rattle.binding.specs.Loop.{Loop, asks, after}

-- A turn: behind so many entries of the log this event had this outcome; it stands there as an entry, or not
pub record Turn : Type 0 where
  pub at : ℕ
  pub event : Event
  pub outcome : Outcome
  pub stands : Bool

-- memory ran out
abbrev pub is_refused_memory : Outcome → Bool
is_refused_memory (outcomes.OutOfMemory e) = true
is_refused_memory o = false

-- The loop that begins at x made these turns and is then at y: each event is the one that the loop asks there, and memory never ran out. A
-- driver whose memory ran out has left its loop.
abbrev pub Made : {P : Type 0} → Meaning P → Loop P → List Turn → Loop P → Type 0
Made m x [] y = x ≡ y
Made {P} m x (t ∷ ts) y = (z : Loop P) × Made m x ts z × (asks m z ≡ Some t.event) × (y ≡ after m z t.outcome) × (is_refused_memory t.outcome ≡ false)

-- what a bound driver may be answered
abbrev pub Possible : Event → Outcome → Type 0
Possible (events.Command (commands.Send packet)) o = MayAnswer (commands.Send packet) o
Possible (events.Command (commands.Ask question)) o = MayAnswer (commands.Ask question) o
Possible (events.Command (commands.Return loan)) o = MayAnswer (commands.Return loan) o
Possible (events.Command (commands.Await what)) o = MayAnswer (commands.Await what) o
Possible _ o = Unit {0}

abbrev pub AllPossible : List Turn → Type 0
AllPossible [] = Unit {0}
AllPossible (t ∷ ts) = Possible t.event t.outcome × AllPossible ts

abbrev pub outcome_of : Turn → Outcome
outcome_of t = t.outcome

abbrev pub event_of : Turn → Event
event_of t = t.event

-- What a protocol does is a function of what it was told: two lists of turns from one state with the same outcomes have the same events, and
-- lead to the same state.
abbrev pub ActsAreToldFor : {P : Type 0} → Meaning P → Type 0
ActsAreToldFor {P} m = (x y z : Loop P) (ts us : List Turn) → Made m x ts y → Made m x us z → map outcome_of ts ≡ map outcome_of us → (map event_of ts ≡ map event_of us) × (y ≡ z)
