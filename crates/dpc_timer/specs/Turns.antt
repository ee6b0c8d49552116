-- Turns in rising order: by moment, and of equal moments by address.
use Rattle.std.specs.Prelude.{◌≡◌, ℕ, Bool, true, false, ◌&&◌, ◌||◌, ◌==◌, nat_lt, ⊤, List, [], ◌∷◌, Option, None, Some}
use Rattle.std.specs.List.{list_any}
use Rattle.std.specs.BTreeMap.{BTreeMap}
use Rattle.std.specs.FinMap as table
use Rattle.dpc_timer.specs.declared.timer.Timer.{Timer}
use Rattle.dpc_timer.specs.declared.timer.Turn.{Turn}
use Rattle.dpc_timer.specs.ClockState.{Timers}

abbrev pub is_before : Turn → Turn → Bool
is_before turn other = nat_lt turn.moment other.moment || (turn.moment == other.moment && nat_lt turn.address other.address)

abbrev pub IsBeforeAll : Turn → List Turn → Type 0
IsBeforeAll turn [] = ⊤
IsBeforeAll turn (other ∷ turns) = (is_before turn other ≡ true) × IsBeforeAll turn turns

abbrev pub AreInOrder : List Turn → Type 0
AreInOrder [] = ⊤
AreInOrder (turn ∷ turns) = IsBeforeAll turn turns × AreInOrder turns

abbrev pub is_turn : ℕ → ℕ → Turn → Bool
is_turn moment address turn = turn.moment == moment && turn.address == address

-- whether a turn is among others
abbrev pub has_turn : List Turn → ℕ → ℕ → Bool
has_turn turns moment address = list_any (is_turn moment address) turns

abbrev pub is_for : Option Timer → ℕ → Bool
is_for None moment = false
is_for (Some timer) moment = timer.moment == moment

-- the turns are those of the timers, in order
pub record AreTurnsOf (found : ℕ → Option Timer) (turns : List Turn) : Type 0 where
  pub order : AreInOrder turns
  pub same : (moment address : ℕ) → has_turn turns moment address ≡ is_for (found address) moment

-- the timers that a map keeps
abbrev pub timers_in : BTreeMap ℕ Timer → Timers
timers_in kept = table.from_entries kept.entries
