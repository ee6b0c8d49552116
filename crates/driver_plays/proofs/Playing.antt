-- What drivers with a script play.
use Rattle.std.proofs.Common.{◌≡◌, false, List, [], ◌∷◌, refl}
use Rattle.binding.specs.declared.events.Event.{Event}
use Rattle.binding.specs.declared.events.Event.TheVariants as events
use Rattle.binding.specs.declared.events.Outcome.{Outcome}
use Rattle.binding.specs.Turns.{Turn, Possible, AllPossible}
use Rattle.binding.specs.Follows.{ScriptsAreFollowed}
use Rattle.driver_plays.specs.Plays.{is_idle, AllButIdle, IsPossible, ScriptsArePlayed}

possible : (e : Event) (o : Outcome) → (is_idle e o ≡ false → Possible e o) → Possible e o
possible (events.Command c) o h = h refl
possible events.Pump o h = tt
possible events.TakeNotice o h = tt
possible events.Starve o h = tt

all_possible : (ts : List Turn) → AllButIdle IsPossible ts → AllPossible ts
all_possible [] h = tt
all_possible (t ∷ ts) h = (possible t.event t.outcome h.0, all_possible ts h.1)

pub scripts_played : ScriptsAreFollowed → ScriptsArePlayed
scripts_played followed = λ b a mac ls log turns now p end. record { follows = followed.to_end mac ls turns now p.made (all_possible turns p.stand.acted) end; stand = p.stand }
