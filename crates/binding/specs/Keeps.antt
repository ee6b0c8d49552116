-- The loans of any protocol: each that it was told of is returned once, or it keeps it still. (The project's own.)
use Rattle.std.specs.Prelude.{◌≡◌, ℕ, ◌+◌, Bool, List, [], ◌∷◌}
use Rattle.std.specs.List.{count_by}
use Rattle.binding.specs.declared.packet.Loan.{Loan}
use Rattle.binding.specs.declared.events.Command.TheVariants as commands
use Rattle.binding.specs.declared.events.Event.{Event}
use Rattle.binding.specs.declared.events.Event.TheVariants as events
use Rattle.binding.specs.declared.events.Outcome.{Outcome}
use Rattle.binding.specs.declared.events.Outcome.TheVariants as outcomes
use Rattle.binding.specs.declared.events.Point.{Point}
use Rattle.binding.specs.declared.events.Point.TheVariants.{Begin, Closing, End}
use Rattle.binding.specs.Words.{in_notice}
use Rattle.binding.specs.Meaning.{Meaning}
use Rattle.binding.specs.Loop.{Loop, at_point}
use Rattle.binding.specs.Turns.{Turn, Made, AllPossible}

-- the loans that come with a turn, and those that go back with it
abbrev pub come_with : Event → Outcome → List Loan
come_with events.TakeNotice (outcomes.Notice n) = in_notice n
come_with e o = []

abbrev pub go_with : Event → List Loan
go_with (events.Command (commands.Return loan)) = loan ∷ []
go_with e = []

-- how many of those that pass a test came and went
abbrev pub came : (Loan → Bool) → List Turn → ℕ
came test [] = 0
came test (t ∷ ts) = count_by test (come_with t.event t.outcome) + came test ts

abbrev pub went : (Loan → Bool) → List Turn → ℕ
went test [] = 0
went test (t ∷ ts) = count_by test (go_with t.event) + went test ts

-- the loans that a loop has: its protocol's, at its end what is still to give back
abbrev pub has_at : {P : Type 0} → Meaning P → Point → P → List Loan → List Loan
has_at m Closing p back = back
has_at m End p back = []
has_at m _ p back = m.kept p

-- Of the loans of each kind, as many as came to a protocol that kept none at first have gone back, or it has them.
abbrev pub LoansAreKeptFor : {P : Type 0} → Meaning P → Type 0
LoansAreKeptFor {P} m = (p : P) (turns : List Turn) (now : Loop P) → m.kept p ≡ [] → Made m (at_point Begin p) turns now → AllPossible turns → (test : Loan → Bool) → came test turns ≡ went test turns + count_by test (has_at m now.point now.protocol now.back)
