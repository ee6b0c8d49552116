-- Which loans stand in commands, notices and outcomes. (The project's own.)
use Rattle.std.specs.Prelude.{List, [], ◌∷◌, Option, Some, None}
use Rattle.binding.specs.declared.packet.Loan.{Loan}
use Rattle.binding.specs.declared.events.Command.{Command}
use Rattle.binding.specs.declared.events.Command.TheVariants as commands
use Rattle.binding.specs.declared.events.Notice.{Notice}
use Rattle.binding.specs.declared.events.Notice.TheVariants as notices
use Rattle.binding.specs.declared.events.Event.{Event}
use Rattle.binding.specs.declared.events.Event.TheVariants as events
use Rattle.binding.specs.declared.events.Outcome.{Outcome}
use Rattle.binding.specs.declared.events.Outcome.TheVariants as outcomes

abbrev pub in_command : Command → List Loan
in_command (commands.Return loan) = loan ∷ []
in_command _ = []

abbrev pub in_notice : Notice → List Loan
in_notice (notices.Frame loan bytes) = loan ∷ []
in_notice _ = []

abbrev pub in_event : Event → List Loan
in_event (events.Command c) = in_command c
in_event _ = []

-- the loans that an outcome hands out, or back
abbrev pub in_outcome : Outcome → List Loan
in_outcome (outcomes.AlreadyBound c) = in_command c
in_outcome (outcomes.NotBound c) = in_command c
in_outcome (outcomes.Notice n) = in_notice n
in_outcome (outcomes.OutOfMemory e) = in_event e
in_outcome _ = []

abbrev pub in_option : Option Loan → List Loan
in_option None = []
in_option (Some loan) = loan ∷ []
