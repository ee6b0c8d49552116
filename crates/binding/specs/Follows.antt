-- What a driver does that follows a script: rules over its turns, the newest first. docs/SCRIPT.md has them as sentences. (The project's own.)
use Rattle.std.specs.Prelude.{◌≡◌, ℕ, Bool, true, false, List, [], ◌∷◌, ◌++◌}
use Rattle.log_fields.specs.declared.field_values.Condition.{Condition}
use Rattle.log_fields.specs.declared.field_values.Condition.TheVariants.{Room, All}
use Rattle.driver_script.specs.declared.section_lines.Line.{Line}
use Rattle.binding.specs.declared.packet.Loan.{Loan}
use Rattle.binding.specs.declared.events.Command.{Command}
use Rattle.binding.specs.declared.events.Command.TheVariants as commands
use Rattle.binding.specs.declared.events.Event.{Event}
use Rattle.binding.specs.declared.events.Event.TheVariants.{Command as Asks, Pump, TakeNotice}
use Rattle.binding.specs.declared.events.Outcome.{Outcome}
use Rattle.binding.specs.declared.events.Outcome.TheVariants as outcomes
use Rattle.binding.specs.declared.events.Point.TheVariants.{Begin, End}
use Rattle.binding.specs.Words.{in_outcome, in_notice}
use Rattle.binding.specs.Loop.{Loop, at_point}
use Rattle.binding.specs.Steps.{Follower, at_first, script_meaning, steps, Step, Send, Await, Hold, Release, Gives, has_any, is_due}
use Rattle.binding.specs.Turns.{Turn, Made, AllPossible}

pub data Stage : Type 0 where
  Fresh : Stage
  Between : Stage  -- a command is done: the holds and releases behind it take effect
  InSteps : Stage
  Roomless : Stage  -- a packet was held
  Parting : Stage  -- all has come
  Unbound : Stage
  Closing : Stage
  Gone : Stage

-- the stages in which notices are taken, and those in which the driver waits
abbrev pub TakesNotices : Stage → Type 0
TakesNotices InSteps = Unit {0}
TakesNotices Roomless = Unit {0}
TakesNotices Unbound = Unit {0}
TakesNotices _ = ⊥

abbrev pub Pumps : Stage → Type 0
Pumps InSteps = Unit {0}
Pumps Roomless = Unit {0}
Pumps _ = ⊥

abbrev pub is_told_all : Event → Outcome → Bool
is_told_all TakeNotice (outcomes.Notice n) = false
is_told_all TakeNotice o = true
is_told_all e o = false

abbrev pub is_waiting : Event → Outcome → Bool
is_waiting (Asks (commands.Await what)) outcomes.Waiting = true
is_waiting e o = false

-- its last turn took a notice, and there was none; its last turn was an Await that waits, or not
abbrev pub IsToldAll : List Turn → Type 0
IsToldAll [] = ⊥
IsToldAll (t ∷ ts) = is_told_all t.event t.outcome ≡ true

abbrev pub Waits : List Turn → Type 0
Waits [] = ⊥
Waits (t ∷ ts) = is_waiting t.event t.outcome ≡ true

abbrev pub WaitsNot : List Turn → Type 0
WaitsNot [] = Unit {0}
WaitsNot (t ∷ ts) = is_waiting t.event t.outcome ≡ false

-- all loans that are to be returned before the next step are returned
abbrev pub NoneDue : Bool → List Loan → Type 0
NoneDue hold kept = is_due (has_any kept) hold ≡ false

-- no hold or release is in front, unless loans are due; at the end none is held
abbrev pub IsSettled : Bool → List Loan → List Step → Type 0
IsSettled hold kept [] = hold ≡ false
IsSettled hold kept (Hold ∷ ls) = is_due (has_any kept) hold ≡ true
IsSettled hold kept (Release ∷ ls) = is_due (has_any kept) hold ≡ true
IsSettled hold kept _ = Unit {0}

abbrev pub kept_taking : List Loan → Outcome → List Loan
kept_taking kept (outcomes.Notice n) = kept ++ in_notice n
kept_taking kept _ = kept

abbrev pub is_quiet : Outcome → Bool
is_quiet outcomes.Quiet = true
is_quiet _ = false

abbrev pub is_met : Outcome → Bool
is_met outcomes.Met = true
is_met _ = false

abbrev pub is_unbound : Outcome → Bool
is_unbound outcomes.Unbound = true
is_unbound _ = false

-- a command was done
abbrev pub is_done : Outcome → Bool
is_done (outcomes.Sent k) = true
is_done (outcomes.Asked r) = true
is_done outcomes.Met = true
is_done _ = false

-- The driver of these steps made these turns, and has these steps left; whether it holds, and the loans that it keeps, the oldest first
pub data Follows (steps : List Step) : List Turn → List Step → Bool → List Loan → Stage → Type 0 where
  begins : Follows steps [] steps false [] Fresh
  binds : {es : List Turn} {ls : List Step} {hold : Bool} {kept : List Loan} → (t : Turn) → t.event ≡ Asks commands.Bind → Follows steps es ls hold kept Fresh → Follows steps (t ∷ es) ls hold kept Between
  -- a loan that comes is kept behind the others. All notices are taken before a command; while an Await waits it pumps first
  takes : {es : List Turn} {ls : List Step} {hold : Bool} {kept : List Loan} {g : Stage} → (t : Turn) → t.event ≡ TakeNotice → TakesNotices g → WaitsNot es → Follows steps es ls hold kept g → Follows steps (t ∷ es) ls hold (kept_taking kept t.outcome) g
  pumps : {es : List Turn} {ls : List Step} {hold : Bool} {kept : List Loan} {g : Stage} → (t : Turn) → t.event ≡ Pump → is_quiet t.outcome ≡ false → Pumps g → Waits es → Follows steps es ls hold kept g → Follows steps (t ∷ es) ls hold kept g
  -- after Quiet there is no further step
  quiets : {es : List Turn} {ls : List Step} {hold : Bool} {kept : List Loan} {g : Stage} → (t : Turn) → t.event ≡ Pump → t.outcome ≡ outcomes.Quiet → Pumps g → Waits es → Follows steps es ls hold kept g → Follows steps (t ∷ es) [] false kept InSteps
  -- holds and releases take effect when a command is done; a release returns what is kept before the next of them
  holds : {es : List Turn} {ls : List Step} {hold : Bool} {kept : List Loan} → Follows steps es (Hold ∷ ls) hold kept Between → NoneDue hold kept → Follows steps es ls true kept Between
  releases : {es : List Turn} {ls : List Step} {hold : Bool} {kept : List Loan} → Follows steps es (Release ∷ ls) hold kept Between → NoneDue hold kept → Follows steps es ls false kept Between
  -- at the end all loans are returned
  ends : {es : List Turn} {hold : Bool} {kept : List Loan} → Follows steps es [] hold kept Between → Follows steps es [] false kept Between
  goes_on : {es : List Turn} {ls : List Step} {hold : Bool} {kept : List Loan} → Follows steps es ls hold kept Between → IsSettled hold kept ls → Follows steps es ls hold kept InSteps
  -- the oldest loan is returned first
  returns : {es : List Turn} {ls : List Step} {j : Loan} {kept : List Loan} → (t : Turn) → t.event ≡ Asks (commands.Return j) → IsToldAll es → Follows steps es ls false (j ∷ kept) InSteps → Follows steps (t ∷ es) ls false (kept ++ in_outcome t.outcome) Between
  -- a step is done: its packet is sent, its question asked, its await met
  does : {es : List Turn} {l : Step} {ls : List Step} {hold : Bool} {kept : List Loan} {c : Command} → (t : Turn) → t.event ≡ Asks c → Gives l c → is_done t.outcome ≡ true → IsToldAll es → Follows steps es (l ∷ ls) hold kept InSteps → NoneDue hold kept → Follows steps (t ∷ es) ls hold kept Between
  -- its await goes on
  waits : {es : List Turn} {ls : List Step} {hold : Bool} {kept : List Loan} {what : Condition} → (t : Turn) → t.event ≡ Asks (commands.Await what) → is_met t.outcome ≡ false → IsToldAll es → Follows steps es (Await what ∷ ls) hold kept InSteps → NoneDue hold kept → Follows steps (t ∷ es) (Await what ∷ ls) hold kept InSteps
  -- there is no room for its packet, which is sent again when there is
  is_held : {es : List Turn} {ls : List Step} {hold : Bool} {kept : List Loan} {bytes : List ℕ} → (t : Turn) → t.event ≡ Asks (commands.Send bytes) → t.outcome ≡ outcomes.Held bytes → IsToldAll es → Follows steps es (Send bytes ∷ ls) hold kept InSteps → NoneDue hold kept → Follows steps (t ∷ es) (Send bytes ∷ ls) hold kept Roomless
  wants_room : {es : List Turn} {ls : List Step} {hold : Bool} {kept : List Loan} → (t : Turn) → t.event ≡ Asks (commands.Await Room) → is_met t.outcome ≡ false → IsToldAll es → Follows steps es ls hold kept Roomless → Follows steps (t ∷ es) ls hold kept Roomless
  has_room : {es : List Turn} {ls : List Step} {hold : Bool} {kept : List Loan} → (t : Turn) → t.event ≡ Asks (commands.Await Room) → t.outcome ≡ outcomes.Met → IsToldAll es → Follows steps es ls hold kept Roomless → Follows steps (t ∷ es) ls hold kept InSteps
  -- all steps are done, and all loans returned
  wants_all : {es : List Turn} → (t : Turn) → t.event ≡ Asks (commands.Await All) → is_met t.outcome ≡ false → IsToldAll es → Follows steps es [] false [] InSteps → Follows steps (t ∷ es) [] false [] InSteps
  has_all : {es : List Turn} → (t : Turn) → t.event ≡ Asks (commands.Await All) → t.outcome ≡ outcomes.Met → IsToldAll es → Follows steps es [] false [] InSteps → Follows steps (t ∷ es) [] false [] Parting
  stays_bound : {es : List Turn} → (t : Turn) → t.event ≡ Asks commands.Unbind → is_unbound t.outcome ≡ false → Follows steps es [] false [] Parting → Follows steps (t ∷ es) [] false [] InSteps
  unbinds : {es : List Turn} → (t : Turn) → t.event ≡ Asks commands.Unbind → t.outcome ≡ outcomes.Unbound → Follows steps es [] false [] Parting → Follows steps (t ∷ es) [] false [] Unbound
  -- what came since then goes back
  closes : {es : List Turn} {kept : List Loan} → IsToldAll es → Follows steps es [] false kept Unbound → Follows steps es [] false kept Closing
  gives_back : {es : List Turn} {j : Loan} {kept : List Loan} → (t : Turn) → t.event ≡ Asks (commands.Return j) → Follows steps es [] false (j ∷ kept) Closing → Follows steps (t ∷ es) [] false kept Closing
  is_done_with : {es : List Turn} → (t : Turn) → t.event ≡ Asks commands.Done → Follows steps es [] false [] Closing → Follows steps (t ∷ es) [] false [] Gone

-- the steps were followed to here
pub record FollowsSoFar (steps : List Step) (turns : List Turn) : Type 0 where
  pub left : List Step
  pub hold : Bool
  pub kept : List Loan
  pub stage : Stage
  pub follows : Follows steps turns left hold kept stage

-- and to their end
abbrev pub FollowsAll : List Step → List Turn → Type 0
FollowsAll steps turns = Follows steps turns [] false [] Gone

-- A driver of these lines, wherever its loop is, followed their steps, and all of them where it has ended.
pub record ScriptsAreFollowed : Type 0 where
  pub so_far : (mac : List ℕ) (ls : List Line) (turns : List Turn) (now : Loop Follower) → Made script_meaning (at_point Begin (at_first mac ls)) turns now → AllPossible turns → FollowsSoFar (steps mac ls) turns
  pub to_end : (mac : List ℕ) (ls : List Line) (turns : List Turn) (now : Loop Follower) → Made script_meaning (at_point Begin (at_first mac ls)) turns now → AllPossible turns → now.point ≡ End → FollowsAll (steps mac ls) turns
