-- What it is to play a protocol driver: the turns of its loop, each at a place of the log. Turns are kept with the newest first. (The
-- project's own.)
use Rattle.std.specs.Prelude.{◌≡◌, ℕ, suc, ◌≤◌, ◌==◌, ◌⊎◌, Bool, true, false, List, [], ◌∷◌, ◌++◌, length, slice_get, Option, Some, None, if◌then◌else◌}
use Rattle.std.specs.Option.{option_to_list}
use Rattle.nd_base.specs.declared.numbers.BindingNo.{BindingNo}
use Rattle.nd_base.specs.declared.numbers.AdapterNo.{AdapterNo}
use Rattle.driver_script.specs.declared.section_lines.Line.{Line}
use Rattle.call_log.specs.declared.entry.Entry.{Entry}
use Rattle.call_log.specs.declared.entry.Entry.TheVariants as entries
use Rattle.call_log.specs.Parties.{of_driver}
use Rattle.binding.specs.declared.events.Command.{Command}
use Rattle.binding.specs.declared.events.Command.TheVariants as commands
use Rattle.binding.specs.declared.events.Event.{Event}
use Rattle.binding.specs.declared.events.Event.TheVariants as events
use Rattle.binding.specs.declared.events.Outcome.{Outcome}
use Rattle.binding.specs.declared.events.Outcome.TheVariants as outcomes
use Rattle.binding.specs.declared.events.Point.TheVariants.{Begin, End}
use Rattle.binding.specs.Meaning.{Meaning}
use Rattle.binding.specs.Loop.{Loop, at_point}
use Rattle.binding.specs.Turns.{Turn, Made, Possible}
use Rattle.binding.specs.Steps.{Step, Follower, steps, at_first, script_meaning}
use Rattle.binding.specs.Follows.{FollowsAll}

-- ---- turns as entries

abbrev pub entry_of_command : BindingNo → AdapterNo → Command → Outcome → Option Entry
entry_of_command b a commands.Bind outcomes.Bound = Some (entries.Bind b a)
entry_of_command b a commands.Unbind outcomes.Unbound = Some (entries.Unbind b)
entry_of_command b a commands.Done outcomes.Ended = Some (entries.Done b)
entry_of_command b a (commands.Send packet) (outcomes.Sent k) = Some (entries.Send b k packet)
entry_of_command b a (commands.Ask question) (outcomes.Asked r) = Some (entries.Ask b r question)
entry_of_command b a (commands.Return loan) (outcomes.Returned j) = Some (entries.Return b j)
entry_of_command b a (commands.Await what) outcomes.Met = Some (entries.Await b what)
entry_of_command b a (commands.Await what) outcomes.Waiting = Some (entries.Await b what)
entry_of_command b a c o = None

-- the entry that a turn of driver b on adapter a stands as
abbrev pub entry_of : BindingNo → AdapterNo → Event → Outcome → Option Entry
entry_of b a (events.Command c) o = entry_of_command b a c o
entry_of b a events.Pump outcomes.Quiet = Some (entries.Quiet b)
entry_of b a e o = None

-- a Pump that was not answered Quiet: it has no place
abbrev pub is_idle : Event → Outcome → Bool
is_idle events.Pump outcomes.Quiet = false
is_idle events.Pump o = true
is_idle e o = false

-- A turn that stands has its entry at its place. One that does not has none, or it waits: then Acted says that its driver waited for the same
-- already.
pub record IsPlaced (b : BindingNo) (a : AdapterNo) (log : List Entry) (t : Turn) : Type 0 where
  pub within : t.at ≤ length log
  pub entry : t.stands ≡ true → (e : Entry) × (entry_of b a t.event t.outcome ≡ Some e) × (slice_get log t.at ≡ Some e)
  pub none : t.stands ≡ false → (entry_of b a t.event t.outcome ≡ None) ⊎ (t.outcome ≡ outcomes.Waiting)

abbrev pub end_of : Turn → ℕ
end_of t = if t.stands then suc t.at else t.at

-- no turn is before the one in front of it
abbrev pub AreInOrder : List Turn → Type 0
AreInOrder [] = Unit {0}
AreInOrder (t ∷ []) = Unit {0}
AreInOrder (t ∷ before ∷ ts) = (end_of before ≤ t.at) × AreInOrder (before ∷ ts)

-- all turns but idle ones are so
abbrev pub AllButIdle : (Turn → Type 0) → List Turn → Type 0
AllButIdle Is [] = Unit {0}
AllButIdle Is (t ∷ ts) = (is_idle t.event t.outcome ≡ false → Is t) × AllButIdle Is ts

-- ---- a driver's own entries, the newest first

abbrev pub is_own : BindingNo → Option BindingNo → Bool
is_own b None = false
is_own b (Some c) = b.0 == c.0

abbrev pub own_entries : BindingNo → List Entry → List Entry
own_entries b [] = []
own_entries b (e ∷ es) = own_entries b es ++ (if is_own b (of_driver e) then e ∷ [] else [])

abbrev pub entries_of : BindingNo → AdapterNo → List Turn → List Entry
entries_of b a [] = []
entries_of b a (t ∷ ts) = (if t.stands then option_to_list (entry_of b a t.event t.outcome) else []) ++ entries_of b a ts

-- The turns of driver b on adapter a stand in the log: each but the idle ones is one that was so answered there (Acted), they are in order,
-- and the entries of those that stand are the driver's own in the log.
pub record Stand (Acted : Turn → Type 0) (b : BindingNo) (a : AdapterNo) (log : List Entry) (turns : List Turn) : Type 0 where
  pub acted : AllButIdle Acted turns
  pub placed : AllButIdle (IsPlaced b a log) turns
  pub in_order : AreInOrder turns
  pub entries : own_entries b log ≡ entries_of b a turns

-- ---- both forms

-- Driver b, a protocol of this meaning that began as p, plays these turns in the log: they are those of its loop.
pub record Plays {P : Type 0} (m : Meaning P) (Acted : Turn → Type 0) (b : BindingNo) (a : AdapterNo) (p : P) (log : List Entry) (turns : List Turn) (now : Loop P) : Type 0 where
  pub made : Made m (at_point Begin p) turns now
  pub stand : Stand Acted b a log turns

-- Driver b, whose section has these steps, plays them in the log: its turns are those that the script says, to its end.
pub record PlaysScript (Acted : Turn → Type 0) (b : BindingNo) (a : AdapterNo) (steps : List Step) (log : List Entry) (turns : List Turn) : Type 0 where
  pub follows : FollowsAll steps turns
  pub stand : Stand Acted b a log turns

-- a turn that a bound driver may have
abbrev pub IsPossible : Turn → Type 0
IsPossible t = Possible t.event t.outcome

-- A driver of these lines that has ended played their steps.
abbrev pub ScriptsArePlayed : Type 0
ScriptsArePlayed = (b : BindingNo) (a : AdapterNo) (mac : List ℕ) (ls : List Line) (log : List Entry) (turns : List Turn) (now : Loop Follower) → Plays script_meaning IsPossible b a (at_first mac ls) log turns now → now.point ≡ End → PlaysScript IsPossible b a (steps mac ls) log turns
