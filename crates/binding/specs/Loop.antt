-- A driver's loop as a machine: what it asks, and where it is after an outcome. What it does when memory runs out, which ends it, is not in it
-- (specs/Turns.antt). (The project's own.)
use Rattle.std.specs.Prelude.{List, [], ◌∷◌, Option, Some, None}
use Rattle.binding.specs.declared.packet.Loan.{Loan}
use Rattle.log_fields.specs.declared.field_values.Condition.TheVariants.{All}
use Rattle.binding.specs.declared.events.Command.TheVariants.{Bind, Unbind, Done, Return, Await}
use Rattle.binding.specs.declared.events.Act.{Act}
use Rattle.binding.specs.declared.events.Act.TheVariants.{Do, Finish}
use Rattle.binding.specs.declared.events.Event.{Event}
use Rattle.binding.specs.declared.events.Event.TheVariants.{Command as Asks, Pump, TakeNotice}
use Rattle.binding.specs.declared.events.Outcome.{Outcome}
use Rattle.binding.specs.declared.events.Outcome.TheVariants as outcomes
use Rattle.binding.specs.declared.events.Point.{Point}
use Rattle.binding.specs.declared.events.Point.TheVariants.{Begin, Taking, Asking, Pumping, Unbinding, Clearing, Closing, End}
use Rattle.binding.specs.Meaning.{Meaning}

-- A driver in its loop: where it is, its protocol, and what it has still to give back
pub record Loop (P : Type 0) : Type 0 where
  pub point : Point
  pub protocol : P
  pub back : List Loan

abbrev pub at_point : {P : Type 0} → Point → P → Loop P
at_point point p = record { point = point; protocol = p; back = [] }

abbrev pub ask_of : Act → Event
ask_of (Do c) = Asks c
ask_of Finish = Asks (Await All)

-- what is given back next, or Done
abbrev pub close_of : List Loan → Event
close_of [] = Asks Done
close_of (j ∷ js) = Asks (Return j)

-- what the loop asks next
abbrev pub asks_at : {P : Type 0} → Meaning P → Point → P → List Loan → Option Event
asks_at m Begin p back = Some (Asks Bind)
asks_at m Taking p back = Some TakeNotice
asks_at m Asking p back = Some (ask_of (m.act p))
asks_at m Pumping p back = Some Pump
asks_at m Unbinding p back = Some (Asks Unbind)
asks_at m Clearing p back = Some TakeNotice
asks_at m Closing p back = Some (close_of back)
asks_at m End p back = None

abbrev pub asks : {P : Type 0} → Meaning P → Loop P → Option Event
asks m x = asks_at m x.point x.protocol x.back

abbrev pub waits_on : Outcome → Point
waits_on outcomes.Waiting = Pumping
waits_on _ = Taking

abbrev pub unbinds_on : Outcome → Point
unbinds_on outcomes.Waiting = Pumping
unbinds_on outcomes.Met = Unbinding
unbinds_on _ = Taking

-- after an act of the protocol
abbrev pub given : {P : Type 0} → Meaning P → P → Outcome → Loop P
given m q o = at_point (waits_on o) (m.told q o)

abbrev pub finished : {P : Type 0} → P → Outcome → Loop P
finished q o = at_point (unbinds_on o) q

abbrev pub acted : {P : Type 0} → Meaning P → P → Act → Outcome → Loop P
acted m q (Do c) o = given m q o
acted m q Finish o = finished q o

abbrev pub closes : {P : Type 0} → P → List Loan → Loop P
closes p [] = at_point End p
closes p (j ∷ js) = record { point = Closing; protocol = p; back = js }

abbrev pub took : {P : Type 0} → Meaning P → P → Point → Loop P → Outcome → Loop P
took m p point x (outcomes.Notice n) = at_point point (m.told p (outcomes.Notice n))
took m p point x _ = x

abbrev pub pumped : {P : Type 0} → Meaning P → P → Outcome → Loop P
pumped m p outcomes.Quiet = at_point Taking (m.told p outcomes.Quiet)
pumped m p _ = at_point Taking p

abbrev pub unbound : {P : Type 0} → P → Outcome → Loop P
unbound p outcomes.Unbound = at_point Clearing p
unbound p _ = at_point Taking p

-- where it is after an outcome
abbrev pub after_at : {P : Type 0} → Meaning P → Point → P → List Loan → Outcome → Loop P
after_at m Begin p back o = at_point Taking p
after_at m Taking p back o = took m p Taking (at_point Asking p) o
after_at m Asking p back o = acted m (m.then p) (m.act p) o
after_at m Pumping p back o = pumped m p o
after_at m Unbinding p back o = unbound p o
after_at m Clearing p back o = took m p Clearing (record { point = Closing; protocol = p; back = m.kept p }) o
after_at m Closing p back o = closes p back
after_at m End p back o = at_point End p

abbrev pub after : {P : Type 0} → Meaning P → Loop P → Outcome → Loop P
after m x o = after_at m x.point x.protocol x.back o
