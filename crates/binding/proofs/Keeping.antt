-- Loans that come to a protocol go back once.
use Rattle.std.proofs.Common.{◌≡◌, ℕ, ◌+◌, Bool, List, [], ◌∷◌, ◌++◌, Some, refl, ap, sym, ◌∙◌, subst, arith}
use Rattle.std.specs.List.{count_by}
use Rattle.std.proofs.lemmas.List.Sums.{sum_by-append}
use Rattle.std.specs.Prelude.{cond}
use Rattle.binding.specs.declared.packet.Loan.{Loan}
use Rattle.binding.specs.declared.events.Act.{Act}
use Rattle.binding.specs.declared.events.Act.TheVariants.{Do, Finish}
use Rattle.binding.specs.declared.events.Command.{Command}
use Rattle.binding.specs.declared.events.Command.TheVariants as commands
use Rattle.binding.specs.declared.events.Event.{Event}
use Rattle.binding.specs.declared.events.Event.TheVariants as events
use Rattle.binding.specs.declared.events.Outcome.{Outcome}
use Rattle.binding.specs.declared.events.Outcome.TheVariants as outcomes
use Rattle.binding.specs.declared.events.Point.{Point}
use Rattle.binding.specs.declared.events.Point.TheVariants.{Begin, Taking, Asking, Pumping, Unbinding, Clearing, Closing, End}
use Rattle.binding.specs.Words.{in_outcome}
use Rattle.binding.specs.Meaning.{Meaning, Mode, MayGive, MayAnswer, Takes, Lawful}
use Rattle.binding.specs.Loop.{Loop, at_point, asks_at, after_at, ask_of, close_of, took, acted, pumped, unbound, closes, waits_on, unbinds_on}
use Rattle.binding.specs.Turns.{Turn, Possible, AllPossible, Made}
use Rattle.binding.specs.Keeps.{come_with, go_with, came, went, has_at, LoansAreKeptFor}

module _ {P : Type 0} (m : Meaning P) (lawful : Lawful m) (test : Loan → Bool) where
  abbrev n : List Loan → ℕ
  n ls = count_by test ls

  both : (xs ys : List Loan) → n (xs ++ ys) ≡ n xs + n ys
  both xs ys = sum_by-append (λ (x : Loan). cond (test x) 1 0) xs ys

  -- what a loop has at a point that is neither of its last two
  abbrev has : Loop P → ℕ
  has x = n (has_at m x.point x.protocol x.back)

  -- the balance of a turn
  abbrev Balance : Point → P → List Loan → Event → Outcome → Loop P → Type 0
  Balance point p back e o y = n (has_at m point p back) + n (come_with e o) ≡ n (go_with e) + has y

  told_kept : (p : P) (o : Outcome) → n (m.kept (m.told p o)) ≡ n (m.kept p) + n (in_outcome o)
  told_kept p o = ap n (lawful.adds p o) ∙ both (m.kept p) (in_outcome o)

  waits_has : (q : P) (o : Outcome) → has (at_point (waits_on o) q) ≡ n (m.kept q)
  waits_has q outcomes.Waiting = refl
  waits_has q _ = refl

  unbinds_has : (q : P) (o : Outcome) → has (at_point (unbinds_on o) q) ≡ n (m.kept q)
  unbinds_has q outcomes.Waiting = refl
  unbinds_has q outcomes.Met = refl
  unbinds_has q _ = refl

  answer_none : (c : Command) (o : Outcome) → MayAnswer c o → in_outcome o ≡ []
  answer_none (commands.Send v) (outcomes.Held back) may = refl
  answer_none (commands.Send v) (outcomes.Sent k) may = refl
  answer_none (commands.Send v) _ may = absurd may
  answer_none (commands.Ask q) (outcomes.Asked r) may = refl
  answer_none (commands.Ask q) _ may = absurd may
  answer_none (commands.Return j) (outcomes.Returned k) may = refl
  answer_none (commands.Return j) (outcomes.AlreadyBack k) may = refl
  answer_none (commands.Return j) _ may = absurd may
  answer_none (commands.Await w) outcomes.Met may = refl
  answer_none (commands.Await w) outcomes.Waiting may = refl
  answer_none (commands.Await w) outcomes.News may = refl
  answer_none (commands.Await w) _ may = absurd may
  answer_none commands.Bind o may = absurd may
  answer_none commands.Unbind o may = absurd may
  answer_none commands.Done o may = absurd may

  -- an act takes what goes back with it
  taken : (a : Act) (before after : List Loan) → Takes a before after → n before ≡ n (go_with (ask_of a)) + n after
  taken (Do (commands.Return loan)) before after t =
      let whole = ap n t.2 ∙ both t.0 (loan ∷ t.1) in
      let left = ap n t.3 ∙ both t.0 t.1 in
      let one = both (loan ∷ []) t.1 in
      omega (arith, whole, left, one)
  taken (Do (commands.Send v)) before after t = let e = ap n t in omega (arith, e)
  taken (Do (commands.Ask q)) before after t = let e = ap n t in omega (arith, e)
  taken (Do (commands.Await w)) before after t = let e = ap n t in omega (arith, e)
  taken (Do commands.Bind) before after t = let e = ap n t in omega (arith, e)
  taken (Do commands.Unbind) before after t = let e = ap n t in omega (arith, e)
  taken (Do commands.Done) before after t = let e = ap n t in omega (arith, e)
  taken Finish before after t = let e = ap n (t.0 ∙ sym t.1) in omega (arith, e)

  none_come : (a : Act) (o : Outcome) → come_with (ask_of a) o ≡ []
  none_come (Do c) o = refl
  none_come Finish o = refl

  may_do : (mode : Mode) (c : Command) (o : Outcome) → MayGive mode (Do c) → Possible (events.Command c) o → MayAnswer c o
  may_do mode (commands.Send v) o can may = may
  may_do mode (commands.Ask q) o can may = may
  may_do mode (commands.Return j) o can may = may
  may_do mode (commands.Await w) o can may = may
  may_do mode commands.Bind o can may = absurd can
  may_do mode commands.Unbind o can may = absurd can
  may_do mode commands.Done o can may = absurd can

  acted_kept : (mode : Mode) (q : P) (a : Act) (o : Outcome) → MayGive mode a → Possible (ask_of a) o → has (acted m q a o) ≡ n (m.kept q)
  acted_kept mode q (Do c) o can may =
      let none = answer_none c o (may_do mode c o can may) in
      let told = waits_has (m.told q o) o ∙ told_kept q o in
      let zero = ap n none in
      omega (arith, told, zero)
  acted_kept mode q Finish o can may = unbinds_has q o

  ask_balance : (p : P) (a : Act) (o : Outcome) → m.act p ≡ a → Possible (ask_of a) o → Balance Asking p [] (ask_of a) o (acted m (m.then p) a o)
  ask_balance p a o is may =
      let R : Act → Type 0 = λ v. Takes v (m.kept p) (m.kept (m.then p)) in
      let Q : Act → Type 0 = λ v. MayGive (m.mode p) v in
      let t = taken a (m.kept p) (m.kept (m.then p)) (subst R is (lawful.takes p)) in
      let k = acted_kept (m.mode p) (m.then p) a o (subst Q is (lawful.gives p)) may in
      let c = ap n (none_come a o) in
      omega (arith, t, k, c)

  took_balance : (p : P) (o : Outcome) → Balance Taking p [] events.TakeNotice o (took m p Taking (at_point Asking p) o)
  took_balance p (outcomes.Notice v) = let k = told_kept p (outcomes.Notice v) in omega (arith, k)
  took_balance p _ = omega arith

  clear_balance : (p : P) (o : Outcome) → Balance Clearing p [] events.TakeNotice o (took m p Clearing (record { point = Closing; protocol = p; back = m.kept p }) o)
  clear_balance p (outcomes.Notice v) = let k = told_kept p (outcomes.Notice v) in omega (arith, k)
  clear_balance p _ = omega arith

  pump_balance : (p : P) (o : Outcome) → Balance Pumping p [] events.Pump o (pumped m p o)
  pump_balance p outcomes.Quiet = let k = told_kept p outcomes.Quiet in omega (arith, k)
  pump_balance p _ = omega arith

  unbind_balance : (p : P) (o : Outcome) → Balance Unbinding p [] (events.Command commands.Unbind) o (unbound p o)
  unbind_balance p outcomes.Unbound = omega arith
  unbind_balance p _ = omega arith

  close_balance : (p : P) (back : List Loan) (o : Outcome) → Balance Closing p back (close_of back) o (closes p back)
  close_balance p [] o = refl
  close_balance p (j ∷ js) o = let one = both (j ∷ []) js in omega (arith, one)

  turn_balance : (point : Point) (p : P) (back : List Loan) (t : Turn) → asks_at m point p back ≡ Some t.event → Possible t.event t.outcome → Balance point p back t.event t.outcome (after_at m point p back t.outcome)
  turn_balance Begin p back t e may =
      let is : events.Command commands.Bind ≡ t.event = cc in
      let Q : Event → Type 0 = λ v. Balance Begin p back v t.outcome (at_point Taking p) in
      subst Q is (omega arith)
  turn_balance Taking p back t e may =
      let is : events.TakeNotice ≡ t.event = cc in
      let Q : Event → Type 0 = λ v. Balance Taking p back v t.outcome (took m p Taking (at_point Asking p) t.outcome) in
      subst Q is (took_balance p t.outcome)
  turn_balance Asking p back t e may =
      let is : ask_of (m.act p) ≡ t.event = cc in
      let Q : Event → Type 0 = λ v. Balance Asking p back v t.outcome (acted m (m.then p) (m.act p) t.outcome) in
      let R : Event → Type 0 = λ v. Possible v t.outcome in
      subst Q is (ask_balance p (m.act p) t.outcome refl (subst R (sym is) may))
  turn_balance Pumping p back t e may =
      let is : events.Pump ≡ t.event = cc in
      let Q : Event → Type 0 = λ v. Balance Pumping p back v t.outcome (pumped m p t.outcome) in
      subst Q is (pump_balance p t.outcome)
  turn_balance Unbinding p back t e may =
      let is : events.Command commands.Unbind ≡ t.event = cc in
      let Q : Event → Type 0 = λ v. Balance Unbinding p back v t.outcome (unbound p t.outcome) in
      subst Q is (unbind_balance p t.outcome)
  turn_balance Clearing p back t e may =
      let is : events.TakeNotice ≡ t.event = cc in
      let Q : Event → Type 0 = λ v. Balance Clearing p back v t.outcome (took m p Clearing (record { point = Closing; protocol = p; back = m.kept p }) t.outcome) in
      subst Q is (clear_balance p t.outcome)
  turn_balance Closing p back t e may =
      let is : close_of back ≡ t.event = cc in
      let Q : Event → Type 0 = λ v. Balance Closing p back v t.outcome (closes p back) in
      subst Q is (close_balance p back t.outcome)
  turn_balance End p back t e may = absurd (cc)

  kept_to : (p : P) → m.kept p ≡ [] → (ts : List Turn) (y : Loop P) → Made m (at_point Begin p) ts y → AllPossible ts → came test ts ≡ went test ts + has y
  kept_to p none [] y made may =
      let Q : Loop P → Type 0 = λ v. 0 ≡ 0 + has v in
      let start : 0 ≡ 0 + n (m.kept p) = (let k = ap n none in omega (arith, k)) in
      subst Q made start
  kept_to p none (t ∷ ts) y made may =
      let before = kept_to p none ts made.0 made.1 may.1 in
      let turn = turn_balance made.0.point made.0.protocol made.0.back t made.2 may.0 in
      let Q : Loop P → Type 0 = λ v. came test (t ∷ ts) ≡ went test (t ∷ ts) + has v in
      let now : came test (t ∷ ts) ≡ went test (t ∷ ts) + has (after_at m made.0.point made.0.protocol made.0.back t.outcome) = omega (arith, before, turn) in
      subst Q (sym made.3) now

pub loans_kept : {P : Type 0} (m : Meaning P) → Lawful m → LoansAreKeptFor m
loans_kept m lawful = λ p ts y none made may test. kept_to m lawful test p none ts y made may
