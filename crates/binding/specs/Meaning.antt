-- What a protocol means: functions of its state, and their laws. (The project's own.)
use Rattle.std.specs.Prelude.{◌≡◌, ◌⊎◌, ◌<◌, ◌≤◌, ℕ, List, [], ◌∷◌, ◌++◌}
use Rattle.log_fields.specs.declared.field_values.Condition.{Condition}
use Rattle.log_fields.specs.declared.field_values.Condition.TheVariants as conditions
use Rattle.binding.specs.declared.packet.Loan.{Loan}
use Rattle.binding.specs.declared.events.Command.{Command}
use Rattle.binding.specs.declared.events.Command.TheVariants as commands
use Rattle.binding.specs.declared.events.Notice.{Notice}
use Rattle.binding.specs.declared.events.Act.{Act}
use Rattle.binding.specs.declared.events.Act.TheVariants.{Do, Finish}
use Rattle.binding.specs.declared.events.Outcome.{Outcome}
use Rattle.binding.specs.declared.events.Outcome.TheVariants as outcomes
use Rattle.binding.specs.Words.{in_outcome}

-- What a protocol may give next, beside returns. Free: anything. Satisfied: an Await was met, and no notice came since: no Await. Owing: a
-- Send was held: nothing but an Await of Room, not even a return. Hushed: after Quiet: a question, or its end. Over: after its end: nothing.
pub data Mode : Type 0 where
  Free : Mode
  Satisfied : Mode
  Owing : Mode
  Hushed : Mode
  Over : Mode

abbrev pub MaySend : Mode → Type 0
MaySend Free = Unit {0}
MaySend Satisfied = Unit {0}
MaySend _ = ⊥

abbrev pub MayAsk : Mode → Type 0
MayAsk Owing = ⊥
MayAsk Over = ⊥
MayAsk _ = Unit {0}

abbrev pub MayAwait : Mode → Condition → Type 0
MayAwait Free what = Unit {0}
MayAwait Owing what = what ≡ conditions.Room
MayAwait _ what = ⊥

abbrev pub MayDo : Mode → Command → Type 0
MayDo mode (commands.Send packet) = MaySend mode
MayDo mode (commands.Ask question) = MayAsk mode
MayDo mode (commands.Return loan) = mode ≡ Owing → ⊥
MayDo mode (commands.Await what) = MayAwait mode what
MayDo mode _ = ⊥

abbrev pub MayGive : Mode → Act → Type 0
MayGive mode (Do c) = MayDo mode c
MayGive mode Finish = mode ≡ Owing → ⊥

-- the outcomes that a command of a bound driver may have
abbrev pub MayAnswer : Command → Outcome → Type 0
MayAnswer (commands.Send packet) (outcomes.Held back) = back ≡ packet
MayAnswer (commands.Send packet) (outcomes.Sent k) = Unit {0}
MayAnswer (commands.Ask question) (outcomes.Asked r) = Unit {0}
MayAnswer (commands.Return loan) (outcomes.Returned j) = Unit {0}
MayAnswer (commands.Return loan) (outcomes.AlreadyBack j) = Unit {0}
MayAnswer (commands.Await what) outcomes.Met = Unit {0}
MayAnswer (commands.Await what) outcomes.Waiting = Unit {0}
MayAnswer (commands.Await what) outcomes.News = Unit {0}
MayAnswer _ _ = ⊥

-- how the mode goes on behind a command at which the number of commands does not fall
abbrev pub Leads : Command → Outcome → Mode → Mode → Type 0
Leads (commands.Send packet) (outcomes.Held back) m n = n ≡ Owing
Leads (commands.Return loan) o m n = n ≡ m
Leads (commands.Await what) outcomes.Met m n = (n ≡ Satisfied) ⊎ ((m ≡ Owing) × ((n ≡ Free) ⊎ (n ≡ Over)))
Leads (commands.Await what) o m n = n ≡ m
Leads _ o m n = ⊥

-- what an act takes from the loans that are kept
abbrev pub Takes : Act → List Loan → List Loan → Type 0
Takes (Do (commands.Return loan)) before after = (front : List Loan) × (back : List Loan) × (before ≡ front ++ loan ∷ back) × (after ≡ front ++ back)
Takes (Do c) before after = after ≡ before
Takes Finish before after = (before ≡ []) × (after ≡ [])

pub record Meaning (P : Type 0) : Type 0 where
  pub kept : P → List Loan  -- the loans that it keeps
  pub left : P → ℕ  -- how many commands it still gives
  pub mode : P → Mode  -- what it may give next
  pub act : P → Act  -- what `next` answers
  pub then : P → P  -- the state after `next`
  pub told : P → Outcome → P  -- the state after `told`

-- the number falls, or it stays and the mode goes as it must; after its end a protocol stays there
pub record GoesOn {P : Type 0} (m : Meaning P) (p q : P) (Rule : Mode → Mode → Type 0) : Type 0 where
  pub falls : (m.left q < m.left p) ⊎ ((m.left q ≡ m.left p) × Rule (m.mode p) (m.mode q))
  pub over : m.mode p ≡ Over → m.mode q ≡ Over

-- a protocol that was told Quiet
pub record IsQuieted {P : Type 0} (m : Meaning P) (p q : P) : Type 0 where
  pub left : m.left q ≤ m.left p
  pub mode : (m.mode q ≡ Over) ⊎ ((m.mode q ≡ Hushed) × (m.mode p ≡ Over → ⊥))

-- a protocol that gave its end
pub record IsFinished {P : Type 0} (m : Meaning P) (p q : P) : Type 0 where
  pub left : m.left q ≤ m.left p
  pub mode : m.mode q ≡ Over

-- a protocol that was told that its Await waits
pub record StillWaits {P : Type 0} (m : Meaning P) (p q : P) : Type 0 where
  pub left : m.left q ≤ m.left p
  pub mode : m.mode q ≡ m.mode p

pub record Lawful {P : Type 0} (m : Meaning P) : Type 0 where
  -- only what the mode allows, which is no Bind, Unbind or Done
  pub gives : (p : P) → MayGive (m.mode p) (m.act p)
  -- a Return is of a loan that is kept; the end comes only where none is
  pub takes : (p : P) → Takes (m.act p) (m.kept p) (m.kept (m.then p))
  -- what it is told adds the loans that come with it
  pub adds : (p : P) (o : Outcome) → m.kept (m.told p o) ≡ m.kept p ++ in_outcome o
  pub for_commands : (p : P) (c : Command) (o : Outcome) → m.act p ≡ Do c → MayAnswer c o → GoesOn m p (m.told (m.then p) o) (Leads c o)
  pub waits : (p : P) (what : Condition) → m.act p ≡ Do (commands.Await what) → StillWaits m p (m.told (m.then p) outcomes.Waiting)
  pub finishes : (p : P) → m.act p ≡ Finish → IsFinished m p (m.then p)
  pub notices : (p : P) (n : Notice) → GoesOn m p (m.told p (outcomes.Notice n)) (λ a b. (b ≡ a) ⊎ ((a ≡ Satisfied) × (b ≡ Free)))
  pub quiets : (p : P) → IsQuieted m p (m.told p outcomes.Quiet)
