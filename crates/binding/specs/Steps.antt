-- What a driver that follows a script does. (The project's own: docs/SCRIPT.md.)
use Rattle.std.specs.Prelude.{ℕ, zero, suc, ◌+◌, ◌-◌, ◌%◌, Bool, true, false, not, ◌&&◌, List, [], ◌∷◌, ◌++◌, map, replicate, if◌then◌else◌}
use Rattle.std.specs.List.{range_with_len}
use Rattle.log_fields.specs.declared.field_values.Condition.{Condition}
use Rattle.log_fields.specs.declared.field_values.Condition.TheVariants.{Room}
use Rattle.log_fields.specs.declared.field_values.Question.{Question}
use Rattle.driver_script.specs.declared.section_lines.Line.{Line}
use Rattle.driver_script.specs.declared.section_lines.Line.TheVariants as lines
use Rattle.binding.specs.declared.packet.Loan.{Loan}
use Rattle.binding.specs.declared.events.Command.{Command}
use Rattle.binding.specs.declared.events.Command.TheVariants as commands
use Rattle.binding.specs.declared.events.Act.{Act}
use Rattle.binding.specs.declared.events.Act.TheVariants.{Do, Finish}
use Rattle.binding.specs.declared.events.Outcome.{Outcome}
use Rattle.binding.specs.declared.events.Outcome.TheVariants as outcomes
use Rattle.binding.specs.Words.{in_outcome}
use Rattle.binding.specs.Meaning.{Meaning, Mode, Free, Owing, Over}

-- ---- the steps of a section: its lines, with each packet of a burst on its own

pub data Step : Type 0 where
  Send : List ℕ → Step
  Ask : Question → Step
  Await : Condition → Step
  Hold : Step
  Release : Step

-- the command of a step
pub data Gives : Step → Command → Type 0 where
  sends : {v : List ℕ} → Gives (Send v) (commands.Send v)
  asks : {q : Question} → Gives (Ask q) (commands.Ask q)
  awaits : {w : Condition} → Gives (Await w) (commands.Await w)

-- packet i of a burst, of so many bytes: broadcast from this station address, with type 88b5 (local experimental, IEEE 802)
unfoldable pub burst_packet : List ℕ → ℕ → ℕ → List ℕ
burst_packet mac i len = replicate 6 255 ++ (mac ++ (0x88 ∷ 0xb5 ∷ map (λ m. (i + m) % 256) (range_with_len 0 (len - 14))))

-- packets first to first + n of a burst, and then steps
abbrev pub burst_steps : List ℕ → ℕ → ℕ → ℕ → List Step → List Step
burst_steps mac first zero len more = more
burst_steps mac first (suc n) len more = Send (burst_packet mac first len) ∷ burst_steps mac (suc first) n len more

abbrev pub steps : List ℕ → List Line → List Step
steps mac [] = []
steps mac (lines.Send bytes ∷ ls) = Send bytes ∷ steps mac ls
steps mac (lines.Burst count len ∷ ls) = burst_steps mac 0 count len (steps mac ls)
steps mac (lines.Ask question ∷ ls) = Ask question ∷ steps mac ls
steps mac (lines.Await what ∷ ls) = Await what ∷ steps mac ls
steps mac (lines.Hold ∷ ls) = Hold ∷ steps mac ls
steps mac (lines.Release ∷ ls) = Release ∷ steps mac ls

-- ---- a driver with a script

pub record Follower : Type 0 where
  pub steps : List Step  -- what is left of the section
  pub hold : Bool  -- it keeps loans
  pub owing : Bool  -- its packet was held
  pub kept : List Loan

abbrev pub has_any : List Loan → Bool
has_any [] = false
has_any (j ∷ js) = true

abbrev pub rest : List Loan → List Loan
rest [] = []
rest (j ∷ js) = js

-- loans are returned before the next step
abbrev pub is_due : Bool → Bool → Bool
is_due has hold = not hold && has

-- The steps and whether loans are held, behind the holds and releases that take effect here: up to where loans are due. Of a driver that keeps
-- loans or not; at its end all are returned
abbrev pub skip : Bool → Bool → List Step → List Step × Bool
skip has hold [] = ([], false)
skip has hold (Hold ∷ ls) = if is_due has hold then (Hold ∷ ls, hold) else skip has true ls
skip has hold (Release ∷ ls) = if is_due has hold then (Release ∷ ls, hold) else skip has false ls
skip has hold (l ∷ ls) = (l ∷ ls, hold)

abbrev pub front : Follower → List Step × Bool
front s = skip (has_any s.kept) s.hold s.steps

abbrev pub behind : List Step → List Step
behind [] = []
behind (l ∷ ls) = ls

-- behind the step in front, when that is done
abbrev pub past : Follower → List Step × Bool
past s = skip (has_any s.kept) (front s).1 (behind (front s).0)

abbrev pub act_of_steps : List Step → Act
act_of_steps (Send bytes ∷ ls) = Do (commands.Send bytes)
act_of_steps (Ask question ∷ ls) = Do (commands.Ask question)
act_of_steps (Await what ∷ ls) = Do (commands.Await what)
act_of_steps _ = Finish

-- the oldest loan goes back first
abbrev pub act_of_kept : List Loan → Act
act_of_kept [] = Finish
act_of_kept (j ∷ js) = Do (commands.Return j)

abbrev pub act_at : List Loan → List Step × Bool → Act
act_at kept f = if is_due (has_any kept) f.1 then act_of_kept kept else act_of_steps f.0

abbrev pub script_act : Follower → Act
script_act s = if s.owing then Do (commands.Await Room) else act_at s.kept (front s)

abbrev pub kept_then : Follower → List Loan
kept_then s = if s.owing then s.kept else (if is_due (has_any s.kept) (front s).1 then rest s.kept else s.kept)

abbrev pub script_then : Follower → Follower
script_then s = record { steps = s.steps; hold = s.hold; owing = s.owing; kept = kept_then s }

-- steps and hold after an outcome
abbrev pub steps_told : Follower → Outcome → List Step
steps_told s (outcomes.Sent k) = (past s).0
steps_told s (outcomes.Asked r) = (past s).0
steps_told s outcomes.Met = if s.owing then s.steps else (past s).0
steps_told s (outcomes.Returned j) = (front s).0
steps_told s (outcomes.AlreadyBack j) = (front s).0
steps_told s outcomes.Quiet = []
steps_told s _ = s.steps

abbrev pub hold_told : Follower → Outcome → Bool
hold_told s (outcomes.Sent k) = (past s).1
hold_told s (outcomes.Asked r) = (past s).1
hold_told s outcomes.Met = if s.owing then s.hold else (past s).1
hold_told s (outcomes.Returned j) = (front s).1
hold_told s (outcomes.AlreadyBack j) = (front s).1
hold_told s outcomes.Quiet = false
hold_told s _ = s.hold

abbrev pub owing_told : Bool → Outcome → Bool
owing_told owing (outcomes.Held packet) = true
owing_told owing (outcomes.Sent k) = false
owing_told owing (outcomes.Asked r) = false
owing_told owing outcomes.Met = false
owing_told owing outcomes.Quiet = false
owing_told owing _ = owing

abbrev pub script_told : Follower → Outcome → Follower
script_told s o = record { steps = steps_told s o; hold = hold_told s o; owing = owing_told s.owing o; kept = s.kept ++ in_outcome o }

-- how many commands are left
abbrev pub count : List Step → ℕ
count [] = 0
count (Hold ∷ ls) = count ls
count (Release ∷ ls) = count ls
count (l ∷ ls) = suc (count ls)

abbrev pub mode_of : Bool → ℕ → Mode
mode_of true n = Owing
mode_of false zero = Over
mode_of false (suc n) = Free

abbrev pub script_meaning : Meaning Follower
script_meaning = record {
  kept = λ s. s.kept;
  left = λ s. count s.steps;
  mode = λ s. mode_of s.owing (count s.steps);
  act = script_act;
  then = script_then;
  told = script_told;
}

-- what a driver of these lines is at first
abbrev pub at_first : List ℕ → List Line → Follower
at_first mac ls = record { steps = (skip false false (steps mac ls)).0; hold = (skip false false (steps mac ls)).1; owing = false; kept = [] }
