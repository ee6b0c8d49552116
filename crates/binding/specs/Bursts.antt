-- The lines of a section with the packets of a burst that were sent. (The project's own.)
use Rattle.std.specs.Prelude.{ℕ, ◌≡◌, ◌+◌, ◌-◌, ◌<◌, ◌≤◌, Bool, true, false, List, ◌∷◌, drop, Option, Some, None}
use Rattle.driver_script.specs.declared.section_lines.Line.{Line}
use Rattle.driver_script.specs.declared.section_lines.Line.TheVariants as lines
use Rattle.binding.specs.declared.events.Act.{Act}
use Rattle.binding.specs.declared.events.Act.TheVariants.{Do, Finish}
use Rattle.binding.specs.declared.events.Command.TheVariants as commands
use Rattle.binding.specs.Steps.{Step, burst_packet, burst_steps, steps, skip, behind}

-- so many packets of the burst in front are sent, and not all; of another line none
abbrev pub InBurst : ℕ → List Line → Type 0
InBurst sent (lines.Burst count len ∷ ls) = sent < count
InBurst sent _ = sent ≡ 0

-- the steps that are left where so many packets of the burst in front are sent
abbrev pub left : List ℕ → ℕ → List Line → List Step
left mac sent (lines.Burst count len ∷ ls) = burst_steps mac sent (count - sent) len (steps mac ls)
left mac sent ls = steps mac ls

-- whether loans are held behind a line that says so
abbrev pub holds_behind : Line → Option Bool
holds_behind lines.Hold = Some true
holds_behind lines.Release = Some false
holds_behind _ = None

-- behind so many lines the holds and releases in front have taken effect
abbrev pub TakeEffect : Bool → Bool → List Line → ℕ → Bool → Type 0
TakeEffect has hold ls passed holds = (mac : List ℕ) (sent : ℕ) → InBurst sent ls → (skip has hold (left mac sent ls) ≡ (left mac sent (drop passed ls), holds)) × InBurst sent (drop passed ls)

-- behind so many lines, and with so many packets of the burst sent, the step in front is done
abbrev pub StepIsDone : ℕ → List Line → ℕ → ℕ → Type 0
StepIsDone sent ls passed sent' = ((mac : List ℕ) → left mac sent' (drop passed ls) ≡ behind (left mac sent ls)) × InBurst sent' (drop passed ls)

-- the act of a line of which so many packets are sent
abbrev pub act_of_line : List ℕ → ℕ → Line → Act
act_of_line mac sent (lines.Send bytes) = Do (commands.Send bytes)
act_of_line mac sent (lines.Burst count len) = Do (commands.Send (burst_packet mac sent len))
act_of_line mac sent (lines.Ask question) = Do (commands.Ask question)
act_of_line mac sent (lines.Await what) = Do (commands.Await what)
act_of_line mac sent _ = Finish

-- when one more packet is sent, it has so many and goes on; or the line is done
abbrev pub HasMore : ℕ → Line → ℕ → Type 0
HasMore sent (lines.Burst count len) more = (more < count) × (more ≡ sent + 1)
HasMore sent _ more = ⊥

abbrev pub IsLast : ℕ → Line → Type 0
IsLast sent (lines.Burst count len) = count ≤ sent + 1
IsLast sent _ = Unit {0}
