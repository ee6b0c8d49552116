-- What each script has, whatever its text. (The project's own: docs/SCRIPT.md.)
use Rattle.std.specs.Prelude.{ℕ, ◌≡◌, ◌<◌, ◌≤◌, ◌^◌, ◌%◌, true, List, length, slice_index}
use Rattle.std.specs.List.{AllByRecursion, AllPairs}
use Rattle.log_fields.specs.declared.field_values.Condition.{Condition}
use Rattle.log_fields.specs.declared.field_values.Condition.TheVariants as conditions
use Rattle.driver_script.specs.declared.adapter_lines.AdapterLine.{AdapterLine}
use Rattle.driver_script.specs.declared.section_lines.Line.{Line}
use Rattle.driver_script.specs.declared.section_lines.Line.TheVariants as lines
use Rattle.driver_script.specs.Items.{Item, Adapter, Does, is_port}
use Rattle.driver_script.specs.Scripts.{Contents, DoNotMeet, IsScript}

-- a multiple of 0x20 from 0x200 to 0x3e0; an interrupt line from 3 to 15; six bytes of which the first is even
pub record FitsAdapter (a : AdapterLine) : Type 0 where
  pub port : is_port a.port ≡ true
  pub least_irq : 3 ≤ a.irq
  pub most_irq : a.irq ≤ 15
  pub mac : slice_index a.mac 0 % 2 ≡ 0

-- no line waits for room
abbrev pub IsWaitedFor : Condition → Type 0
IsWaitedFor (conditions.Frames n) = n < 2 ^ 32
IsWaitedFor conditions.Room = ⊥
IsWaitedFor _ = Unit {0}

-- packets are Ethernet frames, and a burst is of 1 to 10,000
abbrev pub FitsLine : Line → Type 0
FitsLine (lines.Send bytes) = (14 ≤ length bytes) × (length bytes ≤ 1514)
FitsLine (lines.Burst count len) = (1 ≤ count) × (count ≤ 10000) × (14 ≤ len) × (len ≤ 1514)
FitsLine (lines.Await what) = IsWaitedFor what
FitsLine _ = Unit {0}

abbrev pub FitsItem : Item → Type 0
FitsItem (Adapter number a) = FitsAdapter a
FitsItem (Does line) = FitsLine line
FitsItem _ = Unit {0}

pub record IsSound (c : Contents) : Type 0 where
  pub some : 0 < length c.adapters
  pub few_adapters : length c.adapters ≤ 4
  pub adapters : AllByRecursion FitsAdapter c.adapters
  pub apart : AllPairs DoNotMeet c.adapters
  pub params : length c.params ≡ length c.adapters
  pub few_drivers : length c.drivers ≤ 8
  pub drivers : AllByRecursion (λ a. a.0 < length c.adapters) c.drivers
  pub sections : length c.sections ≡ length c.drivers
  pub lines : AllByRecursion (AllByRecursion FitsLine) c.sections

abbrev pub ScriptsAreSound : Type 0
ScriptsAreSound = (text : List ℕ) (c : Contents) → IsScript text c → IsSound c
