-- Which text is a script, and which line of other text is its first fault. (The project's own: docs/SCRIPT.md.)
--
-- A script's lines state its adapters, numbered from 0; then parameters of these, in any order; then its drivers, numbered from 0, each with
-- the lines of its section behind it. Lines end with LF or CRLF, as those of Rust's `str::lines`.
use Rattle.std.specs.Prelude.{ℕ, suc, ◌≡◌, ◌≢◌, ◌+◌, ◌<◌, ◌≤◌, ◌^◌, ◌==◌, ◌⊎◌, List, [], ◌∷◌, ◌++◌, length, map, take, if◌then◌else◌}
use Rattle.std.specs.List.{AllByRecursion, AllPairs, range_with_len}
use Rattle.std.specs.Str.Lines.{lines}
use Rattle.nd_base.specs.declared.numbers.AdapterNo.{AdapterNo}
use Rattle.driver_script.specs.declared.adapter_lines.AdapterLine.{AdapterLine}
use Rattle.driver_script.specs.declared.adapter_lines.ParamLine.{ParamLine}
use Rattle.driver_script.specs.declared.section_lines.Line.{Line}
use Rattle.driver_script.specs.declared.refusal.ScriptRefusal.{ScriptRefusal}
use Rattle.driver_script.specs.declared.refusal.ScriptRefusal.TheVariants as refusals
use Rattle.driver_script.specs.Items.{Item, Adapter, Param, Driver, Does, AreStated}

-- A script: its adapters, the parameters of each, the adapter of each driver, and each driver's lines.
pub record Contents : Type 0 where
  pub adapters : List AdapterLine
  pub params : List (List ParamLine)
  pub drivers : List AdapterNo
  pub sections : List (List Line)

-- ---- items

-- adapters, numbered from n on
abbrev pub adapter_items : ℕ → List AdapterLine → List Item
adapter_items n [] = []
adapter_items n (a ∷ others) = Adapter n a ∷ adapter_items (suc n) others

-- parameters, each with the number of its adapter
abbrev pub param_items : List (ℕ × ParamLine) → List Item
param_items [] = []
param_items (p ∷ ps) = Param p.0 p.1 ∷ param_items ps

-- drivers, numbered from n on, each with the lines of its section
abbrev pub section_items : ℕ → List AdapterNo → List (List Line) → List Item
section_items n [] sections = []
section_items n (a ∷ others) [] = []
section_items n (a ∷ others) (ls ∷ sections) = Driver n a.0 ∷ (map Does ls ++ section_items (suc n) others sections)

-- the parameters of adapter a, in order
abbrev pub params_of : ℕ → List (ℕ × ParamLine) → List ParamLine
params_of a [] = []
params_of a (p ∷ ps) = if p.0 == a then p.1 ∷ params_of a ps else params_of a ps

-- two adapters have different ports and different interrupt lines
abbrev pub DoNotMeet : AdapterLine → AdapterLine → Type 0
DoNotMeet a b = (a.port ≢ b.port) × (a.irq ≢ b.irq)

-- the items make these contents, which may still lack an adapter
pub record Make (is : List Item) (c : Contents) : Type 0 where
  pub params : List (ℕ × ParamLine)
  pub parts : is ≡ adapter_items 0 c.adapters ++ (param_items params ++ section_items 0 c.drivers c.sections)
  pub few_adapters : length c.adapters ≤ 4
  pub few_drivers : length c.drivers ≤ 8
  pub apart : AllPairs DoNotMeet c.adapters
  pub of_adapters : AllByRecursion (λ p. p.0 < length c.adapters) params
  pub on_adapters : AllByRecursion (λ a. a.0 < length c.adapters) c.drivers
  pub gathered : c.params ≡ map (λ a. params_of a params) (range_with_len 0 (length c.adapters))
  pub each : length c.sections ≡ length c.drivers

-- ---- lines

-- the lines are those of a script with these contents
abbrev pub AreLinesOf : List (List ℕ) → Contents → Type 0
AreLinesOf ls c = (0 < length c.adapters) × ((is : List Item) × AreStated ls is × Make is c)

-- some script begins with the lines
abbrev pub BeginAScript : List (List ℕ) → Type 0
BeginAScript ls = (more : List (List ℕ)) × (c : Contents) × AreLinesOf (ls ++ more) c

-- some script begins with the lines in front of this one, numbered from 1, and none with that one behind them; or all lines begin
-- scripts, none is theirs alone, and the number is one more than theirs
abbrev pub IsFirstOutside : List (List ℕ) → ℕ → Type 0
IsFirstOutside ls number =
    ((k : ℕ) × (number ≡ suc k) × (k < length ls) × BeginAScript (take k ls) × (BeginAScript (take (suc k) ls) → ⊥))
    ⊎ ((number ≡ suc (length ls)) × BeginAScript ls × ((c : Contents) → AreLinesOf ls c → ⊥))

-- ---- text

-- the text is a script with these contents
abbrev pub IsScript : List ℕ → Contents → Type 0
IsScript text c = (length text ≤ 2 ^ 20) × AreLinesOf (lines text) c

-- the first fault of the text
abbrev pub IsRefused : List ℕ → ScriptRefusal → Type 0
IsRefused text refusals.OutOfMemory = ⊥
IsRefused text refusals.TooLong = 2 ^ 20 < length text
IsRefused text (refusals.Line number) = (length text ≤ 2 ^ 20) × IsFirstOutside (lines text) number
