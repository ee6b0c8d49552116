-- Reading of a script line by line. It is private: specs/Scripts.antt is what is promised.
use Rattle.std.specs.Prelude.{ℕ, zero, suc, ◌+◌, ◌^◌, Bool, true, false, not, ◌&&◌, ◌==◌, nat_lt, List, [], ◌∷◌, ◌++◌, length, Option, Some, None, slice_index, slice_index_or, slice_set, if◌then◌else◌}
use Rattle.std.specs.List.{list_any}
use Rattle.std.specs.Option.{option_map, option_map_or}
use Rattle.std.specs.Str.Lines.{lines}
use Rattle.driver_script.specs.declared.refusal.ScriptRefusal.{ScriptRefusal}
use Rattle.driver_script.specs.declared.refusal.ScriptRefusal.TheVariants as refusals
use Rattle.nd_base.specs.Words.{words}
use Rattle.driver_script.specs.declared.adapter_lines.AdapterLine.{AdapterLine}
use Rattle.driver_script.specs.declared.section_lines.Line.{Line}
use Rattle.driver_script.specs.declared.statement.Content.{Content}
use Rattle.driver_script.specs.declared.statement.Content.TheVariants as content
use Rattle.driver_script.specs.Items.{Item, Adapter, Param, Driver, Does, item}
use Rattle.driver_script.specs.Statements.{item_of}
use Rattle.driver_script.specs.Scripts.{Contents}

-- ---- one line

-- what a line says: nothing, an item, or what is no line of a script
pub data Said : Type 0 where
  Nothing : Said
  Says : Item → Said
  Outside : Said

abbrev pub said_of : Option Item → Said
said_of None = Outside
said_of (Some i) = Says i

abbrev pub said_words : List (List ℕ) → Said
said_words [] = Nothing
said_words (w ∷ ws) = said_of (item.read (w ∷ ws))

-- a line that begins with # says nothing
unfoldable pub said : List ℕ → Said
said line = if slice_index line 0 == 35 then Nothing else said_words (words line)

-- what the reader has of it
abbrev pub said_by : Content → Said
said_by content.Nothing = Nothing
said_by (content.Says s) = Says (item_of s)
said_by content.Outside = Outside

-- ---- whether an item goes on from the ones in front of it

-- what is known of the items so far: the ports and interrupt lines of the adapters, whether there was a parameter, and how many drivers
pub record Known : Type 0 where
  pub ports : List ℕ
  pub irqs : List ℕ
  pub has_params : Bool
  pub drivers : ℕ

abbrev pub start : Known
start = record { ports = []; irqs = []; has_params = false; drivers = 0 }

abbrev pub has : List ℕ → ℕ → Bool
has numbers n = list_any (λ x. x == n) numbers

abbrev pub accepts_adapter : Known → ℕ → ℕ → ℕ → Bool
accepts_adapter k number port irq = (number == length k.ports) && (nat_lt number 4 && (not k.has_params && ((k.drivers == 0) && (not (has k.ports port) && not (has k.irqs irq)))))

abbrev pub accepts_param : Known → ℕ → Bool
accepts_param k a = nat_lt a (length k.ports) && (k.drivers == 0)

abbrev pub accepts : Known → Item → Bool
accepts k (Adapter number line) = accepts_adapter k number line.port line.irq
accepts k (Param a p) = accepts_param k a
accepts k (Driver number a) = (number == k.drivers) && (nat_lt number 8 && nat_lt a (length k.ports))
accepts k (Does line) = nat_lt 0 k.drivers

abbrev pub after : Known → Item → Known
after k (Adapter number line) = record k { ports = k.ports ++ line.port ∷ []; irqs = k.irqs ++ line.irq ∷ [] }
after k (Param a p) = record k { has_params = true }
after k (Driver number a) = record k { drivers = k.drivers + 1 }
after k (Does line) = k

abbrev pub step : Known → Said → Option Known
step k Nothing = Some k
step k (Says i) = if accepts k i then Some (after k i) else None
step k Outside = None

-- the number of the first line that does not go on, of lines of which the first has the number n
unfoldable pub first_outside : ℕ → Known → List (List ℕ) → Option ℕ
first_outside n k [] = if nat_lt 0 (length k.ports) then None else Some n
first_outside n k (line ∷ ls) = option_map_or (λ next. first_outside (n + 1) next ls) (step k (said line)) (Some n)

-- ---- what is built of the items

abbrev pub empty : Contents
empty = record { adapters = []; params = []; drivers = []; sections = [] }

-- a line at the end of the last section
abbrev pub onto_last : List (List Line) → Line → List (List Line)
onto_last [] line = []
onto_last (ls ∷ []) line = (ls ++ line ∷ []) ∷ []
onto_last (ls ∷ next ∷ sections) line = ls ∷ onto_last (next ∷ sections) line

abbrev pub add : Contents → Item → Contents
add c (Adapter number line) = record c { adapters = c.adapters ++ line ∷ []; params = c.params ++ [] ∷ [] }
add c (Param a p) = record c { params = slice_set c.params a (slice_index_or c.params a [] ++ p ∷ []) }
add c (Driver number a) = record c { drivers = c.drivers ++ (record { 0 = a }) ∷ []; sections = c.sections ++ [] ∷ [] }
add c (Does line) = record c { sections = onto_last c.sections line }

abbrev pub put : Contents → Said → Contents
put c Nothing = c
put c (Says i) = add c i
put c Outside = c

unfoldable pub built : Contents → List (List ℕ) → Contents
built c [] = c
built c (line ∷ ls) = built (put c (said line)) ls

-- the first fault of a text
unfoldable pub refusal_of : List ℕ → Option ScriptRefusal
refusal_of text = if nat_lt (2 ^ 20) (length text) then Some refusals.TooLong else option_map refusals.Line (first_outside 1 start (lines text))
