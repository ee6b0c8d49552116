-- The lines of a script, each as a form of words. (The project's own; docs/SCRIPT.md has an example of each.)
use Rattle.std.specs.Prelude.{codes, ℕ, ◌≡◌, ◌+◌, ◌-◌, ◌^◌, ◌%◌, Bool, ◌&&◌, ◌==◌, List, [], ◌∷◌, slice_index, Option, Some, None, if◌then◌else◌, ◌⊎◌}
use Rattle.std.specs.Int.{w16, w32, from_be_bytes}
use Rattle.nd_base.specs.Words.{words, IsComment, SaysNothing}
use Rattle.log_fields.specs.declared.field_values.Question.TheVariants as questions
use Rattle.log_fields.specs.declared.field_values.Condition.{Condition}
use Rattle.log_fields.specs.declared.field_values.Condition.TheVariants as conditions
use Rattle.driver_script.specs.declared.adapter_lines.AdapterLine.{AdapterLine}
use Rattle.driver_script.specs.declared.adapter_lines.ParamLine.{ParamLine}
use Rattle.driver_script.specs.declared.section_lines.Line.{Line}
use Rattle.driver_script.specs.declared.section_lines.Line.TheVariants as lines
use Rattle.driver_script.specs.declared.keywords.Keyword.{Keyword}
use Rattle.driver_script.specs.declared.keywords.Keyword.TheVariants as keywords
use Rattle.driver_script.specs.declared.keywords.Until.{Until}
use Rattle.driver_script.specs.declared.keywords.Until.TheVariants as untils
use Rattle.driver_script.specs.Keywords.{keyword_name, keywords_all, until_name, untils_all}
use Rattle.driver_script.specs.Forms.{Field, Form, is_within, word, such, made, number, octet_string, from_to, dash_or, end, ◌▹◌, ◌▸◌, of, chosen}

-- What a line states: an adapter with its number, a parameter of an adapter, the begin of a driver on an adapter, or what the driver does.
pub data Item : Type 0 where
  Adapter : ℕ → AdapterLine → Item
  Param : ℕ → ParamLine → Item
  Driver : ℕ → ℕ → Item
  Does : Line → Item

-- ---- fields

abbrev pub is_port : ℕ → Bool
is_port n = is_within 0x200 0x3e0 n && (n % 0x20 == 0)

-- four digits
abbrev pub port : Field ℕ
port = such is_port (made (from_be_bytes w16) (from_to 2 2 octet_string))

-- twelve digits; the first byte even
abbrev pub mac : Field (List ℕ)
mac = such (λ bytes. slice_index bytes 0 % 2 == 0) (from_to 6 6 octet_string)

-- eight digits
abbrev pub oid : Field ℕ
oid = made (from_be_bytes w32) (from_to 4 4 octet_string)

abbrev pub adapter_number : Field ℕ
adapter_number = number 0 3

abbrev pub driver_number : Field ℕ
driver_number = number 0 7

abbrev pub medium : Field ℕ
medium = number 0 (2 ^ 32 - 1)

-- ---- forms

abbrev pub until_form : Until → Form Condition
until_form untils.Up = of (λ x. conditions.Up) end
until_form untils.Sent = of (λ x. conditions.Sent) end
until_form untils.Replies = of (λ x. conditions.Replies) end
until_form untils.Frames = of (λ x. conditions.Frames x.0) (medium ▹ end)
until_form untils.All = of (λ x. conditions.All) end

abbrev pub until : Form Condition
until = chosen until_name untils_all until_form

-- adapter A ID port HHHH irq N mac HHHHHHHHHHHH
abbrev pub adapter_form : Form Item
adapter_form = of (λ x. Adapter x.0 (record { id = x.1.0; port = x.1.1.0; irq = x.1.1.1.0; mac = x.1.1.1.1.0 })) (adapter_number ▹ word ▹ codes "port" ▸ port ▹ codes "irq" ▸ number 3 15 ▹ codes "mac" ▸ mac ▹ end)

-- param A NAME TEXT
abbrev pub param_form : Form Item
param_form = of (λ x. Param x.0 (record { name = x.1.0; text = x.1.1.0 })) (adapter_number ▹ word ▹ word ▹ end)

-- driver B on A
abbrev pub driver_form : Form Item
driver_form = of (λ x. Driver x.0 x.1.0) (driver_number ▹ codes "on" ▸ adapter_number ▹ end)

-- What a keyword's line goes on with: send HEX, burst N LEN, query OID LEN, set OID HEX, await .., hold, release.
abbrev pub item_form : Keyword → Form Item
item_form keywords.Adapter = adapter_form
item_form keywords.Param = param_form
item_form keywords.Driver = driver_form
item_form keywords.Send = of (λ x. Does (lines.Send x.0)) (from_to 14 1514 octet_string ▹ end)
item_form keywords.Burst = of (λ x. Does (lines.Burst x.0 x.1.0)) (number 1 10000 ▹ number 14 1514 ▹ end)
item_form keywords.Query = of (λ x. Does (lines.Ask (questions.Query x.0 x.1.0))) (oid ▹ medium ▹ end)
item_form keywords.Set = of (λ x. Does (lines.Ask (questions.Set x.0 x.1.0))) (oid ▹ dash_or octet_string ▹ end)
item_form keywords.Await = of (λ x. Does (lines.Await x)) until
item_form keywords.Hold = of (λ x. Does lines.Hold) end
item_form keywords.Release = of (λ x. Does lines.Release) end

unfoldable pub item : Form Item
item = chosen keyword_name keywords_all item_form

-- ---- lines

-- the line states the item
pub record States (line : List ℕ) (i : Item) : Type 0 where
  pub no_comment : IsComment line → ⊥
  pub stated : item.states (words line) i

-- the lines state the items, in order, beside lines that say nothing: blank ones, and those that begin with #
abbrev pub AreStated : List (List ℕ) → List Item → Type 0
AreStated [] is = is ≡ []
AreStated (line ∷ ls) is = (SaysNothing line × AreStated ls is) ⊎ ((i : Item) × (rest : List Item) × (is ≡ i ∷ rest) × States line i × AreStated ls rest)
