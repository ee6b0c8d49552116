-- What a line says as the reader has it: the words of the line stand for the values that they spell.
use Rattle.std.specs.Prelude.{ℕ, List, [], Option, Some, None}
use Rattle.std.specs.Result.{result_unwrap_or}
use Rattle.std.specs.Option.{option_map}
use Rattle.hex.specs.Hex.{decode_of}
use Rattle.nd_base.specs.Words.{words}
use Rattle.log_fields.specs.declared.field_values.Question.TheVariants as questions
use Rattle.driver_script.specs.declared.section_lines.Line.{Line}
use Rattle.driver_script.specs.declared.section_lines.Line.TheVariants as lines
use Rattle.driver_script.specs.declared.statement.LineText.{LineText}
use Rattle.driver_script.specs.declared.statement.LineText.TheVariants as texts
use Rattle.driver_script.specs.declared.statement.Statement.{Statement}
use Rattle.driver_script.specs.declared.statement.Statement.TheVariants as statements
use Rattle.driver_script.specs.Items.{Item, Adapter, Param, Driver, Does}

-- the bytes that digits spell, and none for anything else
unfoldable pub octets : List ℕ → List ℕ
octets w = result_unwrap_or (decode_of w) []

abbrev pub line_of : LineText → Line
line_of (texts.Send digits) = lines.Send (octets digits.now)
line_of (texts.Burst count length) = lines.Burst count length
line_of (texts.Query oid length) = lines.Ask (questions.Query oid length)
line_of (texts.Set oid digits) = lines.Ask (questions.Set oid (octets digits.now))
line_of (texts.Await condition) = lines.Await condition
line_of texts.Hold = lines.Hold
line_of texts.Release = lines.Release

abbrev pub item_of : Statement → Item
item_of (statements.Adapter number id port irq mac) = Adapter number (record { id = id.now; port = port; irq = irq; mac = mac })
item_of (statements.Param adapter name text) = Param adapter (record { name = name.now; text = text.now })
item_of (statements.Driver number adapter) = Driver number adapter
item_of (statements.Does text) = Does (line_of text)
