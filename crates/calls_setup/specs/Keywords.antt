-- An NDIS_STRING as the code has it.
use Rattle.import_answers.specs.Configuration.{Counted}
use Rattle.calls_setup.specs.declared.keywords.Counted as code

abbrev pub counted_of : code.Counted → Counted
counted_of c = record { length = c.length; characters = c.characters }
