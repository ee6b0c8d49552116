use Rattle.import_table.proofs.TableFacts.{table_facts}
use Rattle.import_table.proofs.laws.table_laws.Goals as goal

pub returns : goal.returns
returns c = table_facts c.names_are_found.ensures
