use Rattle.std.proofs.Common.{◌∙◌, sym}
use Rattle.std.specs.FinMap as map
use Rattle.import_table.specs.Table.{seen}
use Rattle.import_table.proofs.CallWords.{no_return}
use Rattle.import_table.proofs.calls.arguments.Goals as goal

pub returns-in-Err : goal.returns-in-Err
returns-in-Err c = no_return (seen c.args.row.now) c.args.regs.now (map.get c.args.memory.now) c.in-Err.fault c.of-call.result c.of-call.ensures (sym c.word_at.ensures ∙ c.in-Err.is)
