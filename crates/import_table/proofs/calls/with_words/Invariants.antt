use Rattle.std.specs.FinMap as map
use Rattle.import_table.specs.Table.{seen}
use Rattle.import_table.proofs.CallWords.{HasTaken}
use Rattle.import_table.proofs.calls.with_words.Given as goal

abbrev pub invariant-loop-k : goal.invariant-loop-k
invariant-loop-k l = HasTaken (seen l.row) l.regs (map.get l.memory) l.k l.call
