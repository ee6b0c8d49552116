use Rattle.std.proofs.Common.{◌∙◌, sym, arith}
use Rattle.std.specs.FinMap as map
use Rattle.import_table.specs.Table.{seen}
use Rattle.import_table.proofs.CallWords.{none_taken, one_taken, cut_here, all_taken}
use Rattle.import_table.proofs.calls.with_words.Goals as goal

pub loop-k-init : goal.loop-k-init
loop-k-init c = none_taken (seen c.args.row.now) c.args.regs.now (map.get c.args.memory.now) c.of-call.result c.of-call.ensures c.requires

pub returns-in-Err : goal.returns-in-Err
returns-in-Err c = cut_here (seen c.args.row.now) c.args.regs.now (map.get c.args.memory.now) c.loop-k.k c.in-Err.fault c.loop-k.call c.loop-k.invariant (omega arith) (sym c.argument.ensures ∙ c.in-Err.is)

pub loop-k-preserved : goal.loop-k-preserved
loop-k-preserved c = one_taken (seen c.args.row.now) c.args.regs.now (map.get c.args.memory.now) c.loop-k.k c.in-Ok.word c.loop-k.call c.loop-k.invariant (omega arith) (omega arith) (sym c.argument.ensures ∙ c.in-Ok.is)

pub returns : goal.returns
returns c = all_taken (seen c.args.row.now) c.args.regs.now (map.get c.args.memory.now) c.loop-k.k c.loop-k.call c.loop-k.invariant (omega arith)
