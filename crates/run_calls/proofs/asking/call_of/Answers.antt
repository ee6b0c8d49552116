use Rattle.std.proofs.Common.{sym, ◌∙◌}
use Rattle.std.specs.FinMap as map
use Rattle.import_table.specs.Table.{seen}
use Rattle.run_calls.proofs.Words.{whole_from, cut_from, import_of, is_call}
use Rattle.run_calls.proofs.asking.call_of.Goals as goal

pub returns-in-Ok-clause-import : goal.returns-in-Ok-clause-import
returns-in-Ok-clause-import c = import_of (seen c.args.row.now) c.args.regs.now (map.get c.args.memory.now) c.in-Ok.call (whole_from (seen c.args.row.now) c.args.regs.now (map.get c.args.memory.now) c.in-Ok.call (sym c.arguments.ensures ∙ c.in-Ok.is))

pub returns-in-Ok-clause-call : goal.returns-in-Ok-clause-call
returns-in-Ok-clause-call c = is_call (seen c.args.row.now) c.args.regs.now (map.get c.args.memory.now) c.in-Ok.call c.requires.0 c.requires.1 (whole_from (seen c.args.row.now) c.args.regs.now (map.get c.args.memory.now) c.in-Ok.call (sym c.arguments.ensures ∙ c.in-Ok.is))

pub returns-in-Err-clause-import : goal.returns-in-Err-clause-import
returns-in-Err-clause-import c = import_of (seen c.args.row.now) c.args.regs.now (map.get c.args.memory.now) c.in-Err.cut.call (cut_from (seen c.args.row.now) c.args.regs.now (map.get c.args.memory.now) c.in-Err.cut (sym c.arguments.ensures ∙ c.in-Err.is))

pub returns-in-Err-clause-call : goal.returns-in-Err-clause-call
returns-in-Err-clause-call c = is_call (seen c.args.row.now) c.args.regs.now (map.get c.args.memory.now) c.in-Err.cut.call c.requires.0 c.requires.1 (cut_from (seen c.args.row.now) c.args.regs.now (map.get c.args.memory.now) c.in-Err.cut (sym c.arguments.ensures ∙ c.in-Err.is))
