use Rattle.std.proofs.Common.{ap, ◌∙◌}
use Rattle.std.proofs.lemmas.List.{take-replicate}
use Rattle.nd_mem.specs.Space.{put_from}
use Rattle.handler_entries.proofs.stacks.put_zeros.Goals as goal

pub returns : goal.returns
returns c = c.put.ensures ∙ ap (put_from c.args.memory.now c.args.at.0) (take-replicate c.args.count 16384 0 c.requires)
