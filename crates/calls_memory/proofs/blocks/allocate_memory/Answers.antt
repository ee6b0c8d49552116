use Rattle.std.proofs.Common.{ap, rules}
use Rattle.packet_pool.specs.LiveSet.{LiveSet}
use Rattle.import_answers.specs.World.{word}
use Rattle.calls_memory.proofs.Wanted.{memory_wanted}
use Rattle.calls_memory.proofs.blocks.allocate_memory.Goals as goal

pub returns-in-Err-with_block : goal.returns-in-Err-with_block
returns-in-Err-with_block c =
    let w = c.args.world.now in
    let same = c.undo_laws.ensures.block w.pools c.alloc_block.new.self c.free_block-freed.new.self (word c.args.words.now 2) c.in-Ok.block.0 c.free_block-freed.result c.in-Ok.ensures.1 c.free_block-freed.ensures in
    memory_wanted w _ c.args.words.now (search rules) (ap (λ (pools : LiveSet). record w { pools = pools }) same)
