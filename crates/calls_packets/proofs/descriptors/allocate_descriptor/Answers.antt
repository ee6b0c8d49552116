use Rattle.std.proofs.Common.{sym}
use Rattle.import_answers.specs.World.{word}
use Rattle.calls_packets.proofs.PoolOutcomes.{descriptor_given, descriptor_wanted}
use Rattle.calls_packets.proofs.descriptors.allocate_descriptor.Goals as goal

pub returns-in-Ok-with_descriptor : goal.returns-in-Ok-with_descriptor
returns-in-Ok-with_descriptor c = descriptor_given c.args.world.now c.args.kind c.args.words.now c.in-Ok.at.0 c.take_descriptor.new.self c.in-Ok-with_descriptor.answer (sym c.if-not-can_write.ensures) (sym c.if-not-can_write-2.ensures) c.in-Ok.ensures.live c.in-Ok-with_descriptor.ensures.ok

pub returns-in-Err-with_descriptor : goal.returns-in-Err-with_descriptor
returns-in-Err-with_descriptor c =
    let w = c.args.world.now in
    let same = c.undo_laws.ensures.descriptor w.pools c.take_descriptor.new.self c.give_back-given.new.pools c.args.kind (word c.args.words.now 3) c.in-Ok.at.0 c.give_back-given.result c.in-Ok.ensures.live c.give_back-given.ensures in
    descriptor_wanted w c.args.kind c.args.words.now c.in-Ok.at.0 c.take_descriptor.new.self c.give_back-given.new.pools (sym c.if-not-can_write.ensures) (sym c.if-not-can_write-2.ensures) c.in-Ok.ensures.live same
