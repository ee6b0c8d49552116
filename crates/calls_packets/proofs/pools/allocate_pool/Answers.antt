use Rattle.std.proofs.Common.{sym, subst}
use Rattle.packet_pool.specs.declared.states.PoolRefusal.{PoolRefusal}
use Rattle.packet_pool.specs.LiveMoves.{Refuses, pool_refusal}
use Rattle.import_answers.specs.World.{word}
use Rattle.calls_packets.proofs.PoolOutcomes.{pool_made, pool_wanted, pool_refused}
use Rattle.calls_packets.proofs.pools.allocate_pool.Goals as goal

pub returns-in-Ok : goal.returns-in-Ok
returns-in-Ok c = pool_made c.args.world.now c.args.kind c.args.words.now c.in-Ok.handle c.make_pool.new.pools c.with_status.result (sym c.if-not-can_write.ensures) (sym c.if-not-can_write-2.ensures) c.in-Ok.ensures.0 c.in-Ok.ensures.1 c.with_status.ensures.ok c.with_status.ensures.err

pub returns-in-Err-OutOfMemory : goal.returns-in-Err-OutOfMemory
returns-in-Err-OutOfMemory c =
    let due = subst (λ (e : PoolRefusal). Refuses (pool_refusal c.args.world.now.pools c.args.kind (word c.args.words.now 3)) e) c.in-Err-OutOfMemory.field-0-is c.in-Err-OutOfMemory.ensures.0 in
    pool_wanted c.args.world.now c.args.kind c.args.words.now c.make_pool.new.pools (sym c.if-not-can_write.ensures) (sym c.if-not-can_write-2.ensures) due

pub returns-in-Err-Count : goal.returns-in-Err-Count
returns-in-Err-Count c =
    let due = subst (λ (e : PoolRefusal). Refuses (pool_refusal c.args.world.now.pools c.args.kind (word c.args.words.now 3)) e) c.in-Err-Count.field-0-is c.in-Err-Count.ensures.0 in
    pool_refused c.args.world.now c.args.kind c.args.words.now _ c.make_pool.new.pools c.with_status-in-Err-Count.result (sym c.if-not-can_write.ensures) (sym c.if-not-can_write-2.ensures) due c.in-Err-Count.ensures.1 c.with_status-in-Err-Count.ensures.ok c.with_status-in-Err-Count.ensures.err

pub returns-in-Err-NoRoom : goal.returns-in-Err-NoRoom
returns-in-Err-NoRoom c =
    let due = subst (λ (e : PoolRefusal). Refuses (pool_refusal c.args.world.now.pools c.args.kind (word c.args.words.now 3)) e) c.in-Err-NoRoom.field-0-is c.in-Err-NoRoom.ensures.0 in
    pool_refused c.args.world.now c.args.kind c.args.words.now _ c.make_pool.new.pools c.with_status-in-Err-NoRoom.result (sym c.if-not-can_write.ensures) (sym c.if-not-can_write-2.ensures) due c.in-Err-NoRoom.ensures.1 c.with_status-in-Err-NoRoom.ensures.ok c.with_status-in-Err-NoRoom.ensures.err
