use Rattle.std.proofs.Common.{◌+◌, ◌-◌, ◌*◌, length, refl, ap, ◌∙◌}
use Rattle.std.specs.Prelude.{replicate}
use Rattle.guest_map.specs.declared.regions.Region.{Region}
use Rattle.nd_mem.specs.Space.{Space, put_from}
use Rattle.legal_run.specs.Guest.{with_writes}
use Rattle.handler_entries.proofs.Begun.{stack_put}
use Rattle.handler_entries.proofs.stacks.begin_stack.Goals as goal

pub returns : goal.returns
returns c =
    let n = 0x4000 - 4 * (1 + length c.args.words.now) in
    let zeros = c.put_zeros.ensures ∙ ap (λ (r : Region). put_from c.args.memory.now r.first.0 (replicate n 0)) c.stack.ensures in
    let leave = c.slot_address.ensures in
    c.put_all.ensures
    ∙ ap (λ (s : Space). with_writes s c.args.writes.now)
    (stack_put c.write_laws.ensures c.args.memory.now c.put_zeros.new.memory c.put.new.memory c.put_words.new.memory c.args.x.0 c.stack_pointer-esp.result c.slot_address.result.0 n c.args.words.now c.requires.number c.requires.few refl zeros
    (c.put.ensures ∙ ap (put_from c.put_zeros.new.memory c.stack_pointer-esp.result) c.to_le_bytes.ensures) c.put_words.ensures c.stack_pointer-esp.ensures leave)
