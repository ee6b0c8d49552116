use Rattle.std.proofs.Common.{◌≡◌, arith, length, ap, ◌∙◌}
use Rattle.std.specs.FinMap as map
use Rattle.nd_mem.specs.Space.{first_fault, Any, put_from}
use Rattle.entry_start.proofs.PutWords.{free_after, word_put, none_put, never_err}
use Rattle.entry_start.proofs.start.put_words.Goals as goal

pub loop-word-init : goal.loop-word-init
loop-word-init c = record { next = omega arith; memory = none_put _ _ }

pub unreachable-requires : goal.unreachable-requires
unreachable-requires c =
    let before = c.loop-word.invariant in
    let free = free_after c.fault_laws.ensures c.args.memory.now c.loop-word.memory c.args.at _ c.loop-word.word-index c.loop-word.next _ before.memory before.next c.requires.mapped c.loop-word-test.true in
    let four : length c.to_le_bytes.result ≡ 4 = ap length c.to_le_bytes.ensures in
    never_err _ c.in-Err.field-0 c.in-Err.ensures.answer (ap (first_fault Any (map.get c.loop-word.memory) c.loop-word.next) four ∙ free)

pub loop-word-preserved : goal.loop-word-preserved
loop-word-preserved c =
    let before = c.loop-word.invariant in
    record {
      next = omega (arith, before.next);
      memory = word_put c.write_laws.ensures c.args.memory.now c.loop-word.memory c.place.new.self c.args.at c.loop-word.word-index c.loop-word.next c.args.words.now c.loop-word-test.true before.memory before.next (c.in-Ok.ensures.ok ∙ ap (put_from c.loop-word.memory c.loop-word.next) c.to_le_bytes.ensures);
    }
