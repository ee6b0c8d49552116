use Rattle.std.proofs.Common.{arith, ap, ◌∙◌}
use Rattle.nd_mem.specs.Space.{put_from}
use Rattle.handler_entries.proofs.Words.{word_put, none_put}
use Rattle.handler_entries.proofs.stacks.put_words.Goals as goal

pub loop-word-init : goal.loop-word-init
loop-word-init c = record { next = omega arith; memory = none_put _ _ }

pub loop-word-preserved : goal.loop-word-preserved
loop-word-preserved c =
    let before = c.loop-word.invariant in
    record {
      next = omega (arith, before.next);
      memory = word_put c.write_laws.ensures c.args.memory.now c.loop-word.memory c.put.new.memory c.args.at c.loop-word.word-index c.loop-word.next c.args.words.now c.loop-word-test.true before.memory before.next (c.put.ensures ∙ ap (put_from c.loop-word.memory c.loop-word.next) c.to_le_bytes.ensures);
    }
