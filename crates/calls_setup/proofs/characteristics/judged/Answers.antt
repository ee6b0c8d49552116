use Rattle.std.proofs.Common.{slice_index_or, arith}
use Rattle.import_answers.specs.World.{cells}
use Rattle.calls_setup.proofs.WordLemmas.{miniport_same, judged_same}
use Rattle.calls_setup.proofs.characteristics.judged.Goals as goal

pub returns : goal.returns
returns c =
    let there = cells c.args.world.now in
    let minor = slice_index_or c.versions.result 1 0 in
    judged_same there c.args.at c.args.length (slice_index_or c.versions.result 0 0) minor _ c.whole.result c.versions.ensures.major c.versions.ensures.minor (omega arith) (omega arith) (omega arith)
    (miniport_same there c.args.at minor c.word_count-count.result c.words_read-words.result c.versions.ensures.minor c.words_read-words.ensures.count c.word_count-count.ensures.count c.words_read-words.ensures.words) c.whole.ensures
