use Rattle.std.proofs.Common.{◌≡◌, ◌+◌, ◌*◌, ◌%◌, Bool, false, nat_lt, if◌then◌else◌, refl, sym, ap, ◌∙◌, arith}
use Rattle.std.proofs.lemmas.List.{get_or-replicate, length-set}
use Rattle.std.proofs.lemmas.Bool.Decides.{nat_tests}
use Rattle.import_answers.specs.World.{cells}
use Rattle.import_answers.specs.Outcomes.{can_read, word_of}
use Rattle.calls_setup.proofs.Readable.{part_at, word_wrapped, found_word, set_next}
use Rattle.calls_setup.proofs.characteristics.words_read.Goals as goal

pub loop-k-init : goal.loop-k-init
loop-k-init c = record {
  count = refl;
  each = λ j lt.
      let off : nat_lt j 0 ≡ false = grind (arith, nat_tests) in
      get_or-replicate 27 j 0 0 lt ∙ sym (ap (λ (b : Bool). if b then word_of c.args.world.now (c.args.at + 4 * j) else 0) off);
}

pub loop-k-preserved : goal.loop-k-preserved
loop-k-preserved c =
    let w = c.args.world.now in
    let a = c.args.at in
    let k = c.loop-k.k in
    let here = found_word (can_read w ((a + 4 * k) % 4294967296) 4) (word_of w ((a + 4 * k) % 4294967296)) c.unwrap_or.result c.word_at.result c.word_at.ensures (part_at c.fault_laws.ensures (cells w) a (4 * c.args.count) (4 * k) 4 _ c.requires.readable (omega arith) refl) c.unwrap_or.ensures in
    record {
      count = length-set c.loop-k.words k c.unwrap_or.result ∙ c.loop-k.invariant.count;
      each = set_next c.loop-k.words k c.unwrap_or.result (λ j. word_of w (a + 4 * j)) (omega arith) (here ∙ word_wrapped c.read_laws.ensures (cells w) (a + 4 * k) _ refl) c.loop-k.invariant.each;
    }
