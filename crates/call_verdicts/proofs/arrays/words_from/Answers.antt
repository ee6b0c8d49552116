use Rattle.std.proofs.Common.{◌≡◌, ◌+◌, ◌*◌, ◌^◌, ◌<◌, ◌≤◌, ℕ, length, None, ap, sym, ◌∙◌, subst, arith}
use Rattle.std.specs.FinMap as map
use Rattle.nd_mem.specs.Space.{Reading, fault_at, first_fault}
use Rattle.guest_world.specs.declared.world.World.{World}
use Rattle.packet_chain.specs.Chain.{word_at}
use Rattle.call_verdicts.proofs.Walks.{readable, words_put, words_all}
use Rattle.call_verdicts.proofs.arrays.words_from.Goals as goal

pub word_at-requires : goal.word_at-requires
word_at-requires g c =
    let memory = map.get c.args.world.now.memory in
    let at = c.args.array + 4 * c.loop-k.k in
    let whole : first_fault Reading memory c.args.array (4 * c.args.n) ≡ None = readable _ c.requires.1 in
    c.fault_laws.ensures.none Reading memory at 4 (λ j lt.
    let inside : 4 * c.loop-k.k + j < 4 * c.args.n = omega (arith, c.loop-k-test.true, lt) in
    let place : c.args.array + (4 * c.loop-k.k + j) ≡ at + j = omega arith in
    ap (fault_at Reading memory) (sym place) ∙ c.fault_laws.ensures.none_at Reading memory c.args.array (4 * c.args.n) (4 * c.loop-k.k + j) whole inside)

pub loop-k-preserved : goal.loop-k-preserved
loop-k-preserved g c =
    let memory = map.get c.args.world.now.memory in
    let whole : first_fault Reading memory c.args.array (4 * c.args.n) ≡ None = readable _ c.requires.1 in
    let some : 0 < 4 * c.args.n = omega (arith, c.loop-k-test.true) in
    let ends : c.args.array + 4 * c.args.n ≤ 0xF0000000 = c.fault_laws.ensures.low Reading memory c.args.array (4 * c.args.n) c.is_low.ensures c.ranges.array.fits whole some in
    let low : c.args.array + 4 * c.loop-k.k < 2 ^ 32 = omega (arith, ends, c.loop-k-test.true) in
    let read = c.word_at.ensures ∙ ap (λ (w : World). word_at (map.get w.memory) (c.args.array + 4 * c.loop-k.k)) c.requires.0 in
    record {
      count = omega (arith, c.in_ok-push.ensures.len, c.loop-k.invariant.count);
      words = words_put g.s c.args.array c.args.n c.loop-k.k c.word_at.result c.loop-k.words.items c.push.new.self.items _ c.loop-k-test.true low read c.in_ok-push.ensures.items c.loop-k.invariant.words;
    }

pub returns-clause-words : goal.returns-clause-words
returns-clause-words g c =
    let most : c.args.n ≤ c.loop-k.k = omega (arith, c.loop-k-test.false) in
    words_all g.s c.args.array c.args.n c.loop-k.k c.loop-k.words.items _ most c.loop-k.invariant.words
