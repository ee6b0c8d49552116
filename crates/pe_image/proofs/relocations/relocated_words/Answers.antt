use Rattle.std.proofs.Common.{◌≡◌, ℕ, [], ◌++◌, ◌+◌, ◌-◌, suc, false, true, map, sym, ap, ◌∙◌, arith}
use Rattle.std.proofs.lemmas.Result.{err_from_is_err_and}
use Rattle.pe_image.proofs.Fronts.{with_front}
use Rattle.pe_image.specs.Sections.{seen}
use Rattle.pe_image.specs.Lookup.{word_of}
use Rattle.pe_image.specs.Relocations.{is_over, block_at, blocks_from}
use Rattle.pe_image.proofs.Fronts.{with_front-nil, then_on, then_stop, ends}
use Rattle.pe_image.proofs.Relocating.{blocks-over, blocks-step, not_over}
use Rattle.pe_image.proofs.relocations.relocated_words.Goals as goal

pub loop-words-init : goal.loop-words-init
loop-words-init c =
    record {
      so_far = (c.args.size, omega arith, [], with_front-nil (blocks_from (map seen c.args.parts.now) (seen c.args.table.now) (c.args.rva + c.args.size) c.args.rva c.args.size), c.new-words.ensures);
      from = omega arith;
      to = omega arith;
    }

pub returns-in_err-at : goal.returns-in_err-at
returns-in_err-at c =
    let parts = map seen c.args.parts.now in
    let table = seen c.args.table.now in
    let end = c.args.rva + c.args.size in
    let at = c.loop-words.at in
    let old = c.loop-words.invariant.so_far in
    let left : ℕ = old.0 - 1 in
    let more : is_over table end at ≡ false = sym c.is_over.ensures ∙ c.loop-words-test.true in
    let one : old.0 ≡ suc left = omega (arith, old.1, not_over table end at more) in
    let p = err_from_is_err_and c.from_residual.result c.from_residual.ensures.1 in
    rw (p.1, p.2)
    (then_stop old.2 (block_at parts table end at) (blocks_from parts table end (at + word_of table (at + 4)) left) (blocks_from parts table end c.args.rva c.args.size) c.in_err-at.field-0.0 (ap (with_front old.2) c.in_err-at.ensures.words)
    (sym (ap (with_front old.2) (ap (blocks_from parts table end at) one ∙ blocks-step parts table end at left more)) ∙ old.3))

pub loop-words-preserved : goal.loop-words-preserved
loop-words-preserved c =
    let parts = map seen c.args.parts.now in
    let table = seen c.args.table.now in
    let end = c.args.rva + c.args.size in
    let at = c.loop-words.at in
    let old = c.loop-words.invariant.so_far in
    let left : ℕ = old.0 - 1 in
    let more : is_over table end at ≡ false = sym c.is_over.ensures ∙ c.loop-words-test.true in
    let one : old.0 ≡ suc left = omega (arith, old.1, not_over table end at more) in
    let later = c.in_ok-at.ensures.later in
    let within = c.in_ok-at.ensures.within in
    let block = c.in_ok-at.ensures.words in
    record {
      so_far = (
        left,
        omega (arith, old.1, one, later),
        old.2 ++ block.0,
        ap (λ (next : ℕ). with_front (old.2 ++ block.0) (blocks_from parts table end next left)) block.2
            ∙ then_on old.2 (old.2 ++ block.0) (block_at parts table end at) (blocks_from parts table end (at + word_of table (at + 4)) left) (blocks_from parts table end c.args.rva c.args.size) (ap (with_front old.2) block.1)
            (sym (ap (with_front old.2) (ap (blocks_from parts table end at) one ∙ blocks-step parts table end at left more)) ∙ old.3),
        block.3 old.2 old.4,
      );
      from = omega (arith, c.loop-words.invariant.from, later);
      to = within;
    }

pub returns : goal.returns
returns c =
    let parts = map seen c.args.parts.now in
    let table = seen c.args.table.now in
    let end = c.args.rva + c.args.size in
    let at = c.loop-words.at in
    let old = c.loop-words.invariant.so_far in
    let over : is_over table end at ≡ true = sym c.is_over.ensures ∙ c.loop-words-test.false in
    (old.2, ends old.2 (blocks_from parts table end at old.0) (blocks_from parts table end c.args.rva c.args.size) (blocks-over parts table end at old.0 over) old.3, old.4)
