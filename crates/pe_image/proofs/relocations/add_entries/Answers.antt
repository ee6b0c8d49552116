use Rattle.std.proofs.Common.{◌≡◌, ◌+◌, ◌-◌, ◌++◌, [], suc, map, Err, Ok, refl, sym, ap, ◌∙◌, subst, arith}
use Rattle.std.proofs.lemmas.List.{append-nil}
use Rattle.std.proofs.lemmas.Result.{err_from_is_err_and}
use Rattle.pe_image.specs.Gathering.{IsGathered}
use Rattle.pe_image.specs.Sections.{seen}
use Rattle.pe_image.specs.Lookup.{half_of}
use Rattle.pe_image.specs.Relocations.{relocated_word, listed, entries_from}
use Rattle.pe_image.proofs.Fronts.{goes_on, stops, ends, with_front-nil}
use Rattle.pe_image.proofs.Gathering.{gained_more}
use Rattle.pe_image.proofs.Relocating.{entries-step, entries-stop, entries-end}
use Rattle.pe_image.proofs.relocations.add_entries.Goals as goal

pub loop-init : goal.loop-init
loop-init c =
    let words = c.args.words.now in
    let parts = map seen c.args.parts.now in
    let table = seen c.args.table.now in
    let all : c.args.count - 0 ≡ c.args.count = omega arith in
    record {
      so_far = ([], with_front-nil (entries_from parts table c.args.page c.args.rva (c.args.count - 0)) ∙ ap (entries_from parts table c.args.page c.args.rva) all, λ front is. subst (IsGathered words) (sym (append-nil front)) is);
      place = omega arith;
    }

pub returns-in_err-word : goal.returns-in_err-word
returns-in_err-word c =
    let parts = map seen c.args.parts.now in
    let table = seen c.args.table.now in
    let at = c.loop.at in
    let left = c.args.count - (c.loop.counter + 1) in
    let one : c.args.count - c.loop.counter ≡ suc left = omega arith in
    let e = c.in_err-word.field-0.0 in
    let so_far = c.loop.invariant.so_far in
    let is : relocated_word parts c.args.page at (half_of table at) ≡ Err e = ap (relocated_word parts c.args.page at) (sym c.half.ensures) ∙ sym c.in_err-word.ensures in
    let p = err_from_is_err_and c.from_residual.result c.from_residual.ensures.1 in
    rw (p.1, p.2)
    (stops so_far.0 (entries_from parts table c.args.page at (c.args.count - c.loop.counter)) (entries_from parts table c.args.page c.args.rva c.args.count) e
    (ap (entries_from parts table c.args.page at) one ∙ entries-stop parts table c.args.page at left e is) so_far.1)

pub loop-preserved : goal.loop-preserved
loop-preserved c =
    let parts = map seen c.args.parts.now in
    let table = seen c.args.table.now in
    let at = c.loop.at in
    let left = c.args.count - (c.loop.counter + 1) in
    let one : c.args.count - c.loop.counter ≡ suc left = omega arith in
    let word = c.in_ok-word.word in
    let so_far = c.loop.invariant.so_far in
    let is : relocated_word parts c.args.page at (half_of table at) ≡ Ok word = ap (relocated_word parts c.args.page at) (sym c.half.ensures) ∙ sym c.in_ok-word.ensures in
    record {
      so_far = (
        so_far.0 ++ listed word,
        goes_on so_far.0 (listed word) (so_far.0 ++ listed word) (entries_from parts table c.args.page at (c.args.count - c.loop.counter)) (entries_from parts table c.args.page (at + 2) left)
            (entries_from parts table c.args.page c.args.rva c.args.count)
            (ap (entries_from parts table c.args.page at) one ∙ entries-step parts table c.args.page at left word is) refl so_far.1,
        gained_more c.args.words.now c.loop.words c.keep.new.words so_far.0 (listed word) so_far.2 c.keep.ensures,
      );
      place = omega (arith, c.loop.invariant.place);
    }

pub returns : goal.returns
returns c =
    let parts = map seen c.args.parts.now in
    let table = seen c.args.table.now in
    let none : c.args.count - c.loop.counter ≡ 0 = omega arith in
    let so_far = c.loop.invariant.so_far in (
      so_far.0,
      ends so_far.0 (entries_from parts table c.args.page c.loop.at (c.args.count - c.loop.counter)) (entries_from parts table c.args.page c.args.rva c.args.count)
          (ap (entries_from parts table c.args.page c.loop.at) none ∙ entries-end parts table c.args.page c.loop.at) so_far.1,
      refl,
      so_far.2,
    )
