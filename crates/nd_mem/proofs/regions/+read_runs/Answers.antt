use Rattle.std.proofs.Common.{◌≡◌, ◌+◌, ◌<◌, ◌++◌, length, ap, ◌∙◌, refl, sym, arith}
use Rattle.std.proofs.lemmas.Bool.Decides.{nat_tests}
use Rattle.std.proofs.lemmas.List.{nil_from_length, take_all}
use Rattle.std.proofs.lemmas.Result.{err_from_is_err_and}
use Rattle.nd_mem.specs.Space.{Reading, answer_of, bytes_from}
use Rattle.nd_mem.specs.Regions.{cells_of}
use Rattle.nd_mem.proofs.Runs.{fault_behind, fault_first, fault_of_none, bytes_of_none, bytes_of_run, bytes_behind}
use Rattle.nd_mem.proofs.regions.+read_runs.Goals as goal

pub returns-then-is_empty-clause-answer : goal.returns-then-is_empty-clause-answer
returns-then-is_empty-clause-answer t c =
    let none : length c.args.out.now ≡ 0 = grind (arith, nat_tests, c.if-is_empty.ensures) in
    ap (answer_of (tt {0})) (sym (fault_of_none Reading (cells_of c.args.regions.now) c.args.at.0 (length c.args.out.now) none))

pub returns-then-is_empty-clause-ok : goal.returns-then-is_empty-clause-ok
returns-then-is_empty-clause-ok t c =
    let none : length c.args.out.now ≡ 0 = grind (arith, nat_tests, c.if-is_empty.ensures) in
    nil_from_length c.args.out.now none ∙ sym (bytes_of_none (cells_of c.args.regions.now) c.args.at.0 (length c.args.out.now) none)

pub returns-in_err-run-clause-answer : goal.returns-in_err-run-clause-answer
returns-in_err-run-clause-answer t c =
    let some : 0 < length c.args.out.now = grind (arith, nat_tests) in
    let p = err_from_is_err_and c.from_residual.result c.from_residual.ensures.1 in
    rw (p.1, p.2) (ap (answer_of (tt {0})) (sym (fault_first Reading (cells_of c.args.regions.now) c.args.at.0 (length c.args.out.now) _ c.in_err-run.ensures.err some)))

pub returns-in_err-read_runs-clause-answer : goal.returns-in_err-read_runs-clause-answer
returns-in_err-read_runs-clause-answer t c =
    let cells = cells_of c.args.regions.now in
    let run = c.in_ok-run.run'.now in
    let count = length run in
    let p = err_from_is_err_and c.from_residual-in_err-read_runs.result c.from_residual-in_err-read_runs.ensures.1 in
    rw (p.1, p.2)
    (c.in_err-read_runs.ensures.answer
    ∙ ap (answer_of (tt {0})) (sym (fault_behind Reading cells c.args.at.0 run count (length c.split_at_mut-here.result.1.now) (length c.args.out.now) c.in_ok-run.ensures.ok (omega arith) (omega arith))))

pub returns-clause-answer : goal.returns-clause-answer
returns-clause-answer t c =
    let cells = cells_of c.args.regions.now in
    let run = c.in_ok-run.run'.now in
    let count = length run in
    c.in_ok-read_runs.ensures.answer
    ∙ ap (answer_of (tt {0})) (sym (fault_behind Reading cells c.args.at.0 run count (length c.split_at_mut-here.result.1.now) (length c.args.out.now) c.in_ok-run.ensures.ok (omega arith) (omega arith)))

pub returns-clause-ok : goal.returns-clause-ok
returns-clause-ok t c =
    let cells = cells_of c.args.regions.now in
    let run = c.in_ok-run.run'.now in
    let count = length run in
    rw (c.copy_from_slice-2.ensures.after, c.in_ok-read_runs.ensures.ok)
    (sym (ap (λ front. front ++ bytes_from cells (c.args.at.0 + count) (length c.split_at_mut-here.result.1.now)) (take_all count run (omega arith)))
    ∙ sym (bytes_behind Reading cells c.args.at.0 run count (length c.split_at_mut-here.result.1.now) (length c.args.out.now) c.in_ok-run.ensures.ok (omega arith) (omega arith)))

pub returns-then-out-run-clause-answer : goal.returns-then-out-run-clause-answer
returns-then-out-run-clause-answer t c =
    let cells = cells_of c.args.regions.now in
    let n = length c.args.out.now in
    ap (answer_of (tt {0}))
    (sym (fault_behind Reading cells c.args.at.0 c.in_ok-run.run'.now n 0 n c.in_ok-run.ensures.ok c.if-out-run.true (omega arith) ∙ fault_of_none Reading cells (c.args.at.0 + n) 0 refl))

pub returns-then-out-run-clause-ok : goal.returns-then-out-run-clause-ok
returns-then-out-run-clause-ok t c =
    c.copy_from_slice.ensures.after
    ∙ sym (bytes_of_run Reading (cells_of c.args.regions.now) c.args.at.0 c.in_ok-run.run'.now (length c.args.out.now) c.in_ok-run.ensures.ok c.if-out-run.true)
