use Rattle.std.proofs.Common.{◌≡◌, ◌+◌, ◌++◌, length, take, drop, ap, ◌∙◌, sym, arith}
use Rattle.std.proofs.lemmas.Bool.Decides.{nat_tests}
use Rattle.std.proofs.lemmas.List.{take_at, drop-drop}
use Rattle.nd_mem.specs.Space.{Executing}
use Rattle.nd_mem.specs.Regions.{cells_of}
use Rattle.nd_mem.proofs.Runs.{executable_behind, executable_none, executable_of_none, executable_le, bytes_of_run, bytes_behind, take_behind, drop_behind}
use Rattle.nd_mem.proofs.regions.+fetch_runs.Goals as goal

pub returns-then-is_empty-clause-count : goal.returns-then-is_empty-clause-count
returns-then-is_empty-clause-count t c =
    let cells = cells_of c.args.regions.now in
    let count = c.min-count.result in
    let none : length c.split_at_mut-front.result.1.now ≡ 0 = grind (arith, nat_tests) in
    sym (executable_behind cells c.args.at.0 c.args.run.now count 0 (length c.args.out.now) c.requires.run (omega arith) (omega arith)
    ∙ ap (λ r. count + r) (executable_of_none cells (c.args.at.0 + count) 0 (omega arith)) ∙ omega arith)

pub returns-then-is_empty-clause-front : goal.returns-then-is_empty-clause-front
returns-then-is_empty-clause-front t c =
    let cells = cells_of c.args.regions.now in
    let count = c.min-count.result in
    let len : length c.copy_from_slice.new.self ≡ count = omega arith in
    take_at c.copy_from_slice.new.self c.split_at_mut-front.result.1.now count len
    ∙ c.copy_from_slice.ensures.after
    ∙ sym (bytes_of_run Executing cells c.args.at.0 c.args.run.now count c.requires.run (omega arith))

pub returns-in-Err-clause-count : goal.returns-in-Err-clause-count
returns-in-Err-clause-count t c =
    let cells = cells_of c.args.regions.now in
    let count = c.min-count.result in
    let rest = length c.split_at_mut-front.result.1.now in
    sym (executable_behind cells c.args.at.0 c.args.run.now count rest (length c.args.out.now) c.requires.run (omega arith) (omega arith)
    ∙ ap (λ r. count + r) (executable_none cells (c.args.at.0 + count) rest _ c.in-Err.ensures.err) ∙ omega arith)

pub returns-in-Err-clause-front : goal.returns-in-Err-clause-front
returns-in-Err-clause-front t c =
    let cells = cells_of c.args.regions.now in
    let count = c.min-count.result in
    let len : length c.copy_from_slice.new.self ≡ count = omega arith in
    take_at c.copy_from_slice.new.self c.split_at_mut-front.result.1.now count len
    ∙ c.copy_from_slice.ensures.after
    ∙ sym (bytes_of_run Executing cells c.args.at.0 c.args.run.now count c.requires.run (omega arith))

pub overflow_add-result : goal.overflow_add-result
overflow_add-result t c =
    let le = executable_le (cells_of c.args.regions.now) (c.args.at.0 + c.min-count.result) (length c.split_at_mut-front.result.1.now) in
    omega (arith, c.fetch_runs.ensures.count)

pub returns-in-Ok-clause-count : goal.returns-in-Ok-clause-count
returns-in-Ok-clause-count t c =
    let cells = cells_of c.args.regions.now in
    let count = c.min-count.result in
    let rest = length c.split_at_mut-front.result.1.now in
    ap (λ r. count + r) c.fetch_runs.ensures.count
    ∙ sym (executable_behind cells c.args.at.0 c.args.run.now count rest (length c.args.out.now) c.requires.run (omega arith) (omega arith))

pub returns-in-Ok-clause-front : goal.returns-in-Ok-clause-front
returns-in-Ok-clause-front t c =
    let cells = cells_of c.args.regions.now in
    let count = c.min-count.result in
    let more = c.fetch_runs.result in
    let len : length c.copy_from_slice.new.self ≡ count = omega arith in
    take_behind count more c.copy_from_slice.new.self c.fetch_runs.new.out len
    ∙ ap (λ xs. xs ++ take more c.fetch_runs.new.out) c.copy_from_slice.ensures.after
    ∙ ap (λ xs. take count c.args.run.now ++ xs) c.fetch_runs.ensures.front
    ∙ sym (bytes_behind Executing cells c.args.at.0 c.args.run.now count more (count + more) c.requires.run (omega arith) (omega arith))

pub returns-in-Ok-clause-rest : goal.returns-in-Ok-clause-rest
returns-in-Ok-clause-rest t c =
    let count = c.min-count.result in
    let more = c.fetch_runs.result in
    let len : length c.copy_from_slice.new.self ≡ count = omega arith in
    drop_behind count more c.copy_from_slice.new.self c.fetch_runs.new.out len
    ∙ c.fetch_runs.ensures.rest
    ∙ ap (drop more) c.split_at_mut-front.ensures.back
    ∙ drop-drop more count c.args.out.now
