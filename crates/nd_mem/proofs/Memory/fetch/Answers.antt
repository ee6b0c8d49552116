use Rattle.std.proofs.Common.{◌≡◌, ◌≤◌, ap, ◌∙◌, sym, length, arith}
use Rattle.std.proofs.Math.ListN.{drop_of_length-le}
use Rattle.std.proofs.lemmas.List.{take_all, length-take-le}
use Rattle.std.proofs.lemmas.Result.{err_from_is_err_and}
use Rattle.std.specs.FinMap as map
use Rattle.nd_mem.specs.Space.{Cells, Executing, fault_at, executable_run, answer_of, bytes_from}
use Rattle.nd_mem.specs.Regions.{cells_of}
use Rattle.nd_mem.proofs.Mapped.{cells_seen, low_seen, fetch_answer}
use Rattle.nd_mem.proofs.Runs.{executable_whole, bytes_of_run}
use Rattle.nd_mem.proofs.Memory.fetch.Goals as goal

pub returns-in_err-run-clause-answer : goal.returns-in_err-run-clause-answer
returns-in_err-run-clause-answer c =
    let seen = cells_seen c.deref.result.now c.self.inside.regions.items c.args.self.now c.self.view_is c.deref.ensures.value c.self.invariant in
    let p = err_from_is_err_and c.from_residual.result c.from_residual.ensures.1 in
    rw (p.1, p.2)
    (sym (ap (answer_of (executable_run (map.get c.args.self.now) c.args.at.0 15)) (ap (λ (f : Cells). fault_at Executing f c.args.at.0) seen ∙ c.in_err-run.ensures.err)))

pub returns-clause-answer : goal.returns-clause-answer
returns-clause-answer c =
    let seen = cells_seen c.deref.result.now c.self.inside.regions.items c.args.self.now c.self.view_is c.deref.ensures.value c.self.invariant in
    let again = cells_seen c.deref-2.result.now c.self.inside.regions.items c.args.self.now c.self.view_is c.deref-2.ensures.value c.self.invariant in
    let count = c.fetch_runs.ensures.count ∙ ap (executable_run (cells_of c.deref-2.result.now) c.args.at.0) (let e : length c.args.out.now ≡ 15 = omega arith in e) ∙ ap (λ (f : Cells). executable_run f c.args.at.0 15) (sym again) in
    fetch_answer (cells_of c.deref.result.now) c.args.at.0 c.fetch_runs.result c.in_ok-run.run'.now c.in_ok-run.ensures.ok
    ∙ ap (λ (f : Cells). answer_of c.fetch_runs.result (fault_at Executing f c.args.at.0)) (sym seen)
    ∙ ap (λ n. answer_of n (fault_at Executing (map.get c.args.self.now) c.args.at.0)) count

pub returns-clause-ok : goal.returns-clause-ok
returns-clause-ok c =
    let again = cells_seen c.deref-2.result.now c.self.inside.regions.items c.args.self.now c.self.view_is c.deref-2.ensures.value c.self.invariant in
    c.fetch_runs.ensures.front ∙ ap (λ (f : Cells). bytes_from f c.args.at.0 c.fetch_runs.result) (sym again)

pub returns-in_err-run-clause-low : goal.returns-in_err-run-clause-low
returns-in_err-run-clause-low c = low_seen c.self.inside.regions.items c.args.self.now c.self.view_is c.self.invariant

pub returns-clause-low : goal.returns-clause-low
returns-clause-low c = low_seen c.self.inside.regions.items c.args.self.now c.self.view_is c.self.invariant

pub returns-in-Some-clause-answer : goal.returns-in-Some-clause-answer
returns-in-Some-clause-answer c =
    let seen = cells_seen c.deref.result.now c.self.inside.regions.items c.args.self.now c.self.view_is c.deref.ensures.value c.self.invariant in
    let whole = executable_whole (cells_of c.deref.result.now) c.args.at.0 c.in_ok-run.run'.now 15 c.in_ok-run.ensures.ok c.in-Some.ensures.cases.enough in
    fetch_answer (cells_of c.deref.result.now) c.args.at.0 15 c.in_ok-run.run'.now c.in_ok-run.ensures.ok
    ∙ ap (λ n. answer_of n (fault_at Executing (cells_of c.deref.result.now) c.args.at.0)) (sym whole)
    ∙ ap (λ (f : Cells). answer_of (executable_run f c.args.at.0 15) (fault_at Executing f c.args.at.0)) (sym seen)

pub returns-in-Some-clause-ok : goal.returns-in-Some-clause-ok
returns-in-Some-clause-ok c =
    let seen = cells_seen c.deref.result.now c.self.inside.regions.items c.args.self.now c.self.view_is c.deref.ensures.value c.self.invariant in
    let is = c.in-Some.ensures.cases in
    let len : length c.in-Some.code.now ≤ 15 = omega (arith, ap length is.same, length-take-le 15 c.in_ok-run.run'.now is.enough) in
    take_all 15 c.in-Some.code.now len ∙ is.same
    ∙ sym (bytes_of_run Executing (cells_of c.deref.result.now) c.args.at.0 c.in_ok-run.run'.now 15 c.in_ok-run.ensures.ok is.enough)
    ∙ ap (λ (f : Cells). bytes_from f c.args.at.0 15) (sym seen)

pub returns-in-Some-clause-rest : goal.returns-in-Some-clause-rest
returns-in-Some-clause-rest c =
    let is = c.in-Some.ensures.cases in
    let len : length c.in-Some.code.now ≤ 15 = omega (arith, ap length is.same, length-take-le 15 c.in_ok-run.run'.now is.enough) in
    drop_of_length-le c.in-Some.code.now len ∙ sym (let full : length c.args.out.now ≤ 15 = omega arith in drop_of_length-le c.args.out.now full)

pub returns-in-Some-clause-low : goal.returns-in-Some-clause-low
returns-in-Some-clause-low c = low_seen c.self.inside.regions.items c.args.self.now c.self.view_is c.self.invariant
