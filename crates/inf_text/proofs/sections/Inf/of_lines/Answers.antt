use Rattle.std.proofs.Common.{sym, ◌∙◌, arith}
use Rattle.std.proofs.lemmas.Result.{err_from_is_err_and}
use Rattle.inf_text.specs.Reading.{Front}
use Rattle.inf_text.proofs.LineLoops.{line_on, bad_line, all_taken}
use Rattle.inf_text.proofs.sections.Inf.of_lines.Goals as goal

pub returns-in_err-place : goal.returns-in_err-place
returns-in_err-place c =
    let p = err_from_is_err_and c.from_residual.result c.from_residual.ensures.1 in
    let front : Front = record { sections = c.loop-line.inf; place = c.loop-line.place } in
    rw (p.1, p.2) (bad_line c.in_err-place.field-0.0 front c.args.lines.now c.loop-line.line-index c.line-item.result (omega arith) c.line-item.is c.in_err-place.ensures.value c.loop-line.invariant.so_far)

pub loop-line-preserved : goal.loop-line-preserved
loop-line-preserved c =
    let front : Front = record { sections = c.loop-line.inf; place = c.loop-line.place } in
    let next : Front = record { sections = c.take_line.new.self; place = c.in_ok-place.place } in
    record {
      so_far = sym (line_on front next c.args.lines.now c.loop-line.line-index c.line-item.result (omega arith) c.line-item.is c.in_ok-place.ensures.value) ∙ c.loop-line.invariant.so_far;
      within = c.in_ok-place.ensures.within;
    }

pub returns : goal.returns
returns c =
    let front : Front = record { sections = c.loop-line.inf; place = c.loop-line.place } in
    all_taken front c.args.lines.now c.loop-line.line-index (omega arith) c.loop-line.invariant.so_far
