use Rattle.std.proofs.Common.{sym, ap, ◌∙◌, arith}
use Rattle.std.proofs.lemmas.Result.{err_from_is_err_and}
use Rattle.nd_base.specs.declared.layout_text.Content.{Content}
use Rattle.nd_base.specs.LayoutReading.{behind}
use Rattle.nd_base.proofs.LayoutLines.{one_more, stops, ends}
use Rattle.nd_base.proofs.layout.behind_lines.Goals as goal

pub returns-in_err-next : goal.returns-in_err-next
returns-in_err-next c =
    let p = err_from_is_err_and c.from_residual.result c.from_residual.ensures.1 in
    rw (p.1, p.2) (sym (sym c.loop-rest.invariant.so_far ∙ stops c.loop-rest.number c.loop-rest.known c.in_err-next.field-0.0 c.loop-rest.rest.now c.next_line.result.0.now c.next_line.result.1.now c.next_line.ensures.lines
    (ap (λ (x : Content). behind c.loop-rest.number c.loop-rest.known x) (sym c.line_content-content.ensures.value) ∙ sym c.in_err-next.ensures)))

pub loop-rest-preserved : goal.loop-rest-preserved
loop-rest-preserved c =
    let shorter = c.next_line.ensures.shorter in
    record {
      so_far = one_more c.loop-rest.number c.loop-rest.known c.in_ok-next.next c.loop-rest.rest.now c.next_line.result.0.now c.next_line.result.1.now c.next_line.ensures.lines
          (ap (λ (x : Content). behind c.loop-rest.number c.loop-rest.known x) (sym c.line_content-content.ensures.value) ∙ sym c.in_ok-next.ensures) ∙ c.loop-rest.invariant.so_far;
      inside = omega (arith, shorter);
    }

pub returns : goal.returns
returns c = sym (sym c.loop-rest.invariant.so_far ∙ ends c.loop-rest.number c.loop-rest.known c.loop-rest.rest.now c.loop-rest-test.ensures)
