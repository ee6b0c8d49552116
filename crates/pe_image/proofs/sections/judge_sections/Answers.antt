use Rattle.std.proofs.Common.{[], arith, sym}
use Rattle.std.proofs.lemmas.Result.{err_from_is_err_and}
use Rattle.pe_image.specs.declared.headers.SectionHeader.{SectionHeader}
use Rattle.pe_image.specs.Sections.{sections_judged}
use Rattle.pe_image.proofs.Judged.{judged-on, judged-stop, judged-end}
use Rattle.pe_image.proofs.sections.judge_sections.Goals as goal

abbrev no_header : SectionHeader
no_header = record { name = []; virtual_size = 0; virtual_address = 0; raw_size = 0; raw_pointer = 0; characteristics = 0 }

pub returns-in_err-judge_section : goal.returns-in_err-judge_section
returns-in_err-judge_section c =
    let p = err_from_is_err_and c.from_residual.result c.from_residual.ensures.1 in
    rw (p.1, p.2)
    (sym (judged-stop c.args.image.now c.args.file_size c.args.headers.now c.loop-number.number no_header c.in_err-judge_section.field-0.0 (sections_judged c.args.image.now c.args.file_size [] c.args.headers.now)
    (omega arith) (sym c.in_err-judge_section.ensures) c.loop-number.invariant))

pub loop-number-preserved : goal.loop-number-preserved
loop-number-preserved c =
    judged-on c.args.image.now c.args.file_size c.args.headers.now c.loop-number.number no_header c.in_ok-judge_section.field-0 (sections_judged c.args.image.now c.args.file_size [] c.args.headers.now)
    (omega arith) (sym c.in_ok-judge_section.ensures) c.loop-number.invariant

pub returns : goal.returns
returns c = sym (judged-end c.args.image.now c.args.file_size c.args.headers.now c.loop-number.number (sections_judged c.args.image.now c.args.file_size [] c.args.headers.now) (omega arith) c.loop-number.invariant)
