use Rattle.std.proofs.Common.{◌≡◌, Ok, Err, arith, sym, ap, ◌∙◌}
use Rattle.std.proofs.lemmas.Result.{err_from_is_err_and}
use Rattle.pe_image.specs.declared.refusal.PeRefusal.TheVariants.{OutOfMemory}
use Rattle.pe_image.specs.Grammar.{IsImage}
use Rattle.pe_image.specs.Image.{ImageParts}
use Rattle.pe_image.proofs.LaidOut.{laid_out}
use Rattle.pe_image.proofs.Limits.{limited}
use Rattle.pe_image.proofs.Refusals.{reading_due}
use Rattle.pe_image.proofs.Grammar.{images, one_image, ok_err}
use Rattle.pe_image.proofs.Parts.{if_err_from}
use Rattle.pe_image.proofs.image.Image.read.Goals as goal

pub keep-requires : goal.keep-requires
keep-requires c =
    let contents = c.in_ok-contents.ensures in
    let bytes = c.args.bytes.now in
    let laid = laid_out bytes contents.0 (λ i. omega (arith, c.type_inv.bytes i)) contents.1 in
    (contents.0, laid, limited bytes contents.0 ((images bytes contents.0).0 contents.1) laid, contents.2)

pub returns-clause-ok : goal.returns-clause-ok
returns-clause-ok c =
    let contents = c.in_ok-contents.ensures in
    contents.1 ∙ ap Ok (sym (c.in_ok-keep.ensures contents.0 contents.2))

pub returns-clause-found : goal.returns-clause-found
returns-clause-found c = (images c.args.bytes.now c.in_ok-keep.field-0).0 (returns-clause-ok c)

pub returns-clause-only : goal.returns-clause-only
returns-clause-only c = λ image is. one_image c.args.bytes.now c.in_ok-keep.field-0 image (returns-clause-found c) is

pub returns-in_err-contents-clause-only : goal.returns-in_err-contents-clause-only
returns-in_err-contents-clause-only c = λ image is.
    let p = err_from_is_err_and c.from_residual.result c.from_residual.ensures.1 in
    rw (p.1, p.2) (absurd (ok_err image c.in_err-contents.field-0.0 (sym ((images c.args.bytes.now image).1 is) ∙ c.in_err-contents.ensures)))

pub returns-in_err-contents-clause-memory : goal.returns-in_err-contents-clause-memory
returns-in_err-contents-clause-memory c =
    let p = err_from_is_err_and c.from_residual.result c.from_residual.ensures.1 in
    rw (p.1, p.2) (λ memory. absurd (reading_due c.args.bytes.now (c.in_err-contents.ensures ∙ ap Err memory)))

pub returns-in_err-keep-clause-memory : goal.returns-in_err-keep-clause-memory
returns-in_err-keep-clause-memory c =
    let contents = c.in_ok-contents.ensures in
    if_err_from c.from_residual-in_err-keep.result (λ e. e ≡ OutOfMemory → (image : ImageParts) × IsImage c.args.bytes.now image)
    (λ e _. (contents.0, (images c.args.bytes.now contents.0).0 contents.1))
