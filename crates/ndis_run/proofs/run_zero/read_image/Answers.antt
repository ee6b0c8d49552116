use Rattle.std.proofs.Common.{sym, ap, ◌∙◌, inl, Err}
use Rattle.pe_image.specs.declared.refusal.PeRefusal.TheVariants.{TooLarge}
use Rattle.ndis_run.specs.Shown.{judged}
use Rattle.ndis_run.proofs.Judging.{judged_too_large, err_told}
use Rattle.ndis_run.proofs.run_zero.read_image.Goals as goal

pub returns-in-Ok-clause-refused : goal.returns-in-Ok-clause-refused
returns-in-Ok-clause-refused g c = err_told _ _ c.judged.result (λ e of line is.
    let facts = of line is in
    (facts.0, λ m told. ap judged (sym (c.deref.ensures.value ∙ c.in-Ok.ensures.known m told)) ∙ facts.1)) c.judged.ensures.refused

pub returns-in-Err-TooLong-clause-refused : goal.returns-in-Err-TooLong-clause-refused
returns-in-Err-TooLong-clause-refused g c = λ line is.
    let same = c.refused.ensures.line line is in
    (inl (TooLarge, λ e. (cc), same), λ m told. judged_too_large _ (c.in-Err-TooLong.ensures.too_long (ap Err c.in-Err-TooLong.field-0-is) m told) ∙ ap Err (sym same))
