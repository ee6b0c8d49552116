use Rattle.std.proofs.Common.{◌%◌, ◌^◌, ◌++◌, refl, ap, ◌∙◌}
use Rattle.std.proofs.lemmas.Result.{IfOk-equal}
use Rattle.frame_wire.proofs.Returns.{joined}
use Rattle.frame_wire.proofs.writing.put_frame.Goals as goal

pub returns : goal.returns
returns c =
    let f = c.args.frame.now in
    let whole = joined c.args.out.now c.put_number.new.out c.put_number-2.new.out c.put_number-3.new.out c.put_number-4.new.out f c.low_half.result _ c.low_half-len.result
    c.in_ok-put_number.ensures c.in_ok-put_number-2.ensures c.in_ok-put_number-3.ensures c.in_ok-put_number-4.ensures c.low_half.ensures refl (c.low_half-len.ensures ∙ ap (λ n. n % 2 ^ 32) c.len.ensures) in
    IfOk-equal c.extend_from_slice.result c.extend_from_slice.new.self _ _ c.extend_from_slice.ensures.ok (ap (λ x. c.put_number-4.new.out ++ x) c.as_slice.ensures ∙ whole)
