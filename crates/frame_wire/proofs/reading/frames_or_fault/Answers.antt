use Rattle.std.proofs.Common.{length, sym, ◌∙◌, arith, inl, inr}
use Rattle.std.proofs.lemmas.Result.{err_from_is_err_and}
use Rattle.std.proofs.lemmas.Slice.{between_to_end}
use Rattle.frame_wire.proofs.Files.{read_behind, fault_behind, good_behind}
use Rattle.frame_wire.proofs.reading.frames_or_fault.Goals as goal

pub returns-in_err-count : goal.returns-in_err-count
returns-in_err-count c =
    let p = err_from_is_err_and c.from_residual-in_err-count.result c.from_residual-in_err-count.ensures.1 in
    rw (p.1, p.2) (inl (fault_behind c.args.bytes.now c.in_ok-order.order _ c.in_err-count.field-0.0 (sym c.in_ok-order.ensures) (between_to_end c.args.bytes.now 24 (length c.args.bytes.now) (omega arith)) (sym c.in_err-count.ensures)))

pub returns-in_err-frames_of : goal.returns-in_err-frames_of
returns-in_err-frames_of c =
    let p = err_from_is_err_and c.from_residual-in_err-frames_of.result c.from_residual-in_err-frames_of.ensures.1 in
    rw p.1 (inr (p.2, good_behind c.args.bytes.now c.in_ok-order.order _ c.in_ok-count.count (sym c.in_ok-order.ensures) (between_to_end c.args.bytes.now 24 (length c.args.bytes.now) (omega arith)) (sym c.in_ok-count.ensures)))

pub returns : goal.returns
returns c = read_behind c.args.bytes.now c.in_ok-order.order _ (sym c.in_ok-order.ensures) (between_to_end c.args.bytes.now 24 (length c.args.bytes.now) (omega arith)) ∙ c.in_ok-frames_of.ensures
