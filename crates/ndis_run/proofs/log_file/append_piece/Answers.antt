use Rattle.std.proofs.Common.{take}
use Rattle.call_log.specs.Lines.{log_text}
use Rattle.ndis_run.proofs.LogPieces.{stays_front, front_told}
use Rattle.ndis_run.proofs.log_file.append_piece.Goals as goal

pub returns-in_err-next-clause-front : goal.returns-in_err-next-clause-front
returns-in_err-next-clause-front g c = λ m is. stays_front c.args.log.now.entries c.args.from _ m c.args.name.now is

pub returns-in_err-append_all-clause-front : goal.returns-in_err-append_all-clause-front
returns-in_err-append_all-clause-front g c = λ m is.
    front_told c.args.log.now.entries c.args.from c.in_ok-next.next c.gather.new.piece c.as_slice.result.now _ m c.args.name.now c.as_slice.ensures c.in_ok-next.ensures.text
    (c.append_all.ensures.front m (log_text (take c.args.from c.args.log.now.entries)) is)

pub returns-clause-front : goal.returns-clause-front
returns-clause-front g c = λ m is.
    front_told c.args.log.now.entries c.args.from c.in_ok-next.next c.gather.new.piece c.as_slice.result.now _ m c.args.name.now c.as_slice.ensures c.in_ok-next.ensures.text
    (c.append_all.ensures.front m (log_text (take c.args.from c.args.log.now.entries)) is)
