use Rattle.std.proofs.Common.{◌≡◌, ap, ◌∙◌, arith}
use Rattle.dp8390.specs.declared.board.Board.{Board}
use Rattle.dp8390_tests.proofs.tests.put_bytes.Goals as goal

pub returns : goal.returns
returns c =
    ap (λ (b : Board). b.sent) c.write.ensures
    ∙ c.send_laws.ensures.quiet c.args.card.now c.args.port c.args.bytes.now (λ zeroth. absurd (let behind = c.requires.behind in omega arith))
    ∙ c.requires.taken
