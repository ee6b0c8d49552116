use Rattle.std.proofs.Common.{◌≡◌, ◌+◌, ◌-◌, length, take, drop, ap, ◌∙◌, arith, length-drop}
use Rattle.std.proofs.lemmas.List.{length-take}
use Rattle.dp8390.specs.declared.board.Board.{Board}
use Rattle.calls_ports.proofs.Turns.{access_fits, read_more, read_next}
use Rattle.calls_ports.proofs.accesses.read_each.Goals as goal

pub loop-access-preserved : goal.loop-access-preserved
loop-access-preserved c =
    let fits = access_fits c.args.width c.loop-access._access c.args.count (omega arith) in
    let same : length (take (c.loop-access.at + c.args.width - c.loop-access.at) (drop c.loop-access.at c.loop-access.out)) ≡ c.args.width = simp (length-take, length-drop) (omega (arith, fits, c.loop-access.invariant.at)) in
    record {
      at = omega (arith, c.loop-access.invariant.at);
      bytes = read_more c.loop-access.card c.read.new.self c.args.port c.args.width c.loop-access._access c.args.count c.loop-access.at _ c.loop-access.out c.read.new.out _ (omega arith) (omega (arith, fits, c.loop-access.invariant.at)) same (c.read.auto.out ∙ same) c.read.ensures.value c.read.ensures.after c.loop-access.invariant.bytes;
      card = c.loop-access.invariant.card ∙ read_next c.loop-access.card c.read.new.self c.args.port c.args.width c.loop-access._access c.args.count _ (omega arith) same c.read.ensures.after;
      sent = ap (λ (b : Board). b.sent) c.read.ensures.after ∙ (c.send_laws.ensures.read c.loop-access.card c.args.port _ ∙ c.loop-access.invariant.sent);
    }
