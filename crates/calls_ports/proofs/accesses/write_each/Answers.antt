use Rattle.std.proofs.Common.{◌≡◌, ◌+◌, ◌-◌, take, drop, refl, ap, ◌∙◌, arith}
use Rattle.import_answers.specs.Ports.{puts}
use Rattle.calls_ports.proofs.Turns.{put_more, put_next}
use Rattle.calls_ports.proofs.accesses.write_each.Goals as goal

pub loop-access-preserved : goal.loop-access-preserved
loop-access-preserved c =
    let frames = c.in_ok-write_once.ensures.frames in
    let card = c.in_ok-write_once.ensures.card in
    let width : c.loop-access.at + c.args.width - c.loop-access.at ≡ c.args.width = omega arith in
    record {
      at = omega (arith, c.loop-access.invariant.at);
      frames = put_more c.loop-access.card c.write_once.new.card c.args.port c.args.width c.loop-access._access c.args.count c.loop-access.at c.args.bytes.now _ (puts c.args.card.now c.args.port c.args.width c.args.bytes.now c.args.count) c.args.sent.now c.loop-access.sent c.write_once.new.sent (omega arith) (ap (λ n. take n (drop c.loop-access.at c.args.bytes.now)) width) frames card c.loop-access.invariant.frames;
      card = c.loop-access.invariant.card ∙ put_next c.loop-access.card c.write_once.new.card c.args.port c.args.width c.loop-access._access c.args.count c.loop-access.at c.args.bytes.now _ (omega arith) (ap (λ n. take n (drop c.loop-access.at c.args.bytes.now)) width) card;
      taken = rw card refl;
    }
