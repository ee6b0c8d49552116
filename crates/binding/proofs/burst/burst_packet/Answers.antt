use Rattle.std.proofs.Common.{◌≡◌, ◌≤◌, length, ap, ◌∙◌, arith}
use Rattle.binding.proofs.Bursts.{burst_len}
use Rattle.binding.proofs.burst.burst_packet.Goals as goal

pub unreachable-requires : goal.unreachable-requires
unreachable-requires c =
    let six : length c.args.mac.now ≡ 6 = omega arith in
    let least : 14 ≤ c.from-2.result = omega arith in
    let long : length c.in_ok-bytes.bytes ≡ c.from-2.result = ap length c.in_ok-bytes.ensures ∙ burst_len c.args.mac.now c.from.result c.from-2.result six least in
    c.in-Err.ensures.1 (omega (arith, long), omega (arith, long))
