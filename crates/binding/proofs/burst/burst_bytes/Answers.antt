use Rattle.std.proofs.Common.{◌≡◌, [], ◌∷◌, ◌++◌, ◌+◌, ◌∙◌}
use Rattle.std.specs.Prelude.{◌%◌}
use Rattle.binding.proofs.Bursts.{burst_more}
use Rattle.binding.proofs.burst.burst_bytes.Goals as goal

pub loop-offset-preserved : goal.loop-offset-preserved
loop-offset-preserved c =
    let pushed : c.push.new.self ≡ c.loop-offset.bytes ++ (c.args.index + c.loop-offset.offset) % 256 ∷ [] = c.in_ok-push.ensures.ok in
    pushed ∙ burst_more c.args.mac.now c.args.index c.loop-offset.offset c.loop-offset.bytes c.loop-offset.invariant
