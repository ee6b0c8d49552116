use Rattle.std.proofs.Common.{◌≡◌, ◌≤◌, ◌+◌, ◌-◌, ◌*◌, ◌^◌}
use Rattle.std.specs.Option.{option_map}
use Rattle.import_answers.specs.Descriptors.{total_from}
use Rattle.calls_packets.proofs.fields.total_from.Given as goal

abbrev pub invariant-loop-taken : goal.invariant-loop-taken
invariant-loop-taken l = record {
  small : l.total ≤ 2 ^ 32 * l._taken;
  left : total_from l.world l.first 64 ≡ option_map (λ more. l.total + more) (total_from l.world l.buffer (64 - l._taken));
}
