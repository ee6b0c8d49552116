use Rattle.std.proofs.Common.{◌≡◌, drop}
use Rattle.owner_rows.specs.Tallies.{first_of}
use Rattle.owner_rows.specs.Which.{which_packets}
use Rattle.owner_rows.proofs.packets.Packets.first.Given as goal

abbrev pub invariant-loop-i : goal.invariant-loop-i
invariant-loop-i l = first_of (which_packets l.which) l.self l.self-inside.live ≡ first_of (which_packets l.which) l.self (drop l.i l.self-inside.live)
