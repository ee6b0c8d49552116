use Rattle.std.proofs.Common.{◌≡◌}
use Rattle.dp8390.specs.AddressFilter.{crc_bits}
use Rattle.dp8390.proofs.address_filter.crc_byte.Given as goal

abbrev pub invariant-loop-place : goal.invariant-loop-place
invariant-loop-place l = l.crc ≡ crc_bits l.word l.byte l.place
