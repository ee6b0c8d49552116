use Rattle.std.proofs.Common.{◌≡◌, take}
use Rattle.dp8390.specs.AddressFilter.{crc}
use Rattle.dp8390.proofs.address_filter.crc.Given as goal

abbrev pub invariant-loop-byte : goal.invariant-loop-byte
invariant-loop-byte l = l.crc ≡ crc (take l.byte-index l.address)
