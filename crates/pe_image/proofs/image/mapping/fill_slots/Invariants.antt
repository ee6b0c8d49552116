use Rattle.std.proofs.Common.{◌≡◌, drop}
use Rattle.pe_image.specs.Contents.{with_addresses}
use Rattle.pe_image.proofs.image.mapping.fill_slots.Given as goal

-- the slots that are left lead to the same bytes
abbrev pub invariant-loop-index : goal.invariant-loop-index
invariant-loop-index l = with_addresses (drop l.index l.imports) (drop l.index l.addresses) l.contents ≡ with_addresses l.imports l.addresses l.fn.contents
