use Rattle.std.proofs.Common.{arith}
use Rattle.pe_image.proofs.Relocating.{no_part, low_at}
use Rattle.pe_image.proofs.lookup.section_with.Goals as goal

pub returns-then-holds_byte-clause-low : goal.returns-then-holds_byte-clause-low
returns-then-holds_byte-clause-low c = low_at c.args.parts.now c.loop-part.part-index no_part c.requires (omega arith)
