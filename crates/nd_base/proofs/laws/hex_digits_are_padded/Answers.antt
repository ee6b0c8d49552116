use Rattle.nd_base.proofs.Hex.{padded_word, padded_unit, padded_byte}
use Rattle.nd_base.proofs.laws.hex_digits_are_padded.Goals as goal

pub returns : goal.returns
returns c = record { word = padded_word; unit = padded_unit; byte = padded_byte }
