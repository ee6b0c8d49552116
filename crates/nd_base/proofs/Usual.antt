-- The usual offsets are those of a layout file.
use Rattle.std.proofs.Common.{◌≡◌, Ok, refl}
use Rattle.std.specs.Fmt.{digits}
use Rattle.nd_base.specs.Layout.{row, rows, usual}
use Rattle.nd_base.specs.LayoutText.{first_from, place_of, line_content}
use Rattle.nd_base.specs.Words.{digits_after, words}
use Rattle.nd_base.specs.LayoutFile.{usual_text, IsLayout}
use Rattle.nd_base.specs.LayoutReading.{behind_lines, shared_with, first_shared, reading}
use Rattle.nd_base.proofs.LayoutFile.{found}

usual_is_read : reading usual_text ≡ Ok usual
unfolding usual usual_text digits row rows words digits_after first_from place_of line_content behind_lines shared_with first_shared reading
usual_is_read = refl

pub usual_is_layout : IsLayout usual_text usual
usual_is_layout = found usual_text usual usual_is_read
