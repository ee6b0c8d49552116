use Rattle.std.proofs.Common.{List, length, All, sym, ap, subst, arith}
use Rattle.pe_image.specs.Image.{ImageParts, ImportParts}
use Rattle.pe_image.specs.Inside.{parts_inside}
use Rattle.pe_image.specs.Contents.{SlotEndsWithin}
use Rattle.pe_image.proofs.Loops.{slots_within}
use Rattle.pe_image.proofs.image.Image.fill_import_table.Goals as goal

pub fill_slots-requires-clause-within : goal.fill_slots-requires-clause-within
fill_slots-requires-clause-within c =
    let n = length c.args.contents.now in
    let size = ap (λ (image : ImageParts). image.size) c.self.view_is in
    subst (λ (functions : List ImportParts). All (SlotEndsWithin n) functions) (sym c.as_slice.ensures.value)
    (slots_within (parts_inside c.self.inside) n c.self.invariant.laid_out (omega (arith, c.requires.room, size)))
