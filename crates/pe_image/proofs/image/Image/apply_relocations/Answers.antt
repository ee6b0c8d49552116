use Rattle.std.proofs.Common.{ℕ, List, length, All, sym, ap, subst, arith}
use Rattle.pe_image.specs.Image.{ImageParts}
use Rattle.pe_image.specs.Inside.{parts_inside}
use Rattle.pe_image.specs.Contents.{WordEndsWithin}
use Rattle.pe_image.proofs.Loops.{words_within}
use Rattle.pe_image.proofs.image.Image.apply_relocations.Goals as goal

pub relocate-requires : goal.relocate-requires
relocate-requires c =
    let n = length c.args.contents.now in
    let size = ap (λ (image : ImageParts). image.size) c.self.view_is in
    subst (λ (rvas : List ℕ). All (WordEndsWithin n) rvas) (sym c.as_slice.ensures.value)
    (words_within (parts_inside c.self.inside) n c.self.invariant.laid_out (omega (arith, c.requires, size)))
