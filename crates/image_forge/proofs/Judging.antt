-- The text of the section that a file's headers give.
use Rattle.std.proofs.Common.{◌≡◌, ℕ, ◌≤◌, List, [], ◌∷◌, ◌++◌, length, take, drop, map, refl, sym, ap, subst, ◌∙◌}
use Rattle.std.proofs.lemmas.List.{take-append-drop, take-take}
use Rattle.pe_image.specs.declared.headers.Section.{Section}
use Rattle.pe_image.specs.File.{section_header}
use Rattle.pe_image.specs.Image.{SectionPart, ImageParts, sections_of}
use Rattle.pe_image.specs.Grammar.{IsImage, AreSections, section_table_offset}
use Rattle.image_forge.specs.Forged.{all_rights, HasText, HasRawText}

-- a section that is the only one has its part
pub record IsOnly (parts : List SectionPart) (section : Section) : Type 0 where
  pub part : SectionPart
  pub only : parts ≡ part ∷ []
  pub is : part.section ≡ section

only_part : (parts : List SectionPart) (section : Section) → map (λ part. part.section) parts ≡ section ∷ [] → IsOnly parts section
only_part [] section h = absurd (cc)
only_part (p ∷ []) section h = record { part = p; only = refl; is = cc }
only_part (p ∷ q ∷ ps) section h = absurd (cc)

-- the first bytes of a piece
begun_with : (file out : List ℕ) (raw from : ℕ) → length out ≤ raw → take (length out) (drop from file) ≡ out → take raw (drop from file) ≡ out ++ drop (length out) (take raw (drop from file))
begun_with file out raw from h e =
    sym (take-append-drop (length out) (take raw (drop from file)))
    ∙ ap (λ (front : List ℕ). front ++ drop (length out) (take raw (drop from file))) (take-take (length out) raw (drop from file) h ∙ e)

pub text_there : (file out : List ℕ) (image : ImageParts) (section : Section) → IsImage file image → sections_of image ≡ section ∷ [] → section.rva ≡ 0x1000 → section.rights ≡ all_rights → HasRawText file section.raw out → HasText out image
text_there file out image section read sections rva rights text =
    let o = only_part image.sections section sections in
    let table = subst (λ (parts : List SectionPart). AreSections file (section_table_offset file) parts) o.only read.sections.table in
    let header = section_header file (section_table_offset file) in
    let long : length out ≤ o.part.section.raw = subst (λ (s : Section). length out ≤ s.raw) (sym o.is) text.whole in
    record {
      part = o.part;
      only = o.only;
      rva = ap (λ (s : Section). s.rva) o.is ∙ rva;
      rights = ap (λ (s : Section). s.rights) o.is ∙ rights;
      behind = drop (length out) (take o.part.section.raw (drop header.raw_pointer file));
      bytes = table.1.contents ∙ begun_with file out o.part.section.raw header.raw_pointer long text.first;
    }
