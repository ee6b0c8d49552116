use Rattle.std.proofs.Common.{◌+◌, ◌<◌, false, [], length, get_or, map, drop, sym, ap, ◌∙◌, arith}
use Rattle.pe_image.specs.declared.headers.Section.{Section}
use Rattle.pe_image.specs.Image.{SectionPart, ImageParts, section_parts}
use Rattle.pe_image.specs.Inside.{parts_inside}
use Rattle.pe_image.specs.Contents.{with_sections}
use Rattle.pe_image.proofs.Parts.{as_many, bytes_at, part_at, laid_out_at, length-section_parts}
use Rattle.pe_image.proofs.Loops.{sections_more, sections_done}
use Rattle.pe_image.proofs.image.Image.place_sections.Goals as goal

no_section : Section
no_section = record { name = []; rva = 0; span = 0; raw = 0; rights = record { read = false; write = false; execute = false } }

pub put-requires : goal.put-requires
unfolding no_section
put-requires c =
    let s = c.self.inside in
    let k = c.loop-index.index in
    let contents = map (λ b. b.items) s.contents.items in
    let less : k < length s.sections.items = omega arith in
    let within : k < length s.contents.items = omega (arith, c.self.invariant.raw_parts, less) in
    let bytes = c.as_slice-bytes.result.now in
    let are = bytes_at s.contents.items k c.index.result.now bytes within c.index.ensures c.as_slice-bytes.ensures.value in
    let is = ap (λ sections. get_or sections k no_section) c.deref-section-items.ensures.value in
    let laid = laid_out_at (parts_inside s) s.sections.items contents k (get_or c.deref-section-items.result.now k no_section) no_section bytes (as_many s c.self.invariant) less is are c.self.invariant.laid_out.sections in
    let size = ap (λ (image : ImageParts). image.size) c.self.view_is in
    omega (arith, laid.inside, laid.raw, laid.raw_within, size, c.requires)

pub loop-index-preserved : goal.loop-index-preserved
unfolding no_section
loop-index-preserved c =
    let s = c.self.inside in
    let k = c.loop-index.index in
    let contents = map (λ b. b.items) s.contents.items in
    let parts = section_parts s.sections.items contents in
    let less : k < length s.sections.items = omega arith in
    let within : k < length s.contents.items = omega (arith, c.self.invariant.raw_parts, less) in
    let bytes = c.as_slice-bytes.result.now in
    let section = get_or c.deref-section-items.result.now k no_section in
    let are = bytes_at s.contents.items k c.index.result.now bytes within c.index.ensures c.as_slice-bytes.ensures.value in
    let is = ap (λ sections. get_or sections k no_section) c.deref-section-items.ensures.value in
    let part : SectionPart = record { section = section; bytes = bytes } in
    let here = part_at s.sections.items contents k section no_section bytes part (as_many s c.self.invariant) less is are in
    ap (with_sections (drop (k + 1) parts)) c.put.ensures
    ∙ sym (sections_more parts k part c.loop-index.contents (omega (arith, length-section_parts s.sections.items contents (as_many s c.self.invariant), less)) here)
    ∙ c.loop-index.invariant

pub returns : goal.returns
returns c =
    let s = c.self.inside in
    let contents = map (λ b. b.items) s.contents.items in
    let parts = section_parts s.sections.items contents in
    let long = ap length c.deref-section-items.ensures.value in
    sym (sections_done parts c.loop-index.index c.loop-index.contents (omega (arith, length-section_parts s.sections.items contents (as_many s c.self.invariant), long)))
    ∙ c.loop-index.invariant
    ∙ ap (λ (image : ImageParts). with_sections image.sections c.args.contents.now) c.self.view_is
