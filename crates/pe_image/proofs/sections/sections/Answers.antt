use Rattle.std.proofs.Common.{[], length, map, All, arith, sym, ap, ◌∙◌, subst, List}
use Rattle.pe_image.specs.declared.headers.SectionHeader.{SectionHeader}
use Rattle.pe_image.specs.Image.{SectionPart}
use Rattle.pe_image.specs.Sections.{HasRawPart, IsLow, section_part}
use Rattle.pe_image.proofs.Judged.{table-length, all_inside, raw_parts, all_low}
use Rattle.pe_image.proofs.sections.sections.Goals as goal

pub judge_sections-requires : goal.judge_sections-requires
judge_sections-requires c =
    let headers = c.args.headers.now in
    omega (arith, ap length c.deref.ensures.0, table-length c.args.bytes.now headers.section_table headers.file.section_count c.in_ok-table.table.items c.in_ok-table.ensures, c.requires.count)

pub parts-requires-clause-raw : goal.parts-requires-clause-raw
parts-requires-clause-raw c =
    let image = c.args.headers.now.image in
    let bytes = c.args.bytes.now in
    let inside = all_inside image (length bytes) [] c.deref.result.now c.in_ok-judge_sections.field-0 (sym c.in_ok-judge_sections.ensures) in
    subst (All (HasRawPart bytes)) (c.deref.ensures.0 ∙ sym c.deref-2.ensures.0) (raw_parts image bytes c.deref.result.now inside)

pub parts-requires-clause-count : goal.parts-requires-clause-count
parts-requires-clause-count c =
    let headers = c.args.headers.now in
    omega (arith, ap length c.deref-2.ensures.0, table-length c.args.bytes.now headers.section_table headers.file.section_count c.in_ok-table.table.items c.in_ok-table.ensures, c.requires.count)

pub returns-clause-low : goal.returns-clause-low
returns-clause-low c =
    let image = c.args.headers.now.image in
    let bytes = c.args.bytes.now in
    let inside = all_inside image (length bytes) [] c.deref.result.now c.in_ok-judge_sections.field-0 (sym c.in_ok-judge_sections.ensures) in
    let low = subst (λ (headers : List SectionHeader). All IsLow (map (section_part bytes) headers)) (c.deref.ensures.0 ∙ sym c.deref-2.ensures.0) (all_low image bytes c.deref.result.now c.requires.image inside) in
    subst (λ (parts : List SectionPart). All IsLow parts) (sym c.parts.ensures) low
