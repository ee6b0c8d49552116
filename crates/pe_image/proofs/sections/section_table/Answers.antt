use Rattle.std.proofs.Common.{◌≡◌, ◌+◌, ◌-◌, ◌∷◌, [], ◌++◌, suc, ap, ◌∙◌, arith}
use Rattle.pe_image.specs.declared.headers.SectionHeader.{SectionHeader}
use Rattle.pe_image.specs.declared.refusal.PeRefusal.TheVariants.{Short}
use Rattle.pe_image.specs.File.{section_header}
use Rattle.pe_image.specs.Sections.{section_table}
use Rattle.pe_image.proofs.Fronts.{goes_on, stops, ends}
use Rattle.pe_image.proofs.Table.{table-step, table-short, table-end}
use Rattle.pe_image.proofs.sections.section_table.Goals as goal

pub returns-then-offset-bytes : goal.returns-then-offset-bytes
returns-then-offset-bytes c =
    let bytes = c.args.bytes.now in
    let at = c.loop.at in
    let left = c.args.count - (c.loop.counter + 1) in
    let one : c.args.count - c.loop.counter ≡ suc left = omega arith in
    stops c.loop.headers.items (section_table bytes at (c.args.count - c.loop.counter)) (section_table bytes c.args.table c.args.count) (Short at)
    (ap (section_table bytes at) one ∙ table-short bytes at left (omega arith)) c.loop.invariant.so_far

pub loop-preserved : goal.loop-preserved
loop-preserved c =
    let bytes = c.args.bytes.now in
    let at = c.loop.at in
    let left = c.args.count - (c.loop.counter + 1) in
    let one : c.args.count - c.loop.counter ≡ suc left = omega arith in
    record {
      so_far = goes_on c.loop.headers.items (section_header bytes at ∷ []) c.push.new.self.items (section_table bytes at (c.args.count - c.loop.counter)) (section_table bytes (at + 40) left) (section_table bytes c.args.table c.args.count)
          (ap (section_table bytes at) one ∙ table-step bytes at left (omega arith))
          (c.push.ensures.items ∙ ap (λ (h : SectionHeader). c.loop.headers.items ++ h ∷ []) c.read.ensures) c.loop.invariant.so_far;
      many = omega (arith, c.push.ensures.len, c.loop.invariant.many);
    }

pub returns : goal.returns
returns c =
    let bytes = c.args.bytes.now in
    let none : c.args.count - c.loop.counter ≡ 0 = omega arith in
    ends c.loop.headers.items (section_table bytes c.loop.at (c.args.count - c.loop.counter)) (section_table bytes c.args.table c.args.count)
    (ap (section_table bytes c.loop.at) none ∙ table-end bytes c.loop.at) c.loop.invariant.so_far
