use Rattle.std.proofs.Common.{◌≡◌, ◌+◌, ◌-◌, suc, ◌∷◌, [], map, Some, None, sym, ap, ◌∙◌, arith}
use Rattle.std.proofs.lemmas.Bool.{eq-eqb, ne_eqb}
use Rattle.pe_image.specs.declared.refusal.PeRefusal.TheVariants.{BadImport}
use Rattle.pe_image.specs.Sections.{seen}
use Rattle.pe_image.specs.Lookup.{section_byte}
use Rattle.pe_image.specs.Imports.{text_from}
use Rattle.pe_image.proofs.Fronts.{goes_on, stops, ends}
use Rattle.pe_image.proofs.Importing.{text-none, text-end, text-bad, text-on, text-past}
use Rattle.pe_image.proofs.imports.text.Goals as goal

pub returns-in_default : goal.returns-in_default
returns-in_default c =
    let parts = map seen c.args.parts.now in
    let e = BadImport c.args.rva in
    let left = 256 - (c.loop.counter + 1) in
    let one : 256 - c.loop.counter ≡ suc left = omega arith in
    let none : section_byte parts c.loop.at ≡ None = sym c.in_default.ensures.value in
    stops c.loop.text.items (text_from parts e c.loop.at (256 - c.loop.counter)) (text_from parts e c.args.rva 256) e
    (ap (text_from parts e c.loop.at) one ∙ text-none parts e c.loop.at left none) c.loop.invariant.so_far

pub returns-then-byte-eq0 : goal.returns-then-byte-eq0
returns-then-byte-eq0 c =
    let parts = map seen c.args.parts.now in
    let e = BadImport c.args.rva in
    let left = 256 - (c.loop.counter + 1) in
    let one : 256 - c.loop.counter ≡ suc left = omega arith in
    let some : section_byte parts c.loop.at ≡ Some c.in-Some.byte = sym c.in-Some.ensures.value in
    ends c.loop.text.items (text_from parts e c.loop.at (256 - c.loop.counter)) (text_from parts e c.args.rva 256)
    (ap (text_from parts e c.loop.at) one ∙ text-end parts e c.loop.at left c.in-Some.byte some (eq-eqb _ _ c.if-byte-eq0.true)) c.loop.invariant.so_far

pub returns-then-not-is_printable : goal.returns-then-not-is_printable
returns-then-not-is_printable c =
    let parts = map seen c.args.parts.now in
    let e = BadImport c.args.rva in
    let left = 256 - (c.loop.counter + 1) in
    let one : 256 - c.loop.counter ≡ suc left = omega arith in
    let some : section_byte parts c.loop.at ≡ Some c.in-Some.byte = sym c.in-Some.ensures.value in
    stops c.loop.text.items (text_from parts e c.loop.at (256 - c.loop.counter)) (text_from parts e c.args.rva 256) e
    (ap (text_from parts e c.loop.at) one ∙ text-bad parts e c.loop.at left c.in-Some.byte some (ne_eqb _ _ c.if-byte-eq0.false) (sym c.is_printable.ensures ∙ c.if-not-is_printable.true)) c.loop.invariant.so_far

pub loop-preserved : goal.loop-preserved
loop-preserved c =
    let parts = map seen c.args.parts.now in
    let e = BadImport c.args.rva in
    let left = 256 - (c.loop.counter + 1) in
    let one : 256 - c.loop.counter ≡ suc left = omega arith in
    let some : section_byte parts c.loop.at ≡ Some c.in-Some.byte = sym c.in-Some.ensures.value in
    record {
      so_far = goes_on c.loop.text.items (c.in-Some.byte ∷ []) c.push.new.self.items (text_from parts e c.loop.at (256 - c.loop.counter)) (text_from parts e (c.loop.at + 1) left) (text_from parts e c.args.rva 256)
          (ap (text_from parts e c.loop.at) one ∙ text-on parts e c.loop.at left c.in-Some.byte some (ne_eqb _ _ c.if-byte-eq0.false) (sym c.is_printable.ensures ∙ c.if-not-is_printable.false)) c.push.ensures.items c.loop.invariant.so_far;
      many = omega (arith, c.push.ensures.len, c.loop.invariant.many);
    }

pub returns : goal.returns
returns c =
    let parts = map seen c.args.parts.now in
    let e = BadImport c.args.rva in
    let past : 256 - c.loop.counter ≡ 0 = omega arith in
    stops c.loop.text.items (text_from parts e c.loop.at (256 - c.loop.counter)) (text_from parts e c.args.rva 256) e
    (ap (text_from parts e c.loop.at) past ∙ text-past parts e c.loop.at) c.loop.invariant.so_far
