use Rattle.std.proofs.Common.{◌≡◌, ◌+◌, ◌-◌, ◌++◌, [], ℕ, suc, length, map, refl, sym, ap, ◌∙◌, arith}
use Rattle.std.proofs.lemmas.Bool.{eq-eqb, ne_eqb}
use Rattle.std.proofs.lemmas.Result.{err_from_is_err_and}
use Rattle.pe_image.specs.declared.refusal.PeRefusal.TheVariants.{BadImport}
use Rattle.pe_image.proofs.Fronts.{with_front}
use Rattle.pe_image.specs.Sections.{seen}
use Rattle.pe_image.specs.Imports.{descriptors_from, most_descriptors}
use Rattle.pe_image.proofs.Fronts.{goes_on, stops, ends, with_front-nil}
use Rattle.pe_image.proofs.Importing.{descriptors-past, descriptors-stop, descriptors-end, descriptors-on, and_others}
use Rattle.pe_image.proofs.imports.imports_behind.Goals as goal

pub loop-init : goal.loop-init
loop-init c = ([], with_front-nil (descriptors_from (map seen c.args.parts.now) c.args.table most_descriptors 4096), c.new-imports.ensures)

pub returns-in_err-descriptor : goal.returns-in_err-descriptor
returns-in_err-descriptor c =
    let parts = map seen c.args.parts.now in
    let l = c.loop in
    let left = most_descriptors - (l.counter + 1) in
    let one : most_descriptors - l.counter ≡ suc left = omega arith in
    let e = c.in_err-descriptor.field-0.0 in
    let p = err_from_is_err_and c.from_residual.result c.from_residual.ensures.1 in
    rw (p.1, p.2)
    (stops l.invariant.0 (descriptors_from parts l.rva (most_descriptors - l.counter) l.room) (descriptors_from parts c.args.table most_descriptors 4096) e
    (ap (λ k. descriptors_from parts l.rva k l.room) one ∙ descriptors-stop parts l.rva left l.room e (sym c.in_err-descriptor.ensures.value)) l.invariant.1)

pub returns-then-descriptor-eq0 : goal.returns-then-descriptor-eq0
returns-then-descriptor-eq0 c =
    let parts = map seen c.args.parts.now in
    let l = c.loop in
    let left = most_descriptors - (l.counter + 1) in
    let one : most_descriptors - l.counter ≡ suc left = omega arith in (
      l.invariant.0,
      ends l.invariant.0 (descriptors_from parts l.rva (most_descriptors - l.counter) l.room) (descriptors_from parts c.args.table most_descriptors 4096)
          (ap (λ k. descriptors_from parts l.rva k l.room) one ∙ descriptors-end parts l.rva left l.room c.in_ok-descriptor.descriptor (sym c.in_ok-descriptor.ensures.value) (eq-eqb _ _ c.if-descriptor-eq0.true)) l.invariant.1,
      l.invariant.2,
    )

pub returns-in_err-room : goal.returns-in_err-room
returns-in_err-room c =
    let parts = map seen c.args.parts.now in
    let l = c.loop in
    let left = most_descriptors - (l.counter + 1) in
    let one : most_descriptors - l.counter ≡ suc left = omega arith in
    let d = c.in_ok-descriptor.descriptor in
    let e = c.in_err-room.field-0.0 in
    let p = err_from_is_err_and c.from_residual-in_err-room.result c.from_residual-in_err-room.ensures.1 in
    rw (p.1, p.2)
    (stops l.invariant.0 (descriptors_from parts l.rva (most_descriptors - l.counter) l.room) (descriptors_from parts c.args.table most_descriptors 4096) e
    (ap (λ k. descriptors_from parts l.rva k l.room) one
    ∙ descriptors-on parts l.rva left l.room d (sym c.in_ok-descriptor.ensures.value) (ne_eqb _ _ c.if-descriptor-eq0.false)
    ∙ ap (and_others parts l.rva left l.room) c.in_err-room.ensures) l.invariant.1)

pub loop-preserved : goal.loop-preserved
loop-preserved c =
    let parts = map seen c.args.parts.now in
    let l = c.loop in
    let left = most_descriptors - (l.counter + 1) in
    let one : most_descriptors - l.counter ≡ suc left = omega arith in
    let d = c.in_ok-descriptor.descriptor in
    let here = l.invariant.0 in
    let functions = c.in_ok-room.ensures in
    let next = descriptors_from parts (l.rva + 20) left (l.room - length functions.0) in (
      here ++ functions.0,
      ap (λ (room : ℕ). with_front (here ++ functions.0) (descriptors_from parts (l.rva + 20) left room)) functions.2
          ∙ goes_on here functions.0 (here ++ functions.0) (descriptors_from parts l.rva (most_descriptors - l.counter) l.room) next (descriptors_from parts c.args.table most_descriptors 4096)
          (ap (λ k. descriptors_from parts l.rva k l.room) one
          ∙ descriptors-on parts l.rva left l.room d (sym c.in_ok-descriptor.ensures.value) (ne_eqb _ _ c.if-descriptor-eq0.false)
          ∙ ap (and_others parts l.rva left l.room) functions.1) refl l.invariant.1,
      functions.3 here l.invariant.2,
    )

pub returns : goal.returns
returns c =
    let parts = map seen c.args.parts.now in
    let l = c.loop in
    let past : most_descriptors - l.counter ≡ 0 = omega arith in
    stops l.invariant.0 (descriptors_from parts l.rva (most_descriptors - l.counter) l.room) (descriptors_from parts c.args.table most_descriptors 4096) (BadImport l.rva)
    (ap (λ k. descriptors_from parts l.rva k l.room) past ∙ descriptors-past parts l.rva l.room) l.invariant.1
