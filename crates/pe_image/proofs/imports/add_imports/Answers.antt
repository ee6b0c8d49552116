use Rattle.std.proofs.Common.{◌≡◌, ◌+◌, ◌-◌, suc, ◌∷◌, ◌++◌, [], map, Some, Ok, refl, sym, ap, ◌∙◌, subst, arith}
use Rattle.std.proofs.lemmas.List.{length_push, append-nil}
use Rattle.std.proofs.lemmas.Result.{err_from_is_err_and}
use Rattle.pe_image.specs.declared.refusal.PeRefusal.TheVariants.{TooLarge}
use Rattle.pe_image.specs.Gathering.{IsGathered}
use Rattle.pe_image.specs.Image.{ImportParts}
use Rattle.pe_image.specs.Sections.{seen}
use Rattle.pe_image.specs.Imports.{import_at, imports_from}
use Rattle.pe_image.proofs.Fronts.{goes_on, stops, ends, with_front-nil}
use Rattle.pe_image.proofs.Gathering.{gained_more}
use Rattle.pe_image.proofs.Importing.{imports-stop, imports-end, imports-full, imports-on, named, imported}
use Rattle.pe_image.proofs.imports.add_imports.Goals as goal

pub loop-name-init : goal.loop-name-init
loop-name-init c =
    let imports = c.args.imports.now in (
      [],
      with_front-nil (imports_from (map seen c.args.parts.now) c.args.dll.now c.args.descriptor.now.thunks c.args.descriptor.now.slots c.args.room),
      omega arith,
      λ front is. subst (IsGathered imports) (sym (append-nil front)) is,
    )

pub returns-in_err-name : goal.returns-in_err-name
returns-in_err-name c =
    let parts = map seen c.args.parts.now in
    let dll = c.args.dll.now in
    let d = c.args.descriptor.now in
    let l = c.loop-name in
    let p = err_from_is_err_and c.from_residual.result c.from_residual.ensures.1 in
    rw (p.1, p.2)
    (stops l.invariant.0 (imports_from parts dll l.thunk l.slot l.left) (imports_from parts dll d.thunks d.slots c.args.room) c.in_err-name.field-0.0
    (imports-stop parts dll l.thunk l.slot l.left c.in_err-name.field-0.0 (c.in_err-name.ensures.value dll)) l.invariant.1)

pub returns-then-left-eq0 : goal.returns-then-left-eq0
returns-then-left-eq0 c =
    let parts = map seen c.args.parts.now in
    let dll = c.args.dll.now in
    let d = c.args.descriptor.now in
    let l = c.loop-name in
    let function : ImportParts = record { dll = dll; name = c.in-Some.name.items; slot = l.slot } in
    let full : l.left ≡ 0 = omega arith in
    let is : import_at parts dll l.thunk l.slot ≡ Ok (Some function) = c.in_ok-name.ensures.value dll ∙ ap (named dll l.slot) c.in-Some.is in
    stops l.invariant.0 (imports_from parts dll l.thunk l.slot l.left) (imports_from parts dll d.thunks d.slots c.args.room) TooLarge
    (ap (imports_from parts dll l.thunk l.slot) full ∙ imports-full parts dll l.thunk l.slot function is) l.invariant.1

pub loop-name-preserved : goal.loop-name-preserved
loop-name-preserved c =
    let parts = map seen c.args.parts.now in
    let dll = c.args.dll.now in
    let d = c.args.descriptor.now in
    let l = c.loop-name in
    let here = l.invariant.0 in
    let function : ImportParts = record { dll = dll; name = c.deref.result.now; slot = l.slot } in
    let one : l.left ≡ suc (l.left - 1) = omega arith in
    let is : import_at parts dll l.thunk l.slot ≡ Ok (Some function) = c.in_ok-name.ensures.value dll ∙ ap (named dll l.slot) c.in-Some.is ∙ ap (imported dll l.slot) (sym c.deref.ensures.0) in (
      here ++ function ∷ [],
      goes_on here (function ∷ []) (here ++ function ∷ []) (imports_from parts dll l.thunk l.slot l.left) (imports_from parts dll (l.thunk + 4) (l.slot + 4) (l.left - 1)) (imports_from parts dll d.thunks d.slots c.args.room)
          (ap (imports_from parts dll l.thunk l.slot) one ∙ imports-on parts dll l.thunk l.slot (l.left - 1) function is) refl l.invariant.1,
      omega (arith, one, length_push here function, l.invariant.2),
      gained_more c.args.imports.now l.imports c.put.new.imports here (function ∷ []) l.invariant.3 c.put.ensures,
    )

pub returns : goal.returns
returns c =
    let parts = map seen c.args.parts.now in
    let dll = c.args.dll.now in
    let d = c.args.descriptor.now in
    let l = c.loop-name in (
      l.invariant.0,
      ends l.invariant.0 (imports_from parts dll l.thunk l.slot l.left) (imports_from parts dll d.thunks d.slots c.args.room)
          (imports-end parts dll l.thunk l.slot l.left (c.in_ok-name.ensures.value dll ∙ ap (named dll l.slot) c.in_default.is)) l.invariant.1,
      omega (arith, l.invariant.2),
      l.invariant.3,
    )
