use Rattle.std.proofs.Common.{◌≡◌, ℕ, ◌<◌, inl, inr, List, None, Some, length, take, All, ◌∙◌, ap, sym, subst, arith}
use Rattle.std.proofs.lemmas.List.{length-map}
use Rattle.std.specs.List.{AllPairs}
use Rattle.std.proofs.lemmas.Result.{on_ok_weaker, on_err_weaker}
use Rattle.std.specs.FinMap as space
use Rattle.nd_mem.specs.declared.RegionRefusal.TheVariants.{OutOfMemory}
use Rattle.std.specs.Option.{option_or}
use Rattle.nd_mem.specs.Space.{Cells}
use Rattle.pe_image.specs.declared.headers.Section.{Section}
use Rattle.pe_image.specs.Image.{SectionPart, ImageParts, range_cell, image_cells, read_only, sections_refusal, map_refusal, sections_of, HasGainedPart}
use Rattle.pe_image.specs.Inside.{parts_inside}
use Rattle.pe_image.specs.Contents.{contents_of, filled_cell, AreDisjoint, EndsWithin}
use Rattle.pe_image.proofs.Mapping.{either_none, image_not_memory}
use Rattle.pe_image.proofs.Parts.{still_free, sections_are, on_err_from, if_err_from}
use Rattle.pe_image.proofs.Contents.{length-contents_of}
use Rattle.pe_image.proofs.Whole.{sections_within, sections_apart, whole_image, front_image}
use Rattle.pe_image.proofs.image.Image.map.Goals as goal

pub map_sections-requires-clause-free : goal.map_sections-requires-clause-free
map_sections-requires-clause-free c =
    let old = space.get c.args.mem.now in
    let mid = space.get c.map_range.new.mem in
    let base = c.args.base.0 in
    let image = parts_inside c.self.inside in
    let free : map_refusal old base image ≡ None = ap (map_refusal old base) c.self.view_is ∙ sym c.in_default.ensures in
    let headers : (x : ℕ) → mid x ≡ option_or (old x) (range_cell base image.header_size image.headers read_only x) = subst (λ (bytes : List ℕ). (x : ℕ) → mid x ≡ option_or (old x) (range_cell base image.header_size bytes read_only x)) c.as_slice-headers.ensures.value c.in_ok-map_range.ensures.ok in
    ap (sections_refusal mid base) (c.deref.ensures.value ∙ sym (sections_are c.self.inside c.self.invariant))
    ∙ still_free old mid base image image.sections c.self.invariant.laid_out.sections headers (either_none _ _ free).1

pub map_sections-requires-clause-within : goal.map_sections-requires-clause-within
map_sections-requires-clause-within c =
    let image = parts_inside c.self.inside in
    let laid = c.self.invariant.laid_out in
    let same : c.args.self.now.size ≡ image.size = ap (λ (parts : ImageParts). parts.size) (sym c.self.view_is) in
    let contents : c.as_slice.result.now ≡ contents_of image c.args.base.0 c.args.slots.now = c.as_slice.ensures.value ∙ c.in-Ok.ensures ∙ ap (λ (parts : ImageParts). contents_of parts c.args.base.0 c.args.slots.now) (sym c.self.view_is) in
    let long : length c.as_slice.result.now ≡ image.size = ap length contents ∙ length-contents_of image c.args.base.0 c.args.slots.now laid in
    subst (λ (sections : List Section). All (EndsWithin (length c.as_slice.result.now)) sections) (sections_are c.self.inside c.self.invariant ∙ sym c.deref.ensures.value)
    (sections_within image (length c.as_slice.result.now) laid long)

pub map_sections-requires-clause-apart : goal.map_sections-requires-clause-apart
map_sections-requires-clause-apart c =
    subst (λ (sections : List Section). AllPairs AreDisjoint sections) (sections_are c.self.inside c.self.invariant ∙ sym c.deref.ensures.value)
    (sections_apart (parts_inside c.self.inside) c.self.invariant.laid_out)

pub returns-clause-ok : goal.returns-clause-ok
returns-clause-ok c =
    let old = space.get c.args.mem.now in
    let mid = space.get c.map_range.new.mem in
    let new = space.get c.map_sections.new.mem in
    let base = c.args.base.0 in
    let slots = c.args.slots.now in
    let image = parts_inside c.self.inside in
    let contents : c.as_slice.result.now ≡ contents_of image base slots = c.as_slice.ensures.value ∙ c.in-Ok.ensures ∙ ap (λ (parts : ImageParts). contents_of parts base slots) (sym c.self.view_is) in
    let sections : c.deref.result.now ≡ sections_of image = c.deref.ensures.value ∙ sym (sections_are c.self.inside c.self.invariant) in
    let free : map_refusal old base image ≡ None = ap (map_refusal old base) c.self.view_is ∙ sym c.in_default.ensures in
    let headers : (x : ℕ) → mid x ≡ option_or (old x) (range_cell base image.header_size image.headers read_only x) = subst (λ (bytes : List ℕ). (x : ℕ) → mid x ≡ option_or (old x) (range_cell base image.header_size bytes read_only x)) c.as_slice-headers.ensures.value c.in_ok-map_range.ensures.ok in
    on_ok_weaker {P = (x : ℕ) → new x ≡ option_or (mid x) (filled_cell base c.as_slice.result.now c.deref.result.now x)} {Q = (x : ℕ) → new x ≡ option_or (image_cells c.args.self.now base slots x) (old x)} c.map_sections.result
    (λ added. subst (λ (parts : ImageParts). (x : ℕ) → new x ≡ option_or (image_cells parts base slots x) (old x)) c.self.view_is
    (whole_image old mid new base image slots c.self.invariant.laid_out free headers (λ x. added x ∙ ap (λ (bytes : List ℕ). option_or (mid x) (filled_cell base bytes c.deref.result.now x)) contents ∙ ap (λ (listed : List Section). option_or (mid x) (filled_cell base (contents_of image base slots) listed x)) sections)))
    c.map_sections.ensures.ok

nothing_gained : (old new : Cells) (base : ℕ) (image : ImageParts) (slots : List ℕ) → ((a : ℕ) → new a ≡ old a) → HasGainedPart image base slots old new
nothing_gained old new base image slots same = inl same

pub returns-in_err-map_range-clause-kept : goal.returns-in_err-map_range-clause-kept
returns-in_err-map_range-clause-kept c =
    on_err_from c.from_residual.result
    (nothing_gained (space.get c.args.mem.now) (space.get c.map_range.new.mem) c.args.base.0 c.args.self.now c.args.slots.now (λ a. ap (λ s. space.get s a) c.in_err-map_range.ensures.err))

pub returns-clause-kept : goal.returns-clause-kept
returns-clause-kept c =
    let old = space.get c.args.mem.now in
    let mid = space.get c.map_range.new.mem in
    let new = space.get c.map_sections.new.mem in
    let base = c.args.base.0 in
    let slots = c.args.slots.now in
    let image = parts_inside c.self.inside in
    let contents : c.as_slice.result.now ≡ contents_of image base slots = c.as_slice.ensures.value ∙ c.in-Ok.ensures ∙ ap (λ (parts : ImageParts). contents_of parts base slots) (sym c.self.view_is) in
    let sections : c.deref.result.now ≡ sections_of image = c.deref.ensures.value ∙ sym (sections_are c.self.inside c.self.invariant) in
    let many : length c.deref.result.now ≡ length image.sections = ap length sections ∙ length-map image.sections (λ (part : SectionPart). part.section) in
    let headers : (x : ℕ) → mid x ≡ option_or (old x) (range_cell base image.header_size image.headers read_only x) = subst (λ (bytes : List ℕ). (x : ℕ) → mid x ≡ option_or (old x) (range_cell base image.header_size bytes read_only x)) c.as_slice-headers.ensures.value c.in_ok-map_range.ensures.ok in
    on_err_weaker {P = (n : ℕ) × (n < length c.deref.result.now) × ((x : ℕ) → new x ≡ option_or (mid x) (filled_cell base c.as_slice.result.now (take n c.deref.result.now) x))} {Q = HasGainedPart c.args.self.now base slots old new} c.map_sections.result
    (λ kept. subst (λ (parts : ImageParts). HasGainedPart parts base slots old new) c.self.view_is
    (inr (
      kept.0,
      omega (arith, kept.1, many),
      front_image old mid new base image slots kept.0 c.self.invariant.laid_out headers
          (λ x. kept.2 x ∙ ap (λ (bytes : List ℕ). option_or (mid x) (filled_cell base bytes (take kept.0 c.deref.result.now) x)) contents ∙ ap (λ (listed : List Section). option_or (mid x) (filled_cell base (contents_of image base slots) (take kept.0 listed) x)) sections),
    )))
    c.map_sections.ensures.kept

pub returns-clause-memory : goal.returns-clause-memory
returns-clause-memory c =
    if_err_from c.map_sections.result (λ e. e ≡ OutOfMemory → map_refusal (space.get c.args.mem.now) c.args.base.0 c.args.self.now ≡ None) (λ e _. sym c.in_default.ensures)

pub returns-in-Some-clause-memory : goal.returns-in-Some-clause-memory
returns-in-Some-clause-memory c = λ same. absurd (image_not_memory (space.get c.args.mem.now) c.args.base.0 c.args.self.now (sym c.in-Some.ensures ∙ ap Some same))
