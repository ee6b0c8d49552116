use Rattle.std.proofs.Common.{◌≡◌, ◌+◌, ◌<◌, ℕ, false, [], length, get_or, take, drop, ap, ◌∙◌, arith}
use Rattle.std.specs.FinMap as map
use Rattle.std.specs.Option.{option_or}
use Rattle.pe_image.specs.declared.headers.Section.{Section}
use Rattle.pe_image.proofs.Mapping.{free_low}
use Rattle.pe_image.proofs.Parts.{on_err_from}
use Rattle.pe_image.proofs.Loops.{section_cell_of, added_part, filled_next, later_free, next_free}
use Rattle.pe_image.proofs.image.mapping.map_sections.Goals as goal

no_section : Section
no_section = record { name = []; rva = 0; span = 0; raw = 0; rights = record { read = false; write = false; execute = false } }

pub overflow_add-at : goal.overflow_add-at
unfolding no_section
overflow_add-at c =
    let i = c.loop-section.section-index in
    let sections = c.args.sections.now in
    let section = get_or sections i no_section in
    let low = free_low (map.get c.loop-section.mem) (c.args.base.0 + section.rva) section.span (next_free (map.get c.loop-section.mem) c.args.base.0 sections i no_section (omega arith) c.loop-section.invariant.free) in
    omega (arith, low)

pub loop-section-preserved : goal.loop-section-preserved
unfolding no_section section_cell_of
loop-section-preserved c =
    let i = c.loop-section.section-index in
    let sections = c.args.sections.now in
    let contents = c.args.contents.now in
    let base = c.args.base.0 in
    let section = get_or sections i no_section in
    let mid = map.get c.loop-section.mem in
    let new = map.get c.map_range.new.mem in
    let less : i < length sections = omega arith in
    let added : (a : ℕ) → new a ≡ option_or (mid a) (section_cell_of base contents section a) = added_part mid new base contents section c.in_ok-map_range.ensures.ok in
    record {
      mapped = filled_next (map.get c.args.mem.now) mid new base contents sections i no_section less c.loop-section.invariant.mapped added;
      free = later_free mid new base sections i no_section (take section.span (drop section.rva contents)) less c.requires.apart added c.loop-section.invariant.free;
    }

pub returns-in_err-map_range-clause-kept : goal.returns-in_err-map_range-clause-kept
returns-in_err-map_range-clause-kept c =
    let i = c.loop-section.section-index in
    let less : i < length c.args.sections.now = omega arith in
    on_err_from c.from_residual.result (i, less, λ a. ap (λ s. map.get s a) c.in_err-map_range.ensures.err ∙ c.loop-section.invariant.mapped a)
