use Rattle.std.proofs.Common.{◌≡◌, length, map, min, take, sym, ap, ◌∙◌, subst, arith}
use Rattle.std.proofs.lemmas.Grind.{common_steps}
use Rattle.std.proofs.lemmas.List.{length-map}
use Rattle.pe_image.specs.Image.{IsLaidOut}
use Rattle.pe_image.specs.Limits.{IsLimited}
use Rattle.pe_image.proofs.Keeping.{image_kept}
use Rattle.pe_image.proofs.image.Image.keep.Goals as goal

pub returns : goal.returns
returns c = λ image holds.
    let of = c.args.contents.placed in
    let bytes = c.args.bytes.now in
    let kept : c.in_ok-from_slice.field-0.items ≡ take (min (length bytes) of.headers.image.header_size) bytes = grind (arith, common_steps) in
    image_kept bytes image c.args.contents holds c.in_ok-from_slice.field-0.items c.in_ok-section_list.field-0.items (map (λ b. b.items) c.in_ok-raw_parts.field-0.items) c.in_ok-finish.field-0.items c.in_ok-finish-2.field-0.items kept
    (c.in_ok-section_list.ensures ∙ ap (map (λ part. part.section)) c.deref.ensures.0)
    (c.in_ok-raw_parts.ensures ∙ ap (map (λ part. part.raw.now)) c.deref-2.ensures.0)
    (c.in_ok-finish.ensures image.relocations holds.relocations) (c.in_ok-finish-2.ensures image.imports holds.imports)

pub invariant_of-result : goal.invariant_of-result
invariant_of-result c =
    let of = c.args.contents.placed in
    let bytes = c.args.bytes.now in
    let image = c.requires.0 in
    let holds = c.requires.3 in
    let kept : c.in_ok-from_slice.field-0.items ≡ take (min (length bytes) of.headers.image.header_size) bytes = grind (arith, common_steps) in
    let sections = c.in_ok-section_list.ensures ∙ ap (map (λ part. part.section)) c.deref.ensures.0 in
    let contents = c.in_ok-raw_parts.ensures ∙ ap (map (λ part. part.raw.now)) c.deref-2.ensures.0 in
    let kept_is = image_kept bytes image c.args.contents holds c.in_ok-from_slice.field-0.items c.in_ok-section_list.field-0.items (map (λ b. b.items) c.in_ok-raw_parts.field-0.items) c.in_ok-finish.field-0.items c.in_ok-finish-2.field-0.items kept sections contents
    (c.in_ok-finish.ensures image.relocations holds.relocations) (c.in_ok-finish-2.ensures image.imports holds.imports) in
    record {
      raw_parts =
          sym (length-map c.in_ok-raw_parts.field-0.items (λ b. b.items)) ∙ ap length contents ∙ length-map of.parts.items (λ part. part.raw.now)
          ∙ sym (ap length sections ∙ length-map of.parts.items (λ part. part.section));
      laid_out = subst IsLaidOut (sym kept_is) c.requires.1;
      limited = subst IsLimited (sym kept_is) c.requires.2;
    }
