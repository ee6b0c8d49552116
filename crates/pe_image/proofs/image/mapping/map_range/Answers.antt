use Rattle.std.proofs.Common.{◌≡◌, ◌≤◌, ◌+◌, length, None, is_ok, refl, sym, ap, ◌∙◌, subst, arith}
use Rattle.std.proofs.lemmas.Result.{IfOk-at_ok}
use Rattle.std.specs.FinMap as map
use Rattle.nd_mem.specs.Space.{Space, Any, first_fault, answer_of, put_from}
use Rattle.pe_image.proofs.Mapping.{range_added, free_low}
use Rattle.pe_image.proofs.image.mapping.map_range.Goals as goal

pub unwrap-requires : goal.unwrap-requires
unwrap-requires c =
    let s = c.args.mem.now in
    let at = c.args.at.0 in
    let m = length c.args.bytes.now in
    let added = c.in_ok-add_region.ensures.ok in
    let top : at + c.args.len ≤ 0xF0000000 = free_low (map.get s) at c.args.len added.0 in
    let none : first_fault Any (map.get c.add_region.new.self) at m ≡ None = subst (λ (t : Space). first_fault Any (map.get t) at m ≡ None) (sym added.1) (c.region_laws.ensures.allowed Any s at c.args.len c.args.rights at m refl (omega arith) (omega arith) (omega (arith, c.requires))) in
    ap is_ok (c.place.ensures.answer ∙ ap (answer_of tt) none)

pub returns-clause-ok : goal.returns-clause-ok
returns-clause-ok c = λ a.
    let s = c.args.mem.now in
    let at = c.args.at.0 in
    let bytes = c.args.bytes.now in
    let added = c.in_ok-add_region.ensures.ok in
    let placed : c.place.new.self ≡ put_from c.add_region.new.self at bytes = IfOk-at_ok (λ _. c.place.new.self ≡ put_from c.add_region.new.self at bytes) c.unwrap.ensures c.place.ensures.ok in
    ap (λ t. map.get t a) (placed ∙ ap (λ t. put_from t at bytes) added.1) ∙ range_added c.write_laws.ensures c.region_laws.ensures s at c.args.len bytes c.args.rights a added.0 c.requires
