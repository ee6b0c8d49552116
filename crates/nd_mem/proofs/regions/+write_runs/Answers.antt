use Rattle.std.proofs.Common.{◌≡◌, ℕ, ◌+◌, ◌<◌, ◌≤◌, List, length, take, get_or, ap, ◌∙◌, sym, subst, arith}
use Rattle.std.proofs.lemmas.Bool.Decides.{nat_tests}
use Rattle.std.proofs.lemmas.List.{length-drop, length-take, get_or_read, take_rest}
use Rattle.std.proofs.lemmas.Result.{err_from_is_err_and}
use Rattle.nd_mem.specs.Space.{answer_of}
use Rattle.nd_mem.specs.Regions.{cells_of, access_of, shape, PutsBytes}
use Rattle.nd_mem.proofs.RegionList.{IsRun-spot, IsSpot-shapes, AreLaidOut-shapes, shapes-set, shape_at, shape-put, PutsBytes-set, PutsBytes-both}
use Rattle.nd_mem.proofs.Runs.{fault_behind, fault_first, fault_of_none}
use Rattle.nd_mem.proofs.regions.+write_runs.Goals as goal

pub returns-then-is_empty-clause-answer : goal.returns-then-is_empty-clause-answer
returns-then-is_empty-clause-answer t c =
    let none : length c.args.bytes.now ≡ 0 = grind (arith, nat_tests, c.if-is_empty.ensures) in
    ap (answer_of (tt {0})) (sym (fault_of_none (access_of c.args.purpose) (cells_of c.args.regions.now) c.args.at.0 (length c.args.bytes.now) none))

pub returns-in_err-spot-clause-answer : goal.returns-in_err-spot-clause-answer
returns-in_err-spot-clause-answer t c =
    let some : 0 < length c.args.bytes.now = grind (arith, nat_tests) in
    let p = err_from_is_err_and c.from_residual.result c.from_residual.ensures.1 in
    rw (p.1, p.2) (ap (answer_of (tt {0})) (sym (fault_first (access_of c.args.purpose) (cells_of c.args.regions.now) c.args.at.0 (length c.args.bytes.now) _ c.in_err-spot.ensures.err some)))

pub overflow_cast-count : goal.overflow_cast-count
overflow_cast-count t c =
    let region = c.index-regions-spot.result in
    let run = IsRun-spot (access_of c.args.purpose) c.args.regions.now c.args.at.0 c.in_ok-spot.spot region c.requires c.in_ok-spot.ensures.ok c.index-regions-spot.is in
    let len : c.len.result ≡ length region.bytes.items = c.len.ensures ∙ (get_or c.args.regions.now c.in_ok-spot.spot.region region).bytes.ok.0 ∙ ap (λ r. length r.bytes.items) (sym c.index-regions-spot.is) in
    omega (arith, run.low, length-drop c.in_ok-spot.spot.offset region.bytes.items)

pub overflow_add-at : goal.overflow_add-at
overflow_add-at t c =
    let region = c.index-regions-spot.result in
    let run = IsRun-spot (access_of c.args.purpose) c.args.regions.now c.args.at.0 c.in_ok-spot.spot region c.requires c.in_ok-spot.ensures.ok c.index-regions-spot.is in
    let len : c.len.result ≡ length region.bytes.items = c.len.ensures ∙ (get_or c.args.regions.now c.in_ok-spot.spot.region region).bytes.ok.0 ∙ ap (λ r. length r.bytes.items) (sym c.index-regions-spot.is) in
    omega (arith, run.low, length-drop c.in_ok-spot.spot.offset region.bytes.items)

pub returns-in_err-write_runs-clause-answer : goal.returns-in_err-write_runs-clause-answer
returns-in_err-write_runs-clause-answer t c =
    let region = c.index-regions-spot.result in
    let run = IsRun-spot (access_of c.args.purpose) c.args.regions.now c.args.at.0 c.in_ok-spot.spot region c.requires c.in_ok-spot.ensures.ok c.index-regions-spot.is in
    let len : c.len.result ≡ length region.bytes.items = c.len.ensures ∙ (get_or c.args.regions.now c.in_ok-spot.spot.region region).bytes.ok.0 ∙ ap (λ r. length r.bytes.items) (sym c.index-regions-spot.is) in
    let count = c.min-count.result in
    let p = err_from_is_err_and c.from_residual-in_err-write_runs.result c.from_residual-in_err-write_runs.ensures.1 in
    rw (p.1, p.2)
    (c.in_err-write_runs.ensures.answer
    ∙ ap (answer_of (tt {0})) (sym (fault_behind (access_of c.args.purpose) (cells_of c.args.regions.now) c.args.at.0 _ count _ (length c.args.bytes.now) run
    (omega (arith, length-drop c.in_ok-spot.spot.offset region.bytes.items)) (omega (arith, length-drop count c.args.bytes.now)))))

pub put-requires : goal.put-requires
put-requires t c =
    let old = c.args.regions.now in
    let index = c.in_ok-spot.spot.region in
    let region = c.index-regions-spot.result in
    let again = c.index-regions-spot-2.result in
    let is = c.in_ok-spot.ensures.ok in
    let len : c.len.result ≡ length region.bytes.items = c.len.ensures ∙ (get_or old index region).bytes.ok.0 ∙ ap (λ r. length r.bytes.items) (sym c.index-regions-spot.is) in
    let same = ap (λ s. s.1) (shape_at c.write_runs.new.regions old index again c.write_runs.ensures.shapes is.inside)
    ∙ ap (λ r. length r.bytes.items) (sym (get_or_read old index region is.inside c.index-regions-spot.is again)) in
    omega (arith, same, length-take c.min-count.result c.args.bytes.now, is.within region, ap (λ r. length r.bytes.items) c.index-regions-spot.is)

pub returns-clause-answer : goal.returns-clause-answer
returns-clause-answer t c =
    let region = c.index-regions-spot.result in
    let run = IsRun-spot (access_of c.args.purpose) c.args.regions.now c.args.at.0 c.in_ok-spot.spot region c.requires c.in_ok-spot.ensures.ok c.index-regions-spot.is in
    let len : c.len.result ≡ length region.bytes.items = c.len.ensures ∙ (get_or c.args.regions.now c.in_ok-spot.spot.region region).bytes.ok.0 ∙ ap (λ r. length r.bytes.items) (sym c.index-regions-spot.is) in
    let count = c.min-count.result in
    c.in_ok-write_runs.ensures.answer
    ∙ ap (answer_of (tt {0})) (sym (fault_behind (access_of c.args.purpose) (cells_of c.args.regions.now) c.args.at.0 _ count _ (length c.args.bytes.now) run
    (omega (arith, length-drop c.in_ok-spot.spot.offset region.bytes.items)) (omega (arith, length-drop count c.args.bytes.now))))

fits : (t : ℕ) (c : goal.After-put t) → c.in_ok-spot.spot.offset + length (take c.min-count.result c.args.bytes.now) ≤ length (get_or c.write_runs.new.regions c.in_ok-spot.spot.region c.index-regions-spot-2.result).bytes.items
fits t c =
    let old = c.args.regions.now in
    let index = c.in_ok-spot.spot.region in
    let region = c.index-regions-spot.result in
    let again = c.index-regions-spot-2.result in
    let is = c.in_ok-spot.ensures.ok in
    let len : c.len.result ≡ length region.bytes.items = c.len.ensures ∙ (get_or old index region).bytes.ok.0 ∙ ap (λ r. length r.bytes.items) (sym c.index-regions-spot.is) in
    let same = ap (λ s. s.1) (shape_at c.write_runs.new.regions old index again c.write_runs.ensures.shapes is.inside)
    ∙ ap (λ r. length r.bytes.items) (sym (get_or_read old index region is.inside c.index-regions-spot.is again)) in
    omega (arith, same, length-take c.min-count.result c.args.bytes.now, is.within region, ap (λ r. length r.bytes.items) c.index-regions-spot.is)

shape_after : (t : ℕ) (c : goal.After-put t) → shape c.put.new.self ≡ shape (get_or c.write_runs.new.regions c.in_ok-spot.spot.region c.index-regions-spot-2.result)
shape_after t c = shape-put c.put.new.self (get_or c.write_runs.new.regions c.in_ok-spot.spot.region c.index-regions-spot-2.result) c.in_ok-spot.spot.offset (take c.min-count.result c.args.bytes.now) c.put.ensures.first c.put.ensures.rights c.put.ensures.bytes (fits t c)

pub returns-clause-ok : goal.returns-clause-ok
returns-clause-ok t c =
    let old = c.args.regions.now in
    let between = c.write_runs.new.regions in
    let is = IsSpot-shapes (access_of c.args.purpose) between old c.args.at.0 c.in_ok-spot.spot c.write_runs.ensures.shapes c.in_ok-spot.ensures.ok in
    let behind = subst (λ (bs : List ℕ). PutsBytes (cells_of old) (cells_of between) (c.args.at.0 + c.min-count.result) bs) (take_rest c.args.bytes.now c.min-count.result) c.in_ok-write_runs.ensures.ok in
    PutsBytes-both (cells_of old) (cells_of between) _ c.args.at.0 c.min-count.result c.args.bytes.now (omega arith) behind
    (PutsBytes-set (access_of c.args.purpose) between c.args.at.0 c.in_ok-spot.spot c.put.new.self c.index-regions-spot-2.result (take c.min-count.result c.args.bytes.now) c.write_runs.ensures.laid_out is (shape_after t c) (fits t c) c.put.ensures.bytes)

pub returns-clause-shapes : goal.returns-clause-shapes
returns-clause-shapes t c =
    let is = IsSpot-shapes (access_of c.args.purpose) c.write_runs.new.regions c.args.regions.now c.args.at.0 c.in_ok-spot.spot c.write_runs.ensures.shapes c.in_ok-spot.ensures.ok in
    shapes-set c.write_runs.new.regions c.in_ok-spot.spot.region c.put.new.self c.index-regions-spot-2.result is.inside (shape_after t c) ∙ c.write_runs.ensures.shapes

pub returns-clause-laid_out : goal.returns-clause-laid_out
returns-clause-laid_out t c =
    let is = IsSpot-shapes (access_of c.args.purpose) c.write_runs.new.regions c.args.regions.now c.args.at.0 c.in_ok-spot.spot c.write_runs.ensures.shapes c.in_ok-spot.ensures.ok in
    AreLaidOut-shapes _ c.write_runs.new.regions (shapes-set c.write_runs.new.regions c.in_ok-spot.spot.region c.put.new.self c.index-regions-spot-2.result is.inside (shape_after t c)) c.write_runs.ensures.laid_out
