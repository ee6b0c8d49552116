use Rattle.std.proofs.Common.{◌≡◌, ℕ, suc, ◌+◌, ◌-◌, List, [], ◌∷◌, ◌++◌, length, map, Some, ap, ◌∙◌, arith, rules}
use Rattle.log_fields.specs.Codes.{read_more, past, with_front}
use Rattle.log_fields.specs.Fields.{small}
use Rattle.nd_base.specs.declared.numbers.BindingNo.{BindingNo}
use Rattle.log_fields.proofs.Fronts.{more_step, map_last}
use Rattle.log_fields.proofs.fields.more_holders.Goals as goal

pub loop-preserved : goal.loop-preserved
loop-preserved c =
    let n = length c.args.bytes.now - c.loop.counter in
    let m = length c.args.bytes.now - (c.loop.counter + 1) in
    let e : length c.args.bytes.now - c.loop.counter ≡ suc (length c.args.bytes.now - (c.loop.counter + 1)) = omega arith in
    let p : past 44 c.loop.rest.now ≡ Some c.in-Some.after.now = search rules in
    let r : small.read c.in-Some.after.now ≡ Some (c.in_ok-item.item, c.in_ok-item.next.now) = search rules in
    let q : (map (λ (h : BindingNo). h.0) c.push.new.self) ≡ (map (λ (h : BindingNo). h.0) c.loop.holders) ++ c.in_ok-item.item ∷ [] = search (rules, map_last) in
    let s = more_step small n m (map (λ (h : BindingNo). h.0) c.loop.holders) c.loop.rest.now c.in-Some.after.now c.in_ok-item.next.now c.in_ok-item.item e p r in
    ap (λ (xs : List ℕ). with_front xs (read_more small m c.in_ok-item.next.now)) q ∙ s ∙ c.loop.invariant
