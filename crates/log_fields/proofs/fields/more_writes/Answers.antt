use Rattle.std.proofs.Common.{◌≡◌, ℕ, suc, ◌+◌, ◌-◌, List, [], ◌∷◌, ◌++◌, length, map, Some, ap, ◌∙◌, arith, rules}
use Rattle.log_fields.specs.Codes.{read_more, past, with_front}
use Rattle.log_fields.specs.Fields.{write, write_of}
use Rattle.log_fields.proofs.Fronts.{more_step, map_last}
use Rattle.log_fields.proofs.fields.more_writes.Goals as goal

pub loop-preserved : goal.loop-preserved
loop-preserved c =
    let n = length c.args.bytes.now - c.loop.counter in
    let m = length c.args.bytes.now - (c.loop.counter + 1) in
    let e : length c.args.bytes.now - c.loop.counter ≡ suc (length c.args.bytes.now - (c.loop.counter + 1)) = omega arith in
    let p : past 44 c.loop.rest.now ≡ Some c.in-Some.after.now = search rules in
    let r : write.read c.in-Some.after.now ≡ Some ((write_of c.in_ok-item.item), c.in_ok-item.next.now) = search rules in
    let q : (map write_of c.push.new.self) ≡ (map write_of c.loop.writes) ++ (write_of c.in_ok-item.item) ∷ [] = search (rules, map_last) in
    let s = more_step write n m (map write_of c.loop.writes) c.loop.rest.now c.in-Some.after.now c.in_ok-item.next.now (write_of c.in_ok-item.item) e p r in
    ap (λ (xs : List (ℕ × List ℕ)). with_front xs (read_more write m c.in_ok-item.next.now)) q ∙ s ∙ c.loop.invariant
