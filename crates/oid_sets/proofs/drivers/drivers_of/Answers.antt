use Rattle.std.proofs.Common.{◌≡◌, ◌∙◌, ◌==◌, ◌+◌, ◌<◌, ◌++◌, List, length, true, false, drop, ap, arith, rules}
use Rattle.owner_machine.specs.State.{at, numbers_from}
use Rattle.owner_machine.specs.declared.rows.Driver.{Driver}
use Rattle.legal_run.specs.Enters.{drivers_of_adapter}
use Rattle.oid_sets.proofs.Numbered.{one_numbered, passed_over}
use Rattle.oid_sets.proofs.drivers.drivers_of.Goals as goal
use Rattle.oid_sets.proofs.drivers.drivers_of.Goals.{then-is_of+in_ok-push, else-is_of}

pub loop-n-preserved : goal.loop-n-preserved
loop-n-preserved g c =
    let rows = g.s.owner.drivers in
    let n = c.loop-n.n in
    let test = λ (d : Driver). d.adapter.0 == c.args.a.0 in
    let whole = drivers_of_adapter g.s c.args.a.0 in
    let count : c.drivers-n-end.result ≡ length rows = search rules in
    let less : n < length rows = omega (arith, count) in
    let behind = λ (ds : List _). ds ++ numbers_from (n + 1) test (drop (n + 1) rows) in
    elim c.if-is_of.branch [
      | then-is_of+in_ok-push w ↦
          let passes : at test rows n ≡ true = search rules in
          ap (λ v. behind v.items) w.drivers-is ∙ ap behind w.in_ok-push.ensures.items
          ∙ one_numbered test rows c.loop-n.drivers.items whole n less passes c.loop-n.invariant
      | else-is_of w ↦
          let fails : at test rows n ≡ false = search rules in
          ap (λ v. behind v.items) w.drivers-is ∙ passed_over test rows c.loop-n.drivers.items whole n less fails c.loop-n.invariant
    ]
