use Rattle.std.proofs.Common.{◌≡◌, ◌+◌, ◌<◌, ◌≤◌, ℕ, List, length, get_or, Result, Ok, Err, ap, sym, ◌∙◌, subst, arith}
use Rattle.nd_base.specs.declared.numbers.Breach.{Breach}
use Rattle.owner_machine.specs.State.{Owner}
use Rattle.legal_run.specs.Calls.{array_made}
use Rattle.call_verdicts.specs.declared.lendings.Lending.{Lending}
use Rattle.call_verdicts.proofs.Walks.{Says, falls, tells, all_told, said}
use Rattle.call_verdicts.proofs.arrays.indicated.Goals as goal

pub returns-in-Err : goal.returns-in-Err
returns-in-Err g c =
    let ks = c.args.packets.now in
    let i = c.loop-i.i in
    let n = length g.s.owner.loans in
    let lt : i < length ks = omega (arith, c.loop-i-test.true) in
    let number : c.in-Some.j ≡ n + i = c.in-Some.ensures.1 ∙ ap (λ (m : ℕ). m + i) (c.loans.ensures ∙ ap (λ (o : Owner). length o.loans) c.requires.0) in
    let says : Says g.s c.args.a.0 (n + i) c.loop-i.away c.loop-i.array.lent.items (get_or ks i 0) (Err c.in-Err.rule) =
    said g.s c.args.a.0 c.in-Some.j (n + i) c.loop-i.away c.deref.result.now c.loop-i.array.lent.items (get_or ks i 0) c.in_ok-told.field-0 (Err c.in-Err.rule) number c.deref.ensures.value c.in-Err.is c.in_ok-told.ensures.judged in
    ap (array_made (length ks)) (falls g.s c.args.a.0 (n + i) c.loop-i.away c.loop-i.array.entries.items c.loop-i.array.lent.items c.loop-i.array.writes ks i c.in-Err.rule _ lt says c.loop-i.invariant)

pub loop-i-preserved : goal.loop-i-preserved
loop-i-preserved g c =
    let ks = c.args.packets.now in
    let i = c.loop-i.i in
    let n = length g.s.owner.loans in
    let lt : i < length ks = omega (arith, c.loop-i-test.true) in
    let number : c.in-Some.j ≡ n + i = c.in-Some.ensures.1 ∙ ap (λ (m : ℕ). m + i) (c.loans.ensures ∙ ap (λ (o : Owner). length o.loans) c.requires.0) in
    let says : Says g.s c.args.a.0 (n + i) c.loop-i.away c.loop-i.array.lent.items (get_or ks i 0) (Ok c.in-Ok.told) =
    said g.s c.args.a.0 c.in-Some.j (n + i) c.loop-i.away c.deref.result.now c.loop-i.array.lent.items (get_or ks i 0) c.in_ok-told.field-0 (Ok c.in-Ok.told) number c.deref.ensures.value c.in-Ok.is c.in_ok-told.ensures.judged in
    tells g.s c.args.a.0 n i c.loop-i.away c.away_behind-away.result c.loop-i.array.entries.items c.put.new.self.entries.items c.loop-i.array.lent.items c.put.new.self.lent.items c.loop-i.array.writes c.put.new.self.writes ks c.in-Ok.told _ lt says
    c.away_behind-away.ensures c.in_ok-put.ensures.entries c.in_ok-put.ensures.lent c.in_ok-put.ensures.writes c.loop-i.invariant

pub returns : goal.returns
returns g c =
    let most : length c.args.packets.now ≤ c.loop-i.i = omega (arith, c.loop-i-test.false) in
    c.made.ensures ∙ ap (array_made (length c.args.packets.now)) (all_told g.s c.args.a.0 (length g.s.owner.loans + c.loop-i.i) c.loop-i.away c.loop-i.array.entries.items c.loop-i.array.lent.items c.loop-i.array.writes c.args.packets.now c.loop-i.i _ most c.loop-i.invariant)
