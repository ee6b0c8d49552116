use Rattle.std.proofs.Common.{◌≡◌, ℕ, ◌<◌, Bool, true, false, length, refl, sym, subst, arith, true≢false}
use Rattle.binding.specs.Steps.{is_due}
use Rattle.binding.specs.Bursts.{TakeEffect}
use Rattle.binding.proofs.Bursts.{walked_more, walked_to_line, walked_to_due, walked_to_end}
use Rattle.binding.proofs.section.taking_effect.Goals as goal
use Rattle.binding.proofs.section.taking_effect.Goals.{else-not-holds-via-then-not-holds+else-has, else-not-holds-via-else-not-holds}

due : (has holds : Bool) → holds ≡ false → has ≡ true → is_due has holds ≡ true
due has true h g = absurd (true≢false h)
due has false h g = g

held : (has holds : Bool) → holds ≡ true → is_due has holds ≡ false
held has true h = refl
held has false h = absurd (true≢false (sym h))

none_kept : (has holds : Bool) → has ≡ false → is_due has holds ≡ false
none_kept has true h = refl
none_kept has false h = h

pub returns-in-None-clause-effect : goal.returns-in-None-clause-effect
returns-in-None-clause-effect c =
    let l = c.index-lines-passed.result in
    let lt : c.loop-passed.passed < length c.args.lines.now = omega arith in
    walked_to_line c.args.has c.args.hold c.loop-passed.holds c.args.lines.now c.loop-passed.passed l lt c.index-lines-passed.is c.loop-passed.invariant (sym c.in-None.ensures)

pub returns-then-has-clause-effect : goal.returns-then-has-clause-effect
returns-then-has-clause-effect c =
    let l = c.index-lines-passed.result in
    let lt : c.loop-passed.passed < length c.args.lines.now = omega arith in
    walked_to_due c.args.has c.args.hold c.loop-passed.holds c.in-Some.set c.args.lines.now c.loop-passed.passed l lt c.index-lines-passed.is c.loop-passed.invariant (sym c.in-Some.ensures)
    (due c.args.has c.loop-passed.holds c.if-not-holds.true c.if-has.true)

pub loop-passed-preserved : goal.loop-passed-preserved
loop-passed-preserved c =
    let l = c.index-lines-passed.result in
    let lt : c.loop-passed.passed < length c.args.lines.now = omega arith in
    let none : is_due c.args.has c.loop-passed.holds ≡ false = (elim c.else-not-holds.branch [
      | else-not-holds-via-then-not-holds+else-has w ↦ none_kept c.args.has c.loop-passed.holds w.if-has.false
      | else-not-holds-via-else-not-holds w ↦ held c.args.has c.loop-passed.holds w.if-not-holds.false
    ]) in
    walked_more c.args.has c.args.hold c.loop-passed.holds c.in-Some.set c.args.lines.now c.loop-passed.passed l c.requires lt c.index-lines-passed.is c.loop-passed.invariant (sym c.in-Some.ensures) none

pub returns-clause-effect : goal.returns-clause-effect
returns-clause-effect c =
    let ls = c.args.lines.now in
    let end : c.loop-passed.passed ≡ length ls = omega arith in
    subst (λ (k : ℕ). TakeEffect c.args.has c.args.hold ls k false) end (walked_to_end c.args.has c.args.hold c.loop-passed.holds ls c.loop-passed.passed (omega (arith, end)) c.loop-passed.invariant)
