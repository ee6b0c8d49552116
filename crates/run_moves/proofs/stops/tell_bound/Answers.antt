use Rattle.std.proofs.Common.{◌≡◌, ◌+◌, ◌<◌, ◌≤◌, ℕ, suc, false, ap, ◌∙◌, sym, subst, arith, length, slice_get}
use Rattle.std.specs.Option.{option_map_or}
use Rattle.owner_machine.specs.State.{Owner}
use Rattle.run_course.specs.declared.course.Course.{Course}
use Rattle.run_moves.proofs.Told.{IsTold, is_of, is_of_number, ends, told_none, told_one}
use Rattle.run_moves.proofs.stops.tell_bound.Goals as goal
use Rattle.run_moves.proofs.stops.tell_bound.Goals.{then-is_bound_to, else-is_bound_to}

pub loop-n-preserved : goal.loop-n-preserved
loop-n-preserved g c =
    let n = c.loop-n.n in
    let a = c.args.a.0 in
    let owner = c.requires.1.0 in
    let same = c.drivers-n-end.ensures ∙ ap (λ (o : Owner). length o.drivers) owner in
    let within : n < length g.s.owner.drivers = subst (λ m. n < m) same c.loop-n-test.true in
    let next : suc n ≡ n + 1 = omega arith in
    let told = sym (ap (λ (o : Owner). option_map_or (is_of a) (slice_get o.drivers n) false) owner) ∙ sym c.is_bound_to.ensures in
    subst (λ m. IsTold g.s a m c.if-is_bound_to.course) next
    (elim c.if-is_bound_to.branch [
      | then-is_bound_to w ↦ subst (λ (k : Course). IsTold g.s a (suc n) k) (sym w.course-is) (told_one g.s a n c.loop-n.course w.speak.new.self within (told ∙ w.if-is_bound_to.true) w.speak.ensures c.loop-n.invariant)
      | else-is_bound_to w ↦ subst (λ (k : Course). IsTold g.s a (suc n) k) (sym w.course-is) (told_none g.s a n c.loop-n.course within (told ∙ w.if-is_bound_to.false) c.loop-n.invariant)
    ])

pub returns : goal.returns
returns g c =
    let same = c.drivers-n-end.ensures ∙ ap (λ (o : Owner). length o.drivers) c.requires.1.0 in
    let past : length g.s.owner.drivers ≤ c.loop-n.n = subst (λ m. m ≤ c.loop-n.n) same c.loop-n-test.false in
    ends g.s c.args.a.0 c.loop-n.n c.loop-n.course past c.loop-n.invariant
