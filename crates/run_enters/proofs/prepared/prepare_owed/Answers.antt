use Rattle.std.proofs.Common.{◌≤◌, length, ◌∙◌, subst, sym}
use Rattle.owner_machine.specs.State.{Owner}
use Rattle.run_enters.proofs.prepared.prepare_owed.Goals as goal

pub entering_owed-requires : goal.entering_owed-requires
entering_owed-requires g c =
    let q = c.requires in
    (q.0.kept, (c.as_slice.ensures.value ∙ q.0.shown.loans, (q.1.0, (subst (λ (o : Owner). length o.drivers ≤ 256) (sym q.0.kept.owner) q.1.1.0, q.1.1.1))))
