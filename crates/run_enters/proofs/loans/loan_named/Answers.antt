use Rattle.std.proofs.Common.{◌≡◌, ℕ, Some, None, List, length, true, sym, ap, ◌∙◌}
use Rattle.std.specs.Prelude.{position, slice_index_or, ◌==◌}
use Rattle.owner_machine.specs.Loans.{due_of}
use Rattle.owner_machine.specs.State.{Owner, at}
use Rattle.run_enters.proofs.Named.{is_passing, lent_as, named, none_before, none_there, not_none, within}
use Rattle.run_enters.proofs.loans.loan_named.Goals as goal

pub unreachable-requires : goal.unreachable-requires
unreachable-requires g c =
    let q = c.requires in
    let nowhere : position (due_of c.args.a.0) g.s.owner.loans ≡ None = ap (λ (o : Owner). position (due_of c.args.a.0) o.loans) (sym q.0) ∙ sym c.first_loan.ensures ∙ c.in_default.is in
    not_none g.s c.args.a.0 c.args.descriptor q.1.1 (none_there (due_of c.args.a.0) g.s.owner.loans (lent_as g.s c.args.descriptor) nowhere)

pub loop-j-init : goal.loop-j-init
loop-j-init g c =
    let there : position (due_of c.args.a.0) g.s.owner.loans ≡ Some c.in-Some.first = ap (λ (o : Owner). position (due_of c.args.a.0) o.loans) (sym c.requires.0) ∙ sym c.first_loan.ensures ∙ c.in-Some.is in
    none_before (due_of c.args.a.0) g.s.owner.loans (lent_as g.s c.args.descriptor) c.in-Some.first there

pub returns-then-lends : goal.returns-then-lends
returns-then-lends g c =
    let q = c.requires in
    let due : at (due_of c.args.a.0) g.s.owner.loans c.loop-j.j ≡ true = ap (λ (o : Owner). at (due_of c.args.a.0) o.loans c.loop-j.j) (sym q.0) ∙ sym c.is_due.ensures ∙ c.if-is_due.true in
    let lends : lent_as g.s c.args.descriptor c.loop-j.j ≡ true = ap (λ (lent : List ℕ). slice_index_or lent c.loop-j.j 0 == c.args.descriptor) (sym q.1.0) ∙ sym c.lends.ensures ∙ c.if-lends.true in
    named g.s c.args.a.0 c.args.descriptor c.loop-j.j (is_passing (due_of c.args.a.0) g.s.owner.loans (lent_as g.s c.args.descriptor) c.loop-j.j due lends) c.loop-j.invariant

pub unreachable-requires-2 : goal.unreachable-requires-2
unreachable-requires-2 g c =
    let q = c.requires in
    let long : c.loans-j-end.result ≡ length g.s.owner.loans = c.loans-j-end.ensures ∙ ap (λ (o : Owner). length o.loans) q.0 in
    not_none g.s c.args.a.0 c.args.descriptor q.1.1 (λ k less. c.loop-j.invariant k (within k _ _ _ less long c.loop-j-test.false))
