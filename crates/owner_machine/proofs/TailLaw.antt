-- Each entry of a tail ends one thing that is outstanding, so a tail has as many entries as that, and no more.
use Rattle.std.proofs.Common.{◌≡◌, ℕ, zero, suc, ◌+◌, Bool, true, false, ◌&&◌, ◌==◌, List, [], ◌∷◌, Option, Some, None, refl, sym, ap, ◌∙◌, subst, arith}
use Rattle.std.specs.Prelude.{count_by}
use Rattle.std.specs.List.{position}
use Rattle.std.specs.Option.{option_map}
use Rattle.call_log.specs.declared.entry.Entry.{Entry}
use Rattle.call_log.specs.declared.entry.Entry.TheVariants.{Complete, Back, Answer, Tag}
use Rattle.owner_machine.specs.declared.rows.Loan.{Loan}
use Rattle.owner_machine.specs.declared.rows.LoanPlace.TheVariants.{Home}
use Rattle.owner_machine.specs.State.{Owner, at, change, failure}
use Rattle.owner_machine.specs.Packets.{out_of, completed}
use Rattle.owner_machine.specs.Loans.{away_of, gone_home, nobody}
use Rattle.owner_machine.specs.Requests.{open_of, answered}
use Rattle.owner_machine.specs.Handlers.{outstanding, is_none}
use Rattle.owner_machine.specs.Must.{Due, Completes, BacksFailed, Answers, tail, serves, first_due}
use Rattle.owner_machine.specs.Machine.{after}
use Rattle.owner_machine.specs.Laws.{number}
use Rattle.owner_machine.proofs.Bools.{and_first, and_second, equal}
use Rattle.owner_machine.proofs.Changed.{passes_at, count_change, none_passes}
use Rattle.owner_machine.proofs.PacketLaw.{no_packet, completed_not_out}
use Rattle.owner_machine.proofs.RequestLaw.{no_request}

no_loan : Loan
no_loan = record { adapter = record { 0 = 0 }; holders = nobody; place = Home }

pub after_false : {A : Type 0} (p : A → Bool) (f : A → A) (rows : List A) (k : ℕ) → ((row : A) → p (f row) ≡ false) → at p (change f rows k) k ≡ false
after_false p f [] k w = refl
after_false p f (row ∷ rows) zero w = w row
after_false p f (row ∷ rows) (suc k) w = after_false p f rows k w

falls : {A : Type 0} (p : A → Bool) (f : A → A) (rows : List A) (none : A) (k : ℕ) → position p rows ≡ Some k → ((row : A) → p (f row) ≡ false) → count_by p (change f rows k) + 1 ≡ count_by p rows
falls p f rows none k found w =
    let e1 = count_change p f rows k in
    let e2 = ap number (passes_at p rows none k found) in
    let e3 = ap number (after_false p f rows k w) in
    omega (arith, e1, e2, e3)

complete_falls : (o : Owner) (a k : ℕ) (e : Entry) → position (out_of a) o.packets ≡ Some k → serves o (Completes false k failure) e ≡ true → outstanding (after o e) a + 1 ≡ outstanding o a
complete_falls o a k (Complete packet status) found is =
    let same : packet.0 ≡ k = equal packet.0 k (and_first (packet.0 == k) (status.0 == failure) is) in
    let less = falls (out_of a) (completed o.next) o.packets no_packet packet.0 (found ∙ ap (λ (n : ℕ). Some n) (sym same)) (λ row. ap (λ (b : Bool). b && (row.adapter.0 == a)) (completed_not_out o.next row)) in
    omega (arith, less)
complete_falls o a k (Tag packet id) found is = absurd (cc)
complete_falls o a k _ found is = absurd (cc)

back_falls : (o : Owner) (a k : ℕ) (e : Entry) → position (away_of a) o.loans ≡ Some k → serves o (BacksFailed k) e ≡ true → outstanding (after o e) a + 1 ≡ outstanding o a
back_falls o a k (Back loan failed) found is =
    let same : loan.0 ≡ k = equal loan.0 k (and_second failed (loan.0 == k) is) in
    let less = falls (away_of a) gone_home o.loans no_loan loan.0 (found ∙ ap (λ (n : ℕ). Some n) (sym same)) (λ row. refl) in
    omega (arith, less)
back_falls o a k _ found is = absurd (cc)

answer_falls : (o : Owner) (a k : ℕ) (e : Entry) → position (open_of a) o.requests ≡ Some k → serves o (Answers k failure) e ≡ true → outstanding (after o e) a + 1 ≡ outstanding o a
answer_falls o a k (Answer request status bytes) found is =
    let same : request.0 ≡ k = equal request.0 k (and_first (request.0 == k) ((status.0 == failure) && is_none bytes) is) in
    let less = falls (open_of a) answered o.requests no_request request.0 (found ∙ ap (λ (n : ℕ). Some n) (sym same)) (λ row. refl) in
    omega (arith, less)
answer_falls o a k _ found is = absurd (cc)

pub tail_falls : (o : Owner) (a : ℕ) (due : Due) (e : Entry) → tail o a ≡ Some due → serves o due e ≡ true → outstanding (after o e) a + 1 ≡ outstanding o a
tail_falls o a due e is serve = go (position (out_of a) o.packets) (position (away_of a) o.loans) (position (open_of a) o.requests) refl refl refl is
  where
    go : (x y z : Option ℕ) → position (out_of a) o.packets ≡ x → position (away_of a) o.loans ≡ y → position (open_of a) o.requests ≡ z → first_due (option_map (λ k. Completes false k failure) x) (first_due (option_map (λ j. BacksFailed j) y) (option_map (λ r. Answers r failure) z)) ≡ Some due → outstanding (after o e) a + 1 ≡ outstanding o a
    go (Some k) y z px py pz d = let same : Completes false k failure ≡ due = cc in complete_falls o a k e px (subst (λ (w : Due). serves o w e ≡ true) (sym same) serve)
    go None (Some j) z px py pz d = let same : BacksFailed j ≡ due = cc in back_falls o a j e py (subst (λ (w : Due). serves o w e ≡ true) (sym same) serve)
    go None None (Some r) px py pz d = let same : Answers r failure ≡ due = cc in answer_falls o a r e pz (subst (λ (w : Due). serves o w e ≡ true) (sym same) serve)
    go None None None px py pz d = absurd (cc)

pub tail_ends : (o : Owner) (a : ℕ) → tail o a ≡ None → outstanding o a ≡ 0
tail_ends o a is = go (position (out_of a) o.packets) (position (away_of a) o.loans) (position (open_of a) o.requests) refl refl refl is
  where
    go : (x y z : Option ℕ) → position (out_of a) o.packets ≡ x → position (away_of a) o.loans ≡ y → position (open_of a) o.requests ≡ z → first_due (option_map (λ k. Completes false k failure) x) (first_due (option_map (λ j. BacksFailed j) y) (option_map (λ r. Answers r failure) z)) ≡ None → outstanding o a ≡ 0
    go None None None px py pz d =
        let packets = none_passes (out_of a) o.packets px in
        let loans = none_passes (away_of a) o.loans py in
        let requests = none_passes (open_of a) o.requests pz in
        omega (arith, packets, loans, requests)
    go (Some k) y z px py pz d = absurd (cc)
    go None (Some j) z px py pz d = absurd (cc)
    go None None (Some r) px py pz d = absurd (cc)
