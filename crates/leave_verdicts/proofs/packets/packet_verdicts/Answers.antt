use Rattle.std.proofs.Common.{◌≡◌, ◌<◌, ◌≤◌, ◌&&◌, ◌==◌, ◌++◌, [], ◌∷◌, drop, length, get_or, true, false, sym, ap, ◌∙◌, arith, ℕ, List}
use Rattle.std.proofs.lemmas.Bool.{eq-eqb}
use Rattle.import_answers.specs.Statuses.{pending, resources}
use Rattle.owner_machine.specs.State.{Owner}
use Rattle.owner_machine.specs.Packets.{at_miniport}
use Rattle.legal_run.specs.Calls.{complete, given_back, verdicts}
use Rattle.leave_verdicts.specs.Judged.{in_front, status_by}
use Rattle.leave_verdicts.proofs.Judging.{one_completed, rest_back, all_drawn, skips, breaks, differs, rest_taken}
use Rattle.leave_verdicts.proofs.packets.packet_verdicts.Goals as goal

pub loop-i-preserved-then-status-eq-PENDING : goal.loop-i-preserved-then-status-eq-PENDING
loop-i-preserved-then-status-eq-PENDING g c =
    let ks = c.args.packets.now in
    let i = c.loop-i.i in
    let f = status_by g.s c.args.by in
    let lt : i < length ks = omega (arith, c.loop-i-test.true) in
    let pends : (f (get_or ks i 0) == pending) ≡ true = ap (λ (n : ℕ). n == pending) (sym c.status_by-status.ensures) ∙ eq-eqb _ _ c.if-status-eq-PENDING.true in
    ap (in_front c.loop-i.entries.items) (sym (skips g.s f c.args.serial ks i lt pends)) ∙ c.loop-i.invariant

pub returns-then-not-is_at_miniport : goal.returns-then-not-is_at_miniport
returns-then-not-is_at_miniport g c =
    let ks = c.args.packets.now in
    let i = c.loop-i.i in
    let f = status_by g.s c.args.by in
    let lt : i < length ks = omega (arith, c.loop-i-test.true) in
    let answers : (f (get_or ks i 0) == pending) ≡ false = ap (λ (n : ℕ). n == pending) (sym c.status_by-status.ensures) ∙ differs _ c.if-status-eq-PENDING.false in
    let gone : at_miniport g.s.owner (get_or ks i 0) ≡ false =
    ap (λ (o : Owner). at_miniport o (get_or ks i 0)) (sym c.requires.0) ∙ sym c.is_at_miniport.ensures ∙ c.if-not-is_at_miniport.true in
    c.breaks.ensures ∙ ap (in_front c.loop-i.entries.items) (sym (breaks g.s f c.args.serial ks i lt answers gone)) ∙ c.loop-i.invariant

pub returns-then-goes_back : goal.returns-then-goes_back
returns-then-goes_back g c =
    let ks = c.args.packets.now in
    let i = c.loop-i.i in
    let f = status_by g.s c.args.by in
    let lt : i < length ks = omega (arith, c.loop-i-test.true) in
    let answers : (f (get_or ks i 0) == pending) ≡ false = ap (λ (n : ℕ). n == pending) (sym c.status_by-status.ensures) ∙ differs _ c.if-status-eq-PENDING.false in
    let held : at_miniport g.s.owner (get_or ks i 0) ≡ true =
    ap (λ (o : Owner). at_miniport o (get_or ks i 0)) (sym c.requires.0) ∙ sym c.is_at_miniport.ensures ∙ c.if-not-is_at_miniport.false in
    let none : (c.args.serial && (f (get_or ks i 0) == resources)) ≡ true =
    ap (λ (n : ℕ). c.args.serial && (n == resources)) (sym c.status_by-status.ensures) ∙ sym c.goes_back.ensures ∙ c.if-goes_back.true in
    let rest : c.give_back.new.entries.items ≡ c.loop-i.entries.items ++ given_back g.s (drop i ks) =
    c.in_ok-give_back.ensures ∙ ap (λ (ms : List ℕ). c.loop-i.entries.items ++ given_back g.s ms) (rest_taken ks i) in
    rest_back g.s f c.args.serial ks i c.loop-i.entries.items c.give_back.new.entries.items (verdicts g.s f c.args.serial ks) lt answers held none rest c.loop-i.invariant

pub loop-i-preserved : goal.loop-i-preserved
loop-i-preserved g c =
    let ks = c.args.packets.now in
    let i = c.loop-i.i in
    let f = status_by g.s c.args.by in
    let lt : i < length ks = omega (arith, c.loop-i-test.true) in
    let answers : (f (get_or ks i 0) == pending) ≡ false = ap (λ (n : ℕ). n == pending) (sym c.status_by-status.ensures) ∙ differs _ c.if-status-eq-PENDING.false in
    let held : at_miniport g.s.owner (get_or ks i 0) ≡ true =
    ap (λ (o : Owner). at_miniport o (get_or ks i 0)) (sym c.requires.0) ∙ sym c.is_at_miniport.ensures ∙ c.if-not-is_at_miniport.false in
    let ends : (c.args.serial && (f (get_or ks i 0) == resources)) ≡ false =
    ap (λ (n : ℕ). c.args.serial && (n == resources)) (sym c.status_by-status.ensures) ∙ sym c.goes_back.ensures ∙ c.if-goes_back.false in
    let put : c.push.new.self.items ≡ c.loop-i.entries.items ++ complete (get_or ks i 0) (f (get_or ks i 0)) ∷ [] =
    c.in_ok-push.ensures.items ∙ ap (λ (n : ℕ). c.loop-i.entries.items ++ complete (get_or ks i 0) n ∷ []) c.status_by-status.ensures in
    one_completed g.s f c.args.serial ks i c.loop-i.entries.items c.push.new.self.items (verdicts g.s f c.args.serial ks) lt answers held ends put c.loop-i.invariant

pub returns : goal.returns
returns g c =
    let most : length c.args.packets.now ≤ c.loop-i.i = omega (arith, c.loop-i-test.false) in
    all_drawn g.s (status_by g.s c.args.by) c.args.serial c.args.packets.now c.loop-i.i c.loop-i.entries.items _ most c.loop-i.invariant
