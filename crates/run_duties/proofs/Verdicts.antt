-- The verdicts on packets that are drawn from a leave may stand, one after the other.
use Rattle.std.proofs.Common.{◌≡◌, ℕ, zero, suc, ◌+◌, ◌≤◌, Bool, true, false, cond, not, ◌&&◌, ◌||◌, ◌==◌, List, [], ◌∷◌, Some, None, refl, sym, ap, ◌∙◌, subst, slice_get, arith}
use Rattle.std.specs.Prelude.{⊤, nat_le}
use Rattle.std.specs.Option.{option_map_or}
use Rattle.std.proofs.lemmas.Bool.{eqb-true}
use Rattle.std.proofs.lemmas.Bool.Decides.{nat_tests}
use Rattle.log_fields.specs.declared.field_values.Handler.{Handler}
use Rattle.call_log.specs.declared.entry.Entry.{Entry}
use Rattle.import_answers.specs.Statuses.{pending, resources}
use Rattle.owner_machine.specs.declared.rows.Next.{Next as OwnerNext}
use Rattle.owner_machine.specs.declared.rows.Next.TheVariants as nexts
use Rattle.owner_machine.specs.declared.rows.Packet.{Packet}
use Rattle.owner_machine.specs.State.{Owner, at, change}
use Rattle.owner_machine.specs.Contexts.{in_call, serialized, send_complete}
use Rattle.owner_machine.specs.Packets.{is_miniport, is_refused, is_completed, is_ending, has_verdict, may_end, at_miniport, packet_adapter, behind_verdict}
use Rattle.owner_machine.specs.Adapters.{held_back_now}
use Rattle.owner_machine.specs.Must.{owner_must, must_behind}
use Rattle.owner_machine.specs.Machine.{rule_against, has_case, last_rule}
use Rattle.owner_machine.specs.Machine as owners
use Rattle.legal_run.specs.State.{State}
use Rattle.legal_run.specs.Calls.{Drawn, Breaking, Draws, draws_first, requeue, complete, given_back, verdicts}
use Rattle.run_duties.proofs.Rows.{true_both, kept, row_at, at_row}
use Rattle.run_duties.proofs.Calls.{is_special}
use Rattle.run_duties.proofs.Made.{first_or, second_or, unless_so, unruled}
use Rattle.run_duties.proofs.Sends.{settled, own_hand, Rising, rising_lower}

-- ---- entries that may stand one after the other, where the owner machine asks for nothing: none of them is of a context's code

abbrev pub AllStand : Owner → List Entry → Type 0
AllStand o [] = ⊤
AllStand o (e ∷ es) = (is_special e ≡ false) × (owner_must o ≡ None) × (rule_against o e ≡ None) × AllStand (owners.after o e) es

abbrev pub DrawnStand : Owner → Drawn → Type 0
DrawnStand o (Draws es) = AllStand o es
DrawnStand o (Breaking rule) = ⊤

-- ---- a walk over the packets that a handler was entered for, which has left

pub record Walks (s : State) (o : Owner) (h : Handler) (a n from : ℕ) : Type 0 where
  pub next : o.next ≡ nexts.Left (record { 0 = a }) h n from
  pub same : (k : ℕ) → from ≤ k → slice_get o.packets k ≡ slice_get s.owner.packets k
  pub serial : serialized o a ≡ serialized s.owner a

later_row : {A : Type 0} (f : A → A) (rows : List A) (k i : ℕ) → suc k ≤ i → slice_get (change f rows k) i ≡ slice_get rows i
later_row f [] k i less = refl
later_row f (row ∷ rows) zero zero less = absurd (omega (arith, less))
later_row f (row ∷ rows) zero (suc i) less = refl
later_row f (row ∷ rows) (suc k) zero less = absurd (omega (arith, less))
later_row f (row ∷ rows) (suc k) (suc i) less = later_row f rows k i (omega (arith, less))

-- a packet that has its verdict next
record HasVerdict (o : Owner) (a k : ℕ) : Type 0 where
  pub row : Packet
  pub there : slice_get o.packets k ≡ Some row
  pub held : is_miniport row.place ≡ true
  pub verdict : has_verdict o.next k row ≡ true
  pub adapter : packet_adapter o k ≡ a

verdict_there : (s : State) (o : Owner) (h : Handler) (a n from k : ℕ) → Walks s o h a n from → from ≤ k → at (settled a n) s.owner.packets k ≡ true → at_miniport s.owner k ≡ true → HasVerdict o a k
verdict_there s o h a n from k w low is held =
    let row = row_at (settled a n) s.owner.packets k is in
    let there : slice_get o.packets k ≡ Some row.row = w.same k low ∙ row.there in
    let here : is_miniport row.row.place ≡ true = sym (at_row (λ p. is_miniport p.place) s.owner.packets k row.row row.there) ∙ held in
    let own = own_hand a n row.row row.passes here in
    let of_adapter = (true_both (row.row.adapter.0 == a) _ row.passes).0 in
    let above : nat_le from k ≡ true = grind (arith, nat_tests) in
    let verdict : has_verdict (nexts.Left (record { 0 = a }) h n from) k row.row ≡ true = rw of_adapter (rw own above) in
    record {
      row = row.row;
      there = there;
      held = here;
      verdict = subst (λ (m : OwnerNext). has_verdict m k row.row ≡ true) (sym w.next) verdict;
      adapter = ap (λ m. option_map_or (λ p. p.adapter.0) m Rattle.owner_machine.specs.State.no_adapter) there ∙ eqb-true row.row.adapter.0 a of_adapter;
    }

nothing_due : (s : State) (o : Owner) (h : Handler) (a n from : ℕ) → Walks s o h a n from → owner_must o ≡ None
nothing_due s o h a n from w = ap (must_behind o) w.next

complete_stands : (s : State) (o : Owner) (h : Handler) (a n from k status : ℕ) → Walks s o h a n from → HasVerdict o a k → (status == pending) ≡ false → rule_against o (complete k status) ≡ None
complete_stands s o h a n from k status w v ends =
    let by : is_completed o k v.row ≡ true = rw v.held (first_or (has_verdict o.next k v.row) (in_call o v.row.adapter.0 send_complete) v.verdict) in
    let may : may_end o k v.row ≡ true = second_or (is_ending o.next v.row) _ (second_or (is_refused v.row.place) _ by) in
    let case : has_case o (complete k status) ≡ true = at_row (may_end o k) o.packets k v.row v.there ∙ may in
    unruled o (complete k status) (nothing_due s o h a n from w) case (unless_so (not (status == pending)) 10 (ap not ends))

requeue_stands : (s : State) (o : Owner) (h : Handler) (a n from k : ℕ) → Walks s o h a n from → HasVerdict o a k → serialized s.owner a ≡ true → rule_against o (requeue k) ≡ None
requeue_stands s o h a n from k w v serial =
    let verdict : at (has_verdict o.next k) o.packets k ≡ true = at_row (has_verdict o.next k) o.packets k v.row v.there ∙ v.verdict in
    let held : at_miniport o k ≡ true = at_row (λ p. is_miniport p.place) o.packets k v.row v.there ∙ v.held in
    let one_by_one : serialized o (packet_adapter o k) ≡ true = ap (serialized o) v.adapter ∙ (w.serial ∙ serial) in
    unruled o (requeue k) (nothing_due s o h a n from w) (rw verdict (rw held one_by_one)) refl

-- and behind it the later ones are as they were
walks_on : (s : State) (o : Owner) (h : Handler) (a n from k : ℕ) (f : Packet → Packet) → Walks s o h a n from → from ≤ k → (i : ℕ) → suc k ≤ i → slice_get (change f o.packets k) i ≡ slice_get s.owner.packets i
walks_on s o h a n from k f w low i less = later_row f o.packets k i less ∙ w.same i (omega (arith, low, less))

next_one : (k : ℕ) → k + 1 ≡ suc k
next_one k = omega arith

goes_on : (o : Owner) (h : Handler) (a n from k : ℕ) → o.next ≡ nexts.Left (record { 0 = a }) h n from → behind_verdict o.next k ≡ nexts.Left (record { 0 = a }) h n (suc k)
goes_on o h a n from k is = ap (λ m. behind_verdict m k) is ∙ ap (λ (i : ℕ). nexts.Left (record { 0 = a }) h n i) (next_one k)

completed_walks : (s : State) (o : Owner) (h : Handler) (a n from k status : ℕ) → Walks s o h a n from → HasVerdict o a k → from ≤ k → Walks s (owners.after o (complete k status)) h a n (suc k)
completed_walks s o h a n from k status w v low =
    let ends : at (λ p. has_verdict o.next k p || is_ending o.next p) o.packets k ≡ true =
    at_row (λ p. has_verdict o.next k p || is_ending o.next p) o.packets k v.row v.there ∙ first_or (has_verdict o.next k v.row) (is_ending o.next v.row) v.verdict in
    record {
      next = ap (λ b. cond b (behind_verdict o.next k) nexts.Free) ends ∙ goes_on o h a n from k w.next;
      same = walks_on s o h a n from k _ w low;
      serial = w.serial;
    }

requeued_walks : (s : State) (o : Owner) (h : Handler) (a n from k : ℕ) → Walks s o h a n from → from ≤ k → Walks s (owners.after o (requeue k)) h a n (suc k)
requeued_walks s o h a n from k w low = record {
  next = goes_on o h a n from k w.next;
  same = walks_on s o h a n from k _ w low;
  serial = kept (λ row. not row.deserialized) held_back_now o.adapters (packet_adapter o k) a (λ row. refl) ∙ w.serial;
}

-- each of these packets is settled
abbrev pub AllSettled : List Packet → (a n : ℕ) → List ℕ → Type 0
AllSettled rows a n [] = ⊤
AllSettled rows a n (k ∷ ks) = (at (settled a n) rows k ≡ true) × AllSettled rows a n ks

back_stands : (s : State) (o : Owner) (h : Handler) (a n from : ℕ) (ks : List ℕ) → Walks s o h a n from → Rising from ks → AllSettled s.owner.packets a n ks → serialized s.owner a ≡ true
    → AllStand o (given_back s ks)
unfolding given_back
back_stands s o h a n from [] w rise all serial = tt
back_stands s o h a n from (k ∷ ks) w rise all serial =
    by_place (at_miniport s.owner k) refl
    (back_stands s o h a n from ks w (rising_lower from (suc k) ks (let low = rise.0 in omega (arith, low)) rise.1) all.1 serial)
    (back_stands s (owners.after o (requeue k)) h a n (suc k) ks (requeued_walks s o h a n from k w rise.0) rise.1 all.1 serial)
  where
    by_place : (t : Bool) → at_miniport s.owner k ≡ t → AllStand o (given_back s ks) → AllStand (owners.after o (requeue k)) (given_back s ks) → AllStand o (cond t (requeue k ∷ given_back s ks) (given_back s ks))
    by_place false is skip more = skip
    by_place true is skip more =
        (refl, nothing_due s o h a n from w, requeue_stands s o h a n from k w (verdict_there s o h a n from k w rise.0 all.0 is) serial, more)

first_stands : (o : Owner) (e : Entry) (d : Drawn) → is_special e ≡ false → owner_must o ≡ None → rule_against o e ≡ None → DrawnStand (owners.after o e) d → DrawnStand o (draws_first e d)
first_stands o e (Breaking rule) plain none may more = tt
first_stands o e (Draws es) plain none may more = (plain, none, may, more)

pub verdicts_stand : (s : State) (o : Owner) (h : Handler) (a n from : ℕ) (status_of : ℕ → ℕ) (serial : Bool) (ks : List ℕ) → Walks s o h a n from → Rising from ks → AllSettled s.owner.packets a n ks
    → (serial ≡ true → serialized s.owner a ≡ true) → DrawnStand o (verdicts s status_of serial ks)
unfolding verdicts
verdicts_stand s o h a n from status_of serial [] w rise all one_by_one = tt
verdicts_stand s o h a n from status_of serial (k ∷ ks) w rise all one_by_one =
    by_status (status_of k == pending) refl
    (verdicts_stand s o h a n from status_of serial ks w (rising_lower from (suc k) ks (let low = rise.0 in omega (arith, low)) rise.1) all.1 one_by_one)
    (λ v. verdicts_stand s (owners.after o (complete k (status_of k))) h a n (suc k) status_of serial ks (completed_walks s o h a n from k (status_of k) w v rise.0) rise.1 all.1 one_by_one)
  where
    goes_back : serial ≡ true → HasVerdict o a k → AllStand o (requeue k ∷ given_back s ks)
    goes_back is v = (
      refl,
      nothing_due s o h a n from w,
      requeue_stands s o h a n from k w v (one_by_one is),
      back_stands s (owners.after o (requeue k)) h a n (suc k) ks (requeued_walks s o h a n from k w rise.0) rise.1 all.1 (one_by_one is),
    )

    by_resources : (t : Bool) → (serial && (status_of k == resources)) ≡ t → (status_of k == pending) ≡ false → HasVerdict o a k
        → (HasVerdict o a k → DrawnStand (owners.after o (complete k (status_of k))) (verdicts s status_of serial ks))
        → DrawnStand o (cond t (Draws (requeue k ∷ given_back s ks)) (draws_first (complete k (status_of k)) (verdicts s status_of serial ks)))
    by_resources true is ends v more = goes_back (true_both serial _ is).0 v
    by_resources false is ends v more =
        first_stands o (complete k (status_of k)) (verdicts s status_of serial ks) refl (nothing_due s o h a n from w) (complete_stands s o h a n from k (status_of k) w v ends) (more v)

    by_place : (t : Bool) → at_miniport s.owner k ≡ t → (status_of k == pending) ≡ false
        → (HasVerdict o a k → DrawnStand (owners.after o (complete k (status_of k))) (verdicts s status_of serial ks))
        → DrawnStand o (cond (not t) (Breaking 1) (cond (serial && (status_of k == resources)) (Draws (requeue k ∷ given_back s ks)) (draws_first (complete k (status_of k)) (verdicts s status_of serial ks))))
    by_place false is ends more = tt
    by_place true is ends more = by_resources (serial && (status_of k == resources)) refl ends (verdict_there s o h a n from k w rise.0 all.0 is) more

    by_status : (t : Bool) → (status_of k == pending) ≡ t → DrawnStand o (verdicts s status_of serial ks)
        → (HasVerdict o a k → DrawnStand (owners.after o (complete k (status_of k))) (verdicts s status_of serial ks))
        → DrawnStand o (cond t (verdicts s status_of serial ks) (cond (not (at_miniport s.owner k)) (Breaking 1)
        (cond (serial && (status_of k == resources)) (Draws (requeue k ∷ given_back s ks)) (draws_first (complete k (status_of k)) (verdicts s status_of serial ks)))))
    by_status true is skip more = skip
    by_status false is skip more = by_place (at_miniport s.owner k) refl is more
