-- An open handler of a send that runs on: each packet that it was entered for was handed by its own enter, or has come back.
use Rattle.std.proofs.Common.{◌≡◌, ℕ, zero, suc, ◌+◌, ◌-◌, ◌≤◌, Bool, true, false, cond, not, ◌&&◌, ◌==◌, List, [], ◌∷◌, Option, Some, None, refl, sym, ap, ◌∙◌, subst, length, slice_set, inl, inr, arith}
use Rattle.std.specs.Prelude.{take, nat_lt, position, get_or, ⊤}
use Rattle.std.specs.List.{position_or_len}
use Rattle.std.specs.Option.{MatchOption, option_map, option_or}
use Rattle.std.proofs.lemmas.Bool.{eqb-true, eq-eqb}
use Rattle.std.proofs.lemmas.Bool.Decides.{nat_tests}
use Rattle.nd_base.specs.declared.numbers.AdapterNo.{AdapterNo}
use Rattle.nd_base.specs.declared.numbers.CtxNo.{CtxNo}
use Rattle.log_fields.specs.declared.write.Write.{Write}
use Rattle.log_fields.specs.declared.field_values.Handler.{Handler}
use Rattle.log_fields.specs.declared.field_values.Handler.TheVariants as handler
use Rattle.call_log.specs.declared.entry.Entry.{Entry}
use Rattle.call_log.specs.declared.entry.Entry.TheVariants as entries
use Rattle.owner_machine.specs.declared.rows.Context.{Context as OwnerContext}
use Rattle.owner_machine.specs.declared.rows.Context.TheVariants as kept_context
use Rattle.owner_machine.specs.declared.rows.Next.{Next as OwnerNext}
use Rattle.owner_machine.specs.declared.rows.Next.TheVariants as nexts
use Rattle.owner_machine.specs.declared.rows.Packet.{Packet}
use Rattle.owner_machine.specs.declared.rows.Place.{Place}
use Rattle.owner_machine.specs.declared.rows.Place.TheVariants as places
use Rattle.owner_machine.specs.State.{Owner, at, change, in_front, numbers_from}
use Rattle.owner_machine.specs.Packets.{handed_one, is_queue, is_miniport, queued_of, first_queued, packet_adapter, hands, has_verdict, at_miniport, may_hand, may_requeue, placed, handed, tagged, completed, aborts, enter_of}
use Rattle.owner_machine.specs.Must.{Hands, owner_must, must_behind, serves}
use Rattle.owner_machine.specs.Machine.{rule_against}
use Rattle.owner_machine.specs.Machine as owners
use Rattle.legal_run.specs.State.{Inputs, State, Free, Context, context_at, start}
use Rattle.legal_run.specs.Calls.{leaves}
use Rattle.legal_run.specs.Enters.{count_in}
use Rattle.legal_run.specs.After.{popped, number_in, after, subject_of, begun, is_breaking, owner_left}
use Rattle.legal_run.specs.Must.{Due, Owes, next_must, taken_first, must, is_carried, Serves}
use Rattle.legal_run.specs.Run.{Meets, freely}
use Rattle.legal_run.specs.VerdictLaws.{is_send}
use Rattle.run_duties.proofs.Rows.{position_passes, true_both, case_of, other_row, row_at, at_row}
use Rattle.run_duties.proofs.Standing.{at_changed}
use Rattle.run_duties.proofs.Calls.{at_here, at_more}
use Rattle.run_duties.proofs.Stops.{Standing, step as standing_step, begun as standing_begun}
use Rattle.run_duties.proofs.Opened.{runs_as, set_at, enters_at, stops_it, run_back, subject_kept, subject_at}
use Rattle.run_duties.proofs.Entered.{EachOnce, runs_on, is_left, none_runs, once_after, once_begun}
use Rattle.run_duties.proofs.Winding.{IsEnding, Unfinished, unfinished_there, broken_in, ending_step, never_leaves, is_in, or_cases}
use Rattle.run_duties.proofs.Handed.{at_append, number_is}

-- ---- the handlers of a send

abbrev pub is_sending : (a n : ℕ) → OwnerContext → Bool
is_sending a n = runs_as is_send a n

sending_runs : (a n : ℕ) (x : OwnerContext) → is_sending a n x ≡ true → runs_on a n x ≡ true
sending_runs a n (kept_context.Open (Some b) h m call) is = let parts = true_both (b.0 == a) _ is in rw parts.0 (true_both (is_send h) (m == n) parts.1).1
sending_runs a n (kept_context.Open None h m call) is = absurd (cc)
sending_runs a n kept_context.Free is = absurd (cc)

-- ---- a packet of the adapter that was handed by that enter, or has come back from it

abbrev pub settles : Place → Bool → Bool
settles places.Miniport own = own
settles places.Done own = true
settles places.Aborted own = true
settles _ own = false

abbrev pub settled : (a n : ℕ) → Packet → Bool
settled a n p = (p.adapter.0 == a) && settles p.place (p.hand == n)

not_queued : (a b n : ℕ) (p : Packet) → settled a n p ≡ true → queued_of b p ≡ true → ⊥
not_queued a b n p is queued = by_place p.place (true_both (p.adapter.0 == a) _ is).1 (true_both _ (p.adapter.0 == b) queued).0
  where
    by_place : (place : Place) → settles place (p.hand == n) ≡ true → is_queue place ≡ true → ⊥
    by_place places.Queue one other = absurd (cc)
    by_place _ one other = absurd (cc)

-- at the miniport it has that hand
pub own_hand : (a n : ℕ) (p : Packet) → settled a n p ≡ true → is_miniport p.place ≡ true → (p.hand == n) ≡ true
own_hand a n p is there = by_place p.place (true_both (p.adapter.0 == a) _ is).1 there
  where
    by_place : (place : Place) → settles place (p.hand == n) ≡ true → is_miniport place ≡ true → (p.hand == n) ≡ true
    by_place places.Miniport one other = one
    by_place _ one other = absurd (cc)

same_row : {A : Type 0} (p q : A) (m : Option A) → m ≡ Some p → m ≡ Some q → p ≡ q
same_row p q m one other = let both = sym one ∙ other in cc

hand_settled : (o : Owner) (q a n m k : ℕ) → may_hand o q ≡ true → at (settled a n) o.packets k ≡ true → at (settled a n) (change (handed m) o.packets q) k ≡ true
hand_settled o q a n m k may is = by_number (q == k) refl
  where
    queued : at (queued_of (packet_adapter o q)) o.packets q ≡ true
    queued = position_passes (queued_of (packet_adapter o q)) o.packets q (number_is (first_queued o (packet_adapter o q)) q (true_both (hands o.next (packet_adapter o q)) _ may).1)

    by_number : (t : Bool) → (q == k) ≡ t → at (settled a n) (change (handed m) o.packets q) k ≡ true
    by_number false other = other_row (settled a n) (handed m) o.packets q k other ∙ is
    by_number true same =
        let here = subst (λ (i : ℕ). at (settled a n) o.packets i ≡ true) (sym (eqb-true q k same)) is in
        let row = row_at (queued_of (packet_adapter o q)) o.packets q queued in
        absurd (not_queued a (packet_adapter o q) n row.row (sym (at_row (settled a n) o.packets q row.row row.there) ∙ here) row.passes)

verdict_hand : (m : OwnerNext) (k n : ℕ) (p : Packet) → has_verdict m k p ≡ true → (p.hand == n) ≡ true → is_left m n ≡ true
verdict_hand (nexts.Left b h enter from) k n p has own =
    let same : p.hand ≡ enter = eqb-true p.hand enter (true_both _ _ (true_both (p.adapter.0 == b.0) _ has).1).0 in
    subst (λ (i : ℕ). (i == n) ≡ true) same own
verdict_hand _ k n p has own = absurd (cc)

back_settled : (o : Owner) (q a n k : ℕ) → may_requeue o q ≡ true → is_left o.next n ≡ false → at (settled a n) o.packets k ≡ true → at (settled a n) (change (placed places.Queue) o.packets q) k ≡ true
back_settled o q a n k may left is = by_number (q == k) refl
  where
    by_number : (t : Bool) → (q == k) ≡ t → at (settled a n) (change (placed places.Queue) o.packets q) k ≡ true
    by_number false other = other_row (settled a n) (placed places.Queue) o.packets q k other ∙ is
    by_number true same =
        let here = subst (λ (i : ℕ). at (settled a n) o.packets i ≡ true) (sym (eqb-true q k same)) is in
        let parts = true_both (at (has_verdict o.next q) o.packets q) _ may in
        let row = row_at (has_verdict o.next q) o.packets q parts.0 in
        let held = sym (at_row (λ p. is_miniport p.place) o.packets q row.row row.there) ∙ (true_both (at_miniport o q) _ parts.1).0 in
        let own = own_hand a n row.row (sym (at_row (settled a n) o.packets q row.row row.there) ∙ here) held in
        let gone = verdict_hand o.next q n row.row row.passes own in
        absurd (cc)

done_settled : (a n : ℕ) (b : Bool) (p : Packet) → settled a n p ≡ true → settled a n (placed (cond b places.Aborted places.Done) p) ≡ true
done_settled a n true p is = rw (true_both (p.adapter.0 == a) _ is).0 refl
done_settled a n false p is = rw (true_both (p.adapter.0 == a) _ is).0 refl

owner_settled : (o : Owner) (e : Entry) (a n k : ℕ) → rule_against o e ≡ None → is_left o.next n ≡ false → at (settled a n) o.packets k ≡ true → at (settled a n) (owners.after o e).packets k ≡ true
owner_settled o (entries.Send b q bytes) a n k none left is = at_append (settled a n) o.packets _ k is
owner_settled o (entries.Tag q id) a n k none left is = at_changed (settled a n) (tagged id) o.packets q.0 k (λ p h. h) is
owner_settled o (entries.Hand q) a n k none left is = hand_settled o q.0 a n (enter_of o.next) k (case_of o (entries.Hand q) none) is
owner_settled o (entries.Requeue q) a n k none left is = back_settled o q.0 a n k (case_of o (entries.Requeue q) none) left is
owner_settled o (entries.Complete q status) a n k none left is = at_changed (settled a n) (completed o.next) o.packets q.0 k (λ p h. done_settled a n (aborts o.next p) p h) is
owner_settled o (entries.Late q) a n k none left is = at_changed (settled a n) (placed places.Done) o.packets q.0 k (λ p h. done_settled a n false p h) is
owner_settled o _ a n k none left is = is

left_settled : (o : Owner) (x : CtxNo) (eax : ℕ) (breaks : Bool) (a n k : ℕ) → at (settled a n) o.packets k ≡ true → at (settled a n) (owner_left o (entries.Leave x eax) breaks).packets k ≡ true
left_settled o x eax true a n k is = is
left_settled o x eax false a n k is = is

run_settled : (c : Inputs) (s : State) (e : Entry) (a n k : ℕ) → rule_against s.owner e ≡ None → is_left s.owner.next n ≡ false → at (settled a n) s.owner.packets k ≡ true
    → at (settled a n) (after c s e).owner.packets k ≡ true
run_settled c s (entries.Leave x eax) a n k none left is = left_settled s.owner x eax (is_breaking (leaves c s x eax)) a n k is
run_settled c s (entries.Reply x eax writes) a n k none left is = is
run_settled c s e a n k none left is = owner_settled s.owner e a n k none left is

-- ---- numbers of rows that pass, in rising order

abbrev pub Rising : ℕ → List ℕ → Type 0
Rising n [] = ⊤
Rising n (k ∷ ks) = (n ≤ k) × Rising (suc k) ks

pub rising_lower : (m n : ℕ) (ks : List ℕ) → m ≤ n → Rising n ks → Rising m ks
rising_lower m n [] less h = tt
rising_lower m n (k ∷ ks) less h = let low = h.0 in (omega (arith, less, low), h.1)

numbers_rise : {A : Type 0} (n : ℕ) (test : A → Bool) (rows : List A) → Rising n (numbers_from n test rows)
numbers_rise n test [] = tt
numbers_rise n test (row ∷ rows) = by_test (test row) (numbers_rise (suc n) test rows)
  where
    by_test : (t : Bool) → Rising (suc n) (numbers_from (suc n) test rows) → Rising n (in_front t n (numbers_from (suc n) test rows))
    by_test true more = (omega arith, more)
    by_test false more = rising_lower n (suc n) _ (omega arith) more

take_rises : (m n : ℕ) (ks : List ℕ) → Rising n ks → Rising n (take m ks)
take_rises zero n ks h = tt
take_rises (suc m) n [] h = tt
take_rises (suc m) n (k ∷ ks) h = (h.0, take_rises m (suc k) ks h.1)

-- the first of them is where the first row is that passes, and the others are left where that row is changed so that it passes no more
abbrev FirstOf : {A : Type 0} → ℕ → (A → Bool) → List A → Option ℕ → Type 0
FirstOf n test rows None = numbers_from n test rows ≡ []
FirstOf {A} n test rows (Some i) = (rest : List ℕ) × (numbers_from n test rows ≡ (n + i) ∷ rest)
    × ((f : A → A) → ((row : A) → test row ≡ true → test (f row) ≡ false) → numbers_from n test (change f rows i) ≡ rest)

next_place : (p n : ℕ) → cond (nat_lt (1 + p) (suc n)) (Some (1 + p)) None ≡ option_map suc (cond (nat_lt p n) (Some p) None)
next_place p n = by_test (nat_lt p n) (nat_lt (1 + p) (suc n)) same
  where
    same : nat_lt p n ≡ nat_lt (1 + p) (suc n)
    same = grind (arith, nat_tests)

    one_more : 1 + p ≡ suc p
    one_more = omega arith

    by_test : (t r : Bool) → t ≡ r → cond r (Some (1 + p)) None ≡ option_map suc (cond t (Some p) None)
    by_test true true h = ap Some one_more
    by_test false false h = refl
    by_test true false h = absurd (cc)
    by_test false true h = absurd (cc)

above : (left : ℕ) → nat_lt 0 (suc left) ≡ true
above left = grind (arith, nat_tests)

later_first : {A : Type 0} (n : ℕ) (test : A → Bool) (row : A) (rows : List A) (m : Option ℕ) → test row ≡ false → FirstOf (suc n) test rows m → FirstOf n test (row ∷ rows) (option_map suc m)
later_first n test row rows None is h = ap (λ t. in_front t n (numbers_from (suc n) test rows)) is ∙ h
later_first n test row rows (Some i) is h =
    let same : suc n + i ≡ n + suc i = omega arith in (
      h.0,
      ap (λ t. in_front t n (numbers_from (suc n) test rows)) is ∙ (h.1 ∙ ap (λ (k : ℕ). k ∷ h.0) same),
      (λ f w. ap (λ t. in_front t n (numbers_from (suc n) test (change f rows i))) is ∙ h.2 f w),
    )

pub first_number : {A : Type 0} (n : ℕ) (test : A → Bool) (rows : List A) → FirstOf n test rows (position test rows)
first_number n test [] = refl
first_number {A} n test (row ∷ rows) = by_test (test row) refl (first_number (suc n) test rows)
  where
    here : test row ≡ true → FirstOf n test (row ∷ rows) (Some 0)
    here is =
        let same : n ≡ n + 0 = omega arith in (
          numbers_from (suc n) test rows,
          ap (λ t. in_front t n (numbers_from (suc n) test rows)) is ∙ ap (λ (k : ℕ). k ∷ numbers_from (suc n) test rows) same,
          (λ f w. ap (λ t. in_front t n (numbers_from (suc n) test rows)) (w row is)),
        )

    by_test : (t : Bool) → test row ≡ t → FirstOf (suc n) test rows (position test rows) → FirstOf n test (row ∷ rows) (position test (row ∷ rows))
    by_test true is more =
        let found : position test (row ∷ rows) ≡ Some 0 = ap (λ t. cond (nat_lt (cond (not t) (1 + position_or_len test rows) 0) (suc (length rows))) (Some (cond (not t) (1 + position_or_len test rows) 0)) None) is ∙ ap (λ b. cond b (Some 0) None) (above (length rows)) in
        subst (FirstOf n test (row ∷ rows)) (sym found) (here is)
    by_test false is more =
        let found : position test (row ∷ rows) ≡ option_map suc (position test rows) =
        ap (λ t. cond (nat_lt (cond (not t) (1 + position_or_len test rows) 0) (suc (length rows))) (Some (cond (not t) (1 + position_or_len test rows) 0)) None) is ∙ next_place (position_or_len test rows) (length rows) in
        subst (FirstOf n test (row ∷ rows)) (sym found) (later_first n test row rows (position test rows) is more)

-- ---- how such a handler stands

-- that packet was handed, or has come back; it is among those that are handed next; or its adapter's stop is due
pub data Good (s : State) (a n k : ℕ) : Type 0 where
  Settled : at (settled a n) s.owner.packets k ≡ true → Good s a n k
  Behind : (left : ℕ) → s.next ≡ Free → s.owner.next ≡ nexts.Handing (record { 0 = a }) n left → is_in k (take left (numbers_from 0 (queued_of a) s.owner.packets)) ≡ true → Good s a n k
  Ending : IsEnding s a → Good s a n k

-- what is handed next
record Handing (s : State) (a n k : ℕ) : Type 0 where
  pub q : ℕ
  pub found : first_queued s.owner a ≡ Some q
  pub due : must s ≡ Some (Owes (Hands q))
  pub rest : (f : Packet → Packet) → ((p : Packet) → queued_of a p ≡ true → queued_of a (f p) ≡ false) → (q == k) ≡ false → (left : ℕ)
      → is_in k (take (suc left) (numbers_from 0 (queued_of a) s.owner.packets)) ≡ true → is_in k (take left (numbers_from 0 (queued_of a) (change f s.owner.packets q))) ≡ true

one_less : (left : ℕ) → suc left - 1 ≡ left
one_less left = omega arith

must_hand : (s : State) (a n left q : ℕ) → s.next ≡ Free → s.owner.next ≡ nexts.Handing (record { 0 = a }) n (suc left) → first_queued s.owner a ≡ Some q → must s ≡ Some (Owes (Hands q))
unfolding must
must_hand s a n left q free next found =
    let some : nat_lt 0 (suc left) ≡ true = above left in
    let owes : owner_must s.owner ≡ Some (Hands q) =
    ap (must_behind s.owner) next ∙ (ap (λ b. cond b (option_map (λ k. Hands k) (first_queued s.owner a)) None) some ∙ ap (λ m. option_map (λ k. Hands k) m) found) in
    ap (λ m. option_or (taken_first m) (option_or (option_map Owes (owner_must s.owner)) (next_must m))) free ∙ ap (λ m. option_or (option_map Owes m) None) owes

in_rest : (q k : ℕ) (rest : List ℕ) (left : ℕ) → (q == k) ≡ false → is_in k (take (suc left) (q ∷ rest)) ≡ true → is_in k (take left rest) ≡ true
in_rest q k rest left other is = elim (or_cases (q == k) (is_in k (take left rest)) is) [
  | inl here ↦ absurd (cc)
  | inr there ↦ there
]

handing : (s : State) (a n k left : ℕ) → s.next ≡ Free → s.owner.next ≡ nexts.Handing (record { 0 = a }) n (suc left)
    → is_in k (take (suc left) (numbers_from 0 (queued_of a) s.owner.packets)) ≡ true → Handing s a n k
handing s a n k left free next among = by_first (first_queued s.owner a) refl (first_number 0 (queued_of a) s.owner.packets)
  where
    by_first : (m : Option ℕ) → first_queued s.owner a ≡ m → FirstOf 0 (queued_of a) s.owner.packets m → Handing s a n k
    by_first None is none = let nothing = subst (λ (ks : List ℕ). is_in k (take (suc left) ks) ≡ true) none among in absurd (cc)
    by_first (Some q) is some = record {
      q = q;
      found = is;
      due = must_hand s a n left q free next is;
      rest = λ f w other m h.
          let same : 0 + q ≡ q = omega arith in
          let there : is_in k (take (suc m) (q ∷ some.0)) ≡ true = subst (λ (ks : List ℕ). is_in k (take (suc m) ks) ≡ true) (some.1 ∙ ap (λ (i : ℕ). i ∷ some.0) same) h in
          subst (λ (ks : List ℕ). is_in k (take m ks) ≡ true) (sym (some.2 f w)) (in_rest q k some.0 m other there);
    }

hands_it : (c : Inputs) (s : State) (e : Entry) (a n k left : ℕ) → s.next ≡ Free → s.owner.next ≡ nexts.Handing (record { 0 = a }) n (suc left)
    → is_in k (take (suc left) (numbers_from 0 (queued_of a) s.owner.packets)) ≡ true → (h : Handing s a n k) → serves s.owner (Hands h.q) e ≡ true → Good (after c s e) a n k
hands_it c s (entries.Hand p) a n k left free next among h is = by_number (h.q == k) refl
  where
    number : p.0 ≡ h.q
    number = eqb-true p.0 h.q is

    enter : enter_of s.owner.next ≡ n
    enter = ap enter_of next

    to_queue : (m : ℕ) (row : Packet) → queued_of a row ≡ true → queued_of a (handed m row) ≡ false
    to_queue m row queued = refl

    to_settled : (row : Packet) → queued_of a row ≡ true → settled a n (handed n row) ≡ true
    to_settled row queued = rw (true_both _ (row.adapter.0 == a) queued).1 (eq-eqb n n refl)

    by_number : (t : Bool) → (h.q == k) ≡ t → Good (after c s (entries.Hand p)) a n k
    by_number true same =
        let found : at (queued_of a) s.owner.packets h.q ≡ true = position_passes (queued_of a) s.owner.packets h.q h.found in
        let here : at (settled a n) (change (handed n) s.owner.packets h.q) h.q ≡ true = at_here (queued_of a) (settled a n) (handed n) s.owner.packets h.q to_settled found in
        let there : at (settled a n) (change (handed n) s.owner.packets p.0) k ≡ true =
        subst (λ (i : ℕ). at (settled a n) (change (handed n) s.owner.packets i) k ≡ true) (sym number)
        (subst (λ (i : ℕ). at (settled a n) (change (handed n) s.owner.packets h.q) i ≡ true) (eqb-true h.q k same) here) in
        Settled (subst (λ (m : ℕ). at (settled a n) (change (handed m) s.owner.packets p.0) k ≡ true) (sym enter) there)
    by_number false other =
        let more = h.rest (handed (enter_of s.owner.next)) (to_queue (enter_of s.owner.next)) other left among in
        Behind left (ap popped free) (ap handed_one next ∙ ap (λ (i : ℕ). nexts.Handing (record { 0 = a }) n i) (one_less left))
        (subst (λ (i : ℕ). is_in k (take left (numbers_from 0 (queued_of a) (change (handed (enter_of s.owner.next)) s.owner.packets i))) ≡ true) (sym number) more)
hands_it c s _ a n k left free next among h is = absurd (cc)

behind_step : (c : Inputs) (s : State) (e : Entry) (a n k left : ℕ) → s.next ≡ Free → s.owner.next ≡ nexts.Handing (record { 0 = a }) n left
    → is_in k (take left (numbers_from 0 (queued_of a) s.owner.packets)) ≡ true → Unfinished c s a → stops_it e a ≡ false → Meets c s e → Good (after c s e) a n k
behind_step c s e a n k zero free next among left other meets = absurd (cc)
behind_step c s e a n k (suc more) free next among left other meets =
    let h = handing s a n k more free next among in
    elim meets.turn [
      | inl turn ↦
          let served : (serves s.owner (Hands h.q) e && is_carried c s e) ≡ true = subst (λ (d : Option Due). MatchOption d (freely c s e ≡ true) (λ due. Serves c s due e)) h.due turn in
          hands_it c s e a n k more free next among h (true_both (serves s.owner (Hands h.q) e) _ served).0
      | inr breaks ↦ Ending (broken_in c s e a left other breaks)
    ]

good_step : (c : Inputs) (s : State) (e : Entry) (a n k : ℕ) → Standing c s → Unfinished c s a → is_left s.owner.next n ≡ false → stops_it e a ≡ false → Meets c s e → Good s a n k
    → Good (after c s e) a n k
good_step c s e a n k h unfinished left other meets (Settled is) = Settled (run_settled c s e a n k meets.owner left is)
good_step c s e a n k h unfinished left other meets (Behind more free next among) = behind_step c s e a n k more free next among unfinished other meets
good_step c s e a n k h unfinished left other meets (Ending is) = Ending (ending_step c s e a is.why is.ats is.next is.winds is.among h.next unfinished other meets)

-- ---- over a run

pub record Sending (s : State) (y a n k : ℕ) : Type 0 where
  pub opened : at (is_sending a n) s.owner.contexts y ≡ true
  pub among : is_in k (context_at s y).subject ≡ true

-- each packet of an open handler of a send, which are in rising order
pub record AllSend (s : State) : Type 0 where
  pub good : (y a n k : ℕ) → Sending s y a n k → Good s a n k
  pub rise : (y a n : ℕ) → at (is_sending a n) s.owner.contexts y ≡ true → Rising 0 (context_at s y).subject

set_subject : (P : List ℕ → Type 0) (cs : List Context) (x : ℕ) (z : Context) → (P [] → P z.subject) → P (subject_at (slice_set cs x z) x) → P z.subject
set_subject P [] x z w h = w h
set_subject P (y ∷ cs) zero z w h = h
set_subject P (y ∷ cs) (suc x) z w h = set_subject P cs x z w h

to_subject : (P : List ℕ → Type 0) (cs : List Context) (x : ℕ) (z : Context) → P [] → P z.subject → P (subject_at (slice_set cs x z) x)
to_subject P [] x z none h = none
to_subject P (y ∷ cs) zero z none h = h
to_subject P (y ∷ cs) (suc x) z none h = to_subject P cs x z none h

handing_next : (b : AdapterNo) (a m n left : ℕ) → (b.0 == a) ≡ true → (m == n) ≡ true → nexts.Handing b m left ≡ nexts.Handing (record { 0 = a }) n left
handing_next b a m n left same number =
    let at_a : b.0 ≡ a = eqb-true b.0 a same in
    let at_n : m ≡ n = eqb-true m n number in
    ap (λ (k : ℕ). nexts.Handing (record { 0 = k }) m left) at_a ∙ ap (λ (k : ℕ). nexts.Handing (record { 0 = a }) k left) at_n

send_entered : (c : Inputs) (s : State) (b : AdapterNo) (x : CtxNo) (h : Handler) (words : List ℕ) (writes : List Write) (a n k : ℕ) → is_send h ≡ true → (b.0 == a) ≡ true → (s.owner.enters == n) ≡ true
    → is_in k (subject_of s b.0 h words) ≡ true → Good (after c s (entries.Enter (Some b) x h words writes)) a n k
send_entered c s b x handler.Send words writes a n k send same number among =
    Behind 1 refl (handing_next b a s.owner.enters n 1 same number) (subst (λ (i : ℕ). is_in k (take 1 (numbers_from 0 (queued_of i) s.owner.packets)) ≡ true) (eqb-true b.0 a same) among)
send_entered c s b x handler.SendPackets words writes a n k send same number among =
    Behind (get_or words 2 0) refl (handing_next b a s.owner.enters n (get_or words 2 0) same number)
    (subst (λ (i : ℕ). is_in k (take (get_or words 2 0) (numbers_from 0 (queued_of i) s.owner.packets)) ≡ true) (eqb-true b.0 a same) among)
send_entered c s b x _ words writes a n k send same number among = absurd (cc)

subject_rises : (s : State) (a : ℕ) (h : Handler) (words : List ℕ) → is_send h ≡ true → Rising 0 (subject_of s a h words)
subject_rises s a handler.Send words send = take_rises 1 0 _ (numbers_rise 0 (queued_of a) s.owner.packets)
subject_rises s a handler.SendPackets words send = take_rises (count_in words) 0 _ (numbers_rise 0 (queued_of a) s.owner.packets)
subject_rises s a _ words send = absurd (cc)

-- the handler that is entered there
record IsEntered (s : State) (b : Option AdapterNo) (h : Handler) (a n : ℕ) : Type 0 where
  pub adapter : AdapterNo
  pub there : b ≡ Some adapter
  pub same : (adapter.0 == a) ≡ true
  pub send : is_send h ≡ true
  pub number : (s.owner.enters == n) ≡ true

is_entered : (c : Inputs) (s : State) (b : Option AdapterNo) (x : CtxNo) (h : Handler) (words : List ℕ) (writes : List Write) (a n : ℕ)
    → at (is_sending a n) (after c s (entries.Enter b x h words writes)).owner.contexts x.0 ≡ true → IsEntered s b h a n
is_entered c s None x h words writes a n opened = let is = set_at (is_sending a n) _ x.0 (kept_context.Open None h s.owner.enters None) opened in absurd (cc)
is_entered c s (Some b) x h words writes a n opened =
    let is : ((b.0 == a) && (is_send h && (s.owner.enters == n))) ≡ true = set_at (is_sending a n) _ x.0 (kept_context.Open (Some b) h s.owner.enters None) opened in
    let one = true_both (b.0 == a) _ is in
    let two = true_both (is_send h) (s.owner.enters == n) one.1 in
    record { adapter = b; there = refl; same = one.0; send = two.0; number = two.1 }

enter_new : (c : Inputs) (s : State) (b : Option AdapterNo) (x : CtxNo) (h : Handler) (words : List ℕ) (writes : List Write) (a n k : ℕ)
    → Sending (after c s (entries.Enter b x h words writes)) x.0 a n k → Good (after c s (entries.Enter b x h words writes)) a n k
enter_new c s None x h words writes a n k sending = let is = is_entered c s None x h words writes a n sending.opened in let there = is.there in absurd (cc)
enter_new c s (Some b) x h words writes a n k sending =
    let is = is_entered c s (Some b) x h words writes a n sending.opened in
    let own : is.adapter ≡ b = let there = is.there in cc in
    let same : (b.0 == a) ≡ true = subst (λ (d : AdapterNo). (d.0 == a) ≡ true) own is.same in
    send_entered c s b x h words writes a n k is.send same is.number
    (set_subject (λ ks. is_in k ks ≡ true) _ x.0 (begun c s b.0 x h words) (λ none. absurd (cc)) sending.among)

entered_good : (c : Inputs) (s : State) (e : Entry) (y a n k : ℕ) → enters_at e y ≡ true → Sending (after c s e) y a n k → Good (after c s e) a n k
entered_good c s (entries.Enter b x h words writes) y a n k is sending =
    enter_new c s b x h words writes a n k (subst (λ (i : ℕ). Sending (after c s (entries.Enter b x h words writes)) i a n k) (sym (eqb-true x.0 y is)) sending)
entered_good c s _ y a n k is sending = absurd (cc)

enter_rises : (c : Inputs) (s : State) (b : Option AdapterNo) (x : CtxNo) (h : Handler) (words : List ℕ) (writes : List Write) (a n : ℕ)
    → at (is_sending a n) (after c s (entries.Enter b x h words writes)).owner.contexts x.0 ≡ true → Rising 0 (context_at (after c s (entries.Enter b x h words writes)) x.0).subject
enter_rises c s b x h words writes a n opened =
    to_subject (Rising 0) _ x.0 (begun c s (number_in c b) x h words) tt
    (subject_rises s (number_in c b) h words (is_entered c s b x h words writes a n opened).send)

entered_rises : (c : Inputs) (s : State) (e : Entry) (y a n : ℕ) → enters_at e y ≡ true → at (is_sending a n) (after c s e).owner.contexts y ≡ true → Rising 0 (context_at (after c s e) y).subject
entered_rises c s (entries.Enter b x h words writes) y a n is opened =
    let t : State = after c s (entries.Enter b x h words writes) in
    subst (λ (i : ℕ). Rising 0 (context_at t i).subject) (eqb-true x.0 y is)
    (enter_rises c s b x h words writes a n (subst (λ (i : ℕ). at (is_sending a n) t.owner.contexts i ≡ true) (sym (eqb-true x.0 y is)) opened))
entered_rises c s _ y a n is opened = absurd (cc)

not_left : (o : Owner) (y a n : ℕ) → EachOnce o → at (is_sending a n) o.contexts y ≡ true → is_left o.next n ≡ false
not_left o y a n once opened = by_test (is_left o.next n) refl
  where
    by_test : (t : Bool) → is_left o.next n ≡ t → t ≡ false
    by_test true is = absurd (once.gone y a n is (at_more (is_sending a n) (runs_on a n) o.contexts y (sending_runs a n) opened))
    by_test false is = refl

send_step : (c : Inputs) (s : State) (e : Entry) → Standing c s → EachOnce s.owner → AllSend s → Meets c s e → AllSend (after c s e)
send_step c s e h once sends meets = record {
  good = λ y a n k sending. good_there y a n k sending (enters_at e y) refl;
  rise = λ y a n opened. rises y a n opened (enters_at e y) refl;
}
  where
    good_there : (y a n k : ℕ) → Sending (after c s e) y a n k → (t : Bool) → enters_at e y ≡ t → Good (after c s e) a n k
    good_there y a n k sending true is = entered_good c s e y a n k is sending
    good_there y a n k sending false is =
        let back = run_back c s e y is_send a n is sending.opened in
        let was : Sending s y a n k = record { opened = back.0; among = subst (λ (ks : List ℕ). is_in k ks ≡ true) (subject_kept c s e y is) sending.among } in
        good_step c s e a n k h (unfinished_there c s y is_send a n h.ones back.0) (not_left s.owner y a n once back.0) back.1 meets (sends.good y a n k was)

    rises : (y a n : ℕ) → at (is_sending a n) (after c s e).owner.contexts y ≡ true → (t : Bool) → enters_at e y ≡ t → Rising 0 (context_at (after c s e) y).subject
    rises y a n opened true is = entered_rises c s e y a n is opened
    rises y a n opened false is = subst (Rising 0) (sym (subject_kept c s e y is)) (sends.rise y a n (run_back c s e y is_send a n is opened).0)

pub record Sends (c : Inputs) (s : State) : Type 0 where
  pub standing : Standing c s
  pub once : EachOnce s.owner
  pub sends : AllSend s

pub sends_step : (c : Inputs) (s : State) (e : Entry) → Sends c s → Meets c s e → Sends c (after c s e)
sends_step c s e h meets = record { standing = standing_step c s e h.standing meets; once = once_after c s e h.once; sends = send_step c s e h.standing h.once h.sends meets }

pub sends_begun : (c : Inputs) → Sends c (start c)
sends_begun c = record {
  standing = standing_begun c;
  once = once_begun c;
  sends = record { good = λ y a n k sending. absurd (none_runs is_send a n 16 y sending.opened); rise = λ y a n opened. absurd (none_runs is_send a n 16 y opened) };
}

-- ---- a leave

-- each packet that the handler was entered for is settled
pub record Sent (s : State) (y : ℕ) : Type 0 where
  pub settled : (a n k : ℕ) → Sending s y a n k → at (settled a n) s.owner.packets k ≡ true
  pub rise : (a n : ℕ) → at (is_sending a n) s.owner.contexts y ≡ true → Rising 0 (context_at s y).subject

good_leaves : (c : Inputs) (s : State) (x : CtxNo) (eax a n k : ℕ) → Meets c s (entries.Leave x eax) → Good s a n k → at (settled a n) s.owner.packets k ≡ true
good_leaves c s x eax a n k meets (Settled is) = is
good_leaves c s x eax a n k meets (Behind zero free next among) = absurd (cc)
good_leaves c s x eax a n k meets (Behind (suc left) free next among) =
    let h = handing s a n k left free next among in
    elim meets.turn [
      | inl turn ↦
          let served : (serves s.owner (Hands h.q) (entries.Leave x eax) && is_carried c s (entries.Leave x eax)) ≡ true =
          subst (λ (d : Option Due). MatchOption d (freely c s (entries.Leave x eax) ≡ true) (λ due. Serves c s due (entries.Leave x eax))) h.due turn in
          absurd (cc)
      | inr breaks ↦ absurd (cc)
    ]
good_leaves c s x eax a n k meets (Ending is) = absurd (never_leaves c s x eax a meets is)

pub sent_leaves : (c : Inputs) (s : State) (x : CtxNo) (eax : ℕ) → AllSend s → Meets c s (entries.Leave x eax) → Sent s x.0
sent_leaves c s x eax sends meets = record { settled = λ a n k sending. good_leaves c s x eax a n k meets (sends.good x.0 a n k sending); rise = sends.rise x.0 }
