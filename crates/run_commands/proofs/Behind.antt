-- What the owner machine asks for behind a command, and what ends it.
use Rattle.std.proofs.Common.{◌≡◌, ◌≢◌, ℕ, zero, suc, ◌+◌, ◌≤◌, Bool, true, false, ◌&&◌, ◌||◌, ◌==◌, cond, List, [], ◌∷◌, ◌++◌, length, Option, Some, None, inl, refl, sym, ap, ◌∙◌, subst, arith}
use Rattle.std.specs.Prelude.{count_by, nat_le, slice_get, sum_by}
use Rattle.std.specs.List.{list_any, position}
use Rattle.std.specs.Option.{MatchOption, option_map, option_map_or, option_or}
use Rattle.std.proofs.lemmas.List.Folds.{list_any-append}
use Rattle.std.proofs.lemmas.List.Quantifiers.{position-Some}
use Rattle.std.proofs.lemmas.List.Sums.{sum_by-append}
use Rattle.std.proofs.lemmas.Option.{slice_get-get_or}
use Rattle.nd_base.specs.declared.numbers.BindingNo.{BindingNo}
use Rattle.nd_base.specs.declared.numbers.Phase.{Phase}
use Rattle.nd_base.specs.declared.numbers.Phase.TheVariants as phases
use Rattle.nd_base.specs.declared.numbers.RequestNo.{RequestNo}
use Rattle.log_fields.specs.declared.field_values.Question.{Question}
use Rattle.log_fields.specs.declared.field_values.Question.TheVariants.{Query, Set}
use Rattle.call_log.specs.declared.entry.Entry.{Entry}
use Rattle.call_log.specs.declared.entry.Entry.TheVariants as entries
use Rattle.owner_machine.specs.declared.rows.Packet.{Packet}
use Rattle.owner_machine.specs.declared.rows.Place.TheVariants as places
use Rattle.owner_machine.specs.declared.rows.Request.{Request}
use Rattle.owner_machine.specs.declared.rows.Next.{Next as OwnerNext}
use Rattle.owner_machine.specs.declared.rows.Next.TheVariants as nexts
use Rattle.owner_machine.specs.State.{Owner, at, change, closing, is_resetting, phase_is, request_aborted, reset_in_progress, invalid_length, invalid_data}
use Rattle.owner_machine.specs.Packets.{behind_complete, behind_verdict, completed, has_verdict, in_slot, is_ending, is_queue, is_refused, may_end, packet_adapter, queued_with_id, slot_of}
use Rattle.owner_machine.specs.Requests.{has_data, has_length, is_turned_away, may_end_ask, phase_of, refusal, refused_with, wrong}
use Rattle.owner_machine.specs.Machine.{ends_with, has_case, last_rule, rule_against}
use Rattle.owner_machine.specs.Must.{Answers, Completes, must_behind, owner_must, refused_ask, refused_packet, send_refusal, serves}
use Rattle.owner_machine.specs.Must as owners
use Rattle.legal_run.specs.State.{Inputs, State, Next, Free, Takes, Verdicts, Spinning, Makes, Stops}
use Rattle.legal_run.specs.After.{popped}
use Rattle.legal_run.specs.Must.{Due, Owes, Serves, is_carried, must, next_must, taken_first}
use Rattle.legal_run.specs.Run.{Meets, freely, is_memory_stop}
use Rattle.run_commands.specs.Commands.{IsCalm, status_due}

-- ---- where nothing must stand

none_left : {A : Type 0} (x y : Option A) → option_or x y ≡ None → x ≡ None
none_left None y h = refl
none_left (Some x) y h = h

none_right : {A : Type 0} (x y : Option A) → option_or x y ≡ None → y ≡ None
none_right None y h = h
none_right (Some x) y h = cc

none_mapped : {A B : Type 0} (f : A → B) (x : Option A) → option_map f x ≡ None → x ≡ None
none_mapped f None h = refl
none_mapped f (Some x) h = cc

pub calm : (s : State) → must s ≡ None → IsCalm s.next
unfolding must
calm s h = (none_left _ _ h, none_right _ _ (none_right _ _ h))

pub silent : (s : State) → must s ≡ None → owner_must s.owner ≡ None
unfolding must
silent s h = none_mapped Owes (owner_must s.owner) (none_left _ _ (none_right _ _ h))

pub must_is : (s : State) → IsCalm s.next → must s ≡ option_map Owes (owner_must s.owner)
unfolding must
must_is s h = ap (λ (t : Option Due). option_or t (option_or (option_map Owes (owner_must s.owner)) (next_must s.next))) h.0 ∙ by (option_map Owes (owner_must s.owner)) (next_must s.next) h.1
  where
    by : (x y : Option Due) → y ≡ None → option_or x y ≡ x
    by None y h = h
    by (Some d) y h = refl

-- what a command leaves of it
pub still_calm : (n : Next) → IsCalm n → IsCalm (popped n)
still_calm n h = by n h.0 h.1
  where
    by : (n : Next) → taken_first n ≡ None → next_must n ≡ None → IsCalm (popped n)
    by Free one two = (refl, refl)
    by (Takes e) one two = absurd (cc)
    by (Verdicts []) one two = (refl, refl)
    by (Verdicts (e ∷ es)) one two = absurd (cc)
    by (Spinning x lock) one two = absurd (cc)
    by (Makes x [] lent) one two = absurd (cc)
    by (Makes x (e ∷ es) lent) one two = absurd (cc)
    by (Stops why []) one two = (refl, refl)
    by (Stops why (a ∷ ats)) one two = absurd (cc)

-- ---- what serves a duty of the owner machine may stand

both : (x y : Bool) → x ≡ true → y ≡ true → (x && y) ≡ true
both true y one other = other
both false y one other = one

unruled : (o : Owner) (d : owners.Due) (e : Entry) → owner_must o ≡ Some d → serves o d e ≡ true → has_case o e ≡ true → last_rule o e ≡ None → rule_against o e ≡ None
unruled o d e due serve case last = rw (due, serve, case) last

pub owed_meets : (c : Inputs) (s : State) (d : owners.Due) (e : Entry) → IsCalm s.next → owner_must s.owner ≡ Some d → serves s.owner d e ≡ true → is_carried c s e ≡ true → has_case s.owner e ≡ true → last_rule s.owner e ≡ None
    → Meets c s e
owed_meets c s d e quiet due serve carried case last =
    let is : must s ≡ Some (Owes d) = must_is s quiet ∙ ap (option_map Owes) due in
    record {
      owner = unruled s.owner d e due serve case last;
      turn = inl (subst (λ (x : Option Due). MatchOption x (freely c s e ≡ true) (λ y. Serves c s y e)) (sym is) (both _ _ serve carried));
    }

-- ---- memory

neither : (a b : Bool) → a ≡ false → b ≡ false → (a || b) ≡ false
neither true b h k = h
neither false b h k = k

pub none_in_both : (es more : List Entry) → list_any is_memory_stop es ≡ false → list_any is_memory_stop more ≡ false → list_any is_memory_stop (es ++ more) ≡ false
none_in_both es more h k = list_any-append is_memory_stop es more ∙ neither (list_any is_memory_stop es) (list_any is_memory_stop more) h k

pub none_in_front : (e : Entry) (es : List Entry) → is_memory_stop e ≡ false → list_any is_memory_stop es ≡ false → list_any is_memory_stop (e ∷ es) ≡ false
none_in_front e es h k = neither (is_memory_stop e) (list_any is_memory_stop es) h k

-- ---- questions that are refused

-- a status that ends something, and not with success
abbrev pub IsRefusing : ℕ → Type 0
IsRefusing status = (ends_with status ≡ None) × (status ≢ 0)

same_status : (a b : ℕ) → Some a ≡ Some b → IsRefusing a → IsRefusing b
same_status a b same h = let is : a ≡ b = cc in subst IsRefusing is h

wrong_refuses : (question : Question) (status : ℕ) → wrong question ≡ Some status → IsRefusing status
wrong_refuses (Query oid n) status h = by (nat_le n 4096) h
  where
    by : (b : Bool) → cond b None (Some invalid_length) ≡ Some status → IsRefusing status
    by true h = absurd (cc)
    by false h = same_status invalid_length status h (refl, λ same. absurd (omega (arith, same)))
wrong_refuses (Set oid bytes) status h = by (has_length oid (length bytes)) (has_data oid bytes) h
  where
    by : (a b : Bool) → cond a (cond b None (Some invalid_data)) (Some invalid_length) ≡ Some status → IsRefusing status
    by true true h = absurd (cc)
    by true false h = same_status invalid_data status h (refl, λ same. absurd (omega (arith, same)))
    by false b h = same_status invalid_length status h (refl, λ same. absurd (omega (arith, same)))

refusal_refuses : (phase : Option Phase) (question : Question) (status : ℕ) → refusal phase question ≡ Some status → IsRefusing status
refusal_refuses (Some phases.Running) question status h = wrong_refuses question status h
refusal_refuses (Some phases.Resetting) question status h = same_status reset_in_progress status h (refl, λ same. absurd (omega (arith, same)))
refusal_refuses (Some phases.Starting) question status h = same_status closing status h (refl, λ same. absurd (omega (arith, same)))
refusal_refuses (Some phases.Halting) question status h = same_status closing status h (refl, λ same. absurd (omega (arith, same)))
refusal_refuses (Some phases.Off) question status h = same_status closing status h (refl, λ same. absurd (omega (arith, same)))
refusal_refuses (Some phases.Stopped) question status h = same_status closing status h (refl, λ same. absurd (omega (arith, same)))
refusal_refuses None question status h = same_status closing status h (refl, λ same. absurd (omega (arith, same)))

-- the request was asked where it can't be, and this status answers it
pub record IsRefused (o : Owner) (asked r status : ℕ) : Type 0 where
  pub same : asked ≡ r
  pub turned : at (λ q. is_turned_away q.place) o.requests r ≡ true
  pub refusing : IsRefusing status

abbrev refused_row : Owner → ℕ → Option Request → Option owners.Due
refused_row o r q = option_map_or (λ q. cond (is_turned_away q.place) (option_map (λ status. Answers r status) (refused_with o q.adapter.0 q.question)) None) q None

answers_of : (n m r status : ℕ) → Some (Answers n m) ≡ Some (Answers r status) → (n ≡ r) × (m ≡ status)
answers_of n m r status h = (ap number (sym (sym h)), ap word h)
  where
    number : Option owners.Due → ℕ
    number (Some (Answers r status)) = r
    number _ = 0

    word : Option owners.Due → ℕ
    word (Some (Answers r status)) = status
    word _ = 0

pub refused_ask_is : (o : Owner) (asked r status : ℕ) → refused_ask o asked ≡ Some (Answers r status) → IsRefused o asked r status
refused_ask_is o asked r status h = by (slice_get o.requests asked) refl h
  where
    inner : (q : Request) (b : Bool) (x : Option ℕ) → slice_get o.requests asked ≡ Some q → is_turned_away q.place ≡ b → refused_with o q.adapter.0 q.question ≡ x
        → cond b (option_map (λ status. Answers asked status) x) None ≡ Some (Answers r status) → IsRefused o asked r status
    inner q false x got is has h = absurd (cc)
    inner q true None got is has h = absurd (cc)
    inner q true (Some other) got is has h =
        let (one, two) = answers_of asked other r status h in
        record {
          same = one;
          turned = subst (λ n. at (λ (q : Request). is_turned_away q.place) o.requests n ≡ true) one (ap (λ (x : Option Request). option_map_or (λ q. is_turned_away q.place) x false) got ∙ is);
          refusing = subst IsRefusing two (refusal_refuses (phase_of o q.adapter.0) q.question other has);
        }

    by : (q : Option Request) → slice_get o.requests asked ≡ q → refused_row o asked q ≡ Some (Answers r status) → IsRefused o asked r status
    by None got h = absurd (cc)
    by (Some q) got h = inner q (is_turned_away q.place) (refused_with o q.adapter.0 q.question) got refl refl h

-- nothing but such an answer is asked for behind a question
pub answers_alone : (o : Owner) (asked : ℕ) (d : owners.Due) → refused_ask o asked ≡ Some d → (status : ℕ) × (d ≡ Answers asked status)
answers_alone o asked d h = by (slice_get o.requests asked) h
  where
    inner : (b : Bool) (x : Option ℕ) → cond b (option_map (λ status. Answers asked status) x) None ≡ Some d → (status : ℕ) × (d ≡ Answers asked status)
    inner false x h = absurd (cc)
    inner true None h = absurd (cc)
    inner true (Some other) h = (other, cc)

    by : (q : Option Request) → refused_row o asked q ≡ Some d → (status : ℕ) × (d ≡ Answers asked status)
    by None h = absurd (cc)
    by (Some q) h = inner (is_turned_away q.place) (refused_with o q.adapter.0 q.question) h

pub ask_due : (o : Owner) (asked : RequestNo) → o.next ≡ nexts.Asked asked → owner_must o ≡ option_map (λ status. Answers asked.0 status) (status_due (owner_must o))
ask_due o asked last = by (owner_must o) (sym (ap (must_behind o) last))
  where
    by : (d : Option owners.Due) → refused_ask o asked.0 ≡ d → d ≡ option_map (λ status. Answers asked.0 status) (status_due d)
    by None is = refl
    by (Some d) is = let (status, same) = answers_alone o asked.0 d is in subst (λ (x : owners.Due). Some x ≡ option_map (λ status. Answers asked.0 status) (status_due (Some x))) (sym same) refl

same_number : (k : ℕ) → (k == k) ≡ true
same_number k = grind arith

or_first : (a b : Bool) → a ≡ true → (a || b) ≡ true
or_first true b h = refl
or_first false b h = absurd (cc)

or_third : (a b c d : Bool) → c ≡ true → (a || (b || (c || d))) ≡ true
or_third true b c d h = refl
or_third false true c d h = refl
or_third false false true d h = refl
or_third false false false d h = absurd (cc)

may_be_answered : (o : Owner) (r : ℕ) → at (λ q. is_turned_away q.place) o.requests r ≡ true → at (may_end_ask o) o.requests r ≡ true
may_be_answered o r h = by (slice_get o.requests r) h
  where
    by : (q : Option Request) → option_map_or (λ q. is_turned_away q.place) q false ≡ true → option_map_or (may_end_ask o) q false ≡ true
    by None h = absurd (cc)
    by (Some q) h = or_third _ _ _ _ h

pub refusal_meets : (c : Inputs) (s : State) (asked : RequestNo) (r status : ℕ) → IsCalm s.next → s.owner.next ≡ nexts.Asked asked → owner_must s.owner ≡ Some (Answers r status)
    → Meets c s (entries.Answer (record { 0 = r }) (record { 0 = status }) []) × IsRefusing status
refusal_meets c s asked r status quiet last due =
    let refused = refused_ask_is s.owner asked.0 r status (sym (ap (must_behind s.owner) last) ∙ due) in
    let serve : serves s.owner (Answers r status) (entries.Answer (record { 0 = r }) (record { 0 = status }) []) ≡ true = both _ _ (same_number r) (both _ _ (same_number status) refl) in
    (owed_meets c s (Answers r status) _ quiet due serve refl (may_be_answered s.owner r refused.turned) refused.refusing.0, refused.refusing)

-- ---- packets that are refused

-- the row of a number that passes one test passes another
at_too : {A : Type 0} (p q : A → Bool) (rows : List A) (k : ℕ) → ((row : A) → p row ≡ true → q row ≡ true) → at p rows k ≡ true → at q rows k ≡ true
at_too p q rows k more h = by (slice_get rows k) h
  where
    by : (row : Option _) → option_map_or p row false ≡ true → option_map_or q row false ≡ true
    by None h = absurd (cc)
    by (Some row) h = more row h

at_none : {A : Type 0} (p : A → Bool) (rows : List A) (k : ℕ) → ((row : A) → p row ≡ false) → at p rows k ≡ false
at_none p rows k none = by (slice_get rows k)
  where
    by : (row : Option _) → option_map_or p row false ≡ false
    by None = refl
    by (Some row) = none row

-- nothing but the refusal's completion is asked for behind a send
pub completes_alone : (o : Owner) (fresh : Bool) (k : ℕ) (d : owners.Due) → refused_packet o fresh k ≡ Some d
    → (at (λ p. is_refused p.place) o.packets k ≡ true) × (d ≡ Completes fresh k (send_refusal o (packet_adapter o k)))
completes_alone o fresh k d h = by (at (λ p. is_refused p.place) o.packets k) refl h
  where
    by : (b : Bool) → at (λ p. is_refused p.place) o.packets k ≡ b → cond b (Some (Completes fresh k (send_refusal o (packet_adapter o k)))) None ≡ Some d
        → (at (λ p. is_refused p.place) o.packets k ≡ true) × (d ≡ Completes fresh k (send_refusal o (packet_adapter o k)))
    by true is h = (is, cc)
    by false is h = absurd (cc)

pub send_due : (o : Owner) (fresh : Bool) (k : ℕ) → owner_must o ≡ refused_packet o fresh k → owner_must o ≡ option_map (λ status. Completes fresh k status) (status_due (owner_must o))
send_due o fresh k last = by (owner_must o) (sym last)
  where
    by : (d : Option owners.Due) → refused_packet o fresh k ≡ d → d ≡ option_map (λ status. Completes fresh k status) (status_due d)
    by None is = refl
    by (Some d) is = let (refused, same) = completes_alone o fresh k d is in subst (λ (x : owners.Due). Some x ≡ option_map (λ status. Completes fresh k status) (status_due (Some x))) (sym same) refl

refusal_ends : (o : Owner) (a : ℕ) → ends_with (send_refusal o a) ≡ None
refusal_ends o a = by (phase_is is_resetting o a)
  where
    by : (b : Bool) → ends_with (cond b reset_in_progress closing) ≡ None
    by true = refl
    by false = refl

or_second : (a b c : Bool) → b ≡ true → (a || (b || c)) ≡ true
or_second true b c h = refl
or_second false true c h = refl
or_second false false c h = absurd (cc)

pub send_meets : (c : Inputs) (s : State) (fresh : Bool) (k status : ℕ) → IsCalm s.next → owner_must s.owner ≡ refused_packet s.owner fresh k → owner_must s.owner ≡ Some (Completes fresh k status)
    → Meets c s (entries.Complete (record { 0 = k }) (record { 0 = status }))
send_meets c s fresh k status quiet last due =
    let (refused, is) = completes_alone s.owner fresh k _ (sym last ∙ due) in
    let told : status ≡ send_refusal s.owner (packet_adapter s.owner k) = ap word is in
    let serve : serves s.owner (Completes fresh k status) (entries.Complete (record { 0 = k }) (record { 0 = status })) ≡ true = both _ _ (same_number k) (same_number status) in
    owed_meets c s (Completes fresh k status) _ quiet due serve refl (at_too (λ p. is_refused p.place) (may_end s.owner k) s.owner.packets k (λ p h. or_second _ _ _ h) refused)
    (ap ends_with told ∙ refusal_ends s.owner (packet_adapter s.owner k))
  where
    word : owners.Due → ℕ
    word (Completes fresh k status) = status
    word _ = 0

-- behind such a completion nothing is asked for
pub behind_refusal : (o : Owner) (k : ℕ) (n : OwnerNext) → o.next ≡ n → ((p : Packet) → (has_verdict n k p || is_ending n p) ≡ false) → behind_complete o k ≡ nexts.Free
behind_refusal o k n last none =
    ap (λ (m : OwnerNext). cond (at (λ p. has_verdict m k p || is_ending m p) o.packets k) (behind_verdict m k) nexts.Free) last
    ∙ ap (λ (t : Bool). cond t (behind_verdict n k) nexts.Free) (at_none (λ p. has_verdict n k p || is_ending n p) o.packets k none)

-- ---- packets that are cancelled

sum_cons : {A : Type 0} (f : A → ℕ) (x : A) (xs : List A) → sum_by f (x ∷ xs) ≡ f x + sum_by f xs
sum_cons f x xs = let parts = sum_by-append f (x ∷ []) xs in omega (arith, parts)

abbrev weight : Bool → ℕ
weight b = cond b 1 0

count_cons : {A : Type 0} (p : A → Bool) (x : A) (xs : List A) → count_by p (x ∷ xs) ≡ weight (p x) + count_by p xs
count_cons p x xs = sum_cons (λ y. weight (p y)) x xs

-- a row that passed, and does no more
falls_by_one : {A : Type 0} (p : A → Bool) (f : A → A) (rows : List A) (k : ℕ) → ((row : A) → p (f row) ≡ false) → at p rows k ≡ true → count_by p (change f rows k) + 1 ≡ count_by p rows
falls_by_one p f [] k none h = absurd (cc)
falls_by_one p f (row ∷ rows) zero none h =
    let one = count_cons p (f row) rows in
    let gone = ap weight (none row) in
    let two = count_cons p row rows in
    let was = ap weight h in
    omega (arith, one, gone, two, was)
falls_by_one p f (row ∷ rows) (suc k) none h =
    let rest = falls_by_one p f rows k none h in
    let one = count_cons p row (change f rows k) in
    let two = count_cons p row rows in
    omega (arith, rest, one, two)

count_less : {A : Type 0} (p q : A → Bool) (rows : List A) → ((row : A) → p row ≡ true → q row ≡ true) → count_by p rows ≤ count_by q rows
count_less p q [] more = omega arith
count_less p q (row ∷ rows) more =
    let rest = count_less p q rows more in
    let one = count_cons p row rows in
    let two = count_cons q row rows in
    let here = by (p row) (q row) (more row) in
    omega (arith, rest, one, two, here)
  where
    by : (a b : Bool) → (a ≡ true → b ≡ true) → weight a ≤ weight b
    by false false h = omega arith
    by false true h = omega arith
    by true true h = omega arith
    by true false h = let no = h refl in absurd (cc)

and_first : (a b : Bool) → a && b ≡ true → a ≡ true
and_first true b h = refl
and_first false b h = h

and_second : (a b : Bool) → a && b ≡ true → b ≡ true
and_second true b h = h
and_second false b h = absurd (cc)

-- what a cancel ends lies in send slots of its driver
pub queued_in_slots : (o : Owner) (b id : ℕ) → count_by (queued_with_id b id) o.packets ≤ count_by (slot_of b) o.packets
queued_in_slots o b id = count_less (queued_with_id b id) (slot_of b) o.packets by
  where
    slot : (place : _) → is_queue place ≡ true → in_slot place ≡ true
    slot places.Queue h = refl
    slot places.Miniport h = refl
    slot places.Done h = absurd (cc)
    slot places.Aborted h = refl
    slot places.Refused h = refl

    by : (p : Packet) → queued_with_id b id p ≡ true → slot_of b p ≡ true
    by p h = both _ _ (slot p.place (and_first (is_queue p.place) _ h)) (and_first (p.driver.0 == b) (p.id == id) (and_second (is_queue p.place) _ h))

no_packet : Packet
no_packet = record { driver = record { 0 = 0 }; adapter = record { 0 = 0 }; place = places.Done; id = 0; hand = 0 }

pub first_queued_with : (o : Owner) (b id k : ℕ) → position (queued_with_id b id) o.packets ≡ Some k → at (queued_with_id b id) o.packets k ≡ true
first_queued_with o b id k found = let there = position-Some (queued_with_id b id) o.packets k no_packet found in ap (λ (x : Option Packet). option_map_or (queued_with_id b id) x false) (slice_get-get_or o.packets k no_packet there.0) ∙ there.1

pub cancel_meets : (c : Inputs) (s : State) (driver : BindingNo) (id k : ℕ) → IsCalm s.next → s.owner.next ≡ nexts.Cancelling driver id → position (queued_with_id driver.0 id) s.owner.packets ≡ Some k
    → Meets c s (entries.Complete (record { 0 = k }) (record { 0 = request_aborted }))
cancel_meets c s driver id k quiet last found =
    let o = s.owner in
    let due : owner_must o ≡ Some (Completes false k request_aborted) = ap (must_behind o) last ∙ ap (option_map (λ k. Completes false k request_aborted)) found in
    let serve : serves o (Completes false k request_aborted) (entries.Complete (record { 0 = k }) (record { 0 = request_aborted })) ≡ true = both _ _ (same_number k) refl in
    owed_meets c s (Completes false k request_aborted) _ quiet due serve refl
    (at_too (queued_with_id driver.0 id) (may_end o k) o.packets k (λ p h. or_first _ _ (ap (λ (n : OwnerNext). is_ending n p) last ∙ h)) (first_queued_with o driver.0 id k found)) refl

pub still_cancelling : (o : Owner) (driver : BindingNo) (id k : ℕ) → o.next ≡ nexts.Cancelling driver id → at (queued_with_id driver.0 id) o.packets k ≡ true → behind_complete o k ≡ nexts.Cancelling driver id
still_cancelling o driver id k last is =
    ap (λ (n : OwnerNext). cond (at (λ p. has_verdict n k p || is_ending n p) o.packets k) (behind_verdict n k) nexts.Free) last ∙ ap (λ (t : Bool). cond t (nexts.Cancelling driver id) nexts.Free) is

pub one_less : (o : Owner) (driver : BindingNo) (id k : ℕ) → o.next ≡ nexts.Cancelling driver id → at (queued_with_id driver.0 id) o.packets k ≡ true
    → count_by (queued_with_id driver.0 id) (change (completed o.next) o.packets k) + 1 ≡ count_by (queued_with_id driver.0 id) o.packets
one_less o driver id k last is =
    ap (λ (n : OwnerNext). count_by (queued_with_id driver.0 id) (change (completed n) o.packets k) + 1) last ∙ falls_by_one (queued_with_id driver.0 id) (completed (nexts.Cancelling driver id)) o.packets k (λ p. refl) is
