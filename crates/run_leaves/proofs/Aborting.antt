-- Packets that the end of a reset aborts.
use Rattle.std.proofs.Common.{◌≡◌, ℕ, ◌<◌, Bool, true, false, ◌||◌, ◌==◌, cond, [], ◌∷◌, Option, Some, None, refl, sym, ap, ◌∙◌, subst, arith}
use Rattle.std.specs.List.{list_any, position}
use Rattle.std.specs.Option.{option_map, option_or}
use Rattle.nd_base.specs.declared.numbers.AdapterNo.{AdapterNo}
use Rattle.call_log.specs.declared.entry.Entry.{Entry}
use Rattle.call_log.specs.declared.entry.Entry.TheVariants as entries
use Rattle.owner_machine.specs.declared.rows.Packet.{Packet}
use Rattle.owner_machine.specs.declared.rows.Place.TheVariants as places
use Rattle.owner_machine.specs.declared.rows.Next.{Next as OwnerNext}
use Rattle.owner_machine.specs.declared.rows.Next.TheVariants as nexts
use Rattle.owner_machine.specs.State.{Owner, at, change, request_aborted, stands}
use Rattle.owner_machine.specs.Packets.{behind_complete, behind_verdict, completed, has_verdict, held_of, is_ending, is_out}
use Rattle.owner_machine.specs.Must.{Completes, must_behind, owner_must, serves}
use Rattle.owner_machine.specs.Must as owners
use Rattle.legal_run.specs.State.{Inputs, State, Next, Verdicts}
use Rattle.legal_run.specs.After.{popped}
use Rattle.legal_run.specs.EntryLaws.{GoesOn}
use Rattle.legal_run.specs.Must.{Due, Owes, Exactly, ReplyOf, Serves, must, next_must, taken_first}
use Rattle.legal_run.specs.Run.{Meets, is_memory_stop}
use Rattle.run_duties.specs.Laws.{ServedLaws}
use Rattle.run_moves.specs.Runs.{Grows}
use Rattle.run_moves.specs.declared.running.Running.{Running}
use Rattle.run_stops.specs.Standing.{Lengthens, MovesAdd, point_of, state_of}
use Rattle.run_stops.specs.Stopping.{owner_of}
use Rattle.run_leaves.specs.Leaving.{AbortsOne, IsAborting, WritesOn}
use Rattle.run_leaves.proofs.Rows.{and_first, and_second, first_passes, room_falls, room_for_one}
use Rattle.run_leaves.proofs.Writing.{still_fed}

no_packet : Packet
no_packet = record { driver = record { 0 = 0 }; adapter = record { 0 = 0 }; place = places.Done; id = 0; hand = 0 }

held_at : (c : Inputs) (a : AdapterNo) (k : ℕ) (r : Running) → position (held_of a.0) (owner_of c r).packets ≡ Some k → at (held_of a.0) (owner_of c r).packets k ≡ true
held_at c a k r found = first_passes (held_of a.0) (owner_of c r).packets no_packet k found

-- ---- what must stand

pub aborts_by : (c : Inputs) (a : AdapterNo) (k : Option ℕ) (r : Running) → IsAborting c a r → position (held_of a.0) (owner_of c r).packets ≡ k → owner_must (owner_of c r) ≡ option_map (λ k. Completes false k request_aborted) k
aborts_by c a k r aborting found = ap (must_behind (owner_of c r)) aborting.behind ∙ ap (option_map (λ k. Completes false k request_aborted)) found

must_abort : (s : State) (due : owners.Due) → s.next ≡ Verdicts [] → owner_must s.owner ≡ Some due → must s ≡ Some (Owes due)
unfolding must
must_abort s due next is =
    ap (λ (n : Next). option_or (taken_first n) (option_or (option_map Owes (owner_must s.owner)) (next_must n))) next ∙ ap (λ (d : Option owners.Due). option_or (option_map Owes d) None) is

is_owed : (a b : owners.Due) → Some (Owes a) ≡ Some (Owes b) → a ≡ b
is_owed a b h = by (Some (Owes b)) h
  where
    due_in : owners.Due → Option Due → owners.Due
    due_in other (Some (Owes d)) = d
    due_in other _ = other

    by : (o : Option Due) → Some (Owes a) ≡ o → a ≡ due_in a o
    by o same = ap (due_in a) same

equal : (m n : ℕ) → (m == n) ≡ true → m ≡ n
equal m n h = grind (arith, h)

-- the one entry that serves it
completion : (o : Owner) (k status : ℕ) (e : Entry) → serves o (Completes false k status) e ≡ true → e ≡ entries.Complete (record { 0 = k }) (record { 0 = status })
completion o k status (entries.Complete packet other) h =
    let one : packet.0 ≡ k = equal packet.0 k (and_first (packet.0 == k) (other.0 == status) h) in
    let two : other.0 ≡ status = equal other.0 status (and_second (packet.0 == k) (other.0 == status) h) in
    ap (λ (n : ℕ). entries.Complete (record { 0 = n }) other) one ∙ ap (λ (n : ℕ). entries.Complete (record { 0 = k }) (record { 0 = n })) two
completion o k status _ h = absurd (cc)

stands_by : (c : Inputs) (s : State) (d : owners.Due) (e : Entry) → must s ≡ Some (Owes d) → ((f : Entry) → serves s.owner d f ≡ true → f ≡ e) → GoesOn c s → Meets c s e
stands_by c s d e is only on = subst (Meets c s) (only on.entry (by on.asked.due (sym on.asked.must ∙ is) on.asked.serves)) on.meets
  where
    by : (due : Due) → Some due ≡ Some (Owes d) → Serves c s due on.entry → serves s.owner d on.entry ≡ true
    by (Owes other) same h = ap (λ (x : owners.Due). serves s.owner x on.entry) (sym (is_owed other d same)) ∙ and_first _ _ h
    by (Exactly f) same h = absurd (cc)
    by (ReplyOf x) same h = absurd (cc)

pub abort_may : ServedLaws → (c : Inputs) (a : AdapterNo) (k : ℕ) (r : Running) → IsAborting c a r → position (held_of a.0) (owner_of c r).packets ≡ Some k
    → Meets c (state_of c r) (entries.Complete (record { 0 = k }) (record { 0 = request_aborted })) × (0 < r.log.spare)
abort_may laws c a k r aborting found =
    let is = must_abort (state_of c r) (Completes false k request_aborted) aborting.next (aborts_by c a (Some k) r aborting found) in
    let some = room_for_one (owner_of c r) a.0 aborting.standing in
    let room = aborting.room in
    (stands_by c (state_of c r) (Completes false k request_aborted) _ is (completion (owner_of c r) k request_aborted) (laws.each c r.log.entries (Owes (Completes false k request_aborted)) aborting.runs.reaches.run is), omega (arith, some, room))

-- ---- one entry

goes_on : (o : Owner) (a : AdapterNo) (k : ℕ) → o.next ≡ nexts.Aborting a → at (held_of a.0) o.packets k ≡ true → behind_complete o k ≡ nexts.Aborting a
goes_on o a k behind is = ap (λ (n : OwnerNext). cond (at (λ p. has_verdict n k p || is_ending n p) o.packets k) (behind_verdict n k) nexts.Free) behind ∙ ap (λ (b : Bool). cond b (nexts.Aborting a) nexts.Free) is

out_no_more : (a : AdapterNo) (p : Packet) → is_out (completed (nexts.Aborting a) p).place ≡ false
out_no_more a p = by (held_of a.0 p)
  where
    by : (b : Bool) → is_out (cond b places.Aborted places.Done) ≡ false
    by true = refl
    by false = refl

pub aborted : MovesAdd → (c : Inputs) (a : AdapterNo) (k : ℕ) (before r : Running) → IsAborting c a before → position (held_of a.0) (owner_of c before).packets ≡ Some k
    → Grows (point_of c before) (entries.Complete (record { 0 = k }) (record { 0 = request_aborted })) before r → AbortsOne c a before r
aborted moves c a k before r aborting found grown =
    let o = owner_of c before in
    let added = moves c _ before r grown in
    let packets : (owner_of c r).packets ≡ change (completed (nexts.Aborting a)) o.packets k = ap (λ (s : State). s.owner.packets) added.state ∙ ap (λ (n : OwnerNext). change (completed n) o.packets k) aborting.behind in
    let falls = room_falls o (owner_of c r) a.0 k (completed (nexts.Aborting a)) packets (ap (λ (s : State). s.owner.loans) added.state) (ap (λ (s : State). s.owner.requests) added.state) (ap (λ (s : State). s.owner.adapters) added.state)
    (out_no_more a) (held_at c a k before found) aborting.standing in
    record {
      aborting = record {
        runs = added.runs;
        behind = ap (λ (s : State). s.owner.next) added.state ∙ goes_on o a k aborting.behind (held_at c a k before found);
        next = ap (λ (s : State). s.next) added.state ∙ ap popped aborting.next;
        fed = ap (list_any is_memory_stop) added.written ∙ still_fed before.log.entries _ aborting.fed refl;
        standing = ap (λ (s : State). stands s.owner a.0) added.state ∙ aborting.standing;
        room = let spare = added.spare in let room = aborting.room in omega (arith, spare, room, falls);
      };
      longer = record { more = entries.Complete (record { 0 = k }) (record { 0 = request_aborted }) ∷ []; written = added.written };
      falls = falls;
    }

-- ---- all of them

pub none_held : (c : Inputs) (a : AdapterNo) (before r : Running) → IsAborting c a r → Lengthens before r → owner_must (owner_of c r) ≡ None → WritesOn c [] before r
none_held c a before r aborting more over = record {
  writing = record { runs = aborting.runs; next = aborting.next; silent = over; fed = aborting.fed; room = let room = aborting.room in omega (arith, room); follow = tt };
  longer = more;
}
