-- Each packet number: completions so far and what is outstanding are what was sent.
use Rattle.std.proofs.Common.{◌≡◌, ℕ, ◌+◌, ◌≤◌, ◌<◌, Bool, true, false, cond, ◌&&◌, ◌==◌, List, [], ◌∷◌, ◌++◌, length, None, refl, sym, ap, ◌∙◌, inl, inr, arith}
use Rattle.std.specs.List.{position}
use Rattle.call_log.specs.declared.entry.Entry.{Entry}
use Rattle.call_log.specs.declared.entry.Entry.TheVariants.{Send, Hand, Requeue, Late, Complete, Tag}
use Rattle.owner_machine.specs.declared.rows.Packet.{Packet}
use Rattle.owner_machine.specs.declared.rows.Place.{Place}
use Rattle.owner_machine.specs.declared.rows.Place.TheVariants.{Queue, Miniport, Done, Aborted, Refused}
use Rattle.owner_machine.specs.declared.rows.Next.{Next}
use Rattle.owner_machine.specs.declared.rows.Next.TheVariants.{Tail, Aborting, Cancelling}
use Rattle.owner_machine.specs.State.{Owner, at, change, phase_is, is_running, adapter_of, is_number}
use Rattle.owner_machine.specs.Packets.{out, is_out, is_queue, is_miniport, is_aborted, is_refused, placed, handed, tagged, sent, completed, aborts, enter_of, is_ending, may_end, packet_adapter, queued_of}
use Rattle.owner_machine.specs.Machine.{rule_against, after}
use Rattle.owner_machine.specs.Legal.{Legal, Ends, Goes, Registers, Breaches}
use Rattle.owner_machine.specs.Laws.{number, completes, comes_late, sends, times}
use Rattle.owner_machine.proofs.Bools.{case_of, and_first, and_second, or_true, equal, below}
use Rattle.owner_machine.proofs.Changed.{keeps, ends, grows, weaker, first_passes, within, at_most, unchanged, no_more}

abbrev pub is_out_row : Packet → Bool
is_out_row p = is_out p.place

abbrev pub is_aborted_row : Packet → Bool
is_aborted_row p = is_aborted p.place

pub no_packet : Packet
no_packet = record { driver = record { 0 = 0 }; adapter = record { 0 = 0 }; place = Done; id = 0; hand = 0 }

ended_out : (b : Bool) → is_out (cond b Aborted Done) ≡ false
ended_out true = refl
ended_out false = refl

pub completed_not_out : (next : Next) (p : Packet) → is_out_row (completed next p) ≡ false
completed_not_out next p = ended_out (aborts next p)

first_out : (b : Bool) → is_out (cond b Queue Refused) ≡ true
first_out true = refl
first_out false = refl

first_not_aborted : (b : Bool) → is_aborted (cond b Queue Refused) ≡ false
first_not_aborted true = refl
first_not_aborted false = refl

pub queue_out : (place : Place) → is_queue place ≡ true → is_out place ≡ true
queue_out Queue h = refl
queue_out Miniport h = refl
queue_out Refused h = refl
queue_out Done h = h
queue_out Aborted h = h

pub miniport_out : (place : Place) → is_miniport place ≡ true → is_out place ≡ true
miniport_out Miniport h = refl
miniport_out Queue h = refl
miniport_out Refused h = refl
miniport_out Done h = h
miniport_out Aborted h = h

pub refused_out : (place : Place) → is_refused place ≡ true → is_out place ≡ true
refused_out Refused h = refl
refused_out Miniport h = refl
refused_out Queue h = refl
refused_out Done h = h
refused_out Aborted h = h

pub aborted_in : (place : Place) → is_aborted place ≡ true → is_out place ≡ false
aborted_in Aborted h = refl
aborted_in Done h = refl
aborted_in Queue h = absurd (cc)
aborted_in Miniport h = absurd (cc)
aborted_in Refused h = absurd (cc)

queue_not_aborted : (place : Place) → is_queue place ≡ true → is_aborted place ≡ false
queue_not_aborted Aborted h = absurd (cc)
queue_not_aborted _ h = refl

miniport_not_aborted : (place : Place) → is_miniport place ≡ true → is_aborted place ≡ false
miniport_not_aborted Aborted h = absurd (cc)
miniport_not_aborted _ h = refl

ending_out : (next : Next) (p : Packet) → is_ending next p ≡ true → is_out_row p ≡ true
ending_out (Tail a) p h = and_first _ _ h
ending_out (Aborting a) p h = miniport_out p.place (and_first _ _ h)
ending_out (Cancelling b id) p h = queue_out p.place (and_first _ _ h)
ending_out _ p h = absurd (cc)

-- what may be completed is outstanding
pub end_out : (o : Owner) (k : ℕ) (p : Packet) → may_end o k p ≡ true → is_out_row p ≡ true
end_out o k p h = elim (or_true (is_ending o.next p) _ h) [
  | inl is ↦ ending_out o.next p is
  | inr h2 ↦ elim (or_true (is_refused p.place) _ h2) [
    | inl is ↦ refused_out p.place is
    | inr is ↦ miniport_out p.place (and_first _ _ is)
  ]
]

hand_step : (test : Packet → Bool) (rows : List Packet) (a enter j k : ℕ) → ((p : Packet) → is_queue p.place ≡ true → test (handed enter p) ≡ test p) → is_number (position (queued_of a) rows) j ≡ true → at test (change (handed enter) rows j) k ≡ at test rows k
hand_step test rows a enter j k same h = keeps test (queued_of a) (handed enter) rows j k (first_passes (queued_of a) rows no_packet j h) (λ row is. same row (and_first _ _ is))

send_step : (rows : List Packet) (new : Packet) (j k : ℕ) → j == length rows ≡ true → is_out_row new ≡ true → number false + number (at is_out_row (rows ++ new ∷ []) k) ≡ number (at is_out_row rows k) + number (j == k)
send_step rows new j k h is =
    let same : j ≡ length rows = equal j (length rows) h in
    let both : (b : Bool) → b && is_out_row new ≡ b = λ b. both_of b in
    let n : number ((length rows == k) && is_out_row new) ≡ number (j == k) = ap number (both (length rows == k)) ∙ ap (λ (m : ℕ). number (m == k)) (sym same) in
    omega (arith, grows is_out_row rows new k, n)
  where
    both_of : (b : Bool) → b && is_out_row new ≡ b
    both_of true = is
    both_of false = refl

tag_step : (test : Packet → Bool) (o : Owner) (id j k : ℕ) → ((p : Packet) → test (tagged id p) ≡ test p) → j < length o.packets → at test (change (tagged id) o.packets j) k ≡ at test o.packets k
tag_step test o id j k same less = keeps test (λ row. true) (tagged id) o.packets j k (within o.packets j less) (λ row is. same row)

-- one entry: a completion takes one packet off what is outstanding, a send adds one, and no other entry does either
pub packet_step : (o : Owner) (e : Entry) (k : ℕ) → rule_against o e ≡ None → number (completes k e) + number (out (after o e) k) ≡ number (out o k) + number (sends k e)
packet_step o (Send driver packet bytes) k h = let may = case_of o (Send driver packet bytes) h in send_step o.packets (sent o driver) packet.0 k (and_first _ _ (and_second _ _ may)) (first_out (phase_is is_running o (adapter_of o driver.0)))
packet_step o (Tag packet id) k h = let may = case_of o (Tag packet id) h in unchanged _ _ (tag_step is_out_row o id packet.0 k (λ p. refl) (below packet.0 (length o.packets) (and_first _ _ (and_second _ _ may))))
packet_step o (Hand packet) k h = unchanged _ _ (hand_step is_out_row o.packets (packet_adapter o packet.0) (enter_of o.next) packet.0 k (λ p is. sym (queue_out p.place is)) (and_second _ _ (case_of o (Hand packet) h)))
packet_step o (Requeue packet) k h = unchanged _ _ (keeps is_out_row (λ p. is_miniport p.place) (placed Queue) o.packets packet.0 k (and_first _ _ (and_second _ _ (case_of o (Requeue packet) h))) (λ row is. sym (miniport_out row.place is)))
packet_step o (Complete packet status) k h = let n = ends is_out_row (completed o.next) o.packets packet.0 k (weaker (may_end o packet.0) is_out_row o.packets packet.0 (end_out o packet.0) (case_of o (Complete packet status) h)) (completed_not_out o.next) in omega (arith, n)
packet_step o (Late packet) k h = unchanged _ _ (keeps is_out_row is_aborted_row (placed Done) o.packets packet.0 k (and_first _ _ (case_of o (Late packet) h)) (λ row is. sym (aborted_in row.place is)))
packet_step o _ k h = omega arith

-- a whole log
pub packets_kept : (o n : Owner) (log : List Entry) (k : ℕ) → Legal o log n → times (completes k) log + number (out n k) ≡ number (out o k) + times (sends k) log
unfolding times
packets_kept o n log k (Ends m) = omega arith
packets_kept o n log k (Goes m l e rest h more) = let one = packet_step o e k h in let all = packets_kept (after o e) n rest k more in omega (arith, one, all)
packets_kept o n log k (Registers m l rest c p more) = packets_kept _ n log k more
packets_kept o n log k (Breaches m l c eax rest h more) = let all = packets_kept _ n rest k more in omega (arith, all)

-- a late completion ends the mark that the reset's completion set
late_step : (o : Owner) (e : Entry) (k : ℕ) → rule_against o e ≡ None → number (comes_late k e) + number (at is_aborted_row (after o e).packets k) ≤ number (at is_aborted_row o.packets k) + number (completes k e)
late_step o (Send driver packet bytes) k h =
    let n = grows is_aborted_row o.packets (sent o driver) k in
    let none = ap (λ (b : Bool). number ((length o.packets == k) && b)) (first_not_aborted (phase_is is_running o (adapter_of o driver.0))) in
    let zero_more = ap number (and_false (length o.packets == k)) in
    omega (arith, n, none, zero_more)
  where
    and_false : (b : Bool) → b && false ≡ false
    and_false true = refl
    and_false false = refl
late_step o (Tag packet id) k h = let may = case_of o (Tag packet id) h in no_more _ _ false (tag_step is_aborted_row o id packet.0 k (λ p. refl) (below packet.0 (length o.packets) (and_first _ _ (and_second _ _ may))))
late_step o (Hand packet) k h = no_more _ _ false (hand_step is_aborted_row o.packets (packet_adapter o packet.0) (enter_of o.next) packet.0 k (λ p is. sym (queue_not_aborted p.place is)) (and_second _ _ (case_of o (Hand packet) h)))
late_step o (Requeue packet) k h = no_more _ _ false (keeps is_aborted_row (λ p. is_miniport p.place) (placed Queue) o.packets packet.0 k (and_first _ _ (and_second _ _ (case_of o (Requeue packet) h))) (λ row is. sym (miniport_not_aborted row.place is)))
late_step o (Complete packet status) k h = let n = at_most is_aborted_row (completed o.next) o.packets packet.0 k in omega (arith, n)
late_step o (Late packet) k h = let n = ends is_aborted_row (placed Done) o.packets packet.0 k (and_first _ _ (case_of o (Late packet) h)) (λ row. refl) in omega (arith, n)
late_step o _ k h = omega arith

pub late_kept : (o n : Owner) (log : List Entry) (k : ℕ) → Legal o log n → times (comes_late k) log + number (at is_aborted_row n.packets k) ≤ number (at is_aborted_row o.packets k) + times (completes k) log
unfolding times
late_kept o n log k (Ends m) = omega arith
late_kept o n log k (Goes m l e rest h more) = let one = late_step o e k h in let all = late_kept (after o e) n rest k more in omega (arith, one, all)
late_kept o n log k (Registers m l rest c p more) = late_kept _ n log k more
late_kept o n log k (Breaches m l c eax rest h more) = let all = late_kept _ n rest k more in omega (arith, all)
