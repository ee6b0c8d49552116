-- What is kept beside packets, loans and requests, behind each change.
use Rattle.std.proofs.Common.{◌≡◌, ℕ, ◌+◌, ◌≤◌, ◌<◌, Bool, true, false, ◌&&◌, List, [], ◌∷◌, ◌++◌, length, Option, Some, None, refl, sym, ap, ◌∙◌, subst, arith, slice_get, length-append}
use Rattle.std.specs.List.{position}
use Rattle.std.specs.Prelude.{replicate}
use Rattle.std.proofs.lemmas.List.{get_or-replicate, length-replicate}
use Rattle.std.specs.Option.{option_map_or}
use Rattle.owner_machine.specs.declared.rows.Packet.{Packet}
use Rattle.owner_machine.specs.declared.rows.Place.{Place}
use Rattle.owner_machine.specs.declared.rows.Place.TheVariants.{Done}
use Rattle.owner_machine.specs.declared.rows.Loan.{Loan}
use Rattle.owner_machine.specs.declared.rows.LoanPlace.{LoanPlace}
use Rattle.owner_machine.specs.declared.rows.LoanPlace.TheVariants as loan_places
use Rattle.owner_machine.specs.declared.rows.Request.{Request}
use Rattle.owner_machine.specs.declared.rows.RequestPlace.{RequestPlace}
use Rattle.owner_machine.specs.declared.rows.RequestPlace.TheVariants as request_places
use Rattle.owner_machine.specs.State.{at, change, numbers_from, in_front, implies}
use Rattle.owner_machine.specs.Packets.{is_out, in_slot, is_queue, is_miniport}
use Rattle.owner_machine.specs.Loans.{is_away, is_due, is_lent}
use Rattle.owner_machine.specs.Requests.{is_open, is_asked, is_handed, handed_ask, answered}
use Rattle.owner_rows.specs.declared.packets.WhichPackets.{WhichPackets}
use Rattle.owner_rows.specs.declared.packets.WhichPackets.TheVariants.{OutOf, QueuedOf, HeldOf, SentBy, QueuedWith, HeldWith}
use Rattle.owner_rows.specs.declared.loans.WhichLoans.{WhichLoans}
use Rattle.owner_rows.specs.declared.loans.WhichLoans.TheVariants.{AwayOf, DueOf, HeldBy}
use Rattle.owner_rows.specs.declared.requests.WhichRequests.{WhichRequests}
use Rattle.owner_rows.specs.declared.requests.WhichRequests.TheVariants.{OpenOf, AskedOf, HandedOf, AskedBy}
use Rattle.owner_rows.specs.Which.{which_packets, which_loans, which_requests}
use Rattle.owner_rows.specs.Tallies.{IsTally, recounted, kept, first_of}
use Rattle.owner_rows.specs.Kept.{KeepsPackets, KeepsLoans, KeepsRequests, most_rows, packet_out, packet_in_slot, packet_adapter, packet_driver, loan_away, loan_adapter, request_open, request_adapter}
use Rattle.owner_rows.specs.Changes.{change_to}
use Rattle.owner_rows.proofs.Rows.{tally_change, tally_push, numbers_push, numbers_kept, numbers_same, first_is, length_change}

and_first : (a b : Bool) → a && b ≡ true → a ≡ true
and_first true b h = refl
and_first false b h = h

zero_plus : (n : ℕ) → 0 + n ≡ n
zero_plus n = omega arith

few_changed : {A : Type 0} (rows : List A) (k : ℕ) (new : A) → length rows ≤ most_rows → length (change (λ _. new) rows k) ≤ most_rows
few_changed rows k new few = let same = length_change (λ _. new) rows k in omega (arith, same, few)

few_more : {A : Type 0} (rows : List A) (new : A) → length rows < most_rows → length (rows ++ new ∷ []) ≤ most_rows
few_more rows new less = let same = length-append rows (new ∷ []) in omega (arith, same, less)

numbers_more : {A : Type 0} (passes : A → Bool) (rows : List A) (new : A) (live : List ℕ) → live ≡ numbers_from 0 passes rows → live ++ in_front (passes new) (length rows) [] ≡ numbers_from 0 passes (rows ++ new ∷ [])
numbers_more passes rows new live same = ap (λ (ns : List ℕ). ns ++ in_front (passes new) (length rows) []) same ∙ sym (numbers_push passes 0 rows new ∙ ap (λ (n : ℕ). numbers_from 0 passes rows ++ in_front (passes new) n []) (zero_plus (length rows)))

-- ---- packets

out_slot : (place : Place) → is_out place ≡ true → in_slot place ≡ true
out_slot Done h = h
out_slot _ h = refl

pub packets_put : (rows : List Packet) (k : ℕ) (was p : Packet) (live out slots : List ℕ) → KeepsPackets rows live out slots → slice_get rows k ≡ Some was → p.driver ≡ was.driver → p.adapter ≡ was.adapter → implies (in_slot p.place) (in_slot was.place) ≡ true → KeepsPackets (change (λ _. p) rows k) (kept (in_slot was.place) (in_slot p.place) k live) (recounted (is_out was.place) (is_out p.place) was.adapter.0 out) (recounted (in_slot was.place) (in_slot p.place) was.driver.0 slots)
packets_put rows k was p live out slots keeps got same_driver same_adapter slot = record {
  few = few_changed rows k p keeps.few;
  numbers = ap (λ (ns : List ℕ). kept (in_slot was.place) (in_slot p.place) k ns) keeps.numbers ∙ sym (numbers_kept packet_in_slot rows k was p (in_slot was.place) (in_slot p.place) got refl refl slot);
  by_adapter = tally_change packet_out packet_adapter out rows k was p (is_out was.place) (is_out p.place) was.adapter.0 keeps.by_adapter got refl refl refl (ap (λ a. a.0) same_adapter);
  by_slot = tally_change packet_in_slot packet_driver slots rows k was p (in_slot was.place) (in_slot p.place) was.driver.0 keeps.by_slot got refl refl refl (ap (λ b. b.0) same_driver);
}

pub packets_pushed : (rows : List Packet) (p : Packet) (k : ℕ) (live out slots : List ℕ) → KeepsPackets rows live out slots → k ≡ length rows → k < most_rows → is_out p.place ≡ true → KeepsPackets (rows ++ p ∷ []) (live ++ k ∷ []) (recounted false true p.adapter.0 out) (recounted false true p.driver.0 slots)
packets_pushed rows p k live out slots keeps here less is = record {
  few = few_more rows p (omega (arith, here, less));
  numbers = ap (λ (n : ℕ). live ++ n ∷ []) here ∙ ap (λ (t : Bool). live ++ in_front t (length rows) []) (sym (out_slot p.place is)) ∙ numbers_more packet_in_slot rows p live keeps.numbers;
  by_adapter = tally_push packet_out packet_adapter out rows p true p.adapter.0 keeps.by_adapter is refl;
  by_slot = tally_push packet_in_slot packet_driver slots rows p true p.driver.0 keeps.by_slot (out_slot p.place is) refl;
}

-- packets that are looked for have their slots in use
queue_slot : (place : Place) → is_queue place ≡ true → in_slot place ≡ true
queue_slot Done h = h
queue_slot _ h = refl

miniport_slot : (place : Place) → is_miniport place ≡ true → in_slot place ≡ true
miniport_slot Done h = h
miniport_slot _ h = refl

packets_in_slot : (which : WhichPackets) (p : Packet) → which_packets which p ≡ true → packet_in_slot p ≡ true
packets_in_slot (OutOf a) p h = out_slot p.place (and_first _ _ h)
packets_in_slot (QueuedOf a) p h = queue_slot p.place (and_first _ _ h)
packets_in_slot (HeldOf a) p h = miniport_slot p.place (and_first _ _ h)
packets_in_slot (SentBy b) p h = out_slot p.place (and_first _ _ h)
packets_in_slot (QueuedWith b id) p h = queue_slot p.place (and_first _ _ h)
packets_in_slot (HeldWith b id) p h = miniport_slot p.place (and_first _ _ h)

pub first_packet : (which : WhichPackets) (rows : List Packet) (live : List ℕ) → live ≡ numbers_from 0 packet_in_slot rows → first_of (which_packets which) rows live ≡ position (which_packets which) rows
first_packet which rows live same = ap (λ (ns : List ℕ). first_of (which_packets which) rows ns) same ∙ first_is (which_packets which) packet_in_slot rows (packets_in_slot which)

-- ---- loans

pub loans_put : (rows : List Loan) (k : ℕ) (was l : Loan) (live away : List ℕ) → KeepsLoans rows live away → slice_get rows k ≡ Some was → l.adapter ≡ was.adapter → implies (is_away l.place) (is_away was.place) ≡ true → KeepsLoans (change (λ _. l) rows k) (kept (is_away was.place) (is_away l.place) k live) (recounted (is_away was.place) (is_away l.place) was.adapter.0 away)
loans_put rows k was l live away keeps got same_adapter out = record {
  few = few_changed rows k l keeps.few;
  numbers = ap (λ (ns : List ℕ). kept (is_away was.place) (is_away l.place) k ns) keeps.numbers ∙ sym (numbers_kept loan_away rows k was l (is_away was.place) (is_away l.place) got refl refl out);
  by_adapter = tally_change loan_away loan_adapter away rows k was l (is_away was.place) (is_away l.place) was.adapter.0 keeps.by_adapter got refl refl refl (ap (λ a. a.0) same_adapter);
}

pub loans_pushed : (rows : List Loan) (l : Loan) (k : ℕ) (live away : List ℕ) → KeepsLoans rows live away → k ≡ length rows → k < most_rows → KeepsLoans (rows ++ l ∷ []) (live ++ in_front (is_away l.place) k []) (recounted false (is_away l.place) l.adapter.0 away)
loans_pushed rows l k live away keeps here less = record {
  few = few_more rows l (omega (arith, here, less));
  numbers = ap (λ (n : ℕ). live ++ in_front (is_away l.place) n []) here ∙ numbers_more loan_away rows l live keeps.numbers;
  by_adapter = tally_push loan_away loan_adapter away rows l (is_away l.place) l.adapter.0 keeps.by_adapter refl refl;
}

due_away : (place : LoanPlace) → is_due place ≡ true → is_away place ≡ true
due_away loan_places.Home h = h
due_away _ h = refl

lent_away : (place : LoanPlace) → is_lent place ≡ true → is_away place ≡ true
lent_away loan_places.Home h = h
lent_away _ h = refl

loans_away : (which : WhichLoans) (l : Loan) → which_loans which l ≡ true → loan_away l ≡ true
loans_away (AwayOf a) l h = and_first _ _ h
loans_away (DueOf a) l h = due_away l.place (and_first _ _ h)
loans_away (HeldBy b) l h = lent_away l.place (and_first _ _ h)

pub first_loan : (which : WhichLoans) (rows : List Loan) (live : List ℕ) → live ≡ numbers_from 0 loan_away rows → first_of (which_loans which) rows live ≡ position (which_loans which) rows
first_loan which rows live same = ap (λ (ns : List ℕ). first_of (which_loans which) rows ns) same ∙ first_is (which_loans which) loan_away rows (loans_away which)

-- ---- requests

requests_put : (rows : List Request) (k : ℕ) (was new : Request) (live unanswered : List ℕ) → KeepsRequests rows live unanswered → slice_get rows k ≡ Some was → new.adapter ≡ was.adapter → implies (is_open new.place) (is_open was.place) ≡ true → KeepsRequests (change (λ _. new) rows k) (kept (is_open was.place) (is_open new.place) k live) (recounted (is_open was.place) (is_open new.place) was.adapter.0 unanswered)
requests_put rows k was new live unanswered keeps got same_adapter out = record {
  few = few_changed rows k new keeps.few;
  numbers = ap (λ (ns : List ℕ). kept (is_open was.place) (is_open new.place) k ns) keeps.numbers ∙ sym (numbers_kept request_open rows k was new (is_open was.place) (is_open new.place) got refl refl out);
  by_adapter = tally_change request_open request_adapter unanswered rows k was new (is_open was.place) (is_open new.place) was.adapter.0 keeps.by_adapter got refl refl refl (ap (λ a. a.0) same_adapter);
}

pub requests_pushed : (rows : List Request) (new : Request) (k : ℕ) (live unanswered : List ℕ) → KeepsRequests rows live unanswered → k ≡ length rows → k < most_rows → is_open new.place ≡ true → KeepsRequests (rows ++ new ∷ []) (live ++ k ∷ []) (recounted false true new.adapter.0 unanswered)
requests_pushed rows new k live unanswered keeps here less is = record {
  few = few_more rows new (omega (arith, here, less));
  numbers = ap (λ (n : ℕ). live ++ n ∷ []) here ∙ ap (λ (t : Bool). live ++ in_front t (length rows) []) (sym is) ∙ numbers_more request_open rows new live keeps.numbers;
  by_adapter = tally_push request_open request_adapter unanswered rows new true new.adapter.0 keeps.by_adapter is refl;
}

pub requests_answered : (rows : List Request) (k : ℕ) (was : Request) (live unanswered : List ℕ) → KeepsRequests rows live unanswered → slice_get rows k ≡ Some was → KeepsRequests (change answered rows k) (kept (is_open was.place) false k live) (recounted (is_open was.place) false was.adapter.0 unanswered)
requests_answered rows k was live unanswered keeps got = subst (λ (rs : List Request). KeepsRequests rs (kept (is_open was.place) false k live) (recounted (is_open was.place) false was.adapter.0 unanswered)) (change_to answered rows k was (answered was) got refl) (requests_put rows k was (answered was) live unanswered keeps got refl refl)

pub requests_handed : (rows : List Request) (k enter : ℕ) (live unanswered : List ℕ) → KeepsRequests rows live unanswered → at request_open rows k ≡ true → KeepsRequests (change (handed_ask enter) rows k) live unanswered
requests_handed rows k enter live unanswered keeps is = by_row (slice_get rows k) refl is
  where
    by_row : (o : Option Request) → slice_get rows k ≡ o → option_map_or request_open o false ≡ true → KeepsRequests (change (handed_ask enter) rows k) live unanswered
    by_row None got is = absurd (cc)
    by_row (Some was) got is =
        subst (λ (rs : List Request). KeepsRequests rs live unanswered) (change_to (handed_ask enter) rows k was (handed_ask enter was) got refl) (record {
          few = few_changed rows k (handed_ask enter was) keeps.few;
          numbers = keeps.numbers ∙ sym (numbers_same request_open 0 rows k was (handed_ask enter was) got (sym is));
          by_adapter = tally_change request_open request_adapter unanswered rows k was (handed_ask enter was) true true was.adapter.0 keeps.by_adapter got is refl refl refl;
        })

handed_open : (place : RequestPlace) → is_handed place ≡ true → is_open place ≡ true
handed_open request_places.Answered h = h
handed_open _ h = refl

asked_open : (place : RequestPlace) → is_asked place ≡ true → is_open place ≡ true
asked_open request_places.Answered h = h
asked_open _ h = refl

requests_open : (which : WhichRequests) (r : Request) → which_requests which r ≡ true → request_open r ≡ true
requests_open (OpenOf a) r h = and_first _ _ h
requests_open (AskedOf a) r h = asked_open r.place (and_first _ _ h)
requests_open (HandedOf a) r h = handed_open r.place (and_first _ _ h)
requests_open (AskedBy b) r h = and_first _ _ h

pub first_request : (which : WhichRequests) (rows : List Request) (live : List ℕ) → live ≡ numbers_from 0 request_open rows → first_of (which_requests which) rows live ≡ position (which_requests which) rows
first_request which rows live same = ap (λ (ns : List ℕ). first_of (which_requests which) rows ns) same ∙ first_is (which_requests which) request_open rows (requests_open which)

-- ---- no rows

no_tally : {A : Type 0} (passes : A → Bool) (owner : A → ℕ) → IsTally passes owner (replicate 256 0) []
no_tally passes owner = record { room = length-replicate {A = ℕ} 256 0; each = λ n less. get_or-replicate {A = ℕ} 256 n 0 0 less }

pub no_packets : KeepsPackets [] [] (replicate 256 0) (replicate 256 0)
no_packets = record { few = omega arith; numbers = refl; by_adapter = no_tally packet_out packet_adapter; by_slot = no_tally packet_in_slot packet_driver }

pub no_loans : KeepsLoans [] [] (replicate 256 0)
no_loans = record { few = omega arith; numbers = refl; by_adapter = no_tally loan_away loan_adapter }

pub no_requests : KeepsRequests [] [] (replicate 256 0)
no_requests = record { few = omega arith; numbers = refl; by_adapter = no_tally request_open request_adapter }
