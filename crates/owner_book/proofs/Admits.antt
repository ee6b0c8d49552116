-- What follows where no rule stands against an entry.
use Rattle.std.proofs.Common.{◌≡◌, ℕ, zero, suc, ◌<◌, Bool, true, false, ◌&&◌, ◌||◌, cond, List, [], ◌∷◌, length, Option, Some, None, refl, sym, ap, ◌∙◌, arith, slice_get, inl, inr, ◌⊎◌}
use Rattle.std.specs.List.{position}
use Rattle.std.specs.Option.{option_map_or}
use Rattle.std.proofs.lemmas.Option.{none-some, slice_get-get_or}
use Rattle.std.proofs.lemmas.List.Quantifiers.{position-Some}
use Rattle.nd_base.specs.declared.numbers.AdapterNo.{AdapterNo}
use Rattle.nd_base.specs.declared.numbers.BindingNo.{BindingNo}
use Rattle.nd_base.specs.declared.numbers.LoanNo.{LoanNo}
use Rattle.nd_base.specs.declared.numbers.PacketNo.{PacketNo}
use Rattle.nd_base.specs.declared.numbers.RequestNo.{RequestNo}
use Rattle.call_log.specs.declared.entry.Entry.{Entry}
use Rattle.call_log.specs.declared.entry.Entry.TheVariants as entries
use Rattle.owner_machine.specs.declared.rows.Packet.{Packet}
use Rattle.owner_machine.specs.declared.rows.Place.{Place}
use Rattle.owner_machine.specs.declared.rows.Place.TheVariants as places
use Rattle.owner_machine.specs.declared.rows.LoanPlace.{LoanPlace}
use Rattle.owner_machine.specs.declared.rows.LoanPlace.TheVariants as loan_places
use Rattle.owner_machine.specs.declared.rows.Request.{Request}
use Rattle.owner_machine.specs.declared.rows.RequestPlace.{RequestPlace}
use Rattle.owner_machine.specs.declared.rows.RequestPlace.TheVariants as request_places
use Rattle.owner_machine.specs.declared.rows.Next.{Next}
use Rattle.owner_machine.specs.declared.rows.Next.TheVariants as nexts
use Rattle.log_fields.specs.declared.field_values.Question.TheVariants as questions
use Rattle.owner_machine.specs.State.{Owner, at, change, is_number}
use Rattle.owner_machine.specs.Packets.{is_out, in_slot, is_queue, is_miniport, is_refused, is_aborted, is_ending, may_end, may_complete, queued_of, out_of, packet_adapter, placed, aborts, completed, has_verdict, behind_verdict, behind_complete}
use Rattle.owner_machine.specs.Loans.{holds, is_lent, is_away}
use Rattle.owner_machine.specs.Requests.{is_open, is_asked, asked_of, request_adapter, first_place}
use Rattle.owner_machine.specs.Must.{is_served}
use Rattle.owner_machine.specs.Machine.{rule_against, has_case, last_rule, rule_of, after}
use Rattle.owner_rows.specs.Changes.{change_to}
use Rattle.owner_rows.specs.Kept.{packet_in_slot, loan_away, request_open}

and_first : (a b : Bool) → a && b ≡ true → a ≡ true
and_first true b h = refl
and_first false b h = h

and_second : (a b : Bool) → a && b ≡ true → b ≡ true
and_second true b h = h
and_second false b h = absurd (cc)

or_true : (a b : Bool) → a || b ≡ true → (a ≡ true) ⊎ (b ≡ true)
or_true true b h = inl refl
or_true false b h = inr h

cond_none : (b : Bool) (x : Option ℕ) (rule : ℕ) → cond b x (Some rule) ≡ None → b ≡ true
cond_none true x rule h = refl
cond_none false x rule h = absurd (none-some rule (sym h))

-- an entry that breaks no rule has its case
pub case_of : (o : Owner) (e : Entry) → rule_against o e ≡ None → has_case o e ≡ true
case_of o e h = and_second (is_served o e) (has_case o e) (cond_none (is_served o e && has_case o e) (last_rule o e) (rule_of e) h)

-- a test that follows from another
weaker : {A : Type 0} (p q : A → Bool) (rows : List A) (k : ℕ) → ((row : A) → p row ≡ true → q row ≡ true) → at p rows k ≡ true → at q rows k ≡ true
weaker p q [] k w h = h
weaker p q (row ∷ rows) zero w h = w row h
weaker p q (row ∷ rows) (suc k) w h = weaker p q rows k w h

-- the least row that passes passes
pub passes_at : {A : Type 0} (test : A → Bool) (rows : List A) (none : A) (k : ℕ) → position test rows ≡ Some k → at test rows k ≡ true
passes_at test rows none k found = let found_at = position-Some test rows k none found in ap (λ o. option_map_or test o false) (slice_get-get_or rows k none found_at.0) ∙ found_at.1

first_passes : {A : Type 0} (test : A → Bool) (rows : List A) (none : A) (k : ℕ) → is_number (position test rows) k ≡ true → at test rows k ≡ true
first_passes test rows none k h = by_first (position test rows) refl h
  where
    by_first : (o : Option ℕ) → position test rows ≡ o → is_number o k ≡ true → at test rows k ≡ true
    by_first None is h = absurd (cc)
    by_first (Some n) is h = let same : n ≡ k = grind arith in passes_at test rows none k (is ∙ ap (λ (x : ℕ). Some x) same)

pub no_packet : Packet
no_packet = record { driver = record { 0 = 0 }; adapter = record { 0 = 0 }; place = places.Done; id = 0; hand = 0 }

out_slot : (place : Place) → is_out place ≡ true → in_slot place ≡ true
out_slot places.Done h = h
out_slot _ h = refl

queue_slot : (place : Place) → is_queue place ≡ true → in_slot place ≡ true
queue_slot places.Done h = h
queue_slot _ h = refl

miniport_slot : (place : Place) → is_miniport place ≡ true → in_slot place ≡ true
miniport_slot places.Done h = h
miniport_slot _ h = refl

refused_slot : (place : Place) → is_refused place ≡ true → in_slot place ≡ true
refused_slot places.Done h = h
refused_slot _ h = refl

aborted_slot : (place : Place) → is_aborted place ≡ true → in_slot place ≡ true
aborted_slot places.Done h = h
aborted_slot _ h = refl

pub out_in_slot : (a : ℕ) (rows : List Packet) (k : ℕ) → at (out_of a) rows k ≡ true → at packet_in_slot rows k ≡ true
out_in_slot a rows k h = weaker (out_of a) packet_in_slot rows k (λ row is. out_slot row.place (and_first _ _ is)) h

pub hand_in_slot : (o : Owner) (packet : PacketNo) → has_case o (entries.Hand packet) ≡ true → at packet_in_slot o.packets packet.0 ≡ true
hand_in_slot o packet h = weaker (queued_of (packet_adapter o packet.0)) packet_in_slot o.packets packet.0 (λ row is. queue_slot row.place (and_first _ _ is)) (first_passes (queued_of (packet_adapter o packet.0)) o.packets no_packet packet.0 (and_second _ _ h))

pub requeue_in_slot : (o : Owner) (packet : PacketNo) → has_case o (entries.Requeue packet) ≡ true → at packet_in_slot o.packets packet.0 ≡ true
requeue_in_slot o packet h = weaker (λ p. is_miniport p.place) packet_in_slot o.packets packet.0 (λ row is. miniport_slot row.place is) (and_first _ _ (and_second _ _ h))

pub late_in_slot : (o : Owner) (packet : PacketNo) → has_case o (entries.Late packet) ≡ true → at packet_in_slot o.packets packet.0 ≡ true
late_in_slot o packet h = weaker (λ p. is_aborted p.place) packet_in_slot o.packets packet.0 (λ row is. aborted_slot row.place is) (and_first _ _ h)

ending_slot : (next : Next) (p : Packet) → is_ending next p ≡ true → in_slot p.place ≡ true
ending_slot (nexts.Tail adapter) p h = out_slot p.place (and_first _ _ h)
ending_slot (nexts.Aborting adapter) p h = miniport_slot p.place (and_first _ _ h)
ending_slot (nexts.Cancelling driver id) p h = queue_slot p.place (and_first _ _ h)
ending_slot _ p h = absurd (cc)

end_slot : (o : Owner) (k : ℕ) (p : Packet) → may_end o k p ≡ true → in_slot p.place ≡ true
end_slot o k p h = elim (or_true (is_ending o.next p) _ h) [ inl ending ↦ ending_slot o.next p ending | inr other ↦ elim (or_true (is_refused p.place) _ other) [ inl refused ↦ refused_slot p.place refused | inr completed ↦ miniport_slot p.place (and_first _ _ completed) ] ]

pub complete_in_slot : (o : Owner) (k : ℕ) → may_complete o k ≡ true → at packet_in_slot o.packets k ≡ true
complete_in_slot o k h = weaker (may_end o k) packet_in_slot o.packets k (end_slot o k) h

lent_away : (place : LoanPlace) → is_lent place ≡ true → is_away place ≡ true
lent_away loan_places.Home h = h
lent_away _ h = refl

pub return_away : (o : Owner) (driver : BindingNo) (loan : LoanNo) → has_case o (entries.Return driver loan) ≡ true → at loan_away o.loans loan.0 ≡ true
return_away o driver loan h = weaker (holds driver.0) loan_away o.loans loan.0 (λ row is. lent_away row.place (and_first _ _ is)) h

asked_open : (place : RequestPlace) → is_asked place ≡ true → is_open place ≡ true
asked_open request_places.Answered h = h
asked_open _ h = refl

pub first_open : (refused : Option ℕ) → is_open (first_place refused) ≡ true
first_open None = refl
first_open (Some _) = refl

no_request : Request
no_request = record { driver = record { 0 = 0 }; adapter = record { 0 = 0 }; question = questions.Query 0 0; place = request_places.Answered; hand = 0 }

pub hand_ask_open : (o : Owner) (request : RequestNo) → has_case o (entries.HandAsk request) ≡ true → at request_open o.requests request.0 ≡ true
hand_ask_open o request h = weaker (asked_of (request_adapter o request.0)) request_open o.requests request.0 (λ row is. asked_open row.place (and_first _ _ is)) (first_passes (asked_of (request_adapter o request.0)) o.requests no_request request.0 (and_first _ _ (and_second _ _ h)))

-- a row that passes is there
pub within : {A : Type 0} (test : A → Bool) (rows : List A) (k : ℕ) → at test rows k ≡ true → k < length rows
within test [] k h = absurd (cc)
within test (row ∷ rows) zero h = omega arith
within test (row ∷ rows) (suc k) h = let more = within test rows k h in omega (arith, more)

pub got_within : {A : Type 0} (rows : List A) (k : ℕ) (row : A) → slice_get rows k ≡ Some row → k < length rows
got_within [] k row h = absurd (cc)
got_within (x ∷ rows) zero row h = omega arith
got_within (x ∷ rows) (suc k) row h = let more = got_within rows k row h in omega (arith, more)

-- the completion of an outstanding packet in a tail
pub tail_goes_on : (adapter : AdapterNo) (o : Owner) (k : ℕ) → o.next ≡ nexts.Tail adapter → at (out_of adapter.0) o.packets k ≡ true → behind_complete o k ≡ nexts.Tail adapter
tail_goes_on adapter o k same is = ap (λ (n : Next). cond (at (λ p. has_verdict n k p || is_ending n p) o.packets k) (behind_verdict n k) nexts.Free) same ∙ ap (λ (t : Bool). cond t (nexts.Tail adapter) nexts.Free) is

pub tail_completes : (adapter : AdapterNo) (o : Owner) (packet : PacketNo) (rows : List Packet) → rows ≡ change (placed places.Done) o.packets packet.0 → o.next ≡ nexts.Tail adapter → at (out_of adapter.0) o.packets packet.0 ≡ true → record o { packets = rows; next = nexts.Tail adapter } ≡ after o (entries.Complete packet (record { 0 = 0 }))
tail_completes adapter o packet rows changed same is =
    ap (λ (rs : List Packet). record o { packets = rs; next = nexts.Tail adapter }) (changed ∙ sym (ap (λ (n : Next). change (completed n) o.packets packet.0) same))
    ∙ ap (λ (n : Next). record o { packets = change (completed o.next) o.packets packet.0; next = n }) (sym (tail_goes_on adapter o packet.0 same is))

pub requeue_within : (o : Owner) (packet : PacketNo) → has_case o (entries.Requeue packet) ≡ true → packet.0 < length o.packets
requeue_within o packet h = within (has_verdict o.next packet.0) o.packets packet.0 (and_first _ _ h)

-- a completion, by the place that it gives the packet
pub complete_after : (o : Owner) (packet : PacketNo) (p : Packet) (place : Place) (rows : List Packet) (next : Next) → slice_get o.packets packet.0 ≡ Some p → place ≡ cond (aborts o.next p) places.Aborted places.Done → rows ≡ change (placed place) o.packets packet.0 → next ≡ behind_complete o packet.0 → record o { packets = rows; next = next } ≡ after o (entries.Complete packet (record { 0 = 0 }))
complete_after o packet p place rows next got same changed behind =
    ap (λ (rs : List Packet). record o { packets = rs; next = next }) (changed ∙ sym (change_to (placed place) o.packets packet.0 p (placed place p) got refl) ∙ change_to (completed o.next) o.packets packet.0 p (placed place p) got (ap (λ (x : Place). placed x p) same))
    ∙ ap (λ (n : Next). record o { packets = change (completed o.next) o.packets packet.0; next = n }) behind
