-- The reading of a file from left to right is what the grammar says.
use Rattle.std.proofs.Common.{◌≡◌, ◌≢◌, ℕ, suc, ◌+◌, ◌-◌, ◌^◌, ◌<◌, ◌≤◌, Bool, true, false, cond, leb, eqb, ◌&&◌, List, [], ◌∷◌, ◌++◌, length, get_or, map, take, drop, Option, Some, None, Result, Ok, Err, refl, sym, ap, subst, ◌∙◌, append_assoc, arith, inl, inr, ◌⊎◌, lit<, MatchResult}
use Rattle.std.specs.Prelude.{IfOk, IfErr, IsOk}
use Rattle.std.specs.Global.{Vec}
use Rattle.std.specs.List.{AllByRecursion}
use Rattle.std.proofs.lemmas.Bool.{cases_lt, le-ltb, lt-ltb, eqb-true, eqb-false, leb-true, ne_eqb}
use Rattle.std.proofs.lemmas.List.{append-nil, length-append, length-drop, length-map, get_or-append-add}
use Rattle.nd_base.specs.Results.{◌>>=◌}
use Rattle.frame_wire.specs.declared.order.Order.{Order}
use Rattle.frame_wire.specs.declared.arrival.Arrival.{Arrival}
use Rattle.frame_wire.specs.declared.refusal.WireRefusal.{WireRefusal}
use Rattle.frame_wire.specs.declared.refusal.WireRefusal.TheVariants.{OutOfMemory, TooLong, BadHeader, LinkType, CutShort, Length, Backwards}
use Rattle.frame_wire.specs.Entries.{number, value, field, magic, Entry, time, IsWhole, arrival}
use Rattle.frame_wire.specs.Captures.{header, spellings, DoNotFall, last_time, start_time, IsGood, IsFront, front, IsSpelled, StampsDoNotFall, IsEthernetLong, StartsAt, IsFrameBelow, CanArrive, IsCutShort, IsRefused}
use Rattle.frame_wire.specs.Reading.{order_of, whole_at, judged, first_time, frames_from, entries_of, count_of, with_link, header_of, reading}
use Rattle.frame_wire.proofs.Numbers.{IsBytes, IsBytes-drop, number_len, field_fits, whole_of, whole_is, first_of_front}
use Rattle.frame_wire.proofs.Headers.{header_len, order_again, order_found, HasHeader, header_again, header_parts, other_len}
use Rattle.frame_wire.proofs.Loop.{with_front, judged_bad, judged_back, stopped, too_many, ended}
use Rattle.frame_wire.proofs.Fronts.{cons-append, IsBad, frames_again, Stops, Longest, longest}

abbrev pub IsReading : List ℕ → Result (List Arrival) WireRefusal → Type 0
IsReading bytes (Ok fs) = IsSpelled bytes fs
IsReading bytes (Err e) = IsRefused bytes e

-- ---- from the grammar to the reading

by_header_of : (bytes : List ℕ) (r : Result Order WireRefusal) → header_of bytes ≡ r → reading bytes ≡ (r >>= λ order. entries_of order (drop 24 bytes))
unfolding reading
by_header_of bytes r is = ap (λ (x : Result Order WireRefusal). x >>= λ order. entries_of order (drop 24 bytes)) is

err_of_count : (read : Result (List Arrival) WireRefusal) (e : WireRefusal) → count_of read ≡ Err e → read ≡ Err e
err_of_count (Ok fs) e h = absurd cc
err_of_count (Err d) e h = let same : d ≡ e = cc in ap (λ (x : WireRefusal). Err x) same

ok_of_count : (read : Result (List Arrival) WireRefusal) (n : ℕ) → count_of read ≡ Ok n → IsOk read
ok_of_count (Ok fs) n h = refl
ok_of_count (Err d) n h = absurd cc

-- what is read behind a good header
pub read_behind : (bytes : List ℕ) (order : Order) (entries : List ℕ) → header_of bytes ≡ Ok order → entries ≡ drop 24 bytes → reading bytes ≡ entries_of order entries
read_behind bytes order entries is parts = by_header_of bytes (Ok order) is ∙ ap (entries_of order) (sym parts)

pub fault_behind : (bytes : List ℕ) (order : Order) (entries : List ℕ) (e : WireRefusal) → header_of bytes ≡ Ok order → entries ≡ drop 24 bytes → count_of (entries_of order entries) ≡ Err e → reading bytes ≡ Err e
fault_behind bytes order entries e is parts bad = read_behind bytes order entries is parts ∙ err_of_count (entries_of order entries) e bad

pub good_behind : (bytes : List ℕ) (order : Order) (entries : List ℕ) (n : ℕ) → header_of bytes ≡ Ok order → entries ≡ drop 24 bytes → count_of (entries_of order entries) ≡ Ok n → IsOk (reading bytes)
good_behind bytes order entries n is parts good = subst (λ (r : Result (List Arrival) WireRefusal). IsOk r) (sym (read_behind bytes order entries is parts)) (ok_of_count (entries_of order entries) n good)

reading_long : (bytes : List ℕ) → 134217728 < length bytes → reading bytes ≡ Err TooLong
reading_long bytes lt = by_header_of bytes (Err TooLong) (ap (λ (b : Bool). cond b (Err TooLong) (with_link (order_of bytes) bytes)) (lt-ltb _ _ lt))

header_short : (bytes : List ℕ) (o : Option Order) → length bytes ≤ 134217728 → order_of bytes ≡ o → header_of bytes ≡ with_link o bytes
header_short bytes o le is = ap (λ (b : Bool). cond b (Err TooLong) (with_link (order_of bytes) bytes)) (le-ltb _ _ le) ∙ ap (λ (x : Option Order). with_link x bytes) is

reading_none : (bytes : List ℕ) → length bytes ≤ 134217728 → order_of bytes ≡ None → reading bytes ≡ Err BadHeader
reading_none bytes le is = by_header_of bytes (Err BadHeader) (header_short bytes None le is)

reading_link : (order : Order) (link : ℕ) (bytes rest : List ℕ) → length bytes ≤ 134217728 → HasHeader order link bytes rest → link ≢ 1 → reading bytes ≡ Err (LinkType link)
reading_link order link bytes rest le h ne =
    by_header_of bytes (Err (LinkType link)) (header_short bytes (Some order) le h.order_is ∙ ap (λ (n : ℕ). cond (eqb n 1) (Ok order) (Err (LinkType n))) h.link_is ∙ ap (λ (b : Bool). cond b (Ok order) (Err (LinkType link))) (ne_eqb _ _ ne))

reading_entries : (order : Order) (bytes rest : List ℕ) → length bytes ≤ 134217728 → HasHeader order 1 bytes rest → reading bytes ≡ entries_of order rest
reading_entries order bytes rest le h =
    by_header_of bytes (Ok order) (header_short bytes (Some order) le h.order_is ∙ ap (λ (n : ℕ). cond (eqb n 1) (Ok order) (Err (LinkType n))) h.link_is) ∙ ap (entries_of order) h.rest_is

-- the first time in front of entries is that of the first
first_is : (order : Order) (e : Entry) (es : List Entry) (rest : List ℕ) → IsWhole e → first_time order (spellings order (e ∷ es) ++ rest) ≡ time e
first_is order e es rest w = first_of_front order (spellings order (e ∷ es) ++ rest) e (spellings order es ++ rest) w (cons-append order e es rest)

entries_again : (order : Order) (es : List Entry) (rest : List ℕ) (m : ℕ) → AllByRecursion IsGood es → DoNotFall 0 es → length es + m ≡ 65536
    → let first = first_time order (spellings order es ++ rest) in entries_of order (spellings order es ++ rest) ≡ with_front (map (arrival (start_time es)) es) (frames_from order first (last_time first es) (24 + length (spellings order es)) m rest)
entries_again order [] rest m good rising count =
    let first = first_time order (spellings order [] ++ rest) in
    ap (λ (n : ℕ). frames_from order first first 24 n (spellings order [] ++ rest)) (sym count) ∙ frames_again order first first 24 m [] rest tt tt
entries_again order (e ∷ es) rest m good rising count =
    let s = spellings order (e ∷ es) ++ rest in
    let first = first_time order s in
    let is : first ≡ time e = first_is order e es rest good.0.0 in
    ap (λ (n : ℕ). frames_from order first first 24 n s) (sym count) ∙ frames_again order first first 24 m (e ∷ es) rest good (omega (arith, is), rising.1)
    ∙ ap (λ (n : ℕ). with_front (map (arrival n) (e ∷ es)) (frames_from order first (last_time first (e ∷ es)) (24 + length (spellings order (e ∷ es))) m rest)) is

-- what is read behind a good front
behind : Order → List Entry → ℕ → List ℕ → Result (List Arrival) WireRefusal
behind order es m rest = let first = first_time order (spellings order es ++ rest) in frames_from order first (last_time first es) (24 + length (spellings order es)) m rest

front_again : (bytes : List ℕ) (order : Order) (other : List ℕ) (es : List Entry) (rest : List ℕ) (m : ℕ) → length bytes ≤ 134217728 → IsFront order other es → bytes ≡ front order other es ++ rest → length es + m ≡ 65536
    → reading bytes ≡ with_front (map (arrival (start_time es)) es) (behind order es m rest)
unfolding behind
front_again bytes order other es rest m le f is count =
    let h = header_again order other 1 bytes (spellings order es ++ rest) f.other_len (lit< tt) (is ∙ append_assoc (header order other 1) (spellings order es) rest) in
    reading_entries order bytes (spellings order es ++ rest) le h ∙ entries_again order es rest m f.good f.rising count

some_in : (s : List ℕ) → s ≢ [] → 0 < length s
some_in [] ne = absurd (ne refl)
some_in (b ∷ s) ne = omega arith

front_len : (order : Order) (other : List ℕ) (es : List Entry) → length other ≡ 16 → length (front order other es) ≡ 24 + length (spellings order es)
front_len order other es len = omega (arith, length-append (header order other 1) (spellings order es), header_len order other 1 len)

-- a fault in the entry behind a good front
fault_again : (bytes : List ℕ) (order : Order) (other : List ℕ) (es : List Entry) (rest : List ℕ) (d : WireRefusal) → length bytes ≤ 134217728 → IsFront order other es → bytes ≡ front order other es ++ rest → rest ≢ [] → length es < 65536
    → (let first = first_time order (spellings order es ++ rest) in judged (length (front order other es)) (last_time first es) (whole_at order rest) ≡ Err d) → reading bytes ≡ Err d
unfolding behind
fault_again bytes order other es rest d le f is some lt bad =
    let first = first_time order (spellings order es ++ rest) in
    let k = 65536 - (length es + 1) in
    let at_end : judged (24 + length (spellings order es)) (last_time first es) (whole_at order rest) ≡ Err d = ap (λ (n : ℕ). judged n (last_time first es) (whole_at order rest)) (sym (front_len order other es f.other_len)) ∙ bad in
    front_again bytes order other es rest (suc k) le f is (omega arith) ∙ ap (with_front (map (arrival (start_time es)) es)) (stopped order first (last_time first es) (24 + length (spellings order es)) k rest d (some_in rest some) at_end)

cut_is : (order : Order) (rest : List ℕ) (o : Option (Entry × List ℕ)) → IsBytes rest → whole_at order rest ≡ o → IsCutShort order rest → whole_at order rest ≡ None
cut_is order rest None fits e cut = e
cut_is order rest (Some x) fits e cut = let w = whole_is order rest x fits e in absurd (cut x.0 x.1 w.1 w.0)

-- a time before the last one is behind an entry
back_is : (first : ℕ) (es : List Entry) (t : ℕ) → t < last_time 0 es → t < last_time first es
back_is first [] t lt = absurd (omega arith)
back_is first (e ∷ es) t lt = lt

rest_fits : (front rest bytes : List ℕ) → bytes ≡ front ++ rest → IsBytes bytes → IsBytes rest
rest_fits front rest bytes is fits i = subst (λ (n : ℕ). n < 256) (get_or-append-add front rest i 0) (subst (λ (s : List ℕ). get_or s (length front + i) 0 < 256) is (fits (length front + i)))

no_header : (bytes : List ℕ) (o : Option Order) → IsBytes bytes → order_of bytes ≡ o → ((order : Order) (rest : List ℕ) → 20 ≤ length rest → bytes ≡ number order magic ++ rest → ⊥) → order_of bytes ≡ None
no_header bytes None fits e none = e
no_header bytes (Some order) fits e none = let h = order_found order bytes fits e in absurd (none order (drop 4 bytes) (omega (arith, length-drop 4 bytes, h.0)) h.1)

pub spelled_again : (bytes : List ℕ) (fs : List Arrival) → IsSpelled bytes fs → reading bytes ≡ Ok fs
unfolding behind
spelled_again bytes fs (le, (order, other, es, f, is, frames)) =
    let count = f.count in
    let m = 65536 - length es in
    let first = first_time order (spellings order es ++ []) in
    front_again bytes order other es [] m le f (is ∙ sym (append-nil (front order other es))) (omega arith) ∙ ap (with_front (map (arrival (start_time es)) es)) (ended order first (last_time first es) (24 + length (spellings order es)) m)
    ∙ ap (λ (x : List Arrival). Ok x) (append-nil (map (arrival (start_time es)) es) ∙ sym frames)

pub refused_again : (bytes : List ℕ) (e : WireRefusal) → IsBytes bytes → IsRefused bytes e → reading bytes ≡ Err e
unfolding behind
refused_again bytes OutOfMemory fits h = absurd h
refused_again bytes TooLong fits (inl lt) = reading_long bytes lt
refused_again bytes TooLong fits (inr (le, (order, other, es, rest, f, is, some, count))) =
    let first = first_time order (spellings order es ++ rest) in
    front_again bytes order other es rest 0 le f is (omega arith) ∙ ap (with_front (map (arrival (start_time es)) es)) (too_many order first (last_time first es) (24 + length (spellings order es)) rest (some_in rest some))
refused_again bytes BadHeader fits (le, none) = reading_none bytes le (no_header bytes (order_of bytes) fits refl none)
refused_again bytes (LinkType n) fits (le, lt, ne, (order, other, rest, len, is)) = reading_link order n bytes rest le (header_again order other n bytes rest len lt is) ne
refused_again bytes (CutShort k) fits (le, (order, other, es, rest, f, is, some, (lt, at_is, cut))) =
    let first = first_time order (spellings order es ++ rest) in
    let none = cut_is order rest (whole_at order rest) (rest_fits (front order other es) rest bytes is fits) refl cut in
    fault_again bytes order other es rest (CutShort k) le f is some lt (ap (judged (length (front order other es)) (last_time first es)) none ∙ ap (λ (n : ℕ). Err (CutShort n)) (sym at_is))
refused_again bytes (Length k) fits (le, (order, other, es, rest, f, is, some, (lt, at_is, (e, more, w, parts, bad)))) =
    let first = first_time order (spellings order es ++ rest) in
    let whole = whole_of order rest e more w parts in
    fault_again bytes order other es rest (Length k) le f is some lt (ap (judged (length (front order other es)) (last_time first es)) whole ∙ judged_bad (length (front order other es)) (last_time first es) (e, more) bad ∙ ap (λ (n : ℕ). Err (Length n)) (sym at_is))
refused_again bytes (Backwards k) fits (le, (order, other, es, rest, f, is, some, (lt, at_is, (e, more, good, parts, before)))) =
    let first = first_time order (spellings order es ++ rest) in
    let whole = whole_of order rest e more good.0 parts in
    fault_again bytes order other es rest (Backwards k) le f is some lt (ap (judged (length (front order other es)) (last_time first es)) whole ∙ judged_back (length (front order other es)) (last_time first es) (e, more) good.1 (back_is first es (time e) before) ∙ ap (λ (n : ℕ). Err (Backwards n)) (sym at_is))

read_again : (bytes : List ℕ) (r : Result (List Arrival) WireRefusal) → IsBytes bytes → IsReading bytes r → reading bytes ≡ r
read_again bytes (Ok fs) fits h = spelled_again bytes fs h
read_again bytes (Err e) fits h = refused_again bytes e fits h

-- ---- each file has a reading

abbrev HasReading : List ℕ → Type 0
HasReading bytes = (r : Result (List Arrival) WireRefusal) × IsReading bytes r

whole_front : (bytes : List ℕ) (order : Order) (other : List ℕ) (es : List Entry) (rest : List ℕ) → bytes ≡ header order other 1 ++ drop 24 bytes → drop 24 bytes ≡ spellings order es ++ rest → bytes ≡ front order other es ++ rest
whole_front bytes order other es rest is parts = is ∙ ap (λ (x : List ℕ). header order other 1 ++ x) parts ∙ sym (append_assoc (header order other 1) (spellings order es) rest)

not_nil : (s : List ℕ) → 0 < length s → s ≢ []
not_nil s lt e = omega (arith, lt, ap length e)

none_some : (order : Order) (rest : List ℕ) (x : Entry × List ℕ) → whole_at order rest ≡ None → whole_at order rest ≡ Some x → ⊥
none_some order rest x none some = cc

at_fault : (bytes : List ℕ) (order : Order) (other : List ℕ) (es : List Entry) (rest : List ℕ) → length bytes ≤ 134217728 → IsFront order other es → bytes ≡ front order other es ++ rest → IsBytes rest → 0 < length rest → length es < 65536
    → IsBad order (last_time 0 es) rest → HasReading bytes
at_fault bytes order other es rest le f is fits some lt (inl none) =
    (Err (CutShort (length (front order other es))), (le, (order, other, es, rest, f, is, not_nil rest some, (lt, refl, λ e more w parts. absurd (none_some order rest (e, more) none (whole_of order rest e more w parts))))))
at_fault bytes order other es rest le f is fits some lt (inr (x, whole, inl bad)) =
    let w = whole_is order rest x fits whole in
    (Err (Length (length (front order other es))), (le, (order, other, es, rest, f, is, not_nil rest some, (lt, refl, (x.0, x.1, w.1, w.0, bad)))))
at_fault bytes order other es rest le f is fits some lt (inr (x, whole, inr (good, before))) =
    let w = whole_is order rest x fits whole in
    (Err (Backwards (length (front order other es))), (le, (order, other, es, rest, f, is, not_nil rest some, (lt, refl, (x.0, x.1, (w.1, good), w.0, before)))))

by_stop : (bytes : List ℕ) (order : Order) (other : List ℕ) → length bytes ≤ 134217728 → length other ≡ 16 → bytes ≡ header order other 1 ++ drop 24 bytes → (l : Longest order 0 65536 (drop 24 bytes)) → Stops order (last_time 0 l.es) l.left l.rest → HasReading bytes
by_stop bytes order other le len is l (inl nothing) =
    let f : IsFront order other l.es = record { other_len = len; good = l.good; rising = l.rising; count = omega (arith, l.count) } in
    let spelled : bytes ≡ front order other l.es = whole_front bytes order other l.es l.rest is l.parts ∙ ap (λ (x : List ℕ). front order other l.es ++ x) nothing ∙ append-nil (front order other l.es) in
    (Ok (map (arrival (start_time l.es)) l.es), (le, (order, other, l.es, f, spelled, refl)))
by_stop bytes order other le len is l (inr (some, inl full)) =
    let f : IsFront order other l.es = record { other_len = len; good = l.good; rising = l.rising; count = omega (arith, l.count) } in
    (Err TooLong, inr (le, (order, other, l.es, l.rest, f, whole_front bytes order other l.es l.rest is l.parts, not_nil l.rest some, omega (arith, l.count, full))))
by_stop bytes order other le len is l (inr (some, inr (more, bad))) =
    let f : IsFront order other l.es = record { other_len = len; good = l.good; rising = l.rising; count = omega (arith, l.count) } in
    at_fault bytes order other l.es l.rest le f (whole_front bytes order other l.es l.rest is l.parts) l.fits some (omega (arith, l.count, more)) bad

by_link : (bytes : List ℕ) (order : Order) (b : Bool) → IsBytes bytes → length bytes ≤ 134217728 → 24 ≤ length bytes → bytes ≡ number order magic ++ drop 4 bytes → eqb (value order (field 20 bytes)) 1 ≡ b → HasReading bytes
by_link bytes order true fits le long is link =
    let l = longest order 0 65536 (drop 24 bytes) (IsBytes-drop 24 bytes fits) in
    let parts = header_parts order bytes fits long is in
    by_stop bytes order (take 16 (drop 4 bytes)) le (other_len bytes long) (subst (λ (n : ℕ). bytes ≡ header order (take 16 (drop 4 bytes)) n ++ drop 24 bytes) (eqb-true _ _ link) parts) l l.stop
by_link bytes order false fits le long is link =
    (Err (LinkType (value order (field 20 bytes))), (le, field_fits order 20 bytes fits, eqb-false _ _ link, (order, take 16 (drop 4 bytes), drop 24 bytes, other_len bytes long, header_parts order bytes fits long is)))

bad_header : (bytes : List ℕ) → order_of bytes ≡ None → (order : Order) (rest : List ℕ) → 20 ≤ length rest → bytes ≡ number order magic ++ rest → ⊥
bad_header bytes none order rest long is =
    let some = order_again order bytes rest (omega (arith, ap length is, length-append (number order magic) rest, number_len order magic)) is in
    cc

by_header : (bytes : List ℕ) (o : Option Order) → IsBytes bytes → length bytes ≤ 134217728 → order_of bytes ≡ o → HasReading bytes
by_header bytes None fits le is = (Err BadHeader, (le, bad_header bytes is))
by_header bytes (Some order) fits le is = let h = order_found order bytes fits is in by_link bytes order (eqb (value order (field 20 bytes)) 1) fits le h.0 h.1 refl

has_reading : (bytes : List ℕ) → IsBytes bytes → HasReading bytes
has_reading bytes fits =
    elim (cases_lt 134217728 (length bytes)) [
      | inl lt ↦ (Err TooLong, inl lt)
      | inr le ↦ by_header bytes (order_of bytes) fits le refl
    ]

pub is_read : (bytes : List ℕ) (r : Result (List Arrival) WireRefusal) → IsBytes bytes → reading bytes ≡ r → IsReading bytes r
is_read bytes r fits e =
    let h = has_reading bytes fits in
    subst (λ (x : Result (List Arrival) WireRefusal). IsReading bytes x) (sym (read_again bytes h.0 fits h.1) ∙ e) h.1

-- ---- what a reader's answer says

abbrev read_ok : List Arrival → Result (List Arrival) WireRefusal
read_ok fs = Ok fs

abbrev read_err : WireRefusal → Result (List Arrival) WireRefusal
read_err e = Err e

ok_ok : (a b : List Arrival) → read_ok a ≡ read_ok b → a ≡ b
ok_ok a b e = cc

err_err : (a b : WireRefusal) → read_err a ≡ read_err b → a ≡ b
err_err a b e = cc

ok_err : (a : List Arrival) (b : WireRefusal) → read_ok a ≡ read_err b → ⊥
ok_err a b e = cc

-- what is read, or its fault, or want of memory where frames are to be read
abbrev pub Answers : List ℕ → Result (Vec Arrival) WireRefusal → Type 0
Answers bytes r = MatchResult r (λ v. reading bytes ≡ Ok v.items) (λ e. (reading bytes ≡ Err e) ⊎ ((e ≡ OutOfMemory) × IsOk (reading bytes)))

pub is_found : (bytes : List ℕ) (r : Result (Vec Arrival) WireRefusal) → IsBytes bytes → Answers bytes r → IfOk r (λ v. IsSpelled bytes v.items)
is_found bytes (Ok v) fits h = is_read bytes (Ok v.items) fits h
is_found bytes (Err e) fits h = tt

pub is_only : (bytes : List ℕ) (r : Result (Vec Arrival) WireRefusal) (fs : List Arrival) → IsSpelled bytes fs → Answers bytes r → MatchResult r (λ v. v.items ≡ fs) (λ e. e ≡ OutOfMemory)
is_only bytes (Ok v) fs spelled h = ok_ok v.items fs (sym h ∙ spelled_again bytes fs spelled)
is_only bytes (Err e) fs spelled (inl is) = absurd (ok_err fs e (sym (spelled_again bytes fs spelled) ∙ is))
is_only bytes (Err e) fs spelled (inr m) = m.0

pub is_refused : (bytes : List ℕ) (r : Result (Vec Arrival) WireRefusal) → IsBytes bytes → Answers bytes r → IfErr r (λ e. (e ≡ OutOfMemory) ⊎ IsRefused bytes e)
is_refused bytes (Ok v) fits h = tt
is_refused bytes (Err e) fits (inl is) = inr (is_read bytes (Err e) fits is)
is_refused bytes (Err e) fits (inr m) = inl m.0

-- an error is no reading's value
not_ok : (bytes : List ℕ) (e : WireRefusal) → reading bytes ≡ Err e → IsOk (reading bytes) → ⊥
not_ok bytes e is ok =
    let bad : IsOk (read_err e) = subst (λ (r : Result (List Arrival) WireRefusal). IsOk r) is ok in
    cc

pub is_first : (bytes : List ℕ) (r : Result (Vec Arrival) WireRefusal) (e : WireRefusal) → IsBytes bytes → IsRefused bytes e → Answers bytes r → r ≡ Err e
is_first bytes (Ok v) e fits refused h = absurd (ok_err v.items e (sym h ∙ refused_again bytes e fits refused))
is_first bytes (Err d) e fits refused (inl is) = ap (λ (x : WireRefusal). Err x) (err_err d e (sym is ∙ refused_again bytes e fits refused))
is_first bytes (Err d) e fits refused (inr m) = absurd (not_ok bytes e (refused_again bytes e fits refused) m.1)

spelled_where_ok : (bytes : List ℕ) (read : Result (List Arrival) WireRefusal) → IsBytes bytes → reading bytes ≡ read → IsOk read → (fs : List Arrival) × IsSpelled bytes fs
spelled_where_ok bytes (Ok fs) fits is ok = (fs, is_read bytes (Ok fs) fits is)
spelled_where_ok bytes (Err e) fits is ok = absurd cc

pub is_memory : (bytes : List ℕ) (r : Result (Vec Arrival) WireRefusal) → IsBytes bytes → Answers bytes r → r ≡ Err OutOfMemory → (fs : List Arrival) × IsSpelled bytes fs
is_memory bytes (Ok v) fits h e = absurd cc
is_memory bytes (Err d) fits (inl is) e =
    let same : d ≡ OutOfMemory = cc in
    absurd (subst (λ (x : WireRefusal). IsRefused bytes x) same (is_read bytes (Err d) fits is))
is_memory bytes (Err d) fits (inr m) e = spelled_where_ok bytes (reading bytes) fits refl m.1

three_true : (a b c : Bool) → (a && (b && c)) ≡ true → (b ≡ true) × (c ≡ true)
three_true true true true e = (refl, refl)
three_true true true false e = absurd cc
three_true true false c e = absurd cc
three_true false b c e = absurd cc

long_enough : (e : Entry) → IsGood e → (14 ≤ length e.frame) × (length e.frame ≤ 1514)
long_enough e good =
    let t = three_true (eqb e.included e.original) (leb 14 e.included) (leb e.included 1514) good.1 in
    let len = good.0.frame in
    (omega (arith, len, leb-true _ _ t.0), omega (arith, len, leb-true _ _ t.1))

arrives : (first : ℕ) (e : Entry) → IsGood e → IsFrameBelow (2 ^ 52) (arrival first e)
arrives first e good =
    let seconds = good.0.seconds in
    let microseconds = good.0.microseconds in
    record { length_fits = long_enough e good; stamp = omega arith }

arrive : (first : ℕ) (es : List Entry) → AllByRecursion IsGood es → AllByRecursion (IsFrameBelow (2 ^ 52)) (map (arrival first) es)
arrive first [] good = tt
arrive first (e ∷ es) good = (arrives first e good.0, arrive first es good.1)

rise : (first last stamp : ℕ) (es : List Entry) → stamp ≤ 1000000 + (last - first) → DoNotFall last es → StampsDoNotFall stamp (map (arrival first) es)
rise first last stamp [] le rising = tt
rise first last stamp (e ∷ es) le rising =
    let later = rising.0 in
    (omega (arith, later), rise first (time e) (1000000 + (time e - first)) es (omega arith) rising.1)

start : (es : List Entry) → StartsAt 1000000 (map (arrival (start_time es)) es)
start [] = tt
start (e ∷ es) = omega arith

lengths : (fs : List Arrival) → AllByRecursion (IsFrameBelow (2 ^ 52)) fs → AllByRecursion IsEthernetLong fs
lengths [] h = tt
lengths (f ∷ fs) h = (h.0.length_fits, lengths fs h.1)

-- the frames that a file has can arrive on a wire
can_arrive : (bytes : List ℕ) (fs : List Arrival) → IsSpelled bytes fs → CanArrive fs
can_arrive bytes fs (le, (order, other, es, f, is, frames)) =
    let count = f.count in
    subst (λ (gs : List Arrival). CanArrive gs) (sym frames) (record { fits = arrive (start_time es) es f.good; rising = rise (start_time es) 0 0 es (omega arith) f.rising; count = omega (arith, length-map es (arrival (start_time es))) })

starts : (bytes : List ℕ) (fs : List Arrival) → IsSpelled bytes fs → StartsAt 1000000 fs
starts bytes fs (le, (order, other, es, f, is, frames)) = subst (λ (gs : List Arrival). StartsAt 1000000 gs) (sym frames) (start es)

pub is_wire : (bytes : List ℕ) (r : Result (Vec Arrival) WireRefusal) → IsBytes bytes → Answers bytes r → IfOk r (λ v. CanArrive v.items)
is_wire bytes (Ok v) fits h = can_arrive bytes v.items (is_read bytes (Ok v.items) fits h)
is_wire bytes (Err e) fits h = tt

pub is_start : (bytes : List ℕ) (r : Result (Vec Arrival) WireRefusal) → IsBytes bytes → Answers bytes r → IfOk r (λ v. StartsAt 1000000 v.items)
is_start bytes (Ok v) fits h = starts bytes v.items (is_read bytes (Ok v.items) fits h)
is_start bytes (Err e) fits h = tt

pub are_lengths : (bytes : List ℕ) (r : Result (Vec Arrival) WireRefusal) → IsBytes bytes → Answers bytes r → IfOk r (λ v. AllByRecursion IsEthernetLong v.items)
are_lengths bytes (Ok v) fits h = let can = can_arrive bytes v.items (is_read bytes (Ok v.items) fits h) in lengths v.items can.fits
are_lengths bytes (Err e) fits h = tt

pub one_value : (bytes : List ℕ) (a b : List Arrival) → IsSpelled bytes a → IsSpelled bytes b → a ≡ b
one_value bytes a b p q = ok_ok a b (sym (spelled_again bytes a p) ∙ spelled_again bytes b q)

pub one_refusal : (bytes : List ℕ) (d e : WireRefusal) → IsBytes bytes → IsRefused bytes d → IsRefused bytes e → d ≡ e
one_refusal bytes d e fits p q = err_err d e (sym (refused_again bytes d fits p) ∙ refused_again bytes e fits q)

pub never_both : (bytes : List ℕ) (a : List Arrival) (e : WireRefusal) → IsBytes bytes → IsSpelled bytes a → IsRefused bytes e → ⊥
never_both bytes a e fits p q = ok_err a e (sym (spelled_again bytes a p) ∙ refused_again bytes e fits q)
