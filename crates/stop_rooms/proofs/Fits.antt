-- What each kind of entry does to the room that the stops take.
use Rattle.std.proofs.Common.{◌≡◌, ℕ, zero, suc, ◌+◌, ◌≤◌, Bool, true, false, not, ◌&&◌, ◌==◌, cond, List, [], ◌∷◌, Option, Some, None, refl, sym, ap, ◌∙◌, arith}
use Rattle.std.specs.Prelude.{count_by, slice_get}
use Rattle.std.specs.List.{position}
use Rattle.std.specs.Option.{option_map_or}
use Rattle.std.proofs.lemmas.Option.{slice_get-get_or}
use Rattle.std.proofs.lemmas.List.Quantifiers.{position-Some}
use Rattle.nd_base.specs.declared.numbers.AdapterNo.{AdapterNo}
use Rattle.nd_base.specs.declared.numbers.Phase.{Phase}
use Rattle.nd_base.specs.declared.numbers.Phase.TheVariants as phases
use Rattle.log_fields.specs.declared.field_values.Handler.{Handler}
use Rattle.call_log.specs.declared.entry.Entry.{Entry}
use Rattle.call_log.specs.declared.entry.Entry.TheVariants as entries
use Rattle.owner_machine.specs.declared.rows.Adapter.{Adapter}
use Rattle.owner_machine.specs.declared.rows.Context.{Context}
use Rattle.owner_machine.specs.declared.rows.Context.TheVariants.{Open}
use Rattle.owner_machine.specs.declared.rows.OpenCall.{OpenCall}
use Rattle.owner_machine.specs.declared.rows.Loan.{Loan}
use Rattle.owner_machine.specs.declared.rows.LoanPlace.{LoanPlace}
use Rattle.owner_machine.specs.declared.rows.LoanPlace.TheVariants as loan_places
use Rattle.owner_machine.specs.declared.rows.Packet.{Packet}
use Rattle.owner_machine.specs.declared.rows.Place.{Place}
use Rattle.owner_machine.specs.declared.rows.Place.TheVariants as places
use Rattle.owner_machine.specs.declared.rows.Request.{Request}
use Rattle.owner_machine.specs.declared.rows.RequestPlace.{RequestPlace}
use Rattle.owner_machine.specs.declared.rows.RequestPlace.TheVariants as request_places
use Rattle.owner_machine.specs.State.{Owner, adapter_of, at, change, is_number, is_resetting, is_running, is_stopped, stands}
use Rattle.owner_machine.specs.Adapters.{reset_begun, reset_ended, stopped, held_back_now, with_cancel, with_event, cancel_waits}
use Rattle.owner_machine.specs.Handlers.{adapter_entered, adapter_left, adapters_answered, adapters_called, adapters_entered, adapters_left, entry_left, off_unless_stopped, outstanding, resources, sets_attributes, with_attributes}
use Rattle.owner_machine.specs.Loans.{away_of, gone_home, holds, is_away, is_lent, lent, returned}
use Rattle.owner_machine.specs.Machine.{after, has_case}
use Rattle.owner_machine.specs.Packets.{completed, enter_of, handed, is_miniport, is_out, is_queue, out_of, packet_adapter, placed, queued_of, sent, tagged}
use Rattle.owner_machine.specs.Requests.{answered, ask_enter, asked, asked_of, handed_ask, is_asked, is_open, open_of, request_adapter}
use Rattle.owner_machine.specs.Laws.{number}
use Rattle.owner_book.specs.Stopping.{stop_room}
use Rattle.stop_rooms.specs.Rooms.{needs_room}
use Rattle.stop_rooms.proofs.Sums.{StayStopped, all_stay, count_changed, count_pushed, fits, fits_more, stay_changed}

-- ---- tests

and_first : (a b : Bool) → a && b ≡ true → a ≡ true
and_first true b h = refl
and_first false b h = h

and_second : (a b : Bool) → a && b ≡ true → b ≡ true
and_second true b h = h
and_second false b h = absurd (cc)

-- the row of a number passes where there is one
row_passes : {A : Type 0} (test : A → Bool) (xs : List A) (k : ℕ) (x : A) → at test xs k ≡ true → slice_get xs k ≡ Some x → test x ≡ true
row_passes test xs k x h is = sym (ap (λ (o : Option _). option_map_or test o false) is) ∙ h

first_passes : {A : Type 0} (test : A → Bool) (xs : List A) (k : ℕ) (x : A) → is_number (position test xs) k ≡ true → slice_get xs k ≡ Some x → test x ≡ true
first_passes test xs k x h is = by (position test xs) refl h
  where
    by : (o : Option ℕ) → position test xs ≡ o → is_number o k ≡ true → test x ≡ true
    by None found h = absurd (cc)
    by (Some n) found h =
        let same : n ≡ k = grind arith in
        let there = position-Some test xs k x (found ∙ ap (λ (m : ℕ). Some m) same) in
        row_passes test xs k x (ap (λ o. option_map_or test o false) (slice_get-get_or xs k x there.0) ∙ there.1) is

-- ---- where as much is outstanding

same_out : (o m : Owner) → m.packets ≡ o.packets → m.loans ≡ o.loans → m.requests ≡ o.requests → (a : ℕ) → outstanding m a ≤ outstanding o a
same_out o m one two three a =
    let p = ap (count_by (out_of a)) one in
    let l = ap (count_by (away_of a)) two in
    let r = ap (count_by (open_of a)) three in
    omega (arith, p, l, r)

packets_out : (o m : Owner) (f : Packet → Packet) (k : ℕ) → m.packets ≡ change f o.packets k → m.loans ≡ o.loans → m.requests ≡ o.requests
    → ((p : Packet) (a : ℕ) → slice_get o.packets k ≡ Some p → out_of a (f p) ≡ true → out_of a p ≡ true) → (a : ℕ) → outstanding m a ≤ outstanding o a
packets_out o m f k one two three same a =
    let p = ap (count_by (out_of a)) one in
    let less = count_changed (out_of a) f o.packets k (λ row is. same row a is) in
    let l = ap (count_by (away_of a)) two in
    let r = ap (count_by (open_of a)) three in
    omega (arith, p, less, l, r)

loans_out : (o m : Owner) (f : Loan → Loan) (k : ℕ) → m.packets ≡ o.packets → m.loans ≡ change f o.loans k → m.requests ≡ o.requests
    → ((l : Loan) (a : ℕ) → slice_get o.loans k ≡ Some l → away_of a (f l) ≡ true → away_of a l ≡ true) → (a : ℕ) → outstanding m a ≤ outstanding o a
loans_out o m f k one two three same a =
    let p = ap (count_by (out_of a)) one in
    let less = count_changed (away_of a) f o.loans k (λ row is. same row a is) in
    let l = ap (count_by (away_of a)) two in
    let r = ap (count_by (open_of a)) three in
    omega (arith, p, less, l, r)

requests_out : (o m : Owner) (f : Request → Request) (k : ℕ) → m.packets ≡ o.packets → m.loans ≡ o.loans → m.requests ≡ change f o.requests k
    → ((q : Request) (a : ℕ) → slice_get o.requests k ≡ Some q → open_of a (f q) ≡ true → open_of a q ≡ true) → (a : ℕ) → outstanding m a ≤ outstanding o a
requests_out o m f k one two three same a =
    let p = ap (count_by (out_of a)) one in
    let less = count_changed (open_of a) f o.requests k (λ row is. same row a is) in
    let l = ap (count_by (away_of a)) two in
    let r = ap (count_by (open_of a)) three in
    omega (arith, p, less, l, r)

-- ---- what a change leaves out

out_again : (place : Place) (a : ℕ) (p q : Packet) → is_out p.place ≡ true → q.adapter ≡ p.adapter → out_of a q ≡ true → out_of a p ≡ true
out_again place a p q out same h =
    let mine : (q.adapter.0 == a) ≡ true = and_second (is_out q.place) (q.adapter.0 == a) h in
    let it : (p.adapter.0 == a) ≡ true = ap (λ (n : AdapterNo). n.0 == a) (sym same) ∙ mine in
    rw (out, it) refl

queue_is_out : (place : Place) → is_queue place ≡ true → is_out place ≡ true
queue_is_out places.Queue h = refl
queue_is_out places.Miniport h = absurd (cc)
queue_is_out places.Refused h = absurd (cc)
queue_is_out places.Aborted h = absurd (cc)
queue_is_out places.Done h = absurd (cc)

miniport_is_out : (place : Place) → is_miniport place ≡ true → is_out place ≡ true
miniport_is_out places.Queue h = absurd (cc)
miniport_is_out places.Miniport h = refl
miniport_is_out places.Refused h = absurd (cc)
miniport_is_out places.Aborted h = absurd (cc)
miniport_is_out places.Done h = absurd (cc)

never_out : (b : Bool) (a : ℕ) (p : Packet) → out_of a (placed (cond b places.Aborted places.Done) p) ≡ true → out_of a p ≡ true
never_out true a p h = absurd (cc)
never_out false a p h = absurd (cc)

lent_is_away : (place : LoanPlace) → is_lent place ≡ true → is_away place ≡ true
lent_is_away loan_places.Out h = refl
lent_is_away loan_places.Due h = refl
lent_is_away loan_places.Home h = absurd (cc)

asked_is_open : (place : RequestPlace) → is_asked place ≡ true → is_open place ≡ true
asked_is_open request_places.Asked h = refl
asked_is_open request_places.Handed h = refl
asked_is_open request_places.Refused h = refl
asked_is_open request_places.Answered h = absurd (cc)

-- ---- rows

-- a row of an adapter that stands is not stopped
not_stopped : {A : Type 0} (rows : List Adapter) (k : ℕ) (row : Adapter) → at (λ r. not (is_stopped r.phase)) rows k ≡ true → slice_get rows k ≡ Some row → is_stopped row.phase ≡ true → A
not_stopped rows k row h is stop =
    let live : not (is_stopped row.phase) ≡ true = row_passes (λ (r : Adapter). not (is_stopped r.phase)) rows k row h is in
    let e : not true ≡ true = sym (ap not stop) ∙ live in
    absurd (cc)

running_is_live : {A : Type 0} (phase : Phase) → is_running phase ≡ true → is_stopped phase ≡ true → A
running_is_live phases.Running h stop = absurd (cc)
running_is_live phases.Starting h stop = absurd (cc)
running_is_live phases.Resetting h stop = absurd (cc)
running_is_live phases.Halting h stop = absurd (cc)
running_is_live phases.Off h stop = absurd (cc)
running_is_live phases.Stopped h stop = absurd (cc)

resetting_is_live : {A : Type 0} (phase : Phase) → is_resetting phase ≡ true → is_stopped phase ≡ true → A
resetting_is_live phases.Resetting h stop = absurd (cc)
resetting_is_live phases.Starting h stop = absurd (cc)
resetting_is_live phases.Running h stop = absurd (cc)
resetting_is_live phases.Halting h stop = absurd (cc)
resetting_is_live phases.Off h stop = absurd (cc)
resetting_is_live phases.Stopped h stop = absurd (cc)

entry_stays : (eax : ℕ) (rows : List Adapter) → StayStopped rows (entry_left eax rows)
entry_stays zero rows = all_stay rows
entry_stays (suc eax) [] = tt
entry_stays (suc eax) (row ∷ rows) = ((λ h. by row.phase h), entry_stays (suc eax) rows)
  where
    by : (phase : Phase) → is_stopped phase ≡ true → is_stopped (off_unless_stopped phase) ≡ true
    by phases.Stopped h = refl
    by phases.Starting h = absurd (cc)
    by phases.Running h = absurd (cc)
    by phases.Resetting h = absurd (cc)
    by phases.Halting h = absurd (cc)
    by phases.Off h = absurd (cc)

-- the phase of a row of an adapter that stands may be any other
live_changed : (f : Adapter → Adapter) (rows : List Adapter) (k : ℕ) → at (λ r. not (is_stopped r.phase)) rows k ≡ true → StayStopped rows (change f rows k)
live_changed f rows k h = stay_changed f rows k (λ row is stop. not_stopped rows k row h is stop)

-- a change that keeps the phase
same_phase : (f : Adapter → Adapter) (rows : List Adapter) (k : ℕ) → ((row : Adapter) → (f row).phase ≡ row.phase) → StayStopped rows (change f rows k)
same_phase f rows k same = stay_changed f rows k (λ row is stop. ap is_stopped (same row) ∙ stop)

-- the adapter of an open handler stands
abbrev pub OpenStand : Owner → Type 0
OpenStand o = (x : ℕ) (a : AdapterNo) (h : Handler) (enter : ℕ) (call : Option OpenCall) → slice_get o.contexts x ≡ Some (Open (Some a) h enter call) → stands o a.0 ≡ true

entered_stays : (o : Owner) (a : Option AdapterNo) (c : ℕ) (h : Handler) (words : List ℕ) → ((n : AdapterNo) → a ≡ Some n → stands o n.0 ≡ true) → StayStopped o.adapters (adapters_entered o.adapters a h)
entered_stays o None c h words stand = all_stay o.adapters
entered_stays o (Some n) c h words stand = live_changed (adapter_entered h) o.adapters n.0 (stand n refl)

left_stays : (o : Owner) (x : ℕ) (context : Option Context) (eax : ℕ) → OpenStand o → slice_get o.contexts x ≡ context → StayStopped o.adapters (adapters_left o.adapters context eax)
left_stays o x (Some (Open (Some a) h enter call)) eax stand is = live_changed (adapter_left h eax) o.adapters a.0 (stand x a h enter call is)
left_stays o x (Some (Open None h enter call)) eax stand is = entry_stays eax o.adapters
left_stays o x _ eax stand is = all_stay o.adapters

called_stays : (rows : List Adapter) (context : Option Context) (import : ℕ) → StayStopped rows (adapters_called rows context import)
called_stays rows (Some (Open (Some a) h enter call)) import = same_phase (resources import) rows a.0 (λ row. refl)
called_stays rows _ import = all_stay rows

answered_stays : (rows : List Adapter) (context : Option Context) → StayStopped rows (adapters_answered rows context)
answered_stays rows (Some (Open (Some a) h enter (Some call))) = same_phase (with_attributes (sets_attributes h call) call.flags) rows a.0 (λ row. refl)
answered_stays rows _ = all_stay rows

-- ---- by kind

may_be_entered : (o : Owner) (a : Option AdapterNo) (x : ℕ) (h : Handler) → has_case o (entries.Enter a (record { 0 = x }) h [] []) ≡ true → (n : AdapterNo) → a ≡ Some n → stands o n.0 ≡ true
may_be_entered o None x h may n is = absurd (cc)
may_be_entered o (Some m) x h may n is =
    let same : m ≡ n = cc in
    let rest = and_second _ _ (and_second _ _ may) in
    ap (λ (a : AdapterNo). stands o a.0) (sym same) ∙ and_first (stands o m.0) _ rest

pub fits_kind : (o : Owner) (e : Entry) → OpenStand o → has_case o e ≡ true → needs_room e ≡ false → stop_room (after o e) ≤ stop_room o
fits_kind o (entries.Bind d a) stand h plain = fits o (after o (entries.Bind d a)) (all_stay o.adapters) (same_out o (after o (entries.Bind d a)) refl refl refl)
fits_kind o (entries.Unbind d) stand h plain = fits o (after o (entries.Unbind d)) (all_stay o.adapters) (same_out o (after o (entries.Unbind d)) refl refl refl)
fits_kind o (entries.Send d k bytes) stand h plain = absurd (cc)
fits_kind o (entries.Tag k id) stand h plain = fits o (after o (entries.Tag k id)) (all_stay o.adapters) (packets_out o (after o (entries.Tag k id)) (tagged id) k.0 refl refl refl (λ p a is out. out))
fits_kind o (entries.Cancel d id) stand h plain = fits o (after o (entries.Cancel d id)) (same_phase (with_cancel (cancel_waits o d.0 id) id) o.adapters (adapter_of o d.0) (λ row. refl)) (same_out o (after o (entries.Cancel d id)) refl refl refl)
fits_kind o (entries.Event d number bytes taken) stand h plain = fits o (after o (entries.Event d number bytes taken)) (same_phase (with_event taken number bytes) o.adapters (adapter_of o d.0) (λ row. refl)) (same_out o (after o (entries.Event d number bytes taken)) refl refl refl)
fits_kind o (entries.Hand k) stand h plain =
    fits o (after o (entries.Hand k)) (all_stay o.adapters) (packets_out o (after o (entries.Hand k)) (handed (enter_of o.next)) k.0 refl refl refl
    (λ p a is out. let queued = first_passes (queued_of (packet_adapter o k.0)) o.packets k.0 p (and_second _ _ h) is in out_again p.place a p (handed (enter_of o.next) p) (queue_is_out p.place (and_first (is_queue p.place) _ queued)) refl out))
fits_kind o (entries.Requeue k) stand h plain =
    fits o (after o (entries.Requeue k)) (same_phase held_back_now o.adapters (packet_adapter o k.0) (λ row. refl)) (packets_out o (after o (entries.Requeue k)) (placed places.Queue) k.0 refl refl refl
    (λ p a is out. let held = row_passes (λ (q : Packet). is_miniport q.place) o.packets k.0 p (and_first _ _ (and_second _ _ h)) is in out_again p.place a p (placed places.Queue p) (miniport_is_out p.place held) refl out))
fits_kind o (entries.Complete k status) stand h plain = fits o (after o (entries.Complete k status)) (all_stay o.adapters) (packets_out o (after o (entries.Complete k status)) (completed o.next) k.0 refl refl refl (λ p a is out. never_out _ a p out))
fits_kind o (entries.Late k) stand h plain = fits o (after o (entries.Late k)) (all_stay o.adapters) (packets_out o (after o (entries.Late k)) (placed places.Done) k.0 refl refl refl (λ p a is out. absurd (cc)))
fits_kind o (entries.Indicate a j bytes holders copied) stand h plain = absurd (cc)
fits_kind o (entries.Return d j) stand h plain =
    fits o (after o (entries.Return d j)) (all_stay o.adapters) (loans_out o (after o (entries.Return d j)) (returned d.0) j.0 refl refl refl
    (λ l a is out. let held = row_passes (holds d.0) o.loans j.0 l h is in let away = lent_is_away l.place (and_first (is_lent l.place) _ held) in let mine : (l.adapter.0 == a) ≡ true = and_second _ (l.adapter.0 == a) out in rw (away, mine) refl))
fits_kind o (entries.Back j failed) stand h plain = fits o (after o (entries.Back j failed)) (all_stay o.adapters) (loans_out o (after o (entries.Back j failed)) gone_home j.0 refl refl refl (λ l a is out. absurd (cc)))
fits_kind o (entries.Ask d r question) stand h plain = absurd (cc)
fits_kind o (entries.HandAsk r) stand h plain =
    fits o (after o (entries.HandAsk r)) (all_stay o.adapters) (requests_out o (after o (entries.HandAsk r)) (handed_ask (ask_enter o.next)) r.0 refl refl refl
    (λ q a is out. let waits = first_passes (asked_of (request_adapter o r.0)) o.requests r.0 q (and_first _ _ (and_second _ _ h)) is in let open_now = asked_is_open q.place (and_first (is_asked q.place) _ waits) in let mine : (q.adapter.0 == a) ≡ true = and_second true (q.adapter.0 == a) out in rw (open_now, mine) refl))
fits_kind o (entries.Answer r status bytes) stand h plain = fits o (after o (entries.Answer r status bytes)) (all_stay o.adapters) (requests_out o (after o (entries.Answer r status bytes)) answered r.0 refl refl refl (λ q a is out. absurd (cc)))
fits_kind o (entries.ResetBegin a) stand h plain =
    fits o (after o (entries.ResetBegin a)) (stay_changed reset_begun o.adapters a.0 (λ row is stop. let runs = row_passes (λ (r : Adapter). is_running r.phase && r.owes_reset) o.adapters a.0 row (and_first _ _ h) is in running_is_live row.phase (and_first (is_running row.phase) row.owes_reset runs) stop)) (same_out o (after o (entries.ResetBegin a)) refl refl refl)
fits_kind o (entries.ResetEnd a status) stand h plain =
    fits o (after o (entries.ResetEnd a status)) (stay_changed reset_ended o.adapters a.0 (λ row is stop. let resets = row_passes (λ (r : Adapter). is_resetting r.phase) o.adapters a.0 row (and_first _ _ h) is in resetting_is_live row.phase resets stop)) (same_out o (after o (entries.ResetEnd a status)) refl refl refl)
fits_kind o (entries.Enter a x handler words writes) stand h plain = fits o (after o (entries.Enter a x handler words writes)) (entered_stays o a x.0 handler words (may_be_entered o a x.0 handler h)) (same_out o (after o (entries.Enter a x handler words writes)) refl refl refl)
fits_kind o (entries.Leave x eax) stand h plain = fits o (after o (entries.Leave x eax)) (left_stays o x.0 (slice_get o.contexts x.0) eax stand refl) (same_out o (after o (entries.Leave x eax)) refl refl refl)
fits_kind o (entries.Call x import words) stand h plain = fits o (after o (entries.Call x import words)) (called_stays o.adapters (slice_get o.contexts x.0) import) (same_out o (after o (entries.Call x import words)) refl refl refl)
fits_kind o (entries.Reply x eax writes) stand h plain = fits o (after o (entries.Reply x eax writes)) (answered_stays o.adapters (slice_get o.contexts x.0)) (same_out o (after o (entries.Reply x eax writes)) refl refl refl)
fits_kind o (entries.Stop a cause) stand h plain = fits o (after o (entries.Stop a cause)) (stay_changed stopped o.adapters a.0 (λ row is stop. refl)) (same_out o (after o (entries.Stop a cause)) refl refl refl)
fits_kind o (entries.Done d) stand h plain = fits o (after o (entries.Done d)) (all_stay o.adapters) (same_out o (after o (entries.Done d)) refl refl refl)
fits_kind o (entries.Await d what) stand h plain = fits o (after o (entries.Await d what)) (all_stay o.adapters) (same_out o (after o (entries.Await d what)) refl refl refl)
fits_kind o (entries.Quiet d) stand h plain = fits o (after o (entries.Quiet d)) (all_stay o.adapters) (same_out o (after o (entries.Quiet d)) refl refl refl)
fits_kind o (entries.Turn x n) stand h plain = fits o (after o (entries.Turn x n)) (all_stay o.adapters) (same_out o (after o (entries.Turn x n)) refl refl refl)
fits_kind o (entries.Fault x kind address) stand h plain = fits o (after o (entries.Fault x kind address)) (all_stay o.adapters) (same_out o (after o (entries.Fault x kind address)) refl refl refl)
fits_kind o (entries.Spin x lock) stand h plain = fits o (after o (entries.Spin x lock)) (all_stay o.adapters) (same_out o (after o (entries.Spin x lock)) refl refl refl)
fits_kind o (entries.Port a way width port bytes) stand h plain = fits o (after o (entries.Port a way width port bytes)) (all_stay o.adapters) (same_out o (after o (entries.Port a way width port bytes)) refl refl refl)
fits_kind o (entries.WireIn frame) stand h plain = fits o (after o (entries.WireIn frame)) (all_stay o.adapters) (same_out o (after o (entries.WireIn frame)) refl refl refl)
fits_kind o (entries.WireOut a bytes) stand h plain = fits o (after o (entries.WireOut a bytes)) (all_stay o.adapters) (same_out o (after o (entries.WireOut a bytes)) refl refl refl)
fits_kind o (entries.Time moment) stand h plain = fits o (after o (entries.Time moment)) (all_stay o.adapters) (same_out o (after o (entries.Time moment)) refl refl refl)

-- ---- those that take room

one_at_most : (b : Bool) (n k : ℕ) → (b ≡ true → n ≡ k) → number b ≤ number (k == n)
one_at_most false n k same = omega arith
one_at_most true n k same = let e : (k == n) ≡ true = let is = same refl in grind (arith, is) in let bit = ap number e in omega (arith, bit)

pub more_kind : (o : Owner) (e : Entry) → OpenStand o → has_case o e ≡ true → stop_room (after o e) ≤ stop_room o + 1
more_kind o (entries.Send d k bytes) stand h =
    fits_more o (after o (entries.Send d k bytes)) (adapter_of o d.0) refl (λ a.
    let p = count_pushed (out_of a) o.packets (sent o d) in
    let bit = one_at_most (out_of a (sent o d)) (adapter_of o d.0) a (λ out. grind (arith, and_second (is_out (sent o d).place) (adapter_of o d.0 == a) out)) in
    omega (arith, p, bit))
more_kind o (entries.Indicate n j bytes holders copied) stand h =
    fits_more o (after o (entries.Indicate n j bytes holders copied)) n.0 refl (λ a.
    let l = count_pushed (away_of a) o.loans (lent o n holders copied) in
    let bit = one_at_most (away_of a (lent o n holders copied)) n.0 a (λ out. grind (arith, and_second (is_away (lent o n holders copied).place) (n.0 == a) out)) in
    omega (arith, l, bit))
more_kind o (entries.Ask d r question) stand h =
    fits_more o (after o (entries.Ask d r question)) (adapter_of o d.0) refl (λ a.
    let q = count_pushed (open_of a) o.requests (asked o d question) in
    let bit = one_at_most (open_of a (asked o d question)) (adapter_of o d.0) a (λ out. grind (arith, and_second (is_open (asked o d question).place) (adapter_of o d.0 == a) out)) in
    omega (arith, q, bit))
more_kind o e stand h = let less = fits_kind o e stand h refl in omega (arith, less)
