-- Rows keep who they are of: packets and requests their driver, drivers their adapter; and a driver is bound from its bind to its unbind.
use Rattle.std.proofs.Common.{◌≡◌, ℕ, zero, suc, ◌≤◌, ◌<◌, Bool, true, false, not, ◌&&◌, ◌||◌, ◌==◌, cond, List, [], ◌∷◌, ◌++◌, length, Option, Some, None, refl, sym, ap, ◌∙◌, arith}
use Rattle.std.specs.Prelude.{slice_get}
use Rattle.std.specs.Option.{option_map_or}
use Rattle.nd_base.specs.declared.numbers.AdapterNo.{AdapterNo}
use Rattle.nd_base.specs.declared.numbers.BindingNo.{BindingNo}
use Rattle.nd_base.specs.declared.numbers.CtxNo.{CtxNo}
use Rattle.log_fields.specs.declared.field_values.Question.{Question}
use Rattle.log_fields.specs.declared.field_values.Question.TheVariants as questions
use Rattle.call_log.specs.declared.entry.Entry.{Entry}
use Rattle.call_log.specs.declared.entry.Entry.TheVariants as entries
use Rattle.owner_machine.specs.declared.rows.Driver.{Driver}
use Rattle.owner_machine.specs.declared.rows.Packet.{Packet}
use Rattle.owner_machine.specs.declared.rows.Request.{Request}
use Rattle.owner_machine.specs.State.{Owner, adapter_of, at, bound, change, is_bound, is_unbound, no_adapter}
use Rattle.owner_machine.specs.Adapters.{bound_now, unbound_now}
use Rattle.owner_machine.specs.Legal.{said_nothing}
use Rattle.owner_machine.specs.Machine as owners
use Rattle.owner_machine.specs.Machine.{has_case, last_rule, rule_against, rule_of}
use Rattle.owner_machine.specs.Must.{is_served}
use Rattle.owner_machine.specs.Packets.{completed, enter_of, handed, placed, sent, tagged}
use Rattle.owner_machine.specs.declared.rows.Place.TheVariants as places
use Rattle.owner_machine.specs.Requests.{answered, ask_enter, asked, handed_ask, learnt, learnt_at, set_by, current_packet_filter, multicast_list, little_endian, with_filter, with_list}
use Rattle.legal_run.specs.State.{Inputs, State}
use Rattle.legal_run.specs.Calls.{leaves}
use Rattle.legal_run.specs.After.{after, is_breaking, owner_left}
use Rattle.legal_run.specs.Run.{Meets, now_from}
use Rattle.notices.specs.Notices.{is_asker, is_sender, tells_by}
use Rattle.notices.specs.Reading.{bound_behind}

-- ---- tests of rows

same_at : {A : Type 0} (test : A → Bool) (f : A → A) (rows : List A) (j k : ℕ) → ((row : A) → test (f row) ≡ test row) → at test (change f rows j) k ≡ at test rows k
same_at test f [] j k same = refl
same_at test f (row ∷ rows) zero zero same = same row
same_at test f (row ∷ rows) zero (suc k) same = refl
same_at test f (row ∷ rows) (suc j) zero same = refl
same_at test f (row ∷ rows) (suc j) (suc k) same = same_at test f rows j k same

pushed_at : {A : Type 0} (test : A → Bool) (rows : List A) (new : A) (k : ℕ) → k < length rows → at test (rows ++ new ∷ []) k ≡ at test rows k
pushed_at test [] new k less = absurd (omega (arith, less))
pushed_at test (row ∷ rows) new zero less = refl
pushed_at test (row ∷ rows) new (suc k) less = pushed_at test rows new k (omega (arith, less))

pub there : {A : Type 0} (test : A → Bool) (rows : List A) (k : ℕ) → at test rows k ≡ true → k < length rows
there test [] k h = absurd (cc)
there test (row ∷ rows) zero h = omega arith
there test (row ∷ rows) (suc k) h = let less = there test rows k h in omega (arith, less)

same_length : {A : Type 0} (f : A → A) (rows : List A) (j : ℕ) → length (change f rows j) ≡ length rows
same_length f [] j = refl
same_length f (row ∷ rows) zero = refl
same_length f (row ∷ rows) (suc j) = ap (λ n. suc n) (same_length f rows j)

pushed_length : {A : Type 0} (rows : List A) (new : A) → length (rows ++ new ∷ []) ≡ suc (length rows)
pushed_length [] new = refl
pushed_length (row ∷ rows) new = ap (λ n. suc n) (pushed_length rows new)

-- ---- drivers

same_adapter : (f : Driver → Driver) (rows : List Driver) (j b : ℕ) → ((row : Driver) → (f row).adapter ≡ row.adapter)
    → option_map_or (λ (row : Driver). row.adapter.0) (slice_get (change f rows j) b) no_adapter ≡ option_map_or (λ (row : Driver). row.adapter.0) (slice_get rows b) no_adapter
same_adapter f [] j b same = refl
same_adapter f (row ∷ rows) zero zero same = ap (λ (a : AdapterNo). a.0) (same row)
same_adapter f (row ∷ rows) zero (suc b) same = refl
same_adapter f (row ∷ rows) (suc j) zero same = refl
same_adapter f (row ∷ rows) (suc j) (suc b) same = same_adapter f rows j b same

set_kept : (p q : Bool) (f g d : Driver) → f.adapter ≡ d.adapter → f.binding ≡ d.binding → g.adapter ≡ d.adapter → g.binding ≡ d.binding
    → ((cond p f (cond q g d)).adapter ≡ d.adapter) × ((cond p f (cond q g d)).binding ≡ d.binding)
set_kept true q f g d one two three four = (one, two)
set_kept false true f g d one two three four = (three, four)
set_kept false false f g d one two three four = (refl, refl)

set_keeps : (oid : ℕ) (bytes : List ℕ) (d : Driver) → ((set_by oid bytes d).adapter ≡ d.adapter) × ((set_by oid bytes d).binding ≡ d.binding)
set_keeps oid bytes d = set_kept (oid == current_packet_filter) (oid == multicast_list) (with_filter (little_endian bytes) d) (with_list bytes d) d refl refl refl refl

learnt_keeps : (question : Question) (d : Driver) → ((learnt question d).adapter ≡ d.adapter) × ((learnt question d).binding ≡ d.binding)
learnt_keeps (questions.Query oid n) d = (refl, refl)
learnt_keeps (questions.Set oid bytes) d = set_keeps oid bytes d

learnt_adapter : (status : ℕ) (r : Option Request) (rows : List Driver) (b : ℕ)
    → option_map_or (λ (row : Driver). row.adapter.0) (slice_get (learnt_at status r rows) b) no_adapter ≡ option_map_or (λ (row : Driver). row.adapter.0) (slice_get rows b) no_adapter
learnt_adapter zero (Some r) rows b = same_adapter (learnt r.question) rows r.driver.0 b (λ row. (learnt_keeps r.question row).0)
learnt_adapter zero None rows b = refl
learnt_adapter (suc status) r rows b = refl

learnt_bound : (status : ℕ) (r : Option Request) (rows : List Driver) (b : ℕ) → at (λ (row : Driver). is_bound row.binding) (learnt_at status r rows) b ≡ at (λ (row : Driver). is_bound row.binding) rows b
learnt_bound zero (Some r) rows b = same_at (λ (row : Driver). is_bound row.binding) (learnt r.question) rows r.driver.0 b (λ row. ap is_bound (learnt_keeps r.question row).1)
learnt_bound zero None rows b = refl
learnt_bound (suc status) r rows b = refl

binds : (rows : List Driver) (j b : ℕ) → j < length rows → at (λ (row : Driver). is_bound row.binding) (change bound_now rows j) b ≡ at (λ (row : Driver). is_bound row.binding) rows b || (j == b)
binds [] j b less = absurd (omega (arith, less))
binds (row ∷ rows) zero zero less = or_true (is_bound row.binding)
  where
    or_true : (p : Bool) → true ≡ p || true
    or_true true = refl
    or_true false = refl
binds (row ∷ rows) zero (suc b) less = let e : (0 == suc b) ≡ false = grind arith in or_false _ ∙ ap (λ t. at (λ (row : Driver). is_bound row.binding) rows b || t) (sym e)
  where
    or_false : (p : Bool) → p ≡ p || false
    or_false true = refl
    or_false false = refl
binds (row ∷ rows) (suc j) zero less = let e : (suc j == 0) ≡ false = grind arith in or_false _ ∙ ap (λ t. is_bound row.binding || t) (sym e)
  where
    or_false : (p : Bool) → p ≡ p || false
    or_false true = refl
    or_false false = refl
binds (row ∷ rows) (suc j) (suc b) less = let e : (suc j == suc b) ≡ (j == b) = grind arith in binds rows j b (omega (arith, less)) ∙ ap (λ t. at (λ (row : Driver). is_bound row.binding) rows b || t) (sym e)

unbinds : (rows : List Driver) (j b : ℕ) → at (λ (row : Driver). is_bound row.binding) (change unbound_now rows j) b ≡ at (λ (row : Driver). is_bound row.binding) rows b && not (j == b)
unbinds [] j b = refl
unbinds (row ∷ rows) zero zero = and_false (is_bound row.binding)
  where
    and_false : (p : Bool) → false ≡ p && false
    and_false true = refl
    and_false false = refl
unbinds (row ∷ rows) zero (suc b) = let e : not (0 == suc b) ≡ true = grind arith in and_true _ ∙ ap (λ t. at (λ (row : Driver). is_bound row.binding) rows b && t) (sym e)
  where
    and_true : (p : Bool) → p ≡ p && true
    and_true true = refl
    and_true false = refl
unbinds (row ∷ rows) (suc j) zero = let e : not (suc j == 0) ≡ true = grind arith in and_true _ ∙ ap (λ t. is_bound row.binding && t) (sym e)
  where
    and_true : (p : Bool) → p ≡ p && true
    and_true true = refl
    and_true false = refl
unbinds (row ∷ rows) (suc j) (suc b) = let e : not (suc j == suc b) ≡ not (j == b) = grind arith in unbinds rows j b ∙ ap (λ t. at (λ (row : Driver). is_bound row.binding) rows b && t) (sym e)

-- ---- one entry of the owner machine

-- what a later state has in common with an earlier one
pub record Keeps (o m : Owner) : Type 0 where
  pub packets : length o.packets ≤ length m.packets
  pub requests : length o.requests ≤ length m.requests
  pub senders : (b k : ℕ) → k < length o.packets → is_sender m b k ≡ is_sender o b k
  pub askers : (b r : ℕ) → r < length o.requests → is_asker m b r ≡ is_asker o b r
  pub adapters : (b : ℕ) → adapter_of m b ≡ adapter_of o b

same_rows : (o m : Owner) → m.packets ≡ o.packets → m.requests ≡ o.requests → ((b : ℕ) → adapter_of m b ≡ adapter_of o b) → Keeps o m
same_rows o m one two three =
    let p = ap length one in
    let r = ap length two in
    record {
      packets = omega (arith, p);
      requests = omega (arith, r);
      senders = λ b k less. ap (λ (rows : List Packet). at (λ p. p.driver.0 == b) rows k) one;
      askers = λ b r less. ap (λ (rows : List Request). at (λ q. q.driver.0 == b) rows r) two;
      adapters = three;
    }

packet_changed : (o m : Owner) (f : Packet → Packet) (j : ℕ) → ((p : Packet) → (f p).driver ≡ p.driver) → m.packets ≡ change f o.packets j → m.requests ≡ o.requests → ((b : ℕ) → adapter_of m b ≡ adapter_of o b) → Keeps o m
packet_changed o m f j same one two three =
    let p = ap length one ∙ same_length f o.packets j in
    let r = ap length two in
    record {
      packets = omega (arith, p);
      requests = omega (arith, r);
      senders = λ b k less. ap (λ (rows : List Packet). at (λ p. p.driver.0 == b) rows k) one ∙ same_at (λ (p : Packet). p.driver.0 == b) f o.packets j k (λ row. ap (λ (d : BindingNo). d.0 == b) (same row));
      askers = λ b r less. ap (λ (rows : List Request). at (λ q. q.driver.0 == b) rows r) two;
      adapters = three;
    }

request_changed : (o m : Owner) (f : Request → Request) (j : ℕ) → ((q : Request) → (f q).driver ≡ q.driver) → m.packets ≡ o.packets → m.requests ≡ change f o.requests j → ((b : ℕ) → adapter_of m b ≡ adapter_of o b) → Keeps o m
request_changed o m f j same one two three =
    let p = ap length one in
    let r = ap length two ∙ same_length f o.requests j in
    record {
      packets = omega (arith, p);
      requests = omega (arith, r);
      senders = λ b k less. ap (λ (rows : List Packet). at (λ p. p.driver.0 == b) rows k) one;
      askers = λ b k less. ap (λ (rows : List Request). at (λ q. q.driver.0 == b) rows k) two ∙ same_at (λ (q : Request). q.driver.0 == b) f o.requests j k (λ row. ap (λ (d : BindingNo). d.0 == b) (same row));
      adapters = three;
    }

pub keeps_one : (o : Owner) (e : Entry) → Keeps o (owners.after o e)
keeps_one o (entries.Bind d a) = same_rows o (owners.after o (entries.Bind d a)) refl refl (λ b. same_adapter bound_now o.drivers d.0 b (λ row. refl))
keeps_one o (entries.Unbind d) = same_rows o (owners.after o (entries.Unbind d)) refl refl (λ b. same_adapter unbound_now o.drivers d.0 b (λ row. refl))
keeps_one o (entries.Send d k bytes) =
    let p = pushed_length o.packets (sent o d) in
    record {
      packets = omega (arith, p);
      requests = omega arith;
      senders = λ b k less. pushed_at (λ (p : Packet). p.driver.0 == b) o.packets (sent o d) k less;
      askers = λ b r less. refl;
      adapters = λ b. refl;
    }
keeps_one o (entries.Ask d r question) =
    let q = pushed_length o.requests (asked o d question) in
    record {
      packets = omega arith;
      requests = omega (arith, q);
      senders = λ b k less. refl;
      askers = λ b k less. pushed_at (λ (q : Request). q.driver.0 == b) o.requests (asked o d question) k less;
      adapters = λ b. refl;
    }
keeps_one o (entries.Tag k id) = packet_changed o (owners.after o (entries.Tag k id)) (tagged id) k.0 (λ p. refl) refl refl (λ b. refl)
keeps_one o (entries.Hand k) = packet_changed o (owners.after o (entries.Hand k)) (handed (enter_of o.next)) k.0 (λ p. refl) refl refl (λ b. refl)
keeps_one o (entries.Requeue k) = packet_changed o (owners.after o (entries.Requeue k)) (placed places.Queue) k.0 (λ p. refl) refl refl (λ b. refl)
keeps_one o (entries.Complete k status) = packet_changed o (owners.after o (entries.Complete k status)) (completed o.next) k.0 (λ p. refl) refl refl (λ b. refl)
keeps_one o (entries.Late k) = packet_changed o (owners.after o (entries.Late k)) (placed places.Done) k.0 (λ p. refl) refl refl (λ b. refl)
keeps_one o (entries.HandAsk r) = request_changed o (owners.after o (entries.HandAsk r)) (handed_ask (ask_enter o.next)) r.0 (λ q. refl) refl refl (λ b. refl)
keeps_one o (entries.Answer r status bytes) = request_changed o (owners.after o (entries.Answer r status bytes)) answered r.0 (λ q. refl) refl refl (λ b. learnt_adapter status.0 (slice_get o.requests r.0) o.drivers b)
keeps_one o e = same_rows o (owners.after o e) refl refl (λ b. refl)

pub bound_one : (o : Owner) (b : ℕ) (e : Entry) → has_case o e ≡ true → bound (owners.after o e) b ≡ bound_behind b (bound o b) e
bound_one o b (entries.Bind d a) h = binds o.drivers d.0 b (there (λ (row : Driver). is_unbound row.binding && (row.adapter.0 == a.0)) o.drivers d.0 h)
bound_one o b (entries.Unbind d) h = unbinds o.drivers d.0 b
bound_one o b (entries.Answer r status bytes) h = learnt_bound status.0 (slice_get o.requests r.0) o.drivers b
bound_one o b e h = refl

-- ---- one entry of a run

pub has : (o : Owner) (e : Entry) → rule_against o e ≡ None → has_case o e ≡ true
has o e h = by (is_served o e) (has_case o e) refl h
  where
    by : (p q : Bool) → has_case o e ≡ q → cond (p && q) (last_rule o e) (Some (rule_of e)) ≡ None → has_case o e ≡ true
    by true true is h = is
    by true false is h = absurd (cc)
    by false q is h = absurd (cc)

left_keeps : (o : Owner) (x : CtxNo) (eax : ℕ) (broken : Bool) → Keeps o (owner_left o (entries.Leave x eax) broken)
left_keeps o x eax true = same_rows o (said_nothing o) refl refl (λ b. refl)
left_keeps o x eax false = keeps_one o (entries.Leave x eax)

left_bound : (o : Owner) (b : ℕ) (x : CtxNo) (eax : ℕ) (broken : Bool) → bound (owner_left o (entries.Leave x eax) broken) b ≡ bound o b
left_bound o b x eax true = refl
left_bound o b x eax false = refl

pub keeps_behind : (c : Inputs) (s : State) (e : Entry) → Keeps s.owner (after c s e).owner
keeps_behind c s (entries.Leave x eax) = left_keeps s.owner x eax (is_breaking (leaves c s x eax))
keeps_behind c s (entries.Reply x eax writes) = same_rows s.owner (after c s (entries.Reply x eax writes)).owner refl refl (λ b. refl)
keeps_behind c s e = keeps_one s.owner e

pub bound_after : (c : Inputs) (s : State) (b : ℕ) (e : Entry) → Meets c s e → bound (after c s e).owner b ≡ bound_behind b (bound s.owner b) e
bound_after c s b (entries.Leave x eax) meets = left_bound s.owner b x eax (is_breaking (leaves c s x eax))
bound_after c s b (entries.Reply x eax writes) meets = refl
bound_after c s b e meets = bound_one s.owner b e (has s.owner e meets.owner)

pub keeps_over : (o m n : Owner) → Keeps o m → Keeps m n → Keeps o n
keeps_over o m n one two =
    let p = one.packets in
    let q = two.packets in
    let r = one.requests in
    let s = two.requests in
    record {
      packets = omega (arith, p, q);
      requests = omega (arith, r, s);
      senders = λ b k less. two.senders b k (omega (arith, less, p)) ∙ one.senders b k less;
      askers = λ b k less. two.askers b k (omega (arith, less, r)) ∙ one.askers b k less;
      adapters = λ b. two.adapters b ∙ one.adapters b;
    }

keeps_same : (o : Owner) → Keeps o o
keeps_same o = same_rows o o refl refl (λ b. refl)

pub keeps_all : (c : Inputs) (s : State) (log : List Entry) → Keeps s.owner (now_from c s log).owner
unfolding now_from
keeps_all c s [] = keeps_same s.owner
keeps_all c s (e ∷ log) = keeps_over s.owner (after c s e).owner (now_from c (after c s e) log).owner (keeps_behind c s e) (keeps_all c (after c s e) log)

-- what an entry tells a driver is told by the rows of any later state
pub tells_still : (o m : Owner) (b : BindingNo) (is_bound : Bool) (e : Entry) → Keeps o m → has_case o e ≡ true → tells_by m b is_bound e ≡ tells_by o b is_bound e
tells_still o m b is_bound (entries.Complete k status) kept h = rw (kept.senders b.0 k.0 (there _ o.packets k.0 h)) refl
tells_still o m b is_bound (entries.Answer r status bytes) kept h = rw (kept.askers b.0 r.0 (there _ o.requests r.0 h)) refl
tells_still o m b is_bound (entries.Stop a cause) kept h = rw (kept.adapters b.0) refl
tells_still o m b is_bound e kept h = refl
