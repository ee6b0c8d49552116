-- Laws of the owner machine. Each record is the contract of a function of src/laws.rt that does nothing.
use Rattle.std.specs.Prelude.{◌||◌, ◌≡◌, ◌≢◌, ℕ, ◌+◌, ◌≤◌, ◌<◌, Bool, true, false, ◌&&◌, ◌==◌, cond, List, [], ◌∷◌, length, Some, None, count_by}
use Rattle.nd_base.specs.declared.numbers.AdapterNo.{AdapterNo}
use Rattle.nd_base.specs.declared.numbers.BindingNo.{BindingNo}
use Rattle.nd_base.specs.declared.numbers.CtxNo.{CtxNo}
use Rattle.nd_base.specs.declared.numbers.RequestNo.{RequestNo}
use Rattle.nd_base.specs.declared.numbers.Status.{Status}
use Rattle.log_fields.specs.declared.field_values.Handler.{Handler}
use Rattle.log_fields.specs.declared.write.Write.{Write}
use Rattle.call_log.specs.declared.entry.Entry.{Entry}
use Rattle.call_log.specs.declared.entry.Entry.TheVariants as entries
use Rattle.owner_machine.specs.declared.rows.Packet.{Packet}
use Rattle.owner_machine.specs.declared.rows.Request.{Request}
use Rattle.owner_machine.specs.declared.rows.Next.{Next}
use Rattle.owner_machine.specs.declared.rows.Next.TheVariants.{Tail}
use Rattle.owner_machine.specs.State.{Owner, at, phase_is, is_stopped, bound, adapter_of}
use Rattle.owner_machine.specs.Contexts.{how_many, is_serial, is_halt, any_handler, runs, serialized}
use Rattle.owner_machine.specs.Packets.{out, packet_adapter, is_queue, is_miniport}
use Rattle.owner_machine.specs.Loans.{away, away_of, is_away, is_due, is_named, has_holder, lent}
use Rattle.owner_machine.specs.Requests.{unanswered, request_adapter, is_asked, is_handed}
use Rattle.owner_machine.specs.Handlers.{outstanding, stays_bound, nothing_waits}
use Rattle.owner_machine.specs.Must.{Due, serves, tail}
use Rattle.owner_machine.specs.Machine.{rule_against, after}
use Rattle.owner_machine.specs.Legal.{Legal, start}

-- ---- words

abbrev pub number : Bool → ℕ
number b = cond b 1 0

-- how often a log says something
unfoldable pub times : (Entry → Bool) → List Entry → ℕ
times test [] = 0
times test (e ∷ log) = number (test e) + times test log

abbrev pub sends : ℕ → Entry → Bool
sends k (entries.Send _ packet _) = packet.0 == k
sends k _ = false

abbrev pub completes : ℕ → Entry → Bool
completes k (entries.Complete packet _) = packet.0 == k
completes k _ = false

abbrev pub comes_late : ℕ → Entry → Bool
comes_late k (entries.Late packet) = packet.0 == k
comes_late k _ = false

abbrev pub comes_back : ℕ → Entry → Bool
comes_back j (entries.Back loan _) = loan.0 == j
comes_back j _ = false

abbrev pub asks : ℕ → Entry → Bool
asks r (entries.Ask _ request _) = request.0 == r
asks r _ = false

abbrev pub answers : ℕ → Entry → Bool
answers r (entries.Answer request _ _) = request.0 == r
answers r _ = false

-- what is told to a driver: the ends of its packets and requests, the frames that it wants, the stop of its adapter
abbrev pub tells : Owner → (b : ℕ) → Entry → Bool
tells o b (entries.Complete packet _) = at (λ p. p.driver.0 == b) o.packets packet.0
tells o b (entries.Indicate _ _ _ holders _) = is_named holders b
tells o b (entries.Answer request _ _) = at (λ r. r.driver.0 == b) o.requests request.0
tells o b (entries.Stop adapter _) = bound o b && (adapter_of o b == adapter.0)
tells o b _ = false

-- ---- packets

pub record PacketLaws : Type 0 where
  -- no packet is completed twice
  pub at_most_once : (adapters : ℕ) (drivers : List AdapterNo) (log : List Entry) (o : Owner) (k : ℕ) → Legal (start adapters drivers) log o → times (completes k) log ≤ 1
  -- a packet that was sent, and is not outstanding, was completed once
  pub exactly_once : (adapters : ℕ) (drivers : List AdapterNo) (log : List Entry) (o : Owner) (k : ℕ) → Legal (start adapters drivers) log o → k < length o.packets → out o k ≡ false → times (completes k) log ≡ 1
  -- one that is outstanding was not completed
  pub not_before : (adapters : ℕ) (drivers : List AdapterNo) (log : List Entry) (o : Owner) (k : ℕ) → Legal (start adapters drivers) log o → out o k ≡ true → times (completes k) log ≡ 0
  -- each number is drawn once, and the next one is how many there are
  pub drawn : (adapters : ℕ) (drivers : List AdapterNo) (log : List Entry) (o : Owner) (k : ℕ) → Legal (start adapters drivers) log o → k < length o.packets → times (sends k) log ≡ 1
  -- a late completion stands behind the packet's completion, once, and tells no driver
  pub late_after : (adapters : ℕ) (drivers : List AdapterNo) (log : List Entry) (o : Owner) (k : ℕ) → Legal (start adapters drivers) log o → times (comes_late k) log ≤ times (completes k) log
  pub late_silent : (o : Owner) (k b : ℕ) (e : Entry) → comes_late k e ≡ true → tells o b e ≡ false

-- ---- loans

pub record LoanLaws : Type 0 where
  -- no loan comes back twice
  pub at_most_once : (adapters : ℕ) (drivers : List AdapterNo) (log : List Entry) (o : Owner) (j : ℕ) → Legal (start adapters drivers) log o → times (comes_back j) log ≤ 1
  -- a loan that is away, from any moment on: it came back once where it is away no more, else it did not
  pub exactly_once : (o n : Owner) (log : List Entry) (j : ℕ) → Legal o log n → away o j ≡ true → times (comes_back j) log + number (away n j) ≡ 1
  -- a loan is due only where nobody holds it
  pub unheld : (adapters : ℕ) (drivers : List AdapterNo) (log : List Entry) (o : Owner) (j : ℕ) → Legal (start adapters drivers) log o → at (λ l. is_due l.place) o.loans j ≡ true → at (λ l. has_holder l.holders) o.loans j ≡ false
  -- a deserialized miniport gets each packet back that was not copied
  pub lent_out : (o : Owner) (adapter : AdapterNo) (holders : List BindingNo) → serialized o adapter.0 ≡ false → is_away (lent o adapter holders false).place ≡ true

-- ---- requests

pub record RequestLaws : Type 0 where
  pub at_most_once : (adapters : ℕ) (drivers : List AdapterNo) (log : List Entry) (o : Owner) (r : ℕ) → Legal (start adapters drivers) log o → times (answers r) log ≤ 1
  -- a request that was asked: it was answered once where it is no more open, else it was not
  pub exactly_once : (adapters : ℕ) (drivers : List AdapterNo) (log : List Entry) (o : Owner) (r : ℕ) → Legal (start adapters drivers) log o → r < length o.requests → times (answers r) log + number (unanswered o r) ≡ 1
  -- what is answered with another status than SUCCESS leaves every driver's filter and list
  pub learns : (o : Owner) (request : RequestNo) (status : Status) (bytes : List ℕ) → status.0 ≢ 0 → (after o (entries.Answer request status bytes)).drivers ≡ o.drivers

-- ---- handlers

pub record IsLast (o : Owner) (a : ℕ) : Type 0 where
  pub nothing : outstanding o a ≡ 0
  pub unbound : count_by (stays_bound a) o.drivers ≡ 0
  pub waiting : at nothing_waits o.adapters a ≡ true
  pub closed : how_many o any_handler a ≡ 0

pub record HandlerLaws : Type 0 where
  -- the serial handlers of a serialized adapter never overlap: the interrupt handlers, and a transfer, are none
  pub alone : (adapters : ℕ) (drivers : List AdapterNo) (log : List Entry) (o : Owner) (a : ℕ) → Legal (start adapters drivers) log o → serialized o a ≡ true → how_many o is_serial a ≤ 1
  -- where halt or shutdown is entered nothing of the adapter is outstanding or waits, every driver has unbound, and no handler is open
  pub halts_last : (o : Owner) (adapter : AdapterNo) (context : CtxNo) (handler : Handler) (words : List ℕ) (writes : List Write) → rule_against o (entries.Enter (Some adapter) context handler words writes) ≡ None → is_halt handler ≡ true → IsLast o adapter.0

-- ---- stops

-- an entry of the adapter's miniport, its handlers or its card, or of its end
abbrev pub is_adapters : Owner → ℕ → Entry → Bool
is_adapters o a (entries.Hand packet) = packet_adapter o packet.0 == a
is_adapters o a (entries.Late packet) = packet_adapter o packet.0 == a
is_adapters o a (entries.HandAsk request) = request_adapter o request.0 == a
is_adapters o a (entries.Indicate adapter _ _ _ _) = adapter.0 == a
is_adapters o a (entries.Enter (Some adapter) _ _ _ _) = adapter.0 == a
is_adapters o a (entries.Leave context _) = at (runs any_handler a) o.contexts context.0
is_adapters o a (entries.Turn context _) = at (runs any_handler a) o.contexts context.0
is_adapters o a (entries.Call context _ _) = at (runs any_handler a) o.contexts context.0
is_adapters o a (entries.Reply context _ _) = at (runs any_handler a) o.contexts context.0
is_adapters o a (entries.Spin context _) = at (runs any_handler a) o.contexts context.0
is_adapters o a (entries.Fault context _ _) = at (runs any_handler a) o.contexts context.0
is_adapters o a (entries.Port adapter _ _ _ _) = adapter.0 == a
is_adapters o a (entries.WireOut adapter _) = adapter.0 == a
is_adapters o a (entries.ResetBegin adapter) = adapter.0 == a
is_adapters o a (entries.ResetEnd adapter _) = adapter.0 == a
is_adapters o a (entries.Stop adapter _) = adapter.0 == a
is_adapters o a _ = false

-- what a stop leaves nothing of: packets in the queue or at the miniport, loans that are away, requests that wait or were handed
abbrev pub kept_of : ℕ → Packet → Bool
kept_of a p = (is_queue p.place || is_miniport p.place) && (p.adapter.0 == a)

abbrev pub waits_of : ℕ → Request → Bool
waits_of a r = (is_asked r.place || is_handed r.place) && (r.adapter.0 == a)

abbrev pub left_over : Owner → ℕ → ℕ
left_over o a = count_by (kept_of a) o.packets + count_by (away_of a) o.loans + count_by (waits_of a) o.requests

-- the adapter was stopped, and its tail may go on
abbrev pub in_tail : Next → ℕ → Bool
in_tail (Tail adapter) a = adapter.0 == a
in_tail _ a = false

pub record StopLaws : Type 0 where
  -- behind the tail of a stopped adapter nothing of it is left but what is refused: its packets and requests end as they come
  pub finished : (adapters : ℕ) (drivers : List AdapterNo) (log : List Entry) (o : Owner) (a : ℕ) → Legal (start adapters drivers) log o → phase_is is_stopped o a ≡ true → in_tail o.next a ≡ false → left_over o a ≡ 0
  -- behind the stop of an adapter stands no entry of it: what is left are its tail and its drivers' entries
  pub quiet : (adapters : ℕ) (drivers : List AdapterNo) (log : List Entry) (o : Owner) (a : ℕ) (e : Entry) → Legal (start adapters drivers) log o → rule_against o e ≡ None → phase_is is_stopped o a ≡ true → is_adapters o a e ≡ false
  -- each entry of the tail ends one thing that is outstanding
  pub falls : (o : Owner) (a : ℕ) (due : Due) (e : Entry) → tail o a ≡ Some due → serves o due e ≡ true → outstanding (after o e) a + 1 ≡ outstanding o a
  -- and the tail ends where nothing is
  pub ends : (o : Owner) (a : ℕ) → tail o a ≡ None → outstanding o a ≡ 0
