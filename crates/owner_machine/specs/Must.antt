-- What must stand directly next: a send or a question that is refused is ended at once, a stop ends what is outstanding, the end of a reset aborts
-- what the miniport holds, a cancel ends what is queued, and a handler that was entered for something gets it.
use Rattle.std.specs.Prelude.{ℕ, Bool, true, false, ◌&&◌, ◌||◌, ◌==◌, not, cond, Option, Some, None, position, count_by, slice_get, nat_lt}
use Rattle.std.specs.Option.{option_map_or, option_map}
use Rattle.log_fields.specs.declared.field_values.Cause.TheVariants.{Memory}
use Rattle.call_log.specs.declared.entry.Entry.{Entry}
use Rattle.call_log.specs.declared.entry.Entry.TheVariants as entries
use Rattle.owner_machine.specs.declared.rows.Next.{Next}
use Rattle.owner_machine.specs.declared.rows.Next.TheVariants.{Sent, Tagged, Asked, Tail, Aborting, Cancelling, Handing, GoingHome, HandingAsk, Resetting}
use Rattle.owner_machine.specs.State.{Owner, at, is_resetting, phase_is, failure, closing, request_aborted, reset_in_progress}
use Rattle.owner_machine.specs.Contexts.{is_reset}
use Rattle.owner_machine.specs.Packets.{is_refused, out_of, held_of, queued_with_id, packet_adapter, first_queued}
use Rattle.owner_machine.specs.Loans.{away_of, due_of}
use Rattle.owner_machine.specs.Requests.{open_of, is_turned_away, refused_with, first_asked}
use Rattle.owner_machine.specs.Handlers.{is_none}

pub data Due : Type 0 where
  -- the packet's completion with that status; where it was sent just now, its tag may come first
  Completes : (may_be_tagged : Bool) → (k status : ℕ) → Due
  -- the loan goes back as failed
  BacksFailed : (j : ℕ) → Due
  -- the request's answer with that status, and no bytes
  Answers : (r status : ℕ) → Due
  -- the packet is handed
  Hands : (k : ℕ) → Due
  -- a loan of the adapter that is due goes home
  BacksDue : (a : ℕ) → Due
  -- the request is handed
  HandsAsk : (r : ℕ) → Due
  -- the adapter's reset handler is entered
  EntersReset : (a : ℕ) → Due

-- ---- what is due

-- the status that refuses a send to that adapter
abbrev pub send_refusal : Owner → ℕ → ℕ
send_refusal o a = cond (phase_is is_resetting o a) reset_in_progress closing

abbrev pub refused_packet : Owner → Bool → ℕ → Option Due
refused_packet o fresh k = cond (at (λ p. is_refused p.place) o.packets k) (Some (Completes fresh k (send_refusal o (packet_adapter o k)))) None

abbrev pub refused_ask : Owner → ℕ → Option Due
refused_ask o r = option_map_or (λ q. cond (is_turned_away q.place) (option_map (λ status. Answers r status) (refused_with o q.adapter.0 q.question)) None) (slice_get o.requests r) None

abbrev pub first_due : Option Due → Option Due → Option Due
first_due None due = due
first_due (Some due) _ = Some due

-- the tail of a stop: the adapter's packets, then its loans, then its requests, each the least first
abbrev pub tail : Owner → ℕ → Option Due
tail o a =
    first_due (option_map (λ k. Completes false k failure) (position (out_of a) o.packets))
    (first_due (option_map (λ j. BacksFailed j) (position (away_of a) o.loans))
    (option_map (λ r. Answers r failure) (position (open_of a) o.requests)))

abbrev pub must_behind : Owner → Next → Option Due
must_behind o (Sent packet) = refused_packet o true packet.0
must_behind o (Tagged packet) = refused_packet o false packet.0
must_behind o (Asked request) = refused_ask o request.0
must_behind o (Tail adapter) = tail o adapter.0
must_behind o (Aborting adapter) = option_map (λ k. Completes false k request_aborted) (position (held_of adapter.0) o.packets)
must_behind o (Cancelling driver id) = option_map (λ k. Completes false k request_aborted) (position (queued_with_id driver.0 id) o.packets)
must_behind o (Handing adapter _ left) = cond (nat_lt 0 left) (option_map (λ k. Hands k) (first_queued o adapter.0)) None
must_behind o (GoingHome adapter) = cond (count_by (due_of adapter.0) o.loans == 0) None (Some (BacksDue adapter.0))
must_behind o (HandingAsk adapter _) = option_map (λ r. HandsAsk r) (first_asked o adapter.0)
must_behind o (Resetting adapter) = Some (EntersReset adapter.0)
must_behind o _ = None

abbrev pub owner_must : Owner → Option Due
owner_must o = must_behind o o.next

-- ---- what serves it

-- the entry is what is due
abbrev pub serves : Owner → Due → Entry → Bool
serves o (Completes fresh k status) (entries.Complete packet other) = (packet.0 == k) && (other.0 == status)
serves o (Completes fresh k status) (entries.Tag packet _) = fresh && (packet.0 == k)
serves o (BacksFailed j) (entries.Back loan failed) = failed && (loan.0 == j)
serves o (Answers r status) (entries.Answer request other bytes) = (request.0 == r) && ((other.0 == status) && is_none bytes)
serves o (Hands k) (entries.Hand packet) = packet.0 == k
serves o (BacksDue a) (entries.Back loan failed) = not failed && at (due_of a) o.loans loan.0
serves o (HandsAsk r) (entries.HandAsk request) = request.0 == r
serves o (EntersReset a) (entries.Enter (Some adapter) _ handler _ _) = (adapter.0 == a) && is_reset handler
serves o _ _ = false

-- A stop for want of memory may break in, but neither into a tail nor between a send or question and its refusal.
abbrev pub may_break_in : Next → Entry → Bool
may_break_in (Sent _) _ = false
may_break_in (Tagged _) _ = false
may_break_in (Asked _) _ = false
may_break_in (Tail _) _ = false
may_break_in _ (entries.Stop _ Memory) = true
may_break_in _ _ = false

-- where something must stand, the entry is that
abbrev pub is_served : Owner → Entry → Bool
is_served o e = option_map_or (λ due. serves o due e || may_break_in o.next e) (owner_must o) true
