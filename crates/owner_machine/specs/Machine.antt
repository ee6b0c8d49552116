-- The owner machine: what each kind of entry needs, the rule that it breaks where that is not so, and what it makes.
use Rattle.std.specs.Prelude.{ℕ, ◌+◌, Bool, true, ◌&&◌, ◌||◌, ◌==◌, not, cond, [], ◌∷◌, ◌++◌, length, Option, Some, None, count_by, slice_get, slice_set, nat_lt}
use Rattle.call_log.specs.declared.entry.Entry.{Entry}
use Rattle.call_log.specs.declared.entry.Entry.TheVariants as entries
use Rattle.owner_machine.specs.declared.rows.Context.TheVariants as contexts
use Rattle.owner_machine.specs.declared.rows.Place.TheVariants.{Queue, Done}
use Rattle.owner_machine.specs.declared.rows.Next.TheVariants.{Free, Sent, Tagged, Asked, Tail, Aborting, Cancelling, Resetting}
use Rattle.owner_machine.specs.State.{Owner, at, change, unless, stands, adapter_of, pending}
use Rattle.owner_machine.specs.Contexts.{is_at_work, is_calling, may_be_answered, calling, answered_call}
use Rattle.owner_machine.specs.Packets.{may_send, may_tag, may_hand, may_requeue, may_complete, may_be_late, placed, handed, tagged, sent, completed, enter_of, handed_one, behind_verdict, behind_complete, packet_adapter}
use Rattle.owner_machine.specs.Loans.{away_of, holds, may_indicate, may_go_home, is_away, lent, lent_place, gone_home, returned, behind_back}
use Rattle.owner_machine.specs.Requests.{may_ask, may_hand_ask, may_answer, asked, handed_ask, ask_enter, answered, learnt_at, behind_answer}
use Rattle.owner_machine.specs.Adapters.{may_bind, may_unbind, may_cancel, cancel_waits, with_cancel, may_signal, with_event, may_begin_reset, may_end_reset, reset_begun, reset_ended, held_back_now, stopped, all_stopped, contexts_stopped, bound_now, unbound_now}
use Rattle.owner_machine.specs.Handlers.{may_enter, adapters_entered, contexts_entered, next_entered, adapters_left, behind_leave, adapters_called, adapters_answered}
use Rattle.owner_machine.specs.Must.{is_served}

-- What each kind needs, but for its status and the number of loans. A kind that is not named needs nothing.
abbrev pub has_case : Owner → Entry → Bool
has_case o (entries.Bind driver adapter) = may_bind o driver.0 adapter.0
has_case o (entries.Unbind driver) = may_unbind o driver.0
has_case o (entries.Send driver packet bytes) = may_send o driver.0 packet.0 (length bytes)
has_case o (entries.Tag packet id) = may_tag o packet.0 id
has_case o (entries.Cancel driver id) = may_cancel o driver.0 id
has_case o (entries.Event driver _ bytes taken) = may_signal o driver.0 (length bytes) taken
has_case o (entries.Hand packet) = may_hand o packet.0
has_case o (entries.Requeue packet) = may_requeue o packet.0
has_case o (entries.Complete packet _) = may_complete o packet.0
has_case o (entries.Late packet) = may_be_late o packet.0
has_case o (entries.Indicate adapter loan bytes holders copied) = may_indicate o adapter.0 loan.0 bytes holders copied
has_case o (entries.Return driver loan) = at (holds driver.0) o.loans loan.0
has_case o (entries.Back loan failed) = at (may_go_home o.next failed) o.loans loan.0
has_case o (entries.Ask driver request _) = may_ask o driver.0 request.0
has_case o (entries.HandAsk request) = may_hand_ask o request.0
has_case o (entries.Answer request _ _) = may_answer o request.0
has_case o (entries.ResetBegin adapter) = may_begin_reset o adapter.0
has_case o (entries.ResetEnd adapter _) = may_end_reset o adapter.0
has_case o (entries.Enter adapter context handler _ _) = may_enter o adapter context.0 handler
has_case o (entries.Leave context _) = at is_at_work o.contexts context.0
has_case o (entries.Turn context _) = at is_at_work o.contexts context.0
has_case o (entries.Fault context _ _) = at is_at_work o.contexts context.0
has_case o (entries.Call context _ _) = at is_at_work o.contexts context.0
has_case o (entries.Reply context _ _) = at (may_be_answered o.contexts) o.contexts context.0
has_case o (entries.Spin context _) = at is_calling o.contexts context.0
has_case o (entries.Port adapter _ _ _ _) = stands o adapter.0
has_case o (entries.WireOut adapter _) = stands o adapter.0
has_case o (entries.Stop adapter _) = stands o adapter.0
has_case o _ = true

-- the rule that a kind breaks where it has no case: 1 of packets, 2 of loans, 3 of requests, 4 of resets, 9 of all others
abbrev pub rule_of : Entry → ℕ
rule_of (entries.Send _ _ _) = 1
rule_of (entries.Tag _ _) = 1
rule_of (entries.Cancel _ _) = 1
rule_of (entries.Hand _) = 1
rule_of (entries.Requeue _) = 1
rule_of (entries.Complete _ _) = 1
rule_of (entries.Late _) = 1
rule_of (entries.Indicate _ _ _ _ _) = 2
rule_of (entries.Return _ _) = 2
rule_of (entries.Back _ _) = 2
rule_of (entries.Ask _ _ _) = 3
rule_of (entries.HandAsk _) = 3
rule_of (entries.Answer _ _ _) = 3
rule_of (entries.ResetBegin _) = 4
rule_of (entries.ResetEnd _ _) = 4
rule_of _ = 9

-- 10: nothing ends with NDIS_STATUS_PENDING
abbrev pub ends_with : ℕ → Option ℕ
ends_with status = unless (not (status == pending)) 10

-- 12: an adapter has 256 loans away at most
abbrev pub has_room : Owner → ℕ → Bool → Option ℕ
has_room o a goes_out = unless (not goes_out || nat_lt (count_by (away_of a) o.loans) 256) 12

-- the rule that is left to break where a kind has a case
abbrev pub last_rule : Owner → Entry → Option ℕ
last_rule o (entries.Complete _ status) = ends_with status.0
last_rule o (entries.Answer _ status _) = ends_with status.0
last_rule o (entries.ResetEnd _ status) = ends_with status.0
last_rule o (entries.Indicate adapter _ _ holders copied) = has_room o adapter.0 (is_away (lent_place o adapter.0 holders copied))
last_rule o _ = None

-- The rule that an entry breaks, if it breaks one.
abbrev pub rule_against : Owner → Entry → Option ℕ
rule_against o e = cond (is_served o e && has_case o e) (last_rule o e) (Some (rule_of e))

-- What each kind makes. Whatever is not said stays; `next` says what stood directly before, and is Free behind a kind that asks for nothing.
abbrev pub after : Owner → Entry → Owner
after o (entries.Bind driver _) = record o { drivers = change bound_now o.drivers driver.0; next = Free }
after o (entries.Unbind driver) = record o { drivers = change unbound_now o.drivers driver.0; next = Free }
after o (entries.Send driver packet _) = record o { packets = o.packets ++ sent o driver ∷ []; next = Sent packet }
after o (entries.Tag packet id) = record o { packets = change (tagged id) o.packets packet.0; next = Tagged packet }
after o (entries.Cancel driver id) = record o { adapters = change (with_cancel (cancel_waits o driver.0 id) id) o.adapters (adapter_of o driver.0); next = Cancelling driver id }
after o (entries.Event driver number bytes taken) = record o { adapters = change (with_event taken number bytes) o.adapters (adapter_of o driver.0); next = Free }
after o (entries.Hand packet) = record o { packets = change (handed (enter_of o.next)) o.packets packet.0; next = handed_one o.next }
after o (entries.Requeue packet) = record o { packets = change (placed Queue) o.packets packet.0; adapters = change held_back_now o.adapters (packet_adapter o packet.0); next = behind_verdict o.next packet.0 }
after o (entries.Complete packet _) = record o { packets = change (completed o.next) o.packets packet.0; next = behind_complete o packet.0 }
after o (entries.Late packet) = record o { packets = change (placed Done) o.packets packet.0; next = Free }
after o (entries.Indicate adapter _ _ holders copied) = record o { loans = o.loans ++ lent o adapter holders copied ∷ []; next = Free }
after o (entries.Return driver loan) = record o { loans = change (returned driver.0) o.loans loan.0; next = Free }
after o (entries.Back loan _) = record o { loans = change gone_home o.loans loan.0; next = behind_back o.next }
after o (entries.Ask driver request question) = record o { requests = o.requests ++ asked o driver question ∷ []; next = Asked request }
after o (entries.HandAsk request) = record o { requests = change (handed_ask (ask_enter o.next)) o.requests request.0; next = Free }
after o (entries.Answer request status _) = record o { requests = change answered o.requests request.0; drivers = learnt_at status.0 (slice_get o.requests request.0) o.drivers; next = behind_answer o.next }
after o (entries.ResetBegin adapter) = record o { adapters = change reset_begun o.adapters adapter.0; next = Resetting adapter }
after o (entries.ResetEnd adapter _) = record o { adapters = change reset_ended o.adapters adapter.0; next = Aborting adapter }
after o (entries.Enter adapter context handler words _) = record o { contexts = slice_set (contexts_entered adapter handler o.enters o.contexts) context.0 (contexts.Open adapter handler o.enters None); adapters = adapters_entered o.adapters adapter handler; enters = o.enters + 1; next = next_entered adapter handler o.enters words }
after o (entries.Leave context eax) = record o { contexts = slice_set o.contexts context.0 contexts.Free; adapters = adapters_left o.adapters (slice_get o.contexts context.0) eax; next = behind_leave (slice_get o.contexts context.0) }
after o (entries.Call context import words) = record o { contexts = change (calling import words) o.contexts context.0; adapters = adapters_called o.adapters (slice_get o.contexts context.0) import; next = Free }
after o (entries.Reply context _ _) = record o { contexts = change answered_call o.contexts context.0; adapters = adapters_answered o.adapters (slice_get o.contexts context.0); next = Free }
after o (entries.Stop adapter _) = let rows = change stopped o.adapters adapter.0 in record o { adapters = rows; contexts = contexts_stopped o.contexts adapter.0 (all_stopped rows); next = Tail adapter }
after o _ = record o { next = Free }
