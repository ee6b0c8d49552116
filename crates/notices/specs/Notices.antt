-- What a protocol driver is told in a run. (ProtocolSendComplete, ProtocolReceivePacket, ProtocolReceive, ProtocolRequestComplete of the Windows DDK; that
-- its adapter was stopped: the project's own, docs/LEGAL-RUN.md.)
use Rattle.std.specs.Prelude.{ℕ, Bool, ◌&&◌, ◌==◌, if◌then◌else◌, List, [], ◌∷◌, ◌++◌, Option, Some, None}
use Rattle.std.specs.List.{list_any}
use Rattle.std.specs.Option.{option_to_list}
use Rattle.nd_base.specs.declared.numbers.BindingNo.{BindingNo}
use Rattle.nd_base.specs.declared.numbers.LoanNo.{LoanNo}
use Rattle.call_log.specs.declared.entry.Entry.{Entry}
use Rattle.call_log.specs.declared.entry.Entry.TheVariants as entries
use Rattle.owner_machine.specs.State.{Owner, adapter_of, at, bound}
use Rattle.legal_run.specs.State.{Inputs, State, start}
use Rattle.legal_run.specs.After.{after}
use Rattle.notices.specs.declared.told.Told.{Told}
use Rattle.notices.specs.declared.told.Told.TheVariants.{Completed, Lent, Copied, Answered, Stopped}

-- it sent the packet, it asked the request
abbrev pub is_sender : Owner → (b k : ℕ) → Bool
is_sender o b k = at (λ p. p.driver.0 == b) o.packets k

abbrev pub is_asker : Owner → (b r : ℕ) → Bool
is_asker o b r = at (λ q. q.driver.0 == b) o.requests r

abbrev pub framed : LoanNo → (copied : Bool) → Told
framed loan copied = if copied then Copied loan else Lent loan

-- what an entry tells a driver, which is bound where it stands or not
abbrev pub tells_by : Owner → BindingNo → (is_bound : Bool) → Entry → Option Told
tells_by o b is_bound (entries.Complete packet status) = if is_sender o b.0 packet.0 then Some (Completed packet status) else None
tells_by o b is_bound (entries.Indicate adapter loan bytes holders copied) = if list_any (λ h. h.0 == b.0) holders then Some (framed loan copied) else None
tells_by o b is_bound (entries.Answer request status bytes) = if is_asker o b.0 request.0 then Some (Answered request status) else None
tells_by o b is_bound (entries.Stop adapter cause) = if is_bound && (adapter_of o b.0 == adapter.0) then Some (Stopped cause) else None
tells_by o b is_bound _ = None

-- in the state in which it stands
abbrev pub tells : State → BindingNo → Entry → Option Told
tells s b e = tells_by s.owner b (bound s.owner b.0) e

unfoldable pub notices_from : Inputs → State → BindingNo → List Entry → List Told
notices_from c s b [] = []
notices_from c s b (e ∷ log) = option_to_list (tells s b e) ++ notices_from c (after c s e) b log

-- its notices, in the order of the log
abbrev pub notices : Inputs → BindingNo → List Entry → List Told
notices c b log = notices_from c (start c) b log
