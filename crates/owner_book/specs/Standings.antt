-- What is told of an adapter and of a driver.
use Rattle.std.specs.Prelude.{◌≡◌, ℕ, Bool, ◌&&◌, ◌||◌, ◌==◌, not, cond, List, Option, Some, None, count_by, slice_get}
use Rattle.std.specs.Option.{option_map, option_map_or}
use Rattle.owner_machine.specs.declared.rows.Driver.{Driver}
use Rattle.owner_machine.specs.State.{Owner, at, is_bound, is_running, is_resetting, phase_is}
use Rattle.owner_machine.specs.Contexts.{serialized, none_runs, any_handler}
use Rattle.owner_machine.specs.Packets.{queued_of, held_of}
use Rattle.owner_machine.specs.Loans.{due_of}
use Rattle.owner_machine.specs.Requests.{phase_of, first_asked, handed_of, open_of, is_set}
use Rattle.owner_machine.specs.Handlers.{stays_bound, is_none}
use Rattle.owner_book.specs.declared.standing.Standing.{Standing}

-- whether the least request that waits is a set; none where none waits, or the miniport has one
abbrev pub waiting_request : Owner → ℕ → Option Bool
waiting_request o a = cond (count_by (handed_of a) o.requests == 0) (option_map (λ r. at (λ q. is_set q.question) o.requests r) (first_asked o a)) None

-- a packet in its queue or at its miniport, a loan that is due, a request that is not answered, a reset that a running adapter owes or that has not
-- ended, an open handler: what a run that can go no further finds fault with
abbrev pub is_unfinished : Owner → ℕ → Bool
is_unfinished o a =
    not (count_by (queued_of a) o.packets == 0)
    || (not (count_by (held_of a) o.packets == 0)
    || (not (count_by (due_of a) o.loans == 0)
    || (not (count_by (open_of a) o.requests == 0)
    || ((phase_is is_running o a && at (λ row. row.owes_reset) o.adapters a)
    || (phase_is is_resetting o a
    || not (none_runs o any_handler a))))))

pub record IsStanding (o : Owner) (a : ℕ) (s : Standing) : Type 0 where
  pub phase : phase_of o a ≡ Some s.phase
  pub serialized : s.serialized ≡ serialized o a
  pub reset : s.reset ≡ at (λ row. row.owes_reset) o.adapters a
  -- a packet is queued, and the adapter is not held back
  pub send : s.send ≡ (not (count_by (queued_of a) o.packets == 0) && at (λ row. not row.held_back) o.adapters a)
  -- a loan is due
  pub home : s.home ≡ not (count_by (due_of a) o.loans == 0)
  pub request : s.request ≡ waiting_request o a
  -- every driver of the adapter has unbound
  pub unbound : s.unbound ≡ (count_by (stays_bound a) o.drivers == 0)
  pub unfinished : s.unfinished ≡ is_unfinished o a
  -- a cancel id, an event waits for its handler
  pub cancel : s.cancel ≡ at (λ row. not (is_none row.cancels)) o.adapters a
  pub event : s.event ≡ at (λ row. not (is_none row.events)) o.adapters a

-- the first cancel id, and the number and bytes of the first event, that wait for their handlers
abbrev pub first_cancel : Owner → ℕ → Option ℕ
first_cancel o a = option_map_or (λ row. slice_get row.cancels 0) (slice_get o.adapters a) None

abbrev pub first_event : Owner → ℕ → Option (ℕ × List ℕ)
first_event o a = option_map_or (λ row. option_map (λ e. (e.number, e.bytes)) (slice_get row.events 0)) (slice_get o.adapters a) None

-- of a driver that is bound
abbrev pub told_of_bound : {A : Type 0} → (Driver → A) → Option Driver → Option A
told_of_bound f None = None
told_of_bound f (Some d) = cond (is_bound d.binding) (Some (f d)) None
