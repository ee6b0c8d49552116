-- What a cancel ends, one packet after the other.
use Rattle.std.proofs.Common.{◌≡◌, ℕ, ◌+◌, ◌<◌, ◌≤◌, false, List, [], ◌∷◌, ◌++◌, Some, None, refl, sym, ap, ◌∙◌, subst, arith, append_assoc}
use Rattle.std.specs.Prelude.{count_by}
use Rattle.std.specs.Option.{option_map}
use Rattle.nd_base.specs.declared.numbers.BindingNo.{BindingNo}
use Rattle.call_log.specs.declared.entry.Entry.{Entry}
use Rattle.call_log.specs.declared.entry.Entry.TheVariants as entries
use Rattle.owner_machine.specs.State.{request_aborted}
use Rattle.owner_machine.specs.Packets.{queued_with_id, slot_of}
use Rattle.owner_machine.specs.Must.{Completes, must_behind, owner_must}
use Rattle.owner_book.specs.Stopping.{stop_room}
use Rattle.legal_run.specs.Laws.{RunLaws}
use Rattle.legal_run.specs.State.{Inputs, State}
use Rattle.legal_run.specs.Must.{Owes}
use Rattle.legal_run.specs.Run.{Meets, Reaches, now}
use Rattle.run_moves.specs.declared.running.Running.{Running}
use Rattle.run_moves.specs.Runs.{IsRun}
use Rattle.run_stops.specs.Standing.{Adds, IsLost, IsSettled, Lengthens, Runs, Settles, SettlesBy, point_of, state_of}
use Rattle.run_stops.specs.Stopping.{owner_of}
use Rattle.stop_rooms.specs.Rooms.{RoomsStay}
use Rattle.run_commands.specs.Commands.{AbortsOne, HasRoom, IsCancelling, queued}
use Rattle.run_commands.proofs.Behind.{calm, cancel_meets, first_queued_with, must_is, one_less, queued_in_slots, still_cancelling}
use Rattle.run_commands.proofs.Settling.{lost, no_more, quiet, still_fed, written_meets}

abbrev aborted : ℕ → Entry
aborted k = entries.Complete (record { 0 = k }) (record { 0 = request_aborted })

-- the entry may stand, and there is room for it
pub abort_may : (c : Inputs) (driver : BindingNo) (id k : ℕ) (r : Running) → IsCancelling c driver id r → queued (owner_of c r) driver id ≡ Some k → Meets c (state_of c r) (aborted k) × (0 < r.log.spare)
abort_may c driver id k r is found =
    let some = one_less (owner_of c r) driver id k is.last (first_queued_with (owner_of c r) driver.0 id k found) in
    let room = is.room in
    (cancel_meets c (state_of c r) driver id k is.calm is.last found, omega (arith, some, room))

pub aborts_one : RunLaws → RoomsStay → (c : Inputs) (driver : BindingNo) (id k : ℕ) (before r : Running) → IsCancelling c driver id before → queued (owner_of c before) driver id ≡ Some k → Adds c (aborted k) before r
    → AbortsOne c driver id before r
aborts_one laws rooms c driver id k before r is found added =
    let o = owner_of c before in
    let there = first_queued_with o driver.0 id k found in
    let (run, meets) = written_meets laws c (aborted k) before r added in
    let stays = rooms.stays c before.log.entries (aborted k) run meets refl in
    let same = ap (λ (s : State). stop_room s.owner) added.state in
    let falls = ap (λ (s : State). count_by (queued_with_id driver.0 id) s.owner.packets + 1) added.state ∙ one_less o driver id k is.last there in
    let one = added.spare in
    let room = is.room in
    record {
      cancelling = record {
        runs = added.runs;
        last = ap (λ (s : State). s.owner.next) added.state ∙ still_cancelling o driver id k is.last there;
        calm = quiet c (aborted k) before r added refl is.calm;
        fed = still_fed c (aborted k) before r added refl is.fed;
        room = omega (arith, stays, same, falls, one, room);
      };
      falls = falls;
      entry = aborted k;
      written = added.written;
    }

pub record IsAborting (c : Inputs) (driver : BindingNo) (id : ℕ) (before r : Running) : Type 0 where
  pub cancelling : IsCancelling c driver id r
  pub longer : Lengthens before r

pub begins : (c : Inputs) (driver : BindingNo) (id : ℕ) (r : Running) → IsCancelling c driver id r → IsAborting c driver id r r
begins c driver id r is = record { cancelling = is; longer = record { more = []; written = no_more r.log.entries } }

pub goes_on : (c : Inputs) (driver : BindingNo) (id : ℕ) (before m r : Running) → IsAborting c driver id before m → AbortsOne c driver id m r → IsAborting c driver id before r
goes_on c driver id before m r some one = record {
  cancelling = one.cancelling;
  longer = record {
    more = some.longer.more ++ one.entry ∷ [];
    written = one.written ∙ ap (λ es. es ++ one.entry ∷ []) some.longer.written ∙ append_assoc before.log.entries some.longer.more (one.entry ∷ []);
  };
}

pub ends : (c : Inputs) (driver : BindingNo) (id : ℕ) (before r : Running) → IsAborting c driver id before r → queued (owner_of c r) driver id ≡ None → Settles c before r
ends c driver id before r aborting none =
    let is = aborting.cancelling in
    let over : owner_must (owner_of c r) ≡ None = ap (must_behind (owner_of c r)) is.last ∙ ap (option_map (λ k. Completes false k request_aborted)) none in
    record {
      settled = record {
        runs = is.runs;
        free = must_is (state_of c r) is.calm ∙ ap (option_map Owes) over;
        fed = is.fed;
        room = let room = is.room in omega (arith, room);
      };
      longer = aborting.longer;
    }

pub cancelling : RunLaws → RoomsStay → (c : Inputs) (driver : BindingNo) (id : ℕ) (before r : Running) → IsSettled c before → stop_room (owner_of c before) + count_by (slot_of driver.0) (owner_of c before).packets + 1 ≤ before.log.spare
    → Adds c (entries.Cancel driver id) before r → IsCancelling c driver id r
cancelling laws rooms c driver id before r settled room added =
    let e = entries.Cancel driver id in
    let (run, meets) = written_meets laws c e before r added in
    let stays = rooms.stays c before.log.entries e run meets refl in
    let same = ap (λ (s : State). stop_room s.owner) added.state in
    let packets = ap (λ (s : State). count_by (queued_with_id driver.0 id) s.owner.packets) added.state in
    let few = queued_in_slots (owner_of c before) driver.0 id in
    let one = added.spare in
    record {
      runs = added.runs;
      last = ap (λ (s : State). s.owner.next) added.state;
      calm = quiet c e before r added refl (calm (state_of c before) settled.free);
      fed = still_fed c e before r added refl settled.fed;
      room = omega (arith, stays, same, packets, few, one, room);
    }

-- ---- room

same_state : (c : Inputs) (before r : Running) → HasRoom before r → state_of c r ≡ state_of c before
same_state c before r has = ap (now c) has.entries

roomy_run : (c : Inputs) (before r : Running) → HasRoom before r → Runs c before → IsRun (point_of c before) r
roomy_run c before r has runs = subst (IsRun (point_of c before)) (sym has.others) (record {
  reaches = subst (λ (es : List Entry). Reaches c es (state_of c before)) (sym has.entries) runs.reaches;
  kept = runs.kept;
  shown = runs.shown;
})

pub still_settled : (c : Inputs) (before r : Running) → HasRoom before r → IsSettled c before → IsSettled c r
still_settled c before r has settled =
    let state = same_state c before r has in
    let rooms = ap (λ (s : State). stop_room s.owner) state in
    let spare = has.spare in
    let room = settled.room in
    record {
      runs = subst (λ (s : State). IsRun (record { inputs = c; state = s }) r) (sym state) (roomy_run c before r has settled.runs);
      free = ap Rattle.legal_run.specs.Must.must state ∙ settled.free;
      fed = ap (Rattle.std.specs.List.list_any Rattle.legal_run.specs.Run.is_memory_stop) has.entries ∙ settled.fed;
      room = omega (arith, rooms, spare, room);
    }

pub same_owner : (c : Inputs) (before r : Running) → HasRoom before r → owner_of c r ≡ owner_of c before
same_owner c before r has = ap (λ (s : State). s.owner) (same_state c before r has)

pub lost_with_room : (c : Inputs) (before r : Running) → HasRoom before r → IsSettled c before → IsLost c before r
lost_with_room c before r has settled = lost_before c before r r has (lost c r r (still_settled c before r has settled) (still_settled c before r has settled).runs refl)
  where
    lost_before : (c : Inputs) (before m r : Running) → HasRoom before m → IsLost c m r → IsLost c before r
    lost_before c before m r has is = record {
      cut = is.cut;
      longer = record { more = is.longer.more; written = is.longer.written ∙ ap (λ (es : List Entry). es ++ is.longer.more) has.entries };
    }

pub lost_from : (c : Inputs) (before m r : Running) → HasRoom before m → IsLost c m r → IsLost c before r
lost_from c before m r has is = record {
  cut = is.cut;
  longer = record { more = is.longer.more; written = is.longer.written ∙ ap (λ (es : List Entry). es ++ is.longer.more) has.entries };
}

pub settles_from : (c : Inputs) (e : Entry) (before m r : Running) → HasRoom before m → SettlesBy c e m r → SettlesBy c e before r
settles_from c e before m r has done = record {
  settled = done.settled;
  more = done.more;
  written = done.written ∙ ap (λ (es : List Entry). es ++ e ∷ done.more) has.entries;
}
