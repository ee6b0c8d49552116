-- A command settles, or memory is wanted.
use Rattle.std.proofs.Common.{◌≡◌, ℕ, ◌+◌, ◌<◌, ◌≤◌, true, false, ◌||◌, List, [], ◌∷◌, ◌++◌, Option, None, refl, sym, ap, ◌∙◌, subst, arith, append_assoc}
use Rattle.std.specs.List.{list_any}
use Rattle.std.specs.Option.{option_map, option_map_or}
use Rattle.log_fields.specs.declared.field_values.Cause.TheVariants.{Memory}
use Rattle.call_log.specs.declared.entry.Entry.{Entry}
use Rattle.call_log.specs.declared.entry.Entry.TheVariants as entries
use Rattle.call_log.specs.Logs.{State as LogState}
use Rattle.nd_base.specs.declared.numbers.PacketNo.{PacketNo}
use Rattle.nd_base.specs.declared.numbers.RequestNo.{RequestNo}
use Rattle.owner_machine.specs.declared.rows.Next.{Next as OwnerNext}
use Rattle.owner_machine.specs.declared.rows.Next.TheVariants as nexts
use Rattle.owner_machine.specs.Requests.{behind_answer}
use Rattle.owner_machine.specs.Must.{Answers, may_break_in, must_behind, owner_must, serves}
use Rattle.owner_machine.specs.Must as owners
use Rattle.owner_book.specs.Stopping.{stop_room}
use Rattle.legal_run.specs.Laws.{RunLaws}
use Rattle.legal_run.specs.State.{Inputs, State}
use Rattle.legal_run.specs.After.{after, next_after, popped}
use Rattle.legal_run.specs.Must.{Owes, must}
use Rattle.legal_run.specs.Run.{Meets, Reaches, Run, is_memory_stop, now}
use Rattle.run_moves.specs.declared.running.Running.{Running}
use Rattle.run_moves.specs.Runs.{IsRun}
use Rattle.run_stops.specs.Standing.{Adds, IsLost, IsSettled, Settles, SettlesBy, point_of, state_of}
use Rattle.run_stops.specs.Stopping.{owner_of}
use Rattle.stop_rooms.specs.Rooms.{RoomsStay, needs_room}
use Rattle.run_commands.specs.Commands.{IsBehind, IsCalm}
use Rattle.run_commands.proofs.Behind.{behind_refusal, calm, silent, must_is, still_calm, none_in_both, none_in_front}

pub no_more : (es : List Entry) → es ≡ es ++ []
no_more [] = refl
no_more (e ∷ es) = ap (λ xs. e ∷ xs) (no_more es)

-- memory was wanted before anything was written
pub lost : (c : Inputs) (before r : Running) → IsSettled c before → IsRun (point_of c before) r → r.log ≡ before.log → IsLost c before r
lost c before r settled run same =
    let state : state_of c r ≡ state_of c before = ap (λ (l : LogState). now c l.entries) same in
    let nothing : owner_must (owner_of c r) ≡ None = ap (λ (s : State). owner_must s.owner) state ∙ silent (state_of c before) settled.free in
    let rooms = ap (λ (s : State). stop_room s.owner) state in
    let spares = ap (λ (l : LogState). l.spare) same in
    let fits = settled.room in
    record {
      cut = record {
        reaches = subst (λ (s : State). Reaches c r.log.entries s) (sym state) run.reaches;
        owner = run.kept.owner ∙ ap (λ (s : State). s.owner) (sym state);
        breaks = λ a. ap (λ (d : Option owners.Due). option_map_or (λ due. serves (owner_of c r) due (entries.Stop a Memory) || may_break_in (owner_of c r).next (entries.Stop a Memory)) d true) nothing;
        fed = ap (λ (l : LogState). list_any is_memory_stop l.entries) same ∙ settled.fed;
        room = omega (arith, rooms, spares, fits);
        over = λ finished. ap must state ∙ settled.free;
      };
      longer = record { more = []; written = ap (λ (l : LogState). l.entries) same ∙ no_more before.log.entries };
    }

-- what was written may stand
pub written_meets : RunLaws → (c : Inputs) (e : Entry) (before r : Running) → Adds c e before r → Run c before.log.entries × Meets c (state_of c before) e
written_meets laws c e before r added = (laws.more c before.log.entries e).0 (subst (Run c) added.written added.runs.reaches.run)

pub still_fed : (c : Inputs) (e : Entry) (before r : Running) → Adds c e before r → is_memory_stop e ≡ false → list_any is_memory_stop before.log.entries ≡ false → list_any is_memory_stop r.log.entries ≡ false
still_fed c e before r added other fed = ap (list_any is_memory_stop) added.written ∙ none_in_both before.log.entries (e ∷ []) fed (none_in_front e [] other refl)

pub quiet : (c : Inputs) (e : Entry) (before r : Running) → Adds c e before r → next_after c (state_of c before) e ≡ popped (state_of c before).next → IsCalm (state_of c before).next → IsCalm (state_of c r).next
quiet c e before r added next was = subst IsCalm (sym (ap (λ (s : State). s.next) added.state ∙ next)) (still_calm (state_of c before).next was)

-- an entry behind which the owner machine asks for nothing
pub nothing_behind : RunLaws → RoomsStay → (c : Inputs) (e : Entry) (before r : Running) → Adds c e before r → is_memory_stop e ≡ false → needs_room e ≡ false
    → next_after c (state_of c before) e ≡ popped (state_of c before).next → IsCalm (state_of c before).next → owner_must (after c (state_of c before) e).owner ≡ None → list_any is_memory_stop before.log.entries ≡ false
    → stop_room (owner_of c before) < before.log.spare → IsSettled c r
nothing_behind laws rooms c e before r added other small next was over fed room =
    let (run, meets) = written_meets laws c e before r added in
    let stays = rooms.stays c before.log.entries e run meets small in
    let same = ap (λ (s : State). stop_room s.owner) added.state in
    let one = added.spare in
    record {
      runs = added.runs;
      free = must_is (state_of c r) (quiet c e before r added next was) ∙ ap (option_map Owes) (ap (λ (s : State). owner_must s.owner) added.state ∙ over);
      fed = still_fed c e before r added other fed;
      room = omega (arith, stays, same, one, room);
    }

pub settles_by : RunLaws → RoomsStay → (c : Inputs) (e : Entry) (before r : Running) → IsSettled c before → stop_room (owner_of c before) + 3 ≤ before.log.spare → Adds c e before r → is_memory_stop e ≡ false
    → needs_room e ≡ false → next_after c (state_of c before) e ≡ popped (state_of c before).next → owner_must (after c (state_of c before) e).owner ≡ None → SettlesBy c e before r
settles_by laws rooms c e before r settled room added other small next over = record {
  settled = nothing_behind laws rooms c e before r added other small next (calm (state_of c before) settled.free) over settled.fed (omega (arith, room));
  more = [];
  written = added.written;
}

-- an entry that ends what a command left
pub settles_behind : RunLaws → RoomsStay → (c : Inputs) (command : OwnerNext) (e : Entry) (before r : Running) → IsBehind c command before → Adds c e before r → is_memory_stop e ≡ false → needs_room e ≡ false
    → next_after c (state_of c before) e ≡ popped (state_of c before).next → owner_must (after c (state_of c before) e).owner ≡ None → Settles c before r
settles_behind laws rooms c command e before r behind added other small next over = record {
  settled = nothing_behind laws rooms c e before r added other small next behind.calm over behind.fed behind.room;
  longer = record { more = e ∷ []; written = added.written };
}

-- nothing is to be ended
pub settles_at_once : (c : Inputs) (command : OwnerNext) (r : Running) → IsBehind c command r → owner_must (owner_of c r) ≡ None → Settles c r r
settles_at_once c command r behind over = record {
  settled = record {
    runs = behind.runs;
    free = must_is (state_of c r) behind.calm ∙ ap (option_map Owes) over;
    fed = behind.fed;
    room = let room = behind.room in omega (arith, room);
  };
  longer = record { more = []; written = no_more r.log.entries };
}

-- a command was written, with room for its end
pub stands_behind : RunLaws → RoomsStay → (c : Inputs) (command : OwnerNext) (e : Entry) (before r : Running) → IsSettled c before → stop_room (owner_of c before) + 3 ≤ before.log.spare → Adds c e before r
    → is_memory_stop e ≡ false → next_after c (state_of c before) e ≡ popped (state_of c before).next → (after c (state_of c before) e).owner.next ≡ command → IsBehind c command r
stands_behind laws rooms c command e before r settled room added other next last =
    let (run, meets) = written_meets laws c e before r added in
    let more = rooms.grows c before.log.entries e run meets in
    let same = ap (λ (s : State). stop_room s.owner) added.state in
    let one = added.spare in
    record {
      runs = added.runs;
      last = ap (λ (s : State). s.owner.next) added.state ∙ last;
      calm = quiet c e before r added next (calm (state_of c before) settled.free);
      fed = still_fed c e before r added other settled.fed;
      room = omega (arith, more, same, one, room);
    }

-- and what it left was ended
pub ends_behind : (c : Inputs) (e : Entry) (before m r : Running) → Adds c e before m → Settles c m r → SettlesBy c e before r
ends_behind c e before m r added done = record {
  settled = done.settled;
  more = done.longer.more;
  written = done.longer.written ∙ ap (λ es. es ++ done.longer.more) added.written ∙ append_assoc before.log.entries (e ∷ []) done.longer.more;
}

-- ---- questions

-- behind an answer to a question that was refused nothing is asked for
pub none_behind_answer : (c : Inputs) (s : State) (asked : RequestNo) (r status : ℕ) → s.owner.next ≡ nexts.Asked asked → owner_must (after c s (entries.Answer (record { 0 = r }) (record { 0 = status }) [])).owner ≡ None
none_behind_answer c s asked r status last = ap (λ (n : OwnerNext). must_behind (after c s (entries.Answer (record { 0 = r }) (record { 0 = status }) [])).owner (behind_answer n)) last

-- ---- packets

-- and so it is behind the completion of a packet that was refused
pub none_behind_refusal : (c : Inputs) (s : State) (sent : PacketNo) (status : ℕ) → s.owner.next ≡ nexts.Sent sent → owner_must (after c s (entries.Complete sent (record { 0 = status }))).owner ≡ None
none_behind_refusal c s sent status last = ap (must_behind (after c s (entries.Complete sent (record { 0 = status }))).owner) (behind_refusal s.owner sent.0 (nexts.Sent sent) last (λ p. refl))
