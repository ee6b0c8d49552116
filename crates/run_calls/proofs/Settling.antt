-- How a run settles behind one entry more.
use Rattle.std.proofs.Common.{◌≡◌, ◌<◌, ◌≤◌, false, List, [], ◌∷◌, ◌++◌, None, refl, sym, ap, ◌∙◌, subst, arith, append_assoc, length}
use Rattle.std.specs.List.{list_any}
use Rattle.std.proofs.lemmas.List.Folds.{list_any-append}
use Rattle.call_log.specs.declared.entry.Entry.{Entry}
use Rattle.owner_book.specs.Stopping.{stop_room}
use Rattle.legal_run.specs.Laws.{RunLaws}
use Rattle.legal_run.specs.State.{Inputs, State}
use Rattle.legal_run.specs.After.{after}
use Rattle.legal_run.specs.Must.{must}
use Rattle.legal_run.specs.Run.{Reaches, Run, is_memory_stop, now}
use Rattle.run_moves.specs.declared.running.Running.{Running}
use Rattle.run_moves.specs.Runs.{IsAnswering}
use Rattle.run_facts.specs.Facts.{CountsHold}
use Rattle.nd_base.specs.declared.numbers.CtxNo.{CtxNo}
use Rattle.run_calls.specs.Answering.{Continues}
use Rattle.run_stops.specs.Standing.{Adds, Settles, SettlesBy, point_of, state_of}
use Rattle.run_stops.specs.Stopping.{owner_of}
use Rattle.stop_rooms.specs.Rooms.{RoomsStay, needs_room}

pub fed_more : (es : List Entry) (e : Entry) → list_any is_memory_stop es ≡ false → is_memory_stop e ≡ false → list_any is_memory_stop (es ++ e ∷ []) ≡ false
fed_more es e one two = list_any-append is_memory_stop es (e ∷ []) ∙ rw (one, two) refl

pub room_behind : RunLaws → RoomsStay → (c : Inputs) (log : List Entry) (e : Entry) → Run c (log ++ e ∷ []) → needs_room e ≡ false → stop_room (after c (now c log) e).owner ≤ stop_room (now c log).owner
room_behind laws rooms c log e run none = let both = (laws.more c log e).0 run in rooms.stays c log e both.0 both.1 none

pub room_stays : RunLaws → RoomsStay → (c : Inputs) (e : Entry) (before r : Running) → Adds c e before r → needs_room e ≡ false → stop_room (owner_of c r) ≤ stop_room (owner_of c before)
room_stays laws rooms c e before r added none =
    subst (λ (s : State). stop_room s.owner ≤ stop_room (owner_of c before)) (sym added.state) (room_behind laws rooms c before.log.entries e (subst (Run c) added.written added.runs.reaches.run) none)

pub fed_stays : (c : Inputs) (e : Entry) (before r : Running) → Adds c e before r → is_memory_stop e ≡ false → list_any is_memory_stop before.log.entries ≡ false → list_any is_memory_stop r.log.entries ≡ false
fed_stays c e before r added plain fed = ap (list_any is_memory_stop) added.written ∙ fed_more before.log.entries e fed plain

-- nothing must stand behind it
pub by_one : RunLaws → RoomsStay → (c : Inputs) (e : Entry) (before r : Running) → Adds c e before r → needs_room e ≡ false → is_memory_stop e ≡ false → list_any is_memory_stop before.log.entries ≡ false
    → stop_room (owner_of c before) < before.log.spare → must (after c (state_of c before) e) ≡ None → SettlesBy c e before r
by_one laws rooms c e before r added none plain fed room free =
    let stays = room_stays laws rooms c e before r added none in
    let spare = added.spare in
    record {
      settled = record {
        runs = added.runs;
        free = ap must added.state ∙ free;
        fed = fed_stays c e before r added plain fed;
        room = omega (arith, stays, spare, room);
      };
      more = [];
      written = added.written;
    }

-- and then it settles
pub then_settles : (c : Inputs) (e : Entry) (before m r : Running) → m.log.entries ≡ before.log.entries ++ e ∷ [] → Settles c m r → SettlesBy c e before r
then_settles c e before m r written done = record {
  settled = done.settled;
  more = done.longer.more;
  written = done.longer.written ∙ ap (λ (es : List Entry). es ++ done.longer.more) written ∙ append_assoc before.log.entries (e ∷ []) done.longer.more;
}

-- by two entries in a row
pub by_two : (c : Inputs) (e f : Entry) (before m r : Running) → m.log.entries ≡ before.log.entries ++ e ∷ [] → SettlesBy c f m r → SettlesBy c e before r
by_two c e f before m r written done = record {
  settled = done.settled;
  more = f ∷ done.more;
  written = done.written ∙ ap (λ (es : List Entry). es ++ f ∷ done.more) written ∙ append_assoc before.log.entries (e ∷ []) (f ∷ done.more);
}

-- the same before the answer's world is made the state's
pub continued : RunLaws → (c : Inputs) (e : Entry) (before m : Running) → Continues (point_of c before) e before m → IsAnswering (point_of c m) m × (state_of c m ≡ after c (state_of c before) e)
continued laws c e before m on =
    let is : state_of c m ≡ after c (state_of c before) e = on.run.reaches.state in
    (subst (λ (s : State). IsAnswering (record { inputs = c; state = s }) m) (sym is) on.run, is)

pub sixteen : CountsHold → (c : Inputs) (r : Running) (x : CtxNo) → Reaches c r.log.entries (state_of c r) → x.0 < 16 → x.0 < length (state_of c r).contexts
sixteen counts c r x reaches less =
    let is : length (state_of c r).contexts ≡ 16 = (counts c (state_of c r) (record { log = r.log.entries; reaches = reaches })).contexts in
    omega (arith, is, less)
