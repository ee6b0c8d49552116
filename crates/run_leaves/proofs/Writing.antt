-- Verdicts that are written, one after the other.
use Rattle.std.proofs.Common.{◌≡◌, ℕ, zero, suc, ◌+◌, ◌≤◌, ◌<◌, Bool, true, false, not, ◌&&◌, ◌||◌, ◌==◌, cond, List, [], ◌∷◌, ◌++◌, Option, Some, None, Result, Ok, Err, refl, sym, ap, ◌∙◌, subst, arith, append_assoc, length}
use Rattle.std.specs.List.{list_all, list_any}
use Rattle.std.specs.Option.{option_map, option_map_or, option_or}
use Rattle.std.proofs.lemmas.List.Folds.{list_any-append}
use Rattle.nd_base.specs.declared.OutOfMemory.{OutOfMemory}
use Rattle.nd_base.specs.declared.numbers.AdapterNo.{AdapterNo}
use Rattle.nd_base.specs.declared.numbers.PacketNo.{PacketNo}
use Rattle.nd_base.specs.declared.numbers.RequestNo.{RequestNo}
use Rattle.nd_base.specs.declared.numbers.Status.{Status}
use Rattle.log_fields.specs.declared.field_values.Cause.TheVariants.{Memory}
use Rattle.call_log.specs.declared.entry.Entry.{Entry}
use Rattle.call_log.specs.declared.entry.Entry.TheVariants as entries
use Rattle.call_log.specs.Logs.{State as LogState}
use Rattle.owner_machine.specs.declared.rows.Adapter.{Adapter}
use Rattle.owner_machine.specs.declared.rows.Next.{Next as OwnerNext}
use Rattle.owner_machine.specs.declared.rows.Next.TheVariants as nexts
use Rattle.owner_machine.specs.State.{Owner, at, is_stopped, phase_is, stands}
use Rattle.owner_machine.specs.Adapters.{reset_ended}
use Rattle.owner_machine.specs.Contexts.{any_handler, none_runs}
use Rattle.owner_machine.specs.Packets.{behind_verdict, has_verdict, is_ending}
use Rattle.owner_machine.specs.Requests.{behind_answer}
use Rattle.owner_machine.specs.Handlers.{outstanding}
use Rattle.owner_machine.specs.Must.{Due as OwnerDue, is_served, may_break_in, must_behind, owner_must, serves}
use Rattle.owner_book.specs.Stopping.{stop_room}
use Rattle.legal_run.specs.State.{Inputs, State, Next, Verdicts, numbers, is_off}
use Rattle.legal_run.specs.After.{after, popped}
use Rattle.legal_run.specs.Owed.{all_finished, is_finished}
use Rattle.legal_run.specs.Must.{Owes, Exactly, must, next_must, taken_first, first_of}
use Rattle.legal_run.specs.Laws.{RunLaws}
use Rattle.legal_run.specs.Run.{Run, is_memory_stop, now}
use Rattle.run_moves.specs.Runs.{Grows}
use Rattle.run_moves.specs.declared.running.Running.{Running}
use Rattle.run_stops.specs.Standing.{Lengthens, MovesAdd, Settles, point_of, state_of}
use Rattle.run_stops.specs.Stopping.{owner_of}
use Rattle.stop_rooms.specs.Rooms.{RoomsStay, needs_room}
use Rattle.due_moves.specs.Ends.{GrowsOr}
use Rattle.run_leaves.specs.Leaving.{IsAborting, IsSilent, IsUnfinished, IsWriting, MayFollow, WritesOn, WritesOnOr, is_quiet}
use Rattle.run_leaves.proofs.Drawing.{packets_follow}
use Rattle.run_leaves.proofs.Rows.{changed_here}

-- ---- logs that grow

pub no_more : (es : List Entry) → es ≡ es ++ []
no_more [] = refl
no_more (e ∷ es) = ap (λ xs. e ∷ xs) (no_more es)

pub as_long : (r : Running) → Lengthens r r
as_long r = record { more = []; written = no_more r.log.entries }

pub longer : (before m r : Running) → Lengthens before m → Lengthens m r → Lengthens before r
longer before m r some rest = record {
  more = some.more ++ rest.more;
  written = rest.written ∙ ap (λ es. es ++ rest.more) some.written ∙ append_assoc before.log.entries some.more rest.more;
}

pub still_fed : (log : List Entry) (e : Entry) → list_any is_memory_stop log ≡ false → is_memory_stop e ≡ false → list_any is_memory_stop (log ++ e ∷ []) ≡ false
still_fed log e fed plain = list_any-append is_memory_stop log (e ∷ []) ∙ ap (λ b. b || (is_memory_stop e || false)) fed ∙ ap (λ b. b || false) plain

-- ---- what must stand

pub must_of_verdicts : (s : State) (es : List Entry) → s.next ≡ Verdicts es → owner_must s.owner ≡ None → must s ≡ first_of es
unfolding must
must_of_verdicts s es next silent =
    ap (λ (n : Next). option_or (taken_first n) (option_or (option_map Owes (owner_must s.owner)) (next_must n))) next ∙ ap (λ (d : Option OwnerDue). option_or (option_map Owes d) (first_of es)) silent

quiet_behind : (o : Owner) (n : OwnerNext) → is_quiet n ≡ true → must_behind o n ≡ None
quiet_behind o nexts.Free h = refl
quiet_behind o (nexts.Left a handler enter from) h = refl
quiet_behind o _ h = absurd (cc)

pub quiet_asks : (o : Owner) → is_quiet o.next ≡ true → owner_must o ≡ None
quiet_asks o h = quiet_behind o o.next h

pub silent_by : (o : Owner) (es : List Entry) → is_quiet o.next ≡ true → IsSilent o es
silent_by o [] h = quiet_asks o h
silent_by o (e ∷ es) h = h

pub verdict_due : (c : Inputs) (e : Entry) (es : List Entry) (r : Running) → IsWriting c (e ∷ es) r → must (state_of c r) ≡ Some (Exactly e)
verdict_due c e es r writing = must_of_verdicts (state_of c r) (e ∷ es) writing.next (quiet_asks (owner_of c r) writing.silent)

pub some_spare : (c : Inputs) (e : Entry) (es : List Entry) (r : Running) → IsWriting c (e ∷ es) r → 0 < r.log.spare
some_spare c e es r writing = let room = writing.room in omega (arith, room)

-- ---- the room for every stop

pub record Laws : Type 0 where
  pub moves : MovesAdd
  pub runs : RunLaws
  pub rooms : RoomsStay

-- an entry by which nothing becomes outstanding takes its own place of the spare, and no other
pub room_stays : Laws → (c : Inputs) (e : Entry) (before r : Running) (n : ℕ) → Grows (point_of c before) e before r → needs_room e ≡ false → stop_room (owner_of c before) + n + 1 ≤ before.log.spare → stop_room (owner_of c r) + n ≤ r.log.spare
room_stays laws c e before r n grown plain room =
    let added = laws.moves c e before r grown in
    let run = (laws.runs.more c before.log.entries e).0 (subst (Run c) added.written added.runs.reaches.run) in
    let stays = laws.rooms.stays c before.log.entries e run.0 run.1 plain in
    let same : stop_room (owner_of c r) ≡ stop_room (after c (state_of c before) e).owner = ap (λ (s : State). stop_room s.owner) added.state in
    let spare = added.spare in
    omega (arith, stays, same, spare, room)

-- ---- what stands behind a verdict

verdict_quiet : (n : OwnerNext) (k : ℕ) → is_quiet n ≡ true → is_quiet (behind_verdict n k) ≡ true
verdict_quiet nexts.Free k h = refl
verdict_quiet (nexts.Left a handler enter from) k h = refl
verdict_quiet _ k h = absurd (cc)

either_quiet : (b : Bool) (n : OwnerNext) → is_quiet n ≡ true → is_quiet (cond b n nexts.Free) ≡ true
either_quiet true n h = h
either_quiet false n h = refl

answer_quiet : (n : OwnerNext) → is_quiet n ≡ true → is_quiet (behind_answer n) ≡ true
answer_quiet nexts.Free h = refl
answer_quiet (nexts.Left a handler enter from) h = refl
answer_quiet _ h = absurd (cc)

-- a verdict was written, and the others are still to be
written : Laws → (c : Inputs) (e : Entry) (es : List Entry) (before r : Running) → IsWriting c (e ∷ es) before → Grows (point_of c before) e before r → is_memory_stop e ≡ false → needs_room e ≡ false
    → (after c (state_of c before) e).next ≡ popped (state_of c before).next → is_quiet (after c (state_of c before) e).owner.next ≡ true → ((o : Owner) → MayFollow c o es) → WritesOn c es before r
written laws c e es before r writing grown plain small next quiet follow =
    let added = laws.moves c e before r grown in
    record {
      writing = record {
        runs = added.runs;
        next = ap (λ (s : State). s.next) added.state ∙ next ∙ ap popped writing.next;
        silent = subst (λ (s : State). IsSilent s.owner es) (sym added.state) (silent_by (after c (state_of c before) e).owner es quiet);
        fed = ap (list_any is_memory_stop) added.written ∙ still_fed before.log.entries e writing.fed plain;
        room = room_stays laws c e before r (length es) grown small (let room = writing.room in omega (arith, room));
        follow = follow (owner_of c r);
      };
      longer = record { more = e ∷ []; written = added.written };
    }

pub completed : Laws → (c : Inputs) (packet : PacketNo) (status : Status) (es : List Entry) (before r : Running) → IsWriting c (entries.Complete packet status ∷ es) before
    → Grows (point_of c before) (entries.Complete packet status) before r → WritesOn c es before r
completed laws c packet status es before r writing grown =
    let o = owner_of c before in
    written laws c _ es before r writing grown refl refl refl
    (either_quiet (at (λ p. has_verdict o.next packet.0 p || is_ending o.next p) o.packets packet.0) (behind_verdict o.next packet.0) (verdict_quiet o.next packet.0 writing.silent)) (λ n. packets_follow c n es writing.follow)

pub requeued : Laws → (c : Inputs) (packet : PacketNo) (es : List Entry) (before r : Running) → IsWriting c (entries.Requeue packet ∷ es) before
    → Grows (point_of c before) (entries.Requeue packet) before r → WritesOn c es before r
requeued laws c packet es before r writing grown =
    written laws c _ es before r writing grown refl refl refl (verdict_quiet (owner_of c before).next packet.0 writing.silent) (λ n. packets_follow c n es writing.follow)

-- ---- the answer to a request

not_all : {A : Type 0} (test : ℕ → Bool) (n k : ℕ) (xs : List A) → k < length xs → test (n + k) ≡ false → list_all test (numbers n xs) ≡ false
not_all test n k [] less fails = absurd (omega (arith, less))
not_all test n zero (x ∷ xs) less fails = let same : n + 0 ≡ n = omega arith in ap (λ b. b && list_all test (numbers (suc n) xs)) (ap test (sym same) ∙ fails)
not_all test n (suc k) (x ∷ xs) less fails =
    let same : suc n + k ≡ n + suc k = omega arith in
    ap (λ b. test n && b) (not_all test (suc n) k xs (omega (arith, less)) (ap test same ∙ fails)) ∙ nothing (test n)
  where
    nothing : (b : Bool) → b && false ≡ false
    nothing true = refl
    nothing false = refl

not_stopped_at : (rows : List Adapter) (k : ℕ) → at (λ row. not (is_stopped row.phase)) rows k ≡ true → at (λ row. is_stopped row.phase) rows k ≡ false
not_stopped_at [] k h = refl
not_stopped_at (row ∷ rows) zero h = by (is_stopped row.phase) h
  where
    by : (b : Bool) → not b ≡ true → b ≡ false
    by true h = absurd (cc)
    by false h = refl
not_stopped_at (row ∷ rows) (suc k) h = not_stopped_at rows k h

none_left : (off none : Bool) (n : ℕ) → 0 < n → off && ((n == 0) && none) ≡ false
none_left off none n some = let holds : (n == 0) ≡ false = grind (arith, some) in ap (λ b. off && (b && none)) holds ∙ nothing off
  where
    nothing : (b : Bool) → b && false ≡ false
    nothing true = refl
    nothing false = refl

unfinished : (c : Inputs) (s : State) → IsUnfinished c s.owner → all_finished c s ≡ false
unfinished c s h =
    let a = h.adapter in
    let stays : phase_is is_stopped s.owner a ≡ false = not_stopped_at s.owner.adapters a h.standing in
    let not_yet : is_finished s a ≡ false = ap (λ b. b || (phase_is is_off s.owner a && ((outstanding s.owner a == 0) && none_runs s.owner any_handler a))) stays ∙ none_left (phase_is is_off s.owner a) (none_runs s.owner any_handler a) (outstanding s.owner a) h.holds in
    let first : a ≡ 0 + a = omega arith in
    not_all (is_finished s) 0 a c.adapters h.given (subst (λ n. is_finished s n ≡ false) first not_yet)

pub breaks_in : (o : Owner) (e : Entry) → owner_must o ≡ None → is_served o e ≡ true
breaks_in o e silent = ap (λ (d : Option OwnerDue). option_map_or (λ due. serves o due e || may_break_in o.next e) d true) silent

pub answered : Laws → (c : Inputs) (request : RequestNo) (status : Status) (bytes : List ℕ) (es : List Entry) (before r : Running) (result : Result (Unit {0}) OutOfMemory)
    → IsWriting c (entries.Answer request status bytes ∷ es) before → GrowsOr (point_of c before) (entries.Answer request status bytes) before r result → WritesOnOr c es before r result
answered laws c request status bytes es before r (Ok done) writing grown =
    written laws c _ es before r writing grown refl refl refl (answer_quiet (owner_of c before).next writing.silent) (λ n. subst (MayFollow c n) (sym writing.follow.0) tt)
answered laws c request status bytes es before r (Err lost) writing h =
    let same : state_of c r ≡ state_of c before = ap (λ (l : LogState). now c l.entries) h.1 in
    record {
      cut = record {
        reaches = record { run = h.0.reaches.run; state = refl };
        owner = h.0.kept.owner ∙ sym (ap (λ (s : State). s.owner) same);
        breaks = λ a. breaks_in (owner_of c r) (entries.Stop a Memory) (ap (λ (s : State). owner_must s.owner) same ∙ quiet_asks (owner_of c before) writing.silent);
        fed = ap (λ (l : LogState). list_any is_memory_stop l.entries) h.1 ∙ writing.fed;
        room = let room = writing.room in let owner : stop_room (owner_of c r) ≡ stop_room (owner_of c before) = ap (λ (s : State). stop_room s.owner) same in let spare : r.log.spare ≡ before.log.spare = ap (λ (l : LogState). l.spare) h.1 in omega (arith, room, owner, spare);
        over = λ all. absurd (let some = unfinished c (state_of c before) writing.follow.1 in let every : all_finished c (state_of c before) ≡ true = ap (all_finished c) (sym same) ∙ all in cc);
      };
      longer = record { more = []; written = ap (λ (l : LogState). l.entries) h.1 ∙ no_more before.log.entries };
    }

-- ---- the end of a reset

pub ends_reset : Laws → (c : Inputs) (a : AdapterNo) (status : Status) (es : List Entry) (before r : Running) → IsWriting c (entries.ResetEnd a status ∷ es) before
    → Grows (point_of c before) (entries.ResetEnd a status) before r → IsAborting c a r × Lengthens before r
ends_reset laws c a status es before r writing grown =
    let added = laws.moves c _ before r grown in (
      record {
        runs = added.runs;
        behind = ap (λ (s : State). s.owner.next) added.state;
        next = ap (λ (s : State). s.next) added.state ∙ ap popped writing.next ∙ ap Verdicts writing.follow.0;
        fed = ap (list_any is_memory_stop) added.written ∙ still_fed before.log.entries _ writing.fed refl;
        standing = ap (λ (s : State). stands s.owner a.0) added.state ∙ changed_here (λ row. not (is_stopped row.phase)) (λ row. not (is_stopped row.phase)) reset_ended (owner_of c before).adapters a.0 (λ row. refl) writing.follow.1;
        room = let stays = room_stays laws c _ before r 0 grown refl (let room = writing.room in omega (arith, room)) in omega (arith, stays);
      },
      record { more = entries.ResetEnd a status ∷ []; written = added.written },
    )

pub reset_whole : (c : Inputs) (a : AdapterNo) (status : Status) (es : List Entry) (before m r : Running) → IsWriting c (entries.ResetEnd a status ∷ es) before → Lengthens before m → WritesOn c [] m r → WritesOn c es before r
reset_whole c a status es before m r writing some rest =
    subst (λ xs. WritesOn c xs before r) (sym writing.follow.0) (record { writing = rest.writing; longer = longer before m r some rest.longer })

-- ---- all of them

pub settled : (c : Inputs) (before r : Running) → WritesOn c [] before r → Settles c before r
settled c before r on = record {
  settled = record { runs = on.writing.runs; free = must_of_verdicts (state_of c r) [] on.writing.next on.writing.silent; fed = on.writing.fed; room = let room = on.writing.room in omega (arith, room) };
  longer = on.longer;
}

pub none_left_over : (n : ℕ) (es : List Entry) → n ≡ length es → (n == 0) ≡ true → es ≡ []
none_left_over n [] count h = refl
none_left_over n (e ∷ es) count h = let none : n ≡ 0 = grind (arith, h) in absurd (omega (arith, count, none))
