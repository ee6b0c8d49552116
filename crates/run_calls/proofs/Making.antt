-- What a call makes, entry by entry.
use Rattle.std.proofs.Common.{◌≡◌, ℕ, ◌<◌, ◌+◌, ◌^◌, Bool, true, false, ◌==◌, ◌||◌, cond, List, [], ◌∷◌, ◌++◌, length, Ok, refl, sym, ap, ◌∙◌, subst, arith, append_assoc, append-nil}
use Rattle.std.specs.List.{list_any}
use Rattle.nd_base.specs.declared.numbers.CtxNo.{CtxNo}
use Rattle.call_log.specs.declared.entry.Entry.{Entry}
use Rattle.call_log.specs.declared.entry.Entry.TheVariants as entries
use Rattle.guest_world.specs.Worlds.{longest_time}
use Rattle.guest_world.specs.declared.answer.Answer.TheVariants.{Now}
use Rattle.guest_world.specs.declared.world.World.{World}
use Rattle.import_answers.specs.Outcomes.{Comes, Outcome}
use Rattle.owner_machine.specs.declared.rows.Context.{Context as OwnerContext}
use Rattle.owner_machine.specs.declared.rows.Next.{Next as OwnerNext}
use Rattle.owner_machine.specs.declared.rows.Next.TheVariants as owners
use Rattle.owner_machine.specs.State.{at}
use Rattle.owner_machine.specs.Packets.{behind_complete, behind_verdict, has_verdict, is_ending}
use Rattle.owner_book.specs.Stopping.{stop_room}
use Rattle.legal_run.specs.Laws.{RunLaws}
use Rattle.legal_run.specs.State.{Inputs, State, Context, call_at}
use Rattle.legal_run.specs.Calls.{outcome_of}
use Rattle.legal_run.specs.After.{after, popped}
use Rattle.legal_run.specs.Run.{Run, is_memory_stop}
use Rattle.run_moves.specs.declared.running.Running.{Running}
use Rattle.run_stops.specs.Standing.{Lengthens, point_of, state_of}
use Rattle.stop_rooms.specs.Rooms.{RoomsStay, needs_room}
use Rattle.run_calls.specs.Answering.{CanReturn, Continues, IsMaking, MakesOn, Serving, is_light}
use Rattle.run_calls.proofs.Settling.{continued, fed_more, room_behind}

-- what such an entry keeps
pub record KeepsCall (s t : State) : Type 0 where
  pub world : t.world ≡ s.world
  pub contexts : t.contexts ≡ s.contexts
  pub handlers : t.owner.contexts ≡ s.owner.contexts
  pub next : t.next ≡ popped s.next

either_free : (b : Bool) → cond b owners.Free owners.Free ≡ owners.Free
either_free true = refl
either_free false = refl

complete_free : (s : State) (k : ℕ) → s.owner.next ≡ owners.Free → behind_complete s.owner k ≡ owners.Free
complete_free s k is =
    ap (λ (n : OwnerNext). cond (at (λ p. has_verdict n k p || is_ending n p) s.owner.packets k) (behind_verdict n k) owners.Free) is ∙ either_free (at (λ p. has_verdict owners.Free k p || is_ending owners.Free p) s.owner.packets k)

pub light_free : (c : Inputs) (s : State) (e : Entry) → is_light e ≡ true → s.owner.next ≡ owners.Free → (after c s e).owner.next ≡ owners.Free
light_free c s (entries.Complete packet status) light is = complete_free s packet.0 is
light_free c s (entries.Late packet) light is = refl
light_free c s (entries.Port a way size port bytes) light is = refl
light_free c s (entries.WireOut a bytes) light is = refl
light_free c s _ light is = absurd (cc)

pub light_keeps : (c : Inputs) (s : State) (e : Entry) → is_light e ≡ true → KeepsCall s (after c s e)
light_keeps c s (entries.Complete packet status) light = record { world = refl; contexts = refl; handlers = refl; next = refl }
light_keeps c s (entries.Late packet) light = record { world = refl; contexts = refl; handlers = refl; next = refl }
light_keeps c s (entries.Port a way size port bytes) light = record { world = refl; contexts = refl; handlers = refl; next = refl }
light_keeps c s (entries.WireOut a bytes) light = record { world = refl; contexts = refl; handlers = refl; next = refl }
light_keeps c s _ light = absurd (cc)

pub light_small : (e : Entry) → is_light e ≡ true → (needs_room e ≡ false) × (is_memory_stop e ≡ false)
light_small (entries.Complete packet status) light = (refl, refl)
light_small (entries.Late packet) light = (refl, refl)
light_small (entries.Port a way size port bytes) light = (refl, refl)
light_small (entries.WireOut a bytes) light = (refl, refl)
light_small _ light = absurd (cc)

same_answer : (s t : State) (x : CtxNo) (import : ℕ) (words : List ℕ) → KeepsCall s t → outcome_of t x import words ≡ outcome_of s x import words
same_answer s t x import words keeps =
    ap (λ (w : World). outcome_of (record t { world = w }) x import words) keeps.world ∙ ap (λ (xs : List OwnerContext). outcome_of (record s { owner = record t.owner { contexts = xs } }) x import words) keeps.handlers

-- one of them was written
pub makes_one : RunLaws → RoomsStay → (v : Serving) (e : Entry) (es : List Entry) (before r : Running) → IsMaking v (e ∷ es) before → Continues (point_of v.inputs before) e before r → MakesOn v es before r
makes_one runs rooms v e es before r making on =
    let c = v.inputs in
    let x = v.context in
    let s = state_of c before in
    let t = after c s e in
    let at = continued runs c e before r on in
    let light = making.light.0.0 in
    let keeps = light_keeps c s e light in
    let small = light_small e light in
    let call = making.call in
    let same : outcome_of (state_of c r) x call.import call.words ≡ outcome_of s x call.import call.words = ap (λ (u : State). outcome_of u x call.import call.words) at.1 ∙ same_answer s t x call.import call.words keeps in
    let world : (state_of c r).world ≡ s.world = ap (λ (u : State). u.world) at.1 ∙ keeps.world in
    let contexts : (state_of c r).contexts ≡ s.contexts = ap (λ (u : State). u.contexts) at.1 ∙ keeps.contexts in
    let stays = room_behind runs rooms c before.log.entries e (subst (Run c) on.written at.0.reaches.run) small.0 in
    let owner : stop_room (state_of c r).owner ≡ stop_room t.owner = ap (λ (u : State). stop_room u.owner) at.1 in
    let spare = on.spare in
    let room = making.room in
    record {
      making = record {
        answering = at.0;
        next = ap (λ (u : State). u.next) at.1 ∙ keeps.next ∙ ap popped making.next;
        silent = ap (λ (u : State). u.owner.next) at.1 ∙ light_free c s e light making.silent;
        light = making.light.1;
        call = call;
        called = ap (λ (xs : List Context). call_at (record s { contexts = xs }) x.0) contexts ∙ making.called;
        number = making.number;
        plain = making.plain;
        by_row = making.by_row;
        comes =
            subst (λ (w : World). Comes (outcome_of (state_of c r) x call.import call.words) (state_of c r).world (Ok (Now v.reply)) w) (sym on.world)
            (subst (λ (w : World). Comes (outcome_of (state_of c r) x call.import call.words) w (Ok (Now v.reply)) before.world) (sym world)
            (subst (λ (o : Outcome). Comes o s.world (Ok (Now v.reply)) before.world) (sym same) making.comes));
        most = making.most;
        returns = subst (λ (w : World). CanReturn (record (state_of c r) { world = w }) x) (sym world) (subst (λ (xs : List Context). CanReturn (record s { contexts = xs }) x) (sym contexts) making.returns);
        fed = ap (list_any is_memory_stop) on.written ∙ fed_more before.log.entries e making.fed small.1;
        time = subst (λ (w : World). w.clock.clock + longest_time < 2 ^ 64) (sym world) making.time;
        room = omega (arith, stays, owner, spare, room);
      };
      longer = record { more = e ∷ []; written = on.written };
    }

-- ---- all of them

pub as_long : (r : Running) → Lengthens r r
as_long r = record { more = []; written = sym (append-nil r.log.entries) }

pub longer : (before m r : Running) → Lengthens before m → Lengthens m r → Lengthens before r
longer before m r some rest = record {
  more = some.more ++ rest.more;
  written = rest.written ∙ ap (λ (es : List Entry). es ++ rest.more) some.written ∙ append_assoc before.log.entries some.more rest.more;
}

pub none_left_over : (n : ℕ) (es : List Entry) → n ≡ length es → (n == 0) ≡ true → es ≡ []
none_left_over n [] count h = refl
none_left_over n (e ∷ es) count h = let none : n ≡ 0 = grind (arith, h) in absurd (omega (arith, count, none))
