-- A handler behind whose `enter` nothing must stand.
use Rattle.std.proofs.Common.{◌≡◌, ℕ, ◌+◌, ◌<◌, ◌≤◌, true, false, List, [], ◌∷◌, ◌++◌, Option, Some, None, Result, Ok, Err, ◌⊎◌, inl, inr, refl, sym, ap, ◌∙◌, subst, arith}
use Rattle.std.specs.Result.{IsErr}
use Rattle.nd_base.specs.declared.OutOfMemory.{OutOfMemory}
use Rattle.nd_base.specs.declared.numbers.AdapterNo.{AdapterNo}
use Rattle.nd_base.specs.declared.numbers.CtxNo.{CtxNo}
use Rattle.log_fields.specs.declared.write.Write.{Write}
use Rattle.log_fields.specs.declared.field_values.Handler.{Handler}
use Rattle.log_fields.specs.declared.field_values.Handler.TheVariants as handler
use Rattle.call_log.specs.declared.entry.Entry.{Entry}
use Rattle.call_log.specs.declared.entry.Entry.TheVariants as entries
use Rattle.call_log.specs.Logs.{State as LogState}
use Rattle.owner_book.specs.Stopping.{stop_room}
use Rattle.owner_machine.specs.Must.{owner_must}
use Rattle.legal_run.specs.State.{Inputs, State, Free}
use Rattle.legal_run.specs.After.{after, enter_next}
use Rattle.legal_run.specs.Enters.{carries, is_reset}
use Rattle.legal_run.specs.EntryLaws.{is_ask}
use Rattle.legal_run.specs.VerdictLaws.{is_send}
use Rattle.legal_run.specs.Run.{Meets, now}
use Rattle.handler_entries.specs.declared.enters.Entering.{Entering}
use Rattle.handler_entries.specs.Entries.{entry_of}
use Rattle.handler_words.specs.Ready.{IsReady, MayBeOf, number_of}
use Rattle.run_moves.specs.Runs.{EntersOr, Grows}
use Rattle.run_moves.specs.declared.running.Running.{Running}
use Rattle.run_stops.specs.Standing.{Adds, IsLost, IsSettled, MovesAdd, StatesAreFree, point_of, state_of}
use Rattle.run_stops.specs.Stopping.{owner_of}
use Rattle.stop_rooms.specs.Rooms.{RoomsStay}
use Rattle.run_enters.specs.Entered.{EntersByOr, IsUnentered, begin_of, is_alone}
use Rattle.run_enters.proofs.Settling.{by_three, fed_by, lost_as_before, none, room_behind, settles}

-- ---- an entering is that of this adapter and this handler

pub entry_is : (a : Option AdapterNo) (x : CtxNo) (h : Handler) (e : Entering) → e.adapter ≡ a → e.handler ≡ h → entry_of x e ≡ entries.Enter a x h e.words e.writes
entry_is a x h e one other = ap (λ b. entries.Enter b x e.handler e.words e.writes) one ∙ ap (λ k. entries.Enter a x k e.words e.writes) other

-- it is ready as that
pub own : (c : Inputs) (r : Running) (a : Option AdapterNo) (x : CtxNo) (h : Handler) (e : Entering) → IsReady (point_of c r) a x h e → IsReady (point_of c r) e.adapter x e.handler e
own c r a x h e is =
    subst (λ b. IsReady (point_of c r) b x e.handler e) (sym is.adapter) (subst (λ k. IsReady (point_of c r) a x k e) (sym is.handler) is)

pub may_be : (a : Option AdapterNo) (h : Handler) (e : Entering) → e.adapter ≡ a → e.handler ≡ h → MayBeOf a h → MayBeOf e.adapter e.handler
may_be a h e one other be = subst (λ b. MayBeOf b e.handler) (sym one) (subst (λ k. MayBeOf a k) (sym other) be)

pub added_as : MovesAdd → (c : Inputs) (a : Option AdapterNo) (x : CtxNo) (h : Handler) (e : Entering) (before r : Running) → e.adapter ≡ a → e.handler ≡ h → Grows (point_of c before) (entry_of x e) before r
    → Adds c (entries.Enter a x h e.words e.writes) before r
added_as moves c a x h e before r one other grown = subst (λ f. Adds c f before r) (entry_is a x h e one other) (moves c (entry_of x e) before r grown)

-- it sends nothing
pub no_send : (h : Handler) → is_alone h ≡ true → is_send h ≡ false
no_send handler.Send is = absurd (cc)
no_send handler.SendPackets is = absurd (cc)
no_send _ is = refl

pub some_spare : (n spare : ℕ) → n + 3 ≤ spare → 0 < spare
some_spare n spare room = omega (arith, room)

-- ---- nothing must stand behind it, and nothing stands in front of it

next_free : (s : State) (n : ℕ) (h : Handler) (words : List ℕ) → is_alone h ≡ true → enter_next s n h words ≡ Free
next_free s n handler.ReturnPacket words is = absurd (cc)
next_free s n _ words is = refl

asks_nothing : (c : Inputs) (s : State) (a : Option AdapterNo) (x : CtxNo) (h : Handler) (words : List ℕ) (writes : List Write) → is_alone h ≡ true
    → owner_must (after c s (entries.Enter a x h words writes)).owner ≡ None
asks_nothing c s None x h words writes is = refl
asks_nothing c s (Some a) x handler.Send words writes is = absurd (cc)
asks_nothing c s (Some a) x handler.SendPackets words writes is = absurd (cc)
asks_nothing c s (Some a) x handler.ReturnPacket words writes is = absurd (cc)
asks_nothing c s (Some a) x handler.Query words writes is = absurd (cc)
asks_nothing c s (Some a) x handler.Set words writes is = absurd (cc)
asks_nothing c s (Some a) x _ words writes is = refl

begins_none : (a : Option AdapterNo) (h : Handler) → is_alone h ≡ true → begin_of a h ≡ []
begins_none None h is = refl
begins_none (Some a) handler.Reset is = absurd (cc)
begins_none (Some a) _ is = refl

-- ---- whole

pub unentered : (c : Inputs) (a : Option AdapterNo) (h : Handler) (before r : Running) → IsLost c before r → r.log ≡ before.log → IsUnentered c a h before r
unentered c a h before r lost same = record { lost = lost; written = inl (ap (λ (l : LogState). l.entries) same) }

pub alone : MovesAdd → StatesAreFree → RoomsStay → (c : Inputs) (a : Option AdapterNo) (x : CtxNo) (h : Handler) (e : Entering) (before r : Running) (result : Result (Unit {0}) OutOfMemory)
    → IsSettled c before → stop_room (owner_of c before) + 3 ≤ before.log.spare → is_alone h ≡ true → IsReady (point_of c before) a x h e → Meets c (state_of c before) (entry_of x e)
    → EntersOr (point_of c before) x e before r result → EntersByOr c a x h before r result
alone moves free rooms c a x h e before r (Ok u) settled room is ready meets grown =
    let entry : Entry = entries.Enter a x h e.words e.writes in
    let s = state_of c before in
    let added = added_as moves c a x h e before r ready.adapter ready.handler grown in
    let may : Meets c s entry = subst (λ f. Meets c s f) (entry_is a x h e ready.adapter ready.handler) meets in
    let left = room_behind rooms c entry before r 2 settled.runs may refl added (by_three (stop_room (owner_of c before)) before.log.spare room) in
    record {
      settled = settles c entry before r 2 added (free (after c s entry) (next_free s _ h e.words is) (asks_nothing c s a x h e.words e.writes is)) (fed_by c entry before r added settled.fed refl) left;
      words = e.words;
      writes = e.writes;
      carried = ap (λ (es : List Entry). carries c (now c es) (number_of a) x.0 h e.words e.writes) (ap (λ (es : List Entry). before.log.entries ++ es) (begins_none a h is) ∙ sym (none before.log.entries)) ∙ ready.carried;
      more = [];
      forced = refl;
      written = added.written ∙ ap (λ (es : List Entry). before.log.entries ++ (es ++ entry ∷ [])) (sym (begins_none a h is));
    }
alone moves free rooms c a x h e before r (Err m) settled room is ready meets entered = unentered c a h before r (lost_as_before c before r settled entered.0 entered.1) entered.1

-- ---- memory was wanted before anything was written

pub or_lost : (c : Inputs) (a : Option AdapterNo) (x : CtxNo) (h : Handler) (before r : Running) (result : Result (Unit {0}) OutOfMemory) → IsErr result → IsLost c before r → r.log ≡ before.log
    → EntersByOr c a x h before r result
or_lost c a x h before r (Ok u) wrong lost same = absurd (cc)
or_lost c a x h before r (Err m) is lost same = unentered c a h before r lost same

-- ---- by handler

pub is_left : (h : Handler) → (h ≡ handler.Reset → ⊥) → (h ≡ handler.ReturnPacket → ⊥) → (h ≡ handler.Query → ⊥) → (h ≡ handler.Set → ⊥) → is_send h ≡ false → is_alone h ≡ true
is_left handler.Reset reset home query set other = absurd (reset refl)
is_left handler.ReturnPacket reset home query set other = absurd (home refl)
is_left handler.Query reset home query set other = absurd (query refl)
is_left handler.Set reset home query set other = absurd (set refl)
is_left handler.Send reset home query set other = absurd (cc)
is_left handler.SendPackets reset home query set other = absurd (cc)
is_left _ reset home query set other = refl

pub no_reset : (h : Handler) → is_alone h ≡ true → is_reset h ≡ false
no_reset handler.Reset is = absurd (cc)
no_reset _ is = refl

pub asks_one : (h : Handler) → (h ≡ handler.Query) ⊎ (h ≡ handler.Set) → is_ask h ≡ true
asks_one h (inl is) = ap is_ask is
asks_one h (inr is) = ap is_ask is

pub asks_no_reset : (h : Handler) → (h ≡ handler.Query) ⊎ (h ≡ handler.Set) → is_reset h ≡ false
asks_no_reset h (inl is) = ap is_reset is
asks_no_reset h (inr is) = ap is_reset is
