-- The request that a handler was entered for is handed.
use Rattle.std.proofs.Common.{◌≡◌, ℕ, ◌+◌, ◌≤◌, ◌<◌, true, false, ◌==◌, List, [], ◌∷◌, ◌++◌, Option, Some, None, refl, sym, ap, ◌∙◌, subst, arith, append_assoc}
use Rattle.std.specs.Option.{option_map, option_or}
use Rattle.nd_base.specs.declared.numbers.AdapterNo.{AdapterNo}
use Rattle.nd_base.specs.declared.numbers.CtxNo.{CtxNo}
use Rattle.log_fields.specs.declared.write.Write.{Write}
use Rattle.log_fields.specs.declared.field_values.Handler.{Handler}
use Rattle.log_fields.specs.declared.field_values.Handler.TheVariants as handler
use Rattle.call_log.specs.declared.entry.Entry.{Entry}
use Rattle.call_log.specs.declared.entry.Entry.TheVariants as entries
use Rattle.owner_book.specs.Stopping.{stop_room}
use Rattle.owner_machine.specs.State.{Owner}
use Rattle.owner_machine.specs.Requests.{first_asked}
use Rattle.owner_machine.specs.Must.{HandsAsk, owner_must, serves}
use Rattle.legal_run.specs.State.{Inputs, State, Next, Free}
use Rattle.legal_run.specs.After.{after, enter_next, popped}
use Rattle.legal_run.specs.EntryLaws.{DutyLaws, GoesOn, is_ask}
use Rattle.legal_run.specs.Must.{Due, Owes, Serves, must, next_must, taken_first}
use Rattle.legal_run.specs.Run.{Meets, Run, now}
use Rattle.legal_run.specs.VerdictLaws.{is_send}
use Rattle.handler_entries.specs.declared.enters.Entering.{Entering}
use Rattle.handler_entries.specs.Entries.{entry_of}
use Rattle.handler_words.specs.Ready.{IsReady}
use Rattle.legal_run.specs.Enters.{carries}
use Rattle.run_moves.specs.Runs.{Grows}
use Rattle.run_moves.specs.declared.running.Running.{Running}
use Rattle.run_stops.specs.Standing.{Adds, IsSettled, MovesAdd, Runs, StatesAreFree, point_of, state_of}
use Rattle.run_stops.specs.Stopping.{owner_of}
use Rattle.stop_rooms.specs.Rooms.{RoomsStay}
use Rattle.run_enters.specs.Entered.{EntersBy, begin_of}
use Rattle.run_enters.proofs.Settling.{by_three, by_two, and_first, fed_by, none, room_behind, settles}
use Rattle.run_enters.proofs.Unasked.{added_as, entry_is}

-- ---- what must stand behind the `enter`

no_more : (m : Option Due) → option_or m None ≡ m
no_more None = refl
no_more (Some due) = refl

must_owned : (s : State) → s.next ≡ Free → must s ≡ option_map Owes (owner_must s.owner)
unfolding must
must_owned s is = ap (λ (n : Next). option_or (taken_first n) (option_or (option_map Owes (owner_must s.owner)) (next_must n))) is ∙ no_more (option_map Owes (owner_must s.owner))

next_free : (s : State) (n : ℕ) (h : Handler) (words : List ℕ) → is_ask h ≡ true → enter_next s n h words ≡ Free
next_free s n handler.Query words is = refl
next_free s n handler.Set words is = refl
next_free s n _ words is = absurd (cc)

duty : (c : Inputs) (s : State) (a : AdapterNo) (x : CtxNo) (h : Handler) (words : List ℕ) (writes : List Write) → is_ask h ≡ true
    → owner_must (after c s (entries.Enter (Some a) x h words writes)).owner ≡ option_map (λ r. HandsAsk r) (first_asked s.owner a.0)
duty c s a x handler.Query words writes is = refl
duty c s a x handler.Set words writes is = refl
duty c s a x _ words writes is = absurd (cc)

-- ---- what serves it

equal : (m n : ℕ) → (m == n) ≡ true → m ≡ n
equal m n h = grind (arith, h)

only : (o : Owner) (r : ℕ) (e : Entry) → serves o (HandsAsk r) e ≡ true → e ≡ entries.HandAsk (record { 0 = r })
only o r (entries.HandAsk request) h = ap (λ (n : ℕ). entries.HandAsk (record { 0 = n })) (equal request.0 r h)
only o r _ h = absurd (cc)

abbrev due_of : Due → Option Due → Due
due_of other None = other
due_of other (Some d) = d

same_due : (d e : Due) → Some d ≡ Some e → d ≡ e
same_due d e is = ap (due_of d) is

is_handed : (c : Inputs) (s : State) (r : ℕ) → must s ≡ Some (Owes (HandsAsk r)) → GoesOn c s → Meets c s (entries.HandAsk (record { 0 = r }))
is_handed c s r is on = subst (Meets c s) (by_due on.asked.due (same_due on.asked.due (Owes (HandsAsk r)) (sym on.asked.must ∙ is)) on.asked.serves) on.meets
  where
    by_due : (due : Due) → due ≡ Owes (HandsAsk r) → Serves c s due on.entry → on.entry ≡ entries.HandAsk (record { 0 = r })
    by_due due same h = only s.owner r on.entry (and_first _ _ (subst (λ (d : Due). Serves c s d on.entry) same h))

never : (c : Inputs) (s : State) → must s ≡ None → GoesOn c s → ⊥
never c s is on = let wrong : Some on.asked.due ≡ None = sym on.asked.must ∙ is in absurd (cc)

-- ---- behind the `enter` of a handler of requests

pub ask_sends : (h : Handler) → is_ask h ≡ true → is_send h ≡ false
ask_sends handler.Query is = refl
ask_sends handler.Set is = refl
ask_sends _ is = absurd (cc)

begins_none : (a : AdapterNo) (h : Handler) → is_ask h ≡ true → begin_of (Some a) h ≡ []
begins_none a handler.Query is = refl
begins_none a handler.Set is = refl
begins_none a _ is = absurd (cc)

-- the run goes on there
goes : DutyLaws → (c : Inputs) (a : AdapterNo) (x : CtxNo) (h : Handler) (e : Entering) (before m : Running) → is_ask h ≡ true → Adds c (entries.Enter (Some a) x h e.words e.writes) before m → GoesOn c (state_of c m)
goes laws c a x h e before m is added =
    let entry : Entry = entries.Enter (Some a) x h e.words e.writes in
    let run : Run c (before.log.entries ++ entry ∷ []) = subst (Run c) added.written added.runs.reaches.run in
    subst (λ (es : List Entry). GoesOn c (now c es)) (sym added.written) (laws.asks c before.log.entries a x h e.words e.writes is run)

must_there : (c : Inputs) (a : AdapterNo) (x : CtxNo) (h : Handler) (e : Entering) (before m : Running) → is_ask h ≡ true → Adds c (entries.Enter (Some a) x h e.words e.writes) before m
    → must (state_of c m) ≡ option_map Owes (option_map (λ r. HandsAsk r) (first_asked (owner_of c m) a.0))
must_there c a x h e before m is added =
    let s = state_of c before in
    let entry : Entry = entries.Enter (Some a) x h e.words e.writes in
    let same : first_asked (owner_of c m) a.0 ≡ first_asked s.owner a.0 = ap (λ (t : State). first_asked t.owner a.0) added.state in
    ap must added.state ∙ must_owned (after c s entry) (next_free s _ h e.words is) ∙ ap (option_map Owes) (duty c s a x h e.words e.writes is)
    ∙ ap (λ (m : Option ℕ). option_map Owes (option_map (λ r. HandsAsk r) m)) (sym same)

pub some_asked : DutyLaws → MovesAdd → (c : Inputs) (a : AdapterNo) (x : CtxNo) (h : Handler) (e : Entering) (before m : Running) → is_ask h ≡ true → IsReady (point_of c before) (Some a) x h e
    → Grows (point_of c before) (entry_of x e) before m → first_asked (owner_of c m) a.0 ≡ None → ⊥
some_asked laws moves c a x h e before m is ready grown missing =
    let added = added_as moves c (Some a) x h e before m ready.adapter ready.handler grown in
    never c (state_of c m) (must_there c a x h e before m is added ∙ ap (λ (m : Option ℕ). option_map Owes (option_map (λ r. HandsAsk r) m)) missing) (goes laws c a x h e before m is added)

pub may_hand : DutyLaws → MovesAdd → (c : Inputs) (a : AdapterNo) (x : CtxNo) (h : Handler) (e : Entering) (r : ℕ) (before m : Running) → is_ask h ≡ true → IsReady (point_of c before) (Some a) x h e
    → Grows (point_of c before) (entry_of x e) before m → first_asked (owner_of c m) a.0 ≡ Some r → Meets c (state_of c m) (entries.HandAsk (record { 0 = r }))
may_hand laws moves c a x h e r before m is ready grown there =
    let added = added_as moves c (Some a) x h e before m ready.adapter ready.handler grown in
    is_handed c (state_of c m) r (must_there c a x h e before m is added ∙ ap (λ (m : Option ℕ). option_map Owes (option_map (λ r. HandsAsk r) m)) there) (goes laws c a x h e before m is added)

-- ---- whole

pub left_behind : RoomsStay → MovesAdd → (c : Inputs) (a : Option AdapterNo) (x : CtxNo) (h : Handler) (e : Entering) (before m : Running) → IsSettled c before → stop_room (owner_of c before) + 3 ≤ before.log.spare
    → IsReady (point_of c before) a x h e → Meets c (state_of c before) (entry_of x e) → Grows (point_of c before) (entry_of x e) before m → stop_room (owner_of c m) + (1 + 1) ≤ m.log.spare
left_behind rooms moves c a x h e before m settled room ready meets grown =
    let added = added_as moves c a x h e before m ready.adapter ready.handler grown in
    let may : Meets c (state_of c before) (entries.Enter a x h e.words e.writes) = subst (λ f. Meets c (state_of c before) f) (entry_is a x h e ready.adapter ready.handler) meets in
    by_two (stop_room (owner_of c m)) m.log.spare (room_behind rooms c (entries.Enter a x h e.words e.writes) before m 2 settled.runs may refl added (by_three (stop_room (owner_of c before)) before.log.spare room))

pub some_left : (n spare : ℕ) → n + (1 + 1) ≤ spare → 0 < spare
some_left n spare room = omega (arith, room)

pub asked : DutyLaws → MovesAdd → StatesAreFree → RoomsStay → (c : Inputs) (a : AdapterNo) (x : CtxNo) (h : Handler) (e : Entering) (r : ℕ) (before m after_all : Running)
    → IsSettled c before → stop_room (owner_of c before) + 3 ≤ before.log.spare → is_ask h ≡ true → IsReady (point_of c before) (Some a) x h e → Meets c (state_of c before) (entry_of x e)
    → Grows (point_of c before) (entry_of x e) before m → first_asked (owner_of c m) a.0 ≡ Some r → Grows (point_of c m) (entries.HandAsk (record { 0 = r })) m after_all
    → EntersBy c (Some a) x h before after_all
asked laws moves free rooms c a x h e r before m after_all settled room is ready meets grown there handed =
    let entry : Entry = entries.Enter (Some a) x h e.words e.writes in
    let hand : Entry = entries.HandAsk (record { 0 = r }) in
    let s = state_of c before in
    let first = added_as moves c (Some a) x h e before m ready.adapter ready.handler grown in
    let second = moves c hand m after_all handed in
    let may = may_hand laws moves c a x h e r before m is ready grown there in
    let next : (state_of c m).next ≡ Free = ap (λ (t : State). t.next) first.state ∙ next_free s _ h e.words is in
    let left = room_behind rooms c hand m after_all 1 first.runs may refl second (left_behind rooms moves c (Some a) x h e before m settled room ready meets grown) in
    record {
      settled = settles c hand m after_all 1 second (free (after c (state_of c m) hand) (ap popped next) refl) (fed_by c hand m after_all second (fed_by c entry before m first settled.fed refl) refl) left;
      words = e.words;
      writes = e.writes;
      carried = ap (λ (es : List Entry). carries c (now c es) a.0 x.0 h e.words e.writes) (ap (λ (es : List Entry). before.log.entries ++ es) (begins_none a h is) ∙ sym (none before.log.entries)) ∙ ready.carried;
      more = hand ∷ [];
      forced = refl;
      written = second.written ∙ ap (λ (es : List Entry). es ++ hand ∷ []) first.written ∙ append_assoc before.log.entries (entry ∷ []) (hand ∷ [])
          ∙ ap (λ (es : List Entry). before.log.entries ++ (es ++ entry ∷ hand ∷ [])) (sym (begins_none a h is));
    }

pub runs_behind : MovesAdd → (c : Inputs) (x : CtxNo) (e : Entering) (before m : Running) → Grows (point_of c before) (entry_of x e) before m → Runs c m
runs_behind moves c x e before m grown = (moves c (entry_of x e) before m grown).runs
