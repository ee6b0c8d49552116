-- A reset begins, and directly behind it its handler is entered.
use Rattle.std.proofs.Common.{◌≡◌, ℕ, zero, suc, ◌+◌, ◌≤◌, ◌<◌, Bool, true, false, cond, ◌&&◌, ◌||◌, ◌==◌, not, List, [], ◌∷◌, ◌++◌, Option, Some, None, Result, Ok, Err, inl, inr, refl, sym, ap, ◌∙◌, subst, length, slice_get, arith, append_assoc}
use Rattle.std.specs.Prelude.{count_by, get_or}
use Rattle.std.specs.List.{list_any}
use Rattle.std.specs.Option.{MatchOption, option_map_or}
use Rattle.std.proofs.lemmas.List.Folds.{list_any_at}
use Rattle.std.proofs.lemmas.List.Sums.{sum_by-append}
use Rattle.nd_base.specs.declared.OutOfMemory.{OutOfMemory}
use Rattle.nd_base.specs.declared.numbers.AdapterNo.{AdapterNo}
use Rattle.nd_base.specs.declared.numbers.CtxNo.{CtxNo}
use Rattle.nd_base.specs.declared.numbers.Phase.{Phase}
use Rattle.nd_base.specs.declared.numbers.Phase.TheVariants.{Resetting}
use Rattle.log_fields.specs.declared.field_values.Cause.TheVariants.{Memory}
use Rattle.log_fields.specs.declared.field_values.Handler.TheVariants as handler
use Rattle.call_log.specs.declared.entry.Entry.{Entry}
use Rattle.call_log.specs.declared.entry.Entry.TheVariants as entries
use Rattle.call_log.specs.Logs.{State as LogState}
use Rattle.owner_book.specs.Stopping.{stop_room}
use Rattle.owner_machine.specs.declared.rows.Adapter.{Adapter}
use Rattle.owner_machine.specs.declared.rows.Context.{Context}
use Rattle.owner_machine.specs.declared.rows.Context.TheVariants as kept
use Rattle.owner_machine.specs.State.{Owner, at, change, implies, is_running, is_stopped, phase_is}
use Rattle.owner_machine.specs.Contexts.{in_brackets, is_free as is_free_row, is_serial, none_runs, serialized}
use Rattle.owner_machine.specs.Adapters.{reset_begun}
use Rattle.owner_machine.specs.Machine.{has_case}
use Rattle.owner_machine.specs.Must.{is_served}
use Rattle.legal_run.specs.State.{Inputs, State, alive, all_contexts, is_free, is_free_context, is_off}
use Rattle.legal_run.specs.Owed.{all_finished, frame_due, is_finished, is_owed, owed_row, running}
use Rattle.legal_run.specs.Enters.{carries, may_lie}
use Rattle.legal_run.specs.After.{after}
use Rattle.legal_run.specs.Must.{Serves, must}
use Rattle.legal_run.specs.Run.{Meets, Reaches, freely, is_memory_stop, may_begin_reset, now}
use Rattle.legal_run.proofs.Named.{all_numbered}
use Rattle.miniport_state.specs.Seen.{Point, behind}
use Rattle.guest_world.specs.declared.world.World.{World}
use Rattle.handler_entries.specs.declared.enters.Entering.{Entering}
use Rattle.handler_entries.specs.Entries.{entry_of}
use Rattle.handler_words.specs.Laws.{EnterLaws}
use Rattle.handler_words.specs.Ready.{IsReady}
use Rattle.run_moves.specs.Runs.{EntersOr, IsRun}
use Rattle.run_moves.specs.declared.running.Running.{Running}
use Rattle.run_stops.specs.Standing.{Adds, IsLost, IsSettled, MovesAdd, Runs, StatesAreFree, point_of, state_of}
use Rattle.run_stops.specs.Stopping.{owner_of}
use Rattle.stop_rooms.specs.Rooms.{RoomsStay}
use Rattle.run_enters.specs.Entered.{EntersByOr}
use Rattle.run_enters.proofs.Settling.{served_free, by_three, by_two, and_first, and_second, fed_by, no_duty, room_behind, settles}
use Rattle.run_enters.proofs.Unasked.{added_as, entry_is}

abbrev pub begin : AdapterNo → Entry
begin a = entries.ResetBegin a

-- ---- the begin may stand

both : (a b : Bool) → a ≡ true → b ≡ true → (a && b) ≡ true
both true b is also = also
both false b is also = absurd (cc)

owed_parts : (c : Inputs) (s : State) (a : ℕ) → is_owed c s a handler.Reset ≡ true → (owed_row c s a handler.Reset ≡ true) × (in_brackets s.owner a handler.Reset ≡ true)
owed_parts c s a owed =
    let rest = and_second (alive s a) _ owed in
    (and_first (owed_row c s a handler.Reset) _ rest, and_first (in_brackets s.owner a handler.Reset) _ (and_second (owed_row c s a handler.Reset) _ rest))

either_way : (b x : Bool) → implies (b || true) x ≡ true → x ≡ true
either_way true x h = h
either_way false x h = h

none_serial : (o : Owner) (a : ℕ) → in_brackets o a handler.Reset ≡ true → none_runs o is_serial a ≡ true
none_serial o a h = either_way (serialized o a) (none_runs o is_serial a) (and_first (implies (serialized o a || true) (none_runs o is_serial a)) _ h)

at_both : (p q : Adapter → Bool) (rows : List Adapter) (a : ℕ) → at p rows a ≡ true → at q rows a ≡ true → at (λ row. p row && q row) rows a ≡ true
at_both p q rows a is also = by_row (slice_get rows a) is also
  where
    by_row : (m : Option Adapter) → option_map_or p m false ≡ true → option_map_or q m false ≡ true → option_map_or (λ row. p row && q row) m false ≡ true
    by_row None is also = is
    by_row (Some row) is also = both (p row) (q row) is also

free_row : (contexts : List Context) (x : ℕ) → at is_free_context contexts x ≡ true → at is_free_row contexts x ≡ true
free_row contexts x h = by_row (slice_get contexts x) h
  where
    by_row : (m : Option Context) → option_map_or is_free_context m false ≡ true → option_map_or is_free_row m false ≡ true
    by_row None h = h
    by_row (Some kept.Free) h = refl
    by_row (Some (kept.Open a k enter call)) h = absurd (cc)

count_cons : {A : Type 0} (p : A → Bool) (x : A) (xs : List A) → count_by p (x ∷ xs) ≡ cond (p x) 1 0 + count_by p xs
count_cons p x xs = let parts = sum_by-append (λ y. cond (p y) 1 0) (x ∷ []) xs in omega (arith, parts)

some_counted : {A : Type 0} (p : A → Bool) (xs : List A) (k : ℕ) → at p xs k ≡ true → 0 < count_by p xs
some_counted p [] k h = absurd (cc)
some_counted p (x ∷ xs) zero h = let whole : count_by p (x ∷ xs) ≡ 1 + count_by p xs = count_cons p x xs ∙ ap (λ b. cond b 1 0 + count_by p xs) h in omega (arith, whole)
some_counted p (x ∷ xs) (suc k) h = let rest = some_counted p xs k h in let whole = count_cons p x xs in omega (arith, rest, whole)

not_zero : (n : ℕ) → 0 < n → not (n == 0) ≡ true
not_zero n some = by_test (n == 0) refl
  where
    by_test : (b : Bool) → (n == 0) ≡ b → not (n == 0) ≡ true
    by_test true is = let same : n ≡ 0 = grind (arith, is) in absurd (omega (arith, some, same))
    by_test false is = ap not is

numbered : (n : ℕ) → n < 16 → get_or all_contexts n 0 ≡ n
numbered zero less = refl
numbered (suc zero) less = refl
numbered (suc (suc zero)) less = refl
numbered (suc (suc (suc zero))) less = refl
numbered (suc (suc (suc (suc zero)))) less = refl
numbered (suc (suc (suc (suc (suc zero))))) less = refl
numbered (suc (suc (suc (suc (suc (suc zero)))))) less = refl
numbered (suc (suc (suc (suc (suc (suc (suc zero))))))) less = refl
numbered (suc (suc (suc (suc (suc (suc (suc (suc zero)))))))) less = refl
numbered (suc (suc (suc (suc (suc (suc (suc (suc (suc zero))))))))) less = refl
numbered (suc (suc (suc (suc (suc (suc (suc (suc (suc (suc zero)))))))))) less = refl
numbered (suc (suc (suc (suc (suc (suc (suc (suc (suc (suc (suc zero))))))))))) less = refl
numbered (suc (suc (suc (suc (suc (suc (suc (suc (suc (suc (suc (suc zero)))))))))))) less = refl
numbered (suc (suc (suc (suc (suc (suc (suc (suc (suc (suc (suc (suc (suc zero))))))))))))) less = refl
numbered (suc (suc (suc (suc (suc (suc (suc (suc (suc (suc (suc (suc (suc (suc zero)))))))))))))) less = refl
numbered (suc (suc (suc (suc (suc (suc (suc (suc (suc (suc (suc (suc (suc (suc (suc zero))))))))))))))) less = refl
numbered (suc (suc (suc (suc (suc (suc (suc (suc (suc (suc (suc (suc (suc (suc (suc (suc n)))))))))))))))) less = absurd (omega (arith, less))

some_free : (s : State) (x : ℕ) → x < 16 → is_free s x ≡ true → list_any (is_free s) all_contexts ≡ true
some_free s x less free = list_any_at (is_free s) all_contexts x 0 less (ap (is_free s) (numbered x less) ∙ free)

allowed : (b d : Bool) (rule : ℕ) → b ≡ true → d ≡ true → cond (b && d) None (Some rule) ≡ None
allowed true true rule is also = refl
allowed true false rule is also = absurd (cc)
allowed false d rule is also = absurd (cc)

pub may_begin : (c : Inputs) (s : State) (a : AdapterNo) (x : ℕ) → must s ≡ None → is_owed c s a.0 handler.Reset ≡ true → x < 16 → is_free s x ≡ true → frame_due c s ≡ false → Meets c s (begin a)
may_begin c s a x free owed less vacant frames =
    let o = s.owner in
    let parts = owed_parts c s a.0 owed in
    let row = at_both (λ r. is_running r.phase) (λ r. r.owes_reset) o.adapters a.0 (and_first (running s a.0) _ parts.0) (and_second (running s a.0) _ parts.0) in
    let room : not (count_by is_free_row o.contexts == 0) ≡ true = not_zero (count_by is_free_row o.contexts) (some_counted is_free_row o.contexts x (free_row o.contexts x vacant)) in
    let case : has_case o (begin a) ≡ true = both _ _ row (both _ _ (none_serial o a.0 parts.1) room) in
    let may : may_begin_reset c s a.0 ≡ true = both _ _ owed (both _ _ (some_free s x less vacant) (ap not frames)) in
    record {
      owner = allowed (is_served o (begin a)) (has_case o (begin a)) 4 (served_free o (begin a) (no_duty s free)) case;
      turn = inl (subst (λ m. MatchOption m (freely c s (begin a) ≡ true) (λ due. Serves c s due (begin a))) (sym free) may);
    }

-- ---- behind it the handler is ready still, and may be entered

pub still_ready : (o : Point) (a : AdapterNo) (x : CtxNo) (e : Entering) → IsReady o (Some a) x handler.Reset e → IsReady (behind o (begin a)) (Some a) x handler.Reset e
unfolding may_lie
still_ready o a x e ready = record { adapter = ready.adapter; handler = ready.handler; carried = ready.carried; few = ready.few; about = ready.about }

pub ready_behind : (c : Inputs) (a : AdapterNo) (x : CtxNo) (e : Entering) (before m : Running) → Adds c (begin a) before m → IsReady (point_of c before) (Some a) x handler.Reset e → IsReady (point_of c m) (Some a) x handler.Reset e
ready_behind c a x e before m added ready = subst (λ (s : State). IsReady (record { inputs = c; state = s }) (Some a) x handler.Reset e) (sym added.state) (still_ready (point_of c before) a x e ready)

pub meets_behind : EnterLaws → (c : Inputs) (a : AdapterNo) (x : CtxNo) (e : Entering) (before m : Running) → Adds c (begin a) before m → is_owed c (state_of c before) a.0 handler.Reset ≡ true
    → IsReady (point_of c before) (Some a) x handler.Reset e → Meets c (state_of c m) (entry_of x e)
meets_behind laws c a x e before m added owed ready =
    subst (λ (s : State). Meets c s (entry_of x e)) (sym added.state) (laws.reset (point_of c before) a x e owed (still_ready (point_of c before) a x e ready))

pub same_clock : (c : Inputs) (a : AdapterNo) (before m : Running) → Runs c before → Adds c (begin a) before m → m.world.clock.clock ≡ before.world.clock.clock
same_clock c a before m runs added =
    ap (λ (w : World). w.clock.clock) added.runs.kept.world ∙ ap (λ (s : State). s.world.clock.clock) added.state ∙ ap (λ (w : World). w.clock.clock) (sym runs.kept.world)

pub left_begun : RoomsStay → (c : Inputs) (a : AdapterNo) (before m : Running) → Runs c before → stop_room (owner_of c before) + 3 ≤ before.log.spare → Meets c (state_of c before) (begin a) → Adds c (begin a) before m
    → stop_room (owner_of c m) + (1 + 1) ≤ m.log.spare
left_begun rooms c a before m runs room meets added =
    by_two (stop_room (owner_of c m)) m.log.spare (room_behind rooms c (begin a) before m 2 runs meets refl added (by_three (stop_room (owner_of c before)) before.log.spare room))

-- ---- memory was wanted behind the begin

resets_at : (test : Phase → Bool) (rows : List Adapter) (k : ℕ) → test Resetting ≡ false → at (λ row. test row.phase) (change reset_begun rows k) k ≡ false
resets_at test [] k other = refl
resets_at test (row ∷ rows) zero other = other
resets_at test (row ∷ rows) (suc k) other = resets_at test rows k other

not_finished : (c : Inputs) (s : State) (a : AdapterNo) → is_finished (after c s (begin a)) a.0 ≡ false
not_finished c s a = neither (phase_is is_stopped (after c s (begin a)).owner a.0) (phase_is is_off (after c s (begin a)).owner a.0) _ (resets_at is_stopped s.owner.adapters a.0 refl) (resets_at is_off s.owner.adapters a.0 refl)
  where
    neither : (p q r : Bool) → p ≡ false → q ≡ false → (p || (q && r)) ≡ false
    neither false false r one two = refl
    neither false true r one two = absurd (cc)
    neither true q r one two = absurd (cc)

not_all : (c : Inputs) (s : State) (a : AdapterNo) → a.0 < length c.adapters → all_finished c (after c s (begin a)) ≡ true → ⊥
not_all c s a less all = wrong (sym (not_finished c s a) ∙ all_numbered (is_finished (after c s (begin a))) c.adapters a.0 less all)
  where
    wrong : false ≡ true → ⊥
    wrong is = absurd (cc)

enough : (n m spare left : ℕ) → n + (1 + 1) ≤ spare → m ≡ n → left ≡ spare → m ≤ left
enough n m spare left room one other = omega (arith, room, one, other)

pub lost_begun : (c : Inputs) (a : AdapterNo) (before m r : Running) → a.0 < length c.adapters → IsSettled c before → Adds c (begin a) before m → stop_room (owner_of c m) + (1 + 1) ≤ m.log.spare
    → IsRun (point_of c m) r → r.log ≡ m.log → IsLost c before r
lost_begun c a before m r less settled added room run same =
    let state : state_of c r ≡ state_of c m = ap (λ (l : LogState). now c l.entries) same in
    let begun : state_of c r ≡ after c (state_of c before) (begin a) = state ∙ added.state in
    record {
      cut = record {
        reaches = subst (λ (s : State). Reaches c r.log.entries s) (sym state) run.reaches;
        owner = run.kept.owner ∙ ap (λ (s : State). s.owner) (sym state);
        breaks = λ b. ap (λ (s : State). is_served s.owner (entries.Stop b Memory)) begun;
        fed = ap (λ (l : LogState). list_any is_memory_stop l.entries) same ∙ fed_by c (begin a) before m added settled.fed refl;
        room = enough (stop_room (owner_of c m)) (stop_room (owner_of c r)) m.log.spare r.log.spare room (ap (λ (s : State). stop_room s.owner) state) (ap (λ (l : LogState). l.spare) same);
        over = λ finished. absurd (not_all c (state_of c before) a less (ap (all_finished c) (sym begun) ∙ finished));
      };
      longer = record { more = begin a ∷ []; written = ap (λ (l : LogState). l.entries) same ∙ added.written };
    }

-- ---- whole

pub begun : MovesAdd → StatesAreFree → RoomsStay → (c : Inputs) (a : AdapterNo) (x : CtxNo) (e : Entering) (before m r : Running) (result : Result (Unit {0}) OutOfMemory)
    → a.0 < length c.adapters → IsSettled c before → Adds c (begin a) before m → stop_room (owner_of c m) + (1 + 1) ≤ m.log.spare → IsReady (point_of c m) (Some a) x handler.Reset e
    → Meets c (state_of c m) (entry_of x e) → EntersOr (point_of c m) x e m r result → EntersByOr c (Some a) x handler.Reset before r result
begun moves free rooms c a x e before m r (Ok u) less settled added room ready meets grown =
    let entry : Entry = entries.Enter (Some a) x handler.Reset e.words e.writes in
    let second = added_as moves c (Some a) x handler.Reset e m r ready.adapter ready.handler grown in
    let may : Meets c (state_of c m) entry = subst (λ f. Meets c (state_of c m) f) (entry_is (Some a) x handler.Reset e ready.adapter ready.handler) meets in
    let left = room_behind rooms c entry m r 1 added.runs may refl second room in
    record {
      settled = settles c entry m r 1 second (free (after c (state_of c m) entry) refl refl) (fed_by c entry m r second (fed_by c (begin a) before m added settled.fed refl) refl) left;
      words = e.words;
      writes = e.writes;
      carried = ap (λ (es : List Entry). carries c (now c es) a.0 x.0 handler.Reset e.words e.writes) (sym added.written) ∙ ready.carried;
      more = [];
      forced = refl;
      written = second.written ∙ ap (λ (es : List Entry). es ++ entry ∷ []) added.written ∙ append_assoc before.log.entries (begin a ∷ []) (entry ∷ []);
    }
begun moves free rooms c a x e before m r (Err w) less settled added room ready meets entered =
    record { lost = lost_begun c a before m r less settled added room entered.0 entered.1; written = inr (ap (λ (l : LogState). l.entries) entered.1 ∙ added.written) }
