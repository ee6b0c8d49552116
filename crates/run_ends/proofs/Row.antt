-- One stop for want of memory, with its tail, and several in a row.
use Rattle.std.proofs.Common.{◌≡◌, ◌≢◌, ◌⊎◌, inl, inr, ℕ, zero, suc, ◌+◌, ◌≤◌, ◌<◌, Bool, true, false, not, ◌&&◌, ◌||◌, ◌==◌, cond, List, [], ◌∷◌, ◌++◌, Option, Some, None, refl, sym, ap, ◌∙◌, subst, arith, append_assoc, length, drop}
use Rattle.std.specs.Prelude.{filter, nat_lt}
use Rattle.std.specs.Option.{option_map, option_or}
use Rattle.std.specs.List.{list_all, list_any}
use Rattle.std.proofs.lemmas.List.Folds.{list_all-append, list_any-append}
use Rattle.std.proofs.Math.Bool.{or-true, true≢false}
use Rattle.nd_base.specs.declared.numbers.AdapterNo.{AdapterNo}
use Rattle.log_fields.specs.declared.field_values.Cause.{Cause}
use Rattle.log_fields.specs.declared.field_values.Cause.TheVariants.{Memory}
use Rattle.call_log.specs.declared.entry.Entry.{Entry}
use Rattle.call_log.specs.declared.entry.Entry.TheVariants as entries
use Rattle.owner_machine.specs.declared.rows.Adapter.{Adapter}
use Rattle.owner_machine.specs.declared.rows.Next.TheVariants.{Tail}
use Rattle.owner_machine.specs.State.{Owner, at, is_stopped, phase_is, stands}
use Rattle.owner_machine.specs.Handlers.{outstanding}
use Rattle.owner_machine.specs.Machine.{after as owners_after, has_case, last_rule, rule_of}
use Rattle.owner_machine.specs.Must.{is_served, owner_must, serves}
use Rattle.owner_machine.specs.Must as owners
use Rattle.owner_book.specs.Stopping.{Serves, Begins, Then, Stops as BookStops}
use Rattle.legal_run.specs.State.{Inputs, State, Next, Stops, numbers}
use Rattle.legal_run.specs.After.{stops_behind}
use Rattle.legal_run.specs.Laws.{RunLaws}
use Rattle.legal_run.specs.Must.{Owes, must, next_must, taken_first}
use Rattle.legal_run.specs.Owed.{all_finished, first, is_finished, is_moment}
use Rattle.legal_run.specs.Run.{Meets, Run, is_memory_stop, is_stops, now}
use Rattle.run_facts.specs.Facts.{CountsHold}
use Rattle.run_moves.specs.declared.running.Running.{Running}
use Rattle.run_stops.specs.Standing.{IsCut, state_of}
use Rattle.run_stops.specs.Stopping.{IsOfTail, StopsTakeRoom, TailsGoOn, is_of_tail, owner_of}
use Rattle.run_ends.specs.Ending.{EndsForMemory, EndsOn, IsEnding, is_ending}
use Rattle.run_ends.proofs.Cutting.{lets_in, no_more}
use Rattle.run_ends.proofs.Others.{IsStopped, itself_finished, others_finished}
use Rattle.run_ends.proofs.Numbers.{above, all_pass, found, none_left, not_itself, past, same_filter}

-- ---- the stop and its tail, by the log

-- the log grew by the stop and some entries of its tail
record IsGrown (c : Inputs) (a : AdapterNo) (log es : List Entry) (m : Owner) : Type 0 where
  pub run : Run c (log ++ entries.Stop a Memory ∷ es)
  pub owner : (now c (log ++ entries.Stop a Memory ∷ es)).owner ≡ m
  pub next : (now c (log ++ entries.Stop a Memory ∷ es)).next ≡ Stops Memory (stops_behind c (now c log) a.0 Memory)
  pub behind : m.next ≡ Tail a
  pub stopped : IsStopped (now c log).owner m a.0
  pub only : list_all is_ending es ≡ true

both_end : (es more : List Entry) → list_all is_ending es ≡ true → list_all is_ending more ≡ true → list_all is_ending (es ++ more) ≡ true
both_end es more h k = list_all-append is_ending es more ∙ ap (λ b. b && list_all is_ending more) h ∙ k

tail_ends : (e : Entry) → is_of_tail e ≡ true → list_all is_ending (e ∷ []) ≡ true
tail_ends e kind = ap (λ b. (is_memory_stop e || b) && true) kind ∙ ap (λ b. b && true) (or-true (is_memory_stop e))

grow : RunLaws → TailsGoOn → (c : Inputs) (a : AdapterNo) (log : List Entry) → Run c log → Meets c (now c log) (entries.Stop a Memory) → (o n : Owner) (es : List Entry)
    → o ≡ owners_after (now c log).owner (entries.Stop a Memory) → Serves o es n → IsGrown c a log es n
grow laws tails c a log run meets o n es start (Begins m) =
    let left = laws.next c log (entries.Stop a Memory) in
    record {
      run = (laws.more c log (entries.Stop a Memory)).1 (run, meets);
      owner = ap (λ (s : State). s.owner) left ∙ sym start;
      next = ap (λ (s : State). s.next) left;
      behind = ap (λ (x : Owner). x.next) start;
      stopped = record {
        rows = ap (λ (x : Owner). x.adapters) start;
        contexts = ap (λ (x : Owner). x.contexts) start;
        others = λ b other. ap (λ (x : Owner). outstanding x b) start;
      };
      only = refl;
    }
grow laws tails c a log run meets o n es start (Then p m front due e prior is serve) =
    let some = grow laws tails c a log run meets o m front start prior in
    let grown = log ++ entries.Stop a Memory ∷ front in
    let s = now c grown in
    let one : IsOfTail c s a.0 e = tails c s a due e (ap is_stops some.next) (ap (λ (x : Owner). x.next) some.owner ∙ some.behind) (ap owner_must some.owner ∙ is) (ap (λ (x : Owner). serves x due e) some.owner ∙ serve) in
    let left = laws.next c grown e in
    let same = append_assoc log (entries.Stop a Memory ∷ front) (e ∷ []) in
    let onward = sym some.owner in
    record {
      run = subst (Run c) same ((laws.more c grown e).1 (some.run, one.meets));
      owner = ap (λ (l : List Entry). (now c l).owner) (sym same) ∙ ap (λ (t : State). t.owner) left ∙ one.owner ∙ ap (λ (x : Owner). owners_after x e) some.owner;
      next = ap (λ (l : List Entry). (now c l).next) (sym same) ∙ ap (λ (t : State). t.next) left ∙ one.next ∙ some.next;
      behind = ap (λ (x : Owner). (owners_after x e).next) onward ∙ one.behind ∙ ap (λ (x : Owner). x.next) some.owner ∙ some.behind;
      stopped = record {
        rows = ap (λ (x : Owner). (owners_after x e).adapters) onward ∙ one.rows ∙ ap (λ (x : Owner). x.adapters) some.owner ∙ some.stopped.rows;
        contexts = ap (λ (x : Owner). (owners_after x e).contexts) onward ∙ one.contexts ∙ ap (λ (x : Owner). x.contexts) some.owner ∙ some.stopped.contexts;
        others = λ b other. ap (λ (x : Owner). outstanding (owners_after x e) b) onward ∙ one.others b other ∙ ap (λ (x : Owner). outstanding x b) some.owner ∙ some.stopped.others b other;
      };
      only = both_end front (e ∷ []) some.only (tail_ends e one.kind);
    }

-- ---- the adapter that is stopped

same_number : (n : ℕ) → (n == n) ≡ true
same_number n = grind arith

at_not : (rows : List Adapter) (k : ℕ) → k < length rows → at (λ (row : Adapter). is_stopped row.phase) rows k ≡ false → at (λ (row : Adapter). not (is_stopped row.phase)) rows k ≡ true
at_not [] k less h = absurd (omega arith)
at_not (row ∷ rows) zero less h = ap not h
at_not (row ∷ rows) (suc k) less h = at_not rows k (omega arith) h

or_first : (a b : Bool) → a || b ≡ false → a ≡ false
or_first false b h = refl
or_first true b h = h

-- an adapter that is not finished is there and not stopped
unfinished_stands : (c : Inputs) (s : State) (a : ℕ) → length s.owner.adapters ≡ length c.adapters → a < length c.adapters → is_finished s a ≡ false → stands s.owner a ≡ true
unfinished_stands c s a same less not_yet = at_not s.owner.adapters a (omega (arith, same, less)) (or_first (phase_is is_stopped s.owner a) _ not_yet)

pub standing : CountsHold → (c : Inputs) (a : ℕ) (r : Running) → IsEnding c a r → a < length c.adapters → is_finished (state_of c r) a ≡ false → stands (owner_of c r) a ≡ true
standing counts c a r ending less not_yet = unfinished_stands c (state_of c r) a (counts c (state_of c r) (record { log = r.log.entries; reaches = ending.reaches })).rows less not_yet

-- the first that is not finished may be stopped
may_stop : (c : Inputs) (s : State) (a : AdapterNo) → a.0 < length c.adapters → stands s.owner a.0 ≡ true → is_served s.owner (entries.Stop a Memory) ≡ true → ((b : ℕ) → b < a.0 → is_finished s b ≡ true)
    → is_finished s a.0 ≡ false → Meets c s (entries.Stop a Memory)
may_stop c s a less there breaks done not_yet = record {
  owner =
      ap (λ b. cond (b && has_case s.owner (entries.Stop a Memory)) (last_rule s.owner (entries.Stop a Memory)) (Some (rule_of (entries.Stop a Memory)))) breaks
      ∙ ap (λ b. cond b (last_rule s.owner (entries.Stop a Memory)) (Some (rule_of (entries.Stop a Memory)))) there;
  turn = inr (ap (λ ns. is_moment a.0 (first ns)) (found (λ b. not (is_finished s b)) a.0 c.adapters less (λ b under. ap not (done b under)) (ap not not_yet)) ∙ same_number a.0);
}

-- ---- what must stand behind it

none_must : (s : State) (why : Cause) → s.next ≡ Stops why [] → owner_must s.owner ≡ None → must s ≡ None
unfolding must
none_must s why next silent =
    ap (λ (n : Next). option_or (taken_first n) (option_or (option_map Owes (owner_must s.owner)) (next_must n))) next
    ∙ ap (λ (d : Option owners.Due). option_or (option_map Owes d) None) silent

-- the adapters behind a number that are not finished
abbrev left_from : Inputs → State → ℕ → List ℕ
left_from c s n = filter (λ b. not (is_finished s b)) (numbers n (drop n c.adapters))

-- the stops that are to come
to_come : (c : Inputs) (s t : State) (a : ℕ) → a < length c.adapters → ((b : ℕ) → b < a → is_finished s b ≡ true) → is_finished s a ≡ false → ((b : ℕ) → b ≢ a → is_finished t b ≡ is_finished s b)
    → stops_behind c s a Memory ≡ left_from c t (suc a)
to_come c s t a less done not_yet same =
    ap (filter (λ b. nat_lt a b)) (found (λ b. not (is_finished s b)) a c.adapters less (λ b under. ap not (done b under)) (ap not not_yet))
    ∙ not_itself a (left_from c s (suc a))
    ∙ above (λ b. not (is_finished s b)) a (suc a) (drop (suc a) c.adapters) (omega arith)
    ∙ same_filter _ _ (suc a) (drop (suc a) c.adapters) (λ b more. ap not (sym (same b (λ here. absurd (omega (arith, more, here))))))

none_to_come : (c : Inputs) (t : State) (n : ℕ) → ((b : ℕ) → b < n → is_finished t b ≡ true) → all_finished c t ≡ true → left_from c t n ≡ []
none_to_come c t n done all = sym (past (λ b. not (is_finished t b)) n c.adapters (λ b under. ap not (done b under))) ∙ none_left (is_finished t) (numbers 0 c.adapters) all

-- ---- one stop

stop_in_log : (log : List Entry) (a : AdapterNo) (es : List Entry) → list_any is_memory_stop (log ++ entries.Stop a Memory ∷ es) ≡ true
stop_in_log log a es = list_any-append is_memory_stop log (entries.Stop a Memory ∷ es) ∙ or-true (list_any is_memory_stop log)

apart : (b n : ℕ) → (b == n) ≡ false → b ≢ n
apart b n is same = absurd (true≢false (sym (same_number n) ∙ ap (λ k. k == n) (sym same) ∙ is))

-- behind the stop of one, those in front of the next are finished
done_behind : (s t : State) (n b : ℕ) → stands s.owner n ≡ true → IsStopped s.owner t.owner n → ((b : ℕ) → b < n → is_finished s b ≡ true) → b < n + 1 → is_finished t b ≡ true
done_behind s t n b there gone done under = by (b == n) refl
  where
    by : (x : Bool) → (b == n) ≡ x → is_finished t b ≡ true
    by true is = let same : b ≡ n = grind (arith, is) in ap (is_finished t) same ∙ itself_finished s t n there gone
    by false is = others_finished s t n b (apart b n is) gone ∙ done b (grind (arith, is, under))

pub one_ends : RunLaws → CountsHold → TailsGoOn → StopsTakeRoom → (c : Inputs) (a : AdapterNo) (before r : Running) → IsEnding c a.0 before → a.0 < length c.adapters → is_finished (state_of c before) a.0 ≡ false
    → BookStops before.book a Memory before.log.entries r.log.entries r.book → r.log.spare + 1 + outstanding before.book a.0 ≡ before.log.spare → EndsOn c (a.0 + 1) before r
one_ends laws counts tails rooms c a before r ending less not_yet stops spare =
    let s = state_of c before in
    let log = before.log.entries in
    let there = standing counts c a.0 before ending less not_yet in
    let meets = may_stop c s a less there (ending.breaks a) ending.done not_yet in
    let grown = grow laws tails c a log ending.reaches.run meets (owners_after s.owner (entries.Stop a Memory)) r.book stops.tail refl
    (subst (λ (o : Owner). Serves (owners_after o (entries.Stop a Memory)) stops.tail r.book) ending.owner stops.served) in
    let t = state_of c r in
    let owner : t.owner ≡ r.book = ap (λ (l : List Entry). (now c l).owner) stops.written ∙ grown.owner in
    let now_stopped : IsStopped s.owner t.owner a.0 = subst (λ (o : Owner). IsStopped s.owner o a.0) (sym owner) grown.stopped in
    let others : (b : ℕ) → b ≢ a.0 → is_finished t b ≡ is_finished s b = λ b other. others_finished s t a.0 b other now_stopped in
    let done : (b : ℕ) → b < a.0 + 1 → is_finished t b ≡ true = λ b under. done_behind s t a.0 b there now_stopped ending.done under in
    let silent : owner_must t.owner ≡ None = ap owner_must owner ∙ stops.over in
    let next : t.next ≡ Stops Memory (left_from c t (suc a.0))
    = ap (λ (l : List Entry). (now c l).next) stops.written ∙ grown.next ∙ ap (Stops Memory) (to_come c s t a.0 less ending.done not_yet others) in
    let left = rooms.left s.owner t.owner a.0 there now_stopped.rows now_stopped.others in
    let taken = ap (λ (o : Owner). outstanding o a.0) ending.owner in
    let enough = ending.room in
    record {
      ending = record {
        reaches = record { run = subst (Run c) (sym stops.written) grown.run; state = refl };
        owner = sym owner;
        breaks = λ b. lets_in t.owner b silent;
        room = omega (arith, left, taken, enough, spare);
        over = λ all. none_must t Memory (next ∙ ap (Stops Memory) (none_to_come c t (suc a.0) (λ b under. done b (omega (arith, under))) all)) silent;
        done = done;
      };
      longer = record { more = entries.Stop a Memory ∷ stops.tail; written = stops.written };
      only = grown.only;
      stops = inl (ap (list_any is_memory_stop) stops.written ∙ stop_in_log log a stops.tail);
    }

-- what was finished already
pub none_ends : (c : Inputs) (n : ℕ) (r : Running) → IsEnding c n r → is_finished (state_of c r) n ≡ true → EndsOn c (n + 1) r r
none_ends c n r ending is = record {
  ending = record {
    reaches = ending.reaches;
    owner = ending.owner;
    breaks = ending.breaks;
    room = ending.room;
    over = ending.over;
    done = λ b under. by b under (b == n) refl;
  };
  longer = no_more r;
  only = refl;
  stops = inr refl;
}
  where
    by : (b : ℕ) → b < n + 1 → (x : Bool) → (b == n) ≡ x → is_finished (state_of c r) b ≡ true
    by b under true same = let here : b ≡ n = grind (arith, same) in ap (is_finished (state_of c r)) here ∙ is
    by b under false other = ending.done b (grind (arith, other, under))

-- ---- several

pub cut_begins : (c : Inputs) (r : Running) → IsCut c r → EndsOn c 0 r r
cut_begins c r cut = record {
  ending = record {
    reaches = cut.reaches;
    owner = cut.owner;
    breaks = cut.breaks;
    room = cut.room;
    over = cut.over;
    done = λ b under. absurd (omega (arith, under));
  };
  longer = no_more r;
  only = refl;
  stops = inr refl;
}

pub ends_further : (c : Inputs) (n k : ℕ) (before m r : Running) → EndsOn c n before m → EndsOn c k m r → EndsOn c k before r
ends_further c n k before m r some more = record {
  ending = more.ending;
  longer = record {
    more = some.longer.more ++ more.longer.more;
    written = more.longer.written ∙ ap (λ es. es ++ more.longer.more) some.longer.written ∙ append_assoc before.log.entries some.longer.more more.longer.more;
  };
  only = both_end some.longer.more more.longer.more some.only more.only;
  stops = by some.stops more.stops;
}
  where
    by : (list_any is_memory_stop m.log.entries ≡ true) ⊎ (state_of c m ≡ state_of c before) → (list_any is_memory_stop r.log.entries ≡ true) ⊎ (state_of c r ≡ state_of c m)
        → (list_any is_memory_stop r.log.entries ≡ true) ⊎ (state_of c r ≡ state_of c before)
    by x (inl is) = inl is
    by (inl was) (inr same) =
        inl (ap (list_any is_memory_stop) more.longer.written ∙ list_any-append is_memory_stop m.log.entries more.longer.more ∙ ap (λ b. b || list_any is_memory_stop more.longer.more) was)
    by (inr was) (inr same) = inr (same ∙ was)

pub all_end : (c : Inputs) (n : ℕ) (before r : Running) → length c.adapters ≤ n → EndsOn c n before r → EndsForMemory c before r
all_end c n before r past_all on =
    let finished : all_finished c (state_of c r) ≡ true = all_pass (is_finished (state_of c r)) 0 c.adapters (λ b under. on.ending.done b (omega (arith, past_all, under))) in
    record {
      reaches = on.ending.reaches;
      owner = on.ending.owner;
      finished = finished;
      nothing = on.ending.over finished;
      longer = on.longer;
      only = on.only;
      stops = λ some. by on.stops (ap (all_finished c)) finished some;
    }
  where
    by : (list_any is_memory_stop r.log.entries ≡ true) ⊎ (state_of c r ≡ state_of c before) → (state_of c r ≡ state_of c before → all_finished c (state_of c r) ≡ all_finished c (state_of c before))
        → all_finished c (state_of c r) ≡ true → all_finished c (state_of c before) ≡ false → list_any is_memory_stop r.log.entries ≡ true
    by (inl is) alike finished some = is
    by (inr same) alike finished some = let whole = alike same in absurd (cc)

pub counted : CountsHold → (c : Inputs) (n : ℕ) (r : Running) → IsEnding c n r → length r.book.adapters ≡ length c.adapters
counted counts c n r ending = ap (λ (o : Owner). length o.adapters) ending.owner ∙ (counts c (state_of c r) (record { log = r.log.entries; reaches = ending.reaches })).rows
