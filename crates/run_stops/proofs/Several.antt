-- Stops of several adapters, one after the other.
use Rattle.std.proofs.Common.{◌≡◌, ◌≢◌, ℕ, zero, suc, ◌+◌, ◌≤◌, ◌<◌, Bool, true, false, not, ◌&&◌, cond, List, [], ◌∷◌, ◌++◌, Option, Some, None, refl, sym, ap, ◌∙◌, subst, arith, length, drop}
use Rattle.std.specs.Prelude.{filter, sum_by}
use Rattle.std.specs.List.{list_any}
use Rattle.std.specs.Option.{option_map, option_or}
use Rattle.nd_base.specs.declared.numbers.AdapterNo.{AdapterNo}
use Rattle.log_fields.specs.declared.field_values.Cause.{Cause}
use Rattle.log_fields.specs.declared.field_values.Cause.TheVariants as cause
use Rattle.call_log.specs.declared.entry.Entry.{Entry}
use Rattle.call_log.specs.declared.entry.Entry.TheVariants as entries
use Rattle.owner_machine.specs.declared.rows.Adapter.{Adapter}
use Rattle.owner_machine.specs.Adapters.{stopped}
use Rattle.owner_machine.specs.State.{Owner, at, change, in_front, is_stopped, numbers_from, phase_is, stands}
use Rattle.owner_machine.specs.Handlers.{outstanding}
use Rattle.owner_machine.specs.Machine.{has_case, last_rule, rule_of}
use Rattle.owner_machine.specs.Must.{is_served, owner_must}
use Rattle.owner_machine.specs.Must as owners
use Rattle.owner_book.specs.Stopping.{stop_room}
use Rattle.legal_run.specs.State.{Inputs, State, Next, Free, Stops, numbers}
use Rattle.legal_run.specs.After.{stops_behind}
use Rattle.legal_run.specs.Must.{Owes, Exactly, must, next_must, first_stop, taken_first}
use Rattle.legal_run.specs.Run.{is_memory_stop}
use Rattle.run_duties.specs.Laws.{ServedLaws}
use Rattle.run_facts.specs.Facts.{CountsHold}
use Rattle.run_moves.specs.declared.running.Running.{Running}
use Rattle.run_stops.specs.Standing.{Lengthens, Runs, Settles, state_of}
use Rattle.run_stops.specs.Stopping.{IsStopping, StopsOn, StopsWhole, due_from, is_memory, owner_of}
use Rattle.run_stops.proofs.Endings.{changed_at, none_in_both, none_in_front, sum_cons}

-- ---- what must stand where stops are due

pub must_of_stops : (s : State) (why : Cause) (ats : List ℕ) → s.next ≡ Stops why ats → owner_must s.owner ≡ None → must s ≡ first_stop ats (λ a. entries.Stop (record { 0 = a }) why)
unfolding must
must_of_stops s why ats next silent =
    ap (λ (n : Next). option_or (taken_first n) (option_or (option_map Owes (owner_must s.owner)) (next_must n))) next
    ∙ ap (λ (d : Option owners.Due). option_or (option_map Owes d) (first_stop ats (λ a. entries.Stop (record { 0 = a }) why))) silent

-- ---- rows of adapters

abbrev running_row : Adapter → Bool
running_row row = not (is_stopped row.phase)

past_drop : {A : Type 0} (n : ℕ) (xs : List A) → length xs ≤ n → drop n xs ≡ []
past_drop zero [] more = refl
past_drop (suc n) [] more = refl
past_drop zero (x ∷ xs) more = absurd (omega arith)
past_drop (suc n) (x ∷ xs) more = past_drop n xs (omega arith)

next_of : {A : Type 0} (n : ℕ) (xs : List A) → n < length xs → (x : A) × (drop n xs ≡ x ∷ drop (suc n) xs)
next_of n [] less = absurd (omega arith)
next_of zero (x ∷ xs) less = (x, refl)
next_of (suc n) (x ∷ xs) less = next_of n xs (omega arith)

dropped_change : {A : Type 0} (f : A → A) (xs : List A) (n : ℕ) → drop (suc n) (change f xs n) ≡ drop (suc n) xs
dropped_change f [] n = refl
dropped_change f (x ∷ xs) zero = refl
dropped_change f (x ∷ xs) (suc n) = dropped_change f xs n

row_at : (rows : List Adapter) (n : ℕ) (row : Adapter) (rest : List Adapter) (test : Adapter → Bool) → drop n rows ≡ row ∷ rest → at test rows n ≡ test row
row_at [] zero row rest test h = absurd (cc)
row_at [] (suc n) row rest test h = absurd (cc)
row_at (x ∷ rows) zero row rest test h = let here : x ≡ row = cc in ap test here
row_at (x ∷ rows) (suc n) row rest test h = row_at rows n row rest test h

-- ---- lists of numbers

same_filter : {A : Type 0} (p q : ℕ → Bool) (n : ℕ) (xs : List A) → ((b : ℕ) → n ≤ b → p b ≡ q b) → filter p (numbers n xs) ≡ filter q (numbers n xs)
same_filter p q n [] same = refl
same_filter p q n (x ∷ xs) same =
    let here : p n ≡ q n = same n (omega arith) in
    let rest : filter p (numbers (suc n) xs) ≡ filter q (numbers (suc n) xs) = same_filter p q (suc n) xs (λ b more. same b (omega (arith, more))) in
    rw (here, rest) refl

same_sum : {A : Type 0} (f g : ℕ → ℕ) (p : A → Bool) (n : ℕ) (xs : List A) → ((b : ℕ) → n ≤ b → f b ≡ g b) → sum_by f (numbers_from n p xs) ≡ sum_by g (numbers_from n p xs)
same_sum f g p n [] same = refl
same_sum f g p n (x ∷ xs) same = by (p x) (same_sum f g p (suc n) xs (λ b more. same b (omega (arith, more))))
  where
    by : (b : Bool) → sum_by f (numbers_from (suc n) p xs) ≡ sum_by g (numbers_from (suc n) p xs) → sum_by f (in_front b n (numbers_from (suc n) p xs)) ≡ sum_by g (in_front b n (numbers_from (suc n) p xs))
    by true rest = sum_cons f n (numbers_from (suc n) p xs) ∙ ap (λ m. m + sum_by f (numbers_from (suc n) p xs)) (same n (omega arith)) ∙ ap (λ m. g n + m) rest ∙ sym (sum_cons g n (numbers_from (suc n) p xs))
    by false rest = rest

-- ---- one adapter of several

adapter_row : (c : Inputs) (o : Owner) (n : ℕ) → length o.adapters ≡ length c.adapters → n < length c.adapters → (row : Adapter) × (drop n o.adapters ≡ row ∷ drop (suc n) o.adapters)
adapter_row c o n same less = next_of n o.adapters (omega (arith, same, less))

due_next : (c : Inputs) (s : State) (n : ℕ) → n < length c.adapters → due_from c s n ≡ cond (not (phase_is is_stopped s.owner n)) (n ∷ due_from c s (suc n)) (due_from c s (suc n))
due_next c s n less = let (g, is) = next_of n c.adapters less in ap (λ xs. filter (λ a. not (phase_is is_stopped s.owner a)) (numbers n xs)) is

not_not : (b : Bool) → not (not b) ≡ b
not_not true = refl
not_not false = refl

is_stopped_at : (o : Owner) (n : ℕ) (row : Adapter) (rest : List Adapter) → drop n o.adapters ≡ row ∷ rest → phase_is is_stopped o n ≡ not (stands o n)
is_stopped_at o n row rest is = row_at o.adapters n row rest (λ r. is_stopped r.phase) is ∙ sym (not_not (is_stopped row.phase)) ∙ ap not (sym (row_at o.adapters n row rest running_row is))

-- the room for every stop holds that for one
pub room_for_one : (o : Owner) (n : ℕ) → stands o n ≡ true → outstanding o n < stop_room o
room_for_one o n is = by 0 n o.adapters (omega arith) is
  where
    by : (m k : ℕ) (rows : List Adapter) → m + k ≡ n → at running_row rows k ≡ true → outstanding o n < sum_by (λ a. 1 + outstanding o a) (numbers_from m running_row rows)
    by m k [] there h = absurd (cc)
    by m zero (row ∷ rows) there h = here (running_row row) h
      where
        here : (b : Bool) → b ≡ true → outstanding o n < sum_by (λ a. 1 + outstanding o a) (in_front b m (numbers_from (suc m) running_row rows))
        here true is = let same : m ≡ n = omega (arith, there) in let one : outstanding o m ≡ outstanding o n = ap (outstanding o) same in let more = sum_cons (λ a. 1 + outstanding o a) m (numbers_from (suc m) running_row rows) in omega (arith, one, more)
        here false is = absurd (cc)
    by m (suc k) (row ∷ rows) there h = let rest = by (suc m) k rows (omega (arith, there)) h in behind (running_row row) rest
      where
        behind : (b : Bool) → outstanding o n < sum_by (λ a. 1 + outstanding o a) (numbers_from (suc m) running_row rows) → outstanding o n < sum_by (λ a. 1 + outstanding o a) (in_front b m (numbers_from (suc m) running_row rows))
        behind true less = let more = sum_cons (λ a. 1 + outstanding o a) m (numbers_from (suc m) running_row rows) in omega (arith, less, more)
        behind false less = less

-- the stop of one adapter, with its tail, takes its own room and leaves that of the others
pub room_stopped : (o p : Owner) (n : ℕ) → stands o n ≡ true → p.adapters ≡ change stopped o.adapters n → ((b : ℕ) → b ≢ n → outstanding p b ≡ outstanding o b) → stop_room p + 1 + outstanding o n ≡ stop_room o
room_stopped o p n is rows others = ap (λ (rows : List Adapter). sum_by (λ a. 1 + outstanding p a) (numbers_from 0 running_row rows) + 1 + outstanding o n) rows ∙ by 0 n o.adapters (omega arith) is
  where
    behind : (m : ℕ) (rows : List Adapter) → n < m → sum_by (λ a. 1 + outstanding p a) (numbers_from m running_row rows) ≡ sum_by (λ a. 1 + outstanding o a) (numbers_from m running_row rows)
    behind m rows less = same_sum (λ a. 1 + outstanding p a) (λ a. 1 + outstanding o a) running_row m rows (λ b more. ap (λ k. 1 + k) (others b (λ there. absurd (omega (arith, less, more, there)))))

    by : (m k : ℕ) (rows : List Adapter) → m + k ≡ n → at running_row rows k ≡ true
        → sum_by (λ a. 1 + outstanding p a) (numbers_from m running_row (change stopped rows k)) + 1 + outstanding o n ≡ sum_by (λ a. 1 + outstanding o a) (numbers_from m running_row rows)
    by m k [] there h = absurd (cc)
    by m zero (row ∷ rows) there h =
        let whole = ap (λ b. sum_by (λ a. 1 + outstanding o a) (in_front b m (numbers_from (suc m) running_row rows))) h in
        let parts = sum_cons (λ a. 1 + outstanding o a) m (numbers_from (suc m) running_row rows) in
        let same : m ≡ n = omega (arith, there) in
        let one = ap (outstanding o) same in
        let rest = behind (suc m) rows (omega (arith, same)) in
        omega (arith, whole, parts, one, rest)
    by m (suc k) (row ∷ rows) there h = in_row (running_row row) (by (suc m) k rows (omega (arith, there)) h)
      where
        in_row : (b : Bool) → sum_by (λ a. 1 + outstanding p a) (numbers_from (suc m) running_row (change stopped rows k)) + 1 + outstanding o n ≡ sum_by (λ a. 1 + outstanding o a) (numbers_from (suc m) running_row rows)
            → sum_by (λ a. 1 + outstanding p a) (in_front b m (numbers_from (suc m) running_row (change stopped rows k))) + 1 + outstanding o n ≡ sum_by (λ a. 1 + outstanding o a) (in_front b m (numbers_from (suc m) running_row rows))
        in_row true rest =
            let one = sum_cons (λ a. 1 + outstanding p a) m (numbers_from (suc m) running_row (change stopped rows k)) in
            let two = sum_cons (λ a. 1 + outstanding o a) m (numbers_from (suc m) running_row rows) in
            let same = others m (λ here. absurd (omega (arith, there, here))) in
            omega (arith, one, two, same, rest)
        in_row false rest = rest

-- an adapter that is there and not stopped is the next to be stopped
pub due_standing : (c : Inputs) (n : ℕ) (why : Cause) (r : Running) → length (owner_of c r).adapters ≡ length c.adapters → n < length c.adapters → IsStopping c n why r → stands (owner_of c r) n ≡ true
    → (due_from c (state_of c r) n ≡ n ∷ due_from c (state_of c r) (suc n)) × (must (state_of c r) ≡ Some (Exactly (entries.Stop (record { 0 = n }) why))) × (outstanding (owner_of c r) n < r.log.spare)
due_standing c n why r same less stopping is =
    let o = owner_of c r in
    let (row, at_row) = adapter_row c o n same less in
    let phase : phase_is is_stopped o n ≡ false = is_stopped_at o n row _ at_row ∙ ap not is in
    let list : due_from c (state_of c r) n ≡ n ∷ due_from c (state_of c r) (suc n) = due_next c (state_of c r) n less ∙ ap (λ b. cond (not b) (n ∷ due_from c (state_of c r) (suc n)) (due_from c (state_of c r) (suc n))) phase in
    let one = room_for_one o n is in
    let enough = stopping.room in
    (list, must_of_stops (state_of c r) why (n ∷ due_from c (state_of c r) (suc n)) (stopping.next ∙ ap (Stops why) list) stopping.silent, omega (arith, one, enough))

left_behind : (c : Inputs) (s : State) (n : ℕ) (why : Cause) (ats : List ℕ) → is_memory why ≡ false → s.next ≡ Stops why (n ∷ ats) → stops_behind c s n why ≡ ats
left_behind c s n cause.Memory ats other next = absurd (cc)
left_behind c s n (cause.Breach rule) ats other next = ap Rattle.legal_run.specs.After.stops_left next
left_behind c s n cause.Budget ats other next = ap Rattle.legal_run.specs.After.stops_left next

other_cause : (a : AdapterNo) (why : Cause) → is_memory why ≡ false → is_memory_stop (entries.Stop a why) ≡ false
other_cause a cause.Memory other = absurd (cc)
other_cause a (cause.Breach rule) other = refl
other_cause a cause.Budget other = refl

still_fed : (c : Inputs) (a : AdapterNo) (why : Cause) (before r : Running) → is_memory why ≡ false → list_any is_memory_stop before.log.entries ≡ false → StopsWhole c a why before r
    → list_any is_memory_stop r.log.entries ≡ false
still_fed c a why before r other fed whole =
    ap (list_any is_memory_stop) whole.written ∙ none_in_both before.log.entries (entries.Stop a why ∷ whole.tail) fed (none_in_front (entries.Stop a why) whole.tail (other_cause a why other) whole.plain)

pub stop_one : (c : Inputs) (n : ℕ) (why : Cause) (before r : Running) → length (owner_of c before).adapters ≡ length c.adapters → n < length c.adapters → is_memory why ≡ false → IsStopping c n why before
    → list_any is_memory_stop before.log.entries ≡ false → stands (owner_of c before) n ≡ true → StopsWhole c (record { 0 = n }) why before r → StopsOn c (n + 1) why before r
stop_one c n why before r same less other stopping fed is whole =
    let next_number : suc n ≡ n + 1 = omega arith in
    let (list, must_be, enough) = due_standing c n why before same less stopping is in
    let o = owner_of c before in
    let p = owner_of c r in
    let phases : (b : ℕ) → suc n ≤ b → phase_is is_stopped p b ≡ phase_is is_stopped o b =
    λ b more. ap (λ rows. at (λ (row : Adapter). is_stopped row.phase) rows b) whole.rows ∙ changed_at (λ (row : Adapter). is_stopped row.phase) stopped o.adapters n b (λ there. absurd (omega (arith, more, there))) in
    let due : due_from c (state_of c r) (suc n) ≡ due_from c (state_of c before) (suc n) = same_filter _ _ (suc n) (drop (suc n) c.adapters) (λ b more. ap not (phases b more)) in
    let next : (state_of c r).next ≡ Stops why (due_from c (state_of c r) (suc n)) = whole.next ∙ ap (Stops why) (left_behind c (state_of c before) n why _ other (stopping.next ∙ ap (Stops why) list) ∙ sym due) in
    let room = room_stopped o p n is whole.rows whole.others in
    record {
      stopping = subst (λ m. IsStopping c m why r) next_number (record {
        runs = whole.runs;
        silent = whole.over;
        next = next;
        room = let spare = whole.spare in let fits = stopping.room in omega (arith, spare, fits, room);
      });
      fed = still_fed c (record { 0 = n }) why before r other fed whole;
      longer = record { more = entries.Stop (record { 0 = n }) why ∷ whole.tail; written = whole.written };
    }

pub stop_none : (c : Inputs) (n : ℕ) (why : Cause) (r : Running) → length (owner_of c r).adapters ≡ length c.adapters → n < length c.adapters → IsStopping c n why r → list_any is_memory_stop r.log.entries ≡ false → stands (owner_of c r) n ≡ false
    → StopsOn c (n + 1) why r r
stop_none c n why r same less stopping fed is =
    let next_number : suc n ≡ n + 1 = omega arith in
    let o = owner_of c r in
    let (row, at_row) = adapter_row c o n same less in
    let phase : phase_is is_stopped o n ≡ true = is_stopped_at o n row _ at_row ∙ ap not is in
    let list : due_from c (state_of c r) n ≡ due_from c (state_of c r) (suc n) = due_next c (state_of c r) n less ∙ ap (λ b. cond (not b) (n ∷ due_from c (state_of c r) (suc n)) (due_from c (state_of c r) (suc n))) phase in
    record {
      stopping = subst (λ m. IsStopping c m why r) next_number (record {
        runs = stopping.runs;
        silent = stopping.silent;
        next = stopping.next ∙ ap (Stops why) list;
        room = stopping.room;
      });
      fed = fed;
      longer = no_more r;
    }
  where
    none : (es : List Entry) → es ≡ es ++ []
    none [] = refl
    none (e ∷ es) = ap (λ xs. e ∷ xs) (none es)

    no_more : (r : Running) → Lengthens r r
    no_more r = record { more = []; written = none r.log.entries }

pub all_stopped : (c : Inputs) (n : ℕ) (why : Cause) (before r : Running) → length c.adapters ≤ n → StopsOn c n why before r → Settles c before r
all_stopped c n why before r past on = record {
  settled = record {
    runs = on.stopping.runs;
    free = must_of_stops (state_of c r) why [] (on.stopping.next ∙ ap (Stops why) (ap (λ xs. filter (λ a. not (phase_is is_stopped (owner_of c r) a)) (numbers n xs)) (past_drop n c.adapters past))) on.stopping.silent;
    fed = on.fed;
    room = on.stopping.room;
  };
  longer = on.longer;
}

pub one_stopped : (c : Inputs) (a : AdapterNo) (why : Cause) (before r : Running) → is_memory why ≡ false → list_any is_memory_stop before.log.entries ≡ false → (state_of c before).next ≡ Stops why (a.0 ∷ [])
    → stands (owner_of c before) a.0 ≡ true → stop_room (owner_of c before) ≤ before.log.spare → StopsWhole c a why before r → Settles c before r
one_stopped c a why before r other fed due is enough whole = record {
  settled = record {
    runs = whole.runs;
    free = must_of_stops (state_of c r) why [] (whole.next ∙ ap (Stops why) (left_behind c (state_of c before) a.0 why [] other due)) whole.over;
    fed = still_fed c a why before r other fed whole;
    room = let fits = room_stopped (owner_of c before) (owner_of c r) a.0 is whole.rows whole.others in let spare = whole.spare in omega (arith, enough, fits, spare);
  };
  longer = record { more = entries.Stop a why ∷ whole.tail; written = whole.written };
}

-- ---- what the functions find

pub counted : CountsHold → (c : Inputs) (r : Running) → Runs c r → length (owner_of c r).adapters ≡ length c.adapters
counted laws c r run = (laws c (state_of c r) (record { log = r.log.entries; reaches = run.reaches })).rows

cond_none : (b : Bool) (x : Option ℕ) (rule : ℕ) → cond b x (Some rule) ≡ None → b ≡ true
cond_none true x rule h = refl
cond_none false x rule h = absurd (cc)

second : (a b : Bool) → a && b ≡ true → b ≡ true
second true b h = h
second false b h = absurd (cc)

pub stands_if_due : ServedLaws → (c : Inputs) (a : AdapterNo) (why : Cause) (r : Running) → Runs c r → must (state_of c r) ≡ Some (Exactly (entries.Stop a why)) → stands (owner_of c r) a.0 ≡ true
stands_if_due laws c a why r run due =
    let o = owner_of c r in
    let e = entries.Stop a why in
    second (is_served o e) (has_case o e) (cond_none (is_served o e && has_case o e) (last_rule o e) (rule_of e) (laws.entries c r.log.entries e run.reaches.run due).owner)

pub free_state : (s : State) → s.next ≡ Free → owner_must s.owner ≡ None → must s ≡ None
unfolding must
free_state s next silent =
    ap (λ (n : Next). option_or (taken_first n) (option_or (option_map Owes (owner_must s.owner)) (next_must n))) next ∙ ap (λ (d : Option owners.Due). option_or (option_map Owes d) None) silent
