-- Serial handlers of a serialized adapter never overlap, nor does an exclusive one with any other.
use Rattle.std.proofs.Common.{◌≡◌, ℕ, zero, suc, ◌+◌, ◌≤◌, Bool, true, false, cond, not, ◌&&◌, ◌||◌, ◌==◌, List, [], ◌∷◌, Option, Some, None, refl, sym, ap, ◌∙◌, subst, arith, slice_get}
use Rattle.std.specs.Prelude.{slice_set, count_by}
use Rattle.nd_base.specs.declared.numbers.AdapterNo.{AdapterNo}
use Rattle.log_fields.specs.declared.field_values.Handler.{Handler}
use Rattle.log_fields.specs.declared.field_values.Handler.TheVariants as handlers
use Rattle.call_log.specs.declared.entry.Entry.{Entry}
use Rattle.call_log.specs.declared.entry.Entry.TheVariants.{Cancel, Event, Requeue, ResetBegin, ResetEnd, Enter, Leave, Call, Reply, Stop}
use Rattle.owner_machine.specs.declared.rows.Context.{Context}
use Rattle.owner_machine.specs.declared.rows.Context.TheVariants.{Free, Open}
use Rattle.owner_machine.specs.declared.rows.Adapter.{Adapter}
use Rattle.owner_machine.specs.State.{Owner, at, change, adapter_of, implies, stands}
use Rattle.owner_machine.specs.Contexts.{serialized, is_entry, is_serial, is_exclusive, is_halt, is_free, runs, how_many, none_runs, in_brackets, any_handler, freed, entry_freed, calling, answered_call, transfer_begun, with_transfer, wants_transfer, is_initialize}
use Rattle.owner_machine.specs.Packets.{packet_adapter}
use Rattle.owner_machine.specs.Handlers.{may_enter, may_halt, adapters_entered, contexts_entered, adapter_entered, adapters_left, adapter_left, entry_left, adapters_called, adapters_answered, sets_attributes, with_attributes, resources}
use Rattle.owner_machine.specs.Adapters.{stopped, contexts_stopped}
use Rattle.owner_machine.specs.Machine.{rule_against, after}
use Rattle.owner_machine.specs.Legal.{Legal, Ends, Goes, Registers, Breaches}
use Rattle.owner_machine.specs.Laws.{number}
use Rattle.owner_machine.proofs.Changed.{count_cons, suc_eq}
use Rattle.owner_machine.proofs.Bools.{case_of, and_first, and_second, equal}

-- where the adapter is serialized or runs an exclusive handler, it runs one serial handler at most
abbrev pub IsAlone : Owner → ℕ → Type 0
IsAlone o a = serialized o a || not (none_runs o is_exclusive a) ≡ true → how_many o is_serial a ≤ 1

abbrev pub in_series : Adapter → Bool
in_series row = not row.deserialized

pub kept : {A : Type 0} (test : A → Bool) (f : A → A) (rows : List A) (j k : ℕ) → ((row : A) → test (f row) ≡ test row) → at test (change f rows j) k ≡ at test rows k
kept test f [] j k w = refl
kept test f (row ∷ rows) zero zero w = w row
kept test f (row ∷ rows) zero (suc k) w = refl
kept test f (row ∷ rows) (suc j) zero w = refl
kept test f (row ∷ rows) (suc j) (suc k) w = kept test f rows j k w

-- ---- how many contexts pass, behind a change

-- a free context that opens
pub count_entered : (p : Context → Bool) (cs : List Context) (c : ℕ) (x : Context) → p Free ≡ false → at is_free cs c ≡ true → count_by p (slice_set cs c x) ≡ count_by p cs + number (p x)
count_entered p [] c x none h = absurd (cc)
count_entered p (Free ∷ cs) zero x none h = let n = ap number none in omega (arith, n, count_cons p x cs, count_cons p Free cs)
count_entered p (Open a b d e ∷ cs) zero x none h = absurd (cc)
count_entered p (y ∷ cs) (suc c) x none h = let more = count_entered p cs c x none h in omega (arith, more, count_cons p y (slice_set cs c x), count_cons p y cs)

pub count_left : (p : Context → Bool) (cs : List Context) (c : ℕ) → p Free ≡ false → count_by p (slice_set cs c Free) ≤ count_by p cs
count_left p [] c none = omega arith
count_left p (y ∷ cs) zero none = let n = ap number none in omega (arith, n, count_cons p Free cs, count_cons p y cs)
count_left p (y ∷ cs) (suc c) none = let more = count_left p cs c none in omega (arith, more, count_cons p y (slice_set cs c Free), count_cons p y cs)

pub count_changed : (p : Context → Bool) (f : Context → Context) (cs : List Context) (c : ℕ) → ((x : Context) → p (f x) ≡ p x) → count_by p (change f cs c) ≡ count_by p cs
count_changed p f [] c w = refl
count_changed p f (y ∷ cs) zero w = let n = ap number (w y) in omega (arith, n, count_cons p (f y) cs, count_cons p y cs)
count_changed p f (y ∷ cs) (suc c) w = let more = count_changed p f cs c w in omega (arith, more, count_cons p y (change f cs c), count_cons p y cs)

-- a transfer that begins
begun_runs : (test : Handler → Bool) (a n : ℕ) (x : Context) → runs test a (with_transfer n x) ≡ runs test a x
begun_runs test a n (Open (Some b) h enter (Some call)) = refl
begun_runs test a n (Open None h enter (Some call)) = refl
begun_runs test a n (Open (Some b) h enter None) = refl
begun_runs test a n (Open None h enter None) = refl
begun_runs test a n Free = refl

begun_free : (n : ℕ) (x : Context) → is_free (with_transfer n x) ≡ is_free x
begun_free n (Open b h enter (Some call)) = refl
begun_free n (Open b h enter None) = refl
begun_free n Free = refl

pub count_begun : (p : Context → Bool) (a n : ℕ) (cs : List Context) → ((x : Context) → p (with_transfer n x) ≡ p x) → count_by p (transfer_begun a n cs) ≡ count_by p cs
count_begun p a n [] w = refl
count_begun p a n (y ∷ cs) w = by_test (wants_transfer a y) (count_begun p a n cs w)
  where
    by_test : (t : Bool) → count_by p (transfer_begun a n cs) ≡ count_by p cs → count_by p (cond t (with_transfer n y ∷ cs) (y ∷ transfer_begun a n cs)) ≡ count_by p (y ∷ cs)
    by_test true more = let e = ap number (w y) in omega (arith, e, count_cons p (with_transfer n y) cs, count_cons p y cs)
    by_test false more = omega (arith, more, count_cons p y (transfer_begun a n cs), count_cons p y cs)

at_begun : (p : Context → Bool) (a n : ℕ) (cs : List Context) (c : ℕ) → ((x : Context) → p (with_transfer n x) ≡ p x) → at p (transfer_begun a n cs) c ≡ at p cs c
at_begun p a n [] c w = refl
at_begun p a n (y ∷ cs) c w = by_test (wants_transfer a y) c (λ d. at_begun p a n cs d w)
  where
    by_test : (t : Bool) (c : ℕ) → ((d : ℕ) → at p (transfer_begun a n cs) d ≡ at p cs d) → at p (cond t (with_transfer n y ∷ cs) (y ∷ transfer_begun a n cs)) c ≡ at p (y ∷ cs) c
    by_test true zero more = w y
    by_test true (suc c) more = refl
    by_test false zero more = refl
    by_test false (suc c) more = more c

pub count_opened : (test : Handler → Bool) (a : ℕ) (b : Option AdapterNo) (h : Handler) (n : ℕ) (cs : List Context) → count_by (runs test a) (contexts_entered b h n cs) ≡ count_by (runs test a) cs
count_opened test a (Some b) handlers.TransferData n cs = count_begun (runs test a) b.0 n cs (begun_runs test a n)
count_opened test a None handlers.TransferData n cs = refl
count_opened test a (Some b) _ n cs = refl
count_opened test a None _ n cs = refl

pub free_opened : (b : Option AdapterNo) (h : Handler) (n c : ℕ) (cs : List Context) → at is_free (contexts_entered b h n cs) c ≡ at is_free cs c
free_opened (Some b) handlers.TransferData n c cs = at_begun is_free b.0 n cs c (begun_free n)
free_opened None handlers.TransferData n c cs = refl
free_opened (Some b) _ n c cs = refl
free_opened None _ n c cs = refl

-- the contexts behind an enter
pub count_enter : (test : Handler → Bool) (a : ℕ) (b : Option AdapterNo) (h : Handler) (n c : ℕ) (cs : List Context) (x : Context) → at is_free cs c ≡ true → count_by (runs test a) (slice_set (contexts_entered b h n cs) c x) ≡ count_by (runs test a) cs + number (runs test a x)
count_enter test a b h n c cs x free = count_entered (runs test a) (contexts_entered b h n cs) c x refl (free_opened b h n c cs ∙ free) ∙ ap (λ (m : ℕ). m + number (runs test a x)) (count_opened test a b h n cs)

less_free : (p : Context → Bool) (b : Bool) (y : Context) → p Free ≡ false → number (p (cond b Free y)) ≤ number (p y)
less_free p true y none = let n = ap number none in omega (arith, n)
less_free p false y none = omega arith

pub count_freed : (p : Context → Bool) (b : ℕ) (cs : List Context) → p Free ≡ false → count_by p (freed b cs) ≤ count_by p cs
count_freed p b [] none = omega arith
count_freed p b (y ∷ cs) none = let more = count_freed p b cs none in let one = less_free p (runs any_handler b y) y none in omega (arith, more, one, count_cons p (cond (runs any_handler b y) Free y) (freed b cs), count_cons p y cs)

pub count_entry_freed : (p : Context → Bool) (cs : List Context) → p Free ≡ false → count_by p (entry_freed cs) ≤ count_by p cs
count_entry_freed p [] none = omega arith
count_entry_freed p (Open None b d e ∷ cs) none = let more = count_entry_freed p cs none in let n = ap number none in omega (arith, more, n, count_cons p Free (entry_freed cs), count_cons p (Open None b d e) cs)
count_entry_freed p (Open (Some a) b d e ∷ cs) none = let more = count_entry_freed p cs none in omega (arith, more, count_cons p (Open (Some a) b d e) (entry_freed cs), count_cons p (Open (Some a) b d e) cs)
count_entry_freed p (Free ∷ cs) none = let more = count_entry_freed p cs none in omega (arith, more, count_cons p Free (entry_freed cs), count_cons p Free cs)

-- the stop's contexts
pub count_stopped : (p : Context → Bool) (cs : List Context) (a : ℕ) (all : Bool) → p Free ≡ false → count_by p (contexts_stopped cs a all) ≤ count_by p cs
count_stopped p cs a true none = let one = count_freed p a cs none in let two = count_entry_freed p (freed a cs) none in omega (arith, one, two)
count_stopped p cs a false none = count_freed p a cs none

-- ---- fewer handlers

zero_is : (n : ℕ) → n ≡ 0 → not (n == 0) ≡ false
zero_is n h = grind arith

either : (s : Bool) (m n : ℕ) → m ≤ n → s || not (m == 0) ≡ true → s || not (n == 0) ≡ true
either true m n less h = refl
either false m n less h = grind arith

pub alone_shrinks : (o n : Owner) (a : ℕ) → serialized n a ≡ serialized o a → how_many n is_serial a ≤ how_many o is_serial a → how_many n is_exclusive a ≤ how_many o is_exclusive a → IsAlone o a → IsAlone n a
alone_shrinks o n a same fewer fewer_exclusive alone is =
    let was : serialized o a || not (how_many o is_exclusive a == 0) ≡ true = either (serialized o a) (how_many n is_exclusive a) (how_many o is_exclusive a) fewer_exclusive (ap (λ b. b || not (how_many n is_exclusive a == 0)) (sym same) ∙ is) in
    let most = alone was in
    omega (arith, most, fewer)

same_contexts : (o n : Owner) (a : ℕ) → serialized n a ≡ serialized o a → n.contexts ≡ o.contexts → IsAlone o a → IsAlone n a
same_contexts o n a same contexts alone =
    let e1 = ap (λ (cs : List Context). count_by (runs is_serial a) cs) contexts in
    let e2 = ap (λ (cs : List Context). count_by (runs is_exclusive a) cs) contexts in
    alone_shrinks o n a same (omega (arith, e1)) (omega (arith, e2)) alone

-- ---- calls and replies

pub calling_runs : (test : Handler → Bool) (a import : ℕ) (words : List ℕ) (x : Context) → runs test a (calling import words x) ≡ runs test a x
calling_runs test a import words (Open (Some b) h enter call) = refl
calling_runs test a import words (Open None h enter call) = refl
calling_runs test a import words Free = refl

pub answered_runs : (test : Handler → Bool) (a : ℕ) (x : Context) → runs test a (answered_call x) ≡ runs test a x
answered_runs test a (Open (Some b) h enter call) = refl
answered_runs test a (Open None h enter call) = refl
answered_runs test a Free = refl

-- ---- attributes

entered_series : (h : Handler) (row : Adapter) → in_series (adapter_entered h row) ≡ in_series row
entered_series handlers.Halt row = refl
entered_series handlers.Shutdown row = refl
entered_series handlers.CancelSend row = refl
entered_series handlers.PnpEvent row = refl
entered_series _ row = refl

entered_all_series : (rows : List Adapter) (b : Option AdapterNo) (h : Handler) (a : ℕ) → at in_series (adapters_entered rows b h) a ≡ at in_series rows a
entered_all_series rows (Some b) h a = kept in_series (adapter_entered h) rows b.0 a (entered_series h)
entered_all_series rows None h a = refl

left_series : (h : Handler) (eax : ℕ) (row : Adapter) → in_series (adapter_left h eax row) ≡ in_series row
left_series handlers.Initialize eax row = refl
left_series handlers.Halt eax row = refl
left_series handlers.Shutdown eax row = refl
left_series handlers.CheckForHang eax row = refl
left_series _ eax row = refl

entry_left_series : (eax : ℕ) (rows : List Adapter) (a : ℕ) → at in_series (entry_left eax rows) a ≡ at in_series rows a
entry_left_series zero rows a = refl
entry_left_series (suc eax) [] a = refl
entry_left_series (suc eax) (row ∷ rows) zero = refl
entry_left_series (suc eax) (row ∷ rows) (suc a) = entry_left_series (suc eax) rows a

left_all_series : (rows : List Adapter) (x : Option Context) (eax a : ℕ) → at in_series (adapters_left rows x eax) a ≡ at in_series rows a
left_all_series rows (Some (Open (Some b) h enter call)) eax a = kept in_series (adapter_left h eax) rows b.0 a (left_series h eax)
left_all_series rows (Some (Open None h enter call)) eax a = entry_left_series eax rows a
left_all_series rows (Some Free) eax a = refl
left_all_series rows None eax a = refl

called_series : (rows : List Adapter) (x : Option Context) (import a : ℕ) → at in_series (adapters_called rows x import) a ≡ at in_series rows a
called_series rows (Some (Open (Some b) h enter call)) import a = kept in_series (resources import) rows b.0 a (λ row. refl)
called_series rows (Some (Open None h enter call)) import a = refl
called_series rows (Some Free) import a = refl
called_series rows None import a = refl

-- ---- an enter

-- in numbers: whether the handler is serial and exclusive, whether the adapter is serialized, what runs already
entered_numbers : (hs hx s : Bool) (n x : ℕ) → implies hx hs ≡ true → implies (hs && (s || hx)) (n == 0) ≡ true → implies hs (x == 0) ≡ true → (s || not (x == 0) ≡ true → n ≤ 1) → s || not (x + number hx == 0) ≡ true → n + number hs ≤ 1
entered_numbers false true s n x hxs one two alone is = absurd (cc)
entered_numbers false false s n x hxs one two alone is = let same : x + 0 ≡ x = omega arith in let most = alone (subst (λ (m : ℕ). s || not (m == 0) ≡ true) same is) in omega (arith, most)
entered_numbers true hx true n x hxs one two alone is = let none = equal n 0 one in omega (arith, none)
entered_numbers true true false n x hxs one two alone is = let none = equal n 0 one in omega (arith, none)
entered_numbers true false false n x hxs one two alone is = let none = equal x 0 two in let bad = zero_is (x + 0) (omega (arith, none)) in absurd (cc)

exclusive_serial : (h : Handler) → implies (is_exclusive h) (is_serial h) ≡ true
exclusive_serial handlers.Initialize = refl
exclusive_serial handlers.Halt = refl
exclusive_serial handlers.Shutdown = refl
exclusive_serial handlers.Reset = refl
exclusive_serial _ = refl

and_false : (b : Bool) → b && false ≡ false
and_false true = refl
and_false false = refl

and_yes : (b : Bool) → b && true ≡ b
and_yes true = refl
and_yes false = refl

enter_alone : (o n : Owner) (a b : ℕ) (h : Handler) → ((test : Handler → Bool) → how_many n test a ≡ how_many o test a + number (test h && (b == a))) → serialized n a ≡ serialized o a → in_brackets o b h ≡ true → IsAlone o a → IsAlone n a
enter_alone o n a b h counts same brackets alone is = by_number (b == a) refl
  where
    how : (test : Handler → Bool) (t : Bool) → (b == a) ≡ t → how_many n test a ≡ how_many o test a + number (test h && t)
    how test t is_t = counts test ∙ ap (λ (u : Bool). how_many o test a + number (test h && u)) is_t

    still_is : serialized o a || not (how_many n is_exclusive a == 0) ≡ true
    still_is = ap (λ (u : Bool). u || not (how_many n is_exclusive a == 0)) (sym same) ∙ is

    by_number : (t : Bool) → (b == a) ≡ t → how_many n is_serial a ≤ 1
    by_number false is_t =
        let e1 = how is_serial false is_t in
        let e2 = how is_exclusive false is_t in
        let f1 = ap number (and_false (is_serial h)) in
        let f2 = ap number (and_false (is_exclusive h)) in
        alone_shrinks o n a same (omega (arith, e1, f1)) (omega (arith, e2, f2)) alone is
    by_number true is_t =
        let at_a : b ≡ a = equal b a is_t in
        let brackets_a : in_brackets o a h ≡ true = subst (λ (m : ℕ). in_brackets o m h ≡ true) at_a brackets in
        let e1 = how is_serial true is_t ∙ ap (λ (u : Bool). how_many o is_serial a + number u) (and_yes (is_serial h)) in
        let e2 = how is_exclusive true is_t ∙ ap (λ (u : Bool). how_many o is_exclusive a + number u) (and_yes (is_exclusive h)) in
        let result : how_many o is_serial a + number (is_serial h) ≤ 1 = entered_numbers (is_serial h) (is_exclusive h) (serialized o a) (how_many o is_serial a) (how_many o is_exclusive a) (exclusive_serial h) (and_first _ _ brackets_a) (and_first _ _ (and_second _ _ brackets_a)) alone (subst (λ (m : ℕ). serialized o a || not (m == 0) ≡ true) e2 still_is) in
        omega (arith, e1, result)

-- what an enter needs, part by part
pub record Enters (o : Owner) (b c : ℕ) (h : Handler) : Type 0 where
  pub free : at is_free o.contexts c ≡ true
  pub stands : stands o b ≡ true
  pub brackets : in_brackets o b h ≡ true
  pub halts : implies (is_halt h) (may_halt o b) ≡ true

pub enters : (o : Owner) (b : AdapterNo) (c : ℕ) (h : Handler) → may_enter o (Some b) c h ≡ true → Enters o b.0 c h
enters o b c h may =
    let rest = and_second (at is_free o.contexts c) (not (is_entry h) && (stands o b.0 && (in_brackets o b.0 h && implies (is_halt h) (may_halt o b.0)))) may in
    let more = and_second (not (is_entry h)) (stands o b.0 && (in_brackets o b.0 h && implies (is_halt h) (may_halt o b.0))) rest in
    let last = and_second (stands o b.0) (in_brackets o b.0 h && implies (is_halt h) (may_halt o b.0)) more in
    record {
      free = and_first (at is_free o.contexts c) _ may;
      stands = and_first (stands o b.0) _ more;
      brackets = and_first (in_brackets o b.0 h) _ last;
      halts = and_second (in_brackets o b.0 h) _ last;
    }

pub enters_entry : (o : Owner) (c : ℕ) (h : Handler) → may_enter o None c h ≡ true → at is_free o.contexts c ≡ true
enters_entry o c h may = and_first (at is_free o.contexts c) (is_entry h) may

-- ---- a reply makes an adapter serialized only inside its initialize, which runs alone

pub other_row : {A : Type 0} (test : A → Bool) (f : A → A) (rows : List A) (j k : ℕ) → j == k ≡ false → at test (change f rows j) k ≡ at test rows k
other_row test f [] j k h = refl
other_row test f (row ∷ rows) zero zero h = absurd (cc)
other_row test f (row ∷ rows) zero (suc k) h = refl
other_row test f (row ∷ rows) (suc j) zero h = refl
other_row test f (row ∷ rows) (suc j) (suc k) h = other_row test f rows j k (sym (suc_eq j k) ∙ h)

pub some_counts : (p : Context → Bool) (cs : List Context) (c : ℕ) (x : Context) → slice_get cs c ≡ Some x → p x ≡ true → not (count_by p cs == 0) ≡ true
some_counts p cs c x is passes = positive (count_by p cs) (some p cs c x is passes)
  where
    positive : (n : ℕ) → 1 ≤ n → not (n == 0) ≡ true
    positive n h = grind arith

    some : (p : Context → Bool) (cs : List Context) (c : ℕ) (x : Context) → slice_get cs c ≡ Some x → p x ≡ true → 1 ≤ count_by p cs
    some p [] c x is passes = absurd (cc)
    some p (y ∷ cs) zero x is passes = let same : y ≡ x = cc in let n = ap number (ap p same ∙ passes) in omega (arith, n, count_cons p y cs)
    some p (y ∷ cs) (suc c) x is passes = let more = some p cs c x is passes in omega (arith, more, count_cons p y cs)

or_yes : (b : Bool) → b || true ≡ true
or_yes true = refl
or_yes false = refl

initialize_exclusive : (h : Handler) → is_initialize h ≡ true → is_exclusive h ≡ true
initialize_exclusive handlers.Initialize is = refl
initialize_exclusive _ is = absurd (cc)

answered_was : (o : Owner) (a c : ℕ) (x : Option Context) → slice_get o.contexts c ≡ x → at in_series (adapters_answered o.adapters x) a || not (how_many o is_exclusive a == 0) ≡ true → serialized o a || not (how_many o is_exclusive a == 0) ≡ true
answered_was o a c None got is = is
answered_was o a c (Some Free) got is = is
answered_was o a c (Some (Open None h enter None)) got is = is
answered_was o a c (Some (Open None h enter (Some call))) got is = is
answered_was o a c (Some (Open (Some b) h enter None)) got is = is
answered_was o a c (Some (Open (Some b) h enter (Some call))) got is = by_init (sets_attributes h call) refl
  where
    moved_to : (t : Bool) → sets_attributes h call ≡ t → at in_series (change (with_attributes t call.flags) o.adapters b.0) a || not (how_many o is_exclusive a == 0) ≡ true
    moved_to t e = subst (λ (u : Bool). at in_series (change (with_attributes u call.flags) o.adapters b.0) a || not (how_many o is_exclusive a == 0) ≡ true) e is

    by_init : (t : Bool) → sets_attributes h call ≡ t → serialized o a || not (how_many o is_exclusive a == 0) ≡ true
    by_init false e = ap (λ (u : Bool). u || not (how_many o is_exclusive a == 0)) (sym (kept in_series (with_attributes false call.flags) o.adapters b.0 a (λ row. refl))) ∙ moved_to false e
    by_init true e = by_adapter (b.0 == a) refl
      where
        by_adapter : (t : Bool) → (b.0 == a) ≡ t → serialized o a || not (how_many o is_exclusive a == 0) ≡ true
        by_adapter true same = ap (λ (u : Bool). serialized o a || u) (some_counts (runs is_exclusive a) o.contexts c (Open (Some b) h enter (Some call)) got (ap (λ (u : Bool). u && (b.0 == a)) (initialize_exclusive h (and_first _ _ e)) ∙ same)) ∙ or_yes (serialized o a)
        by_adapter false other = ap (λ (u : Bool). u || not (how_many o is_exclusive a == 0)) (sym (other_row in_series (with_attributes (sets_attributes h call) call.flags) o.adapters b.0 a other)) ∙ is

-- ---- each entry

enter_step : (o : Owner) (b : Option AdapterNo) (c a : ℕ) (h : Handler) → may_enter o b c h ≡ true → (n : Owner) → n.contexts ≡ slice_set (contexts_entered b h o.enters o.contexts) c (Open b h o.enters None) → serialized n a ≡ serialized o a → IsAlone o a → IsAlone n a
enter_step o (Some b) c a h may n contexts same alone =
    let needs = enters o b c h may in
    enter_alone o n a b.0 h (λ test. ap (λ (cs : List Context). count_by (runs test a) cs) contexts ∙ count_enter test a (Some b) h o.enters c o.contexts (Open (Some b) h o.enters None) needs.free) same needs.brackets alone
enter_step o None c a h may n contexts same alone =
    let free = enters_entry o c h may in
    let e1 : how_many n is_serial a ≡ how_many o is_serial a + 0 = ap (λ (cs : List Context). count_by (runs is_serial a) cs) contexts ∙ count_enter is_serial a None h o.enters c o.contexts (Open None h o.enters None) free in
    let e2 : how_many n is_exclusive a ≡ how_many o is_exclusive a + 0 = ap (λ (cs : List Context). count_by (runs is_exclusive a) cs) contexts ∙ count_enter is_exclusive a None h o.enters c o.contexts (Open None h o.enters None) free in
    alone_shrinks o n a same (omega (arith, e1)) (omega (arith, e2)) alone

alone_after : (o : Owner) (e : Entry) (a : ℕ) → rule_against o e ≡ None → IsAlone o a → IsAlone (after o e) a
alone_after o (Cancel b id) a h alone = same_contexts o (after o (Cancel b id)) a (kept in_series _ o.adapters (adapter_of o b.0) a (λ row. refl)) refl alone
alone_after o (Event b m bytes taken) a h alone = same_contexts o (after o (Event b m bytes taken)) a (kept in_series _ o.adapters (adapter_of o b.0) a (λ row. refl)) refl alone
alone_after o (Requeue k) a h alone = same_contexts o (after o (Requeue k)) a (kept in_series _ o.adapters (packet_adapter o k.0) a (λ row. refl)) refl alone
alone_after o (ResetBegin b) a h alone = same_contexts o (after o (ResetBegin b)) a (kept in_series _ o.adapters b.0 a (λ row. refl)) refl alone
alone_after o (ResetEnd b status) a h alone = same_contexts o (after o (ResetEnd b status)) a (kept in_series _ o.adapters b.0 a (λ row. refl)) refl alone
alone_after o (Enter b c handler words writes) a h alone = enter_step o b c.0 a handler (case_of o (Enter b c handler words writes) h) (after o (Enter b c handler words writes)) refl (entered_all_series o.adapters b handler a) alone
alone_after o (Leave c eax) a h alone = alone_shrinks o (after o (Leave c eax)) a (left_all_series o.adapters (slice_get o.contexts c.0) eax a) (count_left (runs is_serial a) o.contexts c.0 refl) (count_left (runs is_exclusive a) o.contexts c.0 refl) alone
alone_after o (Call c import words) a h alone =
    let e1 = count_changed (runs is_serial a) (calling import words) o.contexts c.0 (calling_runs is_serial a import words) in
    let e2 = count_changed (runs is_exclusive a) (calling import words) o.contexts c.0 (calling_runs is_exclusive a import words) in
    alone_shrinks o (after o (Call c import words)) a (called_series o.adapters (slice_get o.contexts c.0) import a) (omega (arith, e1)) (omega (arith, e2)) alone
alone_after o (Reply c eax writes) a h alone = λ is.
    let e1 = count_changed (runs is_serial a) answered_call o.contexts c.0 (answered_runs is_serial a) in
    let e2 = count_changed (runs is_exclusive a) answered_call o.contexts c.0 (answered_runs is_exclusive a) in
    let most = alone (answered_was o a c.0 (slice_get o.contexts c.0) refl (subst (λ (m : ℕ). at in_series (adapters_answered o.adapters (slice_get o.contexts c.0)) a || not (m == 0) ≡ true) e2 is)) in
    omega (arith, e1, most)
alone_after o (Stop b cause) a h alone = alone_shrinks o (after o (Stop b cause)) a (kept in_series stopped o.adapters b.0 a (λ row. refl)) (count_stopped (runs is_serial a) o.contexts b.0 _ refl) (count_stopped (runs is_exclusive a) o.contexts b.0 _ refl) alone
alone_after o _ a h alone = alone

pub alone_now : (o n : Owner) (log : List Entry) (a : ℕ) → Legal o log n → IsAlone o a → IsAlone n a
alone_now o n log a (Ends m) alone = alone
alone_now o n log a (Goes m l e rest h more) alone = alone_now (after o e) n rest a more (alone_after o e a h alone)
alone_now o n log a (Registers m l rest c p more) alone = alone_now _ n log a more alone
alone_now o n log a (Breaches m l c eax rest h more) alone = alone_now _ n rest a more alone
