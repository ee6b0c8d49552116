-- Which adapters are finished behind the stop of one.
use Rattle.std.proofs.Common.{◌≡◌, ◌≢◌, ℕ, zero, suc, Bool, true, false, not, ◌&&◌, ◌||◌, ◌==◌, cond, List, [], ◌∷◌, Some, None, refl, sym, ap, ◌∙◌, arith}
use Rattle.std.specs.Prelude.{count_by}
use Rattle.std.proofs.lemmas.List.Sums.{sum_by-cons}
use Rattle.nd_base.specs.declared.numbers.Phase.{Phase}
use Rattle.owner_machine.specs.declared.rows.Adapter.{Adapter}
use Rattle.owner_machine.specs.declared.rows.Context.{Context}
use Rattle.owner_machine.specs.declared.rows.Context.TheVariants.{Free, Open}
use Rattle.owner_machine.specs.State.{Owner, at, change, is_stopped, phase_is, stands}
use Rattle.owner_machine.specs.Contexts.{any_handler, entry_freed, freed, none_runs, runs}
use Rattle.owner_machine.specs.Adapters.{all_stopped, contexts_stopped, stopped}
use Rattle.owner_machine.specs.Handlers.{outstanding}
use Rattle.legal_run.specs.State.{State, is_off}
use Rattle.legal_run.specs.Owed.{is_finished}

-- ---- rows

changed_at : {A : Type 0} (p : A → Bool) (f : A → A) (rows : List A) (k i : ℕ) → k ≢ i → at p (change f rows k) i ≡ at p rows i
changed_at p f [] k i other = refl
changed_at p f (row ∷ rows) zero zero other = absurd (other refl)
changed_at p f (row ∷ rows) zero (suc i) other = refl
changed_at p f (row ∷ rows) (suc k) zero other = refl
changed_at p f (row ∷ rows) (suc k) (suc i) other = changed_at p f rows k i (λ same. other (ap suc same))

stopped_there : (rows : List Adapter) (k : ℕ) → at (λ row. not (is_stopped row.phase)) rows k ≡ true → at (λ row. is_stopped row.phase) (change stopped rows k) k ≡ true
stopped_there [] k h = absurd (cc)
stopped_there (row ∷ rows) zero h = refl
stopped_there (row ∷ rows) (suc k) h = stopped_there rows k h

-- ---- contexts

differs : (n a b : ℕ) → b ≢ a → (n == a) ≡ true → (n == b) ≡ false
differs n a b other h = let same : n ≡ a = grind (arith, h) in by (n == b) refl same
  where
    by : (t : Bool) → (n == b) ≡ t → n ≡ a → t ≡ false
    by false is same = refl
    by true is same = let there : n ≡ b = grind (arith, is) in absurd (other (sym there ∙ same))

freed_runs : (a b : ℕ) → b ≢ a → (x : Context) → runs any_handler b (cond (runs any_handler a x) Free x) ≡ runs any_handler b x
freed_runs a b other Free = refl
freed_runs a b other (Open None h e call) = refl
freed_runs a b other (Open (Some d) h e call) = by (d.0 == a) refl
  where
    by : (t : Bool) → (d.0 == a) ≡ t → runs any_handler b (cond t Free (Open (Some d) h e call)) ≡ (d.0 == b)
    by true is = sym (differs d.0 a b other is)
    by false is = refl

freed_count : (a b : ℕ) → b ≢ a → (xs : List Context) → count_by (runs any_handler b) (freed a xs) ≡ count_by (runs any_handler b) xs
freed_count a b other [] = refl
freed_count a b other (x ∷ xs) =
    let one = sum_by-cons (λ y. cond (runs any_handler b y) 1 0) (cond (runs any_handler a x) Free x) (freed a xs) in
    let two = sum_by-cons (λ y. cond (runs any_handler b y) 1 0) x xs in
    let here = ap {B = ℕ} (λ t. cond t 1 0) (freed_runs a b other x) in
    let rest = freed_count a b other xs in
    omega (arith, one, two, here, rest)

entry_count : (b : ℕ) (xs : List Context) → count_by (runs any_handler b) (entry_freed xs) ≡ count_by (runs any_handler b) xs
entry_count b [] = refl
entry_count b (Free ∷ xs) =
    let one = sum_by-cons (λ y. cond (runs any_handler b y) 1 0) Free (entry_freed xs) in
    let two = sum_by-cons (λ y. cond (runs any_handler b y) 1 0) Free xs in
    let rest = entry_count b xs in
    omega (arith, one, two, rest)
entry_count b (Open None h e call ∷ xs) =
    let one = sum_by-cons (λ y. cond (runs any_handler b y) 1 0) Free (entry_freed xs) in
    let two = sum_by-cons (λ y. cond (runs any_handler b y) 1 0) (Open None h e call) xs in
    let rest = entry_count b xs in
    omega (arith, one, two, rest)
entry_count b (Open (Some d) h e call ∷ xs) =
    let one = sum_by-cons (λ y. cond (runs any_handler b y) 1 0) (Open (Some d) h e call) (entry_freed xs) in
    let two = sum_by-cons (λ y. cond (runs any_handler b y) 1 0) (Open (Some d) h e call) xs in
    let rest = entry_count b xs in
    omega (arith, one, two, rest)

stopped_count : (a b : ℕ) → b ≢ a → (xs : List Context) (all : Bool) → count_by (runs any_handler b) (contexts_stopped xs a all) ≡ count_by (runs any_handler b) xs
stopped_count a b other xs true = entry_count b (freed a xs) ∙ freed_count a b other xs
stopped_count a b other xs false = freed_count a b other xs

-- ---- adapters

-- an adapter was stopped, and of the others as much is outstanding
pub record IsStopped (o p : Owner) (a : ℕ) : Type 0 where
  pub rows : p.adapters ≡ change stopped o.adapters a
  pub contexts : p.contexts ≡ contexts_stopped o.contexts a (all_stopped (change stopped o.adapters a))
  pub others : (b : ℕ) → b ≢ a → outstanding p b ≡ outstanding o b

pub itself_finished : (s t : State) (a : ℕ) → stands s.owner a ≡ true → IsStopped s.owner t.owner a → is_finished t a ≡ true
itself_finished s t a is now =
    let phase : phase_is is_stopped t.owner a ≡ true = ap (λ (rows : List Adapter). at (λ row. is_stopped row.phase) rows a) now.rows ∙ stopped_there s.owner.adapters a is in
    ap (λ b. b || (phase_is is_off t.owner a && ((outstanding t.owner a == 0) && none_runs t.owner any_handler a))) phase

pub others_finished : (s t : State) (a b : ℕ) → b ≢ a → IsStopped s.owner t.owner a → is_finished t b ≡ is_finished s b
others_finished s t a b other now =
    let phases : (test : Phase → Bool) → phase_is test t.owner b ≡ phase_is test s.owner b
    = λ test. ap (λ (rows : List Adapter). at (λ row. test row.phase) rows b) now.rows ∙ changed_at (λ (row : Adapter). test row.phase) stopped s.owner.adapters a b (λ same. other (sym same)) in
    let one = phases is_stopped in
    let two = phases is_off in
    let three = now.others b other in
    let four : count_by (runs any_handler b) t.owner.contexts ≡ count_by (runs any_handler b) s.owner.contexts
    = ap (λ (xs : List Context). count_by (runs any_handler b) xs) now.contexts ∙ stopped_count a b other s.owner.contexts (all_stopped (change stopped s.owner.adapters a)) in
    ap (λ x. x || (phase_is is_off t.owner b && ((outstanding t.owner b == 0) && none_runs t.owner any_handler b))) one
    ∙ ap (λ x. phase_is is_stopped s.owner b || (x && ((outstanding t.owner b == 0) && none_runs t.owner any_handler b))) two
    ∙ ap (λ n. phase_is is_stopped s.owner b || (phase_is is_off s.owner b && ((n == 0) && none_runs t.owner any_handler b))) three
    ∙ ap (λ n. phase_is is_stopped s.owner b || (phase_is is_off s.owner b && ((outstanding s.owner b == 0) && (n == 0)))) four
