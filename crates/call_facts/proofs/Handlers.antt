-- Which handlers are open behind an entry: those that were, but for those that it ends, and the one that it enters.
use Rattle.std.proofs.Common.{◌≡◌, ℕ, zero, suc, Bool, true, false, cond, ◌==◌, List, [], ◌∷◌, Option, Some, None, refl, sym, ap, ◌∙◌, subst, slice_get, slice_set}
use Rattle.std.specs.Prelude.{⊤, replicate}
use Rattle.nd_base.specs.declared.numbers.AdapterNo.{AdapterNo}
use Rattle.log_fields.specs.declared.field_values.Handler.{Handler}
use Rattle.log_fields.specs.declared.field_values.Handler.TheVariants as handler
use Rattle.call_log.specs.declared.entry.Entry.{Entry}
use Rattle.call_log.specs.declared.entry.Entry.TheVariants as entries
use Rattle.owner_machine.specs.declared.rows.Context.{Context}
use Rattle.owner_machine.specs.declared.rows.Context.TheVariants.{Free, Open}
use Rattle.owner_machine.specs.State.{Owner, change}
use Rattle.owner_machine.specs.Contexts.{any_handler, runs, calling, answered_call, freed, entry_freed, is_entry, transfer_begun, wants_transfer, with_transfer}
use Rattle.owner_machine.specs.Handlers.{contexts_entered}
use Rattle.owner_machine.specs.Adapters.{contexts_stopped, all_stopped, stopped}
use Rattle.owner_machine.specs.Machine as owners
use Rattle.legal_run.specs.State.{Inputs, State, adapter_in, handler_in}
use Rattle.legal_run.specs.Calls.{leaves}
use Rattle.legal_run.specs.After.{after, is_breaking, owner_left}
use Rattle.call_facts.proofs.Moments.{apart}

-- behind: free, or the same handler of the same adapter
abbrev pub Stays : Option Context → Option Context → Type 0
Stays before None = ⊤
Stays before (Some Free) = ⊤
Stays None (Some (Open a h n call)) = ⊥
Stays (Some Free) (Some (Open a h n call)) = ⊥
Stays (Some (Open b k m other)) (Some (Open a h n call)) = (b ≡ a) × (k ≡ h)

pub stays : (x : Option Context) → Stays x x
stays None = tt
stays (Some Free) = tt
stays (Some (Open a h n call)) = (refl, refl)

pub through : (x y z : Option Context) → Stays x y → Stays y z → Stays x z
through x y None one other = tt
through x y (Some Free) one other = tt
through x None (Some (Open a h n call)) one other = absurd other
through x (Some Free) (Some (Open a h n call)) one other = absurd other
through None (Some (Open b k m c)) (Some (Open a h n call)) one other = absurd one
through (Some Free) (Some (Open b k m c)) (Some (Open a h n call)) one other = absurd one
through (Some (Open d l o e)) (Some (Open b k m c)) (Some (Open a h n call)) one other = (one.0 ∙ other.0, one.1 ∙ other.1)

-- ---- what changes rows

pub set_other : (os : List Context) (y x : ℕ) (o : Context) → (y ≡ x → ⊥) → slice_get (slice_set os y o) x ≡ slice_get os x
set_other [] y x o h = refl
set_other (p ∷ os) zero zero o h = absurd (h refl)
set_other (p ∷ os) zero (suc x) o h = refl
set_other (p ∷ os) (suc y) zero o h = refl
set_other (p ∷ os) (suc y) (suc x) o h = set_other os y x o (λ is. h (ap suc is))

set_free : (os : List Context) (y x : ℕ) → Stays (slice_get os x) (slice_get (slice_set os y Free) x)
set_free [] y x = stays (slice_get [] x)
set_free (p ∷ os) zero zero = tt
set_free (p ∷ os) zero (suc x) = stays (slice_get os x)
set_free (p ∷ os) (suc y) zero = stays (Some p)
set_free (p ∷ os) (suc y) (suc x) = set_free os y x

changed : (f : Context → Context) → ((o : Context) → Stays (Some o) (Some (f o))) → (os : List Context) (y x : ℕ) → Stays (slice_get os x) (slice_get (change f os y) x)
changed f keeps [] y x = stays (slice_get [] x)
changed f keeps (p ∷ os) zero zero = keeps p
changed f keeps (p ∷ os) zero (suc x) = stays (slice_get os x)
changed f keeps (p ∷ os) (suc y) zero = stays (Some p)
changed f keeps (p ∷ os) (suc y) (suc x) = changed f keeps os y x

called : (import : ℕ) (words : List ℕ) (o : Context) → Stays (Some o) (Some (calling import words o))
called import words Free = tt
called import words (Open a h n call) = (refl, refl)

answered : (o : Context) → Stays (Some o) (Some (answered_call o))
answered Free = tt
answered (Open a h n call) = (refl, refl)

transferred : (n : ℕ) (o : Context) → Stays (Some o) (Some (with_transfer n o))
transferred n Free = tt
transferred n (Open a h m None) = (refl, refl)
transferred n (Open a h m (Some call)) = (refl, refl)

begun : (a n : ℕ) (os : List Context) (x : ℕ) → Stays (slice_get os x) (slice_get (transfer_begun a n os) x)
begun a n [] x = stays (slice_get [] x)
begun a n (o ∷ os) x = by_test (wants_transfer a o) x (begun a n os)
  where
    by_test : (t : Bool) (x : ℕ) → ((y : ℕ) → Stays (slice_get os y) (slice_get (transfer_begun a n os) y))
        → Stays (slice_get (o ∷ os) x) (slice_get (cond t (with_transfer n o ∷ os) (o ∷ transfer_begun a n os)) x)
    by_test true zero more = transferred n o
    by_test true (suc x) more = stays (slice_get os x)
    by_test false zero more = stays (Some o)
    by_test false (suc x) more = more x

pub opened : (b : Option AdapterNo) (h : Handler) (n : ℕ) (os : List Context) (x : ℕ) → Stays (slice_get os x) (slice_get (contexts_entered b h n os) x)
opened (Some b) handler.TransferData n os x = begun b.0 n os x
opened None handler.TransferData n os x = stays (slice_get os x)
opened (Some b) _ n os x = stays (slice_get os x)
opened None _ n os x = stays (slice_get os x)

freed_stay : (a : ℕ) (os : List Context) (x : ℕ) → Stays (slice_get os x) (slice_get (freed a os) x)
freed_stay a [] x = stays (slice_get [] x)
freed_stay a (o ∷ os) zero = by_test (runs any_handler a o)
  where
    by_test : (t : Bool) → Stays (Some o) (Some (cond t Free o))
    by_test true = tt
    by_test false = stays (Some o)
freed_stay a (o ∷ os) (suc x) = freed_stay a os x

entry_stays : (os : List Context) (x : ℕ) → Stays (slice_get os x) (slice_get (entry_freed os) x)
entry_stays [] x = stays (slice_get [] x)
entry_stays (Open None h n call ∷ os) zero = tt
entry_stays (Open None h n call ∷ os) (suc x) = entry_stays os x
entry_stays (Open (Some a) h n call ∷ os) zero = (refl, refl)
entry_stays (Open (Some a) h n call ∷ os) (suc x) = entry_stays os x
entry_stays (Free ∷ os) zero = tt
entry_stays (Free ∷ os) (suc x) = entry_stays os x

stopped_stay : (os : List Context) (a : ℕ) (all : Bool) (x : ℕ) → Stays (slice_get os x) (slice_get (contexts_stopped os a all) x)
stopped_stay os a true x = through (slice_get os x) (slice_get (freed a os) x) _ (freed_stay a os x) (entry_stays (freed a os) x)
stopped_stay os a false x = freed_stay a os x

-- ---- behind an entry

-- it enters a handler in the context
abbrev pub enters : Entry → ℕ → Bool
enters (entries.Enter a y h words writes) x = y.0 == x
enters e x = false

owner_rows : (o : Owner) (e : Entry) (x : ℕ) → enters e x ≡ false → Stays (slice_get o.contexts x) (slice_get (owners.after o e).contexts x)
owner_rows o (entries.Enter b y h words writes) x other =
    subst (Stays (slice_get o.contexts x)) (sym (set_other (contexts_entered b h o.enters o.contexts) y.0 x _ (apart y.0 x other))) (opened b h o.enters o.contexts x)
owner_rows o (entries.Leave y eax) x other = set_free o.contexts y.0 x
owner_rows o (entries.Call y import words) x other = changed (calling import words) (called import words) o.contexts y.0 x
owner_rows o (entries.Reply y eax writes) x other = changed answered_call answered o.contexts y.0 x
owner_rows o (entries.Stop b why) x other = stopped_stay o.contexts b.0 (all_stopped (change stopped o.adapters b.0)) x
owner_rows o _ x other = stays (slice_get o.contexts x)

pub rows_stay : (c : Inputs) (s : State) (e : Entry) (x : ℕ) → enters e x ≡ false → Stays (slice_get s.owner.contexts x) (slice_get (after c s e).owner.contexts x)
rows_stay c s (entries.Leave y eax) x other = by_test (is_breaking (leaves c s y eax))
  where
    by_test : (b : Bool) → Stays (slice_get s.owner.contexts x) (slice_get (owner_left s.owner (entries.Leave y eax) b).contexts x)
    by_test true = stays (slice_get s.owner.contexts x)
    by_test false = set_free s.owner.contexts y.0 x
rows_stay c s e x other = owner_rows s.owner e x other

-- a handler that is open behind it was open before, and is of the same adapter
pub was_open : (x y : Option Context) → Stays x y → is_entry (handler_in y) ≡ false → (handler_in x ≡ handler_in y) × (adapter_in x ≡ adapter_in y)
was_open x None h other = absurd (cc)
was_open x (Some Free) h other = absurd (cc)
was_open None (Some (Open a k n call)) h other = absurd h
was_open (Some Free) (Some (Open a k n call)) h other = absurd h
was_open (Some (Open b l m c)) (Some (Open a k n call)) h other = (h.1, h.0)

-- where one is open that is none of DriverEntry's, it is the one that was entered
pub entered_there : (os : List Context) (y : ℕ) (a : Option AdapterNo) (h : Handler) (n : ℕ) → is_entry (handler_in (slice_get (slice_set os y (Open a h n None)) y)) ≡ false
    → slice_get (slice_set os y (Open a h n None)) y ≡ Some (Open a h n None)
entered_there [] y a h n is = absurd (cc)
entered_there (p ∷ os) zero a h n is = refl
entered_there (p ∷ os) (suc y) a h n is = entered_there os y a h n is

-- before the first entry none is open
pub none_open : (n x : ℕ) → handler_in (slice_get (replicate n Free) x) ≡ handler.DriverEntry
none_open zero x = refl
none_open (suc n) zero = refl
none_open (suc n) (suc x) = none_open n x
