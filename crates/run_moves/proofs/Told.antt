-- Drivers that are told something, one after the other.
use Rattle.std.proofs.Common.{◌≡◌, ℕ, zero, suc, ◌+◌, ◌<◌, ◌≤◌, ◌==◌, ◌&&◌, Bool, true, false, List, [], ◌∷◌, Option, Some, None, refl, sym, ◌∙◌, ap, subst, arith, length, drop}
use Rattle.std.specs.Prelude.{slice_get}
use Rattle.std.specs.Option.{option_map_or}
use Rattle.owner_machine.specs.declared.rows.Driver.{Driver}
use Rattle.owner_machine.specs.State.{is_bound, numbers_from, in_front}
use Rattle.legal_run.specs.State.{State}
use Rattle.legal_run.specs.After.{all_spoke, bound_to, spoke}
use Rattle.run_course.specs.Shown.{Shows}
use Rattle.run_course.specs.declared.course.Course.{Course}

abbrev pub is_of : ℕ → Driver → Bool
is_of a d = is_bound d.binding && (d.adapter.0 == a)

-- the state, with what the course keeps as the course has it
abbrev pub seen : State → Course → State
seen s k = record s { drivers = k.drivers.items; packets = k.packets.items; lent = k.lent.items; come = k.come; expired = k.expired }

-- all others of the state stay
pub record KeepsRest (s t : State) : Type 0 where
  pub owner : t.owner ≡ s.owner
  pub world : t.world ≡ s.world
  pub contexts : t.contexts ≡ s.contexts
  pub entrance : t.entrance ≡ s.entrance
  pub adapters : t.adapters ≡ s.adapters
  pub charged : t.charged ≡ s.charged
  pub charges : t.charges ≡ s.charges
  pub next : t.next ≡ s.next

pub spoken_keeps : (s : State) (bs : List ℕ) → KeepsRest s (all_spoke s bs)
unfolding all_spoke
spoken_keeps s [] = record { owner = refl; world = refl; contexts = refl; entrance = refl; adapters = refl; charged = refl; charges = refl; next = refl }
spoken_keeps s (b ∷ bs) = let h = spoken_keeps (spoke s b) bs in record { owner = h.owner; world = h.world; contexts = h.contexts; entrance = h.entrance; adapters = h.adapters; charged = h.charged; charges = h.charges; next = h.next }

pub spoken_expired : (s : State) (bs : List ℕ) → (all_spoke s bs).expired ≡ s.expired
unfolding all_spoke
spoken_expired s [] = refl
spoken_expired s (b ∷ bs) = spoken_expired (spoke s b) bs

-- a course that shows a state, of which the rest is as it was
pub is_seen : (s t : State) (k : Course) → KeepsRest s t → Shows t k → seen s k ≡ t
is_seen s t k rest shown = rw (sym rest.owner, sym rest.world, sym rest.contexts, sym rest.entrance, sym rest.adapters, sym rest.charged, sym rest.charges, sym rest.next, shown.hearings, shown.frames, shown.loans, shown.arrivals, shown.expirations) refl

pub same : (s : State) → KeepsRest s s
same s = record { owner = refl; world = refl; contexts = refl; entrance = refl; adapters = refl; charged = refl; charges = refl; next = refl }

-- some have been told, and the rest are still to be told
abbrev pub IsTold : State → ℕ → ℕ → Course → Type 0
IsTold s a n k = all_spoke (seen s k) (numbers_from n (is_of a) (drop n s.owner.drivers)) ≡ all_spoke s (bound_to s a)

pub begins : (s : State) (a : ℕ) (k : Course) → Shows s k → IsTold s a 0 k
begins s a k shown = ap (λ (t : State). all_spoke t (bound_to s a)) (is_seen s s k (same s) shown)

pub ends : (s : State) (a n : ℕ) (k : Course) → length s.owner.drivers ≤ n → IsTold s a n k → Shows (all_spoke s (bound_to s a)) k
unfolding all_spoke
ends s a n k over told = subst (λ (t : State). Shows t k) (is_end s a n k over ∙ told) (record { hearings = refl; frames = refl; loans = refl; arrivals = refl; expirations = refl })
  where
    past : {A : Type 0} (n : ℕ) (xs : List A) → length xs ≤ n → drop n xs ≡ []
    past zero [] less = refl
    past (suc n) [] less = refl
    past zero (x ∷ xs) less = absurd (omega (arith, less))
    past (suc n) (x ∷ xs) less = past n xs (omega (arith, less))

    is_end : (s : State) (a n : ℕ) (k : Course) → length s.owner.drivers ≤ n → seen s k ≡ all_spoke (seen s k) (numbers_from n (is_of a) (drop n s.owner.drivers))
    is_end s a n k over = ap (λ (ds : List Driver). all_spoke (seen s k) (numbers_from n (is_of a) ds)) (sym (past n s.owner.drivers over))

pub next_driver : (n : ℕ) (ds : List Driver) → n < length ds → (d : Driver) × ((slice_get ds n ≡ Some d) × (drop n ds ≡ d ∷ drop (suc n) ds))
next_driver n [] less = absurd (omega (arith, less))
next_driver zero (d ∷ ds) less = (d, (refl, refl))
next_driver (suc n) (d ∷ ds) less = let (e, (at, is)) = next_driver n ds (omega (arith, less)) in (e, (at, is))

abbrev pub is_of_number : State → ℕ → ℕ → Bool
is_of_number s a n = option_map_or (is_of a) (slice_get s.owner.drivers n) false

pub told_one : (s : State) (a n : ℕ) (k l : Course) → n < length s.owner.drivers → is_of_number s a n ≡ true → Shows (spoke (seen s k) n) l → IsTold s a n k → IsTold s a (suc n) l
unfolding all_spoke
told_one s a n k l less is shown told =
    let (d, (at, more)) = next_driver n s.owner.drivers less in
    let holds : is_of a d ≡ true = sym (ap (λ x. option_map_or (is_of a) x false) at) ∙ is in
    let now : seen s l ≡ spoke (seen s k) n = is_seen s (spoke (seen s k) n) l (record { owner = refl; world = refl; contexts = refl; entrance = refl; adapters = refl; charged = refl; charges = refl; next = refl }) shown in
    let rest = numbers_from (suc n) (is_of a) (drop (suc n) s.owner.drivers) in
    ap (λ (t : State). all_spoke t rest) now ∙ sym (spoke_first (seen s k) n rest) ∙ sym (ap (all_spoke (seen s k)) (front n a d (drop (suc n) s.owner.drivers) holds)) ∙ sym (ap (λ (ds : List Driver). all_spoke (seen s k) (numbers_from n (is_of a) ds)) more) ∙ told
  where
    spoke_first : (t : State) (b : ℕ) (bs : List ℕ) → all_spoke t (b ∷ bs) ≡ all_spoke (spoke t b) bs
    spoke_first t b bs = refl

    front : (n a : ℕ) (d : Driver) (ds : List Driver) → is_of a d ≡ true → numbers_from n (is_of a) (d ∷ ds) ≡ n ∷ numbers_from (suc n) (is_of a) ds
    front n a d ds holds = ap (λ b. in_front b n (numbers_from (suc n) (is_of a) ds)) holds

pub told_none : (s : State) (a n : ℕ) (k : Course) → n < length s.owner.drivers → is_of_number s a n ≡ false → IsTold s a n k → IsTold s a (suc n) k
told_none s a n k less is told =
    let (d, (at, more)) = next_driver n s.owner.drivers less in
    let other : is_of a d ≡ false = sym (ap (λ x. option_map_or (is_of a) x false) at) ∙ is in
    sym (ap (all_spoke (seen s k)) (front n a d (drop (suc n) s.owner.drivers) other)) ∙ sym (ap (λ (ds : List Driver). all_spoke (seen s k) (numbers_from n (is_of a) ds)) more) ∙ told
  where
    front : (n a : ℕ) (d : Driver) (ds : List Driver) → is_of a d ≡ false → numbers_from n (is_of a) (d ∷ ds) ≡ numbers_from (suc n) (is_of a) ds
    front n a d ds other = ap (λ b. in_front b n (numbers_from (suc n) (is_of a) ds)) other
