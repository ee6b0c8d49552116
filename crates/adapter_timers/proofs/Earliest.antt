-- The earliest of some armed timers: it is among them, and none comes before it.
use Rattle.std.proofs.Common.{◌≡◌, ℕ, ◌<◌, ◌≤◌, ◌⊎◌, Bool, true, false, ◌&&◌, ◌||◌, ◌==◌, cond, ltb, eqb, List, [], ◌∷◌, Option, Some, None, refl, sym, ap, ◌∙◌, inl, inr, ⊎_elim, arith, ltb-true, eqb-true, eq-eqb, lt-ltb, ne_eqb, map, min, filter}
use Rattle.std.specs.Option.{option_map, option_map_or}
use Rattle.std.specs.Ordering.{nat_cmp, eq_by_cmp, is_eq}
use Rattle.std.specs.declared.cmp.Ordering.TheVariants.{Less, Equal, Greater}
use Rattle.std.proofs.lemmas.Bool.{false≢true, cases_lt}
use Rattle.std.proofs.Math.Nat.{min-eq_left, min-eq_right}
use Rattle.legal_run.specs.Owed.{Armed, is_earlier, earlier_of, earliest, least}
use Rattle.adapter_timers.proofs.Entries.{stands}

-- ---- tests

pub or_cases : (a b : Bool) → (a || b) ≡ true → (a ≡ true) ⊎ (b ≡ true)
or_cases true b e = inl refl
or_cases false b e = inr e

pub and_both : (a b : Bool) → (a && b) ≡ true → (a ≡ true) × (b ≡ true)
and_both true b e = (refl, e)
and_both false b e = absurd (false≢true e)

pub and_true : (a b : Bool) → a ≡ true → b ≡ true → (a && b) ≡ true
and_true a b e f = ap (λ x. x && b) e ∙ f

pub or_left : (a b : Bool) → a ≡ true → (a || b) ≡ true
or_left a b e = ap (λ x. x || b) e

pub or_right : (a b : Bool) → b ≡ true → (a || b) ≡ true
or_right true b e = refl
or_right false b e = e

tied : (less same : Bool) → (less ≡ true → same ≡ false) → is_eq (cond less Less (cond same Equal Greater)) ≡ same
tied true same h = sym (h refl)
tied false true h = refl
tied false false h = refl

ties : (q k : ℕ) → eq_by_cmp nat_cmp q k ≡ eqb q k
ties q k = tied (ltb q k) (eqb q k) (λ h. ne_eqb q k (λ e. omega (arith, ltb-true q k h)))

-- ---- moments with addresses

-- a timer for this moment at this address is among them
abbrev pub has : List Armed → ℕ → ℕ → Bool
has ts m k = stands (λ timer. timer.moment == m) k ts

-- a moment and address does not come before another
abbrev pub NotAfter : (m k m' k' : ℕ) → Type 0
NotAfter m k m' k' = (m < m') ⊎ ((m ≡ m') × (k ≤ k'))

abbrev pub is_at : ℕ → ℕ → Armed → Bool
is_at m k t = eq_by_cmp nat_cmp k t.0 && (t.1.moment == m)

pub is_it : (t : Armed) → is_at t.1.moment t.0 t ≡ true
is_it t = and_true (eq_by_cmp nat_cmp t.0 t.0) (eqb t.1.moment t.1.moment) (ties t.0 t.0 ∙ eq-eqb t.0 t.0 refl) (eq-eqb t.1.moment t.1.moment refl)

pub same_at : (t : Armed) (m k : ℕ) → is_at m k t ≡ true → (t.1.moment ≡ m) × (k ≡ t.0)
same_at t m k e =
    let w = and_both (eq_by_cmp nat_cmp k t.0) (eqb t.1.moment m) e in
    (eqb-true t.1.moment m w.1, eqb-true k t.0 (sym (ties k t.0) ∙ w.0))

NotAfter-trans : (m k m' k' n j : ℕ) → NotAfter m k m' k' → NotAfter m' k' n j → NotAfter m k n j
NotAfter-trans m k m' k' n j p q =
    ⊎_elim
    (λ (lt : m < m'). ⊎_elim (λ (lt' : m' < n). inl (omega arith)) (λ (w' : (m' ≡ n) × (k' ≤ j)). inl (omega arith)) q)
    (λ (w : (m ≡ m') × (k ≤ k')). ⊎_elim (λ (lt' : m' < n). inl (omega arith)) (λ (w' : (m' ≡ n) × (k' ≤ j)). inr (omega arith, omega arith)) q)
    p

pub NotAfter-both : (m k n j : ℕ) → NotAfter m k n j → NotAfter n j m k → (m ≡ n) × (k ≡ j)
NotAfter-both m k n j p q =
    ⊎_elim
    (λ (lt : m < n). ⊎_elim (λ (lt' : n < m). absurd (omega arith)) (λ (w' : (n ≡ m) × (j ≤ k)). absurd (omega arith)) q)
    (λ (w : (m ≡ n) × (k ≤ j)). ⊎_elim (λ (lt' : n < m). absurd (omega arith)) (λ (w' : (n ≡ m) × (j ≤ k)). (w.0, omega arith)) q)
    p

NotAfter-here : (t : Armed) (m k : ℕ) → is_at m k t ≡ true → NotAfter t.1.moment t.0 m k
NotAfter-here t m k e = let w = same_at t m k e in let same = w.1 in inr (w.0, omega arith)

earlier_is : (t u : Armed) → is_earlier t u ≡ true → NotAfter t.1.moment t.0 u.1.moment u.0
earlier_is t u e =
    ⊎_elim (λ (h : ltb t.1.moment u.1.moment ≡ true). inl (ltb-true t.1.moment u.1.moment h))
    (λ (h : (eqb t.1.moment u.1.moment && ltb t.0 u.0) ≡ true).
    let w = and_both (eqb t.1.moment u.1.moment) (ltb t.0 u.0) h in
    let less = ltb-true t.0 u.0 w.1 in
    inr (eqb-true t.1.moment u.1.moment w.0, omega arith))
    (or_cases (ltb t.1.moment u.1.moment) (eqb t.1.moment u.1.moment && ltb t.0 u.0) e)

earlier_from : (t u : Armed) → (t.1.moment < u.1.moment) ⊎ ((t.1.moment ≡ u.1.moment) × (t.0 < u.0)) → is_earlier t u ≡ true
earlier_from t u h =
    ⊎_elim (λ (lt : t.1.moment < u.1.moment). or_left (ltb t.1.moment u.1.moment) (eqb t.1.moment u.1.moment && ltb t.0 u.0) (lt-ltb t.1.moment u.1.moment lt))
    (λ (w : (t.1.moment ≡ u.1.moment) × (t.0 < u.0)).
    or_right (ltb t.1.moment u.1.moment) (eqb t.1.moment u.1.moment && ltb t.0 u.0)
    (and_true (eqb t.1.moment u.1.moment) (ltb t.0 u.0) (eq-eqb t.1.moment u.1.moment w.0) (lt-ltb t.0 u.0 w.1)))
    h

not_earlier : (t u : Armed) → is_earlier t u ≡ false → NotAfter u.1.moment u.0 t.1.moment t.0
not_earlier t u e =
    ⊎_elim (λ (lt : u.1.moment < t.1.moment). inl lt)
    (λ (le : t.1.moment ≤ u.1.moment).
    ⊎_elim (λ (lt : t.1.moment < u.1.moment). absurd (false≢true (sym e ∙ earlier_from t u (inl lt))))
    (λ (ge : u.1.moment ≤ t.1.moment).
    ⊎_elim (λ (lt : t.0 < u.0). absurd (false≢true (sym e ∙ earlier_from t u (inr (omega arith, lt)))))
    (λ (ge' : u.0 ≤ t.0). inr (omega arith, ge'))
    (cases_lt t.0 u.0))
    (cases_lt t.1.moment u.1.moment))
    (cases_lt u.1.moment t.1.moment)

-- ---- the earliest

-- it is among them, and none comes before it
pub record IsEarliest (ts : List Armed) (t : Armed) : Type 0 where
  pub member : has ts t.1.moment t.0 ≡ true
  pub first : (m k : ℕ) → has ts m k ≡ true → NotAfter t.1.moment t.0 m k

alone : (t : Armed) → IsEarliest (t ∷ []) t
alone t =
    record {
      member = or_left (is_at t.1.moment t.0 t) false (is_it t);
      first = λ m k h. ⊎_elim (λ (e : is_at m k t ≡ true). NotAfter-here t m k e) (λ (e : false ≡ true). absurd (false≢true e)) (or_cases (is_at m k t) false h);
    }

comes_first : (t w : Armed) (ts : List Armed) → IsEarliest ts w → is_earlier w t ≡ true → IsEarliest (t ∷ ts) w
comes_first t w ts of_ts e =
    record {
      member = or_right (is_at w.1.moment w.0 t) (has ts w.1.moment w.0) of_ts.member;
      first =
          λ m k h.
          ⊎_elim (λ (at : is_at m k t ≡ true). NotAfter-trans w.1.moment w.0 t.1.moment t.0 m k (earlier_is w t e) (NotAfter-here t m k at)) (λ (in_rest : has ts m k ≡ true). of_ts.first m k in_rest)
          (or_cases (is_at m k t) (has ts m k) h);
    }

stays_first : (t w : Armed) (ts : List Armed) → IsEarliest ts w → is_earlier w t ≡ false → IsEarliest (t ∷ ts) t
stays_first t w ts of_ts e =
    record {
      member = or_left (is_at t.1.moment t.0 t) (has ts t.1.moment t.0) (is_it t);
      first =
          λ m k h.
          ⊎_elim (λ (at : is_at m k t ≡ true). NotAfter-here t m k at)
          (λ (in_rest : has ts m k ≡ true). NotAfter-trans t.1.moment t.0 w.1.moment w.0 m k (not_earlier w t e) (of_ts.first m k in_rest))
          (or_cases (is_at m k t) (has ts m k) h);
    }

abbrev Has-earliest : List Armed → Type 0
Has-earliest ts = (w : Armed) × (earliest ts ≡ Some w) × IsEarliest ts w

pub earliest_is : (t : Armed) (ts : List Armed) → Has-earliest (t ∷ ts)
unfolding earliest
earliest_is t [] = (t, refl, alone t)
earliest_is t (u ∷ us) =
    let r = earliest_is u us in
    let step : earliest (t ∷ u ∷ us) ≡ Some (earlier_of t (Some r.0)) = ap (λ o. Some (earlier_of t o)) r.1 in
    elim (is_earlier r.0 t) as (λ b. is_earlier r.0 t ≡ b → Has-earliest (t ∷ u ∷ us)) [
      | true ↦ λ e. (r.0, step ∙ ap (λ b. Some (cond b r.0 t)) e, comes_first t r.0 (u ∷ us) r.2 e)
      | false ↦ λ e. (t, step ∙ ap (λ b. Some (cond b r.0 t)) e, stays_first t r.0 (u ∷ us) r.2 e)
    ] refl

pub none_is_earliest : (ts : List Armed) → ((m k : ℕ) → has ts m k ≡ false) → earliest ts ≡ None
unfolding earliest
none_is_earliest [] none = refl
none_is_earliest (t ∷ ts) none = absurd (false≢true (sym (none t.1.moment t.0) ∙ or_left (is_at t.1.moment t.0 t) (has ts t.1.moment t.0) (is_it t)))

-- ---- the least moment is that of the earliest

earlier_moment : (t u : Armed) → (cond (is_earlier u t) u t).1.moment ≡ min t.1.moment u.1.moment
earlier_moment t u =
    elim (is_earlier u t) as (λ b. is_earlier u t ≡ b → (cond b u t).1.moment ≡ min t.1.moment u.1.moment) [
      | true ↦ λ e. let le : u.1.moment ≤ t.1.moment = not_above u t (earlier_is u t e) in sym (min-eq_right le)
      | false ↦ λ e. let le : t.1.moment ≤ u.1.moment = not_above t u (not_earlier u t e) in sym (min-eq_left le)
    ] refl
  where
    not_above : (a b : Armed) → NotAfter a.1.moment a.0 b.1.moment b.0 → a.1.moment ≤ b.1.moment
    not_above a b h = ⊎_elim (λ (lt : a.1.moment < b.1.moment). omega arith) (λ (w : (a.1.moment ≡ b.1.moment) × (a.0 ≤ b.0)). omega arith) h

moment_of_both : (t : Armed) (o : Option Armed) → option_map_or (λ n. min t.1.moment n) (option_map (λ u. u.1.moment) o) t.1.moment ≡ (earlier_of t o).1.moment
moment_of_both t None = refl
moment_of_both t (Some u) = sym (earlier_moment t u)

pub least_moment : (ts : List Armed) → least (map (λ t. t.1.moment) ts) ≡ option_map (λ t. t.1.moment) (earliest ts)
unfolding least earliest
least_moment [] = refl
least_moment (t ∷ ts) = ap (λ o. Some (option_map_or (λ n. min t.1.moment n) o t.1.moment)) (least_moment ts) ∙ ap Some (moment_of_both t (earliest ts))

-- ---- those that pass

kept : (g b q r : Bool) → (b ≡ true → q ≡ g) → cond g (b || (q && r)) (q && r) ≡ (q && (b || r))
kept true true q r h = sym (and_true q true (h refl) refl)
kept true false q r h = refl
kept false true q r h = ap (λ x. x && r) (h refl) ∙ sym (ap (λ x. x && true) (h refl))
kept false false q r h = refl

has-cond : (b : Bool) (t : Armed) (ts : List Armed) (m k : ℕ) → has (cond b (t ∷ ts) ts) m k ≡ cond b (is_at m k t || has ts m k) (has ts m k)
has-cond true t ts m k = refl
has-cond false t ts m k = refl

-- a test that tells by moment and address
pub has-filter : (g : Armed → Bool) (q : ℕ → ℕ → Bool) (ts : List Armed) (m k : ℕ) → ((t : Armed) → g t ≡ q t.1.moment t.0) → has (filter g ts) m k ≡ (q m k && has ts m k)
has-filter g q [] m k by = nothing (q m k)
  where
    nothing : (b : Bool) → false ≡ (b && false)
    nothing true = refl
    nothing false = refl
has-filter g q (t ∷ ts) m k by =
    has-cond (g t) t (filter g ts) m k
    ∙ ap (λ r. cond (g t) (is_at m k t || r) r) (has-filter g q ts m k by)
    ∙ kept (g t) (is_at m k t) (q m k) (has ts m k)
    (λ e. let w = same_at t m k e in ap (λ n. q n k) (sym w.0) ∙ ap (q t.1.moment) w.1 ∙ sym (by t))

pub filter-map : {A B : Type 0} (p : B → Bool) (f : A → B) (xs : List A) → filter p (map f xs) ≡ map f (filter (λ x. p (f x)) xs)
filter-map p f [] = refl
filter-map p f (x ∷ xs) =
    elim (p (f x)) as (λ b. cond b (f x ∷ filter p (map f xs)) (filter p (map f xs)) ≡ map f (cond b (x ∷ filter (λ y. p (f y)) xs) (filter (λ y. p (f y)) xs))) [
      | true ↦ ap (λ ys. f x ∷ ys) (filter-map p f xs)
      | false ↦ filter-map p f xs
    ]
