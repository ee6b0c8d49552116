-- What the laws of what lives rest on.
use Rattle.std.proofs.Common.{◌≡◌, ◌≢◌, ◌⊎◌, inl, inr, ℕ, ◌+◌, ◌-◌, ◌*◌, ◌/◌, ◌%◌, ◌<◌, ◌≤◌, Bool, true, false, ◌&&◌, not, Option, None, Some, is_some, refl, sym, ap, subst, ◌∙◌, arith, ⊎_elim, eqb, leb, ltb, eq-eqb, ltb-true}
use Rattle.std.proofs.lemmas.Bool.{false≢true, cases_lt, cases_eq, leb-true, le-leb, lt-ltb}
use Rattle.std.specs.Option.{option_map}
use Rattle.nd_mem.specs.Space.{address}
use Rattle.guest_map.specs.declared.regions.Region.{Region}
use Rattle.guest_map.specs.Regions.{region, end_of, lies_in, AreApart, IsInside}
use Rattle.guest_map.specs.Regions as guest
use Rattle.packet_pool.specs.declared.states.Kind.{Kind}
use Rattle.packet_pool.specs.declared.states.Kind.TheVariants.{Packet, Buffer}
use Rattle.packet_pool.specs.declared.states.Pool.{Pool}
use Rattle.packet_pool.specs.declared.states.Descriptor.{Descriptor}
use Rattle.packet_pool.specs.LiveSet.{LiveSet, pool_of, descriptor_at, descriptor_size, pool_range, is_free, units, unit_address, first_free, place_of, is_lent, is_of_kind, has_out}
use Rattle.packet_pool.specs.LiveMoves.{LiveMove, MakePool, FreePool, Allocate, Free, Lend, Unlend, MakeBlock, FreeBlock, may, after, marked, with_pool, new_handle}
use Rattle.packet_pool.specs.KeptLive.{Owner, PoolOf, range_of, AreDisjoint, IsSound}
use Rattle.packet_pool.specs.Laws.{Reached, Start, Then, descriptor_range, IsInPool}
use Rattle.packet_pool.proofs.Changed.{none_some, both_true, true_or_false, any_of}
use Rattle.packet_pool.proofs.Places.{IsFreeAt, free_tells, free_if, IsFirst, first_tells, none_tells}
use Rattle.packet_pool.proofs.Sound.{sound_start, sound_move, may_pool}
use Rattle.packet_pool.proofs.KeptRow.{same_pool}

pub sound : (s : LiveSet) → Reached s → IsSound s
sound s Start = sound_start
sound s (Then before m reached can) = sound_move before m (sound before reached) can

-- ---- addresses of two ranges

lies : (r : Region) (a : ℕ) → lies_in r a ≡ true → (r.first.0 ≤ a) × (a < end_of r)
lies r a h = let e = both_true (leb r.first.0 a) (ltb a (end_of r)) h in (leb-true r.first.0 a e.0, ltb-true a (end_of r) e.1)

pub apart_of : (r t : Region) → AreDisjoint r t → AreApart r t
apart_of r t h a in_r =
    let e = lies r a in_r in
    let low = e.0 in
    let high = e.1 in
    ⊎_elim (λ in_t. let f = lies t a in_t in let low_t = f.0 in let high_t = f.1 in absurd (⊎_elim (λ le. omega (arith, le, high, low_t)) (λ le. omega (arith, le, high_t, low)) h)) (λ no. no) (true_or_false (lies_in t a))

lies_at : (r : Region) (a : ℕ) → r.first.0 ≤ a → a < end_of r → lies_in r a ≡ true
lies_at r a from to = ap (λ b. b && ltb a (end_of r)) (le-leb r.first.0 a from) ∙ lt-ltb a (end_of r) to

-- two ranges with some bytes that share no address: else the greater first address is one of both
pub disjoint_of : (r t : Region) → r.first.0 < end_of r → t.first.0 < end_of t → AreApart r t → AreDisjoint r t
disjoint_of r t some_r some_t apart =
    ⊎_elim (λ less. ⊎_elim (λ more.
    absurd (⊎_elim (λ before. false≢true (sym (apart t.first.0 (lies_at r t.first.0 (omega arith) more)) ∙ lies_at t t.first.0 (omega arith) some_t))
    (λ behind. false≢true (sym (apart r.first.0 (lies_at r r.first.0 (omega arith) some_r)) ∙ lies_at t r.first.0 behind less)) (cases_lt r.first.0 t.first.0)))
    (λ le. inl le) (cases_lt t.first.0 (end_of r)))
    (λ le. inr le) (cases_lt r.first.0 (end_of t))

-- ---- descriptors

stands_in : (kind : Kind) (first count number : ℕ) → number < count → (first ≤ first + number * descriptor_size kind) × (first + number * descriptor_size kind + descriptor_size kind ≤ first + count * descriptor_size kind)
stands_in Packet first count number less = (omega arith, omega arith)
stands_in Buffer first count number less = (omega arith, omega arith)

apart_in : (kind : Kind) (first number other : ℕ) → first + number * descriptor_size kind ≢ first + other * descriptor_size kind → (first + number * descriptor_size kind + descriptor_size kind ≤ first + other * descriptor_size kind) ⊎ (first + other * descriptor_size kind + descriptor_size kind ≤ first + number * descriptor_size kind)
apart_in Packet first number other ne = ⊎_elim (λ less. inl (omega arith)) (λ ge. ⊎_elim (λ less. inr (omega arith)) (λ le. let e : number ≡ other = omega arith in absurd (ne (ap (λ (k : ℕ). first + k * 128) e))) (cases_lt other number)) (cases_lt number other)
apart_in Buffer first number other ne = ⊎_elim (λ less. inl (omega arith)) (λ ge. ⊎_elim (λ less. inr (omega arith)) (λ le. let e : number ≡ other = omega arith in absurd (ne (ap (λ (k : ℕ). first + k * 32) e))) (cases_lt other number)) (cases_lt number other)

module _ (s : LiveSet) (is : IsSound s) where
  pub lies_in_pool : (a : ℕ) (d : Descriptor) → descriptor_at s a ≡ Some d → IsInPool s a d
  lies_in_pool a d found =
      let w = is.descriptors a d found in
      let e = stands_in w.pool.kind w.pool.first.0 w.pool.count w.number w.less in
      let at = w.at in
      let size : descriptor_size d.kind ≡ descriptor_size w.pool.kind = ap descriptor_size w.kind in
      let low = e.0 in
      let high = e.1 in
      record { pool = w.pool; found = w.found; same = w.kind; inside = record { from = omega (arith, at, low); to = omega (arith, at, size, high) } }

  pub apart_descriptors : (a b : ℕ) (d e : Descriptor) → descriptor_at s a ≡ Some d → descriptor_at s b ≡ Some e → a ≢ b → AreDisjoint (descriptor_range a d) (descriptor_range b e)
  apart_descriptors a b d e found found' ne =
      let w = is.descriptors a d found in
      let v = is.descriptors b e found' in
      ⊎_elim (λ (same : d.pool ≡ e.pool).
      let pools : w.pool ≡ v.pool = same_in w.pool v.pool (sym w.found ∙ ap (pool_of s) same ∙ v.found) in
      let at_b : b ≡ place_of w.pool v.number = v.at ∙ ap (λ (p : Pool). place_of p v.number) (sym pools) in
      let at_a = w.at in
      let size_d : descriptor_size d.kind ≡ descriptor_size w.pool.kind = ap descriptor_size w.kind in
      let size_e : descriptor_size e.kind ≡ descriptor_size w.pool.kind = ap descriptor_size (v.kind ∙ ap (λ (p : Pool). p.kind) (sym pools)) in
      ⊎_elim (λ le. inl (omega (arith, le, at_a, at_b, size_d))) (λ le. inr (omega (arith, le, at_a, at_b, size_e)))
      (apart_in w.pool.kind w.pool.first.0 w.number v.number (λ same_place. ne (at_a ∙ same_place ∙ sym at_b))))
      (λ other.
      let in_a = (lies_in_pool a d found).inside in
      let in_b = (lies_in_pool b e found').inside in
      let from_a = in_a.from in let to_a = in_a.to in let from_b = in_b.from in let to_b = in_b.to in
      ⊎_elim (λ le. inl (omega (arith, le, to_a, from_b))) (λ le. inr (omega (arith, le, to_b, from_a)))
      (is.apart (PoolOf d.pool) (PoolOf e.pool) (pool_range (lies_in_pool a d found).pool) (pool_range (lies_in_pool b e found').pool) (ap (option_map pool_range) (lies_in_pool a d found).found) (ap (option_map pool_range) (lies_in_pool b e found').found) (λ same. other (pool_in same))))
      (cases_eq d.pool e.pool)
    where
      same_in : (p q : Pool) → Some p ≡ Some q → p ≡ q
      same_in p q h = cc

      pool_in : {x y : ℕ} → PoolOf x ≡ PoolOf y → x ≡ y
      pool_in h = cc

-- ---- handles

pub handles_rise : (s : LiveSet) (m : LiveMove) → new_handle s ≤ new_handle (after s m)
handles_rise s (MakePool kind n) = by_room (first_free s (n * descriptor_size kind))
  where
    by_room : (o : Option ℕ) → new_handle s ≤ new_handle (with_pool s kind n o)
    by_room None = omega arith
    by_room (Some first) = omega arith
handles_rise s (FreePool handle) = omega arith
handles_rise s (Allocate kind handle a) = omega arith
handles_rise s (Free kind a) = omega arith
handles_rise s (Lend a) = by_found true (descriptor_at s a)
  where
    by_found : (lent : Bool) (o : Option Descriptor) → new_handle s ≤ new_handle (marked s a lent o)
    by_found lent None = omega arith
    by_found lent (Some d) = omega arith
handles_rise s (Unlend a) = by_found false (descriptor_at s a)
  where
    by_found : (lent : Bool) (o : Option Descriptor) → new_handle s ≤ new_handle (marked s a lent o)
    by_found lent None = omega arith
    by_found lent (Some d) = omega arith
handles_rise s (MakeBlock length a) = omega arith
handles_rise s (FreeBlock a) = omega arith

pub handle_next : (s : LiveSet) (kind : Kind) (n : ℕ) → may s (MakePool kind n) ≡ true → new_handle (after s (MakePool kind n)) ≡ new_handle s + 1
handle_next s kind n can = let w = may_pool s kind n can in ap (λ (o : Option ℕ). new_handle (with_pool s kind n o)) w.room ∙ (let e : new_handle (with_pool s kind n (Some w.first)) ≡ new_handle s + 1 = omega arith in e)

-- ---- what is not freed

pub lent_stays : (s : LiveSet) (kind : Kind) (a : ℕ) → is_lent s a ≡ true → may s (Free kind a) ≡ false
lent_stays s kind a lent = ap (λ b. is_of_kind kind (descriptor_at s a) && not b) lent ∙ and_false (is_of_kind kind (descriptor_at s a))
  where
    and_false : (b : Bool) → (b && false) ≡ false
    and_false true = refl
    and_false false = refl

pub out_stays : (s : LiveSet) (a : ℕ) (d : Descriptor) → descriptor_at s a ≡ Some d → may s (FreePool d.pool) ≡ false
out_stays s a d found = ap (λ b. is_some (pool_of s d.pool) && not b) (any_of (λ (x : Descriptor). eqb x.pool d.pool) s.descriptors a d found (eq-eqb d.pool d.pool refl)) ∙ and_false (is_some (pool_of s d.pool))
  where
    and_false : (b : Bool) → (b && false) ≡ false
    and_false true = refl
    and_false false = refl

-- ---- free ranges

pub free_where : (s : LiveSet) (r : Region) → IsSound s → r.first.0 < end_of r → IsInside r guest.pool → r.first.0 % 16 ≡ 0 → ((o : Owner) (t : Region) → range_of s o ≡ Some t → AreApart r t) → is_free s r ≡ true
free_where s r is some inside at apart = free_if s r (record { at = at; from = inside.from; to = inside.to; apart = λ o t found. disjoint_of r t some (is.placed o t found).some (apart o t found) })

pub first_is_free : (s : LiveSet) (length a : ℕ) → first_free s length ≡ Some a → is_free s (region a length) ≡ true
first_is_free s length a found = let w = first_tells s length a found in ap (λ (x : ℕ). is_free s (region x length)) w.at ∙ w.free

-- a free range begins at a unit
unit_of : (s : LiveSet) (length a : ℕ) → is_free s (region a length) ≡ true → (unit : ℕ) × (a ≡ unit_address unit) × (unit_address unit + length ≤ 0x81800000)
unit_of s length a free = let w = free_tells s (region a length) free in let at = w.at in let from = w.from in let to = w.to in ((a - 0x81000000) / 16, omega (arith, at, from), omega (arith, at, from, to))

pub none_before : (s : LiveSet) (length a b : ℕ) → first_free s length ≡ Some a → b < a → is_free s (region b length) ≡ false
none_before s length a b found less =
    ⊎_elim (λ free.
    let w = first_tells s length a found in
    let u = unit_of s length b free in
    let at = w.at in
    let unit = u.1 in
    let no = w.first u.0 (omega arith) (omega (arith, at, unit, less)) in
    absurd (false≢true (sym no ∙ ap (λ (x : ℕ). is_free s (region x length)) (sym unit) ∙ free)))
    (λ no. no) (true_or_false (is_free s (region b length)))

pub none_at_all : (s : LiveSet) (length a : ℕ) → 1 ≤ length → first_free s length ≡ None → is_free s (region a length) ≡ false
none_at_all s length a some none =
    ⊎_elim (λ free.
    let u = unit_of s length a free in
    let unit = u.1 in
    let inside = u.2 in
    let no = none_tells s length none u.0 (omega (arith, inside, some)) in
    absurd (false≢true (sym no ∙ ap (λ (x : ℕ). is_free s (region x length)) (sym unit) ∙ free)))
    (λ no. no) (true_or_false (is_free s (region a length)))
