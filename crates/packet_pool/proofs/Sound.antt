-- What is true of all that lives stays so with each move.
use Rattle.std.proofs.Common.{◌≡◌, ◌≢◌, ◌⊎◌, inl, inr, ℕ, zero, suc, ◌+◌, ◌-◌, ◌*◌, ◌/◌, ◌%◌, ◌<◌, ◌≤◌, max, Bool, true, false, ◌||◌, ◌&&◌, not, cond, eqb, leb, ltb, Option, None, Some, is_some, refl, sym, ap, subst, ◌∙◌, arith, ⊎_elim, eqb-true, eq-eqb, ltb-true}
use Rattle.std.proofs.lemmas.Bool.{false≢true, cases_lt, leb-true, le-leb}
use Rattle.std.specs.Option.{option_map}
use Rattle.std.specs.List.{list_any}
use Rattle.std.specs.Ordering.{nat_cmp}
use Rattle.std.specs.FinMap as table
use Rattle.nd_mem.specs.Space.{address}
use Rattle.guest_map.specs.declared.regions.Region.{Region}
use Rattle.guest_map.specs.Regions.{region, end_of}
use Rattle.guest_map.specs.Handles.{pool_handle}
use Rattle.packet_pool.specs.declared.states.Kind.{Kind}
use Rattle.packet_pool.specs.declared.states.Kind.TheVariants.{Packet, Buffer}
use Rattle.packet_pool.specs.declared.states.Pool.{Pool}
use Rattle.packet_pool.specs.declared.states.Descriptor.{Descriptor}
use Rattle.packet_pool.specs.LiveSet.{LiveSet, nothing, block_at, pool_of, descriptor_at, is_same, block_range, descriptor_size, pool_range, is_free, unit_address, first_free, place_of, is_of_kind, is_out, has_out, is_place_in}
use Rattle.packet_pool.specs.LiveMoves.{LiveMove, MakePool, FreePool, Allocate, Free, Lend, Unlend, MakeBlock, FreeBlock, most_descriptors, most_pools, is_count, new_handle, pool_room, with_pool, is_pool_of, is_place_of_pool, with_descriptor, marked, may, after}
use Rattle.packet_pool.specs.KeptLive.{Owner, BlockAt, PoolOf, range_of, IsPlaced, AreDisjoint, IsKnown, IsOfPool, IsSound}
use Rattle.packet_pool.proofs.Changed.{same_some, none_some, mapped_from, is_some_of, some_of, both_true, not_true, inserted, removed, insert_here, insert_other, remove_other, any_of}
use Rattle.packet_pool.proofs.Places.{IsFreeAt, free_tells, IsFirst, first_tells}

-- ---- kinds

pub same_kind : (k l : Kind) → is_same k l ≡ true → k ≡ l
same_kind Packet Packet h = refl
same_kind Packet Buffer h = absurd (false≢true h)
same_kind Buffer Packet h = absurd (false≢true h)
same_kind Buffer Buffer h = refl

pub is_same_self : (k : Kind) → is_same k k ≡ true
is_same_self Packet = refl
is_same_self Buffer = refl

-- ---- a range more, or some less

pub placed_of : (s : LiveSet) (r : Region) → IsFreeAt s r → r.first.0 < end_of r → IsPlaced r
placed_of s r is some =
    let at = is.at in
    let from = is.from in
    record { unit = (r.first.0 - 0x81000000) / 16; at = omega (arith, at, from); some = some; inside = is.to }

flipped : (r t : Region) → AreDisjoint r t → AreDisjoint t r
flipped r t h = ⊎_elim (λ le. inr le) (λ le. inl le) h

module _ (s s' : LiveSet) (o : Owner) (r : Region) (sound : IsSound s) (news : (q : Owner) (t : Region) → range_of s' q ≡ Some t → ((q ≡ o) × (t ≡ r)) ⊎ (range_of s q ≡ Some t)) (placed : IsPlaced r) (apart : (q : Owner) (t : Region) → range_of s q ≡ Some t → AreDisjoint r t) where
  pub more_placed : (q : Owner) (t : Region) → range_of s' q ≡ Some t → IsPlaced t
  more_placed q t is = ⊎_elim (λ new. subst IsPlaced (sym new.1) placed) (λ old. sound.placed q t old) (news q t is)

  pub more_apart : (p q : Owner) (t u : Region) → range_of s' p ≡ Some t → range_of s' q ≡ Some u → p ≢ q → AreDisjoint t u
  more_apart p q t u is_t is_u ne =
      ⊎_elim (λ new. ⊎_elim (λ also. absurd (ne (new.0 ∙ sym also.0))) (λ old. subst (λ (x : Region). AreDisjoint x u) (sym new.1) (apart q u old)) (news q u is_u))
      (λ old. ⊎_elim (λ new. subst (AreDisjoint t) (sym new.1) (flipped r t (apart p t old))) (λ older. sound.apart p q t u old older ne) (news q u is_u)) (news p t is_t)

-- ---- blocks

pub block_news : (s : LiveSet) (a length : ℕ) (q : Owner) (t : Region) → range_of (after s (MakeBlock length a)) q ≡ Some t → ((q ≡ BlockAt a) × (t ≡ block_range a length)) ⊎ (range_of s q ≡ Some t)
block_news s a length (BlockAt b) t is =
    let w = mapped_from (block_range b) (block_at (after s (MakeBlock length a)) b) t is in
    ⊎_elim (λ new. inl (ap BlockAt new.0, sym w.2 ∙ ap (block_range b) new.1 ∙ ap (λ (c : ℕ). block_range c length) new.0)) (λ old. inr (ap (option_map (block_range b)) old.1 ∙ ap Some w.2)) (inserted s.blocks a length b w.0 w.1)
block_news s a length (PoolOf handle) t is = inr is

pub sound_block : (s : LiveSet) (a length : ℕ) → IsSound s → is_free s (block_range a length) ≡ true → IsSound (after s (MakeBlock length a))
sound_block s a length sound free =
    let is = free_tells s (block_range a length) free in
    let placed = placed_of s (block_range a length) is (omega arith) in
    record {
      placed = more_placed s (after s (MakeBlock length a)) (BlockAt a) (block_range a length) sound (block_news s a length) placed is.apart;
      apart = more_apart s (after s (MakeBlock length a)) (BlockAt a) (block_range a length) sound (block_news s a length) placed is.apart;
      known = λ handle p found. let k = sound.known handle p found in record { old = k.old; some = k.some; few = k.few };
      descriptors = λ b d found. let w = sound.descriptors b d found in record { pool = w.pool; found = w.found; kind = w.kind; number = w.number; less = w.less; at = w.at };
      few = sound.few;
    }

pub block_olds : (s : LiveSet) (a : ℕ) (q : Owner) (t : Region) → range_of (after s (FreeBlock a)) q ≡ Some t → (q ≢ BlockAt a) × (range_of s q ≡ Some t)
block_olds s a (BlockAt b) t is =
    let w = mapped_from (block_range b) (block_at (after s (FreeBlock a)) b) t is in
    let old = removed s.blocks a b w.0 w.1 in
    (λ e. old.0 (block_of e), ap (option_map (block_range b)) old.1 ∙ ap Some w.2)
  where
    block_of : {x y : ℕ} → BlockAt x ≡ BlockAt y → x ≡ y
    block_of e = cc
block_olds s a (PoolOf handle) t is = (λ e. cc, is)

pub sound_free_block : (s : LiveSet) (a : ℕ) → IsSound s → IsSound (after s (FreeBlock a))
sound_free_block s a sound = record {
  placed = λ q t is. sound.placed q t (block_olds s a q t is).1;
  apart = λ p q t u is_t is_u ne. sound.apart p q t u (block_olds s a p t is_t).1 (block_olds s a q u is_u).1 ne;
  known = λ handle p found. let k = sound.known handle p found in record { old = k.old; some = k.some; few = k.few };
  descriptors = λ b d found. let w = sound.descriptors b d found in record { pool = w.pool; found = w.found; kind = w.kind; number = w.number; less = w.less; at = w.at };
  few = sound.few;
}

-- ---- pools

abbrev pub new_pool : Kind → ℕ → ℕ → Pool
new_pool kind n first = record { kind = kind; first = address first; count = n }

abbrev pub pooled : LiveSet → Kind → ℕ → ℕ → LiveSet
pooled s kind n first = with_pool s kind n (Some first)

pub pool_news : (s : LiveSet) (kind : Kind) (n first : ℕ) (q : Owner) (t : Region) → range_of (pooled s kind n first) q ≡ Some t → ((q ≡ PoolOf (new_handle s)) × (t ≡ pool_range (new_pool kind n first))) ⊎ (range_of s q ≡ Some t)
pool_news s kind n first (BlockAt b) t is = inr is
pool_news s kind n first (PoolOf handle) t is =
    let w = mapped_from pool_range (pool_of (pooled s kind n first) handle) t is in
    ⊎_elim (λ new. inl (ap PoolOf new.0, sym w.2 ∙ ap pool_range new.1)) (λ old. inr (ap (option_map pool_range) old.1 ∙ ap Some w.2)) (inserted s.pools (new_handle s) (new_pool kind n first) handle w.0 w.1)

-- a handle that is next is that of no pool
pub is_new : (s : LiveSet) (handle : ℕ) (p : Pool) → IsSound s → pool_of s handle ≡ Some p → handle ≢ new_handle s
is_new s handle p sound found = let old = (sound.known handle p found).old in λ e. omega (arith, old, e)

pub some_size : (kind : Kind) (n : ℕ) → 1 ≤ n → 1 ≤ n * descriptor_size kind
some_size Packet n some = omega arith
some_size Buffer n some = omega arith

pub count_tells : (n : ℕ) → is_count n ≡ true → (1 ≤ n) × (n ≤ 4096)
count_tells n h = let e = both_true (leb 1 n) (leb n 4096) h in (leb-true 1 n e.0, leb-true n 4096 e.1)

pub sound_pool : (s : LiveSet) (kind : Kind) (n first : ℕ) → IsSound s → is_count n ≡ true → s.made < most_pools → is_free s (region first (n * descriptor_size kind)) ≡ true → IsSound (pooled s kind n first)
sound_pool s kind n first sound count few free =
    let is = free_tells s (region first (n * descriptor_size kind)) free in
    let counts = count_tells n count in
    let size = some_size kind n counts.0 in
    let placed = placed_of s (region first (n * descriptor_size kind)) is (omega (arith, size)) in
    record {
      placed = more_placed s (pooled s kind n first) (PoolOf (new_handle s)) (pool_range (new_pool kind n first)) sound (pool_news s kind n first) placed is.apart;
      apart = more_apart s (pooled s kind n first) (PoolOf (new_handle s)) (pool_range (new_pool kind n first)) sound (pool_news s kind n first) placed is.apart;
      known = λ handle p found. ⊎_elim (λ new. let same = new.0 in record { old = omega (arith, same); some = subst (λ (x : Pool). 1 ≤ x.count) (sym new.1) counts.0; few = subst (λ (x : Pool). x.count ≤ 4096) (sym new.1) counts.1 })
          (λ old. let k = sound.known handle p old.1 in let less = k.old in record { old = omega (arith, less); some = k.some; few = k.few }) (inserted s.pools (new_handle s) (new_pool kind n first) handle p found);
      descriptors = λ b d found. let w = sound.descriptors b d found in record { pool = w.pool; found = insert_other s.pools (new_handle s) (new_pool kind n first) d.pool (is_new s d.pool w.pool sound w.found) ∙ w.found; kind = w.kind; number = w.number; less = w.less; at = w.at };
      few = omega (arith, few);
    }

pub pool_olds : (s : LiveSet) (handle : ℕ) (q : Owner) (t : Region) → range_of (after s (FreePool handle)) q ≡ Some t → (q ≢ PoolOf handle) × (range_of s q ≡ Some t)
pool_olds s handle (BlockAt b) t is = (λ e. cc, is)
pool_olds s handle (PoolOf other) t is =
    let w = mapped_from pool_range (pool_of (after s (FreePool handle)) other) t is in
    let old = removed s.pools handle other w.0 w.1 in
    (λ e. old.0 (pool_in e), ap (option_map pool_range) old.1 ∙ ap Some w.2)
  where
    pool_in : {x y : ℕ} → PoolOf x ≡ PoolOf y → x ≡ y
    pool_in e = cc

-- a descriptor that is out is of another pool than one that has none out
pub of_other : (s : LiveSet) (handle a : ℕ) (d : Descriptor) → has_out s handle ≡ false → descriptor_at s a ≡ Some d → d.pool ≢ handle
of_other s handle a d none found e = false≢true (sym none ∙ any_of (λ (x : Descriptor). eqb x.pool handle) s.descriptors a d found (eq-eqb d.pool handle e))

pub sound_free_pool : (s : LiveSet) (handle : ℕ) → IsSound s → has_out s handle ≡ false → IsSound (after s (FreePool handle))
sound_free_pool s handle sound none = record {
  placed = λ q t is. sound.placed q t (pool_olds s handle q t is).1;
  apart = λ p q t u is_t is_u ne. sound.apart p q t u (pool_olds s handle p t is_t).1 (pool_olds s handle q u is_u).1 ne;
  known = λ other p found. let k = sound.known other p (removed s.pools handle other p found).1 in record { old = k.old; some = k.some; few = k.few };
  descriptors = λ b d found. let w = sound.descriptors b d found in record { pool = w.pool; found = remove_other s.pools handle d.pool (of_other s handle b d none found) ∙ w.found; kind = w.kind; number = w.number; less = w.less; at = w.at };
  few = sound.few;
}

-- ---- descriptors

pub with_descriptors : (s : LiveSet) (ds : table.FinMap nat_cmp Descriptor) → IsSound s → ((a : ℕ) (d : Descriptor) → table.get ds a ≡ Some d → IsOfPool s a d) → IsSound (record s { descriptors = ds })
with_descriptors s ds sound each = record {
  placed = sound.placed;
  apart = sound.apart;
  known = λ handle p found. let k = sound.known handle p found in record { old = k.old; some = k.some; few = k.few };
  descriptors = λ b d found. let w = each b d found in record { pool = w.pool; found = w.found; kind = w.kind; number = w.number; less = w.less; at = w.at };
  few = sound.few;
}

-- the number of the descriptor that stands at such an address
pub number_at : Pool → ℕ → ℕ
number_at p a = (a - p.first.0) / descriptor_size p.kind

pub record IsNumber (p : Pool) (a number : ℕ) : Type 0 where
  pub less : number < p.count
  pub at : a ≡ place_of p number

place_number : (kind : Kind) (first count a : ℕ) → first ≤ a → a < first + count * descriptor_size kind → (a - first) % descriptor_size kind ≡ 0 → ((a - first) / descriptor_size kind < count) × (a ≡ first + (a - first) / descriptor_size kind * descriptor_size kind)
place_number Packet first count a from to whole = (omega (arith, from, to, whole), omega (arith, from, whole))
place_number Buffer first count a from to whole = (omega (arith, from, to, whole), omega (arith, from, whole))

pub place_tells : (p : Pool) (a : ℕ) → is_place_in p a ≡ true → IsNumber p a (number_at p a)
unfolding number_at
place_tells p a h =
    let from = both_true (leb p.first.0 a) (ltb a (end_of (pool_range p)) && eqb ((a - p.first.0) % descriptor_size p.kind) 0) h in
    let rest = both_true (ltb a (end_of (pool_range p))) (eqb ((a - p.first.0) % descriptor_size p.kind) 0) from.1 in
    let w = place_number p.kind p.first.0 p.count a (leb-true p.first.0 a from.0) (ltb-true a (end_of (pool_range p)) rest.0) (eqb-true ((a - p.first.0) % descriptor_size p.kind) 0 rest.1) in
    record { less = w.0; at = w.1 }

-- a pool of the kind that is asked for
pub pool_tells : (kind : Kind) (found : Option Pool) → is_pool_of kind found ≡ true → (p : Pool) × (found ≡ Some p) × (p.kind ≡ kind)
pool_tells kind None h = absurd (false≢true h)
pool_tells kind (Some p) h = (p, refl, same_kind p.kind kind h)

pub sound_allocate : (s : LiveSet) (kind : Kind) (handle a : ℕ) (p : Pool) → IsSound s → pool_of s handle ≡ Some p → p.kind ≡ kind → (number : ℕ) → number < p.count → a ≡ place_of p number → IsSound (after s (Allocate kind handle a))
sound_allocate s kind handle a p sound found same number less at =
    with_descriptors s (table.insert s.descriptors a (record { kind = kind; pool = handle; lent = false })) sound
    (λ b d is. ⊎_elim (λ new. record {
      pool = p;
      found = ap (λ (x : Descriptor). pool_of s x.pool) new.1 ∙ found;
      kind = ap (λ (x : Descriptor). x.kind) new.1 ∙ sym same;
      number = number;
      less = less;
      at = new.0 ∙ at;
    })
    (λ old. sound.descriptors b d old.1) (inserted s.descriptors a (record { kind = kind; pool = handle; lent = false }) b d is))

pub sound_free : (s : LiveSet) (kind : Kind) (a : ℕ) → IsSound s → IsSound (after s (Free kind a))
sound_free s kind a sound = with_descriptors s (table.remove s.descriptors a) sound (λ b d is. sound.descriptors b d (removed s.descriptors a b d is).1)

pub sound_marked : (s : LiveSet) (a : ℕ) (lent : Bool) (found : Option Descriptor) → IsSound s → descriptor_at s a ≡ found → IsSound (marked s a lent found)
sound_marked s a lent None sound is = sound
sound_marked s a lent (Some d) sound is =
    with_descriptors s (table.insert s.descriptors a (record d { lent = lent })) sound
    (λ b e at. ⊎_elim (λ new. let w = sound.descriptors a d is in record {
      pool = w.pool;
      found = ap (λ (x : Descriptor). pool_of s x.pool) new.1 ∙ w.found;
      kind = ap (λ (x : Descriptor). x.kind) new.1 ∙ w.kind;
      number = w.number;
      less = w.less;
      at = new.0 ∙ w.at;
    })
    (λ old. sound.descriptors b e old.1) (inserted s.descriptors a (record d { lent = lent }) b e at))

-- ---- each move

pub sound_start : IsSound nothing
sound_start = record {
  placed = λ q r is. absurd (none_there q r is);
  apart = λ p q r t is also ne. absurd (none_there p r is);
  known = λ handle p is. absurd (none_some p (sym (table.get-empty {X = Pool} nat_cmp handle) ∙ is));
  descriptors = λ a d is. absurd (none_some d (sym (table.get-empty {X = Descriptor} nat_cmp a) ∙ is));
  few = omega arith;
}
  where
    none_there : (q : Owner) (r : Region) → range_of nothing q ≡ Some r → ⊥
    none_there (BlockAt a) r is = none_some r (sym (ap (option_map (block_range a)) (table.get-empty {X = ℕ} nat_cmp a)) ∙ is)
    none_there (PoolOf handle) r is = none_some r (sym (ap (option_map pool_range) (table.get-empty {X = Pool} nat_cmp handle)) ∙ is)

-- the range that a new pool takes is free
pub room_tells : (s : LiveSet) (kind : Kind) (n first : ℕ) → pool_room s kind n ≡ Some first → is_free s (region first (n * descriptor_size kind)) ≡ true
room_tells s kind n first found =
    let w = first_tells s (n * descriptor_size kind) first found in
    ap (λ (a : ℕ). is_free s (region a (n * descriptor_size kind))) w.at ∙ w.free

pub record MayPool (s : LiveSet) (kind : Kind) (n : ℕ) : Type 0 where
  pub first : ℕ
  pub room : pool_room s kind n ≡ Some first
  pub count : is_count n ≡ true
  pub few : s.made < most_pools

pub may_pool : (s : LiveSet) (kind : Kind) (n : ℕ) → may s (MakePool kind n) ≡ true → MayPool s kind n
may_pool s kind n h =
    let e = both_true (is_count n) (is_some (pool_room s kind n) && ltb s.made most_pools) h in
    let f = both_true (is_some (pool_room s kind n)) (ltb s.made most_pools) e.1 in
    let w = some_of (pool_room s kind n) f.0 in
    record { first = w.0; room = w.1; count = e.0; few = ltb-true s.made most_pools f.1 }

pub sound_move : (s : LiveSet) (m : LiveMove) → IsSound s → may s m ≡ true → IsSound (after s m)
sound_move s (MakePool kind n) sound h =
    let w = may_pool s kind n h in
    subst (λ (o : Option ℕ). IsSound (with_pool s kind n o)) (sym w.room) (sound_pool s kind n w.first sound w.count w.few (room_tells s kind n w.first w.room))
sound_move s (FreePool handle) sound h = sound_free_pool s handle sound (not_true (has_out s handle) (both_true (is_some (pool_of s handle)) (not (has_out s handle)) h).1)
sound_move s (Allocate kind handle a) sound h =
    let e = both_true (is_pool_of kind (pool_of s handle)) (is_place_of_pool (pool_of s handle) a && not (is_some (descriptor_at s a))) h in
    let f = both_true (is_place_of_pool (pool_of s handle) a) (not (is_some (descriptor_at s a))) e.1 in
    let w = pool_tells kind (pool_of s handle) e.0 in
    let n = place_tells w.0 a (subst (λ (o : Option Pool). is_place_of_pool o a ≡ true) w.1 f.0) in
    sound_allocate s kind handle a w.0 sound w.1 w.2 (number_at w.0 a) n.less n.at
sound_move s (Free kind a) sound h = sound_free s kind a sound
sound_move s (Lend a) sound h = sound_marked s a true (descriptor_at s a) sound refl
sound_move s (Unlend a) sound h = sound_marked s a false (descriptor_at s a) sound refl
sound_move s (MakeBlock length a) sound h = sound_block s a length sound h
sound_move s (FreeBlock a) sound h = sound_free_block s a sound
