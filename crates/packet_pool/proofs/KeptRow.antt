-- Free units, and descriptors that are not out, after each change of what lives.
use Rattle.std.proofs.Common.{◌≡◌, ◌≢◌, ◌⊎◌, inl, inr, ℕ, zero, suc, ◌+◌, ◌-◌, ◌*◌, ◌/◌, ◌%◌, ◌<◌, ◌≤◌, max, Bool, true, false, ◌||◌, ◌&&◌, not, cond, eqb, leb, List, length, get_or, Option, None, Some, is_some, refl, sym, ap, subst, ◌∙◌, arith, ⊎_elim}
use Rattle.std.proofs.lemmas.Bool.{false≢true, cases_lt, cases_eq}
use Rattle.std.specs.Option.{option_map}
use Rattle.std.specs.Ordering.{nat_cmp}
use Rattle.std.specs.BTreeMap.{BTreeMap, Updates}
use Rattle.std.specs.FinMap as table
use Rattle.nd_mem.specs.Space.{address}
use Rattle.guest_map.specs.declared.regions.Region.{Region}
use Rattle.guest_map.specs.Regions.{region, end_of}
use Rattle.free_ranges.specs.Ranges.{IsFree, IsWithin, Fits, IsFit, IsFirstFit, AreInside, AllFree, Takes, Gives, AreTaken}
use Rattle.packet_pool.specs.declared.states.Kind.{Kind}
use Rattle.packet_pool.specs.declared.states.Kind.TheVariants.{Packet, Buffer}
use Rattle.packet_pool.specs.declared.states.Pool.{Pool}
use Rattle.packet_pool.specs.declared.states.Descriptor.{Descriptor}
use Rattle.packet_pool.specs.declared.kept_pools.KeptPool.{KeptPool}
use Rattle.packet_pool.specs.LiveSet.{LiveSet, block_at, pool_of, descriptor_at, block_range, descriptor_size, pool_range, units, unit_address, place_of}
use Rattle.packet_pool.specs.LiveMoves.{LiveMove, MakePool, FreePool, Allocate, Free, MakeBlock, FreeBlock, after, new_handle, with_pool}
use Rattle.packet_pool.specs.KeptLive.{Owner, BlockAt, PoolOf, range_of, IsPlaced, Covers, AreDisjoint, IsOfPool, IsSound, IsRow, IsIdle, unit_count, IsRoom, IsRoomAt}
use Rattle.packet_pool.specs.declared.kept_pools.Idle.{Idle}
use Rattle.packet_pool.specs.KeptPools.{kept_at, IsSized, HasIdle, IsIdleAt, HasNone, HasOut, IsOutAt, GivesPlace, AllIdle, IsWhole, TellsWhole}
use Rattle.packet_pool.proofs.Changed.{same_some, none_some, inserted, removed, insert_here, insert_other, remove_here, remove_other}
use Rattle.packet_pool.proofs.Sound.{block_news, block_olds, new_pool, pooled, pool_news, pool_olds, is_new}

abbrev pub Free_in : List ℕ → ℕ → Type 0
Free_in lengths k = IsFree (λ u. get_or lengths u 0) k

-- ---- what `fit` finds

pub room_found : (lengths : List ℕ) (size count : ℕ) (found : Option ℕ) → 1 ≤ size → length lengths ≡ units → count ≡ unit_count size → IsFit (λ u. get_or lengths u 0) count found → IsFirstFit (λ u. get_or lengths u 0) count found → AreInside lengths → IsRoom lengths size found
room_found lengths size count None some in_row count_is fit first inside = subst (λ (n : ℕ). IsFit (λ u. get_or lengths u 0) n None) count_is fit
room_found lengths size count (Some unit) some in_row count_is fit first inside = record {
  fits = subst (λ (n : ℕ). Fits (λ u. get_or lengths u 0) n unit) count_is fit.0;
  begins = subst (λ (n : ℕ). n ≤ get_or lengths unit 0) count_is fit.1;
  inside = let last = inside (unit + count - 1) (fit.0 (unit + count - 1) (record { from = omega (arith, count_is, some); to = omega (arith, count_is, some) })) in omega (arith, last, in_row, count_is, some);
  first = λ before less fits. first before less (subst (λ (n : ℕ). Fits (λ u. get_or lengths u 0) n before) (sym count_is) fits);
}

pub whole_found : (pools : BTreeMap ℕ KeptPool) (handle : ℕ) (kept : KeptPool) (found : Option ℕ) → kept_at pools handle ≡ Some kept → IsSized kept → IsFit (λ u. get_or kept.idle u 0) kept.pool.count found → AreInside kept.idle → TellsWhole pools handle (is_some found)
whole_found pools handle kept None at sized fit inside = λ other also all.
    let same = same_some other kept (sym also ∙ at) in
    let all_of : AllIdle kept = subst AllIdle same all in
    fit 0 (λ k within. let to = within.to in all_of k (omega arith))
whole_found pools handle kept (Some unit) at sized fit inside = record {
  kept = kept;
  found = at;
  all = λ number less.
      let size = sized.size in
      let last = inside (unit + kept.pool.count - 1) (fit.0 (unit + kept.pool.count - 1) (record { from = omega arith; to = omega arith })) in
      fit.0 number (record { from = omega (arith, last, size); to = omega arith });
}

-- ---- units

-- a unit of the range from a unit on
pub unit_covered : (length unit k : ℕ) → 1 ≤ length → IsWithin unit (unit_count length) k → Covers (region (unit_address unit) length) (unit_address k)
unit_covered length unit k some within = let from = within.from in let to = within.to in record { from = omega (arith, from); to = omega (arith, some, from, to) }

pub covered_unit : (length unit k : ℕ) → 1 ≤ length → Covers (region (unit_address unit) length) (unit_address k) → IsWithin unit (unit_count length) k
covered_unit length unit k some covers = let from = covers.from in let to = covers.to in record { from = omega (arith, from); to = omega (arith, some, from, to) }

module _ (s s' : LiveSet) (before after : List ℕ) (o : Owner) (unit length : ℕ) (some : 1 ≤ length) (row : IsRow s before) where
  abbrev Taken : Region
  Taken = region (unit_address unit) length

  pub row_more : ((q : Owner) (t : Region) → range_of s' q ≡ Some t → ((q ≡ o) × (t ≡ Taken)) ⊎ (range_of s q ≡ Some t)) → range_of s' o ≡ Some Taken → ((q : Owner) (t : Region) → range_of s q ≡ Some t → range_of s' q ≡ Some t) → Takes before after unit (unit_count length) → IsRow s' after
  row_more news new olds takes = record {
    size = takes.size ∙ row.size;
    forth = λ k free q t is covers. ⊎_elim (λ here. takes.taken k free (covered_unit length unit k some (subst (λ (x : Region). Covers x (unit_address k)) here.1 covers)))
        (λ old. row.forth k (takes.kept k free) q t old covers) (news q t is);
    back = λ k less none. ⊎_elim (λ within. absurd (none o Taken new (unit_covered length unit k some within)))
        (λ free. free) (takes.others k (row.back k less (λ q t is covers. none q t (olds q t is) covers)));
  }

  pub row_less : ((q : Owner) (t : Region) → range_of s' q ≡ Some t → (range_of s q ≡ Some t) × AreDisjoint t Taken) → ((q : Owner) (t : Region) → range_of s q ≡ Some t → (t ≡ Taken) ⊎ (range_of s' q ≡ Some t)) → Gives before after unit (unit_count length) → IsRow s' after
  row_less olds gone gives = record {
    size = gives.size ∙ row.size;
    forth = λ k free q t is covers. let old = olds q t is in ⊎_elim (λ within. both k t old.1 covers (unit_covered length unit k some within)) (λ was. row.forth k was q t old.0 covers) (gives.others k free);
    back = λ k less none. ⊎_elim (λ low. kept k less none (λ w. let from = w.from in omega (arith, low, from)))
        (λ ge. ⊎_elim (λ less_end. gives.given k (record { from = ge; to = less_end })) (λ past. kept k less none (λ w. let to = w.to in omega (arith, past, to))) (cases_lt k (unit + unit_count length))) (cases_lt k unit);
  }
    where
      both : (k : ℕ) (t : Region) → AreDisjoint t Taken → Covers t (unit_address k) → Covers Taken (unit_address k) → ⊥
      both k t apart a b = let low = a.from in let high = a.to in let from = b.from in let to = b.to in ⊎_elim (λ le. omega (arith, le, high, from)) (λ le. omega (arith, le, low, to)) apart

      kept : (k : ℕ) → k < units → ((q : Owner) (t : Region) → range_of s' q ≡ Some t → Covers t (unit_address k) → ⊥) → (IsWithin unit (unit_count length) k → ⊥) → IsFree (λ u. get_or after u 0) k
      kept k less none not_within =
          gives.kept k (row.back k less (λ q t is covers. ⊎_elim (λ same. not_within (covered_unit length unit k some (subst (λ (x : Region). Covers x (unit_address k)) same covers))) (λ still. none q t still covers) (gone q t is)))

-- where the ranges are the same
pub row_same : (s s' : LiveSet) (lengths : List ℕ) → ((q : Owner) (t : Region) → range_of s' q ≡ Some t → range_of s q ≡ Some t) → ((q : Owner) (t : Region) → range_of s q ≡ Some t → range_of s' q ≡ Some t) → IsRow s lengths → IsRow s' lengths
row_same s s' lengths olds news row = record {
  size = row.size;
  forth = λ k free q t is covers. row.forth k free q t (olds q t is) covers;
  back = λ k less none. row.back k less (λ q t is covers. none q t (news q t is) covers);
}

-- ---- the places of a pool's descriptors

place_inside : (kind : Kind) (first count number : ℕ) → number < count → (first ≤ first + number * descriptor_size kind) × (first + number * descriptor_size kind < first + count * descriptor_size kind)
place_inside Packet first count number less = (omega arith, omega arith)
place_inside Buffer first count number less = (omega arith, omega arith)

pub place_covered : (p : Pool) (number : ℕ) → number < p.count → Covers (pool_range p) (place_of p number)
place_covered p number less = let w = place_inside p.kind p.first.0 p.count number less in record { from = w.0; to = w.1 }

place_apart : (kind : Kind) (first number other : ℕ) → first + number * descriptor_size kind ≡ first + other * descriptor_size kind → number ≡ other
place_apart Packet first number other e = omega arith
place_apart Buffer first number other e = omega arith

pub same_number : (p : Pool) (number other : ℕ) → place_of p number ≡ place_of p other → number ≡ other
same_number p number other e = place_apart p.kind p.first.0 number other e

pool_in : {x y : ℕ} → PoolOf x ≡ PoolOf y → x ≡ y
pool_in e = cc

-- two descriptors at one address are of one pool
pub same_pool : (s : LiveSet) (handle other : ℕ) (p q : Pool) (number number' : ℕ) → IsSound s → pool_of s handle ≡ Some p → pool_of s other ≡ Some q → number < p.count → number' < q.count → place_of p number ≡ place_of q number' → handle ≡ other
same_pool s handle other p q number number' sound found found' less less' same =
    ⊎_elim (λ e. e) (λ ne.
    let a = place_covered p number less in
    let b = place_covered q number' less' in
    let a_from = a.from in let a_to = a.to in let b_from = b.from in let b_to = b.to in
    absurd (⊎_elim (λ le. omega (arith, le, a_to, b_from, same)) (λ le. omega (arith, le, b_to, a_from, same)) (sound.apart (PoolOf handle) (PoolOf other) (pool_range p) (pool_range q) (ap (option_map pool_range) found) (ap (option_map pool_range) found') (λ e. ne (pool_in e)))))
    (cases_eq handle other)

-- the descriptor that is out at a place of a pool is of that pool, and of its kind
pub whose : (s : LiveSet) (handle : ℕ) (p : Pool) (number : ℕ) (d : Descriptor) → IsSound s → pool_of s handle ≡ Some p → number < p.count → descriptor_at s (place_of p number) ≡ Some d → (d.pool ≡ handle) × (d.kind ≡ p.kind)
whose s handle p number d sound found less out =
    let w = sound.descriptors (place_of p number) d out in
    let same = same_pool s d.pool handle w.pool p w.number number sound w.found found w.less less (sym w.at) in
    (same, w.kind ∙ ap (λ (x : Pool). x.kind) (same_some w.pool p (sym w.found ∙ ap (pool_of s) same ∙ found)))

-- ---- descriptors that are not out

pub idle_same : (s s' : LiveSet) (p : Pool) (lengths : List ℕ) → ((number : ℕ) → number < p.count → descriptor_at s' (place_of p number) ≡ descriptor_at s (place_of p number)) → IsIdle s p lengths → IsIdle s' p lengths
idle_same s s' p lengths same idle = record {
  size = idle.size;
  forth = λ number less free. same number less ∙ idle.forth number less free;
  back = λ number less none. idle.back number less (sym (same number less) ∙ none);
}

-- of a new pool none is out: one that were would stand where another pool is
pub idle_new : (s s' : LiveSet) (p : Pool) (lengths : List ℕ) → IsSound s → ((a : ℕ) → descriptor_at s' a ≡ descriptor_at s a) → ((q : Owner) (t : Region) → range_of s q ≡ Some t → AreDisjoint (pool_range p) t) → AllFree p.count lengths → IsIdle s' p lengths
idle_new s s' p lengths sound same apart all = record {
  size = all.size;
  forth = λ number less free. same (place_of p number) ∙ none number less (descriptor_at s (place_of p number)) refl;
  back = λ number less none. all.free number less;
}
  where
    none : (number : ℕ) → number < p.count → (found : Option Descriptor) → descriptor_at s (place_of p number) ≡ found → found ≡ None
    none number less None is = refl
    none number less (Some d) is =
        let w = sound.descriptors (place_of p number) d is in
        let a = place_covered p number less in
        let b = place_covered w.pool w.number w.less in
        let a_from = a.from in let a_to = a.to in let b_from = b.from in let b_to = b.to in
        let same_place = w.at in
        absurd (⊎_elim (λ le. omega (arith, le, a_to, b_from, same_place)) (λ le. omega (arith, le, b_to, a_from, same_place)) (apart (PoolOf d.pool) (pool_range w.pool) (ap (option_map pool_range) w.found)))

pub idle_taken : (s : LiveSet) (p : Pool) (before after : List ℕ) (number : ℕ) (d : Descriptor) → number < p.count → IsIdle s p before → Takes before after number 1 → IsIdle (record s { descriptors = table.insert s.descriptors (place_of p number) d }) p after
idle_taken s p before after number d less idle takes = record {
  size = takes.size ∙ idle.size;
  forth = λ k less_k free. insert_other s.descriptors (place_of p number) d (place_of p k)
      (λ e. takes.taken k free (record { from = let h = same_number p k number e in omega (arith, h); to = let h = same_number p k number e in omega (arith, h) }))
      ∙ idle.forth k less_k (takes.kept k free);
  back = λ k less_k none.
      let other : k ≢ number = λ e. none_some d (sym none ∙ ap (λ (n : ℕ). table.get (table.insert s.descriptors (place_of p number) d) (place_of p n)) e ∙ insert_here s.descriptors (place_of p number) d) in
      let was = idle.back k less_k (sym (insert_other s.descriptors (place_of p number) d (place_of p k) (λ e. other (same_number p k number e))) ∙ none) in
      ⊎_elim (λ within. let from = within.from in let to = within.to in absurd (other (omega (arith, from, to)))) (λ free. free) (takes.others k was);
}

pub idle_given : (s : LiveSet) (p : Pool) (before after : List ℕ) (number : ℕ) → number < p.count → IsIdle s p before → Gives before after number 1 → IsIdle (record s { descriptors = table.remove s.descriptors (place_of p number) }) p after
idle_given s p before after number less idle gives = record {
  size = gives.size ∙ idle.size;
  forth = λ k less_k free. ⊎_elim (λ (e : k ≡ number). ap (λ (n : ℕ). table.get (table.remove s.descriptors (place_of p number)) (place_of p n)) e ∙ remove_here s.descriptors (place_of p number))
      (λ ne. remove_other s.descriptors (place_of p number) (place_of p k) (λ e. ne (same_number p k number e))
      ∙ idle.forth k less_k (⊎_elim (λ within. let from = within.from in let to = within.to in absurd (ne (omega (arith, from, to)))) (λ was. was) (gives.others k free))) (cases_eq k number);
  back = λ k less_k none. ⊎_elim (λ (e : k ≡ number). gives.given k (record { from = omega (arith, e); to = omega (arith, e) }))
      (λ ne. gives.kept k (idle.back k less_k (sym (remove_other s.descriptors (place_of p number) (place_of p k) (λ e. ne (same_number p k number e))) ∙ none))) (cases_eq k number);
}

-- ---- what the calls on kept pools found

place_divided : (kind : Kind) (first number : ℕ) → (first + number * descriptor_size kind - first) / descriptor_size kind ≡ number
place_divided Packet first number = omega arith
place_divided Buffer first number = omega arith

pub place_number : (p : Pool) (at number : ℕ) → at ≡ place_of p number → (at - p.first.0) / descriptor_size p.kind ≡ number
place_number p at number e = ap (λ (a : ℕ). (a - p.first.0) / descriptor_size p.kind) e ∙ place_divided p.kind p.first.0 number

pub given_place : (before after : BTreeMap ℕ KeptPool) (handle at place : ℕ) (kept new : KeptPool) → IsOutAt before handle at → kept_at before handle ≡ Some kept → place ≡ (at - kept.pool.first.0) / descriptor_size kept.pool.kind → Updates nat_cmp before after handle (Some new) → new.pool ≡ kept.pool → Gives kept.idle new.idle place 1 → GivesPlace before after handle at
given_place before after handle at place kept new out found place_is updates pool gives =
    let has = out.1 in
    let same : kept ≡ has.kept = same_some kept has.kept (sym found ∙ has.found) in
    let number : place ≡ out.0 = place_is ∙ ap (λ (k : KeptPool). (at - k.pool.first.0) / descriptor_size k.pool.kind) same ∙ place_number has.kept.pool at out.0 has.stands in
    record {
      number = out.0;
      has = has;
      new = new;
      updates = updates;
      pool = pool ∙ ap (λ (k : KeptPool). k.pool) same;
      gives = subst (λ (n : ℕ). Gives has.kept.idle new.idle n 1) number (subst (λ (k : KeptPool). Gives k.idle new.idle place 1) same gives);
    }

pub idle_found : (pools : BTreeMap ℕ KeptPool) (kind : Kind) (handle place at size : ℕ) (kept : KeptPool) → kept_at pools handle ≡ Some kept → kept.pool.kind ≡ kind → IsSized kept → Fits (λ u. get_or kept.idle u 0) 1 place → 1 ≤ get_or kept.idle place 0 → AreInside kept.idle → size ≡ descriptor_size kind → at ≡ kept.pool.first.0 + place * size → IsIdleAt pools kind handle (record { place = place; at = at })
idle_found pools kind handle place at size kept found of_kind sized fits begins inside size_is at_is =
    let free = fits place (record { from = omega arith; to = omega arith }) in
    let in_pool = inside place free in
    let count = sized.size in
    record {
      has = record { kept = kept; found = found; idle = begins };
      of_kind = of_kind;
      less = omega (arith, in_pool, count);
      free = free;
      at = at_is ∙ ap (λ (n : ℕ). kept.pool.first.0 + place * n) (size_is ∙ ap descriptor_size (sym of_kind));
    }

pub none_found : (pools : BTreeMap ℕ KeptPool) (kind : Kind) (handle : ℕ) (kept : KeptPool) → kept_at pools handle ≡ Some kept → kept.pool.kind ≡ kind → ((unit : ℕ) → Fits (λ u. get_or kept.idle u 0) 1 unit → ⊥) → HasNone pools kind handle
none_found pools kind handle kept found of_kind none = record {
  kept = kept;
  found = found;
  of_kind = of_kind;
  full = λ number free. none number (λ k within. let from = within.from in let to = within.to in let same : k ≡ number = omega (arith, from, to) in subst (Free_in kept.idle) (sym same) free);
}
