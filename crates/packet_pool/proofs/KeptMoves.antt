-- What is kept of what lives, after each call.
use Rattle.std.proofs.Common.{◌≡◌, ◌≢◌, ◌⊎◌, inl, inr, ℕ, zero, suc, ◌+◌, ◌-◌, ◌*◌, ◌/◌, ◌%◌, ◌<◌, ◌≤◌, max, Bool, true, false, ◌||◌, ◌&&◌, not, cond, eqb, leb, List, length, get_or, Option, None, Some, is_some, refl, sym, ap, subst, ◌∙◌, arith, ⊎_elim, ne_eqb}
use Rattle.std.proofs.lemmas.Bool.{false≢true, cases_lt, cases_eq}
use Rattle.std.specs.Option.{option_map}
use Rattle.std.specs.Ordering.{nat_cmp}
use Rattle.std.specs.BTreeMap.{BTreeMap, Updates}
use Rattle.std.specs.FinMap as table
use Rattle.nd_base.specs.KeptMap.{get-kept, kept-insert, kept-remove}
use Rattle.nd_mem.specs.Space.{address}
use Rattle.guest_map.specs.declared.regions.Region.{Region}
use Rattle.guest_map.specs.Regions.{region, end_of}
use Rattle.free_ranges.specs.Ranges.{IsFree, IsWithin, Fits, AllFree, Takes, Gives, AreTaken}
use Rattle.packet_pool.specs.declared.states.Kind.{Kind}
use Rattle.packet_pool.specs.declared.states.Pool.{Pool}
use Rattle.packet_pool.specs.declared.states.Descriptor.{Descriptor}
use Rattle.packet_pool.specs.declared.kept_pools.KeptPool.{KeptPool}
use Rattle.packet_pool.specs.LiveSet.{LiveSet, block_at, pool_of, descriptor_at, block_range, descriptor_size, pool_range, is_free, units, unit_address, place_of, has_out, first_free}
use Rattle.packet_pool.specs.LiveMoves.{LiveMove, MakePool, FreePool, Allocate, Free, MakeBlock, FreeBlock, after, may, new_handle, with_pool, pool_room, is_count, most_pools}
use Rattle.packet_pool.specs.KeptLive.{Owner, BlockAt, PoolOf, range_of, IsPlaced, Covers, AreDisjoint, IsOfPool, IsSound, IsRow, IsIdle, AreKept, unit_count, IsRoom, IsRoomAt, live_of, pools_in}
use Rattle.packet_pool.specs.KeptPools.{kept_at, IsSized, AllIdle, IsWhole, TakesPlace, GivesPlace, IsIdleAt, HasIdle, HasOut, IsOutAt}
use Rattle.packet_pool.proofs.Changed.{same_some, none_some, mapped_from, is_some_of, both_true, and_true, true_or_false, inserted, removed, insert_here, insert_other, remove_here, remove_other, get-seen, updated, update_here, update_other, seen-insert, seen-remove, seen_same, none_of, any_of}
use Rattle.packet_pool.proofs.Places.{IsFreeAt, free_tells, from_unit, room_is_first, room_is_free, no_room}
use Rattle.packet_pool.proofs.Sound.{block_news, block_olds, sound_block, sound_free_block, new_pool, pooled, pool_news, pool_olds, is_new, sound_pool, sound_free_pool, sound_allocate, sound_free, some_size, count_tells, of_other}
use Rattle.packet_pool.proofs.KeptRow.{unit_covered, row_more, row_less, row_same, place_covered, same_number, same_pool, whose, idle_same, idle_new, idle_taken, idle_given}

-- a pool that is kept is one that lives
abbrev pub pool_in : KeptPool → Pool
pool_in kept = kept.pool

pub lives : (blocks : BTreeMap ℕ ℕ) (pools : BTreeMap ℕ KeptPool) (descriptors : BTreeMap ℕ Descriptor) (made handle : ℕ) (kept : KeptPool) → kept_at pools handle ≡ Some kept → pool_of (live_of blocks pools descriptors made) handle ≡ Some kept.pool
lives blocks pools descriptors made handle kept found = get-seen pool_in pools handle ∙ ap (option_map pool_in) found

pub is_kept : (blocks : BTreeMap ℕ ℕ) (pools : BTreeMap ℕ KeptPool) (descriptors : BTreeMap ℕ Descriptor) (made handle : ℕ) (p : Pool) → pool_of (live_of blocks pools descriptors made) handle ≡ Some p → (kept : KeptPool) × (kept_at pools handle ≡ Some kept) × (kept.pool ≡ p)
is_kept blocks pools descriptors made handle p found = mapped_from pool_in (kept_at pools handle) p (sym (get-seen pool_in pools handle) ∙ found)

-- ---- blocks

module _ (s : LiveSet) (pools : BTreeMap ℕ KeptPool) (row row' : List ℕ) (kept : AreKept s row pools) where
  some_taken : (length : ℕ) → 1 ≤ max length 1
  some_taken length = omega arith

  block_free : (length unit : ℕ) → IsRoomAt row (max length 1) unit → is_free s (block_range (unit_address unit) length) ≡ true
  block_free length unit room = room_is_free s row (max length 1) kept.sound kept.row (some_taken length) unit room

  block_olds_stay : (length unit : ℕ) → IsFreeAt s (block_range (unit_address unit) length) → (q : Owner) (t : Region) → range_of s q ≡ Some t → range_of (after s (MakeBlock length (unit_address unit))) q ≡ Some t
  block_olds_stay length unit free (BlockAt b) t is =
      ap (option_map (block_range b)) (insert_other s.blocks (unit_address unit) length b (λ same.
      let w = mapped_from (block_range b) (block_at s b) t is in
      let apart = free.apart (BlockAt b) (block_range b w.0) (is ∙ ap Some (sym w.2)) in
      ⊎_elim (λ le. omega (arith, le, same)) (λ le. omega (arith, le, same)) apart)) ∙ is
  block_olds_stay length unit free (PoolOf handle) t is = is

  pub block_kept : (length unit : ℕ) → IsRoomAt row (max length 1) unit → Takes row row' unit (unit_count (max length 1)) → AreKept (after s (MakeBlock length (unit_address unit))) row' pools
  block_kept length unit room takes =
      let free = block_free length unit room in
      let s' = after s (MakeBlock length (unit_address unit)) in
      record {
        sound = sound_block s (unit_address unit) length kept.sound free;
        row = row_more s s' row row' (BlockAt (unit_address unit)) unit (max length 1) (some_taken length) kept.row (block_news s (unit_address unit) length) (ap (option_map (block_range (unit_address unit))) (insert_here s.blocks (unit_address unit) length)) (block_olds_stay length unit (free_tells s (block_range (unit_address unit) length) free)) takes;
        idle = λ handle k found. idle_same s s' k.pool k.idle (λ number less. refl) (kept.idle handle k found);
      }

  -- the block that is freed
  module _ (a length : ℕ) (found : block_at s a ≡ Some length) where
    there : range_of s (BlockAt a) ≡ Some (block_range a length)
    there = ap (option_map (block_range a)) found

    pub block_low : 0x81000000 ≤ a
    block_low = let w = kept.sound.placed (BlockAt a) (block_range a length) there in let at = w.at in omega (arith, at)

    pub block_stands : unit_address ((a - 0x81000000) / 16) ≡ a
    block_stands = let w = kept.sound.placed (BlockAt a) (block_range a length) there in let at = w.at in omega (arith, at)

    pub block_inside : (a - 0x81000000) / 16 + unit_count (max length 1) ≤ units
    block_inside = let w = kept.sound.placed (BlockAt a) (block_range a length) there in let at = w.at in let inside = w.inside in omega (arith, at, inside)

    same_range : block_range a length ≡ region (unit_address ((a - 0x81000000) / 16)) (max length 1)
    same_range = ap (λ (x : ℕ). region x (max length 1)) (sym block_stands)

    pub block_taken : AreTaken (λ u. get_or row u 0) ((a - 0x81000000) / 16) (unit_count (max length 1))
    block_taken k within free = kept.row.forth k free (BlockAt a) (region (unit_address ((a - 0x81000000) / 16)) (max length 1)) (there ∙ ap Some same_range) (unit_covered (max length 1) ((a - 0x81000000) / 16) k (some_taken length) within)

    block_gone : (q : Owner) (t : Region) → range_of s q ≡ Some t → (t ≡ region (unit_address ((a - 0x81000000) / 16)) (max length 1)) ⊎ (range_of (after s (FreeBlock a)) q ≡ Some t)
    block_gone (BlockAt b) t is =
        ⊎_elim (λ (same : b ≡ a). inl (same_some t (region (unit_address ((a - 0x81000000) / 16)) (max length 1)) (sym is ∙ ap (λ (x : ℕ). range_of s (BlockAt x)) same ∙ there ∙ ap Some same_range)))
        (λ ne. inr (ap (option_map (block_range b)) (remove_other s.blocks a b ne) ∙ is)) (cases_eq b a)
    block_gone (PoolOf handle) t is = inr is

    pub free_block_kept : Gives row row' ((a - 0x81000000) / 16) (unit_count (max length 1)) → AreKept (after s (FreeBlock a)) row' pools
    free_block_kept gives =
        let s' = after s (FreeBlock a) in
        record {
          sound = sound_free_block s a kept.sound;
          row = row_less s s' row row' (BlockAt a) ((a - 0x81000000) / 16) (max length 1) (some_taken length) kept.row
              (λ q t is. let old = block_olds s a q t is in (old.1, kept.sound.apart q (BlockAt a) t (region (unit_address ((a - 0x81000000) / 16)) (max length 1)) old.1 (there ∙ ap Some same_range) old.0)) block_gone gives;
          idle = λ handle k is. idle_same s s' k.pool k.idle (λ number less. refl) (kept.idle handle k is);
        }

-- ---- pools

module _ (blocks : BTreeMap ℕ ℕ) (pools pools' : BTreeMap ℕ KeptPool) (descriptors : BTreeMap ℕ Descriptor) (made : ℕ) (row row' : List ℕ) (kept : AreKept (live_of blocks pools descriptors made) row pools) where
  abbrev pub Now : LiveSet
  Now = live_of blocks pools descriptors made

  -- a pool that is made
  module _ (kind : Kind) (count unit : ℕ) (new : KeptPool) (is_new_pool : new.pool ≡ new_pool kind count (unit_address unit)) (counted : is_count count ≡ true) (few : made < most_pools) (room : IsRoomAt row (count * descriptor_size kind) unit) where
    size : 1 ≤ count * descriptor_size kind
    size = some_size kind count (count_tells count counted).0

    pub pool_free : is_free Now (region (unit_address unit) (count * descriptor_size kind)) ≡ true
    pool_free = room_is_free Now row (count * descriptor_size kind) kept.sound kept.row size unit room

    pool_olds_stay : (q : Owner) (t : Region) → range_of Now q ≡ Some t → range_of (pooled Now kind count (unit_address unit)) q ≡ Some t
    pool_olds_stay (BlockAt b) t is = is
    pool_olds_stay (PoolOf handle) t is =
        let w = mapped_from pool_range (pool_of Now handle) t is in
        ap (option_map pool_range) (insert_other (pools_in pools) (new_handle Now) (new_pool kind count (unit_address unit)) handle (is_new Now handle w.0 kept.sound w.1)) ∙ is

    pub pool_kept : Updates nat_cmp pools pools' (new_handle Now) (Some new) → AllFree count new.idle → Takes row row' unit (unit_count (count * descriptor_size kind)) → AreKept (pooled Now kind count (unit_address unit)) row' pools'
    pool_kept updates all takes =
        let s' = pooled Now kind count (unit_address unit) in
        record {
          sound = sound_pool Now kind count (unit_address unit) kept.sound counted few pool_free;
          row = row_more Now s' row row' (PoolOf (new_handle Now)) unit (count * descriptor_size kind) size kept.row (pool_news Now kind count (unit_address unit))
              (ap (option_map pool_range) (insert_here (pools_in pools) (new_handle Now) (new_pool kind count (unit_address unit)))) pool_olds_stay takes;
          idle = λ handle k found. ⊎_elim (λ here.
              let same : new ≡ k = same_some new k here.1 in
              subst (λ (x : KeptPool). IsIdle s' x.pool x.idle) same
              (subst (λ (p : Pool). IsIdle s' p new.idle) (sym is_new_pool)
              (idle_new Now s' (new_pool kind count (unit_address unit)) new.idle kept.sound (λ a. refl) (free_tells Now (region (unit_address unit) (count * descriptor_size kind)) pool_free).apart all)))
              (λ old. idle_same Now s' k.pool k.idle (λ number less. refl) (kept.idle handle k old.1)) (updated pools pools' (new_handle Now) (Some new) updates handle k found);
        }

    pub pool_view : Updates nat_cmp pools pools' (new_handle Now) (Some new) → live_of blocks pools' descriptors (made + 1) ≡ pooled Now kind count (unit_address unit)
    pool_view updates = ap (λ (ps : table.FinMap nat_cmp Pool). record Now { pools = ps; made = made + 1 })
        (seen-insert pool_in pools pools' (new_handle Now) new updates ∙ ap (table.insert (pools_in pools) (new_handle Now)) is_new_pool)

  -- a pool of which none is out, and that is freed
  module _ (handle : ℕ) (old : KeptPool) (found : kept_at pools handle ≡ Some old) where
    pub old_lives : pool_of Now handle ≡ Some old.pool
    old_lives = lives blocks pools descriptors made handle old found

    pool_there : range_of Now (PoolOf handle) ≡ Some (pool_range old.pool)
    pool_there = ap (option_map pool_range) old_lives

    pub old_size : 1 ≤ old.pool.count * descriptor_size old.pool.kind
    old_size = some_size old.pool.kind old.pool.count (kept.sound.known handle old.pool old_lives).some

    pub pool_low : 0x81000000 ≤ old.pool.first.0
    pool_low = let w = kept.sound.placed (PoolOf handle) (pool_range old.pool) pool_there in let at = w.at in omega (arith, at)

    pub pool_stands : unit_address ((old.pool.first.0 - 0x81000000) / 16) ≡ old.pool.first.0
    pool_stands = let w = kept.sound.placed (PoolOf handle) (pool_range old.pool) pool_there in let at = w.at in omega (arith, at)

    pub pool_inside : (old.pool.first.0 - 0x81000000) / 16 + unit_count (old.pool.count * descriptor_size old.pool.kind) ≤ units
    pool_inside = let w = kept.sound.placed (PoolOf handle) (pool_range old.pool) pool_there in let at = w.at in let inside = w.inside in let size = old_size in omega (arith, at, inside, size)

    old_range : pool_range old.pool ≡ region (unit_address ((old.pool.first.0 - 0x81000000) / 16)) (old.pool.count * descriptor_size old.pool.kind)
    old_range = ap (λ (x : ℕ). region x (old.pool.count * descriptor_size old.pool.kind)) (sym pool_stands)

    pub pool_taken : AreTaken (λ u. get_or row u 0) ((old.pool.first.0 - 0x81000000) / 16) (unit_count (old.pool.count * descriptor_size old.pool.kind))
    pool_taken k within free = kept.row.forth k free (PoolOf handle) (region (unit_address ((old.pool.first.0 - 0x81000000) / 16)) (old.pool.count * descriptor_size old.pool.kind)) (pool_there ∙ ap Some old_range) (unit_covered (old.pool.count * descriptor_size old.pool.kind) ((old.pool.first.0 - 0x81000000) / 16) k old_size within)

    -- none of its descriptors is out
    pub none_is_out : AllIdle old → has_out Now handle ≡ false
    none_is_out all = none_of (λ (d : Descriptor). eqb d.pool handle) (table.from_entries descriptors.entries) (λ a d is. ⊎_elim (λ (e : d.pool ≡ handle). absurd (out_of a d is e)) (λ ne. ne_false d.pool handle ne) (cases_eq d.pool handle))
      where
        ne_false : (x y : ℕ) → x ≢ y → eqb x y ≡ false
        ne_false x y ne = ne_eqb x y ne

        out_of : (a : ℕ) (d : Descriptor) → descriptor_at Now a ≡ Some d → d.pool ≡ handle → ⊥
        out_of a d is e =
            let w = kept.sound.descriptors a d is in
            let same : w.pool ≡ old.pool = same_some w.pool old.pool (sym w.found ∙ ap (pool_of Now) e ∙ old_lives) in
            let less = subst (λ (p : Pool). w.number < p.count) same w.less in
            let none = (kept.idle handle old found).forth w.number less (all w.number less) in
            none_some d (sym none ∙ ap (λ (p : Pool). descriptor_at Now (place_of p w.number)) (sym same) ∙ ap (descriptor_at Now) (sym w.at) ∙ is)

    -- one of them is
    pub some_is_out : (AllIdle old → ⊥) → has_out Now handle ≡ true
    some_is_out not_all = ⊎_elim (λ yes. yes) (λ no. absurd (not_all (λ number less. (kept.idle handle old found).back number less (none number less no (descriptor_at Now (place_of old.pool number)) refl)))) (true_or_false (has_out Now handle))
      where
        none : (number : ℕ) → number < old.pool.count → has_out Now handle ≡ false → (o : Option Descriptor) → descriptor_at Now (place_of old.pool number) ≡ o → descriptor_at Now (place_of old.pool number) ≡ None
        none number less none_out None is = is
        none number less none_out (Some d) is = absurd (of_other Now handle (place_of old.pool number) d none_out is (whose Now handle old.pool number d kept.sound old_lives less is).0)

    pool_gone : (q : Owner) (t : Region) → range_of Now q ≡ Some t → (t ≡ region (unit_address ((old.pool.first.0 - 0x81000000) / 16)) (old.pool.count * descriptor_size old.pool.kind)) ⊎ (range_of (after Now (FreePool handle)) q ≡ Some t)
    pool_gone (BlockAt b) t is = inr is
    pool_gone (PoolOf other) t is =
        ⊎_elim (λ (same : other ≡ handle). inl (same_some t (region (unit_address ((old.pool.first.0 - 0x81000000) / 16)) (old.pool.count * descriptor_size old.pool.kind)) (sym is ∙ ap (λ (x : ℕ). range_of Now (PoolOf x)) same ∙ pool_there ∙ ap Some old_range)))
        (λ ne. inr (ap (option_map pool_range) (remove_other (pools_in pools) handle other ne) ∙ is)) (cases_eq other handle)

    pub free_pool_kept : AllIdle old → Updates nat_cmp pools pools' handle None → Gives row row' ((old.pool.first.0 - 0x81000000) / 16) (unit_count (old.pool.count * descriptor_size old.pool.kind)) → AreKept (after Now (FreePool handle)) row' pools'
    free_pool_kept all updates gives =
        let s' = after Now (FreePool handle) in
        record {
          sound = sound_free_pool Now handle kept.sound (none_is_out all);
          row = row_less Now s' row row' (PoolOf handle) ((old.pool.first.0 - 0x81000000) / 16) (old.pool.count * descriptor_size old.pool.kind) old_size kept.row
              (λ q t is. let was = pool_olds Now handle q t is in (was.1, kept.sound.apart q (PoolOf handle) t (region (unit_address ((old.pool.first.0 - 0x81000000) / 16)) (old.pool.count * descriptor_size old.pool.kind)) was.1 (pool_there ∙ ap Some old_range) was.0)) pool_gone gives;
          idle = λ other k is. ⊎_elim (λ here. absurd (none_some k here.1)) (λ was. idle_same Now s' k.pool k.idle (λ number less. refl) (kept.idle other k was.1)) (updated pools pools' handle None updates other k is);
        }

    pub free_pool_view : Updates nat_cmp pools pools' handle None → live_of blocks pools' descriptors made ≡ after Now (FreePool handle)
    free_pool_view updates = ap (λ (ps : table.FinMap nat_cmp Pool). record Now { pools = ps }) (seen-remove pool_in pools pools' handle updates)

-- ---- descriptors

module _ (blocks : BTreeMap ℕ ℕ) (pools pools' : BTreeMap ℕ KeptPool) (descriptors descriptors' : BTreeMap ℕ Descriptor) (made : ℕ) (row : List ℕ) (kept : AreKept (live_of blocks pools descriptors made) row pools) where
  abbrev pub Here : LiveSet
  Here = live_of blocks pools descriptors made

  -- another pool has no descriptor at this one's place
  other_place : (handle other : ℕ) (p : Pool) (number : ℕ) (k : KeptPool) → pool_of Here handle ≡ Some p → number < p.count → other ≢ handle → kept_at pools other ≡ Some k → (number' : ℕ) → number' < k.pool.count → place_of k.pool number' ≢ place_of p number
  other_place handle other p number k found less ne is number' less' same =
      ne (same_pool Here other handle k.pool p number' number kept.sound (lives blocks pools descriptors made other k is) found less' less same)

  -- a descriptor that is taken
  module _ (kind : Kind) (handle place : ℕ) (takes : TakesPlace pools pools' handle place) (of_kind : takes.old.pool.kind ≡ kind) (less : place < takes.old.pool.count) (d : Descriptor) where
    abbrev pub Place : ℕ
    Place = place_of takes.old.pool place

    pub taken_lives : pool_of Here handle ≡ Some takes.old.pool
    taken_lives = lives blocks pools descriptors made handle takes.old takes.found

    abbrev pub Then : LiveSet
    Then = record Here { descriptors = table.insert Here.descriptors Place d }

    taken_idle : (other : ℕ) (k : KeptPool) → kept_at pools' other ≡ Some k → IsIdle Then k.pool k.idle
    taken_idle other k is =
        ⊎_elim (λ here.
        let same : takes.new ≡ k = same_some takes.new k here.1 in
        subst (λ (x : KeptPool). IsIdle Then x.pool x.idle) same
        (subst (λ (p : Pool). IsIdle Then p takes.new.idle) (sym takes.pool)
        (idle_taken Here takes.old.pool takes.old.idle takes.new.idle place d less (kept.idle handle takes.old takes.found) takes.takes)))
        (λ was. idle_same Here Then k.pool k.idle (λ number' less'. insert_other Here.descriptors Place d (place_of k.pool number') (other_place handle other takes.old.pool place k taken_lives less was.0 was.1 number' less')) (kept.idle other k was.1))
        (updated pools pools' handle (Some takes.new) takes.updates other k is)

    pub taken_kept : d ≡ (record { kind = kind; pool = handle; lent = false }) → AreKept Then row pools'
    taken_kept d_is = record {
      sound = subst (λ (x : Descriptor). IsSound (record Here { descriptors = table.insert Here.descriptors Place x })) (sym d_is) (sound_allocate Here kind handle Place takes.old.pool kept.sound taken_lives of_kind place less refl);
      row = row_same Here Then row (λ q t is. is) (λ q t is. is) kept.row;
      idle = taken_idle;
    }

    pub taken_view : (at : ℕ) → at ≡ Place → Updates nat_cmp descriptors descriptors' at (Some d) → live_of blocks pools' descriptors' made ≡ Then
    taken_view at at_is updates =
        let ds = kept-insert descriptors descriptors' at d updates ∙ ap (λ (a : ℕ). table.insert (table.from_entries descriptors.entries) a d) at_is in
        let ps = seen_same pool_in pools pools' handle takes.old takes.new takes.updates takes.found takes.pool in
        λ i. record { blocks = table.from_entries blocks.entries; pools = ps i; descriptors = ds i; made = made }

  -- a descriptor that is given back
  module _ (handle at : ℕ) (gives : GivesPlace pools pools' handle at) where
    pub given_lives : pool_of Here handle ≡ Some gives.has.kept.pool
    given_lives = lives blocks pools descriptors made handle gives.has.kept gives.has.found

    given_less : gives.number < gives.has.kept.pool.count
    given_less = let less = gives.has.less in let size = (kept.idle handle gives.has.kept gives.has.found).size in omega (arith, less, size)

    abbrev pub Without : LiveSet
    Without = record Here { descriptors = table.remove Here.descriptors (place_of gives.has.kept.pool gives.number) }

    given_idle : (other : ℕ) (k : KeptPool) → kept_at pools' other ≡ Some k → IsIdle Without k.pool k.idle
    given_idle other k is =
        ⊎_elim (λ here.
        let same : gives.new ≡ k = same_some gives.new k here.1 in
        subst (λ (x : KeptPool). IsIdle Without x.pool x.idle) same
        (subst (λ (p : Pool). IsIdle Without p gives.new.idle) (sym gives.pool)
        (idle_given Here gives.has.kept.pool gives.has.kept.idle gives.new.idle gives.number given_less (kept.idle handle gives.has.kept gives.has.found) gives.gives)))
        (λ was. idle_same Here Without k.pool k.idle (λ number' less'. remove_other Here.descriptors (place_of gives.has.kept.pool gives.number) (place_of k.pool number') (other_place handle other gives.has.kept.pool gives.number k given_lives given_less was.0 was.1 number' less')) (kept.idle other k was.1))
        (updated pools pools' handle (Some gives.new) gives.updates other k is)

    pub given_kept : (kind : Kind) → AreKept (after Here (Free kind at)) row pools'
    given_kept kind = subst (λ (a : ℕ). AreKept (record Here { descriptors = table.remove Here.descriptors a }) row pools') (sym gives.has.stands) (record {
      sound = sound_free Here kind (place_of gives.has.kept.pool gives.number) kept.sound;
      row = row_same Here Without row (λ q t is. is) (λ q t is. is) kept.row;
      idle = given_idle;
    })

    pub given_view : (kind : Kind) → Updates nat_cmp descriptors descriptors' at None → live_of blocks pools' descriptors' made ≡ after Here (Free kind at)
    given_view kind updates =
        let ds = kept-remove descriptors descriptors' at updates in
        let ps = seen_same pool_in pools pools' handle gives.has.kept gives.new gives.updates gives.has.found gives.pool in
        λ i. record { blocks = table.from_entries blocks.entries; pools = ps i; descriptors = ds i; made = made }

  -- a descriptor that is out can be given back
  pub out_at : (a : ℕ) (d : Descriptor) → descriptor_at Here a ≡ Some d → IsOutAt pools d.pool a
  out_at a d found =
      let w = kept.sound.descriptors a d found in
      let k = is_kept blocks pools descriptors made d.pool w.pool w.found in
      let idle = kept.idle d.pool k.0 k.1 in
      let less : w.number < k.0.pool.count = subst (λ (p : Pool). w.number < p.count) (sym k.2) w.less in
      let stands : a ≡ place_of k.0.pool w.number = w.at ∙ ap (λ (p : Pool). place_of p w.number) (sym k.2) in (
        w.number,
        record {
          kept = k.0;
          found = k.1;
          less = let size = idle.size in omega (arith, less, size);
          stands = stands;
          taken = λ free. none_some d (sym (idle.forth w.number less free) ∙ ap (descriptor_at Here) (sym stands) ∙ found);
        },
      )

  -- what is kept has the sizes that calls need
  pub are_sized : (handle : ℕ) (k : KeptPool) → kept_at pools handle ≡ Some k → IsSized k
  are_sized handle k found =
      let p = lives blocks pools descriptors made handle k found in
      let inside = (kept.sound.placed (PoolOf handle) (pool_range k.pool) (ap (option_map pool_range) p)).inside in
      record { size = (kept.idle handle k found).size; some = (kept.sound.known handle k.pool p).some; low = omega (arith, inside) }
