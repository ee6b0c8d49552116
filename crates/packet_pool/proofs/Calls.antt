-- What each call answers, by what is kept.
use Rattle.std.proofs.Common.{◌≡◌, ◌≢◌, ◌⊎◌, inl, inr, ℕ, ◌+◌, ◌-◌, ◌*◌, ◌/◌, ◌%◌, zero, suc, ◌<◌, ◌≤◌, max, Bool, true, false, ◌||◌, ◌&&◌, not, List, [], map, get_or, Option, None, Some, is_some, Ok, Err, refl, sym, ap, subst, ◌∙◌, arith, ⊎_elim, eqb, leb, ltb, eq-eqb}
use Rattle.std.proofs.lemmas.Bool.{false≢true, cases_lt, cases_eq, leb-true, le-leb, lt-ltb}
use Rattle.std.specs.Option.{option_map}
use Rattle.std.specs.Ordering.{nat_cmp}
use Rattle.std.specs.BTreeMap.{BTreeMap, Updates}
use Rattle.std.specs.BTreeMap as tree
use Rattle.std.specs.Map.{lookup}
use Rattle.std.specs.FinMap as table
use Rattle.nd_base.specs.declared.numbers.Addr.{Addr}
use Rattle.nd_base.specs.KeptMap.{get-kept, kept-insert, kept-remove}
use Rattle.nd_mem.specs.Space.{address}
use Rattle.guest_map.specs.declared.regions.Region.{Region}
use Rattle.guest_map.specs.Regions.{region, end_of, IsInside}
use Rattle.guest_map.specs.Regions as guest
use Rattle.free_ranges.specs.Ranges.{Fits, IsFit, AllFree, Takes, Gives, AreTaken}
use Rattle.packet_pool.specs.declared.states.Kind.{Kind}
use Rattle.packet_pool.specs.declared.states.Kind.TheVariants.{Packet, Buffer}
use Rattle.packet_pool.specs.declared.states.Pool.{Pool}
use Rattle.packet_pool.specs.declared.states.Descriptor.{Descriptor}
use Rattle.packet_pool.specs.declared.states.PoolRefusal.{PoolRefusal}
use Rattle.packet_pool.specs.declared.states.PoolRefusal.TheVariants.{OutOfMemory, Count, NoRoom, NoPool, PoolFull}
use Rattle.packet_pool.specs.declared.kept_pools.KeptPool.{KeptPool}
use Rattle.packet_pool.specs.LiveSet.{LiveSet, nothing, block_at, pool_of, descriptor_at, block_range, descriptor_size, is_same, pool_range, is_free, units, unit_address, place_of, is_of_kind, is_out, is_lent_in, is_lent, has_out, first_free, are_out, is_full, is_place_in}
use Rattle.packet_pool.specs.LiveMoves.{LiveMove, MakePool, FreePool, Allocate, Free, Lend, Unlend, MakeBlock, FreeBlock, after, may, marked, is_count, most_pools, new_handle, pool_room, with_pool, is_pool_of, is_place_of_pool, is_full_pool, Makes, BreaksRule, live_rule, refused, pool_refusal, descriptor_refusal, block_refusal, Refuses, MakesPool, Allocates, MakesBlock, Frees}
use Rattle.packet_pool.specs.KeptLive.{Owner, BlockAt, PoolOf, range_of, AreKept, unit_count, IsRoom, IsRoomAt, live_of}
use Rattle.packet_pool.specs.KeptPools.{kept_at, IsSized, AllIdle, IsWhole, TellsWhole, FindsIdle, IsIdleAt, HasNone, TakesPlace, IsOutAt, GivesPlace}
use Rattle.packet_pool.proofs.Changed.{same_some, none_some, and_true, get-seen, insert_here, insert_other}
use Rattle.packet_pool.proofs.Places.{room_is_first, room_is_free, no_room}
use Rattle.packet_pool.proofs.Sound.{new_pool, some_size, count_tells, is_same_self, sound_marked, sound_start}
use Rattle.packet_pool.proofs.KeptRow.{row_same}
use Rattle.packet_pool.proofs.KeptMoves.{pool_in, lives, block_kept, free_block_kept, block_low, block_inside, block_taken, pool_kept, pool_view, old_lives, old_size, pool_low, pool_inside, pool_taken, none_is_out, some_is_out, free_pool_kept, free_pool_view, taken_kept, taken_view, given_kept, given_view, out_at, are_sized}

-- the place of a descriptor is one of its pool's, and all of it lies in the pool's range
place_facts : (kind : Kind) (first count number : ℕ) → number < count → (first ≤ first + number * descriptor_size kind) × (first + number * descriptor_size kind < first + count * descriptor_size kind) × ((first + number * descriptor_size kind - first) % descriptor_size kind ≡ 0) × (first + number * descriptor_size kind + descriptor_size kind ≤ first + count * descriptor_size kind)
place_facts Packet first count number less = (omega arith, omega arith, omega arith, omega arith)
place_facts Buffer first count number less = (omega arith, omega arith, omega arith, omega arith)

place_is : (p : Pool) (number : ℕ) → number < p.count → is_place_in p (place_of p number) ≡ true
place_is p number less =
    let w = place_facts p.kind p.first.0 p.count number less in
    and_true (leb p.first.0 (place_of p number)) (ltb (place_of p number) (end_of (pool_range p)) && eqb ((place_of p number - p.first.0) % descriptor_size p.kind) 0) (le-leb p.first.0 (place_of p number) w.0)
    (and_true (ltb (place_of p number) (end_of (pool_range p))) (eqb ((place_of p number - p.first.0) % descriptor_size p.kind) 0) (lt-ltb (place_of p number) (end_of (pool_range p)) w.1) (eq-eqb ((place_of p number - p.first.0) % descriptor_size p.kind) 0 w.2))

module _ (blocks : BTreeMap ℕ ℕ) (pools : BTreeMap ℕ KeptPool) (descriptors : BTreeMap ℕ Descriptor) (made : ℕ) (row : List ℕ) (now : LiveSet) (is : live_of blocks pools descriptors made ≡ now) (kept : AreKept (live_of blocks pools descriptors made) row pools) where
  abbrev Live : LiveSet
  Live = live_of blocks pools descriptors made

  -- ---- a block that is made

  module _ (length taken : ℕ) (taken_is : taken ≡ max length 1) where
    taken_some : 1 ≤ taken
    taken_some = omega arith

    pub block_no_room : IsRoom row taken None → MakesBlock now length (Err NoRoom) now
    block_no_room none =
        let e : first_free Live (max length 1) ≡ None = ap (first_free Live) (sym taken_is) ∙ no_room Live row taken kept.sound kept.row taken_some none in
        (ap (λ (s : LiveSet). block_refusal s length) (sym is) ∙ ap (λ o. refused (not (is_some o)) NoRoom None) e, refl)

    block_first : (unit : ℕ) → IsRoomAt row taken unit → first_free Live (max length 1) ≡ Some (unit_address unit)
    block_first unit room = ap (first_free Live) (sym taken_is) ∙ room_is_first Live row taken kept.sound kept.row taken_some unit room

    pub block_starved : (blocks' : BTreeMap ℕ ℕ) (unit : ℕ) → IsRoomAt row taken unit → blocks'.entries ≡ blocks.entries → MakesBlock now length (Err OutOfMemory) (live_of blocks' pools descriptors made)
    block_starved blocks' unit room same = (
      ap (λ (s : LiveSet). block_refusal s length) (sym is) ∙ ap (λ o. refused (not (is_some o)) NoRoom None) (block_first unit room),
      ap (λ (es : List (ℕ × ℕ)). record Live { blocks = table.from_entries es }) same ∙ is,
    )

    block_view : (blocks' : BTreeMap ℕ ℕ) (unit a : ℕ) → a ≡ unit_address unit → Updates nat_cmp blocks blocks' a (Some length) → live_of blocks' pools descriptors made ≡ after Live (MakeBlock length (unit_address unit))
    block_view blocks' unit a a_is updates =
        ap (λ (bs : table.FinMap nat_cmp ℕ). record Live { blocks = bs }) (kept-insert blocks blocks' a length updates ∙ ap (λ (x : ℕ). table.insert Live.blocks x length) a_is)

    pub block_made_kept : (blocks' : BTreeMap ℕ ℕ) (row' : List ℕ) (unit a count : ℕ) → IsRoomAt row taken unit → a ≡ unit_address unit → Updates nat_cmp blocks blocks' a (Some length) → count ≡ unit_count taken → Takes row row' unit count → AreKept (live_of blocks' pools descriptors made) row' pools
    block_made_kept blocks' row' unit a count room a_is updates count_is takes =
        subst (λ (s : LiveSet). AreKept s row' pools) (sym (block_view blocks' unit a a_is updates))
        (block_kept Live pools row row' kept length unit (subst (λ (n : ℕ). IsRoomAt row n unit) taken_is room) (subst (λ (n : ℕ). Takes row row' unit n) (count_is ∙ ap unit_count taken_is) takes))

    pub block_made : (blocks' : BTreeMap ℕ ℕ) (unit a : ℕ) → IsRoomAt row taken unit → a ≡ unit_address unit → Updates nat_cmp blocks blocks' a (Some length) → MakesBlock now length (Ok (address a)) (live_of blocks' pools descriptors made)
    block_made blocks' unit a room a_is updates =
        let first = block_first unit room ∙ ap Some (sym a_is) in
        let free = room_is_free Live row taken kept.sound kept.row taken_some unit room in
        let here : is_free Live (block_range a length) ≡ true = ap (λ (x : ℕ). is_free Live (block_range x length)) a_is ∙ ap (λ (n : ℕ). is_free Live (region (unit_address unit) n)) (sym taken_is) ∙ free in
        subst (λ (s : LiveSet). MakesBlock s length (Ok (address a)) (live_of blocks' pools descriptors made)) is
        (first, record { may = here; after = block_view blocks' unit a a_is updates ∙ ap (λ (x : ℕ). after Live (MakeBlock length x)) (sym a_is) })

  -- ---- a block that is freed

  module _ (a : ℕ) (blocks' : BTreeMap ℕ ℕ) where
    pub no_block : tree.get nat_cmp blocks a ≡ None → blocks'.entries ≡ blocks.entries → BreaksRule now (FreeBlock a) live_rule (live_of blocks' pools descriptors made)
    no_block none same = record {
      may_not = ap (λ (s : LiveSet). may s (FreeBlock a)) (sym is) ∙ ap is_some (get-kept blocks a ∙ none);
      rule = refl;
      kept = ap (λ (es : List (ℕ × ℕ)). record Live { blocks = table.from_entries es }) same ∙ is;
    }

    module _ (length : ℕ) (found : tree.get nat_cmp blocks a ≡ Some length) where
      block_there : block_at Live a ≡ Some length
      block_there = get-kept blocks a ∙ found

      pub freed_low : 0x81000000 ≤ a
      freed_low = block_low Live pools row row kept a length block_there

      module _ (unit taken count : ℕ) (unit_is : unit ≡ (a - 0x81000000) / 16) (taken_is : taken ≡ max length 1) (count_is : count ≡ unit_count taken) where
        block_units : count ≡ unit_count (max length 1)
        block_units = count_is ∙ ap unit_count taken_is

        pub freed_inside : unit + count ≤ units
        freed_inside = let e = block_inside Live pools row row kept a length block_there in let c = block_units in omega (arith, e, unit_is, c)

        pub freed_taken : AreTaken (λ u. get_or row u 0) unit count
        freed_taken = subst (λ (u : ℕ). AreTaken (λ v. get_or row v 0) u count) (sym unit_is) (subst (AreTaken (λ v. get_or row v 0) ((a - 0x81000000) / 16)) (sym block_units) (block_taken Live pools row row kept a length block_there))

        pub freed_kept : (row' : List ℕ) → Updates nat_cmp blocks blocks' a None → Gives row row' unit count → AreKept (live_of blocks' pools descriptors made) row' pools
        freed_kept row' updates gives =
            subst (λ (bs : table.FinMap nat_cmp ℕ). AreKept (record Live { blocks = bs }) row' pools) (sym (kept-remove blocks blocks' a updates))
            (free_block_kept Live pools row row' kept a length block_there (subst (λ (n : ℕ). Gives row row' ((a - 0x81000000) / 16) n) block_units (subst (λ (u : ℕ). Gives row row' u count) unit_is gives)))

      pub block_freed : Updates nat_cmp blocks blocks' a None → Makes now (FreeBlock a) (live_of blocks' pools descriptors made)
      block_freed updates = subst (λ (s : LiveSet). Makes s (FreeBlock a) (live_of blocks' pools descriptors made)) is
          (record { may = ap is_some block_there; after = ap (λ (bs : table.FinMap nat_cmp ℕ). record Live { blocks = bs }) (kept-remove blocks blocks' a updates) })

-- ---- pools

pub pool_count : (now : LiveSet) (kind : Kind) (count : ℕ) → is_count count ≡ false → MakesPool now kind count (Err Count) now
pool_count now kind count none = (ap (λ b. refused (not b) Count (refused (not (is_some (pool_room now kind count))) NoRoom None)) none, refl)

module _ (blocks : BTreeMap ℕ ℕ) (pools pools' : BTreeMap ℕ KeptPool) (descriptors : BTreeMap ℕ Descriptor) (made : ℕ) (row : List ℕ) (now : LiveSet) (is : live_of blocks pools descriptors made ≡ now) (kept : AreKept (live_of blocks pools descriptors made) row pools) where
  abbrev Then : LiveSet
  Then = live_of blocks pools descriptors made

  -- a pool that is made

  module _ (kind : Kind) (count : ℕ) where
    module _ (counted : is_count count ≡ true) (size : ℕ) (size_is : size ≡ count * descriptor_size kind) where
      size_some : 1 ≤ size
      size_some = let some = some_size kind count (count_tells count counted).0 in omega (arith, some, size_is)

      by_room : (o : Option ℕ) → pool_room Then kind count ≡ o → pool_refusal now kind count ≡ refused (not (is_some o)) NoRoom None
      by_room o e = ap (λ (s : LiveSet). pool_refusal s kind count) (sym is) ∙ ap (λ b. refused (not b) Count (refused (not (is_some (pool_room Then kind count))) NoRoom None)) counted ∙ ap (λ x. refused (not (is_some x)) NoRoom None) e

      pub pool_no_room : IsRoom row size None → MakesPool now kind count (Err NoRoom) now
      pool_no_room none = (by_room None (ap (first_free Then) (sym size_is) ∙ no_room Then row size kept.sound kept.row size_some none), refl)

      room_is : (unit : ℕ) → IsRoomAt row size unit → pool_room Then kind count ≡ Some (unit_address unit)
      room_is unit room = ap (first_free Then) (sym size_is) ∙ room_is_first Then row size kept.sound kept.row size_some unit room

      pub pool_starved_here : (unit : ℕ) → IsRoomAt row size unit → MakesPool now kind count (Err OutOfMemory) now
      pool_starved_here unit room = (by_room (Some (unit_address unit)) (room_is unit room), refl)

      pub pool_starved : (unit : ℕ) → IsRoomAt row size unit → pools'.entries ≡ pools.entries → MakesPool now kind count (Err OutOfMemory) (live_of blocks pools' descriptors made)
      pool_starved unit room same =
          (by_room (Some (unit_address unit)) (room_is unit room), ap (λ (es : List (ℕ × KeptPool)). record Then { pools = table.from_entries (map (λ e. (e.0, e.1.pool)) es) }) same ∙ is)

      pub same_kept : pools'.entries ≡ pools.entries → AreKept (live_of blocks pools' descriptors made) row pools'
      same_kept same =
          subst (λ (s : LiveSet). AreKept s row pools') (ap (λ (es : List (ℕ × KeptPool)). record Then { pools = table.from_entries (map (λ e. (e.0, e.1.pool)) es) }) (sym same)) (record {
            sound = kept.sound;
            row = kept.row;
            idle = λ handle k found. kept.idle handle k (sym (ap (lookup (tree.is_at (nat_cmp handle))) same) ∙ found);
          })

      module _ (few : made < most_pools) (unit : ℕ) (room : IsRoomAt row size unit) (new : KeptPool) (new_is : new.pool ≡ new_pool kind count (unit_address unit)) (updates : Updates nat_cmp pools pools' (new_handle Then) (Some new)) where
        room_for : IsRoomAt row (count * descriptor_size kind) unit
        room_for = subst (λ (n : ℕ). IsRoomAt row n unit) size_is room

        pub pool_made_kept : (row' : List ℕ) (taken : ℕ) → AllFree count new.idle → taken ≡ unit_count size → Takes row row' unit taken → AreKept (live_of blocks pools' descriptors (made + 1)) row' pools'
        pool_made_kept row' taken all taken_is takes =
            subst (λ (s : LiveSet). AreKept s row' pools') (sym (pool_view blocks pools pools' descriptors made row row kept kind count unit new new_is counted few room_for updates))
            (pool_kept blocks pools pools' descriptors made row row' kept kind count unit new new_is counted few room_for updates all (subst (λ (n : ℕ). Takes row row' unit n) (taken_is ∙ ap unit_count size_is) takes))

        pub pool_made : (handle : ℕ) → handle ≡ new_handle Then → MakesPool now kind count (Ok handle) (live_of blocks pools' descriptors (made + 1))
        pool_made handle handle_is = subst (λ (s : LiveSet). MakesPool s kind count (Ok handle) (live_of blocks pools' descriptors (made + 1))) is (
          handle_is,
          record {
            may = and_true (is_count count) (is_some (pool_room Then kind count) && ltb made most_pools) counted (and_true (is_some (pool_room Then kind count)) (ltb made most_pools) (ap is_some (room_is unit room)) (lt-ltb made most_pools few));
            after = pool_view blocks pools pools' descriptors made row row kept kind count unit new new_is counted few room_for updates ∙ ap (with_pool Then kind count) (sym (room_is unit room));
          },
        )

  -- a pool that is freed

  module _ (handle : ℕ) where
    and_false : (a b : Bool) → b ≡ false → (a && b) ≡ false
    and_false true b e = e
    and_false false b e = refl

    by_kept : (found : Option KeptPool) → kept_at pools handle ≡ found → ((k : KeptPool) → kept_at pools handle ≡ Some k → AllIdle k → ⊥) → may Then (FreePool handle) ≡ false
    by_kept None e not_whole = ap (λ o. is_some o && not (has_out Then handle)) (get-seen pool_in pools handle ∙ ap (option_map pool_in) e)
    by_kept (Some k) e not_whole = and_false (is_some (pool_of Then handle)) (not (has_out Then handle)) (ap not (some_is_out blocks pools pools descriptors made row row kept handle k e (not_whole k e)))

    pub pool_not_whole : TellsWhole pools handle false → BreaksRule now (FreePool handle) live_rule now
    pool_not_whole not_whole = record { may_not = ap (λ (s : LiveSet). may s (FreePool handle)) (sym is) ∙ by_kept (kept_at pools handle) refl not_whole; rule = refl; kept = refl }

    -- the pool that was taken out is the one of which no descriptor is out
    module _ (whole : IsWhole pools handle) (old : KeptPool) (found : kept_at pools handle ≡ Some old) where
      all_idle : AllIdle old
      all_idle = subst AllIdle (same_some whole.kept old (sym whole.found ∙ found)) whole.all

      pub freed_pool_low : 0x81000000 ≤ old.pool.first.0
      freed_pool_low = pool_low blocks pools pools descriptors made row row kept handle old found

      pub freed_pool_small : old.pool.count * descriptor_size old.pool.kind ≤ 0x800000
      freed_pool_small = let e = (kept.sound.placed (PoolOf handle) (pool_range old.pool) (ap (option_map pool_range) (old_lives blocks pools pools descriptors made row row kept handle old found))).inside in let low = freed_pool_low in omega (arith, e, low)

      pub freed_pool_some : 1 ≤ old.pool.count * descriptor_size old.pool.kind
      freed_pool_some = old_size blocks pools pools descriptors made row row kept handle old found

      module _ (unit size count : ℕ) (unit_is : unit ≡ (old.pool.first.0 - 0x81000000) / 16) (size_is : size ≡ old.pool.count * descriptor_size old.pool.kind) (count_is : count ≡ unit_count size) where
        pool_units : count ≡ unit_count (old.pool.count * descriptor_size old.pool.kind)
        pool_units = count_is ∙ ap unit_count size_is

        pub freed_pool_inside : unit + count ≤ units
        freed_pool_inside = let e = pool_inside blocks pools pools descriptors made row row kept handle old found in let c = pool_units in omega (arith, e, unit_is, c)

        pub freed_pool_taken : AreTaken (λ u. get_or row u 0) unit count
        freed_pool_taken = subst (λ (u : ℕ). AreTaken (λ v. get_or row v 0) u count) (sym unit_is) (subst (AreTaken (λ v. get_or row v 0) ((old.pool.first.0 - 0x81000000) / 16)) (sym pool_units) (pool_taken blocks pools pools descriptors made row row kept handle old found))

        pub freed_pool_kept : (row' : List ℕ) → Updates nat_cmp pools pools' handle None → Gives row row' unit count → AreKept (live_of blocks pools' descriptors made) row' pools'
        freed_pool_kept row' updates gives =
            subst (λ (s : LiveSet). AreKept s row' pools') (sym (free_pool_view blocks pools pools' descriptors made row row kept handle old found updates))
            (free_pool_kept blocks pools pools' descriptors made row row' kept handle old found all_idle updates (subst (λ (n : ℕ). Gives row row' ((old.pool.first.0 - 0x81000000) / 16) n) pool_units (subst (λ (u : ℕ). Gives row row' u count) unit_is gives)))

      pub pool_freed : Updates nat_cmp pools pools' handle None → Makes now (FreePool handle) (live_of blocks pools' descriptors made)
      pool_freed updates = subst (λ (s : LiveSet). Makes s (FreePool handle) (live_of blocks pools' descriptors made)) is (record {
        may = and_true (is_some (pool_of Then handle)) (not (has_out Then handle)) (ap is_some (old_lives blocks pools pools descriptors made row row kept handle old found)) (ap not (none_is_out blocks pools pools descriptors made row row kept handle old found all_idle));
        after = free_pool_view blocks pools pools' descriptors made row row kept handle old found updates;
      })

-- ---- at first

pub new_kept : (blocks : BTreeMap ℕ ℕ) (pools : BTreeMap ℕ KeptPool) (descriptors : BTreeMap ℕ Descriptor) (row : List ℕ) → blocks.entries ≡ [] → pools.entries ≡ [] → descriptors.entries ≡ [] → AllFree units row → AreKept (live_of blocks pools descriptors 0) row pools
new_kept blocks pools descriptors row no_blocks no_pools no_descriptors all =
    subst (λ (s : LiveSet). AreKept s row pools) (sym is_nothing) (record {
      sound = sound_start;
      row = record { size = all.size; forth = λ unit free o r found covers. absurd (none_there o r found); back = λ unit less none. all.free unit less };
      idle = λ handle k found. absurd (none_some k (sym (ap (lookup (tree.is_at (nat_cmp handle))) no_pools) ∙ found));
    })
  where
    is_nothing : live_of blocks pools descriptors 0 ≡ nothing
    is_nothing = λ i. record { blocks = table.from_entries (no_blocks i); pools = table.from_entries (map (λ e. (e.0, e.1.pool)) (no_pools i)); descriptors = table.from_entries (no_descriptors i); made = 0 }

    none_there : (q : Owner) (r : Region) → range_of nothing q ≡ Some r → ⊥
    none_there (BlockAt a) r found = none_some r (sym (ap (option_map (block_range a)) (table.get-empty {X = ℕ} nat_cmp a)) ∙ found)
    none_there (PoolOf handle) r found = none_some r (sym (ap (option_map pool_range) (table.get-empty {X = Pool} nat_cmp handle)) ∙ found)

-- ---- descriptors

module _ (blocks : BTreeMap ℕ ℕ) (pools pools' : BTreeMap ℕ KeptPool) (descriptors descriptors' : BTreeMap ℕ Descriptor) (made : ℕ) (row : List ℕ) (now : LiveSet) (is : live_of blocks pools descriptors made ≡ now) (kept : AreKept (live_of blocks pools descriptors made) row pools) where
  abbrev Was : LiveSet
  Was = live_of blocks pools descriptors made

  -- a descriptor that is taken

  module _ (kind : Kind) (handle : ℕ) where
    -- each descriptor of a pool that has no idle one is out
    full_out : (p : Pool) (n : ℕ) → ((number : ℕ) → number < n → descriptor_at Was (place_of p number) ≡ None → ⊥) → are_out Was p n ≡ true
    unfolding are_out
    full_out p zero none = refl
    full_out p (suc n) none = and_true (is_some (descriptor_at Was (place_of p n))) (are_out Was p n) (some_if (descriptor_at Was (place_of p n)) (none n (omega arith))) (full_out p n (λ number less. none number (omega arith)))
      where
        some_if : (o : Option Descriptor) → (o ≡ None → ⊥) → is_some o ≡ true
        some_if None h = absurd (h refl)
        some_if (Some d) h = refl

    not_full : (p : Pool) (n number : ℕ) → number < n → descriptor_at Was (place_of p number) ≡ None → are_out Was p n ≡ false
    unfolding are_out
    not_full p zero number less none = absurd (omega arith)
    not_full p (suc n) number less none =
        ⊎_elim (λ more. and_false_right (is_some (descriptor_at Was (place_of p n))) (are_out Was p n) (not_full p n number more none))
        (λ ge. let e : n ≡ number = omega arith in ap (λ b. b && are_out Was p n) (ap (λ (k : ℕ). is_some (descriptor_at Was (place_of p k))) e ∙ ap is_some none)) (cases_lt number n)
      where
        and_false_right : (a b : Bool) → b ≡ false → (a && b) ≡ false
        and_false_right true b e = e
        and_false_right false b e = refl

    pool_is : (k : KeptPool) → kept_at pools handle ≡ Some k → pool_of Was handle ≡ Some k.pool
    pool_is k found = lives blocks pools descriptors made handle k found

    of_pool : (p : Pool) → p.kind ≡ kind → is_same p.kind kind ≡ true
    of_pool p e = ap (is_same p.kind) (sym e) ∙ is_same_self p.kind

    refusal_at : (p : Pool) → pool_of Was handle ≡ Some p → p.kind ≡ kind → descriptor_refusal Was kind handle ≡ refused (is_full Was p) PoolFull None
    refusal_at p found same =
        ap (λ o. refused (not (is_pool_of kind o)) NoPool (refused (is_full_pool Was o) PoolFull None)) found
        ∙ ap (λ b. refused (not b) NoPool (refused (is_full Was p) PoolFull None)) (of_pool p same)

    pub descriptor_refused : (e : PoolRefusal) → FindsIdle pools kind handle (Err e) → Allocates now kind handle (Err e) now
    descriptor_refused OutOfMemory h = absurd h
    descriptor_refused Count h = absurd h
    descriptor_refused NoRoom h = absurd h
    descriptor_refused NoPool h = (ap (λ (s : LiveSet). descriptor_refusal s kind handle) (sym is) ∙ ap (λ b. refused (not b) NoPool (refused (is_full_pool Was (pool_of Was handle)) PoolFull None)) (ap (is_pool_of kind) (get-seen pool_in pools handle) ∙ h), refl)
    descriptor_refused PoolFull h =
        let found = pool_is h.kept h.found in (
          ap (λ (s : LiveSet). descriptor_refusal s kind handle) (sym is) ∙ refusal_at h.kept.pool found h.of_kind
              ∙ ap (λ b. refused b PoolFull None) (full_out h.kept.pool h.kept.pool.count (λ number less none. h.full number ((kept.idle handle h.kept h.found).back number less none))),
          refl,
        )

    module _ (place at : ℕ) (idle : IsIdleAt pools kind handle (record { place = place; at = at })) where
      idle_none : descriptor_at Was at ≡ None
      idle_none = ap (descriptor_at Was) idle.at ∙ (kept.idle handle idle.has.kept idle.has.found).forth place idle.less idle.free

      pub descriptor_starved : descriptors'.entries ≡ descriptors.entries → Allocates now kind handle (Err OutOfMemory) (live_of blocks pools descriptors' made)
      descriptor_starved same = (
        ap (λ (s : LiveSet). descriptor_refusal s kind handle) (sym is) ∙ refusal_at idle.has.kept.pool (pool_is idle.has.kept idle.has.found) idle.of_kind
            ∙ ap (λ b. refused b PoolFull None) (not_full idle.has.kept.pool idle.has.kept.pool.count place idle.less (ap (descriptor_at Was) (sym idle.at) ∙ idle_none)),
        ap (λ (es : List (ℕ × Descriptor)). record Was { descriptors = table.from_entries es }) same ∙ is,
      )

      module _ (takes : TakesPlace pools pools' handle place) (updates : Updates nat_cmp descriptors descriptors' at (Some (record { kind = kind; pool = handle; lent = false }))) where
        same_pool_kept : idle.has.kept ≡ takes.old
        same_pool_kept = same_some idle.has.kept takes.old (sym idle.has.found ∙ takes.found)

        old_kind : takes.old.pool.kind ≡ kind
        old_kind = ap (λ (k : KeptPool). k.pool.kind) (sym same_pool_kept) ∙ idle.of_kind

        old_less : place < takes.old.pool.count
        old_less = subst (λ (k : KeptPool). place < k.pool.count) same_pool_kept idle.less

        old_at : at ≡ place_of takes.old.pool place
        old_at = idle.at ∙ ap (λ (k : KeptPool). place_of k.pool place) same_pool_kept

        view : live_of blocks pools' descriptors' made ≡ after Was (Allocate kind handle (place_of takes.old.pool place))
        view = taken_view blocks pools pools' descriptors descriptors' made row kept kind handle place takes old_kind old_less (record { kind = kind; pool = handle; lent = false }) at old_at updates

        pub descriptor_taken_kept : AreKept (live_of blocks pools' descriptors' made) row pools'
        descriptor_taken_kept = subst (λ (s : LiveSet). AreKept s row pools') (sym view) (taken_kept blocks pools pools' descriptors descriptors' made row kept kind handle place takes old_kind old_less (record { kind = kind; pool = handle; lent = false }) refl)

        is_place : is_place_in takes.old.pool at ≡ true
        is_place = ap (is_place_in takes.old.pool) old_at ∙ place_is takes.old.pool place old_less

        pub descriptor_taken : Allocates now kind handle (Ok (address at)) (live_of blocks pools' descriptors' made)
        descriptor_taken = subst (λ (s : LiveSet). Makes s (Allocate kind handle at) (live_of blocks pools' descriptors' made)) is (record {
          may =
              let found = pool_is takes.old takes.found in
              and_true (is_pool_of kind (pool_of Was handle)) (is_place_of_pool (pool_of Was handle) at && not (is_some (descriptor_at Was at))) (ap (is_pool_of kind) found ∙ of_pool takes.old.pool old_kind)
              (and_true (is_place_of_pool (pool_of Was handle) at) (not (is_some (descriptor_at Was at))) (ap (λ o. is_place_of_pool o at) found ∙ is_place) (ap (λ o. not (is_some o)) idle_none));
          after = view ∙ ap (λ (a : ℕ). after Was (Allocate kind handle a)) (sym old_at);
        })

        -- it lies in the guest pool
        pub descriptor_inside : IsInside (region at (descriptor_size kind)) guest.pool
        descriptor_inside =
            let placed = kept.sound.placed (PoolOf handle) (pool_range takes.old.pool) (ap (option_map pool_range) (pool_is takes.old takes.found)) in
            let low = placed.at in
            let inside = placed.inside in
            let w = (place_facts takes.old.pool.kind takes.old.pool.first.0 takes.old.pool.count place old_less).3 in
            let size : descriptor_size takes.old.pool.kind ≡ descriptor_size kind = ap descriptor_size old_kind in
            let e = old_at in
            record { from = omega (arith, low, e); to = omega (arith, inside, e, w, size) }

  -- a descriptor that is given back

  module _ (kind : Kind) (at : ℕ) where
    out_there : (found : Option Descriptor) → tree.get nat_cmp descriptors at ≡ found → descriptor_at Was at ≡ found
    out_there found e = get-kept descriptors at ∙ e

    by_found : (found : Option Descriptor) → tree.get nat_cmp descriptors at ≡ found → may now (Free kind at) ≡ (is_of_kind kind found && not (is_lent_in found))
    by_found found e = ap (λ (s : LiveSet). may s (Free kind at)) (sym is) ∙ ap (λ o. is_of_kind kind o && not (is_lent_in o)) (out_there found e)

    pub not_out : tree.get nat_cmp descriptors at ≡ None → BreaksRule now (Free kind at) live_rule now
    not_out none = record { may_not = by_found None none; rule = refl; kept = refl }

    pub not_free : (d : Descriptor) → tree.get nat_cmp descriptors at ≡ Some d → (is_same d.kind kind && not d.lent) ≡ false → BreaksRule now (Free kind at) live_rule now
    not_free d found bad = record { may_not = by_found (Some d) found ∙ bad; rule = refl; kept = refl }

    pub never_none : tree.get nat_cmp descriptors at ≡ None → is_out now kind at ≡ true → ⊥
    never_none none out = false≢true (out_is_none none ∙ out)
      where
        out_is_none : tree.get nat_cmp descriptors at ≡ None → false ≡ is_out now kind at
        out_is_none e = ap (is_of_kind kind) (sym (out_there None e)) ∙ ap (λ (s : LiveSet). is_out s kind at) is

    -- what look-ups answer
    pub out_is : (found : Option Descriptor) → tree.get nat_cmp descriptors at ≡ found → is_of_kind kind found ≡ is_out now kind at
    out_is found e = ap (is_of_kind kind) (sym (out_there found e)) ∙ ap (λ (s : LiveSet). is_out s kind at) is

    pub lent_is : (found : Option Descriptor) → tree.get nat_cmp descriptors at ≡ found → (is_of_kind kind found && is_lent_in found) ≡ (is_out now kind at && is_lent now at)
    lent_is found e = ap (λ o. is_of_kind kind o && is_lent_in o) (sym (out_there found e)) ∙ ap (λ (s : LiveSet). is_out s kind at && is_lent s at) is

    module _ (d : Descriptor) (found : tree.get nat_cmp descriptors at ≡ Some d) where
      pub can_give : IsOutAt pools d.pool at
      can_give = out_at blocks pools pools descriptors descriptors made row kept at d (out_there (Some d) found)

      module _ (gives : GivesPlace pools pools' d.pool at) (updates : Updates nat_cmp descriptors descriptors' at None) where
        pub descriptor_given_kept : AreKept (live_of blocks pools' descriptors' made) row pools'
        descriptor_given_kept = subst (λ (s : LiveSet). AreKept s row pools') (sym (given_view blocks pools pools' descriptors descriptors' made row kept d.pool at gives kind updates)) (given_kept blocks pools pools' descriptors descriptors' made row kept d.pool at gives kind)

        pub descriptor_given : (is_same d.kind kind && not d.lent) ≡ true → Makes now (Free kind at) (live_of blocks pools' descriptors' made)
        descriptor_given good = subst (λ (s : LiveSet). Makes s (Free kind at) (live_of blocks pools' descriptors' made)) is (record {
          may = ap (λ o. is_of_kind kind o && not (is_lent_in o)) (out_there (Some d) found) ∙ good;
          after = given_view blocks pools pools' descriptors descriptors' made row kept d.pool at gives kind updates;
        })

  -- a packet that is marked

  module _ (at : ℕ) (lent : Bool) (d : Descriptor) (found : tree.get nat_cmp descriptors at ≡ Some d) (updates : Updates nat_cmp descriptors descriptors' at (Some (record d { lent = lent }))) where
    marked_view : live_of blocks pools descriptors' made ≡ marked Was at lent (descriptor_at Was at)
    marked_view =
        ap (λ (ds : table.FinMap nat_cmp Descriptor). record Was { descriptors = ds }) (kept-insert descriptors descriptors' at (record d { lent = lent }) updates)
        ∙ ap (marked Was at lent) (sym (get-kept descriptors at ∙ found))

    pub marked_kept : AreKept (live_of blocks pools descriptors' made) row pools
    marked_kept =
        let at_is : descriptor_at Was at ≡ Some d = get-kept descriptors at ∙ found in
        let s' : LiveSet = record Was { descriptors = table.insert Was.descriptors at (record d { lent = lent }) } in
        let there_too : (a : ℕ) → (descriptor_at s' a ≡ None → descriptor_at Was a ≡ None) × (descriptor_at Was a ≡ None → descriptor_at s' a ≡ None) = λ a. marked_none a in
        subst (λ (s : LiveSet). AreKept s row pools) (sym (marked_view ∙ ap (marked Was at lent) at_is)) (record {
          sound = sound_marked Was at lent (Some d) kept.sound at_is;
          row = row_same Was s' row (λ q t is. is) (λ q t is. is) kept.row;
          idle = λ handle k is_there. let old = kept.idle handle k is_there in record {
            size = old.size;
            forth = λ number less free. (there_too (place_of k.pool number)).1 (old.forth number less free);
            back = λ number less none. old.back number less ((there_too (place_of k.pool number)).0 none);
          };
        })
      where
        marked_none : (a : ℕ) → (descriptor_at (record Was { descriptors = table.insert Was.descriptors at (record d { lent = lent }) }) a ≡ None → descriptor_at Was a ≡ None) × (descriptor_at Was a ≡ None → descriptor_at (record Was { descriptors = table.insert Was.descriptors at (record d { lent = lent }) }) a ≡ None)
        marked_none a =
            ⊎_elim (λ (same : a ≡ at). (
              λ none. absurd (none_some (record d { lent = lent }) (sym none ∙ ap (table.get (table.insert Was.descriptors at (record d { lent = lent }))) same ∙ insert_here Was.descriptors at (record d { lent = lent }))),
              λ none. absurd (none_some d (sym none ∙ ap (descriptor_at Was) same ∙ get-kept descriptors at ∙ found)),
            ))
            (λ ne. let e = insert_other Was.descriptors at (record d { lent = lent }) a ne in (λ none. sym e ∙ none, λ none. e ∙ none)) (cases_eq a at)

    pub marked_after : live_of blocks pools descriptors' made ≡ marked now at lent (descriptor_at now at)
    marked_after = marked_view ∙ ap (λ (s : LiveSet). marked s at lent (descriptor_at s at)) is
