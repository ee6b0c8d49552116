-- Where a row says that an address is picked, a free one is there.
use Rattle.std.proofs.Common.{rules, ◌≡◌, ℕ, zero, suc, ◌+◌, ◌*◌, ◌/◌, ◌%◌, ◌<◌, ◌≤◌, Bool, true, false, cond, ◌&&◌, not, List, [], ◌∷◌, slice_index_or, refl, sym, subst, Option, Some, None, Result, Ok, Err, arith}
use Rattle.std.specs.Prelude.{⊤, ◌-◌, max, nat_le, length, is_some}
use Rattle.std.specs.Option.{option_and_then}
use Rattle.std.proofs.lemmas.Bool.{eq-eqb, le-leb, lt-ltb}
use Rattle.guest_map.specs.Regions.{end_of, region}
use Rattle.nd_base.specs.declared.numbers.Breach.{Breach}
use Rattle.nd_base.specs.declared.numbers.CtxNo.{CtxNo}
use Rattle.irql_lock.specs.LockState.{LockState, level_of}
use Rattle.inf_file.specs.ByName.{value_of}
use Rattle.packet_pool.specs.declared.states.Kind.{Kind}
use Rattle.packet_pool.specs.declared.states.Pool.{Pool}
use Rattle.packet_pool.specs.declared.states.PoolRefusal.{PoolRefusal}
use Rattle.packet_pool.specs.declared.states.Kind.TheVariants.{Packet, Buffer}
use Rattle.packet_pool.specs.LiveSet.{LiveSet, pool_of, descriptor_at, descriptor_size, place_of, pool_range, is_place_in, are_out, is_free, first_free}
use Rattle.packet_pool.specs.LiveMoves.{LiveMove, MakeBlock, Allocate, may, pool_refusal, is_pool_of, is_place_of_pool, is_full_pool}
use Rattle.import_table.specs.Table.{Row}
use Rattle.guest_world.specs.declared.miniport.Miniport.{Miniport}
use Rattle.guest_world.specs.declared.answer.Caller.{Caller}
use Rattle.guest_world.specs.declared.world.World.{World}
use Rattle.import_answers.specs.Outcomes.{Outcome, Picks, PicksDescriptor, asks, arguments_rule, can_write}
use Rattle.import_answers.specs.Registration as r
use Rattle.import_answers.specs.Configuration as c
use Rattle.import_answers.specs.Blocks as b
use Rattle.import_answers.specs.Descriptors as d
use Rattle.import_answers.specs.Levels as l
use Rattle.import_answers.specs.Ports as p
use Rattle.import_answers.specs.Answers.{Answering, answering, none_such, level_rule, eight, outcome}
use Rattle.import_answers.specs.Statuses.{resources}
use Rattle.import_answers.specs.World.{cells, word, params_of}

-- ---- an address that may be picked

pub record IsRoom (s : LiveSet) (move : ℕ → LiveMove) : Type 0 where
  pub at : ℕ
  pub may : may s (move at) ≡ true

abbrev pub RoomIn : World → Outcome → Type 0
RoomIn w (Picks n reply world) = IsRoom w.pools (MakeBlock n)
RoomIn w (PicksDescriptor kind handle reply world) = IsRoom w.pools (Allocate kind handle)
RoomIn w _ = ⊤

-- the first free range is free (a law of crates/packet_pool)
abbrev pub FirstFree : Type 0
FirstFree = (s : LiveSet) (length a : ℕ) → first_free s length ≡ Some a → is_free s (region a length) ≡ true

block_room : FirstFree → (w : World) (n : ℕ) → b.has_room w n ≡ true → IsRoom w.pools (MakeBlock n)
block_room first_is_free w n h = by_first (first_free w.pools (max n 1)) refl h
  where
    by_first : (o : Option ℕ) → first_free w.pools (max n 1) ≡ o → is_some o ≡ true → IsRoom w.pools (MakeBlock n)
    by_first None is h = absurd (cc)
    by_first (Some a) is h = record { at = a; may = first_is_free w.pools (max n 1) a is }

-- ---- a descriptor of a pool that is not full

record IsIdle (s : LiveSet) (p : Pool) (n : ℕ) : Type 0 where
  pub number : ℕ
  pub less : number < n
  pub none : is_some (descriptor_at s (place_of p number)) ≡ false

some_idle : (s : LiveSet) (p : Pool) (n : ℕ) → are_out s p n ≡ false → IsIdle s p n
unfolding are_out
some_idle s p zero h = absurd (cc)
some_idle s p (suc n) h = by_test (is_some (descriptor_at s (place_of p n))) refl h (λ rest. some_idle s p n rest)
  where
    by_test : (t : Bool) → is_some (descriptor_at s (place_of p n)) ≡ t → (t && are_out s p n) ≡ false → (are_out s p n ≡ false → IsIdle s p n) → IsIdle s p (suc n)
    by_test false is h more = record { number = n; less = omega arith; none = is }
    by_test true is h more = let found = more h in record { number = found.number; less = omega (arith, found.less); none = found.none }

place_facts : (kind : Kind) (first count number : ℕ) → number < count → (first ≤ first + number * descriptor_size kind) × (first + number * descriptor_size kind < first + count * descriptor_size kind)
    × ((first + number * descriptor_size kind - first) % descriptor_size kind ≡ 0)
place_facts Packet first count number less = (omega arith, omega arith, omega arith)
place_facts Buffer first count number less = (omega arith, omega arith, omega arith)

in_place : (p : Pool) (number : ℕ) → number < p.count → is_place_in p (place_of p number) ≡ true
in_place p number less =
    let w = place_facts p.kind p.first.0 p.count number less in
    rw (le-leb p.first.0 (place_of p number) w.0) (rw (lt-ltb (place_of p number) (end_of (pool_range p)) w.1) (rw (eq-eqb ((place_of p number - p.first.0) % descriptor_size p.kind) 0 w.2) refl))

descriptor_idle : (s : LiveSet) (kind : Kind) (handle : ℕ) (p : Option Pool) → pool_of s handle ≡ p → is_pool_of kind p ≡ true → is_full_pool s p ≡ false → IsRoom s (Allocate kind handle)
descriptor_idle s kind handle None is of full = absurd (cc)
descriptor_idle s kind handle (Some p) is of full =
    let found = some_idle s p p.count full in
    let a : ℕ = place_of p found.number in
    record { at = a; may = subst (λ (o : Option Pool). (is_pool_of kind o && (is_place_of_pool o a && not (is_some (descriptor_at s a)))) ≡ true) (sym is) (rw of (rw (in_place p found.number found.less) (rw found.none refl))) }

-- ---- each row

asked : (w : World) (t : Bool) (rule : ℕ) (o : Outcome) → (t ≡ true → RoomIn w o) → RoomIn w (asks t rule o)
asked w true rule o h = h refl
asked w false rule o h = tt

either : (w : World) (t : Bool) (x y : Outcome) → (t ≡ true → RoomIn w x) → (t ≡ false → RoomIn w y) → RoomIn w (cond t x y)
either w true x y one other = one refl
either w false x y one other = other refl

given_room : FirstFree → (w : World) (words : List ℕ) (o : Option c.Read) → RoomIn w (c.given_value w words o)
given_room first_is_free w words None = tt
given_room first_is_free w words (Some read) =
    let picks : Outcome = Picks (c.block_length read) (c.value_reply words read) (b.with_block w (c.block_length read)) in
    either w (b.has_room w (c.block_length read)) (asks (can_write w (word words 2) 4) arguments_rule picks) (c.without_value w words resources)
    (λ is. asked w (can_write w (word words 2) 4) arguments_rule picks (λ may. block_room first_is_free w (c.block_length read) is)) (λ is. tt)

given_address_room : FirstFree → (w : World) (words : List ℕ) (o : Option (List ℕ)) → RoomIn w (c.given_address w words o)
given_address_room first_is_free w words None = tt
given_address_room first_is_free w words (Some bytes) =
    let picks : Outcome = Picks 6 (c.address_reply words bytes) (b.with_block w 6) in
    either w (b.has_room w 6) (asks (can_write w (word words 2) 4 && can_write w (word words 3) 4) arguments_rule picks) (c.without_value w words resources)
    (λ is. asked w (can_write w (word words 2) 4 && can_write w (word words 3) 4) arguments_rule picks (λ may. block_room first_is_free w 6 is)) (λ is. tt)

memory_room : FirstFree → (w : World) (words : List ℕ) → RoomIn w (b.allocate_memory w words)
memory_room first_is_free w words = search (rules, asked, either, block_room first_is_free)

descriptor_room : (w : World) (kind : Kind) (words : List ℕ) → RoomIn w (d.allocate_descriptor w kind words)
descriptor_room w kind words = search (rules, asked, either, descriptor_idle)

pool_room : (w : World) (kind : Kind) (words : List ℕ) (refusal : Option PoolRefusal) → RoomIn w (d.given_pool w kind words refusal)
pool_room w kind words (Some refusal) = tt
pool_room w kind words None = tt

registers_room : (w : World) (m : Result Miniport ℕ) → RoomIn w (r.registers w m)
registers_room w (Ok m) = tt
registers_room w (Err status) = tt

unchained_room : (w : World) (words : List ℕ) (head : ℕ) → RoomIn w (d.unchained w words head)
unchained_room w words zero = search rules
unchained_room w words (suc head) = search rules

totalled_name : (w : World) (words : List ℕ) (head : ℕ) (total : Option ℕ) → RoomIn w (d.totalled w words head total)
totalled_name w words head None = tt
totalled_name w words head (Some total) = search rules

first_room : (w : World) (words : List ℕ) (head : ℕ) → RoomIn w (d.first_buffer w words head)
first_room w words zero = search rules
first_room w words (suc head) = totalled_name w words (suc head) _

move_room : (w : World) (eax : ℕ) (moved : Result LockState Breach) → RoomIn w (l.after_move w eax moved)
move_room w eax (Ok levels) = tt
move_room w eax (Err broken) = tt

spin_room : (w : World) (holder : Option CtxNo) (moved : Result LockState Breach) → RoomIn w (l.got_or_spins w holder moved)
spin_room w None (Ok levels) = tt
spin_room w (Some holder) (Ok levels) = tt
spin_room w holder (Err broken) = tt

read_room : (w : World) (x : Caller) (words : List ℕ) (width : ℕ) (port : Option ℕ) → RoomIn w (p.read_port w x words width port)
read_room w x words width None = tt
read_room w x words width (Some port) = tt

write_room : (w : World) (x : Caller) (words : List ℕ) (width : ℕ) (port : Option ℕ) → RoomIn w (p.write_port w x words width port)
write_room w x words width None = tt
write_room w x words width (Some port) = tt

reads_room : (w : World) (x : Caller) (words : List ℕ) (width : ℕ) (port : Option ℕ) → RoomIn w (p.read_buffer w x words width port)
reads_room w x words width None = tt
reads_room w x words width (Some port) = tt

writes_room : (w : World) (x : Caller) (words : List ℕ) (width : ℕ) (port : Option ℕ) → RoomIn w (p.write_buffer w x words width port)
writes_room w x words width None = tt
writes_room w x words width (Some port) = tt

abbrev RowRoom : Answering → Type 0
RowRoom f = (w : World) (x : Caller) (words : List ℕ) → RoomIn w (f w x words)

abbrev AllRoom : List Answering → Type 0
AllRoom [] = ⊤
AllRoom (f ∷ fs) = RowRoom f × AllRoom fs

all_room : FirstFree → AllRoom answering
unfolding answering
all_room first_is_free = (
  (λ w x words. search rules),
  (
    (λ w x words. tt),
    (
      (λ w x words. let h = registers_room w (r.judged (cells w) (word words 2) (word words 3)) in search rules),
      (
        (λ w x words. move_room w _ _),
        (
          (λ w x words. move_room w _ _),
          (
            (λ w x words. search rules),
            (
              (λ w x words. search rules),
              (
                (λ w x words. let h = given_room first_is_free w words (option_and_then (c.read_as (word words 5)) (value_of (c.units_at (cells w) (c.counted_at (cells w) (word words 4)).characters ((c.counted_at (cells w) (word words 4)).length / 2)) (params_of w x.adapter))) in search rules),
                (
                  (λ w x words. search rules),
                  (
                    (λ w x words. let h = given_address_room first_is_free w words (option_and_then c.address_in (value_of c.network_address (params_of w x.adapter))) in search rules),
                    (
                      (λ w x words. search rules),
                      (
                        (λ w x words. search rules),
                        (
                          (λ w x words. search rules),
                          (
                            (λ w x words. search rules),
                            (
                              (λ w x words. search rules),
                              (
                                (λ w x words. search rules),
                                (
                                  (λ w x words. search rules),
                                  (
                                    (λ w x words. search rules),
                                    (
                                      (λ w x words. search rules),
                                      (
                                        (λ w x words. tt),
                                        (
                                          (λ w x words. memory_room first_is_free w words),
                                          (
                                            (λ w x words. search rules),
                                            (
                                              (λ w x words. let h = pool_room w Packet words (pool_refusal w.pools Packet (word words 3)) in search rules),
                                              (
                                                (λ w x words. search rules),
                                                (
                                                  (λ w x words. descriptor_room w Packet words),
                                                  (
                                                    (λ w x words. search rules),
                                                    (
                                                      (λ w x words. let h = pool_room w Buffer words (pool_refusal w.pools Buffer (word words 3)) in search rules),
                                                      (
                                                        (λ w x words. search rules),
                                                        (
                                                          (λ w x words. descriptor_room w Buffer words),
                                                          (
                                                            (λ w x words. search rules),
                                                            (
                                                              (λ w x words. let h = unchained_room w words (d.head_of w (word words 1)) in search rules),
                                                              (
                                                                (λ w x words. search rules),
                                                                (
                                                                  (λ w x words. move_room w _ _),
                                                                  (
                                                                    (λ w x words. move_room w _ _),
                                                                    (
                                                                      (λ w x words. spin_room w _ _),
                                                                      (
                                                                        (λ w x words. move_room w _ _),
                                                                        (
                                                                          (λ w x words. spin_room w _ _),
                                                                          (
                                                                            (λ w x words. move_room w _ _),
                                                                            (
                                                                              (λ w x words. search rules),
                                                                              (
                                                                                (λ w x words. search rules),
                                                                                (
                                                                                  (λ w x words. search rules),
                                                                                  (
                                                                                    (λ w x words. search rules),
                                                                                    (
                                                                                      (λ w x words. search rules),
                                                                                      (
                                                                                        (λ w x words. search rules),
                                                                                        (
                                                                                          (λ w x words. search rules),
                                                                                          (
                                                                                            (λ w x words. search rules),
                                                                                            (
                                                                                              (λ w x words. search rules),
                                                                                              (
                                                                                                (λ w x words. search rules),
                                                                                                (
                                                                                                  (λ w x words. search rules),
                                                                                                  (
                                                                                                    (λ w x words. search rules),
                                                                                                    (
                                                                                                      (λ w x words. search rules),
                                                                                                      (
                                                                                                        (λ w x words. let h = first_room w words (d.head_of w (word words 1)) in search rules),
                                                                                                        (
                                                                                                          (λ w x words. read_room w x words 1 _),
                                                                                                          (
                                                                                                            (λ w x words. read_room w x words 2 _),
                                                                                                            (
                                                                                                              (λ w x words. write_room w x words 1 _),
                                                                                                              (
                                                                                                                (λ w x words. write_room w x words 2 _),
                                                                                                                (
                                                                                                                  (λ w x words. let h = reads_room w x words 1 (p.offset_of_port w x.adapter (word words 1)) in search rules),
                                                                                                                  (
                                                                                                                    (λ w x words. let h = reads_room w x words 2 (p.offset_of_port w x.adapter (word words 1)) in search rules),
                                                                                                                    (
                                                                                                                      (λ w x words. let h = writes_room w x words 1 (p.offset_of_port w x.adapter (word words 1)) in search rules),
                                                                                                                      (
                                                                                                                        (λ w x words. let h = writes_room w x words 2 (p.offset_of_port w x.adapter (word words 1)) in search rules),
                                                                                                                        (
                                                                                                                          (λ w x words. tt),
                                                                                                                          (
                                                                                                                            (λ w x words. search rules),
                                                                                                                            (
                                                                                                                              (λ w x words. search rules),
                                                                                                                              (
                                                                                                                                (λ w x words. tt),
                                                                                                                                tt,
                                                                                                                              ),
                                                                                                                            ),
                                                                                                                          ),
                                                                                                                        ),
                                                                                                                      ),
                                                                                                                    ),
                                                                                                                  ),
                                                                                                                ),
                                                                                                              ),
                                                                                                            ),
                                                                                                          ),
                                                                                                        ),
                                                                                                      ),
                                                                                                    ),
                                                                                                  ),
                                                                                                ),
                                                                                              ),
                                                                                            ),
                                                                                          ),
                                                                                        ),
                                                                                      ),
                                                                                    ),
                                                                                  ),
                                                                                ),
                                                                              ),
                                                                            ),
                                                                          ),
                                                                        ),
                                                                      ),
                                                                    ),
                                                                  ),
                                                                ),
                                                              ),
                                                            ),
                                                          ),
                                                        ),
                                                      ),
                                                    ),
                                                  ),
                                                ),
                                              ),
                                            ),
                                          ),
                                        ),
                                      ),
                                    ),
                                  ),
                                ),
                              ),
                            ),
                          ),
                        ),
                      ),
                    ),
                  ),
                ),
              ),
            ),
          ),
        ),
      ),
    ),
  ),
)

at_room : (fs : List Answering) → AllRoom fs → (n : ℕ) → RowRoom (slice_index_or fs n none_such)
at_room [] all n w x words = tt
at_room (f ∷ fs) all zero w x words = all.0 w x words
at_room (f ∷ fs) all (suc n) w x words = at_room fs all.1 n w x words

pub outcome_room : FirstFree → (w : World) (x : Caller) (row : Row) (words : List ℕ) → RoomIn w (outcome w x row words)
outcome_room first_is_free w x row words =
    let f : Answering = slice_index_or answering (row.import - 1) none_such in
    let own : RoomIn w (f w x (eight words)) = at_room answering (all_room first_is_free) (row.import - 1) w x (eight words) in
    let counted = asked w (nat_le row.words (length words)) arguments_rule (f w x (eight words)) (λ is. own) in
    asked w (nat_le row.low (level_of w.levels x.context) && nat_le (level_of w.levels x.context) row.high) level_rule
    (asks (nat_le row.words (length words)) arguments_rule (f w x (eight words))) (λ is. counted)
