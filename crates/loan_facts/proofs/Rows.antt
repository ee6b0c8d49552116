-- What is on loan stays so behind whatever an import answers: what is lent is not freed, and a descriptor is taken only where none is out.
use Rattle.std.proofs.Common.{rules, ◌≡◌, ℕ, zero, suc, Bool, true, false, cond, List, [], ◌∷◌, slice_index_or, refl, Option, Some, None, Result, Ok, Err}
use Rattle.std.specs.Prelude.{⊤, ◌&&◌, ◌-◌, nat_le, length}
use Rattle.nd_base.specs.declared.numbers.AdapterNo.{AdapterNo}
use Rattle.nd_base.specs.declared.numbers.Breach.{Breach}
use Rattle.nd_base.specs.declared.numbers.CtxNo.{CtxNo}
use Rattle.irql_lock.specs.LockState.{LockState, level_of, holder_of}
use Rattle.packet_pool.specs.declared.states.Kind.{Kind}
use Rattle.packet_pool.specs.declared.states.Kind.TheVariants.{Packet, Buffer}
use Rattle.packet_pool.specs.declared.states.PoolRefusal.{PoolRefusal}
use Rattle.packet_pool.specs.LiveSet.{pool_of}
use Rattle.packet_pool.specs.LiveMoves.{Allocate, FreePool, Free, FreeBlock, may, after, is_pool_of, is_full_pool, pool_refusal}
use Rattle.import_table.specs.Table.{Row}
use Rattle.guest_world.specs.declared.adapters.Adapter.{Adapter}
use Rattle.guest_world.specs.declared.adapters.Attributes.{Attributes}
use Rattle.guest_world.specs.declared.adapters.Interrupt.{Interrupt}
use Rattle.guest_world.specs.declared.miniport.Miniport.{Miniport}
use Rattle.guest_world.specs.declared.world.World.{World}
use Rattle.guest_world.specs.declared.answer.Caller.{Caller}
use Rattle.guest_world.specs.Worlds.{with_adapter, changed, adapter_of}
use Rattle.import_answers.specs.World.{word}
use Rattle.import_answers.specs.Outcomes.{Outcome, Replies, Picks, PicksDescriptor, Spins, asks, arguments_rule, live_rule, can_write, done}
use Rattle.import_answers.specs.Resources as q
use Rattle.import_answers.specs.Registration as r
use Rattle.import_answers.specs.Configuration as c
use Rattle.import_answers.specs.Timers as t
use Rattle.import_answers.specs.Blocks as b
use Rattle.import_answers.specs.Descriptors as d
use Rattle.import_answers.specs.Levels as l
use Rattle.import_answers.specs.Ports as ports
use Rattle.import_answers.specs.Answers.{Answering, answering, none_such, level_rule, eight, outcome}
use Rattle.loan_facts.proofs.Pools.{KeepsLoans, unmoved, pool_made, pool_freed, block_made, block_freed, allocated, freed}

-- the world behind what comes of a call; a call that spins leaves all pools as they are
abbrev pub KeepsIn : World → Outcome → Type 0
KeepsIn w (Replies reply v) = KeepsLoans w.pools v.pools
KeepsIn w (Picks n reply v) = (a : ℕ) → KeepsLoans w.pools (v a).pools
KeepsIn w (PicksDescriptor kind handle reply v) = (a : ℕ) → may w.pools (Allocate kind handle a) ≡ true → KeepsLoans w.pools (v a).pools
KeepsIn w (Spins holder v) = v.pools ≡ w.pools
KeepsIn w _ = ⊤

kept : (w : World) → KeepsLoans w.pools w.pools
kept w = unmoved w.pools

asked : (w : World) (b : Bool) (rule : ℕ) (o : Outcome) → KeepsIn w o → KeepsIn w (asks b rule o)
asked w true rule o h = h
asked w false rule o h = tt

either : (w : World) (b : Bool) (o p : Outcome) → KeepsIn w o → KeepsIn w p → KeepsIn w (cond b o p)
either w true o p one other = one
either w false o p one other = other

change_keeps : (w : World) (a : ℕ) (f : Adapter → Adapter) (part : Option Adapter) → KeepsLoans w.pools (changed w a f part).pools
change_keeps w a f None = kept w
change_keeps w a f (Some p) = kept w

adapter_keeps : (w : World) (a : Option AdapterNo) (f : Adapter → Adapter) → KeepsLoans w.pools (with_adapter w a f).pools
adapter_keeps w None f = kept w
adapter_keeps w (Some a) f = change_keeps w a.0 f (adapter_of w (Some a))

-- ---- by group

registers_keeps : (w : World) (m : Result Miniport ℕ) → KeepsIn w (r.registers w m)
registers_keeps w (Ok m) = kept w
registers_keeps w (Err status) = kept w

attributes_keep : (w : World) (b : Bool) (a : Option AdapterNo) (given : Attributes) → KeepsLoans w.pools (cond b (r.with_attributes w a given) w).pools
attributes_keep w true a given = adapter_keeps w a _
attributes_keep w false a given = kept w

opened_keeps : (w : World) (a : Option AdapterNo) → KeepsLoans w.pools (c.opened w a).pools
opened_keeps w a = adapter_keeps w a _

interrupt_keeps : (w : World) (a : Option AdapterNo) (given : Option Interrupt) → KeepsLoans w.pools (q.with_interrupt w a given).pools
interrupt_keeps w a given = adapter_keeps w a _

block_keeps : (w : World) (n a : ℕ) → KeepsLoans w.pools (b.with_block w n a).pools
block_keeps w n a = block_made w.pools n a

value_keeps : (w : World) (words : List ℕ) (read : Option c.Read) → KeepsIn w (c.given_value w words read)
value_keeps w words None = kept w
value_keeps w words (Some read) =
    either w (b.has_room w (c.block_length read)) _ _ (asked w (can_write w (word words 2) 4) arguments_rule _ (block_keeps w (c.block_length read))) (kept w)

address_keeps : (w : World) (words : List ℕ) (bytes : Option (List ℕ)) → KeepsIn w (c.given_address w words bytes)
address_keeps w words None = kept w
address_keeps w words (Some bytes) =
    either w (b.has_room w 6) _ _ (asked w (can_write w (word words 2) 4 && can_write w (word words 3) 4) arguments_rule _ (block_keeps w 6)) (kept w)

timer_keeps : (w : World) (a : Option AdapterNo) (words : List ℕ) → KeepsLoans w.pools (t.with_timer w a words).pools
timer_keeps w None words = kept w
timer_keeps w (Some a) words = kept w

memory_keeps : (w : World) (words : List ℕ) → KeepsIn w (b.allocate_memory w words)
memory_keeps w words =
    asked w (can_write w (word words 1) 4) arguments_rule _ (either w (b.has_room w (word words 2)) _ _ (block_keeps w (word words 2)) (kept w))

free_keeps : (w : World) (words : List ℕ) → KeepsIn w (b.free_memory w words)
free_keeps w words = asked w (may w.pools (FreeBlock (word words 1))) live_rule _ (block_freed w.pools (word words 1))

pool_keeps : (w : World) (kind : Kind) (words : List ℕ) (refusal : Option PoolRefusal) → KeepsIn w (d.given_pool w kind words refusal)
pool_keeps w kind words (Some refusal) = kept w
pool_keeps w kind words None = pool_made w.pools kind (word words 3)

pools_keep : (w : World) (kind : Kind) (words : List ℕ) → KeepsIn w (d.allocate_pool w kind words)
pools_keep w kind words =
    asked w (can_write w (word words 1) 4 && can_write w (word words 2) 4) arguments_rule _ (pool_keeps w kind words (pool_refusal w.pools kind (word words 3)))

pool_freed_keeps : (w : World) (words : List ℕ) → KeepsIn w (d.free_pool w words)
pool_freed_keeps w words = asked w (may w.pools (FreePool (word words 1))) live_rule _ (pool_freed w.pools (word words 1))

descriptor_keeps : (w : World) (kind : Kind) (words : List ℕ) → KeepsIn w (d.allocate_descriptor w kind words)
descriptor_keeps w kind words =
    asked w (can_write w (word words 1) 4 && can_write w (word words 2) 4) arguments_rule _
    (asked w (is_pool_of kind (pool_of w.pools (word words 3))) live_rule _
    (either w (is_full_pool w.pools (pool_of w.pools (word words 3))) _ _ (kept w) (allocated w.pools kind (word words 3))))

freed_keeps : (w : World) (kind : Kind) (words : List ℕ) → KeepsIn w (d.free_descriptor w kind words)
freed_keeps w kind words = by_test (may w.pools (Free kind (word words 1))) refl
  where
    by_test : (b : Bool) → may w.pools (Free kind (word words 1)) ≡ b → KeepsIn w (asks b live_rule (done (d.with_live w (after w.pools (Free kind (word words 1))))))
    by_test true is = freed w.pools kind (word words 1) is
    by_test false is = tt

unchained_keeps : (w : World) (words : List ℕ) (head : ℕ) → KeepsIn w (d.unchained w words head)
unchained_keeps w words zero = search (rules, kept)
unchained_keeps w words (suc head) = search (rules, kept)

totalled_keeps : (w : World) (words : List ℕ) (head : ℕ) (total : Option ℕ) → KeepsIn w (d.totalled w words head total)
totalled_keeps w words head None = tt
totalled_keeps w words head (Some total) = search (rules, kept)

first_keeps : (w : World) (words : List ℕ) (head : ℕ) → KeepsIn w (d.first_buffer w words head)
first_keeps w words zero = search (rules, kept)
first_keeps w words (suc head) = totalled_keeps w words (suc head) _

-- ---- levels and cards

move_keeps : (w : World) (eax : ℕ) (r : Result LockState Breach) → KeepsIn w (l.after_move w eax r)
move_keeps w eax (Ok t) = kept w
move_keeps w eax (Err broken) = tt

spin_keeps : (w : World) (holder : Option CtxNo) (r : Result LockState Breach) → KeepsIn w (l.got_or_spins w holder r)
spin_keeps w None (Ok t) = kept w
spin_keeps w (Some holder) (Ok t) = refl
spin_keeps w holder (Err broken) = tt

read_keeps : (w : World) (x : Caller) (words : List ℕ) (width : ℕ) (port : Option ℕ) → KeepsIn w (ports.read_port w x words width port)
read_keeps w x words width None = kept w
read_keeps w x words width (Some port) = adapter_keeps w x.adapter _

write_keeps : (w : World) (x : Caller) (words : List ℕ) (width : ℕ) (port : Option ℕ) → KeepsIn w (ports.write_port w x words width port)
write_keeps w x words width None = kept w
write_keeps w x words width (Some port) = adapter_keeps w x.adapter _

reads_keep : (w : World) (x : Caller) (words : List ℕ) (width : ℕ) (port : Option ℕ) → KeepsIn w (ports.read_buffer w x words width port)
reads_keep w x words width None = kept w
reads_keep w x words width (Some port) = adapter_keeps w x.adapter _

writes_keep : (w : World) (x : Caller) (words : List ℕ) (width : ℕ) (port : Option ℕ) → KeepsIn w (ports.write_buffer w x words width port)
writes_keep w x words width None = kept w
writes_keep w x words width (Some port) = adapter_keeps w x.adapter _

-- ---- all rows

abbrev RowKeeps : Answering → Type 0
RowKeeps f = (w : World) (x : Caller) (words : List ℕ) → KeepsIn w (f w x words)

abbrev AllKeep : List Answering → Type 0
AllKeep [] = ⊤
AllKeep (f ∷ fs) = RowKeeps f × AllKeep fs

all_keep : AllKeep answering
unfolding answering
all_keep = (
  (λ w x words. search (rules, kept)),
  (
    (λ w x words. kept w),
    (
      (λ w x words. search (rules, kept, registers_keeps)),
      (
        (λ w x words. move_keeps w _ _),
        (
          (λ w x words. move_keeps w _ _),
          (
            (λ w x words. let h = attributes_keep w (r.is_initialize x.handler) x.adapter (r.attributes words) in search (rules, kept)),
            (
              (λ w x words. let h = opened_keeps w x.adapter in search (rules, kept)),
              (
                (λ w x words. search (rules, kept, value_keeps)),
                (
                  (λ w x words. search (rules, kept)),
                  (
                    (λ w x words. search (rules, kept, address_keeps)),
                    (
                      (λ w x words. search (rules, kept)),
                      (
                        (λ w x words. search (rules, kept)),
                        (
                          (λ w x words. let h = interrupt_keeps w x.adapter (Some (q.interrupt words)) in search (rules, kept)),
                          (
                            (λ w x words. let h = interrupt_keeps w x.adapter None in search (rules, kept)),
                            (
                              (λ w x words. search (rules, kept)),
                              (
                                (λ w x words. search (rules, kept, timer_keeps)),
                                (
                                  (λ w x words. search (rules, kept)),
                                  (
                                    (λ w x words. search (rules, kept)),
                                    (
                                      (λ w x words. search (rules, kept)),
                                      (
                                        (λ w x words. tt),
                                        (
                                          (λ w x words. memory_keeps w words),
                                          (
                                            (λ w x words. free_keeps w words),
                                            (
                                              (λ w x words. pools_keep w Packet words),
                                              (
                                                (λ w x words. pool_freed_keeps w words),
                                                (
                                                  (λ w x words. descriptor_keeps w Packet words),
                                                  (
                                                    (λ w x words. freed_keeps w Packet words),
                                                    (
                                                      (λ w x words. pools_keep w Buffer words),
                                                      (
                                                        (λ w x words. pool_freed_keeps w words),
                                                        (
                                                          (λ w x words. descriptor_keeps w Buffer words),
                                                          (
                                                            (λ w x words. freed_keeps w Buffer words),
                                                            (
                                                              (λ w x words. search (rules, kept, unchained_keeps)),
                                                              (
                                                                (λ w x words. search (rules, kept)),
                                                                (
                                                                  (λ w x words. move_keeps w _ _),
                                                                  (
                                                                    (λ w x words. move_keeps w _ _),
                                                                    (
                                                                      (λ w x words. spin_keeps w (holder_of w.levels (l.lock_in words)) _),
                                                                      (
                                                                        (λ w x words. move_keeps w 0 _),
                                                                        (
                                                                          (λ w x words. spin_keeps w (holder_of w.levels (l.lock_in words)) _),
                                                                          (
                                                                            (λ w x words. move_keeps w 0 _),
                                                                            (
                                                                              (λ w x words. search (rules, kept)),
                                                                              (
                                                                                (λ w x words. search (rules, kept)),
                                                                                (
                                                                                  (λ w x words. search (rules, kept)),
                                                                                  (
                                                                                    (λ w x words. search (rules, kept)),
                                                                                    (
                                                                                      (λ w x words. search (rules, kept)),
                                                                                      (
                                                                                        (λ w x words. search (rules, kept)),
                                                                                        (
                                                                                          (λ w x words. search (rules, kept)),
                                                                                          (
                                                                                            (λ w x words. search (rules, kept)),
                                                                                            (
                                                                                              (λ w x words. search (rules, kept)),
                                                                                              (
                                                                                                (λ w x words. search (rules, kept)),
                                                                                                (
                                                                                                  (λ w x words. search (rules, kept)),
                                                                                                  (
                                                                                                    (λ w x words. search (rules, kept)),
                                                                                                    (
                                                                                                      (λ w x words. search (rules, kept)),
                                                                                                      (
                                                                                                        (λ w x words. search (rules, kept, first_keeps)),
                                                                                                        (
                                                                                                          (λ w x words. read_keeps w x words 1 _),
                                                                                                          (
                                                                                                            (λ w x words. read_keeps w x words 2 _),
                                                                                                            (
                                                                                                              (λ w x words. write_keeps w x words 1 _),
                                                                                                              (
                                                                                                                (λ w x words. write_keeps w x words 2 _),
                                                                                                                (
                                                                                                                  (λ w x words. search (rules, kept, reads_keep)),
                                                                                                                  (
                                                                                                                    (λ w x words. search (rules, kept, reads_keep)),
                                                                                                                    (
                                                                                                                      (λ w x words. search (rules, kept, writes_keep)),
                                                                                                                      (
                                                                                                                        (λ w x words. search (rules, kept, writes_keep)),
                                                                                                                        (
                                                                                                                          (λ w x words. kept w),
                                                                                                                          (
                                                                                                                            (λ w x words. search (rules, kept)),
                                                                                                                            (
                                                                                                                              (λ w x words. search (rules, kept)),
                                                                                                                              (
                                                                                                                                (λ w x words. kept w),
                                                                                                                                tt,
                                                                                                                              ),
                                                                                                                            ),
                                                                                                                          ),
                                                                                                                        ),
                                                                                                                      ),
                                                                                                                    ),
                                                                                                                  ),
                                                                                                                ),
                                                                                                              ),
                                                                                                            ),
                                                                                                          ),
                                                                                                        ),
                                                                                                      ),
                                                                                                    ),
                                                                                                  ),
                                                                                                ),
                                                                                              ),
                                                                                            ),
                                                                                          ),
                                                                                        ),
                                                                                      ),
                                                                                    ),
                                                                                  ),
                                                                                ),
                                                                              ),
                                                                            ),
                                                                          ),
                                                                        ),
                                                                      ),
                                                                    ),
                                                                  ),
                                                                ),
                                                              ),
                                                            ),
                                                          ),
                                                        ),
                                                      ),
                                                    ),
                                                  ),
                                                ),
                                              ),
                                            ),
                                          ),
                                        ),
                                      ),
                                    ),
                                  ),
                                ),
                              ),
                            ),
                          ),
                        ),
                      ),
                    ),
                  ),
                ),
              ),
            ),
          ),
        ),
      ),
    ),
  ),
)

at_keeps : (fs : List Answering) → AllKeep fs → (n : ℕ) → RowKeeps (slice_index_or fs n none_such)
at_keeps [] all n w x words = tt
at_keeps (f ∷ fs) all zero w x words = all.0 w x words
at_keeps (f ∷ fs) all (suc n) w x words = at_keeps fs all.1 n w x words

pub outcome_keeps : (w : World) (x : Caller) (row : Row) (words : List ℕ) → KeepsIn w (outcome w x row words)
outcome_keeps w x row words =
    asked w (nat_le row.low (level_of w.levels x.context) && nat_le (level_of w.levels x.context) row.high) level_rule _
    (asked w (nat_le row.words (length words)) arguments_rule _ (at_keeps answering all_keep (row.import - 1) w x (eight words)))
