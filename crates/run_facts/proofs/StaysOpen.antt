-- Behind whatever an import answers the same contexts are open, and a call of no adapter leaves every adapter as it was.
use Rattle.std.proofs.Common.{rules, ◌≡◌, ◌≤◌, ℕ, zero, suc, ◌*◌, ◌==◌, Bool, true, false, cond, List, [], ◌∷◌, slice_index_or, slice_set, refl, sym, ap, ◌∙◌, subst, Option, Some, None, Result, Ok, Err, arith}
use Rattle.std.specs.Prelude.{⊤, ◌&&◌, ◌-◌, min, nat_le, length, is_some}
use Rattle.std.specs.Option.{option_map, option_map_or}
use Rattle.std.proofs.Math.Nat.{min-le_right}
use Rattle.std.proofs.lemmas.List.{length-set}
use Rattle.nd_base.specs.declared.numbers.AdapterNo.{AdapterNo}
use Rattle.nd_base.specs.declared.numbers.Breach.{Breach}
use Rattle.nd_base.specs.declared.numbers.CtxNo.{CtxNo}
use Rattle.nd_base.specs.declared.numbers.Addr.{Addr}
use Rattle.irql_lock.specs.declared.states.Context.{Context}
use Rattle.irql_lock.specs.declared.states.Holding.{Holding}
use Rattle.irql_lock.specs.LockState.{LockState, level_of, context_of, lock_at, holder_of}
use Rattle.irql_lock.specs.LockMoves.{Raise, Lower, Acquire, Release, Make, Free, with_context, at_level, allow, acquired, spinning, released, put_back, moved, lock_rule}
use Rattle.irql_lock.specs.LockMoves as locks
use Rattle.packet_pool.specs.declared.states.Kind.{Kind}
use Rattle.packet_pool.specs.declared.states.PoolRefusal.{PoolRefusal}
use Rattle.import_table.specs.Table.{Row}
use Rattle.guest_world.specs.declared.adapters.Adapter.{Adapter}
use Rattle.guest_world.specs.declared.adapters.Interrupt.{Interrupt}
use Rattle.guest_world.specs.declared.miniport.Miniport.{Miniport}
use Rattle.guest_world.specs.declared.world.World.{World}
use Rattle.guest_world.specs.declared.answer.Caller.{Caller}
use Rattle.guest_world.specs.Worlds.{with_adapter, changed, adapter_of, longest_time}
use Rattle.import_answers.specs.Outcomes.{Outcome, Replies, Picks, PicksDescriptor, Spins, asks, arguments_rule, returns}
use Rattle.import_answers.specs.Statuses.{failure}
use Rattle.import_answers.specs.World.{word}
use Rattle.import_answers.specs.Resources as q
use Rattle.import_answers.specs.Registration as r
use Rattle.import_answers.specs.Configuration as c
use Rattle.import_answers.specs.Timers as t
use Rattle.import_answers.specs.Descriptors as d
use Rattle.import_answers.specs.Levels as l
use Rattle.import_answers.specs.Ports as ports
use Rattle.import_answers.specs.Answers.{Answering, answering, none_such, level_rule, eight, outcome}

-- the same contexts are open in both
pub record OpenAlike (s t : LockState) : Type 0 where
  pub places : (y : ℕ) → is_some (slice_index_or t.contexts y None) ≡ is_some (slice_index_or s.contexts y None)
  pub count : length t.contexts ≡ length s.contexts

-- an adapter's hang checks have no longer period than the longest time that a call names
abbrev pub IsShort : Option Adapter → Type 0
IsShort None = ⊤
IsShort (Some part) = option_map_or (λ given. given.hang_period) part.attributes 0 ≤ longest_time

abbrev pub AreShort : World → Type 0
AreShort w = (k : ℕ) → IsShort (slice_index_or w.adapters k None)

-- the world behind the call of a context of that adapter
pub record Keeps (a : Option AdapterNo) (w v : World) : Type 0 where
  pub levels : OpenAlike w.levels v.levels
  pub parts : a ≡ None → v.adapters ≡ w.adapters
  pub periods : AreShort w → AreShort v

-- the world behind what comes of a call
abbrev pub KeepsIn : Option AdapterNo → World → Outcome → Type 0
KeepsIn a w (Replies reply v) = Keeps a w v
KeepsIn a w (Picks n reply v) = (at : ℕ) → Keeps a w (v at)
KeepsIn a w (PicksDescriptor kind handle reply v) = (at : ℕ) → Keeps a w (v at)
KeepsIn a w (Spins holder v) = Keeps a w v
KeepsIn a w _ = ⊤

pub alike : (s : LockState) → OpenAlike s s
alike s = record { places = λ y. refl; count = refl }

-- only levels have changed
moved_levels : (a : Option AdapterNo) (w : World) (levels : LockState) → OpenAlike w.levels levels → Keeps a w (record w { levels = levels })
moved_levels a w levels is = record { levels = is; parts = λ none. refl; periods = λ short. short }

kept : (a : Option AdapterNo) (w : World) → Keeps a w w
kept a w = record { levels = alike w.levels; parts = λ none. refl; periods = λ short. short }

-- neither levels nor adapters have changed
same : (a : Option AdapterNo) (w v : World) → v.levels ≡ w.levels → v.adapters ≡ w.adapters → Keeps a w v
same a w v levels parts = record {
  levels = subst (OpenAlike w.levels) (sym levels) (alike w.levels);
  parts = λ none. parts;
  periods = λ short. subst (λ (l : List (Option Adapter)). (k : ℕ) → IsShort (slice_index_or l k None)) (sym parts) short;
}

asked : (a : Option AdapterNo) (w : World) (b : Bool) (rule : ℕ) (o : Outcome) → KeepsIn a w o → KeepsIn a w (asks b rule o)
asked a w true rule o h = h
asked a w false rule o h = tt

-- a change of an adapter that leaves its period short
abbrev Shortens : (Adapter → Adapter) → Type 0
Shortens f = (p : Adapter) → IsShort (Some p) → IsShort (Some (f p))

set_short : (l : List (Option Adapter)) (n k : ℕ) (p : Option Adapter) → IsShort p → ((k : ℕ) → IsShort (slice_index_or l k None)) → IsShort (slice_index_or (slice_set l n p) k None)
set_short [] n k p is h = h k
set_short (q ∷ l) zero zero p is h = is
set_short (q ∷ l) zero (suc k) p is h = h (suc k)
set_short (q ∷ l) (suc n) zero p is h = h zero
set_short (q ∷ l) (suc n) (suc k) p is h = set_short l n k p is (λ j. h (suc j))

change_keeps : (w : World) (a : AdapterNo) (f : Adapter → Adapter) → Shortens f → Keeps (Some a) w (with_adapter w (Some a) f)
change_keeps w a f is = by_part (adapter_of w (Some a)) refl
  where
    by_part : (part : Option Adapter) → adapter_of w (Some a) ≡ part → Keeps (Some a) w (changed w a.0 f part)
    by_part None its = kept (Some a) w
    by_part (Some p) its = record {
      levels = alike w.levels;
      parts = λ none. absurd (cc);
      periods = λ short. λ k. set_short w.adapters a.0 k (Some (f p)) (is p (subst IsShort its (short a.0))) short;
    }

adapter_keeps : (w : World) (a : Option AdapterNo) (f : Adapter → Adapter) → Shortens f → Keeps a w (with_adapter w a f)
adapter_keeps w None f is = kept None w
adapter_keeps w (Some a) f is = change_keeps w a f is

-- ---- by group

registers_keeps : (a : Option AdapterNo) (w : World) (m : Result Miniport ℕ) → KeepsIn a w (r.registers w m)
registers_keeps a w (Ok m) = same a w _ refl refl
registers_keeps a w (Err status) = kept a w

register_keeps : (w : World) (x : Caller) (words : List ℕ) → KeepsIn x.adapter w (r.register_miniport w x words)
register_keeps w x words = by_tests _ _ _
  where
    by_tests : (b d : Bool) (m : Result Miniport ℕ) → KeepsIn x.adapter w (cond b (returns w failure) (asks d arguments_rule (r.registers w m)))
    by_tests true d m = kept x.adapter w
    by_tests false d m = asked x.adapter w d arguments_rule _ (registers_keeps x.adapter w m)

short_period : (seconds : ℕ) → r.hang_period seconds ≤ longest_time
short_period seconds = by_test (seconds == 0)
  where
    by_test : (b : Bool) → cond b 2000000 (min (seconds * 1000000) longest_time) ≤ longest_time
    by_test true = omega arith
    by_test false = min-le_right (seconds * 1000000) longest_time

attributes_keep : (w : World) (b : Bool) (a : Option AdapterNo) (words : List ℕ) → Keeps a w (cond b (r.with_attributes w a (r.attributes words)) w)
attributes_keep w true a words = adapter_keeps w a _ (λ p h. short_period (word words 3))
attributes_keep w false a words = kept a w

opened_keeps : (w : World) (a : Option AdapterNo) → Keeps a w (c.opened w a)
opened_keeps w a = adapter_keeps w a _ (λ p h. h)

interrupt_keeps : (w : World) (a : Option AdapterNo) (given : Option Interrupt) → Keeps a w (q.with_interrupt w a given)
interrupt_keeps w a given = adapter_keeps w a _ (λ p h. h)

value_keeps : (a : Option AdapterNo) (w : World) (words : List ℕ) (read : Option c.Read) → KeepsIn a w (c.given_value w words read)
value_keeps a w words None = kept a w
value_keeps a w words (Some read) = search (rules, kept, same)

address_keeps : (a : Option AdapterNo) (w : World) (words : List ℕ) (bytes : Option (List ℕ)) → KeepsIn a w (c.given_address w words bytes)
address_keeps a w words None = kept a w
address_keeps a w words (Some bytes) = search (rules, kept, same)

timer_keeps : (w : World) (a : Option AdapterNo) (words : List ℕ) → Keeps a w (t.with_timer w a words)
timer_keeps w None words = kept None w
timer_keeps w (Some a) words = same (Some a) w _ refl refl

pool_keeps : (a : Option AdapterNo) (w : World) (kind : Kind) (words : List ℕ) (refusal : Option PoolRefusal) → KeepsIn a w (d.given_pool w kind words refusal)
pool_keeps a w kind words (Some refusal) = kept a w
pool_keeps a w kind words None = same a w _ refl refl

unchained_keeps : (a : Option AdapterNo) (w : World) (words : List ℕ) (head : ℕ) → KeepsIn a w (d.unchained w words head)
unchained_keeps a w words zero = search (rules, kept)
unchained_keeps a w words (suc head) = search (rules, kept)

totalled_keeps : (a : Option AdapterNo) (w : World) (words : List ℕ) (head : ℕ) (total : Option ℕ) → KeepsIn a w (d.totalled w words head total)
totalled_keeps a w words head None = tt
totalled_keeps a w words head (Some total) = search (rules, kept)

first_keeps : (a : Option AdapterNo) (w : World) (words : List ℕ) (head : ℕ) → KeepsIn a w (d.first_buffer w words head)
first_keeps a w words zero = search (rules, kept)
first_keeps a w words (suc head) = totalled_keeps a w words (suc head) _

-- ---- levels

set_place : (xs : List (Option Context)) (k y : ℕ) (x : Option Context) → is_some x ≡ is_some (slice_index_or xs k None)
    → is_some (slice_index_or (slice_set xs k x) y None) ≡ is_some (slice_index_or xs y None)
set_place [] k y x is = refl
set_place (z ∷ xs) zero zero x is = is
set_place (z ∷ xs) zero (suc y) x is = refl
set_place (z ∷ xs) (suc k) zero x is = refl
set_place (z ∷ xs) (suc k) (suc y) x is = set_place xs k y x is

mapped_some : (o : Option Context) (f : Context → Context) → is_some (option_map f o) ≡ is_some o
mapped_some None f = refl
mapped_some (Some x) f = refl

with_context_alike : (s : LockState) (x : CtxNo) (f : Context → Context) → OpenAlike s (with_context s x f)
with_context_alike s x f = record { places = λ y. set_place s.contexts x.0 y _ (mapped_some (context_of s x) f); count = length-set s.contexts x.0 _ }

abbrev ResultAlike : LockState → Result LockState Breach → Type 0
ResultAlike s (Ok t) = OpenAlike s t
ResultAlike s (Err broken) = ⊤

allowed : (s t : LockState) (b : Bool) (rule : Breach) → OpenAlike s t → ResultAlike s (allow b rule t)
allowed s t true rule h = h
allowed s t false rule h = tt

within : (s t u : LockState) → u.contexts ≡ t.contexts → OpenAlike s t → OpenAlike s u
within s t u is h =
    record {
      places = λ y. ap (λ (xs : List (Option Context)). is_some (slice_index_or xs y None)) is ∙ h.places y;
      count = ap (λ (xs : List (Option Context)). length xs) is ∙ h.count;
    }

acquired_opens : (s : LockState) (x : CtxNo) (lock : Addr) (dpr : Bool) (found : Option (Option Holding)) → ResultAlike s (acquired s x lock dpr found)
acquired_opens s x lock dpr None = tt
acquired_opens s x lock dpr (Some None) = within s (with_context s x _) _ refl (with_context_alike s x _)
acquired_opens s x lock dpr (Some (Some h)) = allowed s (spinning s x lock) _ lock_rule (with_context_alike s x _)

released_opens : (s : LockState) (x : CtxNo) (lock : Addr) (dpr : Bool) (found : Option (Option Holding)) → ResultAlike s (released s x lock dpr found)
released_opens s x lock dpr (Some (Some h)) = allowed s (put_back s x lock dpr h.before) _ lock_rule (within s (with_context s x _) _ refl (with_context_alike s x _))
released_opens s x lock dpr None = tt
released_opens s x lock dpr (Some None) = tt

raise_opens : (s : LockState) (x : CtxNo) (to : ℕ) → ResultAlike s (moved s (Raise x to))
raise_opens s x to = allowed s (at_level s x to) _ locks.level_rule (with_context_alike s x _)

lower_opens : (s : LockState) (x : CtxNo) (to : ℕ) → ResultAlike s (moved s (Lower x to))
lower_opens s x to = allowed s (at_level s x to) _ locks.level_rule (with_context_alike s x _)

acquire_opens : (s : LockState) (x : CtxNo) (lock : Addr) (dpr : Bool) → ResultAlike s (moved s (Acquire x lock dpr))
acquire_opens s x lock dpr = acquired_opens s x lock dpr (lock_at s lock)

release_opens : (s : LockState) (x : CtxNo) (lock : Addr) (dpr : Bool) → ResultAlike s (moved s (Release x lock dpr))
release_opens s x lock dpr = released_opens s x lock dpr (lock_at s lock)

make_opens : (s : LockState) (lock : Addr) → ResultAlike s (moved s (Make lock))
make_opens s lock = allowed s _ _ lock_rule (within s s _ refl (alike s))

free_opens : (s : LockState) (lock : Addr) → ResultAlike s (moved s (Free lock))
free_opens s lock = allowed s _ _ lock_rule (within s s _ refl (alike s))

move_keeps : (a : Option AdapterNo) (w : World) (eax : ℕ) (r : Result LockState Breach) → ResultAlike w.levels r → KeepsIn a w (l.after_move w eax r)
move_keeps a w eax (Ok t) h = moved_levels a w t h
move_keeps a w eax (Err broken) h = tt

spin_keeps : (a : Option AdapterNo) (w : World) (holder : Option CtxNo) (r : Result LockState Breach) → ResultAlike w.levels r → KeepsIn a w (l.got_or_spins w holder r)
spin_keeps a w None (Ok t) h = moved_levels a w t h
spin_keeps a w (Some holder) (Ok t) h = moved_levels a w t h
spin_keeps a w holder (Err broken) h = tt

-- ---- cards

read_keeps : (w : World) (x : Caller) (words : List ℕ) (width : ℕ) (port : Option ℕ) → KeepsIn x.adapter w (ports.read_port w x words width port)
read_keeps w x words width None = kept x.adapter w
read_keeps w x words width (Some port) = adapter_keeps w x.adapter _ (λ p h. h)

write_keeps : (w : World) (x : Caller) (words : List ℕ) (width : ℕ) (port : Option ℕ) → KeepsIn x.adapter w (ports.write_port w x words width port)
write_keeps w x words width None = kept x.adapter w
write_keeps w x words width (Some port) = adapter_keeps w x.adapter _ (λ p h. h)

reads_keep : (w : World) (x : Caller) (words : List ℕ) (width : ℕ) (port : Option ℕ) → KeepsIn x.adapter w (ports.read_buffer w x words width port)
reads_keep w x words width None = kept x.adapter w
reads_keep w x words width (Some port) = adapter_keeps w x.adapter _ (λ p h. h)

writes_keep : (w : World) (x : Caller) (words : List ℕ) (width : ℕ) (port : Option ℕ) → KeepsIn x.adapter w (ports.write_buffer w x words width port)
writes_keep w x words width None = kept x.adapter w
writes_keep w x words width (Some port) = adapter_keeps w x.adapter _ (λ p h. h)

-- ---- all rows

abbrev pub RowKeeps : Answering → Type 0
RowKeeps f = (w : World) (x : Caller) (words : List ℕ) → KeepsIn x.adapter w (f w x words)

abbrev pub AllKeep : List Answering → Type 0
AllKeep [] = ⊤
AllKeep (f ∷ fs) = RowKeeps f × AllKeep fs

all_keep : AllKeep answering
unfolding answering
all_keep = (
  (λ w x words. search (rules, kept, same)),
  (
    (λ w x words. kept x.adapter w),
    (
      (λ w x words. register_keeps w x words),
      (
        (λ w x words. move_keeps x.adapter w _ _ (raise_opens w.levels x.context _)),
        (
          (λ w x words. move_keeps x.adapter w _ _ (lower_opens w.levels x.context _)),
          (
            (λ w x words. let h = attributes_keep w (r.is_initialize x.handler) x.adapter words in search (rules, kept, same)),
            (
              (λ w x words. let h = opened_keeps w x.adapter in search (rules, kept, same)),
              (
                (λ w x words. search (rules, kept, same, value_keeps)),
                (
                  (λ w x words. search (rules, kept, same)),
                  (
                    (λ w x words. search (rules, kept, same, address_keeps)),
                    (
                      (λ w x words. search (rules, kept, same)),
                      (
                        (λ w x words. search (rules, kept, same)),
                        (
                          (λ w x words. let h = interrupt_keeps w x.adapter (Some (q.interrupt words)) in search (rules, kept, same)),
                          (
                            (λ w x words. let h = interrupt_keeps w x.adapter None in search (rules, kept, same)),
                            (
                              (λ w x words. search (rules, kept, same)),
                              (
                                (λ w x words. search (rules, kept, same, timer_keeps)),
                                (
                                  (λ w x words. search (rules, kept, same)),
                                  (
                                    (λ w x words. search (rules, kept, same)),
                                    (
                                      (λ w x words. search (rules, kept, same)),
                                      (
                                        (λ w x words. tt),
                                        (
                                          (λ w x words. search (rules, kept, same)),
                                          (
                                            (λ w x words. search (rules, kept, same)),
                                            (
                                              (λ w x words. search (rules, kept, same, pool_keeps)),
                                              (
                                                (λ w x words. search (rules, kept, same)),
                                                (
                                                  (λ w x words. search (rules, kept, same)),
                                                  (
                                                    (λ w x words. search (rules, kept, same)),
                                                    (
                                                      (λ w x words. search (rules, kept, same, pool_keeps)),
                                                      (
                                                        (λ w x words. search (rules, kept, same)),
                                                        (
                                                          (λ w x words. search (rules, kept, same)),
                                                          (
                                                            (λ w x words. search (rules, kept, same)),
                                                            (
                                                              (λ w x words. search (rules, kept, same, unchained_keeps)),
                                                              (
                                                                (λ w x words. search (rules, kept, same)),
                                                                (
                                                                  (λ w x words. move_keeps x.adapter w _ _ (make_opens w.levels _)),
                                                                  (
                                                                    (λ w x words. move_keeps x.adapter w _ _ (free_opens w.levels _)),
                                                                    (
                                                                      (λ w x words. spin_keeps x.adapter w (holder_of w.levels (l.lock_in words)) _ (acquire_opens w.levels x.context (l.lock_in words) false)),
                                                                      (
                                                                        (λ w x words. move_keeps x.adapter w 0 _ (release_opens w.levels x.context (l.lock_in words) false)),
                                                                        (
                                                                          (λ w x words. spin_keeps x.adapter w (holder_of w.levels (l.lock_in words)) _ (acquire_opens w.levels x.context (l.lock_in words) true)),
                                                                          (
                                                                            (λ w x words. move_keeps x.adapter w 0 _ (release_opens w.levels x.context (l.lock_in words) true)),
                                                                            (
                                                                              (λ w x words. search (rules, kept, same)),
                                                                              (
                                                                                (λ w x words. search (rules, kept, same)),
                                                                                (
                                                                                  (λ w x words. search (rules, kept, same)),
                                                                                  (
                                                                                    (λ w x words. search (rules, kept, same)),
                                                                                    (
                                                                                      (λ w x words. search (rules, kept, same)),
                                                                                      (
                                                                                        (λ w x words. search (rules, kept, same)),
                                                                                        (
                                                                                          (λ w x words. search (rules, kept, same)),
                                                                                          (
                                                                                            (λ w x words. search (rules, kept, same)),
                                                                                            (
                                                                                              (λ w x words. search (rules, kept, same)),
                                                                                              (
                                                                                                (λ w x words. search (rules, kept, same)),
                                                                                                (
                                                                                                  (λ w x words. search (rules, kept, same)),
                                                                                                  (
                                                                                                    (λ w x words. search (rules, kept, same)),
                                                                                                    (
                                                                                                      (λ w x words. search (rules, kept, same)),
                                                                                                      (
                                                                                                        (λ w x words. search (rules, kept, same, first_keeps)),
                                                                                                        (
                                                                                                          (λ w x words. read_keeps w x words 1 _),
                                                                                                          (
                                                                                                            (λ w x words. read_keeps w x words 2 _),
                                                                                                            (
                                                                                                              (λ w x words. write_keeps w x words 1 _),
                                                                                                              (
                                                                                                                (λ w x words. write_keeps w x words 2 _),
                                                                                                                (
                                                                                                                  (λ w x words. search (rules, kept, same, reads_keep)),
                                                                                                                  (
                                                                                                                    (λ w x words. search (rules, kept, same, reads_keep)),
                                                                                                                    (
                                                                                                                      (λ w x words. search (rules, kept, same, writes_keep)),
                                                                                                                      (
                                                                                                                        (λ w x words. search (rules, kept, same, writes_keep)),
                                                                                                                        (
                                                                                                                          (λ w x words. kept x.adapter w),
                                                                                                                          (
                                                                                                                            (λ w x words. search (rules, kept, same)),
                                                                                                                            (
                                                                                                                              (λ w x words. search (rules, kept, same)),
                                                                                                                              (
                                                                                                                                (λ w x words. kept x.adapter w),
                                                                                                                                tt,
                                                                                                                              ),
                                                                                                                            ),
                                                                                                                          ),
                                                                                                                        ),
                                                                                                                      ),
                                                                                                                    ),
                                                                                                                  ),
                                                                                                                ),
                                                                                                              ),
                                                                                                            ),
                                                                                                          ),
                                                                                                        ),
                                                                                                      ),
                                                                                                    ),
                                                                                                  ),
                                                                                                ),
                                                                                              ),
                                                                                            ),
                                                                                          ),
                                                                                        ),
                                                                                      ),
                                                                                    ),
                                                                                  ),
                                                                                ),
                                                                              ),
                                                                            ),
                                                                          ),
                                                                        ),
                                                                      ),
                                                                    ),
                                                                  ),
                                                                ),
                                                              ),
                                                            ),
                                                          ),
                                                        ),
                                                      ),
                                                    ),
                                                  ),
                                                ),
                                              ),
                                            ),
                                          ),
                                        ),
                                      ),
                                    ),
                                  ),
                                ),
                              ),
                            ),
                          ),
                        ),
                      ),
                    ),
                  ),
                ),
              ),
            ),
          ),
        ),
      ),
    ),
  ),
)

at_keeps : (fs : List Answering) → AllKeep fs → (n : ℕ) → RowKeeps (slice_index_or fs n none_such)
at_keeps [] all n w x words = tt
at_keeps (f ∷ fs) all zero w x words = all.0 w x words
at_keeps (f ∷ fs) all (suc n) w x words = at_keeps fs all.1 n w x words

pub outcome_keeps : (w : World) (x : Caller) (row : Row) (words : List ℕ) → KeepsIn x.adapter w (outcome w x row words)
outcome_keeps w x row words =
    asked x.adapter w (nat_le row.low (level_of w.levels x.context) && nat_le (level_of w.levels x.context) row.high) level_rule _
    (asked x.adapter w (nat_le row.words (length words)) arguments_rule _ (at_keeps answering all_keep (row.import - 1) w x (eight words)))
