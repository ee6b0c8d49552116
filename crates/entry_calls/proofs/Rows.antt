-- By the rows: what a call of DriverEntry comes to.
use Rattle.std.proofs.Common.{rules, ◌≡◌, ℕ, zero, suc, ◌+◌, ◌*◌, ◌^◌, ◌<◌, Bool, true, false, cond, List, [], ◌∷◌, slice_index_or, refl, sym, ap, subst, Option, Some, None, Result, Ok, Err, arith}
use Rattle.std.specs.Prelude.{⊤, ◌&&◌, ◌==◌, not, ◌-◌, nat_le, length}
use Rattle.std.specs.FinMap as finite
use Rattle.std.specs.Cmp.{nat_cmp_total}
use Rattle.nd_base.specs.declared.numbers.Addr.{Addr}
use Rattle.nd_base.specs.declared.numbers.Breach.{Breach}
use Rattle.nd_base.specs.declared.numbers.CtxNo.{CtxNo}
use Rattle.irql_lock.specs.declared.states.Holding.{Holding}
use Rattle.irql_lock.specs.LockState.{LockState, level_of, lock_at, holder_in}
use Rattle.irql_lock.specs.LockMoves.{LockMove, Raise, Lower, Acquire, Release, Make, Free, allow, acquired, moved, lock_rule}
use Rattle.irql_lock.specs.LockMoves as locks
use Rattle.packet_pool.specs.declared.states.Kind.{Kind}
use Rattle.packet_pool.specs.declared.states.PoolRefusal.{PoolRefusal}
use Rattle.import_table.specs.Table.{Row}
use Rattle.guest_world.specs.declared.miniport.Miniport.{Miniport}
use Rattle.guest_world.specs.declared.world.World.{World}
use Rattle.guest_world.specs.declared.answer.Reply.{Reply}
use Rattle.import_answers.specs.Outcomes.{Outcome, asks, arguments_rule}
use Rattle.import_answers.specs.Blocks.{moves}
use Rattle.import_answers.specs.Registration as r
use Rattle.import_answers.specs.Descriptors as d
use Rattle.import_answers.specs.Levels as l
use Rattle.import_answers.specs.Answers.{Answering, answering, none_such, level_rule, eight, outcome}
use Rattle.entry_calls.specs.Laws.{entry_caller, HoldsAlone, IsCost, IsAnswer, Serves, AreWords}

one : IsCost 1
one = (omega arith, omega arith)

answers : (w v : World) (reply : Reply) → HoldsAlone w.levels → v.levels ≡ w.levels → reply.cost ≡ 1 → IsAnswer reply v
answers w v reply h same cost = (subst IsCost (sym cost) one, subst HoldsAlone (sym same) h)

asked : (w : World) (words : List ℕ) (b : Bool) (rule : ℕ) (o : Outcome) → Serves w words o → Serves w words (asks b rule o)
asked w words true rule o h = h
asked w words false rule o h = tt

-- ---- by group

registers_serves : (w : World) (words : List ℕ) (m : Result Miniport ℕ) → HoldsAlone w.levels → Serves w words (r.registers w m)
registers_serves w words (Ok m) h = (one, h)
registers_serves w words (Err status) h = (one, h)

pool_serves : (w : World) (words : List ℕ) (kind : Kind) (refusal : Option PoolRefusal) → HoldsAlone w.levels → Serves w words (d.given_pool w kind words refusal)
pool_serves w words kind (Some refusal) h = (one, h)
pool_serves w words kind None h = (one, h)

unchained_serves : (w : World) (words : List ℕ) (head : ℕ) → HoldsAlone w.levels → Serves w words (d.unchained w words head)
unchained_serves w words zero h = search (rules, answers)
unchained_serves w words (suc head) h = search (rules, answers)

totalled_serves : (w : World) (words : List ℕ) (head : ℕ) (total : Option ℕ) → HoldsAlone w.levels → Serves w words (d.totalled w words head total)
totalled_serves w words head None h = tt
totalled_serves w words head (Some total) h = search (rules, answers)

first_serves : (w : World) (words : List ℕ) (head : ℕ) → HoldsAlone w.levels → Serves w words (d.first_buffer w words head)
first_serves w words zero h = search (rules, answers)
first_serves w words (suc head) h = totalled_serves w words (suc head) _ h

stalls : (n : ℕ) → n < 2 ^ 32 → IsCost (1 + n)
stalls n small = (omega arith, omega (arith, small))

moves_cost : (n : ℕ) → n < 2 * 2 ^ 32 → IsCost (moves n)
moves_cost n small = (omega arith, omega (arith, small))

-- of so many words of one byte or two
moves_one : (n : ℕ) → n < 2 ^ 32 → IsCost (moves (1 * n))
moves_one n small = moves_cost (1 * n) (omega (arith, small))

moves_two : (n : ℕ) → n < 2 ^ 32 → IsCost (moves (2 * n))
moves_two n small = moves_cost (2 * n) (omega (arith, small))

-- ---- levels and locks

abbrev ResultHolds : Result LockState Breach → Type 0
ResultHolds (Ok s) = HoldsAlone s
ResultHolds (Err broken) = ⊤

allowed : (s : LockState) (b : Bool) (rule : Breach) → HoldsAlone s → ResultHolds (allow b rule s)
allowed s true rule h = h
allowed s false rule h = tt

move_serves : (w : World) (words : List ℕ) (eax : ℕ) (t : Result LockState Breach) → ResultHolds t → Serves w words (l.after_move w eax t)
move_serves w words eax (Ok s) h = (one, h)
move_serves w words eax (Err broken) h = tt

raise_holds : (s : LockState) (to : ℕ) → HoldsAlone s → ResultHolds (moved s (Raise (record { 0 = 0 }) to))
raise_holds s to h = allowed _ _ _ h

lower_holds : (s : LockState) (to : ℕ) → HoldsAlone s → ResultHolds (moved s (Lower (record { 0 = 0 }) to))
lower_holds s to h = allowed _ _ _ h

-- what a lock's place has says of its holder
abbrev OfFirst : Option (Option Holding) → Type 0
OfFirst found = (holder : CtxNo) → holder_in found ≡ Some holder → holder.0 ≡ 0

chosen : (b : Bool) (x y : Option (Option Holding)) → OfFirst x → OfFirst y → OfFirst (cond b x y)
chosen true x y h k = h
chosen false x y h k = k

free_of_first : OfFirst (Some None)
free_of_first holder is = cc

none_of_first : OfFirst None
none_of_first holder is = cc

held_of_first : (before : ℕ) → OfFirst (Some (Some (record { context = record { 0 = 0 }; before = before })))
held_of_first before holder is = let same : record { 0 = 0 } ≡ holder = cc in ap (λ (c : CtxNo). c.0) (sym same)

insert_holds : (s : LockState) (k : ℕ) (v : Option Holding) → OfFirst (Some v) → HoldsAlone s → (q : ℕ) → OfFirst (finite.get (finite.insert s.locks k v) q)
insert_holds s k v new h q = subst OfFirst (sym (finite.get-insert nat_cmp_total s.locks k v q)) (chosen _ (Some v) (finite.get s.locks q) new (h (record { 0 = q })))

remove_holds : (s : LockState) (k : ℕ) → HoldsAlone s → (q : ℕ) → OfFirst (finite.get (finite.remove s.locks k) q)
remove_holds s k h q = subst OfFirst (sym (finite.get-remove nat_cmp_total s.locks k q)) (chosen _ None (finite.get s.locks q) none_of_first (h (record { 0 = q })))

make_holds : (s : LockState) (lock : Addr) → HoldsAlone s → ResultHolds (moved s (Make lock))
make_holds s lock h = allowed _ _ _ (λ a. insert_holds s lock.0 None free_of_first h a.0)

free_holds : (s : LockState) (lock : Addr) → HoldsAlone s → ResultHolds (moved s (Free lock))
free_holds s lock h = allowed _ _ _ (λ a. remove_holds s lock.0 h a.0)

released_holds : (s : LockState) (lock : Addr) (dpr : Bool) (found : Option (Option Holding)) → HoldsAlone s → ResultHolds (locks.released s (record { 0 = 0 }) lock dpr found)
released_holds s lock dpr (Some (Some held)) h = allowed _ _ _ (λ a. insert_holds s lock.0 None free_of_first h a.0)
released_holds s lock dpr (Some None) h = tt
released_holds s lock dpr None h = tt

release_holds : (s : LockState) (lock : Addr) (dpr : Bool) → HoldsAlone s → ResultHolds (moved s (Release (record { 0 = 0 }) lock dpr))
release_holds s lock dpr h = released_holds s lock dpr (lock_at s lock) h

-- its own lock is refused to it
own_serves : (w : World) (words : List ℕ) (c : ℕ) (s : LockState) → c ≡ 0 → Serves w words (l.got_or_spins w (Some (record { 0 = c })) (allow (not (c == 0)) lock_rule s))
own_serves w words zero s is = tt
own_serves w words (suc c) s is = cc

acquired_serves : (w : World) (words : List ℕ) (lock : Addr) (dpr : Bool) (found : Option (Option Holding)) → OfFirst found → HoldsAlone w.levels
    → Serves w words (l.got_or_spins w (holder_in found) (acquired w.levels (record { 0 = 0 }) lock dpr found))
acquired_serves w words lock dpr None first h = tt
acquired_serves w words lock dpr (Some None) first h = (one, λ a. insert_holds w.levels lock.0 _ (held_of_first (level_of w.levels (record { 0 = 0 }))) h a.0)
acquired_serves w words lock dpr (Some (Some held)) first h = own_serves w words held.context.0 _ (first held.context refl)

acquire_serves : (w : World) (words : List ℕ) (dpr : Bool) → HoldsAlone w.levels → Serves w words (l.acquire w entry_caller words dpr)
acquire_serves w words dpr h = acquired_serves w words (l.lock_in words) dpr (lock_at w.levels (l.lock_in words)) (h (l.lock_in words)) h

-- ---- all rows

abbrev pub RowServes : Answering → Type 0
RowServes f = (w : World) (words : List ℕ) → HoldsAlone w.levels → AreWords words → Serves w words (f w entry_caller words)

abbrev pub AllServe : List Answering → Type 0
AllServe [] = ⊤
AllServe (f ∷ fs) = RowServes f × AllServe fs

all_serve : AllServe answering
unfolding answering
all_serve = (
  (λ w words h fits. search (rules, answers)),
  (
    (λ w words h fits. search (rules, answers)),
    (
      (λ w words h fits. search (rules, answers, registers_serves)),
      (
        (λ w words h fits. move_serves w words _ _ (raise_holds w.levels _ h)),
        (
          (λ w words h fits. move_serves w words _ _ (lower_holds w.levels _ h)),
          (
            (λ w words h fits. search rules),
            (
              (λ w words h fits. search (rules, answers)),
              (
                (λ w words h fits. search (rules, answers)),
                (
                  (λ w words h fits. search rules),
                  (
                    (λ w words h fits. search (rules, answers)),
                    (
                      (λ w words h fits. search rules),
                      (
                        (λ w words h fits. search rules),
                        (
                          (λ w words h fits. search rules),
                          (
                            (λ w words h fits. search rules),
                            (
                              (λ w words h fits. search rules),
                              (
                                (λ w words h fits. search rules),
                                (
                                  (λ w words h fits. search rules),
                                  (
                                    (λ w words h fits. search rules),
                                    (
                                      (λ w words h fits. search rules),
                                      (
                                        (λ w words h fits. refl),
                                        (
                                          (λ w words h fits. search (rules, answers)),
                                          (
                                            (λ w words h fits. search (rules, answers)),
                                            (
                                              (λ w words h fits. search (rules, answers, pool_serves)),
                                              (
                                                (λ w words h fits. search (rules, answers)),
                                                (
                                                  (λ w words h fits. search (rules, answers)),
                                                  (
                                                    (λ w words h fits. search (rules, answers)),
                                                    (
                                                      (λ w words h fits. search (rules, answers, pool_serves)),
                                                      (
                                                        (λ w words h fits. search (rules, answers)),
                                                        (
                                                          (λ w words h fits. search (rules, answers)),
                                                          (
                                                            (λ w words h fits. search (rules, answers)),
                                                            (
                                                              (λ w words h fits. search (rules, answers, unchained_serves)),
                                                              (
                                                                (λ w words h fits. search (rules, answers)),
                                                                (
                                                                  (λ w words h fits. move_serves w words _ _ (make_holds w.levels _ h)),
                                                                  (
                                                                    (λ w words h fits. move_serves w words _ _ (free_holds w.levels _ h)),
                                                                    (
                                                                      (λ w words h fits. acquire_serves w words false h),
                                                                      (
                                                                        (λ w words h fits. move_serves w words _ _ (release_holds w.levels _ false h)),
                                                                        (
                                                                          (λ w words h fits. acquire_serves w words true h),
                                                                          (
                                                                            (λ w words h fits. move_serves w words _ _ (release_holds w.levels _ true h)),
                                                                            (
                                                                              (λ w words h fits. search rules),
                                                                              (
                                                                                (λ w words h fits. search rules),
                                                                                (
                                                                                  (λ w words h fits. search rules),
                                                                                  (
                                                                                    (λ w words h fits. search rules),
                                                                                    (
                                                                                      (λ w words h fits. search rules),
                                                                                      (
                                                                                        (λ w words h fits. search rules),
                                                                                        (
                                                                                          (λ w words h fits. search rules),
                                                                                          (
                                                                                            (λ w words h fits. search rules),
                                                                                            (
                                                                                              (λ w words h fits. search rules),
                                                                                              (
                                                                                                (λ w words h fits. search rules),
                                                                                                (
                                                                                                  (λ w words h fits. search rules),
                                                                                                  (
                                                                                                    (λ w words h fits. search rules),
                                                                                                    (
                                                                                                      (λ w words h fits. search (rules, answers)),
                                                                                                      (
                                                                                                        (λ w words h fits. search (rules, answers, first_serves)),
                                                                                                        (
                                                                                                          (λ w words h fits. (one, h)),
                                                                                                          (
                                                                                                            (λ w words h fits. (one, h)),
                                                                                                            (
                                                                                                              (λ w words h fits. (one, h)),
                                                                                                              (
                                                                                                                (λ w words h fits. (one, h)),
                                                                                                                (
                                                                                                                  (λ w words h fits. let two = fits 2 in search (rules, answers, moves_one, moves_two, h)),
                                                                                                                  (
                                                                                                                    (λ w words h fits. let two = fits 2 in search (rules, answers, moves_one, moves_two, h)),
                                                                                                                    (
                                                                                                                      (λ w words h fits. let two = fits 2 in search (rules, answers, moves_one, moves_two, h)),
                                                                                                                      (
                                                                                                                        (λ w words h fits. let two = fits 2 in search (rules, answers, moves_one, moves_two, h)),
                                                                                                                        (
                                                                                                                          (λ w words h fits. (stalls _ (fits 0), h)),
                                                                                                                          (
                                                                                                                            (λ w words h fits. let two = fits 2 in search (rules, answers, moves_one, moves_two, h)),
                                                                                                                            (
                                                                                                                              (λ w words h fits. let two = fits 2 in search (rules, answers, moves_one, moves_two, h)),
                                                                                                                              (
                                                                                                                                (λ w words h fits. search (rules, answers)),
                                                                                                                                tt,
                                                                                                                              ),
                                                                                                                            ),
                                                                                                                          ),
                                                                                                                        ),
                                                                                                                      ),
                                                                                                                    ),
                                                                                                                  ),
                                                                                                                ),
                                                                                                              ),
                                                                                                            ),
                                                                                                          ),
                                                                                                        ),
                                                                                                      ),
                                                                                                    ),
                                                                                                  ),
                                                                                                ),
                                                                                              ),
                                                                                            ),
                                                                                          ),
                                                                                        ),
                                                                                      ),
                                                                                    ),
                                                                                  ),
                                                                                ),
                                                                              ),
                                                                            ),
                                                                          ),
                                                                        ),
                                                                      ),
                                                                    ),
                                                                  ),
                                                                ),
                                                              ),
                                                            ),
                                                          ),
                                                        ),
                                                      ),
                                                    ),
                                                  ),
                                                ),
                                              ),
                                            ),
                                          ),
                                        ),
                                      ),
                                    ),
                                  ),
                                ),
                              ),
                            ),
                          ),
                        ),
                      ),
                    ),
                  ),
                ),
              ),
            ),
          ),
        ),
      ),
    ),
  ),
)

at_serves : (fs : List Answering) → AllServe fs → (n : ℕ) → RowServes (slice_index_or fs n none_such)
at_serves [] all n w words h fits = tt
at_serves (f ∷ fs) all zero w words h fits = all.0 w words h fits
at_serves (f ∷ fs) all (suc n) w words h fits = at_serves fs all.1 n w words h fits

pub outcome_serves : (w : World) (row : Row) (words : List ℕ) → HoldsAlone w.levels → AreWords (eight words) → Serves w (eight words) (outcome w entry_caller row words)
outcome_serves w row words h fits =
    asked w (eight words) (nat_le row.low (level_of w.levels entry_caller.context) && nat_le (level_of w.levels entry_caller.context) row.high) level_rule _
    (asked w (eight words) (nat_le row.words (length words)) arguments_rule _ (at_serves answering all_serve (row.import - 1) w (eight words) h fits))
