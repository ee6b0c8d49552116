-- Each rule that a call breaks by its row is one of the fourteen.
use Rattle.std.proofs.Common.{rules, ℕ, zero, suc, ◌≤◌, ◌-◌, Bool, true, false, ◌&&◌, List, [], ◌∷◌, length, slice_index_or, nat_le, Option, Some, None, Result, Ok, Err, arith}
use Rattle.std.specs.Prelude.{⊤}
use Rattle.nd_base.specs.declared.numbers.Breach.{Breach}
use Rattle.nd_base.specs.declared.numbers.CtxNo.{CtxNo}
use Rattle.nd_base.specs.declared.numbers.Addr.{Addr}
use Rattle.irql_lock.specs.declared.states.Holding.{Holding}
use Rattle.irql_lock.specs.LockState.{LockState, level_of, lock_at, holder_of}
use Rattle.irql_lock.specs.LockMoves.{allow, acquired, released, level_rule, lock_rule}
use Rattle.packet_pool.specs.declared.states.Kind.{Kind}
use Rattle.packet_pool.specs.declared.states.PoolRefusal.{PoolRefusal}
use Rattle.import_table.specs.Table.{Row}
use Rattle.guest_world.specs.declared.miniport.Miniport.{Miniport}
use Rattle.guest_world.specs.declared.world.World.{World}
use Rattle.guest_world.specs.declared.answer.Caller.{Caller}
use Rattle.import_answers.specs.Outcomes.{Outcome, Breaks, asks, arguments_rule}
use Rattle.import_answers.specs.Registration as r
use Rattle.import_answers.specs.Configuration as c
use Rattle.import_answers.specs.Descriptors as d
use Rattle.import_answers.specs.Levels as l
use Rattle.import_answers.specs.Ports as ports
use Rattle.import_answers.specs.Answers.{Answering, answering, none_such, level_rule as call_level, eight, outcome}

abbrev pub IsRule : ℕ → Type 0
IsRule n = (1 ≤ n) × (n ≤ 14)

abbrev pub BreaksRule : Outcome → Type 0
BreaksRule (Breaks n) = IsRule n
BreaksRule _ = ⊤

nine : IsRule 9
nine = (omega arith, omega arith)

two : IsRule 2
two = (omega arith, omega arith)

twelve : IsRule 12
twelve = (omega arith, omega arith)

five : IsRule 5
five = (omega arith, omega arith)

six : IsRule 6
six = (omega arith, omega arith)

asked : (b : Bool) (n : ℕ) (o : Outcome) → IsRule n → BreaksRule o → BreaksRule (asks b n o)
asked true n o is h = h
asked false n o is h = is

-- ---- by group

registers_rule : (w : World) (m : Result Miniport ℕ) → BreaksRule (r.registers w m)
registers_rule w (Ok m) = tt
registers_rule w (Err status) = tt

value_rule : (w : World) (words : List ℕ) (read : Option c.Read) → BreaksRule (c.given_value w words read)
value_rule w words None = tt
value_rule w words (Some read) = search (rules, nine)

address_rule : (w : World) (words : List ℕ) (bytes : Option (List ℕ)) → BreaksRule (c.given_address w words bytes)
address_rule w words None = tt
address_rule w words (Some bytes) = search (rules, nine)

pool_rule : (w : World) (kind : Kind) (words : List ℕ) (refusal : Option PoolRefusal) → BreaksRule (d.given_pool w kind words refusal)
pool_rule w kind words (Some refusal) = tt
pool_rule w kind words None = tt

unchained_rule : (w : World) (words : List ℕ) (head : ℕ) → BreaksRule (d.unchained w words head)
unchained_rule w words zero = search (rules, nine, two)
unchained_rule w words (suc head) = search (rules, nine, two)

totalled_rule : (w : World) (words : List ℕ) (head : ℕ) (total : Option ℕ) → BreaksRule (d.totalled w words head total)
totalled_rule w words head None = nine
totalled_rule w words head (Some total) = search (rules, nine, two)

first_rule : (w : World) (words : List ℕ) (head : ℕ) → BreaksRule (d.first_buffer w words head)
first_rule w words zero = search (rules, nine, two)
first_rule w words (suc head) = totalled_rule w words (suc head) _

-- ---- levels and locks

abbrev ResultRule : Result LockState Breach → Type 0
ResultRule (Ok s) = ⊤
ResultRule (Err broken) = IsRule broken.0

allowed : (b : Bool) (rule : Breach) (s : LockState) → IsRule rule.0 → ResultRule (allow b rule s)
allowed true rule s is = tt
allowed false rule s is = is

acquired_rule : (s : LockState) (x : CtxNo) (lock : Addr) (dpr : Bool) (found : Option (Option Holding)) → ResultRule (acquired s x lock dpr found)
acquired_rule s x lock dpr None = six
acquired_rule s x lock dpr (Some None) = tt
acquired_rule s x lock dpr (Some (Some h)) = allowed _ lock_rule _ six

released_rule : (s : LockState) (x : CtxNo) (lock : Addr) (dpr : Bool) (found : Option (Option Holding)) → ResultRule (released s x lock dpr found)
released_rule s x lock dpr (Some (Some h)) = allowed _ lock_rule _ six
released_rule s x lock dpr None = six
released_rule s x lock dpr (Some None) = six

move_rule : (w : World) (eax : ℕ) (t : Result LockState Breach) → ResultRule t → BreaksRule (l.after_move w eax t)
move_rule w eax (Ok s) h = tt
move_rule w eax (Err broken) h = h

spin_rule : (w : World) (holder : Option CtxNo) (t : Result LockState Breach) → ResultRule t → BreaksRule (l.got_or_spins w holder t)
spin_rule w None (Ok s) h = tt
spin_rule w (Some holder) (Ok s) h = tt
spin_rule w None (Err broken) h = h
spin_rule w (Some holder) (Err broken) h = h

-- ---- ports

read_rule : (w : World) (x : Caller) (words : List ℕ) (width : ℕ) (port : Option ℕ) → BreaksRule (ports.read_port w x words width port)
read_rule w x words width None = tt
read_rule w x words width (Some port) = tt

write_rule : (w : World) (x : Caller) (words : List ℕ) (width : ℕ) (port : Option ℕ) → BreaksRule (ports.write_port w x words width port)
write_rule w x words width None = tt
write_rule w x words width (Some port) = tt

reads_rule : (w : World) (x : Caller) (words : List ℕ) (width : ℕ) (port : Option ℕ) → BreaksRule (ports.read_buffer w x words width port)
reads_rule w x words width None = tt
reads_rule w x words width (Some port) = tt

writes_rule : (w : World) (x : Caller) (words : List ℕ) (width : ℕ) (port : Option ℕ) → BreaksRule (ports.write_buffer w x words width port)
writes_rule w x words width None = tt
writes_rule w x words width (Some port) = tt

-- ---- all rows

abbrev pub RowRules : Answering → Type 0
RowRules f = (w : World) (x : Caller) (words : List ℕ) → BreaksRule (f w x words)

abbrev pub AllRules : List Answering → Type 0
AllRules [] = ⊤
AllRules (f ∷ fs) = RowRules f × AllRules fs

all_rules : AllRules answering
unfolding answering
all_rules = (
  (λ w x words. search (rules, nine, two, twelve)),
  (
    (λ w x words. tt),
    (
      (λ w x words. search (rules, nine, two, twelve, registers_rule)),
      (
        (λ w x words. move_rule w _ _ (allowed _ level_rule _ five)),
        (
          (λ w x words. move_rule w _ _ (allowed _ level_rule _ five)),
          (
            (λ w x words. search (rules, nine, two, twelve)),
            (
              (λ w x words. search (rules, nine, two, twelve)),
              (
                (λ w x words. search (rules, nine, two, twelve, value_rule)),
                (
                  (λ w x words. search (rules, nine, two, twelve)),
                  (
                    (λ w x words. search (rules, nine, two, twelve, address_rule)),
                    (
                      (λ w x words. search (rules, nine, two, twelve)),
                      (
                        (λ w x words. search (rules, nine, two, twelve)),
                        (
                          (λ w x words. search (rules, nine, two, twelve)),
                          (
                            (λ w x words. search (rules, nine, two, twelve)),
                            (
                              (λ w x words. search (rules, nine, two, twelve)),
                              (
                                (λ w x words. search (rules, nine, two, twelve)),
                                (
                                  (λ w x words. search (rules, nine, two, twelve)),
                                  (
                                    (λ w x words. search (rules, nine, two, twelve)),
                                    (
                                      (λ w x words. search (rules, nine, two, twelve)),
                                      (
                                        (λ w x words. tt),
                                        (
                                          (λ w x words. search (rules, nine, two, twelve)),
                                          (
                                            (λ w x words. search (rules, nine, two, twelve)),
                                            (
                                              (λ w x words. search (rules, nine, two, twelve, pool_rule)),
                                              (
                                                (λ w x words. search (rules, nine, two, twelve)),
                                                (
                                                  (λ w x words. search (rules, nine, two, twelve)),
                                                  (
                                                    (λ w x words. search (rules, nine, two, twelve)),
                                                    (
                                                      (λ w x words. search (rules, nine, two, twelve, pool_rule)),
                                                      (
                                                        (λ w x words. search (rules, nine, two, twelve)),
                                                        (
                                                          (λ w x words. search (rules, nine, two, twelve)),
                                                          (
                                                            (λ w x words. search (rules, nine, two, twelve)),
                                                            (
                                                              (λ w x words. search (rules, nine, two, twelve, unchained_rule)),
                                                              (
                                                                (λ w x words. search (rules, nine, two, twelve)),
                                                                (
                                                                  (λ w x words. move_rule w _ _ (allowed _ lock_rule _ six)),
                                                                  (
                                                                    (λ w x words. move_rule w _ _ (allowed _ lock_rule _ six)),
                                                                    (
                                                                      (λ w x words. spin_rule w (holder_of w.levels (l.lock_in words)) _ (acquired_rule w.levels x.context (l.lock_in words) false (lock_at w.levels (l.lock_in words)))),
                                                                      (
                                                                        (λ w x words. move_rule w 0 _ (released_rule w.levels x.context (l.lock_in words) false (lock_at w.levels (l.lock_in words)))),
                                                                        (
                                                                          (λ w x words. spin_rule w (holder_of w.levels (l.lock_in words)) _ (acquired_rule w.levels x.context (l.lock_in words) true (lock_at w.levels (l.lock_in words)))),
                                                                          (
                                                                            (λ w x words. move_rule w 0 _ (released_rule w.levels x.context (l.lock_in words) true (lock_at w.levels (l.lock_in words)))),
                                                                            (
                                                                              (λ w x words. search (rules, nine, two, twelve)),
                                                                              (
                                                                                (λ w x words. search (rules, nine, two, twelve)),
                                                                                (
                                                                                  (λ w x words. search (rules, nine, two, twelve)),
                                                                                  (
                                                                                    (λ w x words. search (rules, nine, two, twelve)),
                                                                                    (
                                                                                      (λ w x words. search (rules, nine, two, twelve)),
                                                                                      (
                                                                                        (λ w x words. search (rules, nine, two, twelve)),
                                                                                        (
                                                                                          (λ w x words. search (rules, nine, two, twelve)),
                                                                                          (
                                                                                            (λ w x words. search (rules, nine, two, twelve)),
                                                                                            (
                                                                                              (λ w x words. search (rules, nine, two, twelve)),
                                                                                              (
                                                                                                (λ w x words. search (rules, nine, two, twelve)),
                                                                                                (
                                                                                                  (λ w x words. search (rules, nine, two, twelve)),
                                                                                                  (
                                                                                                    (λ w x words. search (rules, nine, two, twelve)),
                                                                                                    (
                                                                                                      (λ w x words. search (rules, nine, two, twelve)),
                                                                                                      (
                                                                                                        (λ w x words. search (rules, nine, two, twelve, first_rule)),
                                                                                                        (
                                                                                                          (λ w x words. read_rule w x words 1 _),
                                                                                                          (
                                                                                                            (λ w x words. read_rule w x words 2 _),
                                                                                                            (
                                                                                                              (λ w x words. write_rule w x words 1 _),
                                                                                                              (
                                                                                                                (λ w x words. write_rule w x words 2 _),
                                                                                                                (
                                                                                                                  (λ w x words. search (rules, nine, two, twelve, reads_rule)),
                                                                                                                  (
                                                                                                                    (λ w x words. search (rules, nine, two, twelve, reads_rule)),
                                                                                                                    (
                                                                                                                      (λ w x words. search (rules, nine, two, twelve, writes_rule)),
                                                                                                                      (
                                                                                                                        (λ w x words. search (rules, nine, two, twelve, writes_rule)),
                                                                                                                        (
                                                                                                                          (λ w x words. tt),
                                                                                                                          (
                                                                                                                            (λ w x words. search (rules, nine, two, twelve)),
                                                                                                                            (
                                                                                                                              (λ w x words. search (rules, nine, two, twelve)),
                                                                                                                              (
                                                                                                                                (λ w x words. tt),
                                                                                                                                tt,
                                                                                                                              ),
                                                                                                                            ),
                                                                                                                          ),
                                                                                                                        ),
                                                                                                                      ),
                                                                                                                    ),
                                                                                                                  ),
                                                                                                                ),
                                                                                                              ),
                                                                                                            ),
                                                                                                          ),
                                                                                                        ),
                                                                                                      ),
                                                                                                    ),
                                                                                                  ),
                                                                                                ),
                                                                                              ),
                                                                                            ),
                                                                                          ),
                                                                                        ),
                                                                                      ),
                                                                                    ),
                                                                                  ),
                                                                                ),
                                                                              ),
                                                                            ),
                                                                          ),
                                                                        ),
                                                                      ),
                                                                    ),
                                                                  ),
                                                                ),
                                                              ),
                                                            ),
                                                          ),
                                                        ),
                                                      ),
                                                    ),
                                                  ),
                                                ),
                                              ),
                                            ),
                                          ),
                                        ),
                                      ),
                                    ),
                                  ),
                                ),
                              ),
                            ),
                          ),
                        ),
                      ),
                    ),
                  ),
                ),
              ),
            ),
          ),
        ),
      ),
    ),
  ),
)

at_rule : (fs : List Answering) → AllRules fs → (n : ℕ) → RowRules (slice_index_or fs n none_such)
at_rule [] all n w x words = nine
at_rule (f ∷ fs) all zero w x words = all.0 w x words
at_rule (f ∷ fs) all (suc n) w x words = at_rule fs all.1 n w x words

pub outcome_rule : (w : World) (x : Caller) (row : Row) (words : List ℕ) → BreaksRule (outcome w x row words)
outcome_rule w x row words =
    asked (nat_le row.low (level_of w.levels x.context) && nat_le (level_of w.levels x.context) row.high) call_level _ five
    (asked (nat_le row.words (length words)) arguments_rule _ nine (at_rule answering all_rules (row.import - 1) w x (eight words)))
