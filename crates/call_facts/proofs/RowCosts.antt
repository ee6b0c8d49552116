-- By the rows: what a call costs.
use Rattle.std.proofs.Common.{rules, ℕ, zero, suc, ◌+◌, ◌*◌, ◌^◌, ◌<◌, ◌≤◌, Bool, true, false, List, [], ◌∷◌, slice_index_or, sym, subst, Option, Some, None, Result, Ok, Err, arith}
use Rattle.std.specs.Prelude.{⊤, ◌&&◌, ◌-◌, nat_le, length}
use Rattle.nd_base.specs.declared.numbers.Breach.{Breach}
use Rattle.nd_base.specs.declared.numbers.CtxNo.{CtxNo}
use Rattle.irql_lock.specs.LockState.{LockState, level_of}
use Rattle.packet_pool.specs.declared.states.Kind.{Kind}
use Rattle.packet_pool.specs.declared.states.PoolRefusal.{PoolRefusal}
use Rattle.import_table.specs.Table.{Row}
use Rattle.guest_world.specs.declared.miniport.Miniport.{Miniport}
use Rattle.guest_world.specs.declared.world.World.{World}
use Rattle.guest_world.specs.declared.answer.Answer.TheVariants.{Now}
use Rattle.guest_world.specs.declared.answer.Caller.{Caller}
use Rattle.guest_world.specs.declared.answer.Reply.{Reply}
use Rattle.import_answers.specs.Outcomes.{Outcome, Breaks, Replies, Picks, PicksDescriptor, Spins, Sleeps, Synchronizes, Comes, asks, arguments_rule, can_read, can_write}
use Rattle.import_answers.specs.World.{word}
use Rattle.import_answers.specs.Blocks.{moves}
use Rattle.import_answers.specs.Blocks as blocks
use Rattle.import_answers.specs.Registration as r
use Rattle.import_answers.specs.Descriptors as d
use Rattle.import_answers.specs.Levels as l
use Rattle.import_answers.specs.Ports as ports
use Rattle.import_answers.specs.Answers.{Answering, answering, none_such, level_rule, eight, outcome}
use Rattle.call_facts.specs.Costs.{AreWords}

abbrev pub IsSmall : ℕ → Type 0
IsSmall n = n ≤ 2 ^ 32

-- what comes of a call at once costs little
abbrev pub CostsIn : Outcome → Type 0
CostsIn (Replies reply v) = IsSmall reply.cost
CostsIn (Picks n reply v) = (a : ℕ) → IsSmall (reply a).cost
CostsIn (PicksDescriptor kind handle reply v) = (a : ℕ) → IsSmall (reply a).cost
CostsIn _ = ⊤

pub one : IsSmall 1
one = omega arith

asked : (b : Bool) (rule : ℕ) (o : Outcome) → CostsIn o → CostsIn (asks b rule o)
asked true rule o h = h
asked false rule o h = tt

-- ---- by group

registers_cost : (w : World) (m : Result Miniport ℕ) → CostsIn (r.registers w m)
registers_cost w (Ok m) = one
registers_cost w (Err status) = one

pool_costs : (w : World) (words : List ℕ) (kind : Kind) (refusal : Option PoolRefusal) → CostsIn (d.given_pool w kind words refusal)
pool_costs w words kind (Some refusal) = one
pool_costs w words kind None = one

unchained_costs : (w : World) (words : List ℕ) (head : ℕ) → CostsIn (d.unchained w words head)
unchained_costs w words zero = search (rules, one)
unchained_costs w words (suc head) = search (rules, one)

totalled_costs : (w : World) (words : List ℕ) (head : ℕ) (total : Option ℕ) → CostsIn (d.totalled w words head total)
totalled_costs w words head None = tt
totalled_costs w words head (Some total) = search (rules, one)

first_costs : (w : World) (words : List ℕ) (head : ℕ) → CostsIn (d.first_buffer w words head)
first_costs w words zero = search (rules, one)
first_costs w words (suc head) = totalled_costs w words (suc head) _

move_costs : (w : World) (eax : ℕ) (t : Result LockState Breach) → CostsIn (l.after_move w eax t)
move_costs w eax (Ok s) = one
move_costs w eax (Err broken) = tt

spin_costs : (w : World) (holder : Option CtxNo) (t : Result LockState Breach) → CostsIn (l.got_or_spins w holder t)
spin_costs w None (Ok s) = one
spin_costs w (Some holder) (Ok s) = tt
spin_costs w holder (Err broken) = tt

-- ---- bytes that are moved, microseconds that are stalled

stalls : (n : ℕ) → n < 2 ^ 32 → IsSmall (1 + n)
stalls n small = omega (arith, small)

few : (n : ℕ) → n < 2 ^ 32 → n < 2 * 2 ^ 32
few n small = omega (arith, small)

moves_cost : (n : ℕ) → n < 2 * 2 ^ 32 → IsSmall (moves n)
moves_cost n small = omega (arith, small)

-- of so many words of one byte or two
moves_one : (n : ℕ) → n < 2 ^ 32 → IsSmall (moves (1 * n))
moves_one n small = moves_cost (1 * n) (omega (arith, small))

moves_two : (n : ℕ) → n < 2 ^ 32 → IsSmall (moves (2 * n))
moves_two n small = moves_cost (2 * n) (omega (arith, small))

-- ---- ports

read_costs : (w : World) (x : Caller) (words : List ℕ) (width : ℕ) (port : Option ℕ) → CostsIn (ports.read_port w x words width port)
read_costs w x words width None = one
read_costs w x words width (Some port) = one

write_costs : (w : World) (x : Caller) (words : List ℕ) (width : ℕ) (port : Option ℕ) → CostsIn (ports.write_port w x words width port)
write_costs w x words width None = one
write_costs w x words width (Some port) = one

reads_cost : (w : World) (x : Caller) (words : List ℕ) (width : ℕ) (port : Option ℕ) → IsSmall (moves (width * word words 3)) → CostsIn (ports.read_buffer w x words width port)
reads_cost w x words width None small = small
reads_cost w x words width (Some port) small = small

writes_cost : (w : World) (x : Caller) (words : List ℕ) (width : ℕ) (port : Option ℕ) → IsSmall (moves (width * word words 3)) → CostsIn (ports.write_buffer w x words width port)
writes_cost w x words width None small = small
writes_cost w x words width (Some port) small = small

in_costs : (w : World) (x : Caller) (words : List ℕ) (width : ℕ) → IsSmall (moves (width * word words 3)) → CostsIn (ports.in_buffer w x words width)
in_costs w x words width small =
    let port = ports.offset_of_port w x.adapter (word words 1) in
    asked (can_write w (word words 2) (width * word words 3)) arguments_rule (ports.read_buffer w x words width port) (reads_cost w x words width port small)

out_costs : (w : World) (x : Caller) (words : List ℕ) (width : ℕ) → IsSmall (moves (width * word words 3)) → CostsIn (ports.out_buffer w x words width)
out_costs w x words width small =
    let port = ports.offset_of_port w x.adapter (word words 1) in
    asked (can_read w (word words 2) (width * word words 3)) arguments_rule (ports.write_buffer w x words width port) (writes_cost w x words width port small)

-- ---- memcpy and memset

moved_costs : (w : World) (to n : ℕ) (bytes : List ℕ) (b : Bool) → n < 2 ^ 32 → CostsIn (asks b arguments_rule (blocks.moved w to n bytes))
moved_costs w to n bytes b small = asked b arguments_rule (blocks.moved w to n bytes) (moves_cost n (few n small))

copy_costs : (w : World) (words : List ℕ) → word words 3 < 2 ^ 32 → CostsIn (blocks.copy_memory w words)
copy_costs w words small = moved_costs w (word words 1) (word words 3) _ (can_write w (word words 1) (word words 3) && can_read w (word words 2) (word words 3)) small

set_costs : (w : World) (words : List ℕ) → word words 3 < 2 ^ 32 → CostsIn (blocks.set_memory w words)
set_costs w words small = moved_costs w (word words 1) (word words 3) _ (can_write w (word words 1) (word words 3)) small

-- ---- all rows

abbrev pub RowCosts : Answering → Type 0
RowCosts f = (w : World) (x : Caller) (words : List ℕ) → AreWords words → CostsIn (f w x words)

abbrev pub AllCost : List Answering → Type 0
AllCost [] = ⊤
AllCost (f ∷ fs) = RowCosts f × AllCost fs

all_cost : AllCost answering
unfolding answering
all_cost = (
  (λ w x words fits. search (rules, one)),
  (
    (λ w x words fits. search rules),
    (
      (λ w x words fits. search (rules, registers_cost)),
      (
        (λ w x words fits. move_costs w _ _),
        (
          (λ w x words fits. move_costs w _ _),
          (
            (λ w x words fits. search (rules, one)),
            (
              (λ w x words fits. search (rules, one)),
              (
                (λ w x words fits. search (rules, one)),
                (
                  (λ w x words fits. search (rules, one)),
                  (
                    (λ w x words fits. search (rules, one)),
                    (
                      (λ w x words fits. search (rules, one)),
                      (
                        (λ w x words fits. search (rules, one)),
                        (
                          (λ w x words fits. search (rules, one)),
                          (
                            (λ w x words fits. search (rules, one)),
                            (
                              (λ w x words fits. search (rules, one)),
                              (
                                (λ w x words fits. search (rules, one)),
                                (
                                  (λ w x words fits. search (rules, one)),
                                  (
                                    (λ w x words fits. search (rules, one)),
                                    (
                                      (λ w x words fits. search (rules, one)),
                                      (
                                        (λ w x words fits. tt),
                                        (
                                          (λ w x words fits. search (rules, one)),
                                          (
                                            (λ w x words fits. search (rules, one)),
                                            (
                                              (λ w x words fits. search (rules, one, pool_costs)),
                                              (
                                                (λ w x words fits. search (rules, one)),
                                                (
                                                  (λ w x words fits. search (rules, one)),
                                                  (
                                                    (λ w x words fits. search (rules, one)),
                                                    (
                                                      (λ w x words fits. search (rules, one, pool_costs)),
                                                      (
                                                        (λ w x words fits. search (rules, one)),
                                                        (
                                                          (λ w x words fits. search (rules, one)),
                                                          (
                                                            (λ w x words fits. search (rules, one)),
                                                            (
                                                              (λ w x words fits. search (rules, one, unchained_costs)),
                                                              (
                                                                (λ w x words fits. search (rules, one)),
                                                                (
                                                                  (λ w x words fits. move_costs w _ _),
                                                                  (
                                                                    (λ w x words fits. move_costs w _ _),
                                                                    (
                                                                      (λ w x words fits. spin_costs w _ _),
                                                                      (
                                                                        (λ w x words fits. move_costs w _ _),
                                                                        (
                                                                          (λ w x words fits. spin_costs w _ _),
                                                                          (
                                                                            (λ w x words fits. move_costs w _ _),
                                                                            (
                                                                              (λ w x words fits. search (rules, one)),
                                                                              (
                                                                                (λ w x words fits. search (rules, one)),
                                                                                (
                                                                                  (λ w x words fits. search (rules, one)),
                                                                                  (
                                                                                    (λ w x words fits. search (rules, one)),
                                                                                    (
                                                                                      (λ w x words fits. search (rules, one)),
                                                                                      (
                                                                                        (λ w x words fits. search (rules, one)),
                                                                                        (
                                                                                          (λ w x words fits. search (rules, one)),
                                                                                          (
                                                                                            (λ w x words fits. search (rules, one)),
                                                                                            (
                                                                                              (λ w x words fits. search (rules, one)),
                                                                                              (
                                                                                                (λ w x words fits. search (rules, one)),
                                                                                                (
                                                                                                  (λ w x words fits. search (rules, one)),
                                                                                                  (
                                                                                                    (λ w x words fits. search (rules, one)),
                                                                                                    (
                                                                                                      (λ w x words fits. search (rules, one)),
                                                                                                      (
                                                                                                        (λ w x words fits. search (rules, first_costs)),
                                                                                                        (
                                                                                                          (λ w x words fits. read_costs w x words 1 _),
                                                                                                          (
                                                                                                            (λ w x words fits. read_costs w x words 2 _),
                                                                                                            (
                                                                                                              (λ w x words fits. write_costs w x words 1 _),
                                                                                                              (
                                                                                                                (λ w x words fits. write_costs w x words 2 _),
                                                                                                                (
                                                                                                                  (λ w x words fits. in_costs w x words 1 (moves_one (word words 3) (fits 2))),
                                                                                                                  (
                                                                                                                    (λ w x words fits. in_costs w x words 2 (moves_two (word words 3) (fits 2))),
                                                                                                                    (
                                                                                                                      (λ w x words fits. out_costs w x words 1 (moves_one (word words 3) (fits 2))),
                                                                                                                      (
                                                                                                                        (λ w x words fits. out_costs w x words 2 (moves_two (word words 3) (fits 2))),
                                                                                                                        (
                                                                                                                          (λ w x words fits. stalls (word words 1) (fits 0)),
                                                                                                                          (
                                                                                                                            (λ w x words fits. copy_costs w words (fits 2)),
                                                                                                                            (
                                                                                                                              (λ w x words fits. set_costs w words (fits 2)),
                                                                                                                              (
                                                                                                                                (λ w x words fits. search rules),
                                                                                                                                tt,
                                                                                                                              ),
                                                                                                                            ),
                                                                                                                          ),
                                                                                                                        ),
                                                                                                                      ),
                                                                                                                    ),
                                                                                                                  ),
                                                                                                                ),
                                                                                                              ),
                                                                                                            ),
                                                                                                          ),
                                                                                                        ),
                                                                                                      ),
                                                                                                    ),
                                                                                                  ),
                                                                                                ),
                                                                                              ),
                                                                                            ),
                                                                                          ),
                                                                                        ),
                                                                                      ),
                                                                                    ),
                                                                                  ),
                                                                                ),
                                                                              ),
                                                                            ),
                                                                          ),
                                                                        ),
                                                                      ),
                                                                    ),
                                                                  ),
                                                                ),
                                                              ),
                                                            ),
                                                          ),
                                                        ),
                                                      ),
                                                    ),
                                                  ),
                                                ),
                                              ),
                                            ),
                                          ),
                                        ),
                                      ),
                                    ),
                                  ),
                                ),
                              ),
                            ),
                          ),
                        ),
                      ),
                    ),
                  ),
                ),
              ),
            ),
          ),
        ),
      ),
    ),
  ),
)

at_costs : (fs : List Answering) → AllCost fs → (n : ℕ) → RowCosts (slice_index_or fs n none_such)
at_costs [] all n w x words fits = tt
at_costs (f ∷ fs) all zero w x words fits = all.0 w x words fits
at_costs (f ∷ fs) all (suc n) w x words fits = at_costs fs all.1 n w x words fits

pub outcome_costs : (w : World) (x : Caller) (row : Row) (words : List ℕ) → AreWords (eight words) → CostsIn (outcome w x row words)
outcome_costs w x row words fits =
    asked (nat_le row.low (level_of w.levels x.context) && nat_le (level_of w.levels x.context) row.high) level_rule _
    (asked (nat_le row.words (length words)) arguments_rule _ (at_costs answering all_cost (row.import - 1) w x (eight words) fits))

-- ---- what comes of it

comes_cost : (o : Outcome) (w v : World) (reply : Reply) → CostsIn o → Comes o w (Ok (Now reply)) v → IsSmall reply.cost
comes_cost (Replies given world) w v reply small comes = subst (λ (r : Reply). IsSmall r.cost) (sym comes.0) small
comes_cost (Picks n given world) w v reply small comes = subst (λ (r : Reply). IsSmall r.cost) (sym comes.2) (small comes.0)
comes_cost (PicksDescriptor kind handle given world) w v reply small comes = subst (λ (r : Reply). IsSmall r.cost) (sym comes.2) (small comes.0)
comes_cost (Breaks rule) w v reply small comes = absurd comes
comes_cost (Spins holder world) w v reply small comes = absurd comes
comes_cost (Sleeps moment) w v reply small comes = absurd comes
comes_cost Synchronizes w v reply small comes = absurd comes

pub now : (w v : World) (x : Caller) (row : Row) (words : List ℕ) (reply : Reply) → AreWords (eight words) → Comes (outcome w x row words) w (Ok (Now reply)) v → IsSmall reply.cost
now w v x row words reply fits comes = comes_cost (outcome w x row words) w v reply (outcome_costs w x row words fits) comes
