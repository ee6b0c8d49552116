-- A reply names the address that the library picked: no other one makes the same reply.
use Rattle.std.proofs.Common.{rules, ◌≡◌, ℕ, zero, suc, ◌+◌, ◌/◌, ◌^◌, ◌<◌, ◌≤◌, Bool, true, false, ◌&&◌, ◌||◌, ◌==◌, List, [], ◌∷◌, ◌++◌, slice_index_or, refl, sym, ap, ◌∙◌, subst, Option, Some, None, Result, Ok, Err, inl, inr, arith}
use Rattle.std.specs.Prelude.{⊤, ◌-◌, max, nat_le, length, filter, slice_get}
use Rattle.std.specs.List.{list_any}
use Rattle.std.specs.Option.{option_and_then, option_map}
use Rattle.std.specs.Int.{w32, to_le_bytes, from_le_bytes}
use Rattle.std.specs.Str.{bytes_eq}
use Rattle.std.proofs.lemmas.Bool.{leb-true, cases_Bool}
use Rattle.std.proofs.lemmas.Nat.{from_le_bytes-to_le_bytes_4}
use Rattle.std.proofs.lemmas.Slice.Eq.{bytes_eq-Decides}
use Rattle.nd_base.specs.declared.numbers.Breach.{Breach}
use Rattle.nd_base.specs.declared.numbers.CtxNo.{CtxNo}
use Rattle.irql_lock.specs.LockState.{LockState, level_of}
use Rattle.inf_file.specs.ByName.{value_of}
use Rattle.packet_pool.specs.declared.states.Kind.{Kind}
use Rattle.packet_pool.specs.declared.states.PoolRefusal.{PoolRefusal}
use Rattle.packet_pool.specs.declared.states.Kind.TheVariants.{Packet, Buffer}
use Rattle.packet_pool.specs.LiveMoves.{LiveMove, MakeBlock, Allocate, may, pool_refusal}
use Rattle.log_fields.specs.declared.write.Write.{Write}
use Rattle.import_table.specs.Table.{Row, row_of}
use Rattle.guest_world.specs.declared.miniport.Miniport.{Miniport}
use Rattle.guest_world.specs.declared.answer.Caller.{Caller}
use Rattle.guest_world.specs.declared.answer.Reply.{Reply}
use Rattle.guest_world.specs.declared.world.World.{World}
use Rattle.import_answers.specs.Outcomes.{Outcome, Breaks, Replies, Picks, PicksDescriptor, Spins, Sleeps, Synchronizes, Comes, asks, arguments_rule, written, word_written, plain}
use Rattle.import_answers.specs.Registration as r
use Rattle.import_answers.specs.Configuration as c
use Rattle.import_answers.specs.Blocks as b
use Rattle.import_answers.specs.Descriptors as d
use Rattle.import_answers.specs.Levels as l
use Rattle.import_answers.specs.Ports as p
use Rattle.import_answers.specs.Answers.{Answering, answering, none_such, level_rule, eight, outcome}
use Rattle.import_answers.specs.Statuses.{success}
use Rattle.import_answers.specs.World.{cells, word, params_of}
use Rattle.legal_run.specs.Enters.{same_writes}
use Rattle.guest_world.specs.declared.answer.Answer.TheVariants.{Now}
use Rattle.legal_run.specs.State.{State, Wait, Nothing, OnLock, OnClock, OnSync, Calling, call_at, caller}
use Rattle.legal_run.specs.Calls.{outcome_of}
use Rattle.legal_run.specs.Laws.{is_by_row}
use Rattle.legal_run.specs.Replies.{Told, is_told, told_as, word_in, addresses_named, is_picked, picked, by_outcome, answered_by, answered}
use Rattle.legal_run.proofs.Between.{true_both}

is_among : ℕ → List ℕ → Bool
is_among a xs = list_any (λ x. x == a) xs

-- the writes of a row's reply, by the address that was picked
pub record NamesIt (w : World) (move : ℕ → LiveMove) (reply : ℕ → Reply) : Type 0 where
  pub named : (a : ℕ) → may w.pools (move a) ≡ true → list_any (λ x. x == a) (addresses_named (reply a).writes) ≡ true
  pub one : (a o : ℕ) (more told : List Write) → may w.pools (move a) ≡ true → may w.pools (move o) ≡ true
      → same_writes ((reply a).writes ++ more) told ≡ true → same_writes ((reply o).writes ++ more) told ≡ true → a ≡ o

eqb_same : (a : ℕ) → (a == a) ≡ true
eqb_same a = search rules

eqb_is : (a o : ℕ) → (a == o) ≡ true → a ≡ o
eqb_is a o h = search rules

-- ---- replies whose first write is at the address

first_named : (a : ℕ) (bytes : List ℕ) (rest : List Write) → list_any (λ x. x == a) (addresses_named (written a bytes ∷ rest)) ≡ true
first_named a bytes rest = search (rules, eqb_same)

first_one : (a o : ℕ) (these those : List ℕ) (rest more : List Write) (told : List Write)
    → same_writes (written a these ∷ rest) told ≡ true → same_writes (written o those ∷ more) told ≡ true → a ≡ o
first_one a o these those rest more [] one other = absurd (cc)
first_one a o these those rest more (t ∷ told) one other =
    eqb_is a t.at.0 (true_both _ _ one).0 ∙ sym (eqb_is o t.at.0 (true_both _ _ other).0)

first_names : (w : World) (move : ℕ → LiveMove) (reply : ℕ → Reply) (bytes : ℕ → List ℕ) (rest : ℕ → List Write)
    → ((a : ℕ) → (reply a).writes ≡ written a (bytes a) ∷ rest a) → NamesIt w move reply
first_names w move reply bytes rest is = record {
  named = λ a may_a. rw (is a) (first_named a (bytes a) (rest a));
  one = λ a o more told may_a may_o one other.
      first_one a o (bytes a) (bytes o) (rest a ++ more) (rest o ++ more) told
      (subst (λ (ws : List Write). same_writes (ws ++ more) told ≡ true) (is a) one)
      (subst (λ (ws : List Write). same_writes (ws ++ more) told ≡ true) (is o) other);
}

value_names : (w : World) (words : List ℕ) (read : c.Read) → NamesIt w (MakeBlock (c.block_length read)) (c.value_reply words read)
value_names w words read =
    first_names w (MakeBlock (c.block_length read)) (c.value_reply words read) (c.block_bytes (word words 5) read)
    (λ a. word_written (word words 1) success ∷ word_written (word words 2) a ∷ []) (λ a. refl)

address_names : (w : World) (words bytes : List ℕ) → NamesIt w (MakeBlock 6) (c.address_reply words bytes)
address_names w words bytes =
    first_names w (MakeBlock 6) (c.address_reply words bytes) (λ a. bytes)
    (λ a. word_written (word words 1) success ∷ word_written (word words 2) a ∷ word_written (word words 3) 6 ∷ []) (λ a. refl)

abbrev descriptor_reply : World → Kind → List ℕ → ℕ → Reply
descriptor_reply w kind words a = plain 0 (written a (d.descriptor_bytes w kind words) ∷ d.status_and words success a)

descriptor_names : (w : World) (kind : Kind) (words : List ℕ) → NamesIt w (Allocate kind (word words 3)) (descriptor_reply w kind words)
descriptor_names w kind words =
    first_names w (Allocate kind (word words 3)) (descriptor_reply w kind words) (λ a. d.descriptor_bytes w kind words)
    (λ a. d.status_and words success a) (λ a. refl)

-- ---- a block of no bytes is named by a word alone

abbrev memory_reply : ℕ → ℕ → ℕ → Reply
memory_reply place n a = plain success (b.zeros_written a n ++ word_written place a ∷ [])

-- a block lies in the guest pool
low : (w : World) (n a : ℕ) → may w.pools (MakeBlock n a) ≡ true → a < 2 ^ 32
low w n a is =
    let inside = (true_both _ _ (true_both _ _ (true_both _ _ is).0).1).1 in
    let to : a + max n 1 ≤ 0x81800000 = leb-true (a + max n 1) 0x81800000 inside in
    omega arith

word_named : (place a : ℕ) → a < 2 ^ 32 → list_any (λ x. x == a) (place ∷ from_le_bytes w32 (to_le_bytes w32 a) ∷ []) ≡ true
word_named place a is = let back = from_le_bytes-to_le_bytes_4 a is in rw back (second (place == a) (eqb_same a))
  where
    second : (x : Bool) {y : Bool} → y ≡ true → (x || (y || false)) ≡ true
    second true h = refl
    second false h = rw h refl

same_word : (a o : ℕ) (bytes : List ℕ) → a < 2 ^ 32 → o < 2 ^ 32 → bytes_eq (to_le_bytes w32 a) bytes ≡ true → bytes_eq (to_le_bytes w32 o) bytes ≡ true → a ≡ o
same_word a o bytes is_a is_o one other =
    let same_a : to_le_bytes w32 a ≡ bytes = equal _ bytes one in
    let same_o : to_le_bytes w32 o ≡ bytes = equal _ bytes other in
    sym (from_le_bytes-to_le_bytes_4 a is_a) ∙ ap (from_le_bytes w32) (same_a ∙ sym same_o) ∙ from_le_bytes-to_le_bytes_4 o is_o
  where
    equal : (xs ys : List ℕ) → bytes_eq xs ys ≡ true → xs ≡ ys
    equal xs ys h = search (rules, bytes_eq-Decides)

word_one : (place a o : ℕ) (more told : List Write) → a < 2 ^ 32 → o < 2 ^ 32
    → same_writes (word_written place a ∷ more) told ≡ true → same_writes (word_written place o ∷ more) told ≡ true → a ≡ o
word_one place a o more [] is_a is_o one other = absurd (cc)
word_one place a o more (t ∷ told) is_a is_o one other =
    same_word a o t.bytes is_a is_o (true_both _ _ (true_both _ _ one).1).0 (true_both _ _ (true_both _ _ other).1).0

memory_names : (w : World) (place n : ℕ) → NamesIt w (MakeBlock n) (memory_reply place n)
memory_names w place zero = record {
  named = λ a is. word_named place a (low w 0 a is);
  one = λ a o more told may_a may_o one other. word_one place a o more told (low w 0 a may_a) (low w 0 o may_o) one other;
}
memory_names w place (suc n) =
    first_names w (MakeBlock (suc n)) (memory_reply place (suc n)) (λ a. b.zeros (suc n)) (λ a. word_written place a ∷ []) (λ a. refl)

-- ---- all rows

abbrev pub NamesIn : World → Outcome → Type 0
NamesIn w (Picks n reply v) = NamesIt w (MakeBlock n) reply
NamesIn w (PicksDescriptor kind handle reply v) = NamesIt w (Allocate kind handle) reply
NamesIn w _ = ⊤

given_names : (w : World) (words : List ℕ) (read : Option c.Read) → NamesIn w (c.given_value w words read)
given_names w words None = tt
given_names w words (Some read) = let h = value_names w words read in search rules

given_address_names : (w : World) (words : List ℕ) (bytes : Option (List ℕ)) → NamesIn w (c.given_address w words bytes)
given_address_names w words None = tt
given_address_names w words (Some bytes) = let h = address_names w words bytes in search rules

pool_names : (w : World) (kind : Kind) (words : List ℕ) (refusal : Option PoolRefusal) → NamesIn w (d.given_pool w kind words refusal)
pool_names w kind words (Some refusal) = tt
pool_names w kind words None = tt

registers_name : (w : World) (m : Result Miniport ℕ) → NamesIn w (r.registers w m)
registers_name w (Ok m) = tt
registers_name w (Err status) = tt

unchained_name : (w : World) (words : List ℕ) (head : ℕ) → NamesIn w (d.unchained w words head)
unchained_name w words zero = search rules
unchained_name w words (suc head) = search rules

totalled_name : (w : World) (words : List ℕ) (head : ℕ) (total : Option ℕ) → NamesIn w (d.totalled w words head total)
totalled_name w words head None = tt
totalled_name w words head (Some total) = search rules

first_name : (w : World) (words : List ℕ) (head : ℕ) → NamesIn w (d.first_buffer w words head)
first_name w words zero = search rules
first_name w words (suc head) = totalled_name w words (suc head) _

move_name : (w : World) (eax : ℕ) (moved : Result LockState Breach) → NamesIn w (l.after_move w eax moved)
move_name w eax (Ok levels) = tt
move_name w eax (Err broken) = tt

spin_name : (w : World) (holder : Option CtxNo) (moved : Result LockState Breach) → NamesIn w (l.got_or_spins w holder moved)
spin_name w None (Ok levels) = tt
spin_name w (Some holder) (Ok levels) = tt
spin_name w holder (Err broken) = tt

read_name : (w : World) (x : Caller) (words : List ℕ) (width : ℕ) (port : Option ℕ) → NamesIn w (p.read_port w x words width port)
read_name w x words width None = tt
read_name w x words width (Some port) = tt

write_name : (w : World) (x : Caller) (words : List ℕ) (width : ℕ) (port : Option ℕ) → NamesIn w (p.write_port w x words width port)
write_name w x words width None = tt
write_name w x words width (Some port) = tt

reads_name : (w : World) (x : Caller) (words : List ℕ) (width : ℕ) (port : Option ℕ) → NamesIn w (p.read_buffer w x words width port)
reads_name w x words width None = tt
reads_name w x words width (Some port) = tt

writes_name : (w : World) (x : Caller) (words : List ℕ) (width : ℕ) (port : Option ℕ) → NamesIn w (p.write_buffer w x words width port)
writes_name w x words width None = tt
writes_name w x words width (Some port) = tt

abbrev RowNames : Answering → Type 0
RowNames f = (w : World) (x : Caller) (words : List ℕ) → NamesIn w (f w x words)

abbrev AllName : List Answering → Type 0
AllName [] = ⊤
AllName (f ∷ fs) = RowNames f × AllName fs

all_names : AllName answering
unfolding answering
all_names = (
  (λ w x words. search rules),
  (
    (λ w x words. tt),
    (
      (λ w x words. let h = registers_name w (r.judged (cells w) (word words 2) (word words 3)) in search rules),
      (
        (λ w x words. move_name w _ _),
        (
          (λ w x words. move_name w _ _),
          (
            (λ w x words. search rules),
            (
              (λ w x words. search rules),
              (
                (λ w x words. let h = given_names w words (option_and_then (c.read_as (word words 5)) (value_of (c.units_at (cells w) (c.counted_at (cells w) (word words 4)).characters ((c.counted_at (cells w) (word words 4)).length / 2)) (params_of w x.adapter))) in search rules),
                (
                  (λ w x words. search rules),
                  (
                    (λ w x words. let h = given_address_names w words (option_and_then c.address_in (value_of c.network_address (params_of w x.adapter))) in search rules),
                    (
                      (λ w x words. search rules),
                      (
                        (λ w x words. search rules),
                        (
                          (λ w x words. search rules),
                          (
                            (λ w x words. search rules),
                            (
                              (λ w x words. search rules),
                              (
                                (λ w x words. search rules),
                                (
                                  (λ w x words. search rules),
                                  (
                                    (λ w x words. search rules),
                                    (
                                      (λ w x words. search rules),
                                      (
                                        (λ w x words. tt),
                                        (
                                          (λ w x words. let h = memory_names w (word words 1) (word words 2) in search rules),
                                          (
                                            (λ w x words. search rules),
                                            (
                                              (λ w x words. let h = pool_names w Packet words (pool_refusal w.pools Packet (word words 3)) in search rules),
                                              (
                                                (λ w x words. search rules),
                                                (
                                                  (λ w x words. let h = descriptor_names w Packet words in search rules),
                                                  (
                                                    (λ w x words. search rules),
                                                    (
                                                      (λ w x words. let h = pool_names w Buffer words (pool_refusal w.pools Buffer (word words 3)) in search rules),
                                                      (
                                                        (λ w x words. search rules),
                                                        (
                                                          (λ w x words. let h = descriptor_names w Buffer words in search rules),
                                                          (
                                                            (λ w x words. search rules),
                                                            (
                                                              (λ w x words. let h = unchained_name w words (d.head_of w (word words 1)) in search rules),
                                                              (
                                                                (λ w x words. search rules),
                                                                (
                                                                  (λ w x words. move_name w _ _),
                                                                  (
                                                                    (λ w x words. move_name w _ _),
                                                                    (
                                                                      (λ w x words. spin_name w _ _),
                                                                      (
                                                                        (λ w x words. move_name w _ _),
                                                                        (
                                                                          (λ w x words. spin_name w _ _),
                                                                          (
                                                                            (λ w x words. move_name w _ _),
                                                                            (
                                                                              (λ w x words. search rules),
                                                                              (
                                                                                (λ w x words. search rules),
                                                                                (
                                                                                  (λ w x words. search rules),
                                                                                  (
                                                                                    (λ w x words. search rules),
                                                                                    (
                                                                                      (λ w x words. search rules),
                                                                                      (
                                                                                        (λ w x words. search rules),
                                                                                        (
                                                                                          (λ w x words. search rules),
                                                                                          (
                                                                                            (λ w x words. search rules),
                                                                                            (
                                                                                              (λ w x words. search rules),
                                                                                              (
                                                                                                (λ w x words. search rules),
                                                                                                (
                                                                                                  (λ w x words. search rules),
                                                                                                  (
                                                                                                    (λ w x words. search rules),
                                                                                                    (
                                                                                                      (λ w x words. search rules),
                                                                                                      (
                                                                                                        (λ w x words. let h = first_name w words (d.head_of w (word words 1)) in search rules),
                                                                                                        (
                                                                                                          (λ w x words. read_name w x words 1 _),
                                                                                                          (
                                                                                                            (λ w x words. read_name w x words 2 _),
                                                                                                            (
                                                                                                              (λ w x words. write_name w x words 1 _),
                                                                                                              (
                                                                                                                (λ w x words. write_name w x words 2 _),
                                                                                                                (
                                                                                                                  (λ w x words. let h = reads_name w x words 1 (p.offset_of_port w x.adapter (word words 1)) in search rules),
                                                                                                                  (
                                                                                                                    (λ w x words. let h = reads_name w x words 2 (p.offset_of_port w x.adapter (word words 1)) in search rules),
                                                                                                                    (
                                                                                                                      (λ w x words. let h = writes_name w x words 1 (p.offset_of_port w x.adapter (word words 1)) in search rules),
                                                                                                                      (
                                                                                                                        (λ w x words. let h = writes_name w x words 2 (p.offset_of_port w x.adapter (word words 1)) in search rules),
                                                                                                                        (
                                                                                                                          (λ w x words. tt),
                                                                                                                          (
                                                                                                                            (λ w x words. search rules),
                                                                                                                            (
                                                                                                                              (λ w x words. search rules),
                                                                                                                              (
                                                                                                                                (λ w x words. tt),
                                                                                                                                tt,
                                                                                                                              ),
                                                                                                                            ),
                                                                                                                          ),
                                                                                                                        ),
                                                                                                                      ),
                                                                                                                    ),
                                                                                                                  ),
                                                                                                                ),
                                                                                                              ),
                                                                                                            ),
                                                                                                          ),
                                                                                                        ),
                                                                                                      ),
                                                                                                    ),
                                                                                                  ),
                                                                                                ),
                                                                                              ),
                                                                                            ),
                                                                                          ),
                                                                                        ),
                                                                                      ),
                                                                                    ),
                                                                                  ),
                                                                                ),
                                                                              ),
                                                                            ),
                                                                          ),
                                                                        ),
                                                                      ),
                                                                    ),
                                                                  ),
                                                                ),
                                                              ),
                                                            ),
                                                          ),
                                                        ),
                                                      ),
                                                    ),
                                                  ),
                                                ),
                                              ),
                                            ),
                                          ),
                                        ),
                                      ),
                                    ),
                                  ),
                                ),
                              ),
                            ),
                          ),
                        ),
                      ),
                    ),
                  ),
                ),
              ),
            ),
          ),
        ),
      ),
    ),
  ),
)

at_names : (fs : List Answering) → AllName fs → (n : ℕ) → RowNames (slice_index_or fs n none_such)
at_names [] all n w x words = tt
at_names (f ∷ fs) all zero w x words = all.0 w x words
at_names (f ∷ fs) all (suc n) w x words = at_names fs all.1 n w x words

asked : (w : World) (b : Bool) (rule : ℕ) (o : Outcome) → NamesIn w o → NamesIn w (asks b rule o)
asked w true rule o h = h
asked w false rule o h = tt

pub outcome_names : (w : World) (x : Caller) (row : Row) (words : List ℕ) → NamesIn w (outcome w x row words)
outcome_names w x row words =
    asked w (nat_le row.low (level_of w.levels x.context) && nat_le (level_of w.levels x.context) row.high) level_rule _
    (asked w (nat_le row.words (length words)) arguments_rule _ (at_names answering all_names (row.import - 1) w x (eight words)))

-- ---- so the address that is read off a reply is the one that was picked

first_passing : (p : ℕ → Bool) (a : ℕ) (xs : List ℕ) → list_any (λ x. x == a) xs ≡ true → p a ≡ true → ((o : ℕ) → p o ≡ true → o ≡ a) → slice_get (filter p xs) 0 ≡ Some a
first_passing p a [] among passes one = absurd (cc)
first_passing p a (x ∷ xs) among passes one = elim (cases_Bool (p x)) [
  | inl holds ↦ rw holds (ap (λ o. Some o) (one x holds))
  | inr fails ↦ rw fails (first_passing p a xs (elsewhere fails (x == a) refl) passes one)
]
  where
    elsewhere : p x ≡ false → (b : Bool) → (x == a) ≡ b → list_any (λ o. o == a) xs ≡ true
    elsewhere fails true is = let same : x ≡ a = eqb_is x a is in let holds : p x ≡ true = rw same passes in absurd (cc)
    elsewhere fails false is = search rules

among_more : (a : ℕ) (these more : List Write) → list_any (λ x. x == a) (addresses_named these) ≡ true → list_any (λ x. x == a) (addresses_named (these ++ more)) ≡ true
among_more a [] more h = absurd (cc)
among_more a (t ∷ these) more h = either_one (t.at.0 == a) (word_in t == a) h (among_more a these more)
  where
    either_one : (x y : Bool) {u v : Bool} → (x || (y || u)) ≡ true → (u ≡ true → v ≡ true) → (x || (y || v)) ≡ true
    either_one true y h f = refl
    either_one false true h f = refl
    either_one false false h f = f h

bytes_same : (xs : List ℕ) → bytes_eq xs xs ≡ true
bytes_same xs = search (rules, bytes_eq-Decides)

writes_same : (ws : List Write) → same_writes ws ws ≡ true
writes_same [] = refl
writes_same (w ∷ ws) = let rest = writes_same ws in let bytes : bytes_eq w.bytes w.bytes ≡ true = bytes_same w.bytes in search (rules, eqb_same)

pub told_is : (reply : Reply) (more : List Write) → is_told (record { eax = reply.eax; writes = reply.writes ++ more }) more reply ≡ true
told_is reply more = let rest = writes_same (reply.writes ++ more) in search (rules, eqb_same)

pub picked_is : (w : World) (move : ℕ → LiveMove) (reply : ℕ → Reply) (more : List Write) (a : ℕ) → NamesIt w move reply → may w.pools (move a) ≡ true
    → picked w (record { eax = (reply a).eax; writes = (reply a).writes ++ more }) more move reply ≡ Some a
picked_is w move reply more a names is =
    let told : Told = record { eax = (reply a).eax; writes = (reply a).writes ++ more } in
    first_passing (is_picked w told more move reply) a (addresses_named told.writes) (among_more a (reply a).writes more (names.named a is))
    (passes is (told_is (reply a) more))
    (λ o h. names.one o a more told.writes (true_both _ _ h).0 is (true_both _ _ (true_both _ _ h).1).1 (writes_same told.writes))
  where
    passes : {x y : Bool} → x ≡ true → y ≡ true → (x && y) ≡ true
    passes one other = rw (one, other) refl

-- ---- what a row answers is taken

reply_taken : (reply : Reply) (more : List Write) (w : World) → told_as (record { eax = reply.eax; writes = reply.writes ++ more }) more reply w ≡ Some (reply, w)
reply_taken reply more w = rw (told_is reply more) refl

by_taken : (w : World) (more : List Write) (reply : Reply) (v : World) (o : Outcome) → NamesIn w o → Comes o w (Ok (Now reply)) v
    → by_outcome w (record { eax = reply.eax; writes = reply.writes ++ more }) more o ≡ Some (reply, v)
by_taken w more reply v (Replies given after) names h = rw (h.0, h.1) (reply_taken given more after)
by_taken w more reply v (Picks n given after) names h =
    rw (h.2, h.3) (ap (λ o. option_map (λ a. (given a, after a)) o) (picked_is w (MakeBlock n) given more h.0 names h.1))
by_taken w more reply v (PicksDescriptor kind handle given after) names h =
    rw (h.2, h.3) (ap (λ o. option_map (λ a. (given a, after a)) o) (picked_is w (Allocate kind handle) given more h.0 names h.1))
by_taken w more reply v (Breaks rule) names h = absurd h
by_taken w more reply v (Spins holder after) names h = absurd h
by_taken w more reply v (Sleeps moment) names h = absurd h
by_taken w more reply v Synchronizes names h = absurd h

wait_taken : (s : State) (x : CtxNo) (call : Calling) (told : Told) (wait : Wait) → is_by_row wait ≡ true
    → answered_by s x told call wait ≡ by_outcome s.world told call.writes (outcome_of s x call.import call.words)
wait_taken s x call told Nothing is = refl
wait_taken s x call told (OnLock lock) is = refl
wait_taken s x call told (OnClock wake) is = absurd (cc)
wait_taken s x call told (OnSync stage) is = absurd (cc)

pub taken : (s : State) (x : CtxNo) (call : Calling) (reply : Reply) (w : World) → call_at s x.0 ≡ Some call → is_by_row call.wait ≡ true
    → Comes (outcome_of s x call.import call.words) s.world (Ok (Now reply)) w
    → answered s x (record { eax = reply.eax; writes = reply.writes ++ call.writes }) ≡ Some (reply, w)
taken s x call reply w calls is h =
    let told : Told = record { eax = reply.eax; writes = reply.writes ++ call.writes } in
    ap (λ o. option_and_then (λ k. answered_by s x told k k.wait) o) calls
    ∙ wait_taken s x call told call.wait is
    ∙ by_taken s.world call.writes reply w _ (outcome_names s.world (caller s x) (row_of call.import) call.words) h
