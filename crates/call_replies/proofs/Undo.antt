-- What is made and ended at once.
use Rattle.std.proofs.Common.{◌≡◌, ◌≢◌, ℕ, ◌+◌, max, Bool, true, false, ◌&&◌, not, cond, eqb, ltb, Option, None, Some, Result, Ok, Err, is_some, refl, sym, ap, ◌∙◌, arith, ⊎_elim, eq-eqb, ne_eqb, ltb-true}
use Rattle.std.proofs.lemmas.Bool.{false≢true, cases_eq, le-leb, lt-ltb}
use Rattle.std.specs.Option.{option_map}
use Rattle.std.specs.Ordering.{nat_cmp, eq_by_cmp, is_eq}
use Rattle.std.specs.declared.cmp.Ordering.TheVariants.{Less, Equal, Greater}
use Rattle.std.specs.Cmp.{nat_cmp_total}
use Rattle.std.specs.FinMap.{FinMap, get, insert, remove, get-insert, get-remove, same_map, nat_cmp-IsAntisymmetric}
use Rattle.nd_base.specs.declared.numbers.Breach.{Breach}
use Rattle.guest_map.specs.Regions.{lies_in}
use Rattle.packet_pool.specs.declared.states.Kind.{Kind}
use Rattle.packet_pool.specs.declared.states.Kind.TheVariants.{Packet, Buffer}
use Rattle.packet_pool.specs.declared.states.Descriptor.{Descriptor}
use Rattle.packet_pool.specs.LiveSet.{LiveSet, block_at, pool_of, descriptor_at, block_range, is_same, is_of_kind, is_lent_in}
use Rattle.packet_pool.specs.LiveMoves.{MakeBlock, FreeBlock, Allocate, Free, Makes, Frees, may, after, is_pool_of, is_place_of_pool}
use Rattle.packet_pool.specs.KeptLive.{BlockAt}
use Rattle.packet_pool.specs.Laws.{RoomLaws}

-- ---- a key that is put and taken away again

-- a number ties with itself alone
tied : (less same : Bool) → (less ≡ true → same ≡ false) → is_eq (cond less Less (cond same Equal Greater)) ≡ same
tied true same h = sym (h refl)
tied false true h = refl
tied false false h = refl

ties : (q k : ℕ) → eq_by_cmp nat_cmp q k ≡ eqb q k
ties q k = tied (ltb q k) (eqb q k) (λ h. ne_eqb q k (λ e. omega (arith, ltb-true q k h)))

module _ {X : Type 0} where
  here : (m : FinMap nat_cmp X) (k : ℕ) (v : X) → get (insert m k v) k ≡ Some v
  here m k v = get-insert nat_cmp_total m k v k ∙ ap (λ b. cond b (Some v) (get m k)) (ties k k ∙ eq-eqb k k refl)

  remove_insert : (m : FinMap nat_cmp X) (k : ℕ) (v : X) → get m k ≡ None → remove (insert m k v) k ≡ m
  remove_insert m k v none =
      same_map nat_cmp_total nat_cmp-IsAntisymmetric _ _
      (λ q. get-remove nat_cmp_total (insert m k v) k q
      ∙ ⊎_elim (λ (same : q ≡ k). ap (λ b. cond b None (get (insert m k v) q)) (ties q k ∙ eq-eqb q k same) ∙ sym (ap (get m) same ∙ none))
      (λ (ne : q ≢ k). ap (λ b. cond b None (get (insert m k v) q)) (ties q k ∙ ne_eqb q k ne) ∙ (get-insert nat_cmp_total m k v q ∙ ap (λ b. cond b (Some v) (get m q)) (ties q k ∙ ne_eqb q k ne)))
      (cases_eq q k))

-- ---- blocks

lies_at_first : (a n : ℕ) → lies_in (block_range a n) a ≡ true
lies_at_first a n = ap (λ b. b && ltb a (a + max n 1)) (le-leb a a (omega arith)) ∙ lt-ltb a (a + max n 1) (omega arith)

-- there is no block where one may be made
no_block : (rooms : RoomLaws) (s : LiveSet) (n a : ℕ) (found : Option ℕ) → block_at s a ≡ found → may s (MakeBlock n a) ≡ true → found ≡ None
no_block rooms s n a None is can = refl
no_block rooms s n a (Some m) is can =
    let apart = rooms.apart s (block_range a n) (BlockAt a) (block_range a m) can (ap (option_map (block_range a)) is) in
    absurd (false≢true (sym (apart a (lies_at_first a n)) ∙ lies_at_first a m))

pub block_undone : (rooms : RoomLaws) (s made ended : LiveSet) (n a : ℕ) (answer : Result (Unit {0}) Breach) → Makes s (MakeBlock n a) made → Frees made (FreeBlock a) answer ended → ended ≡ s
block_undone rooms s made ended n a (Ok done) makes frees =
    frees.after ∙ (ap (λ (t : LiveSet). after t (FreeBlock a)) makes.after ∙ ap (λ blocks. record s { blocks = blocks }) (remove_insert s.blocks a n (no_block rooms s n a (block_at s a) refl makes.may)))
block_undone rooms s made ended n a (Err broken) makes frees =
    absurd (false≢true (sym frees.may_not ∙ (ap (λ (t : LiveSet). may t (FreeBlock a)) makes.after ∙ ap is_some (here s.blocks a n))))

-- ---- descriptors

same_kind : (kind : Kind) → is_same kind kind ≡ true
same_kind Packet = refl
same_kind Buffer = refl

last_of_three : (a b c : Bool) → (a && (b && not c)) ≡ true → c ≡ false
last_of_three true true true h = absurd (false≢true h)
last_of_three true true false h = refl
last_of_three true false c h = absurd (false≢true h)
last_of_three false b c h = absurd (false≢true h)

is_none_of : {A : Type 0} (o : Option A) → is_some o ≡ false → o ≡ None
is_none_of None h = refl
is_none_of (Some x) h = absurd (false≢true (sym h))

pub descriptor_undone : (s made ended : LiveSet) (kind : Kind) (handle a : ℕ) (answer : Result (Unit {0}) Breach) → Makes s (Allocate kind handle a) made → Frees made (Free kind a) answer ended → ended ≡ s
descriptor_undone s made ended kind handle a (Ok done) makes frees =
    let none = is_none_of (descriptor_at s a) (last_of_three (is_pool_of kind (pool_of s handle)) (is_place_of_pool (pool_of s handle) a) (is_some (descriptor_at s a)) makes.may) in
    frees.after ∙ (ap (λ (t : LiveSet). after t (Free kind a)) makes.after ∙ ap (λ descriptors. record s { descriptors = descriptors }) (remove_insert s.descriptors a (record { kind = kind; pool = handle; lent = false }) none))
descriptor_undone s made ended kind handle a (Err broken) makes frees =
    let new : Descriptor = record { kind = kind; pool = handle; lent = false } in
    absurd (false≢true (sym frees.may_not ∙ (ap (λ (t : LiveSet). may t (Free kind a)) makes.after ∙ (ap (λ found. is_of_kind kind found && not (is_lent_in found)) (here s.descriptors a new) ∙ ap (λ b. b && true) (same_kind kind)))))
