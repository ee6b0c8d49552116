-- A block that is given back directly leaves what was there.
use Rattle.std.proofs.Common.{◌≡◌, ℕ, ◌+◌, ◌≤◌, max, Bool, true, false, Option, None, Some, is_some, refl, sym, ap, ◌∙◌, arith, cond}
use Rattle.std.specs.Ordering.{nat_cmp, eq_by_cmp}
use Rattle.std.specs.FinMap as table
use Rattle.std.specs.Cmp.{nat_cmp_total}
use Rattle.std.specs.FinMap.{get-insert, get-remove, same_map, nat_cmp-IsAntisymmetric}
use Rattle.std.proofs.lemmas.Bool.Decides.{nat_tests}
use Rattle.guest_map.specs.Regions.{lies_in, end_of}
use Rattle.guest_map.specs.Regions as guest
use Rattle.packet_pool.specs.LiveSet.{LiveSet, block_at, block_range, first_free}
use Rattle.packet_pool.specs.LiveMoves.{MakeBlock, FreeBlock, Makes, may, after}
use Rattle.packet_pool.specs.Laws.{RoomLaws}
use Rattle.packet_pool.specs.KeptLive.{BlockAt, range_of}
use Rattle.calls_setup.specs.Blocks.{IsMade}

by_key : {X : Type 0} (b : Bool) (v : X) (found kept : Option X) → (b ≡ true → kept ≡ None) → found ≡ cond b None (cond b (Some v) kept) → found ≡ kept
by_key true v found kept none e = e ∙ sym (none refl)
by_key false v found kept none e = e

pub removed_again : {X : Type 0} (m : table.FinMap nat_cmp X) (a : ℕ) (v : X) → table.get m a ≡ None → table.remove (table.insert m a v) a ≡ m
removed_again m a v none =
    same_map nat_cmp_total nat_cmp-IsAntisymmetric _ _ (λ q. by_key (eq_by_cmp nat_cmp q a) v _ _ (λ e. grind (arith, none, e)) (get-remove nat_cmp_total _ a q ∙ ap (cond (eq_by_cmp nat_cmp q a) None) (get-insert nat_cmp_total m a v q)))

lies_first : (a n : ℕ) → lies_in (block_range a n) a ≡ true
lies_first a n = grind (arith, nat_tests)

apart_from_itself : (laws : RoomLaws) (s : LiveSet) (n a length : ℕ) → may s (MakeBlock n a) ≡ true → block_at s a ≡ Some length → false ≡ true
apart_from_itself laws s n a length free found =
    let taken : range_of s (BlockAt a) ≡ Some (block_range a length) = rw found refl in
    sym (laws.apart s (block_range a n) (BlockAt a) (block_range a length) free taken a (lies_first a n)) ∙ lies_first a length

none_there : (laws : RoomLaws) (s : LiveSet) (n a : ℕ) (found : Option ℕ) → may s (MakeBlock n a) ≡ true → block_at s a ≡ found → found ≡ None
none_there laws s n a None free e = refl
none_there laws s n a (Some length) free e = absurd (cc (apart_from_itself laws s n a length free e))

pub given_back : (laws : RoomLaws) (s : LiveSet) (n a : ℕ) → may s (MakeBlock n a) ≡ true → after (after s (MakeBlock n a)) (FreeBlock a) ≡ s
given_back laws s n a free =
    ap (λ blocks. record s { blocks = blocks }) (removed_again s.blocks a n (none_there laws s n a (block_at s a) free refl))

eq_by_cmp_itself : (a : ℕ) → eq_by_cmp nat_cmp a a ≡ true
eq_by_cmp_itself a = grind (arith, nat_tests)

there : {X : Type 0} (m : table.FinMap nat_cmp X) (a : ℕ) (v : X) → table.get (table.insert m a v) a ≡ Some v
there m a v = get-insert nat_cmp_total m a v a ∙ rw (eq_by_cmp_itself a) refl

-- a block that was made can be freed
pub may_give_back : (s : LiveSet) (n a : ℕ) → may (after s (MakeBlock n a)) (FreeBlock a) ≡ true
may_give_back s n a = ap is_some (there s.blocks a n)

inside_pool : (laws : RoomLaws) (s : LiveSet) (n a : ℕ) → may s (MakeBlock n a) ≡ true → a + n ≤ end_of guest.pool
inside_pool laws s n a free = let within = laws.inside s (block_range a n) free in omega (arith, within.to)

pub made : (laws : RoomLaws) (s : LiveSet) (n a : ℕ) (s' : LiveSet) → first_free s (max n 1) ≡ Some a → Makes s (MakeBlock n a) s' → IsMade s n a s'
made laws s n a s' found m = record {
  room = ap is_some found;
  allowed = m.may;
  made = m.after;
  inside = inside_pool laws s n a m.may;
  free = ap (λ (x : LiveSet). may x (FreeBlock a)) m.after ∙ may_give_back s n a;
  back = ap (λ (x : LiveSet). after x (FreeBlock a)) m.after ∙ given_back laws s n a m.may;
}
