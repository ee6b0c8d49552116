-- A block that a call gives the address of.
use Rattle.std.specs.Prelude.{◌≡◌, ◌≤◌, ℕ, ◌+◌, max, Bool, true, false, Option, None, Some, Result, Ok, Err, is_some}
use Rattle.nd_base.specs.declared.numbers.Addr.{Addr}
use Rattle.guest_map.specs.Regions.{end_of}
use Rattle.guest_map.specs.Regions as guest
use Rattle.packet_pool.specs.LiveSet.{LiveSet, first_free}
use Rattle.packet_pool.specs.LiveMoves.{MakeBlock, FreeBlock, may, after}
use Rattle.guest_world.specs.declared.answer.CallRefusal.{CallRefusal}
use Rattle.guest_world.specs.declared.answer.CallRefusal.TheVariants.{OutOfMemory, Broken}
use Rattle.import_answers.specs.Outcomes.{arguments_rule}

abbrev pub has_room : LiveSet → ℕ → Bool
has_room s n = is_some (first_free s (max n 1))

-- it was made, lies in the pool, and may be given back, which leaves what was there
pub record IsMade (s : LiveSet) (n a : ℕ) (s' : LiveSet) : Type 0 where
  pub room : has_room s n ≡ true
  pub allowed : may s (MakeBlock n a) ≡ true
  pub made : s' ≡ after s (MakeBlock n a)
  pub inside : a + n ≤ end_of guest.pool
  pub free : may s' (FreeBlock a) ≡ true
  pub back : after s' (FreeBlock a) ≡ s

-- it was not, and nothing changed
pub record IsNotMade (s : LiveSet) (n : ℕ) (found : Bool) (s' : LiveSet) : Type 0 where
  pub room : has_room s n ≡ found
  pub kept : s' ≡ s

-- A block of n bytes where the pool has room for it, if the place for its address can be written; if not, the rule on arguments is broken.
abbrev pub GivesBlock : LiveSet → ℕ → Bool → Result (Option Addr) CallRefusal → LiveSet → Type 0
GivesBlock s n writable (Ok (Some a)) s' = IsMade s n a.0 s' × (writable ≡ true)
GivesBlock s n writable (Ok None) s' = IsNotMade s n false s'
GivesBlock s n writable (Err OutOfMemory) s' = IsNotMade s n true s' × (writable ≡ true)
GivesBlock s n writable (Err (Broken broken)) s' = IsNotMade s n true s' × (writable ≡ false) × (broken.0 ≡ arguments_rule)
