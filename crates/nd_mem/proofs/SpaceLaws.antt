-- The first fault, the run that can be executed and the refusals of regions, address by address.
use Rattle.std.proofs.Common.{◌≡◌, ℕ, zero, suc, ◌+◌, ◌-◌, ◌<◌, ◌≤◌, Bool, true, false, nat_lt, if◌then◌else◌, List, Option, None, Some, is_some, refl, ap, ◌∙◌, arith}
use Rattle.std.proofs.lemmas.Bool.{le-ltb}
use Rattle.std.proofs.lemmas.Bool.Decides.{nat_tests}
use Rattle.std.specs.FinMap as map
use Rattle.std.specs.Option.{option_or}
use Rattle.nd_mem.specs.declared.MemFault.{MemFault}
use Rattle.nd_mem.specs.declared.RegionRefusal.TheVariants.{High, Overlaps}
use Rattle.nd_mem.specs.Space.{Space, Cells, Access, Executing, address, fault_at, first_fault, run_after, executable_run, first_mapped, overlap_at, put_from, region_refusal}
use Rattle.nd_mem.specs.Laws.{HasFirstFault}
use Rattle.nd_mem.proofs.Laws.{fault_put_at, mapped_none, mapped_none_at, mapped_at, mapped_put}

-- ---- the first fault
first_one : (access : Access) (cells : Cells) (a n k : ℕ) (fault : MemFault) → k < n → ((j : ℕ) → j < k → fault_at access cells (a + j) ≡ None) → fault_at access cells (a + k) ≡ Some fault → first_fault access cells a n ≡ Some fault
unfolding first_fault
first_one access cells a zero k fault less before here = absurd (omega arith)
first_one access cells a (suc n) zero fault less before here =
    rw (ap (fault_at access cells) (let e : a ≡ a + 0 = omega arith in e) ∙ here)
first_one access cells a (suc n) (suc k) fault less before here =
    rw (ap (fault_at access cells) (let e : a ≡ a + 0 = omega arith in e) ∙ before 0 (omega arith))
    (first_one access cells (a + 1) n k fault (omega arith) (λ j l. ap (fault_at access cells) (omega arith) ∙ before (suc j) (omega arith)) (ap (fault_at access cells) (omega arith) ∙ here))

pub first_is : (access : Access) (cells : Cells) (a n : ℕ) (fault : MemFault) → HasFirstFault access cells a n fault → first_fault access cells a n ≡ Some fault
first_is access cells a n fault has = first_one access cells a n has.distance fault has.inside has.before has.here

none_below : (access : Access) (cells : Cells) (a k j : ℕ) → fault_at access cells a ≡ None → ((i : ℕ) → i < k → fault_at access cells (a + 1 + i) ≡ None) → j < suc k → fault_at access cells (a + j) ≡ None
none_below access cells a k zero here later less = ap (fault_at access cells) (omega arith) ∙ here
none_below access cells a k (suc j) here later less = ap (fault_at access cells) (omega arith) ∙ later j (omega arith)

has_first : (access : Access) (cells : Cells) (a n : ℕ) (fault : MemFault) (here : Option MemFault) → fault_at access cells a ≡ here → option_or here (first_fault access cells (a + 1) n) ≡ Some fault → (first_fault access cells (a + 1) n ≡ Some fault → HasFirstFault access cells (a + 1) n fault) → HasFirstFault access cells a (suc n) fault
has_first access cells a n fault (Some f) is e later = record {
  distance = 0;
  inside = omega arith;
  before = λ j less. absurd (omega arith);
  here = ap (fault_at access cells) (omega arith) ∙ is ∙ e;
}
has_first access cells a n fault None is e later =
    let rest = later e in
    record {
      distance = suc rest.distance;
      inside = omega (arith, rest.inside);
      before = λ j less. none_below access cells a rest.distance j is rest.before less;
      here = ap (fault_at access cells) (omega arith) ∙ rest.here;
    }

pub first_has : (access : Access) (cells : Cells) (a n : ℕ) (fault : MemFault) → first_fault access cells a n ≡ Some fault → HasFirstFault access cells a n fault
unfolding first_fault
first_has access cells a zero fault e = absurd (cc)
first_has access cells a (suc n) fault e =
    has_first access cells a n fault (fault_at access cells a) refl e (λ e'. first_has access cells (a + 1) n fault e')

-- ---- the run that can be executed
each_of : (cells : Cells) (a r k : ℕ) (here : Option MemFault) → fault_at Executing cells a ≡ here → ((j : ℕ) → j < r → fault_at Executing cells (a + 1 + j) ≡ None) → k < run_after here r → fault_at Executing cells (a + k) ≡ None
each_of cells a r k (Some f) is later less = absurd (omega arith)
each_of cells a r k None is later less = none_below Executing cells a r k is later less

pub executable_each : (cells : Cells) (a n k : ℕ) → k < executable_run cells a n → fault_at Executing cells (a + k) ≡ None
unfolding executable_run
executable_each cells a zero k less = absurd (omega arith)
executable_each cells a (suc n) k less =
    each_of cells a (executable_run cells (a + 1) n) k (fault_at Executing cells a) refl (λ j l. executable_each cells (a + 1) n j l) less

longest_of : (cells : Cells) (a n r : ℕ) (here : Option MemFault) → fault_at Executing cells a ≡ here → (r < n → (fault : MemFault) × (fault_at Executing cells (a + 1 + r) ≡ Some fault)) → run_after here r < suc n → (fault : MemFault) × (fault_at Executing cells (a + run_after here r) ≡ Some fault)
longest_of cells a n r (Some f) is later less = (f, ap (fault_at Executing cells) (omega arith) ∙ is)
longest_of cells a n r None is later less =
    let rest = later (omega arith) in
    (rest.0, ap (fault_at Executing cells) (omega arith) ∙ rest.1)

pub executable_longest : (cells : Cells) (a n : ℕ) → executable_run cells a n < n → (fault : MemFault) × (fault_at Executing cells (a + executable_run cells a n) ≡ Some fault)
unfolding executable_run
executable_longest cells a zero less = absurd (omega arith)
executable_longest cells a (suc n) less =
    longest_of cells a n (executable_run cells (a + 1) n) (fault_at Executing cells a) refl (λ l. executable_longest cells (a + 1) n l) less

executable_same : (f g : Cells) (a n : ℕ) → ((k : ℕ) → k < n → fault_at Executing f (a + k) ≡ fault_at Executing g (a + k)) → executable_run f a n ≡ executable_run g a n
unfolding executable_run
executable_same f g a zero same = refl
executable_same f g a (suc n) same =
    ap (λ here. run_after here (executable_run f (a + 1) n)) (ap (fault_at Executing f) (let e : a ≡ a + 0 = omega arith in e) ∙ same 0 (omega arith) ∙ ap (fault_at Executing g) (omega arith))
    ∙ ap (run_after (fault_at Executing g a)) (executable_same f g (a + 1) n (λ k less. ap (fault_at Executing f) (omega arith) ∙ same (suc k) (omega arith) ∙ ap (fault_at Executing g) (omega arith)))

pub executable_written : (s : Space) (a : ℕ) (bytes : List ℕ) (b n : ℕ) → executable_run (map.get (put_from s a bytes)) b n ≡ executable_run (map.get s) b n
executable_written s a bytes b n = executable_same _ _ b n (λ k less. fault_put_at Executing s a bytes (b + k))

-- ---- regions
pub region_taken : (cells : Cells) (a n : ℕ) → a + n ≤ 0xF0000000 → ((k : ℕ) → k < n → cells (a + k) ≡ None) → region_refusal cells a n ≡ None
region_taken cells a n low free = rw (le-ltb 0xF0000000 (a + n) low) (ap overlap_at (mapped_none cells a n free))

no_refusal : (cells : Cells) (a n : ℕ) (high : Bool) (first : Option ℕ) → nat_lt 0xF0000000 (a + n) ≡ high → first_mapped cells a n ≡ first → (if high then Some High else overlap_at first) ≡ None → (a + n ≤ 0xF0000000) × (first_mapped cells a n ≡ None)
no_refusal cells a n true first is found e = absurd (cc)
no_refusal cells a n false (Some x) is found e = absurd (cc)
no_refusal cells a n false None is found e = (grind (arith, nat_tests), found)

pub region_taken_at : (cells : Cells) (a n : ℕ) → region_refusal cells a n ≡ None → (a + n ≤ 0xF0000000) × ((k : ℕ) → k < n → cells (a + k) ≡ None)
region_taken_at cells a n e =
    let taken = no_refusal cells a n (nat_lt 0xF0000000 (a + n)) (first_mapped cells a n) refl refl e in
    (taken.0, λ k less. mapped_none_at cells a n k taken.1 less)

pub region_overlaps_at : (cells : Cells) (a n x : ℕ) → a + n ≤ 0xF0000000 → a ≤ x → x < a + n → ((y : ℕ) → a ≤ y → y < x → cells y ≡ None) → is_some (cells x) ≡ true → region_refusal cells a n ≡ Some (Overlaps (address x))
region_overlaps_at cells a n x low above below before some =
    rw (le-ltb 0xF0000000 (a + n) low) (ap overlap_at (mapped_at cells a n x above below before some))

pub region_overlaps : (cells : Cells) (a n k : ℕ) → a + n ≤ 0xF0000000 → k < n → ((j : ℕ) → j < k → cells (a + j) ≡ None) → is_some (cells (a + k)) ≡ true → region_refusal cells a n ≡ Some (Overlaps (address (a + k)))
region_overlaps cells a n k low less before here =
    region_overlaps_at cells a n (a + k) low (omega arith) (omega arith)
    (λ y above below. ap cells (let e : y ≡ a + (y - a) = omega arith in e) ∙ before (y - a) (omega arith)) here

pub region_written : (s : Space) (a : ℕ) (bytes : List ℕ) (b n : ℕ) → region_refusal (map.get (put_from s a bytes)) b n ≡ region_refusal (map.get s) b n
region_written s a bytes b n = ap (λ first. if nat_lt 0xF0000000 (b + n) then Some High else overlap_at first) (mapped_put s a bytes b n)
