-- An access to a run of one region, and to what stands behind it.
use Rattle.std.proofs.Common.{◌≡◌, ℕ, zero, suc, ◌+◌, ◌<◌, ◌≤◌, List, [], ◌∷◌, ◌++◌, length, take, drop, Option, None, Some, refl, sym, ap, ◌∙◌, arith}
use Rattle.std.proofs.lemmas.List.{length-take-le, get_or-take}
use Rattle.std.specs.Option.{option_or}
use Rattle.nd_mem.specs.declared.MemFault.{MemFault}
use Rattle.nd_mem.specs.Space.{IsCode, Cells, Access, Executing, fault_at, first_fault, byte_in, bytes_from, run_after, executable_run}
use Rattle.nd_mem.specs.Regions.{IsRun}
use Rattle.nd_mem.proofs.Laws.{wrapped_below, fault_split, fault_none, bytes_split, bytes_are}

-- n is what the access takes, m what it takes of the run, k what it takes behind
pub fault_behind : (access : Access) (cells : Cells) (a : ℕ) (run : List ℕ) (m k n : ℕ) → IsRun access cells a run → m ≤ length run → n ≡ m + k → first_fault access cells a n ≡ first_fault access cells (a + m) k
fault_behind access cells a run m k n is inside fits =
    ap (first_fault access cells a) fits
    ∙ fault_split access cells a m k
    ∙ ap (λ x. option_or x (first_fault access cells (a + m) k)) (fault_none access cells a m (λ j less. is.allowed j (omega arith)))

pub fault_first : (access : Access) (cells : Cells) (a n : ℕ) (fault : MemFault) → fault_at access cells a ≡ Some fault → 0 < n → first_fault access cells a n ≡ Some fault
unfolding first_fault
fault_first access cells a zero fault is some = absurd (omega arith)
fault_first access cells a (suc n) fault is some = rw is

pub fault_of_none : (access : Access) (cells : Cells) (a n : ℕ) → n ≡ 0 → first_fault access cells a n ≡ None
unfolding first_fault
fault_of_none access cells a n none = ap (first_fault access cells a) none

pub bytes_of_none : (cells : Cells) (a n : ℕ) → n ≡ 0 → bytes_from cells a n ≡ []
unfolding bytes_from
bytes_of_none cells a n none = ap (bytes_from cells a) none

pub bytes_of_run : (access : Access) (cells : Cells) (a : ℕ) (run : List ℕ) (m : ℕ) → IsRun access cells a run → m ≤ length run → bytes_from cells a m ≡ take m run
bytes_of_run access cells a run m is inside =
    let len = length-take-le m run inside in
    let here : bytes_from cells a (length (take m run)) ≡ take m run =
    bytes_are cells a (take m run) (λ k less.
    ap (λ b. byte_in (cells b)) (wrapped_below (a + k) (omega (arith, is.low))) ∙ is.found k (omega arith) ∙ sym (get_or-take m run k 0 (omega arith))) in
    ap (bytes_from cells a) (sym len) ∙ here

pub bytes_behind : (access : Access) (cells : Cells) (a : ℕ) (run : List ℕ) (m k n : ℕ) → IsRun access cells a run → m ≤ length run → n ≡ m + k → bytes_from cells a n ≡ take m run ++ bytes_from cells (a + m) k
bytes_behind access cells a run m k n is inside fits =
    ap (bytes_from cells a) fits ∙ bytes_split cells a m k ∙ ap (λ front. front ++ bytes_from cells (a + m) k) (bytes_of_run access cells a run m is inside)

executable_split : (cells : Cells) (a m n : ℕ) → ((k : ℕ) → k < m → fault_at Executing cells (a + k) ≡ None) → executable_run cells a (m + n) ≡ m + executable_run cells (a + m) n
unfolding executable_run
executable_split cells a zero n none =
    ap (executable_run cells a) (let e : 0 + n ≡ n = omega arith in e) ∙ ap (λ b. executable_run cells b n) (let e : a ≡ a + 0 = omega arith in e) ∙ omega arith
executable_split cells a (suc m) n none =
    let here : fault_at Executing cells a ≡ None = ap (fault_at Executing cells) (omega arith) ∙ none 0 (omega arith) in
    ap (executable_run cells a) (let e : suc m + n ≡ suc (m + n) = omega arith in e)
    ∙ rw here (ap suc (executable_split cells (a + 1) m n (λ k less. ap (fault_at Executing cells) (omega arith) ∙ none (suc k) (omega arith)))
    ∙ ap (λ b. suc (m + executable_run cells b n)) (let e : a + 1 + m ≡ a + suc m = omega arith in e) ∙ omega arith)

pub executable_behind : (cells : Cells) (a : ℕ) (run : List ℕ) (m k n : ℕ) → IsRun Executing cells a run → m ≤ length run → n ≡ m + k → executable_run cells a n ≡ m + executable_run cells (a + m) k
executable_behind cells a run m k n is inside fits =
    ap (executable_run cells a) fits ∙ executable_split cells a m k (λ j less. is.allowed j (omega arith))

pub executable_none : (cells : Cells) (a n : ℕ) (fault : MemFault) → fault_at Executing cells a ≡ Some fault → executable_run cells a n ≡ 0
unfolding executable_run
executable_none cells a zero fault is = refl
executable_none cells a (suc n) fault is = rw is

pub executable_of_none : (cells : Cells) (a n : ℕ) → n ≡ 0 → executable_run cells a n ≡ 0
unfolding executable_run
executable_of_none cells a n none = ap (executable_run cells a) none

-- a run of n bytes or more can be executed that far
pub executable_whole : (cells : Cells) (a : ℕ) (run : List ℕ) (n : ℕ) → IsRun Executing cells a run → n ≤ length run → executable_run cells a n ≡ n
executable_whole cells a run n is fits =
    executable_behind cells a run n 0 n is fits (let e : n ≡ n + 0 = omega arith in e)
    ∙ ap (λ r. n + r) (executable_of_none cells (a + n) 0 refl) ∙ omega arith

run_after_le : (fault : Option MemFault) (r n : ℕ) → r ≤ n → run_after fault r ≤ suc n
run_after_le None r n le = omega arith
run_after_le (Some fault) r n le = omega arith

pub executable_le : (cells : Cells) (a n : ℕ) → executable_run cells a n ≤ n
unfolding executable_run
executable_le cells a zero = omega arith
executable_le cells a (suc n) = run_after_le (fault_at Executing cells a) (executable_run cells (a + 1) n) n (executable_le cells (a + 1) n)

pub take_behind : (n r : ℕ) (front rest : List ℕ) → length front ≡ n → take (n + r) (front ++ rest) ≡ front ++ take r rest
take_behind n r [] rest len = ap (λ m. take m rest) (omega arith)
take_behind n r (x ∷ front) rest len =
    ap (λ m. take m (x ∷ (front ++ rest))) (let e : n + r ≡ suc (length front + r) = omega arith in e)
    ∙ ap (λ xs. x ∷ xs) (take_behind (length front) r front rest refl)

pub drop_behind : (n r : ℕ) (front rest : List ℕ) → length front ≡ n → drop (n + r) (front ++ rest) ≡ drop r rest
drop_behind n r [] rest len = ap (λ m. drop m rest) (omega arith)
drop_behind n r (x ∷ front) rest len =
    ap (λ m. drop m (x ∷ (front ++ rest))) (let e : n + r ≡ suc (length front + r) = omega arith in e)
    ∙ drop_behind (length front) r front rest refl

-- a run that can be executed is code
pub code_of_run : (cells : Cells) (a : ℕ) (run : List ℕ) → IsRun Executing cells a run → IsCode cells a run
code_of_run cells a run is = record { some = is.some; allowed = is.allowed; bytes = λ n inside. bytes_of_run Executing cells a run n is inside }
