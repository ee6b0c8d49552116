-- The laws of the words on guest memory that the crates above cite.
use Rattle.std.proofs.Common.{◌≡◌, ◌≢◌, ℕ, zero, suc, ◌+◌, ◌-◌, ◌^◌, ◌<◌, ◌≤◌, ◌==◌, inl, inr, true, cond, ◌&&◌, List, [], ◌∷◌, ◌++◌, length, get_or, replicate, Option, None, Some, Ok, is_some, refl, sym, ap, ◌∙◌, arith, nat_le, nat_lt, if◌then◌else◌}
use Rattle.std.specs.Cmp.{nat_cmp_total, unsigned_tied}
use Rattle.std.specs.FinMap as map
use Rattle.std.proofs.lemmas.Bool.{cases_eq, cases_lt}
use Rattle.std.proofs.lemmas.List.{ext_get_or}
use Rattle.std.proofs.lemmas.Bool.Decides.{nat_tests}
use Rattle.std.proofs.Math.Nat.{mod-add-mod, mod-mod, mod-eq_of_lt}
use Rattle.std.specs.Option.{option_or}
use Rattle.nd_mem.specs.declared.Rights.{Rights}
use Rattle.nd_mem.specs.declared.MemFault.{MemFault}
use Rattle.nd_mem.specs.Cell.{Cell, zero_cell, cell_with, rights_in}
use Rattle.nd_mem.specs.Space.{Space, Cells, IsLow, wrapped, Access, Any, allows, fault_in, fault_at, first_fault, answer_of, byte_in, bytes_from, with_byte, put_from, zeros_from, first_mapped}

-- two maps with the same look-up are one
pub same_space : (s t : Space) → ((x : ℕ) → map.get s x ≡ map.get t x) → s ≡ t
same_space s t same = map.same_map nat_cmp_total map.nat_cmp-IsAntisymmetric s t same

get_insert : (s : Space) (k : ℕ) (v : Cell) (x : ℕ) → map.get (map.insert s k v) x ≡ cond (x == k) (Some v) (map.get s x)
get_insert s k v x = map.get-insert nat_cmp_total s k v x ∙ ap (λ b. cond b (Some v) (map.get s x)) (unsigned_tied x k)

pub get_insert_same : (s : Space) (k : ℕ) (v : Cell) (x : ℕ) → x ≡ k → map.get (map.insert s k v) x ≡ Some v
get_insert_same s k v x e = grind (arith, nat_tests, get_insert s k v x)

pub get_insert_other : (s : Space) (k : ℕ) (v : Cell) (x : ℕ) → x ≢ k → map.get (map.insert s k v) x ≡ map.get s x
get_insert_other s k v x e = grind (arith, nat_tests, get_insert s k v x)

-- ---- new zero bytes
pub zeros_of_none : (s : Space) (a n : ℕ) (rights : Rights) → n ≡ 0 → zeros_from s a n rights ≡ s
unfolding zeros_from
zeros_of_none s a n rights none = ap (λ (m : ℕ). zeros_from s a m rights) none

pub get_zeros_out : (s : Space) (a n : ℕ) (rights : Rights) (x : ℕ) → (a ≤ x → a + n ≤ x) → map.get (zeros_from s a n rights) x ≡ map.get s x
unfolding zeros_from
get_zeros_out s a zero rights x out = refl
get_zeros_out s a (suc n) rights x out =
    get_zeros_out (map.insert s a (zero_cell rights)) (a + 1) n rights x (λ low. omega (arith, out (omega arith)))
    ∙ get_insert_other s a (zero_cell rights) x (λ e. omega (arith, out (omega arith)))

pub get_zeros_in : (s : Space) (a n : ℕ) (rights : Rights) (x : ℕ) → a ≤ x → x < a + n → map.get (zeros_from s a n rights) x ≡ Some (zero_cell rights)
unfolding zeros_from
get_zeros_in s a zero rights x low high = absurd (omega arith)
get_zeros_in s a (suc n) rights x low high =
    elim (cases_eq x a) [
      | inl here ↦ get_zeros_out (map.insert s a (zero_cell rights)) (a + 1) n rights x (λ later. absurd (omega arith)) ∙ get_insert_same s a (zero_cell rights) x here
      | inr apart ↦ get_zeros_in (map.insert s a (zero_cell rights)) (a + 1) n rights x (omega arith) (omega arith)
    ]

-- no address wraps
pub get_zeros : (s : Space) (a n : ℕ) (rights : Rights) (x : ℕ) → map.get (zeros_from s a n rights) x ≡ cond (nat_le a x && nat_lt x (a + n)) (Some (zero_cell rights)) (map.get s x)
get_zeros s a n rights x = grind (arith, nat_tests, get_zeros_in s a n rights x, get_zeros_out s a n rights x)

-- ---- wrapped addresses
pub wrapped_wrapped : (a k : ℕ) → wrapped (wrapped a + k) ≡ wrapped (a + k)
wrapped_wrapped a k = mod-add-mod a (2 ^ 32) k

pub wrapped_below : (a : ℕ) → a < 2 ^ 32 → wrapped a ≡ a
wrapped_below a low = mod-eq_of_lt low

-- two places of a run of at most 2 ^ 32 are two addresses
pub wrapped_apart : (a j k : ℕ) → j < k → k < 2 ^ 32 → wrapped (a + j) ≢ wrapped (a + k)
wrapped_apart a j k less few same = omega arith

-- ---- written bytes
get_with_byte_same : (s : Space) (a byte : ℕ) (found : Option Cell) → map.get s a ≡ found → map.get (with_byte s a byte found) a ≡ cell_with byte found
get_with_byte_same s a byte None is = is
get_with_byte_same s a byte (Some cell) is = get_insert_same s a _ a refl

get_with_byte_other : (s : Space) (a byte x : ℕ) (found : Option Cell) → x ≢ a → map.get (with_byte s a byte found) x ≡ map.get s x
get_with_byte_other s a byte x None apart = refl
get_with_byte_other s a byte x (Some cell) apart = get_insert_other s a _ x apart

pub get_put_out : (s : Space) (a : ℕ) (bytes : List ℕ) (x : ℕ) → ((k : ℕ) → k < length bytes → wrapped (a + k) ≢ x) → map.get (put_from s a bytes) x ≡ map.get s x
unfolding put_from
get_put_out s a [] x out = refl
get_put_out s a (byte ∷ bytes) x out =
    let apart : x ≢ wrapped a = λ e. out 0 (omega arith) (ap wrapped (omega arith) ∙ sym e) in
    get_put_out (with_byte s (wrapped a) byte (map.get s (wrapped a))) (a + 1) bytes x (λ k less e. out (suc k) (omega arith) (ap wrapped (omega arith) ∙ e))
    ∙ get_with_byte_other s (wrapped a) byte x (map.get s (wrapped a)) apart

pub get_put_in : (s : Space) (a : ℕ) (bytes : List ℕ) (k : ℕ) → k < length bytes → length bytes ≤ 2 ^ 32 → map.get (put_from s a bytes) (wrapped (a + k)) ≡ cell_with (get_or bytes k 0) (map.get s (wrapped (a + k)))
unfolding put_from
get_put_in s a [] k less few = absurd (omega arith)
get_put_in s a (byte ∷ bytes) zero less few =
    let at_start : wrapped (a + 0) ≡ wrapped a = ap wrapped (omega arith) in
    rw at_start
    (get_put_out (with_byte s (wrapped a) byte (map.get s (wrapped a))) (a + 1) bytes (wrapped a) (λ k l e. wrapped_apart a 0 (suc k) (omega arith) (omega arith) (at_start ∙ sym e ∙ ap wrapped (omega arith)))
    ∙ get_with_byte_same s (wrapped a) byte (map.get s (wrapped a)) refl)
get_put_in s a (byte ∷ bytes) (suc k) less few =
    let next : wrapped (a + suc k) ≡ wrapped (a + 1 + k) = ap wrapped (omega arith) in
    let apart : wrapped (a + 1 + k) ≢ wrapped a = λ e. wrapped_apart a 0 (suc k) (omega arith) (omega arith) (ap wrapped (omega arith) ∙ sym e ∙ sym next) in
    rw next
    (get_put_in (with_byte s (wrapped a) byte (map.get s (wrapped a))) (a + 1) bytes k (omega arith) (omega arith)
    ∙ ap (cell_with (get_or bytes k 0)) (get_with_byte_other s (wrapped a) byte (wrapped (a + 1 + k)) (map.get s (wrapped a)) apart))

-- where no address of the run wraps
pub get_put_at : (s : Space) (a : ℕ) (bytes : List ℕ) (x : ℕ) → a + length bytes ≤ 2 ^ 32 → a ≤ x → x < a + length bytes → map.get (put_from s a bytes) x ≡ cell_with (get_or bytes (x - a) 0) (map.get s x)
get_put_at s a bytes x fits low high =
    let is : wrapped (a + (x - a)) ≡ x = ap wrapped (omega arith) ∙ wrapped_below x (omega arith) in
    rw is at (get_put_in s a bytes (x - a) (omega arith) (omega arith))

pub get_put_apart : (s : Space) (a : ℕ) (bytes : List ℕ) (x : ℕ) → a + length bytes ≤ 2 ^ 32 → (a ≤ x → a + length bytes ≤ x) → map.get (put_from s a bytes) x ≡ map.get s x
get_put_apart s a bytes x fits out =
    get_put_out s a bytes x (λ k less e. let is : x ≡ a + k = sym e ∙ wrapped_below (a + k) (omega arith) in omega (arith, out (omega arith)))

pub put_append : (s : Space) (a : ℕ) (xs ys : List ℕ) → put_from s a (xs ++ ys) ≡ put_from (put_from s a xs) (a + length xs) ys
unfolding put_from
put_append s a [] ys = ap (λ b. put_from s b ys) (omega arith)
put_append s a (x ∷ xs) ys =
    put_append (with_byte s (wrapped a) x (map.get s (wrapped a))) (a + 1) xs ys
    ∙ ap (λ b. put_from (put_from s a (x ∷ xs)) b ys) (omega arith)

rights_with_byte : (s : Space) (a byte x : ℕ) (found : Option Cell) → map.get s a ≡ found → rights_in (map.get (with_byte s a byte found) x) ≡ rights_in (map.get s x)
rights_with_byte s a byte x None is = refl
rights_with_byte s a byte x (Some cell) is =
    elim (cases_eq x a) [
      | inl here ↦ ap rights_in (get_insert_same s a (record cell { byte = byte }) x here) ∙ sym (ap rights_in (ap (map.get s) here ∙ is))
      | inr apart ↦ ap rights_in (get_insert_other s a (record cell { byte = byte }) x apart)
    ]

pub put_rights : (s : Space) (a : ℕ) (bytes : List ℕ) (x : ℕ) → rights_in (map.get (put_from s a bytes) x) ≡ rights_in (map.get s x)
unfolding put_from
put_rights s a [] x = refl
put_rights s a (byte ∷ bytes) x =
    put_rights (with_byte s (wrapped a) byte (map.get s (wrapped a))) (a + 1) bytes x
    ∙ rights_with_byte s (wrapped a) byte x (map.get s (wrapped a)) refl

some_rights : (found : Option Cell) → is_some (rights_in found) ≡ is_some found
some_rights None = refl
some_rights (Some cell) = refl

pub put_domain : (s : Space) (a : ℕ) (bytes : List ℕ) (x : ℕ) → is_some (map.get (put_from s a bytes) x) ≡ is_some (map.get s x)
put_domain s a bytes x = sym (some_rights (map.get (put_from s a bytes) x)) ∙ ap is_some (put_rights s a bytes x) ∙ some_rights (map.get s x)

put_at : (s : Space) (a b : ℕ) (bytes : List ℕ) → wrapped a ≡ wrapped b → put_from s a bytes ≡ put_from s b bytes
unfolding put_from
put_at s a b [] same = refl
put_at s a b (byte ∷ bytes) same =
    put_at (with_byte s (wrapped a) byte (map.get s (wrapped a))) (a + 1) (b + 1) bytes (sym (wrapped_wrapped a 1) ∙ ap (λ c. wrapped (c + 1)) same ∙ wrapped_wrapped b 1)
    ∙ ap (λ c. put_from (with_byte s c byte (map.get s c)) (b + 1) bytes) same

pub put_wrapped : (s : Space) (a : ℕ) (bytes : List ℕ) → put_from s (wrapped a) bytes ≡ put_from s a bytes
put_wrapped s a bytes = put_at s (wrapped a) a bytes (mod-mod a (2 ^ 32))

-- ---- read bytes
pub length_bytes : (cells : Cells) (a n : ℕ) → length (bytes_from cells a n) ≡ n
unfolding bytes_from
length_bytes cells a zero = refl
length_bytes cells a (suc n) = ap suc (length_bytes cells (a + 1) n)

pub get_bytes : (cells : Cells) (a n k d : ℕ) → k < n → get_or (bytes_from cells a n) k d ≡ byte_in (cells (wrapped (a + k)))
unfolding bytes_from
get_bytes cells a zero k d less = absurd (omega arith)
get_bytes cells a (suc n) zero d less = ap (λ b. byte_in (cells (wrapped b))) (omega arith)
get_bytes cells a (suc n) (suc k) d less = get_bytes cells (a + 1) n k d (omega arith) ∙ ap (λ b. byte_in (cells (wrapped b))) (omega arith)

pub bytes_same : (f g : Cells) (a n : ℕ) → ((k : ℕ) → k < n → f (wrapped (a + k)) ≡ g (wrapped (a + k))) → bytes_from f a n ≡ bytes_from g a n
bytes_same f g a n same =
    ext_get_or 0 _ _ (length_bytes f a n ∙ sym (length_bytes g a n))
    (λ k less. let within : k < n = omega (arith, length_bytes f a n) in get_bytes f a n k 0 within ∙ ap byte_in (same k within) ∙ sym (get_bytes g a n k 0 within))

-- a list is what is read, where each byte of it is
pub bytes_are : (cells : Cells) (a : ℕ) (bytes : List ℕ) → ((k : ℕ) → k < length bytes → byte_in (cells (wrapped (a + k))) ≡ get_or bytes k 0) → bytes_from cells a (length bytes) ≡ bytes
bytes_are cells a bytes are =
    ext_get_or 0 _ _ (length_bytes cells a (length bytes))
    (λ k less. let within : k < length bytes = omega (arith, length_bytes cells a (length bytes)) in get_bytes cells a (length bytes) k 0 within ∙ are k within)

pub bytes_split : (cells : Cells) (a m n : ℕ) → bytes_from cells a (m + n) ≡ bytes_from cells a m ++ bytes_from cells (a + m) n
unfolding bytes_from
bytes_split cells a zero n = ap (bytes_from cells a) (let e : 0 + n ≡ n = omega arith in e) ∙ ap (λ b. bytes_from cells b n) (omega arith)
bytes_split cells a (suc m) n =
    ap (bytes_from cells a) (let e : suc m + n ≡ suc (m + n) = omega arith in e)
    ∙ ap (λ rest. byte_in (cells (wrapped a)) ∷ rest) (bytes_split cells (a + 1) m n)
    ∙ ap (λ b. bytes_from cells a (suc m) ++ bytes_from cells b n) (omega arith)

pub bytes_wrapped : (cells : Cells) (a n : ℕ) → bytes_from cells (wrapped a) n ≡ bytes_from cells a n
bytes_wrapped cells a n =
    ext_get_or 0 _ _ (length_bytes cells (wrapped a) n ∙ sym (length_bytes cells a n))
    (λ k less. let within : k < n = omega (arith, length_bytes cells (wrapped a) n) in get_bytes cells (wrapped a) n k 0 within ∙ ap (λ b. byte_in (cells b)) (wrapped_wrapped a k) ∙ sym (get_bytes cells a n k 0 within))

-- ---- faults
pub fault_none : (access : Access) (cells : Cells) (a n : ℕ) → ((k : ℕ) → k < n → fault_at access cells (a + k) ≡ None) → first_fault access cells a n ≡ None
unfolding first_fault
fault_none access cells a zero none = refl
fault_none access cells a (suc n) none =
    rw (ap (fault_at access cells) (let e : a ≡ a + 0 = omega arith in e) ∙ none 0 (omega arith))
    (fault_none access cells (a + 1) n (λ k less. ap (fault_at access cells) (omega arith) ∙ none (suc k) (omega arith)))

either_none : {A : Type 0} (x y : Option A) → option_or x y ≡ None → (x ≡ None) × (y ≡ None)
either_none None y e = (refl, e)
either_none (Some x) y e = absurd (cc)

pub fault_none_at : (access : Access) (cells : Cells) (a n k : ℕ) → first_fault access cells a n ≡ None → k < n → fault_at access cells (a + k) ≡ None
unfolding first_fault
fault_none_at access cells a zero k none less = absurd (omega arith)
fault_none_at access cells a (suc n) zero none less = ap (fault_at access cells) (omega arith) ∙ (either_none _ _ none).0
fault_none_at access cells a (suc n) (suc k) none less =
    ap (fault_at access cells) (omega arith) ∙ fault_none_at access cells (a + 1) n k (either_none _ _ none).1 (omega arith)

pub fault_same : (access : Access) (f g : Cells) (a n : ℕ) → ((k : ℕ) → k < n → fault_at access f (a + k) ≡ fault_at access g (a + k)) → first_fault access f a n ≡ first_fault access g a n
unfolding first_fault
fault_same access f g a zero same = refl
fault_same access f g a (suc n) same =
    ap (λ x. option_or x (first_fault access f (a + 1) n)) (ap (fault_at access f) (let e : a ≡ a + 0 = omega arith in e) ∙ same 0 (omega arith) ∙ ap (fault_at access g) (omega arith))
    ∙ ap (option_or (fault_at access g a)) (fault_same access f g (a + 1) n (λ k less. ap (fault_at access f) (omega arith) ∙ same (suc k) (omega arith) ∙ ap (fault_at access g) (omega arith)))

either_assoc : {A : Type 0} (x y z : Option A) → option_or x (option_or y z) ≡ option_or (option_or x y) z
either_assoc None y z = refl
either_assoc (Some x) y z = refl

pub fault_split : (access : Access) (cells : Cells) (a m n : ℕ) → first_fault access cells a (m + n) ≡ option_or (first_fault access cells a m) (first_fault access cells (a + m) n)
unfolding first_fault
fault_split access cells a zero n = ap (first_fault access cells a) (let e : 0 + n ≡ n = omega arith in e) ∙ ap (λ b. first_fault access cells b n) (omega arith)
fault_split access cells a (suc m) n =
    ap (first_fault access cells a) (let e : suc m + n ≡ suc (m + n) = omega arith in e)
    ∙ ap (option_or (fault_at access cells a)) (fault_split access cells (a + 1) m n)
    ∙ either_assoc (fault_at access cells a) (first_fault access cells (a + 1) m) (first_fault access cells (a + 1 + m) n)
    ∙ ap (λ b. option_or (first_fault access cells a (suc m)) (first_fault access cells b n)) (omega arith)

fault_from : (access : Access) (cells : Cells) (a b n : ℕ) → wrapped a ≡ wrapped b → first_fault access cells a n ≡ first_fault access cells b n
unfolding first_fault
fault_from access cells a b zero same = refl
fault_from access cells a b (suc n) same =
    ap (λ c. option_or (fault_in access (record { 0 = c }) (cells c)) (first_fault access cells (a + 1) n)) same
    ∙ ap (option_or (fault_at access cells b)) (fault_from access cells (a + 1) (b + 1) n (sym (wrapped_wrapped a 1) ∙ ap (λ c. wrapped (c + 1)) same ∙ wrapped_wrapped b 1))

pub fault_wrapped : (access : Access) (cells : Cells) (a n : ℕ) → first_fault access cells (wrapped a) n ≡ first_fault access cells a n
fault_wrapped access cells a n = fault_from access cells (wrapped a) a n (mod-mod a (2 ^ 32))

fault_by_rights : (access : Access) (a : ℕ) (x y : Option Cell) → rights_in x ≡ rights_in y → fault_in access (record { 0 = a }) x ≡ fault_in access (record { 0 = a }) y
fault_by_rights access a None None same = refl
fault_by_rights access a None (Some y) same = absurd (cc)
fault_by_rights access a (Some x) None same = absurd (cc)
fault_by_rights access a (Some x) (Some y) same =
    let e : x.rights ≡ y.rights = cc in
    ap (λ r. fault_in access (record { 0 = a }) (Some (record { byte = 0; rights = r }))) e

pub fault_put_at : (access : Access) (s : Space) (a : ℕ) (bytes : List ℕ) (b : ℕ) → fault_at access (map.get (put_from s a bytes)) b ≡ fault_at access (map.get s) b
fault_put_at access s a bytes b = fault_by_rights access (wrapped b) _ _ (put_rights s a bytes (wrapped b))

pub fault_put : (access : Access) (s : Space) (a : ℕ) (bytes : List ℕ) (b n : ℕ) → first_fault access (map.get (put_from s a bytes)) b n ≡ first_fault access (map.get s) b n
fault_put access s a bytes b n = fault_same access _ _ b n (λ k less. fault_put_at access s a bytes (b + k))

fault_any_at : (access : Access) (a : ℕ) (x : Option Cell) → fault_in access (record { 0 = a }) x ≡ None → fault_in Any (record { 0 = a }) x ≡ None
fault_any_at access a None e = absurd (cc)
fault_any_at access a (Some x) e = refl

pub fault_any : (access : Access) (cells : Cells) (a n : ℕ) → first_fault access cells a n ≡ None → first_fault Any cells a n ≡ None
fault_any access cells a n none = fault_none Any cells a n (λ k less. fault_any_at access (wrapped (a + k)) _ (fault_none_at access cells a n k none less))

byte_written : (a byte : ℕ) (x : Option Cell) → fault_in Any (record { 0 = a }) x ≡ None → byte_in (cell_with byte x) ≡ byte
byte_written a byte None e = absurd (cc)
byte_written a byte (Some x) e = refl

-- read after write
pub read_after_write : (s : Space) (a : ℕ) (bytes : List ℕ) → length bytes ≤ 2 ^ 32 → first_fault Any (map.get s) a (length bytes) ≡ None → bytes_from (map.get (put_from s a bytes)) a (length bytes) ≡ bytes
read_after_write s a bytes few none =
    bytes_are _ a bytes (λ k less. ap byte_in (get_put_in s a bytes k less few) ∙ byte_written (wrapped (a + k)) (get_or bytes k 0) _ (fault_none_at Any (map.get s) a (length bytes) k none less))

pub read_apart : (s : Space) (a : ℕ) (bytes : List ℕ) (b n : ℕ) → ((j k : ℕ) → j < length bytes → k < n → wrapped (a + j) ≢ wrapped (b + k)) → bytes_from (map.get (put_from s a bytes)) b n ≡ bytes_from (map.get s) b n
read_apart s a bytes b n apart = bytes_same _ _ b n (λ k less. get_put_out s a bytes (wrapped (b + k)) (λ j before. apart j k before less))

pub read_zeros : (s : Space) (a n : ℕ) (rights : Rights) (b m : ℕ) → a + n ≤ 2 ^ 32 → a ≤ b → b + m ≤ a + n → bytes_from (map.get (zeros_from s a n rights)) b m ≡ replicate m 0
unfolding bytes_from
read_zeros s a n rights b zero fits low high = refl
read_zeros s a n rights b (suc m) fits low high =
    let here : map.get (zeros_from s a n rights) (wrapped b) ≡ Some (zero_cell rights) = ap (map.get (zeros_from s a n rights)) (wrapped_below b (omega arith)) ∙ get_zeros_in s a n rights b low (omega arith) in
    ap (λ cell. byte_in cell ∷ bytes_from (map.get (zeros_from s a n rights)) (b + 1) m) here
    ∙ ap (λ rest. 0 ∷ rest) (read_zeros s a n rights (b + 1) m fits (omega arith) (omega arith))

pub read_zeros_out : (s : Space) (a n : ℕ) (rights : Rights) (b m : ℕ) → b + m ≤ 2 ^ 32 → (a < b + m → a + n ≤ b) → bytes_from (map.get (zeros_from s a n rights)) b m ≡ bytes_from (map.get s) b m
read_zeros_out s a n rights b m fits out =
    bytes_same _ _ b m (λ k less.
    let is : wrapped (b + k) ≡ b + k = wrapped_below (b + k) (omega arith) in
    get_zeros_out s a n rights (wrapped (b + k)) (λ low. omega (arith, out (omega arith))))

fault_in_zeros : (access : Access) (a : ℕ) (rights : Rights) → allows access rights ≡ true → fault_in access (record { 0 = a }) (Some (zero_cell rights)) ≡ None
fault_in_zeros access a rights may = rw may

pub fault_zeros_in : (access : Access) (s : Space) (a n : ℕ) (rights : Rights) (b m : ℕ) → allows access rights ≡ true → a + n ≤ 2 ^ 32 → a ≤ b → b + m ≤ a + n → first_fault access (map.get (zeros_from s a n rights)) b m ≡ None
fault_zeros_in access s a n rights b m may fits low high =
    fault_none access _ b m (λ k less.
    let is : wrapped (b + k) ≡ b + k = wrapped_below (b + k) (omega arith) in
    ap (fault_in access (record { 0 = wrapped (b + k) })) (ap (map.get (zeros_from s a n rights)) is ∙ get_zeros_in s a n rights (b + k) (omega arith) (omega arith))
    ∙ fault_in_zeros access (wrapped (b + k)) rights may)

pub fault_zeros_out : (access : Access) (s : Space) (a n : ℕ) (rights : Rights) (b m : ℕ) → b + m ≤ 2 ^ 32 → (a < b + m → a + n ≤ b) → first_fault access (map.get (zeros_from s a n rights)) b m ≡ first_fault access (map.get s) b m
fault_zeros_out access s a n rights b m fits out =
    fault_same access _ _ b m (λ k less.
    let is : wrapped (b + k) ≡ b + k = wrapped_below (b + k) (omega arith) in
    ap (fault_in access (record { 0 = wrapped (b + k) })) (get_zeros_out s a n rights (wrapped (b + k)) (λ low. omega (arith, out (omega arith)))))

fault_unmapped : (access : Access) (a : ℕ) (found : Option Cell) → found ≡ None → fault_in access (record { 0 = a }) found ≡ None → ⊥
fault_unmapped access a None is none = cc
fault_unmapped access a (Some cell) is none = cc

below_where_low : (access : Access) (cells : Cells) (a : ℕ) → IsLow cells → a < 2 ^ 32 → fault_at access cells a ≡ None → a < 0xF0000000
below_where_low access cells a low here none =
    elim (cases_lt a 0xF0000000) [
      | inl below ↦ below
      | inr above ↦ absurd (fault_unmapped access (wrapped a) (cells (wrapped a)) (ap cells (wrapped_below a here) ∙ low a above) none)
    ]

-- an access without a fault ends below the address from which on nothing is mapped
pub fault_low : (access : Access) (cells : Cells) (a n : ℕ) → IsLow cells → a < 2 ^ 32 → first_fault access cells a n ≡ None → 0 < n → a + n ≤ 0xF0000000
unfolding first_fault
fault_low access cells a zero low here none some = absurd (omega arith)
fault_low access cells a (suc n) low here none some =
    let below : a < 0xF0000000 = below_where_low access cells a low here (either_none _ _ none).0 in
    elim (cases_lt 0 n) [
      | inl more ↦ omega (arith, fault_low access cells (a + 1) n low (omega arith) (either_none _ _ none).1 more)
      | inr last ↦ omega arith
    ]

-- ---- mapped addresses
pub mapped_none : (cells : Cells) (a n : ℕ) → ((k : ℕ) → k < n → cells (a + k) ≡ None) → first_mapped cells a n ≡ None
unfolding first_mapped
mapped_none cells a zero none = refl
mapped_none cells a (suc n) none =
    let here : cells a ≡ None = ap cells (omega arith) ∙ none 0 (omega arith) in
    rw here (mapped_none cells (a + 1) n (λ k less. ap cells (omega arith) ∙ none (suc k) (omega arith)))

mapped_here : (cells : Cells) (a n : ℕ) (found : Option Cell) → cells a ≡ found → (if is_some found then Some a else first_mapped cells (a + 1) n) ≡ None → (cells a ≡ None) × (first_mapped cells (a + 1) n ≡ None)
mapped_here cells a n None is none = (is, none)
mapped_here cells a n (Some cell) is none = absurd (cc)

pub mapped_none_at : (cells : Cells) (a n k : ℕ) → first_mapped cells a n ≡ None → k < n → cells (a + k) ≡ None
unfolding first_mapped
mapped_none_at cells a zero k none less = absurd (omega arith)
mapped_none_at cells a (suc n) zero none less = ap cells (omega arith) ∙ (mapped_here cells a n (cells a) refl none).0
mapped_none_at cells a (suc n) (suc k) none less = ap cells (omega arith) ∙ mapped_none_at cells (a + 1) n k (mapped_here cells a n (cells a) refl none).1 (omega arith)

pub mapped_same : (f g : Cells) (a n : ℕ) → ((k : ℕ) → k < n → is_some (f (a + k)) ≡ is_some (g (a + k))) → first_mapped f a n ≡ first_mapped g a n
unfolding first_mapped
mapped_same f g a zero same = refl
mapped_same f g a (suc n) same =
    ap (λ b. if b then Some a else first_mapped f (a + 1) n) (ap (λ b. is_some (f b)) (let e : a ≡ a + 0 = omega arith in e) ∙ same 0 (omega arith) ∙ ap (λ b. is_some (g b)) (omega arith))
    ∙ ap (λ rest. if is_some (g a) then Some a else rest) (mapped_same f g (a + 1) n (λ k less. ap (λ b. is_some (f b)) (omega arith) ∙ same (suc k) (omega arith) ∙ ap (λ b. is_some (g b)) (omega arith)))

pub mapped_put : (s : Space) (a : ℕ) (bytes : List ℕ) (b n : ℕ) → first_mapped (map.get (put_from s a bytes)) b n ≡ first_mapped (map.get s) b n
mapped_put s a bytes b n = mapped_same _ _ b n (λ k less. put_domain s a bytes (b + k))

-- the first of n addresses that is mapped, from what is known of it
pub mapped_at : (cells : Cells) (a n x : ℕ) → a ≤ x → x < a + n → ((y : ℕ) → a ≤ y → y < x → cells y ≡ None) → is_some (cells x) ≡ true → first_mapped cells a n ≡ Some x
unfolding first_mapped
mapped_at cells a zero x low high before some = absurd (omega arith)
mapped_at cells a (suc n) x low high before some =
    elim (cases_lt a x) [
      | inl later ↦ rw (before a (omega arith) later) (mapped_at cells (a + 1) n x (omega arith) (omega arith) (λ y after less. before y (omega arith) less) some)
      | inr here ↦
          let same : a ≡ x = omega arith in
          rw (ap (λ b. is_some (cells b)) same ∙ some) (ap Some same)
    ]

-- ---- answers
pub none_of_ok : {A : Type 0} (value other : A) (fault : Option MemFault) → Ok other ≡ answer_of value fault → fault ≡ None
none_of_ok value other None e = refl
none_of_ok value other (Some fault) e = absurd (cc)
