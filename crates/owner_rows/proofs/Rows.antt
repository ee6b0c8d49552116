-- Rows, their numbers and counts, behind a change.
use Rattle.std.proofs.Common.{◌≡◌, ℕ, zero, suc, ◌+◌, ◌-◌, ◌≤◌, ◌<◌, Bool, true, false, cond, not, ◌&&◌, ◌==◌, List, [], ◌∷◌, ◌++◌, length, get_or, Option, Some, None, refl, sym, ap, ◌∙◌, subst, arith, slice_get, drop, drop-cons}
use Rattle.std.specs.Prelude.{count_by, slice_set, nat_lt}
use Rattle.std.specs.List.{position, position_or_len}
use Rattle.std.specs.Option.{option_map_or, is_some}
use Rattle.std.proofs.lemmas.Bool.Decides.{nat_tests}
use Rattle.std.proofs.lemmas.List.Sums.{sum_by-append, count_by-le-length}
use Rattle.owner_machine.specs.State.{at, change, numbers_from, in_front, implies}
use Rattle.owner_rows.specs.Tallies.{of, IsTally, recounted, without, kept, first_of}

abbrev pub number : Bool → ℕ
number b = cond b 1 0

pub suc_eq : (m n : ℕ) → (suc m == suc n) ≡ (m == n)
suc_eq m n = grind arith

pub get_changed : {A : Type 0} (f : A → A) (rows : List A) (k : ℕ) (row : A) → slice_get rows k ≡ Some row → slice_get (change f rows k) k ≡ Some (f row)
get_changed f [] k row is = absurd (cc)
get_changed f (x ∷ rows) zero row is = let here : x ≡ row = cc in ap (λ y. Some (f y)) here
get_changed f (x ∷ rows) (suc k) row is = get_changed f rows k row is

pub at_row : {A : Type 0} (p : A → Bool) (rows : List A) (k : ℕ) (row : A) → slice_get rows k ≡ Some row → at p rows k ≡ p row
at_row p rows k row is = ap (λ o. option_map_or p o false) is

pub length_change : {A : Type 0} (f : A → A) (rows : List A) (k : ℕ) → length (change f rows k) ≡ length rows
length_change f [] k = refl
length_change f (row ∷ rows) zero = refl
length_change f (row ∷ rows) (suc k) = ap (λ (n : ℕ). suc n) (length_change f rows k)

-- ---- counts

-- a write of a changed count is that change
pub written_count : (f : ℕ → ℕ) (counts : List ℕ) (n new : ℕ) → n < length counts → new ≡ f (get_or counts n 0) → slice_set counts n new ≡ change f counts n
written_count f [] n new less is = absurd (omega arith)
written_count f (m ∷ counts) zero new less is = ap (λ k. k ∷ counts) is
written_count f (m ∷ counts) (suc n) new less is = ap (λ ks. m ∷ ks) (written_count f counts n new (omega arith) is)

pub count_cons : {A : Type 0} (p : A → Bool) (row : A) (rows : List A) → count_by p (row ∷ rows) ≡ number (p row) + count_by p rows
count_cons p row rows = let parts = sum_by-append (λ x. cond (p x) 1 0) (row ∷ []) rows in omega (arith, parts)

pub count_change : {A : Type 0} (p : A → Bool) (f : A → A) (rows : List A) (k : ℕ) → count_by p (change f rows k) + number (at p rows k) ≡ count_by p rows + number (at p (change f rows k) k)
count_change p f [] k = refl
count_change p f (x ∷ rows) zero = omega (arith, count_cons p x rows, count_cons p (f x) rows)
count_change p f (x ∷ rows) (suc k) = let more = count_change p f rows k in omega (arith, more, count_cons p x rows, count_cons p x (change f rows k))

lowered : (counts : List ℕ) (a b : ℕ) → get_or (change (λ n. n - 1) counts a) b 0 ≡ get_or counts b 0 - number (a == b)
lowered [] a b = omega arith
lowered (n ∷ counts) zero zero = refl
lowered (n ∷ counts) zero (suc b) = let e : (0 == suc b) ≡ false = grind arith in let m = ap number e in omega (arith, m)
lowered (n ∷ counts) (suc a) zero = let e : (suc a == 0) ≡ false = grind arith in let m = ap number e in omega (arith, m)
lowered (n ∷ counts) (suc a) (suc b) = lowered counts a b ∙ ap (λ (t : Bool). get_or counts b 0 - number t) (sym (suc_eq a b))

raised : (counts : List ℕ) (a b : ℕ) → b < length counts → get_or (change (λ n. n + 1) counts a) b 0 ≡ get_or counts b 0 + number (a == b)
raised [] a b less = absurd (omega arith)
raised (n ∷ counts) zero zero less = refl
raised (n ∷ counts) zero (suc b) less = let e : (0 == suc b) ≡ false = grind arith in let m = ap number e in omega (arith, m)
raised (n ∷ counts) (suc a) zero less = let e : (suc a == 0) ≡ false = grind arith in let m = ap number e in omega (arith, m)
raised (n ∷ counts) (suc a) (suc b) less = raised counts a b (omega arith) ∙ ap (λ (t : Bool). get_or counts b 0 + number t) (sym (suc_eq a b))

pub length_recounted : (was is : Bool) (n : ℕ) (counts : List ℕ) → length (recounted was is n counts) ≡ length counts
length_recounted false true n counts = length_change (λ (m : ℕ). m + 1) counts n
length_recounted true false n counts = length_change (λ (m : ℕ). m - 1) counts n
length_recounted true true n counts = refl
length_recounted false false n counts = refl

-- a count behind a recount, where the counted list loses and gains such a row
recounted_get : (was is : Bool) (n m : ℕ) (counts : List ℕ) (old new : ℕ) → m < length counts → get_or counts m 0 ≡ old → new + number (was && (n == m)) ≡ old + number (is && (n == m)) → get_or (recounted was is n counts) m 0 ≡ new
recounted_get false true n m counts old new less same step = let e = raised counts n m less in omega (arith, e, same, step)
recounted_get true false n m counts old new less same step = let e = lowered counts n m in omega (arith, e, same, step)
recounted_get true true n m counts old new less same step = omega (arith, same, step)
recounted_get false false n m counts old new less same step = omega (arith, same, step)

of_row : {A : Type 0} (passes : A → Bool) (owner : A → ℕ) (row : A) (t : Bool) (n m : ℕ) → passes row ≡ t → owner row ≡ n → of passes owner m row ≡ t && (n == m)
of_row passes owner row t n m p o = ap (λ (u : Bool). u && (owner row == m)) p ∙ ap (λ (u : ℕ). t && (u == m)) o

pub tally_change : {A : Type 0} (passes : A → Bool) (owner : A → ℕ) (counts : List ℕ) (rows : List A) (k : ℕ) (row new : A) (was is : Bool) (n : ℕ) → IsTally passes owner counts rows → slice_get rows k ≡ Some row → passes row ≡ was → passes new ≡ is → owner row ≡ n → owner new ≡ n → IsTally passes owner (recounted was is n counts) (change (λ _. new) rows k)
tally_change passes owner counts rows k row new was is n tally got was_so is_so row_of new_of = record {
  room = length_recounted was is n counts ∙ tally.room;
  each = λ m less.
      let e1 = count_change (of passes owner m) (λ _. new) rows k in
      let e2 = ap number (at_row (of passes owner m) rows k row got ∙ of_row passes owner row was n m was_so row_of) in
      let e3 = ap number (at_row (of passes owner m) (change (λ _. new) rows k) k new (get_changed (λ _. new) rows k row got) ∙ of_row passes owner new is n m is_so new_of) in
      recounted_get was is n m counts (count_by (of passes owner m) rows) (count_by (of passes owner m) (change (λ _. new) rows k)) (subst (λ (len : ℕ). m < len) (sym tally.room) less) (tally.each m less) (omega (arith, e1, e2, e3));
}

pub tally_push : {A : Type 0} (passes : A → Bool) (owner : A → ℕ) (counts : List ℕ) (rows : List A) (new : A) (is : Bool) (n : ℕ) → IsTally passes owner counts rows → passes new ≡ is → owner new ≡ n → IsTally passes owner (recounted false is n counts) (rows ++ new ∷ [])
tally_push passes owner counts rows new is n tally is_so new_of = record {
  room = length_recounted false is n counts ∙ tally.room;
  each = λ m less.
      let e1 = sum_by-append (λ x. cond (of passes owner m x) 1 0) rows (new ∷ []) in
      let e2 = ap number (of_row passes owner new is n m is_so new_of) in
      recounted_get false is n m counts (count_by (of passes owner m) rows) (count_by (of passes owner m) (rows ++ new ∷ [])) (subst (λ (len : ℕ). m < len) (sym tally.room) less) (tally.each m less) (omega (arith, e1, e2));
}

-- no count is above the number of rows
pub tally_most : {A : Type 0} (passes : A → Bool) (owner : A → ℕ) (counts : List ℕ) (rows : List A) (n limit : ℕ) → IsTally passes owner counts rows → length rows < limit → get_or counts n 0 < limit
tally_most passes owner counts rows n limit tally fits = by_size (nat_lt n 256) refl
  where
    past : (counts : List ℕ) (n : ℕ) → length counts ≤ n → get_or counts n 0 ≡ 0
    past [] n more = refl
    past (x ∷ counts) zero more = absurd (omega arith)
    past (x ∷ counts) (suc n) more = past counts n (omega arith)

    by_size : (t : Bool) → nat_lt n 256 ≡ t → get_or counts n 0 < limit
    by_size true h = let less : n < 256 = grind (arith, nat_tests) in let same = tally.each n less in let most = count_by-le-length (of passes owner n) rows in omega (arith, same, most, fits)
    by_size false h = let more : 256 ≤ n = grind (arith, nat_tests) in let none = past counts n (subst (λ (m : ℕ). m ≤ n) (sym tally.room) more) in omega (arith, none, fits)

-- ---- numbers

pub numbers_push : {A : Type 0} (passes : A → Bool) (n : ℕ) (rows : List A) (new : A) → numbers_from n passes (rows ++ new ∷ []) ≡ numbers_from n passes rows ++ in_front (passes new) (n + length rows) []
numbers_push passes n [] new = ap (λ (m : ℕ). in_front (passes new) m []) (plus_zero n)
  where
    plus_zero : (n : ℕ) → n ≡ n + 0
    plus_zero n = omega arith
numbers_push passes n (row ∷ rows) new = by_test (passes row) _ _ _ (numbers_push passes (suc n) rows new ∙ ap (λ (m : ℕ). numbers_from (suc n) passes rows ++ in_front (passes new) m []) (shifted n (length rows)))
  where
    shifted : (n m : ℕ) → suc n + m ≡ n + suc m
    shifted n m = omega arith

    by_test : (t : Bool) (xs ys zs : List ℕ) → xs ≡ ys ++ zs → in_front t n xs ≡ in_front t n ys ++ zs
    by_test true xs ys zs same = ap (λ (w : List ℕ). n ∷ w) same
    by_test false xs ys zs same = same

-- a row that passes as before keeps the numbers
pub numbers_same : {A : Type 0} (passes : A → Bool) (n : ℕ) (rows : List A) (k : ℕ) (row new : A) → slice_get rows k ≡ Some row → passes new ≡ passes row → numbers_from n passes (change (λ _. new) rows k) ≡ numbers_from n passes rows
numbers_same passes n [] k row new got same = refl
numbers_same passes n (x ∷ rows) zero row new got same = let here : x ≡ row = cc in ap (λ (t : Bool). in_front t n (numbers_from (suc n) passes rows)) (same ∙ ap passes (sym here))
numbers_same passes n (x ∷ rows) (suc k) row new got same = ap (λ (w : List ℕ). in_front (passes x) n w) (numbers_same passes (suc n) rows k row new got same)

-- a row that passes no more leaves them
pub numbers_less : {A : Type 0} (passes : A → Bool) (n : ℕ) (rows : List A) (k m : ℕ) (row new : A) → m ≡ n + k → slice_get rows k ≡ Some row → passes row ≡ true → passes new ≡ false → numbers_from n passes (change (λ _. new) rows k) ≡ without m (numbers_from n passes rows)
numbers_less passes n [] k m row new at_m got was is = absurd (cc)
numbers_less passes n (x ∷ rows) zero m row new at_m got was is =
    let here : x ≡ row = cc in
    let same : n == m ≡ true = grind arith in
    ap (λ (t : Bool). in_front t n (numbers_from (suc n) passes rows)) is ∙ sym (ap (λ (t : Bool). without m (in_front t n (numbers_from (suc n) passes rows))) (ap passes here ∙ was) ∙ ap (λ (t : Bool). cond t (numbers_from (suc n) passes rows) (n ∷ without m (numbers_from (suc n) passes rows))) same)
numbers_less passes n (x ∷ rows) (suc k) m row new at_m got was is =
    let other : n == m ≡ false = grind arith in
    by_test (passes x) _ _ other (numbers_less passes (suc n) rows k m row new (omega (arith, at_m)) got was is)
  where
    by_test : (t : Bool) (xs ys : List ℕ) → n == m ≡ false → xs ≡ without m ys → in_front t n xs ≡ without m (in_front t n ys)
    by_test true xs ys other same = ap (λ (w : List ℕ). n ∷ w) same ∙ sym (ap (λ (u : Bool). cond u ys (n ∷ without m ys)) other)
    by_test false xs ys other same = same

pub numbers_kept : {A : Type 0} (passes : A → Bool) (rows : List A) (k : ℕ) (row new : A) (was is : Bool) → slice_get rows k ≡ Some row → passes row ≡ was → passes new ≡ is → implies is was ≡ true → numbers_from 0 passes (change (λ _. new) rows k) ≡ kept was is k (numbers_from 0 passes rows)
numbers_kept passes rows k row new true false got was_so is_so h = numbers_less passes 0 rows k k row new (omega arith) got was_so is_so
numbers_kept passes rows k row new true true got was_so is_so h = numbers_same passes 0 rows k row new got (is_so ∙ sym was_so)
numbers_kept passes rows k row new false false got was_so is_so h = numbers_same passes 0 rows k row new got (is_so ∙ sym was_so)
numbers_kept passes rows k row new false true got was_so is_so h = absurd (cc)

-- ---- the first row that passes

-- the first row that passes, where the first row has the number n
abbrev pub first_from : {A : Type 0} → ℕ → (A → Bool) → List A → Option ℕ
first_from n test [] = None
first_from n test (x ∷ rows) = cond (test x) (Some n) (first_from (suc n) test rows)

first_at : {A : Type 0} (n : ℕ) (test : A → Bool) (rows : List A) → first_from n test rows ≡ cond (nat_lt (position_or_len test rows) (length rows)) (Some (n + position_or_len test rows)) None
first_at n test [] = refl
first_at n test (x ∷ rows) = by_test (test x) (position_or_len test rows) (length rows) (first_at (suc n) test rows)
  where
    found : (n m : ℕ) → Some n ≡ cond (nat_lt 0 (suc m)) (Some (n + 0)) None
    found n m = let less : nat_lt 0 (suc m) ≡ true = grind (arith, nat_tests) in let same : n ≡ n + 0 = omega arith in ap (λ (k : ℕ). Some k) same ∙ sym (ap (λ (t : Bool). cond t (Some (n + 0)) None) less)

    later : (n p m : ℕ) → cond (nat_lt p m) (Some (suc n + p)) None ≡ cond (nat_lt (1 + p) (suc m)) (Some (n + (1 + p))) None
    later n p m = let less : nat_lt p m ≡ nat_lt (1 + p) (suc m) = grind (arith, nat_tests) in let same : suc n + p ≡ n + (1 + p) = omega arith in ap (λ (k : ℕ). cond (nat_lt p m) (Some k) None) same ∙ ap (λ (t : Bool). cond t (Some (n + (1 + p))) None) less

    by_test : (t : Bool) (p m : ℕ) → first_from (suc n) test rows ≡ cond (nat_lt p m) (Some (suc n + p)) None → cond t (Some n) (first_from (suc n) test rows) ≡ cond (nat_lt (cond (not t) (1 + p) 0) (suc m)) (Some (n + cond (not t) (1 + p) 0)) None
    by_test true p m more = found n m
    by_test false p m more = more ∙ later n p m

pub position_from : {A : Type 0} (test : A → Bool) (rows : List A) → position test rows ≡ first_from 0 test rows
position_from test rows = sym (first_at 0 test rows ∙ ap (λ (k : ℕ). cond (nat_lt (position_or_len test rows) (length rows)) (Some k) None) (zero_plus (position_or_len test rows)))
  where
    zero_plus : (n : ℕ) → 0 + n ≡ n
    zero_plus n = omega arith

any_from : {A : Type 0} (test : A → Bool) (n : ℕ) (rows : List A) → is_some (first_from n test rows) ≡ not (count_by test rows == 0)
any_from test n [] = refl
any_from test n (x ∷ rows) = by_test (test x) (count_by test (x ∷ rows)) (count_by test rows) (count_cons test x rows) (any_from test (suc n) rows)
  where
    by_test : (t : Bool) (c m : ℕ) → c ≡ number t + m → is_some (first_from (suc n) test rows) ≡ not (m == 0) → is_some (cond t (Some n) (first_from (suc n) test rows)) ≡ not (c == 0)
    by_test true c m same more = let none : c == 0 ≡ false = grind (arith, nat_tests) in sym (ap not none)
    by_test false c m same more = let equal : c ≡ m = omega arith in more ∙ ap (λ (i : ℕ). not (i == 0)) (sym equal)

pub any_is : {A : Type 0} (test : A → Bool) (rows : List A) → is_some (position test rows) ≡ not (count_by test rows == 0)
any_is test rows = ap is_some (position_from test rows) ∙ any_from test 0 rows

first_in : {A : Type 0} (test passes : A → Bool) (base rows : List A) (n : ℕ) → ((row : A) → test row ≡ true → passes row ≡ true) → ((j : ℕ) → slice_get base (n + j) ≡ slice_get rows j) → first_of test base (numbers_from n passes rows) ≡ first_from n test rows
first_in test passes base [] n within same = refl
first_in test passes base (x ∷ rows) n within same = by_test (passes x) refl (first_in test passes base rows (suc n) within (λ j. ap (λ (m : ℕ). slice_get base m) (shifted n j) ∙ same (suc j)))
  where
    shifted : (n j : ℕ) → suc n + j ≡ n + suc j
    shifted n j = omega arith

    plus_zero : (n : ℕ) → n ≡ n + 0
    plus_zero n = omega arith

    here : at test base n ≡ test x
    here = ap (λ (m : ℕ). at test base m) (plus_zero n) ∙ at_row test base (n + 0) x (same 0)

    no_test : (t : Bool) → test x ≡ t → passes x ≡ false → test x ≡ false
    no_test false is not_passing = is
    no_test true is not_passing = absurd (two (passes x) (within x is) not_passing)
      where
        two : (b : Bool) → b ≡ true → b ≡ false → ⊥
        two b is_true is_false = cc

    by_test : (t : Bool) → passes x ≡ t → first_of test base (numbers_from (suc n) passes rows) ≡ first_from (suc n) test rows → first_of test base (in_front t n (numbers_from (suc n) passes rows)) ≡ cond (test x) (Some n) (first_from (suc n) test rows)
    by_test true is more = ap (λ (b : Bool). cond b (Some n) (first_of test base (numbers_from (suc n) passes rows))) here ∙ ap (λ (o : Option ℕ). cond (test x) (Some n) o) more
    by_test false is more = more ∙ sym (ap (λ (b : Bool). cond b (Some n) (first_from (suc n) test rows)) (no_test (test x) refl is))

pub first_is : {A : Type 0} (test passes : A → Bool) (rows : List A) → ((row : A) → test row ≡ true → passes row ≡ true) → first_of test rows (numbers_from 0 passes rows) ≡ position test rows
first_is test passes rows within = first_in test passes rows rows 0 within (λ j. ap (λ (m : ℕ). slice_get rows m) (zero_plus j)) ∙ sym (position_from test rows)
  where
    zero_plus : (n : ℕ) → 0 + n ≡ n
    zero_plus n = omega arith

-- ---- a walk over the numbers

drop_at : (numbers : List ℕ) (i k : ℕ) → i < length numbers → k ≡ get_or numbers i 0 → drop i numbers ≡ k ∷ drop (suc i) numbers
drop_at numbers i k less at_i = drop-cons numbers i 0 less ∙ ap (λ (n : ℕ). n ∷ drop (suc i) numbers) (sym at_i)

pub first_found : {A : Type 0} (test : A → Bool) (rows : List A) (numbers : List ℕ) (i k : ℕ) → i < length numbers → k ≡ get_or numbers i 0 → at test rows k ≡ true → first_of test rows (drop i numbers) ≡ Some k
first_found test rows numbers i k less at_i is = ap (λ (ns : List ℕ). first_of test rows ns) (drop_at numbers i k less at_i) ∙ ap (λ (b : Bool). cond b (Some k) (first_of test rows (drop (suc i) numbers))) is

pub first_none : {A : Type 0} (test : A → Bool) (rows : List A) (numbers : List ℕ) (i : ℕ) → length numbers ≤ i → first_of test rows (drop i numbers) ≡ None
first_none test rows [] zero more = refl
first_none test rows [] (suc i) more = refl
first_none test rows (n ∷ numbers) zero more = absurd (omega arith)
first_none test rows (n ∷ numbers) (suc i) more = first_none test rows numbers i (omega arith)
