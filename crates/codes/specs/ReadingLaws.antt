-- What follows of an exact code: what its reader says is the bytes' only reading.
use Rattle.std.proofs.Common.{◌≡◌, ℕ, suc, ◌+◌, ◌-◌, ◌^◌, ◌<◌, ◌≤◌, List, [], ◌∷◌, ◌++◌, length, get_or, take, drop, Ok, Err, refl, sym, ap, ◌∙◌, subst, ⊎_elim, length-append, append_assoc, append-nil, take-append-drop, arith}
use Rattle.std.proofs.lemmas.List.{take-take, take-append-le, take_at}
use Rattle.std.proofs.lemmas.Bool.{cases_lt, cases_eq}
use Rattle.codes.specs.declared.Stop.{Stop}
use Rattle.codes.specs.declared.Stop.TheVariants.{Outside, More}
use Rattle.codes.specs.Codes.{Code, Read}
use Rattle.codes.specs.Exact.{Exact, Tells, IsLonger, AreBytes, IsAtMost}
use Rattle.codes.specs.Readings.{Reading, Found, OutsideAt, Unfinished, IsBegun, IsUnfinished, IsFound, IsOutsideAt, IsReading, IsOnlyReading, IsPrefixFree, reading_of}

AreBytes-front : (front back : List ℕ) → AreBytes (front ++ back) → AreBytes front
AreBytes-front [] back h = tt
AreBytes-front (b ∷ front) back h = (h.0, AreBytes-front front back h.1)

AreBytes-take : (n : ℕ) (bytes : List ℕ) → AreBytes bytes → AreBytes (take n bytes)
AreBytes-take n bytes h = AreBytes-front (take n bytes) (drop n bytes) (subst AreBytes (sym (take-append-drop n bytes)) h)

ok_ok : {A : Type 0} {v w : A} {xs ys : List ℕ} {r : Read A} → r ≡ Ok (v, xs) → r ≡ Ok (w, ys) → xs ≡ ys
ok_ok {A} {v} {w} {xs} {ys} p q = let e : ◌≡◌ {A = Read A} (Ok (v, xs)) (Ok (w, ys)) = sym p ∙ q in let pair : ◌≡◌ {A = A × List ℕ} (v, xs) (w, ys) = cc in ap (λ (x : A × List ℕ). x.1) pair

ok_err : {A : Type 0} {v : A} {xs : List ℕ} {e : Stop} {r : Read A} → r ≡ Ok (v, xs) → r ≡ Err e → ⊥
ok_err {A} {v} {xs} {e} p q = let same : ◌≡◌ {A = Read A} (Ok (v, xs)) (Err e) = sym p ∙ q in cc

module _ {A : Type 0} (code : Code A) (exact : Exact code) where
  -- ---- what is begun

  begun_front : (front others : List ℕ) → IsBegun code (front ++ others) → IsBegun code front
  begun_front front others b = (others ++ b.0, b.1, subst (λ (bs : List ℕ). code.spells bs b.1) (append_assoc front others b.0) b.2)

  begun_take : (n : ℕ) (bytes : List ℕ) → IsBegun code bytes → IsBegun code (take n bytes)
  begun_take n bytes b = begun_front (take n bytes) (drop n bytes) (subst (IsBegun code) (sym (take-append-drop n bytes)) b)

  begun_unfinished : (bytes : List ℕ) → IsUnfinished code bytes → IsBegun code bytes
  begun_unfinished bytes u = (u.0, u.1, u.3)

  -- where nothing begins with the bytes up to an index, nothing begins with those up to a later one
  stops : (bytes : List ℕ) (k n : ℕ) → k < n → (IsBegun code (take (k + 1) bytes) → ⊥) → IsBegun code (take n bytes) → ⊥
  stops bytes k n h none b = none (subst (IsBegun code) (take-take (k + 1) n bytes (omega arith)) (begun_take (k + 1) (take n bytes) b))

  -- what is spelled, read
  all_read : (bytes : List ℕ) (v : A) → code.spells bytes v → code.read bytes ≡ Ok (v, [])
  all_read bytes v h = ap code.read (sym (append-nil bytes)) ∙ exact.whole bytes v [] h

  -- ---- what is unfinished is read as such

  unfinished_as : (bytes : List ℕ) (u : IsUnfinished code bytes) (read : Read A) → Tells code bytes read → read ≡ Err More
  unfinished_as bytes u (Ok x) h =
      let e = exact.whole h.front x.0 (x.1 ++ u.0) h.spelled in
      let parts : bytes ++ u.0 ≡ h.front ++ (x.1 ++ u.0) = ap (λ (bs : List ℕ). bs ++ u.0) h.parts ∙ append_assoc h.front x.1 u.0 in
      let none : x.1 ++ u.0 ≡ [] = ok_ok e (ap code.read (sym parts) ∙ all_read (bytes ++ u.0) u.1 u.3) in
      absurd (let some = u.2 in omega (arith, length-append x.1 u.0, ap length none))
  unfinished_as bytes u (Err More) h = refl
  unfinished_as bytes u (Err (Outside left)) h =
      let parts : bytes ++ u.0 ≡ h.front ++ h.stop ∷ (h.back ++ u.0) = ap (λ (bs : List ℕ). bs ++ u.0) h.parts ∙ append_assoc h.front (h.stop ∷ h.back) u.0 in
      absurd (ok_err (all_read (bytes ++ u.0) u.1 u.3) (ap code.read parts ∙ h.after (h.back ++ u.0)))

  unfinished_more : (bytes : List ℕ) → AreBytes bytes → IsUnfinished code bytes → code.read bytes ≡ Err More
  unfinished_more bytes low u = unfinished_as bytes u (code.read bytes) (exact.tells bytes low)

  -- ---- what is read is so

  longer : (bytes : List ℕ) → IsLonger code bytes → IsUnfinished code bytes
  longer bytes h = (h.rest, h.value, h.some, h.spelled)

  none_begun : (front : List ℕ) (stop : ℕ) → ((others : List ℕ) → code.read (front ++ stop ∷ others) ≡ Err (Outside (suc (length others)))) → IsBegun code (front ++ stop ∷ []) → ⊥
  none_begun front stop after b = ok_err (all_read ((front ++ stop ∷ []) ++ b.0) b.1 b.2) (ap code.read (append_assoc front (stop ∷ []) b.0) ∙ after b.0)

  right : (bytes : List ℕ) → AreBytes bytes → (read : Read A) → Tells code bytes read → IsReading code bytes (reading_of bytes read)
  right bytes low (Ok x) h = record { front = h.front; rest = x.1; spelled = h.spelled; parts = sym h.parts; long = omega (arith, length-append h.front x.1, ap length h.parts) }
  right bytes low (Err More) h = (h.rest, h.value, h.some, h.spelled)
  right bytes low (Err (Outside left)) h =
      let long = h.long in
      let sum : length bytes ≡ length h.front + suc (length h.back) = ap length h.parts ∙ length-append h.front (h.stop ∷ h.back) in
      let index : length bytes - left ≡ length h.front = omega arith in
      let front : take (length bytes - left) bytes ≡ h.front = ap (take (length bytes - left)) h.parts ∙ take_at h.front (h.stop ∷ h.back) (length bytes - left) (sym index) in
      let with_stop : take (length bytes - left + 1) bytes ≡ h.front ++ h.stop ∷ [] = ap (take (length bytes - left + 1)) (h.parts ∙ sym (append_assoc h.front (h.stop ∷ []) h.back)) ∙ take_at (h.front ++ h.stop ∷ []) h.back (length bytes - left + 1) (omega (arith, length-append h.front (h.stop ∷ []))) in
      let more : IsUnfinished code h.front = longer h.front (subst (Tells code h.front) h.before (exact.tells h.front (AreBytes-front h.front (h.stop ∷ h.back) (subst AreBytes h.parts low)))) in
      record {
        within = omega arith;
        before = subst (IsUnfinished code) (sym front) more;
        none = λ b. none_begun h.front h.stop h.after (subst (IsBegun code) with_stop b);
      }

  -- ---- nothing else is

  -- what a front spells is read, whatever is behind it
  pub found_is_read : (bytes : List ℕ) (v : A) (size : ℕ) → IsFound code bytes v size → reading_of bytes (code.read bytes) ≡ Found v size
  found_is_read bytes v size h =
      let e : code.read bytes ≡ Ok (v, h.rest) = ap code.read (sym h.parts) ∙ exact.whole h.front v h.rest h.spelled in
      let long = h.long in
      let n : length bytes - length h.rest ≡ size = omega (arith, length-append h.front h.rest, ap length h.parts) in
      ap (reading_of bytes) e ∙ ap (Found v) n

  outside_is : (bytes : List ℕ) → AreBytes bytes → (k : ℕ) (d : Reading A) → IsReading code bytes d → IsOutsideAt code bytes k → d ≡ OutsideAt k
  outside_is bytes low k (Found v size) one out = absurd (⊎_elim
      (λ p. out.none (subst (IsBegun code) (sym (take-append-le (k + 1) one.front one.rest (let long = one.long in omega arith)) ∙ ap (take (k + 1)) one.parts) (begun_take (k + 1) one.front ([], v, subst (λ (bs : List ℕ). code.spells bs v) (sym (append-nil one.front)) one.spelled))))
      (λ p.
      let n = length one.front in
      let long = one.long in
      let same : take n (take k bytes) ≡ one.front = take-take n k bytes (omega arith) ∙ ap (take n) (sym one.parts) ∙ take_at one.front one.rest n refl in
      let parts : one.front ++ drop n (take k bytes) ≡ take k bytes = ap (λ (xs : List ℕ). xs ++ drop n (take k bytes)) (sym same) ∙ take-append-drop n (take k bytes) in
      ok_err (ap code.read (sym parts) ∙ exact.whole one.front v (drop n (take k bytes)) one.spelled) (unfinished_more (take k bytes) (AreBytes-take k bytes low) out.before))
      (cases_lt k size))
  outside_is bytes low k Unfinished u out = absurd (out.none (begun_take (k + 1) bytes (begun_unfinished bytes u)))
  outside_is bytes low k (OutsideAt n) h out = ⊎_elim
      (λ p. absurd (stops bytes n k p h.none (begun_unfinished _ out.before)))
      (λ p. ⊎_elim (λ e. ap OutsideAt e) (λ q. absurd (stops bytes k n (omega arith) out.none (begun_unfinished _ h.before))) (cases_eq n k))
      (cases_lt n k)

  -- ---- the theorem

  reads : (bytes : List ℕ) → AreBytes bytes → IsReading code bytes (reading_of bytes (code.read bytes))
  reads bytes low = right bytes low (code.read bytes) (exact.tells bytes low)

  exactly : (bytes : List ℕ) → AreBytes bytes → (d : Reading A) → IsReading code bytes d → reading_of bytes (code.read bytes) ≡ d
  exactly bytes low (Found v size) h = found_is_read bytes v size h
  exactly bytes low Unfinished u = ap (reading_of bytes) (unfinished_more bytes low u)
  exactly bytes low (OutsideAt k) out = outside_is bytes low k (reading_of bytes (code.read bytes)) (reads bytes low) out

  -- what the reader says is the bytes' only reading
  pub only_reading : (bytes : List ℕ) → AreBytes bytes → (d : Reading A) → d ≡ reading_of bytes (code.read bytes) → IsOnlyReading code bytes d
  only_reading bytes low r e d = (λ same. subst (IsReading code bytes) (sym e ∙ same) (reads bytes low), λ h. e ∙ exactly bytes low d h)

  -- ---- bounds of what is read

  rest_told : (bytes : List ℕ) (v : A) (rest : List ℕ) → Tells code bytes (Ok (v, rest)) → length rest ≤ length bytes
  rest_told bytes v rest h = omega (arith, length-append h.front rest, ap length h.parts)

  pub rest_within : (bytes : List ℕ) → AreBytes bytes → (v : A) (rest : List ℕ) → code.read bytes ≡ Ok (v, rest) → length rest ≤ length bytes
  rest_within bytes low v rest e = rest_told bytes v rest (subst (Tells code bytes) e (exact.tells bytes low))

  left_told : (bytes : List ℕ) (left : ℕ) → Tells code bytes (Err (Outside left)) → left ≤ length bytes
  left_told bytes left h = let long = h.long in omega (arith, length-append h.front (h.stop ∷ h.back), ap length h.parts)

  pub left_within : (bytes : List ℕ) → AreBytes bytes → (left : ℕ) → code.read bytes ≡ Err (Outside left) → left ≤ length bytes
  left_within bytes low left e = left_told bytes left (subst (Tells code bytes) e (exact.tells bytes low))

  same_read : {v w : A} {xs ys : List ℕ} {r : Read A} → r ≡ Ok (v, xs) → r ≡ Ok (w, ys) → (xs ≡ ys) × (v ≡ w)
  same_read {v} {w} {xs} {ys} p q = let e : ◌≡◌ {A = Read A} (Ok (v, xs)) (Ok (w, ys)) = sym p ∙ q in let pair : ◌≡◌ {A = A × List ℕ} (v, xs) (w, ys) = cc in (ap (λ (x : A × List ℕ). x.1) pair, ap (λ (x : A × List ℕ). x.0) pair)

  -- no spelling begins another
  pub prefix_free : IsPrefixFree code
  prefix_free front rest bytes v w p q e = same_read (exact.whole front v rest p) (ap code.read (sym e) ∙ all_read bytes w q)

  size_told : (n : ℕ) → IsAtMost code n → (bytes : List ℕ) (v : A) (rest : List ℕ) → Tells code bytes (Ok (v, rest)) → length bytes - length rest ≤ n
  size_told n below bytes v rest h = let l = below.bound h.front v h.spelled in omega (arith, length-append h.front rest, ap length h.parts)

  pub size_at_most : (n : ℕ) → IsAtMost code n → (bytes : List ℕ) → AreBytes bytes → (v : A) (rest : List ℕ) → code.read bytes ≡ Ok (v, rest) → length bytes - length rest ≤ n
  size_at_most n below bytes low v rest e = size_told n below bytes v rest (subst (Tells code bytes) e (exact.tells bytes low))

  index_told : (n : ℕ) → IsAtMost code n → (bytes : List ℕ) → AreBytes bytes → (left : ℕ) → Tells code bytes (Err (Outside left)) → length bytes - left ≤ n
  index_told n below bytes low left h =
      let long = h.long in
      let more = subst (Tells code h.front) h.before (exact.tells h.front (AreBytes-front h.front (h.stop ∷ h.back) (subst AreBytes h.parts low))) in
      let l = below.bound (h.front ++ more.rest) more.value more.spelled in
      omega (arith, length-append h.front more.rest, length-append h.front (h.stop ∷ h.back), ap length h.parts)

  pub index_at_most : (n : ℕ) → IsAtMost code n → (bytes : List ℕ) → AreBytes bytes → (left : ℕ) → code.read bytes ≡ Err (Outside left) → length bytes - left ≤ n
  index_at_most n below bytes low left e = index_told n below bytes low left (subst (Tells code bytes) e (exact.tells bytes low))

pub AreBytes-from : (bytes : List ℕ) → ((k : ℕ) → k < length bytes → get_or bytes k 0 < 2 ^ 8) → AreBytes bytes
AreBytes-from [] h = tt
AreBytes-from (b ∷ bytes) h = (h 0 (omega arith), AreBytes-from bytes (λ k p. h (suc k) (omega arith)))
