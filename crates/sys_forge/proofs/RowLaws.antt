-- Rows of a table with one more.
use Rattle.std.proofs.Common.{◌≡◌, ℕ, suc, ◌+◌, ◌<◌, ◌⊎◌, inl, inr, Bool, true, false, cond, not, List, [], ◌∷◌, ◌++◌, length, Option, None, Some, is_some, refl, sym, ap, ◌∙◌, ⊎_elim, length-append, zero-add, arith}
use Rattle.std.specs.List.{position_or_len}
use Rattle.std.specs.Str.{bytes_eq}
use Rattle.std.specs.Map.{keys_of, lookup}
use Rattle.std.proofs.lemmas.Bool.{false≢true, cases_Bool, cond-true, cond-false, cond_both, lt-ltb, le-ltb}
use Rattle.std.proofs.lemmas.Slice.Eq.{bytes_eq-Decides}
use Rattle.ia32_fields.specs.Fields.{IsWide}
use Rattle.line_bytes.specs.Tables.{Rows, place_of, as_row, row_of, with_row}
use Rattle.line_bytes.specs.Putting.{AreWide}

abbrev reach : List ℕ → Rows → ℕ
reach name rows = position_or_len (bytes_eq name) (keys_of rows)

abbrev size : Rows → ℕ
size rows = length (keys_of rows)

abbrev number : List ℕ → Rows → Option ℕ
number name rows = lookup (bytes_eq name) rows

size-is : (rows : Rows) → size rows ≡ length rows
size-is [] = refl
size-is (row ∷ rows) = ap suc (size-is rows)

size-more : (rows : Rows) (name : List ℕ) (k : ℕ) → size (rows ++ (name, k) ∷ []) ≡ size rows + 1
size-more [] name k = refl
size-more (row ∷ rows) name k = omega (arith, size-more rows name k)

-- ---- a name is there or not

record IsMissed (r s : ℕ) (o : Option ℕ) : Type 0 where
  pub end : r ≡ s
  pub none : o ≡ None

record IsHit (r s : ℕ) (o : Option ℕ) : Type 0 where
  pub low : r < s
  pub value : ℕ
  pub some : o ≡ Some value

seen-more : (b : Bool) (k r s : ℕ) (o : Option ℕ) → IsMissed r s o ⊎ IsHit r s o → IsMissed (cond (not b) (1 + r) 0) (suc s) (cond b (Some k) o) ⊎ IsHit (cond (not b) (1 + r) 0) (suc s) (cond b (Some k) o)
seen-more true k r s o h = inr (record { low = omega arith; value = k; some = refl })
seen-more false k r s o (inl h) = inl (record { end = omega (arith, h.end); none = h.none })
seen-more false k r s o (inr h) = inr (record { low = omega (arith, h.low); value = h.value; some = h.some })

seen : (name : List ℕ) (rows : Rows) → IsMissed (reach name rows) (size rows) (number name rows) ⊎ IsHit (reach name rows) (size rows) (number name rows)
seen name [] = inl (record { end = refl; none = refl })
seen name (row ∷ rows) = seen-more (bytes_eq name row.0) row.1 (reach name rows) (size rows) (number name rows) (seen name rows)

place-hit : (name : List ℕ) (rows : Rows) → reach name rows < size rows → place_of rows name ≡ Some (reach name rows)
place-hit name rows h = cond-true _ _ _ (lt-ltb (reach name rows) (size rows) h)

place-missed : (name : List ℕ) (rows : Rows) → reach name rows ≡ size rows → place_of rows name ≡ None
place-missed name rows h = cond-false _ _ _ (le-ltb (reach name rows) (size rows) (omega (arith, h)))

-- ---- one row more

record IsKept (r r2 : ℕ) (o o2 : Option ℕ) : Type 0 where
  pub reach : r2 ≡ r
  pub value : o2 ≡ o

kept-more : (b : Bool) (k r r2 s : ℕ) (o o2 : Option ℕ) → (r < s → IsKept r r2 o o2) → cond (not b) (1 + r) 0 < suc s → IsKept (cond (not b) (1 + r) 0) (cond (not b) (1 + r2) 0) (cond b (Some k) o) (cond b (Some k) o2)
kept-more true k r r2 s o o2 f h = record { reach = refl; value = refl }
kept-more false k r r2 s o o2 f h = let p = f (omega (arith, h)) in record { reach = ap (λ n. 1 + n) p.reach; value = p.value }

kept : (name : List ℕ) (rows : Rows) (other : List ℕ) (k : ℕ) → reach name rows < size rows → IsKept (reach name rows) (reach name (rows ++ (other, k) ∷ [])) (number name rows) (number name (rows ++ (other, k) ∷ []))
kept name [] other k h = absurd (omega (arith, h))
kept name (row ∷ rows) other k h = kept-more (bytes_eq name row.0) row.1 (reach name rows) (reach name (rows ++ (other, k) ∷ [])) (size rows) (number name rows) (number name (rows ++ (other, k) ∷ [])) (kept name rows other k) h

record IsLast (s r2 : ℕ) (o2 : Option ℕ) (b : Bool) (k : ℕ) : Type 0 where
  pub reach : r2 ≡ s + cond (not b) 1 0
  pub value : o2 ≡ cond b (Some k) None

last-more : (c : Bool) (n r r2 s : ℕ) (o2 : Option ℕ) (b : Bool) (k : ℕ) → (r ≡ s → IsLast s r2 o2 b k) → cond (not c) (1 + r) 0 ≡ suc s → IsLast (suc s) (cond (not c) (1 + r2) 0) (cond c (Some n) o2) b k
last-more true n r r2 s o2 b k f h = absurd (omega (arith, h))
last-more false n r r2 s o2 b k f h = let p = f (omega (arith, h)) in record { reach = omega (arith, p.reach); value = p.value }

last : (name : List ℕ) (rows : Rows) (other : List ℕ) (k : ℕ) → reach name rows ≡ size rows → IsLast (size rows) (reach name (rows ++ (other, k) ∷ [])) (number name (rows ++ (other, k) ∷ [])) (bytes_eq name other) k
last name [] other k h = record { reach = sym (zero-add (cond (not (bytes_eq name other)) 1 0)); value = refl }
last name (row ∷ rows) other k h = last-more (bytes_eq name row.0) row.1 (reach name rows) (reach name (rows ++ (other, k) ∷ [])) (size rows) (number name (rows ++ (other, k) ∷ [])) (bytes_eq name other) k (last name rows other k) h

-- ---- rows

-- a name that is there has a row
pub record IsFound (rows : Rows) (name : List ℕ) : Type 0 where
  pub place : ℕ
  pub value : ℕ
  pub row : row_of rows name ≡ Some (place, value)
  pub low : place < length rows
  pub there : is_some (place_of rows name) ≡ true

found : (rows : Rows) (name : List ℕ) → IsHit (reach name rows) (size rows) (number name rows) → IsFound rows name
unfolding row_of
found rows name h = record {
  place = reach name rows;
  value = h.value;
  row = rw (place-hit name rows h.low, h.some) refl;
  low = omega (arith, h.low, size-is rows);
  there = ap is_some (place-hit name rows h.low);
}

pub found-or-not : (rows : Rows) (name : List ℕ) → (place_of rows name ≡ None) ⊎ IsFound rows name
found-or-not rows name = ⊎_elim (λ h. inl (place-missed name rows h.end)) (λ h. inr (found rows name h)) (seen name rows)

no-row : (p : Option ℕ) → as_row p None ≡ None
no-row None = refl
no-row (Some p) = refl

none≢some : {A : Type 0} {x : A} → None ≡ Some x → ⊥
none≢some h = absurd (cc)

-- a row stays as it is
behind-hit : (rows : Rows) (name other : List ℕ) (k : ℕ) (r : ℕ × ℕ) → as_row (place_of rows name) (number name rows) ≡ Some r → IsHit (reach name rows) (size rows) (number name rows) → as_row (place_of (rows ++ (other, k) ∷ []) name) (number name (rows ++ (other, k) ∷ [])) ≡ Some r
behind-hit rows name other k r e h =
    let m = kept name rows other k h.low in
    let at : place_of (rows ++ (other, k) ∷ []) name ≡ place_of rows name = place-hit name (rows ++ (other, k) ∷ []) (omega (arith, h.low, m.reach, size-more rows other k)) ∙ ap Some m.reach ∙ sym (place-hit name rows h.low) in
    ap (λ p. as_row p (number name (rows ++ (other, k) ∷ []))) at ∙ ap (as_row (place_of rows name)) m.value ∙ e

kept-behind : (rows : Rows) (name other : List ℕ) (k : ℕ) (r : ℕ × ℕ) → as_row (place_of rows name) (number name rows) ≡ Some r → IsMissed (reach name rows) (size rows) (number name rows) ⊎ IsHit (reach name rows) (size rows) (number name rows) → as_row (place_of (rows ++ (other, k) ∷ []) name) (number name (rows ++ (other, k) ∷ [])) ≡ Some r
kept-behind rows name other k r e (inl h) = absurd (none≢some (sym (ap (as_row (place_of rows name)) h.none ∙ no-row (place_of rows name)) ∙ e))
kept-behind rows name other k r e (inr h) = behind-hit rows name other k r e h

pub row-keeps : (rows : Rows) (name other : List ℕ) (k : ℕ) (r : ℕ × ℕ) → row_of rows name ≡ Some r → row_of (with_row rows other k) name ≡ Some r
unfolding row_of with_row
row-keeps rows name other k r e = cond_both (is_some (place_of rows other)) rows (rows ++ (other, k) ∷ []) (λ (rs : Rows). as_row (place_of rs name) (number name rs) ≡ Some r) (λ t. e) (λ f. kept-behind rows name other k r e (seen name rows))

-- a new name's row is the last
added-behind : (rows : Rows) (name : List ℕ) (k : ℕ) → place_of rows name ≡ None → IsMissed (reach name rows) (size rows) (number name rows) ⊎ IsHit (reach name rows) (size rows) (number name rows) → as_row (place_of (rows ++ (name, k) ∷ []) name) (number name (rows ++ (name, k) ∷ [])) ≡ Some (length rows, k)
added-behind rows name k e (inr h) = absurd (none≢some (sym e ∙ place-hit name rows h.low))
added-behind rows name k e (inl h) =
    let own : bytes_eq name name ≡ true = (bytes_eq-Decides name name).1 refl in
    let m = last name rows name k h.end in
    let at : reach name (rows ++ (name, k) ∷ []) ≡ size rows = m.reach ∙ ap (λ b. size rows + cond (not b) 1 0) own ∙ omega arith in
    ap (λ p. as_row p (number name (rows ++ (name, k) ∷ []))) (place-hit name (rows ++ (name, k) ∷ []) (omega (arith, at, size-more rows name k)) ∙ ap Some (at ∙ size-is rows))
    ∙ ap (as_row (Some (length rows))) (m.value ∙ ap (λ b. cond b (Some k) None) own)

pub row-added : (rows : Rows) (name : List ℕ) (k : ℕ) → place_of rows name ≡ None → row_of (with_row rows name k) name ≡ Some (length rows, k)
unfolding row_of with_row
row-added rows name k e = ap (λ (rs : Rows). as_row (place_of rs name) (number name rs)) (cond-false (is_some (place_of rows name)) rows (rows ++ (name, k) ∷ []) (ap is_some e)) ∙ added-behind rows name k e (seen name rows)

pub length-added : (rows : Rows) (name : List ℕ) (k : ℕ) → place_of rows name ≡ None → length (with_row rows name k) ≡ length rows + 1
unfolding with_row
length-added rows name k e = ap length (cond-false (is_some (place_of rows name)) rows (rows ++ (name, k) ∷ []) (ap is_some e)) ∙ length-append rows ((name, k) ∷ [])

there : (p o : Option ℕ) (r : ℕ × ℕ) → as_row p o ≡ Some r → is_some p ≡ true
there None o r h = absurd (none≢some h)
there (Some p) o r h = refl

pub same-row : (rows : Rows) (name : List ℕ) (k : ℕ) (r : ℕ × ℕ) → row_of rows name ≡ Some r → with_row rows name k ≡ rows
unfolding row_of with_row
same-row rows name k r e = cond-true (is_some (place_of rows name)) rows (rows ++ (name, k) ∷ []) (there (place_of rows name) (number name rows) r e)

-- a name with one row more was there before or is the new one
missed : (rows : Rows) (name other : List ℕ) (k : ℕ) → is_some (place_of (rows ++ (other, k) ∷ []) name) ≡ true → IsMissed (reach name rows) (size rows) (number name rows) → bytes_eq name other ≡ false → ⊥
missed rows name other k h m f =
    let l = last name rows other k m.end in
    let at : reach name (rows ++ (other, k) ∷ []) ≡ size (rows ++ (other, k) ∷ []) = l.reach ∙ ap (λ b. size rows + cond (not b) 1 0) f ∙ sym (size-more rows other k) in
    false≢true (sym (ap is_some (place-missed name (rows ++ (other, k) ∷ []) at)) ∙ h)

before-append : (rows : Rows) (name other : List ℕ) (k : ℕ) → is_some (place_of (rows ++ (other, k) ∷ []) name) ≡ true → (is_some (place_of rows name) ≡ true) ⊎ (bytes_eq name other ≡ true)
before-append rows name other k h = ⊎_elim (λ m. inr (⊎_elim (λ t. t) (λ f. absurd (missed rows name other k h m f)) (cases_Bool (bytes_eq name other)))) (λ s. inl (ap is_some (place-hit name rows s.low))) (seen name rows)

pub named-before : (rows : Rows) (name other : List ℕ) (k : ℕ) → is_some (place_of (with_row rows other k) name) ≡ true → (is_some (place_of rows name) ≡ true) ⊎ (bytes_eq name other ≡ true)
unfolding with_row
named-before rows name other k = cond_both (is_some (place_of rows other)) rows (rows ++ (other, k) ∷ []) (λ (rs : Rows). is_some (place_of rs name) ≡ true → (is_some (place_of rows name) ≡ true) ⊎ (bytes_eq name other ≡ true)) (λ t. inl) (λ f. before-append rows name other k)

-- ---- wide numbers

wide-append : (rows : Rows) (name : List ℕ) (k : ℕ) → AreWide rows → IsWide k → AreWide (rows ++ (name, k) ∷ [])
unfolding AreWide
wide-append [] name k h w = (w, tt)
wide-append (row ∷ rows) name k h w = (h.0, wide-append rows name k h.1 w)

pub wide-with : (rows : Rows) (name : List ℕ) (k : ℕ) → AreWide rows → IsWide k → AreWide (with_row rows name k)
unfolding with_row
wide-with rows name k h w = cond_both (is_some (place_of rows name)) rows (rows ++ (name, k) ∷ []) AreWide (λ t. h) (λ f. wide-append rows name k h w)
