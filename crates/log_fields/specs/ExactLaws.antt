-- Each way to make a code keeps exact reading.
use Rattle.std.proofs.Common.{◌≡◌, ℕ, zero, suc, ◌^◌, ◌+◌, ◌-◌, ◌*◌, ◌<◌, ◌≤◌, inl, inr, Bool, true, false, cond, List, [], ◌∷◌, ◌++◌, length, Option, Some, None, refl, sym, ap, ◌∙◌, subst, ⊎_elim, length-append, append_assoc, append-nil, arith}
use Rattle.std.specs.List.{AllByRecursion}
use Rattle.std.specs.Prelude.{◌==◌, nat_le}
use Rattle.std.proofs.lemmas.Bool.{false≢true, cond-true, cond-false, cases_Bool, both_ways, eqb-true, eqb-false, ne_eqb, eq-eqb, or_parts, or_from, or_left, or_right}
use Rattle.std.proofs.lemmas.Option.{none-some}
use Rattle.std.proofs.lemmas.Slice.Eq.{bytes_eq-Decides}
use Rattle.std.specs.Str.{bytes_eq}
use Rattle.log_fields.specs.Exact.{Ends, IsRead, Tells, Exact, AreInside}
use Rattle.log_fields.specs.Codes.{Code, Read, and_then, is_field_end, is_item_end, with_rest, find, before_end, from_end, named, passing, such, past, read_past, behind, none, chosen, ◌▹◌, read_optional, optional, in_front, more_text, list_text, read_more, read_list, listed}

field_item : (rest : List ℕ) → Ends is_field_end rest → Ends is_item_end rest
field_item [] h = tt
field_item (b ∷ rest) h = or_left _ _ (or_left _ _ h)

-- what ends a field ends an item
pub as_field : {A : Type 0} (c : Code A) → Exact is_item_end c → Exact is_field_end c
as_field c e = record { whole = λ v rest h ends. e.whole v rest h (field_item rest ends); tells = e.tells }

-- ---- a byte

pub past_is : (b : ℕ) (bytes : List ℕ) → past b (b ∷ bytes) ≡ Some bytes
past_is b bytes = cond-true (b == b) (Some bytes) None (eq-eqb b b refl)

abbrev pub IsPast : ℕ → List ℕ → Option (List ℕ) → Type 0
IsPast b bytes (Some rest) = bytes ≡ b ∷ rest
IsPast b bytes None = Unit {0}

past_at : (b c : ℕ) (bytes : List ℕ) (t : Bool) → (c == b) ≡ t → IsPast b (c ∷ bytes) (cond t (Some bytes) None)
past_at b c bytes true h = ap (λ (x : ℕ). x ∷ bytes) (eqb-true c b h)
past_at b c bytes false h = tt

pub past_tells : (b : ℕ) (bytes : List ℕ) → IsPast b bytes (past b bytes)
past_tells b [] = tt
past_tells b (c ∷ bytes) = past_at b c bytes (c == b) refl

-- ---- nothing

pub none_exact : (end : ℕ → Bool) → Exact end none
none_exact end = record { whole = λ v rest h ends. refl; tells = λ bytes. record { fits = tt; parts = refl } }

-- ---- behind a byte

module _ {A : Type 0} (end : ℕ → Bool) (b : ℕ) (c : Code A) (e : Exact end c) where
  behind_tells : (bytes rest : List ℕ) → bytes ≡ b ∷ rest → (read : Read A) → Tells c rest read → Tells (behind b c) bytes read
  behind_tells bytes rest p (Some x) t = record { fits = t.fits; parts = p ∙ ap (λ (xs : List ℕ). b ∷ xs) t.parts }
  behind_tells bytes rest p None t = tt

  behind_told : (bytes : List ℕ) (p : Option (List ℕ)) → IsPast b bytes p → Tells (behind b c) bytes (read_past c.read p)
  behind_told bytes (Some rest) h = behind_tells bytes rest h (c.read rest) (e.tells rest)
  behind_told bytes None h = tt

  pub behind_exact : Exact end (behind b c)
  behind_exact = record {
    whole = λ v rest h ends. ap (read_past c.read) (past_is b (c.text v ++ rest)) ∙ e.whole v rest h ends;
    tells = λ bytes. behind_told bytes (past b bytes) (past_tells b bytes);
  }

-- ---- the values that pass a test

module _ {A : Type 0} (end : ℕ → Bool) (ok : A → Bool) (c : Code A) (e : Exact end c) where
  such_at : (bytes : List ℕ) (x : A × List ℕ) → IsRead c bytes x.0 x.1 → (t : Bool) → ok x.0 ≡ t → Tells (such ok c) bytes (cond t (Some x) None)
  such_at bytes x h true p = record { fits = (h.fits, p); parts = h.parts }
  such_at bytes x h false p = tt

  such_told : (bytes : List ℕ) (read : Read A) → Tells c bytes read → Tells (such ok c) bytes (passing ok read)
  such_told bytes (Some x) h = such_at bytes x h (ok x.0) refl
  such_told bytes None h = tt

  pub such_exact : Exact end (such ok c)
  such_exact = record {
    whole = λ v rest h ends. ap (passing ok) (e.whole v rest h.0 ends) ∙ cond-true (ok v) (Some (v, rest)) None h.1;
    tells = λ bytes. such_told bytes (c.read bytes) (e.tells bytes);
  }

-- ---- one, and then another

module _ {A B : Type 0} (end : ℕ → Bool) (c : Code A) (d : Code B) (blank : end 32 ≡ true) (first : Exact end c) (second : Exact end d) where
  abbrev back : A → List ℕ → Read (A × B)
  back x rest = and_then (read_past d.read (past 32 rest)) (λ y rest. Some ((x, y), rest))

  pair_told : (bytes rest : List ℕ) (x : A) → IsRead c bytes x rest → (read : Read B) → Tells (behind 32 d) rest read → Tells (c ▹ d) bytes (and_then read (λ y rest. Some ((x, y), rest)))
  pair_told bytes rest x h (Some y) t = record { fits = (h.fits, t.fits); parts = h.parts ∙ ap (λ (bs : List ℕ). c.text x ++ bs) t.parts ∙ sym (append_assoc (c.text x) (32 ∷ d.text y.0) y.1) }
  pair_told bytes rest x h None t = tt

  first_told : (bytes : List ℕ) (read : Read A) → Tells c bytes read → Tells (c ▹ d) bytes (and_then read back)
  first_told bytes (Some x) h = pair_told bytes x.1 x.0 h _ ((behind_exact end 32 d second).tells x.1)
  first_told bytes None h = tt

  pub pair_exact : Exact end (c ▹ d)
  pair_exact = record {
    whole = λ v rest h ends.
        ap (λ (bs : List ℕ). and_then (c.read bs) back) (append_assoc (c.text v.0) (32 ∷ d.text v.1) rest)
        ∙ ap (λ (read : Read A). and_then read back) (first.whole v.0 (32 ∷ d.text v.1 ++ rest) h.0 blank)
        ∙ ap (λ (read : Read B). and_then read (λ y rest. Some ((v.0, y), rest))) ((behind_exact end 32 d second).whole v.1 rest h.1 ends);
    tells = λ bytes. first_told bytes (c.read bytes) (first.tells bytes);
  }

-- ---- one, and then one that its value chooses

module _ {A : Type 0} (end : ℕ → Bool) (c : Code A) (F : A → Type 0) (f : (x : A) → Code (F x)) (first : Exact end c) (opens : (x : A) (y : F x) (rest : List ℕ) → Ends end rest → Ends end ((f x).text y ++ rest)) (second : (x : A) → Exact end (f x)) where
  abbrev tail : (x : A) → List ℕ → Read ((x : A) × F x)
  tail x rest = and_then ((f x).read rest) (λ y rest. Some ((x, y), rest))

  tail_told : (bytes rest : List ℕ) (x : A) → IsRead c bytes x rest → (read : Read (F x)) → Tells (f x) rest read → Tells (chosen c F f) bytes (and_then read (λ y rest. Some ((x, y), rest)))
  tail_told bytes rest x h (Some y) t = record { fits = (h.fits, t.fits); parts = h.parts ∙ ap (λ (bs : List ℕ). c.text x ++ bs) t.parts ∙ sym (append_assoc (c.text x) ((f x).text y.0) y.1) }
  tail_told bytes rest x h None t = tt

  head_told : (bytes : List ℕ) (read : Read A) → Tells c bytes read → Tells (chosen c F f) bytes (and_then read tail)
  head_told bytes (Some x) h = tail_told bytes x.1 x.0 h _ ((second x.0).tells x.1)
  head_told bytes None h = tt

  pub chosen_exact : Exact end (chosen c F f)
  chosen_exact = record {
    whole = λ v rest h ends.
        ap (λ (bs : List ℕ). and_then (c.read bs) tail) (append_assoc (c.text v.0) ((f v.0).text v.1) rest)
        ∙ ap (λ (read : Read A). and_then read tail) (first.whole v.0 ((f v.0).text v.1 ++ rest) h.0 (opens v.0 v.1 rest ends))
        ∙ ap (λ (read : Read (F v.0)). and_then read (λ y rest. Some ((v.0, y), rest))) ((second v.0).whole v.1 rest h.1 ends);
    tells = λ bytes. head_told bytes (c.read bytes) (first.tells bytes);
  }

-- ---- a name out of a table

before_is : (bytes rest : List ℕ) → AreInside bytes → Ends is_field_end rest → before_end (bytes ++ rest) ≡ bytes
before_is [] [] h ends = refl
before_is [] (b ∷ rest) h ends = cond-true (is_field_end b) [] (b ∷ before_end rest) ends
before_is (b ∷ bytes) rest h ends = cond-false (is_field_end b) [] (b ∷ before_end (bytes ++ rest)) h.0 ∙ ap (λ (bs : List ℕ). b ∷ bs) (before_is bytes rest h.1 ends)

from_is : (bytes rest : List ℕ) → AreInside bytes → Ends is_field_end rest → from_end (bytes ++ rest) ≡ rest
from_is [] [] h ends = refl
from_is [] (b ∷ rest) h ends = cond-true (is_field_end b) (b ∷ rest) (from_end rest) ends
from_is (b ∷ bytes) rest h ends = cond-false (is_field_end b) (b ∷ bytes ++ rest) (from_end (bytes ++ rest)) h.0 ∙ from_is bytes rest h.1 ends

parts_at : (b : ℕ) (bytes : List ℕ) (t : Bool) → bytes ≡ before_end bytes ++ from_end bytes → b ∷ bytes ≡ cond t [] (b ∷ before_end bytes) ++ cond t (b ∷ bytes) (from_end bytes)
parts_at b bytes true h = refl
parts_at b bytes false h = ap (λ (bs : List ℕ). b ∷ bs) h

end_parts : (bytes : List ℕ) → bytes ≡ before_end bytes ++ from_end bytes
end_parts [] = refl
end_parts (b ∷ bytes) = parts_at b bytes (is_field_end b) (end_parts bytes)

-- ---- a list

joined : {A : Type 0} → Code A → Code (List A)
joined c = record { fits = AllByRecursion c.fits; text = more_text c; read = λ bytes. read_more c (length bytes) bytes }

module _ {A : Type 0} (c : Code A) (e : Exact is_item_end c) where
  more_length : (xs : List A) → length xs ≤ length (more_text c xs)
  more_length [] = omega arith
  more_length (x ∷ xs) = omega (arith, more_length xs, length-append (c.text x) (more_text c xs))

  more_ends : (xs : List A) (rest : List ℕ) → Ends is_field_end rest → Ends is_item_end (more_text c xs ++ rest)
  more_ends [] rest ends = field_item rest ends
  more_ends (x ∷ xs) rest ends = refl

  not_comma : (b : ℕ) → is_field_end b ≡ true → (b == 44) ≡ false
  not_comma b h = ⊎_elim (λ p. let q : true ≡ false = sym h ∙ ap is_field_end (eqb-true b 44 p) in absurd (false≢true (sym q))) (λ p. p) (cases_Bool (b == 44))

  more_whole : (xs : List A) (n : ℕ) (rest : List ℕ) → length xs ≤ n → AllByRecursion c.fits xs → Ends is_field_end rest → read_more c n (more_text c xs ++ rest) ≡ Some (xs, rest)
  unfolding read_more
  more_whole [] zero rest p h ends = refl
  more_whole (x ∷ xs) zero rest p h ends = absurd (omega arith)
  more_whole [] (suc n) [] p h ends = refl
  more_whole [] (suc n) (b ∷ rest) p h ends = cond-false (b == 44) _ (Some ([], b ∷ rest)) (not_comma b ends)
  more_whole (x ∷ xs) (suc n) rest p h ends =
      ap (λ (bs : List ℕ). and_then (c.read bs) (λ x rest. in_front x (read_more c n rest))) (append_assoc (c.text x) (more_text c xs) rest)
      ∙ ap (λ (read : Read A). and_then read (λ x rest. in_front x (read_more c n rest))) (e.whole x (more_text c xs ++ rest) h.0 (more_ends xs rest ends))
      ∙ ap (in_front x) (more_whole xs n rest (omega arith) h.1 ends)

  record IsMore (bytes : List ℕ) (xs : List A) (rest : List ℕ) : Type 0 where
    fits : AllByRecursion c.fits xs
    parts : bytes ≡ more_text c xs ++ rest

  abbrev MoreTells : List ℕ → Read (List A) → Type 0
  MoreTells bytes (Some x) = IsMore bytes x.0 x.1
  MoreTells bytes None = Unit {0}

  more_behind : (bytes rest : List ℕ) (x : A) → IsRead c bytes x rest → (read : Read (List A)) → MoreTells rest read → MoreTells (44 ∷ bytes) (in_front x read)
  more_behind bytes rest x h (Some y) t = record { fits = (h.fits, t.fits); parts = ap (λ (bs : List ℕ). 44 ∷ bs) (h.parts ∙ ap (λ (bs : List ℕ). c.text x ++ bs) t.parts ∙ sym (append_assoc (c.text x) (more_text c y.0) y.1)) }
  more_behind bytes rest x h None t = tt

  more_item : (n : ℕ) → ((bytes : List ℕ) → MoreTells bytes (read_more c n bytes)) → (bytes : List ℕ) (read : Read A) → Tells c bytes read → MoreTells (44 ∷ bytes) (and_then read (λ x rest. in_front x (read_more c n rest)))
  more_item n ih bytes (Some x) h = more_behind bytes x.1 x.0 h _ (ih x.1)
  more_item n ih bytes None h = tt

  more_at : (n : ℕ) → ((bytes : List ℕ) → MoreTells bytes (read_more c n bytes)) → (b : ℕ) (bytes : List ℕ) (t : Bool) → (b == 44) ≡ t → MoreTells (b ∷ bytes) (cond t (and_then (c.read bytes) (λ x rest. in_front x (read_more c n rest))) (Some ([], b ∷ bytes)))
  more_at n ih b bytes true h = subst (λ (a : ℕ). MoreTells (a ∷ bytes) (and_then (c.read bytes) (λ x rest. in_front x (read_more c n rest)))) (sym (eqb-true b 44 h)) (more_item n ih bytes (c.read bytes) (e.tells bytes))
  more_at n ih b bytes false h = record { fits = tt; parts = refl }

  more_tells : (n : ℕ) (bytes : List ℕ) → MoreTells bytes (read_more c n bytes)
  unfolding read_more
  more_tells zero bytes = record { fits = tt; parts = refl }
  more_tells (suc n) [] = record { fits = tt; parts = refl }
  more_tells (suc n) (b ∷ bytes) = more_at n (more_tells n) b bytes (b == 44) refl

  -- no item begins with `-`
  module _ (dash : (bytes : List ℕ) → c.read (45 ∷ bytes) ≡ None) where
    -- what an item begins with
    not_dash : (b : ℕ) (bytes : List ℕ) (v : A) (rest : List ℕ) → c.read (b ∷ bytes) ≡ Some (v, rest) → (b == 45) ≡ false
    not_dash b bytes v rest h = ⊎_elim (λ p. let q : None ≡ Some (v, rest) = sym (dash bytes) ∙ ap (λ (a : ℕ). c.read (a ∷ bytes)) (sym (eqb-true b 45 p)) ∙ h in absurd (none-some (v, rest) q)) (λ p. p) (cases_Bool (b == 45))

    list_first : (text : List ℕ) (x : A) (xs : List A) (rest : List ℕ) → c.read text ≡ Some (x, more_text c xs ++ rest) → c.read [] ≡ None → AllByRecursion c.fits xs → Ends is_field_end rest → read_list c text ≡ Some (x ∷ xs, rest)
    list_first [] x xs rest h n fits ends = absurd (none-some _ (sym n ∙ h))
    list_first (b ∷ bytes) x xs rest h n fits ends =
        cond-false (b == 45) _ _ (not_dash b bytes x _ h)
        ∙ ap (λ (read : Read A). and_then read (λ x rest. in_front x (read_more c (length rest) rest))) h
        ∙ ap (in_front x) (more_whole xs (length (more_text c xs ++ rest)) rest (omega (arith, more_length xs, length-append (more_text c xs) rest)) fits ends)

    list_behind : (bytes rest : List ℕ) (x : A) → IsRead c bytes x rest → (read : Read (List A)) → MoreTells rest read → Tells (listed c) bytes (in_front x read)
    list_behind bytes rest x h (Some y) t = record { fits = (h.fits, t.fits); parts = h.parts ∙ ap (λ (bs : List ℕ). c.text x ++ bs) t.parts ∙ sym (append_assoc (c.text x) (more_text c y.0) y.1) }
    list_behind bytes rest x h None t = tt

    list_item : (bytes : List ℕ) (read : Read A) → Tells c bytes read → Tells (listed c) bytes (and_then read (λ x rest. in_front x (read_more c (length rest) rest)))
    list_item bytes (Some x) h = list_behind bytes x.1 x.0 h _ (more_tells (length x.1) x.1)
    list_item bytes None h = tt

    list_at : (b : ℕ) (bytes : List ℕ) (t : Bool) → (b == 45) ≡ t → Tells (listed c) (b ∷ bytes) (cond t (Some ([], bytes)) (and_then (c.read (b ∷ bytes)) (λ x rest. in_front x (read_more c (length rest) rest))))
    list_at b bytes true h = record { fits = tt; parts = ap (λ (a : ℕ). a ∷ bytes) (eqb-true b 45 h) }
    list_at b bytes false h = list_item (b ∷ bytes) (c.read (b ∷ bytes)) (e.tells (b ∷ bytes))

    list_tells : (bytes : List ℕ) → Tells (listed c) bytes (read_list c bytes)
    list_tells [] = tt
    list_tells (b ∷ bytes) = list_at b bytes (b == 45) refl

    list_whole : (xs : List A) (rest : List ℕ) → c.read [] ≡ None → AllByRecursion c.fits xs → Ends is_field_end rest → read_list c (list_text c xs ++ rest) ≡ Some (xs, rest)
    list_whole [] rest n fits ends = refl
    list_whole (x ∷ xs) rest n fits ends = ap (read_list c) (append_assoc (c.text x) (more_text c xs) rest) ∙ list_first (c.text x ++ (more_text c xs ++ rest)) x xs rest (e.whole x (more_text c xs ++ rest) fits.0 (more_ends xs rest ends)) n fits.1 ends

    pub listed_exact : c.read [] ≡ None → Exact is_field_end (listed c)
    listed_exact n = record { whole = λ v rest h ends. list_whole v rest n h ends; tells = list_tells }

-- ---- `-` for none

module _ {A : Type 0} (end : ℕ → Bool) (c : Code A) (e : Exact end c) (dash : (bytes : List ℕ) → c.read (45 ∷ bytes) ≡ None) (empty : c.read [] ≡ None) where
  some_first : (text : List ℕ) (x : A) (rest : List ℕ) → c.read text ≡ Some (x, rest) → read_optional c text ≡ Some (Some x, rest)
  some_first [] x rest h = absurd (none-some _ (sym empty ∙ h))
  some_first (b ∷ bytes) x rest h =
      cond-false (b == 45) _ _ (⊎_elim (λ p. let q : None ≡ Some (x, rest) = sym (dash bytes) ∙ ap (λ (a : ℕ). c.read (a ∷ bytes)) (sym (eqb-true b 45 p)) ∙ h in absurd (none-some (x, rest) q)) (λ p. p) (cases_Bool (b == 45)))
      ∙ ap (λ (read : Read A). and_then read (λ x rest. Some (Some x, rest))) h

  some_told : (bytes : List ℕ) (read : Read A) → Tells c bytes read → Tells (optional c) bytes (and_then read (λ x rest. Some (Some x, rest)))
  some_told bytes (Some x) h = record { fits = h.fits; parts = h.parts }
  some_told bytes None h = tt

  optional_at : (b : ℕ) (bytes : List ℕ) (t : Bool) → (b == 45) ≡ t → Tells (optional c) (b ∷ bytes) (cond t (Some (None, bytes)) (and_then (c.read (b ∷ bytes)) (λ x rest. Some (Some x, rest))))
  optional_at b bytes true h = record { fits = tt; parts = ap (λ (a : ℕ). a ∷ bytes) (eqb-true b 45 h) }
  optional_at b bytes false h = some_told (b ∷ bytes) (c.read (b ∷ bytes)) (e.tells (b ∷ bytes))

  optional_tells : (bytes : List ℕ) → Tells (optional c) bytes (read_optional c bytes)
  optional_tells [] = tt
  optional_tells (b ∷ bytes) = optional_at b bytes (b == 45) refl

  optional_whole : (v : Option A) (rest : List ℕ) → (optional c).fits v → Ends end rest → read_optional c ((optional c).text v ++ rest) ≡ Some (v, rest)
  optional_whole None rest h ends = refl
  optional_whole (Some x) rest h ends = some_first (c.text x ++ rest) x rest (e.whole x rest h ends)

  pub optional_exact : Exact end (optional c)
  optional_exact = record { whole = optional_whole; tells = optional_tells }

-- ---- a name out of a table

module _ {K : Type 0} (name : K → List ℕ) (all : List K) (inside : (k : K) → AreInside (name k)) where
  named_whole : (k : K) (rest : List ℕ) → find name all (name k) ≡ Some k → Ends is_field_end rest → (named name all).read (name k ++ rest) ≡ Some (k, rest)
  named_whole k rest h ends =
      ap (λ (bs : List ℕ). with_rest (find name all bs) (from_end (name k ++ rest))) (before_is (name k) rest (inside k) ends)
      ∙ ap (λ (o : Option K). with_rest o (from_end (name k ++ rest))) h
      ∙ ap (λ (bs : List ℕ). Some (k, bs)) (from_is (name k) rest (inside k) ends)

  abbrev IsFound : List ℕ → Option K → Type 0
  IsFound bytes (Some k) = name k ≡ bytes
  IsFound bytes None = Unit {0}

  found_at : (k : K) (ks : List K) (bytes : List ℕ) (t : Bool) → bytes_eq (name k) bytes ≡ t → IsFound bytes (find name ks bytes) → IsFound bytes (cond t (Some k) (find name ks bytes))
  found_at k ks bytes true h found = (bytes_eq-Decides (name k) bytes).0 h
  found_at k ks bytes false h found = found

  found : (ks : List K) (bytes : List ℕ) → IsFound bytes (find name ks bytes)
  found [] bytes = tt
  found (k ∷ ks) bytes = found_at k ks bytes (bytes_eq (name k) bytes) refl (found ks bytes)

  named_told : (bytes : List ℕ) (o : Option K) → find name all (before_end bytes) ≡ o → IsFound (before_end bytes) o → Tells (named name all) bytes (with_rest o (from_end bytes))
  named_told bytes (Some k) same h = record { fits = ap (find name all) h ∙ same; parts = end_parts bytes ∙ ap (λ (bs : List ℕ). bs ++ from_end bytes) (sym h) }
  named_told bytes None same h = tt

  pub named_exact : Exact is_field_end (named name all)
  named_exact = record { whole = named_whole; tells = λ bytes. named_told bytes (find name all (before_end bytes)) refl (found all (before_end bytes)) }

-- ---- what is read behind a name

pub chosen_at : {K : Type 0} (name : K → List ℕ) (all : List K) (F : K → Type 0) (f : (k : K) → Code (F k)) (bytes : List ℕ) (k : K) → find name all (before_end bytes) ≡ Some k → (chosen (named name all) F f).read bytes ≡ and_then ((f k).read (from_end bytes)) (λ y rest. Some ((k, y), rest))
chosen_at {K = K} name all F f bytes k h = ap (λ (o : Option K). and_then (with_rest o (from_end bytes)) (λ x rest. and_then ((f x).read rest) (λ y rest. Some ((x, y), rest)))) h

pub chosen_none : {K : Type 0} (name : K → List ℕ) (all : List K) (F : K → Type 0) (f : (k : K) → Code (F k)) (bytes : List ℕ) → find name all (before_end bytes) ≡ None → (chosen (named name all) F f).read bytes ≡ None
chosen_none {K = K} name all F f bytes h = ap (λ (o : Option K). and_then (with_rest o (from_end bytes)) (λ x rest. and_then ((f x).read rest) (λ y rest. Some ((x, y), rest)))) h
