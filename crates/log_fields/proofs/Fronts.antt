-- What a list that grows has in front of what is still to be read.
use Rattle.std.proofs.Common.{◌≡◌, ℕ, zero, suc, ◌+◌, ◌<◌, Bool, true, false, cond, List, [], ◌∷◌, ◌++◌, length, get_or, take, drop, map, Option, Some, None, refl, sym, ap, ◌∙◌, append_assoc, arith}
use Rattle.std.specs.Prelude.{◌==◌}
use Rattle.std.proofs.lemmas.Option.{none-some, same_Some}
use Rattle.std.proofs.lemmas.Bool.{cond-true, cond-false}
use Rattle.log_fields.specs.Codes.{Code, Read, and_then, with_front, in_front, past, read_past, read_more, is_field_end, before_end, from_end}

pub front_more : {A : Type 0} (xs : List A) (x : A) (r : Read (List A)) → with_front (xs ++ x ∷ []) r ≡ with_front xs (in_front x r)
front_more {A = A} xs x (Some r) = ap (λ (ys : List A). Some (ys, r.1)) (append_assoc xs (x ∷ []) r.0)
front_more xs x None = refl

cond_after : {X : Type 0} (t : Bool) (bytes after : List ℕ) (f : List ℕ → X) (x : X) → cond t (Some bytes) None ≡ Some after → cond t (f bytes) x ≡ f after
cond_after true bytes after f x h = ap f (same_Some bytes after h)
cond_after false bytes after f x h = absurd (none-some after h)

-- behind a comma
more_past : {A : Type 0} (c : Code A) (m : ℕ) (rest after : List ℕ) → past 44 rest ≡ Some after → read_more c (suc m) rest ≡ and_then (c.read after) (λ x rest. in_front x (read_more c m rest))
unfolding read_more
more_past c m [] after h = absurd (none-some after h)
more_past c m (b ∷ rest) after h = cond_after (b == 44) rest after (λ bytes. and_then (c.read bytes) (λ x rest. in_front x (read_more c m rest))) (Some ([], b ∷ rest)) h

pub more_step : {A : Type 0} (c : Code A) (n m : ℕ) (xs : List A) (rest after next : List ℕ) (x : A) → n ≡ suc m → past 44 rest ≡ Some after → c.read after ≡ Some (x, next) → with_front (xs ++ x ∷ []) (read_more c m next) ≡ with_front xs (read_more c n rest)
more_step {A = A} c n m xs rest after next x e h r =
    front_more xs x (read_more c m next)
    ∙ sym (ap (λ (k : ℕ). with_front xs (read_more c k rest)) e
    ∙ ap (with_front xs) (more_past c m rest after h)
    ∙ ap (λ (read : Read A). with_front xs (and_then read (λ x rest. in_front x (read_more c m rest)))) r)

pub more_none : {A : Type 0} (c : Code A) (n m : ℕ) (xs : List A) (rest after : List ℕ) → n ≡ suc m → past 44 rest ≡ Some after → c.read after ≡ None → with_front xs (read_more c n rest) ≡ None
more_none {A = A} c n m xs rest after e h r =
    ap (λ (k : ℕ). with_front xs (read_more c k rest)) e
    ∙ ap (with_front xs) (more_past c m rest after h)
    ∙ ap (λ (read : Read A). with_front xs (and_then read (λ x rest. in_front x (read_more c m rest)))) r

-- ---- a name

pub name_at : (bytes : List ℕ) (n : ℕ) → ((k : ℕ) → k < n → is_field_end (get_or bytes k 0) ≡ false) → n < length bytes → is_field_end (get_or bytes n 0) ≡ true → (take n bytes ≡ before_end bytes) × (drop n bytes ≡ from_end bytes)
name_at [] n h p e = absurd (omega arith)
name_at (b ∷ bytes) zero h p e = (sym (cond-true (is_field_end b) [] (b ∷ before_end bytes) e), sym (cond-true (is_field_end b) (b ∷ bytes) (from_end bytes) e))
name_at (b ∷ bytes) (suc n) h p e =
    let i = name_at bytes n (λ k q. h (suc k) (omega arith)) (omega arith) e in
    let f : is_field_end b ≡ false = h 0 (omega arith) in
    (ap (λ (xs : List ℕ). b ∷ xs) i.0 ∙ sym (cond-false (is_field_end b) [] (b ∷ before_end bytes) f), i.1 ∙ sym (cond-false (is_field_end b) (b ∷ bytes) (from_end bytes) f))

pub name_all : (bytes : List ℕ) → ((k : ℕ) → k < length bytes → is_field_end (get_or bytes k 0) ≡ false) → (bytes ≡ before_end bytes) × ([] ≡ from_end bytes)
name_all [] h = (refl, refl)
name_all (b ∷ bytes) h =
    let i = name_all bytes (λ k q. h (suc k) (omega arith)) in
    let f : is_field_end b ≡ false = h 0 (omega arith) in
    (ap (λ (xs : List ℕ). b ∷ xs) i.0 ∙ sym (cond-false (is_field_end b) [] (b ∷ before_end bytes) f), i.1 ∙ sym (cond-false (is_field_end b) (b ∷ bytes) (from_end bytes) f))

pub map_last : {A B : Type 0} (f : A → B) (xs : List A) (x : A) → map f (xs ++ x ∷ []) ≡ map f xs ++ f x ∷ []
map_last f [] x = refl
map_last {B = B} f (y ∷ xs) x = ap (λ (ys : List B). f y ∷ ys) (map_last f xs x)
