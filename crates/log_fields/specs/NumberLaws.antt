-- Numbers, words and byte strings are read exactly.
use Rattle.std.proofs.Common.{◌≡◌, ℕ, zero, suc, ◌^◌, ◌+◌, ◌-◌, ◌*◌, ◌/◌, ◌%◌, ◌<◌, ◌≤◌, Bool, true, false, cond, List, [], ◌∷◌, ◌++◌, length, Option, Some, None, refl, sym, ap, ◌∙◌, subst, ⊎_elim, append_assoc, arith}
use Rattle.std.specs.List.{AllByRecursion}
use Rattle.std.specs.Prelude.{◌==◌, nat_le, nat_lt, ◌&&◌}
use Rattle.std.specs.Fmt.{decimal}
use Rattle.std.proofs.lemmas.Bool.{false≢true, cond-true, cond-false, cases_Bool, cases_lt, eqb-true, eqb-false, ne_eqb, eq-eqb, and_parts, and_from, and_left, and_right, or_cases, leb-true, leb-false, le-leb, lt-leb, lt-ltb, le-ltb}
use Rattle.std.proofs.lemmas.Option.{none-some}
use Rattle.std.proofs.lemmas.Fmt.{decimal_digit, decimal_step, decimal_by_steps}
use Rattle.log_fields.specs.Codes.{Code, Read, and_then, is_field_end, is_item_end, with_rest, is_digit, read_digits, read_number, number, hex_digit, hex_value, both, pair_value, read_octet, octet_text, octet, word_text, read_word, word, hex, bytes_text, in_front, onto, read_hex, read_bytes, byte_string}
use Rattle.log_fields.specs.Exact.{Ends, IsRead, Tells, Exact}

-- ---- numbers

digit_range : (b : ℕ) → is_digit b ≡ true → (48 ≤ b) × (b ≤ 57)
digit_range b h = let p = and_parts _ _ h in (leb-true 48 b p.0, leb-true b 57 p.1)

in_range_digit : (b : ℕ) → 48 ≤ b → b ≤ 57 → is_digit b ≡ true
in_range_digit b p q = and_from _ _ (le-leb 48 b p) (le-leb b 57 q)

at : (b c : ℕ) → (b == c) ≡ true → is_digit c ≡ false → is_digit b ≡ false
at b c h e = ap is_digit (eqb-true b c h) ∙ e

pub end_no_digit : (b : ℕ) → is_item_end b ≡ true → is_digit b ≡ false
end_no_digit b h = ⊎_elim
    (λ p. ⊎_elim
    (λ q. ⊎_elim (λ r. at b 32 r refl) (λ r. at b 10 r refl) (or_cases _ _ q))
    (λ q. at b 44 q refl) (or_cases _ _ p))
    (λ p. at b 58 p refl) (or_cases _ _ h)

module _ (max : ℕ) (small : max < 2 ^ 64) where
  digits_end : (n : ℕ) (rest : List ℕ) → Ends is_item_end rest → read_digits max n rest ≡ Some (n, rest)
  unfolding read_digits
  digits_end n [] h = refl
  digits_end n (b ∷ rest) h = cond-false (is_digit b) _ _ (end_no_digit b h)

  abbrev Begun : ℕ → List ℕ → Type 0
  Begun n ds = 0 < n → n ≤ max → (bytes : List ℕ) → read_number max (ds ++ bytes) ≡ read_digits max n bytes

  begun_one : (n : ℕ) → n < 10 → Begun n ((48 + n) ∷ [])
  begun_one n p pos low bytes =
      let same : 48 + n - 48 ≡ n = omega arith in
      cond-true (is_digit (48 + n)) _ _ (in_range_digit (48 + n) (omega arith) (omega arith))
      ∙ cond-false (48 + n == 48) _ _ (ne_eqb (48 + n) 48 (λ e. omega arith))
      ∙ cond-true (nat_le (48 + n - 48) max) _ _ (le-leb (48 + n - 48) max (omega arith))
      ∙ ap (λ (m : ℕ). read_digits max m bytes) same

  step : (n d : ℕ) (bytes : List ℕ) → d < 10 → n * 10 + d ≤ max → read_digits max n ((48 + d) ∷ bytes) ≡ read_digits max (n * 10 + d) bytes
  unfolding read_digits
  step n d bytes p q =
      let same : n * 10 + (48 + d - 48) ≡ n * 10 + d = omega arith in
      cond-true (is_digit (48 + d)) _ _ (in_range_digit (48 + d) (omega arith) (omega arith))
      ∙ cond-true (nat_le (n * 10 + (48 + d - 48)) max) _ _ (le-leb (n * 10 + (48 + d - 48)) max (omega arith))
      ∙ ap (λ (m : ℕ). read_digits max m bytes) same

  begun_more : (n : ℕ) (ds : List ℕ) → 10 ≤ n → Begun (n / 10) ds → Begun n (ds ++ ((48 + n % 10) ∷ []))
  begun_more n ds p ih pos low bytes =
      let same : n / 10 * 10 + n % 10 ≡ n = omega arith in
      ap (read_number max) (append_assoc ds ((48 + n % 10) ∷ []) bytes)
      ∙ ih (omega arith) (omega arith) ((48 + n % 10) ∷ bytes)
      ∙ step (n / 10) (n % 10) bytes (omega arith) (omega arith)
      ∙ ap (λ (m : ℕ). read_digits max m bytes) same

  number_whole : (n : ℕ) (rest : List ℕ) → n ≤ max → Ends is_item_end rest → read_number max (decimal n ++ rest) ≡ Some (n, rest)
  number_whole zero rest low ends = ap (λ (ds : List ℕ). read_number max (ds ++ rest)) (decimal_digit 0 (omega arith))
  number_whole (suc n) rest low ends = decimal_by_steps Begun begun_one begun_more (suc n) (omega arith) (omega arith) low rest ∙ digits_end (suc n) rest ends

  abbrev DigitsTell : List ℕ → Read ℕ → Type 0
  DigitsTell text (Some x) = (x.0 ≤ max) × (text ≡ decimal x.0 ++ x.1)
  DigitsTell text None = Unit {0}

  longer : (n b : ℕ) (bytes : List ℕ) → 0 < n → 48 ≤ b → b ≤ 57 → n * 10 + (b - 48) ≤ max → decimal n ++ b ∷ bytes ≡ decimal (n * 10 + (b - 48)) ++ bytes
  longer n b bytes pos p q low =
      let m = n * 10 + (b - 48) in
      let front : m / 10 ≡ n = omega arith in
      let last : 48 + m % 10 ≡ b = omega arith in
      let e : decimal m ≡ decimal n ++ b ∷ [] = decimal_step m (omega arith) (omega arith) ∙ ap (λ (k : ℕ). decimal k ++ (48 + m % 10) ∷ []) front ∙ ap (λ (k : ℕ). decimal n ++ k ∷ []) last in
      sym (ap (λ (ds : List ℕ). ds ++ bytes) e ∙ append_assoc (decimal n) (b ∷ []) bytes)

  digit_tells : (n b : ℕ) (bytes : List ℕ) → 0 < n → ((m : ℕ) → 0 < m → m ≤ max → DigitsTell (decimal m ++ bytes) (read_digits max m bytes)) → 48 ≤ b → b ≤ 57 → (t : Bool) → nat_le (n * 10 + (b - 48)) max ≡ t → DigitsTell (decimal n ++ b ∷ bytes) (cond t (read_digits max (n * 10 + (b - 48)) bytes) None)
  digit_tells n b bytes pos ih p q true h =
      let low = leb-true (n * 10 + (b - 48)) max h in
      subst (λ (text : List ℕ). DigitsTell text (read_digits max (n * 10 + (b - 48)) bytes)) (sym (longer n b bytes pos p q low)) (ih (n * 10 + (b - 48)) (omega arith) low)
  digit_tells n b bytes pos ih p q false h = tt

  digits_at : (n b : ℕ) (bytes : List ℕ) → 0 < n → n ≤ max → ((m : ℕ) → 0 < m → m ≤ max → DigitsTell (decimal m ++ bytes) (read_digits max m bytes)) → (t : Bool) → is_digit b ≡ t → DigitsTell (decimal n ++ b ∷ bytes) (cond t (cond (nat_le (n * 10 + (b - 48)) max) (read_digits max (n * 10 + (b - 48)) bytes) None) (Some (n, b ∷ bytes)))
  digits_at n b bytes pos low ih true h = let r = digit_range b h in digit_tells n b bytes pos ih r.0 r.1 (nat_le (n * 10 + (b - 48)) max) refl
  digits_at n b bytes pos low ih false h = (low, refl)

  digits_tell : (bytes : List ℕ) (n : ℕ) → 0 < n → n ≤ max → DigitsTell (decimal n ++ bytes) (read_digits max n bytes)
  unfolding read_digits
  digits_tell [] n pos low = (low, refl)
  digits_tell (b ∷ bytes) n pos low = digits_at n b bytes pos low (digits_tell bytes) (is_digit b) refl

  number_told : (text : List ℕ) (read : Read ℕ) → DigitsTell text read → Tells (number max) text read
  number_told text (Some x) h = record { fits = h.0; parts = h.1 }
  number_told text None h = tt

  first_tells : (b : ℕ) (bytes : List ℕ) → 48 < b → b ≤ 57 → (t : Bool) → nat_le (b - 48) max ≡ t → Tells (number max) (b ∷ bytes) (cond t (read_digits max (b - 48) bytes) None)
  first_tells b bytes p q true h =
      let same : 48 + (b - 48) ≡ b = omega arith in
      let text : decimal (b - 48) ++ bytes ≡ b ∷ bytes = ap (λ (ds : List ℕ). ds ++ bytes) (decimal_digit (b - 48) (omega arith)) ∙ ap (λ (k : ℕ). k ∷ bytes) same in
      number_told (b ∷ bytes) _ (subst (λ (text : List ℕ). DigitsTell text (read_digits max (b - 48) bytes)) text (digits_tell bytes (b - 48) (omega arith) (leb-true (b - 48) max h)))
  first_tells b bytes p q false h = tt

  zero_tells : (b : ℕ) (bytes : List ℕ) → 48 ≤ b → b ≤ 57 → (t : Bool) → (b == 48) ≡ t → Tells (number max) (b ∷ bytes) (cond t (Some (0, bytes)) (cond (nat_le (b - 48) max) (read_digits max (b - 48) bytes) None))
  zero_tells b bytes p q true h = record { fits = omega arith; parts = ap (λ (k : ℕ). k ∷ bytes) (eqb-true b 48 h) ∙ sym (ap (λ (ds : List ℕ). ds ++ bytes) (decimal_digit 0 (omega arith))) }
  zero_tells b bytes p q false h = let ne = eqb-false b 48 h in first_tells b bytes (⊎_elim (λ r. r) (λ r. absurd (ne (omega arith))) (cases_lt 48 b)) q (nat_le (b - 48) max) refl

  number_at : (b : ℕ) (bytes : List ℕ) (t : Bool) → is_digit b ≡ t → Tells (number max) (b ∷ bytes) (cond t (cond (b == 48) (Some (0, bytes)) (cond (nat_le (b - 48) max) (read_digits max (b - 48) bytes) None)) None)
  number_at b bytes true h = let r = digit_range b h in zero_tells b bytes r.0 r.1 (b == 48) refl
  number_at b bytes false h = tt

  number_tells : (bytes : List ℕ) → Tells (number max) bytes (read_number max bytes)
  number_tells [] = tt
  number_tells (b ∷ bytes) = number_at b bytes (is_digit b) refl

  pub number_exact : Exact is_item_end (number max)
  number_exact = record { whole = number_whole; tells = number_tells }

-- ---- two digits

value_digit : (d : ℕ) → d < 16 → hex_value (hex_digit d) ≡ Some d
value_digit d h = ⊎_elim
    (λ p.
    let same : 48 + d - 48 ≡ d = omega arith in
    ap hex_value (cond-true (nat_lt d 10) (48 + d) (87 + d) (lt-ltb d 10 p))
    ∙ cond-true (nat_le 48 (48 + d) && nat_le (48 + d) 57) _ _ (and_from _ _ (le-leb 48 (48 + d) (omega arith)) (le-leb (48 + d) 57 (omega arith)))
    ∙ ap (λ (k : ℕ). Some k) same)
    (λ p.
    let same : 87 + d - 87 ≡ d = omega arith in
    ap hex_value (cond-false (nat_lt d 10) (48 + d) (87 + d) (le-ltb d 10 p))
    ∙ cond-false (nat_le 48 (87 + d) && nat_le (87 + d) 57) _ _ (and_right _ _ (lt-leb (87 + d) 57 (omega arith)))
    ∙ cond-true (nat_le 97 (87 + d) && nat_le (87 + d) 102) _ _ (and_from _ _ (le-leb 97 (87 + d) (omega arith)) (le-leb (87 + d) 102 (omega arith)))
    ∙ ap (λ (k : ℕ). Some k) same)
    (cases_lt d 10)

abbrev pub IsDigitOf : ℕ → Option ℕ → Type 0
IsDigitOf a (Some d) = (d < 16) × (hex_digit d ≡ a)
IsDigitOf a None = Unit {0}

letter_value : (a : ℕ) (t : Bool) → nat_le 97 a && nat_le a 102 ≡ t → IsDigitOf a (cond t (Some (a - 87)) None)
letter_value a true h =
    let p = and_parts _ _ h in
    let low : 97 ≤ a = leb-true 97 a p.0 in
    let high : a ≤ 102 = leb-true a 102 p.1 in
    let same : 87 + (a - 87) ≡ a = omega arith in
    (omega arith, cond-false (nat_lt (a - 87) 10) (48 + (a - 87)) (87 + (a - 87)) (le-ltb (a - 87) 10 (omega arith)) ∙ same)
letter_value a false h = tt

digit_value_at : (a : ℕ) (t : Bool) → nat_le 48 a && nat_le a 57 ≡ t → IsDigitOf a (cond t (Some (a - 48)) (cond (nat_le 97 a && nat_le a 102) (Some (a - 87)) None))
digit_value_at a true h =
    let p = and_parts _ _ h in
    let low : 48 ≤ a = leb-true 48 a p.0 in
    let high : a ≤ 57 = leb-true a 57 p.1 in
    let same : 48 + (a - 48) ≡ a = omega arith in
    (omega arith, cond-true (nat_lt (a - 48) 10) (48 + (a - 48)) (87 + (a - 48)) (lt-ltb (a - 48) 10 (omega arith)) ∙ same)
digit_value_at a false h = letter_value a (nat_le 97 a && nat_le a 102) refl

digit_value : (a : ℕ) → IsDigitOf a (hex_value a)
digit_value a = digit_value_at a (nat_le 48 a && nat_le a 57) refl

-- the four bytes that end an item
at_end : (P : ℕ → Type 0) → P 32 → P 10 → P 44 → P 58 → (b : ℕ) → is_item_end b ≡ true → P b
at_end P x y z w b h = ⊎_elim
    (λ p. ⊎_elim
    (λ q. ⊎_elim (λ r. subst P (sym (eqb-true b 32 r)) x) (λ r. subst P (sym (eqb-true b 10 r)) y) (or_cases _ _ q))
    (λ q. subst P (sym (eqb-true b 44 q)) z) (or_cases _ _ p))
    (λ p. subst P (sym (eqb-true b 58 p)) w) (or_cases _ _ h)

end_no_value : (b : ℕ) → is_item_end b ≡ true → hex_value b ≡ None
end_no_value = at_end (λ b. hex_value b ≡ None) refl refl refl refl

no_end : (d : ℕ) → d < 16 → is_item_end (hex_digit d) ≡ false
no_end d h = ⊎_elim (λ p. absurd (none-some d (sym (end_no_value (hex_digit d) p) ∙ value_digit d h))) (λ p. p) (cases_Bool (is_item_end (hex_digit d)))

-- ---- two digits

pair_is : (b : ℕ) → b < 2 ^ 8 → pair_value (hex_digit (b / 16)) (hex_digit (b % 16)) ≡ Some b
unfolding pair_value
pair_is b h =
    let same : b / 16 * 16 + b % 16 ≡ b = omega arith in
    ap (λ (o : Option ℕ). both o (hex_value (hex_digit (b % 16)))) (value_digit (b / 16) (omega arith))
    ∙ ap (both (Some (b / 16))) (value_digit (b % 16) (omega arith))
    ∙ ap (λ (k : ℕ). Some k) same

abbrev pub IsPair : ℕ → ℕ → Option ℕ → Type 0
IsPair a b (Some x) = (x < 2 ^ 8) × (octet_text x ≡ a ∷ b ∷ [])
IsPair a b None = Unit {0}

pair_both : (a b : ℕ) (x y : Option ℕ) → IsDigitOf a x → IsDigitOf b y → IsPair a b (both x y)
unfolding octet_text
pair_both a b (Some x) (Some y) h k =
    let low = h.0 in
    let low2 = k.0 in
    let high : (x * 16 + y) / 16 ≡ x = omega arith in
    let last : (x * 16 + y) % 16 ≡ y = omega arith in
    (omega arith, ap (λ (d : ℕ). hex_digit d ∷ hex_digit ((x * 16 + y) % 16) ∷ []) high ∙ ap (λ (d : ℕ). hex_digit x ∷ hex_digit d ∷ []) last ∙ ap (λ (c : ℕ). c ∷ hex_digit y ∷ []) h.1 ∙ ap (λ (c : ℕ). a ∷ c ∷ []) k.1)
pair_both a b (Some x) None h k = tt
pair_both a b None y h k = tt

pair_tells : (a b : ℕ) → IsPair a b (pair_value a b)
unfolding pair_value
pair_tells a b = pair_both a b (hex_value a) (hex_value b) (digit_value a) (digit_value b)

octet_at : (a b : ℕ) (bytes : List ℕ) (o : Option ℕ) → IsPair a b o → Tells octet (a ∷ b ∷ bytes) (with_rest o bytes)
octet_at a b bytes (Some x) h = record { fits = h.0; parts = sym (ap (λ (ds : List ℕ). ds ++ bytes) h.1) }
octet_at a b bytes None h = tt

octet_tells : (bytes : List ℕ) → Tells octet bytes (read_octet bytes)
octet_tells [] = tt
octet_tells (a ∷ []) = tt
octet_tells (a ∷ b ∷ bytes) = octet_at a b bytes (pair_value a b) (pair_tells a b)

octet_whole : (b : ℕ) (rest : List ℕ) → b < 2 ^ 8 → read_octet (octet_text b ++ rest) ≡ Some (b, rest)
unfolding octet_text
octet_whole b rest h = ap (λ (o : Option ℕ). with_rest o rest) (pair_is b h)

pub octet_exact : Exact is_item_end octet
octet_exact = record { whole = λ b rest h ends. octet_whole b rest h; tells = octet_tells }

-- ---- a word

word_whole : (n : ℕ) (rest : List ℕ) → n < 2 ^ 32 → read_word (word_text n ++ rest) ≡ Some (n, rest)
unfolding read_word word_text
word_whole n rest h =
    let a = n / 2 ^ 24 in
    let b = n / 2 ^ 16 % 2 ^ 8 in
    let c = n / 2 ^ 8 % 2 ^ 8 in
    let d = n % 2 ^ 8 in
    let sum : a * 2 ^ 24 + b * 2 ^ 16 + c * 2 ^ 8 + d ≡ n = omega arith in
    let text : (((octet_text a ++ octet_text b) ++ octet_text c) ++ octet_text d) ++ rest ≡ octet_text a ++ (octet_text b ++ (octet_text c ++ (octet_text d ++ rest))) = simp append_assoc in
    ap read_word text
    ∙ ap (λ (r : Read ℕ). and_then r (λ a rest. and_then (read_octet rest) (λ b rest. and_then (read_octet rest) (λ c rest. and_then (read_octet rest) (λ d rest. Some (a * 2 ^ 24 + b * 2 ^ 16 + c * 2 ^ 8 + d, rest)))))) (octet_whole a _ (omega arith))
    ∙ ap (λ (r : Read ℕ). and_then r (λ b rest. and_then (read_octet rest) (λ c rest. and_then (read_octet rest) (λ d rest. Some (a * 2 ^ 24 + b * 2 ^ 16 + c * 2 ^ 8 + d, rest))))) (octet_whole b _ (omega arith))
    ∙ ap (λ (r : Read ℕ). and_then r (λ c rest. and_then (read_octet rest) (λ d rest. Some (a * 2 ^ 24 + b * 2 ^ 16 + c * 2 ^ 8 + d, rest)))) (octet_whole c _ (omega arith))
    ∙ ap (λ (r : Read ℕ). and_then r (λ d rest. Some (a * 2 ^ 24 + b * 2 ^ 16 + c * 2 ^ 8 + d, rest))) (octet_whole d _ (omega arith))
    ∙ ap (λ (k : ℕ). Some (k, rest)) sum

four_text : (a b c d : ℕ) → a < 2 ^ 8 → b < 2 ^ 8 → c < 2 ^ 8 → d < 2 ^ 8 → word_text (a * 2 ^ 24 + b * 2 ^ 16 + c * 2 ^ 8 + d) ≡ octet_text a ++ octet_text b ++ octet_text c ++ octet_text d
unfolding word_text
four_text a b c d p q r s =
    let n = a * 2 ^ 24 + b * 2 ^ 16 + c * 2 ^ 8 + d in
    let e : n / 2 ^ 24 ≡ a = omega arith in
    let f : n / 2 ^ 16 % 2 ^ 8 ≡ b = omega arith in
    let g : n / 2 ^ 8 % 2 ^ 8 ≡ c = omega arith in
    let h : n % 2 ^ 8 ≡ d = omega arith in
    rw (e, f, g, h) refl

word_d : (bytes rest : List ℕ) (a b c : ℕ) → a < 2 ^ 8 → b < 2 ^ 8 → c < 2 ^ 8 → bytes ≡ octet_text a ++ (octet_text b ++ (octet_text c ++ rest)) → (r : Read ℕ) → Tells octet rest r → Tells word bytes (and_then r (λ d rest. Some (a * 2 ^ 24 + b * 2 ^ 16 + c * 2 ^ 8 + d, rest)))
word_d bytes rest a b c p q r e (Some x) t =
    let s : x.0 < 2 ^ 8 = t.fits in
    let text : octet_text a ++ (octet_text b ++ (octet_text c ++ (octet_text x.0 ++ x.1))) ≡ (((octet_text a ++ octet_text b) ++ octet_text c) ++ octet_text x.0) ++ x.1 = simp append_assoc in
    record {
      fits = omega arith;
      parts = e ∙ ap (λ (bs : List ℕ). octet_text a ++ (octet_text b ++ (octet_text c ++ bs))) t.parts ∙ text ∙ sym (ap (λ (bs : List ℕ). bs ++ x.1) (four_text a b c x.0 p q r s));
    }
word_d bytes rest a b c p q r e None t = tt

word_c : (bytes rest : List ℕ) (a b : ℕ) → a < 2 ^ 8 → b < 2 ^ 8 → bytes ≡ octet_text a ++ (octet_text b ++ rest) → (r : Read ℕ) → Tells octet rest r → Tells word bytes (and_then r (λ c rest. and_then (read_octet rest) (λ d rest. Some (a * 2 ^ 24 + b * 2 ^ 16 + c * 2 ^ 8 + d, rest))))
word_c bytes rest a b p q e (Some x) t = word_d bytes x.1 a b x.0 p q t.fits (e ∙ ap (λ (bs : List ℕ). octet_text a ++ (octet_text b ++ bs)) t.parts) _ (octet_tells x.1)
word_c bytes rest a b p q e None t = tt

word_b : (bytes rest : List ℕ) (a : ℕ) → a < 2 ^ 8 → bytes ≡ octet_text a ++ rest → (r : Read ℕ) → Tells octet rest r → Tells word bytes (and_then r (λ b rest. and_then (read_octet rest) (λ c rest. and_then (read_octet rest) (λ d rest. Some (a * 2 ^ 24 + b * 2 ^ 16 + c * 2 ^ 8 + d, rest)))))
word_b bytes rest a p e (Some x) t = word_c bytes x.1 a x.0 p t.fits (e ∙ ap (λ (bs : List ℕ). octet_text a ++ bs) t.parts) _ (octet_tells x.1)
word_b bytes rest a p e None t = tt

word_a : (bytes : List ℕ) (r : Read ℕ) → Tells octet bytes r → Tells word bytes (and_then r (λ a rest. and_then (read_octet rest) (λ b rest. and_then (read_octet rest) (λ c rest. and_then (read_octet rest) (λ d rest. Some (a * 2 ^ 24 + b * 2 ^ 16 + c * 2 ^ 8 + d, rest))))))
word_a bytes (Some x) t = word_b bytes x.1 x.0 t.fits t.parts _ (octet_tells x.1)
word_a bytes None t = tt

word_tells : (bytes : List ℕ) → Tells word bytes (read_word bytes)
unfolding read_word
word_tells bytes = word_a bytes (read_octet bytes) (octet_tells bytes)

pub word_exact : Exact is_item_end word
word_exact = record { whole = λ n rest h ends. word_whole n rest h; tells = word_tells }

-- ---- byte strings

abbrev AreOctets : List ℕ → Type 0
AreOctets bytes = AllByRecursion (λ b. b < 2 ^ 8) bytes

hex_end : (rest : List ℕ) → Ends is_item_end rest → read_hex rest ≡ Some ([], rest)
unfolding read_hex
hex_end [] h = refl
hex_end (a ∷ []) h = cond-true (is_item_end a) (Some ([], a ∷ [])) None h
hex_end (a ∷ b ∷ rest) h = cond-true (is_item_end a) (Some ([], a ∷ b ∷ rest)) _ h

hex_step : (b : ℕ) (bytes : List ℕ) → b < 2 ^ 8 → read_hex (octet_text b ++ bytes) ≡ in_front b (read_hex bytes)
unfolding read_hex octet_text
hex_step b bytes h = cond-false (is_item_end (hex_digit (b / 16))) _ _ (no_end (b / 16) (omega arith)) ∙ ap (λ (o : Option ℕ). onto o (read_hex bytes)) (pair_is b h)

hex_whole : (bytes rest : List ℕ) → AreOctets bytes → Ends is_item_end rest → read_hex (hex bytes ++ rest) ≡ Some (bytes, rest)
hex_whole [] rest h ends = hex_end rest ends
hex_whole (b ∷ bytes) rest h ends = ap read_hex (append_assoc (octet_text b) (hex bytes) rest) ∙ hex_step b (hex bytes ++ rest) h.0 ∙ ap (in_front b) (hex_whole bytes rest h.1 ends)

record IsHex (text bytes rest : List ℕ) : Type 0 where
  fits : AreOctets bytes
  parts : text ≡ hex bytes ++ rest

abbrev HexTells : List ℕ → Read (List ℕ) → Type 0
HexTells text (Some x) = IsHex text x.0 x.1
HexTells text None = Unit {0}

hex_front : (a b x : ℕ) (bytes : List ℕ) → (x < 2 ^ 8) × (octet_text x ≡ a ∷ b ∷ []) → (r : Read (List ℕ)) → HexTells bytes r → HexTells (a ∷ b ∷ bytes) (in_front x r)
hex_front a b x bytes h (Some y) t = record { fits = (h.0, t.fits); parts = ap (λ (bs : List ℕ). a ∷ b ∷ bs) t.parts ∙ sym (ap (λ (ds : List ℕ). ds ++ (hex y.0 ++ y.1)) h.1) ∙ sym (append_assoc (octet_text x) (hex y.0) y.1) }
hex_front a b x bytes h None t = tt

hex_onto : (a b : ℕ) (bytes : List ℕ) (o : Option ℕ) → IsPair a b o → (r : Read (List ℕ)) → HexTells bytes r → HexTells (a ∷ b ∷ bytes) (onto o r)
hex_onto a b bytes (Some x) h r t = hex_front a b x bytes h r t
hex_onto a b bytes None h r t = tt

hex_two : (a b : ℕ) (bytes : List ℕ) (t : Bool) → HexTells bytes (read_hex bytes) → HexTells (a ∷ b ∷ bytes) (cond t (Some ([], a ∷ b ∷ bytes)) (onto (pair_value a b) (read_hex bytes)))
hex_two a b bytes true h = record { fits = tt; parts = refl }
hex_two a b bytes false h = hex_onto a b bytes (pair_value a b) (pair_tells a b) (read_hex bytes) h

hex_one : (a : ℕ) (t : Bool) → HexTells (a ∷ []) (cond t (Some ([], a ∷ [])) None)
hex_one a true = record { fits = tt; parts = refl }
hex_one a false = tt

hex_tells : (bytes : List ℕ) → HexTells bytes (read_hex bytes)
unfolding read_hex
hex_tells [] = record { fits = tt; parts = refl }
hex_tells (a ∷ []) = hex_one a (is_item_end a)
hex_tells (a ∷ b ∷ bytes) = hex_two a b bytes (is_item_end a) (hex_tells bytes)

not_dash : (d : ℕ) → d < 16 → (hex_digit d == 45) ≡ false
not_dash d h = ⊎_elim (λ p. absurd (none-some d (sym (ap hex_value (eqb-true (hex_digit d) 45 p)) ∙ value_digit d h))) (λ p. p) (cases_Bool (hex_digit d == 45))

bytes_first : (b : ℕ) (more : List ℕ) → b < 2 ^ 8 → read_bytes (octet_text b ++ more) ≡ read_hex (octet_text b ++ more)
unfolding octet_text
bytes_first b more h = cond-false (hex_digit (b / 16) == 45) _ _ (not_dash (b / 16) (omega arith)) ∙ cond-false (is_item_end (hex_digit (b / 16))) None _ (no_end (b / 16) (omega arith))

bytes_whole : (bytes rest : List ℕ) → AreOctets bytes → Ends is_item_end rest → read_bytes (bytes_text bytes ++ rest) ≡ Some (bytes, rest)
bytes_whole [] rest h ends = refl
bytes_whole (b ∷ bytes) rest h ends = ap read_bytes (append_assoc (octet_text b) (hex bytes) rest) ∙ bytes_first b (hex bytes ++ rest) h.0 ∙ ap read_hex (sym (append_assoc (octet_text b) (hex bytes) rest)) ∙ hex_whole (b ∷ bytes) rest h ends

bytes_front : (a b x : ℕ) (bytes : List ℕ) → (x < 2 ^ 8) × (octet_text x ≡ a ∷ b ∷ []) → (r : Read (List ℕ)) → HexTells bytes r → Tells byte_string (a ∷ b ∷ bytes) (in_front x r)
bytes_front a b x bytes h (Some y) t = let p = hex_front a b x bytes h (Some y) t in record { fits = p.fits; parts = p.parts }
bytes_front a b x bytes h None t = tt

bytes_onto : (a b : ℕ) (bytes : List ℕ) (o : Option ℕ) → IsPair a b o → (r : Read (List ℕ)) → HexTells bytes r → Tells byte_string (a ∷ b ∷ bytes) (onto o r)
bytes_onto a b bytes (Some x) h r t = bytes_front a b x bytes h r t
bytes_onto a b bytes None h r t = tt

-- what does not begin with an end has a byte
some_hex : (b : ℕ) (bytes : List ℕ) → is_item_end b ≡ false → Tells byte_string (b ∷ bytes) (read_hex (b ∷ bytes))
unfolding read_hex
some_hex b [] h = subst (Tells byte_string (b ∷ [])) (sym (cond-false (is_item_end b) (Some ([], b ∷ [])) None h)) tt
some_hex a (b ∷ bytes) h = subst (Tells byte_string (a ∷ b ∷ bytes)) (sym (cond-false (is_item_end a) (Some ([], a ∷ b ∷ bytes)) (onto (pair_value a b) (read_hex bytes)) h)) (bytes_onto a b bytes (pair_value a b) (pair_tells a b) (read_hex bytes) (hex_tells bytes))

bytes_some : (b : ℕ) (bytes : List ℕ) (t : Bool) → is_item_end b ≡ t → Tells byte_string (b ∷ bytes) (cond t None (read_hex (b ∷ bytes)))
bytes_some b bytes true h = tt
bytes_some b bytes false h = some_hex b bytes h

bytes_at : (b : ℕ) (bytes : List ℕ) (t : Bool) → (b == 45) ≡ t → Tells byte_string (b ∷ bytes) (cond t (Some ([], bytes)) (cond (is_item_end b) None (read_hex (b ∷ bytes))))
bytes_at b bytes true h = record { fits = tt; parts = ap (λ (a : ℕ). a ∷ bytes) (eqb-true b 45 h) }
bytes_at b bytes false h = bytes_some b bytes (is_item_end b) refl

bytes_tells : (bytes : List ℕ) → Tells byte_string bytes (read_bytes bytes)
bytes_tells [] = tt
bytes_tells (b ∷ bytes) = bytes_at b bytes (b == 45) refl

pub bytes_exact : Exact is_item_end byte_string
bytes_exact = record { whole = bytes_whole; tells = bytes_tells }
