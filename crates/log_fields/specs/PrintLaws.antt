-- Each way to make a code writes no control code where its parts write none.
use Rattle.std.proofs.Common.{◌≡◌, ℕ, zero, suc, ◌^◌, ◌+◌, ◌/◌, ◌%◌, ◌<◌, ◌≤◌, Bool, true, false, cond, List, [], ◌∷◌, ◌++◌, Option, Some, None, subst, sym, arith}
use Rattle.std.specs.Prelude.{nat_lt}
use Rattle.std.specs.Fmt.{decimal}
use Rattle.std.proofs.lemmas.Fmt.{decimal_digit, decimal_by_steps}
use Rattle.log_fields.specs.Codes.{Code, number, hex_digit, octet_text, octet, word_text, word, hex, bytes_text, byte_string, named, such, behind, none, chosen, ◌▹◌, optional, more_text, list_text, listed}
use Rattle.std.specs.List.{AllByRecursion}
use Rattle.log_fields.specs.Exact.{ArePrinted, Prints}

pub printed-append : (xs ys : List ℕ) → ArePrinted xs → ArePrinted ys → ArePrinted (xs ++ ys)
printed-append [] ys p q = q
printed-append (x ∷ xs) ys p q = (p.0, printed-append xs ys p.1 q)

-- ---- numbers, words and byte strings

abbrev DecimalPrinted : ℕ → List ℕ → Type 0
DecimalPrinted n ds = ArePrinted ds

decimal_one : (n : ℕ) → n < 10 → DecimalPrinted n ((48 + n) ∷ [])
decimal_one n h = (omega arith, tt)

decimal_more : (n : ℕ) (ds : List ℕ) → 10 ≤ n → DecimalPrinted (n / 10) ds → DecimalPrinted n (ds ++ ((48 + n % 10) ∷ []))
decimal_more n ds h p = printed-append ds ((48 + n % 10) ∷ []) p (omega arith, tt)

pub number_prints : (max : ℕ) → max < 2 ^ 64 → Prints (number max)
number_prints max small = record { printed = λ n fits. decimal_by_steps DecimalPrinted decimal_one decimal_more n (omega arith) }

digit_at : (d : ℕ) (t : Bool) → 32 ≤ cond t (48 + d) (87 + d)
digit_at d true = omega arith
digit_at d false = omega arith

digit_printed : (d : ℕ) → 32 ≤ hex_digit d
digit_printed d = digit_at d (nat_lt d 10)

octet_printed : (b : ℕ) → ArePrinted (octet_text b)
unfolding octet_text
octet_printed b = (digit_printed (b / 16), (digit_printed (b % 16), tt))

pub octet_prints : Prints octet
octet_prints = record { printed = λ b fits. octet_printed b }

pub word_prints : Prints word
unfolding word_text
word_prints = record { printed = λ n fits. printed-append _ _ (printed-append _ _ (printed-append _ _ (octet_printed _) (octet_printed _)) (octet_printed _)) (octet_printed _) }

hex_printed : (bytes : List ℕ) → ArePrinted (hex bytes)
hex_printed [] = tt
hex_printed (b ∷ bytes) = printed-append (octet_text b) (hex bytes) (octet_printed b) (hex_printed bytes)

bytes_printed : (bytes : List ℕ) → ArePrinted (bytes_text bytes)
bytes_printed [] = (omega arith, tt)
bytes_printed (b ∷ bytes) = printed-append (octet_text b) (hex bytes) (octet_printed b) (hex_printed bytes)

pub bytes_prints : Prints byte_string
bytes_prints = record { printed = λ bytes fits. bytes_printed bytes }

-- ---- codes of codes

pub such_prints : {A : Type 0} (ok : A → Bool) (c : Code A) → Prints c → Prints (such ok c)
such_prints ok c p = record { printed = λ v fits. p.printed v fits.0 }

pub behind_prints : {A : Type 0} (b : ℕ) (c : Code A) → 32 ≤ b → Prints c → Prints (behind b c)
behind_prints b c above p = record { printed = λ v fits. (above, p.printed v fits) }

pub none_prints : Prints none
none_prints = record { printed = λ v fits. tt }

pub pair_prints : {A B : Type 0} (c : Code A) (d : Code B) → Prints c → Prints d → Prints (c ▹ d)
pair_prints c d p q = record { printed = λ v fits. printed-append (c.text v.0) (32 ∷ d.text v.1) (p.printed v.0 fits.0) (omega arith, q.printed v.1 fits.1) }

pub chosen_prints : {A : Type 0} (c : Code A) (F : A → Type 0) (f : (x : A) → Code (F x)) → Prints c → ((x : A) → Prints (f x)) → Prints (chosen c F f)
chosen_prints c F f p q = record { printed = λ v fits. printed-append (c.text v.0) ((f v.0).text v.1) (p.printed v.0 fits.0) ((q v.0).printed v.1 fits.1) }

optional_printed : {A : Type 0} (c : Code A) → Prints c → (v : Option A) → (optional c).fits v → ArePrinted ((optional c).text v)
optional_printed c p None fits = (omega arith, tt)
optional_printed c p (Some x) fits = p.printed x fits

pub optional_prints : {A : Type 0} (c : Code A) → Prints c → Prints (optional c)
optional_prints c p = record { printed = optional_printed c p }

more_printed : {A : Type 0} (c : Code A) → Prints c → (xs : List A) → AllByRecursion c.fits xs → ArePrinted (more_text c xs)
more_printed c p [] fits = tt
more_printed c p (x ∷ xs) fits = (omega arith, printed-append (c.text x) (more_text c xs) (p.printed x fits.0) (more_printed c p xs fits.1))

list_printed : {A : Type 0} (c : Code A) → Prints c → (xs : List A) → AllByRecursion c.fits xs → ArePrinted (list_text c xs)
list_printed c p [] fits = (omega arith, tt)
list_printed c p (x ∷ xs) fits = printed-append (c.text x) (more_text c xs) (p.printed x fits.0) (more_printed c p xs fits.1)

pub listed_prints : {A : Type 0} (c : Code A) → Prints c → Prints (listed c)
listed_prints c p = record { printed = list_printed c p }

pub named_prints : {K : Type 0} (name : K → List ℕ) (all : List K) → ((k : K) → ArePrinted (name k)) → Prints (named name all)
named_prints name all p = record { printed = λ k fits. p k }
