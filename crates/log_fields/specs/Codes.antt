-- Codes: how a value is written, and how it is read from the front of bytes. The project's own.
use Rattle.std.specs.Prelude.{ℕ, zero, suc, ◌≡◌, ◌+◌, ◌-◌, ◌*◌, ◌/◌, ◌%◌, ◌^◌, ◌<◌, ◌≤◌, ◌&&◌, ◌||◌, nat_lt, nat_le, ◌==◌, Bool, true, false, List, [], ◌∷◌, ◌++◌, length, Option, Some, None, is_none, Ok, Err, Result, if◌then◌else◌, codes}
use Rattle.std.specs.List.{AllByRecursion}
use Rattle.std.specs.Fmt.{decimal}
use Rattle.std.specs.Str.{bytes_eq}
use Rattle.log_fields.specs.declared.line_refusal.LineRefusal.{LineRefusal}
use Rattle.log_fields.specs.declared.line_refusal.LineRefusal.TheVariants as line_refusals

-- what is read: a value and the bytes behind it
abbrev pub Read : Type 0 → Type 0
Read A = Option (A × List ℕ)

abbrev pub and_then : {A B : Type 0} → Read A → (A → List ℕ → Read B) → Read B
and_then (Some x) f = f x.0 x.1
and_then None f = None

-- Which values are written, as what, and how they are read again.
pub record Code (A : Type 0) : Type 1 where
  pub fits : A → Type 0
  pub text : A → List ℕ
  pub read : List ℕ → Read A

-- What a function returned, seen by view, is what is read, unless memory ran out.
abbrev pub Fails : {Y : Type 0} → LineRefusal → Read Y → Type 0
Fails line_refusals.Memory read = Unit {0}
Fails line_refusals.NoEntry read = read ≡ None

abbrev pub Gives : {X Y : Type 0} → (X → Y × List ℕ) → Result X LineRefusal → Read Y → Type 0
Gives view (Ok x) read = read ≡ Some (view x)
Gives view (Err e) read = Fails e read

-- ---- what ends a field, and what ends an item of a list

-- a blank or LF
abbrev pub is_field_end : ℕ → Bool
is_field_end b = (b == 32) || (b == 10)

-- these, a comma or a colon
abbrev pub is_item_end : ℕ → Bool
is_item_end b = is_field_end b || (b == 44) || (b == 58)

-- ---- decimal numbers, without leading zeros

abbrev pub is_digit : ℕ → Bool
is_digit b = nat_le 48 b && nat_le b 57

unfoldable pub read_digits : ℕ → ℕ → List ℕ → Read ℕ
read_digits max n [] = Some (n, [])
read_digits max n (b ∷ bytes) =
    if is_digit b then (if nat_le (n * 10 + (b - 48)) max then read_digits max (n * 10 + (b - 48)) bytes else None)
    else Some (n, b ∷ bytes)

abbrev pub read_number : ℕ → List ℕ → Read ℕ
read_number max [] = None
read_number max (b ∷ bytes) =
    if is_digit b then (if b == 48 then Some (0, bytes) else (if nat_le (b - 48) max then read_digits max (b - 48) bytes else None))
    else None

abbrev pub number : ℕ → Code ℕ
number max = record { fits = λ n. n ≤ max; text = decimal; read = read_number max }

-- ---- hexadecimal digits, in lower case

abbrev pub hex_digit : ℕ → ℕ
hex_digit d = if nat_lt d 10 then 48 + d else 87 + d

abbrev pub hex_value : ℕ → Option ℕ
hex_value b = if nat_le 48 b && nat_le b 57 then Some (b - 48) else (if nat_le 97 b && nat_le b 102 then Some (b - 87) else None)

abbrev pub both : Option ℕ → Option ℕ → Option ℕ
both (Some a) (Some b) = Some (a * 16 + b)
both (Some a) None = None
both None b = None

-- the value of two digits
unfoldable pub pair_value : ℕ → ℕ → Option ℕ
pair_value a b = both (hex_value a) (hex_value b)

abbrev pub with_rest : {A : Type 0} → Option A → List ℕ → Read A
with_rest (Some x) bytes = Some (x, bytes)
with_rest None bytes = None

abbrev pub read_octet : List ℕ → Read ℕ
read_octet [] = None
read_octet (a ∷ []) = None
read_octet (a ∷ b ∷ bytes) = with_rest (pair_value a b) bytes

unfoldable pub octet_text : ℕ → List ℕ
octet_text b = hex_digit (b / 16) ∷ hex_digit (b % 16) ∷ []

-- a byte: two digits
abbrev pub octet : Code ℕ
octet = record { fits = λ b. b < 2 ^ 8; text = octet_text; read = read_octet }

-- a word: eight digits
unfoldable pub word_text : ℕ → List ℕ
word_text n = octet_text (n / 2 ^ 24) ++ octet_text (n / 2 ^ 16 % 2 ^ 8) ++ octet_text (n / 2 ^ 8 % 2 ^ 8) ++ octet_text (n % 2 ^ 8)

unfoldable pub read_word : List ℕ → Read ℕ
read_word bytes =
    and_then (read_octet bytes) (λ a rest. and_then (read_octet rest) (λ b rest. and_then (read_octet rest) (λ c rest. and_then (read_octet rest) (λ d rest.
    Some (a * 2 ^ 24 + b * 2 ^ 16 + c * 2 ^ 8 + d, rest)))))

abbrev pub word : Code ℕ
word = record { fits = λ n. n < 2 ^ 32; text = word_text; read = read_word }

-- ---- byte strings: `-` for none, else two digits a byte

abbrev pub hex : List ℕ → List ℕ
hex [] = []
hex (b ∷ bytes) = octet_text b ++ hex bytes

abbrev pub bytes_text : List ℕ → List ℕ
bytes_text [] = codes "-"
bytes_text (b ∷ bytes) = octet_text b ++ hex bytes

abbrev pub in_front : {A : Type 0} → A → Read (List A) → Read (List A)
in_front x (Some r) = Some (x ∷ r.0, r.1)
in_front x None = None

abbrev pub with_front : {A : Type 0} → List A → Read (List A) → Read (List A)
with_front xs (Some r) = Some (xs ++ r.0, r.1)
with_front xs None = None

abbrev pub onto : Option ℕ → Read (List ℕ) → Read (List ℕ)
onto (Some x) read = in_front x read
onto None read = None

unfoldable pub read_hex : List ℕ → Read (List ℕ)
read_hex [] = Some ([], [])
read_hex (a ∷ []) = if is_item_end a then Some ([], a ∷ []) else None
read_hex (a ∷ b ∷ bytes) = if is_item_end a then Some ([], a ∷ b ∷ bytes) else onto (pair_value a b) (read_hex bytes)

abbrev pub read_bytes : List ℕ → Read (List ℕ)
read_bytes [] = None
read_bytes (b ∷ bytes) = if b == 45 then Some ([], bytes) else (if is_item_end b then None else read_hex (b ∷ bytes))

abbrev pub byte_string : Code (List ℕ)
byte_string = record { fits = AllByRecursion (λ b. b < 2 ^ 8); text = bytes_text; read = read_bytes }

-- ---- a name out of a table

abbrev pub find : {K : Type 0} → (K → List ℕ) → List K → List ℕ → Option K
find name [] bytes = None
find name (k ∷ ks) bytes = if bytes_eq (name k) bytes then Some k else find name ks bytes

abbrev pub before_end : List ℕ → List ℕ
before_end [] = []
before_end (b ∷ bytes) = if is_field_end b then [] else b ∷ before_end bytes

abbrev pub from_end : List ℕ → List ℕ
from_end [] = []
from_end (b ∷ bytes) = if is_field_end b then b ∷ bytes else from_end bytes

abbrev pub named : {K : Type 0} → (K → List ℕ) → List K → Code K
named name all = record {
  fits = λ k. find name all (name k) ≡ Some k;
  text = name;
  read = λ bytes. with_rest (find name all (before_end bytes)) (from_end bytes);
}

-- ---- codes of codes

-- the values that pass a test
abbrev pub passing : {A : Type 0} → (A → Bool) → Read A → Read A
passing ok (Some x) = if ok x.0 then Some x else None
passing ok None = None

abbrev pub such : {A : Type 0} → (A → Bool) → Code A → Code A
such ok c = record { fits = λ x. c.fits x × (ok x ≡ true); text = c.text; read = λ bytes. passing ok (c.read bytes) }

-- a byte, and what is behind it
abbrev pub past : ℕ → List ℕ → Option (List ℕ)
past b [] = None
past b (c ∷ bytes) = if c == b then Some bytes else None

abbrev pub read_past : {A : Type 0} → (List ℕ → Read A) → Option (List ℕ) → Read A
read_past read (Some bytes) = read bytes
read_past read None = None

-- behind a byte
abbrev pub behind : {A : Type 0} → ℕ → Code A → Code A
behind b c = record { fits = c.fits; text = λ x. b ∷ c.text x; read = λ bytes. read_past c.read (past b bytes) }

-- nothing
abbrev pub none : Code (Unit {0})
none = record { fits = λ x. Unit {0}; text = λ x. []; read = λ bytes. Some (tt, bytes) }

-- one, and then one that its value chooses
abbrev pub chosen : {A : Type 0} → Code A → (F : A → Type 0) → ((x : A) → Code (F x)) → Code ((x : A) × F x)
chosen c F f = record {
  fits = λ p. c.fits p.0 × (f p.0).fits p.1;
  text = λ p. c.text p.0 ++ (f p.0).text p.1;
  read = λ bytes. and_then (c.read bytes) (λ x rest. and_then ((f x).read rest) (λ y rest. Some ((x, y), rest)));
}

-- one, and then another
infixr 5 ◌▹◌
abbrev pub ◌▹◌ : {A B : Type 0} → Code A → Code B → Code (A × B)
c ▹ d = record {
  fits = λ p. c.fits p.0 × d.fits p.1;
  text = λ p. c.text p.0 ++ 32 ∷ d.text p.1;
  read = λ bytes. and_then (c.read bytes) (λ x rest. and_then (read_past d.read (past 32 rest)) (λ y rest. Some ((x, y), rest)));
}

-- `-` for none
abbrev pub read_optional : {A : Type 0} → Code A → List ℕ → Read (Option A)
read_optional c [] = None
read_optional c (b ∷ bytes) = if b == 45 then Some (None, bytes) else and_then (c.read (b ∷ bytes)) (λ x rest. Some (Some x, rest))

abbrev pub optional_fits : {A : Type 0} → Code A → Option A → Type 0
optional_fits c None = Unit {0}
optional_fits c (Some x) = c.fits x

abbrev pub optional_text : {A : Type 0} → Code A → Option A → List ℕ
optional_text c None = codes "-"
optional_text c (Some x) = c.text x

abbrev pub optional : {A : Type 0} → Code A → Code (Option A)
optional c = record { fits = optional_fits c; text = optional_text c; read = read_optional c }

-- a list, joined by commas; `-` for none
abbrev pub more_text : {A : Type 0} → Code A → List A → List ℕ
more_text c [] = []
more_text c (x ∷ xs) = 44 ∷ c.text x ++ more_text c xs

abbrev pub list_text : {A : Type 0} → Code A → List A → List ℕ
list_text c [] = codes "-"
list_text c (x ∷ xs) = c.text x ++ more_text c xs

-- the items behind the first, at most so many
unfoldable pub read_more : {A : Type 0} → Code A → ℕ → List ℕ → Read (List A)
read_more c zero bytes = Some ([], bytes)
read_more c (suc n) [] = Some ([], [])
read_more c (suc n) (b ∷ bytes) = if b == 44 then and_then (c.read bytes) (λ x rest. in_front x (read_more c n rest)) else Some ([], b ∷ bytes)

abbrev pub read_list : {A : Type 0} → Code A → List ℕ → Read (List A)
read_list c [] = None
read_list c (b ∷ bytes) = if b == 45 then Some ([], bytes) else and_then (c.read (b ∷ bytes)) (λ x rest. in_front x (read_more c (length rest) rest))

abbrev pub listed : {A : Type 0} → Code A → Code (List A)
listed c = record { fits = AllByRecursion c.fits; text = list_text c; read = read_list c }

abbrev pub PastGives : {X : Type 0} → (X → List ℕ) → Result X LineRefusal → Option (List ℕ) → Type 0
PastGives view (Ok x) read = read ≡ Some (view x)
PastGives view (Err e) read = (read ≡ None) × (e ≡ line_refusals.NoEntry)
