-- Forms of lines: which words state a value, and as what they are read. (The project's own.)
use Rattle.std.specs.Prelude.{codes, ℕ, ◌≡◌, ◌≤◌, ◌⊎◌, Bool, true, false, not, ◌&&◌, ◌||◌, ◌==◌, nat_le, nat_lt, List, [], ◌∷◌, length, slice_index, Option, Some, None, Ok, if◌then◌else◌}
use Rattle.std.specs.List.{list_all}
use Rattle.std.specs.Option.{option_map}
use Rattle.std.specs.Result.{result_ok}
use Rattle.std.specs.Char.{is_digit}
use Rattle.std.specs.Str.{bytes_eq}
use Rattle.hex.specs.Hex.{decode_of}
use Rattle.log_fields.specs.Codes.{find}
use Rattle.nd_base.specs.Options.{◌>>=◌}
use Rattle.nd_base.specs.Words.{IsDecimal, decimal_value}

-- A field: which word spells a value, and as what a word is read.
pub record Field (A : Type 0) : Type 1 where
  pub spells : List ℕ → A → Type 0
  pub read : List ℕ → Option A

-- A form: which words state a value, and as what they are read.
pub record Form (A : Type 0) : Type 1 where
  pub states : List (List ℕ) → A → Type 0
  pub read : List (List ℕ) → Option A

-- a value, where it passes a test
abbrev pub passing : {A : Type 0} → (A → Bool) → Option A → Option A
passing test None = None
passing test (Some v) = if test v then Some v else None

abbrev pub is_within : ℕ → ℕ → ℕ → Bool
is_within least most n = nat_le least n && nat_le n most

-- ---- fields

-- any word, which is its own value
abbrev pub word : Field (List ℕ)
word = record { spells = λ w v. v ≡ w; read = λ w. Some w }

-- what a field spells, where the value passes a test
abbrev pub such : {A : Type 0} → (A → Bool) → Field A → Field A
such test c = record { spells = λ w v. c.spells w v × (test v ≡ true); read = λ w. passing test (c.read w) }

-- what a function makes of a field's values
abbrev pub made : {A B : Type 0} → (A → B) → Field A → Field B
made {A} f c = record { spells = λ w v. (x : A) × c.spells w x × (v ≡ f x); read = λ w. option_map f (c.read w) }

-- digits without a sign, and a leading 0 only where it is alone
unfoldable pub is_decimal : List ℕ → Bool
is_decimal w = (nat_lt 0 (length w) && list_all (λ c. is_digit c 10) w) && (not (slice_index w 0 == 48) || length w == 1)

unfoldable pub decimal_read : List ℕ → Option ℕ
decimal_read w = if is_decimal w then Some (decimal_value w) else None

-- a decimal number from least to most
abbrev pub number : ℕ → ℕ → Field ℕ
number least most = record {
  spells = λ w n. IsDecimal w × (n ≡ decimal_value w) × (least ≤ n) × (n ≤ most);
  read = λ w. passing (is_within least most) (decimal_read w);
}

-- bytes in hexadecimal, two digits a byte, in either case
abbrev pub octet_string : Field (List ℕ)
octet_string = record { spells = λ w bytes. decode_of w ≡ Ok bytes; read = λ w. result_ok (decode_of w) }

-- from least to most of what a field spells
abbrev pub from_to : ℕ → ℕ → Field (List ℕ) → Field (List ℕ)
from_to least most c = record {
  spells = λ w v. c.spells w v × (least ≤ length v) × (length v ≤ most);
  read = λ w. passing (λ v. is_within least most (length v)) (c.read w);
}

-- `-` for nothing, else what a field spells
abbrev pub dash_or : Field (List ℕ) → Field (List ℕ)
dash_or c = record {
  spells = λ w v. ((w ≡ codes "-") × (v ≡ [])) ⊎ c.spells w v;
  read = λ w. if bytes_eq w (codes "-") then Some [] else c.read w;
}

-- ---- forms

-- no word
abbrev pub end_read : List (List ℕ) → Option (Unit {0})
end_read [] = Some (tt {0})
end_read (w ∷ ws) = None

abbrev pub end : Form (Unit {0})
end = record { states = λ ws v. ws ≡ []; read = end_read }

-- a field, and then a form
abbrev pub take : {A : Type 0} → Field A → List (List ℕ) → Option (A × List (List ℕ))
take c [] = None
take c (w ∷ ws) = c.read w >>= λ v. Some (v, ws)

infixr 10 ◌▹◌
abbrev pub ◌▹◌ : {A B : Type 0} → Field A → Form B → Form (A × B)
c ▹ d = record {
  states = λ ws v. (w : List ℕ) × (rest : List (List ℕ)) × (ws ≡ w ∷ rest) × c.spells w v.0 × d.states rest v.1;
  read = λ ws. take c ws >>= λ x. d.read x.1 >>= λ v. Some (x.0, v);
}

-- a word that stands there, and then a form
abbrev pub past : List ℕ → List (List ℕ) → Option (List (List ℕ))
past name [] = None
past name (w ∷ ws) = if bytes_eq w name then Some ws else None

infixr 10 ◌▸◌
abbrev pub ◌▸◌ : {A : Type 0} → List ℕ → Form A → Form A
name ▸ d = record {
  states = λ ws v. (rest : List (List ℕ)) × (ws ≡ name ∷ rest) × d.states rest v;
  read = λ ws. past name ws >>= d.read;
}

-- what a function makes of a form's values
abbrev pub of : {A B : Type 0} → (A → B) → Form A → Form B
of {A} f d = record { states = λ ws v. (x : A) × d.states ws x × (v ≡ f x); read = λ ws. option_map f (d.read ws) }

-- a name of a table, and then the form that it chooses
abbrev pub chosen_read : {K A : Type 0} → (K → List ℕ) → List K → (K → Form A) → List (List ℕ) → Option A
chosen_read name all form [] = None
chosen_read name all form (w ∷ ws) = find name all w >>= λ k. (form k).read ws

abbrev pub chosen : {K A : Type 0} → (K → List ℕ) → List K → (K → Form A) → Form A
chosen {K} name all form = record {
  states = λ ws v. (k : K) × (rest : List (List ℕ)) × (ws ≡ name k ∷ rest) × (form k).states rest v;
  read = chosen_read name all form;
}
