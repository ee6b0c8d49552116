-- The strings of an INF file, and their replacement (Windows Driver Kit, "INF Strings Section"): `%key%` stands for the string of
-- that key, and `%%` is one percent sign.
use Rattle.std.specs.Prelude.{◌≡◌, ℕ, Bool, false, not, ◌&&◌, ◌||◌, ◌==◌, nat_le, List, [], ◌∷◌, ◌++◌, length, Option, None, Some, is_some, if◌then◌else◌}
use Rattle.std.specs.List.{All, fold, list_all, list_any, slice_split}
use Rattle.std.specs.Option.{option_or}
use Rattle.inf_text.specs.Sections.{Line, has_key, value_at}

-- the string of a key
abbrev pub Strings : Type 0
Strings = List ℕ → Option (List ℕ)

abbrev pub no_strings : Strings
no_strings key = None

-- a line gives its key its first value, where no line before has that key
abbrev pub with_string : Strings → Line → Strings
with_string strings line = λ key. option_or (strings key) (if has_key key line then Some (value_at 0 line) else None)

unfoldable pub strings_of : List Line → Strings
strings_of lines = fold with_string no_strings lines

abbrev pub is_percent : ℕ → Bool
is_percent unit = unit == 37

-- a text with no percent sign
abbrev pub HasNoPercent : List ℕ → Type 0
HasNoPercent text = All (λ unit. is_percent unit ≡ false) text

abbrev pub or_self : List ℕ → Option (List ℕ) → List ℕ
or_self key None = 37 ∷ (key ++ 37 ∷ [])
or_self key (Some text) = text

abbrev pub is_empty : List ℕ → Bool
is_empty text = length text == 0

-- what stands for a key between percent signs: a key of no string stands for itself, and an empty one for one percent sign
unfoldable pub meaning : Strings → List ℕ → List ℕ
meaning strings key = if is_empty key then 37 ∷ [] else or_self key (strings key)

-- the parts behind a percent sign are a key, if another sign is behind it, and text by turns
abbrev pub behind_percent : (List ℕ → List ℕ) → List (List ℕ) → List ℕ
behind_percent mean [] = []
behind_percent mean (rest ∷ []) = 37 ∷ rest
behind_percent mean (key ∷ plain ∷ parts) = mean key ++ (plain ++ behind_percent mean parts)

abbrev pub replaced_parts : (List ℕ → List ℕ) → List (List ℕ) → List ℕ
replaced_parts mean [] = []
replaced_parts mean (plain ∷ parts) = plain ++ behind_percent mean parts

-- a text with its keys replaced
unfoldable pub replaced : Strings → List ℕ → List ℕ
replaced strings text = replaced_parts (meaning strings) (slice_split is_percent text)

abbrev pub is_digit : ℕ → Bool
is_digit unit = nat_le 48 unit && nat_le unit 57

-- a key that has no string and is no number of a directory
unfoldable pub is_missing : Strings → List ℕ → Bool
is_missing strings key = if is_empty key then false else if list_all is_digit key then false else not (is_some (strings key))

-- whether a key between percent signs passes
abbrev pub asks_behind : (List ℕ → Bool) → List (List ℕ) → Bool
asks_behind test [] = false
asks_behind test (rest ∷ []) = false
asks_behind test (key ∷ plain ∷ parts) = test key || asks_behind test parts

abbrev pub asks_in : (List ℕ → Bool) → List (List ℕ) → Bool
asks_in test [] = false
asks_in test (plain ∷ parts) = asks_behind test parts

-- whether a text lacks a string
unfoldable pub lacks_string : Strings → List ℕ → Bool
lacks_string strings text = asks_in (is_missing strings) (slice_split is_percent text)

abbrev pub key_lacks : Strings → Option (List ℕ) → Bool
key_lacks strings None = false
key_lacks strings (Some key) = lacks_string strings key

-- whether a line lacks a string, in its key or its values
unfoldable pub line_lacks : Strings → Line → Bool
line_lacks strings line = key_lacks strings line.key || list_any (lacks_string strings) line.values
