-- The characters of a line of an INF file (Windows DDK, "General Syntax Rules for INF Files"): quotes, blanks, and what
-- separators outside quotes part.
use Rattle.std.specs.Prelude.{ℕ, suc, ◌+◌, Bool, false, ◌&&◌, ◌||◌, ◌==◌, not, nat_lt, List, [], ◌∷◌, length, map, take, drop, Option, Some, None, if◌then◌else◌}
use Rattle.std.specs.List.{fold, onto_first}

-- a space or a tab
abbrev pub is_blank : ℕ → Bool
is_blank c = (c == 32) || (c == 9)

-- each quotation mark opens quotes or closes them
abbrev pub turned : Bool → ℕ → Bool
turned inside c = if c == 34 then not inside else inside

-- whether quotes are open behind the characters
abbrev pub is_open : Bool → List ℕ → Bool
is_open inside cs = fold turned inside cs

-- a character is this mark outside quotes
abbrev pub is_mark : ℕ → Bool → ℕ → Bool
is_mark mark inside c = not inside && (c == mark)

-- how many characters stand in front of the first that is mark outside quotes; all, where none is
unfoldable pub front_len : ℕ → Bool → List ℕ → ℕ
front_len mark inside [] = 0
front_len mark inside (c ∷ cs) = if is_mark mark inside c then 0 else suc (front_len mark (turned inside c) cs)

-- without the blanks in front
unfoldable pub trimmed_start : List ℕ → List ℕ
trimmed_start [] = []
trimmed_start (c ∷ cs) = if is_blank c then trimmed_start cs else c ∷ cs

abbrev pub onto_rest : ℕ → List ℕ → List ℕ
onto_rest c [] = if is_blank c then [] else c ∷ []
onto_rest c (d ∷ ds) = c ∷ d ∷ ds

-- without the blanks at the end
unfoldable pub trimmed_end : List ℕ → List ℕ
trimmed_end [] = []
trimmed_end (c ∷ cs) = onto_rest c (trimmed_end cs)

-- a character stays, behind the one before: quotation marks go, but of two inside quotes the second stays
abbrev pub stays : ℕ → Bool → ℕ → Bool
stays before inside c = not (c == 34) || (not inside && (before == 34))

-- the characters with their quotes resolved
unfoldable pub resolved_behind : ℕ → Bool → List ℕ → List ℕ
resolved_behind before inside [] = []
resolved_behind before inside (c ∷ cs) = if stays before inside c then c ∷ resolved_behind c (turned inside c) cs else resolved_behind c (turned inside c) cs

-- a key, a value or a name: the blanks at its ends go, and its quotes are resolved
abbrev pub value : List ℕ → List ℕ
value cs = resolved_behind 0 false (trimmed_end (trimmed_start cs))

-- what stands in front of the first mark outside quotes, and behind it
abbrev pub cut : ℕ → List ℕ → Option (List ℕ × List ℕ)
cut mark cs = if nat_lt (front_len mark false cs) (length cs) then Some (take (front_len mark false cs) cs, drop (front_len mark false cs + 1) cs) else None

-- an `=` outside quotes parts a key from the values where it stands in front of the first comma outside quotes
abbrev pub key_cut : List ℕ → Option (List ℕ × List ℕ)
key_cut cs = if nat_lt (front_len 61 false cs) (front_len 44 false cs) then Some (take (front_len 61 false cs) cs, drop (front_len 61 false cs + 1) cs) else None

-- the parts between commas outside quotes
unfoldable pub parts : Bool → List ℕ → List (List ℕ)
parts inside [] = [] ∷ []
parts inside (c ∷ cs) = if is_mark 44 inside c then [] ∷ parts false cs else onto_first c (parts (turned inside c) cs)

abbrev pub values : List ℕ → List (List ℕ)
values cs = map value (parts false cs)
