-- What the lines of an INF file say, written with a layout chosen for each (Windows DDK, "General Syntax Rules for INF Files").
use Rattle.std.specs.Prelude.{◌≡◌, ◌≢◌, ◌⊎◌, ℕ, ◌+◌, ◌-◌, ◌<◌, ◌==◌, nat_eq, Bool, true, false, List, [], ◌∷◌, ◌++◌, length, take, drop, slice_index, Option, Some, None, if◌then◌else◌}
use Rattle.std.specs.List.{AllByRecursion, list_any}
use Rattle.inf_text.specs.Sections.{Line}
use Rattle.inf_text.specs.declared.statement.Statement.{Statement}
use Rattle.inf_text.specs.declared.statement.Statement.TheVariants.{Nothing, Header, Entry}
use Rattle.inf_text.specs.Quotes.{is_open}

-- each quotation mark twice
unfoldable pub doubled : List ℕ → List ℕ
doubled [] = []
doubled (c ∷ cs) = if c == 34 then 34 ∷ 34 ∷ doubled cs else c ∷ doubled cs

abbrev pub quoted : List ℕ → List ℕ
quoted text = 34 ∷ (doubled text ++ 34 ∷ [])

-- a text with no line feed
abbrev pub HasNoFeed : List ℕ → Type 0
HasNoFeed text = AllByRecursion (λ c. c ≢ 10) text

abbrev pub KeyHasNoFeed : Option (List ℕ) → Type 0
KeyHasNoFeed None = Unit {0}
KeyHasNoFeed (Some key) = HasNoFeed key

-- a line of one value or more
pub record CanBeLine (line : Line) : Type 0 where
  pub some_value : line.values ≢ []
  pub key : KeyHasNoFeed line.key
  pub values : AllByRecursion HasNoFeed line.values

-- what a text holds only in quotes: a line feed, a carriage return, and the marks " , ; [ ]
abbrev pub needs_quotes : ℕ → Bool
needs_quotes c = list_any (nat_eq c) (10 ∷ 13 ∷ 34 ∷ 44 ∷ 59 ∷ 91 ∷ 93 ∷ [])

-- spaces and tabs
abbrev pub AreBlanks : List ℕ → Type 0
AreBlanks cs = AllByRecursion (λ c. (c ≡ 32) ⊎ (c ≡ 9)) cs

-- neither a space nor a tab
abbrev pub IsNoBlank : ℕ → Type 0
IsNoBlank c = (c ≢ 32) × (c ≢ 9)

-- a text that needs no quotes: it begins and ends with no blank, and ends with no backslash; it may be empty
pub record IsWord (text : List ℕ) : Type 0 where
  pub plain : AllByRecursion (λ c. needs_quotes c ≡ false) text
  pub begins : IsNoBlank (slice_index text 0)
  pub ends : IsNoBlank (slice_index text (length text - 1))
  pub no_join : slice_index text (length text - 1) ≢ 92

-- what says nothing at the end of a line: blanks, a comment, and whether a carriage return stands before the line feed
pub record Tail : Type 0 where
  pub blanks : List ℕ
  pub comment : Option (List ℕ)
  pub with_return : Bool

-- a backslash behind a number of characters more, and the tail of its line
pub record Break : Type 0 where
  pub behind : ℕ
  pub tail : Tail

-- the blanks in front of a text and behind it, and which texts stand without quotes
pub record Setting : Type 0 where
  pub before : List ℕ
  pub behind : List ℕ
  pub bare : List ℕ → Bool

-- the settings of its texts, where a key has the number 0 and the values count from 1; the blanks in front of a header's first bracket, or
-- those of a line that says nothing; what is ignored behind a header's last bracket; where the line is broken; a comment; and whether a
-- carriage return stands before its last line feed
pub record Layout : Type 0 where
  pub settings : ℕ → Setting
  pub indent : List ℕ
  pub ignored : List ℕ
  pub breaks : List Break
  pub comment : Option (List ℕ)
  pub with_return : Bool

abbrev pub spelled : Bool → List ℕ → List ℕ
spelled true text = text
spelled false text = quoted text

abbrev pub spaced : Setting → List ℕ → List ℕ
spaced s text = s.before ++ (spelled (s.bare text) text ++ s.behind)

-- values of which the first has the number n
unfoldable pub spaced_values : (ℕ → Setting) → ℕ → List (List ℕ) → List ℕ
spaced_values settings n [] = []
spaced_values settings n (v ∷ []) = spaced (settings n) v
spaced_values settings n (v ∷ w ∷ vs) = spaced (settings n) v ++ 44 ∷ spaced_values settings (n + 1) (w ∷ vs)

abbrev pub behind_key : Setting → Option (List ℕ) → List ℕ → List ℕ
behind_key s None values = values
behind_key s (Some key) values = spaced s key ++ 61 ∷ values

-- the text of a line
abbrev pub laid : Layout → Statement → List ℕ
laid l Nothing = l.indent
laid l (Header name) = l.indent ++ 91 ∷ (spaced (l.settings 0) name ++ 93 ∷ l.ignored)
laid l (Entry line) = behind_key (l.settings 0) line.key (spaced_values l.settings 1 line.values)

abbrev pub comment_of : Option (List ℕ) → List ℕ
comment_of None = []
comment_of (Some text) = 59 ∷ text

abbrev pub line_end : Bool → List ℕ
line_end true = 13 ∷ 10 ∷ []
line_end false = 10 ∷ []

-- in quotes a semicolon would begin no comment, so none is written there
abbrev pub tail : Bool → Tail → List ℕ
tail inside t = t.blanks ++ ((if inside then [] else comment_of t.comment) ++ line_end t.with_return)

-- the text of a line, broken wherever it may be, behind quotes that are open or not
unfoldable pub broken : Bool → List Break → List ℕ → List ℕ
broken inside [] text = text
broken inside (b ∷ bs) text =
    let now = is_open inside (take b.behind text) in
    take b.behind text ++ 92 ∷ (tail now b.tail ++ broken now bs (drop b.behind text))

-- the text of a line with its breaks and its end
abbrev pub ended : Layout → List ℕ → List ℕ
ended l text = broken false l.breaks text ++ (comment_of l.comment ++ line_end l.with_return)

-- what a file's lines say, each with its layout
unfoldable pub laid_out : List (Layout × Statement) → List ℕ
laid_out [] = []
laid_out (w ∷ ws) = ended w.0 (laid w.0 w.1) ++ laid_out ws

-- the last line feed may be missing, but not behind a carriage return
abbrev pub IsTextOf : List ℕ → List ℕ → Type 0
IsTextOf whole text = (text ≡ whole) ⊎ ((text ++ 10 ∷ [] ≡ whole) × (slice_index text (length text - 1) ≢ 13))

abbrev pub CommentHasNoFeed : Option (List ℕ) → Type 0
CommentHasNoFeed None = Unit {0}
CommentHasNoFeed (Some text) = HasNoFeed text

-- no line feed, no carriage return, and no mark of " ; \
abbrev pub IsIgnored : List ℕ → Type 0
IsIgnored cs = AllByRecursion (λ c. list_any (nat_eq c) (10 ∷ 13 ∷ 34 ∷ 59 ∷ 92 ∷ []) ≡ false) cs

-- a text with no `=`, as a key and a first value are where they stand without quotes
abbrev pub HasNoEquals : List ℕ → Type 0
HasNoEquals text = AllByRecursion (λ c. c ≢ 61) text

pub record IsTail (t : Tail) : Type 0 where
  pub blanks : AreBlanks t.blanks
  pub comment : CommentHasNoFeed t.comment

pub record IsSetting (s : Setting) : Type 0 where
  pub before : AreBlanks s.before
  pub behind : AreBlanks s.behind
  pub bare : (text : List ℕ) → s.bare text ≡ true → IsWord text

pub record IsLayout (l : Layout) : Type 0 where
  pub settings : (n : ℕ) → IsSetting (l.settings n)
  pub equals : (n : ℕ) → n < 2 → (text : List ℕ) → (l.settings n).bare text ≡ true → HasNoEquals text
  pub indent : AreBlanks l.indent
  pub ignored : IsIgnored l.ignored
  pub breaks : AllByRecursion (λ b. IsTail b.tail) l.breaks
  pub comment : CommentHasNoFeed l.comment

-- what can stand on the line of the number n: a line of a section has that number, and is not blanks alone
abbrev pub CanSay : ℕ → Layout → Statement → Type 0
CanSay n l Nothing = Unit {0}
CanSay n l (Header name) = HasNoFeed name
CanSay n l (Entry line) = (line.number ≡ n) × CanBeLine line × (AreBlanks (laid l (Entry line)) → ⊥)

-- lines that begin at the number n, of which a broken one takes several
abbrev pub AreLaidOut : ℕ → List (Layout × Statement) → Type 0
AreLaidOut n [] = Unit {0}
AreLaidOut n (w ∷ ws) = IsLayout w.0 × CanSay n w.0 w.1 × AreLaidOut (n + length w.0.breaks + 1) ws
