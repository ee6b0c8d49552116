-- Reading of one line of a layout file: its words, and the place of its name. It is private, as LayoutReading.antt is.
use Rattle.std.specs.Prelude.{codes, ℕ, zero, suc, ◌+◌, ◌^◌, ◌<◌, Bool, ◌==◌, nat_le, List, [], ◌∷◌, Option, Some, None, slice_index, if◌then◌else◌}
use Rattle.std.specs.Str.{bytes_eq}
use Rattle.nd_base.specs.declared.layout_text.Content.{Content}
use Rattle.nd_base.specs.declared.layout_text.Content.TheVariants.{Skipped, Bad, Unknown, Offset}
use Rattle.nd_base.specs.Layout.{limit, row}
use Rattle.nd_base.specs.Words.{decimal_of, saturated, words}

-- the first of n numbers from i on that passes
unfoldable pub first_from : (ℕ → Bool) → ℕ → ℕ → Option ℕ
first_from test i zero = None
first_from test i (suc n) = if test i then Some i else first_from test (suc i) n

-- the place of a name in the order of the fields
unfoldable pub place_of : List ℕ → Option ℕ
place_of name = first_from (λ i. bytes_eq (row i).name name) 0 31

-- the offset of the field at a place, all of which lies in its object
abbrev pub placed : Option ℕ → ℕ → Content
placed None offset = Unknown
placed (Some i) offset = if nat_le (offset + (row i).width) (limit (row i).object) then Offset i offset else Bad

abbrev pub stated : List ℕ → Option ℕ → Content
stated name None = Bad
stated name (Some offset) = placed (place_of name) offset

abbrev pub offset_line : List ℕ → List ℕ → List ℕ → Content
offset_line name equals number = if bytes_eq equals (codes "=") then stated name (saturated (decimal_of number)) else Bad

-- no word, or three: a name, = and a number
abbrev pub words_content : List (List ℕ) → Content
words_content [] = Skipped
words_content (a ∷ []) = Bad
words_content (a ∷ b ∷ []) = Bad
words_content (name ∷ equals ∷ number ∷ []) = offset_line name equals number
words_content (a ∷ b ∷ c ∷ d ∷ ws) = Bad

-- a line that begins with # says nothing
unfoldable pub line_content : List ℕ → Content
line_content line = if slice_index line 0 == 35 then Skipped else words_content (words line)

abbrev pub IsPlaced : Content → Type 0
IsPlaced Skipped = Unit {0}
IsPlaced Bad = Unit {0}
IsPlaced Unknown = Unit {0}
IsPlaced (Offset i n) = (i < 31) × (n < 2 ^ 32)
