-- The lines of an INF file (Windows DDK, "General Syntax Rules for INF Files") without their comments, joined where a
-- backslash at the end of one goes on with the next.
use Rattle.std.specs.Prelude.{ℕ, suc, ◌-◌, Bool, false, ◌==◌, List, [], ◌∷◌, ◌++◌, length, take, slice_index, if◌then◌else◌}
use Rattle.inf_text.specs.declared.joining.Joined.{Joined}
use Rattle.inf_text.specs.Quotes.{is_open, front_len, trimmed_end}

-- what a line says in front of its comment, which a semicolon outside quotes begins; inside: quotes are open from the line before
abbrev pub said : Bool → List ℕ → List ℕ
said inside line = take (front_len 59 inside line) line

abbrev pub last_of : List ℕ → ℕ
last_of cs = slice_index cs (length cs - 1)

-- a backslash stands at the end, behind which blanks may follow
abbrev pub goes_on : List ℕ → Bool
goes_on cs = last_of (trimmed_end cs) == 92

-- what is kept: where the next line goes on, what stands in front of the backslash
abbrev pub kept : List ℕ → List ℕ
kept cs = if goes_on cs then take (length (trimmed_end cs) - 1) (trimmed_end cs) else cs

-- a line that began at the number first, of which front is in front, with the lines from the number n on; the last one may be empty
unfoldable pub joined : ℕ → ℕ → List ℕ → List (List ℕ) → List Joined
joined first n front [] = record { number = first; text = front } ∷ []
joined first n front (line ∷ lines) =
    if goes_on (said (is_open false front) line)
    then joined first (suc n) (front ++ kept (said (is_open false front) line)) lines
    else record { number = first; text = front ++ kept (said (is_open false front) line) } ∷ joined (suc n) (suc n) [] lines
