-- Reading of a layout file line by line, with the first fault that is met. It is private: specs/LayoutFile.antt is what is promised.
use Rattle.std.specs.Prelude.{ℕ, ◌+◌, ◌-◌, Bool, true, false, not, ◌&&◌, nat_lt, List, [], ◌∷◌, length, Option, Some, None, Result, Ok, Err, is_some, slice_index, slice_index_or, slice_set, if◌then◌else◌}
use Rattle.std.specs.List.{position}
use Rattle.std.specs.Str.Lines.{lines}
use Rattle.nd_base.specs.declared.layout_field.Object.{Object}
use Rattle.nd_base.specs.declared.layout_field.Object.TheVariants.{Packet, OutOfBand, Buffer, Block}
use Rattle.nd_base.specs.declared.layout_text.Content.{Content}
use Rattle.nd_base.specs.declared.layout_text.Content.TheVariants.{Skipped, Bad, Unknown, Offset}
use Rattle.nd_base.specs.declared.layout.LayoutRefusal.{LayoutRefusal}
use Rattle.nd_base.specs.declared.layout.LayoutRefusal.TheVariants.{TooLong, Line, UnknownName, Repeated, Missing, Overlap}
use Rattle.nd_base.specs.declared.layout.Offsets.{Offsets}
use Rattle.nd_base.specs.Layout.{row}
use Rattle.nd_base.specs.LayoutText.{first_from, line_content}
use Rattle.nd_base.specs.Results.{◌>>=◌}

-- which names stood in the lines so far, and their numbers, when the line with this number says the offset of a field
abbrev pub stated : ℕ → Offsets → ℕ → ℕ → Result Offsets LayoutRefusal
stated n before place offset = if slice_index_or before.given place false then Err (Repeated n) else Ok (record { given = slice_set before.given place true; offsets = slice_set before.offsets place offset })

-- what is known behind a line of this number and content
abbrev pub behind : ℕ → Offsets → Content → Result Offsets LayoutRefusal
behind n before Skipped = Ok before
behind n before Bad = Err (Line n)
behind n before Unknown = Err (UnknownName n)
behind n before (Offset place offset) = stated n before place offset

-- the lines, of which the first has the number n
unfoldable pub behind_lines : ℕ → Offsets → List (List ℕ) → Result Offsets LayoutRefusal
behind_lines n before [] = Ok before
behind_lines n before (line ∷ ls) = do
  after ← behind n before (line_content line)
  behind_lines (n + 1) after ls

abbrev pub same_object : Object → Object → Bool
same_object Packet Packet = true
same_object OutOfBand OutOfBand = true
same_object Buffer Buffer = true
same_object Block Block = true
same_object a b = false

-- two fields of one object share a byte
abbrev pub share : List ℕ → ℕ → ℕ → Bool
share offsets i j = same_object (row i).object (row j).object && (nat_lt (slice_index offsets i) (slice_index offsets j + (row j).width) && nat_lt (slice_index offsets j) (slice_index offsets i + (row i).width))

-- the first field behind i that shares a byte with it
unfoldable pub shared_with : List ℕ → ℕ → Option ℕ
shared_with offsets i = first_from (λ j. share offsets i j) (i + 1) (31 - (i + 1))

-- the first field that shares a byte with one behind it
unfoldable pub first_shared : List ℕ → Option ℕ
first_shared offsets = first_from (λ i. is_some (shared_with offsets i)) 0 31

abbrev pub pair_of : ℕ → Option ℕ → Option LayoutRefusal
pair_of i None = None
pair_of i (Some j) = Some (Overlap (row i).field (row j).field)

abbrev pub overlap_of : List ℕ → Option ℕ → Option LayoutRefusal
overlap_of offsets None = None
overlap_of offsets (Some i) = pair_of i (shared_with offsets i)

abbrev pub accepted : List ℕ → Option LayoutRefusal → Result (List ℕ) LayoutRefusal
accepted offsets None = Ok offsets
accepted offsets (Some e) = Err e

-- all names stand there, and no two fields of one object share a byte
abbrev pub complete : Offsets → Option ℕ → Result (List ℕ) LayoutRefusal
complete found (Some i) = Err (Missing (row i).field)
complete found None = accepted found.offsets (overlap_of found.offsets (first_shared found.offsets))

abbrev pub nothing : Offsets
nothing = record { given = false ∷ false ∷ false ∷ false ∷ false ∷ false ∷ false ∷ false ∷ false ∷ false ∷ false ∷ false ∷ false ∷ false ∷ false ∷ false ∷ false ∷ false ∷ false ∷ false ∷ false ∷ false ∷ false ∷ false ∷ false ∷ false ∷ false ∷ false ∷ false ∷ false ∷ false ∷ []; offsets = 0 ∷ 0 ∷ 0 ∷ 0 ∷ 0 ∷ 0 ∷ 0 ∷ 0 ∷ 0 ∷ 0 ∷ 0 ∷ 0 ∷ 0 ∷ 0 ∷ 0 ∷ 0 ∷ 0 ∷ 0 ∷ 0 ∷ 0 ∷ 0 ∷ 0 ∷ 0 ∷ 0 ∷ 0 ∷ 0 ∷ 0 ∷ 0 ∷ 0 ∷ 0 ∷ 0 ∷ [] }

-- the offsets in the order of the fields, or the first fault
unfoldable pub reading : List ℕ → Result (List ℕ) LayoutRefusal
reading text = if nat_lt 65536 (length text) then Err TooLong else do
  found ← behind_lines 1 nothing (lines text)
  complete found (position not found.given)
