-- Operands in source: a register, a value, or memory at `[base+index*scale+VALUE]` behind its size. The project's own
-- (docs/ASSEMBLER.md); the parts of an address are those of Intel SDM volume 1, section 3.7.5.
use Rattle.std.specs.Prelude.{ℕ, Bool, ◌||◌, ◌==◌, is_some, List, [], ◌∷◌, Option, Some, None, if◌then◌else◌, codes}
use Rattle.std.specs.Option.{option_map}
use Rattle.std.specs.Str.{bytes_eq}
use Rattle.asm_lines.specs.Parts.{cut}
use Rattle.asm_lines.specs.Registers.{register_of}
use Rattle.asm_lines.specs.Values.{Value, value_seen, value_of}
use Rattle.asm_lines.specs.declared.register.Register.{Register}
use Rattle.asm_lines.specs.declared.argument.Index.{Index}
use Rattle.asm_lines.specs.declared.argument.Place as place_code
use Rattle.asm_lines.specs.declared.argument.Part as part_code
use Rattle.asm_lines.specs.declared.argument.Part.TheVariants as parts
use Rattle.asm_lines.specs.declared.argument.Argument as argument_code
use Rattle.asm_lines.specs.declared.argument.Argument.TheVariants as arguments

pub record Place : Type 0 where
  pub base : Option ℕ
  pub index : Option Index
  pub offset : Option Value

pub data Part : Type 0 where
  Base : ℕ → Part
  AtIndex : Index → Part
  Offset : Value → Part

pub data Argument : Type 0 where
  Absent : Argument
  InRegister : Register → Argument
  Plain : Value → Argument
  InMemory : ℕ → Place → Argument

abbrev pub place_seen : place_code.Place → Place
place_seen p = record { base = p.base; index = p.index; offset = option_map value_seen p.offset }

abbrev pub part_seen : part_code.Part → Part
part_seen (parts.Base r) = Base r
part_seen (parts.Index i) = AtIndex i
part_seen (parts.Offset v) = Offset (value_seen v)

abbrev pub argument_seen : argument_code.Argument → Argument
argument_seen arguments.Absent = Absent
argument_seen (arguments.Register r) = InRegister r
argument_seen (arguments.Value v) = Plain (value_seen v)
argument_seen (arguments.Memory width p) = InMemory width (place_seen p)

-- ---- addresses

abbrev pub if_wide : Option Register → Option ℕ
if_wide None = None
if_wide (Some r) = if r.width == 4 then Some r.number else None

-- the number of a register of four bytes
unfoldable pub address_register : List ℕ → Option ℕ
address_register word = if_wide (register_of word)

abbrev pub digit_scale : ℕ → Option ℕ
digit_scale b = if b == 49 then Some 1 else (if b == 50 then Some 2 else (if b == 52 then Some 4 else (if b == 56 then Some 8 else None)))

abbrev pub scale_of : List ℕ → Option ℕ
scale_of (b ∷ []) = digit_scale b
scale_of bs = None

abbrev pub with_scale : Option ℕ → Option ℕ → Option Index
with_scale (Some register) (Some scale) = Some (record { register = register; scale = scale })
with_scale register scale = None

abbrev pub scale_in : Option (List ℕ) → Option ℕ
scale_in None = None
scale_in (Some word) = scale_of word

-- a register, `*` and a scale
unfoldable pub index_of : List ℕ → Option Index
index_of word = with_scale (address_register (cut 42 word).0) (scale_in (cut 42 word).1)

abbrev pub or_offset : Option Value → Option Part
or_offset None = None
or_offset (Some v) = Some (Offset v)

abbrev pub or_index : Option Index → Option Value → Option Part
or_index (Some i) value = Some (AtIndex i)
or_index None value = or_offset value

abbrev pub or_base : Option ℕ → Option Index → Option Value → Option Part
or_base (Some r) index value = Some (Base r)
or_base None index value = or_index index value

unfoldable pub part_of : List ℕ → Option Part
part_of word = or_base (address_register word) (index_of word) (value_of word)

-- a part more: the base stands first, and the offset last
unfoldable pub with_part : Place → Part → Option Place
with_part place (Base r) = if is_some place.offset || (is_some place.base || is_some place.index) then None else Some (record { base = Some r; index = place.index; offset = place.offset })
with_part place (AtIndex i) = if is_some place.offset || is_some place.index then None else Some (record { base = place.base; index = Some i; offset = place.offset })
with_part place (Offset v) = if is_some place.offset then None else Some (record { base = place.base; index = place.index; offset = Some v })

abbrev pub and_part : Place → Option Part → Option Place
and_part place None = None
and_part place (Some part) = with_part place part

abbrev pub empty : Place
empty = record { base = None; index = None; offset = None }

unfoldable pub last_part : Place → List ℕ → Option Place
last_part place word = and_part place (part_of word)

abbrev pub and_last : Option Place → Option (List ℕ) → Option Place
and_last None behind = None
and_last (Some place) None = Some place
and_last (Some place) (Some word) = last_part place word

unfoldable pub more_parts : Place → List ℕ → Option Place
more_parts place text = and_last (last_part place (cut 43 text).0) (cut 43 text).1

abbrev pub and_more_parts : Option Place → Option (List ℕ) → Option Place
and_more_parts None behind = None
and_more_parts (Some place) None = Some place
and_more_parts (Some place) (Some text) = more_parts place text

-- the address that one to three parts between `+` name
unfoldable pub place_of : List ℕ → Option Place
place_of text = and_more_parts (last_part empty (cut 43 text).0) (cut 43 text).1

abbrev pub closed : List ℕ × Option (List ℕ) → Option (List ℕ)
closed (text, Some []) = Some text
closed (text, behind) = None

-- what stands between `[` and `]`
unfoldable pub bracketed : List ℕ → Option (List ℕ)
bracketed [] = None
bracketed (b ∷ bs) = if b == 91 then closed (cut 93 bs) else None

-- ---- operands

abbrev pub size_of : List ℕ → Option ℕ
size_of word = if bytes_eq word (codes "byte") then Some 1 else (if bytes_eq word (codes "word") then Some 2 else (if bytes_eq word (codes "dword") then Some 4 else None))

abbrev pub or_value : Option Register → Option Value → Option Argument
or_value (Some r) value = Some (InRegister r)
or_value None (Some v) = Some (Plain v)
or_value None None = None

unfoldable pub plain : List ℕ → Option Argument
plain word = or_value (register_of word) (value_of word)

abbrev pub in_memory : Option ℕ → Option Place → Option Argument
in_memory (Some width) (Some place) = Some (InMemory width place)
in_memory width place = None

abbrev pub and_place : Option (List ℕ) → Option Place
and_place None = None
and_place (Some text) = place_of text

unfoldable pub sized : List ℕ → List ℕ → Option Argument
sized size word = in_memory (size_of size) (and_place (bracketed word))

-- the operand that words are
unfoldable pub argument_of : List (List ℕ) → Option Argument
argument_of (word ∷ []) = plain word
argument_of (size ∷ word ∷ []) = sized size word
argument_of ws = None
