-- What `{:08x}` and its kin write of a number: its hexadecimal digits, with zeros in front.
use Rattle.std.proofs.Common.{◌≡◌, ℕ, ◌^◌, ◌-◌, List, [], ◌++◌, false, length, replicate, arith}
use Rattle.std.proofs.lemmas.List.{append-nil}
use Rattle.std.specs.Fmt.{padded_integral, format_spec, digits, char_count}
use Rattle.nd_base.specs.Text.{hex_word, hex_unit, hex_byte}

padded_list : (width : ℕ) (ds : List ℕ) → padded_integral (format_spec 32 0 4 width (2 ^ 64 - 1)) false [] ds ≡ replicate (width - length ds) 48 ++ ds
unfolding padded_integral char_count
padded_list width ds = let e : width - length ds - 0 - 0 ≡ width - length ds = omega arith in simp (e, append-nil)

pub padded_word : (n : ℕ) → padded_integral (format_spec 32 0 4 8 (2 ^ 64 - 1)) false [] (digits 16 false n) ≡ hex_word n
padded_word n = padded_list 8 (digits 16 false n)

pub padded_unit : (n : ℕ) → padded_integral (format_spec 32 0 4 4 (2 ^ 64 - 1)) false [] (digits 16 false n) ≡ hex_unit n
padded_unit n = padded_list 4 (digits 16 false n)

pub padded_byte : (n : ℕ) → padded_integral (format_spec 32 0 4 2 (2 ^ 64 - 1)) false [] (digits 16 false n) ≡ hex_byte n
padded_byte n = padded_list 2 (digits 16 false n)
