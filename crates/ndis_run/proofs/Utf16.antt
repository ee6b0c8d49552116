-- The UTF-16 units of a text, character by character.
use Rattle.std.proofs.Common.{◌≡◌, ℕ, List, [], ◌++◌, length, IsUtf8, encode_utf8, ap, ◌∙◌}
use Rattle.std.proofs.lemmas.List.{nil_from_length}
use Rattle.std.proofs.lemmas.Str.{chars_past_char, chars-nil}
use Rattle.std.specs.List.{flat_map}
use Rattle.std.specs.Char.Escape.{encode_utf16}
use Rattle.ndis_run.specs.Shown.{utf16}

pub units_step : (text rest : List ℕ) (c : ℕ) → IsUtf8 text → text ≡ encode_utf8 c ++ rest → utf16 text ≡ encode_utf16 c ++ utf16 rest
units_step text rest c utf8 parts = ap (flat_map encode_utf16) (chars_past_char text rest c utf8 parts)

pub units_of_empty : (text : List ℕ) → length text ≡ 0 → utf16 text ≡ []
units_of_empty text none = ap utf16 (nil_from_length text none) ∙ ap (flat_map encode_utf16) chars-nil
