-- Why an image or an INF file is refused: files above their limits by their size.
use Rattle.std.proofs.Common.{◌≡◌, ℕ, ◌<◌, List, Option, None, Some, length, inr, refl, Result, Ok, Err, IfErr}
use Rattle.std.proofs.lemmas.Bool.{lt-leb, lt-ltb}
use Rattle.pe_image.specs.Reading.{reading}
use Rattle.pe_image.specs.declared.refusal.PeRefusal.TheVariants.{TooLarge}
use Rattle.inf_text.specs.Reading.{sections_of}
use Rattle.inf_text.specs.declared.refusal.InfRefusal.TheVariants as inf
use Rattle.printed_lines.specs.ImageLines.{image_line}
use Rattle.printed_lines.specs.ParameterLines.{inf_line}
use Rattle.pe_image.specs.Image.{ImageParts}
use Rattle.ndis_run.specs.Shown.{answer, judged, served, shown_image, shown_inf}
use Rattle.ndis_run.specs.RunZero.{IsRefusalLine}

too_large : (bytes : List ℕ) → 0x400000 < length bytes → reading bytes ≡ Err TooLarge
unfolding reading
too_large bytes less = rw (lt-leb (length bytes) 0x400000 less) refl

too_long : (bytes : List ℕ) → 0x100000 < length bytes → sections_of bytes ≡ Err inf.TooLong
unfolding sections_of
too_long bytes less = rw (lt-ltb 0x100000 (length bytes) less) refl

pub judged_too_large : (bytes : List ℕ) → 0x400000 < length bytes → judged bytes ≡ Err (image_line TooLarge)
unfolding judged
judged_too_large bytes less = rw (too_large bytes less) refl

pub shown_too_large : (bytes : List ℕ) → 0x400000 < length bytes → answer 5 (image_line TooLarge) ≡ shown_image bytes
shown_too_large bytes less = rw (too_large bytes less) refl

pub shown_too_long : (id bytes : List ℕ) → 0x100000 < length bytes → answer 6 (inf_line inf.TooLong) ≡ shown_inf id bytes
shown_too_long id bytes less = rw (too_long bytes less) refl

-- the line of an import that is in no table is that of a refusal
pub unserved_line : (image : ImageParts) (unknown : Option (List ℕ)) (line : List ℕ) → served image unknown ≡ Err line → IsRefusalLine line
unserved_line image None line e = absurd (cc)
unserved_line image (Some name) line e = inr (name, cc)

-- a refusal that is told otherwise
pub err_told : {A E : Type 0} (P Q : E → Type 0) (result : Result A E) → ((e : E) → P e → Q e) → IfErr result P → IfErr result Q
err_told P Q (Ok x) told p = tt
err_told P Q (Err e) told p = told e p
