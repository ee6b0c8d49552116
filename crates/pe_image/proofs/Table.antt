-- The section table, step by step.
use Rattle.std.proofs.Common.{◌≡◌, ℕ, suc, ◌+◌, ◌<◌, ◌≤◌, List, ◌∷◌, [], ◌++◌, length, Ok, Err, refl}
use Rattle.std.proofs.lemmas.Bool.{le-leb, lt-leb}
use Rattle.pe_image.specs.declared.refusal.PeRefusal.TheVariants.{Short}
use Rattle.pe_image.specs.File.{section_header}
use Rattle.pe_image.specs.Sections.{section_table}
use Rattle.nd_base.specs.Results.{◌>>=◌}

pub table-step : (bytes : List ℕ) (at n : ℕ) → at + 40 ≤ length bytes → section_table bytes at (suc n) ≡ (section_table bytes (at + 40) n >>= λ others. Ok (section_header bytes at ∷ [] ++ others))
unfolding section_table
table-step bytes at n there = rw (le-leb (at + 40) (length bytes) there) refl

pub table-short : (bytes : List ℕ) (at n : ℕ) → length bytes < at + 40 → section_table bytes at (suc n) ≡ Err (Short at)
unfolding section_table
table-short bytes at n short = rw (lt-leb (at + 40) (length bytes) short) refl

pub table-end : (bytes : List ℕ) (at : ℕ) → section_table bytes at 0 ≡ Ok []
unfolding section_table
table-end bytes at = refl
