-- Relocations, step by step.
use Rattle.std.proofs.Common.{◌≡◌, ℕ, zero, suc, ◌+◌, ◌<◌, ◌≤◌, true, false, nat_le, nat_lt, ◌&&◌, ◌==◌, List, [], ◌∷◌, ◌++◌, length, get_or, map, All, Option, Ok, Err, refl, arith}
use Rattle.std.proofs.lemmas.Bool.{and_parts, or_parts, leb-true, ltb-false}
use Rattle.pe_image.specs.declared.refusal.PeRefusal.{PeRefusal}
use Rattle.pe_image.specs.declared.sections.Part.{Part}
use Rattle.pe_image.specs.Image.{SectionPart}
use Rattle.pe_image.specs.Sections.{seen, IsLow}
use Rattle.pe_image.specs.Lookup.{holds_word, half_of, word_of}
use Rattle.pe_image.specs.Relocations.{relocated_word, listed, entries_from, is_over, block_at, blocks_from}
use Rattle.nd_base.specs.Results.{◌>>=◌}

abbrev pub no_part : Part
no_part = record {
  section = record { name = []; rva = 0; span = 0; raw = 0; rights = record { read = false; write = false; execute = false } };
  raw = record { ref_ptr = (0, 0); now = [] };
}

pub low_at : (parts : List Part) (k : ℕ) (d : Part) → All IsLow (map seen parts) → k < length parts → (get_or parts k d).section.rva + (get_or parts k d).section.span ≤ 0x400000
low_at [] k d all less = absurd (omega arith)
low_at (part ∷ parts) zero d all less = all 0 (seen part) (omega arith)
low_at (part ∷ parts) (suc k) d all less = low_at parts k d (λ j e within. all (suc j) e (omega arith)) (omega arith)

pub word_low : (part : Part) (rva : ℕ) → holds_word (seen part) rva ≡ true → part.section.rva + part.section.span ≤ 0x400000 → rva + 4 ≤ 0x400000
word_low part rva holds low = let both = and_parts (nat_le part.section.rva rva) (nat_le (rva + 4) (part.section.rva + part.section.span)) holds in
    let to = leb-true (rva + 4) (part.section.rva + part.section.span) both.1 in omega (arith, to)

pub entries-step : (parts : List SectionPart) (table : SectionPart) (page rva n : ℕ) (word : Option ℕ) → relocated_word parts page rva (half_of table rva) ≡ Ok word
    → entries_from parts table page rva (suc n) ≡ (entries_from parts table page (rva + 2) n >>= λ others. Ok (listed word ++ others))
unfolding entries_from
entries-step parts table page rva n word is = rw is refl

pub entries-stop : (parts : List SectionPart) (table : SectionPart) (page rva n : ℕ) (e : PeRefusal) → relocated_word parts page rva (half_of table rva) ≡ Err e → entries_from parts table page rva (suc n) ≡ Err e
unfolding entries_from
entries-stop parts table page rva n e is = rw is refl

pub entries-end : (parts : List SectionPart) (table : SectionPart) (page rva : ℕ) → entries_from parts table page rva 0 ≡ Ok []
unfolding entries_from
entries-end parts table page rva = refl

pub blocks-over : (parts : List SectionPart) (table : SectionPart) (end rva n : ℕ) → is_over table end rva ≡ true → blocks_from parts table end rva n ≡ Ok []
unfolding blocks_from
blocks-over parts table end rva zero over = refl
blocks-over parts table end rva (suc n) over = rw over refl

pub blocks-step : (parts : List SectionPart) (table : SectionPart) (end rva n : ℕ) → is_over table end rva ≡ false
    → blocks_from parts table end rva (suc n) ≡ (block_at parts table end rva >>= λ words. blocks_from parts table end (rva + word_of table (rva + 4)) n >>= λ others. Ok (words ++ others))
unfolding blocks_from
blocks-step parts table end rva n more = rw more refl

pub not_over : (table : SectionPart) (end rva : ℕ) → is_over table end rva ≡ false → rva + 8 ≤ end
not_over table end rva more = ltb-false end (rva + 8) (or_parts (nat_lt end (rva + 8)) ((word_of table rva == 0) && (word_of table (rva + 4) == 0)) more).0
