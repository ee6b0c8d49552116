-- Parts of what can be read, and what is read there.
use Rattle.std.proofs.Common.{◌≡◌, ◌≢◌, ℕ, ◌+◌, ◌<◌, ◌≤◌, Bool, true, List, length, nat_lt, slice_index, slice_set, if◌then◌else◌, Option, None, Some, refl, sym, ap, ◌∙◌, arith, add_assoc, is_none, inl, inr}
use Rattle.std.specs.Option.{unwrap_or}
use Rattle.std.specs.Int.{w16, w32, from_le_bytes}
use Rattle.std.proofs.lemmas.List.{get_or-set_other}
use Rattle.std.proofs.lemmas.Grind.{get_or-set_at}
use Rattle.std.proofs.lemmas.Bool.Decides.{nat_tests}
use Rattle.std.proofs.lemmas.Bool.{cases_eq}
use Rattle.nd_mem.specs.declared.MemFault.{MemFault}
use Rattle.nd_mem.specs.Space.{Cells, Reading, wrapped, first_fault, bytes_from}
use Rattle.nd_mem.specs.Laws.{FaultLaws, ReadLaws}
use Rattle.packet_chain.specs.Chain.{word_at}
use Rattle.import_answers.specs.Outcomes.{half_at}

pub no_fault : (found : Option MemFault) → is_none found ≡ true → found ≡ None
no_fault None e = refl
no_fault (Some fault) e = absurd (cc e)

pub part_readable : (laws : FaultLaws) (cells : Cells) (a n i m : ℕ) → first_fault Reading cells a n ≡ None → i + m ≤ n → first_fault Reading cells (a + i) m ≡ None
part_readable laws cells a n i m h fits =
    laws.none Reading cells (a + i) m (λ j lt. rw (add_assoc a i j) (laws.none_at Reading cells a n (i + j) h (omega arith)))

-- the same at an address that wraps
pub part_at : (laws : FaultLaws) (cells : Cells) (a n i m b : ℕ) → is_none (first_fault Reading cells a n) ≡ true → i + m ≤ n → b ≡ wrapped (a + i) → is_none (first_fault Reading cells b m) ≡ true
part_at laws cells a n i m b h fits is =
    ap (λ x. is_none (first_fault Reading cells x m)) is ∙ ap is_none (laws.wraps Reading cells (a + i) m ∙ part_readable laws cells a n i m (no_fault _ h) fits)

pub word_wrapped : (laws : ReadLaws) (cells : Cells) (a b : ℕ) → b ≡ wrapped a → word_at cells b ≡ word_at cells a
unfolding word_at
word_wrapped laws cells a b e = ap (λ x. from_le_bytes w32 (bytes_from cells x 4)) e ∙ ap (from_le_bytes w32) (laws.wraps cells a 4)

pub half_wrapped : (laws : ReadLaws) (cells : Cells) (a b : ℕ) → b ≡ wrapped a → half_at cells b ≡ half_at cells a
half_wrapped laws cells a b e = ap (λ x. from_le_bytes w16 (bytes_from cells x 2)) e ∙ ap (from_le_bytes w16) (laws.wraps cells a 2)

-- the word that is found where it can be read
pub found_word : (readable : Bool) (word got : ℕ) (found : Option ℕ) → found ≡ (if readable then Some word else None) → readable ≡ true → got ≡ unwrap_or found 0 → got ≡ word
found_word readable word got found is on e = e ∙ ap (λ x. unwrap_or x 0) (is ∙ ap (λ (b : Bool). if b then Some word else None) on)

same_test : (j k : ℕ) → j ≢ k → nat_lt j (k + 1) ≡ nat_lt j k
same_test j k ne = grind (arith, nat_tests)

-- one more word
pub set_next : (words : List ℕ) (k v : ℕ) (f : ℕ → ℕ) → k < length words → v ≡ f k → ((j : ℕ) → j < 27 → slice_index words j ≡ (if nat_lt j k then f j else 0)) → (j : ℕ) → j < 27 → slice_index (slice_set words k v) j ≡ (if nat_lt j (k + 1) then f j else 0)
set_next words k v f lt is before j small = elim (cases_eq j k) [
  | inl e ↦ let on : nat_lt j (k + 1) ≡ true = grind (arith, nat_tests) in get_or-set_at words k j v 0 e lt ∙ is ∙ ap f (sym e) ∙ rw on refl
  | inr ne ↦ let same : nat_lt j (k + 1) ≡ nat_lt j k = same_test j k ne in get_or-set_other words k j v 0 ne ∙ before j small ∙ rw same refl
]
