-- What is read is as it is spelled.
use Rattle.std.proofs.Common.{◌≡◌, ℕ, zero, suc, ◌+◌, ◌-◌, ◌*◌, ◌/◌, ◌%◌, ◌<◌, ◌≤◌, ◌⊎◌, ◌↔◌, ◌&&◌, ◌++◌, inl, inr, true, false, if◌then◌else◌, eqb, nat_le, nat_lt, not, ◌==◌, min, max, List, [], ◌∷◌, length, All, Some, None, Option, Result, Ok, Err, refl, sym, ap, ◌∙◌, subst, arith}
use Rattle.std.proofs.lemmas.Bool.{and_parts, and_from, and_right, or_cases, le-ltb, eqb-true, ne_eqb, leb-true, le-leb, ltb-true, lt-ltb, not-true}
use Rattle.std.proofs.lemmas.List.{length-append}
use Rattle.pe_image.specs.declared.refusal.PeRefusal.{PeRefusal}
use Rattle.pe_image.specs.declared.refusal.PeRefusal.TheVariants.{BadImport, BadReloc, Ordinal, TooLarge}
use Rattle.pe_image.specs.declared.headers.SectionHeader.{SectionHeader}
use Rattle.pe_image.specs.declared.headers.Directory.{Directory}
use Rattle.pe_image.specs.declared.imports.Descriptor.{Descriptor}
use Rattle.pe_image.specs.Image.{SectionPart, ImportParts}
use Rattle.pe_image.specs.Lookup.{section_byte, half_of, word_of, has_word, section_with, holds_byte, word_from, word_at}
use Rattle.pe_image.specs.Relocations.{relocated_word, listed, entries_from, is_over, is_block, block_at, blocks_from, relocations_in}
use Rattle.pe_image.specs.Sections.{end_of, meets, IsLow}
use Rattle.pe_image.specs.Imports.{is_printable, text_from, name_at, named_import, import_at, continued, imports_from, descriptor_at, imports_of, descriptors_from, most_descriptors, imports_in}
use Rattle.nd_base.specs.Results.{◌>>=◌, require}
use Rattle.std.specs.Option.{ok_or}
use Rattle.pe_image.specs.Spellings.{IsText, IsName, IsShared, Block, AreEntries, IsBlock, IsOver, AreBlocks, Relocates, RelocateInPage, Relocate, IsThunk, AreThunks, StandsAt, AreDescriptors, joined}
use Rattle.pe_image.proofs.Judged.{bind_ok, require_ok, ok_is}
use Rattle.pe_image.proofs.LaidOut.{any_word, chosen, found_is, some_of}
use Rattle.pe_image.proofs.Importing.{text-end, text-on, descriptors-stop}

text_read : (parts : List SectionPart) (e : PeRefusal) (rva n : ℕ) (text : List ℕ) → text_from parts e rva n ≡ Ok text → IsText parts rva text × (length text < n)
unfolding text_from
text_read parts e rva zero text h = absurd cc
text_read parts e rva (suc n) text h =
    let a = bind_ok (ok_or (section_byte parts rva) e) (λ byte. if byte == 0 then Ok [] else require (is_printable byte) e >>= λ _. text_from parts e (rva + 1) n >>= λ others. Ok (byte ∷ others)) text h in
    let there : section_byte parts rva ≡ Some a.0 = found_is e (section_byte parts rva) a.0 a.1 in
    elim (chosen (a.0 == 0) (Ok []) (require (is_printable a.0) e >>= λ _. text_from parts e (rva + 1) n >>= λ others. Ok (a.0 ∷ others)) (Ok text) a.2) [
      | inl none ↦ subst (λ (t : List ℕ). IsText parts rva t × (length t < suc n)) (ok_is [] text none.1) (there ∙ ap Some (eqb-true a.0 0 none.0), omega arith)
      | inr some ↦
          let b = bind_ok (require (is_printable a.0) e) (λ _. text_from parts e (rva + 1) n >>= λ others. Ok (a.0 ∷ others)) text some.1 in
          let c = bind_ok (text_from parts e (rva + 1) n) (λ others. Ok (a.0 ∷ others)) text b.2 in
          let printable = and_parts (nat_le 0x20 a.0) (nat_le a.0 0x7E) (require_ok (is_printable a.0) e b.0 b.1) in
          let rest = text_read parts e (rva + 1) n c.0 c.1 in
          subst (λ (t : List ℕ). IsText parts rva t × (length t < suc n)) (ok_is (a.0 ∷ c.0) text c.2)
          ((there, leb-true 0x20 a.0 printable.0, leb-true a.0 0x7E printable.1, rest.0), omega (arith, rest.1))
    ]

text_again : (parts : List SectionPart) (e : PeRefusal) (rva n : ℕ) (text : List ℕ) → IsText parts rva text → length text < n → text_from parts e rva n ≡ Ok text
text_again parts e rva zero text is short = absurd (omega arith)
text_again parts e rva (suc n) [] is short = text-end parts e rva n 0 is refl
text_again parts e rva (suc n) (byte ∷ text) is short =
    text-on parts e rva n byte is.0 (ne_eqb byte 0 (λ none. omega (arith, is.1))) (and_from (nat_le 0x20 byte) (nat_le byte 0x7E) (le-leb 0x20 byte is.1) (le-leb byte 0x7E is.2))
    ∙ ap (λ (r : Result (List ℕ) PeRefusal). r >>= λ others. Ok (byte ∷ others)) (text_again parts e (rva + 1) n text is.3 (omega arith))

some_there : (text : List ℕ) → eqb (length text) 0 ≡ false → 0 < length text
some_there [] e = absurd cc
some_there (byte ∷ text) e = omega arith

pub name_read : (parts : List SectionPart) (rva : ℕ) (name : List ℕ) → name_at parts rva ≡ Ok name → IsName parts rva name
unfolding name_at
name_read parts rva name h =
    let e = BadImport rva in
    let a = bind_ok (text_from parts e rva 256) (λ text. require (not (length text == 0)) e >>= λ _. Ok text) name h in
    let b = bind_ok (require (not (length a.0 == 0)) e) (λ _. Ok a.0) name a.2 in
    let some : eqb (length a.0) 0 ≡ false = not-true (length a.0 == 0) (require_ok (not (length a.0 == 0)) e b.0 b.1) in
    let read = text_read parts e rva 256 a.0 a.1 in
    subst (IsName parts rva) (ok_is a.0 name b.2) (record { text = read.0; some = some_there a.0 some; short = read.1 })

pub name_again : (parts : List SectionPart) (rva : ℕ) (name : List ℕ) → IsName parts rva name → name_at parts rva ≡ Ok name
unfolding name_at
name_again parts rva name is =
    let some : eqb (length name) 0 ≡ false = ne_eqb (length name) 0 (λ none. omega (arith, is.some)) in
    rw (text_again parts (BadImport rva) rva 256 name is.text is.short, some) refl

pub names : (parts : List SectionPart) (rva : ℕ) (name : List ℕ) → (name_at parts rva ≡ Ok name) ↔ IsName parts rva name
names parts rva name = (name_read parts rva name, name_again parts rva name)

-- ---- sections that share an address
share_read : (header : SectionHeader) (start end : ℕ) → meets header start end ≡ true → (rva : ℕ) × IsShared header start end rva
share_read header start end e =
    let less = ltb-true (max header.virtual_address start) (min (end_of header) end) e in
    (max header.virtual_address start, record { from = omega arith; to = omega (arith, less); low = omega arith; high = omega (arith, less) })

share_again : (header : SectionHeader) (start end : ℕ) → (rva : ℕ) × IsShared header start end rva → meets header start end ≡ true
share_again header start end shared =
    lt-ltb (max header.virtual_address start) (min (end_of header) end) (omega (arith, shared.1.from, shared.1.to, shared.1.low, shared.1.high))

pub shares : (header : SectionHeader) (start end : ℕ) → (meets header start end ≡ true) ↔ ((rva : ℕ) × IsShared header start end rva)
shares header start end = (share_read header start end, share_again header start end)

-- ---- relocations
word_relocated : (parts : List SectionPart) (page rva entry : ℕ) (word : Option ℕ) → relocated_word parts page rva entry ≡ Ok word → Relocates parts page entry (listed word)
unfolding relocated_word
word_relocated parts page rva entry word e =
    elim (chosen (entry / 4096 == 0) (Ok None) (require ((entry / 4096 == 3) && has_word parts (page + entry % 4096)) (BadReloc rva) >>= λ _. Ok (Some (page + entry % 4096))) (Ok word) e) [
      | inl none ↦ inl (eqb-true (entry / 4096) 0 none.0, ap listed (sym (ok_is None word none.1)))
      | inr some ↦
          let a = bind_ok (require ((entry / 4096 == 3) && has_word parts (page + entry % 4096)) (BadReloc rva)) (λ _. Ok (Some (page + entry % 4096))) word some.1 in
          let both = and_parts (entry / 4096 == 3) (has_word parts (page + entry % 4096)) (require_ok ((entry / 4096 == 3) && has_word parts (page + entry % 4096)) (BadReloc rva) a.0 a.1) in
          inr (eqb-true (entry / 4096) 3 both.0, any_word parts (page + entry % 4096) both.1, ap listed (sym (ok_is (Some (page + entry % 4096)) word a.2)))
    ]

-- the entries that a loop over n of them reads
entries_read : (parts : List SectionPart) (table : SectionPart) (page rva n : ℕ) (words : List ℕ) → entries_from parts table page rva n ≡ Ok words
    → (entries : List ℕ) × (length entries ≡ n) × AreEntries table rva entries × RelocateInPage parts page entries words
unfolding entries_from
entries_read parts table page rva zero words e = ([], refl, tt, sym (ok_is [] words e))
entries_read parts table page rva (suc n) words e =
    let a = bind_ok (relocated_word parts page rva (half_of table rva)) (λ word. entries_from parts table page (rva + 2) n >>= λ others. Ok (listed word ++ others)) words e in
    let b = bind_ok (entries_from parts table page (rva + 2) n) (λ others. Ok (listed a.0 ++ others)) words a.2 in
    let rest = entries_read parts table page (rva + 2) n b.0 b.1 in
    (half_of table rva ∷ rest.0, ap suc rest.1, (refl, rest.2), (listed a.0, b.0, word_relocated parts page rva (half_of table rva) a.0 a.1, rest.3, sym (ok_is (listed a.0 ++ b.0) words b.2)))

record IsSize (end rva size : ℕ) : Type 0 where
  least : 8 ≤ size
  even : size % 2 ≡ 0
  within : rva + size ≤ end

size_is : (end rva size : ℕ) → is_block end rva size ≡ true → IsSize end rva size
size_is end rva size e =
    let both = and_parts (nat_le 8 size && (size % 2 == 0)) (nat_le (rva + size) end) e in
    let first = and_parts (nat_le 8 size) (size % 2 == 0) both.0 in
    record { least = leb-true 8 size first.0; even = eqb-true (size % 2) 0 first.1; within = leb-true (rva + size) end both.1 }

block_read : (parts : List SectionPart) (table : SectionPart) (end rva : ℕ) (words : List ℕ) → block_at parts table end rva ≡ Ok words
    → (block : Block) × IsBlock table end rva block × RelocateInPage parts block.page block.entries words
unfolding block_at
block_read parts table end rva words e =
    let size = word_of table (rva + 4) in
    let a = bind_ok (require (is_block end rva (word_of table (rva + 4))) (BadReloc rva)) (λ _. entries_from parts table (word_of table rva) (rva + 8) ((word_of table (rva + 4) - 8) / 2)) words e in
    let is = size_is end rva size (require_ok (is_block end rva (word_of table (rva + 4))) (BadReloc rva) a.0 a.1) in
    let read = entries_read parts table (word_of table rva) (rva + 8) ((word_of table (rva + 4) - 8) / 2) words a.2 in
    let whole : size ≡ 8 + 2 * length read.0 = omega (arith, read.1, is.least, is.even) in
    (record { page = word_of table rva; entries = read.0 }, record { page = refl; size = whole; entries = read.2; within = omega (arith, whole, is.within) }, read.3)

over_read : (table : SectionPart) (end rva : ℕ) → is_over table end rva ≡ true → IsOver table end rva
over_read table end rva e =
    elim (or_cases (nat_lt end (rva + 8)) ((word_of table rva == 0) && (word_of table (rva + 4) == 0)) e) [
      | inl past ↦ inl (ltb-true end (rva + 8) past)
      | inr zeros ↦
          let both = and_parts (word_of table rva == 0) (word_of table (rva + 4) == 0) zeros in
          inr (eqb-true (word_of table rva) 0 both.0, eqb-true (word_of table (rva + 4)) 0 both.1)
    ]

blocks_read : (parts : List SectionPart) (table : SectionPart) (end rva n : ℕ) (words : List ℕ) → end < rva + 8 + n → blocks_from parts table end rva n ≡ Ok words
    → (blocks : List Block) × AreBlocks table end rva blocks × Relocate parts blocks words
unfolding blocks_from
blocks_read parts table end rva zero words most e = ([], inl (omega arith), sym (ok_is [] words e))
blocks_read parts table end rva (suc n) words most e =
    elim (chosen (is_over table end rva) (Ok []) (block_at parts table end rva >>= λ here. blocks_from parts table end (rva + word_of table (rva + 4)) n >>= λ others. Ok (here ++ others)) (Ok words) e) [
      | inl over ↦ ([], over_read table end rva over.0, sym (ok_is [] words over.1))
      | inr more ↦
          let a = bind_ok (block_at parts table end rva) (λ here. blocks_from parts table end (rva + word_of table (rva + 4)) n >>= λ others. Ok (here ++ others)) words more.1 in
          let b = bind_ok (blocks_from parts table end (rva + word_of table (rva + 4)) n) (λ others. Ok (a.0 ++ others)) words a.2 in
          let first = block_read parts table end rva a.0 a.1 in
          let size = first.1.size in
          let rest = blocks_read parts table end (rva + word_of table (rva + 4)) n b.0 (omega (arith, most, size)) b.1 in
          (first.0 ∷ rest.0, (first.1, subst (λ (k : ℕ). AreBlocks table end (rva + k) rest.0) size rest.1), (a.0, b.0, first.2, rest.2, sym (ok_is (a.0 ++ b.0) words b.2)))
    ]

pub relocations_read : (parts : List SectionPart) (directory : Directory) (table : SectionPart) (words : List ℕ) → relocations_in parts directory (Some table) ≡ Ok words
    → (blocks : List Block) × AreBlocks table (directory.rva + directory.size) directory.rva blocks × Relocate parts blocks words
unfolding relocations_in
relocations_read parts directory table words e = blocks_read parts table (directory.rva + directory.size) directory.rva directory.size words (omega arith) e

-- ---- as many descriptors as there is room for
with_past : (parts : List SectionPart) (rva : ℕ) → All IsLow parts → 0x400000 ≤ rva → section_with parts rva ≡ None
with_past [] rva low past = refl
with_past (part ∷ parts) rva low past =
    let here = low 0 part (omega arith) in
    let out : holds_byte part rva ≡ false = and_right (nat_le part.section.rva rva) (nat_lt rva (part.section.rva + part.section.span)) (le-ltb rva (part.section.rva + part.section.span) (omega (arith, here))) in
    rw out (with_past parts rva (λ k d less. low (suc k) d (omega arith)) past)

byte_past : (parts : List SectionPart) (rva : ℕ) → All IsLow parts → 0x400000 ≤ rva → section_byte parts rva ≡ None
unfolding section_byte
byte_past parts rva low past = rw (with_past parts rva low past) refl

last_missing : (a b c d : Option ℕ) → d ≡ None → word_from a b c d ≡ None
last_missing None b c d e = refl
last_missing (Some w) None c d e = refl
last_missing (Some w) (Some x) None d e = refl
last_missing (Some w) (Some x) (Some y) d e = rw e refl

word_past : (parts : List SectionPart) (rva : ℕ) → All IsLow parts → 0x400000 ≤ rva + 3 → word_at parts rva ≡ None
unfolding word_at
word_past parts rva low past = last_missing (section_byte parts rva) (section_byte parts (rva + 1)) (section_byte parts (rva + 2)) (section_byte parts (rva + 3)) (byte_past parts (rva + 3) low past)

five_fields : (refusal : PeRefusal) (make : ℕ → ℕ → ℕ → Descriptor) (a b c d e : Option ℕ) → e ≡ None
    → (ok_or a refusal >>= λ original. ok_or b refusal >>= λ _. ok_or c refusal >>= λ _. ok_or d refusal >>= λ name. ok_or e refusal >>= λ first. Ok (make original name first)) ≡ Err refusal
five_fields refusal make None b c d e is = refl
five_fields refusal make (Some v) None c d e is = refl
five_fields refusal make (Some v) (Some w) None d e is = refl
five_fields refusal make (Some v) (Some w) (Some x) None e is = refl
five_fields refusal make (Some v) (Some w) (Some x) (Some y) e is = rw is refl

pub descriptor_past : (parts : List SectionPart) (rva : ℕ) → All IsLow parts → 0x400000 ≤ rva + 19 → descriptor_at parts rva ≡ Err (BadImport rva)
unfolding descriptor_at
descriptor_past parts rva low past =
    five_fields (BadImport rva) (λ original name first. record { thunks = if original == 0 then first else original; name = name; slots = first })
    (word_at parts rva) (word_at parts (rva + 4)) (word_at parts (rva + 8)) (word_at parts (rva + 12)) (word_at parts (rva + 16)) (word_past parts (rva + 16) low (omega arith))

enough : (parts : List SectionPart) (rva n m left : ℕ) → All IsLow parts → 0x400000 ≤ rva + 19 + 20 * n → 0x400000 ≤ rva + 19 + 20 * m → descriptors_from parts rva n left ≡ descriptors_from parts rva m left
unfolding descriptors_from
enough parts rva zero zero left low first second = refl
enough parts rva zero (suc m) left low first second = sym (descriptors-stop parts rva m left (BadImport rva) (descriptor_past parts rva low (omega arith)))
enough parts rva (suc n) zero left low first second = descriptors-stop parts rva n left (BadImport rva) (descriptor_past parts rva low (omega arith))
enough parts rva (suc n) (suc m) left low first second =
    λ i. descriptor_at parts rva >>= λ descriptor.
    if descriptor.name == 0 then Ok []
    else imports_of parts descriptor left >>= λ functions. enough parts (rva + 20) n m (left - length functions) low (omega arith) (omega arith) i >>= λ others. Ok (functions ++ others)

pub no_more_descriptors : (parts : List SectionPart) (rva n left : ℕ) → All IsLow parts → most_descriptors ≤ n → descriptors_from parts rva n left ≡ descriptors_from parts rva most_descriptors left
no_more_descriptors parts rva n left low many = enough parts rva n most_descriptors left low (omega arith) (omega arith)

-- ---- imports
not_zero : (n : ℕ) → eqb n 0 ≡ false → 0 < n
not_zero zero e = absurd cc
not_zero (suc n) e = omega arith

record IsNamed (parts : List SectionPart) (dll : List ℕ) (slot word : ℕ) (found : Option ImportParts) : Type 0 where
  text : List ℕ
  low : word < 0x80000000
  there : (w : ℕ) × (word_at parts slot ≡ Some w)
  is_text : IsName parts (word + 2) text
  made : some_of (record { dll = dll; name = text; slot = slot }) ≡ found

named_read : (parts : List SectionPart) (dll : List ℕ) (thunk slot word : ℕ) (found : Option ImportParts) → named_import parts dll thunk slot word ≡ Ok found → IsNamed parts dll slot word found
unfolding named_import
named_read parts dll thunk slot word found e =
    let a = bind_ok (require (nat_lt word 0x80000000) (Ordinal thunk)) (λ _. ok_or (word_at parts slot) (BadImport slot) >>= λ _. name_at parts (word + 2) >>= λ name. Ok (Some (record { dll = dll; name = name; slot = slot }))) found e in
    let b = bind_ok (ok_or (word_at parts slot) (BadImport slot)) (λ _. name_at parts (word + 2) >>= λ name. Ok (Some (record { dll = dll; name = name; slot = slot }))) found a.2 in
    let c = bind_ok (name_at parts (word + 2)) (λ name. Ok (Some (record { dll = dll; name = name; slot = slot }))) found b.2 in
    record {
      text = c.0;
      low = ltb-true word 0x80000000 (require_ok (nat_lt word 0x80000000) (Ordinal thunk) a.0 a.1);
      there = (b.0, found_is (BadImport slot) (word_at parts slot) b.0 b.1);
      is_text = name_read parts (word + 2) c.0 c.1;
      made = ok_is (some_of (record { dll = dll; name = c.0; slot = slot })) found c.2;
    }

-- what is said of what a thunk imports
abbrev Imports : List SectionPart → (dll : List ℕ) → (thunk slot : ℕ) → Option ImportParts → Type 0
Imports parts dll thunk slot None = word_at parts thunk ≡ Some 0
Imports parts dll thunk slot (Some function) = IsThunk parts dll thunk slot function

import_read : (parts : List SectionPart) (dll : List ℕ) (thunk slot : ℕ) (found : Option ImportParts) → import_at parts dll thunk slot ≡ Ok found → Imports parts dll thunk slot found
unfolding import_at
import_read parts dll thunk slot found e =
    let a = bind_ok (ok_or (word_at parts thunk) (BadImport thunk)) (λ word. if word == 0 then Ok None else named_import parts dll thunk slot word) found e in
    let stands : word_at parts thunk ≡ Some a.0 = found_is (BadImport thunk) (word_at parts thunk) a.0 a.1 in
    elim (chosen (a.0 == 0) (Ok None) (named_import parts dll thunk slot a.0) (Ok found) a.2) [
      | inl none ↦ subst (Imports parts dll thunk slot) (ok_is None found none.1) (stands ∙ ap Some (eqb-true a.0 0 none.0))
      | inr some ↦
          let named = named_read parts dll thunk slot a.0 found some.1 in
          subst (Imports parts dll thunk slot) named.made (record {
            hint = a.0;
            stands = stands;
            some = not_zero a.0 some.0;
            by_name = named.low;
            name = named.is_text;
            of_dll = refl;
            of_slot = refl;
            slot_stands = named.there;
          })
    ]

continued_read : (parts : List SectionPart) (dll : List ℕ) (thunk slot n : ℕ) (found : Option ImportParts) (others : Result (List ImportParts) PeRefusal) (functions : List ImportParts) → Imports parts dll thunk slot found
    → ((more : List ImportParts) → others ≡ Ok more → AreThunks parts dll (thunk + 4) (slot + 4) more × (length more < n)) → continued found others ≡ Ok functions → AreThunks parts dll thunk slot functions × (length functions ≤ n)
continued_read parts dll thunk slot n None others functions first rest e =
    subst (λ (fs : List ImportParts). AreThunks parts dll thunk slot fs × (length fs ≤ n)) (ok_is [] functions e) (first, omega arith)
continued_read parts dll thunk slot n (Some function) others functions first rest e =
    let a = bind_ok others (λ more. Ok (function ∷ more)) functions e in
    let read = rest a.0 a.1 in
    subst (λ (fs : List ImportParts). AreThunks parts dll thunk slot fs × (length fs ≤ n)) (ok_is (function ∷ a.0) functions a.2) ((first, read.0), omega (arith, read.1))

thunks_read : (parts : List SectionPart) (dll : List ℕ) (thunk slot n : ℕ) (functions : List ImportParts) → imports_from parts dll thunk slot n ≡ Ok functions → AreThunks parts dll thunk slot functions × (length functions ≤ n)
unfolding imports_from
thunks_read parts dll thunk slot zero functions e =
    let a = bind_ok (import_at parts dll thunk slot) (λ found. continued found (Err TooLarge)) functions e in
    continued_read parts dll thunk slot 0 a.0 (Err TooLarge) functions (import_read parts dll thunk slot a.0 a.1) (λ more wrong. absurd cc) a.2
thunks_read parts dll thunk slot (suc n) functions e =
    let a = bind_ok (import_at parts dll thunk slot) (λ found. continued found (imports_from parts dll (thunk + 4) (slot + 4) n)) functions e in
    continued_read parts dll thunk slot (suc n) a.0 (imports_from parts dll (thunk + 4) (slot + 4) n) functions (import_read parts dll thunk slot a.0 a.1)
    (λ more is. let read = thunks_read parts dll (thunk + 4) (slot + 4) n more is in (read.0, omega (arith, read.1))) a.2

-- the descriptor of these words
abbrev descriptor_of : (original name first : ℕ) → Descriptor
descriptor_of original name first = record { thunks = if original == 0 then first else original; name = name; slots = first }

thunks_of : (original first : ℕ) → ((original ≡ 0) × ((if original == 0 then first else original) ≡ first)) ⊎ ((0 < original) × ((if original == 0 then first else original) ≡ original))
thunks_of zero first = inl (refl, refl)
thunks_of (suc n) first = inr (omega arith, let other : eqb (suc n) 0 ≡ false = ne_eqb (suc n) 0 (λ none. omega (arith, none)) in rw other refl)

descriptor_read : (parts : List SectionPart) (rva : ℕ) (head : Descriptor) → descriptor_at parts rva ≡ Ok head → StandsAt parts rva head
unfolding descriptor_at
descriptor_read parts rva head e =
    let refusal = BadImport rva in
    let read : ℕ → Result ℕ PeRefusal = λ at. ok_or (word_at parts at) refusal in
    let a = bind_ok (read rva) (λ original. read (rva + 4) >>= λ _. read (rva + 8) >>= λ _. read (rva + 12) >>= λ name. read (rva + 16) >>= λ first. Ok (descriptor_of original name first)) head e in
    let b = bind_ok (read (rva + 4)) (λ _. read (rva + 8) >>= λ _. read (rva + 12) >>= λ name. read (rva + 16) >>= λ first. Ok (descriptor_of a.0 name first)) head a.2 in
    let c = bind_ok (read (rva + 8)) (λ _. read (rva + 12) >>= λ name. read (rva + 16) >>= λ first. Ok (descriptor_of a.0 name first)) head b.2 in
    let d = bind_ok (read (rva + 12)) (λ name. read (rva + 16) >>= λ first. Ok (descriptor_of a.0 name first)) head c.2 in
    let f = bind_ok (read (rva + 16)) (λ first. Ok (descriptor_of a.0 d.0 first)) head d.2 in
    subst (StandsAt parts rva) (ok_is (descriptor_of a.0 d.0 f.0) head f.2) (record {
      original = a.0;
      original_stands = found_is refusal (word_at parts rva) a.0 a.1;
      time_stands = (b.0, found_is refusal (word_at parts (rva + 4)) b.0 b.1);
      chain_stands = (c.0, found_is refusal (word_at parts (rva + 8)) c.0 c.1);
      name_stands = found_is refusal (word_at parts (rva + 12)) d.0 d.1;
      first_stands = found_is refusal (word_at parts (rva + 16)) f.0 f.1;
      thunks = thunks_of a.0 f.0;
    })

-- the functions of one DLL
imports_of_read : (parts : List SectionPart) (head : Descriptor) (n : ℕ) (functions : List ImportParts) → imports_of parts head n ≡ Ok functions → (dll : List ℕ) × IsName parts head.name dll × AreThunks parts dll head.thunks head.slots functions × (length functions ≤ n)
unfolding imports_of
imports_of_read parts head n functions e =
    let a = bind_ok (name_at parts head.name) (λ dll. imports_from parts dll head.thunks head.slots n) functions e in
    let read = thunks_read parts a.0 head.thunks head.slots n functions a.2 in
    (a.0, name_read parts head.name a.0 a.1, read.0, read.1)

descriptors_read : (parts : List SectionPart) (rva count n : ℕ) (functions : List ImportParts) → descriptors_from parts rva count n ≡ Ok functions
    → (lists : List (List ImportParts)) × AreDescriptors parts rva lists × (functions ≡ joined lists) × (length lists < count) × (length functions ≤ n)
unfolding descriptors_from
descriptors_read parts rva zero n functions e = absurd cc
descriptors_read parts rva (suc count) n functions e =
    let a = bind_ok (descriptor_at parts rva) (λ descriptor. if descriptor.name == 0 then Ok [] else imports_of parts descriptor n >>= λ here. descriptors_from parts (rva + 20) count (n - length here) >>= λ others. Ok (here ++ others)) functions e in
    let stands = descriptor_read parts rva a.0 a.1 in
    elim (chosen (a.0.name == 0) (Ok []) (imports_of parts a.0 n >>= λ here. descriptors_from parts (rva + 20) count (n - length here) >>= λ others. Ok (here ++ others)) (Ok functions) a.2) [
      | inl none ↦ ([], (a.0, stands, eqb-true a.0.name 0 none.0), sym (ok_is [] functions none.1), omega arith, omega (arith, ap length (ok_is [] functions none.1)))
      | inr some ↦
          let b = bind_ok (imports_of parts a.0 n) (λ here. descriptors_from parts (rva + 20) count (n - length here) >>= λ others. Ok (here ++ others)) functions some.1 in
          let c = bind_ok (descriptors_from parts (rva + 20) count (n - length b.0)) (λ others. Ok (b.0 ++ others)) functions b.2 in
          let first = imports_of_read parts a.0 n b.0 b.1 in
          let rest = descriptors_read parts (rva + 20) count (n - length b.0) c.0 c.1 in
          let whole : functions ≡ b.0 ++ c.0 = sym (ok_is (b.0 ++ c.0) functions c.2) in (
            b.0 ∷ rest.0,
            (record { head = a.0; stands = stands; some = not_zero a.0.name some.0; dll = first.0; dll_name = first.1; thunks = first.2 }, rest.1),
            whole ∙ ap (λ (others : List ImportParts). b.0 ++ others) rest.2,
            omega (arith, rest.3),
            omega (arith, ap length whole, length-append b.0 c.0, first.3, rest.4),
          )
    ]

pub imports_read : (parts : List SectionPart) (rva : ℕ) (functions : List ImportParts) → 0 < rva → imports_in parts rva ≡ Ok functions
    → (lists : List (List ImportParts)) × AreDescriptors parts rva lists × (functions ≡ joined lists) × (length lists < most_descriptors) × (length functions ≤ 4096)
unfolding imports_in
imports_read parts rva functions some e =
    elim (chosen (rva == 0) (Ok []) (descriptors_from parts rva most_descriptors 4096) (Ok functions) e) [
      | inl none ↦ absurd (let zero_rva = eqb-true rva 0 none.0 in omega (arith, zero_rva))
      | inr there ↦ descriptors_read parts rva most_descriptors 4096 functions there.1
    ]
