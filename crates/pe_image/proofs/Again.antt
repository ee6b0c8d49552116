-- What is spelled so is read so.
use Rattle.std.proofs.Common.{◌≡◌, ℕ, zero, suc, ◌+◌, ◌-◌, ◌*◌, ◌/◌, ◌%◌, ◌<◌, ◌≤◌, ◌⊎◌, ◌↔◌, ◌&&◌, ◌++◌, inl, inr, true, false, if◌then◌else◌, nat_le, nat_lt, ◌==◌, List, [], ◌∷◌, length, All, Some, None, Option, Result, Ok, refl, sym, ap, ◌∙◌, subst, arith}
use Rattle.std.proofs.lemmas.Bool.{and_from, and_right, or_left, or_right, cases_lt, le-ltb, lt-ltb, le-leb, eq-eqb, ne_eqb}
use Rattle.std.specs.List.{Any}
use Rattle.std.proofs.lemmas.List.{length-append}
use Rattle.std.proofs.lemmas.List.Folds.{list_any-from_Any}
use Rattle.pe_image.specs.declared.refusal.PeRefusal.{PeRefusal}
use Rattle.pe_image.specs.declared.headers.Directory.{Directory}
use Rattle.pe_image.specs.declared.imports.Descriptor.{Descriptor}
use Rattle.pe_image.specs.Image.{SectionPart, ImportParts, HoldsWord}
use Rattle.pe_image.specs.Lookup.{word_of, word_at, holds_word, has_word}
use Rattle.pe_image.specs.Relocations.{relocated_word, listed, entries_from, is_over, is_block, block_at, blocks_from, relocations_in}
use Rattle.pe_image.specs.Sections.{IsLow}
use Rattle.pe_image.specs.Imports.{named_import, import_at, imports_from, descriptor_at, imports_of, descriptors_from, most_descriptors, imports_in}
use Rattle.nd_base.specs.Results.{◌>>=◌}
use Rattle.pe_image.specs.Spellings.{Block, block_size, AreEntries, IsBlock, IsOver, AreBlocks, Relocates, RelocateInPage, Relocate, IsThunk, AreThunks, StandsAt, IsDescriptor, AreDescriptors, joined}
use Rattle.pe_image.proofs.Importing.{imports-end, imports-on, descriptors-end, descriptors-on}
use Rattle.pe_image.proofs.Spelled.{name_again, descriptor_past, relocations_read, imports_read}

abbrev done : {A : Type 0} → A → Result A PeRefusal
done x = Ok x

-- ---- relocations
holds : (part : SectionPart) (rva : ℕ) → HoldsWord rva part → holds_word part rva ≡ true
holds part rva is =
    and_from (nat_le part.section.rva rva) (nat_le (rva + 4) (part.section.rva + part.section.span)) (le-leb part.section.rva rva is.from) (le-leb (rva + 4) (part.section.rva + part.section.span) is.to)

one_holds : (parts : List SectionPart) (rva : ℕ) → Any (HoldsWord rva) parts → has_word parts rva ≡ true
one_holds parts rva one = list_any-from_Any (λ (part : SectionPart). holds_word part rva) parts (one.0, one.1, one.2, one.3, holds one.1 rva one.4)

entry_again : (parts : List SectionPart) (page rva entry : ℕ) (words : List ℕ) → Relocates parts page entry words → (word : Option ℕ) × (relocated_word parts page rva entry ≡ Ok word) × (listed word ≡ words)
unfolding relocated_word
entry_again parts page rva entry words (inl none) = (None, rw (eq-eqb (entry / 4096) 0 none.0) refl, sym none.1)
entry_again parts page rva entry words (inr some) =
    let other = ne_eqb (entry / 4096) 0 (λ none. omega (arith, some.0, none)) in
    (Some (page + entry % 4096), rw (other, eq-eqb (entry / 4096) 3 some.0, one_holds parts (page + entry % 4096) some.1) refl, sym some.2)

entries_again : (parts : List SectionPart) (table : SectionPart) (page rva : ℕ) (entries words : List ℕ) → AreEntries table rva entries → RelocateInPage parts page entries words → entries_from parts table page rva (length entries) ≡ Ok words
unfolding entries_from
entries_again parts table page rva [] words stand none = ap done (sym none)
entries_again parts table page rva (entry ∷ entries) words stand relocate =
    let here = entry_again parts page rva entry relocate.0 relocate.2 in
    let rest = entries_again parts table page (rva + 2) entries relocate.1 stand.1 relocate.3 in
    let whole : listed here.0 ++ relocate.1 ≡ words = ap (λ (front : List ℕ). front ++ relocate.1) here.2 ∙ sym relocate.4 in
    rw (stand.0, here.1, rest) (ap done whole)

block_again : (parts : List SectionPart) (table : SectionPart) (end rva : ℕ) (block : Block) (words : List ℕ) → IsBlock table end rva block → RelocateInPage parts block.page block.entries words → block_at parts table end rva ≡ Ok words
unfolding block_at
block_again parts table end rva block words is relocate =
    let size = block_size block in
    let even : size % 2 ≡ 0 = omega arith in
    let count : (size - 8) / 2 ≡ length block.entries = omega arith in
    let good : is_block end rva size ≡ true = and_from (nat_le 8 size && (size % 2 == 0)) (nat_le (rva + size) end) (and_from (nat_le 8 size) (size % 2 == 0) (le-leb 8 size (omega arith)) (eq-eqb (size % 2) 0 even)) (le-leb (rva + size) end is.within) in
    rw (is.size, good, is.page, count) (entries_again parts table block.page (rva + 8) block.entries words is.entries relocate)

-- where a block stands the table is not over
goes_on : (table : SectionPart) (end rva : ℕ) (block : Block) → IsBlock table end rva block → is_over table end rva ≡ false
goes_on table end rva block is =
    let room : nat_lt end (rva + 8) ≡ false = le-ltb end (rva + 8) (omega (arith, is.within)) in
    let sized : ((word_of table rva == 0) && (word_of table (rva + 4) == 0)) ≡ false = and_right (word_of table rva == 0) (word_of table (rva + 4) == 0) (ne_eqb (word_of table (rva + 4)) 0 (λ none. omega (arith, is.size, none))) in
    rw (room, sized) refl

over_again : (table : SectionPart) (end rva : ℕ) → IsOver table end rva → is_over table end rva ≡ true
over_again table end rva (inl past) = or_left (nat_lt end (rva + 8)) ((word_of table rva == 0) && (word_of table (rva + 4) == 0)) (lt-ltb end (rva + 8) past)
over_again table end rva (inr zeros) =
    or_right (nat_lt end (rva + 8)) ((word_of table rva == 0) && (word_of table (rva + 4) == 0))
    (and_from (word_of table rva == 0) (word_of table (rva + 4) == 0) (eq-eqb (word_of table rva) 0 zeros.0) (eq-eqb (word_of table (rva + 4)) 0 zeros.1))

blocks_again : (parts : List SectionPart) (table : SectionPart) (end rva n : ℕ) (blocks : List Block) (words : List ℕ) → end < rva + 8 + n → AreBlocks table end rva blocks → Relocate parts blocks words → blocks_from parts table end rva n ≡ Ok words
unfolding blocks_from
blocks_again parts table end rva zero [] words most stand none = ap done (sym none)
blocks_again parts table end rva zero (block ∷ blocks) words most stand relocate = absurd (omega (arith, stand.0.within))
blocks_again parts table end rva (suc n) [] words most stand none = rw (over_again table end rva stand) (ap done (sym none))
blocks_again parts table end rva (suc n) (block ∷ blocks) words most stand relocate =
    let here = block_again parts table end rva block relocate.0 stand.0 relocate.2 in
    let rest = blocks_again parts table end (rva + block_size block) n blocks relocate.1 (omega (arith, most)) stand.1 relocate.3 in
    rw (goes_on table end rva block stand.0, here, stand.0.size, rest) (ap done (sym relocate.4))

relocations_again : (parts : List SectionPart) (directory : Directory) (table : SectionPart) (words : List ℕ) → (blocks : List Block) × AreBlocks table (directory.rva + directory.size) directory.rva blocks × Relocate parts blocks words
    → relocations_in parts directory (Some table) ≡ Ok words
unfolding relocations_in
relocations_again parts directory table words spelled = blocks_again parts table (directory.rva + directory.size) directory.rva directory.size spelled.0 words (omega arith) spelled.1 spelled.2

pub relocations : (parts : List SectionPart) (directory : Directory) (table : SectionPart) (words : List ℕ)
    → (relocations_in parts directory (Some table) ≡ Ok words) ↔ ((blocks : List Block) × AreBlocks table (directory.rva + directory.size) directory.rva blocks × Relocate parts blocks words)
relocations parts directory table words = (relocations_read parts directory table words, relocations_again parts directory table words)

-- ---- imports
thunk_again : (parts : List SectionPart) (dll : List ℕ) (thunk slot : ℕ) (function : ImportParts) → IsThunk parts dll thunk slot function → import_at parts dll thunk slot ≡ Ok (Some function)
unfolding import_at named_import
thunk_again parts dll thunk slot function is =
    let some = ne_eqb is.hint 0 (λ none. omega (arith, is.some, none)) in
    let by_name = lt-ltb is.hint 0x80000000 is.by_name in
    rw (is.stands, some, by_name, is.slot_stands.1, name_again parts (is.hint + 2) function.name is.name)
    (λ i. Ok (Some (record { dll = sym is.of_dll i; name = function.name; slot = sym is.of_slot i })))

last_thunk : (parts : List SectionPart) (dll : List ℕ) (thunk slot : ℕ) → word_at parts thunk ≡ Some 0 → import_at parts dll thunk slot ≡ Ok None
unfolding import_at
last_thunk parts dll thunk slot is = rw is refl

thunks_again : (parts : List SectionPart) (dll : List ℕ) (thunk slot n : ℕ) (functions : List ImportParts) → AreThunks parts dll thunk slot functions → length functions ≤ n → imports_from parts dll thunk slot n ≡ Ok functions
thunks_again parts dll thunk slot n [] stand few = imports-end parts dll thunk slot n (last_thunk parts dll thunk slot stand)
thunks_again parts dll thunk slot zero (function ∷ functions) stand few = absurd (omega arith)
thunks_again parts dll thunk slot (suc n) (function ∷ functions) stand few =
    imports-on parts dll thunk slot n function (thunk_again parts dll thunk slot function stand.0)
    ∙ ap (λ (r : Result (List ImportParts) PeRefusal). r >>= λ more. Ok (function ∷ more)) (thunks_again parts dll (thunk + 4) (slot + 4) n functions stand.1 (omega arith))

chosen_thunks : (original first thunks : ℕ) → ((original ≡ 0) × (thunks ≡ first)) ⊎ ((0 < original) × (thunks ≡ original)) → (if original == 0 then first else original) ≡ thunks
chosen_thunks original first thunks (inl none) = rw (eq-eqb original 0 none.0) (sym none.1)
chosen_thunks original first thunks (inr some) = rw (ne_eqb original 0 (λ none. omega (arith, some.0, none))) (sym some.1)

descriptor_again : (parts : List SectionPart) (rva : ℕ) (head : Descriptor) → StandsAt parts rva head → descriptor_at parts rva ≡ Ok head
unfolding descriptor_at
descriptor_again parts rva head is =
    let thunks = chosen_thunks is.original head.slots head.thunks is.thunks in
    rw (is.original_stands, is.time_stands.1, is.chain_stands.1, is.name_stands, is.first_stands) (λ i. Ok (record { thunks = thunks i; name = head.name; slots = head.slots }))

imports_of_again : (parts : List SectionPart) (rva n : ℕ) (functions : List ImportParts) (is : IsDescriptor parts rva functions) → length functions ≤ n → imports_of parts is.head n ≡ Ok functions
unfolding imports_of
imports_of_again parts rva n functions is few =
    rw (name_again parts is.head.name is.dll is.dll_name) (thunks_again parts is.dll is.head.thunks is.head.slots n functions is.thunks few)

descriptors_again : (parts : List SectionPart) (rva count n : ℕ) (lists : List (List ImportParts)) → AreDescriptors parts rva lists → length lists < count → length (joined lists) ≤ n → descriptors_from parts rva count n ≡ Ok (joined lists)
descriptors_again parts rva zero n lists stand room few = absurd (omega arith)
descriptors_again parts rva (suc count) n [] stand room few = descriptors-end parts rva count n stand.0 (descriptor_again parts rva stand.0 stand.1) (eq-eqb stand.0.name 0 stand.2)
descriptors_again parts rva (suc count) n (functions ∷ lists) stand room few =
    let is : IsDescriptor parts rva functions = stand.0 in
    let whole : length (functions ++ joined lists) ≡ length functions + length (joined lists) = length-append functions (joined lists) in
    let here : imports_of parts is.head n ≡ Ok functions = imports_of_again parts rva n functions is (omega (arith, whole, few)) in
    let rest : descriptors_from parts (rva + 20) count (n - length functions) ≡ Ok (joined lists) = descriptors_again parts (rva + 20) count (n - length functions) lists stand.1 (omega arith) (omega (arith, whole, few)) in
    descriptors-on parts rva count n is.head (descriptor_again parts rva is.head is.stands) (ne_eqb is.head.name 0 (λ none. omega (arith, is.some, none)))
    ∙ rw (here, rest) refl

imports_again : (parts : List SectionPart) (rva : ℕ) (functions : List ImportParts) → 0 < rva
    → (lists : List (List ImportParts)) × AreDescriptors parts rva lists × (functions ≡ joined lists) × (length lists < most_descriptors) × (length functions ≤ 4096) → imports_in parts rva ≡ Ok functions
unfolding imports_in
imports_again parts rva functions some spelled =
    let few : length (joined spelled.0) ≤ 4096 = subst (λ (fs : List ImportParts). length fs ≤ 4096) spelled.2 spelled.4 in
    let there = ne_eqb rva 0 (λ none. omega (arith, some, none)) in
    rw there (descriptors_again parts rva most_descriptors 4096 spelled.0 spelled.1 spelled.3 few ∙ ap done (sym spelled.2))

pub imports : (parts : List SectionPart) (rva : ℕ) (functions : List ImportParts) → 0 < rva
    → (imports_in parts rva ≡ Ok functions) ↔ ((lists : List (List ImportParts)) × AreDescriptors parts rva lists × (functions ≡ joined lists) × (length lists < most_descriptors) × (length functions ≤ 4096))
imports parts rva functions some = (imports_read parts rva functions some, imports_again parts rva functions some)

-- ---- as many descriptors as there is room for
descriptor_low : (parts : List SectionPart) (rva : ℕ) (head : Descriptor) → All IsLow parts → StandsAt parts rva head → rva + 20 ≤ 0x400000
descriptor_low parts rva head low is =
    elim (cases_lt (rva + 19) 0x400000) [
      | inl below ↦ omega arith
      | inr past ↦ absurd (let wrong = sym (descriptor_again parts rva head is) ∙ descriptor_past parts rva low past in cc)
    ]

descriptors_low : (parts : List SectionPart) (rva : ℕ) (lists : List (List ImportParts)) → All IsLow parts → AreDescriptors parts rva lists → rva + 20 * length lists + 20 ≤ 0x400000
descriptors_low parts rva [] low stand = let here = descriptor_low parts rva stand.0 low stand.1 in omega (arith, here)
descriptors_low parts rva (functions ∷ lists) low stand = let rest = descriptors_low parts (rva + 20) lists low stand.1 in omega (arith, rest)

pub few_descriptors : (parts : List SectionPart) (rva : ℕ) (lists : List (List ImportParts)) → All IsLow parts → AreDescriptors parts rva lists → length lists < most_descriptors
few_descriptors parts rva lists low stand = omega (arith, descriptors_low parts rva lists low stand)
