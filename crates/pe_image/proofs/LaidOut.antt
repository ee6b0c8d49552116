-- An image that was read is laid out.
use Rattle.std.proofs.Common.{◌≡◌, ℕ, zero, suc, ◌+◌, ◌-◌, ◌/◌, ◌%◌, ◌^◌, ◌<◌, ◌≤◌, Bool, true, false, if◌then◌else◌, inl, inr, nat_le, nat_lt, ◌&&◌, ◌==◌, List, [], ◌∷◌, ◌++◌, length, get_or, drop, map, min, max, All, Option, None, Some, is_some, Result, Ok, Err, refl, ap, ◌∙◌, subst, arith, length-drop}
use Rattle.std.specs.Prelude.{Any, ◌⊎◌}
use Rattle.std.specs.List.{AllPairs, list_any}
use Rattle.std.specs.Option.{option_map}
use Rattle.std.proofs.lemmas.Bool.{and_parts, or_parts, or_cases, leb-true, ltb-true, ltb-false}
use Rattle.std.proofs.lemmas.Bool.Decides.{nat_tests}
use Rattle.std.proofs.lemmas.List.{length-take, length-take-le, get_or-drop}
use Rattle.std.proofs.lemmas.List.Elements.{All-cons, All-nil, All-append, All-weaker}
use Rattle.std.proofs.lemmas.List.Kept.{AllPairs-cons}
use Rattle.pe_image.specs.declared.refusal.PeRefusal.{PeRefusal}
use Rattle.pe_image.specs.declared.refusal.PeRefusal.TheVariants.{Short, NotPe32, BadEntry, BadDirectory, RelocsStripped, BadReloc, BadImport, Ordinal, TooLarge}
use Rattle.pe_image.specs.declared.headers.OptionalHeader.{OptionalHeader}
use Rattle.pe_image.specs.declared.headers.SectionHeader.{SectionHeader}
use Rattle.pe_image.specs.declared.headers.Headers.{Headers}
use Rattle.pe_image.specs.declared.headers.Directory.{Directory}
use Rattle.pe_image.specs.declared.imports.Descriptor.{Descriptor}
use Rattle.pe_image.specs.declared.headers.FileHeader.{FileHeader}
use Rattle.pe_image.specs.File.{u16_at, u32_at, optional_header, span_of, raw_of}
use Rattle.pe_image.specs.Headers.{dos_header, file_header_at, optional_header_at, headers_of}
use Rattle.pe_image.specs.Image.{SectionPart, ImportParts, ImageParts, HoldsByte, HoldsWord, AreApart, IsSectionLaidOut, HoldsEntry, IsInSections, IsLaidOut}
use Rattle.pe_image.specs.Sections.{section_table, sections_in, end_of, meets, overlaps, section_judged, sections_judged, section_part}
use Rattle.pe_image.specs.Lookup.{holds_byte, holds_word, byte_of, half_of, word_of, section_with, has_word, section_byte, word_from, word_at}
use Rattle.pe_image.specs.Relocations.{relocation_section, relocated_word, listed, entries_from, is_over, is_block, block_at, blocks_from, relocations_in}
use Rattle.pe_image.specs.Imports.{name_at, named_import, import_at, continued, imports_from, descriptor_at, imports_of, descriptors_from, most_descriptors, imports_in}
use Rattle.pe_image.specs.Reading.{has_entry, is_placed, can_be_placed, image_of, imported, relocated, entered, reading}
use Rattle.nd_base.specs.Results.{◌>>=◌, require}
use Rattle.std.specs.Option.{ok_or}
use Rattle.pe_image.proofs.Judged.{bind_ok, require_ok, ok_is, IsInside, right-from_judged}

-- ---- sections
raw_within : (header : SectionHeader) → raw_of header ≤ span_of header
raw_within header = grind (arith, nat_tests)

-- a section that meets nothing lies behind it or in front of it
pub apart-from_test : (header : SectionHeader) (start end rva : ℕ) → meets header start end ≡ false → header.virtual_address ≤ rva → rva < end_of header → start ≤ rva → rva < end → ⊥
apart-from_test header start end rva free from to low high = absurd (omega (arith, ltb-false (max header.virtual_address start) (min (end_of header) end) free))

none_of : (p : SectionHeader → Bool) (xs : List SectionHeader) → list_any p xs ≡ false → All (λ x. p x ≡ false) xs
none_of p [] e = All-nil (λ x. p x ≡ false)
none_of p (x ∷ xs) e = let both = or_parts (p x) (list_any p xs) e in All-cons (λ x. p x ≡ false) x xs both.0 (none_of p xs both.1)

behind_headers : (image : OptionalHeader) (earlier : List SectionHeader) (header : SectionHeader) → overlaps image earlier header ≡ false → 0 < span_of header → image.header_size ≤ header.virtual_address
behind_headers image earlier header free some =
    let both = or_parts (meets header 0 image.header_size) (list_any (λ other. meets header other.virtual_address (end_of other)) earlier) free in
    omega (arith, ltb-false (max header.virtual_address 0) (min (end_of header) image.header_size) both.0)

-- each section that is right
pub record IsPlaced (image : OptionalHeader) (file_size : ℕ) (header : SectionHeader) : Type 0 where
  pub place : IsInside image file_size header
  pub behind : 0 < span_of header → image.header_size ≤ header.virtual_address

pub all_placed : (image : OptionalHeader) (file_size : ℕ) (earlier headers : List SectionHeader) (x : Unit {0}) → sections_judged image file_size earlier headers ≡ Ok x → All (IsPlaced image file_size) headers
unfolding sections_judged
all_placed image file_size earlier [] x e = All-nil (IsPlaced image file_size)
all_placed image file_size earlier (header ∷ headers) x e =
    let a = bind_ok (section_judged image file_size earlier header) (λ _. sections_judged image file_size (earlier ++ header ∷ []) headers) x e in
    let right = right-from_judged image file_size earlier header a.0 a.1 in
    All-cons (IsPlaced image file_size) header headers (record { place = right.place; behind = behind_headers image earlier header right.free }) (all_placed image file_size (earlier ++ header ∷ []) headers x a.2)

-- no two of them meet
abbrev pub MeetsNone : SectionHeader → SectionHeader → Type 0
MeetsNone other header = meets header other.virtual_address (end_of other) ≡ false

none_met : (image : OptionalHeader) (earlier : List SectionHeader) (header : SectionHeader) → overlaps image earlier header ≡ false → All (λ other. MeetsNone other header) earlier
none_met image earlier header free =
    none_of (λ other. meets header other.virtual_address (end_of other)) earlier (or_parts (meets header 0 image.header_size) (list_any (λ other. meets header other.virtual_address (end_of other)) earlier) free).1

All-last : (P : SectionHeader → Type 0) (xs : List SectionHeader) (y : SectionHeader) → All P (xs ++ y ∷ []) → P y
All-last P [] y all = all 0 y (omega arith)
All-last P (x ∷ xs) y all = All-last P xs y (λ k d less. all (suc k) d (omega arith))

All-front : (P : SectionHeader → Type 0) (xs : List SectionHeader) (y : SectionHeader) → All P (xs ++ y ∷ []) → All P xs
All-front P [] y all = All-nil P
All-front P (x ∷ xs) y all = All-cons P x xs (all 0 x (omega arith)) (All-front P xs y (λ k d less. all (suc k) d (omega arith)))

-- each is apart from each of the earlier ones
apart_from_earlier : (image : OptionalHeader) (file_size : ℕ) (earlier headers : List SectionHeader) (x : Unit {0}) → sections_judged image file_size earlier headers ≡ Ok x → All (λ header. All (λ other. MeetsNone other header) earlier) headers
unfolding sections_judged
apart_from_earlier image file_size earlier [] x e = All-nil (λ header. All (λ other. MeetsNone other header) earlier)
apart_from_earlier image file_size earlier (header ∷ headers) x e =
    let a = bind_ok (section_judged image file_size earlier header) (λ _. sections_judged image file_size (earlier ++ header ∷ []) headers) x e in
    let right = right-from_judged image file_size earlier header a.0 a.1 in
    let later = apart_from_earlier image file_size (earlier ++ header ∷ []) headers x a.2 in
    All-cons (λ h. All (λ other. MeetsNone other h) earlier) header headers (none_met image earlier header right.free)
    (All-weaker (λ h. All (λ other. MeetsNone other h) (earlier ++ header ∷ [])) (λ h. All (λ other. MeetsNone other h) earlier) (λ h all. All-front (λ other. MeetsNone other h) earlier header all) headers later)

are_apart : (bytes : List ℕ) (other header : SectionHeader) → MeetsNone other header → AreApart (section_part bytes other) (section_part bytes header)
are_apart bytes other header free = λ rva first second. apart-from_test header other.virtual_address (end_of other) rva free second.from second.to first.from first.to

apart_from_first : (bytes : List ℕ) (header : SectionHeader) (headers : List SectionHeader) → All (MeetsNone header) headers → All (AreApart (section_part bytes header)) (map (section_part bytes) headers)
apart_from_first bytes header [] all = All-nil (AreApart (section_part bytes header))
apart_from_first bytes header (h ∷ hs) all = All-cons (AreApart (section_part bytes header)) (section_part bytes h) (map (section_part bytes) hs) (are_apart bytes header h (all 0 h (omega arith))) (apart_from_first bytes header hs (λ k d less. all (suc k) d (omega arith)))

pub all_apart : (image : OptionalHeader) (bytes : List ℕ) (file_size : ℕ) (earlier headers : List SectionHeader) (x : Unit {0}) → sections_judged image file_size earlier headers ≡ Ok x → AllPairs AreApart (map (section_part bytes) headers)
unfolding sections_judged
all_apart image bytes file_size earlier [] x e = λ i j d less within. absurd (omega arith)
all_apart image bytes file_size earlier (header ∷ headers) x e =
    let a = bind_ok (section_judged image file_size earlier header) (λ _. sections_judged image file_size (earlier ++ header ∷ []) headers) x e in
    let later = apart_from_earlier image file_size (earlier ++ header ∷ []) headers x a.2 in
    AllPairs-cons AreApart (section_part bytes header) (map (section_part bytes) headers)
    (apart_from_first bytes header headers (All-weaker (λ h. All (λ other. MeetsNone other h) (earlier ++ header ∷ [])) (λ h. MeetsNone header h) (λ h all. All-last (λ other. MeetsNone other h) earlier header all) headers later))
    (all_apart image bytes file_size (earlier ++ header ∷ []) headers x a.2)

-- ---- what is in a section
pub Any-later : (P : SectionPart → Type 0) (part : SectionPart) (parts : List SectionPart) → Any P parts → Any P (part ∷ parts)
Any-later P part parts found = (suc found.0, found.1, omega (arith, found.2), found.3, found.4)

pub Any-first : (P : SectionPart → Type 0) (part : SectionPart) (parts : List SectionPart) → P part → Any P (part ∷ parts)
Any-first P part parts here = (0, part, omega arith, refl, here)

pub byte_held : (part : SectionPart) (rva : ℕ) → holds_byte part rva ≡ true → HoldsByte rva part
byte_held part rva e =
    let both = and_parts (nat_le part.section.rva rva) (nat_lt rva (part.section.rva + part.section.span)) e in
    record { from = leb-true part.section.rva rva both.0; to = ltb-true rva (part.section.rva + part.section.span) both.1 }

word_held : (part : SectionPart) (rva : ℕ) → holds_word part rva ≡ true → HoldsWord rva part
word_held part rva e =
    let both = and_parts (nat_le part.section.rva rva) (nat_le (rva + 4) (part.section.rva + part.section.span)) e in
    record { from = leb-true part.section.rva rva both.0; to = leb-true (rva + 4) (part.section.rva + part.section.span) both.1 }

pub any_word : (parts : List SectionPart) (rva : ℕ) → has_word parts rva ≡ true → Any (HoldsWord rva) parts
any_word [] rva e = absurd cc
any_word (part ∷ parts) rva e =
    elim (or_cases (holds_word part rva) (has_word parts rva) e) [
      | inl here ↦ Any-first (HoldsWord rva) part parts (word_held part rva here)
      | inr later ↦ Any-later (HoldsWord rva) part parts (any_word parts rva later)
    ]

-- which way a test went
pub chosen : {A : Type 0} (b : Bool) (x y z : A) → (if b then x else y) ≡ z → ((b ≡ true) × (x ≡ z)) ⊎ ((b ≡ false) × (y ≡ z))
chosen true x y z e = inl (refl, e)
chosen false x y z e = inr (refl, e)

first_or_later : (part : SectionPart) (parts : List SectionPart) (rva : ℕ) (b : Bool) → holds_byte part rva ≡ b → is_some (if b then Some part else section_with parts rva) ≡ true → (is_some (section_with parts rva) ≡ true → Any (HoldsByte rva) parts) → Any (HoldsByte rva) (part ∷ parts)
first_or_later part parts rva true is e later = Any-first (HoldsByte rva) part parts (byte_held part rva is)
first_or_later part parts rva false is e later = Any-later (HoldsByte rva) part parts (later e)

any_byte : (parts : List SectionPart) (rva : ℕ) → is_some (section_with parts rva) ≡ true → Any (HoldsByte rva) parts
any_byte [] rva e = absurd cc
any_byte (part ∷ parts) rva e = first_or_later part parts rva (holds_byte part rva) refl e (any_byte parts rva)

pub byte_there : (o : Option SectionPart) (rva : ℕ) → is_some (option_map (λ part. byte_of part rva) o) ≡ true → is_some o ≡ true
byte_there None rva e = e
byte_there (Some part) rva e = refl

byte_found : (parts : List SectionPart) (rva : ℕ) → is_some (section_byte parts rva) ≡ true → Any (HoldsByte rva) parts
unfolding section_byte
byte_found parts rva e = any_byte parts rva (byte_there (section_with parts rva) rva e)

-- the bytes of a word, one by one
four_held : (parts : List SectionPart) (rva : ℕ) → Any (HoldsByte rva) parts → Any (HoldsByte (rva + 1)) parts → Any (HoldsByte (rva + 2)) parts → Any (HoldsByte (rva + 3)) parts → IsInSections parts rva
four_held parts rva a b c d zero less = let same : rva ≡ rva + 0 = omega arith in subst (λ (r : ℕ). Any (HoldsByte r) parts) same a
four_held parts rva a b c d (suc zero) less = b
four_held parts rva a b c d (suc (suc zero)) less = c
four_held parts rva a b c d (suc (suc (suc zero))) less = d
four_held parts rva a b c d (suc (suc (suc (suc k)))) less = absurd (omega arith)

-- four values, where there are four
pub four_there : (a b c d : Option ℕ) (word : ℕ) → word_from a b c d ≡ Some word → (is_some a ≡ true) × (is_some b ≡ true) × (is_some c ≡ true) × (is_some d ≡ true)
four_there None b c d word e = absurd cc
four_there (Some w) None c d word e = absurd cc
four_there (Some w) (Some x) None d word e = absurd cc
four_there (Some w) (Some x) (Some y) None word e = absurd cc
four_there (Some w) (Some x) (Some y) (Some z) word e = (refl, refl, refl, refl)

word_found : (parts : List SectionPart) (rva word : ℕ) → word_at parts rva ≡ Some word → IsInSections parts rva
unfolding word_at
word_found parts rva word e =
    let there = four_there (section_byte parts rva) (section_byte parts (rva + 1)) (section_byte parts (rva + 2)) (section_byte parts (rva + 3)) word e in
    four_held parts rva (byte_found parts rva there.0) (byte_found parts (rva + 1) there.1) (byte_found parts (rva + 2) there.2) (byte_found parts (rva + 3) there.3)

-- ---- relocations
abbrev IsWord : List SectionPart → ℕ → Type 0
IsWord parts rva = has_word parts rva ≡ true

word_is : (parts : List SectionPart) (page rva entry : ℕ) (word : Option ℕ) → relocated_word parts page rva entry ≡ Ok word → All (IsWord parts) (listed word)
unfolding relocated_word
word_is parts page rva entry word e =
    elim (chosen (entry / 4096 == 0) (Ok None) (require ((entry / 4096 == 3) && has_word parts (page + entry % 4096)) (BadReloc rva) >>= λ _. Ok (Some (page + entry % 4096))) (Ok word) e) [
      | inl none ↦ subst (λ (w : Option ℕ). All (IsWord parts) (listed w)) (ok_is None word none.1) (All-nil (IsWord parts))
      | inr some ↦
          let a = bind_ok (require ((entry / 4096 == 3) && has_word parts (page + entry % 4096)) (BadReloc rva)) (λ _. Ok (Some (page + entry % 4096))) word some.1 in
          let both = and_parts (entry / 4096 == 3) (has_word parts (page + entry % 4096)) (require_ok ((entry / 4096 == 3) && has_word parts (page + entry % 4096)) (BadReloc rva) a.0 a.1) in
          subst (λ (w : Option ℕ). All (IsWord parts) (listed w)) (ok_is (Some (page + entry % 4096)) word a.2) (All-cons (IsWord parts) (page + entry % 4096) [] both.1 (All-nil (IsWord parts)))
    ]

entries_are : (parts : List SectionPart) (table : SectionPart) (page rva n : ℕ) (words : List ℕ) → entries_from parts table page rva n ≡ Ok words → All (IsWord parts) words
unfolding entries_from
entries_are parts table page rva zero words e = subst (All (IsWord parts)) (ok_is [] words e) (All-nil (IsWord parts))
entries_are parts table page rva (suc n) words e =
    let a = bind_ok (relocated_word parts page rva (half_of table rva)) (λ word. entries_from parts table page (rva + 2) n >>= λ others. Ok (listed word ++ others)) words e in
    let b = bind_ok (entries_from parts table page (rva + 2) n) (λ others. Ok (listed a.0 ++ others)) words a.2 in
    subst (All (IsWord parts)) (ok_is (listed a.0 ++ b.0) words b.2) (All-append (IsWord parts) (listed a.0) b.0 (word_is parts page rva (half_of table rva) a.0 a.1) (entries_are parts table page (rva + 2) n b.0 b.1))

block_is : (parts : List SectionPart) (table : SectionPart) (end rva : ℕ) (words : List ℕ) → block_at parts table end rva ≡ Ok words → All (IsWord parts) words
unfolding block_at
block_is parts table end rva words e =
    let a = bind_ok (require (is_block end rva (word_of table (rva + 4))) (BadReloc rva)) (λ _. entries_from parts table (word_of table rva) (rva + 8) ((word_of table (rva + 4) - 8) / 2)) words e in
    entries_are parts table (word_of table rva) (rva + 8) ((word_of table (rva + 4) - 8) / 2) words a.2

blocks_are : (parts : List SectionPart) (table : SectionPart) (end rva n : ℕ) (words : List ℕ) → blocks_from parts table end rva n ≡ Ok words → All (IsWord parts) words
unfolding blocks_from
blocks_are parts table end rva zero words e = subst (All (IsWord parts)) (ok_is [] words e) (All-nil (IsWord parts))
blocks_are parts table end rva (suc n) words e =
    elim (chosen (is_over table end rva) (Ok []) (block_at parts table end rva >>= λ here. blocks_from parts table end (rva + word_of table (rva + 4)) n >>= λ others. Ok (here ++ others)) (Ok words) e) [
      | inl over ↦ subst (All (IsWord parts)) (ok_is [] words over.1) (All-nil (IsWord parts))
      | inr more ↦
          let a = bind_ok (block_at parts table end rva) (λ here. blocks_from parts table end (rva + word_of table (rva + 4)) n >>= λ others. Ok (here ++ others)) words more.1 in
          let b = bind_ok (blocks_from parts table end (rva + word_of table (rva + 4)) n) (λ others. Ok (a.0 ++ others)) words a.2 in
          subst (All (IsWord parts)) (ok_is (a.0 ++ b.0) words b.2) (All-append (IsWord parts) a.0 b.0 (block_is parts table end rva a.0 a.1) (blocks_are parts table end (rva + word_of table (rva + 4)) n b.0 b.1))
    ]

relocations_are : (parts : List SectionPart) (directory : Directory) (table : Option SectionPart) (words : List ℕ) → relocations_in parts directory table ≡ Ok words → All (λ rva. Any (HoldsWord rva) parts) words
unfolding relocations_in
relocations_are parts directory None words e = subst (All (λ rva. Any (HoldsWord rva) parts)) (ok_is [] words e) (All-nil (λ rva. Any (HoldsWord rva) parts))
relocations_are parts directory (Some table) words e =
    All-weaker (IsWord parts) (λ rva. Any (HoldsWord rva) parts) (any_word parts) words (blocks_are parts table (directory.rva + directory.size) directory.rva directory.size words e)

-- ---- imports
abbrev HasSlot : List SectionPart → ImportParts → Type 0
HasSlot parts function = IsInSections parts function.slot

pub found_is : {A : Type 0} (e : PeRefusal) (o : Option A) (x : A) → ok_or o e ≡ Ok x → o ≡ Some x
found_is e None x h = absurd cc
found_is e (Some y) x h = ap Some (ok_is y x h)

abbrev pub some_of : ImportParts → Option ImportParts
some_of f = Some f

abbrev pub none_of_any : Option ImportParts
none_of_any = None

some_is : (f g : ImportParts) → some_of f ≡ some_of g → f ≡ g
some_is f g e = cc

none_is_some : (f : ImportParts) → none_of_any ≡ some_of f → ⊥
none_is_some f e = absurd cc

named_slot : (parts : List SectionPart) (dll : List ℕ) (thunk slot word : ℕ) (function : ImportParts) → named_import parts dll thunk slot word ≡ Ok (Some function) → HasSlot parts function
unfolding named_import
named_slot parts dll thunk slot word function e =
    let a = bind_ok (require (nat_lt word 0x80000000) (Ordinal thunk)) (λ _. ok_or (word_at parts slot) (BadImport slot) >>= λ _. name_at parts (word + 2) >>= λ name. Ok (Some (record { dll = dll; name = name; slot = slot }))) (Some function) e in
    let b = bind_ok (ok_or (word_at parts slot) (BadImport slot)) (λ _. name_at parts (word + 2) >>= λ name. Ok (Some (record { dll = dll; name = name; slot = slot }))) (Some function) a.2 in
    let c = bind_ok (name_at parts (word + 2)) (λ name. Ok (Some (record { dll = dll; name = name; slot = slot }))) (Some function) b.2 in
    let made : ImportParts = record { dll = dll; name = c.0; slot = slot } in
    let same : made ≡ function = some_is made function (ok_is (Some made) (Some function) c.2) in
    subst (HasSlot parts) same (word_found parts slot b.0 (found_is (BadImport slot) (word_at parts slot) b.0 b.1))

import_slot : (parts : List SectionPart) (dll : List ℕ) (thunk slot : ℕ) (function : ImportParts) → import_at parts dll thunk slot ≡ Ok (Some function) → HasSlot parts function
unfolding import_at
import_slot parts dll thunk slot function e =
    let a = bind_ok (ok_or (word_at parts thunk) (BadImport thunk)) (λ word. if word == 0 then Ok None else named_import parts dll thunk slot word) (Some function) e in
    elim (chosen (a.0 == 0) (Ok None) (named_import parts dll thunk slot a.0) (Ok (Some function)) a.2) [
      | inl none ↦ absurd (none_is_some function (ok_is None (Some function) none.1))
      | inr some ↦ named_slot parts dll thunk slot a.0 function some.1
    ]

continued_are : (parts : List SectionPart) (found : Option ImportParts) (others : Result (List ImportParts) PeRefusal) (functions : List ImportParts)
    → ((function : ImportParts) → found ≡ Some function → HasSlot parts function) → ((more : List ImportParts) → others ≡ Ok more → All (HasSlot parts) more) → continued found others ≡ Ok functions → All (HasSlot parts) functions
continued_are parts None others functions first rest e = subst (All (HasSlot parts)) (ok_is [] functions e) (All-nil (HasSlot parts))
continued_are parts (Some function) others functions first rest e =
    let a = bind_ok others (λ more. Ok (function ∷ more)) functions e in
    subst (All (HasSlot parts)) (ok_is (function ∷ a.0) functions a.2) (All-cons (HasSlot parts) function a.0 (first function refl) (rest a.0 a.1))

slots_are : (parts : List SectionPart) (dll : List ℕ) (thunk slot n : ℕ) (functions : List ImportParts) → imports_from parts dll thunk slot n ≡ Ok functions → All (HasSlot parts) functions
unfolding imports_from
slots_are parts dll thunk slot zero functions e =
    let a = bind_ok (import_at parts dll thunk slot) (λ found. continued found (Err TooLarge)) functions e in
    continued_are parts a.0 (Err TooLarge) functions (λ function is. import_slot parts dll thunk slot function (a.1 ∙ ap Ok is)) (λ more wrong. absurd cc) a.2
slots_are parts dll thunk slot (suc n) functions e =
    let a = bind_ok (import_at parts dll thunk slot) (λ found. continued found (imports_from parts dll (thunk + 4) (slot + 4) n)) functions e in
    continued_are parts a.0 (imports_from parts dll (thunk + 4) (slot + 4) n) functions (λ function is. import_slot parts dll thunk slot function (a.1 ∙ ap Ok is)) (λ more is. slots_are parts dll (thunk + 4) (slot + 4) n more is) a.2

descriptor_slots : (parts : List SectionPart) (descriptor : Descriptor) (n : ℕ) (functions : List ImportParts) → imports_of parts descriptor n ≡ Ok functions → All (HasSlot parts) functions
unfolding imports_of
descriptor_slots parts descriptor n functions e =
    let a = bind_ok (name_at parts descriptor.name) (λ dll. imports_from parts dll descriptor.thunks descriptor.slots n) functions e in
    slots_are parts a.0 descriptor.thunks descriptor.slots n functions a.2

all_slots : (parts : List SectionPart) (rva count n : ℕ) (functions : List ImportParts) → descriptors_from parts rva count n ≡ Ok functions → All (HasSlot parts) functions
unfolding descriptors_from
all_slots parts rva zero n functions e = absurd cc
all_slots parts rva (suc count) n functions e =
    let a = bind_ok (descriptor_at parts rva) (λ descriptor. if descriptor.name == 0 then Ok [] else imports_of parts descriptor n >>= λ here. descriptors_from parts (rva + 20) count (n - length here) >>= λ others. Ok (here ++ others)) functions e in
    elim (chosen (a.0.name == 0) (Ok []) (imports_of parts a.0 n >>= λ here. descriptors_from parts (rva + 20) count (n - length here) >>= λ others. Ok (here ++ others)) (Ok functions) a.2) [
      | inl none ↦ subst (All (HasSlot parts)) (ok_is [] functions none.1) (All-nil (HasSlot parts))
      | inr some ↦
          let b = bind_ok (imports_of parts a.0 n) (λ here. descriptors_from parts (rva + 20) count (n - length here) >>= λ others. Ok (here ++ others)) functions some.1 in
          let c = bind_ok (descriptors_from parts (rva + 20) count (n - length b.0)) (λ others. Ok (b.0 ++ others)) functions b.2 in
          subst (All (HasSlot parts)) (ok_is (b.0 ++ c.0) functions c.2) (All-append (HasSlot parts) b.0 c.0 (descriptor_slots parts a.0 n b.0 b.1) (all_slots parts (rva + 20) count (n - length b.0) c.0 c.1))
    ]

imports_are : (parts : List SectionPart) (rva : ℕ) (functions : List ImportParts) → imports_in parts rva ≡ Ok functions → All (HasSlot parts) functions
unfolding imports_in
imports_are parts rva functions e =
    elim (chosen (rva == 0) (Ok []) (descriptors_from parts rva most_descriptors 4096) (Ok functions) e) [
      | inl none ↦ subst (All (HasSlot parts)) (ok_is [] functions none.1) (All-nil (HasSlot parts))
      | inr some ↦ all_slots parts rva most_descriptors 4096 functions some.1
    ]

-- ---- the whole image
IsBytes : List ℕ → Type 0
IsBytes bytes = (i : ℕ) → get_or bytes i 0 < 256

u32_below : (bytes : List ℕ) (at : ℕ) → IsBytes bytes → u32_at bytes at < 2 ^ 32
unfolding u32_at IsBytes
u32_below bytes at fits =
    let byte : (k : ℕ) → get_or (drop at bytes) k 0 < 256 = λ k. rw get_or-drop (fits (at + k)) in
    omega (arith, byte 0, byte 1, byte 2, byte 3)

-- the headers of a file
record AreHeaders (bytes : List ℕ) (headers : Headers) : Type 0 where
  image_size : headers.image.image_size ≤ 0x400000
  base : headers.image.image_base < 2 ^ 32

base_below : (bytes : List ℕ) (at size : ℕ) (image : OptionalHeader) → IsBytes bytes → optional_header_at bytes at size ≡ Ok image → image.image_base < 2 ^ 32
unfolding optional_header_at
base_below bytes at size image fits e =
    let a = bind_ok (require (nat_le (at + size) (length bytes)) (Short at)) (λ _. require (nat_le 96 size && (u16_at bytes at == 0x10B)) NotPe32 >>= λ _. Ok (optional_header bytes at size)) image e in
    let b = bind_ok (require (nat_le 96 size && (u16_at bytes at == 0x10B)) NotPe32) (λ _. Ok (optional_header bytes at size)) image a.2 in
    subst (λ (header : OptionalHeader). header.image_base < 2 ^ 32) (ok_is (optional_header bytes at size) image b.2) (u32_below bytes (at + 28) fits)

abbrev sized : ℕ → FileHeader → OptionalHeader → Result Headers PeRefusal
sized signature file image =
    require (nat_le image.image_size 0x400000 && nat_le file.section_count 96) TooLarge >>= λ _. Ok (record { file = file; image = image; section_table = signature + 24 + file.optional_size })

headers_are : (bytes : List ℕ) (headers : Headers) → IsBytes bytes → headers_of bytes ≡ Ok headers → AreHeaders bytes headers
unfolding headers_of
headers_are bytes headers fits e =
    let a = bind_ok (dos_header bytes) (λ signature. file_header_at bytes signature >>= λ file. optional_header_at bytes (signature + 24) file.optional_size >>= λ image. sized signature file image) headers e in
    let b = bind_ok (file_header_at bytes a.0) (λ file. optional_header_at bytes (a.0 + 24) file.optional_size >>= λ image. sized a.0 file image) headers a.2 in
    let c = bind_ok (optional_header_at bytes (a.0 + 24) b.0.optional_size) (λ image. sized a.0 b.0 image) headers b.2 in
    let made : Headers = record { file = b.0; image = c.0; section_table = a.0 + 24 + b.0.optional_size } in
    let small : Bool = nat_le c.0.image_size 0x400000 && nat_le b.0.section_count 96 in
    let d = bind_ok (require small TooLarge) (λ _. Ok made) headers c.2 in
    let both = and_parts (nat_le c.0.image_size 0x400000) (nat_le b.0.section_count 96) (require_ok small TooLarge d.0 d.1) in
    subst (AreHeaders bytes) {x = made} (ok_is made headers d.2) (record { image_size = leb-true c.0.image_size 0x400000 both.0; base = base_below bytes (a.0 + 24) b.0.optional_size c.0 fits c.1 })

-- the sections of a file
record AreSections (bytes : List ℕ) (headers : Headers) (sections : List SectionPart) : Type 0 where
  table : List SectionHeader
  sections_are : map (section_part bytes) table ≡ sections
  judged : sections_judged headers.image (length bytes) [] table ≡ Ok tt

unit_is : (x : Unit {0}) → x ≡ tt
unit_is x = refl

sections_are : (bytes : List ℕ) (headers : Headers) (sections : List SectionPart) → sections_in bytes headers ≡ Ok sections → AreSections bytes headers sections
unfolding sections_in
sections_are bytes headers sections e =
    let a = bind_ok (section_table bytes headers.section_table headers.file.section_count) (λ table. sections_judged headers.image (length bytes) [] table >>= λ _. Ok (map (section_part bytes) table)) sections e in
    let b = bind_ok (sections_judged headers.image (length bytes) [] a.0) (λ _. Ok (map (section_part bytes) a.0)) sections a.2 in
    record { table = a.0; sections_are = ok_is (map (section_part bytes) a.0) sections b.2; judged = b.1 }

sections_laid : (bytes : List ℕ) (image : ImageParts) (headers : Headers) (table : List SectionHeader) → image.size ≡ headers.image.image_size → image.header_size ≡ headers.image.header_size
    → All (IsPlaced headers.image (length bytes)) table → All (IsSectionLaidOut image) (map (section_part bytes) table)
sections_laid bytes image headers [] size header_size all = All-nil (IsSectionLaidOut image)
sections_laid bytes image headers (header ∷ table) size header_size all =
    let here = all 0 header (omega arith) in
    All-cons (IsSectionLaidOut image) (section_part bytes header) (map (section_part bytes) table) (record {
      inside = omega (arith, here.place.inside, size);
      behind_headers = λ some. omega (arith, here.behind some, header_size);
      raw = length-take-le (raw_of header) (drop header.raw_pointer bytes) (omega (arith, length-drop header.raw_pointer bytes, here.place.raw));
      raw_within = raw_within header;
    }) (sections_laid bytes image headers table size header_size (λ k d less. all (suc k) d (omega arith)))

entry_held : (image : ImageParts) (part : SectionPart) → (holds_byte part image.entry && part.section.rights.execute) ≡ true → HoldsEntry image part
entry_held image part e =
    let both = and_parts (holds_byte part image.entry) part.section.rights.execute e in
    let held = byte_held part image.entry both.0 in
    record { from = held.from; to = held.to; execute = both.1 }

pub any_entry : (image : ImageParts) (parts : List SectionPart) → has_entry parts image.entry ≡ true → Any (HoldsEntry image) parts
any_entry image [] e = absurd cc
any_entry image (part ∷ parts) e =
    elim (or_cases (holds_byte part image.entry && part.section.rights.execute) (has_entry parts image.entry) e) [
      | inl here ↦ Any-first (HoldsEntry image) part parts (entry_held image part here)
      | inr later ↦ Any-later (HoldsEntry image) part parts (any_entry image parts later)
    ]

-- the headers end where a section begins that is not empty
header_size_low : (image : ImageParts) → image.size ≤ 0x400000 → All (IsSectionLaidOut image) image.sections → Any (HoldsEntry image) image.sections → image.header_size ≤ 0x400000
header_size_low image small laid entry =
    let here : IsSectionLaidOut image entry.1 = subst (IsSectionLaidOut image) entry.3 (laid entry.0 entry.1 entry.2) in
    let some : 0 < entry.1.section.span = omega (arith, entry.4.from, entry.4.to) in
    omega (arith, here.behind_headers some, here.inside)

parts_laid_out : (bytes : List ℕ) (headers : Headers) (sections : List SectionPart) (relocations : List ℕ) (imports : List ImportParts) → AreHeaders bytes headers → AreSections bytes headers sections → has_entry sections headers.image.entry ≡ true
    → All (λ rva. Any (HoldsWord rva) sections) relocations → All (HasSlot sections) imports → IsLaidOut (image_of bytes headers sections relocations imports)
parts_laid_out bytes headers sections relocations imports of are entry relocated slots =
    let image : ImageParts = image_of bytes headers sections relocations imports in
    let laid : All (IsSectionLaidOut image) sections = subst (All (IsSectionLaidOut image)) are.sections_are (sections_laid bytes image headers are.table refl refl (all_placed headers.image (length bytes) [] are.table tt are.judged)) in
    let held : Any (HoldsEntry image) sections = any_entry image sections entry in
    record {
      base = of.base;
      size = of.image_size;
      header_size = header_size_low image of.image_size laid held;
      headers = omega (arith, length-take headers.image.header_size bytes);
      sections = laid;
      apart = subst (AllPairs AreApart) are.sections_are (all_apart headers.image bytes (length bytes) [] are.table tt are.judged);
      entry = held;
      relocations = relocated;
      imports = slots;
    }

pub laid_out : (bytes : List ℕ) (image : ImageParts) → ((i : ℕ) → get_or bytes i 0 < 256) → reading bytes ≡ Ok image → IsLaidOut image
unfolding reading IsBytes
laid_out bytes image fits e =
    let a = bind_ok (require (nat_le (length bytes) 0x400000) TooLarge) (λ _. headers_of bytes >>= λ headers. sections_in bytes headers >>= λ sections. entered bytes headers sections) image e in
    let b = bind_ok (headers_of bytes) (λ headers. sections_in bytes headers >>= λ sections. entered bytes headers sections) image a.2 in
    let headers = b.0 in
    let c = bind_ok (sections_in bytes headers) (λ sections. entered bytes headers sections) image b.2 in
    let sections = c.0 in
    let d = bind_ok (require (has_entry sections headers.image.entry) BadEntry) (λ _. require (is_placed sections headers.image.imports.rva) (BadDirectory 1) >>= λ _. relocation_section sections headers.image.relocations >>= λ table. relocated bytes headers sections table) image c.2 in
    let f = bind_ok (require (is_placed sections headers.image.imports.rva) (BadDirectory 1)) (λ _. relocation_section sections headers.image.relocations >>= λ table. relocated bytes headers sections table) image d.2 in
    let g = bind_ok (relocation_section sections headers.image.relocations) (λ table. relocated bytes headers sections table) image f.2 in
    let h = bind_ok (relocations_in sections headers.image.relocations g.0) (λ relocations. imported bytes headers sections relocations) image g.2 in
    let i = bind_ok (require (can_be_placed headers) RelocsStripped) (λ _. imports_in sections headers.image.imports.rva >>= λ imports. Ok (image_of bytes headers sections h.0 imports)) image h.2 in
    let j = bind_ok (imports_in sections headers.image.imports.rva) (λ imports. Ok (image_of bytes headers sections h.0 imports)) image i.2 in
    let made : ImageParts = image_of bytes headers sections h.0 j.0 in
    subst IsLaidOut {x = made} (ok_is made image j.2)
    (parts_laid_out bytes headers sections h.0 j.0 (headers_are bytes headers fits b.1) (sections_are bytes headers sections c.1) (require_ok (has_entry sections headers.image.entry) BadEntry d.0 d.1)
    (relocations_are sections headers.image.relocations g.0 h.0 h.1) (imports_are sections headers.image.imports.rva j.0 j.1))
