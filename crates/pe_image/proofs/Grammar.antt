-- An image is read exactly where its file is that of the image.
use Rattle.std.proofs.Common.{◌≡◌, ℕ, zero, suc, ◌+◌, ◌<◌, ◌⊎◌, ◌↔◌, ◌&&◌, ◌==◌, inl, inr, Bool, true, false, nat_le, nat_lt, if◌then◌else◌, List, [], ◌∷◌, length, take, get_or, All, Option, None, Some, is_some, Result, Ok, Err, refl, sym, ap, ◌∙◌, subst, arith}
use Rattle.std.specs.Prelude.{Any, bit_and}
use Rattle.std.specs.List.{AllPairs}
use Rattle.std.proofs.lemmas.Bool.{and_from, or_cases, or_left, or_right, leb-true, le-leb, lt-ltb, eqb-true, eq-eqb, ne_eqb}
use Rattle.std.proofs.lemmas.List.Folds.{list_any-from_Any}
use Rattle.pe_image.specs.declared.refusal.PeRefusal.{PeRefusal}
use Rattle.pe_image.specs.declared.refusal.PeRefusal.TheVariants.{TooLarge, BadEntry, BadDirectory, RelocsStripped}
use Rattle.pe_image.specs.declared.headers.Directory.{Directory}
use Rattle.pe_image.specs.declared.headers.Headers.{Headers}
use Rattle.pe_image.specs.File.{u32_at, directory}
use Rattle.pe_image.specs.Headers.{headers_of}
use Rattle.pe_image.specs.Grammar.{characteristics_of, optional_header_offset, HasBlocks, AreRelocations, HasDescriptors, AreImports, IsImage}
use Rattle.pe_image.specs.Sections.{sections_in, IsLow}
use Rattle.pe_image.specs.Lookup.{holds_byte, section_with, section_byte, word_at}
use Rattle.pe_image.specs.Relocations.{relocation_section, relocations_in}
use Rattle.pe_image.specs.Imports.{imports_in}
use Rattle.pe_image.specs.Reading.{has_entry, is_placed, can_be_placed, image_of, imported, relocated, entered, reading}
use Rattle.pe_image.specs.Spellings.{AreDescriptors}
use Rattle.pe_image.specs.Image.{SectionPart, ImportParts, ImageParts, HoldsByte, AreApart, HoldsEntry}
use Rattle.nd_base.specs.Results.{◌>>=◌, require}
use Rattle.std.specs.Option.{ok_or}
use Rattle.pe_image.proofs.Judged.{bind_ok, require_ok, ok_is}
use Rattle.pe_image.proofs.LaidOut.{any_entry, byte_held, Any-first, Any-later, chosen, found_is, four_there, byte_there}
use Rattle.pe_image.proofs.Again.{relocations, imports, few_descriptors}
use Rattle.pe_image.proofs.HeaderFields.{bind_known, require_known, headers_in, HaveHeaders, headers_read, headers_again, not_so, directory_in, directory_read, directory_again}
use Rattle.pe_image.proofs.SectionHeaders.{not_zero, sections_read, sections_again}

-- ---- the entry point
byte_holds : (part : SectionPart) (rva : ℕ) → HoldsByte rva part → holds_byte part rva ≡ true
byte_holds part rva is = and_from (nat_le part.section.rva rva) (nat_lt rva (part.section.rva + part.section.span)) (le-leb part.section.rva rva is.from) (lt-ltb rva (part.section.rva + part.section.span) is.to)

entry_again : (image : ImageParts) (parts : List SectionPart) → Any (HoldsEntry image) parts → has_entry parts image.entry ≡ true
entry_again image parts one =
    list_any-from_Any (λ (part : SectionPart). holds_byte part image.entry && part.section.rights.execute) parts
    (one.0, one.1, one.2, one.3, and_from (holds_byte one.1 image.entry) one.1.section.rights.execute (byte_holds one.1 image.entry (record { from = one.4.from; to = one.4.to })) one.4.execute)

-- ---- the section that has an address
abbrev here : SectionPart → Option SectionPart
here part = Some part

same_part : (a b : SectionPart) → here a ≡ here b → a ≡ b
same_part a b e = cc

with_first : (P : SectionPart → Type 0) (first : SectionPart) (parts : List SectionPart) (rva : ℕ) (part : SectionPart) (b : Bool) → holds_byte first rva ≡ b → (if b then here first else section_with parts rva) ≡ here part
    → (HoldsByte rva part → P part) → (section_with parts rva ≡ here part → Any P parts) → Any P (first ∷ parts)
with_first P first parts rva part true is e f later =
    let same = same_part first part e in
    Any-first P first parts (subst P (sym same) (f (subst (HoldsByte rva) same (byte_held first rva is))))
with_first P first parts rva part false is e f later = Any-later P first parts (later e)

with_any : (P : SectionPart → Type 0) (parts : List SectionPart) (rva : ℕ) (part : SectionPart) → section_with parts rva ≡ here part → (HoldsByte rva part → P part) → Any P parts
with_any P [] rva part e f = absurd cc
with_any P (first ∷ parts) rva part e f = with_first P first parts rva part (holds_byte first rva) refl e f (λ later. with_any P parts rva part later f)

-- no other section has it
with_again : (parts : List SectionPart) (rva : ℕ) (table : SectionPart) (k : ℕ) → AllPairs AreApart parts → HoldsByte rva table → k < length parts → get_or parts k table ≡ table → section_with parts rva ≡ here table
with_again [] rva table k apart held less at = absurd (omega arith)
with_again (part ∷ parts) rva table zero apart held less at =
    ap (λ b. if b then here part else section_with parts rva) (byte_holds part rva (subst (HoldsByte rva) (sym at) held)) ∙ ap here at
with_again (part ∷ parts) rva table (suc k) apart held less at =
    let free : holds_byte part rva ≡ false = not_so (holds_byte part rva) (λ is. apart 0 (suc k) table (omega arith) less rva (byte_held part rva is) (subst (HoldsByte rva) (sym at) held)) in
    ap (λ b. if b then here part else section_with parts rva) free
    ∙ with_again parts rva table k (λ i j d before within. apart (suc i) (suc j) d (omega arith) (omega arith)) held (omega arith) at

-- ---- relocations
none_relocated : (parts : List SectionPart) (directory : Directory) (words : List ℕ) → relocations_in parts directory None ≡ Ok words → words ≡ []
unfolding relocations_in
none_relocated parts directory words e = sym (ok_is [] words e)

relocations_read : (parts : List SectionPart) (directory : Directory) (table : Option SectionPart) (words : List ℕ) → relocation_section parts directory ≡ Ok table → relocations_in parts directory table ≡ Ok words → AreRelocations parts directory words
unfolding relocation_section
relocations_read parts directory table words e read =
    elim (chosen (directory.rva == 0) (Ok None) (ok_or (section_with parts directory.rva) (BadDirectory 5) >>= λ part. require (nat_le (directory.rva + directory.size) (part.section.rva + part.section.span)) (BadDirectory 5) >>= λ _. Ok (Some part)) (Ok table) e) [
      | inl none ↦ inl (eqb-true directory.rva 0 none.0, none_relocated parts directory words (subst (λ (t : Option SectionPart). relocations_in parts directory t ≡ Ok words) (sym (ok_is None table none.1)) read))
      | inr some ↦
          let a = bind_ok (ok_or (section_with parts directory.rva) (BadDirectory 5)) (λ part. require (nat_le (directory.rva + directory.size) (part.section.rva + part.section.span)) (BadDirectory 5) >>= λ _. Ok (here part)) table some.1 in
          let fits : Bool = nat_le (directory.rva + directory.size) (a.0.section.rva + a.0.section.span) in
          let b = bind_ok (require fits (BadDirectory 5)) (λ _. Ok (here a.0)) table a.2 in
          let spelled = (relocations parts directory a.0 words).0 (subst (λ (t : Option SectionPart). relocations_in parts directory t ≡ Ok words) (sym (ok_is (here a.0) table b.2)) read) in
          inr (
            not_zero directory.rva some.0,
            with_any (HasBlocks parts directory words) parts directory.rva a.0 (found_is (BadDirectory 5) (section_with parts directory.rva) a.0 a.1) (λ first. record {
              first = first;
              whole = leb-true (directory.rva + directory.size) (a.0.section.rva + a.0.section.span) (require_ok fits (BadDirectory 5) b.0 b.1);
              blocks = spelled.0;
              stand = spelled.1;
              relocate = spelled.2;
            }),
          )
    ]

record AreRelocated (parts : List SectionPart) (directory : Directory) (words : List ℕ) : Type 0 where
  table : Option SectionPart
  placed : relocation_section parts directory ≡ Ok table
  read : relocations_in parts directory table ≡ Ok words

relocations_again : (parts : List SectionPart) (directory : Directory) (words : List ℕ) → AllPairs AreApart parts → AreRelocations parts directory words → AreRelocated parts directory words
unfolding relocation_section relocations_in
relocations_again parts directory words apart (inl none) = record { table = None; placed = rw (eq-eqb directory.rva 0 none.0) refl; read = ap Ok (sym none.1) }
relocations_again parts directory words apart (inr some) =
    let table : SectionPart = some.1.1 in
    let has : HasBlocks parts directory words table = some.1.4 in
    record {
      table = Some table;
      placed = rw (ne_eqb directory.rva 0 (λ none. omega (arith, some.0, none)), with_again parts directory.rva table some.1.0 apart has.first some.1.2 some.1.3, le-leb (directory.rva + directory.size) (table.section.rva + table.section.span) has.whole) refl;
      read = (relocations parts directory table words).1 (has.blocks, has.stand, has.relocate);
    }

-- ---- imports
zero_or : (n : ℕ) → (n ≡ 0) ⊎ (0 < n)
zero_or zero = inl refl
zero_or (suc n) = inr (omega arith)

none_imported : (parts : List SectionPart) (rva : ℕ) → rva ≡ 0 → imports_in parts rva ≡ Ok []
unfolding imports_in
none_imported parts rva none = rw (eq-eqb rva 0 none) refl

imports_read : (parts : List SectionPart) (rva : ℕ) (functions : List ImportParts) → imports_in parts rva ≡ Ok functions → AreImports parts rva functions
imports_read parts rva functions e =
    elim (zero_or rva) [
      | inl none ↦ inl (none, sym (ok_is [] functions (sym (none_imported parts rva none) ∙ e)))
      | inr some ↦ let spelled = (imports parts rva functions some).0 e in inr (some, record { lists = spelled.0; stand = spelled.1; of_lists = spelled.2; few = spelled.4 })
    ]

imports_again : (parts : List SectionPart) (rva : ℕ) (functions : List ImportParts) → All IsLow parts → AreImports parts rva functions → imports_in parts rva ≡ Ok functions
imports_again parts rva functions low (inl none) = none_imported parts rva none.0 ∙ ap Ok (sym none.1)
imports_again parts rva functions low (inr some) =
    let has : HasDescriptors parts rva functions = some.1 in
    (imports parts rva functions some.0).1 (has.lists, has.stand, has.of_lists, few_descriptors parts rva has.lists low has.stand, has.few)

word_there : (parts : List SectionPart) (rva word : ℕ) → word_at parts rva ≡ Some word → is_some (section_with parts rva) ≡ true
unfolding word_at section_byte
word_there parts rva word e =
    byte_there (section_with parts rva) rva (four_there (section_byte parts rva) (section_byte parts (rva + 1)) (section_byte parts (rva + 2)) (section_byte parts (rva + 3)) word e).0

descriptors_there : (parts : List SectionPart) (rva : ℕ) (lists : List (List ImportParts)) → AreDescriptors parts rva lists → is_some (section_with parts rva) ≡ true
descriptors_there parts rva [] stand = word_there parts rva stand.1.original stand.1.original_stands
descriptors_there parts rva (functions ∷ lists) stand = word_there parts rva stand.0.stands.original stand.0.stands.original_stands

imports_placed : (parts : List SectionPart) (rva : ℕ) (functions : List ImportParts) → AreImports parts rva functions → is_placed parts rva ≡ true
imports_placed parts rva functions (inl none) = or_left (rva == 0) (is_some (section_with parts rva)) (eq-eqb rva 0 none.0)
imports_placed parts rva functions (inr some) = or_right (rva == 0) (is_some (section_with parts rva)) (descriptors_there parts rva some.1.lists some.1.stand)

-- ---- the whole image
abbrev from_headers : List ℕ → Headers → Result ImageParts PeRefusal
from_headers bytes headers = sections_in bytes headers >>= λ sections. entered bytes headers sections

abbrev from_import_table : List ℕ → Headers → List SectionPart → Result ImageParts PeRefusal
from_import_table bytes headers sections = require (is_placed sections headers.image.imports.rva) (BadDirectory 1) >>= λ _. relocation_section sections headers.image.relocations >>= λ table. relocated bytes headers sections table

abbrev with_imports : List ℕ → Headers → List SectionPart → List ℕ → Result ImageParts PeRefusal
with_imports bytes headers sections words = imports_in sections headers.image.imports.rva >>= λ functions. Ok (image_of bytes headers sections words functions)

base_or_moved : (bytes : List ℕ) → can_be_placed (headers_in bytes) ≡ true → (bit_and (characteristics_of bytes) 1 ≡ 0) ⊎ (u32_at bytes (optional_header_offset bytes + 28) ≡ 0x80100000)
base_or_moved bytes e =
    elim (or_cases (u32_at bytes (optional_header_offset bytes + 28) == 0x80100000) (bit_and (characteristics_of bytes) 1 == 0) e) [
      | inl base ↦ inr (eqb-true (u32_at bytes (optional_header_offset bytes + 28)) 0x80100000 base)
      | inr moved ↦ inl (eqb-true (bit_and (characteristics_of bytes) 1) 0 moved)
    ]

can_be : (bytes : List ℕ) → (bit_and (characteristics_of bytes) 1 ≡ 0) ⊎ (u32_at bytes (optional_header_offset bytes + 28) ≡ 0x80100000) → can_be_placed (headers_in bytes) ≡ true
can_be bytes (inl moved) = or_right (u32_at bytes (optional_header_offset bytes + 28) == 0x80100000) (bit_and (characteristics_of bytes) 1 == 0) (eq-eqb (bit_and (characteristics_of bytes) 1) 0 moved)
can_be bytes (inr base) = or_left (u32_at bytes (optional_header_offset bytes + 28) == 0x80100000) (bit_and (characteristics_of bytes) 1 == 0) (eq-eqb (u32_at bytes (optional_header_offset bytes + 28)) 0x80100000 base)

pub image_read : (bytes : List ℕ) (image : ImageParts) → reading bytes ≡ Ok image → IsImage bytes image
unfolding reading
image_read bytes image e =
    let headers : Headers = headers_in bytes in
    let a = bind_ok (require (nat_le (length bytes) 0x400000) TooLarge) (λ _. headers_of bytes >>= from_headers bytes) image e in
    let b = bind_ok (headers_of bytes) (from_headers bytes) image a.2 in
    let have = headers_read bytes b.0 b.1 in
    let c = bind_ok (sections_in bytes headers) (entered bytes headers) image (subst (λ (h : Headers). from_headers bytes h ≡ Ok image) have.1 b.2) in
    let sections : List SectionPart = c.0 in
    let d = bind_ok (require (has_entry sections headers.image.entry) BadEntry) (λ _. from_import_table bytes headers sections) image c.2 in
    let f = bind_ok (require (is_placed sections headers.image.imports.rva) (BadDirectory 1)) (λ _. relocation_section sections headers.image.relocations >>= λ table. relocated bytes headers sections table) image d.2 in
    let g = bind_ok (relocation_section sections headers.image.relocations) (relocated bytes headers sections) image f.2 in
    let h = bind_ok (relocations_in sections headers.image.relocations g.0) (imported bytes headers sections) image g.2 in
    let i = bind_ok (require (can_be_placed headers) RelocsStripped) (λ _. with_imports bytes headers sections h.0) image h.2 in
    let j = bind_ok (imports_in sections headers.image.imports.rva) (λ functions. Ok (image_of bytes headers sections h.0 functions)) image i.2 in
    let made : ImageParts = image_of bytes headers sections h.0 j.0 in
    let has = sections_read bytes headers made sections refl refl c.1 in
    subst (IsImage bytes) {x = made} (ok_is made image j.2) (record {
      small = leb-true (length bytes) 0x400000 (require_ok (nat_le (length bytes) 0x400000) TooLarge a.0 a.1);
      dos = have.0.dos;
      file = have.0.file;
      optional = record { whole = have.0.whole; fields = have.0.fields; magic = have.0.magic; entry = refl; base = refl; size = refl; small = have.0.small; header_size = refl; headers = refl };
      sections = record { table = has.stand; each = has.each; inside = has.inside; apart = has.apart };
      entry = any_entry made sections (require_ok (has_entry sections headers.image.entry) BadEntry d.0 d.1);
      relocations = record {
        table = directory_in bytes 5;
        stands = directory_read bytes 5;
        words = relocations_read sections headers.image.relocations g.0 h.0 g.1 h.1;
        movable = base_or_moved bytes (require_ok (can_be_placed headers) RelocsStripped i.0 i.1);
      };
      imports = record { table = directory_in bytes 1; stands = directory_read bytes 1; functions = imports_read sections headers.image.imports.rva j.0 j.1 };
    })

have_headers : (bytes : List ℕ) (image : ImageParts) → IsImage bytes image → HaveHeaders bytes
have_headers bytes image is = record {
  dos = is.dos;
  file = is.file;
  whole = is.optional.whole;
  fields = is.optional.fields;
  magic = is.optional.magic;
  small = omega (arith, is.optional.size, is.optional.small);
}

-- the parts of the image are those that were read
parts_are : (bytes : List ℕ) (image : ImageParts) → IsImage bytes image → image_of bytes (headers_in bytes) image.sections image.relocations image.imports ≡ image
parts_are bytes image is =
    let of = is.optional in
    let headers : take (u32_at bytes (optional_header_offset bytes + 60)) bytes ≡ image.headers = ap (λ (n : ℕ). take n bytes) of.header_size ∙ sym of.headers in
    λ i. record { base = of.base i; entry = of.entry i; size = of.size i; header_size = of.header_size i; headers = headers i; sections = image.sections; relocations = image.relocations; imports = image.imports }

pub image_again : (bytes : List ℕ) (image : ImageParts) → IsImage bytes image → reading bytes ≡ Ok image
unfolding reading
image_again bytes image is =
    let headers : Headers = headers_in bytes in
    let sections : List SectionPart = image.sections in
    let end : Result ImageParts PeRefusal = Ok image in
    let of = is.optional in
    let low : All IsLow sections = λ k d less. let lie = is.sections.inside k d less in omega (arith, lie.inside, of.small) in
    let entry : has_entry sections headers.image.entry ≡ true = subst (λ (rva : ℕ). has_entry sections rva ≡ true) (sym of.entry) (entry_again image sections is.entry) in
    let spelled : AreRelocations sections headers.image.relocations image.relocations = subst (λ (table : Directory). AreRelocations sections table image.relocations) (directory_again bytes 5 is.relocations.table is.relocations.stands) is.relocations.words in
    let words = relocations_again sections headers.image.relocations image.relocations is.sections.apart spelled in
    let functions : AreImports sections headers.image.imports.rva image.imports = subst (λ (table : Directory). AreImports sections table.rva image.imports) (directory_again bytes 1 is.imports.table is.imports.stands) is.imports.functions in
    let can : can_be_placed headers ≡ true = can_be bytes (subst (λ (base : ℕ). (bit_and (characteristics_of bytes) 1 ≡ 0) ⊎ (base ≡ 0x80100000)) (sym of.base) is.relocations.movable) in
    require_known (nat_le (length bytes) 0x400000) TooLarge (λ _. headers_of bytes >>= from_headers bytes) end (le-leb (length bytes) 0x400000 is.small)
    (bind_known (headers_of bytes) (from_headers bytes) headers end (headers_again bytes (have_headers bytes image is))
    (bind_known (sections_in bytes headers) (entered bytes headers) sections end (sections_again bytes headers image sections of.size of.header_size (record { stand = is.sections.table; each = is.sections.each; inside = is.sections.inside; apart = is.sections.apart }))
    (require_known (has_entry sections headers.image.entry) BadEntry (λ _. from_import_table bytes headers sections) end entry
    (require_known (is_placed sections headers.image.imports.rva) (BadDirectory 1) (λ _. relocation_section sections headers.image.relocations >>= λ table. relocated bytes headers sections table) end (imports_placed sections headers.image.imports.rva image.imports functions)
    (bind_known (relocation_section sections headers.image.relocations) (relocated bytes headers sections) words.table end words.placed
    (bind_known (relocations_in sections headers.image.relocations words.table) (imported bytes headers sections) image.relocations end words.read
    (require_known (can_be_placed headers) RelocsStripped (λ _. with_imports bytes headers sections image.relocations) end can
    (bind_known (imports_in sections headers.image.imports.rva) (λ functions. Ok (image_of bytes headers sections image.relocations functions)) image.imports end (imports_again sections headers.image.imports.rva image.imports low functions)
    (ap Ok (parts_are bytes image is))))))))))

pub images : (bytes : List ℕ) (image : ImageParts) → (reading bytes ≡ Ok image) ↔ IsImage bytes image
images bytes image = (image_read bytes image, image_again bytes image)

-- ---- what a reader's answer says
pub one_image : (bytes : List ℕ) (first second : ImageParts) → IsImage bytes first → IsImage bytes second → first ≡ second
one_image bytes first second is also = ok_is first second (sym (image_again bytes first is) ∙ image_again bytes second also)

abbrev read_ok : ImageParts → Result ImageParts PeRefusal
read_ok image = Ok image

abbrev read_err : PeRefusal → Result ImageParts PeRefusal
read_err e = Err e

pub ok_err : (image : ImageParts) (e : PeRefusal) → read_ok image ≡ read_err e → ⊥
ok_err image e same = cc
