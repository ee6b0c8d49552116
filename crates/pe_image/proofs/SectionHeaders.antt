-- The sections are read where their headers stand, and as they stand.
use Rattle.std.proofs.Common.{◌≡◌, ℕ, zero, suc, ◌+◌, ◌<◌, ◌⊎◌, ◌==◌, ◌++◌, inl, inr, Bool, true, false, not, nat_le, if◌then◌else◌, min, List, [], ◌∷◌, length, map, take, drop, get_or, All, Ok, refl, sym, ap, ◌∙◌, subst, arith}
use Rattle.std.specs.List.{AllPairs, list_any}
use Rattle.std.proofs.lemmas.Bool.{and_from, or_from, leb-true, le-leb, eqb-true, eq-eqb, ne_eqb}
use Rattle.std.proofs.lemmas.List.{length-map}
use Rattle.std.proofs.lemmas.List.Elements.{All-cons, All-nil, All-append, All-map}
use Rattle.std.proofs.lemmas.List.Folds.{list_any_none}
use Rattle.std.proofs.lemmas.List.Kept.{AllPairs-cons}
use Rattle.pe_image.specs.declared.refusal.PeRefusal.TheVariants.{Short, BadSection, Overlap}
use Rattle.pe_image.specs.declared.headers.OptionalHeader.{OptionalHeader}
use Rattle.pe_image.specs.declared.headers.SectionHeader.{SectionHeader}
use Rattle.pe_image.specs.declared.headers.Headers.{Headers}
use Rattle.pe_image.specs.File.{section_header, span_of, raw_of}
use Rattle.pe_image.specs.Grammar.{IsSpan, IsRaw, IsSection, AreSections, LiesInImage}
use Rattle.pe_image.specs.Sections.{section_table, sections_in, end_of, meets, is_inside, overlaps, section_judged, sections_judged, section_part, HasRawPart}
use Rattle.pe_image.specs.Spellings.{IsShared}
use Rattle.pe_image.specs.Image.{SectionPart, ImageParts, AreApart}
use Rattle.nd_base.specs.Results.{◌>>=◌, require}
use Rattle.pe_image.proofs.Judged.{bind_ok, require_ok, ok_is, IsInside}
use Rattle.pe_image.proofs.LaidOut.{MeetsNone, IsPlaced, all_placed, all_apart}
use Rattle.pe_image.proofs.Spelled.{shares}
use Rattle.pe_image.proofs.HeaderFields.{bind_known, require_known, not_so}

-- ---- a section and its header
pub not_zero : (n : ℕ) → (n == 0) ≡ false → 0 < n
not_zero zero e = absurd cc
not_zero (suc n) e = omega arith

span_by : (header : SectionHeader) (b : Bool) → (header.virtual_size == 0) ≡ b → ((header.virtual_size ≡ 0) × ((if b then header.raw_size else header.virtual_size) ≡ header.raw_size)) ⊎ ((0 < header.virtual_size) × ((if b then header.raw_size else header.virtual_size) ≡ header.virtual_size))
span_by header true e = inl (eqb-true header.virtual_size 0 e, refl)
span_by header false e = inr (not_zero header.virtual_size e, refl)

raw_by : (header : SectionHeader) (b : Bool) → (header.raw_pointer == 0) ≡ b
    → ((header.raw_pointer ≡ 0) × ((if b then 0 else min (span_of header) header.raw_size) ≡ 0)) ⊎ ((0 < header.raw_pointer) × ((if b then 0 else min (span_of header) header.raw_size) ≡ min (span_of header) header.raw_size))
raw_by header true e = inl (eqb-true header.raw_pointer 0 e, refl)
raw_by header false e = inr (not_zero header.raw_pointer e, refl)

span_is : (header : SectionHeader) → IsSpan header (span_of header)
span_is header = span_by header (header.virtual_size == 0) refl

span_again : (header : SectionHeader) (span : ℕ) → IsSpan header span → span ≡ span_of header
span_again header span (inl none) = rw (eq-eqb header.virtual_size 0 none.0) none.1
span_again header span (inr some) = rw (ne_eqb header.virtual_size 0 (λ none. omega (arith, some.0, none))) some.1

raw_is : (header : SectionHeader) → IsRaw header (span_of header) (raw_of header)
raw_is header = raw_by header (header.raw_pointer == 0) refl

raw_again : (header : SectionHeader) (raw : ℕ) → IsRaw header (span_of header) raw → raw ≡ raw_of header
raw_again header raw (inl none) = rw (eq-eqb header.raw_pointer 0 none.0) none.1
raw_again header raw (inr some) = rw (ne_eqb header.raw_pointer 0 (λ none. omega (arith, some.0, none))) some.1

section_is : (bytes : List ℕ) (header : SectionHeader) → HasRawPart bytes header → IsSection bytes header (section_part bytes header)
section_is bytes header within = record { name = refl; rva = refl; span = span_is header; raw = raw_is header; rights = refl; within = within; contents = refl }

record IsSectionPart (bytes : List ℕ) (header : SectionHeader) (part : SectionPart) : Type 0 where
  within : HasRawPart bytes header
  same : section_part bytes header ≡ part

section_again : (bytes : List ℕ) (header : SectionHeader) (part : SectionPart) → IsSection bytes header part → IsSectionPart bytes header part
section_again bytes header part is =
    let span : part.section.span ≡ span_of header = span_again header part.section.span is.span in
    let raw : part.section.raw ≡ raw_of header = raw_again header part.section.raw (subst (λ (s : ℕ). IsRaw header s part.section.raw) span is.raw) in
    let contents : part.bytes ≡ take (raw_of header) (drop header.raw_pointer bytes) = subst (λ (r : ℕ). part.bytes ≡ take r (drop header.raw_pointer bytes)) raw is.contents in
    record {
      within = omega (arith, is.within, raw);
      same = sym (λ i. record { section = record { name = is.name i; rva = is.rva i; span = span i; raw = raw i; rights = is.rights i }; bytes = contents i });
    }

-- ---- the section table
table_read : (bytes : List ℕ) (at n : ℕ) (headers : List SectionHeader) → All (HasRawPart bytes) headers → section_table bytes at n ≡ Ok headers → AreSections bytes at (map (section_part bytes) headers) × (length headers ≡ n)
unfolding section_table
table_read bytes at zero headers raw e = subst (λ (hs : List SectionHeader). AreSections bytes at (map (section_part bytes) hs) × (length hs ≡ 0)) (ok_is [] headers e) (tt, refl)
table_read bytes at (suc n) headers raw e =
    let a = bind_ok (require (nat_le (at + 40) (length bytes)) (Short at)) (λ _. section_table bytes (at + 40) n >>= λ others. Ok (section_header bytes at ∷ others)) headers e in
    let b = bind_ok (section_table bytes (at + 40) n) (λ others. Ok (section_header bytes at ∷ others)) headers a.2 in
    let whole : section_header bytes at ∷ b.0 ≡ headers = ok_is (section_header bytes at ∷ b.0) headers b.2 in
    let raw_parts : All (HasRawPart bytes) (section_header bytes at ∷ b.0) = subst (All (HasRawPart bytes)) (sym whole) raw in
    let rest = table_read bytes (at + 40) n b.0 (λ k d less. raw_parts (suc k) d (omega arith)) b.1 in
    subst (λ (hs : List SectionHeader). AreSections bytes at (map (section_part bytes) hs) × (length hs ≡ suc n)) whole
    ((leb-true (at + 40) (length bytes) (require_ok (nat_le (at + 40) (length bytes)) (Short at) a.0 a.1), section_is bytes (section_header bytes at) (raw_parts 0 (section_header bytes at) (omega arith)), rest.0), ap suc rest.1)

record IsTable (bytes : List ℕ) (at : ℕ) (parts : List SectionPart) : Type 0 where
  headers : List SectionHeader
  stands : section_table bytes at (length parts) ≡ Ok headers
  within : All (HasRawPart bytes) headers
  same : map (section_part bytes) headers ≡ parts

table_again : (bytes : List ℕ) (at : ℕ) (parts : List SectionPart) → AreSections bytes at parts → IsTable bytes at parts
unfolding section_table
table_again bytes at [] stand = record { headers = []; stands = refl; within = All-nil (HasRawPart bytes); same = refl }
table_again bytes at (part ∷ parts) stand =
    let here = section_again bytes (section_header bytes at) part stand.1 in
    let rest = table_again bytes (at + 40) parts stand.2 in
    record {
      headers = section_header bytes at ∷ rest.headers;
      stands = rw (le-leb (at + 40) (length bytes) stand.0, rest.stands) refl;
      within = All-cons (HasRawPart bytes) (section_header bytes at) rest.headers here.within rest.within;
      same = λ i. here.same i ∷ rest.same i;
    }

-- ---- sections that share no address
none_shared : (header : SectionHeader) (start end : ℕ) → ((rva : ℕ) → IsShared header start end rva → ⊥) → meets header start end ≡ false
none_shared header start end none = not_so (meets header start end) (λ met. let shared = (shares header start end).0 met in none shared.0 shared.1)

meet_none : (bytes : List ℕ) (other header : SectionHeader) → AreApart (section_part bytes other) (section_part bytes header) → MeetsNone other header
meet_none bytes other header apart = none_shared header other.virtual_address (end_of other) (λ rva shared. apart rva (record { from = shared.low; to = shared.high }) (record { from = shared.from; to = shared.to }))

-- what holds of each of the parts holds of each of the headers
unmapped : (bytes : List ℕ) (P : SectionPart → Type 0) (Q : SectionHeader → Type 0) (headers : List SectionHeader) → ((header : SectionHeader) → P (section_part bytes header) → Q header) → All P (map (section_part bytes) headers) → All Q headers
unmapped bytes P Q [] f all = All-nil Q
unmapped bytes P Q (header ∷ headers) f all = All-cons Q header headers (f header (all 0 (section_part bytes header) (omega arith))) (unmapped bytes P Q headers f (λ k d less. all (suc k) d (omega arith)))

all_meet_none : (bytes : List ℕ) (headers : List SectionHeader) → AllPairs AreApart (map (section_part bytes) headers) → AllPairs MeetsNone headers
all_meet_none bytes [] apart = λ i j d before less. absurd (omega arith)
all_meet_none bytes (header ∷ headers) apart =
    AllPairs-cons MeetsNone header headers
    (unmapped bytes (AreApart (section_part bytes header)) (MeetsNone header) headers (meet_none bytes header) (λ k d less. apart 0 (suc k) d (omega arith) (omega arith)))
    (all_meet_none bytes headers (λ i j d before less. apart (suc i) (suc j) d (omega arith) (omega arith)))

record IsClear (image : OptionalHeader) (file_size : ℕ) (header : SectionHeader) : Type 0 where
  place : IsInside image file_size header
  clear : meets header 0 image.header_size ≡ false

one_judged : (image : OptionalHeader) (file_size : ℕ) (earlier : List SectionHeader) (header : SectionHeader) → IsClear image file_size header → All (λ other. MeetsNone other header) earlier → section_judged image file_size earlier header ≡ Ok tt
unfolding section_judged
one_judged image file_size earlier header is none =
    let inside : is_inside image file_size header ≡ true = and_from (nat_le (end_of header) image.image_size) (nat_le (header.raw_pointer + raw_of header) file_size) (le-leb (end_of header) image.image_size is.place.inside) (le-leb (header.raw_pointer + raw_of header) file_size is.place.raw) in
    let met = λ (other : SectionHeader). meets header other.virtual_address (end_of other) in
    let free : overlaps image earlier header ≡ false = or_from (meets header 0 image.header_size) (list_any met earlier) is.clear (list_any_none met earlier none) in
    require_known (is_inside image file_size header) (BadSection (length earlier)) (λ _. require (not (overlaps image earlier header)) (Overlap (length earlier))) (Ok tt) inside
    (ap (λ b. require (not b) (Overlap (length earlier))) free)

judged_again : (image : OptionalHeader) (file_size : ℕ) (earlier headers : List SectionHeader) → All (IsClear image file_size) headers → All (λ header. All (λ other. MeetsNone other header) earlier) headers → AllPairs MeetsNone headers
    → sections_judged image file_size earlier headers ≡ Ok tt
unfolding sections_judged
judged_again image file_size earlier [] clear none apart = refl
judged_again image file_size earlier (header ∷ headers) clear none apart =
    bind_known (section_judged image file_size earlier header) (λ _. sections_judged image file_size (earlier ++ header ∷ []) headers) tt (Ok tt)
    (one_judged image file_size earlier header (clear 0 header (omega arith)) (none 0 header (omega arith)))
    (judged_again image file_size (earlier ++ header ∷ []) headers (λ k d less. clear (suc k) d (omega arith))
    (λ k d less. All-append (λ other. MeetsNone other (get_or headers k d)) earlier (header ∷ []) (none (suc k) d (omega arith))
    (All-cons (λ other. MeetsNone other (get_or headers k d)) header [] (apart 0 (suc k) d (omega arith) (omega arith)) (All-nil (λ other. MeetsNone other (get_or headers k d)))))
    (λ i j d before less. apart (suc i) (suc j) d (omega arith) (omega arith)))

-- ---- the sections of a file
pub record SectionsStand (bytes : List ℕ) (headers : Headers) (image : ImageParts) (sections : List SectionPart) : Type 0 where
  pub stand : AreSections bytes headers.section_table sections
  pub each : length sections ≡ headers.file.section_count
  pub inside : All (LiesInImage image) sections
  pub apart : AllPairs AreApart sections

lies : (bytes : List ℕ) (headers : Headers) (image : ImageParts) (header : SectionHeader) → headers.image.image_size ≡ image.size → headers.image.header_size ≡ image.header_size
    → IsPlaced headers.image (length bytes) header → LiesInImage image (section_part bytes header)
lies bytes headers image header size header_size is = record {
  inside = omega (arith, is.place.inside, size);
  behind_headers = λ rva held. let behind = is.behind (omega (arith, held.from, held.to)) in omega (arith, held.from, behind, header_size);
}

pub sections_read : (bytes : List ℕ) (headers : Headers) (image : ImageParts) (sections : List SectionPart) → headers.image.image_size ≡ image.size → headers.image.header_size ≡ image.header_size
    → sections_in bytes headers ≡ Ok sections → SectionsStand bytes headers image sections
unfolding sections_in
sections_read bytes headers image sections size header_size e =
    let a = bind_ok (section_table bytes headers.section_table headers.file.section_count) (λ table. sections_judged headers.image (length bytes) [] table >>= λ _. Ok (map (section_part bytes) table)) sections e in
    let b = bind_ok (sections_judged headers.image (length bytes) [] a.0) (λ _. Ok (map (section_part bytes) a.0)) sections a.2 in
    let placed = all_placed headers.image (length bytes) [] a.0 b.0 b.1 in
    let read = table_read bytes headers.section_table headers.file.section_count a.0 (λ k d less. (placed k d less).place.raw) a.1 in
    subst (SectionsStand bytes headers image) (ok_is (map (section_part bytes) a.0) sections b.2) (record {
      stand = read.0;
      each = length-map a.0 (section_part bytes) ∙ read.1;
      inside = All-map (LiesInImage image) (section_part bytes) a.0 (λ k d less. lies bytes headers image (get_or a.0 k d) size header_size (placed k d less));
      apart = all_apart headers.image bytes (length bytes) [] a.0 b.0 b.1;
    })

clear_of : (bytes : List ℕ) (headers : Headers) (image : ImageParts) (header : SectionHeader) → headers.image.image_size ≡ image.size → headers.image.header_size ≡ image.header_size
    → HasRawPart bytes header → LiesInImage image (section_part bytes header) → IsClear headers.image (length bytes) header
clear_of bytes headers image header size header_size raw is = record {
  place = record { inside = omega (arith, is.inside, size); raw = raw };
  clear = none_shared header 0 headers.image.header_size (λ rva shared.
      let behind = is.behind_headers rva (record { from = shared.from; to = shared.to }) in absurd (omega (arith, shared.high, behind, header_size)));
}

pub sections_again : (bytes : List ℕ) (headers : Headers) (image : ImageParts) (sections : List SectionPart) → headers.image.image_size ≡ image.size → headers.image.header_size ≡ image.header_size
    → SectionsStand bytes headers image sections → sections_in bytes headers ≡ Ok sections
unfolding sections_in
sections_again bytes headers image sections size header_size has =
    let table = table_again bytes headers.section_table sections has.stand in
    let stands : section_table bytes headers.section_table headers.file.section_count ≡ Ok table.headers = subst (λ (n : ℕ). section_table bytes headers.section_table n ≡ Ok table.headers) has.each table.stands in
    let lie : All (λ header. LiesInImage image (section_part bytes header)) table.headers =
    unmapped bytes (LiesInImage image) (λ header. LiesInImage image (section_part bytes header)) table.headers (λ header is. is) (subst (All (LiesInImage image)) (sym table.same) has.inside) in
    let clear : All (IsClear headers.image (length bytes)) table.headers = λ k d less. clear_of bytes headers image (get_or table.headers k d) size header_size (table.within k d less) (lie k d less) in
    let apart = all_meet_none bytes table.headers (subst (AllPairs AreApart) (sym table.same) has.apart) in
    bind_known (section_table bytes headers.section_table headers.file.section_count) (λ listed. sections_judged headers.image (length bytes) [] listed >>= λ _. Ok (map (section_part bytes) listed)) table.headers (Ok sections) stands
    (bind_known (sections_judged headers.image (length bytes) [] table.headers) (λ _. Ok (map (section_part bytes) table.headers)) tt (Ok sections)
    (judged_again headers.image (length bytes) [] table.headers clear (λ k d less. All-nil (λ other. MeetsNone other (get_or table.headers k d))) apart)
    (ap Ok table.same))
