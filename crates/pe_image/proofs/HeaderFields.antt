-- The headers and the data directories of a file are read where they stand, and as they stand.
use Rattle.std.proofs.Common.{◌≡◌, ℕ, ◌+◌, ◌*◌, ◌≤◌, ◌&&◌, ◌==◌, inl, inr, Bool, true, false, nat_le, nat_lt, if◌then◌else◌, List, length, Result, Ok, refl, sym, ap, ◌∙◌, subst}
use Rattle.std.proofs.lemmas.Bool.{and_parts, and_from, leb-true, le-leb, ltb-true, lt-ltb, eqb-true, eq-eqb}
use Rattle.pe_image.specs.declared.refusal.PeRefusal.{PeRefusal}
use Rattle.pe_image.specs.declared.refusal.PeRefusal.TheVariants.{TooLarge, Short, NotPe, NotI386, NotPe32}
use Rattle.pe_image.specs.declared.headers.Directory.{Directory}
use Rattle.pe_image.specs.declared.headers.FileHeader.{FileHeader}
use Rattle.pe_image.specs.declared.headers.OptionalHeader.{OptionalHeader}
use Rattle.pe_image.specs.declared.headers.Headers.{Headers}
use Rattle.pe_image.specs.File.{u16_at, u32_at, file_header, has_directory, directory, optional_header}
use Rattle.pe_image.specs.Headers.{dos_header, file_header_at, optional_header_at, headers_of}
use Rattle.pe_image.specs.Grammar.{signature_offset, size_of_optional_header, optional_header_offset, section_table_offset, HasDosHeader, HasFileHeader, HasDirectory, IsDirectory}
use Rattle.nd_base.specs.Results.{◌>>=◌, require}
use Rattle.pe_image.proofs.Judged.{bind_ok, require_ok, ok_is}

-- what is behind a step whose value is known
pub bind_known : {A B : Type 0} (r : Result A PeRefusal) (f : A → Result B PeRefusal) (x : A) (y : Result B PeRefusal) → r ≡ Ok x → f x ≡ y → (r >>= f) ≡ y
bind_known r f x y is rest = ap (λ s. s >>= f) is ∙ rest

pub require_known : {B : Type 0} (b : Bool) (e : PeRefusal) (f : Unit {0} → Result B PeRefusal) (y : Result B PeRefusal) → b ≡ true → f tt ≡ y → (require b e >>= f) ≡ y
require_known b e f y is rest = ap (λ c. require c e >>= f) is ∙ rest

-- ---- the headers
abbrev pub headers_in : List ℕ → Headers
headers_in bytes = record {
  file = file_header bytes (signature_offset bytes);
  image = optional_header bytes (optional_header_offset bytes) (size_of_optional_header bytes);
  section_table = section_table_offset bytes;
}

pub record HaveHeaders (bytes : List ℕ) : Type 0 where
  pub dos : HasDosHeader bytes
  pub file : HasFileHeader bytes
  pub whole : optional_header_offset bytes + size_of_optional_header bytes ≤ length bytes
  pub fields : 96 ≤ size_of_optional_header bytes
  pub magic : u16_at bytes (optional_header_offset bytes) ≡ 0x10B
  pub small : u32_at bytes (optional_header_offset bytes + 56) ≤ 0x400000

dos_read : (bytes : List ℕ) (at : ℕ) → dos_header bytes ≡ Ok at → HasDosHeader bytes × (at ≡ signature_offset bytes)
unfolding dos_header
dos_read bytes at e =
    let a = bind_ok (require (nat_le 64 (length bytes)) (Short 0)) (λ _. require (u16_at bytes 0 == 0x5A4D) NotPe >>= λ _. Ok (u32_at bytes 0x3C)) at e in
    let b = bind_ok (require (u16_at bytes 0 == 0x5A4D) NotPe) (λ _. Ok (u32_at bytes 0x3C)) at a.2 in (
      record {
        whole = leb-true 64 (length bytes) (require_ok (nat_le 64 (length bytes)) (Short 0) a.0 a.1);
        magic = eqb-true (u16_at bytes 0) 0x5A4D (require_ok (u16_at bytes 0 == 0x5A4D) NotPe b.0 b.1);
      },
      sym (ok_is (u32_at bytes 0x3C) at b.2),
    )

dos_again : (bytes : List ℕ) → HasDosHeader bytes → dos_header bytes ≡ Ok (signature_offset bytes)
unfolding dos_header
dos_again bytes is = rw (le-leb 64 (length bytes) is.whole, eq-eqb (u16_at bytes 0) 0x5A4D is.magic) refl

record IsFileHeader (bytes : List ℕ) (at : ℕ) (file : FileHeader) : Type 0 where
  whole : at + 24 ≤ length bytes
  signature : u32_at bytes at ≡ 0x4550
  machine : u16_at bytes (at + 4) ≡ 0x14C
  fields : file ≡ file_header bytes at

file_read : (bytes : List ℕ) (at : ℕ) (file : FileHeader) → file_header_at bytes at ≡ Ok file → IsFileHeader bytes at file
unfolding file_header_at
file_read bytes at file e =
    let a = bind_ok (require (nat_le (at + 24) (length bytes)) (Short at)) (λ _. require (u32_at bytes at == 0x4550) NotPe >>= λ _. require (u16_at bytes (at + 4) == 0x14C) NotI386 >>= λ _. Ok (file_header bytes at)) file e in
    let b = bind_ok (require (u32_at bytes at == 0x4550) NotPe) (λ _. require (u16_at bytes (at + 4) == 0x14C) NotI386 >>= λ _. Ok (file_header bytes at)) file a.2 in
    let c = bind_ok (require (u16_at bytes (at + 4) == 0x14C) NotI386) (λ _. Ok (file_header bytes at)) file b.2 in
    record {
      whole = leb-true (at + 24) (length bytes) (require_ok (nat_le (at + 24) (length bytes)) (Short at) a.0 a.1);
      signature = eqb-true (u32_at bytes at) 0x4550 (require_ok (u32_at bytes at == 0x4550) NotPe b.0 b.1);
      machine = eqb-true (u16_at bytes (at + 4)) 0x14C (require_ok (u16_at bytes (at + 4) == 0x14C) NotI386 c.0 c.1);
      fields = sym (ok_is (file_header bytes at) file c.2);
    }

file_again : (bytes : List ℕ) → HasFileHeader bytes → file_header_at bytes (signature_offset bytes) ≡ Ok (file_header bytes (signature_offset bytes))
unfolding file_header_at
file_again bytes is = rw (le-leb (signature_offset bytes + 24) (length bytes) is.whole, eq-eqb (u32_at bytes (signature_offset bytes)) 0x4550 is.signature, eq-eqb (u16_at bytes (signature_offset bytes + 4)) 0x14C is.machine) refl

record IsOptionalHeader (bytes : List ℕ) (at size : ℕ) (header : OptionalHeader) : Type 0 where
  whole : at + size ≤ length bytes
  enough : 96 ≤ size
  magic : u16_at bytes at ≡ 0x10B
  fields : header ≡ optional_header bytes at size

optional_read : (bytes : List ℕ) (at size : ℕ) (header : OptionalHeader) → optional_header_at bytes at size ≡ Ok header → IsOptionalHeader bytes at size header
unfolding optional_header_at
optional_read bytes at size header e =
    let a = bind_ok (require (nat_le (at + size) (length bytes)) (Short at)) (λ _. require (nat_le 96 size && (u16_at bytes at == 0x10B)) NotPe32 >>= λ _. Ok (optional_header bytes at size)) header e in
    let b = bind_ok (require (nat_le 96 size && (u16_at bytes at == 0x10B)) NotPe32) (λ _. Ok (optional_header bytes at size)) header a.2 in
    let both = and_parts (nat_le 96 size) (u16_at bytes at == 0x10B) (require_ok (nat_le 96 size && (u16_at bytes at == 0x10B)) NotPe32 b.0 b.1) in
    record {
      whole = leb-true (at + size) (length bytes) (require_ok (nat_le (at + size) (length bytes)) (Short at) a.0 a.1);
      enough = leb-true 96 size both.0;
      magic = eqb-true (u16_at bytes at) 0x10B both.1;
      fields = sym (ok_is (optional_header bytes at size) header b.2);
    }

optional_again : (bytes : List ℕ) (at size : ℕ) → at + size ≤ length bytes → 96 ≤ size → u16_at bytes at ≡ 0x10B → optional_header_at bytes at size ≡ Ok (optional_header bytes at size)
unfolding optional_header_at
optional_again bytes at size whole enough magic = rw (le-leb (at + size) (length bytes) whole, le-leb 96 size enough, eq-eqb (u16_at bytes at) 0x10B magic) refl

abbrev sized : ℕ → FileHeader → OptionalHeader → Result Headers PeRefusal
sized signature file image =
    require (nat_le image.image_size 0x400000 && nat_le file.section_count 96) TooLarge >>= λ _. Ok (record { file = file; image = image; section_table = signature + 24 + file.optional_size })

abbrev from_file : List ℕ → ℕ → FileHeader → Result Headers PeRefusal
from_file bytes signature file = optional_header_at bytes (signature + 24) file.optional_size >>= λ image. sized signature file image

abbrev from_signature : List ℕ → ℕ → Result Headers PeRefusal
from_signature bytes signature = file_header_at bytes signature >>= λ file. from_file bytes signature file

pub headers_read : (bytes : List ℕ) (headers : Headers) → headers_of bytes ≡ Ok headers → HaveHeaders bytes × (headers ≡ headers_in bytes)
unfolding headers_of
headers_read bytes headers e =
    let at = signature_offset bytes in
    let file = file_header bytes at in
    let optional = optional_header bytes (at + 24) file.optional_size in
    let made : Headers = headers_in bytes in
    let small : Bool = nat_le optional.image_size 0x400000 && nat_le file.section_count 96 in
    let a = bind_ok (dos_header bytes) (from_signature bytes) headers e in
    let dos = dos_read bytes a.0 a.1 in
    let b = bind_ok (file_header_at bytes at) (from_file bytes at) headers (subst (λ (s : ℕ). from_signature bytes s ≡ Ok headers) dos.1 a.2) in
    let is_file = file_read bytes at b.0 b.1 in
    let c = bind_ok (optional_header_at bytes (at + 24) file.optional_size) (sized at file) headers (subst (λ (f : FileHeader). from_file bytes at f ≡ Ok headers) is_file.fields b.2) in
    let is_optional = optional_read bytes (at + 24) file.optional_size c.0 c.1 in
    let d = bind_ok (require small TooLarge) (λ _. Ok made) headers (subst (λ (o : OptionalHeader). sized at file o ≡ Ok headers) is_optional.fields c.2) in
    let both = and_parts (nat_le optional.image_size 0x400000) (nat_le file.section_count 96) (require_ok small TooLarge d.0 d.1) in (
      record {
        dos = dos.0;
        file = record { whole = is_file.whole; signature = is_file.signature; machine = is_file.machine; sections = leb-true file.section_count 96 both.1 };
        whole = is_optional.whole;
        fields = is_optional.enough;
        magic = is_optional.magic;
        small = leb-true optional.image_size 0x400000 both.0;
      },
      sym (ok_is made headers d.2),
    )

pub headers_again : (bytes : List ℕ) → HaveHeaders bytes → headers_of bytes ≡ Ok (headers_in bytes)
unfolding headers_of
headers_again bytes have =
    let at = signature_offset bytes in
    let file = file_header bytes at in
    let optional = optional_header bytes (at + 24) file.optional_size in
    let end : Result Headers PeRefusal = Ok (headers_in bytes) in
    let small : (nat_le optional.image_size 0x400000 && nat_le file.section_count 96) ≡ true = and_from (nat_le optional.image_size 0x400000) (nat_le file.section_count 96) (le-leb optional.image_size 0x400000 have.small) (le-leb file.section_count 96 have.file.sections) in
    bind_known (dos_header bytes) (from_signature bytes) at end (dos_again bytes have.dos)
    (bind_known (file_header_at bytes at) (from_file bytes at) file end (file_again bytes have.file)
    (bind_known (optional_header_at bytes (at + 24) file.optional_size) (sized at file) optional end (optional_again bytes (at + 24) file.optional_size have.whole have.fields have.magic)
    (require_known (nat_le optional.image_size 0x400000 && nat_le file.section_count 96) TooLarge (λ _. end) end small refl)))

-- ---- the data directories
pub not_so : (b : Bool) → (b ≡ true → ⊥) → b ≡ false
not_so true none = absurd (none refl)
not_so false none = refl

abbrev pub directory_in : List ℕ → ℕ → Directory
directory_in bytes index = directory bytes (optional_header_offset bytes) (size_of_optional_header bytes) index

abbrev given : List ℕ → ℕ → Directory
given bytes index = record { rva = u32_at bytes (optional_header_offset bytes + 96 + 8 * index); size = u32_at bytes (optional_header_offset bytes + 100 + 8 * index) }

abbrev left_out : Directory
left_out = record { rva = 0; size = 0 }

there_is : (bytes : List ℕ) (index : ℕ) → has_directory bytes (optional_header_offset bytes) (size_of_optional_header bytes) index ≡ true → HasDirectory bytes index
there_is bytes index e =
    let both = and_parts (nat_lt index (u32_at bytes (optional_header_offset bytes + 92))) (nat_le (96 + 8 * index + 8) (size_of_optional_header bytes)) e in
    record { counted = ltb-true index (u32_at bytes (optional_header_offset bytes + 92)) both.0; room = leb-true (96 + 8 * index + 8) (size_of_optional_header bytes) both.1 }

is_there : (bytes : List ℕ) (index : ℕ) → HasDirectory bytes index → has_directory bytes (optional_header_offset bytes) (size_of_optional_header bytes) index ≡ true
is_there bytes index has =
    and_from (nat_lt index (u32_at bytes (optional_header_offset bytes + 92))) (nat_le (96 + 8 * index + 8) (size_of_optional_header bytes))
    (lt-ltb index (u32_at bytes (optional_header_offset bytes + 92)) has.counted) (le-leb (96 + 8 * index + 8) (size_of_optional_header bytes) has.room)

directory_by : (bytes : List ℕ) (index : ℕ) (b : Bool) → has_directory bytes (optional_header_offset bytes) (size_of_optional_header bytes) index ≡ b → IsDirectory bytes index (if b then given bytes index else left_out)
directory_by bytes index true e = inl (there_is bytes index e, refl, refl)
directory_by bytes index false e = inr (λ has. let there = is_there bytes index has in cc, refl, refl)

pub directory_read : (bytes : List ℕ) (index : ℕ) → IsDirectory bytes index (directory_in bytes index)
directory_read bytes index = directory_by bytes index (has_directory bytes (optional_header_offset bytes) (size_of_optional_header bytes) index) refl

pub directory_again : (bytes : List ℕ) (index : ℕ) (table : Directory) → IsDirectory bytes index table → table ≡ directory_in bytes index
directory_again bytes index table (inl is) =
    let same : table ≡ given bytes index = λ i. record { rva = is.1 i; size = is.2 i } in
    same ∙ sym (ap (λ b. if b then given bytes index else left_out) (is_there bytes index is.0))
directory_again bytes index table (inr none) =
    let same : table ≡ left_out = λ i. record { rva = none.1 i; size = none.2 i } in
    let out = not_so (has_directory bytes (optional_header_offset bytes) (size_of_optional_header bytes) index) (λ e. none.0 (there_is bytes index e)) in
    same ∙ sym (ap (λ b. if b then given bytes index else left_out) out)
