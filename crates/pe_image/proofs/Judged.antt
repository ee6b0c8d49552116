-- Sections that are judged in order, and what is known of those that are right.
use Rattle.std.proofs.Common.{◌≡◌, ℕ, zero, suc, ◌+◌, ◌<◌, ◌≤◌, Bool, true, false, not, List, [], ◌∷◌, ◌++◌, length, get_or, take, drop, map, All, Result, Ok, Err, refl, sym, ap, ◌∙◌, arith}
use Rattle.std.proofs.Math.Seq.{drop-cons}
use Rattle.std.proofs.Math.ListN.{drop_of_length-le}
use Rattle.std.proofs.lemmas.Bool.{and_parts, leb-true, not-true}
use Rattle.std.proofs.lemmas.List.{take_more}
use Rattle.std.proofs.lemmas.List.Elements.{All-cons, All-nil}
use Rattle.pe_image.specs.declared.refusal.PeRefusal.{PeRefusal}
use Rattle.pe_image.specs.declared.refusal.PeRefusal.TheVariants.{Short, BadSection, Overlap}
use Rattle.pe_image.specs.declared.headers.OptionalHeader.{OptionalHeader}
use Rattle.pe_image.specs.declared.headers.SectionHeader.{SectionHeader}
use Rattle.pe_image.specs.File.{section_header, raw_of}
use Rattle.pe_image.specs.Sections.{section_table, end_of, is_inside, overlaps, section_judged, sections_judged, section_part, HasRawPart, IsLow}
use Rattle.nd_base.specs.Results.{◌>>=◌, require}

-- the value of a step that did not fail
pub bind_ok : {A B : Type 0} (r : Result A PeRefusal) (f : A → Result B PeRefusal) (y : B) → (r >>= f) ≡ Ok y → (x : A) × (r ≡ Ok x) × (f x ≡ Ok y)
bind_ok (Ok x) f y e = (x, refl, e)
bind_ok (Err d) f y e = absurd cc

pub require_ok : (b : Bool) (e : PeRefusal) (x : Unit {0}) → require b e ≡ Ok x → b ≡ true
require_ok true e x h = refl
require_ok false e x h = absurd cc

abbrev done : {A : Type 0} → A → Result A PeRefusal
done x = Ok x

pub ok_is : {A : Type 0} (x y : A) → done x ≡ done y → x ≡ y
ok_is x y e = cc

pub judged-step : (image : OptionalHeader) (file_size : ℕ) (headers : List SectionHeader) (k : ℕ) (d : SectionHeader) → k < length headers
    → sections_judged image file_size (take k headers) (drop k headers) ≡ (section_judged image file_size (take k headers) (get_or headers k d) >>= λ _. sections_judged image file_size (take (k + 1) headers) (drop (k + 1) headers))
unfolding sections_judged
judged-step image file_size headers k d less =
    let next : suc k ≡ k + 1 = omega arith in
    ap (sections_judged image file_size (take k headers)) (drop-cons headers k d less)
    ∙ ap (λ (earlier : List SectionHeader). section_judged image file_size (take k headers) (get_or headers k d) >>= λ _. sections_judged image file_size earlier (drop (suc k) headers)) (sym (take_more headers k d less))
    ∙ ap (λ (n : ℕ). section_judged image file_size (take k headers) (get_or headers k d) >>= λ _. sections_judged image file_size (take (k + 1) headers) (drop n headers)) next

pub judged-on : (image : OptionalHeader) (file_size : ℕ) (headers : List SectionHeader) (k : ℕ) (d : SectionHeader) (x : Unit {0}) (total : Result (Unit {0}) PeRefusal) → k < length headers
    → section_judged image file_size (take k headers) (get_or headers k d) ≡ Ok x → sections_judged image file_size (take k headers) (drop k headers) ≡ total
    → sections_judged image file_size (take (k + 1) headers) (drop (k + 1) headers) ≡ total
judged-on image file_size headers k d x total less right so_far =
    sym (judged-step image file_size headers k d less ∙ ap (λ (r : Result (Unit {0}) PeRefusal). r >>= λ _. sections_judged image file_size (take (k + 1) headers) (drop (k + 1) headers)) right) ∙ so_far

pub judged-stop : (image : OptionalHeader) (file_size : ℕ) (headers : List SectionHeader) (k : ℕ) (d : SectionHeader) (e : PeRefusal) (total : Result (Unit {0}) PeRefusal) → k < length headers
    → section_judged image file_size (take k headers) (get_or headers k d) ≡ Err e → sections_judged image file_size (take k headers) (drop k headers) ≡ total → total ≡ Err e
judged-stop image file_size headers k d e total less wrong so_far =
    sym so_far ∙ judged-step image file_size headers k d less ∙ ap (λ (r : Result (Unit {0}) PeRefusal). r >>= λ _. sections_judged image file_size (take (k + 1) headers) (drop (k + 1) headers)) wrong

pub judged-end : (image : OptionalHeader) (file_size : ℕ) (headers : List SectionHeader) (k : ℕ) (total : Result (Unit {0}) PeRefusal) → length headers ≤ k
    → sections_judged image file_size (take k headers) (drop k headers) ≡ total → total ≡ Ok tt
unfolding sections_judged
judged-end image file_size headers k total past so_far = sym so_far ∙ ap (sections_judged image file_size (take k headers)) (drop_of_length-le headers past)

-- ---- what is right
pub table-length : (bytes : List ℕ) (at n : ℕ) (headers : List SectionHeader) → section_table bytes at n ≡ Ok headers → length headers ≡ n
unfolding section_table
table-length bytes at zero headers e = ap length (sym (ok_is [] headers e))
table-length bytes at (suc n) headers e =
    let a = bind_ok (require _ (Short at)) (λ _. section_table bytes (at + 40) n >>= λ others. Ok (section_header bytes at ∷ others)) headers e in
    let b = bind_ok (section_table bytes (at + 40) n) (λ others. Ok (section_header bytes at ∷ others)) headers a.2 in
    ap length (sym (ok_is (section_header bytes at ∷ b.0) headers b.2)) ∙ ap suc (table-length bytes (at + 40) n b.0 b.1)

-- a section lies in the image and in the file
pub record IsInside (image : OptionalHeader) (file_size : ℕ) (header : SectionHeader) : Type 0 where
  pub inside : end_of header ≤ image.image_size
  pub raw : header.raw_pointer + raw_of header ≤ file_size

-- a section that is right, behind earlier ones
pub record IsRight (image : OptionalHeader) (file_size : ℕ) (earlier : List SectionHeader) (header : SectionHeader) : Type 0 where
  pub place : IsInside image file_size header
  pub free : overlaps image earlier header ≡ false

pub right-from_judged : (image : OptionalHeader) (file_size : ℕ) (earlier : List SectionHeader) (header : SectionHeader) (x : Unit {0}) → section_judged image file_size earlier header ≡ Ok x → IsRight image file_size earlier header
unfolding section_judged
right-from_judged image file_size earlier header x e =
    let a = bind_ok (require (is_inside image file_size header) (BadSection (length earlier))) (λ _. require (not (overlaps image earlier header)) (Overlap (length earlier))) x e in
    let inside = and_parts _ _ (require_ok (is_inside image file_size header) (BadSection (length earlier)) a.0 a.1) in
    record {
      place = record { inside = leb-true _ _ inside.0; raw = leb-true _ _ inside.1 };
      free = not-true (overlaps image earlier header) (require_ok (not (overlaps image earlier header)) (Overlap (length earlier)) x a.2);
    }

pub all_inside : (image : OptionalHeader) (file_size : ℕ) (earlier headers : List SectionHeader) (x : Unit {0}) → sections_judged image file_size earlier headers ≡ Ok x → All (IsInside image file_size) headers
unfolding sections_judged
all_inside image file_size earlier [] x e = All-nil (IsInside image file_size)
all_inside image file_size earlier (header ∷ headers) x e =
    let a = bind_ok (section_judged image file_size earlier header) (λ _. sections_judged image file_size (earlier ++ header ∷ []) headers) x e in
    All-cons (IsInside image file_size) header headers (right-from_judged image file_size earlier header a.0 a.1).place (all_inside image file_size (earlier ++ header ∷ []) headers x a.2)

pub raw_parts : (image : OptionalHeader) (bytes : List ℕ) (headers : List SectionHeader) → All (IsInside image (length bytes)) headers → All (HasRawPart bytes) headers
raw_parts image bytes headers all = λ k d less. (all k d less).raw

pub all_low : (image : OptionalHeader) (bytes : List ℕ) (headers : List SectionHeader) → image.image_size ≤ 0x400000 → All (IsInside image (length bytes)) headers → All IsLow (map (section_part bytes) headers)
all_low image bytes [] small all = All-nil IsLow
all_low image bytes (header ∷ headers) small all =
    let here = all 0 header (omega arith) in
    All-cons IsLow (section_part bytes header) (map (section_part bytes) headers) (omega (arith, here.inside)) (all_low image bytes headers small (λ k d less. all (suc k) d (omega arith)))
