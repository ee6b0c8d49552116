-- Imports, step by step.
use Rattle.std.proofs.Common.{◌≡◌, ℕ, zero, suc, ◌+◌, ◌-◌, true, false, eqb, List, [], ◌∷◌, ◌++◌, length, Option, None, Some, Result, Ok, Err, refl}
use Rattle.std.specs.Option.{option_map}
use Rattle.arrayvec.specs.ArrayVec.{ArrayVec}
use Rattle.pe_image.specs.declared.refusal.PeRefusal.{PeRefusal}
use Rattle.pe_image.specs.declared.refusal.PeRefusal.TheVariants.{TooLarge, BadImport}
use Rattle.pe_image.specs.declared.imports.Descriptor.{Descriptor}
use Rattle.pe_image.specs.Image.{SectionPart, ImportParts}
use Rattle.pe_image.specs.Lookup.{section_byte}
use Rattle.pe_image.specs.Imports.{is_printable, text_from, import_at, imports_from, descriptor_at, imports_of, descriptors_from}
use Rattle.nd_base.specs.Results.{◌>>=◌}

pub text-none : (parts : List SectionPart) (e : PeRefusal) (rva n : ℕ) → section_byte parts rva ≡ None → text_from parts e rva (suc n) ≡ Err e
unfolding text_from
text-none parts e rva n is = rw is refl

pub text-end : (parts : List SectionPart) (e : PeRefusal) (rva n byte : ℕ) → section_byte parts rva ≡ Some byte → eqb byte 0 ≡ true → text_from parts e rva (suc n) ≡ Ok []
unfolding text_from
text-end parts e rva n byte is none = rw (is, none) refl

pub text-bad : (parts : List SectionPart) (e : PeRefusal) (rva n byte : ℕ) → section_byte parts rva ≡ Some byte → eqb byte 0 ≡ false → is_printable byte ≡ false → text_from parts e rva (suc n) ≡ Err e
unfolding text_from
text-bad parts e rva n byte is some bad = rw (is, some, bad) refl

pub text-on : (parts : List SectionPart) (e : PeRefusal) (rva n byte : ℕ) → section_byte parts rva ≡ Some byte → eqb byte 0 ≡ false → is_printable byte ≡ true
    → text_from parts e rva (suc n) ≡ (text_from parts e (rva + 1) n >>= λ others. Ok (byte ∷ others))
unfolding text_from
text-on parts e rva n byte is some good = rw (is, some, good) refl

pub text-past : (parts : List SectionPart) (e : PeRefusal) (rva : ℕ) → text_from parts e rva 0 ≡ Err e
unfolding text_from
text-past parts e rva = refl

pub imports-stop : (parts : List SectionPart) (dll : List ℕ) (thunk slot n : ℕ) (e : PeRefusal) → import_at parts dll thunk slot ≡ Err e → imports_from parts dll thunk slot n ≡ Err e
unfolding imports_from
imports-stop parts dll thunk slot zero e is = rw is refl
imports-stop parts dll thunk slot (suc n) e is = rw is refl

pub imports-end : (parts : List SectionPart) (dll : List ℕ) (thunk slot n : ℕ) → import_at parts dll thunk slot ≡ Ok None → imports_from parts dll thunk slot n ≡ Ok []
unfolding imports_from
imports-end parts dll thunk slot zero is = rw is refl
imports-end parts dll thunk slot (suc n) is = rw is refl

pub imports-full : (parts : List SectionPart) (dll : List ℕ) (thunk slot : ℕ) (function : ImportParts) → import_at parts dll thunk slot ≡ Ok (Some function) → imports_from parts dll thunk slot 0 ≡ Err TooLarge
unfolding imports_from
imports-full parts dll thunk slot function is = rw is refl

pub imports-on : (parts : List SectionPart) (dll : List ℕ) (thunk slot n : ℕ) (function : ImportParts) → import_at parts dll thunk slot ≡ Ok (Some function)
    → imports_from parts dll thunk slot (suc n) ≡ (imports_from parts dll (thunk + 4) (slot + 4) n >>= λ more. Ok (function ∷ more))
unfolding imports_from
imports-on parts dll thunk slot n function is = rw is refl

pub descriptors-past : (parts : List SectionPart) (rva n : ℕ) → descriptors_from parts rva 0 n ≡ Err (BadImport rva)
unfolding descriptors_from
descriptors-past parts rva n = refl

pub descriptors-stop : (parts : List SectionPart) (rva count n : ℕ) (e : PeRefusal) → descriptor_at parts rva ≡ Err e → descriptors_from parts rva (suc count) n ≡ Err e
unfolding descriptors_from
descriptors-stop parts rva count n e is = rw is refl

pub descriptors-end : (parts : List SectionPart) (rva count n : ℕ) (descriptor : Descriptor) → descriptor_at parts rva ≡ Ok descriptor → eqb descriptor.name 0 ≡ true → descriptors_from parts rva (suc count) n ≡ Ok []
unfolding descriptors_from
descriptors-end parts rva count n descriptor is none = rw (is, none) refl

pub descriptors-on : (parts : List SectionPart) (rva count n : ℕ) (descriptor : Descriptor) → descriptor_at parts rva ≡ Ok descriptor → eqb descriptor.name 0 ≡ false
    → descriptors_from parts rva (suc count) n ≡ (imports_of parts descriptor n >>= λ functions. descriptors_from parts (rva + 20) count (n - length functions) >>= λ others. Ok (functions ++ others))
unfolding descriptors_from
descriptors-on parts rva count n descriptor is some = rw (is, some) refl

-- what a thunk imports, where its name is read
abbrev pub named : (dll : List ℕ) → (slot : ℕ) → Option (ArrayVec ℕ) → Result (Option ImportParts) PeRefusal
named dll slot found = Ok (option_map (λ name. record { dll = dll; name = name.items; slot = slot }) found)

abbrev pub imported : (dll : List ℕ) → (slot : ℕ) → (name : List ℕ) → Result (Option ImportParts) PeRefusal
imported dll slot name = Ok (Some (record { dll = dll; name = name; slot = slot }))

-- the functions of a descriptor, and those of the descriptors behind it
abbrev pub and_others : List SectionPart → (rva count n : ℕ) → Result (List ImportParts) PeRefusal → Result (List ImportParts) PeRefusal
and_others parts rva count n read = read >>= λ functions. descriptors_from parts (rva + 20) count (n - length functions) >>= λ others. Ok (functions ++ others)
