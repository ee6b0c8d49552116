-- The limits of an image that was read.
use Rattle.std.proofs.Common.{ℕ, ◌+◌, ◌<◌, ◌≤◌, inl, inr, List, [], ◌∷◌, length, get_or, All, subst, sym, arith}
use Rattle.std.specs.List.{Any}
use Rattle.std.proofs.lemmas.List.Elements.{All-cons, All-nil, All-append}
use Rattle.pe_image.specs.Image.{SectionPart, ImageParts, ImportParts, HoldsByte, HoldsWord, IsSectionLaidOut, IsLaidOut}
use Rattle.pe_image.specs.Spellings.{IsText, IsName, AreThunks, AreDescriptors, joined}
use Rattle.pe_image.specs.Grammar.{AreImports, IsImage}
use Rattle.pe_image.specs.Limits.{IsPrintableName, HasNames, IsLimited}
use Rattle.pe_image.proofs.Laws.{entry_inside, headers_before_entry}

abbrev IsPrintable : ℕ → Type 0
IsPrintable byte = (0x20 ≤ byte) × (byte ≤ 0x7E)

text_printable : (parts : List SectionPart) (rva : ℕ) (text : List ℕ) → IsText parts rva text → All IsPrintable text
text_printable parts rva [] is = All-nil IsPrintable
text_printable parts rva (byte ∷ text) is = All-cons IsPrintable byte text (is.1, is.2) (text_printable parts (rva + 1) text is.3)

printable : (parts : List SectionPart) (rva : ℕ) (name : List ℕ) → IsName parts rva name → IsPrintableName name
printable parts rva name is = record { some = is.some; short = is.short; printable = text_printable parts rva name is.text }

thunk_names : (parts : List SectionPart) (dll : List ℕ) (thunk slot : ℕ) (functions : List ImportParts) → IsPrintableName dll → AreThunks parts dll thunk slot functions → All HasNames functions
thunk_names parts dll thunk slot [] of stand = All-nil HasNames
thunk_names parts dll thunk slot (function ∷ functions) of stand =
    All-cons HasNames function functions (record { dll = subst IsPrintableName (sym stand.0.of_dll) of; name = printable parts (stand.0.hint + 2) function.name stand.0.name })
    (thunk_names parts dll (thunk + 4) (slot + 4) functions of stand.1)

all_names : (parts : List SectionPart) (rva : ℕ) (lists : List (List ImportParts)) → AreDescriptors parts rva lists → All HasNames (joined lists)
all_names parts rva [] stand = All-nil HasNames
all_names parts rva (functions ∷ lists) stand =
    let is = stand.0 in
    All-append HasNames functions (joined lists) (thunk_names parts is.dll is.head.thunks is.head.slots functions (printable parts is.head.name is.dll is.dll_name) is.thunks) (all_names parts (rva + 20) lists stand.1)

names_of : (parts : List SectionPart) (rva : ℕ) (functions : List ImportParts) → AreImports parts rva functions → All HasNames functions
names_of parts rva functions (inl none) = subst (All HasNames) (sym none.1) (All-nil HasNames)
names_of parts rva functions (inr some) = subst (All HasNames) (sym some.1.of_lists) (all_names parts rva some.1.lists some.1.stand)

few : (parts : List SectionPart) (rva : ℕ) (functions : List ImportParts) → AreImports parts rva functions → length functions < 4097
few parts rva functions (inl none) = subst (λ (fs : List ImportParts). length fs < 4097) (sym none.1) (omega arith)
few parts rva functions (inr some) = omega (arith, some.1.few)

-- what a section has lies in the image
word_inside : (image : ImageParts) (rva : ℕ) → IsLaidOut image → Any (HoldsWord rva) image.sections → rva + 4 ≤ image.size
word_inside image rva laid at =
    let section = subst (IsSectionLaidOut image) at.3 (laid.sections at.0 at.1 at.2) in
    omega (arith, at.4.to, section.inside)

byte_inside : (image : ImageParts) (rva : ℕ) → IsLaidOut image → Any (HoldsByte rva) image.sections → rva < image.size
byte_inside image rva laid at =
    let section = subst (IsSectionLaidOut image) at.3 (laid.sections at.0 at.1 at.2) in
    omega (arith, at.4.to, section.inside)

pub limited : (bytes : List ℕ) (image : ImageParts) → IsImage bytes image → IsLaidOut image → IsLimited image
limited bytes image is laid = record {
  size = laid.size;
  header_size = omega (arith, headers_before_entry image laid, entry_inside image laid);
  entry = entry_inside image laid;
  relocations = λ k d less. word_inside image (get_or image.relocations k d) laid (laid.relocations k d less);
  slots = λ k d less. let last = byte_inside image ((get_or image.imports k d).slot + 3) laid (laid.imports k d less 3 (omega arith)) in omega (arith, last);
  sections = omega (arith, is.sections.each, is.file.sections);
  imports = few image.sections is.imports.table.rva image.imports is.imports.functions;
  names = names_of image.sections is.imports.table.rva image.imports is.imports.functions;
}
