-- The first file of a name in a list, and the map that the list stands for.
use Rattle.std.proofs.Common.{◌≡◌, ℕ, zero, suc, ◌+◌, ◌<◌, ◌≤◌, Bool, true, false, not, cond, List, [], ◌∷◌, ◌++◌, map, length, get_or, set, Option, None, Some, refl, sym, ◌∙◌, ap, arith, tests}
use Rattle.std.specs.Prelude.{nat_lt}
use Rattle.std.specs.List.{position, position_or_len}
use Rattle.std.specs.Str.{bytes_eq}
use Rattle.std.specs.String.{string_bytes}
use Rattle.std.specs.Ordering.{nat_cmp, eq_by_cmp}
use Rattle.std.specs.Cmp.Lexicographic.{slice_cmp, nat_list_cmp_total, texts_ties, same_text, other_text}
use Rattle.std.specs.FinMap.{find, get, insert, from_entries, from_entries_push, get-from_entries, get-insert, same_map, nat_cmp-IsAntisymmetric, slice_cmp-IsAntisymmetric}
use Rattle.std.proofs.lemmas.List.Quantifiers.{position-Some}
use Rattle.nd_base.specs.FileTable.{files_of}
use Rattle.nd_base.specs.declared.file_table.NamedFile.{NamedFile}

abbrev Entry : Type 0
Entry = List ℕ × List ℕ

abbrev entry : NamedFile → Entry
entry file = (string_bytes file.name, file.bytes)

abbrev found : List ℕ → List NamedFile → Option (List ℕ)
found name files = find (slice_cmp nat_cmp) name (map entry files)

abbrev ties : List ℕ → List ℕ → Bool
ties x y = eq_by_cmp (slice_cmp nat_cmp) x y

abbrev pub is_named : List ℕ → NamedFile → Bool
is_named name file = bytes_eq name (string_bytes file.name)

-- the first file of the name is at this index
abbrev pub IsPlace : List ℕ → List NamedFile → ℕ → Type 0
IsPlace name [] i = ⊥
IsPlace name (file ∷ files) zero = is_named name file ≡ true
IsPlace name (file ∷ files) (suc i) = (is_named name file ≡ false) × IsPlace name files i

IsPlace-first : (name : List ℕ) (files : List NamedFile) (i : ℕ) (d : NamedFile) → i < length files → is_named name (get_or files i d) ≡ true → ((k : ℕ) → k < i → is_named name (get_or files k d) ≡ false) → IsPlace name files i
IsPlace-first name [] i d lt here before = absurd (omega arith)
IsPlace-first name (file ∷ files) zero d lt here before = here
IsPlace-first name (file ∷ files) (suc i) d lt here before = (before 0 (omega arith), IsPlace-first name files i d (omega arith) here (λ k h. before (suc k) (omega arith)))

same_entry : (name : List ℕ) (file : NamedFile) (b : Bool) → is_named name file ≡ b → ties name (string_bytes file.name) ≡ b
same_entry name file b h = sym (texts_ties name (string_bytes file.name)) ∙ h

found-none : (name : List ℕ) (files : List NamedFile) → length files ≤ position_or_len (is_named name) files → found name files ≡ None
found-none name [] h = refl
found-none name (file ∷ files) h =
    elim (is_named name file) as (λ b. is_named name file ≡ b → suc (length files) ≤ cond (not b) (1 + position_or_len (is_named name) files) 0 → found name (file ∷ files) ≡ None) [
      | true ↦ λ e le. absurd (omega arith)
      | false ↦ λ e le. ap (λ b. cond b (Some file.bytes) (found name files)) (same_entry name file false e) ∙ found-none name files (omega arith)
    ] refl h

no_place : (p : NamedFile → Bool) (files : List NamedFile) → position p files ≡ None → length files ≤ position_or_len p files
no_place p files h =
    elim (nat_lt (position_or_len p files) (length files)) as (λ b. nat_lt (position_or_len p files) (length files) ≡ b → cond b (Some (position_or_len p files)) None ≡ None → length files ≤ position_or_len p files) [
      | true ↦ λ e is. cc
      | false ↦ λ e is. grind (arith, tests)
    ] refl h

pub get-absent : (name : List ℕ) (files : List NamedFile) → position (is_named name) files ≡ None → get (files_of files) name ≡ None
get-absent name files h = get-from_entries nat_list_cmp_total (map entry files) name ∙ found-none name files (no_place _ files h)

found-some : (name : List ℕ) (files : List NamedFile) (i : ℕ) (d : NamedFile) → IsPlace name files i → found name files ≡ Some (get_or files i d).bytes
found-some name [] i d h = absurd h
found-some name (file ∷ files) zero d h = ap (λ b. cond b (Some file.bytes) (found name files)) (same_entry name file true h)
found-some name (file ∷ files) (suc i) d h = ap (λ b. cond b (Some file.bytes) (found name files)) (same_entry name file false h.0) ∙ found-some name files i d h.1

IsPlace-position : (name : List ℕ) (files : List NamedFile) (i : ℕ) (d : NamedFile) → position (is_named name) files ≡ Some i → IsPlace name files i
IsPlace-position name files i d h =
    let p = position-Some (is_named name) files i d h in
    IsPlace-first name files i d p.0 p.1 p.2

pub within-position : (name : List ℕ) (files : List NamedFile) (i : ℕ) (d : NamedFile) → position (is_named name) files ≡ Some i → i < length files
within-position name files i d h = (position-Some (is_named name) files i d h).0

pub get-present : (name : List ℕ) (files : List NamedFile) (i : ℕ) (file : NamedFile) → position (is_named name) files ≡ Some i → file ≡ get_or files i file → get (files_of files) name ≡ Some file.bytes
get-present name files i file h e =
    get-from_entries nat_list_cmp_total (map entry files) name ∙ found-some name files i file (IsPlace-position name files i file h) ∙ ap (λ (f : NamedFile). Some f.bytes) (sym e)

-- the same test again: the inner branch is never reached
shadowed : {A : Type 0} (b : Bool) (x y z : A) → cond b x z ≡ cond b x (cond b y z)
shadowed true x y z = refl
shadowed false x y z = refl

swapped : {A : Type 0} (a b : Bool) (x y z : A) → (a ≡ true → b ≡ true → ⊥) → cond a x (cond b y z) ≡ cond b y (cond a x z)
swapped true true x y z apart = absurd (apart refl refl)
swapped true false x y z apart = refl
swapped false b x y z apart = refl

-- a name tied with two is the name of both
same_names : (x y z : List ℕ) → ties x y ≡ true → ties x z ≡ true → y ≡ z
same_names x y z p q = sym (same_text x y (sym (texts_ties x y ∙ p))) ∙ same_text x z (sym (texts_ties x z ∙ q))

found-set : (name asked : List ℕ) (files : List NamedFile) (i : ℕ) (file : NamedFile) (bytes : List ℕ) → IsPlace name files i → file ≡ get_or files i file
    → found asked (set files i (record { name = file.name; bytes = bytes })) ≡ cond (ties asked name) (Some bytes) (found asked files)
found-set name asked [] i file bytes h e = absurd h
found-set name asked (first ∷ files) zero file bytes h e =
    let key : name ≡ string_bytes first.name = same_text name (string_bytes first.name) (sym h) in
    let key2 : string_bytes file.name ≡ name = ap (λ (f : NamedFile). string_bytes f.name) e ∙ sym key in
    ap (λ k. cond (ties asked k) (Some bytes) (found asked files)) key2
    ∙ shadowed (ties asked name) (Some bytes) (Some first.bytes) (found asked files)
    ∙ ap (λ k. cond (ties asked name) (Some bytes) (cond (ties asked k) (Some first.bytes) (found asked files))) key
found-set name asked (first ∷ files) (suc i) file bytes h e =
    ap (cond (ties asked (string_bytes first.name)) (Some first.bytes)) (found-set name asked files i file bytes h.1 e)
    ∙ swapped (ties asked (string_bytes first.name)) (ties asked name) _ _ _ (λ p q. other_text name (string_bytes first.name) (sym h.0) (sym (same_names asked (string_bytes first.name) name p q)))

pub files_of-set : (name : List ℕ) (files : List NamedFile) (i : ℕ) (file : NamedFile) (bytes : List ℕ) → position (is_named name) files ≡ Some i → file ≡ get_or files i file
    → files_of (set files i (record { name = file.name; bytes = bytes })) ≡ insert (files_of files) name bytes
files_of-set name files i file bytes h e =
    same_map nat_list_cmp_total (slice_cmp-IsAntisymmetric nat_cmp-IsAntisymmetric) _ _ (λ asked.
    get-from_entries nat_list_cmp_total (map entry (set files i (record { name = file.name; bytes = bytes }))) asked
    ∙ found-set name asked files i file bytes (IsPlace-position name files i file h) e
    ∙ sym (get-insert nat_list_cmp_total (files_of files) name bytes asked ∙ ap (cond (ties asked name) (Some bytes)) (get-from_entries nat_list_cmp_total (map entry files) asked)))

map-push : {A B : Type 0} (f : A → B) (xs : List A) (x : A) → map f (xs ++ x ∷ []) ≡ map f xs ++ f x ∷ []
map-push f [] x = refl
map-push f (y ∷ ys) x = ap (λ zs. f y ∷ zs) (map-push f ys x)

pub files_of-push : (files : List NamedFile) (file : NamedFile) → get (files_of files) (string_bytes file.name) ≡ None → files_of (files ++ file ∷ []) ≡ insert (files_of files) (string_bytes file.name) file.bytes
files_of-push files file none =
    ap from_entries (map-push entry files file)
    ∙ from_entries_push nat_list_cmp_total (slice_cmp-IsAntisymmetric nat_cmp-IsAntisymmetric) (map entry files) (string_bytes file.name) file.bytes (sym (get-from_entries nat_list_cmp_total (map entry files) (string_bytes file.name)) ∙ none)

pub ruleset tables = (get-absent, get-present, within-position, files_of-set, files_of-push)
