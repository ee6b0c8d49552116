-- Strings under their keys, and how keys between percent signs are replaced.
use Rattle.std.proofs.Common.{inl, inr, ◌≡◌, ℕ, ◌<◌, ◌≤◌, Bool, true, false, ◌||◌, List, [], ◌∷◌, ◌++◌, length, Option, None, Some, is_some, refl, sym, ap, ◌∙◌, arith, append_assoc}
use Rattle.std.specs.Prelude.{if◌then◌else◌}
use Rattle.std.proofs.lemmas.List.{append-nil}
use Rattle.std.specs.List.{slice_split, join_with_byte, fold, find}
use Rattle.std.specs.Option.{option_or, option_map}
use Rattle.std.specs.Map.{lookup}
use Rattle.std.proofs.lemmas.Bool.{cases_Bool}
use Rattle.std.proofs.lemmas.List.Splits.{join_with_byte-slice_split, length-slice_split, slice_split_at, slice_split_none}
use Rattle.indexmap.specs.IndexMap.{insert_entry}
use Rattle.inf_text.specs.Names.{is_same, same_laws}
use Rattle.inf_text.specs.Sections.{Line, has_key, value_at}
use Rattle.inf_file.specs.Keyed.{string_in, or_string}
use Rattle.inf_file.proofs.ListLemmas.{or_none, or_assoc}
use Rattle.inf_file.specs.Strings.{Strings, no_strings, with_string, is_percent, meaning, behind_percent, replaced_parts, replaced, is_missing, asks_in, asks_behind, lacks_string, strings_of, HasNoPercent}

-- ---- strings under their keys, and the parts of a text between percent signs

fun_ext : {A B : Type 0} {f g : A → B} → ((x : A) → f x ≡ g x) → f ≡ g
fun_ext h = λ i x. h x i

-- ---- the table

pub no_strings_in : (es : List (List ℕ × List ℕ)) → es ≡ [] → string_in es ≡ no_strings
unfolding string_in
no_strings_in [] h = fun_ext (λ key. refl)
no_strings_in (e ∷ es) h = absurd cc

pub with_string_none : (s : Strings) (line : Line) → None ≡ line.key → s ≡ with_string s line
unfolding has_key
with_string_none s line h = fun_ext (λ key. sym (or_none (s key)) ∙ rw (← h) refl)

pub with_string_some : (s : Strings) (line : Line) (key : List ℕ) → Some key ≡ line.key → or_string s key (value_at 0 line) ≡ with_string s line
unfolding has_key
with_string_some s line key h = fun_ext (λ asked. rw (← h) refl)

-- keys that are the same have one string
same_string : (es : List (List ℕ × List ℕ)) (a b : List ℕ) → is_same a b ≡ true → lookup (is_same a) es ≡ lookup (is_same b) es
same_string [] a b h = refl
same_string (e ∷ es) a b h = rw (same_laws.congr a b e.0 h, same_string es a b h) refl

-- a key that is there keeps its string
pub or_string_old : (es : List (List ℕ × List ℕ)) (key text : List ℕ) → is_some (lookup (is_same key) es) ≡ true → string_in es ≡ or_string (string_in es) key text
unfolding string_in
or_string_old es key text there = fun_ext (λ asked. elim (cases_Bool (is_same asked key)) [
  | inl on ↦ rw on (kept (lookup (is_same asked) es) (ap (λ (o : Option (List ℕ)). is_some o) (same_string es asked key on) ∙ there))
  | inr off ↦ rw off (sym (or_none _))
])
  where
    kept : (o : Option (List ℕ)) → is_some o ≡ true → o ≡ option_or o (Some text)
    kept None h = absurd cc
    kept (Some x) h = refl

-- a new key has the string that it is given
pub or_string_new : (es : List (List ℕ × List ℕ)) (key text : List ℕ) → is_some (lookup (is_same key) es) ≡ false → string_in (insert_entry is_same es key text) ≡ or_string (string_in es) key text
unfolding string_in
or_string_new es key text none = fun_ext (λ asked. go es asked none)
  where
    go : (fs : List (List ℕ × List ℕ)) (asked : List ℕ) → is_some (lookup (is_same key) fs) ≡ false → lookup (is_same asked) (insert_entry is_same fs key text) ≡ option_or (lookup (is_same asked) fs) (if is_same asked key then Some text else None)
    go [] asked h = elim (cases_Bool (is_same asked key)) [ inl on ↦ rw on refl | inr off ↦ rw off refl ]
    go (f ∷ fs) asked h = elim (cases_Bool (is_same key f.0)) [
      | inl on ↦ let h2 = rw on at h in absurd cc
      | inr off ↦ let h2 = rw off at h in rw off (elim (cases_Bool (is_same asked f.0)) [ inl on ↦ rw on refl | inr other ↦ rw other (go fs asked h2) ])
    ]

-- ---- parts between percent signs

parts_left : (text : List ℕ) → 0 < length (slice_split is_percent text)
parts_left text = omega (arith, length-slice_split is_percent text)

key_first : (mean : List ℕ → List ℕ) (key : List ℕ) (parts : List (List ℕ)) → 0 < length parts → behind_percent mean (key ∷ parts) ≡ mean key ++ replaced_parts mean parts
key_first mean key [] h = absurd (omega arith)
key_first mean key (p ∷ parts) h = refl

ask_first : (test : List ℕ → Bool) (key : List ℕ) (parts : List (List ℕ)) → 0 < length parts → asks_behind test (key ∷ parts) ≡ (test key || asks_in test parts)
ask_first test key [] h = absurd (omega arith)
ask_first test key (p ∷ parts) h = refl

pub replaced-key : (s : Strings) (text plain key behind : List ℕ) → slice_split is_percent text ≡ plain ∷ (key ∷ slice_split is_percent behind) → replaced s text ≡ plain ++ (meaning s key ++ replaced s behind)
unfolding replaced
replaced-key s text plain key behind h = ap (replaced_parts (meaning s)) h ∙ ap (λ (x : List ℕ). plain ++ x) (key_first (meaning s) key (slice_split is_percent behind) (parts_left behind))

joined : (mean : List ℕ → List ℕ) (parts : List (List ℕ)) → length parts ≤ 2 → replaced_parts mean parts ≡ join_with_byte 37 parts
joined mean [] h = refl
joined mean (x ∷ []) h = append-nil x
joined mean (x ∷ y ∷ []) h = refl
joined mean (x ∷ y ∷ z ∷ parts) h = absurd (omega arith)

pub replaced-last : (s : Strings) (text : List ℕ) → length (slice_split is_percent text) ≤ 2 → replaced s text ≡ text
unfolding replaced
replaced-last s text h = joined (meaning s) (slice_split is_percent text) h ∙ join_with_byte-slice_split 37 text

pub lacks-key : (s : Strings) (text plain key behind : List ℕ) → slice_split is_percent text ≡ plain ∷ (key ∷ slice_split is_percent behind) → lacks_string s text ≡ (is_missing s key || lacks_string s behind)
unfolding lacks_string
lacks-key s text plain key behind h = ap (asks_in (is_missing s)) h ∙ ask_first (is_missing s) key (slice_split is_percent behind) (parts_left behind)

none_asked : (test : List ℕ → Bool) (parts : List (List ℕ)) → length parts ≤ 2 → asks_in test parts ≡ false
none_asked test [] h = refl
none_asked test (x ∷ []) h = refl
none_asked test (x ∷ y ∷ []) h = refl
none_asked test (x ∷ y ∷ z ∷ parts) h = absurd (omega arith)

pub lacks_last : (s : Strings) (text : List ℕ) → length (slice_split is_percent text) ≤ 2 → lacks_string s text ≡ false
unfolding lacks_string
lacks_last s text h = none_asked (is_missing s) (slice_split is_percent text) h

-- ---- the loops

pub replaced_more : (s : Strings) (out rest plain key behind : List ℕ) → slice_split is_percent rest ≡ plain ∷ (key ∷ slice_split is_percent behind) → ((out ++ plain) ++ meaning s key) ++ replaced s behind ≡ out ++ replaced s rest
replaced_more s out rest plain key behind h = rw (replaced-key s rest plain key behind h, append_assoc, append_assoc) refl

pub replaced_end : (s : Strings) (out rest : List ℕ) → length (slice_split is_percent rest) ≤ 2 → out ++ rest ≡ out ++ replaced s rest
replaced_end s out rest h = ap (λ (x : List ℕ). out ++ x) (sym (replaced-last s rest h))

pub lacks_more : (s : Strings) (rest plain key behind : List ℕ) → slice_split is_percent rest ≡ plain ∷ (key ∷ slice_split is_percent behind) → is_missing s key ≡ false → lacks_string s behind ≡ lacks_string s rest
lacks_more s rest plain key behind h off = sym (lacks-key s rest plain key behind h ∙ ap (λ (b : Bool). b || lacks_string s behind) off)

pub lacks_found : (s : Strings) (rest plain key behind : List ℕ) → slice_split is_percent rest ≡ plain ∷ (key ∷ slice_split is_percent behind) → is_missing s key ≡ true → true ≡ lacks_string s rest
lacks_found s rest plain key behind h on = sym (lacks-key s rest plain key behind h ∙ ap (λ (b : Bool). b || lacks_string s behind) on)

-- ---- how keys between percent signs are replaced, and which string a key has

pub plain_stays : (s : Strings) (text : List ℕ) → HasNoPercent text → replaced s text ≡ text
plain_stays s text h = replaced-last s text (omega (arith, ap (λ (ps : List (List ℕ)). length ps) (slice_split_none is_percent text h)))

pub lone_stays : (s : Strings) (plain rest : List ℕ) → HasNoPercent plain → HasNoPercent rest → replaced s (plain ++ 37 ∷ rest) ≡ plain ++ 37 ∷ rest
lone_stays s plain rest h k =
    replaced-last s (plain ++ 37 ∷ rest) (omega (arith, ap (λ (ps : List (List ℕ)). length ps) (slice_split_at is_percent plain 37 rest h refl ∙ ap (λ (ps : List (List ℕ)). plain ∷ ps) (slice_split_none is_percent rest k))))

pub key_replaced : (s : Strings) (plain key rest : List ℕ) → HasNoPercent plain → HasNoPercent key → replaced s (plain ++ 37 ∷ (key ++ 37 ∷ rest)) ≡ plain ++ (meaning s key ++ replaced s rest)
key_replaced s plain key rest h k =
    replaced-key s (plain ++ 37 ∷ (key ++ 37 ∷ rest)) plain key rest (slice_split_at is_percent plain 37 (key ++ 37 ∷ rest) h refl ∙ ap (λ (ps : List (List ℕ)). plain ∷ ps) (slice_split_at is_percent key 37 rest k refl))

first-behind : (key : List ℕ) (lines : List Line) (s : Strings) → fold with_string s lines key ≡ option_or (s key) (option_map (value_at 0) (find (has_key key) lines))
first-behind key [] s = sym (or_none (s key))
first-behind key (l ∷ ls) s =
    first-behind key ls (with_string s l) ∙ or_assoc (s key) (if has_key key l then Some (value_at 0 l) else None) (option_map (value_at 0) (find (has_key key) ls))
    ∙ ap (option_or (s key)) (elim (cases_Bool (has_key key l)) [ inl on ↦ rw on refl | inr off ↦ rw off refl ])

pub first_counts : (lines : List Line) (key : List ℕ) → strings_of lines key ≡ option_map (value_at 0) (find (has_key key) lines)
unfolding strings_of
first_counts lines key = first-behind key lines no_strings
