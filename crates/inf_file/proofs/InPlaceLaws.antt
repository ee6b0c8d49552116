-- Names that are compared without memory.
use Rattle.std.proofs.Common.{inl, inr, ◌≡◌, ℕ, Bool, true, false, ◌&&◌, ◌||◌, ◌+◌, ◌<◌, ◌≤◌, arith, get_or, eqb, List, [], ◌∷◌, ◌++◌, length, map, take, Option, None, Some, refl, sym, ap, ◌∙◌}
use Rattle.std.specs.Prelude.{codes, if◌then◌else◌}
use Rattle.std.specs.List.{fold, flat_map, filter_map, cons_option, position, position_from, find, slice_split}
use Rattle.std.specs.Option.{option_or}
use Rattle.std.proofs.lemmas.Bool.{cases_Bool, and_right}
use Rattle.std.proofs.lemmas.Bool.Decides.{nat_tests}
use Rattle.std.proofs.lemmas.List.Sums.{fold-append}
use Rattle.std.proofs.lemmas.List.Concat.{flat_map-append}
use Rattle.std.proofs.lemmas.Iterator.Adapters.{position_from-zero}
use Rattle.std.proofs.lemmas.List.{append-nil, take-map}
use Rattle.std.proofs.lemmas.Slice.Eq.{bytes_eq-Decides}
use Rattle.std.specs.Str.{bytes_eq}
use Rattle.inf_text.specs.Names.{without_case, folded, is_same, same_laws}
use Rattle.inf_text.specs.Sections.{Line, Section, is_named, place_named, lines_at, has_key, value_at}
use Rattle.inf_file.specs.Strings.{Strings, is_empty, is_percent, meaning, replaced, strings_of}
use Rattle.inf_file.specs.Models.{dotted, usual_names, first_place, is_nt_x86, models_place, has_id, model_of}
use Rattle.inf_file.specs.Earliest.{earlier_if, earliest}
use Rattle.inf_file.specs.ByName.{lines_at_some}
use Rattle.inf_file.specs.InPlace.{behind}
use Rattle.inf_file.proofs.ListLemmas.{or_none, or_assoc, filter_map_more}
use Rattle.inf_file.proofs.StringLaws.{first_counts, replaced-key, replaced-last}

both : (a b : List ℕ) (o : Option (List ℕ)) → behind (a ++ b) o ≡ behind b (behind a o)
unfolding behind is_same folded
both a b None = refl
both [] b (Some t) = refl
both (x ∷ a) b (Some []) = refl
both (x ∷ a) b (Some (y ∷ t)) = elim (cases_Bool (eqb (without_case x) (without_case y))) [ inl on ↦ rw on (both a b (Some t)) | inr off ↦ rw off refl ]

-- nothing is left
abbrev is_whole : Option (List ℕ) → Bool
is_whole None = false
is_whole (Some text) = is_empty text

whole : (a t : List ℕ) → is_whole (behind a (Some t)) ≡ is_same a t
unfolding behind is_same folded
whole [] [] = refl
whole [] (y ∷ t) = let some : eqb (length (y ∷ t)) 0 ≡ false = search (arith, nat_tests) in some
whole (x ∷ a) [] = refl
whole (x ∷ a) (y ∷ t) = elim (cases_Bool (eqb (without_case x) (without_case y))) [ inl on ↦ rw on (whole a t) | inr off ↦ rw off refl ]

pub value_some : (a t left : List ℕ) → Some left ≡ behind a (Some t) → is_empty left ≡ is_same t a
value_some a t left h = ap is_whole h ∙ whole a t ∙ same_laws.symm a t

pub value_none : (a t : List ℕ) → None ≡ behind a (Some t) → false ≡ is_same t a
value_none a t h = ap is_whole h ∙ whole a t ∙ same_laws.symm a t

-- ---- what stands for a key

module _ (lines : List Line) (key : List ℕ) (o : Option (List ℕ)) where
  pub meaning_empty : is_empty key ≡ true → behind (37 ∷ []) o ≡ behind (meaning (strings_of lines) key) o
  unfolding meaning
  meaning_empty none = rw none refl

  pub meaning_is : (line : Line) → is_empty key ≡ false → Some line ≡ find (has_key key) lines → behind (value_at 0 line) o ≡ behind (meaning (strings_of lines) key) o
  unfolding meaning
  meaning_is line some h = rw (some, first_counts lines key, ← h) refl

  pub meaning_none : is_empty key ≡ false → None ≡ find (has_key key) lines → behind (37 ∷ []) (behind key (behind (37 ∷ []) o)) ≡ behind (meaning (strings_of lines) key) o
  unfolding meaning
  meaning_none some h = rw (some, first_counts lines key, ← h) (sym (both key (37 ∷ []) (behind (37 ∷ []) o)) ∙ sym (both (37 ∷ []) (key ++ 37 ∷ []) o))

pub value_more : (s : Strings) (rest plain key more : List ℕ) (o : Option (List ℕ)) → slice_split is_percent rest ≡ plain ∷ (key ∷ slice_split is_percent more)
    → behind (replaced s more) (behind (meaning s key) (behind plain o)) ≡ behind (replaced s rest) o
value_more s rest plain key more o h = rw (replaced-key s rest plain key more h, both, both) refl

pub value_last : (s : Strings) (rest : List ℕ) (o : Option (List ℕ)) → length (slice_split is_percent rest) ≤ 2 → behind rest o ≡ behind (replaced s rest) o
value_last s rest o h = ap (λ (text : List ℕ). behind text o) (sym (replaced-last s rest h))

-- ---- a name in parts

same_nt : (a b : List ℕ) → is_same a b ≡ true → is_nt_x86 a ≡ is_nt_x86 b
unfolding is_nt_x86 is_same folded
same_nt a b h =
    ap (bytes_eq (folded (codes "NTx86"))) (sym (take-map without_case 5 a) ∙ ap (take 5) ((bytes_eq-Decides (folded a) (folded b)).0 h) ∙ take-map without_case 5 b)

module _ (value dot end name : List ℕ) where
  parts : is_same (value ++ (dot ++ end)) name ≡ is_whole (behind end (behind dot (behind value (Some name))))
  parts = sym (whole (value ++ (dot ++ end)) name) ∙ ap is_whole (both value (dot ++ end) (Some name) ∙ both dot end (behind value (Some name)))

  pub named_some : (own : List ℕ) → Some own ≡ behind dot (behind value (Some name)) → ((is_empty dot || is_nt_x86 own) && is_same own end) ≡ ((is_empty dot || is_nt_x86 end) && is_same (value ++ (dot ++ end)) name)
  named_some own h =
      rw (parts, ← h, whole end own, same_laws.symm end own) (elim (cases_Bool (is_same own end)) [ inl on ↦ rw (on, same_nt own end on) refl | inr off ↦ and_right _ _ off ∙ sym (and_right _ _ off) ])

  pub named_none : (b : Bool) → None ≡ behind dot (behind value (Some name)) → false ≡ (b && is_same (value ++ (dot ++ end)) name)
  unfolding behind
  named_none b h = sym (and_right b _ (parts ∙ ap (λ (o : Option (List ℕ)). is_whole (behind end o)) (sym h)))

-- ---- the place of a name

from : (t : List ℕ → Bool) (u : Section → Bool) → ((s : Section) → t s.name ≡ u s) → (i : ℕ) (ss : List Section) → position_from t i (map (λ s. s.name) ss) ≡ position_from u i ss
from t u h i [] = refl
from t u h i (s ∷ ss) = rw (h s, from t u h (i + 1) ss) refl

nowhere : (i : ℕ) (ss : List Section) → position_from (λ _. false) i ss ≡ None
nowhere i [] = refl
nowhere i (s ∷ ss) = nowhere (i + 1) ss

pub placed : (name : List ℕ) (b : Bool) (ss : List Section) → position (λ own. b && is_same name own) (map (λ s. s.name) ss) ≡ (if b then place_named name ss else None)
unfolding place_named
placed name true ss =
    position_from-zero {B = List ℕ} (is_same name) (map (λ s. s.name) ss) ∙ from (is_same name) (is_named name) (λ s. refl) 0 ss ∙ sym (position_from-zero {B = Section} (is_named name) ss)
placed name false ss = position_from-zero {B = List ℕ} (λ _. false) (map (λ s. s.name) ss) ∙ from (λ _. false) (λ _. false) (λ s. refl) 0 ss ∙ nowhere 0 ss

pub usual : (s : Strings) (ss : List Section) (value : List ℕ) → let at = λ (end : List ℕ). place_named (replaced s value ++ replaced s end) ss in
    option_or (option_or (at (46 ∷ codes "NTx86")) (at (46 ∷ codes "NT"))) (at []) ≡ first_place (usual_names (replaced s value)) ss
unfolding usual_names first_place dotted replaced
usual s ss value =
    let at = λ (end : List ℕ). place_named (replaced s value ++ end) ss in
    or_assoc (at (46 ∷ codes "NTx86")) (at (46 ∷ codes "NT")) (at [])
    ∙ ap (λ (o : Option ℕ). option_or (at (46 ∷ codes "NTx86")) (option_or (at (46 ∷ codes "NT")) o)) (ap (λ (n : List ℕ). place_named n ss) (append-nil (replaced s value)) ∙ sym (or_none (place_named (replaced s value) ss)))

-- ---- the model lines of one manufacturer more

pub models_more : (s : Strings) (ss : List Section) (id : List ℕ) (makers : List Line) (i : ℕ) (maker : Line) → i < length makers → maker ≡ get_or makers i maker
    → fold (earlier_if (has_id s id)) (model_of s ss (take i makers) id) (lines_at_some ss (models_place s ss maker)) ≡ model_of s ss (take (i + 1) makers) id
unfolding earliest
models_more s ss id makers i maker lt e =
    let f = earlier_if (has_id s id) in
    let before = filter_map (models_place s ss) (take i makers) in
    one (model_of s ss (take i makers) id) (models_place s ss maker) ∙ sym (fold-append f None (flat_map (lines_at ss) before) (flat_map (lines_at ss) (cons_option (models_place s ss maker) [])))
    ∙ ap (fold f None) (sym (flat_map-append (lines_at ss) before (cons_option (models_place s ss maker) [])))
    ∙ ap (λ (ps : List ℕ). fold f None (flat_map (lines_at ss) ps)) (sym (filter_map_more (models_place s ss) makers i maker lt e))
  where
    one : (b : Option Line) (o : Option ℕ) → fold (earlier_if (has_id s id)) b (lines_at_some ss o) ≡ fold (earlier_if (has_id s id)) b (flat_map (lines_at ss) (cons_option o []))
    one b None = refl
    one b (Some place) = ap (fold (earlier_if (has_id s id)) b) (sym (append-nil (lines_at ss place)))
