-- Words that are written one after the other.
use Rattle.std.proofs.Common.{◌≡◌, ℕ, ◌+◌, ◌*◌, ◌<◌, List, [], ◌∷◌, ◌++◌, length, take, get_or, Option, None, Some, Result, Err, refl, sym, ap, ◌∙◌, subst, arith}
use Rattle.std.specs.List.{flat_map}
use Rattle.std.specs.Int.{to_le_bytes, w32}
use Rattle.std.proofs.lemmas.List.{take_more, length-take}
use Rattle.std.specs.FinMap as finite
use Rattle.nd_mem.specs.declared.MemFault.{MemFault}
use Rattle.nd_mem.specs.Space.{answer_of, Cells, Space, Any, first_fault, fault_at, put_from}
use Rattle.nd_mem.specs.Laws.{FaultLaws, WriteLaws}

abbrev pub word_bytes : List ℕ → List ℕ
word_bytes words = flat_map (to_le_bytes w32) words

words_length : (words : List ℕ) → length (word_bytes words) ≡ 4 * length words
words_length [] = refl
words_length (word ∷ words) = omega (arith, words_length words)

words_more : (words : List ℕ) (word : ℕ) → word_bytes (words ++ word ∷ []) ≡ word_bytes words ++ to_le_bytes w32 word
words_more [] word = refl
words_more (first ∷ words) word = ap (λ bytes. to_le_bytes w32 first ++ bytes) (words_more words word)

-- four bytes of a run that has no fault
free_word : FaultLaws → (cells : Cells) (at n i : ℕ) → first_fault Any cells at (4 * n) ≡ None → i < n → first_fault Any cells (at + 4 * i) 4 ≡ None
free_word faults cells at n i free less = faults.none Any cells (at + 4 * i) 4 (λ k small.
    let e : at + (4 * i + k) ≡ at + 4 * i + k = omega arith in
    subst (λ (a : ℕ). fault_at Any cells a ≡ None) e (faults.none_at Any cells at (4 * n) (4 * i + k) free (omega arith)))

pub free_after : FaultLaws → (s t : Space) (at n i next : ℕ) (bytes : List ℕ) → t ≡ put_from s at bytes → next ≡ at + 4 * i → first_fault Any (finite.get s) at (4 * n) ≡ None → i < n → first_fault Any (finite.get t) next 4 ≡ None
free_after faults s t at n i next bytes made is free less =
    ap (λ (x : Space). first_fault Any (finite.get x) next 4) made ∙ ap (λ a. first_fault Any (finite.get (put_from s at bytes)) a 4) is
    ∙ faults.written Any s at bytes (at + 4 * i) 4 ∙ free_word faults (finite.get s) at n i free less

pub word_put : WriteLaws → (s t u : Space) (at i next : ℕ) (words : List ℕ) → i < length words → t ≡ put_from s at (word_bytes (take i words)) → next ≡ at + 4 * i
    → u ≡ put_from t next (to_le_bytes w32 (get_or words i 0)) → u ≡ put_from s at (word_bytes (take (i + 1) words))
word_put writes s t u at i next words less made is put =
    let front = word_bytes (take i words) in
    let word = to_le_bytes w32 (get_or words i 0) in
    let few : length (take i words) ≡ i = length-take i words ∙ omega arith in
    let place : next ≡ at + length front = omega (arith, words_length (take i words)) in
    put ∙ ap (λ (x : Space). put_from x next word) made ∙ ap (λ a. put_from (put_from s at front) a word) place
    ∙ sym (writes.append s at front word) ∙ sym (ap (put_from s at) (ap word_bytes (take_more words i 0 less) ∙ words_more (take i words) (get_or words i 0)))

pub none_put : (s : Space) (at : ℕ) → s ≡ put_from s at []
unfolding put_from
none_put s at = refl

pub never_err : (fault : Option MemFault) (f : MemFault) → ◌≡◌ {A = Result (Unit {0}) MemFault} (Err f) (answer_of tt fault) → fault ≡ None → ⊥
never_err None f e none = cc
never_err (Some g) f e none = cc
