-- Words that are written one after the other.
use Rattle.std.proofs.Common.{◌≡◌, ℕ, ◌+◌, ◌*◌, ◌<◌, List, [], ◌∷◌, ◌++◌, length, take, get_or, refl, sym, ap, ◌∙◌, arith}
use Rattle.std.specs.List.{flat_map}
use Rattle.std.specs.Int.{to_le_bytes, w32}
use Rattle.std.proofs.lemmas.List.{take_more, length-take}
use Rattle.nd_mem.specs.Space.{Space, put_from}
use Rattle.nd_mem.specs.Laws.{WriteLaws}

abbrev pub word_bytes : List ℕ → List ℕ
word_bytes words = flat_map (to_le_bytes w32) words

pub words_length : (words : List ℕ) → length (word_bytes words) ≡ 4 * length words
words_length [] = refl
words_length (word ∷ words) = omega (arith, words_length words)

words_more : (words : List ℕ) (word : ℕ) → word_bytes (words ++ word ∷ []) ≡ word_bytes words ++ to_le_bytes w32 word
words_more [] word = refl
words_more (first ∷ words) word = ap (λ bytes. to_le_bytes w32 first ++ bytes) (words_more words word)

pub word_put : WriteLaws → (s t u : Space) (at i next : ℕ) (words : List ℕ) → i < length words → t ≡ put_from s at (word_bytes (take i words)) → next ≡ at + 4 * i
    → u ≡ put_from t next (to_le_bytes w32 (get_or words i 0)) → u ≡ put_from s at (word_bytes (take (i + 1) words))
word_put writes s t u at i next words less made is put =
    let front = word_bytes (take i words) in
    let word = to_le_bytes w32 (get_or words i 0) in
    let few : length (take i words) ≡ i = length-take i words ∙ omega arith in
    let place : next ≡ at + length front = omega (arith, words_length (take i words)) in
    put ∙ ap (λ (x : Space). put_from x next word) made ∙ ap (λ a. put_from (put_from s at front) a word) place
    ∙ sym (writes.append s at front word) ∙ sym (ap (put_from s at) (ap word_bytes (take_more words i 0 less) ∙ words_more (take i words) (get_or words i 0)))

pub none_put : (s : Space) (at : ℕ) → s ≡ put_from s at []
unfolding put_from
none_put s at = refl
