-- How the words by which two byte strings differ are found.
use Rattle.std.proofs.Common.{◌≡◌, ℕ, ◌+◌, ◌≤◌, inl, inr, List, [], ◌∷◌, ◌++◌, length, take, drop, refl, sym, ap, subst, ◌∙◌, append_assoc, length-append, arith}
use Rattle.std.proofs.lemmas.List.{take-append-drop}
use Rattle.std.proofs.Math.Seq.{take-append_seam, drop-append-add}
use Rattle.sys_forge.specs.Moved.{word_moved, with_word, with_words}
use Rattle.sys_forge.specs.Places.{noted, IsStep}

-- in front the words are moved, and what is left is as it was
pub record IsFoundSoFar (bytes others left ours : List ℕ) (at : ℕ) (places : List ℕ) : Type 0 where
  pub front : List ℕ
  pub theirs : others ≡ front ++ ours
  pub long : length front ≡ at
  pub moved : with_words places bytes ≡ front ++ left

pub found-begun : (bytes others : List ℕ) → IsFoundSoFar bytes others bytes others 0 []
unfolding with_words
found-begun bytes others = record { front = []; theirs = refl; long = refl; moved = refl }

-- one word more
words-more : (places : List ℕ) (place : ℕ) (bytes : List ℕ) → with_words (places ++ place ∷ []) bytes ≡ with_word place (with_words places bytes)
unfolding with_words
words-more [] place bytes = refl
words-more (p ∷ ps) place bytes = words-more ps place (with_word p bytes)

-- the word behind a front
word-behind : (front left : List ℕ) → with_word (length front) (front ++ left) ≡ front ++ (word_moved left ++ drop 4 left)
word-behind front left =
    let here : drop (length front) (front ++ left) ≡ left = ap (λ n. drop n (front ++ left)) (omega arith) ∙ drop-append-add front left 0 in
    ap (λ (bs : List ℕ). bs ++ (word_moved (drop (length front) (front ++ left)) ++ drop (length front + 4) (front ++ left))) (take-append_seam front left)
    ∙ ap (λ (bs : List ℕ). front ++ (word_moved bs ++ drop (length front + 4) (front ++ left))) here
    ∙ ap (λ (bs : List ℕ). front ++ (word_moved left ++ bs)) (drop-append-add front left 4)

same-length : (bytes others : List ℕ) → 1 ≤ length bytes → length (take 1 bytes) ≡ 1
same-length [] others h = absurd (omega arith)
same-length (b ∷ bs) others h = refl

word-length : (bytes : List ℕ) → length (word_moved bytes) ≡ 4
word-length bytes = refl

pub found-step : (bytes others left ours : List ℕ) (at size : ℕ) (places : List ℕ) → IsFoundSoFar bytes others left ours at places → IsStep left ours size → IsFoundSoFar bytes others (drop size left) (drop size ours) (at + size) (noted places at size)
found-step bytes others left ours at size places s (inl h) =
    subst (λ n. IsFoundSoFar bytes others (drop n left) (drop n ours) (at + n) (noted places at n)) (sym h.one) (record {
      front = s.front ++ take 1 ours;
      theirs = s.theirs ∙ ap (λ (bs : List ℕ). s.front ++ bs) (sym (take-append-drop 1 ours)) ∙ sym (append_assoc s.front (take 1 ours) (drop 1 ours));
      long = length-append s.front (take 1 ours) ∙ ap (λ n. n + length (take 1 ours)) s.long ∙ ap (λ n. at + n) (same-length ours ours h.others_long);
      moved = s.moved ∙ ap (λ (bs : List ℕ). s.front ++ bs) (sym (take-append-drop 1 left)) ∙ ap (λ (bs : List ℕ). s.front ++ (bs ++ drop 1 left)) h.same ∙ sym (append_assoc s.front (take 1 ours) (drop 1 left));
    })
found-step bytes others left ours at size places s (inr h) =
    subst (λ n. IsFoundSoFar bytes others (drop n left) (drop n ours) (at + n) (noted places at n)) (sym h.four) (record {
      front = s.front ++ take 4 ours;
      theirs = s.theirs ∙ ap (λ (bs : List ℕ). s.front ++ bs) (sym (take-append-drop 4 ours)) ∙ sym (append_assoc s.front (take 4 ours) (drop 4 ours));
      long = length-append s.front (take 4 ours) ∙ ap (λ n. n + length (take 4 ours)) s.long ∙ ap (λ n. at + n) (ap length h.moved ∙ word-length left);
      moved = words-more places at bytes ∙ ap (with_word at) s.moved ∙ ap (λ n. with_word n (s.front ++ left)) (sym s.long) ∙ word-behind s.front left
          ∙ ap (λ (bs : List ℕ). s.front ++ (bs ++ drop 4 left)) (sym h.moved) ∙ sym (append_assoc s.front (take 4 ours) (drop 4 left));
    })

pub found_whole : (bytes others left ours : List ℕ) (at : ℕ) (places : List ℕ) → IsFoundSoFar bytes others left ours at places → left ≡ [] → ours ≡ [] → others ≡ with_words places bytes
found_whole bytes others left ours at places s l o =
    s.theirs ∙ ap (λ (bs : List ℕ). s.front ++ bs) (o ∙ sym l) ∙ sym s.moved
