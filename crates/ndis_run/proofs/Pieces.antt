-- What is moved piece by piece.
use Rattle.std.proofs.Common.{◌≡◌, ℕ, ◌+◌, ◌≤◌, zero, suc, List, [], ◌∷◌, ◌++◌, length, take, drop, Option, Some, refl, sym, ap, ◌∙◌, arith, append_assoc, length-drop}
use Rattle.std.specs.FinMap.{insert}
use Rattle.std.proofs.Math.Seq.{take-add}
use Rattle.std.proofs.lemmas.List.{length-take, take_min}
use Rattle.nd_base.specs.Files.{Kept, bytes_at}

take_take : (n k : ℕ) (xs : List ℕ) → n ≤ k → take n (take k xs) ≡ take n xs
take_take zero k xs less = refl
take_take (suc n) zero xs less = absurd (omega arith)
take_take (suc n) (suc k) [] less = refl
take_take (suc n) (suc k) (x ∷ xs) less = ap (λ ys. x ∷ ys) (take_take n k xs (omega arith))

-- a count within a piece
pub count_within : (bytes : List ℕ) (done n k : ℕ) → n ≤ length (take k (drop done bytes)) → n ≤ k
count_within bytes done n k less = omega (arith, length-take k (drop done bytes))

pub count_inside : (bytes : List ℕ) (done n k : ℕ) → done ≤ length bytes → n ≤ length (take k (drop done bytes)) → done + n ≤ length bytes
count_inside bytes done n k within less = omega (arith, length-take k (drop done bytes), length-drop done bytes)

-- the front so far with the front of the next piece
pub front_more : (bytes : List ℕ) (done n k : ℕ) → n ≤ k → take done bytes ++ take n (take k (drop done bytes)) ≡ take (done + n) bytes
front_more bytes done n k less = ap (λ ys. take done bytes ++ ys) (take_take n k (drop done bytes) less) ∙ sym (take-add done n bytes)

-- what is written so far, after one more write
pub printed_more : (told : Option (List ℕ)) (first bytes : List ℕ) (done n k : ℕ) → n ≤ k → told ≡ Some ((first ++ take done bytes) ++ take n (take k (drop done bytes))) → told ≡ Some (first ++ take (done + n) bytes)
printed_more told first bytes done n k less is =
    is ∙ ap Some (append_assoc first (take done bytes) (take n (take k (drop done bytes))) ∙ ap (λ xs. first ++ xs) (front_more bytes done n k less))

-- the file so far, after one more append
pub appended_more : ((files : Kept) (name bytes : List ℕ) → bytes_at (insert files name bytes) name ≡ bytes) → ((files : Kept) (name first last : List ℕ) → insert (insert files name first) name last ≡ insert files name last)
    → (told : Option Kept) (m : Kept) (name before bytes : List ℕ) (done n k : ℕ) → n ≤ k
    → told ≡ Some (insert (insert m name (before ++ take done bytes)) name (bytes_at (insert m name (before ++ take done bytes)) name ++ take n (take k (drop done bytes))))
    → told ≡ Some (insert m name (before ++ take (done + n) bytes))
appended_more set last told m name before bytes done n k less is =
    let piece : List ℕ = take n (take k (drop done bytes)) in
    let file : bytes_at (insert m name (before ++ take done bytes)) name ++ piece ≡ before ++ take (done + n) bytes =
    ap (λ xs. xs ++ piece) (set m name (before ++ take done bytes)) ∙ append_assoc before (take done bytes) piece ∙ ap (λ xs. before ++ xs) (front_more bytes done n k less) in
    is ∙ ap Some (last m name _ _ ∙ ap (insert m name) file)

take_own : (k : ℕ) (file xs : List ℕ) → xs ≡ take k file → xs ≡ take (length xs) file
take_own k file xs is =
    is ∙ sym (take_min k file) ∙ ap (λ n. take n file) (sym (ap length is ∙ length-take k file))

-- what is read so far, after one more read
pub read_more : (bytes new file piece : List ℕ) (n : ℕ) → bytes ≡ take (length bytes) file → new ≡ bytes ++ piece → piece ≡ take n (drop (length bytes) file) → new ≡ take (length new) file
read_more bytes new file piece n before more is =
    take_own (length bytes + n) file new
    (more ∙ ap (λ xs. xs ++ piece) before ∙ ap (λ xs. take (length bytes) file ++ xs) is ∙ sym (take-add (length bytes) n file))
