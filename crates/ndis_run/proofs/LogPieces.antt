-- The text of a log, piece by piece.
use Rattle.std.proofs.Common.{◌≡◌, ℕ, ◌+◌, ◌<◌, ◌≤◌, zero, suc, List, [], ◌∷◌, ◌++◌, length, take, drop, Option, Some, None, refl, sym, ap, ◌∙◌, arith, append_assoc, append-nil, length-append}
use Rattle.std.specs.FinMap.{insert}
use Rattle.nd_base.specs.Files.{Kept}
use Rattle.std.specs.Prelude.{slice_get}
use Rattle.std.proofs.lemmas.List.{take-append-le}
use Rattle.std.proofs.lemmas.Option.{none-some, same_Some}
use Rattle.call_log.specs.declared.entry.Entry.{Entry}
use Rattle.call_log.specs.Lines.{text_of, log_text}

pub get_within : (es : List Entry) (i : ℕ) → i < length es → slice_get es i ≡ None → ⊥
get_within [] i less none = omega arith
get_within (e ∷ es) zero less none = none-some e (sym none)
get_within (e ∷ es) (suc i) less none = get_within es i (omega arith) none

text_after : (es : List Entry) (i : ℕ) (e : Entry) → slice_get es i ≡ Some e → log_text (take (suc i) es) ≡ log_text (take i es) ++ (text_of e ++ 10 ∷ [])
text_after [] i e is = absurd (none-some e is)
text_after (x ∷ es) zero e is = ap (λ (y : Entry). text_of y ++ 10 ∷ []) (same_Some x e is)
text_after (x ∷ es) (suc i) e is = ap (λ (bs : List ℕ). text_of x ++ 10 ∷ bs) (text_after es i e is) ∙ sym (append_assoc (text_of x) (10 ∷ log_text (take i es)) (text_of e ++ 10 ∷ []))

-- one line more
pub text_next : (es : List Entry) (from i : ℕ) (e : Entry) (piece : List ℕ) → slice_get es i ≡ Some e → log_text (take i es) ≡ log_text (take from es) ++ piece
    → log_text (take (i + 1) es) ≡ log_text (take from es) ++ (piece ++ (text_of e ++ 10 ∷ []))
text_next es from i e piece is before =
    let next : i + 1 ≡ suc i = omega arith in
    ap (λ n. log_text (take n es)) next ∙ text_after es i e is ∙ ap (λ bs. bs ++ (text_of e ++ 10 ∷ [])) before ∙ append_assoc (log_text (take from es)) piece (text_of e ++ 10 ∷ [])

text_split : (es : List Entry) (n : ℕ) → log_text es ≡ log_text (take n es) ++ log_text (drop n es)
text_split [] zero = refl
text_split [] (suc n) = refl
text_split (e ∷ es) zero = refl
text_split (e ∷ es) (suc n) = ap (λ (bs : List ℕ). text_of e ++ 10 ∷ bs) (text_split es n) ∙ sym (append_assoc (text_of e) (10 ∷ log_text (take n es)) (log_text (drop n es)))

take_behind : (before piece rest : List ℕ) (n : ℕ) → n ≤ length piece → take (length before + n) ((before ++ piece) ++ rest) ≡ before ++ take n piece
take_behind [] piece rest n less = let same : 0 + n ≡ n = omega arith in ap (λ k. take k (piece ++ rest)) same ∙ take-append-le n piece rest less
take_behind (b ∷ before) piece rest n less =
    let same : length (b ∷ before) + n ≡ suc (length before + n) = omega arith in
    ap (λ k. take k ((b ∷ before ++ piece) ++ rest)) same ∙ ap (λ (bs : List ℕ). b ∷ bs) (take_behind before piece rest n less)

-- a front of a piece behind what stands before it is a front of the whole text
pub record IsFront (bytes whole : List ℕ) : Type 0 where
  pub count : ℕ
  pub within : count ≤ length whole
  pub same : bytes ≡ take count whole

pub front_of_text : (es : List Entry) (from next n : ℕ) (piece : List ℕ) → log_text (take next es) ≡ log_text (take from es) ++ piece → n ≤ length piece
    → IsFront (log_text (take from es) ++ take n piece) (log_text es)
front_of_text es from next n piece text less =
    let whole : log_text es ≡ (log_text (take from es) ++ piece) ++ log_text (drop next es) = text_split es next ∙ ap (λ bs. bs ++ log_text (drop next es)) text in
    record {
      count = length (log_text (take from es)) + n;
      within = omega (arith, ap length whole, length-append (log_text (take from es) ++ piece) (log_text (drop next es)), length-append (log_text (take from es)) piece);
      same = sym (ap (take (length (log_text (take from es)) + n)) whole ∙ take_behind (log_text (take from es)) piece (log_text (drop next es)) n less);
    }

-- a file that has a front of a log's text
abbrev pub HasFront : Option Kept → Kept → List ℕ → List ℕ → Type 0
HasFront told m name text = (n : ℕ) × (n ≤ length text) × (told ≡ Some (insert m name (take n text)))

has_front : (told : Option Kept) (m : Kept) (name bytes text : List ℕ) → IsFront bytes text → told ≡ Some (insert m name bytes) → HasFront told m name text
has_front told m name bytes text front is = (front.count, front.within, is ∙ ap (λ (bs : List ℕ). Some (insert m name bs)) front.same)

-- nothing was appended
pub stays_front : (es : List Entry) (from : ℕ) (told : Option Kept) (m : Kept) (name : List ℕ) → told ≡ Some (insert m name (log_text (take from es))) → HasFront told m name (log_text es)
stays_front es from told m name is =
    let front : IsFront (log_text (take from es) ++ []) (log_text es) = front_of_text es from from 0 [] (sym (append-nil (log_text (take from es)))) (omega arith) in
    has_front told m name (log_text (take from es) ++ []) (log_text es) front (is ∙ ap (λ (bs : List ℕ). Some (insert m name bs)) (sym (append-nil (log_text (take from es)))))

-- a front of a piece was appended
pub front_told : (es : List Entry) (from next : ℕ) (piece bytes : List ℕ) (told : Option Kept) (m : Kept) (name : List ℕ) → bytes ≡ piece → log_text (take next es) ≡ log_text (take from es) ++ piece
    → (n : ℕ) × (n ≤ length bytes) × (told ≡ Some (insert m name (log_text (take from es) ++ take n bytes))) → HasFront told m name (log_text es)
front_told es from next piece bytes told m name same text front =
    has_front told m name (log_text (take from es) ++ take front.0 bytes) (log_text es) (front_of_text es from next front.0 bytes (text ∙ ap (λ bs. log_text (take from es) ++ bs) (sym same)) front.1) front.2

-- a piece was appended
pub piece_told : (es : List Entry) (from next : ℕ) (piece bytes : List ℕ) (told : Option Kept) (m : Kept) (name : List ℕ) → bytes ≡ piece → log_text (take next es) ≡ log_text (take from es) ++ piece
    → told ≡ Some (insert m name (log_text (take from es) ++ bytes)) → told ≡ Some (insert m name (log_text (take next es)))
piece_told es from next piece bytes told m name same text is =
    is ∙ ap (λ (bs : List ℕ). Some (insert m name bs)) (ap (λ bs. log_text (take from es) ++ bs) same ∙ sym text)
