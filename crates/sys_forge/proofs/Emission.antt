-- One line more behind those that have their bytes.
use Rattle.std.proofs.Common.{◌≡◌, ℕ, ◌+◌, List, [], ◌∷◌, ◌++◌, length, refl, sym, ap, subst, ◌∙◌, append_assoc, append-nil, length-append, add_assoc, add-zero, zero-add}
use Rattle.sys_forge.specs.Assembly.{Says, PutsBy, none_met}
use Rattle.line_bytes.specs.declared.piece.Met.{Met}

-- the lines in front of what is left have their bytes
pub record IsSoFar (L : Says) (all left : List (List ℕ)) (out : List ℕ) (met : Met) (number : ℕ) : Type 0 where
  pub front : List (List ℕ)
  pub parts : all ≡ front ++ left
  pub place : number ≡ length front + 1
  pub put : PutsBy L 0 none_met front out met

pub begun : (L : Says) (all : List (List ℕ)) (out : List ℕ) → out ≡ [] → IsSoFar L all all out none_met 1
unfolding PutsBy
begun L all out none = record { front = []; parts = refl; place = refl; put = (none, refl) }

pub puts_more : (L : Says) (done : ℕ) (met last next : Met) (ls : List (List ℕ)) (line bytes piece : List ℕ) → PutsBy L done met ls bytes last → L last (0x80101000 + (done + length bytes)) line piece next → PutsBy L done met (ls ++ line ∷ []) (bytes ++ piece) next
unfolding PutsBy
puts_more L done met last next [] line bytes piece h l =
    let none : bytes ≡ [] = h.0 in
    let here : done + length bytes ≡ done = ap (λ (bs : List ℕ). done + length bs) none ∙ add-zero done in
    (piece, [], next, subst (λ m. L m (0x80101000 + done) line piece next) h.1 (subst (λ n. L last (0x80101000 + n) line piece next) here l), (refl, refl), ap (λ (bs : List ℕ). bs ++ piece) none ∙ sym (append-nil piece))
puts_more L done met last next (first ∷ ls) line bytes piece h l =
    let here : done + length bytes ≡ (done + length h.0) + length h.1 = ap (λ (bs : List ℕ). done + length bs) h.5 ∙ ap (λ n. done + n) (length-append h.0 h.1) ∙ sym (add_assoc done (length h.0) (length h.1)) in
    let rest = puts_more L (done + length h.0) h.2 last next ls line h.1 piece h.4 (subst (λ n. L last (0x80101000 + n) line piece next) here l) in
    (h.0, h.1 ++ piece, h.2, h.3, rest, ap (λ (bs : List ℕ). bs ++ piece) h.5 ∙ append_assoc h.0 h.1 piece)

pub more : (L : Says) (all left others : List (List ℕ)) (line out new piece : List ℕ) (met next : Met) (number : ℕ) → IsSoFar L all left out met number → left ≡ line ∷ others → new ≡ out ++ piece → L met (0x80101000 + length out) line piece next → IsSoFar L all others new next (number + 1)
more L all left others line out new piece met next number s first parts l = record {
  front = s.front ++ line ∷ [];
  parts = s.parts ∙ ap (λ (ls : List (List ℕ)). s.front ++ ls) first ∙ sym (append_assoc s.front (line ∷ []) others);
  place = ap (λ n. n + 1) s.place ∙ ap (λ n. n + 1) (sym (length-append s.front (line ∷ [])));
  put = subst (λ (bytes : List ℕ). PutsBy L 0 none_met (s.front ++ line ∷ []) bytes next) (sym parts) (puts_more L 0 none_met met next s.front line out piece s.put (subst (λ n. L met (0x80101000 + n) line piece next) (sym (zero-add (length out))) l));
}
