-- Bytes that are put one after another; the length of a padded frame.
use Rattle.std.proofs.Common.{◌≡◌, ℕ, ◌+◌, ◌-◌, ◌≤◌, max, List, ◌++◌, length, take, replicate, sym, ap, ◌∙◌, append_assoc, arith, length-append}
use Rattle.std.proofs.lemmas.List.{length-replicate, replicate-append-replicate, take-replicate}
use Rattle.std.proofs.lemmas.List.Sums.{fold-append}
use Rattle.dp8390.specs.declared.board.Board.{Board}
use Rattle.dp8390.specs.Ring.{padded, put_next, put_bytes}

pub length_padded : (f : List ℕ) → length (padded f) ≡ max (length f) 60
length_padded f = omega (arith, length-append f (replicate (60 - length f) 0), length-replicate {A = ℕ} (60 - length f) 0)

-- the board after bytes are put from an address on, and the address behind them
abbrev pub Put : Board → ℕ → List ℕ → Board
Put b a bytes = record b { memory = (put_bytes b.registers (b.memory, a) bytes).0 }

abbrev pub behind : Board → ℕ → List ℕ → ℕ
behind b a bytes = (put_bytes b.registers (b.memory, a) bytes).1

pub put_twice : (b n m : Board) (a next : ℕ) (xs ys : List ℕ) → n ≡ Put b a xs → next ≡ behind b a xs → m ≡ Put n next ys → m ≡ Put b a (xs ++ ys)
put_twice b n m a next xs ys first at second =
    second ∙ ap (λ (n : Board). Put n next ys) first ∙ ap (λ next. Put (Put b a xs) next ys) at
    ∙ ap (λ (place : List ℕ × ℕ). record b { memory = place.0 }) (sym (fold-append (put_next b.registers) (b.memory, a) xs ys))

pub behind_twice : (b n : Board) (a next last : ℕ) (xs ys : List ℕ) → n ≡ Put b a xs → next ≡ behind b a xs → last ≡ behind n next ys → last ≡ behind b a (xs ++ ys)
behind_twice b n a next last xs ys first at second =
    second ∙ ap (λ (n : Board). behind n next ys) first ∙ ap (λ next. behind (Put b a xs) next ys) at
    ∙ ap (λ (place : List ℕ × ℕ). place.1) (sym (fold-append (put_next b.registers) (b.memory, a) xs ys))

-- a frame and the zeros behind it are the padded frame and four zeros
pub zeros_behind : (h f : List ℕ) (n : ℕ) → n + length f ≡ max (length f) 60 + 4
    → (h ++ f) ++ take n (replicate 64 0) ≡ (h ++ padded f) ++ replicate 4 0
zeros_behind h f n count =
    let room : n ≤ 64 = omega arith in
    let zeros : n ≡ (60 - length f) + 4 = omega arith in
    ap (λ zs. (h ++ f) ++ zs) (take-replicate n 64 0 room ∙ ap (λ k. replicate k 0) zeros ∙ sym (replicate-append-replicate (60 - length f) 4 0))
    ∙ append_assoc h f _
    ∙ ap (λ zs. h ++ zs) (sym (append_assoc f (replicate (60 - length f) 0) (replicate 4 0)))
    ∙ sym (append_assoc h (padded f) (replicate 4 0))
