-- One access more of a row of accesses.
use Rattle.std.proofs.Common.{◌≡◌, ◌≤◌, ◌<◌, ℕ, suc, ◌+◌, ◌-◌, ◌*◌, List, ◌++◌, length, take, drop, refl, sym, ap, ◌∙◌, arith, append_assoc}
use Rattle.std.proofs.Math.Nat.{mul-le-mul_left}
use Rattle.std.proofs.lemmas.List.{drop-drop}
use Rattle.std.proofs.lemmas.Slice.{take-put_mid}
use borrow.Rule.Slice.PartMut.{put_mid}
use Rattle.dp8390.specs.declared.board.Board.{Board}
use Rattle.dp8390.specs.Card.{bytes_read, after_read, after_write, after_take}
use Rattle.import_answers.specs.Ports.{Sent, reads, puts, sent_in}

-- the access with this number ends inside
pub access_fits : (width k n : ℕ) → k < n → width * k + width ≤ width * n
access_fits width k n h = omega (arith, mul-le-mul_left {m = k + 1} {n = n} width (omega arith))

pub reads_turn : (card : Board) (port width k n : ℕ) → k < n
    → reads card port width (n - k) ≡ (bytes_read card port width ++ (reads (after_read card port width) port width (n - (k + 1))).0, (reads (after_read card port width) port width (n - (k + 1))).1)
unfolding reads
reads_turn card port width k n h = let e : n - k ≡ suc (n - (k + 1)) = omega arith in ap (λ m. reads card port width m) e

pub puts_turn : (card : Board) (port width : ℕ) (bytes : List ℕ) (k n : ℕ) → k < n
    → puts card port width bytes (n - k)
    ≡ (sent_in (after_write card port (take width bytes)).sent ++ (puts (after_take (after_write card port (take width bytes))) port width (drop width bytes) (n - (k + 1))).0, (puts (after_take (after_write card port (take width bytes))) port width (drop width bytes) (n - (k + 1))).1)
unfolding puts
puts_turn card port width bytes k n h = let e : n - k ≡ suc (n - (k + 1)) = omega arith in ap (λ m. puts card port width bytes m) e

-- one more access has filled one piece more
pub read_more : (card next : Board) (port width k n at m : ℕ) (out piece all : List ℕ) → k < n → at ≤ length out → m ≡ width → length piece ≡ width
    → piece ≡ bytes_read card port m → next ≡ after_read card port m → all ≡ take at out ++ (reads card port width (n - k)).0
    → all ≡ take (at + width) (put_mid at (at + width - at) out piece) ++ (reads next port width (n - (k + 1))).0
read_more card next port width k n at m out piece all less inside same count is_read is_next before =
    let turn = reads_turn card port width k n less in
    let front : take (at + width) (put_mid at (at + width - at) out piece) ≡ take at out ++ piece = take-put_mid at (at + width - at) out piece (at + width) (omega arith) inside in
    let bytes : piece ≡ bytes_read card port width = is_read ∙ ap (bytes_read card port) same in
    let card' : next ≡ after_read card port width = is_next ∙ ap (after_read card port) same in
    rw front (rw before (rw turn (rw card' (rw (← bytes) (sym (append_assoc (take at out) piece (reads (after_read card port width) port width (n - (k + 1))).0))))))

pub read_next : (card next : Board) (port width k n m : ℕ) → k < n → m ≡ width → next ≡ after_read card port m
    → (reads card port width (n - k)).1 ≡ (reads next port width (n - (k + 1))).1
read_next card next port width k n m less same is_next =
    let card' : next ≡ after_read card port width = is_next ∙ ap (after_read card port) same in
    rw (reads_turn card port width k n less) (rw card' refl)

-- one more write has sent its frame, if one, and left the card with none
pub put_more : (card next : Board) (port width k n at : ℕ) (bytes piece : List ℕ) (all : Sent) (before sent more : List (List ℕ)) → k < n → piece ≡ take width (drop at bytes)
    → more ≡ sent ++ sent_in (after_write card port piece).sent → next ≡ after_take (after_write card port piece)
    → before ++ all.0 ≡ sent ++ (puts card port width (drop at bytes) (n - k)).0
    → before ++ all.0 ≡ more ++ (puts next port width (drop (at + width) bytes) (n - (k + 1))).0
put_more card next port width k n at bytes piece all before sent more less is_piece is_more is_next was =
    let behind : drop width (drop at bytes) ≡ drop (at + width) bytes = drop-drop width at bytes in
    rw is_more (rw is_next (rw is_piece (rw was (rw (puts_turn card port width (drop at bytes) k n less) (rw behind (sym (append_assoc sent _ _)))))))

pub put_next : (card next : Board) (port width k n at : ℕ) (bytes piece : List ℕ) → k < n → piece ≡ take width (drop at bytes) → next ≡ after_take (after_write card port piece)
    → (puts card port width (drop at bytes) (n - k)).1 ≡ (puts next port width (drop (at + width) bytes) (n - (k + 1))).1
put_next card next port width k n at bytes piece less is_piece is_next =
    let behind : drop width (drop at bytes) ≡ drop (at + width) bytes = drop-drop width at bytes in
    rw is_next (rw is_piece (rw (puts_turn card port width (drop at bytes) k n less) (rw behind refl)))
