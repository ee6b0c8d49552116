-- What a packet's chain gives is its frame.
use Rattle.std.proofs.Common.{◌≡◌, ◌≢◌, ℕ, zero, suc, ◌+◌, ◌<◌, ◌≤◌, ◌⊎◌, inl, inr, Bool, true, false, cond, ◌&&◌, ◌==◌, nat_le, List, length, Option, Some, None, Ok, Err, sym, ap, ◌∙◌, subst, arith}
use Rattle.std.specs.Prelude.{is_none}
use Rattle.std.proofs.lemmas.Bool.Decides.{nat_tests}
use Rattle.nd_mem.specs.Space.{Cells}
use Rattle.nd_mem.specs.declared.MemFault.{MemFault}
use Rattle.packet_chain.specs.Chain.{buffer_of, buffer_fault, head_fault, joined, Reaches, Ends, FaultsAt, HasFrame, Gives}
use Rattle.packet_chain.specs.declared.ChainFault.{ChainFault}
use Rattle.packet_chain.specs.declared.ChainFault.TheVariants.{Fault, Loop, Length}
use Rattle.legal_run.specs.Frames.{chain_from, frame_at, frame_of, of_length}

-- buffers from k on, up to n, are there and can be read
record Sees (layout : List ℕ) (cells : Cells) (packet n : ℕ) : Type 0 where
  some : (k : ℕ) → k < n → buffer_of layout cells packet k ≢ 0
  seen : (k : ℕ) → k < n → buffer_fault layout cells (buffer_of layout cells packet k) ≡ None

unlike : (n : ℕ) → n ≢ 0 → (n == 0) ≡ false
unlike n other = grind (arith, nat_tests)

like : (n : ℕ) → n ≡ 0 → (n == 0) ≡ true
like n same = grind (arith, nat_tests)

steps : (layout : List ℕ) (cells : Cells) (packet k m n : ℕ) → k < n → Sees layout cells packet n → chain_from layout cells packet k (suc m) ≡ chain_from layout cells packet (suc k) m
unfolding chain_from
steps layout cells packet k m n less sees =
    ap (λ b. cond b (Some k) (cond (is_none (buffer_fault layout cells (buffer_of layout cells packet k))) (chain_from layout cells packet (suc k) m) None)) (unlike (buffer_of layout cells packet k) (sees.some k less))
    ∙ ap (λ (f : Option MemFault). cond (is_none f) (chain_from layout cells packet (suc k) m) None) (sees.seen k less)

stops : (layout : List ℕ) (cells : Cells) (packet k m : ℕ) → buffer_of layout cells packet k ≡ 0 → chain_from layout cells packet k m ≡ Some k
unfolding chain_from
stops layout cells packet k zero last = ap (λ b. cond b (Some k) None) (like (buffer_of layout cells packet k) last)
stops layout cells packet k (suc m) last =
    ap (λ b. cond b (Some k) (cond (is_none (buffer_fault layout cells (buffer_of layout cells packet k))) (chain_from layout cells packet (suc k) m) None)) (like (buffer_of layout cells packet k) last)

finds : (d : ℕ) (layout : List ℕ) (cells : Cells) (packet k m : ℕ) → d ≤ m → Sees layout cells packet (k + d) → buffer_of layout cells packet (k + d) ≡ 0 → chain_from layout cells packet k m ≡ Some (k + d)
finds zero layout cells packet k m few sees last =
    let here : k + 0 ≡ k = omega arith in
    stops layout cells packet k m (ap (buffer_of layout cells packet) (sym here) ∙ last) ∙ ap (λ (j : ℕ). Some j) (sym here)
finds (suc d) layout cells packet k zero few sees last = absurd (omega arith)
finds (suc d) layout cells packet k (suc m) few sees last =
    let on : suc k + d ≡ k + suc d = omega arith in
    steps layout cells packet k m (k + suc d) (omega arith) sees
    ∙ finds d layout cells packet (suc k) m (omega arith) (subst (λ (j : ℕ). Sees layout cells packet j) (sym on) sees) (ap (buffer_of layout cells packet) on ∙ last)
    ∙ ap (λ (j : ℕ). Some j) on

faults : (d : ℕ) (layout : List ℕ) (cells : Cells) (packet k m : ℕ) (fault : MemFault) → d < m → Sees layout cells packet (k + d) → buffer_of layout cells packet (k + d) ≢ 0 → buffer_fault layout cells (buffer_of layout cells packet (k + d)) ≡ Some fault → chain_from layout cells packet k m ≡ None
unfolding chain_from
faults d layout cells packet k zero fault few sees some is = absurd (omega arith)
faults zero layout cells packet k (suc m) fault few sees some is =
    let here : k + 0 ≡ k = omega arith in
    let there : buffer_of layout cells packet k ≢ 0 = subst (λ (j : ℕ). buffer_of layout cells packet j ≢ 0) here some in
    let cut : buffer_fault layout cells (buffer_of layout cells packet k) ≡ Some fault = subst (λ (j : ℕ). buffer_fault layout cells (buffer_of layout cells packet j) ≡ Some fault) here is in
    ap (λ b. cond b (Some k) (cond (is_none (buffer_fault layout cells (buffer_of layout cells packet k))) (chain_from layout cells packet (suc k) m) None)) (unlike (buffer_of layout cells packet k) there)
    ∙ ap (λ (f : Option MemFault). cond (is_none f) (chain_from layout cells packet (suc k) m) None) cut
faults (suc d) layout cells packet k (suc m) fault few sees some is =
    let on : k + suc d ≡ suc k + d = omega arith in
    steps layout cells packet k m (k + suc d) (omega arith) sees
    ∙ faults d layout cells packet (suc k) m fault (omega arith) (subst (λ (j : ℕ). Sees layout cells packet j) on sees) (subst (λ (j : ℕ). buffer_of layout cells packet j ≢ 0) on some) (subst (λ (j : ℕ). buffer_fault layout cells (buffer_of layout cells packet j) ≡ Some fault) on is)

loops : (m : ℕ) (layout : List ℕ) (cells : Cells) (packet k : ℕ) → Sees layout cells packet (k + m) → buffer_of layout cells packet (k + m) ≢ 0 → chain_from layout cells packet k m ≡ None
unfolding chain_from
loops zero layout cells packet k sees some =
    let here : k + 0 ≡ k = omega arith in
    ap (λ b. cond b (Some k) None) (unlike (buffer_of layout cells packet k) (subst (λ (j : ℕ). buffer_of layout cells packet j ≢ 0) here some))
loops (suc m) layout cells packet k sees some =
    let on : k + suc m ≡ suc k + m = omega arith in
    steps layout cells packet k m (k + suc m) (omega arith) sees
    ∙ loops m layout cells packet (suc k) (subst (λ (j : ℕ). Sees layout cells packet j) on sees) (subst (λ (j : ℕ). buffer_of layout cells packet j ≢ 0) on some)

-- ---- from the first buffer on

sees_of : (layout : List ℕ) (cells : Cells) (packet n : ℕ) → Reaches layout cells packet n → Sees layout cells packet (0 + n)
sees_of layout cells packet n reaches =
    let here : n ≡ 0 + n = omega arith in
    subst (λ (j : ℕ). Sees layout cells packet j) here (record { some = reaches.some; seen = reaches.seen })

at_head : (layout : List ℕ) (cells : Cells) (packet : ℕ) (chain : Option ℕ) → head_fault layout cells packet ≡ None → chain_from layout cells packet 0 64 ≡ chain → frame_at layout cells packet ≡ frame_of layout cells packet chain
at_head layout cells packet chain head is =
    ap (λ (f : Option MemFault). cond (is_none f) (frame_of layout cells packet (chain_from layout cells packet 0 64)) None) head
    ∙ ap (frame_of layout cells packet) is

ended : (layout : List ℕ) (cells : Cells) (packet n : ℕ) → Ends layout cells packet n → frame_at layout cells packet ≡ of_length (joined layout cells packet n)
ended layout cells packet n ends =
    let here : 0 + n ≡ n = omega arith in
    at_head layout cells packet (Some n) ends.reaches.head
    (finds n layout cells packet 0 64 ends.few (sees_of layout cells packet n ends.reaches) (ap (buffer_of layout cells packet) here ∙ ends.last) ∙ ap (λ (j : ℕ). Some j) here)

long : (bytes : List ℕ) → 14 ≤ length bytes → length bytes ≤ 1514 → of_length bytes ≡ Some bytes
long bytes low high =
    let fits : (nat_le 14 (length bytes) && nat_le (length bytes) 1514) ≡ true = grind (arith, nat_tests) in
    ap (λ b. cond b (Some bytes) None) fits

other_length : (bytes : List ℕ) → (length bytes < 14) ⊎ (1514 < length bytes) → of_length bytes ≡ None
other_length bytes (inl short) =
    let fits : (nat_le 14 (length bytes) && nat_le (length bytes) 1514) ≡ false = grind (arith, nat_tests) in
    ap (λ b. cond b (Some bytes) None) fits
other_length bytes (inr longer) =
    let fits : (nat_le 14 (length bytes) && nat_le (length bytes) 1514) ≡ false = grind (arith, nat_tests) in
    ap (λ b. cond b (Some bytes) None) fits

pub frame_given : (layout : List ℕ) (cells : Cells) (packet : ℕ) (bytes : List ℕ) → Gives layout cells packet (Ok bytes) → Some bytes ≡ frame_at layout cells packet
frame_given layout cells packet bytes gives =
    let whole : of_length bytes ≡ Some bytes = long bytes gives.long.0 gives.long.1 in
    sym (ended layout cells packet gives.buffers gives.ends ∙ ap of_length (sym gives.are) ∙ whole)

-- ---- a chain that gives a fault gives no frame

fault_found : (layout : List ℕ) (cells : Cells) (packet : ℕ) (fault : MemFault) → Gives layout cells packet (Err (Fault fault)) → None ≡ frame_at layout cells packet
fault_found layout cells packet fault (inl head) =
    sym (ap (λ (f : Option MemFault). cond (is_none f) (frame_of layout cells packet (chain_from layout cells packet 0 64)) None) head)
fault_found layout cells packet fault (inr (n, at)) =
    let here : n ≡ 0 + n = omega arith in
    sym (at_head layout cells packet None at.reaches.head
    (faults n layout cells packet 0 64 fault at.few (sees_of layout cells packet n at.reaches) (subst (λ (j : ℕ). buffer_of layout cells packet j ≢ 0) here at.some) (subst (λ (j : ℕ). buffer_fault layout cells (buffer_of layout cells packet j) ≡ Some fault) here at.here)))

length_found : (layout : List ℕ) (cells : Cells) (packet : ℕ) → Gives layout cells packet (Err Length) → None ≡ frame_at layout cells packet
length_found layout cells packet (n, ends, other) = sym (ended layout cells packet n ends ∙ other_length (joined layout cells packet n) other)

pub faulty : (layout : List ℕ) (cells : Cells) (packet : ℕ) (e : ChainFault) (fault : MemFault) → e ≡ Fault fault → Gives layout cells packet (Err e) → None ≡ frame_at layout cells packet
faulty layout cells packet e fault is gives = fault_found layout cells packet fault (subst (λ (x : ChainFault). Gives layout cells packet (Err x)) is gives)

pub endless : (layout : List ℕ) (cells : Cells) (packet : ℕ) (e : ChainFault) → e ≡ Loop → Gives layout cells packet (Err e) → None ≡ frame_at layout cells packet
endless layout cells packet e is gives =
    let there = subst (λ (x : ChainFault). Gives layout cells packet (Err x)) is gives in
    sym (at_head layout cells packet None there.0.head (loops 64 layout cells packet 0 (sees_of layout cells packet 64 there.0) there.1))

pub unlong : (layout : List ℕ) (cells : Cells) (packet : ℕ) (e : ChainFault) → e ≡ Length → Gives layout cells packet (Err e) → None ≡ frame_at layout cells packet
unlong layout cells packet e is gives = length_found layout cells packet (subst (λ (x : ChainFault). Gives layout cells packet (Err x)) is gives)
