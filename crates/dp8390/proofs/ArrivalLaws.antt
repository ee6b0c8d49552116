-- What an arriving frame changes.
use Rattle.std.proofs.Common.{◌≡◌, ◌≢◌, ℕ, Bool, true, false, ◌&&◌, cond, List, length, take, refl, sym, ap, ◌∙◌, arith}
use Rattle.std.proofs.lemmas.Bool.{cond_both, cond-false, and_parts, and_right, true≢false, ltb-true}
use Rattle.dp8390.specs.declared.registers.Registers.{Registers}
use Rattle.dp8390.specs.declared.board.Board.{Board}
use Rattle.dp8390.specs.Bits.{has, with_bits, mon, ovw}
use Rattle.dp8390.specs.Registers.{with_miss, raised}
use Rattle.dp8390.specs.AddressFilter.{accepts}
use Rattle.dp8390.specs.Ring.{is_started, has_ring, free_pages, pages_of, padded, destination_of, status_of, after_store, has_room, after_taking, after_arrival}
use Rattle.dp8390.specs.Laws.{OnlyReceives, StoresNothing, ArrivalLaws}
use Rattle.dp8390.proofs.FreePages.{behind_is_apart}

-- a miss that is counted, after bits of the interrupt status were set or not
miss : (b : Board) (status : ℕ) → StoresNothing b (record b { registers = with_miss (record b.registers { interrupt_status = status }) })
miss b status =
    cond_both _ _ _ (λ (q : Registers). StoresNothing b (record b { registers = q }))
    (λ _. record { memory = refl; registers = refl })
    (λ _. record { memory = refl; registers = refl })

only_miss : (b : Board) (status : ℕ) → OnlyReceives b (record b { registers = with_miss (record b.registers { interrupt_status = status }) })
only_miss b status =
    cond_both _ _ _ (λ (q : Registers). OnlyReceives b (record b { registers = q }))
    (λ _. record { registers = refl; station = refl; sent = refl })
    (λ _. record { registers = refl; station = refl; sent = refl })

abbrev pub is_taken : Board → List ℕ → Bool
is_taken b frame = (is_started b.registers && has_ring b.registers) && accepts b.registers (destination_of frame)

abbrev pub monitored : Board → Board
monitored b = record b { registers = with_miss b.registers }

abbrev pub overflowed : Board → Board
overflowed b = record b { registers = with_miss (raised b.registers ovw) }

abbrev pub stored : Board → List ℕ → Board
stored b frame = after_store b (status_of (take 6 frame)) frame

-- what holds of each thing that may happen to a frame holds after an arrival
pub each : (P : Board → Type 0) (b : Board) (frame : List ℕ)
    → P (monitored b)
    → (is_taken b frame ≡ true → has_room b.registers (padded frame) ≡ true → P (stored b (padded frame)))
    → P (overflowed b)
    → P b
    → P (after_arrival b frame)
each P b frame watched kept full none =
    let f = padded frame in
    cond_both (is_taken b frame) (after_taking b f) b P
    (λ taken. cond_both (has b.registers.receive_configuration mon) (monitored b) (cond (has_room b.registers f) (stored b f) (overflowed b)) P
    (λ _. watched)
    (λ _. cond_both (has_room b.registers f) (stored b f) (overflowed b) P (kept taken) (λ _. full)))
    (λ _. none)

only : (b : Board) (frame : List ℕ) → OnlyReceives b (after_arrival b frame)
only b frame = each (OnlyReceives b) b frame
    (only_miss b b.registers.interrupt_status)
    (λ _ _. record { registers = refl; station = refl; sent = refl })
    (only_miss b (with_bits b.registers.interrupt_status ovw))
    (record { registers = refl; station = refl; sent = refl })

refused : (b : Board) (frame : List ℕ) → accepts b.registers (destination_of frame) ≡ false → after_arrival b frame ≡ b
refused b frame not_accepted =
    cond-false (is_taken b frame) (after_taking b (padded frame)) b (and_right (is_started b.registers && has_ring b.registers) (accepts b.registers (destination_of frame)) not_accepted)

missed : (b : Board) (frame : List ℕ) → has_room b.registers (padded frame) ≡ false → StoresNothing b (after_arrival b frame)
missed b frame full = each (StoresNothing b) b frame
    (miss b b.registers.interrupt_status)
    (λ _ room. absurd (true≢false (sym room ∙ full)))
    (miss b (with_bits b.registers.interrupt_status ovw))
    (record { memory = refl; registers = refl })

-- CURR is as it was, or apart from BNRY
abbrev Moves : Board → Board → Type 0
Moves b a = a.registers.current ≢ b.registers.current → a.registers.current ≢ b.registers.boundary

stays : (b a : Board) → StoresNothing b a → Moves b a
stays b a h moved = absurd (moved (ap (λ (r : Registers). r.current) h.registers))

apart : (b : Board) (frame : List ℕ) → Moves b (after_arrival b frame)
apart b frame = each (Moves b) b frame
    (stays b (monitored b) (miss b b.registers.interrupt_status))
    (λ taken room _. behind_is_apart b.registers (pages_of (length (padded frame)))
    (and_parts (is_started b.registers) (has_ring b.registers) (and_parts (is_started b.registers && has_ring b.registers) (accepts b.registers (destination_of frame)) taken).0).1
    (omega arith) (ltb-true (pages_of (length (padded frame))) (free_pages b.registers) room))
    (stays b (overflowed b) (miss b (with_bits b.registers.interrupt_status ovw)))
    (λ moved. absurd (moved refl))

pub arrival_laws : ArrivalLaws
arrival_laws = record { only = only; refused = refused; missed = missed; apart = apart }
