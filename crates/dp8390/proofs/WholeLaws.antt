-- What no access and no arrival changes: the station's address, the length of memory; and what leaves the frame that was sent.
use Rattle.std.proofs.Common.{◌≡◌, ℕ, zero, suc, ◌*◌, Bool, false, List, [], ◌∷◌, length, take, cond, eqb, refl, ◌∙◌}
use Rattle.std.specs.Prelude.{slice_index, slice_set, ◌-◌}
use Rattle.std.specs.List.{fold}
use Rattle.std.proofs.lemmas.List.{length-set, length-replicate}
use Rattle.std.proofs.lemmas.Bool.{cond_both, eqb-true}
use Rattle.dp8390.specs.declared.registers.Registers.{Registers}
use Rattle.dp8390.specs.declared.board.Board.{Board}
use Rattle.dp8390.specs.Memory.{is_memory, put_byte}
use Rattle.dp8390.specs.Registers.{transmits, after_command}
use Rattle.dp8390.specs.RemoteDma.{is_moving, after_data_read, after_data_reads, after_data_write}
use Rattle.dp8390.specs.Ring.{put_next, packet, status_of, padded, after_arrival}
use Rattle.dp8390.specs.Transmit.{is_sendable, after_transmit}
use Rattle.dp8390.specs.Card.{Event, Read, Write, Arrive, Take, new_card, blank_memory, is_register, is_data_port, after_read, after_command_write, after_register_write, after_write, after_event}
use Rattle.dp8390.specs.Laws.{SendLaws, WholeLaws}
use Rattle.dp8390.proofs.ArrivalLaws.{each}
use Rattle.dp8390.proofs.CardLaws.{bytes, count, memory, quiet}

pub record Keeps (before after : Board) : Type 0 where
  pub station : after.station ≡ before.station
  pub memory : length after.memory ≡ length before.memory

same : (b : Board) → Keeps b b
same b = record { station = refl; memory = refl }

behind : (b a c : Board) → Keeps b a → Keeps a c → Keeps b c
behind b a c first second = record { station = second.station ∙ first.station; memory = second.memory ∙ first.memory }

either : (b : Board) (test : Bool) (x y : Board) → Keeps b x → Keeps b y → Keeps b (cond test x y)
either b test x y hx hy = cond_both test x y (Keeps b) (λ _. hx) (λ _. hy)

pub length-put_byte : (m : List ℕ) (a byte : ℕ) → length (put_byte m a byte) ≡ length m
length-put_byte m a byte = cond_both (is_memory a) (slice_set m (a - 0x4000) byte) m (λ (n : List ℕ). length n ≡ length m) (λ _. length-set m (a - 0x4000) byte) (λ _. refl)

length-put : (r : Registers) (place : List ℕ × ℕ) (bytes : List ℕ) → length (fold (put_next r) place bytes).0 ≡ length place.0
length-put r place [] = refl
length-put r place (x ∷ xs) = length-put r (put_next r place x) xs ∙ length-put_byte place.0 place.1 x

-- ---- the data port
data_reads : (b : Board) (n : ℕ) → Keeps b (after_data_reads b n)
unfolding after_data_reads
data_reads b zero = same b
data_reads b (suc n) =
    let a = after_data_reads b n in
    behind b a (after_data_read a) (data_reads b n) (cond_both (is_moving a.registers) _ a (Keeps a) (λ _. record { station = refl; memory = refl }) (λ _. same a))

data_write : (b : Board) (x : ℕ) → Keeps b (after_data_write b x)
data_write b x = cond_both (is_moving b.registers) _ b (Keeps b) (λ _. record { station = refl; memory = length-put_byte b.memory b.registers.remote_address x }) (λ _. same b)

data_writes : (b : Board) (bytes : List ℕ) → Keeps b (fold after_data_write b bytes)
data_writes b [] = same b
data_writes b (x ∷ xs) = behind b (after_data_write b x) _ (data_write b x) (data_writes (after_data_write b x) xs)

data_writes_sent : (b : Board) (bytes : List ℕ) → (fold after_data_write b bytes).sent ≡ b.sent
data_writes_sent b [] = refl
data_writes_sent b (x ∷ xs) = data_writes_sent (after_data_write b x) xs ∙ cond_both (is_moving b.registers) _ b (λ (a : Board). a.sent ≡ b.sent) (λ _. refl) (λ _. refl)

-- ---- a write
transmit : (b : Board) → Keeps b (after_transmit b)
transmit b = cond_both (is_sendable b.registers) _ _ (Keeps b) (λ _. record { station = refl; memory = refl }) (λ _. record { station = refl; memory = refl })

command_write : (b : Board) (command : ℕ) → Keeps b (after_command_write b command)
command_write b command =
    let a : Board = record b { registers = after_command b.registers command } in
    either b (transmits command) (after_transmit a) a (behind b a (after_transmit a) (record { station = refl; memory = refl }) (transmit a)) (record { station = refl; memory = refl })

write : (b : Board) (port : ℕ) (bytes : List ℕ) → Keeps b (after_write b port bytes)
write b port bytes =
    either b (is_register port) (after_register_write b port (slice_index bytes 0)) _
    (either b (eqb port 0) (after_command_write b (slice_index bytes 0)) _ (command_write b (slice_index bytes 0)) (record { station = refl; memory = refl }))
    (either b (is_data_port port) (fold after_data_write b bytes) b (data_writes b bytes) (same b))

unsent : (b : Board) (port : ℕ) (bytes : List ℕ) → (port ≡ 0 → transmits (slice_index bytes 0) ≡ false) → (after_write b port bytes).sent ≡ b.sent
unsent b port bytes none =
    let Sent : Board → Type 0 = λ (a : Board). a.sent ≡ b.sent in
    cond_both (is_register port) (after_register_write b port (slice_index bytes 0)) _ Sent
    (λ _. cond_both (eqb port 0) (after_command_write b (slice_index bytes 0)) _ Sent (λ zeroth. quiet b (slice_index bytes 0) (none (eqb-true port 0 zeroth))) (λ _. refl))
    (λ _. cond_both (is_data_port port) (fold after_data_write b bytes) b Sent (λ _. data_writes_sent b bytes) (λ _. refl))

data_reads_sent : (b : Board) (n : ℕ) → (after_data_reads b n).sent ≡ b.sent
unfolding after_data_reads
data_reads_sent b zero = refl
data_reads_sent b (suc n) =
    let a = after_data_reads b n in
    cond_both (is_moving a.registers) _ a (λ (c : Board). c.sent ≡ a.sent) (λ _. refl) (λ _. refl) ∙ data_reads_sent b n

read_sent : (b : Board) (port n : ℕ) → (after_read b port n).sent ≡ b.sent
read_sent b port n =
    let Sent : Board → Type 0 = λ (a : Board). a.sent ≡ b.sent in
    cond_both (is_register port) _ _ Sent (λ _. refl)
    (λ _. cond_both (is_data_port port) (after_data_reads b n) _ Sent (λ _. data_reads_sent b n) (λ _. refl))

-- ---- anything
read : (b : Board) (port n : ℕ) → Keeps b (after_read b port n)
read b port n =
    either b (is_register port) _ _ (record { station = refl; memory = refl })
    (either b (is_data_port port) (after_data_reads b n) _ (data_reads b n) (record { station = refl; memory = refl }))

arrive : (b : Board) (frame : List ℕ) → Keeps b (after_arrival b frame)
arrive b frame = each (Keeps b) b frame (record { station = refl; memory = refl })
    (λ _ _. record { station = refl; memory = length-put b.registers (b.memory, 256 * b.registers.current) (packet b.registers (status_of (take 6 (padded frame))) (padded frame)) })
    (record { station = refl; memory = refl }) (record { station = refl; memory = refl })

event : (b : Board) (e : Event) → Keeps b (after_event b e)
event b (Read port n) = read b port n
event b (Write port bytes) = write b port bytes
event b (Arrive frame) = arrive b frame
event b Take = record { station = refl; memory = refl }

events : (b : Board) (es : List Event) → Keeps b (fold after_event b es)
events b [] = same b
events b (e ∷ es) = behind b (after_event b e) _ (event b e) (events (after_event b e) es)

blank : length blank_memory ≡ 0x4000
unfolding blank_memory
blank = length-replicate {A = ℕ} 0x4000 0

pub whole_laws : WholeLaws
whole_laws = record {
  station = λ station es. (events (new_card station) es).station;
  memory = λ station es. (events (new_card station) es).memory ∙ blank;
}

pub send_laws : SendLaws
send_laws = record { quiet = unsent; read = read_sent; bytes = bytes; count = count; memory = memory }
