-- What registers read back, what is sent, how the remote address moves, and what holds of a card at all times.
use Rattle.std.proofs.Common.{◌≡◌, ℕ, ◌+◌, ◌-◌, ◌*◌, ◌≤◌, true, false, length, drop, Some, refl, ap, ◌∙◌, arith, length-take, length-drop, get_or-set_same}
use Rattle.std.proofs.lemmas.Bool.{cond_both, cond-true, cond-false}
use Rattle.std.proofs.lemmas.Bool.Decides.{nat_tests}
use Rattle.dp8390.specs.declared.board.Board.{Board}
use Rattle.dp8390.specs.Bits.{has, loopback}
use Rattle.dp8390.specs.Registers.{transmits}
use Rattle.dp8390.specs.AddressFilter.{crc_bits, crc_byte}
use Rattle.dp8390.specs.Transmit.{is_sendable, frame_to_send, after_transmit}
use Rattle.dp8390.specs.Card.{after_command_write}
use Rattle.dp8390.specs.Laws.{ReadBackLaws, RemoteLaws, HashLaws}

pub read_back_laws : ReadBackLaws
read_back_laws = record {
  boundary = λ _ _. refl;
  current = λ _ _. refl;
  physical = λ r k v low. get_or-set_same r.physical k v 0 low;
  multicast = λ r k v low. get_or-set_same r.multicast k v 0 low;
  remote_low = λ r v low. omega arith;
  remote_high = λ r v. omega arith;
  low_stays = λ r v. omega arith;
  high_stays = λ r v low. omega arith;
}

pub count : (b : Board) → length b.memory ≡ 0x4000 → is_sendable b.registers ≡ true → length (frame_to_send b) ≡ b.registers.transmit_count
count b memory sendable =
    let first : 0x4000 ≤ 256 * b.registers.transmit_page = grind (arith, nat_tests) in
    let last : 256 * b.registers.transmit_page + b.registers.transmit_count ≤ 0x8000 = grind (arith, nat_tests) in
    omega (arith, length-take b.registers.transmit_count (drop (256 * b.registers.transmit_page - 0x4000) b.memory), length-drop (256 * b.registers.transmit_page - 0x4000) b.memory)

pub bytes : (b : Board) → is_sendable b.registers ≡ true → has b.registers.transmit_configuration loopback ≡ false → (after_transmit b).sent ≡ Some (frame_to_send b)
bytes b sendable outside = ap (λ (a : Board). a.sent) (cond-true _ _ _ sendable) ∙ cond-false _ _ _ outside

pub memory : (b : Board) → (after_transmit b).memory ≡ b.memory
memory b = cond_both _ _ _ (λ (a : Board). a.memory ≡ b.memory) (λ _. refl) (λ _. refl)

pub quiet : (b : Board) (command : ℕ) → transmits command ≡ false → (after_command_write b command).sent ≡ b.sent
quiet b command none = ap (λ (a : Board). a.sent) (cond-false _ _ _ none)

pub hash_laws : HashLaws
unfolding crc_byte crc_bits
hash_laws = record { all_hosts = refl; name_service = refl; all_nodes = refl; bridges = refl }

pub remote_laws : RemoteLaws
remote_laws = record {
  inside = λ r a last low high. grind (arith, nat_tests);
  below = λ r a last low high. grind (arith, nat_tests);
  rises = λ r a room other. grind (arith, nat_tests);
}
