-- The stack that a handler begins with, put in three parts.
use Rattle.std.proofs.Common.{◌≡◌, ℕ, ◌+◌, ◌-◌, ◌*◌, ◌≤◌, ◌<◌, List, ◌++◌, length, sym, ap, ◌∙◌, arith}
use Rattle.std.specs.Prelude.{replicate}
use Rattle.std.specs.Int.{to_le_bytes, w32}
use Rattle.std.proofs.lemmas.List.{length-replicate}
use Rattle.nd_base.specs.declared.numbers.Slot.TheVariants.{Leave}
use Rattle.nd_mem.specs.Space.{Space, put_from}
use Rattle.nd_mem.specs.Laws.{WriteLaws}
use Rattle.guest_map.specs.Regions.{stack}
use Rattle.guest_map.specs.Slots.{slot_address}
use Rattle.legal_run.specs.Guest.{stack_bytes, stack_pointer}
use Rattle.handler_entries.proofs.Words.{word_bytes}

pub stack_put : WriteLaws → (m m1 m2 m3 : Space) (x esp leave zeros : ℕ) (words : List ℕ) → x < 16 → length words ≤ 16 → zeros ≡ 0x4000 - 4 * (1 + length words)
    → m1 ≡ put_from m (stack x).first.0 (replicate zeros 0) → m2 ≡ put_from m1 esp (to_le_bytes w32 leave) → m3 ≡ put_from m2 (esp + 4) (word_bytes words)
    → esp ≡ stack_pointer x words → leave ≡ slot_address Leave → m3 ≡ put_from m (stack x).first.0 (stack_bytes x words)
unfolding stack_bytes
stack_put writes m m1 m2 m3 x esp leave zeros words number few count one two three at is =
    let first = (stack x).first.0 in
    let z = replicate zeros 0 in
    let l = to_le_bytes w32 leave in
    let long : length z ≡ zeros = length-replicate zeros 0 in
    let place : esp ≡ first + length z = omega (arith, at, long, count, few) in
    let next : esp + 4 ≡ first + length z + length l = omega (arith, place) in
    three ∙ ap (λ (s : Space). put_from s (esp + 4) (word_bytes words)) (two ∙ ap (λ (s : Space). put_from s esp l) one ∙ ap (λ a. put_from (put_from m first z) a l) place)
    ∙ ap (λ a. put_from (put_from (put_from m first z) (first + length z) l) a (word_bytes words)) next
    ∙ sym (writes.append (put_from m first z) (first + length z) l (word_bytes words))
    ∙ sym (writes.append m first z (l ++ word_bytes words))
    ∙ ap (λ n. put_from m first (replicate n 0 ++ (l ++ word_bytes words))) count
    ∙ ap (λ a. put_from m first (replicate (0x4000 - 4 * (1 + length words)) 0 ++ (to_le_bytes w32 a ++ word_bytes words))) is
