-- The words of a miniport's characteristics.
use Rattle.std.proofs.Common.{◌≡◌, ℕ, ◌+◌, ◌*◌, ◌<◌, ◌≤◌, Bool, true, false, List, map, length, slice_index, nat_eq, nat_lt, nat_le, if◌then◌else◌, Result, sym, ap, ◌∙◌, arith, zero-add}
use Rattle.std.specs.List.{range_with_len}
use Rattle.std.proofs.lemmas.List.{ext_get_or}
use Rattle.std.proofs.lemmas.List.FromFn.{get_or-map-range_with_len, length-map-range_with_len}
use Rattle.std.proofs.lemmas.Bool.Decides.{nat_tests}
use Rattle.nd_mem.specs.Space.{Cells}
use Rattle.packet_chain.specs.Chain.{word_at}
use Rattle.guest_world.specs.declared.miniport.Miniport.{Miniport}
use Rattle.import_answers.specs.Registration.{length_of_version, word_read, major_at, minor_at, miniport_at, judged}
use Rattle.calls_setup.specs.Whole.{whole}

four_test : (j count n : ℕ) → 4 * count ≡ n → nat_lt j count ≡ nat_lt (4 * j) n
four_test j count n e = grind (arith, nat_tests)

words_same : (cells : Cells) (a minor count : ℕ) (words : List ℕ) → length words ≡ 27 → 4 * count ≡ length_of_version minor → ((k : ℕ) → k < 27 → slice_index words k ≡ (if nat_lt k count then word_at cells (a + 4 * k) else 0)) → words ≡ map (word_read cells a minor) (range_with_len 0 27)
words_same cells a minor count words len size each =
    ext_get_or 0 words (map (word_read cells a minor) (range_with_len 0 27)) (len ∙ sym (length-map-range_with_len (word_read cells a minor) 0 27)) (λ j lt.
    let small : j < 27 = omega arith in
    each j small ∙ ap (λ (b : Bool). if b then word_at cells (a + 4 * j) else 0) (four_test j count (length_of_version minor) size) ∙ sym (get_or-map-range_with_len (word_read cells a minor) 0 27 j j 0 small (zero-add j)))

pub miniport_same : (cells : Cells) (a minor count : ℕ) (words : List ℕ) → minor ≡ minor_at cells a → length words ≡ 27 → 4 * count ≡ length_of_version minor → ((k : ℕ) → k < 27 → slice_index words k ≡ (if nat_lt k count then word_at cells (a + 4 * k) else 0)) → ◌≡◌ {A = Miniport} (record { minor = minor; words = words }) (miniport_at cells a)
miniport_same cells a minor count words is len size each =
    let same = words_same cells a minor count words len size each in
    let pair : Miniport = record { minor = minor; words = map (word_read cells a minor) (range_with_len 0 27) } in
    let by_words : ◌≡◌ {A = Miniport} (record { minor = minor; words = words }) pair = ap (λ (ws : List ℕ). record { minor = minor; words = ws }) same in
    let by_minor : ◌≡◌ {A = Miniport} pair (miniport_at cells a) = ap (λ (m : ℕ). record { minor = m; words = map (word_read cells a m) (range_with_len 0 27) }) is in
    by_words ∙ by_minor

pub judged_same : (cells : Cells) (a length major minor : ℕ) (m : Miniport) (r : Result Miniport ℕ) → major ≡ major_at cells a → minor ≡ minor_at cells a → major ≡ 5 → minor ≤ 1 → length_of_version minor ≤ length → m ≡ miniport_at cells a → r ≡ whole m → r ≡ judged cells a length
judged_same cells a length major minor m r e f five small long same is =
    let on : nat_eq (major_at cells a) 5 ≡ true = rw (← e) (grind (arith, nat_tests)) in
    let low : nat_le (minor_at cells a) 1 ≡ true = rw (← f) (grind (arith, nat_tests)) in
    let enough : nat_lt length (length_of_version (minor_at cells a)) ≡ false = rw (← f) (grind (arith, nat_tests)) in
    rw (on, low, enough) (is ∙ ap whole same)
