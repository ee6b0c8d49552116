-- A copy that goes from the first byte on, as one write.
use Rattle.std.proofs.Common.{◌≡◌, ◌≤◌, ◌<◌, ◌⊎◌, ℕ, zero, suc, ◌+◌, ◌-◌, ◌^◌, List, [], ◌∷◌, ◌++◌, length, take, get_or, Option, None, Some, refl, sym, ap, ◌∙◌, inl, inr, arith, add-zero}
use Rattle.std.proofs.Math.Nat.{mod-eq_of_lt}
use Rattle.std.proofs.Math.Seq.{take-suc, take-length}
use Rattle.std.proofs.lemmas.Bool.{cases_lt}
use Rattle.std.proofs.lemmas.List.{get_or-take, length-take-le}
use Rattle.std.specs.FinMap as map
use Rattle.nd_mem.specs.Cell.{Cell}
use Rattle.nd_mem.specs.Space.{Space, wrapped, byte_in, bytes_from, put_from, Cells, Access, first_fault, fault_in, address, IsLow, Any, Reading, Writing}
use Rattle.nd_mem.specs.Laws.{WriteLaws, ReadLaws, FaultLaws}
use Rattle.nd_base.specs.declared.numbers.Addr.{Addr}
use Rattle.import_answers.specs.Blocks.{copied}
use Rattle.calls_memory.specs.Copying.{Repeats}

-- one byte more
abbrev copy_byte : Space → ℕ → ℕ → Space
copy_byte s to from = put_from s to (byte_in (map.get s (wrapped from)) ∷ [])

copied_nil : (s : Space) (to from : ℕ) → copied s to from 0 ≡ s
unfolding copied
copied_nil s to from = refl

copied_suc : (s : Space) (to from n : ℕ) → copied s to from (suc n) ≡ copied (copy_byte s to from) (to + 1) (from + 1) n
unfolding copied put_from
copied_suc s to from n = refl

-- the last byte last
copied_last : (n : ℕ) (s : Space) (to from : ℕ) → copied s to from (suc n) ≡ copy_byte (copied s to from n) (to + n) (from + n)
copied_last zero s to from = copied_suc s to from zero ∙ (copied_nil (copy_byte s to from) (to + 1) (from + 1) ∙ simp (copied_nil, add-zero))
copied_last (suc n) s to from =
    let t : (to + 1) + n ≡ to + suc n = omega arith in
    let f : (from + 1) + n ≡ from + suc n = omega arith in
    let first = copied_suc s to from (suc n) in
    let again = copied_suc s to from n in
    let last = copied_last n (copy_byte s to from) (to + 1) (from + 1) in
    cc

-- Bytes that are those from an address on, but that from where they are copied over themselves they repeat.
pub record IsForward (s : Space) (to from : ℕ) (bytes : List ℕ) : Type 0 where
  pub to_end : to + length bytes ≤ 2 ^ 32
  pub from_end : from + length bytes ≤ 2 ^ 32
  pub mapped : (k : ℕ) → k < length bytes → (cell : Cell) × (map.get s (from + k) ≡ Some cell)
  pub front : (k : ℕ) → k < length bytes → (from < to → from + k < to) → get_or bytes k 0 ≡ byte_in (map.get s (from + k))
  pub behind : (k : ℕ) → k < length bytes → from < to → to ≤ from + k → get_or bytes k 0 ≡ get_or bytes (from + k - to) 0

-- the byte that is copied next, by whether it was written already
next_byte : (laws : WriteLaws) (s : Space) (to from : ℕ) (bytes : List ℕ) (n : ℕ) → IsForward s to from bytes → n < length bytes → ((from < to) × (to ≤ from + n)) ⊎ (from < to → from + n < to)
    → byte_in (map.get (put_from s to (take n bytes)) (wrapped (from + n))) ≡ get_or bytes n 0
next_byte laws s to from bytes n is less (inl again) =
    let w : wrapped (from + n) ≡ from + n = mod-eq_of_lt (omega (arith, is.from_end)) in
    let count : length (take n bytes) ≡ n = length-take-le n bytes (omega arith) in
    let cell = is.mapped n less in
    let found = laws.written_at s to (take n bytes) (from + n) (omega (arith, is.to_end)) again.1 (omega arith) in
    rw w (rw found (rw (cell.1) (get_or-take n bytes (from + n - to) 0 (omega (arith, again.0, again.1)) ∙ sym (is.behind n less again.0 again.1))))
next_byte laws s to from bytes n is less (inr first) =
    let w : wrapped (from + n) ≡ from + n = mod-eq_of_lt (omega (arith, is.from_end)) in
    let count : length (take n bytes) ≡ n = length-take-le n bytes (omega arith) in
    let found = laws.others_at s to (take n bytes) (from + n) (omega (arith, is.to_end)) (λ h. elim (cases_lt from to) [ inl under ↦ let less_far = first under in omega arith | inr over ↦ omega arith ]) in
    rw w (rw found (sym (is.front n less first)))

-- whether it was
was_written : (to from n : ℕ) → ((from < to) × (to ≤ from + n)) ⊎ (from < to → from + n < to)
was_written to from n =
    elim (cases_lt from to) [
      | inl less ↦ elim (cases_lt (from + n) to) [ inl first ↦ inr (λ _. first) | inr again ↦ inl (less, again) ]
      | inr not_less ↦ inr (λ less. absurd (omega arith))
    ]

put_nil : (s : Space) (a : ℕ) → put_from s a [] ≡ s
unfolding put_from
put_nil s a = refl

-- the first n bytes
copied_front : (laws : WriteLaws) (s : Space) (to from : ℕ) (bytes : List ℕ) (n : ℕ) → IsForward s to from bytes → n ≤ length bytes → copied s to from n ≡ put_from s to (take n bytes)
copied_front laws s to from bytes zero is less = copied_nil s to from ∙ sym (put_nil s to)
copied_front laws s to from bytes (suc n) is less =
    let front = copied_front laws s to from bytes n is (omega arith) in
    let next = next_byte laws s to from bytes n is (omega arith) (was_written to from n) in
    let count : length (take n bytes) ≡ n = length-take-le n bytes (omega arith) in
    let joined = laws.append s to (take n bytes) (get_or bytes n 0 ∷ []) in
    let more : take (suc n) bytes ≡ take n bytes ++ get_or bytes n 0 ∷ [] = take-suc bytes n 0 (omega arith) in
    rw copied_last (rw front (rw next (rw more (rw joined (rw count refl)))))

-- all of them, as they are read
pub copied_bytes : (writes : WriteLaws) (reads : ReadLaws) (s : Space) (to from : ℕ) (bytes : List ℕ) → IsForward s to from bytes → first_fault Any (map.get s) to (length bytes) ≡ None
    → bytes_from (map.get (copied s to from (length bytes))) to (length bytes) ≡ bytes
copied_bytes writes reads s to from bytes is mapped =
    let all = copied_front writes s to from bytes (length bytes) is (omega arith) in
    rw all (rw take-length (reads.written s to bytes (omega (arith, is.to_end)) mapped))

-- ---- what the call makes is such bytes

cell_found : (a : Addr) (found : Option Cell) → fault_in Reading a found ≡ None → (cell : Cell) × (found ≡ Some cell)
cell_found a None none = absurd (cc)
cell_found a (Some cell) none = (cell, refl)

-- a range without a fault ends where there are addresses
range_ends : (laws : FaultLaws) (access : Access) (cells : Cells) (a n : ℕ) → IsLow cells → a < 2 ^ 32 → first_fault access cells a n ≡ None → a + n ≤ 2 ^ 32
range_ends laws access cells a zero low less none = omega arith
range_ends laws access cells a (suc n) low less none = let end = laws.low access cells a (suc n) low less none (omega arith) in omega arith

pub made_forward : (faults : FaultLaws) (reads : ReadLaws) (s : Space) (to from : ℕ) (before after : List ℕ) → IsLow (map.get s) → to < 2 ^ 32 → from < 2 ^ 32
    → first_fault Reading (map.get s) from (length after) ≡ None → first_fault Writing (map.get s) to (length after) ≡ None
    → before ≡ bytes_from (map.get s) from (length after) → (from < to → Repeats (to - from) before after) → (to ≤ from → after ≡ before) → IsForward s to from after
made_forward faults reads s to from before after low to_less from_less may_read may_write were repeats same =
    let to_ends = range_ends faults Writing (map.get s) to (length after) low to_less may_write in
    let from_ends = range_ends faults Reading (map.get s) from (length after) low from_less may_read in
    let count : length before ≡ length after = rw were (reads.count (map.get s) from (length after)) in
    let was : (k : ℕ) → k < length after → get_or before k 0 ≡ byte_in (map.get s (from + k)) =
    λ k less. let w : wrapped (from + k) ≡ from + k = mod-eq_of_lt (omega arith) in rw were (rw (reads.byte (map.get s) from (length after) k less) (rw w refl)) in
    record {
      to_end = to_ends;
      from_end = from_ends;
      mapped = λ k less.
          let w : wrapped (from + k) ≡ from + k = mod-eq_of_lt (omega arith) in
          let found : fault_in Reading (address (wrapped (from + k))) (map.get s (wrapped (from + k))) ≡ None = faults.none_at Reading (map.get s) from (length after) k may_read less in
          rw w at (cell_found (address (wrapped (from + k))) (map.get s (wrapped (from + k))) found);
      front = λ k less first.
          elim (cases_lt from to) [
            | inl under ↦ (repeats under).front k (omega (arith, first under)) ∙ was k less
            | inr over ↦ rw (same over) (was k less)
          ];
      behind = λ k less under again.
          let place : k - (to - from) ≡ from + k - to = omega arith in
          (repeats under).behind k (omega arith) (omega arith) ∙ ap (λ place. get_or after place 0) place;
    }
