-- Which words a call has, and where it is cut off.
use Rattle.std.proofs.Common.{◌≡◌, ℕ, zero, suc, ◌+◌, ◌-◌, ◌<◌, ◌≤◌, cond, Result, Ok, refl, sym, ap, ◌∙◌, arith}
use Rattle.std.specs.Prelude.{nat_lt, slice_index}
use Rattle.std.proofs.lemmas.Bool.{lt-ltb, cond-true}
use Rattle.std.proofs.lemmas.Bool.Decides.{nat_tests}
use Rattle.nd_mem.specs.declared.MemFault.{MemFault}
use Rattle.import_table.specs.Arguments.{call_with, cut_at, first_cut}
use Rattle.import_table.specs.Laws.{CallLaws, count_of, word_of}
use Rattle.import_table.proofs.CallWords.{goes_on, is_cut, uncut, without_return, cut_off, whole}

-- ---- words

word_at_place : (import : ℕ) (word : ℕ → ℕ) (n k : ℕ) → k < 8 → slice_index (call_with import word n).words k ≡ cond (nat_lt k n) (word k) 0
unfolding call_with
word_at_place import word n zero h = refl
word_at_place import word n (suc zero) h = refl
word_at_place import word n (suc (suc zero)) h = refl
word_at_place import word n (suc (suc (suc zero))) h = refl
word_at_place import word n (suc (suc (suc (suc zero)))) h = refl
word_at_place import word n (suc (suc (suc (suc (suc zero))))) h = refl
word_at_place import word n (suc (suc (suc (suc (suc (suc zero)))))) h = refl
word_at_place import word n (suc (suc (suc (suc (suc (suc (suc zero))))))) h = refl
word_at_place import word n (suc (suc (suc (suc (suc (suc (suc (suc k)))))))) h = absurd (omega arith)

taken : (k n w : ℕ) → k < n → cond (nat_lt k n) w 0 ≡ w
taken k n w h = cond-true (nat_lt k n) w 0 (lt-ltb k n h)

left : (k n w : ℕ) → n ≤ k → cond (nat_lt k n) w 0 ≡ 0
left k n w h = grind (arith, nat_tests)

-- ---- cuts

skip : (word : ℕ → Result ℕ MemFault) (n k : ℕ) → k ≤ n → ((j : ℕ) → j < k → (w : ℕ) × (word j ≡ Ok w)) → first_cut word 0 n ≡ first_cut word k (n - k)
skip word n zero h read = let e : n ≡ n - 0 = omega arith in ap (first_cut word 0) e
skip word n (suc k) h read =
    let here = read k (omega arith) in
    let e : suc k ≡ k + 1 = omega arith in
    skip word n k (omega arith) (λ j less. read j (omega arith))
    ∙ goes_on word k n here.0 (omega arith) here.1
    ∙ ap (λ i. first_cut word i (n - i)) (sym e)

pub call_facts : CallLaws
call_facts = record {
  word = λ import word n k less low. word_at_place import word n k low ∙ taken k n (word k) less;
  rest = λ import word n k more low. word_at_place import word n k low ∙ left k n (word k) more;
  unreturned = λ row r cells f h. without_return row r cells f h;
  cut = λ row r cells a k f h less read e.
      cut_off row r cells k f (ap (cut_at 0) h) (skip (word_of row r cells) (count_of row) k (omega arith) read ∙ is_cut (word_of row r cells) k (count_of row) f less e);
  whole = λ row r cells a h read.
      whole row r cells (ap (cut_at 0) h) (skip (word_of row r cells) (count_of row) (count_of row) (omega arith) read ∙ uncut (word_of row r cells) (count_of row) (count_of row) (omega arith));
}
