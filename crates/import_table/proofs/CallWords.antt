-- A call grows by one word, or is cut off at the first that can't be read.
use Rattle.std.proofs.Common.{◌≡◌, ℕ, zero, suc, ◌+◌, ◌-◌, ◌<◌, ◌≤◌, Option, Some, None, Result, Ok, Err, refl, sym, ap, ◌∙◌, arith}
use Rattle.std.specs.Prelude.{min, slice_set, replicate}
use Rattle.std.specs.Option.{option_or}
use Rattle.nd_mem.specs.declared.MemFault.{MemFault}
use Rattle.nd_mem.specs.Space.{Cells}
use Rattle.ia32_step.specs.Registers.{Registers}
use Rattle.import_table.specs.declared.calls.Call.{Call}
use Rattle.import_table.specs.Table.{Row}
use Rattle.import_table.specs.Arguments.{argument, return_address, value, most_words, call_with, Cut, cut_at, first_cut, made_of, arguments}

-- ---- words

pub no_words : (import : ℕ) (word : ℕ → ℕ) → call_with import word 0 ≡ record { import = import; count = 0; words = replicate 8 0 }
unfolding call_with
no_words import word = refl

pub one_word_more : (import : ℕ) (word : ℕ → ℕ) (k : ℕ) → k < 8 → record { import = (call_with import word k).import; count = k + 1; words = slice_set (call_with import word k).words k (word k) } ≡ call_with import word (k + 1)
unfolding call_with
one_word_more import word zero h = refl
one_word_more import word (suc zero) h = refl
one_word_more import word (suc (suc zero)) h = refl
one_word_more import word (suc (suc (suc zero))) h = refl
one_word_more import word (suc (suc (suc (suc zero)))) h = refl
one_word_more import word (suc (suc (suc (suc (suc zero))))) h = refl
one_word_more import word (suc (suc (suc (suc (suc (suc zero)))))) h = refl
one_word_more import word (suc (suc (suc (suc (suc (suc (suc zero))))))) h = refl
one_word_more import word (suc (suc (suc (suc (suc (suc (suc (suc k)))))))) h = absurd (omega arith)

-- ---- the first cut

one_more : (word : ℕ → Result ℕ MemFault) (k n : ℕ) → first_cut word k (suc n) ≡ option_or (cut_at k (word k)) (first_cut word (k + 1) n)
unfolding first_cut
one_more word k n = refl

next : (word : ℕ → Result ℕ MemFault) (k n : ℕ) → k < n → first_cut word k (n - k) ≡ option_or (cut_at k (word k)) (first_cut word (k + 1) (n - (k + 1)))
next word k n h = let e : n - k ≡ suc (n - (k + 1)) = omega arith in ap (first_cut word k) e ∙ one_more word k (n - (k + 1))

pub goes_on : (word : ℕ → Result ℕ MemFault) (k n w : ℕ) → k < n → word k ≡ Ok w → first_cut word k (n - k) ≡ first_cut word (k + 1) (n - (k + 1))
goes_on word k n w h e = next word k n h ∙ ap (λ (r : Result ℕ MemFault). option_or (cut_at k r) (first_cut word (k + 1) (n - (k + 1)))) e

pub is_cut : (word : ℕ → Result ℕ MemFault) (k n : ℕ) (f : MemFault) → k < n → word k ≡ Err f → first_cut word k (n - k) ≡ Some (k, f)
is_cut word k n f h e = next word k n h ∙ ap (λ (r : Result ℕ MemFault). option_or (cut_at k r) (first_cut word (k + 1) (n - (k + 1)))) e

none_left : (word : ℕ → Result ℕ MemFault) (k : ℕ) → first_cut word k 0 ≡ None
unfolding first_cut
none_left word k = refl

pub uncut : (word : ℕ → Result ℕ MemFault) (k n : ℕ) → n ≤ k → first_cut word k (n - k) ≡ None
uncut word k n h = let e : n - k ≡ 0 = omega arith in ap (first_cut word k) e ∙ none_left word k

-- ---- what is made of it

module _ (row : Row) (r : Registers) (cells : Cells) where
  abbrev word : ℕ → Result ℕ MemFault
  word k = argument row.convention r cells k

  abbrev taken : ℕ → Call
  taken n = call_with row.import (λ k. value (word k)) n

  abbrev count : ℕ
  count = min row.words most_words

  made : (first later : Option Cut) → cut_at 0 (return_address r cells) ≡ first → first_cut word 0 count ≡ later → arguments row r cells ≡ made_of taken count (option_or first later)
  unfolding arguments
  made first later h g =
      ap (λ (c : Option Cut). made_of taken count (option_or c (first_cut word 0 count))) h
      ∙ ap (λ (c : Option Cut). made_of taken count (option_or first c)) g

  pub without_return : (f : MemFault) → return_address r cells ≡ Err f → arguments row r cells ≡ Err (record { call = taken 0; fault = f })
  without_return f h = made (Some (0, f)) (first_cut word 0 count) (ap (cut_at 0) h) refl

  pub cut_off : (k : ℕ) (f : MemFault) → cut_at 0 (return_address r cells) ≡ None → first_cut word 0 count ≡ Some (k, f) → arguments row r cells ≡ Err (record { call = taken k; fault = f })
  cut_off k f h g = made None (Some (k, f)) h g

  pub whole : cut_at 0 (return_address r cells) ≡ None → first_cut word 0 count ≡ None → arguments row r cells ≡ Ok (taken count)
  whole h g = made None None h g

-- ---- while words are taken: the first k of them are, and nothing is cut off yet
pub record HasTaken (row : Row) (r : Registers) (cells : Cells) (k : ℕ) (call : Call) : Type 0 where
  pub words : call ≡ call_with row.import (λ j. value (argument row.convention r cells j)) k
  pub returned : cut_at 0 (return_address r cells) ≡ None
  pub uncut : first_cut (argument row.convention r cells) 0 (min row.words most_words) ≡ first_cut (argument row.convention r cells) k (min row.words most_words - k)

module _ (row : Row) (r : Registers) (cells : Cells) where
  abbrev read : ℕ → Result ℕ MemFault
  read k = argument row.convention r cells k

  abbrev calls : ℕ → Call
  calls n = call_with row.import (λ k. value (read k)) n

  abbrev all : ℕ
  all = min row.words most_words

  -- a call of which no word was taken
  abbrev empty : Call
  empty = record { import = row.import; count = 0; words = replicate 8 0 }

  pub none_taken : (call : Call) → call ≡ empty → cut_at 0 (return_address r cells) ≡ None → HasTaken row r cells 0 call
  none_taken call e h = record {
    words = e ∙ sym (no_words row.import (λ k. value (read k)));
    returned = h;
    uncut = let e : all ≡ all - 0 = omega arith in ap (first_cut read 0) e;
  }

  pub one_taken : (k w : ℕ) (call : Call) → HasTaken row r cells k call → k < all → all ≤ 8 → read k ≡ Ok w → HasTaken row r cells (k + 1) (record { import = call.import; count = k + 1; words = slice_set call.words k w })
  one_taken k w call h less most e = record {
    words =
        ap (λ (x : Call). record { import = x.import; count = k + 1; words = slice_set x.words k w }) h.words
        ∙ ap (λ (v : ℕ). record { import = (calls k).import; count = k + 1; words = slice_set (calls k).words k v }) (sym (ap value e))
        ∙ one_word_more row.import (λ j. value (read j)) k (omega arith);
    returned = h.returned;
    uncut = h.uncut ∙ goes_on read k all w less e;
  }

  pub cut_here : (k : ℕ) (f : MemFault) (call : Call) → HasTaken row r cells k call → k < all → read k ≡ Err f → Err (record { call = call; fault = f }) ≡ arguments row r cells
  cut_here k f call h less e =
      ap (λ (x : Call). Err (record { call = x; fault = f })) h.words
      ∙ sym (cut_off row r cells k f h.returned (h.uncut ∙ is_cut read k all f less e))

  pub all_taken : (k : ℕ) (call : Call) → HasTaken row r cells k call → k ≡ all → Ok call ≡ arguments row r cells
  all_taken k call h e =
      ap (λ (x : Call). Ok x) (h.words ∙ ap calls e)
      ∙ sym (whole row r cells h.returned (h.uncut ∙ uncut read k all (omega arith)))

  pub no_return : (f : MemFault) (call : Call) → call ≡ empty → return_address r cells ≡ Err f → Err (record { call = call; fault = f }) ≡ arguments row r cells
  no_return f call e h =
      ap (λ (x : Call). Err (record { call = x; fault = f })) (e ∙ sym (no_words row.import (λ k. value (read k))))
      ∙ sym (without_return row r cells f h)
