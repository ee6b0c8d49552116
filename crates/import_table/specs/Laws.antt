-- Laws of the imports. Each record is the contract of a function of src/laws.rt that does nothing.
use Rattle.std.specs.Prelude.{◌≡◌, ◌<◌, ◌≤◌, ℕ, min, List, slice_index, Some, Result, Ok, Err}
use Rattle.nd_mem.specs.declared.MemFault.{MemFault}
use Rattle.nd_mem.specs.Space.{Cells}
use Rattle.ia32_step.specs.Registers.{Registers}
use Rattle.import_table.specs.declared.calls.Call.{Call}
use Rattle.import_table.specs.Table.{Row, row_of, number_of}
use Rattle.import_table.specs.Arguments.{argument, return_address, value, most_words, call_with, arguments}

-- the table: numbers count from 1 to 64, each name has one number, no row has more than eight words, and levels go up to that of irq 1
pub record TableLaws : Type 0 where
  pub number : (n : ℕ) → 1 ≤ n → n ≤ 64 → (row_of n).import ≡ n
  pub name : (n : ℕ) → 1 ≤ n → n ≤ 64 → number_of (row_of n).name ≡ Some n
  -- what is found is in the table, and has the name
  pub from : (n : ℕ) (name : List ℕ) → number_of name ≡ Some n → 1 ≤ n
  pub to : (n : ℕ) (name : List ℕ) → number_of name ≡ Some n → n ≤ 64
  pub found : (n : ℕ) (name : List ℕ) → number_of name ≡ Some n → (row_of n).name ≡ name
  pub words : (n : ℕ) → 1 ≤ n → n ≤ 64 → (row_of n).words ≤ most_words
  pub levels : (n : ℕ) → 1 ≤ n → n ≤ 64 → (row_of n).low ≤ (row_of n).high
  pub highest : (n : ℕ) → 1 ≤ n → n ≤ 64 → (row_of n).high ≤ 26

-- how many words are taken of a row
abbrev pub count_of : Row → ℕ
count_of row = min row.words most_words

-- argument word k of a row
abbrev pub word_of : Row → Registers → Cells → ℕ → Result ℕ MemFault
word_of row r cells k = argument row.convention r cells k

-- a row's call with n words
abbrev pub call_of : Row → Registers → Cells → ℕ → Call
call_of row r cells n = call_with row.import (λ k. value (word_of row r cells k)) n

-- the first n words can be read
abbrev pub AreRead : Row → Registers → Cells → ℕ → Type 0
AreRead row r cells n = (k : ℕ) → k < n → (w : ℕ) × (word_of row r cells k ≡ Ok w)

-- the words of a call
pub record CallLaws : Type 0 where
  -- word k of a call of n words is that which was taken, and those behind are 0
  pub word : (import : ℕ) (word : ℕ → ℕ) (n k : ℕ) → k < n → k < 8 → slice_index (call_with import word n).words k ≡ word k
  pub rest : (import : ℕ) (word : ℕ → ℕ) (n k : ℕ) → n ≤ k → k < 8 → slice_index (call_with import word n).words k ≡ 0
  -- where the address to return to can't be read, there are no words
  pub unreturned : (row : Row) (r : Registers) (cells : Cells) (f : MemFault) → return_address r cells ≡ Err f → arguments row r cells ≡ Err (record { call = call_of row r cells 0; fault = f })
  -- or else the first word that can't be read cuts the call off
  pub cut : (row : Row) (r : Registers) (cells : Cells) (a k : ℕ) (f : MemFault) → return_address r cells ≡ Ok a → k < count_of row → AreRead row r cells k → word_of row r cells k ≡ Err f → arguments row r cells ≡ Err (record { call = call_of row r cells k; fault = f })
  -- or else it is whole
  pub whole : (row : Row) (r : Registers) (cells : Cells) (a : ℕ) → return_address r cells ≡ Ok a → AreRead row r cells (count_of row) → arguments row r cells ≡ Ok (call_of row r cells (count_of row))
