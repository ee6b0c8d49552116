-- The argument words of a call, as they stand where an import's slot traps: EIP is at the slot, and at ESP stands the address to return to. (The calling conventions
-- __stdcall, __cdecl and __fastcall of Microsoft's C compiler for x86. What is cut off, and where, is the project's own.)
use Rattle.std.specs.Prelude.{ℕ, zero, suc, ◌+◌, ◌-◌, ◌*◌, min, nat_lt, ◌==◌, if◌then◌else◌, [], ◌∷◌, map, Option, None, Some, Result, Ok, Err}
use Rattle.std.specs.Option.{option_or}
use Rattle.std.specs.Int.{w32, from_le_bytes}
use Rattle.nd_mem.specs.declared.MemFault.{MemFault}
use Rattle.nd_mem.specs.Space.{Cells, Reading, wrapped, first_fault, bytes_from, answer_of}
use Rattle.ia32_step.specs.Registers.{Registers, general_of, ECX, ESP}
use Rattle.import_table.specs.declared.rows.Convention.{Convention}
use Rattle.import_table.specs.declared.rows.Convention.TheVariants.{Stdcall, Cdecl, Fastcall}
use Rattle.import_table.specs.declared.calls.Call.{Call}
use Rattle.import_table.specs.declared.calls.CutCall.{CutCall}
use Rattle.import_table.specs.Table.{Row}

abbrev pub EDX : ℕ
EDX = 2

-- the four bytes at an address, low byte first, or the fault of the first that can't be read
unfoldable pub word_at : Cells → ℕ → Result ℕ MemFault
word_at cells a = answer_of (from_le_bytes w32 (bytes_from cells a 4)) (first_fault Reading cells a 4)

-- word k, from 0, on the stack behind the address to return to
abbrev pub stacked : Registers → Cells → ℕ → Result ℕ MemFault
stacked r cells k = word_at cells (wrapped (general_of r ESP + (4 + 4 * k)))

-- argument word k, from 0
unfoldable pub argument : Convention → Registers → Cells → ℕ → Result ℕ MemFault
argument Stdcall r cells k = stacked r cells k
argument Cdecl r cells k = stacked r cells k
argument Fastcall r cells k =
    if k == 0 then Ok (general_of r ECX)
    else (if k == 1 then Ok (general_of r EDX) else stacked r cells (k - 2))

abbrev pub return_address : Registers → Cells → Result ℕ MemFault
return_address r cells = word_at cells (general_of r ESP)

abbrev pub value : Result ℕ MemFault → ℕ
value (Ok word) = word
value (Err fault) = 0

-- a call has room for so many words, and no import takes more
abbrev pub most_words : ℕ
most_words = 8

-- a call whose first n words were taken, where these are all its words
unfoldable pub call_with : ℕ → (ℕ → ℕ) → ℕ → Call
call_with import word n =
    record { import = import; count = n; words = map (λ k. if nat_lt k n then word k else 0) (0 ∷ 1 ∷ 2 ∷ 3 ∷ 4 ∷ 5 ∷ 6 ∷ 7 ∷ []) }

-- ---- where a call is cut off: the number of the first word that can't be read, and its fault
abbrev pub Cut : Type 0
Cut = ℕ × MemFault

abbrev pub cut_at : ℕ → Result ℕ MemFault → Option Cut
cut_at k (Ok word) = None
cut_at k (Err fault) = Some (k, fault)

-- among n words from k on
unfoldable pub first_cut : (ℕ → Result ℕ MemFault) → ℕ → ℕ → Option Cut
first_cut word k zero = None
first_cut word k (suc n) = option_or (cut_at k (word k)) (first_cut word (k + 1) n)

-- the address to return to is read before all words
abbrev pub cut_of : Row → Registers → Cells → Option Cut
cut_of row r cells = option_or (cut_at 0 (return_address r cells)) (first_cut (argument row.convention r cells) 0 (min row.words most_words))

abbrev pub made_of : (ℕ → Call) → ℕ → Option Cut → Result Call CutCall
made_of call n None = Ok (call n)
made_of call n (Some cut) = Err (record { call = call cut.0; fault = cut.1 })

-- the call that registers and memory make of a row, or as much of it as can be read
unfoldable pub arguments : Row → Registers → Cells → Result Call CutCall
arguments row r cells = made_of (call_with row.import (λ k. value (argument row.convention r cells k))) (min row.words most_words) (cut_of row r cells)
