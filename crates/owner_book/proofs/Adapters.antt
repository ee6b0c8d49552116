-- Adapters behind the leave of a DriverEntry that failed.
use Rattle.std.proofs.Common.{◌≡◌, ℕ, zero, suc, ◌<◌, List, [], ◌∷◌, length, refl, ap, ◌∙◌, arith}
use Rattle.owner_machine.specs.declared.rows.Adapter.{Adapter}
use Rattle.owner_machine.specs.Handlers.{off_unless_stopped, entry_left}
use Rattle.owner_book.proofs.Contexts.{swept}

abbrev pub turned : Adapter → Adapter
turned row = record row { phase = off_unless_stopped row.phase }

pub swept_off : (rows : List Adapter) → swept turned (length rows) rows ≡ entry_left 1 rows
swept_off [] = refl
swept_off (row ∷ rows) = ap (λ xs. turned row ∷ xs) (swept_off rows)

off_suc : (m : ℕ) (rows : List Adapter) → entry_left 1 rows ≡ entry_left (suc m) rows
off_suc m [] = refl
off_suc m (row ∷ rows) = ap (λ xs. turned row ∷ xs) (off_suc m rows)

pub off_nonzero : (eax : ℕ) (rows : List Adapter) → 0 < eax → entry_left 1 rows ≡ entry_left eax rows
off_nonzero zero rows some = absurd (omega arith)
off_nonzero (suc m) rows some = off_suc m rows

pub swept_done : (i : ℕ) (was rows : List Adapter) → rows ≡ swept turned i was → i ≡ length was → rows ≡ entry_left 1 was
swept_done i was rows same all = same ∙ ap (λ (n : ℕ). swept turned n was) all ∙ swept_off was
