-- One mapped byte of guest memory. Its rights are those that IMAGE_SCN_MEM_READ, IMAGE_SCN_MEM_WRITE and IMAGE_SCN_MEM_EXECUTE give to a section
-- (Microsoft PE/COFF specification, "Section Flags"), kept for each byte.
use Rattle.std.specs.Prelude.{ℕ, Bool, Option, None, Some, refl}
use Rattle.std.specs.Coded.{Coded, code_by, coded×, coded_ℕ, coded_bool}
use Rattle.nd_mem.specs.declared.Rights.{Rights}

-- a byte with its rights
pub record Cell : Type 0 where
  pub byte : ℕ
  pub rights : Rights

-- as the tuple of its fields
abbrev pub cell_code : Coded Cell
cell_code =
    code_by (ℕ × (Bool × (Bool × Bool))) (coded× coded_ℕ (coded× coded_bool (coded× coded_bool coded_bool)))
    (λ c. (c.byte, (c.rights.read, (c.rights.write, c.rights.execute))))
    (λ p. record { byte = p.0; rights = record { read = p.1.0; write = p.1.1.0; execute = p.1.1.1 } })
    (λ _. refl)

-- a new byte
abbrev pub zero_cell : Rights → Cell
zero_cell rights = record { byte = 0; rights = rights }

-- what is found where a byte was written: the byte, with the rights as they were
abbrev pub cell_with : ℕ → Option Cell → Option Cell
cell_with byte None = None
cell_with byte (Some cell) = Some (record cell { byte = byte })

abbrev pub rights_in : Option Cell → Option Rights
rights_in None = None
rights_in (Some cell) = Some cell.rights
