-- Mnemonics by their names: Intel SDM volume 2. The table is that of the code (mnemonic_table.rt).
use Rattle.std.specs.Prelude.{ℕ, List, [], ◌∷◌, Option, Some, None, if◌then◌else◌}
use Rattle.asm_lines.specs.Names.{is_named}
use Rattle.asm_lines.specs.declared.mnemonic.Mnemonic.{Mnemonic}
use Rattle.asm_lines.specs.declared.mnemonic_table.MnemonicName.{MnemonicName}
use Rattle.asm_lines.specs.declared.mnemonic_table.TheConstants.{MNEMONICS}

unfoldable pub mnemonic_in : List MnemonicName → List ℕ → Option Mnemonic
mnemonic_in [] name = None
mnemonic_in (row ∷ rows) name = if is_named row.name name then Some row.mnemonic else mnemonic_in rows name

unfoldable pub mnemonic_of : List ℕ → Option Mnemonic
mnemonic_of name = mnemonic_in MNEMONICS name
