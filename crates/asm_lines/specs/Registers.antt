-- General registers by their names: Intel SDM volume 2, table 2-2. The table is that of the code (register.rt).
use Rattle.std.specs.Prelude.{ℕ, List, [], ◌∷◌, Option, Some, None, if◌then◌else◌}
use Rattle.asm_lines.specs.Names.{is_named}
use Rattle.asm_lines.specs.declared.register.Register.{Register}
use Rattle.asm_lines.specs.declared.register.RegisterName.{RegisterName}
use Rattle.asm_lines.specs.declared.register.TheConstants.{REGISTERS}

unfoldable pub register_in : List RegisterName → List ℕ → Option Register
register_in [] name = None
register_in (row ∷ rows) name = if is_named row.name name then Some row.register else register_in rows name

unfoldable pub register_of : List ℕ → Option Register
register_of name = register_in REGISTERS name
