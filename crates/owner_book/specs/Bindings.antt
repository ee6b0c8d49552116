-- A driver that binds or unbinds: it has no filter and no list of its own yet, or no more.
use Rattle.std.specs.Prelude.{[]}
use Rattle.owner_machine.specs.declared.rows.Driver.{Driver}
use Rattle.owner_machine.specs.declared.rows.Binding.{Binding}

abbrev pub with_binding : Binding → Driver → Driver
with_binding binding d = record d { binding = binding; filter = 0; list = [] }
