-- Handlers that are asked for together.
use Rattle.std.specs.Prelude.{Bool}
use Rattle.log_fields.specs.declared.field_values.Handler.{Handler}
use Rattle.owner_machine.specs.Contexts.{is_serial, is_exclusive, is_dpc, is_hang_check, is_interrupt, any_handler}
use Rattle.owner_rules.specs.declared.groups.Group.{Group}
use Rattle.owner_rules.specs.declared.groups.Group.TheVariants.{Serial, Exclusive, Dpc, HangCheck, Interrupt, Any}

abbrev pub in_group : Group → Handler → Bool
in_group Serial = is_serial
in_group Exclusive = is_exclusive
in_group Dpc = is_dpc
in_group HangCheck = is_hang_check
in_group Interrupt = is_interrupt
in_group Any = any_handler
