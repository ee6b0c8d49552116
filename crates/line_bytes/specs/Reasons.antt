-- Faults of instructions as refusals of their lines.
use Rattle.asm_encode.specs.declared.templates.Fault.{Fault}
use Rattle.asm_encode.specs.declared.templates.Fault.TheVariants as faults
use Rattle.line_bytes.specs.declared.refused.Refused.{Refused}
use Rattle.line_bytes.specs.declared.refused.Refused.TheVariants as refused

abbrev pub refused_of : Fault → Refused
refused_of faults.NoForm = refused.Line
refused_of faults.Range = refused.Range
