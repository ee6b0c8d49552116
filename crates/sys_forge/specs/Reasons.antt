-- Refusals of lines as refusals of sources.
use Rattle.std.specs.Prelude.{ℕ}
use Rattle.line_bytes.specs.declared.refused.Refused.{Refused}
use Rattle.line_bytes.specs.declared.refused.Refused.TheVariants as refused
use Rattle.sys_forge.specs.declared.refusal.ForgeRefusal.{ForgeRefusal}
use Rattle.sys_forge.specs.declared.refusal.ForgeRefusal.TheVariants as refusals

-- the refusal of the line of a number
abbrev pub refusal_at : Refused → ℕ → ForgeRefusal
refusal_at refused.OutOfMemory line = refusals.OutOfMemory
refusal_at refused.Line line = refusals.Line line
refusal_at refused.Range line = refusals.Range line
