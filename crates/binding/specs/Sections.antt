-- The driver of a section of a script. (The project's own.)
use Rattle.std.specs.Prelude.{◌≡◌, List, slice_get, Some}
use Rattle.nd_base.specs.declared.numbers.BindingNo.{BindingNo}
use Rattle.nd_base.specs.declared.numbers.AdapterNo.{AdapterNo}
use Rattle.driver_script.specs.declared.adapter_lines.AdapterLine.{AdapterLine}
use Rattle.driver_script.specs.declared.section_lines.Line.{Line}
use Rattle.driver_script.specs.Scripts.{Contents}
use Rattle.binding.specs.Steps.{Follower, at_first}

-- It is at the begin of section b, over its adapter's station address.
pub record BeginsSection (c : Contents) (b : BindingNo) (d : Follower) : Type 0 where
  pub number : AdapterNo
  pub adapter : AdapterLine
  pub lines : List Line
  pub on : slice_get c.drivers b.0 ≡ Some number
  pub is : slice_get c.adapters number.0 ≡ Some adapter
  pub section : slice_get c.sections b.0 ≡ Some lines
  pub begins : d ≡ at_first adapter.mac lines
