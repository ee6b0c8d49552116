-- An adapter of the world by its number.
use Rattle.std.specs.Prelude.{List, Option, None, Some, slice_index_or}
use Rattle.nd_base.specs.declared.numbers.AdapterNo.{AdapterNo}
use Rattle.guest_world.specs.declared.adapters.Adapter.{Adapter}

abbrev pub adapter_in : List (Option Adapter) → Option AdapterNo → Option Adapter
adapter_in adapters None = None
adapter_in adapters (Some a) = slice_index_or adapters a.0 None
