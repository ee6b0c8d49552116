-- What a call of an import finds: guest memory, its words, and what its own adapter is and was given. (Windows DDK, ndis.h: what NDIS keeps of a
-- miniport and of its adapters.)
use Rattle.std.specs.Prelude.{ℕ, ◌-◌, ◌<◌, Bool, false, ◌&&◌, ◌==◌, List, [], replicate, Option, None, Some, slice_index_or, ⊤}
use Rattle.std.specs.FinMap as table
use Rattle.nd_base.specs.declared.numbers.AdapterNo.{AdapterNo}
use Rattle.nd_mem.specs.Space.{Cells}
use Rattle.guest_map.specs.Regions.{adapters, adapter_block}
use Rattle.guest_map.specs.Handles.{configuration_context, configuration_handle}
use Rattle.inf_file.specs.declared.param.Param.{Param}
use Rattle.guest_world.specs.declared.adapters.Adapter.{Adapter}
use Rattle.guest_world.specs.declared.adapters.Hardware.{Hardware}
use Rattle.guest_world.specs.declared.world.World.{World}
use Rattle.guest_world.specs.Worlds.{adapter_of}

abbrev pub cells : World → Cells
cells w = table.get w.memory

-- argument word k of a call, from 1
abbrev pub word : List ℕ → ℕ → ℕ
word words k = slice_index_or words (k - 1) 0

-- ---- the caller's adapter, which DriverEntry has not

-- it is one of those that there may be
abbrev pub IsNumber : Option AdapterNo → Type 0
IsNumber None = ⊤
IsNumber (Some a) = a.0 < adapters

abbrev pub no_hardware : Hardware
no_hardware = record { port = 0; irq = 0; station = replicate 6 0 }

abbrev pub hardware_in : Option Adapter → Hardware
hardware_in None = no_hardware
hardware_in (Some adapter) = adapter.hardware

abbrev pub hardware_of : World → Option AdapterNo → Hardware
hardware_of w a = hardware_in (adapter_of w a)

abbrev pub params_in : Option Adapter → List Param
params_in None = []
params_in (Some adapter) = adapter.params

abbrev pub params_of : World → Option AdapterNo → List Param
params_of w a = params_in (adapter_of w a)

-- ---- handles

-- the handle is that of the caller's own adapter: an adapter's handle is the address of its block
abbrev pub is_adapter_handle : Option AdapterNo → ℕ → Bool
is_adapter_handle None handle = false
is_adapter_handle (Some a) handle = handle == (adapter_block a.0).first.0

-- the configuration context that initialize was given
abbrev pub is_configuration_context : Option AdapterNo → ℕ → Bool
is_configuration_context None handle = false
is_configuration_context (Some a) handle = handle == configuration_context a.0

abbrev pub was_opened : Option Adapter → Bool
was_opened None = false
was_opened (Some adapter) = adapter.opened

-- the configuration handle that NdisOpenConfiguration gave; closing it ends nothing
abbrev pub is_configuration_handle : World → Option AdapterNo → ℕ → Bool
is_configuration_handle w None handle = false
is_configuration_handle w (Some a) handle = was_opened (adapter_of w (Some a)) && (handle == configuration_handle a.0)
