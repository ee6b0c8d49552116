-- Laws of the memory map. Each record is the contract of a function of src/map_laws.rt that does nothing.
use Rattle.std.specs.Prelude.{◌≡◌, ◌≢◌, ◌≤◌, ◌<◌, ℕ, ◌+◌, ◌⊎◌, Contains, All, AllPairs, None, Some, true, false}
use Rattle.nd_base.specs.declared.numbers.Slot.{Slot}
use Rattle.nd_mem.specs.Space.{Access, allows, first_fault}
use Rattle.guest_map.specs.declared.regions.Region.{Region}
use Rattle.guest_map.specs.declared.regions.TheConstants as region_code
use Rattle.guest_map.specs.declared.handles.TheConstants as handle_code
use Rattle.guest_map.specs.declared.slots.TheConstants as slot_code
use Rattle.guest_map.specs.Regions.{AreApart, end_of, IsInside, lies_in}
use Rattle.guest_map.specs.Regions as map
use Rattle.guest_map.specs.Handles as handle
use Rattle.guest_map.specs.Slots.{imports, IsSlot, slot_address}
use Rattle.guest_map.specs.Blank.{blank, blank_cells, read_write}

-- the constants of the code are the map's
pub record ConstantsAreTheMap : Type 0 where
  pub contexts : region_code.CONTEXTS ≡ map.contexts
  pub drivers : region_code.DRIVERS ≡ map.drivers
  pub adapters : region_code.ADAPTERS ≡ map.adapters
  pub regions : region_code.REGIONS ≡ map.regions
  pub image_base : region_code.IMAGE_BASE.0 ≡ map.image_base
  pub image_space : region_code.IMAGE_SPACE ≡ map.image_space
  pub pool : region_code.POOL ≡ map.pool
  pub send_slots : region_code.SEND_SLOTS ≡ map.send_slots
  pub request_buffers : region_code.REQUEST_BUFFERS ≡ map.request_buffers
  pub adapter_blocks : region_code.ADAPTER_BLOCKS ≡ map.adapter_blocks
  pub imports : slot_code.IMPORTS ≡ imports
  pub driver_object : handle_code.DRIVER_OBJECT ≡ handle.driver_object
  pub registry_path : handle_code.REGISTRY_PATH ≡ handle.registry_path
  pub wrapper : handle_code.WRAPPER ≡ handle.wrapper

-- no two regions share an address; all are behind the image and below the slots
pub record RegionsAreApart : Type 0 where
  pub apart : AllPairs AreApart map.regions
  pub behind : All (λ r. end_of map.image_space ≤ r.first.0) map.regions
  pub low : All (λ r. end_of r ≤ 0xF0000000) map.regions

-- each stack and answer area is a region; each slot, buffer and block lies in its region; their parts lie in them
pub record PlacesLieInRegions : Type 0 where
  pub stack : (context : ℕ) → context < map.contexts → Contains map.regions (map.stack context)
  pub answer_area : (context : ℕ) → context < map.contexts → Contains map.regions (map.answer_area context)
  pub send_slot : (driver slot : ℕ) → driver < map.drivers → slot < map.slots → IsInside (map.send_slot driver slot) map.send_slots
  pub send_packet : (driver slot : ℕ) → IsInside (map.send_packet driver slot) (map.send_slot driver slot)
  pub send_buffer : (driver slot : ℕ) → IsInside (map.send_buffer driver slot) (map.send_slot driver slot)
  pub send_bytes : (driver slot : ℕ) → IsInside (map.send_bytes driver slot) (map.send_slot driver slot)
  pub request_buffer : (adapter : ℕ) → adapter < map.adapters → IsInside (map.request_buffer adapter) map.request_buffers
  pub request_bytes : (adapter : ℕ) → IsInside (map.request_bytes adapter) (map.request_buffer adapter)
  pub request_count : (adapter : ℕ) → IsInside (map.request_count adapter) (map.request_buffer adapter)
  pub request_needed : (adapter : ℕ) → IsInside (map.request_needed adapter) (map.request_buffer adapter)
  pub adapter_block : (adapter : ℕ) → adapter < map.adapters → IsInside (map.adapter_block adapter) map.adapter_blocks

-- two stacks, answer areas, slots, buffers or blocks share no address, nor do two parts of one
pub record PlacesAreApart : Type 0 where
  pub stacks : (context other : ℕ) → context ≢ other → AreApart (map.stack context) (map.stack other)
  pub answer_areas : (context other : ℕ) → context ≢ other → AreApart (map.answer_area context) (map.answer_area other)
  pub stack_and_answer_area : (context other : ℕ) → AreApart (map.stack context) (map.answer_area other)
  pub send_slots : (driver slot other_driver other_slot : ℕ) → slot < map.slots → other_slot < map.slots → (driver ≢ other_driver) ⊎ (slot ≢ other_slot) → AreApart (map.send_slot driver slot) (map.send_slot other_driver other_slot)
  pub packet_and_buffer : (driver slot : ℕ) → AreApart (map.send_packet driver slot) (map.send_buffer driver slot)
  pub packet_and_bytes : (driver slot : ℕ) → AreApart (map.send_packet driver slot) (map.send_bytes driver slot)
  pub buffer_and_bytes : (driver slot : ℕ) → AreApart (map.send_buffer driver slot) (map.send_bytes driver slot)
  pub request_buffers : (adapter other : ℕ) → adapter ≢ other → AreApart (map.request_buffer adapter) (map.request_buffer other)
  pub bytes_and_count : (adapter : ℕ) → AreApart (map.request_bytes adapter) (map.request_count adapter)
  pub bytes_and_needed : (adapter : ℕ) → AreApart (map.request_bytes adapter) (map.request_needed adapter)
  pub count_and_needed : (adapter : ℕ) → AreApart (map.request_count adapter) (map.request_needed adapter)
  pub adapter_blocks : (adapter other : ℕ) → adapter ≢ other → AreApart (map.adapter_block adapter) (map.adapter_block other)

-- slots stand above all memory, and no two have one address
pub record SlotsAreHigh : Type 0 where
  pub high : (slot : Slot) → 0xF0000000 ≤ slot_address slot
  pub below : (slot : Slot) → IsSlot slot → slot_address slot ≤ 0xF0001000
  pub apart : (slot other : Slot) → IsSlot slot → IsSlot other → slot_address slot ≡ slot_address other → slot ≡ other

-- handles stand behind all regions and below all slots
pub record IsOpaque (number : ℕ) : Type 0 where
  pub behind : All (λ r. lies_in r number ≡ false) map.regions
  pub low : number < 0xF0000000

pub record HandlesAreOpaque : Type 0 where
  pub driver_object : IsOpaque handle.driver_object
  pub registry_path : IsOpaque handle.registry_path
  pub wrapper : IsOpaque handle.wrapper
  pub configuration_context : (adapter : ℕ) → adapter < map.adapters → IsOpaque (handle.configuration_context adapter)
  pub configuration_handle : (adapter : ℕ) → adapter < map.adapters → IsOpaque (handle.configuration_handle adapter)
  pub pool_handle : (number : ℕ) → number < 0xFFF0000 → IsOpaque (handle.pool_handle number)

-- the regions have zeros that may be read and written, and nothing else is there
pub record RegionsAreBlank : Type 0 where
  pub found : (r : Region) (a : ℕ) → Contains map.regions r → lies_in r a ≡ true → blank_cells a ≡ Some blank
  -- each may be read and written
  pub allowed : (access : Access) (r : Region) (a n : ℕ) → allows access read_write ≡ true → Contains map.regions r → r.first.0 ≤ a → a + n ≤ end_of r → first_fault access blank_cells a n ≡ None
  -- and nothing is elsewhere
  pub others : (a : ℕ) → All (λ r. lies_in r a ≡ false) map.regions → blank_cells a ≡ None
  -- in front of all and behind all regions
  pub before : (a : ℕ) → a < 0x81000000 → blank_cells a ≡ None
  pub behind : (a : ℕ) → 0x85004000 ≤ a → blank_cells a ≡ None
