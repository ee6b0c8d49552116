-- Imports 7 to 10 and 51: an adapter's parameters and its resources. (Windows DDK, ndis.h: NdisOpenConfiguration, NdisReadConfiguration with
-- NDIS_CONFIGURATION_PARAMETER, NdisCloseConfiguration, NdisReadNetworkAddress, NdisMQueryAdapterResources with NDIS_RESOURCE_LIST, which is a
-- CM_PARTIAL_RESOURCE_LIST of wdm.h. Names of registry values are compared without case.)
use Rattle.std.specs.Prelude.{codes, ◌≤◌, ⊤, ℕ, zero, suc, ◌+◌, ◌*◌, ◌/◌, ◌%◌, Bool, true, ◌&&◌, ◌==◌, nat_lt, if◌then◌else◌, List, [], ◌∷◌, ◌++◌, map, length, Option, None, Some}
use Rattle.std.specs.List.{flat_map, range_with_len}
use Rattle.std.specs.Option.{option_map, option_and_then}
use Rattle.std.specs.Result.{result_ok}
use Rattle.std.specs.Int.{w16, w32, w64, to_le_bytes}
use Rattle.nd_mem.specs.Space.{Cells}
use Rattle.packet_chain.specs.Chain.{word_at}
use Rattle.guest_map.specs.Handles.{configuration_handle}
use Rattle.inf_file.specs.declared.param.ParamValue.{ParamValue}
use Rattle.inf_file.specs.declared.param.ParamValue.TheVariants.{Text, Number}
use Rattle.hex.specs.Hex.{decode_of}
use Rattle.inf_file.specs.Numbers.{digits}
use Rattle.inf_file.specs.ByName.{value_of}
use Rattle.import_answers.specs.Statuses.{success, failure, resources}
use Rattle.nd_base.specs.declared.numbers.AdapterNo.{AdapterNo}
use Rattle.guest_world.specs.declared.adapters.Hardware.{Hardware}
use Rattle.guest_world.specs.declared.world.World.{World}
use Rattle.guest_world.specs.declared.answer.Caller.{Caller}
use Rattle.guest_world.specs.declared.answer.Reply.{Reply}
use Rattle.guest_world.specs.Worlds.{with_adapter}
use Rattle.import_answers.specs.World.{cells, word, params_of, hardware_of, is_configuration_context, is_configuration_handle}
use Rattle.import_answers.specs.Outcomes.{Outcome, Picks, arguments_rule, asks, can_read, can_write, word_of, half_at, written, word_written, plain, done, writes}
use Rattle.import_answers.specs.Blocks.{has_room, with_block}

-- ---- NdisOpenConfiguration(status, handle, configuration context)

abbrev pub opened : World → Option AdapterNo → World
opened w a = with_adapter w a (λ adapter. record adapter { opened = true })

abbrev pub handle_of : Option AdapterNo → ℕ
handle_of None = 0
handle_of (Some a) = configuration_handle a.0

abbrev pub open_configuration : World → Caller → List ℕ → Outcome
open_configuration w x words =
    asks (can_write w (word words 1) 4 && (can_write w (word words 2) 4 && is_configuration_context x.adapter (word words 3))) arguments_rule
    (writes (opened w x.adapter) (word_written (word words 1) success ∷ word_written (word words 2) (handle_of x.adapter) ∷ []))

-- ---- NdisReadConfiguration(status, value, handle, keyword, kind)

-- the n units of two bytes from an address on
abbrev pub units_at : Cells → ℕ → ℕ → List ℕ
units_at cells a n = map (λ k. half_at cells (a + 2 * k)) (range_with_len 0 n)

-- an NDIS_STRING: its length in bytes, its room, the address of its characters
pub record Counted : Type 0 where
  pub length : ℕ
  pub characters : ℕ

abbrev pub counted_at : Cells → ℕ → Counted
counted_at cells a = record { length = half_at cells a; characters = word_at cells (a + 4) }

abbrev pub is_even : ℕ → Bool
is_even n = (n % 2) == 0

-- a number as it is, and a text of digits alone as the number below 2^32 that they write
abbrev pub number_of : ℕ → ParamValue → Option ℕ
number_of base (Number n) = Some n
number_of base (Text text) = digits base text

-- what a value is read as: a number, or a text
pub data Read : Type 0 where
  Integer : ℕ → Read
  String : List ℕ → Read

abbrev pub integer : ℕ → ParamValue → Option Read
integer base v = option_map (λ n. Integer n) (number_of base v)

-- its bytes are counted in two bytes
abbrev pub string : ParamValue → Option Read
string (Text text) = if nat_lt 65535 (2 * length text) then None else Some (String text)
string (Number n) = None

-- NdisParameterInteger 0, NdisParameterHexInteger 1, NdisParameterString 2
abbrev pub read_as : ℕ → ParamValue → Option Read
read_as zero v = integer 10 v
read_as (suc zero) v = integer 16 v
read_as (suc (suc zero)) v = string v
read_as (suc (suc (suc kind))) v = None

-- what is read is short enough to be given
abbrev pub IsReadable : Read → Type 0
IsReadable (Integer n) = ⊤
IsReadable (String text) = 2 * length text ≤ 65535

-- the value's block: its kind, and the number, or a string whose characters stand directly behind
abbrev pub block_length : Read → ℕ
block_length (Integer n) = 8
block_length (String text) = 12 + 2 * length text

-- a string whose characters stand at an address, and these
abbrev pub string_bytes : List ℕ → ℕ → List ℕ
string_bytes text a =
    to_le_bytes w16 (2 * length text) ++ (to_le_bytes w16 (2 * length text) ++ (to_le_bytes w32 a ++ flat_map (to_le_bytes w16) text))

abbrev pub block_bytes : ℕ → Read → ℕ → List ℕ
block_bytes kind (Integer n) a = to_le_bytes w32 kind ++ to_le_bytes w32 n
block_bytes kind (String text) a = to_le_bytes w32 kind ++ string_bytes text (a + 12)

-- without a value only the status is written
abbrev pub without_value : World → List ℕ → ℕ → Outcome
without_value w words status = writes w (word_written (word words 1) status ∷ [])

-- what is written where a value is given
abbrev pub value_reply : List ℕ → Read → ℕ → Reply
value_reply words read a =
    plain 0 (written a (block_bytes (word words 5) read a) ∷ word_written (word words 1) success ∷ word_written (word words 2) a ∷ [])

abbrev pub given_value : World → List ℕ → Option Read → Outcome
given_value w words None = without_value w words failure
given_value w words (Some read) =
    if has_room w (block_length read)
    then asks (can_write w (word words 2) 4) arguments_rule (Picks (block_length read) (value_reply words read) (with_block w (block_length read)))
    else without_value w words resources

abbrev pub looked_up : World → Caller → List ℕ → Counted → Outcome
looked_up w x words keyword =
    if is_even keyword.length
    then asks (can_read w keyword.characters keyword.length) arguments_rule
    (given_value w words (option_and_then (read_as (word words 5)) (value_of (units_at (cells w) keyword.characters (keyword.length / 2)) (params_of w x.adapter))))
    else without_value w words failure

abbrev pub read_configuration : World → Caller → List ℕ → Outcome
read_configuration w x words =
    asks (can_write w (word words 1) 4 && (is_configuration_handle w x.adapter (word words 3) && can_read w (word words 4) 8)) arguments_rule
    (looked_up w x words (counted_at (cells w) (word words 4)))

-- ---- NdisCloseConfiguration(handle)
abbrev pub close_configuration : World → Caller → List ℕ → Outcome
close_configuration w x words = asks (is_configuration_handle w x.adapter (word words 1)) arguments_rule (done w)

-- ---- NdisReadNetworkAddress(status, address, length, handle)

abbrev pub network_address : List ℕ
network_address = codes "NetworkAddress"

-- six bytes, in twelve hexadecimal digits
abbrev pub address_of : List ℕ → Option (List ℕ)
address_of text = if length text == 12 then result_ok (decode_of text) else None

abbrev pub address_in : ParamValue → Option (List ℕ)
address_in (Number n) = None
address_in (Text text) = address_of text

-- what is written where an address is given
abbrev pub address_reply : List ℕ → List ℕ → ℕ → Reply
address_reply words bytes a =
    plain 0 (written a bytes ∷ word_written (word words 1) success ∷ word_written (word words 2) a ∷ word_written (word words 3) 6 ∷ [])

abbrev pub given_address : World → List ℕ → Option (List ℕ) → Outcome
given_address w words None = without_value w words failure
given_address w words (Some bytes) =
    if has_room w 6
    then asks (can_write w (word words 2) 4 && can_write w (word words 3) 4) arguments_rule (Picks 6 (address_reply words bytes) (with_block w 6))
    else without_value w words resources

abbrev pub read_network_address : World → Caller → List ℕ → Outcome
read_network_address w x words =
    asks (can_write w (word words 1) 4 && is_configuration_handle w x.adapter (word words 4)) arguments_rule
    (given_address w words (option_and_then address_in (value_of network_address (params_of w x.adapter))))

-- ---- NdisMQueryAdapterResources(status, configuration context, list, size)

-- version 1, revision 1, two descriptors: CmResourceTypePort (1) from the first port on, 32 of them; CmResourceTypeInterrupt (2), level and vector the
-- line's number, affinity 1. Each is CmResourceShareDeviceExclusive (1).
abbrev pub resource_list : Hardware → List ℕ
resource_list h =
    to_le_bytes w16 1 ++ (to_le_bytes w16 1 ++ (to_le_bytes w32 2
    ++ (1 ∷ 1 ∷ to_le_bytes w16 1 ++ (to_le_bytes w64 h.port ++ (to_le_bytes w32 32
    ++ (2 ∷ 1 ∷ to_le_bytes w16 1 ++ (to_le_bytes w32 h.irq ++ (to_le_bytes w32 h.irq ++ to_le_bytes w32 1))))))))

abbrev pub query_resources : World → Caller → List ℕ → Outcome
query_resources w x words =
    asks (can_write w (word words 1) 4 && (is_configuration_context x.adapter (word words 2) && can_read w (word words 4) 4)) arguments_rule
    (if nat_lt (word_of w (word words 4)) 40
    then asks (can_write w (word words 4) 4) arguments_rule (writes w (word_written (word words 1) resources ∷ word_written (word words 4) 40 ∷ []))
    else asks (can_write w (word words 3) 40) arguments_rule (writes w (word_written (word words 1) success ∷ written (word words 3) (resource_list (hardware_of w x.adapter)) ∷ [])))
