-- Imports 11 to 15: an adapter's ports and its interrupt. (Windows DDK, ndis.h: NdisMRegisterIoPortRange, NdisMDeregisterIoPortRange,
-- NdisMRegisterInterrupt, NdisMDeregisterInterrupt, NdisMSynchronizeWithInterrupt.)
use Rattle.std.specs.Prelude.{ℕ, ◌+◌, Bool, false, ◌&&◌, ◌||◌, ◌==◌, not, nat_le, if◌then◌else◌, List, [], ◌∷◌, Option, None, Some}
use Rattle.import_answers.specs.Statuses.{success, failure}
use Rattle.nd_base.specs.declared.numbers.AdapterNo.{AdapterNo}
use Rattle.nd_mem.specs.Space.{address}
use Rattle.guest_world.specs.declared.adapters.Adapter.{Adapter}
use Rattle.guest_world.specs.declared.adapters.Interrupt.{Interrupt}
use Rattle.guest_world.specs.declared.world.World.{World}
use Rattle.guest_world.specs.declared.answer.Caller.{Caller}
use Rattle.guest_world.specs.Worlds.{adapter_of, with_adapter}
use Rattle.import_answers.specs.World.{word, hardware_of, is_adapter_handle}
use Rattle.import_answers.specs.Outcomes.{Outcome, Replies, Synchronizes, arguments_rule, asks, can_write, word_written, plain, done, returns}
use Rattle.import_answers.specs.Registration.{is_function}

-- an NE2000 has 32 ports
abbrev pub ports : ℕ
ports = 32

-- ---- NdisMRegisterIoPortRange(offset, handle, port, count)
abbrev pub is_port_range : ℕ → ℕ → ℕ → Bool
is_port_range first port count = nat_le first port && nat_le (port + count) (first + ports)

abbrev pub register_ports : World → Caller → List ℕ → Outcome
register_ports w x words =
    asks (is_adapter_handle x.adapter (word words 2)) arguments_rule
    (if is_port_range (hardware_of w x.adapter).port (word words 3) (word words 4)
    then asks (can_write w (word words 1) 4) arguments_rule (Replies (plain success (word_written (word words 1) (word words 3) ∷ [])) w)
    else returns w failure)

-- ---- NdisMDeregisterIoPortRange(handle, port, count, offset)
abbrev pub deregister_ports : World → Caller → List ℕ → Outcome
deregister_ports w x words = asks (is_adapter_handle x.adapter (word words 1)) arguments_rule (done w)

-- ---- NdisMRegisterInterrupt(interrupt, handle, vector, level, ISR asked for, shared, mode)

abbrev pub is_true : ℕ → Bool
is_true word = not (word == 0)

abbrev pub interrupt : List ℕ → Interrupt
interrupt words = record { object = address (word words 1); enters_isr = is_true (word words 5) || is_true (word words 6) }

abbrev pub with_interrupt : World → Option AdapterNo → Option Interrupt → World
with_interrupt w a given = with_adapter w a (λ adapter. record adapter { interrupt = given })

abbrev pub register_interrupt : World → Caller → List ℕ → Outcome
register_interrupt w x words =
    asks (is_adapter_handle x.adapter (word words 2)) arguments_rule
    (if word words 3 == (hardware_of w x.adapter).irq then returns (with_interrupt w x.adapter (Some (interrupt words))) success else returns w failure)

-- the interrupt that is registered of the caller's adapter
abbrev pub is_object : Option Interrupt → ℕ → Bool
is_object None a = false
is_object (Some given) a = given.object.0 == a

abbrev pub is_interrupt_in : Option Adapter → ℕ → Bool
is_interrupt_in None a = false
is_interrupt_in (Some adapter) a = is_object adapter.interrupt a

abbrev pub is_interrupt : World → Option AdapterNo → ℕ → Bool
is_interrupt w adapter a = is_interrupt_in (adapter_of w adapter) a

-- ---- NdisMDeregisterInterrupt(interrupt)
abbrev pub deregister_interrupt : World → Caller → List ℕ → Outcome
deregister_interrupt w x words = asks (is_interrupt w x.adapter (word words 1)) arguments_rule (done (with_interrupt w x.adapter None))

-- ---- NdisMSynchronizeWithInterrupt(interrupt, function, context): AL of the function is the call's
abbrev pub synchronize : World → Caller → List ℕ → Outcome
synchronize w x words = asks (is_interrupt w x.adapter (word words 1) && is_function (word words 2)) arguments_rule Synchronizes
