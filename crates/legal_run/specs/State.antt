-- What a run is given, and its state: what the entries so far leave. (What each part is: the owner machine of packets, loans and requests; the world
-- of calls, with memory, levels, clock and cards; and here what a run itself keeps. The project's own: docs/LEGAL-RUN.md.)
use Rattle.std.specs.Prelude.{ℕ, suc, Bool, true, false, ◌&&◌, ◌==◌, not, List, [], ◌∷◌, length, replicate, slice_get, slice_set, slice_index_or, Option, Some, None, is_some}
use Rattle.std.specs.Option.{option_map_or}
use Rattle.std.specs.FinMap as table
use Rattle.nd_base.specs.declared.numbers.AdapterNo.{AdapterNo}
use Rattle.nd_base.specs.declared.numbers.CtxNo.{CtxNo}
use Rattle.nd_base.specs.declared.numbers.Phase.{Phase}
use Rattle.nd_base.specs.declared.numbers.Phase.TheVariants.{Starting, Running, Resetting, Off, Stopped}
use Rattle.nd_mem.specs.Space.{Cells}
use Rattle.pe_image.specs.Image.{ImageParts}
use Rattle.frame_wire.specs.declared.arrival.Arrival.{Arrival}
use Rattle.ia32_step.specs.Registers.{Registers, at_reset}
use Rattle.inf_file.specs.declared.param.Param.{Param}
use Rattle.log_fields.specs.declared.write.Write.{Write}
use Rattle.log_fields.specs.declared.field_values.Cause.{Cause}
use Rattle.log_fields.specs.declared.field_values.Condition.{Condition}
use Rattle.log_fields.specs.declared.field_values.Handler.{Handler}
use Rattle.log_fields.specs.declared.field_values.Handler.TheVariants.{DriverEntry}
use Rattle.call_log.specs.declared.entry.Entry.{Entry}
use Rattle.owner_machine.specs.State.{Owner, at, phase_is}
use Rattle.owner_machine.specs.Legal as owners
use Rattle.owner_machine.specs.declared.rows.Context.{Context as OwnerContext}
use Rattle.owner_machine.specs.declared.rows.Context.TheVariants as kept
use Rattle.guest_world.specs.declared.adapters.Hardware.{Hardware}
use Rattle.guest_world.specs.declared.adapters.Adapter.{Adapter}
use Rattle.guest_world.specs.declared.answer.Caller.{Caller}
use Rattle.guest_world.specs.declared.world.World.{World}
use Rattle.guest_world.specs.Worlds.{new_world, new_adapter}
use Rattle.import_answers.specs.Registration as registration
use Rattle.legal_run.specs.Guest.{start_space}

-- ---- what a run is given

-- an adapter: what the machine has for it, and its parameters
pub record Given : Type 0 where
  pub hardware : Hardware
  pub params : List Param

-- the image, and the address of each of its imports in the order of the file; the adapters; of each driver its adapter; the frames that will arrive;
-- how many instructions an adapter may take; where objects have their fields; whether the system shuts down in place of a halt
pub record Inputs : Type 0 where
  pub image : ImageParts
  pub slots : List ℕ
  pub adapters : List Given
  pub drivers : List AdapterNo
  pub frames : List Arrival
  pub budget : ℕ
  pub layout : List ℕ
  pub shuts_down : Bool

-- ---- the state

-- how far the function has come that a call of NdisMSynchronizeWithInterrupt waits for
pub data Stage : Type 0 where
  Needed : Stage
  Entered : Stage
  Left : (eax : ℕ) → Stage

-- what an open call waits for
pub data Wait : Type 0 where
  Nothing : Wait
  OnLock : (lock : ℕ) → Wait
  OnClock : (wake : ℕ) → Wait
  OnSync : (stage : Stage) → Wait

-- an open call: its import, its words, what it waits for, and what its reply writes beside what the import's row says
pub record Calling : Type 0 where
  pub import : ℕ
  pub words : List ℕ
  pub wait : Wait
  pub writes : List Write

-- a context, beside its open handler, which the owner machine keeps: its registers, what its handler was entered for, and its open call. It is all of
-- its last `enter`.
pub record Context : Type 0 where
  pub registers : Registers
  pub subject : List ℕ
  pub call : Option Calling

pub data Entrance : Type 0 where
  Unentered : Entrance
  Inside : Entrance
  Gone : (eax : ℕ) → Entrance

-- an adapter, beside what the owner machine and the world keep of it: whether initialize was entered, whether enableinterrupt is due, and the moment
-- of its next hang check
pub record Progress : Type 0 where
  pub initialized : Bool
  pub enables : Bool
  pub check : ℕ

-- a driver: what it awaits, if its last entry is an `await`; whether it is done; how many frames it was told
pub record Hearing : Type 0 where
  pub awaits : Option Condition
  pub done : Bool
  pub frames : ℕ

-- a packet: its bytes, and the send slot at which it was handed
pub record Frame : Type 0 where
  pub bytes : List ℕ
  pub slot : Option ℕ

-- what must stand directly next, beside what the owner machine asks for; at most one of these at a time
pub data Next : Type 0 where
  Free : Next
  -- the loan that the words of returnpacket name goes home
  Takes : (e : Entry) → Next
  -- the verdicts that are drawn from a leave
  Verdicts : (es : List Entry) → Next
  -- a context waits for a lock
  Spinning : (x : CtxNo) (lock : ℕ) → Next
  -- the entries that a call makes, the descriptors that it lends, and then its reply
  Makes : (x : CtxNo) (es : List Entry) (lent : List ℕ) → Next
  -- the stops of these adapters
  Stops : (cause : Cause) (adapters : List ℕ) → Next

pub record State : Type 0 where
  pub owner : Owner
  pub world : World
  pub contexts : List Context
  pub entrance : Entrance
  pub adapters : List Progress
  pub drivers : List Hearing
  -- by a packet's number; and by a loan's number the descriptor that was lent
  pub packets : List Frame
  pub lent : List ℕ
  -- how many frames have come; how many timers and hang checks expired since something was done; what DriverEntry was charged, and each adapter
  pub come : ℕ
  pub expired : ℕ
  pub charged : ℕ
  pub charges : List ℕ
  pub next : Next

-- ---- before the first entry

abbrev pub numbers : {A : Type 0} → ℕ → List A → List ℕ
numbers n [] = []
numbers n (x ∷ xs) = n ∷ numbers (suc n) xs

abbrev pub given_adapter : Given → Option Adapter
given_adapter g = Some (new_adapter g.hardware g.params)

-- four places: those of the given adapters, and none
abbrev pub placed_in : List (Option Adapter) → ℕ → List Given → List (Option Adapter)
placed_in places n [] = places
placed_in places n (g ∷ gs) = placed_in (slice_set places n (given_adapter g)) (suc n) gs

abbrev pub start_world : Inputs → World
start_world c =
    let w = new_world c.layout (start_space c.image c.slots c.layout (numbers 0 c.adapters)) in
    record w { adapters = placed_in w.adapters 0 c.adapters }

abbrev pub no_context : Context
no_context = record { registers = at_reset; subject = []; call = None }

abbrev pub no_progress : Progress
no_progress = record { initialized = false; enables = false; check = 0 }

abbrev pub silent : Hearing
silent = record { awaits = None; done = false; frames = 0 }

unfoldable pub no_contexts : List Context
no_contexts = replicate 16 no_context

abbrev pub start : Inputs → State
start c = record {
  owner = owners.start (length c.adapters) c.drivers;
  world = start_world c;
  contexts = no_contexts;
  entrance = Unentered;
  adapters = replicate (length c.adapters) no_progress;
  drivers = replicate (length c.drivers) silent;
  packets = [];
  lent = [];
  come = 0;
  expired = 0;
  charged = 0;
  charges = replicate (length c.adapters) 0;
  next = Free;
}

-- ---- what is found there

abbrev pub adapter : ℕ → AdapterNo
adapter a = record { 0 = a }

abbrev pub cells : State → Cells
cells s = table.get s.world.memory

abbrev pub clock : State → ℕ
clock s = s.world.clock.clock

abbrev pub context_at : State → ℕ → Context
context_at s x = slice_index_or s.contexts x no_context

abbrev pub call_at : State → ℕ → Option Calling
call_at s x = (context_at s x).call

abbrev pub progress_of : State → ℕ → Progress
progress_of s a = slice_index_or s.adapters a no_progress

abbrev pub hearing_of : State → ℕ → Hearing
hearing_of s b = slice_index_or s.drivers b silent

-- an adapter's part of the world
abbrev pub part_of : State → ℕ → Option Adapter
part_of s a = slice_index_or s.world.adapters a None

-- the numbers of the adapters, the drivers, the contexts
abbrev pub adapters_of : Inputs → List ℕ
adapters_of c = numbers 0 c.adapters

abbrev pub drivers_of : Inputs → List ℕ
drivers_of c = numbers 0 c.drivers

abbrev pub all_contexts : List ℕ
all_contexts = 0 ∷ 1 ∷ 2 ∷ 3 ∷ 4 ∷ 5 ∷ 6 ∷ 7 ∷ 8 ∷ 9 ∷ 10 ∷ 11 ∷ 12 ∷ 13 ∷ 14 ∷ 15 ∷ []

-- ---- a context's handler

abbrev pub is_open_context : OwnerContext → Bool
is_open_context (kept.Open _ _ _ _) = true
is_open_context _ = false

abbrev pub is_open : State → ℕ → Bool
is_open s x = at is_open_context s.owner.contexts x

abbrev pub is_free_context : OwnerContext → Bool
is_free_context (kept.Open _ _ _ _) = false
is_free_context _ = true

abbrev pub is_free : State → ℕ → Bool
is_free s x = at is_free_context s.owner.contexts x

abbrev pub adapter_in : Option OwnerContext → Option AdapterNo
adapter_in (Some (kept.Open a _ _ _)) = a
adapter_in _ = None

abbrev pub adapter_of : State → ℕ → Option AdapterNo
adapter_of s x = adapter_in (slice_get s.owner.contexts x)

abbrev pub handler_in : Option OwnerContext → Handler
handler_in (Some (kept.Open _ h _ _)) = h
handler_in _ = DriverEntry

abbrev pub handler_of : State → ℕ → Handler
handler_of s x = handler_in (slice_get s.owner.contexts x)

abbrev pub is_adapter : ℕ → Option AdapterNo → Bool
is_adapter a None = false
is_adapter a (Some other) = other.0 == a

-- an open context of the adapter
abbrev pub is_context_of : State → ℕ → ℕ → Bool
is_context_of s a x = is_open s x && is_adapter a (adapter_of s x)

abbrev pub caller : State → CtxNo → Caller
caller s x = record { context = x; adapter = adapter_of s x.0; handler = handler_of s x.0 }

-- ---- phases

abbrev pub is_off : Phase → Bool
is_off Off = true
is_off _ = false

abbrev pub is_starting : Phase → Bool
is_starting Starting = true
is_starting _ = false

-- neither off nor stopped
abbrev pub is_alive : Phase → Bool
is_alive Off = false
is_alive Stopped = false
is_alive _ = true

abbrev pub alive : State → ℕ → Bool
alive s a = phase_is is_alive s.owner a

-- running or resetting
abbrev pub is_serving : Phase → Bool
is_serving Running = true
is_serving Resetting = true
is_serving _ = false

abbrev pub serving : State → ℕ → Bool
serving s a = phase_is is_serving s.owner a

-- ---- the miniport

abbrev pub handler_address : State → Handler → ℕ
handler_address s h = option_map_or (λ m. registration.handler_of m h) s.world.miniport 0

abbrev pub has_handler : State → Handler → Bool
has_handler s h = not (handler_address s h == 0)

abbrev pub is_registered : State → Bool
is_registered s = is_some s.world.miniport
