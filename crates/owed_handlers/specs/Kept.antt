-- What is kept of a run, as its inputs and its state: with nothing of what no handler is owed by.
use Rattle.std.specs.Prelude.{ℕ, Bool, false, true, ◌&&◌, not, List, [], Option, Some, None, slice_get, slice_index_or}
use Rattle.pe_image.specs.Image.{ImageParts}
use Rattle.guest_world.specs.declared.world.World.{World}
use Rattle.owner_machine.specs.State.{Owner, at}
use Rattle.owner_machine.specs.declared.rows.Context.{Context as OwnerContext}
use Rattle.legal_run.specs.State.{Inputs, State, Context, Entrance, Progress, Free, no_context, is_open_context, is_adapter, adapter_in}
use Rattle.legal_run.specs.Owed.{wants_sync}
use Rattle.miniport_state.specs.Views.{entrance_of}
use Rattle.miniport_state.specs.declared.adapters.Adapters.{Adapters}

abbrev pub no_image : ImageParts
no_image = record { base = 0; entry = 0; size = 0; header_size = 0; headers = []; sections = []; relocations = []; imports = [] }

abbrev pub given_end : Bool → Inputs
given_end shuts_down =
    record { image = no_image; slots = []; adapters = []; drivers = []; frames = []; budget = 0; layout = []; shuts_down = shuts_down }

abbrev pub state_by : Owner → World → List Context → Entrance → List Progress → State
state_by owner world contexts entrance adapters = record {
  owner = owner;
  world = world;
  contexts = contexts;
  entrance = entrance;
  adapters = adapters;
  drivers = [];
  packets = [];
  lent = [];
  come = 0;
  expired = 0;
  charged = 0;
  charges = [];
  next = Free;
}

abbrev pub inputs_of : Adapters → Inputs
inputs_of m = given_end m.shuts_down

abbrev pub state_of : Adapters → Owner → World → State
state_of m book w = state_by book w m.contexts (entrance_of m.entrance) m.progress.items

-- whether the least request that waits is one of this kind, a set or a query
abbrev pub asks : Bool → Option Bool → Bool
asks set None = false
asks true (Some is_set) = is_set
asks false (Some is_set) = not is_set

-- a context is the adapter's, and its call waits for its function to be entered
abbrev pub is_caller : List Context → List OwnerContext → ℕ → ℕ → Bool
is_caller contexts owner_contexts a x =
    (at is_open_context owner_contexts x && is_adapter a (adapter_in (slice_get owner_contexts x))) && wants_sync (slice_index_or contexts x no_context).call
