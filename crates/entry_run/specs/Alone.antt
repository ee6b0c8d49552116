-- A run of DriverEntry alone: there is no adapter and no driver, and no frame arrives. Its state, as what a program keeps of it shows it. (Windows DDK,
-- DriverEntry of NDIS miniport drivers.)
use Rattle.std.specs.Prelude.{ℕ, Bool, false, List, [], ◌∷◌, replicate, Option, None}
use Rattle.std.specs.Option.{option_map}
use Rattle.ia32_step.specs.Registers.{Registers}
use Rattle.pe_image.specs.Image.{ImageParts}
use Rattle.log_fields.specs.declared.field_values.Handler.TheVariants.{DriverEntry}
use Rattle.owner_machine.specs.State.{Owner}
use Rattle.owner_machine.specs.Contexts.{called}
use Rattle.owner_machine.specs.declared.rows.OpenCall.{OpenCall}
use Rattle.owner_machine.specs.declared.rows.Context.TheVariants as kept
use Rattle.owner_machine.specs.declared.rows.Next.TheVariants as nexts
use Rattle.guest_world.specs.declared.world.World.{World}
use Rattle.legal_run.specs.State.{Inputs, State, Context, Calling, Next, Inside, no_context}

-- the image, the address of each of its imports, how many instructions it may take, and where objects have their fields
abbrev pub alone : ImageParts → List ℕ → ℕ → List ℕ → Inputs
alone image slots budget layout =
    record { image = image; slots = slots; adapters = []; drivers = []; frames = []; budget = budget; layout = layout; shuts_down = false }

-- what is kept while it is open: the world, its registers, its open call, what it was charged, whether the miniport that it registered has handlers for
-- cancels and events, and what must stand next
pub record Kept : Type 0 where
  pub world : World
  pub registers : Registers
  pub call : Option Calling
  pub charged : ℕ
  pub cancelsend : Bool
  pub pnpevent : Bool
  pub next : Next

abbrev pub open_call : Calling → OpenCall
open_call call = called call.import call.words

-- the owner machine has its context alone
abbrev pub owner_of : Kept → Owner
owner_of k = record {
  packets = [];
  loans = [];
  requests = [];
  adapters = [];
  drivers = [];
  contexts = kept.Open None DriverEntry 0 (option_map open_call k.call) ∷ replicate 15 kept.Free;
  cancelsend = k.cancelsend;
  pnpevent = k.pnpevent;
  enters = 1;
  next = nexts.Free;
}

abbrev pub context_of : Kept → Context
context_of k = record { registers = k.registers; subject = []; call = k.call }

abbrev pub shown : Kept → State
shown k = record {
  owner = owner_of k;
  world = k.world;
  contexts = context_of k ∷ replicate 15 no_context;
  entrance = Inside;
  adapters = [];
  drivers = [];
  packets = [];
  lent = [];
  come = 0;
  expired = 0;
  charged = k.charged;
  charges = [];
  next = k.next;
}
