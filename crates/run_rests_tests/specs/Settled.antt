-- A run of two adapters whose interrupt lines are at level 18, and of which nothing was charged; the first has a driver.
use Rattle.std.specs.Prelude.{◌≡◌, false, List, [], ◌∷◌, length}
use Rattle.pe_image.specs.Image.{ImageParts}
use Rattle.frame_wire.specs.declared.arrival.Arrival.{Arrival}
use Rattle.guest_world.specs.declared.world.World.{World}
use Rattle.owner_machine.specs.State.{Owner}
use Rattle.legal_run.specs.Guest.{entry_point}
use Rattle.legal_run.specs.State.{Given, Inputs, State, adapter, start}
use Rattle.miniport_state.specs.Views.{entrance_of}
use Rattle.miniport_state.specs.Seen.{AreLevels, AreSmall, Point}
use Rattle.miniport_state.specs.declared.adapters.Adapters.{Adapters}
use Rattle.run_course.specs.declared.course.Course.{Course}

abbrev pub image : ImageParts
image = record { base = 0; entry = 0; size = 0; header_size = 0; headers = []; sections = []; relocations = []; imports = [] }

abbrev pub given : Given
given = record { hardware = record { port = 0x300; irq = 9; station = 0 ∷ 0 ∷ 0 ∷ 0 ∷ 0 ∷ 0 ∷ [] }; params = [] }

abbrev pub two : List Arrival → Inputs
two frames =
    record { image = image; slots = []; adapters = given ∷ given ∷ []; drivers = adapter 0 ∷ []; frames = frames; budget = 1000; layout = []; shuts_down = false }

-- what was given is kept, and nothing is charged
pub record IsSettled (m : Adapters) : Type 0 where
  pub sixteen : length m.contexts ≡ 16
  pub own : m.charged ≡ 0
  pub each : m.charges.items ≡ 0 ∷ 0 ∷ []
  pub small : AreSmall m.budget m.charged m.charges.items
  pub levels : AreLevels (two []) m.lines
  pub most : m.budget ≡ 1000
  pub begins : m.entry.0 ≡ entry_point image
  pub ends : m.shuts_down ≡ false

abbrev pub point_of : Adapters → Owner → World → List Arrival → Course → Point
point_of m book w frames k =
    record {
      inputs = two frames;
      state =
          record (start (two frames)) {
            owner = book;
            world = w;
            contexts = m.contexts;
            entrance = entrance_of m.entrance;
            adapters = m.progress.items;
            drivers = k.drivers.items;
            packets = k.packets.items;
            lent = k.lent.items;
            come = k.come;
            expired = k.expired;
          };
    }

-- a state that a course shows
abbrev pub shown_by : Course → State
shown_by k = record (start (two [])) { drivers = k.drivers.items; packets = k.packets.items; lent = k.lent.items; come = k.come; expired = k.expired }
