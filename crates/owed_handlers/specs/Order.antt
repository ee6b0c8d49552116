-- The order in which owed handlers are entered. (Which of several comes first: the project's own, docs/LEGAL-RUN.md.)
use Rattle.std.specs.Prelude.{ℕ, Bool, true, false, List, [], ◌∷◌, ◌++◌, map, filter, Option}
use Rattle.std.specs.List.{flat_map}
use Rattle.log_fields.specs.declared.field_values.Handler.{Handler}
use Rattle.log_fields.specs.declared.field_values.Handler.TheVariants as handler
use Rattle.legal_run.specs.State.{Inputs, State, adapter, adapters_of}
use Rattle.legal_run.specs.Owed.{first, is_owed, owes_entry}
use Rattle.owed_handlers.specs.declared.choice.Owed.{Owed}
use Rattle.owed_handlers.specs.declared.choice.Owed.TheVariants as owed

-- interrupt handlers come first; of one adapter in this order
abbrev pub at_once : List Handler
at_once = handler.Sync ∷ handler.Isr ∷ handler.DisableInterrupt ∷ []

abbrev pub in_turn : List Handler
in_turn =
    handler.HandleInterrupt ∷ handler.EnableInterrupt ∷ handler.Timer ∷ handler.ReturnPacket ∷ handler.Reset ∷ handler.CancelSend ∷ handler.Query
    ∷ handler.Set ∷ handler.Send ∷ handler.SendPackets ∷ handler.CheckForHang ∷ handler.PnpEvent ∷ handler.Initialize ∷ handler.Halt
    ∷ handler.Shutdown ∷ []

-- those of an adapter that are owed
abbrev pub owed_of : Inputs → State → List Handler → ℕ → List Owed
owed_of c s hs a = map (λ h. owed.Handler (adapter a) h) (filter (is_owed c s a) hs)

-- the lowest adapter's come first
abbrev pub owed_by : Inputs → State → List Handler → List ℕ → List Owed
owed_by c s hs adapters = flat_map (owed_of c s hs) adapters

abbrev pub entry_if : Bool → List Owed
entry_if true = owed.Entry ∷ []
entry_if false = []

-- all that are owed, in the order in which they are entered
abbrev pub all_owed : Inputs → State → List Owed
all_owed c s = owed_by c s at_once (adapters_of c) ++ (entry_if (owes_entry c s) ++ owed_by c s in_turn (adapters_of c))

abbrev pub first_owed : Inputs → State → Option Owed
first_owed c s = first (all_owed c s)
