-- Legal logs: each entry has a case from the state that the earlier ones leave.
use Rattle.std.specs.Prelude.{◌≡◌, Bool, false, List, [], ◌∷◌, replicate, None, map}
use Rattle.nd_base.specs.declared.numbers.AdapterNo.{AdapterNo}
use Rattle.nd_base.specs.declared.numbers.CtxNo.{CtxNo}
use Rattle.nd_base.specs.declared.numbers.Phase.TheVariants.{Starting}
use Rattle.call_log.specs.declared.entry.Entry.{Entry}
use Rattle.call_log.specs.declared.entry.Entry.TheVariants.{Leave}
use Rattle.owner_machine.specs.declared.rows.Adapter.{Adapter}
use Rattle.owner_machine.specs.declared.rows.Driver.{Driver}
use Rattle.owner_machine.specs.declared.rows.Binding.TheVariants.{Unbound}
use Rattle.owner_machine.specs.declared.rows.Context.TheVariants as contexts
use Rattle.owner_machine.specs.declared.rows.Next.TheVariants as nexts
use Rattle.owner_machine.specs.State.{Owner}
use Rattle.owner_machine.specs.Machine.{rule_against, after}
use Rattle.std.specs.Prelude.{ℕ}

-- ---- before the first entry

abbrev pub new_adapter : Adapter
new_adapter = record { phase = Starting; deserialized = false; held_back = false; owes_reset = false; cancels = []; events = [] }

abbrev pub new_driver : AdapterNo → Driver
new_driver adapter = record { adapter = adapter; binding = Unbound; filter = 0; list = [] }

-- so many adapters; a driver for each of these numbers, which is its adapter's; sixteen free contexts
abbrev pub start : ℕ → List AdapterNo → Owner
start adapters drivers = record {
  packets = [];
  loans = [];
  requests = [];
  adapters = replicate adapters new_adapter;
  drivers = map new_driver drivers;
  contexts = replicate 16 contexts.Free;
  cancelsend = false;
  pnpevent = false;
  enters = 0;
  next = nexts.Free;
}

-- the handlers that a miniport registered (NdisMRegisterMiniport)
abbrev pub with_handlers : (cancelsend pnpevent : Bool) → Owner → Owner
with_handlers cancelsend pnpevent o = record o { cancelsend = cancelsend; pnpevent = pnpevent }

abbrev pub said_nothing : Owner → Owner
said_nothing o = record o { next = nexts.Free }

-- ---- a log is legal from one state, and leads to another

pub data Legal : Owner → List Entry → Owner → Type 0 where
  Ends : (o : Owner) → Legal o [] o
  Goes : (o n : Owner) (e : Entry) (log : List Entry) → rule_against o e ≡ None → Legal (after o e) log n → Legal o (e ∷ log) n
  -- the miniport registers its handlers, which no entry says
  Registers : (o n : Owner) (log : List Entry) (cancelsend pnpevent : Bool) → Legal (with_handlers cancelsend pnpevent o) log n → Legal o log n
  -- a leave that breaks a rule of another subject ends nothing: the stop behind it does
  Breaches : (o n : Owner) (context : CtxNo) (eax : ℕ) (log : List Entry) → rule_against o (Leave context eax) ≡ None → Legal (said_nothing o) log n → Legal o (Leave context eax ∷ log) n
