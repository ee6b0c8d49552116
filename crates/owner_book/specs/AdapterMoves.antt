-- What becomes of an adapter.
use Rattle.owner_machine.specs.declared.rows.Adapter.{Adapter}
use Rattle.owner_machine.specs.Adapters.{held_back_now, reset_begun, reset_ended, stopped}
use Rattle.owner_machine.specs.Handlers.{adapter_entered, adapter_left, resources, with_attributes}
use Rattle.owner_book.specs.declared.adapter_moves.AdapterMove.{AdapterMove}
use Rattle.owner_book.specs.declared.adapter_moves.AdapterMove.TheVariants.{HeldBack, ResetBegun, ResetEnded, Stopped, Entered, Left, Called, Answered}

abbrev pub moved : AdapterMove → Adapter → Adapter
moved HeldBack = held_back_now
moved ResetBegun = reset_begun
moved ResetEnded = reset_ended
moved Stopped = stopped
moved (Entered handler) = adapter_entered handler
moved (Left handler eax) = adapter_left handler eax
moved (Called import) = resources import
moved (Answered sets flags) = with_attributes sets flags
