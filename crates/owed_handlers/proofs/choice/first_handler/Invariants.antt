use Rattle.std.proofs.Common.{◌≡◌, drop}
use Rattle.std.specs.List.{find}
use Rattle.legal_run.specs.Owed.{is_owed}
use Rattle.owed_handlers.specs.Kept.{inputs_of, state_of}
use Rattle.owed_handlers.proofs.choice.first_handler.Given as goal

abbrev pub invariant-loop-h : goal.invariant-loop-h
invariant-loop-h l =
    find (is_owed (inputs_of l.adapters) (state_of l.adapters l.book l.world) l.a.0) l.handlers
    ≡ find (is_owed (inputs_of l.adapters) (state_of l.adapters l.book l.world) l.a.0) (drop l.h-index l.handlers)
