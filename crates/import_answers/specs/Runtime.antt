-- Imports 61 and 64. (Windows DDK: KeStallExecutionProcessor, DbgPrint.)
use Rattle.std.specs.Prelude.{ℕ, ◌+◌, List, []}
use Rattle.guest_world.specs.declared.world.World.{World}
use Rattle.import_answers.specs.World.{word}
use Rattle.import_answers.specs.Outcomes.{Outcome, Replies, done}

-- ---- KeStallExecutionProcessor(microseconds): they are its cost
abbrev pub stall : World → List ℕ → Outcome
stall w words = Replies (record { eax = 0; writes = []; cost = 1 + word words 1; sent = [] }) w

-- ---- DbgPrint(format, ..)
abbrev pub debug_print : World → Outcome
debug_print w = done w
