use Rattle.std.proofs.Common.{◌≡◌, vec_len}
use Rattle.owner_book.proofs.Contexts.{swept}
use Rattle.owner_book.proofs.Adapters.{turned}
use Rattle.owner_book.proofs.adapter_moves.turn_off.Given as goal

abbrev pub invariant-loop-i : goal.invariant-loop-i
invariant-loop-i l = record {
  turned : l.adapters.items ≡ swept turned l.i l.initial.adapters.items;
  count : vec_len l.adapters ≡ vec_len l.initial.adapters;
}
