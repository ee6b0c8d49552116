use Rattle.std.proofs.Common.{◌≡◌, vec_len}
use Rattle.std.specs.Prelude.{replicate}
use Rattle.owner_machine.specs.Legal.{new_adapter}
use Rattle.owner_book.proofs.starting.new_adapters.Given as goal

abbrev pub invariant-loop-n : goal.invariant-loop-n
invariant-loop-n l = record {
  made : l.adapters.items ≡ replicate l.n new_adapter;
  count : vec_len l.adapters ≡ l.n;
}
