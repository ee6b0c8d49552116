use Rattle.std.proofs.Common.{is_some, sym, ap, ◌∙◌}
use Rattle.owed_handlers.proofs.Some.{some_is, first_is_owed}
use Rattle.owed_handlers.proofs.laws.owed_laws.Goals as goal

pub returns : goal.returns
returns _ = record {
  owed = first_is_owed;
  some = λ c s x e. sym (some_is c s) ∙ ap is_some e;
  none = λ c s e. sym (some_is c s) ∙ ap is_some e;
}
